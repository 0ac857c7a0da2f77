use Rattle.std.proofs.Common.{◌∙◌, ap, sym}
use Rattle.atomic_table.specs.declared.badge.Badge.{Badge}
use Rattle.exchange_table.specs.declared.view.View.{View}
use Rattle.exchange_table.specs.Rule.{M}
use Rattle.exchange_table.proofs.Gathering.{have_gathered, stands_gathered}
use Rattle.exchange_table.proofs.meeting.meet_at.Goals as goal

pub into_badge-requires : goal.into_badge-requires
into_badge-requires c = ap (λ (m : M). m.1) c.gather.ensures.joined.meet.is ∙ c.into_seat-token.ensures.3

pub invariant_of-seat : goal.invariant_of-seat
invariant_of-seat c =
    stands_gathered c.seat.inside.desk c.seat.inside.badge.views c.seat.invariant.stands c.into_seat-token.result.me
    (sym (ap (λ (b : Badge View). b.views) c.replace-badge.ensures.value) ∙ c.into_seat-token.ensures.2)
    c.gather.new.token.me c.args.rest.now c.gather.new.seats c.gather.ensures.joined c.into_badge.result.views
    c.into_badge.ensures.2 c.seat.invariant.seat c.seat.inside.state c.seat.invariant.keeps

pub returns : goal.returns
returns c = record {
  met = have_gathered c.seat.inside.desk c.seat.inside.badge.views c.seat.invariant.stands
      c.into_seat-token.result.me
      (sym (ap (λ (b : Badge View). b.views) c.replace-badge.ensures.value) ∙ c.into_seat-token.ensures.2)
      c.gather.new.token.me c.args.rest.now c.gather.new.seats c.gather.ensures.joined c.into_badge.result.views
      c.into_badge.ensures.2 c.seat.inside.badge.table_id c.into_badge.result.table_id
      (c.into_badge.ensures.0 ∙ c.gather.ensures.table ∙ c.into_seat-token.ensures.0
      ∙ ap (λ (b : Badge View). b.table_id) c.replace-badge.ensures.value)
      c.args.seat.now c.seat.view_is;
}
