use Rattle.std.proofs.Common.{◌≡◌, ◌∙◌, arith, ap, sym, subst}
use Rattle.std.specs.Prelude.{All}
use Rattle.std.proofs.lemmas.List.Elements.{All-head, All-tail}
use Rattle.atomic_table.specs.declared.badge.Badge.{Badge}
use Rattle.exchange_table.specs.declared.view.View.{View}
use Rattle.exchange_table.specs.Parties.{PartyValue}
use Rattle.exchange_table.specs.Rule.{plain}
use Rattle.exchange_table.proofs.Joining.{all_meet}
use Rattle.exchange_table.proofs.Gathering.{have_joined, joins_here, splits_here, stands_joined}
use Rattle.exchange_table.proofs.meeting.+gather.Goals as goal

pub gather-gather_with-requires : goal.gather-gather_with-requires
gather-gather_with-requires t c =
    let all = subst (All (λ (p : PartyValue). p.table_id ≡ c.args.words.now.table_id)) c.in-Some.ensures.cases.0
    c.requires.seats in (
      omega (arith, c.decreases, c.in-Some.ensures.cases.1),
      (
        c.requires.table,
        (
          c.requires.some,
          (
            All-head (λ (p : PartyValue). p.table_id ≡ c.args.words.now.table_id) c.in-Some.seat.now c.in-Some.rest.now
                all,
            All-tail (λ (p : PartyValue). p.table_id ≡ c.args.words.now.table_id) c.in-Some.seat.now c.in-Some.rest.now
                all,
          ),
        ),
      ),
    )

pub gather-load-requires : goal.gather-load-requires
gather-load-requires t c = (
  c.requires.table,
  c.requires.some,
  all_meet (plain c.args.words.now.key) c.args.words.now.table_id.slots c.args.token.now.id 0 c.args.token.now.me,
)

pub gather_with-join_seat-requires : goal.gather_with-join_seat-requires
gather_with-join_seat-requires t c = (
  c.requires.table,
  c.into_seat.ensures.0 ∙ ap (λ (b : Badge View). b.table_id) c.replace-badge.ensures.value
      ∙ ap (λ (p : PartyValue). p.table_id) c.seat.view_is ∙ c.requires.seat,
  c.into_seat.ensures.3,
  c.requires.some,
  joins_here c.seat.inside.desk c.seat.inside.badge.views c.seat.invariant.stands c.into_seat.result.me
      (sym (ap (λ (b : Badge View). b.views) c.replace-badge.ensures.value) ∙ c.into_seat.ensures.2)
      (plain c.args.words.now.key) c.args.token.now.id c.into_seat.result.id c.args.token.now.me.0,
)

pub gather_with-split_seat-own-requires : goal.gather_with-split_seat-own-requires
gather_with-split_seat-own-requires t c = (
  c.gather.ensures.table ∙ c.join_seat.ensures.0 ∙ c.requires.table,
  c.requires.some,
  splits_here c.seat.inside.desk c.seat.inside.badge.views c.seat.invariant.stands c.into_seat.result.me
      (sym (ap (λ (b : Badge View). b.views) c.replace-badge.ensures.value) ∙ c.into_seat.ensures.2)
      c.args.token.now.me c.join_seat.new.seat.me c.gather.new.token.me c.join_seat.ensures.2 c.args.rest.now
      c.gather.new.seats c.gather.ensures.joined (plain c.args.words.now.key) c.gather.new.token.id,
)

pub gather_with-invariant_of-seat : goal.gather_with-invariant_of-seat
gather_with-invariant_of-seat t c =
    stands_joined c.seat.inside.desk c.seat.inside.badge.views c.seat.invariant.stands c.into_seat.result.me
    (sym (ap (λ (b : Badge View). b.views) c.replace-badge.ensures.value) ∙ c.into_seat.ensures.2)
    c.args.token.now.me c.join_seat.new.seat.me c.gather.new.token.me c.join_seat.ensures.2 c.args.rest.now
    c.gather.new.seats c.gather.ensures.joined c.split_seat-own.new.seat.me c.split_seat-own.result.me
    c.split_seat-own.ensures.2 c.split_seat-own.ensures.4 c.into_badge.result.views c.into_badge.ensures.2
    c.seat.invariant.seat c.seat.inside.state c.seat.invariant.keeps

pub gather_with-returns-clause-joined : goal.gather_with-returns-clause-joined
gather_with-returns-clause-joined t c =
    have_joined c.seat.inside.desk c.seat.inside.badge.views c.seat.invariant.stands c.into_seat.result.me
    (sym (ap (λ (b : Badge View). b.views) c.replace-badge.ensures.value) ∙ c.into_seat.ensures.2)
    c.args.token.now.me c.join_seat.new.seat.me c.gather.new.token.me c.join_seat.ensures.2 c.args.rest.now
    c.gather.new.seats c.gather.ensures.joined c.split_seat-own.new.seat.me c.split_seat-own.result.me
    c.split_seat-own.ensures.2 c.split_seat-own.ensures.4 c.into_badge.result.views c.into_badge.ensures.2
    c.seat.inside.badge.table_id c.into_badge.result.table_id
    (c.into_badge.ensures.0 ∙ c.split_seat-own.ensures.3 ∙ c.gather.ensures.table ∙ c.join_seat.ensures.0
    ∙ c.requires.table ∙ sym c.requires.seat ∙ sym (ap (λ (p : PartyValue). p.table_id) c.seat.view_is))
    c.args.seat.now c.seat.view_is
