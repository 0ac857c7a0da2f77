use Rattle.std.proofs.Common.{◌∙◌, ap, sym, subst}
use Rattle.plain_map.specs.declared.calls.Call.TheVariants.{Lookup}
use Rattle.atomic_table.specs.declared.badge.Badge.{Badge}
use Rattle.shared_table.specs.declared.view.View.{View}
use Rattle.shared_table.specs.SeatValues.{SeatValue}
use Rattle.shared_table.specs.Values.{Answers, IsSame}
use Rattle.shared_table.specs.Insides.{seat_value}
use Rattle.shared_table.proofs.Seats.{answers_after, same_after}
use Rattle.shared_table.proofs.seat.Seat.lookup.Goals as goal

pub returns-clause-same : goal.returns-clause-same
returns-clause-same c =
    let s = c.self.inside in
    subst (λ (v : SeatValue). IsSame v (seat_value s.desk c.into_badge.result.table_id c.into_badge.result.views))
    c.self.view_is
    (same_after c.args.packet (Lookup c.args.key.now) c.run_lookup-hand.result.1 _
    c.directory.inside.table.shared.key s.desk
    s.badge.table_id c.into_badge.result.table_id
    (c.into_badge.ensures.0 ∙ c.run_lookup-hand.ensures.table ∙ c.into_seat.ensures.0
    ∙ ap (λ (b : Badge View). b.table_id) c.replace-badge.ensures.value)
    s.badge.views c.into_seat.result.me (sym (ap (λ (b : Badge View). b.views) c.replace-badge.ensures.value)
    ∙ c.into_seat.ensures.2) c.self.invariant.one
    c.into_badge.result.views c.run_lookup-hand.result.0.token.me c.into_badge.ensures.2 c.run_lookup-hand.ensures.one
    c.run_lookup-hand.ensures.ended)

pub returns-clause-answered : goal.returns-clause-answered
returns-clause-answered c =
    let s = c.self.inside in
    subst (λ (v : SeatValue). Answers c.args.packet (Lookup c.args.key.now) v
    (seat_value s.desk c.into_badge.result.table_id c.into_badge.result.views) c.run_lookup-hand.result.1)
    c.self.view_is
    (answers_after c.args.packet (Lookup c.args.key.now) c.run_lookup-hand.result.1 _
    c.directory.inside.table.shared.key s.desk
    s.badge.table_id c.into_badge.result.table_id
    (c.into_badge.ensures.0 ∙ c.run_lookup-hand.ensures.table ∙ c.into_seat.ensures.0
    ∙ ap (λ (b : Badge View). b.table_id) c.replace-badge.ensures.value)
    s.badge.views c.into_seat.result.me (sym (ap (λ (b : Badge View). b.views) c.replace-badge.ensures.value)
    ∙ c.into_seat.ensures.2) c.self.invariant.one
    c.into_badge.result.views c.run_lookup-hand.result.0.token.me c.into_badge.ensures.2 c.run_lookup-hand.ensures.one
    c.run_lookup-hand.ensures.ended)
