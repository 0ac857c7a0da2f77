use Rattle.std.proofs.Common.{◌+◌, ◌^◌, ◌<◌, ◌∙◌, ap, refl, sym, subst, true}
use Rattle.atomic_table.specs.declared.badge.Badge.{Badge}
use Rattle.plain_map.specs.Keys.{IsKey}
use Rattle.exchange_model.specs.Goes.{Called}
use Rattle.exchange_calls.specs.Seats.{told_by_update}
use Rattle.exchange_table.specs.declared.view.View.{View}
use Rattle.exchange_table.specs.Parties.{PartyValue}
use Rattle.exchange_table.specs.Values.{Answers, IsSame, announced_times, asked_times, party_value}
use Rattle.exchange_table.proofs.Callers.{answers_after, can_make, made_stands, plan_at, same_after}
use Rattle.exchange_table.proofs.seat.Seat.make.Goals as goal

pub run_update-token-requires-clause-can : goal.run_update-token-requires-clause-can
run_update-token-requires-clause-can c =
    let k = c.self.invariant.keeps in
    can_make c.table.inside.board.shared.key true c.self.inside.desk c.self.inside.badge.views
    c.into_seat.result.me
    c.self.invariant.stands (sym (ap (λ (b : Badge View). b.views) c.replace-badge.ensures.value) ∙
    c.into_seat.ensures.2) c.into_seat.ensures.3
    (plan_at c.self.inside.desk c.self.inside.badge.table_id c.self.inside.badge.views _ c.self.view_is _
    c.table.view_is c.table.invariant c.requires.seat)
    c.self.inside.state c.args.call.now k c.self.invariant.seat
    (subst (λ n. n < 2 ^ 62) (sym (k.time ∙ ap asked_times c.self.view_is)) c.requires.late)
    (subst (λ n. n + 1 < 2 ^ 43) (sym (k.posted ∙ ap announced_times c.self.view_is)) c.requires.few)
    c.requires.update (subst IsKey c.key.ensures c.has_words.ensures)

pub returns-clause-same : goal.returns-clause-same
returns-clause-same c =
    subst (λ (v : PartyValue). IsSame v (party_value c.self.inside.desk c.into_badge.result.table_id
    c.into_badge.result.views))
    c.self.view_is
    (same_after c.table.inside.board.shared.key true c.self.inside.desk c.self.inside.badge.views
    c.into_seat.result.me
    c.self.invariant.stands (sym (ap (λ (b : Badge View). b.views) c.replace-badge.ensures.value) ∙
    c.into_seat.ensures.2) c.into_seat.ensures.3
    (plan_at c.self.inside.desk c.self.inside.badge.table_id c.self.inside.badge.views _ c.self.view_is _
    c.table.view_is c.table.invariant c.requires.seat)
    (Called c.args.call.now) (told_by_update c.run_update-token.result.1)
    c.self.inside.badge.table_id c.into_badge.result.table_id
    (c.into_badge.ensures.0 ∙ c.run_update-token.ensures.table ∙ c.into_seat.ensures.0
    ∙ ap (λ (b : Badge View). b.table_id) c.replace-badge.ensures.value)
    c.into_badge.result.views c.run_update-token.result.0.me c.into_badge.ensures.2 c.run_update-token.ensures.rests
    c.run_update-token.ensures.answer)

pub returns-clause-answered : goal.returns-clause-answered
returns-clause-answered c =
    subst (λ (v : PartyValue). Answers (Called c.args.call.now) (told_by_update c.run_update-token.result.1) v
    (party_value c.self.inside.desk c.into_badge.result.table_id c.into_badge.result.views)) c.self.view_is
    (answers_after c.table.inside.board.shared.key true c.self.inside.desk c.self.inside.badge.views
    c.into_seat.result.me
    c.self.invariant.stands (sym (ap (λ (b : Badge View). b.views) c.replace-badge.ensures.value) ∙
    c.into_seat.ensures.2) c.into_seat.ensures.3
    (plan_at c.self.inside.desk c.self.inside.badge.table_id c.self.inside.badge.views _ c.self.view_is _
    c.table.view_is c.table.invariant c.requires.seat)
    (Called c.args.call.now) (told_by_update c.run_update-token.result.1)
    c.self.inside.badge.table_id c.into_badge.result.table_id
    (c.into_badge.ensures.0 ∙ c.run_update-token.ensures.table ∙ c.into_seat.ensures.0
    ∙ ap (λ (b : Badge View). b.table_id) c.replace-badge.ensures.value)
    c.into_badge.result.views c.run_update-token.result.0.me c.into_badge.ensures.2 c.run_update-token.ensures.rests
    c.run_update-token.ensures.answer)

pub invariant_of-self : goal.invariant_of-self
invariant_of-self c =
    made_stands c.table.inside.board.shared.key true c.self.inside.desk c.self.inside.badge.views
    c.into_seat.result.me
    c.self.invariant.stands (sym (ap (λ (b : Badge View). b.views) c.replace-badge.ensures.value) ∙
    c.into_seat.ensures.2) c.into_seat.ensures.3
    (plan_at c.self.inside.desk c.self.inside.badge.table_id c.self.inside.badge.views _ c.self.view_is _
    c.table.view_is c.table.invariant c.requires.seat)
    c.self.inside.badge.table_id c.into_badge.result.table_id
    (c.into_badge.ensures.0 ∙ c.run_update-token.ensures.table ∙ c.into_seat.ensures.0
    ∙ ap (λ (b : Badge View). b.table_id) c.replace-badge.ensures.value)
    c.into_badge.result.views c.run_update-token.result.0.me c.into_badge.ensures.2 c.run_update-token.ensures.rests
    c.run_update-token.ensures.answer.goes_on refl
    c.self.invariant.seat c.run_update-token.new.state c.run_update-token.ensures.keeps
