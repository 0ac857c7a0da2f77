use Rattle.std.proofs.Common.{◌≤◌, ◌<◌, ◌^◌, ◌∙◌, ap, refl, sym, subst, true}
use Rattle.atomic_table.specs.declared.badge.Badge.{Badge}
use Rattle.lasting_model.specs.Plans.{MOST_UPDATES}
use Rattle.lasting_model.specs.Goes.{Called, Replied}
use Rattle.lasting_table.specs.declared.view.View.{View}
use Rattle.lasting_table.specs.Parties.{PartyValue}
use Rattle.lasting_table.specs.Values.{Answers, IsSame, answered_updates, asked_times, party_value}
use Rattle.lasting_table.proofs.Callers.{answers_after, made_same, made_stands, plan_at, waits_same}
use Rattle.lasting_table.proofs.seat.Seat.update.Goals as goal

pub returns-clause-same : goal.returns-clause-same
returns-clause-same c =
    subst (λ (v : PartyValue). IsSame v (party_value c.self.inside.desk c.into_badge.result.table_id
    c.into_badge.result.views))
    c.self.view_is
    (made_same c.table.inside.board.shared.key true c.self.inside.desk c.self.inside.badge.views c.into_seat.result.me
    c.self.invariant.stands (sym (ap (λ (b : Badge View). b.views) c.replace-badge.ensures.value) ∙
    c.into_seat.ensures.2) c.into_seat.ensures.3
    (plan_at c.self.inside.desk c.self.inside.badge.table_id c.self.inside.badge.views _ c.self.view_is _
    c.table.view_is c.table.invariant c.requires.seat)
    c.self.inside.badge.table_id c.into_badge.result.table_id
    (c.into_badge.ensures.0 ∙ c.run_update-token.ensures.table ∙ c.into_seat.ensures.0
    ∙ ap (λ (b : Badge View). b.table_id) c.replace-badge.ensures.value)
    c.into_badge.result.views c.run_update-token.result.0.me c.into_badge.ensures.2 c.run_update-token.ensures.rests
    c.run_update-token.ensures.goes_on)

pub returns-clause-answered : goal.returns-clause-answered
returns-clause-answered c = λ reply e.
    subst (λ (v : PartyValue). Answers (Called c.args.call.now) (Replied reply) v
    (party_value c.self.inside.desk c.into_badge.result.table_id c.into_badge.result.views)) c.self.view_is
    (answers_after c.table.inside.board.shared.key true c.self.inside.desk c.self.inside.badge.views
    c.into_seat.result.me
    c.self.invariant.stands (sym (ap (λ (b : Badge View). b.views) c.replace-badge.ensures.value) ∙
    c.into_seat.ensures.2) c.into_seat.ensures.3
    (plan_at c.self.inside.desk c.self.inside.badge.table_id c.self.inside.badge.views _ c.self.view_is _
    c.table.view_is c.table.invariant c.requires.seat)
    (Called c.args.call.now) (Replied reply)
    c.self.inside.badge.table_id c.into_badge.result.table_id
    (c.into_badge.ensures.0 ∙ c.run_update-token.ensures.table ∙ c.into_seat.ensures.0
    ∙ ap (λ (b : Badge View). b.table_id) c.replace-badge.ensures.value)
    c.into_badge.result.views c.run_update-token.result.0.me c.into_badge.ensures.2 c.run_update-token.ensures.rests
    (c.run_update-token.ensures.answer reply e))

pub returns-clause-waits : goal.returns-clause-waits
returns-clause-waits c = λ spent e.
    waits_same c.table.inside.board.shared.key true c.self.inside.desk c.self.inside.badge.views c.into_seat.result.me
    c.self.invariant.stands (sym (ap (λ (b : Badge View). b.views) c.replace-badge.ensures.value) ∙
    c.into_seat.ensures.2) c.into_seat.ensures.3
    (plan_at c.self.inside.desk c.self.inside.badge.table_id c.self.inside.badge.views _ c.self.view_is _
    c.table.view_is c.table.invariant c.requires.seat)
    c.self.inside.badge.table_id c.into_badge.result.table_id
    (c.into_badge.ensures.0 ∙ c.run_update-token.ensures.table ∙ c.into_seat.ensures.0
    ∙ ap (λ (b : Badge View). b.table_id) c.replace-badge.ensures.value)
    c.into_badge.result.views c.run_update-token.result.0.me c.into_badge.ensures.2 c.run_update-token.ensures.rests
    c.run_update-token.ensures.goes_on (c.run_update-token.ensures.waits spent e) ∙ c.self.view_is

pub invariant_of-self : goal.invariant_of-self
invariant_of-self c =
    made_stands c.table.inside.board.shared.key true c.self.inside.desk c.self.inside.badge.views c.into_seat.result.me
    c.self.invariant.stands (sym (ap (λ (b : Badge View). b.views) c.replace-badge.ensures.value) ∙
    c.into_seat.ensures.2) c.into_seat.ensures.3
    (plan_at c.self.inside.desk c.self.inside.badge.table_id c.self.inside.badge.views _ c.self.view_is _
    c.table.view_is c.table.invariant c.requires.seat)
    c.self.inside.badge.table_id c.into_badge.result.table_id
    (c.into_badge.ensures.0 ∙ c.run_update-token.ensures.table ∙ c.into_seat.ensures.0
    ∙ ap (λ (b : Badge View). b.table_id) c.replace-badge.ensures.value)
    c.into_badge.result.views c.run_update-token.result.0.me c.into_badge.ensures.2 c.run_update-token.ensures.rests
    c.run_update-token.ensures.goes_on refl
    c.run_update-token.new.state c.run_update-token.ensures.keeps

pub returns-clause-updates : goal.returns-clause-updates
returns-clause-updates c =
    let same = c.self.invariant.keeps.answered ∙ ap answered_updates c.self.view_is in (
      (λ e. subst (λ n. MOST_UPDATES ≤ n) same (c.run_update-token.ensures.updates.0 e)),
      λ k. c.run_update-token.ensures.updates.1 (subst (λ n. MOST_UPDATES ≤ n) (sym same) k),
    )

pub returns-clause-asked : goal.returns-clause-asked
returns-clause-asked c =
    let same = c.self.invariant.keeps.answered ∙ ap answered_updates c.self.view_is in
    let time = c.self.invariant.keeps.time ∙ ap asked_times c.self.view_is in (
      (λ e. (
        subst (λ n. n < MOST_UPDATES) same (c.run_update-token.ensures.asked.0 e).0,
        subst (λ n. 2 ^ 62 ≤ n) time (c.run_update-token.ensures.asked.0 e).1,
      )),
      λ k. c.run_update-token.ensures.asked.1 (
        subst (λ n. n < MOST_UPDATES) (sym same) k.0,
        subst (λ n. 2 ^ 62 ≤ n) (sym time) k.1,
      ),
    )
