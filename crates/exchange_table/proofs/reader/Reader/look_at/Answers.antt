use Rattle.std.proofs.Common.{◌∙◌, ap, sym, subst, false}
use Rattle.atomic_table.specs.declared.badge.Badge.{Badge}
use Rattle.exchange_model.specs.Goes.{Copied}
use Rattle.exchange_table.specs.declared.view.View.{View}
use Rattle.exchange_table.specs.Parties.{PartyValue}
use Rattle.exchange_table.specs.Values.{Answers, IsSame, party_value, told_by_look}
use Rattle.exchange_table.proofs.Callers.{answers_after, plan_at, same_after, stands_after}
use Rattle.exchange_table.proofs.reader.Reader.look_at.Goals as goal

pub returns-clause-same : goal.returns-clause-same
returns-clause-same c =
    subst (λ (v : PartyValue). IsSame v (party_value c.self.inside.desk c.into_badge.result.table_id
    c.into_badge.result.views))
    c.self.view_is
    (same_after c.table.inside.board.shared.key false c.self.inside.desk c.self.inside.badge.views c.into_seat.result.me
    c.self.invariant (sym (ap (λ (b : Badge View). b.views) c.replace-badge.ensures.value) ∙ c.into_seat.ensures.2)
    c.into_seat.ensures.3
    (plan_at c.self.inside.desk c.self.inside.badge.table_id c.self.inside.badge.views _ c.self.view_is _
    c.table.view_is c.table.invariant c.requires.reader)
    (Copied c.args.bucket) (told_by_look c.run_look-token.result.1 c.run_look-token.new.out)
    c.self.inside.badge.table_id c.into_badge.result.table_id
    (c.into_badge.ensures.0 ∙ c.run_look-token.ensures.table ∙ c.into_seat.ensures.0
    ∙ ap (λ (b : Badge View). b.table_id) c.replace-badge.ensures.value)
    c.into_badge.result.views c.run_look-token.result.0.me c.into_badge.ensures.2 c.run_look-token.ensures.rests
    c.run_look-token.ensures.answer)

pub returns-clause-answered : goal.returns-clause-answered
returns-clause-answered c =
    subst (λ (v : PartyValue). Answers (Copied c.args.bucket) (told_by_look c.run_look-token.result.1
    c.run_look-token.new.out) v
    (party_value c.self.inside.desk c.into_badge.result.table_id c.into_badge.result.views)) c.self.view_is
    (answers_after c.table.inside.board.shared.key false c.self.inside.desk c.self.inside.badge.views
    c.into_seat.result.me
    c.self.invariant (sym (ap (λ (b : Badge View). b.views) c.replace-badge.ensures.value) ∙ c.into_seat.ensures.2)
    c.into_seat.ensures.3
    (plan_at c.self.inside.desk c.self.inside.badge.table_id c.self.inside.badge.views _ c.self.view_is _
    c.table.view_is c.table.invariant c.requires.reader)
    (Copied c.args.bucket) (told_by_look c.run_look-token.result.1 c.run_look-token.new.out)
    c.self.inside.badge.table_id c.into_badge.result.table_id
    (c.into_badge.ensures.0 ∙ c.run_look-token.ensures.table ∙ c.into_seat.ensures.0
    ∙ ap (λ (b : Badge View). b.table_id) c.replace-badge.ensures.value)
    c.into_badge.result.views c.run_look-token.result.0.me c.into_badge.ensures.2 c.run_look-token.ensures.rests
    c.run_look-token.ensures.answer)

pub invariant_of-self : goal.invariant_of-self
invariant_of-self c =
    stands_after c.table.inside.board.shared.key false c.self.inside.desk c.self.inside.badge.views
    c.into_seat.result.me
    c.self.invariant (sym (ap (λ (b : Badge View). b.views) c.replace-badge.ensures.value) ∙ c.into_seat.ensures.2)
    c.into_seat.ensures.3
    (plan_at c.self.inside.desk c.self.inside.badge.table_id c.self.inside.badge.views _ c.self.view_is _
    c.table.view_is c.table.invariant c.requires.reader)
    (Copied c.args.bucket) (told_by_look c.run_look-token.result.1 c.run_look-token.new.out)
    c.self.inside.badge.table_id c.into_badge.result.table_id
    (c.into_badge.ensures.0 ∙ c.run_look-token.ensures.table ∙ c.into_seat.ensures.0
    ∙ ap (λ (b : Badge View). b.table_id) c.replace-badge.ensures.value)
    c.into_badge.result.views c.run_look-token.result.0.me c.into_badge.ensures.2 c.run_look-token.ensures.rests
    c.run_look-token.ensures.answer
