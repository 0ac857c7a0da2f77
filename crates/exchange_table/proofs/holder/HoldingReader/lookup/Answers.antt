use Rattle.std.proofs.Common.{◌∙◌, ap, refl, sym, subst, true}
use Rattle.atomic_table.specs.declared.badge.Badge.{Badge}
use Rattle.plain_map.specs.declared.calls.Call.TheVariants.{Lookup}
use Rattle.exchange_model.specs.Goes.{Called, Replied}
use Rattle.exchange_table.specs.declared.view.View.{View}
use Rattle.exchange_table.specs.Parties.{PartyValue}
use Rattle.exchange_table.specs.Values.{Answers, IsSame, party_value}
use Rattle.exchange_table.proofs.Callers.{answers_after, holder_stands, plan_at, same_after}
use Rattle.exchange_table.proofs.holder.HoldingReader.lookup.Goals as goal

pub returns-clause-same : goal.returns-clause-same
returns-clause-same c =
    subst (λ (v : PartyValue). IsSame v (party_value c.self.inside.desk c.into_badge.result.table_id
    c.into_badge.result.views))
    c.self.view_is
    (same_after c.table.inside.board.shared.key true c.self.inside.desk c.self.inside.badge.views c.into_seat.result.me
    c.self.invariant.stands (sym (ap (λ (b : Badge View). b.views) c.replace-badge.ensures.value) ∙
    c.into_seat.ensures.2) c.into_seat.ensures.3
    (plan_at c.self.inside.desk c.self.inside.badge.table_id c.self.inside.badge.views _ c.self.view_is _
    c.table.view_is c.table.invariant c.requires.reader)
    (Called (Lookup c.args.key.now)) (Replied c.run_lookup-token.result.1) c.self.inside.badge.table_id
    c.into_badge.result.table_id
    (c.into_badge.ensures.0 ∙ c.run_lookup-token.ensures.table ∙ c.into_seat.ensures.0
    ∙ ap (λ (b : Badge View). b.table_id) c.replace-badge.ensures.value)
    c.into_badge.result.views c.run_lookup-token.result.0.me c.into_badge.ensures.2 c.run_lookup-token.ensures.rests
    c.run_lookup-token.ensures.answer)

pub returns-clause-answered : goal.returns-clause-answered
returns-clause-answered c =
    subst (λ (v : PartyValue). Answers (Called (Lookup c.args.key.now)) (Replied c.run_lookup-token.result.1) v
    (party_value c.self.inside.desk c.into_badge.result.table_id c.into_badge.result.views)) c.self.view_is
    (answers_after c.table.inside.board.shared.key true c.self.inside.desk c.self.inside.badge.views
    c.into_seat.result.me
    c.self.invariant.stands (sym (ap (λ (b : Badge View). b.views) c.replace-badge.ensures.value) ∙
    c.into_seat.ensures.2) c.into_seat.ensures.3
    (plan_at c.self.inside.desk c.self.inside.badge.table_id c.self.inside.badge.views _ c.self.view_is _
    c.table.view_is c.table.invariant c.requires.reader)
    (Called (Lookup c.args.key.now)) (Replied c.run_lookup-token.result.1) c.self.inside.badge.table_id
    c.into_badge.result.table_id
    (c.into_badge.ensures.0 ∙ c.run_lookup-token.ensures.table ∙ c.into_seat.ensures.0
    ∙ ap (λ (b : Badge View). b.table_id) c.replace-badge.ensures.value)
    c.into_badge.result.views c.run_lookup-token.result.0.me c.into_badge.ensures.2 c.run_lookup-token.ensures.rests
    c.run_lookup-token.ensures.answer)

pub invariant_of-self : goal.invariant_of-self
invariant_of-self c =
    holder_stands c.table.inside.board.shared.key true c.self.inside.desk c.self.inside.badge.views
    c.into_seat.result.me
    c.self.invariant.stands (sym (ap (λ (b : Badge View). b.views) c.replace-badge.ensures.value) ∙
    c.into_seat.ensures.2) c.into_seat.ensures.3
    (plan_at c.self.inside.desk c.self.inside.badge.table_id c.self.inside.badge.views _ c.self.view_is _
    c.table.view_is c.table.invariant c.requires.reader)
    refl (Called (Lookup c.args.key.now)) (Replied c.run_lookup-token.result.1)
    c.self.inside.badge.table_id c.into_badge.result.table_id
    (c.into_badge.ensures.0 ∙ c.run_lookup-token.ensures.table ∙ c.into_seat.ensures.0
    ∙ ap (λ (b : Badge View). b.table_id) c.replace-badge.ensures.value)
    c.into_badge.result.views c.run_lookup-token.result.0.me c.into_badge.ensures.2 c.run_lookup-token.ensures.rests
    c.run_lookup-token.ensures.answer c.run_lookup-token.new.time c.run_lookup-token.ensures.going
