use Rattle.std.proofs.Common.{ap, ◌∙◌, sym, subst}
use Rattle.exchange_model.specs.Plans.{IsPlan}
use Rattle.exchange_table.specs.declared.rule.Opening.{Opening}
use Rattle.exchange_table.specs.Rule.{plain}
use Rattle.exchange_table.specs.Values.{TableValue}
use Rattle.exchange_table.proofs.Opens.{enters, some_words}
use Rattle.exchange_table.proofs.Seated.{plan_same, reader_plan, reader_stands}
use Rattle.exchange_table.proofs.table.LastingTable.reader.Goals as goal

pub load_new_seat-token-requires : goal.load_new_seat-token-requires
load_new_seat-token-requires c = (
  some_words (plain c.self.inside.opening) c.self.inside.board.shared.table_id.words c.self.invariant.words,
  enters (plain c.self.inside.board.shared.key)
      (subst (λ (o : Opening). IsPlan (plain o)) (sym c.self.invariant.key) c.self.invariant.plan) _ _,
)

pub invariant_of-result : goal.invariant_of-result
invariant_of-result c =
    let k = c.self.invariant.key in
    reader_stands (plain c.self.inside.board.shared.key)
    (subst (λ (o : Opening). IsPlan (plain o)) (sym k) c.self.invariant.plan) c.new.result c.into_badge.result.views
    c.load_new_seat-token.result.1.me c.into_badge.ensures.2 c.load_new_seat-token.ensures.2
    (plan_same c.new.result c.self.inside.board.shared.key
    (c.new.ensures.sizes ∙ ap (λ (o : Opening). o.sizes) (sym k))
    (c.new.ensures.hashing ∙ ap (λ (o : Opening). o.hashing) (sym k))) c.new.ensures.holder

pub returns : goal.returns
returns c = record {
  table = c.into_badge.ensures.0 ∙ c.load_new_seat-token.ensures.0
      ∙ ap (λ (t : TableValue). t.table_id) c.self.view_is;
  plan = reader_plan (plain c.self.inside.board.shared.key)
      (subst (λ (o : Opening). IsPlan (plain o)) (sym c.self.invariant.key) c.self.invariant.plan) c.new.result
      c.into_badge.result.views
      c.load_new_seat-token.result.1.me c.into_badge.ensures.2 c.load_new_seat-token.ensures.2
      ∙ ap (λ (t : TableValue). t.plan) c.self.view_is;
}
