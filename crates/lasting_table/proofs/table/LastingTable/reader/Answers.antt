use Rattle.std.proofs.Common.{ap, ◌∙◌, sym, arith}
use Rattle.lasting_table.specs.declared.rule.Opening.{Opening}
use Rattle.lasting_table.specs.Rule.{plain}
use Rattle.lasting_table.specs.Values.{TableValue}
use Rattle.lasting_table.proofs.Opens.{enters}
use Rattle.lasting_table.proofs.Seated.{reader_plan, reader_stands}
use Rattle.lasting_table.proofs.table.LastingTable.reader.Goals as goal

pub load_new_seat-token-requires : goal.load_new_seat-token-requires
load_new_seat-token-requires c = (
  (let o = c.self.inside.opening in
      omega (arith, c.self.invariant.words, o.settings.seats_in_range.0)),
  enters (plain c.self.inside.board.shared.key) _ _,
)

pub invariant_of-result : goal.invariant_of-result
invariant_of-result c =
    let k = c.self.invariant.key in
    reader_stands (plain c.self.inside.board.shared.key) c.new.result c.into_badge.result.views
    c.load_new_seat-token.result.1.me c.into_badge.ensures.2 c.load_new_seat-token.ensures.2
    (c.new.ensures.settings ∙ ap (λ (o : Opening). o.settings) (sym k))
    (c.new.ensures.hashing ∙ ap (λ (o : Opening). o.hashing) (sym k))
    (c.new.ensures.rows ∙ ap (λ (o : Opening). o.rows) (sym k)) c.new.ensures.seat

pub returns : goal.returns
returns c = record {
  table = c.into_badge.ensures.0 ∙ c.load_new_seat-token.ensures.0
      ∙ ap (λ (t : TableValue). t.table_id) c.self.view_is;
  plan = reader_plan (plain c.self.inside.board.shared.key) c.new.result c.into_badge.result.views
      c.load_new_seat-token.result.1.me c.into_badge.ensures.2 c.load_new_seat-token.ensures.2
      ∙ ap (λ (t : TableValue). t.plan) c.self.view_is;
}
