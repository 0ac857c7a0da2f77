use Rattle.std.proofs.Common.{◌≡◌, ◌∙◌, ℕ, ◌^◌, ◌<◌, List, length, sym, ap, subst, arith}
use Rattle.std.specs.Prelude.{MatchBool}
use Rattle.std.specs.FinMap.{empty}
use Rattle.std.proofs.lemmas.List.{get_or_read}
use Rattle.plain_map.specs.declared.keys.Pair.{Pair}
use Rattle.plain_map.specs.PlainObject.{Sessions, class_of, pairs_of}
use Rattle.plain_map.proofs.SessionLemmas.{pairs_are_ordered}
use Rattle.class_map.specs.Pairs.{IsIn}
use Rattle.class_map.specs.Rows.{Holds, row_at}
use Rattle.class_map.proofs.PairLemmas.{row_has}
use Rattle.class_map.proofs.rows.ClassMap.has.Goals as goal

pub returns : goal.returns
returns c = λ sessions holds.
    (let rows : List Sessions = c.self.inside.rows.items in
    let pair : Pair = c.args.pair.now in
    let class : ℕ = class_of c.args.rules.now pair.key in
    let at : row_at rows class ≡ c.index.result.now =
    ap (row_at rows) (sym c.class_of-class.ensures.value)
    ∙ sym (get_or_read rows _ _ (omega (arith, ap length c.self.view_is)) c.index.ensures empty) in
    let has : MatchBool c.is_in.result (IsIn (pairs_of c.index.result.now) pair)
    (IsIn (pairs_of c.index.result.now) pair → ⊥) =
    (rw c.pairs.ensures at c.is_in.ensures) (pairs_are_ordered c.index.result.now) in
    row_has rows c.args.rules.now sessions pair c.is_in.result
    (subst (λ (rs : List Sessions). Holds rs c.args.rules.now sessions) (sym c.self.view_is) holds)
    (subst (λ (n : ℕ). n < 2 ^ c.args.rules.now.depth) c.class_of-class.ensures.value c.class_of-class.ensures.within)
    (subst (λ (m : Sessions). MatchBool c.is_in.result (IsIn (pairs_of m) pair) (IsIn (pairs_of m) pair → ⊥))
    (sym at) has))
