-- One row more is free.
use Rattle.std.proofs.Common.{◌≡◌, ℕ, suc, ◌+◌, ◌∙◌, List, [], ◌∷◌, ◌++◌, length, sym, ap, arith}
use Rattle.std.specs.List.{range_with_len}
use Rattle.std.proofs.lemmas.List.FromFn.{length-range_with_len}
use Rattle.exchange_calls.proofs.KeepLemmas.{range_more}
use Rattle.exchange_calls.proofs.own_rows.OwnRows.new.Goals as goal

pub push_reserved-requires : goal.push_reserved-requires
push_reserved-requires c =
    let long = ap length c.loop-i.invariant.rows ∙ length-range_with_len c.args.first c.loop-i.i in
    omega (arith, long, c.loop-i.invariant.room, c.loop-i-test.true, c.loop-i.free.ok)

pub loop-i-preserved : goal.loop-i-preserved
loop-i-preserved c = record {
  room = c.push_reserved.ensures.capacity ∙ c.loop-i.invariant.room;
  rows = c.push_reserved.ensures.items
      ∙ ap (λ (xs : List ℕ). xs ++ (c.args.first + c.loop-i.i) ∷ []) c.loop-i.invariant.rows
      ∙ sym (range_more c.args.first c.loop-i.i)
      ∙ (let e : suc c.loop-i.i ≡ c.loop-i.i + 1 = omega arith in ap (range_with_len c.args.first) e);
}
