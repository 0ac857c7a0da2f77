use Rattle.std.proofs.Common.{◌≡◌, ◌+◌, ◌-◌, true, false, inl, inr, get_or, sym, ap, ◌∙◌, subst, arith}
use Rattle.std.proofs.lemmas.List.{get_or_default}
use Rattle.std.proofs.lemmas.Bool.{cases_lt}
use Rattle.plain_map.specs.declared.keys.Pair.{Pair}
use Rattle.plain_map.specs.Keys.{no_pair}
use Rattle.bucket_states.specs.Items.{same_key}
use Rattle.flowdir_c.proofs.Apart.{apart_of_distinct, distinct_in_order}
use Rattle.flowdir_c.proofs.opening.are_apart.Goals as goal

-- pairs in order of which no neighbours have one key have distinct keys
pub returns-clause-apart : goal.returns-clause-apart
returns-clause-apart c = λ is. distinct_in_order c.args.pairs.now c.requires
    (λ k d h. c.loop-i.invariant k d (omega (arith, h, c.loop-i-test.false, c.loop-i.auto.i-end)))

-- of distinct keys no neighbours are one
pub returns-then-eq-clause-twice : goal.returns-then-eq-clause-twice
returns-then-eq-clause-twice c = λ is distinct.
    let xs = c.args.pairs.now in
    let i = c.loop-i.i in
    let next : (i - 1) + 1 ≡ i = omega (arith, c.loop-i.auto.i) in
    let one : same_key (get_or xs (i - 1) no_pair).key (get_or xs i no_pair).key ≡ true = sym c.if-eq.ensures in
    let other : same_key (get_or xs (i - 1) no_pair).key (get_or xs i no_pair).key ≡ false =
    subst (λ n. same_key (get_or xs (i - 1) no_pair).key (get_or xs n no_pair).key ≡ false) next
    (apart_of_distinct xs distinct (i - 1) no_pair (omega (arith, c.loop-i.auto.i, c.loop-i-test.true))) in
    cc

-- the pair that was reached has another key than the one before
pub loop-i-preserved : goal.loop-i-preserved
loop-i-preserved c = λ k d h.
    let xs = c.args.pairs.now in
    let i = c.loop-i.i in
    elim (cases_lt (k + 1) i) [
      | inl early ↦ c.loop-i.invariant k d early
      | inr late ↦
          let here : i ≡ k + 1 = omega (arith, late, h) in
          let before : i - 1 ≡ k = omega (arith, here) in
          let first : get_or xs (i - 1) no_pair ≡ get_or xs k d = ap (λ n. get_or xs n no_pair) before
          ∙ get_or_default xs k no_pair d (omega (arith, here, c.loop-i-test.true)) in
          let second : get_or xs i no_pair ≡ get_or xs (k + 1) d = ap (λ n. get_or xs n no_pair) here
          ∙ get_or_default xs (k + 1) no_pair d (omega (arith, here, c.loop-i-test.true)) in
          ap (λ (u : Pair × Pair). same_key u.0.key u.1.key) (λ j. (sym first j, sym second j)) ∙ sym c.if-eq.ensures
    ]
