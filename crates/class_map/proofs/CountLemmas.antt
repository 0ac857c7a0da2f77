-- How many keys a class has, after one pair more and after one pair less.
use Rattle.std.proofs.Common.{◌≡◌, ℕ, zero, suc, refl, ◌+◌, ◌-◌, ◌^◌, ◌<◌, cond, List, [], ◌∷◌, ◌++◌, length, get_or, set, take, sym, ap, subst, ◌∙◌, arith}
use Rattle.std.specs.Prelude.{◌==◌}
use Rattle.std.specs.List.{insert, remove}
use Rattle.std.proofs.lemmas.List.Sums.{sum_by-cons}
use Rattle.std.proofs.Math.ListN.{length-set}
use Rattle.std.proofs.lemmas.List.Sorted.{IsPermutation-insert, IsPermutation-remove, sum_by-IsPermutation}
use Rattle.std.proofs.lemmas.List.{take_more, length-take-le, get_or_default}
use Rattle.std.proofs.lemmas.List.Edits.{insert_end}
use Rattle.std.proofs.lemmas.Bool.Decides.{nat_tests}
use Rattle.std.proofs.lemmas.Grind.{common_steps}
use Rattle.plain_map.specs.declared.keys.Key.{Key}
use Rattle.plain_map.specs.declared.keys.Pair.{Pair}
use Rattle.plain_map.specs.declared.rules.Rules.{Rules}
use Rattle.plain_map.specs.PlainObject.{class_of}
use Rattle.class_map.specs.ClassCounts.{HasEachClass, AreCounts, AreCountsOf}
use Rattle.class_map.specs.declared.class_counts.ClassCounts.{ClassCounts}
use Rattle.plain_map.specs.PlainObject.{Sessions, class_size}
use Rattle.plain_map.specs.Places.{IsInKeyOrder}
use Rattle.plain_map.specs.Held.{count_in_class, sessions_of}
use Rattle.plain_map.proofs.SessionLemmas.{class_size-sessions_of}

-- 1 where the pair's key is in the class
abbrev one_in : Rules → ℕ → Pair → ℕ
one_in rules class pair = cond (class_of rules pair.key == class) 1 0

-- one pair more
count_in_class-insert : (rules : Rules) (class : ℕ) (ps : List Pair) (at : ℕ) (p : Pair) →
    count_in_class rules class (insert ps at p) ≡ one_in rules class p + count_in_class rules class ps
count_in_class-insert rules class ps at p =
    sum_by-IsPermutation (one_in rules class) (p ∷ ps) (insert ps at p) (IsPermutation-insert ps at p)
    ∙ sum_by-cons (one_in rules class) p ps

-- one pair less
count_in_class-remove : (rules : Rules) (class : ℕ) (ps : List Pair) (at : ℕ) (p : Pair) → at < length ps →
    p ≡ get_or ps at p → count_in_class rules class ps ≡ one_in rules class p + count_in_class rules class
    (remove ps at)
count_in_class-remove rules class ps at p inside is =
    sym (sum_by-IsPermutation (one_in rules class) ps (p ∷ remove ps at) (IsPermutation-remove ps at p inside is))
    ∙ sum_by-cons (one_in rules class) p (remove ps at)

-- another pair with the key in a pair's place
count_in_class-set : (rules : Rules) (class : ℕ) (ps : List Pair) (at : ℕ) (q : Pair) →
    ((d : Pair) → (get_or ps at d).key ≡ q.key) →
    count_in_class rules class (set ps at q) ≡ count_in_class rules class ps
count_in_class-set rules class [] at q same = refl
count_in_class-set rules class (p ∷ ps) zero q same =
    sum_by-cons (one_in rules class) q ps
    ∙ ap (λ (k : Key). cond (class_of rules k == class) 1 0 + count_in_class rules class ps) (sym (same p))
    ∙ sym (sum_by-cons (one_in rules class) p ps)
count_in_class-set rules class (p ∷ ps) (suc at) q same =
    sum_by-cons (one_in rules class) p (set ps at q)
    ∙ ap (λ (n : ℕ). one_in rules class p + n) (count_in_class-set rules class ps at q same)
    ∙ sym (sum_by-cons (one_in rules class) p ps)

-- the counts are of the pairs then, too
pub AreCountsOf-set : (ps : List Pair) (at : ℕ) (q : Pair) (counts : ClassCounts) →
    ((d : Pair) → (get_or ps at d).key ≡ q.key) → AreCountsOf ps counts → AreCountsOf (set ps at q) counts
AreCountsOf-set ps at q counts same were = record {
  each = were.each;
  exact = λ class small. were.exact class small ∙ sym (count_in_class-set counts.rules class ps at q same);
}

-- a count that is one more
bumped : (counts : List ℕ) (k c n m : ℕ) → k < length counts → get_or counts c 0 ≡ n → m ≡ cond (k == c) 1 0 + n →
    get_or (set counts k (get_or counts k 0 + 1)) c 0 ≡ m
bumped counts k c n m inside was is = grind (arith, nat_tests, common_steps)

-- a count that is one less
lowered : (counts : List ℕ) (k c n m : ℕ) → k < length counts → get_or counts c 0 ≡ n → n ≡ cond (k == c) 1 0 + m →
    get_or (set counts k (get_or counts k 0 - 1)) c 0 ≡ m
lowered counts k c n m inside was is = grind (arith, nat_tests, common_steps)

-- a write leaves each class its count
each-set : (rules : Rules) (counts : List ℕ) (k n : ℕ) → HasEachClass rules counts → HasEachClass rules (set counts k n)
each-set rules counts k n each = record { range = each.range; classes = length-set counts k n ∙ each.classes }

-- the counts of the pairs and one more
pub AreCounts-insert : (rules : Rules) (ps : List Pair) (at : ℕ) (p : Pair) (counts : List ℕ) →
    class_of rules p.key < 2 ^ rules.depth → AreCounts rules ps counts
    → AreCounts rules (insert ps at p) (set counts (class_of rules p.key) (get_or counts (class_of rules p.key) 0 + 1))
AreCounts-insert rules ps at p counts within were = record {
  each = each-set rules counts (class_of rules p.key) _ were.each;
  exact = λ class small. bumped counts (class_of rules p.key) class _ _
      (subst (λ (n : ℕ). class_of rules p.key < n) (sym were.each.classes) within) (were.exact class small)
      (count_in_class-insert rules class ps at p);
}

-- the counts of the pairs but one
pub AreCounts-remove : (rules : Rules) (ps : List Pair) (at : ℕ) (p : Pair) (counts : List ℕ) → at < length ps →
    p ≡ get_or ps at p → class_of rules p.key < 2 ^ rules.depth → AreCounts rules ps counts
    → AreCounts rules (remove ps at) (set counts (class_of rules p.key) (get_or counts (class_of rules p.key) 0 - 1))
AreCounts-remove rules ps at p counts inside is within were = record {
  each = each-set rules counts (class_of rules p.key) _ were.each;
  exact = λ class small. lowered counts (class_of rules p.key) class _ _
      (subst (λ (n : ℕ). class_of rules p.key < n) (sym were.each.classes) within) (were.exact class small)
      (count_in_class-remove rules class ps at p inside is);
}

-- the counts of the pairs up to one place and up to the next
pub AreCounts-take : (rules : Rules) (ps : List Pair) (at : ℕ) (d : Pair) (counts : List ℕ) → at < length ps →
    class_of rules (get_or ps at d).key < 2 ^ rules.depth → AreCounts rules (take at ps) counts
    → AreCounts rules (take (at + 1) ps) (set counts (class_of rules (get_or ps at d).key)
    (get_or counts (class_of rules (get_or ps at d).key) 0 + 1))
AreCounts-take rules ps at d counts inside within were =
    let p = get_or ps at d in
    let whole : length (take at ps) ≡ at = length-take-le at ps (omega arith) in
    let more : insert (take at ps) at p ≡ take (at + 1) ps =
    subst (λ (n : ℕ). insert (take at ps) n p ≡ take at ps ++ p ∷ []) whole (insert_end (take at ps) p)
    ∙ sym (take_more ps at d inside) in
    subst (λ (l : List Pair). AreCounts rules l
    (set counts (class_of rules p.key) (get_or counts (class_of rules p.key) 0 + 1))) more
    (AreCounts-insert rules (take at ps) at p counts within were)

-- ---- the struct of counts, as it was and as it is

module _ (rules : Rules) (ps : List Pair) (was : ClassCounts) (class : ℕ) (by : was.rules ≡ rules)
    (were : AreCountsOf ps was) (within : class < 2 ^ rules.depth) where
  counts_by_rules : AreCounts rules ps was.counts.items
  counts_by_rules = subst (λ (r : Rules). AreCounts r ps was.counts.items) by were

  -- the size of a class is its count
  pub class_size-counted : IsInKeyOrder ps → (m : Sessions) → sessions_of ps ≡ m →
      class_size rules m class ≡ get_or was.counts.items class 0
  class_size-counted ordered m view =
      ap (λ (m : Sessions). class_size rules m class) (sym view) ∙ class_size-sessions_of ps ordered rules class
      ∙ sym (counts_by_rules.exact class within)

  -- one key more
  pub AreCountsOf-gain : (at : ℕ) (p : Pair) → class ≡ class_of rules p.key → (now : ClassCounts) →
      now.rules ≡ was.rules → (new : List Pair) → new ≡ insert ps at p
      → now.counts.items ≡ set was.counts.items class (get_or was.counts.items class 0 + 1) → AreCountsOf new now
  AreCountsOf-gain at p of now same new is_new is =
      rw (same, by, is_new, is, of) (AreCounts-insert rules ps at p was.counts.items
      (subst (λ (n : ℕ). n < 2 ^ rules.depth) of within) counts_by_rules)

  -- one key less
  pub AreCountsOf-lose : (at : ℕ) (d : Pair) → at < length ps → class ≡ class_of rules (get_or ps at d).key →
      (now : ClassCounts) → now.rules ≡ was.rules
      → now.counts.items ≡ set was.counts.items class (get_or was.counts.items class 0 - 1) →
      AreCountsOf (remove ps at) now
  AreCountsOf-lose at d inside of now same is =
      let p = get_or ps at d in
      rw (same, by, is, of) (AreCounts-remove rules ps at p was.counts.items inside (get_or_default ps at d p inside)
      (subst (λ (n : ℕ). n < 2 ^ rules.depth) of within) counts_by_rules)
