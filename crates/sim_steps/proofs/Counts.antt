-- The totals of each version, and the counts that adds were answered, are those that the adds in effect give.
use Rattle.std.proofs.Common.{◌≡◌, ◌≢◌, ℕ, ◌+◌, ◌*◌, ◌^◌, ◌<◌, ◌≤◌, Bool, true, false, cond, eqb, List, [], ◌∷◌, ◌++◌, length, get_or, inl, inr, sym, ap, ◌∙◌, arith}
use Rattle.std.proofs.lemmas.Bool.{cases_eq, eq-eqb, ne_eqb, cond-true, cond-false}
use Rattle.std.proofs.Math.Nat.{mod-eq_of_lt}
use Rattle.sim_steps.specs.declared.adds.Op.{Op}
use Rattle.sim_steps.specs.Layout.{row_words}
use Rattle.sim_steps.specs.Program.{with_op}
use Rattle.sim_steps.proofs.Ghost.{Item, after_items}
use Rattle.sim_steps.proofs.RowLemmas.{length-with_op, count-with_op, bytes-with_op, totals-with_op_other}

-- how many items are of a class, and how many bytes they have
abbrev pub items_of : ℕ → List Item → ℕ
items_of class [] = 0
items_of class (item ∷ items) = cond (eqb item.op.class class) 1 0 + items_of class items

-- the bytes of a class in some items
abbrev pub bytes_of : ℕ → List Item → ℕ
bytes_of class [] = 0
bytes_of class (item ∷ items) = cond (eqb item.op.class class) item.op.length 0 + bytes_of class items

-- the items of a class in two lists
pub items_of-append : (class : ℕ) (xs ys : List Item) →
    items_of class (xs ++ ys) ≡ items_of class xs + items_of class ys
items_of-append class [] ys = omega arith
items_of-append class (x ∷ xs) ys = omega (arith, items_of-append class xs ys)

-- and their bytes
pub bytes_of-append : (class : ℕ) (xs ys : List Item) →
    bytes_of class (xs ++ ys) ≡ bytes_of class xs + bytes_of class ys
bytes_of-append class [] ys = omega arith
bytes_of-append class (x ∷ xs) ys = omega (arith, bytes_of-append class xs ys)

-- a flag counts 1 at most
at_most_one : (b : Bool) → cond b 1 0 ≤ 1
at_most_one true = omega arith
at_most_one false = omega arith

-- items of a class are some of all
pub items_of_few : (class : ℕ) (xs : List Item) → items_of class xs ≤ length xs
items_of_few class [] = omega arith
items_of_few class (x ∷ xs) = omega (arith, items_of_few class xs, at_most_one (eqb x.op.class class))

-- items of the three classes, of seats that a row has, and not too long
abbrev pub Fair : ℕ → List Item → Type 0
Fair seats [] = Unit {0}
Fair seats (item ∷ items) = (item.seat < seats) × (item.op.class < 3) × (item.op.length ≤ 262144) × Fair seats items

-- a front of a fair list is fair
pub fair_front : (seats : ℕ) (xs ys : List Item) → Fair seats (xs ++ ys) → Fair seats xs
fair_front seats [] ys f = tt
fair_front seats (x ∷ xs) ys f = (f.0, f.1, f.2, fair_front seats xs ys f.3)

-- the bytes of fair items are bounded by their number
pub bytes_of_few : (seats class : ℕ) (xs : List Item) → Fair seats xs → bytes_of class xs ≤ 262144 * length xs
bytes_of_few seats class [] f = omega arith
bytes_of_few seats class (x ∷ xs) f = omega (arith, bytes_of_few seats class xs f.3, one (eqb x.op.class class), f.2)
  where
    one : (b : Bool) → cond b x.op.length 0 ≤ x.op.length
    one true = omega arith
    one false = omega arith

-- ---- a row after some items

-- one item counts once in its class
count_one : (seats : ℕ) (row : List ℕ) (class seat : ℕ) (op : Op) → class < 3 → op.class < 3 → seat < seats →
    length row ≡ row_words seats → get_or row (1 + class) 0 + 1 < 2 ^ 64 →
    get_or (with_op row seat op) (1 + class) 0 ≡ get_or row (1 + class) 0 + cond (eqb op.class class) 1 0
count_one seats row class seat op h k m e small = elim (cases_eq op.class class) [
  | inl same ↦
      let fits : get_or row (1 + op.class) 0 + 1 < 2 ^ 64 = omega (arith, ap (λ n. get_or row (1 + n) 0) same, small) in
      ap (λ n. get_or (with_op row seat op) (1 + n) 0) (sym same) ∙ count-with_op row seat op k (omega arith)
      ∙ mod-eq_of_lt fits
      ∙ ap (λ n. get_or row (1 + n) 0 + 1) same
      ∙ ap (λ n. get_or row (1 + class) 0 + n)
      (sym (cond-true (eqb op.class class) 1 0 (eq-eqb op.class class same)))
  | inr other ↦
      let apart1 : 1 + class ≢ 1 + op.class = omega arith in
      let apart2 : 1 + class ≢ 4 + op.class = omega arith in
      omega (
        arith,
        totals-with_op_other row seat op (1 + class) k (omega arith) apart1 apart2,
        cond-false {A = ℕ} (eqb op.class class) 1 0 (ne_eqb op.class class other),
      )
]

-- and adds its bytes there
bytes_one : (seats : ℕ) (row : List ℕ) (class seat : ℕ) (op : Op) → class < 3 → op.class < 3 → seat < seats →
    length row ≡ row_words seats → get_or row (4 + class) 0 + op.length < 2 ^ 64 →
    get_or (with_op row seat op) (4 + class) 0 ≡ get_or row (4 + class) 0 + cond (eqb op.class class) op.length 0
bytes_one seats row class seat op h k m e small = elim (cases_eq op.class class) [
  | inl same ↦
      let fits : get_or row (4 + op.class) 0 + op.length < 2 ^ 64 =
      omega (arith, ap (λ n. get_or row (4 + n) 0) same, small) in
      ap (λ n. get_or (with_op row seat op) (4 + n) 0) (sym same) ∙ bytes-with_op row seat op k (omega arith)
      ∙ mod-eq_of_lt fits
      ∙ ap (λ n. get_or row (4 + n) 0 + op.length) same
      ∙ ap (λ n. get_or row (4 + class) 0 + n)
      (sym (cond-true (eqb op.class class) op.length 0 (eq-eqb op.class class same)))
  | inr other ↦
      let apart1 : 4 + class ≢ 1 + op.class = omega arith in
      let apart2 : 4 + class ≢ 4 + op.class = omega arith in
      omega (
        arith,
        totals-with_op_other row seat op (4 + class) k (omega arith) apart1 apart2,
        cond-false {A = ℕ} (eqb op.class class) op.length 0 (ne_eqb op.class class other),
      )
]

-- some items count each once
pub count_after_items : (seats : ℕ) (row : List ℕ) (items : List Item) (class : ℕ) → class < 3 → Fair seats items →
    length row ≡ row_words seats → get_or row (1 + class) 0 + length items < 2 ^ 64 →
    get_or (after_items row items) (1 + class) 0 ≡ get_or row (1 + class) 0 + items_of class items
count_after_items seats row [] class h f e small = omega arith
count_after_items seats row (i ∷ items) class h f e small =
    let one = count_one seats row class i.seat i.op h f.1 f.0 e (omega arith) in
    let step : cond (eqb i.op.class class) 1 0 ≤ 1 = at_most_one (eqb i.op.class class) in
    omega (
      arith,
      one,
      step,
      count_after_items seats (with_op row i.seat i.op) items class h f.3 (length-with_op row i.seat i.op ∙ e)
          (omega (arith, one, step, small)),
    )

-- and add their bytes
pub bytes_after_items : (seats : ℕ) (row : List ℕ) (items : List Item) (class : ℕ) → class < 3 → Fair seats items →
    length row ≡ row_words seats → get_or row (4 + class) 0 + 262144 * length items < 2 ^ 64 →
    get_or (after_items row items) (4 + class) 0 ≡ get_or row (4 + class) 0 + bytes_of class items
bytes_after_items seats row [] class h f e small = omega arith
bytes_after_items seats row (i ∷ items) class h f e small =
    let one = bytes_one seats row class i.seat i.op h f.1 f.0 e (omega (arith, f.2, small)) in
    let step : cond (eqb i.op.class class) i.op.length 0 ≤ 262144 = at_most i.op.length f.2 (eqb i.op.class class) in
    omega (
      arith,
      one,
      step,
      bytes_after_items seats (with_op row i.seat i.op) items class h f.3 (length-with_op row i.seat i.op ∙ e)
          (omega (arith, one, step, small)),
    )
  where
    at_most : (n : ℕ) → n ≤ 262144 → (b : Bool) → cond b n 0 ≤ 262144
    at_most n h true = h
    at_most n h false = omega arith
