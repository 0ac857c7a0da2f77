-- Where a table's words stand, by what a caller has at hand.
use Rattle.std.proofs.Common.{◌≡◌, ℕ, ◌+◌, ◌-◌, ◌*◌, ◌/◌, ◌^◌, ◌%◌, ◌<◌, ◌≤◌, sym, ap, subst, ◌∙◌, arith}
use Rattle.std.proofs.Math.Nat.{mul-le-mul_left, pow-le-pow_right}
use Rattle.std.proofs.lemmas.Nat.{pow-add}
use Rattle.plain_map.specs.declared.rules.Rules.{Rules}
use Rattle.plain_map.specs.declared.keys.Key.{Key}
use Rattle.plain_map.specs.PlainObject.{class_of}
use Rattle.exchange_model.specs.Plans.{Plan, class_for, buckets_of, rows_of, rules_of}
use Rattle.exchange_model.specs.Codes.{SLOT_WORDS, row_in}
use Rattle.exchange_model.specs.Words.{Bucket, Hold, OpWord, RowWord, Want, most_words, place}
use Rattle.exchange_calls.specs.Desks.{IsOf}
use Rattle.exchange_calls.specs.Going.{Going}
use Rattle.exchange_calls.specs.declared.desk.Desk.{Desk}

-- the rules at hand are those of the plan
pub rules_same : (g : Going) (desk : Desk) → IsOf g desk → desk.rules ≡ rules_of g.plan
rules_same g desk is = λ i. record {
  items = (desk.items ∙ sym is.items) i;
  depth = (desk.depth ∙ sym is.depth) i;
  hashing = sym is.hashing i;
}

-- so the class of a key is the same
pub bucket_same : (g : Going) (desk : Desk) (key : Key) → IsOf g desk → class_of desk.rules key ≡ class_for g.plan key
bucket_same g desk key is = ap (λ (r : Rules). class_of r key) (rules_same g desk is)

module _ (g : Going) (desk : Desk) (is : IsOf g desk) where
  -- how many buckets there are
  pub buckets_are : buckets_of g.plan.settings ≡ 2 ^ desk.sizes.depth
  buckets_are = ap (λ (d : ℕ). 2 ^ d) is.depth

  most_is : most_words g.plan ≡ desk.row_words
  most_is = omega (arith, is.items, is.seats, desk.starts.words_are)

  pub bucket_at : (bucket : ℕ) → place g.plan (Bucket bucket) ≡ desk.buckets + bucket
  bucket_at bucket = omega (
    arith,
    is.seats,
    is.readers,
    desk.starts.wants_are,
    desk.starts.holds_are,
    desk.starts.ops_are,
    desk.starts.buckets_are,
  )

  pub row_at : (row i : ℕ) → place g.plan (RowWord row i) ≡ desk.first_row + row * desk.row_words + i
  row_at row i =
      let wide = ap (λ (w : ℕ). row * w) most_is in
      omega (
        arith,
        is.seats,
        is.readers,
        buckets_are,
        wide,
        desk.starts.wants_are,
        desk.starts.holds_are,
        desk.starts.ops_are,
        desk.starts.buckets_are,
        desk.starts.rows_are,
      )

  pub want_at : (holder : ℕ) → place g.plan (Want holder) ≡ desk.wants + holder
  want_at holder = omega (arith, is.seats, desk.starts.wants_are)

  pub hold_at : (holder : ℕ) → place g.plan (Hold holder) ≡ desk.holds + holder
  hold_at holder = omega (arith, is.seats, is.readers, desk.starts.wants_are, desk.starts.holds_are)

  pub op_at : (seat i : ℕ) → place g.plan (OpWord seat i) ≡ desk.ops + SLOT_WORDS * seat + i
  op_at seat i = omega (
    arith,
    is.seats,
    is.readers,
    desk.starts.wants_are,
    desk.starts.holds_are,
    desk.starts.ops_are,
  )

  -- the row in a bucket word
  pub row_in_is : (word row : ℕ) → row ≡ word % 2 ^ desk.sizes.row_bits → row ≡ row_in g.plan word
  row_in_is word row e = e ∙ ap (λ (k : ℕ). word % 2 ^ k) (sym is.row_bits)

-- a caller stays at its desk
pub of_same : (f now : Going) (desk : Desk) → now.plan ≡ f.plan → now.seat ≡ f.seat → IsOf f desk → IsOf now desk
of_same f now desk plan seat is = record {
  seats = ap (λ (p : Plan). p.settings.seats) plan ∙ is.seats;
  readers = ap (λ (p : Plan). p.settings.readers) plan ∙ is.readers;
  items = ap (λ (p : Plan). p.settings.items) plan ∙ is.items;
  depth = ap (λ (p : Plan). p.settings.depth) plan ∙ is.depth;
  spare = ap (λ (p : Plan). p.spare) plan ∙ is.spare;
  row_bits = ap (λ (p : Plan). p.row_bits) plan ∙ is.row_bits;
  hashing = ap (λ (p : Plan). p.hashing) plan ∙ is.hashing;
  seat = seat ∙ is.seat;
  rows = subst (λ (p : Plan). rows_of p ≤ 2 ^ p.row_bits) (sym plan) is.rows;
}

-- a row of a table can be told in 32 bits
pub row_few : (g : Going) (desk : Desk) (row : ℕ) → IsOf g desk → row < rows_of g.plan → row < 2 ^ 32
row_few g desk row is inside =
    let few : 2 ^ desk.sizes.row_bits ≤ 2 ^ 21 = pow-le-pow_right (omega arith) desk.sizes.few_bits in
    let same : 2 ^ g.plan.row_bits ≡ 2 ^ desk.sizes.row_bits = ap (λ (k : ℕ). 2 ^ k) is.row_bits in
    omega (arith, is.rows, inside, few, same)

one_more : (a b : ℕ) → (a + 1) * b ≡ a * b + b
one_more a b = omega arith

-- the next word of a bucket fits
pub next_fits : (word bits row : ℕ) → bits ≤ 21 → row < 2 ^ bits → word / 2 ^ bits + 1 < 2 ^ (64 - bits) →
    ((word / 2 ^ bits + 1) * 2 ^ bits ≡ word / 2 ^ bits * 2 ^ bits + 2 ^ bits)
    × ((word / 2 ^ bits + 1) * 2 ^ bits + row < 2 ^ 64)
next_fits word bits row few low last =
    let q : ℕ = word / 2 ^ bits in
    let rest : ℕ = 64 - bits in
    let e : 64 ≡ rest + bits = omega (arith, few) in
    let whole : 2 ^ 64 ≡ 2 ^ rest * 2 ^ bits = ap (λ (n : ℕ). 2 ^ n) e ∙ pow-add 2 rest bits in
    let more : 2 ^ bits * (q + 2) ≤ 2 ^ bits * 2 ^ rest = mul-le-mul_left (2 ^ bits) (omega (arith, last)) in
    let turned : 2 ^ bits * 2 ^ rest ≡ 2 ^ rest * 2 ^ bits = omega arith in
    let wide : 2 ^ bits * (q + 2) ≡ (q + 1) * 2 ^ bits + 2 ^ bits = omega arith in
    (one_more q (2 ^ bits), omega (arith, whole, more, turned, wide, low))
