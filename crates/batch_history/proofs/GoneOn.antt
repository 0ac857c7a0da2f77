-- Counts that go on, and calls that stand in an order whose numbers go on.
use Rattle.std.proofs.Common.{◌≡◌, ℕ, zero, suc, ◌+◌, ◌-◌, ◌≤◌, List, [], ◌∷◌, ◌++◌, map, length, refl, inl, inr, ap, ◌∙◌, subst, length-append, arith}
use Rattle.std.specs.Prelude.{slice_index, slice_index_or, flat_map}
use Rattle.std.specs.List.{Contains}
use Rattle.std.proofs.lemmas.Bool.{cases_lt}
use Rattle.std.proofs.lemmas.List.{get_or_append_left, get_or-append-add, get_or-map, length-map}
use Rattle.std.proofs.lemmas.List.Elements.{Contains-append_left, Contains-append_right}
use Rattle.plain_map.specs.declared.records.Record.{Record}
use Rattle.plain_map.specs.History.{Placed, answered, pending, seat_of, number_of, seen_of, Stands}
use Rattle.batch_history.specs.Batches.{with_counts, placed_on, Batch, answered_then}

-- ---- counts

-- counts that are put together are added
pub index_with : (before counts : List ℕ) (i : ℕ) →
    slice_index (with_counts before counts) i ≡ slice_index before i + slice_index counts i
index_with [] counts i = omega arith
index_with (b ∷ before) [] i = omega arith
index_with (b ∷ before) (c ∷ counts) zero = refl
index_with (b ∷ before) (c ∷ counts) (suc i) = index_with before counts i

-- the count of a log
index_lengths : (logs : List (List Record)) (seat : ℕ) →
    slice_index (map (λ log. length log) logs) seat ≡ length (slice_index_or logs seat [])
index_lengths [] seat = refl
index_lengths (log ∷ logs) zero = refl
index_lengths (log ∷ logs) (suc seat) = index_lengths logs seat

-- what a seat has answered after a batch
pub index_then : (before : List ℕ) (batch : Batch) (seat : ℕ) →
    slice_index (answered_then before batch) seat
    ≡ slice_index before seat + length (slice_index_or batch.logs seat [])
index_then before batch seat = index_with before (map (λ log. length log) batch.logs) seat
    ∙ ap (λ n. slice_index before seat + n) (index_lengths batch.logs seat)

-- a record of a seat's log is one of all
pub in_logs : (logs : List (List Record)) (seat : ℕ) (r : Record) → Contains (slice_index_or logs seat []) r →
    Contains (flat_map (λ log. log) logs) r
in_logs [] seat r there = absurd (omega (arith, there.1))
in_logs (log ∷ logs) zero r there = Contains-append_left log (flat_map (λ l. l) logs) r there
in_logs (log ∷ logs) (suc seat) r there =
    Contains-append_right log (flat_map (λ l. l) logs) r (in_logs logs seat r there)

-- ---- calls in an order

-- the seat stays, its number and what was seen go on
pub seat_on : (before : List ℕ) (placed : Placed) → seat_of (placed_on before placed) ≡ seat_of placed
seat_on before (answered r) = refl
seat_on before (pending u) = refl

pub number_on : (before : List ℕ) (placed : Placed) →
    number_of (placed_on before placed) ≡ slice_index before (seat_of placed) + number_of placed
number_on before (answered r) = refl
number_on before (pending u) = refl

pub seen_on_is : (before : List ℕ) (placed : Placed) (seat : ℕ) →
    seen_of (placed_on before placed) seat ≡ slice_index before seat + seen_of placed seat
seen_on_is before (answered r) seat = index_with before r.seen.counts seat
seen_on_is before (pending u) seat = index_with before u.seen.counts seat

-- what stands in one list stands in both
pub stands_left : (xs ys : List Placed) (seat number : ℕ) → Stands xs seat number → Stands (xs ++ ys) seat number
stands_left xs ys seat number t = (
  t.0,
  t.1,
  omega (arith, t.2, length-append xs ys),
  get_or_append_left xs ys t.1 t.0 t.2 ∙ t.3,
  t.4,
)

pub stands_right : (xs ys : List Placed) (seat number : ℕ) → Stands ys seat number → Stands (xs ++ ys) seat number
stands_right xs ys seat number t = (
  length xs + t.0,
  t.1,
  omega (arith, t.2, length-append xs ys),
  get_or-append-add xs ys t.0 t.1 ∙ t.3,
  t.4,
)

-- and with a number that has gone on where the numbers have
pub stands_on : (before : List ℕ) (xs : List Placed) (seat number : ℕ) → Stands xs seat number →
    Stands (map (placed_on before) xs) seat (slice_index before seat + number)
stands_on before xs seat number t =
    let number_is : number_of (placed_on before t.1) ≡ slice_index before seat + number =
    number_on before t.1 ∙ ap (λ s. slice_index before s + number_of t.1) t.4.0
    ∙ ap (λ n. slice_index before seat + n) t.4.1 in (
      t.0,
      placed_on before t.1,
      omega (arith, t.2, length-map xs (placed_on before)),
      get_or-map (placed_on before) xs t.0 t.1 (placed_on before t.1) t.2 ∙ ap (placed_on before) t.3,
      (seat_on before t.1 ∙ t.4.0, number_is),
    )

-- all calls up to these counts stand there
abbrev pub AllStand : List ℕ → List Placed → Type 0
AllStand before calls =
    (seat number : ℕ) → 1 ≤ number → number ≤ slice_index before seat → Stands calls seat number

-- a call of the earlier batches, or of this one, stands before
pub stands_either : (before : List ℕ) (prior xs : List Placed) (seat most : ℕ) → AllStand before prior →
    ((number : ℕ) → 1 ≤ number → number ≤ most → Stands xs seat number) →
    (number : ℕ) → 1 ≤ number → number ≤ slice_index before seat + most →
    Stands (prior ++ map (placed_on before) xs) seat number
stands_either before prior xs seat most all own number least few = elim (cases_lt (slice_index before seat) number) [
  | inr old ↦ stands_left prior (map (placed_on before) xs) seat number (all seat number least (omega (arith, old)))
  | inl new ↦
      let here = number - slice_index before seat in
      let is : slice_index before seat + here ≡ number = omega (arith, new) in
      subst (Stands (prior ++ map (placed_on before) xs) seat) is
      (stands_right prior (map (placed_on before) xs) seat (slice_index before seat + here)
      (stands_on before xs seat here (own here (omega (arith, new)) (omega (arith, few, new)))))
]
