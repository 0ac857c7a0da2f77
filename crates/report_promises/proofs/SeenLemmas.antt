-- What a call of a right order had seen is few: each count is the number of a call that stands before it.
use Rattle.std.proofs.Common.{◌≡◌, inl, inr, ℕ, suc, ◌+◌, ◌-◌, ◌^◌, ◌<◌, ◌≤◌, ◌==◌, Bool, true, false, cond, List, [], ◌∷◌, ◌++◌, map, length, get_or, take, drop, refl, sym, ap, ◌∙◌, append_assoc, length-append, subst, arith}
use Rattle.std.specs.Prelude.{All, slice_index}
use Rattle.std.specs.List.{AllByRecursion}
use Rattle.std.proofs.lemmas.Bool.{cases_lt}
use Rattle.std.proofs.lemmas.List.{drop_more, get_or-take, length-take-le, take-append-drop}
use Rattle.std.proofs.lemmas.List.Elements.{All-append, All-from_get_or, All-from_recursion, All-get_or, All-map, All-take, recursion_from_All}
use Rattle.std.proofs.lemmas.List.Sorted.{All-permutation, IsPermutation-sym}
use Rattle.plain_map.specs.declared.records.TheConstants.{MOST_SEATS}
use Rattle.plain_map.specs.declared.records.Seen.{Seen}
use Rattle.plain_map.specs.declared.records.Record.{Record}
use Rattle.plain_map.specs.declared.records.Pending.{Pending}
use Rattle.plain_map.specs.History.{Placed, answered, pending as waiting, After, IsAfter, Stands, Whole, number_of, seen_of}
use Rattle.trace_share.specs.declared.outcome.Outcome.{Outcome}
use Rattle.trace_share.specs.declared.outcome.Outcome.TheVariants.{Answered, Refused}
use Rattle.report_told.specs.Rules.{IsSeen}
use Rattle.report_promises.specs.Good.{AreCountedBySeat, answered_by, answered_on}
use Rattle.report_promises.proofs.NumberLemmas.{answered_here}
use Rattle.report_promises.proofs.ToldOf.{trimmed}

-- ---- numbers

-- a seat has no more answered calls than there are lines
pub few_answered : (seat : ℕ) (lines : List (ℕ × Outcome)) → length (answered_by seat lines) ≤ length lines
few_answered seat [] = omega arith
few_answered seat ((at, Answered r) ∷ lines) = go (at == seat) (few_answered seat lines)
  where
    go : (b : Bool) → length (answered_by seat lines) ≤ length lines →
        length (cond b (r ∷ []) [] ++ answered_by seat lines) ≤ suc (length lines)
    go true few = omega (arith, few)
    go false few = omega (arith, few)
few_answered seat ((at, Refused packet asked full) ∷ lines) = go (at == seat) (few_answered seat lines)
  where
    go : (b : Bool) → length (answered_by seat lines) ≤ length lines →
        length (cond b [] [] ++ answered_by seat lines) ≤ suc (length lines)
    go true few = omega (arith, few)
    go false few = omega (arith, few)

-- so a number is at most how many lines there are
numbers_few : (whole : List (ℕ × Outcome)) → AreCountedBySeat whole → (front lines : List (ℕ × Outcome)) →
    whole ≡ front ++ lines → AllByRecursion (λ (r : Record). r.number ≤ length whole) (answered_on lines)
numbers_few whole counted front [] cut = tt
numbers_few whole counted front ((seat, Answered r) ∷ lines) cut =
    let named = counted seat (answered_by seat front) (answered_by seat lines) r
    (ap (answered_by seat) cut ∙ answered_here seat r front lines) in
    let long : length whole ≡ length front + suc (length lines) =
    ap length cut ∙ length-append front ((seat, Answered r) ∷ lines) in (
      omega (arith, named.0, few_answered seat front, long),
      numbers_few whole counted (front ++ (seat, Answered r) ∷ []) lines
          (cut ∙ sym (append_assoc front ((seat, Answered r) ∷ []) lines)),
    )
numbers_few whole counted front ((seat, Refused packet asked full) ∷ lines) cut =
    numbers_few whole counted (front ++ (seat, Refused packet asked full) ∷ []) lines
    (cut ∙ sym (append_assoc front ((seat, Refused packet asked full) ∷ []) lines))

-- so is each number in a whole order
pub order_few : (lines : List (ℕ × Outcome)) (effects : List Pending) (order : List Placed) → AreCountedBySeat lines →
    length lines < 2 ^ 32 - 1 → All (λ (u : Pending). u.number < 2 ^ 32) effects →
    Whole (answered_on lines) effects order → All (λ (p : Placed). number_of p < 2 ^ 32) order
order_few lines effects order counted few waits whole =
    All-permutation (λ (p : Placed). number_of p < 2 ^ 32) (map answered (answered_on lines) ++ map waiting effects)
    order whole
    (All-append (λ (p : Placed). number_of p < 2 ^ 32) (map answered (answered_on lines)) (map waiting effects)
    (All-map (λ (p : Placed). number_of p < 2 ^ 32) answered (answered_on lines)
    (λ k d inside. omega (
      arith,
      few,
      All-from_recursion (λ (r : Record). r.number ≤ length lines) (answered_on lines)
          (numbers_few lines counted [] lines refl) k d inside,
    )))
    (All-map (λ (p : Placed). number_of p < 2 ^ 32) waiting effects waits))

-- ---- counts

-- what a call had seen of each seat
abbrev pub HasSeenFew : Placed → Type 0
HasSeenFew placed = (seat : ℕ) → seat < MOST_SEATS → seen_of placed seat < 2 ^ 32

-- a number that stands
stands_few : (before : List Placed) (seat number : ℕ) → All (λ (p : Placed). number_of p < 2 ^ 32) before →
    Stands before seat number → number < 2 ^ 32
stands_few before seat number few (k, placed, inside, is, (of, named)) =
    let there : number_of (get_or before k placed) < 2 ^ 32 =
    All-get_or (λ (p : Placed). number_of p < 2 ^ 32) before k placed inside few in
    omega (arith, there, ap number_of is, named)

-- a call that stands behind others had seen few
seen_few : (before : List Placed) (placed : Placed) → All (λ (p : Placed). number_of p < 2 ^ 32) before →
    IsAfter before placed → HasSeenFew placed
seen_few before placed few after seat inside = elim (cases_lt 0 (seen_of placed seat)) [
  | inl some ↦ stands_few before seat (seen_of placed seat) few
      (after.seen seat (seen_of placed seat) inside (omega (arith, some)) (omega arith))
  | inr none ↦ omega (arith, none)
]

-- so it is for each call of the order
pub all_seen_few : (order : List Placed) → After order → All (λ (p : Placed). number_of p < 2 ^ 32) order →
    All HasSeenFew order
all_seen_few order after few k d inside =
    let p : Placed = get_or order k d in
    let cut : order ≡ take k order ++ p ∷ drop (k + 1) order =
    sym (take-append-drop k order) ∙ ap (λ (ps : List Placed). take k order ++ ps) (drop_more order k d inside) in
    seen_few (take k order) p (All-take (λ (q : Placed). number_of q < 2 ^ 32) k order few)
    (after (take k order) (drop (k + 1) order) p cut)

-- what holds of each call of a whole order holds of its answered ones
pub of_answered : (P : Placed → Type 0) (records : List Record) (effects : List Pending) (order : List Placed) →
    Whole records effects order → All P order → AllByRecursion (λ (r : Record). P (answered r)) records
of_answered P records effects order whole all =
    front records (recursion_from_All P (map answered records ++ map waiting effects)
    (All-permutation P order (map answered records ++ map waiting effects)
    (IsPermutation-sym (map answered records ++ map waiting effects) order whole) all))
  where
    front : (rs : List Record) → AllByRecursion P (map answered rs ++ map waiting effects) →
        AllByRecursion (λ (r : Record). P (answered r)) rs
    front [] each = tt
    front (r ∷ rs) each = (each.0, front rs each.1)

-- counts of the seats that there are can be told
pub seen_told : (seats : ℕ) (seen : Seen) → seats ≤ length seen.counts →
    ((seat : ℕ) → seat < seats → slice_index seen.counts seat < 2 ^ 32) → IsSeen seats (trimmed seats seen)
seen_told seats seen long few = record {
  told = take seats seen.counts;
  long = length-take-le seats seen.counts long;
  fit = All-from_get_or (λ count. count < 2 ^ 32) (take seats seen.counts) 0
      (λ i inside. at i (omega (arith, inside, length-take-le seats seen.counts long)));
  counts = refl;
}
  where
    at : (i : ℕ) → i < seats → get_or (take seats seen.counts) i 0 < 2 ^ 32
    at i inside = subst (λ (n : ℕ). n < 2 ^ 32) (sym (get_or-take seats seen.counts i 0 inside)) (few i inside)
