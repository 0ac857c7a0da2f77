-- A line of a batch's calls: it is a permutation of the logs, and its calls are numbered seat by seat.
use Rattle.std.proofs.Common.{◌≡◌, ℕ, suc, ◌+◌, ◌-◌, ◌<◌, ◌≤◌, Bool, true, false, cond, not, List, [], ◌∷◌, ◌++◌, length, get_or, true≢false, refl, inl, inr, sym, ap, subst, ◌∙◌, length-append, append_assoc, arith}
use Rattle.std.specs.Prelude.{filter, flat_map, IsPermutation, ◌==◌}
use Rattle.std.proofs.lemmas.Bool.{eq-eqb, eqb-true, cases_lt, cases_Bool}
use Rattle.std.proofs.lemmas.List.Elements.{filter-append}
use Rattle.std.proofs.lemmas.List.Sorted.{IsPermutation-refl, IsPermutation-trans, IsPermutation-sym, IsPermutation-append_right, IsPermutation-filter_both}
use Rattle.plain_map.specs.declared.keys.Key.{Key}
use Rattle.plain_map.specs.declared.records.Record.{Record}
use Rattle.plain_map.specs.Calls.{key_in}
use Rattle.list_laws.proofs.Lists.{In, in_cut, in_right, in_filter, filter_in}
use Rattle.placing_laws.specs.OneThread.{StandsBefore, KeysHaveSeats}
use Rattle.batch_history.specs.Batches.{AreNumbered}
use Rattle.batch_laws.specs.Threads.{IsLineOf, AreByKey}
use Rattle.list_laws.proofs.Places.{in_all, all_in}

-- ---- lists

-- a test after one that it implies
filter_twice : {A : Type 0} → (p q : A → Bool) (xs : List A) → ((x : A) → p x ≡ true → q x ≡ true) →
    filter p (filter q xs) ≡ filter p xs
filter_twice p q [] stays = refl
filter_twice p q (x ∷ xs) stays = go (p x) refl (q x) refl (filter_twice p q xs stays)
  where
    go : (a : Bool) → p x ≡ a → (b : Bool) → q x ≡ b → filter p (filter q xs) ≡ filter p xs →
        filter p (cond b (x ∷ filter q xs) (filter q xs)) ≡ cond a (x ∷ filter p xs) (filter p xs)
    go a e true f rest = ap (λ c. cond c (x ∷ filter p (filter q xs)) (filter p (filter q xs))) e
        ∙ ap (λ ys. cond a (x ∷ ys) ys) rest
    go true e false f rest = absurd (true≢false (sym (stays x e) ∙ f))
    go false e false f rest = rest

-- who passes a test stands where the list is cut
pub filter_cut : {A : Type 0} → (p : A → Bool) (front back : List A) (x : A) → p x ≡ true →
    filter p (front ++ x ∷ back) ≡ filter p front ++ x ∷ filter p back
filter_cut p front back x e = filter-append p front (x ∷ back)
    ∙ ap (λ b. filter p front ++ cond b (x ∷ filter p back) (filter p back)) e

-- ---- a line is a permutation of the logs

-- the records of a seat
abbrev pub is_of : ℕ → Record → Bool
is_of seat r = r.seat == seat

-- the records of other seats
abbrev others : (from : ℕ) → List Record → List Record
others from line = filter (λ r. not (is_of from r)) line

-- they are of later ones
others_low : (from : ℕ) (line : List Record) → ((r : Record) → In r line → from ≤ r.seat) →
    (r : Record) → In r (others from line) → suc from ≤ r.seat
others_low from line low r i =
    let both = in_filter (λ x. not (is_of from x)) line r i in
    elim (cases_lt from r.seat) [
      | inl less ↦ omega (arith, less)
      | inr most ↦ let same : r.seat ≡ from = omega (arith, most, low r both.0) in
          absurd (true≢false (sym both.1 ∙ ap not (eq-eqb r.seat from same)))
    ]

-- and have the same logs
others_each : (from : ℕ) (log : List Record) (logs : List (List Record)) (line : List Record) →
    ((seat : ℕ) → from ≤ seat → filter (is_of seat) line ≡ get_or (log ∷ logs) (seat - from) []) →
    (seat : ℕ) → suc from ≤ seat → filter (is_of seat) (others from line) ≡ get_or logs (seat - suc from) []
others_each from log logs line each seat later =
    let next : seat - from ≡ suc (seat - suc from) = omega (arith, later) in
    filter_twice (is_of seat) (λ r. not (is_of from r)) line
    (λ r e. elim (cases_Bool (is_of from r)) [
      | inl same ↦ absurd (omega (arith, later, eqb-true r.seat from same, eqb-true r.seat seat e))
      | inr other ↦ ap not other
    ])
    ∙ each seat (omega (arith, later)) ∙ ap (λ i. get_or (log ∷ logs) i []) next

-- so the logs together, from a number on, are the line in another order
permuted : (from : ℕ) (logs : List (List Record)) (line : List Record) →
    ((seat : ℕ) → from ≤ seat → filter (is_of seat) line ≡ get_or logs (seat - from) []) →
    ((r : Record) → In r line → from ≤ r.seat) → IsPermutation (flat_map (λ log. log) logs) line
permuted from [] [] each low = IsPermutation-refl []
permuted from [] (r ∷ line) each low =
    let there : In r [] = subst (In r) (each r.seat (low r (inl refl)))
    (filter_in (is_of r.seat) (r ∷ line) r (inl refl) (eq-eqb r.seat r.seat refl)) in elim there [ ]
permuted from (log ∷ logs) line each low =
    let none : from - from ≡ 0 = omega arith in
    let own : filter (is_of from) line ≡ log =
    each from (omega arith) ∙ ap (λ i. get_or (log ∷ logs) i []) none in
    let parts : IsPermutation line (log ++ others from line) =
    subst (λ xs. IsPermutation line (xs ++ others from line)) own
    (IsPermutation-filter_both (is_of from) (λ r. not (is_of from r)) (λ r. refl) line) in
    let rest : IsPermutation (flat_map (λ l. l) logs) (others from line) =
    permuted (suc from) logs (others from line) (others_each from log logs line each) (others_low from line low) in
    IsPermutation-trans (log ++ flat_map (λ l. l) logs) (log ++ others from line) line
    (IsPermutation-append_right log (flat_map (λ l. l) logs) (others from line) rest)
    (IsPermutation-sym line (log ++ others from line) parts)

-- all logs together are
pub line_is_permuted : (logs : List (List Record)) (line : List Record) → IsLineOf logs line →
    IsPermutation (flat_map (λ log. log) logs) line
line_is_permuted logs line is = permuted 0 logs line
    (λ seat low. let whole : seat ≡ seat - 0 = omega arith in is seat ∙ ap (λ i. get_or logs i []) whole)
    (λ r i. omega arith)

-- ---- the calls of a line are numbered seat by seat

module _ (logs : List (List Record)) (line : List Record) (seat_for : Key → ℕ) (numbered : AreNumbered logs)
    (is : IsLineOf logs line) (by_key : AreByKey seat_for line) where
  -- by how many of the seat stand before
  number_is : (front back : List Record) (r : Record) → line ≡ front ++ r ∷ back →
      r.number ≡ length (filter (is_of r.seat) front) + 1
  number_is front back r cut =
      (numbered r.seat (filter (is_of r.seat) front) (filter (is_of r.seat) back) r
      (sym (is r.seat) ∙ ap (filter (is_of r.seat)) cut
      ∙ filter_cut (is_of r.seat) front back r (eq-eqb r.seat r.seat refl))).0

  -- so they rise
  rise : (a b : Record) → StandsBefore line a b → a.seat ≡ b.seat → a.number < b.number
  rise a b stands same =
      let cut : line ≡ (stands.front ++ a ∷ stands.middle) ++ b ∷ stands.back =
      stands.is ∙ sym (append_assoc stands.front (a ∷ stands.middle) (b ∷ stands.back)) in
      omega (
        arith,
        number_is stands.front (stands.middle ++ b ∷ stands.back) a stands.is,
        ap (λ seat. length (filter (is_of seat) stands.front)) same,
        number_is (stands.front ++ a ∷ stands.middle) stands.back b cut,
        ap length (filter_cut (is_of b.seat) stands.front stands.middle a (eq-eqb a.seat b.seat same)),
        length-append (filter (is_of b.seat) stands.front) (a ∷ filter (is_of b.seat) stands.middle),
      )

  -- who stands in the line has its key's seat
  its_seat : (r : Record) → In r line → r.seat ≡ seat_for (key_in r.call)
  its_seat r i = in_all (λ (x : Record). x.seat ≡ seat_for (key_in x.call)) line r by_key i

  pub keys_have_seats : KeysHaveSeats line
  keys_have_seats = record {
    numbered = rise;
    one_seat = λ a b stands same.
        let first : In a line = subst (In a) (sym stands.is)
        (in_right a stands.front (a ∷ (stands.middle ++ b ∷ stands.back)) (inl refl)) in
        let second : In b line = subst (In b) (sym stands.is)
        (in_right b stands.front (a ∷ (stands.middle ++ b ∷ stands.back))
        (inr (in_right b stands.middle (b ∷ stands.back) (inl refl)))) in
        its_seat a first ∙ ap seat_for same ∙ sym (its_seat b second);
    from_one = all_in (λ (r : Record). 1 ≤ r.number) line (λ r i.
        let cut = in_cut r line i in omega (arith, number_is cut.0 cut.1 r cut.2));
  }
