-- Packets that rise, and how often one stands among them.
use Rattle.std.proofs.Common.{◌≡◌, inl, inr, ℕ, zero, suc, ◌-◌, ◌<◌, ◌≤◌, nat_le, true, false, List, [], ◌∷◌, ◌++◌, length, get_or, Option, refl, sym, ap, ◌∙◌, arith}
use Rattle.std.specs.Prelude.{slice_get}
use Rattle.std.specs.Ordering.{nat_cmp}
use Rattle.std.specs.BTreeSet.{contains}
use Rattle.std.proofs.lemmas.Bool.{ltb-true, cases_lt}
use Rattle.report_told.specs.Rules.{Rise, times}
use Rattle.report_told.proofs.TimesLemmas.{times-other, times-same, times-cons}
use Rattle.report_reading.specs.declared.packets.Packets.{Packets}
use Rattle.report_reading.specs.Packets.{AllBelow, ArePackets, CanEnd, is_above}

-- where it is none of them
pub never_stands : (packet : ℕ) (xs : List ℕ) → ((k : ℕ) → k < length xs → get_or xs k 0 ≡ packet → ⊥) →
    times packet xs ≡ 0
never_stands packet [] none = refl
never_stands packet (x ∷ xs) none =
    times-other packet x xs (none 0 (omega arith))
    ∙ never_stands packet xs (λ k inside. none (suc k) (omega arith))

-- where it is one of them
pub stands_at : (packet : ℕ) (xs : List ℕ) (k : ℕ) → k < length xs → get_or xs k 0 ≡ packet → 1 ≤ times packet xs
stands_at packet [] k inside is = absurd (omega arith)
stands_at packet (x ∷ xs) zero inside is =
    omega (arith, times-same packet x xs is)
stands_at packet (x ∷ xs) (suc k) inside is =
    let later : 1 ≤ times packet xs = stands_at packet xs k (omega arith) is in
    omega (arith, times-cons packet x xs)

-- Packets that rise.

last_cons : (x y : ℕ) (xs : List ℕ) →
    slice_get (x ∷ y ∷ xs) (length (x ∷ y ∷ xs) - 1) ≡ slice_get (y ∷ xs) (length (y ∷ xs) - 1)
last_cons x y xs =
    let one : length (x ∷ y ∷ xs) - 1 ≡ suc (length xs) = omega arith in
    let other : length (y ∷ xs) - 1 ≡ length xs = omega arith in
    ap (λ (n : ℕ). slice_get (x ∷ y ∷ xs) n) one ∙ ap (λ (n : ℕ). slice_get (y ∷ xs) n) (sym other)

-- one that is above the last is above all
pub above_all : (xs : List ℕ) (packet : ℕ) → Rise xs → is_above (slice_get xs (length xs - 1)) packet ≡ true →
    AllBelow xs packet × Rise (xs ++ packet ∷ [])
above_all [] packet rise above = (tt, tt)
above_all (x ∷ []) packet rise above =
    let less : x < packet = ltb-true x packet above in
    ((less, tt), (less, tt))
above_all (x ∷ y ∷ xs) packet rise above =
    let later : AllBelow (y ∷ xs) packet × Rise ((y ∷ xs) ++ packet ∷ []) =
    above_all (y ∷ xs) packet rise.1 (ap (λ (o : Option ℕ). is_above o packet) (sym (last_cons x y xs)) ∙ above) in
    let least : y < packet = later.0.0 in
    ((omega (arith, rise.0), later.0), (rise.0, later.1))

-- they do not fall
first_least : (x : ℕ) (xs : List ℕ) → Rise (x ∷ xs) → (k : ℕ) → k < length (x ∷ xs) → x ≤ get_or (x ∷ xs) k 0
first_least x xs rise zero inside = omega arith
first_least x [] rise (suc k) inside = absurd (omega arith)
first_least x (y ∷ xs) rise (suc k) inside =
    omega (arith, rise.0, first_least y xs rise.1 k (omega arith))

pub rise_on : (xs : List ℕ) → Rise xs → (i j : ℕ) → i ≤ j → j < length xs → get_or xs i 0 ≤ get_or xs j 0
rise_on [] rise i j before inside = absurd (omega arith)
rise_on (x ∷ xs) rise zero j before inside = first_least x xs rise j inside
rise_on (x ∷ xs) rise (suc i) zero before inside = absurd (omega arith)
rise_on (x ∷ []) rise (suc i) (suc j) before inside = absurd (omega arith)
rise_on (x ∷ y ∷ xs) rise (suc i) (suc j) before inside = rise_on (y ∷ xs) rise.1 i j (omega arith) (omega arith)

-- with one that ended more
pub ended_more : (kept made : Packets) (ended waits : List ℕ) (packet : ℕ) → ArePackets kept ended waits →
    is_above (slice_get kept.ended.items (length kept.ended.items - 1)) packet ≡ true →
    contains nat_cmp kept.waiting packet ≡ false → made.ended.items ≡ kept.ended.items ++ packet ∷ [] →
    made.waiting ≡ kept.waiting → CanEnd ended waits packet × ArePackets made (ended ++ packet ∷ []) waits
ended_more kept made ended waits packet are above none more same =
    let last : is_above (slice_get ended (length ended - 1)) packet ≡ true =
    ap (λ (xs : List ℕ). is_above (slice_get xs (length xs - 1)) packet) (sym are.ended_are) ∙ above in
    let both : AllBelow ended packet × Rise (ended ++ packet ∷ []) = above_all ended packet are.rise last in
    let waits_none : nat_le 1 (times packet waits) ≡ false = sym (are.waits_are packet) ∙ none in (
      record { above = both.0; apart = grind arith },
      record {
        ended_are = more ∙ ap (λ (xs : List ℕ). xs ++ packet ∷ []) are.ended_are;
        rise = both.1;
        waits_are = λ other. ap (λ s. contains nat_cmp s other) same ∙ are.waits_are other;
      },
    )

-- a search that found the place between lesser and greater ones did not find it
pub not_found : (packet : ℕ) (xs : List ℕ) (i : ℕ) →
    (i ≤ length xs) × ((k : ℕ) → k < i → get_or xs k 0 < packet)
    × ((k : ℕ) → i ≤ k → k < length xs → packet < get_or xs k 0) →
    false ≡ nat_le 1 (times packet xs)
not_found packet xs i (within, less, greater) =
    let none : times packet xs ≡ 0 = never_stands packet xs (λ k inside same. at k inside same) in
    sym (ap (λ (n : ℕ). nat_le 1 n) none)
  where
    at : (k : ℕ) → k < length xs → get_or xs k 0 ≡ packet → ⊥
    at k inside same = elim (cases_lt k i) [
      | inr after ↦ omega (arith, greater k after inside, same)
      | inl before ↦ omega (arith, less k before, same)
    ]
