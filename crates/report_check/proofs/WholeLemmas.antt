-- Packets that stand in the order, and those that must.
use Rattle.std.proofs.Common.{◌≡◌, ◌⊎◌, inl, inr, ℕ, zero, suc, ◌+◌, ◌<◌, ◌≤◌, min, nat_le, Bool, true, false, cond, List, [], ◌∷◌, length, get_or, refl, sym, ap, ◌∙◌, subst, Option, Some, None, arith}
use Rattle.std.specs.Prelude.{MatchOption, map, filter, IsSortedByKey}
use Rattle.std.specs.Ordering.{nat_cmp}
use Rattle.std.specs.List.Sorted.{IsNonDecreasing, IsNonDecreasingBy}
use Rattle.std.proofs.lemmas.List.Sorted.{IsNonDecreasingBy-from_sort}
use Rattle.std.proofs.lemmas.List.{get_or_default}
use Rattle.std.proofs.lemmas.Bool.{cases_eq, cases_lt}
use Rattle.plain_map.specs.declared.records.Record.{Record}
use Rattle.plain_map.specs.declared.records.Pending.{Pending}
use Rattle.report_told.specs.Rules.{times}
use Rattle.report_told.proofs.TimesLemmas.{filter_within, some_times, times-other, times-same, times-cons}
use Rattle.report_check.specs.Facts.{IsCallOf}
use Rattle.report_check.specs.Whole.{IsFirstMissing, IsFirstStray, IsLeastOf, IsRepeated, IsThere, MayBeThere, StandsSo, answers_at, effects_at}
use Rattle.report_check.proofs.FactLemmas.{no_times}
use Rattle.report_reading.proofs.PacketLemmas.{stands_at}

-- one where it holds
abbrev pub one_if : Bool → ℕ
one_if b = cond b 1 0

-- Where a packet stands.

-- the element that has the packet
pub place_of : {A : Type 0} (key : A → ℕ) (packet : ℕ) (xs : List A) → 1 ≤ times packet (map key xs) →
    (k : ℕ) × (x : A) × (k < length xs) × (get_or xs k x ≡ x) × (key x ≡ packet)
place_of key packet [] some = absurd (omega (arith, some))
place_of key packet (x ∷ xs) some = elim (cases_eq (key x) packet) [
  | inl same ↦ (0, x, omega arith, refl, same)
  | inr other ↦
      (let (k, y, inside, is, named) = place_of key packet xs
      (omega (arith, some, times-other packet (key x) (map key xs) other)) in
      (suc k, y, omega (arith, inside), is, named))
]

-- the same among packets
pub place_in : (packet : ℕ) (xs : List ℕ) → 1 ≤ times packet xs → (k : ℕ) × (k < length xs) × (get_or xs k 0 ≡ packet)
place_in packet [] some = absurd (omega (arith, some))
place_in packet (x ∷ xs) some = elim (cases_eq x packet) [
  | inl same ↦ (0, omega arith, same)
  | inr other ↦
      (let (k, inside, is) = place_in packet xs (omega (arith, some, times-other packet x xs other)) in
      (suc k, omega (arith, inside), is))
]

-- one that stands twice in a list that rises stands at two places in turn
pub repeated_at : (packet : ℕ) (xs : List ℕ) → IsNonDecreasing xs → 2 ≤ times packet xs →
    (k : ℕ) × IsRepeated xs k × (get_or xs k 0 ≡ packet)
repeated_at packet [] rises many = absurd (omega (arith, many))
repeated_at packet (x ∷ xs) rises many = elim (cases_eq x packet) [
  | inl same ↦
      (let all : times packet (x ∷ xs) ≡ suc (times packet xs) =
      subst (λ (p : ℕ). times p (x ∷ xs) ≡ suc (times p xs)) same (times-same x x xs refl) in
      let (k, inside, is) = place_in packet xs (omega (arith, many, all)) in
      let low : x ≤ get_or xs 0 0 = rises 0 1 0 (omega arith) (omega (arith, inside)) in
      let high : get_or xs 0 0 ≤ get_or xs k 0 = rises 1 (suc k) 0 (omega arith) (omega (arith, inside)) in
      (0, (omega (arith, inside), omega (arith, low, high, is, same)), same))
  | inr other ↦
      (let (k, two, is) = repeated_at packet xs
      (λ i j d before inside. rises (suc i) (suc j) d (omega arith) (omega arith))
      (omega (arith, many, times-other packet x xs other)) in
      (suc k, (omega (arith, two.0), two.1), is))
]

-- and one that stands at two places in turn stands twice
pub twice_there : (xs : List ℕ) (k : ℕ) → IsRepeated xs k → 2 ≤ times (get_or xs k 0) xs
twice_there [] k two = absurd (omega (arith, two.0))
twice_there (x ∷ xs) zero two =
    omega (arith, times-same x x xs refl, stands_at x xs 0 (omega (arith, two.0)) (sym two.1))
twice_there (x ∷ xs) (suc k) two =
    omega (arith, twice_there xs k (omega (arith, two.0), two.1), times-cons (get_or xs k 0) x xs)

-- what a search found stands there
pub found_there : (packet : ℕ) (xs : List ℕ) (i : ℕ) → (i < length xs) × (get_or xs i 0 ≡ packet) →
    true ≡ nat_le 1 (times packet xs)
found_there packet xs i (inside, is) = sym (counted (times packet xs) (stands_at packet xs i inside is))
  where
    counted : (n : ℕ) → 1 ≤ n → nat_le 1 n ≡ true
    counted n some = grind (arith, some)

-- Answered calls that do not stand.

-- the calls before this place stand
abbrev pub AllThere : List Record → (order : List ℕ) → (i : ℕ) → Type 0
AllThere calls order i = (k : ℕ) (d : Record) → k < i → k < length calls → 1 ≤ times (get_or calls k d).packet order

-- with one call more that stands
pub there_more : (calls : List Record) (order : List ℕ) (i : ℕ) (d : Record) → i < length calls →
    AllThere calls order i →
    1 ≤ times (get_or calls i d).packet order → AllThere calls order (i + 1)
there_more calls order i d inside all here k e within low = elim (cases_lt k i) [
  | inr last ↦ subst (λ (n : ℕ). 1 ≤ times (get_or calls n e).packet order) (same k last within) at_e
  | inl before ↦ all k e before low
]
  where
    same : (k : ℕ) → i ≤ k → k < i + 1 → i ≡ k
    same k last within = omega arith

    at_e : 1 ≤ times (get_or calls i e).packet order
    at_e = subst (λ (r : Record). 1 ≤ times r.packet order) (get_or_default calls i d e inside) here

-- where all calls were looked at, all stand
pub all_there : (calls : List Record) (order : List ℕ) (i : ℕ) → length calls ≤ i → AllThere calls order i →
    (packet : ℕ) →
    IsThere calls order packet
all_there calls order i end all packet some =
    let (k, r, inside, is, named) = place_of (λ (r : Record). r.packet) packet calls some in
    subst (λ (p : ℕ). 1 ≤ times p order) (ap (λ (r : Record). r.packet) is ∙ named)
    (all k r (omega (arith, inside, end)) inside)

-- a call that does not stand behind others that do is the first such
pub missing_at : (calls : List Record) (order : List ℕ) (i : ℕ) (d : Record) → IsSortedByKey
    (λ r. r.packet) nat_cmp calls →
    i < length calls → AllThere calls order i → times (get_or calls i d).packet order ≡ 0 →
    IsFirstMissing calls order (get_or calls i d).packet
missing_at calls order i d sorted inside all none = record {
  fault = λ there. omega (
    arith,
    none,
    there
        (some_times (λ (r : Record). r.packet) (get_or calls i d).packet calls i d inside refl),
  );
  earlier = λ other less some.
      (let (k, r, low, is, named) = place_of (λ (r : Record). r.packet) other calls some in
      let at : (get_or calls k r).packet ≡ other = ap (λ (r : Record). r.packet) is ∙ named in
      elim (cases_lt k i) [
        | inr after ↦ absurd (omega (arith, less, at, same_at k r low, rises i k r after low))
        | inl before ↦ subst (λ (p : ℕ). 1 ≤ times p order) at (all k r before low)
      ]);
}
  where
    rises : IsNonDecreasingBy (λ (r : Record). r.packet) calls
    rises = IsNonDecreasingBy-from_sort (λ (r : Record). r.packet) calls sorted

    same_at : (k : ℕ) (r : Record) → k < length calls → (get_or calls i d).packet ≡ (get_or calls i r).packet
    same_at k r low = ap (λ (x : Record). x.packet) (get_or_default calls i d r inside)

-- Packets that stand and may not.

-- the packets before this place may stand, and once alone
abbrev pub AllWell : List Record → List Pending → (order : List ℕ) → (i : ℕ) → Type 0
AllWell calls pending order i = (k : ℕ) → k < i → (IsRepeated order k → ⊥)
    × (1 ≤ answers_at calls (get_or order k 0) + effects_at pending (get_or order k 0))

-- with one packet more that may stand
pub well_more : (calls : List Record) (pending : List Pending) (order : List ℕ) (i : ℕ) →
    AllWell calls pending order i →
    (IsRepeated order i → ⊥) → 1 ≤ answers_at calls (get_or order i 0) + effects_at pending (get_or order i 0) →
    AllWell calls pending order (i + 1)
well_more calls pending order i all once known k within = elim (cases_lt k i) [
  | inr last ↦
      (let same : i ≡ k = omega arith in
      subst (λ (n : ℕ). (IsRepeated order n → ⊥)
      × (1 ≤ answers_at calls (get_or order n 0) + effects_at pending (get_or order n 0))) same (once, known))
  | inl before ↦ all k before
]

-- a packet that stands before this place alone may stand
well_upto : (calls : List Record) (pending : List Pending) (order : List ℕ) (i packet : ℕ) → IsNonDecreasing order →
    AllWell calls pending order i → ((k : ℕ) → k < length order → get_or order k 0 ≡ packet → k < i) →
    MayBeThere calls pending order packet
well_upto calls pending order i packet rises all before = record {
  once = elim (cases_lt (times packet order) 2) [
    | inr many ↦
        (let (k, two, is) = repeated_at packet order rises many in
        absurd ((all k (before k (omega (arith, two.0)) is)).0 two))
    | inl few ↦ omega arith
  ];
  known = λ some.
      (let (k, inside, is) = place_in packet order some in
      subst (λ (p : ℕ). 1 ≤ answers_at calls p + effects_at pending p) is ((all k (before k inside is)).1));
}

-- where all packets were looked at, all may stand
pub all_well : (calls : List Record) (pending : List Pending) (order : List ℕ) (i : ℕ) → IsNonDecreasing order →
    length order ≤ i → AllWell calls pending order i → (packet : ℕ) → MayBeThere calls pending order packet
all_well calls pending order i rises end all packet =
    well_upto calls pending order i packet rises all (λ k inside is. omega (arith, inside, end))

-- packets below the one at this place may stand
earlier_well : (calls : List Record) (pending : List Pending) (order : List ℕ) (i : ℕ) → IsNonDecreasing order →
    i < length order → AllWell calls pending order i → (other : ℕ) → other < get_or order i 0 →
    MayBeThere calls pending order other
earlier_well calls pending order i rises inside all other less =
    well_upto calls pending order i other rises all (λ k low is. before k low is (cases_lt k i))
  where
    before : (k : ℕ) → k < length order → get_or order k 0 ≡ other → (k < i) ⊎ (i ≤ k) → k < i
    before k low is (inr after) = absurd (omega (arith, less, is, rises i k 0 after low))
    before k low is (inl good) = good

-- a packet that stands twice is the first that may not
pub stray_twice : (calls : List Record) (pending : List Pending) (order : List ℕ) (i : ℕ) → IsNonDecreasing order →
    i < length order → AllWell calls pending order i → IsRepeated order i →
    IsFirstStray calls pending order (get_or order i 0)
stray_twice calls pending order i rises inside all two = record {
  fault = λ may. omega (arith, may.once, twice_there order i two);
  earlier = earlier_well calls pending order i rises inside all;
}

-- so is one without a call that may stand
pub stray_unknown : (calls : List Record) (pending : List Pending) (order : List ℕ) (i : ℕ) → IsNonDecreasing order →
    i < length order → AllWell calls pending order i →
    answers_at calls (get_or order i 0) + effects_at pending (get_or order i 0) ≡ 0 →
    IsFirstStray calls pending order (get_or order i 0)
stray_unknown calls pending order i rises inside all none = record {
  fault = λ may. omega (arith, none, may.known (stands_at (get_or order i 0) order i inside refl));
  earlier = earlier_well calls pending order i rises inside all;
}

-- a packet without an answered call has its pending update alone
pub known_effect : (calls : List Record) (pending : List Pending) (packet : ℕ) →
    IsCallOf (λ (r : Record). r.packet) calls packet None →
    nat_le 1 (effects_at pending packet) ≡ nat_le 1 (answers_at calls packet + effects_at pending packet)
known_effect calls pending packet none =
    let same : effects_at pending packet ≡ answers_at calls packet + effects_at pending packet =
    omega (arith, no_times (λ (r : Record). r.packet) packet calls none) in
    ap (λ (n : ℕ). nat_le 1 n) same

-- Pending updates.

-- a packet with an answered call is known
pub known_answer : (calls : List Record) (pending : List Pending) (packet : ℕ) (call : Record) →
    IsCallOf (λ (r : Record). r.packet) calls packet (Some call) →
    true ≡ nat_le 1 (answers_at calls packet + effects_at pending packet)
known_answer calls pending packet call (i, inside, is, named) =
    counted (answers_at calls packet) (effects_at pending packet)
    (some_times (λ (r : Record). r.packet) packet calls i call inside (ap (λ (r : Record). r.packet) is ∙ named))
  where
    counted : (n m : ℕ) → 1 ≤ n → true ≡ nat_le 1 (n + m)
    counted n m some = grind (arith, some)

-- the one pending call of a packet counts where it is an update
pub effect_some : {A : Type 0} (key : A → ℕ) (packet : ℕ) (test : A → Bool) (xs : List A) (i : ℕ) (x : A) →
    times packet (map key xs) ≤ 1 → i < length xs → get_or xs i x ≡ x → key x ≡ packet →
    times packet (map key (filter test xs)) ≡ one_if (test x)
effect_some key packet test [] i x once inside is named = absurd (omega arith)
effect_some {A = A} key packet test (y ∷ xs) zero x once inside is named =
    subst (λ (z : A). times packet (map key (filter test (z ∷ xs))) ≡ one_if (test x)) (sym is) (go (test x))
  where
    rest : times packet (map key (filter test xs)) ≡ 0
    rest = omega (
      arith,
      once,
      filter_within key packet test xs,
      ap key is,
      named,
      subst (λ (p : ℕ). times p (key y ∷ map key xs) ≡ suc (times p (map key xs))) (ap key is ∙ named)
          (times-same (key y) (key y) (map key xs) refl),
    )

    go : (b : Bool) → times packet (map key (cond b (x ∷ filter test xs) (filter test xs))) ≡ one_if b
    go true =
        subst (λ (p : ℕ). times p (key x ∷ map key (filter test xs)) ≡ suc (times p (map key (filter test xs))))
        named (times-same (key x) (key x) (map key (filter test xs)) refl) ∙ ap suc rest
    go false = rest
effect_some key packet test (y ∷ xs) (suc i) x once inside is named =
    go (test y) ∙ effect_some key packet test xs i x (omega (arith, once, times-cons packet (key y) (map key xs)))
    (omega arith) is named
  where
    other : key y ≡ packet → ⊥
    other same =
        (let all : times packet (key y ∷ map key xs) ≡ suc (times packet (map key xs)) =
        subst (λ (p : ℕ). times p (key y ∷ map key xs) ≡ suc (times p (map key xs))) same
        (times-same (key y) (key y) (map key xs) refl) in
        omega (arith, once, all, some_times key packet xs i x (omega arith) (ap key is ∙ named)))

    go : (b : Bool) → times packet (map key (cond b (y ∷ filter test xs) (filter test xs))) ≡ times packet
        (map key (filter test xs))
    go true = times-other packet (key y) (map key (filter test xs)) other
    go false = refl

-- a packet without a pending call has no update
pub effect_none : {A : Type 0} (key : A → ℕ) (packet : ℕ) (test : A → Bool) (xs : List A) →
    ((i : ℕ) (d : A) → i < length xs → key (get_or xs i d) ≡ packet → ⊥) → times packet (map key (filter test xs)) ≡ 0
effect_none key packet test xs none =
    omega (arith, filter_within key packet test xs, no_times key packet xs none)

-- one or none says what held
pub one_is : (b : Bool) → nat_le 1 (one_if b) ≡ b
one_is true = refl
one_is false = refl

-- a number that is or is not counted
pub none_counted : (n : ℕ) → nat_le 1 n ≡ false → n ≡ 0
none_counted zero is = refl
none_counted (suc n) is = absurd (grind arith)

-- a number that is counted is at least one
pub some_counted : (n : ℕ) → nat_le 1 n ≡ true → 1 ≤ n
some_counted n is = grind arith

-- The lesser of the two.

-- the least packet that is missing is the least fault, where those below it may stand
pub least_missing : (calls : List Record) (pending : List Pending) (order : List ℕ) (packet : ℕ) →
    IsFirstMissing calls order packet → ((other : ℕ) → other < packet → MayBeThere calls pending order other) →
    IsLeastOf calls pending order packet
least_missing calls pending order packet first may = record {
  fault = λ so. first.fault so.there;
  least = λ other less. record { there = first.earlier other less; may = may other less };
}

-- so is the least that may not stand, where those below it are there
pub least_stray : (calls : List Record) (pending : List Pending) (order : List ℕ) (packet : ℕ) →
    IsFirstStray calls pending order packet → ((other : ℕ) → other < packet → IsThere calls order other) →
    IsLeastOf calls pending order packet
least_stray calls pending order packet first there = record {
  fault = λ so. first.fault so.may;
  least = λ other less. record { there = there other less; may = first.earlier other less };
}

-- the lesser of the two is the least fault
pub least_of_two : (calls : List Record) (pending : List Pending) (order : List ℕ) (one other : ℕ) →
    IsFirstMissing calls order one → IsFirstStray calls pending order other →
    IsLeastOf calls pending order (min one other)
least_of_two calls pending order one other missing stray = elim (cases_lt other one) [
  | inr before ↦
      (let is : one ≡ min one other = omega arith in
      subst (IsLeastOf calls pending order) is
      (least_missing calls pending order one missing (λ p less. stray.earlier p (omega arith))))
  | inl after ↦
      (let is : other ≡ min one other = omega arith in
      subst (IsLeastOf calls pending order) is
      (least_stray calls pending order other stray (λ p less. missing.earlier p (omega arith))))
]

-- which packet the two name
abbrev pub Missing : List Record → (order : List ℕ) → Option ℕ → Type 0
Missing calls order found = MatchOption found ((packet : ℕ) → IsThere calls order packet) (IsFirstMissing calls order)

-- which packet may not stand, if any
abbrev pub Stray : List Record → List Pending → (order : List ℕ) → Option ℕ → Type 0
Stray calls pending order found =
    MatchOption found ((packet : ℕ) → MayBeThere calls pending order packet) (IsFirstStray calls pending order)

-- which packet is the least fault, if any
abbrev pub Least : List Record → List Pending → (order : List ℕ) → Option ℕ → Type 0
Least calls pending order found =
    MatchOption found ((packet : ℕ) → StandsSo calls pending order packet) (IsLeastOf calls pending order)

-- where none is missing, the least fault is the one that may not stand
pub none_missing : (calls : List Record) (pending : List Pending) (order : List ℕ) (stray : Option ℕ) →
    Missing calls order None → Stray calls pending order stray → Least calls pending order stray
none_missing calls pending order None there may = λ packet. record { there = there packet; may = may packet }
none_missing calls pending order (Some q) there first = least_stray calls pending order q first
    (λ other less. there other)
