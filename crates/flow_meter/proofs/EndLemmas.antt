-- Records that are sorted by their ends.
use Rattle.std.proofs.Common.{◌≡◌, ℕ, suc, ◌<◌, ◌≤◌, Bool, true, false, List, [], ◌∷◌, length, get_or, inl, inr, refl, sym, ap, ◌∙◌, arith, Option, Some, None}
use Rattle.std.specs.Prelude.{IsSortedBy}
use Rattle.std.specs.Cmp.{IsStrictWeakOrder, IsTotalOrder, nat_cmp_is}
use Rattle.std.specs.Ordering.{is_lt, nat_cmp, ordering_then}
use Rattle.std.specs.declared.cmp.Ordering.{Ordering}
use Rattle.std.specs.declared.cmp.Ordering.TheVariants.{Less, Equal}
use Rattle.std.proofs.lemmas.Cmp.{on_total, then_total, nat_cmp_total}
use Rattle.std.proofs.lemmas.List.Sorted.{ranks_by, sorted_far}
use Rattle.list_laws.proofs.Lists.{In}
use Rattle.list_laws.proofs.Truths.{not_both}
use Rattle.flow_times.specs.Ends.{End, IsBefore, IsFirstBy}
use Rattle.flow_meter.specs.declared.ends.EndRecord.{EndRecord}
use Rattle.flow_meter.specs.Ends.{AreByEnds, end_at, end_cmp, end_kind, end_mark}

-- the order of ends is total
pub ends_total : IsTotalOrder end_cmp
ends_total = then_total (on_total (λ (end : End). end.at.stretch) nat_cmp_total)
    (then_total (on_total (λ (end : End). end.at.clock) nat_cmp_total)
    (then_total (on_total (λ (end : End). end_kind end.by) nat_cmp_total)
    (on_total (λ (end : End). end_mark end.by end.number) nat_cmp_total)))

-- ---- what stands before is less

less_first : (a b : ℕ) (rest : Ordering) → a < b → is_lt (ordering_then (nat_cmp a b) rest) ≡ true
less_first a b rest less =
    ap (λ (o : Ordering). is_lt (ordering_then o rest)) (sym (nat_cmp_is a b Less less))

same_first : (a b : ℕ) (rest : Ordering) → a ≡ b → ordering_then (nat_cmp a b) rest ≡ rest
same_first a b rest same = ap (λ (o : Ordering). ordering_then o rest) (sym (nat_cmp_is a b Equal same))

by_kind : (b c : Option ℕ) (n m : ℕ) → IsFirstBy b c n m →
    is_lt (ordering_then (nat_cmp (end_kind b) (end_kind c)) (nat_cmp (end_mark b n) (end_mark c m))) ≡ true
by_kind (Some p) (Some q) n m first =
    ap is_lt (same_first 0 0 (nat_cmp p q) refl ∙ sym (nat_cmp_is p q Less first))
by_kind (Some p) None n m first = less_first 0 1 (nat_cmp p m) (omega arith)
by_kind None (Some q) n m first = absurd first
by_kind None None n m first = ap is_lt (same_first 1 1 (nat_cmp n m) refl ∙ sym (nat_cmp_is n m Less first))

before_less : (one other : End) → IsBefore one other → is_lt (end_cmp one other) ≡ true
before_less one other (inl stretch) = less_first one.at.stretch other.at.stretch _ stretch
before_less one other (inr (inl (same, clock))) =
    ap is_lt (same_first one.at.stretch other.at.stretch _ same)
    ∙ less_first one.at.clock other.at.clock _ clock
before_less one other (inr (inr (same, equal, first))) =
    ap is_lt (same_first one.at.stretch other.at.stretch _ same)
    ∙ ap is_lt (same_first one.at.clock other.at.clock _ equal)
    ∙ by_kind one.by other.by one.number other.number first

-- ---- a sorted list

-- the one end is less than the other
abbrev pub is_less : EndRecord → EndRecord → Bool
is_less one other = is_lt (end_cmp (end_at one.end) (end_at other.end))

-- a member has a place
member_at : (xs : List EndRecord) (x : EndRecord) → In x xs →
    (k : ℕ) × (k < length xs) × ((d : EndRecord) → get_or xs k d ≡ x)
member_at [] x within = absurd within
member_at (y ∷ xs) x (inl same) = (0, omega arith, λ d. sym same)
member_at (y ∷ xs) x (inr within) =
    let there = member_at xs x within in
    let less = there.1 in
    (suc there.0, omega (arith, less), there.2)

by_places : (xs : List EndRecord) → ((i j : ℕ) (d : EndRecord) → i ≤ j → j < length xs →
    is_less (get_or xs j d) (get_or xs i d) ≡ false) → AreByEnds xs
by_places [] far = tt
by_places (x ∷ xs) far = (
  (λ other within before.
      let there = member_at xs other within in
      let less = there.1 in
      not_both (is_less other x) (before_less (end_at other.end) (end_at x.end) before)
      (ap (λ (y : EndRecord). is_less y x) (sym (there.2 x))
      ∙ far 0 (suc there.0) x (omega arith) (omega (arith, less)))),
  by_places xs (λ i j d from inside. far (suc i) (suc j) d (omega (arith, from)) (omega (arith, inside))),
)

-- the order that a sort asks for
pub less_order : IsStrictWeakOrder is_less
less_order = ranks_by ends_total (λ (one : EndRecord). end_at one.end)

-- a sorted list is in the order of ends
pub sorted_by_ends : (xs : List EndRecord) → IsSortedBy is_less xs → AreByEnds xs
sorted_by_ends xs sorted =
    by_places xs (λ i j d from inside. sorted_far is_less less_order xs sorted i j d from inside)
