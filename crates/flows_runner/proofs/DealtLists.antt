-- Calls that are dealt to seats: what the seats have made is one list of them, and their counts are counts of it.
use Rattle.std.proofs.Common.{◌≡◌, ◌≢◌, ℕ, zero, suc, ◌+◌, ◌<◌, ◌≤◌, Bool, true, false, cond, List, [], ◌∷◌, ◌++◌, length, drop, refl, sym, ap, ◌∙◌, subst, true≢false, arith}
use Rattle.std.specs.Prelude.{◌==◌, filter, flat_map, map}
use Rattle.std.specs.List.{range_with_len}
use Rattle.std.specs.List.Sorted.{IsPermutation}
use Rattle.std.proofs.lemmas.Bool.{eq-eqb, eqb-true}
use Rattle.std.proofs.lemmas.List.{length-append}
use Rattle.std.proofs.lemmas.List.Sorted.{IsPermutation-append_right, IsPermutation-cons, IsPermutation-middle, IsPermutation-refl, IsPermutation-trans, length_permutation}
use Rattle.plain_map.specs.declared.keys.Key.{Key}
use Rattle.plain_map.specs.declared.calls.Call.{Call}
use Rattle.plain_map.specs.Calls.{key_in}
use Rattle.map_laws.specs.ByKey.{Made}
use Rattle.map_laws.proofs.ByKeyLists.{cons_same, nil_cons}
use Rattle.flow_laws.specs.FlowOrders.{dealt_to}
use Rattle.flow_workers.specs.declared.replies.ReplyCounts.{ReplyCounts}
use Rattle.flow_workers.specs.Counts.{added, counts_of, no_counts}
use Rattle.flow_workers.proofs.CountLists.{counts_both, counts_permuted}
use Rattle.trace_share.proofs.DealLemmas.{other_is}
use Rattle.trace_share.proofs.OnceLemmas.{flat_map_nothing, flat_map_same}

-- ---- one list of all of them

-- the calls without their replies
abbrev pub calls_in : List Made → List Call
calls_in made = map (λ (one : Made). one.0) made

-- the calls that a seat is dealt, in order
abbrev pub share_of : (deals : Key → ℕ) → (seat : ℕ) → List Call → List Call
share_of deals seat calls = filter (λ (call : Call). deals (key_in call) == seat) calls

-- without the first call that a seat has made
abbrev rest_of : (at : ℕ) → (ℕ → List Made) → ℕ → List Made
rest_of at mades seat = cond (at == seat) (drop 1 (mades seat)) (mades seat)

-- a list begins with this call
record BeginsWith (made : List Made) (call : Call) (calls : List Call) : Type 0 where
  one : Made
  later : List Made
  is : made ≡ one ∷ later
  same : one.0 ≡ call
  others : calls_in later ≡ calls

begins_with : (made : List Made) (call : Call) (calls : List Call) → calls_in made ≡ call ∷ calls →
    BeginsWith made call calls
begins_with [] call calls e = absurd (nil_cons call calls e)
begins_with (one ∷ later) call calls e =
    let both = cons_same one.0 call (calls_in later) calls e in
    record { one = one; later = later; is = refl; same = both.0; others = both.1 }

none_made : (made : List Made) → calls_in made ≡ [] → made ≡ []
none_made [] e = refl
none_made (one ∷ made) e = absurd (nil_cons one.0 (calls_in made) (sym e))

-- all calls with their replies, of which each seat has made those that it is dealt
pub record IsDealt (seats : ℕ) (deals : Key → ℕ) (calls : List Call) (mades : ℕ → List Made) : Type 0 where
  pub later : List Made
  pub are : calls_in later ≡ calls
  pub each : (seat : ℕ) → seat < seats → mades seat ≡ dealt_to deals seat later

-- a call more stands before them
module _ (seats : ℕ) (deals : Key → ℕ) (call : Call) (calls : List Call) (mades : ℕ → List Made)
    (first : BeginsWith (mades (deals (key_in call))) call (share_of deals (deals (key_in call)) calls)) where
  abbrev at : ℕ
  at = deals (key_in call)

  same_seat : (seat : ℕ) → (at == seat) ≡ true → mades seat ≡ first.one ∷ first.later
  same_seat seat same = ap mades (sym (eqb-true at seat same)) ∙ first.is

  rest_are : (seat : ℕ) → calls_in (mades seat) ≡ share_of deals seat (call ∷ calls) →
      calls_in (rest_of at mades seat) ≡ share_of deals seat calls
  rest_are seat are = go (at == seat) refl
    where
      go : (b : Bool) → (at == seat) ≡ b →
          calls_in (cond b (drop 1 (mades seat)) (mades seat)) ≡ share_of deals seat calls
      go true same = ap (λ (made : List Made). calls_in (drop 1 made)) (same_seat seat same) ∙ first.others
          ∙ ap (λ (s : ℕ). share_of deals s calls) (eqb-true at seat same)
      go false other =
          are ∙ ap (λ (b : Bool). cond b (call ∷ share_of deals seat calls) (share_of deals seat calls)) other

  dealt_first : (seat : ℕ) (later : List Made) → rest_of at mades seat ≡ dealt_to deals seat later →
      mades seat ≡ dealt_to deals seat (first.one ∷ later)
  dealt_first seat later rest = go (at == seat) refl
      ∙ sym (ap (λ (c : Call). cond (deals (key_in c) == seat) (first.one ∷ dealt_to deals seat later)
      (dealt_to deals seat later)) first.same)
    where
      go : (b : Bool) → (at == seat) ≡ b →
          mades seat ≡ cond b (first.one ∷ dealt_to deals seat later) (dealt_to deals seat later)
      go true same = same_seat seat same ∙ ap (λ (l : List Made). first.one ∷ l)
          (ap (λ (made : List Made). drop 1 made) (sym (same_seat seat same))
          ∙ ap (λ (b : Bool). cond b (drop 1 (mades seat)) (mades seat)) (sym same) ∙ rest)
      go false other = ap (λ (b : Bool). cond b (drop 1 (mades seat)) (mades seat)) (sym other) ∙ rest

-- where each seat has made the calls that it is dealt, there is one list of all calls
pub is_dealt : (seats : ℕ) (deals : Key → ℕ) → ((key : Key) → deals key < seats) →
    (calls : List Call) (mades : ℕ → List Made) →
    ((seat : ℕ) → seat < seats → calls_in (mades seat) ≡ share_of deals seat calls) → IsDealt seats deals calls mades
is_dealt seats deals inside [] mades are =
    record { later = []; are = refl; each = λ seat less. none_made (mades seat) (are seat less) }
is_dealt seats deals inside (call ∷ calls) mades are =
    let at : ℕ = deals (key_in call) in
    let own : List Call = share_of deals at calls in
    let first : BeginsWith (mades at) call own =
    begins_with (mades at) call own
    (are at (inside (key_in call)) ∙ ap (λ (b : Bool). cond b (call ∷ own) own) (eq-eqb at at refl)) in
    let then : IsDealt seats deals calls (rest_of at mades) =
    is_dealt seats deals inside calls (rest_of at mades)
    (λ seat less. rest_are seats deals call calls mades first seat (are seat less)) in
    record {
      later = first.one ∷ then.later;
      are = λ i. first.same i ∷ then.are i;
      each = λ seat less. dealt_first seats deals call calls mades first seat then.later (then.each seat less);
    }

-- ---- their counts

later_on : (t a : ℕ) → a ≤ t → t ≢ a → a + 1 ≤ t
later_on t a low apart = grind (arith, low, apart)

-- one list of some has one element more
module _ {X : Type 0} (f g : ℕ → List X) (x : X) (t : ℕ)
    (is : (s : ℕ) → f s ≡ cond (t == s) (x ∷ g s) (g s)) where
  beside : (s : ℕ) → t ≢ s → f s ≡ g s
  beside s other = is s ∙ ap (λ (b : Bool). cond b (x ∷ g s) (g s)) (other_is t s other)

  one_more : (a n : ℕ) → a ≤ t → t < a + n →
      IsPermutation (flat_map f (range_with_len a n)) (x ∷ flat_map g (range_with_len a n))
  one_more a zero low high = absurd (omega (arith, low, high))
  one_more a (suc n) low high =
      go (λ apart. one_more (a + 1) n (later_on t a low apart) (omega (arith, high))) (t == a) refl
    where
      late : List X
      late = flat_map g (range_with_len (a + 1) n)

      go : (t ≢ a → IsPermutation (flat_map f (range_with_len (a + 1) n)) (x ∷ late)) → (b : Bool) → (t == a) ≡ b →
          IsPermutation (f a ++ flat_map f (range_with_len (a + 1) n)) (x ∷ (g a ++ late))
      go later true same =
          let here : t ≡ a = eqb-true t a same in
          let whole : f a ++ flat_map f (range_with_len (a + 1) n) ≡ x ∷ (g a ++ late) =
          (λ i. (is a ∙ ap (λ (b : Bool). cond b (x ∷ g a) (g a)) same) i
          ++ flat_map_same f g (a + 1) n (λ s from to. beside s (λ e. omega (arith, here, from, e))) i) in
          subst (λ (l : List X). IsPermutation l (x ∷ (g a ++ late))) (sym whole) (IsPermutation-refl _)
      go later false other =
          let apart : t ≢ a = (λ e. absurd (true≢false (sym (eq-eqb t a e) ∙ other))) in
          subst (λ (l : List X). IsPermutation (l ++ flat_map f (range_with_len (a + 1) n)) (x ∷ (g a ++ late)))
          (sym (beside a apart))
          (IsPermutation-trans _ _ _
          (IsPermutation-append_right (g a) _ _ (later apart))
          (IsPermutation-middle (g a) x late))

-- the calls of all seats are those calls in another order
pub dealt_once : (seats : ℕ) (deals : Key → ℕ) → ((key : Key) → deals key < seats) → (made : List Made) →
    IsPermutation (flat_map (λ (seat : ℕ). dealt_to deals seat made) (range_with_len 0 seats)) made
dealt_once seats deals inside [] =
    subst (λ (l : List Made). IsPermutation l []) (sym (flat_map_nothing {X = Made} 0 seats)) (IsPermutation-refl [])
dealt_once seats deals inside (one ∷ made) =
    IsPermutation-trans _ _ _
    (one_more (λ (seat : ℕ). dealt_to deals seat (one ∷ made)) (λ (seat : ℕ). dealt_to deals seat made) one
    (deals (key_in one.0)) (λ seat. refl) 0 seats (omega arith)
    (let less = inside (key_in one.0) in omega (arith, less)))
    (IsPermutation-cons one _ _ (dealt_once seats deals inside made))

-- what some lists of calls count together
abbrev pub counts_all : List (List Made) → ReplyCounts
counts_all [] = no_counts
counts_all (made ∷ mades) = added (counts_of made) (counts_all mades)

abbrev pub length_all : {X : Type 0} → List (List X) → ℕ
length_all [] = 0
length_all (xs ∷ lists) = length xs + length_all lists

-- is what they count end to end
counts_joined : (f : ℕ → List Made) (seats : List ℕ) → counts_all (map f seats) ≡ counts_of (flat_map f seats)
counts_joined f [] = refl
counts_joined f (seat ∷ seats) = ap (added (counts_of (f seat))) (counts_joined f seats)
    ∙ sym (counts_both (f seat) (flat_map f seats))

length_joined : {X : Type 0} (f : ℕ → List X) (seats : List ℕ) → length_all (map f seats) ≡ length (flat_map f seats)
length_joined f [] = refl
length_joined f (seat ∷ seats) = ap (λ (n : ℕ). length (f seat) + n) (length_joined f seats)
    ∙ sym (length-append (f seat) (flat_map f seats))

-- the seats count each call once
pub counts_dealt : (seats : ℕ) (deals : Key → ℕ) → ((key : Key) → deals key < seats) → (made : List Made) →
    counts_all (map (λ (seat : ℕ). dealt_to deals seat made) (range_with_len 0 seats)) ≡ counts_of made
counts_dealt seats deals inside made =
    counts_joined (λ (seat : ℕ). dealt_to deals seat made) (range_with_len 0 seats)
    ∙ sym (counts_permuted (flat_map (λ (seat : ℕ). dealt_to deals seat made) (range_with_len 0 seats)) made
    (dealt_once seats deals inside made))

-- some of so many calls for each seat, seat 0 first
pub length_dealt : (seats : ℕ) (deals : Key → ℕ) → ((key : Key) → deals key < seats) → (made : List Made) →
    length_all (map (λ (seat : ℕ). dealt_to deals seat made) (range_with_len 0 seats)) ≡ length made
length_dealt seats deals inside made =
    length_joined (λ (seat : ℕ). dealt_to deals seat made) (range_with_len 0 seats)
    ∙ sym (length_permutation (flat_map (λ (seat : ℕ). dealt_to deals seat made) (range_with_len 0 seats)) made
    (dealt_once seats deals inside made))
