-- The loops that read the texts of a play find what the definitions say.
use Rattle.std.proofs.Common.{◌≡◌, ◌∙◌, ◌+◌, ◌<◌, ◌≤◌, ◌==◌, ℕ, suc, zero, Bool, true, false, cond, List, [], ◌∷◌, ◌++◌}
use Rattle.std.proofs.Common.{Option, Some, None, ap, refl, sym, map, length, take, drop, slice_index_or, arith}
use Rattle.std.specs.List.{filter, range_with_len}
use Rattle.std.specs.Option.{option_map}
use Rattle.std.proofs.lemmas.List.{append-nil, get_or-map, length-map, map_more, take-append-drop, take_all, take_more}
use Rattle.std.proofs.lemmas.List.Elements.{filter-append}
use Rattle.std.proofs.lemmas.List.FromFn.{get_or-range_with_len, length-range_with_len}
use Rattle.std.specs.Prelude.{is_some}
use Rattle.command_line.specs.Plays.{all_of, at_most_one}

-- ---- lists of which each has to be there

cons_some : {A : Type 0} (x : A) (ys : List A) (o : Option (List A)) → option_map (λ l. x ∷ l) o ≡ Some ys
    → (zs : List A) × (o ≡ Some zs) × (ys ≡ x ∷ zs)
cons_some x ys None e = cc
cons_some x ys (Some zs) e =
    let same : (x ∷ zs) ≡ ys = cc in
    (zs, refl, sym same)

-- one more at the end
all_more : {A : Type 0} (xs : List (Option A)) (ys : List A) (y : A) → all_of xs ≡ Some ys
    → all_of (xs ++ Some y ∷ []) ≡ Some (ys ++ y ∷ [])
all_more {A} [] ys y e =
    let same : [] ≡ ys = cc in
    ap (λ (l : List A). Some (l ++ y ∷ [])) same
all_more (None ∷ xs) ys y e = cc
all_more {A} (Some x ∷ xs) ys y e =
    let rest = cons_some x ys (all_of xs) e in
    ap (option_map (λ (l : List A). x ∷ l)) (all_more xs rest.0 y rest.1)
    ∙ ap (λ (l : List A). Some (l ++ y ∷ [])) (sym rest.2)

none_at : {A : Type 0} (xs : List (Option A)) (i : ℕ) (d : Option A) → i < length xs → slice_index_or xs i d ≡ None
    → all_of xs ≡ None
none_at [] i d inside e = absurd (omega arith)
none_at (None ∷ xs) i d inside e = refl
none_at (Some x ∷ xs) zero d inside e = cc
none_at {A} (Some x ∷ xs) (suc i) d inside e =
    ap (option_map (λ (l : List A). x ∷ l)) (none_at xs i d (omega arith) e)

-- a turn of a loop over the rows, where the row is read
pub all_step : {X B : Type 0} (f : X → Option B) (rows : List X) (i : ℕ) (d : X) (made : List B) (y : B)
    → i < length rows → all_of (map f (take i rows)) ≡ Some made → f (slice_index_or rows i d) ≡ Some y
    → all_of (map f (take (i + 1) rows)) ≡ Some (made ++ y ∷ [])
all_step {B = B} f rows i d made y inside so_far found =
    ap all_of (map_more f rows i d inside ∙ ap (λ (o : Option B). map f (take i rows) ++ o ∷ []) found)
    ∙ all_more (map f (take i rows)) made y so_far

-- its end
pub all_end : {X B : Type 0} (f : X → Option B) (rows : List X) (i : ℕ) (made : List B) → length rows ≤ i
    → all_of (map f (take i rows)) ≡ Some made → Some made ≡ all_of (map f rows)
all_end {X} f rows i made past so_far = sym so_far ∙ ap (λ (l : List X). all_of (map f l)) (take_all i rows past)

-- a row that is not read
pub all_none : {X B : Type 0} (f : X → Option B) (rows : List X) (i : ℕ) (d : X) → i < length rows
    → f (slice_index_or rows i d) ≡ None → None ≡ all_of (map f rows)
all_none f rows i d inside found =
    sym (none_at (map f rows) i (f d) (rw (length-map rows f) inside) (get_or-map f rows i d (f d) inside ∙ found))

-- ---- one of a list, or none

abbrev pub own : (seat : ℕ) → List (ℕ × ℕ) → List (ℕ × ℕ)
own seat stops = filter (λ stop. stop.0 == seat) stops

too_many : (l : List (ℕ × ℕ)) (k : ℕ) (s : ℕ × ℕ) (more : List (ℕ × ℕ)) → at_most_one l ≡ Some (Some k)
    → at_most_one ((l ++ s ∷ []) ++ more) ≡ None
too_many [] k s more e = cc
too_many (a ∷ []) k s more e = refl
too_many (a ∷ b ∷ l) k s more e = cc

own_more : (seat : ℕ) (stops : List (ℕ × ℕ)) (i : ℕ) (d : ℕ × ℕ) → i < length stops
    → own seat (take (i + 1) stops) ≡ own seat (take i stops) ++ own seat (slice_index_or stops i d ∷ [])
own_more seat stops i d inside =
    ap (own seat) (take_more stops i d inside) ∙ filter-append _ (take i stops) (slice_index_or stops i d ∷ [])

own_same : (seat : ℕ) (s : ℕ × ℕ) (b : Bool) → (s.0 == seat) ≡ b → own seat (s ∷ []) ≡ cond b (s ∷ []) []
own_same seat s b e = ap (λ c. cond c (s ∷ []) []) e

-- a turn of the loop at a stop of another seat
pub other_seat : (seat : ℕ) (stops : List (ℕ × ℕ)) (i : ℕ) (d : ℕ × ℕ) (found : Option ℕ) → i < length stops
    → ((slice_index_or stops i d).0 == seat) ≡ false → at_most_one (own seat (take i stops)) ≡ Some found
    → at_most_one (own seat (take (i + 1) stops)) ≡ Some found
other_seat seat stops i d found inside other so_far =
    ap at_most_one (own_more seat stops i d inside
    ∙ ap (λ (l : List (ℕ × ℕ)). own seat (take i stops) ++ l) (own_same seat (slice_index_or stops i d) false other)
    ∙ append-nil (own seat (take i stops))) ∙ so_far

-- at a second stop of the seat
pub second_stop : (seat : ℕ) (stops : List (ℕ × ℕ)) (i : ℕ) (d : ℕ × ℕ) (k : ℕ) → i < length stops
    → ((slice_index_or stops i d).0 == seat) ≡ true → at_most_one (own seat (take i stops)) ≡ Some (Some k)
    → None ≡ at_most_one (own seat stops)
second_stop seat stops i d k inside same so_far =
    let twice : own seat (take (i + 1) stops) ≡ own seat (take i stops) ++ slice_index_or stops i d ∷ [] =
    own_more seat stops i d inside
    ∙ ap (λ (l : List (ℕ × ℕ)). own seat (take i stops) ++ l) (own_same seat (slice_index_or stops i d) true same) in
    sym (ap (λ (l : List (ℕ × ℕ)). at_most_one (own seat l)) (sym (take-append-drop (i + 1) stops))
    ∙ ap at_most_one (filter-append _ (take (i + 1) stops) (drop (i + 1) stops)
    ∙ ap (λ (l : List (ℕ × ℕ)). l ++ own seat (drop (i + 1) stops)) twice)
    ∙ too_many (own seat (take i stops)) k (slice_index_or stops i d) (own seat (drop (i + 1) stops)) so_far)

-- ---- a loop over the seats

seat_at : (n i : ℕ) → i < n → slice_index_or (range_with_len 0 n) i 0 ≡ i
seat_at n i inside =
    let at = get_or-range_with_len 0 n i 0 inside in
    omega (arith, at)

pub seat_step : {B : Type 0} (f : ℕ → Option B) (n i : ℕ) (made : List B) (y : B) → i < n
    → all_of (map f (take i (range_with_len 0 n))) ≡ Some made → f i ≡ Some y
    → all_of (map f (take (i + 1) (range_with_len 0 n))) ≡ Some (made ++ y ∷ [])
seat_step f n i made y inside so_far found =
    all_step f (range_with_len 0 n) i 0 made y (rw (length-range_with_len 0 n) inside) so_far
    (ap f (seat_at n i inside) ∙ found)

pub seat_none : {B : Type 0} (f : ℕ → Option B) (n i : ℕ) → i < n → f i ≡ None
    → None ≡ all_of (map f (range_with_len 0 n))
seat_none f n i inside found =
    all_none f (range_with_len 0 n) i 0 (rw (length-range_with_len 0 n) inside) (ap f (seat_at n i inside) ∙ found)

pub seats_end : {B : Type 0} (f : ℕ → Option B) (n i : ℕ) (made : List B) → n ≤ i
    → all_of (map f (take i (range_with_len 0 n))) ≡ Some made → Some made ≡ all_of (map f (range_with_len 0 n))
seats_end f n i made past so_far =
    all_end f (range_with_len 0 n) i made (rw (length-range_with_len 0 n) past) so_far

pub second_found : (seat : ℕ) (stops : List (ℕ × ℕ)) (i : ℕ) (d : ℕ × ℕ) (found : Option ℕ) → i < length stops
    → ((slice_index_or stops i d).0 == seat) ≡ true → is_some found ≡ true
    → at_most_one (own seat (take i stops)) ≡ Some found → None ≡ at_most_one (own seat stops)
second_found seat stops i d None inside same is so_far = cc
second_found seat stops i d (Some k) inside same is so_far = second_stop seat stops i d k inside same so_far
