-- One seat's calls can stand in one order alone, so its batches answer as one thread whatever room there is.
use Rattle.std.proofs.Common.{◌≡◌, ℕ, zero, suc, ◌+◌, ◌<◌, ◌≤◌, Bool, true, cond, List, [], ◌∷◌, ◌++◌, map, length, get_or, refl, inl, inr, sym, ap, subst, ◌∙◌, length-append, append_assoc, append-nil, arith}
use Rattle.std.specs.Prelude.{All, filter, flat_map, sum_by, IsPermutation}
use Rattle.std.proofs.lemmas.Bool.{cases_lt, eq-eqb}
use Rattle.std.proofs.lemmas.List.{map-append, length-map}
use Rattle.std.proofs.lemmas.List.Elements.{All-head, All-tail}
use Rattle.std.proofs.lemmas.List.Sorted.{All-permutation, IsPermutation-trans, IsPermutation-sym, IsPermutation-map, length_permutation, sum_by-IsPermutation}
use Rattle.std.proofs.lemmas.List.Sums.{sum_by-cons}
use Rattle.plain_map.specs.declared.records.Record.{Record}
use Rattle.plain_map.specs.declared.rules.Rules.{Rules}
use Rattle.plain_map.specs.PlainObject.{Sessions}
use Rattle.plain_map.specs.History.{Placed, answered, number_of, Legal, After, Whole, sessions_after}
use Rattle.plain_map.proofs.OrderLemmas.{Legal-append, sessions_after-append}
use Rattle.list_laws.proofs.Lists.{In, in_cut, in_both, in_map, in_right}
use Rattle.batch_history.specs.Batches.{Batch, AreInOrder, AreNumbered}
use Rattle.batch_laws.specs.Threads.{IsLineOf, AreLinesOf, all_lines, OneSeatAnswers}
use Rattle.batch_laws.proofs.Lines.{is_of, line_is_permuted}
use Rattle.list_laws.proofs.Places.{all_in}
use Rattle.list_laws.proofs.Places.{in_all}
use Rattle.batch_laws.proofs.Shares.{one_seat_is_by_key}

-- ---- numbers that are at most their places, and together all of them

-- the numbers are at most these, one after the other
abbrev UpTo : ℕ → List Placed → Type 0
UpTo n [] = Unit {0}
UpTo n (p ∷ ps) = (number_of p ≤ n) × UpTo (suc n) ps

-- or are exactly these
abbrev Exactly : ℕ → List Placed → Type 0
Exactly n [] = Unit {0}
Exactly n (p ∷ ps) = (number_of p ≡ n) × Exactly (suc n) ps

-- so many numbers together
abbrev total : ℕ → ℕ → ℕ
total n zero = 0
total n (suc k) = n + total (suc n) k

most : (n : ℕ) (ps : List Placed) → UpTo n ps → sum_by number_of ps ≤ total n (length ps)
most n [] up = omega arith
most n (p ∷ ps) up = omega (arith, sum_by-cons number_of p ps, most (suc n) ps up.1, up.0)

exact : (n : ℕ) (ps : List Placed) → UpTo n ps → total n (length ps) ≤ sum_by number_of ps → Exactly n ps
exact n [] up all = tt
exact n (p ∷ ps) up all = (
  omega (arith, sum_by-cons number_of p ps, most (suc n) ps up.1, up.0, all),
  exact (suc n) ps up.1 (omega (arith, sum_by-cons number_of p ps, up.0, all)),
)

-- what stands at a place is a member
in_place : {A : Type 0} → (xs : List A) (k : ℕ) (x : A) → k < length xs → get_or xs k x ≡ x → In x xs
in_place [] k x h e = absurd (omega (arith, h))
in_place (y ∷ xs) zero x h e = inl (sym e)
in_place (y ∷ xs) (suc k) x h e = inr (in_place xs k x (omega (arith, h)) e)

-- two cuts at one place are one
cut_same : {A : Type 0} → (front other back later : List A) (a b : A) →
    front ++ a ∷ back ≡ other ++ b ∷ later → length front ≡ length other → a ≡ b
cut_same [] [] back later a b e long = (let same : a ≡ b = cc in same)
cut_same [] (y ∷ other) back later a b e long = absurd (omega (arith, long))
cut_same (x ∷ front) [] back later a b e long = absurd (omega (arith, long))
cut_same (x ∷ front) (y ∷ other) back later a b e long =
    let rest : front ++ a ∷ back ≡ other ++ b ∷ later = cc in
    cut_same front other back later a b rest (omega (arith, long))

-- ---- one seat's order

module _ (line : List Record) (order : List Placed)
    (numbered : (front back : List Record) (r : Record) → line ≡ front ++ r ∷ back → r.number ≡ length front + 1)
    (after : After order) (whole : IsPermutation (map answered line) order) where
  -- a call of the order is one of the line
  abbrev OfLine : Placed → Type 0
  OfLine p = (r : Record) × In r line × (p ≡ answered r)

  of_line : All OfLine order
  of_line = All-permutation OfLine (map answered line) order whole
      (all_in OfLine (map answered line) (λ p i. in_map answered line p i))

  -- no number is above its place
  up_to : (n : ℕ) (before rest : List Placed) → n ≡ length before + 1 → order ≡ before ++ rest →
      ((p : Placed) → In p before → number_of p < n) → UpTo n rest
  up_to n before [] is cut few = tt
  up_to n before (p ∷ rest) is cut few =
      let most : number_of p ≤ n = elim (cases_lt n (number_of p)) [
        | inr small ↦ small
        | inl large ↦
            let there = (after before rest p cut).own n (omega (arith, is)) large in
            let smaller = few there.1 (in_place before there.0 there.1 there.2 there.3) in
            absurd (omega (arith, smaller, there.4.1))
      ] in (
        most,
        up_to (suc n) (before ++ p ∷ []) rest (omega (arith, is, length-append before (p ∷ [])))
            (cut ∙ sym (append_assoc before (p ∷ []) rest))
            (λ q i. elim (in_both q before (p ∷ []) i) [
              | inl old ↦ omega (arith, few q old)
              | inr new ↦ elim new [ inl same ↦ omega (arith, ap number_of same, most) | inr none ↦ absurd none ]
            ]),
      )

  -- the numbers of the line, together
  line_total : (front rest : List Record) → line ≡ front ++ rest →
      sum_by number_of (map answered rest) ≡ total (length front + 1) (length rest)
  line_total front [] cut = refl
  line_total front (r ∷ rest) cut =
      let next : length (front ++ r ∷ []) + 1 ≡ suc (length front + 1) =
      omega (arith, length-append front (r ∷ [])) in
      omega (
        arith,
        sum_by-cons number_of (answered r) (map answered rest),
        numbered front rest r cut,
        line_total (front ++ r ∷ []) rest (cut ∙ sym (append_assoc front (r ∷ []) rest)),
        ap (λ n. total n (length rest)) next,
      )

  -- two calls of the line with one number are one
  one_number : (a b : Record) → In a line → In b line → a.number ≡ b.number → a ≡ b
  one_number a b i j same =
      let first = in_cut a line i in
      let second = in_cut b line j in
      cut_same first.0 second.0 first.1 second.1 a b (sym first.2 ∙ second.2)
      (omega (arith, numbered first.0 first.1 a first.2, numbered second.0 second.1 b second.2, same))

  -- so they stand as in the line
  same : (n : ℕ) (front rest : List Record) (ps : List Placed) → n ≡ length front + 1 → line ≡ front ++ rest →
      length ps ≡ length rest → Exactly n ps → All OfLine ps → ps ≡ map answered rest
  same n front [] [] is cut long at of = refl
  same n front [] (p ∷ ps) is cut long at of = absurd (omega (arith, long))
  same n front (r ∷ rest) [] is cut long at of = absurd (omega (arith, long))
  same n front (r ∷ rest) (p ∷ ps) is cut long at of =
      let own = All-head OfLine p ps of in
      let there : In r line = subst (In r) (sym cut) (in_right r front (r ∷ rest) (inl refl)) in
      let one : own.0 ≡ r = one_number own.0 r own.1 there
      (omega (arith, ap number_of own.2, at.0, is, numbered front rest r cut)) in
      let head : p ≡ answered r = own.2 ∙ ap answered one in
      ap (λ q. q ∷ ps) head
      ∙ ap (λ qs. answered r ∷ qs)
      (same (suc n) (front ++ r ∷ []) rest ps (omega (arith, is, length-append front (r ∷ [])))
      (cut ∙ sym (append_assoc front (r ∷ []) rest)) (omega (arith, long)) at.1 (All-tail OfLine p ps of))

  pub order_is_line : order ≡ map answered line
  order_is_line =
      let long : length order ≡ length line =
      length_permutation (map answered line) order whole ∙ length-map line answered in
      let sums = sum_by-IsPermutation number_of (map answered line) order whole in
      same 1 [] line order refl refl long
      (exact 1 order (up_to 1 [] order refl refl (λ p i. elim i [ ]))
      (omega (arith, sums, line_total [] line refl, ap (λ n. total 1 n) long))) of_line

-- ---- batch by batch

-- where all pass, all stay
filter_all : {A : Type 0} → (p : A → Bool) (xs : List A) → ((x : A) → In x xs → p x ≡ true) → filter p xs ≡ xs
filter_all p [] pass = refl
filter_all p (x ∷ xs) pass = ap (λ b. cond b (x ∷ filter p xs) (filter p xs)) (pass x (inl refl))
    ∙ ap (λ ys. x ∷ ys) (filter_all p xs (λ y i. pass y (inr i)))

-- one seat's line is its log
line_numbered : (logs : List (List Record)) (line : List Record) → length logs ≡ 1 → IsLineOf logs line →
    AreNumbered logs → (front back : List Record) (r : Record) → line ≡ front ++ r ∷ back →
    r.number ≡ length front + 1
line_numbered logs line one is numbered front back r cut =
    let all : filter (is_of 0) line ≡ line = filter_all (is_of 0) line (λ x i.
    eq-eqb x.seat 0 (in_all (λ (y : Record). y.seat ≡ 0) line x (one_seat_is_by_key logs line one is) i)) in
    (numbered 0 front back r (sym (is 0) ∙ all ∙ cut)).0

one_seat_order : (batch : Batch) (line : List Record) → length batch.logs ≡ 1 → IsLineOf batch.logs line →
    AreNumbered batch.logs → After batch.order → Whole (flat_map (λ log. log) batch.logs) [] batch.order →
    batch.order ≡ map answered line
one_seat_order batch line one is numbered after whole =
    let logs = flat_map (λ log. log) batch.logs in
    let moved : IsPermutation (map answered logs) batch.order =
    subst (λ ps. IsPermutation ps batch.order) (append-nil (map answered logs)) whole in
    order_is_line line batch.order (line_numbered batch.logs line one is numbered) after
    (IsPermutation-trans (map answered line) (map answered logs) batch.order
    (IsPermutation-map answered line logs (IsPermutation-sym logs line (line_is_permuted batch.logs line is))) moved)

answers_alone : (rules : Rules) (last : Sessions) (m : Sessions) (batches : List Batch) (lines : List (List Record)) →
    AreInOrder rules m batches last → AreLinesOf batches lines → All (λ batch. length batch.logs ≡ 1) batches →
    Legal rules m (map answered (all_lines lines))
    × (sessions_after rules m (map answered (all_lines lines)) ≡ last)
answers_alone rules last m [] [] orders are one = (tt, sym orders)
answers_alone rules last m [] (line ∷ lines) orders are one = elim are [ ]
answers_alone rules last m (batch ∷ batches) [] orders are one = elim are [ ]
answers_alone rules last m (batch ∷ batches) (line ∷ lines) orders are one =
    let is : batch.order ≡ map answered line =
    one_seat_order batch line (All-head (λ (b : Batch). length b.logs ≡ 1) batch batches one) are.0
    orders.0.numbered orders.0.after orders.0.whole in
    let rest = answers_alone rules last (sessions_after rules m (map answered line)) batches lines
    (subst (λ order. AreInOrder rules (sessions_after rules m order) batches last) is orders.1) are.1
    (All-tail (λ (b : Batch). length b.logs ≡ 1) batch batches one) in
    let both : map answered (line ++ all_lines lines) ≡ map answered line ++ map answered (all_lines lines) =
    map-append answered line (all_lines lines) in (
      subst (Legal rules m) (sym both)
          (Legal-append rules m (map answered line) (map answered (all_lines lines))
          (subst (Legal rules m) is orders.0.legal) rest.0),
      ap (sessions_after rules m) both
          ∙ sessions_after-append rules m (map answered line) (map answered (all_lines lines)) ∙ rest.1,
    )

pub one_seat_answers : OneSeatAnswers
one_seat_answers rules first last batches lines orders are one =
    answers_alone rules last first batches lines orders are one
