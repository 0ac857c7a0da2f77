-- Reading the order backwards, row by row and seat by seat.
use Rattle.std.proofs.Common.{◌≡◌, ◌≢◌, ℕ, zero, suc, ◌+◌, ◌-◌, ◌^◌, ◌<◌, ◌≤◌, cond, eqb, ltb, List, [], ◌∷◌, ◌++◌, length, refl, sym, ap, ◌∙◌, subst, arith, length-append, append_assoc}
use Rattle.std.proofs.Common.{reverse}
use Rattle.std.specs.Prelude.{All}
use Rattle.std.proofs.lemmas.Bool.{cond-true, cond-false, lt-ltb, le-ltb, ne_eqb, eq-eqb}
use Rattle.std.proofs.lemmas.List.{reverse-append, reverse-reverse, length-reverse}
use Rattle.std.proofs.lemmas.List.Elements.{All-head, All-tail, All-cons, All-nil}
use Rattle.sim_steps.specs.declared.words.Address.TheVariants.{StateWord}
use Rattle.sim_steps.specs.Order.{Entry, news, read_word, read_applied, read_order_to}

-- what holds of all holds of those at the end
pub all_right : (P : Entry → Type 0) (xs ys : List Entry) → All P (xs ++ ys) → All P ys
all_right P [] ys a = a
all_right P (x ∷ xs) ys a = all_right P xs ys (All-tail P x (xs ++ ys) a)

-- and of those at the front
pub all_left : (P : Entry → Type 0) (xs ys : List Entry) → All P (xs ++ ys) → All P xs
all_left P [] ys a = All-nil P
all_left P (x ∷ xs) ys a = All-cons P x xs (All-head P x (xs ++ ys) a) (all_left P xs ys (All-tail P x (xs ++ ys) a))

module _ (o n : ℕ → ℕ) where
  -- what one seat has new
  abbrev one : ℕ → List Entry
  one k = cond (ltb (o k) (n k)) ((k, n k) ∷ []) []

  -- what some seats have new is what the first and the others have
  news-split : (k a b : ℕ) → news o n k (a + b) ≡ news o n k a ++ news o n (k + a) b
  news-split k zero b = let e : 0 + b ≡ b = omega arith in let f : k ≡ k + 0 = omega arith in
      ap (news o n k) e ∙ ap (λ j. news o n j b) f
  news-split k (suc a) b =
      let e : suc a + b ≡ suc (a + b) = omega arith in
      let f : k + 1 + a ≡ k + suc a = omega arith in
      ap (news o n k) e ∙ ap (λ xs. one k ++ xs)
      (news-split (k + 1) a b ∙ ap (λ j. news o n (k + 1) a ++ news o n j b) f)
      ∙ sym (append_assoc (one k) (news o n (k + 1) a) (news o n (k + suc a) b))

  -- one seat more, before those from s on
  pub news_before : (s seats : ℕ) → 0 < s → s ≤ seats →
      news o n (s - 1) (seats - (s - 1)) ≡ one (s - 1) ++ news o n s (seats - s)
  news_before s seats h k =
      let e : seats - (s - 1) ≡ suc (seats - s) = omega arith in
      let f : s - 1 + 1 ≡ s = omega arith in
      ap (news o n (s - 1)) e ∙ ap (λ j. one (s - 1) ++ news o n j (seats - s)) f

  -- and so around one seat
  all_news : (s seats : ℕ) → 0 < s → s ≤ seats →
      news o n 0 seats ≡ news o n 0 (s - 1) ++ (one (s - 1) ++ news o n s (seats - s))
  all_news s seats h k =
      let e : seats ≡ (s - 1) + (seats - (s - 1)) = omega arith in
      let z : 0 + (s - 1) ≡ s - 1 = omega arith in
      ap (news o n 0) e ∙ news-split 0 (s - 1) (seats - (s - 1))
      ∙ ap (λ j. news o n 0 (s - 1) ++ news o n j (seats - (s - 1))) z
      ∙ ap (λ xs. news o n 0 (s - 1) ++ xs) (news_before s seats h k)

  -- reading backwards, a seat with something new adds it
  pub pushed : (s seats : ℕ) → 0 < s → s ≤ seats → o (s - 1) < n (s - 1) →
      reverse (news o n (s - 1) (seats - (s - 1))) ≡ reverse (news o n s (seats - s)) ++ (s - 1, n (s - 1)) ∷ []
  pushed s seats h k t =
      ap reverse (news_before s seats h k ∙ ap (λ xs. xs ++ news o n s (seats - s))
      (cond-true (ltb (o (s - 1)) (n (s - 1))) ((s - 1, n (s - 1)) ∷ []) [] (lt-ltb (o (s - 1)) (n (s - 1)) t)))
      ∙ reverse-append (let x : Entry = (s - 1, n (s - 1)) in x ∷ []) (news o n s (seats - s))

  -- and one with nothing new does not
  pub passed : (s seats : ℕ) → 0 < s → s ≤ seats → n (s - 1) ≤ o (s - 1) →
      reverse (news o n (s - 1) (seats - (s - 1))) ≡ reverse (news o n s (seats - s))
  passed s seats h k t =
      ap reverse (news_before s seats h k ∙ ap (λ xs. xs ++ news o n s (seats - s))
      (cond-false (ltb (o (s - 1)) (n (s - 1))) ((s - 1, n (s - 1)) ∷ []) [] (le-ltb (o (s - 1)) (n (s - 1)) t)))

  -- the whole with that seat's entry in it
  with_it : (s seats : ℕ) → 0 < s → s ≤ seats → o (s - 1) < n (s - 1) →
      news o n 0 seats ≡ news o n 0 (s - 1) ++ (((s - 1, n (s - 1)) ∷ []) ++ news o n s (seats - s))
  with_it s seats h k t =
      all_news s seats h k ∙ ap (λ xs. news o n 0 (s - 1) ++ (xs ++ news o n s (seats - s)))
      (cond-true (ltb (o (s - 1)) (n (s - 1))) ((s - 1, n (s - 1)) ∷ []) [] (lt-ltb (o (s - 1)) (n (s - 1)) t))

  -- its number is small
  pub number_small : (s seats : ℕ) → 0 < s → s ≤ seats → o (s - 1) < n (s - 1) →
      All (λ entry. entry.1 < 2 ^ 32) (news o n 0 seats) → n (s - 1) < 2 ^ 32
  number_small s seats h k t a =
      let P : Entry → Type 0 = λ entry. entry.1 < 2 ^ 32 in
      All-head P (s - 1, n (s - 1)) (news o n s (seats - s))
      (all_right P (news o n 0 (s - 1)) (((s - 1, n (s - 1)) ∷ []) ++ news o n s (seats - s))
      (subst (All P) (with_it s seats h k t) a))

  -- and there is room for it
  pub room_left : (s seats : ℕ) → 0 < s → s ≤ seats → o (s - 1) < n (s - 1) →
      length (reverse (news o n s (seats - s))) + 1 ≤ length (news o n 0 seats)
  room_left s seats h k t =
      omega (
        arith,
        length-reverse (news o n s (seats - s)),
        ap (length {A = Entry}) (with_it s seats h k t),
        length-append (news o n 0 (s - 1)) (((s - 1, n (s - 1)) ∷ []) ++ news o n s (seats - s)),
      )

-- ---- row by row

module _ (seats rows : ℕ) (words : List ℕ) where
  -- the row before
  abbrev base_of : ℕ → ℕ
  base_of row = read_word seats rows words (StateWord row 0)

  -- what a row has new
  abbrev new_in : ℕ → List Entry
  new_in row = news (read_applied seats rows words (base_of row - 1)) (read_applied seats rows words row) 0 seats

  -- the order up to a row is that up to the one before, and what is new
  pub order_step : (more row : ℕ) → 0 < more → 0 < base_of row →
      read_order_to seats rows words more row ≡ read_order_to seats rows words (more - 1) (base_of row - 1)
      ++ new_in row
  order_step zero row h k = absurd (omega arith)
  order_step (suc more) row h k =
      let other : base_of row ≢ 0 = omega arith in
      let e : more ≡ suc more - 1 = omega arith in
      cond-false (eqb (base_of row) 0) [] (read_order_to seats rows words more (base_of row - 1) ++ new_in row)
      (ne_eqb (base_of row) 0 other)
      ∙ ap (λ m. read_order_to seats rows words m (base_of row - 1) ++ new_in row) e

  -- where there is none before, it ends
  pub order_end : (more row : ℕ) → (0 < more → 0 < base_of row → ⊥) → read_order_to seats rows words more row ≡ []
  order_end zero row h = refl
  order_end (suc more) row h =
      let none : base_of row ≡ 0 = omega (arith, h (omega arith)) in
      cond-true (eqb (base_of row) 0) [] (read_order_to seats rows words more (base_of row - 1) ++ new_in row)
      (eq-eqb (base_of row) 0 none)

-- what was pushed of one row, before what was pushed of later ones
pub reversed_more : (order front here : List Entry) (out : List Entry) → order ≡ (front ++ here) ++ reverse out →
    order ≡ front ++ reverse (out ++ reverse here)
reversed_more order front here out e =
    e ∙ append_assoc front here (reverse out) ∙ ap (λ xs. front ++ (xs ++ reverse out)) (sym (reverse-reverse here))
    ∙ ap (λ xs. front ++ xs) (sym (reverse-append out (reverse here)))

-- ---- one row back, whose base word is b

module _ (seats rows : ℕ) (words : List ℕ) (more row b : ℕ) (h : 0 < more)
    (e : b ≡ read_word seats rows words (StateWord row 0)) (k : 0 < b) where
  -- the order up to the row before
  abbrev front : List Entry
  front = read_order_to seats rows words (more - 1) (b - 1)

  -- what this row has new
  abbrev here : List Entry
  here = news (read_applied seats rows words (b - 1)) (read_applied seats rows words row) 0 seats

  -- the order is these two
  split : read_order_to seats rows words more row ≡ front ++ here
  split =
      order_step seats rows words more row h (omega (arith, e, k))
      ∙ ap (λ x. read_order_to seats rows words (more - 1) (x - 1)
      ++ news (read_applied seats rows words (x - 1)) (read_applied seats rows words row) 0 seats) (sym e)

  -- so it is with what was read already
  pub back_order : (order out : List Entry) → order ≡ read_order_to seats rows words more row ++ reverse out →
      order ≡ front ++ reverse (out ++ reverse here)
  back_order order out i = reversed_more order front here out (i ∙ ap (λ xs. xs ++ reverse out) split)

  -- there is room for all of it
  pub back_room : (order out : List Entry) → order ≡ read_order_to seats rows words more row ++ reverse out →
      length out + length here ≤ length order
  back_room order out i =
      omega (
        arith,
        ap (length {A = Entry}) (i ∙ ap (λ xs. xs ++ reverse out) split),
        length-append (front ++ here) (reverse out),
        length-append front here,
        length-reverse out,
      )

  -- and its numbers are small
  pub back_small : (P : Entry → Type 0) (order out : List Entry) →
      order ≡ read_order_to seats rows words more row ++ reverse out → All P order → All P here
  back_small P order out i a = all_right P front here (all_left P (front ++ here) (reverse out)
      (subst (All P) (i ∙ ap (λ xs. xs ++ reverse out) split) a))
