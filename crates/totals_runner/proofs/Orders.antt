-- The order of a table's adds, seat by seat: its entries are of the table's seats, and a seat's are numbered from 1 on.
use Rattle.std.proofs.Common.{◌≡◌, ◌==◌, ℕ, zero, suc, ◌+◌, ◌-◌, ◌<◌, ◌≤◌, Bool, true, false, cond, ltb, List, [], ◌∷◌, ◌++◌, map, length, take, drop, get_or, refl, sym, ap, subst, ◌∙◌, arith, length-append}
use Rattle.std.specs.Prelude.{All, filter}
use Rattle.std.proofs.lemmas.Bool.{cond_both, cond-true, eqb-true, eq-eqb}
use Rattle.std.proofs.lemmas.List.{get_or_at, map_push, take_more}
use Rattle.std.proofs.lemmas.List.Elements.{All-append, All-cons, All-nil, All-push, All-weaker}
use Rattle.sim_steps.specs.declared.words.Address.TheVariants.{StateWord}
use Rattle.sim_steps.specs.Order.{Entry, news, numbers_of, read_applied, read_order_to, read_word, up_to}
use Rattle.sim_steps.proofs.OrderLemmas.{numbers_of-append}
use Rattle.list_laws.proofs.Cuts.{cut_at}

-- ---- its seats

-- the adds that are new in a row are of the seats that are asked for
news_of : (old new : ℕ → ℕ) (seat more seats : ℕ) → seat + more ≤ seats →
    All (λ (e : Entry). e.0 < seats) (news old new seat more)
news_of old new seat zero seats few = All-nil (λ (e : Entry). e.0 < seats)
news_of old new seat (suc more) seats few =
    let P : Entry → Type 0 = λ e. e.0 < seats in
    let one : All P ((seat, new seat) ∷ []) =
    All-cons P (seat, new seat) [] (omega (arith, few)) (All-nil P) in
    All-append P (cond (ltb (old seat) (new seat)) ((seat, new seat) ∷ []) []) (news old new (seat + 1) more)
    (cond_both (ltb (old seat) (new seat)) ((seat, new seat) ∷ []) [] (All P) (λ _. one) (λ _. All-nil P))
    (news_of old new (seat + 1) more seats (omega (arith, few)))

-- so are those of the order up to a row
pub order_seats : (seats rows : ℕ) (words : List ℕ) (more row : ℕ) →
    All (λ (e : Entry). e.0 < seats) (read_order_to seats rows words more row)
order_seats seats rows words zero row = All-nil (λ (e : Entry). e.0 < seats)
order_seats seats rows words (suc more) row =
    let P : Entry → Type 0 = λ e. e.0 < seats in
    let base : ℕ = read_word seats rows words (StateWord row 0) in
    let earlier : List Entry = read_order_to seats rows words more (base - 1) in
    let here : List Entry =
    news (read_applied seats rows words (base - 1)) (read_applied seats rows words row) 0 seats in
    cond_both (base == 0) [] (earlier ++ here) (All P) (λ _. All-nil P)
    (λ _. All-append P earlier here (order_seats seats rows words more (base - 1))
    (news_of (read_applied seats rows words (base - 1)) (read_applied seats rows words row) 0 seats seats
    (omega arith)))

-- ---- its numbers

-- the numbers from 1 to n
up_to_are : (n : ℕ) → All (λ (i : ℕ). (0 < i) × (i ≤ n)) (up_to n)
up_to_are zero = All-nil (λ (i : ℕ). (0 < i) × (i ≤ 0))
up_to_are (suc n) =
    All-push (λ (i : ℕ). (0 < i) × (i ≤ suc n)) (up_to n) (n + 1)
    (All-weaker (λ (i : ℕ). (0 < i) × (i ≤ n)) (λ (i : ℕ). (0 < i) × (i ≤ suc n))
    (λ i both. (both.0, omega (arith, both.1))) (up_to n) (up_to_are n))
    (omega arith, omega arith)

-- the number of an entry is one of its seat's
numbers_cut : (front back : List Entry) (e : Entry) →
    numbers_of e.0 (front ++ e ∷ back) ≡ numbers_of e.0 front ++ e.1 ∷ numbers_of e.0 back
numbers_cut front back e =
    numbers_of-append e.0 front (e ∷ back)
    ∙ ap (λ ns. numbers_of e.0 front ++ (ns ++ numbers_of e.0 back))
    (cond-true (e.0 == e.0) (e.1 ∷ []) [] (eq-eqb e.0 e.0 refl))

-- an entry of an order, where a seat has so many
pub record IsNumbered (seats : ℕ) (many : ℕ → ℕ) (e : Entry) : Type 0 where
  pub seat : e.0 < seats
  pub some : 0 < e.1
  pub few : e.1 ≤ many e.0

-- each entry is numbered, where each seat's numbers are those from 1 on
pub order_numbers : (seats : ℕ) (many : ℕ → ℕ) (order : List Entry) → All (λ (e : Entry). e.0 < seats) order →
    ((seat : ℕ) → seat < seats → numbers_of seat order ≡ up_to (many seat)) → All (IsNumbered seats many) order
order_numbers seats many order of numbers k d less =
    let e : Entry = get_or order k d in
    let front : List ℕ = numbers_of e.0 (take k order) in
    let back : List ℕ = numbers_of e.0 (drop (suc k) order) in
    let inside : e.0 < seats = of k d less in
    let are : up_to (many e.0) ≡ front ++ e.1 ∷ back =
    sym (numbers e.0 inside) ∙ ap (numbers_of e.0) (cut_at order k d less)
    ∙ numbers_cut (take k order) (drop (suc k) order) e in
    let at : get_or (front ++ e.1 ∷ back) (length front) 0 ≡ e.1 = get_or_at front e.1 back 0 (length front) refl in
    let within : length front < length (front ++ e.1 ∷ back) = omega (arith, length-append front (e.1 ∷ back)) in
    let both : (0 < get_or (front ++ e.1 ∷ back) (length front) 0)
    × (get_or (front ++ e.1 ∷ back) (length front) 0 ≤ many e.0) =
    subst (λ (ns : List ℕ). All (λ (i : ℕ). (0 < i) × (i ≤ many e.0)) ns) are (up_to_are (many e.0)) (length front) 0
    within in
    record { seat = inside; some = omega (arith, both.0, at); few = omega (arith, both.1, at) }

-- ---- what stands at them

-- what is made of a seat's entries is made of its numbers
pub numbers_filter : {Y : Type 0} (g : Entry → Y) (seat : ℕ) (es : List Entry) →
    map g (filter (λ (e : Entry). e.0 == seat) es) ≡ map (λ (n : ℕ). g (seat, n)) (numbers_of seat es)
numbers_filter g seat [] = refl
numbers_filter g seat (e ∷ es) = go (e.0 == seat) (eqb-true e.0 seat) (numbers_filter g seat es)
  where
    go : (b : Bool) → (b ≡ true → e.0 ≡ seat) →
        map g (filter (λ (x : Entry). x.0 == seat) es) ≡ map (λ (n : ℕ). g (seat, n)) (numbers_of seat es) →
        map g (cond b (e ∷ filter (λ (x : Entry). x.0 == seat) es) (filter (λ (x : Entry). x.0 == seat) es))
        ≡ map (λ (n : ℕ). g (seat, n)) (cond b (e.1 ∷ []) [] ++ numbers_of seat es)
    go true same rest = ap (λ (s : ℕ). g (s, e.1) ∷ map g (filter (λ (x : Entry). x.0 == seat) es)) (same refl)
        ∙ ap (λ ys. g (seat, e.1) ∷ ys) rest
    go false same rest = rest

-- the elements of a list by their numbers
pub at_numbers : {X Y : Type 0} (f : X → Y) (xs : List X) (d : X) (n : ℕ) → n ≤ length xs →
    map (λ (i : ℕ). f (get_or xs (i - 1) d)) (up_to n) ≡ map f (take n xs)
at_numbers f xs d zero few = refl
at_numbers f xs d (suc n) few =
    let less : n < length xs = omega (arith, few) in
    let before : (n + 1) - 1 ≡ n = omega arith in
    let next : n + 1 ≡ suc n = omega arith in
    map_push (λ (i : ℕ). f (get_or xs (i - 1) d)) (up_to n) (n + 1)
    ∙ ap (λ ys. ys ++ f (get_or xs ((n + 1) - 1) d) ∷ []) (at_numbers f xs d n (omega (arith, few)))
    ∙ ap (λ (i : ℕ). map f (take n xs) ++ f (get_or xs i d) ∷ []) before
    ∙ sym (map_push f (take n xs) (get_or xs n d))
    ∙ ap (map f) (sym (take_more xs n d less)) ∙ ap (λ (m : ℕ). map f (take m xs)) next
