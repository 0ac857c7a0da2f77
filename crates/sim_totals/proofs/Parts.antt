-- How the rule begins, and how views are cut and put together.
use Rattle.std.proofs.Common.{◌≡◌, ℕ, zero, suc, ◌+◌, ◌-◌, ◌*◌, ◌<◌, ◌≤◌, List, [], ◌∷◌, ◌++◌, length, get_or, set, take, sum, replicate, ⊎_elim, refl, sym, ap, ◌∙◌, subst, arith}
use Rattle.std.specs.Prelude.{All}
use Rattle.std.proofs.lemmas.Bool.Decides.{nat_tests}
use Rattle.std.proofs.lemmas.List.{get_or-replicate}
use Rattle.std.proofs.lemmas.List.Elements.{All-nil, All-cons}
use Rattle.std.proofs.lemmas.List.Sums.{sum_by_more}
use mathlib.Core.Option.{some, some-injective, some-ne-none}
use lib.ListN.{get_elem?}
use Rattle.atomic_table.specs.Table.{State, opening, Splits}
use Rattle.atomic_table.proofs.Lists.{at_set, at_snoc}
use Rattle.sim_steps.specs.declared.words.Desk.{Desk}
use Rattle.sim_steps.specs.declared.words.Address.TheVariants.{StateWord}
use Rattle.sim_steps.specs.Layout.{Settings, AreSettings, seats_of, desk_of, row_words}
use Rattle.sim_steps.specs.Program.{Seat, resting}
use Rattle.sim_steps.specs.World.{Event, place_of, opening_row, opening_words}
use Rattle.sim_totals.specs.declared.view.View.{View}
use Rattle.sim_totals.specs.Rule.{Entry, view, idles, whole, times, once_below, total, Among, ShowsRun, At, M, one, head_of, tail_of, others, foremost}
use Rattle.sim_totals.specs.Values.{AdderValue, TableValue, IsNew, fresh, fresh_from}
use Rattle.sim_totals.proofs.Lists.{total-set, total-append}

-- how often a seat is in two lists
pub times-append : (i : ℕ) (xs ys : List Entry) → times i (xs ++ ys) ≡ times i xs + times i ys
times-append i [] ys = omega arith
times-append i (x ∷ xs) ys = omega (arith, times-append i xs ys)

-- a list is its first entry and the others
times_cut : (i : ℕ) (es : List Entry) → times i (tail_of es) + times i (head_of es) ≡ times i es
times_cut i [] = refl
times_cut i (e ∷ es) = omega arith

-- idle seats from one on are each there once
pub times_idles : (i k n : ℕ) → (i < k → times i (idles k n) ≡ 0) × (k ≤ i → i < k + n → times i (idles k n) ≡ 1)
    × (k + n ≤ i → times i (idles k n) ≡ 0)
times_idles i k zero = ((λ _. refl), (λ a b. absurd (omega arith)), λ _. refl)
times_idles i k (suc n) = let before = times_idles i (suc k) n in grind (arith, nat_tests, before.0, before.1, before.2)

-- the rule after a view is cut in two parts
recut : (c : Settings) (s : State (Unit {0}) View) (r : ShowsRun c s) (id : ℕ) (v left right : View) →
    get_elem? s.views id ≡ some v
    → Among c r.run left.settings left.bundle → Among c r.run right.settings right.bundle
    → ((i : ℕ) → times i left.bundle + times i right.bundle ≡ times i v.bundle)
    → ShowsRun c record { words = s.words; homes = s.homes; views = set s.views id left ++ right ∷ [] }
recut c s r id v left right at a b same =
    record {
      run = r.run;
      steps = r.steps;
      words = r.words;
      agrees = λ by u got. ⊎_elim
          (λ old. ⊎_elim (λ hit. subst (λ (x : View). Among c r.run x.settings x.bundle) hit.1 a)
          (λ miss. r.agrees by u miss.1) (at_set s.views id by left u old))
          (λ new. subst (λ (x : View). Among c r.run x.settings x.bundle) new b)
          (at_snoc (set s.views id left) right u by got);
      once = λ i.
          let g : View → ℕ = λ u. times i u.bundle in
          let one : total g (set s.views id left) + g v ≡ total g s.views + g left = total-set g s.views id v left at in
          let two : total g (set s.views id left ++ right ∷ []) ≡ total g (set s.views id left) + total g
          (right ∷ []) = total-append g (set s.views id left) (right ∷ []) in
          let before : total g s.views ≡ once_below (seats_of c) i = r.once i in
          let cut : g left + g right ≡ g v = same i in
          omega arith;
    }

-- the first entry is of the table
among_head : (c : Settings) (run : List Event) (d : Settings) (es : List Entry) → Among c run d es →
    Among c run d (head_of es)
among_head c run d [] a = tt
among_head c run d (e ∷ es) a = (a.0, a.1, a.2, a.3, a.4, tt)

-- and so are the others
among_tail : (c : Settings) (run : List Event) (d : Settings) (es : List Entry) → Among c run d es →
    Among c run d (tail_of es)
among_tail c run d [] a = tt
among_tail c run d (e ∷ es) a = a.5

-- a view can be split into its first seat and the others
pub splits : (c : Settings) (id : ℕ) (v : View) → Splits (ShowsRun c) id v (others v) (foremost v)
splits c id v s r at =
    let mine = r.agrees id v at in
    recut c s r id v (others v) (foremost v) at (among_tail c r.run v.settings v.bundle mine)
    (among_head c r.run v.settings v.bundle mine) (λ i. times_cut i v.bundle)

-- adders as they are handed out, with one more
pub fresh-snoc : (t : TableValue) (i n : ℕ) → fresh_from t i (n + 1) ≡ fresh_from t i n ++ fresh t (i + n) ∷ []
fresh-snoc t i zero = let e : i + 0 ≡ i = omega arith in ap (λ (k : ℕ). fresh t k ∷ []) (sym e)
fresh-snoc t i (suc n) =
    let e : suc n + 1 ≡ suc (n + 1) = omega arith in
    let f : suc i + n ≡ i + suc n = omega arith in
    ap (fresh_from t i) e ∙ ap (λ (l : List AdderValue). fresh t i ∷ l)
    (fresh-snoc t (suc i) n ∙ ap (λ (k : ℕ). fresh_from t (suc i) n ++ fresh t k ∷ []) f)

-- that many were
pub length-fresh : (t : TableValue) (i n : ℕ) → length (fresh_from t i n) ≡ n
length-fresh t i zero = refl
length-fresh t i (suc n) = omega (arith, length-fresh t (suc i) n)

-- they are new adders of the table
pub fresh_new : (t : TableValue) (i n : ℕ) → i + n ≤ seats_of t.settings → All (IsNew t) (fresh_from t i n)
fresh_new t i zero h = All-nil (IsNew t)
fresh_new t i (suc n) h =
    All-cons (IsNew t) (fresh t i) (fresh_from t (suc i) n)
    (record { of = record { table = refl; settings = refl; inside = omega arith }; log = refl })
    (fresh_new t (suc i) n (omega arith))

-- idle seats are one and then the others
pub idles-next : (k n : ℕ) → k < n → idles k (n - k) ≡ (k, resting, []) ∷ idles (k + 1) (n - (k + 1))
idles-next k n h = let e : n - k ≡ suc (n - (k + 1)) = omega arith in let f : suc k ≡ k + 1 = omega arith in
    ap (idles k) e ∙ ap (λ (j : ℕ). (k, resting, []) ∷ idles j (n - (k + 1))) f

-- a view of one seat has its number
pub is_seat : (c : Settings) (k : ℕ) (s : Seat) (r : M) → r ≡ (one c k s [], []) →
    (r ≡ (one r.0.settings k s [], [])) × (r.0.settings ≡ c)
is_seat c k s r e = let P : M → Type 0 = λ m. (m ≡ (one m.0.settings k s [], [])) × (m.0.settings ≡ c) in
    subst P (sym e) (refl, refl)

-- one seat is cut off the token that has those from k on
pub deals_one : (c : Settings) (m rest given : M) (k n : ℕ) → k < n → m ≡ (view c (idles k (n - k)), []) →
    rest ≡ (others m.0, m.1) → given ≡ (foremost m.0, [])
    → (rest ≡ (view c (idles (k + 1) (n - (k + 1))), [])) × (given ≡ (one c k resting [], []))
deals_one c m rest given k n h is left right =
    let now : m ≡ (view c ((k, resting, []) ∷ idles (k + 1) (n - (k + 1))), []) =
    is ∙ ap (λ (l : List Entry). (view c l, [])) (idles-next k n h) in
    (left ∙ ap (λ (x : M). (others x.0, x.1)) now, right ∙ ap (λ (x : M). (foremost x.0, [])) now)

-- one more adder is handed out
pub one_more : (t : TableValue) (xs ys : List AdderValue) (x : AdderValue) (k : ℕ) → xs ≡ fresh_from t 0 k →
    ys ≡ xs ++ x ∷ [] → x ≡ fresh t k → ys ≡ fresh_from t 0 (k + 1)
one_more t xs ys x k xs_is ys_is x_is =
    let z : 0 + k ≡ k = omega arith in
    let to : fresh_from t 0 (k + 1) ≡ fresh_from t 0 k ++ fresh t k ∷ [] =
    fresh-snoc t 0 k ∙ ap (λ (j : ℕ). fresh_from t 0 k ++ fresh t j ∷ []) z in
    ys_is ∙ (λ i. xs_is i ++ x_is i ∷ []) ∙ sym to

-- a seat that has taken no step is reached by the list of no event
pub reached_first : (c : Settings) (k : ℕ) (m : M) → AreSettings c → k < seats_of c → m ≡ (one c k resting [], []) →
    At k m
reached_first c k m ok h is = subst (At k) (sym is) (record {
  settings = ok;
  inside = h;
  steps = tt;
  reached = get_or-replicate (seats_of c) k resting resting h;
})

-- idle seats are of the opened table
idles_among : (c : Settings) (k n : ℕ) → k + n ≤ seats_of c → Among c [] c (idles k n)
idles_among c k zero h = tt
idles_among c k (suc n) h = (
  refl,
  omega arith,
  get_or-replicate (seats_of c) k resting resting (omega arith),
  ([], refl),
  refl,
  idles_among c (suc k) n (omega arith),
)

-- and each is there once
idles_once : (i n : ℕ) → times i (idles 0 n) ≡ once_below n i
idles_once i n = let t = times_idles i 0 n in grind (arith, nat_tests, t.1, t.2)

-- what holds of the only view holds of each
only_view : (c : Settings) (w : View) (P : View → Type 0) → P w → (by : ℕ) (v : View) →
    get_elem? (w ∷ []) by ≡ some v → P v
only_view c w P p zero v e = subst P (some-injective w v e) p
only_view c w P p (suc by) v e = absurd (some-ne-none v (sym e))

-- the table at the start shows the list of no event
pub opens : (c : Settings) (ws : List ℕ) → ws ≡ opening_words c → ShowsRun c (opening ws [] (whole c))
opens c ws is = record {
  run = [];
  steps = tt;
  words = is;
  agrees = only_view c (whole c) (λ v. Among c [] v.settings v.bundle) (idles_among c 0 (seats_of c) (omega arith));
  once = λ i. let e = idles_once i (seats_of c) in omega arith;
}

-- the desk of the next seat
pub desk_next : (c : Settings) (k : ℕ) → k < seats_of c →
    record {
      seats = seats_of c;
      rows = sum c.adds;
      seat = k + 1;
      before = sum (take k c.adds) + get_or c.adds k 0;
    } ≡ desk_of c (k + 1)
desk_next c k h =
    let e : sum (take k c.adds) + get_or c.adds k 0 ≡ sum (take (k + 1) c.adds) =
    sym (sum_by_more (λ n. n) c.adds k 0 h) in
    ap (λ (b : ℕ). let d : Desk = record { seats = seats_of c; rows = sum c.adds; seat = k + 1; before = b } in d) e

-- the words that are made at the opening
pub first_words_are : (c : Settings) (ws : List ℕ) (rows : ℕ) → rows ≡ sum c.adds →
    ws ≡ replicate (1 + 2 * seats_of c + rows * 3) 0
    ++ (0 ∷ get_or c.first.counts 0 0 ∷ get_or c.first.counts 1 0 ∷ get_or c.first.counts 2 0 ∷ get_or
    c.first.bytes 0 0 ∷ get_or c.first.bytes 1 0 ∷ get_or c.first.bytes 2 0 ∷ replicate (2 * seats_of c) 0)
    ++ replicate (rows * row_words (seats_of c)) 0 →
    ws ≡ opening_words c
unfolding opening_row
first_words_are c ws rows e f =
    let row : List ℕ = opening_row c in
    let at : 1 + 2 * seats_of c + sum c.adds * 3 ≡ place_of c (StateWord 0 0) = omega arith in
    f ∙ ap (λ (n : ℕ). replicate (1 + 2 * seats_of c + n * 3) 0 ++ row ++ replicate (n * row_words (seats_of c)) 0) e
    ∙ ap (λ (n : ℕ). replicate n 0 ++ row ++ replicate (sum c.adds * row_words (seats_of c)) 0) at
