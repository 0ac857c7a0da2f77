-- Views cut and put together, the rule at the opening, and what is known at the close.
use Rattle.std.proofs.Common.{◌≡◌, ℕ, zero, suc, ◌+◌, ◌-◌, ◌<◌, ◌≤◌, Bool, cond, eqb, ltb, List, [], ◌∷◌, ◌++◌, length, get_or, set, Some, inl, inr, refl, sym, ap, ◌∙◌, subst, arith, length-set, get_or-set_other}
use Rattle.std.specs.Prelude.{All, sum_by, count_by}
use Rattle.std.proofs.lemmas.Bool.{cases_eq, eq-eqb, ne_eqb}
use Rattle.std.proofs.lemmas.Bool.Decides.{nat_tests}
use Rattle.std.proofs.lemmas.List.{map-set, map-append, get_or-replicate}
use Rattle.std.proofs.lemmas.List.Elements.{All-nil, All-cons, All-head, All-tail, All-append, All-set, All-push, All-pop}
use Rattle.std.proofs.lemmas.List.Sums.{sum_by-set, sum_by-cons, sum_by-append, get_or-le-sum_by}
use mathlib.Core.Option.{some}
use lib.ListN.{get_elem?}
use Rattle.atomic_table.specs.Table.{State, Splits, Joins, Final, Seen, opening}
use Rattle.table_model.specs.declared.events.Event.{Event}
use Rattle.table_model.specs.Setup.{Setup, IsSetup, seats_of}
use Rattle.table_model.specs.SeatStates.{fresh_seat}
use Rattle.table_model.specs.Worlds.{opening_words}
use Rattle.table_model.specs.Shown.{Holding, Bundle}
use Rattle.shared_table.specs.declared.view.View.{View}
use Rattle.shared_table.specs.Seating.{fresh, fresh_from, whole, tail_of, head_of, others, foremost, together, spent}
use Rattle.table_model.specs.Shown.{IsOfRun}
use Rattle.shared_table.specs.Fronts.{IsFrontOf}
use Rattle.shared_table.specs.Rule.{bundles, Holds, M, IsReached, alone}
use Rattle.shared_table.specs.SeatValues.{SeatValue, IsIdle}
use Rattle.shared_table.specs.Values.{TableValue, IsOf, IsLeft, Ran, new_seat, new_seats}
use Rattle.shared_table.specs.Calls.{Token}
use Rattle.shared_table.specs.Gathered.{holdings, HasAll}
use Rattle.shared_table.proofs.Lists.{at_place, elem_map}
use Rattle.shared_table.proofs.Moves.{alone_is}

-- a test as a number
abbrev bit : Bool → ℕ
bit b = cond b 1 0

-- how often a seat stands in a bundle
abbrev times_of : ℕ → Bundle → ℕ
times_of seat b = count_by (λ (h : Holding). eqb h.seat seat) b

-- in two bundles it stands as often as in both
times-append : (seat : ℕ) (xs ys : Bundle) → times_of seat (xs ++ ys) ≡ times_of seat xs + times_of seat ys
times-append seat xs ys = sum_by-append (λ (h : Holding). bit (eqb h.seat seat)) xs ys

-- one holding more counts where it is the seat's
times-cons : (seat : ℕ) (h : Holding) (xs : Bundle) → times_of seat (h ∷ xs) ≡ bit (eqb h.seat seat) + times_of seat xs
times-cons seat h xs = sum_by-cons (λ (x : Holding). bit (eqb x.seat seat)) h xs

-- cutting the first holding off loses none
times_cut : (seat : ℕ) (b : Bundle) → times_of seat (tail_of b) + times_of seat (head_of b) ≡ times_of seat b
times_cut seat [] = refl
times_cut seat (h ∷ hs) = omega (arith, times-cons seat h hs, times-cons seat h [])

module _ (c : Setup) (s : State (Unit {0}) View) (r : Holds c s) (id : ℕ) (v : View)
    (at : get_elem? s.views id ≡ some v) where
  -- a view is among the views
  there : get_elem? (bundles s.views) id ≡ some v.bundle
  there = elem_map (λ (u : View). u.bundle) s.views id v at

  -- at a place of the list
  pub inside : id < length (bundles s.views)
  inside = (at_place (bundles s.views) id v.bundle [] there).0

  -- which has its bundle
  pub found : get_or (bundles s.views) id [] ≡ v.bundle
  found = (at_place (bundles s.views) id v.bundle [] there).1

  -- so all its holdings are of the run
  pub all_of : All (IsOfRun c r.shows.events) v.bundle
  all_of = subst (All (IsOfRun c r.shows.events)) found (r.shows.of_run id [] inside)

  -- and what its readers know is a front of it
  pub fronts_of : All (IsFrontOf c r.shows.events) v.fronts
  fronts_of =
      let p = at_place s.views id v v at in
      subst (λ (u : View). All (IsFrontOf c r.shows.events) u.fronts) p.1 (r.fronts id v p.0)

-- so it is at another place, where one view has changed
fronts_other : (c : Setup) (s : State (Unit {0}) View) (r : Holds c s) (id other : ℕ) (u w : View) →
    ¬ (other ≡ id) → get_elem? (set s.views id u) other ≡ some w → All (IsFrontOf c r.shows.events) w.fronts
fronts_other c s r id other u w ne at =
    let p = at_place (set s.views id u) other w w at in
    subst (λ (x : View). All (IsFrontOf c r.shows.events) x.fronts)
    (sym (get_or-set_other s.views id other u w ne) ∙ p.1)
    (r.fronts other w (omega (arith, p.0, length-set s.views id u)))

-- what holds of all holds of the first
head_all : (P : Holding → Type 0) (b : Bundle) → All P b → All P (head_of b)
head_all P [] a = a
head_all P (h ∷ hs) a = All-cons P h [] (All-head P h hs a) (All-nil P)

-- and of the others
tail_all : (P : Holding → Type 0) (b : Bundle) → All P b → All P (tail_of b)
tail_all P [] a = a
tail_all P (h ∷ hs) a = All-tail P h hs a

-- a view can be cut in two
pub splits : (c : Setup) (id : ℕ) (v : View) → Splits (Holds c) id v (others v) (foremost v)
splits c id v s r at =
    let P : Bundle → Type 0 = λ b. All (IsOfRun c r.shows.events) b in
    let bs : List Bundle = bundles s.views in
    let F : View → Type 0 = λ u. All (IsFrontOf c r.shows.events) u.fronts in
    let mine = all_of c s r id v at in
    let is : bundles (set s.views id (others v) ++ foremost v ∷ []) ≡ set bs id (tail_of v.bundle)
    ++ head_of v.bundle ∷ [] =
    map-append (λ (u : View). u.bundle) (set s.views id (others v)) (foremost v ∷ [])
    ∙ ap (λ (xs : List Bundle). xs ++ head_of v.bundle ∷ []) (map-set (λ (u : View). u.bundle) s.views id (others v)) in
    record {
      shows = record {
        events = r.shows.events;
        is_run = r.shows.is_run;
        same_words = r.shows.same_words;
        of_run = subst (All P) (sym is) (All-push P (set bs id (tail_of v.bundle)) (head_of v.bundle)
            (All-set P bs id (tail_of v.bundle) (tail_all (IsOfRun c r.shows.events) v.bundle mine) r.shows.of_run)
            (head_all (IsOfRun c r.shows.events) v.bundle mine));
        once = λ seat h.
            let cut = sum_by-set (times_of seat) bs id (tail_of v.bundle) [] (inside c s r id v at) in
            let more = sum_by-append (times_of seat) (set bs id (tail_of v.bundle)) (head_of v.bundle ∷ []) in
            let last = sum_by-cons (times_of seat) (head_of v.bundle) [] in
            ap (sum_by (times_of seat)) is
            ∙ omega (
              arith,
              cut,
              more,
              last,
              times_cut seat v.bundle,
              ap (times_of seat) (found c s r id v at),
              r.shows.once seat h,
            );
      };
      fronts = All-push F (set s.views id (others v)) (foremost v)
          (All-set F s.views id (others v) (fronts_of c s r id v at) r.fronts) (All-nil (IsFrontOf c r.shows.events));
    }

-- two views can be put together
pub joins : (c : Setup) (id : ℕ) (v : View) (other : ℕ) (w : View) → Joins (Holds c) id v other w (together v w) spent
joins c id v other w s r at ne at' =
    let P : Bundle → Type 0 = λ b. All (IsOfRun c r.shows.events) b in
    let bs : List Bundle = bundles s.views in
    let both : Bundle = w.bundle ++ v.bundle in
    let mid : State (Unit {0}) View = record {
      words = s.words;
      homes = s.homes;
      views = set s.views id (together v w);
    } in
    let is_mid : bundles mid.views ≡ set bs id both = map-set (λ (u : View). u.bundle) s.views id (together v w) in
    let is : bundles (set mid.views other spent) ≡ set (set bs id both) other [] =
    map-set (λ (u : View). u.bundle) mid.views other spent ∙ ap (λ (xs : List Bundle). set xs other []) is_mid in
    let here : get_elem? (set bs id both) other ≡ some w.bundle =
    subst (λ (xs : List Bundle). get_elem? xs other ≡ some w.bundle) is_mid
    (elem_map (λ (u : View). u.bundle) mid.views other w at') in
    let p = at_place (set bs id both) other w.bundle [] here in
    let at_other : get_or bs other [] ≡ w.bundle = sym (get_or-set_other bs id other both [] ne) ∙ p.1 in
    let F : View → Type 0 = λ u. All (IsFrontOf c r.shows.events) u.fronts in
    let fronts_w : All (IsFrontOf c r.shows.events) w.fronts = fronts_other c s r id other (together v w) w ne at' in
    let mine = all_of c s r id v at in
    let theirs : P w.bundle = subst P at_other (r.shows.of_run other [] (omega (arith, p.0, length-set bs id both))) in
    record {
      shows = record {
        events = r.shows.events;
        is_run = r.shows.is_run;
        same_words = r.shows.same_words;
        of_run = subst (All P) (sym is) (All-set P (set bs id both) other [] (All-nil (IsOfRun c r.shows.events))
            (All-set P bs id both (All-append (IsOfRun c r.shows.events) w.bundle v.bundle theirs mine)
            r.shows.of_run));
        once = λ seat h.
            let one = sum_by-set (times_of seat) bs id both [] (inside c s r id v at) in
            let two = sum_by-set (times_of seat) (set bs id both) other [] [] p.0 in
            ap (sum_by (times_of seat)) is
            ∙ omega (
              arith,
              one,
              two,
              times-append seat w.bundle v.bundle,
              ap (times_of seat) (found c s r id v at),
              ap (times_of seat) p.1,
              r.shows.once seat h,
            );
      };
      fronts =
          All-set F (set s.views id (together v w)) other spent (All-nil (IsFrontOf c r.shows.events))
          (All-set F s.views id (together v w)
          (All-append (IsFrontOf c r.shows.events) w.fronts v.fronts fronts_w (fronts_of c s r id v at)) r.fronts);
    }

-- the rule at the opening
fresh_times : (c : Setup) (seat k n : ℕ) → (seat < k → times_of seat (fresh_from c k n) ≡ 0)
    × (k ≤ seat → seat < k + n → times_of seat (fresh_from c k n) ≡ 1)
fresh_times c seat k zero = ((λ _. refl), λ a b. absurd (omega arith))
fresh_times c seat k (suc n) =
    let rest = fresh_times c seat (suc k) n in
    let first = times-cons seat (fresh c k) (fresh_from c (suc k) n) in
    elim (cases_eq k seat) [
      | inl is ↦ let yes : bit (eqb k seat) ≡ 1 = ap bit (eq-eqb k seat is) in
          ((λ a. absurd (omega arith)), λ a b. omega (arith, first, yes, rest.0 (omega (arith, is))))
      | inr ne ↦
          let no : bit (eqb k seat) ≡ 0 = ap bit (ne_eqb k seat ne) in (
            (λ a. omega (arith, first, no, rest.0 (omega arith))),
            λ a b. omega (arith, first, no, rest.1 (omega (arith, ne)) (omega arith)),
          )
    ]

-- and all of them are of the run without events
fresh_all : (c : Setup) (k n : ℕ) → k + n ≤ seats_of c → All (IsOfRun c []) (fresh_from c k n)
fresh_all c k zero h = All-nil (IsOfRun c [])
fresh_all c k (suc n) h =
    All-cons (IsOfRun c []) (fresh c k) (fresh_from c (suc k) n)
    (record {
      opened = refl;
      seat = omega arith;
      state = sym (get_or-replicate (seats_of c) k fresh_seat fresh_seat (omega arith));
      later = [];
      known =
          refl;
      own = refl;
    })
    (fresh_all c (suc k) n (omega arith))

-- so the rule holds at the opening
pub opens : (c : Setup) (words : List ℕ) → IsSetup c → words ≡ opening_words c → Holds c (opening words [] (whole c))
opens c words ok is = record {
  shows = record {
    events = [];
    is_run = record { opened = ok; follow = tt };
    same_words = is;
    of_run = All-cons (λ (b : Bundle). All (IsOfRun c []) b) (fresh_from c 0 (seats_of c)) []
        (fresh_all c 0 (seats_of c) (omega arith)) (All-nil (λ (b : Bundle). All (IsOfRun c []) b));
    once = λ seat h. omega (
      arith,
      sum_by-cons (times_of seat) (fresh_from c 0 (seats_of c)) [],
      (fresh_times c seat 0 (seats_of c)).1 (omega arith) (omega arith),
    );
  };
  fronts = All-cons (λ (v : View). All (IsFrontOf c []) v.fronts) (whole c) [] (All-nil (IsFrontOf c []))
      (All-nil (λ (v : View). All (IsFrontOf c []) v.fronts));
}

-- ---- the close

-- how often the seats below n stand in a list, all together
abbrev times_below : ℕ → Bundle → ℕ
times_below zero b = 0
times_below (suc n) b = times_of n b + times_below n b

-- in no holdings none stands
below_nil : (n : ℕ) → times_below n [] ≡ 0
below_nil zero = refl
below_nil (suc n) = omega (arith, below_nil n)

-- one holding more counts where its seat is below
below_cons : (n : ℕ) (h : Holding) (hs : Bundle) → times_below n (h ∷ hs) ≡ bit (ltb h.seat n) + times_below n hs
below_cons zero h hs = grind (arith, nat_tests)
below_cons (suc n) h hs =
    let step : bit (ltb h.seat (suc n)) ≡ bit (eqb h.seat n) + bit (ltb h.seat n) = grind (arith, nat_tests) in
    omega (arith, below_cons n h hs, times-cons n h hs, step)

-- all seats of holdings of a run are below their number
below_length : (c : Setup) (events : List Event) (b : Bundle) → All (IsOfRun c events) b →
    times_below (seats_of c) b ≡ length b
below_length c events [] a = below_nil (seats_of c)
below_length c events (h ∷ hs) a =
    let in_range = (All-head (IsOfRun c events) h hs a).seat in
    let one : bit (ltb h.seat (seats_of c)) ≡ 1 = grind (arith, nat_tests, in_range) in
    omega (arith, below_cons (seats_of c) h hs, below_length c events hs (All-tail (IsOfRun c events) h hs a), one)

module _ (b : Bundle) (n : ℕ) (few : (seat : ℕ) → seat < n → times_of seat b ≤ 1) where
  -- where each stands at most once, so many seats stand at most so often
  below_few : (m : ℕ) → m ≤ n → times_below m b ≤ m
  below_few zero h = omega arith
  below_few (suc m) h = omega (arith, below_few m (omega arith), few m (omega arith))

  -- and where they stand so often, each stands exactly once
  each_once : (m : ℕ) → m ≤ n → times_below m b ≡ m → (seat : ℕ) → seat < m → times_of seat b ≡ 1
  each_once zero h all seat k = absurd (omega arith)
  each_once (suc m) h all seat k =
      let rest : times_below m b ≡ m = omega (arith, below_few m (omega arith), few m (omega arith)) in
      elim (cases_eq seat m) [
        | inl is ↦ ap (λ (i : ℕ). times_of i b) is ∙ omega (arith, below_few m (omega arith), few m (omega arith))
        | inr ne ↦ each_once m (omega arith) rest seat (omega (arith, ne))
      ]

-- each seat is left as its holding says
all_left : (c : Setup) (events : List Event) (seats : List SeatValue) → All IsIdle seats →
    All (IsOfRun c events) (holdings seats) → All (IsLeft c events) seats
all_left c events [] idle a = All-nil (IsLeft c events)
all_left c events (s ∷ seats) idle a =
    let r = All-head (IsOfRun c events) s.holding (holdings seats) a in
    All-cons (IsLeft c events) s seats (record {
      state = r.state;
      learned = record { later = r.later; is = r.known; counts = r.own };
      idle = All-head IsIdle s seats idle;
    })
    (all_left c events seats (All-tail IsIdle s seats idle) (All-tail (IsOfRun c events) s.holding (holdings seats) a))

-- a seat is counted alike among holdings and among seats
count_same : (seat : ℕ) (seats : List SeatValue) →
    times_of seat (holdings seats) ≡ count_by (λ (s : SeatValue). eqb s.holding.seat seat) seats
count_same seat [] = refl
count_same seat (s ∷ seats) = omega (
  arith,
  times-cons seat s.holding (holdings seats),
  sum_by-cons (λ (x : SeatValue). bit (eqb x.holding.seat seat)) s seats,
  count_same seat seats,
)

-- there are as many holdings as seats
length-holdings : (seats : List SeatValue) → length (holdings seats) ≡ length seats
length-holdings [] = refl
length-holdings (s ∷ seats) = omega (arith, length-holdings seats)

-- all seats that are put together leave one run
pub ends : (c : Setup) (id : ℕ) (me : M) (seats : List SeatValue) (words : List ℕ) (slots : List (Unit {0})) →
    length seats ≡ seats_of c → All IsIdle seats →
    me ≡ (record { bundle = holdings seats; fronts = [] }, []) → Final (Seen (Holds c) id me.0) words slots →
    Ran c words seats
ends c id me seats words slots all idle is f =
    let s : State (Unit {0}) View = f.0 in
    let r : Holds c s = f.1.0 in
    let v : View = record { bundle = holdings seats; fronts = [] } in
    let at : get_elem? s.views id ≡ some v = f.1.1 ∙ ap (λ (m : M). some m.0) is in
    let mine : All (IsOfRun c r.shows.events) (holdings seats) = all_of c s r id v at in
    let few : (seat : ℕ) → seat < seats_of c → times_of seat (holdings seats) ≤ 1 = λ seat h.
    omega (
      arith,
      get_or-le-sum_by (times_of seat) (bundles s.views) id [] (inside c s r id v at),
      ap (times_of seat) (found c s r id v at),
      r.shows.once seat h,
    ) in
    record {
      events = r.shows.events;
      is_run = r.shows.is_run;
      words_are = sym f.2 ∙ r.shows.same_words;
      seats_are = all_left c r.shows.events seats idle mine;
      once = λ seat h. sym (count_same seat seats)
          ∙ each_once (holdings seats) (seats_of c) few (seats_of c) (omega arith)
          (below_length c r.shows.events (holdings seats) mine ∙ length-holdings seats ∙ all) seat h;
    }

-- ---- seats that are put together

-- what holds of all seats holds of those before the last, and of it
pub all_of-end : (t : TableValue) (xs : List SeatValue) (x : SeatValue) → All (IsOf t) (xs ++ x ∷ []) →
    All (IsOf t) xs × IsOf t x
all_of-end t xs x h = All-pop (IsOf t) (xs ++ x ∷ []) xs (Some x) refl h

-- one seat more is put before those that are gathered
pub gathers : (t : TableValue) (done : List SeatValue) (x : SeatValue) (a b a' : Token) → HasAll t done a →
    b.me ≡ alone x.holding → IsIdle x → a'.table_id ≡ a.table_id → a'.me ≡ (together a.me.0 b.me.0, a.me.1) →
    HasAll t (x ∷ done) a'
gathers t done x a b a' h is idle table me =
    let f : M → M → M = λ m k. (together m.0 k.0, m.1) in
    record {
      table = table ∙ h.table;
      me = me ∙ (λ i. f (h.me i) (is i));
      idle = All-cons IsIdle x done idle h.idle;
    }

-- the first seat is gathered alone
pub gathers_first : (t : TableValue) (x : SeatValue) (a : Token) → x.table_id ≡ t.table_id →
    a.table_id ≡ x.table_id → a.me ≡ alone x.holding → IsIdle x → HasAll t (x ∷ []) a
gathers_first t x a table a_table me idle = record {
  table = a_table ∙ table;
  me = me;
  idle = All-cons IsIdle x [] idle (All-nil IsIdle);
}

-- ---- seats that are dealt

-- the seats from one on are it and those from the next on
pub deal_one : (c : Setup) (k n : ℕ) → k < n → fresh_from c k (n - k) ≡ fresh c k ∷ fresh_from c (k + 1) (n - (k + 1))
deal_one c k n h =
    let e : n - k ≡ suc (n - (k + 1)) = omega arith in
    let f : suc k ≡ k + 1 = omega arith in
    ap (fresh_from c k) e ∙ ap (λ (j : ℕ). fresh c k ∷ fresh_from c j (n - (k + 1))) f

-- cutting a seat off leaves those from the next on
pub dealt : (c : Setup) (me left right : M) (k n : ℕ) → k < n →
    me ≡ (record { bundle = fresh_from c k (n - k); fronts = [] }, []) → left ≡ (others me.0, me.1) →
    right ≡ (foremost me.0, []) →
    (left ≡ (record { bundle = fresh_from c (k + 1) (n - (k + 1)); fronts = [] }, [])) × (right ≡ alone (fresh c k))
dealt c me left right k n h is l r =
    let at : me ≡ (record { bundle = fresh c k ∷ fresh_from c (k + 1) (n - (k + 1)); fronts = [] }, []) =
    is ∙ ap (λ (b : Bundle). (record { bundle = b; fronts = [] }, [])) (deal_one c k n h) in
    let f : M → M = λ m. (others m.0, m.1) in
    let g : M → M = λ m. (foremost m.0, []) in
    (l ∙ ap f at, r ∙ ap g at)

-- a seat that has made no call is reached by the run without events
pub reached_fresh : (c : Setup) (k : ℕ) → IsSetup c → k < seats_of c → IsReached (fresh c k)
reached_fresh c k ok h = record {
  run = record { opened = ok; follow = tt };
  seat = h;
  state = get_or-replicate (seats_of c) k fresh_seat fresh_seat h;
}

-- one new seat more at the end
pub new_seats-snoc : (t : TableValue) (i n : ℕ) → new_seats t i (n + 1) ≡ new_seats t i n ++ new_seat t (i + n) ∷ []
new_seats-snoc t i zero = let e : i + 0 ≡ i = omega arith in ap (λ (k : ℕ). new_seat t k ∷ []) (sym e)
new_seats-snoc t i (suc n) =
    let e : suc n + 1 ≡ suc (n + 1) = omega arith in
    let f : suc i + n ≡ i + suc n = omega arith in
    ap (new_seats t i) e ∙ ap (λ (l : List SeatValue). new_seat t i ∷ l)
    (new_seats-snoc t (suc i) n ∙ ap (λ (k : ℕ). new_seats t (suc i) n ++ new_seat t k ∷ []) f)

-- a seat that is dealt is the next new one
pub one_more : (t : TableValue) (out out' : List SeatValue) (x : SeatValue) (k : ℕ)
    (table : x.table_id ≡ t.table_id) → alone (fresh t.setup k) ≡ alone x.holding → out ≡ new_seats t 0 k →
    out' ≡ out ++ x ∷ [] → out' ≡ new_seats t 0 (k + 1)
one_more t out out' x k table is e f =
    let h : x.holding ≡ fresh t.setup k = alone_is x.holding (fresh t.setup k) (sym is) in
    let same : x ≡ new_seat t k = λ i. record { table_id = table i; holding = h i } in
    let zero_is : 0 + k ≡ k = omega arith in
    f ∙ (λ i. e i ++ same i ∷ []) ∙ sym (new_seats-snoc t 0 k
    ∙ ap (λ (j : ℕ). new_seats t 0 k ++ new_seat t j ∷ []) zero_is)
