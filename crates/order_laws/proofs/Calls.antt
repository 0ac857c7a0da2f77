-- The calls of a world: each answered call stands at its place among its seat's records, and a call in flight is its
-- seat's next.
use Rattle.std.proofs.Common.{◌≡◌, ℕ, zero, suc, ◌+◌, ◌-◌, ◌<◌, ◌≤◌, List, [], ◌∷◌, ◌++◌, map, length, get_or, inl, inr, refl, sym, ap, ◌∙◌, subst, arith}
use Rattle.std.specs.Prelude.{flat_map, replicate}
use Rattle.std.proofs.lemmas.List.{get_or_past, get_or_append_left, get_or-append_right}
use Rattle.plain_map.specs.declared.records.TheConstants.{MOST_SEATS}
use Rattle.std.specs.List.{enumerate_from}
use Rattle.std.proofs.lemmas.Bool.{cases_lt}
use Rattle.plain_map.specs.declared.records.Record.{Record}
use Rattle.plain_map.specs.declared.records.Pending.{Pending}
use Rattle.plain_map.specs.History.{Placed, answered, pending, call_in, seat_of, number_of, seen_of}
use Rattle.table_model.specs.Setup.{Setup, seats_of}
use Rattle.table_model.specs.SeatStates.{fresh_seat, Flight, Stand, Idle, InFlight, SeatState, pending_of}
use Rattle.table_model.specs.Phases.{Phase}
use Rattle.table_model.specs.Worlds.{World, seat_in}
use Rattle.table_model.specs.Order.{calls_of}
use Rattle.table_model.specs.Closed.{records_of, begun_of, begun_by, closing_of}
use Rattle.run_invariant.proofs.Invariant.{Common, Local}
use Rattle.list_laws.proofs.Lists.{In, Once, in_left, in_right, in_both, in_map, map_in, in_flat_map, flat_map_in, once_both}
use Rattle.closed_laws.proofs.Pieces.{once_map, answered_apart, pending_one, answered_one}
use Rattle.order_laws.proofs.Tale.{Past, past_of, Tale, Told, Answers, IsRecord, Flying, Seated}
use Rattle.std.proofs.Math.Nat.{zero-add}
use Rattle.list_laws.proofs.Places.{in_at}
use Rattle.list_laws.proofs.Cuts.{zero_at}

-- ---- lists

-- a member stands at some place
pub at_in : {A : Type 0} (xs : List A) (x d : A) → In x xs → (i : ℕ) × (i < length xs) × (x ≡ get_or xs i d)
at_in [] x d i = elim i [ ]
at_in (y ∷ xs) x d (inl e) = (0, omega arith, e)
at_in (y ∷ xs) x d (inr j) = let r = at_in xs x d j in (suc r.0, omega (arith, r.1), r.2)

-- a list whose members are numbered by their places has each once
pub once_numbered : {A : Type 0} (number : A → ℕ) (k : ℕ) (xs : List A) →
    ((i : ℕ) (d : A) → i < length xs → number (get_or xs i d) ≡ k + i) → Once xs
once_numbered number k [] each = tt
once_numbered number k (x ∷ xs) each = (
  (λ m. let r = at_in xs x x m in omega (
    arith,
    each 0 x (omega arith),
    each (suc r.0) x (omega (arith, r.1)),
    ap number r.2,
  )),
  once_numbered number (k + 1) xs (λ i d h. omega (arith, each (suc i) d (omega (arith, h)))),
)

-- so has a list of lists, each of which belongs to its place
pub once_seated : {A B : Type 0} (seat : A → ℕ) (f : B → List A) (k : ℕ) (xs : List B) →
    ((i : ℕ) (d : B) → i < length xs → Once (f (get_or xs i d))
    × ((a : A) → In a (f (get_or xs i d)) → seat a ≡ k + i)) → Once (flat_map f xs)
once_seated seat f k [] each = tt
once_seated seat f k (x ∷ xs) each =
    let here = each 0 x (omega arith) in
    once_both (f x) (flat_map f xs) here.0 (once_seated seat f (k + 1) xs
    (λ i d h. let r = each (suc i) d (omega (arith, h)) in (r.0, λ a m. omega (arith, r.1 a m))))
    (λ a m later.
    let r = in_flat_map f xs a later in
    let at = at_in xs r.0 x r.1 in
    let there = (each (suc at.0) x (omega (arith, at.1))).1 a (subst (λ z. In a (f z)) at.2 r.2) in
    omega (arith, here.1 a m, there))

-- a list with the places of its members
pub length-numbered : {A : Type 0} (k : ℕ) (xs : List A) → length (enumerate_from k xs) ≡ length xs
length-numbered k [] = refl
length-numbered k (x ∷ xs) = ap suc (length-numbered (k + 1) xs)

-- what is numbered stands at its number
pub numbered-at : {A : Type 0} (k i : ℕ) (xs : List A) (d : ℕ × A) (e : A) → i < length xs →
    (get_or (enumerate_from k xs) i d).0 ≡ k + i × ((get_or (enumerate_from k xs) i d).1 ≡ get_or xs i e)
numbered-at k i [] d e h = absurd (omega (arith, h))
numbered-at k zero (x ∷ xs) d e h = (omega arith, refl)
numbered-at k (suc i) (x ∷ xs) d e h = let r = numbered-at (k + 1) i xs d e (omega (arith, h)) in
    (omega (arith, r.0), r.1)

-- the counts of a record, from the last seen one on 0
pub seen_in : (seen : List ℕ) (a : ℕ) → get_or (seen ++ replicate (MOST_SEATS - length seen) 0) a 0 ≡ get_or seen a 0
seen_in seen a = elim (cases_lt a (length seen)) [
  | inl less ↦ get_or_append_left seen (replicate (MOST_SEATS - length seen) 0) 0 a less
  | inr most ↦ get_or-append_right seen (replicate (MOST_SEATS - length seen) 0) (length seen) a 0 refl most
      ∙ zero_at (MOST_SEATS - length seen) (a - length seen) ∙ sym (get_or_past seen a 0 most)
]

-- a seat has at most one call that is not answered
pub begun_one : (u : Pending) (q : ℕ) (stand : Stand) → In u (begun_by q stand) →
    (flight : Flight) × ((phase : Phase) × (stand ≡ InFlight flight phase) × (u ≡ pending_of q flight))
begun_one u q Idle m = elim m [ ]
begun_one u q (InFlight flight phase) (inl e) = (flight, (phase, refl, e))
begun_one u q (InFlight flight phase) (inr m) = elim m [ ]

-- ---- the calls of a world
module _ (setup : Setup) (w : World) (c : Common) (locals : ℕ → Local) (t : Tale)
    (long : length w.seats ≡ seats_of setup)
    (seats : (q : ℕ) → q < seats_of setup → Seated setup (past_of c) t q (locals q) (seat_in w q).account
    (seat_in w q).stand) where
  -- the past
  abbrev p : Past
  p = past_of c

  -- the records of a seat
  abbrev records : ℕ → List Record
  records q = (seat_in w q).account.records

  -- a seat's records, and the number up to which it has calls, by its stand
  seated : (q : ℕ) (stand : Stand) → Seated setup p t q (locals q) (seat_in w q).account stand →
      (last : ℕ) × Answers setup p t q last (records q)
  seated q Idle k = (length (records q), k.answers)
  seated q (InFlight flight phase) k = (flight.number, k.answers)

  -- each record of a seat is the answer of its call
  pub each : (q i : ℕ) (d : Record) → q < seats_of setup → i < length (records q) →
      IsRecord setup p t q (i + 1) (get_or (records q) i d)
  each q i d inside h = (seated q (seat_in w q).stand (seats q inside)).1.each i d h

  -- it has as many as it answered
  pub many : (q : ℕ) → q < seats_of setup → t.answers q ≡ length (records q)
  many q inside = (seated q (seat_in w q).stand (seats q inside)).1.many

  -- an answered call stands among its seat's
  pub record IsAt (r : Record) : Type 0 where
    pub seat : ℕ
    pub at : ℕ
    pub inside : seat < seats_of setup
    pub less : at < length (records seat)
    pub is : r ≡ get_or (records seat) at r
    pub of : IsRecord setup p t seat (at + 1) r

  -- each record of the world is one of them
  pub record_at : (r : Record) → In r (records_of w) → IsAt r
  record_at r m =
      let s = in_flat_map (λ (state : SeatState). state.account.records) w.seats r m in
      let q = at_in w.seats s.0 fresh_seat s.1 in
      let there = subst (λ (z : SeatState). In r z.account.records) q.2 s.2 in
      let i = at_in (records q.0) r r there in
      let inside : q.0 < seats_of setup = omega (arith, q.1, long) in
      record {
        seat = q.0;
        at = i.0;
        inside = inside;
        less = i.1;
        is = i.2;
        of = subst (IsRecord setup p t q.0 (i.0 + 1)) (sym i.2) (each q.0 i.0 r inside i.1);
      }

  -- and each of them is one of the world
  pub record_in : (q i : ℕ) (d : Record) → q < seats_of setup → i < length (records q) →
      In (get_or (records q) i d) (records_of w)
  record_in q i d inside h = flat_map_in (λ (state : SeatState). state.account.records) w.seats (seat_in w q)
      (get_or (records q) i d) (in_at w.seats q fresh_seat (omega (arith, inside, long))) (in_at (records q) i d h)

  -- a call in flight is its seat's
  pub record IsBegun (u : Pending) : Type 0 where
    pub seat : ℕ
    pub inside : seat < seats_of setup
    pub flight : Flight
    pub phase : Phase
    pub stand : (seat_in w seat).stand ≡ InFlight flight phase
    pub is : u ≡ pending_of seat flight

  -- each call that was begun is one of them
  pub begun_at : (u : Pending) → In u (begun_of w) → IsBegun u
  begun_at u m =
      let s = in_flat_map (λ (numbered : ℕ × SeatState). begun_by numbered.0 numbered.1.stand)
      (enumerate_from 0 w.seats) u m in
      let q = at_in (enumerate_from 0 w.seats) s.0 s.0 s.1 in
      let less : q.0 < length w.seats = omega (arith, q.1, length-numbered 0 w.seats) in
      let here = numbered-at 0 q.0 w.seats s.0 fresh_seat less in
      let number : s.0.0 ≡ q.0 = ap (λ (z : ℕ × SeatState). z.0) q.2 ∙ here.0 ∙ zero-add q.0 in
      let state : s.0.1 ≡ seat_in w q.0 = ap (λ (z : ℕ × SeatState). z.1) q.2 ∙ here.1 in
      let f = begun_one u s.0.0 s.0.1.stand s.2 in
      record {
        seat = q.0;
        inside = omega (arith, less, long);
        flight = f.0;
        phase = f.1.0;
        stand = ap (λ (z : SeatState). z.stand) (sym state) ∙ f.1.1;
        is = f.1.2 ∙ ap (λ z. pending_of z f.0) number;
      }

  -- and each of them was begun
  pub begun_in : (q : ℕ) (flight : Flight) (phase : Phase) → q < seats_of setup →
      (seat_in w q).stand ≡ InFlight flight phase → In (pending_of q flight) (begun_of w)
  begun_in q flight phase inside e =
      let less : q < length w.seats = omega (arith, inside, long) in
      let d : ℕ × SeatState = (0, fresh_seat) in
      let here = numbered-at 0 q w.seats d fresh_seat less in
      let number : (get_or (enumerate_from 0 w.seats) q d).0 ≡ q = here.0 ∙ omega arith in
      let stand : (get_or (enumerate_from 0 w.seats) q d).1.stand ≡ InFlight flight phase =
      ap (λ (z : SeatState). z.stand) here.1 ∙ e in
      flat_map_in (λ (numbered : ℕ × SeatState). begun_by numbered.0 numbered.1.stand) (enumerate_from 0 w.seats)
      (get_or (enumerate_from 0 w.seats) q d) (pending_of q flight)
      (in_at (enumerate_from 0 w.seats) q d (omega (arith, less, length-numbered 0 w.seats)))
      (subst (λ z. In (pending_of q flight) (begun_by z (get_or (enumerate_from 0 w.seats) q d).1.stand))
      (sym number) (subst (λ z. In (pending_of q flight) (begun_by q z)) (sym stand) (inl refl)))

  -- ---- each call once

  -- each record stands once
  records_once : Once (records_of w)
  records_once = once_seated (λ r. r.seat) (λ (state : SeatState). state.account.records) 0 w.seats (λ q d h.
      let inside : q < seats_of setup = omega (arith, h, long) in
      let same : get_or w.seats q d ≡ seat_in w q = same_at w.seats q d fresh_seat h in (
        subst (λ (z : SeatState). Once z.account.records) (sym same)
            (once_numbered (λ r. r.number) 1 (records q)
            (λ i x less. omega (arith, (each q i x inside less).number_is))),
        λ r m. let i = at_in (records q) r r (subst (λ (z : SeatState). In r z.account.records) same m) in
            omega (arith, ap (λ (z : Record). z.seat) i.2, (each q i.0 r inside i.1).seat_is),
      ))
    where
      same_at : (xs : List SeatState) (i : ℕ) (x y : SeatState) → i < length xs → get_or xs i x ≡ get_or xs i y
      same_at [] i x y lt = absurd (omega (arith, lt))
      same_at (z ∷ xs) zero x y lt = refl
      same_at (z ∷ xs) (suc i) x y lt = same_at xs i x y (omega (arith, lt))

  -- and each call that was begun
  begun_once : Once (begun_of w)
  begun_once = once_seated (λ u. u.seat) (λ (numbered : ℕ × SeatState). begun_by numbered.0 numbered.1.stand) 0
      (enumerate_from 0 w.seats) (λ q d h.
      let here = numbered-at 0 q w.seats d d.1 (omega (arith, h, length-numbered 0 w.seats)) in (
        alone (get_or (enumerate_from 0 w.seats) q d).0 (get_or (enumerate_from 0 w.seats) q d).1.stand,
        λ u m. let f = begun_one u (get_or (enumerate_from 0 w.seats) q d).0
            (get_or (enumerate_from 0 w.seats) q d).1.stand m in ap (λ (z : Pending). z.seat) f.1.2 ∙ here.0,
      ))
    where
      alone : (q : ℕ) (stand : Stand) → Once (begun_by q stand)
      alone q Idle = tt
      alone q (InFlight flight phase) = ((λ m. elim m [ ]), tt)

  -- so each call stands once
  pub calls_once : Once (calls_of (closing_of w))
  calls_once = once_both (map answered (records_of w)) (map pending (begun_of w))
      (once_map answered (records_of w) answered_one records_once)
      (once_map pending (begun_of w) pending_one begun_once)
      (λ x m n. let a = in_map answered (records_of w) x m in let b = in_map pending (begun_of w) x n in
      answered_apart a.0 b.0 (sym a.2 ∙ b.2))

  -- ---- what a call is

  -- whether a call is answered
  pub data Where (x : Placed) : Type 0 where
    done : (r : Record) → x ≡ answered r → IsAt r → Where x
    open_ : (u : Pending) → x ≡ pending u → IsBegun u → Where x

  -- each is, or is not
  pub where_is : (x : Placed) → In x (calls_of (closing_of w)) → Where x
  where_is x m = elim (in_both x (map answered (records_of w)) (map pending (begun_of w)) m) [
    | inl a ↦ let r = in_map answered (records_of w) x a in done r.0 r.2 (record_at r.0 r.1)
    | inr a ↦ let u = in_map pending (begun_of w) x a in open_ u.0 u.2 (begun_at u.0 u.1)
  ]

  -- the call of a seat with a number
  pub record IsCallAt (x : Placed) : Type 0 where
    pub inside : seat_of x < seats_of setup
    pub some : 1 ≤ number_of x
    pub few : number_of x ≤ t.answers (seat_of x) + 1
    pub call_is : call_in x ≡ t.call_at (seat_of x) (number_of x)
    pub seen_is : (a : ℕ) → seen_of x a ≡ t.seen (seat_of x) (number_of x) a

  -- an answered call is one
  of_record : (r : Record) → IsAt r → IsCallAt (answered r)
  of_record r a = record {
    inside = omega (arith, a.of.seat_is, a.inside);
    some = omega (arith, a.of.number_is);
    few = omega (arith, a.of.number_is, a.less, many a.seat a.inside, ap t.answers a.of.seat_is);
    call_is = a.of.call_is ∙ ap (t.call_at a.seat) (sym a.of.number_is)
        ∙ ap (λ q. t.call_at q r.number) (sym a.of.seat_is);
    seen_is = λ s. a.of.seen_is s ∙ ap (λ n. t.seen a.seat n s) (sym a.of.number_is)
        ∙ ap (λ q. t.seen q r.number s) (sym a.of.seat_is);
  }

  -- a seat in flight
  pub flies : (q : ℕ) (flight : Flight) (phase : Phase) → q < seats_of setup →
      (seat_in w q).stand ≡ InFlight flight phase → Flying setup p t q (seat_in w q).account flight (locals q) phase
  flies q flight phase inside e = subst (Seated setup p t q (locals q) (seat_in w q).account) e (seats q inside)

  -- and so is one that was begun
  of_begun : (u : Pending) → IsBegun u → IsCallAt (pending u)
  of_begun u b = subst (λ z. IsCallAt (pending z)) (sym b.is)
      (let f = flies b.seat b.flight b.phase b.inside b.stand in record {
        inside = b.inside;
        some = omega (arith, f.number_is);
        few = omega (arith, f.number_is, many b.seat b.inside);
        call_is = sym f.call_is;
        seen_is = λ s. seen_in b.flight.seen s ∙ f.seen_is s;
      })

  -- so each is
  pub call_at : (x : Placed) → In x (calls_of (closing_of w)) → IsCallAt x
  call_at x m = go x (where_is x m)
    where
      go : (x : Placed) → Where x → IsCallAt x
      go x (done r e a) = subst IsCallAt (sym e) (of_record r a)
      go x (open_ u e b) = subst IsCallAt (sym e) (of_begun u b)

  -- a call is told by its seat and its number
  pub same_call : (x y : Placed) → In x (calls_of (closing_of w)) → In y (calls_of (closing_of w)) →
      seat_of x ≡ seat_of y → number_of x ≡ number_of y → x ≡ y
  same_call x y m n s e = go x y (where_is x m) (where_is y n) s e
    where
      -- two records of one seat with one number
      records_same : (a b : Record) → IsAt a → IsAt b → a.seat ≡ b.seat → a.number ≡ b.number → a ≡ b
      records_same a b i j s e =
          let seat : i.seat ≡ j.seat = sym i.of.seat_is ∙ s ∙ j.of.seat_is in
          let at : i.at ≡ j.at = omega (arith, i.of.number_is, j.of.number_is, e) in
          i.is ∙ ap (λ q. get_or (records q) i.at a) seat ∙ ap (λ k. get_or (records j.seat) k a) at
          ∙ same_at (records j.seat) j.at a b j.less ∙ sym j.is
        where
          same_at : (xs : List Record) (i : ℕ) (x y : Record) → i < length xs → get_or xs i x ≡ get_or xs i y
          same_at [] i x y lt = absurd (omega (arith, lt))
          same_at (z ∷ xs) zero x y lt = refl
          same_at (z ∷ xs) (suc i) x y lt = same_at xs i x y (omega (arith, lt))

      -- a seat has one call that was begun
      begun_same : (a b : Pending) → IsBegun a → IsBegun b → a.seat ≡ b.seat → a ≡ b
      begun_same a b i j s =
          let seat : i.seat ≡ j.seat = ap (λ (z : Pending). z.seat) (sym i.is) ∙ s
          ∙ ap (λ (z : Pending). z.seat) j.is in
          let flight : i.flight ≡ j.flight =
          flights i.flight j.flight i.phase j.phase (sym i.stand ∙ ap (λ q. (seat_in w q).stand) seat ∙ j.stand) in
          i.is ∙ ap (λ q. pending_of q i.flight) seat ∙ ap (pending_of j.seat) flight ∙ sym j.is
        where
          flights : (f g : Flight) (a b : Phase) → InFlight f a ≡ InFlight g b → f ≡ g
          flights f g a b e = cc

      -- a call in flight is beyond its seat's records
      apart : (a : Record) (b : Pending) → IsAt a → IsBegun b → a.seat ≡ b.seat → a.number ≡ b.number → ⊥
      apart a b i j s e =
          let seat : i.seat ≡ j.seat = sym i.of.seat_is ∙ s ∙ ap (λ (z : Pending). z.seat) j.is in
          let f = flies j.seat j.flight j.phase j.inside j.stand in
          omega (
            arith,
            i.of.number_is,
            e,
            ap (λ (z : Pending). z.number) j.is,
            f.number_is,
            i.less,
            ap (λ q. length (records q)) seat,
          )

      go : (x y : Placed) → Where x → Where y → seat_of x ≡ seat_of y → number_of x ≡ number_of y → x ≡ y
      go x y (done a e i) (done b f j) s n =
          e ∙ ap answered (records_same a b i j (ap seat_of (sym e) ∙ s ∙ ap seat_of f)
          (ap number_of (sym e) ∙ n ∙ ap number_of f)) ∙ sym f
      go x y (done a e i) (open_ b f j) s n =
          absurd (apart a b i j (ap seat_of (sym e) ∙ s ∙ ap seat_of f) (ap number_of (sym e) ∙ n ∙ ap number_of f))
      go x y (open_ a e i) (done b f j) s n =
          absurd (apart b a j i (ap seat_of (sym f) ∙ sym s ∙ ap seat_of e)
          (ap number_of (sym f) ∙ sym n ∙ ap number_of e))
      go x y (open_ a e i) (open_ b f j) s n =
          e ∙ ap pending (begun_same a b i j (ap seat_of (sym e) ∙ s ∙ ap seat_of f)) ∙ sym f

  -- ---- which calls there are

  -- the call of this seat with this number is among them
  pub record IsThere (q n : ℕ) : Type 0 where
    pub call : Placed
    pub there : In call (calls_of (closing_of w))
    pub seat : seat_of call ≡ q
    pub number : number_of call ≡ n

  -- it is, where it is answered
  pub answered_there : (q n : ℕ) → q < seats_of setup → 1 ≤ n → n ≤ t.answers q →
      (r : Record) × In r (records_of w) × (r.seat ≡ q) × (r.number ≡ n)
  answered_there q n inside one few =
      let less : n - 1 < length (records q) = omega (arith, one, few, many q inside) in
      let d : Record = default (records q) less in
      let of = each q (n - 1) d inside less in
      (get_or (records q) (n - 1) d, record_in q (n - 1) d inside less, of.seat_is, omega (arith, of.number_is, one))
    where
      default : (xs : List Record) → n - 1 < length xs → Record
      default [] lt = absurd (omega (arith, lt))
      default (x ∷ xs) lt = x

  -- each op that a seat announced is a call that there is
  pub announced_there : (told : Told setup p t) (q j : ℕ) → q < seats_of setup → j < (c.used q).op_rows →
      IsThere q (c.op_at q j).number
  announced_there told q j inside less = elim (cases_lt (t.answers q) (c.op_at q j).number) [
    | inr old ↦ let r = answered_there q (c.op_at q j).number inside (told.ops q j inside less).0 old in
        record {
          call = answered r.0;
          there = in_left (answered r.0) (map answered (records_of w))
              (map pending (begun_of w)) (map_in answered (records_of w) r.0 r.1);
          seat = r.2;
          number = r.3;
        }
    | inl new ↦ go (seat_in w q).stand refl (seats q inside) new
  ]
    where
      go : (stand : Stand) → (seat_in w q).stand ≡ stand →
          Seated setup p t q (locals q) (seat_in w q).account stand → t.answers q < (c.op_at q j).number →
          IsThere q (c.op_at q j).number
      go Idle e k new = absurd (omega (arith, new, k.upto.ops j less, k.answers.many))
      go (InFlight flight phase) e k new = record {
        call = pending (pending_of q flight);
        there = in_right (pending (pending_of q flight)) (map answered (records_of w)) (map pending (begun_of w))
            (map_in pending (begun_of w) (pending_of q flight) (begun_in q flight phase inside e));
        seat = refl;
        number = omega (arith, k.number_is, k.answers.many, k.upto.ops j less, new);
      }
