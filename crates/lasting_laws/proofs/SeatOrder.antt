-- In the one order of a run of today's table the calls of a seat are its records, in order, and its update under way if
-- that took effect.
use Rattle.std.proofs.Common.{◌≡◌, ℕ, ◌+◌, ◌<◌, inl, inr, Bool, true, false, cond, List, [], ◌∷◌, ◌++◌, map, length, get_or, refl, sym, ap, ◌∙◌, subst, arith, suc, eq-eqb}
use Rattle.std.specs.Prelude.{filter}
use Rattle.std.proofs.lemmas.Bool.{eqb-true}
use Rattle.std.proofs.lemmas.List.Sorted.{IsPermutation-sym}
use Rattle.list_laws.proofs.Lists.{In, Once, in_left, in_right, in_both, in_map, map_in, in_filter, filter_in}
use Rattle.list_laws.proofs.Places.{in_at, in_other_order}
use Rattle.plain_map.specs.declared.records.Record.{Record}
use Rattle.plain_map.specs.declared.records.Pending.{Pending}
use Rattle.plain_map.specs.History.{Placed, answered, pending, seat_of, Whole}
use Rattle.table_model.specs.declared.events.Event.{Event}
use Rattle.table_model.specs.Setup.{Setup, seats_of}
use Rattle.table_model.specs.SeatStates.{Stand, Idle, InFlight, pending_of}
use Rattle.table_model.specs.Worlds.{World, IsRun, world_after, seat_in}
use Rattle.table_model.specs.Order.{Closing, order_of, effects_of, took_effect}
use Rattle.table_model.specs.Closed.{begun_by}
use Rattle.table_model.specs.Histories.{closed}
use Rattle.run_laws.proofs.Layers.{HoldsWith}
use Rattle.closed_laws.proofs.Pieces.{once_filter}
use Rattle.order_laws.proofs.Tale.{Tale}
use Rattle.order_laws.proofs.AllRuns.{Tells, all_tell}
use Rattle.order_laws.proofs.Calls as Calls
use Rattle.order_laws.proofs.Calls.{at_in, begun_one}
use Rattle.order_laws.proofs.Promised.{order_is_whole, order_is_after}
use Rattle.lasting_laws.proofs.InTurn.{NumberedFrom, is_of, same_turn, of_seat_follow, order_once}

-- records that are numbered one after the other, and what follows
numbered_records : (k : ℕ) (rs : List Record) (tail : List Placed) →
    ((i : ℕ) (d : Record) → i < length rs → (get_or rs i d).number ≡ k + i + 1) →
    NumberedFrom (k + length rs) tail → NumberedFrom k (map answered rs ++ tail)
numbered_records k [] tail each n = subst (λ j. NumberedFrom j tail) (let e : k + 0 ≡ k = omega arith in e) n
numbered_records k (r ∷ rs) tail each n = (
  (let first = each 0 r (omega arith) in omega (arith, first)),
  numbered_records (k + 1) rs tail
      (λ i d h. (let next = each (suc i) d (omega (arith, h)) in omega (arith, next)))
      (subst (λ j. NumberedFrom j tail)
      (let e : k + length (r ∷ rs) ≡ (k + 1) + length rs = omega arith in e) n),
)

module _ (setup : Setup) (events : List Event) (run : IsRun setup events) where
  abbrev w : World
  w = world_after setup events

  abbrev closing : Closing
  closing = closed setup events

  abbrev order : List Placed
  order = order_of setup.shape closing

  abbrev took : Pending → Bool
  took = took_effect setup.shape closing.words

  abbrev all : List Placed
  all = map answered closing.records ++ map pending (filter took closing.begun)

  a : HoldsWith Tale setup (Tells setup) w
  a = all_tell setup events run

  whole : Whole closing.records (effects_of setup.shape closing) order
  whole = order_is_whole setup events run

  -- each call stands once
  once : Once order
  once = order_once (map answered closing.records) took closing.begun order
      (Calls.calls_once setup w a.common a.locals a.extra a.follows.long a.holds.seats)
      (Calls.same_call setup w a.common a.locals a.extra a.follows.long a.holds.seats) whole

  -- each is of a seat that there is
  pub seats_inside : (c : Placed) → In c order → seat_of c < seats_of setup
  seats_inside c i =
      (Calls.call_at setup w a.common a.locals a.extra a.follows.long a.holds.seats c
      (elim (in_both c (map answered closing.records) (map pending (filter took closing.begun))
      (in_other_order all order c whole i)) [
        | inl m ↦ in_left c (map answered closing.records) (map pending closing.begun) m
        | inr m ↦
            let u = in_map pending (filter took closing.begun) c m in
            in_right c (map answered closing.records) (map pending closing.begun)
            (subst (λ z. In z (map pending closing.begun)) (sym u.2)
            (map_in pending closing.begun u.0 (in_filter took closing.begun u.0 u.1).0))
      ])).inside

  module _ (q : ℕ) (inside : q < seats_of setup) where
    abbrev records : List Record
    records = (seat_in w q).account.records

    -- its update under way, if that took effect
    abbrev pub open_by : List Pending
    open_by = filter took (begun_by q (seat_in w q).stand)

    abbrev its : List Placed
    its = map answered records ++ map pending open_by

    -- ---- they are the same calls

    -- a record of the seat is one of them
    its_record : (c : Placed) → seat_of c ≡ q → In c (map answered closing.records) → In c its
    its_record c seat m =
        let r = in_map answered closing.records c m in
        let at = Calls.record_at setup w a.common a.locals a.extra a.follows.long a.holds.seats r.0 r.1 in
        let same : at.seat ≡ q = sym at.of.seat_is ∙ ap seat_of (sym r.2) ∙ seat in
        let there : In r.0 (seat_in w at.seat).account.records =
        subst (λ z. In z (seat_in w at.seat).account.records) (sym at.is)
        (in_at (seat_in w at.seat).account.records at.at r.0 at.less) in
        subst (λ z. In z its) (sym r.2)
        (in_left (answered r.0) (map answered records) (map pending open_by)
        (map_in answered records r.0 (subst (λ k. In r.0 (seat_in w k).account.records) same there)))

    -- and so is its update under way
    its_open : (c : Placed) → seat_of c ≡ q → In c (map pending (filter took closing.begun)) → In c its
    its_open c seat m =
        let u = in_map pending (filter took closing.begun) c m in
        let f = in_filter took closing.begun u.0 u.1 in
        let b = Calls.begun_at setup w a.common a.locals a.extra a.follows.long a.holds.seats u.0 f.0 in
        let same : b.seat ≡ q = ap (λ (z : Pending). z.seat) (sym b.is) ∙ ap seat_of (sym u.2) ∙ seat in
        let there : In u.0 (begun_by b.seat (seat_in w b.seat).stand) =
        subst (λ s. In u.0 (begun_by b.seat s)) (sym b.stand) (inl b.is) in
        subst (λ z. In z its) (sym u.2)
        (in_right (pending u.0) (map answered records) (map pending open_by)
        (map_in pending open_by u.0
        (filter_in took (begun_by q (seat_in w q).stand) u.0
        (subst (λ k. In u.0 (begun_by k (seat_in w k).stand)) same there) f.1)))

    -- each call of the seat in the order is one of them
    there : (c : Placed) → In c (filter (is_of q) order) → In c its
    there c i =
        let f = in_filter (is_of q) order c i in
        let seat = eqb-true (seat_of c) q f.1 in
        elim (in_both c (map answered closing.records) (map pending (filter took closing.begun))
        (in_other_order all order c whole f.0)) [
          | inl m ↦ its_record c seat m
          | inr m ↦ its_open c seat m
        ]

    -- a call of the seat that is to stand
    stands : (c : Placed) → In c all → seat_of c ≡ q → In c (filter (is_of q) order)
    stands c i seat = filter_in (is_of q) order c
        (in_other_order order all c (IsPermutation-sym all order whole) i) (eq-eqb (seat_of c) q seat)

    -- and each of them stands in the order
    back : (c : Placed) → In c its → In c (filter (is_of q) order)
    back c i = elim (in_both c (map answered records) (map pending open_by) i) [
      | inl m ↦
          let r = in_map answered records c m in
          let at = at_in records r.0 r.0 r.1 in
          let known = Calls.each setup w a.common a.locals a.extra a.follows.long a.holds.seats q at.0 r.0 inside
          at.1 in
          let of_world : In r.0 closing.records = subst (λ z. In z closing.records) (sym at.2)
          (Calls.record_in setup w a.common a.locals a.extra a.follows.long a.holds.seats q at.0 r.0 inside at.1) in
          let seat : seat_of c ≡ q = ap seat_of r.2 ∙ ap (λ (z : Record). z.seat) at.2 ∙ known.seat_is in
          stands c (subst (λ z. In z all) (sym r.2)
          (in_left (answered r.0) (map answered closing.records) (map pending (filter took closing.begun))
          (map_in answered closing.records r.0 of_world))) seat
      | inr m ↦
          let u = in_map pending open_by c m in
          let f = in_filter took (begun_by q (seat_in w q).stand) u.0 u.1 in
          let b = begun_one u.0 q (seat_in w q).stand f.0 in
          let of_world : In u.0 closing.begun = subst (λ z. In z closing.begun) (sym b.1.2)
          (Calls.begun_in setup w a.common a.locals a.extra a.follows.long a.holds.seats q b.0 b.1.0 inside b.1.1) in
          let seat : seat_of c ≡ q = ap seat_of u.2 ∙ ap (λ (z : Pending). z.seat) b.1.2 in
          stands c (subst (λ z. In z all) (sym u.2)
          (in_right (pending u.0) (map answered closing.records) (map pending (filter took closing.begun))
          (map_in pending (filter took closing.begun) u.0 (filter_in took closing.begun u.0 of_world f.1)))) seat
    ]

    -- ---- and numbered

    -- the update under way has the next number
    open_numbered : (stand : Stand) → (seat_in w q).stand ≡ stand →
        NumberedFrom (length records) (map pending (filter took (begun_by q stand)))
    open_numbered Idle e = tt
    open_numbered (InFlight flight phase) e = go (took (pending_of q flight))
      where
        go : (b : Bool) → NumberedFrom (length records) (map pending (cond b (pending_of q flight ∷ []) []))
        go true = (
          (Calls.flies setup w a.common a.locals a.extra a.follows.long a.holds.seats q flight phase inside
              e).number_is,
          tt,
        )
        go false = tt

    -- so they are numbered one after the other
    numbered : NumberedFrom 0 its
    numbered = numbered_records 0 records (map pending open_by)
        (λ i d h. (let known = Calls.each setup w a.common a.locals a.extra a.follows.long a.holds.seats q i d inside h
        in let n = known.number_is in omega (arith, n)))
        (subst (λ j. NumberedFrom j (map pending open_by))
        (let e : length records ≡ 0 + length records = omega arith in e)
        (open_numbered (seat_in w q).stand refl))

    -- THE RESULT
    pub seat_order : filter (is_of q) order ≡ its
    seat_order = same_turn 0 its (filter (is_of q) order) numbered there back
        (once_filter (is_of q) order once) (of_seat_follow q order (order_is_after setup events run))
