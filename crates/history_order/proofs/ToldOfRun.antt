-- What a run leaves is told.
use Rattle.std.proofs.Common.{◌≡◌, ℕ, zero, suc, ◌+◌, ◌<◌, List, [], ◌∷◌, ◌++◌, length, map, take, drop, Some, None, refl, inl, inr, sym, ap, ◌∙◌, subst, arith}
use Rattle.std.specs.Prelude.{flat_map, slice_get}
use Rattle.std.specs.List.{enumerate_from}
use Rattle.std.proofs.lemmas.Bool.{cases_lt}
use Rattle.std.proofs.lemmas.List.{get_or_past, get_or-map, length-map}
use Rattle.std.proofs.lemmas.Option.{get_or_from_slice_get, slice_get_within}
use Rattle.plain_map.specs.declared.records.Record.{Record}
use Rattle.plain_map.specs.declared.records.Pending.{Pending}
use Rattle.word_rows.specs.Shape.{Shape}
use Rattle.table_model.specs.declared.events.Event.{Event}
use Rattle.table_model.specs.Setup.{Setup, seats_of}
use Rattle.table_model.specs.SeatStates.{SeatState, fresh_seat}
use Rattle.table_model.specs.Worlds.{World, IsRun, world_after, seat_in}
use Rattle.table_model.specs.Closed.{begun_by, begun_of}
use Rattle.table_model.specs.Order.{Closing}
use Rattle.table_model.specs.Histories.{closed}
use Rattle.list_laws.proofs.Lists.{In, in_flat_map, with_it}
use Rattle.placing_laws.proofs.Stuck.{Ranked}
use Rattle.closed_laws.proofs.Ledger.{Ledger}
use Rattle.closed_laws.proofs.Ends.{Stamps, place_of, ranked}
use Rattle.closed_laws.proofs.Places.{stamped, stamps}
use Rattle.order_laws.proofs.AllRuns.{all_tell}
use Rattle.order_laws.proofs.Promised.{run_known}
use Rattle.order_laws.proofs.Calls.{begun_one}
use Rattle.bound_laws.proofs.Ends.{records_are_numbered, flights_are_numbered}
use Rattle.table_model.specs.Closing.{closing_with, log_of, IsOfARun}
use Rattle.history_order.specs.Told.{Told}
use Rattle.std.proofs.Math.Nat.{zero-add}
use Rattle.list_laws.proofs.Numbers.{plus_none, plus_suc}

-- the records of all seats, by their lists
pub joined : (seats : List SeatState) →
    flat_map (λ (state : SeatState). state.account.records) seats
    ≡ flat_map (λ (log : List Record). log) (map (λ (state : SeatState). state.account.records) seats)
joined [] = refl
joined (state ∷ seats) = ap (λ rest. state.account.records ++ rest) (joined seats)

-- a member with its number
numbered_at : (from : ℕ) (seats : List SeatState) (x : ℕ × SeatState) → In x (enumerate_from from seats) →
    (i : ℕ) × (x.0 ≡ from + i) × (slice_get seats i ≡ Some x.1)
numbered_at from [] x m = elim m [ ]
numbered_at from (y ∷ ys) x (inl e) =
    (0, ap (λ (p : ℕ × SeatState). p.0) e ∙ plus_none from, ap (λ (p : ℕ × SeatState). Some p.1) (sym e))
numbered_at from (y ∷ ys) x (inr m) =
    let r = numbered_at (from + 1) ys x m in (suc r.0, r.1 ∙ plus_suc from r.0, r.2)

-- so many were taken
length_taken : {A : Type 0} → (xs : List A) (i : ℕ) → i < length xs → length (take i xs) ≡ i
length_taken [] i less = absurd (omega (arith, less))
length_taken (x ∷ xs) zero less = refl
length_taken (x ∷ xs) (suc i) less = ap suc (length_taken xs i (omega (arith, less)))

module _ (setup : Setup) (events : List Event) (run : IsRun setup events) where
  -- the world that it leaves
  abbrev world : World
  world = world_after setup events

  -- its records by seat
  abbrev logs : List (List Record)
  logs = map (λ (state : SeatState). state.account.records) world.seats

  -- there is a seat for each
  long : length world.seats ≡ seats_of setup
  long = (all_tell setup events run).follows.long

  -- the closed table, with its records by seat
  closing_is : closed setup events ≡ closing_with world.words logs (begun_of world)
  closing_is = ap (λ records. with_records records) (joined world.seats)
    where
      with_records : List Record → Closing
      with_records records = record { words = world.words; records = records; begun = begun_of world }

  -- a seat's records
  log_is : (seat : ℕ) → seat < length world.seats → log_of logs seat ≡ (seat_in world seat).account.records
  log_is seat less = get_or-map (λ (state : SeatState). state.account.records) world.seats seat fresh_seat [] less

  -- they are numbered
  numbered : (seat i : ℕ) (r : Record) → slice_get (log_of logs seat) i ≡ Some r →
      (r.seat ≡ seat) × (r.number ≡ i + 1)
  numbered seat i r e = elim (cases_lt seat (length world.seats)) [
    | inr past ↦
        (let none : None ≡ Some r =
        sym (ap (λ (xs : List Record). slice_get xs i) (get_or_past logs seat []
        (omega (arith, past, length-map world.seats (λ (state : SeatState). state.account.records))))) ∙ e in cc)
    | inl less ↦
        let records = (seat_in world seat).account.records in
        let at : slice_get records i ≡ Some r = ap (λ xs. slice_get xs i) (sym (log_is seat less)) ∙ e in
        let n = records_are_numbered setup events seat (take i records) (drop (suc i) records) r run
        (omega (arith, less, long)) (with_it records i r at) in
        (n.1, n.0 ∙ ap (λ k. k + 1) (length_taken records i (slice_get_within records i r at)))
  ]

  -- and has the next number
  next : (p : Pending) → In p (begun_of world) → p.number ≡ length (log_of logs p.seat) + 1
  next p m =
      let s = in_flat_map (λ (x : ℕ × SeatState). begun_by x.0 x.1.stand) (enumerate_from 0 world.seats) p m in
      let q = numbered_at 0 world.seats s.0 s.1 in
      let less = slice_get_within world.seats q.0 s.0.1 q.2 in
      let seat : s.0.0 ≡ q.0 = q.1 ∙ zero-add q.0 in
      let state : seat_in world q.0 ≡ s.0.1 = get_or_from_slice_get world.seats q.0 s.0.1 fresh_seat q.2 in
      let f = begun_one p s.0.0 s.0.1.stand s.2 in
      let number = flights_are_numbered setup events q.0 f.0 f.1.0 run (omega (arith, less, long))
      (ap (λ (z : SeatState). z.stand) state ∙ f.1.1) in
      ap (λ (u : Pending). u.number) f.1.2 ∙ number
      ∙ ap (λ (xs : List Record). length xs + 1) (sym (log_is q.0 less))
      ∙ ap (λ n. length (log_of logs n) + 1) (sym seat ∙ sym (ap (λ (u : Pending). u.seat) f.1.2))

  -- so all is told
  told_after : Told world.words logs (begun_of world)
  told_after =
      let k = run_known setup events run in
      let t : Stamps = stamps setup (closed setup events) k.book k.written k.from k.bound k.few k.lists k.clock in
      let s = stamped setup (closed setup events) k.book k.written k.from k.bound k.few k.lists k.clock k.links in
      record {
        setup = setup;
        book = k.book;
        written = k.written;
        ledger = subst (λ z. Ledger setup z k.book) closing_is k.ledger;
        place = place_of t;
        ranked = subst (λ z. Ranked setup z (place_of t)) closing_is
            (ranked setup (closed setup events) k.book k.written k.ledger t s);
        seats = length-map world.seats (λ (state : SeatState). state.account.records) ∙ long;
        numbered = numbered;
        next = next;
      }

-- of whatever a run left
pub told_of_run : (shape : Shape) (words : List ℕ) (logs : List (List Record)) (begun : List Pending) →
    IsOfARun shape words logs begun → (t : Told words logs begun) × (t.setup.shape ≡ shape)
unfolding told_after
told_of_run shape words all begun r =
    subst (λ b. (t : Told words all b) × (t.setup.shape ≡ shape)) r.begun_are
    (subst (λ ls. (t : Told words ls (begun_of (world_after r.setup r.events))) × (t.setup.shape ≡ shape)) r.logs_are
    (subst (λ ws. (t : Told ws (map (λ (state : SeatState). state.account.records)
    (world_after r.setup r.events).seats) (begun_of (world_after r.setup r.events))) × (t.setup.shape ≡ shape))
    r.words_are
    (told_after r.setup r.events r.run, r.shape_is)))
