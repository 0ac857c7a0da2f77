-- What a seat of the ghost has answered only grows.
use Rattle.std.proofs.Common.{◌≡◌, ℕ, ◌-◌, ◌<◌, ◌≤◌, inl, inr, Bool, true, false, cond, List, [], ◌∷◌, ◌++◌, length, get_or, refl, sym, ap, ◌∙◌, subst, arith, append_assoc, append-nil, length-set}
use Rattle.std.specs.Prelude.{Option, Some, None, fold, nat_lt, slice_index, replicate}
use Rattle.plain_map.specs.declared.records.Record.{Record}
use Rattle.plain_map.specs.declared.records.TheConstants.{MOST_SEATS}
use Rattle.std.proofs.lemmas.Bool.{cases_eq, cases_lt, ltb-true}
use Rattle.std.proofs.lemmas.List.{length-append, length-replicate, get_or_append_left, get_or_past}
use Rattle.plain_map.specs.declared.calls.Call.{Call}
use Rattle.plain_map.specs.declared.full.Full.{Full}
use Rattle.table_model.specs.declared.events.Event.{Event}
use Rattle.table_model.specs.Setup.{Setup, seats_of}
use Rattle.table_model.specs.Phases.{Phase, SeeDone, StoreDone}
use Rattle.table_model.specs.SeatStates.{Account, Flight, Stand, Idle, InFlight, SeatState, fresh_seat, begun, record_of, seen_counts}
use Rattle.table_model.specs.Goes.{state_after}
use Rattle.table_model.specs.Asks.{ask_in}
use Rattle.table_model.specs.Worlds.{World, happens, act, begin_or_refuse, refusal_of, step_of, found_by, opening_world, world_after, seat_in}
use Rattle.bound_laws.proofs.WorldSteps.{step_same, act_other}
use Rattle.run_laws.proofs.TwoParts.{happen_both}

-- by a step
record_added : (setup : Setup) (me : ℕ) (account : Account) (flight : Flight) (phase : Phase) (word : ℕ) →
    (more : List Record)
    × ((state_after setup me account flight phase word).account.records ≡ account.records ++ more)
record_added setup me account flight (StoreDone reply place) word = (record_of me flight reply place ∷ [], refl)
record_added setup me account flight phase word = ([], sym (append-nil account.records))

-- what was seen of a seat stands in the record
kept_front : (seen xs : List ℕ) (k : ℕ) → get_or seen k 0 ≤ get_or (seen ++ xs) k 0
kept_front seen xs k = elim (cases_lt k (length seen)) [
  | inl less ↦ (let same = get_or_append_left seen xs 0 k less in omega (arith, same))
  | inr past ↦ (let none = get_or_past seen k 0 past in omega (arith, none))
]

pub counts_kept : (seen : List ℕ) (k : ℕ) → get_or seen k 0 ≤ slice_index (seen_counts seen).counts k
counts_kept seen k = kept_front seen (replicate (MOST_SEATS - length seen) 0) k

module _ (setup : Setup) where
  -- what a seat has answered is the front of what it has answered later
  abbrev Grows : World → World → ℕ → Type 0
  Grows w v k = (more : List Record) × ((seat_in v k).account.records ≡ (seat_in w k).account.records ++ more)

  -- nothing is answered
  as_before : (w : World) (k : ℕ) → Grows w w k
  as_before w k = ([], sym (append-nil (seat_in w k).account.records))

  -- by a step
  step_grows : (w : World) (me : ℕ) (flight : Flight) (phase : Phase) → me < length w.seats →
      Grows w (step_of setup w me (seat_in w me).account flight phase) me
  step_grows w me flight phase h =
      let account = (seat_in w me).account in
      let added = record_added setup me account flight phase (found_by setup
      (ask_in setup me account.used flight phase) w.words) in
      (added.0, ap (λ (s : SeatState). s.account.records) (step_same setup w me account flight phase h) ∙ added.1)

  -- by an act
  act_grows : (w : World) (me : ℕ) (stand : Stand) (begin : Option (ℕ × Call)) → me < length w.seats →
      Grows w (act setup w me (seat_in w me).account stand begin) me
  act_grows w me Idle None h = as_before w me
  act_grows w me Idle (Some begin) h = go (refusal_of setup me (seat_in w me).account begin.1)
    where
      go : (r : Option Full) → Grows w (begin_or_refuse setup w me (seat_in w me).account begin.0 begin.1 r) me
      go (Some full) = as_before w me
      go None = step_grows w me (begun (seat_in w me).account begin.0 begin.1) SeeDone h
  act_grows w me (InFlight flight phase) begin h = step_grows w me flight phase h

  -- the seats stay as many
  act_long : (w : World) (me : ℕ) (account : Account) (stand : Stand) (begin : Option (ℕ × Call)) →
      length (act setup w me account stand begin).seats ≡ length w.seats
  act_long w me account Idle None = refl
  act_long w me account Idle (Some begin) = go (refusal_of setup me account begin.1)
    where
      go : (r : Option Full) → length (begin_or_refuse setup w me account begin.0 begin.1 r).seats ≡ length w.seats
      go (Some full) = refl
      go None = length-set w.seats me _
  act_long w me account (InFlight flight phase) begin = length-set w.seats me _

  -- an event
  one_grows : (w : World) (event : Event) (k : ℕ) → length w.seats ≡ seats_of setup →
      Grows w (happens setup w event) k × (length (happens setup w event).seats ≡ length w.seats)
  one_grows w event k long = go (nat_lt event.seat (seats_of setup)) refl
    where
      acted : World
      acted = act setup w event.seat (seat_in w event.seat).account (seat_in w event.seat).stand event.begin

      go : (b : Bool) → nat_lt event.seat (seats_of setup) ≡ b → Grows w (cond b acted w) k
          × (length (cond b acted w).seats ≡ length w.seats)
      go false e = (as_before w k, refl)
      go true e = (
        elim (cases_eq k event.seat) [
          | inl f ↦ subst (Grows w acted) (sym f) (act_grows w event.seat (seat_in w event.seat).stand event.begin
              (let less = ltb-true event.seat (seats_of setup) e in omega (arith, less, long)))
          | inr n ↦ (
            [],
            ap (λ (s : SeatState). s.account.records)
                (act_other setup w event.seat k (seat_in w event.seat).account (seat_in w event.seat).stand
                event.begin n)
                ∙ sym (append-nil (seat_in w k).account.records),
          )
        ],
        act_long w event.seat (seat_in w event.seat).account (seat_in w event.seat).stand event.begin,
      )

  -- events one after the other
  all_grow : (events : List Event) (w : World) (k : ℕ) → length w.seats ≡ seats_of setup →
      Grows w (fold (happens setup) w events) k
  all_grow [] w k long = as_before w k
  all_grow (event ∷ events) w k long =
      let one = one_grows w event k long in
      let rest = all_grow events (happens setup w event) k (one.1 ∙ long) in (
        one.0.0 ++ rest.0,
        rest.1 ∙ ap (λ (rs : List Record). rs ++ rest.0) one.0.1
            ∙ append_assoc (seat_in w k).account.records one.0.0 rest.0,
      )

  -- and then there are as many seats
  all_long : (events : List Event) (w : World) → length w.seats ≡ seats_of setup →
      length (fold (happens setup) w events).seats ≡ seats_of setup
  all_long [] w long = long
  all_long (event ∷ events) w long =
      all_long events (happens setup w event) ((one_grows w event 0 long).1 ∙ long)

  -- there are as many seats as at the opening
  pub seats_long : (events : List Event) → length (world_after setup events).seats ≡ seats_of setup
  seats_long events = all_long events (opening_world setup) (length-replicate (seats_of setup) fresh_seat)

  -- THE RESULT
  pub records_front : (events more next : List Event) (k : ℕ) →
      length (world_after setup events).seats ≡ seats_of setup → next ≡ events ++ more →
      (later : List Record) × ((seat_in (world_after setup next) k).account.records
      ≡ (seat_in (world_after setup events) k).account.records ++ later)
  records_front events more next k long is =
      let up = all_grow more (world_after setup events) k long in (
        up.0,
        ap (λ (w : World). (seat_in w k).account.records)
            (ap (world_after setup) is ∙ happen_both setup (opening_world setup) events more)
            ∙ up.1,
      )

  -- so there are no fewer
  pub records_grow : (events more next : List Event) (k : ℕ) → length
      (world_after setup events).seats ≡ seats_of setup →
      next ≡ events ++ more →
      length (seat_in (world_after setup events) k).account.records
      ≤ length (seat_in (world_after setup next) k).account.records
  records_grow events more next k long is =
      let up = records_front events more next k long is in
      let at = ap (λ (rs : List Record). length rs) up.1 in
      let sum = length-append (seat_in (world_after setup events) k).account.records up.0 in
      omega (arith, at, sum)

  -- as many records are the same ones
  pub records_same : (events more next : List Event) (k : ℕ) →
      length (world_after setup events).seats ≡ seats_of setup → next ≡ events ++ more →
      length (seat_in (world_after setup next) k).account.records
      ≡ length (seat_in (world_after setup events) k).account.records →
      (seat_in (world_after setup next) k).account.records ≡ (seat_in (world_after setup events) k).account.records
  records_same events more next k long is as_many =
      let up = records_front events more next k long is in
      up.1 ∙ go up.0
      (let at = ap (λ (rs : List Record). length rs) up.1 in
      let sum = length-append (seat_in (world_after setup events) k).account.records up.0 in
      omega (arith, at, sum, as_many))
    where
      go : (later : List Record) → length later ≡ 0 →
          (seat_in (world_after setup events) k).account.records ++ later
          ≡ (seat_in (world_after setup events) k).account.records
      go [] none = append-nil (seat_in (world_after setup events) k).account.records
      go (r ∷ later) none = absurd (omega (arith, none))
