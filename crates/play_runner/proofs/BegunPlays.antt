-- The calls that are under way where a run stops: what each has seen, how they are weighed, and what holds of all.
use Rattle.std.proofs.Common.{◌≡◌, ◌≤◌, ◌<◌, ℕ, suc, ◌+◌, ◌-◌, List, [], ◌∷◌, length, get_or, replicate, inl, inr, refl, sym, subst, arith, length-append}
use Rattle.std.specs.List.{All, enumerate_from, flat_map, sum_by}
use Rattle.std.proofs.lemmas.Bool.{cases_lt}
use Rattle.std.proofs.lemmas.List.{get_or_default, length-replicate}
use Rattle.std.proofs.lemmas.List.Elements.{All-append, All-cons, All-nil, All-replicate}
use Rattle.std.proofs.lemmas.List.Sums.{sum_by-append, sum_by-cons}
use Rattle.plain_map.specs.declared.calls.Call.{Call}
use Rattle.plain_map.specs.declared.records.Pending.{Pending}
use Rattle.table_model.specs.declared.events.Event.{Event}
use Rattle.table_model.specs.Setup.{Setup, seats_of}
use Rattle.table_model.specs.Phases.{Phase}
use Rattle.table_model.specs.SeatStates.{Account, Flight, Stand, Idle, InFlight, SeatState, fresh_seat, pending_of, seen_counts}
use Rattle.table_model.specs.Worlds.{IsRun, World, seat_in, world_after}
use Rattle.table_model.specs.Closed.{begun_by, begun_of}
use Rattle.run_invariant.proofs.Invariant.{Local}
use Rattle.order_laws.proofs.Tale.{Past, Seated, Tale, past_of}
use Rattle.order_laws.proofs.AllRuns.{all_tell}
use Rattle.play_runner.proofs.WeighedPlays.{of_flying, of_stand}

-- ---- what holds of all

module _ (Q : Pending → Type 0) where
  -- of seats that are counted on from a number
  begun_from : (from : ℕ) (states : List SeatState) →
      ((i : ℕ) → i < length states → All Q (begun_by (from + i) (get_or states i fresh_seat).stand)) →
      All Q (flat_map (λ (numbered : ℕ × SeatState). begun_by numbered.0 numbered.1.stand) (enumerate_from from states))
  begun_from from [] each = All-nil Q
  begun_from from (state ∷ states) each =
      let here : from + 0 ≡ from = omega arith in
      All-append Q (begun_by from state.stand)
      (flat_map (λ (numbered : ℕ × SeatState). begun_by numbered.0 numbered.1.stand) (enumerate_from (from + 1) states))
      (subst (λ (n : ℕ). All Q (begun_by n state.stand)) here (each 0 (omega arith)))
      (begun_from (from + 1) states (λ i less.
      let later : from + suc i ≡ from + 1 + i = omega arith in
      subst (λ (n : ℕ). All Q (begun_by n (get_or states i fresh_seat).stand)) later
      (each (suc i) (omega (arith, less)))))

  -- what holds of each seat's call holds of all that are under way
  pub all_begun : (w : World) → ((seat : ℕ) (flight : Flight) (phase : Phase) → seat < length w.seats →
      (seat_in w seat).stand ≡ InFlight flight phase → Q (pending_of seat flight)) → All Q (begun_of w)
  all_begun w each = begun_from 0 w.seats (λ i less.
      let at : 0 + i ≡ i = omega arith in
      subst (λ (n : ℕ). All Q (begun_by n (seat_in w i).stand)) (sym at) (go i less (seat_in w i).stand refl))
    where
      go : (i : ℕ) → i < length w.seats → (stand : Stand) → (seat_in w i).stand ≡ stand → All Q (begun_by i stand)
      go i less Idle is = All-nil Q
      go i less (InFlight flight phase) is =
          All-cons Q (pending_of i flight) [] (each i flight phase less is) (All-nil Q)

-- ---- how they are weighed

module _ (weight : ℕ × Call → ℕ) where
  -- a call under way
  abbrev pub of_pending : Pending → ℕ
  of_pending u = weight (u.packet, u.call)

  -- a seat's call weighs what its stand weighs
  stand_begun : (seat : ℕ) (stand : Stand) → sum_by of_pending (begun_by seat stand) ≡ of_stand weight stand
  stand_begun seat Idle = refl
  stand_begun seat (InFlight flight phase) = omega (arith, sum_by-cons of_pending (pending_of seat flight) [])

  -- and so do those of all seats
  seats_begun : (from : ℕ) (states : List SeatState) →
      sum_by of_pending (flat_map (λ (numbered : ℕ × SeatState). begun_by numbered.0 numbered.1.stand)
      (enumerate_from from states))
      ≡ sum_by (λ (state : SeatState). of_stand weight state.stand) states
  seats_begun from [] = refl
  seats_begun from (state ∷ states) = omega (
    arith,
    sum_by-append of_pending (begun_by from state.stand)
        (flat_map (λ (numbered : ℕ × SeatState). begun_by numbered.0 numbered.1.stand)
        (enumerate_from (from + 1) states)),
    stand_begun from state.stand,
    seats_begun (from + 1) states,
    sum_by-cons (λ (s : SeatState). of_stand weight s.stand) state states,
  )

  -- those that are told weigh what is under way
  pub begun_weigh : (w : World) → sum_by of_pending (begun_of w) ≡ of_flying weight w
  begun_weigh w = seats_begun 0 w.seats

-- ---- what each has seen

-- the answers of a seat are its records
answered_many : (setup : Setup) (p : Past) (t : Tale) (seat : ℕ) (local : Local) (account : Account) (stand : Stand) →
    Seated setup p t seat local account stand → t.answers seat ≡ length account.records
answered_many setup p t seat local account Idle seated = seated.answers.many
answered_many setup p t seat local account (InFlight flight phase) seated = seated.answers.many

-- a call under way has seen no more of a seat's calls than are answered
pub seen_few : (setup : Setup) (events : List Event) (seat : ℕ) (flight : Flight) (phase : Phase) → IsRun setup events →
    seat < seats_of setup → (seat_in (world_after setup events) seat).stand ≡ InFlight flight phase → (other : ℕ) →
    get_or flight.seen other 0 ≤ length (seat_in (world_after setup events) other).account.records
seen_few setup events seat flight phase run inside is other =
    let a = all_tell setup events run in
    let own = subst (Seated setup (past_of a.common) a.extra seat (a.locals seat)
    (seat_in (world_after setup events) seat).account) is (a.holds.seats seat inside) in
    elim (cases_lt other (seats_of setup)) [
      | inl there ↦ omega (
        arith,
        own.seen_is other,
        a.holds.told.seen_few seat flight.number other,
        answered_many setup (past_of a.common) a.extra other (a.locals other)
            (seat_in (world_after setup events) other).account (seat_in (world_after setup events) other).stand
            (a.holds.seats other there),
      )
      | inr past ↦ omega (arith, own.seen_is other, a.holds.told.seen_none seat flight.number other past)
    ]

-- so the counts are below each number that those of all seats are below
pub counts_fit : (limit : ℕ) (seen : List ℕ) → 0 < limit → ((seat : ℕ) → get_or seen seat 0 < limit) →
    All (λ (count : ℕ). count < limit) (seen_counts seen).counts
counts_fit limit seen some few =
    All-append (λ (count : ℕ). count < limit) seen (replicate (8 - length seen) 0)
    (λ k d less. subst (λ (count : ℕ). count < limit) (get_or_default seen k 0 d less) (few k))
    (All-replicate (λ (count : ℕ). count < limit) (8 - length seen) 0 some)

-- there is a count for each of eight seats
pub counts_long : (seen : List ℕ) → 8 ≤ length (seen_counts seen).counts
counts_long seen = omega (
  arith,
  length-append seen (replicate (8 - length seen) 0),
  length-replicate {A = ℕ} (8 - length seen) 0,
)
