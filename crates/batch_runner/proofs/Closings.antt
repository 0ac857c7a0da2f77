-- What a batch leaves to the order of its calls is what the run of its table leaves.
use Rattle.std.proofs.Common.{◌≡◌, ℕ, zero, suc, ◌+◌, ◌<◌, ◌≤◌, List, [], ◌∷◌, ◌++◌, length, map, refl, sym, ap, ◌∙◌, subst, inl, inr, length-append, arith}
use Rattle.std.specs.Prelude.{slice_index_or, flat_map, All}
use Rattle.std.specs.List.{enumerate_from}
use Rattle.std.proofs.lemmas.Bool.{cases_lt}
use Rattle.std.proofs.lemmas.List.Elements.{All-nil, All-append, All-head, All-tail}
use Rattle.plain_map.specs.declared.records.Record.{Record}
use Rattle.table_model.specs.SeatStates.{SeatState, Idle, fresh_seat}
use Rattle.table_model.specs.Setup.{Setup, seats_of}
use Rattle.table_model.specs.Worlds.{World, world_after, seat_in}
use Rattle.table_model.specs.Closed.{begun_by, closing_of}
use Rattle.table_model.specs.Order.{Closing}
use Rattle.table_model.specs.Promises.{HasSteps}
use Rattle.order_laws.proofs.AllRuns.{all_tell}
use Rattle.bound_laws.proofs.Ends.{steps_are_bounded, records_are_numbered}
use Rattle.trace_share.specs.Outcomes.{records_in}
use Rattle.batch_history.specs.Batches.{AreNumbered}
use Rattle.batch_deals.specs.declared.service.Service.{Service}
use Rattle.batch_runner.specs.Served.{Served, IsOfRun, closing_in, setup_of_batch}

-- the records of a seat's state
abbrev pub records_at : SeatState → List Record
records_at state = state.account.records

-- put end to end
ends : (states : List SeatState) → flat_map (λ (log : List Record). log) (map records_at states)
    ≡ flat_map records_at states
ends [] = refl
ends (s ∷ states) = ap (λ rest. records_at s ++ rest) (ends states)

-- a list of a mapped list, also past its end
pub map_at : {A B : Type 0} (f : A → B) (xs : List A) (i : ℕ) (d : A) (e : B) → f d ≡ e →
    slice_index_or (map f xs) i e ≡ f (slice_index_or xs i d)
map_at f [] i d e same = sym same
map_at f (x ∷ xs) zero d e same = refl
map_at f (x ∷ xs) (suc i) d e same = map_at f xs i d e same

-- past the end there is nothing
pub past : {A : Type 0} (xs : List A) (i : ℕ) (d : A) → length xs ≤ i → slice_index_or xs i d ≡ d
past [] i d beyond = refl
past (x ∷ xs) zero d beyond = absurd (omega arith)
past (x ∷ xs) (suc i) d beyond = past xs i d (omega (arith, beyond))

-- idle seats have begun no call
none_begun : (from : ℕ) (seats : List SeatState) → All (λ (s : SeatState). s.stand ≡ Idle) seats →
    flat_map (λ (x : ℕ × SeatState). begun_by x.0 x.1.stand) (enumerate_from from seats) ≡ []
none_begun from [] idle = refl
none_begun from (s ∷ seats) idle =
    let IsIdle : SeatState → Type 0 = λ (t : SeatState). t.stand ≡ Idle in
    ap (λ stand. begun_by from stand
    ++ (flat_map (λ (x : ℕ × SeatState). begun_by x.0 x.1.stand) (enumerate_from (from + 1) seats)))
    (All-head IsIdle s seats idle)
    ∙ none_begun (from + 1) seats (All-tail IsIdle s seats idle)

-- what holds of each seat's records holds of all
all_of : (P : Record → Type 0) (states : List SeatState) →
    ((seat : ℕ) → seat < length states → All P (records_at (slice_index_or states seat fresh_seat))) →
    All P (flat_map records_at states)
all_of P [] each = All-nil P
all_of P (s ∷ states) each =
    All-append P (records_at s) (flat_map records_at states) (each 0 (omega arith))
    (all_of P states (λ seat less. each (suc seat) (omega (arith, less))))

module _ (service : Service) (batch : Served) (of : IsOfRun service batch) where
  abbrev setup : Setup
  setup = setup_of_batch service batch

  abbrev world : World
  world = world_after setup of.events

  -- its records, seat by seat
  logs_are : map records_in batch.logs ≡ map records_at world.seats
  logs_are = of.records

  -- and end to end
  pub records_are : flat_map (λ (log : List Record). log) (map records_in batch.logs) ≡ flat_map records_at world.seats
  records_are = ap (flat_map (λ (log : List Record). log)) logs_are ∙ ends world.seats

  -- so the closing is that of the world
  pub closing_is : closing_in batch ≡ closing_of world
  closing_is =
      let begun = none_begun 0 world.seats of.idle in
      let c : (words : List ℕ) (records : List Record)
      → Closing = λ words records. record { words = words; records = records; begun = [] } in
      (λ i. c (of.words_are i) (records_are i))
      ∙ sym (λ i. record { words = world.words; records = flat_map records_at world.seats; begun = begun i })

  -- there are as many seats
  pub long : length world.seats ≡ seats_of setup
  long = (all_tell setup of.events of.run).follows.long

  -- the records of one seat
  pub log_is : (seat : ℕ) → slice_index_or (map records_in batch.logs) seat [] ≡ records_at (seat_in world seat)
  log_is seat = ap (λ (logs : List (List Record)). slice_index_or logs seat []) logs_are
      ∙ map_at records_at world.seats seat fresh_seat [] refl

  -- are numbered from 1 on
  pub numbered : AreNumbered (map records_in batch.logs)
  numbered seat front back r is = elim (cases_lt seat (seats_of setup)) [
    | inl within ↦ records_are_numbered setup of.events seat front back r of.run within (sym (log_is seat) ∙ is)
    | inr beyond ↦
        let none : slice_index_or world.seats seat fresh_seat ≡ fresh_seat =
        past world.seats seat fresh_seat (omega (arith, beyond, long)) in
        let empty : [] ≡ front ++ r ∷ back = sym (ap records_at none) ∙ sym (log_is seat) ∙ is in
        absurd (omega (arith, ap length empty, length-append front (r ∷ back)))
  ]

  -- each has its steps
  pub steps : All (HasSteps setup batch.words) (flat_map (λ (log : List Record). log) (map records_in batch.logs))
  steps =
      let P : Record → Type 0 = HasSteps setup world.words in
      let all : All P (flat_map records_at world.seats) =
      all_of P world.seats (λ seat less. steps_are_bounded setup of.events seat of.run (omega (arith, less, long))) in
      subst (λ (words : List ℕ). All (HasSteps setup words)
      (flat_map (λ (log : List Record). log) (map records_in batch.logs))) (sym of.words_are)
      (subst (All P) (sym records_are) all)
