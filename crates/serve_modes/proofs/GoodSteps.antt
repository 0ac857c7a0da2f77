-- The steps of each call that was served can be told: no call of a run takes more than 2^62.
use Rattle.std.proofs.Common.{◌<◌, ◌^◌, ℕ, suc, List, [], ◌∷◌, map, length, get_or, sym, subst, arith}
use Rattle.std.specs.Prelude.{All, flat_map}
use Rattle.std.proofs.lemmas.List.Elements.{All-append, All-nil}
use Rattle.std.proofs.lemmas.List.Sorted.{All-permutation}
use Rattle.plain_map.specs.declared.keys.Pair.{Pair}
use Rattle.plain_map.specs.declared.records.Record.{Record}
use Rattle.table_model.specs.declared.events.Event.{Event}
use Rattle.table_model.specs.Setup.{Setup, seats_of}
use Rattle.table_model.specs.SeatStates.{SeatState, fresh_seat}
use Rattle.table_model.specs.Worlds.{IsRun, seat_in, world_after}
use Rattle.bound_laws.proofs.Paced.{bound_small}
use Rattle.bound_laws.proofs.Whole.{called}
use Rattle.list_laws.proofs.Lists.{flat_map_append}
use Rattle.trace_share.specs.declared.outcome.Outcome.{Outcome}
use Rattle.trace_share.specs.Outcomes.{record_in, records_in}
use Rattle.batch_laws.proofs.Lines.{line_is_permuted}
use Rattle.batch_deals.specs.declared.service.Service.{Service}
use Rattle.batch_runner.specs.Served.{AreServed, IsServed, Served, setup_of_batch}
use Rattle.batch_runner.specs.Printed.{answers_in, outcomes_in}
use Rattle.batch_runner.proofs.Closings.{long}
use Rattle.batch_answers.proofs.Served.{line_is}

-- its steps can be told
abbrev pub IsBrief : Record → Type 0
IsBrief r = r.steps < 2 ^ 64

-- so it is with each record of a seat
brief_at : (setup : Setup) (events : List Event) (seat : ℕ) → IsRun setup events → seat < seats_of setup →
    All IsBrief (seat_in (world_after setup events) seat).account.records
brief_at setup events seat run within k d inside =
    omega (
      arith,
      ((called setup events run).holds.1 seat within).pacing.0 k d inside,
      bound_small setup (get_or (seat_in (world_after setup events) seat).account.records k d).call,
    )

-- the records of all seats, one seat after the other
brief_joined : (seats : List SeatState) →
    ((seat : ℕ) → seat < length seats → All IsBrief (get_or seats seat fresh_seat).account.records) →
    All IsBrief (flat_map (λ (log : List Record). log) (map (λ (state : SeatState). state.account.records) seats))
brief_joined [] each = All-nil IsBrief
brief_joined (state ∷ seats) each =
    All-append IsBrief state.account.records
    (flat_map (λ (log : List Record). log) (map (λ (other : SeatState). other.account.records) seats))
    (each 0 (omega arith)) (brief_joined seats (λ seat less. each (suc seat) (omega (arith, less))))

-- those of a batch in packet order
pub brief_batch : (service : Service) (batch : Served) → IsServed service batch →
    All IsBrief (answers_in (map (λ (o : ℕ × Outcome). o.1) batch.outcomes))
brief_batch service batch is =
    let setup : Setup = setup_of_batch service batch in
    let events : List Event = is.of_run.events in
    let logs : List (List Record) = map records_in batch.logs in
    let line : List Record = answers_in (map (λ (o : ℕ × Outcome). o.1) batch.outcomes) in
    All-permutation IsBrief (flat_map (λ (log : List Record). log) logs) line
    (line_is_permuted logs line (line_is service batch is))
    (subst (λ (ls : List (List Record)). All IsBrief (flat_map (λ (log : List Record). log) ls))
    (sym is.of_run.records)
    (brief_joined (world_after setup events).seats (λ seat less. brief_at setup events seat is.of_run.run
    (omega (arith, less, long service batch is.of_run)))))

-- and those of all batches
pub brief_all : (service : Service) (first : List Pair) (batches : List Served) → AreServed service first batches →
    All IsBrief (answers_in (outcomes_in batches))
brief_all service first [] are = All-nil IsBrief
brief_all service first (batch ∷ batches) are =
    let plain : List Outcome = map (λ (o : ℕ × Outcome). o.1) batch.outcomes in
    subst (All IsBrief) (sym (flat_map_append record_in plain (outcomes_in batches)))
    (All-append IsBrief (answers_in plain) (answers_in (outcomes_in batches)) (brief_batch service batch are.1)
    (brief_all service batch.pairs batches are.2))
