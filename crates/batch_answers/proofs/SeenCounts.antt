-- A record has a count of each of eight seats, so that counts of 0 that are put before them change nothing.
use Rattle.std.proofs.Common.{◌≡◌, ℕ, zero, suc, ◌+◌, ◌-◌, ◌≤◌, Bool, true, false, cond, List, [], ◌∷◌, length, map, Option, Some, None, refl, inl, inr, sym, ap, ◌∙◌, subst, length-append, arith}
use Rattle.std.specs.Prelude.{All, flat_map, fold, nat_lt, replicate, slice_index}
use Rattle.std.proofs.lemmas.Bool.{cases_lt}
use Rattle.std.proofs.lemmas.List.{get_or_past, length-map, length-replicate}
use Rattle.std.proofs.lemmas.List.Elements.{All-append, All-get_or, All-head, All-nil, All-push, All-replicate, All-set, All-tail}
use Rattle.std.proofs.lemmas.List.Sorted.{All-permutation}
use Rattle.plain_map.specs.declared.calls.Call.{Call}
use Rattle.plain_map.specs.declared.calls.Reply.{Reply}
use Rattle.plain_map.specs.declared.full.Full.{Full}
use Rattle.plain_map.specs.declared.keys.Pair.{Pair}
use Rattle.plain_map.specs.declared.records.Record.{Record}
use Rattle.table_model.specs.declared.events.Event.{Event}
use Rattle.table_model.specs.Setup.{Setup, seats_of}
use Rattle.table_model.specs.Phases.{Phase, SeeDone, StoreDone}
use Rattle.table_model.specs.SeatStates.{Account, Flight, Stand, Idle, InFlight, SeatState, fresh_seat, begun, record_of}
use Rattle.table_model.specs.Asks.{ask_in}
use Rattle.table_model.specs.Goes.{state_after}
use Rattle.table_model.specs.Worlds.{World, world_after, opening_world, happens, act, begin_or_refuse, step_of, refusal_of, seat_in, found_by}
use Rattle.trace_share.specs.declared.outcome.Outcome.{Outcome}
use Rattle.trace_share.specs.declared.outcome.Outcome.TheVariants.{Answered, Refused}
use Rattle.trace_share.specs.Outcomes.{records_in}
use Rattle.batch_history.specs.Batches.{answered_then, gone_on, with_counts}
use Rattle.batch_history.proofs.GoneOn.{index_with}
use Rattle.batch_laws.proofs.Lines.{line_is_permuted}
use Rattle.batch_deals.specs.declared.service.Service.{Service}
use Rattle.batch_runner.specs.Served.{Served, AreServed, IsServed, history_in, setup_of_batch}
use Rattle.batch_runner.specs.Printed.{all_lines, lines_of, outcome_on}
use Rattle.batch_answers.specs.Answers.{AreNone}
use Rattle.batch_answers.proofs.Served.{few_logs, line_is}

-- ---- what a record has seen

-- a count of each of eight seats
abbrev HasEight : Record → Type 0
HasEight r = 8 ≤ length r.seen.counts

-- so has each record of the seat
abbrev HaveEight : SeatState → Type 0
HaveEight state = All HasEight state.account.records

-- a record that is made has them
made_eight : (seat : ℕ) (flight : Flight) (reply : Reply) (place : ℕ) → HasEight (record_of seat flight reply place)
made_eight seat flight reply place =
    omega (
      arith,
      length-append flight.seen (replicate (8 - length flight.seen) 0),
      length-replicate {A = ℕ} (8 - length flight.seen) 0,
    )

-- so have those of a seat in flight after its step
eight_step : (setup : Setup) (me : ℕ) (account : Account) (flight : Flight) (phase : Phase) (word : ℕ) →
    All HasEight account.records → HaveEight (state_after setup me account flight phase word)
eight_step setup me account flight (StoreDone reply place) word all =
    All-push HasEight account.records (record_of me flight reply place) all (made_eight me flight reply place)
eight_step setup me account flight phase word all = all

-- and those of all seats after an event
module _ (setup : Setup) (w : World) (all : All HaveEight w.seats) where
  eight_in : (seat : ℕ) → HaveEight (seat_in w seat)
  eight_in seat = elim (cases_lt seat (length w.seats)) [
    | inl less ↦ All-get_or HaveEight w.seats seat fresh_seat less all
    | inr most ↦ subst HaveEight (sym (get_or_past w.seats seat fresh_seat most)) (All-nil HasEight)
  ]

  eight_flight : (me : ℕ) (flight : Flight) (phase : Phase) →
      All HaveEight (step_of setup w me (seat_in w me).account flight phase).seats
  eight_flight me flight phase =
      let account = (seat_in w me).account in
      let word = found_by setup (ask_in setup me account.used flight phase) w.words in
      All-set HaveEight w.seats me (state_after setup me account flight phase word)
      (eight_step setup me account flight phase word (eight_in me)) all

  eight_act : (me : ℕ) (stand : Stand) (begin : Option (ℕ × Call)) →
      All HaveEight (act setup w me (seat_in w me).account stand begin).seats
  eight_act me Idle None = all
  eight_act me Idle (Some begin) = go (refusal_of setup me (seat_in w me).account begin.1)
    where
      go : (r : Option Full) →
          All HaveEight (begin_or_refuse setup w me (seat_in w me).account begin.0 begin.1 r).seats
      go (Some full) = all
      go None = eight_flight me (begun (seat_in w me).account begin.0 begin.1) SeeDone
  eight_act me (InFlight flight phase) begin = eight_flight me flight phase

  eight_happens : (event : Event) → All HaveEight (happens setup w event).seats
  eight_happens event = go (nat_lt event.seat (seats_of setup))
    where
      go : (b : Bool) → All HaveEight
          (cond b (act setup w event.seat (seat_in w event.seat).account (seat_in w event.seat).stand event.begin)
          w).seats
      go true = eight_act event.seat (seat_in w event.seat).stand event.begin
      go false = all

-- and after any events
eight_all : (setup : Setup) (events : List Event) (w : World) → All HaveEight w.seats →
    All HaveEight (fold (happens setup) w events).seats
eight_all setup [] w all = all
eight_all setup (event ∷ events) w all =
    eight_all setup events (happens setup w event) (eight_happens setup w all event)

eight_after : (setup : Setup) (events : List Event) → All HaveEight (world_after setup events).seats
eight_after setup events =
    eight_all setup events (opening_world setup)
    (All-replicate HaveEight (seats_of setup) fresh_seat (All-nil HasEight))

-- the records of all seats, one seat after the other
eight_joined : (seats : List SeatState) → All HaveEight seats →
    All HasEight (flat_map (λ log. log) (map (λ (state : SeatState). state.account.records) seats))
eight_joined [] all = All-nil HasEight
eight_joined (state ∷ seats) all =
    All-append HasEight state.account.records
    (flat_map (λ log. log) (map (λ (other : SeatState). other.account.records) seats))
    (All-head HaveEight state seats all) (eight_joined seats (All-tail HaveEight state seats all))

-- so have those of a batch in packet order
eight_in_order : (service : Service) (batch : Served) → IsServed service batch →
    All HasEight (records_in (map (λ (o : ℕ × Outcome). o.1) batch.outcomes))
eight_in_order service batch is =
    let logs = map records_in batch.logs in
    let line = records_in (map (λ (o : ℕ × Outcome). o.1) batch.outcomes) in
    let seats = (world_after (setup_of_batch service batch) is.of_run.events).seats in
    All-permutation HasEight (flat_map (λ log. log) logs) line (line_is_permuted logs line (line_is service batch is))
    (subst (λ (ls : List (List Record)). All HasEight (flat_map (λ log. log) ls)) (sym is.of_run.records)
    (eight_joined seats (eight_after (setup_of_batch service batch) is.of_run.events)))

-- ---- counts that say the same

-- of at most eight seats, the same of each
record AreAlike (one other : List ℕ) : Type 0 where
  one_is : length one ≤ 8
  other_is : length other ≤ 8
  each : (seat : ℕ) → slice_index one seat ≡ slice_index other seat

-- no counts say the same as no list of counts
none_alike : (counts : List ℕ) → AreNone counts → AreAlike counts []
none_alike counts none = record { one_is = none.0; other_is = omega arith; each = at counts none.1 }
  where
    at : (counts : List ℕ) → All (λ count. count ≡ 0) counts → (seat : ℕ) → slice_index counts seat ≡ 0
    at [] all seat = refl
    at (count ∷ counts) all zero = All-head (λ c. c ≡ 0) count counts all
    at (count ∷ counts) all (suc seat) = at counts (All-tail (λ c. c ≡ 0) count counts all) seat

-- put together with as many counts or more, they are the same
with_alike : (one other counts : List ℕ) → length one ≤ length counts → length other ≤ length counts →
    ((seat : ℕ) → slice_index one seat ≡ slice_index other seat) → with_counts one counts ≡ with_counts other counts
with_alike [] [] counts few less each = refl
with_alike [] (y ∷ other) [] few less each = absurd (omega (arith, less))
with_alike (x ∷ one) other [] few less each = absurd (omega (arith, few))
with_alike [] (y ∷ other) (c ∷ counts) few less each =
    let none : 0 ≡ y = each 0 in
    let same : c ≡ y + c = omega (arith, none) in
    let rest : counts ≡ with_counts other counts =
    with_alike [] other counts (omega arith) (omega (arith, less)) (λ seat. each (suc seat)) in
    λ i. same i ∷ rest i
with_alike (x ∷ one) [] (c ∷ counts) few less each =
    let none : x ≡ 0 = each 0 in
    let same : x + c ≡ c = omega (arith, none) in
    let rest : with_counts one counts ≡ counts =
    with_alike one [] counts (omega (arith, few)) (omega arith) (λ seat. each (suc seat)) in
    λ i. same i ∷ rest i
with_alike (x ∷ one) (y ∷ other) (c ∷ counts) few less each =
    let same : x ≡ y = each 0 in
    let rest = with_alike one other counts (omega (arith, few)) (omega (arith, less)) (λ seat. each (suc seat)) in
    λ i. (same i + c) ∷ rest i

-- as few counts
short_with : (before counts : List ℕ) (most : ℕ) → length before ≤ most → length counts ≤ most →
    length (with_counts before counts) ≤ most
short_with [] counts most few less = less
short_with (b ∷ before) [] most few less = few
short_with (b ∷ before) (c ∷ counts) most few less =
    let rest = short_with before counts (most - 1) (omega (arith, few)) (omega (arith, less)) in
    omega (arith, rest, few)

-- they go on alike
then_alike : (service : Service) (batch : Served) (one other : List ℕ) → IsServed service batch → AreAlike one other →
    AreAlike (answered_then one (history_in service batch)) (answered_then other (history_in service batch))
then_alike service batch one other is alike =
    let counts = map (λ (log : List Record). length log) (history_in service batch).logs in
    let few : length counts ≤ 8 = omega (
      arith,
      length-map (history_in service batch).logs (λ (log : List Record). length log),
      length-map batch.logs records_in,
      few_logs service batch is,
      service.settings.seats_in_range.1,
    ) in
    record {
      one_is = short_with one counts 8 alike.one_is few;
      other_is = short_with other counts 8 alike.other_is few;
      each = λ seat. index_with one counts seat ∙ ap (λ n. n + slice_index counts seat) (alike.each seat)
          ∙ sym (index_with other counts seat);
    }

-- a record whose numbers have gone on by them
gone_alike : (one other : List ℕ) (r : Record) → AreAlike one other → HasEight r → gone_on one r ≡ gone_on other r
gone_alike one other r alike eight =
    let seen = with_alike one other r.seen.counts (omega (arith, alike.one_is, eight))
    (omega (arith, alike.other_is, eight)) alike.each in
    λ i. record r { number = alike.each r.seat i + r.number; seen = record { counts = seen i } }

-- an outcome with its seat
abbrev placed_on : (before : List ℕ) → ℕ × Outcome → ℕ × Outcome
placed_on before o = (o.0, outcome_on before o.1)

-- so the outcomes of a batch are printed alike
outcomes_alike : (one other : List ℕ) (outcomes : List (ℕ × Outcome)) → AreAlike one other →
    All HasEight (records_in (map (λ (o : ℕ × Outcome). o.1) outcomes)) →
    map (placed_on one) outcomes ≡ map (placed_on other) outcomes
outcomes_alike one other [] alike all = refl
outcomes_alike one other ((at, Answered r) ∷ outcomes) alike all =
    let rs = records_in (map (λ (o : ℕ × Outcome). o.1) outcomes) in
    let same = gone_alike one other r alike (All-head HasEight r rs all) in
    let first : placed_on one (at, Answered r) ≡ placed_on other (at, Answered r) = (λ i. (at, Answered (same i))) in
    let rest = outcomes_alike one other outcomes alike (All-tail HasEight r rs all) in
    λ i. first i ∷ rest i
outcomes_alike one other ((at, Refused packet call full) ∷ outcomes) alike all =
    let refused : ℕ × Outcome = (at, Refused packet call full) in
    ap (λ os. refused ∷ os) (outcomes_alike one other outcomes alike all)

-- and so are those of all batches
lines_alike : (service : Service) (one other : List ℕ) (first : List Pair) (batches : List Served) →
    AreAlike one other → AreServed service first batches →
    all_lines service one batches ≡ all_lines service other batches
lines_alike service one other first [] alike are = refl
lines_alike service one other first (batch ∷ batches) alike are =
    let outcomes = outcomes_alike one other batch.outcomes alike (eight_in_order service batch are.1) in
    let then = λ (before : List ℕ). answered_then before (history_in service batch) in
    let line : lines_of service one batch ≡ lines_of service other batch =
    (λ i. record (lines_of service one batch) { outcomes = outcomes i }) in
    let rest = lines_alike service (then one) (then other) batch.pairs batches
    (then_alike service batch one other are.1 alike) are.2 in
    λ i. line i ∷ rest i

-- what is printed from no counts on is what is printed from no list on
pub none_alike_lines : (service : Service) (before : List ℕ) (first : List Pair) (batches : List Served) →
    AreNone before → AreServed service first batches →
    all_lines service before batches ≡ all_lines service [] batches
none_alike_lines service before first batches none are =
    lines_alike service before [] first batches (none_alike before none) are
