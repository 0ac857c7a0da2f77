-- The packets of a play's lines: each call of a capture has a packet of its own, so no packet stands on two lines, and
-- the calls that ended rise by packet.
use Rattle.std.proofs.Common.{◌≡◌, ◌≤◌, ◌<◌, ℕ, ◌+◌, List, [], ◌∷◌, cond, length, map, get_or, Option, refl, ap, ◌∙◌, arith}
use Rattle.std.specs.Prelude.{◌==◌, IsPermutation}
use Rattle.std.specs.List.{flat_map, sum_by}
use Rattle.std.specs.List.Sorted.{IsNonDecreasing, IsNonDecreasingBy}
use Rattle.std.proofs.lemmas.List.{get_or-map, length-map}
use Rattle.std.proofs.lemmas.List.Sums.{sum_by-append, sum_by-cons}
use Rattle.std.proofs.lemmas.List.Sorted.{sum_by-IsPermutation}
use Rattle.plain_map.specs.declared.calls.Call.{Call}
use Rattle.plain_map.specs.declared.records.Pending.{Pending}
use Rattle.trace_share.specs.declared.outcome.Outcome.{Outcome}
use Rattle.trace_share.specs.Outcomes.{asked_in}
use Rattle.table_model.specs.Setup.{Setup}
use Rattle.table_model.specs.Worlds.{IsRun, world_after}
use Rattle.table_model.specs.Closed.{begun_of}
use Rattle.table_model.specs.Schedules.{Play, Segment, play_of}
use Rattle.report_told.specs.Rules.{Rise, times}
use Rattle.report_told.proofs.TimesLemmas.{times-cons}
use Rattle.report_promises.specs.Good.{calls_ended}
use Rattle.report_promises.proofs.PacketLemmas.{rise_once, rises}
use Rattle.mode_parts.specs.declared.calling.Calling.{Calling}
use Rattle.mode_parts.specs.PacketCalls.{MakeCalls}
use Rattle.play_runner.specs.Played.{outcomes_of, packet_in}
use Rattle.play_runner.proofs.WeighedPlays.{of_outcome, play_weighs}
use Rattle.mode_parts.proofs.GoodCalls.{calls_rise}
use Rattle.play_runner.proofs.BegunPlays.{begun_weigh, of_pending}

-- ---- sums

-- a sum over joined lists
sum_joined : (weight : ℕ × Call → ℕ) (shares : List (List (ℕ × Call))) →
    sum_by weight (flat_map (λ own. own) shares) ≡ sum_by (λ own. sum_by weight own) shares
sum_joined weight [] = refl
sum_joined weight (own ∷ shares) = omega (
  arith,
  sum_by-append weight own (flat_map (λ other. other) shares),
  sum_joined weight shares,
  sum_by-cons (λ (other : List (ℕ × Call)). sum_by weight other) own shares,
)

-- so many ones
sum_ones : {A : Type 0} (xs : List A) → sum_by (λ x. 1) xs ≡ length xs
sum_ones [] = refl
sum_ones {A} (x ∷ xs) = omega (arith, sum_by-cons (λ (y : A). 1) x xs, sum_ones xs)

-- one where the call is of the packet
abbrev is_of : (packet : ℕ) → ℕ × Call → ℕ
is_of packet call = cond (call.0 == packet) 1 0

-- how often a packet stands among the packets of calls
times_calls : {A : Type 0} (call_of : A → ℕ × Call) (packet : ℕ) (xs : List A) →
    times packet (map (λ asked. asked.0) (map call_of xs)) ≡ sum_by (λ x. is_of packet (call_of x)) xs
times_calls call_of packet [] = refl
times_calls {A} call_of packet (x ∷ xs) = omega (
  arith,
  times-cons packet (call_of x).0 (map (λ asked. asked.0) (map call_of xs)),
  times_calls call_of packet xs,
  sum_by-cons (λ (y : A). is_of packet (call_of y)) x xs,
)

-- so it is among packets of anything
times_by : {A : Type 0} (packet_of : A → ℕ) (packet : ℕ) (xs : List A) →
    times packet (map packet_of xs) ≡ sum_by (λ x. cond (packet_of x == packet) 1 0) xs
times_by packet_of packet [] = refl
times_by {A} packet_of packet (x ∷ xs) = omega (
  arith,
  times-cons packet (packet_of x) (map packet_of xs),
  times_by packet_of packet xs,
  sum_by-cons (λ (y : A). cond {A = ℕ} (packet_of y == packet) 1 0) x xs,
)

-- lines that are sorted by packet have packets that do not fall
packet_at : (xs : List (ℕ × Outcome)) (i d : ℕ) (x : ℕ × Outcome) → i < length xs →
    get_or (map (λ asked. asked.0) (calls_ended xs)) i d ≡ packet_in (get_or xs i x)
packet_at xs i d x inside =
    get_or-map (λ (asked : ℕ × Call). asked.0) (calls_ended xs) i (asked_in x.1) d
    (omega (arith, inside, length-map xs (λ (line : ℕ × Outcome). asked_in line.1)))
    ∙ ap (λ (asked : ℕ × Call). asked.0)
    (get_or-map (λ (line : ℕ × Outcome). asked_in line.1) xs i x (asked_in x.1) inside)

-- so these do not fall
packets_sorted : (xs : List (ℕ × Outcome)) → IsNonDecreasingBy packet_in xs →
    IsNonDecreasing (map (λ asked. asked.0) (calls_ended xs))
packets_sorted [] by = λ i j d less inside. absurd (omega (arith, inside))
packets_sorted (x ∷ xs) by = λ i j d less inside.
    let within : j < length (x ∷ xs) = omega (
      arith,
      inside,
      length-map (calls_ended (x ∷ xs)) (λ (asked : ℕ × Call). asked.0),
      length-map (x ∷ xs) (λ (line : ℕ × Outcome). asked_in line.1),
    ) in
    omega (
      arith,
      packet_at (x ∷ xs) i d x (omega (arith, less, within)),
      packet_at (x ∷ xs) j d x within,
      by i j x less within,
    )

-- ---- the lines of a play

module _ (setup : Setup) (shares : List (List (ℕ × Call))) (stops : List (Option ℕ)) (schedule : List Segment)
    (run : IsRun setup (play_of setup shares stops schedule).events)
    (comes : (play_of setup shares stops schedule).world
    ≡ world_after setup (play_of setup shares stops schedule).events)
    (calls : List (ℕ × Call)) (dealt : IsPermutation (flat_map (λ own. own) shares) calls)
    (lines : List (ℕ × Outcome))
    (told : IsPermutation (outcomes_of setup (play_of setup shares stops schedule).events) lines)
    (waiting : List Pending) (begun_is : waiting ≡ begun_of (play_of setup shares stops schedule).world)
  where
    -- the lines weigh no more than the calls
    lines_weigh : (weight : ℕ × Call → ℕ) →
        sum_by (of_outcome weight) lines + sum_by (of_pending weight) waiting ≤ sum_by weight calls
    lines_weigh weight =
        let play : Play = play_of setup shares stops schedule in
        omega (
          arith,
          play_weighs weight setup shares stops schedule run comes,
          sum_by-IsPermutation (of_outcome weight) (outcomes_of setup play.events) lines told,
          ap (sum_by (of_pending weight)) begun_is,
          begun_weigh weight play.world,
          sum_joined weight shares,
          sum_by-IsPermutation weight (flat_map (λ own. own) shares) calls dealt,
        )

    -- they are no more than these
    pub few_lines : length lines ≤ length calls
    few_lines = omega (arith, lines_weigh (λ call. 1), sum_ones lines, sum_ones calls)

    module _ (calling : Calling) (packets : List (List ℕ)) (makes : MakeCalls calling 1 packets calls) where
      -- each packet stands on one line at most
      packet_once : (packet : ℕ) →
          times packet (map (λ asked. asked.0) (calls_ended lines)) + times packet (map (λ u. u.packet) waiting) ≤ 1
      packet_once packet = omega (
        arith,
        lines_weigh (is_of packet),
        rise_once (map (λ call. call.0) calls) packet (calls_rise calling 1 packets calls makes),
        times_by (λ (call : ℕ × Call). call.0) packet calls,
        times_calls (λ (line : ℕ × Outcome). asked_in line.1) packet lines,
        times_by (λ (u : Pending). u.packet) packet waiting,
      )

      -- so a call under way has a packet of its own
      pub lines_apart : (packet : ℕ) → 1 ≤ times packet (map (λ u. u.packet) waiting) →
          times packet (map (λ asked. asked.0) (calls_ended lines)) + times packet (map (λ u. u.packet) waiting) ≤ 1
      lines_apart packet some = packet_once packet

      -- so those that ended rise
      pub lines_rise : IsNonDecreasingBy packet_in lines → Rise (map (λ asked. asked.0) (calls_ended lines))
      lines_rise sorted =
          rises (map (λ asked. asked.0) (calls_ended lines)) (packets_sorted lines sorted)
          (λ packet. omega (arith, packet_once packet))
