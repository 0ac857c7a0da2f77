-- What `play` prints of a capture: the calls are dealt to seats, which make them by the plan's schedule and stops.
-- Source: this project's own; the report is that of docs/FORMATS.md.
use Rattle.std.specs.Prelude.{◌≡◌, ℕ, ◌<◌, ◌-◌, ◌||◌, true, false, List, [], ◌∷◌, length, map, filter, replicate, count_by, is_some, All, IsPermutation, Option, Some, None}
use Rattle.std.specs.Io.KnownBytes.{Appends, Keeps}
use Rattle.step_counts.specs.declared.rows.SeatRows.{SeatRows}
use Rattle.step_counts.specs.declared.settings.Settings.{Settings}
use Rattle.step_counts.specs.StepCounts.{automatic_rows_of, step_bound}
use Rattle.plain_map.specs.declared.calls.Call.{Call}
use Rattle.plain_map.specs.PlainObject.{pairs_of}
use Rattle.plain_map.specs.History.{Legal, After, Whole, sessions_after}
use Rattle.trace_share.specs.declared.outcome.Outcome.{Outcome}
use Rattle.capture_faults.specs.declared.ending.Ending.{Ending}
use Rattle.capture_faults.specs.declared.ending.Ending.TheVariants.{Done, ReadFault, Limit, Fault}
use Rattle.report_text.specs.declared.parts.Tail.{Tail}
use Rattle.report_text.specs.Report.{Batch, Report, report_of}
use Rattle.report_told.specs.Rules.{IsHead, IsTail}
use Rattle.report_told.specs.Verdicts.{Certified}
use Rattle.table_model.specs.Setup.{Setup, rules_of, seats_of, settings_of}
use Rattle.table_model.specs.Worlds.{World, IsRun, world_after, seat_in}
use Rattle.table_model.specs.Order.{effects_of, order_of, took_effect}
use Rattle.table_model.specs.Closed.{Cover, Warranted, closed_depth, closed_leaves, closed_pairs, closing_of, greatest_depth, sessions_with}
use Rattle.table_model.specs.Promises.{HasSteps}
use Rattle.table_model.specs.Schedules as S
use Rattle.table_model.specs.Schedules.{Play, CanPlay, hand_of, has_ended, is_stopped, play_of}
use Rattle.core_steps.specs.Values.{setup_of}
use Rattle.play_runner.specs.declared.values.Played.{Played}
use Rattle.play_runner.specs.Played.{IsPlayed, most_steps_in, outcomes_of}
use Rattle.batch_rows.specs.BatchRows.{updates_in_calls}
use Rattle.batch_deals.specs.declared.service.Service.{Service}
use Rattle.batch_deals.specs.Dealt.{shares_of}
use Rattle.trace_share.specs.Outcomes.{full_in}
use Rattle.command_line.specs.declared.plan.Plan.{Plan}
use Rattle.command_line.specs.declared.plays.Segment.{Segment}
use Rattle.mode_parts.specs.Callings.{calling_of}
use Rattle.mode_parts.specs.declared.status.Status.{Status}
use Rattle.mode_parts.specs.declared.status.Status.TheVariants as status
use Rattle.report_promises.specs.Good.{AreCountedBySeat, answered_on}
use Rattle.capture_loop.specs.Input.{ServesUpTo}
use Rattle.mode_parts.specs.PacketCalls.{MakeCalls}
use Rattle.mode_parts.specs.Planned.{IsServiceOf, head_of}
use Rattle.capture_loop.specs.Leaves.{IsMet, PutsFront}
use Rattle.packet_heads.specs.Links.{number_in}
use Rattle.mode_parts.specs.Statuses.{TookFor}

-- how many packets `play` takes at most
abbrev pub play_limit : ℕ
play_limit = 200

-- ---- the play

-- the rows of each seat: those that are given, and else those that suffice for its updates
abbrev pub ranges_for : Settings → (given : Option SeatRows) → (shares : List (List (ℕ × Call))) → List SeatRows
ranges_for s (Some rows) shares = replicate (length shares) rows
ranges_for s None shares = map (λ share. automatic_rows_of s (updates_in_calls share)) shares

-- the table, which begins with no pair
abbrev pub play_setup : Service → (calls : List (ℕ × Call)) → Setup
play_setup service calls =
    setup_of service.settings service.hashing
    (ranges_for service.settings service.rows (shares_of service calls)) []

-- the plan's schedule
abbrev pub segment_in : Segment → S.Segment
segment_in segment = record { seat = segment.seat; slots = segment.slots }

abbrev pub schedule_in : Plan → List S.Segment
schedule_in plan = map segment_in plan.schedule

-- each seat makes the calls that it is dealt, by the plan's schedule and stops
abbrev pub play_in : Plan → Service → (calls : List (ℕ × Call)) → Play
play_in plan service calls =
    play_of (play_setup service calls) (shares_of service calls) plan.stops (schedule_in plan)

-- ---- what holds of every play

-- The one order of the calls is right: each answered call has the plain map's reply, each call stands after all that
-- its caller had seen, each answered call and each pending update that took effect stands once, and the pairs are those
-- after it. Steps are within the bound. The leaves cover all hashes and have their cause.
pub record IsRightWorld (setup : Setup) (world : World) : Type 0 where
  pub legal :
      Legal (rules_of setup) (sessions_with (rules_of setup) setup.first) (order_of setup.shape (closing_of world))
  pub after : After (order_of setup.shape (closing_of world))
  pub whole :
      Whole (closing_of world).records (effects_of setup.shape (closing_of world))
      (order_of setup.shape (closing_of world))
  pub pairs :
      IsPermutation (pairs_of (sessions_after (rules_of setup) (sessions_with (rules_of setup) setup.first)
      (order_of setup.shape (closing_of world))))
      (closed_pairs setup.shape world.words)
  pub cover : Cover (closed_leaves setup.shape world.words)
  pub warranted :
      Warranted (rules_of setup) setup.shape.settings.start setup.first (order_of setup.shape (closing_of world))
      (closed_leaves setup.shape world.words)
  pub depth :
      closed_depth setup.shape world.words ≡ greatest_depth (closed_leaves setup.shape world.words)
  pub steps : (seat : ℕ) → seat < seats_of setup →
      All (HasSteps setup world.words) (seat_in world seat).account.records

-- The events are a run of the table and come to its world, in which each seat has made its calls or is stopped.
pub record IsRightPlay (setup : Setup) (play : Play) : Type 0 where
  pub run : IsRun setup play.events
  pub comes : play.world ≡ world_after setup play.events
  pub ended : (seat : ℕ) → seat < seats_of setup →
      (is_stopped (hand_of play seat) || has_ended (hand_of play seat) (seat_in play.world seat).stand) ≡ true
  pub right : IsRightWorld setup play.world

-- What is printed of the play is what the order speaks of. The k-th answered line of each seat is that seat's call with
-- the number k. Each answered call of the lines stands in the order exactly once, and so does each pending call of the
-- lines that took effect, and nothing else does. Each answered update has no more steps than the bound, and each lookup
-- exactly its own.
pub record HasRightLines (setup : Setup) (play : Play) (played : Played) : Type 0 where
  pub numbered : AreCountedBySeat played.outcomes.items
  pub whole :
      Whole (answered_on played.outcomes.items)
      (filter (took_effect setup.shape play.world.words) played.pending.items)
      (order_of setup.shape (closing_of play.world))
  pub steps : All (HasSteps setup play.world.words) (answered_on played.outcomes.items)

-- whatever the calls, the stops and the schedule
abbrev pub PlaysAreRight : Type 0
PlaysAreRight =
    (setup : Setup) (calls : List (List (ℕ × Call))) (stops : List (Option ℕ)) (schedule : List S.Segment) →
    CanPlay setup calls → IsRightPlay setup (play_of setup calls stops schedule)

-- each of these calls was answered, and none refused
abbrev pub AreAnswered : List (ℕ × Outcome) → Type 0
AreAnswered outcomes = All (λ ended. full_in ended.1 ≡ None) outcomes

-- where each seat has the rows that suffice for its updates, so is each call that ends
abbrev pub PlaysAreAnswered : Type 0
PlaysAreAnswered =
    (setup : Setup) (calls : List (List (ℕ × Call))) (stops : List (Option ℕ)) (schedule : List S.Segment) →
    CanPlay setup calls → setup.shape.ranges ≡ ranges_for (settings_of setup) None calls →
    AreAnswered (outcomes_of setup (play_of setup calls stops schedule).events)

-- ---- the report

-- the lines of the calls that ended, of those that were under way, and of the order
abbrev pub played_lines : Played → Batch
played_lines played =
    record { outcomes = played.outcomes.items; pending = played.pending.items; order = played.order.items }

-- how many calls were refused
abbrev pub refusals_in : List (ℕ × Outcome) → ℕ
refusals_in outcomes = count_by (λ ended. is_some (full_in ended.1)) outcomes

-- what the last lines tell of so many packets, which made so many calls
abbrev pub play_tail : Service → (packets calls : ℕ) → Played → Ending → Tail
play_tail service packets calls played ending =
    record {
      leaves = played.leaves;
      depth = played.depth;
      ending = ending;
      packets = packets;
      calls = calls;
      passed = packets - calls;
      full = refusals_in played.outcomes.items;
      pending = length played.pending.items;
      unbegun = played.unbegun;
      update = most_steps_in true played.outcomes.items;
      bound = step_bound service.settings;
      lookup = most_steps_in false played.outcomes.items;
    }

abbrev pub play_report : Plan → Service → (packets calls : ℕ) → Played → Ending → Report
play_report plan service packets calls played ending =
    record {
      head = head_of true plan;
      batches = played_lines played ∷ [];
      pairs = played.pairs.items;
      tail = play_tail service packets calls played ending;
    }

-- the text is the report of the play of these calls, which so many packets made
pub record IsPlayOf (plan : Plan) (packets : ℕ) (calls : List (ℕ × Call)) (ending : Ending) (text : List ℕ) :
    Type 0 where
  pub service : Service
  pub played : Played
  pub asks : IsServiceOf plan service
  pub right : IsRightPlay (play_setup service calls) (play_in plan service calls)
  pub comes_to : IsPlayed (play_setup service calls) (play_in plan service calls) played
  pub lines : HasRightLines (play_setup service calls) (play_in plan service calls) played
  -- where no rows are given each call that ended was answered
  pub answered : plan.rows ≡ None → AreAnswered played.outcomes.items
  -- what the first and the last lines tell has the sizes of its places
  pub head : IsHead (head_of true plan)
  pub tail : IsTail (head_of true plan) (play_tail service packets (length calls) played ending)
  pub text_is : text ≡ report_of (play_report plan service packets (length calls) played ending)

-- of an input with these bytes, of which these are left, the text is the report, with this ending
abbrev pub PlayReports : Plan → List ℕ → Option (List ℕ) → Ending → List ℕ → Type 0
PlayReports plan bytes left ending text =
    (packets : List (List ℕ)) × (calls : List (ℕ × Call)) × ServesUpTo (number_in plan.framing.link) play_limit bytes
    left packets ending
    × MakeCalls (calling_of plan) 1 packets calls × IsPlayOf plan (length packets) calls ending text

-- ---- what a run leaves

-- The whole report was put, with this ending. It is certified, so that `check` says yes of it if it is not too long.
abbrev pub PutsPlay : Plan → List ℕ → Option (List ℕ) → Option (List ℕ) → Option (List ℕ) → Ending → Type 0
PutsPlay plan bytes left before after ending =
    (text : List ℕ) × PlayReports plan bytes left ending text × Certified text × Appends before after text

-- What `play` leaves that ended so: of the input's bytes these are left, and the sink had taken `before` and has taken
-- `after`. Where a write failed, a front of the report was put; that a
-- read failed is told only where one did. Where memory ran out, nothing was.
abbrev pub LeavesPlay : Plan → (can_end : Ending → Type 0) → List ℕ → (left before after : Option (List ℕ)) → Status →
    Type 0
LeavesPlay plan can_end bytes left before after status.Done =
    (rest : ℕ) × PutsPlay plan bytes left before after (Done rest)
LeavesPlay plan can_end bytes left before after (status.BadCapture fault) =
    PutsPlay plan bytes left before after (Fault fault)
LeavesPlay plan can_end bytes left before after status.Limit =
    (limit : ℕ) × PutsPlay plan bytes left before after (Limit limit)
LeavesPlay plan can_end bytes left before after status.ReadFault = PutsPlay plan bytes left before after ReadFault
LeavesPlay plan can_end bytes left before after status.WriteFault =
    (ending : Ending) × IsMet can_end ending × PutsFront before after (PlayReports plan bytes left ending)
LeavesPlay plan can_end bytes left before after status.Memory = Keeps before after
LeavesPlay plan can_end bytes left before after status.Usage = ⊥

-- So it is for the bytes of a source, where they are told, and for those that were taken of it, as of a source that
-- told just these.
pub record LeavesPlayed (plan : Plan) (can_end : Ending → Type 0) (first left before after : Option (List ℕ))
    (answer : Status) : Type 0 where
  pub told : (bytes : List ℕ) → first ≡ Some bytes → LeavesPlay plan can_end bytes left before after answer
  pub took : TookFor answer first left (λ taken. LeavesPlay plan can_end taken (Some []) before after answer)
