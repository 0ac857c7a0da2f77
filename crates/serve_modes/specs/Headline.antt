-- What a run prints, and so what its user may rely on.
use Rattle.std.specs.Prelude.{◌≡◌, ◌+◌, ◌*◌, ◌⊎◌, ℕ, List, [], length, Some, Option, Ok}
use Rattle.std.specs.Io.KnownBytes.{Appends, Keeps}
use Rattle.hash_bits.specs.declared.hashing.Hashing.{Hashing}
use Rattle.hash_bits.specs.declared.hashing.Hashing.TheVariants.{Mix, Ports}
use Rattle.plain_map.specs.declared.calls.Call.{Call}
use Rattle.pcap_reader.specs.Made.{made_capture}
use Rattle.capture_faults.specs.declared.ending.Ending.{Ending}
use Rattle.capture_faults.specs.declared.ending.Ending.TheVariants.{Done, ReadFault, Limit, Fault}
use Rattle.report_text.specs.Report.{report_of}
use Rattle.report_told.specs.Verdicts.{Certified}
use Rattle.report_text.specs.declared.trial.Trial.{Trial}
use Rattle.report_text.specs.Trials.{trial_lines}
use Rattle.batch_deals.specs.declared.service.Service.{Service}
use Rattle.batch_runner.specs.declared.totals.Totals.{Totals}
use Rattle.batch_runner.specs.Served.{Served, pairs_left}
use Rattle.batch_runner.specs.Printed.{outcomes_in}
use Rattle.batch_runner.specs.Totals.{totals_of}
use Rattle.command_line.specs.declared.plan.Plan.{Plan}
use Rattle.packet_heads.specs.Links.{number_in}
use Rattle.mode_parts.specs.Callings.{calling_of}
use Rattle.mode_parts.specs.declared.status.Status.{Status}
use Rattle.mode_parts.specs.declared.status.Status.TheVariants as status
use Rattle.serve_modes.specs.Batches.{batch_count}
use Rattle.mode_parts.specs.PacketCalls.{MakeCalls}
use Rattle.capture_loop.specs.Leaves.{IsMet, PutsFront, PutsWhole}
use Rattle.capture_loop.specs.Input.{Begins, HoldsPackets, IsFirst, Serves}
use Rattle.serve_modes.specs.Served.{AreDone, lines_so_far, run_report}
use Rattle.mode_parts.specs.Statuses.{TookFor}

-- ---- what is printed of packets

-- The text is the report of so many packets, whose calls are these, served as the plan says, with this ending.
abbrev pub IsReportOf : Plan → ℕ → List (ℕ × Call) → Ending → List ℕ → Type 0
IsReportOf plan packets calls ending text =
    (service : Service) × (batches : List Served) × AreDone plan service calls batches
    × (length batches ≡ batch_count plan.batch packets) ×
    (text ≡ report_of (run_report plan service packets batches ending))

-- the text is the head line and the lines of the whole batches of so many packets, whose calls are these
abbrev pub IsFrontOf : Plan → ℕ → List (ℕ × Call) → List ℕ → Type 0
IsFrontOf plan packets calls text =
    (service : Service) × (batches : List Served) × AreDone plan service calls batches
    × (plan.batch * length batches ≡ packets) × (text ≡ lines_so_far plan service batches)

abbrev pub IsReport : Plan → List (List ℕ) → Ending → List ℕ → Type 0
IsReport plan packets ending text =
    (calls : List (ℕ × Call)) × MakeCalls (calling_of plan) 1 packets calls
    × IsReportOf plan (length packets) calls ending
    text

abbrev pub IsFront : Plan → List (List ℕ) → List ℕ → Type 0
IsFront plan packets text =
    (calls : List (ℕ × Call)) × MakeCalls (calling_of plan) 1 packets calls × IsFrontOf plan (length packets) calls text

-- the text is the head line and the lines of all batches of these packets
abbrev pub IsTold : Plan → List (List ℕ) → List ℕ → Type 0
IsTold plan packets text =
    (calls : List (ℕ × Call)) × MakeCalls (calling_of plan) 1 packets calls × (service : Service)
    × (batches : List Served)
    × AreDone plan service calls batches × (length batches ≡ batch_count plan.batch (length packets))
    × (text ≡ lines_so_far plan service batches)

-- of an input with these bytes, of which these are left, the text is the report, with this ending
abbrev pub Reports : Plan → List ℕ → Option (List ℕ) → Ending → List ℕ → Type 0
Reports plan bytes left ending text =
    (packets : List (List ℕ)) × Serves (number_in plan.framing.link) bytes left packets ending × IsReport plan packets
    ending text

-- and the text is the lines of its batches
abbrev pub Tells : Plan → List ℕ → Option (List ℕ) → Ending → List ℕ → Type 0
Tells plan bytes left ending text =
    (packets : List (List ℕ)) × Serves (number_in plan.framing.link) bytes left packets ending × IsTold plan packets
    text

-- ---- what a run leaves

-- The whole report was put, with this ending. It is certified, so that `check` says yes of it if it is not too long.
abbrev pub PutsReport : Plan → List ℕ → Option (List ℕ) → Option (List ℕ) → Option (List ℕ) → Ending → Type 0
PutsReport plan bytes left before after ending =
    PutsWhole before after (λ text. Reports plan bytes left ending text × Certified text)

-- A front of the report was put, where the ending is known, and otherwise of the lines of the batches so far. That
-- a read failed is told only where one did.
abbrev pub PutsSome : Plan → (Ending → Type 0) → List ℕ → Option (List ℕ) → Option (List ℕ) → Option (List ℕ) → Type 0
PutsSome plan can_end bytes left before after =
    ((ending : Ending) × IsMet can_end ending × PutsFront before after (Reports plan bytes left ending))
    ⊎ ((packets : List (List ℕ)) × Begins (number_in plan.framing.link) bytes left packets × PutsFront before after
    (IsFront plan packets))

-- Where memory ran out, nothing was put, or the lines of all batches of an input whose ending is known, or those of the
-- batches so far. More of the input may have been read.
abbrev pub PutsLess : Plan → (Ending → Type 0) → List ℕ → Option (List ℕ) → Option (List ℕ) → Option (List ℕ) → Type 0
PutsLess plan can_end bytes left before after =
    Keeps before after
    ⊎ (((ending : Ending) × IsMet can_end ending × PutsWhole before after (Tells plan bytes left ending))
    ⊎ ((packets : List (List ℕ)) × IsFirst (number_in plan.framing.link) bytes packets × PutsWhole before after
    (IsFront plan packets)))

-- What `serve` leaves that ended so: of the input's bytes these are left, and the sink had taken `before` and has taken
-- `after`.
abbrev pub Leaves : Plan → (can_end : Ending → Type 0) → List ℕ → (left before after : Option (List ℕ)) → Status →
    Type 0
Leaves plan can_end bytes left before after status.Done =
    (rest : ℕ) × PutsReport plan bytes left before after (Done rest)
Leaves plan can_end bytes left before after (status.BadCapture fault) =
    PutsReport plan bytes left before after (Fault fault)
Leaves plan can_end bytes left before after status.Limit =
    (limit : ℕ) × PutsReport plan bytes left before after (Limit limit)
Leaves plan can_end bytes left before after status.ReadFault = PutsReport plan bytes left before after ReadFault
Leaves plan can_end bytes left before after status.WriteFault = PutsSome plan can_end bytes left before after
Leaves plan can_end bytes left before after status.Memory = PutsLess plan can_end bytes left before after
Leaves plan can_end bytes left before after status.Usage = ⊥

-- So it is for the bytes of a source, where they are told, and for those that were taken of it, as of a source that
-- told just these: so these decide which answer it is. Of a source that tells nothing the second fact says only that
-- there are some such bytes.
pub record LeavesAll (plan : Plan) (can_end : Ending → Type 0) (first left before after : Option (List ℕ))
    (answer : Status) : Type 0 where
  pub told : (bytes : List ℕ) → first ≡ Some bytes → Leaves plan can_end bytes left before after answer
  pub took : TookFor answer first left (λ taken. Leaves plan can_end taken (Some []) before after answer)

-- ---- `trial`

-- the seed of a hash
abbrev pub seed_of : Hashing → ℕ
seed_of (Mix seed) = seed
seed_of (Ports seed) = seed

-- what `trial` tells of these totals, where so many sessions are left
abbrev pub trial_of : Plan → Totals → (sessions : ℕ) → Trial
trial_of plan totals sessions =
    record {
      number = plan.number;
      packets = plan.packets;
      seats = plan.seats;
      items = plan.items;
      depth = plan.depth;
      start = plan.start;
      seed = seed_of plan.hashing;
      batch = plan.batch;
      calls = totals.calls;
      new = totals.replies.new;
      old = totals.replies.old;
      noroom = totals.replies.noroom;
      gone = totals.replies.gone;
      found = totals.replies.found;
      absent = totals.replies.absent;
      full = totals.refused;
      sessions = sessions;
    }

-- of these batches
abbrev pub tried_of : Plan → List Served → Trial
tried_of plan batches = trial_of plan (totals_of (outcomes_in batches)) (length (pairs_left [] batches))

-- The counts add up: each call had one of the six replies, since none was refused and none is a tally, and of the
-- sessions that were begun those are left that were not ended.
pub record AddsUp (trial : Trial) : Type 0 where
  pub replies :
      trial.calls
      ≡ trial.new + trial.old + trial.noroom + trial.gone + trial.found + trial.absent + trial.full
  pub none_refused : trial.full ≡ 0
  pub sessions : trial.new ≡ trial.gone + trial.sessions

-- The text is that of the made capture, whose calls are served as the plan says.
abbrev pub IsTrial : Plan → List ℕ → Type 0
IsTrial plan text =
    (packets : List (List ℕ)) × (calls : List (ℕ × Call)) × (service : Service) × (batches : List Served)
    × HoldsPackets (number_in plan.framing.link) (made_capture plan.number plan.packets) packets (Ok 0) × MakeCalls
    (calling_of plan) 1 packets calls
    × AreDone plan service calls batches × (length batches ≡ batch_count plan.batch (length packets))
    × AddsUp (tried_of plan batches) × (text ≡ trial_lines (tried_of plan batches))

-- what `trial` leaves
abbrev pub LeavesTried : Plan → Option (List ℕ) → Option (List ℕ) → Status → Type 0
LeavesTried plan before after status.Done = (text : List ℕ) × IsTrial plan text × Appends before after text
LeavesTried plan before after status.WriteFault = PutsFront before after (IsTrial plan)
LeavesTried plan before after status.Memory = Keeps before after
LeavesTried plan before after status.Usage = ⊥
LeavesTried plan before after status.ReadFault = ⊥
LeavesTried plan before after (status.BadCapture fault) = ⊥
LeavesTried plan before after status.Limit = ⊥
