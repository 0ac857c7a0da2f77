-- What makes the text of a report certified: what may stand on its lines, and one right order of its calls.
use Rattle.std.specs.Prelude.{◌≡◌, ℕ, ◌+◌, ◌-◌, ◌^◌, ◌<◌, ◌≤◌, ◌==◌, if◌then◌else◌, Bool, true, List, [], ◌∷◌, ◌++◌, map, filter, flat_map, length, All}
use Rattle.std.specs.FinMap.{empty}
use Rattle.plain_map.specs.declared.calls.Call.{Call}
use Rattle.plain_map.specs.declared.records.Record.{Record}
use Rattle.plain_map.specs.declared.records.Pending.{Pending}
use Rattle.plain_map.specs.Calls.{key_in, is_update}
use Rattle.plain_map.specs.PlainObject.{pairs_of}
use Rattle.plain_map.specs.History.{Placed, packet_of, After, Legal, Whole, sessions_after}
use Rattle.key_texts.specs.Inserts.{InsertsOnly, IsOfRule}
use Rattle.key_texts.specs.declared.rules.CallRule.{CallRule}
use Rattle.flow_reading.specs.Flows.{IsFlow}
use Rattle.trace_share.specs.declared.outcome.Outcome.{Outcome}
use Rattle.trace_share.specs.declared.outcome.Outcome.TheVariants.{Answered, Refused}
use Rattle.trace_share.specs.Outcomes.{asked_in, record_in}
use Rattle.report_text.specs.declared.parts.Head.{Head}
use Rattle.report_text.specs.Report.{Report, report_of}
use Rattle.report_told.specs.Rules.{IsHead, IsTail, IsShort, Rise, amount_in, amount_limit, times}
use Rattle.report_told.specs.Points.{IsShortEnough, rules_told}
use Rattle.report_told.specs.Verdicts.{Certified}

-- ---- the lines of a report

-- the calls that ended, of all batches, each with its seat
abbrev pub ended_in : Report → List (ℕ × Outcome)
ended_in report = flat_map (λ batch. batch.outcomes) report.batches

-- those that were under way
abbrev pub begun_in : Report → List Pending
begun_in report = flat_map (λ batch. batch.pending) report.batches

-- the packets of the orders, one behind the other
abbrev pub packets_in : Report → List ℕ
packets_in report = map (λ id. id.packet) (flat_map (λ batch. batch.order) report.batches)

-- what was asked on these lines, with the packet of each call
abbrev pub calls_ended : List (ℕ × Outcome) → List (ℕ × Call)
calls_ended lines = map (λ line. asked_in line.1) lines

abbrev pub calls_begun : List Pending → List (ℕ × Call)
calls_begun pending = map (λ u. (u.packet, u.call)) pending

-- the answered calls of these lines, of which each names its seat
abbrev pub answered_on : List (ℕ × Outcome) → List Record
answered_on lines = flat_map (λ line. record_in line.1) lines

-- those of a seat
abbrev pub answered_by : (seat : ℕ) → List (ℕ × Outcome) → List Record
answered_by seat lines = flat_map (λ line. if line.0 == seat then record_in line.1 else []) lines

-- a call's number is its place, from 1, among the answered lines of its seat
abbrev pub AreCountedBySeat : List (ℕ × Outcome) → Type 0
AreCountedBySeat lines =
    (seat : ℕ) (front back : List Record) (r : Record) → answered_by seat lines ≡ front ++ r ∷ back →
    (r.number ≡ length front + 1) × (r.seat ≡ seat)

-- ---- what may stand on a line

-- a call that can be told by a rule: the packet's number fits, the key has a text, and an insert or a count brings the
-- packet's number
pub record IsFitting (rule : CallRule) (asked : ℕ × Call) : Type 0 where
  pub packet : asked.0 < 2 ^ 32
  pub flow : IsFlow (key_in asked.1)
  pub rule_is : IsOfRule rule asked.1
  pub value : InsertsOnly asked.0 asked.1
  pub amount : amount_in asked.1 < amount_limit asked.1

-- its ending can be told: an answer has a count for each seat, and a refusal tells too little room
abbrev pub HasEnded : Head → Outcome → Type 0
HasEnded head (Answered r) = (r.steps < 2 ^ 64) × (head.seats ≤ length r.seen.counts)
HasEnded head (Refused packet call full) = IsShort head call full

-- a call under way can be told: it is its seat's next
pub record HasBegun (report : Report) (u : Pending) : Type 0 where
  pub play : report.head.play ≡ true
  pub seat : u.seat < report.head.seats
  pub number : u.number ≡ length (answered_by u.seat (ended_in report)) + 1
  pub long : report.head.seats ≤ length u.seen.counts
  pub fit : All (λ count. count < 2 ^ 32) u.seen.counts

-- ---- the report

-- This list is one right order of the report's calls.
pub record IsGood (report : Report) (all : List Placed) : Type 0 where
  -- the settings, the counts and the bound of the first and the last lines
  pub head : IsHead report.head
  pub tail : IsTail report.head report.tail
  -- what was asked, by whom, and how it ended
  pub asked : All (IsFitting report.head.calls) (calls_ended (ended_in report))
  pub seats : All (λ line. line.0 < report.head.seats) (ended_in report)
  pub ended : All (λ line. HasEnded report.head line.1) (ended_in report)
  pub few : length (ended_in report) < 2 ^ 32 - 1
  pub under_way : All (IsFitting report.head.calls) (calls_begun (begun_in report))
  pub begun : All (HasBegun report) (begun_in report)
  -- the lines of the calls that ended are in packet order, and no packet is of two calls
  pub rise : Rise (map (λ asked. asked.0) (calls_ended (ended_in report)))
  pub apart : (packet : ℕ) → 1 ≤ times packet (map (λ u. u.packet) (begun_in report)) →
      times packet (map (λ asked. asked.0) (calls_ended (ended_in report)))
      + times packet (map (λ u. u.packet) (begun_in report)) ≤ 1
  -- a call's number is its place among the answered lines of its seat
  pub numbered : AreCountedBySeat (ended_in report)
  -- each answered call stands once in the order, and so do some updates that were under way; the order's lines are its
  -- packets
  pub took : Pending → Bool
  pub updates : (u : Pending) → took u ≡ true → is_update u.call ≡ true
  pub whole : Whole (answered_on (ended_in report)) (filter took (begun_in report)) all
  pub order : packets_in report ≡ map packet_of all
  -- the order is right: the sessions are what it leaves, and no update took more steps than the bound
  pub after : After all
  pub legal : Legal (rules_told report.head) empty all
  pub sessions : report.pairs ≡ pairs_of (sessions_after (rules_told report.head) empty all)
  pub steps : All (IsShortEnough report.tail.bound) (answered_on (ended_in report))

-- the text of such a report is certified
abbrev pub GoodIsCertified : Type 0
GoodIsCertified = (report : Report) (all : List Placed) → IsGood report all → Certified (report_of report)
