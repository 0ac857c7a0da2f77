-- The lines of a report, each read at the front of some bytes: what it tells and the bytes behind it, or nothing.
-- Source: docs/FORMATS.md, the report.
use Rattle.std.specs.Prelude.{◌≡◌, ℕ, Bool, not, ◌++◌, nat_lt, nat_le, ◌&&◌, List, [], codes, length, if◌then◌else◌, Option, Some, None}
use Rattle.plain_map.specs.declared.keys.Pair.{Pair}
use Rattle.plain_map.specs.declared.calls.Call.{Call}
use Rattle.plain_map.specs.declared.records.Seen.{Seen}
use Rattle.key_texts.specs.declared.rules.CallRule.{CallRule}
use Rattle.key_texts.specs.declared.rules.CallRule.TheVariants.{Sessions, Flows}
use Rattle.report_text.specs.declared.parts.Head.{Head}
use Rattle.capture_faults.specs.declared.ending.Ending.{Ending}
use Rattle.line_fields.specs.Reading.{◌>>=◌, number_at, text_at}
use Rattle.flow_reading.specs.Flows.{flow_at}
use Rattle.plain_map.specs.Calls.{is_update}
use Rattle.report_told.specs.declared.told.Ended.{Ended}
use Rattle.report_told.specs.declared.told.Ended.TheVariants.{Answered, Refused}
use Rattle.report_told.specs.declared.told.CallLine.{CallLine}
use Rattle.report_told.specs.declared.told.PendingLine.{PendingLine}
use Rattle.report_lines.specs.declared.calls.Asked.{Asked}
use Rattle.report_lines.specs.declared.tails.Leaves.{Leaves}
use Rattle.report_lines.specs.declared.tails.Counts.{Counts}
use Rattle.report_lines.specs.declared.tails.Steps.{Steps}
use Rattle.report_lines.specs.Fields.{behind_or, most_32, most_64, mode_at, hashing_at, share_at, verb_at, reply_at, kind_at, counts_at, packets_behind, ending_at}

-- a head whose settings are in range: there is a seat and an item, and the table starts no deeper than it may get
abbrev pub ranged : Head → List ℕ → Option (Head × List ℕ)
ranged head rest =
    if nat_lt 0 head.seats && nat_lt 0 head.items && nat_le head.start head.depth then Some (head, rest) else None

-- ` batch N` and the end of the line, of calls that are served in batches of another number than 2,048
abbrev pub told_batch : (play : Bool) → List ℕ → Option (ℕ × List ℕ)
told_batch play bytes = do
  batch ← number_at 65536 bytes
  rest ← text_at (codes "\n") batch.1
  if not play && nat_lt 2048 batch.0 then Some (batch.0, rest) else None

-- how many packets a batch has, and the end of the line
unfoldable pub batch_at : (play : Bool) → List ℕ → Option (ℕ × List ℕ)
batch_at play bytes =
    behind_or (text_at (codes "\n") bytes) (λ rest. Some (2048, rest))
    (behind_or (text_at (codes " batch ") bytes) (told_batch play) None)

-- which calls packets make, with how many packets a batch has
abbrev pub with_rule : CallRule → Option (ℕ × List ℕ) → Option ((CallRule × ℕ) × List ℕ)
with_rule rule batch = do
  told ← batch
  Some ((rule, told.0), told.1)

-- both, and the end of the line
unfoldable pub rule_at : (play : Bool) → List ℕ → Option ((CallRule × ℕ) × List ℕ)
rule_at play bytes =
    behind_or (text_at (codes " calls flows") bytes) (λ rest. with_rule Flows (batch_at play rest))
    (with_rule Sessions (batch_at play bytes))

-- the head line behind the items of a class
unfoldable pub head_behind : (play : Bool) (seats items : ℕ) → List ℕ → Option (Head × List ℕ)
head_behind play seats items bytes = do
  before_depth ← text_at (codes " depth ") bytes
  depth ← number_at 12 before_depth
  before_start ← text_at (codes " start ") depth.1
  start ← number_at 12 before_start
  before_hash ← text_at (codes " hash ") start.1
  hashing ← hashing_at before_hash
  before_share ← text_at (codes " share ") hashing.1
  share ← share_at before_share
  last ← rule_at play share.1
  ranged (record {
    play = play;
    seats = seats;
    items = items;
    depth = depth.0;
    start = start.0;
    hashing = hashing.0;
    share = share.0;
    calls = last.0.0;
    batch = last.0.1;
  }) last.1

-- the head line
unfoldable pub head_at : List ℕ → Option (Head × List ℕ)
head_at bytes = do
  begun ← text_at (codes "flowdir ") bytes
  mode ← mode_at begun
  before_seats ← text_at (codes " seats ") mode.1
  seats ← number_at 8 before_seats
  before_items ← text_at (codes " items ") seats.1
  items ← number_at 16 before_items
  head_behind mode.0 seats.0 items.0 items.1

-- `P seat I insert KEY` of one of so many seats
unfoldable pub asked_at : (seats : ℕ) → List ℕ → Option (Asked × List ℕ)
asked_at seats bytes = do
  packet ← number_at most_32 bytes
  before_seat ← text_at (codes " seat ") packet.1
  seat ← number_at 7 before_seat
  call ← (if nat_lt seat.0 seats then verb_at packet.0 seat.1 else None)
  Some (record { packet = packet.0; seat = seat.0; call = call.0 }, call.1)

-- ` after V` and the end of the line
unfoldable pub seen_at : (seats : ℕ) → List ℕ → Option (Seen × List ℕ)
seen_at seats bytes = do
  begun ← text_at (codes " after ") bytes
  seen ← counts_at seats begun
  rest ← text_at (codes "\n") seen.1
  Some (seen.0, rest)

-- `WHAT LEFT NEED` of an update, and the end of the line
unfoldable pub refused_at : Call → List ℕ → Option (Ended × List ℕ)
refused_at asked bytes = do
  kind ← kind_at bytes
  before_left ← text_at (codes " ") kind.1
  left ← number_at most_64 before_left
  before_need ← text_at (codes " ") left.1
  need ← number_at most_64 before_need
  rest ← text_at (codes "\n") need.1
  if is_update asked then Some (Refused (record { what = kind.0; left = left.0; need = need.0 }), rest) else None

-- ` REPLY steps K after V` and the end of the line
unfoldable pub answered_at : (seats packet : ℕ) → List ℕ → Option (Ended × List ℕ)
answered_at seats packet bytes = do
  reply ← reply_at packet bytes
  before_steps ← text_at (codes " steps ") reply.1
  steps ← number_at most_64 before_steps
  seen ← seen_at seats steps.1
  Some (Answered reply.0 steps.0 seen.0, seen.1)

-- how a call ended: it was refused, or answered
unfoldable pub ended_at : (seats : ℕ) → Asked → List ℕ → Option (Ended × List ℕ)
ended_at seats asked bytes =
    behind_or (text_at (codes " full ") bytes) (refused_at asked.call) (answered_at seats asked.packet bytes)

-- `call P seat I VERB KEY`, and how the call ended
unfoldable pub call_at : (seats : ℕ) → List ℕ → Option (CallLine × List ℕ)
call_at seats bytes = do
  begun ← text_at (codes "call ") bytes
  asked ← asked_at seats begun
  ended ← ended_at seats asked.0 asked.1
  Some (record { packet = asked.0.packet; seat = asked.0.seat; call = asked.0.call; ended = ended.0 }, ended.1)

-- `pending P seat I VERB KEY after V`
unfoldable pub pending_at : (seats : ℕ) → List ℕ → Option (PendingLine × List ℕ)
pending_at seats bytes = do
  begun ← text_at (codes "pending ") bytes
  asked ← asked_at seats begun
  seen ← seen_at seats asked.1
  Some (record { packet = asked.0.packet; seat = asked.0.seat; call = asked.0.call; seen = seen.0 }, seen.1)

-- 1 to 16 packets
unfoldable pub order_at : List ℕ → Option (List ℕ × List ℕ)
order_at bytes = do
  begun ← text_at (codes "order") bytes
  packets ← packets_behind 16 [] begun
  rest ← text_at (codes "\n") packets.1
  if nat_lt 0 (length packets.0) then Some (packets.0, rest) else None

-- what stands behind the line that was read, if it was, and its packets behind those before
abbrev pub AddsOrder : Option (List ℕ × List ℕ) → (before after : List ℕ) → Option (List ℕ) → Type 0
AddsOrder (Some line) before after found = (found ≡ Some line.1) × (after ≡ before ++ line.0)
AddsOrder None before after found = found ≡ None

-- `session KEY VALUE bytes T`
unfoldable pub session_at : List ℕ → Option (Pair × List ℕ)
session_at bytes = do
  begun ← text_at (codes "session ") bytes
  key ← flow_at begun
  before_value ← text_at (codes " ") key.1
  value ← number_at most_64 before_value
  before_bytes ← text_at (codes " bytes ") value.1
  counted ← number_at most_64 before_bytes
  rest ← text_at (codes "\n") counted.1
  Some (record { key = key.0; value = value.0; bytes = counted.0 }, rest)

-- `leaves N depth D`
unfoldable pub leaves_at : List ℕ → Option (Leaves × List ℕ)
leaves_at bytes = do
  begun ← text_at (codes "leaves ") bytes
  leaves ← number_at most_64 begun
  before_depth ← text_at (codes " depth ") leaves.1
  depth ← number_at most_32 before_depth
  rest ← text_at (codes "\n") depth.1
  Some (record { leaves = leaves.0; depth = depth.0 }, rest)

-- `input` and how it ended
unfoldable pub input_at : List ℕ → Option (Ending × List ℕ)
input_at bytes = do
  begun ← text_at (codes "input ") bytes
  ending ← ending_at begun
  rest ← text_at (codes "\n") ending.1
  Some (ending.0, rest)

-- the counts of packets and calls
unfoldable pub count_at : List ℕ → Option (Counts × List ℕ)
count_at bytes = do
  begun ← text_at (codes "count packets ") bytes
  packets ← number_at most_64 begun
  before_calls ← text_at (codes " calls ") packets.1
  calls ← number_at most_64 before_calls
  before_passed ← text_at (codes " passed ") calls.1
  passed ← number_at most_64 before_passed
  before_full ← text_at (codes " full ") passed.1
  full ← number_at most_64 before_full
  before_pending ← text_at (codes " pending ") full.1
  pending ← number_at most_64 before_pending
  before_unbegun ← text_at (codes " unbegun ") pending.1
  unbegun ← number_at most_64 before_unbegun
  rest ← text_at (codes "\n") unbegun.1
  Some (
    record {
      packets = packets.0;
      calls = calls.0;
      passed = passed.0;
      full = full.0;
      pending = pending.0;
      unbegun = unbegun.0;
    },
    rest,
  )

-- the most steps of an update and of a lookup, and the bound
unfoldable pub steps_at : List ℕ → Option (Steps × List ℕ)
steps_at bytes = do
  begun ← text_at (codes "steps update ") bytes
  update ← number_at most_64 begun
  before_bound ← text_at (codes " bound ") update.1
  bound ← number_at most_64 before_bound
  before_lookup ← text_at (codes " lookup ") bound.1
  lookup ← number_at most_64 before_lookup
  rest ← text_at (codes "\n") lookup.1
  Some (record { update = update.0; bound = bound.0; lookup = lookup.0 }, rest)
