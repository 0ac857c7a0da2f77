-- What a report tells, line by line, and the text that tells it. A text tells one thing at most.
-- Source: docs/FORMATS.md, the report.
use Rattle.std.specs.Prelude.{ℕ, List, ◌∷◌, ◌++◌, codes, decimal, flat_map, map}
use Rattle.plain_map.specs.declared.keys.Pair.{Pair}
use Rattle.plain_map.specs.declared.calls.Call.{Call}
use Rattle.plain_map.specs.declared.calls.Call.TheVariants.{Insert}
use Rattle.plain_map.specs.declared.calls.Reply.{Reply}
use Rattle.plain_map.specs.Calls.{key_in}
use Rattle.report_text.specs.declared.parts.Head.{Head}
use Rattle.report_text.specs.declared.parts.Tail.{Tail}
use Rattle.report_text.specs.Lines.{line}
use Rattle.report_text.specs.Report.{call_words, reply_words, steps_words, after_words, full_words, head_line, session_line, tail_lines}
use Rattle.report_told.specs.declared.told.Ended.{Ended}
use Rattle.report_told.specs.declared.told.Ended.TheVariants.{Answered, Refused}
use Rattle.report_told.specs.declared.told.CallLine.{CallLine}
use Rattle.report_told.specs.declared.told.PendingLine.{PendingLine}

-- a line between the head and the sessions: batches are not told apart
pub data Entry : Type 0 where
  call : CallLine → Entry
  pending : PendingLine → Entry
  order : List ℕ → Entry

-- a report, by its lines; the last four are one tail
pub record Told : Type 0 where
  pub head : Head
  pub entries : List Entry
  pub pairs : List Pair
  pub tail : Tail

-- the reply on the line of a packet: `new` tells the packet, whatever was asked
abbrev pub told_reply_words : (packet : ℕ) → Call → Reply → List (List ℕ)
told_reply_words packet asked reply = reply_words (Insert (key_in asked) packet) reply

-- how the line of a call goes on
abbrev pub ended_words : (seats packet : ℕ) → Call → Ended → List (List ℕ)
ended_words seats packet asked (Answered reply steps seen) =
    told_reply_words packet asked reply ++ (steps_words steps ++ after_words seats seen)
ended_words seats packet asked (Refused full) = full_words full

unfoldable pub call_line : (seats : ℕ) → CallLine → List ℕ
call_line seats told =
    line (codes "call"
    ∷ (call_words told.packet told.seat told.call ++ ended_words seats told.packet told.call told.ended))

unfoldable pub waiting_line : (seats : ℕ) → PendingLine → List ℕ
waiting_line seats told =
    line (codes "pending" ∷ (call_words told.packet told.seat told.call ++ after_words seats told.seen))

unfoldable pub packets_line : List ℕ → List ℕ
packets_line packets = line (codes "order" ∷ map decimal packets)

abbrev pub entry_line : (seats : ℕ) → Entry → List ℕ
entry_line seats (call told) = call_line seats told
entry_line seats (pending told) = waiting_line seats told
entry_line seats (order packets) = packets_line packets

-- the whole text
unfoldable pub told_text : Told → List ℕ
told_text told =
    head_line told.head
    ++ (flat_map (entry_line told.head.seats) told.entries
    ++ (flat_map session_line told.pairs ++ tail_lines told.tail))
