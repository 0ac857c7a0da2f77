-- The text of a report is the text of what it tells.
use Rattle.std.proofs.Common.{◌≡◌, ℕ, ◌≤◌, ◌-◌, codes, decimal, List, [], ◌∷◌, ◌++◌, map, length, take, refl, sym, ap, ◌∙◌}
use Rattle.std.specs.Prelude.{flat_map, replicate}
use Rattle.std.specs.List.{AllByRecursion, join_by}
use Rattle.std.proofs.lemmas.List.{take_at, length-take-le}
use Rattle.plain_map.specs.declared.calls.Call.{Call}
use Rattle.plain_map.specs.declared.calls.Reply.{Reply}
use Rattle.plain_map.specs.declared.calls.Reply.TheVariants.{New, Old, NoRoom, Gone, Found, Absent, Sum}
use Rattle.plain_map.specs.declared.records.TheConstants.{MOST_SEATS}
use Rattle.plain_map.specs.declared.records.Seen.{Seen}
use Rattle.plain_map.specs.declared.records.Pending.{Pending}
use Rattle.plain_map.specs.declared.records.CallId.{CallId}
use Rattle.trace_share.specs.declared.outcome.Outcome.{Outcome}
use Rattle.trace_share.specs.declared.outcome.Outcome.TheVariants.{Answered, Refused}
use Rattle.report_text.specs.Lines.{line, counts_word}
use Rattle.report_text.specs.Report.{Batch, Report, after_words, batch_lines, call_words, head_line, order_line, order_lines, outcome_line, pending_line, reply_words, report_of, session_line, steps_words, tail_lines, value_in}
use Rattle.report_told.specs.Told.{call, pending, order, call_line, entry_line, packets_line, told_reply_words, told_text, waiting_line}
use Rattle.report_promises.specs.Good.{begun_in, ended_in}
use Rattle.report_promises.proofs.ToldOf.{by_batch, by_kind, both_parts, chunks_in, entries_of, line_of, orders_in, packets_of, told_of, trimmed, waiting_of, waits_in}

-- a new session's value is the packet's number
abbrev pub TellsPacket : (packet : ℕ) → Call → Reply → Type 0
TellsPacket packet asked New = value_in asked ≡ packet
TellsPacket packet asked (Old value) = Unit {0}
TellsPacket packet asked NoRoom = Unit {0}
TellsPacket packet asked (Gone value) = Unit {0}
TellsPacket packet asked (Found value) = Unit {0}
TellsPacket packet asked Absent = Unit {0}
TellsPacket packet asked (Sum total) = Unit {0}

-- then the reply has the words that it has beside its call
reply_told : (packet : ℕ) (asked : Call) (reply : Reply) → TellsPacket packet asked reply →
    told_reply_words packet asked reply ≡ reply_words asked reply
reply_told packet asked New is = ap (λ (n : ℕ). codes "new" ∷ decimal n ∷ []) (sym is)
reply_told packet asked (Old value) is = refl
reply_told packet asked NoRoom is = refl
reply_told packet asked (Gone value) is = refl
reply_told packet asked (Found value) is = refl
reply_told packet asked Absent is = refl
reply_told packet asked (Sum total) is = refl

-- the counts of the seats that there are
after_told : (seats : ℕ) (seen : Seen) → seats ≤ length seen.counts →
    after_words seats (trimmed seats seen) ≡ after_words seats seen
unfolding after_words counts_word
after_told seats seen long =
    ap (λ (counts : List ℕ). codes "after" ∷ join_by decimal (codes ",") counts ∷ [])
    (take_at (take seats seen.counts) (replicate (MOST_SEATS - seats) 0) seats (length-take-le seats seen.counts long))

-- the line of such a call can be told
abbrev pub CanBeTold : (seats : ℕ) → Outcome → Type 0
CanBeTold seats (Answered r) = TellsPacket r.packet r.call r.reply × (seats ≤ length r.seen.counts)
CanBeTold seats (Refused packet asked full) = Unit {0}

-- the line of a call that ended
line_told : (seats seat : ℕ) (outcome : Outcome) → CanBeTold seats outcome →
    call_line seats (line_of seats (seat, outcome)) ≡ outcome_line seats seat outcome
unfolding call_line outcome_line
line_told seats seat (Answered r) can =
    ap (λ (words : List (List ℕ)). line (codes "call" ∷ (call_words r.packet seat r.call
    ++ (words ++ (steps_words r.steps ++ after_words seats (trimmed seats r.seen))))))
    (reply_told r.packet r.call r.reply can.0)
    ∙ ap (λ (words : List (List ℕ)). line (codes "call" ∷ (call_words r.packet seat r.call
    ++ (reply_words r.call r.reply ++ (steps_words r.steps ++ words)))))
    (after_told seats r.seen can.1)
line_told seats seat (Refused packet asked full) can = refl

-- the line of a call under way
waiting_told : (seats : ℕ) (u : Pending) → seats ≤ length u.seen.counts →
    waiting_line seats (waiting_of seats u) ≡ pending_line seats u
unfolding waiting_line pending_line
waiting_told seats u long =
    ap (λ (words : List (List ℕ)). line (codes "pending" ∷ (call_words u.packet u.seat u.call ++ words)))
    (after_told seats u.seen long)

-- packets as words
decimals : (ids : List CallId) → map decimal (packets_of ids) ≡ map (λ (id : CallId). decimal id.packet) ids
decimals [] = refl
decimals (id ∷ ids) = ap (λ words. decimal id.packet ∷ words) (decimals ids)

-- a line of an order
packets_told : (ids : List CallId) → packets_line (packets_of ids) ≡ order_line ids
unfolding packets_line order_line
packets_told ids = ap (λ (words : List (List ℕ)). line (codes "order" ∷ words)) (decimals ids)

-- Kind by kind.

-- the lines of calls that ended
calls_told : (seats : ℕ) (lines : List (ℕ × Outcome)) →
    AllByRecursion (λ (one : ℕ × Outcome). CanBeTold seats one.1) lines →
    flat_map (entry_line seats) (map (λ one. call (line_of seats one)) lines)
    ≡ flat_map (λ (one : ℕ × Outcome). outcome_line seats one.0 one.1) lines
calls_told seats [] can = refl
calls_told seats (one ∷ lines) can =
    ap (λ (text : List ℕ). text ++ flat_map (entry_line seats) (map (λ other. call (line_of seats other)) lines))
    (line_told seats one.0 one.1 can.0)
    ∙ ap (λ (text : List ℕ). outcome_line seats one.0 one.1 ++ text) (calls_told seats lines can.1)

-- a call under way has a count for each seat
abbrev pub HasCounts : (seats : ℕ) → Pending → Type 0
HasCounts seats u = seats ≤ length u.seen.counts

-- the lines of calls under way
waits_told : (seats : ℕ) (us : List Pending) → AllByRecursion (HasCounts seats) us →
    flat_map (entry_line seats) (map (λ u. pending (waiting_of seats u)) us) ≡ flat_map (pending_line seats) us
waits_told seats [] can = refl
waits_told seats (u ∷ us) can =
    ap (λ (text : List ℕ). text ++ flat_map (entry_line seats) (map (λ v. pending (waiting_of seats v)) us))
    (waiting_told seats u can.0)
    ∙ ap (λ (text : List ℕ). pending_line seats u ++ text) (waits_told seats us can.1)

-- the lines of an order
orders_told : (seats : ℕ) (parts : List (List CallId)) →
    flat_map (entry_line seats) (map (λ ids. order (packets_of ids)) parts) ≡ flat_map order_line parts
orders_told seats [] = refl
orders_told seats (ids ∷ parts) =
    ap (λ (text : List ℕ). text ++ flat_map (entry_line seats) (map (λ others. order (packets_of others)) parts))
    (packets_told ids)
    ∙ ap (λ (text : List ℕ). order_line ids ++ text) (orders_told seats parts)

-- the lines of a batch
batch_told : (seats : ℕ) (batch : Batch) →
    AllByRecursion (λ (one : ℕ × Outcome). CanBeTold seats one.1) batch.outcomes →
    AllByRecursion (HasCounts seats) batch.pending →
    flat_map (entry_line seats) (entries_of seats batch) ≡ batch_lines seats batch
unfolding batch_lines order_lines
batch_told seats batch ends waits =
    by_kind (entry_line seats) seats batch
    ∙ ap (λ (text : List ℕ). text ++ (flat_map (entry_line seats) (waits_in seats batch)
    ++ flat_map (entry_line seats) (orders_in batch))) (calls_told seats batch.outcomes ends)
    ∙ ap (λ (text : List ℕ). flat_map (λ (one : ℕ × Outcome). outcome_line seats one.0 one.1) batch.outcomes
    ++ (text ++ flat_map (entry_line seats) (orders_in batch))) (waits_told seats batch.pending waits)
    ∙ ap (λ (text : List ℕ). flat_map (λ (one : ℕ × Outcome). outcome_line seats one.0 one.1) batch.outcomes
    ++ (flat_map (pending_line seats) batch.pending ++ text)) (orders_told seats (chunks_in batch.order))

-- the lines of each batch
batches_told : (seats : ℕ) (batches : List Batch) →
    AllByRecursion (λ (one : ℕ × Outcome). CanBeTold seats one.1) (flat_map (λ (b : Batch). b.outcomes) batches) →
    AllByRecursion (HasCounts seats) (flat_map (λ (b : Batch). b.pending) batches) →
    AllByRecursion (λ (b : Batch). flat_map (entry_line seats) (entries_of seats b) ≡ batch_lines seats b) batches
batches_told seats [] ends waits = tt
batches_told seats (batch ∷ batches) ends waits =
    let e = both_parts (λ (one : ℕ × Outcome). CanBeTold seats one.1) batch.outcomes
    (flat_map (λ (b : Batch). b.outcomes) batches) ends in
    let w = both_parts (HasCounts seats) batch.pending (flat_map (λ (b : Batch). b.pending) batches) waits in
    (batch_told seats batch e.0 w.0, batches_told seats batches e.1 w.1)

-- the whole text
pub text_told : (report : Report) →
    AllByRecursion (λ (one : ℕ × Outcome). CanBeTold report.head.seats one.1) (ended_in report) →
    AllByRecursion (HasCounts report.head.seats) (begun_in report) →
    report_of report ≡ told_text (told_of report)
unfolding report_of told_text
text_told report ends waits =
    ap (λ (text : List ℕ). head_line report.head
    ++ (text ++ (flat_map session_line report.pairs ++ tail_lines report.tail)))
    (sym (by_batch (entry_line report.head.seats) (batch_lines report.head.seats) report.head.seats report.batches
    (batches_told report.head.seats report.batches ends waits)))
