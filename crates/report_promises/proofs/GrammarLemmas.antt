-- What a report tells is in the grammar.
use Rattle.std.proofs.Common.{◌≡◌, ℕ, zero, suc, ◌+◌, ◌-◌, ◌^◌, ◌<◌, ◌≤◌, List, [], ◌∷◌, ◌++◌, map, length, min, take, drop, refl, sym, ap, ◌∙◌, append-nil, subst, arith, length-drop}
use Rattle.std.specs.Prelude.{flat_map}
use Rattle.std.specs.List.{AllByRecursion}
use Rattle.std.specs.Simd.{first_chunks}
use Rattle.std.specs.Slice.Iter.{chunk_count}
use Rattle.std.proofs.lemmas.List.{length-map, length-take, map-append, take-append-drop}
use Rattle.std.proofs.lemmas.List.Elements.{All-from_recursion}
use Rattle.plain_map.specs.declared.calls.Call.{Call}
use Rattle.plain_map.specs.declared.records.Pending.{Pending}
use Rattle.plain_map.specs.declared.records.CallId.{CallId}
use Rattle.trace_share.specs.declared.outcome.Outcome.{Outcome}
use Rattle.trace_share.specs.Outcomes.{asked_in}
use Rattle.report_text.specs.declared.parts.Head.{Head}
use Rattle.report_text.specs.Report.{Batch, Report}
use Rattle.report_text.proofs.OrderLemmas.{chunk_count_step}
use Rattle.report_told.specs.Told.{call, pending, order}
use Rattle.report_told.specs.Rules.{AreEntries, IsEntry, Rise, ended_packets, packet_ended, packet_pending, times, waiting_packets}
use Rattle.report_told.specs.Points.{order_told, packets_told}
use Rattle.report_promises.specs.Good.{begun_in, calls_ended, ended_in, packets_in}
use Rattle.report_promises.proofs.NumberLemmas.{none_made}
use Rattle.report_promises.proofs.ToldOf.{always, both_parts, by_batch, by_kind, calls_in, chunks_in, entries_of, joined_all, line_of, map_joined, mapped, orders_in, packets_of, told_of, waiting_of, waits_in}

-- ---- an order's lines

-- parts of at most 16, none of which is empty, one behind the other are all
record ArePartsOf (ids : List CallId) (parts : List (List CallId)) : Type 0 where
  joined : flat_map (λ part. part) parts ≡ ids
  some : AllByRecursion (λ (part : List CallId). (1 ≤ length part) × (length part ≤ 16)) parts

-- parts of 16 are such parts, where no more than so many elements are left
parts_of : (fuel : ℕ) (ids : List CallId) → length ids ≤ fuel → ArePartsOf ids (chunks_in ids)
parts_of fuel [] few = record { joined = refl; some = tt }
parts_of zero (id ∷ ids) few = absurd (omega (arith, few))
parts_of (suc fuel) (id ∷ ids) few =
    let all : List CallId = id ∷ ids in
    let left : length (drop 16 all) ≡ length all - 16 = length-drop 16 all in
    let more : ArePartsOf (drop 16 all) (chunks_in (drop 16 all)) =
    parts_of fuel (drop 16 all) (omega (arith, left, few)) in
    let first : length (take 16 all) ≡ min 16 (length all) = length-take 16 all in
    let step : chunks_in all ≡ take 16 all ∷ chunks_in (drop 16 all) =
    ap (λ (n : ℕ). first_chunks 16 n all)
    (chunk_count_step (length all) (omega arith) ∙ ap (λ (n : ℕ). suc (chunk_count n 16)) (sym left)) in
    subst (ArePartsOf all) (sym step) (record {
      joined = ap (λ (xs : List CallId). take 16 all ++ xs) more.joined ∙ take-append-drop 16 all;
      some = ((omega (arith, first), omega (arith, first)), more.some);
    })

-- however many there are
parts_are : (ids : List CallId) → ArePartsOf ids (chunks_in ids)
parts_are ids = parts_of (length ids) ids (omega arith)

-- the packets of an order's lines
orders_joined : (parts : List (List CallId)) →
    flat_map packets_told (map (λ ids. order (packets_of ids)) parts) ≡ packets_of (flat_map (λ part. part) parts)
orders_joined [] = refl
orders_joined (part ∷ parts) =
    ap (λ ps. packets_of part ++ ps) (orders_joined parts)
    ∙ sym (map-append (λ (id : CallId). id.packet) part (flat_map (λ p. p) parts))

-- an order's packets
order_in_batch : (seats : ℕ) (batch : Batch) →
    flat_map packets_told (entries_of seats batch) ≡ packets_of batch.order
order_in_batch seats batch =
    by_kind packets_told seats batch
    ∙ ap (λ ps. ps ++ (flat_map packets_told (waits_in seats batch) ++ flat_map packets_told (orders_in batch)))
    (none_made packets_told (λ (line : ℕ × Outcome). call (line_of seats line)) (λ line. refl) batch.outcomes)
    ∙ ap (λ ps. ps ++ flat_map packets_told (orders_in batch))
    (none_made packets_told (λ (u : Pending). pending (waiting_of seats u)) (λ u. refl) batch.pending)
    ∙ orders_joined (chunks_in batch.order)
    ∙ ap packets_of (parts_are batch.order).joined

-- the packets of all lines of orders are those of all orders
pub order_is : (report : Report) → order_told (told_of report) ≡ packets_in report
order_is report =
    by_batch packets_told (λ batch. packets_of batch.order) report.head.seats report.batches
    (always (λ batch. flat_map packets_told (entries_of report.head.seats batch) ≡ packets_of batch.order)
    (order_in_batch report.head.seats) report.batches)
    ∙ sym (map_joined (λ (id : CallId). id.packet) (λ (batch : Batch). batch.order) report.batches)

-- ---- the packets of calls

-- the packets of lines of calls that ended
calls_packets : (seats : ℕ) (lines : List (ℕ × Outcome)) →
    flat_map packet_ended (map (λ line. call (line_of seats line)) lines) ≡ map (λ asked. asked.0) (calls_ended lines)
calls_packets seats [] = refl
calls_packets seats (line ∷ lines) = ap (λ ps. (asked_in line.1).0 ∷ ps) (calls_packets seats lines)

-- and of those of calls under way
waits_packets : (seats : ℕ) (us : List Pending) →
    flat_map packet_pending (map (λ u. pending (waiting_of seats u)) us) ≡ map (λ (u : Pending). u.packet) us
waits_packets seats [] = refl
waits_packets seats (u ∷ us) = ap (λ ps. u.packet ∷ ps) (waits_packets seats us)

-- the packets of the calls of a batch that ended
ended_in_batch : (seats : ℕ) (batch : Batch) →
    flat_map packet_ended (entries_of seats batch) ≡ map (λ asked. asked.0) (calls_ended batch.outcomes)
ended_in_batch seats batch =
    by_kind packet_ended seats batch
    ∙ ap (λ ps. flat_map packet_ended (calls_in seats batch) ++ (ps ++ flat_map packet_ended (orders_in batch)))
    (none_made packet_ended (λ (u : Pending). pending (waiting_of seats u)) (λ u. refl) batch.pending)
    ∙ ap (λ ps. flat_map packet_ended (calls_in seats batch) ++ ps)
    (none_made packet_ended (λ ids. order (packets_of ids)) (λ ids. refl) (chunks_in batch.order))
    ∙ append-nil (flat_map packet_ended (calls_in seats batch))
    ∙ calls_packets seats batch.outcomes

-- and of those under way
waiting_in_batch : (seats : ℕ) (batch : Batch) →
    flat_map packet_pending (entries_of seats batch) ≡ map (λ (u : Pending). u.packet) batch.pending
waiting_in_batch seats batch =
    by_kind packet_pending seats batch
    ∙ ap (λ ps. ps ++ (flat_map packet_pending (waits_in seats batch) ++ flat_map packet_pending (orders_in batch)))
    (none_made packet_pending (λ (line : ℕ × Outcome). call (line_of seats line)) (λ line. refl) batch.outcomes)
    ∙ ap (λ ps. flat_map packet_pending (waits_in seats batch) ++ ps)
    (none_made packet_pending (λ ids. order (packets_of ids)) (λ ids. refl) (chunks_in batch.order))
    ∙ append-nil (flat_map packet_pending (waits_in seats batch))
    ∙ waits_packets seats batch.pending

-- those of calls that ended
ended_are : (report : Report) →
    ended_packets (told_of report).entries ≡ map (λ asked. asked.0) (calls_ended (ended_in report))
ended_are report =
    by_batch packet_ended (λ batch. map (λ asked. asked.0) (calls_ended batch.outcomes)) report.head.seats
    report.batches
    (always (λ batch. flat_map packet_ended (entries_of report.head.seats batch)
    ≡ map (λ asked. asked.0) (calls_ended batch.outcomes)) (ended_in_batch report.head.seats) report.batches)
    ∙ sym (map_joined (λ (asked : ℕ × Call). asked.0) (λ (batch : Batch). calls_ended batch.outcomes) report.batches)
    ∙ ap (map (λ (asked : ℕ × Call). asked.0))
    (sym (map_joined (λ (line : ℕ × Outcome). asked_in line.1) (λ (batch : Batch). batch.outcomes) report.batches))

-- and of those under way
waiting_are : (report : Report) →
    waiting_packets (told_of report).entries ≡ map (λ (u : Pending). u.packet) (begun_in report)
waiting_are report =
    by_batch packet_pending (λ batch. map (λ (u : Pending). u.packet) batch.pending) report.head.seats report.batches
    (always (λ batch. flat_map packet_pending (entries_of report.head.seats batch)
    ≡ map (λ (u : Pending). u.packet) batch.pending) (waiting_in_batch report.head.seats) report.batches)
    ∙ sym (map_joined (λ (u : Pending). u.packet) (λ (batch : Batch). batch.pending) report.batches)

-- ---- each line

-- the lines of an order's parts may stand so
orders_fit : (head : Head) (parts : List (List CallId)) →
    AllByRecursion (λ (part : List CallId). (1 ≤ length part) × (length part ≤ 16)) parts →
    AllByRecursion (λ packet. packet < 2 ^ 32) (packets_of (flat_map (λ part. part) parts)) →
    AllByRecursion (IsEntry head) (map (λ ids. order (packets_of ids)) parts)
orders_fit head [] some few = tt
orders_fit head (part ∷ parts) some few =
    let long : length (packets_of part) ≡ length part = length-map part (λ (id : CallId). id.packet) in
    let both = both_parts (λ packet. packet < 2 ^ 32) (packets_of part) (packets_of (flat_map (λ p. p) parts))
    (subst (AllByRecursion (λ packet. packet < 2 ^ 32))
    (map-append (λ (id : CallId). id.packet) part (flat_map (λ p. p) parts)) few) in (
      (
        omega (arith, long, some.0.0),
        omega (arith, long, some.0.1),
        All-from_recursion (λ packet. packet < 2 ^ 32) (packets_of part) both.0,
      ),
      orders_fit head parts some.1 both.1,
    )

-- lines that may stand so
abbrev pub IsLine : Head → ℕ × Outcome → Type 0
IsLine head line = IsEntry head (call (line_of head.seats line))

-- so may the line of a call under way
abbrev pub IsWait : Head → Pending → Type 0
IsWait head u = IsEntry head (pending (waiting_of head.seats u))

-- the lines of all batches may stand so
entries_fit : (head : Head) (batches : List Batch) →
    AllByRecursion (IsLine head) (flat_map (λ batch. batch.outcomes) batches) →
    AllByRecursion (IsWait head) (flat_map (λ batch. batch.pending) batches) →
    AllByRecursion (λ packet. packet < 2 ^ 32) (packets_of (flat_map (λ batch. batch.order) batches)) →
    AllByRecursion (IsEntry head) (flat_map (entries_of head.seats) batches)
entries_fit head [] lines waits packets = tt
entries_fit head (batch ∷ batches) lines waits packets =
    let l = both_parts (IsLine head) batch.outcomes (flat_map (λ b. b.outcomes) batches) lines in
    let w = both_parts (IsWait head) batch.pending (flat_map (λ b. b.pending) batches) waits in
    let later : List CallId = flat_map (λ b. b.order) batches in
    let p = both_parts (λ packet. packet < 2 ^ 32) (packets_of batch.order) (packets_of later)
    (subst (AllByRecursion (λ packet. packet < 2 ^ 32)) (map-append (λ (id : CallId). id.packet) batch.order later)
    packets) in
    let parts = parts_are batch.order in
    joined_all (IsEntry head) (entries_of head.seats batch) (flat_map (entries_of head.seats) batches)
    (joined_all (IsEntry head) (calls_in head.seats batch) (waits_in head.seats batch ++ orders_in batch)
    (mapped (IsEntry head) (λ line. call (line_of head.seats line)) batch.outcomes l.0)
    (joined_all (IsEntry head) (waits_in head.seats batch) (orders_in batch)
    (mapped (IsEntry head) (λ u. pending (waiting_of head.seats u)) batch.pending w.0)
    (orders_fit head (chunks_in batch.order) parts.some
    (subst (λ (ids : List CallId). AllByRecursion (λ packet. packet < 2 ^ 32) (packets_of ids)) (sym parts.joined)
    p.0))))
    (entries_fit head batches l.1 w.1 p.1)

-- ---- all lines

-- the lines of a report may stand one behind the other
pub entries_told : (report : Report) → AllByRecursion (IsLine report.head) (ended_in report) →
    AllByRecursion (IsWait report.head) (begun_in report) →
    AllByRecursion (λ packet. packet < 2 ^ 32) (packets_in report) →
    Rise (map (λ asked. asked.0) (calls_ended (ended_in report))) →
    ((packet : ℕ) → 1 ≤ times packet (map (λ (u : Pending). u.packet) (begun_in report)) →
    times packet (map (λ asked. asked.0) (calls_ended (ended_in report)))
    + times packet (map (λ (u : Pending). u.packet) (begun_in report)) ≤ 1) →
    AreEntries report.head (told_of report).entries
entries_told report lines waits packets rise apart = record {
  each = All-from_recursion (IsEntry report.head) (told_of report).entries
      (entries_fit report.head report.batches lines waits packets);
  rise = subst Rise (sym (ended_are report)) rise;
  apart = λ packet some.
      (let w : times packet (waiting_packets (told_of report).entries)
      ≡ times packet (map (λ (u : Pending). u.packet) (begun_in report)) = ap (times packet) (waiting_are report) in
      let e : times packet (ended_packets (told_of report).entries)
      ≡ times packet (map (λ asked. asked.0) (calls_ended (ended_in report))) = ap (times packet) (ended_are report) in
      omega (arith, w, e, some, apart packet (omega (arith, w, some))));
}
