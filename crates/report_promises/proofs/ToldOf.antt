-- What the text of a report tells: its batches are one list of lines, and of a record neither the row nor counts of
-- seats that there are not are told.
use Rattle.std.proofs.Common.{◌≡◌, ℕ, ◌-◌, List, [], ◌∷◌, ◌++◌, map, length, take, refl, ap, ◌∙◌}
use Rattle.std.specs.Prelude.{flat_map, replicate}
use Rattle.std.specs.List.{AllByRecursion}
use Rattle.std.specs.Slice.Iter.{chunk_count}
use Rattle.std.specs.Simd.{first_chunks}
use Rattle.std.proofs.lemmas.List.{map-append}
use Rattle.std.proofs.lemmas.List.Concat.{flat_map-append}
use Rattle.plain_map.specs.declared.records.TheConstants.{MOST_SEATS}
use Rattle.plain_map.specs.declared.records.Seen.{Seen}
use Rattle.plain_map.specs.declared.records.Record.{Record}
use Rattle.plain_map.specs.declared.records.Pending.{Pending}
use Rattle.plain_map.specs.declared.records.CallId.{CallId}
use Rattle.plain_map.specs.History.{Placed, answered, pending as waiting}
use Rattle.trace_share.specs.declared.outcome.Outcome.{Outcome}
use Rattle.trace_share.specs.declared.outcome.Outcome.TheVariants.{Answered, Refused}
use Rattle.trace_share.specs.Outcomes.{asked_in}
use Rattle.report_text.specs.Report.{Batch, Report}
use Rattle.report_told.specs.declared.told.Ended.{Ended}
use Rattle.report_told.specs.declared.told.Ended.TheVariants as ended
use Rattle.report_told.specs.declared.told.CallLine.{CallLine}
use Rattle.report_told.specs.declared.told.PendingLine.{PendingLine}
use Rattle.report_told.specs.Told.{Entry, call, pending, order, Told}

-- ---- the values

-- the counts of the seats that there are
abbrev pub trimmed : (seats : ℕ) → Seen → Seen
trimmed seats seen = record { counts = take seats seen.counts ++ replicate (MOST_SEATS - seats) 0 }

-- how a call ended
abbrev pub ended_of : (seats : ℕ) → Outcome → Ended
ended_of seats (Answered r) = ended.Answered r.reply r.steps (trimmed seats r.seen)
ended_of seats (Refused packet asked full) = ended.Refused full

-- the line of a call that ended, with its seat
abbrev pub line_of : (seats : ℕ) → ℕ × Outcome → CallLine
line_of seats line = record {
  packet = (asked_in line.1).0;
  seat = line.0;
  call = (asked_in line.1).1;
  ended = ended_of seats line.1;
}

-- the line of a call under way
abbrev pub waiting_of : (seats : ℕ) → Pending → PendingLine
waiting_of seats u = record { packet = u.packet; seat = u.seat; call = u.call; seen = trimmed seats u.seen }

-- an order's packets
abbrev pub packets_of : List CallId → List ℕ
packets_of ids = map (λ id. id.packet) ids

-- the lines of a batch, kind by kind
abbrev pub calls_in : (seats : ℕ) → Batch → List Entry
calls_in seats batch = map (λ line. call (line_of seats line)) batch.outcomes

-- those of its calls under way
abbrev pub waits_in : (seats : ℕ) → Batch → List Entry
waits_in seats batch = map (λ u. pending (waiting_of seats u)) batch.pending

-- an order in parts of 16
abbrev pub chunks_in : List CallId → List (List CallId)
chunks_in ids = first_chunks 16 (chunk_count (length ids) 16) ids

-- those of its order
abbrev pub orders_in : Batch → List Entry
orders_in batch = map (λ ids. order (packets_of ids)) (chunks_in batch.order)

-- all lines of a batch
abbrev pub entries_of : (seats : ℕ) → Batch → List Entry
entries_of seats batch = calls_in seats batch ++ (waits_in seats batch ++ orders_in batch)

-- what the text of the report tells
abbrev pub told_of : Report → Told
told_of report = record {
  head = report.head;
  entries = flat_map (entries_of report.head.seats) report.batches;
  pairs = report.pairs;
  tail = report.tail;
}

-- ---- a call as it is told

-- an answered call
abbrev pub plain : (seats : ℕ) → Record → Record
plain seats r = record r { seen = trimmed seats r.seen; place = 0 }

-- a call under way
abbrev pub begun : (seats : ℕ) → Pending → Pending
begun seats u = record u { seen = trimmed seats u.seen }

-- a call of an order
abbrev pub placed_as : (seats : ℕ) → Placed → Placed
placed_as seats (answered r) = answered (plain seats r)
placed_as seats (waiting u) = waiting (begun seats u)

-- ---- what is made of each line

-- of the lines of a batch, kind by kind
pub by_kind : {A : Type 0} (f : Entry → List A) (seats : ℕ) (batch : Batch) →
    flat_map f (entries_of seats batch)
    ≡ flat_map f (calls_in seats batch) ++ (flat_map f (waits_in seats batch) ++ flat_map f (orders_in batch))
by_kind f seats batch =
    flat_map-append f (calls_in seats batch) (waits_in seats batch ++ orders_in batch)
    ∙ ap (λ ys. flat_map f (calls_in seats batch) ++ ys)
    (flat_map-append f (waits_in seats batch) (orders_in batch))

-- of those of all batches, batch by batch
pub by_batch : {A : Type 0} (f : Entry → List A) (of : Batch → List A) (seats : ℕ) (batches : List Batch) →
    AllByRecursion (λ (batch : Batch). flat_map f (entries_of seats batch) ≡ of batch) batches →
    flat_map f (flat_map (entries_of seats) batches) ≡ flat_map of batches
by_batch f of seats [] each = refl
by_batch f of seats (batch ∷ batches) each =
    flat_map-append f (entries_of seats batch) (flat_map (entries_of seats) batches)
    ∙ ap (λ xs. xs ++ flat_map f (flat_map (entries_of seats) batches)) each.0
    ∙ ap (λ ys. of batch ++ ys) (by_batch f of seats batches each.1)

-- ---- what holds of each

-- what holds of everything holds of each element
pub always : {A : Type 0} (P : A → Type 0) → ((x : A) → P x) → (xs : List A) → AllByRecursion P xs
always P holds [] = tt
always P holds (x ∷ xs) = (holds x, always P holds xs)

-- lists that are joined and then mapped
pub map_joined : {A B C : Type 0} (made : B → C) (part : A → List B) (xs : List A) →
    map made (flat_map part xs) ≡ flat_map (λ x. map made (part x)) xs
map_joined made part [] = refl
map_joined made part (x ∷ xs) =
    map-append made (part x) (flat_map part xs) ∙ ap (λ ys. map made (part x) ++ ys) (map_joined made part xs)

-- what holds of each image holds of the mapped list
pub mapped : {A B : Type 0} (P : B → Type 0) (made : A → B) (xs : List A) → AllByRecursion (λ x. P (made x)) xs →
    AllByRecursion P (map made xs)
mapped P made [] all = tt
mapped P made (x ∷ xs) all = (all.0, mapped P made xs all.1)

-- what holds of two lists holds of both together
pub joined_all : {A : Type 0} (P : A → Type 0) (xs ys : List A) → AllByRecursion P xs → AllByRecursion P ys →
    AllByRecursion P (xs ++ ys)
joined_all P [] ys one other = other
joined_all P (x ∷ xs) ys one other = (one.0, joined_all P xs ys one.1 other)

-- what holds of two lists, one behind the other, holds of both
pub both_parts : {A : Type 0} (P : A → Type 0) (xs ys : List A) → AllByRecursion P (xs ++ ys) →
    AllByRecursion P xs × AllByRecursion P ys
both_parts P [] ys all = (tt, all)
both_parts P (x ∷ xs) ys all =
    let later = both_parts P xs ys all.1 in
    ((all.0, later.0), later.1)
