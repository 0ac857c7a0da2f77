-- The calls that a report tells are its calls: a call's number is its place among the answered lines of its seat.
use Rattle.std.proofs.Common.{◌≡◌, ℕ, suc, ◌+◌, ◌==◌, Bool, true, false, cond, List, [], ◌∷◌, ◌++◌, map, length, refl, sym, ap, ◌∙◌, append_assoc, append-nil, length-append, arith}
use Rattle.std.specs.Prelude.{flat_map}
use Rattle.std.specs.List.{AllByRecursion}
use Rattle.std.proofs.lemmas.List.{map-append}
use Rattle.std.proofs.lemmas.List.Concat.{flat_map-append}
use Rattle.std.proofs.lemmas.List.Sums.{sum_by-append, sum_by_push}
use Rattle.std.proofs.lemmas.Bool.{eq-eqb}
use Rattle.plain_map.specs.declared.records.Record.{Record}
use Rattle.plain_map.specs.declared.records.Pending.{Pending}
use Rattle.trace_share.specs.declared.outcome.Outcome.{Outcome}
use Rattle.trace_share.specs.declared.outcome.Outcome.TheVariants.{Answered, Refused}
use Rattle.trace_share.specs.Outcomes.{record_in}
use Rattle.report_text.specs.Report.{Batch, Report}
use Rattle.report_told.specs.Told.{Entry, call, pending, order}
use Rattle.report_told.specs.Points.{answers_of, is_answered_by, pending_in, pending_told, records_behind, records_told, record_told}
use Rattle.report_promises.specs.Good.{AreCountedBySeat, answered_by, answered_on, begun_in, ended_in}
use Rattle.report_told.proofs.TimesLemmas.{one_if}
use Rattle.report_promises.proofs.ToldOf.{always, begun, both_parts, by_batch, by_kind, calls_in, chunks_in, entries_of, joined_all, line_of, map_joined, mapped, orders_in, packets_of, plain, told_of, waiting_of, waits_in}

-- calls of a seat that are answered on two lists of lines
answers-append : (seat : ℕ) (es fs : List Entry) → answers_of seat (es ++ fs) ≡ answers_of seat es + answers_of seat fs
answers-append seat es fs = sum_by-append (λ e. one_if (is_answered_by seat e)) es fs

-- answered calls of lines, and of those behind them
records-append : (before es fs : List Entry) →
    records_behind before (es ++ fs) ≡ records_behind before es ++ records_behind (before ++ es) fs
records-append before [] fs = ap (λ (b : List Entry). records_behind b fs) (sym (append-nil before))
records-append before (e ∷ es) fs =
    ap (λ (rs : List Record). record_told before e ++ rs) (records-append (before ++ e ∷ []) es fs)
    ∙ sym (append_assoc (record_told before e) (records_behind (before ++ e ∷ []) es)
    (records_behind ((before ++ e ∷ []) ++ es) fs))
    ∙ ap (λ (b : List Entry). (record_told before e ++ records_behind (before ++ e ∷ []) es) ++ records_behind b fs)
    (append_assoc before (e ∷ []) es)

-- Lines that answer no call.

-- the line is of no call that ended
abbrev IsSilent : Entry → Type 0
IsSilent (call told) = ⊥
IsSilent (pending told) = Unit {0}
IsSilent (order packets) = Unit {0}

-- such lines answer no call of a seat
silent_answers : (seat : ℕ) (es : List Entry) → AllByRecursion IsSilent es → answers_of seat es ≡ 0
silent_answers seat [] silent = refl
silent_answers seat (call told ∷ es) silent = absurd silent.0
silent_answers seat (pending told ∷ es) silent =
    omega (arith, answers-append seat (pending told ∷ []) es, silent_answers seat es silent.1)
silent_answers seat (order packets ∷ es) silent =
    omega (arith, answers-append seat (order packets ∷ []) es, silent_answers seat es silent.1)

-- and tell no answered call
silent_records : (before es : List Entry) → AllByRecursion IsSilent es → records_behind before es ≡ []
silent_records before [] silent = refl
silent_records before (call told ∷ es) silent = absurd silent.0
silent_records before (pending told ∷ es) silent = silent_records (before ++ pending told ∷ []) es silent.1
silent_records before (order packets ∷ es) silent = silent_records (before ++ order packets ∷ []) es silent.1

-- Lines of calls that ended.

-- these lines answer as many calls of each seat as those
abbrev Alike : List Entry → List (ℕ × Outcome) → Type 0
Alike before front = (seat : ℕ) → answers_of seat before ≡ length (answered_by seat front)

-- a seat's answered calls on two lists of lines
pub answered_by-append : (seat : ℕ) (xs ys : List (ℕ × Outcome)) →
    answered_by seat (xs ++ ys) ≡ answered_by seat xs ++ answered_by seat ys
answered_by-append seat xs ys =
    flat_map-append (λ (line : ℕ × Outcome). cond (line.0 == seat) (record_in line.1) []) xs ys

-- a line answers a call of its own seat, or of none
one_answer : (seats seat : ℕ) (line : ℕ × Outcome) →
    one_if (is_answered_by seat (call (line_of seats line))) ≡ length (answered_by seat (line ∷ []))
one_answer seats seat (at, Answered r) = go (at == seat)
  where
    go : (b : Bool) → one_if b ≡ length (cond b (r ∷ []) [] ++ [])
    go true = refl
    go false = refl
one_answer seats seat (at, Refused packet asked full) = go (at == seat)
  where
    go : (b : Bool) → 0 ≡ length {A = Record} (cond b [] [] ++ [])
    go true = refl
    go false = refl

-- with one line more they still do
alike_more : (seats : ℕ) (before : List Entry) (front : List (ℕ × Outcome)) (line : ℕ × Outcome) →
    Alike before front → Alike (before ++ call (line_of seats line) ∷ []) (front ++ line ∷ [])
alike_more seats before front line alike seat =
    sum_by_push (λ e. one_if (is_answered_by seat e)) before (call (line_of seats line))
    ∙ omega (arith, alike seat, one_answer seats seat line, longer)
    ∙ sym (ap length (answered_by-append seat front (line ∷ [])))
  where
    longer : length (answered_by seat front ++ answered_by seat (line ∷ []))
        ≡ length (answered_by seat front) + length (answered_by seat (line ∷ []))
    longer = length-append (answered_by seat front) (answered_by seat (line ∷ []))

-- the seat's answered calls, of which this is the next
pub answered_here : (seat : ℕ) (r : Record) (front rest : List (ℕ × Outcome)) →
    answered_by seat (front ++ (seat, Answered r) ∷ rest) ≡ answered_by seat front ++ r ∷ answered_by seat rest
answered_here seat r front rest =
    answered_by-append seat front ((seat, Answered r) ∷ rest)
    ∙ ap (λ (b : Bool). answered_by seat front ++ (cond b (r ∷ []) [] ++ answered_by seat rest)) (eq-eqb seat seat refl)

module _ (seats : ℕ) (whole : List (ℕ × Outcome)) (counted : AreCountedBySeat whole) where
  -- the call of a line is told as it is
  one_told : (before : List Entry) (front rest : List (ℕ × Outcome)) (line : ℕ × Outcome) →
      whole ≡ front ++ line ∷ rest → Alike before front →
      record_told before (call (line_of seats line)) ≡ map (plain seats) (record_in line.1)
  one_told before front rest (seat, Answered r) cut alike =
      let is = counted seat (answered_by seat front) (answered_by seat rest) r
      (ap (answered_by seat) cut ∙ answered_here seat r front rest) in
      let number : suc (answers_of seat before) ≡ r.number = omega (arith, is.0, alike seat) in
      ap (λ (n : ℕ). with_name seat n) number ∙ ap (λ (s : ℕ). with_name s r.number) (sym is.1)
    where
      with_name : ℕ → ℕ → List Record
      with_name s n = record (plain seats r) { seat = s; number = n } ∷ []
  one_told before front rest (seat, Refused packet asked full) cut alike = refl

  -- so are the calls of more lines
  lines_told : (before : List Entry) (front lines later : List (ℕ × Outcome)) →
      whole ≡ front ++ (lines ++ later) → Alike before front →
      (records_behind before (map (λ line. call (line_of seats line)) lines) ≡ map (plain seats) (answered_on lines))
      × Alike (before ++ map (λ line. call (line_of seats line)) lines) (front ++ lines)
  lines_told before front [] later cut alike = (
    refl,
    λ seat. ap (answers_of seat) (append-nil before) ∙ alike seat
        ∙ ap (λ (xs : List (ℕ × Outcome)). length (answered_by seat xs)) (sym (append-nil front)),
  )
  lines_told before front (line ∷ lines) later cut alike =
      let regroup : front ++ (line ∷ (lines ++ later)) ≡ (front ++ line ∷ []) ++ (lines ++ later) =
      sym (append_assoc front (line ∷ []) (lines ++ later)) in
      let next = lines_told (before ++ call (line_of seats line) ∷ []) (front ++ line ∷ []) lines later
      (cut ∙ regroup) (alike_more seats before front line alike) in (
        ap (λ (rs : List Record). rs
            ++ records_behind (before ++ call (line_of seats line) ∷ []) (map (λ l. call (line_of seats l)) lines))
            (one_told before front (lines ++ later) line cut alike)
            ∙ ap (λ (rs : List Record). map (plain seats) (record_in line.1) ++ rs) next.0
            ∙ sym (map-append (plain seats) (record_in line.1) (answered_on lines)),
        λ seat. ap (answers_of seat) (sym (append_assoc before (call (line_of seats line) ∷ [])
            (map (λ l. call (line_of seats l)) lines))) ∙ next.1 seat
            ∙ ap (λ (xs : List (ℕ × Outcome)). length (answered_by seat xs)) (append_assoc front (line ∷ []) lines),
      )

  -- behind the calls that ended a batch has silent lines
  silent_in : (batch : Batch) → AllByRecursion IsSilent (waits_in seats batch ++ orders_in batch)
  silent_in batch =
      joined_all IsSilent (waits_in seats batch) (orders_in batch)
      (mapped IsSilent (λ u. pending (waiting_of seats u)) batch.pending
      (always (λ u. IsSilent (pending (waiting_of seats u))) (λ u. tt) batch.pending))
      (mapped IsSilent (λ ids. order (packets_of ids)) (chunks_in batch.order)
      (always (λ ids. IsSilent (order (packets_of ids))) (λ ids. tt) (chunks_in batch.order)))

  -- the lines of a batch, those that answer no call too
  batch_told : (before : List Entry) (front later : List (ℕ × Outcome)) (batch : Batch) →
      whole ≡ front ++ (batch.outcomes ++ later) → Alike before front →
      (records_behind before (entries_of seats batch) ≡ map (plain seats) (answered_on batch.outcomes))
      × Alike (before ++ entries_of seats batch) (front ++ batch.outcomes)
  batch_told before front later batch cut alike =
      let ends = lines_told before front batch.outcomes later cut alike in
      let others : List Entry = waits_in seats batch ++ orders_in batch in (
        records-append before (calls_in seats batch) others
            ∙ ap (λ (rs : List Record). rs ++ records_behind (before ++ calls_in seats batch) others) ends.0
            ∙ ap (λ (rs : List Record). map (plain seats) (answered_on batch.outcomes) ++ rs)
            (silent_records (before ++ calls_in seats batch) others (silent_in batch))
            ∙ append-nil (map (plain seats) (answered_on batch.outcomes)),
        λ seat. ap (answers_of seat) (sym (append_assoc before (calls_in seats batch) others))
            ∙ omega (
              arith,
              answers-append seat (before ++ calls_in seats batch) others,
              silent_answers seat others (silent_in batch),
              ends.1 seat,
            ),
      )

  -- and the lines of all batches
  batches_told : (before : List Entry) (front : List (ℕ × Outcome)) (batches : List Batch) →
      whole ≡ front ++ flat_map (λ batch. batch.outcomes) batches → Alike before front →
      (records_behind before (flat_map (entries_of seats) batches)
      ≡ map (plain seats) (answered_on (flat_map (λ batch. batch.outcomes) batches)))
      × Alike (before ++ flat_map (entries_of seats) batches) (front ++ flat_map (λ batch. batch.outcomes) batches)
  batches_told before front [] cut alike = (
    refl,
    λ seat. ap (answers_of seat) (append-nil before) ∙ alike seat
        ∙ ap (λ (xs : List (ℕ × Outcome)). length (answered_by seat xs)) (sym (append-nil front)),
  )
  batches_told before front (batch ∷ batches) cut alike =
      let later : List (ℕ × Outcome) = flat_map (λ b. b.outcomes) batches in
      let es : List Entry = flat_map (entries_of seats) batches in
      let here = batch_told before front later batch cut alike in
      let next = batches_told (before ++ entries_of seats batch) (front ++ batch.outcomes) batches
      (cut ∙ sym (append_assoc front batch.outcomes later)) here.1 in (
        records-append before (entries_of seats batch) es
            ∙ ap (λ (rs : List Record). rs ++ records_behind (before ++ entries_of seats batch) es) here.0
            ∙ ap (λ (rs : List Record). map (plain seats) (answered_on batch.outcomes) ++ rs) next.0
            ∙ sym (map-append (plain seats) (answered_on batch.outcomes) (answered_on later))
            ∙ ap (map (plain seats)) (sym (flat_map-append (λ (l : ℕ × Outcome). record_in l.1) batch.outcomes later)),
        λ seat. ap (answers_of seat) (sym (append_assoc before (entries_of seats batch) es)) ∙ next.1 seat
            ∙ ap (λ (xs : List (ℕ × Outcome)). length (answered_by seat xs))
            (append_assoc front batch.outcomes later),
      )

-- ---- the calls

-- no lines answer no calls
none_before : Alike [] []
none_before seat = refl

module _ (report : Report) (counted : AreCountedBySeat (ended_in report)) where
  -- the answered calls of the report, and how many a seat has
  all_told : (records_behind [] (flat_map (entries_of report.head.seats) report.batches)
      ≡ map (plain report.head.seats) (answered_on (ended_in report)))
      × Alike (flat_map (entries_of report.head.seats) report.batches) (ended_in report)
  all_told = batches_told report.head.seats (ended_in report) counted [] [] report.batches refl none_before

  -- the answered calls
  pub records_are : records_told (told_of report) ≡ map (plain report.head.seats) (answered_on (ended_in report))
  records_are = all_told.0

  -- how many calls of a seat are answered
  pub answers_are : (seat : ℕ) →
      answers_of seat (told_of report).entries ≡ length (answered_by seat (ended_in report))
  answers_are seat = all_told.1 seat

-- a call under way is its seat's next
abbrev IsNext : List Entry → Pending → Type 0
IsNext all u = u.number ≡ suc (answers_of u.seat all)

-- calls under way are told as they are
waits_told : (all : List Entry) (seats : ℕ) (us : List Pending) → AllByRecursion (IsNext all) us →
    flat_map (pending_in all) (map (λ u. pending (waiting_of seats u)) us) ≡ map (begun seats) us
waits_told all seats [] next = refl
waits_told all seats (u ∷ us) next =
    ap (λ (n : ℕ). with_number n ∷ flat_map (pending_in all) (map (λ v. pending (waiting_of seats v)) us)) (sym next.0)
    ∙ ap (λ (vs : List Pending). begun seats u ∷ vs) (waits_told all seats us next.1)
  where
    with_number : ℕ → Pending
    with_number n = record (begun seats u) { number = n }

-- lines of other kinds make none
pub none_made : {A B : Type 0} (f : Entry → List B) (made : A → Entry) → ((x : A) → f (made x) ≡ []) → (xs : List A) →
    flat_map f (map made xs) ≡ []
none_made f made none [] = refl
none_made f made none (x ∷ xs) =
    ap (λ ys. ys ++ flat_map f (map made xs)) (none x) ∙ none_made f made none xs

-- those of a batch
waits_in_batch : (all : List Entry) (seats : ℕ) (batch : Batch) → AllByRecursion (IsNext all) batch.pending →
    flat_map (pending_in all) (entries_of seats batch) ≡ map (begun seats) batch.pending
waits_in_batch all seats batch next =
    by_kind (pending_in all) seats batch
    ∙ ap (λ (us : List Pending). us ++ (flat_map (pending_in all) (waits_in seats batch)
    ++ flat_map (pending_in all) (orders_in batch)))
    (none_made (pending_in all) (λ (line : ℕ × Outcome). call (line_of seats line)) (λ line. refl) batch.outcomes)
    ∙ ap (λ (us : List Pending). flat_map (pending_in all) (waits_in seats batch) ++ us)
    (none_made (pending_in all) (λ ids. order (packets_of ids)) (λ ids. refl) (chunks_in batch.order))
    ∙ append-nil (flat_map (pending_in all) (waits_in seats batch))
    ∙ waits_told all seats batch.pending next

-- and those of each batch
waits_by_batch : (all : List Entry) (seats : ℕ) (batches : List Batch) →
    AllByRecursion (IsNext all) (flat_map (λ batch. batch.pending) batches) →
    AllByRecursion (λ (b : Batch). flat_map (pending_in all) (entries_of seats b) ≡ map (begun seats) b.pending) batches
waits_by_batch all seats [] next = tt
waits_by_batch all seats (batch ∷ batches) next =
    let both = both_parts (IsNext all) batch.pending (flat_map (λ b. b.pending) batches) next in
    (waits_in_batch all seats batch both.0, waits_by_batch all seats batches both.1)

-- the calls under way
pub waits_are : (report : Report) →
    AllByRecursion (λ (u : Pending). u.number ≡ suc (answers_of u.seat (told_of report).entries)) (begun_in report) →
    pending_told (told_of report) ≡ map (begun report.head.seats) (begun_in report)
waits_are report next =
    by_batch (pending_in (told_of report).entries) (λ b. map (begun report.head.seats) b.pending) report.head.seats
    report.batches (waits_by_batch (told_of report).entries report.head.seats report.batches next)
    ∙ sym (map_joined (begun report.head.seats) (λ (b : Batch). b.pending) report.batches)
