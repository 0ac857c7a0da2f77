-- What a batch came to that was opened, and whose workers are through.
use Rattle.std.proofs.Common.{◌≡◌, ◌+◌, ◌≤◌, ◌<◌, ℕ, List, Vec, Global, length, map, get_or, sym, ap, subst, ◌∙◌, arith}
use Rattle.std.specs.Prelude.{All, slice_index}
use Rattle.std.specs.List.{AllZip, range_with_len}
use Rattle.std.proofs.lemmas.List.{length-map}
use Rattle.std.proofs.lemmas.List.Elements.{All-map}
use Rattle.std.proofs.lemmas.List.FromFn.{length-map-range_with_len}
use Rattle.sim_steps.specs.declared.adds.Added.{Added}
use Rattle.sim_steps.specs.Layout.{Settings, seats_of}
use Rattle.sim_totals.specs.declared.table.ClosedTotals.{ClosedTotals}
use Rattle.sim_totals.specs.Values.{AdderValue, Ran, TableValue}
use Rattle.packet_adders.specs.declared.frames.Frame.{Frame}
use Rattle.packet_adders.specs.declared.workers.AddWorker.{AddWorker}
use Rattle.packet_adders.specs.Work.{IsDone}
use Rattle.totals_runner.specs.declared.batch.Dealt.{Dealt}
use Rattle.totals_runner.specs.declared.counting.Counting.{Counting}
use Rattle.totals_runner.specs.Batch.{AreInTurn, IsEntry, IsOfRun}
use Rattle.totals_runner.specs.Counted.{Counted}
use Rattle.totals_runner.specs.Frames.{frames_by, shares_in}
use Rattle.totals_runner.specs.Opened.{IsOpened}
use Rattle.totals_runner.specs.Printed.{adds_on}
use Rattle.totals_runner.specs.Seats.{AreThrough, HaveAdded}
use Rattle.totals_runner.specs.Told.{HasCounted}
use Rattle.totals_runner.proofs.BatchLemmas.{few_by, of_run}
use Rattle.totals_runner.proofs.KeptLemmas.{answers_in_turn, batch_long, entries_are, few_before, frames_many}
use Rattle.totals_runner.proofs.Named.{make_length}
use Rattle.totals_runner.proofs.SeatLemmas.{all_through}

-- the logs, as lists
abbrev pub listed : List (Vec Added Global) → List (List Added)
listed logs = map (λ (log : Vec Added Global). log.items) logs

-- as many adds as packets
pub kept_many : (counting : Counting) (batches : List Counted) (kept : HasCounted counting batches) →
    length (adds_on batches) ≡ counting.packets
kept_many counting batches kept = make_length counting.framing 1 kept.packets (adds_on batches) kept.make ∙ sym
    kept.many

-- a batch that was run, of these frames
pub record Run (counting : Counting) (frames : List Frame) (logs : List (List Added)) (closed : ClosedTotals) :
    Type 0 where
  pub batch : Counted
  pub of : IsOfRun counting.seats counting.totals frames logs closed batch

module _ (job : Counting) (t : TableValue) (started : List AddWorker) (dealt : Dealt) (before : ℕ)
    (packets : List (List ℕ)) (o : IsOpened job t started dealt before packets) where
  -- workers that are done are through with their shares
  pub through : (ws : List AddWorker) → AllZip (IsDone t) started ws → AreThrough t 0 (shares_in job.seats o.frames) ws
  through ws zip = all_through t 0 (shares_in job.seats o.frames) started ws o.room o.fresh zip

  -- there is a share for each seat of the table
  pub shares_long : length (shares_in job.seats o.frames) ≡ seats_of t.settings
  shares_long =
      length-map-range_with_len (λ (seat : ℕ). frames_by job.seats seat o.frames) 0 job.seats
      ∙ sym (ap (λ (s : Settings). seats_of s) o.settings
      ∙ length-map-range_with_len (λ (seat : ℕ). length (frames_by job.seats seat o.frames)) 0 job.seats)

  -- so the batch was run
  pub run_is : (ws : List AddWorker) → AllZip (IsDone t) started ws → (logs : List (List Added))
      (closed : ClosedTotals) →
      ((shares : List (List Frame)) → AreThrough t 0 shares ws →
      (adders : List AdderValue) × HaveAdded t 0 shares adders logs
      × Ran t.settings closed.totals closed.order.items adders) → Run job o.frames logs closed
  run_is ws zip logs closed ended =
      let got = ended (shares_in job.seats o.frames) (through ws zip) in
      let one = of_run job.seats (omega (arith, job.some)) t job.totals o.frames got.0 logs closed o.settings o.ok got.1
      got.2 in
      record { batch = one.0; of = one.1 }

  -- how many each seat adds
  pub counts_long : length dealt.counts.items ≡ job.seats
  counts_long =
      ap (λ (xs : List ℕ). length xs) o.counts
      ∙ length-map-range_with_len (λ (seat : ℕ). length (frames_by job.seats seat o.frames)) 0 job.seats

  -- no seat adds more than there are
  share_few : (seat : ℕ) → length packets ≤ 4000000 → length (frames_by job.seats seat o.frames) ≤ 4000000
  share_few seat few =
      omega (
        arith,
        few_by job.seats seat o.frames,
        frames_many job.framing (job.packets + 1) packets o.frames o.are,
        few,
      )

  pub counts_few : length packets ≤ 4000000 → All (λ (count : ℕ). count ≤ 4000000) dealt.counts.items
  counts_few few =
      subst (All (λ (count : ℕ). count ≤ 4000000)) (sym o.counts)
      (All-map (λ (count : ℕ). count ≤ 4000000) (λ (seat : ℕ). length (frames_by job.seats seat o.frames))
      (range_with_len 0 job.seats)
      (λ k d less. share_few (get_or (range_with_len 0 job.seats) k d) few))

-- what is known of its answers
module _ (job : Counting) (batches : List Counted) (kept : HasCounted job batches) (t : TableValue)
    (started : List AddWorker) (dealt : Dealt) (packets : List (List ℕ))
    (o : IsOpened job t started dealt job.packets packets) (few : job.packets + length packets ≤ 4000000)
    (logs : List (List Added)) (closed : ClosedTotals) (run : Run job o.frames logs closed) where
  pub entries_of : All (IsEntry logs) closed.order.items
  entries_of =
      entries_are job batches kept job.packets (kept_many job batches kept) packets few o.frames o.are logs closed
      run.batch run.of

  pub answers_long : length run.batch.answers ≡ dealt.many
  answers_long =
      batch_long job batches kept job.packets (kept_many job batches kept) packets few o.frames o.are logs closed
      run.batch run.of ∙ sym o.many

  -- the logs that are looked at are of as many seats
  pub many_logs : (slice : List (Vec Added Global)) → listed slice ≡ logs → length slice ≡ job.seats
  many_logs slice same =
      sym (length-map slice (λ (log : Vec Added Global). log.items))
      ∙ ap (λ (ls : List (List Added)). length ls) same ∙ run.of.as_many

  -- which take turns
  pub seats_turn : (slice : List (Vec Added Global)) → listed slice ≡ logs →
      AreInTurn (length slice) dealt.before (listed slice) run.batch.answers
  seats_turn slice same =
      subst (λ (n : ℕ). AreInTurn n dealt.before (listed slice) run.batch.answers) (sym (many_logs slice same))
      (subst (λ (n : ℕ). AreInTurn job.seats n (listed slice) run.batch.answers) (sym o.behind)
      (subst (λ (ls : List (List Added)). AreInTurn job.seats job.packets ls run.batch.answers) (sym same)
      (answers_in_turn job batches kept job.packets (kept_many job batches kept) packets few o.frames o.are logs closed
      run.batch run.of)))

-- no seat has made more adds than there are
pub before_few : (job : Counting) (batches : List Counted) (kept : HasCounted job batches) (packets : List (List ℕ)) →
    job.packets + length packets ≤ 4000000 → (seat : ℕ) → seat < job.seats → slice_index job.before seat ≤ 4000000
before_few job batches kept packets few seat less =
    few_before job batches kept (omega (arith, kept_many job batches kept, few)) seat less
