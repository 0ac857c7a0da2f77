-- The batch is told, and goes on with what is kept.
use Rattle.std.proofs.Common.{◌≡◌, ◌+◌, ◌≤◌, ℕ, List, ◌++◌, Vec, Global, length, map, refl, sym, ap, subst, ◌∙◌, arith, length-append}
use Rattle.std.specs.Prelude.{All, flat_map}
use Rattle.std.specs.List.{range_with_len}
use Rattle.std.proofs.lemmas.List.Elements.{All-append}
use Rattle.sim_steps.specs.declared.adds.Added.{Added}
use Rattle.sim_steps.specs.Order.{Entry}
use Rattle.sim_totals.specs.declared.table.ClosedTotals.{ClosedTotals}
use Rattle.sim_totals.specs.Values.{TableValue}
use Rattle.plain_map.specs.declared.records.CallId.{CallId}
use Rattle.report_text.specs.Report.{order_lines}
use Rattle.totals_runner.specs.Adds.{add_line, added_on}
use Rattle.totals_runner.specs.declared.batch.Dealt.{Dealt}
use Rattle.totals_runner.specs.declared.counting.Counting.{Counting}
use Rattle.totals_runner.specs.Counted.{Counted}
use Rattle.totals_runner.specs.Frames.{frames_by}
use Rattle.totals_runner.specs.Batch.{IsEntry, id_in}
use Rattle.totals_runner.specs.Opened.{IsOpened}
use Rattle.totals_runner.proofs.KeptLemmas.{batch_make, lines_are, then_before, then_counted, then_make, then_many, then_most, then_totals}
use Rattle.totals_runner.proofs.OpenedLemmas.{Run, answers_long, before_few, counts_few, counts_long, entries_of, kept_many, listed, many_logs, run_is, seats_turn, shares_long, through}
use Rattle.totals_runner.proofs.counting.Counting.close_batch.Goals as goal

-- the slice of logs is that of the logs
same_logs : (slice logs : List (Vec Added Global)) → slice ≡ logs → listed slice ≡ listed logs
same_logs slice logs same = ap listed same

pub end_table-requires : goal.end_table-requires
end_table-requires c =
    let going = c.requires.going in
    let job : Counting = c.args.self.now in
    let o : IsOpened job c.args.table going.0 c.args.dealt.now job.packets going.2 = going.4 in (
      _,
      through job c.args.table going.0 c.args.dealt.now job.packets going.2 o c.args.workers.items going.5,
      shares_long job c.args.table going.0 c.args.dealt.now job.packets going.2 o,
    )

pub ids_of-requires : goal.ids_of-requires
ids_of-requires c =
    let going = c.requires.going in
    let job : Counting = c.args.self.now in
    let t : TableValue = c.args.table in
    let o : IsOpened job t going.0 c.args.dealt.now job.packets going.2 = going.4 in
    let logs : List (Vec Added Global) = c.in_ok-logs.logs.items in
    let closed : ClosedTotals = c.in_ok-logs.closed in
    let run : Run job o.frames (listed logs) closed =
    run_is job t going.0 c.args.dealt.now job.packets going.2 o c.args.workers.items going.5 (listed logs) closed
    c.in_ok-logs.ensures in
    let are : All (IsEntry (listed logs)) closed.order.items =
    entries_of job going.1 going.3 t going.0 c.args.dealt.now going.2 o going.6 (listed logs) closed run in
    subst (λ (es : List Entry). All (IsEntry (listed c.deref.result.now)) es) (sym c.deref-2.ensures.value)
    (subst (λ (ls : List (Vec Added Global)). All (IsEntry (listed ls)) closed.order.items) (sym c.deref.ensures.value)
    are)

pub put_adds-requires-clause-some : goal.put_adds-requires-clause-some
put_adds-requires-clause-some c =
    let going = c.requires.going in
    let job : Counting = c.args.self.now in
    let o : IsOpened job c.args.table going.0 c.args.dealt.now job.packets going.2 = going.4 in
    let logs : List (Vec Added Global) = c.in_ok-logs.logs.items in
    let run : Run job o.frames (listed logs) c.in_ok-logs.closed =
    run_is job c.args.table going.0 c.args.dealt.now job.packets going.2 o c.args.workers.items going.5 (listed logs)
    c.in_ok-logs.closed c.in_ok-logs.ensures in
    let many = many_logs job going.1 going.3 c.args.table going.0 c.args.dealt.now going.2 o going.6 (listed logs)
    c.in_ok-logs.closed run c.deref-3.result.now (same_logs c.deref-3.result.now logs c.deref-3.ensures.value) in
    omega (arith, many, job.some)

pub put_adds-requires-clause-few : goal.put_adds-requires-clause-few
put_adds-requires-clause-few c =
    let going = c.requires.going in
    let job : Counting = c.args.self.now in
    let o : IsOpened job c.args.table going.0 c.args.dealt.now job.packets going.2 = going.4 in
    let logs : List (Vec Added Global) = c.in_ok-logs.logs.items in
    let run : Run job o.frames (listed logs) c.in_ok-logs.closed =
    run_is job c.args.table going.0 c.args.dealt.now job.packets going.2 o c.args.workers.items going.5 (listed logs)
    c.in_ok-logs.closed c.in_ok-logs.ensures in
    let many = many_logs job going.1 going.3 c.args.table going.0 c.args.dealt.now going.2 o going.6 (listed logs)
    c.in_ok-logs.closed run c.deref-3.result.now (same_logs c.deref-3.result.now logs c.deref-3.ensures.value) in
    omega (arith, many, job.few)

pub put_adds-requires-clause-turns : goal.put_adds-requires-clause-turns
put_adds-requires-clause-turns c =
    let going = c.requires.going in
    let job : Counting = c.args.self.now in
    let o : IsOpened job c.args.table going.0 c.args.dealt.now job.packets going.2 = going.4 in
    let logs : List (Vec Added Global) = c.in_ok-logs.logs.items in
    let run : Run job o.frames (listed logs) c.in_ok-logs.closed =
    run_is job c.args.table going.0 c.args.dealt.now job.packets going.2 o c.args.workers.items going.5 (listed logs)
    c.in_ok-logs.closed c.in_ok-logs.ensures in (
      run.batch.answers,
      answers_long job going.1 going.3 c.args.table going.0 c.args.dealt.now going.2 o going.6 (listed logs)
          c.in_ok-logs.closed run,
      seats_turn job going.1 going.3 c.args.table going.0 c.args.dealt.now going.2 o going.6 (listed logs)
          c.in_ok-logs.closed run c.deref-3.result.now
          (same_logs c.deref-3.result.now logs c.deref-3.ensures.value),
    )

pub put_counts-requires-clause-seats : goal.put_counts-requires-clause-seats
put_counts-requires-clause-seats c =
    let going = c.requires.going in
    let job : Counting = c.args.self.now in
    omega (
      arith,
      ap (λ (xs : List ℕ). length xs) c.deref-5.ensures.value,
      counts_long job c.args.table going.0 c.args.dealt.now job.packets going.2 going.4,
      job.few,
    )

pub put_counts-requires-clause-few : goal.put_counts-requires-clause-few
put_counts-requires-clause-few c =
    let going = c.requires.going in
    let job : Counting = c.args.self.now in
    subst (All (λ (count : ℕ). count ≤ 4000000)) (sym c.deref-5.ensures.value)
    (counts_few job c.args.table going.0 c.args.dealt.now job.packets going.2 going.4 (omega (arith, going.6)))

pub put_counts-requires-clause-before : goal.put_counts-requires-clause-before
put_counts-requires-clause-before c = λ seat less.
    let going = c.requires.going in
    let job : Counting = c.args.self.now in
    before_few job going.1 going.3 going.2 going.6 seat
    (omega (
      arith,
      less,
      ap (λ (xs : List ℕ). length xs) c.deref-5.ensures.value,
      counts_long job c.args.table going.0 c.args.dealt.now job.packets going.2 going.4,
    ))

pub overflow_add-self : goal.overflow_add-self
overflow_add-self c =
    let going = c.requires.going in
    let o : IsOpened c.args.self.now c.args.table going.0 c.args.dealt.now c.args.self.now.packets going.2 = going.4 in
    omega (arith, o.many, going.6)

pub returns-clause-counted : goal.returns-clause-counted
returns-clause-counted c = λ started batches packets kept o zip.
    let job : Counting = c.args.self.now in
    let t : TableValue = c.args.table in
    let dealt : Dealt = c.args.dealt.now in
    let going = c.requires.going in
    let old : IsOpened job t going.0 dealt job.packets going.2 = going.4 in
    let few : job.packets + length packets ≤ 4000000 = omega (arith, going.6, old.many, o.many) in
    let logs : List (Vec Added Global) = c.in_ok-logs.logs.items in
    let closed : ClosedTotals = c.in_ok-logs.closed in
    let run : Run job o.frames (listed logs) closed =
    run_is job t started dealt job.packets packets o c.args.workers.items zip (listed logs) closed
    c.in_ok-logs.ensures in
    let batch : Counted = run.batch in
    let of = run.of in
    let before : ℕ = job.packets in
    let at = kept_many job batches kept in
    let long = answers_long job batches kept t started dealt packets o few (listed logs) closed run in
    let slice : List (Vec Added Global) = c.deref-3.result.now in
    let same : listed slice ≡ listed logs = same_logs slice logs c.deref-3.ensures.value in
    let many : length slice ≡ job.seats =
    many_logs job batches kept t started dealt packets o few (listed logs) closed run slice same in
    let told = c.in_ok-self.ensures batch.answers long
    (seats_turn job batches kept t started dealt packets o few (listed logs) closed run slice same) in
    let adds : c.put_adds.new.text.items
    ≡ c.args.text.now.items
    ++ flat_map (λ (a : Added). add_line job.seats (added_on job.before a)) batch.answers =
    told.0
    ∙ ap (λ (n : ℕ). c.args.text.now.items
    ++ flat_map (λ (a : Added). add_line n (added_on job.before a)) batch.answers) many in
    let ids : c.in_ok-ids.ids.items ≡ map (id_in (listed logs)) closed.order.items =
    c.in_ok-ids.ensures
    ∙ ap (λ (ls : List (Vec Added Global)). map (id_in (listed ls)) c.deref-2.result.now) c.deref.ensures.value
    ∙ ap (map (id_in (listed logs))) c.deref-2.ensures.value in
    let counts : c.deref-5.result.now
    ≡ map (λ (seat : ℕ). length (frames_by job.seats seat o.frames)) (range_with_len 0 job.seats) =
    c.deref-5.ensures.value ∙ o.counts in
    let more : job.packets + dealt.many ≡ job.packets + length packets = ap (λ (n : ℕ). job.packets + n) o.many in (
      batch,
      batch_make job batches kept before at packets few o.frames o.are (listed logs) closed batch of,
      record {
        counted = then_counted job batches kept before at packets few o.frames o.are (listed logs) closed batch of;
        before = then_before job batches kept before at packets few o.frames o.are (listed logs) closed batch of
            c.put_counts.new.sums c.deref-5.result.now c.put_counts.ensures counts;
        totals = then_totals job batches kept before at packets few o.frames o.are (listed logs) closed batch of;
        most = then_most job batches kept before at packets few o.frames o.are (listed logs) closed batch of
            c.in_ok-self.field-0 told.1;
        packets = kept.packets ++ packets;
        many =
            then_many job batches kept before at packets few o.frames o.are (listed logs) closed batch of refl _ more;
        make = then_make job batches kept before at packets few o.frames o.are (listed logs) closed batch of;
        short = All-append (λ (packet : List ℕ). length packet ≤ 262144) kept.packets packets kept.short o.short;
        few_packets = omega (arith, length-append kept.packets packets, kept.many, few);
      },
      more,
      lines_are job batches kept before at packets few o.frames o.are (listed logs) closed batch of
          c.args.text.now.items c.put_adds.new.text.items c.order_text.new.out.items c.in_ok-ids.ids.items adds
          (c.in_ok-order_text.ensures.appended
          ∙ ap (λ (xs : List CallId). c.put_adds.new.text.items ++ order_lines xs) c.deref-4.ensures.value) ids,
    )
