use Rattle.std.proofs.Common.{arith}
use Rattle.std.proofs.lemmas.Fmt.{length-decimal-le}
use Rattle.std.proofs.lemmas.List.{get_or_past}
use Rattle.batch_history.proofs.GoneOn.{index_with}
use Rattle.report_text.proofs.CountLemmas.{length-with_counts}
use Rattle.report_text.proofs.calls.count_on.Goals as goal

pub returns-in-Some-clause-count : goal.returns-in-Some-clause-count
returns-in-Some-clause-count c =
    omega (
      arith,
      index_with c.args.before.now c.args.seen.now.counts c.args.seat,
      c.from.ensures,
      c.from-count.ensures,
      c.in-Some.ensures.lookup.3.1 0,
    )

pub returns-in-Some-clause-short : goal.returns-in-Some-clause-short
returns-in-Some-clause-short c = length-decimal-le 10 _ (omega (arith, c.type_inv)) (omega arith) (omega arith)

pub returns-in-None-clause-count : goal.returns-in-None-clause-count
returns-in-None-clause-count c =
    omega (
      arith,
      index_with c.args.before.now c.args.seen.now.counts c.args.seat,
      c.from-count.ensures,
      get_or_past c.args.before.now c.args.seat 0 c.in-None.ensures.lookup.3,
    )

pub returns-in-None-clause-short : goal.returns-in-None-clause-short
returns-in-None-clause-short c = length-decimal-le 10 _ (omega arith) (omega arith) (omega arith)

pub returns-in-Some-clause-known : goal.returns-in-Some-clause-known
returns-in-Some-clause-known c = omega (arith, length-with_counts c.args.before.now c.args.seen.now.counts, c.type_inv)

pub returns-in-None-clause-known : goal.returns-in-None-clause-known
returns-in-None-clause-known c = omega (arith, length-with_counts c.args.before.now c.args.seen.now.counts, c.type_inv)
