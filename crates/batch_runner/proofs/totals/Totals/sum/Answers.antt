use Rattle.std.proofs.Common.{◌≡◌, ℕ, ◌+◌, ◌<◌, List, [], length, take, get_or, sym, ap, ◌∙◌, arith, length-append}
use Rattle.std.proofs.lemmas.List.{take_all}
use Rattle.trace_share.specs.declared.outcome.Outcome.{Outcome}
use Rattle.batch_runner.specs.Totals.{totals_of}
use Rattle.batch_runner.proofs.Kept.{all_in, as_many_totals, few_in, total_at, with_log}
use Rattle.batch_runner.proofs.totals.Totals.sum.Goals as goal

pub add-requires : goal.add-requires
add-requires c =
    let i : ℕ = c.loop-more.more-index in
    let logs : List (List Outcome) = c.requires.few.0 in
    let are = c.requires.few.1 in
    let inside : i < length logs = omega (arith, as_many_totals c.args.each.now logs are, c.loop-more-test.true) in
    let next : length (all_in (take (i + 1) logs)) ≡ length (all_in (take i logs)) + length (get_or logs i []) =
    ap length (with_log logs i inside) ∙ length-append (all_in (take i logs)) (get_or logs i []) in
    record {
      all = (
        all_in (take i logs),
        c.loop-more.invariant logs are,
        omega (arith, few_in logs i, c.requires.few.2),
      );
      more = (
        get_or logs i [],
        total_at c.args.each.now logs i _ are c.loop-more-test.true,
        omega (arith, next, few_in logs (i + 1), c.requires.few.2),
      );
    }

pub loop-more-preserved : goal.loop-more-preserved
loop-more-preserved c = λ logs are.
    let i : ℕ = c.loop-more.more-index in
    let inside : i < length logs = omega (arith, as_many_totals c.args.each.now logs are, c.loop-more-test.true) in
    c.add.ensures.totals (all_in (take i logs)) (get_or logs i []) (c.loop-more.invariant logs are)
    (total_at c.args.each.now logs i _ are c.loop-more-test.true)
    ∙ ap totals_of (sym (with_log logs i inside))

pub returns : goal.returns
returns c = λ logs are.
    let i : ℕ = c.loop-more.more-index in
    c.loop-more.invariant logs are
    ∙ ap (λ (ls : List (List Outcome)). totals_of (all_in ls))
    (take_all i logs (omega (arith, as_many_totals c.args.each.now logs are, c.loop-more-test.false)))
