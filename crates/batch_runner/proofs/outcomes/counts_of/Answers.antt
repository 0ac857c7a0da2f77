use Rattle.std.proofs.Common.{ℕ, ◌<◌, ◌^◌, List, [], ◌∷◌, ◌++◌, length, map, take, get_or, sym, ap, ◌∙◌, arith}
use Rattle.std.proofs.lemmas.List.{map-append, take_all, take_more}
use Rattle.std.proofs.lemmas.List.Elements.{All-get_or}
use Rattle.trace_share.specs.declared.outcome.Outcome.{Outcome}
use Rattle.trace_share.specs.Outcomes.{records_in}
use Rattle.batch_runner.specs.declared.totals.Totals.{Totals}
use Rattle.batch_runner.specs.Totals.{totals_of}
use Rattle.batch_runner.proofs.Kept.{answered_by, as_many_totals, total_at}
use Rattle.batch_runner.proofs.outcomes.counts_of.Goals as goal

pub overflow_sub-totals : goal.overflow_sub-totals
overflow_sub-totals c =
    let i : ℕ = c.loop-totals.totals-index in
    let logs : List (List Outcome) = c.requires.few.0 in
    (answered_by _ (get_or logs i [])
    (total_at c.args.each.now logs i _ c.requires.few.1 c.loop-totals-test.true)).0

pub overflow_cast-totals : goal.overflow_cast-totals
overflow_cast-totals c =
    let i : ℕ = c.loop-totals.totals-index in
    let logs : List (List Outcome) = c.requires.few.0 in
    let inside : i < length logs =
    omega (arith, as_many_totals c.args.each.now logs c.requires.few.1, c.loop-totals-test.true) in
    let totals : Totals = get_or c.args.each.now i (totals_of []) in
    let it = answered_by totals (get_or logs i [])
    (total_at c.args.each.now logs i (totals_of []) c.requires.few.1 c.loop-totals-test.true) in
    let few : length (get_or logs i []) < 2 ^ 32 =
    All-get_or (λ (log : List Outcome). length log < 2 ^ 32) logs i [] inside c.requires.few.2 in
    omega (arith, few, it.1)

pub loop-totals-preserved : goal.loop-totals-preserved
loop-totals-preserved c = λ logs are.
    let i : ℕ = c.loop-totals.totals-index in
    let count : List Outcome → ℕ = λ (log : List Outcome). length (records_in log) in
    let inside : i < length logs = omega (arith, as_many_totals c.args.each.now logs are, c.loop-totals-test.true) in
    let it = answered_by _ (get_or logs i []) (total_at c.args.each.now logs i _ are c.loop-totals-test.true) in
    c.in_ok-push.ensures.items
    ∙ (λ j. c.loop-totals.invariant logs are j ++ it.2 j ∷ [])
    ∙ sym (map-append count (take i logs) (get_or logs i [] ∷ []))
    ∙ ap (map count) (sym (take_more logs i [] inside))

pub returns : goal.returns
returns c = λ logs are.
    let i : ℕ = c.loop-totals.totals-index in
    let count : List Outcome → ℕ = λ (log : List Outcome). length (records_in log) in
    c.loop-totals.invariant logs are
    ∙ ap (map count)
    (take_all i logs (omega (arith, as_many_totals c.args.each.now logs are, c.loop-totals-test.false)))
