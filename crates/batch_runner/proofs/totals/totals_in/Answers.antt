use Rattle.std.proofs.Common.{◌≡◌, ℕ, ◌+◌, List, [], ◌∷◌, ◌++◌, Vec, Global, take, sym, ap, ◌∙◌, subst}
use Rattle.std.specs.List.{AllZip}
use Rattle.std.proofs.lemmas.List.{map-append, take_more}
use Rattle.trace_share.specs.declared.outcome.Outcome.{Outcome}
use Rattle.batch_runner.specs.declared.totals.Totals.{Totals}
use Rattle.batch_runner.specs.Totals.{IsTotalOf, totals_of}
use Rattle.batch_runner.proofs.Kept.{items_of, one_total_more}
use Rattle.batch_runner.proofs.totals.totals_in.Goals as goal

pub loop-log-preserved : goal.loop-log-preserved
loop-log-preserved c =
    let i : ℕ = c.loop-log.log-index in
    let logs : List (Vec Outcome Global) = c.args.logs.now in
    let log : Vec Outcome Global = c.log-item.result in
    let front : List (Vec Outcome Global) = take i logs in
    let more : items_of (take (i + 1) logs) ≡ items_of front ++ log.items ∷ [] =
    ap items_of
    (take_more logs i log c.loop-log-test.true
    ∙ ap (λ (l : Vec Outcome Global). front ++ l ∷ []) (sym c.log-item.is))
    ∙ map-append (λ (l : Vec Outcome Global). l.items) front (log ∷ []) in
    subst (λ (now : List Totals × List (List Outcome)). AllZip IsTotalOf now.0 now.1)
    (λ j. (sym {A = List Totals} c.in_ok-push.ensures.items j, sym more j))
    (one_total_more c.loop-log.each.items (items_of front) c.totals_in_log.result log.items c.loop-log.invariant
    (c.totals_in_log.ensures ∙ ap totals_of c.deref.ensures.value))
