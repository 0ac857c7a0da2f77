use Rattle.std.proofs.Common.{◌∙◌, sym, arith}
use Rattle.flows_runner.proofs.flowing.Flowing.block_behind.Goals as goal

pub returns-then-is_due-clause-block : goal.returns-then-is_due-clause-block
returns-then-is_due-clause-block c = λ packets blocks served so.
    let told = c.in_ok-block.ensures.block packets blocks served so in
    (omega (arith, c.if-kept-gt0.true), sym c.is_due.ensures ∙ c.if-is_due.true, told.0, told.1)
