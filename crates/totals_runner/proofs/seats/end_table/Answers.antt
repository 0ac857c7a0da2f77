-- The workers are taken apart, and the table is closed with their adders.
use Rattle.std.proofs.Common.{Vec, Global, map, arith}
use Rattle.sim_steps.specs.declared.adds.Added.{Added}
use Rattle.totals_runner.proofs.BatchLemmas.{have_all, have_many}
use Rattle.totals_runner.proofs.seats.end_table.Goals as goal

pub take_apart-requires-clause-adders : goal.take_apart-requires-clause-adders
take_apart-requires-clause-adders c = (
  c.in_ok-adders.ensures.items,
  omega (arith, c.in_ok-adders.ensures.capacity, c.in_ok-adders.ensures.exact, c.len.ensures),
)

pub take_apart-requires-clause-logs : goal.take_apart-requires-clause-logs
take_apart-requires-clause-logs c = (
  c.in_ok-logs.ensures.items,
  omega (arith, c.in_ok-logs.ensures.capacity, c.in_ok-logs.ensures.exact, c.len-2.ensures),
)

pub close-requires-clause-adders : goal.close-requires-clause-adders
close-requires-clause-adders c =
    let through = c.requires in
    have_all c.args.table 0 through.0 c.take_apart.new.adders.items
    (map (λ (log : Vec Added Global). log.items) c.take_apart.new.logs.items) (c.take_apart.ensures through.0 through.1)

pub close-requires-clause-all : goal.close-requires-clause-all
close-requires-clause-all c =
    let through = c.requires in
    let many = have_many c.args.table 0 through.0 c.take_apart.new.adders.items
    (map (λ (log : Vec Added Global). log.items) c.take_apart.new.logs.items)
    (c.take_apart.ensures through.0 through.1) in
    omega (arith, c.take_apart.new.adders.ok.0, many.0, through.2)

pub returns-in-Ok : goal.returns-in-Ok
returns-in-Ok c = λ shares through. (
  c.take_apart.new.adders.items,
  c.take_apart.ensures shares through,
  c.in-Ok.ensures.ran,
)
