use Rattle.std.proofs.Common.{◌≡◌, [], map, replicate}
use Rattle.flows_runner.proofs.pile.empty_shares.Given as goal

abbrev pub invariant-loop : goal.invariant-loop
invariant-loop l = map (λ share. share.items) l.shares.items ≡ replicate l.counter []
