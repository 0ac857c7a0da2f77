-- The op's words, and the announcement.
use Rattle.std.proofs.Common.{◌∙◌, ℕ, List, take, drop, ap}
use Rattle.lasting_calls.specs.Going.{Going}
use Rattle.lasting_calls.specs.Updates.{update_of}
use Rattle.lasting_calls.proofs.PlaceLemmas.{op_starts}
use Rattle.lasting_calls.proofs.StoreLemmas.{call_behind, op_writes}
use Rattle.lasting_calls.proofs.announcing.announce.Goals as goal

pub store_run-requires-clause-writes : goal.store_run-requires-clause-writes
store_run-requires-clause-writes g c =
    let f : Going = g.S.Steps.now c.args.steps.now in
    let own = c.args.own.now in
    op_writes f (update_of own) c.requires.phase c.op-start.result
    (op_starts f c.args.desk.now c.requires.desk c.args.desk.now.seat c.op-start.result c.requires.desk.seat
    c.op-start.ensures.value)
    (take 7 (drop 1 c.write_op.new.out))
    (ap (λ (ws : List ℕ). take 7 (drop 1 ws)) c.write_op.ensures ∙ call_behind own.call own.number
    c.requires.own.update)
    c.requires.own.update
