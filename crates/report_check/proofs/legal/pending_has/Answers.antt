use Rattle.std.proofs.Common.{inl, inr}
use Rattle.plain_map.specs.History.{pending as waiting}
use Rattle.report_check.proofs.FactLemmas.{no_call, waiting_at}
use Rattle.report_check.proofs.legal.pending_has.Goals as goal

pub returns-in_ok-answer-in-Some-clause-good : goal.returns-in_ok-answer-in-Some-clause-good
returns-in_ok-answer-in-Some-clause-good c = λ told calls order before facts none holds.
    (let found = c.in-Some.ensures facts.pending_sorted in
    inl (
      waiting c.in-Some.call.now,
      waiting_at told calls c.args.pending.now order c.args.packet c.in-Some.call.now facts none found,
      found.3,
      (tt, (c.in_ok-answer-in-Some.ensures.reply before holds).1),
    ))

pub returns-in-None-clause-good : goal.returns-in-None-clause-good
returns-in-None-clause-good c = λ told calls order before facts none holds.
    inr (no_call told calls c.args.pending.now order c.args.packet facts none (c.in-None.ensures facts.pending_sorted))
