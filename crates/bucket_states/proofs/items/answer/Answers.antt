use Rattle.bucket_states.proofs.PlaceLemmas.{held_at}
use Rattle.bucket_states.proofs.AnswerLemmas.{IsReply-Lookup_held, IsReply-Lookup_absent}
use Rattle.bucket_states.proofs.items.answer.Goals as goal

pub returns-in-Remove-clause-answer : goal.returns-in-Remove-clause-answer
returns-in-Remove-clause-answer c = rw c.in-Remove.is (c.remove.ensures.answer c.args.rules.now c.args.depth)

pub returns-in-Some-clause-answer : goal.returns-in-Some-clause-answer
returns-in-Some-clause-answer c =
    let here = rw c.deref.ensures.value at c.in-Some.ensures in
    rw c.in-Lookup.is (IsReply-Lookup_held c.args.rules.now c.args.depth c.args.items.now.items c.in-Lookup.key _
    (held_at c.in-Lookup.key c.args.items.now.items c.in-Some.at c.index.result.now here c.index.ensures))

pub returns-in-None-clause-answer : goal.returns-in-None-clause-answer
returns-in-None-clause-answer c =
    let none = rw c.deref.ensures.value at c.in-None.ensures in
    rw c.in-Lookup.is (IsReply-Lookup_absent c.args.rules.now c.args.depth c.args.items.now.items c.in-Lookup.key none)

pub returns-in-Tally-clause-answer : goal.returns-in-Tally-clause-answer
returns-in-Tally-clause-answer c = rw c.in-Tally.is (c.tally.ensures.answer c.args.rules.now c.args.depth)
