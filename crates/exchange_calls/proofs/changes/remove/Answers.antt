use Rattle.std.proofs.Common.{◌∙◌, sym}
use Rattle.bucket_states.proofs.PlaceLemmas.{held_at}
use Rattle.bucket_states.proofs.AnswerLemmas.{IsReply-Remove_held, IsReply-Remove_absent}
use Rattle.exchange_calls.proofs.changes.remove.Goals as goal

pub returns-in-Some-clause-answer : goal.returns-in-Some-clause-answer
returns-in-Some-clause-answer c rules depth =
    let here = rw c.in-Some.is at c.requires.place in
    IsReply-Remove_held rules depth _ _ _
    (held_at c.args.key.now c.args.items.now.items c.in-Some.at c.remove.result here c.remove.ensures.value) _
    (c.remove.ensures.items ∙ sym here.rest)

pub returns-in-None-clause-answer : goal.returns-in-None-clause-answer
returns-in-None-clause-answer c rules depth =
    let none = rw c.in-None.is at c.requires.place in
    IsReply-Remove_absent rules depth _ _ none
