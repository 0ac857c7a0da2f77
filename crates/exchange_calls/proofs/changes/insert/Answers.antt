use Rattle.std.proofs.Common.{◌≡◌, Some, subst}
use Rattle.plain_map.specs.declared.keys.Pair.{Pair}
use Rattle.plain_map.specs.Keys.{pair_of}
use Rattle.plain_map.specs.PlainObject.{new_session}
use Rattle.bucket_states.specs.Places.{IsBrought}
use Rattle.bucket_states.proofs.PlaceLemmas.{held_at}
use Rattle.bucket_states.proofs.AnswerLemmas.{IsReply-Insert_held, IsAnswer-Insert_new}
use Rattle.exchange_calls.proofs.changes.insert.Goals as goal

pub returns-in-Some-clause-answer : goal.returns-in-Some-clause-answer
returns-in-Some-clause-answer c =
    let here = rw c.in-Some.is at c.requires.place in
    IsReply-Insert_held _ _ _ _ _ _
    (held_at c.args.pair.key c.args.items.now.items c.in-Some.at c.index.result.now here c.index.ensures)

pub returns-in-None-clause-answer : goal.returns-in-None-clause-answer
returns-in-None-clause-answer c =
    let none = rw c.in-None.is at c.requires.place in
    let pair : Pair = c.args.pair in
    let begins : pair ≡ pair_of (pair.key, new_session pair.value) =
    λ i. record { key = pair.key; value = pair.value; bytes = c.requires.begins i } in
    IsAnswer-Insert_new _ _ _ _ none pair.value _ (Some c.bring.result)
    (subst (λ (p : Pair). IsBrought c.args.rules.now c.args.rules.now.depth c.args.items.now.items p
    c.bring.new.items.items
    (Some c.bring.result)) begins c.bring.ensures.brought)
