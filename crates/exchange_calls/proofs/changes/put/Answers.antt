use Rattle.std.proofs.Common.{◌≡◌, ◌∙◌, ℕ, List, Some, set, sym, ap, subst}
use Rattle.plain_map.specs.declared.keys.Key.{Key}
use Rattle.plain_map.specs.declared.keys.Pair.{Pair}
use Rattle.plain_map.specs.Keys.{held_in, pair_of}
use Rattle.plain_map.specs.PlainObject.{new_session, revalued}
use Rattle.bucket_states.specs.Items.{changed_in, with_change}
use Rattle.bucket_states.specs.Places.{IsBrought}
use Rattle.bucket_states.proofs.PlaceLemmas.{held_at}
use Rattle.bucket_states.proofs.AnswerLemmas.{IsReply-Put_held, IsAnswer-Put_new}
use Rattle.exchange_calls.proofs.changes.put.Goals as goal

pub returns-in-Some-clause-answer : goal.returns-in-Some-clause-answer
returns-in-Some-clause-answer c =
    let items : List Pair = c.args.items.now.items in
    let key : Key = c.args.pair.key in
    let value : ℕ = c.args.pair.value in
    let at : ℕ = c.in-Some.at in
    let here = rw c.in-Some.is at c.requires.place in
    let m : Pair = c.index_mut.result.now in
    let left : List Pair = set items at (record { key = m.key; value = value; bytes = m.bytes }) in
    let left_is : left ≡ changed_in key (λ held. revalued held value) items =
    ap (λ (x : Pair). set items at (with_change (λ held. revalued held value) x)) c.index_mut.ensures.value
    ∙ sym (here.other m (λ held. revalued held value)) in
    IsReply-Put_held c.args.rules.now c.args.rules.now.depth items key value (held_in c.index.result.now)
    (held_at key items at c.index.result.now here c.index.ensures) left left_is

pub returns-in-None-clause-answer : goal.returns-in-None-clause-answer
returns-in-None-clause-answer c =
    let none = rw c.in-None.is at c.requires.place in
    let pair : Pair = c.args.pair in
    let begins : pair ≡ pair_of (pair.key, new_session pair.value) =
    λ i. record { key = pair.key; value = pair.value; bytes = c.requires.begins i } in
    IsAnswer-Put_new _ _ _ _ none pair.value _ (Some c.bring.result)
    (subst (λ (p : Pair). IsBrought c.args.rules.now c.args.rules.now.depth c.args.items.now.items p
    c.bring.new.items.items
    (Some c.bring.result)) begins c.bring.ensures.brought)
