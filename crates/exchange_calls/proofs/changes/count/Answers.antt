use Rattle.std.proofs.Common.{◌≡◌, ◌∙◌, ℕ, List, Some, set, sym, ap, subst}
use Rattle.std.proofs.lemmas.List.{get_or_default}
use Rattle.plain_map.specs.declared.keys.Key.{Key}
use Rattle.plain_map.specs.declared.keys.Pair.{Pair}
use Rattle.plain_map.specs.declared.calls.Call.TheVariants.{Count}
use Rattle.plain_map.specs.declared.calls.Reply.TheVariants.{Sum}
use Rattle.plain_map.specs.Keys.{held_in}
use Rattle.plain_map.specs.PlainObject.{grown}
use Rattle.plain_map.specs.Updates.{summed}
use Rattle.bucket_states.specs.Items.{changed_in, with_change}
use Rattle.bucket_states.specs.Places.{IsReply}
use Rattle.bucket_states.proofs.PlaceLemmas.{held_at}
use Rattle.bucket_states.proofs.AnswerLemmas.{IsReply-Count_held, IsAnswer-Count_new}
use Rattle.exchange_calls.proofs.changes.count.Goals as goal

pub returns-in-Some-clause-answer : goal.returns-in-Some-clause-answer
returns-in-Some-clause-answer c =
    let items : List Pair = c.args.items.now.items in
    let key : Key = c.args.pair.key in
    let value : ℕ = c.args.pair.value in
    let amount : ℕ = c.args.pair.bytes in
    let at : ℕ = c.in-Some.at in
    let here = rw c.in-Some.is at c.requires.place in
    let p : Pair = c.index.result.now in
    let m : Pair = c.index_mut.result.now in
    let same : p ≡ m = c.index.ensures ∙ get_or_default items at p m here.in_range ∙ sym c.index_mut.ensures.value in
    let bytes : c.add_bytes-bytes.result ≡ summed m.bytes amount =
    c.add_bytes-bytes.ensures ∙ ap (λ (x : Pair). summed x.bytes amount) same in
    let left : List Pair = set items at (record { key = m.key; value = m.value; bytes = c.add_bytes-bytes.result }) in
    let left_is : left ≡ changed_in key (λ held. grown held amount) items =
    (λ i. set items at (record { key = m.key; value = m.value; bytes = bytes i }))
    ∙ ap (λ (x : Pair). set items at (with_change (λ held. grown held amount) x)) c.index_mut.ensures.value
    ∙ sym (here.other m (λ held. grown held amount)) in
    subst (λ (n : ℕ). IsReply c.args.rules.now c.args.rules.now.depth items (Count key value amount) left (Sum n))
    (sym c.add_bytes-bytes.ensures)
    (IsReply-Count_held c.args.rules.now c.args.rules.now.depth items key value amount (held_in p)
    (held_at key items at p here c.index.ensures) left left_is)

pub returns-in-None-clause-answer : goal.returns-in-None-clause-answer
returns-in-None-clause-answer c =
    let none = rw c.in-None.is at c.requires.place in
    IsAnswer-Count_new _ _ _ _ none c.args.pair.value c.args.pair.bytes _ (Some c.bring.result) c.bring.ensures.brought
