use Rattle.std.proofs.Common.{◌≡◌, ◌∙◌, ℕ, List, set, sym, ap, subst}
use Rattle.std.proofs.lemmas.List.{get_or_default}
use Rattle.plain_map.specs.declared.keys.Key.{Key}
use Rattle.plain_map.specs.declared.keys.Pair.{Pair}
use Rattle.plain_map.specs.declared.calls.Call.TheVariants.{Tally}
use Rattle.plain_map.specs.declared.calls.Reply.TheVariants.{Sum}
use Rattle.plain_map.specs.Keys.{held_in}
use Rattle.plain_map.specs.PlainObject.{grown}
use Rattle.plain_map.specs.Updates.{summed}
use Rattle.bucket_states.specs.Items.{tallied_in, with_change}
use Rattle.bucket_states.specs.Places.{IsReply}
use Rattle.bucket_states.proofs.PlaceLemmas.{held_at}
use Rattle.bucket_states.proofs.AnswerLemmas.{IsReply-Tally_held, IsReply-Tally_absent}
use Rattle.exchange_calls.proofs.changes.tally.Goals as goal

pub returns-in-Some-clause-answer : goal.returns-in-Some-clause-answer
returns-in-Some-clause-answer c rules depth =
    let items : List Pair = c.args.items.now.items in
    let key : Key = c.args.key.now in
    let at : ℕ = c.in-Some.at in
    let here = rw c.in-Some.is at c.requires.place in
    let p : Pair = c.index.result.now in
    let m : Pair = c.index_mut.result.now in
    let same : p ≡ m = c.index.ensures ∙ get_or_default items at p m here.in_range ∙ sym c.index_mut.ensures.value in
    let bytes : c.add_bytes-bytes.result ≡ summed m.bytes c.args.amount =
    c.add_bytes-bytes.ensures ∙ ap (λ (x : Pair). summed x.bytes c.args.amount) same in
    let left : List Pair = set items at (record { key = m.key; value = m.value; bytes = c.add_bytes-bytes.result }) in
    let left_is : left ≡ tallied_in key c.args.amount items =
    (λ i. set items at (record { key = m.key; value = m.value; bytes = bytes i }))
    ∙ ap (λ (x : Pair). set items at (with_change (λ held. grown held c.args.amount) x)) c.index_mut.ensures.value
    ∙ sym (here.other m (λ held. grown held c.args.amount)) in
    subst (λ (n : ℕ). IsReply rules depth items (Tally key c.args.amount) left (Sum n)) (sym c.add_bytes-bytes.ensures)
    (IsReply-Tally_held rules depth items key c.args.amount (held_in p) (held_at key items at p here c.index.ensures)
    left left_is)

pub returns-in-None-clause-answer : goal.returns-in-None-clause-answer
returns-in-None-clause-answer c rules depth =
    let none = rw c.in-None.is at c.requires.place in
    IsReply-Tally_absent rules depth _ _ _ none
