use Rattle.std.proofs.Common.{◌≡◌, ◌∙◌, ℕ, List, sym, ap}
use Rattle.std.proofs.lemmas.List.{get_or_default}
use Rattle.std.specs.FinMap as finite
use Rattle.plain_map.specs.declared.keys.Key.{Key}
use Rattle.plain_map.specs.declared.keys.Pair.{Pair}
use Rattle.plain_map.specs.declared.calls.Reply.TheVariants.{Sum}
use Rattle.plain_map.specs.Keys.{held_in}
use Rattle.plain_map.specs.Updates.{summed}
use Rattle.class_map.proofs.CountLemmas.{AreCountsOf-set}
use Rattle.plain_map.proofs.SessionLemmas.{held_at, none_at_gap, ordered-set, sessions_of-set}
use Rattle.class_map.proofs.AnswerLemmas.{reply_of-Tally_held, map_after-Tally_held, reply_of-Tally_absent, map_after-Tally_absent}
use Rattle.class_map.proofs.object.PlainMap.tally.Goals as goal

-- the key is held
pub invariant_of-self : goal.invariant_of-self
invariant_of-self c =
    let ps : List Pair = c.self.inside.pairs.items in
    let here = rw c.deref.ensures.value at c.in-Ok.ensures.found in
    let p : Pair = c.index_mut.result.now in
    let q : Pair = record { key = p.key; value = p.value; bytes = c.add_bytes-bytes.result } in
    let is : q.key ≡ c.args.key.now = ap (λ (x : Pair). x.key) c.index_mut.ensures.value ∙ here.has_key p in
    record {
      ordered = ordered-set ps c.self.invariant.ordered c.args.key.now c.in-Ok.at here q is;
      counted = λ now there.
          AreCountsOf-set ps c.in-Ok.at q now (λ d. here.has_key d ∙ sym is) (c.self.invariant.counted now there);
    }

pub returns-in-Ok-clause-reply : goal.returns-in-Ok-clause-reply
returns-in-Ok-clause-reply c rules =
    let here = rw c.deref.ensures.value at c.in-Ok.ensures.found in
    ap (λ (n : ℕ). Sum n) c.add_bytes-bytes.ensures
    ∙ sym (reply_of-Tally_held rules c.args.self.now c.args.key.now c.args.amount _
    (held_at c.self.inside.pairs.items c.self.invariant.ordered _ c.self.view_is _ _ here c.index.result.now
    c.index.ensures))

pub returns-in-Ok-clause-change : goal.returns-in-Ok-clause-change
returns-in-Ok-clause-change c rules =
    let ps : List Pair = c.self.inside.pairs.items in
    let key : Key = c.args.key.now in
    let here = rw c.deref.ensures.value at c.in-Ok.ensures.found in
    let p : Pair = c.index_mut.result.now in
    let q : Pair = record { key = p.key; value = p.value; bytes = c.add_bytes-bytes.result } in
    let is : q.key ≡ key = ap (λ (x : Pair). x.key) c.index_mut.ensures.value ∙ here.has_key p in
    let same : c.index.result.now ≡ p =
    c.index.ensures ∙ get_or_default ps c.in-Ok.at c.index.result.now p here.in_range ∙ sym c.index_mut.ensures.value in
    let bytes : q.bytes ≡ summed p.bytes c.args.amount =
    c.add_bytes-bytes.ensures ∙ ap (λ (x : Pair). summed x.bytes c.args.amount) same in
    sessions_of-set ps c.self.invariant.ordered key c.in-Ok.at q here is
    ∙ ap (λ m. finite.insert m key (held_in q)) c.self.view_is
    ∙ (λ i. finite.insert c.args.self.now key (record { value = p.value; bytes = bytes i }))
    ∙ sym (map_after-Tally_held rules c.args.self.now key c.args.amount (held_in p)
    (held_at ps c.self.invariant.ordered _ c.self.view_is _ _ here p c.index_mut.ensures.value))

-- the key is not held
pub returns-in-Err-clause-reply : goal.returns-in-Err-clause-reply
returns-in-Err-clause-reply c rules =
    let gap = rw c.deref.ensures.value at c.in-Err.ensures.absent in
    sym (reply_of-Tally_absent rules c.args.self.now c.args.key.now c.args.amount
    (none_at_gap c.self.inside.pairs.items c.self.invariant.ordered _ c.self.view_is _ _ gap))

pub returns-in-Err-clause-change : goal.returns-in-Err-clause-change
returns-in-Err-clause-change c rules =
    let gap = rw c.deref.ensures.value at c.in-Err.ensures.absent in
    sym (map_after-Tally_absent rules c.args.self.now c.args.key.now c.args.amount
    (none_at_gap c.self.inside.pairs.items c.self.invariant.ordered c.args.self.now c.self.view_is _ _ gap))
