use Rattle.std.proofs.Common.{◌∙◌, sym, ap}
use Rattle.std.specs.FinMap as finite
use Rattle.plain_map.specs.Held.{sessions_of}
use Rattle.plain_map.proofs.SessionLemmas.{held_at, none_at_gap, ordered-remove, sessions_of-remove}
use Rattle.class_map.proofs.AnswerLemmas.{reply_of-Remove_held, reply_of-Remove_absent, remove-absent}
use Rattle.class_map.proofs.object.PlainMap.remove.Goals as goal

-- the key is held
pub invariant_of-self : goal.invariant_of-self
invariant_of-self c =
    let here = rw c.deref.ensures.value at c.in-Ok.ensures.found in
    record {
      ordered = rw c.remove-pair.ensures.items
          (ordered-remove c.self.inside.pairs.items c.self.invariant.ordered c.args.key.now c.in-Ok.at here);
      counted = λ now is. rw (c.remove-pair.ensures.items, ← c.deref-in-Ok.ensures.value) (c.without.ensures now is);
    }

pub returns-in-Ok-clause-reply : goal.returns-in-Ok-clause-reply
returns-in-Ok-clause-reply c rules =
    let here = rw c.deref.ensures.value at c.in-Ok.ensures.found in
    sym (reply_of-Remove_held rules c.args.self.now c.args.key.now _
    (held_at c.self.inside.pairs.items c.self.invariant.ordered _ c.self.view_is _ _ here c.remove-pair.result
    c.remove-pair.ensures.value))

pub returns-in-Ok-clause-change : goal.returns-in-Ok-clause-change
returns-in-Ok-clause-change c =
    let here = rw c.deref.ensures.value at c.in-Ok.ensures.found in
    ap sessions_of c.remove-pair.ensures.items
    ∙ sessions_of-remove c.self.inside.pairs.items c.self.invariant.ordered c.args.key.now c.in-Ok.at here
    ∙ ap (λ m. finite.remove m c.args.key.now) c.self.view_is

-- the key is not held
pub returns-in-Err-clause-reply : goal.returns-in-Err-clause-reply
returns-in-Err-clause-reply c rules =
    let gap = rw c.deref.ensures.value at c.in-Err.ensures.absent in
    sym (reply_of-Remove_absent rules c.args.self.now c.args.key.now
    (none_at_gap c.self.inside.pairs.items c.self.invariant.ordered _ c.self.view_is _ _ gap))

pub returns-in-Err-clause-change : goal.returns-in-Err-clause-change
returns-in-Err-clause-change c =
    let gap = rw c.deref.ensures.value at c.in-Err.ensures.absent in
    sym (remove-absent c.args.self.now c.args.key.now
    (none_at_gap c.self.inside.pairs.items c.self.invariant.ordered c.args.self.now c.self.view_is _ _ gap))
