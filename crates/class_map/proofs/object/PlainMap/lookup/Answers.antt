use Rattle.std.proofs.Common.{sym}
use Rattle.plain_map.proofs.SessionLemmas.{held_at, none_at_gap}
use Rattle.class_map.proofs.AnswerLemmas.{reply_of-Lookup_held, reply_of-Lookup_absent}
use Rattle.class_map.proofs.object.PlainMap.lookup.Goals as goal

-- the key has a place, and the pair there is the one that was read
pub returns-in-Ok : goal.returns-in-Ok
returns-in-Ok c rules =
    let here = rw c.deref.ensures.value at c.in-Ok.ensures.found in
    sym (reply_of-Lookup_held rules c.args.self.now c.args.key.now _
    (held_at c.self.inside.pairs.items c.self.invariant.ordered _ c.self.view_is _ _ here c.index.result.now
    c.index.ensures))

-- the key has a gap
pub returns-in-Err : goal.returns-in-Err
returns-in-Err c rules =
    let gap = rw c.deref.ensures.value at c.in-Err.ensures.absent in
    sym (reply_of-Lookup_absent rules c.args.self.now c.args.key.now
    (none_at_gap c.self.inside.pairs.items c.self.invariant.ordered _ c.self.view_is _ _ gap))
