use Rattle.std.proofs.Common.{◌∙◌, sym, ap}
use Rattle.plain_map.specs.PlainObject.{pairs_of}
use Rattle.plain_map.proofs.SessionLemmas.{pairs_of-sessions_of}
use Rattle.class_map.proofs.object.PlainMap.pairs.Goals as goal

pub returns : goal.returns
returns c = c.deref.ensures.value ∙ sym (pairs_of-sessions_of c.self.inside.pairs.items c.self.invariant.ordered)
    ∙ ap pairs_of c.self.view_is
