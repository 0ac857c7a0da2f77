use Rattle.std.proofs.Common.{◌∙◌, ap}
use Rattle.plain_map.specs.Held.{sessions_of}
use Rattle.plain_map.proofs.SessionLemmas.{sessions_of-nil}
use Rattle.class_map.proofs.object.PlainMap.new.Goals as goal

pub returns : goal.returns
returns c = ap sessions_of c.new.ensures.items ∙ sessions_of-nil
