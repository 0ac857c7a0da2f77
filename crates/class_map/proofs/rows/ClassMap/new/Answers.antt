use Rattle.std.proofs.Common.{rules}
use Rattle.class_map.proofs.RowLemmas.{holds_none}
use Rattle.class_map.proofs.rows.ClassMap.new.Goals as goal

pub returns : goal.returns
returns c =
    holds_none c.loop.rows.items c.args.rules.now (search rules) c.loop.invariant.empties
