use Rattle.std.proofs.Common.{take}
use Rattle.batch_rows.specs.Counts.{AreCounted}
use Rattle.batch_rows.proofs.CountLemmas.{AtLevel}
use Rattle.batch_rows.proofs.crowds.crowded.Given as goal

abbrev pub invariant-loop-key : goal.invariant-loop-key
invariant-loop-key l = AreCounted l.rules (take l.key-index l.keys) l.rules.depth l.counts.items

abbrev pub invariant-loop-level : goal.invariant-loop-level
invariant-loop-level l = AtLevel l.rules l.keys l.level l.prefixes l.levels l.counts.items
