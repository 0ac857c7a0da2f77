-- The map has each class from call to call.
use Rattle.class_map.specs.Rows.{HasEachClass}
use Rattle.core_steps.proofs.tests.maps.expect_replies.Given as goal

abbrev pub invariant-loop-call : goal.invariant-loop-call
invariant-loop-call g l = HasEachClass l.map l.rules
