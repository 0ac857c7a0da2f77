use Rattle.std.proofs.Common.{◌≡◌, List, take}
use Rattle.map_laws.specs.ByKey.{Made}
use Rattle.flow_workers.specs.Counts.{counts_after}
use Rattle.flow_workers.specs.Work.{HasMade}
use Rattle.flow_workers.proofs.workers.make_calls.Given as goal

abbrev pub invariant-loop-place : goal.invariant-loop-place
invariant-loop-place g l =
    (made : List Made) × HasMade l.fn.own l.own (take l.place l.fn.calls) made
    × (l.replies ≡ counts_after l.fn.replies made)
