use Rattle.std.proofs.Common.{◌≡◌, ◌+◌, ◌-◌, sym, ap, ◌∙◌, arith}
use Rattle.bound_laws.proofs.Levels.{sum_below, sum_range}
use Rattle.leaf_laws.specs.Leaves.{crowds_of}
use Rattle.flowdir_c.proofs.fewer.splits_by.Goals as goal

pub returns-clause-splits : goal.returns-clause-splits
returns-clause-splits c =
    let s = c.args.settings.now in
    let all : c.loop-depth.depth ≡ s.depth = omega (arith, c.loop-depth.auto.depth-end, c.loop-depth-test.false) in
    c.loop-depth.invariant.sum
    ∙ ap (λ d. sum_below (λ i. crowds_of s c.args.keys (s.start + i)) (d - s.start)) all
    ∙ sym (sum_range (crowds_of s c.args.keys) s.start (s.depth - s.start))
