use Rattle.std.proofs.Common.{◌≡◌, ◌<◌, ◌+◌, ◌-◌, ◌*◌, ◌^◌, [], ◌++◌, map, sym, subst, ap, ◌∙◌, arith}
use Rattle.dir_states.specs.Cuts.{below, below_each}
use Rattle.dir_states.specs.Views.{as_leaf}
use Rattle.dir_states.proofs.NumberLemmas.{one_shifted}
use Rattle.dir_states.proofs.CountLemmas.{each-more, prefix-inside}
use Rattle.dir_states.proofs.cuts.cut.Goals as goal

pub grow-requires-clause-few : goal.grow-requires-clause-few
grow-requires-clause-few c =
    let depth = c.args.table.now.rules.depth in
    let start = c.args.start in
    let width : depth - (depth - start) ≡ start = omega (arith, c.requires.within) in
    let small : c.loop-prefix.prefix < 2 ^ start =
    subst (λ n. c.loop-prefix.prefix < n)
    (one_shifted start (omega (arith, c.requires.within, c.requires.range.depth))) c.loop-prefix-test.true in
    let inside = prefix-inside depth (depth - start) c.loop-prefix.prefix (omega arith)
    (subst (λ d. c.loop-prefix.prefix < 2 ^ d) (sym width) small) in
    omega (arith, inside, c.loop-prefix.invariant.few, c.requires.most)

pub loop-prefix-preserved : goal.loop-prefix-preserved
loop-prefix-preserved c =
    let rules = c.args.table.now.rules in
    let seats = c.args.table.now.seats in
    let start = c.args.start in
    let width : rules.depth - (rules.depth - start) ≡ start = omega (arith, c.requires.within) in
    let next : (c.loop-prefix.prefix + 1) * 2 ^ (rules.depth - start) ≡ c.loop-prefix.prefix * 2 ^
    (rules.depth - start) + 2 ^ (rules.depth - start) = grind arith in
    record {
      leaves = λ first counted.
          c.grow.ensures.leaves first counted
          ∙ ap (λ d. map as_leaf c.loop-prefix.leaves.made.items
          ++ below rules seats first [] (rules.depth - start) d c.loop-prefix.prefix) width
          ∙ ap (λ l. l ++ below rules seats first [] (rules.depth - start) start c.loop-prefix.prefix)
          (c.loop-prefix.invariant.leaves first counted)
          ∙ ap (λ k. below_each rules seats first [] start 0 c.loop-prefix.prefix
          ++ below rules seats first [] (rules.depth - start) start k) (omega arith)
          ∙ sym (each-more rules seats first [] start 0 c.loop-prefix.prefix);
      open_ = c.grow.ensures.open;
      few = omega (arith, c.grow.ensures.len, c.loop-prefix.invariant.few, next);
    }
