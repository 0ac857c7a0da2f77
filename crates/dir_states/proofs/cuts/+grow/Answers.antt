use Rattle.std.proofs.Common.{◌≡◌, ◌+◌, ◌-◌, ◌*◌, [], ◌++◌, map, sym, ap, ◌∙◌, arith}
use Rattle.std.proofs.lemmas.List.{append_assoc}
use Rattle.dir_states.specs.Cuts.{below}
use Rattle.dir_states.specs.Views.{as_leaf}
use Rattle.dir_states.proofs.CountLemmas.{first-part, second-part, two-powers, grown-none, grown-one, grown-both}
use Rattle.dir_states.proofs.cuts.+grow.Goals as goal
use Rattle.dir_states.proofs.cuts.+grow.Goals.{then-more-eq0-via-then-more-eq0, then-more-eq0-via-else-more-eq0+then-not-is_cut}

pub returns-then-more-eq0-clause-leaves : goal.returns-then-more-eq0-clause-leaves
returns-then-more-eq0-clause-leaves t c = λ first counted. elim c.then-more-eq0.branch [
  | then-more-eq0-via-then-more-eq0 w ↦
      c.one_leaf.ensures.leaf
      ∙ ap (λ l. map as_leaf c.args.leaves.now.made.items ++ l)
      (sym (grown-none c.args.table.now.rules c.args.table.now.seats first [] c.args.more
      (c.args.table.now.rules.depth - c.args.more) c.args.prefix w.if-more-eq0.true))
  | then-more-eq0-via-else-more-eq0+then-not-is_cut w ↦
      c.one_leaf.ensures.leaf
      ∙ ap (λ l. map as_leaf c.args.leaves.now.made.items ++ l)
      (sym (grown-one c.args.table.now.rules c.args.table.now.seats first [] c.args.more
      (c.args.table.now.rules.depth - c.args.more) c.args.prefix
      (sym (w.is_cut.ensures first counted) ∙ w.if-not-is_cut.true)))
]

pub grow-requires : goal.grow-requires
grow-requires t c =
    let some : c.args.more ≡ 0 → ⊥ = c.if-more-eq0.false in (
      omega (arith, some, c.decreases),
      (
        c.requires.range,
        (
          omega (arith, c.requires.more),
          (
            first-part c.args.table.now.rules.depth c.args.more c.args.prefix some c.requires.more c.requires.prefix,
            (c.requires.counts, (c.requires.open, omega (arith, c.requires.few, two-powers c.args.more some))),
          ),
        ),
      ),
    )

pub grow-requires-2 : goal.grow-requires-2
grow-requires-2 t c =
    let some : c.args.more ≡ 0 → ⊥ = c.if-more-eq0.false in (
      omega (arith, some, c.decreases),
      (
        c.requires.range,
        (
          omega (arith, c.requires.more),
          (
            second-part c.args.table.now.rules.depth c.args.more c.args.prefix some c.requires.more c.requires.prefix,
            (
              c.requires.counts,
              (
                c.grow.ensures.open,
                omega (arith, c.requires.few, c.grow.ensures.len, two-powers c.args.more some),
              ),
            ),
          ),
        ),
      ),
    )

pub returns-clause-leaves : goal.returns-clause-leaves
returns-clause-leaves t c = λ first counted.
    let rules = c.args.table.now.rules in
    let seats = c.args.table.now.seats in
    let low = below rules seats first [] (c.args.more - 1) (rules.depth - (c.args.more - 1)) (2 * c.args.prefix) in
    let high = below rules seats first [] (c.args.more - 1) (rules.depth - (c.args.more - 1)) (2 * c.args.prefix + 1) in
    c.grow-2.ensures.leaves first counted
    ∙ ap (λ l. l ++ high) (c.grow.ensures.leaves first counted)
    ∙ append_assoc (map as_leaf c.args.leaves.now.made.items) low high
    ∙ ap (λ l. map as_leaf c.args.leaves.now.made.items ++ l)
    (grown-both rules seats first [] c.args.more c.args.prefix c.if-more-eq0.false c.requires.more
    (sym (c.is_cut.ensures first counted) ∙ c.if-not-is_cut.false))

pub returns-clause-len : goal.returns-clause-len
returns-clause-len t c = omega (
  arith,
  c.grow.ensures.len,
  c.grow-2.ensures.len,
  two-powers c.args.more c.if-more-eq0.false,
)
