use Rattle.std.proofs.Common.{◌≡◌, ◌+◌, ◌-◌, ◌*◌, ◌%◌, ◌^◌, ℕ, ap, ◌∙◌, arith}
use Rattle.std.specs.Prelude.{nat_lt}
use Rattle.dir_states.specs.Openings.{span}
use Rattle.dir_states.proofs.CountLemmas.{span-held, prefix-inside, low-fits, one-fits}
use Rattle.dir_states.proofs.cuts.is_cut.Goals as goal

pub is_crowded-requires-clause-high : goal.is_crowded-requires-clause-high
is_crowded-requires-clause-high c =
    let r = c.args.table.now.rules in
    let inside = prefix-inside r.depth c.args.more c.args.prefix c.requires.more c.requires.prefix in
    omega (
      arith,
      inside,
      low-fits r c.requires.range c.args.more c.args.prefix c.requires.more c.requires.prefix,
      one-fits r c.requires.range c.args.more c.requires.more,
      c.requires.counts,
    )

pub returns : goal.returns
returns c = λ first counted.
    let r = c.args.table.now.rules in
    let low = low-fits r c.requires.range c.args.more c.args.prefix c.requires.more c.requires.prefix in
    let one = one-fits r c.requires.range c.args.more c.requires.more in
    let width : c.args.prefix * 2 ^ c.args.more + 2 ^ c.args.more - c.args.prefix * 2 ^ c.args.more ≡ 2 ^ c.args.more =
    omega arith in
    c.is_crowded.ensures
    ∙ ap (λ (l : ℕ). nat_lt r.items (span c.args.counts.now l (l + 1 * 2 ^ c.args.more % 18446744073709551616 - l))) low
    ∙ ap (λ (w : ℕ). nat_lt r.items (span c.args.counts.now (c.args.prefix * 2 ^ c.args.more)
    (c.args.prefix * 2 ^ c.args.more + w - c.args.prefix * 2 ^ c.args.more))) one
    ∙ ap (λ (w : ℕ). nat_lt r.items (span c.args.counts.now (c.args.prefix * 2 ^ c.args.more) w)) width
    ∙ ap (nat_lt r.items) (span-held r c.requires.range first c.args.counts.now counted c.args.more c.args.prefix
    c.requires.more c.requires.prefix)
