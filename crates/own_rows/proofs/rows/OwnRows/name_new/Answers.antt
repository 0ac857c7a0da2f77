-- One swap, and the bucket.
use Rattle.std.proofs.Common.{ℕ, ◌∙◌, refl, subst, arith}
use Rattle.own_rows.specs.Rings.{numbers}
use Rattle.own_rows.specs.Rows.{AreSwapped, named_hook}
use Rattle.own_rows.proofs.AddLemmas.{alone_still, last_found, row_named}
use Rattle.own_rows.proofs.rows.OwnRows.name_new.Goals as goal

pub returns-clause-added : goal.returns-clause-added
returns-clause-added c r =
    let o = c.args.self.now in
    let s = c.swap_links.ensures.swapped in
    record {
      first = s.first;
      rows = s.rows;
      sweeps = s.sweeps;
      generations = s.generations;
      alone = λ has k low high. alone_still o c.swap_links.new.self r c.args.row (numbers r.named) (named_hook o) has
          (λ j. omega arith) has.named
          (subst (λ (k : ℕ). AreSwapped o c.swap_links.new.self k c.args.row)
          (c.before-last.ensures ∙ last_found o r (numbers r.named) (named_hook o) c.requires.sound has
          (λ j. omega arith) has.named)
          s) refl k low high (omega arith);
    }

pub returns-clause-rows : goal.returns-clause-rows
returns-clause-rows c r has unused =
    let o = c.args.self.now in
    let now = c.swap_links.new.self in
    let s = c.swap_links.ensures.sound in
    row_named o now _ r c.args.row c.args.bucket has unused
    (subst (λ (k : ℕ). AreSwapped o now k c.args.row)
    (c.before-last.ensures ∙ last_found o r (numbers r.named) (named_hook o) c.requires.sound has (λ j. omega arith)
    has.named)
    c.swap_links.ensures.swapped)
    (record { first = refl; rows = refl; buckets = refl; generations = refl; lost = refl; sweeps = refl }) refl
    (omega (
      arith,
      unused.low,
      unused.high,
      now.buckets.ok.0,
      s.buckets,
      c.swap_links.ensures.swapped.first,
      c.swap_links.ensures.swapped.rows,
    ))
    refl
