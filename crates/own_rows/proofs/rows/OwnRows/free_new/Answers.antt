-- One swap.
use Rattle.std.proofs.Common.{ℕ, ◌∙◌, refl, subst, arith}
use Rattle.own_rows.specs.Rows.{AreSwapped, free_hook}
use Rattle.own_rows.proofs.AddLemmas.{alone_still, last_found, row_freed}
use Rattle.own_rows.proofs.rows.OwnRows.free_new.Goals as goal

pub returns-clause-added : goal.returns-clause-added
returns-clause-added c r =
    let o = c.args.self.now in
    let s = c.swap_links.ensures.swapped in
    record {
      first = s.first;
      rows = s.rows;
      sweeps = s.sweeps;
      generations = s.generations;
      alone = λ has k low high. alone_still o c.swap_links.new.self r c.args.row r.free (free_hook o) has
          (λ j. omega arith) has.free
          (subst (λ (k : ℕ). AreSwapped o c.swap_links.new.self k c.args.row)
          (c.before-last.ensures ∙ last_found o r r.free (free_hook o) c.requires.sound has (λ j. omega arith) has.free)
          s) refl k low high (omega arith);
    }

pub returns-clause-rows : goal.returns-clause-rows
returns-clause-rows c r has unused =
    let o = c.args.self.now in
    row_freed o c.swap_links.new.self r c.args.row has unused
    (subst (λ (k : ℕ). AreSwapped o c.swap_links.new.self k c.args.row)
    (c.before-last.ensures ∙ last_found o r r.free (free_hook o) c.requires.sound has (λ j. omega arith) has.free)
    c.swap_links.ensures.swapped)
