-- Two swaps.
use Rattle.std.proofs.Common.{ℕ, ◌+◌, ◌∙◌, ap, subst}
use Rattle.own_rows.specs.Rows.{AreSwapped, back_of}
use Rattle.own_rows.proofs.rows.OwnRows.name_row.Goals as goal

pub returns-clause-moved : goal.returns-clause-moved
returns-clause-moved c =
    let s = c.swap_links.ensures.swapped in
    record {
      mid = c.swap_links.new.self;
      sound = c.swap_links.ensures.sound;
      cut = s;
      put = subst (λ (k : ℕ). AreSwapped c.swap_links.new.self c.swap_links-2.new.self k c.args.row)
          (c.before-last.ensures ∙ ap (back_of c.swap_links.new.self)
          (λ i. s.first i + s.rows i + 1))
          c.swap_links-2.ensures.swapped;
    }

pub returns-clause-same : goal.returns-clause-same
returns-clause-same c =
    let s = c.swap_links.ensures.swapped in
    let t = c.swap_links-2.ensures.swapped in
    record { first = t.first ∙ s.first; rows = t.rows ∙ s.rows; sweeps = t.sweeps ∙ s.sweeps }
