-- The ring of the named rows is put to the end of an empty one.
use Rattle.std.proofs.Common.{ℕ, List, subst}
use Rattle.own_rows.specs.Rows.{AreSwapped, HasRows, named_hook}
use Rattle.own_rows.proofs.JoinLemmas.{sweep_begun}
use Rattle.own_rows.proofs.rows.OwnRows.begin_sweep.Goals as goal

pub returns-clause-rows : goal.returns-clause-rows
returns-clause-rows c r has is =
    let o = c.args.self.now in
    let mid = c.swap_links.new.self in
    sweep_begun o mid c.swap_links-2.new.self c.swap_links.ensures.sound r
    (subst (λ (t : List (ℕ × ℕ)). HasRows o (record r { todo = t })) is has) c.swap_links.ensures.swapped
    (subst (λ (k : ℕ). AreSwapped mid c.swap_links-2.new.self k (named_hook o)) c.before-last.ensures
    c.swap_links-2.ensures.swapped)
