-- Moved from one ring to another.
use Rattle.std.proofs.Common.{ℕ, ◌∙◌, List, ◌∷◌, subst}
use Rattle.own_rows.specs.Rows.{AreMoved, HasRows, named_hook, todo_hook}
use Rattle.own_rows.proofs.HomeLemmas.{home_kept}
use Rattle.own_rows.proofs.KeepLemmas.{same_moved}
use Rattle.own_rows.proofs.rows.OwnRows.keep_home.Goals as goal

pub returns-clause-rows : goal.returns-clause-rows
returns-clause-rows c r row todo has is =
    let o = c.args.self.now in
    let there : HasRows o (record r { todo = row ∷ todo }) =
    subst (λ (t : List (ℕ × ℕ)). HasRows o (record r { todo = t })) is has in
    home_kept o c.name_row.new.self r row todo there
    (subst (λ (k : ℕ). AreMoved o c.name_row.new.self (todo_hook o) k (named_hook o))
    (c.after-row.ensures ∙ there.todo.0) c.name_row.ensures.moved)

pub returns-clause-same : goal.returns-clause-same
returns-clause-same c = same_moved c.args.self.now c.name_row.new.self _ _ _ c.name_row.ensures.moved
