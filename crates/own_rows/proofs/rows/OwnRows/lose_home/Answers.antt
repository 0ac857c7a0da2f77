-- Two swaps, and the row is noted.
use Rattle.std.proofs.Common.{◌≡◌, ℕ, ◌-◌, ◌∙◌, List, ◌∷◌, set, refl, ap, subst, arith}
use Rattle.own_rows.specs.Rows.{AreSwapped, HasRows, gone_hook, todo_hook}
use Rattle.own_rows.specs.Rings.{numbers}
use Rattle.own_rows.proofs.RingLemmas.{counts_first}
use Rattle.own_rows.proofs.LostLemmas.{home_lost}
use Rattle.own_rows.proofs.rows.OwnRows.lose_home.Goals as goal

pub returns-clause-rows : goal.returns-clause-rows
returns-clause-rows c r row todo has is =
    let o = c.args.self.now in
    let mid = c.swap_links.new.self in
    let now = c.swap_links-2.new.self in
    let there : HasRows o (record r { todo = row ∷ todo }) =
    subst (λ (t : List (ℕ × ℕ)). HasRows o (record r { todo = t })) is has in
    let row_is : c.after-row.result ≡ row.0 = c.after-row.ensures ∙ there.todo.0 in
    let mine = there.mine row.0 (omega (arith, counts_first row.0 (numbers todo))) in
    let s = c.swap_links-2.ensures.sound in
    home_lost o mid now _ r row todo there
    (subst (λ (k : ℕ). AreSwapped o mid (todo_hook o) k) row_is c.swap_links.ensures.swapped)
    (subst (λ (k : ℕ). AreSwapped mid now (gone_hook o) k) row_is c.swap_links-2.ensures.swapped)
    (record { first = refl; rows = refl; buckets = refl; generations = refl; lost = refl; sweeps = refl }) refl
    (omega (
      arith,
      mine,
      now.lost.ok.0,
      s.losts,
      c.swap_links.ensures.swapped.first,
      c.swap_links-2.ensures.swapped.first,
      c.swap_links.ensures.swapped.rows,
      c.swap_links-2.ensures.swapped.rows,
    ))
    (ap (λ (k : ℕ). set now.lost.items (k - now.first) now.sweeps) row_is)
