-- Moved from the free rows to the named ones, with its bucket and its generation.
use Rattle.std.proofs.Common.{◌≡◌, ℕ, ◌-◌, ◌∙◌, List, ◌∷◌, set, refl, ap, subst, arith}
use Rattle.own_rows.specs.Rows.{AreMoved, HasRows, free_hook, named_hook}
use Rattle.own_rows.proofs.RingLemmas.{counts_first}
use Rattle.own_rows.proofs.PublishLemmas.{row_published}
use Rattle.own_rows.proofs.rows.OwnRows.publish.Goals as goal

pub returns-clause-rows : goal.returns-clause-rows
returns-clause-rows c r row free g has is then others =
    let o = c.args.self.now in
    let now = c.name_row.new.self in
    let there : HasRows o (record r { free = row ∷ free }) =
    subst (λ (f : List ℕ). HasRows o (record r { free = f })) is has in
    let row_is : c.after-row.result ≡ row = c.after-row.ensures ∙ there.free.0 in
    let mine = there.mine row (omega (arith, counts_first row free)) in
    let s = c.name_row.ensures.sound in
    row_published o now _ r row free c.args.bucket c.args.generation g there
    (subst (λ (k : ℕ). AreMoved o now (free_hook o) k (named_hook o)) row_is c.name_row.ensures.moved)
    (record { first = refl; rows = refl; buckets = refl; generations = refl; lost = refl; sweeps = refl }) refl
    (omega (arith, mine, now.buckets.ok.0, s.buckets, c.name_row.ensures.same.first, c.name_row.ensures.same.rows))
    (omega (
      arith,
      mine,
      now.generations.ok.0,
      s.generations,
      c.name_row.ensures.same.first,
      c.name_row.ensures.same.rows,
    ))
    (ap (λ (k : ℕ). set now.buckets.items (k - now.first) c.args.bucket) row_is)
    (ap (λ (k : ℕ). set now.generations.items (k - now.first) c.args.generation) row_is) then others
