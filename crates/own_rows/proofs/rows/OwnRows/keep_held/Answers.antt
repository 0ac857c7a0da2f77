-- A row that is gone is moved, and is not gone then.
use Rattle.std.proofs.Common.{ℕ, ◌-◌, ◌∙◌, List, ◌∷◌, ◌++◌, set, refl, sym, ap, subst, arith}
use Rattle.own_rows.specs.Rows.{AreMoved, HasRows, back_of, named_hook}
use Rattle.own_rows.proofs.HeldLemmas.{back_is, found, held_named, not_held}
use Rattle.own_rows.proofs.rows.OwnRows.keep_held.Goals as goal

pub returns-then-not-is_gone-clause-rows : goal.returns-then-not-is_gone-clause-rows
returns-then-not-is_gone-clause-rows c r has =
    not_held c.args.self.now r c.args.held has (c.if-not-is_gone.ensures.other refl r has)

pub returns-clause-rows : goal.returns-clause-rows
returns-clause-rows c r has =
    let o = c.args.self.now in
    let held : ℕ = c.args.held in
    let now = c.name_row.new.self in
    let m = c.if-not-is_gone.ensures.mine refl in
    let f = found held r.gone (c.if-not-is_gone.ensures.is refl r has) (omega (arith, has.once held)) in
    let there : HasRows o (record r { gone = f.front ++ f.row ∷ f.back }) =
    subst (λ (g : List (ℕ × ℕ)). HasRows o (record r { gone = g })) f.is has in
    held_named o now _ r held f there
    (subst (λ (k : ℕ). AreMoved o now k f.row.0 (named_hook o))
    (c.before-back.ensures ∙ ap (back_of o) (sym f.number)
    ∙ back_is o r f.front f.back f.row c.requires.sound there)
    (subst (λ (k : ℕ). AreMoved o now c.before-back.result k (named_hook o)) (sym f.number)
    c.name_row.ensures.moved))
    (record { first = refl; rows = refl; buckets = refl; generations = refl; lost = refl; sweeps = refl }) refl
    (omega (
      arith,
      m,
      f.number,
      now.lost.ok.0,
      c.name_row.ensures.sound.losts,
      c.name_row.ensures.same.first,
      c.name_row.ensures.same.rows,
    ))
    (ap (λ (k : ℕ). set now.lost.items (k - now.first) 0) (sym f.number))
