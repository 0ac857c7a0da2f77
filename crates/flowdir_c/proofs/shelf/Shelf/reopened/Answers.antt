use Rattle.std.proofs.Common.{◌≡◌, Err, rules, sym, ap, ◌∙◌, subst}
use Rattle.std.specs.Prelude.{IsSomeAnd, IsTrue}
use Rattle.table_model.specs.Setup.{HaveRoom}
use Rattle.flowdir_c.specs.Fit.{rules_with}
use Rattle.flowdir_c.specs.Shelves.{ArePairsOf, ShelfValue}
use Rattle.flowdir_c.specs.declared.opening.NotOpened.TheVariants.{NoRoom}
use Rattle.flowdir_c.proofs.ShelfLemmas.{listed_have_room}
use Rattle.flowdir_c.proofs.shelf.Shelf.reopened.Goals as goal

-- what a run by the same rules left finds room
pub returns-in_err-opened-clause-never : goal.returns-in_err-opened-clause-never
returns-in_err-opened-clause-never c = λ is_listed by is.
    let rules_are = rules_with c.args.settings.now c.args.seed in
    let listed = subst (λ (s : ShelfValue). IsTrue s.is_listed → IsSomeAnd s.left (λ left. ArePairsOf left s.pairs))
    c.self.view_is c.self.invariant.listed is_listed in
    let room = subst (HaveRoom rules_are)
    (sym (ap (λ (s : ShelfValue). s.pairs) c.self.view_is) ∙ sym c.deref.ensures.value)
    (listed_have_room c.reopen_laws.ensures.any_turn rules_are c.args.self.now by listed) in
    let failed : Err c.in_err-opened.field-0.0 ≡ Err NoRoom = search rules in
    c.in_err-opened.ensures.room room failed
