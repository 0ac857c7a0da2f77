use Rattle.std.proofs.Common.{◌≤◌, vec_capacity, sym, ap, ◌∙◌, subst}
use Rattle.std.specs.Prelude.{All}
use Rattle.shared_table.specs.Values.{IsOf, TableValue}
use Rattle.list_laws.proofs.Options.{some_same}
use Rattle.flowdir_c.specs.Insides.{table_in}
use Rattle.flowdir_c.specs.Shelves.{ShelfValue}
use Rattle.flowdir_c.proofs.ShelfLemmas.{if_some}
use Rattle.flowdir_c.proofs.shelf.Shelf.keep.Goals as goal

-- the seat that is added is of this table too
pub invariant_of-self : goal.invariant_of-self
invariant_of-self c = record {
  new = c.self.invariant.new;
  of = if_some (λ (t : TableValue). All (IsOf t) c.self.inside.back.items)
      (λ (t : TableValue). All (IsOf t) c.add.new.seats.items) (table_in c.self.inside.directory)
      (λ t e old. c.add.ensures.of t old (subst (λ (u : TableValue). IsOf u c.args.holder.seat)
      (some_same (c.requires.own ∙ sym (ap (λ (v : ShelfValue). v.table) c.self.view_is) ∙ e)) c.args.holder.of))
      c.self.invariant.of;
  all = c.self.invariant.all;
  room = if_some (λ (t : TableValue). c.self.inside.count ≤ vec_capacity c.self.inside.back)
      (λ (t : TableValue). c.self.inside.count ≤ vec_capacity c.add.new.seats) (table_in c.self.inside.directory)
      (λ t e old. subst (λ n. c.self.inside.count ≤ n) (sym c.add.ensures.places) old) c.self.invariant.room;
  listed = c.self.invariant.listed;
  ran = c.self.invariant.ran;
  kept = c.self.invariant.kept;
  distinct = c.self.invariant.distinct;
}
