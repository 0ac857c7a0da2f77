use Rattle.std.proofs.Common.{◌≡◌, ◌<◌, length, vec_capacity, sym, ap, ◌∙◌, subst}
use Rattle.shared_table.specs.Values.{TableValue, new_seat, new_seats}
use Rattle.list_laws.proofs.Options.{some_same}
use Rattle.flowdir_c.specs.Insides.{table_in}
use Rattle.flowdir_c.specs.Shelves.{ShelfValue}
use Rattle.flowdir_c.proofs.ShelfLemmas.{if_some, put_last}
use Rattle.flowdir_c.proofs.shelf.Shelf.put_back.Goals as goal

-- the seat that is put back is the one that was taken last
pub invariant_of-self : goal.invariant_of-self
invariant_of-self c = record {
  new = if_some (λ (t : TableValue). c.self.inside.fresh.items ≡ new_seats t 0 (length c.self.inside.fresh.items))
      (λ (t : TableValue). c.add.new.seats.items ≡ new_seats t 0 (length c.add.new.seats.items))
      (table_in c.self.inside.directory)
      (λ t e old. put_last t c.self.inside.fresh.items c.add.new.seats.items c.args.holder.seat old
      (c.add.ensures.added (subst (λ n. n < vec_capacity c.self.inside.fresh) (sym c.self.inside.fresh.ok.0)
      (subst (λ (v : ShelfValue). v.free < v.free_places) (sym c.self.view_is) c.requires.place)))
      (c.requires.new ∙ (λ i. new_seat
      (some_same (c.requires.table ∙ sym (ap (λ (v : ShelfValue). v.table) c.self.view_is) ∙ e) i)
      (sym (ap (λ (v : ShelfValue). v.free) c.self.view_is) i))))
      c.self.invariant.new;
  of = c.self.invariant.of;
  all = c.self.invariant.all;
  room = c.self.invariant.room;
  ran = c.self.invariant.ran;
  listed = c.self.invariant.listed;
  kept = c.self.invariant.kept;
  distinct = c.self.invariant.distinct;
}
