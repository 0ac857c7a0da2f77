use Rattle.std.proofs.Common.{◌≡◌, sym, ap, ◌∙◌, subst, length}
use Rattle.std.specs.Prelude.{IfSome}
use Rattle.std.specs.Arc.{arc_value}
use Rattle.shared_table.specs.SeatValues.{SeatValue}
use Rattle.shared_table.specs.Values.{TableValue, new_seat, new_seats}
use Rattle.flowdir_c.specs.Insides.{table_in}
use Rattle.flowdir_c.proofs.ShelfLemmas.{if_some, take_last}
use Rattle.flowdir_c.proofs.shelf.Shelf.take.Goals as goal

-- the seats that are left are the table's first ones
pub invariant_of-self-2 : goal.invariant_of-self-2
invariant_of-self-2 c = record {
  new = if_some (λ (t : TableValue). c.self.inside.fresh.items ≡ new_seats t 0 (length c.self.inside.fresh.items))
      (λ (t : TableValue). c.pop.new.self.items ≡ new_seats t 0 (length c.pop.new.self.items))
      (table_in c.self.inside.directory)
      (λ t e old. (take_last t c.self.inside.fresh.items c.pop.new.self.items c.in-Some-pop.seat old
      c.in-Some-pop.ensures.items).0) c.self.invariant.new;
  of = c.self.invariant.of;
  all = c.self.invariant.all;
  room = c.self.invariant.room;
  ran = c.self.invariant.ran;
  listed = c.self.invariant.listed;
  kept = c.self.invariant.kept;
  distinct = c.self.invariant.distinct;
}

-- and the one that is taken is as it was opened
pub holder_of-requires : goal.holder_of-requires
holder_of-requires c =
    let all = subst (λ o. IfSome (table_in o)
    (λ (t : TableValue). c.self.inside.fresh.items ≡ new_seats t 0 (length c.self.inside.fresh.items)))
    c.in-Some.is c.self.invariant.new in
    let one = (take_last (arc_value c.in-Some.directory) c.self.inside.fresh.items c.pop.new.self.items
    c.in-Some-pop.seat all c.in-Some-pop.ensures.items).1 in
    one ∙ (λ i. new_seat (sym c.in-Ok.ensures i) (sym (ap (λ (s : SeatValue). s.holding.seat) one) i))

pub returns-clause-new : goal.returns-clause-new
returns-clause-new c =
    let all = subst (λ o. IfSome (table_in o)
    (λ (t : TableValue). c.self.inside.fresh.items ≡ new_seats t 0 (length c.self.inside.fresh.items)))
    c.in-Some.is c.self.invariant.new in
    let one = (take_last (arc_value c.in-Some.directory) c.self.inside.fresh.items c.pop.new.self.items
    c.in-Some-pop.seat all c.in-Some-pop.ensures.items).1 in
    c.holder_of.ensures.seat ∙ one
    ∙ ap (λ (t : TableValue). new_seat t (length c.pop.new.self.items))
    (sym (c.holder_of.ensures.directory ∙ c.in-Ok.ensures))
