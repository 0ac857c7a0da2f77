use Rattle.std.proofs.Common.{[], ◌∷◌, ◌++◌, Some, sym, ap, ◌∙◌}
use Rattle.std.specs.Arc.{arc_value}
use Rattle.std.proofs.lemmas.List.Elements.{All-pop, All-push, All-same}
use Rattle.lasting_table.specs.Values.{IsPartyOf, TableValue}
use Rattle.flowdir_c.specs.LastingShelves.{LastingValue}
use Rattle.flowdir_c.proofs.LastingLemmas.{of_same}
use Rattle.flowdir_c.proofs.lasting_shelf.LastingShelf.fill.Goals as goal

-- the seat that comes back is of this table
pub invariant_of-self : goal.invariant_of-self
invariant_of-self c =
    let t : TableValue = arc_value c.self.inside.table in
    let cut = All-pop (IsPartyOf t) c.self.inside.free.items c.pop.new.self.items (Some c.in-Some.seat)
    c.in-Some.ensures.items c.self.invariant.of in
    record {
      of = All-same (IsPartyOf t) c.push_reserved.new.self.items (c.pop.new.self.items ++ c.bring-is_done.new.seat ∷ [])
          c.push_reserved.ensures.items (All-push (IsPartyOf t) c.pop.new.self.items c.bring-is_done.new.seat cut.0
          (of_same t c.in-Some.seat c.bring-is_done.new.seat c.bring-is_done.ensures.same cut.1));
      sized = c.self.invariant.sized;
    }

-- and it has brought the pairs
pub returns-then-len-capacity-clause-brought : goal.returns-then-len-capacity-clause-brought
returns-then-len-capacity-clause-brought c = λ done. record {
  others = c.pop.new.self.items;
  seat = c.in-Some.seat;
  then = c.bring-is_done.new.seat;
  was_is = sym (ap (λ (v : LastingValue). v.free) c.self.view_is) ∙ c.in-Some.ensures.items;
  now_is = c.push_reserved.ensures.items;
  brought = c.bring-is_done.ensures.brought done;
}

-- or it was stopped
pub returns-then-len-capacity-clause-stopped : goal.returns-then-len-capacity-clause-stopped
returns-then-len-capacity-clause-stopped c = λ is. record {
  others = c.pop.new.self.items;
  seat = c.in-Some.seat;
  then = c.bring-is_done.new.seat;
  was_is = sym (ap (λ (v : LastingValue). v.free) c.self.view_is) ∙ c.in-Some.ensures.items;
  stopped = c.bring-is_done.ensures.stopped is;
}
