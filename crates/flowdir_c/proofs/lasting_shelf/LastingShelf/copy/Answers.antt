use Rattle.std.proofs.Common.{[], ◌∷◌, ◌++◌, Some, sym, ap, ◌∙◌}
use Rattle.std.specs.Arc.{arc_value}
use Rattle.std.proofs.lemmas.List.Elements.{All-pop, All-push, All-same}
use Rattle.lasting_table.specs.Values.{IsPartyOf, TableValue}
use Rattle.flowdir_c.specs.LastingShelves.{LastingValue}
use Rattle.flowdir_c.proofs.LastingLemmas.{of_same}
use Rattle.flowdir_c.proofs.lasting_shelf.LastingShelf.copy.Goals as goal

-- the seat that comes back is of this table
pub invariant_of-self : goal.invariant_of-self
invariant_of-self c =
    let t : TableValue = arc_value c.self.inside.table in
    let cut = All-pop (IsPartyOf t) c.self.inside.free.items c.pop.new.self.items (Some c.in-Some.seat)
    c.in-Some.ensures.items c.self.invariant.of in
    record {
      of = All-same (IsPartyOf t) c.push_reserved.new.self.items (c.pop.new.self.items ++ c.copy_by-told.new.seat ∷ [])
          c.push_reserved.ensures.items (All-push (IsPartyOf t) c.pop.new.self.items c.copy_by-told.new.seat cut.0
          (of_same t c.in-Some.seat c.copy_by-told.new.seat c.copy_by-told.ensures.same cut.1));
      sized = c.self.invariant.sized;
    }

-- and it has copied the bucket, or could not
pub returns-then-len-capacity-clause-told : goal.returns-then-len-capacity-clause-told
returns-then-len-capacity-clause-told c = record {
  others = c.pop.new.self.items;
  seat = c.in-Some.seat;
  then = c.copy_by-told.new.seat;
  was_is = sym (ap (λ (v : LastingValue). v.free) c.self.view_is) ∙ c.in-Some.ensures.items;
  now_is = c.push_reserved.ensures.items;
  became = c.copy_by-told.ensures.told;
  refuses = c.copy_by-told.ensures.refuses;
}
