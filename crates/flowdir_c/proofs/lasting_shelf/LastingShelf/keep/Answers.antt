use Rattle.std.proofs.Common.{[], ◌∷◌, ◌++◌, sym, ap, ◌∙◌, subst}
use Rattle.std.specs.Arc.{arc_value}
use Rattle.std.proofs.lemmas.List.Elements.{All-push, All-same}
use Rattle.lasting_table.specs.Values.{IsPartyOf, TableValue}
use Rattle.flowdir_c.specs.LastingShelves.{LastingValue}
use Rattle.flowdir_c.proofs.lasting_shelf.LastingShelf.keep.Goals as goal

-- the seat that comes back is of this table
pub invariant_of-self : goal.invariant_of-self
invariant_of-self c =
    let t : TableValue = arc_value c.self.inside.table in
    let own = c.requires.own ∙ sym (ap (λ (v : LastingValue). v.table) c.self.view_is) in
    record {
      of = All-same (IsPartyOf t) c.push_reserved.new.self.items (c.self.inside.free.items ++ c.args.holder.seat ∷ [])
          c.push_reserved.ensures.items (All-push (IsPartyOf t) c.self.inside.free.items c.args.holder.seat
          c.self.invariant.of (subst (λ (u : TableValue). IsPartyOf u c.args.holder.seat) own c.args.holder.of));
      sized = c.self.invariant.sized;
    }
