use Rattle.std.proofs.Common.{Some, sym, ap, ◌∙◌, subst}
use Rattle.std.specs.Arc.{arc_value}
use Rattle.std.proofs.lemmas.List.Elements.{All-pop}
use Rattle.lasting_table.specs.Values.{IsPartyOf, TableValue}
use Rattle.flowdir_c.proofs.lasting_shelf.LastingShelf.take.Goals as goal

-- the seat that is taken is of this table
pub invariant_of-result : goal.invariant_of-result
invariant_of-result c =
    let cut = All-pop (IsPartyOf (arc_value c.self.inside.table)) c.self.inside.free.items c.pop.new.self.items
    (Some c.in-Some.seat) c.in-Some.ensures.items c.self.invariant.of in
    record {
      of = subst (λ (t : TableValue). IsPartyOf t c.in-Some.seat) (sym c.in-Ok.ensures) cut.1;
      sized = c.self.invariant.sized ∙ ap (λ (t : TableValue). t.plan.settings) (sym c.in-Ok.ensures);
    }

-- and so are those that stay
pub invariant_of-self-2 : goal.invariant_of-self-2
invariant_of-self-2 c =
    let cut = All-pop (IsPartyOf (arc_value c.self.inside.table)) c.self.inside.free.items c.pop.new.self.items
    (Some c.in-Some.seat) c.in-Some.ensures.items c.self.invariant.of in
    record { of = cut.0; sized = c.self.invariant.sized }
