use Rattle.std.proofs.Common.{length, sym, ap, ◌∙◌, subst, arith}
use Rattle.std.specs.Prelude.{List, All}
use Rattle.lasting_model.specs.Plans.{Plan}
use Rattle.lasting_table.specs.Parties.{PartyValue}
use Rattle.lasting_table.specs.Values.{IsPartyOf, TableValue}
use Rattle.flowdir_c.proofs.LastingLemmas.{few_rows, length_new, new_of}
use Rattle.flowdir_c.proofs.lasting_shelf.lasting_shelf_of.Goals as goal

-- the rows are few enough
pub open-requires-clause-few : goal.open-requires-clause-few
open-requires-clause-few c = omega (arith, few_rows c.args.settings.now, c.rows_for.ensures)

-- the new seats are those of the table
pub invariant_of-result : goal.invariant_of-result
invariant_of-result c = record {
  of = subst (λ (t : TableValue). All (IsPartyOf t) c.in_ok-table.free.items) (sym c.in_ok-table-2.ensures.ok)
      (subst (λ (seats : List PartyValue). All (IsPartyOf c.in_ok-table.table) seats)
      (sym c.in_ok-table.ensures.seats) (new_of c.in_ok-table.table 0 c.args.settings.now.seats));
  sized = sym (ap (λ (t : TableValue). t.plan.settings) c.in_ok-table-2.ensures.ok
      ∙ ap (λ (p : Plan). p.settings) c.in_ok-table.ensures.plan);
}

-- there is a place for each
pub returns-clause-places : goal.returns-clause-places
returns-clause-places c =
    let many = ap length c.in_ok-table.ensures.seats ∙ length_new c.in_ok-table.table 0 c.args.settings.now.seats in
    omega (arith, many, c.in_ok-table.free.ok)
