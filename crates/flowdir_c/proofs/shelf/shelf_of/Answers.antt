use Rattle.std.proofs.Common.{◌≡◌, List, Err, arith, sym, ap, ◌∙◌, subst}
use Rattle.std.specs.Prelude.{All}
use Rattle.std.specs.List.{IsDistinct}
use Rattle.std.specs.Arc.{arc_value}
use Rattle.std.proofs.lemmas.List.Elements.{All-nil}
use Rattle.hash_bits.specs.declared.hashing.Hashing.TheVariants.{Mix}
use Rattle.step_counts.specs.declared.rows.SeatRows.{SeatRows}
use Rattle.bucket_states.specs.Parts.{HasDistinctKeys}
use Rattle.table_model.specs.Setup.{IsPair, seats_of}
use Rattle.shared_table.specs.Openings.{setup_of}
use Rattle.shared_table.specs.Values.{IsOf, TableValue, new_seats}
use Rattle.plain_map.specs.declared.leaves.OpenFault.{OpenFault}
use Rattle.flowdir_c.specs.Fit.{rules_with}
use Rattle.flowdir_c.proofs.FitLemmas.{lack_at}
use Rattle.flowdir_c.proofs.shelf.shelf_of.Goals as goal

-- all its seats are new, and nothing is listed
pub invariant_of-result : goal.invariant_of-result
unfolding IsDistinct
invariant_of-result c =
    let t : TableValue = arc_value c.in-Ok-new.directory in
    let same : t ≡ c.in-Ok-open_in.directory = c.in-Ok-new.ensures.ok in
    record {
      new = c.in-Ok-open_in.ensures.seats ∙ ap (λ (u : TableValue). new_seats u 0 c.args.settings.now.seats) (sym same)
          ∙ ap (new_seats t 0) (sym c.in-Ok-open_in.ensures.count);
      of = subst (All (IsOf t)) (sym c.in-Ok-with_capacity.ensures.items) (All-nil (IsOf t));
      all = sym (ap (λ (u : TableValue). seats_of u.setup) same ∙ ap seats_of c.in-Ok-open_in.ensures.setup);
      room = omega (arith, c.in-Ok-with_capacity.ensures.exact);
      ran = tt;
      listed = λ is. cc;
      kept = subst (All IsPair) (sym c.new-in-Ok-open_in.ensures.items) (All-nil IsPair);
      distinct = subst HasDistinctKeys (sym c.new-in-Ok-open_in.ensures.items) tt;
    }

-- and it is what was asked for
pub returns-in-Ok-open_in-clause-opened : goal.returns-in-Ok-open_in-clause-opened
returns-in-Ok-open_in-clause-opened c =
    ap (λ (u : TableValue). u.setup) c.in-Ok-new.ensures.ok ∙ c.in-Ok-open_in.ensures.setup
    ∙ ap (λ (rows : List SeatRows). setup_of c.args.settings.now (Mix c.args.seed) rows c.args.first.now)
    (c.deref.ensures.value ∙ c.in-Ok.ensures.same)

-- with as many seats
pub returns-in-Ok-open_in-clause-seats : goal.returns-in-Ok-open_in-clause-seats
returns-in-Ok-open_in-clause-seats c = c.in-Ok-open_in.ensures.count

-- and one class lacks room where none is opened for want of it
pub returns-clause-no_room : goal.returns-clause-no_room
returns-clause-no_room c = λ is.
    lack_at (rules_with c.args.settings.now c.args.seed) c.args.first.now c.in-Err-NoRoom.field-0-0
    (c.in-Err-NoRoom.ensures.no_room c.in-Err-NoRoom.field-0-0
    (ap (λ (fault : OpenFault). Err fault) c.in-Err-NoRoom.field-0-is))

-- which cannot be where each pair finds room
pub returns-clause-room : goal.returns-clause-room
returns-clause-room c = λ have is.
    c.reopen_laws.ensures.has_room (rules_with c.args.settings.now c.args.seed) c.args.first.now
    c.in-Err-NoRoom.field-0-0 have
    (c.in-Err-NoRoom.ensures.no_room c.in-Err-NoRoom.field-0-0
    (ap (λ (fault : OpenFault). Err fault) c.in-Err-NoRoom.field-0-is))
