use Rattle.std.proofs.Common.{◌≡◌, ◌≤◌, List, ◌++◌, Some, length, reverse, vec_capacity, sym, subst, ap, ◌∙◌}
use Rattle.std.specs.Prelude.{All, IfSome}
use Rattle.std.proofs.lemmas.List.Elements.{All-append}
use Rattle.std.proofs.lemmas.List.Sorted.{All-permutation, IsPermutation-reverse}
use Rattle.table_model.specs.Setup.{seats_of}
use Rattle.shared_table.specs.SeatValues.{SeatValue}
use Rattle.shared_table.specs.Values.{IsOf, Ran, TableValue, new_seats}
use Rattle.flowdir_c.specs.Shelves.{ShelfValue, WasLeftTo}
use Rattle.flowdir_c.specs.Insides.{table_in}
use Rattle.flowdir_c.proofs.ShelfLemmas.{all_of}
use Rattle.flowdir_c.proofs.shelf.Shelf.close.Goals as goal

-- the seats that come together are the table's: those that were given back, and those that nobody has had
pub close_in_place-requires-clause-seats : goal.close_in_place-requires-clause-seats
close_in_place-requires-clause-seats c =
    let t : TableValue = c.in-Ok.directory in
    let back : List SeatValue = c.self.inside.back.items in
    let fresh : List SeatValue = c.self.inside.fresh.items in
    let whole : table_in c.self.inside.directory ≡ Some t =
    ap table_in (sym c.take.ensures.value ∙ c.in-Some.is) ∙ ap (λ (u : TableValue). Some u) (sym c.in-Ok.ensures.ok) in
    let new : fresh ≡ new_seats t 0 (length fresh) =
    subst (λ o. IfSome o (λ (u : TableValue). fresh ≡ new_seats u 0 (length fresh))) whole c.self.invariant.new in
    let of : All (IsOf t) back =
    subst (λ o. IfSome o (λ (u : TableValue). All (IsOf u) back)) whole c.self.invariant.of in
    let are : c.replace-seats.result.items ≡ back ++ reverse fresh =
    ap (λ v. v.items) c.replace-seats.ensures.value ∙ c.move_all.ensures.all in
    subst (All (IsOf t)) (sym are) (All-append (IsOf t) back (reverse fresh) of
    (All-permutation (IsOf t) fresh (reverse fresh) (IsPermutation-reverse fresh)
    (subst (All (IsOf t)) (sym new) (all_of t 0 (length fresh)))))

-- no table runs then, and a run left the closed one
pub invariant_of-self-in-Ok : goal.invariant_of-self-in-Ok
invariant_of-self-in-Ok c = record {
  new = subst (λ o. IfSome (table_in o)
      (λ (t : TableValue). c.move_all.new.from.items ≡ new_seats t 0 (length c.move_all.new.from.items)))
      (sym c.take.ensures.after) tt;
  of = subst (λ o. IfSome (table_in o) (λ (t : TableValue). All (IsOf t) c.replace-seats.new.dest.items))
      (sym c.take.ensures.after) tt;
  all = subst (λ o. IfSome (table_in o) (λ (t : TableValue). c.self.inside.count ≡ seats_of t.setup))
      (sym c.take.ensures.after) tt;
  room = subst (λ o. IfSome (table_in o)
      (λ (t : TableValue). c.self.inside.count ≤ vec_capacity c.replace-seats.new.dest))
      (sym c.take.ensures.after) tt;
  ran = record {
    setup = c.in-Ok.directory.setup;
    seats = c.replace-seats.result.items;
    left = record { ran = c.close_in_place.ensures.ran; shape = c.close_in_place.ensures.shape };
  };
  listed = λ is. cc;
  kept = c.self.invariant.kept;
  distinct = c.self.invariant.distinct;
}

-- it is the table that ran, and left exactly the seats that were given back and those that nobody had had
pub returns-in-Ok-clause-left : goal.returns-in-Ok-clause-left
returns-in-Ok-clause-left c = λ is.
    let t : TableValue = c.in-Ok.directory in
    let fresh : List SeatValue = c.self.inside.fresh.items in
    let whole : table_in c.self.inside.directory ≡ Some t =
    ap table_in (sym c.take.ensures.value ∙ c.in-Some.is) ∙ ap (λ (u : TableValue). Some u) (sym c.in-Ok.ensures.ok) in
    let new : fresh ≡ new_seats t 0 (length fresh) =
    subst (λ o. IfSome o (λ (u : TableValue). fresh ≡ new_seats u 0 (length fresh))) whole c.self.invariant.new in
    let free = ap (λ (v : ShelfValue). v.free) c.self.view_is in
    let back = ap (λ (v : ShelfValue). v.back) c.self.view_is in
    let is_left : WasLeftTo t.setup (c.args.self.now.back ++ reverse (new_seats t 0 c.args.self.now.free))
    c.close_in_place.result = record {
      ran = subst (λ seats. Ran t.setup c.close_in_place.result.words seats)
          (ap (λ v. v.items) c.replace-seats.ensures.value ∙ c.move_all.ensures.all
          ∙ (λ i. back i ++ reverse ((new ∙ ap (new_seats t 0) free) i)))
          c.close_in_place.ensures.ran;
      shape = c.close_in_place.ensures.shape;
    } in
    (t, (sym (ap (λ (v : ShelfValue). v.table) c.self.view_is) ∙ whole, is_left))
