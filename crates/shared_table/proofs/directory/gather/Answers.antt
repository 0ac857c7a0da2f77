use Rattle.std.proofs.Common.{◌≡◌, List, [], ◌∷◌, ◌++◌, ap, ◌∙◌, subst, append_assoc}
use Rattle.std.specs.Prelude.{All}
use Rattle.shared_table.specs.Rule.{plain}
use Rattle.shared_table.specs.SeatValues.{SeatValue}
use Rattle.shared_table.specs.Values.{TableValue, IsOf}
use Rattle.shared_table.specs.Gathered.{HasAll}
use Rattle.shared_table.proofs.Parts.{joins, all_of-end, gathers, gathers_first}
use Rattle.shared_table.proofs.directory.gather.Goals as goal

pub loop-seat-init : goal.loop-seat-init
loop-seat-init c =
    let t : TableValue = record { table_id = c.args.words.now.table_id; setup = plain c.args.words.now.key } in
    let xs : List SeatValue = c.pop.new.self.items in
    let e : c.args.seats.items ≡ xs ++ c.in-Some.last ∷ [] = c.in-Some.ensures.items in
    let o = all_of-end t xs c.in-Some.last (subst (All (IsOf t)) e c.requires.seats) in (
      c.in-Some.last ∷ [],
      e,
      o.0,
      gathers_first t c.in-Some.last c.unseated-token.result o.1.table
          c.unseated-token.ensures.table c.unseated-token.ensures.me c.unseated-token.ensures.idle,
    )

pub join_seat-requires : goal.join_seat-requires
join_seat-requires c =
    let t : TableValue = record { table_id = c.args.words.now.table_id; setup = plain c.args.words.now.key } in
    let xs : List SeatValue = c.pop-in-loop-seat.new.self.items in
    let x : SeatValue = c.in-Some-pop.seat in
    let e : c.loop-seat.seats.items ≡ xs ++ x ∷ [] = c.in-Some-pop.ensures.items in
    let o = all_of-end t xs x (subst (All (IsOf t)) e c.loop-seat.invariant.2) in
    let h : HasAll t c.loop-seat.invariant.0 c.loop-seat.token = c.loop-seat.invariant.3 in (
      h.table,
      c.unseated.ensures.table ∙ o.1.table,
      ap (λ m. m.1) c.unseated.ensures.me,
      c.requires.table,
      joins (plain c.args.words.now.key) _ _ _ _,
    )

pub loop-seat-preserved : goal.loop-seat-preserved
loop-seat-preserved c =
    let t : TableValue = record { table_id = c.args.words.now.table_id; setup = plain c.args.words.now.key } in
    let xs : List SeatValue = c.pop-in-loop-seat.new.self.items in
    let x : SeatValue = c.in-Some-pop.seat in
    let done : List SeatValue = c.loop-seat.invariant.0 in
    let e : c.loop-seat.seats.items ≡ xs ++ x ∷ [] = c.in-Some-pop.ensures.items in
    let o = all_of-end t xs x (subst (All (IsOf t)) e c.loop-seat.invariant.2) in
    let l : (xs ++ x ∷ []) ++ done ≡ xs ++ (x ∷ done) = append_assoc xs (x ∷ []) done in (
      x ∷ done,
      c.loop-seat.invariant.1 ∙ ap (λ (ys : List SeatValue). ys ++ done) e ∙ l,
      o.0,
      gathers t done x c.loop-seat.token c.unseated.result c.join_seat.new.seat c.loop-seat.invariant.3
          c.unseated.ensures.me c.unseated.ensures.idle c.join_seat.ensures.0 c.join_seat.ensures.2,
    )
