use Rattle.std.proofs.Common.{◌≡◌, List, [], ◌∷◌, ◌++◌, sym, ap, ◌∙◌, subst, append_assoc}
use Rattle.std.specs.Prelude.{All}
use Rattle.sim_totals.specs.Rule.{plain}
use Rattle.sim_totals.specs.Values.{AdderValue, TableValue, IsOf}
use Rattle.sim_totals.specs.Insides.{HasAll}
use Rattle.sim_totals.proofs.Gathering.{joins, all_of-end, gathers, gathers_first}
use Rattle.sim_totals.proofs.table.gather.Goals as goal

pub loop-adder-init : goal.loop-adder-init
loop-adder-init c =
    let d : TableValue = record { table_id = c.args.words.now.table_id; settings = plain c.args.words.now.key } in
    let xs : List AdderValue = c.pop.new.self.items in
    let e : c.args.adders.items ≡ xs ++ c.in-Some.last ∷ [] = c.in-Some.ensures.items in
    let o = all_of-end d xs c.in-Some.last (subst (All (IsOf d)) e c.requires.adders) in (
      c.in-Some.last ∷ [],
      e,
      o.0,
      gathers_first d c.in-Some.last c.unseated-token.result o.1.table o.1.settings
          c.unseated-token.ensures.table c.unseated-token.ensures.me,
    )

pub join_seat-requires : goal.join_seat-requires
join_seat-requires c =
    let d : TableValue = record { table_id = c.args.words.now.table_id; settings = plain c.args.words.now.key } in
    let xs : List AdderValue = c.pop-in-loop-adder.new.self.items in
    let x : AdderValue = c.in-Some-pop.adder in
    let e : c.loop-adder.adders.items ≡ xs ++ x ∷ [] = c.in-Some-pop.ensures.items in
    let o = all_of-end d xs x (subst (All (IsOf d)) e c.loop-adder.invariant.2) in
    let h : HasAll d c.loop-adder.invariant.0 c.loop-adder.token = c.loop-adder.invariant.3 in (
      h.table,
      c.unseated.ensures.table ∙ o.1.table,
      ap (λ m. m.1) c.unseated.ensures.me,
      c.requires.table,
      joins (plain c.args.words.now.key) _ _ _ _
          (ap (λ m. m.0.settings) c.unseated.ensures.me ∙ o.1.settings ∙ sym (ap (λ m. m.0.settings) h.me)),
    )

pub loop-adder-preserved : goal.loop-adder-preserved
loop-adder-preserved c =
    let d : TableValue = record { table_id = c.args.words.now.table_id; settings = plain c.args.words.now.key } in
    let xs : List AdderValue = c.pop-in-loop-adder.new.self.items in
    let x : AdderValue = c.in-Some-pop.adder in
    let done : List AdderValue = c.loop-adder.invariant.0 in
    let e : c.loop-adder.adders.items ≡ xs ++ x ∷ [] = c.in-Some-pop.ensures.items in
    let o = all_of-end d xs x (subst (All (IsOf d)) e c.loop-adder.invariant.2) in
    let l : (xs ++ x ∷ []) ++ done ≡ xs ++ (x ∷ done) = append_assoc xs (x ∷ []) done in (
      x ∷ done,
      c.loop-adder.invariant.1 ∙ ap (λ (ys : List AdderValue). ys ++ done) e ∙ l,
      o.0,
      gathers d done x c.loop-adder.token c.unseated.result c.join_seat.new.seat c.loop-adder.invariant.3
          o.1.settings c.unseated.ensures.me c.join_seat.ensures.0 c.join_seat.ensures.2,
    )
