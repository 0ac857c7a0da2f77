use Rattle.std.proofs.Common.{ℕ, List, ◌≡◌, ◌<◌, ◌≤◌, ◌∙◌, ◌++◌, length, take, get_or, refl, sym, ap, subst, arith}
use Rattle.std.specs.Prelude.{slice_set, true, flat_map}
use Rattle.std.proofs.lemmas.List.{length-set, take_all}
use Rattle.list_laws.proofs.Lists.{In}
use Rattle.history_order.specs.Tables.{brought, firsts_of, marked}
use Rattle.history_order.proofs.Firsts.{firsts_are, mark_more, bring_more, get_in}
use Rattle.history_order.proofs.moves.place_version.Goals as goal

pub place_row-requires : goal.place_row-requires
place_row-requires c =
    let latest : ℕ = c.args.progress.now.latest in
    let is = firsts_are c.args.found.now latest c.index.result.now c.deref-row-items.result.now c.requires.there
    c.index.ensures c.deref-row-items.ensures.value in
    let member = c.requires.firsts (get_or c.deref-row-items.result.now c.loop-row.row-index 0)
    (subst (λ xs. In (get_or c.deref-row-items.result.now c.loop-row.row-index 0) xs) is
    (get_in c.deref-row-items.result.now c.loop-row.row-index 0 (omega arith))) in
    omega (arith, member, c.loop-row.invariant.length)

pub loop-row-preserved : goal.loop-row-preserved
loop-row-preserved c =
    let latest : ℕ = c.args.progress.now.latest in
    let firsts : List ℕ = firsts_of c.args.found.now latest in
    let i : ℕ = c.loop-row.row-index in
    let is = firsts_are c.args.found.now latest c.index.result.now c.deref-row-items.result.now c.requires.there
    c.index.ensures c.deref-row-items.ensures.value in
    let inside : i < length firsts = subst (λ (xs : List ℕ). i < length xs) is (omega arith) in
    let row : get_or c.deref-row-items.result.now i 0 ≡ get_or firsts i 0 = ap (λ (xs : List ℕ). get_or xs i 0) is in
    record {
      placed = c.in_ok-place_row.ensures.placed
          ∙ ap (λ xs. slice_set xs (get_or c.deref-row-items.result.now i 0) true) c.loop-row.invariant.placed
          ∙ ap (λ r. slice_set (marked c.args.progress.now.placed.items (take i firsts)) r true) row
          ∙ sym (mark_more c.args.progress.now.placed.items firsts i inside);
      length = ap length c.in_ok-place_row.ensures.placed
          ∙ length-set c.loop-row.progress.placed.items (get_or c.deref-row-items.result.now i 0) true
          ∙ c.loop-row.invariant.length;
      looks = c.in_ok-place_row.ensures.looks ∙ c.loop-row.invariant.looks;
      latest = c.in_ok-place_row.ensures.latest ∙ c.loop-row.invariant.latest;
      aside = bring_more c.args.found.now c.args.progress.now.looks.items c.args.progress.now.aside.items
          c.loop-row.progress.aside.items c.place_row.new.progress.aside.items firsts i inside
          c.loop-row.invariant.aside
          (c.in_ok-place_row.ensures.aside
          ∙ ap (λ looks. c.loop-row.progress.aside.items
          ++ brought c.args.found.now looks (get_or c.deref-row-items.result.now i 0)) c.loop-row.invariant.looks
          ∙ ap (λ r. c.loop-row.progress.aside.items
          ++ brought c.args.found.now c.args.progress.now.looks.items r) row);
    }

pub returns : goal.returns
returns c =
    let latest : ℕ = c.args.progress.now.latest in
    let firsts : List ℕ = firsts_of c.args.found.now latest in
    let is = firsts_are c.args.found.now latest c.index.result.now c.deref-row-items.result.now c.requires.there
    c.index.ensures c.deref-row-items.ensures.value in
    let all : take c.loop-row.row-index firsts ≡ firsts =
    take_all c.loop-row.row-index firsts (subst (λ (xs : List ℕ). length xs ≤ c.loop-row.row-index) is (omega arith)) in
    record {
      placed = c.loop-row.invariant.placed ∙ ap (marked c.args.progress.now.placed.items) all;
      looks = c.loop-row.invariant.looks;
      latest = refl;
      aside = c.loop-row.invariant.aside
          ∙ ap (λ rows. c.args.progress.now.aside.items ++ flat_map (brought c.args.found.now
          c.args.progress.now.looks.items) rows) all;
    }
