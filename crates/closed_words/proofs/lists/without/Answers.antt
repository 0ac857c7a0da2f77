use Rattle.std.proofs.Common.{ℕ, Vec, Global, ap, ◌∙◌, sym}
use Rattle.std.specs.Prelude.{not}
use Rattle.std.specs.List.{filter}
use Rattle.table_model.specs.Reading.{is_among}
use Rattle.closed_words.proofs.LoopLemmas.{filter-kept, filter-left}
use Rattle.closed_words.proofs.lists.without.Goals as goal
use Rattle.closed_words.proofs.lists.without.Goals.{then-not-contains+in_ok-push, else-not-contains}

pub loop-number-preserved : goal.loop-number-preserved
loop-number-preserved c =
    let named = c.args.numbers.now in
    let i = c.loop-number.number-index in
    elim c.if-not-contains.branch [
      | then-not-contains+in_ok-push w ↦
          filter-kept (λ number. not (is_among c.args.others.now number)) named i 0 c.loop-number.left.items
          (filter (λ number. not (is_among c.args.others.now number)) named) c.if-not-contains.left.items
          c.loop-number-test.true
          (ap not (sym c.contains.ensures.value ∙ w.if-not-contains.true))
          (ap (λ (v : Vec ℕ Global). v.items) w.left-is ∙ w.in_ok-push.ensures.items) c.loop-number.invariant
      | else-not-contains w ↦
          filter-left (λ number. not (is_among c.args.others.now number)) named i 0 c.loop-number.left.items
          (filter (λ number. not (is_among c.args.others.now number)) named) c.if-not-contains.left.items
          c.loop-number-test.true
          (ap not (sym c.contains.ensures.value ∙ w.if-not-contains.false))
          (ap (λ (v : Vec ℕ Global). v.items) w.left-is) c.loop-number.invariant
    ]
