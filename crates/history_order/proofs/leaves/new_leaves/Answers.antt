-- Entry by entry, from the last back.
use Rattle.std.proofs.Common.{◌≡◌, ℕ, ◌-◌, ◌<◌, ◌++◌, List, drop, sym, ap, ◌∙◌, subst, arith}
use Rattle.std.specs.Prelude.{slice_index_or, false}
use Rattle.word_rows.specs.Shape.{Shape}
use Rattle.word_rows.specs.LayoutView.{shape_of}
use Rattle.closed_words.specs.Marks.{AreMet}
use Rattle.history_order.specs.Filling.{entries_of}
use Rattle.history_order.proofs.Loops.{picked, leaf_goes, leaf_stays}
use Rattle.history_order.proofs.leaves.new_leaves.Goals.{then-not-was_met+in_ok-meet+in_ok-push, else-not-was_met}
use Rattle.history_order.proofs.leaves.new_leaves.Goals as goal

pub loop-i-preserved : goal.loop-i-preserved
loop-i-preserved g c known are =
    let shape : Shape = shape_of c.args.starts.now.layout in
    let words : List ℕ = g.W.Words.words c.args.words.now in
    let entries : List ℕ = entries_of shape words c.args.row in
    let inside : c.loop-i.i < c.entry_count-count.result = omega arith in
    let read : c.was_met.result ≡ slice_index_or c.loop-i.met.items c.entry-bucket.result false =
    c.was_met.ensures ∙ ap (λ ms. slice_index_or ms c.entry-bucket.result false) c.deref.ensures.value in
    elim c.if-not-was_met.branch [
      | then-not-was_met+in_ok-meet+in_ok-push w ↦
          leaf_goes known entries c.entry_count-count.result c.loop-i.i c.entry-bucket.result
          c.entry_count-count.ensures inside c.entry-bucket.ensures c.loop-i.leaves.items
          c.if-not-was_met.leaves.items c.loop-i.met.items c.if-not-was_met.met.items
          (sym read ∙ w.if-not-was_met.true)
          (ap (λ v. v.items) w.leaves-is ∙ w.in_ok-push.ensures.items)
          (λ n. ap (λ v. slice_index_or v.items n false) w.met-is ∙ w.in_ok-meet.ensures n)
          (c.loop-i.invariant known are)
      | else-not-was_met w ↦
          leaf_stays known entries c.entry_count-count.result c.loop-i.i c.entry-bucket.result
          c.entry_count-count.ensures inside c.entry-bucket.ensures c.loop-i.leaves.items
          c.if-not-was_met.leaves.items c.loop-i.met.items c.if-not-was_met.met.items
          (sym read ∙ w.if-not-was_met.false)
          (ap (λ v. v.items) w.leaves-is) (ap (λ v. v.items) w.met-is) (c.loop-i.invariant known are)
    ]

pub returns-clause-leaves : goal.returns-clause-leaves
returns-clause-leaves g c known are =
    let entries : List ℕ = entries_of (shape_of c.args.starts.now.layout) (g.W.Words.words c.args.words.now)
    c.args.row in
    let none : c.entry_count-count.result - c.loop-i.i ≡ 0 = omega arith in
    c.reverse.ensures.items ∙ (c.loop-i.invariant known are).0 ∙ ap (λ n. picked known (drop n entries)) none

pub returns-clause-met : goal.returns-clause-met
returns-clause-met g c known are =
    let entries : List ℕ = entries_of (shape_of c.args.starts.now.layout) (g.W.Words.words c.args.words.now)
    c.args.row in
    let none : c.entry_count-count.result - c.loop-i.i ≡ 0 = omega arith in
    subst (λ n. AreMet c.loop-i.met.items (known ++ drop n entries)) none (c.loop-i.invariant known are).1
