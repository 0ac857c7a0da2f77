-- Row by row: what was met grows by the row's entries.
use Rattle.std.proofs.Common.{◌++◌, ◌∷◌, [], ℕ, ◌<◌, List, Vec, Global, length, map, get_or, ap, ◌∙◌, arith}
use Rattle.std.proofs.lemmas.List.{map-append}
use Rattle.word_rows.specs.Shape.{Shape}
use Rattle.word_rows.specs.LayoutView.{shape_of}
use Rattle.history_order.specs.Filling.{entries_of}
use Rattle.history_order.proofs.Loops.{leaves_go}
use Rattle.history_order.proofs.leaves.leaves.Goals as goal

pub loop-row-preserved : goal.loop-row-preserved
loop-row-preserved g c =
    let shape : Shape = shape_of c.args.starts.now.layout in
    let words : List ℕ = g.W.Words.words c.args.words.now in
    let rows : List ℕ = c.args.rows.now in
    let i : ℕ = c.loop-row.row-index in
    let inv = c.loop-row.invariant in
    let known : List ℕ = inv.0 in
    let inside : i < length rows = omega arith in (
      known ++ entries_of shape words (get_or rows i 0),
      c.in_ok-new_leaves.ensures.met known inv.1,
      leaves_go shape words known rows i (map (λ (v : Vec ℕ Global). v.items) c.loop-row.leaves.items) _
          (map (λ (v : Vec ℕ Global). v.items) c.push.new.self.items) inside
          (ap (map (λ (v : Vec ℕ Global). v.items)) c.in_ok-push.ensures.items
          ∙ map-append (λ (v : Vec ℕ Global). v.items) c.loop-row.leaves.items (c.in_ok-new_leaves.field-0 ∷ [])
          ∙ ap (λ (xs : List ℕ). map (λ (v : Vec ℕ Global). v.items) c.loop-row.leaves.items ++ xs ∷ [])
          (c.in_ok-new_leaves.ensures.leaves known inv.1)) inv.2,
    )
