-- A version more, and the rows of its buckets.
use Rattle.std.proofs.Common.{◌+◌, ◌≡◌, ◌∷◌, ◌++◌, [], ℕ, ◌<◌, List, Vec, Global, length, map, drop, get_or, inl, inr, sym, ap, ◌∙◌, subst, arith}
use Rattle.std.specs.Prelude.{flat_map, slice_get}
use Rattle.std.proofs.lemmas.List.{at_drop_more, get_or-map}
use Rattle.word_rows.specs.Shape.{Shape}
use Rattle.word_rows.specs.LayoutView.{shape_of}
use Rattle.history_order.specs.Columns.{IsMade}
use Rattle.history_order.specs.Filling.{exchanged_in, exchanged_of, firsts_in}
use Rattle.history_order.specs.declared.tables.Version.{Version}
use Rattle.closed_words.proofs.LoopLemmas.{grows}
use Rattle.history_order.proofs.Writes.{get_more, length_more}
use Rattle.history_order.proofs.versions.versions.Goals as goal

pub loop-at-preserved : goal.loop-at-preserved
loop-at-preserved g c =
    let shape : Shape = shape_of c.args.starts.now.layout in
    let words : List ℕ = g.W.Words.words c.args.words.now in
    let i : ℕ = c.loop-at.at in
    let before : List Version = c.loop-at.versions.items in
    let new : Version = c.in_ok-version.field-0 in
    let grown : c.push.new.self.items ≡ before ++ new ∷ [] = c.in_ok-push.ensures.items in
    let inside : i < length c.args.leaves.now = omega (arith, c.loop-at-test.true, c.requires) in
    let item : Vec ℕ Global → List ℕ = λ (v : Vec ℕ Global). v.items in
    let buckets_at : ℕ → List ℕ = λ at. get_or (map item c.args.leaves.now) at [] in
    let read : c.deref.result.now ≡ item (get_or c.args.leaves.now i c.index-leaves-at.result) =
    c.deref.ensures.value ∙ ap item c.index-leaves-at.is in
    let here : c.deref.result.now ≡ buckets_at i =
    read ∙ sym (get_or-map item c.args.leaves.now i c.index-leaves-at.result [] inside) in
    let rest : List ℕ = exchanged_in shape words (map item (drop (i + 1) c.args.leaves.now)) in
    let inv = c.loop-at.invariant in
    record {
      many = ap length grown ∙ length_more before new ∙ ap (λ n. n + 1) inv.many;
      made = λ at version e.
          elim (get_more before new at version (sym (ap (λ vs. slice_get vs at) grown) ∙ e)) [
            | inl old ↦ inv.made at version old
            | inr last ↦
                subst (λ n. IsMade shape words (get_or c.args.rows.now n 0) (buckets_at n) version)
                (sym (last.0 ∙ inv.many))
                (subst (λ v. IsMade shape words (get_or c.args.rows.now i 0) (buckets_at i) v)
                (sym last.1)
                (c.in_ok-version.ensures (buckets_at i)
                (c.in_ok-firsts.ensures.firsts ∙ ap (firsts_in shape words) here)))
          ];
      rows = grows c.loop-at.columns.rows.items (flat_map (exchanged_of shape words) c.deref.result.now) rest
          (exchanged_in shape words (map item (drop i c.args.leaves.now))) _ c.write_buckets.new.columns.rows.items
          c.in_ok-firsts.ensures.rows
          (at_drop_more (λ ls. exchanged_in shape words (map item ls)) c.args.leaves.now i c.index-leaves-at.result
          inside
          ∙ ap (λ bs. flat_map (exchanged_of shape words) bs ++ rest) (sym read)) inv.rows;
      columns = λ logs w. c.in_ok-firsts.ensures.columns logs (inv.columns logs w);
    }
