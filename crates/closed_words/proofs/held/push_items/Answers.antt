use Rattle.std.proofs.Common.{List, [], ◌∷◌, ◌++◌, map, ap, ◌∙◌, sym, arith}
use Rattle.std.specs.List.{range_with_len}
use Rattle.std.proofs.lemmas.List.{append_assoc}
use Rattle.std.proofs.lemmas.List.FromFn.{map-range_with_len_more}
use Rattle.plain_map.specs.declared.keys.Pair.{Pair}
use Rattle.word_rows.specs.LayoutView.{shape_of}
use Rattle.closed_words.proofs.ItemLemmas.{item_of}
use Rattle.closed_words.proofs.held.push_items.Goals as goal

pub loop-i-preserved : goal.loop-i-preserved
loop-i-preserved g c =
    let item = item_of (shape_of c.args.starts.now.layout) (g.W.Words.words c.args.words.now) c.args.row in
    let before = map item (range_with_len 0 c.loop-i.i) in
    c.in_ok-push.ensures.items
    ∙ ap (λ (pairs : List Pair). pairs ++ c.item_at.result ∷ []) c.loop-i.invariant
    ∙ ap (λ (x : Pair). c.args.pairs.now.items ++ before ++ x ∷ []) c.item_at.ensures
    ∙ append_assoc c.args.pairs.now.items before (item c.loop-i.i ∷ [])
    ∙ ap (λ (pairs : List Pair). c.args.pairs.now.items ++ pairs)
    (sym (map-range_with_len_more item 0 c.loop-i.i c.loop-i.i (omega arith)))
