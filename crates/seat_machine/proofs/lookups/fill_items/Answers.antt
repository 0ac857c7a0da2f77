-- Each turn reads one more item.
use Rattle.std.proofs.Common.{◌∷◌, ◌++◌, ◌∙◌, [], ap, sym, arith}
use Rattle.step_counts.specs.declared.TheConstants.{ITEM_WORDS}
use Rattle.word_rows.specs.Blocks.{block}
use Rattle.word_rows.specs.KeyWords.{pair_of_words}
use Rattle.word_rows.specs.BucketWords.{items_of_words}
use Rattle.word_rows.proofs.PartLemmas.{item_read, first_values_next}
use Rattle.seat_machine.proofs.lookups.fill_items.Goals as goal

pub loop-i-preserved : goal.loop-i-preserved
loop-i-preserved c =
    let i = c.loop-i.i in
    let words = c.args.words.now in
    let pair = c.read_pair.result in
    let both = item_read words i _ pair (omega arith) c.read_pair.ensures in
    record {
      items = c.push_reserved.ensures.items ∙ ap (λ xs. xs ++ pair ∷ []) c.loop-i.invariant.items
          ∙ ap (λ p. items_of_words i words ++ p ∷ []) both.0
          ∙ sym (first_values_next (λ k. pair_of_words (block ITEM_WORDS k words)) i);
      len = omega (arith, c.push_reserved.ensures.len, c.loop-i.invariant.len);
      room = c.push_reserved.ensures.capacity ∙ c.loop-i.invariant.room;
    }
