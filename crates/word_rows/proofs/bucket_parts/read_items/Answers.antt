-- Each turn reads one more item.
use Rattle.std.proofs.Common.{◌≡◌, true, ◌*◌, ◌∷◌, ◌++◌, ◌∙◌, [], ap, sym, subst, arith, below_more}
use Rattle.std.specs.List.{All}
use Rattle.std.proofs.lemmas.List.{take_rest}
use Rattle.step_counts.specs.declared.TheConstants.{ITEM_WORDS}
use Rattle.word_rows.specs.Blocks.{block}
use Rattle.word_rows.specs.KeyWords.{pair_of_words}
use Rattle.word_rows.specs.BucketWords.{items_of_words}
use Rattle.word_rows.proofs.PartLemmas.{item_read, item_stands, first_values_next}
use Rattle.word_rows.proofs.bucket_parts.read_items.Goals as goal

pub returns-then-not-is_small-clause-stands : goal.returns-then-not-is_small-clause-stands
returns-then-not-is_small-clause-stands c =
    let i = c.loop-i.i in
    let both = item_read c.args.words.now i _ c.read_pair-pair.result (omega arith) c.read_pair-pair.ensures in (
      (λ h. cc),
      λ stands.
          let own = (item_stands c.args.words.now i c.read_pair-pair.result both.1 both.2).1
          (stands.values i c.loop-i-test.true) in
          let passes : c.is_small.result ≡ true = c.is_small.ensures.1 own in
          cc,
    )

pub loop-i-preserved : goal.loop-i-preserved
loop-i-preserved c =
    let i = c.loop-i.i in
    let words = c.args.words.now in
    let pair = c.read_pair-pair.result in
    let both = item_read words i _ c.read_pair-pair.result (omega arith) c.read_pair-pair.ensures in
    record {
      read = c.push_reserved.ensures.items ∙ ap (λ xs. xs ++ pair ∷ []) c.loop-i.invariant.read
          ∙ ap (λ p. items_of_words i words ++ p ∷ []) both.0
          ∙ sym (first_values_next (λ k. pair_of_words (block ITEM_WORDS k words)) i);
      counted = omega (arith, c.push_reserved.ensures.len);
      values = below_more _ _ c.loop-i.invariant.values
          ((item_stands words i pair both.1 both.2).0 (c.is_small.ensures.0 c.if-not-is_small.false));
      room = c.push_reserved.ensures.capacity ∙ c.loop-i.invariant.room;
    }

pub returns-clause-stands : goal.returns-clause-stands
returns-clause-stands c =
    let words = c.args.words.now in
    let rest = take_rest words (c.args.count * ITEM_WORDS) in (
      λ yes. record {
        values = λ i h. c.loop-i.invariant.values i (omega arith);
        zeros = subst (All (λ word. word ≡ 0)) rest (c.are_zeros.ensures.0 yes);
      },
      λ stands. c.are_zeros.ensures.1 (subst (All (λ word. word ≡ 0)) (sym rest) stands.zeros),
    )
