-- Zeros, and the head.
use Rattle.std.proofs.Common.{◌+◌, ◌*◌, ◌∙◌, arith}
use Rattle.step_counts.specs.declared.TheConstants.{ITEM_WORDS}
use Rattle.lasting_calls.proofs.RowLemmas.{words_filled, zeros_are}
use Rattle.lasting_calls.proofs.rows.fill.Goals as goal

pub returns : goal.returns
returns c = record {
  filled = record {
    words_are = words_filled c.args.words.now c.fill.new.self c.args.bucket c.args.desk.now.settings.depth 0 0
        c.args.most c.args.end (5 + ITEM_WORDS * c.args.desk.now.settings.items) c.requires.low c.requires.end
        (omega (arith, c.requires.words))
        (c.fill.ensures.after (λ y e. e)
        ∙ zeros_are c.args.desk.now.settings c.args.words.now c.args.end c.requires.words);
  };
}
