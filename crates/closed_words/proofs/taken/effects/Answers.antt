use Rattle.std.proofs.Common.{◌∙◌}
use Rattle.word_rows.specs.LayoutView.{shape_of}
use Rattle.closed_words.proofs.TakenLemmas.{effects-same}
use Rattle.closed_words.proofs.taken.effects.Goals as goal

pub returns : goal.returns
returns g c = effects-same (shape_of c.args.starts.now.layout) (g.W.Words.words c.args.words.now) _ c.args.begun.now
    c.applied_in.result (c.deref.ensures.value ∙ c.in_ok-rows.ensures) c.applied_in.ensures
