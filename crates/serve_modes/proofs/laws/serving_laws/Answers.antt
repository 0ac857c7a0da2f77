use Rattle.std.proofs.Common.{◌≡◌, refl, arith}
use Rattle.std.proofs.lemmas.List.Elements.{All-replicate}
use Rattle.batch_answers.specs.Answers.{AreNone}
use Rattle.batch_history.specs.Batches.{no_counts}
use Rattle.serve_modes.proofs.ServedLines.{lines_counted}
use Rattle.serve_modes.proofs.ShortLines.{lines_within}
use Rattle.serve_modes.proofs.laws.serving_laws.Goals as goal

-- the printed counts begin with none
counts_none : AreNone no_counts
counts_none = (omega arith, All-replicate (λ count. count ≡ 0) 8 0 refl)

pub returns : goal.returns
returns c = λ service batches served.
    let right = c.served_laws.ensures.right service batches served in
    record {
      right = right;
      once = c.answer_laws.ensures.once service no_counts batches counts_none served;
      within = lines_within service batches served right.each;
      numbered = lines_counted c.batches_laws.ensures.numbered counts_none service batches served;
      answered = λ own. c.answer_laws.ensures.all service batches own served;
      one_thread = c.answer_laws.ensures.one_thread service batches served;
    }
