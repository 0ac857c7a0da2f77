-- The end of a report.
use Rattle.std.proofs.Common.{◌≡◌, ℕ, List, ◌++◌, length, Option, Some, None, Result, Ok, Err, sym, ◌∙◌, subst, append_assoc}
use Rattle.std.specs.Prelude.{OnOk}
use Rattle.capture_faults.specs.declared.ending.Ending.{Ending}
use Rattle.report_text.specs.Report.{input_line}
use Rattle.flows_runner.specs.declared.asked.Asked.{Asked}
use Rattle.flows_runner.specs.declared.blocks.Block.{Block}
use Rattle.flows_runner.specs.declared.flowing.Flowing.{Flowing}
use Rattle.flows_runner.specs.Blocks.{IsBlock, is_place}
use Rattle.flows_runner.specs.Going.{HasKeyTexts, IsDone, IsFlowing, StandsAtEnd, block_in, block_told}
use Rattle.flows_runner.specs.Served.{AreServed, Served}
use Rattle.flows_runner.specs.Told.{IsFlowsReport, packets_in}
use Rattle.flows_runner.proofs.ToldLemmas.{report_with, report_without}

-- what holds where all went well, by what is known then
pub follows : {E P Q : Type 0} {X : Type 0} (r : Result X E) → OnOk r P → (P → Q) → OnOk r Q
follows (Ok x) holds then = then holds
follows (Err e) holds then = tt

-- the block at the end has texts
pub end_texts : (job : Flowing) (packets : List (List ℕ)) (served : Served) (last : Option Block) →
    StandsAtEnd job packets served last → HasKeyTexts last
end_texts job packets served None stands = tt
end_texts job packets served (Some block) stands = stands.1.texts

-- the report, by what stands at its end
module _ (job : Flowing) (asked : Asked) (batches : List (List (List ℕ))) (put : List ℕ) (ending : Ending)
    (done : IsDone job asked batches put) where
  served_so : AreServed asked (packets_in batches) done.served
  served_so = subst (λ (a : Asked). AreServed a (packets_in batches) done.served) done.as_asked done.so.served_so

  pub reported : (last : Option Block) → StandsAtEnd job (packets_in batches) done.served last →
      IsFlowsReport asked batches ending (put ++ (block_told last ++ input_line ending))
  reported None there =
      report_without asked batches done.served put ending served_so done.told
      ((λ i. is_place ((sym done.as_asked) i).every ((sym done.so.packets_are) i)) ∙ there)
  reported (Some block) stands =
      report_with asked batches done.served put ending served_so done.told (block_in block)
      ((λ i. is_place ((sym done.as_asked) i).every ((sym done.so.packets_are) i)) ∙ stands.0)
      (subst (λ (a : Asked). IsBlock a (length (packets_in batches)) done.served.made (block_in block)) done.as_asked
      stands.1.is)

pub ended : (job : Flowing) (last : Option Block) (ending : Ending) (old new : List ℕ) →
    new ≡ (old ++ block_told last) ++ input_line ending →
    ((packets : List (List ℕ)) (blocks : ℕ) (served : Served) →
    IsFlowing job job.table job.seats.items packets blocks served → StandsAtEnd job packets served last) →
    (asked : Asked) (batches : List (List (List ℕ))) (put : List ℕ) → IsDone job asked batches put →
    (rest : List ℕ) × (new ≡ old ++ rest) × IsFlowsReport asked batches ending (put ++ rest)
ended job last ending old new is stands asked batches put done = (
  block_told last ++ input_line ending,
  is ∙ append_assoc old (block_told last) (input_line ending),
  reported job asked batches put ending done last (stands (packets_in batches) done.blocks done.served done.so),
)
