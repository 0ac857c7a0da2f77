-- What holds of a job that goes through flows: the text of it is that of its lines, and goes on to a report.
use Rattle.std.proofs.Common.{◌≡◌, ℕ, Bool, true, false, cond, List, [], ◌∷◌, ◌++◌, length, Option, Some, sym, ap, ◌∙◌, subst, append_assoc}
use Rattle.std.specs.List.{AllZip}
use Rattle.std.proofs.lemmas.Grind.{flat_map-append}
use Rattle.capture_faults.specs.declared.ending.Ending.{Ending}
use Rattle.report_text.specs.Flows.{FlowsBlock, flows_block, flows_head, flows_report}
use Rattle.report_text.specs.Report.{input_line}
use Rattle.flow_workers.specs.declared.workers.FlowWorker.{FlowWorker}
use Rattle.lasting_table.specs.Parties.{PartyValue}
use Rattle.lasting_table.specs.Values.{TableValue}
use Rattle.flows_runner.specs.declared.asked.Asked.{Asked}
use Rattle.flows_runner.specs.declared.flowing.Flowing.{Flowing}
use Rattle.flows_runner.specs.Asked.{head_of}
use Rattle.flows_runner.specs.BlockLaws.{a_block, block_of_all}
use Rattle.flows_runner.specs.Blocks.{IsBlockAt, is_place, last_place, places_within}
use Rattle.flows_runner.specs.Going.{IsDone, IsDoneOn, IsDoneWith}
use Rattle.flows_runner.specs.Served.{AreServed, Served}
use Rattle.flows_runner.specs.Told.{IsFlowsLines, IsFlowsReport, IsReportOf, blocks_text, packets_in}

-- ---- lines

-- the text of what was served is that of its lines
told_on : (job : Flowing) (table : Option TableValue) (seats : List PartyValue) (asked : Asked)
    (batches : List (List (List ℕ))) (put : List ℕ) → IsDoneOn job table seats asked batches put →
    IsFlowsLines asked batches put
told_on job table seats asked batches put is = (
  is.served,
  subst (λ (a : Asked). AreServed a (packets_in batches) is.served) is.as_asked is.so.served_so,
  record { blocks = is.told.blocks; are = is.told.are; text_is = is.told.text_is },
)

pub told_lines : (job : Flowing) (asked : Asked) (batches : List (List (List ℕ))) (put : List ℕ) →
    IsDone job asked batches put → IsFlowsLines asked batches put
told_lines job asked batches put is = told_on job job.table job.seats.items asked batches put is

-- also while a batch is open behind it
pub told_under : (job : Flowing) (t : TableValue) (workers : List FlowWorker) (asked : Asked)
    (batches : List (List (List ℕ))) (put : List ℕ) → IsDoneWith job t workers asked batches put →
    IsFlowsLines asked batches put
told_under job t workers asked batches put is = told_on job (Some t) is.seats asked batches put is.so

-- ---- a report

-- blocks behind others
pub zip_both : {A B : Type 0} (R : A → B → Type 0) (xs others : List A) (ys more : List B) → AllZip R xs ys →
    AllZip R others more → AllZip R (xs ++ others) (ys ++ more)
zip_both R [] others [] more one two = two
zip_both R [] others (y ∷ ys) more one two = absurd one
zip_both R (x ∷ xs) others [] more one two = absurd one
zip_both R (x ∷ xs) others (y ∷ ys) more one two = (one.0, zip_both R xs others ys more one.1 two)

-- the lines, the block at the end if one stands there, and the ending are a report
pub ends_report : (asked : Asked) (batches : List (List (List ℕ))) (served : Served) (blocks last : List FlowsBlock)
    (put : List ℕ) (ending : Ending) →
    AllZip (IsBlockAt asked (packets_in batches) served.made) (places_within asked.every batches) blocks →
    put ≡ flows_head (head_of asked) ++ blocks_text blocks →
    AllZip (IsBlockAt asked (packets_in batches) served.made)
    (last_place asked.every (length (packets_in batches))) last →
    IsReportOf asked batches served ending (put ++ (blocks_text last ++ input_line ending))
unfolding flows_report
ends_report asked batches served blocks last put ending are text_is at_end = record {
  blocks = blocks ++ last;
  are = zip_both (IsBlockAt asked (packets_in batches) served.made) (places_within asked.every batches)
      (last_place asked.every (length (packets_in batches))) blocks last are at_end;
  text_is =
      let head : List ℕ = flows_head (head_of asked) in
      let tail : List ℕ = blocks_text last ++ input_line ending in
      let text : FlowsBlock → List ℕ = λ (block : FlowsBlock). flows_block block.at block.pairs block.counts in
      ap (λ (l : List ℕ). l ++ tail) text_is
      ∙ append_assoc head (blocks_text blocks) tail
      ∙ ap (λ (l : List ℕ). head ++ l)
      (sym (append_assoc (blocks_text blocks) (blocks_text last) (input_line ending))
      ∙ ap (λ (l : List ℕ). l ++ input_line ending) (sym (flat_map-append text blocks last)));
}

-- there are blocks for the end
blocks_at_end : (asked : Asked) (packets : List (List ℕ)) (served : Served) → AreServed asked packets served →
    (last : List FlowsBlock)
    × AllZip (IsBlockAt asked packets served.made) (last_place asked.every (length packets)) last
blocks_at_end asked packets served are = go (is_place asked.every (length packets))
  where
    last : (block : FlowsBlock) × IsBlockAt asked packets served.made (length packets) block
    last =
        let some = a_block asked packets served are in
        (some.0, block_of_all asked packets served.made are.calls some.0 are.make are.made_are some.1)

    go : (b : Bool) → (blocks : List FlowsBlock)
        × AllZip (IsBlockAt asked packets served.made) (cond b [] (length packets ∷ [])) blocks
    go true = ([], tt)
    go false = (last.0 ∷ [], (last.1, tt))

-- the text goes on to a report
pub begins_report : (job : Flowing) (asked : Asked) (batches : List (List (List ℕ))) (put : List ℕ)
    (ending : Ending) → IsDone job asked batches put →
    (rest : List ℕ) × IsFlowsReport asked batches ending (put ++ rest)
begins_report job asked batches put ending is =
    let lines = told_lines job asked batches put is in
    let last = blocks_at_end asked (packets_in batches) lines.0 lines.1 in (
      blocks_text last.0 ++ input_line ending,
      (
        lines.0,
        lines.1,
        ends_report asked batches lines.0 lines.2.blocks last.0 put ending lines.2.are lines.2.text_is last.1,
      ),
    )
