-- The report of flows, by what was served.
-- Source: docs/FORMATS.md, the report of flows.
use Rattle.std.specs.Prelude.{◌≡◌, ℕ, List, ◌++◌, length, flat_map}
use Rattle.std.specs.List.{AllZip}
use Rattle.capture_faults.specs.declared.ending.Ending.{Ending}
use Rattle.report_text.specs.Flows.{FlowsBlock, flows_block, flows_head, flows_report}
use Rattle.flows_runner.specs.declared.asked.Asked.{Asked}
use Rattle.flows_runner.specs.Asked.{head_of}
use Rattle.flows_runner.specs.Blocks.{IsBlockAt, last_place, places, places_upto, places_within}
use Rattle.flows_runner.specs.Served.{AreServed, Served}

-- all packets of these batches
abbrev pub packets_in : List (List (List ℕ)) → List (List ℕ)
packets_in batches = flat_map (λ batch. batch) batches

-- these blocks stand at these places
abbrev pub AreBlocks : Asked → List (List ℕ) → Served → (places : List ℕ) → List FlowsBlock → Type 0
AreBlocks asked packets served places blocks = AllZip (IsBlockAt asked packets served.made) places blocks

-- the text of blocks
abbrev pub blocks_text : List FlowsBlock → List ℕ
blocks_text blocks = flat_map (λ (block : FlowsBlock). flows_block block.at block.pairs block.counts) blocks

-- ---- of packets

-- the head line and the blocks within these packets, where these are served so
pub record AreLinesOf (asked : Asked) (packets : List (List ℕ)) (served : Served) (text : List ℕ) : Type 0 where
  pub blocks : List FlowsBlock
  pub are : AreBlocks asked packets served (places_upto asked.every (length packets)) blocks
  pub text_is : text ≡ flows_head (head_of asked) ++ blocks_text blocks

-- the text is the head line and the blocks within these packets
abbrev pub TellsFlows : Asked → List (List ℕ) → List ℕ → Type 0
TellsFlows asked packets text =
    (served : Served) × AreServed asked packets served × AreLinesOf asked packets served text

-- the whole report of them, with this ending: a block at each place, and one at the end
pub record AreReported (asked : Asked) (packets : List (List ℕ)) (served : Served) (ending : Ending)
    (text : List ℕ) : Type 0 where
  pub blocks : List FlowsBlock
  pub are : AreBlocks asked packets served
      (places_upto asked.every (length packets) ++ last_place asked.every (length packets)) blocks
  pub text_is : text ≡ flows_report (head_of asked) blocks ending

-- the text is the report of these packets
abbrev pub ReportsFlows : Asked → List (List ℕ) → Ending → List ℕ → Type 0
ReportsFlows asked packets ending text =
    (served : Served) × AreServed asked packets served × AreReported asked packets served ending text

-- ---- of batches

-- the head line and the blocks within these batches, where these are served so
pub record AreLines (asked : Asked) (batches : List (List (List ℕ))) (served : Served) (text : List ℕ) : Type 0 where
  pub blocks : List FlowsBlock
  pub are : AreBlocks asked (packets_in batches) served (places_within asked.every batches) blocks
  pub text_is : text ≡ flows_head (head_of asked) ++ blocks_text blocks

abbrev pub IsFlowsLines : Asked → List (List (List ℕ)) → List ℕ → Type 0
IsFlowsLines asked batches text =
    (served : Served) × AreServed asked (packets_in batches) served × AreLines asked batches served text

-- the whole report of them, with this ending
pub record IsReportOf (asked : Asked) (batches : List (List (List ℕ))) (served : Served) (ending : Ending)
    (text : List ℕ) : Type 0 where
  pub blocks : List FlowsBlock
  pub are :
      AreBlocks asked (packets_in batches) served (places asked.every batches (length (packets_in batches))) blocks
  pub text_is : text ≡ flows_report (head_of asked) blocks ending

abbrev pub IsFlowsReport : Asked → List (List (List ℕ)) → Ending → List ℕ → Type 0
IsFlowsReport asked batches ending text =
    (served : Served) × AreServed asked (packets_in batches) served × IsReportOf asked batches served ending text
