-- The text of a batch more, and of the end: what stands in it, and that it tells what was served.
use Rattle.std.proofs.Common.{◌≡◌, ℕ, Bool, true, false, cond, List, [], ◌∷◌, ◌++◌, length, sym, ap, ◌∙◌, subst, append_assoc, append-nil}
use Rattle.std.specs.List.{AllZip}
use Rattle.std.proofs.lemmas.Grind.{flat_map-append}
use Rattle.capture_faults.specs.declared.ending.Ending.{Ending}
use Rattle.report_text.specs.Flows.{FlowsBlock, flows_block, flows_head}
use Rattle.report_text.specs.Report.{input_line}
use Rattle.map_laws.specs.ByKey.{Made}
use Rattle.flows_runner.specs.declared.asked.Asked.{Asked}
use Rattle.flows_runner.specs.Asked.{head_of}
use Rattle.flows_runner.specs.BlockLaws.{block_of_all}
use Rattle.flows_runner.specs.Blocks.{IsBlock, IsBlockAt, is_place, places_within}
use Rattle.flows_runner.specs.Going.{HasBlocks}
use Rattle.flows_runner.specs.JobLaws.{ends_report, zip_both}
use Rattle.flows_runner.specs.Served.{AreServed, Served}
use Rattle.flows_runner.specs.Told.{AreBlocks, IsFlowsReport, blocks_text, packets_in}
use Rattle.flows_runner.proofs.GoingLemmas.{blocks_go_on, packets_more, place_behind, places_more}

-- the text of a block
abbrev pub text_of : FlowsBlock → List ℕ
text_of block = flows_block block.at block.pairs block.counts

-- a block behind others
blocks_text_more : (blocks : List FlowsBlock) (block : FlowsBlock) →
    blocks_text (blocks ++ block ∷ []) ≡ blocks_text blocks ++ text_of block
blocks_text_more blocks block = flat_map-append text_of blocks (block ∷ [])
    ∙ ap (λ (l : List ℕ). blocks_text blocks ++ l) (append-nil (text_of block))

-- ---- a batch more

-- a batch was served behind these, whose text this is
module _ (asked : Asked) (batches : List (List (List ℕ))) (packets : List (List ℕ)) (served now : Served)
    (later : List Made) (text : List ℕ) (told : HasBlocks asked batches served text)
    (made_are : now.made ≡ served.made ++ later) where
  abbrev all : List (List (List ℕ))
  all = batches ++ packets ∷ []

  abbrev before : ℕ
  before = length (packets_in batches)

  so_far : AreBlocks asked (packets_in all) now (places_within asked.every batches) told.blocks
  so_far = blocks_go_on asked batches packets served now later (places_within asked.every batches) told.blocks made_are
      told.are

  -- no block stands behind it
  pub told_none : place_behind asked.every before packets ≡ [] → HasBlocks asked all now text
  told_none none = record {
    blocks = told.blocks;
    are = subst (λ (places : List ℕ). AreBlocks asked (packets_in all) now places told.blocks)
        (sym (places_more asked.every batches packets
        ∙ ap (λ (l : List ℕ). places_within asked.every batches ++ l) none
        ∙ append-nil (places_within asked.every batches))) so_far;
    text_is = told.text_is;
  }

  -- this block stands behind it
  pub told_one : (block : FlowsBlock) →
      place_behind asked.every before packets ≡ length (packets_in batches ++ packets) ∷ [] →
      AreServed asked (packets_in batches ++ packets) now →
      IsBlock asked (length (packets_in batches ++ packets)) now.made block →
      HasBlocks asked all now (text ++ text_of block)
  told_one block there are is =
      let at : ℕ = length (packets_in batches ++ packets) in
      let here : IsBlockAt asked (packets_in all) now.made at block =
      subst (λ (l : List (List ℕ)). IsBlockAt asked l now.made at block) (sym (packets_more batches packets))
      (block_of_all asked (packets_in batches ++ packets) now.made are.calls block are.make are.made_are is) in
      record {
        blocks = told.blocks ++ block ∷ [];
        are = subst (λ (places : List ℕ). AreBlocks asked (packets_in all) now places (told.blocks ++ block ∷ []))
            (sym (places_more asked.every batches packets
            ∙ ap (λ (l : List ℕ). places_within asked.every batches ++ l) there))
            (zip_both (IsBlockAt asked (packets_in all) now.made) (places_within asked.every batches) (at ∷ [])
            told.blocks (block ∷ []) so_far (here, tt));
        text_is = ap (λ (l : List ℕ). l ++ text_of block) told.text_is
            ∙ append_assoc (flows_head (head_of asked)) (blocks_text told.blocks) (text_of block)
            ∙ ap (λ (l : List ℕ). flows_head (head_of asked) ++ l) (sym (blocks_text_more told.blocks block));
      }

-- ---- the end

-- these batches were served, and this is the text of them
module _ (asked : Asked) (batches : List (List (List ℕ))) (served : Served) (put : List ℕ) (ending : Ending)
    (are : AreServed asked (packets_in batches) served) (told : HasBlocks asked batches served put) where
  abbrev at_end : ℕ
  at_end = length (packets_in batches)

  -- a block stands at the end already
  pub report_without : is_place asked.every at_end ≡ true →
      IsFlowsReport asked batches ending (put ++ input_line ending)
  report_without there = (
    served,
    are,
    ends_report asked batches served told.blocks [] put ending told.are told.text_is
        (subst (λ (b : Bool). AllZip (IsBlockAt asked (packets_in batches) served.made) (cond b [] (at_end ∷ [])) [])
        (sym there) tt),
  )

  -- this one is put there
  pub report_with : (block : FlowsBlock) → is_place asked.every at_end ≡ false →
      IsBlock asked at_end served.made block →
      IsFlowsReport asked batches ending (put ++ (text_of block ++ input_line ending))
  report_with block none is =
      let here : IsBlockAt asked (packets_in batches) served.made at_end block =
      block_of_all asked (packets_in batches) served.made are.calls block are.make are.made_are is in
      let report = ends_report asked batches served told.blocks (block ∷ []) put ending told.are told.text_is
      (subst
      (λ (b : Bool). AllZip (IsBlockAt asked (packets_in batches) served.made) (cond b [] (at_end ∷ []))
      (block ∷ []))
      (sym none) (here, tt)) in
      subst (λ (l : List ℕ). IsFlowsReport asked batches ending (put ++ (l ++ input_line ending)))
      (append-nil (text_of block)) (served, are, report)
