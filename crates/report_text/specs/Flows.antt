-- The report of `flows`: the head line; a block after each so many packets, where the words ask for it, and one at the
-- end; the input.
-- Source: docs/FORMATS.md, the report of flows.
use Rattle.std.specs.Prelude.{ℕ, List, [], ◌∷◌, ◌++◌, Option, Some, None, codes, decimal, flat_map}
use Rattle.plain_map.specs.declared.keys.Pair.{Pair}
use Rattle.key_texts.specs.declared.rules.CallRule.{CallRule}
use Rattle.key_texts.specs.declared.rules.CallRule.TheVariants.{Sessions, Flows}
use Rattle.capture_faults.specs.declared.ending.Ending.{Ending}
use Rattle.report_text.specs.declared.flows.FlowsHead.{FlowsHead}
use Rattle.report_text.specs.declared.flows.FlowCounts.{FlowCounts}
use Rattle.report_text.specs.Lines.{line}
use Rattle.report_text.specs.Report.{input_line, session_line}

-- which calls packets make, where these are not counts
abbrev pub calls_words : CallRule → List (List ℕ)
calls_words Sessions = codes "calls" ∷ codes "sessions" ∷ []
calls_words Flows = []

-- after how many packets there is a block again and again, where there is
abbrev pub every_words : Option ℕ → List (List ℕ)
every_words None = []
every_words (Some every) = codes "every" ∷ decimal every ∷ []

-- `flowdir flows seats N items B depth D seed X`, and then ` calls sessions` or nothing, and ` every P` or nothing
unfoldable pub flows_head : FlowsHead → List ℕ
flows_head head =
    line (codes "flowdir" ∷ codes "flows"
    ∷ codes "seats" ∷ decimal head.seats ∷ codes "items" ∷ decimal head.items
    ∷ codes "depth" ∷ decimal head.depth ∷ codes "seed" ∷ decimal head.seed
    ∷ (calls_words head.calls ++ every_words head.every))

-- `at P`: so many packets so far
unfoldable pub at_line : ℕ → List ℕ
at_line packets = line (codes "at" ∷ decimal packets ∷ [])

-- `count packets P calls C passed Q new A old B noroom E gone F found G absent H sum J`
unfoldable pub flow_count_line : FlowCounts → List ℕ
flow_count_line counts =
    line (codes "count" ∷ codes "packets" ∷ decimal counts.packets ∷ codes "calls" ∷ decimal counts.calls
    ∷ codes "passed" ∷ decimal counts.passed ∷ codes "new" ∷ decimal counts.new
    ∷ codes "old" ∷ decimal counts.old ∷ codes "noroom" ∷ decimal counts.noroom
    ∷ codes "gone" ∷ decimal counts.gone ∷ codes "found" ∷ decimal counts.found
    ∷ codes "absent" ∷ decimal counts.absent ∷ codes "sum" ∷ decimal counts.sum ∷ [])

-- a block: how many packets so far, the sessions that are left, and the counts
unfoldable pub flows_block : (at : ℕ) → List Pair → FlowCounts → List ℕ
flows_block at pairs counts = at_line at ++ (flat_map session_line pairs ++ flow_count_line counts)

-- The whole.

-- what a block tells
pub record FlowsBlock : Type 0 where
  pub at : ℕ
  pub pairs : List Pair
  pub counts : FlowCounts

-- the whole text
unfoldable pub flows_report : FlowsHead → List FlowsBlock → Ending → List ℕ
flows_report head blocks ending =
    flows_head head
    ++ (flat_map (λ block. flows_block block.at block.pairs block.counts) blocks ++ input_line ending)
