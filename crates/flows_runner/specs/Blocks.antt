-- A block of the report of flows: what the plain map holds after the calls of the packets so far.
-- Source: docs/FORMATS.md, the report of flows.
use Rattle.std.specs.Prelude.{◌≡◌, ℕ, ◌+◌, ◌-◌, ◌%◌, ◌==◌, ◌≤◌, ◌&&◌, nat_lt, Bool, false, if◌then◌else◌, List, [], ◌∷◌, ◌++◌, filter, length, map, take, Option, Some, None}
use Rattle.std.specs.List.{range_with_len}
use Rattle.std.specs.FinMap.{empty}
use Rattle.plain_map.specs.declared.calls.Call.{Call}
use Rattle.plain_map.specs.PlainObject.{pairs_of}
use Rattle.mode_parts.specs.PacketCalls.{MakeCalls}
use Rattle.report_text.specs.Flows.{FlowsBlock}
use Rattle.report_text.specs.declared.flows.FlowCounts.{FlowCounts}
use Rattle.map_laws.specs.ByKey.{LegalFree, LegalMade, Made, NoneLacksRoom, after_free, after_made}
use Rattle.flow_workers.specs.Counts.{counts_of}
use Rattle.flows_runner.specs.declared.asked.Asked.{Asked}
use Rattle.flows_runner.specs.Asked.{rules_of}

-- the counts of so many packets, which made these calls
abbrev pub block_counts : (packets : ℕ) → List Made → FlowCounts
block_counts packets made = record {
  packets = packets;
  calls = length made;
  passed = packets - length made;
  new = (counts_of made).new;
  old = (counts_of made).old;
  noroom = (counts_of made).noroom;
  gone = (counts_of made).gone;
  found = (counts_of made).found;
  absent = (counts_of made).absent;
  sum = (counts_of made).sum;
}

-- The block tells of so many packets, which made these calls, with these replies, in packet order. Each reply is that
-- of the plain map, asked these calls in packet order, and the sessions are those that it holds then. So the packets
-- and the map's rules decide the block, whatever room a class has and however many callers there are. If none was
-- answered that its class is full, then replies and sessions are those of the map without a limit.
pub record IsBlock (asked : Asked) (packets : ℕ) (made : List Made) (block : FlowsBlock) : Type 0 where
  pub at : block.at ≡ packets
  pub counts : block.counts ≡ block_counts packets made
  pub legal : LegalMade (rules_of asked) empty made
  pub pairs : block.pairs ≡ pairs_of (after_made (rules_of asked) empty made)
  pub free : NoneLacksRoom made → LegalFree empty made × (block.pairs ≡ pairs_of (after_free empty made))

-- of these packets, which made these calls, the block tells the first so many
pub record IsBlockAt (asked : Asked) (packets : List (List ℕ)) (made : List Made) (at : ℕ) (block : FlowsBlock) :
    Type 0 where
  pub few : at ≤ length packets
  pub front : List Made
  pub back : List Made
  pub cut : made ≡ front ++ back
  pub calls : List (ℕ × Call)
  pub make : MakeCalls asked.calling 1 (take at packets) calls
  pub made_are : map (λ (one : Made). one.0) front ≡ map (λ (call : ℕ × Call). call.1) calls
  pub tells : IsBlock asked at front block

-- ---- where blocks stand

-- behind how many packets each batch ends that has some, where the first begins behind so many
abbrev pub ends_from : (before : ℕ) → List (List (List ℕ)) → List ℕ
ends_from before [] = []
ends_from before ([] ∷ batches) = ends_from before batches
ends_from before ((packet ∷ packets) ∷ batches) =
    (before + length (packet ∷ packets)) ∷ ends_from (before + length (packet ∷ packets)) batches

-- whether a block stands there: behind each so many packets, if it is asked for
abbrev pub is_place : Option ℕ → (n : ℕ) → Bool
is_place None n = false
is_place (Some every) n = nat_lt 0 n && (n % every == 0)

-- where blocks stand within so many packets
abbrev pub places_upto : Option ℕ → (n : ℕ) → List ℕ
places_upto every n = filter (is_place every) (range_with_len 1 n)

-- where blocks stand behind these batches: all places within their packets, where each batch ends at the next one
abbrev pub places_within : Option ℕ → List (List (List ℕ)) → List ℕ
places_within every batches = filter (is_place every) (ends_from 0 batches)

-- and one at the end in any case, behind so many packets
abbrev pub last_place : Option ℕ → (n : ℕ) → List ℕ
last_place every n = if is_place every n then [] else n ∷ []

abbrev pub places : Option ℕ → List (List (List ℕ)) → (n : ℕ) → List ℕ
places every batches n = places_within every batches ++ last_place every n
