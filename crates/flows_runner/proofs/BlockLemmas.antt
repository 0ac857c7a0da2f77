-- From the pairs of all buckets to a block: they are the sessions that the calls leave, and the texts of their keys.
use Rattle.std.proofs.Common.{◌≡◌, ℕ, suc, List, [], ◌∷◌, length, map, Option, Some, None, sym, ◌∙◌, subst}
use Rattle.std.specs.Prelude.{All, IsPermutation, flat_map}
use Rattle.std.specs.FinMap.{empty}
use Rattle.std.specs.List.{range_with_len}
use Rattle.std.specs.List.Sorted.{IsSortedByKey}
use Rattle.std.proofs.lemmas.List.Elements.{All-append, All-cons, All-contains, All-map, All-nil}
use Rattle.plain_map.specs.declared.calls.Call.{Call}
use Rattle.plain_map.specs.declared.keys.Pair.{Pair}
use Rattle.plain_map.specs.Calls.{key_in}
use Rattle.plain_map.specs.Keys.{key_cmp}
use Rattle.plain_map.specs.PlainObject.{pairs_of}
use Rattle.plain_map.proofs.AskedLemmas.{All-unmap}
use Rattle.key_texts.specs.FlowText.{HasText}
use Rattle.report_promises.proofs.FlowLemmas.{flow_of_call}
use Rattle.mode_parts.specs.declared.calling.Calling.{Calling}
use Rattle.mode_parts.specs.PacketCalls.{MakeCalls, MakesCall, numbered}
use Rattle.map_laws.specs.ByKey.{Made, after_made}
use Rattle.lasting_model.specs.Plans.{ample, buckets_of}
use Rattle.lasting_model.specs.Worlds.{Lasting, world_after}
use Rattle.lasting_model.specs.Laws.{pairs_in}
use Rattle.flow_laws.specs.FlowOrders.{first_in, rules_in}
use Rattle.flow_laws.proofs.AskedKeys.{pairs_are_asked}
use Rattle.flow_laws.proofs.Parts.{parts_are_sessions}
use Rattle.flows_runner.specs.declared.asked.Asked.{Asked}
use Rattle.flows_runner.specs.Asked.{rules_of}
use Rattle.flows_runner.specs.Blocks.{block_counts}
use Rattle.flows_runner.specs.BlockLaws.{block_by, first_is, is_legal, rules_are, turns}
use Rattle.flows_runner.specs.Going.{TellsServed}
use Rattle.flows_runner.specs.Served.{AreServed, Served}

-- ---- the texts of keys

-- the key of a packet's call has a text
one_has_text : (calling : Calling) (n : ℕ) (packet : List ℕ) (made : Option Call) → MakesCall calling n packet made →
    All (λ (call : ℕ × Call). HasText (key_in call.1)) (numbered n made)
one_has_text calling n packet None none = All-nil _
one_has_text calling n packet (Some call) (heads, has, is, widths, askable) =
    All-cons (λ (other : ℕ × Call). HasText (key_in other.1)) (n, call) []
    (subst (λ (c : Call). HasText (key_in c)) (sym is) (flow_of_call calling.calls heads n widths).text)
    (All-nil _)

-- so have those of all calls of packets
pub calls_have_texts : (calling : Calling) (n : ℕ) (packets : List (List ℕ)) (calls : List (ℕ × Call)) →
    MakeCalls calling n packets calls → All (λ (call : ℕ × Call). HasText (key_in call.1)) calls
calls_have_texts calling n [] calls none =
    subst (All (λ (call : ℕ × Call). HasText (key_in call.1))) (sym none) (All-nil _)
calls_have_texts calling n (packet ∷ packets) calls (made, others, here, rest, is) =
    subst (All (λ (call : ℕ × Call). HasText (key_in call.1))) (sym is)
    (All-append (λ (call : ℕ × Call). HasText (key_in call.1)) (numbered n made) others
    (one_has_text calling n packet made here) (calls_have_texts calling (suc n) packets others rest))

-- ---- what was served

module _ (asked : Asked) (packets : List (List ℕ)) (served : Served) (are : AreServed asked packets served) where
  abbrev world : Lasting
  world = world_after served.plan served.events

  -- the pairs of all buckets, sorted by key, are the sessions that they leave
  pairs_are : (pairs sorted : List Pair) →
      pairs ≡ flat_map (λ (bucket : ℕ). pairs_in served.plan world bucket)
      (range_with_len 0 (buckets_of served.plan.settings)) →
      IsPermutation pairs sorted → IsSortedByKey (λ (pair : Pair). pair.key) key_cmp sorted →
      sorted ≡ pairs_of (after_made (rules_of asked) empty served.made)
  unfolding ample
  pairs_are pairs sorted is moved in_order =
      parts_are_sessions (rules_in served.plan)
      (after_made (rules_in served.plan) (first_in served.plan) served.made)
      (λ (bucket : ℕ). pairs_in served.plan world bucket) sorted (turns asked packets served are).held
      (subst (λ (l : List Pair). IsPermutation l sorted) is moved) in_order
      ∙ (λ i. pairs_of (after_made (rules_are asked served.plan are.opened i)
      (first_is asked served.plan are.opened i) served.made))

  -- the keys of all calls have texts
  keys_have_texts : All HasText (map (λ (one : Made). key_in one.0) served.made)
  keys_have_texts =
      All-map HasText (λ (one : Made). key_in one.0) served.made
      (All-unmap (λ (call : Call). HasText (key_in call)) (λ (one : Made). one.0) served.made
      (subst (All (λ (call : Call). HasText (key_in call))) (sym are.made_are)
      (All-map (λ (call : Call). HasText (key_in call)) (λ (call : ℕ × Call). call.1) are.calls
      (calls_have_texts asked.calling 1 packets are.calls are.make))))

  -- so have those of the sessions
  pairs_have_texts :
      All (λ (pair : Pair). HasText pair.key) (pairs_of (after_made (rules_of asked) empty served.made))
  pairs_have_texts = λ k d within.
      All-contains HasText (map (λ (one : Made). key_in one.0) served.made) _ keys_have_texts
      (pairs_are_asked (rules_of asked) served.made k d within)

  -- the block with the pairs of all buckets, sorted by key
  pub block_of : (pairs sorted : List Pair) →
      pairs ≡ flat_map (λ (bucket : ℕ). pairs_in served.plan world bucket)
      (range_with_len 0 (buckets_of served.plan.settings)) →
      IsPermutation pairs sorted → IsSortedByKey (λ (pair : Pair). pair.key) key_cmp sorted →
      TellsServed asked packets served (record {
        at = length packets;
        pairs = sorted;
        counts = block_counts (length packets) served.made;
      })
  block_of pairs sorted is moved in_order =
      let left = pairs_are pairs sorted is moved in_order in
      record {
        is = block_by asked (length packets) served.made sorted (is_legal asked packets served are) left;
        texts = subst (All (λ (pair : Pair). HasText pair.key)) (sym left) pairs_have_texts;
      }
