-- What holds of blocks: whatever was served can be told in one.
use Rattle.std.proofs.Common.{◌≡◌, ◌<◌, ◌%◌, ℕ, List, [], length, map, refl, sym, ap, ◌∙◌, subst, append-nil, arith}
use Rattle.std.specs.FinMap.{empty}
use Rattle.std.proofs.Math.Nat.{mod-lt}
use Rattle.std.proofs.Math.Seq.{take-length}
use Rattle.plain_map.specs.declared.calls.Call.{Call}
use Rattle.plain_map.specs.declared.keys.Pair.{Pair}
use Rattle.plain_map.specs.declared.rules.Rules.{Rules}
use Rattle.plain_map.specs.PlainObject.{Sessions, pairs_of}
use Rattle.mode_parts.specs.PacketCalls.{MakeCalls}
use Rattle.report_text.specs.Flows.{FlowsBlock}
use Rattle.table_model.specs.Closed.{sessions_with}
use Rattle.map_laws.specs.ByKey.{LegalMade, Made, after_made}
use Rattle.map_laws.proofs.ByKeyFree.{without_full_classes}
use Rattle.lasting_model.specs.Plans.{Plan, ample}
use Rattle.lasting_model.specs.Worlds.{Lasting, world_after}
use Rattle.flow_laws.specs.FlowOrders.{AreAnswered, first_in, rules_in}
use Rattle.flow_laws.specs.ClassOrders.{HasTurns}
use Rattle.flow_laws.proofs.ClassOrders.{classes_have_turns}
use Rattle.flows_runner.specs.declared.asked.Asked.{Asked}
use Rattle.flows_runner.specs.Asked.{IsPlanOf, flow_seat, rules_of}
use Rattle.flows_runner.specs.Blocks.{IsBlock, IsBlockAt, block_counts}
use Rattle.flows_runner.specs.Served.{AreServed, Served}

-- ---- the rules of the plain map

-- the table's rules are those that are asked for
pub rules_are : (asked : Asked) (plan : Plan) → IsPlanOf asked plan → rules_in plan ≡ rules_of asked
unfolding ample
rules_are asked plan is = λ i. record {
  items = is.settings.items_are i;
  depth = is.settings.depth_is i;
  hashing = is.hashing i;
}

-- and it began without sessions
pub first_is : (asked : Asked) (plan : Plan) → IsPlanOf asked plan → first_in plan ≡ empty
first_is asked plan is = ap (λ (pairs : List Pair). sessions_with (rules_in plan) pairs) is.first

-- ---- a block by its calls

-- the block with the sessions that its calls leave, each with the reply of the plain map
pub block_by : (asked : Asked) (at : ℕ) (made : List Made) (pairs : List Pair) →
    LegalMade (rules_of asked) empty made → pairs ≡ pairs_of (after_made (rules_of asked) empty made) →
    IsBlock asked at made (record { at = at; pairs = pairs; counts = block_counts at made })
block_by asked at made pairs legal pairs_are = record {
  at = refl;
  counts = refl;
  legal = legal;
  pairs = pairs_are;
  free = λ none.
      let free = without_full_classes (rules_of asked) empty made made legal (λ key. refl) none in
      (free.0, pairs_are ∙ ap (λ (held : Sessions). pairs_of held) free.1);
}

-- a block of all packets stands at their number
pub block_of_all : (asked : Asked) (packets : List (List ℕ)) (made : List Made) (calls : List (ℕ × Call))
    (block : FlowsBlock) → MakeCalls asked.calling 1 packets calls →
    map (λ (one : Made). one.0) made ≡ map (λ (call : ℕ × Call). call.1) calls →
    IsBlock asked (length packets) made block → IsBlockAt asked packets made (length packets) block
block_of_all asked packets made calls block make made_are is = record {
  few = omega arith;
  front = made;
  back = [];
  cut = sym (append-nil made);
  calls = calls;
  make = subst (λ (l : List (List ℕ)). MakeCalls asked.calling 1 l calls) (sym (take-length packets)) make;
  made_are = made_are;
  tells = is;
}

-- ---- what was served

module _ (asked : Asked) (packets : List (List ℕ)) (served : Served) (are : AreServed asked packets served) where
  abbrev pub world : Lasting
  world = world_after served.plan served.events

  pub rules : rules_in served.plan ≡ rules_of asked
  rules = rules_are asked served.plan are.opened

  pub first : first_in served.plan ≡ empty
  first = first_is asked served.plan are.opened

  -- all seats' calls are legal as the packets made them, since each class's are made by one seat
  pub turns : HasTurns served.plan world served.made
  turns =
      classes_have_turns served.plan served.events (λ class. class % asked.seats) served.made are.run are.rest inside
      (subst (λ (r : Rules). AreAnswered served.plan (flow_seat r asked.seats) world served.made) (sym rules)
      are.answered)
    where
      inside : (class : ℕ) → class % asked.seats < served.plan.settings.seats
      inside class =
          let some = served.plan.settings.seats_in_range.0 in
          let are_seats = are.opened.settings.seats_are in
          let below = mod-lt class {m = asked.seats} (omega (arith, some, are_seats)) in
          omega (arith, below, are_seats)

  pub is_legal : LegalMade (rules_of asked) empty served.made
  is_legal = subst (λ (held : Sessions). LegalMade (rules_of asked) held served.made) first
      (subst (λ (r : Rules). LegalMade r (first_in served.plan) served.made) rules turns.legal)

  -- a block of them
  pub a_block : (block : FlowsBlock) × IsBlock asked (length packets) served.made block
  a_block = (
    record {
      at = length packets;
      pairs = pairs_of (after_made (rules_of asked) empty served.made);
      counts = block_counts (length packets) served.made;
    },
    block_by asked (length packets) served.made _ is_legal refl,
  )
