-- Playing a schedule on a small table, and what is told of the world that it leaves.
use Rattle.std.proofs.Common.{ℕ, suc, zero, ◌*◌, ◌^◌, ◌+◌, List, [], ◌∷◌, map, length}
use Rattle.std.specs.Prelude.{Option, None, slice_get, slice_index_or, take}
use Rattle.plain_map.specs.declared.keys.Key.{Key}
use Rattle.plain_map.specs.declared.calls.Call.{Call}
use Rattle.plain_map.specs.declared.calls.Reply.{Reply}
use Rattle.plain_map.specs.declared.calls.Reply.TheVariants.{New, Old, NoRoom, Gone, Found, Absent, Sum}
use Rattle.plain_map.specs.declared.records.Record.{Record}
use Rattle.plain_map.specs.declared.leaves.Leaf.{Leaf}
use Rattle.plain_map.specs.History.{packet_of}
use Rattle.std.specs.Prelude.{◌-◌, ◌/◌, ◌&&◌, ◌++◌, ◌==◌, Bool, true, false, count_by}
use Rattle.std.specs.List.{list_all, range_with_len}
use Rattle.plain_map.specs.declared.rules.Rules.{Rules}
use Rattle.std.specs.Prelude.{nat_lt}
use Rattle.std.specs.Option.{option_map_or}
use Rattle.plain_map.specs.declared.calls.Call.TheVariants.{Insert, Remove, Lookup, Tally, Count, Put}
use Rattle.plain_map.specs.declared.keys.Pair.{Pair}
use Rattle.plain_map.specs.PlainObject.{count_reply, counted_session, found_in, gone_from, grown, insert_reply, new_session, revalued, sum_of}
use Rattle.plain_map.specs.Keys.{pair_of}
use Rattle.word_rows.specs.Shape.{Shape}
use Rattle.bucket_states.specs.Items.{value_at, tallied_in, without, appended, revised_in}
use Rattle.plain_map.specs.History.{Placed, answered, pending, seat_of, number_of, call_in}
use Rattle.table_model.specs.Setup.{rules_of, classmates}
use Rattle.table_model.specs.Order.{is_next, is_call, effects_of}
use Rattle.table_model.specs.Setup.{Setup}
use Rattle.table_model.specs.SeatStates.{Account, Stand, Idle, InFlight}
use Rattle.table_model.specs.Worlds.{World, opening_world, happens, seat_in}
use Rattle.table_model.specs.Order.{order_of, placing_of}
use Rattle.table_model.specs.Closed.{closing_of, records_of, closed_leaves, closed_depth}

-- the key of the low port
abbrev pub key : ℕ → Key
key port = record { k0 = 0; k1 = 0x0a000001; k2 = 0; k3 = 0x0a000002; k4 = port * 2 ^ 24 + 0x5006 }

-- two seats in turn, one step each, so many times, and then the rest
abbrev pub in_turn : ℕ → List (ℕ × ℕ) → List (ℕ × ℕ)
in_turn zero rest = rest
in_turn (suc times) rest = (0, 1) ∷ (1, 1) ∷ in_turn times rest

module _ (setup : Setup) (calls : List (List (ℕ × Call))) where
  -- the call that an idle seat begins
  abbrev pub begin_of : ℕ → Account → Stand → Option (ℕ × Call)
  begin_of seat account Idle = slice_get (slice_index_or calls seat []) (length account.records)
  begin_of seat account (InFlight flight phase) = None

  -- a step of a seat, which changes nothing where it has made its calls
  abbrev pub step : World → ℕ → World
  step world seat = happens setup world (record {
    seat = seat;
    begin = begin_of seat (seat_in world seat).account (seat_in world seat).stand;
  })

  abbrev pub steps : ℕ → ℕ → World → World
  steps seat zero world = world
  steps seat (suc many) world = steps seat many (step world seat)

  abbrev pub play : List (ℕ × ℕ) → World → World
  play [] world = world
  play (segment ∷ segments) world = play segments (steps segment.0 segment.1 world)

  abbrev pub played : List (ℕ × ℕ) → World
  played segments = play segments (opening_world setup)

-- what is told of a record
abbrev pub told : Record → ℕ × Reply × ℕ × List ℕ
told r = (r.packet, r.reply, r.steps, take 2 r.seen.counts)

abbrev pub leaf_told : Leaf → ℕ × ℕ
leaf_told leaf = (leaf.prefix, leaf.depth)

-- a reply as two numbers
abbrev pub code : Reply → ℕ × ℕ
code New = (1, 0)
code (Old value) = (2, value)
code NoRoom = (3, 0)
code (Gone value) = (4, value)
code (Found value) = (6, value)
code Absent = (5, 0)
code (Sum total) = (7, total)

abbrev pub same_code : ℕ × ℕ → ℕ × ℕ → Bool
same_code a b = (a.0 == b.0) && (a.1 == b.1)

-- the plain map by a list of pairs: its reply, and the pairs then
abbrev pub plain_room : Rules → List Pair → Key → Bool
plain_room rules pairs key = nat_lt (classmates rules key pairs) rules.items

abbrev pub plain_reply : Rules → List Pair → Call → Reply
plain_reply rules pairs (Insert key value) = insert_reply (value_at key pairs) (plain_room rules pairs key)
plain_reply rules pairs (Remove key) = option_map_or gone_from (value_at key pairs) Absent
plain_reply rules pairs (Lookup key) = option_map_or found_in (value_at key pairs) Absent
plain_reply rules pairs (Tally key amount) = option_map_or (sum_of amount) (value_at key pairs) Absent
plain_reply rules pairs (Count key value amount) = count_reply amount (value_at key pairs) (plain_room rules pairs key)
plain_reply rules pairs (Put key value) = insert_reply (value_at key pairs) (plain_room rules pairs key)

abbrev pub plain_after : Rules → List Pair → Call → List Pair
plain_after rules pairs (Insert key value) =
    appended pairs (pair_of (key, new_session value)) (value_at key pairs) (plain_room rules pairs key)
plain_after rules pairs (Remove key) = without key pairs
plain_after rules pairs (Lookup key) = pairs
plain_after rules pairs (Tally key amount) = tallied_in key amount pairs
plain_after rules pairs (Count key value amount) = revised_in pairs key (counted_session value amount)
    (λ held. grown held amount) (value_at key pairs) (plain_room rules pairs key)
plain_after rules pairs (Put key value) = revised_in pairs key (new_session value) (λ held. revalued held value)
    (value_at key pairs) (plain_room rules pairs key)

-- whether an order is legal, by comparing each reply
abbrev pub has_reply : Rules → List Pair → Placed → Bool
has_reply rules pairs (answered r) = same_code (code r.reply) (code (plain_reply rules pairs r.call))
has_reply rules pairs (pending u) = true

abbrev pub is_legal : Rules → List Pair → List Placed → Bool
is_legal rules pairs [] = true
is_legal rules pairs (placed ∷ later) =
    has_reply rules pairs placed && is_legal rules (plain_after rules pairs (call_in placed)) later

-- whether each call stands after what its caller had seen
abbrev pub is_after : Shape → List Placed → List Placed → Bool
is_after shape before [] = true
is_after shape before (placed ∷ later) = is_next shape before placed && is_after shape (before ++ placed ∷ []) later

-- whether each of these calls stands once
abbrev pub each_stands_once : List Placed → List Placed → Bool
each_stands_once order calls =
    list_all (λ placed. count_by (is_call (seat_of placed) (number_of placed)) order == 1) calls
    && (length order == length calls)

-- whether each class has one leaf
abbrev pub is_cover : (depth : ℕ) → List Leaf → Bool
is_cover depth leaves =
    list_all (λ class. count_by (λ leaf. class / 2 ^ (depth - leaf.depth) == leaf.prefix) leaves == 1)
    (range_with_len 0 (2 ^ depth))

abbrev pub fault_if_not : Bool → ℕ
fault_if_not true = 0
fault_if_not false = 1

-- how many of the checks fail: that the order is legal, after and whole, that the leaves cover; and the pieces left
-- over
abbrev pub faults : Setup → World → ℕ
faults setup world =
    let closing = closing_of world in
    let order = order_of setup.shape closing in
    length (placing_of setup.shape closing).left
    + fault_if_not (is_legal (rules_of setup) setup.first order)
    + fault_if_not (is_after setup.shape [] order)
    + fault_if_not (each_stands_once order
    (map answered closing.records ++ map pending (effects_of setup.shape closing)))
    + fault_if_not (is_cover setup.shape.settings.depth (closed_leaves setup.shape world.words))

-- records, order, leaves, the directory's depth, and how many checks fail
abbrev pub summary : Setup → World → List (ℕ × Reply × ℕ × List ℕ) × List ℕ × List (ℕ × ℕ) × ℕ × ℕ
summary setup world = (
  map told (records_of world),
  map packet_of (order_of setup.shape (closing_of world)),
  map leaf_told (closed_leaves setup.shape world.words),
  closed_depth setup.shape world.words,
  faults setup world,
)

-- the kind of a reply
abbrev pub kind : Reply → ℕ
kind New = 1
kind (Old value) = 2
kind NoRoom = 3
kind (Gone value) = 4
kind (Found value) = 6
kind Absent = 5
kind (Sum total) = 7

-- the same in short: steps, kinds of replies, order, how many leaves, depth, and failing checks
abbrev pub brief : Setup → World → List ℕ × List ℕ × List ℕ × ℕ × ℕ × ℕ
brief setup world = (
  map (λ r. r.steps) (records_of world),
  map (λ r. kind r.reply) (records_of world),
  map packet_of (order_of setup.shape (closing_of world)),
  length (closed_leaves setup.shape world.words),
  closed_depth setup.shape world.words,
  faults setup world,
)
