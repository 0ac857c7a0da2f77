-- Playing a small table, and what is told of the world that is left.
use Rattle.std.proofs.Common.{ℕ, suc, zero, ◌*◌, ◌^◌, ◌+◌, List, [], ◌∷◌, map, length}
use Rattle.std.specs.Prelude.{◌==◌, ◌&&◌, ◌||◌, not, Bool, ◌++◌, fold, count_by, sum_by}
use Rattle.std.specs.List.{list_all, range_with_len}
use Rattle.plain_map.specs.declared.keys.Key.{Key}
use Rattle.plain_map.specs.declared.calls.Call.{Call}
use Rattle.exchange_model.specs.Plans.{Plan, buckets_of, rows_of}
use Rattle.exchange_model.specs.Codes.{row_in, is_pending}
use Rattle.exchange_model.specs.Steps.{Aim}
use Rattle.exchange_model.specs.Goes.{Told}
use Rattle.exchange_model.specs.Worlds.{World, Answer, Asker, Begin, Copy, Step_on, Open, Peek_on, Event, OfSeat, OfReader, happens, opening_world, seat_in}
use Rattle.exchange_model.specs.Laws.{rows_with, share}

-- the key of the low port
abbrev pub key : ℕ → Key
key port = record { k0 = 0; k1 = 0x0a000001; k2 = 0; k3 = 0x0a000002; k4 = port * 2 ^ 24 + 0x5006 }

-- what is played: a seat begins a call, or copies a bucket, or takes so many steps; a reader begins, or takes steps
pub data Move : Type 0 where
  Call_ : (seat : ℕ) (call : Call) → Move
  Copy_ : (seat bucket : ℕ) → Move
  Go : (seat many : ℕ) → Move
  Peek_ : (reader : ℕ) (aim : Aim) (tries : ℕ) → Move
  Read : (reader many : ℕ) → Move

-- who asked, the answer, and its steps
abbrev pub told : Answer → Asker × Told × ℕ
told a = (a.by, a.told, a.steps)

module _ (plan : Plan) where
  -- the same event, so many times. A step of who is idle changes nothing
  abbrev pub again : Event → ℕ → World → World
  again event zero world = world
  again event (suc many) world = again event many (happens plan world event)

  abbrev pub moved : World → Move → World
  moved world (Call_ seat call) = happens plan world (OfSeat seat (Begin call))
  moved world (Copy_ seat bucket) = happens plan world (OfSeat seat (Copy bucket))
  moved world (Go seat many) = again (OfSeat seat Step_on) many world
  moved world (Peek_ reader aim tries) = happens plan world (OfReader reader (Open aim tries))
  moved world (Read reader many) = again (OfReader reader Peek_on) many world

  abbrev pub played : List Move → World
  played moves = fold moved (opening_world plan) moves

  -- ---- what must hold at each moment, as far as it can be computed

  -- all rows, in words and with seats
  abbrev pub all_rows : World → List ℕ
  all_rows world =
      map (λ b. row_in plan (world.store.bucket b)) (range_with_len 0 (buckets_of plan.settings))
      ++ fold (λ rows seat. rows ++ rows_with world seat) [] (range_with_len 0 plan.settings.seats)

  -- each row stands once
  abbrev pub rows_stand_once : World → Bool
  rows_stand_once world =
      list_all (λ row. count_by (λ other. other == row) (all_rows world) == 1) (range_with_len 0 (rows_of plan))
      && (length (all_rows world) == rows_of plan)

  -- a seat that has an op announced has its share in what is pending
  abbrev counts_itself : World → (seat : ℕ) → Bool
  counts_itself world seat =
      not (is_pending (world.store.announced seat)) || (share (seat_in world seat).stand == 1)

  -- what is pending is the sum of all shares
  abbrev pub pending_is_counted : World → Bool
  pending_is_counted world =
      list_all (counts_itself world) (range_with_len 0 plan.settings.seats)
      && (world.store.pending
      == sum_by (λ seat. share (seat_in world seat).stand) (range_with_len 0 plan.settings.seats))

  abbrev fine : World → Bool
  fine world = rows_stand_once world && pending_is_counted world

  -- so it is after each move
  abbrev fine_from : World → List Move → Bool
  fine_from world [] = fine world
  fine_from world (move ∷ moves) = fine world && fine_from (moved world move) moves

  abbrev pub all_fine : List Move → Bool
  all_fine moves = fine_from (opening_world plan) moves
