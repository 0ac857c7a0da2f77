-- Playing a small lasting table, and what is told of the world that is left.
use Rattle.std.proofs.Common.{ℕ, suc, zero, ◌*◌, ◌^◌, ◌+◌, List, [], ◌∷◌, map, length}
use Rattle.std.specs.Prelude.{◌==◌, ◌&&◌, Bool, true, false, not, if◌then◌else◌, ◌++◌, fold, sum_by, count_by, Option, Some, None}
use Rattle.std.specs.List.{list_any, list_all, range_with_len}
use Rattle.plain_map.specs.declared.keys.Key.{Key}
use Rattle.plain_map.specs.declared.keys.Pair.{Pair}
use Rattle.plain_map.specs.declared.calls.Call.{Call}
use Rattle.lasting_model.specs.Plans.{Plan, ample, buckets_of}
use Rattle.lasting_model.specs.Codes.{row_in, state_in, length_by, count_place}
use Rattle.bucket_states.specs.declared.ops.Op.{Op}
use Rattle.lasting_model.specs.Steps.{Aim, Stand, Idle, Goes, Glances, Step, StoreRow, Sweep, Homes, Seats, Sees, Loads, Gives}
use Rattle.lasting_model.specs.Goes.{Told, rows_of}
use Rattle.lasting_model.specs.Worlds.{Lasting, Answer, Asker, BySeat, ByReader, Begin, Copy, Step_on, Open, Peek_on, Event, OfSeat, OfReader, happens, opening_world, seat_in}

-- the key of the low port
abbrev pub key : ℕ → Key
key port = record { k0 = 0; k1 = 0x0a000001; k2 = 0; k3 = 0x0a000002; k4 = port * 2 ^ 24 + 0x5006 }

-- the pair of that key
abbrev pub pair : (port value bytes : ℕ) → Pair
pair port value bytes = record { key = key port; value = value; bytes = bytes }

-- what is played: a seat begins a call, or copies a bucket, or takes so many steps; a reader begins, or takes steps
pub data Move : Type 0 where
  Call_ : (seat : ℕ) (call : Call) → Move
  Copy_ : (seat bucket : ℕ) → Move
  Go : (seat many : ℕ) → Move
  Peek_ : (reader : ℕ) (aim : Aim) (tries : ℕ) → Move
  Read : (reader many : ℕ) → Move

-- who asked, the answer, and its steps
abbrev pub told : Answer → Asker × Told × ℕ
told a = (a.by, a.told, a.steps)

-- whether the seat is who asked
abbrev is_seat : (seat : ℕ) → Asker → Bool
is_seat seat (BySeat other) = other == seat
is_seat seat (ByReader reader) = false

-- what a seat was told last, and in how many steps
abbrev pub told_last : (seat : ℕ) → List Answer → List (Told × ℕ)
told_last seat answers =
    fold (λ so_far a. if is_seat seat a.by then (a.told, a.steps) ∷ [] else so_far) [] answers

abbrev ops_at_step : Step → List (Option Op)
ops_at_step (StoreRow attempt found stored) = found
ops_at_step step = []

-- the ops that a seat has found, while it stores its row
abbrev pub ops_found : Stand → List (Option Op)
ops_found Idle = []
ops_found (Goes u step) = ops_at_step step
ops_found (Glances aim glance) = []

abbrev is_reader : Asker → Bool
is_reader (BySeat seat) = false
is_reader (ByReader reader) = true

-- what readers were told, and in how many steps
abbrev pub told_readers : List Answer → List (Told × ℕ)
told_readers answers =
    fold (λ so_far a. if is_reader a.by then so_far ++ (a.told, a.steps) ∷ [] else so_far) [] answers

-- the rows that a sweep has taken up
abbrev swept_up : Option Sweep → List (ℕ × ℕ)
swept_up None = []
swept_up (Some (Homes todo gone)) = todo ++ gone
swept_up (Some (Seats seat gone)) = gone
swept_up (Some (Sees seat time gone)) = gone
swept_up (Some (Loads seat time bucket gone)) = gone
swept_up (Some (Gives seat time row gone)) = gone

module _ (plan : Plan) where
  -- the same event, so many times. A step of who is idle changes nothing
  abbrev pub again : Event → ℕ → Lasting → Lasting
  again event zero world = world
  again event (suc many) world = again event many (happens plan world event)

  abbrev pub moved : Lasting → Move → Lasting
  moved world (Call_ seat call) = happens plan world (OfSeat seat (Begin call))
  moved world (Copy_ seat bucket) = happens plan world (OfSeat seat (Copy bucket))
  moved world (Go seat many) = again (OfSeat seat Step_on) many world
  moved world (Peek_ reader aim tries) = happens plan world (OfReader reader (Open aim tries))
  moved world (Read reader many) = again (OfReader reader Peek_on) many world

  abbrev pub played : List Move → Lasting
  played moves = fold moved (opening_world plan) moves

  -- ---- what is left

  -- the words of the row that stands in a bucket word, as many as say something
  abbrev pub row_of_bucket : Lasting → (bucket : ℕ) → List ℕ
  row_of_bucket world bucket =
      let row = world.store.row (row_in (world.store.bucket bucket)) in
      map (λ i. row (i + 1))
      (range_with_len 0 (length_by (ample plan) (map (λ i. row (i + 1)) (range_with_len 0 (count_place (ample plan))))))

  -- the pairs of each bucket
  abbrev pub pairs_in : Lasting → List (List Pair)
  pairs_in world =
      map (λ bucket. (state_in (ample plan) bucket (row_of_bucket world bucket)).items)
      (range_with_len 0 (buckets_of plan.settings))

  -- where the row of each bucket stands
  abbrev pub rows_in : Lasting → List ℕ
  rows_in world = map (λ bucket. row_in (world.store.bucket bucket)) (range_with_len 0 (buckets_of plan.settings))

  -- the free rows and the named ones of each seat
  abbrev pub rows_told : Lasting → List (List ℕ × List (ℕ × ℕ))
  rows_told world = map (λ seat. (seat.free, seat.named)) world.seats

  -- ---- what must hold at each moment, as far as it can be computed

  abbrev fault_if_not : Bool → ℕ
  fault_if_not true = 0
  fault_if_not false = 1

  -- each own row stands once: it is free, named, or taken up by a sweep
  abbrev rows_stand_once : Lasting → (seat : ℕ) → Bool
  rows_stand_once world seat =
      let now = seat_in world seat in
      let all = now.free ++ rows_of (now.named ++ swept_up now.sweep) in
      list_all (λ row. count_by (λ other. other == row) all == 1) (range_with_len (seat * plan.rows) plan.rows)
      && (length all == plan.rows)

  -- no free row is in a bucket word
  abbrev free_are_unused : Lasting → (seat : ℕ) → Bool
  free_are_unused world seat =
      list_all (λ row. not (list_any (λ used. used == row) (rows_in world))) (seat_in world seat).free

  -- no two buckets have one row
  abbrev rows_are_apart : Lasting → Bool
  rows_are_apart world =
      list_all (λ row. count_by (λ other. other == row) (rows_in world) == 1) (rows_in world)

  -- how many of these fail
  abbrev pub faults : Lasting → ℕ
  faults world =
      sum_by (λ seat. fault_if_not (rows_stand_once world seat) + fault_if_not (free_are_unused world seat))
      (range_with_len 0 plan.settings.seats)
      + fault_if_not (rows_are_apart world)

  -- after each move, in all
  abbrev pub faults_from : Lasting → List Move → ℕ
  faults_from world [] = faults world
  faults_from world (move ∷ moves) = faults world + faults_from (moved world move) moves

  abbrev pub play_faults : List Move → ℕ
  play_faults moves = faults_from (opening_world plan) moves
