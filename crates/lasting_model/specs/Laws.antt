-- What is promised of every run of a lasting table by its steps alone. What its answers mean is told by the run of its
-- ghost.
use Rattle.std.specs.Prelude.{◌≡◌, ◌⊎◌, ℕ, ◌+◌, ◌*◌, ◌^◌, ◌<◌, ◌≤◌, ◌==◌, false, List, ◌++◌, length, All}
use Rattle.std.specs.List.{list_any}
use Rattle.step_counts.specs.declared.settings.Settings.{Settings}
use Rattle.plain_map.specs.declared.calls.Call.TheVariants.{Lookup}
use Rattle.plain_map.specs.declared.keys.Pair.{Pair}
use Rattle.lasting_model.specs.Plans.{Plan, ample, buckets_of, MOST_UPDATES}
use Rattle.lasting_model.specs.Codes.{row_in, pairs_of_row}
use Rattle.lasting_model.specs.Bounds.{update_bound, look_bound}
use Rattle.lasting_model.specs.Steps.{Stand, Idle, Goes, Glances, Stuck, HeldNumber, HeldReply, HeldIn, GlanceCount, GlanceItem, Aim, OfKey, OfBucket, bucket_of_aim}
use Rattle.lasting_model.specs.Goes.{Asked, Called, Copied, Told, Replied, Pairs, Again, Refused, told_by_items}
use Rattle.lasting_model.specs.Worlds.{Lasting, Asker, BySeat, ByReader, Answer, Event, IsRun, world_after, seat_in}

-- the bound of a call
abbrev pub call_bound : Settings → Asked → ℕ
call_bound s (Called (Lookup key)) = look_bound s
call_bound s (Called call) = update_bound s
call_bound s (Copied bucket) = look_bound s

-- a call of a seat was answered within its bound
abbrev pub IsWithin : Settings → Answer → Type 0
IsWithin s a = (seat : ℕ) → a.by ≡ BySeat seat → a.steps ≤ call_bound s a.asked

-- each call of a seat is answered within its bound
abbrev pub StepsAreBounded : Type 0
StepsAreBounded =
    (plan : Plan) (events : List Event) → IsRun plan events →
    All (IsWithin plan.settings) (world_after plan events).answers

-- it was not refused
abbrev pub IsTaken : Told → Type 0
IsTaken (Replied reply) = Unit {0}
IsTaken (Pairs pairs) = Unit {0}
IsTaken Again = Unit {0}
IsTaken Refused = ⊥

-- no update is refused: a sweep always finds enough
abbrev pub NoneIsRefused : Type 0
NoneIsRefused =
    (plan : Plan) (events : List Event) → IsRun plan events →
    All (λ (a : Answer). IsTaken a.told) (world_after plan events).answers

-- it is not where there is no further step
abbrev pub GoesOn : Stand → Type 0
GoesOn Idle = Unit {0}
GoesOn (Goes u Stuck) = ⊥
GoesOn (Goes u step) = Unit {0}
GoesOn (Glances aim glance) = Unit {0}

-- no seat is ever stuck
abbrev pub SeatsGoOn : Type 0
SeatsGoOn =
    (plan : Plan) (events : List Event) (seat : ℕ) → IsRun plan events →
    GoesOn (seat_in (world_after plan events) seat).stand

-- no two buckets have one row
abbrev pub BucketsAreApart : Type 0
BucketsAreApart =
    (plan : Plan) (events : List Event) (a b : ℕ) → IsRun plan events → a < buckets_of plan.settings →
    b < buckets_of plan.settings →
    row_in ((world_after plan events).store.bucket a) ≡ row_in ((world_after plan events).store.bucket b) → a ≡ b

-- the pairs of the row that stands in the word of a bucket
abbrev pub pairs_in : Plan → Lasting → (bucket : ℕ) → List Pair
pairs_in plan world bucket = pairs_of_row (ample plan) (world.store.row (row_in (world.store.bucket bucket)))

-- what was told of a bucket is what it had at one moment of the call
pub record IsOfMoment (plan : Plan) (events : List Event) (a : Answer) (aim : Aim) : Type 0 where
  pub front : List Event
  pub back : List Event
  pub cut : events ≡ front ++ back
  pub after : a.began ≤ length front
  pub before : length front ≤ a.ended
  pub is : a.told
      ≡ told_by_items (ample plan) aim (pairs_in plan (world_after plan front) (bucket_of_aim (ample plan) aim))

-- a reader's lookup, or its copy of a bucket, tells what the bucket had at one moment, or that it may be tried again
abbrev pub IsPeek : Plan → List Event → Answer → Asker → Asked → Type 0
IsPeek plan events a (BySeat seat) asked = Unit {0}
IsPeek plan events a (ByReader reader) (Called (Lookup key)) = (a.told ≡ Again) ⊎ IsOfMoment plan events a (OfKey key)
IsPeek plan events a (ByReader reader) (Called call) = ⊥
IsPeek plan events a (ByReader reader) (Copied bucket) = (a.told ≡ Again) ⊎ IsOfMoment plan events a (OfBucket bucket)

-- so none tells words of two writings
abbrev pub PeeksAreOfMoments : Type 0
PeeksAreOfMoments =
    (plan : Plan) (events : List Event) → IsRun plan events →
    All (λ (a : Answer). IsPeek plan events a a.by a.asked) (world_after plan events).answers

-- a seat's lookup, or its copy of a bucket, tells what the bucket had at one moment of the call
abbrev pub IsLook : Plan → List Event → Answer → Asker → Asked → Type 0
IsLook plan events a (ByReader reader) asked = Unit {0}
IsLook plan events a (BySeat seat) (Called (Lookup key)) = IsOfMoment plan events a (OfKey key)
IsLook plan events a (BySeat seat) (Called call) = Unit {0}
IsLook plan events a (BySeat seat) (Copied bucket) = IsOfMoment plan events a (OfBucket bucket)

-- whatever the others do meanwhile
abbrev pub LooksAreOfMoments : Type 0
LooksAreOfMoments =
    (plan : Plan) (events : List Event) → IsRun plan events →
    All (λ (a : Answer). IsLook plan events a a.by a.asked) (world_after plan events).answers

-- the row that a seat reads under its hold
abbrev pub ReadsHeld : Stand → (row : ℕ) → Type 0
ReadsHeld (Goes u (HeldNumber held)) row = held ≡ row
ReadsHeld (Goes u (HeldReply held)) row = held ≡ row
ReadsHeld (Glances aim (GlanceCount (HeldIn held))) row = held ≡ row
ReadsHeld (Glances aim (GlanceItem (HeldIn held) scan)) row = held ≡ row
ReadsHeld stand row = ⊥

-- a row that a seat reads under its hold is free for no seat, so nobody writes it meanwhile
abbrev pub HeldRowsAreKept : Type 0
HeldRowsAreKept =
    (plan : Plan) (events : List Event) (seat other row : ℕ) → IsRun plan events → seat < plan.settings.seats →
    other < plan.settings.seats → ReadsHeld (seat_in (world_after plan events) seat).stand row →
    list_any (λ free. free == row) (seat_in (world_after plan events) other).free ≡ false

-- what is counted in a run is small: a row is published at every third update of its seat at most, of which there are
-- not more than there may be; and no seat has asked more often than there were events
pub record CountsAreSmall (plan : Plan) (world : Lasting) : Type 0 where
  pub answered : (seat : ℕ) → seat < plan.settings.seats → (seat_in world seat).answered ≤ MOST_UPDATES
  pub generations : (seat row : ℕ) → seat < plan.settings.seats →
      3 * (seat_in world seat).generation row ≤ (seat_in world seat).answered + 2
  pub times : (seat : ℕ) → seat < plan.settings.seats → (seat_in world seat).time ≤ world.clock
  -- so a bucket word has 64 bits
  pub words : (bucket : ℕ) → bucket < buckets_of plan.settings → world.store.bucket bucket < 2 ^ 64

-- in each run
abbrev pub AllCountsAreSmall : Type 0
AllCountsAreSmall =
    (plan : Plan) (events : List Event) → IsRun plan events → CountsAreSmall plan (world_after plan events)
