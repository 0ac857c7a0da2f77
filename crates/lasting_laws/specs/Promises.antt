-- What a caller is promised of every run of a lasting table: one order of all updates, in which each has the reply of
-- the plain map. It is told by a run of the table of today, which nobody makes: the ghost. It takes its steps between
-- those of the lasting table, and makes the same updates with the same replies.
-- Source: this project's own. That all calls can be put into one order that keeps the order in time is linearizability,
-- after Herlihy and Wing, "Linearizability: a correctness condition for concurrent objects", 1990.
use Rattle.std.specs.Prelude.{◌≡◌, ◌⊎◌, ℕ, ◌<◌, ◌≤◌, List, [], ◌∷◌, ◌++◌, length, slice_index, All}
use Rattle.plain_map.specs.declared.keys.Key.{Key}
use Rattle.plain_map.specs.declared.keys.Pair.{Pair}
use Rattle.plain_map.specs.declared.calls.Call.{Call}
use Rattle.plain_map.specs.declared.calls.Call.TheVariants.{Lookup}
use Rattle.plain_map.specs.declared.calls.Reply.{Reply}
use Rattle.plain_map.specs.declared.records.Record.{Record}
use Rattle.plain_map.specs.Updates.{IsUpdate}
use Rattle.plain_map.specs.History.{Placed, answered, Stands, Legal, After, Whole}
use Rattle.bucket_states.specs.Parts.{HoldsPart}
use Rattle.table_model.specs.declared.events.Event.{Event}
use Rattle.table_model.specs.Setup.{Setup, settings_of, seats_of, rules_of}
use Rattle.table_model.specs.Worlds.{IsRun, world_after, seat_in}
use Rattle.table_model.specs.Order.{order_of, effects_of}
use Rattle.table_model.specs.Closed.{sessions_with}
use Rattle.table_model.specs.Histories.{closed, sessions_of_order}
use Rattle.peek_laws.specs.Peeks.{reply_then}
use Rattle.lasting_model.specs.Plans.{Plan, ample, buckets_of}
use Rattle.lasting_model.specs.Goes.{Asked, Called, Copied, Told, Replied, Pairs, Again, Refused}
use Rattle.lasting_model.specs.Worlds.{Answer, Asker, BySeat, ByReader}
use Rattle.lasting_model.specs.Worlds as L
use Rattle.lasting_model.specs.Laws.{pairs_in}

-- what a seat of the ghost has answered
abbrev pub records_in : Setup → List Event → (seat : ℕ) → List Record
records_in setup events seat = (seat_in (world_after setup events) seat).account.records

-- between two moments the ghost has made the seat's next record, with this call and this reply
pub record HasRecord (setup : Setup) (first last : List Event) (seat : ℕ) (call : Call) (reply : Reply) : Type 0 where
  pub made : Record
  pub records_are : records_in setup last seat ≡ records_in setup first seat ++ made ∷ []
  pub call_is : made.call ≡ call
  pub reply_is : made.reply ≡ reply
  -- it had seen all that each seat had answered at the first
  pub saw : (other : ℕ) → other < seats_of setup →
      length (records_in setup first other) ≤ slice_index made.seen.counts other

-- an update that a seat was answered has its record, and no update is answered in another way: none is refused, by the
-- pools. Lookups and copies have no record, and are told of moments
abbrev pub IsUpdated : Setup → (first last : List Event) → Asker → Asked → Told → Type 0
IsUpdated table first last by (Called (Lookup key)) told = Unit {0}
IsUpdated table first last by (Copied bucket) told = Unit {0}
IsUpdated table first last (BySeat seat) (Called call) (Replied reply) = HasRecord table first last seat call reply
IsUpdated table first last (BySeat seat) (Called call) Refused = Unit {0}
IsUpdated table first last by asked told = ⊥

-- an answer is right by the runs of the ghost when its call began and when it ended
abbrev pub IsRight : Setup → (ghost : ℕ → List Event) → Answer → Type 0
IsRight setup ghost a =
    (a.began ≤ a.ended) × IsUpdated setup (ghost a.began) (ghost a.ended) a.by a.asked a.told

-- a lookup tells what the plain map has at one moment of the call
abbrev pub IsHeldOnce : Plan → (ghost : ℕ → List Event) → Answer → Key → Type 0
IsHeldOnce plan ghost a key =
    (n : ℕ) × (a.began ≤ n) × (n ≤ a.ended) × (a.told ≡ Replied (reply_then (ample plan) (ghost n) key))

-- these are exactly the pairs of one class that the plain map has after the order of these events
abbrev pub IsClassOf : Plan → List Event → (class : ℕ) → List Pair → Type 0
IsClassOf plan moment class pairs =
    HoldsPart (rules_of (ample plan)) class (settings_of (ample plan)).depth pairs
    (sessions_of_order (ample plan) moment)

-- a copy tells the pairs of its class that the plain map has at one moment of the call. There is a bucket for each
-- class
abbrev pub IsCopiedOnce : Plan → (ghost : ℕ → List Event) → Answer → (bucket : ℕ) → Type 0
IsCopiedOnce plan ghost a bucket =
    bucket < buckets_of plan.settings →
    (n : ℕ) × (pairs : List Pair) × (a.began ≤ n) × (n ≤ a.ended) × (a.told ≡ Pairs pairs)
    × IsClassOf plan (ghost n) bucket pairs

-- a reader may be told that it may be tried again, and a seat is not
abbrev pub IsLookedAt : Plan → (ghost : ℕ → List Event) → Answer → Asker → Asked → Type 0
IsLookedAt plan ghost a (BySeat seat) (Called (Lookup key)) = IsHeldOnce plan ghost a key
IsLookedAt plan ghost a (ByReader reader) (Called (Lookup key)) = (a.told ≡ Again) ⊎ IsHeldOnce plan ghost a key
IsLookedAt plan ghost a (BySeat seat) (Copied bucket) = IsCopiedOnce plan ghost a bucket
IsLookedAt plan ghost a (ByReader reader) (Copied bucket) = (a.told ≡ Again) ⊎ IsCopiedOnce plan ghost a bucket
IsLookedAt plan ghost a by (Called call) = Unit {0}

-- the one order of the updates of a run of the ghost
abbrev pub order_in : Setup → List Event → List Placed
order_in setup events = order_of setup.shape (closed setup events)

-- and that of the last of its runs, when so many events have come
abbrev pub last_order : Plan → List L.Event → (ghost : ℕ → List Event) → List Placed
last_order plan events ghost = order_in (ample plan) (ghost (length events))

-- this is the record of an update that a seat was answered: the one that was made within its call
pub record IsRecordOf (setup : Setup) (ghost : ℕ → List Event) (a : Answer) (seat : ℕ) (r : Record) : Type 0 where
  pub call : Call
  pub reply : Reply
  pub by_is : a.by ≡ BySeat seat
  pub asked_is : a.asked ≡ Called call
  pub update : IsUpdate call
  pub told_is : a.told ≡ Replied reply
  pub made : records_in setup (ghost a.ended) seat ≡ records_in setup (ghost a.began) seat ++ r ∷ []

-- an update that had ended when another one began stands before that one
abbrev pub StandsInTime : Setup → (ghost : ℕ → List Event) → List Placed → (first second : Answer) → Type 0
StandsInTime setup ghost order first second =
    (seat other : ℕ) (r s : Record) (before later : List Placed) → IsRecordOf setup ghost first seat r →
    IsRecordOf setup ghost second other s → first.ended ≤ second.began → order ≡ before ++ answered s ∷ later →
    Stands before seat r.number

-- a run of the ghost for each moment of a run of the lasting table
pub record IsGhost (plan : Plan) (events : List L.Event) (ghost : (clock : ℕ) → List Event) : Type 0 where
  -- they are runs of today's table, and each goes on from the one before
  pub runs : (n : ℕ) → n ≤ length events → IsRun (ample plan) (ghost n)
  pub grows : (i n : ℕ) → i ≤ n → n ≤ length events → (later : List Event) × (ghost n ≡ ghost i ++ later)
  -- each update that was answered is the record of its seat that was made within its call, with its reply
  pub updates : All (IsRight (ample plan) ghost) (L.world_after plan events).answers
  -- the calls ended when they were answered
  pub ended : All (λ (a : Answer). a.ended ≤ length events) (L.world_after plan events).answers
  -- at each moment each bucket has the pairs of its class that the plain map has after the order of that moment
  pub buckets : (front back : List L.Event) (bucket : ℕ) → events ≡ front ++ back → bucket < buckets_of plan.settings →
      IsClassOf plan (ghost (length front)) bucket (pairs_in plan (L.world_after plan front) bucket)
  -- so each lookup and each copy is held at one moment of its call
  pub looks : All (λ (a : Answer). IsLookedAt plan ghost a a.by a.asked) (L.world_after plan events).answers
  -- in its order each record stands once, each answered call has the plain map's reply, and each stands after those
  -- before it of its seat and after all that its caller had seen
  pub legal : Legal (rules_of (ample plan)) (sessions_with (rules_of (ample plan)) (ample plan).first)
      (last_order plan events ghost)
  pub whole : Whole (closed (ample plan) (ghost (length events))).records
      (effects_of (ample plan).shape (closed (ample plan) (ghost (length events))))
      (last_order plan events ghost)
  pub after : After (last_order plan events ghost)
  -- so the order keeps that of time: each update stands after all that had ended before its call began
  pub in_time :
      All (λ (first : Answer). All
      (λ (second : Answer). StandsInTime (ample plan) ghost (last_order plan events ghost) first second)
      (L.world_after plan events).answers)
      (L.world_after plan events).answers

-- a run of a lasting table with its ghost
pub record HasGhost (plan : Plan) (events : List L.Event) : Type 0 where
  pub ghost : (clock : ℕ) → List Event
  pub is : IsGhost plan events ghost

-- each run of a lasting table has a ghost, and so its updates have one order
abbrev pub UpdatesAreOrdered : Type 0
UpdatesAreOrdered = (plan : Plan) (events : List L.Event) → L.IsRun plan events → HasGhost plan events
