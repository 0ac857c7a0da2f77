-- With calls of one key made by one seat, and room for all keys of each class, an order of calls answers as one thread
-- would that made them in the order of their packets.
-- Source: this project's own, after the sequential specification in Herlihy and Wing, "Linearizability", 1990.
use Rattle.std.specs.Prelude.{◌≡◌, ◌≢◌, ℕ, ◌<◌, ◌≤◌, ◌⊎◌, true, List, [], ◌∷◌, ◌++◌, length, None, map, All}
use Rattle.std.specs.List.{list_any}
use Rattle.std.specs.FinMap.{get}
use Rattle.plain_map.specs.declared.keys.Key.{Key}
use Rattle.plain_map.specs.declared.rules.Rules.{Rules}
use Rattle.plain_map.specs.declared.calls.Call.{Call}
use Rattle.plain_map.specs.declared.calls.Call.TheVariants.{Insert, Remove, Lookup, Tally, Count, Put}
use Rattle.plain_map.specs.declared.records.Record.{Record}
use Rattle.plain_map.specs.Calls.{key_in}
use Rattle.plain_map.specs.PlainObject.{Sessions, class_of}
use Rattle.plain_map.specs.History.{Placed, answered, Legal, After, Whole, sessions_after}
use Rattle.bucket_states.specs.Items.{same_key}

-- the first of two records stands before the second
pub record StandsBefore (records : List Record) (a b : Record) : Type 0 where
  pub front : List Record
  pub middle : List Record
  pub back : List Record
  pub is : records ≡ front ++ a ∷ (middle ++ b ∷ back)

-- the calls of each seat are numbered from 1 on as they stand, and calls of one key are made by one seat
pub record KeysHaveSeats (records : List Record) : Type 0 where
  pub numbered : (a b : Record) → StandsBefore records a b → a.seat ≡ b.seat → a.number < b.number
  pub one_seat : (a b : Record) → StandsBefore records a b → key_in a.call ≡ key_in b.call → a.seat ≡ b.seat
  pub from_one : All (λ r. 1 ≤ r.number) records

-- the call brings this key where it is not there
abbrev pub Inserts : Key → Call → Type 0
Inserts key (Insert other value) = other ≡ key
Inserts key (Remove other) = ⊥
Inserts key (Lookup other) = ⊥
Inserts key (Tally other amount) = ⊥
Inserts key (Count other value amount) = other ≡ key
Inserts key (Put other value) = other ≡ key

-- one of these calls brings this key
abbrev pub SomeInserts : Key → List Record → Type 0
SomeInserts key [] = ⊥
SomeInserts key (r ∷ records) = Inserts key r.call ⊎ SomeInserts key records

-- the key is held before these calls, or one of them brings it
abbrev pub MayBeHeld : Sessions → List Record → Key → Type 0
MayBeHeld sessions records key = (get sessions key ≢ None) ⊎ SomeInserts key records

-- all keys of a class that may be held are among so many keys as a class has room for
pub record HasRoomForAll (rules : Rules) (sessions : Sessions) (records : List Record) (class : ℕ) : Type 0 where
  pub keys : List Key
  pub few : length keys ≤ rules.items
  pub among : (key : Key) → class_of rules key ≡ class → MayBeHeld sessions records key →
      list_any (same_key key) keys ≡ true

-- replies and sessions of a legal, after and whole order are those of the records one after the other
abbrev pub AnswersAsOneThread : Type 0
AnswersAsOneThread =
    (rules : Rules) (sessions : Sessions) (records : List Record) (order : List Placed) → KeysHaveSeats records →
    ((class : ℕ) → HasRoomForAll rules sessions records class) →
    Legal rules sessions order → After order → Whole records [] order →
    Legal rules sessions (map answered records)
    × (sessions_after rules sessions order ≡ sessions_after rules sessions (map answered records))
