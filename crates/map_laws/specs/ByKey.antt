-- Calls with their replies, key by key: what is held at a key comes from the calls about it, and from their replies.
-- So the calls of one key mean the same, however the calls of other keys stand between them.
-- Source: this project's own, after locality in Herlihy and Wing, "Linearizability", 1990, where a key is an object.
use Rattle.std.specs.Prelude.{◌≡◌, ◌≢◌, Bool, true, List, [], ◌∷◌, ◌++◌, map, filter, Option, Some, None, All, IsPermutation}
use Rattle.std.specs.Option.{option_map, option_map_or}
use Rattle.std.specs.Ordering.{eq_by_cmp}
use Rattle.std.specs.FinMap.{get, remove}
use Rattle.plain_map.specs.declared.keys.Key.{Key}
use Rattle.plain_map.specs.declared.rules.Rules.{Rules}
use Rattle.plain_map.specs.declared.calls.Call.{Call}
use Rattle.plain_map.specs.declared.calls.Call.TheVariants.{Insert, Remove, Lookup, Tally, Count, Put}
use Rattle.plain_map.specs.declared.calls.Reply.{Reply}
use Rattle.plain_map.specs.declared.calls.Reply.TheVariants.{New, NoRoom, Absent}
use Rattle.plain_map.specs.Keys.{Session, key_cmp}
use Rattle.plain_map.specs.PlainObject.{Sessions, counted_session, new_session, count_reply, found_in, gone_from, grown, insert_reply, inserted, reply_of, revalued, revised, map_after, sum_of, tallied}
use Rattle.plain_map.specs.declared.records.Record.{Record}
use Rattle.plain_map.specs.Calls.{key_in, is_update}
use Rattle.plain_map.specs.History.{answered, Legal, sessions_after}

-- a call, and the reply that it was given
abbrev pub Made : Type 0
Made = Call × Reply

-- the calls of these records, and the replies that they were given
abbrev pub made_in : List Record → List Made
made_in records = map (λ r. (r.call, r.reply)) records

-- whether the call is about the key
abbrev pub is_about : Key → Made → Bool
is_about key made = eq_by_cmp key_cmp key (key_in made.0)

-- the calls about the key, in their order
abbrev pub about : Key → List Made → List Made
about key calls = filter (is_about key) calls

-- both have the same calls of each key, with the same replies and in the same order
abbrev pub AgreeByKey : List Made → List Made → Type 0
AgreeByKey calls others = (key : Key) → about key calls ≡ about key others

-- the calls that are no lookups, in their order
abbrev pub updates_in : List Made → List Made
updates_in calls = filter (λ made. is_update made.0) calls

-- the plain object, asked these calls one after the other, gives each the reply that it was given
abbrev pub LegalMade : Rules → Sessions → List Made → Type 0
LegalMade rules sessions [] = Unit {0}
LegalMade rules sessions (made ∷ later) =
    (made.1 ≡ reply_of rules sessions made.0) × LegalMade rules (map_after rules sessions made.0) later

-- what is held after these calls
abbrev pub after_made : Rules → Sessions → List Made → Sessions
after_made rules sessions [] = sessions
after_made rules sessions (made ∷ later) = after_made rules (map_after rules sessions made.0) later

-- what is held at a key after a call that brings a session or changes the one that is held, by its reply
abbrev pub brought_by : Reply → (new : Session) → (change : Session → Session) → Option Session → Option Session
brought_by New new change held = Some new
brought_by reply new change held = option_map change held

-- what is held at the key of a call after it, by what was held there and by the reply
abbrev pub held_after : Option Session → Made → Option Session
held_after held (Insert key value, reply) = brought_by reply (new_session value) (λ session. session) held
held_after held (Remove key, reply) = None
held_after held (Lookup key, reply) = held
held_after held (Tally key amount, reply) = option_map (λ session. grown session amount) held
held_after held (Count key value amount, reply) =
    brought_by reply (counted_session value amount) (λ session. grown session amount) held
held_after held (Put key value, reply) =
    brought_by reply (new_session value) (λ session. revalued session value) held

-- what is held at a key after these calls about it, by what was held there and by their replies
abbrev pub held_by : Option Session → List Made → Option Session
held_by held [] = held
held_by held (made ∷ later) = held_by (held_after held made) later

-- each lookup tells what the calls of its key that stand before it have left
abbrev pub LooksTell : Sessions → List Made → Type 0
LooksTell sessions calls =
    (front back : List Made) (key : Key) (reply : Reply) → calls ≡ front ++ (Lookup key, reply) ∷ back →
    reply ≡ option_map_or found_in (held_by (get sessions key) (about key front)) Absent

-- no call was answered that its key's class has no room
abbrev pub NoneLacksRoom : List Made → Type 0
NoneLacksRoom calls = All (λ made. made.1 ≢ NoRoom) calls

-- the answer to a call of the map without a limit, where there is always room
unfoldable pub free_reply : Sessions → Call → Reply
free_reply sessions (Insert key value) = insert_reply (get sessions key) true
free_reply sessions (Remove key) = option_map_or gone_from (get sessions key) Absent
free_reply sessions (Lookup key) = option_map_or found_in (get sessions key) Absent
free_reply sessions (Tally key amount) = option_map_or (sum_of amount) (get sessions key) Absent
free_reply sessions (Count key value amount) = count_reply amount (get sessions key) true
free_reply sessions (Put key value) = insert_reply (get sessions key) true

-- what the map without a limit holds after a call
unfoldable pub free_map_after : Sessions → Call → Sessions
free_map_after sessions (Insert key value) = inserted sessions key (new_session value) (get sessions key) true
free_map_after sessions (Remove key) = remove sessions key
free_map_after sessions (Lookup key) = sessions
free_map_after sessions (Tally key amount) = tallied sessions key amount (get sessions key)
free_map_after sessions (Count key value amount) = revised sessions key (counted_session value amount)
    (λ held. grown held amount) (get sessions key) true
free_map_after sessions (Put key value) = revised sessions key (new_session value)
    (λ held. revalued held value) (get sessions key) true

-- the map without a limit, asked these calls one after the other, gives each the reply that it was given
abbrev pub LegalFree : Sessions → List Made → Type 0
LegalFree sessions [] = Unit {0}
LegalFree sessions (made ∷ later) =
    (made.1 ≡ free_reply sessions made.0) × LegalFree (free_map_after sessions made.0) later

-- what the map without a limit holds after these calls
abbrev pub after_free : Sessions → List Made → Sessions
after_free sessions [] = sessions
after_free sessions (made ∷ later) = after_free (free_map_after sessions made.0) later

-- ---- what is promised

-- an order of records is legal as calls with their replies are, and leaves the same sessions
abbrev pub RecordsAreMade : Type 0
RecordsAreMade =
    (rules : Rules) (sessions : Sessions) (records : List Record) →
    (Legal rules sessions (map answered records) → LegalMade rules sessions (made_in records))
    × (sessions_after rules sessions (map answered records) ≡ after_made rules sessions (made_in records))

-- what is held at a key after a legal order comes from what was held there, this key's calls, and their replies
abbrev pub KeysAreHeldByTheirCalls : Type 0
KeysAreHeldByTheirCalls =
    (rules : Rules) (sessions : Sessions) (order : List Made) (key : Key) → LegalMade rules sessions order →
    get (after_made rules sessions order) key ≡ held_by (get sessions key) (about key order)

-- calls that agree key by key are one another in another order
abbrev pub AgreeingCallsArePermuted : Type 0
AgreeingCallsArePermuted = (calls others : List Made) → AgreeByKey calls others → IsPermutation calls others

-- legal orders that agree key by key leave the same sessions
abbrev pub AgreeingCallsHoldTheSame : Type 0
AgreeingCallsHoldTheSame =
    (rules : Rules) (sessions : Sessions) (order other : List Made) → AgreeByKey order other →
    LegalMade rules sessions order → LegalMade rules sessions other →
    after_made rules sessions order ≡ after_made rules sessions other

-- an order that has all the calls asked, each key's in the order in which they were asked, is legal, and leaves the
-- sessions that the updates leave
pub record HasLooksSetIn (rules : Rules) (sessions : Sessions) (asked updates whole : List Made) : Type 0 where
  pub agrees : AgreeByKey whole asked
  pub permuted : IsPermutation asked whole
  pub legal : LegalMade rules sessions whole
  pub leaves : after_made rules sessions whole ≡ after_made rules sessions updates

-- lookups that tell what their keys' earlier calls have left can be set into a legal order of the updates
abbrev pub LooksCanBeSetIn : Type 0
LooksCanBeSetIn =
    (rules : Rules) (sessions : Sessions) (asked updates : List Made) → LegalMade rules sessions updates →
    ((key : Key) → updates_in (about key asked) ≡ about key updates) → LooksTell sessions asked →
    (whole : List Made) × HasLooksSetIn rules sessions asked updates whole

-- a legal order in which no call lacks room is one of the map without a limit, and leaves the same sessions
abbrev pub FreeWhileNoneLacksRoom : Type 0
FreeWhileNoneLacksRoom =
    (rules : Rules) (sessions : Sessions) (order : List Made) → LegalMade rules sessions order → NoneLacksRoom order →
    LegalFree sessions order × (after_made rules sessions order ≡ after_free sessions order)

-- if no call of a legal order lacks room, calls that agree with it key by key have the replies of the map without a
-- limit, asked them one after the other, and that map holds the same sessions
abbrev pub WithoutFullClasses : Type 0
WithoutFullClasses =
    (rules : Rules) (sessions : Sessions) (order asked : List Made) → LegalMade rules sessions order →
    AgreeByKey order asked → NoneLacksRoom asked →
    LegalFree sessions asked × (after_made rules sessions order ≡ after_free sessions asked)

-- if the plain object, asked the same calls in that order, lacks room for none either, all replies are its replies, and
-- it holds the same sessions
abbrev pub AnswersAsAskedInTurn : Type 0
AnswersAsAskedInTurn =
    (rules : Rules) (sessions : Sessions) (order asked answered : List Made) → LegalMade rules sessions order →
    AgreeByKey order asked → NoneLacksRoom asked →
    LegalMade rules sessions answered → NoneLacksRoom answered →
    map (λ made. made.0) answered ≡ map (λ made. made.0) asked →
    (answered ≡ asked) × (after_made rules sessions order ≡ after_made rules sessions answered)
