-- The pairs of one bucket: what they hold at a key, the answer to a call by them alone, and the pairs after it.
-- Source: this project's own; buckets are those of Fagin and others, "Extendible hashing", 1979.
use Rattle.std.specs.Prelude.{ℕ, ◌==◌, nat_lt, Bool, true, false, not, ◌&&◌, if◌then◌else◌, List, [], ◌∷◌, ◌++◌, length, Option, Some, None, is_some}
use Rattle.std.specs.Option.{option_map_or}
use Rattle.hash_bits.specs.Prefix.{first_bits}
use Rattle.plain_map.specs.declared.keys.Key.{Key}
use Rattle.plain_map.specs.declared.keys.Pair.{Pair}
use Rattle.plain_map.specs.declared.rules.Rules.{Rules}
use Rattle.plain_map.specs.declared.calls.Call.{Call}
use Rattle.plain_map.specs.declared.calls.Call.TheVariants.{Insert, Remove, Lookup, Tally, Count, Put}
use Rattle.plain_map.specs.declared.calls.Reply.{Reply}
use Rattle.plain_map.specs.declared.calls.Reply.TheVariants.{Absent}
use Rattle.plain_map.specs.Keys.{Session, hash_of_key, held_in, pair_of}
use Rattle.plain_map.specs.PlainObject.{new_session, counted_session, grown, revalued, found_in, gone_from, insert_reply, count_reply, sum_of}

-- the prefix of a key at a depth: so many first bits of its hash
unfoldable pub prefix_of : Rules → ℕ → Key → ℕ
prefix_of rules depth key = first_bits (hash_of_key rules.hashing key) depth

-- whether the two keys are one
abbrev pub same_key : Key → Key → Bool
same_key a b =
    (a.k0 == b.k0) && ((a.k1 == b.k1) && ((a.k2 == b.k2) && ((a.k3 == b.k3) && (a.k4 == b.k4))))

-- what the first pair with the key holds
abbrev pub value_at : Key → List Pair → Option Session
value_at key [] = None
value_at key (pair ∷ pairs) = if same_key pair.key key then Some (held_in pair) else value_at key pairs

-- its session number
abbrev pub number_at : Key → List Pair → Option ℕ
number_at key items = option_map_or (λ held. Some held.value) (value_at key items) None

-- a pair whose session is changed
abbrev pub with_change : (change : Session → Session) → Pair → Pair
with_change change pair = pair_of (pair.key, change (held_in pair))

-- the pairs with a change of the session in the first one with the key
abbrev pub changed_in : Key → (change : Session → Session) → List Pair → List Pair
changed_in key change [] = []
changed_in key change (pair ∷ pairs) =
    if same_key pair.key key then with_change change pair ∷ pairs else pair ∷ changed_in key change pairs

-- the pairs with so many bytes more in the first one with the key
abbrev pub tallied_in : Key → (amount : ℕ) → List Pair → List Pair
tallied_in key amount items = changed_in key (λ held. grown held amount) items

-- the pairs without the first one with the key, in their order
abbrev pub without : Key → List Pair → List Pair
without key [] = []
without key (pair ∷ pairs) = if same_key pair.key key then pairs else pair ∷ without key pairs

-- fewer pairs than a bucket may have
abbrev pub has_place : Rules → List Pair → Bool
has_place rules items = nat_lt (length items) rules.items

-- the answer to a call, by these pairs alone
unfoldable pub reply_in : Rules → List Pair → Call → Reply
reply_in rules items (Insert key value) = insert_reply (value_at key items) (has_place rules items)
reply_in rules items (Remove key) = option_map_or gone_from (value_at key items) Absent
reply_in rules items (Lookup key) = option_map_or found_in (value_at key items) Absent
reply_in rules items (Tally key amount) = option_map_or (sum_of amount) (value_at key items) Absent
reply_in rules items (Count key value amount) = count_reply amount (value_at key items) (has_place rules items)
reply_in rules items (Put key value) = insert_reply (value_at key items) (has_place rules items)

-- the pairs after an insert, by what is held at its key and by whether there is a place: a new pair goes last
abbrev pub appended : List Pair → Pair → Option Session → Bool → List Pair
appended items pair (Some held) place = items
appended items pair None true = items ++ pair ∷ []
appended items pair None false = items

-- the pairs after one has come: a key that is held keeps what it has
abbrev pub items_with : Rules → List Pair → Pair → List Pair
items_with rules items pair = appended items pair (value_at pair.key items) (has_place rules items)

-- the pairs after a call that changes the session of a key that is held, and brings a new one to another key; by what
-- is held at the key and by whether there is a place
abbrev pub revised_in : List Pair → Key → (new : Session) → (change : Session → Session) → Option Session → Bool →
    List Pair
revised_in items key new change (Some held) place = changed_in key change items
revised_in items key new change None true = items ++ pair_of (key, new) ∷ []
revised_in items key new change None false = items

-- the pairs after a count
abbrev pub counted_in : Rules → List Pair → Key → (value amount : ℕ) → List Pair
counted_in rules items key value amount = revised_in items key (counted_session value amount)
    (λ held. grown held amount) (value_at key items) (has_place rules items)

-- the pairs after a put
abbrev pub valued_in : Rules → List Pair → Key → (value : ℕ) → List Pair
valued_in rules items key value = revised_in items key (new_session value) (λ held. revalued held value)
    (value_at key items) (has_place rules items)

-- the pairs after a call
unfoldable pub items_after : Rules → List Pair → Call → List Pair
items_after rules items (Insert key value) = items_with rules items (pair_of (key, new_session value))
items_after rules items (Remove key) = without key items
items_after rules items (Lookup key) = items
items_after rules items (Tally key amount) = tallied_in key amount items
items_after rules items (Count key value amount) = counted_in rules items key value amount
items_after rules items (Put key value) = valued_in rules items key value

-- a new key would come where there is no place, at a depth at which the bucket can still be split
abbrev pub is_too_many : Rules → ℕ → List Pair → Key → Bool
is_too_many rules depth items key =
    not (is_some (value_at key items)) && (not (has_place rules items) && nat_lt depth rules.depth)

-- the call brings a new key where there is no place, at a depth at which the bucket can still be split
unfoldable pub overflows : Rules → ℕ → List Pair → Call → Bool
overflows rules depth items (Insert key value) = is_too_many rules depth items key
overflows rules depth items (Remove key) = false
overflows rules depth items (Lookup key) = false
overflows rules depth items (Tally key amount) = false
overflows rules depth items (Count key value amount) = is_too_many rules depth items key
overflows rules depth items (Put key value) = is_too_many rules depth items key
