-- Calls that leave a bucket's items as they are.
use Rattle.std.specs.Prelude.{◌≡◌, Bool, true, false, List, Option, Some, None, MatchOption}
use Rattle.plain_map.specs.declared.calls.Call.{Call}
use Rattle.plain_map.specs.declared.calls.Call.TheVariants.{Insert, Remove, Lookup, Tally, Count, Put}
use Rattle.plain_map.specs.declared.calls.Reply.{Reply}
use Rattle.plain_map.specs.declared.calls.Reply.TheVariants.{Absent}
use Rattle.plain_map.specs.declared.keys.Pair.{Pair}
use Rattle.plain_map.specs.declared.rules.Rules.{Rules}
use Rattle.plain_map.specs.Keys.{Session, held_in}
use Rattle.plain_map.specs.PlainObject.{count_reply, gone_from, insert_reply, sum_of}
use Rattle.std.specs.Option.{option_map_or}
use Rattle.bucket_states.specs.Items.{reply_in}
use Rattle.exchange_model.specs.Goes.{changes_nothing, is_quiet}

-- the reply to an update, by what is held at its key and by whether there is a place
abbrev pub reply_by : Call → Option Session → (place : Bool) → Reply
reply_by (Insert key value) held place = insert_reply held place
reply_by (Remove key) held place = option_map_or gone_from held Absent
reply_by (Lookup key) held place = Absent
reply_by (Tally key amount) held place = option_map_or (sum_of amount) held Absent
reply_by (Count key value amount) held place = count_reply amount held place
reply_by (Put key value) held place = insert_reply held place

-- it is answered quietly exactly where it changes nothing
abbrev pub IsQuiet : Call → Option Session → (place : Bool) → Option Reply → Type 0
IsQuiet call held place result = MatchOption result (changes_nothing call held place ≡ false)
    (λ reply. (changes_nothing call held place ≡ true) × (reply ≡ reply_by call held place))

-- where its key has this pair
abbrev pub IsQuietAt : Pair → Call → Option Reply → Type 0
IsQuietAt pair call result = (place : Bool) → IsQuiet call (Some (held_in pair)) place result

-- where its key is not there
abbrev pub IsQuietNew : (place : Bool) → Call → Option Reply → Type 0
IsQuietNew place call result = IsQuiet call None place result

-- by the items
abbrev pub IsQuietBy : Rules → List Pair → Call → Option Reply → Type 0
IsQuietBy rules items call result = MatchOption result (is_quiet rules items call ≡ false)
    (λ reply. (is_quiet rules items call ≡ true) × (reply ≡ reply_in rules items call))
