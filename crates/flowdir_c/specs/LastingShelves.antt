-- A lasting table, as C has it, and how its first pairs come into it.
use Rattle.std.specs.Prelude.{◌≡◌, ◌≢◌, ℕ, ◌^◌, ◌≤◌, ◌⊎◌, List, [], ◌∷◌, ◌++◌, length, Option, None}
use Rattle.plain_map.specs.declared.keys.Pair.{Pair}
use Rattle.plain_map.specs.declared.calls.Call.{Call}
use Rattle.plain_map.specs.declared.calls.Call.TheVariants.{Count}
use Rattle.plain_map.specs.declared.calls.Reply.{Reply}
use Rattle.plain_map.specs.declared.calls.Reply.TheVariants.{New}
use Rattle.lasting_model.specs.Goes.{Called, Replied}
use Rattle.lasting_model.specs.Plans.{MOST_UPDATES}
use Rattle.flowdir_c.specs.declared.answer.FlowPair.{FlowPair}
use Rattle.flowdir_c.specs.LastingTold.{CannotCopy, HasCopied}
use Rattle.lasting_table.specs.Parties.{PartyValue}
use Rattle.lasting_table.specs.Values.{Answers, TableValue, answered_updates, asked_times}

-- what contracts see of it: the table, the seats that nobody has, and for how many there is a place
pub record LastingValue : Type 0 where
  pub table : TableValue
  pub free : List PartyValue
  pub places : ℕ

-- the call that brings a pair
abbrev pub bringing : Pair → Call
bringing pair = Count pair.key pair.value pair.bytes

-- a seat brought these pairs one after the other, and each was new
abbrev pub HasBrought : List Pair → PartyValue → PartyValue → Type 0
HasBrought [] was now = now ≡ was
HasBrought (pair ∷ pairs) was now =
    (then : PartyValue) × Answers (Called (bringing pair)) (Replied New) was then × HasBrought pairs then now

-- what a seat answers to a pair that is not new, or it can make no more updates
abbrev pub IsNotNew : Pair → PartyValue → PartyValue → Type 0
IsNotNew pair was now =
    ((reply : Reply) × (reply ≢ New) × Answers (Called (bringing pair)) (Replied reply) was now)
    ⊎ (MOST_UPDATES ≤ answered_updates was) ⊎ (2 ^ 62 ≤ asked_times was)

-- it brought some of these pairs, each of which was new, and the next one was not
pub record WasStopped (pairs : List Pair) (was now : PartyValue) : Type 0 where
  pub front : List Pair
  pub pair : Pair
  pub back : List Pair
  pub are : pairs ≡ front ++ pair ∷ back
  pub then : PartyValue
  pub brought : HasBrought front was then
  pub stopped : IsNotNew pair then now

-- the last of these seats brought the pairs, and the others made no call
pub record LastHasBrought (pairs : List Pair) (was now : List PartyValue) : Type 0 where
  pub others : List PartyValue
  pub seat : PartyValue
  pub then : PartyValue
  pub was_is : was ≡ others ++ seat ∷ []
  pub now_is : now ≡ others ++ then ∷ []
  pub brought : HasBrought pairs seat then

-- the last of these seats copied a bucket, or it could not, and the others made no call
pub record LastHasCopied (bucket : ℕ) (was now : List PartyValue) (before after : List FlowPair) (told : Option ℕ)
    : Type 0 where
  pub others : List PartyValue
  pub seat : PartyValue
  pub then : PartyValue
  pub was_is : was ≡ others ++ seat ∷ []
  pub now_is : now ≡ others ++ then ∷ []
  pub became : HasCopied bucket seat then before after told
  pub refuses : CannotCopy seat bucket (length before) → told ≡ None

-- and the last of these seats was stopped
pub record LastWasStopped (pairs : List Pair) (was : List PartyValue) : Type 0 where
  pub others : List PartyValue
  pub seat : PartyValue
  pub then : PartyValue
  pub was_is : was ≡ others ++ seat ∷ []
  pub stopped : WasStopped pairs seat then
