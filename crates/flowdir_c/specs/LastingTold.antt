-- What C is told of a call of a lasting table.
use Rattle.std.specs.Prelude.{◌≡◌, ℕ, ◌<◌, ◌≤◌, ◌^◌, ◌⊎◌, List, map, take, length, Option, Some, None}
use Rattle.plain_map.specs.declared.keys.Key.{Key}
use Rattle.plain_map.specs.declared.keys.Pair.{Pair}
use Rattle.plain_map.specs.declared.calls.Call.{Call}
use Rattle.plain_map.specs.declared.calls.Call.TheVariants.{Lookup}
use Rattle.plain_map.specs.declared.calls.Reply.{Reply}
use Rattle.plain_map.specs.Serving.{IsAskable}
use Rattle.lasting_model.specs.Plans.{buckets_of, MOST_UPDATES}
use Rattle.lasting_model.specs.Goes.{Asked, Called, Copied, Again, Pairs, Replied}
use Rattle.lasting_table.specs.Parties.{PartyValue}
use Rattle.lasting_table.specs.Values.{Answers, answered_updates, asked_times}
use Rattle.flowdir_c.specs.declared.answer.Answer.{Answer}
use Rattle.flowdir_c.specs.declared.answer.FlowPair.{FlowPair}
use Rattle.flowdir_c.specs.Told.{answer_of, pair_of}

-- the call was answered: its reply is that of the one order, and the steps are not told
pub record IsReplied (call : Call) (was now : PartyValue) (answer : Answer) : Type 0 where
  pub reply : Reply
  pub answers : Answers (Called call) (Replied reply) was now
  pub answer_is : answer ≡ answer_of reply 0

-- the seat has asked for a hold as often as it can count
abbrev pub HasAskedAll : PartyValue → Type 0
HasAskedAll seat = 2 ^ 62 ≤ asked_times seat

-- it is an update, and the seat has made as many as it may
abbrev pub HasMadeAll : Call → PartyValue → Type 0
HasMadeAll (Lookup key) seat = ⊥
HasMadeAll call seat = MOST_UPDATES ≤ answered_updates seat

-- the call cannot be asked: its value or amount is too large, or the seat can make no more of them
abbrev pub CannotAsk : Call → PartyValue → Type 0
CannotAsk call seat = (IsAskable call → ⊥) ⊎ HasMadeAll call seat ⊎ HasAskedAll seat

-- it is no lookup
abbrev pub IsChange : Call → Type 0
IsChange (Lookup key) = ⊥
IsChange call = Unit {0}

-- what became of a call: the seat answered it, or it cannot be asked and nothing happened
abbrev pub HasReplied : Call → PartyValue → PartyValue → Option Answer → Type 0
HasReplied call was now (Some answer) = IsReplied call was now answer
HasReplied call was now None = CannotAsk call was × (now ≡ was)

-- a copy of a bucket cannot be made: there is no such bucket, the room is too little, or the seat can ask no more
abbrev pub CannotCopy : PartyValue → (bucket room : ℕ) → Type 0
CannotCopy seat bucket room =
    (buckets_of seat.holding.plan.settings ≤ bucket) ⊎ (room < seat.holding.plan.settings.items) ⊎ HasAskedAll seat

-- the bucket was copied: these are its pairs at one moment of the call
pub record IsCopied (bucket : ℕ) (was now : PartyValue) (pairs : List FlowPair) (count : ℕ) : Type 0 where
  pub answers : Answers (Copied bucket) (Pairs (map pair_of (take count pairs))) was now
  pub few : count ≤ length pairs

-- what became of a copy: so many pairs stand there, or it cannot be made and nothing happened
abbrev pub HasCopied : (bucket : ℕ) → PartyValue → PartyValue → (before after : List FlowPair) → Option ℕ → Type 0
HasCopied bucket was now before after (Some count) =
    IsCopied bucket was now after count × (length after ≡ length before)
HasCopied bucket was now before after None =
    CannotCopy was bucket (length before) × (now ≡ was) × (after ≡ before)

-- what became of a peek: the reply of one moment of the call, or each try was disturbed
pub record IsPeeked (key : Key) (was now : PartyValue) (answer : Answer) : Type 0 where
  pub reply : Reply
  pub answers : Answers (Called (Lookup key)) (Replied reply) was now
  pub answer_is : answer ≡ answer_of reply 0

abbrev pub HasPeeked : Key → PartyValue → PartyValue → Option Answer → Type 0
HasPeeked key was now (Some answer) = IsPeeked key was now answer
HasPeeked key was now None = Answers (Called (Lookup key)) Again was now
