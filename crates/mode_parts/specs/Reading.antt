-- The calls of an input that was read.
use Rattle.std.specs.Prelude.{◌≡◌, ◌≤◌, ◌<◌, ℕ, ◌+◌, List, [], ◌∷◌, ◌++◌, length, All, Option}
use Rattle.capture_loop.specs.Reading.{HaveEnded}
use Rattle.mode_parts.specs.declared.calling.Calling.{Calling}
use Rattle.packet_heads.specs.Links.{number_in}
use Rattle.plain_map.specs.declared.calls.Call.{Call}
use Rattle.capture_faults.specs.declared.ending.Ending.{Ending}
use Rattle.plain_map.specs.Calls.{key_in}
use Rattle.plain_map.specs.Serving.{IsAskable}
use Rattle.plain_map.specs.Keys.{IsKey}
use Rattle.key_texts.specs.FlowText.{HasText}
use Rattle.mode_parts.specs.PacketCalls.{MakeCalls, MakesCall, numbered}

-- the call that the packet with this number makes stands behind the others, where it makes one
abbrev pub TakesCall : Calling → ℕ → List ℕ → List (ℕ × Call) → List (ℕ × Call) → Type 0
TakesCall calling number packet old new = (made : Option Call) × MakesCall calling number packet made
    × (new ≡ old ++ numbered number made)

-- An input, of which these bytes were left at first and these are now, ended so behind so many packets, which make
-- these calls. No more than `most` are taken.
pub record EndsCalls (calling : Calling) (most : ℕ) (first now : Option (List ℕ)) (many : ℕ) (calls : List (ℕ × Call))
    (ending : Ending) : Type 0 where
  pub packets : List (List ℕ)
  pub ended : HaveEnded most (number_in calling.framing.link) first now packets ending
  pub make : MakeCalls calling 1 packets calls
  pub count : length packets ≡ many

-- a call of a packet behind the one number and up to the other, which can be asked, printed and kept
pub record IsBetween (first last : ℕ) (call : ℕ × Call) : Type 0 where
  pub above : first < call.0
  pub upto : call.0 ≤ last
  pub askable : IsAskable call.1
  pub text : HasText (key_in call.1)
  pub key : IsKey (key_in call.1)

-- each call is of a later packet than those before it
abbrev pub Ascending : List (ℕ × Call) → Type 0
Ascending [] = Unit {0}
Ascending (call ∷ calls) = All (λ other. call.0 < other.0) calls × Ascending calls

-- these calls are of the packets behind the one number and up to the other, in their order
pub record AreBetween (first last : ℕ) (calls : List (ℕ × Call)) : Type 0 where
  pub ascend : Ascending calls
  pub each : All (IsBetween first last) calls
  pub few : first + length calls ≤ last
