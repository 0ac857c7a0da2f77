-- The calls that packets make. Packets are counted from 1, those that make no call too.
use Rattle.std.specs.Prelude.{◌≡◌, ℕ, suc, List, [], ◌∷◌, ◌++◌, Option, Some, None}
use Rattle.mode_parts.specs.declared.calling.Calling.{Calling}
use Rattle.packet_heads.specs.declared.packet.Heads.{Heads}
use Rattle.packet_heads.specs.Heads.{HasHeads, HasWidths}
use Rattle.plain_map.specs.declared.calls.Call.{Call}
use Rattle.plain_map.specs.Serving.{IsAskable}
use Rattle.flow_keys.specs.Flow.{flow_call}

-- the packet with this number, so framed and by this rule, makes this call, which can be asked, or none where it has no
-- heads; the numbers of its heads fit their fields
abbrev pub MakesCall : Calling → ℕ → List ℕ → Option Call → Type 0
MakesCall calling number packet (Some call) =
    (heads : Heads) × HasHeads calling.framing packet heads × (call ≡ flow_call calling.calls heads number)
    × HasWidths heads × IsAskable call
MakesCall calling number packet None = (heads : Heads) → HasHeads calling.framing packet heads → ⊥

-- the call with its packet's number, where there is one
abbrev pub numbered : ℕ → Option Call → List (ℕ × Call)
numbered number (Some call) = (number, call) ∷ []
numbered number None = []

-- these packets, counted on from this number, make these calls, each with its packet's number
abbrev pub MakeCalls : Calling → ℕ → List (List ℕ) → List (ℕ × Call) → Type 0
MakeCalls calling number [] calls = calls ≡ []
MakeCalls calling number (packet ∷ packets) calls =
    (made : Option Call) × (others : List (ℕ × Call)) × MakesCall calling number packet made
    × MakeCalls calling (suc number) packets others
    × (calls ≡ numbered number made ++ others)
