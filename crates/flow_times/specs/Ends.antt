-- The ends of flows, and their order.
-- Source: this project's own.
use Rattle.std.specs.Prelude.{◌≡◌, ◌⊎◌, ℕ, ◌<◌, ◌≤◌, Option, Some, None}
use Rattle.flow_times.specs.Moments.{Moment, IsFrom}

-- at which moment a flow ended, by which packet if it ended by one, and its first packet
pub record End : Type 0 where
  pub at : Moment
  pub by : Option ℕ
  pub number : ℕ

-- of two that ended at one moment: by packets first, in their order; then the others, in the order of first packets
abbrev pub IsFirstBy : Option ℕ → Option ℕ → (number other : ℕ) → Type 0
IsFirstBy (Some packet) (Some other_packet) number other = packet < other_packet
IsFirstBy (Some packet) None number other = Unit {0}
IsFirstBy None (Some other_packet) number other = ⊥
IsFirstBy None None number other = number < other

-- the one stands before the other
abbrev pub IsBefore : End → End → Type 0
IsBefore one other =
    (one.at.stretch < other.at.stretch)
    ⊎ ((one.at.stretch ≡ other.at.stretch) × (one.at.clock < other.at.clock))
    ⊎ ((one.at.stretch ≡ other.at.stretch) × (one.at.clock ≡ other.at.clock)
    × IsFirstBy one.by other.by one.number other.number)

-- the one moment lies before the other
abbrev pub IsOver : (one now : Moment) → Type 0
IsOver one now = (one.stretch < now.stretch) ⊎ ((one.stretch ≡ now.stretch) × (one.clock < now.clock))

-- behind a packet with this number, at this moment, the flow has ended: by a packet up to it, or at a moment that is
-- over
abbrev pub HasEndedBy : (now : Moment) (packet : ℕ) → (at : Moment) → Option ℕ → Type 0
HasEndedBy now packet at (Some by) = IsFrom at now × (by ≤ packet)
HasEndedBy now packet at None = IsOver at now

-- it ends later: by a later packet, or at a moment that is not over
abbrev pub EndsLater : (now : Moment) (packet : ℕ) → (at : Moment) → Option ℕ → Type 0
EndsLater now packet at (Some by) = IsFrom now at × (packet < by)
EndsLater now packet at None = IsFrom now at

-- ---- what is promised

-- what has ended by now stands before all that ends later: so it can be printed now, wherever the packets are cut
abbrev pub EndedStandsFirst : Type 0
EndedStandsFirst =
    (now : Moment) (packet : ℕ) (one other : End) → HasEndedBy now packet one.at one.by →
    EndsLater now packet other.at other.by → IsBefore one other
