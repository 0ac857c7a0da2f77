-- The greatest number of a seat's standing calls, and which call may stand next.
use Rattle.std.specs.Prelude.{ℕ, ◌+◌, ◌<◌, ◌≤◌, ◌==◌, max, if◌then◌else◌, List}
use Rattle.plain_map.specs.declared.records.TheConstants.{MOST_SEATS}
use Rattle.plain_map.specs.History.{Placed, seat_of, number_of, seen_of, Stands}

-- of each seat just the calls up to this number stand
pub record AreStanding (front : List Placed) (standing : ℕ → ℕ) : Type 0 where
  pub upto : (seat number : ℕ) → Stands front seat number → number ≤ standing seat
  pub there : (seat number : ℕ) → 1 ≤ number → number ≤ standing seat → Stands front seat number

-- the call is at most the next of its seat, and saw no more than stand
pub record IsReady (standing : ℕ → ℕ) (placed : Placed) : Type 0 where
  pub own : number_of placed ≤ standing (seat_of placed) + 1
  pub seen : (seat : ℕ) → seat < MOST_SEATS → seen_of placed seat ≤ standing seat

-- with one call more
abbrev pub standing_with : (ℕ → ℕ) → Placed → ℕ → ℕ
standing_with standing placed seat =
    if seat_of placed == seat then max (standing seat) (number_of placed) else standing seat
