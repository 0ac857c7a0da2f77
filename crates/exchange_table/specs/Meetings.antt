-- The seats of a table, and what they know once they have met.
use Rattle.std.specs.Prelude.{◌≡◌, ℕ, suc, ◌<◌, List, [], ◌∷◌, map, length, All}
use Rattle.exchange_model.specs.Steps.{Idle}
use Rattle.exchange_model.specs.Worlds.{BySeat, Event, IsRun, seat_in, world_after}
use Rattle.exchange_table.specs.Parties.{PartyValue}
use Rattle.exchange_table.specs.Rule.{M}
use Rattle.exchange_table.specs.Calls.{IsIdle}
use Rattle.exchange_table.specs.Joins.{ComesTo, Meets, knowing}
use Rattle.exchange_table.specs.Values.{IsPartyOf, TableValue}

-- seats of a table, from this one on
abbrev pub AreSeatsFrom : TableValue → (seat : ℕ) → List PartyValue → Type 0
AreSeatsFrom t seat [] = Unit {0}
AreSeatsFrom t seat (p ∷ ps) = IsPartyOf t p × (p.holding.who ≡ BySeat seat) × AreSeatsFrom t (suc seat) ps

-- these are all seats of a table, in order
pub record AreSeatsOf (t : TableValue) (ps : List PartyValue) : Type 0 where
  pub count : length ps ≡ t.plan.settings.seats
  pub each : AreSeatsFrom t 0 ps

-- a party that knows these events
abbrev pub informed : List Event → PartyValue → PartyValue
informed known p = record p { holding = knowing known p.holding }

-- the parties of a token and these have come to know the same. These stood between two calls
pub record HaveJoined (m then : M) (was now : List PartyValue) : Type 0 where
  pub meet : Meets m then
  pub each : All (λ (p : PartyValue). ComesTo meet.known p.holding) was
  pub rest : All (λ (p : PartyValue). IsIdle p.holding) was
  pub are : now ≡ map (informed meet.known) was

-- these have come to know the same, and stood between two calls
pub record HaveGathered (was now : List PartyValue) : Type 0 where
  pub known : List Event
  pub each : All (λ (p : PartyValue). ComesTo known p.holding) was
  pub rest : All (λ (p : PartyValue). IsIdle p.holding) was
  pub are : now ≡ map (informed known) was

-- all have come to know the same run of the table. What one of them did not know before is of others, and left it as it
-- was. All stand between two calls after that run
pub record HaveMet (t : TableValue) (was now : List PartyValue) : Type 0 where
  pub known : List Event
  pub run : IsRun t.plan known
  pub each : All (λ (p : PartyValue). ComesTo known p.holding) was
  pub are : now ≡ map (informed known) was
  pub idle : (seat : ℕ) → seat < t.plan.settings.seats → (seat_in (world_after t.plan known) seat).stand ≡ Idle
