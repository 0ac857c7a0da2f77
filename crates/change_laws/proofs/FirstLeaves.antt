-- The leaves that a table opens with are as the laws of the opening say.
use Rattle.std.proofs.Common.{arith}
use Rattle.table_model.specs.Setup.{Setup, IsSetup, seats_of, rules_of}
use Rattle.table_model.specs.OpeningLaws.{CanOpen, IsOpening}
use Rattle.table_model.specs.Worlds.{first_leaves}
use Rattle.change_laws.proofs.Openings.{opening_is_right}

-- the first pairs of a table can be opened
pub first_can_open : (setup : Setup) → IsSetup setup → CanOpen (rules_of setup) setup.shape.settings.start setup.first
first_can_open setup s = record {
  range = record { some_room = omega arith; items = omega arith; depth = omega arith };
  within = omega arith;
  distinct = s.distinct;
  room = s.room;
}

-- and its first leaves are as the laws say
pub first_opens : (setup : Setup) → IsSetup setup →
    IsOpening (rules_of setup) (seats_of setup) setup.shape.settings.start setup.first (first_leaves setup)
first_opens setup s =
    opening_is_right (rules_of setup) (seats_of setup) setup.shape.settings.start setup.first (first_can_open setup s)
