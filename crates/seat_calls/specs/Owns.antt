-- The seat's own call, as it is kept at hand.
use Rattle.std.specs.Prelude.{◌≡◌}
use Rattle.plain_map.specs.Calls.{key_in}
use Rattle.bucket_machine.specs.HashedKeys.{IsHashed}
use Rattle.seat_calls.specs.Going.{Going}
use Rattle.seat_calls.specs.declared.own.Own.{Own}

-- its number, and its key with its hash
pub record IsOwn (g : Going) (own : Own) : Type 0 where
  pub number : own.number ≡ g.flight.number
  pub hashed : IsHashed g.setup.hashing own.key
  pub key : own.key.key ≡ key_in g.flight.call
