-- What a step does to a machine.
use Rattle.std.specs.Prelude.{◌≡◌, ℕ}
use Rattle.table_model.specs.Goes.{flight_after, seen_after, used_after}
use Rattle.seat_machine.specs.declared.machine.Machine.{Machine}
use Rattle.seat_machine.specs.View.{flight_of, phase_of, phase_then, setup_of}

-- all but the phase is as before
pub record KeepsCall (was now : Machine) : Type 0 where
  pub setup : setup_of now ≡ setup_of was
  pub flight : flight_of now ≡ flight_of was
  pub seat : now.seat ≡ was.seat
  pub used : now.used ≡ was.used
  pub count : now.count ≡ was.count

-- one step of the program, part by part
pub record Went (was now : Machine) (word : ℕ) : Type 0 where
  pub setup : setup_of now ≡ setup_of was
  pub seat : now.seat ≡ was.seat
  pub count : now.count ≡ was.count
  pub used : now.used ≡ used_after (setup_of was) was.used (phase_of was) word
  pub flight : flight_of now ≡ flight_after (flight_of was) (phase_of was) word
  pub phase : phase_of now ≡ phase_then was word

-- the same, before the step is counted
pub record Moves (was now : Machine) (word : ℕ) : Type 0 where
  pub setup : setup_of now ≡ setup_of was
  pub seat : now.seat ≡ was.seat
  pub count : now.count ≡ was.count
  pub used : now.used ≡ used_after (setup_of was) was.used (phase_of was) word
  pub flight : flight_of now ≡ record (flight_of was) { seen = seen_after was.seen.items (phase_of was) word }
  pub phase : phase_of now ≡ phase_then was word
