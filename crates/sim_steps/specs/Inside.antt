-- The value of a machine, by its field.
use Rattle.sim_steps.specs.declared.machine.AddMachine.TheInside as machine
use Rattle.sim_steps.specs.Machine.{Machine}
use Rattle.sim_steps.specs.Fields.{machine_of, IsKept}

-- the value of a machine's field
abbrev pub value_of : machine.Inside → Machine
value_of m = machine_of m.program

-- what always holds of it
abbrev pub IsWhole : machine.Inside → Type 0
IsWhole m = IsKept m.program
