use Rattle.std.proofs.Common.{◌≤◌, ◌^◌, arith}
use Rattle.std.proofs.Math.Pow.{pow_mono}
use Rattle.table_model.specs.Setup.{settings_of}
use Rattle.seat_machine.specs.View.{setup_of}
use Rattle.seat_machine.proofs.machine.Machine.take_entry.Goals as goal

pub push_reserved-requires : goal.push_reserved-requires
push_reserved-requires c =
    let stands = rw c.requires.stage at c.requires.kept.stage in
    let bound : 2 ^ c.args.depth ≤ 2 ^ (settings_of (setup_of c.args.self.now)).depth = pow_mono stands.0 in
    omega (arith, bound, stands.2, c.requires.kept.room.directory)
