use Rattle.std.proofs.Common.{subst}
use Rattle.plain_map.specs.declared.keys.Key.{Key}
use Rattle.plain_map.specs.declared.calls.Call.TheVariants.{Tally}
use Rattle.flowdir_c.specs.LastingExports.{Called}
use Rattle.flowdir_c.proofs.lasting_seat_exports.flowdir_lasting_tally.Goals as goal

-- the key is that which C has given
pub returns : goal.returns
returns c =
    let was = c.args.seat.now.holders in
    let now = c.make.new.seat.holders in
    subst (λ (k : Key). Called (Tally k c.args.bytes) was now c.args.out.now c.make.new.out c.make.result)
    c.to_key.ensures c.make.ensures
