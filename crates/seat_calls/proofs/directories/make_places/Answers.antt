-- There is one place for each number below 2 ^ depth.
use Rattle.std.proofs.Common.{◌≡◌, ◌*◌, ◌%◌, ◌^◌, arith}
use Rattle.std.proofs.lemmas.Nat.{one_shl}
use Rattle.seat_calls.proofs.directories.make_places.Goals as goal

pub push_reserved-requires : goal.push_reserved-requires
push_reserved-requires c =
    let d = c.args.depth in
    let whole : 1 * 2 ^ d % 2 ^ 64 ≡ 2 ^ d = one_shl d 64 (omega (arith, c.requires.depth)) in
    omega (arith, whole, c.loop-test.true, c.loop.invariant.entries, c.loop.invariant.room, c.requires.room)

pub returns-clause-entries : goal.returns-clause-entries
returns-clause-entries c =
    let d = c.args.depth in
    let whole : 1 * 2 ^ d % 2 ^ 64 ≡ 2 ^ d = one_shl d 64 (omega (arith, c.requires.depth)) in
    omega (arith, whole, c.loop-test.false, c.loop.invariant.entries)
