use Rattle.std.proofs.Common.{arith}
use Rattle.lasting_table.proofs.SeatsOf.{seat_of, seats_set}
use Rattle.lasting_uses.proofs.insert_by.Goals as goal

pub insert-requires-clause-seat : goal.insert-requires-clause-seat
insert-requires-clause-seat c =
    seat_of c.args.table.now c.args.seats.now c.args.number c.index-seats-number.result c.requires.seats
    (let count = c.requires.seats.count in omega (arith, c.requires.number, count))

pub returns : goal.returns
returns c =
    seats_set c.args.table.now c.args.seats.now c.args.number c.index-seats-number.result c.insert.new.self
    c.requires.seats c.insert.ensures.same
