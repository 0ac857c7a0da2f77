use Rattle.std.proofs.Common.{rules, ◌≡◌, Err, refl, arith}
use Rattle.exchange_model.specs.Plans.{buckets_of}
use Rattle.exchange_table.specs.declared.rest.Uncopied.TheVariants.{Asked}
use Rattle.exchange_table.proofs.Resting.{have_rested, still_counted}
use Rattle.exchange_table.proofs.SeatsOf.{seat_of, seats_met, seats_set}
use Rattle.exchange_table.proofs.table.LastingTable.pairs_at_rest.Goals as goal

pub copy_all-requires : goal.copy_all-requires
copy_all-requires c =
    let seats = seats_met c.args.self.now c.args.seats.now c.meet.new.seats c.requires.seats c.meet.ensures.met in
    let some = c.meet.ensures.met.run.opened.some_seat in
    let count = seats.count in record {
      seat = seat_of c.args.self.now c.meet.new.seats 0 c.index-seats-0.result seats (omega (arith, some, count));
    }

pub returns-in_err-pairs-clause-seats : goal.returns-in_err-pairs-clause-seats
returns-in_err-pairs-clause-seats c =
    seats_set c.args.self.now c.meet.new.seats 0 c.index-seats-0.result c.copy_all.new.seat
    (seats_met c.args.self.now c.args.seats.now c.meet.new.seats c.requires.seats c.meet.ensures.met)
    c.copy_all.ensures.same

pub meet-requires-2 : goal.meet-requires-2
meet-requires-2 c = record {
  seats = seats_set c.args.self.now c.meet.new.seats 0 c.index-seats-0.result c.copy_all.new.seat
      (seats_met c.args.self.now c.args.seats.now c.meet.new.seats c.requires.seats c.meet.ensures.met)
      c.copy_all.ensures.same;
}

pub returns-clause-seats : goal.returns-clause-seats
returns-clause-seats c =
    seats_met c.args.self.now _ c.meet-2.new.seats (seats_set c.args.self.now c.meet.new.seats 0
    c.index-seats-0.result c.copy_all.new.seat
    (seats_met c.args.self.now c.args.seats.now c.meet.new.seats c.requires.seats c.meet.ensures.met)
    c.copy_all.ensures.same) c.meet-2.ensures.met

pub returns-clause-rested : goal.returns-clause-rested
returns-clause-rested c =
    have_rested c.args.self.now c.args.seats.now c.meet.new.seats c.meet-2.new.seats c.index-seats-0.result
    c.copy_all.new.seat (buckets_of c.args.self.now.plan.settings) c.in_ok-pairs.pairs.items c.requires.seats
    c.meet.ensures.met c.copy_all.ensures.same c.in_ok-pairs.ensures.copied refl c.meet-2.ensures.met

pub returns-in_err-pairs-clause-asked : goal.returns-in_err-pairs-clause-asked
returns-in_err-pairs-clause-asked c = λ first rest is seats.
    let failed : c.copy_all.result ≡ Err Asked = search rules in
    let many = c.copy_all.ensures.asked failed in
    let still = still_counted c.args.self.now c.args.seats.now c.meet.new.seats c.index-seats-0.result first rest
    c.meet.ensures.met seats in
    omega (arith, many, still)
