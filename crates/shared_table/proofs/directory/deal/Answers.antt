use Rattle.std.proofs.Common.{◌<◌, ◌∙◌, sym, arith}
use Rattle.table_model.specs.Setup.{Setup, seats_of}
use Rattle.shared_table.specs.Rule.{plain}
use Rattle.shared_table.specs.Values.{TableValue}
use Rattle.shared_table.proofs.Parts.{splits, dealt, reached_fresh, one_more}
use Rattle.shared_table.proofs.directory.deal.Goals as goal

pub split_seat-token-requires : goal.split_seat-token-requires
split_seat-token-requires c = (
  c.loop-number.invariant.table,
  c.requires.table.1,
  splits (plain c.args.words.now.key) _ _,
)

pub seated-requires-clause-token : goal.seated-requires-clause-token
seated-requires-clause-token c =
    let k : Setup = plain c.args.words.now.key in
    let inside : c.loop-number.number < seats_of k = omega (arith, c.loop-number-test.true, c.requires.seats) in
    let d = dealt k c.loop-number.rest.me c.split_seat-token.new.seat.me c.split_seat-token.result.me
    c.loop-number.number c.args.seats c.loop-number-test.true c.loop-number.invariant.rest
    c.split_seat-token.ensures.2 c.split_seat-token.ensures.4 in
    (k, d.1, reached_fresh k c.loop-number.number c.requires.setup inside, sym c.requires.shape, sym c.requires.hashing)

pub loop-number-preserved : goal.loop-number-preserved
loop-number-preserved c =
    let k : Setup = plain c.args.words.now.key in
    let t : TableValue = record { table_id = c.args.words.now.table_id; setup = k } in
    let d = dealt k c.loop-number.rest.me c.split_seat-token.new.seat.me c.split_seat-token.result.me
    c.loop-number.number c.args.seats c.loop-number-test.true c.loop-number.invariant.rest
    c.split_seat-token.ensures.2 c.split_seat-token.ensures.4 in
    record {
      table = c.split_seat-token.ensures.0 ∙ c.loop-number.invariant.table;
      rest = d.0;
      out = one_more t c.loop-number.out.items c.push_reserved.new.self.items c.seated.result c.loop-number.number
          (c.seated.ensures.table ∙ c.split_seat-token.ensures.3 ∙ c.loop-number.invariant.table)
          (sym d.1 ∙ c.seated.ensures.me) c.loop-number.invariant.out c.push_reserved.ensures.items;
      count = omega (arith, c.push_reserved.ensures.len, c.loop-number.invariant.count);
      room = c.push_reserved.ensures.capacity ∙ c.loop-number.invariant.room;
    }
