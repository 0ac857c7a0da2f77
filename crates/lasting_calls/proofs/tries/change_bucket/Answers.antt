-- The ops are found, the row is changed and stored, and the exchange tells the rest.
use Rattle.std.proofs.Common.{refl}
use Rattle.lasting_calls.proofs.ChangeLemmas.{asks_exchange, change_lost, change_made, change_replies, is_stored, stored_fits, then_exchange}
use Rattle.lasting_calls.proofs.tries.change_bucket.Goals as goal

pub store_row-requires-clause-storing : goal.store_row-requires-clause-storing
store_row-requires-clause-storing g c =
    is_stored (g.S.Steps.now c.args.steps.now) c.args.desk.now c.args.own.now c.requires.desk c.requires.own
    c.args.turn c.args.word c.args.words.now c.requires.hand c.find_ops.new.ops c.find_ops.ensures.all
    c.find_ops.ensures.updates
    c.change_row.new.words c.change_row.ensures.words (g.S.Steps.now c.find_ops.new.steps) c.find_ops.ensures.goes

pub store_row-requires-clause-count : goal.store_row-requires-clause-count
store_row-requires-clause-count g c =
    stored_fits (g.S.Steps.now c.args.steps.now) c.args.desk.now c.args.own.now c.requires.desk c.requires.own
    c.args.turn c.args.word c.args.words.now c.requires.hand c.find_ops.new.ops c.find_ops.ensures.all
    c.find_ops.ensures.updates
    c.change_row.new.words c.change_row.ensures.words

pub exchange-requires : goal.exchange-requires
exchange-requires g c = record {
  asked = asks_exchange (g.S.Steps.now c.args.steps.now) c.args.desk.now c.args.own.now c.requires.desk c.requires.own
      c.args.turn c.args.word c.args.words.now c.requires.hand c.find_ops.new.ops c.find_ops.ensures.all
      c.find_ops.ensures.updates
      c.change_row.new.words c.change_row.ensures.words (g.S.Steps.now c.store_row.new.steps)
      (then_exchange (g.S.Steps.now c.args.steps.now) c.args.desk.now c.args.own.now c.requires.desk c.requires.own
      c.args.turn c.args.word c.args.words.now c.requires.hand c.find_ops.new.ops c.find_ops.ensures.all
      c.find_ops.ensures.updates
      c.change_row.new.words c.change_row.ensures.words (g.S.Steps.now c.find_ops.new.steps)
      (g.S.Steps.now c.store_row.new.steps) c.find_ops.ensures.goes c.store_row.ensures) _ _ c.bucket-place.ensures
      refl;
}

pub returns-then-exchange-word : goal.returns-then-exchange-word
returns-then-exchange-word g c = record {
  goes = change_lost (g.S.Steps.now c.args.steps.now) c.args.desk.now c.args.own.now c.requires.desk c.requires.own
      c.args.turn c.args.word c.args.words.now c.requires.hand c.find_ops.new.ops c.find_ops.ensures.all
      c.find_ops.ensures.updates
      c.change_row.new.words c.change_row.ensures.words (g.S.Steps.now c.store_row.new.steps)
      (then_exchange (g.S.Steps.now c.args.steps.now) c.args.desk.now c.args.own.now c.requires.desk c.requires.own
      c.args.turn c.args.word c.args.words.now c.requires.hand c.find_ops.new.ops c.find_ops.ensures.all
      c.find_ops.ensures.updates
      c.change_row.new.words c.change_row.ensures.words (g.S.Steps.now c.find_ops.new.steps)
      (g.S.Steps.now c.store_row.new.steps) c.find_ops.ensures.goes c.store_row.ensures)
      (g.S.Steps.now c.exchange.new.self) c.exchange.result
      c.exchange.ensures.goes c.if-exchange-word.true;
}

pub unreachable-requires : goal.unreachable-requires
unreachable-requires g c =
    change_replies (g.S.Steps.now c.args.steps.now) c.args.desk.now c.args.own.now c.requires.desk c.requires.own
    c.args.turn c.args.word c.args.words.now c.requires.hand c.find_ops.new.ops c.find_ops.ensures.all
    c.find_ops.ensures.updates
    c.change_row.new.words c.change_row.ensures.words (g.S.Steps.now c.store_row.new.steps)
    (then_exchange (g.S.Steps.now c.args.steps.now) c.args.desk.now c.args.own.now c.requires.desk c.requires.own
    c.args.turn c.args.word c.args.words.now c.requires.hand c.find_ops.new.ops c.find_ops.ensures.all
    c.find_ops.ensures.updates
    c.change_row.new.words c.change_row.ensures.words (g.S.Steps.now c.find_ops.new.steps)
    (g.S.Steps.now c.store_row.new.steps) c.find_ops.ensures.goes c.store_row.ensures)
    (g.S.Steps.now c.exchange.new.self) c.exchange.result
    c.exchange.ensures.goes c.if-exchange-word.false c.reply_in.result c.reply_in.ensures
    c.exchange.ensures.fits c.in_default.is

pub returns : goal.returns
returns g c = record {
  goes = change_made (g.S.Steps.now c.args.steps.now) c.args.desk.now c.args.own.now c.requires.desk c.requires.own
      c.args.turn c.args.word c.args.words.now c.requires.hand c.find_ops.new.ops c.find_ops.ensures.all
      c.find_ops.ensures.updates
      c.change_row.new.words c.change_row.ensures.words (g.S.Steps.now c.store_row.new.steps)
      (then_exchange (g.S.Steps.now c.args.steps.now) c.args.desk.now c.args.own.now c.requires.desk c.requires.own
      c.args.turn c.args.word c.args.words.now c.requires.hand c.find_ops.new.ops c.find_ops.ensures.all
      c.find_ops.ensures.updates
      c.change_row.new.words c.change_row.ensures.words (g.S.Steps.now c.find_ops.new.steps)
      (g.S.Steps.now c.store_row.new.steps) c.find_ops.ensures.goes c.store_row.ensures)
      (g.S.Steps.now c.exchange.new.self) c.exchange.result
      c.exchange.ensures.goes c.if-exchange-word.false c.reply_in.result c.reply_in.ensures c.in-Some.reply
      c.in-Some.is;
}
