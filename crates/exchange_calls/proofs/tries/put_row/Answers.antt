-- The row is stored and exchanged.
use Rattle.std.proofs.Common.{length, refl, ap, arith}
use Rattle.exchange_calls.specs.Going.{Going}
use Rattle.exchange_calls.specs.OwnRowsView.{free_of}
use Rattle.exchange_calls.proofs.PlaceLemmas.{row_in_is}
use Rattle.exchange_calls.proofs.PutLemmas.{exchange_asked, first_some, put_done, put_lost, put_replies, row_low, row_short, stored_row, storing}
use Rattle.exchange_calls.proofs.tries.put_row.Goals as goal

pub unreachable-requires : goal.unreachable-requires
unreachable-requires g c =
    let none = first_some (free_of c.args.rows.now) c.in_default.ensures in
    absurd (omega (arith, none, ap length c.requires.rows.free, c.requires.some))

pub store_row-requires-clause-storing : goal.store_row-requires-clause-storing
store_row-requires-clause-storing g c =
    storing (g.S.Steps.now c.args.steps.now) c.args.own.now.call c.args.word c.args.hand.now c.args.reply
    c.requires.putting c.args.rows.now c.requires.rows c.in-Some.row c.in-Some.ensures

pub store_row-requires-clause-few : goal.store_row-requires-clause-few
store_row-requires-clause-few g c =
    row_short (g.S.Steps.now c.args.steps.now) c.args.own.now.call c.args.word c.args.hand.now c.args.reply
    c.requires.putting c.args.rows.now c.requires.rows c.in-Some.row c.in-Some.ensures c.args.desk.now
    c.requires.desk c.stands.ensures

pub store_row-requires-clause-items : goal.store_row-requires-clause-items
store_row-requires-clause-items g c =
    omega (arith, c.requires.putting.is_made.few_items, c.requires.desk.items, c.args.desk.now.sizes.few_items)

pub store_row-requires-clause-entries : goal.store_row-requires-clause-entries
store_row-requires-clause-entries g c =
    omega (
      arith,
      c.requires.putting.is_made.few,
      c.requires.putting.few,
      c.requires.desk.seats,
      c.args.desk.now.sizes.few_seats,
    )

pub next_word-new-requires-clause-row : goal.next_word-new-requires-clause-row
next_word-new-requires-clause-row g c =
    row_low (g.S.Steps.now c.args.steps.now) c.args.own.now.call c.args.word c.args.hand.now c.args.reply
    c.requires.putting c.args.rows.now c.requires.rows c.in-Some.row c.in-Some.ensures c.args.desk.now
    c.requires.desk c.stands.ensures

pub exchange-found-requires : goal.exchange-found-requires
exchange-found-requires g c =
    let f : Going = g.S.Steps.now c.args.steps.now in
    let s = storing f c.args.own.now.call c.args.word c.args.hand.now c.args.reply
    c.requires.putting c.args.rows.now c.requires.rows c.in-Some.row c.in-Some.ensures in
    record {
      asked = exchange_asked f c.args.own.now.call c.args.word c.args.hand.now c.args.reply c.requires.putting
          c.args.desk.now c.requires.desk (g.S.Steps.now c.store_row.new.steps) (c.store_row.ensures s) _ _ _
          c.args.own.now.bucket c.in-Some.row c.bucket-place.ensures c.requires.bucket refl
          (stored_row f c.args.own.now.call c.args.word c.args.hand.now c.args.reply
          c.requires.putting c.args.rows.now c.requires.rows c.in-Some.row c.in-Some.ensures) c.next_word-new.ensures;
    }

pub returns-then-found-word : goal.returns-then-found-word
returns-then-found-word g c p =
    let f : Going = g.S.Steps.now c.args.steps.now in
    put_lost f c.args.own.now.call c.args.word c.args.hand.now c.args.reply p
    c.args.desk.now c.requires.desk (g.S.Steps.now c.store_row.new.steps)
    (c.store_row.ensures (storing f c.args.own.now.call c.args.word c.args.hand.now c.args.reply
    p c.args.rows.now c.requires.rows c.in-Some.row c.in-Some.ensures))
    (g.S.Steps.now c.exchange-found.new.self) c.exchange-found.result c.exchange-found.ensures.goes
    c.if-found-word.true c.args.rows.now c.requires.rows

pub unreachable-requires-in_default-reply : goal.unreachable-requires-in_default-reply
unreachable-requires-in_default-reply g c =
    let f : Going = g.S.Steps.now c.args.steps.now in
    absurd (put_replies f c.args.own.now.call c.args.word c.args.hand.now c.args.reply c.requires.putting
    c.args.desk.now c.requires.desk (g.S.Steps.now c.store_row.new.steps)
    (c.store_row.ensures (storing f c.args.own.now.call c.args.word c.args.hand.now c.args.reply
    c.requires.putting c.args.rows.now c.requires.rows c.in-Some.row c.in-Some.ensures))
    (g.S.Steps.now c.exchange-found.new.self) c.exchange-found.result c.exchange-found.ensures.goes
    c.if-found-word.false c.exchange-found.ensures.fits c.in_default-reply.is)

pub returns : goal.returns
returns g c p =
    let f : Going = g.S.Steps.now c.args.steps.now in
    put_done f c.args.own.now.call c.args.word c.args.hand.now c.args.reply p
    c.args.desk.now c.requires.desk (g.S.Steps.now c.store_row.new.steps)
    (c.store_row.ensures (storing f c.args.own.now.call c.args.word c.args.hand.now c.args.reply
    p c.args.rows.now c.requires.rows c.in-Some.row c.in-Some.ensures))
    (g.S.Steps.now c.exchange-found.new.self) c.exchange-found.result c.exchange-found.ensures.goes
    c.if-found-word.false c.in-Some-reply.reply c.in-Some-reply.is c.args.rows.now c.give.new.self c.row_in-old.result
    c.requires.rows (row_in_is f c.args.desk.now c.requires.desk c.args.word _ c.row_in-old.ensures.value)
    c.give.ensures.free c.give.ensures.kept
