-- The head, the items and the entries.
use Rattle.std.proofs.Common.{◌≡◌, ℕ, ◌+◌, ◌*◌, ◌∙◌, length, refl, ap, arith}
use Rattle.exchange_calls.specs.Going.{Going}
use Rattle.exchange_calls.proofs.StoreLemmas.{head_store_asked, mark_writes, pair_writes, store_begins, store_ends, store_family, store_goes, store_length}
use Rattle.exchange_calls.proofs.rows.store_row.Goals as goal

pub store-requires : goal.store-requires
store-requires g c =
    let s = c.requires.storing in
    record {
      asked = head_store_asked (g.S.Steps.now c.args.steps.now) c.args.own.now.call s.attempt s.found c.args.desk.now
          c.requires.desk c.args.row c.row-first.result s.row_is c.row-first.ensures.value c.args.hand.now s.words_are
          c.row-first.result (c.len-count.result + c.len-entries.result * 256) s.stand refl
          (omega (
            arith,
            c.len-count.ensures,
            c.len-entries.ensures,
            c.args.hand.now.items.ok,
            c.args.hand.now.next.ok,
          ));
    }

pub loop-i-init : goal.loop-i-init
loop-i-init g c s =
    let f : Going = g.S.Steps.now c.args.steps.now in
    let long = store_length f c.args.own.now.call s.attempt s.found c.args.desk.now
    c.requires.desk c.args.row c.row-first.result s.row_is c.row-first.ensures.value c.args.hand.now s.words_are in
    store_goes f c.args.own.now.call s.attempt s.found f (g.S.Steps.now c.store.new.self) 0 1 (1 + 7 * 0)
    (store_begins f c.args.own.now.call s.attempt s.found s.stand (omega (arith, long)))
    (omega (arith, long)) refl c.store.ensures.goes

pub store_pair-requires-clause-writes : goal.store_pair-requires-clause-writes
store_pair-requires-clause-writes g c =
    let s = c.requires.storing in
    pair_writes (g.S.Steps.now c.args.steps.now) c.args.own.now.call s.attempt s.found c.args.desk.now
    c.requires.desk c.args.row c.row-first.result s.row_is c.row-first.ensures.value c.args.hand.now s.words_are
    (g.S.Steps.now c.loop-i.steps) c.loop-i.i _ c.index.result.now (c.loop-i.invariant s)
    (omega (arith, c.loop-i-test.true, c.len-i-end.ensures, c.args.hand.now.items.ok)) refl c.index.ensures

pub loop-i-preserved : goal.loop-i-preserved
loop-i-preserved g c s =
    let f : Going = g.S.Steps.now c.args.steps.now in
    let long = store_length f c.args.own.now.call s.attempt s.found c.args.desk.now
    c.requires.desk c.args.row c.row-first.result s.row_is c.row-first.ensures.value c.args.hand.now s.words_are in
    store_goes f c.args.own.now.call s.attempt s.found (g.S.Steps.now c.loop-i.steps)
    (g.S.Steps.now c.store_pair.new.steps) (1 + 7 * c.loop-i.i) 7 (1 + 7 * (c.loop-i.i + 1))
    (c.loop-i.invariant s)
    (omega (arith, long, c.loop-i-test.true, c.len-i-end.ensures, c.args.hand.now.items.ok)) (omega arith)
    c.store_pair.ensures

pub loop-j-init : goal.loop-j-init
loop-j-init g c s =
    let f : Going = g.S.Steps.now c.args.steps.now in
    c.loop-i.invariant s
    ∙ (let e : 1 + 7 * c.loop-i.i ≡ 1 + 7 * length c.args.hand.now.items.items + 2 * 0 =
    omega (arith, c.loop-i-test.false, c.loop-i.auto.i-end, c.len-i-end.ensures, c.args.hand.now.items.ok) in
    ap (λ (k : ℕ). store_family f c.args.own.now.call s.attempt s.found k) e)

pub store_mark-requires-clause-writes : goal.store_mark-requires-clause-writes
store_mark-requires-clause-writes g c =
    let s = c.requires.storing in
    mark_writes (g.S.Steps.now c.args.steps.now) c.args.own.now.call s.attempt s.found c.args.desk.now
    c.requires.desk c.args.row c.row-first.result s.row_is c.row-first.ensures.value c.args.hand.now s.words_are
    (g.S.Steps.now c.loop-j.steps) c.loop-j.j _ c.index-in-loop-j.result.now (c.loop-j.invariant s)
    (omega (arith, c.loop-j-test.true, c.len-j-end.ensures, c.args.hand.now.next.ok))
    (omega (arith, c.len-count.ensures, c.args.hand.now.items.ok)) c.index-in-loop-j.ensures

pub loop-j-preserved : goal.loop-j-preserved
loop-j-preserved g c s =
    let f : Going = g.S.Steps.now c.args.steps.now in
    let long = store_length f c.args.own.now.call s.attempt s.found c.args.desk.now
    c.requires.desk c.args.row c.row-first.result s.row_is c.row-first.ensures.value c.args.hand.now s.words_are in
    store_goes f c.args.own.now.call s.attempt s.found (g.S.Steps.now c.loop-j.steps)
    (g.S.Steps.now c.store_mark.new.steps) (1 + 7 * length c.args.hand.now.items.items + 2 * c.loop-j.j) 2
    (1 + 7 * length c.args.hand.now.items.items + 2 * (c.loop-j.j + 1))
    (c.loop-j.invariant s)
    (omega (arith, long, c.loop-j-test.true, c.len-j-end.ensures, c.args.hand.now.next.ok)) (omega arith)
    c.store_mark.ensures

pub returns : goal.returns
returns g c s =
    let f : Going = g.S.Steps.now c.args.steps.now in
    let long = store_length f c.args.own.now.call s.attempt s.found c.args.desk.now
    c.requires.desk c.args.row c.row-first.result s.row_is c.row-first.ensures.value c.args.hand.now s.words_are in
    store_ends f c.args.own.now.call s.attempt s.found (g.S.Steps.now c.loop-j.steps)
    (1 + 7 * length c.args.hand.now.items.items + 2 * c.loop-j.j) (c.loop-j.invariant s)
    (omega (arith, long, c.loop-j-test.false, c.len-j-end.ensures, c.args.hand.now.next.ok))
