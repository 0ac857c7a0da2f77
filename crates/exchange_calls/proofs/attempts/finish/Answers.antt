-- The bucket is spent, or the new row is made and put.
use Rattle.std.proofs.Common.{◌∙◌, length, sym, ap, arith}
use Rattle.exchange_model.specs.Steps.{bucket_of_call}
use Rattle.exchange_calls.specs.Going.{Going}
use Rattle.exchange_calls.proofs.AttemptLemmas.{lost_is_tried, next_there, pends, put_is_tried, puts, rows_stay, seen_spent}
use Rattle.exchange_calls.proofs.GoesLemmas.{making_free, making_kept}
use Rattle.exchange_calls.proofs.PlaceLemmas.{of_same}
use Rattle.exchange_calls.proofs.attempts.finish.Goals as goal

pub returns-then-is_last : goal.returns-then-is_last
returns-then-is_last g c s = (
  seen_spent (g.S.Steps.now c.args.steps.now) c.args.own.now.call c.args.announced c.args.seen.now c.args.hand.now s
      c.args.desk.now c.requires.desk c.is_last.result c.is_last.ensures c.if-is_last.true,
  rows_stay (g.S.Steps.now c.args.steps.now) s.first c.args.rows.now
      (sym (ap (λ (h : Going). h.now.free) (seen_spent (g.S.Steps.now c.args.steps.now) c.args.own.now.call
      c.args.announced c.args.seen.now c.args.hand.now s c.args.desk.now c.requires.desk c.is_last.result
      c.is_last.ensures c.if-is_last.true) ∙ making_free s.first c.args.own.now.call _))
      (sym (ap (λ (h : Going). h.now.kept) (seen_spent (g.S.Steps.now c.args.steps.now) c.args.own.now.call
      c.args.announced c.args.seen.now c.args.hand.now s c.args.desk.now c.requires.desk c.is_last.result
      c.is_last.ensures c.if-is_last.true) ∙ making_kept s.first c.args.own.now.call _)) c.requires.rows,
)

pub gather-reply-requires-clause-pending : goal.gather-reply-requires-clause-pending
gather-reply-requires-clause-pending g c =
    pends (g.S.Steps.now c.args.steps.now) c.args.own.now.call c.args.announced c.args.seen.now c.args.hand.now
    c.requires.seen c.args.desk.now c.requires.desk c.is_last.result c.is_last.ensures c.if-is_last.false

pub gather-reply-requires-clause-place : goal.gather-reply-requires-clause-place
gather-reply-requires-clause-place g c = c.requires.seen.place

pub put_row-requires-clause-putting : goal.put_row-requires-clause-putting
put_row-requires-clause-putting g c =
    let s = c.requires.seen in
    let p = pends (g.S.Steps.now c.args.steps.now) c.args.own.now.call c.args.announced c.args.seen.now
    c.args.hand.now s c.args.desk.now c.requires.desk c.is_last.result c.is_last.ensures c.if-is_last.false in
    puts (g.S.Steps.now c.args.steps.now) c.args.own.now.call c.args.announced c.args.seen.now
    c.args.hand.now s c.args.desk.now c.requires.desk c.is_last.result c.is_last.ensures c.if-is_last.false
    (g.S.Steps.now c.gather-reply.new.steps) c.gather-reply.new.hand c.gather-reply.result (c.gather-reply.ensures p)

pub put_row-requires-clause-desk : goal.put_row-requires-clause-desk
put_row-requires-clause-desk g c =
    let s = c.requires.seen in
    let p = pends (g.S.Steps.now c.args.steps.now) c.args.own.now.call c.args.announced c.args.seen.now
    c.args.hand.now s c.args.desk.now c.requires.desk c.is_last.result c.is_last.ensures c.if-is_last.false in
    let h = c.gather-reply.ensures p in
    of_same (g.S.Steps.now c.args.steps.now) (g.S.Steps.now c.gather-reply.new.steps) c.args.desk.now
    (ap (λ (x : Going). x.plan) h.goes) (ap (λ (x : Going). x.seat) h.goes) c.requires.desk

pub put_row-requires-clause-bucket : goal.put_row-requires-clause-bucket
put_row-requires-clause-bucket g c =
    let s = c.requires.seen in
    let p = pends (g.S.Steps.now c.args.steps.now) c.args.own.now.call c.args.announced c.args.seen.now
    c.args.hand.now s c.args.desk.now c.requires.desk c.is_last.result c.is_last.ensures c.if-is_last.false in
    let h = c.gather-reply.ensures p in
    c.requires.bucket ∙ sym (ap (λ (x : Going). bucket_of_call x.plan c.args.own.now.call) h.goes)

pub put_row-requires-clause-rows : goal.put_row-requires-clause-rows
put_row-requires-clause-rows g c =
    let s = c.requires.seen in
    let p = pends (g.S.Steps.now c.args.steps.now) c.args.own.now.call c.args.announced c.args.seen.now
    c.args.hand.now s c.args.desk.now c.requires.desk c.is_last.result c.is_last.ensures c.if-is_last.false in
    let h = c.gather-reply.ensures p in
    rows_stay (g.S.Steps.now c.args.steps.now) (g.S.Steps.now c.gather-reply.new.steps) c.args.rows.now
    (ap (λ (x : Going). x.now.free) h.goes) (ap (λ (x : Going). x.now.kept) h.goes) c.requires.rows

pub put_row-requires-clause-some : goal.put_row-requires-clause-some
put_row-requires-clause-some g c =
    let s = c.requires.seen in
    let p = pends (g.S.Steps.now c.args.steps.now) c.args.own.now.call c.args.announced c.args.seen.now
    c.args.hand.now s c.args.desk.now c.requires.desk c.is_last.result c.is_last.ensures c.if-is_last.false in
    let h = c.gather-reply.ensures p in
    omega (arith, c.requires.some, ap (λ (x : Going). length x.now.free) h.goes)

pub put_row-requires-clause-last : goal.put_row-requires-clause-last
put_row-requires-clause-last g c =
    next_there (g.S.Steps.now c.args.steps.now) c.args.own.now.call c.args.announced c.args.seen.now
    c.args.hand.now c.requires.seen c.args.desk.now c.requires.desk c.is_last.result c.is_last.ensures
    c.if-is_last.false (omega arith)

pub returns-in-Some : goal.returns-in-Some
returns-in-Some g c s =
    let p = pends (g.S.Steps.now c.args.steps.now) c.args.own.now.call c.args.announced c.args.seen.now
    c.args.hand.now s c.args.desk.now c.requires.desk c.is_last.result c.is_last.ensures c.if-is_last.false in
    let h = c.gather-reply.ensures p in
    put_is_tried (g.S.Steps.now c.args.steps.now) c.args.own.now.call c.args.announced c.args.seen.now
    c.args.hand.now s c.args.desk.now c.requires.desk c.is_last.result c.is_last.ensures c.if-is_last.false
    (g.S.Steps.now c.gather-reply.new.steps) c.gather-reply.new.hand c.gather-reply.result h
    (g.S.Steps.now c.put_row.new.steps) c.put_row.new.rows c.in-Some.reply
    (c.in-Some.ensures (puts (g.S.Steps.now c.args.steps.now) c.args.own.now.call c.args.announced c.args.seen.now
    c.args.hand.now s c.args.desk.now c.requires.desk c.is_last.result c.is_last.ensures c.if-is_last.false
    (g.S.Steps.now c.gather-reply.new.steps) c.gather-reply.new.hand c.gather-reply.result h))

pub returns-in-None : goal.returns-in-None
returns-in-None g c s =
    let p = pends (g.S.Steps.now c.args.steps.now) c.args.own.now.call c.args.announced c.args.seen.now
    c.args.hand.now s c.args.desk.now c.requires.desk c.is_last.result c.is_last.ensures c.if-is_last.false in
    let h = c.gather-reply.ensures p in
    lost_is_tried (g.S.Steps.now c.args.steps.now) c.args.own.now.call c.args.announced c.args.seen.now
    c.args.hand.now s c.args.desk.now c.requires.desk c.is_last.result c.is_last.ensures c.if-is_last.false
    (g.S.Steps.now c.gather-reply.new.steps) c.gather-reply.new.hand c.gather-reply.result h
    (g.S.Steps.now c.put_row.new.steps) c.put_row.new.rows
    (c.in-None.ensures (puts (g.S.Steps.now c.args.steps.now) c.args.own.now.call c.args.announced c.args.seen.now
    c.args.hand.now s c.args.desk.now c.requires.desk c.is_last.result c.is_last.ensures c.if-is_last.false
    (g.S.Steps.now c.gather-reply.new.steps) c.gather-reply.new.hand c.gather-reply.result h))
