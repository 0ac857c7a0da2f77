use Rattle.std.proofs.Common.{inl, ℕ, Bool, List, None, Result, Ok, Err}
use Rattle.std.specs.Prelude.{IfOk}
use Rattle.std.specs.declared.alloc.AllocError.{AllocError}
use Rattle.plain_map.specs.PlainObject.{Sessions, map_after, reply_of}
use Rattle.plain_map.specs.declared.records.Record.{Record}
use Rattle.class_map.specs.Rows.{Holds}
use Rattle.report_told.specs.Told.{Told}
use Rattle.report_check.specs.Facts.{Facts, IsCallOf}
use Rattle.report_check.specs.Judged.{AnsweredAt}
use Rattle.plain_map.specs.History.{answered}
use Rattle.report_check.proofs.FactLemmas.{answered_at}
use Rattle.report_check.proofs.LegalLemmas.{reply_test}
use Rattle.report_check.proofs.legal.has_reply.Goals as goal

pub returns-in_ok-reply-in-Some-clause-good : goal.returns-in_ok-reply-in-Some-clause-good
returns-in_ok-reply-in-Some-clause-good c = λ told order before facts holds.
    (let found = c.in-Some.ensures facts.calls_sorted in
    let got = c.in_ok-reply-in-Some.ensures.reply before holds in
    inl (
      answered c.in-Some.call.now,
      answered_at told c.args.calls.now c.args.pending.now order c.args.packet c.in-Some.call.now facts found,
      found.3,
      reply_test (Holds c.answer.new.self c.args.rules.now (map_after c.args.rules.now before c.in-Some.call.now.call))
          c.is_same.result c.in_ok-reply-in-Some.reply c.in-Some.call.now.reply
          (reply_of c.args.rules.now before c.in-Some.call.now.call)
          got.0 got.1 c.is_same.ensures,
    ))

pub returns-in-None-clause-good : goal.returns-in-None-clause-good
returns-in-None-clause-good c = by_result c.pending_has.result c.pending_has.ensures.good
  where
    by_result : (r : Result Bool AllocError) →
        IfOk r (λ good. (told : Told) (calls : List Record) (order : List ℕ) (before : Sessions) →
        Facts told calls c.args.pending.now order →
        IsCallOf (λ (u : Record). u.packet) calls c.args.packet None → Holds c.args.map.now c.args.rules.now before →
        AnsweredAt told c.args.rules.now c.args.packet before c.pending_has.new.map good) →
        IfOk r (λ good. (told : Told) (order : List ℕ) (before : Sessions) →
        Facts told c.args.calls.now c.args.pending.now order → Holds c.args.map.now c.args.rules.now before →
        AnsweredAt told c.args.rules.now c.args.packet before c.pending_has.new.map good)
    by_result (Ok good) has = λ told order before facts holds. has told c.args.calls.now order before facts
        (c.in-None.ensures facts.calls_sorted) holds
    by_result (Err e) has = tt
