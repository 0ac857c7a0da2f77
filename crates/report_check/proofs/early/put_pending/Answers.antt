use Rattle.std.proofs.Common.{inr, refl}
use Rattle.plain_map.specs.History.{pending as waiting}
use Rattle.report_check.proofs.FactLemmas.{low_pending, no_call, waiting_at}
use Rattle.report_check.proofs.EarlyLemmas.{put_one}
use Rattle.report_check.proofs.early.put_pending.Goals as goal

pub returns-in-Some : goal.returns-in-Some
returns-in-Some c = λ told calls order front facts none.
    (let found = c.in-Some.ensures facts.pending_sorted in
    let low = low_pending told calls c.args.pending.now order c.args.packet c.in-Some.call.now facts found in
    put_one told c.args.packet front c.args.standing.now c.try_to_stand.new.standing (waiting c.in-Some.call.now)
    c.in-Some.call.now.seen.counts c.try_to_stand.result low (λ seat. refl)
    (waiting_at told calls c.args.pending.now order c.args.packet c.in-Some.call.now facts none found) found.3
    (c.try_to_stand.ensures low))

pub returns-in-None : goal.returns-in-None
returns-in-None c = λ told calls order front facts none so.
    inr (no_call told calls c.args.pending.now order c.args.packet facts none (c.in-None.ensures facts.pending_sorted))
