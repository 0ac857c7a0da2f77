use Rattle.std.proofs.Common.{refl}
use Rattle.plain_map.specs.History.{answered}
use Rattle.report_check.proofs.FactLemmas.{answered_at, low_seat}
use Rattle.report_check.proofs.EarlyLemmas.{put_one}
use Rattle.report_check.proofs.early.put.Goals as goal

pub returns-in-Some : goal.returns-in-Some
returns-in-Some c = λ told order front facts.
    (let found = c.in-Some.ensures facts.calls_sorted in
    let low = low_seat told c.args.calls.now c.args.pending.now order c.args.packet c.in-Some.call.now facts found in
    put_one told c.args.packet front c.args.standing.now c.try_to_stand.new.standing (answered c.in-Some.call.now)
    c.in-Some.call.now.seen.counts c.try_to_stand.result low (λ seat. refl)
    (answered_at told c.args.calls.now c.args.pending.now order c.args.packet c.in-Some.call.now facts found) found.3
    (c.try_to_stand.ensures low))
