-- The head line is held, nothing is served and nothing was put.
use Rattle.std.proofs.Common.{◌≡◌, ◌<◌, ℕ, List, [], ◌++◌, Option, Result, Ok, Err, sym, ap, subst, ◌∙◌, arith, IsErr, IsErrAnd}
use Rattle.std.specs.Option.{ForSome}
use Rattle.std.specs.Io.KnownBytes.{Keeps}
use Rattle.capture_faults.specs.declared.ending.Ending.{Ending}
use Rattle.capture_loop.specs.declared.stop.Stop.{Stop}
use Rattle.capture_loop.specs.declared.stop.Stop.TheVariants.{Memory}
use Rattle.capture_loop.specs.Input.{StopsAt}
use Rattle.capture_loop.specs.Leaves.{EndsBy, IsLoopFront, IsLoopReport, IsLoopTold, LeavesBy, LoopLeavesBy, Marks}
use Rattle.capture_loop.proofs.LeavesLemmas.{Keeps-same, leaves_follows}
use Rattle.packet_heads.specs.Links.{number_in}
use Rattle.report_text.specs.Flows.{flows_head}
use Rattle.report_text.specs.declared.flows.FlowsHead.{FlowsHead}
use Rattle.flows_runner.specs.declared.pile.TheConstants.{FLOW_LIMIT}
use Rattle.flows_runner.specs.declared.asked.Asked.{Asked}
use Rattle.flows_runner.specs.Asked.{head_of}
use Rattle.flows_runner.specs.Told.{IsFlowsLines, IsFlowsReport, ReportsFlows, TellsFlows}
use Rattle.flows_runner.proofs.DoesLemmas.{leaves_none}
use Rattle.flows_runner.proofs.PlaceLemmas.{front_tells, report_reports, told_tells}
use Rattle.flows_runner.proofs.running.flow_input.Goals as goal

-- memory ran out before anything was read
none_left : (most link : ℕ) (asked : Asked) (can_end : Ending → Type 0)
    (first left before after : Option (List ℕ))
    (result : Result Ending Stop) → IsErr result × IsErrAnd result (λ (stop : Stop). stop ≡ Memory) →
    Keeps before after → LeavesBy most link (TellsFlows asked) (TellsFlows asked) (ReportsFlows asked) can_end first
    left before after result
none_left most link asked can_end first left before after (Ok ending) is kept = absurd (cc)
none_left most link asked can_end first left before after (Err stop) is kept =
    subst (λ (s : Stop). LeavesBy most link (TellsFlows asked) (TellsFlows asked) (ReportsFlows asked) can_end first
    left before after (Err s)) (sym is.1)
    (leaves_none most link (TellsFlows asked) (TellsFlows asked) (ReportsFlows asked) can_end first left before after
    kept)

-- the text is the head line
head_line : (text before : List ℕ) (told head : FlowsHead) → text ≡ before ++ flows_head told → before ≡ [] →
    told ≡ head → text ≡ flows_head head
head_line text before told head appended none is =
    appended ∙ ap (λ (t : List ℕ). t ++ flows_head told) none ∙ ap flows_head is

pub returns-in_err-flows_head_text-clause-leaves : goal.returns-in_err-flows_head_text-clause-leaves
returns-in_err-flows_head_text-clause-leaves g c =
    none_left FLOW_LIMIT (number_in c.args.asked.now.calling.framing.link) c.args.asked.now
    (EndsBy (g.S.Source.failed c.args.source.now) (g.S.Source.failed c.args.source.now))
    (g.S.Source.left c.args.source.now) (g.S.Source.left c.args.source.now) (g.K.Sink.put c.args.sink.now)
    (g.K.Sink.put c.args.sink.now) c.from_residual.result c.from_residual.ensures
    (Keeps-same (g.K.Sink.put c.args.sink.now))

pub returns-in_err-flowing-clause-leaves : goal.returns-in_err-flowing-clause-leaves
returns-in_err-flowing-clause-leaves g c =
    none_left FLOW_LIMIT (number_in c.args.asked.now.calling.framing.link) c.args.asked.now
    (EndsBy (g.S.Source.failed c.args.source.now) (g.S.Source.failed c.args.source.now))
    (g.S.Source.left c.args.source.now) (g.S.Source.left c.args.source.now) (g.K.Sink.put c.args.sink.now)
    (g.K.Sink.put c.args.sink.now) c.from_residual-in_err-flowing.result c.from_residual-in_err-flowing.ensures
    (Keeps-same (g.K.Sink.put c.args.sink.now))

pub returns-in_err-with_room-clause-leaves : goal.returns-in_err-with_room-clause-leaves
returns-in_err-with_room-clause-leaves g c =
    none_left FLOW_LIMIT (number_in c.args.asked.now.calling.framing.link) c.args.asked.now
    (EndsBy (g.S.Source.failed c.args.source.now) (g.S.Source.failed c.args.source.now))
    (g.S.Source.left c.args.source.now) (g.S.Source.left c.args.source.now) (g.K.Sink.put c.args.sink.now)
    (g.K.Sink.put c.args.sink.now) c.from_residual-in_err-with_room.result c.from_residual-in_err-with_room.ensures
    (Keeps-same (g.K.Sink.put c.args.sink.now))

pub returns-in_err-with_room-2-clause-leaves : goal.returns-in_err-with_room-2-clause-leaves
returns-in_err-with_room-2-clause-leaves g c =
    none_left FLOW_LIMIT (number_in c.args.asked.now.calling.framing.link) c.args.asked.now
    (EndsBy (g.S.Source.failed c.args.source.now) (g.S.Source.failed c.args.source.now))
    (g.S.Source.left c.args.source.now) (g.S.Source.left c.args.source.now) (g.K.Sink.put c.args.sink.now)
    (g.K.Sink.put c.args.sink.now) c.from_residual-in_err-with_room-2.result c.from_residual-in_err-with_room-2.ensures
    (Keeps-same (g.K.Sink.put c.args.sink.now))

pub run_job-answer-requires-clause-limit : goal.run_job-answer-requires-clause-limit
run_job-answer-requires-clause-limit g c = λ lives within.
    let limit : c.args.means.now.portions.limit ≡ FLOW_LIMIT = c.requires.portions.limit in (
      omega (arith, limit),
      omega (arith, limit),
      omega (arith, limit),
      omega (arith, limit),
    )

pub run_job-answer-requires-clause-batch : goal.run_job-answer-requires-clause-batch
run_job-answer-requires-clause-batch g c = λ lives within. (c.requires.portions.some, c.requires.portions.few)

pub run_job-answer-requires-clause-every : goal.run_job-answer-requires-clause-every
run_job-answer-requires-clause-every g c = λ lives within.
    subst (λ (every : Option ℕ). ForSome every (λ e. 0 < e)) (sym c.requires.portions.every) c.requires.asked.every

pub returns-clause-leaves : goal.returns-clause-leaves
returns-clause-leaves g c =
    let portions = c.args.means.now.portions in
    let asked = c.args.asked.now in
    let link : ℕ = number_in asked.calling.framing.link in
    let can_end = EndsBy (g.S.Source.failed c.args.source.now) (g.S.Source.failed c.run_job-answer.new.source) in
    let first = g.S.Source.left c.args.source.now in
    let left = g.S.Source.left c.run_job-answer.new.source in
    let before = g.K.Sink.put c.args.sink.now in
    let after = g.K.Sink.put c.run_job-answer.new.sink in
    let looped : LoopLeavesBy portions (IsFlowsLines asked) (IsFlowsReport asked) can_end link first left before after
    c.run_job-answer.result =
    subst (λ (link : ℕ). LoopLeavesBy portions (IsFlowsLines asked) (IsFlowsReport asked) can_end link first left before
    after c.run_job-answer.result) c.number-link.ensures
    (c.run_job-answer.ensures.leaves asked
    (c.in_ok-flowing.ensures.done c.flows_head_text.new.out.items
    (head_line c.flows_head_text.new.out.items c.new-text.result.items c.head_of.result (head_of asked)
    c.in_ok-flows_head_text.ensures.appended c.new-text.ensures.items c.head_of.ensures))) in
    subst (λ (most : ℕ). LeavesBy most link (TellsFlows asked) (TellsFlows asked) (ReportsFlows asked) can_end first
    left before after c.run_job-answer.result) c.requires.portions.limit
    (leaves_follows portions.limit link (IsLoopFront portions (IsFlowsLines asked))
    (IsLoopTold portions (IsFlowsLines asked)) (TellsFlows asked) (TellsFlows asked)
    (IsLoopReport portions (IsFlowsReport asked)) (ReportsFlows asked) can_end
    (front_tells asked portions c.requires.asked.every c.requires.portions.every)
    (told_tells asked portions c.requires.asked.every c.requires.portions.every)
    (report_reports asked portions c.requires.asked.every c.requires.portions.every)
    first left before after c.run_job-answer.result looped)

pub returns-clause-beyond : goal.returns-clause-beyond
returns-clause-beyond g c =
    let first = g.S.Source.left c.args.source.now in
    let left = g.S.Source.left c.run_job-answer.new.source in
    subst (λ (limit : ℕ). Marks c.run_job-answer.result c.args.beyond.now c.run_job-answer.new.piles.beyond
    (StopsAt (number_in c.args.asked.now.calling.framing.link) limit first left)) c.requires.portions.limit
    (subst (λ (link : ℕ). Marks c.run_job-answer.result c.args.beyond.now c.run_job-answer.new.piles.beyond
    (StopsAt link c.args.means.now.portions.limit first left)) c.number-link.ensures
    (c.run_job-answer.ensures.beyond c.args.asked.now
    (c.in_ok-flowing.ensures.done c.flows_head_text.new.out.items
    (head_line c.flows_head_text.new.out.items c.new-text.result.items c.head_of.result (head_of c.args.asked.now)
    c.in_ok-flows_head_text.ensures.appended c.new-text.ensures.items c.head_of.ensures))))
