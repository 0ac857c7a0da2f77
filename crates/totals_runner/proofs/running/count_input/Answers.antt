-- The head line is held, nothing is counted and nothing was put.
use Rattle.std.proofs.Common.{◌≡◌, ℕ, List, ◌++◌, Option, Result, Ok, Err, sym, ap, subst, ◌∙◌, IsErr, IsErrAnd}
use Rattle.std.specs.Io.KnownBytes.{Keeps}
use Rattle.capture_faults.specs.declared.ending.Ending.{Ending}
use Rattle.totals_runner.specs.Adds.{totals_head}
use Rattle.capture_loop.specs.declared.stop.Stop.{Stop}
use Rattle.capture_loop.specs.declared.stop.Stop.TheVariants.{Memory}
use Rattle.capture_loop.specs.Input.{StopsAt, in_batches}
use Rattle.capture_loop.specs.declared.portions.Portions.{Portions}
use Rattle.capture_loop.specs.Leaves.{EndsBy, LoopLeavesAll, LoopLeavesBy, Lines, Marks, Reports}
use Rattle.capture_loop.proofs.LeavesLemmas.{Keeps-same, leaves_nothing}
use Rattle.packet_heads.specs.Links.{number_in, way_of}
use Rattle.totals_runner.specs.Told.{IsTotalsLines, IsTotalsReport}
use Rattle.totals_runner.proofs.JobLemmas.{begun}
use Rattle.totals_runner.proofs.running.count_input.Goals as goal

-- memory ran out before anything was read
leaves_none : (size : ℕ) (lines : Lines) (report : Reports) (can_end : Ending → Type 0) (link : ℕ)
    (first left before after : Option (List ℕ))
    (result : Result Ending Stop) → IsErr result × IsErrAnd result (λ (stop : Stop). stop ≡ Memory) →
    Keeps before after → LoopLeavesAll size lines report can_end link first left before after result
leaves_none size lines report can_end link first left before after (Ok ending) is kept = absurd (cc)
leaves_none size lines report can_end link first left before after (Err stop) is kept =
    subst (λ (s : Stop). LoopLeavesAll size lines report can_end link first left before after (Err s)) (sym is.1)
    (leaves_nothing (in_batches size) lines report can_end link first left before after kept)

pub returns-in_err-totals_head_text-clause-leaves : goal.returns-in_err-totals_head_text-clause-leaves
returns-in_err-totals_head_text-clause-leaves g c =
    leaves_none c.args.asked.now.batch (IsTotalsLines c.args.asked.now) (IsTotalsReport c.args.asked.now)
    (EndsBy (g.S.Source.failed c.args.source.now) (g.S.Source.failed c.args.source.now))
    (number_in c.args.asked.now.framing.link) (g.S.Source.left c.args.source.now) (g.S.Source.left c.args.source.now)
    (g.K.Sink.put c.args.sink.now)
    (g.K.Sink.put c.args.sink.now) c.from_residual.result c.from_residual.ensures
    (Keeps-same (g.K.Sink.put c.args.sink.now))

pub returns-clause-leaves : goal.returns-clause-leaves
returns-clause-leaves g c =
    subst (λ (portions : Portions). LoopLeavesBy portions (IsTotalsLines c.args.asked.now)
    (IsTotalsReport c.args.asked.now)
    (EndsBy (g.S.Source.failed c.args.source.now) (g.S.Source.failed c.run_job-answer.new.source))
    (number_in c.args.asked.now.framing.link) (g.S.Source.left c.args.source.now)
    (g.S.Source.left c.run_job-answer.new.source) (g.K.Sink.put c.args.sink.now)
    (g.K.Sink.put c.run_job-answer.new.sink) c.run_job-answer.result) c.requires.so_many
    (subst (λ (link : ℕ). LoopLeavesBy c.args.means.now.portions (IsTotalsLines c.args.asked.now)
    (IsTotalsReport c.args.asked.now)
    (EndsBy (g.S.Source.failed c.args.source.now) (g.S.Source.failed c.run_job-answer.new.source)) link
    (g.S.Source.left c.args.source.now) (g.S.Source.left c.run_job-answer.new.source) (g.K.Sink.put c.args.sink.now)
    (g.K.Sink.put c.run_job-answer.new.sink) c.run_job-answer.result) c.number-link.ensures
    (c.run_job-answer.ensures.leaves c.args.asked.now
    (begun c.new-counting.result c.args.asked.now c.totals_head_text.new.out.items c.new-counting.ensures.seats
    c.new-counting.ensures.framing c.new-counting.ensures.none
    (c.in_ok-totals_head_text.ensures.appended
    ∙ ap (λ (t : List ℕ). t ++ totals_head c.args.asked.now.seats c.args.asked.now.batch) c.new-text.ensures.items))))

pub returns-clause-beyond : goal.returns-clause-beyond
returns-clause-beyond g c =
    let first = g.S.Source.left c.args.source.now in
    let left = g.S.Source.left c.run_job-answer.new.source in
    subst (λ (portions : Portions). Marks c.run_job-answer.result c.args.beyond.now c.run_job-answer.new.piles.beyond
    (StopsAt (number_in c.args.asked.now.framing.link) portions.limit first left)) c.requires.so_many
    (subst (λ (link : ℕ). Marks c.run_job-answer.result c.args.beyond.now c.run_job-answer.new.piles.beyond
    (StopsAt link c.args.means.now.portions.limit first left)) c.number-link.ensures
    (c.run_job-answer.ensures.beyond c.args.asked.now
    (begun c.new-counting.result c.args.asked.now c.totals_head_text.new.out.items c.new-counting.ensures.seats
    c.new-counting.ensures.framing c.new-counting.ensures.none
    (c.in_ok-totals_head_text.ensures.appended
    ∙ ap (λ (t : List ℕ). t ++ totals_head c.args.asked.now.seats c.args.asked.now.batch) c.new-text.ensures.items))))

pub run_job-answer-requires-clause-ways : goal.run_job-answer-requires-clause-ways
run_job-answer-requires-clause-ways g c = λ lives within. (
  ap way_of (c.new.ensures.framing ∙ sym c.new-counting.ensures.framing),
  ap way_of (c.new-2.ensures.framing ∙ sym c.new-counting.ensures.framing),
)
