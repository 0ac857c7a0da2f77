-- The made capture is read to its end, and what the loop put is its trial.
use Rattle.std.proofs.Common.{[], List, ℕ, Some, Ok, ap, subst, sym}
use Rattle.packet_heads.specs.Links.{number_in}
use Rattle.pcap_reader.specs.Made.{made_capture}
use Rattle.capture_loop.specs.declared.portions.Portions.{Portions}
use Rattle.capture_loop.specs.Input.{in_batches}
use Rattle.capture_loop.specs.Leaves.{EndsBy, Leaves, LoopLeavesBy}
use Rattle.serve_modes.specs.Trying.{HasTried, IsNoText, IsTrialOf}
use Rattle.serve_modes.proofs.TrialLemmas.{IsTrial-put, none_failed}
use Rattle.serve_modes.proofs.trying.text_of.Goals as goal

pub returns-in-Ok : goal.returns-in-Ok
returns-in-Ok g c = λ none plain.
    let plan = c.args.plan.now in
    let bytes : List ℕ = made_capture plan.number plan.packets in
    let begun : HasTried c.in_ok-trying.trying plan [] c.new-text.result.items =
    subst (HasTried c.in_ok-trying.trying plan []) (sym c.new-text.ensures.items) c.in_ok-trying.ensures.none in
    let leaves = subst (λ (portions : Portions). LoopLeavesBy portions (IsNoText plan) (IsTrialOf plan) (EndsBy 0 0)
    (number_in plan.framing.link) (Some c.new-source.result) (Some c.run_job-answer.new.source)
    (Some c.in_ok-sink.sink.put) (Some c.run_job-answer.new.sink.put) (Ok c.in-Ok._ending)) c.requires.batch
    (subst (λ (link : ℕ). LoopLeavesBy c.args.means.now.portions (IsNoText plan) (IsTrialOf plan) (EndsBy 0 0) link
    (Some c.new-source.result) (Some c.run_job-answer.new.source) (Some c.in_ok-sink.sink.put)
    (Some c.run_job-answer.new.sink.put) (Ok c.in-Ok._ending)) c.number.ensures (c.in-Ok.ensures.leaves plan begun)) in
    IsTrial-put plan (EndsBy 0 0) (Some c.run_job-answer.new.source) c.in-Ok._ending c.run_job-answer.new.sink.put
    (c.one_input.ensures 1 bytes) (c.made_capture_law.ensures plan.number plan.packets) c.requires.range.packets
    none_failed c.serving_laws.ensures none plain c.requires.range.batch
    (subst (λ (before : List ℕ). Leaves (in_batches plan.batch) (number_in plan.framing.link) (IsNoText plan)
    (IsTrialOf plan)
    (EndsBy 0 0) bytes
    (Some c.run_job-answer.new.source) (Some before) (Some c.run_job-answer.new.sink.put) (Ok c.in-Ok._ending))
    c.in_ok-sink.ensures.put
    (leaves.told bytes (ap (λ (l : List ℕ). Some l) c.new-source.ensures.left)))
