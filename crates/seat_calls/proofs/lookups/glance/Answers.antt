use Rattle.std.proofs.Common.{ℕ, ◌+◌, ◌*◌, ap, ◌∙◌}
use Rattle.step_counts.specs.declared.TheConstants.{ITEM_WORDS}
use Rattle.table_model.specs.Phases.{LookWord, Phase, StoreDone}
use Rattle.seat_calls.specs.Going.{Going, later}
use Rattle.seat_calls.proofs.lookups.glance.Goals as goal
use Rattle.seat_calls.proofs.RunLemmas.{later_later}

-- the call in another phase, after so many steps in all
abbrev after : Going → (steps : ℕ) → Phase → Going
after g steps phase = record {
  setup = g.setup;
  seat = g.seat;
  account = g.account;
  flight = record g.flight { steps = steps };
  phase = phase;
}

pub returns : goal.returns
returns g c =
    let first : Going = g.S.Steps.now c.args.steps.now in
    let n : ℕ = 2 + c.look-reply.result.1 * ITEM_WORDS in
    let end : Phase = StoreDone c.look-reply.result.2 c.look-reply.result.0 in (
      c.look-reply.result.0,
      (
        3 + n,
        c.look-reply.ensures.goes ∙ ap (λ (h : Going). later h n end) c.find-root.ensures
            ∙ later_later first 3 n (LookWord c.find-root.result.0 c.find-root.result.1) end,
      ),
    )
