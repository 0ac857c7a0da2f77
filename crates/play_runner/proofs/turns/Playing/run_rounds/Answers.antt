-- One round after the other.
use Rattle.std.proofs.Common.{List, refl, sym, ap, ◌∙◌, inl, inr}
use Rattle.step_counts.specs.declared.settings.Settings.{Settings}
use Rattle.table_model.specs.Setup.{Setup, seats_of}
use Rattle.play_runner.specs.declared.hands.Hand.{Hand}
use Rattle.play_runner.specs.Hands.{as_hands, rounds_of}
use Rattle.play_runner.proofs.Coming.{round_on, rounds_done, rounds_in, rounds_out}
use Rattle.play_runner.proofs.turns.Playing.run_rounds.Goals as goal

pub loop-init : goal.loop-init
loop-init c = rounds_out c.args.self.now c.most_rounds-most.result c.requires

pub all_done-requires : goal.all_done-requires
all_done-requires c =
    ap (λ (s : Settings). s.seats) c.settings-settings.ensures
    ∙ ap (λ (setup : Setup). seats_of setup) (sym c.loop.invariant.setup_is)

pub run_round-requires : goal.run_round-requires
run_round-requires c = record {
  stands = c.loop.invariant.stands;
  seats = ap (λ (s : Settings). s.seats) c.settings-settings.ensures
      ∙ ap (λ (setup : Setup). seats_of setup) (sym c.loop.invariant.setup_is);
}

pub loop-preserved : goal.loop-preserved
loop-preserved c =
    round_on c.args.self.now c.loop.self c.run_round.new.self c.most_rounds-most.result c.loop.counter
    c.loop-test.true c.loop.invariant c.in_ok-run_round.ensures

pub returns-then-all_done : goal.returns-then-all_done
returns-then-all_done c =
    rounds_in c.args.self.now c.loop.self c.most_rounds-most.result c.settings-settings.result
    c.settings-settings.ensures
    (c.most_rounds-most.ensures
    ∙ ap (λ (hands : List Hand). rounds_of c.settings-settings.result (as_hands hands)) c.deref.ensures.value)
    (rounds_done c.args.self.now c.loop.self c.most_rounds-most.result c.loop.counter c.loop.invariant
    (inr (c.if-all_done.ensures refl)))

pub returns : goal.returns
returns c =
    rounds_in c.args.self.now c.loop.self c.most_rounds-most.result c.settings-settings.result
    c.settings-settings.ensures
    (c.most_rounds-most.ensures
    ∙ ap (λ (hands : List Hand). rounds_of c.settings-settings.result (as_hands hands)) c.deref.ensures.value)
    (rounds_done c.args.self.now c.loop.self c.most_rounds-most.result c.loop.counter c.loop.invariant
    (inl c.loop-test.false))
