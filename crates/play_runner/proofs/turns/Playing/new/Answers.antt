-- A play before its first event.
use Rattle.std.proofs.Common.{map, sym, ap, ◌∙◌, subst}
use Rattle.play_laws.specs.Good.{IsGoodPlay}
use Rattle.play_laws.proofs.Ends.{first_good}
use Rattle.core_steps.specs.Values.{CoreValue}
use Rattle.play_runner.specs.Played.{outcomes_of}
use Rattle.play_runner.specs.Hands.{as_hands}
use Rattle.play_runner.proofs.Coming.{opens}
use Rattle.step_counts.specs.declared.settings.Settings.{Settings}
use Rattle.play_runner.proofs.turns.Playing.new.Goals as goal

pub returns-clause-play : goal.returns-clause-play
returns-clause-play c =
    opens c.args.core (as_hands c.in_ok-hands.hands.items) c.settings.result.seats
    (map (λ own. own.items) c.args.calls.now) c.args.stops.now c.requires.opened
    (ap (λ (s : Settings). s.seats) c.settings.ensures) c.in_ok-hands.ensures

pub returns-clause-stands : goal.returns-clause-stands
returns-clause-stands c = record {
  good = subst (IsGoodPlay c.args.core.setup)
      (sym (opens c.args.core (as_hands c.in_ok-hands.hands.items) c.settings.result.seats
      (map (λ own. own.items) c.args.calls.now) c.args.stops.now c.requires.opened
      (ap (λ (s : Settings). s.seats) c.settings.ensures) c.in_ok-hands.ensures))
      (first_good c.args.core.setup (map (λ own. own.items) c.args.calls.now) c.args.stops.now c.requires.playable);
  limited = c.requires.limit;
  told = c.new.ensures.items
      ∙ ap (λ (core : CoreValue). outcomes_of core.setup core.events) (sym c.requires.opened);
}
