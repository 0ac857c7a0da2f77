-- The fields stand for the world of the opening.
use Rattle.std.proofs.Common.{◌≡◌, ℕ, List, [], map, replicate, sym, ap, ◌∙◌, subst}
use Rattle.step_counts.specs.declared.settings.Settings.{Settings}
use Rattle.plain_map.specs.declared.records.Record.{Record}
use Rattle.word_rows.specs.LayoutView.{shape_of}
use Rattle.table_model.specs.declared.events.Event.{Event}
use Rattle.table_model.specs.Setup.{Setup, IsSetup}
use Rattle.table_model.specs.SeatStates.{SeatState}
use Rattle.table_model.specs.Worlds.{IsRun, opening_words, world_after}
use Rattle.core_steps.specs.Values.{setup_at}
use Rattle.core_steps.specs.Moments.{StandsIn}
use Rattle.core_steps.proofs.Opened.{no_records, opening_stands}
use Rattle.core_steps.proofs.one_world.CoreWorld.of_words.Goals as goal

-- no records of so many seats
abbrev none_for : ℕ → List (List Record)
none_for n = replicate n []

pub invariant_of-result : goal.invariant_of-result
invariant_of-result c =
    let setup : Setup = setup_at (shape_of c.args.layout) c.args.hashing c.in_ok-first.first.items in
    let same : setup_at (shape_of c.args.layout) c.args.hashing c.args.first.now ≡ setup =
    ap (setup_at (shape_of c.args.layout) c.args.hashing) (sym c.in_ok-first.ensures) in
    let none : [] ≡ c.new.result.items = sym c.new.ensures.items in
    let words : c.args.words.items ≡ opening_words setup = c.requires.words ∙ ap opening_words same in
    record {
      run = subst (IsRun setup) none (record { opened = subst IsSetup same c.requires.setup; follow = tt });
      stands = subst (λ (events : List Event). StandsIn setup (world_after setup events) c.args.words.items
          c.in_ok-seats.seats.items) none
          (opening_stands setup c.args.words.items c.in_ok-seats.seats.items words c.in_ok-seats.ensures);
      logs_are = subst (λ (events : List Event). map (λ log. log.items) c.in_ok-logs.logs.items
          ≡ map (λ (state : SeatState). state.account.records) (world_after setup events).seats) none
          (c.in_ok-logs.ensures
          ∙ ap (λ (s : Settings). none_for s.seats) c.settings.ensures
          ∙ no_records c.args.layout.settings.seats);
    }
