-- The fields stand for the world after the event.
use Rattle.std.proofs.Common.{◌≡◌, List, [], ◌∷◌, ◌++◌, map, refl, sym, ap, ◌∙◌, subst}
use Rattle.word_rows.specs.LayoutView.{shape_of}
use Rattle.table_model.specs.declared.events.Event.{Event}
use Rattle.table_model.specs.SeatStates.{SeatState}
use Rattle.table_model.specs.Worlds.{IsEvent, IsRun, World, happens, world_after}
use Rattle.play_laws.proofs.Worlds.{run-snoc, world-snoc}
use Rattle.core_steps.specs.Values.{CoreValue, stepped_of, with_event}
use Rattle.core_steps.specs.Insides.{setup_in}
use Rattle.core_steps.specs.Moments.{AtCore, StandsIn}
use Rattle.core_steps.proofs.Kept.{logs_follow}
use Rattle.core_steps.proofs.one_world.CoreWorld.step.Goals as goal
use Rattle.core_steps.proofs.one_world.CoreWorld.step.Goals.{After-happen_at-arg-3-1, After-push_reserved}

-- the fields before the event
at_core : (c : After-happen_at-arg-3-1) → AtCore (shape_of c.self.inside.layout) c.self.inside.words.items
    c.self.inside.seats.items c.args.event.now
at_core c = record {
  setup = setup_in c.self.inside;
  events = c.self.inside.events.items;
  run = c.self.invariant.run;
  shape_is = refl;
  stands = c.self.invariant.stands;
  may = subst (λ (core : CoreValue). IsEvent core.setup core.world c.args.event.now) (sym c.self.view_is)
      c.requires.event;
}

pub happen_at-stepped-requires : goal.happen_at-stepped-requires
happen_at-stepped-requires c = record { stands = at_core c }

-- the same, later on
abbrev at_last : (c : After-push_reserved) → AtCore (shape_of c.self.inside.layout) c.self.inside.words.items
    c.self.inside.seats.items c.args.event.now
at_last c = record {
  setup = setup_in c.self.inside;
  events = c.self.inside.events.items;
  run = c.self.invariant.run;
  shape_is = refl;
  stands = c.self.invariant.stands;
  may = subst (λ (core : CoreValue). IsEvent core.setup core.world c.args.event.now) (sym c.self.view_is)
      c.requires.event;
}

-- the events then
events_are : (c : After-push_reserved) →
    c.push_reserved.new.self.items ≡ c.self.inside.events.items ++ c.args.event.now ∷ []
events_are c =
    c.push_reserved.ensures.items
    ∙ ap (λ (events : List Event). events ++ c.args.event.now ∷ []) c.reserve.ensures.items

-- and the world after them
world_is : (c : After-push_reserved) →
    world_after (setup_in c.self.inside) c.push_reserved.new.self.items
    ≡ happens (setup_in c.self.inside) (world_after (setup_in c.self.inside) c.self.inside.events.items)
    c.args.event.now
world_is c =
    ap (world_after (setup_in c.self.inside)) (events_are c)
    ∙ world-snoc (setup_in c.self.inside) c.self.inside.events.items c.args.event.now

pub invariant_of-self-2 : goal.invariant_of-self-2
invariant_of-self-2 c =
    let setup = setup_in c.self.inside in
    let w : World = world_after setup c.self.inside.events.items in
    let after = c.happen_at-stepped.ensures.happened (at_last c) in
    let may : IsEvent setup w c.args.event.now = (at_last c).may in
    record {
      run = subst (IsRun setup) (sym (events_are c))
          (run-snoc setup c.self.inside.events.items c.args.event.now c.self.invariant.run may);
      stands = subst (λ (x : World). StandsIn setup x c.happen_at-stepped.new.words.items
          c.happen_at-stepped.new.seats.items) (sym (world_is c)) after.stands;
      logs_are = c.note.ensures
          ∙ logs_follow setup w c.args.event.now c.happen_at-stepped.result
          (map (λ log. log.items) c.reserve_in.new.logs.items) may.seat
          c.self.invariant.stands.seats (c.reserve_in.ensures.items ∙ c.self.invariant.logs_are) after.grown
          ∙ ap (λ (x : World). map (λ (state : SeatState). state.account.records) x.seats) (sym (world_is c));
    }

pub returns-clause-stepped : goal.returns-clause-stepped
returns-clause-stepped c =
    let setup = setup_in c.self.inside in
    let after = c.happen_at-stepped.ensures.happened (at_last c) in (
      (λ i. record { setup = setup; events = events_are c i; world = world_after setup (events_are c i) })
          ∙ (λ i. record {
            setup = setup;
            events = c.self.inside.events.items ++ c.args.event.now ∷ [];
            world = world-snoc setup c.self.inside.events.items c.args.event.now i;
          })
          ∙ ap (λ (core : CoreValue). with_event core c.args.event.now) c.self.view_is,
      after.told ∙ ap (λ (core : CoreValue). stepped_of core.setup core.world c.args.event.now) c.self.view_is,
    )
