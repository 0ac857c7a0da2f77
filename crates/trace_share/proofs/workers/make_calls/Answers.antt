use Rattle.std.proofs.Common.{ℕ, List, [], ◌∷◌, ◌++◌, take, sym, subst, arith, length-take-le}
use Rattle.std.proofs.lemmas.List.{take_more}
use Rattle.plain_map.specs.declared.calls.Call.{Call}
use Rattle.trace_share.specs.Outcomes.{ComesTo}
use Rattle.trace_share.proofs.OutcomeLemmas.{comes_to-few, comes_to-none, comes_to-on}
use Rattle.trace_share.proofs.workers.make_calls.Goals as goal

pub loop-place-init : goal.loop-place-init
loop-place-init g c = record {
  room = omega (arith, c.requires.room);
  came_to = (
    [],
    c.requires.none,
    comes_to-none g.S.Server.answered g.S.Server.spent g.S.Server.rows g.S.Server.need g.S.Server.stays
        c.args.server.now (g.met.S.Server.stays_self c.args.server.now),
  );
}

pub outcome_of-outcome-requires-clause-countable : goal.outcome_of-outcome-requires-clause-countable
outcome_of-outcome-requires-clause-countable g c =
    let so_far = c.loop-place.invariant.came_to in
    let few = comes_to-few g.S.Server.answered g.S.Server.spent g.S.Server.rows g.S.Server.need g.S.Server.stays
    (take c.loop-place.place c.args.calls.now) so_far.0 c.args.server.now c.loop-place.server so_far.2 in
    omega (
      arith,
      few,
      length-take-le c.loop-place.place c.args.calls.now,
      c.loop-place-test.true,
      c.requires.countable,
    )

pub loop-place-preserved : goal.loop-place-preserved
loop-place-preserved g c =
    let calls : List (ℕ × Call) = c.args.calls.now in
    let place : ℕ = c.loop-place.place in
    let so_far = c.loop-place.invariant.came_to in
    let one = c.outcome_of-outcome.ensures in
    let whole = comes_to-on g.S.Server.answered g.S.Server.spent g.S.Server.rows g.S.Server.need g.S.Server.stays
    (take place calls) _ so_far.0 (c.outcome_of-outcome.result ∷ []) c.args.server.now
    c.loop-place.server c.outcome_of-outcome.new.server
    (g.met.S.Server.stays_on c.args.server.now c.loop-place.server c.outcome_of-outcome.new.server
    so_far.2.same one.same)
    so_far.2 one in
    record {
      room = omega (arith, c.collect.ensures.less_room, c.loop-place.invariant.room);
      came_to = (
        so_far.0 ++ c.outcome_of-outcome.result ∷ [],
        c.collect.ensures.one_more so_far.0 so_far.1,
        subst (λ (l : List (ℕ × Call)). ComesTo g.S.Server.answered g.S.Server.spent g.S.Server.rows g.S.Server.need
            g.S.Server.stays l (so_far.0 ++ c.outcome_of-outcome.result ∷ []) c.args.server.now
            c.outcome_of-outcome.new.server)
            (sym (take_more calls place _ c.loop-place-test.true)) whole,
      );
    }
