-- A loop of whole batches: a batch is served while the one before it is told, or all is told and more is read.
use Rattle.std.proofs.Common.{rules, ◌<◌, ◌++◌, [], ℕ, Option, Some, refl, subst, sym, ◌∙◌, arith}
use Rattle.std.specs.Option.{IfSome}
use Rattle.capture_faults.specs.declared.ending.Ending.{Ending}
use Rattle.capture_loop.specs.declared.stop.Stop.TheVariants.{Memory, NotPut}
use Rattle.capture_loop.specs.Endings.{HasFailed, OnLimit}
use Rattle.capture_loop.specs.Leaves.{EndsBy}
use Rattle.capture_loop.specs.Input.{StopsAt}
use Rattle.capture_loop.specs.Looping.{Standing}
use Rattle.capture_loop.specs.Reading.{HaveCome, HaveEnded}
use Rattle.capture_loop.proofs.LoopLemmas.{limit_same, at_none, at_some, at_start, if_none, last_memory, none_failed}
use Rattle.capture_loop.proofs.StandingLemmas.{IfNone-any, IfNone-map, Standing-map, all_put, at_err, at_ok, leaves_err}
use Rattle.capture_loop.proofs.looping.go_through.Goals as goal

pub batches-init : goal.batches-init
batches-init g c = record {
  reads = c.requires.start.going;
  given = omega (arith, c.requires.start.given);
  few_ahead = (omega arith, omega arith);
  few = omega arith;
  going = c.requires.going;
  piled = ([], c.requires.none, refl);
  ways = c.requires.ways;
  kept = refl;
  some = λ closed is. absurd cc;
  counted_reads = omega arith;
  counted_writes = omega arith;
  reads_failed = refl;
  writes_failed = refl;
  none_held = λ some. absurd (omega (arith, some));
  stands = λ plan link first before has put come. (
    [],
    [],
    at_start c.args.means.now.portions (g.J.Job.done c.args.job.now plan) link first before
        (g.K.Sink.put c.args.sink.now) c.args.text.now.items
        has
        put,
    c.requires.none,
    refl,
    come,
  );
}

pub returns-in_err-so_far-clause-leaves : goal.returns-in_err-so_far-clause-leaves
returns-in_err-so_far-clause-leaves g c = λ plan link first before failed is_failed has put come.
    let s = c.batches.invariant.stands plan link first before has put come in
    let left = g.S.Source.left c.batches.source in
    let since = g.S.Source.failed c.batches.source in
    leaves_err c.args.means.now.portions (g.J.Job.lines plan) (g.J.Job.report plan) (EndsBy failed since) link first
    left
    before (g.K.Sink.put c.turn.new.sink) c.from_residual.result c.in_err-so_far.field-0.0 c.from_residual.ensures.1
    (c.in_err-so_far.ensures.leaves plan failed since link first left before s.0 s.2)

pub batches-preserved-then-may_end : goal.batches-preserved-then-may_end
batches-preserved-then-may_end g c =
    let inv = c.batches.invariant in
    let is = c.in_ok-so_far.ensures in
    let portions = c.args.means.now.portions in
    let few : c.turn.new.so_far.packets < portions.limit = search rules in
    record {
      reads = is.reads;
      given = is.given;
      few_ahead = is.few;
      few = few;
      going = is.going;
      piled = is.piled;
      ways = is.ways;
      kept = c.turn.ensures.kept ∙ inv.kept;
      some = is.some;
      counted_reads = inv.counted_reads;
      counted_writes = omega (arith, inv.counted_writes, c.turn.ensures.counted);
      reads_failed = inv.reads_failed;
      writes_failed = is.writes ∙ inv.writes_failed;
      none_held = IfNone-map _ _ c.turn.new.so_far.untold is.held (λ none some. none);
      stands = λ plan link first before has put come.
          let s = inv.stands plan link first before has put come in
          let left = g.S.Source.left c.batches.source in
          let t = is.stands plan link first left before s.0 s.1 s.2 s.3 s.4 s.5 in (
            s.0 ++ s.1,
            t.0,
            t.1,
            t.2,
            t.3,
            t.4,
          );
    }

pub returns-in_err-written-clause-leaves : goal.returns-in_err-written-clause-leaves
returns-in_err-written-clause-leaves g c = λ plan link first before failed is_failed has put come.
    let s = c.batches.invariant.stands plan link first before has put come in
    let left = g.S.Source.left c.batches.source in
    let since = g.S.Source.failed c.batches.source in
    leaves_err c.args.means.now.portions (g.J.Job.lines plan) (g.J.Job.report plan) (EndsBy failed since) link first
    left
    before (g.K.Sink.put c.settle.new.sink) c.from_residual-in_err-written.result Memory
    c.from_residual-in_err-written.ensures.1
    (c.in_err-written.ensures.memory plan failed since c.args.means.now.portions link c.batches.so_far.packets first
    left
    before s.0
    (Standing-map c.args.means.now.portions (g.J.Job.lines plan) g.J.Job.tells link first left before
    c.batches.so_far.untold (g.J.Job.done c.batches.job plan) (g.J.Job.lines plan) c.batches.so_far.packets s.0
    (g.K.Sink.put c.batches.sink) c.batches.text.items (g.met.J.Job.told c.batches.job plan) s.2))

pub returns-in_err-written-2-clause-leaves : goal.returns-in_err-written-2-clause-leaves
returns-in_err-written-2-clause-leaves g c = λ plan link first before failed is_failed has put come.
    let s = c.batches.invariant.stands plan link first before has put come in
    let left = g.S.Source.left c.batches.source in
    let since = g.S.Source.failed c.batches.source in
    leaves_err c.args.means.now.portions (g.J.Job.lines plan) (g.J.Job.report plan) (EndsBy failed since) link first
    left
    before (g.K.Sink.put c.settle.new.sink) c.from_residual-in_err-written-2.result NotPut
    c.from_residual-in_err-written-2.ensures.1
    (at_err _ c.in_ok-written.written c.in_err-written-2.field-0.0 c.in_err-written-2.was c.in_ok-written.ensures.front
    plan failed since c.args.means.now.portions link c.batches.so_far.packets first left before s.0
    (Standing-map c.args.means.now.portions (g.J.Job.lines plan) g.J.Job.tells link first left before
    c.batches.so_far.untold (g.J.Job.done c.batches.job plan) (g.J.Job.lines plan) c.batches.so_far.packets s.0
    (g.K.Sink.put c.batches.sink) c.batches.text.items (g.met.J.Job.told c.batches.job plan) s.2))

pub returns-in_err-part-clause-leaves : goal.returns-in_err-part-clause-leaves
returns-in_err-part-clause-leaves g c = λ plan link first before failed is_failed has put come.
    let s = c.batches.invariant.stands plan link first before has put come in
    let left = g.S.Source.left c.read_rest.new.source in
    let can_end = EndsBy failed (g.S.Source.failed c.read_rest.new.source) in
    let now = g.K.Sink.put c.settle.new.sink in
    let all_told = at_ok _ c.in_ok-written.written c.in_ok-written-2.field-0 c.in_ok-written-2.was
    c.in_ok-written.ensures.stands plan c.args.means.now.portions link c.batches.so_far.packets first
    (g.S.Source.left c.batches.source) before s.0 s.2 in
    leaves_err c.args.means.now.portions (g.J.Job.lines plan) (g.J.Job.report plan) can_end link first left before now
    c.from_residual-in_err-part.result Memory c.from_residual-in_err-part.ensures.1
    (last_memory c.args.means.now.portions (g.J.Job.lines plan) (g.J.Job.report plan) can_end
    (g.J.Job.done c.settle.new.job plan) link first left c.batches.so_far.packets s.0 before now
    c.settle.new.text.items all_told
    (g.met.J.Job.told c.settle.new.job plan all_told.batches all_told.text all_told.done))

pub returns-in-Some-clause-leaves : goal.returns-in-Some-clause-leaves
returns-in-Some-clause-leaves g c = λ plan link first before failed is_failed has put come.
    let s = c.batches.invariant.stands plan link first before has put come in
    let left = g.S.Source.left c.read_rest.new.source in
    let since = g.S.Source.failed c.read_rest.new.source in
    let all_told = at_ok _ c.in_ok-written.written c.in_ok-written-2.field-0 c.in_ok-written-2.was
    c.in_ok-written.ensures.stands plan c.args.means.now.portions link c.batches.so_far.packets first
    (g.S.Source.left c.batches.source) before s.0 s.2 in
    let r = c.in_ok-part.ensures.read s.1 s.3 s.4 in
    let ended : HaveEnded c.args.means.now.portions.limit link first left (s.0 ++ (s.1 ++ r.0)) c.in-Some.ending =
    at_some _ (HaveEnded c.args.means.now.portions.limit link first left (s.0 ++ (s.1 ++ r.0)))
    c.in_ok-part.part.ending c.in-Some.ending
    c.in-Some.is (r.3 link first s.0 all_told.count s.5) in
    c.serve_last.ensures.leaves plan failed since link first left before s.0 (s.1 ++ r.0) all_told r.1 r.2 ended
    (subst (λ (n : ℕ). HasFailed (Some c.in-Some.ending) n since) (c.batches.invariant.reads_failed ∙ sym is_failed)
    (subst (λ (e : Option Ending). HasFailed e (g.S.Source.failed c.batches.source) since) c.in-Some.is
    c.in_ok-part.ensures.failed))

pub returns-in-Some-clause-beyond : goal.returns-in-Some-clause-beyond
returns-in-Some-clause-beyond g c = λ plan link first before has put come.
    let s = c.batches.invariant.stands plan link first before has put come in
    let all_told = at_ok _ c.in_ok-written.written c.in_ok-written-2.field-0 c.in_ok-written-2.was
    c.in_ok-written.ensures.stands plan c.args.means.now.portions link c.batches.so_far.packets first
    (g.S.Source.left c.batches.source) before s.0 s.2 in
    let far = c.in_ok-part.ensures.beyond s.1 s.3 s.4 link first s.0 all_told.count s.5 in
    let left = g.S.Source.left c.read_rest.new.source in
    let goes_on = StopsAt link c.args.means.now.portions.limit first left c.read_rest.new.reader.start in
    limit_same c.serve_last.result c.in-Some.ending goes_on c.serve_last.ensures.same
    (subst (λ (e : Option Ending). IfSome e (λ ending. OnLimit ending goes_on)) c.in-Some.is far)

pub batches-preserved : goal.batches-preserved
batches-preserved g c =
    let inv = c.batches.invariant in
    let p = inv.piled in
    let left = g.S.Source.left c.read_rest.new.source in
    let own = c.in_ok-part.ensures.read p.0 p.1 p.2 in
    let goes = if_none c.in_ok-part.part.ending c.in_default.is c.in_ok-part.ensures.goes_on in
    let job = c.in_ok-written.ensures.job in
    let many : ℕ = c.batches.so_far.packets in
    record {
      reads = goes.0;
      given = goes.1;
      few_ahead = (
        c.in_ok-part.ensures.few_packets.1,
        c.in_ok-part.ensures.few_packets.2,
      );
      few = inv.few;
      going = job.1 many inv.going;
      piled = (p.0 ++ own.0, own.1, own.2);
      ways = (c.read_rest.ensures.way ∙ inv.ways.0 ∙ sym job.0, inv.ways.1 ∙ sym job.0);
      kept = inv.kept;
      some = λ closed is. absurd (cc (c.settle.ensures.none, is));
      counted_reads = omega (arith, inv.counted_reads, c.read_rest.ensures.counted);
      counted_writes = omega (arith, inv.counted_writes, c.settle.ensures.counted);
      reads_failed = none_failed c.in_ok-part.part.ending (g.S.Source.failed c.batches.source)
          (g.S.Source.failed c.read_rest.new.source) c.in_default.is c.in_ok-part.ensures.failed ∙ inv.reads_failed;
      writes_failed = at_ok _ c.in_ok-written.written c.in_ok-written-2.field-0 c.in_ok-written-2.was
          c.in_ok-written.ensures.none_failed_put ∙ inv.writes_failed;
      none_held = IfNone-any _ c.settle.new.untold
          (all_put c.batches.so_far.untold many c.batches.text.items c.settle.new.text.items inv.none_held
          (at_ok _ c.in_ok-written.written c.in_ok-written-2.field-0 c.in_ok-written-2.was
          c.in_ok-written.ensures.held));
      stands = λ plan link first before has put come.
          let s = inv.stands plan link first before has put come in
          let all_told = at_ok _ c.in_ok-written.written c.in_ok-written-2.field-0 c.in_ok-written-2.was
          c.in_ok-written.ensures.stands plan c.args.means.now.portions link many first
          (g.S.Source.left c.batches.source) before s.0 s.2 in
          let r = c.in_ok-part.ensures.read s.1 s.3 s.4 in
          let next_come : HaveCome link first left c.read_rest.new.reader (s.0 ++ (s.1 ++ r.0)) =
          at_none (HaveCome link first left c.read_rest.new.reader (s.0 ++ (s.1 ++ r.0))) _ c.in_ok-part.part.ending
          c.in_default.is (r.3 link first s.0 all_told.count s.5) in (
            s.0,
            s.1 ++ r.0,
            subst (λ (untold : Option g.row.J-Closed.Denot). Standing c.args.means.now.portions
                (g.J.Job.done c.settle.new.job plan) (g.J.Job.lines plan) g.J.Job.tells untold link first left many s.0
                before (g.K.Sink.put c.settle.new.sink) c.settle.new.text.items) (sym c.settle.ensures.none) all_told,
            r.1,
            r.2,
            next_come,
          );
    }
