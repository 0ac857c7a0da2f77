-- The seat becomes a caller, which makes the calls.
use Rattle.std.proofs.Common.{◌≡◌, ℕ, [], Some, length, sym, ap, ◌∙◌, subst, arith}
use Rattle.std.specs.Prelude.{All}
use Rattle.std.proofs.lemmas.Option.{same_Some}
use Rattle.plain_map.specs.declared.calls.Call.{Call}
use Rattle.plain_map.specs.Serving.{IsAskable}
use Rattle.shared_table.specs.SeatValues.{SeatValue}
use Rattle.batch_runner.specs.declared.workers.SeatWorker.{SeatWorker}
use Rattle.batch_runner.specs.Seats.{answered_by}
use Rattle.batch_runner.proofs.Working.{worked_there}
use Rattle.batch_runner.proofs.workers.SeatWorkerWorksOnDirectory.work_on.Goals as goal

pub make_calls-requires-clause-askable : goal.make_calls-requires-clause-askable
make_calls-requires-clause-askable g c =
    subst (All (λ (call : ℕ × Call). IsAskable call.1)) (sym c.as_slice.ensures.value) c.requires.ready.askable

pub make_calls-requires-clause-countable : goal.make_calls-requires-clause-countable
make_calls-requires-clause-countable g c =
    let own : SeatValue = c.requires.ready.own in
    let own_is : c.in-Some.own ≡ own =
    same_Some c.in-Some.own own (sym c.in-Some.is ∙ c.take.ensures.value ∙ c.requires.ready.seat) in
    omega (
      arith,
      ap (λ (s : SeatValue). length (answered_by s)) (c.new-caller.ensures.seat ∙ own_is),
      ap length c.as_slice.ensures.value,
      c.args.self.now.calls.ok.0,
      c.requires.ready.countable,
    )

pub make_calls-requires-clause-none : goal.make_calls-requires-clause-none
make_calls-requires-clause-none g c =
    subst (λ (k : g.row.K.Denot). g.K.Collector.holds k []) (sym c.replace-kept.ensures.value) c.requires.ready.none

pub make_calls-requires-clause-room : goal.make_calls-requires-clause-room
make_calls-requires-clause-room g c =
    omega (
      arith,
      ap g.K.Collector.room c.replace-kept.ensures.value,
      ap length c.as_slice.ensures.value,
      c.args.self.now.calls.ok.0,
      c.requires.ready.room_left,
    )

pub returns : goal.returns
returns g c =
    let own : SeatValue = c.requires.ready.own in
    let own_is : c.in-Some.own ≡ own =
    same_Some c.in-Some.own own (sym c.in-Some.is ∙ c.take.ensures.value ∙ c.requires.ready.seat) in
    let x : SeatWorker g.row.K.Denot =
    record { seat = Some c.into_seat.result; calls = c.args.self.now.calls; kept = c.make_calls.new.kept } in
    let made = c.make_calls.ensures in
    record {
      done = worked_there g.K.Collector.holds g.K.Collector.room c.args.self.now x c.new-caller.result
          c.make_calls.new.server own c.requires.ready.seat (c.new-caller.ensures.seat ∙ own_is)
          (ap Some c.into_seat.ensures) made.0 made.1 c.as_slice.result.now c.as_slice.ensures.value made.2;
    }
