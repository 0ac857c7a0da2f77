-- Every play is right, since it is a run, and what holds of every run holds of it.
use Rattle.std.proofs.Common.{sym, subst}
use Rattle.table_model.specs.Histories.{DepthIsOfLeaves, LeavesAreWarranted, LeavesCover, OrderIsAfter, OrderIsLegal, OrderIsWhole, PairsAreOfOrder}
use Rattle.table_model.specs.Promises.{StepsAreBounded}
use Rattle.table_model.specs.Schedules.{Play, PlaysAreRuns, PlaysEnd, play_of}
use Rattle.play_mode.specs.Playing.{IsRightWorld, PlaysAreRight}

module _ (runs : PlaysAreRuns) (end : PlaysEnd) (legal : OrderIsLegal) (after : OrderIsAfter) (whole : OrderIsWhole)
    (pairs : PairsAreOfOrder) (depth : DepthIsOfLeaves) (warranted : LeavesAreWarranted) (cover : LeavesCover)
    (steps : StepsAreBounded) where
  pub plays_are_right : PlaysAreRight
  plays_are_right setup calls stops schedule can =
      let play : Play = play_of setup calls stops schedule in
      let run = runs setup calls stops schedule can in
      record {
        run = run.0;
        comes = run.1;
        ended = λ seat within. end setup calls stops schedule seat can within;
        right = subst (IsRightWorld setup) (sym run.1) (record {
          legal = legal setup play.events run.0;
          after = after setup play.events run.0;
          whole = whole setup play.events run.0;
          pairs = pairs setup play.events run.0;
          cover = cover setup play.events run.0;
          warranted = warranted setup play.events run.0;
          depth = depth setup play.events run.0;
          steps = λ seat within. steps setup play.events seat run.0 within;
        });
      }
