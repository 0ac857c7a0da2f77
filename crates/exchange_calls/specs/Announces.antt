-- The end of an announcement.
use Rattle.std.specs.Prelude.{◌≡◌, ◌+◌}
use Rattle.plain_map.specs.declared.calls.Call.{Call}
use Rattle.exchange_model.specs.Steps.{Ending, Goes, Over}
use Rattle.exchange_calls.specs.Going.{Going}

-- how the op ends is known
pub record IsOver (g : Going) (call : Call) : Type 0 where
  pub ending : Ending
  pub stand : g.now.stand ≡ Goes call (Over ending)

-- one announcement more is over
abbrev pub announced_more : Going → Going
announced_more g = record g { now = record g.now { posted = g.now.posted + 1 } }
