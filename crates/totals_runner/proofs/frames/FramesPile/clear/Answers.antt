-- All frames are given up.
use Rattle.std.proofs.Common.{◌≤◌, ℕ, List, length, refl}
use Rattle.std.proofs.lemmas.List.Elements.{All-nil}
use Rattle.totals_runner.proofs.frames.FramesPile.clear.Goals as goal

pub returns-clause-none : goal.returns-clause-none
returns-clause-none c =
    record {
      are = c.clear.ensures.items;
      behind = refl;
      short = All-nil (λ (packet : List ℕ). length packet ≤ 262144);
    }
