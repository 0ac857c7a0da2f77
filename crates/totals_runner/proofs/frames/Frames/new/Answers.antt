-- No frames are kept at first.
use Rattle.std.proofs.Common.{◌≤◌, ℕ, List, length, refl}
use Rattle.std.proofs.lemmas.List.Elements.{All-nil}
use Rattle.totals_runner.proofs.frames.Frames.new.Goals as goal

pub returns-clause-none : goal.returns-clause-none
returns-clause-none c =
    record {
      are = c.new.ensures.items;
      behind = refl;
      short = All-nil (λ (packet : List ℕ). length packet ≤ 262144);
    }
