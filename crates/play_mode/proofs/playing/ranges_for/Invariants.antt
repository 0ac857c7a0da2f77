use Rattle.std.proofs.Common.{◌≡◌, ◌^◌, take, map}
use Rattle.std.specs.Prelude.{All}
use Rattle.word_rows.specs.Shape.{AreBelow}
use Rattle.play_mode.proofs.PlayLemmas.{share_rows}
use Rattle.play_mode.proofs.playing.ranges_for.Given as goal

-- the rows of the seats so far
abbrev pub invariant-loop-share : goal.invariant-loop-share
invariant-loop-share l = record {
  rows : l.rows.items ≡ map (share_rows l.settings) (take l.share-index l.shares);
  below : All (AreBelow (2 ^ 32)) l.rows.items;
}
