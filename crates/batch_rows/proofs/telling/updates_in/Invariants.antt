use Rattle.std.proofs.Common.{◌≡◌, ◌<◌, map, take}
use Rattle.std.specs.Prelude.{All}
use Rattle.batch_rows.specs.BatchRows.{updates_in_calls}
use Rattle.batch_rows.specs.declared.rows.TheConstants.{CALL_LIMIT}
use Rattle.batch_rows.proofs.telling.updates_in.Given as goal

abbrev pub invariant-loop-share : goal.invariant-loop-share
invariant-loop-share l = record {
  count : l.updates.items ≡ map updates_in_calls (map (λ share. share.items) (take l.share-index l.shares));
  few : All (λ number. number < CALL_LIMIT) l.updates.items;
}
