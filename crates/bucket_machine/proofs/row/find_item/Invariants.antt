use Rattle.std.proofs.Common.{◌≡◌, take, None}
use Rattle.plain_map.specs.Rows.{BucketContent}
use Rattle.bucket_states.specs.Items.{value_at}
use Rattle.bucket_machine.specs.Rows.{Spell}
use Rattle.bucket_machine.proofs.row.find_item.Given as goal

abbrev pub invariant-loop-i : goal.invariant-loop-i
invariant-loop-i l = record {
  none : (b : BucketContent) → Spell l.settings b l.row →
      value_at l.key (take l.i b.items) ≡ None;
}
