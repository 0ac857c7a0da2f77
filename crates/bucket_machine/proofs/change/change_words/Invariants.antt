use Rattle.std.proofs.Common.{◌≡◌, ◌≤◌, drop, get_or, length}
use Rattle.plain_map.specs.Rows.{BucketContent}
use Rattle.bucket_states.specs.States.{BucketState, row_of_state, state_in_row}
use Rattle.bucket_states.specs.Change.{after_seats}
use Rattle.bucket_machine.specs.Rows.{IsSpelled, Spell}
use Rattle.bucket_machine.proofs.change.change_words.Given as goal

abbrev pub invariant-loop-seat : goal.invariant-loop-seat
invariant-loop-seat l = record {
  long : length l.row ≡ length l.initial.row;
  few : get_or l.row 4 0 ≤ l.settings.items;
  depth : get_or l.row 1 0 ≤ l.settings.depth;
  some : IsSpelled l.settings l.row;
  rest : (b : BucketContent) → Spell l.settings b l.initial.row →
      (now : BucketState) × Spell l.settings (row_of_state b.base now) l.row
      × (after_seats l.rules l.seat (drop l.seat l.ops) now ≡ after_seats l.rules 0 l.ops (state_in_row b));
}
