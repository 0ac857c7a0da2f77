-- What a whole try comes to.
use Rattle.std.specs.Prelude.{◌≡◌, ℕ, ◌≤◌, Bool, All, MatchOption, Some, None, length}
use Rattle.plain_map.specs.declared.calls.Call.{Call}
use Rattle.plain_map.specs.declared.calls.Reply.{Reply}
use Rattle.plain_map.specs.Calls.{key_in}
use Rattle.plain_map.specs.Updates.{IsSmallPair}
use Rattle.bucket_states.specs.Items.{value_at}
use Rattle.bucket_states.specs.Places.{IsPlaceOf}
use Rattle.exchange_model.specs.Codes.{all_entry_words}
use Rattle.exchange_model.specs.Goes.{ends_with, gives_up, is_announced, lost, unless_spent}
use Rattle.exchange_calls.specs.Going.{Going}
use Rattle.exchange_calls.specs.Hands.{making, trying}
use Rattle.exchange_calls.specs.Marks.{entries_of, mark_words}
use Rattle.exchange_calls.specs.Tries.{AreRowsOf}
use Rattle.exchange_calls.specs.declared.attempts.Seen.{Seen}
use Rattle.exchange_calls.specs.declared.attempts.Tried.{Tried}
use Rattle.exchange_calls.specs.declared.attempts.Tried.TheVariants.{Done, Spent, Lost}
use Rattle.exchange_calls.specs.declared.hand.Hand.{Hand}
use Rattle.exchange_calls.specs.declared.own_rows.OwnRows.{OwnRows}

-- the row is seen, and the update is still to be made
pub record IsSeen (now : Going) (call : Call) (announced : Bool) (seen : Seen) (hand : Hand) : Type 0 where
  pub first : Going
  pub goes : now ≡ making first call (unless_spent first.plan (trying seen.turn seen.word hand))
  pub turn : is_announced seen.turn ≡ announced
  pub place : MatchOption seen.at (value_at (key_in call) hand.items.items ≡ None)
      (IsPlaceOf (key_in call) hand.items.items)
  pub small : All IsSmallPair hand.items.items
  pub spelled : all_entry_words (entries_of hand.marks.items) ≡ mark_words hand.marks.items
  pub few_items : length hand.items.items ≤ first.plan.settings.items

-- it is made: by the seat, whose first free row stands in the bucket's word now, or without that
pub record HasDone (first now : Going) (call : Call) (announced : Bool) (rows : OwnRows) (reply : Reply) : Type 0 where
  pub after : Going
  pub same : after ≡ record first { now = record first.now { free = after.now.free; kept = after.now.kept } }
  pub rows_are : AreRowsOf after rows
  pub goes : now ≡ making after call (ends_with announced (Some reply))

-- how a whole try went
abbrev pub HasTried : (first now : Going) → Call → (turn : ℕ) → OwnRows → Tried → Type 0
HasTried first now call turn rows (Done reply) = HasDone first now call (is_announced turn) rows reply
HasTried first now call turn rows Spent =
    (now ≡ making first call (gives_up (is_announced turn))) × AreRowsOf first rows
HasTried first now call turn rows Lost = (now ≡ making first call (lost turn)) × AreRowsOf first rows
