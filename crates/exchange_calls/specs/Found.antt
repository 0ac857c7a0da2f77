-- What a try has found of the seats, one after the other, and what it makes of the row by it.
use Rattle.std.specs.Prelude.{◌≡◌, ℕ, ◌+◌, ◌*◌, ◌^◌, ◌≤◌, Bool, if◌then◌else◌, All, List, [], ◌∷◌, ◌++◌, length, Option, Some, None}
use Rattle.plain_map.specs.declared.calls.Call.{Call}
use Rattle.plain_map.specs.declared.calls.Reply.{Reply}
use Rattle.plain_map.specs.declared.rules.Rules.{Rules}
use Rattle.plain_map.specs.Updates.{IsSmallPair}
use Rattle.word_rows.specs.ReplyWords.{word_of_reply}
use Rattle.bucket_states.specs.Items.{items_after, reply_in}
use Rattle.exchange_model.specs.Plans.{Plan, more}
use Rattle.exchange_model.specs.Codes.{all_entry_words, number_in}
use Rattle.exchange_model.specs.Steps.{Found, Goes, LoadOp, LoadPending, StoreRow, Takes, Try, made}
use Rattle.exchange_model.specs.Goes.{On, found_so_far, is_announced, reply_for}
use Rattle.exchange_calls.specs.Going.{Going, on}
use Rattle.exchange_calls.specs.Hands.{making}
use Rattle.exchange_calls.specs.Marks.{entries_of, mark_words}
use Rattle.exchange_calls.specs.declared.hand.Hand.{Hand}
use Rattle.exchange_calls.specs.declared.marks.Mark.{Mark}

-- the hand has what the try makes of its row, with these found; and this is the reply to the seat's own op, once it was
-- applied
pub record IsMade (plan : Plan) (seat : ℕ) (attempt : Try) (found : List Found) (hand : Hand)
    (reply : Option Reply) : Type 0 where
  pub items : (made plan attempt found).row.items ≡ hand.items.items
  pub entries : all_entry_words (made plan attempt found).row.entries ≡ mark_words hand.next.items
  pub many : length (made plan attempt found).row.entries ≡ length hand.next.items
  pub replied : reply_for seat (made plan attempt found).made ≡ reply
  pub marks : attempt.row.entries ≡ entries_of hand.marks.items
  pub spelled : all_entry_words (entries_of hand.marks.items) ≡ mark_words hand.marks.items
  pub small : All IsSmallPair hand.items.items
  pub few_items : length hand.items.items ≤ plan.settings.items
  pub few : length hand.next.items ≤ length found

-- these are found of all seats before this one
pub record HasFound (first now : Going) (call : Call) (attempt : Try) (seat : ℕ) (hand : Hand)
    (reply : Option Reply) : Type 0 where
  pub found : List Found
  pub many : length found ≡ seat
  pub goes : now ≡ making first call (found_so_far first.plan first.seat first.now call attempt found)
  pub is_made : IsMade first.plan first.seat attempt found hand reply

-- this seat is looked at next
pub record IsFinding (now : Going) (call : Call) (seat : ℕ) (hand : Hand) : Type 0 where
  pub first : Going
  pub attempt : Try
  pub reply : Option Reply
  pub so_far : HasFound first now call attempt seat hand reply

-- its op is loaded next
pub record IsLoadingOp (now : Going) (call : Call) (seat : ℕ) : Type 0 where
  pub attempt : Try
  pub found : List Found
  pub announced : ℕ
  pub many : length found ≡ seat
  pub stand : now.now.stand ≡ Goes call (LoadOp attempt found announced [])

-- and was
abbrev pub HasLoadedOp : (first now : Going) (call : Call) (seat : ℕ) → IsLoadingOp first call seat → Call → Type 0
HasLoadedOp first now call seat l op =
    now ≡ making first call (found_so_far first.plan first.seat first.now call l.attempt
    (more l.found (Takes (record { number = number_in l.announced; call = op }))))

-- and is applied then
pub record IsTaking (now : Going) (call : Call) (seat word : ℕ) (hand : Hand) : Type 0 where
  pub first : Going
  pub attempt : Try
  pub found : List Found
  pub announced : ℕ
  pub reply : Option Reply
  pub many : length found ≡ seat
  pub goes : now ≡ making first call (On (LoadOp attempt found announced []))
  pub word_is : word ≡ seat + number_in announced * 2 ^ 6
  pub is_made : IsMade first.plan first.seat attempt found hand reply

-- ---- the own call

-- its entry, where it is announced
abbrev pub own_marks : (announced : Bool) (seat number : ℕ) → Reply → List Mark
own_marks announced seat number reply =
    if announced then record { word = seat + number * 2 ^ 6; reply = word_of_reply (Some reply) } ∷ [] else []

-- it is applied to the items at hand
pub record HasApplied (rules : Rules) (call : Call) (announced : Bool) (seat number : ℕ) (old new : Hand)
    (reply : Reply) : Type 0 where
  pub reply_is : reply ≡ reply_in rules old.items.items call
  pub items : new.items.items ≡ items_after rules old.items.items call
  pub marks : new.marks.items ≡ old.marks.items
  pub next : new.next.items ≡ old.next.items ++ own_marks announced seat number reply

-- ---- all seats

-- those before this one are looked at. As long as the own seat is not, there is no reply
pub record Finding (first now : Going) (call : Call) (attempt : Try) (announced : Bool) (seat : ℕ) (hand : Hand)
    (reply : Option Reply) : Type 0 where
  pub so_far : HasFound first now call attempt seat hand reply
  pub turn : is_announced attempt.turn ≡ announced
  pub fresh : seat ≤ first.seat → reply ≡ None

pub record IsFindingOne (now : Going) (call : Call) (announced : Bool) (seat : ℕ) (hand : Hand)
    (reply : Option Reply) : Type 0 where
  pub first : Going
  pub attempt : Try
  pub finds : Finding first now call attempt announced seat hand reply

-- none is looked at
pub record IsFindingAll (now : Going) (call : Call) (announced : Bool) (hand : Hand) : Type 0 where
  pub first : Going
  pub attempt : Try
  pub finds : Finding first now call attempt announced 0 hand None

-- all are, and the row is stored next
pub record HasFoundAll (first now : Going) (call : Call) (attempt : Try) (hand : Hand) (reply : Option Reply) : Type 0
  where
    pub found : List Found
    pub few : length found ≤ first.plan.settings.seats
    pub goes : now ≡ on first (Goes call (StoreRow attempt found 0))
    pub is_made : IsMade first.plan first.seat attempt found hand reply

-- what is pending is loaded next, after a row that is as it was loaded
pub record IsPending (now : Going) (call : Call) (announced : Bool) (hand : Hand) : Type 0 where
  pub attempt : Try
  pub stand : now.now.stand ≡ Goes call (LoadPending attempt)
  pub turn : is_announced attempt.turn ≡ announced
  pub items : attempt.row.items ≡ hand.items.items
  pub marks : attempt.row.entries ≡ entries_of hand.marks.items
  pub spelled : all_entry_words (entries_of hand.marks.items) ≡ mark_words hand.marks.items
  pub small : All IsSmallPair hand.items.items
  pub few_items : length hand.items.items ≤ now.plan.settings.items
