-- How a try goes.
use Rattle.std.specs.Prelude.{◌≡◌, ℕ, ◌≤◌, List, length, Option, Some, None}
use Rattle.plain_map.specs.declared.calls.Call.{Call}
use Rattle.plain_map.specs.declared.calls.Reply.{Reply}
use Rattle.exchange_model.specs.Codes.{row_in}
use Rattle.exchange_model.specs.Steps.{Found, Goes, StoreRow, Try}
use Rattle.exchange_model.specs.Goes.{ends_with, exchanged, is_announced, lost}
use Rattle.exchange_calls.specs.Going.{Going}
use Rattle.exchange_calls.specs.Found.{IsMade}
use Rattle.exchange_calls.specs.Hands.{making}
use Rattle.exchange_calls.specs.OwnRowsView.{free_of, kept_of}
use Rattle.exchange_calls.specs.declared.hand.Hand.{Hand}
use Rattle.exchange_calls.specs.declared.own_rows.OwnRows.{OwnRows}

-- these are the rows of the seat
pub record AreRowsOf (g : Going) (rows : OwnRows) : Type 0 where
  pub free : free_of rows ≡ g.now.free
  pub kept : kept_of rows ≡ g.now.kept

-- the new row is at hand, and is stored next
pub record IsPutting (g : Going) (call : Call) (word : ℕ) (hand : Hand) (reply : Option Reply) : Type 0 where
  pub attempt : Try
  pub found : List Found
  pub word_is : attempt.word ≡ word
  pub few : length found ≤ g.plan.settings.seats
  pub stand : g.now.stand ≡ Goes call (StoreRow attempt found 0)
  pub is_made : IsMade g.plan g.seat attempt found hand reply

-- the first free row stands in the bucket's word in place of this word's
abbrev pub swapped : Going → (word : ℕ) → Going
swapped g word = record g { now = exchanged g.now (row_in g.plan word) }

-- it does, or the exchange was lost
abbrev pub HasPut : (first now : Going) → Call → (word turn : ℕ) → OwnRows → Option Reply → Type 0
HasPut first now call word turn rows (Some reply) =
    (now ≡ making (swapped first word) call (ends_with (is_announced turn) (Some reply)))
    × AreRowsOf (swapped first word) rows
HasPut first now call word turn rows None = (now ≡ making first call (lost turn)) × AreRowsOf first rows
