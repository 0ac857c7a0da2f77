-- Placings that are reached by free turns, and what comes next in one.
use Rattle.std.specs.Prelude.{◌≡◌, ℕ, ◌≤◌, true, List, [], fold, Some, slice_get}
use Rattle.word_rows.specs.Shape.{Shape}
use Rattle.table_model.specs.declared.events.Event.{Event}
use Rattle.table_model.specs.Setup.{Setup}
use Rattle.table_model.specs.Worlds.{IsRun}
use Rattle.table_model.specs.Order.{Closing, Piece, Placing, calls_in, rank_of_calls, is_ready, choice, start_of, order_of}
use Rattle.table_model.specs.Turns.{AreFreeTurns}
use Rattle.table_model.specs.Histories.{closed}

-- the last of these placings, where the first comes before them
abbrev pub last_of : Placing → List Placing → Placing
last_of first placings = fold (λ before after. after) first placings

-- free turns lead from one placing to the other
pub record Leads (shape : Shape) (closing : Closing) (first last : Placing) : Type 0 where
  pub placings : List Placing
  pub turns : AreFreeTurns shape closing first placings
  pub ends : last ≡ last_of first placings

-- a placing that is reached from the start
abbrev pub Reaches : Shape → Closing → Placing → Type 0
Reaches shape closing = Leads shape closing (start_of shape closing)

-- where nothing is left its calls stand in the one order
abbrev pub ReachedIsTheOrder : Type 0
ReachedIsTheOrder =
    (setup : Setup) (events : List Event) (placing : Placing) → IsRun setup events →
    (let closing = closed setup events in
    Reaches setup.shape closing placing → placing.left ≡ [] → placing.order ≡ order_of setup.shape closing)

-- the rank of a piece: the first of its seats, and 0 where it has no calls
abbrev pub rank_in : Shape → Closing → Piece → ℕ
rank_in shape closing piece = rank_of_calls (calls_in shape closing piece)

-- a ready piece that is left at this place, such that each ready one has its rank or a greater one, and no other has
-- its rank
pub record IsFirst (shape : Shape) (closing : Closing) (placing : Placing) (at : ℕ) : Type 0 where
  pub piece : Piece
  pub left : slice_get placing.left at ≡ Some piece
  pub ready : is_ready shape closing placing piece ≡ true
  pub seat : rank_in shape closing piece ≤ shape.settings.seats
  pub least : (other : ℕ) (y : Piece) → slice_get placing.left other ≡ Some y →
      is_ready shape closing placing y ≡ true → rank_in shape closing piece ≤ rank_in shape closing y
  pub alone : (other : ℕ) (y : Piece) → slice_get placing.left other ≡ Some y →
      is_ready shape closing placing y ≡ true → rank_in shape closing y ≡ rank_in shape closing piece → at ≡ other

-- it comes next
abbrev pub FirstReadyIsChosen : Type 0
FirstReadyIsChosen =
    (setup : Setup) (closing : Closing) (placing : Placing) (at : ℕ) → IsFirst setup.shape closing placing at →
    choice setup.shape closing placing ≡ Some at
