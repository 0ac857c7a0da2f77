-- The promises about the order of a closed table on which a fast way to it rests: in whatever turn the pieces without
-- calls are placed, the calls come in the same order, and of the others no two that are ready have calls of one seat.
use Rattle.std.specs.Prelude.{◌≡◌, ℕ, ◌==◌, ◌⊎◌, Bool, true, List, [], ◌∷◌, fold, Some, slice_get}
use Rattle.std.specs.List.{list_any}
use Rattle.word_rows.specs.Shape.{Shape}
use Rattle.plain_map.specs.History.{Placed, seat_of}
use Rattle.table_model.specs.declared.events.Event.{Event}
use Rattle.table_model.specs.Setup.{Setup}
use Rattle.table_model.specs.Worlds.{IsRun}
use Rattle.table_model.specs.Order.{Piece, Closing, Placing, calls_in, start_of, is_ready, choice, place_piece, place_all, order_of}
use Rattle.table_model.specs.Histories.{closed}

-- how far the order is after so many turns
abbrev pub placing_after : Shape → Closing → (turns : ℕ) → Placing
placing_after shape closing turns = place_all shape closing turns (start_of shape closing)

-- one of these calls is the seat's
abbrev pub has_call_of : (seat : ℕ) → List Placed → Bool
has_call_of seat calls = list_any (λ placed. seat_of placed == seat) calls

-- a piece that is left at this place, is ready and has a call of the seat
pub record IsReadyFor (shape : Shape) (closing : Closing) (placing : Placing) (seat at : ℕ) : Type 0 where
  pub piece : Piece
  pub left : slice_get placing.left at ≡ Some piece
  pub ready : is_ready shape closing placing piece ≡ true
  pub call : has_call_of seat (calls_in shape closing piece) ≡ true

-- there is at most one for each seat
abbrev pub OneIsReady : Type 0
OneIsReady =
    (setup : Setup) (events : List Event) (turns seat at other : ℕ) → IsRun setup events →
    (let closing = closed setup events in
    let placing = placing_after setup.shape closing turns in
    IsReadyFor setup.shape closing placing seat at → IsReadyFor setup.shape closing placing seat other → at ≡ other)

-- a turn in which any ready piece without calls is placed, or the one that comes next
pub record IsFreeTurn (shape : Shape) (closing : Closing) (before after : Placing) : Type 0 where
  pub at : ℕ
  pub piece : Piece
  pub left : slice_get before.left at ≡ Some piece
  pub ready : is_ready shape closing before piece ≡ true
  pub free : (calls_in shape closing piece ≡ []) ⊎ (choice shape closing before ≡ Some at)
  pub placed : after ≡ place_piece shape closing before at (Some piece)

-- such turns, one after the other
abbrev pub AreFreeTurns : Shape → Closing → Placing → List Placing → Type 0
AreFreeTurns shape closing before [] = Unit {0}
AreFreeTurns shape closing before (after ∷ later) =
    IsFreeTurn shape closing before after × AreFreeTurns shape closing after later

-- wherever they end with nothing left, the calls stand in the one order
abbrev pub TurnsDoNotMatter : Type 0
TurnsDoNotMatter =
    (setup : Setup) (events : List Event) (placings : List Placing) → IsRun setup events →
    (let closing = closed setup events in
    let last = fold (λ before after. after) (start_of setup.shape closing) placings in
    AreFreeTurns setup.shape closing (start_of setup.shape closing) placings → last.left ≡ [] →
    last.order ≡ order_of setup.shape closing)
