-- What a seat's worker needs and does.
use Rattle.std.specs.Prelude.{◌≡◌, ℕ, ◌+◌, ◌≤◌, ◌<◌, ◌^◌, List, [], ◌∷◌, ◌++◌, length, map, flat_map, All, Some}
use Rattle.plain_map.specs.declared.calls.Call.{Call}
use Rattle.plain_map.specs.Serving.{IsAskable}
use Rattle.map_laws.specs.ByKey.{Made}
use Rattle.lasting_model.specs.Plans.{MOST_UPDATES}
use Rattle.lasting_model.specs.Worlds.{Answer, BySeat, Event, IsRun}
use Rattle.lasting_table.specs.Parties.{PartyValue, own_answers}
use Rattle.lasting_table.specs.Calls.{IsIdle}
use Rattle.lasting_table.specs.Values.{IsPartyOf, IsSame, TableValue}
use Rattle.flow_laws.specs.FlowOrders.{call_told}
use Rattle.flow_workers.specs.declared.workers.FlowWorker.{FlowWorker}
use Rattle.flow_workers.specs.Counts.{AreBelow, counts_after}

-- the calls of these answers, each with its reply
abbrev pub told_in : List Answer → List Made
told_in answers = flat_map (λ (a : Answer). call_told a.asked a.told) answers

-- a seat of this table, which is between two calls, may make so many more: it has numbers for so many updates, and may
-- ask for so many holds
pub record CanMake (t : TableValue) (seat : PartyValue) (many : ℕ) : Type 0 where
  pub of : IsPartyOf t seat
  pub number : ℕ
  pub who : seat.holding.who ≡ BySeat number
  pub inside : number < t.plan.settings.seats
  pub run : IsRun seat.holding.plan seat.holding.known
  pub idle : IsIdle seat.holding
  pub updates : length (told_in (own_answers seat.holding)) + many ≤ MOST_UPDATES
  pub askings : length (own_answers seat.holding) + many ≤ 2 ^ 62

-- the seat made these calls, one after the other, and no others, and had these replies. It knows more of the run then
pub record HasMade (was now : PartyValue) (calls : List Call) (made : List Made) : Type 0 where
  pub same : IsSame was now
  pub asked : map (λ (one : Made). one.0) made ≡ calls
  pub later : List Event
  pub grown : now.holding.known ≡ was.holding.known ++ later
  pub run : IsRun now.holding.plan now.holding.known
  pub idle : IsIdle now.holding
  pub answers : List Answer
  pub own : own_answers now.holding ≡ own_answers was.holding ++ answers
  pub told : told_in answers ≡ made
  pub as_many : length answers ≡ length made

abbrev pub HasMadeOne : (was now : PartyValue) → Made → Type 0
HasMadeOne was now one = HasMade was now (one.0 ∷ []) (one ∷ [])

-- it has its seat and may make all its calls
pub record MayWork (t : TableValue) (w : FlowWorker) : Type 0 where
  pub seat : PartyValue
  pub has : w.seat ≡ Some seat
  pub can : CanMake t seat (length w.calls.items)
  pub askable : All IsAskable w.calls.items
  pub few : length w.calls.items < 2 ^ 32
  pub counts : AreBelow (2 ^ 62) w.replies

-- it has made all its calls, which it keeps, and has counted the replies
pub record HasWorked (was now : FlowWorker) : Type 0 where
  pub first : PartyValue
  pub last : PartyValue
  pub had : was.seat ≡ Some first
  pub has : now.seat ≡ Some last
  pub calls : now.calls ≡ was.calls
  pub made : List Made
  pub has_made : HasMade first last was.calls.items made
  pub counts : now.replies ≡ counts_after was.replies made
