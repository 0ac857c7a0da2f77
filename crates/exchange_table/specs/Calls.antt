-- A call on its way on the table's words.
use Rattle.std.specs.Prelude.{◌≡◌, ℕ, zero, List, [], ◌∷◌, ◌++◌, length, Some, None}
use Rattle.atomic_table.specs.Seated.{TableId}
use Rattle.atomic_table.specs.declared.shared.Seat.{Seat}
use Rattle.plain_map.specs.Updates.{IsUpdate}
use Rattle.exchange_model.specs.Words.{word_count}
use Rattle.exchange_model.specs.Steps.{Idle}
use Rattle.exchange_model.specs.Goes.{Asked, Called, Told, Refused}
use Rattle.exchange_model.specs.Worlds.{BySeat, Event, IsRun, world_after}
use Rattle.exchange_calls.specs.Going.{Going}
use Rattle.exchange_table.specs.declared.view.View.{View}
use Rattle.exchange_table.specs.declared.rule.Opening.{Opening}
use Rattle.exchange_table.specs.declared.stage.Stage.{Stage}
use Rattle.exchange_table.specs.declared.stage.Stage.TheVariants.{Rests, Begun, Runs}
use Rattle.exchange_table.specs.Parties.{CanCall, Holding, PartyValue, IsAnswered, IsParty, UnderIn, begun, going_of, own_answers, party}
use Rattle.exchange_table.specs.Rule.{M, alone, first_or, plain}

-- the token of a party of this table
abbrev pub Token : Type 0
Token = Seat (Unit {0}) View

-- what contracts see of a call on its way
pub record RunningValue : Type 0 where
  pub table_id : TableId
  pub holding : Holding
  pub stage : Stage

-- the holding of a token of one party
abbrev pub holding_of : Opening → M → Holding
holding_of key me = first_or (record { plan = plain key; who = BySeat 0; known = [] }) me.0.bundle

abbrev pub running_value : Opening → Token → Stage → RunningValue
running_value key token stage =
    record { table_id = token.table_id; holding = holding_of key token.me; stage = stage }

-- what was told last is not looked at any more
abbrev pub untold : Going → Going
untold g = record g { told = None }

-- where the call stands. It begins in the run with its first step
abbrev pub now_at : Asked → (tries : ℕ) → Stage → Going → Going
now_at asked tries Rests g = untold g
now_at asked tries Begun g = begun asked tries g
now_at asked tries Runs g = g

abbrev pub now_of : Asked → (tries : ℕ) → RunningValue → Going
now_of asked tries v = now_at asked tries v.stage (going_of v.holding)

-- a call with no tries is an update
abbrev pub IsFitting : Asked → (tries : ℕ) → Type 0
IsFitting (Called call) zero = IsUpdate call
IsFitting asked tries = Unit {0}

-- no call was made yet
abbrev pub IsNotMade : Stage → Type 0
IsNotMade Rests = Unit {0}
IsNotMade Begun = ⊥
IsNotMade Runs = ⊥

-- it was made for this call, and for one alone
pub record MayAsk (asked : Asked) (tries : ℕ) (stage : Stage) (a : Asked) (t : ℕ) : Type 0 where
  pub call_is : a ≡ asked
  pub tries_are : t ≡ tries
  pub fitting : IsFitting a t
  pub first : IsNotMade stage

-- a holding stands between two calls
abbrev pub IsIdle : Holding → Type 0
IsIdle h = (party (world_after h.plan h.known) h.who).stand ≡ Idle

-- how far the call is
abbrev pub AtStage : Asked → (tries : ℕ) → (first now : Holding) → Stage → Type 0
AtStage asked tries first now Rests = IsIdle now × (now ≡ first)
AtStage asked tries first now Begun =
    IsIdle now × CanCall now.plan now.who (party (world_after now.plan now.known) now.who) asked tries
    × (now ≡ first)
AtStage asked tries first now Runs =
    UnderIn now.who asked (length first.known) (own_answers first) (world_after now.plan now.known)

-- it goes on from this holding
pub record GoesOn (first now : Holding) : Type 0 where
  pub plan : now.plan ≡ first.plan
  pub who : now.who ≡ first.who
  pub later : List Event
  pub grown : now.known ≡ first.known ++ later

-- the token is that of one party of the table, and the call goes on from what it began with
pub record IsRunning (asked : Asked) (tries : ℕ) (since : List PartyValue) (key : Opening) (table_id : TableId)
    (token : Token) (stage : Stage) : Type 0 where
  pub table : token.table_id ≡ table_id
  pub size : table_id.words ≡ word_count (plain key)
  pub one : token.me ≡ alone (holding_of key token.me)
  pub opened : (holding_of key token.me).plan ≡ plain key
  pub run : IsRun (holding_of key token.me).plan (holding_of key token.me).known
  pub inside : IsParty (holding_of key token.me).plan (holding_of key token.me).who
  pub first : PartyValue
  pub is : since ≡ first ∷ []
  pub of_table : table_id ≡ first.table_id
  pub goes_on : GoesOn first.holding (holding_of key token.me)
  pub at : AtStage asked tries first.holding (holding_of key token.me) stage

-- the call was answered with this and no other one was, and the party stands between two calls again
pub record HasAnswer (asked : Asked) (first now : Holding) (told : Told) : Type 0 where
  pub goes_on : GoesOn first now
  pub run : IsRun now.plan now.known
  pub idle : IsIdle now
  pub answered : IsAnswered now.who asked (length first.known) (own_answers first)
      (world_after now.plan now.known).answers
  pub told_is : answered.answer.told ≡ told

-- where it tells something, it was answered with that
abbrev pub HasEnded : Asked → (tries : ℕ) → List PartyValue → RunningValue → Type 0
HasEnded asked tries since v =
    (first : PartyValue) → since ≡ first ∷ [] → (told : Told) → (now_of asked tries v).told ≡ Some told →
    (told ≡ Refused → ⊥) → (now_of asked tries v).now.stand ≡ Idle →
    HasAnswer asked first.holding v.holding told × (now_of asked tries v ≡ going_of v.holding)
    × (v.table_id ≡ first.table_id)

-- where it tells nothing, and no call is under way, none was made
abbrev pub HasWaited : Asked → (tries : ℕ) → List PartyValue → RunningValue → Type 0
HasWaited asked tries since v =
    (first : PartyValue) → since ≡ first ∷ [] → (now_of asked tries v).told ≡ None →
    (now_of asked tries v).now.stand ≡ Idle → (v.holding ≡ first.holding) × (v.table_id ≡ first.table_id)
