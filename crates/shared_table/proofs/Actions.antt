-- What the action that a call is seen to ask for says of its ask, and which phases ask so.
use Rattle.std.proofs.Common.{◌≡◌, ℕ, Bool, true, false, cond, refl, sym, ap, subst}
use Rattle.step_counts.specs.declared.rows.SeatRows.{SeatRows}
use Rattle.word_rows.specs.Shape.{Shape}
use Rattle.word_rows.specs.declared.addresses.Address.{Address}
use Rattle.word_rows.specs.Places.{place}
use Rattle.table_model.specs.declared.events.Ask.{Ask}
use Rattle.table_model.specs.declared.events.Ask.TheVariants as A
use Rattle.table_model.specs.declared.events.Action.{Action}
use Rattle.table_model.specs.declared.events.Action.TheVariants as Act
use Rattle.table_model.specs.Setup.{Setup}
use Rattle.table_model.specs.Asks.{action_of, ask_in}
use Rattle.table_model.specs.Phases.{Phase, SeeDone, StoreOp, Announce, FindRoot, FindDepth, FindEntry, LookWord, LookCount, LookItems, TryWord, TryRow, TryAnnouncement, TryOp, TryStore, TryExchange, DirRoot, DirDepth, DirEntries, DirAnnouncement, DirOp, DirWord, DirRow, DirStore, DirExchange, LastWord, LastRow, StoreDone, Stuck}
use Rattle.table_model.specs.SeatStates.{Account, Flight, InFlight}
use Rattle.table_model.specs.Goes.{state_after, phase_after, used_after, flight_after}
use Rattle.seat_calls.specs.Going.{Going, IsGoing, IsOpen, action, on}

-- which action it is, and its word
abbrev IsLoad : Action → Type 0
IsLoad (Act.Load n) = Unit {0}
IsLoad (Act.Store n word) = ⊥
IsLoad (Act.Exchange n old new) = ⊥
IsLoad Act.Finished = ⊥

-- it is a store
abbrev IsStore : Action → Type 0
IsStore (Act.Load n) = ⊥
IsStore (Act.Store n word) = Unit {0}
IsStore (Act.Exchange n old new) = ⊥
IsStore Act.Finished = ⊥

-- it is an exchange
abbrev IsExchange : Action → Type 0
IsExchange (Act.Load n) = ⊥
IsExchange (Act.Store n word) = ⊥
IsExchange (Act.Exchange n old new) = Unit {0}
IsExchange Act.Finished = ⊥

-- its word
abbrev word_of : Action → ℕ
word_of (Act.Load n) = n
word_of (Act.Store n word) = n
word_of (Act.Exchange n old new) = n
word_of Act.Finished = 0

-- its first value: what is stored, or what an exchange looks for
abbrev first_of : Action → ℕ
first_of (Act.Load n) = 0
first_of (Act.Store n word) = word
first_of (Act.Exchange n old new) = old
first_of Act.Finished = 0

-- its second value: what an exchange puts
abbrev second_of : Action → ℕ
second_of (Act.Load n) = 0
second_of (Act.Store n word) = 0
second_of (Act.Exchange n old new) = new
second_of Act.Finished = 0

-- the ask is a load of the address whose word this is
pub record Loads (shape : Shape) (a : Ask) (at : ℕ) : Type 0 where
  pub from : Address
  pub ask : a ≡ A.Load from
  pub is : at ≡ place shape from

-- the ask is a store of this value to the address whose word this is
pub record Stores (shape : Shape) (a : Ask) (at word : ℕ) : Type 0 where
  pub to : Address
  pub ask : a ≡ A.Store to word
  pub is : at ≡ place shape to

-- the ask is an exchange of these values at the address whose word this is
pub record Exchanges (shape : Shape) (a : Ask) (at old new : ℕ) : Type 0 where
  pub to : Address
  pub ask : a ≡ A.Exchange to old new
  pub is : at ≡ place shape to

-- an ask that acts as a load is a load
pub loads_from : (shape : Shape) (a : Ask) (at : ℕ) → action_of shape a ≡ Act.Load at → Loads shape a at
loads_from shape A.Nothing at e = absurd (subst IsLoad (sym e) tt)
loads_from shape (A.Load from) at e = record { from = from; ask = refl; is = sym (ap word_of e) }
loads_from shape (A.Store to word) at e = absurd (subst IsLoad (sym e) tt)
loads_from shape (A.Exchange to old new) at e = absurd (subst IsLoad (sym e) tt)

-- an ask that acts as a store is a store
pub stores_to : (shape : Shape) (a : Ask) (at word : ℕ) → action_of shape a ≡ Act.Store at word → Stores shape a at word
stores_to shape A.Nothing at word e = absurd (subst IsStore (sym e) tt)
stores_to shape (A.Load from) at word e = absurd (subst IsStore (sym e) tt)
stores_to shape (A.Store to w) at word e = record {
  to = to;
  ask = ap (A.Store to) (ap first_of e);
  is = sym (ap word_of e);
}
stores_to shape (A.Exchange to old new) at word e = absurd (subst IsStore (sym e) tt)

-- an ask that acts as an exchange is an exchange
pub exchanges_to : (shape : Shape) (a : Ask) (at old new : ℕ) → action_of shape a ≡ Act.Exchange at old new →
    Exchanges shape a at old new
exchanges_to shape A.Nothing at old new e = absurd (subst IsExchange (sym e) tt)
exchanges_to shape (A.Load from) at old new e = absurd (subst IsExchange (sym e) tt)
exchanges_to shape (A.Store to w) at old new e = absurd (subst IsExchange (sym e) tt)
exchanges_to shape (A.Exchange to o n) at old new e =
    record { to = to; ask = λ i. A.Exchange to (ap first_of e i) (ap second_of e i); is = sym (ap word_of e) }

-- a call that has ended asks for nothing
abbrev pub IsAct : Action → Type 0
IsAct (Act.Load n) = Unit {0}
IsAct (Act.Store n word) = Unit {0}
IsAct (Act.Exchange n old new) = Unit {0}
IsAct Act.Finished = ⊥

-- a call that asks for an action has not ended
pub still : (done : Bool) (g : Going) (x : Action) → IsAct x → action (cond done (on g Stuck) g) ≡ x → done ≡ false
still true g x act e = absurd (subst IsAct (sym e) act)
still false g x act e = refl

-- a call whose phase is open has not ended
pub still_open : (done : Bool) (g : Going) → IsOpen (cond done (on g Stuck) g).phase → done ≡ false
still_open true g opened = absurd opened
still_open false g opened = refl

-- the state after a step that does not end the call
pub goes_state : (setup : Setup) (seat : ℕ) (account : Account) (flight : Flight) (word : ℕ) (phase : Phase) →
    IsGoing phase → IsOpen phase →
    state_after setup seat account flight phase word ≡ record {
      account = record account { used = used_after setup account.used phase word };
      stand = InFlight (flight_after flight phase word) (phase_after setup seat account.used flight phase word);
    }
goes_state setup seat account flight word SeeDone going opened = refl
goes_state setup seat account flight word (StoreOp stored) going opened = refl
goes_state setup seat account flight word Announce going opened = refl
goes_state setup seat account flight word (FindRoot aim) going opened = refl
goes_state setup seat account flight word (FindDepth aim root) going opened = refl
goes_state setup seat account flight word (FindEntry aim root depth) going opened = refl
goes_state setup seat account flight word (LookWord root bucket) going opened = refl
goes_state setup seat account flight word (LookCount row) going opened = refl
goes_state setup seat account flight word (LookItems row count words) going opened = refl
goes_state setup seat account flight word (TryWord round turn first) going opened = refl
goes_state setup seat account flight word (TryRow round turn first row words) going opened = refl
goes_state setup seat account flight word (TryAnnouncement round attempt found) going opened = refl
goes_state setup seat account flight word (TryOp round attempt found op words) going opened = refl
goes_state setup seat account flight word (TryStore round attempt found stored) going opened = refl
goes_state setup seat account flight word (TryExchange round attempt found) going opened = refl
goes_state setup seat account flight word (DirRoot round turn first) going opened = refl
goes_state setup seat account flight word (DirDepth round turn first root) going opened = refl
goes_state setup seat account flight word (DirEntries round turn first root depth words) going opened = refl
goes_state setup seat account flight word (DirAnnouncement round attempt found) going opened = refl
goes_state setup seat account flight word (DirOp round attempt found op words) going opened = refl
goes_state setup seat account flight word (DirWord round attempt found loaded bucket) going opened = refl
goes_state setup seat account flight word (DirRow round attempt found loaded bucket row words) going opened = refl
goes_state setup seat account flight word (DirStore round attempt found loaded stored) going opened = refl
goes_state setup seat account flight word (DirExchange round attempt found loaded) going opened = refl
goes_state setup seat account flight word (LastWord root bucket) going opened = refl
goes_state setup seat account flight word (LastRow row words) going opened = refl
goes_state setup seat account flight word (StoreDone reply place) going opened = absurd going
goes_state setup seat account flight word Stuck going opened = absurd opened

-- which of the phases ask so
abbrev pub AskLoads : Ask → Type 0
AskLoads A.Nothing = ⊥
AskLoads (A.Load from) = Unit {0}
AskLoads (A.Store to word) = ⊥
AskLoads (A.Exchange at old new) = ⊥

-- the ask is a store
abbrev pub AskStores : Ask → Type 0
AskStores A.Nothing = ⊥
AskStores (A.Load from) = ⊥
AskStores (A.Store to word) = Unit {0}
AskStores (A.Exchange at old new) = ⊥

-- the ask is an exchange
abbrev pub AskExchanges : Ask → Type 0
AskExchanges A.Nothing = ⊥
AskExchanges (A.Load from) = ⊥
AskExchanges (A.Store to word) = ⊥
AskExchanges (A.Exchange at old new) = Unit {0}

-- a phase that loads does not end the call
pub load_goes : (setup : Setup) (seat : ℕ) (used : SeatRows) (flight : Flight) (phase : Phase) →
    AskLoads (ask_in setup seat used flight phase) → IsGoing phase × IsOpen phase
load_goes setup seat used flight (StoreDone reply place) e = absurd e
load_goes setup seat used flight Stuck e = absurd e
load_goes setup seat used flight phase e = (tt, tt)

-- nor does one that exchanges
pub exchange_goes : (setup : Setup) (seat : ℕ) (used : SeatRows) (flight : Flight) (phase : Phase) →
    AskExchanges (ask_in setup seat used flight phase) → IsGoing phase × IsOpen phase
exchange_goes setup seat used flight (StoreDone reply place) e = absurd e
exchange_goes setup seat used flight Stuck e = absurd e
exchange_goes setup seat used flight phase e = (tt, tt)

-- a phase that stores is open
pub store_open : (setup : Setup) (seat : ℕ) (used : SeatRows) (flight : Flight) (phase : Phase) →
    AskStores (ask_in setup seat used flight phase) → IsOpen phase
store_open setup seat used flight Stuck e = absurd e
store_open setup seat used flight phase e = tt
