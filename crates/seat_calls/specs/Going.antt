-- A call on its way, and where the words that it finds lead it.
use Rattle.std.specs.Prelude.{◌≡◌, ℕ, ◌+◌, ◌<◌, List, [], ◌∷◌, ◌++◌, length, fold, replicate, slice_index, nat_lt, if◌then◌else◌}
use Rattle.plain_map.specs.declared.records.Record.{Record}
use Rattle.step_counts.specs.declared.rows.SeatRows.{SeatRows}
use Rattle.plain_map.specs.declared.calls.Call.{Call}
use Rattle.table_model.specs.declared.events.Ask.{Ask}
use Rattle.table_model.specs.declared.events.Action.{Action}
use Rattle.table_model.specs.declared.events.Action.TheVariants as Act
use Rattle.table_model.specs.Setup.{Setup, seats_of}
use Rattle.table_model.specs.Phases.{Phase, SeeDone, StoreDone, Stuck}
use Rattle.table_model.specs.SeatStates.{Account, Flight, record_of}
use Rattle.table_model.specs.Asks.{ask_in, action_of}
use Rattle.table_model.specs.Goes.{phase_after, used_after, flight_after, after_seeing}
use Rattle.table_model.specs.Fits.{StepFits}

pub record Going : Type 0 where
  pub setup : Setup
  pub seat : ℕ
  pub account : Account
  pub flight : Flight
  pub phase : Phase

-- what the call asks for next
abbrev pub asks : Going → Ask
asks g = ask_in g.setup g.seat g.account.used g.flight g.phase

-- what is asked for, with words by their numbers
abbrev pub action : Going → Action
action g = action_of g.setup.shape (asks g)

-- after the word that was found
abbrev pub goes : Going → (word : ℕ) → Going
goes g word = record {
  setup = g.setup;
  seat = g.seat;
  account = record g.account { used = used_after g.setup g.account.used g.phase word };
  flight = flight_after g.flight g.phase word;
  phase = phase_after g.setup g.seat g.account.used g.flight g.phase word;
}

-- after these words
abbrev pub goes_by : Going → List ℕ → Going
goes_by g words = fold goes g words

-- the step is one that a run may take, and finds what a table holds
abbrev pub Fits : Going → (word : ℕ) → Type 0
Fits g word = StepFits g.setup g.seat g.account.used g.flight g.phase word

-- each of these steps is
abbrev pub AllFit : Going → List ℕ → Type 0
AllFit g [] = Unit {0}
AllFit g (word ∷ words) = Fits g word × AllFit (goes g word) words

-- the next n steps load words one after the other, whatever they find
abbrev pub Reads : Going → (start n : ℕ) → Type 0
Reads g start n = (words : List ℕ) → length words < n → action (goes_by g words) ≡ Act.Load (start + length words)

-- a store that does not end the call
abbrev pub IsGoing : Phase → Type 0
IsGoing (StoreDone reply place) = ⊥
IsGoing phase = Unit {0}

-- the call has a next step
abbrev pub IsOpen : Phase → Type 0
IsOpen Stuck = ⊥
IsOpen phase = Unit {0}

-- the next steps store these words one after the other
abbrev pub Writes : Going → (start : ℕ) → List ℕ → Type 0
Writes g start row =
    (i : ℕ) → i < length row →
    (action (goes_by g (replicate i 0)) ≡ Act.Store (start + i) (slice_index row i))
    × IsGoing (goes_by g (replicate i 0)).phase

-- the record with which the last step ends the call
abbrev pub IsMade : Going → Record → Type 0
IsMade g made = (g.phase ≡ StoreDone made.reply made.place) × (made ≡ record_of g.seat g.flight made.reply made.place)

-- the call in another phase
abbrev pub on : Going → Phase → Going
on g phase = record { setup = g.setup; seat = g.seat; account = g.account; flight = g.flight; phase = phase }

-- so many steps later, with nothing published
abbrev pub later : Going → (steps : ℕ) → Phase → Going
later g steps phase = record {
  setup = g.setup;
  seat = g.seat;
  account = g.account;
  flight = record g.flight { steps = g.flight.steps + steps };
  phase = phase;
}

-- after these done words
abbrev pub seeing : Going → List ℕ → Phase → Going
seeing g seen phase = record {
  setup = g.setup;
  seat = g.seat;
  account = g.account;
  flight = record g.flight { seen = seen; steps = g.flight.steps + length seen };
  phase = phase;
}

-- a family of states, by the words found so far: the first n steps load words one after the other
pub record Leads (family : List ℕ → Going) (start n : ℕ) : Type 0 where
  pub asked : (words : List ℕ) → length words < n → action (family words) ≡ Act.Load (start + length words)
  pub next : (words : List ℕ) (word : ℕ) → length words < n → goes (family words) word ≡ family (words ++ word ∷ [])

-- the phase while the words are short, and then
abbrev pub so_far : (n : ℕ) → (short whole : List ℕ → Phase) → List ℕ → Phase
so_far n short whole words = if nat_lt (length words) n then short words else whole words

-- the done words
abbrev pub seen_so_far : Going → List ℕ → Going
seen_so_far g words = seeing g words (so_far (seats_of g.setup) (λ _. SeeDone) (λ _. after_seeing g.flight) words)

-- the call has begun, and taken no step
pub record Begins (g : Going) (packet number : ℕ) (call : Call) : Type 0 where
  pub flight : g.flight ≡ record { packet = packet; call = call; number = number; seen = []; steps = 0 }
  pub phase : g.phase ≡ SeeDone

-- so many steps later, with this much published
abbrev pub went : Going → SeatRows → (steps : ℕ) → Phase → Going
went g used steps phase = record {
  setup = g.setup;
  seat = g.seat;
  account = record g.account { used = used };
  flight = record g.flight { steps = g.flight.steps + steps };
  phase = phase;
}
