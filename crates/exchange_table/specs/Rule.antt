-- The rule of the running table, and what a step tells.
use Rattle.std.specs.Prelude.{◌≡◌, ℕ, zero, suc, ◌≤◌, List, [], ◌∷◌, ◌++◌, length}
use mathlib.Core.Option.{some}
use lib.ListN.{get_elem?}
use Rattle.atomic_table.specs.Table.{State, Me, Step}
use Rattle.exchange_model.specs.Plans.{Plan, holders_of}
use Rattle.exchange_model.specs.Words.{word_count}
use Rattle.exchange_model.specs.Steps.{Idle}
use Rattle.exchange_model.specs.Goes.{Asked, Copied}
use Rattle.exchange_model.specs.Worlds.{Answer, Asker, BySeat, ByReader, Event, IsRun, world_after}
use Rattle.exchange_calls.specs.Going.{Fits, goes}
use Rattle.exchange_opening.specs.Openings.{HasWords, plan_of}
use Rattle.exchange_table.specs.declared.view.View.{View}
use Rattle.exchange_table.specs.declared.rule.Opening.{Opening}
use Rattle.exchange_table.specs.Parties.{Holding, HasNone, IsParty, UnderIn, begin_at, begin_of, going_of, own_answers, party, started, step_of}

-- what a table was opened with, as the definitions see it
abbrev pub plain : Opening → Plan
plain opening = plan_of opening.sizes opening.hashing

-- a call that stands where none is being made
abbrev pub no_call : Asked
no_call = Copied 0

-- ---- what is known

-- a seat stands in the view that has it, and a reader in that of its number
abbrev pub StandsIn : (seat_at : ℕ → ℕ) (view : ℕ) → Asker → Type 0
StandsIn seat_at view (BySeat q) = seat_at q ≡ view
StandsIn seat_at view (ByReader r) = r ≡ view

-- the events begin with those that it knows, and no later one has changed it
pub record IsOfRun (plan : Plan) (events : List Event) (seat_at : ℕ → ℕ) (view : ℕ) (h : Holding) : Type 0 where
  pub opened : h.plan ≡ plan
  pub inside : IsParty plan h.who
  pub stands : StandsIn seat_at view h.who
  pub later : List Event
  pub known : events ≡ h.known ++ later
  pub none : HasNone h.who later
  pub state : party (world_after plan events) h.who ≡ party (world_after plan h.known) h.who

-- all in a list
abbrev pub Each : (Holding → Type 0) → List Holding → Type 0
Each P [] = Unit {0}
Each P (h ∷ hs) = P h × Each P hs

-- no two in a list are one party
abbrev pub Apart : List Holding → Type 0
Apart [] = Unit {0}
Apart (h ∷ hs) = Each (λ k. k.who ≡ h.who → ⊥) hs × Apart hs

-- the rule: there is a run that left these words, and all views are of it. A reader without a view rests
pub record Holds (plan : Plan) (s : State (Unit {0}) View) : Type 0 where
  pub events : List Event
  pub run : IsRun plan events
  pub long : length s.words ≡ word_count plan
  pub words : HasWords plan s.words (world_after plan events).store
  pub seat_at : ℕ → ℕ
  pub of_run : (id : ℕ) (v : View) → get_elem? s.views id ≡ some v → Each (IsOfRun plan events seat_at id) v.bundle
  pub apart : (id : ℕ) (v : View) → get_elem? s.views id ≡ some v → Apart v.bundle
  pub rest : (r : ℕ) → length s.views ≤ r → (party (world_after plan events) (ByReader r)).stand ≡ Idle

-- ---- what a step tells

-- what a token knows
abbrev pub M : Type 0
M = Me (Unit {0}) View

-- the view of one party alone
abbrev pub lone : Holding → View
lone h = record { bundle = h ∷ [] }

abbrev pub alone : Holding → M
alone h = (lone h, [])

-- what it knows after its step: the begin of its call, if it stood between two calls, and the step
abbrev pub known_after : Asked → (tries : ℕ) → Holding → (before : List Event) → List Event
known_after asked tries h before =
    (before ++ begin_at (party (world_after h.plan h.known) h.who).stand (begin_of h.who asked tries))
    ++ step_of h.who ∷ []

abbrev pub after_step : Asked → (tries : ℕ) → Holding → (before : List Event) → Holding
after_step asked tries h before = record h { known = known_after asked tries h before }

-- the step of a party, which found this word
pub record Stepped (asked : Asked) (tries : ℕ) (h : Holding) (word : ℕ) (m : M) : Type 0 where
  pub before : List Event
  pub later : List Event
  pub grew : before ≡ h.known ++ later
  pub is : m ≡ alone (after_step asked tries h before)
  pub run : IsRun h.plan (known_after asked tries h before)
  pub goes_to : going_of (after_step asked tries h before) ≡ goes (started asked tries h) word
  pub fits : Fits (started asked tries h) word
  -- a call that begins now began after all that was known
  pub first : (start : ℕ) → start ≤ length h.known → (party (world_after h.plan h.known) h.who).stand ≡ Idle →
      UnderIn h.who asked start (own_answers h) (world_after h.plan (known_after asked tries h before))
  pub on : (start : ℕ) (had : List Answer) → UnderIn h.who asked start had (world_after h.plan h.known) →
      ((party (world_after h.plan h.known) h.who).stand ≡ Idle → ⊥) →
      UnderIn h.who asked start had (world_after h.plan (known_after asked tries h before))

-- a token of one party knows its step then
abbrev pub Moved : Asked → (tries : ℕ) → M → (word : ℕ) → M → Type 0
Moved asked tries m word w = (h : Holding) → m ≡ alone h → Stepped asked tries h word w

abbrev pub acted : Asked → (tries : ℕ) → Step (Unit {0}) → M → ℕ → M → Type 0
acted asked tries st m n w = Moved asked tries m n w

-- a store finds nothing
abbrev pub stored : Asked → (tries : ℕ) → Step (Unit {0}) → M → ℕ → M → Type 0
stored asked tries st m n w = Moved asked tries m 0 w

-- ---- the seats, and readers

-- who can hold and has made no call
abbrev pub fresh : Plan → (seat : ℕ) → Holding
fresh plan seat = record { plan = plan; who = BySeat seat; known = [] }

-- so many from one on
abbrev pub fresh_from : Plan → (seat many : ℕ) → List Holding
fresh_from plan seat zero = []
fresh_from plan seat (suc many) = fresh plan seat ∷ fresh_from plan (suc seat) many

-- the view of all seats, and of the readers that can hold behind them
abbrev pub whole : Plan → View
whole plan = record { bundle = fresh_from plan 0 (holders_of plan.settings) }

-- cutting the first seat off a view: what stays, and what goes
abbrev pub tail_of : List Holding → List Holding
tail_of [] = []
tail_of (h ∷ hs) = hs

abbrev pub head_of : List Holding → List Holding
head_of [] = []
head_of (h ∷ hs) = h ∷ []

abbrev pub others : View → View
others v = record { bundle = tail_of v.bundle }

abbrev pub foremost : View → View
foremost v = record { bundle = head_of v.bundle }

-- the first of the holdings, or this one
abbrev pub first_or : Holding → List Holding → Holding
first_or d [] = d
first_or d (h ∷ hs) = h

-- a new reader of the table that was opened as the holdings of this view say knows a run of it, and rests
pub record Entered (m then : M) : Type 0 where
  pub reader : ℕ
  pub plan : Plan
  pub known : List Event
  pub run : IsRun plan known
  pub opened : (d : Holding) → plan ≡ (first_or d m.0.bundle).plan
  pub rests : (party (world_after plan known) (ByReader reader)).stand ≡ Idle
  pub is : then ≡ alone (record { plan = plan; who = ByReader reader; known = known })

-- whatever it found
abbrev pub entered : Step (Unit {0}) → M → ℕ → M → Type 0
entered st m n then = Entered m then
