-- The rule: there is a list of events that leads from the opening to the table's words, and each seat's state stands in
-- one view. Each step of a seat adds one event; cutting and joining views adds none.
use Rattle.std.specs.Prelude.{◌≡◌, ℕ, zero, suc, ◌+◌, ◌<◌, ◌==◌, nat_lt, if◌then◌else◌, true, false, List, [], ◌∷◌, ◌++◌, length}
use mathlib.Core.Option.{some}
use lib.ListN.{get_elem?}
use Rattle.atomic_table.specs.Table.{State, Me, Step}
use Rattle.sim_steps.specs.declared.adds.Add.{Add}
use Rattle.sim_steps.specs.declared.adds.Added.{Added}
use Rattle.sim_steps.specs.declared.words.Ask.{Ask}
use Rattle.sim_steps.specs.Layout.{Settings, AreSettings, seats_of, desk_of}
use Rattle.sim_steps.specs.Program.{Seat, Idle, is_idle, ready, resting, next_in, seat_after}
use Rattle.sim_steps.specs.Machine.{Machine}
use Rattle.sim_steps.specs.World.{Event, AreSteps, can_act, seat_in, world_after}
use Rattle.sim_steps.specs.Laws.{events_of}
use Rattle.sim_totals.specs.declared.view.View.{View}
use Rattle.sim_totals.specs.declared.rule.Plan.{Plan}

-- the settings that a plan stands for
abbrev pub plain : Plan → Settings
plain plan = record { adds = plan.adds.items; first = plan.first }

-- an add that nobody makes
abbrev pub no_add : Add
no_add = record { packet = 0; class = 0; length = 0 }

-- a seat's number, its state, and the events that it has seen
abbrev pub Entry : Type 0
Entry = ℕ × Seat × List Event

-- a view of some seats
abbrev pub view : Settings → List Entry → View
view c es = record { settings = c; bundle = es }

-- a view of one seat
abbrev pub one : Settings → ℕ → Seat → List Event → View
one c i s q = view c ((i, s, q) ∷ [])

-- idle seats from one number on
abbrev pub idles : ℕ → ℕ → List Entry
idles i zero = []
idles i (suc n) = (i, resting, []) ∷ idles (suc i) n

-- all seats, idle, in order
abbrev pub whole : Settings → View
whole c = view c (idles 0 (seats_of c))

-- 1 for that seat, and else 0
abbrev pub is_at : ℕ → ℕ → ℕ
is_at k i = if k == i then 1 else 0

-- how often the seat i stands in a list
abbrev pub times : ℕ → List Entry → ℕ
times i [] = 0
times i (e ∷ es) = is_at e.0 i + times i es

-- 1 for each seat of the run
abbrev pub once_below : ℕ → ℕ → ℕ
once_below n i = if nat_lt i n then 1 else 0

-- a number of each view, summed
abbrev pub total : (View → ℕ) → List View → ℕ
total f [] = 0
total f (v ∷ vs) = f v + total f vs

-- the events begin with those that were seen
abbrev pub StartsWith : List Event → List Event → Type 0
StartsWith es seen = (rest : List Event) × (es ≡ seen ++ rest)

-- each entry is of these settings, and a seat of the run's world, which has seen a beginning of the run and all its
-- own events
abbrev pub Among : Settings → List Event → Settings → List Entry → Type 0
Among c run d [] = Unit {0}
Among c run d (e ∷ es) =
    (d ≡ c) × (e.0 < seats_of c) × (seat_in (world_after c run) e.0 ≡ e.1) × StartsWith run e.2
    × (events_of e.0 run ≡ events_of e.0 e.2) × Among c run d es

-- the shared words are those of a run, each view has its seats' states in it, and each seat is in one view
pub record ShowsRun (c : Settings) (s : State (Unit {0}) View) : Type 0 where
  pub run : List Event
  pub steps : AreSteps c run
  pub words : s.words ≡ (world_after c run).words
  pub agrees : (by : ℕ) (v : View) → get_elem? s.views by ≡ some v → Among c run v.settings v.bundle
  pub once : (i : ℕ) → total (λ v. times i v.bundle) s.views ≡ once_below (seats_of c) i

-- ---- a step of one seat

-- the seat after a step that told it n; x is the add that begins with it, where it was idle
abbrev pub advanced : Settings → ℕ → Add → Seat → ℕ → Seat
advanced c i x s n = seat_after (desk_of c i) (ready x s) n

-- its view after that
abbrev pub entries_after : Settings → Add → List Entry → ℕ → List Event → List Entry
entries_after c x [] n q = []
entries_after c x (e ∷ es) n q = (e.0, advanced c e.0 x e.1 n, q) ∷ es

-- its view after a step that told it a word, with the events seen then
abbrev pub after : Add → View → ℕ → List Event → View
after x v n q = view v.settings (entries_after v.settings x v.bundle n q)

-- the view of an adder beside what it holds
abbrev pub M : Type 0
M = Me (Unit {0}) View

-- of a view's first seat: its state, what it has seen, and its number
abbrev pub state_in : List Entry → Seat
state_in [] = resting
state_in (e ∷ es) = e.1

-- the state of its first seat
abbrev pub state_of : M → Seat
state_of m = state_in m.0.bundle

-- what the first seat has seen
abbrev pub seen_in : List Entry → List Event
seen_in [] = []
seen_in (e ∷ es) = e.2

-- the same of a view that is held
abbrev pub seen_of : M → List Event
seen_of m = seen_in m.0.bundle

-- the number of the first seat
abbrev pub seat_number : List Entry → ℕ
seat_number [] = 0
seat_number (e ∷ es) = e.0

-- the same of a view that is held
abbrev pub seat_of : M → ℕ
seat_of m = seat_number m.0.bundle

-- a token of the seat i alone
abbrev pub IsSeat : ℕ → M → Type 0
IsSeat i m = m ≡ (one m.0.settings i (state_of m) (seen_of m), [])

-- what was seen, a list of steps, leads the seat i to its state
pub record At (i : ℕ) (m : M) : Type 0 where
  pub settings : AreSettings m.0.settings
  pub inside : i < seats_of m.0.settings
  pub steps : AreSteps m.0.settings (seen_of m)
  pub reached : seat_in (world_after m.0.settings (seen_of m)) i ≡ state_of m

-- what a step tells: the run so far was seen, with one more event of the seat
pub record Moved (x : Add) (m : M) (n : ℕ) (w : M) : Type 0 where
  pub seen : List Event
  pub is : w ≡ (after x m.0 n seen, m.1)
  pub grows : StartsWith seen (seen_of m)
  pub counts : events_of (seat_of m) seen ≡ events_of (seat_of m) (seen_of m) + 1
  pub at : At (seat_of m) w

-- a view after a step of the program
abbrev pub acted : Add → Step (Unit {0}) → M → ℕ → M → Type 0
acted x st m n w = Moved x m n w

-- what a seat asks for, where an idle one begins the add x
abbrev pub ask_of : Settings → ℕ → Add → Seat → Ask
ask_of c i x s = next_in (desk_of c i) (ready x s).caller (ready x s).phase

-- the token has one seat, which can act and asks for this step
pub record AsksFor (x : Add) (a : Ask) (m : M) : Type 0 where
  pub seat : IsSeat (seat_of m) m
  pub at : At (seat_of m) m
  pub can : can_act m.0.settings (seat_of m) x (state_of m) ≡ true
  pub asks : ask_of m.0.settings (seat_of m) x (state_of m) ≡ a

-- ---- a whole add

-- the seat after it was told these numbers
abbrev pub told_all : Settings → ℕ → Add → Seat → List ℕ → Seat
told_all c i x s [] = s
told_all c i x s (n ∷ ns) = told_all c i x (advanced c i x s n) ns

-- the machine of a seat that is in an add, or begins the add x
abbrev pub running : Settings → ℕ → Add → Seat → Machine
running c i x s = let r = ready x s in record {
  desk = desk_of c i;
  caller = r.caller;
  phase = r.phase;
  steps = r.steps;
}

-- the add x of the seat i, from the state s, was told some numbers, took so many steps, and answered this, which the
-- seat keeps
pub record Adds (c : Settings) (i : ℕ) (x : Add) (s t : Seat) (added : Added) : Type 0 where
  pub told : List ℕ
  pub ends : t ≡ told_all c i x s told
  pub steps : length told ≡ added.steps
  pub idle : t.phase ≡ Idle
  pub log : t.log ≡ s.log ++ added ∷ []

-- the token in the course of an add, whose machine is k
pub record Under (i : ℕ) (x : Add) (first now : M) (k : Machine) : Type 0 where
  pub settings : now.0.settings ≡ first.0.settings
  pub seat : IsSeat i now
  pub grows : StartsWith (seen_of now) (seen_of first)
  pub counts : events_of i (seen_of now) ≡ events_of i (seen_of first) + k.steps
  pub at : At i now
  pub can : can_act now.0.settings i x (state_of now) ≡ true
  pub told : List ℕ
  pub reached : state_of now ≡ told_all now.0.settings i x (state_of first) told
  pub count : length told ≡ k.steps
  pub machine : running now.0.settings i x (state_of now) ≡ k
  pub log : (state_of now).log ≡ (state_of first).log
  pub busy : is_idle k.phase ≡ false

-- ---- views cut and put together

-- cutting the first seat off a view: what stays, and what goes
abbrev pub tail_of : List Entry → List Entry
tail_of [] = []
tail_of (e ∷ es) = es

-- the first entry alone
abbrev pub head_of : List Entry → List Entry
head_of [] = []
head_of (e ∷ es) = e ∷ []

-- a view of all seats but the first
abbrev pub others : View → View
others v = view v.settings (tail_of v.bundle)

-- a view of the first seat
abbrev pub foremost : View → View
foremost v = view v.settings (head_of v.bundle)

-- putting a view before another
abbrev pub together : View → View → View
together v w = view v.settings (w.bundle ++ v.bundle)

-- settings of no table
abbrev pub nothing : Settings
nothing = record { adds = []; first = record { counts = []; bytes = [] } }

-- a view that nobody needs any more
abbrev pub spent : View
spent = view nothing []
