-- A reader that goes the way of a lookup: where it stands, by the words that it has found since it began.
use Rattle.std.specs.Prelude.{◌≡◌, ◌<◌, ℕ, ◌+◌, List, [], ◌∷◌, ◌++◌, drop, length}
use Rattle.atomic_table.specs.Seated.{TableId}
use Rattle.plain_map.specs.declared.keys.Key.{Key}
use Rattle.plain_map.specs.declared.calls.Call.TheVariants.{Lookup}
use Rattle.plain_map.specs.declared.calls.Reply.{Reply}
use Rattle.plain_map.specs.Room.{no_rows}
use Rattle.word_rows.specs.Places.{word_count}
use Rattle.table_model.specs.declared.events.Event.{Event}
use Rattle.table_model.specs.declared.rounds.Aim.TheVariants.{ForLookup}
use Rattle.table_model.specs.Setup.{Setup}
use Rattle.table_model.specs.Phases.{Phase, FindRoot, FindDepth, FindEntry, LookWord, LookCount, LookItems, StoreDone}
use Rattle.table_model.specs.Worlds.{IsRun}
use Rattle.peek_laws.specs.Glances.{Sees}
use Rattle.seat_calls.specs.Going.{Going, goes_by}
use Rattle.shared_table.specs.declared.rule.Plan.{Plan}
use Rattle.shared_table.specs.Fronts.{Front}
use Rattle.shared_table.specs.Seen.{ArePeekLoads, WasSeen}
use Rattle.shared_table.specs.Readings.{lone}
use Rattle.shared_table.specs.Rule.{M, plain}
use Rattle.shared_table.specs.Calls.{Token}

-- what contracts see of a reader on its way
pub record GlancingValue : Type 0 where
  pub table_id : TableId
  pub front : Front

-- the first of the fronts, or this one
abbrev pub first_front : Front → List Front → Front
first_front d [] = d
first_front d (f ∷ fs) = f

-- the front of a token of one reader
abbrev pub front_of : Plan → M → Front
front_of key me = first_front (record { setup = plain key; known = []; heard = []; times = [] }) me.0.fronts

-- what contracts see of it, by its token
abbrev pub glancing_value : Plan → Token → GlancingValue
glancing_value key token = record { table_id = token.table_id; front = front_of key token.me }

-- what it began with: its table, what that was opened with, and its front
pub record Start : Type 0 where
  pub table_id : TableId
  pub opened : Setup
  pub front : Front

-- how many words had been found before it began
abbrev pub heard_in : List Start → ℕ
heard_in [] = 0
heard_in (s ∷ ss) = length s.front.heard

-- a lookup that is no seat's, before its load of the root
abbrev pub start_of : Setup → Key → Going
start_of setup key = record {
  setup = setup;
  seat = 0;
  account = record { records = []; spent = []; used = no_rows };
  flight = record { packet = 0; call = Lookup key; number = 1; seen = []; steps = 0 };
  phase = FindRoot ForLookup;
}

-- what it reads is of no earlier moment: what had come by its first load, or where it has made none what was known
abbrev pub began_at : (known : List Event) → (times : List (List Event)) → List Event
began_at known [] = known
began_at known (time ∷ times) = time

-- where it stands
abbrev pub glance_at : Key → List Start → GlancingValue → Going
glance_at key since v = goes_by (start_of v.front.setup key) (drop (heard_in since) v.front.heard)

-- how many loads it has made in a phase
abbrev pub IsPaced : Setup → Phase → (loads : ℕ) → Type 0
IsPaced setup (FindRoot aim) loads = loads ≡ 0
IsPaced setup (FindDepth aim root) loads = loads ≡ 1
IsPaced setup (FindEntry aim root depth) loads = loads ≡ 2
IsPaced setup (LookWord root bucket) loads = loads ≡ 3
IsPaced setup (LookCount row) loads = loads ≡ 4
IsPaced setup (LookItems row count words) loads = loads ≡ 5 + length words
IsPaced setup (StoreDone reply place) loads = ArePeekLoads setup loads
IsPaced setup phase loads = ⊥

-- so it looks a key up in this run, from the first events to the last
pub record Glances (setup : Setup) (first last : List Event) (key : Key) (g : Going) : Type 0 where
  pub setup_is : g.setup ≡ setup
  pub countable : 1 < setup.shape.limit
  pub seat_is : g.seat ≡ 0
  pub used_is : g.account.used ≡ no_rows
  pub number_is : g.flight.number ≡ 1
  pub call_is : g.flight.call ≡ Lookup key
  pub sees : Sees g.setup first last key g.phase
  pub paced : IsPaced g.setup g.phase g.flight.steps

-- the token is that of one reader of the table, which began so
pub record IsGlancing (key : Key) (since : List Start) (plan : Plan) (table_id : TableId) (token : Token) : Type 0 where
  pub table : token.table_id ≡ table_id
  pub size : table_id.words ≡ word_count (plain plan).shape
  pub one : token.me ≡ lone (front_of plan token.me)
  pub opened : (front_of plan token.me).setup ≡ plain plan
  pub run : IsRun (plain plan) (front_of plan token.me).known
  pub first : Start
  pub is : since ≡ first ∷ []
  pub of_table : table_id ≡ first.table_id
  pub of_setup : plain plan ≡ first.opened
  pub more : List ℕ
  pub heard : (front_of plan token.me).heard ≡ first.front.heard ++ more
  pub moments : List (List Event)
  pub times : (front_of plan token.me).times ≡ first.front.times ++ moments
  pub as_many : length moments ≡ length more
  pub later : List Event
  pub after : began_at first.front.known moments ≡ first.front.known ++ later
  pub at : Glances (plain plan) (began_at first.front.known moments) (front_of plan token.me).known key
      (goes_by (start_of (plain plan) key) more)

-- the reader is one of the same table, and where it has a reply the plain map
-- had it at some moment since its first load
pub record HasGlanced (key : Key) (start : Start) (v : GlancingValue) (g : Going) : Type 0 where
  pub table : v.table_id ≡ start.table_id
  pub opened : v.front.setup ≡ start.opened
  pub run : IsRun start.opened v.front.known
  pub held : (reply : Reply) (row : ℕ) → g.phase ≡ StoreDone reply row →
      WasSeen start.opened start.front v.front key reply
