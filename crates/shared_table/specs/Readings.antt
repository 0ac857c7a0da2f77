-- What a load of a reader tells.
use Rattle.std.specs.Prelude.{◌≡◌, ℕ, List, [], ◌∷◌, ◌++◌, slice_index}
use Rattle.atomic_table.specs.Table.{Step}
use Rattle.table_model.specs.declared.events.Event.{Event}
use Rattle.table_model.specs.Shown.{Holding}
use Rattle.table_model.specs.Worlds.{IsRun, world_after}
use Rattle.shared_table.specs.Fronts.{Front}
use Rattle.shared_table.specs.Rule.{M}

-- the view of one reader alone
abbrev pub lone : Front → M
lone front = (record { bundle = []; fronts = front ∷ [] }, [])

-- the reader after it found a word, when the run had so many events
abbrev pub after_load : Front → (now : List Event) → (found : ℕ) → Front
after_load front now found = record {
  setup = front.setup;
  known = now;
  heard = front.heard ++ found ∷ [];
  times = front.times ++ now ∷ [];
}

-- the run had gone on so far, and the word was its word then
pub record Looked (front : Front) (word found : ℕ) (then : M) : Type 0 where
  pub later : List Event
  pub run : IsRun front.setup (front.known ++ later)
  pub found_is : found ≡ slice_index (world_after front.setup (front.known ++ later)).words word
  pub is : then ≡ lone (after_load front (front.known ++ later) found)

-- a token of one reader knows its load then
abbrev pub looked : Step (Unit {0}) → M → ℕ → M → Type 0
looked st m n then = (front : Front) → m ≡ lone front → Looked front st.word n then

-- the first of the holdings, or this one
abbrev pub first_in : Holding → List Holding → Holding
first_in d [] = d
first_in d (h ∷ hs) = h

-- a new reader of the table that was opened as the holdings of this view say knows a run of it
pub record Entered (m then : M) : Type 0 where
  pub front : Front
  pub run : IsRun front.setup front.known
  pub opened : (d : Holding) → front.setup ≡ (first_in d m.0.bundle).setup
  pub is : then ≡ lone front

-- whatever it found
abbrev pub entered : Step (Unit {0}) → M → ℕ → M → Type 0
entered st m n then = Entered m then
