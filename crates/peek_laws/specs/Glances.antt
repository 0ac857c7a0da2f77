-- What a reader knows that goes the way of a lookup, with its loads alone, and is no seat: by the phase of the lookup.
use Rattle.std.specs.Prelude.{◌≡◌, ℕ, ◌*◌, ◌<◌, ◌≤◌, List, length, take, drop, slice_index}
use Rattle.step_counts.specs.declared.TheConstants.{BUCKET_HEAD_WORDS, COUNT_PLACE, ITEM_WORDS}
use Rattle.plain_map.specs.declared.keys.Key.{Key}
use Rattle.table_model.specs.declared.events.Event.{Event}
use Rattle.table_model.specs.declared.rounds.Aim.TheVariants.{ForLookup}
use Rattle.table_model.specs.Setup.{Setup, settings_of}
use Rattle.table_model.specs.Phases.{Phase, FindRoot, FindDepth, FindEntry, LookWord, LookCount, LookItems, StoreDone}
use Rattle.table_model.specs.Reading.{bucket_by, bucket_spelling, directory_at, root_of}
use Rattle.table_model.specs.Promises.{words_in}
use Rattle.peek_laws.specs.Peeks.{IsMomentBetween, WasCurrent, WasHeld}

-- the directory row was that of the root at some moment from the first to the last
pub record WasRoot (setup : Setup) (first last : List Event) (root : ℕ) : Type 0 where
  pub moment : List Event
  pub between : IsMomentBetween first last moment
  pub is : root ≡ root_of setup.shape (words_in setup moment)

-- and the depth is its depth
pub record HasDepth (setup : Setup) (first last : List Event) (root depth : ℕ) : Type 0 where
  pub rooted : WasRoot setup first last root
  pub depth_is : depth ≡ (directory_at setup.shape (words_in setup rooted.moment) root).depth

-- the bucket was the key's at some moment from the first to the last
pub record WasLed (setup : Setup) (first last : List Event) (key : Key) (bucket : ℕ) : Type 0 where
  pub moment : List Event
  pub between : IsMomentBetween first last moment
  pub is :
      bucket ≡ bucket_by setup (words_in setup moment) (root_of setup.shape (words_in setup moment)) key

-- the row was the key's at some moment, and so many words of its items are loaded
pub record LoadsItems (setup : Setup) (first last : List Event) (key : Key) (row count : ℕ) (words : List ℕ) : Type 0
  where
    pub current : WasCurrent setup first last key row
    pub count_is : count ≡ slice_index (bucket_spelling setup.shape (words_in setup current.moment) row) COUNT_PLACE
    pub few : count ≤ (settings_of setup).items
    pub short : length words < count * ITEM_WORDS
    pub words_are :
        words
        ≡ take (length words) (drop BUCKET_HEAD_WORDS (bucket_spelling setup.shape (words_in setup current.moment) row))

-- what is known from the first moment to the last
abbrev pub Sees : Setup → (first last : List Event) → Key → Phase → Type 0
Sees setup first last key (FindRoot aim) = (aim ≡ ForLookup) × IsMomentBetween first last last
Sees setup first last key (FindDepth aim root) = (aim ≡ ForLookup) × WasRoot setup first last root
Sees setup first last key (FindEntry aim root depth) = (aim ≡ ForLookup) × HasDepth setup first last root depth
Sees setup first last key (LookWord root bucket) = WasLed setup first last key bucket
Sees setup first last key (LookCount row) = WasCurrent setup first last key row
Sees setup first last key (LookItems row count words) = LoadsItems setup first last key row count words
Sees setup first last key (StoreDone reply place) = WasHeld setup first last key reply
Sees setup first last key phase = ⊥

-- the reader has a next load
abbrev pub IsLooking : Phase → Type 0
IsLooking (StoreDone reply place) = ⊥
IsLooking phase = Unit {0}
