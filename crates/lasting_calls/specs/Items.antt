-- The items of a row, gone through one by one.
use Rattle.std.specs.Prelude.{◌≡◌, ℕ, ◌+◌, ◌*◌, List, [], ◌∷◌, Option, Some, None}
use Rattle.step_counts.specs.declared.TheConstants.{ITEM_WORDS}
use Rattle.plain_map.specs.declared.keys.Key.{Key}
use Rattle.plain_map.specs.declared.keys.Pair.{Pair}
use Rattle.bucket_states.specs.Items.{number_at, value_at}
use Rattle.lasting_model.specs.Plans.{ample}
use Rattle.lasting_model.specs.Codes.{items_start}
use Rattle.lasting_model.specs.Words.{RowWord, place}
use Rattle.lasting_model.specs.Steps as S
use Rattle.lasting_model.specs.Steps.{Aim, OfKey, OfBucket, Scan, Stand, Idle, Goes, Glances, GlanceWord, GlanceWant, GlanceCount, GlanceItem, HeldNumber, StoreWant, Update, bucket_of_aim, bucket_of_update, row_of_source}
use Rattle.lasting_model.specs.Goes.{GlanceFate, gone_through, glance_lost, scan_on, Shows, Told}
use Rattle.table_model.specs.Setup.{Setup}
use Rattle.lasting_calls.specs.Going.{Going, after_glance}
use Rattle.lasting_calls.specs.declared.looks.Source.{Source}
use Rattle.lasting_calls.specs.declared.looks.Source.TheVariants.{Word, Held}
use Rattle.lasting_calls.specs.declared.lookups.Tried.{Tried}
use Rattle.lasting_calls.specs.declared.lookups.Tried.TheVariants.{Shown, Lost}

-- the row that is looked at
abbrev pub source_of : Source → S.Source
source_of (Word left word) = S.Tried left word
source_of (Held row) = S.HeldIn row

-- after a step of a look that is not the asking
abbrev pub looking : Going → Aim → GlanceFate → Going
looking g aim next = after_glance g aim (GlanceWord 0) next

-- the next words are those of an item, of which the first has been loaded
pub record IsItem (g : Going) (at word : ℕ) : Type 0 where
  pub aim : Aim
  pub source : S.Source
  pub scan : Scan
  pub stand : g.now.stand ≡ Glances aim (GlanceItem source (record scan { part = word ∷ [] }))
  pub place_is : at
      ≡ place g.plan (RowWord (row_of_source source) (items_start (ample g.plan) + ITEM_WORDS * scan.item))

-- so many items are gone through, and these were kept
abbrev pub scan_at : (count item : ℕ) → List Pair → Scan
scan_at count item kept = record { count = count; item = item; part = []; kept = kept }

-- and the key is not among them
pub record HasPassed (first now : Going) (source : S.Source) (key : Key) (count item : ℕ) : Type 0 where
  pub kept : List Pair
  pub goes : now ≡ looking first (OfKey key) (scan_on source (scan_at count item kept))
  pub none : value_at key kept ≡ None

-- the items are gone through, and this was found at the key
pub record HasFound (first now : Going) (source : S.Source) (key : Key) (found : Option ℕ) : Type 0 where
  pub kept : List Pair
  pub goes : now ≡ looking first (OfKey key) (gone_through source kept)
  pub value : found ≡ number_at key kept

-- a look at a key ends
pub record HasShown (first now : Going) (key : Key) (found : Option ℕ) : Type 0 where
  pub kept : List Pair
  pub goes : now ≡ looking first (OfKey key) (Shows kept)
  pub value : found ≡ number_at key kept

-- whether a try has shown its row
abbrev pub HasTried : (first now : Going) → Key → (left : ℕ) → Tried → Type 0
HasTried first now key left (Shown found) = HasShown first now key found
HasTried first now key left Lost = now ≡ looking first (OfKey key) (glance_lost left)

-- the call has ended with this, and the seat has asked so often by then
abbrev pub ended : Going → (time : ℕ) → Told → Going
ended g time told = record g { now = record g.now { time = time; stand = Idle }; told = Some told }

-- ---- who asks for a hold

pub data Holder : Type 0 where
  OfLook : (aim : Aim) → Holder
  OfUpdate : (update : Update) → Holder

abbrev pub wants : Holder → Stand
wants (OfLook aim) = Glances aim GlanceWant
wants (OfUpdate u) = Goes u StoreWant

-- it holds this row
abbrev pub holds_row : Holder → (row : ℕ) → Stand
holds_row (OfLook aim) row = Glances aim (GlanceCount (S.HeldIn row))
holds_row (OfUpdate u) row = Goes u (HeldNumber row)

abbrev pub bucket_of_holder : Setup → Holder → ℕ
bucket_of_holder setup (OfLook aim) = bucket_of_aim setup aim
bucket_of_holder setup (OfUpdate u) = bucket_of_update setup u

-- it wants this bucket
pub record IsWanting (g : Going) (bucket : ℕ) : Type 0 where
  pub holder : Holder
  pub stand : g.now.stand ≡ wants holder
  pub bucket_is : bucket ≡ bucket_of_holder (ample g.plan) holder

-- the seat has asked once more
abbrev pub asked_again : Going → Going
asked_again g = record g { now = record g.now { time = g.now.time + 1 } }
