-- The items of a row, gone through one by one; and holds.
use Rattle.std.specs.Prelude.{◌≡◌, ℕ, ◌+◌, ◌*◌, List, [], ◌∷◌, Option, Some, None}
use Rattle.step_counts.specs.declared.TheConstants.{ITEM_WORDS}
use Rattle.plain_map.specs.declared.calls.Call.{Call}
use Rattle.plain_map.specs.declared.calls.Reply.{Reply}
use Rattle.plain_map.specs.declared.keys.Key.{Key}
use Rattle.plain_map.specs.declared.keys.Pair.{Pair}
use Rattle.bucket_states.specs.Items.{number_at, value_at}
use Rattle.exchange_model.specs.Plans.{Plan}
use Rattle.exchange_model.specs.Words.{RowWord, place}
use Rattle.exchange_model.specs.Steps as S
use Rattle.exchange_model.specs.Steps.{Aim, OfKey, OfBucket, Pass, Stand, Idle, Goes, Glances, GlanceWord, GlanceWant, GlanceCount, GlanceItem, GlanceBack, HeldHead, StoreWant, GiveBack, Over, Applied, class_of_aim, class_of_call, row_of_source}
use Rattle.exchange_model.specs.Goes.{GlanceFate, gone_through, glance_lost, pass_on, Shows, Told}
use Rattle.exchange_calls.specs.Going.{Going, after_glance, on}
use Rattle.exchange_calls.specs.declared.looks.Source.{Source}
use Rattle.exchange_calls.specs.declared.looks.Source.TheVariants.{Word, Held}
use Rattle.exchange_calls.specs.declared.lookups.Look.{Look}
use Rattle.exchange_calls.specs.declared.lookups.Look.TheVariants.{Shown, Lost}

-- the row that is looked at
abbrev pub source_of : Source → S.Source
source_of (Word left word) = S.Tried left word
source_of (Held row) = S.HeldIn row

-- after a step of a look that is not the asking
abbrev pub looking : Going → Aim → GlanceFate → Going
looking g aim next = after_glance g aim (GlanceWord 0) next

-- the next words are those of an item, of which the first has been loaded
pub record IsItem (g : Going) (at word : ℕ) : Type 0 where
  pub aim : Aim
  pub source : S.Source
  pub scan : Pass
  pub stand : g.now.stand ≡ Glances aim (GlanceItem source (record scan { part = word ∷ [] }))
  pub place_is : at ≡ place g.plan (RowWord (row_of_source g.plan source) (1 + ITEM_WORDS * scan.item))

-- so many items are gone through, and these were kept
abbrev pub pass_at : (count item : ℕ) → List Pair → Pass
pass_at count item kept = record { count = count; item = item; part = []; kept = kept }

-- and the key is not among them
pub record HasPassed (first now : Going) (source : S.Source) (key : Key) (count item : ℕ) : Type 0 where
  pub kept : List Pair
  pub goes : now ≡ looking first (OfKey key) (pass_on source (pass_at count item kept))
  pub none : value_at key kept ≡ None

-- the items are gone through, and this was found at the key
pub record HasFound (first now : Going) (source : S.Source) (key : Key) (found : Option ℕ) : Type 0 where
  pub kept : List Pair
  pub goes : now ≡ looking first (OfKey key) (gone_through source kept)
  pub value : found ≡ number_at key kept

-- a look at a key ends
pub record HasShown (first now : Going) (key : Key) (found : Option ℕ) : Type 0 where
  pub kept : List Pair
  pub goes : now ≡ looking first (OfKey key) (Shows kept)
  pub value : found ≡ number_at key kept

-- whether a try has shown its row
abbrev pub HasTried : (first now : Going) → Key → (left : ℕ) → Look → Type 0
HasTried first now key left (Shown found) = HasShown first now key found
HasTried first now key left Lost = now ≡ looking first (OfKey key) (glance_lost left)

-- the call has ended with this, and the caller has asked so often by then
abbrev pub ended : Going → (time : ℕ) → Told → Going
ended g time told = record g { now = record g.now { time = time; stand = Idle }; told = Some told }

-- ---- who asks for a hold

-- who asks: a look, or an update
pub data Holder : Type 0 where
  OfLook : (aim : Aim) → Holder
  OfUpdate : (call : Call) → Holder

-- where it stands then
abbrev pub wants : Holder → Stand
wants (OfLook aim) = Glances aim GlanceWant
wants (OfUpdate call) = Goes call StoreWant

-- it holds this row
abbrev pub holds_row : Holder → (row : ℕ) → Stand
holds_row (OfLook aim) row = Glances aim (GlanceCount (S.HeldIn row))
holds_row (OfUpdate call) row = Goes call (HeldHead row)

-- the class that it wants
abbrev pub class_of_holder : Plan → Holder → ℕ
class_of_holder plan (OfLook aim) = class_of_aim plan aim
class_of_holder plan (OfUpdate call) = class_of_call plan call

-- it wants this bucket
pub record IsWanting (g : Going) (bucket : ℕ) : Type 0 where
  pub holder : Holder
  pub stand : g.now.stand ≡ wants holder
  pub bucket_is : bucket ≡ class_of_holder g.plan holder

-- the caller has asked once more
abbrev pub asked_again : Going → Going
asked_again g = record g { now = record g.now { time = g.now.time + 1 } }

-- ---- who gives a hold back, after the row was read

-- who gives it back: a look that has these items, or an update with its reply
pub data Giver : Type 0 where
  LookGives : (aim : Aim) (kept : List Pair) → Giver
  UpdateGives : (call : Call) (reply : Reply) → Giver

-- where it stands then
abbrev pub gives : Giver → Stand
gives (LookGives aim kept) = Glances aim (GlanceBack kept)
gives (UpdateGives call reply) = Goes call (GiveBack reply)

-- where that leads
abbrev pub given : Going → Giver → Going
given g (LookGives aim kept) = looking g aim (Shows kept)
given g (UpdateGives call reply) = on g (Goes call (Over (Applied reply)))

-- it gives a hold back next
pub record IsGiving (g : Going) : Type 0 where
  pub giver : Giver
  pub stand : g.now.stand ≡ gives giver
