-- What a directory try stores, one word after the other: its leaves, and then its directory row.
use Rattle.std.specs.Prelude.{◌≡◌, ℕ, ◌∷◌, ◌++◌, List, [], Option, Some, drop, length}
use Rattle.step_counts.specs.declared.settings.Settings.{Settings}
use Rattle.plain_map.specs.declared.full.FullKind.TheVariants.{DirRows}
use Rattle.word_rows.specs.declared.addresses.Address.TheVariants.{DirectoryWord}
use Rattle.word_rows.specs.BucketWords.{IsBucket}
use Rattle.bucket_states.specs.States.{row_of_state}
use Rattle.bucket_states.specs.declared.ops.Op.{Op}
use Rattle.table_model.specs.declared.rounds.Round.{Round}
use Rattle.table_model.specs.declared.events.Put.{Put}
use Rattle.table_model.specs.DirectoryChange.{LoadedBucket}
use Rattle.table_model.specs.Goes.{after_puts}
use Rattle.table_model.specs.Leaves.{NewLeaf}
use Rattle.table_model.specs.Phases.{DirectoryTry, Phase}
use Rattle.table_model.specs.Stores.{base_of_leaf, directory_puts, directory_words, leaf_puts, made_directory, row_puts}
use Rattle.table_model.specs.Setup.{next_number}
use Rattle.seat_calls.specs.Going.{Going}

-- a directory try whose buckets are loaded
pub record Changing : Type 0 where
  pub round : Round
  pub attempt : DirectoryTry
  pub found : List (Option Op)
  pub loaded : List LoadedBucket

-- all that it stores
abbrev pub puts_of : Going → Changing → List Put
puts_of g c = directory_puts g.setup g.seat g.account.used c.attempt c.found c.loaded

-- so many words of it are stored
abbrev pub storing : Going → Changing → (stored : ℕ) → Phase
storing g c stored = after_puts c.round c.attempt c.found c.loaded (length (puts_of g c)) stored

-- these stores come next
pub record ComesNext (g : Going) (c : Changing) (stored : ℕ) (puts : List Put) : Type 0 where
  pub phase : g.phase ≡ storing g c stored
  pub rest : List Put
  pub left : drop stored (puts_of g c) ≡ puts ++ rest

-- a leaf's word and row
abbrev pub puts_of_leaf : Going → Changing → (bucket row : ℕ) → NewLeaf → List Put
puts_of_leaf g c bucket row leaf = leaf_puts g.setup (base_of_leaf c.loaded) bucket row (leaf ∷ [])

-- the directory row
abbrev pub directory_row_puts : Going → Changing → List Put
directory_row_puts g c =
    row_puts (DirectoryWord (next_number g.setup g.seat DirRows g.account.used)) 0
    (directory_words (Some c.attempt.root) (made_directory g.setup g.seat g.account.used c.attempt c.found c.loaded))

-- a leaf that can be spelled, where these buckets are loaded
abbrev pub CanBeSpelled : Settings → List LoadedBucket → NewLeaf → Type 0
CanBeSpelled settings loaded leaf = IsBucket settings (row_of_state (base_of_leaf loaded leaf) leaf.bucket)
