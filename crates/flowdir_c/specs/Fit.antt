-- What a table can be opened with: its options, and its first pairs.
use Rattle.std.specs.Prelude.{ℕ, ◌^◌, ◌<◌, List, All}
use Rattle.hash_bits.specs.declared.hashing.Hashing.TheVariants.{Mix}
use Rattle.step_counts.specs.Ranges.{AreInRange}
use Rattle.step_counts.specs.declared.settings.Settings.{Settings}
use Rattle.plain_map.specs.declared.keys.Key.{Key}
use Rattle.plain_map.specs.declared.keys.Pair.{Pair}
use Rattle.plain_map.specs.declared.rules.Rules.{Rules}
use Rattle.plain_map.specs.Updates.{IsSmallPair}
use Rattle.word_rows.specs.Shape.{AreBelow}
use Rattle.bucket_states.specs.Parts.{HasDistinctKeys}
use Rattle.table_model.specs.Setup.{classmates}
use Rattle.flowdir_c.specs.declared.options.Options.{Options}
use Rattle.flowdir_c.specs.Asked.{rows_of}

-- the options are in their ranges
pub record AreFit (options : Options) : Type 0 where
  pub numbers : AreInRange options.seats options.items options.depth options.start
  pub rows : AreBelow (2 ^ 32) (rows_of options.rows)

-- the pairs can be kept, and no key stands twice
pub record AreFitPairs (pairs : List Pair) : Type 0 where
  pub small : All IsSmallPair pairs
  pub distinct : HasDistinctKeys pairs

-- the room of a class, the greatest depth and the hashing that the options ask for
abbrev pub rules_in : Options → Rules
rules_in options = record { items = options.items; depth = options.depth; hashing = Mix options.seed }

-- and those of settings and a seed
abbrev pub rules_with : Settings → (seed : ℕ) → Rules
rules_with settings seed = record { items = settings.items; depth = settings.depth; hashing = Mix seed }

-- more of these pairs are of one class than it has room for
pub record LackRoom (rules : Rules) (pairs : List Pair) : Type 0 where
  pub key : Key
  pub many : rules.items < classmates rules key pairs
