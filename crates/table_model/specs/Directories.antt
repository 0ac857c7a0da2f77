-- What a directory says: for each place, which is the first bits of a hash, the number of a bucket.
-- Source: Fagin, Nievergelt, Pippenger and Strong, "Extendible hashing", 1979.
use Rattle.std.specs.Prelude.{ℕ, List, slice_index}
use Rattle.plain_map.specs.declared.keys.Key.{Key}
use Rattle.plain_map.specs.declared.rules.Rules.{Rules}
use Rattle.plain_map.specs.Rows.{DirectoryContent}
use Rattle.bucket_states.specs.Items.{prefix_of}

-- a depth, and a bucket's number for each of 2 ^ depth places
pub record DirectoryState : Type 0 where
  pub depth : ℕ
  pub entries : List ℕ

-- what a row says of its directory
abbrev pub directory_in_row : DirectoryContent → DirectoryState
directory_in_row row = record { depth = row.depth; entries = row.entries }

-- the bucket of a key
abbrev pub bucket_of : Rules → DirectoryState → Key → ℕ
bucket_of rules directory key = slice_index directory.entries (prefix_of rules directory.depth key)
