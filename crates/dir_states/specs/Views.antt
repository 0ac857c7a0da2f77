-- What the values of this crate stand for.
use Rattle.std.specs.Prelude.{ℕ, [], ◌∷◌, Option}
use Rattle.plain_map.specs.Rows.{DirectoryContent}
use Rattle.bucket_states.specs.States.{state_of}
use Rattle.table_model.specs.Directories.{DirectoryState}
use Rattle.table_model.specs.DirectoryChange.{LoadedBucket}
use Rattle.table_model.specs.Leaves as M
use Rattle.dir_states.specs.declared.directory.DirState.{DirState}
use Rattle.dir_states.specs.declared.values.Loaded.{Loaded}
use Rattle.dir_states.specs.declared.values.NewLeaf.{NewLeaf}

-- what a directory says
abbrev pub as_directory : DirState → DirectoryState
as_directory directory = record { depth = directory.depth; entries = directory.entries.items }

-- the directory that names bucket 0 for all keys
abbrev pub empty_directory : DirectoryState
empty_directory = record { depth = 0; entries = 0 ∷ [] }

-- the row of a directory that was made from the row with this number
abbrev pub row_of_directory : Option ℕ → DirectoryState → DirectoryContent
row_of_directory base directory = record { depth = directory.depth; base = base; entries = directory.entries }

-- a bucket that was loaded
abbrev pub as_loaded : Loaded → LoadedBucket
as_loaded loaded = record { bucket = loaded.bucket; row = loaded.row; state = state_of loaded.state }

-- a bucket that is made
abbrev pub as_leaf : NewLeaf → M.NewLeaf
as_leaf leaf = record { from = leaf.from; bucket = state_of leaf.bucket }
