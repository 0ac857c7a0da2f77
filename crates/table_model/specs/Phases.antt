-- Where a seat stands in its call. A phase keeps what the words that were loaded said, as far as it is still needed:
-- the words of the row at hand, the numbers of rows and buckets, the ops that were found and the buckets that were
-- loaded. Some numbers are kept for the proofs alone, and no step depends on them: what is called first (of a round, of
-- a try, in an aim or in a phase), and the root of a round and of the phases LookWord and LastWord.
-- Source: this project's own. Announcing, helping and the order of loads are after Fatourou, Kallimanis and Ropars,
-- "An Efficient Wait-free Resizable Hash Table", SPAA 2018, as the idea alone.
use Rattle.std.specs.Prelude.{ℕ, List, Option}
use Rattle.plain_map.specs.declared.calls.Reply.{Reply}
use Rattle.bucket_states.specs.declared.ops.Op.{Op}
use Rattle.bucket_states.specs.States.{BucketState}
pub use Rattle.table_model.specs.declared.rounds.Aim.{Aim}
pub use Rattle.table_model.specs.declared.rounds.Aim.TheVariants.{ForLookup, ForFirstRound, ForSecondRound, ForLastLook}
pub use Rattle.table_model.specs.declared.rounds.Round.{Round}
use Rattle.table_model.specs.Directories.{DirectoryState}
use Rattle.table_model.specs.DirectoryChange.{LoadedBucket}

-- a try to change the bucket of a round
pub record BucketTry : Type 0 where
  -- which one, 1 or 2; the look after two lost exchanges is 3
  pub turn : ℕ
  -- the row that the first try of the round loaded (for the proofs alone)
  pub first : ℕ
  -- the row that this try loaded, and what it says
  pub row : ℕ
  pub state : BucketState

-- a try to change the directory
pub record DirectoryTry : Type 0 where
  -- which one, 1 or 2
  pub turn : ℕ
  -- the directory row that the first directory try of the round loaded (for the proofs alone)
  pub first : ℕ
  -- the directory row that this try loaded, and what it says
  pub root : ℕ
  pub directory : DirectoryState

-- the word that a seat in flight takes next. Where a row is loaded or stored word by word, words are those that were
-- loaded, and stored tells how many were stored
pub data Phase : Type 0 where
  -- the done word of the next seat
  SeeDone : Phase
  -- an update announces itself: its op row, and its announcement
  StoreOp : (stored : ℕ) → Phase
  Announce : Phase
  -- the bucket of the key: the root, the depth of the directory row, and the entry
  FindRoot : (aim : Aim) → Phase
  FindDepth : (aim : Aim) (root : ℕ) → Phase
  FindEntry : (aim : Aim) (root depth : ℕ) → Phase
  -- a lookup: the bucket word, the count and the items of its row
  LookWord : (root bucket : ℕ) → Phase
  LookCount : (row : ℕ) → Phase
  LookItems : (row count : ℕ) (words : List ℕ) → Phase
  -- a bucket try: the bucket word and its row. From the second on the row of the first try is kept
  TryWord : (round : Round) (turn : ℕ) (first : Option ℕ) → Phase
  TryRow : (round : Round) (turn first row : ℕ) (words : List ℕ) → Phase
  -- the announcement of the next seat, and its op row. For each seat gone through, found has its op or none
  TryAnnouncement : (round : Round) (attempt : BucketTry) (found : List (Option Op)) → Phase
  TryOp : (round : Round) (attempt : BucketTry) (found : List (Option Op)) (op : ℕ) (words : List ℕ) → Phase
  -- the new row, and the exchange of the bucket word
  TryStore : (round : Round) (attempt : BucketTry) (found : List (Option Op)) (stored : ℕ) → Phase
  TryExchange : (round : Round) (attempt : BucketTry) (found : List (Option Op)) → Phase
  -- a directory try: the root, and the depth and the entries of its row
  DirRoot : (round : Round) (turn : ℕ) (first : Option ℕ) → Phase
  DirDepth : (round : Round) (turn first root : ℕ) → Phase
  DirEntries : (round : Round) (turn first root depth : ℕ) (words : List ℕ) → Phase
  -- the announcements
  DirAnnouncement : (round : Round) (attempt : DirectoryTry) (found : List (Option Op)) → Phase
  DirOp : (round : Round) (attempt : DirectoryTry) (found : List (Option Op)) (op : ℕ) (words : List ℕ) → Phase
  -- the bucket of the next announced op: its word and its row
  DirWord : (round : Round) (attempt : DirectoryTry) (found : List (Option Op)) (loaded : List LoadedBucket)
      (bucket : ℕ) → Phase
  DirRow :
      (round : Round) (attempt : DirectoryTry) (found : List (Option Op)) (loaded : List LoadedBucket) (bucket row : ℕ)
      (words : List ℕ) → Phase
  -- the new leaves and the new directory row, and the exchange of the root
  DirStore : (round : Round) (attempt : DirectoryTry) (found : List (Option Op)) (loaded : List LoadedBucket)
      (stored : ℕ) → Phase
  DirExchange : (round : Round) (attempt : DirectoryTry) (found : List (Option Op)) (loaded : List LoadedBucket) → Phase
  -- the last look of an update: the bucket word and its row
  LastWord : (root bucket : ℕ) → Phase
  LastRow : (row : ℕ) (words : List ℕ) → Phase
  -- the reply is known, and the row from which it was taken: the seat's own done word
  StoreDone : (reply : Reply) (place : ℕ) → Phase
  -- there is no further step. No run comes here
  Stuck : Phase
