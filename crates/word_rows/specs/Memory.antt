-- A table's words by their parts, each a function of its numbers; and that one list of words is the same.
use Rattle.std.specs.Prelude.{◌≡◌, ℕ, ◌<◌, ◌==◌, if◌then◌else◌, List, length, slice_index}
use Rattle.word_rows.specs.Shape.{Shape}
use Rattle.word_rows.specs.Places.{Address, Root, Announcement, Done, BucketWord, OpWord, BucketRowWord, DirectoryWord, IsAddress, place, word_count}

-- the words by seat, by bucket, and by row and place in the row
pub record Memory : Type 0 where
  pub root : ℕ
  pub announced : ℕ → ℕ
  pub done : ℕ → ℕ
  pub bucket : ℕ → ℕ
  pub op : ℕ → ℕ → ℕ
  pub bucket_row : ℕ → ℕ → ℕ
  pub directory : ℕ → ℕ → ℕ

-- a function with another value at one place
unfoldable pub put : {A : Type 0} → (ℕ → A) → ℕ → A → ℕ → A
put f k v j = if j == k then v else f j

-- rows with another word at place i of row r
unfoldable pub put_at : {A : Type 0} → (ℕ → ℕ → A) → ℕ → ℕ → A → ℕ → ℕ → A
put_at f r i v = put f r (put (f r) i v)

-- the word at an address
abbrev pub read : Memory → Address → ℕ
read memory Root = memory.root
read memory (Announcement seat) = memory.announced seat
read memory (Done seat) = memory.done seat
read memory (BucketWord bucket) = memory.bucket bucket
read memory (OpWord row i) = memory.op row i
read memory (BucketRowWord row i) = memory.bucket_row row i
read memory (DirectoryWord row i) = memory.directory row i

-- with another word at an address
abbrev pub write : Memory → Address → ℕ → Memory
write memory Root word = record memory { root = word }
write memory (Announcement seat) word = record memory { announced = put memory.announced seat word }
write memory (Done seat) word = record memory { done = put memory.done seat word }
write memory (BucketWord bucket) word = record memory { bucket = put memory.bucket bucket word }
write memory (OpWord row i) word = record memory { op = put_at memory.op row i word }
write memory (BucketRowWord row i) word = record memory { bucket_row = put_at memory.bucket_row row i word }
write memory (DirectoryWord row i) word = record memory { directory = put_at memory.directory row i word }

-- every word is 0
abbrev pub blank : Memory
blank = record {
  root = 0;
  announced = λ _. 0;
  done = λ _. 0;
  bucket = λ _. 0;
  op = λ _ _. 0;
  bucket_row = λ _ _. 0;
  directory = λ _ _. 0;
}

-- the list of words is this memory, one part after the other
pub record Shows (shape : Shape) (words : List ℕ) (memory : Memory) : Type 0 where
  pub long : length words ≡ word_count shape
  pub same : (a : Address) → IsAddress shape a → slice_index words (place shape a) ≡ read memory a

-- the first values of a function are these words, as those of a row are where its spelling was stored
abbrev pub Holds : (ℕ → ℕ) → List ℕ → Type 0
Holds f words = (i : ℕ) → i < length words → f i ≡ slice_index words i
