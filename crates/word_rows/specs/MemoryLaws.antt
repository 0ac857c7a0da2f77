-- What one store and one load do to a memory, and to the words that show it.
use Rattle.std.specs.Prelude.{◌≡◌, ◌≢◌, ℕ, ◌+◌, ◌<◌, List, [], ◌∷◌, ◌++◌, length, take, slice_index, slice_set, replicate}
use Rattle.word_rows.specs.Shape.{Shape}
use Rattle.word_rows.specs.Places.{Address, IsAddress, place, word_count}
use Rattle.word_rows.specs.Memory.{Memory, put, read, write, blank, Shows, Holds}

-- a store is read back, and changes no other word
abbrev pub StoresAreRead : Type 0
StoresAreRead =
    (memory : Memory) (a b : Address) (word : ℕ) →
    (read (write memory a word) a ≡ word) × (b ≢ a → read (write memory a word) b ≡ read memory b)

-- a store of a word of the list is the store at its address
abbrev pub StoresAreShown : Type 0
StoresAreShown =
    (shape : Shape) (words : List ℕ) (memory : Memory) (a : Address) (word : ℕ) → IsAddress shape a →
    Shows shape words memory →
    Shows shape (slice_set words (place shape a) word) (write memory a word)

-- a load of a word of the list is the load at its address
abbrev pub LoadsAreShown : Type 0
LoadsAreShown =
    (shape : Shape) (words : List ℕ) (memory : Memory) (a : Address) → IsAddress shape a → Shows shape words memory →
    slice_index words (place shape a) ≡ read memory a

-- words that are all 0 show the blank memory
abbrev pub ZerosAreBlank : Type 0
ZerosAreBlank = (shape : Shape) → Shows shape (replicate (word_count shape) 0) blank

-- a row that is loaded word by word: with one more word the front that was seen is one longer
abbrev pub LoadsGoOn : Type 0
LoadsGoOn =
    (f : ℕ → ℕ) (words seen : List ℕ) → Holds f words → length seen < length words → seen ≡ take (length seen) words →
    seen ++ f (length seen) ∷ [] ≡ take (length seen + 1) words

-- a row that is stored word by word: with one more word the front that is held is one longer
abbrev pub StoresGoOn : Type 0
StoresGoOn =
    (f : ℕ → ℕ) (words : List ℕ) (k : ℕ) → k < length words → Holds f (take k words) →
    Holds (put f k (slice_index words k)) (take (k + 1) words)
