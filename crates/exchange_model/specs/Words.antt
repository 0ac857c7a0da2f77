-- Which words a table has, and what they are after a store.
use Rattle.std.specs.Prelude.{ℕ, ◌+◌, ◌*◌, ◌<◌}
use Rattle.word_rows.specs.Memory.{put, put_at}
use Rattle.exchange_model.specs.Plans.{Plan, holders_of, buckets_of, rows_of}
use Rattle.exchange_model.specs.Codes.{SLOT_WORDS, row_length}

-- a word, by what it is
pub data At : Type 0 where
  -- how many seats have an op announced, or are about to
  Pending : At
  -- what a seat announces; and of each who can hold the class that it wants to see, and its asking or the row that it
  -- holds
  Announced : (seat : ℕ) → At
  Want : (holder : ℕ) → At
  Hold : (holder : ℕ) → At
  -- a word of the op of a seat
  OpWord : (seat i : ℕ) → At
  -- the word of a bucket
  Bucket : (bucket : ℕ) → At
  -- a word of a row
  RowWord : (row i : ℕ) → At

-- all words
pub record Store : Type 0 where
  pub pending : ℕ
  pub announced : (seat : ℕ) → ℕ
  pub want : (holder : ℕ) → ℕ
  pub hold : (holder : ℕ) → ℕ
  pub op : (seat i : ℕ) → ℕ
  pub bucket : (bucket : ℕ) → ℕ
  pub row : (row i : ℕ) → ℕ

-- what a word holds
abbrev pub held_at : Store → At → ℕ
held_at s Pending = s.pending
held_at s (Announced seat) = s.announced seat
held_at s (Want holder) = s.want holder
held_at s (Hold holder) = s.hold holder
held_at s (OpWord seat i) = s.op seat i
held_at s (Bucket bucket) = s.bucket bucket
held_at s (RowWord row i) = s.row row i

-- with another word there
abbrev pub with_word : Store → At → (word : ℕ) → Store
with_word s Pending word = record s { pending = word }
with_word s (Announced seat) word = record s { announced = put s.announced seat word }
with_word s (Want holder) word = record s { want = put s.want holder word }
with_word s (Hold holder) word = record s { hold = put s.hold holder word }
with_word s (OpWord seat i) word = record s { op = put_at s.op seat i word }
with_word s (Bucket bucket) word = record s { bucket = put s.bucket bucket word }
with_word s (RowWord row i) word = record s { row = put_at s.row row i word }

-- ---- one list of words has them all, in the order of the variants

-- the words of a row that is full
abbrev pub most_words : Plan → ℕ
most_words plan = row_length plan.settings.items plan.settings.seats

-- the words that there are
abbrev pub IsAt : Plan → At → Type 0
IsAt plan Pending = Unit {0}
IsAt plan (Announced seat) = seat < plan.settings.seats
IsAt plan (Want holder) = holder < holders_of plan.settings
IsAt plan (Hold holder) = holder < holders_of plan.settings
IsAt plan (OpWord seat i) = (seat < plan.settings.seats) × (i < SLOT_WORDS)
IsAt plan (Bucket bucket) = bucket < buckets_of plan.settings
IsAt plan (RowWord row i) = (row < rows_of plan) × (i < most_words plan)

-- the first word of the wants, of the hold words, of the ops, of the buckets and of the rows
abbrev pub wants_start : Plan → ℕ
wants_start plan = 1 + plan.settings.seats

abbrev pub holds_start : Plan → ℕ
holds_start plan = wants_start plan + holders_of plan.settings

abbrev pub ops_start : Plan → ℕ
ops_start plan = holds_start plan + holders_of plan.settings

abbrev pub buckets_start : Plan → ℕ
buckets_start plan = ops_start plan + SLOT_WORDS * plan.settings.seats

abbrev pub rows_start : Plan → ℕ
rows_start plan = buckets_start plan + buckets_of plan.settings

-- how many words there are
abbrev pub word_count : Plan → ℕ
word_count plan = rows_start plan + rows_of plan * most_words plan

-- the place of the word of a bucket
abbrev pub bucket_place : Plan → (bucket : ℕ) → ℕ
bucket_place plan bucket = buckets_start plan + bucket

-- the place of the first word of a row
abbrev pub row_place : Plan → (row : ℕ) → ℕ
row_place plan row = rows_start plan + row * most_words plan

-- the number of a word, from 0
abbrev pub place : Plan → At → ℕ
place plan Pending = 0
place plan (Announced seat) = 1 + seat
place plan (Want holder) = wants_start plan + holder
place plan (Hold holder) = holds_start plan + holder
place plan (OpWord seat i) = ops_start plan + SLOT_WORDS * seat + i
place plan (Bucket bucket) = bucket_place plan bucket
place plan (RowWord row i) = row_place plan row + i
