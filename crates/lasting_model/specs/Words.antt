-- Which words a lasting table has, and what they are after a store.
use Rattle.std.specs.Prelude.{ℕ, ◌+◌, ◌*◌, ◌<◌}
use Rattle.word_rows.specs.Memory.{put, put_at}
use Rattle.table_model.specs.Setup.{settings_of}
use Rattle.lasting_model.specs.Plans.{Plan, ample, buckets_of}
use Rattle.lasting_model.specs.Codes.{SLOT_WORDS, row_length}

-- a word, by what it is
pub data At : Type 0 where
  -- what a seat announces, the bucket that it wants to see, and its asking or the row that it holds
  Announced : (seat : ℕ) → At
  Want : (seat : ℕ) → At
  Hold : (seat : ℕ) → At
  -- a word of the op of a seat
  OpWord : (seat i : ℕ) → At
  -- the word of a bucket
  Bucket : (bucket : ℕ) → At
  -- a word of a row. The rows of a seat stand side by side
  RowWord : (row i : ℕ) → At

-- all words
pub record Store : Type 0 where
  pub announced : (seat : ℕ) → ℕ
  pub want : (seat : ℕ) → ℕ
  pub hold : (seat : ℕ) → ℕ
  pub op : (seat i : ℕ) → ℕ
  pub bucket : (bucket : ℕ) → ℕ
  pub row : (row i : ℕ) → ℕ

-- what a word holds
abbrev pub held_at : Store → At → ℕ
held_at s (Announced seat) = s.announced seat
held_at s (Want seat) = s.want seat
held_at s (Hold seat) = s.hold seat
held_at s (OpWord seat i) = s.op seat i
held_at s (Bucket bucket) = s.bucket bucket
held_at s (RowWord row i) = s.row row i

-- with another word there
abbrev pub with_word : Store → At → (word : ℕ) → Store
with_word s (Announced seat) word = record s { announced = put s.announced seat word }
with_word s (Want seat) word = record s { want = put s.want seat word }
with_word s (Hold seat) word = record s { hold = put s.hold seat word }
with_word s (OpWord seat i) word = record s { op = put_at s.op seat i word }
with_word s (Bucket bucket) word = record s { bucket = put s.bucket bucket word }
with_word s (RowWord row i) word = record s { row = put_at s.row row i word }

-- ---- one list of words has them all, in the order of the variants

-- the first number of a seat's rows
abbrev pub first_row : Plan → (seat : ℕ) → ℕ
first_row plan seat = seat * plan.rows

-- the words of a row that is full
abbrev pub most_words : Plan → ℕ
most_words plan = row_length (ample plan) (settings_of (ample plan)).items

-- the words that there are
abbrev pub IsAt : Plan → At → Type 0
IsAt plan (Announced seat) = seat < plan.settings.seats
IsAt plan (Want seat) = seat < plan.settings.seats
IsAt plan (Hold seat) = seat < plan.settings.seats
IsAt plan (OpWord seat i) = (seat < plan.settings.seats) × (i < SLOT_WORDS)
IsAt plan (Bucket bucket) = bucket < buckets_of plan.settings
IsAt plan (RowWord row i) = (row < plan.settings.seats * plan.rows) × (i < most_words plan)

-- the first word of the ops, of the buckets and of the rows
abbrev pub ops_start : Plan → ℕ
ops_start plan = 3 * plan.settings.seats

abbrev pub buckets_start : Plan → ℕ
buckets_start plan = ops_start plan + SLOT_WORDS * plan.settings.seats

abbrev pub rows_start : Plan → ℕ
rows_start plan = buckets_start plan + buckets_of plan.settings

-- how many words there are
abbrev pub word_count : Plan → ℕ
word_count plan = rows_start plan + plan.settings.seats * plan.rows * most_words plan

-- the number of a word, from 0
abbrev pub place : Plan → At → ℕ
place plan (Announced seat) = seat
place plan (Want seat) = plan.settings.seats + seat
place plan (Hold seat) = 2 * plan.settings.seats + seat
place plan (OpWord seat i) = ops_start plan + SLOT_WORDS * seat + i
place plan (Bucket bucket) = buckets_start plan + bucket
place plan (RowWord row i) = rows_start plan + row * most_words plan + i
