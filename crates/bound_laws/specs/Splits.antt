-- How many splits there are after the opening: each gives one leaf more.
use Rattle.std.specs.Prelude.{ℕ, ◌+◌, ◌≤◌, List, length, count_by}
use Rattle.word_rows.specs.Shape.{Shape}
use Rattle.table_model.specs.declared.events.Event.{Event}
use Rattle.table_model.specs.Setup.{Setup}
use Rattle.table_model.specs.Worlds.{IsRun, first_leaves}
use Rattle.table_model.specs.Reading.{bucket_at, row_of}
use Rattle.table_model.specs.Closed.{closed_buckets}
use Rattle.table_model.specs.Promises.{words_in}
use Rattle.table_model.specs.Needs.{splits_in, inserted_in}

-- how many of the buckets in use are frozen
abbrev pub frozen_in_use : Shape → List ℕ → ℕ
frozen_in_use shape words =
    count_by (λ bucket. (bucket_at shape words (row_of shape words bucket)).frozen) (closed_buckets shape words)

-- the leaves that have come beside those of the opening, and the frozen buckets in use, are together at most as many
-- as the prefixes that can be split: a frozen bucket is one of these, and each split was of another
abbrev pub SplitsAreFew : Type 0
SplitsAreFew =
    (setup : Setup) (events : List Event) → IsRun setup events →
    length (closed_buckets setup.shape (words_in setup events)) + frozen_in_use setup.shape (words_in setup events)
    ≤ length (first_leaves setup) + splits_in setup (inserted_in events)
