-- What a lasting table is opened with, and the table of today that is its ghost: of full depth from the start, and with
-- ranges as long as they can be. A run of the ghost is shown beside each run of the lasting table. Its words stand
-- nowhere.
use Rattle.std.specs.Prelude.{◌≡◌, ℕ, ◌+◌, ◌-◌, ◌*◌, ◌^◌, ◌≤◌, List, replicate, All}
use Rattle.hash_bits.specs.declared.hashing.Hashing.{Hashing}
use Rattle.step_counts.specs.declared.settings.Settings.{Settings}
use Rattle.step_counts.specs.StepCounts.{automatic_rows_of}
use Rattle.plain_map.specs.declared.keys.Key.{Key}
use Rattle.plain_map.specs.declared.keys.Pair.{Pair}
use Rattle.plain_map.specs.PlainObject.{class_of}
use Rattle.bucket_states.specs.Parts.{HasDistinctKeys}
use Rattle.table_model.specs.Setup.{Setup, IsPair, HaveRoom, rules_of}
use Rattle.plain_map.specs.Updates.{number_limit}

-- its settings, the hashing, the pairs that it begins with, and how many rows each seat has
pub record Plan : Type 0 where
  pub settings : Settings
  pub hashing : Hashing
  pub first : List Pair
  pub rows : ℕ

-- so many updates a seat may make: an announcement has room for their numbers, and a bucket word for the generations
-- that come of them
abbrev pub MOST_UPDATES : ℕ
MOST_UPDATES = 2 ^ 48

-- the ghost has ranges for so many updates of each seat
unfoldable pub ample : Plan → Setup
ample plan = record {
  shape = record {
    settings = plan.settings;
    ranges = replicate plan.settings.seats (automatic_rows_of plan.settings MOST_UPDATES);
    limit = number_limit;
  };
  hashing = plan.hashing;
  first = plan.first;
}

-- how many buckets there are: one for each class
abbrev pub buckets_of : Settings → ℕ
buckets_of s = 2 ^ s.depth

-- the bucket of a key is its class
abbrev pub bucket_for : Setup → Key → ℕ
bucket_for setup key = class_of (rules_of setup) key

-- so many of its rows a seat looks at with each update, whether they are still in use
abbrev pub PIECE : ℕ
PIECE = 3

-- the rows that a seat must have for pieces of three: one for each bucket and each other seat, as many again while a
-- sweep is under way, and three
abbrev pub least_rows : Settings → ℕ
least_rows s = 2 * (buckets_of s + s.seats) + 1

-- a table can be opened so: at its full depth, with rows enough, and few enough that a bucket word can tell them
pub record IsPlan (plan : Plan) : Type 0 where
  pub deep : plan.settings.start ≡ plan.settings.depth
  pub rows : least_rows plan.settings ≤ plan.rows
  pub few : plan.rows ≤ 2 ^ 14
  pub pairs : All IsPair plan.first
  pub distinct : HasDistinctKeys plan.first
  pub room : HaveRoom (rules_of (ample plan)) plan.first
