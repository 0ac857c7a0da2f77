-- What the calls from C promise, of the holders that the handles lead to before and after.
use Rattle.std.specs.Prelude.{◌≡◌, ℕ, ◌+◌, ◌≤◌, ◌⊎◌, true, false, List, [], ◌∷◌, ◌++◌, length, map, reverse, IsPermutation, slice_get}
use Rattle.std.specs.Prelude.{Option, Some, None, IsSomeAnd}
use Rattle.std.specs.Arc.{arc_value}
use Rattle.step_counts.specs.declared.settings.Settings.{Settings}
use Rattle.step_counts.specs.StepCounts.{automatic_rows_of, step_bound}
use Rattle.plain_map.specs.declared.keys.Key.{Key}
use Rattle.plain_map.specs.declared.keys.Pair.{Pair}
use Rattle.plain_map.specs.declared.calls.Call.{Call}
use Rattle.leaf_laws.specs.Leaves.{rows_by}
use Rattle.shared_table.specs.Readers.{StaysReader}
use Rattle.shared_table.specs.Values.{IsSame, TableValue, new_seat, new_seats}
use Rattle.flowdir_c.specs.declared.answer.Answer.{Answer}
use Rattle.flowdir_c.specs.declared.answer.FlowPair.{FlowPair}
use Rattle.flowdir_c.specs.declared.answer.Told.{Told}
use Rattle.flowdir_c.specs.declared.holder.Holder.{Holder}
use Rattle.flowdir_c.specs.declared.peeker.Peeker.{Peeker}
use Rattle.flowdir_c.specs.declared.options.Options.{Options}
use Rattle.flowdir_c.specs.declared.options.Rows.{Rows}
use Rattle.flowdir_c.specs.Asked.{AreOptions, rows_of}
use Rattle.flowdir_c.specs.Fit.{AreFit, AreFitPairs, LackRoom, rules_in}
use Rattle.flowdir_c.specs.Told.{HasTold, calls_after, pair_of, status_of, written}
use Rattle.flowdir_c.specs.Glimpsed.{HasGlimpsed}
use Rattle.flowdir_c.specs.Opened.{IsOpened}
use Rattle.flowdir_c.specs.Shelves.{ArePairsOf, HasSeatOut, IsLeftBy, ShelfValue, WasLeftTo}

-- the bound of an update, if there are settings
abbrev pub bound_in : Option Settings → ℕ
bound_in None = 0
bound_in (Some settings) = step_bound settings

-- the bound of an update for such options, or 0
abbrev pub IsBoundOf : Options → ℕ → Type 0
IsBoundOf options bound = (made : Option Settings) × AreOptions options made × (bound ≡ bound_in made)

-- the rows that suffice a seat for so many updates
abbrev pub AreRowsFor : Options → (updates : ℕ) → Rows → Type 0
AreRowsFor options updates rows =
    (settings : Settings) × AreOptions options (Some settings) × (rows_of rows ≡ automatic_rows_of settings updates)

-- the rows that suffice a seat for so many updates where no more than so many keys come
abbrev pub AreRowsBy : Options → (updates keys : ℕ) → Rows → Type 0
AreRowsBy options updates keys rows =
    (settings : Settings) × AreOptions options (Some settings) × (rows_of rows ≡ rows_by settings updates keys)

-- a table runs that was opened so, with these pairs in some order, and nobody has had any of its seats; options and
-- pairs fit
pub record Opens (options : Options) (first : List FlowPair) (holders : List ShelfValue) : Type 0 where
  pub shelf : ShelfValue
  pub is : holders ≡ shelf ∷ []
  pub free : shelf.free ≡ options.seats
  pub none_back : shelf.back ≡ []
  pub none_left : shelf.left ≡ None
  pub unlisted : shelf.is_listed ≡ false
  pub none_listed : shelf.pairs ≡ []
  pub a_place_each : options.seats ≤ shelf.places
  pub fit : AreFit options
  pub fit_pairs : AreFitPairs (map pair_of first)
  pub settings : Settings
  pub asked : AreOptions options (Some settings)
  pub pairs : List Pair
  pub all : IsPermutation (map pair_of first) pairs
  pub runs : IsSomeAnd shelf.table (λ t. IsOpened settings options.seed (rows_of options.rows) pairs t.setup)

-- one seat more was given back
pub record TakesBack (was now : List ShelfValue) (seats : List Holder) : Type 0 where
  pub before : ShelfValue
  pub after : ShelfValue
  pub holder : Holder
  pub was_is : was ≡ before ∷ []
  pub now_is : now ≡ after ∷ []
  pub seat_is : seats ≡ holder ∷ []
  pub same : after.table ≡ before.table
  pub free : after.free ≡ before.free
  pub back : after.back ≡ before.back ++ holder.seat ∷ []
  pub places : after.places ≡ before.places
  pub left : after.left ≡ before.left
  pub is_listed : after.is_listed ≡ before.is_listed
  pub pairs : after.pairs ≡ before.pairs

-- the last of the seats that nobody had had was taken: it is as the table's opening made it, and has made no call
pub record TakesSeat (was now : List ShelfValue) (seats : List Holder) : Type 0 where
  pub before : ShelfValue
  pub after : ShelfValue
  pub holder : Holder
  pub was_is : was ≡ before ∷ []
  pub now_is : now ≡ after ∷ []
  pub seat_is : seats ≡ holder ∷ []
  pub same : after.table ≡ before.table
  pub one : after.free + 1 ≡ before.free
  pub back : after.back ≡ before.back
  pub places : after.places ≡ before.places
  pub left : after.left ≡ before.left
  pub is_listed : after.is_listed ≡ before.is_listed
  pub pairs : after.pairs ≡ before.pairs
  pub of_table : Some (arc_value holder.directory) ≡ after.table
  pub new : holder.seat ≡ new_seat (arc_value holder.directory) after.free
  pub unasked : holder.calls ≡ 0

-- a reader of the table
pub record HasReader (tables : List ShelfValue) (readers : List Peeker) : Type 0 where
  pub shelf : ShelfValue
  pub peeker : Peeker
  pub table_is : tables ≡ shelf ∷ []
  pub reader_is : readers ≡ peeker ∷ []
  pub of_table : Some (arc_value peeker.directory) ≡ shelf.table

-- a call by a seat: what became of it, what its seat is then, and what C is told
pub record Called (call : Call) (was now : List Holder) (before after : Answer) (status : ℕ) : Type 0 where
  pub holder : Holder
  pub then : Holder
  pub was_is : was ≡ holder ∷ []
  pub now_is : now ≡ then ∷ []
  pub told : Told
  pub became : HasTold call holder.calls holder.seat then.seat told
  pub calls : then.calls ≡ calls_after told holder.calls
  pub same : IsSame holder.seat then.seat
  pub of_table : arc_value then.directory ≡ arc_value holder.directory
  pub status_is : status ≡ status_of told
  pub written_is : after ≡ written before told

-- a peek: its reply is that of some moment, and what its reader is then
pub record Peeked (key : Key) (was now : List Peeker) (after : Answer) (status : ℕ) : Type 0 where
  pub peeker : Peeker
  pub then : Peeker
  pub was_is : was ≡ peeker ∷ []
  pub now_is : now ≡ then ∷ []
  pub held : HasGlimpsed key peeker.reader then.reader after
  pub same : StaysReader peeker.reader then.reader
  pub of_table : arc_value then.directory ≡ arc_value peeker.directory
  pub status_is : status ≡ 0

-- the table that ran is closed, and its words are those of a run of it that left its seats as they were given back, and
-- those that nobody had had as they were opened
pub record IsClosed (was now : List ShelfValue) : Type 0 where
  pub before : ShelfValue
  pub after : ShelfValue
  pub was_is : was ≡ before ∷ []
  pub now_is : now ≡ after ∷ []
  pub table : TableValue
  pub ran : before.table ≡ Some table
  pub closed : after.table ≡ None
  pub left : IsSomeAnd after.left (WasLeftTo table.setup (before.back ++ reverse (new_seats table 0 before.free)))
  pub none_free : after.free ≡ 0
  pub none_back : after.back ≡ []
  pub unlisted : after.is_listed ≡ false
  pub pairs : after.pairs ≡ before.pairs

-- the pairs of a closed table are listed, and how many there are; what it left stays, and no table runs as before
pub record IsCounted (was now : List ShelfValue) (count : ℕ) : Type 0 where
  pub before : ShelfValue
  pub after : ShelfValue
  pub was_is : was ≡ before ∷ []
  pub now_is : now ≡ after ∷ []
  pub same : after.table ≡ before.table
  pub free : after.free ≡ before.free
  pub back : after.back ≡ before.back
  pub places : after.places ≡ before.places
  pub left : after.left ≡ before.left
  pub is_listed : after.is_listed ≡ true
  pub are : IsSomeAnd before.left (λ left. ArePairsOf left after.pairs)
  pub count_is : count ≡ length after.pairs

-- the handle leads to the same as before
pub record StaysListed (was now : List ShelfValue) : Type 0 where
  pub before : ShelfValue
  pub after : ShelfValue
  pub was_is : was ≡ before ∷ []
  pub now_is : now ≡ after ∷ []
  pub same : after ≡ before

-- the pair at this place, if it is there
abbrev pub IsPairAt : List ShelfValue → (at : ℕ) → FlowPair → Type 0
IsPairAt holders at pair =
    (shelf : ShelfValue) × (holders ≡ shelf ∷ []) × (slice_get shelf.pairs at ≡ Some (pair_of pair))

-- a table runs that was opened so, with the pairs that a closed one left and listed, and nobody has had any of its
-- seats; the options fit
pub record Reopens (options : Options) (closed opened : List ShelfValue) : Type 0 where
  pub shelf : ShelfValue
  pub next : ShelfValue
  pub closed_is : closed ≡ shelf ∷ []
  pub opened_is : opened ≡ next ∷ []
  pub listed : IsSomeAnd shelf.left (λ left. ArePairsOf left shelf.pairs)
  pub free : next.free ≡ options.seats
  pub none_back : next.back ≡ []
  pub none_left : next.left ≡ None
  pub unlisted : next.is_listed ≡ false
  pub none_listed : next.pairs ≡ []
  pub a_place_each : options.seats ≤ next.places
  pub fit : AreFit options
  pub settings : Settings
  pub asked : AreOptions options (Some settings)
  pub runs : IsSomeAnd next.table (λ t.
      IsOpened settings options.seed (rows_of options.rows) shelf.pairs t.setup)

-- ---- why a call fails

-- a table cannot be opened so: the options are out of their ranges, or the pairs cannot be kept or have a key twice
abbrev pub IsUnfit : Options → List FlowPair → Type 0
IsUnfit options first = AreFit options → AreFitPairs (map pair_of first) → ⊥

-- more of the pairs that were listed are of one class than it has room for
abbrev pub LacksRoom : Options → List ShelfValue → Type 0
LacksRoom options holders =
    (shelf : ShelfValue) × (holders ≡ shelf ∷ []) × LackRoom (rules_in options) shelf.pairs

-- what is closed was left by a run of a table with the same room of a class, greatest depth and hashing
abbrev pub IsLeftAlike : Options → List ShelfValue → Type 0
IsLeftAlike options holders =
    (shelf : ShelfValue) × (holders ≡ shelf ∷ []) × IsLeftBy (rules_in options) shelf

-- a table runs, of whose seats one was taken and not given back
abbrev pub HasOneOut : List ShelfValue → Type 0
HasOneOut holders = (shelf : ShelfValue) × (holders ≡ shelf ∷ []) × HasSeatOut shelf

-- no table runs
abbrev pub RunsNone : List ShelfValue → Type 0
RunsNone holders = (shelf : ShelfValue) × (holders ≡ shelf ∷ []) × (shelf.table ≡ None)

-- no table runs, or each of its seats was taken before
abbrev pub HasNoSeat : List ShelfValue → Type 0
HasNoSeat holders =
    (shelf : ShelfValue) × (holders ≡ shelf ∷ []) × ((shelf.table ≡ None) ⊎ (shelf.free ≡ 0))

-- there is no place for one more seat that is given back
abbrev pub HasNoPlace : List ShelfValue → Type 0
HasNoPlace holders =
    (shelf : ShelfValue) × (holders ≡ shelf ∷ []) × (shelf.places ≤ length shelf.back)

-- no table was closed
abbrev pub IsUnclosed : List ShelfValue → Type 0
IsUnclosed holders = (shelf : ShelfValue) × (holders ≡ shelf ∷ []) × (shelf.left ≡ None)

-- no pairs of a closed table are listed
abbrev pub IsUnlisted : List ShelfValue → Type 0
IsUnlisted holders = (shelf : ShelfValue) × (holders ≡ shelf ∷ []) × (shelf.is_listed ≡ false)

-- no pair is listed at this place
abbrev pub HasNoPairAt : List ShelfValue → (at : ℕ) → Type 0
HasNoPairAt holders at =
    (shelf : ShelfValue) × (holders ≡ shelf ∷ []) × (slice_get shelf.pairs at ≡ None)
