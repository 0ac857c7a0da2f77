-- What the calls from C on a lasting table promise, of the holders that the handles lead to before and after.
use Rattle.std.specs.Prelude.{◌≡◌, ◌≢◌, ℕ, zero, suc, ◌≤◌, ◌<◌, ◌⊎◌, List, [], ◌∷◌, ◌++◌, length, map, All, IsPermutation, Option, Some, None}
use Rattle.std.specs.Arc.{arc_value}
use Rattle.step_counts.specs.declared.settings.Settings.{Settings}
use Rattle.plain_map.specs.declared.keys.Key.{Key}
use Rattle.plain_map.specs.declared.keys.Pair.{Pair}
use Rattle.plain_map.specs.declared.calls.Call.{Call}
use Rattle.lasting_table.specs.Values.{IsSame, TableValue}
use Rattle.lasting_table.specs.Tables.{new_seats}
use Rattle.flowdir_c.specs.declared.answer.Answer.{Answer}
use Rattle.flowdir_c.specs.declared.answer.FlowPair.{FlowPair}
use Rattle.flowdir_c.specs.declared.lasting_holder.LastingHolder.{LastingHolder}
use Rattle.flowdir_c.specs.declared.lasting_peeker.LastingPeeker.{LastingPeeker}
use Rattle.flowdir_c.specs.declared.lasting_options.LastingOptions.{LastingOptions}
use Rattle.flowdir_c.specs.Fit.{AreFitPairs}
use Rattle.flowdir_c.specs.Told.{pair_of}
use Rattle.flowdir_c.specs.LastingAsked.{AreAsked, AreWithin, plan_in}
use Rattle.flowdir_c.specs.LastingShelves.{LastHasBrought, LastHasCopied, LastWasStopped, LastingValue}
use Rattle.flowdir_c.specs.LastingTold.{CannotAsk, CannotCopy, HasCopied, HasPeeked, HasReplied}

-- a table was opened so, and the last of its seats has brought the pairs in some order, each of which was new. The
-- other seats are new. Options and pairs fit
pub record Opens (options : LastingOptions) (first : List FlowPair) (holders : List LastingValue) : Type 0 where
  pub shelf : LastingValue
  pub is : holders ≡ shelf ∷ []
  pub fit : AreWithin options
  pub fit_pairs : AreFitPairs (map pair_of first)
  pub settings : Settings
  pub asked : AreAsked options (Some settings)
  pub plan : shelf.table.plan ≡ plan_in settings options.seed
  pub pairs : List Pair
  pub all : IsPermutation (map pair_of first) pairs
  pub brought : LastHasBrought pairs (new_seats shelf.table 0 settings.seats) shelf.free
  pub a_place_each : settings.seats ≤ shelf.places

-- a table was opened so, and the last of its seats was stopped as it brought the pairs in some order
pub record LacksRoom (options : LastingOptions) (first : List FlowPair) : Type 0 where
  pub settings : Settings
  pub asked : AreAsked options (Some settings)
  pub table : TableValue
  pub plan : table.plan ≡ plan_in settings options.seed
  pub pairs : List Pair
  pub all : IsPermutation (map pair_of first) pairs
  pub stopped : LastWasStopped pairs (new_seats table 0 settings.seats)

-- the last of the seats that nobody had was taken
pub record TakesSeat (was now : List LastingValue) (seats : List LastingHolder) : Type 0 where
  pub before : LastingValue
  pub after : LastingValue
  pub holder : LastingHolder
  pub was_is : was ≡ before ∷ []
  pub now_is : now ≡ after ∷ []
  pub seat_is : seats ≡ holder ∷ []
  pub same : after.table ≡ before.table
  pub one : before.free ≡ after.free ++ holder.seat ∷ []
  pub places : after.places ≡ before.places
  pub of_table : arc_value holder.table ≡ after.table

-- the seat was given back, and can be taken again
pub record TakesBack (was now : List LastingValue) (seats : List LastingHolder) : Type 0 where
  pub before : LastingValue
  pub after : LastingValue
  pub holder : LastingHolder
  pub was_is : was ≡ before ∷ []
  pub now_is : now ≡ after ∷ []
  pub seat_is : seats ≡ holder ∷ []
  pub same : after.table ≡ before.table
  pub one : after.free ≡ before.free ++ holder.seat ∷ []
  pub places : after.places ≡ before.places

-- a reader of the table
pub record HasReader (tables : List LastingValue) (readers : List LastingPeeker) : Type 0 where
  pub shelf : LastingValue
  pub peeker : LastingPeeker
  pub table_is : tables ≡ shelf ∷ []
  pub reader_is : readers ≡ peeker ∷ []
  pub of_table : arc_value peeker.table ≡ shelf.table

-- the handle leads to the same as before
pub record Stays (was now : List LastingValue) : Type 0 where
  pub before : LastingValue
  pub after : LastingValue
  pub was_is : was ≡ before ∷ []
  pub now_is : now ≡ after ∷ []
  pub same : after ≡ before

-- the status that C is told: 0 for an answer, else this one
abbrev pub status_or : (other : ℕ) → Option Answer → ℕ
status_or other (Some answer) = 0
status_or other None = other

-- what stands where the reply goes: as it was, where there is none
abbrev pub written : Answer → Option Answer → Answer
written was (Some answer) = answer
written was None = was

-- a call by a seat: what became of it, what its seat is then, and what C is told
pub record Called (call : Call) (was now : List LastingHolder) (before after : Answer) (status : ℕ) : Type 0 where
  pub holder : LastingHolder
  pub then : LastingHolder
  pub was_is : was ≡ holder ∷ []
  pub now_is : now ≡ then ∷ []
  pub told : Option Answer
  pub became : HasReplied call holder.seat then.seat told
  pub refuses : CannotAsk call holder.seat → told ≡ None
  pub same : IsSame holder.seat then.seat
  pub of_table : arc_value then.table ≡ arc_value holder.table
  pub status_is : status ≡ status_or 2 told
  pub written_is : after ≡ written before told

-- how many pairs C is told of: as before, where there is no copy
abbrev pub counted : (was : ℕ) → Option ℕ → ℕ
counted was (Some count) = count
counted was None = was

-- the status that C is told of a copy
abbrev pub copy_status : Option ℕ → ℕ
copy_status (Some count) = 0
copy_status None = 2

-- a copy of a bucket by a seat
pub record CopiedAt (bucket : ℕ) (was now : List LastingHolder) (pairs_before pairs_after : List FlowPair)
    (before after status : ℕ) : Type 0 where
  pub holder : LastingHolder
  pub then : LastingHolder
  pub was_is : was ≡ holder ∷ []
  pub now_is : now ≡ then ∷ []
  pub told : Option ℕ
  pub became : HasCopied bucket holder.seat then.seat pairs_before pairs_after told
  pub refuses : CannotCopy holder.seat bucket (length pairs_before) → told ≡ None
  pub same : IsSame holder.seat then.seat
  pub of_table : arc_value then.table ≡ arc_value holder.table
  pub status_is : status ≡ copy_status told
  pub written_is : after ≡ counted before told

-- a peek in so many tries
pub record Peeked (key : Key) (was now : List LastingPeeker) (before after : Answer) (status : ℕ) : Type 0 where
  pub peeker : LastingPeeker
  pub then : LastingPeeker
  pub was_is : was ≡ peeker ∷ []
  pub now_is : now ≡ then ∷ []
  pub told : Option Answer
  pub became : HasPeeked key peeker.reader then.reader told
  pub same : IsSame peeker.reader then.reader
  pub of_table : arc_value then.table ≡ arc_value peeker.table
  pub status_is : status ≡ status_or 6 told
  pub written_is : after ≡ written before told

-- a peek with no tries is refused, and nothing happens; any other is made
abbrev pub PeekedOrNot : Key → (tries : ℕ) → (was now : List LastingPeeker) → (before after : Answer) → (status : ℕ)
    → Type 0
PeekedOrNot key zero was now before after status = (status ≡ 2) × (now ≡ was) × (after ≡ before)
PeekedOrNot key (suc tries) was now before after status = Peeked key was now before after status

-- a copy of a bucket by the last of the seats, none of which is out
pub record CopiedAtRest (bucket : ℕ) (was now : List LastingValue) (pairs_before pairs_after : List FlowPair)
    (before after status : ℕ) : Type 0 where
  pub shelf : LastingValue
  pub then : LastingValue
  pub was_is : was ≡ shelf ∷ []
  pub now_is : now ≡ then ∷ []
  pub same : then.table ≡ shelf.table
  pub places : then.places ≡ shelf.places
  pub told : Option ℕ
  pub became : LastHasCopied bucket shelf.free then.free pairs_before pairs_after told
  pub status_is : status ≡ copy_status told
  pub written_is : after ≡ counted before told

-- ---- why a call fails

-- a table cannot be opened so: the options are out of their ranges, or the pairs cannot be kept or have a key twice
abbrev pub IsUnfit : LastingOptions → List FlowPair → Type 0
IsUnfit options first = AreWithin options → AreFitPairs (map pair_of first) → ⊥

-- a seat is out
abbrev pub HasOneOut : List LastingValue → Type 0
HasOneOut holders =
    (shelf : LastingValue) × (holders ≡ shelf ∷ []) × (length shelf.free < shelf.table.plan.settings.seats)

-- each seat is out
abbrev pub HasNoSeat : List LastingValue → Type 0
HasNoSeat holders = (shelf : LastingValue) × (holders ≡ shelf ∷ []) × (shelf.free ≡ [])

-- there is no place for one more seat
abbrev pub HasNoPlace : List LastingValue → Type 0
HasNoPlace holders = (shelf : LastingValue) × (holders ≡ shelf ∷ []) × (shelf.places ≤ length shelf.free)
