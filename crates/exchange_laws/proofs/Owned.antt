-- Each row stands in the word of one bucket, or with one seat: where, is told by a function of the row. So the rows of
-- a seat are touched by that seat alone.
use Rattle.std.proofs.Common.{◌≡◌, ◌≢◌, ℕ, ◌+◌, ◌<◌, ◌≤◌, List, [], length, Option, Some, None, sym, ap, ◌∙◌, arith}
use Rattle.std.specs.Prelude.{nat_lt, if◌then◌else◌, All}
use Rattle.list_laws.proofs.Totals.{many}
use Rattle.exchange_model.specs.Plans.{Plan, holders_of, buckets_of, rows_of}
use Rattle.exchange_model.specs.Codes.{row_in}
use Rattle.exchange_model.specs.Laws.{IsTaken}
use Rattle.exchange_model.specs.Steps as S
use Rattle.exchange_model.specs.Steps.{Step, Stand, Scan, SeatNow}
use Rattle.exchange_model.specs.Worlds.{World, Answer, seat_in}
use Rattle.exchange_laws.proofs.RowLists.{is_row}

-- in the word of a bucket, or with a seat
pub data Place : Type 0 where
  InWord : (bucket : ℕ) → Place
  WithSeat : (seat : ℕ) → Place

abbrev pub place_kind : Place → ℕ
place_kind (InWord b) = 0
place_kind (WithSeat p) = 1

abbrev pub number_of : Place → ℕ
number_of (InWord b) = b
number_of (WithSeat p) = p

-- the rows that a scan has taken up
abbrev pub left_of : Option Scan → List ℕ
left_of None = []
left_of (Some (S.Seats k left held)) = left
left_of (Some (S.Sees k t left held)) = left
left_of (Some (S.Loads k t bucket left held)) = left
left_of (Some (S.Gives k t row left held)) = left

abbrev pub held_of : Option Scan → List ℕ
held_of None = []
held_of (Some (S.Seats k left held)) = held
held_of (Some (S.Sees k t left held)) = held
held_of (Some (S.Loads k t bucket left held)) = held
held_of (Some (S.Gives k t row left held)) = held

-- how often a row stands in these lists
abbrev pub times : (row : ℕ) → (free kept left held : List ℕ) → ℕ
times row free kept left held =
    many (is_row row) free + (many (is_row row) kept + (many (is_row row) left + many (is_row row) held))

-- how many rows a seat has; a reader that can hold has none
abbrev pub pool : Plan → (holder : ℕ) → ℕ
pool plan holder = if nat_lt holder plan.settings.seats then plan.spare else 0

-- the rows of a seat: each stands once, is a row of the table, and is with the seat; and there are always as many
pub record Rows (plan : Plan) (at : ℕ → Place) (p : ℕ) (free kept left held : List ℕ) : Type 0 where
  pub once : (row : ℕ) → times row free kept left held ≤ 1
  pub mine : (row : ℕ) → 1 ≤ times row free kept left held → (at row ≡ WithSeat p) × (row < rows_of plan)
  pub all : length free + (length kept + (length left + length held)) ≡ pool plan p

-- whether a free row is still needed by the update in flight
abbrev pub needs_at : Step → ℕ
needs_at S.Scans = 0
needs_at (S.LoadWord turn) = 1
needs_at (S.LoadRow turn word words) = 1
needs_at (S.CheckWord turn word words) = 1
needs_at (S.LoadPending attempt) = 1
needs_at (S.LoadAnnounced attempt found) = 1
needs_at (S.LoadOp attempt found announced words) = 1
needs_at (S.StoreRow attempt found i) = 1
needs_at (S.Exchange attempt found) = 1
needs_at S.RaisePending = 1
needs_at (S.StoreOp i) = 1
needs_at S.Announce = 1
needs_at S.StoreWant = 0
needs_at S.StoreAsking = 0
needs_at S.HeldWord = 0
needs_at (S.TakeHold word) = 0
needs_at (S.HeldHead row) = 0
needs_at (S.HeldEntry row place left) = 0
needs_at (S.HeldReply row place) = 0
needs_at (S.GiveBack reply) = 0
needs_at (S.Over ending) = 0
needs_at (S.LowerPending ending) = 0
needs_at S.Stuck = 0

abbrev pub needs : Stand → ℕ
needs S.Idle = 0
needs (S.Goes call step) = needs_at step
needs (S.Glances aim glance) = 0

abbrev pub IsScan : Step → Type 0
IsScan S.Scans = Unit {0}
IsScan step = ⊥

abbrev pub IsScanning : Stand → Type 0
IsScanning S.Idle = ⊥
IsScanning (S.Goes call step) = IsScan step
IsScanning (S.Glances aim glance) = ⊥

-- a scan that has come to this holder: each before it, but the own seat, held one row at most
pub record AtSeat (plan : Plan) (p k : ℕ) (held : List ℕ) : Type 0 where
  pub within : k < holders_of plan.settings
  pub other : k ≢ p
  pub few : length held ≤ k
  pub past_own : p < k → length held + 1 ≤ k

-- while a scan is under way it has all rows of the seat; where none is, a free row is there that is needed
pub record Scanning (plan : Plan) (p k : ℕ) (stand : Stand) (free kept held : List ℕ) : Type 0 where
  pub stands : IsScanning stand
  pub no_free : free ≡ []
  pub no_kept : kept ≡ []
  pub at_seat : AtSeat plan p k held

abbrev pub Room : Plan → (p : ℕ) → Stand → (free kept : List ℕ) → Option Scan → Type 0
Room plan p stand free kept None = (IsScanning stand → ⊥) × (needs stand ≤ length free)
Room plan p stand free kept (Some (S.Seats k left held)) = Scanning plan p k stand free kept held
Room plan p stand free kept (Some (S.Sees k t left held)) = Scanning plan p k stand free kept held
Room plan p stand free kept (Some (S.Loads k t bucket left held)) = Scanning plan p k stand free kept held
Room plan p stand free kept (Some (S.Gives k t row left held)) = Scanning plan p k stand free kept held

pub record Private (plan : Plan) (at : ℕ → Place) (p : ℕ) (stand : Stand) (free kept : List ℕ)
    (scan : Option Scan) : Type 0 where
  pub rows : Rows plan at p free kept (left_of scan) (held_of scan)
  pub room : Room plan p stand free kept scan

abbrev pub PrivateOf : Plan → (ℕ → Place) → (p : ℕ) → SeatNow → Type 0
PrivateOf plan at p s = Private plan at p s.stand s.free s.kept s.scan

-- the row of a bucket
abbrev pub word_in : Plan → World → (bucket : ℕ) → ℕ
word_in plan x bucket = row_in plan (x.store.bucket bucket)

-- the row of each bucket stands in its word; the rows of each seat are with it; and no update was refused
pub record Owned (plan : Plan) (x : World) : Type 0 where
  pub long : length x.seats ≡ holders_of plan.settings
  pub at : ℕ → Place
  pub words : (b : ℕ) → b < buckets_of plan.settings →
      (at (word_in plan x b) ≡ InWord b) × (word_in plan x b < rows_of plan)
  pub seats : (q : ℕ) → q < holders_of plan.settings → PrivateOf plan at q (seat_in x q)
  pub taken : All (λ (a : Answer). IsTaken a.told) x.answers

-- ---- the lists of a seat

module _ (plan : Plan) (at : ℕ → Place) (p : ℕ) where
  -- rows that are counted as these are are the seat's too
  pub regrouped : (free kept left held free' kept' left' held' : List ℕ) → Rows plan at p free kept left held →
      ((row : ℕ) → times row free' kept' left' held' ≡ times row free kept left held) →
      length free' + (length kept' + (length left' + length held'))
      ≡ length free + (length kept + (length left + length held)) → Rows plan at p free' kept' left' held'
  regrouped free kept left held free' kept' left' held' r same long = record {
    once = λ row. omega (arith, r.once row, same row);
    mine = λ row some. r.mine row (omega (arith, some, same row));
    all = omega (arith, r.all, long);
  }

  -- a row that is with a seat stands in no bucket word
  pub not_both : (row b : ℕ) → at row ≡ WithSeat p → at row ≡ InWord b → ⊥
  not_both row b e f = omega (arith, ap place_kind (sym e ∙ f))
