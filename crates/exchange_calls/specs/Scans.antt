-- A scan of the hold words, by which a seat finds which of its rows are free.
use Rattle.std.specs.Prelude.{◌≡◌, ℕ, List, []}
use Rattle.plain_map.specs.declared.calls.Call.{Call}
use Rattle.exchange_model.specs.Codes.{time_in}
use Rattle.exchange_model.specs.Steps.{Seats, Sees}
use Rattle.exchange_model.specs.Goes.{ScanFate, ScansOn, after_scan, scanned, seats_from}
use Rattle.exchange_calls.specs.Going.{Going}
use Rattle.exchange_calls.specs.Hands.{making}
use Rattle.exchange_calls.specs.OwnRowsView.{free_of, kept_of}
use Rattle.exchange_calls.specs.declared.own_rows.OwnRows.{OwnRows}

-- where an update stands after a step of its scan. The first state is that of the seat without the scan
abbrev pub scan_to : Going → Call → ScanFate → Going
scan_to base call next = making (record base { now = scanned base.now next }) call (after_scan base.now.free next)

-- the scan begins: none of these rows is free, and the others are looked for
pub record IsScanning (now : Going) (rows : OwnRows) : Type 0 where
  pub base : Going
  pub call : Call
  pub none : free_of rows ≡ []
  pub goes : now ≡ scan_to base call (seats_from base.plan base.seat 0 (kept_of rows) [])

-- all who can hold before this one are looked at, and these rows were not seen held, or were
pub record AtHolder (base now : Going) (call : Call) (holder : ℕ) (rows : OwnRows) : Type 0 where
  pub first : rows.next ≡ 0
  pub goes : now ≡ scan_to base call (seats_from base.plan base.seat holder (free_of rows) (kept_of rows))

pub record IsAtHolder (now : Going) (holder : ℕ) (rows : OwnRows) : Type 0 where
  pub base : Going
  pub call : Call
  pub at : AtHolder base now call holder rows

-- its hold word is next
pub record IsAtHold (now : Going) (holder : ℕ) : Type 0 where
  pub base : Going
  pub call : Call
  pub left : List ℕ
  pub held : List ℕ
  pub goes : now ≡ scan_to base call (ScansOn (Seats holder left held))

-- it asks by this word, and what it wants is next
pub record IsAsked (now : Going) (holder word : ℕ) : Type 0 where
  pub base : Going
  pub call : Call
  pub left : List ℕ
  pub held : List ℕ
  pub goes : now ≡ scan_to base call (ScansOn (Sees holder (time_in word) left held))
