-- What a run tells of the closed table that it leaves: its published rows by positions, its calls, and that each piece
-- can be placed after those of smaller places.
use Rattle.std.specs.Prelude.{◌≡◌, ℕ, ◌+◌, List, length, Some, slice_get}
use Rattle.plain_map.specs.declared.records.Record.{Record}
use Rattle.plain_map.specs.declared.records.Pending.{Pending}
use Rattle.word_rows.specs.Shape.{Shape}
use Rattle.table_model.specs.Setup.{Setup, seats_of}
use Rattle.table_model.specs.Order.{Piece}
use Rattle.list_laws.proofs.Lists.{In}
use Rattle.placing_laws.proofs.Stuck.{Ranked}
use Rattle.closed_laws.proofs.Book.{Book, Written}
use Rattle.closed_laws.proofs.Ledger.{Ledger}
use Rattle.table_model.specs.Closing.{closing_with, log_of}

-- all that is told
pub record Told (words : List ℕ) (logs : List (List Record)) (begun : List Pending) : Type 0 where
  pub setup : Setup
  pub book : Book
  pub written : Written setup words book
  pub ledger : Ledger setup (closing_with words logs begun) book
  pub place : Piece → ℕ
  pub ranked : Ranked setup (closing_with words logs begun) place
  -- there is a list of records for each seat, and its k-th record is of the seat's k-th call
  pub seats : length logs ≡ seats_of setup
  pub numbered : (seat i : ℕ) (r : Record) → slice_get (log_of logs seat) i ≡ Some r →
      (r.seat ≡ seat) × (r.number ≡ i + 1)
  -- and a call that had begun has the next number
  pub next : (p : Pending) → In p begun → p.number ≡ length (log_of logs p.seat) + 1

-- what holds of a table with this shape, whatever is told of it
abbrev pub AsTold : Shape → (words : List ℕ) (logs : List (List Record)) (begun : List Pending) →
    (Told words logs begun → Type 0) → Type 0
AsTold shape words logs begun Holds = (told : Told words logs begun) → told.setup.shape ≡ shape → Holds told
