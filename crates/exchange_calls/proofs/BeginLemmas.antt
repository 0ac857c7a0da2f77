-- How an update begins: with a row that is free, or with a scan.
use Rattle.std.proofs.Common.{◌≡◌, ℕ, ◌∙◌, false, List, [], ◌∷◌, Option, Some, None, refl, sym, ap}
use Rattle.std.specs.Option.{is_some}
use Rattle.plain_map.specs.declared.calls.Call.{Call}
use Rattle.exchange_model.specs.Steps.{Scan}
use Rattle.exchange_model.specs.Goes.{ScanFate, ScansOn, Scanned, first_fate, scanned, seats_from, with_free}
use Rattle.exchange_model.specs.Worlds.{stand_at}
use Rattle.exchange_calls.specs.Going.{Going, begun_update, told_by, with_now}
use Rattle.exchange_calls.specs.Hands.{making}
use Rattle.exchange_calls.specs.OwnRowsView.{free_of, kept_of}
use Rattle.exchange_calls.specs.Rows.{first_of}
use Rattle.exchange_calls.specs.Scans.{IsScanning, scan_to}
use Rattle.exchange_calls.specs.Seats.{begun}
use Rattle.exchange_calls.specs.Tries.{AreRowsOf}
use Rattle.exchange_calls.specs.declared.own_rows.OwnRows.{OwnRows}

-- a seat with these rows
abbrev pub having : Going → (free kept : List ℕ) → (scan : Option Scan) → Going
having g free kept scan = record g { now = record g.now { free = free; kept = kept; scan = scan }; told = None }

-- one that begins with them
abbrev starting : Going → (free kept : List ℕ) → (scan : Option Scan) → Call → Going
starting g free kept scan call = making (having g free kept scan) call (with_free free)

module _ (f : Going) (call : Call) (rest : f.now.scan ≡ None) where
  -- a row is free
  free_begins : (kept free : List ℕ) (row : ℕ) → Some row ≡ first_of free → f.now.free ≡ free → f.now.kept ≡ kept →
      begun_update f call ≡ starting f free kept f.now.scan call
  free_begins kept [] row some free_is kept_is = cc
  free_begins kept (one ∷ others) row some free_is kept_is =
      (λ i. begun_update (record f {
        now = record f.now { free = free_is i; kept = kept_is i; scan = rest i };
      }) call)
      ∙ ap (λ (s : Option Scan). starting f (one ∷ others) kept s call) (sym rest)

  -- or none is
  none_begins : (kept free : List ℕ) → None ≡ first_of free → f.now.free ≡ free → f.now.kept ≡ kept →
      begun_update f call ≡ scan_to (having f [] [] None) call (seats_from f.plan f.seat 0 kept [])
  none_begins kept (one ∷ others) none free_is kept_is = cc
  none_begins kept [] none free_is kept_is =
      (λ i. begun_update (record f {
        now = record f.now { free = free_is i; kept = kept_is i; scan = rest i };
      }) call)
      ∙ by (seats_from f.plan f.seat 0 kept [])
    where
      ends : (held left : List ℕ) →
          with_now f (record (scanned (having f [] [] None).now (Scanned left held)) {
            stand = stand_at call (first_fate left None);
          }) (told_by (first_fate left None) None)
          ≡ scan_to (having f [] [] None) call (Scanned left held)
      ends held [] = refl
      ends held (row ∷ left) = refl

      by : (r : ScanFate) →
          with_now f (record (scanned (having f [] [] None).now r) {
            stand = stand_at call (first_fate (scanned (having f [] [] None).now r).free
                (scanned (having f [] [] None).now r).scan);
          }) (told_by (first_fate (scanned (having f [] [] None).now r).free
          (scanned (having f [] [] None).now r).scan) None)
          ≡ scan_to (having f [] [] None) call r
      by (ScansOn scan) = refl
      by (Scanned left held) = ends held left

  module _ (rows : OwnRows) (are : AreRowsOf f rows) (now : Going) (begins : now ≡ begun_update f call) where
    pub begun_free : (row : ℕ) → Some row ≡ first_of (free_of rows) → now ≡ begun f rows call
    begun_free row some =
        begins ∙ free_begins (kept_of rows) (free_of rows) row some (sym are.free) (sym are.kept)

    pub none_free : (free : List ℕ) → None ≡ first_of free → free ≡ []
    none_free [] e = refl
    none_free (row ∷ free) e = cc

    pub scan_starts : None ≡ first_of (free_of rows) →
        now ≡ scan_to (having f [] [] None) call (seats_from f.plan f.seat 0 (kept_of rows) [])
    scan_starts none = begins ∙ none_begins (kept_of rows) (free_of rows) none (sym are.free) (sym are.kept)

    -- then it scans
    abbrev pub begun_scan : None ≡ first_of (free_of rows) → IsScanning now rows
    begun_scan none = record {
      base = having f [] [] None;
      call = call;
      none = none_free (free_of rows) none;
      goes = scan_starts none;
    }

    -- and has what is left
    pub scan_begun : (end : Going) (later : OwnRows) →
        end ≡ scan_to (having f [] [] None) call (Scanned (free_of later) (kept_of later)) → end ≡ begun f later call
    scan_begun end later at =
        at ∙ ap (λ (s : Option Scan). starting f (free_of later) (kept_of later) s call) (sym rest)

-- no row is free
pub none_there : (o : Option ℕ) (free : List ℕ) → false ≡ is_some o → o ≡ first_of free → None ≡ first_of free
none_there None free no_ e = e
none_there (Some row) free no_ e = cc
