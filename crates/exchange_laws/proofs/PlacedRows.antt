-- In every run each row stands in one place, each seat has as many rows as at first, and scans see few rows held.
use Rattle.std.proofs.Common.{◌≡◌, ℕ, ◌+◌, ◌<◌, ◌≤◌, inl, inr, Bool, cond, List, ◌++◌, length, Option, Some, None, refl, sym, ap, ◌∙◌, arith, lt-ltb}
use Rattle.std.proofs.lemmas.Bool.{cases_lt}
use Rattle.std.proofs.lemmas.List.{length-append}
use Rattle.list_laws.proofs.Totals.{many}
use Rattle.exchange_model.specs.Plans.{Plan, holders_of}
use Rattle.exchange_model.specs.Laws.{RowsArePlaced, AllRowsArePlaced, FewAreHeld, rows_with, rows_in_scan, seen_held, times_with}
use Rattle.exchange_model.specs.Steps as S
use Rattle.exchange_model.specs.Steps.{Scan, Stand}
use Rattle.exchange_model.specs.Worlds.{World, world_after, seat_in}
use Rattle.exchange_laws.proofs.RowLists.{is_row, both, alone_long}
use Rattle.exchange_laws.proofs.Words.{seat_holds}
use Rattle.exchange_laws.proofs.Owned.{number_of, Owned, Room, left_of, held_of, pool, times, word_in, not_both}
use Rattle.exchange_laws.proofs.OwnedRuns.{owned_holds}

-- the rows that a scan has taken up are those not seen held and those seen held
scan_count : (row : ℕ) (scan : Option Scan) →
    many (is_row row) (rows_in_scan scan) ≡ many (is_row row) (left_of scan) + many (is_row row) (held_of scan)
scan_count row None = refl
scan_count row (Some (S.Seats k left held)) = both row left held
scan_count row (Some (S.Sees k t left held)) = both row left held
scan_count row (Some (S.Loads k t class left held)) = both row left held
scan_count row (Some (S.Gives k t other left held)) = both row left held

scan_long : (scan : Option Scan) → length (rows_in_scan scan) ≡ length (left_of scan) + length (held_of scan)
scan_long None = refl
scan_long (Some (S.Seats k left held)) = length-append left held
scan_long (Some (S.Sees k t left held)) = length-append left held
scan_long (Some (S.Loads k t class left held)) = length-append left held
scan_long (Some (S.Gives k t row left held)) = length-append left held

module _ (plan : Plan) (x : World) (h : Owned plan x) where
  -- how often a row is with a seat
  times_is : (seat row : ℕ) →
      times_with x seat row
      ≡ times row (seat_in x seat).free (seat_in x seat).kept (left_of (seat_in x seat).scan)
      (held_of (seat_in x seat).scan)
  times_is seat row =
      let now = seat_in x seat in
      let count = alone_long row (rows_with x seat) in
      let one = both row now.free (now.kept ++ rows_in_scan now.scan) in
      let two = both row now.kept (rows_in_scan now.scan) in
      let three = scan_count row now.scan in omega (arith, count, one, two, three)

  long_is : (seat : ℕ) → seat < plan.settings.seats → length (rows_with x seat) ≡ plan.spare
  long_is seat inside =
      let now = seat_in x seat in
      let one = length-append now.free (now.kept ++ rows_in_scan now.scan) in
      let two = length-append now.kept (rows_in_scan now.scan) in
      let three = scan_long now.scan in
      let full : pool plan seat ≡ plan.spare =
      ap (λ (c : Bool). cond c plan.spare 0) (lt-ltb seat plan.settings.seats inside) in
      omega (arith, one, two, three, full, (h.seats seat (seat_holds plan seat inside)).rows.all)

  pub placed : RowsArePlaced plan x
  placed = record {
    seats = long_is;
    once = λ seat row inside.
        omega (arith, times_is seat row, (h.seats seat (seat_holds plan seat inside)).rows.once row);
    one_seat = λ seat other row inside less some more.
        let a = (h.seats seat (seat_holds plan seat inside)).rows.mine row (omega (arith, times_is seat row, some)) in
        let b = (h.seats other (seat_holds plan other less)).rows.mine row (omega (arith, times_is other row, more)) in
        ap number_of (sym a.0 ∙ b.0);
    one_bucket = λ a b less few same. ap number_of (sym (h.words a less).0 ∙ ap h.at same ∙ (h.words b few).0);
    not_both = λ seat bucket inside less.
        let row = word_in plan x bucket in
        elim (cases_lt 0 (times_with x seat row)) [
          | inl some ↦
              let a = (h.seats seat (seat_holds plan seat inside)).rows.mine row
              (omega (arith, times_is seat row, some)) in
              absurd (not_both plan h.at seat row bucket a.0 (h.words bucket less).0)
          | inr none ↦ omega (arith, none)
        ];
  }

  -- a scan has seen fewer rows held than there are who can hold
  few : (seat : ℕ) (some : 1 ≤ holders_of plan.settings) (stand : Stand) (free kept : List ℕ) (scan : Option Scan) →
      Room plan seat stand free kept scan → length (seen_held scan) < holders_of plan.settings
  few seat some stand free kept None room = omega (arith, some)
  few seat some stand free kept (Some (S.Seats k left held)) room =
      omega (arith, room.at_seat.few, room.at_seat.within)
  few seat some stand free kept (Some (S.Sees k t left held)) room =
      omega (arith, room.at_seat.few, room.at_seat.within)
  few seat some stand free kept (Some (S.Loads k t class left held)) room =
      omega (arith, room.at_seat.few, room.at_seat.within)
  few seat some stand free kept (Some (S.Gives k t row left held)) room =
      omega (arith, room.at_seat.few, room.at_seat.within)

  pub few_seen : (seat : ℕ) → seat < plan.settings.seats →
      length (seen_held (seat_in x seat).scan) < holders_of plan.settings
  few_seen seat inside =
      let now = seat_in x seat in
      few seat (omega (arith, inside)) now.stand now.free now.kept now.scan
      (h.seats seat (seat_holds plan seat inside)).room

-- each row stands in one place
pub all_rows_are_placed : AllRowsArePlaced
all_rows_are_placed plan events run = placed plan (world_after plan events) (owned_holds plan events run)

-- who can hold keeps back one row at most
pub few_are_held : FewAreHeld
few_are_held plan events seat run inside = few_seen plan (world_after plan events)
    (owned_holds plan events run) seat inside
