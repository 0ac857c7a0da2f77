-- The other seats are looked at, and own rows before that.
use Rattle.std.proofs.Common.{◌≡◌, ◌≢◌, ℕ, ◌+◌, ◌%◌, ◌<◌, ◌≤◌, ◌∙◌, List, [], ◌∷◌, ◌++◌, length, None, refl, sym, ap, length-append, arith}
use Rattle.own_rows.specs.declared.rows.OwnRows.{OwnRows}
use Rattle.own_rows.specs.Rings.{numbers}
use Rattle.own_rows.specs.Rows.{AreSame, HasRows, IsSound, Rows}
use Rattle.lasting_model.specs.Plans.{ample}
use Rattle.lasting_model.specs.Codes.{held_row}
use Rattle.lasting_model.specs.Steps.{Update}
use Rattle.lasting_model.specs.Goes.{alone, by_giving, seats_from, without}
use Rattle.lasting_calls.specs.Going.{Going}
use Rattle.lasting_calls.specs.Desks.{IsOf}
use Rattle.lasting_calls.specs.Sweeps.{AtHold, AtSeat, HasSwept, swept_to, with_rows}
use Rattle.lasting_calls.specs.declared.desk.Desk.{Desk}
use Rattle.lasting_calls.proofs.PlaceLemmas.{ample_seats_are}
use Rattle.lasting_calls.proofs.GiveLemmas.{swept_desk, unswept_desk}
use Rattle.lasting_calls.proofs.SweepLemmas.{at_last, given_asking, given_none, given_row, kept_seats, own_passed, seat_next, seats_over}

module _ (f first : Going) (u : Update) (seat : ℕ) (rows : OwnRows) (a : AtSeat first f u seat rows) (desk : Desk)
    (is : IsOf f desk) where
  abbrev base : Going
  base = with_rows first a.at.free a.at.named

  pub base_desk : IsOf base desk
  base_desk =
      unswept_desk f base u a.left (seats_from (ample first.plan) first.seat seat [] a.gone) desk a.at.goes is

  pub first_desk : IsOf first desk
  first_desk = record {
    settings = base_desk.settings;
    hashing = base_desk.hashing;
    rows = base_desk.rows;
    seat = base_desk.seat;
  }

  -- its hold word is next
  abbrev pub holds_next : seat ≢ desk.seat → seat < desk.settings.seats → AtHold f seat
  holds_next other inside = record {
    first = base;
    update = u;
    left = a.left;
    gone = a.gone;
    goes = a.at.goes
        ∙ ap (swept_to base u a.left)
        (seat_next (ample first.plan) first.seat seat a.gone (λ e. other (e ∙ first_desk.seat))
        (omega (arith, inside, ample_seats_are first desk first_desk)));
  }

  -- it is passed over
  pub passed : seat ≡ desk.seat → AtSeat first f u (seat + 1) rows
  passed own = record {
    left = a.left;
    gone = a.gone;
    at = record {
      free = a.at.free;
      named = a.at.named;
      sound = a.at.sound;
      has = a.at.has;
      first_is = a.at.first_is;
      all = a.at.all;
      sweeps = a.at.sweeps;
      goes = a.at.goes
          ∙ ap (swept_to base u a.left)
          (own_passed (ample first.plan) first.seat seat a.gone (own ∙ sym first_desk.seat));
    };
  }

  module _ (now : Going) (word : ℕ)
      (settled : now ≡ swept_to base u a.left (by_giving (ample first.plan) first.seat seat a.gone word)) where
    -- it holds none of the rows that are gone
    without_row : by_giving (ample first.plan) first.seat seat a.gone word
        ≡ seats_from (ample first.plan) first.seat (seat + 1) [] a.gone → AtSeat first now u (seat + 1) rows
    without_row given = record {
      left = a.left;
      gone = a.gone;
      at = record {
        free = a.at.free;
        named = a.at.named;
        sound = a.at.sound;
        has = a.at.has;
        first_is = a.at.first_is;
        all = a.at.all;
        sweeps = a.at.sweeps;
        goes = settled ∙ ap (swept_to base u a.left) given;
      };
    }

    pub seat_asks : word % 2 ≡ 1 → AtSeat first now u (seat + 1) rows
    seat_asks odd = without_row (given_asking (ample first.plan) first.seat seat a.gone word odd)

    pub seat_idle : word % 2 ≢ 1 → word ≡ 0 → AtSeat first now u (seat + 1) rows
    seat_idle even none = without_row (given_none (ample first.plan) first.seat seat a.gone word even none)

    -- it holds a row
    pub seat_holds : (rows' : OwnRows) → IsSound rows' → AreSame rows rows' →
        ((r : Rows) → HasRows rows r → HasRows rows' (record r {
          named = r.named ++ alone (held_row word) r.gone;
          gone = without (held_row word) r.gone;
        })) → word % 2 ≢ 1 → word ≢ 0 → AtSeat first now u (seat + 1) rows'
    seat_holds rows' sound same kept even some = record {
      left = a.left;
      gone = without (held_row word) a.gone;
      at = record {
        free = a.at.free;
        named = a.at.named ++ alone (held_row word) a.gone;
        sound = sound;
        has = kept _ a.at.has;
        first_is = same.first ∙ a.at.first_is;
        all = same.rows ∙ a.at.all;
        sweeps = omega (arith, same.sweeps, a.at.sweeps);
        goes = settled
            ∙ ap (swept_to base u a.left) (given_row (ample first.plan) first.seat seat a.gone word even some)
            ∙ kept_seats first a.at.free a.at.named u a.left (ample first.plan) first.seat (seat + 1)
            (alone (held_row word) a.gone) (without (held_row word) a.gone);
      };
    }

  -- all are looked at, and what is gone is free
  pub all_looked : (rows' : OwnRows) → desk.settings.seats ≤ seat → IsSound rows' → rows'.first ≡ rows.first →
      rows'.rows ≡ rows.rows → ((r : Rows) → HasRows rows r → rows'.sweeps ≤ rows.sweeps + length r.gone) →
      ((r : Rows) → HasRows rows r → HasRows rows' (record r { free = r.free ++ numbers r.gone; gone = [] })) →
      HasSwept first f u rows'
  all_looked rows' over sound same count counted freed = record {
    swept = record first {
      now = record first.now { free = a.at.free ++ numbers a.gone; named = a.at.named; sweep = None };
    };
    same = refl;
    rest = tt;
    rows_are = record {
      sound = sound;
      has = freed _ a.at.has;
      first = same ∙ a.at.first_is;
      all = count ∙ a.at.all;
      sweeps = omega (
        arith,
        counted _ a.at.has,
        a.at.sweeps,
        length-append a.at.free (numbers a.gone),
        length_numbers a.gone,
      );
    };
    goes = a.at.goes
        ∙ ap (swept_to base u a.left)
        (seats_over (ample first.plan) first.seat seat a.gone
        (omega (arith, over, ample_seats_are first desk first_desk))
        (omega (arith, first_desk.seat, desk.within, ample_seats_are first desk first_desk)))
        ∙ at_last base u a.left a.gone;
  }
    where
      length_numbers : (gone : List (ℕ × ℕ)) → length (numbers gone) ≡ length gone
      length_numbers [] = refl
      length_numbers (row ∷ gone) = omega (arith, length_numbers gone)

-- the desk stays the same
pub still_desk : (f first now : Going) (u v : Update) (seat next : ℕ) (rows later : OwnRows) (desk : Desk) →
    AtSeat first f u seat rows → IsOf f desk → AtSeat first now v next later → IsOf now desk
still_desk f first now u v seat next rows later desk a is b =
    let there : IsOf first desk = first_desk f first u seat rows a desk is in
    swept_desk now (with_rows first b.at.free b.at.named) v b.left
    (seats_from (ample first.plan) first.seat next [] b.gone) desk b.at.goes
    (record { settings = there.settings; hashing = there.hashing; rows = there.rows; seat = there.seat })
