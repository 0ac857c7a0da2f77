-- A seat as its table is opened.
use Rattle.std.proofs.Common.{◌≡◌, ◌*◌, ◌<◌, ◌∙◌, [], sym, ap, arith}
use Rattle.std.proofs.lemmas.Bool.{cond-true, lt-ltb}
use Rattle.std.specs.Prelude.{nat_lt}
use Rattle.std.specs.List.{range_with_len}
use Rattle.exchange_model.specs.Plans.{first_row}
use Rattle.exchange_model.specs.Steps.{SeatNow}
use Rattle.exchange_model.specs.Worlds.{opening_seat}
use Rattle.exchange_calls.specs.Desks.{IsOf}
use Rattle.exchange_calls.specs.Going.{Going}
use Rattle.exchange_calls.specs.OwnRowsView.{free_of, kept_of}
use Rattle.exchange_calls.specs.Seats.{IsSeatOf}
use Rattle.exchange_calls.specs.declared.desk.Desk.{Desk}
use Rattle.exchange_calls.specs.declared.hand.Hand.{Hand}
use Rattle.exchange_calls.specs.declared.own_rows.OwnRows.{OwnRows}

-- its rows are the seat's, and nothing is counted yet
pub seat_opened : (g : Going) (desk : Desk) (rows : OwnRows) (hand : Hand) → IsOf g desk →
    g.now ≡ opening_seat g.plan g.seat → desk.holder < desk.sizes.seats →
    free_of rows ≡ range_with_len (desk.holder * desk.sizes.spare) desk.sizes.spare → kept_of rows ≡ [] →
    IsSeatOf g (record { rows = rows; hand = hand; time = 0; posted = 0 })
seat_opened g desk rows hand is at inside free kept = record {
  rows = record {
    free = free ∙ same ∙ sym open_rows ∙ sym (ap (λ (n : SeatNow). n.free) at);
    kept = kept ∙ sym (ap (λ (n : SeatNow). n.kept) at);
  };
  time = sym (ap (λ (n : SeatNow). n.time) at);
  posted = sym (ap (λ (n : SeatNow). n.posted) at);
  scan = ap (λ (n : SeatNow). n.scan) at;
}
  where
    same : range_with_len (desk.holder * desk.sizes.spare) desk.sizes.spare
        ≡ range_with_len (first_row g.plan g.seat) g.plan.spare
    same = λ i. range_with_len (sym is.seat i * sym is.spare i) (sym is.spare i)

    within : g.seat < g.plan.settings.seats
    within = omega (arith, is.seat, is.seats, inside)

    open_rows : (opening_seat g.plan g.seat).free ≡ range_with_len (first_row g.plan g.seat) g.plan.spare
    open_rows =
        cond-true (nat_lt g.seat g.plan.settings.seats) (range_with_len (first_row g.plan g.seat) g.plan.spare) []
        (lt-ltb g.seat g.plan.settings.seats within)
