-- A seat as its table is opened.
use Rattle.std.proofs.Common.{◌≡◌, ℕ, ◌+◌, ◌-◌, ◌*◌, ◌/◌, ◌^◌, ◌∙◌, sym, ap, subst, arith}
use Rattle.own_rows.specs.declared.rows.OwnRows.{OwnRows}
use Rattle.own_rows.specs.Rows.{HasOpened, HasRows, Rows, opening}
use Rattle.lasting_model.specs.Worlds.{opening_seat}
use Rattle.lasting_model.specs.Steps.{SeatNow}
use Rattle.lasting_calls.specs.Going.{Going}
use Rattle.lasting_calls.specs.Desks.{IsOf}
use Rattle.lasting_calls.specs.Seats.{IsAtRest, IsSeatOf, rows_at}
use Rattle.lasting_calls.specs.declared.desk.Desk.{Desk}
use Rattle.lasting_calls.specs.declared.room.Room.{Room}

pub seat_opened : (g : Going) (desk : Desk) (rows : OwnRows) (room : Room) (count : ℕ) → IsOf g desk →
    g.now ≡ opening_seat g.plan g.seat →
    count ≡ (2 ^ desk.settings.depth + (desk.settings.seats - 1 - desk.seat)) / desk.settings.seats →
    HasOpened (desk.seat * desk.rows) desk.rows count desk.settings.seats desk.seat rows →
    IsSeatOf g (record { rows = rows; answered = 0; time = 0; room = room })
seat_opened g desk rows room count is at count_is o = record {
  rows = record {
    sound = o.sound;
    has = subst (λ (r : Rows). HasRows rows r) (opened ∙ ap rows_at (sym at)) o.has;
    first = o.first_is ∙ (λ i. sym is.seat i * sym is.rows i);
    all = o.rows_are ∙ sym is.rows;
    sweeps = omega (arith, o.sweeps);
  };
  rest = subst (λ (n : SeatNow). IsAtRest n.sweep) (sym at) tt;
  answered = sym (ap (λ (n : SeatNow). n.answered) at);
  few = omega arith;
  time = sym (ap (λ (n : SeatNow). n.time) at);
}
  where
    opened : opening (desk.seat * desk.rows) desk.rows count desk.settings.seats desk.seat
        ≡ rows_at (opening_seat g.plan g.seat)
    opened =
        ap (λ (k : ℕ). opening (desk.seat * desk.rows) desk.rows k desk.settings.seats desk.seat) count_is
        ∙ (λ i. opening (sym is.seat i * sym is.rows i) (sym is.rows i)
        ((2 ^ (sym is.settings i).depth + ((sym is.settings i).seats - 1 - sym is.seat i)) / (sym is.settings i).seats)
        (sym is.settings i).seats (sym is.seat i))
