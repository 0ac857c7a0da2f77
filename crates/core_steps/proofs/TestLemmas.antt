-- The events of a seat's first call.
use Rattle.std.proofs.Common.{◌≡◌, ◌≢◌, ℕ, ◌<◌, Option, Some, None, false, refl, sym, ap, subst, ◌∙◌, arith, cond, Bool, true}
use Rattle.std.specs.Prelude.{◌-◌, nat_lt}
use Rattle.std.proofs.lemmas.Bool.{false≢true}
use Rattle.std.proofs.lemmas.List.{get_or-replicate, get_or-set_other}
use Rattle.plain_map.specs.declared.calls.Call.{Call}
use Rattle.plain_map.specs.declared.full.Full.{Full}
use Rattle.word_rows.specs.Shape.{record_limit}
use Rattle.table_model.specs.declared.events.Event.{Event}
use Rattle.table_model.specs.Setup.{Setup, seats_of}
use Rattle.table_model.specs.SeatStates.{Account, Stand, Idle, InFlight, SeatState, fresh_seat}
use Rattle.table_model.specs.Schedules.{IsPlayable}
use Rattle.table_model.specs.Worlds.{FitsStand, IsEvent, World, act, begin_or_refuse, happens, refusal_of, seat_in}
use Rattle.core_steps.specs.Values.{CoreValue, opened, rests}

-- at the opening no seat has made a call
pub fresh_at : (core : CoreValue) (seat : ℕ) → core ≡ opened core.setup → seat < seats_of core.setup →
    seat_in core.world seat ≡ fresh_seat
fresh_at core seat is some = ap (λ (c : CoreValue). seat_in c.world seat) is
    ∙ get_or-replicate (seats_of core.setup) seat fresh_seat fresh_seat some

-- a seat that has made none may begin one
pub first_event : (core : CoreValue) (seat : ℕ) (begin : ℕ × Call) → seat_in core.world seat ≡ fresh_seat →
    seat < seats_of core.setup → core.setup.shape.limit ≡ record_limit → IsPlayable begin →
    IsEvent core.setup core.world (record { seat = seat; begin = Some begin })
first_event core seat begin fresh some limit playable = record {
  seat = some;
  begin = subst (λ (s : SeatState). FitsStand core.setup s.account s.stand (Some begin)) (sym fresh) (
    refl,
    record {
      packet = playable.packet;
      key = playable.key;
      value = playable.value;
      count = subst (λ n. 0 < n - 1) (sym limit) (omega arith);
    },
  );
}

-- a seat in a call goes on without one
pub fits_on : (setup : Setup) (account : Account) (stand : Stand) → rests stand ≡ false →
    FitsStand setup account stand None
fits_on setup account Idle busy = absurd (false≢true (sym busy))
fits_on setup account (InFlight flight phase) busy = refl

-- so its next step may come
pub next_event : (core : CoreValue) (seat : ℕ) → seat < seats_of core.setup →
    rests (seat_in core.world seat).stand ≡ false → IsEvent core.setup core.world (record { seat = seat; begin = None })
next_event core seat some busy = record {
  seat = some;
  begin = fits_on core.setup (seat_in core.world seat).account (seat_in core.world seat).stand busy;
}

-- an event of one seat changes no other
module _ (setup : Setup) (w : World) (me q : ℕ) (other : q ≢ me) where
  -- not where a call begins or is refused
  begun_other : (account : Account) (begin : ℕ × Call) (refused : Option Full) →
      seat_in (begin_or_refuse setup w me account begin.0 begin.1 refused) q ≡ seat_in w q
  begun_other account begin (Some full) = refl
  begun_other account begin None = get_or-set_other w.seats me q _ fresh_seat other

  -- and not where it goes on
  acted_other : (account : Account) (stand : Stand) (begin : Option (ℕ × Call)) →
      seat_in (act setup w me account stand begin) q ≡ seat_in w q
  acted_other account Idle None = refl
  acted_other account Idle (Some begin) = begun_other account begin (refusal_of setup me account begin.1)
  acted_other account (InFlight flight phase) begin = get_or-set_other w.seats me q _ fresh_seat other

  pub other_stays : (begin : Option (ℕ × Call)) →
      seat_in (happens setup w (record { seat = me; begin = begin })) q ≡ seat_in w q
  other_stays begin = by (nat_lt me (seats_of setup))
    where
      by : (b : Bool) → seat_in (cond b (act setup w me (seat_in w me).account (seat_in w me).stand begin) w) q
          ≡ seat_in w q
      by true = acted_other (seat_in w me).account (seat_in w me).stand begin
      by false = refl
