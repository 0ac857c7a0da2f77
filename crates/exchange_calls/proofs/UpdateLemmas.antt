-- An announced update, from the end of its tries to its own.
use Rattle.std.proofs.Common.{◌≡◌, ◌+◌, ◌∙◌, Option, Some, None, refl, ap}
use Rattle.plain_map.specs.declared.calls.Call.{Call}
use Rattle.plain_map.specs.declared.calls.Reply.{Reply}
use Rattle.exchange_model.specs.Steps.{Goes, Over, Stand}
use Rattle.exchange_model.specs.Goes.{ended}
use Rattle.exchange_calls.specs.Announces.{IsOver, announced_more}
use Rattle.exchange_calls.specs.Going.{Going, on}
use Rattle.exchange_calls.specs.Hands.{making}
use Rattle.exchange_calls.specs.Seats.{ending_of, keeping}
use Rattle.exchange_calls.specs.declared.seat_state.SeatState.{SeatState}

module _ (f first mid : Going) (call : Call) (stand : Stand) (seat : SeatState) (reply : Option Reply)
    (begins : first ≡ on f stand)
    (through : mid ≡ on (keeping first seat) (Goes call (Over (ending_of reply)))) where
  -- how it ends is known
  abbrev pub is_over : IsOver mid call
  is_over = record { ending = ending_of reply; stand = ap (λ (g : Going). g.now.stand) through }

  over_at : mid ≡ on (keeping f seat) (Goes call (Over (ending_of reply)))
  over_at = through ∙ ap (λ (g : Going). on (keeping g seat) (Goes call (Over (ending_of reply)))) begins

  -- and one announcement more is over
  pub over_ended : (end : Going) → end ≡ making (announced_more mid) call (ended (ending_of reply)) →
      end ≡ making (keeping f (record seat { posted = seat.posted + 1 })) call (ended (ending_of reply))
  over_ended end at =
      at ∙ ap (λ (g : Going). making (announced_more g) call (ended (ending_of reply))) over_at ∙ by reply
    where
      by : (r : Option Reply) →
          making (announced_more (on (keeping f seat) (Goes call (Over (ending_of r))))) call (ended (ending_of r))
          ≡ making (keeping f (record seat { posted = seat.posted + 1 })) call (ended (ending_of r))
      by None = refl
      by (Some told) = refl
