-- All layers hold in every run.
use Rattle.std.proofs.Common.{◌≡◌, ℕ, ◌<◌, List, [], refl, sym, subst, arith}
use Rattle.std.proofs.lemmas.List.{get_or-replicate}
use Rattle.std.proofs.lemmas.List.Elements.{All-nil}
use Rattle.table_model.specs.declared.events.Event.{Event}
use Rattle.table_model.specs.Setup.{Setup, IsSetup, seats_of}
use Rattle.table_model.specs.SeatStates.{fresh_seat}
use Rattle.table_model.specs.Worlds.{World, IsRun, world_after, opening_world, seat_in}
use Rattle.run_invariant.proofs.Invariant.{Common, Local}
use Rattle.run_laws.proofs.Layers.{Steps, HoldsWith, run_with}
use Rattle.run_laws.proofs.Changes.{changes_from_laws}
use Rattle.run_laws.proofs.Opened.{bucket_laws, opening_fresh}
use Rattle.bound_laws.proofs.SeatLayers.{OfSeats, seat_steps}
use Rattle.bound_laws.proofs.LookSteps.{LookedAt}
use Rattle.bound_laws.proofs.Paces.{IsShort}
use Rattle.bound_laws.proofs.Kept.{FewRows}
use Rattle.bound_laws.proofs.Crowding.{crowding_opening}
use Rattle.bound_laws.proofs.Gains.{Gain}
use Rattle.bound_laws.proofs.Family.{named_at}
use Rattle.bound_laws.proofs.Seats.{Publishing, Seated, seated_layer}

-- a seat that has won no exchange
abbrev no_gain : Gain
no_gain = record { applied = 0; froze = [] }

-- what holds of a world
abbrev pub Called : Setup → World → Common → (ℕ → Local) → (ℕ → Gain) → Type 0
Called setup w c locals each = OfSeats setup Gain (Publishing setup) (Seated setup) w c locals each

abbrev pub Calling : Setup → World → Type 0
Calling setup w = HoldsWith (ℕ → Gain) setup (Called setup) w

-- each step keeps it
pub called_steps : (setup : Setup) → Steps (ℕ → Gain) setup (Called setup)
called_steps setup = seat_steps setup Gain (Publishing setup) (Seated setup) (seated_layer setup)

-- a seat that has made no call
fresh_in : (setup : Setup) (p : ℕ) → p < seats_of setup → seat_in (opening_world setup) p ≡ fresh_seat
fresh_in setup p h = get_or-replicate (seats_of setup) p fresh_seat fresh_seat h

-- of a seat that has made no call all holds
fresh_seated : (setup : Setup) (c : Common) (p : ℕ) (local : Local) → Seated setup c p local no_gain fresh_seat
fresh_seated setup c p local = record {
  numbered = record { records = tt; spent = refl; stand = refl };
  looking = (All-nil (LookedAt setup c), tt);
  pacing = (All-nil (IsShort setup), tt);
  spends = record {
    words = λ j lt. absurd (omega (arith, lt));
    dirs = omega arith;
    stand = record { op_rows = omega arith; bucket_rows = omega arith; directory_rows = omega arith };
  };
  gains = record { rows = omega arith; each = λ b i. absurd i; once = tt; stand = (omega arith, λ b i. absurd i) };
  given = λ j lt. absurd (omega (arith, lt));
}

-- at the opening
called_opening : (setup : Setup) → IsSetup setup → Calling setup (opening_world setup)
called_opening setup s = (let f = opening_fresh setup s in record {
  common = f.holds.common;
  locals = f.holds.locals;
  follows = f.holds.follows;
  extra = λ p. no_gain;
  holds = (
    record {
      twos = λ v h. absurd (omega (arith, h, f.first));
      crowding = crowding_opening setup s f;
      firsts = λ b n. (f.first_leaf b (named_at setup f.holds.common f.holds.follows.shared f.holds.follows.descent 0 b
          (omega arith) n)).0;
      fews = λ p hp. subst (FewRows setup p) (sym (f.none p)) (record {
        rows = omega arith;
        words = omega arith;
        dirs =
            omega arith;
      });
    },
    λ p h. subst (Seated setup f.holds.common p (f.holds.locals p) no_gain) (sym (fresh_in setup p h))
        (fresh_seated setup f.holds.common p (f.holds.locals p)),
  );
})

-- and so after every run
pub called : (setup : Setup) (events : List Event) → IsRun setup events → Calling setup (world_after setup events)
called setup events run = run_with (ℕ → Gain) bucket_laws changes_from_laws setup (Called setup) (called_steps setup)
    events (opening_world setup) (called_opening setup run.opened) run.follow
