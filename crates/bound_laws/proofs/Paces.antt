-- Records have no more steps than a call of their kind may take.
use Rattle.std.proofs.Common.{ℕ, ◌<◌, ◌≤◌, sym, subst}
use Rattle.std.specs.List.{All}
use Rattle.std.proofs.lemmas.List.Elements.{All-push}
use Rattle.plain_map.specs.declared.records.Record.{Record}
use Rattle.table_model.specs.Setup.{Setup, seats_of, settings_of}
use Rattle.table_model.specs.Phases.{Phase, StoreDone}
use Rattle.table_model.specs.SeatStates.{Account, Flight, InFlight, SeatState, begun, record_of}
use Rattle.table_model.specs.Asks.{ask_in}
use Rattle.table_model.specs.Goes.{state_after}
use Rattle.run_invariant.proofs.Invariant.{Common, Local, Shared}
use Rattle.run_laws.proofs.Induction.{found_in}
use Rattle.run_laws.proofs.Layers.{Begun}
use Rattle.table_model.specs.Fits.{most_steps}
use Rattle.bound_laws.proofs.Paced.{PacedStand, begun_paced, paced_after}
use Rattle.bound_laws.proofs.SeatLayers.{SeatLayer, flying}

-- the record's steps are few
abbrev pub IsShort : Setup → Record → Type 0
IsShort setup r = r.steps ≤ most_steps (settings_of setup) r.call

-- its records are short, and what can still come of the call in flight is within its bound
abbrev pub Pacing : Setup → Common → ℕ → Local → Unit {0} → SeatState → Type 0
Pacing setup c me local g state = All (IsShort setup) state.account.records × PacedStand setup state.stand

module _ (setup : Setup) (me : ℕ) (c : Common) (account : Account) (flight : Flight) (local : Local)
    (h : me < seats_of setup) (s : Shared setup c) where
  -- one step of a seat
  records_after : (phase : Phase) → Pacing setup c me local tt (flying account flight phase) →
      All (IsShort setup)
      (state_after setup me account flight phase (found_in (ask_in setup me account.used flight phase)
      c.memory)).account.records
  records_after (StoreDone reply place) q =
      All-push (IsShort setup) account.records (record_of me flight reply place) q.0 q.1
  records_after phase q = q.0

-- as a layer
pub pacing_layer : (setup : Setup) → SeatLayer setup (Unit {0}) (λ c. Unit {0}) (Pacing setup)
pacing_layer setup = record {
  whole = λ me c account flight phase local g o t q. tt;
  own = λ me c account flight phase local g o t u q. (
    tt,
    (
      records_after setup me c account flight local o.there o.step.before.shared phase q,
      paced_after setup me c account flight local o.there o.step.before.shared phase o.keeps q.1,
    ),
  );
  others = λ me q c d local g state n hq z k t u x. x;
  begins = λ me c account flight phase local g h b x. (x.0, begun_is setup account flight phase me b);
}
  where
    begun_is : (setup : Setup) (account : Account) (flight : Flight) (phase : Phase) (me : ℕ) →
        Begun setup me account flight phase → PacedStand setup (InFlight flight phase)
    begun_is setup account flight phase me b = subst (λ f. PacedStand setup (InFlight f phase)) (sym b.flight_is)
        (subst (λ ph. PacedStand setup (InFlight (begun account b.packet b.call) ph)) (sym b.phase_is)
        (begun_paced setup account b.packet b.call))
