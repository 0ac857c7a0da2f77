-- Further facts over the same runs: a layer has its own history beside the one here, and proves its steps alone.
use Rattle.std.proofs.Common.{◌≡◌, ℕ, ◌<◌, ◌⊎◌, Bool, cond, List, [], ◌∷◌, refl, sym, inl, inr, subst, lt-ltb}
use Rattle.std.specs.Prelude.{Option, Some, None, fold}
use Rattle.plain_map.specs.declared.calls.Call.{Call}
use Rattle.plain_map.specs.declared.full.Full.{Full}
use Rattle.word_rows.specs.Memory.{put}
use Rattle.table_model.specs.declared.events.Event.{Event}
use Rattle.table_model.specs.Setup.{Setup, seats_of}
use Rattle.table_model.specs.Phases.{Phase, SeeDone}
use Rattle.table_model.specs.SeatStates.{begun, Account, Flight, Stand, Idle, InFlight}
use Rattle.table_model.specs.Worlds.{World, seat_in, step_of, act, begin_or_refuse, refusal_of, happens, IsEvent, AreEvents, FitsStand, CanBegin}
use Rattle.run_invariant.proofs.RowLemmas.{BucketLaws}
use Rattle.run_invariant.proofs.Change.{Changes}
use Rattle.run_invariant.proofs.Events.{local_after}
use Rattle.run_invariant.proofs.Invariant.{Common, Local, Keeps, KeepsStand}
use Rattle.run_laws.proofs.Induction.{Follows, common_after, acts, begun_keeps}

-- how a seat comes to take a step: it is in flight, or it begins a call
pub record Begun (setup : Setup) (seat : ℕ) (account : Account) (flight : Flight) (phase : Phase) : Type 0 where
  pub packet : ℕ
  pub call : Call
  pub can : CanBegin setup account (packet, call)
  pub free : refusal_of setup seat account call ≡ None
  pub flight_is : flight ≡ begun account packet call
  pub phase_is : phase ≡ SeeDone

-- what the layer has to show of each step: with its own history before there is one after
abbrev pub Steps : (E : Type 0) → Setup → (World → Common → (ℕ → Local) → E → Type 0) → Type 0
Steps E setup P =
    (w : World) (c : Common) (locals : ℕ → Local) (e : E) (me : ℕ) (flight : Flight) (phase : Phase) →
    Follows setup w c locals → me < seats_of setup →
    ((seat_in w me).stand ≡ InFlight flight phase)
    ⊎ (((seat_in w me).stand ≡ Idle) × Begun setup me (seat_in w me).account flight phase) →
    Keeps setup c me (seat_in w me).account.used flight (locals me) phase → P w c locals e →
    (e' : E) × P (step_of setup w me (seat_in w me).account flight phase)
    (common_after setup me (seat_in w me).account.used flight phase c)
    (put locals me (local_after phase c (locals me))) e'

-- the layer's facts, with its own history beside the one here
pub record HoldsWith (E : Type 0) (setup : Setup) (P : World → Common → (ℕ → Local) → E → Type 0) (w : World) : Type 0
  where
    pub common : Common
    pub locals : ℕ → Local
    pub follows : Follows setup w common locals
    pub extra : E
    pub holds : P w common locals extra

module _ (E : Type 0) (laws : BucketLaws) (changes : (setup : Setup) → Changes setup) (setup : Setup)
    (P : World → Common → (ℕ → Local) → E → Type 0) (steps : Steps E setup P) where
  -- one step
  stepped : (w : World) (a : HoldsWith E setup P w) (me : ℕ) (flight : Flight) (phase : Phase)
      (h : me < seats_of setup) →
      ((seat_in w me).stand ≡ InFlight flight phase)
      ⊎ (((seat_in w me).stand ≡ Idle) × Begun setup me (seat_in w me).account flight phase) →
      Keeps setup a.common me (seat_in w me).account.used flight (a.locals me) phase →
      HoldsWith E setup P (step_of setup w me (seat_in w me).account flight phase)
  stepped w a me flight phase h from k =
      let next = steps w a.common a.locals a.extra me flight phase a.follows h from k a.holds in
      record {
        common = common_after setup me (seat_in w me).account.used flight phase a.common;
        locals = put a.locals me (local_after phase a.common (a.locals me));
        follows = acts laws changes setup w me (seat_in w me).account flight phase h a.common a.locals a.follows k;
        extra = next.0;
        holds = next.1;
      }

  -- one event of a seat that there is
  acted : (w : World) (a : HoldsWith E setup P w) (me : ℕ) (h : me < seats_of setup) (stand : Stand)
      (begin : Option (ℕ × Call)) → (seat_in w me).stand ≡ stand →
      KeepsStand setup a.common me (seat_in w me).account.used (a.locals me) stand →
      FitsStand setup (seat_in w me).account stand begin →
      HoldsWith E setup P (act setup w me (seat_in w me).account stand begin)
  acted w a me h Idle None is k fits = a
  acted w a me h Idle (Some begin) is k fits = go (refusal_of setup me (seat_in w me).account begin.1) refl
    where
      go : (r : Option Full) → refusal_of setup me (seat_in w me).account begin.1 ≡ r →
          HoldsWith E setup P (begin_or_refuse setup w me (seat_in w me).account begin.0 begin.1 r)
      go (Some full) e = a
      go None e = stepped w a me (begun (seat_in w me).account begin.0 begin.1) SeeDone h
          (inr (
            is,
            record {
              packet = begin.0;
              call = begin.1;
              can = fits.1;
              free = e;
              flight_is = refl;
              phase_is = refl;
            },
          ))
          (begun_keeps setup a.common me (seat_in w me).account (a.locals me) begin.0 begin.1 k fits.1 e)
  acted w a me h (InFlight flight phase) begin is k fits = stepped w a me flight phase h (inl is) k

  -- one event
  pub happens_with : (w : World) (event : Event) → HoldsWith E setup P w → IsEvent setup w event →
      HoldsWith E setup P (happens setup w event)
  happens_with w event a e = subst (λ (b : Bool). HoldsWith E setup P
      (cond b (act setup w event.seat (seat_in w event.seat).account (seat_in w event.seat).stand event.begin)
      w)) (sym (lt-ltb event.seat (seats_of setup) e.seat))
      (acted w a event.seat e.seat (seat_in w event.seat).stand event.begin refl (a.follows.seats event.seat e.seat)
      e.begin)

  -- every list of events
  pub run_with : (events : List Event) (w : World) → HoldsWith E setup P w → AreEvents setup w events →
      HoldsWith E setup P (fold (happens setup) w events)
  run_with [] w a e = a
  run_with (event ∷ events) w a e = run_with events (happens setup w event) (happens_with w event a e.0) e.1
