-- All layers as one: what is known of the rows that are published, and what is known of each seat.
use Rattle.std.proofs.Common.{◌≢◌, ℕ, ◌<◌, length, inl, inr, sym, subst, arith}
use Rattle.table_model.specs.Setup.{Setup, seats_of}
use Rattle.table_model.specs.Phases.{Phase}
use Rattle.table_model.specs.SeatStates.{Account, Flight, Stand, Idle, InFlight, SeatState}
use Rattle.run_invariant.proofs.Invariant.{Common, Local, KeepsStand, Names}
use Rattle.list_laws.proofs.Lists.{In}
use Rattle.run_laws.proofs.Layers.{Begun}
use Rattle.run_laws.proofs.Changes.{changes_from_laws}
use Rattle.bound_laws.proofs.Kept.{Fews, fews}
use Rattle.table_model.specs.Worlds.{first_leaves}
use Rattle.table_model.specs.Asks.{ask_in}
use Rattle.table_model.specs.Goes.{state_after}
use Rattle.run_invariant.proofs.Events.{local_after}
use Rattle.run_laws.proofs.Induction.{common_after, found_in}
use Rattle.bound_laws.proofs.Numbers.{Numbered, numbered_layer}
use Rattle.bound_laws.proofs.LookSteps.{Looking, looking_layer}
use Rattle.bound_laws.proofs.Paces.{Pacing, pacing_layer}
use Rattle.bound_laws.proofs.SeatLayers.{SeatLayer, Step, Own, flying, resting}
use Rattle.bound_laws.proofs.Spending.{Twos, Spends, OwnWords, spending_layer}
use Rattle.bound_laws.proofs.Crowding.{Crowding, crowds}
use Rattle.bound_laws.proofs.Gains
use Rattle.bound_laws.proofs.Gains.{Gain, Gains, GainsStand, WasFrozen, out_moves, froze_moves}
use Rattle.bound_laws.proofs.Given
use Rattle.bound_laws.proofs.Given.{Given, given_others}

-- what is known of the published rows: new buckets come at least in pairs, frozen and split prefixes are crowded, and
-- no seat has published more than its ranges have; and the first directory names first leaves alone
pub record Publishing (setup : Setup) (c : Common) : Type 0 where
  pub twos : Twos c
  pub crowding : Crowding setup c
  pub fews : Fews setup c
  pub firsts : (b : ℕ) → Names (c.dir_at 0) b → b < length (first_leaves setup)

-- what is known of a seat: how its records are numbered, what steps they have, what it has published, which exchanges
-- it won, and that its ops are its calls
pub record Seated (setup : Setup) (c : Common) (me : ℕ) (local : Local) (g : Gain) (state : SeatState) : Type 0 where
  pub numbered : Numbered me state
  pub looking : Looking setup c me local tt state
  pub pacing : Pacing setup c me local tt state
  pub spends : Spends setup c me local tt state
  pub gains : Gains setup c me local g state
  pub given : Given c me state

module _ (setup : Setup) (me q : ℕ) (c d : Common) (z : Step setup me c d) where
  -- of another seat, what it froze and where it stands
  stand_moves : (account : Account) (g : Gain) (stand : Stand) →
      ((b : ℕ) → In b g.froze → WasFrozen setup c q account.used.bucket_words b) → GainsStand c account g stand →
      GainsStand d account g stand
  stand_moves account g Idle each s = (s.0, λ b i. out_moves setup me c d z b (each b i).there (s.1 b i))
  stand_moves account g (InFlight flight phase) each s = (
    s.0,
    λ b i. elim (s.1 b i) [
      | inl out ↦ inl (out_moves setup me c d z b (each b i).there out)
      | inr open_ ↦ inr open_
    ],
  )

  -- so what it won stays
  gains_others : (local : Local) (g : Gain) (state : SeatState) → OwnWords setup c q state.account.used.bucket_words →
      Gains setup c q local g state → Gains setup d q local g state
  gains_others local g state words x = record {
    rows = x.rows;
    each = λ b i. froze_moves setup me c d z q state.account.used.bucket_words b words (x.each b i);
    once = x.once;
    stand = stand_moves state.account g state.stand x.each x.stand;
  }

module _ (setup : Setup) (me : ℕ) (c : Common) (account : Account) (flight : Flight) (phase : Phase) (local : Local)
    (o : Own setup me c account flight phase local) where
  abbrev then : Common
  then = common_after setup me account.used flight phase c

  -- what is published stays so
  publishing : {g : Gain} → Publishing setup c → Seated setup c me local g (flying account flight phase) →
      Publishing setup then
  publishing t q = record {
    twos = (spending_layer setup).whole me c account flight phase local tt o t.twos q.spends;
    crowding = crowds setup me c account flight local o.there o.step.before.shared t.crowding phase o.keeps o.step;
    fews =
        fews changes_from_laws setup me c account.used flight local o.there o.step.before.shared phase o.keeps t.fews;
    firsts = λ b n. t.firsts b (subst (λ x. Names x b) (o.step.moves.dirs 0 (omega arith)).1 n);
  }

  -- and the seat comes to the next of all that
  seated : (g : Gain) → Publishing setup c → Publishing setup then →
      Seated setup c me local g (flying account flight phase) → (next : Gain)
      × Seated setup then me (local_after phase c local) next
      (state_after setup me account flight phase (found_in (ask_in setup me account.used flight phase) c.memory))
  seated g t u q =
      let gains = Gains.own setup me c account flight local o.there o.step.before.shared o.step.before.descent
      q.spends.words g phase o.keeps o.step q.spends.stand.0 q.gains o.next in (
        gains.0,
        record {
          numbered = ((numbered_layer setup).own me c account flight phase local tt o tt tt q.numbered).1;
          looking = ((looking_layer setup).own me c account flight phase local tt o tt tt q.looking).1;
          pacing = ((pacing_layer setup).own me c account flight phase local tt o tt tt q.pacing).1;
          spends = ((spending_layer setup).own me c account flight phase local tt o t.twos u.twos q.spends).1;
          gains = gains.1;
          given = Given.own setup me c account flight local o.there o.step.before.shared phase o.keeps o.step q.given;
        },
      )

-- another seat's stays
seated_others : (setup : Setup) (me q : ℕ) (c d : Common) (local : Local) (g : Gain) (state : SeatState) → q ≢ me →
    q < seats_of setup → Step setup me c d →
    KeepsStand setup c q state.account.used local state.stand → Publishing setup c → Publishing setup d →
    Seated setup c q local g state → Seated setup d q local g state
seated_others setup me q c d local g state n h z k t u x = record {
  numbered = x.numbered;
  looking = (looking_layer setup).others me q c d local tt state n h z k tt tt x.looking;
  pacing = x.pacing;
  spends = (spending_layer setup).others me q c d local tt state n h z k t.twos u.twos x.spends;
  gains = gains_others setup me q c d z local g state x.spends.words x.gains;
  given = given_others setup me q c d z local state h k x.given;
}

-- a call begins
begun_gains : (setup : Setup) (me : ℕ) (c : Common) (account : Account) (g : Gain) (flight : Flight) (phase : Phase) →
    Begun setup me account flight phase → GainsStand c account g Idle → GainsStand c account g (InFlight flight phase)
begun_gains setup me c account g flight phase b s = subst (λ ph. GainsStand c account g (InFlight flight ph))
    (sym b.phase_is) (omega (arith, s.0), λ x i. inl (s.1 x i))

-- and all else of the seat
seated_begins : (setup : Setup) (me : ℕ) (c : Common) (account : Account) (flight : Flight) (phase : Phase)
    (local : Local) (g : Gain) → me < seats_of setup → Begun setup me account flight phase →
    Seated setup c me local g (resting account) → Seated setup c me local g (flying account flight phase)
seated_begins setup me c account flight phase local g h b x = record {
  numbered = (numbered_layer setup).begins me c account flight phase local tt h b x.numbered;
  looking = (looking_layer setup).begins me c account flight phase local tt h b x.looking;
  pacing = (pacing_layer setup).begins me c account flight phase local tt h b x.pacing;
  spends = (spending_layer setup).begins me c account flight phase local tt h b x.spends;
  gains = record {
    rows = x.gains.rows;
    each = x.gains.each;
    once = x.gains.once;
    stand =
        begun_gains setup me c account g flight phase b x.gains.stand;
  };
  given = λ j lt. elim (x.given j lt) [ inl a ↦ inl a | inr none ↦ absurd none ];
}

-- the layer
pub seated_layer : (setup : Setup) → SeatLayer setup Gain (Publishing setup) (Seated setup)
seated_layer setup = record {
  whole = λ me c account flight phase local g o t q. publishing setup me c account flight phase local o t q;
  own = λ me c account flight phase local g o t u q. seated setup me c account flight phase local o g t u q;
  others = λ me q c d local g state n h z k t u x. seated_others setup me q c d local g state n h z k t u x;
  begins = λ me c account flight phase local g h b x. seated_begins setup me c account flight phase local g h b x;
}
