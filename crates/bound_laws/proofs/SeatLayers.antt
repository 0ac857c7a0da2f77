-- Layers that speak of each seat by itself, and of what is shared: what such a layer has to show of a step of one seat.
use Rattle.std.proofs.Common.{◌≡◌, ◌≢◌, ℕ, ◌<◌, ◌⊎◌, get_or, set, inl, inr, sym, subst, arith, get_or-set_same, get_or-set_other}
use Rattle.std.proofs.lemmas.Bool.{cases_eq}
use Rattle.word_rows.specs.Memory.{put}
use Rattle.word_rows.proofs.MemoryLemmas.{put_same, put_other}
use Rattle.table_model.specs.Setup.{Setup, seats_of}
use Rattle.table_model.specs.Phases.{Phase}
use Rattle.table_model.specs.SeatStates.{Account, Flight, Idle, InFlight, SeatState, fresh_seat}
use Rattle.table_model.specs.Asks.{ask_in}
use Rattle.table_model.specs.Goes.{state_after}
use Rattle.table_model.specs.Worlds.{World, seat_in, found_by}
use Rattle.run_invariant.proofs.Events.{local_after}
use Rattle.run_invariant.proofs.Invariant.{Common, Local, Shared, Descends, Keeps, KeepsStand, Moves, Recalls}
use Rattle.run_laws.proofs.Induction.{common_after, found_in, goes, descends, recalls, within}
use Rattle.run_laws.proofs.Layers.{Steps, Begun}
use Rattle.run_laws.proofs.Changes.{changes_from_laws}
use Rattle.run_laws.proofs.Opened.{bucket_laws}
use Rattle.bound_laws.proofs.FitsWhole.{found_same}

-- a state in flight, and an idle one
abbrev pub flying : Account → Flight → Phase → SeatState
flying account flight phase = record { account = account; stand = InFlight flight phase }

-- and an idle one
abbrev pub resting : Account → SeatState
resting account = record { account = account; stand = Idle }

-- what holds at a moment; and a step of one seat, with what holds before and after it
pub record At (setup : Setup) (c : Common) : Type 0 where
  pub shared : Shared setup c
  pub descent : Descends setup c

pub record Step (setup : Setup) (me : ℕ) (c d : Common) : Type 0 where
  pub before : At setup c
  pub after : At setup d
  pub moves : Moves setup me c d
  pub recalls : Recalls c d

-- a seat comes by one step from one moment to the next
pub record Own (setup : Setup) (me : ℕ) (c : Common) (account : Account) (flight : Flight) (phase : Phase)
    (local : Local) : Type 0 where
  pub there : me < seats_of setup
  pub step : Step setup me c (common_after setup me account.used flight phase c)
  pub keeps : Keeps setup c me account.used flight local phase
  pub next : KeepsStand setup (common_after setup me account.used flight phase c) me
      (state_after setup me account flight phase (found_in (ask_in setup me account.used flight phase)
      c.memory)).account.used
      (local_after phase c local)
      (state_after setup me account flight phase (found_in (ask_in setup me account.used flight phase) c.memory)).stand

-- a layer: what it says of what is shared, and what it says of each seat, beside a value of the seat's own
pub record SeatLayer (setup : Setup) (G : Type 0) (T : Common → Type 0) (Q : Common → ℕ → Local → G → SeatState →
    Type 0) : Type 0 where
  -- a step keeps what is shared
  pub whole : (me : ℕ) (c : Common) (account : Account) (flight : Flight) (phase : Phase) (local : Local) (g : G) →
      Own setup me c account flight phase local → T c → Q c me local g (flying account flight phase) →
      T (common_after setup me account.used flight phase c)
  -- what the seat itself comes to
  pub own : (me : ℕ) (c : Common) (account : Account) (flight : Flight) (phase : Phase) (local : Local) (g : G) →
      Own setup me c account flight phase local → T c → T (common_after setup me account.used flight phase c) →
      Q c me local g (flying account flight phase) →
      (next : G) × Q (common_after setup me account.used flight phase c) me (local_after phase c local) next
      (state_after setup me account flight phase (found_in (ask_in setup me account.used flight phase) c.memory))
  -- what holds of another seat stays
  pub others : (me q : ℕ) (c d : Common) (local : Local) (g : G) (state : SeatState) → q ≢ me → q < seats_of setup →
      Step setup me c d →
      KeepsStand setup c q state.account.used local state.stand → T c → T d → Q c q local g state → Q d q local g state
  -- a call begins
  pub begins : (me : ℕ) (c : Common) (account : Account) (flight : Flight) (phase : Phase) (local : Local) (g : G) →
      me < seats_of setup → Begun setup me account flight phase →
      Q c me local g (resting account) → Q c me local g (flying account flight phase)

-- what the layer says of a whole world
abbrev pub OfSeats : Setup → (G : Type 0) (T : Common → Type 0) (Q : Common → ℕ → Local → G → SeatState → Type 0) →
    World → Common → (ℕ → Local) → (ℕ → G) → Type 0
OfSeats setup G T Q w c locals each = T c × ((p : ℕ) → p < seats_of setup → Q c p (locals p) (each p) (seat_in w p))

module _ (setup : Setup) (G : Type 0) (T : Common → Type 0) (Q : Common → ℕ → Local → G → SeatState → Type 0)
    (layer : SeatLayer setup G T Q) where
  -- before its step the seat is in flight, or its call has begun
  before : (me : ℕ) (c : Common) (flight : Flight) (phase : Phase) (local : Local) (g : G) (state : SeatState) →
      me < seats_of setup →
      (state.stand ≡ InFlight flight phase) ⊎ ((state.stand ≡ Idle) × Begun setup me state.account flight phase) →
      Q c me local g state → Q c me local g (flying state.account flight phase)
  before me c flight phase local g state h (inl is) q =
      subst (λ stand. Q c me local g (record { account = state.account; stand = stand })) is q
  before me c flight phase local g state h (inr b) q =
      layer.begins me c state.account flight phase local g h b.1
      (subst (λ stand. Q c me local g (record { account = state.account; stand = stand })) b.0 q)

  -- so each step of one seat keeps the layer
  pub seat_steps : Steps (ℕ → G) setup (OfSeats setup G T Q)
  seat_steps w c locals each me flight phase a h from k p =
      let account = (seat_in w me).account in
      let asks = ask_in setup me account.used flight phase in
      let same = found_same setup asks w.words c.memory (within setup me c account.used flight (locals me) h a.shared
      phase k) a.shows in
      let was = before me c flight phase (locals me) (each me) (seat_in w me) h from (p.1 me h) in
      let gone = goes bucket_laws changes_from_laws setup me c account flight (locals me) h a.shared phase k in
      let step : Step setup me c (common_after setup me account.used flight phase c) = record {
        before = record { shared = a.shared; descent = a.descent };
        after = record {
          shared = gone.shared;
          descent = descends bucket_laws changes_from_laws setup me c account
              flight (locals me) h a.shared phase k a.descent;
        };
        moves = gone.moves;
        recalls = recalls bucket_laws changes_from_laws setup me c account flight (locals me) h a.shared phase k;
      } in
      let self : Own setup me c account flight phase (locals me) =
      record { there = h; step = step; keeps = k; next = gone.keeps } in
      let shared = layer.whole me c account flight phase (locals me) (each me) self p.0 was in
      let next = layer.own me c account flight phase (locals me) (each me) self p.0 shared was in
      let d = common_after setup me account.used flight phase c in
      let new = local_after phase c (locals me) in
      let state = state_after setup me account flight phase (found_by setup asks w.words) in
      let here : Q d me new next.0 state =
      subst (λ f. Q d me new next.0 (state_after setup me account flight phase f)) (sym same) next.1 in (
        put each me next.0,
        (
          shared,
          λ q hq. elim (cases_eq q me) [
            | inl e ↦ subst (λ r. Q d r (put locals me new r) (put each me next.0 r)
                (get_or (set w.seats me state) r fresh_seat)) (sym e)
                (subst (λ x. Q d me (put locals me new me) (put each me next.0 me) x)
                (sym (get_or-set_same w.seats me state fresh_seat (omega (arith, a.long, h))))
                (subst (λ x. Q d me x (put each me next.0 me) state) (sym (put_same locals me new))
                (subst (λ x. Q d me new x state) (sym (put_same each me next.0)) here)))
            | inr n ↦ subst (λ x. Q d q (put locals me new q) (put each me next.0 q) x)
                (sym (get_or-set_other w.seats me q state fresh_seat n))
                (subst (λ x. Q d q x (put each me next.0 q) (seat_in w q)) (sym (put_other locals me new q n))
                (subst (λ x. Q d q (locals q) x (seat_in w q)) (sym (put_other each me next.0 q n))
                (layer.others me q c d (locals q) (each q) (seat_in w q) n hq step (a.seats q hq) p.0 shared
                (p.1 q hq))))
          ],
        ),
      )
