-- Further facts over the same runs, each in two parts: one of what all share, and one of each seat.
use Rattle.std.proofs.Common.{◌≡◌, ◌≢◌, ℕ, ◌<◌, ◌⊎◌, length, get_or, set, inl, inr, sym, subst, arith, get_or-set_same, get_or-set_other}
use Rattle.std.proofs.lemmas.Bool.{cases_eq}
use Rattle.plain_map.specs.declared.calls.Call.{Call}
use Rattle.word_rows.specs.Memory.{put}
use Rattle.word_rows.proofs.MemoryLemmas.{put_same, put_other}
use Rattle.table_model.specs.Setup.{Setup, seats_of}
use Rattle.table_model.specs.Phases.{Phase, SeeDone}
use Rattle.table_model.specs.SeatStates.{Account, Flight, Stand, Idle, InFlight, SeatState, begun, fresh_seat}
use Rattle.table_model.specs.Asks.{ask_in}
use Rattle.table_model.specs.Goes.{state_after}
use Rattle.table_model.specs.Worlds.{World, seat_in, found_by}
use Rattle.run_invariant.proofs.Invariant.{Common, Local, Shared, Keeps, KeepsStand, Moves}
use Rattle.run_invariant.proofs.Events.{local_after}
use Rattle.run_laws.proofs.Induction.{within, found_in, common_after, goes, found_same}
use Rattle.run_laws.proofs.Layers.{Steps, Begun}
use Rattle.run_laws.proofs.Changes.{changes_from_laws}
use Rattle.run_laws.proofs.Opened.{bucket_laws}

-- what an event of another seat may change
pub moves_of : (setup : Setup) (c : Common) (me : ℕ) (account : Account) (flight : Flight) (local : Local)
    (phase : Phase) → me < seats_of setup → Shared setup c → Keeps setup c me account.used flight local phase →
    Moves setup me c (common_after setup me account.used flight phase c)
moves_of setup c me account flight local phase h s k =
    (goes bucket_laws changes_from_laws setup me c account flight local h s phase k).moves

-- a layer: what all share, and of each seat; what an event leaves of the other seats' parts, and what it makes of its
-- own
pub record Layer (setup : Setup) (G : Common → Type 0) (S : Common → ℕ → Local → Account → Stand → Type 0) : Type 0
  where
    pub others : (me : ℕ) (c d : Common) → Moves setup me c d → Shared setup c → G c → (q : ℕ) → q ≢ me →
        q < seats_of setup → (local : Local) (account : Account) (stand : Stand) →
        KeepsStand setup c q account.used local stand → S c q local account stand → S d q local account stand
    pub begins : (c : Common) (me packet : ℕ) (call : Call) (local : Local) (account : Account) →
        S c me local account Idle → S c me local account (InFlight (begun account packet call) SeeDone)
    pub steps : (c : Common) (me : ℕ) (account : Account) (flight : Flight) (local : Local) → me < seats_of setup →
        Shared setup c → (phase : Phase) → Keeps setup c me account.used flight local phase →
        G c → S c me local account (InFlight flight phase) →
        (let d = common_after setup me account.used flight phase c in
        let state = state_after setup me account flight phase
        (found_in (ask_in setup me account.used flight phase) c.memory) in
        G d × S d me (local_after phase c local) state.account state.stand)

-- the layer at a world
abbrev pub Holding : Setup → (Common → Type 0) → (Common → ℕ → Local → Account → Stand → Type 0) → World → Common →
    (ℕ → Local) → Unit {0} → Type 0
Holding setup G S w c locals e = G c × ((p : ℕ) → p < seats_of setup →
    S c p (locals p) (seat_in w p).account (seat_in w p).stand)

module _ (setup : Setup) (G : Common → Type 0) (S : Common → ℕ → Local → Account → Stand → Type 0)
    (layer : Layer setup G S) where
  -- the part of a seat
  abbrev SeatIs : Common → ℕ → Local → SeatState → Type 0
  SeatIs c q local state = S c q local state.account state.stand

  -- of each seat, where one got another state
  each : (c d : Common) (w : World) (locals : ℕ → Local) (me : ℕ) (new : Local) (state : SeatState) →
      me < length w.seats → SeatIs d me new state →
      ((q : ℕ) → q ≢ me → q < seats_of setup → SeatIs d q (locals q) (seat_in w q)) →
      (p : ℕ) → p < seats_of setup → SeatIs d p (put locals me new p) (get_or (set w.seats me state) p fresh_seat)
  each c d w locals me new state n own other p hp = elim (cases_eq p me) [
    | inl e ↦ subst (λ q. SeatIs d q (put locals me new q) (get_or (set w.seats me state) q fresh_seat)) (sym e)
        (subst (λ x. SeatIs d me (put locals me new me) x) (sym (get_or-set_same w.seats me state fresh_seat n))
        (subst (λ x. SeatIs d me x state) (sym (put_same locals me new)) own))
    | inr o ↦ subst (λ x. SeatIs d p (put locals me new p) x) (sym (get_or-set_other w.seats me p state fresh_seat o))
        (subst (λ x. SeatIs d p x (seat_in w p)) (sym (put_other locals me new p o)) (other p o hp))
  ]

  -- the seat's part where it takes its step
  part : (w : World) (c : Common) (locals : ℕ → Local) (me : ℕ) (flight : Flight) (phase : Phase) →
      SeatIs c me (locals me) (seat_in w me) →
      ((seat_in w me).stand ≡ InFlight flight phase)
      ⊎ (((seat_in w me).stand ≡ Idle) × Begun setup me (seat_in w me).account flight phase) →
      S c me (locals me) (seat_in w me).account (InFlight flight phase)
  part w c locals me flight phase x (inl is) = subst (S c me (locals me) (seat_in w me).account) is x
  part w c locals me flight phase x (inr b) =
      subst (λ f. S c me (locals me) (seat_in w me).account (InFlight f phase)) (sym b.1.flight_is)
      (subst (λ ph. S c me (locals me) (seat_in w me).account
      (InFlight (begun (seat_in w me).account b.1.packet b.1.call) ph)) (sym b.1.phase_is)
      (layer.begins c me b.1.packet b.1.call (locals me) (seat_in w me).account
      (subst (S c me (locals me) (seat_in w me).account) b.0 x)))

  -- so the layer is kept by each step
  pub layer_steps : Steps (Unit {0}) setup (Holding setup G S)
  layer_steps w c locals e me flight phase a h from k x =
      let account = (seat_in w me).account in
      let asks = ask_in setup me account.used flight phase in
      let d = common_after setup me account.used flight phase c in
      let same : found_by setup asks w.words ≡ found_in asks c.memory =
      found_same setup asks w.words c.memory
      (within setup me c account.used flight (locals me) h a.shared phase k) a.shows in
      let next = layer.steps c me account flight (locals me) h a.shared phase k x.0
      (part w c locals me flight phase (x.1 me h) from) in
      let own : SeatIs d me (local_after phase c (locals me))
      (state_after setup me account flight phase (found_by setup asks w.words)) =
      subst (λ f. SeatIs d me (local_after phase c (locals me)) (state_after setup me account flight phase f))
      (sym same) next.1 in
      let m = moves_of setup c me account flight (locals me) phase h a.shared k in (
        tt,
        (
          next.0,
          each c d w locals me (local_after phase c (locals me))
              (state_after setup me account flight phase (found_by setup asks w.words)) (omega (arith, a.long, h)) own
              (λ q n hq. layer.others me c d m a.shared x.0 q n hq (locals q) (seat_in w q).account (seat_in w q).stand
              (a.seats q hq) (x.1 q hq)),
        ),
      )
