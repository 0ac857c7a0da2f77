-- Every step of every run fits, where its calls have not had all their steps.
use Rattle.std.proofs.Common.{◌≡◌, ℕ, ◌+◌, ◌^◌, ◌<◌, ◌≤◌, ◌⊎◌, List, length, get_or, set, inl, inr, sym, subst, arith, get_or-set_same, get_or-set_other}
use Rattle.std.proofs.lemmas.List.{get_or-replicate}
use Rattle.std.proofs.lemmas.List.Elements.{All-get_or}
use Rattle.plain_map.specs.declared.calls.Call.{Call}
use Rattle.plain_map.specs.Room.{no_rows}
use Rattle.word_rows.specs.Shape.{AreBelow, sizes_of}
use Rattle.table_model.specs.declared.events.Event.{Event}
use Rattle.table_model.specs.Setup.{Setup, IsSetup, seats_of, settings_of}
use Rattle.table_model.specs.Phases.{Phase}
use Rattle.table_model.specs.SeatStates.{Account, Flight, Stand, Idle, InFlight, SeatState, begun, fresh_seat}
use Rattle.table_model.specs.Asks.{ask_in}
use Rattle.table_model.specs.Goes.{state_after}
use Rattle.table_model.specs.Worlds.{World, IsRun, world_after, opening_world, seat_in, found_by}
use Rattle.run_invariant.proofs.Invariant.{Common, Local, Shared, Keeps, KeepsStand}
pub use Rattle.run_laws.proofs.Induction.{found_same}
use Rattle.run_laws.proofs.Induction.{within, found_in, begun_keeps}
use Rattle.run_laws.proofs.Layers.{Steps, Begun, HoldsWith, run_with}
use Rattle.run_laws.proofs.Opened.{bucket_laws, opening_fresh}
use Rattle.run_laws.proofs.Changes.{changes_from_laws}
use Rattle.std.proofs.lemmas.Bool.{cases_eq}
use Rattle.bound_laws.proofs.Pace.{rest}
use Rattle.bound_laws.proofs.Paced.{PacedStand, begun_paced, bound_small, paced_after, some_left}
use Rattle.table_model.specs.Steps.{flight_in, phase_in, MayStep, ask_of}
use Rattle.table_model.specs.Fits.{StepFits, most_steps}
use Rattle.table_model.specs.Fits.{EveryStepFits}
use Rattle.bound_laws.proofs.Found.{Dones, finds}
use Rattle.bound_laws.proofs.After.{flies, makes_after}
use Rattle.bound_laws.proofs.Kept.{Fews, FewRows, dones, fews}

-- what is within the ranges is small
used_below : (setup : Setup) (me : ℕ) (c : Common) → me < seats_of setup → Shared setup c → Fews setup c →
    AreBelow (2 ^ 62) (c.used me)
used_below setup me c h s d =
    let below : AreBelow setup.shape.limit (sizes_of setup.shape me) =
    All-get_or (AreBelow setup.shape.limit) setup.shape.ranges me no_rows (omega (arith, h, s.opened.shape.each_seat))
    s.opened.ranges in
    let few = d me h in
    record {
      op_rows = omega (arith, s.calls.few me h, below.op_rows, s.opened.shape.limited);
      bucket_rows = omega (arith, few.rows, below.bucket_rows, s.opened.shape.limited);
      bucket_words = omega (arith, few.words, below.bucket_words, s.opened.shape.limited);
      directory_rows = omega (arith, few.dirs, below.directory_rows, s.opened.shape.limited);
    }

-- what holds of the seat that acts and of the others holds of all
each_seat : (setup : Setup) (seats : List SeatState) (me q : ℕ) (state : SeatState) → me < length seats →
    PacedStand setup state.stand → PacedStand setup (get_or seats q fresh_seat).stand →
    PacedStand setup (get_or (set seats me state) q fresh_seat).stand
each_seat setup seats me q state n new old = elim (cases_eq q me) [
  | inl e ↦ subst (λ r. PacedStand setup (get_or (set seats me state) r fresh_seat).stand) (sym e)
      (subst (λ (x : SeatState). PacedStand setup x.stand) (sym (get_or-set_same seats me state fresh_seat n)) new)
  | inr o ↦ subst (λ (x : SeatState). PacedStand setup x.stand) (sym (get_or-set_other seats me q state fresh_seat o))
      old
]

-- one step fits
fits : (setup : Setup) (me : ℕ) (c : Common) (account : Account) (flight : Flight) (local : Local) (phase : Phase) →
    me < seats_of setup → Shared setup c → Dones setup c → Fews setup c →
    flight.steps < most_steps (settings_of setup) flight.call → flight.steps < 2 ^ 62 →
    Keeps setup c me account.used flight local phase →
    StepFits setup me account.used flight phase (found_in (ask_in setup me account.used flight phase) c.memory)
fits setup me c account flight local phase h s d f steps small k =
    let fly = flies setup me c account.used flight local phase k in
    record {
      on_word = within setup me c account.used flight local h s phase k;
      finds = finds setup me c account.used flight local h s d phase k;
      makes = makes_after bucket_laws changes_from_laws setup me c account flight local h s phase k;
      counts = record {
        used_few = subst (AreBelow (2 ^ 62)) fly.used_is (used_below setup me c h s f);
        steps = steps;
        number = fly.few;
        small = small;
      };
    }

-- the three together
abbrev pub Fine : Setup → World → Common → (ℕ → Local) → Unit {0} → Type 0
Fine setup w c locals e =
    Dones setup c × Fews setup c × ((p : ℕ) → p < seats_of setup → PacedStand setup (seat_in w p).stand)

-- a seat that acts is paced
pub from_paced : (setup : Setup) (w : World) (me : ℕ) (flight : Flight) (phase : Phase) →
    PacedStand setup (seat_in w me).stand →
    ((seat_in w me).stand ≡ InFlight flight phase)
    ⊎ (((seat_in w me).stand ≡ Idle) × Begun setup me (seat_in w me).account flight phase) →
    PacedStand setup (InFlight flight phase)
from_paced setup w me flight phase p (inl is) = subst (PacedStand setup) is p
from_paced setup w me flight phase p (inr b) =
    subst (λ f. PacedStand setup (InFlight f phase)) (sym b.1.flight_is)
    (subst (λ ph. PacedStand setup (InFlight (begun (seat_in w me).account b.1.packet b.1.call) ph))
    (sym b.1.phase_is) (begun_paced setup (seat_in w me).account b.1.packet b.1.call))

-- each step keeps them
pub fine_steps : (setup : Setup) → Steps (Unit {0}) setup (Fine setup)
fine_steps setup w c locals e me flight phase a h from k p =
    let account = (seat_in w me).account in
    let asks = ask_in setup me account.used flight phase in
    let same : found_by setup asks w.words ≡ found_in asks c.memory =
    found_same setup asks w.words c.memory (within setup me c account.used flight (locals me) h a.shared phase k)
    a.shows in
    let new : PacedStand setup (state_after setup me account flight phase (found_by setup asks w.words)).stand =
    subst (λ f. PacedStand setup (state_after setup me account flight phase f).stand) (sym same)
    (paced_after setup me c account flight (locals me) h a.shared phase k
    (from_paced setup w me flight phase (p.2 me h) from)) in (
      tt,
      (
        dones changes_from_laws setup me c account.used flight (locals me) h a.shared phase k p.0,
        fews changes_from_laws setup me c account.used flight (locals me) h a.shared phase k p.1,
        λ q hq. each_seat setup w.seats me q (state_after setup me account flight phase (found_by setup asks w.words))
            (omega (arith, a.long, h)) new (p.2 q hq),
      ),
    )

-- they hold at the opening
pub fine_opening : (setup : Setup) → IsSetup setup → HoldsWith (Unit {0}) setup (Fine setup) (opening_world setup)
fine_opening setup s = (let f = opening_fresh setup s in record {
  common = f.holds.common;
  locals = f.holds.locals;
  follows = f.holds.follows;
  extra = tt;
  holds = (
    λ p hp. omega (arith, f.done p),
    λ p hp. subst (FewRows setup p) (sym (f.none p)) (record {
      rows = omega arith;
      words = omega arith;
      dirs = omega arith;
    }),
    λ p hp. subst (λ (x : SeatState). PacedStand setup x.stand)
        (sym (get_or-replicate (seats_of setup) p fresh_seat fresh_seat hp)) tt,
  );
})

-- and after every run
pub fine : (setup : Setup) (events : List Event) → IsRun setup events →
    HoldsWith (Unit {0}) setup (Fine setup) (world_after setup events)
fine setup events run = run_with (Unit {0}) bucket_laws changes_from_laws setup (Fine setup) (fine_steps setup) events
    (opening_world setup) (fine_opening setup run.opened) run.follow

-- of the seat that takes its next step
keeps_now : (setup : Setup) (c : Common) (me : ℕ) (asked : ℕ × Call) (account : Account) (stand : Stand)
    (local : Local) → KeepsStand setup c me account.used local stand → MayStep setup me asked account stand →
    Keeps setup c me account.used (flight_in account stand asked) local (phase_in stand)
keeps_now setup c me asked account Idle local k may = begun_keeps setup c me account local asked.0 asked.1 k may.1 may.0
keeps_now setup c me asked account (InFlight flight phase) local k may = k

-- it is paced
paced_now : (setup : Setup) (asked : ℕ × Call) (account : Account) (stand : Stand) → PacedStand setup stand →
    PacedStand setup (InFlight (flight_in account stand asked) (phase_in stand))
paced_now setup asked account Idle p = begun_paced setup account asked.0 asked.1
paced_now setup asked account (InFlight flight phase) p = p

-- so every step of every run fits
pub every_step_fits : EveryStepFits
every_step_fits setup events seat asked state run h is may =
    let a = fine setup events run in
    let kept : KeepsStand setup a.common seat state.account.used (a.locals seat) state.stand =
    subst (λ (x : SeatState). KeepsStand setup a.common seat x.account.used (a.locals seat) x.stand) is
    (a.follows.seats seat h) in
    let k = keeps_now setup a.common seat asked state.account state.stand (a.locals seat) kept may in
    let flight = flight_in state.account state.stand asked in
    let phase = phase_in state.stand in
    let paced : flight.steps + rest setup flight phase ≤ most_steps (settings_of setup) flight.call =
    paced_now setup asked state.account state.stand (subst (λ (x : SeatState). PacedStand setup x.stand) is
    (a.holds.2 seat h)) in
    let some = some_left setup seat a.common state.account flight (a.locals seat) h a.follows.shared phase k in
    let few : flight.steps < most_steps (settings_of setup) flight.call = omega (arith, paced, some) in
    subst (StepFits setup seat state.account.used flight phase)
    (sym (found_same setup (ask_of setup seat asked state) (world_after setup events).words a.common.memory
    (within setup seat a.common state.account.used flight (a.locals seat) h a.follows.shared phase k) a.follows.shows))
    (fits setup seat a.common state.account flight (a.locals seat) phase h a.follows.shared a.holds.0 a.holds.1 few
    (omega (arith, few, bound_small setup flight.call)) k)
