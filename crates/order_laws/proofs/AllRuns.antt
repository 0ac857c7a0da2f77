-- All runs: at the opening all this holds, and each event keeps it.
use Rattle.std.proofs.Common.{◌≡◌, ℕ, zero, suc, ◌+◌, ◌<◌, ◌≤◌, true, List, [], length, None, inl, inr, refl, sym, ap, ◌∙◌, subst, arith, get_or-set_same, get_or-set_other}
use Rattle.std.proofs.lemmas.Bool.{cases_eq}
use Rattle.std.proofs.lemmas.List.{get_or-replicate}
use Rattle.step_counts.specs.declared.rows.SeatRows.{SeatRows}
use Rattle.plain_map.specs.declared.calls.Call.TheVariants.{Lookup}
use Rattle.word_rows.specs.Memory.{put}
use Rattle.word_rows.proofs.MemoryLemmas.{put_same, put_other}
use Rattle.bucket_states.specs.States.{BucketState}
use Rattle.bucket_states.specs.Laws.{applied_of}
use Rattle.table_model.specs.declared.events.Event.{Event}
use Rattle.table_model.specs.Setup.{Setup, IsSetup, seats_of}
use Rattle.table_model.specs.Phases.{Phase, SeeDone}
use Rattle.table_model.specs.SeatStates.{fresh_seat, begun, Account, Flight, Idle, SeatState}
use Rattle.table_model.specs.Asks.{ask_in}
use Rattle.table_model.specs.Goes.{state_after}
use Rattle.table_model.specs.Worlds.{World, IsRun, seat_in, found_by, step_of, opening_world, world_after}
use Rattle.run_invariant.proofs.Invariant.{Common, Local, Keeps}
use Rattle.run_invariant.proofs.Events.{local_after}
use Rattle.run_invariant.proofs.Change.{no_leaf}
use Rattle.run_laws.proofs.Induction.{Follows, common_after, found_in, found_same, within}
use Rattle.run_laws.proofs.Layers.{Begun, Steps, HoldsWith, run_with}
use Rattle.run_laws.proofs.Changes.{changes_from_laws}
use Rattle.run_laws.proofs.Opened.{bucket_laws, HoldsFresh, opening_fresh}
use Rattle.change_laws.proofs.FirstLeaves.{first_opens}
use Rattle.closed_laws.proofs.Units.{InRow, InVersion, NewAt}
use Rattle.order_laws.proofs.Tale.{past_of, Tale, tally, Told, Seated}
use Rattle.order_laws.proofs.Grows.{seated_stays}
use Rattle.order_laws.proofs.Phases.{Went}
use Rattle.list_laws.proofs.Options.{none_some}
use Rattle.order_laws.proofs.Moments.{grows_both}
use Rattle.order_laws.proofs.Begins.{begin}
use Rattle.order_laws.proofs.Steps.{went}
use Rattle.plain_map.specs.Keys.{no_key}

-- what is told of a world, and known of its seats
pub record Tells (setup : Setup) (w : World) (c : Common) (locals : ℕ → Local) (t : Tale) : Type 0 where
  pub told : Told setup (past_of c) t
  pub done : (s : ℕ) → c.memory.done s ≡ t.answers s
  pub seats : (q : ℕ) → q < seats_of setup →
      Seated setup (past_of c) t q (locals q) (seat_in w q).account (seat_in w q).stand

module _ (setup : Setup) (w : World) (c : Common) (locals : ℕ → Local) (t : Tale) (me : ℕ) (flight : Flight)
    (phase : Phase) (f : Follows setup w c locals) (h : me < seats_of setup)
    (k : Keeps setup c me (seat_in w me).account.used flight (locals me) phase) (tells : Tells setup w c locals t) where
  -- the seat's account before the event
  abbrev account : Account
  account = (seat_in w me).account

  -- the history after it
  abbrev d : Common
  d = common_after setup me account.used flight phase c

  -- what the seat keeps in mind
  abbrev at : Local
  at = local_after phase c (locals me)

  -- a seat after the step of one
  after : (number : ℕ) → Went setup me number (past_of c) t (past_of d) d.memory at
      (state_after setup me account flight phase (found_in (ask_in setup me account.used flight phase) c.memory)) →
      (u : Tale) × Tells setup (step_of setup w me account flight phase) d (put locals me at) u
  after number x = (
    x.tale,
    record {
      told = x.told;
      done = x.done;
      seats = λ q inside. elim (cases_eq q me) [
        | inl e ↦ subst (λ z. Seated setup (past_of d) x.tale z (put locals me at z) (seat_in next z).account
            (seat_in next z).stand) (sym e) mine
        | inr n ↦
            subst (λ (z : SeatState). Seated setup (past_of d) x.tale q (put locals me at q) z.account z.stand)
            (sym (get_or-set_other w.seats me q (state found) fresh_seat n))
            (subst (λ z. Seated setup (past_of d) x.tale q z (seat_in w q).account (seat_in w q).stand)
            (sym (put_other locals me at q n))
            (seated_stays setup me number (past_of c) t (past_of d) x.tale x.grows q n c (locals q)
            (seat_in w q).account (seat_in w q).stand refl (f.seats q inside) (tells.seats q inside)))
      ];
    },
  )
    where
      found : ℕ
      found = found_by setup (ask_in setup me account.used flight phase) w.words

      state : ℕ → SeatState
      state z = state_after setup me account flight phase z

      next : World
      next = step_of setup w me account flight phase

      mine : Seated setup (past_of d) x.tale me (put locals me at me) (seat_in next me).account (seat_in next me).stand
      mine = subst (λ (z : SeatState). Seated setup (past_of d) x.tale me (put locals me at me) z.account z.stand)
          (sym (get_or-set_same w.seats me (state found) fresh_seat (omega (arith, f.long, h))))
          (subst (λ z. Seated setup (past_of d) x.tale me z (state found).account (state found).stand)
          (sym (put_same locals me at))
          (subst (λ z. Seated setup (past_of d) x.tale me at (state z).account (state z).stand)
          (sym (found_same setup (ask_in setup me account.used flight phase) w.words c.memory
          (within setup me c account.used flight (locals me) h f.shared phase k) f.shows)) x.seat))

-- each step keeps it
pub told_steps : (setup : Setup) → Steps Tale setup (Tells setup)
told_steps setup w c locals t me flight phase f h (inl is) k tells =
    after setup w c locals t me flight phase f h k tells flight.number
    (went setup me c (seat_in w me).account flight (locals me) h f.shared f.descent t tells.told tells.done phase k
    (subst (Seated setup (past_of c) t me (locals me) (seat_in w me).account) is (tells.seats me h)))
told_steps setup w c locals t me flight phase f h (inr begins) k tells =
    after setup w c locals t me flight phase f h k tells number
    (subst (λ z. Went setup me number (past_of c) t (past_of (then z phase)) (then z phase).memory
    (local_after phase c (locals me)) (state z phase)) (sym b.flight_is)
    (subst (λ z. Went setup me number (past_of c) t (past_of (then call z)) (then call z).memory
    (local_after z c (locals me)) (state call z)) (sym b.phase_is) both))
  where
    b : Begun setup me (seat_in w me).account flight phase
    b = begins.1

    call : Flight
    call = begun (seat_in w me).account b.packet b.call

    number : ℕ
    number = length (seat_in w me).account.records + 1

    then : Flight → Phase → Common
    then x ph = common_after setup me (seat_in w me).account.used x ph c

    state : Flight → Phase → SeatState
    state x ph = state_after setup me (seat_in w me).account x ph
        (found_in (ask_in setup me (seat_in w me).account.used x ph) c.memory)

    idle : Seated setup (past_of c) t me (locals me) (seat_in w me).account Idle
    idle = subst (Seated setup (past_of c) t me (locals me) (seat_in w me).account) begins.0 (tells.seats me h)

    keeps : Keeps setup c me (seat_in w me).account.used call (locals me) SeeDone
    keeps = subst (λ z. Keeps setup c me (seat_in w me).account.used call (locals me) z) b.phase_is
        (subst (λ z. Keeps setup c me (seat_in w me).account.used z (locals me) phase) b.flight_is k)

    both : Went setup me number (past_of c) t (past_of (then call SeeDone)) (then call SeeDone).memory
        (local_after SeeDone c (locals me)) (state call SeeDone)
    both =
        let x = begin setup me c h f.shared t tells.told tells.done (seat_in w me).account
        (locals me) b.packet b.call idle in
        let y = went setup me c (seat_in w me).account call
        (locals me) h f.shared f.descent x.0 x.1 x.3 SeeDone keeps x.4 in
        record {
          tale = y.tale;
          told = y.told;
          grows = grows_both me number (past_of c) t (past_of c) x.0
              (past_of (then call SeeDone)) y.tale x.2 y.grows;
          done = y.done;
          seat = y.seat;
        }

-- ---- the opening

-- nothing is told yet
abbrev pub silence : Tale
silence = record {
  answers = λ q. 0;
  call_at = λ q m. Lookup no_key;
  seen = λ q m a. 0;
  looked = λ q m. None;
  waits = λ q m. None;
  row_ops = λ b i. [];
  dir_made = λ v. record { ops = []; loaded = []; fresh = 0 };
  clock = record { time = 1; row = λ b i. 0; dir = λ v. 0; call = λ q m. None };
}

module _ (setup : Setup) (s : IsSetup setup) where
  -- what holds of the opening
  abbrev fresh : HoldsFresh setup (opening_world setup)
  fresh = opening_fresh setup s

  -- its history
  abbrev c : Common
  c = fresh.holds.common

  -- each bucket has one row
  top_is : (b : ℕ) → c.named b ≡ true → c.top b ≡ 0
  top_is b n = (fresh.first_leaf b n).1

  -- and is of the first version
  born_is : (b : ℕ) → c.named b ≡ true → c.born b ≡ 0
  born_is b n = omega (arith, fresh.holds.follows.descent.born_within b n, fresh.first)

  -- no number is applied
  unused : (b i q : ℕ) → c.named b ≡ true → i ≤ c.top b → applied_of (c.state_at b i) q ≡ 0
  unused b i q n o =
      let f = fresh.first_leaf b n in
      let at : i ≡ 0 = omega (arith, o, f.1) in
      ap (λ j. applied_of (c.state_at b j) q) at ∙ ap (λ (x : BucketState). applied_of x q) f.2
      ∙ (first_opens setup s).unused b no_leaf f.0 q

  -- no op is announced
  ops_none : (q : ℕ) → (c.used q).op_rows ≡ 0
  ops_none q = ap (λ (u : SeatRows). u.op_rows) (fresh.none q)

  -- no number is new in a row
  no_row : (b i q m : ℕ) → InRow (tally setup (past_of c) silence) b i q m → ⊥
  no_row b i q m r = omega (arith, r.inside, top_is b r.named)

  -- nor in a version
  no_version : (v q m : ℕ) → InVersion (tally setup (past_of c) silence) v q m → ⊥
  no_version v q m r = omega (arith, r.inside, fresh.first)

  -- nor anywhere
  no_new : (b i q m : ℕ) → NewAt (tally setup (past_of c) silence) b i q m → ⊥
  no_new b zero q m r = no_version r.0 q m r.1
  no_new b (suc i) q m r = no_row b i q m r

  -- so the tale of the opening is told
  first_told : Told setup (past_of c) silence
  first_told = record {
    counts = record {
      carried = λ b i q key r fit. omega (arith, unused b i q r.named r.inside);
      there = λ key. fresh.holds.follows.shared.leads.there c.dir_top key (omega arith);
      from_named = λ b n one. absurd (omega (arith, one, born_is b n));
      born_within = λ b n. omega (arith, born_is b n);
      unit = λ b i q r some. absurd (omega (arith, some, unused b i q r.named r.inside));
      row_key = λ b i q m r. absurd (no_row b i q m r);
      version_key = λ v q m r. absurd (no_version v q m r);
      one_row = λ a b i j q m r x. absurd (no_row a i q m r);
      row_or_version = λ a i v q m r x. no_row a i q m r;
      one_version = λ u v q m r x. absurd (no_version u q m r);
      one_number = λ v q m n r x. absurd (no_version v q m r);
      one_reply = λ a b i j q r x some e. absurd (omega (arith, some, unused a i q r.named r.inside));
    };
    ticks = record {
      begun = omega arith;
      rows_past = λ b i n o. omega arith;
      dirs_past = λ v o. omega arith;
      rows_rise = λ b i n o. absurd (omega (arith, o, top_is b n));
      dirs_rise = λ v o. absurd (omega (arith, o, fresh.first));
      born_within = λ b n. omega (arith, born_is b n);
      born_is = λ b n. refl;
      from_named = λ b n one. absurd (omega (arith, one, born_is b n));
      retires = λ b n one. absurd (omega (arith, one, born_is b n));
      calls_past = λ q m x e. absurd (none_some e);
      after = λ q m x a n e r. absurd (none_some e);
      looked = λ q m b i e. absurd (none_some e);
      placed = λ b i q m r. absurd (no_new b i q m r);
      source = λ q m y e. absurd (none_some e);
      heard = λ q m v a n e r. absurd (none_some e);
      waits = λ q m v a n e o r. absurd (none_some e);
    };
    seen_few = λ q m a. omega arith;
    seen_none = λ q m a o. refl;
    placed = λ q m inside one few. absurd (omega (arith, one, few));
    ops = λ q j inside less. absurd (omega (arith, less, ops_none q));
    applied = λ b i q n o inside some. absurd (omega (arith, some, unused b i q n o));
    looks = λ q m l e. absurd (none_some e);
    first_leaf = λ b n e. let f = fresh.first_leaf b n in (f.0, f.2);
    first_dir = fresh.first_dir;
    rows = λ b i n o. absurd (omega (arith, o, top_is b n));
    versions = λ v o. absurd (omega (arith, o, fresh.first));
  }

  -- and each seat knows its part
  first_seat : (q : ℕ) → q < seats_of setup →
      Seated setup (past_of c) silence q (fresh.holds.locals q) (seat_in (opening_world setup) q).account
      (seat_in (opening_world setup) q).stand
  first_seat q inside = subst (λ (x : SeatState). Seated setup (past_of c) silence q
      (fresh.holds.locals q) x.account x.stand)
      (sym (get_or-replicate (seats_of setup) q fresh_seat fresh_seat inside)) (record {
        answers = record { many = refl; each = λ i d less. absurd (omega (arith, less)); unseen = λ m a over. refl };
        upto = record {
          ops = λ j less. absurd (omega (arith, less, ops_none q));
          looks = λ m l e. absurd (none_some e);
          waits = λ m v e. absurd (none_some e);
        };
      })

  -- so the opening is told
  pub opening_tells : HoldsWith Tale setup (Tells setup) (opening_world setup)
  opening_tells = record {
    common = c;
    locals = fresh.holds.locals;
    follows = fresh.holds.follows;
    extra = silence;
    holds = record { told = first_told; done = fresh.done; seats = first_seat };
  }

-- so it holds after every run
pub all_tell : (setup : Setup) (events : List Event) → IsRun setup events →
    HoldsWith Tale setup (Tells setup) (world_after setup events)
all_tell setup events run = run_with Tale bucket_laws changes_from_laws setup (Tells setup) (told_steps setup) events
    (opening_world setup) (opening_tells setup run.opened) run.follow
