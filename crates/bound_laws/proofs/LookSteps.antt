-- How many steps a lookup has taken, phase by phase: in the end those of the items of its row. And how many a record
-- has.
use Rattle.std.proofs.Common.{◌≡◌, ℕ, ◌+◌, ◌*◌, ◌<◌, ◌≤◌, Bool, true, false, cond, ltb, List, [], length, get_or, refl, sym, ap, ◌∙◌, subst, arith}
use Rattle.std.specs.List.{All}
use Rattle.std.proofs.lemmas.Bool.{cond_both, ltb-false}
use Rattle.std.proofs.lemmas.List.{length_push}
use Rattle.step_counts.specs.declared.TheConstants.{ITEM_WORDS}
use Rattle.step_counts.specs.StepCounts.{lookup_steps}
use Rattle.plain_map.specs.declared.records.Record.{Record}
use Rattle.bucket_states.specs.States.{BucketState}
use Rattle.table_model.specs.declared.rounds.Aim.TheVariants.{ForLookup}
use Rattle.table_model.specs.Setup.{Setup, seats_of, settings_of}
use Rattle.table_model.specs.Phases.{Phase, SeeDone, StoreOp, FindRoot, FindDepth, FindEntry, LookWord, LookCount, LookItems, StoreDone}
use Rattle.table_model.specs.SeatStates.{Account, Flight, Stand, Idle, InFlight, SeatState, begun, record_of}
use Rattle.plain_map.specs.Calls.{is_update}
use Rattle.table_model.specs.Asks.{ask_in}
use Rattle.table_model.specs.Goes.{state_after, phase_after, flight_after, more, after_items, after_seeing}
use Rattle.run_invariant.proofs.Events.{local_after}
use Rattle.run_invariant.proofs.Invariant.{Common, Local, Shared, Keeps, KeepsStand, Moves, width}
use Rattle.run_laws.proofs.Induction.{common_after, found_in}
use Rattle.std.proofs.lemmas.List.Elements.{All-push}
use Rattle.run_laws.proofs.Layers.{Begun}
use Rattle.bound_laws.proofs.SeatLayers.{SeatLayer, flying}

-- so many items has the row at this place of the bucket's history
abbrev pub items_at : Common → (bucket at : ℕ) → ℕ
items_at c bucket at = length (c.state_at bucket at).items

-- the count that a row tells is that of its items
pub count_is : (setup : Setup) (c : Common) (b i : ℕ) → Shared setup c → c.named b ≡ true → i ≤ c.top b →
    c.memory.bucket_row (c.row_at b i) 4 ≡ items_at c b i
unfolding width
count_is setup c b i s n o =
    s.rows.rows_are b i 4 n o (omega arith) ∙ ap (λ ws. get_or ws 4 0) (s.rows.sound b i n o).spells.1

-- a published row of so many items, and the steps up to the store of the done word
pub record Looked (setup : Setup) (c : Common) (row steps : ℕ) : Type 0 where
  pub bucket : ℕ
  pub at : ℕ
  pub there : c.named bucket ≡ true
  pub old : at ≤ c.top bucket
  pub row_is : row ≡ c.row_at bucket at
  pub steps_are : steps + 1 ≡ lookup_steps (settings_of setup) (items_at c bucket at)

-- what a lookup has taken
abbrev pub LookTakes : Setup → Common → Local → Flight → Phase → Type 0
LookTakes setup c local flight SeeDone = flight.steps ≡ length flight.seen
LookTakes setup c local flight (FindRoot ForLookup) = flight.steps ≡ seats_of setup
LookTakes setup c local flight (FindDepth ForLookup root) = flight.steps ≡ seats_of setup + 1
LookTakes setup c local flight (FindEntry ForLookup root depth) = flight.steps ≡ seats_of setup + 2
LookTakes setup c local flight (LookWord root bucket) = flight.steps ≡ seats_of setup + 3
LookTakes setup c local flight (LookCount row) = flight.steps ≡ seats_of setup + 4
LookTakes setup c local flight (LookItems row count words) =
    (flight.steps ≡ seats_of setup + 5 + length words) × (count ≡ items_at c local.at local.base)
LookTakes setup c local flight (StoreDone reply place) = Looked setup c place flight.steps
LookTakes setup c local flight phase = ⊥

-- and by its stand
abbrev pub TakesStand : Setup → Common → Local → Stand → Type 0
TakesStand setup c local Idle = Unit {0}
TakesStand setup c local (InFlight flight phase) = is_update flight.call ≡ false → LookTakes setup c local flight phase

-- the steps of a lookup's record
abbrev pub LookedAt : Setup → Common → Record → Type 0
LookedAt setup c r = is_update r.call ≡ false → (n : ℕ) × (r.steps ≡ n + 1) × Looked setup c r.place n

-- its records, and the lookup in flight
abbrev pub Looking : Setup → Common → ℕ → Local → Unit {0} → SeatState → Type 0
Looking setup c me local g state = All (LookedAt setup c) state.account.records × TakesStand setup c local state.stand

module _ (setup : Setup) (me : ℕ) (c d : Common) (m : Moves setup me c d) where
  -- a published row stays, with its items
  looked_moves : (row steps : ℕ) → Looked setup c row steps → Looked setup d row steps
  looked_moves row steps l =
      let up = m.named_up l.bucket l.there in
      let same = m.rows l.bucket l.at l.there l.old in
      record {
        bucket = l.bucket;
        at = l.at;
        there = up.0;
        old = omega (arith, l.old, up.3);
        row_is = l.row_is ∙ sym same.0;
        steps_are =
            l.steps_are ∙ ap (λ (b : BucketState). lookup_steps (settings_of setup) (length b.items)) (sym same.2);
      }

  -- so what records tell stays
  records_move : (rs : List Record) → All (LookedAt setup c) rs → All (LookedAt setup d) rs
  records_move rs a k z h u = (let r = a k z h u in (r.0, r.1, looked_moves (get_or rs k z).place r.0 r.2))

module _ (setup : Setup) (me : ℕ) (c : Common) (account : Account) (flight : Flight) (local : Local)
    (h : me < seats_of setup) (s : Shared setup c) where
  abbrev word : Phase → ℕ
  word phase = found_in (ask_in setup me account.used flight phase) c.memory

  abbrev TakesNext : Phase → Type 0
  TakesNext (StoreDone reply place) = Unit {0}
  TakesNext phase = LookTakes setup (common_after setup me account.used flight phase c) (local_after phase c local)
      (flight_after flight phase (word phase))
      (phase_after setup me account.used flight phase (word phase))

  -- all done words are seen by a lookup
  seen_all : (f : Flight) (u : Bool) → u ≡ false → f.steps ≡ seats_of setup →
      LookTakes setup c local f (cond u (StoreOp 0) (FindRoot ForLookup))
  seen_all f true e t = cc
  seen_all f false e t = t

  -- so many words of the items are loaded
  items_next : (f : Flight) (row count : ℕ) (words : List ℕ) → c.named local.at ≡ true → local.base ≤ c.top local.at →
      row ≡ c.row_at local.at local.base →
      f.steps ≡ seats_of setup + 5 + length words → count ≡ items_at c local.at local.base →
      length words ≤ count * ITEM_WORDS →
      LookTakes setup c local f (after_items setup flight row count words)
  items_next f row count words n o e t i m =
      cond_both (ltb (length words) (count * ITEM_WORDS)) (LookItems row count words) (StoreDone _ row)
      (LookTakes setup c local f)
      (λ x. (t, i))
      (λ x. record {
        bucket = local.at;
        at = local.base;
        there = n;
        old = o;
        row_is = e;
        steps_are =
            omega (arith, t, i, m, ltb-false (length words) (count * ITEM_WORDS) x);
      })

  -- one step of a lookup
  next : (phase : Phase) → Keeps setup c me account.used flight local phase → is_update flight.call ≡ false →
      LookTakes setup c local flight phase → TakesNext phase
  next SeeDone k u t =
      let f = flight_after flight SeeDone (word SeeDone) in
      let more_seen = length_push flight.seen (word SeeDone) in
      cond_both (ltb (length flight.seen + 1) (seats_of setup)) SeeDone (after_seeing flight)
      (LookTakes setup c local f)
      (λ x. omega (arith, t, more_seen))
      (λ x. seen_all f (is_update flight.call) u
      (omega (arith, t, k.short, ltb-false (length flight.seen + 1) (seats_of setup) x)))
  next (FindRoot ForLookup) k u t = omega (arith, t)
  next (FindDepth ForLookup root) k u t = omega (arith, t)
  next (FindEntry ForLookup root depth) k u t = omega (arith, t)
  next (LookWord root bucket) k u t = omega (arith, t)
  next (LookCount row) k u t =
      let count : word (LookCount row) ≡ items_at c local.at local.base =
      ap (λ r. c.memory.bucket_row r 4) k.row_is ∙ count_is setup c local.at local.base s k.there k.old in
      items_next (flight_after flight (LookCount row) (word (LookCount row))) row (word (LookCount row)) [] k.there
      k.old k.row_is (omega (arith, t)) count (omega arith)
  next (LookItems row count words) k u t =
      let x = word (LookItems row count words) in
      items_next (flight_after flight (LookItems row count words) x) row count (more words x) k.there k.old k.row_is
      (omega (arith, t.0, length_push words x)) t.1 (omega (arith, k.short, length_push words x))
  next (StoreDone reply place) k u t = tt
  next phase k u t = absurd t

  -- one step of a seat
  own : (phase : Phase) → Keeps setup c me account.used flight local phase →
      Looking setup c me local tt (flying account flight phase) →
      Moves setup me c (common_after setup me account.used flight phase c) →
      Looking setup (common_after setup me account.used flight phase c) me (local_after phase c local) tt
      (state_after setup me account flight phase (word phase))
  own (StoreDone reply place) k q m = (
    All-push (LookedAt setup (common_after setup me account.used flight (StoreDone reply place) c)) account.records
        (record_of me flight reply place)
        (records_move setup me c (common_after setup me account.used flight (StoreDone reply place) c) m account.records
        q.0)
        (λ u. (
          flight.steps,
          refl,
          looked_moves setup me c (common_after setup me account.used flight (StoreDone reply place) c) m place
              flight.steps (q.1 u),
        )),
    tt,
  )
  own phase k q m = (
    records_move setup me c (common_after setup me account.used flight phase c) m account.records q.0,
    λ u. next phase k u (q.1 u),
  )

-- as a layer
pub looking_layer : (setup : Setup) → SeatLayer setup (Unit {0}) (λ c. Unit {0}) (Looking setup)
looking_layer setup = record {
  whole = λ me c account flight phase local g o t q. tt;
  own = λ me c account flight phase local g o t u q. (
    tt,
    own setup me c account flight local o.there
        o.step.before.shared phase o.keeps q o.step.moves,
  );
  others = λ me q c d local g state n hq z k t u x. (
    records_move setup me c d z.moves state.account.records x.0,
    stand_moves setup me c d z.moves q local state.account state.stand k x.1,
  );
  begins = λ me c account flight phase local g h b x. (x.0, begun_takes setup c account local b);
}
  where
    stand_moves : (setup : Setup) (me : ℕ) (c d : Common) → Moves setup me c d →
        (q : ℕ) (local : Local) (account : Account) (stand : Stand) → KeepsStand setup c q account.used local stand →
        TakesStand setup c local stand → TakesStand setup d local stand
    stand_moves setup me c d m q local account Idle k t = tt
    stand_moves setup me c d m q local account (InFlight flight phase) k t = λ u. look_moves phase k (t u)
      where
        look_moves : (phase : Phase) → Keeps setup c q account.used flight local phase →
            LookTakes setup c local flight phase → LookTakes setup d local flight phase
        look_moves SeeDone k t = t
        look_moves (FindRoot ForLookup) k t = t
        look_moves (FindDepth ForLookup root) k t = t
        look_moves (FindEntry ForLookup root depth) k t = t
        look_moves (LookWord root bucket) k t = t
        look_moves (LookCount row) k t = t
        look_moves (LookItems row count words) k t =
            (t.0, t.1 ∙ ap (λ (b : BucketState). length b.items) (sym (m.rows local.at local.base k.there k.old).2))
        look_moves (StoreDone reply place) k t = looked_moves setup me c d m place flight.steps t
        look_moves phase k t = absurd t

    begun_takes : (setup : Setup) (c : Common) (account : Account) (local : Local) {flight : Flight} {phase : Phase}
        {me : ℕ} → Begun setup me account flight phase → TakesStand setup c local (InFlight flight phase)
    begun_takes setup c account local {flight = flight} {phase = phase} b =
        subst (λ f. TakesStand setup c local (InFlight f phase)) (sym b.flight_is)
        (subst (λ ph. TakesStand setup c local (InFlight (begun account b.packet b.call) ph)) (sym b.phase_is)
        (λ u. refl))
