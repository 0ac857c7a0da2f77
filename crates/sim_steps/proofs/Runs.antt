-- Whole runs: the world follows the memory with its history, and all holds in it.
use Rattle.std.proofs.Common.{◌≡◌, ◌≢◌, ℕ, ◌+◌, ◌-◌, ◌*◌, ◌<◌, ◌≤◌, Bool, true, false, cond, eqb, ltb, leb, ◌&&◌, List, [], ◌∷◌, length, get_or, set, replicate, inl, inr, refl, sym, ap, ◌∙◌, subst, arith, get_or-set_same, get_or-set_other, length-set}
use Rattle.std.proofs.lemmas.Bool.{cond_both, ltb-true, leb-true, cases_eq, and_parts}
use Rattle.std.proofs.lemmas.List.{get_or-replicate, length-replicate, set-get_or, get_or-append_right}
use Rattle.std.proofs.lemmas.List.Elements.{All-nil}
use Rattle.sim_steps.specs.declared.adds.Add.{Add}
use Rattle.sim_steps.specs.declared.adds.Added.{Added}
use Rattle.sim_steps.specs.declared.words.Ask.{Ask}
use Rattle.sim_steps.specs.declared.words.Ask.TheVariants.{Load, Store, Exchange}
use Rattle.sim_steps.specs.declared.words.Address.TheVariants.{Root}
use Rattle.sim_steps.specs.Totals.{is_add}
use Rattle.sim_steps.specs.Layout.{Settings, AreSettings, seats_of, room_of, desk_of, state_row}
use Rattle.sim_steps.specs.Program.{Phase, Idle, LoadDone, StoreOp, Announce, LoadRoot, LoadRow, LoadAnnouncement, LoadOp, StoreRow, Publish, StoreDone, Seat, Caller, resting, begun, ready, applied, op_of, op_words, next_in, phase_after, caller_after, seat_after, step_bound, no_op}
use Rattle.sim_steps.specs.World.{World, Event, place_of, address_of, becomes, told, opening_row, opening, can_act, seat_in, acts, happens, world_from, world_after}
use Rattle.sim_steps.proofs.Apart.{state_row_pos, op_row_within, state_row_within}
use Rattle.sim_steps.proofs.Memory.{Within, read, IsLaidFlat, laid_flat_write, laid_flat_first, first_memory, Memory, write, put, put_same, put_other, row_long}
use Rattle.sim_steps.proofs.Ghost.{Common, Local, common_after, published, base_after, Shared, Story, Keeps, Goes}
use Rattle.sim_steps.proofs.Stays.{stays}
use Rattle.sim_steps.proofs.Ordered.{story_step}
use Rattle.sim_steps.proofs.Pace.{Paced, paced_step, paced_begun}
use Rattle.sim_steps.proofs.Logs.{Logged, logged_stays, logged_step}
use Rattle.sim_steps.proofs.Tally.{Tallied, tallied_step, tallied_first}
use Rattle.sim_steps.proofs.Step
use Rattle.sim_steps.proofs.Step.{moves_none}

-- all that holds of the history and the seats
pub record Kept (l : Settings) (c : Common) (locals : ℕ → Local) : Type 0 where
  pub shared : Shared l c
  pub story : Story l c
  pub tallied : Tallied l c
  pub seats : (p : ℕ) → p < seats_of l → Keeps l c p (locals p).seat.caller (locals p).base (locals p).seat.phase
  pub logs : (p : ℕ) → p < seats_of l → Logged l c p (locals p).seat.caller.number (locals p).seat.phase
      (locals p).seat.log
  pub paced : (p : ℕ) → p < seats_of l → Paced l (locals p).seat

-- what a step finds in the memory, and the memory after it
abbrev pub found_in : Ask → Memory → ℕ
found_in (Load from) m = read m from
found_in (Store to word) m = word
found_in (Exchange old new) m = m.root

-- the memory after what was asked for
abbrev pub memory_after : Ask → Memory → Memory
memory_after (Load from) m = m
memory_after (Store to word) m = write m to word
memory_after (Exchange old new) m = cond (eqb m.root old) (record m { root = new }) m

-- what a seat asks for is within the table
pub within : (l : Settings) (me : ℕ) (c : Common) (seat : Caller) (base : ℕ) (phase : Phase) → me < seats_of l →
    Shared l c → Keeps l c me seat base phase → Within l (address_of (next_in (desk_of l me) seat phase))
within l me c seat base Idle h s k = tt
within l me c seat base LoadDone h s k = k.short
within l me c seat base (StoreOp i) h s k = (
  op_row_within l me (seat.number - 1)
      (omega (arith, k.begins.few, k.begins.spare)),
  k.short,
)
within l me c seat base Announce h s k = h
within l me c seat base (LoadRoot turn) h s k = tt
within l me c seat base (LoadRow turn root row) h s k =
    (let r = s.chain.within base k.looks.old in omega (arith, r, k.looks.root_is), k.short)
within l me c seat base (LoadAnnouncement turn root row found) h s k = k.short
within l me c seat base (LoadOp turn root row found op words) h s k = (
  let r = op_row_within l (length found) k.reads.before
      (omega (arith, k.reads.is_announced, s.calls.few (length found) k.short)) in
      omega (arith, r, k.reads.op_is),
  k.short_op,
)
within l me c seat base (StoreRow turn root row i) h s k =
    (state_row_within l me seat.made (omega (arith, k.works.spare, k.works.few)), k.short)
within l me c seat base (Publish turn root row) h s k = tt
within l me c seat base (StoreDone count) h s k = h

-- the memory of the history is the memory
memory_is : (l : Settings) (me : ℕ) (c : Common) (seat : Caller) (phase : Phase) →
    (common_after l me seat phase c).memory ≡ memory_after (next_in (desk_of l me) seat phase) c.memory
memory_is l me c seat (Publish turn root row) = go (eqb c.memory.root root)
  where
    go : (b : Bool) → (cond b (published l me seat root row c) c).memory ≡ cond b
        (record c.memory { root = state_row (desk_of l me) seat.made }) c.memory
    go true = refl
    go false = refl
memory_is l me c seat Idle = refl
memory_is l me c seat LoadDone = refl
memory_is l me c seat (StoreOp i) = refl
memory_is l me c seat Announce = refl
memory_is l me c seat (LoadRoot turn) = refl
memory_is l me c seat (LoadRow turn root row) = refl
memory_is l me c seat (LoadAnnouncement turn root row found) = refl
memory_is l me c seat (LoadOp turn root row found op words) = refl
memory_is l me c seat (StoreRow turn root row i) = refl
memory_is l me c seat (StoreDone count) = refl

-- the words follow the memory
abbrev word_on : Settings → Ask → List ℕ → ℕ
word_on l a words = get_or words (place_of l (address_of a)) 0

-- the list and the memory tell the same
found_same : (l : Settings) (a : Ask) (words : List ℕ) (m : Memory) → Within l (address_of a) → IsLaidFlat l words m →
    told a (word_on l a words) ≡ found_in a m
found_same l (Load from) words m t s = s.same from t
found_same l (Store to word) words m t s = refl
found_same l (Exchange old new) words m t s = s.same Root tt

-- and go on as one
laid_flat_after : (l : Settings) (a : Ask) (words : List ℕ) (m : Memory) → Within l (address_of a) →
    IsLaidFlat l words m →
    IsLaidFlat l (set words (place_of l (address_of a)) (becomes a (word_on l a words))) (memory_after a m)
laid_flat_after l (Load from) words m t s =
    subst (λ ws. IsLaidFlat l ws m) (sym (set-get_or words (place_of l from) 0)) s
laid_flat_after l (Store to word) words m t s = laid_flat_write l words m to word t s
laid_flat_after l (Exchange old new) words m t s =
    let same : get_or words 0 0 ≡ m.root = s.same Root tt in
    go (eqb (get_or words 0 0) old) (eqb m.root old) (ap (λ x. eqb x old) same)
  where
    go : (b e : Bool) → b ≡ e → IsLaidFlat l (set words 0 (cond b new (get_or words 0 0)))
        (cond e (record m { root = new }) m)
    go true true f = laid_flat_write l words m Root new tt s
    go false false f = subst (λ ws. IsLaidFlat l ws m) (sym (set-get_or words 0 0)) s
    go true false f = cc
    go false true f = cc

-- one event of a seat, whatever its phase
goes : (l : Settings) (me : ℕ) (c : Common) (seat : Caller) (base : ℕ) (phase : Phase) → me < seats_of l →
    Shared l c → Keeps l c me seat base phase →
    (let w = found_in (next_in (desk_of l me) seat phase) c.memory in
    Goes l me c (common_after l me seat phase c) (caller_after seat phase w) (base_after phase c base)
    (phase_after (desk_of l me) seat phase w))
goes l me c seat base Idle h s k = record { shared = s; keeps = k; moves = moves_none l me c }
goes l me c seat base LoadDone h s k = Step.load_done l me c seat base h s k
goes l me c seat base (StoreOp i) h s k = Step.store_op l me c seat base h s i (get_or (op_words (op_of seat)) i 0) k
goes l me c seat base Announce h s k = Step.announce l me c seat base h s
    (found_in (next_in (desk_of l me) seat Announce) c.memory) k
goes l me c seat base (LoadRoot turn) h s k = Step.load_root l me c seat base h s turn k
goes l me c seat base (LoadRow turn root row) h s k = Step.load_row l me c seat base h s turn root row k
goes l me c seat base (LoadAnnouncement turn root row found) h s k =
    Step.load_announcement l me c seat base h s turn root row found k
goes l me c seat base (LoadOp turn root row found op words) h s k =
    Step.load_op l me c seat base h s turn root row found op words k
goes l me c seat base (StoreRow turn root row i) h s k =
    Step.store_row l me c seat base h s turn root row i (get_or row i 0) k
goes l me c seat base (Publish turn root row) h s k = Step.exchange l me c seat base turn root row h s k
goes l me c seat base (StoreDone count) h s k = Step.store_done l me c seat base h s count seat.number k

-- ---- an idle seat that begins an add

-- what is known of a seat that takes a step, where it begins an add or not
pub record Ready (l : Settings) (c : Common) (me : ℕ) (base : ℕ) (seat : Seat) : Type 0 where
  pub keeps : Keeps l c me seat.caller base seat.phase
  pub logged : Logged l c me seat.caller.number seat.phase seat.log
  pub paced : Paced l seat
  pub busy : seat.phase ≢ Idle

-- so with one that begins
ready_begun : (l : Settings) (me : ℕ) (c : Common) (a : Add) (base : ℕ) (caller : Caller) (steps : ℕ)
    (log : List Added) → me < seats_of l → Keeps l c me caller base Idle → Logged l c me caller.number Idle log →
    Paced l (record { caller = caller; phase = Idle; steps = steps; log = log }) →
    (ltb caller.number (room_of l me) && is_add a) ≡ true →
    Ready l c me base (begun a (record { caller = caller; phase = Idle; steps = steps; log = log }))
ready_begun l me c a base caller steps log h k g p t =
    let both = and_parts (ltb caller.number (room_of l me)) (is_add a) t in
    let good = and_parts (ltb a.class 3) (leb a.length 262144) both.1 in
    record {
      keeps = record {
        begins = record {
          made_is = k.made_is;
          number_is = omega (arith, k.number_is);
          spare = omega (arith, k.spare);
          few = omega (arith, ltb-true caller.number (room_of l me) both.0);
          classed = ltb-true a.class 3 good.0;
          short = leb-true a.length 262144 good.1;
          applied_is = k.applied_is;
          seen_old = λ q h. omega arith;
        };
        short = omega arith;
      };
      logged = record { counted = omega (arith, g.counted); answered = g.answered };
      paced = paced_begun l (begun a (record { caller = caller; phase = Idle; steps = steps; log = log })).caller log
          refl p.before;
      busy = λ e. cc;
    }

-- and with any
ready_of : (l : Settings) (me : ℕ) (c : Common) (a : Add) (base : ℕ) (caller : Caller) (phase : Phase) (steps : ℕ)
    (log : List Added) → me < seats_of l → Keeps l c me caller base phase → Logged l c me caller.number phase log →
    Paced l (record { caller = caller; phase = phase; steps = steps; log = log }) →
    can_act l me a (record { caller = caller; phase = phase; steps = steps; log = log }) ≡ true →
    Ready l c me base (ready a (record { caller = caller; phase = phase; steps = steps; log = log }))
ready_of l me c a base caller Idle steps log h k g p t = ready_begun l me c a base caller steps log h k g p t
ready_of l me c a base caller LoadDone steps log h k g p t = record { keeps = k; logged = g; paced = p; busy = λ e. cc }
ready_of l me c a base caller (StoreOp i) steps log h k g p t =
    record { keeps = k; logged = g; paced = p; busy = λ e. cc }
ready_of l me c a base caller Announce steps log h k g p t = record { keeps = k; logged = g; paced = p; busy = λ e. cc }
ready_of l me c a base caller (LoadRoot turn) steps log h k g p t =
    record { keeps = k; logged = g; paced = p; busy = λ e. cc }
ready_of l me c a base caller (LoadRow turn root row) steps log h k g p t =
    record { keeps = k; logged = g; paced = p; busy = λ e. cc }
ready_of l me c a base caller (LoadAnnouncement turn root row found) steps log h k g p t =
    record { keeps = k; logged = g; paced = p; busy = λ e. cc }
ready_of l me c a base caller (LoadOp turn root row found op words) steps log h k g p t =
    record { keeps = k; logged = g; paced = p; busy = λ e. cc }
ready_of l me c a base caller (StoreRow turn root row i) steps log h k g p t =
    record { keeps = k; logged = g; paced = p; busy = λ e. cc }
ready_of l me c a base caller (Publish turn root row) steps log h k g p t =
    record { keeps = k; logged = g; paced = p; busy = λ e. cc }
ready_of l me c a base caller (StoreDone count) steps log h k g p t =
    record { keeps = k; logged = g; paced = p; busy = λ e. cc }

-- from what is known of it
pub ready_keeps : (l : Settings) (me : ℕ) (c : Common) (a : Add) (base : ℕ) (seat : Seat) → me < seats_of l →
    Keeps l c me seat.caller base seat.phase → Logged l c me seat.caller.number seat.phase seat.log → Paced l seat →
    can_act l me a seat ≡ true → Ready l c me base (ready a seat)
ready_keeps l me c a base seat h k g p t = ready_of l me c a base seat.caller seat.phase seat.steps seat.log h k g p t

-- ---- the world follows a memory with its history, in which all holds
pub record Follows (l : Settings) (w : World) (c : Common) (locals : ℕ → Local) : Type 0 where
  pub laid_flat : IsLaidFlat l w.words c.memory
  pub long : length w.seats ≡ seats_of l
  pub seats_are : (p : ℕ) → p < seats_of l → seat_in w p ≡ (locals p).seat
  pub kept : Kept l c locals

-- what holds of a world, with its history
pub record Holds (l : Settings) (w : World) : Type 0 where
  pub common : Common
  pub locals : ℕ → Local
  pub follows : Follows l w common locals

-- a step of a seat that is in an add
module _ (l : Settings) (w : World) (me : ℕ) (r : Seat) (h : me < seats_of l) (c : Common) (locals : ℕ → Local)
    (a : Follows l w c locals) (y : Ready l c me (locals me).base r) where
  -- what the seat asks for
  abbrev ask : Ask
  ask = next_in (desk_of l me) r.caller r.phase

  -- the word that it is told
  abbrev word : ℕ
  word = found_in ask c.memory

  -- the history after the step
  abbrev d : Common
  d = common_after l me r.caller r.phase c

  -- what the seat keeps of it then
  abbrev new : Local
  new = record { seat = seat_after (desk_of l me) r word; base = base_after r.phase c (locals me).base }

  -- its phase goes on
  g : Goes l me c d (caller_after r.caller r.phase word) (base_after r.phase c (locals me).base)
      (phase_after (desk_of l me) r.caller r.phase word)
  g = goes l me c r.caller (locals me).base r.phase h a.kept.shared y.keeps

  -- its word is within the table
  inside : Within l (address_of ask)
  inside = within l me c r.caller (locals me).base r.phase h a.kept.shared y.keeps

  -- each seat is as before but for this one
  seats_new : (p : ℕ) → p < seats_of l → seat_in (acts l me r w) p ≡ (put locals me new p).seat
  seats_new p hp = elim (cases_eq p me) [
    | inl f ↦ subst (λ q. get_or (set w.seats me (seat_after (desk_of l me) r (told ask (word_on l ask w.words)))) q
        resting ≡ (put locals me new q).seat) (sym f)
        (get_or-set_same w.seats me (seat_after (desk_of l me) r (told ask (word_on l ask w.words))) resting
        (omega (arith, a.long, h))
        ∙ ap (seat_after (desk_of l me) r) (found_same l ask w.words c.memory inside a.laid_flat)
        ∙ ap (λ x. x.seat) (sym (put_same locals me new)))
    | inr n ↦ get_or-set_other w.seats me p (seat_after (desk_of l me) r (told ask (word_on l ask w.words))) resting
        n ∙ a.seats_are p hp ∙ ap (λ x. x.seat) (sym (put_other locals me new p n))
  ]

  -- what holds of one seat and what of the others
  each : (P : ℕ → Local → Type 0) → P me new → ((p : ℕ) → p < seats_of l → p ≢ me → P p (locals p)) → (p : ℕ) →
      p < seats_of l → P p (put locals me new p)
  each P mine others p hp = elim (cases_eq p me) [
    | inl f ↦ subst (λ q. P q (put locals me new q)) (sym f) (subst (P me) (sym (put_same locals me new)) mine)
    | inr n ↦ subst (P p) (sym (put_other locals me new p n)) (others p hp n)
  ]

  -- its record is right then
  mine_logged : Logged l d me (caller_after r.caller r.phase word).number
      (phase_after (desk_of l me) r.caller r.phase word) (seat_after (desk_of l me) r word).log
  mine_logged = logged_stays l me c d g.moves me (caller_after r.caller r.phase word).number
      (phase_after (desk_of l me) r.caller r.phase word) (seat_after (desk_of l me) r word).log
      (logged_step l c me r.caller (locals me).base (r.steps + 1) r.phase word r.log h a.kept.shared y.keeps y.busy
      y.logged)

  -- a step of a seat keeps the world and its history together
  pub step_follows : Follows l (acts l me r w) d (put locals me new)
  step_follows = record {
    laid_flat = subst (IsLaidFlat l (acts l me r w).words) (sym (memory_is l me c r.caller r.phase))
        (laid_flat_after l ask w.words c.memory inside a.laid_flat);
    long = length-set w.seats me (seat_after (desk_of l me) r (told ask (word_on l ask w.words))) ∙ a.long;
    seats_are = seats_new;
    kept = record {
      shared = g.shared;
      tallied = tallied_step l me c r.caller (locals me).base r.phase h y.keeps a.kept.tallied;
      story = story_step l me c r.caller (locals me).base r.phase h a.kept.shared y.keeps g.moves a.kept.story;
      seats = each (λ p x. Keeps l d p x.seat.caller x.base x.seat.phase) g.keeps
          (λ p hp n. stays l me c d g.moves a.kept.shared g.shared p (locals p).seat.caller (locals p).base n hp
          (locals p).seat.phase (a.kept.seats p hp));
      logs = each (λ p x. Logged l d p x.seat.caller.number x.seat.phase x.seat.log) mine_logged
          (λ p hp n. logged_stays l me c d g.moves p (locals p).seat.caller.number (locals p).seat.phase
          (locals p).seat.log (a.kept.logs p hp));
      paced = each (λ p x. Paced l x.seat) (paced_step l me c r
          (locals me).base word a.kept.shared y.keeps y.busy y.paced) (λ p hp n. a.kept.paced p hp);
    };
  }

-- so all holds after a step
acts_holds : (l : Settings) (w : World) (me : ℕ) (a : Add) → me < seats_of l → can_act l me a (seat_in w me) ≡ true →
    Holds l w → Holds l (acts l me (ready a (seat_in w me)) w)
acts_holds l w me a h t o =
    let same : (o.locals me).seat ≡ seat_in w me = sym (o.follows.seats_are me h) in
    let can : can_act l me a (o.locals me).seat ≡ true = ap (can_act l me a) same ∙ t in
    let y = ready_keeps l me o.common a (o.locals me).base (o.locals me).seat h (o.follows.kept.seats me h)
    (o.follows.kept.logs me h) (o.follows.kept.paced me h) can in
    let r : Seat = ready a (o.locals me).seat in
    subst (λ x. Holds l (acts l me (ready a x) w)) same (record {
      common = common_after l me r.caller r.phase o.common;
      locals = put o.locals me (record {
        seat = seat_after (desk_of l me) r (found_in (next_in (desk_of l me) r.caller r.phase) o.common.memory);
        base = base_after r.phase o.common (o.locals me).base;
      });
      follows = step_follows l w me r h o.common o.locals o.follows y;
    })

-- after an event
pub happens_holds : (l : Settings) (w : World) (e : Event) → Holds l w → Holds l (happens l w e)
happens_holds l w e o =
    cond_both {A = World} (ltb e.seat (seats_of l) && can_act l e.seat e.add (seat_in w e.seat))
    (acts l e.seat (ready e.add (seat_in w e.seat)) w) w (Holds l)
    (λ t. let both = and_parts (ltb e.seat (seats_of l)) (can_act l e.seat e.add (seat_in w e.seat)) t in
    acts_holds l w e.seat e.add (ltb-true e.seat (seats_of l) both.0) both.1 o)
    (λ t. o)

-- and after a list of events
run_holds : (l : Settings) (es : List Event) (w : World) → Holds l w → Holds l (world_from l w es)
run_holds l [] w o = o
run_holds l (e ∷ es) w o = run_holds l es (happens l w e) (happens_holds l w e o)

-- ---- at the opening
first_common : Settings → Common
first_common l = record {
  memory = first_memory l;
  top = 0;
  row_at = λ v. 0;
  words_at = λ v. opening_row l;
  items_at = λ v. [];
  number = λ p. 0;
  since = λ p. 0;
  made = λ p. 0;
  call_at = λ p j. no_op;
  seen_at = λ p j. [];
}

-- no add is applied there
pub first_applied : (l : Settings) (p : ℕ) → p < seats_of l → applied (opening_row l) p ≡ 0
unfolding opening_row
first_applied l p h =
    let f = l.first in
    let front : List ℕ = 0 ∷ get_or f.counts 0 0 ∷ get_or f.counts 1 0 ∷ get_or f.counts 2 0 ∷ get_or f.bytes 0
    0 ∷ get_or f.bytes 1 0 ∷ get_or f.bytes 2 0 ∷ [] in
    let rest : 7 + 2 * p - 7 ≡ 2 * p = omega arith in
    get_or-append_right front (replicate (2 * seats_of l) 0) 7 (7 + 2 * p) 0 refl (omega arith)
    ∙ ap (λ k. get_or (replicate (2 * seats_of l) 0) k 0) rest
    ∙ get_or-replicate (2 * seats_of l) (2 * p) 0 0 (omega arith)

-- of the opening's history it holds
first_shared : (l : Settings) → AreSettings l → Shared l (first_common l)
unfolding first_common
first_shared l ok = record {
  settings = ok;
  chain = record {
    root_is = refl;
    first_row = refl;
    first_words = refl;
    bases = λ v h. absurd (omega arith);
    rows_are = λ v i hv hi. refl;
    long = λ v h. row_long l;
    within = λ v h. omega arith;
    fresh = λ v s j hv hs hm hj e. omega (arith, state_row_pos l s j);
    once = λ u v hu hv e. omega arith;
    rises = λ u v p hu hv hp. omega arith;
    replies = λ u v p hu hv hp e. refl;
  };
  calls = record {
    none = λ p h e. refl;
    posted = λ p h e. absurd (e refl);
    ops_are = λ p j i hp hj hi. absurd (omega arith);
    numbered = λ p j hp hj. absurd (omega arith);
    classed = λ p j hp hj. absurd (omega arith);
    short = λ p j hp hj. absurd (omega arith);
    few = λ p hp. omega arith;
  };
  helped = record {
    helped = λ p v hp hs hv. omega arith;
    near = λ p hp. omega arith;
    begun = λ p hp. omega arith;
    real = λ p hp. omega (arith, first_applied l p hp);
    ended = λ p hp. omega arith;
    seen_old = λ p q hp hq h. absurd (omega arith);
  };
}

-- and of the opening
pub start_holds : (l : Settings) → AreSettings l → Holds l (opening l)
unfolding first_common
start_holds l ok = record {
  common = first_common l;
  locals = λ p. record { seat = resting; base = 0 };
  follows = record {
    laid_flat = laid_flat_first l;
    long = length-replicate (seats_of l) resting;
    seats_are = λ p h. get_or-replicate (seats_of l) p resting resting h;
    kept = record {
      shared = first_shared l ok;
      story = λ v h. absurd (omega arith);
      tallied = sym (tallied_first l 0 (seats_of l));
      seats = λ p hp. record {
        made_is = refl;
        number_is = refl;
        spare = omega arith;
        few = omega arith;
        applied_is = omega arith;
      };
      logs = λ p hp. record { counted = refl; answered = λ i h. absurd (omega arith) };
      paced = λ p hp. record { now = omega arith; before = All-nil (λ added. added.steps ≤ step_bound (seats_of l)) };
    };
  };
}

-- so it holds of each world of a run
pub holds : (l : Settings) → AreSettings l → (es : List Event) → Holds l (world_after l es)
holds l ok es = run_holds l es (opening l) (start_holds l ok)
