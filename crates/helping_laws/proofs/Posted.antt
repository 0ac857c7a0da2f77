-- The op that a seat announced last is that of its update, from the announcement to the answer. A layer of the
-- induction.
use Rattle.std.proofs.Common.{◌≡◌, ℕ, ◌+◌, ◌-◌, ◌<◌, Bool, true, false, cond, eqb, ltb, List, length, refl, sym, ap, ◌∙◌, subst, arith, true≢false}
use Rattle.std.specs.Prelude.{Option, Some, None}
use Rattle.std.proofs.lemmas.List.{get_or-replicate}
use Rattle.step_counts.specs.declared.TheConstants.{OP_WORDS}
use Rattle.step_counts.specs.declared.rows.SeatRows.{SeatRows}
use Rattle.word_rows.specs.Memory.{put_at}
use Rattle.word_rows.proofs.MemoryLemmas.{put_same, put_at_same}
use Rattle.bucket_states.specs.declared.ops.Op.{Op}
use Rattle.table_model.specs.declared.events.Event.{Event}
use Rattle.table_model.specs.Setup.{Setup, seats_of}
use Rattle.table_model.specs.declared.rounds.Aim.TheVariants.{ForLookup, ForFirstRound, ForSecondRound, ForLastLook}
use Rattle.table_model.specs.DirectoryChange.{LoadedBucket}
use Rattle.table_model.specs.Phases.{BucketTry, DirectoryTry, Phase, SeeDone, StoreOp, Announce, FindRoot, TryWord, TryExchange, DirRoot, DirExchange, StoreDone}
use Rattle.table_model.specs.SeatStates.{Account, Flight, Stand, Idle, InFlight, SeatState, fresh_seat}
use Rattle.plain_map.specs.Calls.{is_update}
use Rattle.table_model.specs.Asks.{ask_in}
use Rattle.table_model.specs.Goes.{state_after}
use Rattle.table_model.specs.Helping.{has_announced}
use Rattle.table_model.specs.Helped.{op_of}
use Rattle.table_model.specs.Stores.{made_leaves}
use Rattle.table_model.specs.Goes.{with_directory}
use Rattle.table_model.specs.Worlds.{World, IsRun, opening_world, world_after}
use Rattle.run_invariant.proofs.Events.{announced, published}
use Rattle.run_invariant.proofs.Invariant.{Common, Local, Shared, Keeps, Moves}
use Rattle.run_laws.proofs.Layers.{HoldsWith, run_with}
use Rattle.run_laws.proofs.Induction.{common_after, found_in}
use Rattle.run_laws.proofs.Won.{grown_by}
use Rattle.run_laws.proofs.Changes.{changes_from_laws}
use Rattle.run_laws.proofs.Opened.{bucket_laws, opening_fresh}
use Rattle.helping_laws.proofs.Layer.{Layer, Holding, layer_steps, moves_of}
use Rattle.helping_laws.proofs.OpsTold.{AllSettled, Calls, ops_of}
use Rattle.helping_laws.proofs.Settled.{calls_layer}

-- the op is announced, and is the last
pub record IsLast (c : Common) (p : ℕ) (flight : Flight) : Type 0 where
  pub some : 0 < ops_of c p
  pub is : c.op_at p (ops_of c p - 1) ≡ op_of p flight

-- so it is from the announcement to the answer
abbrev pub Posted : Common → ℕ → Stand → Type 0
Posted c p Idle = Unit {0}
Posted c p (InFlight flight phase) = is_update flight.call ≡ true → has_announced phase ≡ true → IsLast c p flight

-- it stays so
last_up : (setup : Setup) (me : ℕ) (c d : Common) → Moves setup me c d → (p : ℕ) (was now : Flight) →
    ops_of d p ≡ ops_of c p → op_of p was ≡ op_of p now → IsLast c p was → IsLast d p now
last_up setup me c d m p was now same ops x = record {
  some = omega (arith, x.some, same);
  is = ap (λ n. d.op_at p (n - 1)) same ∙ (m.calls p (ops_of c p - 1) (omega (arith, x.some))).0 ∙ x.is ∙ ops;
}

-- whatever another seat does
posted_up : (setup : Setup) (me : ℕ) (c d : Common) → Moves setup me c d → (p : ℕ) → ops_of d p ≡ ops_of c p →
    (stand : Stand) → Posted c p stand → Posted d p stand
posted_up setup me c d m p same Idle x = tt
posted_up setup me c d m p same (InFlight flight phase) x =
    λ u e. last_up setup me c d m p flight flight same refl (x u e)

module _ (setup : Setup) (me : ℕ) (c : Common) (account : Account) (flight : Flight) (local : Local)
    (h : me < seats_of setup) (s : Shared setup c) where
  -- the word that is found
  abbrev word : Phase → ℕ
  word phase = found_in (ask_in setup me account.used flight phase) c.memory

  -- the history after the step
  abbrev after : Phase → Common
  after phase = common_after setup me account.used flight phase c

  -- what is known then
  abbrev After : Phase → Type 0
  After phase = Posted (after phase) me (state_after setup me account flight phase (word phase)).stand

  -- the phases before the announcement
  sees : (t u : Bool) → is_update flight.call ≡ u → is_update flight.call ≡ true →
      has_announced (cond t SeeDone (cond u (StoreOp 0) (FindRoot ForLookup))) ≡ true → {A : Type 0} → A
  sees true u e update is = absurd (true≢false (sym is))
  sees false true e update is = absurd (true≢false (sym is))
  sees false false e update is = absurd (true≢false (sym update ∙ e))

  -- nor while the op row is stored
  stores : (t : Bool) (i : ℕ) → has_announced (cond t (StoreOp i) Announce) ≡ true → {A : Type 0} → A
  stores true i is = absurd (true≢false (sym is))
  stores false i is = absurd (true≢false (sym is))

  -- the announcement
  announces : IsLast (announced setup me flight.number flight.call c) me flight
  announces =
      let n = ops_of c me in
      let more : ops_of (announced setup me flight.number flight.call c) me ≡ n + 1 =
      ap (λ (u : SeatRows). u.op_rows) (put_same c.used me (record (c.used me) { op_rows = n + 1 })) in
      let at : ops_of (announced setup me flight.number flight.call c) me - 1 ≡ n = omega (arith, more) in
      record {
        some = omega (arith, more);
        is = ap (put_at c.op_at me n (record { seat = me; number = flight.number; call = flight.call }) me) at
            ∙ put_at_same c.op_at me n (record { seat = me; number = flight.number; call = flight.call });
      }

  -- a bucket row that is published is no op row
  same_row : (b : ℕ) (attempt : BucketTry) (found : List (Option Op)) (e : Bool) →
      ops_of (cond e (published setup me b attempt found c) c) me ≡ ops_of c me
  same_row b attempt found true = ap (λ (u : SeatRows). u.op_rows)
      (put_same c.used me (record (c.used me) { bucket_rows = (c.used me).bucket_rows + 1 }))
  same_row b attempt found false = refl

  -- nor are leaves
  same_root : (attempt : DirectoryTry) (found : List (Option Op)) (loaded : List LoadedBucket) (e : Bool) →
      ops_of (cond e (grown_by setup me account.used attempt found loaded c) c) me ≡ ops_of c me
  same_root attempt found loaded true = ap (λ (u : SeatRows). u.op_rows)
      (put_same c.used me (with_directory (c.used me) (length (made_leaves setup attempt found loaded))))
  same_root attempt found loaded false = refl

  -- what a step makes of it
  steps : (phase : Phase) → Keeps setup c me account.used flight local phase → Posted c me (InFlight flight phase) →
      Moves setup me c (after phase) → After phase
  steps SeeDone k x m = λ u e. sees (ltb (length flight.seen + 1) (seats_of setup)) (is_update flight.call) refl u e
  steps (StoreOp i) k x m = λ u e. stores (ltb (i + 1) OP_WORDS) (i + 1) e
  steps Announce k x m = λ u e. record { some = announces.some; is = announces.is }
  steps (FindRoot ForLookup) k x m = λ u e. last_up setup me c c m me flight _ refl refl (x u refl)
  steps (FindRoot ForFirstRound) k x m = λ u e. last_up setup me c
      (after (FindRoot ForFirstRound)) m me flight _ refl refl (x u refl)
  steps (FindRoot (ForSecondRound first)) k x m = λ u e. last_up setup me c c m me flight _ refl refl (x u refl)
  steps (FindRoot ForLastLook) k x m = λ u e. last_up setup me c c m me flight _ refl refl (x u refl)
  steps (TryWord round turn None) k x m = λ u e. last_up setup me c
      (after (TryWord round turn None)) m me flight _ refl refl (x u refl)
  steps (TryWord round turn (Some first)) k x m = λ u e. last_up setup me c c m me flight _ refl refl (x u refl)
  steps (TryExchange round attempt found) k x m = λ u e.
      last_up setup me c (after (TryExchange round attempt found)) m me flight _
      (same_row round.bucket attempt found (eqb (c.memory.bucket round.bucket) attempt.row)) refl (x u refl)
  steps (DirRoot round turn None) k x m = λ u e. last_up setup me c
      (after (DirRoot round turn None)) m me flight _ refl refl (x u refl)
  steps (DirRoot round turn (Some first)) k x m = λ u e. last_up setup me c c m me flight _ refl refl (x u refl)
  steps (DirExchange round attempt found loaded) k x m = λ u e.
      last_up setup me c (after (DirExchange round attempt found loaded)) m me flight _
      (same_root attempt found loaded (eqb c.memory.root attempt.root)) refl (x u refl)
  steps (StoreDone reply at) k x m = tt
  steps phase k x m = λ u e. last_up setup me c (after phase) m me flight _ refl refl (x u refl)

-- ---- the layer, beside that of the ops

-- what is kept of a seat
abbrev Part : Setup → Common → ℕ → Local → Account → Stand → Type 0
Part setup c p local account stand = Calls setup c p local account stand × Posted c p stand

-- the layer
layer : (setup : Setup) → Layer setup (AllSettled setup) (Part setup)
layer setup = record {
  others = λ me c d m s g q n h local account stand k x. (
    (calls_layer setup).others me c d m s g q n h local account stand k x.0,
    posted_up setup me c d m q (ap (λ (u : SeatRows). u.op_rows) (m.used q n)) stand x.1,
  );
  begins = λ c me packet call local account x. (
    (calls_layer setup).begins c me packet call local account x.0,
    λ u e. absurd (true≢false (sym e)),
  );
  steps = λ c me account flight local h s phase k g x.
      let calls = (calls_layer setup).steps c me account flight local h s phase k g x.0 in (
        calls.0,
        (
          calls.1,
          steps setup me c account flight local h s phase k x.1
              (moves_of setup c me account flight local phase h s k),
        ),
      );
}

-- what it says of a world
abbrev pub Posting : Setup → World → Common → (ℕ → Local) → Unit {0} → Type 0
Posting setup = Holding setup (AllSettled setup) (Part setup)

-- it holds in every run
pub posted_in : (setup : Setup) (events : List Event) → IsRun setup events →
    HoldsWith (Unit {0}) setup (Posting setup) (world_after setup events)
posted_in setup events run =
    let f = opening_fresh setup run.opened in
    let none : (p : ℕ) → ops_of f.holds.common p ≡ 0 = λ p. ap (λ (u : SeatRows). u.op_rows) (f.none p) in
    run_with (Unit {0}) bucket_laws changes_from_laws setup (Posting setup)
    (layer_steps setup (AllSettled setup) (Part setup) (layer setup)) events (opening_world setup)
    (record {
      common = f.holds.common;
      locals = f.holds.locals;
      follows = f.holds.follows;
      extra = tt;
      holds = (
        λ p h. record {
          rises = λ i j le lt. absurd (omega (arith, lt, none p));
          past = λ j lt. absurd (omega (arith, lt, none p));
        },
        λ p h. subst (λ (x : SeatState). Part setup f.holds.common p (f.holds.locals p) x.account x.stand)
            (sym (get_or-replicate (seats_of setup) p fresh_seat fresh_seat h))
            ((λ j lt. absurd (omega (arith, lt, none p)), λ some. absurd (omega (arith, some, none p))), tt),
      );
    }) run.follow
