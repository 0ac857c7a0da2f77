-- A call begins: no row is published, and the tale has the call.
use Rattle.std.proofs.Common.{◌≡◌, ◌≢◌, ℕ, ◌+◌, ◌<◌, ◌≤◌, ◌⊎◌, true, length, inl, inr, refl, sym, ap, ◌∙◌, arith}
use Rattle.std.proofs.lemmas.Bool.{cases_eq}
use Rattle.plain_map.specs.declared.calls.Call.{Call}
use Rattle.plain_map.specs.Calls.{key_in, is_update}
use Rattle.word_rows.specs.Memory.{put_at}
use Rattle.word_rows.proofs.MemoryLemmas.{put_at_same}
use Rattle.bucket_states.specs.Laws.{applied_of}
use Rattle.table_model.specs.Setup.{Setup, seats_of}
use Rattle.table_model.specs.Phases.{SeeDone}
use Rattle.table_model.specs.SeatStates.{Account, Idle, begun}
use Rattle.run_invariant.proofs.Invariant.{Common, Local, Shared}
use Rattle.closed_laws.proofs.Clock.{Quiet, ticked, quiet_ticks}
use Rattle.closed_laws.proofs.Units.{announced_counts, new_at_to, new_at_of}
use Rattle.order_laws.proofs.Tale.{Past, past_of, Tale, frame, tally, lists, Told, Flying, Seated}
use Rattle.order_laws.proofs.Grows.{Grows, row_made, version_made}
use Rattle.order_laws.proofs.Moments.{at_other, own_answers}

module _ (setup : Setup) (me : ℕ) (c : Common) (h : me < seats_of setup) (s : Shared setup c) (t : Tale)
    (told : Told setup (past_of c) t) (done : (x : ℕ) → c.memory.done x ≡ t.answers x) where
  -- the past before the event
  abbrev p : Past
  p = past_of c

  module _ (account : Account) (local : Local) (packet : ℕ) (call : Call)
      (y : Seated setup p t me local account Idle) where
    -- the number of the call that begins
    abbrev number : ℕ
    number = length account.records + 1

    -- the tale with the call
    abbrev begins : Tale
    begins = record t { call_at = put_at t.call_at me number call; clock = ticked t.clock }

    -- other calls stay
    begins_other : (q m : ℕ) → (q ≢ me) ⊎ (m ≢ number) → begins.call_at q m ≡ t.call_at q m
    begins_other q m o = at_other t.call_at me number call q m o

    -- the tale grows
    begins_grows : Grows me number p t p begins
    begins_grows = record {
      named_up = λ b m. (m, refl, refl, omega arith);
      rows = λ b i m o. (refl, refl, refl);
      dirs = λ v o. (o, refl);
      announced = λ q j o. (o, refl);
      others = λ q o. (refl, refl);
      calls = λ q m o. (begins_other q m o, λ a. refl, refl, refl);
    }

    -- an op that was announced is of an earlier call
    op_before : (q j : ℕ) → j < (c.used q).op_rows → (q ≢ me) ⊎ ((c.op_at q j).number ≢ number)
    op_before q j less = elim (cases_eq q me) [
      | inr o ↦ inl o
      | inl e ↦ inr (λ same. omega (
        arith,
        same,
        ap (λ z. (c.op_at z j).number) e,
        y.upto.ops j (omega (arith, less, ap (λ z. (c.used z).op_rows) e)),
      ))
    ]

    -- the keys of applied numbers stay
    key_same : (b i q : ℕ) → c.named b ≡ true → i ≤ c.top b →
        begins.call_at q (applied_of (c.state_at b i) q) ≡ t.call_at q (applied_of (c.state_at b i) q)
    key_same b i q n o = begins_other q (applied_of (c.state_at b i) q) (elim (cases_eq q me) [
      | inr other ↦ inl other
      | inl e ↦ inr (λ same.
          let inside : q < seats_of setup = omega (arith, e, h) in
          let r = told.applied b i q n o inside (omega (arith, same)) in
          elim (op_before q r.0 r.1) [ inl other ↦ other e | inr other ↦ other (sym r.2 ∙ same) ])
    ])

    -- no place changes
    begins_quiet : Quiet (frame setup p t) (lists setup p t) (lists setup p begins) t.clock
    begins_quiet = record {
      after = λ q m z a b e r. r;
      looked = λ q m b i e. e;
      looked_up = λ q m b i e. e;
      in_row = λ b i q m r. new_at_to (tally setup p t) (λ q m. key_in (begins.call_at q m))
          (λ b i q r. ap key_in (key_same b i q r.named r.inside)) told.counts b i q m r;
      in_row_up = λ b i q m r. new_at_of (tally setup p t) (λ q m. key_in (begins.call_at q m))
          (λ b i q r. ap key_in (key_same b i q r.named r.inside)) told.counts b i q m r;
      waits = λ q m v e. inl (e, λ a b r. r);
    }

    -- so the tale is told
    begins_told : Told setup p begins
    begins_told = record {
      counts = announced_counts (tally setup p t) (λ q m. key_in (begins.call_at q m))
          (λ b i q r. ap key_in (key_same b i q r.named r.inside)) told.counts;
      ticks = quiet_ticks (frame setup p t) (lists setup p t) (lists setup p begins) t.clock begins_quiet told.ticks;
      seen_few = told.seen_few;
      seen_none = told.seen_none;
      placed = told.placed;
      ops = λ q j inside less. let o = told.ops q j inside less in
          (o.0, o.1, begins_other q (c.op_at q j).number (op_before q j less) ∙ o.2, o.3);
      applied = told.applied;
      looks = λ q m l e. let r = told.looks q m l e in (
        r.0,
        ap is_update (begins_other q m (elim (cases_eq q me) [
          | inr other ↦ inl other
          | inl same ↦ inr (λ at. omega (arith, at, y.upto.looks m l (ap (λ z. t.looked z m) (sym same) ∙ e)))
        ])) ∙ r.1,
      );
      first_leaf = told.first_leaf;
      first_dir = told.first_dir;
      rows = λ b i m o. row_made setup me number p t p begins begins_grows (c.state_at b i) (c.state_at b (i + 1))
          (t.row_ops b i) (told.rows b i m o);
      versions = λ v o. version_made setup me number p t p begins begins_grows v (c.dir_at v) (c.dir_at (v + 1))
          (t.dir_made v) (λ b m. (refl, refl)) (λ b m e. m) (λ b m f. refl) (told.versions v o);
    }

    -- the seat is at the beginning of its call
    begins_flying : Flying setup p begins me account (begun account packet call) local SeeDone
    begins_flying = record {
      answers = own_answers setup me number p t p begins begins_grows (length account.records) account.records
          (omega arith) (omega arith) refl y.answers;
      upto = record {
        ops = λ j less. omega (arith, y.upto.ops j less);
        looks = λ m l e. omega (arith, y.upto.looks m l e);
        waits = λ m v e. omega (arith, y.upto.waits m v e);
      };
      number_is = refl;
      call_is = put_at_same t.call_at me number call;
      seen_is = λ a. sym (y.answers.unseen number a (omega arith));
      knows = record {
        begun = (
          length account.records,
          refl,
          record { ops = y.upto.ops; looks = y.upto.looks; waits = y.upto.waits },
        );
      };
    }

    -- so a call begins
    pub begin : (t2 : Tale) × Told setup p t2 × Grows me number p t p t2 × ((x : ℕ) → c.memory.done x ≡ t2.answers x)
        × Flying setup p t2 me account (begun account packet call) local SeeDone
    begin = (begins, begins_told, begins_grows, done, begins_flying)
