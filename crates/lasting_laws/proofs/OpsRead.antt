-- An announced op: the ghost has it whole with the load of the announcement.
use Rattle.std.proofs.Common.{◌≡◌, ℕ, ◌+◌, ◌<◌, ◌≤◌, ◌⊎◌, inl, inr, Bool, true, false, cond, List, [], ◌∷◌, ◌++◌, length, get_or, take, refl, sym, ap, ◌∙◌, subst, arith}
use Rattle.std.specs.Prelude.{Option, Some, nat_lt}
use Rattle.std.proofs.lemmas.Bool.{cases_lt, lt-ltb}
use Rattle.std.proofs.lemmas.List.{length-append}
use Rattle.std.proofs.lemmas.Bool.Decides.{nat_tests}
use Rattle.step_counts.specs.StepCounts.{step_bound}
use Rattle.step_counts.specs.declared.TheConstants.{OP_WORDS}
use Rattle.plain_map.specs.declared.calls.Call.{Call}
use Rattle.plain_map.specs.Calls.{is_update}
use Rattle.bucket_states.specs.declared.ops.Op.{Op}
use Rattle.table_model.specs.declared.events.Event.{Event}
use Rattle.table_model.specs.declared.rounds.Round.{Round}
use Rattle.table_model.specs.Setup.{Setup, seats_of, settings_of}
use Rattle.table_model.specs.Phases.{Phase, BucketTry, SeeDone, StoreOp, Announce, FindRoot, FindDepth, FindEntry, LookWord, LookCount, LookItems, TryWord, TryRow, TryAnnouncement, TryOp, TryStore, TryExchange, DirRoot, DirDepth, DirEntries, DirAnnouncement, DirOp, DirWord, DirRow, DirStore, DirExchange, LastWord, LastRow, StoreDone, Stuck}
use Rattle.table_model.specs.SeatStates.{Account, Flight, InFlight}
use Rattle.table_model.specs.Asks.{ask_in}
use Rattle.table_model.specs.Goes.{more, op_in_words, after_found}
use Rattle.table_model.specs.Worlds.{IsRun, world_after, seat_in}
use Rattle.run_invariant.proofs.Invariant.{Common, Local, Keeps, Shared, op_no}
use Rattle.run_laws.proofs.Induction.{Follows, found_in}
use Rattle.lasting_laws.proofs.Lists.{take_one, take_all}
use Rattle.lasting_laws.proofs.Lost.{SamePast, same_self, same_both}
use Rattle.lasting_laws.proofs.Alone.{Closed, Reaches, comes_out}

module _ (setup : Setup) (p : ℕ) (round : Round) (attempt : BucketTry) (found : List (Option Op)) (c0 : Common)
    (j : ℕ) where
  -- the seat whose turn it is
  abbrev q : ℕ
  q = length found

  abbrev IsReading : Phase → Type 0
  IsReading (TryOp r a f op words) =
      (r ≡ round) × (a ≡ attempt) × (f ≡ found) × (op ≡ op_no setup q j)
      × (words ≡ take (length words) (c0.op_words q j)) × (length words < OP_WORDS)
  IsReading phase = ⊥

  abbrev HasRead : Phase → Type 0
  HasRead phase = phase ≡ after_found setup round attempt (more found (Some (c0.op_at q j)))

  -- the op was announced in this history
  abbrev IsThere : Common → Type 0
  IsThere d = SamePast c0 d × (q < seats_of setup) × (j < (d.used q).op_rows)

  stays : (a b : Common) → SamePast a b → IsThere a → IsThere b
  stays a b s there = (
    same_both c0 a b there.0 s,
    there.1,
    subst (λ n. j < n) (ap (λ u. (u q).op_rows) (sym s.used)) there.2,
  )

  reading : (call : Call) (c : Common) (account : Account) (flight : Flight) (local : Local) (phase : Phase) →
      Shared setup c → Keeps setup c p account.used flight local phase → flight.call ≡ call → IsThere c →
      IsReading phase →
      Closed setup p IsReading HasRead c account flight phase
      (found_in (ask_in setup p account.used flight phase) c.memory)
  reading call c account flight local (TryOp r a f op words) s k same there is =
      record {
        past = same_self c;
        state = refl;
        leads = go (cases_lt (length words + 1) OP_WORDS);
      }
    where
      -- the words of the op are those of the history
      sound : length (c0.op_words q j) ≡ OP_WORDS
      sound = ap (λ o. length (o q j)) (sym there.0.op_words) ∙ (s.calls.sound q j there.1 there.2).long

      word : ℕ
      word = c.memory.op op (length words)

      word_is : word ≡ get_or (c0.op_words q j) (length words) 0
      word_is = ap (λ n. c.memory.op n (length words)) is.3
          ∙ s.calls.ops_are q j (length words) there.1 there.2 is.5
          ∙ ap (λ o. get_or (o q j) (length words) 0) there.0.op_words

      longer : more words word ≡ take (length words + 1) (c0.op_words q j)
      longer =
          (λ i. is.4 i ++ word_is i ∷ [])
          ∙ sym (take_one (c0.op_words q j) (length words) (length words + 1) 0 (omega arith)
          (omega (arith, sound, is.5)))

      -- the phase after it
      phase_then : Bool → Phase
      phase_then b = cond b (TryOp r a f op (more words word))
          (after_found setup r a (more f (Some (op_in_words (length f) (more words word)))))

      go : ((length words + 1) < OP_WORDS) ⊎ (OP_WORDS ≤ length words + 1) →
          IsReading (phase_then (nat_lt (length words + 1) OP_WORDS))
          ⊎ HasRead (phase_then (nat_lt (length words + 1) OP_WORDS))
      go (inl less) =
          let many : length (more words word) ≡ length words + 1 = length-append words (word ∷ []) in
          inl (subst (λ (b : Bool). IsReading (phase_then b)) (sym (lt-ltb (length words + 1) OP_WORDS less)) (
            is.0,
            is.1,
            is.2,
            is.3,
            longer ∙ ap (λ (n : ℕ). take n (c0.op_words q j)) (sym many),
            omega (arith, many, less),
          ))
      go (inr all) =
          let no_more : nat_lt (length words + 1) OP_WORDS ≡ false = grind (arith, nat_tests) in
          let whole : length words + 1 ≡ OP_WORDS = omega (arith, is.5, all) in
          let words_are : more words word ≡ c0.op_words q j =
          longer ∙ take_all (c0.op_words q j) (length words + 1) (sound ∙ sym whole) in
          let op_is : op_in_words q (more words word) ≡ c0.op_at q j =
          ap (op_in_words q) (words_are ∙ ap (λ o. o q j) (sym there.0.op_words))
          ∙ (s.calls.sound q j there.1 there.2).says ∙ ap (λ o. o q j) there.0.op_at in
          inr (subst (λ (b : Bool). HasRead (phase_then b)) (sym no_more)
          ((λ i. after_found setup (is.0 i) (is.1 i)
          (more (is.2 i) (Some (op_in_words (length (is.2 i)) (more words word)))))
          ∙ ap (λ (o : Op). after_found setup round attempt (more found (Some o))) op_is))
  reading call c account flight local SeeDone s k same there is = absurd is
  reading call c account flight local (StoreOp stored) s k same there is = absurd is
  reading call c account flight local Announce s k same there is = absurd is
  reading call c account flight local (FindRoot aim) s k same there is = absurd is
  reading call c account flight local (FindDepth aim root) s k same there is = absurd is
  reading call c account flight local (FindEntry aim root depth) s k same there is = absurd is
  reading call c account flight local (LookWord root bucket) s k same there is = absurd is
  reading call c account flight local (LookCount row) s k same there is = absurd is
  reading call c account flight local (LookItems row count words) s k same there is = absurd is
  reading call c account flight local (TryWord r turn first) s k same there is = absurd is
  reading call c account flight local (TryRow r turn first row words) s k same there is = absurd is
  reading call c account flight local (TryAnnouncement r a o) s k same there is = absurd is
  reading call c account flight local (TryStore r a o stored) s k same there is = absurd is
  reading call c account flight local (TryExchange r a o) s k same there is = absurd is
  reading call c account flight local (DirRoot r turn first) s k same there is = absurd is
  reading call c account flight local (DirDepth r turn first root) s k same there is = absurd is
  reading call c account flight local (DirEntries r turn first root depth words) s k same there is = absurd is
  reading call c account flight local (DirAnnouncement r a o) s k same there is = absurd is
  reading call c account flight local (DirOp r a o op words) s k same there is = absurd is
  reading call c account flight local (DirWord r a o loaded bucket) s k same there is = absurd is
  reading call c account flight local (DirRow r a o loaded bucket row words) s k same there is = absurd is
  reading call c account flight local (DirStore r a o loaded stored) s k same there is = absurd is
  reading call c account flight local (DirExchange r a o loaded) s k same there is = absurd is
  reading call c account flight local (LastWord root bucket) s k same there is = absurd is
  reading call c account flight local (LastRow row words) s k same there is = absurd is
  reading call c account flight local (StoreDone reply place) s k same there is = absurd is
  reading call c account flight local Stuck s k same there is = absurd is

  -- THE RESULT: from its first word the op is read whole
  pub reads_at_once : (events : List Event) (run : IsRun setup events) (c : Common) (locals : ℕ → Local)
      (f : Follows setup (world_after setup events) c locals) (h : p < seats_of setup) (account : Account)
      (flight : Flight) →
      seat_in (world_after setup events) p
      ≡ record { account = account; stand = InFlight flight (TryOp round attempt found (op_no setup q j) []) } →
      is_update flight.call ≡ true → SamePast c0 c → q < seats_of setup → j < (c.used q).op_rows →
      Reaches setup p events c account flight
      (after_found setup round attempt (more found (Some (c0.op_at q j))))
  reads_at_once events run c locals f h account flight mine update past inside announced =
      let z = comes_out setup p (λ g. g.call ≡ flight.call) (λ g n e. e) IsReading HasRead IsThere stays
      (reading flight.call) (step_bound (settings_of setup)) events run c
      locals f h account flight (TryOp round attempt found (op_no setup q j) []) mine update refl
      (refl, refl, refl, refl, refl, omega arith) (past, inside, announced) (omega arith) in
      subst (Reaches setup p events c account flight) z.1 z.2
