-- Whole runs: the world follows the memory with its history, and all holds in it.
use Rattle.std.proofs.Common.{◌≡◌, ◌≢◌, ℕ, ◌+◌, ◌*◌, ◌^◌, ◌<◌, ◌≤◌, Bool, true, false, cond, eqb, ltb, List, [], ◌∷◌, length, get_or, set, inl, inr, refl, sym, ap, ◌∙◌, subst, arith, get_or-set_same, get_or-set_other, length-set, lt-ltb}
use Rattle.std.specs.Prelude.{Option, Some, None, fold, slice_get}
use Rattle.std.proofs.lemmas.Option.{slice_get-get_or}
use Rattle.std.proofs.Math.Pow.{pow_mono}
use Rattle.std.proofs.lemmas.Bool.{ltb-false, eqb-true, eqb-false, cases_eq}
use Rattle.step_counts.specs.declared.TheConstants.{ITEM_WORDS}
use Rattle.step_counts.specs.declared.rows.SeatRows.{SeatRows}
use Rattle.step_counts.specs.StepCounts.{bucket_row_words, directory_row_words, need_of, new_leaves}
use Rattle.plain_map.specs.declared.calls.Call.{Call}
use Rattle.plain_map.specs.declared.calls.Call.TheVariants.{Insert, Remove, Lookup, Tally, Count, Put as Puts}
use Rattle.plain_map.specs.declared.full.Full.{Full}
use Rattle.plain_map.specs.declared.full.FullKind.TheVariants.{OpRows, BucketRows, BucketWords, DirRows}
use Rattle.plain_map.specs.Calls.{key_in, is_update}
use Rattle.plain_map.specs.Room.{IsEnough, refusal, left_of, first_short}
use Rattle.plain_map.specs.Serving.{IsAskable}
use Rattle.word_rows.specs.Memory.{Memory, read, write, put, Shows}
use Rattle.word_rows.specs.Places.{place}
use Rattle.word_rows.specs.Shape.{count_of, sizes_of}
use Rattle.word_rows.proofs.MemoryLemmas.{shows_store, put_same, put_other}
use Rattle.word_rows.specs.declared.addresses.Address.TheVariants.{Root, OpWord, BucketRowWord, Announcement, BucketWord, Done}
use Rattle.bucket_states.specs.Values.{IsUpdate}
use Rattle.table_model.specs.declared.events.Event.{Event}
use Rattle.table_model.specs.declared.events.Ask.{Ask}
use Rattle.table_model.specs.declared.events.Ask.TheVariants.{Nothing, Load, Store, Exchange}
use Rattle.table_model.specs.Setup.{settings_of, Setup, seats_of, rules_of, next_number}
use Rattle.table_model.specs.declared.rounds.Aim.TheVariants.{ForLookup, ForFirstRound, ForSecondRound, ForLastLook}
use Rattle.table_model.specs.declared.rounds.Round.{Round}
use Rattle.table_model.specs.Phases.{BucketTry, DirectoryTry, Phase, SeeDone, StoreOp, Announce, FindRoot, FindDepth, FindEntry, LookWord, LookCount, LookItems, TryWord, TryRow, TryAnnouncement, TryOp, TryStore, TryExchange, DirRoot, DirDepth, DirEntries, DirAnnouncement, DirOp, DirWord, DirRow, DirStore, DirExchange, LastWord, LastRow, StoreDone, Stuck}
use Rattle.table_model.specs.SeatStates.{fresh_seat, begun, Account, Flight, Stand, Idle, InFlight, SeatState}
use Rattle.table_model.specs.declared.events.Put.{Put}
use Rattle.table_model.specs.Steps.{IsOnWord}
use Rattle.table_model.specs.Asks.{ask_in, store_of}
use Rattle.table_model.specs.Stores.{made_bucket, made_leaves, directory_puts}
use Rattle.table_model.specs.Goes.{state_after, after_exchange, answered_by_leaf, after_lost_root, with_directory}
use Rattle.table_model.specs.Worlds.{World, seat_in, found_by, words_after, step_of, word_at, act, begin_or_refuse, refusal_of, happens, IsEvent, AreEvents, FitsStand, CanBegin}
use Rattle.run_invariant.proofs.Numbers.{next_op, next_row, op_no_within, row_no_within}
use Rattle.run_invariant.proofs.RowLemmas.{BucketLaws}
use Rattle.run_invariant.proofs.Events.{announced, roots_after, tries_after, dir_tries_after, published, local_after}
use Rattle.run_invariant.proofs.Stays.{stays}
use Rattle.run_invariant.proofs.Stores.{store_descends}
use Rattle.run_invariant.proofs.Loads.{width_is, four_within, bits_below, moves_none, recalls_none}
use Rattle.run_invariant.proofs.Change.{Changes}
use Rattle.run_laws.proofs.Begin
use Rattle.run_laws.proofs.BucketStep
use Rattle.run_laws.proofs.DirStep
use Rattle.run_laws.proofs.Publish
use Rattle.run_laws.proofs.Won
use Rattle.run_laws.proofs.Won.{grown_by}
use Rattle.run_laws.proofs.DirStep.{some_led}
use Rattle.std.specs.Prelude.{not}
use Rattle.std.specs.List.{list_any}
use Rattle.bucket_states.specs.declared.ops.Op.{Op}
use Rattle.table_model.specs.Directories.{bucket_of}
use Rattle.table_model.specs.DirectoryChange.{LoadedBucket, next_bucket, is_bucket}
use Rattle.run_invariant.proofs.Invariant.{put_in, Rests, Common, Descends, Recalls, IsOwn, Local, Shared, Keeps, KeepsStand, Goes, Flies, row_room, op_no, row_no, op_words_of, made_words, width, most_leaves, bits}

-- the word that is asked for is one of the table's
abbrev pub IsWithin : Setup → Ask → Type 0
IsWithin setup ask = IsOnWord setup.shape ask

-- what is found in a memory, and the memory then
abbrev pub found_in : Ask → Memory → ℕ
found_in Nothing m = 0
found_in (Load from) m = read m from
found_in (Store to word) m = 0
found_in (Exchange at old new) m = read m at

abbrev pub memory_after : Ask → Memory → Memory
memory_after Nothing m = m
memory_after (Load from) m = m
memory_after (Store to word) m = write m to word
memory_after (Exchange at old new) m = cond (eqb (read m at) old) (write m at new) m

-- one of the stores of a directory try
pub store_is : (puts : List Put) (i : ℕ) → i < length puts →
    store_of (slice_get puts i) ≡ Store (put_in puts i).address (put_in puts i).word
store_is puts i h = ap store_of (slice_get-get_or puts i (record { address = Root; word = 0 }) h)

-- the words follow the memory
pub found_same : (setup : Setup) (ask : Ask) (words : List ℕ) (m : Memory) → IsWithin setup ask →
    Shows setup.shape words m → found_by setup ask words ≡ found_in ask m
found_same setup Nothing words m t s = absurd t
found_same setup (Load from) words m t s = s.same from t
found_same setup (Store to word) words m t s = refl
found_same setup (Exchange at old new) words m t s = s.same at t

shows_after : (setup : Setup) (ask : Ask) (words : List ℕ) (m : Memory) → IsWithin setup ask →
    Shows setup.shape words m → Shows setup.shape (words_after setup ask words) (memory_after ask m)
shows_after setup Nothing words m t s = absurd t
shows_after setup (Load from) words m t s = s
shows_after setup (Store to word) words m t s = shows_store setup.shape words m to word t s
shows_after setup (Exchange at old new) words m t s =
    go (eqb (word_at setup.shape words at) old) (eqb (read m at) old) (ap (λ x. eqb x old) (s.same at t))
  where
    go : (b e : Bool) → b ≡ e → Shows setup.shape (cond b (set words (place setup.shape at) new) words)
        (cond e (write m at new) m)
    go true true f = shows_store setup.shape words m at new t s
    go false false f = s
    go true false f = cc
    go false true f = cc

-- the memory and its history after a step
abbrev pub common_after : Setup → ℕ → SeatRows → Flight → Phase → Common → Common
common_after setup me used flight (StoreOp i) c =
    record c {
      memory = write c.memory (OpWord (op_no setup me (c.used me).op_rows) i)
          (get_or (op_words_of flight.number flight.call) i 0);
    }
common_after setup me used flight Announce c = announced setup me flight.number flight.call c
common_after setup me used flight (FindRoot aim) c = roots_after me aim c
common_after setup me used flight (TryWord round turn first) c = tries_after me round first c
common_after setup me used flight (TryStore round attempt found i) c =
    record c {
      memory = write c.memory (BucketRowWord (row_no setup me (c.used me).bucket_rows) i)
          (get_or (made_words setup attempt found) i 0);
    }
common_after setup me used flight (TryExchange round attempt found) c =
    cond (eqb (c.memory.bucket round.bucket) attempt.row) (published setup me round.bucket attempt found c) c
common_after setup me used flight (DirRoot round turn first) c = dir_tries_after me first c
common_after setup me used flight (DirStore round attempt found loaded i) c =
    record c {
      memory = write c.memory (put_in (directory_puts setup me used attempt found loaded) i).address
          (put_in (directory_puts setup me used attempt found loaded) i).word;
    }
common_after setup me used flight (DirExchange round attempt found loaded) c = cond (eqb c.memory.root attempt.root)
    (grown_by setup me used attempt found loaded c) c
common_after setup me used flight (StoreDone reply at) c = record c { memory = write c.memory (Done me) flight.number }
common_after setup me used flight phase c = c

-- a step of a seat in flight
module _ (laws : BucketLaws) (changes : (setup : Setup) → Changes setup) (setup : Setup) (me : ℕ) (c : Common)
    (account : Account) (flight : Flight) (local : Local) (h : me < seats_of setup) (s : Shared setup c) where
  -- the exchange of a bucket word, won or lost
  goes_exchange : (round : Round) (attempt : BucketTry) (found : List (Option Op)) (e : Bool) →
      eqb (c.memory.bucket round.bucket) attempt.row ≡ e →
      Keeps setup c me account.used flight local (TryExchange round attempt found) →
      Goes setup me c (cond e (published setup me round.bucket attempt found c) c) local (record {
        account = record account {
          used = cond e (record account.used { bucket_rows = account.used.bucket_rows + 1 })
              account.used;
        };
        stand = InFlight (record flight { steps = flight.steps + 1 })
            (cond e (after_exchange me flight round (made_bucket setup attempt found)
            (next_number setup me BucketRows account.used)) (TryWord round (attempt.turn + 1) (Some attempt.first)));
      })
  goes_exchange round attempt found true e k =
      subst (λ n. Goes setup me c (published setup me round.bucket attempt found c) local (record {
        account = record account { used = record account.used { bucket_rows = account.used.bucket_rows + 1 } };
        stand = InFlight (record flight { steps = flight.steps + 1 })
            (after_exchange me flight round (made_bucket setup attempt found) n);
      })) (ap (λ (u : SeatRows). row_no setup me u.bucket_rows) k.works.flies.used_is
      ∙ sym (next_row setup me account.used))
      (Publish.won laws setup me c account flight local h s round attempt found k
      (eqb-true (c.memory.bucket round.bucket) attempt.row e))
  goes_exchange round attempt found false e k =
      BucketStep.lost setup me c account flight local h s round attempt found k
      (eqb-false (c.memory.bucket round.bucket) attempt.row e)

  -- the exchange of the root, won or lost
  goes_root : (round : Round) (attempt : DirectoryTry) (found : List (Option Op)) (loaded : List LoadedBucket)
      (e : Bool) → eqb c.memory.root attempt.root ≡ e →
      Keeps setup c me account.used flight local (DirExchange round attempt found loaded) →
      Goes setup me c (cond e (grown_by setup me account.used attempt found loaded c) c) local (record {
        account = record account {
          used = cond e (with_directory account.used
              (length (made_leaves setup attempt found loaded))) account.used;
        };
        stand = InFlight (record flight { steps = flight.steps + 1 })
            (cond e (answered_by_leaf (rules_of setup) me flight (next_number setup me BucketRows account.used)
            (made_leaves setup attempt found loaded)) (after_lost_root round attempt));
      })
  goes_root round attempt found loaded true e k =
      Won.won changes setup me c account flight local h s round attempt found loaded k
      (eqb-true c.memory.root attempt.root e)
  goes_root round attempt found loaded false e k = record {
    shared = s;
    moves = moves_none setup me c;
    keeps = DirStep.lost setup me c account flight local h s (changes setup) round attempt found loaded k
        (eqb-false c.memory.root attempt.root e);
  }

  -- every step keeps all
  pub goes : (phase : Phase) → Keeps setup c me account.used flight local phase →
      Goes setup me c (common_after setup me account.used flight phase c) (local_after phase c local)
      (state_after setup me account flight phase (found_in (ask_in setup me account.used flight phase) c.memory))
  goes SeeDone k = Begin.see_done setup me c account flight local h s (c.memory.done (length flight.seen)) k
  goes (StoreOp i) k = Begin.store_op setup me c account flight local h s i 0 k
  goes Announce k = Begin.announce setup me c account flight local h s 0 k
  goes (FindRoot aim) k = Begin.find_root setup me c account flight local h s aim k
  goes (FindDepth aim root) k = Begin.find_depth setup me c account flight local h s aim root k
  goes (FindEntry aim root depth) k = Begin.find_entry setup me c account flight local h s aim root depth k
  goes (LookWord root bucket) k = Begin.look_word setup me c account flight local h s root bucket k
  goes (LookCount row) k = Begin.look_count setup me c account flight local h s row k
  goes (LookItems row count words) k =
      Begin.look_items setup me c account flight local h s row count words
      (c.memory.bucket_row row (5 + length words)) k
  goes (TryWord round turn first) k = BucketStep.try_word setup me c account flight local h s round turn first k
  goes (TryRow round turn first row words) k =
      BucketStep.try_row setup me c account flight local h s round turn first row words k
  goes (TryAnnouncement round attempt found) k =
      BucketStep.try_announcement setup me c account flight local h s round attempt found k
  goes (TryOp round attempt found op words) k =
      BucketStep.try_op setup me c account flight local h s round attempt found op words k
  goes (TryStore round attempt found i) k =
      BucketStep.try_store setup me c account flight local h s round attempt found i 0 k
  goes (TryExchange round attempt found) k =
      goes_exchange round attempt found (eqb (c.memory.bucket round.bucket) attempt.row) refl k
  goes (DirRoot round turn first) k =
      DirStep.dir_root setup me c account flight local h s (changes setup) round turn first k
  goes (DirDepth round turn first root) k =
      DirStep.dir_depth setup me c account flight local h s (changes setup) round turn first root k
  goes (DirEntries round turn first root depth words) k =
      DirStep.dir_read setup me c account flight local h s (changes setup) round turn first root depth words k
  goes (DirAnnouncement round attempt found) k =
      DirStep.dir_announcement setup me c account flight local h s (changes setup) round attempt found k
  goes (DirOp round attempt found op words) k =
      DirStep.dir_op setup me c account flight local h s (changes setup) round attempt found op words k
  goes (DirWord round attempt found loaded bucket) k =
      DirStep.dir_word setup me c account flight local h s (changes setup) round attempt found loaded bucket k
  goes (DirRow round attempt found loaded bucket row words) k =
      DirStep.dir_row setup me c account flight local h s (changes setup) round attempt found loaded bucket row words k
  goes (DirStore round attempt found loaded i) k =
      DirStep.dir_store setup me c account flight local h s (changes setup) round attempt found loaded i
      (found_in (ask_in setup me account.used flight (DirStore round attempt found loaded i)) c.memory) k
  goes (DirExchange round attempt found loaded) k =
      goes_root round attempt found loaded (eqb c.memory.root attempt.root) refl k
  goes (LastWord root bucket) k = Begin.last_word setup me c account flight local h s root bucket k
  goes (LastRow row words) k = BucketStep.last_row setup me c account flight local h s row words k
  goes (StoreDone reply at) k = Begin.store_done setup me c account flight local h s reply at 0 k
  goes phase k = absurd k

  -- and what comes from what is still known
  pub descends : (phase : Phase) → Keeps setup c me account.used flight local phase → Descends setup c →
      Descends setup (common_after setup me account.used flight phase c)
  descends (StoreOp i) k t = store_descends setup me c h s (OpWord (op_no setup me (c.used me).op_rows) i)
      (get_or (op_words_of flight.number flight.call) i 0) (
        (c.used me).op_rows,
        omega arith,
        k.begins.op_room_is,
        refl,
      ) t
  descends (FindRoot ForLookup) k t = t
  descends (FindRoot ForFirstRound) k t = t
  descends (FindRoot (ForSecondRound first)) k t = t
  descends (FindRoot ForLastLook) k t = t
  descends (TryWord round turn None) k t = t
  descends (TryWord round turn (Some first)) k t = t
  descends (TryExchange round attempt found) k t = go (eqb (c.memory.bucket round.bucket) attempt.row) refl
    where
      go : (e : Bool) → eqb (c.memory.bucket round.bucket) attempt.row ≡ e →
          Descends setup (cond e (published setup me round.bucket attempt found c) c)
      go true e = Publish.descends laws setup me c account flight local h s round attempt found k
          (eqb-true (c.memory.bucket round.bucket) attempt.row e) t
      go false e = t
  descends (DirRoot round turn None) k t = t
  descends (DirRoot round turn (Some first)) k t = t
  descends (DirStore round attempt found loaded i) k t =
      let puts = directory_puts setup me account.used attempt found loaded in
      store_descends setup me c h s (put_in puts i).address (put_in puts i).word
      (subst (λ u. IsOwn setup me u (put_in puts i).address) (sym k.works.flies.used_is) (k.owns i k.short)) t
  descends (DirExchange round attempt found loaded) k t = go (eqb c.memory.root attempt.root) refl
    where
      go : (e : Bool) → eqb c.memory.root attempt.root ≡ e →
          Descends setup (cond e (grown_by setup me account.used attempt found loaded c) c)
      go true e = Won.descends changes setup me c account flight local h s round attempt found loaded k
          (eqb-true c.memory.root attempt.root e) t
      go false e = t
  descends SeeDone k t = t
  descends Announce k t = t
  descends (FindDepth aim root) k t = t
  descends (FindEntry aim root depth) k t = t
  descends (LookWord root bucket) k t = t
  descends (LookCount row) k t = t
  descends (LookItems row count words) k t = t
  descends (TryRow round turn first row words) k t = t
  descends (TryAnnouncement round attempt found) k t = t
  descends (TryOp round attempt found op words) k t = t
  descends (TryStore round attempt found i) k t = t
  descends (DirDepth round turn first root) k t = t
  descends (DirEntries round turn first root depth words) k t = t
  descends (DirAnnouncement round attempt found) k t = t
  descends (DirOp round attempt found op words) k t = t
  descends (DirWord round attempt found loaded bucket) k t = t
  descends (DirRow round attempt found loaded bucket row words) k t = t
  descends (LastWord root bucket) k t = t
  descends (LastRow row words) k t = t
  descends (StoreDone reply at) k t = t
  descends phase k t = absurd k

  -- nor does what was published change
  pub recalls : (phase : Phase) → Keeps setup c me account.used flight local phase →
      Recalls c (common_after setup me account.used flight phase c)
  recalls (StoreOp i) k = record { origins = λ b n. (refl, refl); bases = λ b i n o. refl; dir_bases = λ v o. refl }
  recalls (FindRoot ForLookup) k = recalls_none c
  recalls (FindRoot ForFirstRound) k = record {
    origins = λ b n. (refl, refl);
    bases = λ b i n o. refl;
    dir_bases = λ v o. refl;
  }
  recalls (FindRoot (ForSecondRound first)) k = recalls_none c
  recalls (FindRoot ForLastLook) k = recalls_none c
  recalls (TryWord round turn None) k = record {
    origins = λ b n. (refl, refl);
    bases = λ b i n o. refl;
    dir_bases = λ v o. refl;
  }
  recalls (TryWord round turn (Some first)) k = recalls_none c
  recalls (TryExchange round attempt found) k = go (eqb (c.memory.bucket round.bucket) attempt.row) refl
    where
      go : (e : Bool) → eqb (c.memory.bucket round.bucket) attempt.row ≡ e →
          Recalls c (cond e (published setup me round.bucket attempt found c) c)
      go true e = Publish.recalls laws setup me c account flight local h s round attempt found k
          (eqb-true (c.memory.bucket round.bucket) attempt.row e)
      go false e = recalls_none c
  recalls (DirRoot round turn None) k = record {
    origins = λ b n. (refl, refl);
    bases = λ b i n o. refl;
    dir_bases = λ v o. refl;
  }
  recalls (DirRoot round turn (Some first)) k = recalls_none c
  recalls (DirStore round attempt found loaded i) k = record
      { origins = λ b n. (refl, refl); bases = λ b i n o. refl; dir_bases = λ v o. refl }
  recalls (DirExchange round attempt found loaded) k = go (eqb c.memory.root attempt.root) refl
    where
      go : (e : Bool) → eqb c.memory.root attempt.root ≡ e →
          Recalls c (cond e (grown_by setup me account.used attempt found loaded c) c)
      go true e = Won.recalls changes setup me c account flight local h s round attempt found loaded k
          (eqb-true c.memory.root attempt.root e)
      go false e = recalls_none c
  recalls SeeDone k = recalls_none c
  recalls Announce k = record { origins = λ b n. (refl, refl); bases = λ b i n o. refl; dir_bases = λ v o. refl }
  recalls (FindDepth aim root) k = recalls_none c
  recalls (FindEntry aim root depth) k = recalls_none c
  recalls (LookWord root bucket) k = recalls_none c
  recalls (LookCount row) k = recalls_none c
  recalls (LookItems row count words) k = recalls_none c
  recalls (TryRow round turn first row words) k = recalls_none c
  recalls (TryAnnouncement round attempt found) k = recalls_none c
  recalls (TryOp round attempt found op words) k = recalls_none c
  recalls (TryStore round attempt found i) k = record {
    origins = λ b n. (refl, refl);
    bases = λ b i n o. refl;
    dir_bases = λ v o. refl;
  }
  recalls (DirDepth round turn first root) k = recalls_none c
  recalls (DirEntries round turn first root depth words) k = recalls_none c
  recalls (DirAnnouncement round attempt found) k = recalls_none c
  recalls (DirOp round attempt found op words) k = recalls_none c
  recalls (DirWord round attempt found loaded bucket) k = recalls_none c
  recalls (DirRow round attempt found loaded bucket row words) k = recalls_none c
  recalls (LastWord root bucket) k = recalls_none c
  recalls (LastRow row words) k = recalls_none c
  recalls (StoreDone reply at) k = record {
    origins = λ b n. (refl, refl);
    bases = λ b i n o. refl;
    dir_bases = λ v o. refl;
  }
  recalls phase k = absurd k

module _ (setup : Setup) (me : ℕ) (c : Common) (used : SeatRows) (flight : Flight) (local : Local)
    (h : me < seats_of setup) (s : Shared setup c) where
  -- rows that a seat loads or stores are rows of the table
  row_within : (b i : ℕ) (row k : ℕ) → c.named b ≡ true → i ≤ c.top b → row ≡ c.row_at b i → k < width setup →
      (row < count_of setup.shape BucketRows) × (k < bucket_row_words setup.shape.settings)
  row_within b i row k n m e w = (omega (arith, s.rows.within b i n m, e), omega (arith, w, width_is setup))

  own_within : used ≡ c.used me → (c.used me).bucket_rows < row_room setup me →
      next_number setup me BucketRows used < count_of setup.shape BucketRows
  own_within e n = omega (
    arith,
    next_row setup me used,
    ap (λ (u : SeatRows). row_no setup me u.bucket_rows) e,
    row_no_within setup me (c.used me).bucket_rows s.opened h n,
  )

  op_within : (p j op : ℕ) → p < seats_of setup → j < (c.used p).op_rows → op ≡ op_no setup p j →
      op < count_of setup.shape OpRows
  op_within p j op hp hj e = omega (arith, e, op_no_within setup p j s.opened hp (omega (arith, hj, s.calls.few p hp)))

  dir_within : (v root k : ℕ) → v ≤ c.dir_top → root ≡ c.dir_row v → k < 2 ^ (c.dir_at v).depth →
      (root < count_of setup.shape DirRows) × (2 + k < directory_row_words setup.shape.settings)
  dir_within v root k o e m = (
    omega (arith, s.directories.within v o, e),
    (let up : 2 ^ (c.dir_at v).depth ≤ 2 ^ setup.shape.settings.depth = pow_mono (s.directories.shallow v o) in
        omega (arith, m, up)),
  )

  -- so each step is on a word of the table
  pub within : (phase : Phase) → Keeps setup c me used flight local phase →
      IsWithin setup (ask_in setup me used flight phase)
  within SeeDone k = k.short
  within (StoreOp i) k = (
    omega (
      arith,
      next_op setup me used,
      ap (λ (u : SeatRows). op_no setup me u.op_rows) k.begins.flies.used_is,
      op_no_within setup me (c.used me).op_rows s.opened h k.begins.op_room_is,
    ),
    k.short,
  )
  within Announce k = h
  within (FindRoot aim) k = tt
  within (FindDepth aim root) k =
      (omega (arith, s.directories.within local.dir k.finds.old, k.finds.root_is), omega arith)
  within (FindEntry aim root depth) k =
      dir_within local.dir root (bits setup depth (key_in flight.call)) k.finds.old k.finds.root_is
      (subst (λ x. bits setup x (key_in flight.call) < 2 ^ (c.dir_at local.dir).depth) (sym k.depth_is)
      (bits_below setup (c.dir_at local.dir).depth (key_in flight.call) (s.directories.shallow local.dir k.finds.old)))
  within (LookWord root bucket) k = s.rows.inside bucket k.there
  within (LookCount row) k = row_within local.at local.base row 4 k.there k.old k.row_is (four_within setup)
  within (LookItems row count words) k =
      (let few : count * ITEM_WORDS ≤ setup.shape.settings.items * ITEM_WORDS = omega (arith, k.few) in
      row_within local.at local.base row (5 + length words) k.there k.old k.row_is
      (omega (arith, few, k.short, width_is setup)))
  within (TryWord round turn first) k = s.rows.inside round.bucket k.in_round.there
  within (TryRow round turn first row words) k =
      row_within round.bucket local.base row (length words) k.in_round.there k.looks.old k.looks.row_is k.short
  within (TryAnnouncement round attempt found) k = k.short
  within (TryOp round attempt found op words) k =
      (op_within (length found) k.reads.before op k.short k.reads.is_announced k.reads.op_is, k.short_op)
  within (TryStore round attempt found i) k = (
    own_within (sym k.works.flies.used_is) (omega (arith, k.room.rows, k.in_round.two)),
    omega (arith, k.short, width_is setup),
  )
  within (TryExchange round attempt found) k = s.rows.inside round.bucket k.in_round.there
  within (DirRoot round turn first) k = tt
  within (DirDepth round turn first root) k =
      (omega (arith, s.directories.within local.root k.looks.old, k.looks.row_is), omega arith)
  within (DirEntries round turn first root depth words) k =
      dir_within local.root root (length words) k.looks.old k.looks.row_is
      (omega (arith, k.short, ap (λ x. 2 ^ x) k.depth_is))
  within (DirAnnouncement round attempt found) k = k.short
  within (DirOp round attempt found op words) k =
      (op_within (length found) k.reads.before op k.short k.reads.is_announced k.reads.op_is, k.short_op)
  within (DirWord round attempt found loaded bucket) k =
      bucket_within attempt loaded found bucket k.opens.looks.old k.opens.directory_is k.next
    where
      bucket_within : (attempt : DirectoryTry) (loaded : List LoadedBucket) (found : List (Option Op)) (bucket : ℕ) →
          local.root ≤ c.dir_top → attempt.directory ≡ c.dir_at local.root →
          next_bucket (rules_of setup) attempt.directory loaded found ≡ Some bucket →
          bucket < count_of setup.shape BucketWords
      bucket_within attempt loaded found bucket o e x =
          let led =
          some_led (rules_of setup) attempt.directory (λ b. not (list_any (is_bucket b) loaded)) found bucket x in
          s.rows.inside bucket (subst (λ b. c.named b ≡ true) (ap (λ d. bucket_of (rules_of setup) d led.0) (sym e)
          ∙ led.1) (s.leads.there local.root led.0 o))
  within (DirRow round attempt found loaded bucket row words) k =
      row_within bucket local.base row (length words) k.sees.there k.sees.old k.row_is k.short
  within (DirStore round attempt found loaded i) k =
      subst (IsWithin setup) (sym (store_is (directory_puts setup me used attempt found loaded) i k.short))
      (k.inside i k.short)
  within (DirExchange round attempt found loaded) k = tt
  within (LastWord root bucket) k = s.rows.inside bucket k.there
  within (LastRow row words) k = row_within local.at local.base row (length words) k.there k.old k.row_is k.short
  within (StoreDone reply at) k = h
  within phase k = absurd k

  -- the numbers that it uses next
  same_row : c.used me ≡ used → row_no setup me (c.used me).bucket_rows ≡ next_number setup me BucketRows used
  same_row e = ap (λ (u : SeatRows). row_no setup me u.bucket_rows) e ∙ sym (next_row setup me used)

  same_op : c.used me ≡ used → op_no setup me (c.used me).op_rows ≡ next_number setup me OpRows used
  same_op e = ap (λ (u : SeatRows). op_no setup me u.op_rows) e ∙ sym (next_op setup me used)

  -- the memory of the history is the memory
  pub memory_is : (phase : Phase) → Keeps setup c me used flight local phase →
      (common_after setup me used flight phase c).memory ≡ memory_after (ask_in setup me used flight phase) c.memory
  unfolding op_words_of made_words
  memory_is (StoreOp i) k = ap (λ n. write c.memory (OpWord n i) (get_or (op_words_of flight.number flight.call) i 0))
      (same_op k.begins.flies.used_is)
  memory_is Announce k = ap (λ n. write c.memory (Announcement me) (n + 1)) (same_op k.begins.flies.used_is)
  memory_is (FindRoot ForLookup) k = refl
  memory_is (FindRoot ForFirstRound) k = refl
  memory_is (FindRoot (ForSecondRound first)) k = refl
  memory_is (FindRoot ForLastLook) k = refl
  memory_is (TryWord round turn None) k = refl
  memory_is (TryWord round turn (Some first)) k = refl
  memory_is (TryStore round attempt found i) k =
      ap (λ n. write c.memory (BucketRowWord n i) (get_or (made_words setup attempt found) i 0))
      (same_row k.works.flies.used_is)
  memory_is (TryExchange round attempt found) k = go (eqb (c.memory.bucket round.bucket) attempt.row)
    where
      go : (e : Bool) → (cond e (published setup me round.bucket attempt found c) c).memory ≡ cond e
          (write c.memory (BucketWord round.bucket) (next_number setup me BucketRows used)) c.memory
      go true = ap (λ n. write c.memory (BucketWord round.bucket) n)
          (ap (λ (u : SeatRows). row_no setup me u.bucket_rows) k.works.flies.used_is ∙ sym (next_row setup me used))
      go false = refl
  memory_is (DirRoot round turn None) k = refl
  memory_is (DirRoot round turn (Some first)) k = refl
  memory_is (DirExchange round attempt found loaded) k = go (eqb c.memory.root attempt.root)
    where
      go : (e : Bool) → (cond e (grown_by setup me used attempt found loaded c) c).memory ≡ cond e
          (write c.memory Root (next_number setup me DirRows used)) c.memory
      go true = refl
      go false = refl
  memory_is SeeDone k = refl
  memory_is (FindDepth aim root) k = refl
  memory_is (FindEntry aim root depth) k = refl
  memory_is (LookWord root bucket) k = refl
  memory_is (LookCount row) k = refl
  memory_is (LookItems row count words) k = refl
  memory_is (TryRow round turn first row words) k = refl
  memory_is (TryAnnouncement round attempt found) k = refl
  memory_is (TryOp round attempt found op words) k = refl
  memory_is (DirDepth round turn first root) k = refl
  memory_is (DirEntries round turn first root depth words) k = refl
  memory_is (DirAnnouncement round attempt found) k = refl
  memory_is (DirOp round attempt found op words) k = refl
  memory_is (DirWord round attempt found loaded bucket) k = refl
  memory_is (DirRow round attempt found loaded bucket row words) k = refl
  memory_is (DirStore round attempt found loaded i) k =
      ap (λ a. memory_after a c.memory) (sym (store_is (directory_puts setup me used attempt found loaded) i k.short))
  memory_is (LastWord root bucket) k = refl
  memory_is (LastRow row words) k = refl
  memory_is (StoreDone reply at) k = refl
  memory_is phase k = absurd k

-- ---- the world follows a memory with its history, in which all holds

pub record Follows (setup : Setup) (w : World) (c : Common) (locals : ℕ → Local) : Type 0 where
  pub shows : Shows setup.shape w.words c.memory
  pub long : length w.seats ≡ seats_of setup
  pub shared : Shared setup c
  pub descent : Descends setup c
  pub seats : (p : ℕ) → p < seats_of setup →
      KeepsStand setup c p (seat_in w p).account.used (locals p) (seat_in w p).stand

pub record Holds (setup : Setup) (w : World) : Type 0 where
  pub common : Common
  pub locals : ℕ → Local
  pub follows : Follows setup w common locals

-- a step of a seat that is in a call
module _ (laws : BucketLaws) (changes : (setup : Setup) → Changes setup) (setup : Setup) (w : World) (me : ℕ)
    (account : Account) (flight : Flight) (phase : Phase) (h : me < seats_of setup) (c : Common) (locals : ℕ → Local)
    (a : Follows setup w c locals)
    (k : Keeps setup c me account.used flight (locals me) phase) where
  -- what it asks for, and what is then
  abbrev asks : Ask
  asks = ask_in setup me account.used flight phase

  -- the memory with its history then
  abbrev d : Common
  d = common_after setup me account.used flight phase c

  -- where the seat is then
  abbrev new : Local
  new = local_after phase c (locals me)

  -- its state then
  abbrev state : SeatState
  state = state_after setup me account flight phase (found_in asks c.memory)

  -- the step keeps all
  g : Goes setup me c d new state
  g = goes laws changes setup me c account flight (locals me) h a.shared phase k

  -- it is on a word of the table
  inside : IsWithin setup asks
  inside = within setup me c account.used flight (locals me) h a.shared phase k

  -- every seat keeps what it knows: this one by its step, the others since the step changes nothing for them
  each : (p : ℕ) → p < seats_of setup →
      KeepsStand setup d p (get_or (set w.seats me state) p fresh_seat).account.used (put locals me new p)
      (get_or (set w.seats me state) p fresh_seat).stand
  each p hp = elim (cases_eq p me) [
    | inl e ↦ subst (λ q. KeepsStand setup d q (get_or (set w.seats me state) q fresh_seat).account.used
        (put locals me new q) (get_or (set w.seats me state) q fresh_seat).stand) (sym e)
        (subst (λ x. KeepsStand setup d me x.account.used (put locals me new me) x.stand)
        (sym (get_or-set_same w.seats me state fresh_seat (omega (arith, a.long, h))))
        (subst (λ x. KeepsStand setup d me state.account.used x state.stand) (sym (put_same locals me new)) g.keeps))
    | inr n ↦ subst (λ x. KeepsStand setup d p x.account.used (put locals me new p) x.stand)
        (sym (get_or-set_other w.seats me p state fresh_seat n))
        (subst (λ x. KeepsStand setup d p (seat_in w p).account.used x (seat_in w p).stand)
        (sym (put_other locals me new p n))
        (stays setup me c d g.moves a.shared p n hp (seat_in w p).account.used (locals p) (seat_in w p).stand
        (a.seats p hp)))
  ]

  -- it finds what the memory holds
  found_is : found_by setup asks w.words ≡ found_in asks c.memory
  found_is = found_same setup asks w.words c.memory inside a.shows

  -- the state of a seat then, by the word that was found
  abbrev seat_then : ℕ → ℕ → SeatState
  seat_then f p = get_or (set w.seats me (state_after setup me account flight phase f)) p fresh_seat

  -- so the world after the step follows the memory after it
  pub acts : Follows setup (step_of setup w me account flight phase) d (put locals me new)
  acts = record {
    shows = subst (Shows setup.shape (words_after setup asks w.words))
        (sym (memory_is setup me c account.used flight (locals me) h a.shared phase k))
        (shows_after setup asks w.words c.memory inside a.shows);
    long = length-set w.seats me (state_after setup me account flight phase (found_by setup asks w.words)) ∙ a.long;
    shared = g.shared;
    descent = descends laws changes setup me c account flight (locals me) h a.shared phase k a.descent;
    seats = λ p hp. subst (λ (f : ℕ). KeepsStand setup d p (seat_then f p).account.used (put locals me new p)
        (seat_then f p).stand)
        (sym found_is) (each p hp);
  }

-- an idle seat that begins a call
not_first : {A : Type 0} → (b : Bool) (x : A) (rest : Option A) → cond b (Some x) rest ≡ None → (b ≡ false)
    × (rest ≡ None)
not_first true x rest e = cc
not_first false x rest e = (refl, e)

-- no refusal means that the ranges suffice
enough : (left need : SeatRows) → first_short left need ≡ None → IsEnough left need
enough left need e =
    let a = not_first (ltb left.op_rows need.op_rows) _ _ e in
    let b = not_first (ltb left.bucket_rows need.bucket_rows) _ _ a.1 in
    let c = not_first (ltb left.bucket_words need.bucket_words) _ _ b.1 in
    let d = not_first (ltb left.directory_rows need.directory_rows) _ _ c.1 in
    record {
      op_rows = omega (arith, ltb-false left.op_rows need.op_rows a.0);
      bucket_rows = omega (arith, ltb-false left.bucket_rows need.bucket_rows b.0);
      bucket_words = omega (arith, ltb-false left.bucket_words need.bucket_words c.0);
      directory_rows = omega (arith, ltb-false left.directory_rows need.directory_rows d.0);
    }

-- so it is of an update that is not refused
begins_none : (left need : SeatRows) (call : Call) → refusal left need call ≡ None → is_update call ≡ true →
    IsEnough left need
begins_none left need (Insert key value) e u = enough left need e
begins_none left need (Remove key) e u = enough left need e
begins_none left need (Lookup key) e u = cc
begins_none left need (Tally key amount) e u = enough left need e
begins_none left need (Count key value amount) e u = enough left need e
begins_none left need (Puts key value) e u = enough left need e

-- a call that may begin and is an update may be announced
update_is : (call : Call) → IsAskable call → is_update call ≡ true → IsUpdate call
update_is (Insert key value) a u = a
update_is (Remove key) a u = tt
update_is (Lookup key) a u = cc
update_is (Tally key amount) a u = a
update_is (Count key value amount) a u = a
update_is (Puts key value) a u = a

-- the most leaves of a directory change
most_is : (setup : Setup) → most_leaves setup ≡ new_leaves setup.shape.settings
unfolding most_leaves
most_is setup = refl

-- a call that begins
pub begun_keeps : (setup : Setup) (c : Common) (me : ℕ) (account : Account) (local : Local) (packet : ℕ) (call : Call)
    → Rests setup c me account.used → CanBegin setup account (packet, call) → refusal_of setup me account call ≡ None →
    Keeps setup c me account.used (begun account packet call) local SeeDone
begun_keeps setup c me account local packet call k can free = record {
  flies = flies;
  short = omega arith;
  begins = λ u. (let enough = begins_none (left_of (sizes_of setup.shape me) account.used)
      (need_of (settings_of setup)) call free u in record {
        flies = flies;
        update = update_is call can.value u;
        op_room_is = omega (arith, enough.op_rows, ap (λ (x : SeatRows). x.op_rows) k.used_is);
        room = record {
          rows = omega (arith, enough.bucket_rows, ap (λ (x : SeatRows). x.bucket_rows) k.used_is, most_is setup);
          words = omega (arith, enough.bucket_words, ap (λ (x : SeatRows). x.bucket_words) k.used_is, most_is setup);
          dirs = omega (arith, enough.directory_rows, ap (λ (x : SeatRows). x.directory_rows) k.used_is);
        };
      });
}
  where
    flies : Flies setup c me account.used (length account.records + 1)
    flies = record { used_is = k.used_is; some = omega arith; few = omega (arith, can.count) }

-- ---- one event

-- a seat that there is acts
act_follows : (laws : BucketLaws) (changes : (setup : Setup) → Changes setup) (setup : Setup) (w : World) (me : ℕ)
    (h : me < seats_of setup) (c : Common) (locals : ℕ → Local) (a : Follows setup w c locals) (account : Account)
    (stand : Stand) (begin : Option (ℕ × Call)) →
    KeepsStand setup c me account.used (locals me) stand → FitsStand setup account stand begin →
    Holds setup (act setup w me account stand begin)
act_follows laws changes setup w me h c locals a account Idle None k fits = record
    { common = c; locals = locals; follows = a }
act_follows laws changes setup w me h c locals a account Idle (Some begin) k fits =
    go (refusal_of setup me account begin.1) refl
  where
    go : (r : Option Full) → refusal_of setup me account begin.1 ≡ r →
        Holds setup (begin_or_refuse setup w me account begin.0 begin.1 r)
    go (Some full) e = record { common = c; locals = locals; follows = a }
    go None e = record {
      common = common_after setup me account.used (begun account begin.0 begin.1) SeeDone c;
      locals = put locals me (local_after SeeDone c (locals me));
      follows = acts laws changes setup w me account (begun account begin.0 begin.1) SeeDone h c locals a
          (begun_keeps setup c me account (locals me) begin.0 begin.1 k fits.1 e);
    }
act_follows laws changes setup w me h c locals a account (InFlight flight phase) begin k fits = record {
  common = common_after setup me account.used flight phase c;
  locals = put locals me (local_after phase c (locals me));
  follows = acts laws changes setup w me account flight phase h c locals a k;
}

-- one event keeps all
pub happens_holds : (laws : BucketLaws) (changes : (setup : Setup) → Changes setup) (setup : Setup) (w : World)
    (event : Event) → Holds setup w → IsEvent setup w event → Holds setup (happens setup w event)
happens_holds laws changes setup w event a e =
    subst (λ (b : Bool). Holds setup (cond b (act setup w event.seat (seat_in w event.seat).account
    (seat_in w event.seat).stand event.begin) w)) (sym (lt-ltb event.seat (seats_of setup) e.seat))
    (act_follows laws changes setup w event.seat e.seat a.common a.locals a.follows (seat_in w event.seat).account
    (seat_in w event.seat).stand event.begin (a.follows.seats event.seat e.seat) e.begin)

-- so does every list of events
pub run_holds : (laws : BucketLaws) (changes : (setup : Setup) → Changes setup) (setup : Setup) (events : List Event)
    (w : World) → Holds setup w → AreEvents setup w events → Holds setup (fold (happens setup) w events)
run_holds laws changes setup [] w a e = a
run_holds laws changes setup (event ∷ events) w a e =
    run_holds laws changes setup events (happens setup w event) (happens_holds laws changes setup w event a e.0) e.1

-- no seat is stuck
pub never_stuck : (setup : Setup) (w : World) (seat : ℕ) (flight : Flight) (phase : Phase) → Holds setup w →
    seat < seats_of setup → (seat_in w seat).stand ≡ InFlight flight phase → phase ≢ Stuck
never_stuck setup w seat flight phase a h e stuck =
    subst (KeepsStand setup a.common seat (seat_in w seat).account.used (a.locals seat))
    (e ∙ ap (InFlight flight) stuck) (a.follows.seats seat h)
