-- One step of a seat, whatever its phase: what is told and known before is told and known then.
use Rattle.std.proofs.Common.{◌≡◌, ℕ, suc, ◌+◌, ◌-◌, ◌*◌, ◌^◌, ◌<◌, ◌≤◌, Bool, true, false, cond, eqb, ltb, leb, List, [], ◌∷◌, ◌++◌, length, get_or, take, drop, Option, Some, None, true≢false, refl, sym, ap, ◌∙◌, subst, arith, length-drop}
use Rattle.std.proofs.lemmas.Bool.{cond_both, ltb-false, leb-true, eqb-true}
use Rattle.std.proofs.lemmas.List.{length_push}
use Rattle.step_counts.specs.declared.TheConstants.{ITEM_WORDS, OP_WORDS}
use Rattle.step_counts.specs.StepCounts.{bucket_row_words}
use Rattle.step_counts.specs.declared.rows.SeatRows.{SeatRows}
use Rattle.plain_map.specs.declared.keys.Key.{Key}
use Rattle.plain_map.specs.declared.full.FullKind.TheVariants.{BucketRows}
use Rattle.plain_map.specs.Calls.{key_in}
use Rattle.word_rows.specs.declared.addresses.Address.{Address}
use Rattle.word_rows.specs.declared.addresses.Address.TheVariants.{Root, Announcement, Done, BucketWord, OpWord, BucketRowWord, DirectoryWord}
use Rattle.word_rows.specs.Memory.{Memory, write}
use Rattle.word_rows.specs.BucketWords.{items_of_words}
use Rattle.word_rows.proofs.MemoryLemmas.{put_same, put_at_same}
use Rattle.bucket_states.specs.declared.ops.Op.{Op}
use Rattle.bucket_states.specs.States.{BucketState}
use Rattle.bucket_states.specs.Items.{reply_in}
use Rattle.bucket_states.specs.Laws.{applied_of}
use Rattle.table_model.specs.Setup.{Setup, seats_of, rules_of, next_number}
use Rattle.table_model.specs.declared.rounds.Round.{Round}
use Rattle.table_model.specs.declared.rounds.Aim.TheVariants.{ForLookup, ForFirstRound, ForSecondRound, ForLastLook}
use Rattle.table_model.specs.DirectoryChange.{LoadedBucket, next_bucket}
use Rattle.table_model.specs.Leaves.{NewLeaf, is_in}
use Rattle.table_model.specs.Phases.{BucketTry, DirectoryTry, Phase, SeeDone, StoreOp, Announce, FindRoot, FindDepth, FindEntry, LookWord, LookCount, LookItems, TryWord, TryRow, TryAnnouncement, TryOp, TryStore, TryExchange, DirRoot, DirDepth, DirEntries, DirAnnouncement, DirOp, DirWord, DirRow, DirStore, DirExchange, LastWord, LastRow, StoreDone, Stuck}
use Rattle.table_model.specs.SeatStates.{Account, Flight, InFlight}
use Rattle.table_model.specs.Asks.{ask_in}
use Rattle.table_model.specs.Stores.{made_bucket, made_leaves, directory_puts}
use Rattle.table_model.specs.Goes.{state_after, after_items, after_row, after_row_words, after_exchange, after_found, after_dir_found, after_loaded, after_loaded_words, load_or_store, after_entries, after_directory, after_round, after_puts, after_lost_root, after_last_words, answered_by, answered_by_leaf, is_applied, bucket_in_words, op_in_words, with_directory}
use Rattle.run_invariant.proofs.Invariant.{Common, Local, Shared, Descends, Keeps, Works, IsOwn, bits, width, put_in, row_no}
use Rattle.run_invariant.proofs.Events.{published, local_after}
use Rattle.run_invariant.proofs.Numbers.{next_row}
use Rattle.run_invariant.proofs.Change.{leaf_at}
use Rattle.run_invariant.proofs.Loads.{width_is, four_within}
use Rattle.run_laws.proofs.Begin
use Rattle.run_laws.proofs.BucketStep.{row_more, row_all}
use Rattle.run_laws.proofs.Won.{grown_by}
use Rattle.run_laws.proofs.Induction.{common_after, found_in}
use Rattle.list_laws.proofs.Cuts.{seen_more}
use Rattle.order_laws.proofs.Tale.{Past, past_of, Tale, Told, LooksAt, Knows, Flying}
use Rattle.order_laws.proofs.Grows.{Grows}
use Rattle.order_laws.proofs.Phases.{Went, quiet, either, answers_row, update_is, word_items, items_all}
use Rattle.order_laws.proofs.Moments.{own_answers, see_done, announce, find_lookup, look_word, store_done}
use Rattle.order_laws.proofs.RowPublished
use Rattle.order_laws.proofs.VersionPublished

-- a store in what a seat has not published changes no done word
write_done : (setup : Setup) (q : ℕ) (used : SeatRows) (m : Memory) (a : Address) (w s : ℕ) → IsOwn setup q used a →
    (write m a w).done s ≡ m.done s
write_done setup q used m (OpWord r i) w s o = refl
write_done setup q used m (BucketRowWord r i) w s o = refl
write_done setup q used m (BucketWord b) w s o = refl
write_done setup q used m (DirectoryWord r i) w s o = refl
write_done setup q used m Root w s o = elim o [ ]
write_done setup q used m (Announcement x) w s o = elim o [ ]
write_done setup q used m (Done x) w s o = elim o [ ]

module _ (setup : Setup) (me : ℕ) (c : Common) (account : Account) (flight : Flight) (local : Local)
    (h : me < seats_of setup) (s : Shared setup c) (d : Descends setup c)
    (t : Tale) (told : Told setup (past_of c) t) (done : (x : ℕ) → c.memory.done x ≡ t.answers x) where
  -- the past before the event
  abbrev p : Past
  p = past_of c

  -- the key of the call
  abbrev key : Key
  key = key_in flight.call

  -- what is known of the seat before the event
  abbrev Knew : Local → Phase → Type 0
  Knew at phase = Knows setup p t me flight.number flight.call at phase

  -- the reply of a row that was loaded whole
  row_says : (phase : Phase) → Flying setup p t me account flight local phase →
      Works setup c me account.used flight.number flight.call →
      (at : Local) (b i row : ℕ) (state : BucketState) → c.named b ≡ true → i ≤ c.top b → row ≡ c.row_at b i →
      state ≡ c.state_at b i → bits setup (c.deep b) key ≡ c.pre b → flight.number ≤ applied_of state me →
      Knew at (answered_by me state row)
  row_says phase y w at b i row state n o e is suits has =
      answers_row setup me flight h p t told w.flies.some (update_is setup me c flight h s t told account.used w)
      y.upto.ops at b i row state n o e is suits has

  -- a round that is left, and a directory that is loaded, say nothing
  round_left : (at : Local) (round : Round) → Knew at (after_round round)
  round_left at round = go (eqb round.turn 1)
    where
      go : (b : Bool) → Knew at (FindRoot (cond b (ForSecondRound round.first) ForLastLook))
      go true = tt
      go false = tt

  -- what the second round has loaded is as it must
  dir_loaded : (at : Local) (round : Round) (attempt : DirectoryTry) →
      Knew at (after_directory setup flight round attempt)
  dir_loaded at round attempt = either (Knew at) _ (DirAnnouncement round attempt []) (after_round round) tt
      (round_left at round)

  -- with the entries of the directory row
  entries_loaded : (at : Local) (round : Round) (turn first root depth : ℕ) (words : List ℕ) →
      Knew at (after_entries setup flight round turn first root depth words)
  entries_loaded at round turn first root depth words =
      either (Knew at) (ltb (length words) (2 ^ depth)) (DirEntries round turn first root depth words)
      (after_directory setup flight round (record {
        turn = turn;
        first = first;
        root = root;
        directory = record { depth = depth; entries = words };
      })) tt
      (dir_loaded at round (record {
        turn = turn;
        first = first;
        root = root;
        directory = record { depth = depth; entries = words };
      }))

  -- and with the next bucket
  next_loaded : (at : Local) (round : Round) (attempt : DirectoryTry) (found : List (Option Op))
      (loaded : List LoadedBucket) (o : Option ℕ) → Knew at (load_or_store round attempt found loaded o)
  next_loaded at round attempt found loaded None = tt
  next_loaded at round attempt found loaded (Some b) = tt

  -- the bucket that is found is the key's
  found_by : (at : Local) (round : Round) (attempt : DirectoryTry) (found : List (Option Op)) →
      Knew at (after_dir_found setup round attempt found)
  found_by at round attempt found = either (Knew at) (ltb (length found) (seats_of setup))
      (DirAnnouncement round attempt found) (after_loaded setup round attempt found [])
      tt (next_loaded at round attempt found [] (next_bucket (rules_of setup) attempt.directory [] found))

  -- the words of a lookup's items
  items_say : (row count : ℕ) (words : List ℕ) → LooksAt setup p t me flight.number flight.call local →
      c.named local.at ≡ true → local.base ≤ c.top local.at → row ≡ c.row_at local.at local.base →
      count ≡ get_or (c.words_at local.at local.base) 4 0 →
      words ≡ take (length words) (drop 5 (c.words_at local.at local.base)) → length words ≤ count * ITEM_WORDS →
      Knew local (after_items setup flight row count words)
  items_say row count words l n o e f w few =
      cond_both (ltb (length words) (count * ITEM_WORDS)) (LookItems row count words)
      (StoreDone (reply_in (rules_of setup) (items_of_words count words) flight.call) row) (λ ph. Knew local ph)
      (λ less. record { looks = l; count_is = f; words_are = w })
      (λ all. record {
        update = λ u. absurd (true≢false (sym u ∙ l.lookup));
        lookup = λ u. record {
          bucket = local.at;
          at = local.base;
          named = n;
          inside = o;
          place_is = e;
          suits = l.suits;
          looked_is = l.looked_is;
          reply_is = ap (λ items. reply_in (rules_of setup) items flight.call)
              (items_all setup me c flight h s t told local.at local.base count words n o f w
              (omega (arith, few, ltb-false (length words) (count * ITEM_WORDS) all)));
        };
      })

  -- ---- the exchange of a bucket word that happens
  module _ (round : Round) (attempt : BucketTry) (found : List (Option Op))
      (k : Keeps setup c me account.used flight local (TryExchange round attempt found))
      (y : Flying setup p t me account flight local (TryExchange round attempt found))
      (same : c.memory.bucket round.bucket ≡ attempt.row) where
    -- the history with the new row
    abbrev d2 : Common
    d2 = published setup me round.bucket attempt found c

    -- the new state
    abbrev made : BucketState
    made = made_bucket setup attempt found

    -- the number of the new row
    abbrev no : ℕ
    no = next_number setup me BucketRows account.used

    -- the tale with it
    abbrev u : Tale
    u = RowPublished.u setup me c account flight local h s round attempt found k same t told

    -- it is told
    told_then : Told setup (past_of d2) u
    told_then = RowPublished.told_then setup me c account flight local h s round attempt found k same t told

    -- it grows
    grows_then : Grows me flight.number p t (past_of d2) u
    grows_then = RowPublished.grows setup me c account flight local h s round attempt found k same t told

    -- the seat's numbers are as high as its call's
    upto_then : (j : ℕ) → j < (d2.used me).op_rows → (d2.op_at me j).number ≤ flight.number
    upto_then j less = y.upto.ops j (omega (
      arith,
      less,
      ap (λ r. r.op_rows)
          (put_same c.used me (record (c.used me) { bucket_rows = (c.used me).bucket_rows + 1 })),
    ))

    -- the new row is the last of its bucket
    place_then : no ≡ d2.row_at round.bucket (c.top round.bucket + 1)
    place_then = next_row setup me account.used
        ∙ ap (λ (r : SeatRows). row_no setup me r.bucket_rows) (sym k.works.flies.used_is)
        ∙ sym (put_at_same c.row_at round.bucket (c.top round.bucket + 1) (row_no setup me (c.used me).bucket_rows))

    -- so the seat has published a row
    row_published : Went setup me flight.number p t (past_of d2) d2.memory local (record {
      account = record account { used = record account.used { bucket_rows = account.used.bucket_rows + 1 } };
      stand = InFlight (record flight { steps = flight.steps + 1 }) (after_exchange me flight round made no);
    })
    row_published = record {
      tale = u;
      told = told_then;
      grows = grows_then;
      done = done;
      seat = record {
        answers = own_answers setup me flight.number p t (past_of d2) u grows_then flight.number account.records
            (omega (arith, y.number_is)) (omega arith) refl y.answers;
        upto = record { ops = upto_then; looks = y.upto.looks; waits = y.upto.waits };
        number_is = y.number_is;
        call_is = y.call_is;
        seen_is = y.seen_is;
        knows = cond_both (is_applied me flight made) (answered_by me made no)
            (cond made.frozen (DirRoot round 1 None) Stuck)
            (λ ph. Knows setup (past_of d2) u me flight.number flight.call local ph)
            (λ has. answers_row setup me flight h (past_of d2) u told_then k.works.flies.some
            (update_is setup me c flight h s t told account.used k.works) upto_then local round.bucket
            (c.top round.bucket + 1) no made
            k.in_round.there (omega (arith, put_same c.top round.bucket (c.top round.bucket + 1))) place_then
            (sym (put_at_same c.state_at round.bucket (c.top round.bucket + 1) made)) k.in_round.for_it
            (leb-true flight.number (applied_of made me) has))
            (λ _. either (λ ph. Knows setup (past_of d2) u me flight.number flight.call local ph) made.frozen
            (DirRoot round 1 None) Stuck tt tt);
      };
    }

  -- a seat that exchanges a bucket word goes on
  went_exchange : (round : Round) (attempt : BucketTry) (found : List (Option Op))
      (k : Keeps setup c me account.used flight local (TryExchange round attempt found))
      (y : Flying setup p t me account flight local (TryExchange round attempt found))
      (e : Bool) → eqb (c.memory.bucket round.bucket) attempt.row ≡ e →
      Went setup me flight.number p t (past_of (cond e (published setup me round.bucket attempt found c) c))
      (cond e (published setup me round.bucket attempt found c) c).memory local (record {
        account = record account {
          used = cond e (record account.used { bucket_rows = account.used.bucket_rows + 1 })
              account.used;
        };
        stand = InFlight (record flight { steps = flight.steps + 1 })
            (cond e (after_exchange me flight round (made_bucket setup attempt found)
            (next_number setup me BucketRows account.used)) (TryWord round (attempt.turn + 1) (Some attempt.first)));
      })
  went_exchange round attempt found k y false e =
      quiet setup me p account flight local (TryExchange round attempt found) t told y c.memory done account.used
      local (TryWord round (attempt.turn + 1) (Some attempt.first)) tt
  went_exchange round attempt found k y true e =
      row_published round attempt found k y (eqb-true (c.memory.bucket round.bucket) attempt.row e)

  -- ---- the exchange of the root that happens
  by_leaf : (P : Phase → Type 0) (row : ℕ) (leaves : List NewLeaf) → P Stuck →
      ((i : ℕ) → i < length leaves → is_in (rules_of setup) key (leaf_at leaves i) ≡ true →
      P (answered_by me (leaf_at leaves i) (row + i))) → P (answered_by_leaf (rules_of setup) me flight row leaves)
  by_leaf P row [] stuck each = stuck
  by_leaf P row (leaf ∷ leaves) stuck each =
      cond_both (is_in (rules_of setup) key leaf.bucket) (answered_by me leaf.bucket row)
      (answered_by_leaf (rules_of setup) me flight (row + 1) leaves) P
      (λ e. subst (λ z. P (answered_by me leaf.bucket z)) (omega arith) (each 0 (omega arith) e))
      (λ _. by_leaf P (row + 1) leaves stuck
      (λ i less e. subst (λ z. P (answered_by me (leaf_at leaves i) z)) (omega arith)
      (each (suc i) (omega (arith, less)) e)))

  module _ (round : Round) (attempt : DirectoryTry) (found : List (Option Op)) (loaded : List LoadedBucket)
      (k : Keeps setup c me account.used flight local (DirExchange round attempt found loaded))
      (y : Flying setup p t me account flight local (DirExchange round attempt found loaded))
      (same : c.memory.root ≡ attempt.root) where
    -- the history with the new version
    abbrev d3 : Common
    d3 = grown_by setup me account.used attempt found loaded c

    -- the new leaves
    abbrev leaves : List NewLeaf
    leaves = made_leaves setup attempt found loaded

    -- the tale with it
    abbrev v : Tale
    v = VersionPublished.u setup me c account flight local h s round attempt found loaded k same t told

    -- it is told
    told_grown : Told setup (past_of d3) v
    told_grown = VersionPublished.told_then setup me c account flight local h s round attempt found loaded k same t told

    -- it grows
    grows_grown : Grows me flight.number p t (past_of d3) v
    grows_grown = VersionPublished.grows setup me c account flight local h s round attempt found loaded k same t told

    -- the seat's numbers are as high as its call's
    upto_grown : (j : ℕ) → j < (d3.used me).op_rows → (d3.op_at me j).number ≤ flight.number
    upto_grown j less = y.upto.ops j (omega (
      arith,
      less,
      ap (λ r. r.op_rows)
          (put_same c.used me (with_directory (c.used me) (length leaves))),
    ))

    -- so the seat has published a version
    root_published : Went setup me flight.number p t (past_of d3) d3.memory local (record {
      account = record account { used = with_directory account.used (length leaves) };
      stand = InFlight (record flight { steps = flight.steps + 1 })
          (answered_by_leaf (rules_of setup) me flight (next_number setup me BucketRows account.used) leaves);
    })
    root_published = record {
      tale = v;
      told = told_grown;
      grows = grows_grown;
      done = done;
      seat = record {
        answers = own_answers setup me flight.number p t (past_of d3) v grows_grown flight.number account.records
            (omega (arith, y.number_is)) (omega arith) refl y.answers;
        upto = record { ops = upto_grown; looks = y.upto.looks; waits = y.upto.waits };
        number_is = y.number_is;
        call_is = y.call_is;
        seen_is = y.seen_is;
        knows = by_leaf (λ ph. Knows setup (past_of d3) v me flight.number flight.call local ph)
            (next_number setup me BucketRows account.used) leaves tt (λ i less has.
            let x = VersionPublished.leaf_row setup me c account flight local h s round attempt found loaded k same t
            told i less in
            answers_row setup me flight h (past_of d3) v told_grown k.works.flies.some
            (update_is setup me c flight h s t told account.used k.works) upto_grown local x.bucket 0
            (next_number setup me BucketRows account.used + i) (leaf_at leaves i)
            x.named (omega arith) x.row (sym x.state) (x.suits key has)
            (x.takes flight.number flight.call has k.works.op_is));
      };
    }

  -- a seat that exchanges the root goes on
  went_root : (round : Round) (attempt : DirectoryTry) (found : List (Option Op)) (loaded : List LoadedBucket)
      (k : Keeps setup c me account.used flight local (DirExchange round attempt found loaded))
      (y : Flying setup p t me account flight local (DirExchange round attempt found loaded))
      (e : Bool) → eqb c.memory.root attempt.root ≡ e →
      Went setup me flight.number p t (past_of (cond e (grown_by setup me account.used attempt found loaded c) c))
      (cond e (grown_by setup me account.used attempt found loaded c) c).memory local (record {
        account = record account {
          used = cond e
              (with_directory account.used (length (made_leaves setup attempt found loaded))) account.used;
        };
        stand = InFlight (record flight { steps = flight.steps + 1 })
            (cond e (answered_by_leaf (rules_of setup) me flight (next_number setup me BucketRows account.used)
            (made_leaves setup attempt found loaded)) (after_lost_root round attempt));
      })
  went_root round attempt found loaded k y true e =
      root_published round attempt found loaded k y (eqb-true c.memory.root attempt.root e)
  went_root round attempt found loaded k y false e =
      quiet setup me p account flight local (DirExchange round attempt found loaded) t told y c.memory done
      account.used local (after_lost_root round attempt)
      (either (Knew local) (eqb attempt.turn 1) (DirRoot round 2 (Some attempt.first)) (after_round round) tt
      (round_left local round))

  -- ---- all phases
  pub went : (phase : Phase) → Keeps setup c me account.used flight local phase →
      Flying setup p t me account flight local phase →
      Went setup me flight.number p t (past_of (common_after setup me account.used flight phase c))
      (common_after setup me account.used flight phase c).memory (local_after phase c local)
      (state_after setup me account flight phase (found_in (ask_in setup me account.used flight phase) c.memory))
  went SeeDone k y = see_done setup me c h s t told done account flight local k y
  went (StoreOp i) k y = quiet setup me p account flight local (StoreOp i) t told y
      (common_after setup me account.used flight (StoreOp i) c).memory done account.used local
      (cond (ltb (i + 1) OP_WORDS) (StoreOp (i + 1)) Announce)
      (either (Knew local) (ltb (i + 1) OP_WORDS) (StoreOp (i + 1)) Announce tt tt)
  went Announce k y = announce setup me c h s t told done account flight local k y
  went (FindRoot ForLookup) k y = find_lookup setup me c h s t told done account flight local y
  went (FindRoot ForFirstRound) k y = quiet setup me p account flight local
      (FindRoot ForFirstRound) t told y c.memory done account.used (record local { dir = c.dir_top })
      (FindDepth ForFirstRound c.memory.root) tt
  went (FindRoot (ForSecondRound first)) k y =
      quiet setup me p account flight local (FindRoot (ForSecondRound first)) t told y c.memory done account.used
      (record local { dir = c.dir_top }) (FindDepth (ForSecondRound first) c.memory.root) tt
  went (FindRoot ForLastLook) k y = quiet setup me p account flight local
      (FindRoot ForLastLook) t told y c.memory done account.used (record local { dir = c.dir_top })
      (FindDepth ForLastLook c.memory.root) tt
  went (FindDepth aim root) k y = quiet setup me p account flight local
      (FindDepth aim root) t told y c.memory done account.used local
      (FindEntry aim root (c.memory.directory root 0)) y.knows
  went (FindEntry ForLookup root depth) k y =
      let e = Begin.entry setup me c account flight local h s root depth k.finds.root_is k.depth_is k.finds.old in
      quiet setup me p account flight local (FindEntry ForLookup root depth) t told y c.memory done account.used
      local (LookWord root (c.memory.directory root (2 + bits setup depth key)))
      (record { by = y.knows; old = k.finds.old; led = sym e })
  went (FindEntry ForFirstRound root depth) k y =
      quiet setup me p account flight local (FindEntry ForFirstRound root depth) t told y c.memory done account.used
      local
      (TryWord (record {
        turn = 1;
        first = root;
        root = root;
        bucket = c.memory.directory root (2 + bits setup depth key);
      }) 1 None) tt
  went (FindEntry (ForSecondRound first) root depth) k y =
      quiet setup me p account flight local (FindEntry (ForSecondRound first) root depth) t told y c.memory done
      account.used local
      (TryWord (record {
        turn = 2;
        first = first;
        root = root;
        bucket = c.memory.directory root (2 + bits setup depth key);
      }) 1 None) tt
  went (FindEntry ForLastLook root depth) k y =
      let e = Begin.entry setup me c account flight local h s root depth k.finds.root_is k.depth_is k.finds.old in
      quiet setup me p account flight local (FindEntry ForLastLook root depth) t told y c.memory done account.used
      local (LastWord root (c.memory.directory root (2 + bits setup depth key)))
      (record {
        suits = subst (λ b. bits setup (c.deep b) key ≡ c.pre b) (sym e)
            (s.leads.for_it local.dir key k.finds.old);
      })
  went (LookWord root bucket) k y = look_word setup me c h s t told done d account flight local root bucket k y
  went (LookCount row) k y =
      let count = c.memory.bucket_row row 4 in
      quiet setup me p account flight local (LookCount row) t told y c.memory done account.used local
      (after_items setup flight row count [])
      (items_say row count [] y.knows k.there k.old k.row_is
      (ap (λ r. c.memory.bucket_row r 4) k.row_is
      ∙ s.rows.rows_are local.at local.base 4 k.there k.old (four_within setup)) refl (omega arith))
  went (LookItems row count words) k y =
      let w = c.memory.bucket_row row (5 + length words) in
      let ws = c.words_at local.at local.base in
      let long = (s.rows.sound local.at local.base k.there k.old).long in
      let most : count * ITEM_WORDS ≤ setup.shape.settings.items * ITEM_WORDS = omega (arith, k.few) in
      let inside : 5 + length words < width setup = omega (arith, most, k.short, width_is setup) in
      let short : length words < length (drop 5 ws) = omega (arith, inside, long, length-drop 5 ws) in
      let read : w ≡ get_or (drop 5 ws) (length words) 0 =
      ap (λ r. c.memory.bucket_row r (5 + length words)) k.row_is
      ∙ word_items setup me c flight h s t told local.at local.base (length words) k.there k.old inside in
      quiet setup me p account flight local (LookItems row count words) t told y c.memory done account.used local
      (after_items setup flight row count (words ++ w ∷ []))
      (items_say row count (words ++ w ∷ []) y.knows.looks k.there k.old k.row_is y.knows.count_is
      (seen_more (drop 5 ws) words w short y.knows.words_are read) (omega (arith, k.short, length_push words w)))
  went (TryWord round turn None) k y = quiet setup me p account flight local
      (TryWord round turn None) t told y c.memory done account.used (record local { base = c.top round.bucket })
      (TryRow round turn (c.memory.bucket round.bucket) (c.memory.bucket round.bucket) []) tt
  went (TryWord round turn (Some first)) k y =
      quiet setup me p account flight local (TryWord round turn (Some first)) t told y c.memory done account.used
      (record local { base = c.top round.bucket }) (TryRow round turn first (c.memory.bucket round.bucket) []) tt
  went (TryRow round turn first row words) k y =
      let w = c.memory.bucket_row row (length words) in
      let now = words ++ w ∷ [] in
      let attempt : BucketTry = record { turn = turn; first = first; row = row; state = bucket_in_words setup now } in
      quiet setup me p account flight local (TryRow round turn first row words) t told y c.memory done account.used
      local (after_row_words setup me flight round turn first row now)
      (cond_both (ltb (length now) (bucket_row_words setup.shape.settings)) (TryRow round turn first row now)
      (after_row me flight round attempt) (λ ph. Knew local ph) (λ _. tt)
      (λ all. cond_both (is_applied me flight attempt.state) (answered_by me attempt.state row)
      (cond attempt.state.frozen (DirRoot round 1 None)
      (cond (leb turn 2) (TryAnnouncement round attempt []) Stuck)) (λ ph. Knew local ph)
      (λ has.
      let read = row_more setup me c account flight local h s round.bucket local.base row words
      k.in_round.there k.looks.old k.looks.row_is k.short k.words_are in
      let is = row_all setup me c account flight local h s round.bucket local.base now k.in_round.there
      k.looks.old read (omega (
        arith,
        width_is setup,
        ltb-false (length now) (bucket_row_words setup.shape.settings) all,
      )) in
      row_says (TryRow round turn first row words) y k.works local round.bucket local.base row
      (bucket_in_words setup now) k.in_round.there k.looks.old k.looks.row_is is k.in_round.for_it
      (leb-true flight.number (applied_of attempt.state me) has))
      (λ _. either (Knew local) attempt.state.frozen (DirRoot round 1 None)
      (cond (leb turn 2) (TryAnnouncement round attempt []) Stuck) tt
      (either (Knew local) (leb turn 2) (TryAnnouncement round attempt []) Stuck tt tt))))
  went (TryAnnouncement round attempt found) k y =
      let w = c.memory.announced (length found) in
      quiet setup me p account flight local (TryAnnouncement round attempt found) t told y c.memory done account.used
      local (cond (eqb w 0) (after_found setup round attempt (found ++ None ∷ []))
      (TryOp round attempt found (w - 1) []))
      (either (Knew local) (eqb w 0) (after_found setup round attempt (found ++ None ∷ []))
      (TryOp round attempt found (w - 1) []) (all_found round attempt (found ++ None ∷ [])) tt)
    where
      all_found : (round : Round) (attempt : BucketTry) (found : List (Option Op)) →
          Knew local (after_found setup round attempt found)
      all_found round attempt found = either (Knew local) (ltb (length found) (seats_of setup))
          (TryAnnouncement round attempt found) (TryStore round attempt found 0) tt tt
  went (TryOp round attempt found op words) k y =
      let now = words ++ c.memory.op op (length words) ∷ [] in
      let more = found ++ Some (op_in_words (length found) now) ∷ [] in
      quiet setup me p account flight local (TryOp round attempt found op words) t told y c.memory done account.used
      local (cond (ltb (length words + 1) OP_WORDS) (TryOp round attempt found op now)
      (after_found setup round attempt more))
      (either (Knew local) (ltb (length words + 1) OP_WORDS) (TryOp round attempt found op now)
      (after_found setup round attempt more) tt
      (either (Knew local) (ltb (length more) (seats_of setup)) (TryAnnouncement round attempt more)
      (TryStore round attempt more 0) tt tt))
  went (TryStore round attempt found i) k y =
      quiet setup me p account flight local (TryStore round attempt found i) t told y
      (common_after setup me account.used flight (TryStore round attempt found i) c).memory done account.used local
      (cond (ltb (i + 1) (bucket_row_words setup.shape.settings)) (TryStore round attempt found (i + 1))
      (TryExchange round attempt found))
      (either (Knew local) (ltb (i + 1) (bucket_row_words setup.shape.settings))
      (TryStore round attempt found (i + 1)) (TryExchange round attempt found) tt tt)
  went (TryExchange round attempt found) k y =
      went_exchange round attempt found k y (eqb (c.memory.bucket round.bucket) attempt.row) refl
  went (DirRoot round turn None) k y = quiet setup me p account flight local
      (DirRoot round turn None) t told y c.memory done account.used (record local { root = c.dir_top })
      (DirDepth round turn c.memory.root c.memory.root) tt
  went (DirRoot round turn (Some first)) k y =
      quiet setup me p account flight local (DirRoot round turn (Some first)) t told y c.memory done account.used
      (record local { root = c.dir_top }) (DirDepth round turn first c.memory.root) tt
  went (DirDepth round turn first root) k y =
      quiet setup me p account flight local (DirDepth round turn first root) t told y c.memory done account.used
      local (after_entries setup flight round turn first root (c.memory.directory root 0) [])
      (entries_loaded local round turn first root (c.memory.directory root 0) [])
  went (DirEntries round turn first root depth words) k y =
      let now = words ++ c.memory.directory root (2 + length words) ∷ [] in
      quiet setup me p account flight local (DirEntries round turn first root depth words) t told y c.memory done
      account.used local (after_entries setup flight round turn first root depth now)
      (entries_loaded local round turn first root depth now)
  went (DirAnnouncement round attempt found) k y =
      let w = c.memory.announced (length found) in
      quiet setup me p account flight local (DirAnnouncement round attempt found) t told y c.memory done account.used
      local (cond (eqb w 0) (after_dir_found setup round attempt (found ++ None ∷ []))
      (DirOp round attempt found (w - 1) []))
      (either (Knew local) (eqb w 0) (after_dir_found setup round attempt (found ++ None ∷ []))
      (DirOp round attempt found (w - 1) []) (found_by local round attempt (found ++ None ∷ [])) tt)
  went (DirOp round attempt found op words) k y =
      let now = words ++ c.memory.op op (length words) ∷ [] in
      let more = found ++ Some (op_in_words (length found) now) ∷ [] in
      quiet setup me p account flight local (DirOp round attempt found op words) t told y c.memory done account.used
      local (cond (ltb (length words + 1) OP_WORDS) (DirOp round attempt found op now)
      (after_dir_found setup round attempt more))
      (either (Knew local) (ltb (length words + 1) OP_WORDS) (DirOp round attempt found op now)
      (after_dir_found setup round attempt more) tt (found_by local round attempt more))
  went (DirWord round attempt found loaded bucket) k y =
      quiet setup me p account flight local (DirWord round attempt found loaded bucket) t told y c.memory done
      account.used (record local { base = c.top bucket })
      (DirRow round attempt found loaded bucket (c.memory.bucket bucket) []) tt
  went (DirRow round attempt found loaded bucket row words) k y =
      let now = words ++ c.memory.bucket_row row (length words) ∷ [] in
      let more = loaded ++ record { bucket = bucket; row = row; state = bucket_in_words setup now } ∷ [] in
      quiet setup me p account flight local (DirRow round attempt found loaded bucket row words) t told y c.memory
      done account.used local (after_loaded_words setup round attempt found loaded bucket row now)
      (either (Knew local) (ltb (length now) (bucket_row_words setup.shape.settings))
      (DirRow round attempt found loaded bucket row now) (after_loaded setup round attempt found more) tt
      (next_loaded local round attempt found more (next_bucket (rules_of setup) attempt.directory more found)))
  went (DirStore round attempt found loaded i) k y =
      let puts = directory_puts setup me account.used attempt found loaded in
      quiet setup me p account flight local (DirStore round attempt found loaded i) t told y
      (common_after setup me account.used flight (DirStore round attempt found loaded i) c).memory
      (λ x. write_done setup me account.used c.memory (put_in puts i).address (put_in puts i).word x
      (k.owns i k.short) ∙ done x) account.used local (after_puts round attempt found loaded (length puts) (i + 1))
      (either (Knew local) (ltb (i + 1) (length puts)) (DirStore round attempt found loaded (i + 1))
      (DirExchange round attempt found loaded) tt tt)
  went (DirExchange round attempt found loaded) k y =
      went_root round attempt found loaded k y (eqb c.memory.root attempt.root) refl
  went (LastWord root bucket) k y = quiet setup me p account flight local
      (LastWord root bucket) t told y c.memory done account.used (record local { at = bucket; base = c.top bucket })
      (LastRow (c.memory.bucket bucket) []) (record { suits = y.knows.suits })
  went (LastRow row words) k y =
      let w = c.memory.bucket_row row (length words) in
      let now = words ++ w ∷ [] in
      let state = bucket_in_words setup now in
      quiet setup me p account flight local (LastRow row words) t told y c.memory done account.used local
      (after_last_words setup me flight row now)
      (cond_both (ltb (length now) (bucket_row_words setup.shape.settings)) (LastRow row now)
      (cond (is_applied me flight state) (answered_by me state row) Stuck) (λ ph. Knew local ph)
      (λ _. record { suits = y.knows.suits })
      (λ all. cond_both (is_applied me flight state) (answered_by me state row) Stuck (λ ph. Knew local ph)
      (λ has.
      let read = row_more setup me c account flight local h s local.at local.base row words k.there k.old
      k.row_is k.short k.words_are in
      let is = row_all setup me c account flight local h s local.at local.base now k.there k.old read
      (omega (arith, width_is setup, ltb-false (length now) (bucket_row_words setup.shape.settings) all)) in
      row_says (LastRow row words) y k.works local local.at local.base row state k.there k.old k.row_is is
      y.knows.suits (leb-true flight.number (applied_of state me) has))
      (λ _. tt)))
  went (StoreDone reply at) k y = store_done setup me c h s t told done account flight local reply at y
  went Stuck k y = absurd k
