-- The exchange of the root that happens: what was stored is what is published, and the seat has its reply.
use Rattle.std.proofs.Common.{◌≡◌, ℕ, zero, suc, ◌+◌, ◌^◌, ◌<◌, ◌≤◌, Bool, true, false, cond, List, [], ◌∷◌, length, get_or, inr, refl, sym, ap, ◌∙◌, subst, arith}
use Rattle.std.specs.Prelude.{Option, Some, None, All, find}
use Rattle.std.specs.Option.{option_map, option_and_then}
use Rattle.std.proofs.lemmas.Bool.{cond_both, eqb-false}
use Rattle.step_counts.specs.declared.rows.SeatRows.{SeatRows}
use Rattle.plain_map.specs.declared.keys.Key.{Key}
use Rattle.plain_map.specs.declared.full.FullKind.TheVariants.{BucketRows, BucketWords, DirRows}
use Rattle.plain_map.specs.Calls.{key_in}
use Rattle.word_rows.specs.declared.addresses.Address.{Address}
use Rattle.word_rows.specs.declared.addresses.Address.TheVariants.{BucketRowWord, DirectoryWord}
use Rattle.word_rows.specs.BaseWords.{IsBase, base_of_word}
use Rattle.word_rows.specs.Memory.{Memory, read, put}
use Rattle.word_rows.proofs.BucketLemmas.{length-bucket}
use Rattle.word_rows.proofs.DirectoryLemmas.{base_read}
use Rattle.word_rows.proofs.MemoryLemmas.{put_same}
use Rattle.bucket_states.specs.declared.ops.Op.{Op}
use Rattle.bucket_states.specs.States.{BucketState, row_of_state}
use Rattle.bucket_states.specs.Laws.{IsGood, applied_of}
use Rattle.table_model.specs.declared.events.Put.{Put}
use Rattle.table_model.specs.declared.rounds.Round.{Round}
use Rattle.table_model.specs.Setup.{Setup, seats_of, rules_of, next_number}
use Rattle.table_model.specs.Directories.{DirectoryState, bucket_of}
use Rattle.table_model.specs.Leaves.{NewLeaf, is_in}
use Rattle.table_model.specs.DirectoryChange.{LoadedBucket, loaded_of, is_bucket}
use Rattle.table_model.specs.Phases.{DirectoryTry, DirExchange}
use Rattle.table_model.specs.SeatStates.{Account, Flight, InFlight}
use Rattle.table_model.specs.Stores.{row_puts, leaf_puts, bucket_words, directory_words, base_of_leaf, made_leaves, made_directory, directory_puts}
use Rattle.table_model.specs.Goes.{answered_by, answered_by_leaf, with_directory}
use Rattle.run_invariant.proofs.Numbers.{next_row, next_word, next_dir}
use Rattle.run_invariant.proofs.RowLemmas.{answered, bucket_row_sound}
use Rattle.run_laws.proofs.Puts.{EachPut, each_front, each_back, each_from}
use Rattle.run_invariant.proofs.Change.{numbers_free, Changes, IsChange, IsTry, leaf_at, no_leaf}
use Rattle.run_laws.proofs.PublishRoot
use Rattle.run_laws.proofs.PublishRoot.{Stored, grown}
use Rattle.run_invariant.proofs.Invariant.{most_leaves, AllDirFound, word_room, row_room, Common, Descends, Recalls, Local, Shared, Keeps, Goes, IsLoaded, Flies, bits, lead, last, width, row_no, word_no, dir_no}
use Rattle.list_laws.proofs.Options.{some_same}

-- the words of the i-th leaf, and the history with all of them
unfoldable pub leaf_words : Setup → List LoadedBucket → List NewLeaf → ℕ → List ℕ
leaf_words setup loaded leaves i = bucket_words setup (base_of_leaf loaded (get_or leaves i no_leaf)) (leaf_at leaves i)

-- the number of the row that it was made from
abbrev pub leaf_bases : List LoadedBucket → List NewLeaf → ℕ → Option ℕ
leaf_bases loaded leaves i = base_of_leaf loaded (get_or leaves i no_leaf)

-- all that is shared after the exchange of a directory try
abbrev pub grown_by : Setup → ℕ → SeatRows → DirectoryTry → List (Option Op) → List LoadedBucket → Common → Common
grown_by setup me used attempt found loaded c =
    grown setup me (made_leaves setup attempt found loaded) (made_directory setup me used attempt found loaded)
    (leaf_words setup loaded (made_leaves setup attempt found loaded))
    (leaf_bases loaded (made_leaves setup attempt found loaded))
    (next_number setup me BucketWords used) (next_number setup me BucketRows used) (next_number setup me DirRows used) c

-- the word is stored
abbrev pub IsStored : Memory → Put → Type 0
IsStored m put = read m put.address ≡ put.word

-- the words of a row that are stored
pub row_stored : (m : Memory) (at : ℕ → Address) (i : ℕ) (words : List ℕ) →
    EachPut (IsStored m) (row_puts at i words) → (j : ℕ) → j < length words → read m (at (i + j)) ≡ get_or words j 0
row_stored m at i [] e j h = absurd (omega (arith, h))
row_stored m at i (w ∷ ws) e zero h = (let same : i + 0 ≡ i = omega arith in ap (λ k. read m (at k)) same ∙ e.0)
row_stored m at i (w ∷ ws) e (suc j) h = (let same : i + suc j ≡ suc i + j = omega arith in
    ap (λ k. read m (at k)) same ∙ row_stored m at (suc i) ws e.1 j (omega (arith, h)))

-- the words of leaves that are stored: the bucket word and the row of each
pub leaves_stored : (setup : Setup) (m : Memory) (base : NewLeaf → Option ℕ) (b r : ℕ) (leaves : List NewLeaf) →
    EachPut (IsStored m) (leaf_puts setup base b r leaves) → (i : ℕ) → i < length leaves →
    (m.bucket (b + i) ≡ r + i) × ((k : ℕ) → k < width setup →
    m.bucket_row (r + i) k ≡ get_or (bucket_words setup (base (get_or leaves i no_leaf)) (leaf_at leaves i)) k 0)
unfolding width
leaves_stored setup m base b r [] e i h = absurd (omega (arith, h))
leaves_stored setup m base b r (leaf ∷ leaves) e zero h =
    let bb : b + 0 ≡ b = omega arith in let rr : r + 0 ≡ r = omega arith in
    let ws = bucket_words setup (base leaf) leaf.bucket in (
      ap m.bucket bb ∙ e.0 ∙ sym rr,
      λ k hk. (let kk : k ≡ 0 + k = omega arith in ap (λ x. m.bucket_row x k) rr ∙ ap (m.bucket_row r) kk
          ∙ row_stored m (BucketRowWord r) 0 ws (each_front (IsStored m) (row_puts (BucketRowWord r) 0 ws)
          (leaf_puts setup base (suc b) (suc r) leaves) e.1) k
          (omega (arith, hk, length-bucket setup.shape.settings (row_of_state (base leaf) leaf.bucket)))),
    )
leaves_stored setup m base b r (leaf ∷ leaves) e (suc i) h =
    let bb : b + suc i ≡ suc b + i = omega arith in let rr : r + suc i ≡ suc r + i = omega arith in
    let ws = bucket_words setup (base leaf) leaf.bucket in
    let rest = leaves_stored setup m base (suc b) (suc r) leaves
    (each_back (IsStored m) (row_puts (BucketRowWord r) 0 ws) (leaf_puts setup base (suc b) (suc r) leaves) e.1) i
    (omega (arith, h)) in
    (ap m.bucket bb ∙ rest.0 ∙ sym rr, λ k hk. ap (λ x. m.bucket_row x k) rr ∙ rest.1 k hk)

-- what is found in a list has what all have
pub all_found : {A : Type 0} (P : A → Type 0) (test : A → Bool) (xs : List A) (x : A) → All P xs →
    find test xs ≡ Some x → P x
all_found P test [] x a e = cc
all_found P test (y ∷ ys) x a e = go (test y) (λ f. all_found P test ys x (λ k d h. a (suc k) d (omega (arith, h))) f) e
  where
    go : (t : Bool) → (find test ys ≡ Some x → P x) → cond t (Some y) (find test ys) ≡ Some x → P x
    go true rest f = subst P (some_same f) (a 0 y (omega arith))
    go false rest f = rest f

-- the numbers of the rows that leaves were made from are small
pub based : (setup : Setup) (me : ℕ) (c : Common) (root : ℕ) (loaded : List LoadedBucket) → Shared setup c →
    All (IsLoaded setup c me root) loaded → (leaf : NewLeaf) → IsBase (base_of_leaf loaded leaf)
based setup me c root loaded s loads leaf = go leaf.from
  where
    go : (from : Option ℕ) → IsBase (option_and_then (λ f. option_map (λ (l : LoadedBucket). l.row)
        (loaded_of loaded f)) from)
    go None = tt
    go (Some f) = at (loaded_of loaded f) (λ l e. all_found (λ (x : LoadedBucket). x.row + 1 < 2 ^ 64) (is_bucket f)
        loaded l (λ i z hi. (let x = loads i z hi in
        omega (
          arith,
          x.row_is,
          s.rows.within (get_or loaded i z).bucket x.base x.sees.there x.sees.old,
          s.opened.shape.few.bucket_rows,
        ))) e)
      where
        at : (o : Option LoadedBucket) → ((l : LoadedBucket) → o ≡ Some l → l.row + 1 < 2 ^ 64) →
            IsBase (option_map (λ (l : LoadedBucket). l.row) o)
        at None g = tt
        at (Some l) g = g l refl

-- the key has a leaf, in which its op is, so there is a reply
leaf_answers : (setup : Setup) (c : Common) (me : ℕ) (used : SeatRows) (flight now : Flight) (local : Local) (row : ℕ)
    (leaves : List NewLeaf) → Flies setup c me used now.number → flight.number ≡ now.number →
    ((j : ℕ) → j < length leaves → IsGood (rules_of setup) (seats_of setup) (leaf_at leaves j)) →
    ((j : ℕ) → j < length leaves → is_in (rules_of setup) (key_in flight.call) (leaf_at leaves j) ≡ true →
    flight.number ≤ applied_of (leaf_at leaves j) me) →
    (i : ℕ) → i < length leaves → bits setup (leaf_at leaves i).depth (key_in flight.call) ≡ (leaf_at leaves i).prefix
    → Keeps setup c me used now local (answered_by_leaf (rules_of setup) me flight row leaves)
leaf_answers setup c me used flight now local row [] f same good has i h e = absurd (omega (arith, h))
leaf_answers setup c me used flight now local row (leaf ∷ leaves) f same good has zero h e =
    cond_both (is_in (rules_of setup) (key_in flight.call) leaf.bucket) (answered_by me leaf.bucket row)
    (answered_by_leaf (rules_of setup) me flight (row + 1) leaves) (λ ph. Keeps setup c me used now local ph)
    (λ x. answered setup c me used now local leaf.bucket row f (good 0 (omega arith))
    (omega (arith, same, has 0 (omega arith) x)))
    (λ x. absurd (eqb-false (bits setup leaf.bucket.depth (key_in flight.call)) leaf.bucket.prefix x e))
leaf_answers setup c me used flight now local row (leaf ∷ leaves) f same good has (suc i) h e =
    cond_both (is_in (rules_of setup) (key_in flight.call) leaf.bucket) (answered_by me leaf.bucket row)
    (answered_by_leaf (rules_of setup) me flight (row + 1) leaves) (λ ph. Keeps setup c me used now local ph)
    (λ x. answered setup c me used now local leaf.bucket row f (good 0 (omega arith))
    (omega (arith, same, has 0 (omega arith) x)))
    (λ x. leaf_answers setup c me used flight now local (row + 1) leaves f same
    (λ j n. good (suc j) (omega (arith, n))) (λ j n. has (suc j) (omega (arith, n))) i (omega (arith, h)) e)

module _ (changes : (setup : Setup) → Changes setup) (setup : Setup) (me : ℕ) (c : Common) (account : Account)
    (flight : Flight) (local : Local) (h : me < seats_of setup) (s : Shared setup c) (round : Round)
    (attempt : DirectoryTry) (found : List (Option Op)) (loaded : List LoadedBucket)
    (k : Keeps setup c me account.used flight local (DirExchange round attempt found loaded))
    (same : c.memory.root ≡ attempt.root) where
  -- the key of the call; the leaves and their numbers, the new directory and its number
  abbrev key : Key
  key = key_in flight.call

  -- the leaves that it makes
  abbrev leaves : List NewLeaf
  leaves = made_leaves setup attempt found loaded

  -- the number of their first bucket word, of their first row, and of the directory row
  abbrev fresh : ℕ
  fresh = next_number setup me BucketWords account.used

  abbrev row : ℕ
  row = next_number setup me BucketRows account.used

  abbrev dir : ℕ
  dir = next_number setup me DirRows account.used

  -- the new directory
  abbrev now : DirectoryState
  now = made_directory setup me account.used attempt found loaded

  -- the words of the leaves, and the rows that they were made from
  abbrev words : ℕ → List ℕ
  words = leaf_words setup loaded leaves

  abbrev bases : ℕ → Option ℕ
  bases = leaf_bases loaded leaves

  -- the directory that it loaded is the last one
  pub current : local.root ≡ c.dir_top
  current = s.directories.once local.root c.dir_top k.opens.looks.old (omega arith)
      (sym k.opens.looks.row_is ∙ sym same ∙ s.directories.root_is)

  -- the try has loaded all
  pub try : IsTry setup c me local.dir local.root flight.call round.bucket attempt found loaded
  try = record { opens = k.opens; all = k.all; entries = k.entries; loads = k.loads; whole = k.whole }

  -- its change is as the laws say
  pub few : length leaves ≤ most_leaves setup
  few = (changes setup).few c me local.dir local.root round.bucket flight.call attempt found loaded s try

  -- so its change is as the steps need it
  pub change : IsChange setup c c.dir_top found loaded leaves fresh now
  change = subst (λ r. IsChange setup c r found loaded leaves fresh now) current
      ((changes setup).change c me local.dir local.root round.bucket fresh flight.call attempt found loaded s try
      (numbers_free setup me c h s account.used (length leaves) k.works.flies.used_is
      (omega (arith, few, k.room.words, ap (λ (u : SeatRows). u.bucket_words) k.works.flies.used_is))))

  -- all its words are stored
  pub puts : EachPut (IsStored c.memory) (directory_puts setup me account.used attempt found loaded)
  puts = each_from (IsStored c.memory) (directory_puts setup me account.used attempt found loaded) k.so_far

  -- so the leaves and the directory are there
  pub stored : Stored setup c loaded leaves now words bases fresh row dir
  unfolding directory_puts leaf_words
  stored =
      let front = leaf_puts setup (base_of_leaf loaded) fresh row leaves in
      let ws = directory_words (Some attempt.root) now in
      let back = row_puts (DirectoryWord dir) 0 ws in
      let all = leaves_stored setup c.memory (base_of_leaf loaded) fresh row leaves
      (each_front (IsStored c.memory) front back puts) in
      let dirs = row_stored c.memory (DirectoryWord dir) 0 ws (each_back (IsStored c.memory) front back puts) in
      record {
        word_is = λ i n. (all i n).0;
        row_is = λ i j n m. (all i n).1 j m;
        sound = λ i n. (let x = change.sound i n in
            bucket_row_sound setup (leaf_at leaves i).prefix (leaf_at leaves i).depth
            (base_of_leaf loaded (get_or leaves i no_leaf)) (leaf_at leaves i)
            (based setup me c local.root loaded s k.loads (get_or leaves i no_leaf)) x.good x.small refl refl);
        from = λ i n. refl;
        depth_is = dirs 0 (omega arith);
        base_is = ap base_of_word (dirs 1 (omega arith)) ∙ base_read (Some attempt.root)
            ∙ ap (λ r. Some r) (k.opens.looks.row_is ∙ ap c.dir_row current);
        entries_are = λ i n. (let at : 2 + i ≡ 0 + suc (suc i) = omega arith in ap (c.memory.directory dir) at
            ∙ dirs (suc (suc i)) (omega (arith, n, change.long)));
      }

  -- its numbers are the seat's next ones
  pub fresh_is : fresh ≡ word_no setup me (c.used me).bucket_words
  fresh_is = next_word setup me account.used
      ∙ ap (λ (u : SeatRows). word_no setup me u.bucket_words) (sym k.works.flies.used_is)

  pub row_is : row ≡ row_no setup me (c.used me).bucket_rows
  row_is = next_row setup me account.used
      ∙ ap (λ (u : SeatRows). row_no setup me u.bucket_rows) (sym k.works.flies.used_is)

  pub dir_is : dir ≡ dir_no setup me (c.used me).directory_rows
  dir_is = next_dir setup me account.used
      ∙ ap (λ (u : SeatRows). dir_no setup me u.directory_rows) (sym k.works.flies.used_is)

  -- what it has found and loaded, by the last directory
  pub entries : AllDirFound setup c me c.dir_top found
  entries = subst (λ r. AllDirFound setup c me r found) current k.entries

  -- and loaded
  pub loads : All (IsLoaded setup c me c.dir_top) loaded
  loads = subst (λ r. All (IsLoaded setup c me r) loaded) current k.loads

  -- its ranges suffice
  room_words : (c.used me).bucket_words + length leaves ≤ word_room setup me
  room_words = omega (arith, few, k.room.words)

  room_rows : (c.used me).bucket_rows + length leaves ≤ row_room setup me
  room_rows = omega (arith, few, k.room.rows, k.in_round.two)

  -- all that is shared after the exchange
  abbrev d : Common
  d = grown_by setup me account.used attempt found loaded c

  -- its own bucket is replaced
  pub leads_now : lead setup c c.dir_top key ≡ round.bucket
  leads_now = ap (λ v. lead setup c v key) (sym current) ∙ k.opens.leads

  -- its own op was found
  op_now : Op
  op_now = record { seat = me; number = flight.number; call = flight.call }

  -- its own op was found
  pub own_found : get_or found me None ≡ Some (record { seat = me; number = flight.number; call = flight.call })
  own_found = (entries me (omega (arith, k.all, h))).own refl ∙ ap (λ (o : Op). Some o) k.works.op_is

  -- so its own bucket is replaced
  pub replaced : (i : ℕ) × (i < length leaves) × (bucket_of (rules_of setup) now key ≡ fresh + i)
  replaced = change.replaces me (record { seat = me; number = flight.number; call = flight.call }) h own_found
      (subst (λ b. applied_of (last c b) me < flight.number) (sym leads_now) k.froze.lacks)
      (λ j z hj e. (let l = loads j z hj in ap (λ (b : BucketState). b.frozen) l.state_is
      ∙ l.sees.seen me h k.opens.looks.tries.tried (k.froze.tried_at ∙ sym leads_now ∙ sym e) (inr refl)))

  -- the exchange that happens: the seat has its reply from the leaf of its key
  pub won : Goes setup me c d local (record {
    account = record account { used = with_directory account.used (length leaves) };
    stand = InFlight (record flight { steps = flight.steps + 1 })
        (answered_by_leaf (rules_of setup) me flight row leaves);
  })
  won = record {
    shared = PublishRoot.shared setup me c h s found loaded leaves now words bases fresh row dir fresh_is row_is
        dir_is change stored room_words room_rows k.room.dirs k.all entries loads;
    moves = PublishRoot.moves setup me c h s found loaded leaves now words bases fresh row dir fresh_is row_is dir_is
        change stored room_words room_rows k.room.dirs k.all entries loads;
    keeps = leaf_answers setup d me (with_directory account.used (length leaves)) flight
        (record flight { steps = flight.steps + 1 }) local row leaves
        (record {
          used_is = put_same c.used me (with_directory (c.used me) (length leaves))
              ∙ ap (λ (u : SeatRows). with_directory u (length leaves)) k.works.flies.used_is;
          some = k.works.flies.some;
          few = k.works.flies.few;
        }) refl
        (λ j n. (change.sound j n).good) (λ j n. change.holds me j
        (record { seat = me; number = flight.number; call = flight.call }) own_found n)
        replaced.0 replaced.1 (PublishRoot.for_new setup me c h s found loaded leaves now words bases fresh row dir
        fresh_is row_is dir_is change stored room_words room_rows k.room.dirs k.all entries loads key replaced.0
        replaced.1 replaced.2);
  }

  -- and what comes from what is still known
  pub descends : Descends setup c → Descends setup d
  descends = PublishRoot.descends setup me c h s found loaded leaves now words bases fresh row dir fresh_is row_is
      dir_is change stored room_words room_rows k.room.dirs k.all entries loads

  -- nothing that was published comes from elsewhere now
  pub recalls : Recalls c d
  recalls = PublishRoot.recalls setup me c h s found loaded leaves now words bases fresh row dir fresh_is row_is
      dir_is change stored room_words room_rows k.room.dirs k.all entries loads
