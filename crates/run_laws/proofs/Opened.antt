-- What is shared at the opening, and that all holds in it.
use Rattle.std.proofs.Common.{◌≡◌, ◌≢◌, ℕ, zero, suc, ◌+◌, ◌-◌, ◌*◌, ◌/◌, ◌^◌, ◌<◌, ◌≤◌, true, false, ltb, List, [], ◌++◌, length, get_or, replicate, refl, sym, ap, ◌∙◌, subst, arith, lt-ltb}
use Rattle.std.specs.Prelude.{None}
use Rattle.std.specs.List.{All}
use Rattle.std.proofs.Math.Pow.{pow_mono}
use Rattle.std.proofs.lemmas.Bool.{ltb-true, false≢true}
use Rattle.std.proofs.lemmas.List.{length-replicate, get_or-replicate}
use Rattle.step_counts.specs.StepCounts.{directory_row_words}
use Rattle.hash_bits.specs.Prefix.{first_bits}
use Rattle.plain_map.specs.declared.full.FullKind.TheVariants.{BucketRows, BucketWords, DirRows}
use Rattle.plain_map.specs.declared.keys.Key.{Key}
use Rattle.plain_map.specs.declared.rules.Rules.{Rules}
use Rattle.plain_map.specs.declared.calls.Call.TheVariants.{Lookup}
use Rattle.plain_map.specs.Updates.{IsSmallPair}
use Rattle.plain_map.specs.Room.{no_rows}
use Rattle.word_rows.specs.Places.{IsAddress, word_count}
use Rattle.word_rows.specs.BaseWords.{base_of_word}
use Rattle.word_rows.specs.Memory.{Memory, blank}
use Rattle.word_rows.proofs.DirectoryLemmas.{base_read}
use Rattle.word_rows.specs.declared.addresses.Address.TheVariants.{Root, Announcement, Done, BucketWord, BucketRowWord, DirectoryWord}
use Rattle.word_rows.proofs.MemoryLemmas.{shows_blank}
use Rattle.word_rows.proofs.Ranges.{range_after_opening}
use Rattle.bucket_states.specs.Laws.{IsGood}
use Rattle.table_model.specs.declared.events.Event.{Event}
use Rattle.table_model.specs.declared.events.Put.{Put}
use Rattle.table_model.specs.Setup.{Setup, IsSetup, seats_of, rules_of}
use Rattle.table_model.specs.Directories.{DirectoryState}
use Rattle.table_model.specs.Leaves.{NewLeaf}
use Rattle.table_model.specs.DirectoryLaws.{StandsIn}
use Rattle.table_model.specs.Opening.{opening_directory}
use Rattle.table_model.specs.OpeningLaws.{CanOpen, IsOpening}
use Rattle.table_model.specs.SeatStates.{SeatState, fresh_seat}
use Rattle.table_model.specs.Stores.{leaf_puts, row_puts, bucket_words, directory_words}
use Rattle.table_model.specs.Worlds.{World, IsRun, world_after, first_leaves, opening_words, opening_world}
use Rattle.table_model.specs.Promises.{NeverStuck}
use Rattle.change_laws.proofs.Bits.{hash_in, prefix_of-hash}
use Rattle.hash_bits.proofs.FewerBits.{first_bits-fewer}
use Rattle.change_laws.proofs.Splits.{Apart as LeavesApart}
use Rattle.change_laws.proofs.Directories.{IsPlaceOf, hash-of, named-some, now-shallow, now-long, now-entry}
use Rattle.change_laws.proofs.Openings.{opening-covers, opening-apart}
use Rattle.change_laws.proofs.FirstLeaves.{first_can_open, first_opens}
use Rattle.bucket_states.proofs.GoodLemmas.{stays_good}
use Rattle.bucket_states.proofs.WalkLemmas.{same_prefix_after, covers, only_announced}
use Rattle.bucket_states.proofs.ValueLemmas.{stays_small}
use Rattle.run_laws.proofs.Changes.{changes_from_laws}
use Rattle.run_invariant.proofs.Invariant.{Common, Local, Shared, KeepsStand, Descends, Names, Rows, Directories, Leads, Stands, bits, width, row_no, word_no, dir_no}
use Rattle.run_invariant.proofs.RowLemmas.{BucketLaws, bucket_row_sound}
use Rattle.run_invariant.proofs.Loads.{bits_below, first_place}
use Rattle.run_laws.proofs.Puts.{Apart, EachPut, each_append, each_front, each_back, apart_append, row_each, row_apart, leaf_from, leaves_apart, row_bounded, leaves_bounded}
use Rattle.run_laws.proofs.Won.{IsStored, row_stored, leaves_stored}
use Rattle.run_invariant.proofs.Change.{leaf_at, no_leaf}
use Rattle.run_laws.proofs.Induction.{Holds, run_holds, never_stuck}
use Rattle.run_laws.proofs.Stored.{after_puts, kept_word, all_stored, shows_puts}
use Rattle.plain_map.specs.Keys.{no_key}
use Rattle.list_laws.proofs.Places.{at_index}
use Rattle.word_rows.proofs.OpeningNumbers.{words_there, rows_there, directory_there}

-- the numbers of the seats come after those of the opening
word_after : (setup : Setup) (p j : ℕ) → 2 ^ setup.shape.settings.depth ≤ word_no setup p j
unfolding word_no
word_after setup p j = omega (arith, range_after_opening setup.shape BucketWords p)

row_after : (setup : Setup) (p j : ℕ) → 2 ^ setup.shape.settings.depth ≤ row_no setup p j
unfolding row_no
row_after setup p j = omega (arith, range_after_opening setup.shape BucketRows p)

dir_after : (setup : Setup) (p j : ℕ) → 0 < dir_no setup p j
unfolding dir_no
dir_after setup p j = omega (arith, range_after_opening setup.shape DirRows p)

-- the laws of the bucket change
pub bucket_laws : BucketLaws
bucket_laws = record {
  same_prefix_after = same_prefix_after;
  stays_good = stays_good;
  stays_small = stays_small;
  covers = covers;
  only_announced = only_announced;
}

-- no seat has answered or published anything, there is one directory row, and of each first leaf one row
pub record HoldsFresh (setup : Setup) (w : World) : Type 0 where
  pub holds : Holds setup w
  pub done : (p : ℕ) → holds.common.memory.done p ≡ 0
  pub none : (p : ℕ) → holds.common.used p ≡ no_rows
  pub first : holds.common.dir_top ≡ 0
  pub first_leaf : (b : ℕ) → holds.common.named b ≡ true → (b < length (first_leaves setup))
      × (holds.common.top b ≡ 0) × (holds.common.state_at b 0 ≡ leaf_at (first_leaves setup) b)
  pub first_dir : holds.common.dir_at 0 ≡ opening_directory setup.shape.settings.start (first_leaves setup)

module _ (setup : Setup) (s : IsSetup setup) where
  -- the settings of the table, the leaves of its opening, and its first directory
  abbrev rules : Rules
  rules = rules_of setup

  abbrev start : ℕ
  start = setup.shape.settings.start

  -- its leaves
  abbrev leaves : List NewLeaf
  leaves = first_leaves setup

  abbrev before : DirectoryState
  before = record { depth = start; entries = replicate (2 ^ start) 0 }

  -- its first directory
  abbrev dir : DirectoryState
  dir = opening_directory start leaves

  -- the first pairs can be opened, so the leaves are as the laws say
  abbrev can : CanOpen rules start setup.first
  can = first_can_open setup s

  -- and are as the laws say
  abbrev opens : IsOpening rules (seats_of setup) start setup.first leaves
  opens = first_opens setup s

  -- no two leaves have a common hash
  parted : LeavesApart rules leaves
  parted = opening-apart rules (seats_of setup) start setup.first can

  -- the values and the bytes of the first pairs are small
  small_pairs : All IsSmallPair setup.first
  small_pairs = λ k d lt. (s.pairs k d lt).small

  -- a leaf is a good bucket
  good : (i : ℕ) → i < length leaves → IsGood rules (seats_of setup) (leaf_at leaves i)
  good i lt = (opens.good i no_leaf lt).0

  -- there are no more leaves than places
  few : (i : ℕ) → i < length leaves → i < 2 ^ setup.shape.settings.depth
  few i lt = omega (arith, lt, opens.few)

  -- ---- the directory

  -- the first directory is one
  shallow : dir.depth ≤ setup.shape.settings.depth
  shallow = now-shallow rules can.range before can.within 0 leaves parted.shallow

  long : length dir.entries ≡ 2 ^ dir.depth
  long = now-long rules can.range before can.within 0 leaves parted.shallow

  -- the bucket at a place
  abbrev entry : ℕ → ℕ
  entry place = get_or dir.entries place 0

  -- at each place is a leaf
  entry_leaf : (place : ℕ) → place < 2 ^ dir.depth → entry place < length leaves
  entry_leaf place lt = go (place * 2 ^ (64 - dir.depth)) (hash-of dir.depth place (omega (arith, shallow)) lt)
    where
      go : (h : ℕ) → IsPlaceOf dir.depth place h → entry place < length leaves
      go h at =
          let is = now-entry rules can.range before can.within 0 leaves parted.shallow h 0 at.small in
          let n = named-some h 0 (get_or before.entries (first_bits h before.depth) 0) leaves
          (omega (arith, opening-covers rules (seats_of setup) start setup.first can h at.small)) in
          let same : entry place ≡ 0 + n.i = ap entry (sym at.is) ∙ is ∙ n.is in
          omega (arith, same, n.within)

  -- each leaf stands in it
  stands : (i : ℕ) → i < length leaves → Stands dir i (leaf_at leaves i).prefix (leaf_at leaves i).depth
  stands i lt = (let w = at_index (λ (leaf : NewLeaf). StandsIn dir i leaf.bucket) leaves i no_leaf lt (opens.stand i)
      in record { shallow = w.shallow; places = w.places })

  -- ---- the stores

  -- the words of the leaves, those of the directory, and all stores of the opening
  abbrev front : List Put
  front = leaf_puts setup (λ _. None) 0 0 leaves

  abbrev dir_words : List ℕ
  dir_words = directory_words None dir

  -- all stores of the opening
  abbrev puts : List Put
  puts = front ++ row_puts (DirectoryWord 0) 0 dir_words

  -- no word is stored twice
  puts_apart : Apart puts
  puts_apart =
      apart_append front (row_puts (DirectoryWord 0) 0 dir_words) (leaves_apart setup (λ _. None) 0 0 leaves)
      (row_apart (DirectoryWord 0) (λ j k e. same_place j k e) 0 dir_words)
      (leaf_from (λ put. EachPut (λ other. put.address ≢ other.address) (row_puts (DirectoryWord 0) 0 dir_words))
      setup (λ _. None) 0 0 leaves
      (λ k w h. row_each (λ other. BucketWord k ≢ other.address) (DirectoryWord 0) 0 dir_words (λ j w' e. cc))
      (λ k i w h. row_each (λ other. BucketRowWord k i ≢ other.address) (DirectoryWord 0) 0 dir_words (λ j w' e. cc)))
    where
      same_place : (i j : ℕ) → DirectoryWord 0 i ≡ DirectoryWord 0 j → i ≡ j
      same_place i j e = cc

  -- each is a word of the table
  puts_within : EachPut (λ put. IsAddress setup.shape put.address) puts
  puts_within =
      let up : 2 ^ dir.depth ≤ 2 ^ setup.shape.settings.depth = pow_mono shallow in
      each_append (λ put. IsAddress setup.shape put.address) front (row_puts (DirectoryWord 0) 0 dir_words)
      (leaves_bounded (λ put. IsAddress setup.shape put.address) setup (λ _. None) 0 0 leaves
      (λ i w n. omega (arith, few i n, words_there setup.shape))
      (λ i j w n m. (omega (arith, few i n, rows_there setup.shape), m)))
      (row_bounded (λ put. IsAddress setup.shape put.address) (DirectoryWord 0) 0
      (directory_row_words setup.shape.settings) dir_words (omega (arith, long, up))
      (λ j w n. (directory_there setup.shape, n)))

  -- the memory at the opening
  abbrev memory : Memory
  memory = after_puts blank puts

  -- each word is there
  stored : EachPut (IsStored memory) puts
  stored = all_stored blank puts puts_apart

  -- the words of a leaf
  leaf_words : (i : ℕ) → i < length leaves → (memory.bucket (0 + i) ≡ 0 + i)
      × ((k : ℕ) → k < width setup → memory.bucket_row (0 + i) k ≡ get_or (bucket_words setup None (leaf_at leaves i))
      k 0)
  leaf_words i lt = leaves_stored setup memory (λ _. None) 0 0 leaves
      (each_front (IsStored memory) front (row_puts (DirectoryWord 0) 0 dir_words) stored) i lt

  -- the words of the directory row
  dir_stored : (j : ℕ) → j < length dir_words → memory.directory 0 (0 + j) ≡ get_or dir_words j 0
  dir_stored j lt = row_stored memory (DirectoryWord 0) 0 dir_words
      (each_back (IsStored memory) front (row_puts (DirectoryWord 0) 0 dir_words) stored) j lt

  -- nothing else is stored: the root is the first row, and no seat has announced or answered anything
  root_none : memory.root ≡ 0
  root_none = kept_word blank Root puts
      (each_append (λ other. Root ≢ other.address) front (row_puts (DirectoryWord 0) 0 dir_words)
      (leaf_from (λ other. Root ≢ other.address) setup (λ _. None) 0 0 leaves (λ k w h e. cc) (λ k j w h e. cc))
      (row_each (λ other. Root ≢ other.address) (DirectoryWord 0) 0 dir_words (λ j w e. cc)))

  -- no seat has announced anything
  none_announced : (p : ℕ) → memory.announced p ≡ 0
  none_announced p = kept_word blank (Announcement p) puts
      (each_append (λ other. Announcement p ≢ other.address) front (row_puts (DirectoryWord 0) 0 dir_words)
      (leaf_from (λ other. Announcement p ≢ other.address) setup (λ _. None) 0 0 leaves (λ k w h e. cc)
      (λ k j w h e. cc)) (row_each (λ other. Announcement p ≢ other.address) (DirectoryWord 0) 0 dir_words
      (λ j w e. cc)))

  -- or answered anything
  none_done : (p : ℕ) → memory.done p ≡ 0
  none_done p = kept_word blank (Done p) puts
      (each_append (λ other. Done p ≢ other.address) front (row_puts (DirectoryWord 0) 0 dir_words)
      (leaf_from (λ other. Done p ≢ other.address) setup (λ _. None) 0 0 leaves (λ k w h e. cc) (λ k j w h e. cc))
      (row_each (λ other. Done p ≢ other.address) (DirectoryWord 0) 0 dir_words (λ j w e. cc)))

  -- ---- the history

  -- all that is shared: each leaf is a bucket with one row, there is one directory row, and no seat is in a try
  abbrev c : Common
  c = record {
    memory = memory;
    dir_top = 0;
    dir_row = λ v. 0;
    dir_base = λ v. None;
    dir_at = λ v. dir;
    named = λ b. ltb b (length leaves);
    pre = λ b. (leaf_at leaves b).prefix;
    deep = λ b. (leaf_at leaves b).depth;
    born = λ b. 0;
    from = λ b. 0;
    top = λ b. 0;
    row_at = λ b i. b;
    base_at = λ b i. None;
    words_at = λ b i. bucket_words setup None (leaf_at leaves b);
    state_at = λ b i. leaf_at leaves b;
    used = λ p. no_rows;
    op_at = λ p j. record { seat = p; number = 0; call = Lookup no_key };
    op_words = λ p j. [];
    rooted = λ p. false;
    first_dir = λ p. 0;
    tried = λ p. false;
    tried_at = λ p. 0;
    since = λ p. 0;
    dir_tried = λ p. false;
    dir_since = λ p. 0;
  }

  -- the buckets are the leaves
  is_leaf : (b : ℕ) → ltb b (length leaves) ≡ true → b < length leaves
  is_leaf b e = ltb-true b (length leaves) e

  -- the bucket rows
  rows : Rows setup memory.bucket memory.bucket_row c.named c.pre c.deep c.top c.row_at c.base_at c.words_at
      c.state_at c.used
  rows = record {
    word_is = λ b n. (let zero_ : 0 + b ≡ b = omega arith in ap memory.bucket (sym zero_)
        ∙ (leaf_words b (is_leaf b n)).0 ∙ zero_);
    inside = λ b n. omega (arith, few b (is_leaf b n), words_there setup.shape);
    fresh_word = λ b p j n h le lt e. omega (arith, e, few b (is_leaf b n), word_after setup p j);
    within = λ b i n le. omega (arith, few b (is_leaf b n), rows_there setup.shape);
    fresh = λ b i p j n le h lo hi e. omega (arith, e, few b (is_leaf b n), row_after setup p j);
    once = λ a b i j n m hi hj e. (e, omega (arith, hi, hj));
    rows_are = λ b i k n le lt. (let zero_ : 0 + b ≡ b = omega arith in ap (λ x. memory.bucket_row x k) (sym zero_)
        ∙ (leaf_words b (is_leaf b n)).1 k lt);
    sound = λ b i n le. bucket_row_sound setup (leaf_at leaves b).prefix (leaf_at leaves b).depth None
        (leaf_at leaves b) tt (good b (is_leaf b n)) (opens.small small_pairs b no_leaf (is_leaf b n)) refl refl;
    open_ = λ b i n lt. absurd (omega (arith, lt));
    rises = λ b i p n le. omega arith;
  }

  -- the directory row
  directories : Directories setup memory.root memory.directory 0 c.dir_row c.dir_at c.used
  directories = record {
    root_is = root_none;
    within = λ v le. directory_there setup.shape;
    fresh = λ v p j le h lo hi e. omega (arith, e, dir_after setup p j);
    once = λ u v lu lv e. omega (arith, lu, lv);
    shallow = λ v le. shallow;
    depth_is = λ v le. dir_stored 0 (omega arith);
    long = λ v le. long;
    entries_are = λ v i le lt. (let at : 2 + i ≡ 0 + suc (suc i) = omega arith in ap (memory.directory 0) at
        ∙ dir_stored (suc (suc i)) (omega (arith, lt, long)));
  }

  -- at each place a leaf stands
  stands_at : (place : ℕ) → place < 2 ^ dir.depth →
      Stands dir (entry place) (leaf_at leaves (entry place)).prefix (leaf_at leaves (entry place)).depth
  stands_at place lt = stands (entry place) (entry_leaf place lt)

  -- where the directory leads
  leads : Leads setup 0 c.dir_at c.named c.pre c.deep c.born c.top c.state_at
  leads = record {
    there = λ v key le. lt-ltb _ _ (entry_leaf (bits setup dir.depth key) (bits_below setup dir.depth key shallow));
    for_it = λ v key le. for_it key;
    every = λ v place le lt. lt-ltb _ _ (entry_leaf place lt);
    stands = λ v place le lt. stands_at place lt;
    born_by = λ v key le. omega arith;
    step = λ v key lt. absurd (omega (arith, lt));
  }
    where
      for_it : (key : Key) → bits setup (leaf_at leaves (entry (bits setup dir.depth key))).depth
          key ≡ (leaf_at leaves (entry (bits setup dir.depth key))).prefix
      for_it key =
          let place = bits setup dir.depth key in
          let inside = bits_below setup dir.depth key shallow in
          let stand = stands_at place inside in
          let at = (stand.places place inside).0 refl in
          let deep = (leaf_at leaves (entry place)).depth in
          let is = prefix_of-hash rules dir.depth key in
          prefix_of-hash rules deep key ∙ sym (first_bits-fewer (hash_in rules key) dir.depth deep stand.shallow
          (omega (arith, shallow))) ∙ ap (λ n. n / 2 ^ (dir.depth - deep)) (sym is) ∙ at

  -- all that is shared holds
  shared : Shared setup c
  shared = record {
    opened = s;
    rows = rows;
    directories = directories;
    leads = leads;
    calls = record {
      none = λ p h e. refl;
      posted = λ p h e. absurd (e (none_announced p));
      ops_are = λ p j i h lt. absurd (omega (arith, lt));
      sound = λ p j h lt. absurd (omega (arith, lt));
      few = λ p h. omega arith;
    };
    helped = record {
      announced = λ p h e. absurd (false≢true e);
      there = λ p h e. absurd (false≢true e);
      begun = λ p h e. absurd (false≢true e);
      for_it = λ p h e. absurd (false≢true e);
      helped = λ p i h e. absurd (false≢true e);
    };
    carried = record {
      announced = λ p h e. absurd (false≢true e);
      begun = λ p h e. absurd (false≢true e);
      carried = λ p v h e. absurd (false≢true e);
      dir_begun = λ p h e. absurd (false≢true e);
      frozen = λ p h e. absurd (false≢true e);
      lacks = λ p h e. absurd (false≢true e);
      led = λ p h e. absurd (false≢true e);
      replaced = λ p v h e. absurd (false≢true e);
    };
  }

  -- all buckets are of the first directory, and no row was made from another
  descent : Descends setup c
  descent = record {
    dir_says = λ v le. ap base_of_word (dir_stored 1 (omega arith)) ∙ base_read None;
    dir_first = refl;
    dir_bases = λ v lt. absurd (omega (arith, lt));
    bases = λ b i n lt. absurd (omega (arith, lt));
    opening = λ b n e. refl;
    starts = λ b n. opens.deep b no_leaf (is_leaf b n);
    born_within = λ b n. omega arith;
    entries = λ v place le lt. omega arith;
    present = λ b n. names b (is_leaf b n);
    newcomers = λ v place lt. absurd (omega (arith, lt));
    there = λ b v n e. absurd (omega (arith, e));
    comes = λ b v n e. absurd (omega (arith, e));
    stood = λ b v n e. absurd (omega (arith, e));
    gone = λ b v u place n e. absurd (omega (arith, e));
    parent_leads = λ v key lt. absurd (omega (arith, lt));
  }
    where
      names : (i : ℕ) → i < length leaves → Names dir i
      names i lt = (let w = stands i lt in
          let p = first_place (leaf_at leaves i).prefix (leaf_at leaves i).depth dir.depth w.shallow (good i lt).below
          in (p.0, p.1, (w.places p.0 p.1).1 p.2))

  -- no seat has loaded anything
  abbrev nowhere : Local
  nowhere = record { dir = 0; root = 0; at = 0; base = 0 }

  -- so all holds at the opening, and no seat has answered or published anything
  pub opening_fresh : HoldsFresh setup (opening_world setup)
  unfolding opening_words
  opening_fresh = record {
    done = λ p. none_done p;
    none = λ p. refl;
    first = refl;
    first_leaf = λ b n. (ltb-true b (length leaves) n, refl, refl);
    first_dir = refl;
    holds = record {
      common = c;
      locals = λ p. nowhere;
      follows = record {
        shows = shows_puts setup.shape puts (replicate (word_count setup.shape) 0) blank puts_within
            (shows_blank setup.shape);
        long = length-replicate (seats_of setup) fresh_seat;
        shared = shared;
        descent = descent;
        seats = λ p h. subst (λ (x : SeatState). KeepsStand setup c p x.account.used nowhere x.stand)
            (sym (get_or-replicate (seats_of setup) p fresh_seat fresh_seat h)) (record { used_is = refl });
      };
    };
  }

  -- so all holds at the opening
  pub opening_holds : Holds setup (opening_world setup)
  opening_holds = opening_fresh.holds

-- so all holds after every run
pub all_holds : (setup : Setup) (events : List Event) → (run : IsRun setup events) →
    Holds setup (world_after setup events)
all_holds setup events run = run_holds bucket_laws changes_from_laws setup events (opening_world setup)
    (opening_holds setup run.opened) run.follow

-- and no update is stuck
pub never_is_stuck : NeverStuck
never_is_stuck setup events seat flight phase run update =
    never_stuck setup (world_after setup events) seat flight phase (all_holds setup events run) update.seat_is
    update.stand
