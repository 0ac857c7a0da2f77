-- What holds of a seat still holds after an event of another seat.
use Rattle.std.proofs.Common.{◌≡◌, ◌≢◌, ℕ, ◌-◌, ◌<◌, ◌≤◌, true, List, length, get_or, take, inl, inr, refl, sym, ap, ◌∙◌, subst, arith}
use Rattle.std.specs.Prelude.{Option, All}
use Rattle.step_counts.specs.declared.rows.SeatRows.{SeatRows}
use Rattle.plain_map.specs.declared.keys.Key.{Key}
use Rattle.plain_map.specs.Calls.{key_in}
use Rattle.word_rows.specs.declared.addresses.Address.TheVariants.{OpWord, BucketRowWord}
use Rattle.word_rows.specs.Memory.{read}
use Rattle.bucket_states.specs.declared.ops.Op.{Op}
use Rattle.bucket_states.specs.Laws.{applied_of}
use Rattle.table_model.specs.Setup.{Setup, seats_of, rules_of}
use Rattle.table_model.specs.Directories.{bucket_of, DirectoryState}
use Rattle.table_model.specs.declared.events.Put.{Put}
use Rattle.step_counts.specs.declared.TheConstants.{OP_WORDS}
use Rattle.table_model.specs.declared.rounds.Aim.{Aim}
use Rattle.table_model.specs.declared.rounds.Aim.TheVariants.{ForLookup, ForFirstRound, ForSecondRound, ForLastLook}
use Rattle.table_model.specs.declared.rounds.Round.{Round}
use Rattle.table_model.specs.DirectoryChange.{LoadedBucket}
use Rattle.table_model.specs.Stores.{directory_puts}
use Rattle.table_model.specs.Phases.{BucketTry, DirectoryTry, Phase, SeeDone, StoreOp, Announce, FindRoot, FindDepth, FindEntry, LookWord, LookCount, LookItems, TryWord, TryRow, TryAnnouncement, TryOp, TryStore, TryExchange, DirRoot, DirDepth, DirEntries, DirAnnouncement, DirOp, DirWord, DirRow, DirStore, DirExchange, LastWord, LastRow, StoreDone}
use Rattle.table_model.specs.SeatStates.{Flight, Stand, Idle, InFlight}
use Rattle.run_invariant.proofs.Invariant.{put_in, Common, Local, Shared, Keeps, KeepsAim, KnowsBefore, KnowsAt, KeepsStand, Moves, Works, Room, Roots, InRound, Flies, Begins, Tries, Looks, Opens, AllFound, Reads, Finds, Froze, DirTries, DirLooks, DirOpens, AllDirFound, DirReads, Sees, IsLoaded, IsOwn, OpStored, RowStored, width, lead, last, op_no, row_no, op_room, row_room}

module _ (setup : Setup) (me : ℕ) (c d : Common) (m : Moves setup me c d) (s : Shared setup c) (q : ℕ)
    (used : SeatRows) (flight : Flight) (local : Local) (n : q ≢ me) (h : q < seats_of setup) where
  -- the key of the seat's call
  abbrev key : Key
  key = key_in flight.call

  -- the seat itself: what it has published, its room, its op
  flies : Flies setup c q used flight.number → Flies setup d q used flight.number
  flies k = grind (arith, m.used q n)

  room : (spent : ℕ) → Room setup c q spent → Room setup d q spent
  room spent k = grind (arith, m.used q n)

  begins : Begins setup c q used flight.number flight.call → Begins setup d q used flight.number flight.call
  begins k = grind (arith, m.used q n)

  works : Works setup c q used flight.number flight.call → Works setup d q used flight.number flight.call
  works k = grind (arith, m.used q n, m.calls q ((c.used q).op_rows - 1))

  -- the directories that there were lead as they did
  leads_same : (v : ℕ) → v ≤ c.dir_top → (k : Key) → lead setup d v k ≡ lead setup c v k
  leads_same v o k = ap (λ x. bucket_of (rules_of setup) x k) (m.dirs v o).1

  -- the directory by which it first found a bucket was there, and is where it was
  roots_old : (first : ℕ) → Roots setup c q first → c.first_dir q ≤ c.dir_top
  roots_old first k = s.carried.begun q h k.rooted

  roots : (first : ℕ) → Roots setup c q first → Roots setup d q first
  roots first k = (let old = roots_old first k in grind (arith, old, m.roots q n, m.dirs (c.first_dir q)))

  -- its round
  in_round : (round : Round) → InRound setup c q flight.number flight.call local.dir round →
      InRound setup d q flight.number flight.call local.dir round
  in_round round k = record {
    roots = roots round.first k.roots;
    one = k.one;
    two = k.two;
    old = omega (arith, k.old, m.dir_up);
    from = grind (arith, k.from, m.roots q n);
    led = leads_same local.dir k.old key ∙ k.led;
    there = (m.named_up round.bucket k.there).0;
    for_it = grind (arith, k.for_it, k.there, m.named_up round.bucket);
    same = λ t. k.same t ∙ sym (m.roots q n).1;
    second = λ t. elim (k.second t) [
      | inl a ↦ inl (omega (arith, a, m.last_up round.bucket q k.there))
      | inr a ↦ inr (λ e. a (e ∙ ap (λ v. lead setup d v key) (m.roots q n).1
          ∙ leads_same (c.first_dir q) (roots_old round.first k.roots) key))
    ];
  }

  -- its bucket tries: the rows and the ops that it has loaded
  tries : (bucket first : ℕ) → c.named bucket ≡ true → Tries setup c q bucket first → Tries setup d q bucket first
  tries bucket first a k = (let old = s.helped.begun q h k.tried in
      grind (arith, old, m.tries q n, m.rows bucket (c.since q)))

  looks : (bucket base turn first row : ℕ) → c.named bucket ≡ true → Looks setup c q bucket base turn first row →
      Looks setup d q bucket base turn first row
  looks bucket base turn first row a k = (let t = tries bucket first a k.tries in
      grind (arith, t, m.tries q n, m.rows bucket base, m.named_up bucket))

  opens : (bucket base : ℕ) (attempt : BucketTry) → c.named bucket ≡ true →
      Opens setup c q flight.number bucket base attempt → Opens setup d q flight.number bucket base attempt
  opens bucket base attempt a k = grind (arith, looks, m.rows bucket base)

  entries : (bucket base : ℕ) (found : List (Option Op)) → c.named bucket ≡ true → base ≤ c.top bucket →
      AllFound setup c q bucket base found → AllFound setup d q bucket base found
  entries bucket base found a o k = grind (arith, m.used q n, m.ops_up, m.calls, m.late, m.named_up bucket)

  reads : (bucket base p op : ℕ) (words : List ℕ) → c.named bucket ≡ true → base ≤ c.top bucket →
      Reads setup c q bucket base p op words → Reads setup d q bucket base p op words
  reads bucket base p op words a o k = grind (arith, m.used q n, m.ops_up p, m.calls p k.before, m.late p)

  -- the directory row by which it finds
  finds : (root : ℕ) → Finds setup c local.dir root → Finds setup d local.dir root
  finds root k = grind (arith, m.dir_up, m.dirs local.dir)

  -- the bucket of its round stays frozen
  froze : (bucket : ℕ) → c.named bucket ≡ true → Froze setup c q flight.number bucket →
      Froze setup d q flight.number bucket
  froze bucket a k = grind (arith, m.frozen bucket, m.rows bucket (c.top bucket), m.tries q n)

  -- its directory tries: the directory row, the ops and the buckets that it has loaded
  dir_tries : (first : ℕ) → DirTries setup c q first → DirTries setup d q first
  dir_tries first k = (let old = s.carried.dir_begun q h k.tried in
      grind (arith, old, m.dir_tries q n, m.dirs (c.dir_since q)))

  dir_looks : (root turn first row : ℕ) → DirLooks setup c q local.dir root turn first row →
      DirLooks setup d q local.dir root turn first row
  dir_looks root turn first row k = (let t = dir_tries first k.tries in
      grind (arith, t, m.dir_tries q n, m.dirs root, m.dir_up))

  dir_opens : (bucket : ℕ) (attempt : DirectoryTry) →
      DirOpens setup c q local.dir local.root flight.call bucket attempt →
      DirOpens setup d q local.dir local.root flight.call bucket attempt
  dir_opens bucket attempt k = record {
    looks = dir_looks local.root attempt.turn attempt.first attempt.root k.looks;
    directory_is = k.directory_is ∙ sym (m.dirs local.root k.looks.old).1;
    leads = leads_same local.root k.looks.old key ∙ k.leads;
  }

  dir_entries : (found : List (Option Op)) → local.root ≤ c.dir_top → AllDirFound setup c q local.root found →
      AllDirFound setup d q local.root found
  dir_entries found o k = grind (arith, m.used q n, m.ops_up, m.calls, m.late_root)

  dir_reads : (p op : ℕ) (words : List ℕ) → local.root ≤ c.dir_top → DirReads setup c q local.root p op words →
      DirReads setup d q local.root p op words
  dir_reads p op words o k = grind (arith, m.used q n, m.ops_up p, m.calls p k.before, m.late_root p)

  sees : (bucket base : ℕ) → local.root ≤ c.dir_top → Sees setup c q local.root bucket base →
      Sees setup d q local.root bucket base
  sees bucket base o k = grind (arith, m.named_up bucket, m.rows bucket base, m.late_dir, m.dir_tries q n, m.tries q n)

  loaded : (l : LoadedBucket) → local.root ≤ c.dir_top → IsLoaded setup c q local.root l →
      IsLoaded setup d q local.root l
  loaded l o k = record {
    base = k.base;
    key = k.key;
    sees = sees l.bucket k.base o k.sees;
    row_is = k.row_is ∙ sym (m.rows l.bucket k.base k.sees.there k.sees.old).0;
    state_is = k.state_is ∙ sym (m.rows l.bucket k.base k.sees.there k.sees.old).2;
    leads = leads_same local.root o k.key ∙ k.leads;
  }

  loads : (ls : List LoadedBucket) → local.root ≤ c.dir_top → All (IsLoaded setup c q local.root) ls →
      All (IsLoaded setup d q local.root) ls
  loads ls o k = λ i z hi. loaded (get_or ls i z) o (k i z hi)

  -- what it knows before and after it has found its bucket
  aims : (aim : Aim) → KeepsAim setup c q used flight.number flight.call aim →
      KeepsAim setup d q used flight.number flight.call aim
  aims ForLookup k = flies k
  aims ForFirstRound k = record { works = works k.works; room = room 0 k.room; quiet = (m.dir_tries q n).0 ∙ k.quiet }
  aims (ForSecondRound first) k = record { works = works k.works; room = room 1 k.room; roots = roots first k.roots }
  aims ForLastLook k = works k

  knows_before : (aim : Aim) → KeepsAim setup c q used flight.number flight.call aim →
      KnowsBefore setup c q flight.number flight.call aim → KnowsBefore setup d q flight.number flight.call aim
  knows_before ForLookup a k = tt
  knows_before ForFirstRound a k = tt
  knows_before (ForSecondRound first) a k = elim k [
    | inl x ↦ inl (omega (arith, x, m.now_up key q))
    | inr x ↦ inr (λ e. m.left key (c.first_dir q) (roots_old first a.roots) x
        (e ∙ ap (λ v. lead setup d v key) (m.roots q n).1 ∙ leads_same (c.first_dir q) (roots_old first a.roots) key))
  ]
  knows_before ForLastLook a k = omega (arith, k, m.now_up key q)

  -- numbers of a bucket that some directory led to do not fall
  last_led : (v : ℕ) → v ≤ c.dir_top →
      applied_of (last c (lead setup c v key)) q ≤ applied_of (last d (lead setup d v key)) q
  last_led v o = omega (
    arith,
    m.last_up (lead setup c v key) q (s.leads.there v key o),
    ap (λ b. applied_of (last d b) q) (leads_same v o key),
  )

  knows_at : (aim : Aim) → local.dir ≤ c.dir_top → KeepsAim setup c q used flight.number flight.call aim →
      KnowsAt setup c q flight.number flight.call local.dir aim →
      KnowsAt setup d q flight.number flight.call local.dir aim
  knows_at ForLookup o a k = tt
  knows_at ForFirstRound o a k = grind (arith, k, m.roots q n)
  knows_at (ForSecondRound first) o a k = (
    grind (arith, k.0, m.roots q n),
    elim k.1 [
      | inl x ↦ inl (omega (arith, x, last_led local.dir o))
      | inr x ↦ inr (λ e. x (sym (leads_same local.dir o key) ∙ e ∙ ap (λ v. lead setup d v key) (m.roots q n).1
          ∙ leads_same (c.first_dir q) (roots_old first a.roots) key))
    ],
  )
  knows_at ForLastLook o a k = omega (arith, k, last_led local.dir o)

  -- the words that it has stored in rows of its own
  op_stored : (i : ℕ) → (c.used q).op_rows < op_room setup q → OpStored setup c q flight.number flight.call i →
      OpStored setup d q flight.number flight.call i
  op_stored i r k = λ j hj. (let own = m.own q (OpWord (op_no setup q (c.used q).op_rows) j) n h
      ((c.used q).op_rows, omega arith, r, refl) in let was = k j hj in grind (arith, was, own, m.used q n))

  row_stored : (attempt : BucketTry) (found : List (Option Op)) (i : ℕ) → (c.used q).bucket_rows < row_room setup q →
      RowStored setup c q attempt found i → RowStored setup d q attempt found i
  row_stored attempt found i r k = λ j hj. (let own = m.own q
      (BucketRowWord (row_no setup q (c.used q).bucket_rows) j) n h ((c.used q).bucket_rows, omega arith, r, refl) in
      let was = k j hj in grind (arith, was, own, m.used q n))

  -- and so each phase
  see_done : Keeps setup c q used flight local (SeeDone) → Keeps setup d q used flight local (SeeDone)
  see_done k = record { flies = flies k.flies; short = k.short; begins = λ u. begins (k.begins u) }

  store_op : (i : ℕ) → Keeps setup c q used flight local (StoreOp i) → Keeps setup d q used flight local (StoreOp i)
  store_op i k = record { begins = begins k.begins; short = k.short; stored = op_stored i k.begins.op_room_is k.stored }

  announce : Keeps setup c q used flight local (Announce) → Keeps setup d q used flight local (Announce)
  announce k = record { begins = begins k.begins; stored = op_stored OP_WORDS k.begins.op_room_is k.stored }

  find_root : (aim : Aim) → Keeps setup c q used flight local (FindRoot aim) →
      Keeps setup d q used flight local (FindRoot aim)
  find_root aim k = record { aims = aims aim k.aims; knows = knows_before aim k.aims k.knows }

  find_depth : (aim : Aim) (root : ℕ) → Keeps setup c q used flight local (FindDepth aim root) →
      Keeps setup d q used flight local (FindDepth aim root)
  find_depth aim root k = record {
    aims = aims aim k.aims;
    knows = knows_at aim k.finds.old k.aims k.knows;
    finds = finds root k.finds;
  }

  find_entry : (aim : Aim) (root depth : ℕ) → Keeps setup c q used flight local (FindEntry aim root depth) →
      Keeps setup d q used flight local (FindEntry aim root depth)
  find_entry aim root depth k = record {
    aims = aims aim k.aims;
    knows = knows_at aim k.finds.old k.aims k.knows;
    finds = finds root k.finds;
    depth_is = k.depth_is ∙ sym (ap (λ (x : DirectoryState). x.depth) (m.dirs local.dir k.finds.old).1);
  }

  look_word : (root bucket : ℕ) → Keeps setup c q used flight local (LookWord root bucket) →
      Keeps setup d q used flight local (LookWord root bucket)
  look_word root bucket k = record { flies = flies k.flies; there = (m.named_up bucket k.there).0 }

  look_count : (row : ℕ) → Keeps setup c q used flight local (LookCount row) →
      Keeps setup d q used flight local (LookCount row)
  look_count row k = grind (arith, flies, m.named_up local.at, m.rows local.at local.base)

  look_items : (row count : ℕ) (words : List ℕ) → Keeps setup c q used flight local (LookItems row count words) →
      Keeps setup d q used flight local (LookItems row count words)
  look_items row count words k = grind (arith, flies, m.named_up local.at, m.rows local.at local.base)

  try_word : (round : Round) (turn : ℕ) (first : Option ℕ) →
      Keeps setup c q used flight local (TryWord round turn first) →
      Keeps setup d q used flight local (TryWord round turn first)
  try_word round turn first k = record {
    works = works k.works;
    room = room (round.turn - 1) k.room;
    in_round = in_round round k.in_round;
    begun = elim k.begun [
      | inl a ↦ inl a
      | inr a ↦ inr (
        a.0,
        a.1,
        tries round.bucket a.0 k.in_round.there a.2,
        a.3,
        a.4,
        grind (arith, a, m.tries q n, m.named_up round.bucket k.in_round.there),
      )
    ];
  }

  try_row : (round : Round) (turn first row : ℕ) (words : List ℕ) →
      Keeps setup c q used flight local (TryRow round turn first row words) →
      Keeps setup d q used flight local (TryRow round turn first row words)
  try_row round turn first row words k = record {
    works = works k.works;
    room = room (round.turn - 1) k.room;
    in_round = in_round round k.in_round;
    looks = looks round.bucket local.base turn first row k.in_round.there k.looks;
    short = k.short;
    words_are = grind (arith, k.words_are, m.rows round.bucket local.base k.in_round.there k.looks.old);
  }

  try_announcement : (round : Round) (attempt : BucketTry) (found : List (Option Op)) →
      Keeps setup c q used flight local (TryAnnouncement round attempt found) →
      Keeps setup d q used flight local (TryAnnouncement round attempt found)
  try_announcement round attempt found k = record {
    works = works k.works;
    room = room (round.turn - 1) k.room;
    in_round = in_round round k.in_round;
    opens = opens round.bucket local.base attempt k.in_round.there k.opens;
    short = k.short;
    entries = entries round.bucket local.base found k.in_round.there k.opens.looks.old k.entries;
  }

  try_op : (round : Round) (attempt : BucketTry) (found : List (Option Op)) (op : ℕ) (words : List ℕ) →
      Keeps setup c q used flight local (TryOp round attempt found op words) →
      Keeps setup d q used flight local (TryOp round attempt found op words)
  try_op round attempt found op words k = record {
    works = works k.works;
    room = room (round.turn - 1) k.room;
    in_round = in_round round k.in_round;
    opens = opens round.bucket local.base attempt k.in_round.there k.opens;
    short = k.short;
    entries = entries round.bucket local.base found k.in_round.there k.opens.looks.old k.entries;
    short_op = k.short_op;
    reads = reads round.bucket local.base (length found) op words k.in_round.there k.opens.looks.old k.reads;
  }

  try_store : (round : Round) (attempt : BucketTry) (found : List (Option Op)) (stored : ℕ) →
      Keeps setup c q used flight local (TryStore round attempt found stored) →
      Keeps setup d q used flight local (TryStore round attempt found stored)
  try_store round attempt found stored k = record {
    works = works k.works;
    room = room (round.turn - 1) k.room;
    in_round = in_round round k.in_round;
    opens = opens round.bucket local.base attempt k.in_round.there k.opens;
    all = k.all;
    entries = entries round.bucket local.base found k.in_round.there k.opens.looks.old k.entries;
    short = k.short;
    so_far = row_stored attempt found stored (omega (arith, k.room.rows, k.in_round.two)) k.so_far;
  }

  try_exchange : (round : Round) (attempt : BucketTry) (found : List (Option Op)) →
      Keeps setup c q used flight local (TryExchange round attempt found) →
      Keeps setup d q used flight local (TryExchange round attempt found)
  try_exchange round attempt found k = record {
    works = works k.works;
    room = room (round.turn - 1) k.room;
    in_round = in_round round k.in_round;
    opens = opens round.bucket local.base attempt k.in_round.there k.opens;
    all = k.all;
    entries = entries round.bucket local.base found k.in_round.there k.opens.looks.old k.entries;
    so_far = row_stored attempt found (width setup) (omega (arith, k.room.rows, k.in_round.two)) k.so_far;
  }

  dir_root : (round : Round) (turn : ℕ) (first : Option ℕ) →
      Keeps setup c q used flight local (DirRoot round turn first) →
      Keeps setup d q used flight local (DirRoot round turn first)
  dir_root round turn first k = record {
    works = works k.works;
    room = room round.turn k.room;
    in_round = in_round round k.in_round;
    froze = froze round.bucket k.in_round.there k.froze;
    begun = elim k.begun [
      | inl a ↦ inl a
      | inr a ↦ inr (a.0, a.1, dir_tries a.0 a.2, a.3, grind (arith, a, m.dir_tries q n, m.dir_up))
    ];
  }

  dir_depth : (round : Round) (turn first root : ℕ) →
      Keeps setup c q used flight local (DirDepth round turn first root) →
      Keeps setup d q used flight local (DirDepth round turn first root)
  dir_depth round turn first root k = record {
    works = works k.works;
    room = room round.turn k.room;
    in_round = in_round round k.in_round;
    froze = froze round.bucket k.in_round.there k.froze;
    looks = dir_looks local.root turn first root k.looks;
  }

  dir_read : (round : Round) (turn first root depth : ℕ) (words : List ℕ) →
      Keeps setup c q used flight local (DirEntries round turn first root depth words) →
      Keeps setup d q used flight local (DirEntries round turn first root depth words)
  dir_read round turn first root depth words k = record {
    works = works k.works;
    room = room round.turn k.room;
    in_round = in_round round k.in_round;
    froze = froze round.bucket k.in_round.there k.froze;
    looks = dir_looks local.root turn first root k.looks;
    depth_is = k.depth_is ∙ sym (ap (λ (x : DirectoryState). x.depth) (m.dirs local.root k.looks.old).1);
    short = k.short;
    words_are = k.words_are ∙ sym (ap (λ (x : DirectoryState). take (length words) x.entries)
        (m.dirs local.root k.looks.old).1);
  }

  dir_announcement : (round : Round) (attempt : DirectoryTry) (found : List (Option Op)) →
      Keeps setup c q used flight local (DirAnnouncement round attempt found) →
      Keeps setup d q used flight local (DirAnnouncement round attempt found)
  dir_announcement round attempt found k = record {
    works = works k.works;
    room = room round.turn k.room;
    in_round = in_round round k.in_round;
    froze = froze round.bucket k.in_round.there k.froze;
    opens = dir_opens round.bucket attempt k.opens;
    short = k.short;
    entries = dir_entries found k.opens.looks.old k.entries;
  }

  dir_op : (round : Round) (attempt : DirectoryTry) (found : List (Option Op)) (op : ℕ) (words : List ℕ) →
      Keeps setup c q used flight local (DirOp round attempt found op words) →
      Keeps setup d q used flight local (DirOp round attempt found op words)
  dir_op round attempt found op words k = record {
    works = works k.works;
    room = room round.turn k.room;
    in_round = in_round round k.in_round;
    froze = froze round.bucket k.in_round.there k.froze;
    opens = dir_opens round.bucket attempt k.opens;
    short = k.short;
    entries = dir_entries found k.opens.looks.old k.entries;
    short_op = k.short_op;
    reads = dir_reads (length found) op words k.opens.looks.old k.reads;
  }

  dir_word : (round : Round) (attempt : DirectoryTry) (found : List (Option Op)) (ls : List LoadedBucket) (bucket : ℕ)
      → Keeps setup c q used flight local (DirWord round attempt found ls bucket) →
      Keeps setup d q used flight local (DirWord round attempt found ls bucket)
  dir_word round attempt found ls bucket k = record {
    works = works k.works;
    room = room round.turn k.room;
    in_round = in_round round k.in_round;
    froze = froze round.bucket k.in_round.there k.froze;
    opens = dir_opens round.bucket attempt k.opens;
    all = k.all;
    entries = dir_entries found k.opens.looks.old k.entries;
    loads = loads ls k.opens.looks.old k.loads;
    once = k.once;
    next = k.next;
  }

  dir_row : (round : Round) (attempt : DirectoryTry) (found : List (Option Op)) (ls : List LoadedBucket)
      (bucket row : ℕ) (words : List ℕ) → Keeps setup c q used flight local
      (DirRow round attempt found ls bucket row words) →
      Keeps setup d q used flight local (DirRow round attempt found ls bucket row words)
  dir_row round attempt found ls bucket row words k = record {
    works = works k.works;
    room = room round.turn k.room;
    in_round = in_round round k.in_round;
    froze = froze round.bucket k.in_round.there k.froze;
    opens = dir_opens round.bucket attempt k.opens;
    all = k.all;
    entries = dir_entries found k.opens.looks.old k.entries;
    loads = loads ls k.opens.looks.old k.loads;
    once = k.once;
    next = k.next;
    sees = sees bucket local.base k.opens.looks.old k.sees;
    row_is = k.row_is ∙ sym (m.rows bucket local.base k.sees.there k.sees.old).0;
    short = k.short;
    words_are = k.words_are ∙ sym (ap (take (length words)) (m.rows bucket local.base k.sees.there k.sees.old).1);
  }

  -- the stores of a directory try are to words of its own
  puts_stored : (puts : List Put) (i : ℕ) → used ≡ c.used q →
      ((j : ℕ) → j < i → IsOwn setup q used (put_in puts j).address) →
      ((j : ℕ) → j < i → read c.memory (put_in puts j).address ≡ (put_in puts j).word) →
      (j : ℕ) → j < i → read d.memory (put_in puts j).address ≡ (put_in puts j).word
  puts_stored puts i e o k j hj =
      m.own q (put_in puts j).address n h (subst (λ u. IsOwn setup q u (put_in puts j).address) e (o j hj)) ∙ k j hj

  dir_store : (round : Round) (attempt : DirectoryTry) (found : List (Option Op)) (ls : List LoadedBucket)
      (stored : ℕ) → Keeps setup c q used flight local (DirStore round attempt found ls stored) →
      Keeps setup d q used flight local (DirStore round attempt found ls stored)
  dir_store round attempt found ls stored k = record {
    works = works k.works;
    room = room round.turn k.room;
    in_round = in_round round k.in_round;
    froze = froze round.bucket k.in_round.there k.froze;
    opens = dir_opens round.bucket attempt k.opens;
    all = k.all;
    entries = dir_entries found k.opens.looks.old k.entries;
    loads = loads ls k.opens.looks.old k.loads;
    once = k.once;
    whole = k.whole;
    owns = k.owns;
    inside = k.inside;
    short = k.short;
    so_far = puts_stored (directory_puts setup q used attempt found ls) stored (sym k.works.flies.used_is)
        (λ j hj. k.owns j (omega (arith, hj, k.short))) k.so_far;
  }

  dir_exchange : (round : Round) (attempt : DirectoryTry) (found : List (Option Op)) (ls : List LoadedBucket) →
      Keeps setup c q used flight local (DirExchange round attempt found ls) →
      Keeps setup d q used flight local (DirExchange round attempt found ls)
  dir_exchange round attempt found ls k = record {
    works = works k.works;
    room = room round.turn k.room;
    in_round = in_round round k.in_round;
    froze = froze round.bucket k.in_round.there k.froze;
    opens = dir_opens round.bucket attempt k.opens;
    all = k.all;
    entries = dir_entries found k.opens.looks.old k.entries;
    loads = loads ls k.opens.looks.old k.loads;
    once = k.once;
    whole = k.whole;
    owns = k.owns;
    inside = k.inside;
    so_far = puts_stored (directory_puts setup q used attempt found ls)
        (length (directory_puts setup q used attempt found ls)) (sym k.works.flies.used_is) k.owns k.so_far;
  }

  last_word : (root bucket : ℕ) → Keeps setup c q used flight local (LastWord root bucket) →
      Keeps setup d q used flight local (LastWord root bucket)
  last_word root bucket k = record {
    works = works k.works;
    there = (m.named_up bucket k.there).0;
    has = omega (arith, k.has, m.last_up bucket q k.there);
  }

  last_row : (row : ℕ) (words : List ℕ) → Keeps setup c q used flight local (LastRow row words) →
      Keeps setup d q used flight local (LastRow row words)
  last_row row words k = grind (arith, works, m.named_up local.at, m.rows local.at local.base)

  -- in every phase
  keeps : (phase : Phase) → Keeps setup c q used flight local phase → Keeps setup d q used flight local phase
  keeps SeeDone k = see_done k
  keeps (StoreOp i) k = store_op i k
  keeps Announce k = announce k
  keeps (FindRoot aim) k = find_root aim k
  keeps (FindDepth aim root) k = find_depth aim root k
  keeps (FindEntry aim root depth) k = find_entry aim root depth k
  keeps (LookWord root bucket) k = look_word root bucket k
  keeps (LookCount row) k = look_count row k
  keeps (LookItems row count words) k = look_items row count words k
  keeps (TryWord round turn first) k = try_word round turn first k
  keeps (TryRow round turn first row words) k = try_row round turn first row words k
  keeps (TryAnnouncement round attempt found) k = try_announcement round attempt found k
  keeps (TryOp round attempt found op words) k = try_op round attempt found op words k
  keeps (TryStore round attempt found stored) k = try_store round attempt found stored k
  keeps (TryExchange round attempt found) k = try_exchange round attempt found k
  keeps (DirRoot round turn first) k = dir_root round turn first k
  keeps (DirDepth round turn first root) k = dir_depth round turn first root k
  keeps (DirEntries round turn first root depth words) k = dir_read round turn first root depth words k
  keeps (DirAnnouncement round attempt found) k = dir_announcement round attempt found k
  keeps (DirOp round attempt found op words) k = dir_op round attempt found op words k
  keeps (DirWord round attempt found ls bucket) k = dir_word round attempt found ls bucket k
  keeps (DirRow round attempt found ls bucket row words) k = dir_row round attempt found ls bucket row words k
  keeps (DirStore round attempt found ls stored) k = dir_store round attempt found ls stored k
  keeps (DirExchange round attempt found ls) k = dir_exchange round attempt found ls k
  keeps (LastWord root bucket) k = last_word root bucket k
  keeps (LastRow row words) k = last_row row words k
  keeps (StoreDone reply at) k = flies k
  keeps phase k = absurd k

-- whatever stand the other seat is in
pub stays : (setup : Setup) (me : ℕ) (c d : Common) → Moves setup me c d → Shared setup c → (q : ℕ) → q ≢ me →
    q < seats_of setup → (used : SeatRows) (local : Local) (stand : Stand) →
    KeepsStand setup c q used local stand → KeepsStand setup d q used local stand
stays setup me c d m s q n h used local Idle k = grind (arith, m.used q n)
stays setup me c d m s q n h used local (InFlight flight phase) k =
    keeps setup me c d m s q used flight local n h phase k
