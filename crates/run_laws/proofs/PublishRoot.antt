-- A directory row is published, with its leaves: what then holds of all that is shared, and what other seats see of it.
use Rattle.std.proofs.Common.{◌≡◌, ◌≢◌, ℕ, ◌+◌, ◌-◌, ◌/◌, ◌^◌, ◌<◌, ◌≤◌, ◌⊎◌, Bool, true, false, cond, ltb, leb, List, length, get_or, inl, inr, refl, sym, ap, ◌∙◌, subst, arith}
use Rattle.std.specs.Prelude.{Option, Some, None, All}
use Rattle.std.proofs.lemmas.Nat.{shr-shr}
use Rattle.std.proofs.lemmas.Bool.{ltb-true, leb-true, eqb-true, eqb-false, cases_eq, and_parts, and_from, lt-ltb, le-leb, cases_Bool}
use Rattle.plain_map.specs.declared.keys.Key.{Key}
use Rattle.plain_map.specs.declared.full.FullKind.TheVariants.{BucketRows, BucketWords, DirRows}
use Rattle.plain_map.specs.Calls.{key_in}
use Rattle.word_rows.specs.Shape.{count_of}
use Rattle.word_rows.specs.BaseWords.{base_of_word}
use Rattle.word_rows.specs.Memory.{read}
use Rattle.word_rows.specs.declared.addresses.Address.{Address}
use Rattle.word_rows.specs.declared.addresses.Address.TheVariants.{OpWord, BucketRowWord, BucketWord, DirectoryWord}
use Rattle.word_rows.proofs.MemoryLemmas.{put_is, put_same, put_other}
use Rattle.bucket_states.specs.declared.ops.Op.{Op}
use Rattle.bucket_states.specs.States.{BucketState}
use Rattle.bucket_states.specs.Laws.{applied_of}
use Rattle.table_model.specs.Setup.{Setup, seats_of, rules_of}
use Rattle.table_model.specs.Directories.{DirectoryState, bucket_of}
use Rattle.table_model.specs.Leaves.{NewLeaf}
use Rattle.table_model.specs.DirectoryChange.{LoadedBucket}
use Rattle.table_model.specs.Goes.{with_directory}
use Rattle.run_invariant.proofs.Numbers.{row_no_apart, row_no_within, row_no_more, word_no_apart, word_no_within, word_no_more, dir_no_apart, dir_no_within}
use Rattle.run_invariant.proofs.Loads.{first_place}
use Rattle.run_invariant.proofs.Change.{IsChange, IsLeaf, leaf_at, no_leaf, origin}
use Rattle.run_invariant.proofs.Invariant.{IsOwn, Common, Line, line, Comes, Descends, Recalls, Names, Shared, Rows, Directories, Leads, Helped, Carried, Calls, IsRow, Replaces, Stands, Moves, HasOp, AllDirFound, IsLoaded, lead, last, bits, op_no, row_no, word_no, dir_no, row_room, word_room, dir_room}
pub use Rattle.run_laws.proofs.Grown.{Stored, is_new, grown}

module _ (setup : Setup) (me : ℕ) (c : Common) (h : me < seats_of setup) (s : Shared setup c)
    (found : List (Option Op)) (loaded : List LoadedBucket) (leaves : List NewLeaf) (now : DirectoryState)
    (words : ℕ → List ℕ) (bases : ℕ → Option ℕ) (fresh row dir : ℕ)
    (fresh_is : fresh ≡ word_no setup me (c.used me).bucket_words)
    (row_is : row ≡ row_no setup me (c.used me).bucket_rows) (dir_is : dir ≡ dir_no setup me (c.used me).directory_rows)
    (x : IsChange setup c c.dir_top found loaded leaves fresh now)
    (y : Stored setup c loaded leaves now words bases fresh row dir)
    (room_words : (c.used me).bucket_words + length leaves ≤ word_room setup me)
    (room_rows : (c.used me).bucket_rows + length leaves ≤ row_room setup me)
    (room_dirs : (c.used me).directory_rows < dir_room setup me)
    (all : length found ≡ seats_of setup) (entries : AllDirFound setup c me c.dir_top found)
    (loads : All (IsLoaded setup c me c.dir_top) loaded) where
  -- all that is shared after the exchange, and how many leaves there are
  abbrev d : Common
  d = grown setup me leaves now words bases fresh row dir c

  -- how many leaves there are
  abbrev many : ℕ
  many = length leaves

  -- the i-th of the new ones
  pub new_at : (b : ℕ) → is_new fresh many b ≡ true → (b ≡ fresh + (b - fresh)) × (b - fresh < many)
  new_at b n = (let parts = and_parts (leb fresh b) (ltb b (fresh + many)) n in let low = leb-true fresh b parts.0 in
      let high = ltb-true b (fresh + many) parts.1 in (omega (arith, low), omega (arith, low, high)))

  -- a number from the first new one on is new
  pub is_new_at : (i : ℕ) → i < many → is_new fresh many (fresh + i) ≡ true
  is_new_at i n = and_from (leb fresh (fresh + i)) (ltb (fresh + i) (fresh + many))
      (le-leb fresh (fresh + i) (omega arith)) (lt-ltb (fresh + i) (fresh + many) (omega (arith, n)))

  -- and tells its leaf
  index : (i : ℕ) → fresh + i - fresh ≡ i
  index i = omega arith

  -- no bucket that there was is new
  pub old_not_new : (b : ℕ) → c.named b ≡ true → is_new fresh many b ≡ false
  old_not_new b n = elim (cases_Bool (is_new fresh many b)) [
    | inr f ↦ f
    | inl t ↦ absurd (let at = new_at b t in
        s.rows.fresh_word b me ((c.used me).bucket_words + (b - fresh)) n h (omega arith)
        (omega (arith, at.1, room_words))
        (at.0 ∙ ap (λ z. z + (b - fresh)) fresh_is ∙ word_no_more setup me (c.used me).bucket_words (b - fresh)))
  ]

  -- the history of the i-th of the new ones
  abbrev line_new : ℕ → Line
  line_new i = record {
    pre = (leaf_at leaves i).prefix;
    deep = (leaf_at leaves i).depth;
    born = c.dir_top + 1;
    from = origin (get_or leaves i no_leaf);
    top = 0;
    row_at = λ _. row + i;
    base_at = λ _. bases i;
    words_at = λ _. words i;
    state_at = λ _. leaf_at leaves i;
  }

  -- and of a bucket, whether it is one of them
  abbrev line_if : Bool → ℕ → Line
  line_if t b = record {
    pre = cond t (line_new (b - fresh)).pre (c.pre b);
    deep = cond t (line_new (b - fresh)).deep (c.deep b);
    born = cond t (line_new (b - fresh)).born (c.born b);
    from = cond t (line_new (b - fresh)).from (c.from b);
    top = cond t (line_new (b - fresh)).top (c.top b);
    row_at = cond t (line_new (b - fresh)).row_at (c.row_at b);
    base_at = cond t (line_new (b - fresh)).base_at (c.base_at b);
    words_at = cond t (line_new (b - fresh)).words_at (c.words_at b);
    state_at = cond t (line_new (b - fresh)).state_at (c.state_at b);
  }

  -- what holds of each bucket: of the new ones and of the old ones
  pub each : (P : Line → Type 0) (b : ℕ) → d.named b ≡ true → (is_new fresh many b ≡ true → P (line_new (b - fresh))) →
      (c.named b ≡ true → is_new fresh many b ≡ false → P (line c b)) → P (line d b)
  each P b n new old = go (is_new fresh many b) refl
    where
      go : (t : Bool) → is_new fresh many b ≡ t → P (line_if t b)
      go true e = new e
      go false e = old (ap (λ t. cond t true (c.named b)) (sym e) ∙ n) e

  -- an old bucket is as it was
  pub old : (P : Line → Type 0) (b : ℕ) → c.named b ≡ true → P (line c b) → P (line d b)
  old P b n p = subst (λ t. P (line_if t b)) (sym (old_not_new b n)) p

  -- an old bucket is still named, and a new one is
  pub old_named : (b : ℕ) → c.named b ≡ true → d.named b ≡ true
  old_named b n = subst (λ t. cond t true (c.named b) ≡ true) (sym (old_not_new b n)) n

  -- a new one is as its leaf
  pub new : (P : Line → Type 0) (i : ℕ) → i < many → P (line_new i) → P (line d (fresh + i))
  new P i n p =
      subst (λ t. P (line_if t (fresh + i))) (sym (is_new_at i n)) (subst (λ z. P (line_new z)) (sym (index i)) p)

  -- and a new one is
  pub new_named : (i : ℕ) → i < many → d.named (fresh + i) ≡ true
  new_named i n = ap (λ t. cond t true (c.named (fresh + i))) (is_new_at i n)

  -- ---- rows

  -- the numbers of the new rows and words are the seat's next ones
  row_at_is : (i : ℕ) → row + i ≡ row_no setup me ((c.used me).bucket_rows + i)
  row_at_is i = ap (λ z. z + i) row_is ∙ row_no_more setup me (c.used me).bucket_rows i

  -- a row that there was is none of the new ones
  pub row_apart : (b v i : ℕ) → c.named b ≡ true → v ≤ c.top b → i < many → c.row_at b v ≢ row + i
  row_apart b v i n m hi e = s.rows.fresh b v me ((c.used me).bucket_rows + i) n m h (omega arith)
      (omega (arith, hi, room_rows)) (e ∙ row_at_is i)

  -- what is free after the exchange was free before, and is none of the new numbers
  used_rows : (p j : ℕ) → (d.used p).bucket_rows ≤ j → (c.used p).bucket_rows ≤ j
  used_rows p j hu = grind (arith, put_is, eqb-true, eqb-false)

  used_words : (p j : ℕ) → (d.used p).bucket_words ≤ j → (c.used p).bucket_words ≤ j
  used_words p j hu = grind (arith, put_is, eqb-true, eqb-false)

  words_apart : (p j i : ℕ) → i < many → (d.used p).bucket_words ≤ j → (me ≡ p) × ((c.used me).bucket_words + i ≡ j) → ⊥
  words_apart p j i n hu e = grind (arith, put_is, eqb-true, eqb-false)

  rows_apart : (p j i : ℕ) → i < many → (d.used p).bucket_rows ≤ j → (me ≡ p) × ((c.used me).bucket_rows + i ≡ j) → ⊥
  rows_apart p j i n hu e = grind (arith, put_is, eqb-true, eqb-false)

  word_at_is : (i : ℕ) → fresh + i ≡ word_no setup me ((c.used me).bucket_words + i)
  word_at_is i = ap (λ z. z + i) fresh_is ∙ word_no_more setup me (c.used me).bucket_words i

  -- the bucket rows: the new ones are sound, and no number comes twice
  rows : Rows setup d.memory.bucket d.memory.bucket_row d.named d.pre d.deep d.top d.row_at d.base_at d.words_at
      d.state_at d.used
  rows = record {
    word_is = λ b n. each (λ l. c.memory.bucket b ≡ l.row_at l.top) b n
        (λ z. (let at = new_at b z in ap c.memory.bucket at.0 ∙ y.word_is (b - fresh) at.1))
        (λ z _. s.rows.word_is b z);
    inside = λ b n. each (λ l. b < count_of setup.shape BucketWords) b n
        (λ z. (let at = new_at b z in omega (
          arith,
          at.0,
          fresh_is,
          word_no_more setup me (c.used me).bucket_words (b - fresh),
          word_no_within setup me ((c.used me).bucket_words + (b - fresh)) s.opened h (omega (arith, at.1, room_words)),
        )))
        (λ z _. s.rows.inside b z);
    fresh_word = λ b p j n hp hu hj. each (λ l. b ≢ word_no setup p j) b n
        (λ z e. (let at = new_at b z in words_apart p j (b - fresh) at.1 hu
        (word_no_apart setup me p ((c.used me).bucket_words + (b - fresh)) j s.opened h hp
        (omega (arith, at.1, room_words)) hj (sym (at.0 ∙ word_at_is (b - fresh)) ∙ e))))
        (λ z _. s.rows.fresh_word b p j z hp (used_words p j hu) hj);
    within = λ b i n m. each (λ l. i ≤ l.top → l.row_at i < count_of setup.shape BucketRows) b n
        (λ z o. (let at = new_at b z in omega (
          arith,
          row_at_is (b - fresh),
          row_no_within setup me ((c.used me).bucket_rows + (b - fresh)) s.opened h (omega (arith, at.1, room_rows)),
        ))) (λ z _ o. s.rows.within b i z o) m;
    fresh = λ b i p j n m hp hu hj. each (λ l. i ≤ l.top → l.row_at i ≢ row_no setup p j) b n
        (λ z o e. (let at = new_at b z in rows_apart p j (b - fresh) at.1 hu
        (row_no_apart setup me p ((c.used me).bucket_rows + (b - fresh)) j s.opened h hp
        (omega (arith, at.1, room_rows)) hj (sym (row_at_is (b - fresh)) ∙ e))))
        (λ z _ o. s.rows.fresh b i p j z o hp (used_rows p j hu) hj) m;
    once = λ a b i j na nb hi hj. each (λ l. i ≤ l.top → l.row_at i ≡ d.row_at b j → (a ≡ b) × (i ≡ j)) a na
        (λ za oi. each (λ l. j ≤ l.top → row + (a - fresh) ≡ l.row_at j → (a ≡ b) × (i ≡ j)) b nb
        (λ zb oj e. (let x = new_at a za in let w = new_at b zb in (omega (arith, x.0, w.0, e), omega (arith, oi, oj))))
        (λ zb _ oj e. absurd (row_apart b j (a - fresh) zb oj (new_at a za).1 (sym e))) hj)
        (λ za _ oi. each (λ l. j ≤ l.top → c.row_at a i ≡ l.row_at j → (a ≡ b) × (i ≡ j)) b nb
        (λ zb oj e. absurd (row_apart a i (b - fresh) za oi (new_at b zb).1 e))
        (λ zb _ oj e. s.rows.once a b i j za zb oi oj e) hj) hi;
    rows_are = λ b v k n m hk. each (λ l. v ≤ l.top → c.memory.bucket_row (l.row_at v) k ≡ get_or (l.words_at v) k 0)
        b n (λ z o. (let at = new_at b z in y.row_is (b - fresh) k at.1 hk)) (λ z _ o. s.rows.rows_are b v k z o hk) m;
    sound = λ b v n m. each (λ l. v ≤ l.top → IsRow setup (l.base_at v) l.pre l.deep (l.words_at v) (l.state_at v)) b
        n (λ z o. y.sound (b - fresh) (new_at b z).1) (λ z _ o. s.rows.sound b v z o) m;
    open_ = λ b v n m. each (λ l. v < l.top → (l.state_at v).frozen ≡ false) b n (λ z o. absurd (omega (arith, o)))
        (λ z _ o. s.rows.open_ b v z o) m;
    rises = λ b v p n m. each (λ l. v ≤ l.top → applied_of (l.state_at v) p ≤ applied_of (l.state_at l.top) p) b n
        (λ z o. omega arith) (λ z _ o. s.rows.rises b v p z o) m;
  }

  -- ---- directories

  -- what is free after the exchange was free before, and is not the new directory row
  dirs_apart : (p j : ℕ) → (d.used p).directory_rows ≤ j → (me ≡ p) × ((c.used me).directory_rows ≡ j) → ⊥
  dirs_apart p j hu e = grind (arith, put_is, eqb-true, eqb-false)

  used_dirs : (p j : ℕ) → (d.used p).directory_rows ≤ j → (c.used p).directory_rows ≤ j
  used_dirs p j hu = grind (arith, put_is, eqb-true, eqb-false)

  -- no directory row that there was has the new number
  dir_fresh : (v : ℕ) → v ≤ c.dir_top → c.dir_row v ≢ dir
  dir_fresh v o e = s.directories.fresh v me (c.used me).directory_rows o h (omega arith) room_dirs (e ∙ dir_is)

  -- what holds of each directory row: of the new one and of the old ones
  pub each_dir : (P : ℕ → ℕ → DirectoryState → Type 0) (v : ℕ) → v ≤ d.dir_top → P (c.dir_top + 1) dir now →
      (v ≤ c.dir_top → P v (c.dir_row v) (c.dir_at v)) → P v (d.dir_row v) (d.dir_at v)
  each_dir P v o n k = elim (cases_eq v (c.dir_top + 1)) [
    | inl e ↦ subst (λ u. P u (d.dir_row u) (d.dir_at u)) (sym e)
        (subst (λ r. P (c.dir_top + 1) r (d.dir_at (c.dir_top + 1))) (sym (put_same c.dir_row (c.dir_top + 1) dir))
        (subst (P (c.dir_top + 1) dir) (sym (put_same c.dir_at (c.dir_top + 1) now)) n))
    | inr m ↦ subst (λ r. P v r (d.dir_at v)) (sym (put_other c.dir_row (c.dir_top + 1) dir v m))
        (subst (P v (c.dir_row v)) (sym (put_other c.dir_at (c.dir_top + 1) now v m)) (k (omega (arith, o, m))))
  ]

  -- the directory rows
  directories : Directories setup d.memory.root d.memory.directory d.dir_top d.dir_row d.dir_at d.used
  directories = record {
    root_is = sym (put_same c.dir_row (c.dir_top + 1) dir);
    within = λ v o. each_dir (λ _ r _. r < count_of setup.shape DirRows) v o
        (omega (arith, dir_is, dir_no_within setup me (c.used me).directory_rows s.opened h room_dirs))
        (λ k. s.directories.within v k);
    fresh = λ v p j o hp hu hj. each_dir (λ _ r _. r ≢ dir_no setup p j) v o
        (λ e. dirs_apart p j hu (dir_no_apart setup me p (c.used me).directory_rows j s.opened h hp room_dirs hj
        (sym dir_is ∙ e))) (λ k. s.directories.fresh v p j k hp (used_dirs p j hu) hj);
    once = λ u v ou ov. each_dir (λ a r _. r ≡ d.dir_row v → a ≡ v) u ou
        (each_dir (λ a r _. dir ≡ r → c.dir_top + 1 ≡ a) v ov (λ _. refl) (λ k e. absurd (dir_fresh v k (sym e))))
        (λ k. each_dir (λ a r _. c.dir_row u ≡ r → u ≡ a) v ov (λ e. absurd (dir_fresh u k e))
        (λ m e. s.directories.once u v k m e));
    shallow = λ v o. each_dir (λ _ _ a. a.depth ≤ setup.shape.settings.depth) v o x.shallow
        (λ k. s.directories.shallow v k);
    depth_is = λ v o. each_dir (λ _ r a. c.memory.directory r 0 ≡ a.depth) v o y.depth_is
        (λ k. s.directories.depth_is v k);
    long = λ v o. each_dir (λ _ _ a. length a.entries ≡ 2 ^ a.depth) v o x.long (λ k. s.directories.long v k);
    entries_are = λ v i o. each_dir (λ _ r a. i < 2 ^ a.depth → c.memory.directory r (2 + i) ≡ get_or a.entries i 0) v
        o (y.entries_are i) (λ k. s.directories.entries_are v i k);
  }

  -- ---- where they lead

  -- the bucket of a key by a directory
  abbrev to : Key → DirectoryState → ℕ
  to key a = bucket_of (rules_of setup) a key

  -- of an old directory and of the new one
  pub each_lead : (key : Key) (P : ℕ → ℕ → Type 0) (v : ℕ) → v ≤ d.dir_top → P (c.dir_top + 1) (to key now) →
      (v ≤ c.dir_top → P v (lead setup c v key)) → P v (lead setup d v key)
  each_lead key P v o n k = each_dir (λ a _ b. P a (to key b)) v o n k

  -- the new directory leads where the change says, an old one where it did
  pub lead_new : (key : Key) → lead setup d (c.dir_top + 1) key ≡ to key now
  lead_new key = ap (to key) (put_same c.dir_at (c.dir_top + 1) now)

  -- an old one where it did
  pub lead_old : (v : ℕ) (key : Key) → v ≤ c.dir_top → lead setup d v key ≡ lead setup c v key
  lead_old v key o = (let m : v ≢ c.dir_top + 1 = omega (arith, o) in
      ap (to key) (put_other c.dir_at (c.dir_top + 1) now v m))

  -- the bucket of a key by the new directory: an old one that stays, or a new one
  pub each_goes : (key : Key) (P : ℕ → Type 0) →
      (to key now ≡ lead setup c c.dir_top key → P (lead setup c c.dir_top key)) →
      ((i : ℕ) → i < many → to key now ≡ fresh + i → P (fresh + i)) → P (to key now)
  each_goes key P stays moves = elim (x.goes key) [
    | inl a ↦ subst P (sym a) (stays a)
    | inr a ↦ subst P (sym a.2) (moves a.0 a.1 a.2)
  ]

  -- the bucket of a key before is one that there is
  pub there_now : (key : Key) → c.named (lead setup c c.dir_top key) ≡ true
  there_now key = s.leads.there c.dir_top key (omega arith)

  -- the leaf of a key has the numbers of the key's bucket
  pub carries_from : (key : Key) (i : ℕ) → i < many → origin (get_or leaves i no_leaf) ≡ lead setup c c.dir_top key →
      (p : ℕ) → applied_of (last c (lead setup c c.dir_top key)) p ≤ applied_of (leaf_at leaves i) p
  carries_from key i n e p =
      subst (λ b. applied_of (last c b) p ≤ applied_of (leaf_at leaves i) p) e ((x.comes i n).carries p)

  -- a leaf to which a key is led has the key's first bits
  pub for_new : (key : Key) (i : ℕ) → i < many → to key now ≡ fresh + i →
      bits setup (leaf_at leaves i).depth key ≡ (leaf_at leaves i).prefix
  for_new key i n e = elim (x.goes key) [
    | inl a ↦ absurd (let m = old_not_new (lead setup c c.dir_top key) (there_now key) in let t = is_new_at i n in
        both (sym (ap (is_new fresh many) (sym a ∙ e)) ∙ m) t)
    | inr a ↦ (let same : a.0 ≡ i = omega (arith, a.2, e) in
        ap (λ z. bits setup (leaf_at leaves z).depth key) (sym same) ∙ a.3 ∙ ap (λ z. (leaf_at leaves z).prefix) same)
  ]
    where
      both : is_new fresh many (fresh + i) ≡ false → is_new fresh many (fresh + i) ≡ true → ⊥
      both f t = cc

  -- where the directories lead: at each place stands an old bucket or a leaf, and a bucket is replaced only where it is
  -- frozen
  leads : Leads setup d.dir_top d.dir_at d.named d.pre d.deep d.born d.top d.state_at
  leads = record {
    there = λ v key o. each_lead key (λ _ b. d.named b ≡ true) v o
        (each_goes key (λ b. d.named b ≡ true) (λ _. old_named (lead setup c c.dir_top key) (there_now key))
        (λ i n _. new_named i n)) (λ k. old_named (lead setup c v key) (s.leads.there v key k));
    for_it = λ v key o. each_lead key (λ _ b. bits setup (d.deep b) key ≡ d.pre b) v o
        (each_goes key (λ b. bits setup (d.deep b) key ≡ d.pre b)
        (λ _. old (λ l. bits setup l.deep key ≡ l.pre) (lead setup c c.dir_top key) (there_now key)
        (s.leads.for_it c.dir_top key (omega arith))) (λ i n e. new (λ l. bits setup l.deep key ≡ l.pre) i n
        (for_new key i n e)))
        (λ k. old (λ l. bits setup l.deep key ≡ l.pre) (lead setup c v key) (s.leads.there v key k)
        (s.leads.for_it v key k));
    every = λ v place o. each_dir (λ _ _ a. place < 2 ^ a.depth → d.named (get_or a.entries place 0) ≡ true) v o
        (λ n. (places_now place n).0) (λ k n. old_named (get_or (c.dir_at v).entries place 0)
        (s.leads.every v place k n));
    stands = λ v place o. each_dir (λ _ _ a. place < 2 ^ a.depth →
        Stands a (get_or a.entries place 0) (d.pre (get_or a.entries place 0))
        (d.deep (get_or a.entries place 0))) v o (λ n. (places_now place n).1)
        (λ k n. old (λ l. Stands (c.dir_at v) (get_or (c.dir_at v).entries place 0) l.pre l.deep)
        (get_or (c.dir_at v).entries place 0) (s.leads.every v place k n) (s.leads.stands v place k n));
    born_by = λ v key o. each_lead key (λ a b. d.born b ≤ a) v o
        (each_goes key (λ b. d.born b ≤ c.dir_top + 1) (λ _. old (λ l. l.born ≤ c.dir_top + 1)
        (lead setup c c.dir_top key) (there_now key) (omega (
          arith,
          s.leads.born_by c.dir_top key (omega arith),
        ))) (λ i n e. new (λ l. l.born ≤ c.dir_top + 1) i n (omega arith)))
        (λ k. old (λ l. l.born ≤ v) (lead setup c v key) (s.leads.there v key k) (s.leads.born_by v key k));
    step = λ v key o n. elim (cases_eq v c.dir_top) [
      | inl e ↦ subst (λ u. lead setup d (u + 1) key ≢ lead setup d u key →
          Replaces d.named d.born d.top d.state_at (lead setup d u key) (lead setup d (u + 1) key) u) (sym e)
          (subst (λ b. b ≢ lead setup d c.dir_top key →
          Replaces d.named d.born d.top d.state_at (lead setup d c.dir_top key) b c.dir_top) (sym (lead_new key))
          (subst (λ b. to key now ≢ b → Replaces d.named d.born d.top d.state_at b (to key now) c.dir_top)
          (sym (lead_old c.dir_top key (omega arith))) (step_now key))) n
      | inr m ↦
          let low : v < c.dir_top = omega (arith, o, m) in
          let a = lead_old v key (omega (arith, low)) in let b = lead_old (v + 1) key (omega (arith, low)) in
          subst (λ w. Replaces d.named d.born d.top d.state_at w (lead setup d (v + 1) key) v) (sym a)
          (subst (λ w. Replaces d.named d.born d.top d.state_at (lead setup c v key) w v) (sym b)
          (replaces_old (lead setup c v key) (lead setup c (v + 1) key) v (s.leads.there v key (omega (arith, low)))
          (s.leads.there (v + 1) key (omega (arith, low))) (s.leads.step v key low (λ e. n (b ∙ e ∙ sym a)))))
    ];
  }
    where
      places_now : (place : ℕ) → place < 2 ^ now.depth → (d.named (get_or now.entries place 0) ≡ true)
          × Stands now (get_or now.entries place 0) (d.pre (get_or now.entries place 0))
          (d.deep (get_or now.entries place 0))
      places_now place n = elim (x.places place n) [
        | inl a ↦ (
          old_named (get_or now.entries place 0) a.0,
          old (λ l. Stands now (get_or now.entries place 0) l.pre l.deep) (get_or now.entries place 0) a.0 a.1,
        )
        | inr a ↦ subst (λ b. (d.named b ≡ true) × Stands now b (d.pre b) (d.deep b)) (sym a.2)
            (new_named a.0 a.1, new (λ l. Stands now (fresh + a.0) l.pre l.deep) a.0 a.1 (x.stands_new a.0 a.1))
      ]

      replaces_old : (was is v : ℕ) → c.named was ≡ true → c.named is ≡ true →
          Replaces c.named c.born c.top c.state_at was is v → Replaces d.named d.born d.top d.state_at was is v
      replaces_old was is v nw ni r = record {
        frozen = old (λ l. (l.state_at l.top).frozen ≡ true) was nw r.frozen;
        newborn = old (λ l. l.born ≡ v + 1) is ni r.newborn;
        carries = λ p. old (λ l. applied_of (l.state_at l.top) p ≤ applied_of (d.state_at is 0) p) was nw
            (old (λ l. applied_of (last c was) p ≤ applied_of (l.state_at 0) p) is ni (r.carries p));
      }

      step_now : (key : Key) → to key now ≢ lead setup c c.dir_top key →
          Replaces d.named d.born d.top d.state_at (lead setup c c.dir_top key) (to key now) c.dir_top
      step_now key n = elim (x.goes key) [
        | inl a ↦ absurd (n a)
        | inr a ↦ subst (λ b. Replaces d.named d.born d.top d.state_at (lead setup c c.dir_top key) b c.dir_top)
            (sym a.2) (record {
              frozen = old (λ l. (l.state_at l.top).frozen ≡ true) (lead setup c c.dir_top key) (there_now key)
                  (subst (λ b. (last c b).frozen ≡ true) a.4 (x.comes a.0 a.1).frozen);
              newborn = new (λ l. l.born ≡ c.dir_top + 1) a.0 a.1 refl;
              carries = λ p. old (λ l. applied_of (l.state_at l.top) p ≤ applied_of (d.state_at (fresh + a.0) 0) p)
                  (lead setup c c.dir_top key) (there_now key)
                  (new (λ l. applied_of (last c (lead setup c c.dir_top key)) p ≤ applied_of (l.state_at 0) p) a.0 a.1
                  (carries_from key a.0 a.1 a.4 p));
            })
      ]

  -- ---- helping

  -- no op is announced
  ops_same : (p : ℕ) → (d.used p).op_rows ≡ (c.used p).op_rows
  ops_same p = grind (arith, put_is, eqb-true, eqb-false)

  -- the op that a seat announced last
  abbrev op : ℕ → Op
  op p = c.op_at p ((c.used p).op_rows - 1)

  -- what is said of the op that a seat announced last
  of_op : (p : ℕ) (P : Op → Type 0) → P (op p) → P (d.op_at p ((d.used p).op_rows - 1))
  of_op p P k = subst (λ n. P (c.op_at p (n - 1))) (sym (ops_same p)) k

  -- what the rows have of each seat's op is as it was
  helped : Helped setup d.named d.pre d.deep d.top d.state_at d.used d.op_at d.tried d.tried_at d.since
  helped = record {
    announced = λ p hp t. omega (arith, ops_same p, s.helped.announced p hp t);
    there = λ p hp t. old_named (c.tried_at p) (s.helped.there p hp t);
    begun = λ p hp t. old (λ l. c.since p ≤ l.top) (c.tried_at p) (s.helped.there p hp t) (s.helped.begun p hp t);
    for_it = λ p hp t. of_op p (λ o. bits setup (d.deep (c.tried_at p)) (key_in o.call) ≡ d.pre (c.tried_at p))
        (old (λ l. bits setup l.deep (key_in (op p).call) ≡ l.pre) (c.tried_at p) (s.helped.there p hp t)
        (s.helped.for_it p hp t));
    helped = λ p i hp t n m. of_op p (λ o. HasOp (d.state_at (c.tried_at p) i) p o)
        (old (λ l. i ≤ l.top → HasOp (l.state_at i) p (op p)) (c.tried_at p) (s.helped.there p hp t)
        (s.helped.helped p i hp t n) m);
  }

  -- a bucket that there was is no new one
  pub not_new : (b i : ℕ) → c.named b ≡ true → i < many → b ≢ fresh + i
  not_new b i n m e = cc_new (old_not_new b n) (ap (is_new fresh many) e ∙ is_new_at i m)
    where
      cc_new : is_new fresh many b ≡ false → is_new fresh many b ≡ true → ⊥
      cc_new f t = cc

  -- the bucket of a seat's directory tries
  tried_there : (p : ℕ) → p < seats_of setup → c.dir_tried p ≡ true → c.named (c.tried_at p) ≡ true
  tried_there p hp t = (let l = s.carried.led p hp t in let b = s.carried.dir_begun p hp t in
      subst (λ z. c.named z ≡ true) l.2 (s.leads.there l.0 (key_in (op p).call) (omega (arith, l.1, b.2))))

  -- it is replaced by this change, where the seat's directory tries began before
  pub replaced_now : (p : ℕ) → p < seats_of setup → c.dir_tried p ≡ true → c.dir_since p < c.dir_top →
      to (key_in (op p).call) now ≢ c.tried_at p
  replaced_now p hp t o = elim (cases_eq (lead setup c c.dir_top (key_in (op p).call)) (c.tried_at p)) [
    | inl e ↦
        let begun = s.carried.dir_begun p hp t in
        let is_found : get_or found p None ≡ Some (op p) =
        (entries p (omega (arith, all, hp))).late begun.0 (omega (arith, begun.1, o)) in
        let lacks : applied_of (last c (lead setup c c.dir_top (key_in (op p).call))) p < (op p).number =
        subst (λ b. applied_of (last c b) p < (op p).number) (sym e) (s.carried.lacks p hp t) in
        let r = x.replaces p (op p) hp is_found lacks (λ k z hk l. frozen k z hk (sym (l ∙ e))) in
        (λ same. not_new (c.tried_at p) r.0 (tried_there p hp t) r.1 (sym same ∙ r.2))
    | inr n ↦ each_goes (key_in (op p).call) (λ b. b ≢ c.tried_at p) (λ _. n)
        (λ i m _ same. not_new (c.tried_at p) i (tried_there p hp t) m (sym same))
  ]
    where
      frozen : (k : ℕ) (z : LoadedBucket) (hk : k < length loaded) → c.tried_at p ≡ (get_or loaded k z).bucket →
          (get_or loaded k z).state.frozen ≡ true
      frozen k z hk e = (let l = loads k z hk in ap (λ (b : BucketState). b.frozen) l.state_is
          ∙ l.sees.seen p hp t e (inl o))

  -- a change of the key's bucket has the op
  pub carried_now : (p : ℕ) → p < seats_of setup → c.rooted p ≡ true → c.first_dir p < c.dir_top →
      to (key_in (op p).call) now ≢ lead setup c c.dir_top (key_in (op p).call) →
      (op p).number ≤ applied_of (d.state_at (to (key_in (op p).call) now) 0) p
  carried_now p hp r o n = elim (x.goes (key_in (op p).call)) [
    | inl a ↦ absurd (n a)
    | inr a ↦ subst (λ b. (op p).number ≤ applied_of (d.state_at b 0) p) (sym a.2)
        (new (λ l. (op p).number ≤ applied_of (l.state_at 0) p) a.0 a.1
        (x.takes p a.0 (op p) hp ((entries p (omega (arith, all, hp))).late r o) a.1 a.2))
  ]

  -- what the directories have of it: a change from a later directory than the seat's first has the op, where it
  -- replaces the bucket of its key
  carried : Carried setup d.dir_top d.dir_at d.top d.state_at d.used d.op_at d.rooted d.first_dir d.tried_at
      d.dir_tried d.dir_since
  carried = record {
    announced = λ p hp t. omega (arith, ops_same p, s.carried.announced p hp t);
    begun = λ p hp t. omega (arith, s.carried.begun p hp t);
    carried = λ p v hp r o q. of_op p (λ z. lead setup d (v + 1) (key_in z.call) ≢ lead setup d v (key_in z.call) →
        z.number ≤ applied_of (d.state_at (lead setup d (v + 1) (key_in z.call)) 0) p) (carried_at p v hp r o q);
    dir_begun = λ p hp t. (let b = s.carried.dir_begun p hp t in (b.0, b.1, omega (arith, b.2)));
    frozen = λ p hp t. old (λ l. (l.state_at l.top).frozen ≡ true) (c.tried_at p) (tried_there p hp t)
        (s.carried.frozen p hp t);
    lacks = λ p hp t. of_op p (λ z. applied_of (last d (c.tried_at p)) p < z.number)
        (old (λ l. applied_of (l.state_at l.top) p < (op p).number) (c.tried_at p) (tried_there p hp t)
        (s.carried.lacks p hp t));
    led = λ p hp t. of_op p (λ z. (u : ℕ) × (u ≤ c.dir_since p) × (lead setup d u (key_in z.call) ≡ c.tried_at p))
        (let l = s.carried.led p hp t in let b = s.carried.dir_begun p hp t in
        (l.0, l.1, lead_old l.0 (key_in (op p).call) (omega (arith, l.1, b.2)) ∙ l.2));
    replaced = λ p v hp t o q. of_op p (λ z. lead setup d (v + 1) (key_in z.call) ≢ c.tried_at p)
        (replaced_at p v hp t o q);
  }
    where
      carried_at : (p v : ℕ) → p < seats_of setup → c.rooted p ≡ true → c.first_dir p < v → v < d.dir_top →
          lead setup d (v + 1) (key_in (op p).call) ≢ lead setup d v (key_in (op p).call) →
          (op p).number ≤ applied_of (d.state_at (lead setup d (v + 1) (key_in (op p).call)) 0) p
      carried_at p v hp r o q n = elim (cases_eq v c.dir_top) [
        | inl e ↦ subst (λ u. c.first_dir p < u →
            lead setup d (u + 1) (key_in (op p).call) ≢ lead setup d u (key_in (op p).call) →
            (op p).number ≤ applied_of (d.state_at (lead setup d (u + 1) (key_in (op p).call)) 0) p) (sym e)
            (λ low m. subst (λ b. (op p).number ≤ applied_of (d.state_at b 0) p) (sym (lead_new (key_in (op p).call)))
            (carried_now p hp r low (λ z. m (lead_new (key_in (op p).call) ∙ z
            ∙ sym (lead_old c.dir_top (key_in (op p).call) (omega arith)))))) o n
        | inr m ↦
            let low : v < c.dir_top = omega (arith, q, m) in
            let a = lead_old v (key_in (op p).call) (omega (arith, low)) in
            let b = lead_old (v + 1) (key_in (op p).call) (omega (arith, low)) in
            subst (λ w. (op p).number ≤ applied_of (d.state_at w 0) p) (sym b)
            (old (λ l. (op p).number ≤ applied_of (l.state_at 0) p) (lead setup c (v + 1) (key_in (op p).call))
            (s.leads.there (v + 1) (key_in (op p).call) (omega (arith, low)))
            (s.carried.carried p v hp r o low (λ z. n (b ∙ z ∙ sym a))))
      ]

      replaced_at : (p v : ℕ) → p < seats_of setup → c.dir_tried p ≡ true → c.dir_since p < v → v < d.dir_top →
          lead setup d (v + 1) (key_in (op p).call) ≢ c.tried_at p
      replaced_at p v hp t o q = elim (cases_eq v c.dir_top) [
        | inl e ↦ subst (λ u. c.dir_since p < u → lead setup d (u + 1) (key_in (op p).call) ≢ c.tried_at p) (sym e)
            (λ low z. replaced_now p hp t low (sym (lead_new (key_in (op p).call)) ∙ z)) o
        | inr m ↦ (let low : v < c.dir_top = omega (arith, q, m) in
            λ z. s.carried.replaced p v hp t o low (sym (lead_old (v + 1) (key_in (op p).call) (omega (arith, low)))
            ∙ z))
      ]

  -- the announced ops are as they were
  calls : Calls setup d.memory.announced d.memory.op d.used d.op_at d.op_words
  calls = record {
    none = λ p hp e. ops_same p ∙ s.calls.none p hp e;
    posted = λ p hp n. (let q = s.calls.posted p hp n in (
      omega (arith, ops_same p, q.0),
      subst (λ o. c.memory.announced p ≡ op_no setup p (o - 1) + 1)
          (sym (ops_same p)) q.1,
    ));
    ops_are = λ p j i hp hj hi. s.calls.ops_are p j i hp (omega (arith, hj, ops_same p)) hi;
    sound = λ p j hp hj. s.calls.sound p j hp (omega (arith, hj, ops_same p));
    few = λ p hp. omega (arith, ops_same p, s.calls.few p hp);
  }

  -- all that is shared holds
  pub shared : Shared setup d
  shared = record {
    opened = s.opened;
    rows = rows;
    directories = directories;
    leads = leads;
    calls = calls;
    helped = helped;
    carried = carried;
  }

  -- what the exchange changes for the other seats
  pub moves : Moves setup me c d
  moves = record {
    dir_up = omega arith;
    dirs = λ v o. (let m : v ≢ c.dir_top + 1 = omega (arith, o) in
        (put_other c.dir_row (c.dir_top + 1) dir v m, put_other c.dir_at (c.dir_top + 1) now v m));
    named_up = λ b n. (
      old_named b n,
      old (λ l. l.pre ≡ c.pre b) b n refl,
      old (λ l. l.deep ≡ c.deep b) b n refl,
      old (λ l. c.top b ≤ l.top) b n (omega arith),
    );
    rows = λ b i n o. (
      old (λ l. l.row_at i ≡ c.row_at b i) b n refl,
      old (λ l. l.words_at i ≡ c.words_at b i) b n refl,
      old (λ l. l.state_at i ≡ c.state_at b i) b n refl,
    );
    last_up = λ b p n. old (λ l. applied_of (last c b) p ≤ applied_of (l.state_at l.top) p) b n (omega arith);
    now_up = λ key p. subst (λ b. applied_of (last c (lead setup c c.dir_top key)) p ≤ applied_of (last d b) p)
        (sym (lead_new key)) (now_up key p);
    frozen = λ b n f. old (λ l. l.top ≡ c.top b) b n refl;
    left = λ key v o n. subst (λ b. b ≢ lead setup c v key) (sym (lead_new key))
        (each_goes key (λ b. b ≢ lead setup c v key) (λ _. n) (λ i m _ e. not_new (lead setup c v key) i
        (s.leads.there v key o) m (sym e)));
    used = λ q n. put_other c.used me (with_directory (c.used me) many) q n;
    ops_up = λ p. omega (arith, ops_same p);
    calls = λ p j n. (refl, refl);
    roots = λ q n. (refl, refl);
    tries = λ q n. (refl, refl, refl);
    dir_tries = λ q n. (refl, refl);
    late = λ p t n. (t, refl, refl, ops_same p);
    late_root = λ p t n. (t, refl, ops_same p);
    late_dir = λ p t n. (t, refl, refl);
    own = λ q a n hq o. own q a n hq o;
  }
    where
      now_up : (key : Key) (p : ℕ) → applied_of (last c (lead setup c c.dir_top key)) p ≤ applied_of
          (last d (to key now)) p
      now_up key p = elim (x.goes key) [
        | inl a ↦ subst (λ b. applied_of (last c (lead setup c c.dir_top key)) p ≤ applied_of (last d b) p) (sym a)
            (old (λ l. applied_of (last c (lead setup c c.dir_top key)) p ≤ applied_of (l.state_at l.top) p)
            (lead setup c c.dir_top key) (there_now key) (omega arith))
        | inr a ↦ subst (λ b. applied_of (last c (lead setup c c.dir_top key)) p ≤ applied_of (last d b) p) (sym a.2)
            (new (λ l. applied_of (last c (lead setup c c.dir_top key)) p ≤ applied_of (l.state_at l.top) p) a.0 a.1
            (carries_from key a.0 a.1 a.4 p))
      ]

      own : (q : ℕ) (a : Address) → q ≢ me → q < seats_of setup → IsOwn setup q (c.used q) a →
          read d.memory a ≡ read c.memory a
      own q (OpWord r i) n hq o = refl
      own q (BucketRowWord r i) n hq o = refl
      own q (BucketWord r) n hq o = refl
      own q (DirectoryWord r i) n hq o = refl
      own q a n hq o = absurd (grind (arith, o))

  -- ---- what comes from what

  -- a place of a new leaf
  place_new : (i : ℕ) → i < many → (place : ℕ) × (place < 2 ^ now.depth)
      × (place / 2 ^ (now.depth - (leaf_at leaves i).depth) ≡ (leaf_at leaves i).prefix)
  place_new i n = first_place (leaf_at leaves i).prefix (leaf_at leaves i).depth now.depth (x.stands_new i n).shallow
      (x.sound i n).good.below

  -- so it stands in the new directory
  pub names_new : (i : ℕ) → i < many → Names now (fresh + i)
  names_new i n = (let p = place_new i n in (p.0, p.1, ((x.stands_new i n).places p.0 p.1).1 p.2))

  -- and the bucket that it comes from does not
  origin_gone : (i place : ℕ) → i < many → place < 2 ^ now.depth →
      get_or now.entries place 0 ≢ origin (get_or leaves i no_leaf)
  origin_gone i place n o e = elim (x.places place o) [
    | inr a ↦ not_new old_one a.0 w.there a.1 (sym e ∙ a.2)
    | inl a ↦
        let p = place_new i n in
        let stands : Stands now old_one (c.pre old_one) (c.deep old_one) =
        subst (λ b. Stands now b (c.pre b) (c.deep b)) e a.1 in
        let deep : now.depth - leaf.depth + (leaf.depth - c.deep old_one) ≡ now.depth - c.deep old_one =
        omega (arith, w.shallow, (x.stands_new i n).shallow) in
        let goes_on : p.0 / 2 ^ (now.depth - c.deep old_one) ≡ c.pre old_one =
        ap (λ k. p.0 / 2 ^ k) (sym deep) ∙ sym (shr-shr p.0 (now.depth - leaf.depth) (leaf.depth - c.deep old_one))
        ∙ ap (λ z. z / 2 ^ (leaf.depth - c.deep old_one)) p.2 ∙ w.prefix in
        not_new old_one i w.there n (sym ((stands.places p.0 p.1).1 goes_on)
        ∙ ((x.stands_new i n).places p.0 p.1).1 p.2)
  ]
    where
      leaf : BucketState
      leaf = leaf_at leaves i

      old_one : ℕ
      old_one = origin (get_or leaves i no_leaf)

      w : IsLeaf setup c c.dir_top loaded (get_or leaves i no_leaf)
      w = x.comes i n

  -- the directories, old and new
  pub dir_same : (v : ℕ) → v ≤ c.dir_top → d.dir_at v ≡ c.dir_at v
  dir_same v o = put_other c.dir_at (c.dir_top + 1) now v (omega (arith, o))

  -- and the new one
  pub dir_now : d.dir_at (c.dir_top + 1) ≡ now
  dir_now = put_same c.dir_at (c.dir_top + 1) now

  -- the directories and their bases
  each_base : (P : ℕ → ℕ → Option ℕ → Type 0) (v : ℕ) → v ≤ d.dir_top →
      P (c.dir_top + 1) dir (Some (c.dir_row c.dir_top)) → (v ≤ c.dir_top → P v (c.dir_row v) (c.dir_base v)) →
      P v (d.dir_row v) (d.dir_base v)
  each_base P v o n k = elim (cases_eq v (c.dir_top + 1)) [
    | inl e ↦ subst (λ u. P u (d.dir_row u) (d.dir_base u)) (sym e)
        (subst (λ r. P (c.dir_top + 1) r (d.dir_base (c.dir_top + 1))) (sym (put_same c.dir_row (c.dir_top + 1) dir))
        (subst (P (c.dir_top + 1) dir) (sym (put_same c.dir_base (c.dir_top + 1) (Some (c.dir_row c.dir_top)))) n))
    | inr m ↦ subst (λ r. P v r (d.dir_base v)) (sym (put_other c.dir_row (c.dir_top + 1) dir v m))
        (subst (P v (c.dir_row v)) (sym (put_other c.dir_base (c.dir_top + 1) (Some (c.dir_row c.dir_top)) v m))
        (k (omega (arith, o, m))))
  ]

  -- nothing that was published comes from elsewhere now
  pub recalls : Recalls c d
  recalls = record {
    origins = λ b n. (old (λ l. l.born ≡ c.born b) b n refl, old (λ l. l.from ≡ c.from b) b n refl);
    bases = λ b i n _. old (λ l. l.base_at i ≡ c.base_at b i) b n refl;
    dir_bases = λ v o. put_other c.dir_base (c.dir_top + 1) (Some (c.dir_row c.dir_top)) v (omega (arith, o));
  }

  module _ (t : Descends setup c) where
    -- who stands in the new directory: one of the last directory, or a new one
    pub each_entry : (P : ℕ → Type 0) (place : ℕ) → place < 2 ^ now.depth →
        ((b : ℕ) → c.named b ≡ true → Names (c.dir_at c.dir_top) b → P b) → ((i : ℕ) → i < many → P (fresh + i)) →
        P (get_or now.entries place 0)
    each_entry P place o was is = elim (x.places place o) [
      | inl a ↦ was (get_or now.entries place 0) a.0 a.2
      | inr a ↦ subst P (sym a.2) (is a.0 a.1)
    ]

    -- a bucket of the last directory is born by then
    born_by_top : (b : ℕ) → Names (c.dir_at c.dir_top) b → c.born b ≤ c.dir_top
    born_by_top b w = subst (λ z. c.born z ≤ c.dir_top) w.2 (t.entries c.dir_top w.0 (omega arith) w.1)

    -- a leaf comes from the last row of an old bucket
    comes_new : (i : ℕ) → i < many → Comes (line d (origin (get_or leaves i no_leaf))) (line_new i)
    comes_new i n = (let w = x.comes i n in
        old (λ l. Comes l (line_new i)) (origin (get_or leaves i no_leaf)) w.there
        (record {
          frozen = w.frozen;
          shallow = w.shallow;
          prefix = w.prefix;
          base = y.from i n ∙ w.base;
          carries = w.carries;
        }))

    -- the bucket that a bucket comes from is not named by the new directory, nor by one between
    gone_now : (b v place : ℕ) → d.named b ≡ true → d.born b ≡ v + 1 → place < 2 ^ now.depth →
        get_or now.entries place 0 ≢ d.from b
    gone_now b v place n e o = each (λ l. l.born ≡ v + 1 → get_or now.entries place 0 ≢ l.from) b n
        (λ z _. origin_gone (b - fresh) place (new_at b z).1 o)
        (λ z _ f. each_entry (λ r. r ≢ c.from b) place o
        (λ r _ w q. t.gone b v c.dir_top w.0 z f (omega (arith, f, t.born_within b z)) (omega arith) w.1 (w.2 ∙ q))
        (λ i m q. not_new (c.from b) i (t.there b v z f) m (sym q))) e

    -- nor by a directory between
    gone_before : (b v u place : ℕ) → d.named b ≡ true → d.born b ≡ v + 1 → v < u → u ≤ c.dir_top →
        place < 2 ^ (c.dir_at u).depth → get_or (c.dir_at u).entries place 0 ≢ d.from b
    gone_before b v u place n e less o m = each (λ l. l.born ≡ v + 1 → get_or (c.dir_at u).entries place 0 ≢ l.from) b n
        (λ _ f. absurd (omega (arith, f, less, o))) (λ z _ f. t.gone b v u place z f less o m) e

    -- so where rows and buckets come from is still known
    pub descends : Descends setup d
    descends = record {
      dir_says = λ v o. each_base (λ _ r q. base_of_word (c.memory.directory r 1) ≡ q) v o y.base_is
          (λ k. t.dir_says v k);
      dir_first = put_other c.dir_base (c.dir_top + 1) (Some (c.dir_row c.dir_top)) 0 (omega arith) ∙ t.dir_first;
      dir_bases = dir_bases;
      bases = λ b i n. each (λ l. i < l.top → l.base_at (i + 1) ≡ Some (l.row_at i)) b n
          (λ _ o. absurd (omega (arith, o))) (λ z _. t.bases b i z);
      opening = λ b n. each (λ l. l.born ≡ 0 → l.base_at 0 ≡ None) b n (λ _ e. absurd (omega (arith, e)))
          (λ z _. t.opening b z);
      starts = λ b n. each (λ l. setup.shape.settings.start ≤ l.deep) b n
          (λ z. (let w = x.comes (b - fresh) (new_at b z).1 in
          omega (
            arith,
            t.starts (origin (get_or leaves (b - fresh) no_leaf)) w.there,
            w.shallow,
          ))) (λ z _. t.starts b z);
      born_within = λ b n. each (λ l. l.born ≤ c.dir_top + 1) b n (λ _. omega arith)
          (λ z _. omega (arith, t.born_within b z));
      entries = λ v place o. each_dir (λ u _ a. place < 2 ^ a.depth → d.born (get_or a.entries place 0) ≤ u) v o
          (λ m. each_entry (λ b. d.born b ≤ c.dir_top + 1) place m
          (λ b z w. old (λ l. l.born ≤ c.dir_top + 1) b z (omega (arith, born_by_top b w)))
          (λ i n. new (λ l. l.born ≤ c.dir_top + 1) i n (omega arith)))
          (λ k m. old (λ l. l.born ≤ v) (get_or (c.dir_at v).entries place 0) (s.leads.every v place k m)
          (t.entries v place k m));
      present = λ b n. each (λ l. Names (d.dir_at l.born) b) b n
          (λ z. (let at = new_at b z in subst (λ a. Names a b) (sym dir_now)
          (subst (Names now) (sym at.0) (names_new (b - fresh) at.1))))
          (λ z _. subst (λ a. Names a b) (sym (dir_same (c.born b) (t.born_within b z))) (t.present b z));
      newcomers = λ v place o. newcomers v place (cases_eq v c.dir_top) o;
      there = λ b v n e. each (λ l. l.born ≡ v + 1 → d.named l.from ≡ true) b n
          (λ z _. old_named (origin (get_or leaves (b - fresh) no_leaf)) (x.comes (b - fresh) (new_at b z).1).there)
          (λ z _ f. old_named (c.from b) (t.there b v z f)) e;
      comes = λ b v n e. each (λ l. l.born ≡ v + 1 → Comes (line d l.from) l) b n
          (λ z _. comes_new (b - fresh) (new_at b z).1)
          (λ z _ f. old (λ l. Comes l (line c b)) (c.from b) (t.there b v z f) (t.comes b v z f)) e;
      stood = λ b v n e. each (λ l. l.born ≡ v + 1 → Names (d.dir_at v) l.from) b n
          (λ z f. (let here : v ≡ c.dir_top = omega (arith, f) in
          subst (λ a. Names a (origin (get_or leaves (b - fresh) no_leaf)))
          (sym (ap d.dir_at here ∙ dir_same c.dir_top (omega arith))) (x.comes (b - fresh) (new_at b z).1).stood))
          (λ z _ f. subst (λ a. Names a (c.from b)) (sym (dir_same v (omega (arith, f, t.born_within b z))))
          (t.stood b v z f)) e;
      gone = λ b v u place n e less o. each_dir (λ w _ a. v < w → place < 2 ^ a.depth →
          get_or a.entries place 0 ≢ d.from b) u o
          (λ _ m. gone_now b v place n e m) (λ k low m. gone_before b v u place n e low k m) less;
      parent_leads = λ v key o. parent_leads v key (cases_eq v c.dir_top) o;
    }
      where
        dir_bases : (v : ℕ) → v < c.dir_top + 1 → d.dir_base (v + 1) ≡ Some (d.dir_row v)
        dir_bases v o =
            let row : d.dir_row v ≡ c.dir_row v = put_other c.dir_row (c.dir_top + 1) dir v (omega (arith, o)) in
            elim (cases_eq v c.dir_top) [
              | inl e ↦ ap (λ u. d.dir_base (u + 1)) e
                  ∙ put_same c.dir_base (c.dir_top + 1) (Some (c.dir_row c.dir_top))
                  ∙ ap (λ u. Some (c.dir_row u)) (sym e) ∙ ap (λ r. Some r) (sym row)
              | inr m ↦ put_other c.dir_base (c.dir_top + 1) (Some (c.dir_row c.dir_top)) (v + 1) (omega (arith, m))
                  ∙ t.dir_bases v (omega (arith, o, m)) ∙ ap (λ r. Some r) (sym row)
            ]

        newcomers : (v place : ℕ) → (v ≡ c.dir_top) ⊎ (v ≢ c.dir_top) → v < c.dir_top + 1 →
            place < 2 ^ (d.dir_at (v + 1)).depth →
            Names (d.dir_at v) (get_or (d.dir_at (v + 1)).entries place 0)
            ⊎ (d.born (get_or (d.dir_at (v + 1)).entries place 0) ≡ v + 1)
        newcomers v place (inl e) o = subst (λ u. place < 2 ^ (d.dir_at (u + 1)).depth →
            Names (d.dir_at u) (get_or (d.dir_at (u + 1)).entries place 0)
            ⊎ (d.born (get_or (d.dir_at (u + 1)).entries place 0) ≡ u + 1)) (sym e)
            (subst (λ a. place < 2 ^ a.depth → Names (d.dir_at c.dir_top) (get_or a.entries place 0)
            ⊎ (d.born (get_or a.entries place 0) ≡ c.dir_top + 1)) (sym dir_now)
            (λ m. each_entry (λ b. Names (d.dir_at c.dir_top) b ⊎ (d.born b ≡ c.dir_top + 1)) place m
            (λ b _ w. inl (subst (λ a. Names a b) (sym (dir_same c.dir_top (omega arith))) w))
            (λ i n. inr (new (λ l. l.born ≡ c.dir_top + 1) i n refl))))
        newcomers v place (inr m) o =
            let low : v < c.dir_top = omega (arith, o, m) in
            subst (λ a. place < 2 ^ a.depth → Names (d.dir_at v) (get_or a.entries place 0)
            ⊎ (d.born (get_or a.entries place 0) ≡ v + 1)) (sym (dir_same (v + 1) (omega (arith, low))))
            (λ k. let b = get_or (c.dir_at (v + 1)).entries place 0 in elim (t.newcomers v place low k) [
              | inl w ↦ inl (subst (λ a. Names a b) (sym (dir_same v (omega (arith, low)))) w)
              | inr e ↦ inr (old (λ l. l.born ≡ v + 1) b (s.leads.every (v + 1) place (omega (arith, low)) k) e)
            ])

        parent_leads : (v : ℕ) (key : Key) → (v ≡ c.dir_top) ⊎ (v ≢ c.dir_top) → v < c.dir_top + 1 →
            lead setup d (v + 1) key ≢ lead setup d v key → d.from (lead setup d (v + 1) key) ≡ lead setup d v key
        parent_leads v key (inl e) o = subst (λ u. lead setup d (u + 1) key ≢ lead setup d u key →
            d.from (lead setup d (u + 1) key) ≡ lead setup d u key) (sym e)
            (subst (λ b. b ≢ lead setup d c.dir_top key → d.from b ≡ lead setup d c.dir_top key) (sym (lead_new key))
            (subst (λ b. to key now ≢ b → d.from (to key now) ≡ b) (sym (lead_old c.dir_top key (omega arith)))
            (λ n. elim (x.goes key) [
              | inl a ↦ absurd (n a)
              | inr a ↦ ap d.from a.2
                  ∙ new (λ l. l.from ≡ lead setup c c.dir_top key) a.0 a.1 a.4
            ])))
        parent_leads v key (inr m) o = (λ n.
            let low : v < c.dir_top = omega (arith, o, m) in
            let a = lead_old v key (omega (arith, low)) in let b = lead_old (v + 1) key (omega (arith, low)) in
            ap d.from b ∙ old (λ l. l.from ≡ lead setup c v key) (lead setup c (v + 1) key)
            (s.leads.there (v + 1) key (omega (arith, low)))
            (t.parent_leads v key low (λ z. n (b ∙ z ∙ sym a))) ∙ sym a)
