-- A directory is published, with its leaves: each op that the change took had no unit, has one now, and has its place
-- by it.
use Rattle.std.proofs.Common.{◌≡◌, ℕ, zero, suc, ◌+◌, ◌-◌, ◌*◌, ◌^◌, ◌<◌, ◌≤◌, ◌⊎◌, Bool, true, false, cond, eqb, List, [], ◌∷◌, length, get_or, Option, Some, None, true≢false, inl, inr, refl, sym, ap, ◌∙◌, subst, arith, eqb-true, eq-eqb}
use Rattle.std.specs.Prelude.{◌&&◌, All, IsSomeAnd}
use Rattle.std.proofs.lemmas.Bool.{cases_eq, cases_lt, cases_Bool, and_parts, and_from}
use Rattle.std.proofs.lemmas.List.{get_or_past, get_or_default}
use Rattle.plain_map.specs.declared.keys.Key.{Key}
use Rattle.plain_map.specs.declared.calls.Call.{Call}
use Rattle.plain_map.specs.declared.calls.Reply.{Reply}
use Rattle.plain_map.specs.declared.rules.Rules.{Rules}
use Rattle.plain_map.specs.declared.full.FullKind.TheVariants.{BucketRows, BucketWords, DirRows}
use Rattle.plain_map.specs.Calls.{key_in}
use Rattle.word_rows.specs.Memory.{put}
use Rattle.word_rows.proofs.MemoryLemmas.{put_is, put_same, put_other}
use Rattle.bucket_states.specs.declared.ops.Op.{Op}
use Rattle.bucket_states.specs.States.{BucketState}
use Rattle.bucket_states.specs.Laws.{Announces, applied_of, reply_at}
use Rattle.table_model.specs.Setup.{Setup, seats_of, rules_of, next_number}
use Rattle.table_model.specs.declared.rounds.Round.{Round}
use Rattle.table_model.specs.Directories.{DirectoryState, bucket_of}
use Rattle.table_model.specs.DirectoryChange.{LoadedBucket, is_bucket, loaded_of}
use Rattle.table_model.specs.DirectoryLaws.{CanChange}
use Rattle.table_model.specs.Leaves.{NewLeaf, is_in, leaf_of}
use Rattle.table_model.specs.Phases.{DirectoryTry, DirExchange}
use Rattle.table_model.specs.SeatStates.{Account, Flight}
use Rattle.table_model.specs.Stores.{made_leaves, made_directory}
use Rattle.change_laws.proofs.Weak.{ops_are_in_leaves}
use Rattle.run_invariant.proofs.Invariant.{Common, Local, Shared, Keeps, Moves, IsLoaded, lead, last, bits, most_leaves}
use Rattle.run_invariant.proofs.Change.{IsTry, AreFree, leaf_at, no_leaf, origin, number_in, numbers_free}
use Rattle.run_laws.proofs.Won
use Rattle.run_laws.proofs.Won.{grown_by, leaf_words, leaf_bases, all_found}
use Rattle.run_laws.proofs.PublishRoot.{is_new}
use Rattle.run_laws.proofs.FromLaws.{can_change}
use Rattle.run_laws.proofs.Changes.{changes_from_laws}
use Rattle.closed_laws.proofs.Clock.{Publishes, publishes_ticks, published as published_at}
use Rattle.closed_laws.proofs.Units.{Tally, Exchanges, counts_kept, current, applied_current, new_at_was, new_at_up, not_new_at}
use Rattle.order_laws.proofs.Tale.{past_of, Tale, frame, tally, lists, IsAnnounced, RowMade, IsLoadedAt, VersionMade, Told}
use Rattle.order_laws.proofs.Grows.{Grows, grows_moved, row_made, version_made}
use Rattle.order_laws.proofs.Facts.{IsCall, is_call, unplaced, ready}
use Rattle.order_laws.proofs.Grown.{new_at, is_new_at, old_not_new, unnamed, old_top, old_born, new_named, new_top, new_born, new_state, new_pre, new_deep}
use Rattle.order_laws.proofs.ChangeFacts.{takes, IsTakenOp, taken_from_test, test_from_taken, IsNumberOf, IsOfLeaf, of_leaf, IsOwnLeaf, own_leaf, leaf_leads}
use Rattle.list_laws.proofs.Options.{some_same, none_some}
use Rattle.order_laws.proofs.OnceLoaded.{found_once}

module _ (setup : Setup) (me : ℕ) (c : Common) (account : Account) (flight : Flight) (local : Local)
    (h : me < seats_of setup) (s : Shared setup c) (round : Round) (attempt : DirectoryTry)
    (found : List (Option Op)) (loaded : List LoadedBucket)
    (k : Keeps setup c me account.used flight local (DirExchange round attempt found loaded))
    (same : c.memory.root ≡ attempt.root) (t : Tale) (told : Told setup (past_of c) t) where
  -- the rules of the table
  abbrev rules : Rules
  rules = rules_of setup

  -- the new leaves
  abbrev leaves : List NewLeaf
  leaves = made_leaves setup attempt found loaded

  -- the first new bucket
  abbrev fresh : ℕ
  fresh = next_number setup me BucketWords account.used

  -- the new directory
  abbrev now : DirectoryState
  now = made_directory setup me account.used attempt found loaded

  -- how many leaves are new
  abbrev many : ℕ
  many = length leaves

  -- their spellings
  abbrev words : ℕ → List ℕ
  words = leaf_words setup loaded leaves

  -- their bases
  abbrev bases : ℕ → Option ℕ
  bases = leaf_bases loaded leaves

  -- the first new bucket row
  abbrev row : ℕ
  row = next_number setup me BucketRows account.used

  -- the new directory row
  abbrev dir : ℕ
  dir = next_number setup me DirRows account.used

  -- the history afterwards
  abbrev d : Common
  d = grown_by setup me account.used attempt found loaded c

  -- it moves as it must
  m : Moves setup me c d
  m = (Won.won changes_from_laws setup me c account flight local h s round attempt found loaded k same).moves

  -- the try is from the last version
  current_root : local.root ≡ c.dir_top
  current_root = s.directories.once local.root c.dir_top k.opens.looks.old (omega arith)
      (sym k.opens.looks.row_is ∙ sym same ∙ s.directories.root_is)

  -- and its directory is the last
  directory_is : attempt.directory ≡ c.dir_at c.dir_top
  directory_is = k.opens.directory_is ∙ ap c.dir_at current_root

  -- so it is a try of this version
  try : IsTry setup c me local.dir local.root flight.call round.bucket attempt found loaded
  try = record { opens = k.opens; all = k.all; entries = k.entries; loads = k.loads; whole = k.whole }

  -- and the change can be made
  pub can : CanChange rules (seats_of setup) attempt.directory loaded found
  can = can_change setup c me local.dir local.root round.bucket flight.call attempt found loaded s try

  -- there are few leaves
  few : many ≤ most_leaves setup
  few = (changes_from_laws setup).few c me local.dir local.root round.bucket flight.call attempt found loaded s try

  -- and their numbers are free
  free : AreFree c fresh many
  free = numbers_free setup me c h s account.used many k.works.flies.used_is
      (omega (arith, few, k.room.words, ap (λ u. u.bucket_words) k.works.flies.used_is))

  -- no entry of the old directory is one of the new numbers
  free_entries : All (λ number. (number < fresh) ⊎ (fresh + many ≤ number)) attempt.directory.entries
  free_entries = λ j x lt. apart (get_or attempt.directory.entries j x)
      (subst (λ z. c.named z ≡ true) (same_at attempt.directory.entries j x lt)
      (subst (λ (y : DirectoryState). c.named (get_or y.entries j 0) ≡ true) (sym directory_is)
      (s.leads.every c.dir_top j (omega arith)
      (subst (λ (y : DirectoryState). j < 2 ^ y.depth) directory_is (omega (arith, lt, can.places))))))
    where
      apart : (b : ℕ) → c.named b ≡ true → (b < fresh) ⊎ (fresh + many ≤ b)
      apart b n = elim (cases_lt b fresh) [
        | inl less ↦ inl less
        | inr low ↦ elim (cases_lt b (fresh + many)) [
          | inl less ↦ absurd (free b (b - fresh) n (omega (arith, low, less)) (omega (arith, low)))
          | inr past ↦ inr past
        ]
      ]

      same_at : (xs : List ℕ) (j x : ℕ) → j < length xs → get_or xs j 0 ≡ get_or xs j x
      same_at [] j x lt = absurd (omega (arith, lt))
      same_at (y ∷ xs) zero x lt = refl
      same_at (y ∷ xs) (suc j) x lt = same_at xs j x (omega (arith, lt))

  -- ---- what is new

  -- the op of a seat is taken, and has this number
  abbrev pub is_taken : ℕ → Option Op → ℕ → Bool
  is_taken q None n = false
  is_taken q (Some op) n = takes rules (seats_of setup) attempt.directory loaded found can q
      (Some op) && eqb op.number n

  -- the seat's number is that of a taken op
  abbrev pub is_new_call : ℕ → ℕ → Bool
  is_new_call q n = is_taken q (get_or found q None) n

  -- the numbers that are new in the version
  abbrev New : ℕ → ℕ → Type 0
  New q n = is_new_call q n ≡ true

  -- the tale with the version
  abbrev pub u : Tale
  u = record t {
    dir_made = put t.dir_made c.dir_top (record { ops = found; loaded = loaded; fresh = fresh });
    clock = published_at (frame setup (past_of c) t) t.clock is_new_call;
  }

  -- the op of a seat that was taken
  abbrev Took : ℕ → Op → Type 0
  Took q op = IsTakenOp rules (seats_of setup) attempt.directory loaded found can q op

  -- a new number is that of a taken op
  pub record IsNew (q n : ℕ) : Type 0 where
    pub op : Op
    pub took : Took q op
    pub number : op.number ≡ n

  -- what is new was taken
  new_is : (q n : ℕ) → New q n → IsNew q n
  new_is q n = go (get_or found q None) refl
    where
      go : (o : Option Op) → get_or found q None ≡ o → is_taken q o n ≡ true → IsNew q n
      go None f e = absurd (true≢false (sym e))
      go (Some op) f e =
          let parts = and_parts (takes rules (seats_of setup) attempt.directory loaded found can q (Some op))
          (eqb op.number n) e in
          record {
            op = op;
            took = taken_from_test rules (seats_of setup) attempt.directory loaded found can q op f
                parts.0;
            number = eqb-true op.number n parts.1;
          }

  -- and a taken op is new
  is_new_from : (q : ℕ) (op : Op) → Took q op → New q op.number
  is_new_from q op x = subst (λ o. is_taken q o op.number ≡ true) (sym x.announced)
      (and_from (takes rules (seats_of setup) attempt.directory loaded found can q (Some op))
      (eqb op.number op.number) (test_from_taken rules (seats_of setup) attempt.directory loaded found can q op
      x) (eq-eqb op.number op.number refl))

  -- what was found of a seat it had announced
  real : (q : ℕ) (op : Op) → Announces found q op → q < seats_of setup → IsAnnounced setup (past_of c) t q op
  real q op e inside = elim (k.entries q (omega (arith, inside, k.all))).real [
    | inl none ↦ absurd (none_some (sym none ∙ e))
    | inr r ↦ (r.0, r.1, some_same (sym e ∙ r.2))
  ]

  -- it is its seat's call
  call_of : (q n : ℕ) (x : IsNew q n) → IsCall setup (past_of c) t told q x.op
  call_of q n x = is_call setup (past_of c) t told q x.op x.took.inside (real q x.op x.took.announced x.took.inside)

  -- so its key is the call's
  key_is : (q n : ℕ) (x : IsNew q n) → key_in (t.call_at q n) ≡ key_in x.op.call
  key_is q n x = ap (λ z. key_in (t.call_at q z)) (sym x.number) ∙ ap key_in (call_of q n x).call_is

  -- ---- the loaded buckets

  -- a loaded bucket is as it must
  loaded_at : (l : LoadedBucket) → IsLoaded setup c me local.root l → IsLoadedAt setup (past_of c) t attempt.directory l
  loaded_at l x = record {
    key = x.key;
    leads = ap (λ (y : DirectoryState). bucket_of rules y x.key) k.opens.directory_is ∙ x.leads;
    named = x.sees.there;
    deep = ap (λ (y : BucketState). y.depth) x.state_is
        ∙ (s.rows.sound l.bucket x.base x.sees.there x.sees.old).depth_is;
    last = λ f.
        let open_ = s.rows.open_ l.bucket x.base x.sees.there in
        let frozen : (c.state_at l.bucket x.base).frozen ≡ true =
        ap (λ (y : BucketState). y.frozen) (sym x.state_is) ∙ f in
        let top : x.base ≡ c.top l.bucket = elim (cases_lt x.base (c.top l.bucket))
        [ inl less ↦ absurd (true≢false (sym frozen ∙ open_ less)) | inr most ↦ omega (arith, most, x.sees.old) ] in
        (x.state_is ∙ ap (c.state_at l.bucket) top, x.row_is ∙ ap (c.row_at l.bucket) top);
  }

  -- and so is one that is found among them
  found_at : (b : ℕ) (l : LoadedBucket) → loaded_of loaded b ≡ Some l →
      IsLoadedAt setup (past_of c) t attempt.directory l
  found_at b l e = loaded_at l (all_found (IsLoaded setup c me local.root) (is_bucket b) loaded l k.loads e)

  -- ---- the leaves

  -- where each leaf comes from
  leaf : (i : ℕ) → i < many → IsOfLeaf rules (seats_of setup) attempt.directory loaded found can
      (get_or leaves i no_leaf)
  leaf i lt = of_leaf rules (seats_of setup) attempt.directory loaded found can i lt

  -- the bucket of a leaf comes from the bucket that the leaf came from
  from_is : (b : ℕ) (n : is_new fresh many b ≡ true) →
      (let i = b - fresh in (lt : i < many) → d.from b ≡ (leaf i lt).bucket.bucket)
  from_is b n lt = ap (λ (x : Bool). cond x (origin (get_or leaves (b - fresh) no_leaf)) (c.from b)) n
      ∙ ap number_in (leaf (b - fresh) lt).is.from

  -- an old bucket comes from where it came from
  from_old : (b : ℕ) → c.named b ≡ true → d.from b ≡ c.from b
  from_old b n = ap (λ (x : Bool). cond x (origin (get_or leaves (b - fresh) no_leaf)) (c.from b))
      (old_not_new setup me leaves now words bases fresh row dir c free b n)

  -- the numbers before
  abbrev before : Tally (Option Reply)
  before = tally setup (past_of c) t

  -- and afterwards
  abbrev after : Tally (Option Reply)
  after = tally setup (past_of d) u

  -- what is shared holds afterwards
  shared : Shared setup d
  shared = (Won.won changes_from_laws setup me c account flight local h s round attempt found loaded k same).shared

  -- an old bucket has as many rows as before
  old_top_is : (b : ℕ) → c.named b ≡ true → d.top b ≡ c.top b
  old_top_is b n = old_top setup me leaves now words bases fresh row dir c free b n

  -- what a taken op's bucket was
  took_last : (q : ℕ) (op : Op) (x : Took q op) →
      (c.named x.bucket.bucket ≡ true) × (x.bucket.state ≡ last c x.bucket.bucket)
      × (lead setup c c.dir_top (key_in op.call) ≡ x.bucket.bucket)
  took_last q op x =
      let l = found_at (bucket_of rules attempt.directory (key_in op.call)) x.bucket x.found in (
        l.named,
        (l.last x.frozen).0,
        ap (λ (y : DirectoryState). bucket_of rules y (key_in op.call))
            (sym directory_is) ∙ sym x.bucket_is,
      )

  -- a bucket that is new
  record IsNewBucket (b : ℕ) : Type 0 where
    is_new_one : is_new fresh many b ≡ true
    at : b ≡ fresh + (b - fresh)
    inside : b - fresh < many
    state : d.state_at b 0 ≡ leaf_at leaves (b - fresh)
    from : d.from b ≡ (leaf (b - fresh) inside).bucket.bucket
    from_named : c.named (d.from b) ≡ true
    last_is : (leaf (b - fresh) inside).bucket.state ≡ last c (d.from b)

  -- a new bucket comes from a frozen one, with its numbers and the new ones
  is_new_bucket : (b : ℕ) → is_new fresh many b ≡ true → IsNewBucket b
  is_new_bucket b t_new =
      let at = new_at setup me leaves now words bases fresh row dir c free b t_new in
      let l = leaf (b - fresh) at.1 in
      let there = found_at l.bucket.bucket l.bucket l.is.found in
      let from = from_is b t_new at.1 in
      record {
        is_new_one = t_new;
        at = at.0;
        inside = at.1;
        state = new_state setup me leaves now words bases fresh row dir c free b 0 t_new;
        from = from;
        from_named = subst (λ x. c.named x ≡ true) (sym from) there.named;
        last_is = (there.last l.is.was_frozen).0 ∙ ap (last c) (sym from);
      }

  -- and each that was not named is new
  new_bucket : (b : ℕ) → d.named b ≡ true → c.named b ≡ false → IsNewBucket b
  new_bucket b n f = is_new_bucket b (unnamed setup me leaves now words bases fresh row dir c free b n f)

  -- the new version has the new directory
  dir_now : d.dir_at (c.dir_top + 1) ≡ now
  dir_now = put_same c.dir_at (c.dir_top + 1) now

  -- the leaf of a taken op, as a bucket
  own_of : (q : ℕ) (op : Op) (x : Took q op) →
      IsOwnLeaf rules (seats_of setup) attempt.directory loaded found can fresh free_entries q op x
  own_of q op x = own_leaf rules (seats_of setup) attempt.directory loaded found can fresh free_entries q op x

  -- a leaf's bucket is new
  own_new : (i : ℕ) → i < many → is_new fresh many (fresh + i) ≡ true
  own_new i lt = is_new_at setup me leaves now words bases fresh row dir c free i lt

  -- and has the leaf's state
  own_state : (i : ℕ) → i < many → d.state_at (fresh + i) 0 ≡ leaf_at leaves i
  own_state i lt = new_state setup me leaves now words bases fresh row dir c free (fresh + i) 0 (own_new i lt)
      ∙ ap (leaf_at leaves) (omega arith)

  -- a number of a new bucket is that of the bucket it comes from, or new
  leaf_goes : (b q : ℕ) (x : IsNewBucket b) →
      ((applied_of (d.state_at b 0) q ≡ applied_of (last c (d.from b)) q)
      × (reply_at (d.state_at b 0) q ≡ reply_at (last c (d.from b)) q))
      ⊎ IsNumberOf rules (seats_of setup) attempt.directory loaded found can (get_or leaves (b - fresh) no_leaf)
      (leaf (b - fresh) x.inside).bucket q
  leaf_goes b q x = elim ((leaf (b - fresh) x.inside).number q) [
    | inl e ↦ inl (
      ap (λ (y : BucketState). applied_of y q) x.state ∙ e.0
          ∙ ap (λ (y : BucketState). applied_of y q) x.last_is,
      ap (λ (y : BucketState). reply_at y q) x.state ∙ e.1
          ∙ ap (λ (y : BucketState). reply_at y q) x.last_is,
    )
    | inr n ↦ inr n
  ]

  -- a new number is above the current one of its key
  above : (q n : ℕ) → New q n → current before (key_in (t.call_at q n)) q < n
  above q n e =
      let x = new_is q n e in
      let l = took_last q x.op x.took in
      let at : lead setup c c.dir_top (key_in (t.call_at q n)) ≡ x.took.bucket.bucket =
      ap (lead setup c c.dir_top) (key_is q n x) ∙ l.2 in
      omega (
        arith,
        x.took.above,
        x.number,
        ap (λ (y : BucketState). applied_of y q) l.1,
        ap (λ b. applied_of (last c b) q) at,
      )

  -- a number that is new stood in no row
  not_there : (b i q : ℕ) → c.named b ≡ true → i ≤ c.top b → New q (applied_of (c.state_at b i) q) → ⊥
  not_there b i q n o e =
      let up = above q (applied_of (c.state_at b i) q) e in
      omega (arith, up, applied_current before told.counts b i q (record { named = n; inside = o }) (omega (arith, up)))

  -- so the number of a new bucket that is new is that of a taken op
  new_number : (b q : ℕ) (x : IsNewBucket b) → New q (applied_of (d.state_at b 0) q) →
      IsNumberOf rules (seats_of setup) attempt.directory loaded found can (get_or leaves (b - fresh) no_leaf)
      (leaf (b - fresh) x.inside).bucket q
  new_number b q x e = elim (leaf_goes b q x) [
    | inl old ↦ absurd (not_there (d.from b) (c.top (d.from b)) q x.from_named (omega arith) (subst (New q) old.0 e))
    | inr n ↦ n
  ]

  -- the reply of such a number is that of the leaf of the op's key
  same_reply : (a b : BucketState) (q : ℕ) (x y : Op) (o : Option NewLeaf) →
      leaf_of rules (key_in x.call) leaves ≡ o → x ≡ y →
      IsSomeAnd (leaf_of rules (key_in x.call) leaves) (λ own. reply_at a q ≡ reply_at own.bucket q) →
      IsSomeAnd (leaf_of rules (key_in y.call) leaves) (λ own. reply_at b q ≡ reply_at own.bucket q) →
      reply_at a q ≡ reply_at b q
  same_reply a b q x y o e f r w =
      go o (subst (λ z. IsSomeAnd z (λ own. reply_at a q ≡ reply_at own.bucket q)) e r)
      (subst (λ z. IsSomeAnd z (λ own. reply_at b q ≡ reply_at own.bucket q)) e
      (subst (λ z. IsSomeAnd (leaf_of rules (key_in z.call) leaves)
      (λ own. reply_at b q ≡ reply_at own.bucket q)) (sym f) w))
    where
      go : (z : Option NewLeaf) → IsSomeAnd z (λ own. reply_at a q ≡ reply_at own.bucket q) →
          IsSomeAnd z (λ own. reply_at b q ≡ reply_at own.bucket q) → reply_at a q ≡ reply_at b q
      go None x y = elim x [ ]
      go (Some own) x y = x ∙ sym y

  -- an old bucket has the same keys
  suits_same : (b : ℕ) (key : Key) → c.named b ≡ true →
      (bits setup (d.deep b) key ≡ bits setup (c.deep b) key) × (d.pre b ≡ c.pre b)
  suits_same b key n = let up = m.named_up b n in (ap (λ z. bits setup z key) up.2, up.1)

  -- so the numbers are exchanged as they must
  exchanges : Exchanges before after New
  exchanges = record {
    keys = λ q n. refl;
    dir_up = omega arith;
    dir_one = omega arith;
    named_up = λ b n. (m.named_up b n).0;
    top_up = λ b n. (m.named_up b n).3;
    top_one = λ b n. omega (arith, old_top_is b n);
    old_born = λ b n. (old_born setup me leaves now words bases fresh row dir c free b n, from_old b n);
    old_rows = λ b i q r. let e = (m.rows b i r.named r.inside).2 in
        (ap (λ (x : BucketState). applied_of x q) e, ap (λ (x : BucketState). reply_at x q) e);
    old_suits = λ b key n x. let e = suits_same b key n in sym e.0 ∙ x ∙ e.1;
    suits_up = λ b key n x. let e = suits_same b key n in e.0 ∙ x ∙ sym e.1;
    newborn = λ b n f. let x = new_bucket b n f in (
      new_top setup me leaves now words bases fresh row dir c free b x.is_new_one,
      new_born setup me leaves now words bases fresh row dir c free b x.is_new_one,
      refl,
      x.from_named,
    );
    frozen = λ b n one. elim (cases_Bool (c.named b)) [
      | inl w ↦
          let there = told.counts.from_named b w
          (omega (arith, one, old_born setup me leaves now words bases fresh row dir c free b w)) in
          ap d.top (from_old b w) ∙ old_top_is (c.from b) there ∙ ap c.top (sym (from_old b w))
      | inr f ↦ old_top_is (d.from b) (new_bucket b n f).from_named
    ];
    rises = λ key q. m.now_up key q;
    there = λ key. shared.leads.there d.dir_top key (omega arith);
    grown = λ b key n less suits. absurd (omega (arith, less, old_top_is b n));
    leads_new = λ b key n f suits.
        let x = new_bucket b n f in
        let fits : bits setup (leaf_at leaves (b - fresh)).depth key ≡ (leaf_at leaves (b - fresh)).prefix =
        ap (λ z. bits setup z key) (sym (new_deep setup me leaves now words bases fresh row dir c free b
        x.is_new_one)) ∙ suits ∙ new_pre setup me leaves now words bases fresh row dir c free b x.is_new_one in
        ap (λ (y : DirectoryState). bucket_of rules y key) dir_now
        ∙ leaf_leads rules (seats_of setup) attempt.directory loaded found can fresh free_entries key
        (b - fresh) x.inside fits ∙ sym x.at;
    row_new = λ b q n less. absurd (omega (arith, less, old_top_is b n));
    leaf_new = λ b q n f. let x = new_bucket b n f in elim (leaf_goes b q x) [
      | inl e ↦ inl e
      | inr o ↦
          let number : applied_of (d.state_at b 0) q ≡ o.op.number =
          ap (λ (y : BucketState). applied_of y q) x.state ∙ o.number in
          inr (
            subst (New q) (sym number) (is_new_from q o.op o.taken),
            omega (
              arith,
              o.taken.above,
              number,
              ap (λ (z : LoadedBucket). applied_of z.state q) o.same,
              ap (λ (y : BucketState). applied_of y q) x.last_is,
            ),
          )
    ];
    new_above = above;
    new_leaf = λ b q n f e.
        let x = new_is q (applied_of (d.state_at b 0) q) e in
        let own = own_of q x.op x.took in
        let c2 = fresh + own.i in
        let fresh_one = own_new own.i own.inside in
        let back : fresh + own.i - fresh ≡ own.i = omega arith in (
          c2,
          record {
            named = new_named setup me leaves now words bases fresh row dir c free c2 fresh_one;
            inside = omega arith;
          },
          ap (λ z. bits setup z (key_in (t.call_at q (applied_of (d.state_at b 0) q))))
              (new_deep setup me leaves now words bases fresh row dir c free c2 fresh_one
              ∙ ap (λ i. (leaf_at leaves i).depth) back)
              ∙ ap (bits setup (leaf_at leaves own.i).depth) (key_is q (applied_of (d.state_at b 0) q) x)
              ∙ eqb-true (bits setup (leaf_at leaves own.i).depth (key_in x.op.call))
              (leaf_at leaves own.i).prefix own.has
              ∙ ap (λ i. (leaf_at leaves i).prefix) (sym back)
              ∙ sym (new_pre setup me leaves now words bases fresh row dir c free c2 fresh_one),
          ap (λ (y : BucketState). applied_of y q) (own_state own.i own.inside) ∙ own.number ∙ x.number,
        );
    new_one = λ q n j e f. let x = new_is q n e in let y = new_is q j f in
        sym x.number ∙ ap (λ (o : Op). o.number) (some_same (sym x.took.announced ∙ y.took.announced)) ∙ y.number;
    one_bucket = λ a b n o l r. absurd (omega (arith, l, old_top_is a n));
    row_not_version = λ b n l. absurd (omega (arith, l, old_top_is b n));
    leaf_reply = λ a b q na fa nb fb e is.
        let x = new_bucket a na fa in
        let y = new_bucket b nb fb in
        let p = new_number a q x e in
        let r = new_number b q y (subst (New q) is e) in
        ap (λ (z : BucketState). reply_at z q) x.state
        ∙ same_reply (leaf_at leaves (a - fresh)) (leaf_at leaves (b - fresh)) q p.op r.op
        (leaf_of rules (key_in p.op.call) leaves) refl (some_same (sym p.taken.announced ∙ r.taken.announced))
        p.reply r.reply
        ∙ ap (λ (z : BucketState). reply_at z q) (sym y.state);
  }

  -- and the places rise
  pub publishes : Publishes (frame setup (past_of c) t) (frame setup (past_of d) u) (lists setup (past_of c) t)
      (lists setup (past_of d) u) t.clock New is_new_call
  publishes = record {
    dir_up = omega arith;
    dir_one = omega arith;
    named_up = exchanges.named_up;
    top_up = exchanges.top_up;
    top_one = exchanges.top_one;
    born_same = exchanges.old_born;
    newborn = exchanges.newborn;
    frozen = exchanges.frozen;
    which = λ q n e. e;
    without = λ q n e.
        let x = new_is q n e in
        subst (λ z. t.clock.call q z ≡ None) x.number
        (unplaced setup (past_of c) t told q x.op x.took.inside (real q x.op x.took.announced x.took.inside)
        (λ b i at. not_new_at before after New exchanges told.counts b i q x.op.number at
        (subst (New q) (sym x.number) e)));
    ready = λ q n z j e a. let x = new_is q n e in
        ready setup (past_of c) t told q n z j x.took.inside (omega (arith, (call_of q n x).few, x.number)) a;
    after = λ q n z j a. a;
    looked = λ q n a i e. e;
    looked_up = λ q n a i e. e;
    in_row = λ b i q n at. elim (new_at_was before after New exchanges told.counts b i q n at)
        [ inl o ↦ inl o | inr o ↦ inr (o.0, o.1.named, o.1.inside, o.2) ];
    in_row_up = λ b i q n at. new_at_up before after New exchanges told.counts b i q n at;
    new_in = λ q n e.
        let x = new_is q n e in
        let own = own_of q x.op x.took in
        let at = is_new_bucket (fresh + own.i) (own_new own.i own.inside) in
        let state = own_state own.i own.inside in
        let from : d.from (fresh + own.i) ≡ x.took.bucket.bucket =
        from_own own.i own.inside x.took.bucket.bucket own.from in
        let last = took_last q x.op x.took in (
          fresh + own.i,
          0,
          (
            c.dir_top,
            record {
              inside = omega arith;
              bucket = fresh + own.i;
              named = new_named setup me leaves now words bases fresh row dir c free (fresh + own.i) at.is_new_one;
              born = new_born setup me leaves now words bases fresh row dir c free (fresh + own.i) at.is_new_one;
              above = omega (
                arith,
                x.took.above,
                x.number,
                ap (λ (y : BucketState). applied_of y q) (last.1 ∙ ap (last_of c) (sym from)),
                ap (λ (y : BucketState). applied_of y q) (last_same (d.from (fresh + own.i)) at.from_named),
              );
              is = ap (λ (y : BucketState). applied_of y q) state ∙ own.number ∙ x.number;
            },
            refl,
          ),
        );
    waits = λ q n v e. e;
  }
    where
      last_of : Common → ℕ → BucketState
      last_of x b = last x b

      last_same : (b : ℕ) → c.named b ≡ true → last d b ≡ last c b
      last_same b n = ap (d.state_at b) (old_top_is b n) ∙ (m.rows b (c.top b) n (omega arith)).2

      from_own : (i : ℕ) → i < many → (b : ℕ) → (get_or leaves i no_leaf).from ≡ Some b → d.from (fresh + i) ≡ b
      from_own i lt b e =
          let back : fresh + i - fresh ≡ i = omega arith in
          ap (λ (x : Bool). cond x (origin (get_or leaves (fresh + i - fresh) no_leaf)) (c.from (fresh + i)))
          (own_new i lt)
          ∙ ap (λ j. origin (get_or leaves j no_leaf)) back ∙ ap number_in e

  -- the tale grows
  pub grows : Grows me flight.number (past_of c) t (past_of d) u
  grows = grows_moved setup me flight.number c d t u m (λ q. refl) (λ q n. (refl, λ x. refl, refl, refl))

  -- the new version was made so
  new_version : VersionMade setup (past_of d) u c.dir_top (d.dir_at c.dir_top) (d.dir_at (c.dir_top + 1))
      (record { ops = found; loaded = loaded; fresh = fresh })
  new_version =
      subst (λ x. VersionMade setup (past_of d) u c.dir_top x (d.dir_at (c.dir_top + 1))
      (record { ops = found; loaded = loaded; fresh = fresh }))
      (sym ((m.dirs c.dir_top (omega arith)).1 ∙ sym directory_is))
      (subst (λ x. VersionMade setup (past_of d) u c.dir_top attempt.directory x
      (record { ops = found; loaded = loaded; fresh = fresh })) (sym dir_now) made)
    where
      made : VersionMade setup (past_of d) u c.dir_top attempt.directory now
          (record { ops = found; loaded = loaded; fresh = fresh })
      made = record {
        can = can;
        real = λ q op e. let r = real q op e (announced q op e) in
            (r.0, omega (arith, r.1, m.ops_up q), r.2 ∙ sym (m.calls q r.0 r.1).0);
        is = refl;
        loads = λ j x lt. still (get_or loaded j x) (loaded_at (get_or loaded j x) (k.loads j x lt));
        once = found_once loaded k.once;
        free = free_entries;
        leaves = λ i x lt. let b = is_new_bucket (fresh + i) (own_new i lt) in record {
          named = new_named setup me leaves now words bases fresh row dir c free (fresh + i) b.is_new_one;
          born = new_born setup me leaves now words bases fresh row dir c free (fresh + i) b.is_new_one;
          state = own_state i lt ∙ ap (λ (z : NewLeaf). z.bucket) (get_or_default leaves i no_leaf x lt);
          from = ap (λ (z : NewLeaf). z.from) (sym (get_or_default leaves i no_leaf x lt)) ∙ (leaf i lt).is.from
              ∙ ap (λ z. Some z) (sym (from_own i lt (leaf i lt).bucket.bucket (leaf i lt).is.from));
        };
        only = λ b n e. elim (cases_Bool (c.named b)) [
          | inl w ↦ absurd (omega (
            arith,
            told.counts.born_within b w,
            old_born setup me leaves now words bases fresh row dir c free b w,
            e,
          ))
          | inr f ↦ let x = new_bucket b n f in (b - fresh, x.inside, x.at)
        ];
      }
        where
          announced : (q : ℕ) (op : Op) → Announces found q op → q < seats_of setup
          announced q op e = elim (cases_lt q (seats_of setup)) [
            | inl y ↦ y
            | inr past ↦ absurd
                (none_some (sym (get_or_past found q None (omega (arith, past, k.all))) ∙ e))
          ]

          from_own : (i : ℕ) → i < many → (b : ℕ) → (get_or leaves i no_leaf).from ≡ Some b → d.from (fresh + i) ≡ b
          from_own i lt b e =
              let back : fresh + i - fresh ≡ i = omega arith in
              ap (λ (x : Bool). cond x (origin (get_or leaves (fresh + i - fresh) no_leaf)) (c.from (fresh + i)))
              (own_new i lt)
              ∙ ap (λ j. origin (get_or leaves j no_leaf)) back ∙ ap number_in e

          still : (l : LoadedBucket) → IsLoadedAt setup (past_of c) t attempt.directory l →
              IsLoadedAt setup (past_of d) u attempt.directory l
          still l x = record {
            key = x.key;
            leads = x.leads;
            named = (m.named_up l.bucket x.named).0;
            deep = x.deep ∙ sym (m.named_up l.bucket x.named).2;
            last = λ f. let r = x.last f in let e = m.rows l.bucket (c.top l.bucket) x.named (omega arith) in
                let top = old_top_is l.bucket x.named in
                (r.0 ∙ sym e.2 ∙ ap (d.state_at l.bucket) (sym top), r.1 ∙ sym e.0 ∙ ap (d.row_at l.bucket) (sym top));
          }

  -- so the tale is told afterwards
  pub told_then : Told setup (past_of d) u
  told_then = record {
    counts = counts_kept before after New exchanges told.counts;
    ticks = publishes_ticks (frame setup (past_of c) t) (frame setup (past_of d) u) (lists setup (past_of c) t)
        (lists setup (past_of d) u) t.clock New is_new_call publishes told.ticks;
    seen_few = told.seen_few;
    seen_none = told.seen_none;
    placed = λ q n inside one less. let r = told.placed q n inside one less in (r.0, keeps q n r.0 r.1);
    ops = λ q j inside less. told.ops q j inside (omega (arith, less, ops_same q));
    applied = λ b i q n o inside some. elim (cases_Bool (c.named b)) [
      | inl w ↦
          let low : i ≤ c.top b = omega (arith, o, old_top_is b w) in
          let e = ap (λ (x : BucketState). applied_of x q) (m.rows b i w low).2 in
          let r = told.applied b i q w low inside (omega (arith, some, e)) in
          (r.0, omega (arith, r.1, ops_same q), e ∙ r.2)
      | inr f ↦
          let x = new_bucket b n f in
          let at : i ≡ 0 = omega (
            arith,
            o,
            new_top setup me leaves now words bases fresh row dir c free b
                x.is_new_one,
          ) in
          subst (λ j. 0 < applied_of (d.state_at b j) q →
          (z : ℕ) × (z < (d.used q).op_rows) × (applied_of (d.state_at b j) q ≡ (c.op_at q z).number)) (sym at)
          (λ more. elim (leaf_goes b q x) [
            | inl e ↦
                let r = told.applied (d.from b) (c.top (d.from b)) q x.from_named (omega arith) inside
                (omega (arith, more, e.0)) in
                (r.0, omega (arith, r.1, ops_same q), e.0 ∙ r.2)
            | inr e ↦
                let r = real q e.op e.taken.announced inside in (
                  r.0,
                  omega (arith, r.1, ops_same q),
                  ap (λ (y : BucketState). applied_of y q) x.state ∙ e.number
                      ∙ ap (λ (z : Op). z.number) r.2,
                )
          ]) some
    ];
    looks = told.looks;
    first_leaf = λ b n e. elim (cases_Bool (c.named b)) [
      | inl w ↦ let r = told.first_leaf b w (sym (old_born setup me leaves now words bases fresh row dir c free b w)
          ∙ e) in (r.0, (m.rows b 0 w (omega arith)).2 ∙ r.1)
      | inr f ↦ absurd (omega (
        arith,
        e,
        new_born setup me leaves now words bases fresh row dir c free b
            (new_bucket b n f).is_new_one,
      ))
    ];
    first_dir = (m.dirs 0 (omega arith)).1 ∙ told.first_dir;
    rows = λ b i n o. elim (cases_Bool (c.named b)) [
      | inl w ↦
          let low : i < c.top b = omega (arith, o, old_top_is b w) in
          subst (λ x. RowMade setup (past_of d) u x (d.state_at b (i + 1)) (t.row_ops b i))
          (sym (m.rows b i w (omega (arith, low))).2)
          (subst (λ x. RowMade setup (past_of d) u (c.state_at b i) x (t.row_ops b i))
          (sym (m.rows b (i + 1) w (omega (arith, low))).2)
          (row_made setup me flight.number (past_of c) t (past_of d) u grows (c.state_at b i) (c.state_at b (i + 1))
          (t.row_ops b i) (told.rows b i w low)))
      | inr f ↦ absurd (omega (
        arith,
        o,
        new_top setup me leaves now words bases fresh row dir c free b
            (new_bucket b n f).is_new_one,
      ))
    ];
    versions = λ v o. elim (cases_eq v c.dir_top) [
      | inl e ↦ subst (λ x. VersionMade setup (past_of d) u x (d.dir_at x) (d.dir_at (x + 1)) (u.dir_made x)) (sym e)
          (subst (VersionMade setup (past_of d) u c.dir_top (d.dir_at c.dir_top) (d.dir_at (c.dir_top + 1)))
          (sym (put_same t.dir_made c.dir_top (record { ops = found; loaded = loaded; fresh = fresh })))
          new_version)
      | inr other ↦
          let low : v < c.dir_top = omega (arith, o, other) in
          subst (λ x. VersionMade setup (past_of d) u v x (d.dir_at (v + 1)) (u.dir_made v))
          (sym (m.dirs v (omega (arith, low))).1)
          (subst (λ x. VersionMade setup (past_of d) u v (c.dir_at v) x (u.dir_made v))
          (sym (m.dirs (v + 1) (omega (arith, low))).1)
          (subst (VersionMade setup (past_of d) u v (c.dir_at v) (c.dir_at (v + 1)))
          (sym (put_other t.dir_made c.dir_top (record { ops = found; loaded = loaded; fresh = fresh }) v other))
          (version_made setup me flight.number (past_of c) t (past_of d) u grows v (c.dir_at v) (c.dir_at (v + 1))
          (t.dir_made v)
          (λ b n. (from_old b n, old_born setup me leaves now words bases fresh row dir c free b n))
          (λ b n e. was_there v b low n e) (λ b n f. m.frozen b n f) (told.versions v low))))
    ];
  }
    where
      ops_same : (q : ℕ) → (d.used q).op_rows ≡ (c.used q).op_rows
      ops_same q = grind (arith, put_is, eqb-true)

      keeps : (q n y : ℕ) → t.clock.call q n ≡ Some y → u.clock.call q n ≡ Some y
      keeps q n y e = elim (cases_Bool (is_new_call q n)) [
        | inl new ↦ absurd (none_some (sym (publishes.without q n new) ∙ e))
        | inr old ↦ ap (λ (z : Bool). cond z (Some (2 * t.clock.time + 1)) (t.clock.call q n)) old ∙ e
      ]

      was_there : (v b : ℕ) → v < c.dir_top → d.named b ≡ true → d.born b ≡ v + 1 → c.named b ≡ true
      was_there v b low n e = elim (cases_Bool (c.named b)) [
        | inl w ↦ w
        | inr f ↦ absurd (omega (
          arith,
          low,
          e,
          new_born setup me leaves now words bases fresh row dir c free b
              (new_bucket b n f).is_new_one,
        ))
      ]

  -- the row of a leaf
  pub record IsLeafRow (i : ℕ) : Type 0 where
    pub bucket : ℕ
    pub named : d.named bucket ≡ true
    pub row : next_number setup me BucketRows account.used + i ≡ d.row_at bucket 0
    pub state : d.state_at bucket 0 ≡ leaf_at leaves i
    pub suits : (key : Key) → is_in rules key (leaf_at leaves i) ≡ true → bits setup (d.deep bucket) key ≡ d.pre bucket
    -- the seat's own op is in it, where it has the key
    pub takes : (number : ℕ) (call : Call) → is_in rules (key_in call) (leaf_at leaves i) ≡ true →
        c.op_at me ((c.used me).op_rows - 1) ≡ record { seat = me; number = number; call = call } →
        number ≤ applied_of (leaf_at leaves i) me

  -- the row of each leaf
  pub leaf_row : (i : ℕ) → i < many → IsLeafRow i
  leaf_row i lt =
      let b = fresh + i in
      let new_one = own_new i lt in
      let back : b - fresh ≡ i = omega arith in
      record {
        bucket = b;
        named = new_named setup me leaves now words bases fresh row dir c free b new_one;
        row = ap (λ z. row + z) (sym back) ∙ sym (ap (λ (x : Bool). cond x (λ (_ : ℕ). row + (b - fresh))
            (c.row_at b) 0) new_one);
        state = own_state i lt;
        suits = λ key has. ap (λ z. bits setup z key)
            (new_deep setup me leaves now words bases fresh row dir c free b new_one
            ∙ ap (λ z. (leaf_at leaves z).depth) back)
            ∙ eqb-true (bits setup (leaf_at leaves i).depth key) (leaf_at leaves i).prefix has
            ∙ ap (λ z. (leaf_at leaves z).prefix) (sym back)
            ∙ sym (new_pre setup me leaves now words bases fresh row dir c free b new_one);
        takes = λ number call has is.
            let found_me = (k.entries me (omega (arith, k.all, h))).own refl in
            ops_are_in_leaves rules (seats_of setup) me (record { seat = me; number = number; call = call })
            attempt.directory loaded found can (found_me ∙ ap (λ (z : Op). Some z) is) i no_leaf lt has;
      }
