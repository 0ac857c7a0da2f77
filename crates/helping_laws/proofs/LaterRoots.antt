-- What every announced update has of the directory tries with a later root than one that it knew: a layer from that
-- moment on.
use Rattle.std.proofs.Common.{◌≡◌, ◌≢◌, ℕ, ◌+◌, ◌-◌, ◌^◌, ◌<◌, ◌≤◌, Bool, true, false, cond, eqb, ltb, leb, List, [], ◌∷◌, length, get_or, take, inl, inr, refl, sym, ap, ◌∙◌, subst, arith, eqb-true, lt-ltb, le-leb}
use Rattle.std.specs.Prelude.{Option, Some, None, All, ◌++◌}
use Rattle.std.proofs.lemmas.Bool.{cond_both, and_from, cases_eq, cases_lt, ltb-false, eqb-false}
use Rattle.std.proofs.lemmas.List.{length_push, get_or_push, get_or_append_left}
use Rattle.step_counts.specs.declared.TheConstants.{OP_WORDS}
use Rattle.step_counts.specs.StepCounts.{bucket_row_words}
use Rattle.step_counts.specs.declared.rows.SeatRows.{SeatRows}
use Rattle.plain_map.specs.declared.full.FullKind.TheVariants.{BucketWords}
use Rattle.plain_map.specs.declared.keys.Key.{Key}
use Rattle.plain_map.specs.Calls.{key_in}
use Rattle.word_rows.proofs.MemoryLemmas.{put_same}
use Rattle.bucket_states.specs.declared.ops.Op.{Op}
use Rattle.bucket_states.specs.States.{BucketState}
use Rattle.bucket_states.specs.Laws.{applied_of}
use Rattle.table_model.specs.Setup.{Setup, seats_of, rules_of, settings_of, next_number}
use Rattle.table_model.specs.Directories.{DirectoryState, bucket_of}
use Rattle.table_model.specs.Leaves.{NewLeaf}
use Rattle.table_model.specs.declared.rounds.Aim.TheVariants.{ForLookup, ForFirstRound, ForSecondRound, ForLastLook}
use Rattle.table_model.specs.declared.rounds.Round.{Round}
use Rattle.table_model.specs.DirectoryChange.{LoadedBucket, next_bucket}
use Rattle.table_model.specs.Phases.{DirectoryTry, Phase, FindRoot, TryWord, TryExchange, DirRoot, DirDepth, DirEntries, DirAnnouncement, DirOp, DirWord, DirRow, DirStore, DirExchange, StoreDone}
use Rattle.table_model.specs.SeatStates.{Account, Flight, Stand, Idle, InFlight}
use Rattle.table_model.specs.Asks.{ask_in}
use Rattle.table_model.specs.Goes.{state_after, phase_after, after_round, after_dir_found, after_entries, after_directory, after_loaded, load_or_store, bucket_in_words, op_in_words, more}
use Rattle.table_model.specs.Stores.{made_leaves, made_directory, directory_puts}
use Rattle.table_model.specs.Worlds.{World, seat_in}
use Rattle.run_invariant.proofs.Change.{IsChange, leaf_at, numbers_free}
use Rattle.run_laws.proofs.PublishRoot.{is_new}
use Rattle.run_invariant.proofs.Events.{published, local_after}
use Rattle.run_invariant.proofs.Loads.{width_is}
use Rattle.run_invariant.proofs.Invariant
use Rattle.run_invariant.proofs.Invariant.{Common, Local, Shared, Keeps, KeepsStand, Moves, AllDirFound, DirReads, IsLoaded, lead, last, op_no}
use Rattle.table_model.specs.Helping.{Attempt, directory_attempt}
use Rattle.helping_laws.proofs.Moment.{keeps_in}
use Rattle.helping_laws.proofs.Tries.{InDirTry, dir_attempt_is}
use Rattle.run_laws.proofs.BucketStep
use Rattle.run_laws.proofs.Layers.{Steps}
use Rattle.run_laws.proofs.Won
use Rattle.run_laws.proofs.Won.{grown_by}
use Rattle.run_laws.proofs.Induction.{Follows, common_after, found_in}
use Rattle.run_laws.proofs.Changes.{changes_from_laws}
use Rattle.helping_laws.proofs.RootsTold
use Rattle.helping_laws.proofs.RootsTold.{Since}
use Rattle.helping_laws.proofs.Extends.{Extends, extends_self, extends_next, lead_same}
use Rattle.helping_laws.proofs.TriesTold.{Late, LateRow}
use Rattle.helping_laws.proofs.LaterTries.{late_up, late_row_up, one_more, not_unannounced, announced_late, read_late}
use Rattle.helping_laws.proofs.Arrivals.{Stage, stage, leads_to, May, NoDirectory, no_directory, arrives}
use Rattle.helping_laws.proofs.Layer.{Layer, Holding, layer_steps, moves_of}
use Rattle.helping_laws.proofs.OpsTold.{ops_of}
use Rattle.helping_laws.proofs.Settled.{Settling, calls_layer}

-- a list of which all have something, and one more
all_more : {A : Type 0} (P : A → Type 0) (xs : List A) (x : A) → All P xs → P x → All P (xs ++ x ∷ [])
all_more P xs x all one k d h = elim (cases_lt k (length xs)) [
  | inl less ↦ subst P (sym (get_or_append_left xs (x ∷ []) d k less)) (all k d less)
  | inr last ↦ (let at : length xs ≡ k = omega (arith, last, h, length_push xs x) in
      subst P (sym (get_or_push xs x d k at)) one)
]

module _ (setup : Setup) (first : Common) (p own root : ℕ) (Follows : ℕ → Type 0)
    (z : Since setup first p own root Follows) where
  -- the op
  abbrev op : Op
  op = first.op_at p own

  -- its key
  abbrev key : Key
  key = key_in op.call

  -- what is told, for this root: of what a try has found
  abbrev pub Finds : Common → ℕ → List (Option Op) → Type 0
  Finds = RootsTold.Finds setup first p own root Follows

  -- of what it has loaded
  abbrev pub Sees : ℕ → List LoadedBucket → Type 0
  Sees = RootsTold.Sees setup first p own root Follows

  -- of a phase
  abbrev pub Knows : Common → ℕ → Local → Phase → Type 0
  Knows = RootsTold.Knows setup first p own root Follows

  -- of a seat
  abbrev pub KnowsStand : Common → ℕ → Local → Stand → Type 0
  KnowsStand = RootsTold.KnowsStand setup first p own root Follows

  -- of the versions
  abbrev pub Carries : Common → Type 0
  Carries = RootsTold.Carries setup first p own root Follows

  -- and of the buckets that are followed
  abbrev pub Replaces : Common → Type 0
  Replaces = RootsTold.Replaces setup first p own root Follows

  -- of all that is shared
  abbrev pub Shares : Common → Type 0
  Shares = RootsTold.Shares setup first p own root Follows

  -- and of each seat
  abbrev pub Part : Common → ℕ → Local → Account → Stand → Type 0
  Part = RootsTold.Part setup first p own root Follows

  -- what was found stays
  finds_up : (me : ℕ) (c d : Common) → Moves setup me c d → (at : ℕ) (found : List (Option Op)) → Finds c at found →
      Finds d at found
  finds_up me c d m at found x = λ l h. late_up setup me c d m p own (get_or found p None) (x l h)

  -- the bucket row that a directory try reads is there: it is kept beside
  knows_up : (me : ℕ) (c d : Common) → Moves setup me c d →
      (q : ℕ) (local : Local) (used : SeatRows) (flight : Flight) (phase : Phase) →
      Keeps setup c q used flight local phase → Knows c q local phase → Knows d q local phase
  knows_up me c d m q local used flight (DirAnnouncement round attempt found) k x = finds_up me c d m local.root found x
  knows_up me c d m q local used flight (DirOp round attempt found row words) k x =
      (finds_up me c d m local.root found x.0, λ l h. late_row_up setup me c d m p own row (x.1 l h))
  knows_up me c d m q local used flight (DirWord round attempt found loaded bucket) k x =
      (finds_up me c d m local.root found x.0, x.1)
  knows_up me c d m q local used flight (DirRow round attempt found loaded bucket row words) k x = (
    finds_up me c d m local.root found x.0,
    x.1,
    λ l f. ap (λ (y : BucketState). y.frozen) (m.rows bucket local.base k.sees.there k.sees.old).2 ∙ x.2 l f,
  )
  knows_up me c d m q local used flight (DirStore round attempt found loaded stored) k x =
      (finds_up me c d m local.root found x.0, x.1)
  knows_up me c d m q local used flight (DirExchange round attempt found loaded) k x =
      (finds_up me c d m local.root found x.0, x.1)
  knows_up me c d m q local used flight phase k x = x

  -- so of a seat, whatever another one does
  stand_up : (me : ℕ) (c d : Common) → Moves setup me c d →
      (q : ℕ) (local : Local) (used : SeatRows) (stand : Stand) → KeepsStand setup c q used local stand →
      KnowsStand c q local stand → KnowsStand d q local stand
  stand_up me c d m q local used Idle k x = tt
  stand_up me c d m q local used (InFlight flight phase) k x = knows_up me c d m q local used flight phase k x

  -- ---- the versions

  -- the directories that there were lead as they did
  lead_kept : (me : ℕ) (c d : Common) → Moves setup me c d → (v : ℕ) → v ≤ c.dir_top →
      lead setup d v key ≡ lead setup c v key
  lead_kept me c d m v o = ap (λ (x : DirectoryState). bucket_of (rules_of setup) x key) (m.dirs v o).1

  -- a version that had the op has it
  carried_kept : (me : ℕ) (c d : Common) → Moves setup me c d → Shared setup c → (v : ℕ) → v < c.dir_top →
      Carries c → root < v → lead setup d (v + 1) key ≢ lead setup d v key →
      op.number ≤ applied_of (d.state_at (lead setup d (v + 1) key) 0) p
  carried_kept me c d m s v o g l other =
      let now = lead_kept me c d m (v + 1) (omega (arith, o)) in
      let was = lead_kept me c d m v (omega (arith, o)) in
      let has = g v l o (λ e. other (now ∙ e ∙ sym was)) in
      let there = s.leads.there (v + 1) key (omega (arith, o)) in
      omega (
        arith,
        has,
        ap (λ b. applied_of (d.state_at b 0) p) now,
        ap (λ (x : BucketState). applied_of x p) (m.rows (lead setup c (v + 1) key) 0 there (omega arith)).2,
      )

  -- where no version is new, all stay as they were
  versions_kept : (me : ℕ) (c d : Common) → Moves setup me c d → Shared setup c → d.dir_top ≤ c.dir_top →
      Carries c × Replaces c → Carries d × Replaces d
  versions_kept me c d m s few g = (
    λ v l o other. carried_kept me c d m s v (omega (arith, o, few)) g.0 l other,
    λ b v f l o e. g.1 b v f l (omega (arith, o, few)) (sym (lead_kept me c d m (v + 1) (omega (arith, o, few))) ∙ e),
  )

  -- what the moment has of the op and of the buckets that are followed is there still
  op_now : (c : Common) → Extends first c → c.op_at p own ≡ op
  op_now c e = (e.calls p own z.there).0

  -- and each bucket that is followed has its last row
  last_now : (c : Common) → Extends first c → (b : ℕ) → Follows b → last c b ≡ last first b
  last_now c e b f = ap (c.state_at b) (e.frozen b (z.named b f) (z.frozen b f))
      ∙ (e.rows b (first.top b) (z.named b f) (omega arith)).2

  module _ (me : ℕ) (c : Common) (account : Account) (flight : Flight) (local : Local) (h : me < seats_of setup)
      (s : Shared setup c) (g : Shares c) where
    -- the op is in, where the seat has announced another since
    in_now : (late : ℕ) → own ≤ late → late < ops_of c p → late ≢ own →
        op.number ≤ applied_of (last c (lead setup c c.dir_top key)) p
    in_now late since there n =
        subst (λ (o : Op). o.number ≤ applied_of (last c (lead setup c c.dir_top (key_in o.call))) p) (op_now c g.1)
        ((g.0 p z.seat_is).past own (omega (arith, since, there, n)))

    -- the root is exchanged
    module _ (round : Round) (attempt : DirectoryTry) (found : List (Option Op)) (loaded : List LoadedBucket)
        (k : Keeps setup c me account.used flight local (DirExchange round attempt found loaded))
        (x : Knows c me local (DirExchange round attempt found loaded)) (won : c.memory.root ≡ attempt.root)
        (m : Moves setup me c (grown_by setup me account.used attempt found loaded c)) where
      abbrev d : Common
      d = grown_by setup me account.used attempt found loaded c

      abbrev leaves : List NewLeaf
      leaves = made_leaves setup attempt found loaded

      abbrev fresh : ℕ
      fresh = next_number setup me BucketWords account.used

      abbrev many : ℕ
      many = length leaves

      -- the bucket of the key by the new directory
      abbrev to : ℕ
      to = bucket_of (rules_of setup) (made_directory setup me account.used attempt found loaded) key

      current : local.root ≡ c.dir_top
      current = Won.current changes_from_laws setup me c account flight local h s round attempt found loaded k won

      change : IsChange setup c c.dir_top found loaded leaves fresh
          (made_directory setup me account.used attempt found loaded)
      change = Won.change changes_from_laws setup me c account flight local h s round attempt found loaded k won

      lead_new : lead setup d (c.dir_top + 1) key ≡ to
      lead_new = ap (λ (x : DirectoryState). bucket_of (rules_of setup) x key)
          (put_same c.dir_at (c.dir_top + 1) (made_directory setup me account.used attempt found loaded))

      -- a new leaf's first row
      first_new : (i : ℕ) → i < many → d.state_at (fresh + i) 0 ≡ leaf_at leaves i
      first_new i n =
          let b = fresh + i in
          let new : is_new fresh many b ≡ true =
          and_from (leb fresh b) (ltb b (fresh + many)) (le-leb fresh b (omega arith))
          (lt-ltb b (fresh + many) (omega (arith, n))) in
          let at : b - fresh ≡ i = omega arith in
          ap (λ t. cond t (λ (j : ℕ). leaf_at leaves (b - fresh)) (c.state_at b) 0) new ∙ ap (leaf_at leaves) at

      -- what the try has found of the seat
      found_then : root < c.dir_top → Late c p own (get_or found p None)
      found_then l = x.0 (omega (arith, l, current)) (omega (arith, k.all, z.seat_is))

      -- the new version has the op, where it replaces the bucket of its key
      new_carries : root < c.dir_top → to ≢ lead setup c c.dir_top key → op.number ≤ applied_of (d.state_at to 0) p
      new_carries l other = (let late = found_then l in elim (change.goes key) [
        | inl same ↦ absurd (other same)
        | inr r ↦
            let i = r.0 in
            let first_is : applied_of (d.state_at to 0) p ≡ applied_of (leaf_at leaves i) p =
            ap (λ b. applied_of (d.state_at b 0) p) r.2
            ∙ ap (λ (y : BucketState). applied_of y p) (first_new i r.1) in
            elim (cases_eq late.at own) [
              | inl e ↦ (let takes = change.takes p i op z.seat_is
                  (late.is ∙ ap Some (ap (c.op_at p) e ∙ op_now c g.1)) r.1 r.2 in omega (arith, takes, first_is))
              | inr n ↦ (let now = in_now late.at late.since late.there n in
                  omega (arith, now, (change.comes i r.1).carries p, first_is, ap (λ b. applied_of (last c b) p) r.4))
            ]
      ])

      -- and it replaces the buckets that are followed
      new_replaces : (b : ℕ) → Follows b → root < c.dir_top → to ≢ b
      new_replaces b f l e = (let late = found_then l in elim (cases_eq (lead setup c c.dir_top key) b) [
        | inr away ↦
            let u = z.led b f in
            let here : lead setup c u.0 key ≡ b =
            lead_same setup first c g.1 u.0 key (omega (arith, u.1, z.old)) ∙ u.2 in
            m.left key u.0 (omega (arith, u.1, l)) (λ q. away (q ∙ here)) (lead_new ∙ e ∙ sym here)
        | inl still ↦
            let lacks : applied_of (last c (lead setup c c.dir_top key)) p < op.number =
            omega (
              arith,
              z.lacks b f,
              ap (λ a. applied_of (last c a) p) still,
              ap (λ (y : BucketState). applied_of y p) (last_now c g.1 b f),
            ) in
            elim (cases_eq late.at own) [
              | inl q ↦
                  let r = change.replaces p op z.seat_is (late.is ∙ ap Some (ap (c.op_at p) q ∙ op_now c g.1)) lacks
                  (λ j d lt at. x.1 (omega (arith, l, current)) j d lt (subst Follows (sym still ∙ sym at) f)) in
                  let few = Won.few changes_from_laws setup me c account flight local h s round attempt found loaded
                  k won in
                  numbers_free setup me c h s account.used many k.works.flies.used_is
                  (omega (arith, few, k.room.words, ap (λ (u : SeatRows). u.bucket_words) k.works.flies.used_is))
                  b r.0
                  ((g.1.named_up b (z.named b f)).0) r.1 (sym e ∙ r.2)
              | inr n ↦ absurd (omega (arith, in_now late.at late.since late.there n, lacks))
            ]
      ])

      versions : Carries d × Replaces d
      versions = (carries, replaces)
        where
          carries : Carries d
          carries v l o other = elim (cases_eq v c.dir_top) [
            | inr before ↦ carried_kept me c d m s v (omega (arith, o, before)) g.2 l other
            | inl last ↦
                let now : lead setup d (v + 1) key ≡ to = ap (λ n. lead setup d (n + 1) key) last ∙ lead_new in
                let was : lead setup d v key ≡ lead setup c c.dir_top key =
                lead_kept me c d m v (omega (arith, last)) ∙ ap (λ n. lead setup c n key) last in
                let has = new_carries (omega (arith, l, last)) (λ e. other (now ∙ e ∙ sym was)) in
                omega (arith, has, ap (λ b. applied_of (d.state_at b 0) p) now)
          ]

          replaces : Replaces d
          replaces b v f l o e = elim (cases_eq v c.dir_top) [
            | inr before ↦ g.3 b v f l (omega (arith, o, before))
                (sym (lead_kept me c d m (v + 1) (omega (arith, o, before))) ∙ e)
            | inl last ↦ new_replaces b f (omega (arith, l, last))
                (sym lead_new ∙ ap (λ n. lead setup d (n + 1) key) (sym last) ∙ e)
          ]

    -- whether the exchange happens or not
    versions_by : (round : Round) (attempt : DirectoryTry) (found : List (Option Op)) (loaded : List LoadedBucket)
        (k : Keeps setup c me account.used flight local (DirExchange round attempt found loaded)) →
        Knows c me local (DirExchange round attempt found loaded) → (e : Bool) → eqb c.memory.root attempt.root ≡ e →
        Moves setup me c (cond e (grown_by setup me account.used attempt found loaded c) c) →
        Carries (cond e (grown_by setup me account.used attempt found loaded c) c)
        × Replaces (cond e (grown_by setup me account.used attempt found loaded c) c)
    versions_by round attempt found loaded k x false e m = (g.2, g.3)
    versions_by round attempt found loaded k x true e m =
        versions round attempt found loaded k x (eqb-true c.memory.root attempt.root e) m

    -- ---- the seat's own try

    -- outside of directory tries that go on nothing is said
    quiet : (d : Common) (reached : Local) (target : Stage) (phase : Phase) → NoDirectory target →
        May target (stage phase) → Knows d me reached phase
    quiet d reached target (DirAnnouncement round attempt found) other may = absurd (no_directory target other may)
    quiet d reached target (DirOp round attempt found row words) other may = absurd (no_directory target other may)
    quiet d reached target (DirWord round attempt found loaded bucket) other may =
        absurd (no_directory target other may)
    quiet d reached target (DirRow round attempt found loaded bucket row words) other may =
        absurd (no_directory target other may)
    quiet d reached target (DirStore round attempt found loaded stored) other may =
        absurd (no_directory target other may)
    quiet d reached target (DirExchange round attempt found loaded) other may = absurd (no_directory target other may)
    quiet d reached target phase other may = tt

    -- a test between two phases
    either : (d : Common) (t : Bool) (x y : Phase) → Knows d me local x → Knows d me local y →
        Knows d me local (cond t x y)
    either d true x y k l = k
    either d false x y k l = l

    -- a directory try begins past nobody
    entries_loaded : (round : Round) (turn first root depth : ℕ) (words : List ℕ) →
        Knows c me local (after_entries setup flight round turn first root depth words)
    entries_loaded round turn first root depth words =
        let attempt : DirectoryTry = record {
          turn = turn;
          first = first;
          root = root;
          directory = record { depth = depth; entries = words };
        } in
        either c (ltb (length words) (2 ^ depth)) (DirEntries round turn first root depth words)
        (after_directory setup flight round attempt) tt
        (either c (eqb (bucket_of (rules_of setup) attempt.directory (key_in flight.call)) round.bucket)
        (DirAnnouncement round attempt []) (after_round round) (λ l past. absurd (omega (arith, past))) tt)

    -- the next bucket is to be loaded, or all are
    to_load : (round : Round) (attempt : DirectoryTry) (found : List (Option Op)) (loaded : List LoadedBucket)
        (o : Option ℕ) → Finds c local.root found → Sees local.root loaded →
        Knows c me local (load_or_store round attempt found loaded o)
    to_load round attempt found loaded None x y = (x, y)
    to_load round attempt found loaded (Some bucket) x y = (x, y)

    -- one more seat's op is found
    dir_found_more : (round : Round) (attempt : DirectoryTry) (found : List (Option Op)) (o : Option Op) →
        Finds c local.root found → (root < local.root → length found ≡ p → Late c p own o) →
        Knows c me local (after_dir_found setup round attempt (more found o))
    dir_found_more round attempt found o old new =
        either c (ltb (length (more found o)) (seats_of setup)) (DirAnnouncement round attempt (more found o))
        (after_loaded setup round attempt (more found o) []) all
        (to_load round attempt (more found o) [] (next_bucket (rules_of setup) attempt.directory [] (more found o))
        all (λ l j d lt. absurd (omega (arith, lt))))
      where
        all : Finds c local.root (found ++ o ∷ [])
        all l = one_more (Late c p own) found o p (old l) (new l)

    -- one more bucket is loaded
    sees_more : (loaded : List LoadedBucket) (l : LoadedBucket) → Sees local.root loaded →
        (root < local.root → Follows l.bucket → l.state.frozen ≡ true) → Sees local.root (loaded ++ l ∷ [])
    sees_more loaded l old new less = all_more (λ x. Follows x.bucket → x.state.frozen ≡ true) loaded l (old less)
        (new less)

    -- the word that is found
    abbrev word : Phase → ℕ
    word phase = found_in (ask_in setup me account.used flight phase) c.memory

    -- the history after the step
    abbrev after : Phase → Common
    after phase = common_after setup me account.used flight phase c

    -- what is known then
    abbrev After : Phase → Type 0
    After phase = KnowsStand (after phase) me (local_after phase c local)
        (state_after setup me account flight phase (word phase)).stand

    -- what the seat itself knows after its step
    own_steps : (phase : Phase) → Keeps setup c me account.used flight local phase → Knows c me local phase →
        Moves setup me c (after phase) → After phase
    own_steps (DirDepth round turn first root) k x m =
        entries_loaded round turn first root (word (DirDepth round turn first root)) []
    own_steps (DirEntries round turn first root depth words) k x m =
        entries_loaded round turn first root depth (more words (word (DirEntries round turn first root depth words)))
    own_steps (DirAnnouncement round attempt found) k x m =
        let w = word (DirAnnouncement round attempt found) in
        let there : own < ops_of c p = omega (arith, z.there, g.1.ops_up p) in
        cond_both (eqb w 0) (after_dir_found setup round attempt (more found None))
        (DirOp round attempt found (w - 1) []) (Knows c me local)
        (λ e. dir_found_more round attempt found None x
        (λ _ at. absurd (not_unannounced setup c s p own z.seat_is there
        (ap c.memory.announced (sym at) ∙ eqb-true w 0 e))))
        (λ e. (
          x,
          λ _ at. subst (λ n. LateRow setup c p own (n - 1)) (ap c.memory.announced (sym at))
              (announced_late setup c s p own z.seat_is there (λ f. eqb-false w 0 e (ap c.memory.announced at ∙ f))),
        ))
    own_steps (DirOp round attempt found row words) k x m =
        let w = word (DirOp round attempt found row words) in
        let now = more words w in
        cond_both (ltb (length words + 1) OP_WORDS) (DirOp round attempt found row now)
        (after_dir_found setup round attempt (more found (Some (op_in_words (length found) now))))
        (Knows c me local)
        (λ e. x)
        (λ e. dir_found_more round attempt found (Some (op_in_words (length found) now)) x.0 (λ late at.
        read_late setup c s (length found) p own k.reads.before row words at k.short k.reads.is_announced
        k.reads.op_is k.short_op k.reads.words_are (ltb-false (length words + 1) OP_WORDS e) (x.1 late at)))
    own_steps (DirWord round attempt found loaded bucket) k x m =
        (x.0, x.1, λ _ f. ap (λ (y : BucketState). y.frozen) (last_now c g.1 bucket f) ∙ z.frozen bucket f)
    own_steps (DirRow round attempt found loaded bucket row words) k x m =
        let w = word (DirRow round attempt found loaded bucket row words) in
        let now = more words w in
        let l : LoadedBucket = record { bucket = bucket; row = row; state = bucket_in_words setup now } in
        let all = more loaded l in
        let read : now ≡ take (length now) (c.words_at bucket local.base) =
        BucketStep.row_more setup me c account flight local h s bucket local.base row words k.sees.there
        k.sees.old k.row_is k.short k.words_are in
        cond_both (ltb (length now) (bucket_row_words (settings_of setup)))
        (DirRow round attempt found loaded bucket row now) (after_loaded setup round attempt found all)
        (Knows c me local)
        (λ e. x)
        (λ e. to_load round attempt found all (next_bucket (rules_of setup) attempt.directory all found) x.0
        (sees_more loaded l x.1 (λ less f.
        ap (λ (y : BucketState). y.frozen)
        (BucketStep.row_all setup me c account flight local h s bucket local.base now k.sees.there k.sees.old read
        (omega (arith, width_is setup, ltb-false (length now) (bucket_row_words (settings_of setup)) e)))
        ∙ x.2 less f)))
    own_steps (DirStore round attempt found loaded i) k x m =
        let d = after (DirStore round attempt found loaded i) in
        let up = knows_up me c d m me local account.used flight (DirStore round attempt found loaded i) k x in
        either d (ltb (i + 1) (length (directory_puts setup me account.used attempt found loaded)))
        (DirStore round attempt found loaded (i + 1)) (DirExchange round attempt found loaded) up up
    own_steps (StoreDone reply at) k x m = tt
    own_steps phase k x m = quiet (after phase) (local_after phase c local) (leads_to phase)
        (phase_after setup me account.used flight phase (word phase)) tt
        (arrives setup me account.used flight phase (word phase))

    -- what the versions have after a step
    versions_steps : (phase : Phase) → Keeps setup c me account.used flight local phase → Knows c me local phase →
        Moves setup me c (after phase) → Carries (after phase) × Replaces (after phase)
    versions_steps (FindRoot ForLookup) k x m = (g.2, g.3)
    versions_steps (FindRoot ForFirstRound) k x m = (g.2, g.3)
    versions_steps (FindRoot (ForSecondRound first)) k x m = (g.2, g.3)
    versions_steps (FindRoot ForLastLook) k x m = (g.2, g.3)
    versions_steps (TryWord round turn None) k x m = (g.2, g.3)
    versions_steps (TryWord round turn (Some first)) k x m = (g.2, g.3)
    versions_steps (TryExchange round attempt found) k x m = by_row (eqb (c.memory.bucket round.bucket) attempt.row) m
      where
        by_row : (e : Bool) → Moves setup me c (cond e (published setup me round.bucket attempt found c) c) →
            Carries (cond e (published setup me round.bucket attempt found c) c)
            × Replaces (cond e (published setup me round.bucket attempt found c) c)
        by_row false m = (g.2, g.3)
        by_row true m = versions_kept me c (published setup me round.bucket attempt found c) m s (omega arith)
            (g.2, g.3)
    versions_steps (DirRoot round turn None) k x m = (g.2, g.3)
    versions_steps (DirRoot round turn (Some first)) k x m = (g.2, g.3)
    versions_steps (DirExchange round attempt found loaded) k x m =
        versions_by round attempt found loaded k x (eqb c.memory.root attempt.root) refl m
    versions_steps phase k x m = (g.2, g.3)

  -- ---- the layer

  -- the layer
  layer : Layer setup Shares Part
  layer = record {
    others = λ me c d m s g q n h local account stand k x. (
      (calls_layer setup).others me c d m s g.0 q n h local
          account stand k x.0,
      stand_up me c d m q local account.used stand k x.1,
    );
    begins = λ c me packet call local account x. ((calls_layer setup).begins c me packet call local account x.0, tt);
    steps = λ c me account flight local h s phase k g x.
        let m = moves_of setup c me account flight local phase h s k in
        let calls = (calls_layer setup).steps c me account flight local h s phase k g.0 x.0 in
        let versions = versions_steps me c account flight local h s g phase k x.1 m in (
          (calls.0, extends_next setup me first c _ g.1 m, versions.0, versions.1),
          (calls.1, own_steps me c account flight local h s g phase k x.1 m),
        );
  }

  -- what it says of a world
  abbrev pub Tells : World → Common → (ℕ → Local) → Unit {0} → Type 0
  Tells = Holding setup Shares Part

  -- and its steps
  pub telling : Steps (Unit {0}) setup Tells
  telling = layer_steps setup Shares Part layer

-- ---- the moment of a directory try

module _ (setup : Setup) (w : World) (c : Common) (locals : ℕ → Local) (a : Follows setup w c locals)
    (calls : Settling setup w c locals tt) (p : ℕ) (h : p < seats_of setup) (mine : Flight) (phase : Phase)
    (attempt : Attempt)
    (is : (seat_in w p).stand ≡ InFlight mine phase) (tries : directory_attempt phase ≡ Some attempt) where
  -- the try, by places
  pub in_try : InDirTry setup c p (seat_in w p).account.used mine (locals p) attempt
  in_try = dir_attempt_is setup c p (seat_in w p).account.used mine (locals p) phase attempt
      (keeps_in setup w c locals a p mine phase h is) tries

  -- the place of the op
  abbrev pub own_op : ℕ
  own_op = ops_of c p - 1

  -- the bucket of its round is followed
  abbrev pub Followed : ℕ → Type 0
  Followed b = b ≡ attempt.bucket

  -- it is announced
  announced : 0 < ops_of c p
  announced = in_try.works.announced

  -- the root that the try loaded
  abbrev root : ℕ
  root = (locals p).root

  -- the op has the update's number
  number_is : (c.op_at p own_op).number ≡ mine.number
  number_is = ap (λ (o : Op). o.number) in_try.works.op_is

  -- what holds at that moment
  pub since : Since setup c p own_op root Followed
  since = record {
    seat_is = h;
    there = omega (arith, announced);
    old = in_try.old;
    named = λ b f. ap c.named f ∙ in_try.there;
    frozen = λ b f. ap (λ x. (last c x).frozen) f ∙ in_try.froze.frozen;
    lacks = λ b f. omega (arith, in_try.froze.lacks, ap (λ x. applied_of (last c x) p) f, number_is);
    led = λ b f. (
      root,
      omega arith,
      ap (λ (o : Op). lead setup c root (key_in o.call)) in_try.works.op_is
          ∙ in_try.leads ∙ sym f,
    );
  }

  -- what a seat knows then
  abbrev Knows_here : ℕ → Local → Phase → Type 0
  Knows_here q local other = Knows setup c p own_op root Followed since c q local other

  -- the directory tries of the update began before
  tries_began : (c.rooted p ≡ true) × (c.first_dir p ≤ c.dir_since p) × (c.dir_since p ≤ c.dir_top)
  tries_began = a.shared.carried.dir_begun p h in_try.tries

  -- what another try has found
  found_here : (at q : ℕ) (found : List (Option Op)) → AllDirFound setup c q at found →
      Finds setup c p own_op root Followed since c at found
  found_here at q found all l past = record {
    at = own_op;
    since = omega arith;
    there = omega (arith, announced);
    is = (all p past).late tries_began.0 (omega (arith, tries_began.1, in_try.begun, l));
  }

  -- the op row that it loads
  row_here : (at seat row q : ℕ) (words : List ℕ) → DirReads setup c q at seat row words → root < at → seat ≡ p →
      LateRow setup c p own_op row
  row_here at seat row q words r l same =
      let late = r.late (ap c.rooted same ∙ tries_began.0)
      (omega (arith, tries_began.1, in_try.begun, l, ap c.first_dir same)) in
      let end : r.before ≡ own_op = omega (arith, late, ap (ops_of c) same) in
      record {
        at = own_op;
        since = omega arith;
        there = omega (arith, announced);
        is = r.op_is
            ∙ ap (λ s. op_no setup s r.before) same ∙ ap (op_no setup p) end;
      }

  -- a bucket of the round that was loaded was loaded frozen
  seen_here : (at q bucket base : ℕ) → Invariant.Sees setup c q at bucket base → root < at → Followed bucket →
      (c.state_at bucket base).frozen ≡ true
  seen_here at q bucket base x l f = x.seen p h in_try.tries (in_try.froze.tried_at ∙ sym f)
      (inl (omega (arith, in_try.begun, l)))

  -- so of all that were loaded
  loaded_here : (at q : ℕ) (loaded : List LoadedBucket) → All (IsLoaded setup c q at) loaded →
      Sees setup c p own_op root Followed since at loaded
  loaded_here at q loaded all l k d lt f =
      let x = all k d lt in
      ap (λ (y : BucketState). y.frozen) x.state_is ∙ seen_here at q (get_or loaded k d).bucket x.base x.sees l f

  -- what each phase knows
  all_know : (q : ℕ) (used : SeatRows) (theirs : Flight) (local : Local) (other : Phase) →
      Keeps setup c q used theirs local other → Knows_here q local other
  all_know q used theirs local (DirAnnouncement round try found) k = found_here local.root q found k.entries
  all_know q used theirs local (DirOp round try found row words) k =
      (found_here local.root q found k.entries, row_here local.root (length found) row q words k.reads)
  all_know q used theirs local (DirWord round try found loaded bucket) k =
      (found_here local.root q found k.entries, loaded_here local.root q loaded k.loads)
  all_know q used theirs local (DirRow round try found loaded bucket row words) k = (
    found_here local.root q found k.entries,
    loaded_here local.root q loaded k.loads,
    seen_here local.root q bucket local.base k.sees,
  )
  all_know q used theirs local (DirStore round try found loaded stored) k =
      (found_here local.root q found k.entries, loaded_here local.root q loaded k.loads)
  all_know q used theirs local (DirExchange round try found loaded) k =
      (found_here local.root q found k.entries, loaded_here local.root q loaded k.loads)
  all_know q used theirs local other k = tt

  -- what each seat knows
  stands_know : (q : ℕ) (used : SeatRows) (local : Local) (stand : Stand) → KeepsStand setup c q used local stand →
      KnowsStand setup c p own_op root Followed since c q local stand
  stands_know q used local Idle k = tt
  stands_know q used local (InFlight theirs other) k = all_know q used theirs local other k

  -- so all is told from then on
  pub begins : Tells setup c p own_op root Followed since w c locals tt
  begins = (
    (
      calls.0,
      extends_self c,
      (λ v l o other. a.shared.carried.carried p v h tries_began.0
          (omega (arith, tries_began.1, in_try.begun, l)) o other),
      (λ b v f l o e. a.shared.carried.replaced p v h in_try.tries (omega (arith, in_try.begun, l)) o
          (e ∙ f ∙ sym in_try.froze.tried_at)),
    ),
    λ q hq. (calls.1 q hq, stands_know q (seat_in w q).account.used (locals q) (seat_in w q).stand (a.seats q hq)),
  )
