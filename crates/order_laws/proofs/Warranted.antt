-- Each leaf that is deeper than the starting depth has its cause: the bucket above it was full at some stage, of the
-- first pairs or of the order.
use Rattle.std.proofs.Common.{◌≡◌, ℕ, zero, suc, ◌+◌, ◌-◌, ◌/◌, ◌^◌, ◌<◌, ◌⊎◌, true, List, [], ◌∷◌, ◌++◌, map, length, get_or, refl, inl, inr, sym, ap, ◌∙◌, subst, arith, append_assoc}
use Rattle.std.specs.Prelude.{All}
use Rattle.plain_map.specs.declared.leaves.Leaf.{Leaf}
use Rattle.plain_map.specs.declared.keys.Pair.{Pair}
use Rattle.plain_map.specs.declared.rules.Rules.{Rules}
use Rattle.plain_map.specs.PlainObject.{Sessions, map_after}
use Rattle.plain_map.specs.History.{Placed, sessions_after}
use Rattle.plain_map.proofs.OrderLemmas.{sessions_after-append}
use Rattle.bucket_states.specs.States.{BucketState}
use Rattle.bucket_states.specs.Parts.{HoldsPart}
use Rattle.bucket_states.specs.Laws.{Taken, sessions_after_taken}
use Rattle.table_model.specs.Setup.{Setup, seats_of, rules_of}
use Rattle.table_model.specs.Leaves.{NewLeaf}
use Rattle.table_model.specs.DirectoryLaws.{HoldSessions, taken}
use Rattle.table_model.specs.OpeningLaws.{place_of}
use Rattle.table_model.specs.Worlds.{World, world_after, first_leaves}
use Rattle.table_model.specs.Order.{Closing, ByDirectoryRow, calls_in, placing_of, order_of}
use Rattle.table_model.specs.Reading.{is_among}
use Rattle.table_model.specs.Closed.{sessions_with, closed_buckets, closed_leaves, leaf_at, FilledByFirst, FilledByCalls, Warranted, keys_with_prefix}
use Rattle.table_model.specs.Histories.{LeavesAreWarranted}
use Rattle.change_laws.proofs.Folds.{splits_have_causes}
use Rattle.change_laws.proofs.Weak.{leaves_are_good}
use Rattle.run_invariant.proofs.Invariant.{Common, Local, lead, last}
use Rattle.run_invariant.proofs.Change.{no_leaf}
use Rattle.run_invariant.proofs.Change
use Rattle.run_laws.proofs.Induction.{Follows}
use Rattle.change_laws.proofs.FirstLeaves.{first_opens}
use Rattle.closed_laws.proofs.Covers.{leaf_here}
use Rattle.list_laws.proofs.Lists.{In}
use Rattle.placing_laws.proofs.Stuck.{kept_end}
use Rattle.placing_laws.proofs.Instants.{Instant, instants_end}
use Rattle.closed_laws.proofs.Book.{Book, Written}
use Rattle.closed_laws.proofs.Ledger.{Ledger}
use Rattle.closed_laws.proofs.Pieces.{dir_piece, separate}
use Rattle.closed_laws.proofs.Ends.{story, tells, Meaning}
use Rattle.closed_laws.proofs.VersionFolds.{AlikeIn}
use Rattle.closed_laws.proofs.Meanings.{meaning}
use Rattle.closed_laws.proofs.Joined.{promised}
use Rattle.closed_laws.proofs.ClosedBuckets.{bucket_named}
use Rattle.order_laws.proofs.Tale.{Tale, past_of, leaves_of}
use Rattle.order_laws.proofs.AllRuns.{Tells, all_tell}
use Rattle.list_laws.proofs.Places.{in_at}
use Rattle.order_laws.proofs.VersionSteps.{replaced_is, alike_is}
use Rattle.order_laws.proofs.AtEnd.{all_laws, base, book, closing, written, the_ledger, acts, known, calls_are, replies}

-- of the mapped items: what holds of all of them holds of one, and the other way round
mapped_at : {A B : Type 0} (P : B → Type 0) (f : A → B) (xs : List A) (i : ℕ) (d : A) → i < length xs →
    All P (map f xs) → P (f (get_or xs i d))
mapped_at P f [] i d lt a = absurd (omega (arith, lt))
mapped_at P f (x ∷ xs) zero d lt a = a 0 (f d) (omega arith)
mapped_at P f (x ∷ xs) (suc i) d lt a =
    mapped_at P f xs i d (omega (arith, lt)) (λ k e h. a (suc k) e (omega (arith, h)))

-- what holds of all images holds of all members' images
all_mapped : {A B : Type 0} (P : B → Type 0) (f : A → B) (xs : List A) → ((x : A) → In x xs → P (f x)) →
    All P (map f xs)
all_mapped P f [] each = λ k d lt. absurd (omega (arith, lt))
all_mapped P f (x ∷ xs) each = go (all_mapped P f xs (λ y i. each y (inr i)))
  where
    go : All P (map f xs) → All P (f x ∷ map f xs)
    go rest zero d lt = each x (inl refl)
    go rest (suc k) d lt = rest k d (omega (arith, lt))

-- the first so many of the taken ops are the first so many of the calls
record Front (rules : Rules) (sessions : Sessions) (calls : List Placed) (front : List Taken) : Type 0 where
  pub first : List Placed
  pub rest : List Placed
  pub is : calls ≡ first ++ rest
  pub same : sessions_after rules sessions first ≡ sessions_after_taken rules sessions front

-- calls that are alike leave what the taken ones leave, at each stage
alike_front : (rules : Rules) (sessions : Sessions) (leaves : List NewLeaf) (calls : List Placed)
    (front back : List Taken) → AlikeIn rules leaves calls (front ++ back) → Front rules sessions calls front
alike_front rules sessions leaves calls [] back a = record { first = []; rest = calls; is = refl; same = refl }
alike_front rules sessions leaves [] (t ∷ front) back a = absurd a
alike_front rules sessions leaves (c ∷ calls) (t ∷ front) back a =
    (let r = alike_front rules (map_after rules sessions t.op.call) leaves calls front back a.2 in record {
      first = c ∷ r.first;
      rest = r.rest;
      is = ap (λ xs. c ∷ xs) r.is;
      same = ap (λ call. sessions_after rules (map_after rules sessions call) r.first) a.0 ∙ r.same;
    })

-- a bucket that was full of the first pairs, or of no calls, was full at a stage of the order
at_first : (rules : Rules) (first : List Pair) (order : List Placed) (depth prefix : ℕ) →
    FilledByFirst rules first depth prefix ⊎ FilledByCalls rules first [] depth prefix →
    FilledByFirst rules first depth prefix ⊎ FilledByCalls rules first order depth prefix
at_first rules first order depth prefix (inl f) = inl f
at_first rules first order depth prefix (inr c) = inr (record {
  front = [];
  back = order;
  stage = refl;
  full = ap (λ xs. keys_with_prefix rules depth prefix (sessions_after rules (sessions_with rules first) xs))
      (nothing c.front c.back c.stage) ∙ c.full;
})
  where
    nothing : (xs ys : List Placed) → [] ≡ xs ++ ys → [] ≡ xs
    nothing [] ys e = refl
    nothing (x ∷ xs) ys e = cc

module _ (setup : Setup) (w : World) (c : Common) (locals : ℕ → Local) (f : Follows setup w c locals) (t : Tale)
    (y : Tells setup w c locals t) where
  -- the rules of the table
  abbrev rules : Rules
  rules = rules_of setup

  -- the order
  abbrev order : List Placed
  order = order_of setup.shape (closing setup w c locals f t y)

  -- what is held before it
  abbrev start : Sessions
  start = sessions_with rules setup.first

  -- what is to be shown of a leaf
  abbrev HasCause : Leaf → Type 0
  HasCause leaf = setup.shape.settings.start < leaf.depth →
      FilledByFirst rules setup.first (leaf.depth - 1) (leaf.prefix / 2)
      ⊎ FilledByCalls rules setup.first order (leaf.depth - 1) (leaf.prefix / 2)

  -- the leaf of a bucket
  abbrev leaf_of : ℕ → Leaf
  leaf_of b = record { prefix = c.pre b; depth = c.deep b }

  -- the leaf of a state
  of_state : (b : ℕ) (state : BucketState) → c.named b ≡ true → c.state_at b 0 ≡ state →
      HasCause (record { prefix = state.prefix; depth = state.depth }) → HasCause (leaf_of b)
  of_state b state n e cause =
      let sound = f.shared.rows.sound b 0 n (omega arith) in
      let leaf : ℕ → ℕ → Leaf = λ p d. record { prefix = p; depth = d } in
      subst (λ p. HasCause (leaf p (c.deep b))) (ap (λ (x : BucketState). x.prefix) (sym e) ∙ sound.prefix_is)
      (subst (λ d. HasCause (leaf state.prefix d)) (ap (λ (x : BucketState). x.depth) (sym e) ∙ sound.depth_is) cause)

  -- a bucket of the opening
  opened : (b : ℕ) → c.named b ≡ true → c.born b ≡ 0 → HasCause (leaf_of b)
  opened b n e =
      let leaf = y.told.first_leaf b n e in
      of_state b (Change.leaf_at (first_leaves setup) b) n leaf.1
      (λ deep. at_first rules setup.first order ((Change.leaf_at (first_leaves setup) b).depth - 1)
      ((Change.leaf_at (first_leaves setup) b).prefix / 2)
      (mapped_at (λ (leaf : Leaf). setup.shape.settings.start < leaf.depth →
      FilledByFirst rules setup.first (leaf.depth - 1) (leaf.prefix / 2)
      ⊎ FilledByCalls rules setup.first [] (leaf.depth - 1) (leaf.prefix / 2))
      place_of (first_leaves setup) b no_leaf leaf.0 (first_opens setup f.shared.opened).warranted deep))

  -- ---- a bucket of a later directory row

  -- what is closed
  abbrev cl : Closing
  cl = closing setup w c locals f t y

  -- the history as a book
  abbrev k : Book
  k = book setup w c locals f t y

  -- and the words tell it
  abbrev wr : Written setup cl.words k
  wr = written setup w c locals f t y

  -- its calls have their units
  abbrev l : Ledger setup cl k
  l = the_ledger setup w c locals f t y

  -- and their meaning
  abbrev meant : Meaning setup cl k wr l start c.pre
  meant = meaning setup cl k wr l start c.pre all_laws (acts setup w c locals f t y)

  -- its directory row is placed
  placed : (v : ℕ) → v < c.dir_top → is_among (placing_of setup.shape cl).directories (c.dir_row (v + 1)) ≡ true
  placed v o =
      let never = (promised all_laws setup cl start (known setup w c locals f t y)).never_stuck in
      elim ((kept_end setup cl).all (ByDirectoryRow (c.dir_row (v + 1))) (dir_piece setup cl k wr l v o)) [
        | inl i ↦ absurd (subst (In (ByDirectoryRow (c.dir_row (v + 1)))) never i)
        | inr h ↦ h.directories (c.dir_row (v + 1)) (inl refl)
      ]

  -- so it had its instant
  instant : (v : ℕ) → v < c.dir_top → Instant all_laws.others setup cl start (story setup cl k wr l c.pre)
      (tells setup cl k wr l all_laws.others start c.pre meant) v order
  instant v o = instants_end all_laws.others setup cl start (story setup cl k wr l c.pre)
      (tells setup cl k wr l all_laws.others start c.pre meant) (separate setup cl k wr l) v o (placed v o)

  -- then the replaced buckets held their parts
  parts_held : (v : ℕ) (o : v < c.dir_top) →
      (let m = t.dir_made v in HoldSessions rules (sessions_after rules start (instant v o).before) m.loaded
      (leaves_of setup (past_of c) t (c.dir_at v) m))
  parts_held v o j d lt away =
      let i = instant v o in
      let m = t.dir_made v in
      let r = replaced_is setup cl c f.shared (base setup w c locals f t y) t y.told
      (λ b v n e. (f.descent.there b v n e, (f.descent.comes b v n e).base))
      (calls_are setup w c locals f t y) (replies setup w c locals f t y) v o (get_or m.loaded j d)
      (in_at m.loaded j d lt) away in
      let b = lead setup c v r.0 in
      let sessions = sessions_after rules start i.before in
      let sound = f.shared.rows.sound b (c.top b) (f.shared.leads.there v r.0 (omega (arith, o))) (omega arith) in
      subst (λ (x : BucketState). HoldsPart rules x.prefix x.depth x.items sessions) (sym r.2)
      (subst (λ p. HoldsPart rules p (last c b).depth (last c b).items sessions) (sym sound.prefix_is)
      (subst (λ e. HoldsPart rules (c.pre b) e (last c b).items sessions) (sym sound.depth_is) (i.holds r.0 r.1)))

  -- the calls of the directory row are the ops that its change took
  alike : (v : ℕ) (o : v < c.dir_top) → (let m = t.dir_made v in
      AlikeIn rules (leaves_of setup (past_of c) t (c.dir_at v) m)
      (calls_in setup.shape cl (ByDirectoryRow (c.dir_row (v + 1)))) (taken rules (c.dir_at v) m.loaded m.ops))
  alike v o = alike_is setup cl c f.shared (base setup w c locals f t y) t y.told
      (λ b v n e. (f.descent.there b v n e, (f.descent.comes b v n e).base))
      (calls_are setup w c locals f t y) (replies setup w c locals f t y) v o wr l all_laws.leaves_fold

  -- the bucket was split since the one above it was full after some of these ops
  born_later : (b v : ℕ) → c.named b ≡ true → c.born b ≡ v + 1 → HasCause (leaf_of b)
  born_later b v n e =
      let o : v < c.dir_top = omega (arith, e, f.descent.born_within b n) in
      let m = t.dir_made v in
      let made = y.told.versions v o in
      let leaves = leaves_of setup (past_of c) t (c.dir_at v) m in
      let at = made.only b n e in
      let leaf = (get_or leaves at.0 no_leaf).bucket in
      of_state b leaf n (ap (λ x. c.state_at x 0) at.2 ∙ (made.leaves at.0 no_leaf at.1).state) (λ deep.
      let from = leaves_are_good rules (seats_of setup) (c.dir_at v) m.loaded m.ops made.can at.0 no_leaf at.1 in
      let i = instant v o in
      let sessions = sessions_after rules start i.before in
      let calls = calls_in setup.shape cl (ByDirectoryRow (c.dir_row (v + 1))) in
      let full = splits_have_causes rules (seats_of setup) sessions (c.dir_at v) m.loaded m.ops made.can
      (parts_held v o) at.0 no_leaf at.1 from.0 (leaf.depth - 1) from.1
      (omega (arith, from.1.deeper)) (omega (arith, deep)) in
      let front = alike_front rules sessions leaves calls full.front full.back
      (subst (AlikeIn rules leaves calls) full.stage (alike v o)) in
      let one : leaf.depth - (leaf.depth - 1) ≡ 1 = omega (arith, deep) in
      let half : leaf.prefix / 2 ≡ leaf.prefix / 2 ^ (leaf.depth - (leaf.depth - 1)) =
      ap (λ x. leaf.prefix / 2 ^ x) (sym one) in
      inr (record {
        front = i.before ++ front.first;
        back = front.rest ++ i.later;
        stage = i.order_is ∙ ap (λ xs. i.before ++ (xs ++ i.later)) front.is
            ∙ ap (λ xs. i.before ++ xs) (append_assoc front.first front.rest i.later)
            ∙ sym (append_assoc i.before front.first (front.rest ++ i.later));
        full = ap (keys_with_prefix rules (leaf.depth - 1) (leaf.prefix / 2))
            (sessions_after-append rules start i.before front.first ∙ front.same)
            ∙ ap (λ z. keys_with_prefix rules (leaf.depth - 1) z (sessions_after_taken rules sessions full.front))
            half ∙ full.full;
      }))

  -- whenever the bucket was born
  cause : (b : ℕ) → c.named b ≡ true → HasCause (leaf_of b)
  cause b n = go (c.born b) refl
    where
      go : (v : ℕ) → c.born b ≡ v → HasCause (leaf_of b)
      go zero e = opened b n e
      go (suc v) e = born_later b v n (e ∙ omega arith)

  -- so each deep leaf has its cause
  pub warranted : Warranted rules setup.shape.settings.start setup.first order (closed_leaves setup.shape cl.words)
  warranted = all_mapped HasCause (leaf_at setup.shape w.words) (closed_buckets setup.shape w.words)
      (λ b i. subst HasCause (sym (leaf_here setup w c locals f b i)) (cause b (bucket_named setup w.words k wr b i)))

-- in every run
pub leaves_are_warranted : LeavesAreWarranted
leaves_are_warranted setup events run = (let a = all_tell setup events run in
    warranted setup (world_after setup events) a.common a.locals a.follows a.extra a.holds)
