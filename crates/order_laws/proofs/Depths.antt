-- The directory is as deep as its deepest leaf: so it is at the opening, and each change that makes it deeper has a
-- leaf so deep.
use Rattle.std.proofs.Common.{◌≡◌, ℕ, zero, suc, ◌+◌, ◌*◌, ◌/◌, ◌^◌, ◌<◌, ◌≤◌, false, List, [], ◌∷◌, length, get_or, inl, inr, refl, sym, ap, ◌∙◌, subst, arith}
use Rattle.std.specs.Prelude.{◌-◌, max, fold}
use Rattle.hash_bits.specs.Prefix.{first_bits}
use Rattle.plain_map.specs.declared.leaves.Leaf.{Leaf}
use Rattle.bucket_states.specs.States.{BucketState}
use Rattle.change_laws.proofs.Directories.{hash-of}
use Rattle.change_laws.proofs.NewDirectory.{directory_names_leaves, directory_stays_right, depth_is_of_one}
use Rattle.change_laws.proofs.Walk.{loaded-is}
use Rattle.hash_bits.proofs.PrefixLemmas.{first_bits-within}
use Rattle.change_laws.proofs.Openings.{opening_depth_is_of_one}
use Rattle.table_model.specs.Setup.{Setup, seats_of, rules_of}
use Rattle.table_model.specs.Directories.{DirectoryState}
use Rattle.table_model.specs.DirectoryChange.{is_bucket, with_leaves}
use Rattle.table_model.specs.DirectoryLaws.{StandsIn, is_replaced}
use Rattle.table_model.specs.Leaves.{NewLeaf}
use Rattle.table_model.specs.Worlds.{World, world_after, first_leaves}
use Rattle.table_model.specs.Opening.{opening_directory}
use Rattle.table_model.specs.Reading.{directory_at}
use Rattle.table_model.specs.Closed.{closed_buckets, closed_leaves, closed_depth, leaf_at, greatest_depth}
use Rattle.table_model.specs.Histories.{DepthIsOfLeaves}
use Rattle.run_invariant.proofs.Invariant.{Common, Local, Shared}
use Rattle.run_invariant.proofs.Change.{no_leaf}
use Rattle.run_laws.proofs.Induction.{Follows}
use Rattle.run_laws.proofs.Won.{all_found}
use Rattle.change_laws.proofs.FirstLeaves.{first_opens, first_can_open}
use Rattle.closed_laws.proofs.Told.{names_of}
use Rattle.list_laws.proofs.Places.{number_in}
use Rattle.closed_laws.proofs.Covers.{book, written, leaf_here}
use Rattle.list_laws.proofs.Lists.{In, in_map, map_in}
use Rattle.closed_laws.proofs.Read.{directory_is}
use Rattle.closed_laws.proofs.ClosedBuckets.{bucket_in, in_buckets}
use Rattle.order_laws.proofs.Tale.{past_of, Tale, Made, leaves_of, IsLoadedAt, VersionMade}
use Rattle.order_laws.proofs.AllRuns.{Tells, all_tell}
use Rattle.list_laws.proofs.Places.{at_index}

-- the greatest of some depths
abbrev deeper : ℕ → Leaf → ℕ
deeper depth leaf = max depth leaf.depth

-- the greatest depth is no greater than a bound of all
most_least : (leaves : List Leaf) (d n : ℕ) → d ≤ n → ((leaf : Leaf) → In leaf leaves → leaf.depth ≤ n) →
    fold deeper d leaves ≤ n
most_least [] d n o h = o
most_least (x ∷ leaves) d n o h = most_least leaves (max d x.depth) n
    (let low = h x (inl refl) in omega (arith, o, low)) (λ y i. h y (inr i))

-- it is no less than it was
most_up : (leaves : List Leaf) (d : ℕ) → d ≤ fold deeper d leaves
most_up [] d = omega arith
most_up (x ∷ leaves) d = (let up = most_up leaves (max d x.depth) in omega (arith, up))

-- and no less than that of a member
most_of : (leaves : List Leaf) (d : ℕ) (leaf : Leaf) → In leaf leaves → leaf.depth ≤ fold deeper d leaves
most_of [] d leaf i = elim i [ ]
most_of (x ∷ leaves) d leaf (inl e) = (let up = most_up leaves (max d x.depth) in
    omega (arith, up, ap (λ (y : Leaf). y.depth) e))
most_of (x ∷ leaves) d leaf (inr i) = most_of leaves (max d x.depth) leaf i

-- so it is that of a member that is as deep as any
greatest_is : (leaves : List Leaf) (leaf : Leaf) (n : ℕ) → In leaf leaves → leaf.depth ≡ n →
    ((x : Leaf) → In x leaves → x.depth ≤ n) → n ≡ greatest_depth leaves
greatest_is leaves leaf n i e h = (let low = most_of leaves 0 leaf i in
    let high = most_least leaves 0 n (omega arith) h in omega (arith, low, high, e))

module _ (setup : Setup) (w : World) (c : Common) (locals : ℕ → Local) (f : Follows setup w c locals) (t : Tale)
    (y : Tells setup w c locals t) where
  -- what is shared
  s : Shared setup c
  s = f.shared

  -- a bucket of the directory is as deep as that
  abbrev Deep : ℕ → Type 0
  Deep v = (b : ℕ) × In b (c.dir_at v).entries × (c.deep b ≡ (c.dir_at v).depth)

  -- a bucket of a directory is one of the same directory
  in_same : (v : ℕ) (d : DirectoryState) (b : ℕ) → c.dir_at v ≡ d → In b d.entries → In b (c.dir_at v).entries
  in_same v d b e i = subst (λ (x : DirectoryState). In b x.entries) (sym e) i

  -- at the opening
  deep_first : Deep 0
  deep_first =
      let start = setup.shape.settings.start in
      let leaves = first_leaves setup in
      let law =
      opening_depth_is_of_one (rules_of setup) (seats_of setup) start setup.first (first_can_open setup s.opened) in
      let i = law.0 in
      let leaf = get_or leaves i no_leaf in
      let stand = at_index (λ (z : NewLeaf). StandsIn (opening_directory start leaves) i z.bucket) leaves i no_leaf
      law.1 ((first_opens setup s.opened).stand i) in
      let deep : leaf.bucket.depth ≡ (c.dir_at 0).depth =
      law.2 no_leaf ∙ ap (λ (d : DirectoryState). d.depth) (sym y.told.first_dir) in
      let there : In i (c.dir_at 0).entries =
      stands_at (opening_directory start leaves) i leaf.bucket y.told.first_dir stand (law.2 no_leaf)
      ((first_opens setup s.opened).good i no_leaf law.1).0.below in
      let named = (written setup w c locals f).entries 0 i (omega arith) there in
      let first = y.told.first_leaf i named.0 (omega (arith, named.1)) in (
        i,
        there,
        sym (s.rows.sound i 0 named.0 (omega arith)).depth_is ∙ ap (λ (x : BucketState). x.depth) first.1
            ∙ deep,
      )
    where
      stands_at : (d : DirectoryState) (i : ℕ) (x : BucketState) → c.dir_at 0 ≡ d → StandsIn d i x →
          x.depth ≡ d.depth → x.prefix < 2 ^ x.depth → In i (c.dir_at 0).entries
      stands_at d i x same stand e below =
          let none : d.depth - x.depth ≡ 0 = omega (arith, e) in
          let inside : x.prefix < 2 ^ d.depth = subst (λ n. x.prefix < 2 ^ n) e below in
          let whole : x.prefix / 2 ^ (d.depth - x.depth) ≡ x.prefix = ap (λ n. x.prefix / 2 ^ n) none ∙ omega arith in
          let at : get_or d.entries x.prefix 0 ≡ i = (stand.places x.prefix inside).1 whole in
          let long : length d.entries ≡ 2 ^ d.depth =
          subst (λ (z : DirectoryState). length z.entries ≡ 2 ^ z.depth) same
          (s.directories.long 0 (omega arith)) in
          in_same 0 d i same (subst (λ z. In z d.entries) at
          (number_in d.entries x.prefix (omega (arith, inside, long))))

  -- and after each change
  deep_next : (v : ℕ) → v < c.dir_top → Deep v → Deep (v + 1)
  deep_next v o d = elim (depth_is_of_one (rules_of setup) (seats_of setup) m.fresh was m.loaded m.ops made.can) [
    | inl leaf ↦
        let b = m.fresh + leaf.0 in
        let born = made.leaves leaf.0 no_leaf leaf.1 in (
          b,
          subst (λ n. In b (c.dir_at n).entries) born.born ((written setup w c locals f).present b born.named),
          sym (s.rows.sound b 0 born.named (omega arith)).depth_is ∙ ap (λ (x : BucketState). x.depth) born.state
              ∙ leaf.2 no_leaf ∙ ap (λ (x : DirectoryState). x.depth) (sym made.is),
        )
    | inr same ↦
        let kept : is_replaced d.0 leaves ≡ false = same.1 d.0 (λ l e.
        let x = all_found (IsLoadedAt setup (past_of c) t was) (is_bucket d.0) m.loaded l made.loads e in
        x.deep ∙ ap c.deep (loaded-is (rules_of setup) (seats_of setup) was m.loaded m.ops made.can d.0 l e) ∙ d.2) in
        (d.0, stays d.0 d.1 kept, d.2 ∙ sym same.0 ∙ ap (λ (x : DirectoryState). x.depth) (sym made.is))
  ]
    where
      m : Made
      m = t.dir_made v

      was : DirectoryState
      was = c.dir_at v

      made : VersionMade setup (past_of c) t v was (c.dir_at (v + 1)) m
      made = y.told.versions v o

      leaves : List NewLeaf
      leaves = leaves_of setup (past_of c) t was m

      stays : (b : ℕ) → In b was.entries → is_replaced b leaves ≡ false → In b (c.dir_at (v + 1)).entries
      stays b i kept =
          let at = names_of setup c f.shared f.descent v b (omega (arith, o)) i in
          let shallow : was.depth ≤ 64 = omega (arith, s.directories.shallow v (omega (arith, o))) in
          let h = at.0 * 2 ^ (64 - was.depth) in
          let of = hash-of was.depth at.0 shallow at.1 in
          let here : get_or was.entries (first_bits h was.depth) 0 ≡ b =
          ap (λ n. get_or was.entries n 0) of.is ∙ at.2 in
          let now = with_leaves m.fresh leaves was in
          let right = directory_stays_right (rules_of setup) (seats_of setup) m.fresh was m.loaded m.ops made.can in
          let entry = (directory_names_leaves (rules_of setup)
          (seats_of setup) h m.fresh was m.loaded m.ops made.can of.small).0
          (ap (λ z. is_replaced z leaves) here ∙ kept) in
          let inside = first_bits-within h now.depth of.small (omega (arith, right.0)) in
          in_same (v + 1) now b made.is (subst (λ z. In z now.entries) (entry ∙ here)
          (number_in now.entries (first_bits h now.depth) (omega (arith, inside, right.1))))

  -- so it is in every version
  deep_all : (v : ℕ) → v ≤ c.dir_top → Deep v
  deep_all zero o = deep_first
  deep_all (suc v) o = subst Deep (omega arith) (deep_next v (omega (arith, o)) (deep_all v (omega (arith, o))))

  -- so it is in the closed words
  pub depth_is : closed_depth setup.shape w.words ≡ greatest_depth (closed_leaves setup.shape w.words)
  depth_is =
      let wr = written setup w c locals f in
      let k = book setup w c locals f in
      let d = deep_all c.dir_top (omega arith) in
      let b_in = in_buckets setup w.words k wr d.0 d.1 in
      let depth : closed_depth setup.shape w.words ≡ (c.dir_at c.dir_top).depth =
      ap (λ r. (directory_at setup.shape w.words r).depth) wr.root_is
      ∙ ap (λ (x : DirectoryState). x.depth) (directory_is setup w.words k wr c.dir_top (omega arith)) in
      depth ∙ greatest_is (closed_leaves setup.shape w.words) (leaf_at setup.shape w.words d.0)
      (c.dir_at c.dir_top).depth
      (map_in (leaf_at setup.shape w.words) (closed_buckets setup.shape w.words) d.0 b_in)
      (ap (λ (x : Leaf). x.depth) (leaf_here setup w c locals f d.0 b_in) ∙ d.2)
      (λ x i.
      let r = in_map (leaf_at setup.shape w.words) (closed_buckets setup.shape w.words) x i in
      let e = bucket_in setup w.words k wr r.0 r.1 in
      let at = names_of setup c f.shared f.descent c.dir_top r.0 (omega arith) e in
      let stands = s.leads.stands c.dir_top at.0 (omega arith) at.1 in
      omega (
        arith,
        ap (λ (z : Leaf). z.depth) r.2,
        ap (λ (z : Leaf). z.depth) (leaf_here setup w c locals f r.0 r.1),
        ap c.deep at.2,
        stands.shallow,
      ))

-- in every run
pub depth_is_of_leaves : DepthIsOfLeaves
depth_is_of_leaves setup events run = let a = all_tell setup events run in
    depth_is setup (world_after setup events) a.common a.locals a.follows a.extra a.holds
