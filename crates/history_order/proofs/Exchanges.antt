-- The directory rows from the opening on, the buckets by where they were named first, and their exchanged rows.
use Rattle.std.proofs.Common.{◌≡◌, ℕ, zero, suc, ◌+◌, ◌<◌, ◌≤◌, ◌⊎◌, true, cond, not, List, [], ◌∷◌, ◌++◌, get_or, reverse, map, Option, Some, None, refl, inl, inr, sym, ap, ◌∙◌, subst, arith, add-one}
use Rattle.std.specs.Prelude.{flat_map}
use Rattle.std.specs.List.{range_with_len}
use Rattle.std.proofs.lemmas.Bool.{cases_Bool, cases_lt, cases_eq}
use Rattle.std.proofs.lemmas.List.{reverse-append}
use Rattle.plain_map.specs.declared.full.FullKind.TheVariants.{BucketRows, DirRows}
use Rattle.word_rows.specs.Shape.{count_of}
use Rattle.table_model.specs.Setup.{Setup}
use Rattle.table_model.specs.Directories.{DirectoryState}
use Rattle.table_model.specs.Reading.{bucket_row, directory_row, line, is_exchanged, is_among, each_once, directory_rows, bucket_line, leaves_beside, leaves_new_in}
use Rattle.list_laws.proofs.Lists.{In, in_left, in_right, in_both, in_filter, filter_in, in_flat_map, flat_map_in}
use Rattle.closed_laws.proofs.Book.{Book, Written}
use Rattle.closed_laws.proofs.Lines.{among_is_in, each_in, in_each}
use Rattle.placing_laws.proofs.Stuck.{among_in}
use Rattle.closed_laws.proofs.Read.{base_is, dir_base_is, directory_is, later_exchanged, first_not_exchanged, fuel, dir_fuel}
use Rattle.history_order.specs.Filling.{entries_of, new_beside, leaves_from, while_true, exchanged_of, exchanged_in}
use Rattle.history_order.proofs.After.{filter_same}
use Rattle.list_laws.proofs.Truths.{both_ways}
use Rattle.list_laws.proofs.Numbers.{plus_none, plus_suc, range_more}

-- a line turned round goes from the first row on
line_turned : (base : ℕ → Option ℕ) (f : ℕ → ℕ) (top : ℕ) → ((v : ℕ) → v < top → base (f (v + 1)) ≡ Some (f v)) →
    base (f 0) ≡ None → (most v : ℕ) → v ≤ top → v < most →
    reverse (line base most (Some (f v))) ≡ map f (range_with_len 0 (suc v))
line_turned base f top based first zero v o less = absurd (omega (arith, less))
line_turned base f top based first (suc most) zero o less =
    ap (λ next. reverse (f 0 ∷ line base most next)) first ∙ ap (λ xs. reverse (f 0 ∷ xs)) (none most)
  where
    none : (m : ℕ) → line base m None ≡ []
    none zero = refl
    none (suc m) = refl
line_turned base f top based first (suc most) (suc v) o less =
    let before : base (f (suc v)) ≡ Some (f v) = ap (λ n. base (f n)) (sym (add-one v)) ∙ based v (omega (arith, o)) in
    ap (λ next. reverse (f (suc v) ∷ line base most next)) before
    ∙ reverse-append (f (suc v) ∷ []) (line base most (Some (f v)))
    ∙ ap (λ xs. xs ++ f (suc v) ∷ []) (line_turned base f top based first most v (omega (arith, o)) (omega (
      arith,
      less,
    )))
    ∙ sym (map_ends (range_with_len 0 (suc v)) (suc v))
    ∙ ap (λ x. map f (range_with_len 0 (suc v) ++ x ∷ [])) (plus (suc v))
    ∙ ap (map f) (sym (range_more 0 (suc v)))
  where
    plus : (n : ℕ) → n ≡ 0 + n
    plus n = omega arith

    map_ends : (xs : List ℕ) (x : ℕ) → map f (xs ++ x ∷ []) ≡ map f xs ++ f x ∷ []
    map_ends [] x = refl
    map_ends (y ∷ ys) x = ap (λ zs. f y ∷ zs) (map_ends ys x)

module _ (setup : Setup) (words : List ℕ) (k : Book) (w : Written setup words k) where
  -- the versions' rows from the opening on
  pub rows_turned : reverse (directory_rows setup.shape words) ≡ map k.dir_row (range_with_len 0 (suc k.dir_top))
  rows_turned =
      ap (λ r. reverse (line (λ x. (directory_row setup.shape words x).base) (count_of setup.shape DirRows) (Some r)))
      w.root_is
      ∙ line_turned (λ x. (directory_row setup.shape words x).base) k.dir_row k.dir_top
      (λ v h. dir_base_is setup words k w (v + 1) (omega (arith, h)) ∙ w.dir_bases v h)
      (dir_base_is setup words k w 0 (omega arith) ∙ w.dir_first) (count_of setup.shape DirRows) k.dir_top
      (omega arith) (dir_fuel setup words k w)

  -- the entries of a version
  abbrev entries_at : ℕ → List ℕ
  entries_at v = entries_of setup.shape words (k.dir_row v)

  -- they are the book's
  pub entry_from : (v b : ℕ) → v ≤ k.dir_top → In b (entries_at v) → In b (k.dir_at v).entries
  entry_from v b o = subst (λ (d : DirectoryState). In b d.entries) (directory_is setup words k w v o)

  -- and back
  entry_to : (v b : ℕ) → v ≤ k.dir_top → In b (k.dir_at v).entries → In b (entries_at v)
  entry_to v b o = subst (λ (d : DirectoryState). In b d.entries) (sym (directory_is setup words k w v o))

  -- these are the buckets of the versions before
  pub record Before (v : ℕ) (known : List ℕ) : Type 0 where
    pub from : (b : ℕ) → In b known → (u : ℕ) × (u < v) × In b (entries_at u)
    pub to : (u b : ℕ) → u < v → In b (entries_at u) → In b known

  -- with those of one more
  before_more : (v : ℕ) (known : List ℕ) → Before v known → Before (v + 1) (known ++ entries_at v)
  before_more v known h = record {
    from = λ b i. elim (in_both b known (entries_at v) i) [
      | inl old ↦ let r = h.from b old in (r.0, omega (arith, r.1), r.2)
      | inr new ↦ (v, omega arith, new)
    ];
    to = λ u b less i. elim (cases_less u v less) [
      | inl old ↦ in_left b known (entries_at v) (h.to u b old i)
      | inr e ↦ in_right b known (entries_at v) (subst (λ n. In b (entries_at n)) e i)
    ];
  }
    where
      cases_less : (a b : ℕ) → a < b + 1 → (a < b) ⊎ (a ≡ b)
      cases_less a b less = elim (cases_lt a b) [
        | inl l ↦ inl l
        | inr p ↦ inr (omega (arith, less, p))
      ]

  -- the new ones of a version are named by it
  pub new_named : (v : ℕ) (known : List ℕ) (b : ℕ) → v ≤ k.dir_top → In b (new_beside setup.shape words known
      (k.dir_row v)) →
      In b (entries_at v)
  new_named v known b o i =
      each_in (entries_at v) b (in_filter (λ x. not (is_among known x)) (each_once (entries_at v)) b i).0

  -- and each bucket is new where it was born
  pub new_born : (known : List ℕ) (b : ℕ) → k.named b ≡ true → Before (k.born b) known →
      In b (new_beside setup.shape words known (k.dir_row (k.born b)))
  new_born known b n h =
      let o = w.born_within b n in
      filter_in (λ x. not (is_among known x)) (each_once (entries_at (k.born b))) b
      (in_each (entries_at (k.born b)) b (entry_to (k.born b) b o (w.present b n)))
      (elim (cases_Bool (is_among known b)) [
        | inr e ↦ ap not e
        | inl e ↦
            let r = h.from b (among_is_in known b e) in
            absurd (omega (
              arith,
              r.1,
              (w.entries r.0 b (omega (arith, r.1, o)) (entry_from r.0 b (omega (
                arith,
                r.1,
                o,
              )) r.2)).1,
            ))
      ])

  -- those of a later version are its new leaves
  pub new_leaves_are : (v : ℕ) (known : List ℕ) → v < k.dir_top → Before (v + 1) known →
      new_beside setup.shape words known (k.dir_row (v + 1)) ≡ leaves_new_in setup.shape words (k.dir_row (v + 1))
  new_leaves_are v known o h =
      filter_same (λ x. not (is_among known x)) (λ x. not (is_among (entries_at v) x)) (each_once (entries_at (v + 1)))
      (λ b i. ap not (both_ways (is_among known b) (is_among (entries_at v) b)
      (λ e. let r = h.from b (among_is_in known b e) in
      let early = (w.entries r.0 b (omega (arith, r.1, o)) (entry_from r.0 b (omega (arith, r.1, o)) r.2)).1 in
      elim (w.newcomers v b o (entry_from (v + 1) b (omega (arith, o)) (each_in (entries_at (v + 1)) b i))) [
        | inl there ↦ among_in (entries_at v) b (entry_to v b (omega (arith, o)) there)
        | inr late ↦ absurd (omega (arith, r.1, early, late))
      ])
      (λ e. among_in known b (h.to v b (omega arith) (among_is_in (entries_at v) b e)))))
      ∙ sym (ap (leaves_beside setup.shape words (k.dir_row (v + 1)))
      (dir_base_is setup words k w (v + 1) (omega (arith, o)) ∙ w.dir_bases v o))

  -- what stands at each place of the leaves
  pub record LeavesAt (v : ℕ) (buckets : List ℕ) : Type 0 where
    pub known : List ℕ
    pub before : Before v known
    pub is : buckets ≡ new_beside setup.shape words known (k.dir_row v)

  pub leaves_at : (known : List ℕ) (from many i : ℕ) → Before from known → i < many →
      LeavesAt (from + i) (get_or (leaves_from setup.shape words known (map k.dir_row (range_with_len from many))) i [])
  leaves_at known from zero i h less = absurd (omega (arith, less))
  leaves_at known from (suc many) zero h less =
      subst (λ n. LeavesAt n (new_beside setup.shape words known (k.dir_row from))) (plus_none from)
      (record { known = known; before = h; is = refl })
  leaves_at known from (suc many) (suc i) h less =
      subst (λ n. LeavesAt n (get_or (leaves_from setup.shape words (known ++ entries_at from)
      (map k.dir_row (range_with_len (from + 1) many))) i [])) (plus_suc from i)
      (leaves_at (known ++ entries_at from) (from + 1) many i (before_more from known h) (omega (arith, less)))

  -- each bucket of the leaves is named
  leaf_named : (known : List ℕ) (from many : ℕ) (buckets : List ℕ) (b : ℕ) → from + many ≤ suc k.dir_top →
      In buckets (leaves_from setup.shape words known (map k.dir_row (range_with_len from many))) → In b buckets →
      k.named b ≡ true
  leaf_named known from zero buckets b o i m = elim i [ ]
  leaf_named known from (suc many) buckets b o (inl e) m =
      (w.entries from b (omega (arith, o)) (entry_from from b (omega (arith, o))
      (new_named from known b (omega (arith, o)) (subst (In b) e m)))).0
  leaf_named known from (suc many) buckets b o (inr i) m =
      leaf_named (known ++ entries_at from) (from + 1) many buckets b (omega (arith, o)) i m

  -- and each named bucket stands there
  leaf_there : (known : List ℕ) (from many b : ℕ) → Before from known → k.named b ≡ true → from ≤ k.born b →
      k.born b < from + many →
      (buckets : List ℕ) × In buckets (leaves_from setup.shape words known (map k.dir_row (range_with_len from many)))
      × In b buckets
  leaf_there known from zero b h n low high = absurd (omega (arith, low, high))
  leaf_there known from (suc many) b h n low high = elim (cases_eq from (k.born b)) [
    | inl e ↦ (
      new_beside setup.shape words known (k.dir_row from),
      inl refl,
      subst (λ v. In b (new_beside setup.shape words known (k.dir_row v))) (sym e)
          (new_born known b n (subst (λ v. Before v known) e h)),
    )
    | inr apart ↦
        let r = leaf_there (known ++ entries_at from) (from + 1) many b (before_more from known h) n
        (omega (arith, low, apart)) (omega (arith, high)) in
        (r.0, inr r.1, r.2)
  ]

  -- ---- the exchanged rows

  -- those of a bucket from a row on are its later rows
  rows_from : (b : ℕ) → k.named b ≡ true → (most i row : ℕ) → i ≤ k.top b →
      In row (while_true (is_exchanged setup.shape words)
      (line (λ r. (bucket_row setup.shape words r).base) most (Some (k.row_at b i)))) →
      (j : ℕ) × (j < k.top b) × (row ≡ k.row_at b (j + 1))
  rows_from b n zero i row o m = elim m [ ]
  rows_from b n (suc most) zero row o m =
      elim (subst (λ t. In row (cond t (k.row_at b 0 ∷ while_true (is_exchanged setup.shape words)
      (line (λ r. (bucket_row setup.shape words r).base) most (bucket_row setup.shape words (k.row_at b 0)).base)) []))
      (first_not_exchanged setup words k w b n) m) [ ]
  rows_from b n (suc most) (suc i) row o m =
      let test = is_exchanged setup.shape words in
      let base : ℕ → Option ℕ = λ r. (bucket_row setup.shape words r).base in
      let passes : test (k.row_at b (suc i)) ≡ true =
      ap (λ x. test (k.row_at b x)) (sym (add-one i)) ∙ later_exchanged setup words k w b i n (omega (arith, o)) in
      let before : base (k.row_at b (suc i)) ≡ Some (k.row_at b i) =
      ap (λ x. base (k.row_at b x)) (sym (add-one i)) ∙ base_is setup words k w b (i + 1) n (omega (arith, o))
      ∙ w.bases b i n (omega (arith, o)) in
      elim (subst (λ next. In row (k.row_at b (suc i) ∷ while_true test (line base most next))) before
      (subst (λ t. In row (cond t (k.row_at b (suc i) ∷ while_true test (line base most (base (k.row_at b (suc i)))))
      []))
      passes m)) [
        | inl e ↦ (i, omega (arith, o), e ∙ ap (k.row_at b) (sym (add-one i)))
        | inr j ↦ rows_from b n most i row (omega (arith, o)) j
      ]

  -- and each later row is one of them
  rows_to : (b : ℕ) → k.named b ≡ true → (most i j : ℕ) → i ≤ k.top b → i < most → j < i →
      In (k.row_at b (j + 1)) (while_true (is_exchanged setup.shape words)
      (line (λ r. (bucket_row setup.shape words r).base) most (Some (k.row_at b i))))
  rows_to b n zero i j o less l = absurd (omega (arith, less))
  rows_to b n (suc most) zero j o less l = absurd (omega (arith, l))
  rows_to b n (suc most) (suc i) j o less l =
      let test = is_exchanged setup.shape words in
      let base : ℕ → Option ℕ = λ r. (bucket_row setup.shape words r).base in
      let passes : test (k.row_at b (suc i)) ≡ true =
      ap (λ x. test (k.row_at b x)) (sym (add-one i)) ∙ later_exchanged setup words k w b i n (omega (arith, o)) in
      let before : base (k.row_at b (suc i)) ≡ Some (k.row_at b i) =
      ap (λ x. base (k.row_at b x)) (sym (add-one i)) ∙ base_is setup words k w b (i + 1) n (omega (arith, o))
      ∙ w.bases b i n (omega (arith, o)) in
      subst (λ t. In (k.row_at b (j + 1)) (cond t (k.row_at b (suc i) ∷ while_true test
      (line base most (base (k.row_at b (suc i))))) [])) (sym passes)
      (subst (λ next. In (k.row_at b (j + 1)) (k.row_at b (suc i) ∷ while_true test (line base most next))) (sym before)
      (elim (cases_eq j i) [
        | inl e ↦ inl (ap (k.row_at b) (add-one j ∙ ap suc e))
        | inr apart ↦ inr (rows_to b n most i j (omega (arith, o)) (omega (arith, less)) (omega (arith, l, apart)))
      ]))

  -- the leaves of all versions
  abbrev pub all_leaves : List (List ℕ)
  all_leaves = leaves_from setup.shape words [] (map k.dir_row (range_with_len 0 (suc k.dir_top)))

  -- no version is before the first
  pub before_none : Before 0 []
  before_none = record { from = λ b i. elim i [ ]; to = λ u b less i. absurd (omega (arith, less)) }

  -- the exchanged rows are the later rows of the buckets
  pub exchanged_from : (row : ℕ) → In row (exchanged_in setup.shape words all_leaves) →
      (b : ℕ) × (i : ℕ) × (k.named b ≡ true) × (i < k.top b) × (row ≡ k.row_at b (i + 1))
  exchanged_from row m =
      let ls = in_flat_map (λ buckets. flat_map (exchanged_of setup.shape words) buckets) all_leaves row m in
      let b = in_flat_map (exchanged_of setup.shape words) ls.0 row ls.2 in
      let n = leaf_named [] 0 (suc k.dir_top) ls.0 b.0 (omega arith) ls.1 b.1 in
      let r = rows_from b.0 n (count_of setup.shape BucketRows) (k.top b.0) row (omega arith)
      (subst (λ q. In row (while_true (is_exchanged setup.shape words) (bucket_line setup.shape words (Some q))))
      (w.word_is b.0 n) b.2) in
      (b.0, r.0, n, r.1, r.2)

  pub exchanged_to : (b i : ℕ) → k.named b ≡ true → i < k.top b →
      In (k.row_at b (i + 1)) (exchanged_in setup.shape words all_leaves)
  exchanged_to b i n less =
      let ls = leaf_there [] 0 (suc k.dir_top) b before_none n (omega arith) (omega (arith, w.born_within b n)) in
      flat_map_in (λ buckets. flat_map (exchanged_of setup.shape words) buckets) all_leaves ls.0 (k.row_at b (i + 1))
      ls.1
      (flat_map_in (exchanged_of setup.shape words) ls.0 b (k.row_at b (i + 1)) ls.2
      (subst (λ q. In (k.row_at b (i + 1)) (while_true (is_exchanged setup.shape words)
      (bucket_line setup.shape words (Some q)))) (sym (w.word_is b n))
      (rows_to b n (count_of setup.shape BucketRows) (k.top b) i (omega arith) (fuel setup words k w b n) less)))
