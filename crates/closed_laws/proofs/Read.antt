-- What is read from closed words is the history.
use Rattle.std.proofs.Common.{◌≡◌, ℕ, zero, suc, ◌+◌, ◌<◌, ◌≤◌, ◌⊎◌, Bool, true, false, not, List, Option, Some, None, true≢false, add-one, refl, inl, inr, sym, ap, ◌∙◌, subst, arith, eq-eqb}
use Rattle.std.specs.Prelude.{◌==◌, find, flat_map}
use Rattle.std.specs.Option.{option_map_or}
use Rattle.std.proofs.lemmas.Bool.{ne_eqb, not-true, cases_Bool}
use Rattle.plain_map.specs.declared.full.FullKind.TheVariants.{BucketRows, DirRows}
use Rattle.plain_map.specs.Rows.{BucketContent, DirectoryContent}
use Rattle.word_rows.specs.Shape.{count_of}
use Rattle.bucket_states.specs.States.{state_in_row}
use Rattle.table_model.specs.Setup.{Setup}
use Rattle.table_model.specs.Directories.{DirectoryState, directory_in_row}
use Rattle.table_model.specs.Reading.{bucket_row, directory_row, bucket_at, directory_at, is_among, each_once, bucket_line, directory_line, row_of, directory_rows, named_buckets, bucket_rows, is_exchanged, first_row, leaves_beside, leaves_new_in}
use Rattle.table_model.specs.Order.{first_rows, is_later}
use Rattle.list_laws.proofs.Lists.{In, Once, in_flat_map, flat_map_in, in_filter, filter_in, in_filter_map, filter_map_in}
use Rattle.closed_laws.proofs.Book.{Book, Written}
use Rattle.closed_laws.proofs.Lines.{pigeons, among_is_in, each_in, in_each, each_is_once, line_keeps, line_has, line_first, line_only, line_once}
use Rattle.placing_laws.proofs.Stuck.{among_in}

module _ (setup : Setup) (words : List ℕ) (k : Book) (w : Written setup words k) where
  -- the row that the words tell as the base of a row
  abbrev base_of : ℕ → Option ℕ
  base_of row = (bucket_row setup.shape words row).base

  -- the same of a directory row
  abbrev dir_base_of : ℕ → Option ℕ
  dir_base_of row = (directory_row setup.shape words row).base

  -- ---- single rows

  -- it is the book's
  pub base_is : (b i : ℕ) → k.named b ≡ true → i ≤ k.top b →
      (bucket_row setup.shape words (k.row_at b i)).base ≡ k.base_at b i
  base_is b i n o = ap (λ (r : BucketContent). r.base) (w.row_is b i n o)

  -- the state that the words tell is the book's
  pub state_is : (b i : ℕ) → k.named b ≡ true → i ≤ k.top b →
      bucket_at setup.shape words (k.row_at b i) ≡ k.state_at b i
  state_is b i n o = ap state_in_row (w.row_is b i n o)

  -- and so is the depth
  pub depth_is : (b i : ℕ) → k.named b ≡ true → i ≤ k.top b →
      (bucket_row setup.shape words (k.row_at b i)).depth ≡ k.deep b
  depth_is b i n o = ap (λ (r : BucketContent). r.depth) (w.row_is b i n o) ∙ w.deep_is b i n o

  -- the directory that the words tell is the book's
  pub directory_is : (v : ℕ) → v ≤ k.dir_top → directory_at setup.shape words (k.dir_row v) ≡ k.dir_at v
  directory_is v o = ap directory_in_row (w.dir_is v o)

  -- and so is its base
  pub dir_base_is : (v : ℕ) → v ≤ k.dir_top → (directory_row setup.shape words (k.dir_row v)).base ≡ k.dir_base v
  dir_base_is v o = ap (λ (r : DirectoryContent). r.base) (w.dir_is v o)

  -- a later row was made from the one before it
  based : (b : ℕ) → k.named b ≡ true → (i : ℕ) → i < k.top b → base_of (k.row_at b (i + 1)) ≡ Some (k.row_at b i)
  based b n i h = base_is b (i + 1) n (omega (arith, h)) ∙ w.bases b i n h

  -- and so was a later directory row
  dir_based : (v : ℕ) → v < k.dir_top → dir_base_of (k.dir_row (v + 1)) ≡ Some (k.dir_row v)
  dir_based v h = dir_base_is (v + 1) (omega (arith, h)) ∙ w.dir_bases v h

  -- the first was made from none
  dir_none : dir_base_of (k.dir_row 0) ≡ None
  dir_none = dir_base_is 0 (omega arith) ∙ w.dir_first

  -- there is fuel enough for a bucket's rows, and for the versions
  pub fuel : (b : ℕ) → k.named b ≡ true → k.top b < count_of setup.shape BucketRows
  fuel b n = omega (
    arith,
    pigeons (count_of setup.shape BucketRows) (k.top b + 1) (k.row_at b)
        (λ i h. w.within b i n (omega (arith, h)))
        (λ i j h l e. (w.once b b i j n n (omega (arith, h)) (omega (arith, l)) e).1),
  )

  -- there are fewer versions than directory rows
  pub dir_fuel : k.dir_top < count_of setup.shape DirRows
  dir_fuel = omega (
    arith,
    pigeons (count_of setup.shape DirRows) (k.dir_top + 1) k.dir_row
        (λ v h. w.dir_within v (omega (arith, h)))
        (λ u v h l e. w.dir_once u v (omega (arith, h)) (omega (arith, l)) e),
  )

  -- ---- bucket lines

  -- a published row
  pub record Published (row : ℕ) : Type 0 where
    pub bucket : ℕ
    pub at : ℕ
    pub named : k.named bucket ≡ true
    pub inside : at ≤ k.top bucket
    pub is : row ≡ k.row_at bucket at

  -- a row that a row of this bucket comes from: an earlier one of the bucket, or one of a shallower bucket
  pub record Earlier (b i row : ℕ) : Type 0 where
    pub published : Published row
    pub before : ((published.bucket ≡ b) × (published.at ≤ i)) ⊎ (k.deep published.bucket < k.deep b)

  -- so one step back leads to an earlier row
  pub row_or_parent : (b i row next : ℕ) → Earlier b i row → base_of row ≡ Some next → Earlier b i next
  row_or_parent b i row next e h = go e.published.at refl
    where
      c : ℕ
      c = e.published.bucket

      go : (j : ℕ) → e.published.at ≡ j → Earlier b i next
      go (suc j) is =
          let n = e.published.named in
          let h2 : base_of (k.row_at c (j + 1)) ≡ Some next =
          ap base_of (ap (k.row_at c) (add-one j ∙ sym is) ∙ sym e.published.is) ∙ h in
          let same : Some (k.row_at c j) ≡ Some next = sym (based c n j (omega (arith, is, e.published.inside))) ∙ h2 in
          let there : k.row_at c j ≡ next = cc in
          record {
            published = record {
              bucket = c;
              at = j;
              named = n;
              inside = omega (arith, is, e.published.inside);
              is = sym there;
            };
            before = elim e.before [ inl x ↦ inl (x.0, omega (arith, x.1, is)) | inr y ↦ inr y ];
          }
      go zero is = born (k.born c) refl
        where
          first : base_of (k.row_at c 0) ≡ Some next
          first = ap base_of (ap (k.row_at c) (sym is) ∙ sym e.published.is) ∙ h

          born : (v : ℕ) → k.born c ≡ v → Earlier b i next
          born zero z = let bad : None ≡ Some next =
              sym (base_is c 0 e.published.named (omega arith) ∙ w.opening c e.published.named z) ∙ first in cc
          born (suc v) z =
              let p = w.parent c v e.published.named (z ∙ sym (add-one v)) in
              let same : Some (k.row_at p.old (k.top p.old)) ≡ Some next =
              sym (base_is c 0 e.published.named (omega arith) ∙ p.base) ∙ first in
              let there : k.row_at p.old (k.top p.old) ≡ next = cc in
              record {
                published = record {
                  bucket = p.old;
                  at = k.top p.old;
                  named = p.named;
                  inside = omega arith;
                  is = sym there;
                };
                before = elim e.before [
                  | inl x ↦ inr (omega (arith, p.shallow, ap k.deep x.0))
                  | inr y ↦ inr
                      (omega (arith, p.shallow, y))
                ];
              }

  -- all that a row comes from is published, and earlier
  pub line_in : (b i x : ℕ) → k.named b ≡ true → i ≤ k.top b →
      In x (bucket_line setup.shape words (Some (k.row_at b i))) → Earlier b i x
  line_in b i x n o m = line_keeps base_of (Earlier b i) (λ r s e h. row_or_parent b i r s e h)
      (count_of setup.shape BucketRows) (k.row_at b i) x
      (record {
        published = record { bucket = b; at = i; named = n; inside = o; is = refl };
        before = inl (refl, omega arith);
      }) m

  -- and each earlier row of its bucket is there
  pub line_all : (b i j : ℕ) → k.named b ≡ true → i ≤ k.top b → j ≤ i →
      In (k.row_at b j) (bucket_line setup.shape words (Some (k.row_at b i)))
  line_all b i j n o l = line_has base_of (k.row_at b) (k.top b) (based b n)
      (count_of setup.shape BucketRows) i j o l (omega (arith, fuel b n, o))

  -- ---- directory rows

  -- the line of a directory row has the versions up to it
  pub dir_in : (v x : ℕ) → v ≤ k.dir_top → In x (directory_line setup.shape words (Some (k.dir_row v))) →
      (u : ℕ) × (u ≤ v) × (x ≡ k.dir_row u)
  dir_in v x o m = line_only dir_base_of k.dir_row k.dir_top dir_based dir_none (count_of setup.shape DirRows) v x o m

  -- all of them
  pub dir_all : (v u : ℕ) → v ≤ k.dir_top → u ≤ v →
      In (k.dir_row u) (directory_line setup.shape words (Some (k.dir_row v)))
  dir_all v u o l = line_has dir_base_of k.dir_row k.dir_top dir_based (count_of setup.shape DirRows) v u o l
      (omega (arith, dir_fuel, o))

  -- the listed directory rows are those of the versions
  pub directory_rows_in : (x : ℕ) → In x (directory_rows setup.shape words) →
      (v : ℕ) × (v ≤ k.dir_top) × (x ≡ k.dir_row v)
  directory_rows_in x m = dir_in k.dir_top x (omega arith) (subst
      (λ r. In x (directory_line setup.shape words (Some r))) w.root_is m)

  -- and each version's is listed
  pub in_directory_rows : (v : ℕ) → v ≤ k.dir_top → In (k.dir_row v) (directory_rows setup.shape words)
  in_directory_rows v o = subst (λ r. In (k.dir_row v) (directory_line setup.shape words (Some r))) (sym w.root_is)
      (dir_all k.dir_top v (omega arith) o)

  -- once
  pub directory_rows_once : Once (directory_rows setup.shape words)
  directory_rows_once = subst (λ r. Once (directory_line setup.shape words (Some r))) (sym w.root_is)
      (line_once dir_base_of k.dir_row k.dir_top dir_based dir_none w.dir_once
      (count_of setup.shape DirRows) k.dir_top (omega arith))

  -- ---- named buckets, and all published rows

  -- the buckets that a directory row names
  abbrev entries_in : ℕ → List ℕ
  entries_in row = (directory_at setup.shape words row).entries

  -- a bucket that some directory row names is named
  pub named_in : (b : ℕ) → In b (named_buckets setup.shape words) → k.named b ≡ true
  named_in b m =
      let r = in_flat_map entries_in (directory_rows setup.shape words) b
      (each_in (flat_map entries_in (directory_rows setup.shape words)) b m) in
      let v = directory_rows_in r.0 r.1 in
      (w.entries v.0 b v.1 (subst (λ (d : DirectoryState). In b d.entries)
      (ap (directory_at setup.shape words) v.2 ∙ directory_is v.0 v.1) r.2)).0

  -- and each named bucket is listed
  pub in_named : (b : ℕ) → k.named b ≡ true → In b (named_buckets setup.shape words)
  in_named b n =
      let o = w.born_within b n in
      in_each (flat_map entries_in (directory_rows setup.shape words)) b
      (flat_map_in entries_in (directory_rows setup.shape words) (k.dir_row (k.born b)) b
      (in_directory_rows (k.born b) o)
      (subst (λ (d : DirectoryState). In b d.entries) (sym (directory_is (k.born b) o)) (w.present b n)))

  -- the rows of a bucket and of those that it comes from
  abbrev line_of : ℕ → List ℕ
  line_of b = bucket_line setup.shape words (Some (row_of setup.shape words b))

  -- the listed bucket rows are published ones
  pub bucket_rows_in : (x : ℕ) → In x (bucket_rows setup.shape words) → Published x
  bucket_rows_in x m =
      let r = in_flat_map line_of (named_buckets setup.shape words) x
      (each_in (flat_map line_of (named_buckets setup.shape words)) x m) in
      let n = named_in r.0 r.1 in
      (line_in r.0 (k.top r.0) x n (omega arith)
      (subst (λ q. In x (bucket_line setup.shape words (Some q))) (w.word_is r.0 n) r.2)).published

  -- and each published row is listed
  pub in_bucket_rows : (b i : ℕ) → k.named b ≡ true → i ≤ k.top b → In (k.row_at b i) (bucket_rows setup.shape words)
  in_bucket_rows b i n o =
      in_each (flat_map line_of (named_buckets setup.shape words)) (k.row_at b i)
      (flat_map_in line_of (named_buckets setup.shape words) b (k.row_at b i) (in_named b n)
      (subst (λ q. In (k.row_at b i) (bucket_line setup.shape words (Some q))) (sym (w.word_is b n))
      (line_all b (k.top b) i n (omega arith) o)))

  -- once
  pub bucket_rows_once : Once (bucket_rows setup.shape words)
  bucket_rows_once = each_is_once (flat_map line_of (named_buckets setup.shape words))

  -- ---- which rows were exchanged, and the first rows

  -- whether a row was exchanged is told by its base
  exchanged_by : (b i : ℕ) (o : Option ℕ) → base_of (k.row_at b i) ≡ o →
      is_exchanged setup.shape words (k.row_at b i) ≡ option_map_or
      (λ base. (bucket_row setup.shape words base).depth == (bucket_row setup.shape words (k.row_at b i)).depth) o false
  exchanged_by b i o e = ap (λ q. option_map_or (λ base. (bucket_row setup.shape words base).depth == (bucket_row
      setup.shape words (k.row_at b i)).depth) q false) e

  -- a later row of a bucket was exchanged
  pub later_exchanged : (b i : ℕ) → k.named b ≡ true → i < k.top b →
      is_exchanged setup.shape words (k.row_at b (i + 1)) ≡ true
  later_exchanged b i n h =
      exchanged_by b (i + 1) (Some (k.row_at b i)) (based b n i h)
      ∙ eq-eqb (bucket_row setup.shape words (k.row_at b i)).depth
      (bucket_row setup.shape words (k.row_at b (i + 1))).depth
      (depth_is b i n (omega (arith, h)) ∙ sym (depth_is b (i + 1) n (omega (arith, h))))

  -- the first was not
  pub first_not_exchanged : (b : ℕ) → k.named b ≡ true → is_exchanged setup.shape words (k.row_at b 0) ≡ false
  first_not_exchanged b n = go (k.born b) refl
    where
      go : (v : ℕ) → k.born b ≡ v → is_exchanged setup.shape words (k.row_at b 0) ≡ false
      go zero z = exchanged_by b 0 None (base_is b 0 n (omega arith) ∙ w.opening b n z)
      go (suc v) z =
          let p = w.parent b v n (z ∙ sym (add-one v)) in
          exchanged_by b 0 (Some (k.row_at p.old (k.top p.old))) (base_is b 0 n (omega arith) ∙ p.base)
          ∙ ne_eqb (bucket_row setup.shape words (k.row_at p.old (k.top p.old))).depth
          (bucket_row setup.shape words (k.row_at b 0)).depth
          (λ e. absurd (omega (
            arith,
            p.shallow,
            sym (depth_is p.old (k.top p.old) p.named (omega arith)) ∙ e
                ∙ depth_is b 0 n (omega arith),
          )))

  -- so an exchanged row is a later one
  pub exchanged_is : (b i : ℕ) → k.named b ≡ true → i ≤ k.top b →
      is_exchanged setup.shape words (k.row_at b i) ≡ true → (j : ℕ) × (i ≡ j + 1)
  exchanged_is b zero n o h = absurd (true≢false (sym h ∙ first_not_exchanged b n))
  exchanged_is b (suc i) n o h = (i, sym (add-one i))

  -- the first row of a bucket is the one that was not exchanged
  pub first_is : (b : ℕ) → k.named b ≡ true → first_row setup.shape words b ≡ Some (k.row_at b 0)
  first_is b n =
      ap (λ r. find (λ row. not (is_exchanged setup.shape words row)) (bucket_line setup.shape words (Some r)))
      (w.word_is b n)
      ∙ line_first base_of (k.row_at b) (k.top b) (based b n) (λ row. not (is_exchanged setup.shape words row))
      (λ i h. ap not (later_exchanged b i n h)) (ap not (first_not_exchanged b n))
      (count_of setup.shape BucketRows) (k.top b) (omega arith) (fuel b n)

  -- ---- the new leaves of a version

  -- the leaves that are new in a directory row are those that its base does not name
  leaves_by : (v : ℕ) (o : Option ℕ) → dir_base_of (k.dir_row v) ≡ o →
      leaves_new_in setup.shape words (k.dir_row v) ≡ leaves_beside setup.shape words (k.dir_row v) o
  leaves_by v o e = ap (leaves_beside setup.shape words (k.dir_row v)) e

  -- a bucket that a version does not name
  abbrev is_new : ℕ → ℕ → Bool
  is_new v bucket = not (is_among (directory_at setup.shape words (k.dir_row v)).entries bucket)

  -- a new leaf's bucket is one that the version named first
  pub new_leaf_is : (v b : ℕ) → v < k.dir_top → In b (leaves_new_in setup.shape words (k.dir_row (v + 1))) →
      (k.named b ≡ true) × (k.born b ≡ v + 1)
  new_leaf_is v b h m =
      let f = in_filter (is_new v) (each_once (directory_at setup.shape words (k.dir_row (v + 1))).entries) b
      (subst (In b) (leaves_by (v + 1) (Some (k.dir_row v)) (dir_based v h)) m) in
      let now = subst (λ (d : DirectoryState). In b d.entries) (directory_is (v + 1) (omega (arith, h)))
      (each_in (directory_at setup.shape words (k.dir_row (v + 1))).entries b f.0) in
      let fresh = not-true (is_among (directory_at setup.shape words (k.dir_row v)).entries b) f.1 in (
        (w.entries (v + 1) b (omega (arith, h)) now).0,
        elim (w.newcomers v b h now) [
          | inr e ↦ e
          | inl old ↦ absurd (true≢false (sym (among_in (directory_at setup.shape words (k.dir_row v)).entries b
              (subst (λ (d : DirectoryState). In b d.entries) (sym (directory_is v (omega (arith, h)))) old)) ∙ fresh))
        ],
      )

  -- and each of those is new
  pub new_leaf_in : (v b : ℕ) → v < k.dir_top → k.named b ≡ true → k.born b ≡ v + 1 →
      In b (leaves_new_in setup.shape words (k.dir_row (v + 1)))
  new_leaf_in v b h n e =
      let here = subst (λ u. In b (k.dir_at u).entries) e (w.present b n) in
      let absent : is_among (directory_at setup.shape words (k.dir_row v)).entries b ≡ false =
      elim (cases_Bool (is_among (directory_at setup.shape words (k.dir_row v)).entries b)) [
        | inr f ↦ f
        | inl t ↦ absurd (omega (
          arith,
          e,
          (w.entries v b (omega (arith, h))
              (subst (λ (d : DirectoryState). In b d.entries) (directory_is v (omega (arith, h)))
              (among_is_in (directory_at setup.shape words (k.dir_row v)).entries b t))).1,
        ))
      ] in
      subst (In b) (sym (leaves_by (v + 1) (Some (k.dir_row v)) (dir_based v h)))
      (filter_in (is_new v) (each_once (directory_at setup.shape words (k.dir_row (v + 1))).entries) b
      (in_each (directory_at setup.shape words (k.dir_row (v + 1))).entries b
      (subst (λ (d : DirectoryState). In b d.entries) (sym (directory_is (v + 1) (omega (arith, h)))) here))
      (ap not absent))

  -- the first rows of a version are those of the buckets that it named first
  pub first_rows_in : (v x : ℕ) → v < k.dir_top → In x (first_rows setup.shape words (k.dir_row (v + 1))) →
      (b : ℕ) × (k.named b ≡ true) × (k.born b ≡ v + 1) × (x ≡ k.row_at b 0)
  first_rows_in v x h m =
      let r = in_filter_map (first_row setup.shape words) (leaves_new_in setup.shape words (k.dir_row (v + 1))) x m in
      let l = new_leaf_is v r.0 h r.1 in
      let same : Some (k.row_at r.0 0) ≡ Some x = sym (first_is r.0 l.0) ∙ r.2 in
      let is : k.row_at r.0 0 ≡ x = cc in
      (r.0, l.0, l.1, sym is)

  -- and each of those is one of them
  pub in_first_rows : (v b : ℕ) → v < k.dir_top → k.named b ≡ true → k.born b ≡ v + 1 →
      In (k.row_at b 0) (first_rows setup.shape words (k.dir_row (v + 1)))
  in_first_rows v b h n e = filter_map_in (first_row setup.shape words)
      (leaves_new_in setup.shape words (k.dir_row (v + 1))) b (k.row_at b 0) (new_leaf_in v b h n e) (first_is b n)

  -- a later version's row is a later one
  pub later_is : (v : ℕ) → v < k.dir_top → is_later setup.shape words (k.dir_row (v + 1)) ≡ true
  later_is v h = ap (λ o. option_map_or (λ _. true) o false) (dir_based v h)

  -- the first is not
  pub first_not_later : is_later setup.shape words (k.dir_row 0) ≡ false
  first_not_later = ap (λ o. option_map_or (λ _. true) o false) dir_none
