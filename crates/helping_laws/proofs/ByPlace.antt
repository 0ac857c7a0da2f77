-- What is read from the words of a table, by the places of its history.
use Rattle.std.proofs.Common.{◌≡◌, ℕ, zero, suc, ◌+◌, ◌<◌, ◌≤◌, true, not, List, Some, None, add-one, refl, sym, ap, ◌∙◌, subst, arith}
use Rattle.std.specs.Prelude.{IsSomeAnd}
use Rattle.plain_map.specs.declared.keys.Key.{Key}
use Rattle.plain_map.specs.declared.full.FullKind.TheVariants.{BucketRows, DirRows}
use Rattle.word_rows.specs.Shape.{count_of}
use Rattle.word_rows.specs.Memory.{Shows}
use Rattle.bucket_states.specs.States.{BucketState}
use Rattle.bucket_states.specs.Laws.{applied_of}
use Rattle.table_model.specs.Setup.{Setup, rules_of}
use Rattle.table_model.specs.Directories.{bucket_of}
use Rattle.table_model.specs.Reading.{bucket_row, directory_row, bucket_at, applied_at, bucket_line, directory_line, root_of, row_of, directory_rows, named_buckets, bucket_rows, is_exchanged, first_row, rows_of_bucket, up_to, bucket_by, current_row}
use Rattle.table_model.specs.Promises.{Among}
use Rattle.table_model.specs.Helped.{IsLater, IsTwoLater}
use Rattle.run_invariant.proofs.Invariant.{Common, Shared, Descends, Comes, line, lead, last}
use Rattle.closed_laws.proofs.Book.{Book, Written}
use Rattle.closed_laws.proofs.Lines.{among_is_in}
use Rattle.placing_laws.proofs.Stuck.{among_in}
use Rattle.closed_laws.proofs.Read
use Rattle.helping_laws.proofs.Cuts.{down, up_to_down, line_down, down_in, later_down, down_later, two_down}
use Rattle.closed_laws.proofs.FromWords.{book_of, written}
use Rattle.closed_laws.proofs.Told.{bases, descends}
use Rattle.list_laws.proofs.Options.{some_same}

module _ (setup : Setup) (words : List ℕ) (c : Common) (shows : Shows setup.shape words c.memory)
    (s : Shared setup c) (t : Descends setup c) where
  -- the history, as the reading of closed words knows it
  abbrev pub book : Book
  book = book_of setup c (bases setup c s t)

  -- the words tell it
  pub told : Written setup words book
  told = written setup words c shows s (bases setup c s t) (descends setup c s t)

  -- ---- the words in use

  -- the root is that of the last place
  pub root_is : root_of setup.shape words ≡ c.dir_row c.dir_top
  root_is = told.root_is

  -- a bucket word is the number of its last row
  pub word_is : (b : ℕ) → c.named b ≡ true → row_of setup.shape words b ≡ c.row_at b (c.top b)
  word_is = told.word_is

  -- the bucket of a key by a directory row
  pub by_is : (v : ℕ) (key : Key) → v ≤ c.dir_top → bucket_by setup words (c.dir_row v) key ≡ lead setup c v key
  by_is v key o = ap (λ d. bucket_of (rules_of setup) d key) (Read.directory_is setup words book told v o)

  -- and by the directory in use
  pub by_root : (key : Key) → bucket_by setup words (root_of setup.shape words) key ≡ lead setup c c.dir_top key
  by_root key = ap (λ r. bucket_by setup words r key) root_is ∙ by_is c.dir_top key (omega arith)

  -- the current row of a key
  pub current_is : (key : Key) → current_row setup words key ≡ c.row_at (lead setup c c.dir_top key)
      (c.top (lead setup c c.dir_top key))
  current_is key = ap (row_of setup.shape words) (by_root key)
      ∙ word_is (lead setup c c.dir_top key) (s.leads.there c.dir_top key (omega arith))

  -- ---- what a row says

  -- what a bucket row says
  pub state_is : (b i : ℕ) → c.named b ≡ true → i ≤ c.top b →
      bucket_at setup.shape words (c.row_at b i) ≡ c.state_at b i
  state_is = Read.state_is setup words book told

  -- the numbers in it
  pub applied_is : (b i p : ℕ) → c.named b ≡ true → i ≤ c.top b →
      applied_at setup.shape words (c.row_at b i) p ≡ applied_of (c.state_at b i) p
  applied_is b i p n o = ap (λ x. applied_of x p) (state_is b i n o)

  -- whether it is frozen
  pub frozen_is : (b i : ℕ) → c.named b ≡ true → i ≤ c.top b →
      (bucket_row setup.shape words (c.row_at b i)).frozen ≡ (c.state_at b i).frozen
  frozen_is b i n o = ap (λ (x : BucketState). x.frozen) (state_is b i n o)

  -- the numbers in the row in use of a bucket
  pub applied_in_use : (b p : ℕ) → c.named b ≡ true →
      applied_at setup.shape words (row_of setup.shape words b) p ≡ applied_of (last c b) p
  applied_in_use b p n = ap (λ r. applied_at setup.shape words r p) (word_is b n)
      ∙ applied_is b (c.top b) p n (omega arith)

  -- and in the current row of a key
  pub applied_now : (key : Key) (p : ℕ) → applied_at setup.shape words (current_row setup words key) p ≡ applied_of
      (last c (lead setup c c.dir_top key)) p
  applied_now key p = ap (λ r. applied_at setup.shape words r p) (current_is key)
      ∙ applied_is (lead setup c c.dir_top key) (c.top (lead setup c c.dir_top key)) p
      (s.leads.there c.dir_top key (omega arith)) (omega arith)

  -- ---- the published rows

  -- a published bucket row stands at a place
  pub record Stood (row : ℕ) : Type 0 where
    pub bucket : ℕ
    pub at : ℕ
    pub named : c.named bucket ≡ true
    pub inside : at ≤ c.top bucket
    pub is : row ≡ c.row_at bucket at

  -- each published row does
  pub stood : (row : ℕ) → Among (bucket_rows setup.shape words) row → Stood row
  stood row m =
      let p = Read.bucket_rows_in setup words book told row (among_is_in (bucket_rows setup.shape words) row m) in
      record { bucket = p.bucket; at = p.at; named = p.named; inside = p.inside; is = p.is }

  -- and what stands at a place is published
  pub among_rows : (b i : ℕ) → c.named b ≡ true → i ≤ c.top b → Among (bucket_rows setup.shape words) (c.row_at b i)
  among_rows b i n o = among_in (bucket_rows setup.shape words) (c.row_at b i)
      (Read.in_bucket_rows setup words book told b i n o)

  -- a bucket that is named is in the history
  pub named_is : (b : ℕ) → Among (named_buckets setup.shape words) b → c.named b ≡ true
  named_is b m = Read.named_in setup words book told b (among_is_in (named_buckets setup.shape words) b m)

  -- and one that is there is named
  pub among_named : (b : ℕ) → c.named b ≡ true → Among (named_buckets setup.shape words) b
  among_named b n = among_in (named_buckets setup.shape words) b (Read.in_named setup words book told b n)

  -- a published directory row stands at a place
  pub version_is : (row : ℕ) → Among (directory_rows setup.shape words) row →
      (v : ℕ) × (v ≤ c.dir_top) × (row ≡ c.dir_row v)
  version_is row m = Read.directory_rows_in setup words book told row
      (among_is_in (directory_rows setup.shape words) row m)

  -- and what stands at a place is published
  pub among_versions : (v : ℕ) → v ≤ c.dir_top → Among (directory_rows setup.shape words) (c.dir_row v)
  among_versions v o = among_in (directory_rows setup.shape words) (c.dir_row v)
      (Read.in_directory_rows setup words book told v o)

  -- ---- what a row was made from

  -- a row other than the first of its bucket was made from the one before it
  pub made_from : (b i base : ℕ) → c.named b ≡ true → i < c.top b →
      (bucket_row setup.shape words (c.row_at b (i + 1))).base ≡ Some base → base ≡ c.row_at b i
  made_from b i base n o e = some_same (sym e ∙ Read.base_is setup words book told b (i + 1) n (omega (arith, o))
      ∙ told.bases b i n o)

  -- and the first of a bucket from the last row of the one that it comes from
  pub first_made_from : (b base : ℕ) → c.named b ≡ true →
      (bucket_row setup.shape words (c.row_at b 0)).base ≡ Some base →
      (c.named (c.from b) ≡ true) × (base ≡ c.row_at (c.from b) (c.top (c.from b)))
      × Comes (line c (c.from b)) (line c b)
  first_made_from b base n e = go (c.born b) refl
    where
      go : (v : ℕ) → c.born b ≡ v → (c.named (c.from b) ≡ true) × (base ≡ c.row_at (c.from b) (c.top (c.from b)))
          × Comes (line c (c.from b)) (line c b)
      go zero z = let bad : None ≡ Some base =
          sym (sym e ∙ Read.base_is setup words book told b 0 n (omega arith) ∙ told.opening b n z) in cc
      go (suc v) z =
          let x = t.comes b v n (z ∙ sym (add-one v)) in (
            t.there b v n (z ∙ sym (add-one v)),
            some_same (sym e ∙ Read.base_is setup words book told b 0 n (omega arith) ∙ x.base),
            x,
          )

  -- a directory row other than the first was made from the one before it
  pub version_from : (row base : ℕ) → Among (directory_rows setup.shape words) row →
      (directory_row setup.shape words row).base ≡ Some base →
      (v : ℕ) × (v < c.dir_top) × (row ≡ c.dir_row (v + 1)) × (base ≡ c.dir_row v)
  version_from row base m e = (let p = version_is row m in go p.0 p.1 p.2)
    where
      go : (u : ℕ) → u ≤ c.dir_top → row ≡ c.dir_row u →
          (v : ℕ) × (v < c.dir_top) × (row ≡ c.dir_row (v + 1)) × (base ≡ c.dir_row v)
      go zero o is = let bad : None ≡ Some base =
          sym (sym e ∙ ap (λ r. (directory_row setup.shape words r).base) is
          ∙ Read.dir_base_is setup words book told 0 (omega arith) ∙ told.dir_first) in cc
      go (suc v) o is = (
        v,
        omega (arith, o),
        is ∙ ap c.dir_row (sym (add-one v)),
        some_same (sym e ∙ ap (λ r. (directory_row setup.shape words r).base) (is ∙ ap c.dir_row (sym (add-one v)))
            ∙ Read.dir_base_is setup words book told (v + 1) (omega (arith, o))
            ∙ told.dir_bases v (omega (arith, o))),
      )

  -- ---- which row is later

  -- the rows of a bucket, and the directory rows, are the history, the latest first
  pub rows_down : (b : ℕ) → c.named b ≡ true → rows_of_bucket setup.shape words b ≡ down (c.row_at b) (c.top b)
  rows_down b n =
      ap (λ r. up_to (λ row. not (is_exchanged setup.shape words row)) (bucket_line setup.shape words (Some r)))
      (word_is b n)
      ∙ up_to_down (λ r. (bucket_row setup.shape words r).base) (c.row_at b) (c.top b)
      (λ i h. Read.base_is setup words book told b (i + 1) n (omega (arith, h)) ∙ told.bases b i n h)
      (λ row. not (is_exchanged setup.shape words row))
      (λ i h. ap not (Read.later_exchanged setup words book told b i n h))
      (ap not (Read.first_not_exchanged setup words book told b n))
      (count_of setup.shape BucketRows) (c.top b) (omega arith) (Read.fuel setup words book told b n)

  -- so are the directory rows
  pub versions_down : directory_rows setup.shape words ≡ down c.dir_row c.dir_top
  versions_down =
      ap (λ r. directory_line setup.shape words (Some r)) root_is
      ∙ line_down (λ r. (directory_row setup.shape words r).base) c.dir_row c.dir_top
      (λ v h. Read.dir_base_is setup words book told (v + 1) (omega (arith, h)) ∙ told.dir_bases v h)
      (Read.dir_base_is setup words book told 0 (omega arith) ∙ told.dir_first)
      (count_of setup.shape DirRows) c.dir_top (omega arith) (Read.dir_fuel setup words book told)

  -- what stands at a place of a bucket's line is a row of the bucket
  pub among_bucket : (b i : ℕ) → c.named b ≡ true → i ≤ c.top b →
      Among (rows_of_bucket setup.shape words b) (c.row_at b i)
  among_bucket b i n o = subst (λ xs. Among xs (c.row_at b i)) (sym (rows_down b n))
      (among_in (down (c.row_at b) (c.top b)) (c.row_at b i) (down_in (c.row_at b) (c.top b) i o))

  -- a row that is later than one stands at a later place
  pub later_row : (b from row : ℕ) → c.named b ≡ true → from ≤ c.top b →
      IsLater (rows_of_bucket setup.shape words b) row (c.row_at b from) →
      (i : ℕ) × (i ≤ c.top b) × (row ≡ c.row_at b i) × (from < i)
  later_row b from row n o l =
      let r = later_down (c.row_at b) (c.top b) row (c.row_at b from)
      (subst (λ xs. IsLater xs row (c.row_at b from)) (rows_down b n) l) in
      let same = (s.rows.once b b from r.3 n n o (omega (arith, r.1, r.4)) r.5).1 in
      (r.0, r.1, r.2, omega (arith, r.4, same))

  -- a row at a later place is later
  pub is_later_row : (b from i : ℕ) → c.named b ≡ true → i ≤ c.top b → from < i →
      IsLater (rows_of_bucket setup.shape words b) (c.row_at b i) (c.row_at b from)
  is_later_row b from i n o l = subst (λ xs. IsLater xs (c.row_at b i) (c.row_at b from)) (sym (rows_down b n))
      (down_later (c.row_at b) (c.top b) i from o l)

  -- a directory row that is later stands at a later place
  pub later_version : (from row : ℕ) → from ≤ c.dir_top →
      IsLater (directory_rows setup.shape words) row (c.dir_row from) →
      (v : ℕ) × (v ≤ c.dir_top) × (row ≡ c.dir_row v) × (from < v)
  later_version from row o l =
      let r = later_down c.dir_row c.dir_top row (c.dir_row from)
      (subst (λ xs. IsLater xs row (c.dir_row from)) versions_down l) in
      let same = s.directories.once from r.3 o (omega (arith, r.1, r.4)) r.5 in
      (r.0, r.1, r.2, omega (arith, r.4, same))

  -- and one that was made from such a row stands behind that one
  pub two_later : (b from row base : ℕ) → c.named b ≡ true → from ≤ c.top b →
      IsTwoLater (rows_of_bucket setup.shape words b) (c.row_at b from) row base →
      (i : ℕ) × (i ≤ c.top b) × (row ≡ c.row_at b i) × (from + 2 ≤ i)
  two_later b from row base n o l =
      let r = two_down (c.row_at b) (c.top b) (c.row_at b from) row base
      (subst (λ xs. IsTwoLater xs (c.row_at b from) row base) (rows_down b n) l) in
      let same = (s.rows.once b b from r.4 n n o (omega (arith, r.1, r.5)) r.6).1 in
      (r.0 + 1, omega (arith, r.1), r.2, omega (arith, r.5, same))

  -- so does a directory row
  pub two_later_version : (from row base : ℕ) → from ≤ c.dir_top →
      IsTwoLater (directory_rows setup.shape words) (c.dir_row from) row base →
      (v : ℕ) × (from < v) × (v < c.dir_top) × (row ≡ c.dir_row (v + 1)) × (base ≡ c.dir_row v)
  two_later_version from row base o l =
      let r = two_down c.dir_row c.dir_top (c.dir_row from) row base
      (subst (λ xs. IsTwoLater xs (c.dir_row from) row base) versions_down l) in
      let same = s.directories.once from r.4 o (omega (arith, r.1, r.5)) r.6 in
      (r.0, omega (arith, r.5, same), r.1, r.2, r.3)

  -- what holds of the first row of the bucket that a directory row leads to
  pub in_first_row : (v : ℕ) (key : Key) (P : ℕ → Type 0) → v ≤ c.dir_top → P (c.row_at (lead setup c v key) 0) →
      IsSomeAnd (first_row setup.shape words (bucket_by setup words (c.dir_row v) key)) P
  in_first_row v key P o h =
      subst (λ x. IsSomeAnd x P) (sym (ap (first_row setup.shape words) (by_is v key o)
      ∙ Read.first_is setup words book told (lead setup c v key) (s.leads.there v key o))) h
