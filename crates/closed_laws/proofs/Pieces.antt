-- The pieces of a closed table, by positions: each row and each call comes with one alone.
use Rattle.std.proofs.Common.{◌≡◌, ◌≢◌, ℕ, zero, suc, ◌+◌, ◌<◌, ◌≤◌, Bool, true, false, cond, not, List, [], ◌∷◌, ◌++◌, map, true≢false, add-one, refl, inl, inr, sym, ap, ◌∙◌, subst, arith}
use Rattle.std.specs.Prelude.{filter}
use Rattle.std.specs.Option.{option_map_or}
use Rattle.std.proofs.lemmas.Bool.{not-true}
use Rattle.plain_map.specs.declared.records.Record.{Record}
use Rattle.plain_map.specs.declared.records.Pending.{Pending}
use Rattle.plain_map.specs.History.{Placed, answered, pending, call_in, seat_of, number_of}
use Rattle.table_model.specs.Setup.{Setup}
use Rattle.plain_map.specs.Calls.{is_update}
use Rattle.table_model.specs.Reading.{bucket_row, bucket_rows, directory_rows, is_exchanged, is_among}
use Rattle.table_model.specs.Order.{Closing, Piece, ByBucketRow, ByDirectoryRow, ByLookup, calls_of, lookups_of, calls_in, first_rows, is_later, pieces_of, start_of, rows_with, directories_with}
use Rattle.list_laws.proofs.Lists.{In, Once, in_left, in_right, in_both, in_map, map_in, in_filter, filter_in, once_both}
use Rattle.placing_laws.proofs.Alone.{Disjoint, Apart, Separate, disjoint_flips}
use Rattle.closed_laws.proofs.Book.{Book, Written}
use Rattle.closed_laws.proofs.Lines.{among_is_in}
use Rattle.placing_laws.proofs.Stuck.{among_in}
use Rattle.closed_laws.proofs.Read.{base_is, bucket_rows_in, in_bucket_rows, bucket_rows_once, directory_rows_in, in_directory_rows, directory_rows_once, exchanged_is, later_exchanged, later_is, first_not_later, first_rows_in}
use Rattle.closed_laws.proofs.Ledger.{Ledger, NewInRow, NewInVersion, IsCallOf, row_call, version_call}

-- images by a map that keeps all apart stand once where the members do
pub once_map : {A B : Type 0} → (f : A → B) (xs : List A) → ((x y : A) → f x ≡ f y → x ≡ y) → Once xs → Once (map f xs)
once_map f [] one o = tt
once_map f (x ∷ xs) one o = (
  (λ i. let r = in_map f xs (f x) i in
      o.0 (subst (λ z. In z xs) (sym (one x r.0 r.2)) r.1)),
  once_map f xs one o.1,
)

-- who is left by a test stands once
pub once_filter : {A : Type 0} → (t : A → Bool) (xs : List A) → Once xs → Once (filter t xs)
once_filter t [] o = tt
once_filter t (x ∷ xs) o = go (t x) (once_filter t xs o.1)
  where
    go : (b : Bool) → Once (filter t xs) → Once (cond b (x ∷ filter t xs) (filter t xs))
    go true rest = ((λ i. o.0 (in_filter t xs x i).0), rest)
    go false rest = rest

-- and each part has
pub once_left : {A : Type 0} → (xs ys : List A) → Once (xs ++ ys) →
    Once xs × Once ys × ((x : A) → In x xs → In x ys → ⊥)
once_left [] ys o = (tt, o, λ x i. elim i [ ])
once_left (x ∷ xs) ys o = (let r = once_left xs ys o.1 in (
  ((λ i. o.0 (in_left x xs ys i)), r.0),
  r.1,
  λ z i j. elim i [ inl e ↦ o.0 (in_right x xs ys (subst (λ y. In y ys) e j)) | inr m ↦ r.2 z m j ],
))

-- members stand once where their images do
pub once_of_map : {A B : Type 0} → (f : A → B) (xs : List A) → Once (map f xs) → Once xs
once_of_map f [] o = tt
once_of_map f (x ∷ xs) o = ((λ i. o.0 (map_in f xs x i)), once_of_map f xs o.1)

-- a piece has one bucket row
by_row_one : (x y : ℕ) → ByBucketRow x ≡ ByBucketRow y → x ≡ y
by_row_one x y e = cc

-- a piece has one directory row
by_dir_one : (x y : ℕ) → ByDirectoryRow x ≡ ByDirectoryRow y → x ≡ y
by_dir_one x y e = cc

-- a piece has one lookup
by_look_one : (x y : Record) → ByLookup x ≡ ByLookup y → x ≡ y
by_look_one x y e = cc

-- an answered call has one record
pub answered_one : (x y : Record) → answered x ≡ answered y → x ≡ y
answered_one x y e = cc

-- an update in flight has one entry
pub pending_one : (x y : Pending) → pending x ≡ pending y → x ≡ y
pending_one x y e = cc

-- an answered call is none in flight
pub answered_apart : (x : Record) (u : Pending) → answered x ≡ pending u → ⊥
answered_apart x u e = cc

module _ (setup : Setup) (closing : Closing) (k : Book) (w : Written setup closing.words k)
    (l : Ledger setup closing k) where
  -- the pieces of the exchanged bucket rows
  abbrev row_pieces : List Piece
  row_pieces = map ByBucketRow (filter (is_exchanged setup.shape closing.words) (bucket_rows setup.shape closing.words))

  -- the pieces of the later directory rows
  abbrev dir_pieces : List Piece
  dir_pieces = map ByDirectoryRow (filter (is_later setup.shape closing.words)
      (directory_rows setup.shape closing.words))

  -- the pieces of the answered lookups
  abbrev look_pieces : List Piece
  look_pieces = map ByLookup (lookups_of closing)

  -- which pieces there are
  pub record RowAt (row : ℕ) : Type 0 where
    pub bucket : ℕ
    pub before : ℕ
    pub named : k.named bucket ≡ true
    pub inside : before < k.top bucket
    pub is : row ≡ k.row_at bucket (before + 1)

  -- a directory row other than the first
  pub record DirAt (row : ℕ) : Type 0 where
    pub before : ℕ
    pub inside : before < k.dir_top
    pub is : row ≡ k.dir_row (before + 1)

  -- where the row of a piece lies, or which lookup it is
  abbrev pub PieceAt : Piece → Type 0
  PieceAt (ByBucketRow row) = RowAt row
  PieceAt (ByDirectoryRow row) = DirAt row
  PieceAt (ByLookup r) = In r (lookups_of closing)

  -- an exchanged row is a later row of a bucket
  row_piece_at : (row : ℕ) → In row (filter (is_exchanged setup.shape closing.words)
      (bucket_rows setup.shape closing.words)) → RowAt row
  row_piece_at row i =
      let f = in_filter (is_exchanged setup.shape closing.words) (bucket_rows setup.shape closing.words) row i in
      let p = bucket_rows_in setup closing.words k w row f.0 in
      let e = exchanged_is setup closing.words k w p.bucket p.at p.named p.inside
      (ap (is_exchanged setup.shape closing.words) (sym p.is) ∙ f.1) in
      record {
        bucket = p.bucket;
        before = e.0;
        named = p.named;
        inside = omega (arith, p.inside, e.1);
        is = p.is
            ∙ ap (k.row_at p.bucket) e.1;
      }

  -- a later directory row is one of a later version
  dir_piece_at : (row : ℕ) → In row (filter (is_later setup.shape closing.words)
      (directory_rows setup.shape closing.words)) → DirAt row
  dir_piece_at row i =
      let f = in_filter (is_later setup.shape closing.words) (directory_rows setup.shape closing.words) row i in
      let d = directory_rows_in setup closing.words k w row f.0 in
      go d.0 refl d.1 d.2 f.1
    where
      go : (v : ℕ) → v ≡ v → v ≤ k.dir_top → row ≡ k.dir_row v → is_later setup.shape closing.words row ≡ true →
          DirAt row
      go zero s o e h = absurd (true≢false (sym h ∙ ap (is_later setup.shape closing.words) e
          ∙ first_not_later setup closing.words k w))
      go (suc v) s o e h = record { before = v; inside = omega (arith, o); is = e ∙ ap k.dir_row (sym (add-one v)) }

  -- so each piece has its place in the book
  pub piece_at : (x : Piece) → In x (pieces_of setup.shape closing) → PieceAt x
  piece_at x i = elim (in_both x (row_pieces ++ dir_pieces) look_pieces i) [
    | inr c ↦ let r = in_map ByLookup (lookups_of closing) x c in subst PieceAt (sym r.2) r.1
    | inl ab ↦ elim (in_both x row_pieces dir_pieces ab) [
      | inl a ↦ let r = in_map ByBucketRow (filter (is_exchanged setup.shape closing.words)
          (bucket_rows setup.shape closing.words)) x a in subst PieceAt (sym r.2) (row_piece_at r.0 r.1)
      | inr b ↦ let r = in_map ByDirectoryRow
          (filter (is_later setup.shape closing.words) (directory_rows setup.shape closing.words)) x b in
          subst PieceAt (sym r.2) (dir_piece_at r.0 r.1)
    ]
  ]

  -- each later row of a bucket is a piece
  pub row_piece : (b i : ℕ) → k.named b ≡ true → i < k.top b →
      In (ByBucketRow (k.row_at b (i + 1))) (pieces_of setup.shape closing)
  row_piece b i n h =
      let x = ByBucketRow (k.row_at b (i + 1)) in
      in_left x (row_pieces ++ dir_pieces) look_pieces (in_left x row_pieces dir_pieces
      (map_in ByBucketRow (filter (is_exchanged setup.shape closing.words) (bucket_rows setup.shape closing.words))
      (k.row_at b (i + 1))
      (filter_in (is_exchanged setup.shape closing.words) (bucket_rows setup.shape closing.words)
      (k.row_at b (i + 1)) (in_bucket_rows setup closing.words k w b (i + 1) n (omega (arith, h)))
      (later_exchanged setup closing.words k w b i n h))))

  -- and so is each later version
  pub dir_piece : (v : ℕ) → v < k.dir_top → In (ByDirectoryRow (k.dir_row (v + 1))) (pieces_of setup.shape closing)
  dir_piece v h =
      let x = ByDirectoryRow (k.dir_row (v + 1)) in
      in_left x (row_pieces ++ dir_pieces) look_pieces (in_right x row_pieces dir_pieces
      (map_in ByDirectoryRow (filter (is_later setup.shape closing.words) (directory_rows setup.shape closing.words))
      (k.dir_row (v + 1))
      (filter_in (is_later setup.shape closing.words) (directory_rows setup.shape closing.words) (k.dir_row (v + 1))
      (in_directory_rows setup closing.words k w (v + 1) (omega (arith, h)))
      (later_is setup closing.words k w v h))))

  -- and each answered lookup
  pub look_piece : (r : Record) → In r (lookups_of closing) → In (ByLookup r) (pieces_of setup.shape closing)
  look_piece r i = in_right (ByLookup r) (row_pieces ++ dir_pieces) look_pieces
      (map_in ByLookup (lookups_of closing) r i)

  -- the pieces stand once
  records_once : Once closing.records
  records_once = once_of_map answered closing.records
      (once_left (map answered closing.records) (map pending closing.begun) l.once).0

  -- no piece comes twice
  pieces_once : Once (pieces_of setup.shape closing)
  pieces_once =
      once_both (row_pieces ++ dir_pieces) look_pieces
      (once_both row_pieces dir_pieces
      (once_map ByBucketRow (filter (is_exchanged setup.shape closing.words)
      (bucket_rows setup.shape closing.words)) by_row_one
      (once_filter (is_exchanged setup.shape closing.words) (bucket_rows setup.shape closing.words)
      (bucket_rows_once setup closing.words k w)))
      (once_map ByDirectoryRow (filter (is_later setup.shape closing.words)
      (directory_rows setup.shape closing.words)) by_dir_one
      (once_filter (is_later setup.shape closing.words) (directory_rows setup.shape closing.words)
      (directory_rows_once setup closing.words k w)))
      (λ x i j. let a = in_map ByBucketRow
      (filter (is_exchanged setup.shape closing.words) (bucket_rows setup.shape closing.words)) x i in
      let b = in_map ByDirectoryRow (filter (is_later setup.shape closing.words)
      (directory_rows setup.shape closing.words)) x j in
      row_not_dir a.0 b.0 (sym a.2 ∙ b.2)))
      (once_map ByLookup (lookups_of closing) by_look_one
      (once_filter (λ r. not (is_update r.call)) closing.records records_once))
      (λ x i j. let c = in_map ByLookup (lookups_of closing) x j in
      elim (in_both x row_pieces dir_pieces i) [
        | inl m ↦ let a = in_map ByBucketRow
            (filter (is_exchanged setup.shape closing.words) (bucket_rows setup.shape closing.words)) x m in
            row_not_look a.0 c.0 (sym a.2 ∙ c.2)
        | inr m ↦ let b = in_map ByDirectoryRow
            (filter (is_later setup.shape closing.words) (directory_rows setup.shape closing.words)) x m in
            dir_not_look b.0 c.0 (sym b.2 ∙ c.2)
      ])
    where
      row_not_dir : (a b : ℕ) → ByBucketRow a ≡ ByDirectoryRow b → ⊥
      row_not_dir a b e = cc

      row_not_look : (a : ℕ) (r : Record) → ByBucketRow a ≡ ByLookup r → ⊥
      row_not_look a r e = cc

      dir_not_look : (a : ℕ) (r : Record) → ByDirectoryRow a ≡ ByLookup r → ⊥
      dir_not_look a r e = cc

  -- ---- no row and no call comes with two

  -- a lookup's call is no update, and what is new in a row is one
  pub look_is : (r : Record) → In r (lookups_of closing) →
      In (answered r) (calls_of closing) × (is_update r.call ≡ false)
  look_is r i =
      let f = in_filter (λ (q : Record). not (is_update q.call)) closing.records r i in (
        in_left (answered r) (map answered closing.records) (map pending closing.begun)
            (map_in answered closing.records r f.0),
        not-true (is_update r.call) f.1,
      )

  -- the call of a number that is new in a row is an update
  pub update_in_row : (b i : ℕ) (c : Placed) → IsCallOf closing (seat_of c) (number_of c) c →
      NewInRow k b i (seat_of c) (number_of c) → is_update (call_in c) ≡ true
  update_in_row b i c is new =
      let q = seat_of c in
      let a = l.applied b (i + 1) q new.named (omega (arith, new.inside)) (l.seats c is.there)
      (omega (arith, new.above, new.is)) in
      ap (λ d. is_update (call_in d)) (l.same c a.0 is.there a.1.there (sym a.1.seat) (sym (a.1.number ∙ new.is))) ∙ a.2

  -- and so is that of one that is new in a version
  pub update_in_version : (v : ℕ) (c : Placed) → IsCallOf closing (seat_of c) (number_of c) c →
      NewInVersion k v (seat_of c) (number_of c) → is_update (call_in c) ≡ true
  update_in_version v c is new =
      let q = seat_of c in
      let a = l.applied new.bucket 0 q new.named (omega arith) (l.seats c is.there)
      (omega (arith, new.above, new.is)) in
      ap (λ d. is_update (call_in d)) (l.same c a.0 is.there a.1.there (sym a.1.seat) (sym (a.1.number ∙ new.is))) ∙ a.2

  -- the calls of a bucket row's piece are new in the row
  pub row_has : (row : ℕ) (a : RowAt row) (c : Placed) → In c (calls_in setup.shape closing (ByBucketRow row)) →
      IsCallOf closing (seat_of c) (number_of c) c × NewInRow k a.bucket a.before (seat_of c) (number_of c)
  row_has row a c i = row_call setup closing k w l a.bucket a.before c a.named a.inside
      (subst (λ r. In c (calls_in setup.shape closing (ByBucketRow r))) a.is i)

  -- those of a directory row's piece are new in the version
  pub dir_has : (row : ℕ) (a : DirAt row) (c : Placed) → In c (calls_in setup.shape closing (ByDirectoryRow row)) →
      IsCallOf closing (seat_of c) (number_of c) c × NewInVersion k a.before (seat_of c) (number_of c)
  dir_has row a c i = version_call setup closing k w l a.before c a.inside
      (subst (λ r. In c (calls_in setup.shape closing (ByDirectoryRow r))) a.is i)

  -- a first row that comes with it is that of a bucket that it named first
  pub first_has : (row : ℕ) (a : DirAt row) (first : ℕ) → In first (first_rows setup.shape closing.words row) →
      (b : ℕ) × (k.named b ≡ true) × (k.born b ≡ a.before + 1) × (first ≡ k.row_at b 0)
  first_has row a first i = first_rows_in setup closing.words k w a.before first a.inside
      (subst (λ r. In first (first_rows setup.shape closing.words r)) a.is i)

  -- one call is of two pieces only where they are one
  renew : (b i : ℕ) (c d : Placed) → seat_of c ≡ seat_of d → number_of c ≡ number_of d →
      NewInRow k b i (seat_of d) (number_of d) → NewInRow k b i (seat_of c) (number_of c)
  renew b i c d s n new = subst (λ q. NewInRow k b i q (number_of c)) (sym s)
      (subst (NewInRow k b i (seat_of d)) (sym n) new)

  -- and so in a version
  renew_version : (v : ℕ) (c d : Placed) → seat_of c ≡ seat_of d → number_of c ≡ number_of d →
      NewInVersion k v (seat_of d) (number_of d) → NewInVersion k v (seat_of c) (number_of c)
  renew_version v c d s n new = subst (λ q. NewInVersion k v q (number_of c)) (sym s)
      (subst (NewInVersion k v (seat_of d)) (sym n) new)

  -- a lookup is no update
  no_look : (r : Record) (c d : Placed) → In r (lookups_of closing) → In d (answered r ∷ []) →
      IsCallOf closing (seat_of c) (number_of c) c → is_update (call_in c) ≡ true → seat_of c ≡ seat_of d →
      number_of c ≡ number_of d → ⊥
  no_look r c d i (inl e) is update s n =
      let look = look_is r i in
      true≢false (sym update ∙ ap (λ z. is_update (call_in z))
      (l.same c (answered r) is.there look.0 (s ∙ ap seat_of e) (n ∙ ap number_of e)) ∙ look.1)
  no_look r c d i (inr j) is update s n = elim j [ ]

  -- two bucket rows have no row and no call in common
  row_row : (x y : ℕ) → RowAt x → RowAt y → ByBucketRow x ≢ ByBucketRow y →
      Disjoint setup closing (ByBucketRow x) (ByBucketRow y)
  row_row x y a b apart = record {
    rows = λ row i j. elim i [
      | inl e ↦ elim j [
        | inl f ↦ apart
            (ap ByBucketRow (sym e ∙ f))
        | inr m ↦ elim m [ ]
      ]
      | inr m ↦ elim m [ ]
    ];
    directories = λ row i j. elim i [ ];
    calls = λ c d i j s n.
        let one = l.one_row a.bucket b.bucket a.before b.before (seat_of c) (number_of c) (row_has x a c i).1
        (renew b.bucket b.before c d s n (row_has y b d j).1) in
        apart (ap ByBucketRow (a.is ∙ ap (λ z. k.row_at z (a.before + 1)) one.0
        ∙ ap (λ z. k.row_at b.bucket (z + 1)) one.1 ∙ sym b.is));
  }

  -- nor have a bucket row and a directory row
  row_dir : (x y : ℕ) → RowAt x → DirAt y → Disjoint setup closing (ByBucketRow x) (ByDirectoryRow y)
  row_dir x y a b = record {
    rows = λ row i j. elim i [
      | inl e ↦ let f = first_has y b row j in
          let one = w.once a.bucket f.0 (a.before + 1) 0 a.named f.1 (omega (arith, a.inside)) (omega arith)
          (sym a.is ∙ sym e ∙ f.3) in omega (arith, one.1)
      | inr m ↦ elim m [ ]
    ];
    directories = λ row i j. elim i [ ];
    calls = λ c d i j s n. l.row_or_version a.bucket a.before b.before (seat_of c) (number_of c) (row_has x a c i).1
        (renew_version b.before c d s n (dir_has y b d j).1);
  }

  -- nor have two directory rows
  dir_dir : (x y : ℕ) → DirAt x → DirAt y → ByDirectoryRow x ≢ ByDirectoryRow y →
      Disjoint setup closing (ByDirectoryRow x) (ByDirectoryRow y)
  dir_dir x y a b apart =
      let differ : a.before ≡ b.before → ⊥ =
      λ e. apart (ap ByDirectoryRow (a.is ∙ ap (λ v. k.dir_row (v + 1)) e ∙ sym b.is)) in
      record {
        rows = λ row i j. let f = first_has x a row i in let g = first_has y b row j in
            let one = w.once f.0 g.0 0 0 f.1 g.1 (omega arith) (omega arith) (sym f.3 ∙ g.3) in
            differ (omega (arith, f.2, g.2, ap k.born one.0));
        directories = λ row i j. elim i [
          | inl e ↦ elim j [
            | inl f ↦ apart
                (ap ByDirectoryRow (sym e ∙ f))
            | inr m ↦ elim m [ ]
          ]
          | inr m ↦ elim m [ ]
        ];
        calls = λ c d i j s n. differ (l.one_version a.before b.before (seat_of c) (number_of c) (dir_has x a c i).1
            (renew_version b.before c d s n (dir_has y b d j).1));
      }

  -- nor have a bucket row and a lookup
  row_look : (x : ℕ) (r : Record) → RowAt x → In r (lookups_of closing) →
      Disjoint setup closing (ByBucketRow x) (ByLookup r)
  row_look x r a m = record {
    rows = λ row i j. elim j [ ];
    directories = λ row i j. elim i [ ];
    calls = λ c d i j s n. let h = row_has x a c i in
        no_look r c d m j h.0 (update_in_row a.bucket a.before c h.0 h.1) s n;
  }

  -- nor have a directory row and a lookup
  dir_look : (x : ℕ) (r : Record) → DirAt x → In r (lookups_of closing) →
      Disjoint setup closing (ByDirectoryRow x) (ByLookup r)
  dir_look x r a m = record {
    rows = λ row i j. elim j [ ];
    directories = λ row i j. elim j [ ];
    calls = λ c d i j s n. let h = dir_has x a c i in no_look r c d m j h.0 (update_in_version a.before c h.0 h.1) s n;
  }

  -- nor have two lookups
  look_look : (q r : Record) → In q (lookups_of closing) → In r (lookups_of closing) → ByLookup q ≢ ByLookup r →
      Disjoint setup closing (ByLookup q) (ByLookup r)
  look_look q r i j apart = record {
    rows = λ row m n. elim m [ ];
    directories = λ row m n. elim m [ ];
    calls = λ c d m n s e. elim m [
      | inl a ↦ elim n [
        | inl b ↦ apart (ap ByLookup (answered_one q r (l.same (answered q) (answered r) (look_is q i).0
            (look_is r j).0 (ap seat_of (sym a) ∙ s ∙ ap seat_of b) (ap number_of (sym a) ∙ e ∙ ap number_of b))))
        | inr z ↦ elim z [ ]
      ]
      | inr z ↦ elim z [ ]
    ];
  }

  -- so any two pieces are apart
  disjoint : (x y : Piece) → PieceAt x → PieceAt y → x ≢ y → Disjoint setup closing x y
  disjoint (ByBucketRow x) (ByBucketRow y) a b apart = row_row x y a b apart
  disjoint (ByBucketRow x) (ByDirectoryRow y) a b apart = row_dir x y a b
  disjoint (ByBucketRow x) (ByLookup r) a b apart = row_look x r a b
  disjoint (ByDirectoryRow x) (ByBucketRow y) a b apart =
      disjoint_flips setup closing (ByBucketRow y) (ByDirectoryRow x) (row_dir y x b a)
  disjoint (ByDirectoryRow x) (ByDirectoryRow y) a b apart = dir_dir x y a b apart
  disjoint (ByDirectoryRow x) (ByLookup r) a b apart = dir_look x r a b
  disjoint (ByLookup q) (ByBucketRow y) a b apart =
      disjoint_flips setup closing (ByBucketRow y) (ByLookup q) (row_look y q b a)
  disjoint (ByLookup q) (ByDirectoryRow y) a b apart =
      disjoint_flips setup closing (ByDirectoryRow y) (ByLookup q) (dir_look y q b a)
  disjoint (ByLookup q) (ByLookup r) a b apart = look_look q r a b apart

  -- and all of them are
  apart_from : (xs : List Piece) → Once xs → ((x : Piece) → In x xs → PieceAt x) → Apart setup closing xs
  apart_from [] o at = tt
  apart_from (x ∷ xs) o at = (
    (λ y i. disjoint x y (at x (inl refl)) (at y (inr i))
        (λ e. o.0 (subst (λ z. In z xs) (sym e) i))),
    apart_from xs o.1 (λ y i. at y (inr i)),
  )

  -- the rows of the start: those of the buckets of the first directory row
  pub start_row : (row : ℕ) → is_among (start_of setup.shape closing).rows row ≡ true →
      (b : ℕ) × (k.named b ≡ true) × (k.born b ≡ 0) × (row ≡ k.row_at b 0)
  start_row row h =
      let t : ℕ → Bool = (λ r. option_map_or (λ _. false) (bucket_row setup.shape closing.words r).base true) in
      let f = in_filter t (bucket_rows setup.shape closing.words) row
      (among_is_in (start_of setup.shape closing).rows row h) in
      let p = bucket_rows_in setup closing.words k w row f.0 in
      let passes : option_map_or (λ _. false) (k.base_at p.bucket p.at) true ≡ true =
      ap (λ o. option_map_or (λ _. false) o true)
      (sym (base_is setup closing.words k w p.bucket p.at p.named p.inside)) ∙ ap t (sym p.is) ∙ f.1 in
      go p.bucket p.at p.named p.inside p.is passes (k.born p.bucket) refl
    where
      go : (b i : ℕ) → k.named b ≡ true → i ≤ k.top b → row ≡ k.row_at b i →
          option_map_or (λ _. false) (k.base_at b i) true ≡ true → (v : ℕ) → k.born b ≡ v →
          (c : ℕ) × (k.named c ≡ true) × (k.born c ≡ 0) × (row ≡ k.row_at c 0)
      go b (suc i) n o e passes v z = absurd (true≢false (sym passes
          ∙ ap (λ q. option_map_or (λ _. false) q true)
          (ap (k.base_at b) (sym (add-one i)) ∙ w.bases b i n (omega (arith, o)))))
      go b zero n o e passes zero z = (b, n, z, e)
      go b zero n o e passes (suc v) z = absurd (true≢false
          (sym passes ∙ ap (λ q. option_map_or (λ _. false) q true) (w.parent b v n (z ∙ sym (add-one v))).base))

  -- the first rows of the opening's buckets are there from the start
  pub in_start_rows : (b : ℕ) → k.named b ≡ true → k.born b ≡ 0 →
      is_among (start_of setup.shape closing).rows (k.row_at b 0) ≡ true
  in_start_rows b n z =
      let t : ℕ → Bool = (λ r. option_map_or (λ _. false) (bucket_row setup.shape closing.words r).base true) in
      among_in (start_of setup.shape closing).rows (k.row_at b 0)
      (filter_in t (bucket_rows setup.shape closing.words) (k.row_at b 0)
      (in_bucket_rows setup closing.words k w b 0 n (omega arith))
      (ap (λ o. option_map_or (λ _. false) o true)
      (base_is setup closing.words k w b 0 n (omega arith) ∙ w.opening b n z)))

  -- the directory row of the start is the first
  pub start_dir : (row : ℕ) → is_among (start_of setup.shape closing).directories row ≡ true → row ≡ k.dir_row 0
  start_dir row h =
      let t : ℕ → Bool = (λ r. not (is_later setup.shape closing.words r)) in
      let f = in_filter t (directory_rows setup.shape closing.words) row
      (among_is_in (start_of setup.shape closing).directories row h) in
      let d = directory_rows_in setup closing.words k w row f.0 in
      go d.0 d.1 d.2 (not-true (is_later setup.shape closing.words row) f.1)
    where
      go : (v : ℕ) → v ≤ k.dir_top → row ≡ k.dir_row v → is_later setup.shape closing.words row ≡ false →
          row ≡ k.dir_row 0
      go zero o e h = e
      go (suc v) o e h = absurd (true≢false (sym (later_is setup closing.words k w v (omega (arith, o)))
          ∙ ap (λ n. is_later setup.shape closing.words (k.dir_row n)) (add-one v)
          ∙ ap (is_later setup.shape closing.words) (sym e) ∙ h))

  -- which is there
  pub in_start_dirs : is_among (start_of setup.shape closing).directories (k.dir_row 0) ≡ true
  in_start_dirs =
      among_in (start_of setup.shape closing).directories (k.dir_row 0)
      (filter_in (λ r. not (is_later setup.shape closing.words r)) (directory_rows setup.shape closing.words)
      (k.dir_row 0) (in_directory_rows setup closing.words k w 0 (omega arith))
      (ap not (first_not_later setup closing.words k w)))

  -- no bucket row of a piece is there from the start
  fresh_row : (x : Piece) (row : ℕ) → PieceAt x → In row (rows_with setup.shape closing x) →
      is_among (start_of setup.shape closing).rows row ≡ true → ⊥
  fresh_row (ByBucketRow x) row a i h = elim i [
    | inl e ↦ let s = start_row row h in
        let one = w.once a.bucket s.0 (a.before + 1) 0 a.named s.1 (omega (arith, a.inside)) (omega arith)
        (sym a.is ∙ sym e ∙ s.3) in omega (arith, one.1)
    | inr m ↦ elim m [ ]
  ]
  fresh_row (ByDirectoryRow x) row a i h =
      let s = start_row row h in
      let f = first_has x a row i in
      let one = w.once f.0 s.0 0 0 f.1 s.1 (omega arith) (omega arith) (sym f.3 ∙ s.3) in
      omega (arith, f.2, s.2, ap k.born one.0)
  fresh_row (ByLookup r) row a i h = elim i [ ]

  -- and no directory row of one is
  fresh_dir : (x : Piece) (row : ℕ) → PieceAt x → In row (directories_with x) →
      is_among (start_of setup.shape closing).directories row ≡ true → ⊥
  fresh_dir (ByBucketRow x) row a i h = elim i [ ]
  fresh_dir (ByDirectoryRow x) row a i h = elim i [
    | inl e ↦ let one = w.dir_once (a.before + 1) 0 (omega (arith, a.inside)) (omega arith)
        (sym a.is ∙ sym e ∙ start_dir row h) in omega (arith, one)
    | inr m ↦ elim m [ ]
  ]
  fresh_dir (ByLookup r) row a i h = elim i [ ]

  -- so the pieces are apart from each other and from the start
  pub separate : Separate setup closing
  separate = record {
    apart = apart_from (pieces_of setup.shape closing) pieces_once piece_at;
    rows = λ x row i m h. fresh_row x row (piece_at x i) m h;
    directories = λ x row i m h. fresh_dir x row (piece_at x i) m h;
  }
