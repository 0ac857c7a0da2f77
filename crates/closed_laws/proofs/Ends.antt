-- The order of a closed table is never stuck, after, whole and legal.
use Rattle.std.proofs.Common.{◌≡◌, ◌≢◌, ℕ, zero, suc, ◌+◌, ◌<◌, ◌≤◌, ◌⊎◌, true, not, List, [], ◌∷◌, ◌++◌, map, Some, add-one, refl, inl, inr, sym, ap, ◌∙◌, subst, arith, eqb-true, eq-eqb}
use Rattle.std.specs.Prelude.{◌==◌}
use Rattle.std.specs.List.{list_any}
use Rattle.std.proofs.lemmas.Bool.{and_parts, and_from, cases_Bool}
use Rattle.plain_map.specs.declared.keys.Key.{Key}
use Rattle.plain_map.specs.declared.records.Record.{Record}
use Rattle.plain_map.specs.declared.records.Pending.{Pending}
use Rattle.plain_map.specs.Calls.{key_in, is_update}
use Rattle.plain_map.specs.PlainObject.{Sessions}
use Rattle.plain_map.specs.History.{Placed, answered, pending, call_in, seat_of, number_of, seen_of, After, Whole, Legal, sessions_after}
use Rattle.bucket_states.specs.Laws.{applied_of}
use Rattle.bucket_states.specs.Parts.{OtherPartsStay}
use Rattle.table_model.specs.Setup.{Setup, seats_of, rules_of}
use Rattle.table_model.specs.Directories.{bucket_of}
use Rattle.table_model.specs.Reading.{bucket_row, directory_row, bucket_rows, applied_at, is_among}
use Rattle.table_model.specs.Order.{Closing, Piece, ByBucketRow, ByDirectoryRow, ByLookup, calls_of, lookups_of, calls_in, pieces_of, took_effect, effects_of, order_of, placing_of, rank_of_calls}
use Rattle.list_laws.proofs.Lists.{In, Once, any_at, any_from, in_left, in_right, in_both, in_map, map_in, in_filter, filter_in, once_both}
use Rattle.placing_laws.proofs.Stuck.{Has, Ranked, RowBefore, DirectoryBefore, DoneBefore, BaseBefore, CallBefore, never_stuck, all_are_placed, kept_end}
use Rattle.placing_laws.proofs.Afters.{SeesSeats, Holding, order_after, order_whole}
use Rattle.placing_laws.proofs.Story.{Story, Suits, Holds, Leading, RowPiece, DirPiece, LookPiece, Tells}
use Rattle.placing_laws.proofs.Legals.{order_legal, order_holds}
use Rattle.closed_laws.proofs.Book.{Book, Written}
use Rattle.closed_laws.proofs.Read.{base_is, dir_base_is, bucket_rows_in, in_bucket_rows, first_rows_in, in_first_rows}
use Rattle.closed_laws.proofs.Ledger.{Ledger, NewInRow, NewInVersion, IsCallOf, applied_is, call_of_row, call_of_version, calls_once}
use Rattle.closed_laws.proofs.Pieces.{PieceAt, RowAt, DirAt, piece_at, row_piece, dir_piece, look_piece, look_is, update_in_row, update_in_version, row_has, dir_has, first_has, start_row, in_start_rows, start_dir, in_start_dirs, separate, once_filter, once_left, once_map, once_of_map, pending_one}

-- ---- places

-- the stamps of bucket rows and of directory rows, by their numbers, and the places of the lookups
pub record Stamps : Type 0 where
  pub of_row : ℕ → ℕ
  pub of_dir : ℕ → ℕ
  pub of_look : Record → ℕ

-- the place of a piece
abbrev pub place_of : Stamps → Piece → ℕ
place_of t (ByBucketRow row) = t.of_row row
place_of t (ByDirectoryRow row) = t.of_dir row
place_of t (ByLookup r) = t.of_look r

-- the call of seat q with number m has this place
abbrev pub HasPlace : Closing → Book → Stamps → ℕ → ℕ → ℕ → Type 0
HasPlace closing k t q m x =
    ((b : ℕ) × (i : ℕ) × NewInRow k b i q m × (x ≡ t.of_row (k.row_at b (i + 1))))
    ⊎ (((v : ℕ) × NewInVersion k v q m × (x ≡ t.of_dir (k.dir_row (v + 1))))
    ⊎ ((r : Record) × In r (lookups_of closing) × (r.seat ≡ q) × (r.number ≡ m) × (x ≡ t.of_look r)))

-- places rise along rows and versions and from what a call had seen to the call
pub record Stamped (setup : Setup) (closing : Closing) (k : Book) (t : Stamps) : Type 0 where
  pub rows_rise : (b i : ℕ) → k.named b ≡ true → i < k.top b → t.of_row (k.row_at b i) < t.of_row (k.row_at b (i + 1))
  pub dirs_rise : (v : ℕ) → v < k.dir_top → t.of_dir (k.dir_row v) < t.of_dir (k.dir_row (v + 1))
  -- the first row of a new leaf has the place of its version, and what it was made from a smaller one
  pub born_is : (b v : ℕ) → k.named b ≡ true → k.born b ≡ v + 1 → t.of_row (k.row_at b 0) ≡ t.of_dir (k.dir_row (v + 1))
  pub retires : (b v old : ℕ) → k.named b ≡ true → k.born b ≡ v + 1 → k.named old ≡ true →
      k.base_at b 0 ≡ Some (k.row_at old (k.top old)) →
      t.of_row (k.row_at old (k.top old)) < t.of_dir (k.dir_row (v + 1))
  -- lookups lie between rows
  pub looks_after : (r : Record) (b i : ℕ) → In r (lookups_of closing) → k.named b ≡ true → i ≤ k.top b →
      r.place ≡ k.row_at b i → t.of_row (k.row_at b i) < t.of_look r
  pub looks_before : (r : Record) (b i : ℕ) → In r (lookups_of closing) → k.named b ≡ true → i < k.top b →
      r.place ≡ k.row_at b i → t.of_look r < t.of_row (k.row_at b (i + 1))
  pub looks_before_change : (r : Record) (b v old : ℕ) → In r (lookups_of closing) → k.named b ≡ true →
      k.born b ≡ v + 1 → k.named old ≡ true → k.base_at b 0 ≡ Some (k.row_at old (k.top old)) →
      r.place ≡ k.row_at old (k.top old) → t.of_look r < t.of_dir (k.dir_row (v + 1))
  -- each lookup is of a published row
  pub looked : (r : Record) → In r (lookups_of closing) →
      (b : ℕ) × (i : ℕ) × (k.named b ≡ true) × (i ≤ k.top b) × (r.place ≡ k.row_at b i)
  -- earlier and seen calls have smaller places
  pub own : (q m n x : ℕ) → q < seats_of setup → HasPlace closing k t q m x → 1 ≤ n → n < m →
      (y : ℕ) × HasPlace closing k t q n y × (y < x)
  pub seen : (c : Placed) (x seat n : ℕ) → In c (calls_of closing) →
      HasPlace closing k t (seat_of c) (number_of c) x → seat < seats_of setup → 1 ≤ n → n ≤ seen_of c seat →
      (y : ℕ) × HasPlace closing k t seat n y × (y < x)

module _ (setup : Setup) (closing : Closing) (k : Book) (w : Written setup closing.words k)
    (l : Ledger setup closing k) where
  -- ---- after
  pub call_there : (x : Piece) (c : Placed) → PieceAt setup closing k w l x → In c (calls_in setup.shape closing x) →
      In c (calls_of closing)
  call_there (ByBucketRow row) c a i = (row_has setup closing k w l row a c i).0.there
  call_there (ByDirectoryRow row) c a i = (dir_has setup closing k w l row a c i).0.there
  call_there (ByLookup r) c a (inl e) = subst (λ z. In z (calls_of closing)) (sym e) (look_is setup closing k w l r a).0
  call_there (ByLookup r) c a (inr j) = elim j [ ]

  -- a call of a piece had seen no call of a seat that there is not
  sees_seats : SeesSeats setup closing
  sees_seats x c seat i m out = l.sees c seat (call_there x c (piece_at setup closing k w l x i) m) out

  -- so each stands after what its caller had seen
  pub is_after : After (order_of setup.shape closing)
  is_after = order_after setup closing sees_seats

  -- ---- whole
  abbrev all : List Placed
  all = map answered closing.records ++ map pending (effects_of setup.shape closing)

  -- each of them stands once
  all_once : Once all
  all_once =
      let parts = once_left (map answered closing.records) (map pending closing.begun) l.once in
      once_both (map answered closing.records) (map pending (effects_of setup.shape closing)) parts.0
      (once_map pending (effects_of setup.shape closing) pending_one
      (once_filter (took_effect setup.shape closing.words) closing.begun
      (once_of_map pending closing.begun parts.1)))
      (λ c i j. let p = in_map pending (effects_of setup.shape closing) c j in
      parts.2 c i (subst (λ z. In z (map pending closing.begun)) (sym p.2)
      (map_in pending closing.begun p.0
      (in_filter (took_effect setup.shape closing.words) closing.begun p.0 p.1).0)))

  -- an applied number has its piece
  unit_there : (b i : ℕ) (c : Placed) → In c (calls_of closing) → k.named b ≡ true → i ≤ k.top b →
      applied_of (k.state_at b i) (seat_of c) ≡ number_of c →
      (x : Piece) × In x (pieces_of setup.shape closing) × In c (calls_in setup.shape closing x)
  unit_there b i c m n o e =
      let q = seat_of c in
      let inside = l.seats c m in
      let is : IsCallOf closing q (number_of c) c = record { there = m; seat = refl; number = refl } in
      elim (l.unit b i q n o inside (omega (arith, e, l.numbered c m))) [
        | inl r ↦ let new = subst (NewInRow k r.0 r.1 q) e r.2 in (
          ByBucketRow (k.row_at r.0 (r.1 + 1)),
          row_piece setup closing k w l r.0 r.1 new.named new.inside,
          call_of_row setup closing k w l r.0 r.1 q (number_of c) c inside new is,
        )
        | inr v ↦ let new = subst (NewInVersion k v.0 q) e v.1 in (
          ByDirectoryRow (k.dir_row (v.0 + 1)),
          dir_piece setup closing k w l v.0 new.inside,
          call_of_version setup closing k w l v.0 q (number_of c) c inside new is,
        )
      ]

  -- an answered call comes with a piece
  answered_there : (r : Record) → In r closing.records →
      (x : Piece) × In x (pieces_of setup.shape closing) × In (answered r) (calls_in setup.shape closing x)
  answered_there r i = elim (cases_Bool (is_update r.call)) [
    | inl u ↦ let p = l.updated r i u in unit_there p.0 p.1 (answered r)
        (in_left (answered r) (map answered closing.records) (map pending closing.begun)
        (map_in answered closing.records r i)) p.2 p.3 p.5
    | inr n ↦ (
      ByLookup r,
      look_piece setup closing k w l r
          (filter_in (λ (q : Record). not (is_update q.call)) closing.records r i (ap not n)),
      inl refl,
    )
  ]

  -- and so does an update that took effect
  pending_there : (p : Pending) → In p (effects_of setup.shape closing) →
      (x : Piece) × In x (pieces_of setup.shape closing) × In (pending p) (calls_in setup.shape closing x)
  pending_there p i =
      let f = in_filter (took_effect setup.shape closing.words) closing.begun p i in
      let t = and_parts (is_update p.call) (list_any (λ row. applied_at setup.shape closing.words row
      p.seat == p.number) (bucket_rows setup.shape closing.words)) f.1 in
      let a = any_at (λ row. applied_at setup.shape closing.words row p.seat == p.number)
      (bucket_rows setup.shape closing.words) t.1 in
      let r = bucket_rows_in setup closing.words k w a.0 a.1 in
      unit_there r.bucket r.at (pending p) (in_right (pending p) (map answered closing.records)
      (map pending closing.begun) (map_in pending closing.begun p f.0)) r.named r.inside
      (sym (applied_is setup closing k w r.bucket r.at p.seat r.named r.inside)
      ∙ ap (λ x. applied_at setup.shape closing.words x p.seat) (sym r.is)
      ∙ eqb-true (applied_at setup.shape closing.words a.0 p.seat) p.number a.2)

  -- a call whose number is applied in a published row is answered, or took effect
  stands : (b i : ℕ) (c : Placed) → In c (calls_of closing) → k.named b ≡ true → i ≤ k.top b →
      applied_of (k.state_at b i) (seat_of c) ≡ number_of c → is_update (call_in c) ≡ true → In c all
  stands b i c m n o e u = elim (in_both c (map answered closing.records) (map pending closing.begun) m) [
    | inl a ↦ in_left c (map answered closing.records) (map pending (effects_of setup.shape closing)) a
    | inr g ↦
        let p = in_map pending closing.begun c g in
        let seat : seat_of c ≡ p.0.seat = ap seat_of p.2 in
        let number : number_of c ≡ p.0.number = ap number_of p.2 in
        let row = k.row_at b i in
        let here : applied_at setup.shape closing.words row p.0.seat ≡ p.0.number =
        ap (applied_at setup.shape closing.words row) (sym seat)
        ∙ applied_is setup closing k w b i (seat_of c) n o ∙ e ∙ number in
        let took : took_effect setup.shape closing.words p.0 ≡ true =
        and_from (is_update p.0.call) (list_any (λ x. applied_at setup.shape closing.words x
        p.0.seat == p.0.number) (bucket_rows setup.shape closing.words))
        (ap (λ z. is_update (call_in z)) (sym p.2) ∙ u)
        (any_from (λ x. applied_at setup.shape closing.words x p.0.seat == p.0.number)
        (bucket_rows setup.shape closing.words) row (in_bucket_rows setup closing.words k w b i n o)
        (eq-eqb (applied_at setup.shape closing.words row p.0.seat) p.0.number here)) in
        in_right c (map answered closing.records) (map pending (effects_of setup.shape closing))
        (subst (λ z. In z (map pending (effects_of setup.shape closing))) (sym p.2)
        (map_in pending (effects_of setup.shape closing) p.0
        (filter_in (took_effect setup.shape closing.words) closing.begun p.0 p.1 took)))
  ]

  -- and each call of a piece is one of them
  call_stands : (x : Piece) (c : Placed) → PieceAt setup closing k w l x → In c (calls_in setup.shape closing x) →
      In c all
  call_stands (ByBucketRow row) c a i = let h = row_has setup closing k w l row a c i in
      stands a.bucket (a.before + 1) c h.0.there a.named (omega (arith, a.inside)) h.1.is
      (update_in_row setup closing k w l a.bucket a.before c h.0 h.1)
  call_stands (ByDirectoryRow row) c a i = let h = dir_has setup closing k w l row a c i in
      stands h.1.bucket 0 c h.0.there h.1.named (omega arith) h.1.is
      (update_in_version setup closing k w l a.before c h.0 h.1)
  call_stands (ByLookup r) c a (inl e) = in_left c (map answered closing.records)
      (map pending (effects_of setup.shape closing))
      (subst (λ z. In z (map answered closing.records)) (sym e)
      (map_in answered closing.records r (in_filter (λ (q : Record). not (is_update q.call)) closing.records r a).0))
  call_stands (ByLookup r) c a (inr j) = elim j [ ]

  -- so each of them comes with exactly one piece
  holding : Holding setup closing
  holding = record {
    separate = separate setup closing k w l;
    each_once = λ x i. calls_once setup closing k w l x;
    once = all_once;
    there = λ c i. elim (in_both c (map answered closing.records) (map pending (effects_of setup.shape closing)) i) [
      | inl a ↦ let r = in_map answered closing.records c a in let t = answered_there r.0 r.1 in
          (t.0, t.1, subst (λ z. In z (calls_in setup.shape closing t.0)) (sym r.2) t.2)
      | inr b ↦ let p = in_map pending (effects_of setup.shape closing) c b in let t = pending_there p.0 p.1 in
          (t.0, t.1, subst (λ z. In z (calls_in setup.shape closing t.0)) (sym p.2) t.2)
    ];
    back = λ c x i m. call_stands x c (piece_at setup closing k w l x i) m;
  }

  -- so the order has each of them once
  pub is_whole : (placing_of setup.shape closing).left ≡ [] →
      Whole closing.records (effects_of setup.shape closing) (order_of setup.shape closing)
  is_whole e = order_whole setup closing holding e

  -- ---- never stuck
  module _ (t : Stamps) (s : Stamped setup closing k t) where
    -- the place of a piece
    abbrev place : Piece → ℕ
    place x = place_of t x

    -- a published row is there from the start, or comes with a piece of its place
    row_before : (b i bound : ℕ) → k.named b ≡ true → i ≤ k.top b → t.of_row (k.row_at b i) < bound →
        RowBefore setup closing place bound (k.row_at b i)
    row_before b (suc i) bound n o less =
        let same : k.row_at b (i + 1) ≡ k.row_at b (suc i) = ap (k.row_at b) (add-one i) in
        subst (RowBefore setup closing place bound) same
        (inr (
          ByBucketRow (k.row_at b (i + 1)),
          row_piece setup closing k w l b i n (omega (arith, o)),
          inl refl,
          omega (arith, less, ap t.of_row same),
        ))
    row_before b zero bound n o less = go (k.born b) refl
      where
        go : (v : ℕ) → k.born b ≡ v → RowBefore setup closing place bound (k.row_at b 0)
        go zero z = inl (in_start_rows setup closing k w l b n z)
        go (suc v) z =
            let born : k.born b ≡ v + 1 = z ∙ sym (add-one v) in
            let inside : v < k.dir_top = omega (arith, w.born_within b n, z) in
            inr (
              ByDirectoryRow (k.dir_row (v + 1)),
              dir_piece setup closing k w l v inside,
              in_first_rows setup closing.words k w v b inside n born,
              omega (arith, less, s.born_is b v n born),
            )

    -- with the lookups of the row, where they have smaller places
    done_before : (b i bound : ℕ) → k.named b ≡ true → i ≤ k.top b → t.of_row (k.row_at b i) < bound →
        ((r : Record) → In r (lookups_of closing) → r.place ≡ k.row_at b i → t.of_look r < bound) →
        DoneBefore setup closing place bound (Some (k.row_at b i))
    done_before b i bound n o less looks = (
      row_before b i bound n o less,
      λ r m e. (look_piece setup closing k w l r m, looks r m e),
    )

    -- a call with a place comes with a piece of that place
    call_before : (seat n y bound : ℕ) → seat < seats_of setup → HasPlace closing k t seat n y → y < bound → 1 ≤ n →
        CallBefore setup closing place bound seat n
    call_before seat n y bound inside (inl h) less one =
        let new = h.2 in
        let b = h.0 in
        let i = h.1 in
        let a = l.applied b (i + 1) seat new.named (omega (arith, new.inside)) inside
        (omega (arith, new.above, new.is)) in
        let is : IsCallOf closing seat n a.0 =
        record { there = a.1.there; seat = a.1.seat; number = a.1.number ∙ new.is } in (
          ByBucketRow (k.row_at b (i + 1)),
          a.0,
          row_piece setup closing k w l b i new.named new.inside,
          call_of_row setup closing k w l b i seat n a.0 inside new is,
          is.seat,
          is.number,
          omega (arith, less, h.3),
        )
    call_before seat n y bound inside (inr (inl h)) less one =
        let new = h.1 in
        let v = h.0 in
        let a = l.applied new.bucket 0 seat new.named (omega arith) inside (omega (arith, new.above, new.is)) in
        let is : IsCallOf closing seat n a.0 =
        record { there = a.1.there; seat = a.1.seat; number = a.1.number ∙ new.is } in (
          ByDirectoryRow (k.dir_row (v + 1)),
          a.0,
          dir_piece setup closing k w l v new.inside,
          call_of_version setup closing k w l v seat n a.0 inside new is,
          is.seat,
          is.number,
          omega (arith, less, h.2),
        )
    call_before seat n y bound inside (inr (inr h)) less one = (
      ByLookup h.0,
      answered h.0,
      look_piece setup closing k w l h.0 h.1,
      inl refl,
      h.2,
      h.3,
      omega (arith, less, h.4),
    )

    -- a call of a piece has the piece's place
    call_place : (x : Piece) (c : Placed) → PieceAt setup closing k w l x → In c (calls_in setup.shape closing x) →
        HasPlace closing k t (seat_of c) (number_of c) (place x)
    call_place (ByBucketRow row) c a i = inl (
      a.bucket,
      a.before,
      (row_has setup closing k w l row a c i).1,
      ap t.of_row a.is,
    )
    call_place (ByDirectoryRow row) c a i = inr (inl (
      a.before,
      (dir_has setup closing k w l row a c i).1,
      ap t.of_dir a.is,
    ))
    call_place (ByLookup r) c a (inl e) = inr (inr (r, a, ap seat_of (sym e), ap number_of (sym e), refl))
    call_place (ByLookup r) c a (inr j) = elim j [ ]

    -- what a piece is made from has a smaller place
    base_before : (x : Piece) → PieceAt setup closing k w l x → BaseBefore setup closing place x
    base_before (ByBucketRow row) a =
        let b = a.bucket in
        let i = a.before in
        let base : (bucket_row setup.shape closing.words row).base ≡ Some (k.row_at b i) =
        ap (λ r. (bucket_row setup.shape closing.words r).base) a.is
        ∙ base_is setup closing.words k w b (i + 1) a.named (omega (arith, a.inside))
        ∙ w.bases b i a.named a.inside in
        subst (DoneBefore setup closing place (t.of_row row)) (sym base)
        (done_before b i (t.of_row row) a.named (omega (arith, a.inside))
        (omega (arith, s.rows_rise b i a.named a.inside, ap t.of_row a.is))
        (λ r m e. omega (arith, s.looks_before r b i m a.named a.inside e, ap t.of_row a.is)))
    base_before (ByDirectoryRow row) a =
        let v = a.before in
        let base : (directory_row setup.shape closing.words row).base ≡ Some (k.dir_row v) =
        ap (λ r. (directory_row setup.shape closing.words r).base) a.is
        ∙ dir_base_is setup closing.words k w (v + 1) (omega (arith, a.inside)) ∙ w.dir_bases v a.inside in (
          subst (DirectoryBefore setup closing place (t.of_dir row)) (sym base)
              (dir_before v (omega (arith, a.inside)) (omega (arith, s.dirs_rise v a.inside, ap t.of_dir a.is))),
          λ first m.
              let f = first_has setup closing k w l row a first m in
              let p = w.parent f.0 v f.1 f.2 in
              let based : (bucket_row setup.shape closing.words first).base ≡ Some (k.row_at p.old (k.top p.old)) =
              ap (λ r. (bucket_row setup.shape closing.words r).base) f.3
              ∙ base_is setup closing.words k w f.0 0 f.1 (omega arith) ∙ p.base in
              subst (DoneBefore setup closing place (t.of_dir row)) (sym based)
              (done_before p.old (k.top p.old) (t.of_dir row) p.named (omega arith)
              (omega (arith, s.retires f.0 v p.old f.1 f.2 p.named p.base, ap t.of_dir a.is))
              (λ r n e. omega
              (arith, s.looks_before_change r f.0 v p.old n f.1 f.2 p.named p.base e, ap t.of_dir a.is))),
        )
      where
        dir_before : (v : ℕ) → v ≤ k.dir_top → t.of_dir (k.dir_row v) < t.of_dir row →
            DirectoryBefore setup closing place (t.of_dir row) (Some (k.dir_row v))
        dir_before zero o less = inl (in_start_dirs setup closing k w l)
        dir_before (suc v) o less =
            let same : k.dir_row (v + 1) ≡ k.dir_row (suc v) = ap k.dir_row (add-one v) in
            inr (
              ByDirectoryRow (k.dir_row (v + 1)),
              dir_piece setup closing k w l v (omega (arith, o)),
              inl (sym same),
              omega (arith, less, ap t.of_dir same),
            )
    base_before (ByLookup r) a =
        let p = s.looked r a in
        subst (RowBefore setup closing place (t.of_look r)) (sym p.4)
        (row_before p.0 p.1 (t.of_look r) p.2 p.3 (s.looks_after r p.0 p.1 a p.2 p.3 p.4))

    -- the rank of calls of seats that there are is at most the number of seats
    rank_few : (cs : List Placed) → ((c : Placed) → In c cs → seat_of c < seats_of setup) →
        rank_of_calls cs ≤ seats_of setup
    rank_few [] h = omega arith
    rank_few (c ∷ cs) h = h c (inl refl)

    -- so each piece can be placed after those of smaller places
    pub ranked : Ranked setup closing place
    ranked = record {
      bases = λ x i. base_before x (piece_at setup closing k w l x i);
      own = λ x c n i m one less.
          let a = piece_at setup closing k w l x i in
          let inside = l.seats c (call_there x c a m) in
          let r = s.own (seat_of c) (number_of c) n (place x) inside (call_place x c a m) one less in
          call_before (seat_of c) n r.0 (place x) inside r.1 r.2 one;
      seen = λ x c seat n i m inside one less.
          let a = piece_at setup closing k w l x i in
          let r = s.seen c (place x) seat n (call_there x c a m) (call_place x c a m) inside one less in
          call_before seat n r.0 (place x) inside r.1 r.2 one;
      seats = λ x i. rank_few (calls_in setup.shape closing x)
          (λ c m. l.seats c (call_there x c (piece_at setup closing k w l x i) m));
    }

    -- so all are placed
    pub is_never_stuck : (placing_of setup.shape closing).left ≡ []
    is_never_stuck = never_stuck setup closing place ranked

  -- ---- legal

  -- the bucket of a key by a version
  abbrev pub lead : ℕ → Key → ℕ
  lead v key = bucket_of (rules_of setup) (k.dir_at v) key

  -- the book, as the order reads it
  abbrev pub story : (ℕ → ℕ) → Story
  story pre = record {
    dir_top = k.dir_top;
    dir_row = k.dir_row;
    lead = lead;
    named = k.named;
    pre = pre;
    deep = k.deep;
    born =
        k.born;
    top = k.top;
    row_at = k.row_at;
    items_at = λ b i. (k.state_at b i).items;
  }

  -- what the layers know of the keys, and of what the calls make of the items
  pub record Meaning (first : Sessions) (pre : ℕ → ℕ) : Type 0 where
    pub leading : Leading setup (story pre)
    pub parent_leads : (v : ℕ) (key : Key) → v < k.dir_top → lead (v + 1) key ≢ lead v key →
        k.base_at (lead (v + 1) key) 0 ≡ Some (k.row_at (lead v key) (k.top (lead v key)))
    pub row_keys : (b i : ℕ) (c : Placed) → k.named b ≡ true → i < k.top b →
        In c (calls_in setup.shape closing (ByBucketRow (k.row_at b (i + 1)))) →
        Suits setup (story pre) b (key_in (call_in c))
    pub row_fold : (b i : ℕ) (sessions : Sessions) → k.named b ≡ true → i < k.top b →
        Holds setup (story pre) b i sessions →
        Holds setup (story pre) b (i + 1) (sessions_after (rules_of setup) sessions
        (calls_in setup.shape closing (ByBucketRow (k.row_at b (i + 1)))))
        × Legal (rules_of setup) sessions (calls_in setup.shape closing (ByBucketRow (k.row_at b (i + 1))))
    pub dir_keys : (v : ℕ) (c : Placed) → v < k.dir_top →
        In c (calls_in setup.shape closing (ByDirectoryRow (k.dir_row (v + 1)))) →
        lead (v + 1) (key_in (call_in c)) ≢ lead v (key_in (call_in c))
    pub dir_fold : (v : ℕ) (sessions : Sessions) → v < k.dir_top →
        ((key : Key) → lead (v + 1) key ≢ lead v key →
        Holds setup (story pre) (lead v key) (k.top (lead v key)) sessions) →
        ((key : Key) → lead (v + 1) key ≢ lead v key →
        Holds setup (story pre) (lead (v + 1) key) 0
        (sessions_after (rules_of setup) sessions
        (calls_in setup.shape closing (ByDirectoryRow (k.dir_row (v + 1))))))
        × Legal (rules_of setup) sessions (calls_in setup.shape closing (ByDirectoryRow (k.dir_row (v + 1))))
    pub looks : (r : Record) → In r (lookups_of closing) → LookPiece setup (story pre) r
    pub first_holds : (key : Key) → Holds setup (story pre) (lead 0 key) 0 first

  module _ (law : OtherPartsStay) (first : Sessions) (pre : ℕ → ℕ) (m : Meaning first pre) where
    -- a bucket row's piece tells of one more row of its bucket
    tells_row : (row : ℕ) → RowAt setup closing k w l row → RowPiece setup closing (story pre) row
    tells_row row a = subst (RowPiece setup closing (story pre)) (sym a.is) (record {
      bucket = a.bucket;
      before = a.before;
      named = a.named;
      inside = a.inside;
      is = refl;
      base = base_is setup closing.words k w a.bucket (a.before + 1) a.named (omega (arith, a.inside))
          ∙ w.bases a.bucket a.before a.named a.inside;
      keys = λ c i. m.row_keys a.bucket a.before c a.named a.inside i;
      fold = λ sessions h. m.row_fold a.bucket a.before sessions a.named a.inside h;
    })

    -- a directory row's piece tells of one more version
    tells_dir : (row : ℕ) → DirAt setup closing k w l row → DirPiece setup closing (story pre) row
    tells_dir row a = subst (DirPiece setup closing (story pre)) (sym a.is) (record {
      before = a.before;
      inside = a.inside;
      is = refl;
      base = dir_base_is setup closing.words k w (a.before + 1) (omega (arith, a.inside))
          ∙ w.dir_bases a.before a.inside;
      firsts = λ x i. let f = first_rows_in setup closing.words k w a.before x a.inside i in
          record { bucket = f.0; named = f.1; born = f.2; is = f.3 };
      all_firsts = λ b n e. in_first_rows setup closing.words k w a.before b a.inside n e;
      bases = λ key n. base_is setup closing.words k w (lead (a.before + 1) key) 0
          (m.leading.there (a.before + 1) key (omega (arith, a.inside))) (omega arith)
          ∙ m.parent_leads a.before key a.inside n;
      keys = λ c i. m.dir_keys a.before c a.inside i;
      fold = λ sessions h. m.dir_fold a.before sessions a.inside h;
    })

    -- so the closed table tells the story
    pub tells : Tells setup closing first (story pre)
    tells = record {
      leading = m.leading;
      start_rows = λ b i n o h. let s = start_row setup closing k w l (k.row_at b i) h in
          let one = w.once b s.0 i 0 n s.1 o (omega arith) s.3 in (omega (arith, ap k.born one.0, s.2), one.1);
      rows_start = λ b n z. in_start_rows setup closing k w l b n z;
      start_dirs = λ v o h. w.dir_once v 0 o (omega arith) (start_dir setup closing k w l (k.dir_row v) h);
      dirs_start = in_start_dirs setup closing k w l;
      rows = λ row i. tells_row row (piece_at setup closing k w l (ByBucketRow row) i);
      dirs = λ row i. tells_dir row (piece_at setup closing k w l (ByDirectoryRow row) i);
      looks = m.looks;
      look_pieces = λ r i. piece_at setup closing k w l (ByLookup r) i;
      first_holds = m.first_holds;
    }

    -- so the order is legal
    pub is_legal : Legal (rules_of setup) first (order_of setup.shape closing)
    is_legal = order_legal law setup closing first (story pre) tells (separate setup closing k w l)

    -- and what is held then is what the last rows hold
    pub ends_with : (t : Stamps) → Stamped setup closing k t → (key : Key) →
        Holds setup (story pre) (lead k.dir_top key) (k.top (lead k.dir_top key))
        (sessions_after (rules_of setup) first (order_of setup.shape closing))
    ends_with t s key = order_holds law setup closing first (story pre) tells
        (separate setup closing k w l) dirs rows key
      where
        has : (x : Piece) → In x (pieces_of setup.shape closing) → Has setup closing (placing_of setup.shape closing) x
        has x i = all_are_placed setup closing (place_of t) (ranked t s) x i

        dirs : (v : ℕ) → v ≤ k.dir_top → is_among (placing_of setup.shape closing).directories (k.dir_row v) ≡ true
        dirs zero o = (kept_end setup closing).grown.directories (k.dir_row 0) (in_start_dirs setup closing k w l)
        dirs (suc v) o = subst (λ n. is_among (placing_of setup.shape closing).directories (k.dir_row n) ≡ true)
            (add-one v) ((has (ByDirectoryRow (k.dir_row (v + 1)))
            (dir_piece setup closing k w l v (omega (arith, o)))).directories (k.dir_row (v + 1)) (inl refl))

        firsts : (b v : ℕ) → k.named b ≡ true → k.born b ≡ v →
            is_among (placing_of setup.shape closing).rows (k.row_at b 0) ≡ true
        firsts b zero n z = (kept_end setup closing).grown.rows (k.row_at b 0) (in_start_rows setup closing k w l b n z)
        firsts b (suc v) n z =
            let inside : v < k.dir_top = omega (arith, w.born_within b n, z) in
            (has (ByDirectoryRow (k.dir_row (v + 1))) (dir_piece setup closing k w l v inside)).rows (k.row_at b 0)
            (in_first_rows setup closing.words k w v b inside n (z ∙ sym (add-one v)))

        rows : (b i : ℕ) → k.named b ≡ true → i ≤ k.top b →
            is_among (placing_of setup.shape closing).rows (k.row_at b i) ≡ true
        rows b zero n o = firsts b (k.born b) n refl
        rows b (suc i) n o = subst (λ j. is_among (placing_of setup.shape closing).rows (k.row_at b j) ≡ true)
            (add-one i) ((has (ByBucketRow (k.row_at b (i + 1)))
            (row_piece setup closing k w l b i n (omega (arith, o)))).rows (k.row_at b (i + 1)) (inl refl))
