-- A lookup stands after exactly those updates of its row's keys that are applied in its row.
use Rattle.std.proofs.Common.{◌≡◌, ◌≢◌, ℕ, zero, suc, ◌+◌, ◌<◌, ◌≤◌, ◌⊎◌, true, false, List, [], ◌∷◌, ◌++◌, Some, true≢false, refl, inl, inr, sym, ap, ◌∙◌, subst, arith}
use Rattle.std.specs.Prelude.{◌-◌}
use Rattle.std.specs.Option.{option_map_or}
use Rattle.std.specs.List.{list_all, range_with_len}
use Rattle.std.proofs.lemmas.Bool.{and_parts, cases_eq, cases_lt}
use Rattle.plain_map.specs.declared.keys.Key.{Key}
use Rattle.plain_map.specs.declared.records.Record.{Record}
use Rattle.plain_map.specs.Calls.{key_in, is_update}
use Rattle.plain_map.specs.PlainObject.{Sessions}
use Rattle.plain_map.specs.History.{Placed, answered, call_in, seat_of, number_of, seen_of}
use Rattle.bucket_states.specs.Laws.{applied_of}
use Rattle.bucket_states.specs.Parts.{OtherPartsStay}
use Rattle.table_model.specs.Setup.{Setup, seats_of}
use Rattle.table_model.specs.Reading.{bucket_row, directory_row, is_among}
use Rattle.table_model.specs.Order.{Closing, Piece, ByBucketRow, ByDirectoryRow, ByLookup, Placing, is_call, lookups_of, calls_in, first_rows, is_placed, are_placed, is_next, is_done, has_base, rows_with, start_of, placing_of}
use Rattle.list_laws.proofs.Lists.{In, all_at, any_from, in_at, in_right, in_both, range_in}
use Rattle.placing_laws.proofs.Turns.{Turn, after, Grows, turn_grows, placing_keeps}
use Rattle.placing_laws.proofs.Stuck.{is_call_at, among_in, kept_start}
use Rattle.placing_laws.proofs.Alone.{among_both, alone_start}
use Rattle.placing_laws.proofs.Story.{Suits, leads_or_retired}
use Rattle.placing_laws.proofs.Legals.{Goes, goes_step, far_start, done_row}
use Rattle.closed_laws.proofs.Book.{Book, Written}
use Rattle.closed_laws.proofs.Read.{base_is, in_first_rows}
use Rattle.closed_laws.proofs.Ledger.{Ledger, NewInVersion, IsCallOf, call_of_row, call_of_version}
use Rattle.closed_laws.proofs.Pieces.{PieceAt, piece_at, look_is, update_in_row, update_in_version, row_has, dir_has, first_has, start_row, separate, answered_one}
use Rattle.closed_laws.proofs.Ends.{Meaning, story, lead, call_there, tells}

-- a list of two parts, cut at a member
data Cut (xs ys before later : List Placed) (c : Placed) : Type 0 where
  in_first : (more : List Placed) → xs ≡ before ++ c ∷ more → later ≡ more ++ ys → Cut xs ys before later c
  in_second : (more : List Placed) → before ≡ xs ++ more → ys ≡ more ++ c ∷ later → Cut xs ys before later c

-- it is a member of the first part, or of the second
cut : (xs ys before later : List Placed) (c : Placed) → xs ++ ys ≡ before ++ c ∷ later → Cut xs ys before later c
cut [] ys before later c e = in_second before refl e
cut (x ∷ xs) ys [] later c e =
    let same : x ≡ c = cc in
    let rest : xs ++ ys ≡ later = cc in
    in_first xs (ap (λ z. z ∷ xs) same) (sym rest)
cut (x ∷ xs) ys (b ∷ before) later c e =
    let same : x ≡ b = cc in
    let rest : xs ++ ys ≡ before ++ c ∷ later = cc in
    longer same (cut xs ys before later c rest)
  where
    longer : x ≡ b → Cut xs ys before later c → Cut (x ∷ xs) ys (b ∷ before) later c
    longer s (in_first more g h) = in_first more (ap (λ z. z ∷ xs) s ∙ ap (λ zs. b ∷ zs) g) h
    longer s (in_second more g h) = in_second more (ap (λ z. z ∷ before) (sym s) ∙ ap (λ zs. x ∷ zs) g) h

-- a list of one member, cut
single : (x c : Placed) (before later : List Placed) → x ∷ [] ≡ before ++ c ∷ later →
    (x ≡ c) × (before ≡ []) × (later ≡ [])
single x c [] later e = (let same : x ≡ c = cc in let none : [] ≡ later = cc in (same, refl, sym none))
single x c (b ∷ []) later e = (let none : [] ≡ c ∷ later = cc in cc)
single x c (b ∷ a ∷ before) later e = (let none : [] ≡ a ∷ (before ++ c ∷ later) = cc in cc)

module _ (setup : Setup) (closing : Closing) (k : Book) (w : Written setup closing.words k)
    (l : Ledger setup closing k) (law : OtherPartsStay) (first : Sessions) (pre : ℕ → ℕ)
    (m : Meaning setup closing k w l first pre) where
  -- the number of a seat in a row
  abbrev app : ℕ → ℕ → ℕ → ℕ
  app b i q = applied_of (k.state_at b i) q

  -- the bucket of a key by a version
  abbrev leads : ℕ → Key → ℕ
  leads = lead setup closing k w l

  -- the key has the bucket's prefix
  abbrev pub IsFor : ℕ → Key → Type 0
  IsFor b key = Suits setup (story setup closing k w l pre) b key

  -- numbers never fall, the opening has none, and a number that is new by a version is in the new bucket of its key
  pub record Rising : Type 0 where
    pub rows_up : (b i q : ℕ) → k.named b ≡ true → i < k.top b → app b i q ≤ app b (i + 1) q
    pub first_up : (v q : ℕ) (key : Key) → v < k.dir_top → leads (v + 1) key ≢ leads v key →
        app (leads v key) (k.top (leads v key)) q ≤ app (leads (v + 1) key) 0 q
    pub none : (b q : ℕ) → k.named b ≡ true → k.born b ≡ 0 → app b 0 q ≡ 0
    pub own : (v q n : ℕ) (c : Placed) → NewInVersion k v q n → IsCallOf closing q n c →
        app (leads (v + 1) (key_in (call_in c))) 0 q ≡ n

  module _ (r : Rising) where
    -- along the rows of a bucket
    up_by : (b i n q : ℕ) → k.named b ≡ true → i + n ≤ k.top b → app b i q ≤ app b (i + n) q
    up_by b i zero q m o = (let same : i + 0 ≡ i = omega arith in omega (arith, ap (λ j. app b j q) same))
    up_by b i (suc n) q m o =
        let last : i + suc n ≡ i + n + 1 = omega arith in
        omega (
          arith,
          up_by b i n q m (omega (arith, o)),
          r.rows_up b (i + n) q m (omega (arith, o)),
          ap (λ j. app b j q) last,
        )

    -- so they rise from any row to any later one
    up_to : (b i j q : ℕ) → k.named b ≡ true → i ≤ j → j ≤ k.top b → app b i q ≤ app b j q
    up_to b i j q m low o =
        let same : i + (j - i) ≡ j = omega (arith, low) in
        omega (arith, up_by b i (j - i) q m (omega (arith, same, o)), ap (λ z. app b z q) same)

    -- along the buckets of a key
    along : (u n q : ℕ) (key : Key) → u + n ≤ k.dir_top →
        (leads (u + n) key ≡ leads u key) ⊎ (app (leads u key) (k.top (leads u key)) q ≤ app (leads (u + n) key) 0 q)
    along u zero q key o = inl (ap (λ v. leads v key) (omega arith))
    along u (suc n) q key o =
        let last : u + suc n ≡ u + n + 1 = omega arith in
        let there = m.leading.there (u + n) key (omega (arith, o)) in
        elim (cases_eq (leads (u + n + 1) key) (leads (u + n) key)) [
          | inl stays ↦ elim (along u n q key (omega (arith, o))) [
            | inl e ↦ inl (ap (λ v. leads v key) last ∙ stays ∙ e)
            | inr up ↦ inr (omega (arith, up, ap (λ b. app b 0 q) (ap (λ v. leads v key) last ∙ stays)))
          ]
          | inr goes ↦
              let step = r.first_up (u + n) q key (omega (arith, o)) goes in
              elim (along u n q key (omega (arith, o))) [
                | inl e ↦ inr (omega (arith, step, ap (λ b. app b (k.top b) q) e, ap (λ v. app (leads v key) 0 q) last))
                | inr up ↦ inr (omega (
                  arith,
                  up,
                  up_to (leads (u + n) key) 0 (k.top (leads (u + n) key)) q there
                      (omega arith) (omega arith),
                  step,
                  ap (λ v. app (leads v key) 0 q) last,
                ))
              ]
        ]

    -- ---- what holds after every turn

    -- what the order's proof keeps of each turn
    abbrev Placings : Placing → Type 0
    Placings p = Goes law setup closing first (story setup closing k w l pre)
        (tells setup closing k w l law first pre m) p

    -- an update that is placed is applied in a placed row of its key
    pub record InRow (p : Placing) (c : Placed) : Type 0 where
      pub bucket : ℕ
      pub at : ℕ
      pub named : k.named bucket ≡ true
      pub inside : at ≤ k.top bucket
      pub placed : is_among p.rows (k.row_at bucket at) ≡ true
      pub suits : IsFor bucket (key_in (call_in c))
      pub is : app bucket at (seat_of c) ≡ number_of c

    -- a placed lookup, between the calls before it and those after it
    pub record Between (p : Placing) (before later : List Placed) (x : Record) : Type 0 where
      pub look : In x (lookups_of closing)
      pub placed : is_among p.rows x.place ≡ true
      pub early : (let y = m.looks x look in (c : Placed) → In c before → is_update (call_in c) ≡ true →
          IsFor y.bucket (key_in (call_in c)) → number_of c ≤ app y.bucket y.at (seat_of c))
      pub late : (let y = m.looks x look in (c : Placed) → In c later → app y.bucket y.at (seat_of c) < number_of c)

    -- the numbers of placed rows are placed, placed updates are in placed rows, and lookups stand between
    pub record Shown (p : Placing) : Type 0 where
      pub goes : Placings p
      pub numbers : (b i q n : ℕ) → k.named b ≡ true → i ≤ k.top b → is_among p.rows (k.row_at b i) ≡ true →
          q < seats_of setup → 1 ≤ n → n ≤ app b i q → is_placed p.order q n ≡ true
      pub updates : (c : Placed) → In c p.order → is_update (call_in c) ≡ true → InRow p c
      pub looks : (before later : List Placed) (x : Record) → p.order ≡ before ++ answered x ∷ later →
          is_update x.call ≡ false → Between p before later x

    module _ (p : Placing) (at : ℕ) (piece : Piece) (t : Turn setup closing p at piece) (h : Shown p) where
      -- the calls of the piece
      abbrev calls : List Placed
      calls = calls_in setup.shape closing piece

      -- the piece is one of those that are left
      member : In piece p.left
      member = in_at p.left at piece t.stands

      -- its row is published
      here : PieceAt setup closing k w l piece
      here = piece_at setup closing k w l piece (h.goes.kept.known piece member)

      -- the turn only adds
      grows : Grows setup closing p (after setup closing p at piece)
      grows = turn_grows setup closing p at piece

      -- its base is there, and its calls are next
      ready : (has_base setup.shape closing p piece ≡ true) × (list_all (is_next setup.shape p.order) calls ≡ true)
      ready = and_parts (has_base setup.shape closing p piece) (list_all (is_next setup.shape p.order) calls) t.ready

      -- with a call all of its seat's up to it are placed
      up_to_call : (c : Placed) (q n : ℕ) → In c calls → seat_of c ≡ q → 1 ≤ n → n ≤ number_of c →
          is_placed (p.order ++ calls) q n ≡ true
      up_to_call c q n i s one few = elim (cases_lt n (number_of c)) [
        | inr last ↦ any_from (is_call q n) (p.order ++ calls) c (in_right c p.order calls i)
            (is_call_at c q n s (omega (arith, last, few)))
        | inl less ↦
            let next = all_at (is_next setup.shape p.order) calls c ready.1 i in
            let own = (and_parts (are_placed p.order (number_of c - 1) (seat_of c))
            (list_all (λ seat. are_placed p.order (seen_of c seat) seat) (range_with_len 0 (seats_of setup)))
            next).0 in
            grows.calls q n (subst (λ z. is_placed p.order z n ≡ true) s
            (all_at (is_placed p.order (seat_of c)) (range_with_len 1 (number_of c - 1)) n own
            (range_in 1 (number_of c - 1) n one (omega (arith, less, one)))))
      ]

      -- a call is not placed before its turn
      not_before : (c : Placed) → In c calls → is_placed p.order (seat_of c) (number_of c) ≡ true → ⊥
      not_before c i placed = (h.goes.alone.fresh piece member).calls c (seat_of c) (number_of c) i refl refl placed

      -- the row that it was made from is placed, with the numbers up to those of that row
      from_base : (b i q n : ℕ) → k.named b ≡ true → i ≤ k.top b → is_done closing p (Some (k.row_at b i)) ≡ true →
          q < seats_of setup → 1 ≤ n → n ≤ app b i q → is_placed (p.order ++ calls) q n ≡ true
      from_base b i q n named o done inside one few =
          grows.calls q n (h.numbers b i q n named o
          (done_row law setup closing first (story setup closing k w l pre)
          (tells setup closing k w l law first pre m) p (k.row_at b i) done) inside one few)

    -- the numbers of the rows that come with a piece
    new_numbers : (p : Placing) (at : ℕ) (piece : Piece) (t : Turn setup closing p at piece) (h : Shown p)
        (b i q n : ℕ) → k.named b ≡ true → i ≤ k.top b →
        In (k.row_at b i) (rows_with setup.shape closing piece) → q < seats_of setup → 1 ≤ n → n ≤ app b i q →
        is_placed (p.order ++ calls_in setup.shape closing piece) q n ≡ true
    new_numbers p at (ByBucketRow row) t h b i q n named o (inr x) inside one few = elim x [ ]
    new_numbers p at (ByBucketRow row) t h b i q n named o (inl e) inside one few =
        let a = here p at (ByBucketRow row) t h in
        let c = a.bucket in
        let j = a.before in
        let is = w.once b c i (j + 1) named a.named o (omega (arith, a.inside)) (e ∙ a.is) in
        let same : app b i q ≡ app c (j + 1) q = ap (λ z. app z i q) is.0 ∙ ap (λ z. app c z q) is.1 in
        let base : (bucket_row setup.shape closing.words row).base ≡ Some (k.row_at c j) =
        ap (λ r. (bucket_row setup.shape closing.words r).base) a.is
        ∙ base_is setup closing.words k w c (j + 1) a.named (omega (arith, a.inside))
        ∙ w.bases c j a.named a.inside in
        let done : is_done closing p (Some (k.row_at c j)) ≡ true =
        subst (λ z. is_done closing p z ≡ true) base (ready p at (ByBucketRow row) t h).0 in
        elim (cases_lt (app c j q) n) [
          | inr old ↦ from_base p at (ByBucketRow row) t h c j q n a.named (omega (arith, a.inside)) done inside one
              (omega (arith, old))
          | inl new ↦
              let x = l.applied c (j + 1) q a.named (omega (arith, a.inside)) inside (omega (arith, one, few, same)) in
              up_to_call p at (ByBucketRow row) t h x.0 q n
              (subst (λ z. In x.0 (calls_in setup.shape closing (ByBucketRow z))) (sym a.is)
              (call_of_row setup closing k w l c j q (app c (j + 1) q) x.0 inside
              (record { named = a.named; inside = a.inside; above = omega (arith, new, few, same); is = refl })
              x.1))
              x.1.seat one (omega (arith, few, same, x.1.number))
        ]
    new_numbers p at (ByDirectoryRow row) t h b i q n named o x inside one few =
        let piece = ByDirectoryRow row in
        let a = here p at piece t h in
        let v = a.before in
        let f = first_has setup closing k w l row a (k.row_at b i) x in
        let c = f.0 in
        let is = w.once b c i 0 named f.1 o (omega arith) f.3 in
        let same : app b i q ≡ app c 0 q = ap (λ z. app z i q) is.0 ∙ ap (λ z. app c z q) is.1 in
        let parent = w.parent c v f.1 f.2 in
        let base : (bucket_row setup.shape closing.words (k.row_at b i)).base ≡ Some
        (k.row_at parent.old (k.top parent.old)) =
        ap (λ r. (bucket_row setup.shape closing.words r).base) f.3
        ∙ base_is setup closing.words k w c 0 f.1 (omega arith) ∙ parent.base in
        let firsts = first_rows setup.shape closing.words row in
        let all = (and_parts (option_map_or (is_among p.directories)
        (directory_row setup.shape closing.words row).base true)
        (list_all (λ z. is_done closing p (bucket_row setup.shape closing.words z).base) firsts)
        (ready p at piece t h).0).1 in
        let done : is_done closing p (Some (k.row_at parent.old (k.top parent.old))) ≡ true =
        subst (λ z. is_done closing p z ≡ true) base
        (all_at (λ z. is_done closing p (bucket_row setup.shape closing.words z).base) firsts
        (k.row_at b i) all x) in
        elim (cases_lt (app parent.old (k.top parent.old) q) n) [
          | inr old ↦ from_base p at piece t h parent.old (k.top parent.old) q n parent.named
              (omega arith) done inside one (omega (arith, old))
          | inl new ↦
              let y = l.applied c 0 q f.1 (omega arith) inside (omega (arith, one, few, same)) in
              up_to_call p at piece t h y.0 q n
              (subst (λ z. In y.0 (calls_in setup.shape closing (ByDirectoryRow z))) (sym a.is)
              (call_of_version setup closing k w l v q (app c 0 q) y.0 inside
              (record {
                inside = a.inside;
                bucket = c;
                named = f.1;
                born = f.2;
                old = parent.old;
                old_named = parent.named;
                base = parent.base;
                above = omega (arith, new, few, same);
                is =
                    refl;
              }) y.1))
              y.1.seat one (omega (arith, few, same, y.1.number))
        ]
    new_numbers p at (ByLookup r) t h b i q n named o x inside one few = elim x [ ]

    -- the row in which a new update is applied
    new_update : (p : Placing) (at : ℕ) (piece : Piece) (t : Turn setup closing p at piece) (h : Shown p)
        (c : Placed) → In c (calls_in setup.shape closing piece) → is_update (call_in c) ≡ true →
        InRow (after setup closing p at piece) c
    new_update p at (ByBucketRow row) t h c i u =
        let a = here p at (ByBucketRow row) t h in
        let new = (row_has setup closing k w l row a c i).1 in
        record {
          bucket = a.bucket;
          at = a.before + 1;
          named = a.named;
          inside = omega (arith, a.inside);
          placed = among_in (p.rows ++ row ∷ []) (k.row_at a.bucket (a.before + 1))
              (in_right (k.row_at a.bucket (a.before + 1)) p.rows (row ∷ []) (inl (sym a.is)));
          suits = m.row_keys a.bucket a.before c a.named a.inside
              (subst (λ z. In c (calls_in setup.shape closing (ByBucketRow z))) a.is i);
          is = new.is;
        }
    new_update p at (ByDirectoryRow row) t h c i u =
        let a = here p at (ByDirectoryRow row) t h in
        let v = a.before in
        let key = key_in (call_in c) in
        let has = dir_has setup closing k w l row a c i in
        let b = leads (v + 1) key in
        let changed = m.dir_keys v c a.inside
        (subst (λ z. In c (calls_in setup.shape closing (ByDirectoryRow z))) a.is i) in
        let named = m.leading.there (v + 1) key (omega (arith, a.inside)) in
        let firsts = first_rows setup.shape closing.words row in
        let there : In (k.row_at b 0) firsts =
        subst (λ z. In (k.row_at b 0) (first_rows setup.shape closing.words z)) (sym a.is)
        (in_first_rows setup closing.words k w v b a.inside named (m.leading.newborn v key a.inside changed)) in
        record {
          bucket = b;
          at = 0;
          named = named;
          inside = omega arith;
          placed = among_in (p.rows ++ firsts) (k.row_at b 0) (in_right (k.row_at b 0) p.rows firsts there);
          suits = m.leading.for_it (v + 1) key (omega (arith, a.inside));
          is = r.own v (seat_of c) (number_of c) c has.1 has.0;
        }
    new_update p at (ByLookup x) t h c (inl e) u =
        absurd (true≢false (sym u ∙ ap (λ z. is_update (call_in z)) e
        ∙ (look_is setup closing k w l x (here p at (ByLookup x) t h)).1))
    new_update p at (ByLookup x) t h c (inr j) u = elim j [ ]

    -- what is placed when a lookup's turn comes
    at_turn : (p : Placing) (at : ℕ) (x : Record) (t : Turn setup closing p at (ByLookup x)) (h : Shown p) →
        Between p p.order [] x
    at_turn p at x t h =
        let look_in = here p at (ByLookup x) t h in
        let y = m.looks x look_in in
        let b = y.bucket in
        let f = h.goes.far in
        let placed = (ready p at (ByLookup x) t h).0 in
        let fresh = not_before p at (ByLookup x) t h (answered x) (inl refl) in
        let row = f.rows b y.at y.named y.inside (subst (λ z. is_among p.rows z ≡ true) y.is placed) in
        let last : y.at ≡ f.at b = elim (cases_lt y.at (f.at b)) [
          | inl less ↦ absurd (fresh (f.looked x b y.at look_in y.named y.inside y.is (inl less)))
          | inr few ↦ omega (arith, few, row.1)
        ] in
        let of_it : leads f.version (key_in x.call) ≡ b =
        elim (leads_or_retired setup (story setup closing k w l pre) m.leading
        (key_in x.call) b f.version y.named row.0 y.suits) [
          | inl e ↦ e
          | inr away ↦ absurd (fresh (f.looked x b y.at look_in y.named y.inside y.is (inr away)))
        ] in
        record {
          look = look_in;
          placed = placed;
          early = λ c i u suits.
              let key = key_in (call_in c) in
              let q = seat_of c in
              let z = h.updates c i u in
              let now : leads f.version key ≡ b =
              m.leading.led f.version (key_in x.call) key f.inside (subst (λ d. IsFor d key) (sym of_it) suits)
              ∙ of_it in
              let there = f.rows z.bucket z.at z.named z.inside z.placed in
              elim (leads_or_retired setup (story setup closing k w l pre) m.leading key z.bucket f.version z.named
              there.0 z.suits) [
                | inl e ↦
                    let same : z.bucket ≡ b = sym e ∙ now in
                    omega (
                      arith,
                      z.is,
                      up_to z.bucket z.at (f.at z.bucket) q z.named there.1
                          (f.within z.bucket z.named),
                      ap (λ d. app d (f.at d) q) same,
                      ap (λ j. app b j q) last,
                    )
                | inr away ↦
                    let v = away.0 in
                    let low = up_to z.bucket z.at (k.top z.bucket) q z.named z.inside (omega arith) in
                    let next : v + 1 + (f.version - (v + 1)) ≡ f.version = omega (arith, away.1) in
                    let step = r.first_up v q key (omega (arith, away.1, f.inside)) away.3 in
                    let old = ap (λ d. app d (k.top d) q) away.2 in
                    let high = up_to b 0 y.at q y.named (omega arith) y.inside in
                    elim (along (v + 1) (f.version - (v + 1)) q key (omega (arith, next, f.inside))) [
                      | inl e ↦ omega (
                        arith,
                        z.is,
                        low,
                        old,
                        step,
                        ap (λ d. app d 0 q) (sym e ∙ ap (λ n. leads n key) next ∙ now),
                        high,
                      )
                      | inr up ↦
                          let new = leads (v + 1) key in
                          let between = up_to new 0 (k.top new) q
                          (m.leading.there (v + 1) key (omega (arith, away.1, f.inside))) (omega arith)
                          (omega arith) in
                          omega (
                            arith,
                            z.is,
                            low,
                            old,
                            step,
                            between,
                            up,
                            ap (λ n. app (leads n key) 0 q) next,
                            ap (λ d. app d 0 q) now,
                            high,
                          )
                    ]
              ];
          late = λ c i. elim i [ ];
        }

    -- a lookup is no call of another piece
    of_look : (p : Placing) (at : ℕ) (piece : Piece) (t : Turn setup closing p at piece) (h : Shown p)
        (more later : List Placed) (x : Record) →
        calls_in setup.shape closing piece ≡ more ++ answered x ∷ later → is_update x.call ≡ false →
        (piece ≡ ByLookup x) × (more ≡ []) × (later ≡ [])
    of_look p at (ByBucketRow row) t h more later x e u =
        let i : In (answered x) (calls_in setup.shape closing (ByBucketRow row)) =
        subst (In (answered x)) (sym e) (in_right (answered x) more (answered x ∷ later) (inl refl)) in
        let a = here p at (ByBucketRow row) t h in
        let has = row_has setup closing k w l row a (answered x) i in
        absurd (true≢false (sym (update_in_row setup closing k w l a.bucket a.before (answered x) has.0 has.1) ∙ u))
    of_look p at (ByDirectoryRow row) t h more later x e u =
        let i : In (answered x) (calls_in setup.shape closing (ByDirectoryRow row)) =
        subst (In (answered x)) (sym e) (in_right (answered x) more (answered x ∷ later) (inl refl)) in
        let a = here p at (ByDirectoryRow row) t h in
        let has = dir_has setup closing k w l row a (answered x) i in
        absurd (true≢false (sym (update_in_version setup closing k w l a.before (answered x) has.0 has.1) ∙ u))
    of_look p at (ByLookup y) t h more later x e u =
        let is = single (answered y) (answered x) more later e in
        (ap ByLookup (answered_one y x is.0), is.1, is.2)

    -- each turn keeps it
    step : (p : Placing) (at : ℕ) (piece : Piece) → Turn setup closing p at piece → Shown p →
        Shown (after setup closing p at piece)
    step p at piece t h =
        let calls_of_it = calls_in setup.shape closing piece in
        let g = grows p at piece t h in
        record {
          goes = goes_step law setup closing first (story setup closing k w l pre)
              (tells setup closing k w l law first pre m) p at piece t h.goes;
          numbers = λ b i q n named o placed inside one few. elim
              (among_both setup closing p.rows (rows_with setup.shape closing piece) (k.row_at b i) placed) [
                | inl old ↦ g.calls q n (h.numbers b i q n named o old inside one few)
                | inr new ↦ new_numbers p at piece t h b i q n named o new inside one few
              ];
          updates = λ c i u. elim (in_both c p.order calls_of_it i) [
            | inl old ↦ let z = h.updates c old u in
                record {
                  bucket = z.bucket;
                  at = z.at;
                  named = z.named;
                  inside = z.inside;
                  placed = g.rows (k.row_at z.bucket z.at) z.placed;
                  suits = z.suits;
                  is = z.is;
                }
            | inr new ↦ new_update p at piece t h c new u
          ];
          looks = λ before later x e u. parts before later x u (cut p.order calls_of_it before later (answered x) e);
        }
      where
        parts : (before later : List Placed) (x : Record) → is_update x.call ≡ false →
            Cut p.order (calls_in setup.shape closing piece) before later (answered x) →
            Between (after setup closing p at piece) before later x
        parts before later x u (in_first more e s) =
            let z = h.looks before more x e u in
            let y = m.looks x z.look in
            record {
              look = z.look;
              placed = (grows p at piece t h).rows x.place z.placed;
              early = z.early;
              late = λ c i. elim (in_both c more (calls_in setup.shape closing piece) (subst (In c) s i)) [
                | inl old ↦ z.late c old
                | inr new ↦
                    let there = call_there setup closing k w l piece c (here p at piece t h) new in
                    elim (cases_lt (app y.bucket y.at (seat_of c)) (number_of c)) [
                      | inl less ↦ less
                      | inr few ↦ absurd (not_before p at piece t h c new
                          (h.numbers y.bucket y.at (seat_of c) (number_of c) y.named y.inside
                          (subst (λ d. is_among p.rows d ≡ true) y.is z.placed) (l.seats c there)
                          (l.numbered c there) few))
                    ]
              ];
            }
        parts before later x u (in_second more e s) =
            let is = of_look p at piece t h more later x s u in
            turned (sym is.0) (e ∙ ap (λ z. p.order ++ z) is.1 ∙ append_none p.order) is.2
          where
            append_none : (xs : List Placed) → xs ++ [] ≡ xs
            append_none [] = refl
            append_none (z ∷ xs) = ap (λ zs. z ∷ zs) (append_none xs)

            turned : ByLookup x ≡ piece → before ≡ p.order → later ≡ [] →
                Between (after setup closing p at piece) before later x
            turned e f g =
                let z = at_turn p at x (subst (Turn setup closing p at) (sym e) t) h in
                record {
                  look = z.look;
                  placed = (grows p at piece t h).rows x.place z.placed;
                  early = λ c i. z.early c (subst (In c) f i);
                  late = λ c i. elim (subst (In c) g i) [ ];
                }

    -- before the first turn no call is placed
    start : Shown (start_of setup.shape closing)
    start = record {
      goes = record {
        kept = kept_start setup closing;
        alone = alone_start setup closing (separate setup closing k w l);
        far =
            far_start law setup closing first (story setup closing k w l pre)
            (tells setup closing k w l law first pre m);
      };
      numbers = λ b i q n named o placed inside one few.
          let s = start_row setup closing k w l (k.row_at b i) placed in
          let is = w.once b s.0 i 0 named s.1 o (omega arith) s.3 in
          absurd (omega (arith, one, few, ap (λ z. app z i q) is.0, ap (λ z. app s.0 z q) is.1, r.none s.0 q s.1 s.2));
      updates = λ c i. elim i [ ];
      looks = λ before later x e. none before later x e;
    }
      where
        none : {P : Type 0} → (before later : List Placed) (x : Record) → [] ≡ before ++ answered x ∷ later → P
        none [] later x e = cc
        none (b ∷ before) later x e = cc

    -- so it is in the whole order
    pub shown : Shown (placing_of setup.shape closing)
    shown = placing_keeps setup closing Shown step start
