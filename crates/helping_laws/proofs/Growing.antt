-- The line of the root and of each bucket only grows at its front.
use Rattle.std.proofs.Common.{◌≡◌, ℕ, zero, suc, ◌+◌, ◌-◌, ◌<◌, ◌≤◌, ◌⊎◌, true, List, [], ◌∷◌, length, get_or, Option, Some, None, inl, inr, refl, sym, ap, ◌∙◌, subst, arith, add-one}
use Rattle.std.specs.Prelude.{◌++◌}
use Rattle.plain_map.specs.declared.full.FullKind.TheVariants.{BucketRows}
use Rattle.word_rows.specs.Shape.{count_of}
use Rattle.word_rows.specs.BucketWords.{bucket_of_words}
use Rattle.word_rows.specs.Memory.{Shows}
use Rattle.table_model.specs.Setup.{Setup}
use Rattle.table_model.specs.Reading.{line, bucket_line, bucket_row, bucket_rows, directory_rows, named_buckets, row_of}
use Rattle.table_model.specs.Promises.{Among}
use Rattle.table_model.specs.Rows.{LinesGrow}
use Rattle.run_invariant.proofs.Invariant.{Common, Shared, Descends}
use Rattle.list_laws.proofs.Lists.{In, Once}
use Rattle.closed_laws.proofs.Lines.{pigeons, line_none, line_keeps}
use Rattle.closed_laws.proofs.Read
use Rattle.helping_laws.proofs.ByPlace
use Rattle.helping_laws.proofs.Cuts.{down, longer, same_down}
use Rattle.helping_laws.proofs.Extends.{Extends}
use Rattle.helping_laws.proofs.Stays.{moments, row_stays}
use Rattle.list_laws.proofs.Places.{number_in}

-- ---- lines that come to an end

-- so many rows are enough
abbrev pub Ends : (ℕ → Option ℕ) → ℕ → Option ℕ → Type 0
Ends base n None = Unit {0}
Ends base zero (Some r) = ⊥
Ends base (suc n) (Some r) = Ends base n (base r)

-- then more fuel adds nothing
ends_more : (base : ℕ → Option ℕ) (n m : ℕ) (o : Option ℕ) → Ends base n o → n ≤ m → line base m o ≡ line base n o
ends_more base n m None e h = line_none base m ∙ sym (line_none base n)
ends_more base zero m (Some r) e h = absurd e
ends_more base (suc n) zero (Some r) e h = absurd (omega (arith, h))
ends_more base (suc n) (suc m) (Some r) e h = ap (λ xs. r ∷ xs) (ends_more base n m (base r) e (omega (arith, h)))

-- or one more is used
ends_or_long : (base : ℕ → Option ℕ) (n : ℕ) (o : Option ℕ) → Ends base n o ⊎ (length (line base (suc n) o) ≡ suc n)
ends_or_long base n None = inl tt
ends_or_long base zero (Some r) = inr refl
ends_or_long base (suc n) (Some r) = elim (ends_or_long base n (base r)) [ inl e ↦ inl e | inr l ↦ inr (ap suc l) ]

-- so two places of a list that has each once are one
once_at : (xs : List ℕ) → Once xs → (i j : ℕ) → i < length xs → j < length xs → get_or xs i 0 ≡ get_or xs j 0 → i ≡ j
once_at [] o i j h l e = absurd (omega (arith, h))
once_at (x ∷ xs) o zero zero h l e = refl
once_at (x ∷ xs) o zero (suc j) h l e = absurd (o.0 (subst (λ y. In y xs) (sym e) (number_in xs j (omega (arith, l)))))
once_at (x ∷ xs) o (suc i) zero h l e = absurd (o.0 (subst (λ y. In y xs) e (number_in xs i (omega (arith, h)))))
once_at (x ∷ xs) o (suc i) (suc j) h l e = ap suc (once_at xs o.1 i j (omega (arith, h)) (omega (arith, l)) e)

-- lines by two tables that agree on what is met
same_line : (base other : ℕ → Option ℕ) (P : ℕ → Type 0) → ((r : ℕ) → P r → base r ≡ other r) →
    ((r s : ℕ) → P r → base r ≡ Some s → P s) → (n row : ℕ) → P row → line base n (Some row) ≡ line other n (Some row)
same_line base other P same keeps zero row p = refl
same_line base other P same keeps (suc n) row p = go (base row) refl (λ s. same_line base other P same keeps n s)
  where
    go : (o : Option ℕ) → base row ≡ o → ((s : ℕ) → P s → line base n (Some s) ≡ line other n (Some s)) →
        row ∷ line base n (base row) ≡ row ∷ line other n (other row)
    go None e rest = ap (λ q. row ∷ line base n q) e
        ∙ ap (λ xs. row ∷ xs) (line_none base n ∙ sym (line_none other n))
        ∙ ap (λ q. row ∷ line other n q) (sym e ∙ same row p)
    go (Some s) e rest = ap (λ q. row ∷ line base n q) e ∙ ap (λ xs. row ∷ xs) (rest s (keeps row s p e))
        ∙ ap (λ q. row ∷ line other n q) (sym e ∙ same row p)

-- from a place of a history down to an earlier one: what is passed, and the fuel that is left
pub record Walk (base : ℕ → Option ℕ) (f : ℕ → ℕ) (i fuel from : ℕ) : Type 0 where
  pub newer : List ℕ
  pub rest : ℕ
  pub less : rest ≤ fuel
  pub ends : Ends base rest (Some (f i))
  pub is : line base fuel (Some (f from)) ≡ newer ++ line base rest (Some (f i))

-- one row more is passed
walk_more : (base : ℕ → Option ℕ) (f : ℕ → ℕ) (i fuel from : ℕ) → base (f (suc from)) ≡ Some (f from) →
    Walk base f i fuel from → Walk base f i (suc fuel) (suc from)
walk_more base f i fuel from next w = record {
  newer = f (suc from) ∷ w.newer;
  rest = w.rest;
  less = omega (arith, w.less);
  ends = w.ends;
  is = ap (λ q. f (suc from) ∷ line base fuel q) next ∙ ap (λ xs. f (suc from) ∷ xs) w.is;
}

-- and so from each place
walk : (base : ℕ → Option ℕ) (f : ℕ → ℕ) (i k fuel : ℕ) → ((j : ℕ) → j < k + i → base (f (j + 1)) ≡ Some (f j)) →
    Ends base fuel (Some (f (k + i))) → Walk base f i fuel (k + i)
walk base f i zero fuel bases e =
    let same : zero + i ≡ i = omega arith in
    record {
      newer = [];
      rest = fuel;
      less = omega arith;
      ends = subst (λ n. Ends base fuel (Some (f n))) same e;
      is = ap (λ n. line base fuel (Some (f n))) same;
    }
walk base f i (suc k) zero bases e = absurd (let up : suc k + i ≡ suc (k + i) = omega arith in
    subst (λ n. Ends base zero (Some (f n))) up e)
walk base f i (suc k) (suc fuel) bases e =
    let up : suc (k + i) ≡ suc k + i = omega arith in
    let next : base (f (suc (k + i))) ≡ Some (f (k + i)) =
    ap (λ n. base (f n)) (sym (add-one (k + i))) ∙ bases (k + i) (omega arith) in
    let before = walk base f i k fuel (λ j h. bases j (omega (arith, h)))
    (subst (Ends base fuel) next (subst (λ n. Ends base (suc fuel) (Some (f n))) (sym up) e)) in
    subst (Walk base f i (suc fuel)) up (walk_more base f i fuel (k + i) next before)

-- ---- the line of a bucket comes to an end

module _ (setup : Setup) (words : List ℕ) (c : Common) (shows : Shows setup.shape words c.memory)
    (s : Shared setup c) (t : Descends setup c) where
  -- the row that a row was made from
  abbrev base_of : ℕ → Option ℕ
  base_of row = (bucket_row setup.shape words row).base

  -- what a row comes from
  abbrev IsEarlier : ℕ → ℕ → ℕ → Type 0
  IsEarlier = Read.Earlier setup words (ByPlace.book setup words c shows s t) (ByPlace.told setup words c shows s t)

  -- a row itself
  earlier_self : (b i : ℕ) → c.named b ≡ true → i ≤ c.top b → IsEarlier b i (c.row_at b i)
  earlier_self b i n o = record {
    published = record { bucket = b; at = i; named = n; inside = o; is = refl };
    before = inl (refl, omega arith);
  }

  -- all of its line
  earlier_line : (fuel b i x : ℕ) → c.named b ≡ true → i ≤ c.top b → In x (line base_of fuel (Some (c.row_at b i))) →
      IsEarlier b i x
  earlier_line fuel b i x n o m = line_keeps base_of (IsEarlier b i)
      (λ r q e h. Read.row_or_parent setup words (ByPlace.book setup words c shows s t)
      (ByPlace.told setup words c shows s t) b i r q e h) fuel (c.row_at b i) x (earlier_self b i n o) m

  -- a row does not stand behind itself
  not_behind : (fuel b i : ℕ) → c.named b ≡ true → i ≤ c.top b →
      In (c.row_at b i) (line base_of fuel (base_of (c.row_at b i))) → ⊥
  not_behind fuel b zero n o m = go (base_of (c.row_at b 0)) refl m
    where
      go : (q : Option ℕ) → base_of (c.row_at b 0) ≡ q → In (c.row_at b 0) (line base_of fuel q) → ⊥
      go None e m = elim (subst (In (c.row_at b 0)) (line_none base_of fuel) m) [ ]
      go (Some r) e m =
          let x = ByPlace.first_made_from setup words c shows s t b r n e in
          let l = earlier_line fuel (c.from b) (c.top (c.from b)) (c.row_at b 0) x.0 (omega arith)
          (subst (λ y. In (c.row_at b 0) (line base_of fuel (Some y))) x.1 m) in
          let same = (s.rows.once b l.published.bucket 0 l.published.at n l.published.named o l.published.inside
          l.published.is).0 in
          let less = x.2.shallow in
          elim l.before [
            | inl y ↦ omega (arith, less, ap c.deep (same ∙ y.0))
            | inr y ↦ omega
                (arith, less, y, ap c.deep same)
          ]
  not_behind fuel b (suc i) n o m = go (base_of (c.row_at b (suc i))) refl m
    where
      go : (q : Option ℕ) → base_of (c.row_at b (suc i)) ≡ q → In (c.row_at b (suc i)) (line base_of fuel q) → ⊥
      go None e m = elim (subst (In (c.row_at b (suc i))) (line_none base_of fuel) m) [ ]
      go (Some r) e m =
          let is = ByPlace.made_from setup words c shows s t b i r n (omega (arith, o))
          (ap (λ j. base_of (c.row_at b j)) (add-one i) ∙ e) in
          let l = earlier_line fuel b i (c.row_at b (suc i)) n (omega (arith, o))
          (subst (λ y. In (c.row_at b (suc i)) (line base_of fuel (Some y))) is m) in
          let same = s.rows.once b l.published.bucket (suc i) l.published.at n l.published.named o l.published.inside
          l.published.is in
          elim l.before [ inl y ↦ omega (arith, y.1, same.1) | inr y ↦ omega (arith, y, ap c.deep same.0) ]

  -- so each row stands once in a line
  line_is_once : (fuel b i : ℕ) → c.named b ≡ true → i ≤ c.top b → Once (line base_of fuel (Some (c.row_at b i)))
  line_is_once zero b i n o = tt
  line_is_once (suc fuel) b i n o = (
    not_behind fuel b i n o,
    go (base_of (c.row_at b i)) refl (λ b i n o. line_is_once fuel b i n o),
  )
    where
      go : (q : Option ℕ) → base_of (c.row_at b i) ≡ q →
          ((b i : ℕ) → c.named b ≡ true → i ≤ c.top b → Once (line base_of fuel (Some (c.row_at b i)))) →
          Once (line base_of fuel q)
      go None e rest = subst Once (sym (line_none base_of fuel)) tt
      go (Some r) e rest =
          let x = Read.row_or_parent setup words (ByPlace.book setup words c shows s t)
          (ByPlace.told setup words c shows s t) b i (c.row_at b i) r (earlier_self b i n o) e in
          subst (λ y. Once (line base_of fuel (Some y))) (sym x.published.is)
          (rest x.published.bucket x.published.at x.published.named x.published.inside)

  -- all rows are enough
  pub line_ends : (b i : ℕ) → c.named b ≡ true → i ≤ c.top b →
      Ends base_of (count_of setup.shape BucketRows) (Some (c.row_at b i))
  line_ends b i n o =
      let all = count_of setup.shape BucketRows in
      elim (ends_or_long base_of all (Some (c.row_at b i))) [
        | inl e ↦ e
        | inr long ↦
            let xs = line base_of (suc all) (Some (c.row_at b i)) in
            absurd (omega (
              arith,
              pigeons all (suc all) (λ j. get_or xs j 0)
                  (λ j h. let x = earlier_line (suc all) b i (get_or xs j 0) n o
                  (number_in xs j (omega (arith, h, long))) in
                  omega (
                    arith,
                    x.published.is,
                    s.rows.within x.published.bucket x.published.at x.published.named
                        x.published.inside,
                  ))
                  (λ j k h l e. once_at xs (line_is_once (suc all) b i n o) j k (omega (arith, h, long))
                  (omega (arith, l, long)) e),
            ))
      ]

-- ---- two moments

module _ (setup : Setup) (first second : List ℕ) (c d : Common) (was : Shows setup.shape first c.memory)
    (now : Shows setup.shape second d.memory) (s : Shared setup c) (z : Shared setup d) (t : Descends setup c)
    (y : Descends setup d) (e : Extends c d) where
  -- the directory rows of the later moment go on with those of the earlier one
  pub directories_grow : (newer : List ℕ) × (directory_rows setup.shape second ≡ newer
      ++ directory_rows setup.shape first)
  directories_grow =
      let k = d.dir_top - c.dir_top in
      let end : k + c.dir_top ≡ d.dir_top = omega (arith, e.dir_up) in
      let more = longer d.dir_row c.dir_top k in (
        more.0,
        ByPlace.versions_down setup second d now z y ∙ ap (down d.dir_row) (sym end) ∙ more.1
            ∙ ap (λ xs. more.0 ++ xs) (same_down d.dir_row c.dir_row c.dir_top (λ v o. (e.dirs v o).0)
            ∙ sym (ByPlace.versions_down setup first c was s t)),
      )

  -- what a row was made from, at the earlier moment
  abbrev first_base : ℕ → Option ℕ
  first_base row = (bucket_row setup.shape first row).base

  -- and at the later one
  abbrev second_base : ℕ → Option ℕ
  second_base row = (bucket_row setup.shape second row).base

  -- a row that was published was made from what it was made from
  same_base : (row : ℕ) → ByPlace.Stood setup first c was s t row → second_base row ≡ first_base row
  same_base row x =
      ap (λ (w : List ℕ). (bucket_of_words setup.shape.settings w).base)
      (row_stays setup first second c d was now s z t y e row
      (subst (Among (bucket_rows setup.shape first)) (sym x.is)
      (ByPlace.among_rows setup first c was s t x.bucket x.at x.named x.inside))).1

  -- which was published
  stood_base : (row next : ℕ) → ByPlace.Stood setup first c was s t row → second_base row ≡ Some next →
      ByPlace.Stood setup first c was s t next
  stood_base row next x h =
      let r = Read.row_or_parent setup first (ByPlace.book setup first c was s t)
      (ByPlace.told setup first c was s t) x.bucket x.at row next
      (record {
        published = record {
          bucket = x.bucket;
          at = x.at;
          named = x.named;
          inside = x.inside;
          is = x.is;
        };
        before = inl (refl, omega arith);
      }) (sym (same_base row x) ∙ h) in
      record {
        bucket = r.published.bucket;
        at = r.published.at;
        named = r.published.named;
        inside = r.published.inside;
        is = r.published.is;
      }

  -- from the row in use down to the one that was in use, and on as before
  continues : (b from : ℕ) → c.named b ≡ true →
      Walk second_base (d.row_at b) (c.top b) (count_of setup.shape BucketRows) from →
      row_of setup.shape second b ≡ d.row_at b from →
      (newer : List ℕ) × (bucket_line setup.shape second (Some (row_of setup.shape second b)) ≡ newer
      ++ bucket_line setup.shape first (Some (row_of setup.shape first b)))
  continues b from n w last =
      let all = count_of setup.shape BucketRows in
      let word = ByPlace.word_is setup first c was s t b n in
      let old : d.row_at b (c.top b) ≡ row_of setup.shape first b = (e.rows b (c.top b) n (omega arith)).0 ∙ sym word in
      let stood : ByPlace.Stood setup first c was s t (row_of setup.shape first b) =
      record { bucket = b; at = c.top b; named = n; inside = omega arith; is = word } in
      let whole : line second_base w.rest (Some (d.row_at b (c.top b))) ≡ line second_base all
      (Some (d.row_at b (c.top b))) = sym (ends_more second_base w.rest all
      (Some (d.row_at b (c.top b))) w.ends w.less) in
      let there : line second_base all (Some (d.row_at b (c.top b))) ≡ line second_base all
      (Some (row_of setup.shape first b)) = ap (λ x. line second_base all (Some x)) old in
      let same : line second_base all (Some (row_of setup.shape first b)) ≡ line first_base all
      (Some (row_of setup.shape first b)) =
      same_line second_base first_base (ByPlace.Stood setup first c was s t) same_base stood_base all
      (row_of setup.shape first b) stood in
      (w.newer, ap (λ x. line second_base all (Some x)) last ∙ w.is ∙ ap (λ xs. w.newer ++ xs) (whole ∙ there ∙ same))

  -- the line of each bucket of the later moment goes on with that of the earlier one
  pub buckets_grow : (b : ℕ) → Among (named_buckets setup.shape first) b →
      (newer : List ℕ) × (bucket_line setup.shape second (Some (row_of setup.shape second b)) ≡ newer
      ++ bucket_line setup.shape first (Some (row_of setup.shape first b)))
  buckets_grow b among =
      let n = ByPlace.named_is setup first c was s t b among in
      let up = e.named_up b n in
      let k = d.top b - c.top b in
      let end : k + c.top b ≡ d.top b = omega (arith, up.3) in
      continues b (k + c.top b) n
      (walk second_base (d.row_at b) (c.top b) k (count_of setup.shape BucketRows)
      (λ j h. Read.base_is setup second (ByPlace.book setup second d now z y)
      (ByPlace.told setup second d now z y) b (j + 1) up.0 (omega (arith, h, end))
      ∙ y.bases b j up.0 (omega (arith, h, end)))
      (line_ends setup second d now z y b (k + c.top b) up.0 (omega (arith, end))))
      (ByPlace.word_is setup second d now z y b up.0 ∙ ap (d.row_at b) (sym end))

-- lines only grow at their front
pub lines_grow : LinesGrow
lines_grow setup events later run =
    let m = moments setup events later run in (
      directories_grow setup _ _ m.was.common m.now.common m.was.follows.shows m.now.follows.shows
          m.was.follows.shared m.now.follows.shared m.was.follows.descent m.now.follows.descent m.extends,
      buckets_grow setup _ _ m.was.common m.now.common m.was.follows.shows m.now.follows.shows m.was.follows.shared
          m.now.follows.shared m.was.follows.descent m.now.follows.descent m.extends,
    )
