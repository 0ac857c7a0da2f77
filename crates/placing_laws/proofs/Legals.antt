-- The order is legal, where the closed table tells such a story.
use Rattle.std.proofs.Common.{◌≡◌, ◌≢◌, ℕ, ◌+◌, ◌<◌, ◌≤◌, ◌⊎◌, true, cond, List, [], ◌∷◌, ◌++◌, Some, refl, inl, inr, sym, ap, ◌∙◌, subst, arith, eq-eqb, eqb-true}
use Rattle.std.specs.Prelude.{filter, ◌==◌}
use Rattle.std.specs.Option.{option_map_or}
use Rattle.std.specs.List.{list_all}
use Rattle.std.proofs.lemmas.Bool.{eqb-false, and_parts, cases_eq, cases_lt, cond_both, cond-true, cond-false, ne_eqb}
use Rattle.plain_map.specs.declared.keys.Key.{Key}
use Rattle.plain_map.specs.declared.keys.Pair.{Pair}
use Rattle.plain_map.specs.declared.rules.Rules.{Rules}
use Rattle.plain_map.specs.declared.records.Record.{Record}
use Rattle.plain_map.specs.Calls.{key_in}
use Rattle.plain_map.specs.PlainObject.{Sessions, map_after}
use Rattle.plain_map.specs.History.{Placed, answered, call_in, Legal, sessions_after}
use Rattle.plain_map.proofs.OrderLemmas.{Legal-append, sessions_after-append}
use Rattle.bucket_states.specs.Items.{prefix_of}
use Rattle.bucket_states.specs.Parts.{HoldsPart, OtherPartsStay}
use Rattle.table_model.specs.Setup.{Setup, rules_of}
use Rattle.table_model.specs.Reading.{bucket_row, directory_row, is_among}
use Rattle.table_model.specs.Order.{Closing, Piece, ByBucketRow, ByDirectoryRow, ByLookup, Placing, lookups_of, calls_in, first_rows, is_placed, is_done, has_base, is_next, start_of, placing_of, order_of}
use Rattle.list_laws.proofs.Lists.{In, all_at, in_at, filter_in, in_right}
use Rattle.placing_laws.proofs.Turns.{Turn, after, turn_grows, placing_keeps}
use Rattle.placing_laws.proofs.Stuck.{Kept, kept_step, kept_start, among_in}
use Rattle.placing_laws.proofs.Alone.{Alone, alone_step, alone_start, Separate, among_both}
use Rattle.placing_laws.proofs.Story.{Story, Suits, Holds, Tells, leads_or_retired}

-- one more row of a bucket
abbrev raised : (ℕ → ℕ) → ℕ → ℕ → ℕ → ℕ
raised at b n c = cond (c == b) n (at c)

-- what holds of the new number at the bucket, and of the old ones elsewhere, holds
raised_each : (at : ℕ → ℕ) (b n c : ℕ) (P : ℕ → Type 0) → (c ≡ b → P n) → (c ≢ b → P (at c)) → P (raised at b n c)
raised_each at b n c P same other = cond_both (c == b) n (at c) P (λ e. same (eqb-true c b e))
    (λ e. other (eqb-false c b e))

-- a part that no call is about stays
parts_stay : OtherPartsStay → (rules : Rules) (prefix depth : ℕ) (items : List Pair) (calls : List Placed)
    (sessions : Sessions) →
    ((c : Placed) → In c calls → prefix_of rules depth (key_in (call_in c)) ≢ prefix) →
    HoldsPart rules prefix depth items sessions →
    HoldsPart rules prefix depth items (sessions_after rules sessions calls)
parts_stay law rules prefix depth items [] sessions n h = h
parts_stay law rules prefix depth items (c ∷ calls) sessions n h =
    parts_stay law rules prefix depth items calls (map_after rules sessions (call_in c)) (λ d i. n d (inr i))
    (law rules prefix depth items sessions (call_in c) h (n c (inl refl)))

module _ (law : OtherPartsStay) (setup : Setup) (closing : Closing) (first : Sessions) (s : Story)
    (tells : Tells setup closing first s) where
  -- what is held after the placed calls
  abbrev pub held : Placing → Sessions
  held p = sessions_after (rules_of setup) first p.order

  -- the key left the bucket by a placed directory row
  abbrev Retired : ℕ → ℕ → Key → Type 0
  Retired version b key = (v : ℕ) × (v < version) × (s.lead v key ≡ b) × (s.lead (v + 1) key ≢ s.lead v key)

  -- how far the placing is: so many directory rows, and of each bucket so many rows
  pub record Far (p : Placing) : Type 0 where
    pub version : ℕ
    pub at : ℕ → ℕ
    pub inside : version ≤ s.dir_top
    pub dirs : (v : ℕ) → v ≤ s.dir_top → is_among p.directories (s.dir_row v) ≡ true → v ≤ version
    pub dirs_there : (v : ℕ) → v ≤ version → is_among p.directories (s.dir_row v) ≡ true
    pub rows : (b i : ℕ) → s.named b ≡ true → i ≤ s.top b → is_among p.rows (s.row_at b i) ≡ true →
        (s.born b ≤ version) × (i ≤ at b)
    pub rows_there : (b i : ℕ) → s.named b ≡ true → s.born b ≤ version → i ≤ at b →
        is_among p.rows (s.row_at b i) ≡ true
    pub within : (b : ℕ) → s.named b ≡ true → at b ≤ s.top b
    pub unborn : (b : ℕ) → s.named b ≡ true → version < s.born b → at b ≡ 0
    pub retired : (v : ℕ) (key : Key) → v < version → s.lead (v + 1) key ≢ s.lead v key →
        at (s.lead v key) ≡ s.top (s.lead v key)
    pub looked : (r : Record) (b i : ℕ) → In r (lookups_of closing) → s.named b ≡ true → i ≤ s.top b →
        r.place ≡ s.row_at b i → (i < at b) ⊎ Retired version b (key_in r.call) →
        is_placed p.order r.seat r.number ≡ true
    pub holds : (key : Key) → Holds setup s (s.lead version key) (at (s.lead version key)) (held p)
    pub legal : Legal (rules_of setup) first p.order

  -- all that each turn keeps
  pub record Goes (p : Placing) : Type 0 where
    pub kept : Kept setup closing p
    pub alone : Alone setup closing p
    pub far : Far p

  -- one more piece adds its calls to what is held
  longer_held : (p : Placing) (at : ℕ) (piece : Piece) →
      held (after setup closing p at piece) ≡ sessions_after (rules_of setup) (held p)
      (calls_in setup.shape closing piece)
  longer_held p at piece = sessions_after-append (rules_of setup) first p.order (calls_in setup.shape closing piece)

  -- the lookups of a row that is done are placed
  pub done_row : (p : Placing) (row : ℕ) → is_done closing p (Some row) ≡ true → is_among p.rows row ≡ true
  done_row p row h = (and_parts (is_among p.rows row)
      (list_all (λ (r : Record). is_placed p.order r.seat r.number)
      (filter (λ (r : Record). r.place == row) (lookups_of closing))) h).0

  -- the lookups of a row that is done are placed
  done_look : (p : Placing) (row : ℕ) (r : Record) → is_done closing p (Some row) ≡ true →
      In r (lookups_of closing) → r.place ≡ row → is_placed p.order r.seat r.number ≡ true
  done_look p row r h i e =
      all_at (λ (r : Record). is_placed p.order r.seat r.number)
      (filter (λ (r : Record). r.place == row) (lookups_of closing)) r
      (and_parts (is_among p.rows row) (list_all (λ (r : Record). is_placed p.order r.seat r.number)
      (filter (λ (r : Record). r.place == row) (lookups_of closing))) h).1
      (filter_in (λ (r : Record). r.place == row) (lookups_of closing) r i (eq-eqb r.place row e))

  -- a piece has its turn when its base is there
  pub based : (p : Placing) (at : ℕ) (piece : Piece) → Turn setup closing p at piece →
      has_base setup.shape closing p piece ≡ true
  based p at piece t = (and_parts (has_base setup.shape closing p piece)
      (list_all (is_next setup.shape p.order) (calls_in setup.shape closing piece)) t.ready).0

  -- a list is empty, or it has a member
  none_in : {A : Type 0} → (xs : List A) → xs ≡ [] ⊎ ((x : A) × In x xs)
  none_in [] = inl refl
  none_in (x ∷ xs) = inr (x, inl refl)

  -- ---- an answered lookup
  far_look : (p : Placing) (at : ℕ) (r : Record) → Turn setup closing p at (ByLookup r) → Goes p →
      Far (after setup closing p at (ByLookup r))
  far_look p at r t g =
      let f = g.far in
      let grows = turn_grows setup closing p at (ByLookup r) in
      let member = in_at p.left at (ByLookup r) t.stands in
      let is_look = tells.look_pieces r (g.kept.known (ByLookup r) member) in
      let look = tells.looks r is_look in
      let b = look.bucket in
      let key = key_in r.call in
      let row = f.rows b look.at look.named look.inside
      (subst (λ x. is_among p.rows x ≡ true) look.is (based p at (ByLookup r) t)) in
      let fresh : is_placed p.order r.seat r.number ≡ true → ⊥ =
      (g.alone.fresh (ByLookup r) member).calls (answered r) r.seat r.number (inl refl) refl refl in
      let here : look.at ≡ f.at b = elim (cases_lt look.at (f.at b)) [
        | inl l ↦ absurd (fresh (f.looked r b look.at is_look look.named look.inside look.is (inl l)))
        | inr m ↦ omega (arith, m, row.1)
      ] in
      let leads : s.lead f.version key ≡ b =
      elim (leads_or_retired setup s tells.leading key b f.version look.named row.0 look.suits) [
        | inl e ↦ e
        | inr q ↦ absurd (fresh (f.looked r b look.at is_look look.named look.inside look.is (inr q)))
      ] in
      let holds : Holds setup s b look.at (held p) =
      subst (λ i. Holds setup s b i (held p)) (sym here)
      (subst (λ c. Holds setup s c (f.at c) (held p)) leads (f.holds key)) in
      let stays : held (after setup closing p at (ByLookup r)) ≡ held p =
      longer_held p at (ByLookup r) ∙ look.nothing (held p) in
      record {
        version = f.version;
        at = f.at;
        inside = f.inside;
        dirs = λ v o h. elim (among_both setup closing p.directories [] (s.dir_row v) h)
            [ inl e ↦ f.dirs v o e | inr n ↦ elim n [ ] ];
        dirs_there = λ v o. grows.directories (s.dir_row v) (f.dirs_there v o);
        rows = λ c i n o h. elim (among_both setup closing p.rows [] (s.row_at c i) h)
            [ inl e ↦ f.rows c i n o e | inr m ↦ elim m [ ] ];
        rows_there = λ c i n o m. grows.rows (s.row_at c i) (f.rows_there c i n o m);
        within = f.within;
        unborn = f.unborn;
        retired = f.retired;
        looked = λ q c i l n o e w. grows.calls q.seat q.number (f.looked q c i l n o e w);
        holds = λ k. subst (Holds setup s (s.lead f.version k) (f.at (s.lead f.version k))) (sym stays) (f.holds k);
        legal = Legal-append (rules_of setup) first p.order (answered r ∷ []) f.legal (look.reply (held p) holds, tt);
      }

  -- ---- a bucket row
  far_row : (p : Placing) (at : ℕ) (row : ℕ) → Turn setup closing p at (ByBucketRow row) → Goes p →
      Far (after setup closing p at (ByBucketRow row))
  far_row p at row t g =
      let f = g.far in
      let piece = ByBucketRow row in
      let calls = calls_in setup.shape closing piece in
      let grows = turn_grows setup closing p at piece in
      let member = in_at p.left at piece t.stands in
      let r = tells.rows row (g.kept.known piece member) in
      let b = r.bucket in
      let i = r.before in
      let done : is_done closing p (Some (s.row_at b i)) ≡ true =
      subst (λ o. is_done closing p o ≡ true) r.base (based p at piece t) in
      let base = f.rows b i r.named (omega (arith, r.inside)) (done_row p (s.row_at b i) done) in
      let here : f.at b ≡ i = elim (cases_lt i (f.at b)) [
        | inl l ↦ absurd ((g.alone.fresh piece member).rows row (inl refl)
            (subst (λ x. is_among p.rows x ≡ true) (sym r.is)
            (f.rows_there b (i + 1) r.named base.0 (omega (arith, l)))))
        | inr m ↦ omega (arith, m, base.1)
      ] in
      let leads : (key : Key) → Suits setup s b key → s.lead f.version key ≡ b =
      λ key suits. elim (leads_or_retired setup s tells.leading key b f.version r.named base.0 suits) [
        | inl e ↦ e
        | inr q ↦ let full = f.retired q.0 key q.1 q.3 in
            absurd (omega (arith, here, r.inside, full, ap f.at q.2, ap s.top q.2))
      ] in
      let before : (key : Key) → s.lead f.version key ≡ b → Holds setup s b i (held p) =
      λ key e. subst (λ n. Holds setup s b n (held p)) here
      (subst (λ c. Holds setup s c (f.at c) (held p)) e (f.holds key)) in
      record {
        version = f.version;
        at = raised f.at b (i + 1);
        inside = f.inside;
        dirs = λ v o h. elim (among_both setup closing p.directories [] (s.dir_row v) h)
            [ inl e ↦ f.dirs v o e | inr n ↦ elim n [ ] ];
        dirs_there = λ v o. grows.directories (s.dir_row v) (f.dirs_there v o);
        rows = λ c j n o h. elim (among_both setup closing p.rows (row ∷ []) (s.row_at c j) h) [
          | inl e ↦ let old = f.rows c j n o e in (
            old.0,
            raised_each f.at b (i + 1) c (λ m. j ≤ m) (λ q. omega (arith, old.1, ap f.at q, here))
                (λ q. old.1),
          )
          | inr m ↦ elim m [
            | inl e ↦ let is = tells.leading.row_once c b j (i + 1) n r.named o
                (omega (arith, r.inside)) (e ∙ r.is) in (
                  omega (arith, ap s.born is.0, base.0),
                  raised_each f.at b (i + 1) c (λ m. j ≤ m) (λ q. omega (arith, is.1)) (λ q. absurd (q is.0)),
                )
            | inr x ↦ elim x [ ]
          ]
        ];
        rows_there = λ c j n o m. elim (cases_eq c b) [
          | inr d ↦ grows.rows (s.row_at c j)
              (f.rows_there c j n o (subst (λ x. j ≤ x) (cond-false (c == b) (i + 1) (f.at c) (ne_eqb c b d)) m))
          | inl e ↦ let few : j ≤ i + 1 = subst (λ x. j ≤ x) (cond-true (c == b) (i + 1) (f.at c) (eq-eqb c b e)) m in
              elim (cases_lt i j) [
                | inr l ↦ grows.rows (s.row_at c j) (f.rows_there c j n o (omega (arith, l, here, ap f.at e)))
                | inl l ↦ let last : j ≡ i + 1 = omega (arith, l, few) in
                    let same : s.row_at c j ≡ row = ap (λ x. s.row_at x j) e ∙ ap (s.row_at b) last ∙ sym r.is in
                    among_in (p.rows ++ row ∷ []) (s.row_at c j) (in_right (s.row_at c j) p.rows (row ∷ []) (inl same))
              ]
        ];
        within = λ c n. raised_each f.at b (i + 1) c (λ m. m ≤ s.top c) (λ e. omega (arith, r.inside, ap s.top e))
            (λ d. f.within c n);
        unborn = λ c n o. raised_each f.at b (i + 1) c (λ m. m ≡ 0)
            (λ e. absurd (omega (arith, o, base.0, ap s.born e))) (λ d. f.unborn c n o);
        retired = λ v key l n. raised_each f.at b (i + 1) (s.lead v key) (λ m. m ≡ s.top (s.lead v key))
            (λ e. absurd (omega (arith, f.retired v key l n, ap f.at e, ap s.top e, here, r.inside)))
            (λ d. f.retired v key l n);
        looked = λ q c j l n o e w. elim w [
          | inr x ↦ grows.calls q.seat q.number (f.looked q c j l n o e (inr x))
          | inl m ↦ elim (cases_eq c b) [
            | inr d ↦ grows.calls q.seat q.number
                (f.looked q c j l n o e (inl (subst (λ x. j < x)
                (cond-false (c == b) (i + 1) (f.at c) (ne_eqb c b d)) m)))
            | inl x ↦ let few : j < i + 1 = subst (λ y. j < y) (cond-true (c == b) (i + 1) (f.at c) (eq-eqb c b x)) m in
                elim (cases_lt j i) [
                  | inl y ↦ grows.calls q.seat q.number
                      (f.looked q c j l n o e (inl (omega (arith, y, here, ap f.at x))))
                  | inr y ↦ let last : j ≡ i = omega (arith, few, y) in
                      grows.calls q.seat q.number
                      (done_look p (s.row_at b i) q done l (e ∙ ap (λ z. s.row_at z j) x ∙ ap (s.row_at b) last))
                ]
          ]
        ];
        holds = λ key. subst (Holds setup s (s.lead f.version key) (raised f.at b (i + 1) (s.lead f.version key)))
            (sym (longer_held p at piece))
            (raised_each f.at b (i + 1) (s.lead f.version key)
            (λ n. Holds setup s (s.lead f.version key) n (sessions_after (rules_of setup) (held p) calls))
            (λ e. subst (λ c. Holds setup s c (i + 1) (sessions_after (rules_of setup) (held p) calls)) (sym e)
            (r.fold (held p) (before key e)).0)
            (λ d. parts_stay law (rules_of setup) (s.pre (s.lead f.version key)) (s.deep (s.lead f.version key))
            (s.items_at (s.lead f.version key) (f.at (s.lead f.version key))) calls (held p)
            (λ c m suits. d (sym (tells.leading.led f.version key (key_in (call_in c)) f.inside suits)
            ∙ leads (key_in (call_in c)) (r.keys c m))) (f.holds key)));
        legal = Legal-append (rules_of setup) first p.order calls f.legal (elim (none_in calls) [
          | inl e ↦ subst (Legal (rules_of setup) (held p)) (sym e) tt
          | inr c ↦ (r.fold (held p) (before (key_in (call_in c.0)) (leads (key_in (call_in c.0)) (r.keys c.0 c.1)))).1
        ]);
      }

  -- ---- a directory row
  far_dir : (p : Placing) (at : ℕ) (row : ℕ) → Turn setup closing p at (ByDirectoryRow row) → Goes p →
      Far (after setup closing p at (ByDirectoryRow row))
  far_dir p at row t g =
      let f = g.far in
      let piece = ByDirectoryRow row in
      let calls = calls_in setup.shape closing piece in
      let firsts = first_rows setup.shape closing.words row in
      let grows = turn_grows setup closing p at piece in
      let member = in_at p.left at piece t.stands in
      let r = tells.dirs row (g.kept.known piece member) in
      let v = r.before in
      let parts = and_parts (option_map_or (is_among p.directories)
      (directory_row setup.shape closing.words row).base true)
      (list_all (λ x. is_done closing p (bucket_row setup.shape closing.words x).base) firsts)
      (based p at piece t) in
      let from : is_among p.directories (s.dir_row v) ≡ true =
      subst (λ o. option_map_or (is_among p.directories) o true ≡ true) r.base parts.0 in
      let low : v ≤ f.version = f.dirs v (omega (arith, r.inside)) from in
      let here : f.version ≡ v = elim (cases_lt v f.version) [
        | inl l ↦ absurd ((g.alone.fresh piece member).directories row (inl refl)
            (subst (λ x. is_among p.directories x ≡ true) (sym r.is) (f.dirs_there (v + 1) (omega (arith, l)))))
        | inr m ↦ omega (arith, m, low)
      ] in
      -- what the replaced bucket of a key has
      let done : (key : Key) → s.lead (v + 1) key ≢ s.lead v key →
      is_done closing p (Some (s.row_at (s.lead v key) (s.top (s.lead v key)))) ≡ true = λ key n.
      subst (λ o. is_done closing p o ≡ true) (r.bases key n)
      (all_at (λ x. is_done closing p (bucket_row setup.shape closing.words x).base) firsts
      (s.row_at (s.lead (v + 1) key) 0) parts.1
      (r.all_firsts (s.lead (v + 1) key) (tells.leading.there (v + 1) key (omega (arith, r.inside)))
      (tells.leading.newborn v key r.inside n))) in
      let full : (key : Key) → s.lead (v + 1) key ≢ s.lead v key → f.at (s.lead v key) ≡ s.top (s.lead v key) = λ key n.
      let there = tells.leading.there v key (omega (arith, r.inside)) in
      omega (
        arith,
        f.within (s.lead v key) there,
        (f.rows (s.lead v key) (s.top (s.lead v key)) there (omega arith)
            (done_row p (s.row_at (s.lead v key) (s.top (s.lead v key))) (done key n))).1,
      ) in
      let before : (key : Key) → Holds setup s (s.lead v key) (f.at (s.lead v key)) (held p) =
      λ key. subst (λ u. Holds setup s (s.lead u key) (f.at (s.lead u key)) (held p)) here (f.holds key) in
      let fold = r.fold (held p) (λ key n. subst (λ i. Holds setup s (s.lead v key) i (held p)) (full key n)
      (before key)) in
      record {
        version = v + 1;
        at = f.at;
        inside = omega (arith, r.inside);
        dirs = λ u o h. elim (among_both setup closing p.directories (row ∷ []) (s.dir_row u) h) [
          | inl e ↦ omega (arith, f.dirs u o e, here)
          | inr m ↦ elim m [
            | inl e ↦ omega
                (arith, tells.leading.dir_once u (v + 1) o (omega (arith, r.inside)) (e ∙ r.is))
            | inr x ↦ elim x [ ]
          ]
        ];
        dirs_there = λ u o. elim (cases_lt v u) [
          | inr l ↦ grows.directories (s.dir_row u) (f.dirs_there u (omega (arith, l, here)))
          | inl l ↦ let last : u ≡ v + 1 = omega (arith, l, o) in
              among_in (p.directories ++ row ∷ []) (s.dir_row u)
              (in_right (s.dir_row u) p.directories (row ∷ []) (inl (ap s.dir_row last ∙ sym r.is)))
        ];
        rows = λ c j n o h. elim (among_both setup closing p.rows firsts (s.row_at c j) h) [
          | inl e ↦ let old = f.rows c j n o e in (omega (arith, old.0, here), old.1)
          | inr m ↦ let new = r.firsts (s.row_at c j) m in
              let is = tells.leading.row_once c new.bucket j 0 n new.named o (omega arith) new.is in
              (omega (arith, ap s.born is.0, new.born), omega (arith, is.1))
        ];
        rows_there = λ c j n o m. elim (cases_lt v (s.born c)) [
          | inr l ↦ grows.rows (s.row_at c j) (f.rows_there c j n (omega (arith, l, here)) m)
          | inl l ↦ let none : j ≡ 0 = omega (arith, m, f.unborn c n (omega (arith, l, here))) in
              among_in (p.rows ++ firsts) (s.row_at c j)
              (in_right (s.row_at c j) p.rows firsts
              (subst (λ x. In (s.row_at c x) firsts) (sym none) (r.all_firsts c n (omega (arith, l, o)))))
        ];
        within = f.within;
        unborn = λ c n o. f.unborn c n (omega (arith, o, here));
        retired = λ u key l n. elim (cases_eq u v) [
          | inr d ↦ f.retired u key (omega (arith, l, here, d)) n
          | inl e ↦ subst (λ x. f.at (s.lead x key) ≡ s.top (s.lead x key)) (sym e)
              (full key (subst (λ x. s.lead (x + 1) key ≢ s.lead x key) e n))
        ];
        looked = λ q c j l n o e w. grows.calls q.seat q.number (elim w [
          | inl m ↦ f.looked q c j l n o e (inl m)
          | inr x ↦ elim (cases_eq x.0 v) [
            | inr d ↦ f.looked q c j l n o e (inr (x.0, omega (arith, x.1, here, d), x.2, x.3))
            | inl y ↦
                let key = key_in q.call in
                let changed : s.lead (v + 1) key ≢ s.lead v key =
                subst (λ u. s.lead (u + 1) key ≢ s.lead u key) y x.3 in
                let was : s.lead v key ≡ c = subst (λ u. s.lead u key ≡ c) y x.2 in
                elim (cases_lt j (f.at c)) [
                  | inl z ↦ f.looked q c j l n o e (inl z)
                  | inr z ↦ let last : j ≡ s.top c = omega (arith, z, o, full key changed, ap f.at was, ap s.top was) in
                      done_look p (s.row_at (s.lead v key) (s.top (s.lead v key))) q (done key changed) l
                      (e ∙ ap (s.row_at c) last ∙ ap (λ u. s.row_at u (s.top u)) (sym was))
                ]
          ]
        ]);
        holds = λ key. subst (Holds setup s (s.lead (v + 1) key) (f.at (s.lead (v + 1) key)))
            (sym (longer_held p at piece)) (elim (cases_eq (s.lead (v + 1) key) (s.lead v key)) [
              | inr n ↦ let new : f.at (s.lead (v + 1) key) ≡ 0 =
                  f.unborn (s.lead (v + 1) key) (tells.leading.there (v + 1) key (omega (arith, r.inside)))
                  (omega (arith, here, tells.leading.newborn v key r.inside n)) in
                  subst (λ i. Holds setup s (s.lead (v + 1) key) i (sessions_after (rules_of setup) (held p) calls))
                  (sym new) (fold.0 key n)
              | inl e ↦ parts_stay law (rules_of setup) (s.pre (s.lead (v + 1) key)) (s.deep (s.lead (v + 1) key))
                  (s.items_at (s.lead (v + 1) key) (f.at (s.lead (v + 1) key))) calls (held p)
                  (λ c m suits. r.keys c m (tells.leading.led (v + 1) key (key_in (call_in c))
                  (omega (arith, r.inside)) suits ∙ e
                  ∙ sym (tells.leading.led v key (key_in (call_in c)) (omega (arith, r.inside))
                  (subst (λ b. Suits setup s b (key_in (call_in c))) e suits))))
                  (subst (λ b. Holds setup s b (f.at b) (held p)) (sym e) (before key))
            ]);
        legal = Legal-append (rules_of setup) first p.order calls f.legal fold.1;
      }

  -- each turn keeps how far the placing is
  far_step : (p : Placing) (at : ℕ) (piece : Piece) → Turn setup closing p at piece → Goes p →
      Far (after setup closing p at piece)
  far_step p at (ByBucketRow row) t g = far_row p at row t g
  far_step p at (ByDirectoryRow row) t g = far_dir p at row t g
  far_step p at (ByLookup r) t g = far_look p at r t g

  -- each turn keeps all of it
  pub goes_step : (p : Placing) (at : ℕ) (piece : Piece) → Turn setup closing p at piece → Goes p →
      Goes (after setup closing p at piece)
  goes_step p at piece t g = record {
    kept = kept_step setup closing p at piece t g.kept;
    alone = alone_step setup closing p at piece t g.alone;
    far = far_step p at piece t g;
  }

  -- before the first turn the opening's rows are placed
  pub far_start : Far (start_of setup.shape closing)
  far_start = record {
    version = 0;
    at = λ b. 0;
    inside = omega arith;
    dirs = λ v o h. omega (arith, tells.start_dirs v o h);
    dirs_there = λ v o. let is : v ≡ 0 = omega (arith, o) in
        subst (λ u. is_among (start_of setup.shape closing).directories (s.dir_row u) ≡ true) (sym is) tells.dirs_start;
    rows = λ b i n o h. let is = tells.start_rows b i n o h in (omega (arith, is.0), omega (arith, is.1));
    rows_there = λ b i n o m. let is : i ≡ 0 = omega (arith, m) in
        subst (λ j. is_among (start_of setup.shape closing).rows (s.row_at b j) ≡ true) (sym is)
        (tells.rows_start b n (omega (arith, o)));
    within = λ b n. omega arith;
    unborn = λ b n o. refl;
    retired = λ v key l n. absurd (omega (arith, l));
    looked = λ r b i l n o e w. elim w [ inl m ↦ absurd (omega (arith, m)) | inr x ↦ absurd (omega (arith, x.1)) ];
    holds = tells.first_holds;
    legal = tt;
  }

  -- after the last turn all of it holds
  goes_end : Separate setup closing → Goes (placing_of setup.shape closing)
  goes_end separate = placing_keeps setup closing Goes goes_step
      (record { kept = kept_start setup closing; alone = alone_start setup closing separate; far = far_start })

  -- each answered call has the reply that the plain object gives it in that order
  pub order_legal : Separate setup closing → Legal (rules_of setup) first (order_of setup.shape closing)
  order_legal separate = (goes_end separate).far.legal

  -- where all is placed, what is held then is what the last rows hold
  pub order_holds : Separate setup closing →
      ((v : ℕ) → v ≤ s.dir_top → is_among (placing_of setup.shape closing).directories (s.dir_row v) ≡ true) →
      ((b i : ℕ) → s.named b ≡ true → i ≤ s.top b →
      is_among (placing_of setup.shape closing).rows (s.row_at b i) ≡ true) →
      (key : Key) → Holds setup s (s.lead s.dir_top key) (s.top (s.lead s.dir_top key))
      (sessions_after (rules_of setup) first (order_of setup.shape closing))
  order_holds separate dirs rows key =
      let f = (goes_end separate).far in
      let now : f.version ≡ s.dir_top = omega (
        arith,
        f.inside,
        f.dirs s.dir_top (omega arith) (dirs s.dir_top (omega arith)),
      ) in
      let b = s.lead s.dir_top key in
      let named = tells.leading.there s.dir_top key (omega arith) in
      let last : f.at b ≡ s.top b = omega (
        arith,
        f.within b named,
        (f.rows b (s.top b) named (omega arith) (rows b (s.top b) named (omega arith))).1,
      ) in
      subst (λ i. Holds setup s b i (held (placing_of setup.shape closing))) last
      (subst (λ v. Holds setup s (s.lead v key) (f.at (s.lead v key)) (held (placing_of setup.shape closing)))
      now (f.holds key))
