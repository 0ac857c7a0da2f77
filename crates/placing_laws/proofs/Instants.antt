-- The instant at which a directory row is placed: what is held then is what the buckets that it replaces hold in
-- their last rows.
use Rattle.std.proofs.Common.{◌≡◌, ◌≢◌, ℕ, ◌+◌, ◌<◌, ◌≤◌, true, List, [], ◌++◌, Some, refl, inl, inr, sym, ap, ◌∙◌, subst, arith, append_assoc, append-nil}
use Rattle.std.specs.Option.{option_map_or}
use Rattle.std.specs.List.{list_all}
use Rattle.std.proofs.lemmas.Bool.{and_parts, cases_lt}
use Rattle.plain_map.specs.declared.keys.Key.{Key}
use Rattle.plain_map.specs.PlainObject.{Sessions}
use Rattle.plain_map.specs.History.{Placed, sessions_after}
use Rattle.bucket_states.specs.Parts.{OtherPartsStay}
use Rattle.table_model.specs.Setup.{Setup, rules_of}
use Rattle.table_model.specs.Reading.{bucket_row, directory_row, is_among}
use Rattle.table_model.specs.Order.{Closing, Piece, ByBucketRow, ByDirectoryRow, ByLookup, Placing, calls_in, first_rows, is_done, directories_with, placing_of, order_of}
use Rattle.list_laws.proofs.Lists.{In, all_at, in_at}
use Rattle.placing_laws.proofs.Turns.{Turn, after, placing_keeps}
use Rattle.placing_laws.proofs.Stuck.{kept_start}
use Rattle.placing_laws.proofs.Alone.{alone_start, Separate, among_both}
use Rattle.placing_laws.proofs.Story.{Story, Holds, DirPiece, Tells}
use Rattle.placing_laws.proofs.Legals.{Goes, based, done_row, goes_step, far_start}

module _ (law : OtherPartsStay) (setup : Setup) (closing : Closing) (first : Sessions) (s : Story)
    (tells : Tells setup closing first s) where
  -- what is held before the calls of a directory row are placed
  change_holds : (p : Placing) (at row v : ℕ) → Turn setup closing p at (ByDirectoryRow row) →
      Goes law setup closing first s tells p → v < s.dir_top → s.dir_row (v + 1) ≡ row →
      (key : Key) → s.lead (v + 1) key ≢ s.lead v key →
      Holds setup s (s.lead v key) (s.top (s.lead v key)) (sessions_after (rules_of setup) first p.order)
  change_holds p at row v t g inside is key =
      subst (λ u. s.lead (u + 1) key ≢ s.lead u key →
      Holds setup s (s.lead u key) (s.top (s.lead u key)) (sessions_after (rules_of setup) first p.order)) same now
    where
      piece : Piece
      piece = ByDirectoryRow row

      firsts : List ℕ
      firsts = first_rows setup.shape closing.words row

      member : In piece p.left
      member = in_at p.left at piece t.stands

      r : DirPiece setup closing s row
      r = tells.dirs row (g.kept.known piece member)

      same : r.before ≡ v
      same = omega (
        arith,
        tells.leading.dir_once (v + 1) (r.before + 1) (omega (arith, inside))
            (omega (arith, r.inside)) (is ∙ r.is),
      )

      now : s.lead (r.before + 1) key ≢ s.lead r.before key →
          Holds setup s (s.lead r.before key) (s.top (s.lead r.before key))
          (sessions_after (rules_of setup) first p.order)
      now n =
          let f = g.far in
          let u = r.before in
          let parts = and_parts (option_map_or (is_among p.directories)
          (directory_row setup.shape closing.words row).base true) (list_all (λ x. is_done closing p
          (bucket_row setup.shape closing.words x).base) firsts) (based law setup closing first s tells p at piece t) in
          let from : is_among p.directories (s.dir_row u) ≡ true =
          subst (λ o. option_map_or (is_among p.directories) o true ≡ true) r.base parts.0 in
          let low : u ≤ f.version = f.dirs u (omega (arith, r.inside)) from in
          let here : f.version ≡ u = elim (cases_lt u f.version) [
            | inl l ↦ absurd ((g.alone.fresh piece member).directories row (inl refl)
                (subst (λ x. is_among p.directories x ≡ true) (sym r.is) (f.dirs_there (u + 1) (omega (arith, l)))))
            | inr m ↦ omega (arith, m, low)
          ] in
          let done : is_done closing p (Some (s.row_at (s.lead u key) (s.top (s.lead u key)))) ≡ true =
          subst (λ o. is_done closing p o ≡ true) (r.bases key n)
          (all_at (λ x. is_done closing p (bucket_row setup.shape closing.words x).base) firsts
          (s.row_at (s.lead (u + 1) key) 0) parts.1
          (r.all_firsts (s.lead (u + 1) key) (tells.leading.there (u + 1) key (omega (arith, r.inside)))
          (tells.leading.newborn u key r.inside n))) in
          let there = tells.leading.there u key (omega (arith, r.inside)) in
          let full : f.at (s.lead u key) ≡ s.top (s.lead u key) =
          omega (
            arith,
            f.within (s.lead u key) there,
            (f.rows (s.lead u key) (s.top (s.lead u key)) there (omega arith)
                (done_row law setup closing first s tells p (s.row_at (s.lead u key) (s.top (s.lead u key))) done)).1,
          ) in
          subst (λ i. Holds setup s (s.lead u key) i (sessions_after (rules_of setup) first p.order)) full
          (subst (λ x. Holds setup s (s.lead x key) (f.at (s.lead x key))
          (sessions_after (rules_of setup) first p.order)) here (f.holds key))

  -- the instant of the version after v in an order: what stands before its calls, and what after them
  pub record Instant (v : ℕ) (order : List Placed) : Type 0 where
    pub before : List Placed
    pub later : List Placed
    pub order_is : order ≡ before ++ (calls_in setup.shape closing (ByDirectoryRow (s.dir_row (v + 1))) ++ later)
    pub holds : (key : Key) → s.lead (v + 1) key ≢ s.lead v key →
        Holds setup s (s.lead v key) (s.top (s.lead v key)) (sessions_after (rules_of setup) first before)

  -- each placed directory row had its instant
  record Remembers (p : Placing) : Type 0 where
    pub goes : Goes law setup closing first s tells p
    pub instants : (v : ℕ) → v < s.dir_top → is_among p.directories (s.dir_row (v + 1)) ≡ true → Instant v p.order

  -- a longer order has the same instants
  longer : (v : ℕ) (order more : List Placed) → Instant v order → Instant v (order ++ more)
  longer v order more i =
      let calls = calls_in setup.shape closing (ByDirectoryRow (s.dir_row (v + 1))) in
      record {
        before = i.before;
        later = i.later ++ more;
        order_is = ap (λ xs. xs ++ more) i.order_is ∙ append_assoc i.before (calls ++ i.later) more
            ∙ ap (λ xs. i.before ++ xs) (append_assoc calls i.later more);
        holds = i.holds;
      }

  -- and this is that of the directory row which is placed now
  instant_now : (p : Placing) (at : ℕ) (piece : Piece) (v : ℕ) → Turn setup closing p at piece →
      Goes law setup closing first s tells p → v < s.dir_top → In (s.dir_row (v + 1)) (directories_with piece) →
      Instant v (p.order ++ calls_in setup.shape closing piece)
  instant_now p at (ByBucketRow row) v t g o m = elim m [ ]
  instant_now p at (ByLookup r) v t g o m = elim m [ ]
  instant_now p at (ByDirectoryRow row) v t g o (inr m) = elim m [ ]
  instant_now p at (ByDirectoryRow row) v t g o (inl e) = record {
    before = p.order;
    later = [];
    order_is = ap (λ xs. p.order ++ xs) (sym (append-nil (calls_in setup.shape closing (ByDirectoryRow row)))
        ∙ ap (λ x. calls_in setup.shape closing (ByDirectoryRow x) ++ []) (sym e));
    holds = change_holds p at row v t g o e;
  }

  -- each turn keeps it
  remembers_step : (p : Placing) (at : ℕ) (piece : Piece) → Turn setup closing p at piece → Remembers p →
      Remembers (after setup closing p at piece)
  remembers_step p at piece t m = record {
    goes = goes_step law setup closing first s tells p at piece t m.goes;
    instants = λ v o h. elim (among_both setup closing p.directories (directories_with piece) (s.dir_row (v + 1)) h) [
      | inl e ↦ longer v p.order (calls_in setup.shape closing piece) (m.instants v o e)
      | inr i ↦ instant_now p at piece v t m.goes o i
    ];
  }

  -- so each directory row that is placed in the end had its instant in the order
  pub instants_end : Separate setup closing → (v : ℕ) → v < s.dir_top →
      is_among (placing_of setup.shape closing).directories (s.dir_row (v + 1)) ≡ true →
      Instant v (order_of setup.shape closing)
  instants_end separate = (placing_keeps setup closing Remembers remembers_step (record {
    goes = record {
      kept = kept_start setup closing;
      alone = alone_start setup closing separate;
      far = far_start law setup closing first s tells;
    };
    instants = λ v o h. absurd (omega (arith, tells.start_dirs (v + 1) (omega (arith, o)) h));
  })).instants
