-- The published rows of every run: they are good, they are spelled, and what each bucket has only grows.
use Rattle.std.proofs.Common.{◌≡◌, ℕ, zero, suc, ◌-◌, ◌/◌, ◌^◌, ◌<◌, ◌≤◌, true, false, List, ◌∷◌, get_or, sym, ap, ◌∙◌, subst, arith, add-one, true≢false}
use Rattle.std.specs.Prelude.{Some, All, ◌↔◌}
use Rattle.std.proofs.lemmas.Grind.{get_or_default_zero}
use Rattle.plain_map.specs.Rows.{BucketContent, DirectoryContent}
use Rattle.word_rows.specs.BaseWords.{IsBase, word_of_base}
use Rattle.word_rows.specs.BucketWords.{SpellsBucket}
use Rattle.word_rows.specs.DirectoryWords.{SpellsDirectory}
use Rattle.word_rows.specs.Memory.{Shows}
use Rattle.word_rows.proofs.DirectoryLemmas.{base_spelled}
use Rattle.bucket_states.specs.States.{row_of_state}
use Rattle.bucket_states.specs.Laws.{IsGood}
use Rattle.table_model.specs.Setup.{Setup, settings_of, seats_of, rules_of}
use Rattle.table_model.specs.Directories.{DirectoryState}
use Rattle.table_model.specs.Reading.{bucket_spelling, directory_spelling, bucket_row, directory_row, bucket_at, directory_at, bucket_rows, directory_rows, row_of, is_exchanged}
use Rattle.table_model.specs.DirectoryLaws.{StandsIn}
use Rattle.table_model.specs.Promises.{Among, FrozenIsLast}
use Rattle.table_model.specs.Rows.{RowsAreGood, DirectoriesAreRight}
use Rattle.run_invariant.proofs.Invariant.{Common, Shared, Descends, last}
use Rattle.closed_laws.proofs.Read
use Rattle.closed_laws.proofs.FromWords.{bucket_spelling_is, directory_spelling_is, bucket_row_is, directory_row_is}
use Rattle.closed_laws.proofs.Told.{bases}
use Rattle.helping_laws.proofs.ByPlace
use Rattle.helping_laws.proofs.Moment.{moment}

module _ (setup : Setup) (words : List ℕ) (c : Common) (shows : Shows setup.shape words c.memory)
    (s : Shared setup c) (t : Descends setup c) where
  -- a published row is good, and spelled
  pub good_row : (b i : ℕ) → c.named b ≡ true → i ≤ c.top b →
      IsGood (rules_of setup) (seats_of setup) (bucket_at setup.shape words (c.row_at b i))
      × SpellsBucket (settings_of setup) (bucket_row setup.shape words (c.row_at b i))
      (bucket_spelling setup.shape words (c.row_at b i))
  good_row b i n o =
      let sound = s.rows.sound b i n o in (
        subst (IsGood (rules_of setup) (seats_of setup)) (sym (ByPlace.state_is setup words c shows s t b i n o))
            sound.good,
        subst (λ (r : BucketContent). SpellsBucket (settings_of setup) r
            (bucket_spelling setup.shape words (c.row_at b i)))
            (sym (bucket_row_is setup words c shows s (bases setup c s t) b i n o))
            (subst (SpellsBucket (settings_of setup) (row_of_state (c.base_at b i) (c.state_at b i)))
            (sym (bucket_spelling_is setup words c shows s (bases setup c s t) b i n o)) sound.spells),
      )

  -- the base of a directory row can be spelled
  dir_based : (v : ℕ) → v ≤ c.dir_top → IsBase (c.dir_base v)
  dir_based zero o = subst IsBase (sym t.dir_first) tt
  dir_based (suc v) o =
      let before = s.directories.within v (omega (arith, o)) in
      subst IsBase (sym (ap c.dir_base (sym (add-one v)) ∙ t.dir_bases v (omega (arith, o))))
      (omega (arith, before, s.opened.shape.few.directory_rows))

  -- a published directory row is spelled
  pub right_directory : (v : ℕ) → v ≤ c.dir_top →
      SpellsDirectory (settings_of setup) (directory_row setup.shape words (c.dir_row v))
      (directory_spelling setup.shape words (c.dir_row v))
  right_directory v o =
      let d = c.dir_at v in
      let base : word_of_base (c.dir_base v) ≡ c.memory.directory (c.dir_row v) 1 =
      ap word_of_base (sym (t.dir_says v o)) ∙ base_spelled (c.memory.directory (c.dir_row v) 1) in
      subst (λ (r : DirectoryContent). SpellsDirectory (settings_of setup) r
      (directory_spelling setup.shape words (c.dir_row v)))
      (sym (directory_row_is setup words c shows s (bases setup c s t) v o)) (
        record { depth = s.directories.shallow v o; base = dir_based v o; entries = s.directories.long v o },
        directory_spelling_is setup words c shows s (bases setup c s t) v o
            ∙ ap (λ x. d.depth ∷ x ∷ d.entries) (sym base),
      )

  -- each bucket of a directory row stands in it
  stands_in : (v place : ℕ) → v ≤ c.dir_top → place < 2 ^ (c.dir_at v).depth →
      StandsIn (c.dir_at v) (get_or (c.dir_at v).entries place 0) (last c (get_or (c.dir_at v).entries place 0))
  stands_in v place o h =
      let b = get_or (c.dir_at v).entries place 0 in
      let stands = s.leads.stands v place o h in
      let sound = s.rows.sound b (c.top b) (s.leads.every v place o h) (omega arith) in
      record {
        shallow = omega (arith, stands.shallow, sound.depth_is);
        places = λ x lt. subst (λ deep. (get_or (c.dir_at v).entries x 0 ≡ b) ↔
            (x / 2 ^ ((c.dir_at v).depth - deep) ≡ (last c b).prefix)) (sym sound.depth_is)
            (subst (λ pre. (get_or (c.dir_at v).entries x 0 ≡ b) ↔ (x / 2 ^ ((c.dir_at v).depth - c.deep b) ≡ pre))
            (sym sound.prefix_is) (stands.places x lt));
      }

  -- so all of its entries do
  pub each_stands : (v : ℕ) → v ≤ c.dir_top →
      All (λ bucket. StandsIn (directory_at setup.shape words (c.dir_row v)) bucket
      (bucket_at setup.shape words (row_of setup.shape words bucket)))
      (directory_at setup.shape words (c.dir_row v)).entries
  each_stands v o =
      subst (λ (d : DirectoryState). All (λ bucket. StandsIn d bucket
      (bucket_at setup.shape words (row_of setup.shape words bucket))) d.entries)
      (sym (Read.directory_is setup words (ByPlace.book setup words c shows s t)
      (ByPlace.told setup words c shows s t) v o))
      each
    where
      each : All (λ bucket. StandsIn (c.dir_at v) bucket
          (bucket_at setup.shape words (row_of setup.shape words bucket))) (c.dir_at v).entries
      each place z h =
          let inside : place < 2 ^ (c.dir_at v).depth = omega (arith, h, s.directories.long v o) in
          let n = s.leads.every v place o inside in
          subst (λ b. StandsIn (c.dir_at v) b (bucket_at setup.shape words (row_of setup.shape words b)))
          (sym (get_or_default_zero (c.dir_at v).entries place z h))
          (subst (StandsIn (c.dir_at v) (get_or (c.dir_at v).entries place 0))
          (sym (ap (bucket_at setup.shape words)
          (ByPlace.word_is setup words c shows s t (get_or (c.dir_at v).entries place 0) n)
          ∙ ByPlace.state_is setup words c shows s t (get_or (c.dir_at v).entries place 0)
          (c.top (get_or (c.dir_at v).entries place 0)) n (omega arith)))
          (stands_in v place o inside))

  -- no row was made from a frozen one of its bucket
  pub open_before : (b i base : ℕ) → c.named b ≡ true → i ≤ c.top b →
      is_exchanged setup.shape words (c.row_at b i) ≡ true →
      (bucket_row setup.shape words (c.row_at b i)).base ≡ Some base →
      (bucket_row setup.shape words base).frozen ≡ false
  open_before b zero base n o x e = absurd (true≢false (sym x
      ∙ Read.first_not_exchanged setup words (ByPlace.book setup words c shows s t)
      (ByPlace.told setup words c shows s t) b n))
  open_before b (suc i) base n o x e =
      let is = ByPlace.made_from setup words c shows s t b i base n (omega (arith, o))
      (ap (λ j. (bucket_row setup.shape words (c.row_at b j)).base) (add-one i) ∙ e) in
      ap (λ r. (bucket_row setup.shape words r).frozen) is
      ∙ ByPlace.frozen_is setup words c shows s t b i n (omega (arith, o)) ∙ s.rows.open_ b i n (omega (arith, o))

  -- ---- by the rows that are published

  -- of bucket rows
  pub good_published : (row : ℕ) → Among (bucket_rows setup.shape words) row →
      IsGood (rules_of setup) (seats_of setup) (bucket_at setup.shape words row)
      × SpellsBucket (settings_of setup) (bucket_row setup.shape words row) (bucket_spelling setup.shape words row)
  good_published row among =
      let r = ByPlace.stood setup words c shows s t row among in
      subst (λ x. IsGood (rules_of setup) (seats_of setup) (bucket_at setup.shape words x)
      × SpellsBucket (settings_of setup) (bucket_row setup.shape words x) (bucket_spelling setup.shape words x))
      (sym r.is)
      (good_row r.bucket r.at r.named r.inside)

  -- of directory rows
  pub right_published : (row : ℕ) → Among (directory_rows setup.shape words) row →
      SpellsDirectory (settings_of setup) (directory_row setup.shape words row)
      (directory_spelling setup.shape words row)
      × All (λ bucket. StandsIn (directory_at setup.shape words row) bucket
      (bucket_at setup.shape words (row_of setup.shape words bucket))) (directory_at setup.shape words row).entries
  right_published row among =
      let r = ByPlace.version_is setup words c shows s t row among in
      subst (λ x. SpellsDirectory (settings_of setup) (directory_row setup.shape words x)
      (directory_spelling setup.shape words x)
      × All (λ bucket. StandsIn (directory_at setup.shape words x) bucket
      (bucket_at setup.shape words (row_of setup.shape words bucket)))
      (directory_at setup.shape words x).entries) (sym r.2)
      (right_directory r.0 r.1, each_stands r.0 r.1)

  -- of rows that were exchanged
  pub open_published : (row base : ℕ) → Among (bucket_rows setup.shape words) row →
      is_exchanged setup.shape words row ≡ true → (bucket_row setup.shape words row).base ≡ Some base →
      (bucket_row setup.shape words base).frozen ≡ false
  open_published row base among exchanged made =
      let r = ByPlace.stood setup words c shows s t row among in
      open_before r.bucket r.at base r.named r.inside
      (subst (λ x. is_exchanged setup.shape words x ≡ true) r.is exchanged)
      (ap (λ x. (bucket_row setup.shape words x).base) (sym r.is) ∙ made)

-- ---- the promises

-- published bucket rows are good, and spelled
pub rows_are_good : RowsAreGood
rows_are_good setup events row run among =
    let m = moment setup events run in
    good_published setup _ m.common m.follows.shows m.follows.shared m.follows.descent row among

-- published directory rows are spelled, and each bucket stands in them
pub directories_are_right : DirectoriesAreRight
directories_are_right setup events row run among =
    let m = moment setup events run in
    right_published setup _ m.common m.follows.shows m.follows.shared m.follows.descent row among

-- no row was made from a frozen one of its bucket
pub frozen_is_last : FrozenIsLast
frozen_is_last setup events row base run among exchanged made =
    let m = moment setup events run in
    open_published setup _ m.common m.follows.shows m.follows.shared m.follows.descent row base among exchanged made
