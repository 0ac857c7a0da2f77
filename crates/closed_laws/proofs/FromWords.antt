-- The closed words of a table tell the history of its run, with the bases that its rows were written with.
use Rattle.std.proofs.Common.{◌≡◌, ℕ, zero, suc, ◌+◌, ◌*◌, ◌^◌, ◌<◌, ◌≤◌, ◌⊎◌, true, List, ◌∷◌, length, get_or, Option, Some, None, refl, sym, ap, ◌∙◌, arith, mul-le-mul_right, pow_mono, suc-mul, add-one}
use Rattle.step_counts.specs.StepCounts.{bucket_row_words, directory_row_words}
use Rattle.plain_map.specs.declared.full.FullKind.TheVariants.{BucketRows, DirRows}
use Rattle.word_rows.specs.Shape.{count_of}
use Rattle.word_rows.specs.declared.addresses.Address.TheVariants.{Root, BucketWord, BucketRowWord, DirectoryWord}
use Rattle.word_rows.specs.Places.{place, bucket_rows_start, directory_rows_start}
use Rattle.word_rows.specs.BaseWords.{base_of_word}
use Rattle.word_rows.specs.BucketWords.{bucket_of_words}
use Rattle.word_rows.specs.DirectoryWords.{directory_of_words}
use Rattle.word_rows.specs.Memory.{Shows}
use Rattle.bucket_states.specs.States.{row_of_state}
use Rattle.table_model.specs.Setup.{Setup}
use Rattle.table_model.specs.Worlds.{word_at}
use Rattle.table_model.specs.Reading.{words_from, bucket_spelling, directory_spelling, bucket_row, directory_row}
use Rattle.run_invariant.proofs.Invariant.{Common, Shared, width}
use Rattle.list_laws.proofs.Lists.{In}
use Rattle.closed_laws.proofs.Book.{Book, Written, Parent, row_of_directory}
use Rattle.run_laws.proofs.OpRows.{words_are}

-- the bases of the history, and which buckets its versions name
pub record Bases (setup : Setup) (c : Common) : Type 0 where
  pub base_at : ℕ → ℕ → Option ℕ
  pub dir_base : ℕ → Option ℕ
  -- the row's words say its base too
  pub says : (b i : ℕ) → c.named b ≡ true → i ≤ c.top b →
      bucket_of_words setup.shape.settings (c.words_at b i) ≡ row_of_state (base_at b i) (c.state_at b i)
  pub dir_says : (v : ℕ) → v ≤ c.dir_top → base_of_word (c.memory.directory (c.dir_row v) 1) ≡ dir_base v

-- the book of a history
abbrev pub book_of : (setup : Setup) (c : Common) → Bases setup c → Book
book_of setup c e = record {
  dir_top = c.dir_top;
  dir_row = c.dir_row;
  dir_at = c.dir_at;
  dir_base = e.dir_base;
  named = c.named;
  born = c.born;
  deep = c.deep;
  top = c.top;
  row_at = c.row_at;
  state_at = c.state_at;
  base_at = e.base_at;
}

-- where they come from
pub record Descends (setup : Setup) (c : Common) (e : Bases setup c) : Type 0 where
  pub bases : (b i : ℕ) → c.named b ≡ true → i < c.top b → e.base_at b (i + 1) ≡ Some (c.row_at b i)
  pub opening : (b : ℕ) → c.named b ≡ true → c.born b ≡ 0 → e.base_at b 0 ≡ None
  pub parent : (b v : ℕ) → c.named b ≡ true → c.born b ≡ v + 1 → Parent (book_of setup c e) b v
  pub dir_bases : (v : ℕ) → v < c.dir_top → e.dir_base (v + 1) ≡ Some (c.dir_row v)
  pub dir_first : e.dir_base 0 ≡ None
  pub entries : (v b : ℕ) → v ≤ c.dir_top → In b (c.dir_at v).entries → (c.named b ≡ true) × (c.born b ≤ v)
  pub born_within : (b : ℕ) → c.named b ≡ true → c.born b ≤ c.dir_top
  pub present : (b : ℕ) → c.named b ≡ true → In b (c.dir_at (c.born b)).entries
  pub newcomers : (v b : ℕ) → v < c.dir_top → In b (c.dir_at (v + 1)).entries →
      In b (c.dir_at v).entries ⊎ (c.born b ≡ v + 1)

module _ (setup : Setup) (words : List ℕ) (c : Common) (shows : Shows setup.shape words c.memory)
    (s : Shared setup c) (e : Bases setup c) where
  -- a row's words lie within those of all rows
  room : (row count wide start all : ℕ) → row < count → start + count * wide ≤ all →
      start + (row * wide + 0) + wide ≤ all
  room row count wide start all less fits =
      let more : (row + 1) * wide ≤ count * wide = mul-le-mul_right wide (omega (arith, less)) in
      let one : (row + 1) * wide ≡ row * wide + wide = ap (λ n. n * wide) (add-one row) ∙ suc-mul row wide in
      omega (arith, more, one, fits)

  -- the words of a published bucket row are those of the history
  pub bucket_spelling_is : (b i : ℕ) → c.named b ≡ true → i ≤ c.top b →
      bucket_spelling setup.shape words (c.row_at b i) ≡ c.words_at b i
  unfolding width
  bucket_spelling_is b i n o =
      let row = c.row_at b i in
      let wide = bucket_row_words setup.shape.settings in
      let sound = s.rows.sound b i n o in
      let within = s.rows.within b i n o in
      let long : length (c.words_at b i) ≡ wide = sound.long in
      let fits : place setup.shape (BucketRowWord row 0) + wide ≤ length words =
      room row (count_of setup.shape BucketRows) wide (bucket_rows_start setup.shape) (length words) within
      (omega (arith, shows.long)) in
      let same : words_from words (place setup.shape (BucketRowWord row 0)) (length (c.words_at b i)) ≡ c.words_at b i =
      words_are words (c.words_at b i) (place setup.shape (BucketRowWord row 0)) (omega (arith, fits, long))
      (λ j h. ap (λ p. get_or words p 0) (omega arith)
      ∙ shows.same (BucketRowWord row j) (within, omega (arith, h, long))
      ∙ s.rows.rows_are b i j n o (omega (arith, h, long))) in
      ap (words_from words (place setup.shape (BucketRowWord row 0))) (sym long) ∙ same

  -- so a bucket row is read as its state
  pub bucket_row_is : (b i : ℕ) → c.named b ≡ true → i ≤ c.top b →
      bucket_row setup.shape words (c.row_at b i) ≡ row_of_state (e.base_at b i) (c.state_at b i)
  bucket_row_is b i n o = ap (bucket_of_words setup.shape.settings) (bucket_spelling_is b i n o) ∙ e.says b i n o

  -- and so are those of a directory row
  abbrev pub directory_words : ℕ → List ℕ
  directory_words v = (c.dir_at v).depth ∷ c.memory.directory (c.dir_row v) 1 ∷ (c.dir_at v).entries

  -- the words of a directory row are its spelling
  pub directory_spelling_is : (v : ℕ) → v ≤ c.dir_top →
      directory_spelling setup.shape words (c.dir_row v) ≡ directory_words v
  directory_spelling_is v o =
      let row = c.dir_row v in
      let d = c.dir_at v in
      let within = s.directories.within v o in
      let most : 2 ^ d.depth ≤ 2 ^ setup.shape.settings.depth =
      pow_mono {i = d.depth} {j = setup.shape.settings.depth} (s.directories.shallow v o) in
      let wide = directory_row_words setup.shape.settings in
      let depth : word_at setup.shape words (DirectoryWord row 0) ≡ d.depth =
      shows.same (DirectoryWord row 0) (within, omega arith) ∙ s.directories.depth_is v o in
      let xs = directory_words v in
      let long : length xs ≡ 2 + 2 ^ d.depth = omega (arith, s.directories.long v o) in
      let fits : place setup.shape (DirectoryWord row 0) + wide ≤ length words =
      room row (count_of setup.shape DirRows) wide (directory_rows_start setup.shape) (length words) within
      (omega (arith, shows.long)) in
      let each : (j : ℕ) → j < length xs → c.memory.directory row j ≡ get_or xs j 0 = entry v o in
      let same : words_from words (place setup.shape (DirectoryWord row 0)) (length xs) ≡ xs =
      words_are words xs (place setup.shape (DirectoryWord row 0)) (omega (arith, fits, long, most))
      (λ j h. ap (λ p. get_or words p 0) (omega arith)
      ∙ shows.same (DirectoryWord row j) (within, omega (arith, h, long, most)) ∙ each j h) in
      ap (λ n. words_from words (place setup.shape (DirectoryWord row 0)) (2 + 2 ^ n)) depth
      ∙ ap (words_from words (place setup.shape (DirectoryWord row 0))) (sym long) ∙ same
    where
      entry : (v : ℕ) → v ≤ c.dir_top → (j : ℕ) → j < length (directory_words v) →
          c.memory.directory (c.dir_row v) j ≡ get_or (directory_words v) j 0
      entry v o zero h = s.directories.depth_is v o
      entry v o (suc zero) h = refl
      entry v o (suc (suc j)) h = ap (c.memory.directory (c.dir_row v)) (omega arith)
          ∙ s.directories.entries_are v j o (omega (arith, h, s.directories.long v o))

  -- so a directory row is read as its directory
  pub directory_row_is : (v : ℕ) → v ≤ c.dir_top →
      directory_row setup.shape words (c.dir_row v) ≡ row_of_directory (e.dir_base v) (c.dir_at v)
  directory_row_is v o = ap directory_of_words (directory_spelling_is v o)
      ∙ ap (λ b. row_of_directory b (c.dir_at v)) (e.dir_says v o)

  -- so the words tell the book
  pub written : Descends setup c e → Written setup words (book_of setup c e)
  written d = record {
    root_is = shows.same Root tt ∙ s.directories.root_is;
    word_is = λ b n. shows.same (BucketWord b) (s.rows.inside b n) ∙ s.rows.word_is b n;
    row_is = bucket_row_is;
    dir_is = directory_row_is;
    within = s.rows.within;
    once = s.rows.once;
    dir_within = s.directories.within;
    dir_once = s.directories.once;
    deep_is = λ b i n o. (s.rows.sound b i n o).depth_is;
    bases = d.bases;
    opening = d.opening;
    parent = d.parent;
    dir_bases = d.dir_bases;
    dir_first = d.dir_first;
    entries = d.entries;
    born_within = d.born_within;
    present = d.present;
    newcomers = d.newcomers;
  }
