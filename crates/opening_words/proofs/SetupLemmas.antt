-- What is written of the opening of a setup are its words, and finds room.
use Rattle.std.proofs.Common.{◌≡◌, ℕ, ◌^◌, ◌≤◌, suc, List, [], ◌∷◌, ◌++◌, length, get_or, replicate, refl, sym, ap, ◌∙◌, subst}
use Rattle.std.specs.Prelude.{All, None}
use Rattle.hash_bits.specs.declared.hashing.Hashing.{Hashing}
use Rattle.step_counts.specs.declared.settings.Settings.{Settings}
use Rattle.plain_map.specs.declared.keys.Pair.{Pair}
use Rattle.word_rows.specs.Shape.{AreBelow, IsShape, Shape}
use Rattle.word_rows.specs.Places.{word_count}
use Rattle.word_rows.specs.declared.addresses.Address.TheVariants.{BucketRowWord, BucketWord, DirectoryWord}
use Rattle.word_rows.specs.BucketWords.{IsBucket, words_of_bucket}
use Rattle.bucket_states.specs.Parts.{HasDistinctKeys}
use Rattle.bucket_states.specs.States.{row_of_state}
use Rattle.table_model.specs.declared.events.Put.{Put}
use Rattle.table_model.specs.Setup.{HaveRoom, IsPair, Setup, IsSetup, seats_of, rules_of}
use Rattle.table_model.specs.Directories.{DirectoryState}
use Rattle.table_model.specs.Leaves.{NewLeaf}
use Rattle.table_model.specs.Opening.{opening_directory, opening_leaves}
use Rattle.table_model.specs.Stores.{with_puts, leaf_puts, row_puts, directory_words}
use Rattle.table_model.specs.Worlds.{first_leaves, opening_words}
use Rattle.change_laws.proofs.Directories.{now-shallow, now-long}
use Rattle.change_laws.proofs.Openings.{opening-apart}
use Rattle.run_invariant.proofs.RowLemmas.{bucket_row_sound}
use Rattle.change_laws.proofs.FirstLeaves.{first_can_open, first_opens}
use Rattle.opening_words.specs.Written.{FitIn, setup_at, spelling, words_with}
use Rattle.opening_words.specs.Rooms.{rules_for}
use Rattle.opening_words.proofs.WritingLemmas.{no_base}

module _ (setup : Setup) where
  -- the leaves of the opening
  abbrev leaves : List NewLeaf
  leaves = first_leaves setup

  -- its directory
  abbrev directory : DirectoryState
  directory = opening_directory setup.shape.settings.start leaves

  -- leaves are stored alike in all tables of a shape
  same_puts : (number : ℕ) (ls : List NewLeaf) →
      leaf_puts (spelling setup.shape) no_base number number ls ≡ leaf_puts setup no_base number number ls
  same_puts number [] = refl
  same_puts number (leaf ∷ ls) =
      ap (λ (puts : List Put). record { address = BucketWord number; word = number }
      ∷ row_puts (BucketRowWord number) 0 (words_of_bucket setup.shape.settings (row_of_state None leaf.bucket))
      ++ puts) (same_puts (suc number) ls)

  -- so the words of its leaves and its directory are those of the opening
  pub are_opening : words_with setup.shape leaves directory ≡ opening_words setup
  unfolding opening_words
  are_opening =
      ap (λ (puts : List Put). with_puts setup.shape (replicate (word_count setup.shape) 0)
      (puts ++ row_puts (DirectoryWord 0) 0 (directory_words None directory))) (same_puts 0 leaves)

  module _ (s : IsSetup setup) where
    -- the row of each leaf can be spelled
    leaves_spelled : All (λ leaf. IsBucket setup.shape.settings (row_of_state None leaf.bucket)) leaves
    leaves_spelled = λ i d h.
        (bucket_row_sound setup (get_or leaves i d).bucket.prefix (get_or leaves i d).bucket.depth None
        (get_or leaves i d).bucket tt
        ((first_opens setup s).good i d h).0 ((first_opens setup s).small (λ k e lt. (s.pairs k e lt).small) i d h) refl
        refl).spells.0

    -- the directory before they are put in
    abbrev before : DirectoryState
    before = record { depth = setup.shape.settings.start; entries = replicate (2 ^ setup.shape.settings.start) 0 }

    -- and so can the directory
    directory_shallow : directory.depth ≤ setup.shape.settings.depth
    directory_shallow = now-shallow (rules_of setup) (first_can_open setup s).range before
        (first_can_open setup s).within 0 leaves
        (opening-apart (rules_of setup) (seats_of setup) setup.shape.settings.start setup.first
        (first_can_open setup s)).shallow

    -- and it has a place for each prefix of its depth
    directory_long : length directory.entries ≡ 2 ^ directory.depth
    directory_long = now-long (rules_of setup) (first_can_open setup s).range before
        (first_can_open setup s).within 0 leaves
        (opening-apart (rules_of setup) (seats_of setup) setup.shape.settings.start setup.first
        (first_can_open setup s)).shallow

    -- all of them find room
    pub opening_fits : FitIn setup.shape leaves directory
    opening_fits = record {
      few = (first_opens setup s).few;
      spelled = leaves_spelled;
      shallow = directory_shallow;
      long = directory_long;
    }

-- what is made for these settings is the opening of a table of a shape that has them
module _ (shape : Shape) (settings : Settings) (hashing : Hashing) (first : List Pair)
    (same : settings ≡ shape.settings)
  where
    -- its setup
    abbrev made_for : Setup
    made_for = setup_at shape hashing first

    -- where the pairs find room, a table can be opened so
    pub is_setup : IsShape shape → All (AreBelow shape.limit) shape.ranges → All IsPair first → HasDistinctKeys first →
        HaveRoom (rules_for settings hashing) first → IsSetup made_for
    is_setup is small pairs distinct room = record {
      shape = is;
      ranges = small;
      pairs = pairs;
      distinct = distinct;
      room = subst (λ (s : Settings). HaveRoom (rules_for s hashing) first) same room;
    }

    module _ (leaves : List NewLeaf) (directory : DirectoryState)
        (leaves_are : leaves ≡ opening_leaves (rules_for settings hashing) settings.seats settings.start first)
        (directory_is : directory ≡ opening_directory settings.start leaves)
      where
        -- the leaves are those of the setup
        are_first : leaves ≡ first_leaves made_for
        are_first = leaves_are
            ∙ ap (λ (s : Settings). opening_leaves (rules_for s hashing) s.seats s.start first) same

        -- and so is the directory
        is_first : directory ≡ opening_directory shape.settings.start (first_leaves made_for)
        is_first = directory_is ∙ (λ k. opening_directory (same k).start (are_first k))

        -- they find room
        pub made_fits : IsSetup made_for → FitIn shape leaves directory
        made_fits s =
            subst (λ (ls : List NewLeaf). FitIn shape ls directory) (sym are_first)
            (subst (FitIn shape (first_leaves made_for)) (sym is_first) (opening_fits made_for s))

        -- and their words are those of the opening
        pub made_words : words_with shape leaves directory ≡ opening_words made_for
        made_words = (λ k. words_with shape (are_first k) (is_first k)) ∙ are_opening made_for
