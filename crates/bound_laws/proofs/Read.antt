-- What is read from the words of a table is what its history says.
use Rattle.std.proofs.Common.{◌≡◌, ℕ, ◌≤◌, true, List}
use Rattle.word_rows.specs.Memory.{Shows}
use Rattle.table_model.specs.Setup.{Setup}
use Rattle.table_model.specs.Reading.{bucket_at}
use Rattle.run_invariant.proofs.Invariant.{Common, Shared, Descends}
use Rattle.closed_laws.proofs.Book.{Book, Written}
use Rattle.closed_laws.proofs.Read.{state_is}
use Rattle.closed_laws.proofs.FromWords.{book_of, written}
use Rattle.closed_laws.proofs.Told.{bases, descends}

module _ (setup : Setup) (words : List ℕ) (c : Common) (shows : Shows setup.shape words c.memory) (s : Shared setup c)
    (t : Descends setup c) where
  abbrev pub book : Book
  book = book_of setup c (bases setup c s t)

  -- the words tell the history
  pub kept : Written setup words book
  kept = written setup words c shows s (bases setup c s t) (descends setup c s t)

  -- so they tell the state of each published row
  pub state_read : (b i : ℕ) → c.named b ≡ true → i ≤ c.top b → bucket_at setup.shape words (c.row_at b i) ≡ c.state_at
      b i
  state_read b i n o = state_is setup words book kept b i n o
