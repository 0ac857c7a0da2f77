-- Stores of leaves and of a directory, one after the other: none is to a word twice, so each word is there in the end.
use Rattle.std.proofs.Common.{◌≡◌, ◌≢◌, ℕ, List, [], ◌∷◌, refl, ◌∙◌}
use Rattle.std.specs.Prelude.{fold}
use Rattle.word_rows.specs.Shape.{Shape}
use Rattle.word_rows.specs.Places.{IsAddress}
use Rattle.word_rows.specs.Memory.{Memory, read, write, Shows}
use Rattle.word_rows.specs.declared.addresses.Address.{Address}
use Rattle.word_rows.proofs.MemoryLemmas.{shows_store, read-write_same, read-write_other}
use Rattle.table_model.specs.declared.events.Put.{Put}
use Rattle.table_model.specs.Stores.{with_puts}
use Rattle.run_laws.proofs.Puts.{Apart, EachPut}
use Rattle.run_laws.proofs.Won.{IsStored}

-- the memory after stores
abbrev pub after_puts : Memory → List Put → Memory
after_puts m puts = fold (λ so_far put. write so_far put.address put.word) m puts

-- a word that none is to stays
pub kept_word : (m : Memory) (a : Address) (puts : List Put) → EachPut (λ other. a ≢ other.address) puts →
    read (after_puts m puts) a ≡ read m a
kept_word m a [] apart = refl
kept_word m a (put ∷ puts) apart =
    kept_word (write m put.address put.word) a puts apart.1 ∙ read-write_other m put.address a put.word apart.0

-- each word is there in the end
pub all_stored : (m : Memory) (puts : List Put) → Apart puts → EachPut (IsStored (after_puts m puts)) puts
all_stored m [] apart = tt
all_stored m (put ∷ puts) apart = (
  kept_word (write m put.address put.word) put.address puts apart.0 ∙ read-write_same m put.address put.word,
  all_stored (write m put.address put.word) puts apart.1,
)

-- and the list of words shows it
pub shows_puts : (shape : Shape) (puts : List Put) (words : List ℕ) (m : Memory) →
    EachPut (λ put. IsAddress shape put.address) puts → Shows shape words m →
    Shows shape (with_puts shape words puts) (after_puts m puts)
shows_puts shape [] words m each shows = shows
shows_puts shape (put ∷ puts) words m each shows =
    shows_puts shape puts _ (write m put.address put.word) each.1
    (shows_store shape words m put.address put.word each.0 shows)
