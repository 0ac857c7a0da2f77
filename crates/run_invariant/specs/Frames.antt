-- What one event may change: the one word that its seat asks for; and no two seats store in the same word.
use Rattle.std.specs.Prelude.{◌≡◌, ◌≢◌, ℕ, ◌<◌, List, length}
use Rattle.step_counts.specs.declared.rows.SeatRows.{SeatRows}
use Rattle.word_rows.specs.declared.addresses.Address.{Address}
use Rattle.word_rows.specs.Places.{IsAddress, word_count}
use Rattle.table_model.specs.declared.events.Ask.{Ask}
use Rattle.table_model.specs.Setup.{Setup, IsSetup, seats_of}
use Rattle.table_model.specs.Worlds.{word_at, found_by, words_after}
use Rattle.table_model.specs.Steps.{IsOnWord, address_of, becomes, told}
use Rattle.table_model.specs.Rows.{MayStore}

-- what is asked for a word is one step on that word: the seat is told what stood there, and each other word stays
abbrev pub AsksAreSteps : Type 0
AsksAreSteps =
    (setup : Setup) (ask : Ask) (words : List ℕ) (other : Address) → IsOnWord setup.shape ask →
    length words ≡ word_count setup.shape → IsAddress setup.shape other →
    (let was = word_at setup.shape words (address_of ask) in
    (found_by setup ask words ≡ told ask was)
    × (word_at setup.shape (words_after setup ask words) (address_of ask) ≡ becomes ask was)
    × (other ≢ address_of ask → word_at setup.shape (words_after setup ask words) other ≡ word_at setup.shape words
    other))

-- where one seat may store, another may not, whatever the two have published
abbrev pub StoresAreApart : Type 0
StoresAreApart =
    (setup : Setup) (seat other : ℕ) (used its : SeatRows) (at : Address) → IsSetup setup →
    seat < seats_of setup → other < seats_of setup → seat ≢ other → MayStore setup seat used at →
    MayStore setup other its at → ⊥
