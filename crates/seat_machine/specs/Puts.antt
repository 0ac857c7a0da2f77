-- Stores, one after the other.
use Rattle.std.specs.Prelude.{ℕ}
use Rattle.word_rows.specs.declared.addresses.Address.{Address}
use Rattle.table_model.specs.declared.events.Put.{Put}

-- the store of a word at this address
abbrev pub put_of : Address → (word : ℕ) → Put
put_of address word = record { address = address; word = word }
