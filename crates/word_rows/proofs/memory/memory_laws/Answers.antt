use Rattle.word_rows.proofs.MemoryLemmas.{read-write_same, read-write_other, shows_store, shows_blank, seen_more, stored_more}
use Rattle.word_rows.proofs.memory.memory_laws.Goals as goal

pub returns-clause-stores_are_read : goal.returns-clause-stores_are_read
returns-clause-stores_are_read c = λ m a b w. (read-write_same m a w, read-write_other m a b w)

pub returns-clause-stores_are_shown : goal.returns-clause-stores_are_shown
returns-clause-stores_are_shown c = shows_store

pub returns-clause-loads_are_shown : goal.returns-clause-loads_are_shown
returns-clause-loads_are_shown c = λ shape words m a h s. s.same a h

pub returns-clause-zeros_are_blank : goal.returns-clause-zeros_are_blank
returns-clause-zeros_are_blank c = shows_blank

pub returns-clause-loads_go_on : goal.returns-clause-loads_go_on
returns-clause-loads_go_on c = seen_more

pub returns-clause-stores_go_on : goal.returns-clause-stores_go_on
returns-clause-stores_go_on c = stored_more
