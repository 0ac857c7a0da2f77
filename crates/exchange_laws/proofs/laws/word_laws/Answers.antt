use Rattle.exchange_laws.proofs.NearRuns.{peeks_are_on_table, steps_are_on_table}
use Rattle.exchange_laws.proofs.SmallWords.{words_are_small}
use Rattle.exchange_laws.proofs.laws.word_laws.Goals as goal

pub returns : goal.returns
returns c = record { on_table = steps_are_on_table; peeks_on_table = peeks_are_on_table; small = words_are_small }
