use Rattle.lasting_laws.proofs.StepsFit.{peeks_are_on_table, rows_are_of_buckets, steps_are_on_table}
use Rattle.lasting_laws.proofs.laws.word_laws.Goals as goal

pub returns : goal.returns
returns c =
    record { on_table = steps_are_on_table; peeks_on_table = peeks_are_on_table; rows = rows_are_of_buckets }
