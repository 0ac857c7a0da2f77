use Rattle.std.proofs.Common.{◌≡◌, ◌++◌, drop}
use Rattle.std.specs.List.{filter}
use Rattle.std.specs.Prelude.{not}
use Rattle.table_model.specs.Reading.{is_among}
use Rattle.closed_words.proofs.lists.without.Given as goal

abbrev pub invariant-loop-number : goal.invariant-loop-number
invariant-loop-number l =
    l.left.items ++ filter (λ number. not (is_among l.others number)) (drop l.number-index l.numbers)
    ≡ filter (λ number. not (is_among l.others number)) l.numbers
