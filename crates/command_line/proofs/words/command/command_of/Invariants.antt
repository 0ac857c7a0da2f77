-- Each loop has added the rules of the rows so far.
use Rattle.std.proofs.Common.{◌≡◌, ◌∷◌, ◌++◌, [], map, take}
use Rattle.clap.specs.Words.{app_of}
use Rattle.command_line.specs.Command.{app_of_rules, mode_rule, number_of, number_rule, text_rule}
use Rattle.command_line.proofs.words.command.command_of.Given as goal

abbrev pub invariant-loop-option : goal.invariant-loop-option
invariant-loop-option l =
    app_of l.command ≡ app_of_rules l.fn.name
    ((mode_rule ∷ []) ++ map (λ row. number_rule (number_of row)) (take l.option-index l.numbers))

abbrev pub invariant-loop-text : goal.invariant-loop-text
invariant-loop-text l =
    app_of l.command ≡ app_of_rules l.fn.name
    ((mode_rule ∷ map (λ row. number_rule (number_of row)) l.fn.numbers)
    ++ map (λ s. text_rule s.now) (take l.text-index l.texts))
