use Rattle.std.proofs.Common.{◌∷◌, ◌++◌, ◌∙◌, [], ap, ap₂, sym, map}
use Rattle.std.proofs.lemmas.Simd.{map-map}
use Rattle.command_line.proofs.BuilderLemmas.{adds_rule, all_taken}
use Rattle.command_line.specs.Command.{app_of_rules, mode_rule, number_of, number_rule, text_rule}
use Rattle.command_line.proofs.words.command.command_of.Goals as goal

pub loop-option-preserved : goal.loop-option-preserved
loop-option-preserved c =
    adds_rule (λ row. number_rule (number_of row)) _ (mode_rule ∷ []) c.args.numbers.now c.loop-option.option-index
    _ _ _ _ c.loop-option-test.true c.loop-option.invariant c.number_arg-arg.ensures.rule
    c.number_arg-arg.ensures.local c.in_ok-command-2.ensures

pub loop-text-preserved : goal.loop-text-preserved
loop-text-preserved c =
    adds_rule (λ s. text_rule s.now) _ (mode_rule ∷ map (λ row. number_rule (number_of row)) c.args.numbers.now)
    c.args.texts.now c.loop-text.text-index _ _ _ _ c.loop-text-test.true c.loop-text.invariant
    c.text_arg-arg.ensures.rule c.text_arg-arg.ensures.local c.in_ok-command-3.ensures

pub returns : goal.returns
returns c =
    let all_numbers = map-map number_rule number_of c.args.numbers.now in
    let all_texts = map-map text_rule (λ s. s.now) c.args.texts.now in
    c.loop-text.invariant
    ∙ ap (app_of_rules _) (ap₂ (λ ns ts. (mode_rule ∷ ns) ++ ts) (sym all_numbers)
    (all_taken (λ s. text_rule s.now) c.args.texts.now _ c.loop-text-test.false ∙ sym all_texts))
