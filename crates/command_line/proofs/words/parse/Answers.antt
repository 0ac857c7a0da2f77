use Rattle.std.proofs.Common.{◌≡◌, ◌∙◌, List, map, string_bytes, ap, sym, subst, codes, inl, inr}
use Rattle.std.proofs.lemmas.List.Elements.{recursion_from_All}
use Rattle.clap.specs.Words.{App, fault_of, first_of, found_of, is_simple, is_simple_and_free, kind_of, matches_of}
use Rattle.clap.specs.Kinds.{IsAmong}
use Rattle.clap.proofs.WalkLemmas.{first_value-rows}
use Rattle.clap.specs.Matches.{first_value}
use Rattle.clap.specs.Walk.{Row, rows_of}
use Rattle.clap.specs.declared.parser.matches.Found.{Found}
use Rattle.command_line.specs.Command.{Passes, numbers, texts}
use Rattle.command_line.proofs.CommandLemmas.{flowdir_is_apart, flowdir_is_free, flowdir_is_simple}
use Rattle.command_line.proofs.CommandLemmas.{flowdir_made, flowdir_rules_simple}
use Rattle.command_line.proofs.PassingLemmas.{numbers_pass}
use Rattle.command_line.proofs.words.parse.Goals as goal

values_by_rows : (f : Found) (rows : List Row) → rows_of f ≡ rows → first_value f ≡ (λ name. first_of name rows)
values_by_rows f rows is = λ i name. (first_value-rows f name ∙ ap (first_of name) is) i

pub returns-in-Ok-clause-taken : goal.returns-in-Ok-clause-taken
returns-in-Ok-clause-taken c =
    let is = c.in_ok-command.ensures ∙ flowdir_made in
    ap (λ (a : App). fault_of a (map string_bytes c.args.words.now)) (sym is)
    ∙ c.in-Ok.ensures.kinds (ap is_simple_and_free is ∙ flowdir_is_free)

pub returns-in-Ok-clause-values : goal.returns-in-Ok-clause-values
returns-in-Ok-clause-values c =
    let is = c.in_ok-command.ensures ∙ flowdir_made in
    let rows = (c.in-Ok.ensures.matches (ap is_simple is ∙ flowdir_is_simple)).0
    ∙ ap (λ (a : App). matches_of a (map string_bytes c.args.words.now)) is in
    values_by_rows (found_of c.in-Ok.matches) _ rows

pub returns-in-Ok-clause-numbers : goal.returns-in-Ok-clause-numbers
returns-in-Ok-clause-numbers c =
    recursion_from_All (Passes (found_of c.in-Ok.matches)) numbers
    (numbers_pass (codes "flowdir") numbers texts c.in_ok-command.command c.in-Ok.matches c.in-Ok.ensures.parsed
    c.in_ok-command.ensures flowdir_rules_simple flowdir_is_apart)

pub returns-in-Err-clause-refused : goal.returns-in-Err-clause-refused
returns-in-Err-clause-refused c usage none =
    let is = c.in_ok-command.ensures ∙ flowdir_made in
    let no_kind = ap (λ (a : App). fault_of a (map string_bytes c.args.words.now)) is ∙ none in
    elim (c.in-Err.ensures.kinds (ap is_simple_and_free is ∙ flowdir_is_free)) [
      | inl memory ↦ c.fault_for.ensures.memory usage memory
      | inr among ↦ subst (IsAmong (kind_of c.in-Err.error)) no_kind among
    ]
