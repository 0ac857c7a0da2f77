-- A loop of builders, by the command that it makes.
use Rattle.std.proofs.Common.{◌≡◌, ◌∙◌, ◌+◌, ◌<◌, ◌≤◌, ℕ, List, [], ◌∷◌, ◌++◌, map, length, take, slice_index_or}
use Rattle.std.proofs.Common.{false, ap, ap₂, sym}
use Rattle.std.proofs.lemmas.List.{append_assoc, map_more, take_all}
use Rattle.clap.specs.Walk.{Rule, Text, rule_of}
use Rattle.clap.specs.Simple.{app_of, with_rule}
use Rattle.clap.specs.Built.{AddsArg}
use Rattle.clap.specs.declared.builder.arg.Arg.{Arg}
use Rattle.clap.specs.declared.builder.command.Command.{Command}
use Rattle.command_line.specs.Command.{app_of_rules}

-- a step of a loop that adds the rule of each row, after the rules `before`
pub adds_rule : {X : Type 0} (rule : X → Rule) (name : Text) (before : List Rule) (rows : List X) (i : ℕ) (d : X)
    (old new : Command) (arg : Arg) → i < length rows
    → app_of old ≡ app_of_rules name (before ++ map rule (take i rows))
    → rule_of arg ≡ rule (slice_index_or rows i d) → arg.global ≡ false → AddsArg old arg new
    → app_of new ≡ app_of_rules name (before ++ map rule (take (i + 1) rows))
adds_rule rule name before rows i d old new arg inside is made local added =
    let one_more = append_assoc before (map rule (take i rows)) (rule (slice_index_or rows i d) ∷ []) in
    added.shape local ∙ ap₂ with_rule is made
    ∙ ap (app_of_rules name) (one_more ∙ ap (λ rules. before ++ rules) (sym (map_more rule rows i d inside)))

-- at the end of such a loop
pub all_taken : {X : Type 0} (rule : X → Rule) (rows : List X) (i : ℕ) → length rows ≤ i
    → map rule (take i rows) ≡ map rule rows
all_taken rule rows i past = ap (map rule) (take_all i rows past)
