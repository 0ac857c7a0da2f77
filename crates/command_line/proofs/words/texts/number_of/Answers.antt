use Rattle.std.proofs.Common.{◌∙◌, arith}
use Rattle.std.proofs.lemmas.Str.Pattern.{starts_char}
use Rattle.command_line.proofs.TextLemmas.{number_read, unsigned}
use Rattle.command_line.proofs.words.texts.number_of.Goals as goal

pub returns : goal.returns
returns c =
    c.ok.ensures.value
    ∙ number_read c.args.text.now c.parse.result c.parse.ensures.value.0
    (unsigned c.starts_with.result _ (starts_char 43 c.args.text.now c.starts_with.result c.starts_with.ensures.cases
    (omega arith) (omega arith)) c.if-starts_with.false) (omega arith)
