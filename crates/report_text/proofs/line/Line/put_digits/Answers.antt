use Rattle.std.proofs.Common.{ℕ, ◌+◌, take, ap, ◌∙◌}
use Rattle.std.specs.Prelude.{decimal}
use Rattle.report_text.specs.Lines.{text_in}
use Rattle.report_text.proofs.DigitLemmas.{digits_behind}
use Rattle.report_text.proofs.line.Line.put_digits.Goals as goal

pub returns-clause-appended : goal.returns-clause-appended
unfolding text_in
returns-clause-appended c =
    ap (λ (n : ℕ). take (c.args.self.now.length + n) c.write_digits.new.buf) c.digit_count.ensures
    ∙ digits_behind c.args.self.now.bytes c.write_digits.new.buf (decimal c.args.number) _ c.args.self.now.length
    c.write_digits.result
    (c.write_digits.ensures.start ∙ ap (λ (n : ℕ). c.args.self.now.length + n) c.digit_count.ensures)
    c.write_digits.ensures.written c.write_digits.ensures.before
