-- The digits that are written are those of the group.
use Rattle.std.proofs.Common.{◌∙◌, ◌++◌, ◌∷◌, [], List, ℕ, ap, sym, take}
use Rattle.key_texts.proofs.HexLemmas.{one_digit, two_digits, three_digits, four_digits}
use Rattle.key_texts.proofs.groups.write_group.Goals as goal

pub returns-then-group-lt16-clause-text : goal.returns-then-group-lt16-clause-text
returns-then-group-lt16-clause-text c =
    c.write_text.ensures.text
    ∙ ap (λ (text : List ℕ). take c.args.start c.args.buffer.now ++ text)
    ((λ i. c.digit_of-last.ensures i ∷ []) ∙ sym (one_digit c.args.group c.if-group-lt16.true))

pub returns-then-group-lt256-clause-text : goal.returns-then-group-lt256-clause-text
returns-then-group-lt256-clause-text c =
    c.write_text-then-group-lt256.ensures.text
    ∙ ap (λ (text : List ℕ). take c.args.start c.args.buffer.now ++ text)
    ((λ i. c.digit_of-third.ensures i ∷ c.digit_of-last.ensures i ∷ [])
    ∙ sym (two_digits c.args.group c.if-group-lt16.false c.if-group-lt256.true))

pub returns-then-group-lt4096-clause-text : goal.returns-then-group-lt4096-clause-text
returns-then-group-lt4096-clause-text c =
    c.write_text-then-group-lt4096.ensures.text
    ∙ ap (λ (text : List ℕ). take c.args.start c.args.buffer.now ++ text)
    ((λ i. c.digit_of-second.ensures i ∷ c.digit_of-third.ensures i ∷ c.digit_of-last.ensures i ∷ [])
    ∙ sym (three_digits c.args.group c.if-group-lt256.false c.if-group-lt4096.true))

pub returns-clause-text : goal.returns-clause-text
returns-clause-text c =
    c.write_text-2.ensures.text
    ∙ ap (λ (text : List ℕ). take c.args.start c.args.buffer.now ++ text)
    ((λ i. c.digit_of-first.ensures i ∷ c.digit_of-second.ensures i ∷ c.digit_of-third.ensures i
    ∷ c.digit_of-last.ensures i ∷ [])
    ∙ sym (four_digits c.args.group c.if-group-lt4096.false c.ranges.group.fits))
