use Rattle.std.proofs.Common.{◌≡◌, ◌∙◌, ℕ, List, eqb, ap, sym, get_or, refl}
use Rattle.std.specs.Prelude.{nat_lt}
use Rattle.std.proofs.lemmas.Bool.{lt-ltb}
use Rattle.plain_map.specs.Calls.{key_in}
use Rattle.bucket_states.specs.Items.{prefix_of}
use Rattle.bucket_machine.proofs.WordLemmas.{number_in, both_true, both_false}
use Rattle.bucket_states.proofs.AnswerLemmas.{lt_false}
use Rattle.bucket_machine.proofs.change.is_due.Goals as goal

pub returns-then-row-at : goal.returns-then-row-at
returns-then-row-at c = record {
  due = λ b spells.
      let rules = c.args.rules.now in
      let op = c.args.op.now in
      let number = number_in c.args.settings.now b c.args.row.now c.args.seat _ spells.words c.requires.seat refl in
      let deep : get_or c.args.row.now 1 0 ≡ b.depth = ap (λ (ws : List ℕ). get_or ws 1 0) spells.words in
      let first : get_or c.args.row.now 0 0 ≡ b.prefix = ap (λ (ws : List ℕ). get_or ws 0 0) spells.words in
      let made : c.prefix_of.result ≡ prefix_of rules b.depth (key_in op.call) =
      c.prefix_of.ensures ∙ (λ i. prefix_of rules (deep i) (c.key.ensures i)) in
      (λ i. eqb (made i) (first i))
      ∙ both_true _ _ (ap (λ (n : ℕ). nat_lt n op.number) (sym number) ∙ lt-ltb _ _ c.if-row-at.true);
}

pub returns-else-row-at : goal.returns-else-row-at
returns-else-row-at c = record {
  due = λ b spells.
      let number = number_in c.args.settings.now b c.args.row.now c.args.seat _ spells.words c.requires.seat refl in
      ap (λ (n : ℕ). nat_lt n c.args.op.now.number) number
      ∙ both_false _ _ (ap (λ (n : ℕ). nat_lt n c.args.op.now.number) (sym number) ∙ lt_false _ _ c.if-row-at.false);
}
