-- The end of the head line can be read back: which calls packets make, and how many packets a batch has.
use Rattle.std.proofs.Common.{◌≡◌, inl, inr, ℕ, ◌==◌, Bool, true, false, cond, codes, List, [], ◌∷◌, ◌++◌, Option, Some, None, refl, ap, ◌∙◌, subst}
use Rattle.std.specs.Prelude.{decimal}
use Rattle.std.proofs.lemmas.Option.{some_pair_parts}
use Rattle.key_texts.specs.declared.rules.CallRule.{CallRule}
use Rattle.key_texts.specs.declared.rules.CallRule.TheVariants.{Sessions, Flows}
use Rattle.line_fields.specs.Reading.{HasNoDigit, text_at}
use Rattle.line_fields.proofs.BindLemmas.{bind_some}
use Rattle.report_text.specs.Report.{batch_words, rule_words}
use Rattle.report_told.specs.Rules.{IsBatch}
use Rattle.report_lines.specs.Fields.{behind_or}
use Rattle.report_lines.specs.Lines.{batch_at, rule_at, with_rule}
use Rattle.report_lines.proofs.Behind.{behind}
use Rattle.report_lines.proofs.BatchField.{BatchTakes, batch_again, batch_cut, batch_takes, batch_text}
use Rattle.report_lines.proofs.FieldLaws.{or_takes}

-- the end of the line, and what is behind it
abbrev pub rule_text : CallRule → ℕ → List ℕ → List ℕ
rule_text rule batch rest = behind (rule_words rule ++ batch_words batch) rest

-- no digit stands before it
pub rule_cut : (rule : CallRule) (batch : ℕ) (rest : List ℕ) → HasNoDigit (rule_text rule batch rest)
rule_cut Sessions batch rest = batch_cut batch rest
rule_cut Flows batch rest = refl

-- no number of packets is told as a rule is
not_rule : (batch : ℕ) (rest : List ℕ) → text_at (codes " calls flows") (batch_text batch rest) ≡ None
not_rule batch rest = go (batch == 2048)
  where
    go : (b : Bool) →
        text_at (codes " calls flows") (behind (cond b [] (codes "batch" ∷ decimal batch ∷ [])) rest) ≡ None
    go true = refl
    go false = refl

pub rule_again : (play : Bool) (rule : CallRule) (batch : ℕ) (rest : List ℕ) → IsBatch play batch →
    rule_at play (rule_text rule batch rest) ≡ Some ((rule, batch), rest)
unfolding rule_at
rule_again play Flows batch rest is = ap (with_rule Flows) (batch_again play batch rest is)
rule_again play Sessions batch rest is =
    ap (λ (o : Option (List ℕ)). behind_or o (λ left. with_rule Flows (batch_at play left))
    (with_rule Sessions (batch_at play (batch_text batch rest)))) (not_rule batch rest)
    ∙ ap (with_rule Sessions) (batch_again play batch rest is)

-- the bytes begin with the end of a line that tells this
pub record RuleTakes (play : Bool) (bytes : List ℕ) (told : CallRule × ℕ) (rest : List ℕ) : Type 0 where
  pub text_is : bytes ≡ rule_text told.0 told.1 rest
  pub fits : IsBatch play told.1

-- what was read behind a known text that tells the rule
with_takes : (play : Bool) (rule : CallRule) (bytes left : List ℕ) (told : CallRule × ℕ) (rest : List ℕ) →
    ((batch : ℕ) (last : List ℕ) → left ≡ batch_text batch last → bytes ≡ rule_text rule batch last) →
    with_rule rule (batch_at play left) ≡ Some (told, rest) → RuleTakes play bytes told rest
with_takes play rule bytes left told rest spells read =
    let step = bind_some (batch_at play left) (λ batch. Some ((rule, batch.0), batch.1)) (told, rest) read in
    let batch : BatchTakes play left step.0.0 step.0.1 = batch_takes play left step.0.0 step.0.1 step.1 in
    let found : RuleTakes play bytes (rule, step.0.0) step.0.1 =
    record { text_is = spells step.0.0 step.0.1 batch.text_is; fits = batch.fits } in
    let parts : ((rule, step.0.0) ≡ told) × (step.0.1 ≡ rest) =
    some_pair_parts (rule, step.0.0) told step.0.1 rest step.2 in
    subst (λ (t : CallRule × ℕ). RuleTakes play bytes t rest) parts.0
    (subst (λ (r : List ℕ). RuleTakes play bytes (rule, step.0.0) r) parts.1 found)

pub rule_takes : (play : Bool) (bytes : List ℕ) (told : CallRule × ℕ) (rest : List ℕ) →
    rule_at play bytes ≡ Some (told, rest) → RuleTakes play bytes told rest
unfolding rule_at
rule_takes play bytes told rest is =
    elim (or_takes (codes " calls flows") bytes _ _ (told, rest) is) [
      | inl (left, text, read) ↦
          with_takes play Flows bytes left told rest
          (λ batch last same. text ∙ ap (λ (b : List ℕ). codes " calls flows" ++ b) same) read
      | inr other ↦ with_takes play Sessions bytes bytes told rest (λ batch last same. same) other
    ]
