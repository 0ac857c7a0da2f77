-- The end of the head line can be read back: how many packets a batch has.
use Rattle.std.proofs.Common.{◌≡◌, inl, inr, ℕ, ◌==◌, ◌<◌, ◌≤◌, ◌&&◌, not, nat_lt, Bool, true, false, cond, codes, List, [], ◌∷◌, ◌++◌, Option, Some, refl, sym, ap, ◌∙◌, subst, arith}
use Rattle.std.specs.Prelude.{decimal}
use Rattle.std.proofs.lemmas.Bool.{eqb-true, true≢false}
use Rattle.std.proofs.lemmas.Option.{cond_some, none-some, some_pair_parts}
use Rattle.line_fields.specs.Reading.{HasNoDigit}
use Rattle.line_fields.proofs.BindLemmas.{number_then, text_then}
use Rattle.line_fields.proofs.NumberLaws.{number_again}
use Rattle.report_text.specs.Report.{batch_words}
use Rattle.report_told.specs.Rules.{IsBatch}
use Rattle.report_lines.specs.Lines.{batch_at, told_batch}
use Rattle.report_lines.proofs.Behind.{behind}
use Rattle.report_lines.proofs.FieldLaws.{or_takes}

-- the end of the line, and what is behind it
abbrev pub batch_text : ℕ → List ℕ → List ℕ
batch_text batch rest = behind (batch_words batch) rest

-- no digit stands before it
pub batch_cut : (batch : ℕ) (rest : List ℕ) → HasNoDigit (batch_text batch rest)
batch_cut batch rest = go (batch == 2048)
  where
    go : (b : Bool) → HasNoDigit (behind (cond b [] (codes "batch" ∷ decimal batch ∷ [])) rest)
    go true = refl
    go false = refl

told_again : (play : Bool) (batch : ℕ) (rest : List ℕ) → IsBatch play batch → (batch == 2048) ≡ false →
    told_batch play (decimal batch ++ (10 ∷ rest)) ≡ Some (batch, rest)
told_again play batch rest is other =
    let served : play ≡ false = no_play play is in
    let more : nat_lt 2048 batch ≡ true = more_than batch is.range.0 other in
    rw (number_again 65536 batch (10 ∷ rest) is.range.1 (omega (arith, is.range.1)) refl, served, more) refl
  where
    more_than : (n : ℕ) → 2048 ≤ n → (n == 2048) ≡ false → nat_lt 2048 n ≡ true
    more_than n least other = grind arith

    no_play : (p : Bool) → IsBatch p batch → p ≡ false
    no_play false is = refl
    no_play true is = absurd (true≢false (sym (ap (λ (n : ℕ). n == 2048) (is.one refl)) ∙ other))

pub batch_again : (play : Bool) (batch : ℕ) (rest : List ℕ) → IsBatch play batch →
    batch_at play (batch_text batch rest) ≡ Some (batch, rest)
unfolding batch_at
batch_again play batch rest is = go (batch == 2048) refl
  where
    go : (b : Bool) → (batch == 2048) ≡ b →
        batch_at play (behind (cond b [] (codes "batch" ∷ decimal batch ∷ [])) rest) ≡ Some (batch, rest)
    go true same = ap (λ (n : ℕ). Some (n, rest)) (sym (eqb-true batch 2048 same))
    go false other = told_again play batch rest is other

-- the bytes begin with the end of a line that tells this
pub record BatchTakes (play : Bool) (bytes : List ℕ) (batch : ℕ) (rest : List ℕ) : Type 0 where
  pub text_is : bytes ≡ batch_text batch rest
  pub fits : IsBatch play batch

takes_as : (play : Bool) (bytes : List ℕ) (made batch : ℕ) (left rest : List ℕ) → BatchTakes play bytes made left →
    ◌≡◌ {A = Option (ℕ × List ℕ)} (Some (made, left)) (Some (batch, rest)) → BatchTakes play bytes batch rest
takes_as play bytes made batch left rest found is =
    let parts : (made ≡ batch) × (left ≡ rest) = some_pair_parts made batch left rest is in
    subst (λ (n : ℕ). BatchTakes play bytes n rest) parts.0
    (subst (λ (r : List ℕ). BatchTakes play bytes made r) parts.1 found)

-- where the line tells a number
told_takes : (play : Bool) (bytes behind_name : List ℕ) (batch : ℕ) (rest : List ℕ) →
    bytes ≡ codes " batch " ++ behind_name → told_batch play behind_name ≡ Some (batch, rest) →
    BatchTakes play bytes batch rest
told_takes play bytes behind_name batch rest is read =
    let number = number_then 65536 behind_name _ (batch, rest) (omega arith) read in
    let end = text_then (codes "\n") number.left _ (batch, rest) number.then in
    let tested = cond_some (not play && nat_lt 2048 number.number) (number.number, end.left) (batch, rest) end.then in
    let range : (2048 < number.number) × (play ≡ false) = test_is play number.number tested.0 in
    let found : BatchTakes play bytes number.number end.left = record {
      text_is =
          is ∙ ap (λ (b : List ℕ). codes " batch " ++ b)
          (number.at.text ∙ ap (λ (b : List ℕ). decimal number.number ++ b) end.at)
          ∙ sym (told_text number.number end.left (other_than number.number range.0));
      fits = record {
        range = (omega (arith, range.0), number.at.within);
        one = λ yes. absurd (true≢false (sym yes ∙ range.1));
      };
    } in
    takes_as play bytes number.number batch end.left rest found (ap (λ (x : ℕ × List ℕ). Some x) tested.1)
  where
    test_is : (p : Bool) (n : ℕ) → (not p && nat_lt 2048 n) ≡ true → (2048 < n) × (p ≡ false)
    test_is false n test = (grind arith, refl)
    test_is true n test = cc

    other_than : (n : ℕ) → 2048 < n → (n == 2048) ≡ false
    other_than n more = grind arith

    told_text : (n : ℕ) (left : List ℕ) → (n == 2048) ≡ false →
        batch_text n left ≡ codes " batch " ++ (decimal n ++ (10 ∷ left))
    told_text n left other =
        ap (λ (b : Bool). behind (cond b [] (codes "batch" ∷ decimal n ∷ [])) left) other

pub batch_takes : (play : Bool) (bytes : List ℕ) (batch : ℕ) (rest : List ℕ) →
    batch_at play bytes ≡ Some (batch, rest) → BatchTakes play bytes batch rest
unfolding batch_at
batch_takes play bytes batch rest is =
    elim (or_takes (codes "\n") bytes _ _ (batch, rest) is) [
      | inl (left, text, read) ↦
          takes_as play bytes 2048 batch left rest
          (record { text_is = text; fits = record { range = (omega arith, omega arith); one = λ yes. refl } }) read
      | inr other ↦ elim (or_takes (codes " batch ") bytes _ _ (batch, rest) other) [
        | inl (left, text, read) ↦ told_takes play bytes left batch rest text read
        | inr none ↦ absurd (none-some (batch, rest) none)
      ]
    ]
