-- Fields that can be read back, and lines of such fields.
use Rattle.std.proofs.Common.{◌≡◌, ◌⊎◌, inl, inr, ℕ, ◌^◌, ◌<◌, ◌≤◌, List, ◌++◌, Option, Some, None, refl, sym, ap, ◌∙◌, append_assoc, subst, arith}
use Rattle.std.specs.Prelude.{decimal}
use Rattle.std.proofs.lemmas.Option.{some_pair_parts}
use Rattle.line_fields.specs.Reading.{HasNoDigit, number_at, text_at}
use Rattle.line_fields.proofs.NumberLaws.{IsNumberAt, number_again, number_takes}
use Rattle.line_fields.proofs.TextLemmas.{text_again, text_takes}
use Rattle.line_fields.proofs.BindLemmas.{bind_some, text_then}
use Rattle.report_lines.specs.Fields.{behind_or, both_at, made_at, numbered}

-- the bytes begin with the text of a value that fits
pub record Takes {T : Type 0} (text : T → List ℕ) (Fits : T → Type 0) (bytes : List ℕ) (value : T) (rest : List ℕ)
    : Type 0 where
  pub text_is : bytes ≡ text value ++ rest
  pub fits : Fits value

-- the text of a value that fits is read as the value, where no digit stands behind it, and what is read is so
pub record IsField {T : Type 0} (at : List ℕ → Option (T × List ℕ)) (text : T → List ℕ) (Fits : T → Type 0) : Type 0
  where
    pub again : (value : T) (rest : List ℕ) → Fits value → HasNoDigit rest →
        at (text value ++ rest) ≡ Some (value, rest)
    pub takes : (bytes : List ℕ) (value : T) (rest : List ℕ) → at bytes ≡ Some (value, rest) →
        Takes text Fits bytes value rest

-- a text that stands there, and what was read behind it, or else what was read otherwise
abbrev pub TextOr : {A : Type 0} → (known bytes : List ℕ) → (List ℕ → Option A) → Option A → A → Type 0
TextOr {A} known bytes next other y =
    ((rest : List ℕ) × (bytes ≡ known ++ rest) × (next rest ≡ Some y)) ⊎ (other ≡ Some y)

pub or_takes : {A : Type 0} (known bytes : List ℕ) (next : List ℕ → Option A) (other : Option A) (y : A) →
    behind_or (text_at known bytes) next other ≡ Some y → TextOr known bytes next other y
or_takes {A} known bytes next other y is = go (text_at known bytes) refl is
  where
    go : (o : Option (List ℕ)) → text_at known bytes ≡ o → behind_or o next other ≡ Some y →
        TextOr known bytes next other y
    go (Some rest) there read = inl (rest, text_takes known bytes rest there, read)
    go None there read = inr read

-- a number behind which the value is made
pub record Numbered {T : Type 0} (most : ℕ) (made : ℕ → T) (bytes : List ℕ) (value : T) (rest : List ℕ) : Type 0 where
  pub number : ℕ
  pub at : IsNumberAt most bytes number rest
  pub value_is : made number ≡ value

pub numbered_takes : {T : Type 0} (most : ℕ) (made : ℕ → T) (bytes : List ℕ) (value : T) (rest : List ℕ) →
    most < 2 ^ 64 → numbered most made bytes ≡ Some (value, rest) → Numbered most made bytes value rest
numbered_takes {T} most made bytes value rest small is =
    let step = bind_some (number_at most bytes) _ (value, rest) is in
    let parts : (made step.0.0 ≡ value) × (step.0.1 ≡ rest) =
    some_pair_parts (made step.0.0) value step.0.1 rest step.2 in
    record {
      number = step.0.0;
      at = subst (λ (r : List ℕ). IsNumberAt most bytes step.0.0 r) parts.1
          (number_takes most bytes step.0.0 step.0.1 small step.1);
      value_is = parts.0;
    }

pub numbered_again : {T : Type 0} (most : ℕ) (made : ℕ → T) (number : ℕ) (rest : List ℕ) → most < 2 ^ 64 →
    number ≤ most → HasNoDigit rest → numbered most made (decimal number ++ rest) ≡ Some (made number, rest)
numbered_again {T} most made number rest small within end =
    rw (number_again most number rest within (omega arith) end) refl

-- the text of a number behind a known one
pub numbered_text : {T : Type 0} (text : T → List ℕ) (Fits : T → Type 0) (most : ℕ) (made : ℕ → T)
    (known bytes behind : List ℕ)
    (value : T) (rest : List ℕ) → ((number : ℕ) → text (made number) ≡ known ++ decimal number) →
    ((number : ℕ) → number ≤ most → Fits (made number)) → bytes ≡ known ++ behind →
    Numbered most made behind value rest → Takes text Fits bytes value rest
numbered_text {T} text Fits most made known bytes behind value rest spelled fit is number =
    let whole : Takes text Fits bytes (made number.number) rest = record {
      text_is =
          is ∙ ap (λ (b : List ℕ). known ++ b) number.at.text
          ∙ sym (append_assoc known (decimal number.number) rest)
          ∙ ap (λ (b : List ℕ). b ++ rest) (sym (spelled number.number));
      fits = fit number.number number.at.within;
    } in
    subst (λ (v : T). Takes text Fits bytes v rest) number.value_is whole

-- a value that has a known text
pub known_text : {T : Type 0} (text : T → List ℕ) (Fits : T → Type 0) (made : T) (known bytes behind : List ℕ)
    (value : T)
    (rest : List ℕ) → text made ≡ known → Fits made → bytes ≡ known ++ behind →
    ◌≡◌ {A = Option (T × List ℕ)} (Some (made, behind)) (Some (value, rest)) → Takes text Fits bytes value rest
known_text {T} text Fits made known bytes behind value rest spelled fit is read =
    let parts : (made ≡ value) × (behind ≡ rest) = some_pair_parts made value behind rest read in
    let whole : Takes text Fits bytes made behind = record {
      text_is = is ∙ ap (λ (b : List ℕ). b ++ behind) (sym spelled);
      fits = fit;
    } in
    subst (λ (v : T). Takes text Fits bytes v rest) parts.0
    (subst (λ (r : List ℕ). Takes text Fits bytes made r) parts.1 whole)

-- A number is a field.
pub number_field : (most : ℕ) → most < 2 ^ 64 → IsField (number_at most) decimal (λ n. n ≤ most)
number_field most small = record {
  again = λ value rest within end. number_again most value rest within (omega arith) end;
  takes = λ bytes value rest is.
      (let at : IsNumberAt most bytes value rest = number_takes most bytes value rest small is in
      record { text_is = at.text; fits = at.within });
}

-- What is made of a field.

pub made_again : {T V : Type 0} (at : List ℕ → Option (T × List ℕ)) (text : T → List ℕ) (Fits : T → Type 0) →
    IsField at text Fits → (made : T → V) (value : T) (rest : List ℕ) → Fits value → HasNoDigit rest →
    made_at at made (text value ++ rest) ≡ Some (made value, rest)
made_again {T} {V} at text Fits field made value rest fits end = rw (field.again value rest fits end) refl

-- a value that is made of a field behind a known text
pub made_takes : {T V : Type 0} (at : List ℕ → Option (T × List ℕ)) (text : T → List ℕ) (Fits : T → Type 0) →
    IsField at text Fits → (out : V → List ℕ) (Out : V → Type 0) (made : T → V) (known bytes behind : List ℕ)
    (value : V)
    (rest : List ℕ) → ((t : T) → out (made t) ≡ known ++ text t) → ((t : T) → Fits t → Out (made t)) →
    bytes ≡ known ++ behind → made_at at made behind ≡ Some (value, rest) → Takes out Out bytes value rest
made_takes {T} {V} at text Fits field out Out made known bytes behind value rest spelled fit is read =
    let step = bind_some (at behind) (λ x. Some (made x.0, x.1)) (value, rest) read in
    let found : Takes text Fits behind step.0.0 step.0.1 = field.takes behind step.0.0 step.0.1 step.1 in
    let parts : (made step.0.0 ≡ value) × (step.0.1 ≡ rest) =
    some_pair_parts (made step.0.0) value step.0.1 rest step.2 in
    let whole : Takes out Out bytes (made step.0.0) step.0.1 = record {
      text_is =
          is ∙ ap (λ (b : List ℕ). known ++ b) found.text_is
          ∙ sym (append_assoc known (text step.0.0) step.0.1)
          ∙ ap (λ (b : List ℕ). b ++ step.0.1) (sym (spelled step.0.0));
      fits = fit step.0.0 found.fits;
    } in
    subst (λ (v : V). Takes out Out bytes v rest) parts.0
    (subst (λ (r : List ℕ). Takes out Out bytes (made step.0.0) r) parts.1 whole)

-- Two fields with a known text between.

abbrev pub both_text : {T V : Type 0} → (T → List ℕ) → (known : List ℕ) → (V → List ℕ) → T × V → List ℕ
both_text one known other value = one value.0 ++ (known ++ other value.1)

-- the text of both, and what is behind it
both_behind : {T V : Type 0} (one : T → List ℕ) (known : List ℕ) (other : V → List ℕ) (value : T × V) (rest : List ℕ) →
    both_text one known other value ++ rest ≡ one value.0 ++ (known ++ (other value.1 ++ rest))
both_behind {T} {V} one known other value rest =
    append_assoc (one value.0) (known ++ other value.1) rest
    ∙ ap (λ (b : List ℕ). one value.0 ++ b) (append_assoc known (other value.1) rest)

module _ {T V : Type 0} (at : List ℕ → Option (T × List ℕ)) (text : T → List ℕ) (Fits : T → Type 0)
    (on : List ℕ → Option (V × List ℕ)) (spelled : V → List ℕ) (Suits : V → Type 0) (known : List ℕ) where
  both_again : IsField at text Fits → ((rest : List ℕ) → HasNoDigit (known ++ rest)) → IsField on spelled Suits →
      (value : T × V) (rest : List ℕ) → Fits value.0 × Suits value.1 → HasNoDigit rest →
      both_at at known on (both_text text known spelled value ++ rest) ≡ Some (value, rest)
  both_again first cut second value rest fits end =
      ap (both_at at known on) (both_behind text known spelled value rest)
      ∙ rw (
        first.again value.0 (known ++ (spelled value.1 ++ rest)) fits.0 (cut (spelled value.1 ++ rest)),
        text_again known (spelled value.1 ++ rest),
        second.again value.1 rest fits.1 end,
      ) refl

  both_takes : IsField at text Fits → IsField on spelled Suits → (bytes : List ℕ) (value : T × V) (rest : List ℕ) →
      both_at at known on bytes ≡ Some (value, rest) →
      Takes (both_text text known spelled) (λ v. Fits v.0 × Suits v.1) bytes value rest
  both_takes first second bytes value rest is =
      let s1 = bind_some (at bytes) _ (value, rest) is in
      let one : Takes text Fits bytes s1.0.0 s1.0.1 = first.takes bytes s1.0.0 s1.0.1 s1.1 in
      let s2 = text_then known s1.0.1 _ (value, rest) s1.2 in
      let s3 = bind_some (on s2.left) _ (value, rest) s2.then in
      let other : Takes spelled Suits s2.left s3.0.0 s3.0.1 = second.takes s2.left s3.0.0 s3.0.1 s3.1 in
      let made : T × V = (s1.0.0, s3.0.0) in
      let parts : (made ≡ value) × (s3.0.1 ≡ rest) = some_pair_parts made value s3.0.1 rest s3.2 in
      let whole : Takes (both_text text known spelled) (λ v. Fits v.0 × Suits v.1) bytes made s3.0.1 = record {
        text_is =
            one.text_is
            ∙ ap (λ (b : List ℕ). text s1.0.0 ++ b) (s2.at ∙ ap (λ (b : List ℕ). known ++ b) other.text_is)
            ∙ sym (both_behind text known spelled made s3.0.1);
        fits = (one.fits, other.fits);
      } in
      subst (λ (v : T × V). Takes (both_text text known spelled) (λ v. Fits v.0 × Suits v.1) bytes v rest) parts.0
      (subst (λ (r : List ℕ). Takes (both_text text known spelled) (λ v. Fits v.0 × Suits v.1) bytes made r) parts.1
      whole)

  pub both_field : IsField at text Fits → ((rest : List ℕ) → HasNoDigit (known ++ rest)) → IsField on spelled Suits →
      IsField (both_at at known on) (both_text text known spelled) (λ v. Fits v.0 × Suits v.1)
  both_field first cut second =
      record { again = both_again first cut second; takes = both_takes first second }
