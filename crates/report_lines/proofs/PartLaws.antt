-- A line as its parts from left to right: texts that are known, and fields. It is read back where each field is.
use Rattle.std.proofs.Common.{◌≡◌, ℕ, ◌^◌, ◌<◌, ◌≤◌, Bool, List, [], ◌∷◌, ◌++◌, Option, Some, refl, sym, ap, ◌∙◌, subst}
use Rattle.std.specs.Prelude.{decimal}
use Rattle.std.proofs.lemmas.Option.{some_pair_parts}
use Rattle.hash_bits.specs.declared.hashing.Hashing.{Hashing}
use Rattle.trace_share.specs.declared.deals.Share.{Share}
use Rattle.plain_map.specs.declared.keys.Key.{Key}
use Rattle.plain_map.specs.declared.calls.Call.{Call}
use Rattle.plain_map.specs.declared.calls.Reply.{Reply}
use Rattle.plain_map.specs.declared.full.FullKind.{FullKind}
use Rattle.plain_map.specs.declared.records.Seen.{Seen}
use Rattle.key_texts.specs.FlowText.{flow_text}
use Rattle.line_fields.specs.Reading.{◌>>=◌, HasNoDigit, number_at, text_at}
use Rattle.line_fields.proofs.TextLemmas.{text_again}
use Rattle.line_fields.proofs.BindLemmas.{bind_some, text_then}
use Rattle.flow_reading.specs.Flows.{IsFlow, flow_at}
use Rattle.report_text.specs.Report.{mode_word, share_word, short_word}
use Rattle.capture_faults.specs.declared.ending.Ending.{Ending}
use Rattle.report_told.specs.Rules.{IsSeen}
use Rattle.report_lines.specs.Fields.{most_64, mode_at, hashing_at, share_at, verb_at, reply_at, kind_at, counts_at, ending_at}
use Rattle.report_lines.proofs.FieldLaws.{IsField, Takes, number_field}
use Rattle.report_lines.proofs.HeadFields.{HasSeed, hashing_text, mode_field, hashing_field, share_field}
use Rattle.report_lines.proofs.CallFields.{IsVerb, HasWord, flow_field, verb_text, reply_text, verb_field, reply_field, kind_field}
use Rattle.report_lines.proofs.SeenFields.{seen_text, counts_field}
use Rattle.report_lines.proofs.InputFields.{EndingFits, ending_text, ending_field}

-- the kinds of fields
pub data Field : Type 0 where
  number : (most : ℕ) → Field
  flow : Field
  mode : Field
  hashing : Field
  share : Field
  verb : (packet : ℕ) → Field
  replied : (packet : ℕ) → Field
  kind : Field
  counts : (seats : ℕ) → Field
  ending : Field

abbrev pub Value : Field → Type 0
Value (number most) = ℕ
Value flow = Key
Value mode = Bool
Value hashing = Hashing
Value share = Share
Value (verb packet) = Call
Value (replied packet) = Reply
Value kind = FullKind
Value (counts seats) = Seen
Value ending = Ending

abbrev pub field_at : (field : Field) → List ℕ → Option (Value field × List ℕ)
field_at (number most) bytes = number_at most bytes
field_at flow bytes = flow_at bytes
field_at mode bytes = mode_at bytes
field_at hashing bytes = hashing_at bytes
field_at share bytes = share_at bytes
field_at (verb packet) bytes = verb_at packet bytes
field_at (replied packet) bytes = reply_at packet bytes
field_at kind bytes = kind_at bytes
field_at (counts seats) bytes = counts_at seats bytes
field_at ending bytes = ending_at bytes

abbrev pub field_text : (field : Field) → Value field → List ℕ
field_text (number most) value = decimal value
field_text flow value = flow_text value
field_text mode value = mode_word value
field_text hashing value = hashing_text value
field_text share value = share_word value
field_text (verb packet) value = verb_text value
field_text (replied packet) value = reply_text packet value
field_text kind value = short_word value
field_text (counts seats) value = seen_text seats value
field_text ending value = ending_text value

abbrev pub FieldFits : (field : Field) → Value field → Type 0
FieldFits (number most) value = value ≤ most
FieldFits flow value = IsFlow value
FieldFits mode value = Unit {0}
FieldFits hashing value = HasSeed value
FieldFits share value = Unit {0}
FieldFits (verb packet) value = IsVerb packet value
FieldFits (replied packet) value = HasWord value
FieldFits kind value = Unit {0}
FieldFits (counts seats) value = IsSeen seats value
FieldFits ending value = EndingFits value

-- its number has 64 bits, and there is a seat
abbrev pub IsSound : Field → Type 0
IsSound (number most) = most < 2 ^ 64
IsSound flow = Unit {0}
IsSound mode = Unit {0}
IsSound hashing = Unit {0}
IsSound share = Unit {0}
IsSound (verb packet) = Unit {0}
IsSound (replied packet) = packet ≤ most_64
IsSound kind = Unit {0}
IsSound (counts seats) = 1 ≤ seats
IsSound ending = Unit {0}

pub is_field : (field : Field) → IsSound field → IsField (field_at field) (field_text field) (FieldFits field)
is_field (number most) sound = number_field most sound
is_field flow sound = flow_field
is_field mode sound = mode_field
is_field hashing sound = hashing_field
is_field share sound = share_field
is_field (verb packet) sound = verb_field packet
is_field (replied packet) sound = reply_field packet sound
is_field kind sound = kind_field
is_field (counts seats) sound = counts_field seats sound
is_field ending sound = ending_field

-- Lines.

pub data Part : Type 0 where
  known : List ℕ → Part
  field : Field → Part

-- a value for each field
abbrev pub Values : List Part → Type 0
Values [] = Unit {0}
Values (known text ∷ parts) = Values parts
Values (field f ∷ parts) = Value f × Values parts

-- one part after the other, and then what is made of the values
abbrev pub reads : {A : Type 0} → (parts : List Part) → (Values parts → List ℕ → Option A) → List ℕ → Option A
reads [] made bytes = made tt bytes
reads (known text ∷ parts) made bytes = text_at text bytes >>= λ rest. reads parts made rest
reads (field f ∷ parts) made bytes =
    field_at f bytes >>= λ read. reads parts (λ values rest. made (read.0, values) rest) read.1

-- the text of the values, and what is behind it
abbrev pub spelled : (parts : List Part) → Values parts → List ℕ → List ℕ
spelled [] values rest = rest
spelled (known text ∷ parts) values rest = text ++ spelled parts values rest
spelled (field f ∷ parts) values rest = field_text f values.0 ++ spelled parts values.1 rest

abbrev pub Fitting : (parts : List Part) → Values parts → Type 0
Fitting [] values = Unit {0}
Fitting (known text ∷ parts) values = Fitting parts values
Fitting (field f ∷ parts) values = FieldFits f values.0 × Fitting parts values.1

-- no digit stands behind a field
abbrev pub Cut : (parts : List Part) → Values parts → List ℕ → Type 0
Cut [] values rest = Unit {0}
Cut (known text ∷ parts) values rest = Cut parts values rest
Cut (field f ∷ parts) values rest = HasNoDigit (spelled parts values.1 rest) × Cut parts values.1 rest

abbrev pub AreSound : List Part → Type 0
AreSound [] = Unit {0}
AreSound (known text ∷ parts) = AreSound parts
AreSound (field f ∷ parts) = IsSound f × AreSound parts

pub reads_again : {A : Type 0} (parts : List Part) (made : Values parts → List ℕ → Option A) (values : Values parts)
    (rest : List ℕ) → AreSound parts → Fitting parts values → Cut parts values rest →
    reads parts made (spelled parts values rest) ≡ made values rest
reads_again [] made values rest sound fits cut = refl
reads_again {A} (known text ∷ parts) made values rest sound fits cut =
    ap (λ (o : Option (List ℕ)). ◌>>=◌ {B = A} o (λ left. reads parts made left))
    (text_again text (spelled parts values rest))
    ∙ reads_again parts made values rest sound fits cut
reads_again {A} (field f ∷ parts) made values rest sound fits cut =
    ap (λ (o : Option (Value f × List ℕ)). ◌>>=◌ {B = A} o
    (λ read. reads parts (λ later left. made (read.0, later) left) read.1))
    ((is_field f sound.0).again values.0 (spelled parts values.1 rest) fits.0 cut.0)
    ∙ reads_again parts (λ later left. made (values.0, later) left) values.1 rest sound.1 fits.1 cut.1

-- values stand there, of which this is made
pub record ReadSo {A : Type 0} (parts : List Part) (made : Values parts → List ℕ → Option A) (bytes : List ℕ) (y : A)
    : Type 0 where
  pub values : Values parts
  pub left : List ℕ
  pub text : bytes ≡ spelled parts values left
  pub fits : Fitting parts values
  pub then : made values left ≡ Some y

pub reads_takes : {A : Type 0} (parts : List Part) (made : Values parts → List ℕ → Option A) (bytes : List ℕ) (y : A) →
    AreSound parts → reads parts made bytes ≡ Some y → ReadSo parts made bytes y
reads_takes [] made bytes y sound is = record { values = tt; left = bytes; text = refl; fits = tt; then = is }
reads_takes {A} (known text ∷ parts) made bytes y sound is =
    let step = text_then text bytes (λ rest. reads parts made rest) y is in
    let later : ReadSo parts made step.left y = reads_takes parts made step.left y sound step.then in
    record {
      values = later.values;
      left = later.left;
      text = step.at ∙ ap (λ (b : List ℕ). text ++ b) later.text;
      fits = later.fits;
      then = later.then;
    }
reads_takes {A} (field f ∷ parts) made bytes y sound is =
    let step = bind_some (field_at f bytes) (λ read. reads parts (λ values rest. made (read.0, values) rest) read.1) y
    is in
    let here : Takes (field_text f) (FieldFits f) bytes step.0.0 step.0.1 =
    (is_field f sound.0).takes bytes step.0.0 step.0.1 step.1 in
    let later : ReadSo parts (λ values rest. made (step.0.0, values) rest) step.0.1 y =
    reads_takes parts (λ values rest. made (step.0.0, values) rest) step.0.1 y sound.1 step.2 in
    record {
      values = (step.0.0, later.values);
      left = later.left;
      text = here.text_is ∙ ap (λ (b : List ℕ). field_text f step.0.0 ++ b) later.text;
      fits = (here.fits, later.fits);
      then = later.then;
    }

-- the bytes begin with the text of a value that fits, and then comes the rest
pub record Finds {T : Type 0} (text : T → List ℕ → List ℕ) (Fits : T → Type 0) (bytes : List ℕ) (value : T)
    (rest : List ℕ) : Type 0 where
  pub text_is : bytes ≡ text value rest
  pub fits : Fits value

-- the end of a line is read back, whatever stands behind it
pub record IsLine {T : Type 0} (at : List ℕ → Option (T × List ℕ)) (text : T → List ℕ → List ℕ) (Fits : T → Type 0)
    : Type 0 where
  pub again : (value : T) (rest : List ℕ) → Fits value → at (text value rest) ≡ Some (value, rest)
  pub takes : (bytes : List ℕ) (value : T) (rest : List ℕ) → at bytes ≡ Some (value, rest) →
      Finds text Fits bytes value rest

-- what is found of a value is found of one that is equal
pub found_as : {T : Type 0} (text : T → List ℕ → List ℕ) (Fits : T → Type 0) (bytes : List ℕ) (made value : T)
    (left rest : List ℕ) → Finds text Fits bytes made left →
    ◌≡◌ {A = Option (T × List ℕ)} (Some (made, left)) (Some (value, rest)) → Finds text Fits bytes value rest
found_as {T} text Fits bytes made value left rest found is =
    let parts : (made ≡ value) × (left ≡ rest) = some_pair_parts made value left rest is in
    subst (λ (v : T). Finds text Fits bytes v rest) parts.0
    (subst (λ (r : List ℕ). Finds text Fits bytes made r) parts.1 found)

-- a line that is just its parts
pub plain_line : {T : Type 0} (at : List ℕ → Option (T × List ℕ)) (text : T → List ℕ → List ℕ) (parts : List Part)
    (values_of : T → Values parts) (made : Values parts → T) → AreSound parts →
    ((bytes : List ℕ) → at bytes ≡ reads parts (λ values left. Some (made values, left)) bytes) →
    ((value : T) (rest : List ℕ) → text value rest ≡ spelled parts (values_of value) rest) →
    ((value : T) → made (values_of value) ≡ value) → ((values : Values parts) → values_of (made values) ≡ values) →
    ((value : T) (rest : List ℕ) → Cut parts (values_of value) rest) →
    IsLine at text (λ value. Fitting parts (values_of value))
plain_line {T} at text parts values_of made sound same spells there back cut = record {
  again = λ value rest fits.
      ap at (spells value rest) ∙ same (spelled parts (values_of value) rest)
      ∙ reads_again parts (λ values left. Some (made values, left)) (values_of value) rest sound fits (cut value rest)
      ∙ ap (λ (v : T). Some (v, rest)) (there value);
  takes = λ bytes value rest is.
      (let read : ReadSo parts (λ values left. Some (made values, left)) bytes (value, rest) =
      reads_takes parts (λ values left. Some (made values, left)) bytes (value, rest) sound (sym (same bytes) ∙ is) in
      let found : Finds text (λ v. Fitting parts (values_of v)) bytes (made read.values) read.left = record {
        text_is =
            read.text ∙ ap (λ (v : Values parts). spelled parts v read.left) (sym (back read.values))
            ∙ sym (spells (made read.values) read.left);
        fits = subst (λ (v : Values parts). Fitting parts v) (sym (back read.values)) read.fits;
      } in
      found_as text (λ v. Fitting parts (values_of v)) bytes (made read.values) value read.left rest found read.then);
}
