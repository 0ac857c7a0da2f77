-- The fields of a call's line can be read back.
use Rattle.std.proofs.Common.{◌≡◌, inl, inr, ℕ, ◌≤◌, ◌==◌, true, codes, List, ◌++◌, Some, refl, sym, ap, ◌∙◌, arith}
use Rattle.std.specs.Prelude.{decimal}
use Rattle.std.proofs.lemmas.Option.{none-some, cond_some}
use Rattle.std.proofs.lemmas.Bool.{eqb-true, eq-eqb}
use Rattle.plain_map.specs.declared.keys.Key.{Key}
use Rattle.plain_map.specs.declared.calls.Call.{Call}
use Rattle.plain_map.specs.declared.calls.Call.TheVariants.{Insert, Remove, Lookup, Tally, Count, Put}
use Rattle.plain_map.specs.declared.calls.Reply.{Reply}
use Rattle.plain_map.specs.declared.calls.Reply.TheVariants.{New, Old, NoRoom, Gone, Found, Absent, Sum}
use Rattle.plain_map.specs.declared.full.FullKind.{FullKind}
use Rattle.plain_map.specs.declared.full.FullKind.TheVariants.{OpRows, BucketRows, BucketWords, DirRows}
use Rattle.plain_map.specs.Calls.{key_in}
use Rattle.key_texts.specs.Inserts.{InsertsOnly}
use Rattle.key_texts.specs.FlowText.{flow_text}
use Rattle.line_fields.specs.Reading.{HasNoDigit, number_at}
use Rattle.line_fields.proofs.NumberLaws.{number_again}
use Rattle.line_fields.proofs.BindLemmas.{number_then}
use Rattle.flow_reading.specs.Flows.{IsFlow, flow_at}
use Rattle.flow_reading.proofs.KeyLaws.{IsFlowAt, flow_again, flow_takes}
use Rattle.report_text.specs.Report.{short_word}
use Rattle.report_told.specs.Rules.{amount_in}
use Rattle.report_lines.specs.Fields.{counted_at, tallied_at, new_at, most_61, most_64, verb_at, reply_at, kind_at}
use Rattle.report_lines.proofs.FieldLaws.{IsField, Takes, or_takes, numbered_takes, numbered_again, numbered_text, known_text, made_again, made_takes, both_text, both_field, number_field}
use Rattle.report_lines.proofs.HeadFields.{Always}

-- A verb and a key.

-- a key is a field
pub flow_field : IsField flow_at flow_text IsFlow
flow_field = record {
  again = λ value rest fits end. flow_again value rest fits;
  takes = λ bytes value rest is.
      (let at : IsFlowAt bytes value rest = flow_takes bytes value rest is in
      record { text_is = at.text; fits = at.flow });
}

-- a key and the bytes of a tally
abbrev pub tallied_text : Key × ℕ → List ℕ
tallied_text told = both_text flow_text (codes " by ") decimal told

abbrev TalliedFits : Key × ℕ → Type 0
TalliedFits told = IsFlow told.0 × (told.1 ≤ most_64)

tallied_field : IsField tallied_at tallied_text TalliedFits
tallied_field =
    both_field flow_at flow_text IsFlow (number_at most_64) decimal (λ n. n ≤ most_64) (codes " by ") flow_field
    (λ rest. refl) (number_field most_64 (omega arith))

-- the same of a count
abbrev CountedFits : Key × ℕ → Type 0
CountedFits told = IsFlow told.0 × (told.1 ≤ most_61)

counted_field : IsField counted_at tallied_text CountedFits
counted_field =
    both_field flow_at flow_text IsFlow (number_at most_61) decimal (λ n. n ≤ most_61) (codes " by ") flow_field
    (λ rest. refl) (number_field most_61 (omega arith))

abbrev pub verb_text : Call → List ℕ
verb_text (Insert key value) = codes " insert " ++ flow_text key
verb_text (Remove key) = codes " remove " ++ flow_text key
verb_text (Lookup key) = codes " lookup " ++ flow_text key
verb_text (Tally key amount) = codes " tally " ++ tallied_text (key, amount)
verb_text (Count key value amount) = codes " count " ++ tallied_text (key, amount)
verb_text (Put key value) = codes " put " ++ flow_text key

-- a report tells any call but a put
abbrev pub IsTold : Call → Type 0
IsTold (Insert key value) = Unit {0}
IsTold (Remove key) = Unit {0}
IsTold (Lookup key) = Unit {0}
IsTold (Tally key amount) = Unit {0}
IsTold (Count key value amount) = Unit {0}
IsTold (Put key value) = ⊥

-- the most bytes that a call brings
abbrev pub most_amount : Call → ℕ
most_amount (Insert key value) = most_64
most_amount (Remove key) = most_64
most_amount (Lookup key) = most_64
most_amount (Tally key amount) = most_64
most_amount (Count key value amount) = most_61
most_amount (Put key value) = most_64

pub record IsVerb (packet : ℕ) (call : Call) : Type 0 where
  pub flow : IsFlow (key_in call)
  pub told : IsTold call
  pub value : InsertsOnly packet call
  pub amount : amount_in call ≤ most_amount call

verb_again : (packet : ℕ) (call : Call) (rest : List ℕ) → IsVerb packet call → HasNoDigit rest →
    verb_at packet (verb_text call ++ rest) ≡ Some (call, rest)
unfolding verb_at
verb_again packet (Insert key value) rest is end =
    made_again flow_at flow_text IsFlow flow_field (λ k. Insert k packet) key rest is.flow end
    ∙ ap (λ (n : ℕ). Some (Insert key n, rest)) (sym is.value)
verb_again packet (Remove key) rest is end =
    made_again flow_at flow_text IsFlow flow_field (λ k. Remove k) key rest is.flow end
verb_again packet (Lookup key) rest is end =
    made_again flow_at flow_text IsFlow flow_field (λ k. Lookup k) key rest is.flow end
verb_again packet (Tally key amount) rest is end =
    made_again tallied_at tallied_text TalliedFits tallied_field (λ told. Tally told.0 told.1) (key, amount) rest
    (is.flow, is.amount) end
verb_again packet (Count key value amount) rest is end =
    made_again counted_at tallied_text CountedFits counted_field (λ told. Count told.0 packet told.1) (key, amount) rest
    (is.flow, is.amount) end
    ∙ ap (λ (n : ℕ). Some (Count key n amount, rest)) (sym is.value)
verb_again packet (Put key value) rest is end = absurd is.told

verb_takes : (packet : ℕ) (bytes : List ℕ) (call : Call) (rest : List ℕ) → verb_at packet bytes ≡ Some (call, rest) →
    Takes verb_text (IsVerb packet) bytes call rest
unfolding verb_at
verb_takes packet bytes call rest is =
    elim (or_takes (codes " insert ") bytes _ _ (call, rest) is) [
      | inl (left, text, read) ↦
          made_takes flow_at flow_text IsFlow flow_field verb_text (IsVerb packet) (λ k. Insert k packet)
          (codes " insert ") bytes left call rest (λ k. refl)
          (λ k flow. record { flow = flow; told = tt; value = refl; amount = omega arith }) text read
      | inr other ↦ elim (or_takes (codes " remove ") bytes _ _ (call, rest) other) [
        | inl (left, text, read) ↦
            made_takes flow_at flow_text IsFlow flow_field verb_text (IsVerb packet) (λ k. Remove k) (codes " remove ")
            bytes left call rest (λ k. refl)
            (λ k flow. record { flow = flow; told = tt; value = tt; amount = omega arith }) text read
        | inr another ↦ elim (or_takes (codes " lookup ") bytes _ _ (call, rest) another) [
          | inl (left, text, read) ↦
              made_takes flow_at flow_text IsFlow flow_field verb_text (IsVerb packet) (λ k. Lookup k)
              (codes " lookup ") bytes left call rest (λ k. refl)
              (λ k flow. record { flow = flow; told = tt; value = tt; amount = omega arith }) text read
          | inr last ↦ elim (or_takes (codes " tally ") bytes _ _ (call, rest) last) [
            | inl (left, text, read) ↦
                made_takes tallied_at tallied_text TalliedFits tallied_field verb_text (IsVerb packet)
                (λ told. Tally told.0 told.1) (codes " tally ") bytes left call rest (λ told. refl)
                (λ told fits. record { flow = fits.0; told = tt; value = tt; amount = fits.1 }) text read
            | inr count ↦ elim (or_takes (codes " count ") bytes _ _ (call, rest) count) [
              | inl (left, text, read) ↦
                  made_takes counted_at tallied_text CountedFits counted_field verb_text (IsVerb packet)
                  (λ told. Count told.0 packet told.1) (codes " count ") bytes left call rest (λ told. refl)
                  (λ told fits. record { flow = fits.0; told = tt; value = refl; amount = fits.1 }) text read
              | inr none ↦ absurd (none-some (call, rest) none)
            ]
          ]
        ]
      ]
    ]

-- it is a number of 64 bits
pub amount_small : (call : Call) → amount_in call ≤ most_amount call → amount_in call ≤ most_64
amount_small (Insert key value) fits = fits
amount_small (Remove key) fits = fits
amount_small (Lookup key) fits = fits
amount_small (Tally key amount) fits = fits
amount_small (Count key value amount) fits = omega (arith, fits)
amount_small (Put key value) fits = fits

pub verb_field : (packet : ℕ) → IsField (verb_at packet) verb_text (IsVerb packet)
verb_field packet = record { again = verb_again packet; takes = verb_takes packet }

-- A reply.

abbrev pub reply_text : (packet : ℕ) → Reply → List ℕ
reply_text packet New = codes " new " ++ decimal packet
reply_text packet (Old value) = codes " old " ++ decimal value
reply_text packet NoRoom = codes " noroom"
reply_text packet (Gone value) = codes " gone " ++ decimal value
reply_text packet (Found value) = codes " found " ++ decimal value
reply_text packet Absent = codes " absent"
reply_text packet (Sum total) = codes " sum " ++ decimal total

-- a reply's number has 64 bits
abbrev pub HasWord : Reply → Type 0
HasWord (Old value) = value ≤ most_64
HasWord (Gone value) = value ≤ most_64
HasWord (Found value) = value ≤ most_64
HasWord New = Unit {0}
HasWord NoRoom = Unit {0}
HasWord Absent = Unit {0}
HasWord (Sum total) = total ≤ most_64

new_again : (packet : ℕ) (rest : List ℕ) → packet ≤ most_64 → HasNoDigit rest →
    new_at packet (decimal packet ++ rest) ≡ Some (New, rest)
new_again packet rest within end =
    rw (number_again most_64 packet rest within (omega arith) end, eq-eqb packet packet refl) refl

reply_again : (packet : ℕ) → packet ≤ most_64 → (reply : Reply) (rest : List ℕ) → HasWord reply → HasNoDigit rest →
    reply_at packet (reply_text packet reply ++ rest) ≡ Some (reply, rest)
unfolding reply_at
reply_again packet small New rest fits end = new_again packet rest small end
reply_again packet small (Old value) rest fits end = numbered_again most_64 (λ v. Old v) value rest (omega arith) fits
    end
reply_again packet small (Gone value) rest fits end = numbered_again most_64 (λ v. Gone v) value rest (omega arith)
    fits end
reply_again packet small (Found value) rest fits end = numbered_again most_64 (λ v. Found v) value rest (omega arith)
    fits end
reply_again packet small (Sum total) rest fits end = numbered_again most_64 (λ v. Sum v) total rest (omega arith) fits
    end
reply_again packet small Absent rest fits end = refl
reply_again packet small NoRoom rest fits end = refl

new_takes : (packet : ℕ) (bytes behind : List ℕ) (reply : Reply) (rest : List ℕ) → bytes ≡ codes " new " ++ behind →
    new_at packet behind ≡ Some (reply, rest) → Takes (reply_text packet) HasWord bytes reply rest
new_takes packet bytes behind reply rest is read =
    let step = number_then most_64 behind _ (reply, rest) (omega arith) read in
    let tested : ((step.number == packet) ≡ true) × ((New, step.left) ≡ (reply, rest)) =
    cond_some _ _ _ step.then in
    let number : step.number ≡ packet = eqb-true step.number packet tested.0 in
    let text : bytes ≡ codes " new " ++ (decimal packet ++ step.left) =
    is ∙ ap (λ (b : List ℕ). codes " new " ++ b) (step.at.text ∙ ap (λ (n : ℕ). decimal n ++ step.left) number) in
    known_text (reply_text packet) HasWord New (codes " new " ++ decimal packet) bytes step.left reply rest refl tt
    text (ap (λ (x : Reply × List ℕ). Some x) tested.1)

reply_takes : (packet : ℕ) (bytes : List ℕ) (reply : Reply) (rest : List ℕ) →
    reply_at packet bytes ≡ Some (reply, rest) → Takes (reply_text packet) HasWord bytes reply rest
unfolding reply_at
reply_takes packet bytes reply rest is =
    elim (or_takes (codes " new ") bytes _ _ (reply, rest) is) [
      | inl (left, text, read) ↦ new_takes packet bytes left reply rest text read
      | inr a ↦ elim (or_takes (codes " old ") bytes _ _ (reply, rest) a) [
        | inl (left, text, read) ↦
            numbered_text (reply_text packet) HasWord most_64 (λ v. Old v) (codes " old ") bytes left reply rest
            (λ n. refl) (λ n within. within) text
            (numbered_takes most_64 (λ v. Old v) left reply rest (omega arith) read)
        | inr b ↦ elim (or_takes (codes " found ") bytes _ _ (reply, rest) b) [
          | inl (left, text, read) ↦
              numbered_text (reply_text packet) HasWord most_64 (λ v. Found v) (codes " found ") bytes left reply rest
              (λ n. refl) (λ n within. within) text
              (numbered_takes most_64 (λ v. Found v) left reply rest (omega arith) read)
          | inr c ↦ elim (or_takes (codes " gone ") bytes _ _ (reply, rest) c) [
            | inl (left, text, read) ↦
                numbered_text (reply_text packet) HasWord most_64 (λ v. Gone v) (codes " gone ") bytes left reply rest
                (λ n. refl) (λ n within. within) text
                (numbered_takes most_64 (λ v. Gone v) left reply rest (omega arith) read)
            | inr d ↦ elim (or_takes (codes " absent") bytes _ _ (reply, rest) d) [
              | inl (left, text, read) ↦
                  known_text (reply_text packet) HasWord Absent (codes " absent") bytes left reply rest refl tt text
                  read
              | inr e ↦ elim (or_takes (codes " noroom") bytes _ _ (reply, rest) e) [
                | inl (left, text, read) ↦
                    known_text (reply_text packet) HasWord NoRoom (codes " noroom") bytes left reply rest refl tt text
                    read
                | inr f ↦ elim (or_takes (codes " sum ") bytes _ _ (reply, rest) f) [
                  | inl (left, text, read) ↦
                      numbered_text (reply_text packet) HasWord most_64 (λ v. Sum v) (codes " sum ") bytes left reply
                      rest
                      (λ n. refl) (λ n within. within) text
                      (numbered_takes most_64 (λ v. Sum v) left reply rest (omega arith) read)
                  | inr none ↦ absurd (none-some (reply, rest) none)
                ]
              ]
            ]
          ]
        ]
      ]
    ]

pub reply_field : (packet : ℕ) → packet ≤ most_64 → IsField (reply_at packet) (reply_text packet) HasWord
reply_field packet small = record { again = reply_again packet small; takes = reply_takes packet }

-- What there was too little of.

kind_again : (kind : FullKind) (rest : List ℕ) → kind_at (short_word kind ++ rest) ≡ Some (kind, rest)
unfolding kind_at
kind_again OpRows rest = refl
kind_again BucketRows rest = refl
kind_again BucketWords rest = refl
kind_again DirRows rest = refl

kind_takes : (bytes : List ℕ) (kind : FullKind) (rest : List ℕ) → kind_at bytes ≡ Some (kind, rest) →
    Takes short_word Always bytes kind rest
unfolding kind_at
kind_takes bytes kind rest is =
    elim (or_takes (codes "oprows") bytes _ _ (kind, rest) is) [
      | inl (left, text, read) ↦ known_text short_word Always OpRows (codes "oprows") bytes left kind rest refl tt
          text read
      | inr a ↦ elim (or_takes (codes "bucketrows") bytes _ _ (kind, rest) a) [
        | inl (left, text, read) ↦
            known_text short_word Always BucketRows (codes "bucketrows") bytes left kind rest refl tt text read
        | inr b ↦ elim (or_takes (codes "bucketwords") bytes _ _ (kind, rest) b) [
          | inl (left, text, read) ↦
              known_text short_word Always BucketWords (codes "bucketwords") bytes left kind rest refl tt text read
          | inr c ↦ elim (or_takes (codes "dirrows") bytes _ _ (kind, rest) c) [
            | inl (left, text, read) ↦
                known_text short_word Always DirRows (codes "dirrows") bytes left kind rest refl tt text read
            | inr none ↦ absurd (none-some (kind, rest) none)
          ]
        ]
      ]
    ]

pub kind_field : IsField kind_at short_word Always
kind_field = record { again = λ value rest fits end. kind_again value rest; takes = kind_takes }
