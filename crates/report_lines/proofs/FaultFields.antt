-- The faults of an input's format can be read back.
use Rattle.std.proofs.Common.{◌≡◌, inl, inr, ℕ, ◌^◌, ◌/◌, ◌%◌, ◌<◌, ◌≤◌, false, codes, List, [], ◌∷◌, ◌++◌, length, Some, refl, sym, ap, ◌∙◌, append_assoc, subst, arith}
use Rattle.std.specs.Prelude.{decimal}
use Rattle.std.specs.List.{AllByRecursion}
use Rattle.std.specs.Fmt.{digit_glyph}
use Rattle.std.proofs.lemmas.Option.{none-some, some_pair_parts}
use Rattle.capture_faults.specs.declared.fault.CaptureFault.{CaptureFault}
use Rattle.capture_faults.specs.declared.fault.CaptureFault.TheVariants.{ReadFault as NoRead, ShortHeader, Magic, Version, LinkType, RecordLength, Memory}
use Rattle.capture_faults.specs.declared.any_fault.AnyFault.{AnyFault}
use Rattle.capture_faults.specs.declared.any_fault.AnyFault.TheVariants.{Capture, ByteOrder, BlockLength, Trailer, SectionVersion, Interface, CapturedLength, Interfaces, Blocks}
use Rattle.line_fields.specs.Reading.{HasNoDigit, hexadecimal_at, number_at}
use Rattle.line_fields.proofs.NumberLaws.{number_again}
use Rattle.line_fields.proofs.TextLemmas.{text_again}
use Rattle.line_fields.proofs.BindLemmas.{bind_some, number_then, text_then}
use Rattle.line_fields.proofs.HexLaws.{IsByteAt, hexadecimal_again, hexadecimal_takes}
use Rattle.report_text.specs.Lines.{hexadecimal}
use Rattle.report_lines.specs.Fields.{most_16, most_32, most_64, made_at, many_at, four_at, version_at, place_at, section_at, order_bytes_at, capture_at, packet_fault_at, fault_at}
use Rattle.report_lines.proofs.FieldLaws.{IsField, Takes, or_takes, numbered_takes, numbered_again, numbered_text, made_again, made_takes, both_text, both_field, number_field}

-- Four bytes.

abbrev pub FourFit : List ℕ → Type 0
FourFit bytes = (length bytes ≡ 4) × AllByRecursion (λ byte. byte < 2 ^ 8) bytes

four_spelled : (a b c d : ℕ) (rest : List ℕ) →
    hexadecimal (a ∷ b ∷ c ∷ d ∷ []) ++ rest
    ≡ digit_glyph false (a / 16) ∷ digit_glyph false (a % 16) ∷ digit_glyph false (b / 16) ∷ digit_glyph false (b % 16)
    ∷ digit_glyph false (c / 16) ∷ digit_glyph false (c % 16) ∷ digit_glyph false (d / 16) ∷ digit_glyph false (d % 16)
    ∷ rest
unfolding hexadecimal
four_spelled a b c d rest = refl

four_again : (bytes : List ℕ) (rest : List ℕ) → length bytes ≡ 4 → AllByRecursion (λ byte. byte < 2 ^ 8) bytes →
    four_at (hexadecimal bytes ++ rest) ≡ Some (bytes, rest)
unfolding four_at
four_again (a ∷ b ∷ c ∷ d ∷ []) rest long (fa, (fb, (fc, (fd, none)))) =
    ap four_at (four_spelled a b c d rest)
    ∙ rw (
      hexadecimal_again a (digit_glyph false (b / 16) ∷ digit_glyph false (b % 16)
          ∷ digit_glyph false (c / 16) ∷ digit_glyph false (c % 16) ∷ digit_glyph false (d / 16) ∷ digit_glyph false
          (d % 16)
          ∷ rest) fa,
      hexadecimal_again b (digit_glyph false (c / 16) ∷ digit_glyph false (c % 16)
          ∷ digit_glyph false (d / 16) ∷ digit_glyph false (d % 16) ∷ rest) fb,
      hexadecimal_again c (digit_glyph false (d / 16) ∷ digit_glyph false (d % 16) ∷ rest) fc,
      hexadecimal_again d rest fd,
    ) refl
four_again [] rest long fits = absurd (omega (arith, long))
four_again (a ∷ []) rest long fits = absurd (omega (arith, long))
four_again (a ∷ b ∷ []) rest long fits = absurd (omega (arith, long))
four_again (a ∷ b ∷ c ∷ []) rest long fits = absurd (omega (arith, long))
four_again (a ∷ b ∷ c ∷ d ∷ e ∷ more) rest long fits = absurd (omega (arith, long))

made_four : ℕ → ℕ → ℕ → ℕ → List ℕ
made_four a b c d = a ∷ b ∷ c ∷ d ∷ []

four_takes : (bytes found : List ℕ) (rest : List ℕ) → four_at bytes ≡ Some (found, rest) →
    Takes hexadecimal FourFit bytes found rest
unfolding four_at made_four
four_takes bytes found rest read =
    let s1 = bind_some (hexadecimal_at bytes) _ (found, rest) read in
    let b1 : IsByteAt bytes s1.0.0 s1.0.1 = hexadecimal_takes bytes s1.0.0 s1.0.1 s1.1 in
    let s2 = bind_some (hexadecimal_at s1.0.1) _ (found, rest) s1.2 in
    let b2 : IsByteAt s1.0.1 s2.0.0 s2.0.1 = hexadecimal_takes s1.0.1 s2.0.0 s2.0.1 s2.1 in
    let s3 = bind_some (hexadecimal_at s2.0.1) _ (found, rest) s2.2 in
    let b3 : IsByteAt s2.0.1 s3.0.0 s3.0.1 = hexadecimal_takes s2.0.1 s3.0.0 s3.0.1 s3.1 in
    let s4 = bind_some (hexadecimal_at s3.0.1) _ (found, rest) s3.2 in
    let b4 : IsByteAt s3.0.1 s4.0.0 s4.0.1 = hexadecimal_takes s3.0.1 s4.0.0 s4.0.1 s4.1 in
    let parts : (made_four s1.0.0 s2.0.0 s3.0.0 s4.0.0 ≡ found) × (s4.0.1 ≡ rest) =
    some_pair_parts (made_four s1.0.0 s2.0.0 s3.0.0 s4.0.0) found s4.0.1 rest s4.2 in
    let text : bytes ≡ hexadecimal (s1.0.0 ∷ s2.0.0 ∷ s3.0.0 ∷ s4.0.0 ∷ []) ++ s4.0.1 =
    b1.text
    ∙ ap (λ (r : List ℕ). digit_glyph false (s1.0.0 / 16) ∷ digit_glyph false (s1.0.0 % 16) ∷ r) (b2.text
    ∙ ap (λ (r : List ℕ). digit_glyph false (s2.0.0 / 16) ∷ digit_glyph false (s2.0.0 % 16) ∷ r) (b3.text
    ∙ ap (λ (r : List ℕ). digit_glyph false (s3.0.0 / 16) ∷ digit_glyph false (s3.0.0 % 16) ∷ r) b4.text))
    ∙ sym (four_spelled s1.0.0 s2.0.0 s3.0.0 s4.0.0 s4.0.1) in
    let whole : Takes hexadecimal FourFit bytes (made_four s1.0.0 s2.0.0 s3.0.0 s4.0.0) s4.0.1 = record {
      text_is = text;
      fits = (refl, (b1.small, (b2.small, (b3.small, (b4.small, tt)))));
    } in
    subst (λ (v : List ℕ). Takes hexadecimal FourFit bytes v rest) parts.0
    (subst (λ (r : List ℕ). Takes hexadecimal FourFit bytes (made_four s1.0.0 s2.0.0 s3.0.0 s4.0.0) r) parts.1 whole)

four_field : IsField four_at hexadecimal FourFit
four_field = record { again = λ value rest fits end. four_again value rest fits.0 fits.1; takes = four_takes }

-- Numbers beside one another.

abbrev pub version_text : ℕ × ℕ → List ℕ
version_text found = both_text decimal (codes ".") decimal found

abbrev VersionFits : ℕ × ℕ → Type 0
VersionFits found = (found.0 ≤ most_16) × (found.1 ≤ most_16)

version_field : IsField version_at version_text VersionFits
unfolding version_at
version_field =
    both_field (number_at most_16) decimal (λ n. n ≤ most_16) (number_at most_16) decimal (λ n. n ≤ most_16) (codes ".")
    (number_field most_16 (omega arith)) (λ rest. refl) (number_field most_16 (omega arith))

abbrev pub place_text : ℕ × ℕ → List ℕ
place_text at = both_text decimal (codes " found ") decimal at

abbrev PlaceFits : ℕ × ℕ → Type 0
PlaceFits at = (at.0 ≤ most_64) × (at.1 ≤ most_32)

place_field : IsField place_at place_text PlaceFits
unfolding place_at
place_field =
    both_field (number_at most_64) decimal (λ n. n ≤ most_64) (number_at most_32) decimal (λ n. n ≤ most_32)
    (codes " found ") (number_field most_64 (omega arith)) (λ rest. refl) (number_field most_32 (omega arith))

abbrev pub section_text : ℕ × (ℕ × ℕ) → List ℕ
section_text at = both_text decimal (codes " found ") version_text at

abbrev SectionFits : ℕ × (ℕ × ℕ) → Type 0
SectionFits at = (at.0 ≤ most_64) × VersionFits at.1

section_field : IsField section_at section_text SectionFits
unfolding section_at
section_field =
    both_field (number_at most_64) decimal (λ n. n ≤ most_64) version_at version_text VersionFits (codes " found ")
    (number_field most_64 (omega arith)) (λ rest. refl) version_field

abbrev pub order_bytes_text : ℕ × List ℕ → List ℕ
order_bytes_text at = both_text decimal (codes " found ") hexadecimal at

abbrev OrderFits : ℕ × List ℕ → Type 0
OrderFits at = (at.0 ≤ most_64) × FourFit at.1

order_field : IsField order_bytes_at order_bytes_text OrderFits
unfolding order_bytes_at
order_field =
    both_field (number_at most_64) decimal (λ n. n ≤ most_64) four_at hexadecimal FourFit (codes " found ")
    (number_field most_64 (omega arith)) (λ rest. refl) four_field

-- A fault of a savefile's format.

abbrev pub capture_text : CaptureFault → List ℕ
capture_text (ShortHeader have) = codes "short-header at 0 found " ++ decimal have
capture_text (Magic bytes) = codes "magic at 0 found " ++ hexadecimal bytes
capture_text (Version major minor) = codes "version at 4 found " ++ version_text (major, minor)
capture_text (LinkType found) = codes "link at 20 found " ++ decimal found
capture_text (RecordLength offset found) = codes "length at " ++ place_text (offset, found)
capture_text NoRead = []
capture_text Memory = []

abbrev pub CaptureFits : CaptureFault → Type 0
CaptureFits (ShortHeader have) = have ≤ most_32
CaptureFits (Magic bytes) = FourFit bytes
CaptureFits (Version major minor) = (major ≤ most_16) × (minor ≤ most_16)
CaptureFits (LinkType found) = found ≤ most_16
CaptureFits (RecordLength offset found) = (offset ≤ most_64) × (found ≤ most_32)
CaptureFits NoRead = ⊥
CaptureFits Memory = ⊥

capture_again : (fault : CaptureFault) (rest : List ℕ) → CaptureFits fault → HasNoDigit rest →
    capture_at (capture_text fault ++ rest) ≡ Some (fault, rest)
unfolding capture_at
capture_again (ShortHeader have) rest fits end =
    numbered_again most_32 (λ n. ShortHeader n) have rest (omega arith) fits end
capture_again (Magic bytes) rest fits end =
    made_again four_at hexadecimal FourFit four_field (λ b. Magic b) bytes rest fits end
capture_again (Version major minor) rest fits end =
    made_again version_at version_text VersionFits version_field (λ v. Version v.0 v.1) (major, minor) rest fits end
capture_again (LinkType found) rest fits end =
    numbered_again most_16 (λ n. LinkType n) found rest (omega arith) fits end
capture_again (RecordLength offset found) rest fits end =
    made_again place_at place_text PlaceFits place_field (λ at. RecordLength at.0 at.1) (offset, found) rest fits end
capture_again NoRead rest fits end = absurd fits
capture_again Memory rest fits end = absurd fits

capture_takes : (bytes : List ℕ) (fault : CaptureFault) (rest : List ℕ) → capture_at bytes ≡ Some (fault, rest) →
    Takes capture_text CaptureFits bytes fault rest
unfolding capture_at
capture_takes bytes fault rest is =
    elim (or_takes (codes "short-header at 0 found ") bytes _ _ (fault, rest) is) [
      | inl (left, text, read) ↦
          numbered_text capture_text CaptureFits most_32 (λ n. ShortHeader n) (codes "short-header at 0 found ") bytes
          left fault rest (λ n. refl) (λ n within. within) text
          (numbered_takes most_32 (λ n. ShortHeader n) left fault rest (omega arith) read)
      | inr a ↦ elim (or_takes (codes "magic at 0 found ") bytes _ _ (fault, rest) a) [
        | inl (left, text, read) ↦
            made_takes four_at hexadecimal FourFit four_field capture_text CaptureFits (λ b. Magic b)
            (codes "magic at 0 found ") bytes left fault rest (λ b. refl) (λ b fits. fits) text read
        | inr b ↦ elim (or_takes (codes "version at 4 found ") bytes _ _ (fault, rest) b) [
          | inl (left, text, read) ↦
              made_takes version_at version_text VersionFits version_field capture_text CaptureFits
              (λ v. Version v.0 v.1) (codes "version at 4 found ") bytes left fault rest (λ v. refl) (λ v fits. fits)
              text read
          | inr c ↦ elim (or_takes (codes "link at 20 found ") bytes _ _ (fault, rest) c) [
            | inl (left, text, read) ↦
                numbered_text capture_text CaptureFits most_16 (λ n. LinkType n) (codes "link at 20 found ") bytes left
                fault rest (λ n. refl) (λ n within. within) text
                (numbered_takes most_16 (λ n. LinkType n) left fault rest (omega arith) read)
            | inr d ↦ elim (or_takes (codes "length at ") bytes _ _ (fault, rest) d) [
              | inl (left, text, read) ↦
                  made_takes place_at place_text PlaceFits place_field capture_text CaptureFits
                  (λ at. RecordLength at.0 at.1) (codes "length at ") bytes left fault rest (λ at. refl)
                  (λ at fits. fits) text read
              | inr none ↦ absurd (none-some (fault, rest) none)
            ]
          ]
        ]
      ]
    ]

capture_field : IsField capture_at capture_text CaptureFits
capture_field = record { again = capture_again; takes = capture_takes }

-- A fault of an input's format.

abbrev pub fault_text : AnyFault → List ℕ
fault_text (Capture fault) = capture_text fault
fault_text (ByteOrder offset bytes) = codes "byte-order at " ++ order_bytes_text (offset, bytes)
fault_text (BlockLength offset found) = codes "block-length at " ++ place_text (offset, found)
fault_text (Trailer offset found) = codes "trailer at " ++ place_text (offset, found)
fault_text (SectionVersion offset major minor) = codes "section-version at " ++ section_text (offset, (major, minor))
fault_text (Interface offset found) = codes "interface at " ++ place_text (offset, found)
fault_text (CapturedLength offset found) = codes "captured-length at " ++ place_text (offset, found)
fault_text (Interfaces offset) = codes "interfaces at " ++ (decimal offset ++ codes " found 257")
fault_text (Blocks offset) = codes "blocks at " ++ (decimal offset ++ codes " found 4000001")

abbrev pub FaultFits : AnyFault → Type 0
FaultFits (Capture fault) = CaptureFits fault
FaultFits (ByteOrder offset bytes) = (offset ≤ most_64) × FourFit bytes
FaultFits (BlockLength offset found) = (offset ≤ most_64) × (found ≤ most_32)
FaultFits (Trailer offset found) = (offset ≤ most_64) × (found ≤ most_32)
FaultFits (SectionVersion offset major minor) = (offset ≤ most_64) × ((major ≤ most_16) × (minor ≤ most_16))
FaultFits (Interface offset found) = (offset ≤ most_64) × (found ≤ most_32)
FaultFits (CapturedLength offset found) = (offset ≤ most_64) × (found ≤ most_32)
FaultFits (Interfaces offset) = offset ≤ most_64
FaultFits (Blocks offset) = offset ≤ most_64

many_again : (known : List ℕ) (made : ℕ → AnyFault) (offset : ℕ) (rest : List ℕ) →
    ((r : List ℕ) → HasNoDigit (known ++ r)) → offset ≤ most_64 →
    many_at known made ((decimal offset ++ known) ++ rest) ≡ Some (made offset, rest)
many_again known made offset rest cut fits =
    ap (many_at known made) (append_assoc (decimal offset) known rest)
    ∙ rw (number_again most_64 offset (known ++ rest) fits (omega arith) (cut rest), text_again known rest) refl

many_takes : (known : List ℕ) (made : ℕ → AnyFault) (begun bytes behind : List ℕ) (fault : AnyFault) (rest : List ℕ) →
    ((n : ℕ) → fault_text (made n) ≡ begun ++ (decimal n ++ known)) →
    ((n : ℕ) → n ≤ most_64 → FaultFits (made n)) → bytes ≡ begun ++ behind →
    many_at known made behind ≡ Some (fault, rest) → Takes fault_text FaultFits bytes fault rest
many_takes known made begun bytes behind fault rest spelled fit is read =
    let s1 = number_then most_64 behind _ (fault, rest) (omega arith) read in
    let s2 = text_then known s1.left _ (fault, rest) s1.then in
    let parts : (made s1.number ≡ fault) × (s2.left ≡ rest) =
    some_pair_parts (made s1.number) fault s2.left rest s2.then in
    let whole : Takes fault_text FaultFits bytes (made s1.number) s2.left = record {
      text_is =
          is
          ∙ ap (λ (b : List ℕ). begun ++ b) (s1.at.text ∙ ap (λ (b : List ℕ). decimal s1.number ++ b) s2.at
          ∙ sym (append_assoc (decimal s1.number) known s2.left))
          ∙ sym (append_assoc begun (decimal s1.number ++ known) s2.left)
          ∙ ap (λ (b : List ℕ). b ++ s2.left) (sym (spelled s1.number));
      fits = fit s1.number s1.at.within;
    } in
    subst (λ (v : AnyFault). Takes fault_text FaultFits bytes v rest) parts.0
    (subst (λ (r : List ℕ). Takes fault_text FaultFits bytes (made s1.number) r) parts.1 whole)

-- a fault of a savefile is no other
captured : (fault : CaptureFault) (rest : List ℕ) → CaptureFits fault → HasNoDigit rest →
    made_at capture_at (λ f. Capture f) (capture_text fault ++ rest) ≡ Some (Capture fault, rest)
captured fault rest fits end =
    made_again capture_at capture_text CaptureFits capture_field (λ f. Capture f) fault rest fits end

placed : (made : ℕ → ℕ → AnyFault) (offset found : ℕ) (rest : List ℕ) → PlaceFits (offset, found) → HasNoDigit rest →
    made_at place_at (λ at. made at.0 at.1) (place_text (offset, found) ++ rest) ≡ Some (made offset found, rest)
placed made offset found rest fits end =
    made_again place_at place_text PlaceFits place_field (λ at. made at.0 at.1) (offset, found) rest fits end

fault_again : (fault : AnyFault) (rest : List ℕ) → FaultFits fault → HasNoDigit rest →
    fault_at (fault_text fault ++ rest) ≡ Some (fault, rest)
unfolding fault_at packet_fault_at
fault_again (Capture (ShortHeader have)) rest fits end = captured (ShortHeader have) rest fits end
fault_again (Capture (Magic bytes)) rest fits end = captured (Magic bytes) rest fits end
fault_again (Capture (Version major minor)) rest fits end = captured (Version major minor) rest fits end
fault_again (Capture (LinkType found)) rest fits end = captured (LinkType found) rest fits end
fault_again (Capture (RecordLength offset found)) rest fits end = captured (RecordLength offset found) rest fits end
fault_again (Capture NoRead) rest fits end = absurd fits
fault_again (Capture Memory) rest fits end = absurd fits
fault_again (ByteOrder offset bytes) rest fits end =
    made_again order_bytes_at order_bytes_text OrderFits order_field (λ at. ByteOrder at.0 at.1) (offset, bytes) rest
    fits end
fault_again (BlockLength offset found) rest fits end = placed (λ o f. BlockLength o f) offset found rest fits end
fault_again (Trailer offset found) rest fits end = placed (λ o f. Trailer o f) offset found rest fits end
fault_again (SectionVersion offset major minor) rest fits end =
    made_again section_at section_text SectionFits section_field (λ at. SectionVersion at.0 at.1.0 at.1.1)
    (offset, (major, minor)) rest fits end
fault_again (Interface offset found) rest fits end = placed (λ o f. Interface o f) offset found rest fits end
fault_again (CapturedLength offset found) rest fits end = placed (λ o f. CapturedLength o f) offset found rest fits end
fault_again (Interfaces offset) rest fits end =
    many_again (codes " found 257") (λ n. Interfaces n) offset rest (λ r. refl) fits
fault_again (Blocks offset) rest fits end =
    many_again (codes " found 4000001") (λ n. Blocks n) offset rest (λ r. refl) fits

placed_takes : (made : ℕ → ℕ → AnyFault) (begun bytes behind : List ℕ) (fault : AnyFault) (rest : List ℕ) →
    ((at : ℕ × ℕ) → fault_text (made at.0 at.1) ≡ begun ++ place_text at) →
    ((at : ℕ × ℕ) → PlaceFits at → FaultFits (made at.0 at.1)) → bytes ≡ begun ++ behind →
    made_at place_at (λ at. made at.0 at.1) behind ≡ Some (fault, rest) → Takes fault_text FaultFits bytes fault rest
placed_takes made begun bytes behind fault rest spelled fit is read =
    made_takes place_at place_text PlaceFits place_field fault_text FaultFits (λ at. made at.0 at.1) begun bytes behind
    fault rest spelled fit is read

packet_fault_takes : (bytes : List ℕ) (fault : AnyFault) (rest : List ℕ) →
    packet_fault_at bytes ≡ Some (fault, rest) → Takes fault_text FaultFits bytes fault rest
unfolding packet_fault_at
packet_fault_takes bytes fault rest is =
    elim (or_takes (codes "interface at ") bytes _ _ (fault, rest) is) [
      | inl (left, text, read) ↦
          placed_takes (λ o f. Interface o f) (codes "interface at ") bytes left fault rest (λ at. refl)
          (λ at fits. fits) text read
      | inr a ↦ elim (or_takes (codes "captured-length at ") bytes _ _ (fault, rest) a) [
        | inl (left, text, read) ↦
            placed_takes (λ o f. CapturedLength o f) (codes "captured-length at ") bytes left fault rest (λ at. refl)
            (λ at fits. fits) text read
        | inr b ↦ elim (or_takes (codes "interfaces at ") bytes _ _ (fault, rest) b) [
          | inl (left, text, read) ↦
              many_takes (codes " found 257") (λ n. Interfaces n) (codes "interfaces at ") bytes left fault rest
              (λ n. refl) (λ n within. within) text read
          | inr c ↦ elim (or_takes (codes "blocks at ") bytes _ _ (fault, rest) c) [
            | inl (left, text, read) ↦
                many_takes (codes " found 4000001") (λ n. Blocks n) (codes "blocks at ") bytes left fault rest
                (λ n. refl) (λ n within. within) text read
            | inr d ↦
                made_takes capture_at capture_text CaptureFits capture_field fault_text FaultFits (λ f. Capture f) []
                bytes bytes fault rest (λ f. refl) (λ f fits. fits) refl d
          ]
        ]
      ]
    ]

fault_takes : (bytes : List ℕ) (fault : AnyFault) (rest : List ℕ) → fault_at bytes ≡ Some (fault, rest) →
    Takes fault_text FaultFits bytes fault rest
unfolding fault_at
fault_takes bytes fault rest is =
    elim (or_takes (codes "byte-order at ") bytes _ _ (fault, rest) is) [
      | inl (left, text, read) ↦
          made_takes order_bytes_at order_bytes_text OrderFits order_field fault_text FaultFits
          (λ at. ByteOrder at.0 at.1) (codes "byte-order at ") bytes left fault rest (λ at. refl) (λ at fits. fits)
          text read
      | inr a ↦ elim (or_takes (codes "block-length at ") bytes _ _ (fault, rest) a) [
        | inl (left, text, read) ↦
            placed_takes (λ o f. BlockLength o f) (codes "block-length at ") bytes left fault rest (λ at. refl)
            (λ at fits. fits) text read
        | inr b ↦ elim (or_takes (codes "trailer at ") bytes _ _ (fault, rest) b) [
          | inl (left, text, read) ↦
              placed_takes (λ o f. Trailer o f) (codes "trailer at ") bytes left fault rest (λ at. refl)
              (λ at fits. fits) text read
          | inr c ↦ elim (or_takes (codes "section-version at ") bytes _ _ (fault, rest) c) [
            | inl (left, text, read) ↦
                made_takes section_at section_text SectionFits section_field fault_text FaultFits
                (λ at. SectionVersion at.0 at.1.0 at.1.1) (codes "section-version at ") bytes left fault rest
                (λ at. refl) (λ at fits. fits) text read
            | inr d ↦ packet_fault_takes bytes fault rest d
          ]
        ]
      ]
    ]

pub fault_field : IsField fault_at fault_text FaultFits
fault_field = record { again = fault_again; takes = fault_takes }
