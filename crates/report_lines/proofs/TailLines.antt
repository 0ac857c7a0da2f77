-- The last lines, and a session's, can be read back.
use Rattle.std.proofs.Common.{◌≡◌, ℕ, codes, List, [], ◌∷◌, ◌++◌, Some, refl, sym, ap, ◌∙◌, append_assoc, arith}
use Rattle.std.specs.Prelude.{decimal}
use Rattle.std.specs.Fmt.{digits}
use Rattle.plain_map.specs.declared.keys.Pair.{Pair}
use Rattle.capture_faults.specs.declared.fault.CaptureFault.{CaptureFault}
use Rattle.capture_faults.specs.declared.fault.CaptureFault.TheVariants.{ReadFault as NoRead, ShortHeader, Magic, Version, LinkType, RecordLength, Memory}
use Rattle.capture_faults.specs.declared.any_fault.AnyFault.{AnyFault}
use Rattle.capture_faults.specs.declared.any_fault.AnyFault.TheVariants.{Capture, ByteOrder, BlockLength, Trailer, SectionVersion, Interface, CapturedLength, Interfaces, Blocks}
use Rattle.key_texts.specs.FlowText.{flow_text}
use Rattle.report_text.specs.Lines.{line, hexadecimal}
use Rattle.report_text.specs.Report.{session_line, input_line, ending_words, capture_words, fault_words}
use Rattle.capture_faults.specs.declared.ending.Ending.{Ending}
use Rattle.capture_faults.specs.declared.ending.Ending.TheVariants.{Done, ReadFault, Limit, Fault}
use Rattle.report_lines.specs.declared.tails.Leaves.{Leaves}
use Rattle.report_lines.specs.declared.tails.Counts.{Counts}
use Rattle.report_lines.specs.declared.tails.Steps.{Steps}
use Rattle.report_lines.specs.Fields.{most_32, most_64}
use Rattle.report_lines.specs.Lines.{session_at, leaves_at, input_at, count_at, steps_at}
use Rattle.report_lines.proofs.Behind.{behind, line_behind}
use Rattle.report_lines.proofs.InputFields.{EndingFits, ending_text}
use Rattle.report_lines.proofs.FaultFields.{CaptureFits, FaultFits, capture_text, fault_text}
use Rattle.report_lines.proofs.PartLaws.{number, flow, ending, Part, known, field, Values, Fitting, IsLine, Finds, ReadSo, found_as, plain_line, reads_again, reads_takes}

-- A session.

abbrev session_parts : List Part
session_parts =
    known (codes "session ") ∷ field flow ∷ known (codes " ") ∷ field (number most_64) ∷ known (codes " bytes ")
    ∷ field (number most_64) ∷ known (codes "\n") ∷ []

abbrev pub SessionFits : Pair → Type 0
SessionFits pair = Fitting session_parts (pair.key, (pair.value, (pair.bytes, tt)))

abbrev pub session_text : Pair → List ℕ → List ℕ
session_text pair rest = session_line pair ++ rest

pub session_is_line : IsLine session_at session_text SessionFits
unfolding session_at session_line
session_is_line =
    plain_line session_at session_text session_parts (λ pair. (pair.key, (pair.value, (pair.bytes, tt))))
    (λ values. record { key = values.0; value = values.1.0; bytes = values.1.1.0 }) (omega arith) (λ bytes. refl)
    (λ pair rest. line_behind (codes "session")
    (flow_text pair.key ∷ decimal pair.value ∷ codes "bytes" ∷ decimal pair.bytes ∷ []) rest)
    (λ pair. refl) (λ values. refl) (λ pair rest. (refl, (refl, (refl, tt))))

-- The leaves.

abbrev pub leaves_words : Leaves → List (List ℕ)
leaves_words told = decimal told.leaves ∷ codes "depth" ∷ decimal told.depth ∷ []

abbrev leaves_parts : List Part
leaves_parts =
    known (codes "leaves ") ∷ field (number most_64) ∷ known (codes " depth ") ∷ field (number most_32)
    ∷ known (codes "\n") ∷ []

abbrev pub LeavesFit : Leaves → Type 0
LeavesFit told = Fitting leaves_parts (told.leaves, (told.depth, tt))

abbrev pub leaves_text : Leaves → List ℕ → List ℕ
leaves_text told rest = line (codes "leaves" ∷ leaves_words told) ++ rest

pub leaves_is_line : IsLine leaves_at leaves_text LeavesFit
unfolding leaves_at
leaves_is_line =
    plain_line leaves_at leaves_text leaves_parts (λ told. (told.leaves, (told.depth, tt)))
    (λ values. record { leaves = values.0; depth = values.1.0 }) (omega arith) (λ bytes. refl)
    (λ told rest. line_behind (codes "leaves") (leaves_words told) rest)
    (λ told. refl) (λ values. refl) (λ told rest. (refl, (refl, tt)))

-- The counts.

abbrev pub count_words : Counts → List (List ℕ)
count_words told =
    codes "packets" ∷ decimal told.packets ∷ codes "calls" ∷ decimal told.calls ∷ codes "passed" ∷ decimal told.passed
    ∷ codes "full" ∷ decimal told.full ∷ codes "pending" ∷ decimal told.pending ∷ codes "unbegun"
    ∷ decimal told.unbegun ∷ []

abbrev count_parts : List Part
count_parts =
    known (codes "count packets ") ∷ field (number most_64) ∷ known (codes " calls ") ∷ field (number most_64)
    ∷ known (codes " passed ") ∷ field (number most_64) ∷ known (codes " full ") ∷ field (number most_64)
    ∷ known (codes " pending ") ∷ field (number most_64) ∷ known (codes " unbegun ") ∷ field (number most_64)
    ∷ known (codes "\n") ∷ []

abbrev count_values : Counts → Values count_parts
count_values told =
    (told.packets, (told.calls, (told.passed, (told.full, (told.pending, (told.unbegun, tt))))))

abbrev pub CountsFit : Counts → Type 0
CountsFit told = Fitting count_parts (count_values told)

abbrev pub count_text : Counts → List ℕ → List ℕ
count_text told rest = line (codes "count" ∷ count_words told) ++ rest

pub count_is_line : IsLine count_at count_text CountsFit
unfolding count_at
count_is_line =
    plain_line count_at count_text count_parts (λ told. count_values told)
    (λ values. record {
      packets = values.0;
      calls = values.1.0;
      passed = values.1.1.0;
      full = values.1.1.1.0;
      pending = values.1.1.1.1.0;
      unbegun = values.1.1.1.1.1.0;
    }) (omega arith) (λ bytes. refl)
    (λ told rest. line_behind (codes "count") (count_words told) rest)
    (λ told. refl) (λ values. refl) (λ told rest. (refl, (refl, (refl, (refl, (refl, (refl, tt)))))))

-- The steps.

abbrev pub step_words : Steps → List (List ℕ)
step_words told =
    codes "update" ∷ decimal told.update ∷ codes "bound" ∷ decimal told.bound ∷ codes "lookup" ∷ decimal told.lookup ∷
    []

abbrev step_parts : List Part
step_parts =
    known (codes "steps update ") ∷ field (number most_64) ∷ known (codes " bound ") ∷ field (number most_64)
    ∷ known (codes " lookup ") ∷ field (number most_64) ∷ known (codes "\n") ∷ []

abbrev pub StepsFit : Steps → Type 0
StepsFit told = Fitting step_parts (told.update, (told.bound, (told.lookup, tt)))

abbrev pub steps_text : Steps → List ℕ → List ℕ
steps_text told rest = line (codes "steps" ∷ step_words told) ++ rest

pub steps_is_line : IsLine steps_at steps_text StepsFit
unfolding steps_at
steps_is_line =
    plain_line steps_at steps_text step_parts (λ told. (told.update, (told.bound, (told.lookup, tt))))
    (λ values. record { update = values.0; bound = values.1.0; lookup = values.1.1.0 }) (omega arith) (λ bytes. refl)
    (λ told rest. line_behind (codes "steps") (step_words told) rest)
    (λ told. refl) (λ values. refl) (λ told rest. (refl, (refl, (refl, tt))))

-- The input.

zero_text : decimal 0 ≡ codes "0"
unfolding digits
zero_text = refl

four_text : decimal 4 ≡ codes "4"
unfolding digits
four_text = refl

twenty_text : decimal 20 ≡ codes "20"
unfolding digits
twenty_text = refl

too_many_text : decimal 257 ≡ codes "257"
unfolding digits
too_many_text = refl

far_too_many_text : decimal 4000001 ≡ codes "4000001"
unfolding digits
far_too_many_text = refl

capture_behind : (fault : CaptureFault) (rest : List ℕ) → CaptureFits fault →
    behind (codes "fault" ∷ capture_words fault) rest ≡ codes " fault " ++ (capture_text fault ++ (10 ∷ rest))
capture_behind (ShortHeader have) rest fits = rw zero_text refl
capture_behind (Magic bytes) rest fits = rw zero_text refl
capture_behind (Version major minor) rest fits = rw four_text refl
capture_behind (LinkType found) rest fits = rw twenty_text refl
capture_behind (RecordLength offset found) rest fits =
    ap (λ (b : List ℕ). codes " fault length at " ++ b)
    (sym (append_assoc (decimal offset) (codes " found " ++ decimal found) (10 ∷ rest)))
capture_behind NoRead rest fits = absurd fits
capture_behind Memory rest fits = absurd fits

fault_behind : (fault : AnyFault) (rest : List ℕ) → FaultFits fault →
    behind (codes "fault" ∷ fault_words fault) rest ≡ codes " fault " ++ (fault_text fault ++ (10 ∷ rest))
fault_behind (Capture fault) rest fits = capture_behind fault rest fits
fault_behind (ByteOrder offset bytes) rest fits =
    ap (λ (b : List ℕ). codes " fault byte-order at " ++ b)
    (sym (append_assoc (decimal offset) (codes " found " ++ hexadecimal bytes) (10 ∷ rest)))
fault_behind (BlockLength offset found) rest fits =
    ap (λ (b : List ℕ). codes " fault block-length at " ++ b)
    (sym (append_assoc (decimal offset) (codes " found " ++ decimal found) (10 ∷ rest)))
fault_behind (Trailer offset found) rest fits =
    ap (λ (b : List ℕ). codes " fault trailer at " ++ b)
    (sym (append_assoc (decimal offset) (codes " found " ++ decimal found) (10 ∷ rest)))
fault_behind (SectionVersion offset major minor) rest fits =
    ap (λ (b : List ℕ). codes " fault section-version at " ++ b)
    (sym (append_assoc (decimal offset) (codes " found " ++ (decimal major ++ (codes "." ++ decimal minor)))
    (10 ∷ rest)))
fault_behind (Interface offset found) rest fits =
    ap (λ (b : List ℕ). codes " fault interface at " ++ b)
    (sym (append_assoc (decimal offset) (codes " found " ++ decimal found) (10 ∷ rest)))
fault_behind (CapturedLength offset found) rest fits =
    ap (λ (b : List ℕ). codes " fault captured-length at " ++ b)
    (sym (append_assoc (decimal offset) (codes " found " ++ decimal found) (10 ∷ rest)))
fault_behind (Interfaces offset) rest fits =
    ap (λ (n : List ℕ). codes " fault interfaces at " ++ (decimal offset ++ (codes " found " ++ (n ++ (10 ∷ rest)))))
    too_many_text
    ∙ ap (λ (b : List ℕ). codes " fault interfaces at " ++ b)
    (sym (append_assoc (decimal offset) (codes " found 257") (10 ∷ rest)))
fault_behind (Blocks offset) rest fits =
    ap (λ (n : List ℕ). codes " fault blocks at " ++ (decimal offset ++ (codes " found " ++ (n ++ (10 ∷ rest)))))
    far_too_many_text
    ∙ ap (λ (b : List ℕ). codes " fault blocks at " ++ b)
    (sym (append_assoc (decimal offset) (codes " found 4000001") (10 ∷ rest)))

input_behind : (ending : Ending) (rest : List ℕ) → EndingFits ending →
    behind (ending_words ending) rest ≡ 32 ∷ (ending_text ending ++ (10 ∷ rest))
input_behind (Done left) rest fits = refl
input_behind ReadFault rest fits = refl
input_behind (Limit limit) rest fits = refl
input_behind (Fault fault) rest fits = fault_behind fault rest fits

abbrev input_parts : List Part
input_parts = known (codes "input ") ∷ field ending ∷ known (codes "\n") ∷ []

abbrev pub input_text : Ending → List ℕ → List ℕ
input_text told rest = input_line told ++ rest

input_spelled : (told : Ending) (rest : List ℕ) → EndingFits told →
    input_text told rest ≡ codes "input " ++ (ending_text told ++ (10 ∷ rest))
unfolding input_line
input_spelled told rest fits =
    line_behind (codes "input") (ending_words told) rest
    ∙ ap (λ (b : List ℕ). codes "input" ++ b) (input_behind told rest fits)

input_again : (told : Ending) (rest : List ℕ) → EndingFits told → input_at (input_text told rest) ≡ Some (told, rest)
unfolding input_at
input_again told rest fits =
    ap input_at (input_spelled told rest fits)
    ∙ reads_again input_parts (λ values left. Some (values.0, left)) (told, tt) rest (tt, tt) (fits, tt) (refl, tt)

input_takes : (bytes : List ℕ) (told : Ending) (rest : List ℕ) → input_at bytes ≡ Some (told, rest) →
    Finds input_text EndingFits bytes told rest
unfolding input_at
input_takes bytes told rest is =
    let read : ReadSo input_parts (λ values left. Some (values.0, left)) bytes (told, rest) =
    reads_takes input_parts (λ values left. Some (values.0, left)) bytes (told, rest) (tt, tt) is in
    let found : Finds input_text EndingFits bytes read.values.0 read.left = record {
      text_is = read.text ∙ sym (input_spelled read.values.0 read.left read.fits.0);
      fits = read.fits.0;
    } in
    found_as input_text EndingFits bytes read.values.0 told read.left rest found read.then

pub input_is_line : IsLine input_at input_text EndingFits
input_is_line = record { again = input_again; takes = input_takes }
