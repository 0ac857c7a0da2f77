-- What a check of a report puts, and what it takes of its source.
-- Source: docs/FORMATS.md, the checker.
use Rattle.std.specs.Prelude.{◌≡◌, ℕ, ◌+◌, ◌<◌, ◌≤◌, List, ◌++◌, Option, Some, IfSome, Result, Ok, Err, codes, decimal, length}
use Rattle.std.specs.Io.KnownBytes.{Appends, Consumes, Keeps}
use Rattle.edge_traits.specs.Edge.{AppendsFront}
use Rattle.report_told.specs.declared.verdict.Verdict.{Verdict}
use Rattle.report_told.specs.declared.verdict.Verdict.TheVariants as verdict
use Rattle.report_told.specs.Verdicts.{Deserves}
use Rattle.check_runner.specs.declared.checking.Checked.{Checked}
use Rattle.check_runner.specs.declared.checking.Checked.TheVariants.{Judged, TooLong}
use Rattle.check_runner.specs.declared.reading.Reading.{Reading}
use Rattle.check_runner.specs.declared.reading.Reading.TheVariants.{Failed, Whole}
use Rattle.check_runner.specs.declared.reading.Reading.TheVariants as reading
use Rattle.check_runner.specs.declared.checking.Stop.{Stop}
use Rattle.check_runner.specs.declared.checking.Stop.TheVariants.{Memory, NotPut, ReadFault}

-- ---- the line

abbrev pub line_of : Checked → List ℕ
line_of (Judged verdict.Yes) = codes "check yes\n"
line_of (Judged (verdict.BadLine number)) = codes "check bad line " ++ decimal number ++ codes "\n"
line_of (Judged (verdict.Whole packet)) = codes "check no whole " ++ decimal packet ++ codes "\n"
line_of (Judged (verdict.After packet)) = codes "check no after " ++ decimal packet ++ codes "\n"
line_of (Judged (verdict.Legal packet)) = codes "check no legal " ++ decimal packet ++ codes "\n"
line_of (Judged verdict.Sessions) = codes "check no sessions\n"
line_of (Judged (verdict.Steps packet)) = codes "check no steps " ++ decimal packet ++ codes "\n"
line_of TooLong = codes "check limit 4294967295\n"

-- ---- what is found of a text

-- how many bytes of a text are judged at most
abbrev pub text_limit : ℕ
text_limit = 4294967295

-- it deserves this verdict, or is longer than may be judged
abbrev pub IsChecked : List ℕ → Checked → Type 0
IsChecked text (Judged found) = (length text ≤ text_limit) × Deserves text found
IsChecked text TooLong = text_limit < length text

-- ---- what is taken of a source

-- bytes were taken of a source whose bytes were `before` and are `after`, where told, and this holds of them
abbrev pub Takes : (before after : Option (List ℕ)) → (List ℕ → Type 0) → Type 0
Takes before after P = (taken : List ℕ) × Consumes before after taken × P taken

-- the text was taken, and is all that the source had, where it tells that
pub record IsWhole (text : List ℕ) (before after : Option (List ℕ)) : Type 0 where
  pub fits : length text ≤ text_limit
  pub taken : Consumes before after text
  pub all : IfSome before (λ bytes. bytes ≡ text)

-- what was read of a source
abbrev pub IsRead : Reading → (before after : Option (List ℕ)) → Type 0
IsRead (Whole text) before after = IsWhole text.items before after
IsRead reading.TooLong before after =
    Takes before after (λ taken. (text_limit < length taken) × (length taken ≤ text_limit + 1))
IsRead Failed before after = Unit {0}

-- one fact where a read failed, and another where none did
abbrev pub IfFailed : Reading → (failed other : Type 0) → Type 0
IfFailed (Whole text) failed other = other
IfFailed reading.TooLong failed other = other
IfFailed Failed failed other = failed

-- what was found of a source: of what was taken of it, which is all if it was judged
pub record HasFound (found : Checked) (before after : Option (List ℕ)) : Type 0 where
  pub taken : List ℕ
  pub lost : Consumes before after taken
  pub few : length taken ≤ text_limit + 1
  pub is : IsChecked taken found
  pub all : (v : Verdict) → found ≡ Judged v → IfSome before (λ bytes. bytes ≡ taken)

-- ---- what a check leaves

-- Of a source with these bytes: the line of what was found is put; where a write failed a front of it; and nothing
-- where a read failed or memory ran out.
abbrev pub Leaves : List ℕ → (before after : Option (List ℕ)) → Result Checked Stop → Type 0
Leaves bytes before after (Ok found) = IsChecked bytes found × Appends before after (line_of found)
Leaves bytes before after (Err NotPut) =
    (found : Checked) × IsChecked bytes found × AppendsFront before after (line_of found)
Leaves bytes before after (Err ReadFault) = Keeps before after
Leaves bytes before after (Err Memory) = Keeps before after

-- So it is for the bytes of a source, where they are told, and for those that were taken of it, as of a source that
-- had just these. Where it was judged they are all that the source had. No more than one byte beyond the limit is
-- taken.
pub record LeavesChecked (first left before after : Option (List ℕ)) (answer : Result Checked Stop) : Type 0 where
  pub told : (bytes : List ℕ) → first ≡ Some bytes → Leaves bytes before after answer
  pub taken : List ℕ
  pub lost : Consumes first left taken
  pub few : length taken ≤ text_limit + 1
  pub took : Leaves taken before after answer
  pub all : (v : Verdict) → answer ≡ Ok (Judged v) → IfSome first (λ bytes. bytes ≡ taken)

-- ---- facts by the answer

-- one fact where a read failed, and another of every other answer
abbrev pub OnReadFault : {T : Type 0} → Result T Stop → (failed other : Type 0) → Type 0
OnReadFault (Ok done) failed other = other
OnReadFault (Err Memory) failed other = other
OnReadFault (Err NotPut) failed other = other
OnReadFault (Err ReadFault) failed other = failed

-- one fact where a write failed, and another of every other answer
abbrev pub OnNotPut : {T : Type 0} → Result T Stop → (failed other : Type 0) → Type 0
OnNotPut (Ok done) failed other = other
OnNotPut (Err Memory) failed other = other
OnNotPut (Err NotPut) failed other = failed
OnNotPut (Err ReadFault) failed other = other
