-- The verdict of a report.
use Rattle.std.proofs.Common.{◌≡◌, ℕ, Result, Ok, Err, List, sym, ◌∙◌, subst}
use Rattle.std.specs.Prelude.{All, IfOk, ◌↔◌}
use Rattle.std.specs.declared.alloc.AllocError.{AllocError}
use Rattle.std.specs.FinMap.{empty}
use Rattle.plain_map.specs.PlainObject.{Sessions, pairs_of}
use Rattle.plain_map.specs.History.{After, sessions_after}
use Rattle.report_told.specs.Told.{Told}
use Rattle.report_told.specs.declared.verdict.Verdict.{Verdict}
use Rattle.report_told.specs.declared.verdict.Verdict.TheVariants as v
use Rattle.report_told.specs.Points.{IsRight, IsShortEnough, IsWhole, placed_told, records_told, rules_told}
use Rattle.report_told.specs.Verdicts.{Certified, Deserves, DeservesOne, Tells}
use Rattle.report_told.specs.Rules.{IsInGrammar}
use Rattle.report_reading.specs.declared.kept.Kept.{Kept}
use Rattle.report_reading.specs.Kept.{IsKept}
use Rattle.report_check.specs.Facts.{HasFacts}
use Rattle.report_check.specs.Judged.{Judges, LegalSo}

-- the sessions that the order of a report leaves
abbrev pub left_told : Told → Sessions
left_told told = sessions_after (rules_told told.head) empty (placed_told told)

-- a report without a fault
pub is_right : (kept : Kept) (told : Told) (rows : List Sessions) → HasFacts kept told → IsWhole told →
    After (placed_told told) → LegalSo told rows → kept.pairs.items ≡ pairs_of (left_told told) →
    All (IsShortEnough kept.bound) kept.calls.items → IsRight told
is_right kept told rows has whole after legal same short = record {
  whole = whole;
  after = after;
  legal = legal.legal;
  sessions = sym has.pairs_are ∙ same;
  steps = subst (λ (n : ℕ). All (IsShortEnough n) (records_told told)) has.bound_is
      (subst (All (IsShortEnough kept.bound)) has.facts.calls_are short);
}

-- a text deserves the verdict of the report that it is
pub deserves : (text : List ℕ) (told : Told) (verdict : Verdict) → Tells text told → Judges told verdict →
    Deserves text verdict
deserves text told v.Yes tells judged = (told, tells, judged)
deserves text told (v.BadLine line) tells judged = absurd judged
deserves text told (v.Whole packet) tells judged = (told, tells, judged)
deserves text told (v.After packet) tells judged = (told, tells, judged.0, judged.1)
deserves text told (v.Legal packet) tells judged = (told, tells, judged.0, judged.1, judged.2)
deserves text told v.Sessions tells judged = (told, tells, judged.0, judged.1, judged.2, judged.3)
deserves text told (v.Steps packet) tells judged = (told, tells, judged.0, judged.1, judged.2, judged.3, judged.4)

-- and just a certified one deserves `Yes`
pub yes_is : (text : List ℕ) (verdict : Verdict) → DeservesOne → Deserves text verdict →
    (verdict ≡ v.Yes) ↔ Certified text
yes_is text verdict one deserved =
    (λ is. subst (Deserves text) is deserved, λ certified. one text verdict v.Yes deserved certified)

-- Results.

-- the verdict of what was read is that of what was put in order
pub judged_so : (kept sorted : Kept) (r : Result Verdict AllocError) →
    IfOk r (λ verdict. (told : Told) → HasFacts sorted told → Judges told verdict) →
    ((told : Told) → IsKept kept told → IsInGrammar told → HasFacts sorted told) →
    IfOk r (λ verdict. (told : Told) → IsKept kept told → IsInGrammar told → Judges told verdict)
judged_so kept sorted (Ok verdict) judged has = λ told is in_grammar. judged told (has told is in_grammar)
judged_so kept sorted (Err stop) judged has = tt

-- and the text deserves it
pub deserves_so : (text : List ℕ) (kept : Kept) (r : Result Verdict AllocError) →
    (told : Told) × Tells text told × IsKept kept told →
    IfOk r (λ verdict. (told : Told) → IsKept kept told → IsInGrammar told → Judges told verdict) →
    IfOk r (Deserves text)
deserves_so text kept (Ok verdict) (told, tells, is) judged =
    deserves text told verdict tells (judged told is tells.in_grammar)
deserves_so text kept (Err stop) read judged = tt

-- which is `Yes` just where it is certified
pub yes_so : (text : List ℕ) (r : Result Verdict AllocError) → DeservesOne → IfOk r (Deserves text) →
    IfOk r (λ verdict. (verdict ≡ v.Yes) ↔ Certified text)
yes_so text (Ok verdict) one deserved = yes_is text verdict one deserved
yes_so text (Err stop) one deserved = tt
