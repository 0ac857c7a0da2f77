-- How far a text was read.
use Rattle.std.proofs.Common.{◌≡◌, ℕ, ◌+◌, ◌-◌, ◌^◌, ◌<◌, ◌≤◌, List, [], ◌∷◌, ◌++◌, length, length-append, refl, sym, ap, ◌∙◌, append_assoc, append-nil, subst, arith}
use Rattle.line_fields.proofs.Scan.{spells_append}
use Rattle.report_text.specs.declared.parts.Head.{Head}
use Rattle.report_told.specs.Told.{Entry, entry_line}
use Rattle.report_told.specs.Verdicts.{IsBadLine}
use Rattle.report_lines.proofs.Machine.{Line, entry, Body, State, start, body, Next, IsWholeState, text_of, line_at, begun_with}
use Rattle.report_lines.proofs.MachineLaws.{report_machine}
use Rattle.report_lines.proofs.BadLines.{stuck_is_bad_line}
use Rattle.report_reading.specs.declared.entries.Entries.{Entries}
use Rattle.report_reading.specs.Entries.{Holds}
use Rattle.report_reading.specs.Steps.{At, NoneFollows, with_entries}
use Rattle.report_reading.proofs.CountLemmas.{few_lines}

-- Places.

pub at_next : (text : List ℕ) (s : State) (l : Line) (m : State) (rest left : List ℕ) (lines : ℕ) →
    At text s rest lines → Next s l m → rest ≡ text_of s l ++ left → At text m left (lines + 1)
at_next text s l m rest left lines at next cut = record {
  front = at.front ++ text_of s l;
  ls = at.ls ++ l ∷ [];
  cut = at.cut ∙ ap (λ (r : List ℕ). at.front ++ r) cut ∙ sym (append_assoc at.front (text_of s l) left);
  spelled =
      spells_append Next IsWholeState text_of line_at report_machine at.ls (l ∷ []) start s m at.front (text_of s l)
      at.spelled (m, [], next, sym (append-nil (text_of s l)), (refl, refl));
  many = omega (arith, length-append at.ls (l ∷ []), at.many);
}

pub at_bad : (text : List ℕ) (s : State) (rest : List ℕ) (lines : ℕ) → At text s rest lines → NoneFollows s rest →
    (rest ≡ [] → IsWholeState s → ⊥) → IsBadLine text (lines + 1)
at_bad text s rest lines at none unended =
    subst (λ (n : ℕ). IsBadLine text (n + 1)) at.many
    (stuck_is_bad_line text at.front rest at.ls s at.cut at.spelled (record { none = none; unended = unended }))

-- So the lines that were read, and five more, are counted by 32 bits.
pub at_few : (text : List ℕ) (s : State) (rest : List ℕ) (lines : ℕ) → At text s rest lines →
    length text ≤ 4294967295 → lines + 6 ≤ 4294967295
at_few text s rest lines at small =
    let front : length at.front ≤ 4294967295 =
    omega (arith, small, ap length at.cut, length-append at.front rest) in
    omega (arith, at.many, few_lines at.ls s at.front at.spelled front)

-- Entries.

pub record HasEntries (text : List ℕ) (kept : Entries) (head : Head) (rest : List ℕ) (lines counter : ℕ) : Type 0 where
  pub entries : List Entry
  pub at : At text (body (with_entries head entries)) rest lines
  pub holds : Holds kept head entries
  pub lines_are : lines ≡ counter + 1
  pub many : length entries ≡ counter

pub entries_begin : (text : List ℕ) (kept : Entries) (head : Head) (rest : List ℕ) →
    At text (body (begun_with head)) rest 1 → Holds kept head [] → HasEntries text kept head rest 1 0
entries_begin text kept head rest at holds = record
    { entries = []; at = at; holds = holds; lines_are = refl; many = refl }

pub entries_few : (text : List ℕ) (kept : Entries) (head : Head) (rest : List ℕ) (lines counter : ℕ)
    (has : HasEntries text kept head rest lines counter) → length text ≤ 4294967295 → length has.entries < 2 ^ 32 - 1
entries_few text kept head rest lines counter has small =
    omega (arith, has.many, has.lines_are, at_few text (body (with_entries head has.entries)) rest lines has.at small)

pub entries_more : (text : List ℕ) (kept made : Entries) (head : Head) (rest left : List ℕ) (lines next counter : ℕ)
    (has : HasEntries text kept head rest lines counter) → length text ≤ 4294967295 →
    (e : Entry) × (rest ≡ entry_line head.seats e ++ left) × Holds made head (has.entries ++ e ∷ []) →
    (lines + 1 < 2 ^ 32 → next ≡ lines + 1) → HasEntries text made head left next (counter + 1)
entries_more text kept made head rest left lines next counter has small (e, cut, holds) add =
    let few : lines + 6 ≤ 4294967295 = at_few text (body (with_entries head has.entries)) rest lines has.at small in
    let added : next ≡ lines + 1 = add (omega arith) in
    record {
      entries = has.entries ++ e ∷ [];
      at =
          subst (λ (n : ℕ). At text (body (with_entries head (has.entries ++ e ∷ []))) left n) (sym added)
          (at_next text (body (with_entries head has.entries)) (entry e)
          (body (with_entries head (has.entries ++ e ∷ [])))
          rest left lines has.at (holds.in_range, refl, holds.are, refl) cut);
      holds = holds;
      lines_are = omega (arith, added, has.lines_are);
      many = omega (arith, length-append has.entries (e ∷ []), has.many);
    }

pub line_bad : (text : List ℕ) (b : Body) (rest : List ℕ) (lines line : ℕ) → At text (body b) rest lines →
    length text ≤ 4294967295 → NoneFollows (body b) rest → (lines + 1 < 2 ^ 32 → line ≡ lines + 1) → IsBadLine text line
line_bad text b rest lines line at small none add =
    let few : lines + 6 ≤ 4294967295 = at_few text (body b) rest lines at small in
    subst (IsBadLine text) (sym (add (omega arith))) (at_bad text (body b) rest lines at none (λ nothing never. never))

pub entries_never : (text : List ℕ) (kept : Entries) (head : Head) (rest : List ℕ) (lines counter : ℕ)
    (has : HasEntries text kept head rest lines counter) → length text ≤ 4294967295 → 2 ^ 64 - 1 ≤ counter → ⊥
entries_never text kept head rest lines counter has small over =
    omega (arith, has.lines_are, at_few text (body (with_entries head has.entries)) rest lines has.at small)
