-- Lines that were read have more bytes than they are, by those of the head line.
use Rattle.std.proofs.Common.{◌≡◌, codes, ℕ, ◌+◌, ◌≤◌, List, [], ◌∷◌, ◌++◌, length, length-append, ap, ◌∙◌, arith}
use Rattle.line_fields.proofs.Scan.{IsCut}
use Rattle.report_text.specs.Lines.{line, spaced}
use Rattle.report_text.specs.Report.{head_line}
use Rattle.report_text.specs.declared.parts.Head.{Head}
use Rattle.report_lines.proofs.Machine.{Line, head, entry, session, leaves, input, count, steps, State, start, text_of}
use Rattle.report_lines.proofs.MachineLaws.{report_machine}
use Rattle.report_lines.proofs.Grammar.{Spelled}

-- each line has a byte
spelled_long : (ls : List Line) (s t : State) (bytes : List ℕ) → Spelled s ls t bytes → length ls ≤ length bytes
spelled_long [] s t bytes spelled = omega arith
spelled_long (l ∷ ls) s t bytes (m, rest, next, cut, spelled) =
    let later : length ls ≤ length rest = spelled_long ls m t rest spelled in
    let line : IsCut (text_of s l) = report_machine.cut s l m next in
    let one : length (text_of s l) ≡ length line.body + 1 =
    ap length line.feed ∙ length-append line.body (10 ∷ []) in
    omega (arith, later, one, ap length cut, length-append (text_of s l) rest)

-- a line has the bytes of its first word
line_long : (word : List ℕ) (words : List (List ℕ)) → length word ≤ length (line (word ∷ words))
unfolding line
line_long word words = omega (arith, length-append word (spaced words ++ codes "\n"))

-- so the head line has these of the program's name
head_long : (h : Head) → 7 ≤ length (head_line h)
unfolding head_line
head_long h = line_long (codes "flowdir") _

-- lines from the first on are fewer than their bytes by what the head line has beyond one
pub few_lines : (ls : List Line) (s : State) (bytes : List ℕ) → Spelled start ls s bytes → length bytes ≤ 4294967295 →
    length ls + 6 ≤ 4294967295
few_lines [] s bytes spelled small = omega arith
few_lines (head h ∷ ls) s bytes (m, rest, next, cut, spelled) small =
    omega (
      arith,
      small,
      spelled_long ls m s rest spelled,
      ap length cut,
      length-append (head_line h) rest,
      head_long h,
    )
few_lines (entry e ∷ ls) s bytes (m, rest, next, cut, spelled) small = absurd next
few_lines (session p ∷ ls) s bytes (m, rest, next, cut, spelled) small = absurd next
few_lines (leaves l ∷ ls) s bytes (m, rest, next, cut, spelled) small = absurd next
few_lines (input e ∷ ls) s bytes (m, rest, next, cut, spelled) small = absurd next
few_lines (count c ∷ ls) s bytes (m, rest, next, cut, spelled) small = absurd next
few_lines (steps t ∷ ls) s bytes (m, rest, next, cut, spelled) small = absurd next
