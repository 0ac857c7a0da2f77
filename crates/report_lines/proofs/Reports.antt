-- What the machine reads is a report of the grammar, and a text is one report at most.
use Rattle.std.proofs.Common.{◌≡◌, ℕ, codes, List, [], ◌∷◌, ◌++◌, refl, sym, ap, ◌∙◌, append_assoc, append-nil, subst, arith}
use Rattle.std.specs.Prelude.{flat_map}
use Rattle.std.proofs.lemmas.List.Concat.{flat_map-append}
use Rattle.plain_map.specs.declared.keys.Pair.{Pair}
use Rattle.line_fields.proofs.Scan.{lines_same}
use Rattle.report_text.specs.Lines.{line}
use Rattle.report_text.specs.Report.{head_line, session_line, input_line, leaves_line, count_line, steps_line, tail_lines}
use Rattle.report_text.specs.declared.parts.Head.{Head}
use Rattle.capture_faults.specs.declared.ending.Ending.{Ending}
use Rattle.report_told.specs.Told.{Told, entry_line, told_text}
use Rattle.report_told.specs.Rules.{IsHead, AreEntries, AreSessions}
use Rattle.report_told.specs.Verdicts.{Tells, TellsOnce}
use Rattle.report_lines.specs.declared.tails.Leaves.{Leaves}
use Rattle.report_lines.specs.declared.tails.Counts.{Counts}
use Rattle.report_lines.specs.declared.tails.Steps.{Steps}
use Rattle.report_lines.proofs.InputFields.{EndingFits}
use Rattle.report_lines.proofs.TailLines.{LeavesFit, CountsFit, leaves_words, count_words, step_words}
use Rattle.report_lines.proofs.Machine.{Line, head, entry, session, leaves, input, count, steps, Body, State, start, body, left, ended, counted, whole, Next, IsWholeState, text_of, line_at, tail_of, told_of, begun_with, with_entry, with_pair}
use Rattle.report_lines.proofs.MachineLaws.{report_machine}
use Rattle.report_lines.proofs.Grammar.{Spelled, told_lines, told_spelled, ending_told}

-- What a state tells of the text before it.

pub record IsBody (b : Body) : Type 0 where
  pub head : IsHead b.head
  pub entries : AreEntries b.head b.entries
  pub sessions : AreSessions b.pairs

abbrev body_text : Body → List ℕ
body_text b = (head_line b.head ++ flat_map (entry_line b.head.seats) b.entries) ++ flat_map session_line b.pairs

abbrev leaves_line_of : Leaves → List ℕ
leaves_line_of l = line (codes "leaves" ∷ leaves_words l)

abbrev count_line_of : Counts → List ℕ
count_line_of c = line (codes "count" ∷ count_words c)

-- the state stands behind this text
abbrev pub Behind : State → List ℕ → Type 0
Behind start front = front ≡ []
Behind (body b) front = IsBody b × (front ≡ body_text b)
Behind (left b l) front = IsBody b × LeavesFit l × (front ≡ body_text b ++ leaves_line_of l)
Behind (ended b l e) front =
    IsBody b × LeavesFit l × EndingFits e × (front ≡ (body_text b ++ leaves_line_of l) ++ input_line e)
Behind (counted b l e c) front =
    IsBody b × LeavesFit l × EndingFits e × CountsFit c
    × (front ≡ ((body_text b ++ leaves_line_of l) ++ input_line e) ++ count_line_of c)
Behind (whole told) front = Tells front told

no_entries : (h : Head) → AreEntries h []
no_entries h = record {
  each = λ k d inside. absurd (omega arith);
  rise = tt;
  apart = λ packet some. absurd (omega arith);
}

-- no pairs may stand as sessions
pub no_sessions : AreSessions []
no_sessions = record { each = λ k d inside. absurd (omega arith); ordered = tt }

as_state : (s t : State) (front : List ℕ) → s ≡ t → Behind t front → Behind s front
as_state s t front same is = subst (λ (x : State). Behind x front) (sym same) is

-- the whole text
whole_text : (b : Body) (l : Leaves) (e : Ending) (c : Counts) (s : Steps) →
    (((body_text b ++ leaves_line_of l) ++ input_line e) ++ count_line_of c) ++ line (codes "steps" ∷ step_words s)
    ≡ told_text (told_of b (tail_of l e c s))
unfolding told_text tail_lines leaves_line count_line steps_line
whole_text b l e c s = simp append_assoc

behind_next : (s : State) (l : Line) (m : State) (front : List ℕ) → Behind s front → Next s l m →
    Behind m (front ++ text_of s l)
behind_next start (head h) m front is next =
    as_state m (body (begun_with h)) (front ++ head_line h) next.1 (
      record { head = next.0; entries = no_entries h; sessions = no_sessions },
      ap (λ (f : List ℕ). f ++ head_line h) is ∙ sym (append-nil (head_line h)) ∙ sym (append-nil (head_line h ++ [])),
    )
behind_next (body b) (entry e) m front is next =
    as_state m (body (with_entry b e)) (front ++ entry_line b.head.seats e) next.3 (
      record { head = is.0.head; entries = next.2; sessions = is.0.sessions },
      ap (λ (f : List ℕ). f ++ entry_line b.head.seats e) is.1
          ∙ ap (λ (ps : List Pair).
          ((head_line b.head ++ flat_map (entry_line b.head.seats) b.entries) ++ flat_map session_line ps) ++
          entry_line b.head.seats e) next.1
          ∙ ap (λ (f : List ℕ). f ++ entry_line b.head.seats e)
          (append-nil (head_line b.head ++ flat_map (entry_line b.head.seats) b.entries))
          ∙ append_assoc (head_line b.head) (flat_map (entry_line b.head.seats) b.entries) (entry_line b.head.seats e)
          ∙ ap (λ (f : List ℕ). head_line b.head ++ (flat_map (entry_line b.head.seats) b.entries ++ f))
          (sym (append-nil (entry_line b.head.seats e)))
          ∙ ap (λ (f : List ℕ). head_line b.head ++ f)
          (sym (flat_map-append (entry_line b.head.seats) b.entries (e ∷ [])))
          ∙ sym (append-nil (head_line b.head ++ flat_map (entry_line b.head.seats) (b.entries ++ e ∷ [])))
          ∙ ap (λ (ps : List Pair). (head_line b.head ++ flat_map (entry_line b.head.seats) (b.entries ++ e ∷ [])) ++
          flat_map session_line ps) (sym next.1),
    )
behind_next (body b) (session p) m front is next =
    as_state m (body (with_pair b p)) (front ++ session_line p) next.2 (
      record { head = is.0.head; entries = is.0.entries; sessions = next.1 },
      ap (λ (f : List ℕ). f ++ session_line p) is.1
          ∙ append_assoc (head_line b.head ++ flat_map (entry_line b.head.seats) b.entries)
          (flat_map session_line b.pairs) (session_line p)
          ∙ ap (λ (f : List ℕ). (head_line b.head ++ flat_map (entry_line b.head.seats) b.entries) ++
          (flat_map session_line b.pairs ++ f)) (sym (append-nil (session_line p)))
          ∙ ap (λ (f : List ℕ). (head_line b.head ++ flat_map (entry_line b.head.seats) b.entries) ++ f)
          (sym (flat_map-append session_line b.pairs (p ∷ []))),
    )
behind_next (body b) (leaves l) m front is next =
    as_state m (left b l) (front ++ leaves_line_of l) next.2
    (is.0, next.1, ap (λ (f : List ℕ). f ++ leaves_line_of l) is.1)
behind_next (left b l) (input e) m front is next =
    as_state m (ended b l e) (front ++ input_line e) next.1
    (is.0, is.1, next.0, ap (λ (f : List ℕ). f ++ input_line e) is.2)
behind_next (ended b l e) (count c) m front is next =
    as_state m (counted b l e c) (front ++ count_line_of c) next.1
    (is.0, is.1, is.2, next.0, ap (λ (f : List ℕ). f ++ count_line_of c) is.3)
behind_next (counted b l e c) (steps s) m front is next =
    as_state m (whole (told_of b (tail_of l e c s))) (front ++ line (codes "steps" ∷ step_words s)) next.2
    (record {
      text_is = ap (λ (f : List ℕ). f ++ line (codes "steps" ∷ step_words s)) is.4 ∙ whole_text b l e c s;
      in_grammar = record {
        head = is.0.head;
        entries = is.0.entries;
        sessions = is.0.sessions;
        tail = record {
          leaves = omega (arith, is.1.0);
          depth = omega (arith, is.1.1.0);
          ending = ending_told e is.2;
          packets = omega (arith, is.3.0);
          calls = omega (arith, is.3.1.0);
          passed = omega (arith, is.3.1.1.0);
          full = omega (arith, is.3.1.1.1.0);
          pending = omega (arith, is.3.1.1.1.1.0);
          unbegun = omega (arith, is.3.1.1.1.1.1.0);
          update = omega (arith, next.0.0);
          lookup = omega (arith, next.0.1.1.0);
          bound = next.1;
        };
      };
    })
behind_next s l m front is next = absurd next

behind_lines : (ls : List Line) (s t : State) (front bytes : List ℕ) → Behind s front → Spelled s ls t bytes →
    Behind t (front ++ bytes)
behind_lines [] s t front bytes is spelled =
    subst (λ (x : State). Behind x (front ++ bytes)) spelled.0
    (subst (λ (b : List ℕ). Behind s (front ++ b)) (sym spelled.1)
    (subst (λ (f : List ℕ). Behind s f) (sym (append-nil front)) is))
behind_lines (l ∷ ls) s t front bytes is (m, rest, next, cut, spelled) =
    subst (λ (b : List ℕ). Behind t b)
    (append_assoc front (text_of s l) rest ∙ ap (λ (b : List ℕ). front ++ b) (sym cut))
    (behind_lines ls m t (front ++ text_of s l) rest (behind_next s l m front is next) spelled)

-- what the machine reads to its end is a report
pub spelled_tells : (ls : List Line) (told : Told) (bytes : List ℕ) → Spelled start ls (whole told) bytes →
    Tells bytes told
spelled_tells ls told bytes spelled = behind_lines ls start (whole told) [] bytes refl spelled

pub spelled_behind : (ls : List Line) (s : State) (bytes : List ℕ) → Spelled start ls s bytes → Behind s bytes
spelled_behind ls s bytes spelled = behind_lines ls start s [] bytes refl spelled

pub tells_spelled : (text : List ℕ) (told : Told) → Tells text told → Spelled start (told_lines told) (whole told) text
tells_spelled text told tells =
    subst (λ (b : List ℕ). Spelled start (told_lines told) (whole told) b) (sym tells.text_is)
    (told_spelled told tells.in_grammar)

-- A text is one report at most.

states_same : (ls : List Line) (s t u : State) (bytes other : List ℕ) → Spelled s ls t bytes → Spelled s ls u other →
    t ≡ u
states_same [] s t u bytes other a b = sym a.0 ∙ b.0
states_same (l ∷ ls) s t u bytes other (m, rest, next, cut, a) (n, behind, next', cut', b) =
    let same : m ≡ n = report_machine.one s l m n next next' in
    states_same ls m t u rest behind a (subst (λ (x : State). Spelled x ls u behind) (sym same) b)

abbrev told_in : Told → State → Told
told_in other (whole told) = told
told_in other s = other

pub tells_once : TellsOnce
tells_once text one other a b =
    let first = tells_spelled text one a in
    let second = tells_spelled text other b in
    let lines : told_lines one ≡ told_lines other =
    lines_same Next IsWholeState text_of line_at report_machine (told_lines one) (told_lines other) start (whole one)
    (whole other) text first second tt tt in
    let states : whole one ≡ whole other =
    states_same (told_lines one) start (whole one) (whole other) text text first
    (subst (λ (ls : List Line). Spelled start ls (whole other) text) (sym lines) second) in
    ap (told_in one) states
