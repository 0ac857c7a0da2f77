-- The last lines, one after the other.
use Rattle.std.proofs.Common.{◌≡◌, ℕ, ◌+◌, ◌^◌, ◌<◌, ◌≤◌, ◌==◌, true, false, List, [], ◌∷◌, ◌++◌, length, Some, None, refl, sym, ap, ◌∙◌, append-nil, subst, arith}
use Rattle.std.proofs.lemmas.Option.{none-some, some_pair_parts}
use Rattle.std.proofs.lemmas.Bool.{eq-eqb, eqb-true, true≢false}
use Rattle.step_counts.specs.declared.settings.Settings.{Settings}
use Rattle.step_counts.specs.StepCounts.{step_bound}
use Rattle.capture_faults.specs.declared.ending.Ending.{Ending}
use Rattle.report_told.specs.Told.{Told}
use Rattle.report_told.specs.Rules.{IsHead, IsSettingsOf}
use Rattle.report_told.specs.Verdicts.{Tells, IsBadLine}
use Rattle.report_lines.specs.declared.tails.Leaves.{Leaves}
use Rattle.report_lines.specs.declared.tails.Counts.{Counts}
use Rattle.report_lines.specs.declared.tails.Steps.{Steps}
use Rattle.report_lines.specs.Lines.{session_at, leaves_at, input_at, count_at, steps_at}
use Rattle.report_lines.proofs.TailLines.{session_is_line, leaves_is_line, input_is_line, count_is_line, steps_is_line}
use Rattle.report_lines.proofs.Machine.{head, entry, session, leaves, input, count, steps, Body, State, body, left, ended, counted, whole, IsBound, IsWholeState, tail_of, told_of}
use Rattle.report_lines.proofs.MachineLaws.{last_session_fits, settings_of, settings_are}
use Rattle.report_lines.proofs.Reports.{spelled_tells}
use Rattle.report_reading.specs.Steps.{At, NoneFollows, NoEntry, TailRead}
use Rattle.report_reading.proofs.PlaceLemmas.{at_bad, at_few, at_next}

-- the bad line, as it is counted
abbrev IsSum : (result lines more : ℕ) → Type 0
IsSum result lines more = lines + more < 2 ^ 32 → result ≡ lines + more

bad_line : (text : List ℕ) (s : State) (rest : List ℕ) (lines before more result : ℕ) → At text s rest before →
    length text ≤ 4294967295 → before + 1 ≡ lines + more → NoneFollows s rest → (rest ≡ [] → IsWholeState s → ⊥) →
    IsSum result lines more → IsBadLine text result
bad_line text s rest lines before more result at small counted_so none unended sum =
    let few : before + 6 ≤ 4294967295 = at_few text s rest before at small in
    let is : result ≡ before + 1 = sum (omega arith) ∙ sym counted_so in
    subst (IsBadLine text) (sym is) (at_bad text s rest before at none unended)

no_leaves : (b : Body) (rest : List ℕ) → session_at rest ≡ None → (b.pairs ≡ [] → NoEntry b rest) →
    leaves_at rest ≡ None → NoneFollows (body b) rest
no_leaves b rest no_session no_entry none (entry e) m more next cut = no_entry next.1 e m more next cut
no_leaves b rest no_session no_entry none (session p) m more next cut =
    none-some (p, more)
    (sym no_session ∙ ap session_at cut ∙ session_is_line.again p more (last_session_fits b.pairs p next.1))
no_leaves b rest no_session no_entry none (leaves l) m more next cut =
    none-some (l, more) (sym none ∙ ap leaves_at cut ∙ leaves_is_line.again l more next.1)
no_leaves b rest no_session no_entry none (head h) m more next cut = absurd next
no_leaves b rest no_session no_entry none (input e) m more next cut = absurd next
no_leaves b rest no_session no_entry none (count c) m more next cut = absurd next
no_leaves b rest no_session no_entry none (steps s) m more next cut = absurd next

pub bad_leaves : (text : List ℕ) (b : Body) (rest : List ℕ) (lines result : ℕ) → At text (body b) rest lines →
    length text ≤ 4294967295 → session_at rest ≡ None → (b.pairs ≡ [] → NoEntry b rest) → leaves_at rest ≡ None →
    IsSum result lines 1 → IsBadLine text result
bad_leaves text b rest lines result at small no_session no_entry none sum =
    bad_line text (body b) rest lines lines 1 result at small refl (no_leaves b rest no_session no_entry none)
    (λ nothing never. never) sum

pub at_left : (text : List ℕ) (b : Body) (rest behind : List ℕ) (lines : ℕ) (l : Leaves) → IsHead b.head →
    At text (body b) rest lines → leaves_at rest ≡ Some (l, behind) → At text (left b l) behind (lines + 1)
at_left text b rest behind lines l is at read =
    let found = leaves_is_line.takes rest l behind read in
    at_next text (body b) (leaves l) (left b l) rest behind lines at (is, found.fits, refl) found.text_is

no_input : (b : Body) (l : Leaves) (rest : List ℕ) → input_at rest ≡ None → NoneFollows (left b l) rest
no_input b l rest none (input e) m more next cut =
    none-some (e, more) (sym none ∙ ap input_at cut ∙ input_is_line.again e more next.0)
no_input b l rest none (head h) m more next cut = absurd next
no_input b l rest none (entry e) m more next cut = absurd next
no_input b l rest none (session p) m more next cut = absurd next
no_input b l rest none (leaves k) m more next cut = absurd next
no_input b l rest none (count c) m more next cut = absurd next
no_input b l rest none (steps s) m more next cut = absurd next

pub bad_input : (text : List ℕ) (b : Body) (l : Leaves) (rest : List ℕ) (lines result : ℕ) →
    At text (left b l) rest (lines + 1) → length text ≤ 4294967295 → input_at rest ≡ None → IsSum result lines 2 →
    IsBadLine text result
bad_input text b l rest lines result at small none sum =
    bad_line text (left b l) rest lines (lines + 1) 2 result at small (omega arith) (no_input b l rest none)
    (λ nothing never. never) sum

pub at_ended : (text : List ℕ) (b : Body) (l : Leaves) (rest behind : List ℕ) (lines : ℕ) (e : Ending) →
    At text (left b l) rest (lines + 1) → input_at rest ≡ Some (e, behind) → At text (ended b l e) behind
    (lines + 1 + 1)
at_ended text b l rest behind lines e at read =
    let found = input_is_line.takes rest e behind read in
    at_next text (left b l) (input e) (ended b l e) rest behind (lines + 1) at (found.fits, refl) found.text_is

no_count : (b : Body) (l : Leaves) (e : Ending) (rest : List ℕ) → count_at rest ≡ None → NoneFollows (ended b l e) rest
no_count b l e rest none (count c) m more next cut =
    none-some (c, more) (sym none ∙ ap count_at cut ∙ count_is_line.again c more next.0)
no_count b l e rest none (head h) m more next cut = absurd next
no_count b l e rest none (entry x) m more next cut = absurd next
no_count b l e rest none (session p) m more next cut = absurd next
no_count b l e rest none (leaves k) m more next cut = absurd next
no_count b l e rest none (input x) m more next cut = absurd next
no_count b l e rest none (steps s) m more next cut = absurd next

pub bad_count : (text : List ℕ) (b : Body) (l : Leaves) (e : Ending) (rest : List ℕ) (lines result : ℕ) →
    At text (ended b l e) rest (lines + 1 + 1) → length text ≤ 4294967295 → count_at rest ≡ None →
    IsSum result lines 3 → IsBadLine text result
bad_count text b l e rest lines result at small none sum =
    bad_line text (ended b l e) rest lines (lines + 1 + 1) 3 result at small (omega arith) (no_count b l e rest none)
    (λ nothing never. never) sum

pub at_counted : (text : List ℕ) (b : Body) (l : Leaves) (e : Ending) (rest behind : List ℕ) (lines : ℕ) (c : Counts) →
    At text (ended b l e) rest (lines + 1 + 1) → count_at rest ≡ Some (c, behind) →
    At text (counted b l e c) behind (lines + 1 + 1 + 1)
at_counted text b l e rest behind lines c at read =
    let found = count_is_line.takes rest c behind read in
    at_next text (ended b l e) (count c) (counted b l e c) rest behind (lines + 1 + 1) at (found.fits, refl)
    found.text_is

-- which line of steps there is, if any
no_steps : (b : Body) (l : Leaves) (e : Ending) (c : Counts) (rest : List ℕ) →
    ((s : Steps) (more : List ℕ) → steps_at rest ≡ Some (s, more) → IsBound b.head s.bound → ⊥) →
    NoneFollows (counted b l e c) rest
no_steps b l e c rest none (steps s) m more next cut =
    none s more (ap steps_at cut ∙ steps_is_line.again s more next.0) next.1
no_steps b l e c rest none (head h) m more next cut = absurd next
no_steps b l e c rest none (entry x) m more next cut = absurd next
no_steps b l e c rest none (session p) m more next cut = absurd next
no_steps b l e c rest none (leaves k) m more next cut = absurd next
no_steps b l e c rest none (input x) m more next cut = absurd next
no_steps b l e c rest none (count x) m more next cut = absurd next

pub bad_steps : (text : List ℕ) (b : Body) (l : Leaves) (e : Ending) (c : Counts) (rest : List ℕ) (lines result : ℕ) →
    At text (counted b l e c) rest (lines + 1 + 1 + 1) → length text ≤ 4294967295 → steps_at rest ≡ None →
    IsSum result lines 4 → IsBadLine text result
bad_steps text b l e c rest lines result at small none sum =
    bad_line text (counted b l e c) rest lines (lines + 1 + 1 + 1) 4 result at small (omega arith)
    (no_steps b l e c rest (λ s more read bound. none-some (s, more) (sym none ∙ read))) (λ nothing never. never) sum

pub bad_bound : (text : List ℕ) (b : Body) (l : Leaves) (e : Ending) (c : Counts) (rest behind : List ℕ) (s : Steps)
    (lines bound result : ℕ) → (is : IsHead b.head) → At text (counted b l e c) rest (lines + 1 + 1 + 1) →
    length text ≤ 4294967295 → steps_at rest ≡ Some (s, behind) →
    ((t : Settings) → IsSettingsOf b.head t → bound ≡ step_bound t) → (s.bound ≡ bound → ⊥) → IsSum result lines 4 →
    IsBadLine text result
bad_bound text b l e c rest behind s lines bound result is at small read right other sum =
    bad_line text (counted b l e c) rest lines (lines + 1 + 1 + 1) 4 result at small (omega arith)
    (no_steps b l e c rest (λ t more again own.
    (let same : (t ≡ s) × (more ≡ behind) = some_pair_parts t s more behind (sym again ∙ read) in
    other (ap (λ (x : Steps). x.bound) (sym same.0)
    ∙ own (settings_of b.head is) (settings_are b.head is)
    ∙ sym (right (settings_of b.head is) (settings_are b.head is))))))
    (λ nothing never. never) sum

at_whole : (text : List ℕ) (b : Body) (l : Leaves) (e : Ending) (c : Counts) (rest behind : List ℕ) (s : Steps)
    (lines bound : ℕ) → At text (counted b l e c) rest (lines + 1 + 1 + 1) → steps_at rest ≡ Some (s, behind) →
    ((t : Settings) → IsSettingsOf b.head t → bound ≡ step_bound t) → s.bound ≡ bound →
    At text (whole (told_of b (tail_of l e c s))) behind (lines + 1 + 1 + 1 + 1)
at_whole text b l e c rest behind s lines bound at read right same =
    let found = steps_is_line.takes rest s behind read in
    at_next text (counted b l e c) (steps s) (whole (told_of b (tail_of l e c s))) rest behind (lines + 1 + 1 + 1) at
    (found.fits, (λ t of_head. same ∙ right t of_head), refl) found.text_is

nothing_follows : (told : Told) (rest : List ℕ) → NoneFollows (whole told) rest
nothing_follows told rest (head h) m more next cut = absurd next
nothing_follows told rest (entry x) m more next cut = absurd next
nothing_follows told rest (session p) m more next cut = absurd next
nothing_follows told rest (leaves k) m more next cut = absurd next
nothing_follows told rest (input x) m more next cut = absurd next
nothing_follows told rest (count x) m more next cut = absurd next
nothing_follows told rest (steps x) m more next cut = absurd next

pub bad_end : (text : List ℕ) (b : Body) (l : Leaves) (e : Ending) (c : Counts) (rest behind : List ℕ) (s : Steps)
    (lines bound result : ℕ) → At text (counted b l e c) rest (lines + 1 + 1 + 1) → length text ≤ 4294967295 →
    steps_at rest ≡ Some (s, behind) → ((t : Settings) → IsSettingsOf b.head t → bound ≡ step_bound t) →
    s.bound ≡ bound → (behind ≡ [] → ⊥) → IsSum result lines 5 → IsBadLine text result
bad_end text b l e c rest behind s lines bound result at small read right same more sum =
    bad_line text (whole (told_of b (tail_of l e c s))) behind lines (lines + 1 + 1 + 1 + 1) 5 result
    (at_whole text b l e c rest behind s lines bound at read right same) small (omega arith)
    (nothing_follows (told_of b (tail_of l e c s)) behind) (λ nothing _. more nothing) sum

pub good_end : (text : List ℕ) (b : Body) (l : Leaves) (e : Ending) (c : Counts) (rest behind : List ℕ) (s : Steps)
    (lines bound : ℕ) → At text (counted b l e c) rest (lines + 1 + 1 + 1) → steps_at rest ≡ Some (s, behind) →
    ((t : Settings) → IsSettingsOf b.head t → bound ≡ step_bound t) → s.bound ≡ bound → behind ≡ [] →
    TailRead text b bound
good_end text b l e c rest behind s lines bound at read right same nothing =
    let end = at_whole text b l e c rest behind s lines bound at read right same in
    let text_is : text ≡ end.front =
    end.cut ∙ ap (λ (r : List ℕ). end.front ++ r) nothing ∙ append-nil end.front in (
      tail_of l e c s,
      subst (λ (x : List ℕ). Tells x (told_of b (tail_of l e c s))) (sym text_is)
          (spelled_tells end.ls (told_of b (tail_of l e c s)) end.front end.spelled),
      same,
    )

pub empty_is : (xs : List ℕ) → (length xs == 0) ≡ true → xs ≡ []
empty_is [] is = refl
empty_is (x ∷ xs) is = absurd (omega (arith, eqb-true (length (x ∷ xs)) 0 is))

pub not_empty : (xs : List ℕ) → (length xs == 0) ≡ false → xs ≡ [] → ⊥
not_empty xs is nothing = true≢false (sym (eq-eqb (length xs) 0 (ap length nothing)) ∙ is)
