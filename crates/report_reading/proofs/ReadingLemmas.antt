-- The beginning of a text.
use Rattle.std.proofs.Common.{◌≡◌, ℕ, List, [], Some, None, refl, sym, ap, ◌∙◌}
use Rattle.std.proofs.lemmas.Option.{none-some}
use Rattle.step_counts.specs.declared.settings.Settings.{Settings}
use Rattle.step_counts.specs.StepCounts.{need_of}
use Rattle.report_text.specs.declared.parts.Head.{Head}
use Rattle.report_told.specs.Rules.{IsHead, IsSettingsOf}
use Rattle.report_told.specs.Verdicts.{IsBadLine}
use Rattle.report_lines.specs.Lines.{head_at}
use Rattle.report_lines.proofs.HeadLines.{head_is_line}
use Rattle.report_lines.proofs.Machine.{head, entry, session, leaves, input, count, steps, start, body, begun_with}
use Rattle.report_reading.specs.Steps.{At, NoneFollows}
use Rattle.report_reading.proofs.PlaceLemmas.{at_bad, at_next}

pub same_need : (h : Head) (s t : Settings) → IsSettingsOf h s → IsSettingsOf h t → need_of s ≡ need_of t
same_need h s t a b =
    let seats : s.seats ≡ t.seats = a.seats_are ∙ sym b.seats_are in
    let depth : s.depth ≡ t.depth = a.depth_is ∙ sym b.depth_is in
    rw (seats, depth) refl

at_start : (text : List ℕ) → At text start text 0
at_start text = record { front = []; ls = []; cut = refl; spelled = (refl, refl); many = refl }

no_head : (text : List ℕ) → head_at text ≡ None → NoneFollows start text
no_head text none (head h) m more next cut =
    none-some (h, more) (sym none ∙ ap head_at cut ∙ head_is_line.again h more next.0)
no_head text none (entry e) m more next cut = absurd next
no_head text none (session p) m more next cut = absurd next
no_head text none (leaves l) m more next cut = absurd next
no_head text none (input e) m more next cut = absurd next
no_head text none (count c) m more next cut = absurd next
no_head text none (steps s) m more next cut = absurd next

pub bad_head : (text : List ℕ) → head_at text ≡ None → IsBadLine text 1
bad_head text none = at_bad text start text 0 (at_start text) (no_head text none) (λ nothing never. never)

pub at_head : (text : List ℕ) (h : Head) (rest : List ℕ) → head_at text ≡ Some (h, rest) →
    IsHead h × At text (body (begun_with h)) rest 1
at_head text h rest read =
    let found = head_is_line.takes text h rest read in (
      found.fits,
      at_next text start (head h) (body (begun_with h)) text rest 0 (at_start text) (found.fits, refl) found.text_is,
    )
