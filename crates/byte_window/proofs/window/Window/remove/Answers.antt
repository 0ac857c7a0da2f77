use Rattle.std.proofs.Common.{◌≡◌, ◌+◌, ◌≤◌, List, ℕ, ◌++◌, length, take, drop, ap, ◌∙◌, arith}
use Rattle.std.specs.List.{slice_range}
use Rattle.std.proofs.lemmas.List.Edits.{between_none, length-between}
use Rattle.byte_window.specs.Window.{Held}
use Rattle.byte_window.proofs.WindowFacts.{range_cut, range_removed, make_held}
use Rattle.byte_window.proofs.window.Window.remove.Goals as goal

pub returns-then-self-kept : goal.returns-then-self-kept
returns-then-self-kept c =
    let w = c.self.inside in
    let kept = c.args.kept in
    let count = c.args.count in
    let same : _ ≡ c.args.self.now.unread = ap (λ (h : Held). h.unread) c.self.view_is in
    let inside : w.end ≤ length w.buf.items = omega (arith, c.self.invariant.end, w.buf.ok.0) in
    make_held _ _ _ _ (between_none w.buf.items w.start)
    (range_cut w.buf.items w.start kept count w.end (omega arith) inside
    ∙ ap (λ (l : List ℕ). take kept l ++ drop (kept + count) l) same)

pub returns-else-self-kept : goal.returns-else-self-kept
returns-else-self-kept c =
    let w = c.self.inside in
    let kept = c.args.kept in
    let count = c.args.count in
    let same : _ ≡ c.args.self.now.unread = ap (λ (h : Held). h.unread) c.self.view_is in
    let inside : w.end ≤ length w.buf.items = omega (arith, c.self.invariant.end, w.buf.ok.0) in
    let within : w.start + kept + count ≤ w.end = omega (
      arith,
      c.requires,
      ap length same,
      length-between w.buf.items w.start w.end inside,
    ) in
    make_held _ _ _ _ (between_none c.copy_within.new.self.items (w.start + count))
    (ap (λ (l : List ℕ). slice_range l (w.start + count) w.end) c.copy_within.ensures.items
    ∙ range_removed w.buf.items w.start kept count w.end within inside
    ∙ ap (λ (l : List ℕ). take kept l ++ drop (kept + count) l) same)
