use Rattle.std.proofs.Common.{◌≡◌, ◌+◌, ◌≤◌, length, take, drop, ap, ◌∙◌, arith}
use Rattle.std.proofs.lemmas.List.Edits.{length-between}
use Rattle.byte_window.specs.Window.{Held}
use Rattle.byte_window.proofs.WindowFacts.{range_front, range_rest, make_held}
use Rattle.byte_window.proofs.window.Window.take_part.Goals as goal

pub returns : goal.returns
returns c =
    let w = c.self.inside in
    let at = c.args.at in
    let count = c.args.count in
    let all = c.args.all in
    let same : _ ≡ c.args.self.now.unread = ap (λ (h : Held). h.unread) c.self.view_is in
    let inside : w.end ≤ length w.buf.items = omega (arith, c.self.invariant.end, w.buf.ok.0) in
    let within : w.start + all ≤ w.end = omega (
      arith,
      c.requires.held,
      ap length same,
      length-between w.buf.items w.start w.end inside,
    ) in
    let part : w.start + at + count ≤ w.end = omega (arith, c.requires.inside, within) in
    make_held _ _ _ _ (range_front w.buf.items (w.start + at) w.end count part
    ∙ ap (take count) (range_rest w.buf.items w.start w.end at ∙ ap (drop at) same))
    (range_rest w.buf.items w.start w.end all ∙ ap (drop all) same)
