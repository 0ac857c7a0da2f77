use Rattle.std.proofs.Common.{◌≡◌, ◌≤◌, ◌+◌, ◌++◌, [], length, take, drop, refl, ap, ◌∙◌, arith, length-append, length-drop, length-take-le}
use Rattle.std.proofs.KnownBytes.{Consumes-nil}
use Rattle.byte_window.specs.Window.{Held}
use Rattle.edge_traits.proofs.EdgeLemmas.{on_err}
use Rattle.pcapng_reader.proofs.WaitFacts.{drops_end, drops_failed, drops_more, drops_none, drops_read}
use Rattle.pcapng_reader.proofs.dropping.drop_behind.Goals as goal

pub gap-init : goal.gap-init
gap-init g c =
    record {
      drops = ([], Consumes-nil _, drops_none c.args.kept c.args.window.now.unread);
      counted = omega arith;
      none_failed = refl;
      there = c.requires.held;
      few = omega arith;
    }

pub returns-then-dropped-count-clause-drops : goal.returns-then-dropped-count-clause-drops
returns-then-dropped-count-clause-drops g c =
    let took = c.gap.invariant.drops in
    let within : c.args.kept + c.min-some.result ≤ length c.gap.window.unread =
    omega (arith, c.min-some.ensures, ap length c.unread.ensures.bytes, c.gap.invariant.there) in (
      took.0,
      took.1,
      record {
        drops = drops_more c.args.kept c.min-some.result c.gap.dropped c.args.window.now.unread c.gap.window.unread
            c.remove.new.self.unread took.0 c.requires.held within (ap (λ (h : Held). h.unread) c.remove.ensures)
            took.2;
        few = omega (arith, c.min-some.ensures, c.gap.invariant.few);
        held = λ fewer. absurd (omega (arith, fewer, c.if-dropped-count.true));
        end = λ fewer. absurd (omega (arith, fewer, c.if-dropped-count.true));
      },
    )

pub returns-then-branch-eq0-clause-drops : goal.returns-then-branch-eq0-clause-drops
returns-then-branch-eq0-clause-drops g c =
    let took = c.gap.invariant.drops in
    let within : c.args.kept + c.min-some.result ≤ length c.gap.window.unread =
    omega (arith, c.min-some.ensures, ap length c.unread.ensures.bytes, c.gap.invariant.there) in
    let left : c.remove.new.self.unread ≡ take c.args.kept c.gap.window.unread
    ++ drop (c.args.kept + c.min-some.result) c.gap.window.unread = ap (λ (h : Held). h.unread) c.remove.ensures in
    let held : length c.remove.new.self.unread ≡ c.args.kept = omega (
      arith,
      ap length left,
      length-append (take c.args.kept c.gap.window.unread) (drop (c.args.kept + c.min-some.result) c.gap.window.unread),
      length-take-le c.args.kept c.gap.window.unread c.gap.invariant.there,
      length-drop (c.args.kept + c.min-some.result) c.gap.window.unread,
      c.min-some.ensures,
      ap length c.unread.ensures.bytes,
      c.if-dropped-count.false,
      c.gap.invariant.few,
    ) in
    let size : length c.remove.new.self.unread + 0 ≡ length c.fill.new.self.unread =
    omega (arith, c.in_ok-fill.ensures.count, c.if-branch-eq0.true) in
    drops_end c.args.kept c.args.count (c.gap.dropped + c.min-some.result) c.args.window.now.unread
    c.remove.new.self.unread c.fill.new.self.unread _ _ _ (
      took.0,
      took.1,
      drops_more c.args.kept c.min-some.result c.gap.dropped c.args.window.now.unread c.gap.window.unread
          c.remove.new.self.unread took.0 c.requires.held within left took.2,
    ) c.in_ok-fill.ensures.bytes size (c.in_ok-fill.ensures.end c.if-branch-eq0.true) held
    (omega (arith, c.min-some.ensures, c.gap.invariant.few))

pub returns-in_err-fill-clause-none : goal.returns-in_err-fill-clause-none
returns-in_err-fill-clause-none g c =
    let took = c.gap.invariant.drops in
    let within : c.args.kept + c.min-some.result ≤ length c.gap.window.unread =
    omega (arith, c.min-some.ensures, ap length c.unread.ensures.bytes, c.gap.invariant.there) in
    let left : c.remove.new.self.unread ≡ take c.args.kept c.gap.window.unread
    ++ drop (c.args.kept + c.min-some.result) c.gap.window.unread = ap (λ (h : Held). h.unread) c.remove.ensures in
    let held : length c.remove.new.self.unread ≡ c.args.kept = omega (
      arith,
      ap length left,
      length-append (take c.args.kept c.gap.window.unread) (drop (c.args.kept + c.min-some.result) c.gap.window.unread),
      length-take-le c.args.kept c.gap.window.unread c.gap.invariant.there,
      length-drop (c.args.kept + c.min-some.result) c.gap.window.unread,
      c.min-some.ensures,
      ap length c.unread.ensures.bytes,
      c.if-dropped-count.false,
      c.gap.invariant.few,
    ) in
    on_err c.from_residual.result (drops_failed c.args.kept c.args.count (c.gap.dropped + c.min-some.result)
    c.args.window.now.unread c.remove.new.self.unread c.fill.new.self.unread _ _ _ (
      took.0,
      took.1,
      drops_more c.args.kept c.min-some.result c.gap.dropped c.args.window.now.unread c.gap.window.unread
          c.remove.new.self.unread took.0 c.requires.held within left took.2,
    ) c.in_err-fill.ensures.bytes c.in_err-fill.ensures.unread held
    (omega (arith, c.min-some.ensures, c.gap.invariant.few, c.if-dropped-count.false)))

pub gap-preserved : goal.gap-preserved
gap-preserved g c =
    let took = c.gap.invariant.drops in
    let within : c.args.kept + c.min-some.result ≤ length c.gap.window.unread =
    omega (arith, c.min-some.ensures, ap length c.unread.ensures.bytes, c.gap.invariant.there) in
    let left : c.remove.new.self.unread ≡ take c.args.kept c.gap.window.unread
    ++ drop (c.args.kept + c.min-some.result) c.gap.window.unread = ap (λ (h : Held). h.unread) c.remove.ensures in
    record {
      drops = drops_read c.args.kept (c.gap.dropped + c.min-some.result) c.args.window.now.unread
          c.remove.new.self.unread c.fill.new.self.unread _ _ _ (
            took.0,
            took.1,
            drops_more c.args.kept c.min-some.result c.gap.dropped c.args.window.now.unread c.gap.window.unread
                c.remove.new.self.unread took.0 c.requires.held within left took.2,
          ) c.in_ok-fill.ensures.bytes;
      counted = omega (arith, c.gap.invariant.counted, c.in_ok-fill.ensures.counted);
      none_failed = c.in_ok-fill.ensures.none_failed ∙ c.gap.invariant.none_failed;
      there = omega (
        arith,
        c.in_ok-fill.ensures.count,
        ap length left,
        length-append (take c.args.kept c.gap.window.unread)
            (drop (c.args.kept + c.min-some.result) c.gap.window.unread),
        length-take-le c.args.kept c.gap.window.unread c.gap.invariant.there,
      );
      few = omega (arith, c.min-some.ensures, c.gap.invariant.few);
    }
