-- A read gathers more bytes behind cut ones, and nothing that shows what comes is cut.
use Rattle.std.proofs.Common.{◌≡◌, ◌+◌, ◌∙◌, length, refl, sym, subst, arith, rules}
use Rattle.byte_window.specs.Window.{Held, IsDrained}
use Rattle.byte_window.proofs.WindowFacts.{drained, gathers_more}
use Rattle.pcap_reader.specs.Capture.{IsCut}
use Rattle.pcap_reader.specs.Record.{IsShown, OnCut, ShowsNext}
use Rattle.pcap_reader.specs.declared.record.Shown.{Shown}
use Rattle.pcap_reader.specs.declared.record.Shown.TheVariants.{Whole, Cut, Overlong}
use Rattle.pcap_reader.proofs.ReaderFacts.{cut_shows_none, on_cut}
use Rattle.pcap_reader.proofs.reader.await_record.Goals.{then-ne-via-then-ne, then-ne-via-else-ne+in_ok-fill+then-branch-eq0}
use Rattle.pcap_reader.proofs.reader.await_record.Goals as goal

-- a fact where the record is cut, where it is not
not_cut : (P : Type 0) (seen : Shown) → (seen ≡ Cut → ⊥) → OnCut seen P
not_cut P (Whole captured) other = tt
not_cut P Cut other = absurd (other refl)
not_cut P (Overlong found) other = tt

pub records-preserved : goal.records-preserved
records-preserved g c =
    let before = c.args.window.now.unread in
    let held = c.records.window.unread in
    let inv = c.records.invariant in
    let seen : c.look-seen.result ≡ Cut = search rules in
    let shown = subst (IsShown c.args.order c.unread.result.now) seen c.look-seen.ensures in
    let cut : IsCut c.args.order held = subst (IsCut c.args.order) c.unread.ensures.bytes shown in
    record {
      bytes = gathers_more before held c.fill.new.self.unread (g.S.Source.left c.args.source.now)
          (g.S.Source.left c.records.source) (g.S.Source.left c.fill.new.source) inv.bytes c.fill.ensures.bytes;
      unasked = λ shows. absurd (cut_shows_none c.args.order held cut
          (subst (ShowsNext c.args.order) (sym (inv.unasked shows).1) shows));
      counted = omega (arith, inv.counted, c.fill.ensures.counted);
      none_failed = c.in_ok-fill.ensures.none_failed ∙ inv.none_failed;
    }

pub returns-then-ne-clause-end : goal.returns-then-ne-clause-end
returns-then-ne-clause-end g c =
    let before = c.args.window.now.unread in
    let held = c.records.window.unread in
    let first = g.S.Source.left c.args.source.now in
    elim c.then-ne.branch [
      | then-ne-via-then-ne w ↦
          let other : c.look-seen.result ≡ Cut → ⊥ = search rules in
          not_cut _ c.look-seen.result other
      | then-ne-via-else-ne+in_ok-fill+then-branch-eq0 w ↦
          let none : w.in_ok-fill.field-0 ≡ 0 = omega arith in
          let size : length held + 0 ≡ length w.fill.new.self.unread =
          omega (arith, none, w.in_ok-fill.ensures.count) in
          on_cut c.look-seen.result
          (subst (λ (h : Held). IsDrained before h.unread first) (sym w.window-is)
          (drained before held w.fill.new.self.unread first (g.S.Source.left c.records.source)
          (g.S.Source.left w.fill.new.source) c.records.invariant.bytes w.fill.ensures.bytes size
          (w.in_ok-fill.ensures.end none)))
    ]
