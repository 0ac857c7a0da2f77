use Rattle.std.proofs.Common.{◌-◌, ℕ, List, Ok, ap, arith, sym, subst}
use Rattle.pcap_reader.specs.Reading.{Took}
use Rattle.edge_traits.proofs.EdgeLemmas.{on_err}
use Rattle.pcapng_reader.specs.declared.long.Awaited.{Awaited}
use Rattle.pcapng_reader.specs.Waiting.{AwaitsTo, SeesLong}
use Rattle.pcapng_reader.proofs.LongFacts.{drop_end, drop_failed, hold_end, hold_failed, long_end, second_end, second_failed}
use Rattle.pcapng_reader.proofs.long.await_long.Goals as goal

pub returns-in_err-hold-clause-none : goal.returns-in_err-hold-clause-none
returns-in_err-hold-clause-none g c =
    on_err c.from_residual.result (hold_failed c.args.section.now c.args.offset c.args.long c.args.window.now.unread
    c.hold.new.self.unread _ _ c.requires c.in_err-hold.ensures.bytes c.in_err-hold.ensures.cut)

pub returns-then-not-branch-clause-awaits : goal.returns-then-not-branch-clause-awaits
returns-then-not-branch-clause-awaits g c =
    let before = g.S.Source.left c.args.source.now in
    let after = g.S.Source.left c.hold.new.source in
    subst (λ (a : Awaited). Took before after (AwaitsTo c.args.section.now c.args.offset c.args.window.now.unread
    c.hold.new.self.unread a.seen a.dropped before)) (sym c.cut.ensures)
    (hold_end c.args.section.now c.args.offset c.args.long c.args.window.now.unread c.hold.new.self.unread before after
    c.requires c.in_ok-hold.ensures.bytes (c.in_ok-hold.ensures.short (ap (λ b. Ok b) c.if-not-branch.true))
    (c.in_ok-hold.ensures.end (ap (λ b. Ok b) c.if-not-branch.true)))

pub returns-in_err-dropped-clause-none : goal.returns-in_err-dropped-clause-none
returns-in_err-dropped-clause-none g c =
    on_err c.from_residual-in_err-dropped.result (drop_failed c.args.section.now c.args.offset c.args.long
    (c.args.long.size - 4 - c.args.long.kept) c.args.window.now.unread c.hold.new.self.unread
    c.drop_behind.new.window.unread _ _ _ c.requires c.in_ok-hold.ensures.bytes
    (c.in_ok-hold.ensures.enough (ap (λ b. Ok b) c.if-not-branch.false))
    (omega (arith, c.requires.few, c.requires.above)) c.in_err-dropped.ensures.none)

pub returns-then-dropped-gap-clause-awaits : goal.returns-then-dropped-gap-clause-awaits
returns-then-dropped-gap-clause-awaits g c =
    let before = g.S.Source.left c.args.source.now in
    let after = g.S.Source.left c.drop_behind.new.source in
    subst (λ (a : Awaited). Took before after (AwaitsTo c.args.section.now c.args.offset c.args.window.now.unread
    c.drop_behind.new.window.unread a.seen a.dropped before)) (sym c.cut-then-dropped-gap.ensures)
    (drop_end c.args.section.now c.args.offset c.args.long (c.args.long.size - 4 - c.args.long.kept)
    c.in_ok-dropped.dropped
    c.args.window.now.unread c.hold.new.self.unread c.drop_behind.new.window.unread before _ after c.requires
    c.in_ok-hold.ensures.bytes (c.in_ok-hold.ensures.enough (ap (λ b. Ok b) c.if-not-branch.false))
    (omega (arith, c.requires.few, c.requires.above)) c.if-dropped-gap.true c.in_ok-dropped.ensures.drops)

pub returns-in_err-hold-2-clause-none : goal.returns-in_err-hold-2-clause-none
returns-in_err-hold-2-clause-none g c =
    on_err c.from_residual-in_err-hold-2.result (second_failed c.args.section.now c.args.offset c.args.long
    (c.args.long.size - 4 - c.args.long.kept) c.in_ok-dropped.dropped c.args.window.now.unread c.hold.new.self.unread
    c.drop_behind.new.window.unread c.hold-2.new.self.unread _ _ _ _ c.requires c.in_ok-hold.ensures.bytes
    (c.in_ok-hold.ensures.enough (ap (λ b. Ok b) c.if-not-branch.false))
    (omega (arith, c.requires.few, c.requires.above))
    c.in_ok-dropped.ensures.drops c.in_err-hold-2.ensures.bytes c.in_err-hold-2.ensures.cut)

pub returns-then-not-branch-2-clause-awaits : goal.returns-then-not-branch-2-clause-awaits
returns-then-not-branch-2-clause-awaits g c =
    let before = g.S.Source.left c.args.source.now in
    let after = g.S.Source.left c.hold-2.new.source in
    subst (λ (a : Awaited). Took before after (AwaitsTo c.args.section.now c.args.offset c.args.window.now.unread
    c.hold-2.new.self.unread a.seen a.dropped before)) (sym c.cut-then-not-branch-2.ensures)
    (second_end c.args.section.now c.args.offset c.args.long (c.args.long.size - 4 - c.args.long.kept)
    c.in_ok-dropped.dropped c.args.window.now.unread c.hold.new.self.unread c.drop_behind.new.window.unread
    c.hold-2.new.self.unread before _ _ after c.requires c.in_ok-hold.ensures.bytes
    (c.in_ok-hold.ensures.enough (ap (λ b. Ok b) c.if-not-branch.false))
    (omega (arith, c.requires.few, c.requires.above))
    c.in_ok-dropped.ensures.drops c.in_ok-hold-2.ensures.bytes
    (c.in_ok-hold-2.ensures.short (ap (λ b. Ok b) c.if-not-branch-2.true))
    (c.in_ok-hold-2.ensures.end (ap (λ b. Ok b) c.if-not-branch-2.true)))

pub returns-clause-awaits : goal.returns-clause-awaits
returns-clause-awaits g c =
    long_end c.args.section.now c.args.offset c.args.long (c.args.long.size - 4 - c.args.long.kept)
    c.in_ok-dropped.dropped c.args.window.now.unread c.hold.new.self.unread c.drop_behind.new.window.unread
    c.hold-2.new.self.unread c.look_at_long.result _ _ _ _ c.requires c.in_ok-hold.ensures.bytes
    (c.in_ok-hold.ensures.enough (ap (λ b. Ok b) c.if-not-branch.false))
    (omega (arith, c.requires.few, c.requires.above))
    c.if-dropped-gap.false c.in_ok-dropped.ensures.drops c.in_ok-hold-2.ensures.bytes
    (c.in_ok-hold-2.ensures.enough (ap (λ b. Ok b) c.if-not-branch-2.false))
    (subst (λ (l : List ℕ). SeesLong c.args.section.now c.args.offset c.args.long l c.look_at_long.result)
    c.unread.ensures.bytes c.look_at_long.ensures)
