-- One frame more is kept.
use Rattle.std.proofs.Common.{◌≡◌, ◌+◌, ◌≤◌, ℕ, List, [], ◌∷◌, ◌++◌, length, sym, subst, arith}
use Rattle.std.proofs.lemmas.List.Elements.{All-push}
use Rattle.packet_adders.specs.declared.frames.Frame.{Frame}
use Rattle.totals_runner.specs.Frames.{AreFrames}
use Rattle.totals_runner.proofs.FrameLemmas.{AreFrames-more}
use Rattle.totals_runner.proofs.frames.FramesPile.take.Goals as goal

pub returns-clause-holds : goal.returns-clause-holds
returns-clause-holds c = λ before packets has at.
    let frame : Frame = c.of.result in
    let framing = c.args.self.now.framing in
    let last : c.args.number ≡ (before + 1) + length packets = omega (arith, at) in
    record {
      are = subst (λ (fs : List Frame). AreFrames framing (before + 1) (packets ++ c.args.packet.now ∷ []) fs)
          (sym c.in_ok-push.ensures.items)
          (AreFrames-more framing (before + 1) packets c.args.self.now.frames.items c.args.packet.now frame
          c.args.number
          has.are c.of.ensures last);
      behind = has.behind;
      short =
          All-push (λ (packet : List ℕ). length packet ≤ 262144) packets c.args.packet.now has.short c.requires.short;
    }
