use Rattle.std.proofs.Common.{◌≡◌, ◌-◌, ◌≤◌, length}
use Rattle.byte_window.specs.Window.{Gathers}
use Rattle.pcapng_reader.specs.declared.block.Seen.TheVariants as seen
use Rattle.pcapng_reader.specs.Blocks.{Sees}
use Rattle.pcapng_reader.proofs.waiting.await_block.Given as goal

-- bytes were read behind those that were held, none where these show more than a cut block, and no read failed
abbrev pub invariant-held : goal.invariant-held
invariant-held g l =
    record {
      bytes : Gathers l.initial.window.unread l.window.unread (g.S.Source.left l.initial.source)
          (g.S.Source.left l.source);
      unasked : (Sees l.section l.offset l.initial.window.unread seen.Cut → ⊥) →
          (l.source ≡ l.initial.source) × (l.window.unread ≡ l.initial.window.unread);
      counted : g.S.Source.faults l.initial.source ≤ g.S.Source.faults l.source;
      none_failed : g.S.Source.failed l.source ≡ g.S.Source.failed l.initial.source;
    }

abbrev pub decreases-held : goal.decreases-held
decreases-held g l = 4128769 - length l.window.unread
