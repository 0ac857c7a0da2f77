use Rattle.std.proofs.Common.{◌≡◌, ◌-◌, ◌≤◌, length}
use Rattle.byte_window.specs.Window.{Gathers}
use Rattle.byte_window.proofs.window.Window.hold.Given as goal

-- bytes were read behind those that were held, none where these were enough, and no read failed
abbrev pub invariant-held : goal.invariant-held
invariant-held g l = record {
  bytes : Gathers l.initial.self.unread l.self.unread (g.S.Source.left l.initial.source) (g.S.Source.left l.source);
  unasked : l.count ≤ length l.initial.self.unread → l.source ≡ l.initial.source;
  longer : length l.initial.self.unread ≤ length l.self.unread;
  counted : g.S.Source.faults l.initial.source ≤ g.S.Source.faults l.source;
  none_failed : g.S.Source.failed l.source ≡ g.S.Source.failed l.initial.source;
}

abbrev pub decreases-held : goal.decreases-held
decreases-held g l = l.count - length l.self.unread
