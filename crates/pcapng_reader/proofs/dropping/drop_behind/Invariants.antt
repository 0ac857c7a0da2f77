use Rattle.std.proofs.Common.{◌≡◌, ◌-◌, ◌*◌, ◌≤◌, length, min}
use Rattle.pcap_reader.specs.Reading.{Took}
use Rattle.pcapng_reader.specs.Waiting.{Drops}
use Rattle.pcapng_reader.proofs.dropping.drop_behind.Given as goal

abbrev pub invariant-gap : goal.invariant-gap
invariant-gap g l =
    record {
      drops : Took (g.S.Source.left l.initial.source) (g.S.Source.left l.source)
          (Drops l.kept l.initial.window.unread l.window.unread l.dropped);
      counted : g.S.Source.faults l.initial.source ≤ g.S.Source.faults l.source;
      none_failed : g.S.Source.failed l.source ≡ g.S.Source.failed l.initial.source;
      there : l.kept ≤ length l.window.unread;
      few : l.dropped ≤ l.count;
    }

-- a turn in which nothing was held behind is followed by one in which something is
abbrev pub decreases-gap : goal.decreases-gap
decreases-gap g l = 2 * (l.count - l.dropped) - min 1 (length l.window.unread - l.kept)
