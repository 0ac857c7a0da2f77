use Rattle.std.proofs.Common.{◌≡◌, ◌-◌, ◌≤◌, length}
use Rattle.byte_window.specs.Window.{Gathers}
use Rattle.pcap_reader.specs.declared.record.TheConstants.{WHOLE_RECORD}
use Rattle.pcap_reader.specs.Record.{ShowsNext}
use Rattle.pcap_reader.proofs.reader.await_record.Given as goal

-- bytes were read behind those that were held, none where these show what comes, and no read failed
abbrev pub invariant-records : goal.invariant-records
invariant-records g l = record {
  bytes : Gathers l.initial.window.unread l.window.unread (g.S.Source.left l.initial.source) (g.S.Source.left l.source);
  unasked : ShowsNext l.order l.initial.window.unread →
      (l.source ≡ l.initial.source) × (l.window.unread ≡ l.initial.window.unread);
  counted : g.S.Source.faults l.initial.source ≤ g.S.Source.faults l.source;
  none_failed : g.S.Source.failed l.source ≡ g.S.Source.failed l.initial.source;
}

abbrev pub decreases-records : goal.decreases-records
decreases-records g l = WHOLE_RECORD - length l.window.unread
