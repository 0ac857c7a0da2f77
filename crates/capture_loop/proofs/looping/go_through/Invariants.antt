use Rattle.std.proofs.Common.{◌≡◌, ◌≤◌, ◌<◌, ◌-◌, ◌+◌, ◌*◌, ◌++◌, false, [], List, Option, ℕ, length}
use Rattle.std.specs.Option.{ForSome, IfNone}
use Rattle.capture_loop.specs.Batches.{cut_of}
use Rattle.capture_loop.specs.Looping.{HasPut, Standing}
use Rattle.capture_loop.specs.Reading.{HaveCome}
use Rattle.capture_loop.proofs.looping.go_through.Given as goal

-- so many packets were read and served, and all but the last of their batches were put; behind the first batch no text
-- is held where all was told, so all that was served is put before more is read
abbrev pub invariant-batches : goal.invariant-batches
invariant-batches g l =
    let left = g.S.Source.left in
    let put = g.K.Sink.put in
    record {
      reads : l.reader.ended ≡ false;
      given : l.reader.given ≡ l.so_far.packets + l.so_far.ahead;
      few_ahead : (l.so_far.ahead ≤ cut_of l.fn.means.portions l.so_far.packets)
          × (l.so_far.packets + l.so_far.ahead ≤ l.fn.means.portions.limit);
      few : l.so_far.packets < l.fn.means.portions.limit;
      going : g.J.Job.going l.job l.so_far.packets;
      piled : (held : List (List ℕ)) × g.J.Pile.Pile.holds l.piles.now l.so_far.packets held
          × (length held ≡ l.so_far.ahead);
      ways : (g.J.Pile.Pile.way l.piles.now ≡ g.J.Job.way l.job)
          × (g.J.Pile.Pile.way l.piles.next ≡ g.J.Job.way l.job);
      kept : l.piles.beyond ≡ l.fn.piles.beyond;
      some : ForSome l.so_far.untold (λ closed. (lines : List ℕ) × g.J.Job.tells closed lines);
      counted_reads : g.S.Source.faults l.fn.source ≤ g.S.Source.faults l.source;
      counted_writes : g.K.Sink.faults l.fn.sink ≤ g.K.Sink.faults l.sink;
      reads_failed : g.S.Source.failed l.source ≡ g.S.Source.failed l.fn.source;
      writes_failed : g.K.Sink.failed l.sink ≡ g.K.Sink.failed l.fn.sink;
      none_held : IfNone l.so_far.untold (0 < l.so_far.packets → l.text.items ≡ []);
      stands : (plan : g.row.P.Denot) (link : ℕ) (first before : Option (List ℕ)) →
          g.J.Job.done l.fn.job plan [] l.fn.text.items →
          HasPut before (put l.fn.sink) l.fn.text.items l.fn.text.items →
          HaveCome link first (left l.fn.source) l.fn.reader [] →
          (all held : List (List ℕ)) × Standing l.fn.means.portions (g.J.Job.done l.job plan) (g.J.Job.lines plan)
          g.J.Job.tells l.so_far.untold link first (left l.source) l.so_far.packets all before (put l.sink)
          l.text.items × g.J.Pile.Pile.holds l.piles.now l.so_far.packets held
          × (length held ≡ l.so_far.ahead)
          × HaveCome link first (left l.source) l.reader (all ++ held);
    }

-- a batch is served, or packets are read
abbrev pub decreases-batches : goal.decreases-batches
decreases-batches g l = (l.fn.means.portions.limit - l.so_far.packets) * 65537 + (65536 - l.so_far.ahead)
