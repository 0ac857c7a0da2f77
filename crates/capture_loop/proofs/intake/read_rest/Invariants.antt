use Rattle.std.proofs.Common.{◌≡◌, ◌≤◌, ◌+◌, ◌++◌, ℕ, List, Option, false, length}
use Rattle.capture_loop.specs.Reading.{HaveCome}
use Rattle.capture_loop.proofs.intake.read_rest.Given as goal

-- so far has the batch been read
abbrev pub invariant-loop-packets : goal.invariant-loop-packets
invariant-loop-packets g l =
    let left = g.S.Source.left in
    record {
      going : l.reader.ended ≡ false;
      given : l.reader.given ≡ l.before + l.packets;
      from : l.taken ≤ l.packets;
      way : g.P.Pile.way l.pile ≡ g.P.Pile.way l.fn.pile;
      counted : g.S.Source.faults l.fn.source ≤ g.S.Source.faults l.source;
      failed : g.S.Source.failed l.source ≡ g.S.Source.failed l.fn.source;
      read : (old : List (List ℕ)) → g.P.Pile.holds l.fn.pile l.before old → length old ≡ l.taken →
          (more : List (List ℕ)) × g.P.Pile.holds l.pile l.before (old ++ more) × (length (old ++ more) ≡ l.packets)
          × ((link : ℕ) (first : Option (List ℕ)) (all : List (List ℕ)) → length all ≡ l.before →
          HaveCome link first (left l.fn.source) l.fn.reader (all ++ old) →
          HaveCome link first (left l.source) l.reader (all ++ (old ++ more)));
    }
