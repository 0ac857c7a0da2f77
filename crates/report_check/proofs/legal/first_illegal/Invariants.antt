use Rattle.std.proofs.Common.{take}
use Rattle.std.specs.Prelude.{flat_map}
use Rattle.class_map.specs.Rows.{HasEachClass}
use Rattle.report_told.specs.Told.{Told}
use Rattle.report_told.specs.Points.{IsWhole}
use Rattle.report_check.specs.Facts.{Facts, placed_at}
use Rattle.report_check.specs.Judged.{AreLegal}
use Rattle.report_check.proofs.legal.first_illegal.Given as goal

abbrev pub invariant-loop-packet : goal.invariant-loop-packet
invariant-loop-packet l = record {
  rows : HasEachClass l.map l.rules;
  legal : (told : Told) → Facts told l.calls l.pending l.order → IsWhole told →
      AreLegal l.rules (flat_map (placed_at told) (take l.packet-index l.order)) l.map;
}
