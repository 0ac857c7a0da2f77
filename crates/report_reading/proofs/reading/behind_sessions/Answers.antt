use Rattle.std.proofs.Common.{refl, sym}
use Rattle.report_lines.proofs.Machine.{told_of}
use Rattle.report_reading.specs.Steps.{with_entries, with_pairs}
use Rattle.report_reading.proofs.SessionLemmas.{no_entry_pairs}
use Rattle.report_reading.proofs.reading.behind_sessions.Goals as goal

pub returns-in-Ok : goal.returns-in-Ok
returns-in-Ok c = λ text head entries holds few at no_session no_entry right small.
    (let read = c.in-Ok.ensures text (with_pairs (with_entries head entries) c.args.pairs.items) holds.in_range at
    no_session (no_entry_pairs (with_entries head entries) c.args.pairs.items c.args.bytes.now refl no_entry) right
    small in (
      told_of (with_pairs (with_entries head entries) c.args.pairs.items) read.0,
      read.1,
      c.kept.ensures (told_of (with_pairs (with_entries head entries) c.args.pairs.items) read.0) holds few
          (sym read.2) refl,
    ))

pub returns-in-Err : goal.returns-in-Err
returns-in-Err c = λ text head entries holds few at no_session no_entry right small.
    c.in-Err.ensures text (with_pairs (with_entries head entries) c.args.pairs.items) holds.in_range at no_session
    (no_entry_pairs (with_entries head entries) c.args.pairs.items c.args.bytes.now refl no_entry) right small
