use Rattle.std.proofs.Common.{refl}
use Rattle.report_reading.specs.Steps.{with_entries}
use Rattle.report_reading.proofs.reading.behind_entries.Goals as goal

pub returns-in-Whole : goal.returns-in-Whole
returns-in-Whole c = λ text head entries holds few at no_entry right small.
    (let read = rw c.in-Whole.is at
    (c.in_ok-rest.ensures text (with_entries head entries) holds.in_range refl at no_entry
    c.new-pairs.ensures.items small) in
    c.behind_sessions.ensures text head entries holds few read.0 read.1 read.2 right small)

pub returns-in-Bad : goal.returns-in-Bad
returns-in-Bad c = λ text head entries holds few at no_entry right small.
    rw c.in-Bad.is at (c.in_ok-rest.ensures text (with_entries head entries) holds.in_range refl at no_entry
    c.new-pairs.ensures.items small)
