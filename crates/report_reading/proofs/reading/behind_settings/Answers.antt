use Rattle.std.proofs.Common.{◌∙◌}
use Rattle.report_told.proofs.SettingsLemmas.{bound_of_settings}
use Rattle.report_reading.proofs.ReadingLemmas.{same_need}
use Rattle.report_reading.proofs.reading.behind_settings.Goals as goal

pub returns-in-Whole : goal.returns-in-Whole
returns-in-Whole c = λ text in_range at of_head small.
    (let holds = c.new-entries.ensures in_range
    (λ s own. c.need.ensures ∙ same_need c.args.head c.args.settings.now s of_head own) in
    let read = rw c.in-Whole.is at (c.in_ok-rest.ensures text c.args.head at holds of_head.seats_are small) in
    c.behind_entries.ensures text c.args.head read.0 read.2 read.4 read.1 read.3
    (λ s own. c.bound.ensures ∙ bound_of_settings c.args.head c.args.settings.now s of_head own) small)

pub returns-in-Bad : goal.returns-in-Bad
returns-in-Bad c = λ text in_range at of_head small.
    (let holds = c.new-entries.ensures in_range
    (λ s own. c.need.ensures ∙ same_need c.args.head c.args.settings.now s of_head own) in
    rw c.in-Bad.is at (c.in_ok-rest.ensures text c.args.head at holds of_head.seats_are small))
