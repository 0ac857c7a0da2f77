-- The text of a trial: its settings, its counts, and how many sessions are left.
-- Source: docs/FORMATS.md, the report.
use Rattle.std.specs.Prelude.{ℕ, List, [], ◌∷◌, ◌++◌, codes, decimal}
use Rattle.report_text.specs.declared.trial.Trial.{Trial}
use Rattle.report_text.specs.Lines.{line}
use Rattle.report_text.specs.Report.{batch_words}

-- `flowdir trial number X packets P seats N items B depth D start S seed Y`, and then ` batch M` or nothing
unfoldable pub trial_line : Trial → List ℕ
trial_line trial =
    line (codes "flowdir" ∷ codes "trial" ∷ codes "number" ∷ decimal trial.number
    ∷ codes "packets" ∷ decimal trial.packets ∷ codes "seats" ∷ decimal trial.seats
    ∷ codes "items" ∷ decimal trial.items ∷ codes "depth" ∷ decimal trial.depth
    ∷ codes "start" ∷ decimal trial.start ∷ codes "seed" ∷ decimal trial.seed ∷ batch_words trial.batch)

-- `calls C new A old B noroom E gone F found G absent H full J`
unfoldable pub answers_line : Trial → List ℕ
answers_line trial =
    line (codes "calls" ∷ decimal trial.calls ∷ codes "new" ∷ decimal trial.new
    ∷ codes "old" ∷ decimal trial.old ∷ codes "noroom" ∷ decimal trial.noroom
    ∷ codes "gone" ∷ decimal trial.gone ∷ codes "found" ∷ decimal trial.found
    ∷ codes "absent" ∷ decimal trial.absent ∷ codes "full" ∷ decimal trial.full ∷ [])

-- `sessions T`
unfoldable pub sessions_line : Trial → List ℕ
sessions_line trial = line (codes "sessions" ∷ decimal trial.sessions ∷ [])

-- all three
abbrev pub trial_lines : Trial → List ℕ
trial_lines trial = trial_line trial ++ (answers_line trial ++ sessions_line trial)
