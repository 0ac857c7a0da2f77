use Rattle.report_text.specs.Trials.{trial_line}
use Rattle.report_text.proofs.LineLemmas.{◌⨟◌, line_whole}
use Rattle.report_text.proofs.trial.put_trial.Goals as goal

pub returns-clause-appended : goal.returns-clause-appended
unfolding trial_line
returns-clause-appended c =
    line_whole c.begin_line.ensures.begins
    (c.put_word.ensures.puts ⨟ c.put_named.ensures.puts ⨟ c.put_named-2.ensures.puts
    ⨟ c.put_named-3.ensures.puts ⨟ c.put_named-4.ensures.puts ⨟ c.put_named-5.ensures.puts
    ⨟ c.put_named-6.ensures.puts ⨟ c.put_named-7.ensures.puts ⨟ c.put_batch.ensures.puts)
    c.end_line.ensures.ends
