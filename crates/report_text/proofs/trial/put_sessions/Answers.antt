use Rattle.report_text.specs.Trials.{sessions_line}
use Rattle.report_text.proofs.LineLemmas.{line_whole}
use Rattle.report_text.proofs.trial.put_sessions.Goals as goal

pub returns : goal.returns
unfolding sessions_line
returns c = line_whole c.begin_line.ensures.begins c.put_number.ensures.puts c.end_line.ensures.ends
