use Rattle.report_text.proofs.LineLemmas.{◌⨟◌}
use Rattle.report_text.proofs.tail.put_ending.Goals as goal

pub returns-in-Done-clause-puts : goal.returns-in-Done-clause-puts
returns-in-Done-clause-puts c = rw c.in-Done.is (c.put_word.ensures.puts ⨟ c.put_named.ensures.puts)

pub returns-in-ReadFault-clause-puts : goal.returns-in-ReadFault-clause-puts
returns-in-ReadFault-clause-puts c = rw c.in-ReadFault.is c.put_word-in-ReadFault.ensures.puts

pub returns-in-Fault-clause-puts : goal.returns-in-Fault-clause-puts
returns-in-Fault-clause-puts c = rw c.in-Fault.is (c.put_word-in-Fault.ensures.puts ⨟ c.put_fault.ensures.puts)
