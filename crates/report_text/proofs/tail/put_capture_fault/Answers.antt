use Rattle.report_text.proofs.LineLemmas.{◌⨟◌}
use Rattle.report_text.proofs.tail.put_capture_fault.Goals as goal

pub returns-in-ShortHeader-clause-puts : goal.returns-in-ShortHeader-clause-puts
returns-in-ShortHeader-clause-puts c = rw c.in-ShortHeader.is (c.put_place.ensures.puts ⨟ c.put_number.ensures.puts)

pub returns-in-Magic-clause-puts : goal.returns-in-Magic-clause-puts
returns-in-Magic-clause-puts c =
    rw c.in-Magic.is (c.put_place-in-Magic.ensures.puts ⨟ c.put_hexadecimal.ensures.puts)

pub returns-in-Version-clause-puts : goal.returns-in-Version-clause-puts
returns-in-Version-clause-puts c =
    rw c.in-Version.is (c.put_place-in-Version.ensures.puts ⨟ c.put_version.ensures.puts)

pub returns-in-LinkType-clause-puts : goal.returns-in-LinkType-clause-puts
returns-in-LinkType-clause-puts c =
    rw c.in-LinkType.is (c.put_place-in-LinkType.ensures.puts ⨟ c.put_number-in-LinkType.ensures.puts)

pub returns-in-RecordLength-clause-puts : goal.returns-in-RecordLength-clause-puts
returns-in-RecordLength-clause-puts c =
    rw c.in-RecordLength.is (c.put_place-in-RecordLength.ensures.puts ⨟ c.put_number-in-RecordLength.ensures.puts)
