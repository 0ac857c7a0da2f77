use Rattle.report_text.proofs.LineLemmas.{◌⨟◌}
use Rattle.report_text.proofs.tail.put_fault.Goals as goal

pub returns-in-ByteOrder-clause-puts : goal.returns-in-ByteOrder-clause-puts
returns-in-ByteOrder-clause-puts c = rw c.in-ByteOrder.is (c.put_place.ensures.puts ⨟ c.put_hexadecimal.ensures.puts)

pub returns-in-BlockLength-clause-puts : goal.returns-in-BlockLength-clause-puts
returns-in-BlockLength-clause-puts c =
    rw c.in-BlockLength.is (c.put_place-in-BlockLength.ensures.puts ⨟ c.put_number.ensures.puts)

pub returns-in-Trailer-clause-puts : goal.returns-in-Trailer-clause-puts
returns-in-Trailer-clause-puts c =
    rw c.in-Trailer.is (c.put_place-in-Trailer.ensures.puts ⨟ c.put_number-in-Trailer.ensures.puts)

pub returns-in-SectionVersion-clause-puts : goal.returns-in-SectionVersion-clause-puts
returns-in-SectionVersion-clause-puts c =
    rw c.in-SectionVersion.is (c.put_place-in-SectionVersion.ensures.puts ⨟ c.put_version.ensures.puts)

pub returns-in-Interface-clause-puts : goal.returns-in-Interface-clause-puts
returns-in-Interface-clause-puts c =
    rw c.in-Interface.is (c.put_place-in-Interface.ensures.puts ⨟ c.put_number-in-Interface.ensures.puts)

pub returns-in-CapturedLength-clause-puts : goal.returns-in-CapturedLength-clause-puts
returns-in-CapturedLength-clause-puts c =
    rw c.in-CapturedLength.is (c.put_place-in-CapturedLength.ensures.puts ⨟ c.put_number-in-CapturedLength.ensures.puts)

pub returns-in-Interfaces-clause-puts : goal.returns-in-Interfaces-clause-puts
returns-in-Interfaces-clause-puts c =
    rw c.in-Interfaces.is (c.put_place-in-Interfaces.ensures.puts ⨟ c.put_number-in-Interfaces.ensures.puts)

pub returns-in-Blocks-clause-puts : goal.returns-in-Blocks-clause-puts
returns-in-Blocks-clause-puts c =
    rw c.in-Blocks.is (c.put_place-in-Blocks.ensures.puts ⨟ c.put_number-in-Blocks.ensures.puts)
