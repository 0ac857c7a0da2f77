-- What the readers of both formats are as one.
use Rattle.std.specs.Prelude.{◌-◌, ◌+◌, length}
use Rattle.pcap_reader.specs.Reading.{Reading as OneFile}
use Rattle.pcapng_reader.specs.declared.any.Inner.{Inner}
use Rattle.pcapng_reader.specs.declared.any.Inner.TheVariants.{Savefile, Blocks}
use Rattle.pcapng_reader.specs.Reading.{OfRecords, Reading}

-- the reader of a savefile, as one of an input
abbrev pub of_savefile : OneFile → Reading
of_savefile saved =
    record {
      form = OfRecords saved.order;
      fraction = saved.fraction;
      pending = saved.pending;
      packet = saved.packet;
      stamp = saved.stamp;
      offset = saved.offset;
      start = saved.offset - (16 + length saved.packet);
      given = saved.given;
      ended = saved.ended;
    }

-- the reader of either format
abbrev pub reading_of : Inner → Reading
reading_of (Savefile reader) = of_savefile reader
reading_of (Blocks reader) = reader
