use Rattle.command_line.proofs.CommandLemmas.{flowdir_is_free}
use Rattle.command_line.proofs.CommandLinesLemmas.{alone, alone_flows, any_items, any_line, every_none, no_words, spaced, twice}
use Rattle.command_line.proofs.RoundTripLemmas.{round_trip}
use Rattle.command_line.proofs.UnusedLemmas.{unused}
use Rattle.command_line.proofs.words.laws.command_line_laws.Goals as goal

pub returns : goal.returns
returns c = record {
  simple = flowdir_is_free;
  alone = alone;
  alone_flows = alone_flows;
  spaced = spaced;
  any_items = any_items;
  any_line = any_line;
  round_trip = round_trip;
  unused = unused;
  no_words = no_words;
  every_none = every_none;
  twice = twice;
}
