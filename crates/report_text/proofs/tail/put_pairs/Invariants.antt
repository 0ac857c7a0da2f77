use Rattle.std.proofs.Common.{◌≡◌, ◌+◌, ◌*◌, ◌≤◌, ◌++◌, take}
use Rattle.report_text.specs.Lines.{hexadecimal, room, text_in}
use Rattle.report_text.proofs.tail.put_pairs.Given as goal

abbrev pub invariant-loop-byte : goal.invariant-loop-byte
invariant-loop-byte l = record {
  written : text_in l.out ≡ text_in l.initial.out ++ hexadecimal (take l.byte-index l.bytes);
  space : room l.initial.out ≤ room l.out + 2 * l.byte-index;
}
