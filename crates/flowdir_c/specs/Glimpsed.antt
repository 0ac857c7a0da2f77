-- What C is told of a peek.
use Rattle.std.specs.Prelude.{◌≡◌}
use Rattle.plain_map.specs.declared.keys.Key.{Key}
use Rattle.plain_map.specs.declared.calls.Reply.{Reply}
use Rattle.shared_table.specs.Readers.{ReaderValue}
use Rattle.shared_table.specs.Seen.{WasSeen}
use Rattle.flowdir_c.specs.declared.answer.Answer.{Answer}
use Rattle.flowdir_c.specs.Told.{answer_of}

-- the reply is that of the plain map at some moment from the call's first load to its last
pub record HasGlimpsed (key : Key) (was now : ReaderValue) (answer : Answer) : Type 0 where
  pub reply : Reply
  pub held : WasSeen was.front.setup was.front now.front key reply
  pub answer_is : answer ≡ answer_of reply 0
