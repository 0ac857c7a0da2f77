use Rattle.std.proofs.Common.{◌+◌, ◌*◌, length}
use Rattle.exchange_table.proofs.meeting.+gather.Given as goal

abbrev pub decreases-gather : goal.decreases-gather
decreases-gather l = 2 * length l.seats.now

abbrev pub decreases-gather_with : goal.decreases-gather_with
decreases-gather_with l = 2 * length l.rest.now + 1
