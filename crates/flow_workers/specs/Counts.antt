-- How many calls had each reply.
use Rattle.std.specs.Prelude.{ℕ, ◌+◌, ◌<◌, ◌^◌, List, fold}
use Rattle.plain_map.specs.declared.calls.Reply.{Reply}
use Rattle.plain_map.specs.declared.calls.Reply.TheVariants.{New, Old, NoRoom, Gone, Found, Absent, Sum}
use Rattle.map_laws.specs.ByKey.{Made}
use Rattle.flow_workers.specs.declared.replies.ReplyCounts.{ReplyCounts}

-- none
abbrev pub no_counts : ReplyCounts
no_counts = record { new = 0; old = 0; noroom = 0; gone = 0; found = 0; absent = 0; sum = 0 }

-- with one reply more
abbrev pub counted_with : ReplyCounts → Reply → ReplyCounts
counted_with counts New = record counts { new = counts.new + 1 }
counted_with counts (Old value) = record counts { old = counts.old + 1 }
counted_with counts NoRoom = record counts { noroom = counts.noroom + 1 }
counted_with counts (Gone value) = record counts { gone = counts.gone + 1 }
counted_with counts (Found value) = record counts { found = counts.found + 1 }
counted_with counts Absent = record counts { absent = counts.absent + 1 }
counted_with counts (Sum total) = record counts { sum = counts.sum + 1 }

-- with the replies of these calls
abbrev pub counts_after : ReplyCounts → List Made → ReplyCounts
counts_after counts made = fold (λ so_far one. counted_with so_far one.1) counts made

-- those of these calls
abbrev pub counts_of : List Made → ReplyCounts
counts_of made = counts_after no_counts made

-- those of two together
abbrev pub added : ReplyCounts → ReplyCounts → ReplyCounts
added counts others = record {
  new = counts.new + others.new;
  old = counts.old + others.old;
  noroom = counts.noroom + others.noroom;
  gone = counts.gone + others.gone;
  found = counts.found + others.found;
  absent = counts.absent + others.absent;
  sum = counts.sum + others.sum;
}

-- each is below so many
pub record AreBelow (most : ℕ) (counts : ReplyCounts) : Type 0 where
  pub new : counts.new < most
  pub old : counts.old < most
  pub noroom : counts.noroom < most
  pub gone : counts.gone < most
  pub found : counts.found < most
  pub absent : counts.absent < most
  pub sum : counts.sum < most

-- one more can be counted of each, and as many again
abbrev pub AreFew : ReplyCounts → Type 0
AreFew counts = AreBelow (2 ^ 63) counts
