-- What calls came to.
-- Source: this project's own.
use Rattle.std.specs.Prelude.{◌≡◌, ℕ, ◌+◌, ◌-◌, ◌^◌, ◌<◌, max, Bool, true, false, List, length, count_by}
use Rattle.plain_map.specs.declared.calls.Reply.{Reply}
use Rattle.plain_map.specs.declared.calls.Reply.TheVariants.{New, Old, NoRoom, Gone, Found, Absent, Sum}
use Rattle.plain_map.specs.declared.calls.Call.{Call}
use Rattle.plain_map.specs.declared.calls.Call.TheVariants.{Insert, Remove, Lookup, Tally, Count, Put}
use Rattle.trace_share.specs.declared.outcome.Outcome.{Outcome}
use Rattle.trace_share.specs.declared.outcome.Outcome.TheVariants.{Answered, Refused}
use Rattle.batch_runner.specs.declared.totals.Replies.{Replies}
use Rattle.batch_runner.specs.declared.totals.Totals.{Totals}
use Rattle.batch_runner.specs.Printed.{answers_in, lookup_steps_in, refused_in, update_steps_in}

abbrev pub is_new : Reply → Bool
is_new New = true
is_new _ = false

abbrev pub is_old : Reply → Bool
is_old (Old value) = true
is_old _ = false

abbrev pub is_noroom : Reply → Bool
is_noroom NoRoom = true
is_noroom _ = false

abbrev pub is_gone : Reply → Bool
is_gone (Gone value) = true
is_gone _ = false

abbrev pub is_found : Reply → Bool
is_found (Found value) = true
is_found _ = false

abbrev pub is_absent : Reply → Bool
is_absent Absent = true
is_absent _ = false

-- how many of these calls were answered with such a reply
abbrev pub replies_in : (Reply → Bool) → List Outcome → ℕ
replies_in test outcomes = count_by (λ r. test r.reply) (answers_in outcomes)

abbrev pub totals_of : List Outcome → Totals
totals_of outcomes = record {
  calls = length outcomes;
  refused = refused_in outcomes;
  update = update_steps_in outcomes;
  lookup = lookup_steps_in outcomes;
  replies = record {
    new = replies_in is_new outcomes;
    old = replies_in is_old outcomes;
    noroom = replies_in is_noroom outcomes;
    gone = replies_in is_gone outcomes;
    found = replies_in is_found outcomes;
    absent = replies_in is_absent outcomes;
  };
}

-- these outcomes came to this
abbrev pub IsTotalOf : Totals → List Outcome → Type 0
IsTotalOf totals log = totals ≡ totals_of log

-- how many more it can count
abbrev pub room_of : Totals → ℕ
room_of totals = 2 ^ 64 - 1 - totals.calls

-- each is below this
pub record AreFewer (limit : ℕ) (replies : Replies) : Type 0 where
  pub new : replies.new < limit
  pub old : replies.old < limit
  pub noroom : replies.noroom < limit
  pub gone : replies.gone < limit
  pub found : replies.found < limit
  pub absent : replies.absent < limit

-- one more of a reply; a sum is none of the six
abbrev pub with_reply : Reply → Replies → Replies
with_reply New replies = record replies { new = replies.new + 1 }
with_reply (Old value) replies = record replies { old = replies.old + 1 }
with_reply NoRoom replies = record replies { noroom = replies.noroom + 1 }
with_reply (Gone value) replies = record replies { gone = replies.gone + 1 }
with_reply (Found value) replies = record replies { found = replies.found + 1 }
with_reply Absent replies = record replies { absent = replies.absent + 1 }
with_reply (Sum total) replies = replies

-- those of a batch more
abbrev pub with_replies : (batch : Replies) → Replies → Replies
with_replies batch replies = record {
  new = replies.new + batch.new;
  old = replies.old + batch.old;
  noroom = replies.noroom + batch.noroom;
  gone = replies.gone + batch.gone;
  found = replies.found + batch.found;
  absent = replies.absent + batch.absent;
}

-- the most steps, with those of one more call
abbrev pub with_steps : Call → (steps : ℕ) → Totals → Totals
with_steps (Lookup key) steps totals = record totals { lookup = max totals.lookup steps }
with_steps (Insert key value) steps totals = record totals { update = max totals.update steps }
with_steps (Remove key) steps totals = record totals { update = max totals.update steps }
with_steps (Tally key amount) steps totals = record totals { update = max totals.update steps }
with_steps (Count key value amount) steps totals = record totals { update = max totals.update steps }
with_steps (Put key value) steps totals = record totals { update = max totals.update steps }

-- one call more
abbrev pub with_outcome : Outcome → Totals → Totals
with_outcome (Answered made) totals =
    record (with_steps made.call made.steps totals) {
      calls = totals.calls + 1;
      replies = with_reply made.reply totals.replies;
    }
with_outcome (Refused packet call full) totals =
    record totals { calls = totals.calls + 1; refused = totals.refused + 1 }
