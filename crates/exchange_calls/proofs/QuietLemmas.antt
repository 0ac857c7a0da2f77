-- A quiet answer is that of the items.
use Rattle.std.proofs.Common.{◌≡◌, ◌∙◌, List, Option, Some, None, refl}
use Rattle.plain_map.specs.declared.calls.Call.{Call}
use Rattle.plain_map.specs.declared.calls.Call.TheVariants.{Insert, Remove, Lookup, Tally, Count, Put}
use Rattle.plain_map.specs.declared.calls.Reply.{Reply}
use Rattle.plain_map.specs.declared.keys.Pair.{Pair}
use Rattle.plain_map.specs.declared.rules.Rules.{Rules}
use Rattle.plain_map.specs.Calls.{key_in}
use Rattle.plain_map.specs.Updates.{IsUpdate}
use Rattle.bucket_states.specs.Items.{has_place, reply_in, value_at}
use Rattle.exchange_calls.specs.Quiet.{IsQuiet, IsQuietBy, reply_by}

-- the reply is that of the items
reply_same : (rules : Rules) (items : List Pair) (call : Call) → IsUpdate call →
    reply_by call (value_at (key_in call) items) (has_place rules items) ≡ reply_in rules items call
unfolding reply_in
reply_same rules items (Insert key value) update = refl
reply_same rules items (Remove key) update = refl
reply_same rules items (Lookup key) update = absurd update
reply_same rules items (Tally key amount) update = refl
reply_same rules items (Count key value amount) update = refl
reply_same rules items (Put key value) update = refl

pub quiet_by : (rules : Rules) (items : List Pair) (call : Call) (result : Option Reply) → IsUpdate call →
    IsQuiet call (value_at (key_in call) items) (has_place rules items) result → IsQuietBy rules items call result
quiet_by rules items call None update quiet = quiet
quiet_by rules items call (Some reply) update quiet = (quiet.0, quiet.1 ∙ reply_same rules items call update)
