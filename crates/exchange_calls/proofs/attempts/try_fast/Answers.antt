-- A look, and then the rest, where it is not answered by it.
use Rattle.std.proofs.Common.{◌≡◌, List, Option, None, refl, subst}
use Rattle.std.specs.Prelude.{MatchOption, false}
use Rattle.plain_map.specs.declared.calls.Reply.{Reply}
use Rattle.plain_map.specs.declared.keys.Key.{Key}
use Rattle.plain_map.specs.declared.keys.Pair.{Pair}
use Rattle.bucket_states.specs.Items.{value_at}
use Rattle.bucket_states.specs.Places.{IsPlaceOf}
use Rattle.exchange_calls.specs.Quiet.{IsQuietBy}
use Rattle.exchange_calls.proofs.AttemptLemmas.{seen_on, solo_on}
use Rattle.exchange_calls.proofs.attempts.try_fast.Goals as goal

pub returns : goal.returns
returns g c =
    let k = c.in-Some.ensures.seen in
    let quiet = subst (λ (r : Option Reply). IsQuietBy c.args.desk.now.rules c.look.new.hand.items.items
    c.args.own.now.call r) c.in_default-quiet.is
    (subst (λ (xs : List Pair). IsQuietBy c.args.desk.now.rules xs c.args.own.now.call c.quiet_reply-quiet.result)
    c.deref-2.ensures.value c.quiet_reply-quiet.ensures) in
    let place = subst (λ (key : Key). MatchOption c.place_of-at.result
    (value_at key c.look.new.hand.items.items ≡ None) (IsPlaceOf key c.look.new.hand.items.items)) c.key.ensures
    (subst (λ (xs : List Pair). MatchOption c.place_of-at.result (value_at c.key.result.now xs ≡ None)
    (IsPlaceOf c.key.result.now xs)) c.deref.ensures.value c.place_of-at.ensures) in
    c.finish.ensures
    (seen_on (g.S.Steps.now c.args.steps.now) (g.S.Steps.now c.look.new.steps) c.args.own.now.call 1 c.in-Some.word
    c.look.new.hand k c.args.desk.now c.requires.desk false c.place_of-at.result
    (solo_on (g.S.Steps.now c.args.steps.now) (g.S.Steps.now c.look.new.steps) c.args.own.now.call 1 c.in-Some.word
    c.look.new.hand k c.args.desk.now c.requires.desk refl quiet) refl place)
