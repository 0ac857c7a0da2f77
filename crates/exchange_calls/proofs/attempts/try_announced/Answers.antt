-- A look, and then the rest, where the row has no entry of the update.
use Rattle.std.proofs.Common.{◌≡◌, ◌∙◌, ◌<◌, List, None, sym, ap, subst, arith}
use Rattle.std.specs.Prelude.{MatchOption, true}
use Rattle.plain_map.specs.declared.keys.Key.{Key}
use Rattle.plain_map.specs.declared.keys.Pair.{Pair}
use Rattle.bucket_states.specs.Items.{value_at}
use Rattle.bucket_states.specs.Places.{IsPlaceOf}
use Rattle.exchange_calls.specs.Marks.{mark_of}
use Rattle.exchange_calls.proofs.AttemptLemmas.{seen_on, shared_done, shared_on, shared_replies}
use Rattle.exchange_calls.proofs.attempts.try_announced.Goals as goal

pub unreachable-requires : goal.unreachable-requires
unreachable-requires g c =
    let low : c.args.desk.now.holder < 64 = omega (arith, c.requires.seat, c.args.desk.now.sizes.few_seats) in
    shared_replies (g.S.Steps.now c.args.steps.now) (g.S.Steps.now c.look.new.steps) c.args.own.now.call c.args.turn
    c.in-Some.word c.look.new.hand c.in-Some.ensures.seen c.args.desk.now c.requires.desk c.requires.turn
    c.mark_word-entry.result c.args.own.now.number low c.requires.number c.mark_word-entry.ensures.value
    c.in-Some-own_mark.mark
    (sym (c.mark_in-own_mark.ensures ∙ ap (mark_of c.mark_word-entry.result) c.deref.ensures.value)
    ∙ c.in-Some-own_mark.is)
    (sym c.reply_of.ensures.value ∙ c.in_default-reply_of.is)

pub returns-in-Some-own_mark : goal.returns-in-Some-own_mark
returns-in-Some-own_mark g c =
    let low : c.args.desk.now.holder < 64 = omega (arith, c.requires.seat, c.args.desk.now.sizes.few_seats) in
    shared_done (g.S.Steps.now c.args.steps.now) (g.S.Steps.now c.look.new.steps) c.args.own.now.call c.args.turn
    c.in-Some.word c.look.new.hand c.in-Some.ensures.seen c.args.desk.now c.requires.desk c.requires.turn
    c.mark_word-entry.result c.args.own.now.number low c.requires.number c.mark_word-entry.ensures.value
    c.args.rows.now c.requires.rows c.in-Some-own_mark.mark c.in-Some-reply_of.reply
    (sym (c.mark_in-own_mark.ensures ∙ ap (mark_of c.mark_word-entry.result) c.deref.ensures.value)
    ∙ c.in-Some-own_mark.is)
    (sym c.reply_of.ensures.value ∙ c.in-Some-reply_of.is)

pub finish-requires-clause-seen : goal.finish-requires-clause-seen
finish-requires-clause-seen g c =
    let low : c.args.desk.now.holder < 64 = omega (arith, c.requires.seat, c.args.desk.now.sizes.few_seats) in
    let place = subst (λ (key : Key). MatchOption c.place_of-at.result
    (value_at key c.look.new.hand.items.items ≡ None) (IsPlaceOf key c.look.new.hand.items.items)) c.key.ensures
    (subst (λ (xs : List Pair). MatchOption c.place_of-at.result (value_at c.key.result.now xs ≡ None)
    (IsPlaceOf c.key.result.now xs)) c.deref-2.ensures.value c.place_of-at.ensures) in
    seen_on (g.S.Steps.now c.args.steps.now) (g.S.Steps.now c.look.new.steps) c.args.own.now.call c.args.turn
    c.in-Some.word c.look.new.hand c.in-Some.ensures.seen c.args.desk.now c.requires.desk true c.place_of-at.result
    (shared_on (g.S.Steps.now c.args.steps.now) (g.S.Steps.now c.look.new.steps) c.args.own.now.call c.args.turn
    c.in-Some.word c.look.new.hand c.in-Some.ensures.seen c.args.desk.now c.requires.desk c.requires.turn
    c.mark_word-entry.result c.args.own.now.number low c.requires.number c.mark_word-entry.ensures.value
    (sym (c.mark_in-own_mark.ensures ∙ ap (mark_of c.mark_word-entry.result) c.deref.ensures.value)
    ∙ c.in_default-own_mark.is)) c.requires.turn place

pub returns : goal.returns
unfolding finish-requires-clause-seen
returns g c = c.finish.ensures (finish-requires-clause-seen g c.before)
