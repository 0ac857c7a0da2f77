-- By what is held at the key.
use Rattle.std.proofs.Common.{Option, sym, subst}
use Rattle.plain_map.specs.Keys.{Session}
use Rattle.bucket_states.specs.Items.{has_place}
use Rattle.exchange_calls.specs.Quiet.{IsQuiet}
use Rattle.exchange_calls.proofs.QuietLemmas.{quiet_by}
use Rattle.exchange_calls.proofs.changes.quiet_reply.Goals as goal

pub returns-in-Some : goal.returns-in-Some
returns-in-Some c =
    let here = rw c.in-Some.is at c.requires.place in
    let place = has_place c.args.rules.now c.args.items.now in
    quiet_by c.args.rules.now c.args.items.now c.args.call.now c.quiet_at.result c.requires.update
    (subst (λ (held : Option Session). IsQuiet c.args.call.now held place c.quiet_at.result) (sym (here.value _))
    (c.quiet_at.ensures place))

pub returns-in-None : goal.returns-in-None
returns-in-None c =
    let none = rw c.in-None.is at c.requires.place in
    let place = has_place c.args.rules.now c.args.items.now in
    quiet_by c.args.rules.now c.args.items.now c.args.call.now c.quiet_new.result c.requires.update
    (subst (λ (held : Option Session). IsQuiet c.args.call.now held place c.quiet_new.result) (sym none)
    c.quiet_new.ensures)
