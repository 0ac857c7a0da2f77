use Rattle.std.proofs.Common.{◌∙◌, ap, sym, nat_le}
use Rattle.plain_map.specs.declared.records.Pending.{Pending}
use Rattle.plain_map.specs.Calls.{is_update}
use Rattle.report_check.proofs.WholeLemmas.{effect_none, effect_some, one_is}
use Rattle.report_check.proofs.whole.is_effect.Goals as goal

pub returns-in-Some : goal.returns-in-Some
returns-in-Some c = λ sorted once.
    (let (i, inside, is, named) = c.in-Some.ensures sorted in
    c.is_update.ensures ∙ sym (one_is (is_update c.in-Some.call.now.call))
    ∙ ap (nat_le 1) (sym (effect_some (λ (u : Pending). u.packet) c.args.packet (λ (u : Pending). is_update u.call)
    c.args.pending.now
    i c.in-Some.call.now once inside is named)))

pub returns-in-None : goal.returns-in-None
returns-in-None c = λ sorted once.
    ap (nat_le 1) (sym (effect_none (λ (u : Pending). u.packet) c.args.packet (λ (u : Pending). is_update u.call)
    c.args.pending.now (c.in-None.ensures sorted)))
