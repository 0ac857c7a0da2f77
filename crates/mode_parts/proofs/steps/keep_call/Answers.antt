use Rattle.std.proofs.Common.{Some, sym, subst}
use Rattle.mode_parts.specs.Reading.{AreBetween}
use Rattle.mode_parts.proofs.CallLemmas.{AreBetween-more}
use Rattle.mode_parts.proofs.steps.keep_call.Goals as goal

pub returns-in_ok-push-clause-between : goal.returns-in_ok-push-clause-between
returns-in_ok-push-clause-between c = λ first last are next.
    subst (AreBetween first c.args.number) (sym c.in_ok-push.ensures.items)
    (AreBetween-more first last c.args.number c.args.calls.now.items (Some c.in-Some.call) are next
    c.in-Some.ensures.fits)
