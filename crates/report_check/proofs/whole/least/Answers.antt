use Rattle.std.proofs.Common.{sym, subst}
use Rattle.report_check.specs.Whole.{IsFirstMissing, IsFirstStray, IsLeastOf}
use Rattle.report_check.proofs.WholeLemmas.{least_missing, least_of_two, none_missing}
use Rattle.report_check.proofs.whole.least.Goals as goal

pub returns-in-Some-Some : goal.returns-in-Some-Some
returns-in-Some-Some c = λ calls pending order missing stray.
    (let one : IsFirstMissing calls order c.in-Some-Some.one = rw c.in-Some-Some.is-0 at missing in
    let other : IsFirstStray calls pending order c.in-Some-Some.other = rw c.in-Some-Some.is-1 at stray in
    subst (IsLeastOf calls pending order) (sym c.min.ensures)
    (least_of_two calls pending order c.in-Some-Some.one c.in-Some-Some.other one other))

pub returns-in-Some-None : goal.returns-in-Some-None
returns-in-Some-None c = λ calls pending order missing stray.
    least_missing calls pending order c.in-Some-None.one (rw c.in-Some-None.is-0 at missing)
    (λ other less. (rw c.in-Some-None.is-1 at stray) other)

pub returns-in-None-default : goal.returns-in-None-default
returns-in-None-default c = λ calls pending order missing stray.
    none_missing calls pending order c.args.stray (rw c.in-None-default.is-0 at missing) stray
