use Rattle.std.proofs.Common.{sym, ap, ◌∙◌, get_or, false}
use Rattle.history_order.proofs.Alone.{same_flags}
use Rattle.history_order.proofs.ready.are_only.Goals as goal

pub returns : goal.returns
returns c same other few =
    ap (λ flags. get_or flags other false)
    (same_flags c.args.callers.now c.only.result (sym c.eq.ensures ∙ same))
    ∙ c.only.ensures other few
