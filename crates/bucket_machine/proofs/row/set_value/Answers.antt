use Rattle.std.proofs.Common.{◌≡◌, ap, get_or, ℕ, List, length, arith, refl}
use Rattle.bucket_machine.proofs.WordLemmas.{value_in_row}
use Rattle.bucket_machine.proofs.row.set_value.Goals as goal

pub returns-clause-spelled : goal.returns-clause-spelled
returns-clause-spelled c b spells =
    let count : get_or c.args.row.now 4 0 ≡ length b.items = ap (λ (ws : List ℕ). get_or ws 4 0) spells.words in
    value_in_row c.args.settings.now b c.args.row.now c.args.i _ c.args.value spells.words spells.places.items.fit
    (omega (arith, count)) refl
