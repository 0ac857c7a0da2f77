use Rattle.std.proofs.Common.{◌≡◌, ap, get_or, ℕ, List, length, arith}
use Rattle.bucket_machine.proofs.WordLemmas.{pushed}
use Rattle.bucket_machine.proofs.row.push_item.Goals as goal

pub returns-clause-spelled : goal.returns-clause-spelled
returns-clause-spelled c b spells =
    let count : get_or c.args.row.now 4 0 ≡ length b.items = ap (λ (ws : List ℕ). get_or ws 4 0) spells.words in
    pushed c.args.settings.now b c.args.pair.now c.args.row.now _ _ _ spells.words (omega (arith, count))
    (omega (arith, count)) (omega arith) c.write_pair.ensures
