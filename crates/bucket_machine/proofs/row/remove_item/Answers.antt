use Rattle.std.proofs.Common.{◌≡◌, ◌+◌, ◌-◌, ◌*◌, ap, get_or, ℕ, List, length, take, drop, arith, refl}
use Rattle.std.proofs.lemmas.List.{length-take, length-drop}
use Rattle.step_counts.specs.declared.TheConstants.{ITEM_WORDS}
use Rattle.bucket_machine.proofs.WordLemmas.{removed}
use Rattle.bucket_machine.proofs.row.remove_item.Goals as goal

pub returns-clause-spelled : goal.returns-clause-spelled
returns-clause-spelled c b spells =
    let count : get_or c.args.row.now 4 0 ≡ length b.items = ap (λ (ws : List ℕ). get_or ws 4 0) spells.words in
    let copied : List ℕ = c.copy_within.new.self in
    let end : ℕ = 5 + ITEM_WORDS * get_or c.args.row.now 4 0 in
    let from : ℕ = end - ITEM_WORDS in
    let size : ℕ = end - from in
    let long : length (take size (drop from copied)) ≡ ITEM_WORDS =
    omega (arith, length-take size (drop from copied), length-drop from copied, c.copy_within.ensures.len) in
    removed c.args.settings.now b c.args.at (get_or c.args.row.now 4 0) c.args.row.now copied _ from _ _
    spells.words spells.places.items.fit (omega (arith, count)) count c.copy_within.ensures.after refl
    (omega arith) long (c.fill.ensures.after (λ y e. e))
