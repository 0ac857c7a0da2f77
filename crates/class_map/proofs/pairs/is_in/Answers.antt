use Rattle.std.proofs.Common.{rules}
use Rattle.std.proofs.lemmas.List.Sorted.{answers_always}
use Rattle.plain_map.specs.declared.keys.Pair.{Pair}
use Rattle.plain_map.specs.Places.{IsAt, IsGapFor}
use Rattle.plain_map.proofs.PlaceLemmas.{searched}
use Rattle.class_map.proofs.PairLemmas.{none_at, same_at}
use Rattle.class_map.proofs.pairs.is_in.Goals as goal

-- the closure gives a pair's key
pub returns-in-Ok : goal.returns-in-Ok
returns-in-Ok c = λ ordered.
    (let facts = c.binary_search_by_key.ensures in
    let by_key = facts.position (λ (pair : Pair). pair.key) (answers_always _ _ _ (λ f a r g called. search rules)) in
    let found = searched c.args.pairs.now ordered c.args.pair.now.key _ facts.bound by_key in
    let here : IsAt c.args.pairs.now c.args.pair.now.key c.in-Ok.at = rw c.in-Ok.is at found.found in
    same_at c.args.pairs.now c.args.pair.now c.in-Ok.at _ c.is_same.result ordered here c.is_same.ensures)

pub returns-in-Err : goal.returns-in-Err
returns-in-Err c = λ ordered.
    (let facts = c.binary_search_by_key.ensures in
    let by_key = facts.position (λ (pair : Pair). pair.key) (answers_always _ _ _ (λ f a r g called. search rules)) in
    let found = searched c.args.pairs.now ordered c.args.pair.now.key _ facts.bound by_key in
    let gap : IsGapFor c.args.pairs.now c.args.pair.now.key c.in-Err.field-0 = rw c.in-Err.is at found.absent in
    none_at c.args.pairs.now c.args.pair.now c.in-Err.field-0 gap)
