use Rattle.std.proofs.Common.{rules}
use Rattle.std.proofs.lemmas.List.Sorted.{answers_always}
use Rattle.plain_map.specs.declared.records.Pending.{Pending}
use Rattle.report_check.proofs.PlaceLemmas.{place_is}
use Rattle.report_check.proofs.places.pending_place.Goals as goal

-- the closure gives a call's packet
pub returns : goal.returns
returns c = λ sorted.
    (let facts = c.binary_search_by_key.ensures in
    let by_key = facts.position (λ (r : Pending). r.packet) (answers_always _ _ _ (λ f a r g called. search rules)) in
    rw c.ok.ensures.value (place_is (λ (r : Pending). r.packet) c.args.pending.now c.args.packet
    c.binary_search_by_key.result facts.bound by_key sorted))
