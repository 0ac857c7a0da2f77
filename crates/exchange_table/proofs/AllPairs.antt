-- What copies of all buckets tell, where no update is made meanwhile.
use Rattle.std.proofs.Common.{◌≡◌, ℕ, suc, ◌+◌, ◌<◌, ◌≤◌, List, [], ◌∷◌, ◌++◌, length, refl, sym, ap, ◌∙◌, subst, arith}
use Rattle.std.specs.Prelude.{All, flat_map}
use Rattle.std.specs.List.{range_with_len}
use Rattle.std.proofs.lemmas.List.Elements.{All-filter, All-head, All-tail}
use Rattle.plain_map.specs.declared.keys.Pair.{Pair}
use Rattle.exchange_model.specs.Plans.{Plan, buckets_of}
use Rattle.exchange_model.specs.Steps.{Idle}
use Rattle.exchange_model.specs.Goes.{Copied, Told, Again, Pairs, Refused, Replied, Spent}
use Rattle.exchange_model.specs.Worlds.{Answer, BySeat, Event, IsRun, seat_in, world_after}
use Rattle.exchange_model.specs.Laws.{pairs_in}
use Rattle.exchange_laws.proofs.RestCounts.{counts_tell_rests}
use Rattle.exchange_laws.proofs.Rests.{copies_are_of_rests}
use Rattle.exchange_table.specs.Parties.{answers_by, is_asker}
use Rattle.exchange_table.specs.Rests.{AreCopies, BucketCopy, answers_of, pairs_of}

-- the pairs that were told
abbrev pairs_told : Told → List Pair
pairs_told (Replied reply) = []
pairs_told (Pairs pairs) = pairs
pairs_told Again = []
pairs_told Spent = []
pairs_told Refused = []

module _ (plan : Plan) (first later : List Event) (run : IsRun plan (first ++ later))
    (idle_first : (seat : ℕ) → seat < plan.settings.seats → (seat_in (world_after plan first) seat).stand ≡ Idle)
    (idle_last : (seat : ℕ) → seat < plan.settings.seats →
    (seat_in (world_after plan (first ++ later)) seat).stand ≡ Idle)
    (updates : (seat : ℕ) → seat < plan.settings.seats →
    (seat_in (world_after plan (first ++ later)) seat).answered ≡ (seat_in (world_after plan first) seat).answered)
  where
    -- the pairs of a bucket at first
    abbrev at_first : (bucket : ℕ) → List Pair
    at_first bucket = pairs_in plan (world_after plan first) bucket

    -- a copy that began meanwhile tells them
    abbrev IsOfRest : Answer → Type 0
    IsOfRest a = (seat bucket : ℕ) → a.by ≡ BySeat seat → a.asked ≡ Copied bucket →
        bucket < buckets_of plan.settings → length first ≤ a.began → a.told ≡ Pairs (at_first bucket)

    of_rest : All IsOfRest (world_after plan (first ++ later)).answers
    of_rest = copies_are_of_rests plan first (first ++ later) run
        (counts_tell_rests plan first later run idle_first idle_last updates)

    all_behind : (xs ys : List Answer) → All IsOfRest (xs ++ ys) → All IsOfRest ys
    all_behind [] ys all = all
    all_behind (x ∷ xs) ys all = all_behind xs ys (All-tail IsOfRest x (xs ++ ys) all)

    copies_tell : (bucket : ℕ) (copies : List BucketCopy) → AreCopies (BySeat 0) (length first) bucket copies →
        bucket + length copies ≤ buckets_of plan.settings → All IsOfRest (answers_of copies) →
        pairs_of copies ≡ flat_map at_first (range_with_len bucket (length copies))
    copies_tell bucket [] are few all = refl
    copies_tell bucket (c ∷ copies) are few all =
        let head : c.pairs ≡ at_first bucket =
        ap pairs_told (sym are.0.tells
        ∙ All-head IsOfRest c.answer (answers_of copies) all 0 bucket are.0.by are.0.asks
        (omega (arith, few)) are.0.after) in
        let next : suc bucket ≡ bucket + 1 = omega arith in
        (λ i. head i ++ copies_tell (suc bucket) copies are.1 (omega (arith, few))
        (All-tail IsOfRest c.answer (answers_of copies) all) i)
        ∙ ap (λ b. at_first bucket ++ flat_map at_first (range_with_len b (length copies))) next

    -- THE RESULT
    pub all_told : (copies : List BucketCopy) → AreCopies (BySeat 0) (length first) 0 copies →
        length copies ≤ buckets_of plan.settings →
        answers_by (BySeat 0) (world_after plan (first ++ later)).answers
        ≡ answers_by (BySeat 0) (world_after plan first).answers ++ answers_of copies →
        pairs_of copies ≡ flat_map at_first (range_with_len 0 (length copies))
    all_told copies are few own = copies_tell 0 copies are (omega (arith, few))
        (all_behind (answers_by (BySeat 0) (world_after plan first).answers) (answers_of copies)
        (subst (All IsOfRest) own
        (All-filter (λ (a : Answer). is_asker (BySeat 0) a.by) IsOfRest (world_after plan (first ++ later)).answers
        of_rest)))
