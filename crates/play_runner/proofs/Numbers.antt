-- How many slots there are.
use Rattle.std.proofs.Common.{◌≡◌, ℕ, ◌+◌, ◌*◌, ◌^◌, ◌<◌, ◌-◌, ◌≤◌, suc, List, [], ◌∷◌, ◌++◌, Option, None, All, subst, length, drop, get_or, sum_by, sym, ap, ◌∙◌, arith}
use Rattle.std.proofs.Math.Seq.{drop-cons}
use Rattle.std.proofs.lemmas.List.{drop_all, get_or-map, length-map, map_push}
use Rattle.std.proofs.lemmas.List.FromFn.{map-range_with_len_more}
use Rattle.std.proofs.lemmas.List.Sums.{sum_by-cons, sum_by-le}
use Rattle.plain_map.specs.declared.calls.Call.{Call}
use Rattle.std.proofs.Math.Nat.{mul-le-mul, pow-le-pow_right}
use Rattle.step_counts.specs.declared.settings.Settings.{Settings}
use Rattle.step_counts.specs.StepCounts.{bucket_row_words, step_bound}
use Rattle.table_model.specs.Schedules.{Hand, call_steps, most_slots}
use Rattle.play_runner.specs.declared.hands.Hand as D
use Rattle.play_runner.specs.Hands.{HasFew, as_hand, as_hands, hands_of}

-- an update takes fewer steps than a million
pub bound_small : (s : Settings) → step_bound s < 2 ^ 20
bound_small s =
    let row : bucket_row_words s + 1 ≤ 134 = omega (arith, s.items_in_range.1, s.seats_in_range.1) in
    let places : 2 ^ s.depth ≤ 2 ^ 12 = pow-le-pow_right (omega arith) s.depth_in_range.1 in
    let deep : s.depth + 1 ≤ 13 = omega (arith, s.depth_in_range.1) in
    let leaves : s.seats * (s.depth + 1) ≤ 8 * 13 = mul-le-mul s.seats_in_range.1 deep in
    let looks : s.seats * (bucket_row_words s + 1) ≤ 8 * 134 = mul-le-mul s.seats_in_range.1 row in
    let made : s.seats * (s.depth + 1) * (bucket_row_words s + 1) ≤ 8 * 13 * 134 = mul-le-mul leaves row in
    omega (arith, row, places, leaves, looks, made, s.seats_in_range.1)

-- no lookup takes more steps than an update can
pub longest_is : (s : Settings) → step_bound s ≡ call_steps s
longest_is s = omega arith

-- so any call takes fewer
pub call_steps_small : (s : Settings) → call_steps s < 2 ^ 20
call_steps_small s = omega (arith, bound_small s, longest_is s)

-- the slots that one seat can need are few
pub most_slots_small : (s : Settings) (hand : Hand) → length hand.calls ≤ 2 ^ 32 - 1 → most_slots s hand ≤ 2 ^ 52
most_slots_small s hand few =
    let calls : length hand.calls + 1 ≤ 2 ^ 32 = omega arith in
    let steps : call_steps s ≤ 2 ^ 20 = omega (arith, call_steps_small s) in
    mul-le-mul calls steps

-- what stands where there is no hand
abbrev pub no_hand : D.Hand
no_hand = record { calls = record { ref_ptr = (0, 0); now = [] }; may = None }

-- the sum of the hands from this one on
pub sum_from : (f : Hand → ℕ) (hands : List D.Hand) (i : ℕ) (d : D.Hand) → i < length hands →
    sum_by f (as_hands (drop i hands)) ≡ f (as_hand (get_or hands i d)) + sum_by f (as_hands (drop (i + 1) hands))
sum_from f hands i d h =
    ap (λ (hs : List D.Hand). sum_by f (as_hands hs)) (drop-cons hands i d h)
    ∙ sum_by-cons f (as_hand (get_or hands i d)) (as_hands (drop (suc i) hands))
    ∙ ap (λ (n : ℕ). f (as_hand (get_or hands i d)) + sum_by f (as_hands (drop n hands)))
    (let e : suc i ≡ i + 1 = omega arith in e)

-- none are left
pub sum_past : (f : Hand → ℕ) (hands : List D.Hand) (i : ℕ) → length hands ≤ i → sum_by f (as_hands (drop i hands)) ≡ 0
sum_past f hands i h = ap (λ (hs : List D.Hand). sum_by f (as_hands hs)) (drop_all i hands h)

-- one of few hands
pub few_at : (hands : List D.Hand) (i : ℕ) (d : D.Hand) → i < length hands → All HasFew (as_hands hands) →
    length (get_or hands i d).calls.now ≤ 2 ^ 32 - 1
few_at hands i d h all =
    subst HasFew (get_or-map as_hand hands i d (as_hand d) h)
    (all i (as_hand d) (omega (arith, h, length-map hands as_hand)))

-- the calls of all hands are few
pub calls_few : (hands : List D.Hand) → All HasFew (as_hands hands) → length hands ≤ 8 →
    sum_by (λ hand. length hand.calls) (as_hands hands) ≤ 8 * (2 ^ 32 - 1)
calls_few hands all short =
    omega (
      arith,
      sum_by-le (λ (hand : Hand). length hand.calls) (2 ^ 32 - 1) (as_hands hands) all,
      length-map hands as_hand,
      short,
    )

-- and so are their slots
pub rounds_few : (s : Settings) (hands : List D.Hand) → All HasFew (as_hands hands) → length hands ≤ 8 →
    sum_by (most_slots s) (as_hands hands) ≤ 8 * 2 ^ 52
rounds_few s hands all short =
    omega (
      arith,
      sum_by-le (most_slots s) (2 ^ 52) (as_hands hands)
          (λ k d h. most_slots_small s (get_or (as_hands hands) k d) (all k d h)),
      length-map hands as_hand,
      short,
    )

-- one hand more is dealt
pub one_more : (seat : ℕ) (calls : List (List (ℕ × Call))) (stops : List (Option ℕ)) (hands : List D.Hand)
    (hand : D.Hand) → as_hands hands ≡ hands_of seat calls stops → hand.calls.now ≡ get_or calls seat [] →
    hand.may ≡ get_or stops seat None → as_hands (hands ++ hand ∷ []) ≡ hands_of (seat + 1) calls stops
one_more seat calls stops hands hand are own stop =
    map_push as_hand hands hand
    ∙ ap (λ (hs : List Hand). hs ++ as_hand hand ∷ []) are
    ∙ (λ i. hands_of seat calls stops ++ record { calls = own i; may = stop i } ∷ [])
    ∙ sym (map-range_with_len_more
    (λ (q : ℕ). record { calls = get_or calls q []; may = get_or stops q None }) 0 seat seat (omega arith))
