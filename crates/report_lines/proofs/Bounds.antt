-- The bound of settings is a number of 64 bits.
use Rattle.std.proofs.Common.{ℕ, ◌+◌, ◌*◌, ◌^◌, ◌≤◌, arith}
use Rattle.std.proofs.lemmas.Nat.{mul-le}
use Rattle.std.proofs.Math.Nat.{pow-le-pow_right}
use Rattle.step_counts.specs.declared.settings.Settings.{Settings}
use Rattle.step_counts.specs.StepCounts.{step_bound, new_leaves, bucket_row_words, bucket_look_steps, directory_try_steps}

few_words : (s : Settings) → s.seats ≤ 8 → s.items ≤ 16 → bucket_row_words s ≤ 133
few_words s seats items = omega arith

many_places : (depth : ℕ) → depth ≤ 12 → 2 ^ depth ≤ 4096
many_places depth shallow =
    let power : 2 ^ depth ≤ 2 ^ 12 = pow-le-pow_right {n = 2} (omega arith) shallow in
    omega (arith, power)

directory_small : (s : Settings) → s.seats ≤ 8 → s.items ≤ 16 → s.depth ≤ 12 → directory_try_steps s ≤ 1000000
directory_small s seats items depth =
    let words : bucket_row_words s ≤ 133 = few_words s seats items in
    let places : 2 ^ s.depth ≤ 4096 = many_places s.depth depth in
    let leaves : s.seats * (s.depth + 1) ≤ 104 = mul-le s.seats (s.depth + 1) 8 13 seats (omega arith) in
    let looks : s.seats * bucket_look_steps s ≤ 8 * 134 = mul-le s.seats (bucket_look_steps s) 8 134 seats
    (omega arith) in
    let made : new_leaves s * (bucket_row_words s + 1) ≤ 104 * 134 =
    mul-le (new_leaves s) (bucket_row_words s + 1) 104 134 leaves (omega arith) in
    omega (arith, places, looks, made)

pub small_bound : (s : Settings) → s.seats ≤ 8 → s.items ≤ 16 → s.depth ≤ 12 → step_bound s ≤ 18446744073709551615
small_bound s seats items depth =
    let words : bucket_row_words s ≤ 133 = few_words s seats items in
    let tries : directory_try_steps s ≤ 1000000 = directory_small s seats items depth in
    omega (arith, words, tries)
