-- Bounds and sizes, each worked by hand. With two seats, eight items and depth 10 a row has 1 + 56 + 4 = 61 words,
-- a try 1 + 61 + 1 + 1 + 8 + 61 + 1 = 134 steps, and an update 4 + 3 * 134 + 9 + 9 + 2 = 426; a lookup has
-- 2 * (1 + 57 + 1) + 4 + 57 + 1 = 180.
use Rattle.std.proofs.Common.{◌≡◌, ℕ, refl, [], ◌∷◌, map}
use Rattle.hash_bits.specs.declared.hashing.Hashing.TheVariants.{Ports}
use Rattle.exchange_model.specs.Plans.{Sizes}
use Rattle.exchange_model.specs.Words.{word_count}
use Rattle.exchange_model.specs.Bounds.{update_bound, look_bound, row_steps, try_steps}

abbrev sizes : (seats items depth : ℕ) → Sizes
sizes seats items depth = record { seats = seats; readers = 0; items = items; depth = depth }

-- the words of a row, and the most steps of a try, of an update and of a look
bounds_are :
    map {B = ℕ × ℕ × ℕ × ℕ} (λ s. (row_steps s, try_steps s, update_bound s, look_bound s))
    (sizes 1 2 1 ∷ sizes 2 8 10 ∷ sizes 8 16 12 ∷ sizes 64 16 19 ∷ [])
    ≡ (17, 38, 133, 54) ∷ (61, 134, 426, 180) ∷ (129, 318, 1008, 348) ∷ (241, 990, 3304, 348) ∷ []
bounds_are = refl

-- with a reader that can hold, each scan looks at one more
reader_bound_is : update_bound (record (sizes 2 8 10) { readers = 1 }) ≡ 430
reader_bound_is = refl

-- all words of a table: with two seats, eight items, depth 10, and four rows of each seat,
-- 1 + 2 + 2 * 2 + 7 * 2 + 1,024 + 1,032 * 61 = 63,997
size_is : word_count (record { settings = sizes 2 8 10; hashing = Ports 0; spare = 4; row_bits = 11 }) ≡ 63997
size_is = refl
