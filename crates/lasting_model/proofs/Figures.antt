-- Bounds and sizes for four settings, each worked by hand. With four seats, eight items and depth 10 a row has
-- 2 + 8 + 56 = 66 words, a try 1 + 66 + 3 * 8 + 66 + 1 = 158 steps, and an update 15 + 8 + 2 * 158 + 6 = 345; a lookup
-- has 2 * (1 + 57 + 1) + 4 + 57 = 179.
use Rattle.std.proofs.Common.{◌≡◌, ℕ, refl, [], ◌∷◌, map, arith}
use Rattle.step_counts.specs.declared.settings.Settings.{Settings}
use Rattle.hash_bits.specs.declared.hashing.Hashing.TheVariants.{Ports}
use Rattle.lasting_model.specs.Plans.{ample, least_rows}
use Rattle.lasting_model.specs.Words.{word_count}
use Rattle.lasting_model.specs.Bounds.{update_bound, look_bound, row_steps}

abbrev one : Settings
one = record {
  seats = 1;
  items = 2;
  depth = 1;
  start = 1;
  seats_in_range = (omega arith, omega arith);
  items_in_range = (omega arith, omega arith);
  depth_in_range = (omega arith, omega arith);
  start_in_range = (omega arith, omega arith);
}

abbrev two : Settings
two = record {
  seats = 2;
  items = 8;
  depth = 10;
  start = 10;
  seats_in_range = (omega arith, omega arith);
  items_in_range = (omega arith, omega arith);
  depth_in_range = (omega arith, omega arith);
  start_in_range = (omega arith, omega arith);
}

abbrev four : Settings
four = record {
  seats = 4;
  items = 8;
  depth = 10;
  start = 10;
  seats_in_range = (omega arith, omega arith);
  items_in_range = (omega arith, omega arith);
  depth_in_range = (omega arith, omega arith);
  start_in_range = (omega arith, omega arith);
}

abbrev eight : Settings
eight = record {
  seats = 8;
  items = 16;
  depth = 12;
  start = 12;
  seats_in_range = (omega arith, omega arith);
  items_in_range = (omega arith, omega arith);
  depth_in_range = (omega arith, omega arith);
  start_in_range = (omega arith, omega arith);
}

-- the words of a row, the most steps of an update and of a look, and the rows of a seat
bounds_are :
    map {B = ℕ × ℕ × ℕ × ℕ} (λ s. (row_steps s s.items, update_bound s, look_bound s, least_rows s))
    (one ∷ two ∷ four ∷ eight ∷ [])
    ≡ (18, 93, 53, 7) ∷ (62, 289, 179, 2053) ∷ (66, 345, 179, 2057) ∷ (130, 681, 347, 8209) ∷ []
bounds_are = refl

-- all words of a table: with four seats, eight items and depth 10 these are
-- 3 * 4 + 7 * 4 + 1,024 + 4 * 2,057 * 66 = 544,112
abbrev words_with : Settings → ℕ
words_with s = word_count (record { settings = s; hashing = Ports 0; first = []; rows = least_rows s })

sizes_are :
    map words_with (one ∷ two ∷ four ∷ eight ∷ []) ≡ 138 ∷ 255616 ∷ 544112 ∷ 8541536 ∷ []
unfolding ample
sizes_are = refl
