-- Where the call of a packet is kept.
use Rattle.std.specs.Prelude.{◌≡◌, ℕ, ◌<◌, List, length, slice_index_or, Option, Some, None}

-- the element with this number is kept at the place, or there is none
abbrev pub IsPlaceOf : {A : Type 0} → (A → ℕ) → List A → (packet : ℕ) → Option ℕ → Type 0
IsPlaceOf {A} key xs packet (Some i) = (i < length xs) × ((d : A) → key (slice_index_or xs i d) ≡ packet)
IsPlaceOf {A} key xs packet None = (i : ℕ) (d : A) → i < length xs → key (slice_index_or xs i d) ≡ packet → ⊥
