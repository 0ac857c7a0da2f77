-- The places of the words: within the memory, and apart. Each seat's rows are its own.
use Rattle.std.proofs.Common.{◌≡◌, ℕ, zero, suc, ◌+◌, ◌-◌, ◌*◌, ◌<◌, ◌≤◌, take, sum, inl, inr, refl, ap, ◌∙◌, arith}
use Rattle.std.proofs.lemmas.Nat.{same_from_place}
use Rattle.std.proofs.lemmas.Bool.{cases_lt}
use Rattle.std.proofs.lemmas.List.{get_or_past}
use Rattle.std.proofs.lemmas.List.Sums.{sum_by_more, sum_by-take-le}
use Rattle.sim_steps.specs.declared.words.Address.{Address}
use Rattle.sim_steps.specs.declared.words.Address.TheVariants.{Root, Announcement, Done, OpWord, StateWord}
use Rattle.sim_steps.specs.Layout.{Settings, seats_of, room_of, desk_of, row_words, op_row, state_row, place, words_of, IsAddress}
use Rattle.word_rows.proofs.Apart.{row_within}

-- within the memory
pub place_within : (s r : ℕ) (a : Address) → IsAddress s r a → place s r a < words_of s r
place_within s r Root h = omega arith
place_within s r (Announcement seat) h = omega arith
place_within s r (Done seat) h = omega arith
place_within s r (OpWord row i) h = omega (arith, row_within row 3 i r h.0 h.1)
place_within s r (StateWord row i) h = omega (arith, row_within row (row_words s) i (1 + r) h.0 h.1)

-- two addresses that have one place are one
pub place_apart : (s r : ℕ) (a b : Address) → IsAddress s r a → IsAddress s r b → place s r a ≡ place s r b → a ≡ b
place_apart s r Root Root h k e = refl
place_apart s r Root (Announcement t) h k e = absurd (omega arith)
place_apart s r Root (Done t) h k e = absurd (omega arith)
place_apart s r Root (OpWord q j) h k e = absurd (omega arith)
place_apart s r Root (StateWord q j) h k e = absurd (omega arith)
place_apart s r (Announcement u) Root h k e = absurd (omega arith)
place_apart s r (Announcement u) (Announcement t) h k e = let p : u ≡ t = omega arith in ap Announcement p
place_apart s r (Announcement u) (Done t) h k e = absurd (omega arith)
place_apart s r (Announcement u) (OpWord q j) h k e = absurd (omega arith)
place_apart s r (Announcement u) (StateWord q j) h k e = absurd (omega arith)
place_apart s r (Done u) Root h k e = absurd (omega arith)
place_apart s r (Done u) (Announcement t) h k e = absurd (omega arith)
place_apart s r (Done u) (Done t) h k e = let p : u ≡ t = omega arith in ap Done p
place_apart s r (Done u) (OpWord q j) h k e = absurd (omega arith)
place_apart s r (Done u) (StateWord q j) h k e = absurd (omega arith)
place_apart s r (OpWord p i) Root h k e = absurd (omega arith)
place_apart s r (OpWord p i) (Announcement t) h k e = absurd (omega arith)
place_apart s r (OpWord p i) (Done t) h k e = absurd (omega arith)
place_apart s r (OpWord p i) (OpWord q j) h k e =
    let f : p * 3 + i ≡ q * 3 + j = omega arith in
    let g = same_from_place p i q j 3 h.1 k.1 f in
    ap (λ n. OpWord n i) g.0 ∙ ap (λ n. OpWord q n) g.1
place_apart s r (OpWord p i) (StateWord q j) h k e = absurd (omega (arith, row_within p 3 i r h.0 h.1))
place_apart s r (StateWord p i) Root h k e = absurd (omega arith)
place_apart s r (StateWord p i) (Announcement t) h k e = absurd (omega arith)
place_apart s r (StateWord p i) (Done t) h k e = absurd (omega arith)
place_apart s r (StateWord p i) (OpWord q j) h k e = absurd (omega (arith, row_within q 3 j r k.0 k.1))
place_apart s r (StateWord p i) (StateWord q j) h k e =
    let f : p * row_words s + i ≡ q * row_words s + j = omega arith in
    let g = same_from_place p i q j (row_words s) h.1 k.1 f in
    ap (λ n. StateWord n i) g.0 ∙ ap (λ n. StateWord q n) g.1

-- ---- the rows of the seats before one, and its own

-- how many rows the seats before this one have
before : Settings → ℕ → ℕ
before l s = sum (take s l.adds)

-- with one seat more
before_next : (l : Settings) (s : ℕ) → s < seats_of l → before l (s + 1) ≡ before l s + room_of l s
unfolding before
before_next l s h = sum_by_more (λ n. n) l.adds s 0 h

-- later seats begin later
before_up : (l : Settings) (s k : ℕ) → s + k ≤ seats_of l → before l s ≤ before l (s + k)
before_up l s zero h = let e : s ≡ s + 0 = omega arith in omega (arith, ap (before l) e)
before_up l s (suc k) h =
    let e : (s + k) + 1 ≡ s + suc k = omega arith in
    omega (arith, before_up l s k (omega arith), before_next l (s + k) (omega arith), ap (before l) e)

-- a seat's rows come before those of a later seat, and all are among the rows
before_later : (l : Settings) (s t : ℕ) → s < t → t ≤ seats_of l → before l s + room_of l s ≤ before l t
before_later l s t h k =
    let e : (s + 1) + (t - (s + 1)) ≡ t = omega arith in
    omega (arith, before_next l s (omega arith), before_up l (s + 1) (t - (s + 1)) (omega arith), ap (before l) e)

-- where a seat has room, it is a seat
pub room_seat : (l : Settings) (s i : ℕ) → i < room_of l s → s < seats_of l
room_seat l s i h = elim (cases_lt s (seats_of l)) [
  | inl g ↦ g
  | inr g ↦ absurd (omega (arith, get_or_past l.adds s 0 g))
]

-- a seat's row is within all rows
row_below : (l : Settings) (s i : ℕ) → i < room_of l s → before l s + i < sum l.adds
unfolding before
row_below l s i h =
    let here = room_seat l s i h in
    omega (arith, before_next l s here, sum_by-take-le (λ n. n) l.adds (s + 1))

-- a row belongs to one seat
rows_apart : (l : Settings) (s t i j : ℕ) → i < room_of l s → j < room_of l t → before l s + i ≡ before l t + j →
    (s ≡ t) × (i ≡ j)
rows_apart l s t i j h k e = elim (cases_lt s t) [
  | inl g ↦ absurd (omega (arith, before_later l s t g (omega (arith, room_seat l t j k))))
  | inr g ↦ elim (cases_lt t s) [
    | inl f ↦ absurd (omega (arith, before_later l t s f (omega (arith, room_seat l s i h))))
    | inr f ↦ let same : s ≡ t = omega arith in (same, omega (arith, ap (before l) same))
  ]
]

-- so op rows of two seats are two
pub op_row_apart : (l : Settings) (s t i j : ℕ) → i < room_of l s → j < room_of l t →
    op_row (desk_of l s) i ≡ op_row (desk_of l t) j → (s ≡ t) × (i ≡ j)
unfolding before op_row
op_row_apart l s t i j h k e = rows_apart l s t i j h k e

-- and each is one of the table's
pub op_row_within : (l : Settings) (s i : ℕ) → i < room_of l s → op_row (desk_of l s) i < sum l.adds
unfolding before op_row
op_row_within l s i h = row_below l s i h

-- state rows of two seats are two
pub state_row_apart : (l : Settings) (s t i j : ℕ) → i < room_of l s → j < room_of l t →
    state_row (desk_of l s) i ≡ state_row (desk_of l t) j → (s ≡ t) × (i ≡ j)
unfolding before state_row
state_row_apart l s t i j h k e = rows_apart l s t i j h k (omega arith)

-- and each is one of the table's
pub state_row_within : (l : Settings) (s i : ℕ) → i < room_of l s → state_row (desk_of l s) i < 1 + sum l.adds
unfolding before state_row
state_row_within l s i h = omega (arith, row_below l s i h)

-- none is that of the opening
pub state_row_pos : (l : Settings) (s i : ℕ) → 0 < state_row (desk_of l s) i
unfolding state_row
state_row_pos l s i = omega arith
