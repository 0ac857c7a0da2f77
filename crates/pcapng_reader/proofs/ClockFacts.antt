-- What the options of an interface tell, one by one, and what ticks are in nanoseconds.
use Rattle.std.proofs.Common.{◌≡◌, ◌≤◌, ◌<◌, ℕ, zero, suc, ◌+◌, ◌-◌, ◌*◌, ◌/◌, ◌^◌, Bool, true, false, if◌then◌else◌, min, List, length, take, drop, sym, ap, ◌∙◌, inl, inr, refl, arith, length-take, length-drop, ◌++◌}
use Rattle.std.proofs.lemmas.Bool.{cases_lt, lt-ltb}
use Rattle.std.proofs.lemmas.List.{drop_all, take_all, take-append-le}
use Rattle.std.proofs.Math.Nat.{pow-le-pow_right, one-le-pow, div-eq_of_lt}
use Rattle.pcap_reader.specs.declared.order.Order.{Order}
use Rattle.pcapng_reader.specs.declared.clock.Clock.{Clock}
use Rattle.pcapng_reader.specs.Clocks.{are_ended, clock_by, clock_of, clock_with, looked_size, nanoseconds_in, option_length, usual_clock}

-- ---- options

-- where the options end nothing more is told
pub clock_ended : (most : ℕ) (order : Order) (bytes : List ℕ) (clock : Clock) → are_ended order bytes ≡ true →
    clock_by most order bytes clock ≡ clock
unfolding clock_by
clock_ended zero order bytes clock ended = refl
clock_ended (suc most) order bytes clock ended =
    ap (λ (b : Bool). if b then clock else clock_by most order (drop (option_length order bytes) bytes)
    (clock_with order bytes clock)) ended

-- nor where so many were looked at
pub clock_none : (most : ℕ) (order : Order) (bytes : List ℕ) (clock : Clock) → most ≡ 0 →
    clock_by most order bytes clock ≡ clock
unfolding clock_by
clock_none zero order bytes clock none = refl
clock_none (suc most) order bytes clock none = absurd (omega (arith, none))

-- an option tells what it does, and those behind it the rest
pub clock_more : (most : ℕ) (order : Order) (bytes : List ℕ) (clock : Clock) → 0 < most →
    are_ended order bytes ≡ false →
    clock_by most order bytes clock
    ≡ clock_by (most - 1) order (drop (option_length order bytes) bytes) (clock_with order bytes clock)
unfolding clock_by
clock_more zero order bytes clock some going = absurd (omega (arith, some))
clock_more (suc most) order bytes clock some going =
    let less : most ≡ suc most - 1 = omega arith in
    ap (λ (b : Bool). if b then clock else clock_by most order (drop (option_length order bytes) bytes)
    (clock_with order bytes clock)) going
    ∙ ap (λ (n : ℕ). clock_by n order (drop (option_length order bytes) bytes) (clock_with order bytes clock)) less

-- the same, by how many options were looked at
pub turn_more : (all turn : ℕ) (order : Order) (bytes behind : List ℕ) (clock next : Clock) → turn < all →
    are_ended order bytes ≡ false → behind ≡ drop (option_length order bytes) bytes →
    next ≡ clock_with order bytes clock →
    clock_by (all - turn) order bytes clock ≡ clock_by (all - (turn + 1)) order behind next
turn_more all turn order bytes behind clock next more going rest told =
    let less : all - turn - 1 ≡ all - (turn + 1) = omega arith in
    let further : List ℕ = drop (option_length order bytes) bytes in
    clock_more (all - turn) order bytes clock (omega (arith, more)) going
    ∙ ap (λ (n : ℕ). clock_by n order further (clock_with order bytes clock)) less
    ∙ ap (λ (l : List ℕ). clock_by (all - (turn + 1)) order l (clock_with order bytes clock)) (sym rest)
    ∙ ap (λ (k : Clock). clock_by (all - (turn + 1)) order behind k) (sym told)

-- the options of a block stand in its first bytes
pub clock_front : (order : Order) (size : ℕ) (xs ys : List ℕ) → looked_size size ≤ length xs →
    clock_of order size (xs ++ ys) ≡ clock_of order size xs
clock_front order size xs ys long =
    ap (λ (l : List ℕ). clock_by 1024 order (drop 16 l) usual_clock) (take-append-le (looked_size size) xs ys long)

-- what the first bytes hold of a front, no more than there are
pub options_are : (size end place : ℕ) (bytes : List ℕ) → end ≡ min (looked_size size) (length bytes) →
    place ≡ min end 16 →
    take (length (take end bytes) - place) (drop place (take end bytes)) ≡ drop 16 (take (looked_size size) bytes)
options_are size end place bytes is at =
    let front : List ℕ = take (looked_size size) bytes in
    let same : take end bytes ≡ front = ap (λ (n : ℕ). take n bytes) is ∙ take_within (looked_size size) bytes in
    let long : length front ≡ end = length_taken (looked_size size) bytes ∙ sym is in
    let rest : drop place (take end bytes) ≡ drop 16 front =
    ap (drop place) same ∙ ap (λ (n : ℕ). drop n front) at ∙ drop_within front end (sym long) in
    take_all (length (take end bytes) - place) (drop place (take end bytes))
    (omega (arith, length-drop place (take end bytes))) ∙ rest
  where
    take_within : (n : ℕ) (xs : List ℕ) → take (min n (length xs)) xs ≡ take n xs
    take_within n xs = elim (cases_lt n (length xs)) [
      | inl few ↦ ap (λ (k : ℕ). take k xs) (let m : min n (length xs) ≡ n = omega (arith, few) in m)
      | inr all ↦ (let m : min n (length xs) ≡ length xs = omega (arith, all) in
          ap (λ (k : ℕ). take k xs) m ∙ take_all (length xs) xs (omega arith) ∙ sym (take_all n xs all))
    ]

    length_taken : (n : ℕ) (xs : List ℕ) → length (take n xs) ≡ min n (length xs)
    length_taken n xs = length-take n xs

    drop_within : (xs : List ℕ) (n : ℕ) → n ≡ length xs → drop (min n 16) xs ≡ drop 16 xs
    drop_within xs n same = elim (cases_lt n 16) [
      | inl few ↦ (let m : min n 16 ≡ n = omega (arith, few) in
          ap (λ (k : ℕ). drop k xs) m ∙ drop_all n xs (omega (arith, same))
          ∙ sym (drop_all 16 xs (omega (arith, same, few))))
      | inr all ↦ ap (λ (k : ℕ). drop k xs) (let m : min n 16 ≡ 16 = omega (arith, all) in m)
    ]

-- ---- ticks

-- so great a power of 10 is a number of 128 bits
pub ten_fits : (n : ℕ) → n ≤ 28 → 10 ^ n < 340282366920938463463374607431768211456
ten_fits n few = (let p = pow-le-pow_right {n = 10} (omega arith) few in omega (arith, p))

-- and none is 0
pub ten_pos : (n : ℕ) → 0 < 10 ^ n
ten_pos n = (let p = one-le-pow n 10 (omega arith) in omega (arith, p))

-- of finer units there are too few for a nanosecond
pub too_fine : (n ticks : ℕ) → 28 < n → n < 128 → ticks < 18446744073709551616 → nanoseconds_in n ticks ≡ 0
too_fine n ticks fine decimal few =
    let q : 29 ≤ n = omega (arith, fine) in
    let p : 10 ^ 29 ≤ 10 ^ n = pow-le-pow_right {n = 10} (omega arith) {i = 29} {j = n} q in
    ap (λ (b : Bool). ticks * 1000000000 / (if b then 10 ^ n else 2 ^ (n - 128))) (lt-ltb n 128 decimal)
    ∙ div-eq_of_lt (omega (arith, p, few))
