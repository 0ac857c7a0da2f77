-- The entries of a directory, one after the other, and how deep it becomes.
use Rattle.std.proofs.Common.{◌≡◌, ℕ, zero, suc, ◌+◌, ◌-◌, ◌*◌, ◌/◌, ◌%◌, ◌^◌, ◌<◌, ◌≤◌, ◌⊎◌, inl, inr, Bool, true, false, List, [], ◌∷◌, ◌++◌, length, map, get_or, All, refl, ap, subst, ◌∙◌, arith, add-one}
use Rattle.std.specs.Prelude.{◌==◌, fold, max}
use Rattle.std.specs.List.{range_with_len}
use Rattle.std.proofs.Math.Nat.{lt-div-mul-add, mod-add-div', pow-le-pow_right}
use Rattle.std.proofs.lemmas.Bool.{eqb-true, eq-eqb}
use Rattle.std.proofs.lemmas.Nat.{pow_pos, shr_high}
use Rattle.std.proofs.lemmas.List.{map-append}
use Rattle.std.proofs.lemmas.List.FromFn.{fill_by_all, get_or-map-range_with_len, length-map-range_with_len}
use lib.Pow.{pow-add}
use Rattle.word_rows.specs.Blocks.{first_values}
use Rattle.table_model.specs.Directories.{DirectoryState}
use Rattle.table_model.specs.DirectoryChange.{depth_after}
use Rattle.table_model.specs.Leaves.{NewLeaf}
use Rattle.dir_states.specs.declared.values.NewLeaf.{NewLeaf as Made}
use Rattle.dir_states.specs.Views.{as_leaf}
use Rattle.list_laws.proofs.Numbers.{range_more}

-- one value more
pub first_values-more : {A : Type 0} (f : ℕ → A) (n : ℕ) → first_values f (n + 1) ≡ first_values f n ++ f n ∷ []
first_values-more f n =
    ap (λ k. first_values f k) (add-one n)
    ∙ ap (map f) (range_more 0 n)
    ∙ map-append f (range_with_len 0 n) ((0 + n) ∷ [])
    ∙ ap (λ k. first_values f n ++ f k ∷ []) (omega arith)

-- there are so many
pub length-first_values : {A : Type 0} (f : ℕ → A) (n : ℕ) → length (first_values f n) ≡ n
length-first_values f n = length-map-range_with_len f 0 n

-- ---- how deep the directory becomes

-- no deeper than the directory was and than each leaf is
pub depth_after-least : (directory : DirectoryState) (leaves : List NewLeaf) (most : ℕ) → directory.depth ≤ most →
    All (λ leaf. leaf.bucket.depth ≤ most) leaves
    → depth_after directory leaves ≤ most
depth_after-least directory leaves most le each = go directory.depth leaves le each
  where
    go : (d : ℕ) (leaves : List NewLeaf) → d ≤ most → All (λ leaf. leaf.bucket.depth ≤ most) leaves →
        fold (λ depth leaf. max depth leaf.bucket.depth) d leaves ≤ most
    go d [] le each = le
    go d (leaf ∷ leaves) le each = (let one = each 0 leaf (omega arith) in
        go (max d leaf.bucket.depth) leaves (omega (arith, le, one)) (λ k e lt. each (suc k) e (omega (arith, lt))))

-- fewer bits make fewer places
pub fewer_places : (d m : ℕ) → d ≤ m → 2 ^ d ≤ 2 ^ m
fewer_places d m le = pow-le-pow_right {n = 2} (omega arith) le

-- a shift by so few bits is a power
pub one_shifted : (d : ℕ) → d ≤ 62 → 1 * 2 ^ d % 18446744073709551616 ≡ 2 ^ d
one_shifted d few =
    let small : 2 ^ d ≤ 2 ^ 62 = fewer_places d 62 few in
    let number : 2 ^ 62 ≡ 4611686018427387904 = refl in
    omega (arith, small, number)

-- ---- from the last leaf to the first

-- a list of so many values, each of which is that of its place
pub values-at : (f : ℕ → ℕ) (xs : List ℕ) (n : ℕ) → length xs ≡ n → ((k none : ℕ) → k < n → get_or xs k none ≡ f k) →
    xs ≡ first_values f n
values-at f xs n long each = fill_by_all f xs n 0 long (λ k lt. each k 0 lt)

-- the value at a place
pub value-at : (f : ℕ → ℕ) (n k none : ℕ) → k < n → get_or (first_values f n) k none ≡ f k
value-at f n k none lt = get_or-map-range_with_len f 0 n k k none lt (omega arith)

-- ---- the places of a leaf

-- they are among all places
pub places-inside : (depth deep prefix : ℕ) → deep ≤ depth → prefix < 2 ^ deep →
    prefix * 2 ^ (depth - deep) + 2 ^ (depth - deep) ≤ 2 ^ depth
places-inside depth deep prefix le small =
    let widths : 2 ^ depth ≡ 2 ^ deep * 2 ^ (depth - deep) =
    ap (λ n. 2 ^ n) (omega (arith, le)) ∙ pow-add 2 deep (depth - deep) in
    let next : suc prefix ≤ 2 ^ deep = omega (arith, small) in
    grind (arith, widths, next)

-- and a shift to the first of them is no larger than a word
pub first-place : (depth deep prefix : ℕ) → depth ≤ 62 → deep ≤ depth → prefix < 2 ^ deep →
    prefix * 2 ^ (depth - deep) % 18446744073709551616 ≡ prefix * 2 ^ (depth - deep)
first-place depth deep prefix few le small =
    let inside = places-inside depth deep prefix le small in
    let most : 2 ^ depth ≤ 2 ^ 62 = fewer_places depth 62 few in
    let number : 2 ^ 62 ≡ 4611686018427387904 = refl in
    omega (arith, inside, most, number)

-- a place has the leaf's prefix exactly where it is one of them
module _ (others prefix place : ℕ) where
  pub place-has : prefix * 2 ^ others ≤ place → place < prefix * 2 ^ others + 2 ^ others →
      (place / 2 ^ others == prefix) ≡ true
  place-has le lt =
      let rest : ℕ = place - prefix * 2 ^ others in
      let it : place ≡ prefix * 2 ^ others + rest = omega (arith, le) in
      eq-eqb (place / 2 ^ others) prefix (ap (λ n. n / 2 ^ others) it
      ∙ shr_high prefix others rest (omega (arith, le, lt)))

  pub place-lacks : (place < prefix * 2 ^ others) ⊎ (prefix * 2 ^ others + 2 ^ others ≤ place) →
      (place / 2 ^ others == prefix) ≡ false
  place-lacks out = go (place / 2 ^ others == prefix) refl
    where
      go : (b : Bool) → (place / 2 ^ others == prefix) ≡ b → b ≡ false
      go false e = refl
      go true e =
          let own : place / 2 ^ others ≡ prefix = eqb-true (place / 2 ^ others) prefix e in
          let some : 0 < 2 ^ others = pow_pos others in
          let low : prefix * 2 ^ others ≤ place =
          subst (λ p. p * 2 ^ others ≤ place) own (omega (arith, mod-add-div' place (2 ^ others))) in
          let high : place < prefix * 2 ^ others + 2 ^ others =
          subst (λ p. place < p * 2 ^ others + 2 ^ others) own (lt-div-mul-add some) in
          absurd (elim out [ inl below ↦ omega (arith, below, low) | inr above ↦ omega (arith, above, high) ])

-- ---- each leaf finds its places

-- the greatest of a depth and of the leaves' is that depth at least
greatest-more : (d : ℕ) (leaves : List Made) →
    d ≤ fold (λ depth leaf. max depth leaf.bucket.depth) d (map as_leaf leaves)
greatest-more d [] = omega arith
greatest-more d (leaf ∷ leaves) = omega (arith, greatest-more (max d leaf.bucket.depth) leaves)

-- no leaf is deeper than the directory becomes
pub depth_after-each : (directory : DirectoryState) (leaves : List Made) →
    All (λ leaf. leaf.bucket.depth ≤ depth_after directory (map as_leaf leaves)) leaves
depth_after-each directory leaves = go directory.depth leaves
  where
    go : (d : ℕ) (leaves : List Made) → All (λ leaf. leaf.bucket.depth ≤ fold
        (λ depth leaf. max depth leaf.bucket.depth) d (map as_leaf leaves)) leaves
    go d [] k e lt = absurd (omega (arith, lt))
    go d (leaf ∷ leaves) zero e lt = omega (arith, greatest-more (max d leaf.bucket.depth) leaves)
    go d (leaf ∷ leaves) (suc k) e lt = go (max d leaf.bucket.depth) leaves k e (omega (arith, lt))
