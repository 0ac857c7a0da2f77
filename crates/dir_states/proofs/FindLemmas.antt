-- Pairs that find room, place by place.
use Rattle.std.proofs.Common.{◌≡◌, ℕ, ◌+◌, ◌<◌, ◌≤◌, zero, suc, List, [], ◌∷◌, ◌++◌, length, take, drop, get_or, arith, refl, sym, ◌∙◌, ap, subst, inl, inr}
use Rattle.std.proofs.lemmas.Bool.{cases_lt}
use Rattle.std.proofs.lemmas.List.{length-take-le, take-append-drop, length-append, append_assoc}
use Rattle.plain_map.specs.declared.keys.Pair.{Pair}
use Rattle.plain_map.specs.declared.rules.Rules.{Rules}
use Rattle.table_model.specs.Setup.{HaveRoom, IsFirstWithoutRoom, classmates}

-- each of the first so many pairs finds room
abbrev pub FindRoom : Rules → List Pair → (many : ℕ) → Type 0
FindRoom rules first many = (k : ℕ) (none : Pair) → k < many →
    classmates rules (get_or first k none).key (take k first) < rules.items

-- the item after a front
item_after : (front back : List Pair) (pair none : Pair) → get_or (front ++ pair ∷ back) (length front) none ≡ pair
item_after [] back pair none = refl
item_after (p ∷ front) back pair none = item_after front back pair none

-- so many first items are the front
front_taken : (front rest : List Pair) → take (length front) (front ++ rest) ≡ front
front_taken [] rest = refl
front_taken (p ∷ front) rest = ap (λ (ps : List Pair). p ∷ ps) (front_taken front rest)

-- a list, cut at a place in it
pub cut_at : (first : List Pair) (place : ℕ) (none : Pair) → place < length first →
    first ≡ take place first ++ get_or first place none ∷ drop (suc place) first
cut_at [] place none within = elim within [ ]
cut_at (p ∷ first) zero none within = refl
cut_at (p ∷ first) (suc place) none within =
    ap (λ (ps : List Pair). p ∷ ps) (cut_at first place none (omega (arith, within)))

-- what stands at a place does not rest on what is taken past the end
read_at : (first : List Pair) (place : ℕ) (d e : Pair) → place < length first →
    get_or first place d ≡ get_or first place e
read_at [] place d e within = absurd (omega (arith, within))
read_at (p ∷ first) zero d e within = refl
read_at (p ∷ first) (suc place) d e within = read_at first place d e (omega (arith, within))

-- one pair more
pub finds_next : (rules : Rules) (first : List Pair) (place : ℕ) (nobody : Pair) → place < length first
    → classmates rules (get_or first place nobody).key (take place first) < rules.items →
    FindRoom rules first place → FindRoom rules first (place + 1)
finds_next rules first place nobody within room found k none below = elim (cases_lt k place) [
  | inl earlier ↦ found k none earlier
  | inr later ↦
      let same : place ≡ k = omega (arith, later, below) in
      subst (λ (n : ℕ). classmates rules (get_or first n none).key (take n first) < rules.items) same
      (subst (λ (p : Pair). classmates rules p.key (take place first) < rules.items)
      (read_at first place nobody none within) room)
]

-- where all of the first so many find room, they have room
pub have_room : (rules : Rules) (first : List Pair) (many : ℕ) → many ≤ length first → FindRoom rules first many →
    HaveRoom rules (take many first)
have_room rules first many within found front back pair is =
    let whole : first ≡ front ++ pair ∷ (back ++ drop many first) =
    sym (take-append-drop many first) ∙ ap (λ (ps : List Pair). ps ++ drop many first) is
    ∙ append_assoc front (pair ∷ back) (drop many first) in
    let long : length front < many = omega (
      arith,
      ap (λ (ps : List Pair). length ps) is,
      length-take-le many first within,
      length-append front (pair ∷ back),
    ) in
    let here : get_or first (length front) pair ≡ pair =
    ap (λ (ps : List Pair). get_or ps (length front) pair) whole
    ∙ item_after front (back ++ drop many first) pair pair in
    let before : take (length front) first ≡ front =
    ap (λ (ps : List Pair). take (length front) ps) whole ∙ front_taken front (pair ∷ (back ++ drop many first)) in
    subst (λ (p : Pair). classmates rules p.key front < rules.items) here
    (subst (λ (ps : List Pair). classmates rules (get_or first (length front) pair).key ps < rules.items) before
    (found (length front) pair long))

-- the first that finds none
pub first_without : (rules : Rules) (first : List Pair) (place : ℕ) (none : Pair) → place < length first →
    FindRoom rules first place
    → rules.items ≤ classmates rules (get_or first place none).key (take place first) →
    IsFirstWithoutRoom rules first place
first_without rules first place none within found full = record {
  front = take place first;
  pair = get_or first place none;
  back = drop (suc place) first;
  cut = cut_at first place none within;
  stands = length-take-le place first (omega (arith, within));
  before = have_room rules first place (omega (arith, within)) found;
  full = full;
}
