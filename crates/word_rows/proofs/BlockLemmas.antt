-- Lists of words made of parts of one length: their length, their parts, and when a list is one.
use Rattle.std.proofs.Common.{◌≡◌, ℕ, zero, suc, ◌+◌, ◌*◌, ◌<◌, ◌≤◌, List, [], ◌++◌, length, take, drop, get_or, refl, sym, ap, ◌∙◌, subst, arith, inl, inr}
use Rattle.std.proofs.lemmas.Bool.{cases_lt}
use Rattle.std.proofs.Math.Nat.{zero-mul, mul-le-mul_right}
use Rattle.std.proofs.lemmas.List.{length-append, length-take-le, length-drop, drop_at, take-append-le, drop-append-le, take-append-drop, drop_all, take_all, get_or-take, get_or-drop}
use Rattle.word_rows.specs.Blocks.{blocks, block}

-- no parts have no words
pub blocks_zero : (part : ℕ → List ℕ) → blocks part 0 ≡ []
unfolding blocks
blocks_zero part = refl

-- one part more stands at the end
pub blocks_more : (part : ℕ → List ℕ) (n : ℕ) → blocks part (suc n) ≡ blocks part n ++ part n
unfolding blocks
blocks_more part n = refl

-- parts of one width
abbrev pub HaveWidth : ℕ → (ℕ → List ℕ) → Type 0
HaveWidth width part = (i : ℕ) → length (part i) ≡ width

-- parts of one width are that many words in all
pub length-blocks : (width : ℕ) (part : ℕ → List ℕ) (n : ℕ) → HaveWidth width part → length (blocks part n) ≡ n * width
length-blocks width part zero wide = ap length (blocks_zero part) ∙ sym (zero-mul width)
length-blocks width part (suc n) wide =
    ap length (blocks_more part n) ∙ length-append (blocks part n) (part n)
    ∙ (let front : length (blocks part n) ≡ n * width = length-blocks width part n wide in
    let last : length (part n) ≡ width = wide n in
    omega (arith, front, last))

-- places before the n-th part
pub before_part : (width i n : ℕ) → i < n → i * width + width ≤ n * width
before_part width i n h = omega (arith, mul-le-mul_right width h)

-- the parts of a front are those of the whole
pub block-append : (width i n : ℕ) (front back : List ℕ) → length front ≡ n * width → i < n →
    block width i (front ++ back) ≡ block width i front
block-append width i n front back long h =
    let inside : i * width + width ≤ length front = omega (arith, before_part width i n h) in
    let from : i * width ≤ length front = omega arith in
    let enough : width ≤ length (drop (i * width) front) = omega (arith, length-drop (i * width) front) in
    ap (take width) (drop-append-le (i * width) front back from)
    ∙ take-append-le width (drop (i * width) front) back enough

-- the part after a front
block_at : (width n : ℕ) (front back : List ℕ) → length front ≡ n * width → length back ≡ width →
    block width n (front ++ back) ≡ back
block_at width n front back long wide =
    let all : length back ≤ width = omega arith in
    ap (take width) (drop_at front back (n * width) long) ∙ take_all width back all

-- the i-th part of the blocks is the i-th part
pub block-blocks : (width : ℕ) (part : ℕ → List ℕ) (n i : ℕ) → HaveWidth width part → i < n →
    block width i (blocks part n) ≡ part i
block-blocks width part zero i wide h = absurd (omega arith)
block-blocks width part (suc n) i wide h =
    let long : length (blocks part n) ≡ n * width = length-blocks width part n wide in
    ap (block width i) (blocks_more part n) ∙
    elim (cases_lt i n) [
      | inl before ↦ block-append width i n (blocks part n) (part n) long before
          ∙ block-blocks width part n i wide before
      | inr last ↦ let same : n ≡ i = omega arith in
          subst (λ k. block width k (blocks part n ++ part n) ≡ part k) same
          (block_at width n (blocks part n) (part n) long (wide n))
    ]

-- a list whose parts are these is the blocks
pub blocks_from_parts : (width : ℕ) (part : ℕ → List ℕ) (n : ℕ) (words : List ℕ) → length words ≡ n * width →
    ((i : ℕ) → i < n → block width i words ≡ part i) → words ≡ blocks part n
blocks_from_parts width part zero words long each =
    let none : length words ≤ 0 = omega (arith, zero-mul width) in
    drop_all 0 words none ∙ sym (blocks_zero part)
blocks_from_parts width part (suc n) words long each =
    let front : List ℕ = take (n * width) words in
    let back : List ℕ = drop (n * width) words in
    let whole : front ++ back ≡ words = take-append-drop (n * width) words in
    let front_long : length front ≡ n * width = length-take-le (n * width) words (omega arith) in
    let back_long : length back ≡ width = omega (arith, length-drop (n * width) words) in
    let fronts : front ≡ blocks part n = blocks_from_parts width part n front front_long
    (λ i h. sym (block-append width i n front back front_long h) ∙ ap (block width i) whole ∙ each i (omega arith)) in
    let last : back ≡ part n = sym (block_at width n front back front_long back_long) ∙ ap (block width n) whole
    ∙ each n (omega arith) in
    sym whole ∙ ap (λ xs. xs ++ back) fronts ∙ ap (λ xs. blocks part n ++ xs) last ∙ sym (blocks_more part n)

-- a word of a block
pub get_or-block : (width i j : ℕ) (words : List ℕ) → j < width →
    get_or (block width i words) j 0 ≡ get_or words (i * width + j) 0
get_or-block width i j words h = get_or-take width (drop (i * width) words) j 0 h ∙ get_or-drop (i * width) words j 0
