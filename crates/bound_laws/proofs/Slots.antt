-- A place for each exchange of the root, and for each bucket word and each bucket that a seat froze: prefixes that
-- can be split, and their two parts.
use Rattle.std.proofs.Common.{◌≡◌, ℕ, zero, suc, ◌+◌, ◌-◌, ◌*◌, ◌/◌, ◌^◌, ◌<◌, ◌≤◌, Bool, true, false, cond, ltb, List, [], ◌∷◌, length, get_or, refl, sym, ap, ◌∙◌, subst, arith}
use Rattle.std.proofs.lemmas.Bool.{ltb-true, ltb-false, cond_both}
use Rattle.std.proofs.lemmas.Nat.{shr-shr}
use Rattle.std.proofs.Math.Pow.{pow_mono}
use Rattle.std.proofs.Math.Nat.{pow-suc}
use Rattle.plain_map.specs.declared.keys.Key.{Key}
use Rattle.table_model.specs.Setup.{Setup, seats_of}
use Rattle.table_model.specs.Needs.{splits_in}
use Rattle.run_invariant.proofs.Numbers.{word_no_apart}
use Rattle.run_invariant.proofs.Invariant.{Common, Shared, Descends, last, word_no, word_room}
use Rattle.list_laws.proofs.Lists.{In, Once}
use Rattle.bound_laws.proofs.KeyCounts.{has}
use Rattle.bound_laws.proofs.Crowding.{Came, Crowding, first_fewer}
use Rattle.bound_laws.proofs.Crowded.{all_keys, splittable, crowd_splittable, splits_are}
use Rattle.bound_laws.proofs.Levels.{tested, tested_is, passing_half}
use Rattle.list_laws.proofs.Pigeons.{pigeons, families, all_of, code, code_once, code_below}
use Rattle.bound_laws.proofs.Counts.{roots_few, later_deep, word_at}
use Rattle.bound_laws.proofs.Family.{once, below, child_from}
use Rattle.bound_laws.proofs.Gains.{WasFrozen}
use Rattle.bound_laws.proofs.Spending.{Twos, OwnWords}
use Rattle.list_laws.proofs.Places.{number_in}

pub once_at : (xs : List ℕ) (i j : ℕ) → Once xs → i < length xs → j < length xs → get_or xs i 0 ≡ get_or xs j 0 → i ≡ j
once_at [] i j o hi hj e = absurd (omega (arith, hi))
once_at (x ∷ xs) zero zero o hi hj e = refl
once_at (x ∷ xs) zero (suc j) o hi hj e =
    absurd (o.0 (subst (λ y. In y xs) (sym e) (number_in xs j (omega (arith, hj)))))
once_at (x ∷ xs) (suc i) zero o hi hj e = absurd (o.0 (subst (λ y. In y xs) e (number_in xs i (omega (arith, hi)))))
once_at (x ∷ xs) (suc i) (suc j) o hi hj e =
    (let same = once_at xs i j o.1 (omega (arith, hi)) (omega (arith, hj)) e in ap suc same)

-- the number of a prefix with a bit less is the half
code_half : (d p : ℕ) → 1 ≤ d → code d p / 2 ≡ code (d - 1) (p / 2)
code_half d p h =
    (let same : suc (d - 1) ≡ d = omega (arith, h) in omega (arith, pow-suc 2 (d - 1), ap (λ n. 2 ^ n) same))

module _ (setup : Setup) (c : Common) (s : Shared setup c) (t : Descends setup c) (twos : Twos c) (w : Crowding setup c)
    (inserted : List Key) (known : (key : Key) → Came setup c key → has (all_keys setup inserted) key ≡ true) where
  abbrev depth : ℕ
  depth = setup.shape.settings.depth

  abbrev test : ℕ → Bool
  test = tested (splittable setup inserted) depth

  -- a bucket that is frozen can be split
  pub frozen_code : (b : ℕ) → c.named b ≡ true → (last c b).frozen ≡ true → (code (c.deep b) (c.pre b) < 2 ^ depth)
      × (test (code (c.deep b) (c.pre b)) ≡ true)
  frozen_code b n f =
      let row = s.rows.sound b (c.top b) n (omega arith) in
      let shallow : c.deep b < depth = omega (arith, (row.good.full f).1, row.depth_is) in
      let up : 2 ^ (suc (c.deep b)) ≤ 2 ^ depth = pow_mono (omega (arith, shallow)) in
      let low = (below setup c s t b n).1 in (
        omega (arith, up, pow-suc 2 (c.deep b), low),
        tested_is (splittable setup inserted) depth (c.deep b) (c.pre b) shallow low
            ∙ crowd_splittable setup inserted (Came setup c) known (c.deep b) (c.pre b) (w.calm b n).0 (w.calm b n).1
            (w.frozen b (c.top b) n (omega arith) f),
      )

  -- the one above a later bucket can be split
  parent_code : (b : ℕ) → c.named b ≡ true → 1 ≤ c.born b → (code (c.deep b) (c.pre b) < 2 * 2 ^ depth)
      × (test (code (c.deep b) (c.pre b) / 2) ≡ true)
  parent_code b n h =
      let some = later_deep setup c s t b n h in
      let deep = (below setup c s t b n).0 in
      let low = (below setup c s t b n).1 in
      let v = c.born b - 1 in
      let comes = t.comes b v n (omega (arith, h)) in
      let there = t.there b v n (omega (arith, h)) in
      let calm = w.calm (c.from b) there in
      let one : c.deep b - (c.deep b - 1) ≡ 1 = omega (arith, some) in
      let sum : 1 + (c.deep b - 1 - c.deep (c.from b)) ≡ c.deep b - c.deep (c.from b) =
      omega (arith, some, comes.shallow) in
      let up : (c.pre b / 2) / 2 ^ (c.deep b - 1 - c.deep (c.from b)) ≡ c.pre (c.from b) =
      shr-shr (c.pre b) 1 (c.deep b - 1 - c.deep (c.from b)) ∙ ap (λ n. c.pre b / 2 ^ n) sum ∙ comes.prefix in
      let few = first_fewer setup (c.deep b - 1) (c.deep (c.from b)) (c.pre b / 2) (c.pre (c.from b))
      (omega (arith, comes.shallow)) (omega (arith, deep)) up in
      let half_low : c.pre b / 2 < 2 ^ (c.deep b - 1) =
      (let same : suc (c.deep b - 1) ≡ c.deep b = omega (arith, some) in
      omega (arith, low, pow-suc 2 (c.deep b - 1), ap (λ n. 2 ^ n) same)) in
      let twice : 2 ^ (depth + 1) ≡ 2 * 2 ^ depth =
      (let same : depth + 1 ≡ suc depth = omega arith in omega (arith, ap (λ n. 2 ^ n) same, pow-suc 2 depth)) in (
        omega (arith, code_below (c.deep b) depth (c.pre b) deep low, twice),
        ap test (code_half (c.deep b) (c.pre b) some) ∙ tested_is (splittable setup inserted) depth (c.deep b - 1)
            (c.pre b / 2) (omega (arith, some, deep)) half_low
            ∙ crowd_splittable setup inserted (Came setup c) known (c.deep b - 1) (c.pre b / 2)
            (omega (arith, calm.0, comes.shallow)) (omega (arith, few, calm.1)) (w.parent b n h),
      )

  -- so the root is exchanged at most so often
  pub roots_split : c.dir_top ≤ splits_in setup inserted
  roots_split =
      let few = roots_few setup c s t twos test (2 ^ depth) (λ v r h x. frozen_code r x.there x.frozen) in
      omega (arith, few, splits_are setup inserted)

  -- ---- the bucket words of a seat, and the buckets that it froze

  module _ (me many : ℕ) (froze : List ℕ) (own : OwnWords setup c me many) (each : (b : ℕ) → In b froze →
      WasFrozen setup c me many b) (o : Once froze) where
    abbrev word : ℕ → ℕ
    word i = word_no setup me i

    abbrev bucket : ℕ → ℕ
    bucket i = get_or froze (i - many) 0

    abbrev slot : ℕ → ℕ
    slot i =
        cond (ltb i many) (code (c.deep (word i)) (c.pre (word i))) (2 * code (c.deep (bucket i)) (c.pre (bucket i)))

    abbrev Passes : ℕ → Type 0
    Passes n = (n < 2 * 2 ^ depth) × (test (n / 2) ≡ true)

    -- each place is a part of a prefix that can be split
    slot_passes : (i : ℕ) → i < many + length froze → Passes (slot i)
    slot_passes i h = cond_both (ltb i many) (code (c.deep (word i)) (c.pre (word i)))
        (2 * code (c.deep (bucket i)) (c.pre (bucket i))) Passes
        (λ e. (let x = own i (ltb-true i many e) in parent_code (word i) x.0 x.1))
        (λ e. (let past = ltb-false i many e in
        let x = each (bucket i) (number_in froze (i - many) (omega (arith, h, past))) in
        let f = frozen_code (bucket i) x.there x.frozen in
        let half : (2 * code (c.deep (bucket i)) (c.pre (bucket i))) / 2 ≡ code (c.deep (bucket i)) (c.pre (bucket i)) =
        omega arith in
        (omega (arith, f.0), ap test half ∙ f.1)))

    -- a word's bucket is no child of a bucket that the seat froze
    apart : (i j : ℕ) → i < many → (b : ℕ) → In b froze → code (c.deep (word i)) (c.pre (word i)) ≡ 2 * code (c.deep b)
        (c.pre b) → ⊥
    apart i j h b at e =
        let x = own i h in
        let y = each b at in
        let low = (below setup c s t b y.there).1 in
        let same_deep : c.deep b + 1 ≡ suc (c.deep b) = omega arith in
        let twice : code (c.deep b + 1) (2 * c.pre b) ≡ 2 * code (c.deep b) (c.pre b) =
        omega (arith, ap (λ n. 2 ^ n) same_deep, pow-suc 2 (c.deep b)) in
        let same = code_once (c.deep (word i)) (c.deep b + 1) (c.pre (word i)) (2 * c.pre b)
        (below setup c s t (word i) x.0).1 (omega (arith, ap (λ n. 2 ^ n) same_deep, pow-suc 2 (c.deep b), low))
        (e ∙ sym twice) in
        y.apart i h (child_from setup c s t b (word i) y.there x.0 x.1 same.0 (omega (arith, same.1)))

    -- and no two have one place
    slot_once : (i j : ℕ) → i < many + length froze → j < many + length froze → slot i ≡ slot j → i ≡ j
    slot_once i j hi hj e = go (ltb i many) refl (ltb j many) refl e
      where
        at : (k : ℕ) → k < many + length froze → ltb k many ≡ false → In (bucket k) froze
        at k h f = number_in froze (k - many) (omega (arith, h, ltb-false k many f))

        go : (x : Bool) → ltb i many ≡ x → (y : Bool) → ltb j many ≡ y →
            cond x (code (c.deep (word i)) (c.pre (word i))) (2 * code (c.deep (bucket i)) (c.pre (bucket i))) ≡ cond y
            (code (c.deep (word j)) (c.pre (word j))) (2 * code (c.deep (bucket j)) (c.pre (bucket j))) → i ≡ j
        go true p true q e =
            let a = own i (ltb-true i many p) in
            let b = own j (ltb-true j many q) in
            let same = code_once (c.deep (word i)) (c.deep (word j)) (c.pre (word i)) (c.pre (word j))
            (below setup c s t (word i) a.0).1 (below setup c s t (word j) b.0).1 e in
            omega (
              arith,
              once setup c s t (word i) (word j) a.0 b.0 same.0 same.1,
              word_at setup me i,
              word_at setup me j,
            )
        go true p false q e = absurd (apart i j (ltb-true i many p) (bucket j) (at j hj q) e)
        go false p true q e = absurd (apart j i (ltb-true j many q) (bucket i) (at i hi p) (sym e))
        go false p false q e =
            let a = each (bucket i) (at i hi p) in
            let b = each (bucket j) (at j hj q) in
            let half : code (c.deep (bucket i)) (c.pre (bucket i)) ≡ code (c.deep (bucket j)) (c.pre (bucket j)) =
            omega (arith, e) in
            let same = code_once (c.deep (bucket i)) (c.deep (bucket j)) (c.pre (bucket i)) (c.pre (bucket j))
            (below setup c s t (bucket i) a.there).1 (below setup c s t (bucket j) b.there).1 half in
            let is = once setup c s t (bucket i) (bucket j) a.there b.there same.0 same.1 in
            let pi = ltb-false i many p in
            let pj = ltb-false j many q in
            omega (
              arith,
              once_at froze (i - many) (j - many) o (omega (arith, hi, pi)) (omega (arith, hj, pj)) is,
              pi,
              pj,
            )

    -- so they are at most two for each such prefix
    pub seat_split : many + length froze ≤ 2 * splits_in setup inserted
    seat_split =
        let few = pigeons (λ n. test (n / 2)) (2 * 2 ^ depth) (many + length froze) slot slot_passes slot_once in
        omega (arith, few, passing_half test (2 ^ depth), splits_are setup inserted)

  -- ---- the bucket words of all seats

  pub all_split : (count : ℕ → ℕ) → ((p : ℕ) → p < seats_of setup → OwnWords setup c p (count p)) →
      ((p : ℕ) → p < seats_of setup → count p ≤ word_room setup p) → all_of count (seats_of setup) ≤ 2 * splits_in setup
      inserted
  all_split count own few =
      let most = families (λ n. test (n / 2)) (2 * 2 ^ depth) (seats_of setup) count
      (λ p j. code (c.deep (word_no setup p j)) (c.pre (word_no setup p j)))
      (λ p j hp hj. (let x = own p hp j hj in parent_code (word_no setup p j) x.0 x.1))
      (λ p q j k hp hq hj hk e.
      let a = own p hp j hj in
      let b = own q hq k hk in
      let same = code_once (c.deep (word_no setup p j)) (c.deep (word_no setup q k)) (c.pre (word_no setup p j))
      (c.pre (word_no setup q k)) (below setup c s t (word_no setup p j) a.0).1
      (below setup c s t (word_no setup q k) b.0).1 e in
      let is = once setup c s t (word_no setup p j) (word_no setup q k) a.0 b.0 same.0 same.1 in
      word_no_apart setup p q j k s.opened hp hq (omega (arith, hj, few p hp)) (omega (arith, hk, few q hq)) is) in
      omega (arith, most, passing_half test (2 ^ depth), splits_are setup inserted)
