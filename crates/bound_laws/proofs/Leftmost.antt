-- A place for each leaf, and for each frozen bucket in use: of the leaves that come from one of the opening the
-- leftmost one has the place of that, and each other one the last prefix above it at which it goes to the right.
use Rattle.std.proofs.Common.{◌≡◌, ℕ, zero, suc, ◌+◌, ◌-◌, ◌*◌, ◌/◌, ◌^◌, ◌<◌, ◌≤◌, ◌⊎◌, Bool, true, false, cond, ltb, List, length, get_or, Option, Some, None, inl, inr, refl, sym, ap, ◌∙◌, subst, arith}
use Rattle.std.proofs.lemmas.Bool.{cases_lt, ltb-true, ltb-false, cond_both, lt-ltb}
use Rattle.std.proofs.lemmas.Nat.{shr-shr, pow-add}
use Rattle.std.proofs.Math.Pow.{pow_mono, pow_pos}
use Rattle.std.proofs.Math.Nat.{pow-suc, mul-div_cancel, div-lt_iff_lt-mul}
use Rattle.plain_map.specs.declared.keys.Key.{Key}
use Rattle.table_model.specs.Setup.{Setup, rules_of}
use Rattle.table_model.specs.Needs.{splits_in}
use Rattle.run_invariant.proofs.Invariant.{Common, Shared, Descends, Names, last}
use Rattle.list_laws.proofs.Lists.{In, Once}
use Rattle.bound_laws.proofs.KeyCounts.{has}
use Rattle.bound_laws.proofs.Crowds.{Crowd, crowd_fewer}
use Rattle.bound_laws.proofs.Crowding.{Came, Crowding, first_fewer}
use Rattle.bound_laws.proofs.Crowded.{all_keys, splittable, crowd_splittable, splits_are}
use Rattle.bound_laws.proofs.Levels.{tested, tested_is, passing_append, passing_alike}
use Rattle.list_laws.proofs.Pigeons.{flag, passing, pigeons, code, code_once}
use Rattle.bound_laws.proofs.Counts.{pick, picked}
use Rattle.bound_laws.proofs.Family.{GoesOn, Elder, elder_of, named_at, one_place, once, below}
use Rattle.bound_laws.proofs.Slots.{frozen_code, once_at}
use Rattle.list_laws.proofs.Places.{number_in}
use Rattle.bound_laws.proofs.Spending.{Twos}
use Rattle.bound_laws.proofs.Strips.{strip, strip_none, strip_some, found}

-- a leaf in use, and the one of the opening that it comes from
pub record InUse (c : Common) (b e : ℕ) : Type 0 where
  pub there : c.named b ≡ true
  pub stands : Names (c.dir_at c.dir_top) b
  pub first : Elder c 0 b
  pub elder_is : first.elder ≡ e

module _ (setup : Setup) (c : Common) (s : Shared setup c) (t : Descends setup c) (twos : Twos c) (w : Crowding setup c)
    (inserted : List Key)
    (known : (key : Key) → Came setup c key → has (all_keys setup inserted) key ≡ true) (firsts : ℕ) (few : (b : ℕ) →
    Names (c.dir_at 0) b → b < firsts) where
  abbrev depth : ℕ
  depth = setup.shape.settings.depth

  abbrev test : ℕ → Bool
  test = tested (splittable setup inserted) depth

  -- the places: first those of the opening, and then the prefixes that can be split
  abbrev free : ℕ → Bool
  free n = cond (ltb n firsts) true (test (n - firsts))

  -- which are free, and how many they are
  free_first : (n : ℕ) → n < firsts → free n ≡ true
  free_first n h = ap (λ b. cond b true (test (n - firsts))) (lt-ltb n firsts h)

  free_later : (n : ℕ) → test n ≡ true → free (firsts + n) ≡ true
  free_later n e = go (ltb (firsts + n) firsts)
    where
      same : firsts + n - firsts ≡ n
      same = omega arith

      go : (b : Bool) → cond b true (test (firsts + n - firsts)) ≡ true
      go true = refl
      go false = ap test same ∙ e

  free_count : passing free (firsts + 2 ^ depth) ≤ firsts + splits_in setup inserted
  free_count =
      let first = all_first firsts (omega arith) in
      let later =
      passing_alike (λ i. free (firsts + i)) test (2 ^ depth) (λ i h. after i (ltb (firsts + i) firsts) refl) in
      omega (arith, passing_append free firsts (2 ^ depth), first, later, splits_are setup inserted)
    where
      all_first : (n : ℕ) → n ≤ firsts → passing free n ≡ n
      all_first zero o = refl
      all_first (suc n) o = omega (arith, all_first n (omega (arith, o)), ap flag (free_first n (omega (arith, o))))

      after : (i : ℕ) (b : Bool) → ltb (firsts + i) firsts ≡ b → free (firsts + i) ≡ test i
      after i true e = absurd (omega (arith, ltb-true (firsts + i) firsts e))
      after i false e = ap (λ b. cond b true (test (firsts + i - firsts))) e ∙ ap test (omega arith)

  -- how much deeper a leaf is than that of the opening
  abbrev more : ℕ → ℕ → ℕ
  more b e = c.deep b - c.deep e

  -- the place of a leaf
  abbrev place_by : ℕ → Option (ℕ × ℕ) → ℕ
  place_by e None = e
  place_by e (Some x) = firsts + code (c.deep e + x.0) x.1

  abbrev place : ℕ → ℕ → ℕ
  place b e = place_by e (strip (more b e) (c.pre b))

  -- of two prefixes with the same bits before noughts the longer one goes on from the shorter one
  zeros : (a b x i j : ℕ) → c.pre a ≡ x * 2 ^ i → c.pre b ≡ x * 2 ^ j → i ≤ j → c.deep b ≡ c.deep a + (j - i) →
      GoesOn c a b
  zeros a b x i j ea eb o d =
      let gap : c.deep b - c.deep a ≡ j - i = omega (arith, d) in
      let sum : i + (j - i) ≡ j = omega (arith, o) in
      let all : x * 2 ^ j ≡ x * 2 ^ i * 2 ^ (j - i) =
      ap (λ n. x * 2 ^ n) (sym sum) ∙ ap (λ n. x * n) (pow-add 2 i (j - i)) ∙ grind arith in
      record {
        shallow = omega (arith, d);
        prefix = ap (λ n. c.pre b / 2 ^ n) gap ∙ ap (λ n. n / 2 ^ (j - i)) (eb ∙ all)
            ∙ mul-div_cancel (x * 2 ^ i) (pow_pos (j - i)) ∙ sym ea;
      }

  -- so in use they are one
  same_leaf : (a b ea eb x i j : ℕ) → InUse c a ea → InUse c b eb → c.pre a ≡ x * 2 ^ i → c.pre b ≡ x * 2 ^ j →
      c.deep a + j ≡ c.deep b + i → a ≡ b
  same_leaf a b ea eb x i j ua ub pa pb d = elim (cases_lt i j) [
    | inl less ↦ one_place setup c s t c.dir_top a b (omega arith) ua.stands ub.stands
        (zeros a b x i j pa pb (omega (arith, less)) (omega (arith, d, less)))
    | inr most ↦ sym (one_place setup c s t c.dir_top b a (omega arith) ub.stands ua.stands
        (zeros b a x j i pb pa most (omega (arith, d, most))))
  ]

  -- ---- the last prefix at which a leaf goes to the right

  -- the last prefix at which a leaf goes to the right: it is shorter than the leaf, and noughts come after its right
  -- part
  pub record Node (b e m q : ℕ) : Type 0 where
    pub less : c.deep e + m < c.deep b
    pub above : q ≡ c.pre b / 2 ^ (c.deep b - (c.deep e + m))
    pub whole : c.pre b ≡ (2 * q + 1) * 2 ^ (c.deep b - (c.deep e + m) - 1)
    pub low : q < 2 ^ (c.deep e + m)

  -- the one of the opening
  elder_goes_on : (b e : ℕ) → InUse c b e → GoesOn c e b
  elder_goes_on b e u = subst (λ x. GoesOn c x b) u.elder_is u.first.goes_on

  elder_stands : (b e : ℕ) → InUse c b e → Names (c.dir_at 0) e
  elder_stands b e u = subst (Names (c.dir_at 0)) u.elder_is u.first.stands

  -- so it is where a leaf goes to the right at all
  node : (b e m q : ℕ) → InUse c b e → strip (more b e) (c.pre b) ≡ found m q → Node b e m q
  node b e m q u at =
      let s_ = strip_some (more b e) (c.pre b) m q at in
      let up = elder_goes_on b e u in
      let d = c.deep e + m in
      let same : more b e - m ≡ c.deep b - d = omega (arith, up.shallow) in
      let less : d < c.deep b = omega (arith, s_.less, up.shallow) in
      let above : q ≡ c.pre b / 2 ^ (c.deep b - d) = s_.above ∙ ap (λ n. c.pre b / 2 ^ n) same in
      let sum : d + (c.deep b - d) ≡ c.deep b = omega (arith, less) in
      let room : c.pre b < 2 ^ d * 2 ^ (c.deep b - d) =
      omega (arith, (below setup c s t b u.there).1, ap (λ n. 2 ^ n) sum, pow-add 2 d (c.deep b - d)) in
      let low : c.pre b / 2 ^ (c.deep b - d) < 2 ^ d =
      (div-lt_iff_lt-mul {k = 2 ^ (c.deep b - d)} {x = c.pre b} {y = 2 ^ d} (pow_pos (c.deep b - d))).1 room in
      record {
        less = less;
        above = above;
        whole = s_.whole ∙ ap (λ n. (2 * q + 1) * 2 ^ (n - 1)) same;
        low =
            omega (arith, low, above);
      }

  -- it can be split
  node_free : (b e m q : ℕ) → InUse c b e → Node b e m q → (code (c.deep e + m) q < 2 ^ depth)
      × (test (code (c.deep e + m) q) ≡ true)
  node_free b e m q u n =
      let d = c.deep e + m in
      let up = elder_goes_on b e u in
      let later : 1 ≤ c.born b = born (cases_lt 0 (c.born b)) in
      let deep = (below setup c s t b u.there).0 in
      let one : c.deep b - 1 - d + 1 ≡ c.deep b - d = omega (arith, n.less) in
      let two : 1 + (c.deep b - 1 - d) ≡ c.deep b - d = omega (arith, n.less) in
      let crowd = crowd_fewer (Came setup c) (rules_of setup) (c.deep b - 1) d (c.pre b / 2) (omega (arith, n.less))
      (omega (arith, deep)) (w.parent b u.there later) in
      let is : c.pre b / 2 / 2 ^ (c.deep b - 1 - d) ≡ q =
      shr-shr (c.pre b) 1 (c.deep b - 1 - d) ∙ ap (λ x. c.pre b / 2 ^ x) two ∙ sym n.above in
      let calm = w.calm e (named_at setup c s t 0 e (omega arith) (elder_stands b e u)) in
      let sum : (c.deep b - d) + (d - c.deep e) ≡ c.deep b - c.deep e = omega (arith, n.less) in
      let up_q : q / 2 ^ (d - c.deep e) ≡ c.pre e = ap (λ x. x / 2 ^ (d - c.deep e)) n.above
      ∙ shr-shr (c.pre b) (c.deep b - d) (d - c.deep e) ∙ ap (λ x. c.pre b / 2 ^ x) sum ∙ up.prefix in
      let fewer = first_fewer setup d (c.deep e) q (c.pre e) (omega arith) (omega (arith, deep, n.less)) up_q in
      let higher : 2 ^ (suc d) ≤ 2 ^ depth = pow_mono (omega (arith, n.less, deep)) in (
        omega (arith, higher, pow-suc 2 d, n.low),
        tested_is (splittable setup inserted) depth d q (omega (arith, n.less, deep)) n.low
            ∙ crowd_splittable setup inserted (Came setup c) known d q (omega (arith, calm.0))
            (omega (arith, fewer, calm.1))
            (subst (Crowd (Came setup c) (rules_of setup) d) is crowd),
      )
    where
      born : (0 < c.born b) ⊎ (c.born b ≤ 0) → 1 ≤ c.born b
      born (inl h) = h
      born (inr h) =
          let zero_is : c.born b ≡ 0 = omega (arith, h) in
          let here = subst (λ v. Names (c.dir_at v) b) zero_is (t.present b u.there) in
          let same = one_place setup c s t 0 e b (omega arith) (elder_stands b e u) here (elder_goes_on b e u) in
          absurd (omega (arith, ap c.deep same, n.less))

  -- ---- the place of a leaf is free, and no two have one place

  -- the place of a leaf is free, and no two have one place
  place_free : (b e : ℕ) → InUse c b e → (place b e < firsts + 2 ^ depth) × (free (place b e) ≡ true)
  place_free b e u = go (strip (more b e) (c.pre b)) refl
    where
      go : (o : Option (ℕ × ℕ)) → strip (more b e) (c.pre b) ≡ o → (place_by e o < firsts + 2 ^ depth)
          × (free (place_by e o) ≡ true)
      go None at = (let h = few e (elder_stands b e u) in (omega (arith, h), free_first e h))
      go (Some x) at = (let f = node_free b e x.0 x.1 u (node b e x.0 x.1 u at) in
          (omega (arith, f.0), free_later (code (c.deep e + x.0) x.1) f.1))

  -- no two leaves have one place
  place_once : (a b ea eb : ℕ) → InUse c a ea → InUse c b eb → place a ea ≡ place b eb → a ≡ b
  place_once a b ea eb ua ub same = go (strip (more a ea) (c.pre a)) refl (strip (more b eb) (c.pre b)) refl same
    where
      go : (x : Option (ℕ × ℕ)) → strip (more a ea) (c.pre a) ≡ x → (y : Option (ℕ × ℕ)) →
          strip (more b eb) (c.pre b) ≡ y → place_by ea x ≡ place_by eb y → a ≡ b
      go None p None q e =
          let ga = elder_goes_on a ea ua in
          let gb = elder_goes_on b eb ub in
          let pa : c.pre a ≡ c.pre ea * 2 ^ more a ea =
          strip_none (more a ea) (c.pre a) p ∙ ap (λ n. n * 2 ^ more a ea) ga.prefix in
          let pb : c.pre b ≡ c.pre ea * 2 ^ more b eb =
          strip_none (more b eb) (c.pre b) q ∙ ap (λ n. n * 2 ^ more b eb) (gb.prefix ∙ ap c.pre (sym e)) in
          same_leaf a b ea eb (c.pre ea) (more a ea) (more b eb) ua ub pa pb
          (omega (arith, ga.shallow, gb.shallow, ap c.deep e))
      go None p (Some y) q e = absurd (omega (arith, e, few ea (elder_stands a ea ua)))
      go (Some x) p None q e = absurd (omega (arith, e, few eb (elder_stands b eb ub)))
      go (Some x) p (Some y) q e =
          let na = node a ea x.0 x.1 ua p in
          let nb = node b eb y.0 y.1 ub q in
          let is = code_once (c.deep ea + x.0) (c.deep eb + y.0) x.1 y.1 na.low nb.low (omega (arith, e)) in
          let i = c.deep a - (c.deep ea + x.0) - 1 in
          let j = c.deep b - (c.deep eb + y.0) - 1 in
          same_leaf a b ea eb (2 * x.1 + 1) i j ua ub na.whole (nb.whole ∙ ap (λ n. (2 * n + 1) * 2 ^ j) (sym is.1))
          (omega (arith, is.0, na.less, nb.less))

  -- nor has a frozen bucket the place of a leaf
  frozen_apart : (b e f ef : ℕ) → InUse c b e → InUse c f ef → place b e ≡ firsts + code (c.deep f) (c.pre f) → ⊥
  frozen_apart b e f ef u uf same = go (strip (more b e) (c.pre b)) refl same
    where
      go : (x : Option (ℕ × ℕ)) → strip (more b e) (c.pre b) ≡ x → place_by e x ≡ firsts + code (c.deep f) (c.pre f) → ⊥
      go None p at = absurd (omega (arith, at, few e (elder_stands b e u)))
      go (Some x) p at =
          let n = node b e x.0 x.1 u p in
          let is = code_once (c.deep e + x.0) (c.deep f) x.1 (c.pre f) n.low (below setup c s t f uf.there).1
          (omega (arith, at)) in
          let goes : GoesOn c f b = record {
            shallow = omega (arith, is.0, n.less);
            prefix =
                ap (λ d. c.pre b / 2 ^ (c.deep b - d)) (sym is.0) ∙ sym n.above ∙ is.1;
          } in
          let one = one_place setup c s t c.dir_top f b (omega arith) uf.stands u.stands goes in
          absurd (omega (arith, ap c.deep one, is.0, n.less))

  -- ---- counted

  module _ (leaves frozen : List ℕ) (o : Once leaves) (p : Once frozen) (stands : (b : ℕ) → In b leaves →
      Names (c.dir_at c.dir_top) b) (is_frozen : (b : ℕ) → In b frozen → Names (c.dir_at c.dir_top) b
      × ((last c b).frozen ≡ true)) where
    -- each leaf has one of the opening
    in_use : (b : ℕ) → Names (c.dir_at c.dir_top) b → (e : ℕ) × InUse c b e
    in_use b n = (let x = elder_of setup c s t c.dir_top 0 b (omega arith) (omega arith) n in (
      x.elder,
      record {
        there = named_at setup c s t c.dir_top b (omega arith) n;
        stands = n;
        first = x;
        elder_is =
            refl;
      },
    ))

    abbrev leaf : ℕ → ℕ
    leaf i = get_or leaves i 0

    -- so has the one at each place of the list
    some : (i : ℕ) → i < length leaves → (e : ℕ) × InUse c (leaf i) e
    some i h = in_use (leaf i) (stands (leaf i) (number_in leaves i h))

    abbrev elder : ℕ → ℕ
    elder i = pick (length leaves) i (λ i e. InUse c (leaf i) e) some (cases_lt i (length leaves))

    of_elder : (i : ℕ) → i < length leaves → InUse c (leaf i) (elder i)
    of_elder i h = picked (length leaves) i (λ i e. InUse c (leaf i) e) some (cases_lt i (length leaves)) h

    abbrev bucket : ℕ → ℕ
    bucket i = get_or frozen (i - length leaves) 0

    abbrev slot : ℕ → ℕ
    slot i =
        cond (ltb i (length leaves)) (place (leaf i) (elder i)) (firsts + code (c.deep (bucket i)) (c.pre (bucket i)))

    -- the frozen buckets come after the leaves
    frozen_at : (i : ℕ) → i < length leaves + length frozen → ltb i (length leaves) ≡ false →
        Names (c.dir_at c.dir_top) (bucket i) × ((last c (bucket i)).frozen ≡ true)
    frozen_at i h e =
        is_frozen (bucket i) (number_in frozen (i - length leaves) (omega (arith, h, ltb-false i (length leaves) e)))

    -- each place is free
    slot_free : (i : ℕ) → i < length leaves + length frozen → (slot i < firsts + 2 ^ depth) × (free (slot i) ≡ true)
    slot_free i h = cond_both (ltb i (length leaves)) (place (leaf i) (elder i))
        (firsts + code (c.deep (bucket i)) (c.pre (bucket i))) (λ n. (n < firsts + 2 ^ depth) × (free n ≡ true))
        (λ e. place_free (leaf i) (elder i) (of_elder i (ltb-true i (length leaves) e)))
        (λ e. (let x = frozen_at i h e in let f = frozen_code setup c s t twos w inserted known (bucket i)
        (named_at setup c s t c.dir_top (bucket i) (omega arith) x.0) x.1 in
        (omega (arith, f.0), free_later (code (c.deep (bucket i)) (c.pre (bucket i))) f.1)))

    -- and no two are one
    slot_once : (i j : ℕ) → i < length leaves + length frozen → j < length leaves + length frozen → slot i ≡ slot j →
        i ≡ j
    slot_once i j hi hj e = go (ltb i (length leaves)) refl (ltb j (length leaves)) refl e
      where
        go : (x : Bool) → ltb i (length leaves) ≡ x → (y : Bool) → ltb j (length leaves) ≡ y →
            cond x (place (leaf i) (elder i)) (firsts + code (c.deep (bucket i)) (c.pre (bucket i))) ≡ cond y
            (place (leaf j) (elder j)) (firsts + code (c.deep (bucket j)) (c.pre (bucket j))) → i ≡ j
        go true a true b e =
            let ha = ltb-true i (length leaves) a in
            let hb = ltb-true j (length leaves) b in
            once_at leaves i j o ha hb (place_once (leaf i) (leaf j) (elder i) (elder j) (of_elder i ha) (of_elder j hb)
            e)
        go true a false b e = (let x = frozen_at j hj b in let y = in_use (bucket j) x.0 in
            absurd (frozen_apart (leaf i) (elder i) (bucket j) y.0 (of_elder i (ltb-true i (length leaves) a)) y.1 e))
        go false a true b e = (let x = frozen_at i hi a in let y = in_use (bucket i) x.0 in
            absurd (frozen_apart (leaf j) (elder j) (bucket i) y.0 (of_elder j (ltb-true j (length leaves) b)) y.1
            (sym e)))
        go false a false b e =
            let x = frozen_at i hi a in
            let y = frozen_at j hj b in
            let nx = named_at setup c s t c.dir_top (bucket i) (omega arith) x.0 in
            let ny = named_at setup c s t c.dir_top (bucket j) (omega arith) y.0 in
            let same = code_once (c.deep (bucket i)) (c.deep (bucket j)) (c.pre (bucket i)) (c.pre (bucket j))
            (below setup c s t (bucket i) nx).1 (below setup c s t (bucket j) ny).1 (omega (arith, e)) in
            let is = once setup c s t (bucket i) (bucket j) nx ny same.0 same.1 in
            let pi = ltb-false i (length leaves) a in
            let pj = ltb-false j (length leaves) b in
            omega (
              arith,
              once_at frozen (i - length leaves) (j - length leaves) p (omega (arith, hi, pi))
                  (omega (arith, hj, pj)) is,
              pi,
              pj,
            )

    -- so leaves and frozen buckets are at most as many as first leaves and prefixes that can be split
    pub leaves_split : length leaves + length frozen ≤ firsts + splits_in setup inserted
    leaves_split =
        let most = pigeons free (firsts + 2 ^ depth) (length leaves + length frozen) slot slot_free slot_once in
        omega (arith, most, free_count)
