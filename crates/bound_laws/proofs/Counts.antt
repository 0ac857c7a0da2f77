-- How many exchanges of the root there are, and how many bucket words a seat has published: counted by their prefixes.
use Rattle.std.proofs.Common.{◌≡◌, ℕ, zero, suc, ◌+◌, ◌-◌, ◌^◌, ◌<◌, ◌≤◌, ◌⊎◌, Bool, true, ltb, inl, inr, refl, sym, ap, ◌∙◌, subst, arith}
use Rattle.std.proofs.lemmas.Bool.{cases_lt, lt-ltb}
use Rattle.std.proofs.Math.Pow.{pow_mono, pow_pos}
use Rattle.std.proofs.Math.Nat.{pow-suc}
use Rattle.table_model.specs.Setup.{Setup}
use Rattle.run_invariant.proofs.Invariant.{Common, Shared, Descends, Names, word_no}
use Rattle.bound_laws.proofs.Family.{once, below}
use Rattle.list_laws.proofs.Pigeons.{flag, passing, pigeons, code, code_once, code_below}
use Rattle.bound_laws.proofs.Spending.{Twos, OwnWords}

-- what there is for each number below one can be chosen
abbrev pub pick : (n v : ℕ) (P : ℕ → ℕ → Type 0) → ((v : ℕ) → v < n → (x : ℕ) × P v x) → (v < n) ⊎ (n ≤ v) → ℕ
pick n v P each (inl h) = (each v h).0
pick n v P each (inr h) = 0

-- and it is what was there
pub picked : (n v : ℕ) (P : ℕ → ℕ → Type 0) (each : (v : ℕ) → v < n → (x : ℕ) × P v x) (x : (v < n) ⊎ (n ≤ v)) → v < n →
    P v (pick n v P each x)
picked n v P each (inl h) lt = (each v h).1
picked n v P each (inr h) lt = absurd (omega (arith, h, lt))

-- a seat's bucket words follow one another
pub word_at : (setup : Setup) (p j : ℕ) → word_no setup p j ≡ word_no setup p 0 + j
unfolding word_no
word_at setup p j = omega arith

-- a bucket that the next directory row replaces
pub record Replaced (setup : Setup) (c : Common) (v r : ℕ) : Type 0 where
  pub there : c.named r ≡ true
  pub stands : Names (c.dir_at v) r
  pub frozen : (c.state_at r (c.top r)).frozen ≡ true
  pub shallow : c.deep r < setup.shape.settings.depth
  pub gone : (u : ℕ) → v < u → u ≤ c.dir_top → Names (c.dir_at u) r → ⊥

module _ (setup : Setup) (c : Common) (s : Shared setup c) (t : Descends setup c) where
  -- the bucket that a later one comes from is replaced
  pub from_replaced : (b v : ℕ) → c.named b ≡ true → c.born b ≡ v + 1 → Replaced setup c v (c.from b)
  from_replaced b v n e =
      let x = t.comes b v n e in
      record {
        there = t.there b v n e;
        stands = t.stood b v n e;
        frozen = x.frozen;
        shallow = omega (arith, x.shallow, (below setup c s t b n).0);
        gone = λ u less o at. t.gone b v u at.0 n e less o at.1 at.2;
      }

  -- no bucket is replaced twice
  replaced_once : (v w r q : ℕ) → v < c.dir_top → w < c.dir_top → Replaced setup c v r → Replaced setup c w q → r ≡ q →
      v ≡ w
  replaced_once v w r q hv hw a b e = elim (cases_lt v w) [
    | inl less ↦ absurd (a.gone w less (omega (arith, hw)) (subst (Names (c.dir_at w)) (sym e) b.stands))
    | inr most ↦ elim (cases_lt w v) [
      | inl less ↦ absurd (b.gone v less (omega (arith, hv)) (subst (Names (c.dir_at v)) e a.stands))
      | inr also ↦ omega (arith, most, also)
    ]
  ]

  -- so the root is exchanged at most as often as there are prefixes of replaced buckets
  pub roots_few : Twos c → (test : ℕ → Bool) (n : ℕ) → ((v r : ℕ) → v < c.dir_top → Replaced setup c v r →
      (code (c.deep r) (c.pre r) < n) × (test (code (c.deep r) (c.pre r)) ≡ true)) → c.dir_top ≤ passing test n
  roots_few twos test n each =
      pigeons test n c.dir_top (λ v. code (c.deep (r v)) (c.pre (r v))) (λ v h. each v (r v) h (is v h))
      (λ v w hv hw e.
      let a = is v hv in
      let b = is w hw in
      let same = code_once (c.deep (r v)) (c.deep (r w)) (c.pre (r v)) (c.pre (r w)) (below setup c s t (r v) a.there).1
      (below setup c s t (r w) b.there).1 e in
      replaced_once v w (r v) (r w) hv hw a b (once setup c s t (r v) (r w) a.there b.there same.0 same.1))
    where
      some : (v : ℕ) → v < c.dir_top → (x : ℕ) × Replaced setup c v x
      some v h = (let p = twos v h in (c.from p.one, from_replaced p.one v p.one_there p.one_born))

      r : ℕ → ℕ
      r v = pick c.dir_top v (Replaced setup c) some (cases_lt v c.dir_top)

      is : (v : ℕ) → v < c.dir_top → Replaced setup c v (r v)
      is v h = picked c.dir_top v (Replaced setup c) some (cases_lt v c.dir_top) h

  -- and a seat has published at most as many bucket words as there are prefixes of later buckets
  pub words_few : (seat many : ℕ) → OwnWords setup c seat many → (test : ℕ → Bool) (n : ℕ) →
      ((b : ℕ) → c.named b ≡ true → 1 ≤ c.born b → (code (c.deep b) (c.pre b) < n)
      × (test (code (c.deep b) (c.pre b)) ≡ true)) → many ≤ passing test n
  words_few seat many own test n each =
      pigeons test n many (λ j. code (c.deep (word_no setup seat j)) (c.pre (word_no setup seat j)))
      (λ j h. (let x = own j h in each (word_no setup seat j) x.0 x.1))
      (λ j k hj hk e.
      let a = own j hj in
      let b = own k hk in
      let same = code_once (c.deep (word_no setup seat j)) (c.deep (word_no setup seat k))
      (c.pre (word_no setup seat j)) (c.pre (word_no setup seat k)) (below setup c s t (word_no setup seat j) a.0).1
      (below setup c s t (word_no setup seat k) b.0).1 e in
      let is = once setup c s t (word_no setup seat j) (word_no setup seat k) a.0 b.0 same.0 same.1 in
      omega (arith, is, word_at setup seat j, word_at setup seat k))

  -- a later bucket has at least one bit
  pub later_deep : (b : ℕ) → c.named b ≡ true → 1 ≤ c.born b → 1 ≤ c.deep b
  later_deep b n h = (let v = c.born b - 1 in let e : c.born b ≡ v + 1 = omega (arith, h) in let x = t.comes b v n e in
      omega (arith, x.shallow))

  -- all numbers but 0, and all but 0 and 1
  passing_more : (n : ℕ) → passing (λ m. ltb 0 m) (suc n) ≡ n
  passing_more zero = refl
  passing_more (suc n) = omega (arith, passing_more n, ap flag (lt-ltb 0 (suc n) (omega arith)))

  passing_two : (n : ℕ) → passing (λ m. ltb 1 m) (suc (suc n)) ≡ n
  passing_two zero = refl
  passing_two (suc n) = omega (arith, passing_two n, ap flag (lt-ltb 1 (suc (suc n)) (omega arith)))

  -- in any case at most 2 ^ D - 1 exchanges of the root, and 2 ^ (D + 1) - 2 bucket words
  pub roots_most : Twos c → c.dir_top + 1 ≤ 2 ^ setup.shape.settings.depth
  roots_most twos =
      let depth = setup.shape.settings.depth in
      let some : 1 ≤ 2 ^ depth = pow_pos depth in
      let all = roots_few twos (λ m. ltb 0 m) (2 ^ depth) (λ v r h x.
      (let up : 2 ^ (suc (c.deep r)) ≤ 2 ^ depth = pow_mono (omega (arith, x.shallow)) in (
        omega (arith, up, pow-suc 2 (c.deep r), (below setup c s t r x.there).1),
        lt-ltb 0 (code (c.deep r) (c.pre r)) (omega (arith, one (c.deep r))),
      ))) in
      let last : suc (2 ^ depth - 1) ≡ 2 ^ depth = omega (arith, some) in
      omega (arith, all, some, sym (ap (passing (λ m. ltb 0 m)) last) ∙ passing_more (2 ^ depth - 1))
    where
      one : (n : ℕ) → 1 ≤ 2 ^ n
      one n = pow_pos n

  -- and bucket words of a seat
  pub words_most : (seat many : ℕ) → OwnWords setup c seat many → many + 2 ≤ 2 ^ (setup.shape.settings.depth + 1)
  words_most seat many own =
      let depth = setup.shape.settings.depth in
      let some : 2 ^ 1 ≤ 2 ^ (depth + 1) = pow_mono {i = 1} {j = depth + 1} (omega arith) in
      let all = words_few seat many own (λ m. ltb 1 m) (2 ^ (depth + 1)) (λ b n h.
      (let low : 2 ^ 1 ≤ 2 ^ c.deep b = pow_mono {i = 1} {j = c.deep b} (later_deep b n h) in (
        code_below (c.deep b) depth (c.pre b) (below setup c s t b n).0 (below setup c s t b n).1,
        lt-ltb 1 (code (c.deep b) (c.pre b)) (omega (arith, low)),
      ))) in
      let last : suc (suc (2 ^ (depth + 1) - 2)) ≡ 2 ^ (depth + 1) = omega (arith, some) in
      omega (arith, all, some, sym (ap (passing (λ m. ltb 1 m)) last) ∙ passing_two (2 ^ (depth + 1) - 2))
