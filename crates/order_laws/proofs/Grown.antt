-- The history with new leaves, where their numbers are free: what an old bucket is, and what a new one is.
use Rattle.std.proofs.Common.{◌≡◌, ℕ, ◌+◌, ◌-◌, ◌<◌, Bool, true, false, cond, ltb, leb, List, length, Option, true≢false, inl, inr, sym, ap, ◌∙◌, arith, lt-ltb, le-leb}
use Rattle.std.proofs.lemmas.Bool.{cases_Bool, and_parts, and_from, ltb-true, leb-true}
use Rattle.table_model.specs.Setup.{Setup}
use Rattle.table_model.specs.Directories.{DirectoryState}
use Rattle.table_model.specs.Leaves.{NewLeaf}
use Rattle.run_invariant.proofs.Invariant.{Common}
use Rattle.run_invariant.proofs.Change.{AreFree, leaf_at}
use Rattle.run_laws.proofs.PublishRoot.{is_new, grown}

module _ (setup : Setup) (me : ℕ) (leaves : List NewLeaf) (now : DirectoryState) (words : ℕ → List ℕ)
    (bases : ℕ → Option ℕ) (fresh row dir : ℕ) (c : Common) (free : AreFree c fresh (length leaves)) where
  -- how many leaves are new
  abbrev many : ℕ
  many = length leaves

  -- the history with the new version
  abbrev e : Common
  e = grown setup me leaves now words bases fresh row dir c

  -- a new bucket is one of the leaves
  pub new_at : (b : ℕ) → is_new fresh many b ≡ true → (b ≡ fresh + (b - fresh)) × (b - fresh < many)
  new_at b n = (let parts = and_parts (leb fresh b) (ltb b (fresh + many)) n in let low = leb-true fresh b parts.0 in
      let high = ltb-true b (fresh + many) parts.1 in (omega (arith, low), omega (arith, low, high)))

  -- and each leaf is a new bucket
  pub is_new_at : (i : ℕ) → i < many → is_new fresh many (fresh + i) ≡ true
  is_new_at i n = and_from (leb fresh (fresh + i)) (ltb (fresh + i) (fresh + many))
      (le-leb fresh (fresh + i) (omega arith)) (lt-ltb (fresh + i) (fresh + many) (omega (arith, n)))

  -- a named bucket is not new
  pub old_not_new : (b : ℕ) → c.named b ≡ true → is_new fresh many b ≡ false
  old_not_new b n = elim (cases_Bool (is_new fresh many b)) [
    | inr f ↦ f
    | inl t ↦ absurd (let at = new_at b t in free b (b - fresh) n at.1 at.0)
  ]

  -- a bucket that was not named is a new one
  pub unnamed : (b : ℕ) → e.named b ≡ true → c.named b ≡ false → is_new fresh many b ≡ true
  unnamed b n f = elim (cases_Bool (is_new fresh many b)) [
    | inl t ↦ t
    | inr o ↦ absurd (true≢false (sym n ∙ ap (λ (x : Bool). cond x true (c.named b)) o ∙ f))
  ]

  -- an old bucket has its rows
  pub old_top : (b : ℕ) → c.named b ≡ true → e.top b ≡ c.top b
  old_top b n = ap (λ (x : Bool). cond x 0 (c.top b)) (old_not_new b n)

  -- and its version
  pub old_born : (b : ℕ) → c.named b ≡ true → e.born b ≡ c.born b
  old_born b n = ap (λ (x : Bool). cond x (c.dir_top + 1) (c.born b)) (old_not_new b n)

  -- a new bucket is named
  pub new_named : (b : ℕ) → is_new fresh many b ≡ true → e.named b ≡ true
  new_named b t = ap (λ (x : Bool). cond x true (c.named b)) t

  -- it has one row
  pub new_top : (b : ℕ) → is_new fresh many b ≡ true → e.top b ≡ 0
  new_top b t = ap (λ (x : Bool). cond x 0 (c.top b)) t

  -- it is of the new version
  pub new_born : (b : ℕ) → is_new fresh many b ≡ true → e.born b ≡ c.dir_top + 1
  new_born b t = ap (λ (x : Bool). cond x (c.dir_top + 1) (c.born b)) t

  -- its state is the leaf's
  pub new_state : (b i : ℕ) → is_new fresh many b ≡ true → e.state_at b i ≡ leaf_at leaves (b - fresh)
  new_state b i t = ap (λ (x : Bool). cond x (λ (_ : ℕ). leaf_at leaves (b - fresh)) (c.state_at b) i) t

  -- so is its prefix
  pub new_pre : (b : ℕ) → is_new fresh many b ≡ true → e.pre b ≡ (leaf_at leaves (b - fresh)).prefix
  new_pre b t = ap (λ (x : Bool). cond x (leaf_at leaves (b - fresh)).prefix (c.pre b)) t

  -- and its depth
  pub new_deep : (b : ℕ) → is_new fresh many b ≡ true → e.deep b ≡ (leaf_at leaves (b - fresh)).depth
  new_deep b t = ap (λ (x : Bool). cond x (leaf_at leaves (b - fresh)).depth (c.deep b)) t
