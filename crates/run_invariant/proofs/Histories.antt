-- What follows from the histories at one moment: buckets do not come back, and numbers never fall along the
-- directories.
use Rattle.std.proofs.Common.{◌≡◌, ◌≢◌, ℕ, zero, suc, ◌+◌, ◌-◌, ◌<◌, ◌≤◌, inl, inr, sym, ap, ◌∙◌, subst, arith}
use Rattle.std.proofs.lemmas.Bool.{cases_eq}
use Rattle.plain_map.specs.declared.keys.Key.{Key}
use Rattle.bucket_states.specs.Laws.{applied_of}
use Rattle.table_model.specs.Setup.{Setup}
use Rattle.run_invariant.proofs.Invariant.{Common, Shared, lead, last}

module _ (setup : Setup) (c : Common) (s : Shared setup c) (key : Key) where
  -- the bucket of the key by directory row v
  abbrev at : ℕ → ℕ
  at v = lead setup c v key

  -- a bucket that was left does not come back
  stays_away : (u v b : ℕ) (k : ℕ) → u ≤ v → v + k ≤ c.dir_top → at u ≡ b → at v ≢ b → at (v + k) ≢ b
  stays_away u v b zero o w e n = subst (λ x. at x ≢ b) (omega arith) n
  stays_away u v b (suc k) o w e n = λ back.
      let before : at (v + k) ≢ b = stays_away u v b k o (omega (arith, w)) e n in
      let more : v + suc k ≡ v + k + 1 = omega arith in
      let now : at (v + k + 1) ≡ b = ap at (sym more) ∙ back in
      let changed : at (v + k + 1) ≢ at (v + k) = (λ x. before (sym x ∙ now)) in
      let new = (s.leads.step (v + k) key (omega (arith, w)) changed).newborn in
      let old = s.leads.born_by u key (omega (arith, o, w)) in
      omega (arith, o, new, old, ap c.born now, ap c.born e)

  -- a bucket that some directory led to and a later one did not is none that a still later one leads to
  pub come_back : (u v w b : ℕ) → u ≤ v → v ≤ w → w ≤ c.dir_top → at u ≡ b → at v ≢ b → at w ≢ b
  come_back u v w b o p q e n =
      subst (λ x. at x ≢ b) (omega (arith, p)) (stays_away u v b (w - v) o (omega (arith, p, q)) e n)

  -- between two directories that differ there is one where the bucket was replaced
  changes : (u k : ℕ) → at (u + k) ≢ at u → (l : ℕ) × (u ≤ l) × (l < u + k) × (at l ≡ at u) × (at (l + 1) ≢ at u)
  changes u zero n = absurd (n (ap at (omega arith)))
  changes u (suc k) n = elim (cases_eq (at (u + k)) (at u)) [
    | inr m ↦ let r = changes u k m in (r.0, r.1, omega (arith, r.2), r.3, r.4)
    | inl e ↦ (u + k, omega arith, omega arith, e, λ x. n (ap at (omega arith) ∙ x))
  ]

  -- between two directories that differ for the key there is a change that replaced its bucket
  pub changed_between : (u v : ℕ) → u ≤ v → at v ≢ at u → (l : ℕ) × (u ≤ l) × (l < v) × (at l ≡ at u)
      × (at (l + 1) ≢ at u)
  changed_between u v o n = (let same : u + (v - u) ≡ v = omega (arith, o) in
      let r = changes u (v - u) (λ x. n (ap at (sym same) ∙ x)) in (r.0, r.1, omega (arith, r.2, o), r.3, r.4))

  -- numbers never fall along the directories
  forward : (v k p : ℕ) → v + k ≡ c.dir_top → applied_of (last c (at v)) p ≤ applied_of (last c (at c.dir_top)) p
  forward v zero p e = (let here : v ≡ c.dir_top = omega (arith, e) in
      omega (arith, ap (λ x. applied_of (last c (at x)) p) here))
  forward v (suc k) p e =
      let rest : applied_of (last c (at (v + 1))) p ≤ applied_of (last c (at c.dir_top)) p =
      forward (v + 1) k p (omega (arith, e)) in
      elim (cases_eq (at (v + 1)) (at v)) [
        | inl x ↦ omega (arith, rest, ap (λ b. applied_of (last c b) p) x)
        | inr n ↦
            let step = (s.leads.step v key (omega (arith, e)) n).carries p in
            let up = s.rows.rises (at (v + 1)) 0 p (s.leads.there (v + 1) key (omega (arith, e))) (omega arith) in
            omega (arith, rest, step, up)
      ]

  -- so a number that was applied in the bucket of a key is applied in the bucket of the key now
  pub carried_forward : (v p : ℕ) → v ≤ c.dir_top → applied_of (last c (at v)) p ≤ applied_of (last c (at c.dir_top)) p
  carried_forward v p o = forward v (c.dir_top - v) p (omega (arith, o))

  -- and so it is of a number that was in the first row of that bucket
  pub first_forward : (v p : ℕ) → v ≤ c.dir_top →
      applied_of (c.state_at (at v) 0) p ≤ applied_of (last c (at c.dir_top)) p
  first_forward v p o = (let up = s.rows.rises (at v) 0 p (s.leads.there v key o) (omega arith) in
      omega (arith, up, carried_forward v p o))
