-- When a lookup loads its bucket word, either no bucket comes from its bucket, or one version retired it, after the
-- one by which the lookup found it. So Clock.loads_ticks gives it a place.
use Rattle.std.proofs.Common.{◌≡◌, ◌≢◌, ℕ, ◌+◌, ◌<◌, ◌≤◌, ◌⊎◌, true, inl, inr, sym, ◌∙◌, subst, arith}
use Rattle.std.specs.Prelude.{◌-◌}
use Rattle.std.proofs.lemmas.Bool.{cases_eq, cases_order}
use Rattle.plain_map.specs.declared.keys.Key.{Key}
use Rattle.table_model.specs.Setup.{Setup}
use Rattle.run_invariant.proofs.Invariant.{Common, Shared, bits, lead}
use Rattle.run_invariant.proofs.Histories.{changed_between}
use Rattle.run_invariant.proofs.Loads.{bits_below}
use Rattle.list_laws.proofs.Lists.{In}
use Rattle.closed_laws.proofs.FromWords.{Bases, Descends}
use Rattle.list_laws.proofs.Places.{number_in}

module _ (setup : Setup) (c : Common) (s : Shared setup c) (e : Bases setup c) (d : Descends setup c e) (from : ℕ → ℕ)
    -- the bucket that a bucket comes from, and that no later version names it
    (parent : (b v : ℕ) → c.named b ≡ true → c.born b ≡ v + 1 → In (from b) (c.dir_at v).entries)
    (gone : (b v u : ℕ) → c.named b ≡ true → c.born b ≡ v + 1 → v < u → u ≤ c.dir_top →
    In (from b) (c.dir_at u).entries → ⊥)
    (parent_leads : (v : ℕ) (key : Key) → v < c.dir_top → lead setup c (v + 1) key ≢ lead setup c v key →
    from (lead setup c (v + 1) key) ≡ lead setup c v key) where
  -- the bucket of a key stands in the version's directory
  led_in : (v : ℕ) (key : Key) → v ≤ c.dir_top → In (lead setup c v key) (c.dir_at v).entries
  led_in v key o = number_in (c.dir_at v).entries (bits setup (c.dir_at v).depth key)
      (omega (arith, bits_below setup (c.dir_at v).depth key (s.directories.shallow v o), s.directories.long v o))

  -- so it is one of those that the line of directory rows names
  pub load_state : (found : ℕ) (key : Key) (b : ℕ) → found ≤ c.dir_top → lead setup c found key ≡ b →
      ((x : ℕ) → c.named x ≡ true → 1 ≤ c.born x → from x ≡ b → ⊥)
      ⊎ ((x : ℕ) × (c.named x ≡ true) × (1 ≤ c.born x) × (from x ≡ b) × (found < c.born x)
      × ((y : ℕ) → c.named y ≡ true → 1 ≤ c.born y → from y ≡ b → c.born y ≡ c.born x))
  load_state found key b o is = elim (cases_eq (lead setup c c.dir_top key) (lead setup c found key)) [
    | inl same ↦ inl (λ x n one f.
        let v : c.born x ≡ (c.born x - 1) + 1 = omega (arith, one) in
        gone x (c.born x - 1) c.dir_top n v (omega (arith, one, d.born_within x n)) (omega arith)
        (subst (λ z. In z (c.dir_at c.dir_top).entries) (same ∙ is ∙ sym f) (led_in c.dir_top key (omega arith))))
    | inr differ ↦
        let r = changed_between setup c s key found c.dir_top o differ in
        let v = r.0 in
        let x = lead setup c (v + 1) key in
        let changed : x ≢ lead setup c v key = (λ q. r.4 (q ∙ r.3)) in
        let n = s.leads.there (v + 1) key (omega (arith, r.2)) in
        let born = (s.leads.step v key r.2 changed).newborn in
        let comes : from x ≡ b = parent_leads v key r.2 changed ∙ r.3 ∙ is in
        inr (
          x,
          n,
          omega (arith, born),
          comes,
          omega (arith, born, r.1),
          λ y m one f.
              let u : c.born y ≡ (c.born y - 1) + 1 = omega (arith, one) in
              elim (cases_order (c.born y) (c.born x)) [
                | inl eq ↦ eq
                | inr other ↦ elim other [
                  | inl less ↦ absurd (gone y (c.born y - 1) v m u (omega (arith, less, born, one)) (omega (arith, r.2))
                      (subst (λ z. In z (c.dir_at v).entries) (sym f)
                      (subst (λ z. In z (c.dir_at v).entries) (r.3 ∙ is) (led_in v key (omega (arith, r.2))))))
                  | inr more ↦ absurd (gone x v (c.born y - 1) n born (omega (arith, more, born))
                      (omega (arith, d.born_within y m, one))
                      (subst (λ z. In z (c.dir_at (c.born y - 1)).entries) (f ∙ sym comes)
                      (parent y (c.born y - 1) m u)))
                ]
              ],
        )
  ]
