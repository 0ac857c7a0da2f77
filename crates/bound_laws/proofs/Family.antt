-- Buckets and the ones that they come from: who stands where, and that no prefix becomes a leaf twice.
use Rattle.std.proofs.Common.{◌≡◌, ◌≢◌, ℕ, zero, suc, ◌+◌, ◌-◌, ◌/◌, ◌^◌, ◌<◌, ◌≤◌, true, inl, inr, refl, sym, ap, ◌∙◌, subst, arith}
use Rattle.std.proofs.lemmas.Bool.{cases_lt}
use Rattle.std.proofs.lemmas.Nat.{shr-shr}
use Rattle.table_model.specs.Setup.{Setup}
use Rattle.plain_map.specs.declared.keys.Key.{Key}
use Rattle.run_invariant.proofs.Loads.{bits_below}
use Rattle.closed_laws.proofs.Leadings.{bits_fewer}
use Rattle.run_invariant.proofs.Invariant.{Common, Shared, Descends, Names, Stands, bits, lead}

-- the one prefix goes on from the other
pub record GoesOn (c : Common) (old b : ℕ) : Type 0 where
  pub shallow : c.deep old ≤ c.deep b
  pub prefix : c.pre b / 2 ^ (c.deep b - c.deep old) ≡ c.pre old

-- each goes on from itself, and from what the one before goes on from
goes_on_self : (c : Common) (b : ℕ) → GoesOn c b b
goes_on_self c b =
    record {
      shallow = omega arith;
      prefix = (let none : c.deep b - c.deep b ≡ 0 = omega arith in
          ap (λ n. c.pre b / 2 ^ n) none ∙ omega arith);
    }

goes_on_more : (c : Common) (a b d : ℕ) → GoesOn c a b → GoesOn c b d → GoesOn c a d
goes_on_more c a b d first second =
    let sum : (c.deep d - c.deep b) + (c.deep b - c.deep a) ≡ c.deep d - c.deep a =
    omega (arith, first.shallow, second.shallow) in
    record {
      shallow = omega (arith, first.shallow, second.shallow);
      prefix = ap (λ n. c.pre d / 2 ^ n) (sym sum) ∙ sym (shr-shr (c.pre d) (c.deep d - c.deep b) (c.deep b - c.deep a))
          ∙ ap (λ n. n / 2 ^ (c.deep b - c.deep a)) second.prefix ∙ first.prefix;
    }

-- at a directory stands the bucket, or one that it comes from
pub record Elder (c : Common) (v b : ℕ) : Type 0 where
  pub elder : ℕ
  pub there : c.named elder ≡ true
  pub stands : Names (c.dir_at v) elder
  pub goes_on : GoesOn c elder b
  pub same : c.deep elder ≡ c.deep b → elder ≡ b

-- the directory in use does not name the bucket
abbrev pub Out : Common → ℕ → Type 0
Out c b = Names (c.dir_at c.dir_top) b → ⊥

module _ (setup : Setup) (c : Common) (s : Shared setup c) (t : Descends setup c) where
  -- who stands in a directory
  pub named_at : (v b : ℕ) → v ≤ c.dir_top → Names (c.dir_at v) b → c.named b ≡ true
  named_at v b o n = subst (λ x. c.named x ≡ true) n.2 (s.leads.every v n.0 o n.1)

  -- it stands at the places that go on from its prefix
  pub stands_at : (v b : ℕ) → v ≤ c.dir_top → Names (c.dir_at v) b → Stands (c.dir_at v) b (c.pre b) (c.deep b)
  stands_at v b o n = subst (λ x. Stands (c.dir_at v) x (c.pre x) (c.deep x)) n.2 (s.leads.stands v n.0 o n.1)

  -- the one that a bucket comes from
  pub from_goes_on : (b v : ℕ) → c.named b ≡ true → c.born b ≡ v + 1 → GoesOn c (c.from b) b
  from_goes_on b v n e = (let x = t.comes b v n e in record { shallow = omega (arith, x.shallow); prefix = x.prefix })

  -- back from a directory to an earlier one
  back : (k v b : ℕ) → v + k ≤ c.dir_top → Names (c.dir_at (v + k)) b → Elder c v b
  back zero v b o n =
      let here : v + 0 ≡ v = omega arith in
      let at = subst (λ u. Names (c.dir_at u) b) here n in
      record {
        elder = b;
        there = named_at v b (omega (arith, o)) at;
        stands = at;
        goes_on = goes_on_self c b;
        same =
            λ e. refl;
      }
  back (suc k) v b o n = elim (t.newcomers (v + k) at.0 (omega (arith, o)) at.1) [
    | inl old ↦ back k v b (omega (arith, o)) (subst (Names (c.dir_at (v + k))) at.2 old)
    | inr new ↦
        let born : c.born b ≡ v + k + 1 = ap c.born (sym at.2) ∙ new in
        let comes = t.comes b (v + k) (named_at (v + suc k) b o n) born in
        let e = back k v (c.from b) (omega (arith, o)) (t.stood b (v + k) (named_at (v + suc k) b o n) born) in
        record {
          elder = e.elder;
          there = e.there;
          stands = e.stands;
          goes_on =
              goes_on_more c e.elder (c.from b) b e.goes_on (from_goes_on b (v + k) (named_at (v + suc k) b o n) born);
          same = λ x. absurd (omega (arith, x, comes.shallow, e.goes_on.shallow));
        }
  ]
    where
      next : v + suc k ≡ v + k + 1
      next = omega arith

      at : Names (c.dir_at (v + k + 1)) b
      at = subst (λ u. Names (c.dir_at u) b) next n

  -- so at each earlier directory
  pub elder_of : (u v b : ℕ) → v ≤ u → u ≤ c.dir_top → Names (c.dir_at u) b → Elder c v b
  elder_of u v b o w n =
      (let sum : v + (u - v) ≡ u = omega (arith, o) in
      back (u - v) v b (omega (arith, sum, w)) (subst (λ x. Names (c.dir_at x) b) (sym sum) n))

  -- two buckets of one directory, of which the one's prefix goes on from the other's, are one
  pub one_place : (v a b : ℕ) → v ≤ c.dir_top → Names (c.dir_at v) a → Names (c.dir_at v) b → GoesOn c a b → a ≡ b
  one_place v a b o na nb g =
      let sa = stands_at v a o na in
      let sb = stands_at v b o nb in
      let depth = (c.dir_at v).depth in
      let q = nb.0 in
      let of_b : q / 2 ^ (depth - c.deep b) ≡ c.pre b = (sb.places q nb.1).0 nb.2 in
      let sum : (depth - c.deep b) + (c.deep b - c.deep a) ≡ depth - c.deep a = omega (arith, g.shallow, sb.shallow) in
      let of_a : q / 2 ^ (depth - c.deep a) ≡ c.pre a = ap (λ n. q / 2 ^ n) (sym sum)
      ∙ sym (shr-shr q (depth - c.deep b) (c.deep b - c.deep a)) ∙ ap (λ n. n / 2 ^ (c.deep b - c.deep a)) of_b
      ∙ g.prefix in
      sym ((sa.places q nb.1).1 of_a) ∙ nb.2

  -- a bucket whose prefix goes on from another's, and is longer, stands in later directories alone
  pub later_stands : (u v a b : ℕ) → u ≤ c.dir_top → v ≤ c.dir_top → Names (c.dir_at u) a → Names (c.dir_at v) b →
      GoesOn c a b → c.deep a < c.deep b → u < v
  later_stands u v a b ou ov na nb g less = elim (cases_lt u v) [
    | inl h ↦ h
    | inr h ↦
        let e = elder_of u v a h ou na in
        let same = one_place v e.elder b ov e.stands nb (goes_on_more c e.elder a b e.goes_on g) in
        absurd (omega (arith, ap c.deep same, e.goes_on.shallow, less))
  ]

  -- a prefix goes on from an equal one
  alike : (a b : ℕ) → c.deep a ≡ c.deep b → c.pre a ≡ c.pre b → GoesOn c a b
  alike a b d p =
      record {
        shallow = omega (arith, d);
        prefix = (let none : c.deep b - c.deep a ≡ 0 = omega (arith, d) in
            ap (λ n. c.pre b / 2 ^ n) none ∙ omega (arith, p));
      }

  -- the earlier one of two with one prefix stands where the later one's elder does, and is that
  in_order : (a b : ℕ) → c.named a ≡ true → c.named b ≡ true → c.born a ≤ c.born b → c.deep a ≡ c.deep b →
      c.pre a ≡ c.pre b → a ≡ b
  in_order a b na nb o d p =
      let e = elder_of (c.born b) (c.born a) b o (t.born_within b nb) (t.present b nb) in
      let whole : GoesOn c a b = alike a b d p in
      let deeper : c.deep e.elder ≤ c.deep a = omega (arith, d, e.goes_on.shallow) in
      let part : GoesOn c e.elder a = record {
        shallow = deeper;
        prefix = ap (λ n. c.pre a / 2 ^ (n - c.deep e.elder)) d
            ∙ ap (λ n. n / 2 ^ (c.deep b - c.deep e.elder)) p ∙ e.goes_on.prefix;
      } in
      let same = one_place (c.born a) e.elder a (t.born_within a na) e.stands (t.present a na) part in
      sym same ∙ e.same (ap c.deep same ∙ d)

  -- no prefix becomes a leaf twice
  pub once : (a b : ℕ) → c.named a ≡ true → c.named b ≡ true → c.deep a ≡ c.deep b → c.pre a ≡ c.pre b → a ≡ b
  once a b na nb d p = elim (cases_lt (c.born a) (c.born b)) [
    | inl h ↦ in_order a b na nb (omega (arith, h)) d p
    | inr h ↦ sym (in_order b a nb na h (sym d) (sym p))
  ]

  -- the prefix of a bucket is one of its depth, which the greatest bounds
  pub below : (b : ℕ) → c.named b ≡ true → (c.deep b ≤ setup.shape.settings.depth) × (c.pre b < 2 ^ c.deep b)
  below b n =
      let row = s.rows.sound b 0 n (omega arith) in (
        omega (arith, row.good.within, row.depth_is),
        subst (λ p. p < 2 ^ c.deep b) row.prefix_is
            (subst (λ d. (c.state_at b 0).prefix < 2 ^ d) row.depth_is row.good.below),
      )

  -- back to when it was born, a bucket stands in each directory
  since : (k v b : ℕ) → v + k ≤ c.dir_top → c.born b ≤ v → Names (c.dir_at (v + k)) b → Names (c.dir_at v) b
  since zero v b o old n = (let here : v + 0 ≡ v = omega arith in subst (λ u. Names (c.dir_at u) b) here n)
  since (suc k) v b o old n =
      let next : v + suc k ≡ v + k + 1 = omega arith in
      let at = subst (λ u. Names (c.dir_at u) b) next n in
      elim (t.newcomers (v + k) at.0 (omega (arith, o)) at.1) [
        | inl before ↦ since k v b (omega (arith, o)) old (subst (Names (c.dir_at (v + k))) at.2 before)
        | inr new ↦ absurd (omega (arith, new, old, ap c.born at.2))
      ]

  -- so between the directory that bore it and one that names it
  pub stood_since : (u v b : ℕ) → v ≤ u → u ≤ c.dir_top → c.born b ≤ v → Names (c.dir_at u) b → Names (c.dir_at v) b
  stood_since u v b o w old n =
      (let sum : v + (u - v) ≡ u = omega (arith, o) in since (u - v) v b (omega (arith, sum, w)) old
      (subst (λ x. Names (c.dir_at x) b) (sym sum) n))

  -- a bucket that the directory does not lead a key of its prefix to does not stand in it
  pub lead_out : (b : ℕ) (key : Key) → bits setup (c.deep b) key ≡ c.pre b → lead setup c c.dir_top key ≢ b → Out c b
  lead_out b key for_it other n =
      let stands = stands_at c.dir_top b (omega arith) n in
      let shallow = s.directories.shallow c.dir_top (omega arith) in
      let inside = bits_below setup (c.dir_at c.dir_top).depth key shallow in
      other ((stands.places (bits setup (c.dir_at c.dir_top).depth key) inside).1
      (bits_fewer setup (c.dir_at c.dir_top).depth (c.deep b) key stands.shallow shallow ∙ for_it))

  -- the child of a bucket comes from it
  pub child_from : (b l : ℕ) → c.named b ≡ true → c.named l ≡ true → 1 ≤ c.born l → c.deep l ≡ c.deep b + 1 →
      c.pre l / 2 ≡ c.pre b → c.from l ≡ b
  child_from b l nb nl h deep pre =
      let v = c.born l - 1 in
      let e : c.born l ≡ v + 1 = omega (arith, h) in
      let x = c.from l in
      let nx = t.there l v nl e in
      let comes = t.comes l v nl e in
      let of_l : GoesOn c x l = from_goes_on l v nl e in
      let one : c.deep l - c.deep b ≡ 1 = omega (arith, deep) in
      let up : GoesOn c b l = record { shallow = omega (arith, deep); prefix = ap (λ n. c.pre l / 2 ^ n) one ∙ pre } in
      let sum : (c.deep l - c.deep b) + (c.deep b - c.deep x) ≡ c.deep l - c.deep x =
      omega (arith, comes.shallow, deep) in
      let of_b : GoesOn c x b = record {
        shallow = omega (arith, comes.shallow, deep);
        prefix = ap (λ n. n / 2 ^ (c.deep b - c.deep x)) (sym up.prefix) ∙ shr-shr (c.pre l) (c.deep l - c.deep b)
            (c.deep b - c.deep x) ∙ ap (λ n. c.pre l / 2 ^ n) sum ∙ of_l.prefix;
      } in
      elim (cases_lt (c.deep x) (c.deep b)) [
        | inr most ↦
            let same : c.deep x ≡ c.deep b = omega (arith, most, of_b.shallow) in
            let none : c.deep b - c.deep x ≡ 0 = omega (arith, same) in
            once x b nx nb same (sym of_b.prefix ∙ ap (λ n. c.pre b / 2 ^ n) none ∙ omega arith)
        | inl less ↦
            let first = later_stands v (c.born b) x b (omega (arith, e, t.born_within l nl)) (t.born_within b nb)
            (t.stood l v nl e) (t.present b nb) of_b less in
            let second = later_stands (c.born b) (v + 1) b l (t.born_within b nb) (omega (arith, e, t.born_within l nl))
            (t.present b nb) (subst (λ u. Names (c.dir_at u) l) e (t.present l nl)) up (omega (arith, deep)) in
            absurd (omega (arith, first, second))
      ]
