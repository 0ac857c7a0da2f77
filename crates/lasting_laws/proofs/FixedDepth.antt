-- Where a table begins as deep as it may be: each bucket is there from the opening on, is of that depth, is never
-- frozen, and stands at the one place that is its prefix. So a key's bucket has the key's class.
use Rattle.std.proofs.Common.{◌≡◌, ℕ, zero, suc, ◌+◌, ◌-◌, ◌/◌, ◌^◌, ◌<◌, ◌≤◌, true, false, get_or, refl, sym, ap, ◌∙◌, subst, arith}
use Rattle.std.proofs.lemmas.Bool.{false≢true}
use Rattle.std.proofs.Math.Pow.{pow_mono}
use Rattle.plain_map.specs.declared.keys.Key.{Key}
use Rattle.plain_map.specs.PlainObject.{class_of}
use Rattle.bucket_states.specs.Items.{prefix_of}
use Rattle.table_model.specs.Setup.{Setup, settings_of, rules_of}
use Rattle.run_invariant.proofs.Invariant.{Common, Shared, Descends, last, lead, bits}
use Rattle.run_laws.proofs.Tried.{none_frozen}
use Rattle.helping_laws.proofs.Extends.{Extends}
use Rattle.lasting_model.specs.Plans.{bucket_for}

-- the prefix of a key at the greatest depth is its class
pub prefix_is_class : (setup : Setup) (key : Key) →
    prefix_of (rules_of setup) (settings_of setup).depth key ≡ bucket_for setup key
unfolding prefix_of class_of
prefix_is_class setup key = refl

-- at the greatest depth a place is a prefix
whole_prefix : (place d k : ℕ) → d ≡ k → place / 2 ^ (k - d) ≡ place
whole_prefix place d k e =
    (let none : k - d ≡ 0 = omega (arith, e) in
    let one : place / 1 ≡ place = omega arith in
    ap (λ j. place / 2 ^ j) none ∙ one)

-- each power of 2 is above 0
pub positive : (d : ℕ) → 0 < 2 ^ d
positive d = (let low : 0 ≤ d = omega arith in let least : 2 ^ 0 ≤ 2 ^ d = pow_mono low in omega (arith, least))

module _ (setup : Setup) (c : Common) (s : Shared setup c) (t : Descends setup c)
    (deepest : (settings_of setup).start ≡ (settings_of setup).depth) where
  -- no row is frozen
  pub never_frozen : (b : ℕ) → c.named b ≡ true → (last c b).frozen ≡ false
  never_frozen b n = none_frozen setup c s t deepest b (c.top b) n (omega arith)

  -- so no bucket comes from another one
  pub born_first : (b : ℕ) → c.named b ≡ true → c.born b ≡ 0
  born_first b n = go (c.born b) refl
    where
      go : (v : ℕ) → c.born b ≡ v → v ≡ 0
      go zero e = refl
      go (suc v) e = absurd (
          let later : c.born b ≡ v + 1 = omega (arith, e) in
          let from = t.there b v n later in
          let come = t.comes b v n later in
          false≢true (sym (none_frozen setup c s t deepest (c.from b) (c.top (c.from b)) from (omega arith))
          ∙ come.frozen))

  -- each is of the greatest depth, as is each directory
  pub deep_is : (b : ℕ) → c.named b ≡ true → c.deep b ≡ (settings_of setup).depth
  deep_is b n =
      (let at = t.present b n in
      let first : c.born b ≤ c.dir_top = omega (arith, born_first b n) in
      let stands = s.leads.stands (c.born b) at.0 first at.1 in
      let low = subst (λ x. c.deep x ≤ (c.dir_at (c.born b)).depth) at.2 stands.shallow in
      let most = s.directories.shallow (c.born b) first in
      omega (arith, low, most, t.starts b n, deepest))

  pub directory_is_deep : (v place : ℕ) → v ≤ c.dir_top → place < 2 ^ (c.dir_at v).depth →
      (c.dir_at v).depth ≡ (settings_of setup).depth
  directory_is_deep v place old within =
      (let named = s.leads.every v place old within in
      let stands = s.leads.stands v place old within in
      let deep = deep_is (get_or (c.dir_at v).entries place 0) named in
      let low = stands.shallow in
      let most = s.directories.shallow v old in
      omega (arith, low, most, deep))

  -- a bucket stands at its prefix
  pub place_is_prefix : (v place : ℕ) → v ≤ c.dir_top → place < 2 ^ (c.dir_at v).depth →
      c.pre (get_or (c.dir_at v).entries place 0) ≡ place
  place_is_prefix v place old within =
      (let b = get_or (c.dir_at v).entries place 0 in
      let deep = deep_is b (s.leads.every v place old within) in
      let whole = directory_is_deep v place old within in
      sym (((s.leads.stands v place old within).places place within).0 refl)
      ∙ whole_prefix place (c.deep b) (c.dir_at v).depth (deep ∙ sym whole))

  -- A key's bucket has its class
  pub lead_has_class : (v : ℕ) (key : Key) → v ≤ c.dir_top → c.pre (lead setup c v key) ≡ bucket_for setup key
  lead_has_class v key old =
      sym (s.leads.for_it v key old)
      ∙ ap (λ d. bits setup d key) (deep_is (lead setup c v key) (s.leads.there v key old)) ∙ prefix_is_class setup key

  -- ---- where buckets are numbered by their prefixes

  module _ (numbered : (b : ℕ) → c.named b ≡ true → c.pre b ≡ b) where
    -- THE BUCKET OF A KEY IS ITS CLASS
    pub lead_is_class : (v : ℕ) (key : Key) → v ≤ c.dir_top → lead setup c v key ≡ bucket_for setup key
    lead_is_class v key old =
        sym (numbered (lead setup c v key) (s.leads.there v key old)) ∙ lead_has_class v key old

    -- there is no other bucket than one for each class
    pub named_below : (b : ℕ) → c.named b ≡ true → b < 2 ^ (settings_of setup).depth
    named_below b n =
        (let at = t.present b n in
        let first : c.born b ≤ c.dir_top = omega (arith, born_first b n) in
        let deep = directory_is_deep (c.born b) at.0 first at.1 in
        let place : b ≡ at.0 =
        sym (numbered b n) ∙ ap c.pre (sym at.2) ∙ place_is_prefix (c.born b) at.0 first at.1 in
        let within = subst (λ d. at.0 < 2 ^ d) deep at.1 in
        subst (λ x. x < 2 ^ (settings_of setup).depth) (sym place) within)

    -- and that there is
    pub below_named : (b : ℕ) → b < 2 ^ (c.dir_at 0).depth → c.named b ≡ true
    below_named b within =
        (let old : 0 ≤ c.dir_top = omega arith in
        let named = s.leads.every 0 b old within in
        let same : get_or (c.dir_at 0).entries b 0 ≡ b =
        sym (numbered (get_or (c.dir_at 0).entries b 0) named) ∙ place_is_prefix 0 b old within in
        subst (λ x. c.named x ≡ true) same named)

    -- all of it, as the relation has it
    pub all_named : (b : ℕ) → b < 2 ^ (settings_of setup).depth → c.named b ≡ true
    all_named b within =
        (let old : 0 ≤ c.dir_top = omega arith in
        let deep = directory_is_deep 0 0 old (positive (c.dir_at 0).depth) in
        below_named b (subst (λ d. b < 2 ^ d) (sym deep) within))

    pub class_shape : (b : ℕ) → b < 2 ^ (settings_of setup).depth →
        (c.pre b ≡ b) × (c.deep b ≡ (settings_of setup).depth) × ((last c b).frozen ≡ false)
    class_shape b within =
        (let named = all_named b within in (numbered b named, deep_is b named, never_frozen b named))

-- the numbering stays
pub numbered_stays : (setup : Setup) (c d : Common) → Shared setup c → Shared setup d → Descends setup d →
    (settings_of setup).start ≡ (settings_of setup).depth → Extends c d →
    ((b : ℕ) → c.named b ≡ true → c.pre b ≡ b) → (b : ℕ) → d.named b ≡ true → d.pre b ≡ b
numbered_stays setup c d s z t deepest e numbered b n =
    let at = t.present b n in
    let first : d.born b ≡ 0 = born_first setup d z t deepest b n in
    let dirs : d.dir_at (d.born b) ≡ c.dir_at 0 = ap d.dir_at first ∙ (e.dirs 0 (omega arith)).1 in
    let within = subst (λ x. at.0 < 2 ^ x.depth) dirs at.1 in
    let entry : get_or (c.dir_at 0).entries at.0 0 ≡ b = ap (λ x. get_or x.entries at.0 0) (sym dirs) ∙ at.2 in
    let was : c.named b ≡ true =
    subst (λ x. c.named x ≡ true) entry (s.leads.every 0 at.0 (omega arith) within) in
    (e.named_up b was).1 ∙ numbered b was
