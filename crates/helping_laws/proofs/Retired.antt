-- A bucket leaves the directory only where it is frozen, and does not come back: by the places of the directories.
use Rattle.std.proofs.Common.{◌≡◌, ℕ, zero, suc, ◌+◌, ◌-◌, ◌*◌, ◌/◌, ◌^◌, ◌<◌, ◌≤◌, true, false, List, get_or, inl, inr, refl, sym, ap, ◌∙◌, subst, arith, true≢false, shr-shr}
use Rattle.std.proofs.lemmas.Bool.{cases_Bool, cases_lt}
use Rattle.std.proofs.lemmas.Nat.{pow_pos}
use Rattle.std.proofs.Math.Nat.{mul-div_cancel}
use Rattle.std.proofs.Math.Pow.{shl_lt, shr_lt}
use Rattle.word_rows.specs.Memory.{Shows}
use Rattle.bucket_states.specs.States.{BucketState}
use Rattle.table_model.specs.Setup.{Setup}
use Rattle.table_model.specs.Directories.{DirectoryState}
use Rattle.table_model.specs.Reading.{is_among, bucket_at, directory_at, root_of, row_of, named_buckets}
use Rattle.table_model.specs.Promises.{Among, BucketsLeaveFrozen}
use Rattle.run_invariant.proofs.Invariant.{Common, Shared, Descends, Names, Stands, last}
use Rattle.closed_laws.proofs.Lines.{among_is_in}
use Rattle.placing_laws.proofs.Stuck.{among_in}
use Rattle.closed_laws.proofs.Read
use Rattle.closed_laws.proofs.Told.{names_of, in_of}
use Rattle.helping_laws.proofs.ByPlace
use Rattle.helping_laws.proofs.Extends.{Extends}
use Rattle.helping_laws.proofs.Stays.{moments}

-- a place of the one directory and one of the other, where the first bits of both are the same
pub beside : (one other place : ℕ) → place < 2 ^ one →
    (q : ℕ) × (q < 2 ^ other) × ((few : ℕ) → few ≤ one → few ≤ other → place / 2 ^ (one - few) ≡ q / 2 ^ (other - few))
beside one other place h = elim (cases_lt other one) [
  | inr more ↦
      let rest = other - one in
      let whole : one + rest ≡ other = omega (arith, more) in (
        place * 2 ^ rest,
        subst (λ n. place * 2 ^ rest < 2 ^ n) whole (shl_lt one rest h),
        λ few a b. (let split : rest + (one - few) ≡ other - few = omega (arith, a, more) in
            ap (λ n. n / 2 ^ (one - few)) (sym (mul-div_cancel place (pow_pos rest)))
            ∙ shr-shr (place * 2 ^ rest) rest (one - few) ∙ ap (λ n. place * 2 ^ rest / 2 ^ n) split),
      )
  | inl less ↦
      let rest = one - other in
      let whole : one ≡ other + rest = omega (arith, less) in (
        place / 2 ^ rest,
        shr_lt other rest (subst (λ n. place < 2 ^ n) whole h),
        λ few a b. (let split : rest + (other - few) ≡ one - few = omega (arith, b, less) in
            ap (λ n. place / 2 ^ n) (sym split) ∙ sym (shr-shr place rest (other - few))),
      )
]

module _ (setup : Setup) (c : Common) (s : Shared setup c) (t : Descends setup c) where
  -- who stands at a place, by its first bits
  stands_there : (v place x : ℕ) → v ≤ c.dir_top → place < 2 ^ (c.dir_at v).depth → Names (c.dir_at v) x →
      c.deep x ≤ (c.dir_at v).depth → place / 2 ^ ((c.dir_at v).depth - c.deep x) ≡ c.pre x →
      get_or (c.dir_at v).entries place 0 ≡ x
  stands_there v place x o h n deep e =
      let stands = subst (λ b. Stands (c.dir_at v) b (c.pre b) (c.deep b)) n.2 (s.leads.stands v n.0 o n.1) in
      (stands.places place h).1 e

  -- a bucket that stands in a directory, and not in the next, is frozen
  pub leaves_frozen : (v b : ℕ) → v < c.dir_top → Names (c.dir_at v) b → (Names (c.dir_at (v + 1)) b → ⊥) →
      (last c b).frozen ≡ true
  leaves_frozen v b o n gone =
      let old = c.dir_at v in
      let new = c.dir_at (v + 1) in
      let m = beside old.depth new.depth n.0 n.1 in
      let q = m.0 in
      let x = get_or new.entries q 0 in
      let above : v + 1 ≤ c.dir_top = omega (arith, o) in
      let stands = s.leads.stands (v + 1) q above m.1 in
      let at : q / 2 ^ (new.depth - c.deep x) ≡ c.pre x = (stands.places q m.1).0 refl in
      let named = s.leads.every (v + 1) q above m.1 in
      elim (t.newcomers v q o m.1) [
        | inl there ↦
            let shallow = (subst (λ y. Stands old y (c.pre y) (c.deep y)) there.2
            (s.leads.stands v there.0 (omega (arith, o)) there.1)).shallow in
            let same : b ≡ x = sym n.2 ∙ stands_there v n.0 x (omega (arith, o)) n.1 there shallow
            (m.2 (c.deep x) shallow stands.shallow ∙ at) in
            absurd (gone (subst (Names new) (sym same) (q, m.1, refl)))
        | inr born ↦
            let y = c.from x in
            let comes = t.comes x v named born in
            let there = t.stood x v named born in
            let shallow = (subst (λ z. Stands old z (c.pre z) (c.deep z)) there.2
            (s.leads.stands v there.0 (omega (arith, o)) there.1)).shallow in
            let split : (new.depth - c.deep x) + (c.deep x - c.deep y) ≡ new.depth - c.deep y =
            omega (arith, stands.shallow, comes.shallow) in
            let further : q / 2 ^ (new.depth - c.deep y) ≡ c.pre y =
            ap (λ n. q / 2 ^ n) (sym split) ∙ sym (shr-shr q (new.depth - c.deep x) (c.deep x - c.deep y))
            ∙ ap (λ p. p / 2 ^ (c.deep x - c.deep y)) at ∙ comes.prefix in
            let same : b ≡ y = sym n.2 ∙ stands_there v n.0 y (omega (arith, o)) n.1 there shallow
            (m.2 (c.deep y) shallow (omega (arith, stands.shallow, comes.shallow)) ∙ further) in
            ap (λ z. (last c z).frozen) same ∙ comes.frozen
      ]

  -- between a directory that has a bucket and a later one that has not, there is the one that left it
  left_between : (b u k : ℕ) → u + k ≤ c.dir_top → is_among (c.dir_at u).entries b ≡ true →
      is_among (c.dir_at (u + k)).entries b ≡ false →
      (v : ℕ) × (u ≤ v) × (v < u + k) × (is_among (c.dir_at v).entries b ≡ true)
      × (is_among (c.dir_at (v + 1)).entries b ≡ false)
  left_between b u zero o is not = (let same : u + zero ≡ u = omega arith in
      absurd (true≢false (sym is ∙ ap (λ v. is_among (c.dir_at v).entries b) (sym same) ∙ not)))
  left_between b u (suc k) o is not = elim (cases_Bool (is_among (c.dir_at (u + k)).entries b)) [
    | inl still ↦ (let next : u + suc k ≡ u + k + 1 = omega arith in
        (u + k, omega arith, omega arith, still, ap (λ v. is_among (c.dir_at v).entries b) (sym next) ∙ not))
    | inr gone ↦ (let r = left_between b u k (omega (arith, o)) is gone in (r.0, r.1, omega (arith, r.2), r.3, r.4))
  ]

  -- an entry of a directory row stands in it
  names_in : (v b : ℕ) → v ≤ c.dir_top → is_among (c.dir_at v).entries b ≡ true → Names (c.dir_at v) b
  names_in v b o e = names_of setup c s t v b o (among_is_in (c.dir_at v).entries b e)

  -- and who stands in it is one of its entries
  in_names : (v b : ℕ) → v ≤ c.dir_top → Names (c.dir_at v) b → is_among (c.dir_at v).entries b ≡ true
  in_names v b o n = among_in (c.dir_at v).entries b (in_of setup c s t v b o n)

  -- a bucket that is not in the last directory is frozen
  pub out_frozen : (b : ℕ) → c.named b ≡ true → is_among (c.dir_at c.dir_top).entries b ≡ false →
      (last c b).frozen ≡ true
  out_frozen b n gone =
      let o = t.born_within b n in
      let k = c.dir_top - c.born b in
      let end : c.born b + k ≡ c.dir_top = omega (arith, o) in
      let r = left_between b (c.born b) k (omega (arith, end)) (in_names (c.born b) b o (t.present b n))
      (ap (λ v. is_among (c.dir_at v).entries b) end ∙ gone) in
      let v = r.0 in
      let inside : v < c.dir_top = omega (arith, r.2, end) in
      leaves_frozen v b inside (names_in v b (omega (arith, inside)) r.3)
      (λ m. true≢false (sym (in_names (v + 1) b (omega (arith, inside)) m) ∙ r.4))

  -- and a bucket that a directory has not, which was born by then, no later one has
  pub stays_out : (b u k : ℕ) → u + k ≤ c.dir_top → c.born b ≤ u → is_among (c.dir_at u).entries b ≡ false →
      is_among (c.dir_at (u + k)).entries b ≡ false
  stays_out b u zero o born gone = (let same : u + zero ≡ u = omega arith in
      ap (λ v. is_among (c.dir_at v).entries b) same ∙ gone)
  stays_out b u (suc k) o born gone =
      let before = stays_out b u k (omega (arith, o)) born gone in
      let next : u + suc k ≡ u + k + 1 = omega arith in
      elim (cases_Bool (is_among (c.dir_at (u + k + 1)).entries b)) [
        | inr f ↦ ap (λ v. is_among (c.dir_at v).entries b) next ∙ f
        | inl is ↦
            let at = names_in (u + k + 1) b (omega (arith, o)) is in
            elim (t.newcomers (u + k) at.0 (omega (arith, o)) at.1) [
              | inl there ↦ absurd (true≢false (sym (in_names (u + k) b (omega (arith, o))
                  (subst (Names (c.dir_at (u + k))) at.2 there)) ∙ before))
              | inr new ↦ absurd (omega (arith, born, new, ap c.born at.2))
            ]
      ]

module _ (setup : Setup) (first second : List ℕ) (c d : Common) (was : Shows setup.shape first c.memory)
    (now : Shows setup.shape second d.memory) (s : Shared setup c) (z : Shared setup d) (t : Descends setup c)
    (y : Descends setup d) (e : Extends c d) where
  -- what the root's row has
  entries_now : (words : List ℕ) (x : Common) (w : Shows setup.shape words x.memory) (g : Shared setup x)
      (r : Descends setup x) → directory_at setup.shape words (root_of setup.shape words) ≡ x.dir_at x.dir_top
  entries_now words x w g r = ap (directory_at setup.shape words) (ByPlace.root_is setup words x w g r)
      ∙ Read.directory_is setup words (ByPlace.book setup words x w g r) (ByPlace.told setup words x w g r) x.dir_top
      (omega arith)

  -- a bucket that the earlier moment's directory has not is frozen, and the later one's has it not
  pub leave : (b : ℕ) → Among (named_buckets setup.shape first) b →
      is_among (directory_at setup.shape first (root_of setup.shape first)).entries b ≡ false →
      ((bucket_at setup.shape first (row_of setup.shape first b)).frozen ≡ true)
      × (is_among (directory_at setup.shape second (root_of setup.shape second)).entries b ≡ false)
  leave b among out =
      let n = ByPlace.named_is setup first c was s t b among in
      let gone : is_among (c.dir_at c.dir_top).entries b ≡ false =
      ap (λ (x : DirectoryState). is_among x.entries b) (sym (entries_now first c was s t)) ∙ out in
      let up = e.named_up b n in
      let born_in : is_among (d.dir_at (c.born b)).entries b ≡ true =
      ap (λ (x : DirectoryState). is_among x.entries b) (e.dirs (c.born b) (t.born_within b n)).1
      ∙ in_names setup c s t (c.born b) b (t.born_within b n) (t.present b n) in
      let at = names_in setup d z y (c.born b) b (omega (arith, t.born_within b n, e.dir_up)) born_in in
      let born : d.born b ≤ c.dir_top = omega (
        arith,
        y.entries (c.born b) at.0
            (omega (arith, t.born_within b n, e.dir_up)) at.1,
        ap d.born at.2,
        t.born_within b n,
      ) in
      let end : c.dir_top + (d.dir_top - c.dir_top) ≡ d.dir_top = omega (arith, e.dir_up) in
      let far = stays_out setup d z y b c.dir_top (d.dir_top - c.dir_top) (omega (arith, end)) born
      (ap (λ (x : DirectoryState). is_among x.entries b) (e.dirs c.dir_top (omega arith)).1 ∙ gone) in (
        ap (λ r. (bucket_at setup.shape first r).frozen) (ByPlace.word_is setup first c was s t b n)
            ∙ ap (λ (x : BucketState). x.frozen) (ByPlace.state_is setup first c was s t b (c.top b) n (omega arith))
            ∙ out_frozen setup c s t b n gone,
        ap (λ (x : DirectoryState). is_among x.entries b) (entries_now second d now z y)
            ∙ ap (λ v. is_among (d.dir_at v).entries b) (sym end) ∙ far,
      )

-- a bucket leaves the directory only where it is frozen, and never comes back
pub buckets_leave_frozen : BucketsLeaveFrozen
buckets_leave_frozen setup events later bucket run =
    let m = moments setup events later run in
    leave setup _ _ m.was.common m.now.common m.was.follows.shows m.now.follows.shows m.was.follows.shared
    m.now.follows.shared m.was.follows.descent m.now.follows.descent m.extends bucket
