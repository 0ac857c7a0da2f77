-- Every history that the induction keeps is one that the reading of closed words asks for: what stands where by
-- place, as membership in the entries of a directory row.
use Rattle.std.proofs.Common.{◌≡◌, ◌≢◌, ℕ, ◌+◌, ◌<◌, ◌≤◌, true, inl, inr, subst, arith}
use Rattle.plain_map.specs.declared.keys.Key.{Key}
use Rattle.table_model.specs.Setup.{Setup}
use Rattle.run_invariant.proofs.Invariant.{Common, Shared, Descends, Names, lead}
use Rattle.run_invariant.proofs.RowLemmas.{row_says}
use Rattle.list_laws.proofs.Lists.{In}
use Rattle.closed_laws.proofs.FromWords.{Bases}
use Rattle.closed_laws.proofs.FromWords
use Rattle.list_laws.proofs.Places.{number_in, place_in}

module _ (setup : Setup) (c : Common) (s : Shared setup c) (t : Descends setup c) where
  -- who stands in a directory row is one of its entries, and each entry stands in it
  pub in_of : (v b : ℕ) → v ≤ c.dir_top → Names (c.dir_at v) b → In b (c.dir_at v).entries
  in_of v b o n = subst (λ x. In x (c.dir_at v).entries) n.2
      (number_in (c.dir_at v).entries n.0 (omega (arith, n.1, s.directories.long v o)))

  -- a member of the entries stands at some place
  pub names_of : (v b : ℕ) → v ≤ c.dir_top → In b (c.dir_at v).entries → Names (c.dir_at v) b
  names_of v b o i = (let r = place_in (c.dir_at v).entries b i in
      (r.0, omega (arith, r.1, s.directories.long v o), r.2))

  -- the bases of the published rows, from the history
  abbrev pub bases : Bases setup c
  bases = record {
    base_at = c.base_at;
    dir_base = c.dir_base;
    says = λ b i n o. row_says setup (c.base_at b i) (c.pre b) (c.deep b) (c.words_at b i) (c.state_at b i)
        (s.rows.sound b i n o);
    dir_says = t.dir_says;
  }

  -- the bucket that a bucket comes from
  pub parent_in : (b v : ℕ) → c.named b ≡ true → c.born b ≡ v + 1 → In (c.from b) (c.dir_at v).entries
  parent_in b v n e = in_of v (c.from b) (omega (arith, e, t.born_within b n)) (t.stood b v n e)

  -- a bucket that another came from stands in no later version
  pub gone : (b v u : ℕ) → c.named b ≡ true → c.born b ≡ v + 1 → v < u → u ≤ c.dir_top →
      In (c.from b) (c.dir_at u).entries → ⊥
  gone b v u n e less o i = (let at = names_of u (c.from b) o i in t.gone b v u at.0 n e less o at.1 at.2)

  -- and it was the bucket of each of the other's keys
  pub parent_leads : (v : ℕ) (key : Key) → v < c.dir_top → lead setup c (v + 1) key ≢ lead setup c v key →
      c.from (lead setup c (v + 1) key) ≡ lead setup c v key
  parent_leads = t.parent_leads

  -- so rows and buckets descend as the book needs it
  pub descends : FromWords.Descends setup c bases
  descends = record {
    bases = t.bases;
    opening = t.opening;
    parent = λ b v n e. (let x = t.comes b v n e in
        record {
          old = c.from b;
          named = t.there b v n e;
          shallow = x.shallow;
          base = x.base;
          led = parent_in b v n e;
        });
    dir_bases = t.dir_bases;
    dir_first = t.dir_first;
    entries = λ v b o i. (let at = names_of v b o i in (
      subst (λ x. c.named x ≡ true) at.2 (s.leads.every v at.0 o at.1),
      subst (λ x. c.born x ≤ v) at.2 (t.entries v at.0 o at.1),
    ));
    born_within = t.born_within;
    present = λ b n. in_of (c.born b) b (t.born_within b n) (t.present b n);
    newcomers = λ v b o i. (let at = names_of (v + 1) b (omega (arith, o)) i in elim (t.newcomers v at.0 o at.1) [
      | inl n ↦ inl (in_of v b (omega (arith, o)) (subst (Names (c.dir_at v)) at.2 n))
      | inr e ↦ inr (subst (λ x. c.born x ≡ v + 1) at.2 e)
    ]);
  }
