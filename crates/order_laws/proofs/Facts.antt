-- What follows at one moment: where keys are led, which bucket a bucket comes from, and that a call whose number is
-- about to be new has no place yet, while all that it has to stand after has one.
use Rattle.std.proofs.Common.{◌≡◌, ◌≢◌, ℕ, ◌+◌, ◌-◌, ◌<◌, ◌≤◌, ◌⊎◌, true, false, length, get_or, Option, Some, None, true≢false, inl, inr, refl, sym, ap, ◌∙◌, subst, arith}
use Rattle.std.proofs.lemmas.Bool.{cases_lt}
use Rattle.plain_map.specs.declared.keys.Key.{Key}
use Rattle.bucket_states.specs.declared.ops.Op.{Op}
use Rattle.bucket_states.specs.States.{BucketState}
use Rattle.table_model.specs.Setup.{Setup, seats_of, rules_of}
use Rattle.table_model.specs.DirectoryChange.{LoadedBucket, is_bucket}
use Rattle.plain_map.specs.Calls.{is_update}
use Rattle.table_model.specs.DirectoryLaws.{IsLeafOf}
use Rattle.change_laws.proofs.Weak.{leaves_are_good}
use Rattle.run_invariant.proofs.Invariant.{Common, Shared, lead, last, bits}
use Rattle.run_invariant.proofs.Change.{no_leaf}
use Rattle.run_invariant.proofs.Histories.{changed_between}
use Rattle.run_invariant.proofs.Loads.{bits_below}
use Rattle.run_laws.proofs.Won.{all_found}
use Rattle.closed_laws.proofs.Leadings.{bits_fewer}
use Rattle.closed_laws.proofs.Units.{NewAt}
use Rattle.order_laws.proofs.Tale.{Past, Tale, tally, look_at, StandsAfter, IsAnnounced, IsLoadedAt, leaves_of, Told}
use Rattle.list_laws.proofs.Options.{some_same}

-- a bucket to which a version leads is that of each key of its prefix
pub led : (setup : Setup) (c : Common) → Shared setup c → (v : ℕ) (key other : Key) → v ≤ c.dir_top →
    bits setup (c.deep (lead setup c v key)) other ≡ c.pre (lead setup c v key) →
    lead setup c v other ≡ lead setup c v key
led setup c s v key other o suits =
    let depth = (c.dir_at v).depth in
    let shallow = s.directories.shallow v o in
    let stands = s.leads.stands v (bits setup depth key) o (bits_below setup depth key shallow) in
    (stands.places (bits setup depth other) (bits_below setup depth other shallow)).1
    (bits_fewer setup depth (c.deep (lead setup c v key)) other stands.shallow shallow ∙ suits)

-- a bucket that is not frozen and to which some version leads is the one in use of each key of its prefix
pub open_leads : (setup : Setup) (c : Common) → Shared setup c → (v b : ℕ) (key other : Key) → v ≤ c.dir_top →
    lead setup c v key ≡ b → (last c b).frozen ≡ false → bits setup (c.deep b) other ≡ c.pre b →
    lead setup c c.dir_top other ≡ b
open_leads setup c s v b key other o is open_ suits =
    elim (same_bucket (lead setup c c.dir_top key) (lead setup c v key)) [
      | inl e ↦ let now = e ∙ is in led setup c s c.dir_top key other (omega arith)
          (subst (λ x. bits setup (c.deep x) other ≡ c.pre x) (sym now) suits) ∙ now
      | inr n ↦ absurd (let r = changed_between setup c s key v c.dir_top o n in
          let step = s.leads.step r.0 key r.2 (λ x. r.4 (x ∙ r.3)) in
          true≢false (sym step.frozen ∙ ap (λ x. (last c x).frozen) (r.3 ∙ is) ∙ open_))
    ]
  where
    same_bucket : (a b : ℕ) → (a ≡ b) ⊎ (a ≢ b)
    same_bucket a b = grind arith

module _ (setup : Setup) (p : Past) (t : Tale) (told : Told setup p t) where
  -- the leaf that a bucket was, and the loaded bucket that the leaf came from
  pub record Descent (b v : ℕ) : Type 0 where
    pub i : ℕ
    pub inside : i < length (leaves_of setup p t (p.dir_at v) (t.dir_made v))
    pub is : b ≡ (t.dir_made v).fresh + i
    pub loaded : LoadedBucket
    pub leaf : IsLeafOf (rules_of setup) (seats_of setup) (t.dir_made v).loaded
        (get_or (leaves_of setup p t (p.dir_at v) (t.dir_made v)) i no_leaf) loaded
    pub from : loaded.bucket ≡ p.from b
    pub there : IsLoadedAt setup p t (p.dir_at v) loaded

  -- where a later bucket comes from
  pub descent : (b v : ℕ) → p.named b ≡ true → p.born b ≡ v + 1 → Descent b v
  descent b v n e =
      let made = told.versions v (omega (arith, e, told.counts.born_within b n)) in
      let m = t.dir_made v in
      let o = made.only b n e in
      let law = leaves_are_good (rules_of setup) (seats_of setup)
      (p.dir_at v) m.loaded m.ops made.can o.0 no_leaf o.1 in
      let born = made.leaves o.0 no_leaf o.1 in
      record {
        i = o.0;
        inside = o.1;
        is = o.2;
        loaded = law.0;
        leaf = law.1;
        from = some_same (sym law.1.from ∙ born.from) ∙ ap p.from (sym o.2);
        there = all_found (IsLoadedAt setup p t (p.dir_at v))
            (is_bucket law.0.bucket) m.loaded law.0 made.loads law.1.found;
      }

  -- the bucket that it came from is frozen
  pub from_frozen : (b : ℕ) → p.named b ≡ true → 1 ≤ p.born b →
      (p.named (p.from b) ≡ true) × ((p.state_at (p.from b) (p.top (p.from b))).frozen ≡ true)
  from_frozen b n one =
      let d = descent b (p.born b - 1) n (omega (arith, one)) in (
        subst (λ x. p.named x ≡ true) d.from d.there.named,
        subst (λ x. (p.state_at x (p.top x)).frozen ≡ true) d.from
            (ap (λ (x : BucketState). x.frozen) (sym (d.there.last d.leaf.was_frozen).0) ∙ d.leaf.was_frozen),
      )

  -- an announced op is its seat's call
  pub record IsCall (q : ℕ) (op : Op) : Type 0 where
    pub some : 1 ≤ op.number
    pub few : op.number ≤ t.answers q + 1
    pub call_is : t.call_at q op.number ≡ op.call
    pub update : is_update op.call ≡ true

  -- an announced op is its seat's call
  pub is_call : (q : ℕ) (op : Op) → q < seats_of setup → IsAnnounced setup p t q op → IsCall q op
  is_call q op h a = subst (IsCall q) (sym a.2)
      (let o = told.ops q a.0 h a.1 in record { some = o.0; few = o.1; call_is = o.2; update = o.3 })

  -- it has no place while its number is new nowhere
  pub unplaced : (q : ℕ) (op : Op) → q < seats_of setup → IsAnnounced setup p t q op →
      ((b i : ℕ) → NewAt (tally setup p t) b i q op.number → ⊥) → t.clock.call q op.number ≡ None
  unplaced q op h a none = go (t.clock.call q op.number) refl
    where
      go : (o : Option ℕ) → t.clock.call q op.number ≡ o → t.clock.call q op.number ≡ None
      go None e = e
      go (Some y) e = absurd (elim (told.ticks.source q op.number y e) [
        | inl r ↦ none r.0 r.1 r.2
        | inr r ↦ let o = is_call q op h a in
            true≢false (sym o.update ∙ ap is_update (sym o.call_is) ∙ (told.looks q op.number (look_at r.0 r.1) r.2).1)
      ])

  -- what stands before a call that may be the seat's next is answered, so it has a place
  pub ready : (q m s n : ℕ) → q < seats_of setup → m ≤ t.answers q + 1 → StandsAfter t q m s n →
      (y : ℕ) × (t.clock.call s n ≡ Some y)
  ready q m s n h few a = elim a.1 [
    | inl own ↦ told.placed s n (omega (arith, h, own.0)) a.0 (omega (arith, own.1, few, ap t.answers own.0))
    | inr seen ↦ elim (cases_lt s (seats_of setup)) [
      | inl o ↦ told.placed s n o a.0 (omega (arith, seen, told.seen_few q m s))
      | inr o ↦ absurd (omega (arith, a.0, seen, told.seen_none q m s o))
    ]
  ]
