-- Where the directories lead, as the order needs it.
use Rattle.std.proofs.Common.{◌≡◌, ℕ, ◌+◌, ◌/◌, ◌^◌, ◌<◌, ◌≤◌, get_or, sym, ap, ◌∙◌, subst, arith, shr-shr}
use Rattle.std.specs.Prelude.{◌-◌}
use Rattle.hash_bits.specs.Prefix.{first_bits}
use Rattle.plain_map.specs.declared.keys.Key.{Key}
use Rattle.plain_map.specs.Keys.{hash_of_key}
use Rattle.bucket_states.specs.Items.{prefix_of}
use Rattle.table_model.specs.Setup.{Setup, rules_of}
use Rattle.table_model.specs.Directories.{bucket_of}
use Rattle.run_invariant.proofs.Invariant.{Common, Shared, bits}
use Rattle.run_invariant.proofs.Loads.{bits_below}
use Rattle.placing_laws.proofs.Story.{Story, Suits, Leading}
use Rattle.closed_laws.proofs.FromWords.{Bases, Descends}
use Rattle.list_laws.proofs.Places.{place_in}

-- fewer first bits
pub bits_fewer : (setup : Setup) (many few : ℕ) (key : Key) → few ≤ many → many ≤ setup.shape.settings.depth →
    bits setup many key / 2 ^ (many - few) ≡ bits setup few key
unfolding prefix_of first_bits
bits_fewer setup many few key less most =
    let h = hash_of_key setup.hashing key in
    let within : many ≤ 64 = omega (arith, most) in
    let same : (64 - many) + (many - few) ≡ 64 - few = omega (arith, less, within) in
    shr-shr h (64 - many) (many - few) ∙ ap (λ n. h / 2 ^ n) same

module _ (setup : Setup) (c : Common) (s : Shared setup c) (e : Bases setup c) (d : Descends setup c e) where
  -- the history, as the order reads it
  abbrev pub tale : Story
  tale = record {
    dir_top = c.dir_top;
    dir_row = c.dir_row;
    lead = λ v key. bucket_of (rules_of setup) (c.dir_at v) key;
    named =
        c.named;
    pre = c.pre;
    deep = c.deep;
    born = c.born;
    top = c.top;
    row_at = c.row_at;
    items_at = λ b i. (c.state_at b i).items;
  }

  -- the place of a key in a version
  abbrev place_of : ℕ → Key → ℕ
  place_of v key = bits setup (c.dir_at v).depth key

  -- it is one of the version's
  inside : (v : ℕ) (key : Key) → v ≤ c.dir_top → place_of v key < 2 ^ (c.dir_at v).depth
  inside v key o = bits_below setup (c.dir_at v).depth key (s.directories.shallow v o)

  -- a bucket that stands at some place of a directory is that of each key of its prefix
  led_to : (v place : ℕ) (key : Key) → v ≤ c.dir_top → place < 2 ^ (c.dir_at v).depth →
      Suits setup tale (get_or (c.dir_at v).entries place 0) key →
      get_or (c.dir_at v).entries (place_of v key) 0 ≡ get_or (c.dir_at v).entries place 0
  led_to v place key o h suits =
      let b = get_or (c.dir_at v).entries place 0 in
      let stands = s.leads.stands v place o h in
      (stands.places (place_of v key) (inside v key o)).1
      (bits_fewer setup (c.dir_at v).depth (c.deep b) key stands.shallow (s.directories.shallow v o) ∙ suits)

  -- so the buckets lead as the order needs it
  pub leading : Leading setup tale
  leading = record {
    dir_once = s.directories.once;
    row_once = s.rows.once;
    there = s.leads.there;
    for_it = s.leads.for_it;
    led = λ v key other o suits. led_to v (place_of v key) other o (inside v key o) suits;
    born_within = d.born_within;
    born_leads = λ b key n suits.
        let o = d.born_within b n in
        let p = place_in (c.dir_at (c.born b)).entries b (d.present b n) in
        let h : p.0 < 2 ^ (c.dir_at (c.born b)).depth = omega (arith, p.1, s.directories.long (c.born b) o) in
        led_to (c.born b) p.0 key o h (subst (λ x. Suits setup tale x key) (sym p.2) suits) ∙ p.2;
    newborn = λ v key o n. (s.leads.step v key o n).newborn;
  }
