-- The leaves of a closed table cover all hashes, each once: a bucket stands at exactly the places that go on from its
-- prefix.
use Rattle.std.proofs.Common.{◌≡◌, ℕ, ◌^◌, ◌<◌, ◌≤◌, Bool, get_or, refl, sym, ap, ◌∙◌, subst, arith, eqb-true, eq-eqb}
use Rattle.std.specs.Prelude.{◌==◌, count_by}
use Rattle.hash_bits.specs.Prefix.{first_bits}
use Rattle.hash_bits.proofs.PrefixLemmas.{first_bits-within}
use Rattle.plain_map.specs.declared.leaves.Leaf.{Leaf}
use Rattle.hash_bits.proofs.FewerBits.{first_bits-fewer}
use Rattle.table_model.specs.Setup.{Setup}
use Rattle.table_model.specs.Directories.{DirectoryState}
use Rattle.table_model.specs.Worlds.{World, world_after}
use Rattle.table_model.specs.Closed.{closed_buckets, closed_leaves, leaf_at, Cover}
use Rattle.table_model.specs.Histories.{LeavesCover}
use Rattle.run_invariant.proofs.Invariant.{Common, Local}
use Rattle.run_laws.proofs.Induction.{Follows}
use Rattle.run_laws.proofs.Opened.{all_holds}
use Rattle.list_laws.proofs.Lists.{In}
use Rattle.closed_laws.proofs.Book.{Book, Written}
use Rattle.closed_laws.proofs.ClosedBuckets.{bucket_in, in_buckets, buckets_once, bucket_named, leaf_is, count_one, count_map}
use Rattle.closed_laws.proofs.FromWords.{Bases, book_of}
use Rattle.closed_laws.proofs.FromWords
use Rattle.closed_laws.proofs.Told.{bases, descends, names_of}
use Rattle.list_laws.proofs.Places.{number_in}

module _ (setup : Setup) (w : World) (c : Common) (locals : ℕ → Local) (f : Follows setup w c locals) where
  -- the bases of the published rows
  abbrev pub base : Bases setup c
  base = bases setup c f.shared f.descent

  -- the history as a book
  abbrev pub book : Book
  book = book_of setup c base

  -- and the words tell it
  pub written : Written setup w.words book
  written = FromWords.written setup w.words c f.shows f.shared base (descends setup c f.shared f.descent)

  -- the directory at the end
  abbrev now : DirectoryState
  now = c.dir_at c.dir_top

  -- the leaf of a bucket in use is its prefix
  pub leaf_here : (b : ℕ) → In b (closed_buckets setup.shape w.words) →
      leaf_at setup.shape w.words b ≡ record { prefix = c.pre b; depth = c.deep b }
  leaf_here b i =
      let n = bucket_named setup w.words book written b i in
      leaf_is setup w.words book written b n (c.pre b) (f.shared.rows.sound b (c.top b) n (omega arith)).prefix_is

  module _ (hash : ℕ) (small : hash < 2 ^ 64) where
    -- the place of the hash in it
    abbrev place : ℕ
    place = first_bits hash now.depth

    -- a directory is at most as deep as a hash is long
    shallow : now.depth ≤ 64
    shallow = omega (arith, f.shared.directories.shallow c.dir_top (omega arith))

    -- so there is such a place
    inside : place < 2 ^ now.depth
    inside = first_bits-within hash now.depth small shallow

    -- the bucket that stands there
    abbrev mine : ℕ
    mine = get_or now.entries place 0

    -- a bucket in use has the hash exactly where it stands at the place of the hash
    has_hash : (b : ℕ) → In b now.entries → (mine ≡ b → first_bits hash (c.deep b) ≡ c.pre b)
        × (first_bits hash (c.deep b) ≡ c.pre b → mine ≡ b)
    has_hash b i =
        let at = names_of setup c f.shared f.descent c.dir_top b (omega arith) i in
        let stands = f.shared.leads.stands c.dir_top at.0 (omega arith) at.1 in
        subst (λ x. (mine ≡ x → first_bits hash (c.deep x) ≡ c.pre x)
        × (first_bits hash (c.deep x) ≡ c.pre x → mine ≡ x)) at.2
        (let fewer = first_bits-fewer hash now.depth (c.deep (get_or now.entries at.0 0)) stands.shallow shallow in
        (λ e. sym fewer ∙ (stands.places place inside).0 e, λ e. (stands.places place inside).1 (fewer ∙ e)))

    -- a leaf has the hash
    abbrev test : Leaf → Bool
    test leaf = first_bits hash leaf.depth == leaf.prefix

    -- exactly one has
    one : count_by test (closed_leaves setup.shape w.words) ≡ 1
    one =
        let there : In mine now.entries = number_in now.entries place
        (omega (arith, inside, f.shared.directories.long c.dir_top (omega arith))) in
        let mine_in = in_buckets setup w.words book written mine there in
        count_map test (leaf_at setup.shape w.words) (closed_buckets setup.shape w.words)
        ∙ count_one (λ b. test (leaf_at setup.shape w.words b)) (closed_buckets setup.shape w.words) mine
        (buckets_once setup w.words book written) mine_in
        (ap test (leaf_here mine mine_in) ∙ eq-eqb (first_bits hash (c.deep mine)) (c.pre mine)
        ((has_hash mine there).0 refl))
        (λ b i e. sym ((has_hash b (bucket_in setup w.words book written b i)).1
        (eqb-true (first_bits hash (c.deep b)) (c.pre b) (ap test (sym (leaf_here b i)) ∙ e))))

  -- so the leaves cover all hashes
  pub covers : Cover (closed_leaves setup.shape w.words)
  covers hash small = one hash small

-- in every run
pub leaves_cover : LeavesCover
leaves_cover setup events run = let a = all_holds setup events run in
    covers setup (world_after setup events) a.common a.locals a.follows
