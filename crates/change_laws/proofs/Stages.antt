-- What the three stages of a seat's op keep: the parts of its bucket, the splits for its call, and its answer.
use Rattle.std.proofs.Common.{◌≡◌, ℕ, ◌+◌, ◌-◌, ◌/◌, ◌^◌, ◌<◌, ◌≤◌, inl, inr, Bool, true, false, cond, ◌||◌, List, length, Option, Some, refl, sym, ap, ◌∙◌, arith}
use Rattle.std.specs.Prelude.{◌==◌, slice_index}
use Rattle.std.specs.List.{list_any}
use Rattle.std.proofs.lemmas.Bool.{eqb-true, eqb-false, eq-eqb}
use Rattle.hash_bits.specs.Prefix.{first_bits}
use Rattle.plain_map.specs.declared.keys.Key.{Key}
use Rattle.plain_map.specs.declared.rules.Rules.{Rules}
use Rattle.plain_map.specs.declared.calls.Call.{Call}
use Rattle.plain_map.specs.declared.calls.Reply.{Reply}
use Rattle.plain_map.specs.Calls.{key_in}
use Rattle.bucket_states.specs.declared.ops.Op.{Op}
use Rattle.bucket_states.specs.Items.{prefix_of}
use Rattle.bucket_states.specs.Halves.{half}
use Rattle.bucket_states.specs.Laws.{IsGood}
use Rattle.table_model.specs.Directories.{DirectoryState, bucket_of}
use Rattle.table_model.specs.Leaves.{NewLeaf, is_in, split_for, add_leaf}
use Rattle.table_model.specs.DirectoryChange.{LoadedBucket, loaded_of, comes_from, with_parts}
use Rattle.table_model.specs.DirectoryLaws.{CanChange, takes_hash}
use Rattle.table_model.specs.DirectoryLaws.{IsLeafOf}
use Rattle.list_laws.proofs.Totals.{total, one_if, many, total-ones, any_some, some_any}
use Rattle.bucket_states.proofs.GoodLemmas.{overflow_parts}
use Rattle.change_laws.proofs.Bits.{part, part-takes, part-in, part-goes_on, hash_in, hash_in-small}
use Rattle.change_laws.proofs.Parts.{half-good, half-small}
use Rattle.change_laws.proofs.Steps.{add-each, add-total, add-any}
use Rattle.change_laws.proofs.Splits.{splits-each, splits-takes, splits-any, splits-more}
use Rattle.change_laws.proofs.Walk.{Took, IsLeaf, Walk, loaded-good, loaded-stands, loaded-small, stands-hash, apart}
use Rattle.list_laws.proofs.Truths.{not_both}

-- one for what is so
abbrev flag : Bool → ℕ
flag b = cond b 1 0

module _ (rules : Rules) (seats : ℕ) (directory : DirectoryState) (loaded : List LoadedBucket)
    (ops : List (Option Op)) (can : CanChange rules seats directory loaded ops) where
  -- a part of a leaf or of a bucket that is split
  half-leaf-of : (bit : ℕ) (leaf : NewLeaf) (l : LoadedBucket) → bit < 2 → leaf.bucket.depth < rules.depth →
      leaf.from ≡ Some l.bucket → loaded_of loaded l.bucket ≡ Some l → l.state.frozen ≡ true
      → IsGood rules seats leaf.bucket → l.state.depth ≤ leaf.bucket.depth →
      leaf.bucket.prefix / 2 ^ (leaf.bucket.depth - l.state.depth) ≡ l.state.prefix
      → IsLeafOf rules seats loaded (part rules bit leaf) l
  unfolding half
  half-leaf-of bit leaf l small below from found frozen good deep prefix = record {
    from = from;
    found = found;
    was_frozen = frozen;
    good = half-good rules seats bit leaf.bucket can.range small below good;
    open_ = refl;
    deeper = omega (arith, deep);
    prefix = part-goes_on leaf.bucket.prefix bit leaf.bucket.depth l.state.depth small deep ∙ prefix;
  }

  module _ (replies : ℕ → Option Reply) (seat : ℕ) where
    -- what is known of a leaf at this stage
    abbrev Leaf : NewLeaf → Type 0
    Leaf = IsLeaf rules seats directory loaded ops replies seat

    -- and of all leaves
    abbrev Leaves : List NewLeaf → Type 0
    Leaves = Walk rules seats directory loaded ops replies seat

    -- ---- the parts of the op's bucket

    module _ (l : LoadedBucket) (found : loaded_of loaded l.bucket ≡ Some l) (frozen : l.state.frozen ≡ true)
        (leaves : List NewLeaf) (walk : Leaves leaves) where
      abbrev whole : NewLeaf
      whole = record { from = Some l.bucket; bucket = l.state }

      abbrev added : List NewLeaf
      added = add_leaf rules (part rules 1 whole) (add_leaf rules (part rules 0 whole) leaves)

      below : l.state.depth < rules.depth
      below = ((loaded-good rules seats directory loaded ops can l.bucket l found).full frozen).1

      whole-key : (key : Key) → is_in rules key l.state ≡ true → bucket_of rules directory key ≡ l.bucket
      unfolding prefix_of
      whole-key key e =
          (stands-hash rules seats directory loaded ops can l.bucket l.state (hash_in rules key)
          (loaded-stands rules seats directory loaded ops can l.bucket l found) (hash_in-small rules key)).1
          (eqb-true (first_bits (hash_in rules key) l.state.depth) l.state.prefix e)

      part-leaf : list_any (comes_from l.bucket) leaves ≡ false → (bit : ℕ) → bit < 2 → Leaf (part rules bit whole)
      unfolding half
      part-leaf new bit small = record {
        l = l;
        is = half-leaf-of bit whole l small below refl found frozen
            (loaded-good rules seats directory loaded ops can l.bucket l found) (omega arith)
            (let none : l.state.depth - l.state.depth ≡ 0 = omega arith in ap (λ n. l.state.prefix / 2 ^ n) none
            ∙ omega arith);
        each = λ q. inl (record { applied = refl; reply = refl });
        own = λ q op before says without inside. absurd (not_both (list_any (comes_from l.bucket) leaves)
            (walk.done q op l before says (ap (loaded_of loaded) (key-is op inside) ∙ found) without) new);
        small = λ updates all. half-small rules bit l.state (loaded-small rules seats directory loaded ops can all
            l.bucket l found);
      }
        where
          key-is : (op : Op) → is_in rules (key_in op.call) (part rules bit whole).bucket ≡ true →
              bucket_of rules directory (key_in op.call) ≡ l.bucket
          key-is op inside = whole-key (key_in op.call) (part-in rules bit (key_in op.call) whole small
              (omega (arith, below, can.range.depth)) inside)

      added-any : (b : ℕ) → list_any (comes_from b) added ≡ ((l.bucket == b) ||
          ((l.bucket == b) || list_any (comes_from b) leaves))
      added-any b = add-any rules (part rules 1 whole) (comes_from b) (add_leaf rules (part rules 0 whole) leaves)
          ∙ ap (λ x. (l.bucket == b) || x) (add-any rules (part rules 0 whole) (comes_from b) leaves)

      added-total : (g : NewLeaf → ℕ) → total g added ≡ g (part rules 1 whole) + (g (part rules 0 whole) + total g
          leaves)
      added-total g = add-total rules (part rules 1 whole) g (add_leaf rules (part rules 0 whole) leaves)
          ∙ ap (λ n. g (part rules 1 whole) + n) (add-total rules (part rules 0 whole) g leaves)

      added-cover : list_any (comes_from l.bucket) leaves ≡ false → (h : ℕ) → h < 2 ^ 64 → (b : ℕ) →
          slice_index directory.entries (first_bits h directory.depth) ≡ b →
          many (takes_hash h) added ≡ flag (list_any (comes_from b) added)
      added-cover new h small b at =
          go (l.bucket == b) refl (takes_hash h whole) refl (ap (λ x. flag (list_any (comes_from x) leaves)) at)
        where
          hashes : (slice_index directory.entries (first_bits h directory.depth) ≡ l.bucket →
              first_bits h l.state.depth ≡ l.state.prefix) × (first_bits h l.state.depth ≡ l.state.prefix →
              slice_index directory.entries (first_bits h directory.depth) ≡ l.bucket)
          hashes = stands-hash rules seats directory loaded ops can l.bucket l.state h
              (loaded-stands rules seats directory loaded ops can l.bucket l found) small

          taken : many (takes_hash h) added ≡ one_if (takes_hash h) whole + many (takes_hash h) leaves
          taken = omega (
            arith,
            added-total (one_if (takes_hash h)),
            part-takes rules h whole (omega (arith, below, can.range.depth)),
          )

          go : (x : Bool) → (l.bucket == b) ≡ x → (t : Bool) → takes_hash h whole ≡ t →
              flag (list_any (comes_from (slice_index directory.entries (first_bits h directory.depth)))
              leaves) ≡ flag (list_any (comes_from b) leaves) →
              many (takes_hash h) added ≡ flag (list_any (comes_from b) added)
          go true e true t c =
              let none : flag (list_any (comes_from b) leaves) ≡ 0 =
              ap (λ x. flag (list_any (comes_from x) leaves)) (sym (eqb-true l.bucket b e)) ∙ ap flag new in
              let one : one_if (takes_hash h) whole ≡ 1 = ap flag t in
              let any : flag (list_any (comes_from b) added) ≡ 1 =
              ap flag (added-any b ∙ ap (λ x. x || (x || list_any (comes_from b) leaves)) e) in
              omega (arith, taken, walk.cover h small, none, one, any, c)
          go true e false t c = absurd (eqb-false (first_bits h l.state.depth) l.state.prefix t
              (hashes.0 (at ∙ sym (eqb-true l.bucket b e))))
          go false e true t c = absurd (eqb-false l.bucket b e (sym (hashes.1
              (eqb-true (first_bits h l.state.depth) l.state.prefix t)) ∙ at))
          go false e false t c =
              let none : one_if (takes_hash h) whole ≡ 0 = ap flag t in
              let any : flag (list_any (comes_from b) added) ≡ flag (list_any (comes_from b) leaves) =
              ap flag (added-any b ∙ ap (λ x. x || (x || list_any (comes_from b) leaves)) e) in
              omega (arith, taken, walk.cover h small, none, any, c)

      added-twos : (b : ℕ) → 1 ≤ many (comes_from b) added → 2 ≤ many (comes_from b) added
      added-twos b some = go (l.bucket == b) refl
        where
          go : (x : Bool) → (l.bucket == b) ≡ x → 2 ≤ many (comes_from b) added
          go true e = (let one : flag (l.bucket == b) ≡ 1 = ap flag e in
              omega (arith, added-total (one_if (comes_from b)), one))
          go false e = (let none : flag (l.bucket == b) ≡ 0 = ap flag e in
              omega (arith, added-total (one_if (comes_from b)), none, some, walk.twos b))

      pub parts-walk : Leaves (with_parts rules l leaves)
          × (list_any (comes_from l.bucket) (with_parts rules l leaves) ≡ true)
          × (length (with_parts rules l leaves) ≤ length leaves + 2)
      parts-walk = go (list_any (comes_from l.bucket) leaves) refl
        where
          here : (x : Bool) → (l.bucket == l.bucket) ≡ x → x ≡ true
          here x e = sym e ∙ eq-eqb l.bucket l.bucket refl

          go : (x : Bool) → list_any (comes_from l.bucket) leaves ≡ x → Leaves (cond x leaves added)
              × (list_any (comes_from l.bucket) (cond x leaves added) ≡ true)
              × (length (cond x leaves added) ≤ length leaves + 2)
          go true e = (walk, e, omega arith)
          go false new = (
            record {
              each = add-each rules (part rules 1 whole) Leaf (add_leaf rules (part rules 0 whole) leaves)
                  (part-leaf new 1 (omega arith)) (add-each rules (part rules 0 whole) Leaf leaves
                  (part-leaf new 0 (omega arith)) walk.each);
              cover = λ h small. added-cover new h small (slice_index directory.entries (first_bits h directory.depth))
                  refl;
              twos = added-twos;
              done = λ q op k before says at without. added-any k.bucket
                  ∙ ap (λ x. (l.bucket == k.bucket) || ((l.bucket == k.bucket) || x))
                  (walk.done q op k before says at without) ∙ top (l.bucket == k.bucket);
            },
            added-any l.bucket ∙ ap (λ x. x || (x || list_any (comes_from l.bucket) leaves)) (eq-eqb l.bucket
                l.bucket refl),
            omega (arith, total-ones added, total-ones leaves, added-total (λ _. 1)),
          )
            where
              top : (x : Bool) → (x || (x || true)) ≡ true
              top true = refl
              top false = refl

    -- ---- the splits for its call

    part-took : (bit : ℕ) (leaf : NewLeaf) (l : LoadedBucket) (q : ℕ) →
        Took rules directory ops replies seat leaf l q → Took rules directory ops replies seat (part rules bit leaf) l q
    unfolding half
    part-took bit leaf l q t = record {
      before = t.before;
      op = t.op;
      announced = t.announced;
      for_it = t.for_it;
      above = t.above;
      number = t.number;
      reply = t.reply;
    }

    -- a part of a leaf is as the leaf
    pub split-leaf : (bit : ℕ) (leaf : NewLeaf) → bit < 2 → leaf.bucket.depth < rules.depth → Leaf leaf →
        Leaf (part rules bit leaf)
    unfolding half
    split-leaf bit leaf small below k = record {
      l = k.l;
      is = half-leaf-of bit leaf k.l small below k.is.from k.is.found k.is.was_frozen k.is.good
          (omega (arith, k.is.deeper)) k.is.prefix;
      each = λ q. elim (k.each q) [
        | inl u ↦ inl (record { applied = u.applied; reply = u.reply })
        | inr t ↦
            inr (part-took bit leaf k.l q t)
      ];
      own = λ q op before says without inside. k.own q op before says without
          (part-in rules bit (key_in op.call) leaf small (omega (arith, below, can.range.depth)) inside);
      small = λ updates all. half-small rules bit leaf.bucket (k.small updates all);
    }

    -- the splits keep what is known
    pub splits-walk : (call : Call) (most : ℕ) (leaves : List NewLeaf) → Leaves leaves →
        Leaves (split_for rules call most leaves)
    splits-walk call most leaves walk =
        let ap_ = apart rules seats directory loaded ops can replies seat leaves walk in
        let any : (b : ℕ) → list_any (comes_from b) (split_for rules call most leaves)
        ≡ list_any (comes_from b) leaves =
        λ b. splits-any rules can.range call (comes_from b) (λ bit leaf. refl) most leaves in
        record {
          each = splits-each rules can.range call Leaf (λ leaf e o k. let
              below = (overflow_parts rules leaf.bucket.depth leaf.bucket.items call o).1 in (
                split-leaf 0 leaf (omega arith) below k,
                split-leaf 1 leaf (omega arith) below k,
              )) most leaves ap_ walk.each;
          cover = λ h small. splits-takes rules can.range call h most leaves ap_ ∙ walk.cover h small
              ∙ ap (λ x. cond x 1 0) (sym (any (slice_index directory.entries (first_bits h directory.depth))));
          twos = λ b some.
              let there = some_any (comes_from b) (split_for rules call most leaves) some in
              omega (
                arith,
                splits-more rules can.range call (comes_from b) (λ bit leaf. refl) most leaves,
                walk.twos b (any_some (comes_from b) leaves (sym (any b) ∙ there)),
              );
          done = λ q op k before says at without. any k.bucket ∙ walk.done q op k before says at without;
        }
