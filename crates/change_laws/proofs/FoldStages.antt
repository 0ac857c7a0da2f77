-- The leaves of a change against the sessions: each leaf holds its part of them, and each depth above it was full.
use Rattle.std.proofs.Common.{◌≡◌, ℕ, suc, ◌-◌, ◌/◌, ◌^◌, ◌<◌, ◌≤◌, ◌⊎◌, inl, inr, Bool, true, false, cond, ◌||◌, List, [], ◌∷◌, ◌++◌, length, Option, Some, refl, sym, ap, ◌∙◌, subst, arith}
use Rattle.std.specs.Prelude.{◌==◌, slice_index}
use Rattle.std.specs.Option.{option_map}
use Rattle.std.specs.List.{list_any, AllByRecursion as Each}
use Rattle.std.proofs.lemmas.Bool.{cases_lt, eqb-true, eqb-false}
use Rattle.hash_bits.specs.Prefix.{first_bits}
use Rattle.plain_map.specs.declared.keys.Key.{Key}
use Rattle.plain_map.specs.declared.keys.Pair.{Pair}
use Rattle.plain_map.specs.declared.rules.Rules.{Rules}
use Rattle.plain_map.specs.declared.calls.Call.{Call}
use Rattle.plain_map.specs.declared.calls.Reply.{Reply}
use Rattle.plain_map.specs.Calls.{key_in}
use Rattle.bucket_states.specs.declared.ops.Op.{Op}
use Rattle.bucket_states.specs.Items.{prefix_of, overflows, reply_in}
use Rattle.bucket_states.specs.Halves.{half}
use Rattle.bucket_states.specs.Change.{answered}
use Rattle.table_model.specs.Directories.{DirectoryState, bucket_of}
use Rattle.table_model.specs.Leaves.{NewLeaf, is_in, at_leaf, apply, must_split, split_for, add_leaf}
use Rattle.table_model.specs.DirectoryChange.{LoadedBucket, loaded_of, comes_from, with_parts}
use Rattle.table_model.specs.DirectoryLaws.{CanChange}
use Rattle.list_laws.proofs.Totals.{each-alike, each-both, found-each}
use Rattle.bucket_states.proofs.GoodLemmas.{overflow_parts}
use Rattle.change_laws.proofs.Bits.{part, part-goes_on, hash_in, hash_in-small, prefix_of-hash}
use Rattle.change_laws.proofs.Steps.{has_key, at-each, at-any, add-each, add-any, splits-none}
use Rattle.change_laws.proofs.Splits.{one-key, splits-each, splits-any}
use Rattle.bucket_states.specs.Parts.{HoldsPart}
use Rattle.bucket_states.specs.Laws.{Taken, sessions_after_taken}
use Rattle.plain_map.specs.PlainObject.{Sessions, reply_of, map_after}
use Rattle.table_model.specs.DirectoryLaws.{WasFull}
use Rattle.table_model.specs.Closed.{keys_with_prefix}
use Rattle.bucket_states.proofs.GoodLemmas.{can_answer}
use Rattle.bucket_states.proofs.LocalLemmas.{local_answers, other_parts_stay}
use Rattle.change_laws.proofs.Counts.{keys-of-part}
use Rattle.change_laws.proofs.Parts.{parts_hold_all}
use Rattle.change_laws.proofs.Walk.{IsLeaf, Walk, given, loaded-is, loaded-good, loaded-stands, stands-hash, apart, key-was}
use Rattle.change_laws.proofs.Stages.{split-leaf}
use Rattle.change_laws.proofs.Weak.{own-leaf}
use Rattle.list_laws.proofs.Options.{some_same}
use Rattle.list_laws.proofs.Truths.{not_both}
use Rattle.std.proofs.Math.Bool.{or-false}

-- one leaf holds its part, and each depth from that of its bucket to its parent's was full
pub record Held (rules : Rules) (sessions : Sessions) (loaded : List LoadedBucket) (ts : List Taken) (now : Sessions)
    (leaf : NewLeaf) : Type 0 where
  pub part : HoldsPart rules leaf.bucket.prefix leaf.bucket.depth leaf.bucket.items now
  pub causes : (l : LoadedBucket) (depth : ℕ) → leaf.from ≡ Some l.bucket → loaded_of loaded l.bucket ≡ Some l →
      l.state.depth ≤ depth → depth < leaf.bucket.depth → WasFull rules sessions ts leaf depth

-- all leaves do, and so does each bucket that is still to be replaced
pub record Fold (rules : Rules) (sessions : Sessions) (loaded : List LoadedBucket) (ts : List Taken) (goes : ℕ → Bool)
    (now : Sessions) (leaves : List NewLeaf) : Type 0 where
  pub each : Each (Held rules sessions loaded ts now) leaves
  pub rest : (l : LoadedBucket) → loaded_of loaded l.bucket ≡ Some l → list_any (comes_from l.bucket) leaves ≡ false →
      goes l.bucket ≡ true → HoldsPart rules l.state.prefix l.state.depth l.state.items now

module _ (rules : Rules) (seats : ℕ) (directory : DirectoryState) (loaded : List LoadedBucket)
    (ops : List (Option Op)) (can : CanChange rules seats directory loaded ops) (sessions : Sessions)
    (ts : List Taken) (goes : ℕ → Bool)
    (replies : ℕ → Option Reply) (seat : ℕ) where
  -- what is known of a leaf at this stage
  abbrev Leaf : NewLeaf → Type 0
  Leaf = IsLeaf rules seats directory loaded ops replies seat

  -- and of all leaves
  abbrev Leaves : List NewLeaf → Type 0
  Leaves = Walk rules seats directory loaded ops replies seat

  -- the leaf holds its part of what is held now
  abbrev Holds : Sessions → NewLeaf → Type 0
  Holds = Held rules sessions loaded ts

  module _ (front back : List Taken) (stage : ts ≡ front ++ back) (now : Sessions)
      (are : sessions_after_taken rules sessions front ≡ now) where
    -- a prefix with as many items as a bucket may have was full
    was-full : (leaf : NewLeaf) (prefix depth : ℕ) (items : List Pair) → HoldsPart rules prefix depth items now →
        length items ≡ rules.items → leaf.bucket.prefix / 2 ^ (leaf.bucket.depth - depth) ≡ prefix →
        WasFull rules sessions ts leaf depth
    was-full leaf prefix depth items part long above = record {
      front = front;
      back = back;
      stage = stage;
      full = ap (λ p. keys_with_prefix rules depth p (sessions_after_taken rules sessions front)) above
          ∙ ap (keys_with_prefix rules depth prefix) are ∙ keys-of-part rules prefix depth items now part ∙ long;
    }

    -- a part of what is full
    half-held : (bit : ℕ) (leaf : NewLeaf) → bit < 2 → leaf.bucket.depth < rules.depth →
        HoldsPart rules leaf.bucket.prefix leaf.bucket.depth leaf.bucket.items now →
        length leaf.bucket.items ≡ rules.items
        → ((l : LoadedBucket) (depth : ℕ) → leaf.from ≡ Some l.bucket → loaded_of loaded l.bucket ≡ Some l →
        l.state.depth ≤ depth → depth < leaf.bucket.depth → WasFull rules sessions ts leaf depth)
        → Holds now (part rules bit leaf)
    unfolding half
    half-held bit leaf small below holds long old = record {
      part = parts_hold_all rules bit leaf.bucket.prefix leaf.bucket.depth now leaf.bucket can.range small below holds;
      causes = λ l depth from found le lt. by l depth from found le lt (cases_lt depth leaf.bucket.depth);
    }
      where
        by : (l : LoadedBucket) (depth : ℕ) → leaf.from ≡ Some l.bucket → loaded_of loaded l.bucket ≡ Some l →
            l.state.depth ≤ depth → depth < suc leaf.bucket.depth → (depth < leaf.bucket.depth)
            ⊎ (leaf.bucket.depth ≤ depth) → WasFull rules sessions ts (part rules bit leaf) depth
        by l depth from found le lt (inl less) =
            let was = old l depth from found le less in
            record {
              front = was.front;
              back = was.back;
              stage = was.stage;
              full = ap (λ p. keys_with_prefix rules depth p (sessions_after_taken rules sessions was.front))
                  (part-goes_on leaf.bucket.prefix bit leaf.bucket.depth depth small (omega (arith, less))) ∙ was.full;
            }
        by l depth from found le lt (inr more) =
            let same : leaf.bucket.depth ≡ depth = omega (arith, lt, more) in
            let none : leaf.bucket.depth - leaf.bucket.depth ≡ 0 = omega arith in
            subst (WasFull rules sessions ts (part rules bit leaf)) same
            (was-full (part rules bit leaf) leaf.bucket.prefix leaf.bucket.depth leaf.bucket.items holds long
            (part-goes_on leaf.bucket.prefix bit leaf.bucket.depth leaf.bucket.depth small (omega arith)
            ∙ ap (λ n. leaf.bucket.prefix / 2 ^ n) none ∙ omega arith))

    module _ (leaves : List NewLeaf) (walk : Leaves leaves) (fold_ : Fold rules sessions loaded ts goes now leaves)
      where
        -- the parts of the op's bucket
        pub parts-fold : (l : LoadedBucket) → loaded_of loaded l.bucket ≡ Some l → l.state.frozen ≡ true →
            goes l.bucket ≡ true → Fold rules sessions loaded ts goes now (with_parts rules l leaves)
        parts-fold l found frozen away = go (list_any (comes_from l.bucket) leaves) refl
          where
            whole : NewLeaf
            whole = record { from = Some l.bucket; bucket = l.state }

            added : List NewLeaf
            added = add_leaf rules (part rules 1 whole) (add_leaf rules (part rules 0 whole) leaves)

            full : (length l.state.items ≡ rules.items) × (l.state.depth < rules.depth)
            full = (loaded-good rules seats directory loaded ops can l.bucket l found).full frozen

            none : (m : LoadedBucket) (depth : ℕ) → Some l.bucket ≡ Some m.bucket → loaded_of loaded m.bucket ≡ Some m →
                m.state.depth ≤ depth → depth < l.state.depth → WasFull rules sessions ts whole depth
            none m depth from at le lt =
                let same : m ≡ l = some_same (sym at ∙ ap (loaded_of loaded) (sym (some_same from)) ∙ found) in
                absurd (omega (arith, le, lt, ap (λ (x : LoadedBucket). x.state.depth) same))

            one : list_any (comes_from l.bucket) leaves ≡ false → (bit : ℕ) → bit < 2 → Holds now (part rules bit whole)
            one new bit small = half-held bit whole small full.1 (fold_.rest l found new away) full.0 none

            any : (b : ℕ) → list_any (comes_from b) added ≡ ((l.bucket == b) ||
                ((l.bucket == b) || list_any (comes_from b) leaves))
            any b = add-any rules (part rules 1 whole) (comes_from b) (add_leaf rules (part rules 0 whole) leaves)
                ∙ ap (λ x. (l.bucket == b) || x) (add-any rules (part rules 0 whole) (comes_from b) leaves)

            last : (x y : Bool) → (x || (x || y)) ≡ false → y ≡ false
            last true y e = cc
            last false y e = e

            go : (x : Bool) → list_any (comes_from l.bucket) leaves ≡ x →
                Fold rules sessions loaded ts goes now (cond x leaves added)
            go true e = fold_
            go false new = record {
              each = add-each rules (part rules 1 whole) (Holds now) (add_leaf rules (part rules 0 whole) leaves)
                  (one new 1 (omega arith)) (add-each rules (part rules 0 whole) (Holds now) leaves
                  (one new 0 (omega arith)) fold_.each);
              rest = λ m at e. fold_.rest m at (last (l.bucket == m.bucket) (list_any (comes_from m.bucket) leaves)
                  (sym (any m.bucket) ∙ e));
            }

        -- the splits for its call
        pub splits-fold : (call : Call) (most : ℕ) →
            Fold rules sessions loaded ts goes now (split_for rules call most leaves)
        splits-fold call most = record {
          each = each-alike (λ leaf. Leaf leaf × Holds now leaf) (Holds now) (λ leaf p. p.1)
              (split_for rules call most leaves)
              (splits-each rules can.range call (λ leaf. Leaf leaf × Holds now leaf) (λ leaf inside o p.
              let parts = overflow_parts rules leaf.bucket.depth leaf.bucket.items call o in (
                both leaf 0 (omega arith) parts p,
                both leaf 1 (omega arith) parts
                    p,
              )) most leaves
              (apart rules seats directory loaded ops can replies seat leaves walk)
              (each-both Leaf (Holds now) leaves walk.each fold_.each));
          rest = λ m at e. fold_.rest m at (sym (splits-any rules can.range call (comes_from m.bucket)
              (λ bit leaf. refl) most leaves) ∙ e);
        }
          where
            both : (leaf : NewLeaf) (bit : ℕ) → bit < 2 → (rules.items ≤ length leaf.bucket.items)
                × (leaf.bucket.depth < rules.depth) → Leaf leaf × Holds now leaf → Leaf (part rules bit leaf)
                × Holds now (part rules bit leaf)
            both leaf bit small parts p = (
              split-leaf rules seats directory loaded ops can replies seat bit leaf small parts.1 p.0,
              half-held bit leaf small parts.1 p.1.part (omega (arith, parts.0, p.0.is.good.few)) p.1.causes,
            )

        -- the answer
        module _ (op : Op) (l : LoadedBucket) (at : loaded_of loaded (bucket_of rules directory (key_in op.call)) ≡ Some
            l) (there : list_any (comes_from l.bucket) leaves ≡ true) (fits : must_split rules op.call
            leaves ≡ false) where
          fitting : Each (λ leaf. (Leaf leaf × Holds now leaf)
              × (is_in rules (key_in op.call) leaf.bucket ≡ true →
              overflows rules leaf.bucket.depth leaf.bucket.items op.call ≡ false)) leaves
          fitting = each-both (λ leaf. Leaf leaf × Holds now leaf)
              (λ leaf. is_in rules (key_in op.call) leaf.bucket ≡ true →
              overflows rules leaf.bucket.depth leaf.bucket.items op.call ≡ false) leaves
              (each-both Leaf (Holds now) leaves walk.each fold_.each) (splits-none rules op.call leaves fits)

          -- the reply is that of the plain object
          pub given-is : given rules op leaves ≡ Some (reply_of rules now op.call)
          given-is =
              let here : bucket_of rules directory (key_in op.call) ≡ l.bucket =
              sym (loaded-is rules seats directory loaded ops can (bucket_of rules directory (key_in op.call)) l at) in
              let own = own-leaf rules seats directory loaded ops can replies seat leaves walk (key_in op.call)
              (ap (λ b. list_any (comes_from b) leaves) here ∙ there) in
              let has = found-each (λ leaf. (Leaf leaf × Holds now leaf)
              × (is_in rules (key_in op.call) leaf.bucket ≡ true →
              overflows rules leaf.bucket.depth leaf.bucket.items op.call ≡ false))
              (has_key rules (key_in op.call)) leaves own.leaf fitting own.at in
              let alike = local_answers rules own.leaf.bucket.prefix own.leaf.bucket.depth own.leaf.bucket.items now
              op.call (can_answer rules can.range seats own.leaf.bucket own.is.is.good) has.0.0.1.part
              (eqb-true (prefix_of rules own.leaf.bucket.depth (key_in op.call)) own.leaf.bucket.prefix own.inside)
              (has.0.1 own.inside) in
              ap (option_map (λ own. reply_in rules own.bucket.items op.call)) own.at ∙ ap (λ r. Some r) alike.reply

          pub answer-fold : Fold rules sessions loaded ts goes (map_after rules now op.call)
              (apply rules seat op leaves)
          unfolding apply
          answer-fold = record {
            each = at-each rules (key_in op.call) f (λ leaf. (Leaf leaf × Holds now leaf)
                × (is_in rules (key_in op.call) leaf.bucket ≡ true →
                overflows rules leaf.bucket.depth leaf.bucket.items op.call ≡ false))
                (Holds (map_after rules now op.call))
                leaves leaves (one-key rules can.range (key_in op.call) leaves
                (apart rules seats directory loaded ops can replies seat leaves walk)) refl
                (λ leaf inside found p. (hit leaf inside p, tt))
                (λ leaf outside p. record {
                  part = other_parts_stay rules leaf.bucket.prefix leaf.bucket.depth
                      leaf.bucket.items now op.call p.0.1.part (eqb-false (prefix_of rules leaf.bucket.depth
                      (key_in op.call)) leaf.bucket.prefix outside);
                  causes = p.0.1.causes;
                })
                fitting;
            rest = λ m found e away. other_parts_stay rules m.state.prefix m.state.depth m.state.items now op.call
                (fold_.rest m found (sym (any m.bucket) ∙ e) away) (outside_of m found (sym (any m.bucket) ∙ e));
          }
            where
              f : NewLeaf → List NewLeaf
              f leaf = record { from = leaf.from; bucket = answered rules leaf.bucket seat op } ∷ []

              hit : (leaf : NewLeaf) → is_in rules (key_in op.call) leaf.bucket ≡ true → (Leaf leaf × Holds now leaf)
                  × (is_in rules (key_in op.call) leaf.bucket ≡ true →
                  overflows rules leaf.bucket.depth leaf.bucket.items op.call ≡ false)
                  → Holds (map_after rules now op.call) (record {
                    from = leaf.from;
                    bucket = answered rules leaf.bucket seat op;
                  })
              hit leaf inside p =
                  let alike = local_answers rules leaf.bucket.prefix leaf.bucket.depth leaf.bucket.items now op.call
                  (can_answer rules can.range seats leaf.bucket p.0.0.is.good) p.0.1.part
                  (eqb-true (prefix_of rules leaf.bucket.depth (key_in op.call)) leaf.bucket.prefix inside) (p.1 inside)
                  in
                  record {
                    part = alike.part;
                    causes = λ m depth from found le lt. same leaf depth
                        (p.0.1.causes m depth from found le lt);
                  }
                where
                  same : (leaf : NewLeaf) (depth : ℕ) → WasFull rules sessions ts leaf depth →
                      WasFull rules sessions ts (record {
                        from = leaf.from;
                        bucket = answered rules leaf.bucket seat op;
                      }) depth
                  same leaf depth was = record {
                    front = was.front;
                    back = was.back;
                    stage = was.stage;
                    full = was.full;
                  }

              any : (b : ℕ) → list_any (comes_from b) (at_leaf rules (key_in op.call) f leaves) ≡ list_any
                  (comes_from b) leaves
              any b = at-any rules (key_in op.call) f (comes_from b) (λ leaf. or-false (comes_from b leaf)) leaves

              outside_of : (m : LoadedBucket) → loaded_of loaded m.bucket ≡ Some m →
                  list_any (comes_from m.bucket) leaves ≡ false →
                  prefix_of rules m.state.depth (key_in op.call) ≡ m.state.prefix → ⊥
              outside_of m found e inside =
                  let here : bucket_of rules directory (key_in op.call) ≡ m.bucket =
                  key-was rules seats directory loaded ops can (key_in op.call) ∙ hashed m found inside in
                  let one : l.bucket ≡ m.bucket =
                  loaded-is rules seats directory loaded ops can (bucket_of rules directory (key_in op.call)) l at
                  ∙ here in
                  not_both (list_any (comes_from m.bucket) leaves) (ap (λ b. list_any (comes_from b) leaves) (sym one)
                  ∙ there) e
                where
                  hashed : (m : LoadedBucket) → loaded_of loaded m.bucket ≡ Some m →
                      prefix_of rules m.state.depth (key_in op.call) ≡ m.state.prefix →
                      slice_index directory.entries (first_bits (hash_in rules (key_in op.call))
                      directory.depth) ≡ m.bucket
                  hashed m found inside = (stands-hash rules seats directory loaded ops can m.bucket m.state
                      (hash_in rules (key_in op.call)) (loaded-stands rules seats directory loaded ops can m.bucket m
                      found) (hash_in-small rules (key_in op.call))).1 (bits m inside)
                    where
                      bits : (m : LoadedBucket) → prefix_of rules m.state.depth (key_in op.call) ≡ m.state.prefix →
                          first_bits (hash_in rules (key_in op.call)) m.state.depth ≡ m.state.prefix
                      bits m inside = sym (prefix-is m.state.depth (key_in op.call)) ∙ inside
                        where
                          prefix-is : (depth : ℕ) (key : Key) →
                              prefix_of rules depth key ≡ first_bits (hash_in rules key) depth
                          prefix-is depth key = prefix_of-hash rules depth key
