-- Each leaf that a directory change makes comes from a split: the prefix with one bit less has more keys than a
-- bucket has room for.
use Rattle.std.proofs.Common.{◌≡◌, ℕ, suc, ◌+◌, ◌-◌, ◌*◌, ◌/◌, ◌<◌, Bool, true, false, cond, List, [], ◌∷◌, get_or, Option, Some, None, refl, sym, ap, ◌∙◌, subst, arith}
use Rattle.std.specs.Prelude.{◌==◌}
use Rattle.std.specs.List.{list_any, AllByRecursion as Each}
use Rattle.std.proofs.lemmas.Bool.{eqb-true}
use Rattle.plain_map.specs.declared.keys.Key.{Key}
use Rattle.plain_map.specs.declared.keys.Pair.{Pair}
use Rattle.plain_map.specs.declared.rules.Rules.{Rules}
use Rattle.plain_map.specs.declared.calls.Reply.{Reply}
use Rattle.plain_map.specs.Calls.{key_in}
use Rattle.bucket_states.specs.declared.ops.Op.{Op}
use Rattle.bucket_states.specs.Items.{prefix_of}
use Rattle.bucket_states.specs.Halves.{half}
use Rattle.bucket_states.specs.Change.{answered}
use Rattle.bucket_states.specs.Laws.{Announces}
use Rattle.bucket_states.proofs.GoodLemmas.{overflow_parts}
use Rattle.table_model.specs.Directories.{DirectoryState, bucket_of}
use Rattle.table_model.specs.Leaves.{NewLeaf, apply, add_leaf}
use Rattle.table_model.specs.DirectoryChange.{LoadedBucket, loaded_of, is_frozen_without, comes_from, with_parts, after_op_in, leaves_after_seat, leaves_after, change_leaves}
use Rattle.table_model.specs.DirectoryLaws.{CanChange}
use Rattle.change_laws.proofs.Bits.{part}
use Rattle.list_laws.proofs.Totals.{each-alike, each-both}
use Rattle.change_laws.proofs.Parts.{kept-small}
use Rattle.change_laws.proofs.Steps.{add-each, at-each}
use Rattle.change_laws.proofs.Splits.{one-key, splits-each}
use Rattle.change_laws.proofs.Walk.{IsLeaf, Walk, apart, frozen-parts, leaves_for, replies_after_seat}
use Rattle.change_laws.proofs.Stages.{split-leaf}
use Rattle.change_laws.proofs.Seats.{whole-walk, ready-walk, seat-walk, start-walk, no_replies, found-l}
use Rattle.bound_laws.proofs.Crowds.{Crowd, KeysIn, CallIn, keys_after, overflow_crowd}

-- what is known of a leaf
abbrev pub FromCrowd : (Key → Type 0) → Rules → NewLeaf → Type 0
FromCrowd C rules leaf = KeysIn C leaf.bucket.items × Crowd C rules (leaf.bucket.depth - 1) (leaf.bucket.prefix / 2)

module _ (C : Key → Type 0) (rules : Rules) (seats : ℕ) (directory : DirectoryState) (loaded : List LoadedBucket)
    (ops : List (Option Op)) (can : CanChange rules seats directory loaded ops)
    -- the announced inserts are of the kind, and so are the keys of what was loaded; a frozen bucket has a crowd
    (calls : (seat : ℕ) (op : Op) → Announces ops seat op → CallIn C op.call)
    (loads : (l : LoadedBucket) → loaded_of loaded l.bucket ≡ Some l → KeysIn C l.state.items
    × (l.state.frozen ≡ true → Crowd C rules l.state.depth l.state.prefix)) where
  abbrev Mine : NewLeaf → Type 0
  Mine = FromCrowd C rules

  -- a part of a bucket with a crowd
  part_mine : (bit : ℕ) (leaf : NewLeaf) → bit < 2 → KeysIn C leaf.bucket.items →
      Crowd C rules leaf.bucket.depth leaf.bucket.prefix → Mine (part rules bit leaf)
  unfolding half
  part_mine bit leaf small keys crowd =
      let depth : suc leaf.bucket.depth - 1 ≡ leaf.bucket.depth = omega arith in
      let prefix : (2 * leaf.bucket.prefix + bit) / 2 ≡ leaf.bucket.prefix = omega (arith, small) in (
        kept-small (λ k. prefix_of rules (suc leaf.bucket.depth) k == 2 * leaf.bucket.prefix + bit)
            (λ (p : Pair). C p.key) leaf.bucket.items keys,
        subst (λ d. Crowd C rules d ((2 * leaf.bucket.prefix + bit) / 2)) (sym depth)
            (subst (Crowd C rules leaf.bucket.depth) (sym prefix) crowd),
      )

  module _ (replies : ℕ → Option Reply) (seat : ℕ) where
    abbrev Leaf : NewLeaf → Type 0
    Leaf = IsLeaf rules seats directory loaded ops replies seat

    abbrev Leaves : List NewLeaf → Type 0
    Leaves = Walk rules seats directory loaded ops replies seat

    module _ (op : Op) (l : LoadedBucket) (says : Announces ops seat op)
        (at : loaded_of loaded (bucket_of rules directory (key_in op.call)) ≡ Some l) (leaves : List NewLeaf)
        (walk : Leaves leaves) where
      found : loaded_of loaded l.bucket ≡ Some l
      found = found-l rules seats directory loaded ops can replies seat op l says at leaves walk

      -- the parts of its bucket
      parts_mine : l.state.frozen ≡ true → Each Mine leaves → Each Mine (with_parts rules l leaves)
      parts_mine frozen each = go (list_any (comes_from l.bucket) leaves)
        where
          whole : NewLeaf
          whole = record { from = Some l.bucket; bucket = l.state }

          go : (b : Bool) →
              Each Mine (cond b leaves
              (add_leaf rules (part rules 1 whole) (add_leaf rules (part rules 0 whole) leaves)))
          go true = each
          go false =
              let keys = (loads l found).0 in
              let crowd = (loads l found).1 frozen in
              add-each rules (part rules 1 whole) Mine (add_leaf rules (part rules 0 whole) leaves)
              (part_mine 1 whole (omega arith) keys crowd)
              (add-each rules (part rules 0 whole) Mine leaves (part_mine 0 whole (omega arith) keys crowd) each)

      module _ (without : is_frozen_without seat op l ≡ true) where
        abbrev whole_leaves : List NewLeaf
        whole_leaves = with_parts rules l leaves

        abbrev ready : List NewLeaf
        ready = leaves_for rules op l leaves

        frozen : l.state.frozen ≡ true
        frozen = (frozen-parts rules seats directory loaded ops can seat op l without).0

        whole_walk : Leaves whole_leaves
        whole_walk = (whole-walk rules seats directory loaded ops can replies seat op l says at leaves walk without).0

        -- the splits for its call: each is of a leaf which the call overflows
        ready_mine : Each Mine leaves → Each Mine ready
        ready_mine each =
            each-alike (λ leaf. Leaf leaf × Mine leaf) Mine (λ leaf p. p.1) ready
            (splits-each rules can.range op.call (λ leaf. Leaf leaf × Mine leaf)
            (λ leaf inside over p.
            let good = p.0.is.good in
            let below = (overflow_parts rules leaf.bucket.depth leaf.bucket.items op.call over).1 in
            let crowd = overflow_crowd C rules leaf.bucket.depth leaf.bucket.prefix leaf.bucket.items op.call
            good.distinct good.inside p.1.0 (calls seat op says)
            (eqb-true (prefix_of rules leaf.bucket.depth (key_in op.call)) leaf.bucket.prefix inside) over in (
              (
                split-leaf rules seats directory loaded ops can replies seat 0 leaf (omega arith) below p.0,
                part_mine 0 leaf (omega arith) p.1.0 crowd,
              ),
              (
                split-leaf rules seats directory loaded ops can replies seat 1 leaf (omega arith) below p.0,
                part_mine 1 leaf (omega arith) p.1.0 crowd,
              ),
            ))
            rules.depth whole_leaves (apart rules seats directory loaded ops can replies seat whole_leaves whole_walk)
            (each-both Leaf Mine whole_leaves whole_walk.each (parts_mine frozen each)))

        -- the answer
        applied_mine : Each Mine leaves → Each Mine (apply rules seat op ready)
        unfolding apply
        applied_mine each =
            at-each rules (key_in op.call) (λ leaf. record leaf { bucket = answered rules leaf.bucket seat op } ∷ [])
            Mine Mine ready ready
            (one-key rules can.range (key_in op.call) ready (apart rules seats directory loaded ops can replies seat
            ready (ready-walk rules seats directory loaded ops can replies seat op l says at leaves walk without)))
            refl
            (λ leaf inside is p. ((keys_after C rules leaf.bucket.items op.call (calls seat op says) p.0, p.1), tt))
            (λ leaf outside p. p) (ready_mine each)

      -- its op, which is taken or not
      op_mine : Each Mine leaves → Each Mine (after_op_in rules seat op leaves (Some l))
      op_mine each = go (is_frozen_without seat op l) refl
        where
          go : (x : Bool) → is_frozen_without seat op l ≡ x →
              Each Mine (cond x (apply rules seat op (leaves_for rules op l leaves)) leaves)
          go true e = applied_mine e each
          go false e = each

    -- one seat, which may have announced nothing
    seat_mine : (o : Option Op) (leaves : List NewLeaf) → get_or ops seat None ≡ o → Leaves leaves → Each Mine leaves →
        Each Mine (leaves_after_seat rules directory loaded seat o leaves)
    seat_mine None leaves is walk each = each
    seat_mine (Some op) leaves is walk each = go (loaded_of loaded (bucket_of rules directory (key_in op.call))) refl
      where
        go : (m : Option LoadedBucket) → loaded_of loaded (bucket_of rules directory (key_in op.call)) ≡ m →
            Each Mine (after_op_in rules seat op leaves m)
        go None e = each
        go (Some l) e = op_mine op l is e leaves walk each

  -- all seats
  rest_mine : (replies : ℕ → Option Reply) (seat : ℕ) (rest : List (Option Op)) (leaves : List NewLeaf) →
      ((j : ℕ) → get_or ops (seat + j) None ≡ get_or rest j None) →
      Walk rules seats directory loaded ops replies seat leaves → Each Mine leaves →
      Each Mine (leaves_after rules directory loaded seat rest leaves)
  rest_mine replies seat [] leaves are walk each = each
  rest_mine replies seat (o ∷ rest) leaves are walk each =
      let here : get_or ops seat None ≡ o = ap (λ k. get_or ops k None) (omega arith) ∙ are 0 in
      let next = (seat-walk rules seats directory loaded ops can replies seat o leaves here walk).0 in
      rest_mine (replies_after_seat rules directory loaded seat o leaves replies) (suc seat) rest
      (leaves_after_seat rules directory loaded seat o leaves)
      (λ j. ap (λ k. get_or ops k None) (omega arith) ∙ are (suc j)) next
      (seat_mine replies seat o leaves here walk each)

  -- so each leaf of the change comes from a crowd
  pub leaves_crowded : Each Mine (change_leaves rules directory loaded ops)
  unfolding change_leaves
  leaves_crowded = rest_mine (no_replies rules seats directory loaded ops can) 0 ops []
      (λ j. ap (λ k. get_or ops k None) (omega arith)) (start-walk rules seats directory loaded ops can) tt
