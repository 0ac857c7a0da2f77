-- The opening: its leaves cover all hashes, hold the first pairs, and are deep only where they must be.
use Rattle.std.proofs.Common.{◌≡◌, ℕ, zero, suc, ◌+◌, ◌-◌, ◌*◌, ◌/◌, ◌^◌, ◌<◌, ◌≤◌, ◌⊎◌, inl, inr, Bool, true, false, cond, List, [], ◌∷◌, ◌++◌, length, get_or, Option, Some, None, refl, sym, ap, ◌∙◌, subst, arith}
use Rattle.std.specs.Prelude.{◌==◌}
use Rattle.std.specs.List.{All, AllByRecursion as Each}
use Rattle.std.proofs.lemmas.Bool.{eqb-true, eqb-false}
use Rattle.std.proofs.lemmas.Nat.{pow_pos}
use Rattle.std.proofs.lemmas.List.Elements.{recursion_from_All}
use Rattle.hash_bits.specs.Prefix.{first_bits}
use Rattle.hash_bits.proofs.PrefixLemmas.{first_bits-within}
use Rattle.plain_map.specs.declared.rules.Rules.{Rules}
use Rattle.plain_map.specs.declared.calls.Call.{Call}
use Rattle.plain_map.specs.declared.calls.Reply.{Reply}
use Rattle.plain_map.specs.Calls.{key_in}
use Rattle.bucket_states.specs.Items.{prefix_of, overflows}
use Rattle.bucket_states.specs.Halves.{half}
use Rattle.bucket_states.specs.Values.{IsSmall, IsUpdateReply}
use Rattle.bucket_states.specs.Laws.{IsGood, applied_of}
use Rattle.table_model.specs.Directories.{DirectoryState}
use Rattle.table_model.specs.Leaves.{NewLeaf, is_in, leaf_of, halves, must_split, split_for}
use Rattle.table_model.specs.DirectoryLaws.{StandsIn, takes_hash}
use Rattle.list_laws.proofs.Totals.{total, one_if, many, each-alike, each-both}
use Rattle.bucket_states.proofs.GoodLemmas.{overflow_parts}
use Rattle.change_laws.proofs.Bits.{part}
use Rattle.change_laws.proofs.Parts.{half-good, half-small}
use Rattle.change_laws.proofs.Steps.{has_key, at-each, at-total, splits-none}
use Rattle.change_laws.proofs.Splits.{Apart, Shallow, one-key, splits-each, splits-takes, splits-end, Lacks}
use Rattle.std.specs.Prelude.{map, fold, replicate}
use Rattle.std.specs.List.{range_with_len, IsDistinct}
use Rattle.std.specs.FinMap.{empty, get-empty}
use Rattle.std.proofs.lemmas.List.{append_assoc, length-replicate}
use Rattle.std.proofs.lemmas.List.Elements.{All-from_recursion}
use Rattle.std.proofs.lemmas.List.FromFn.{length-map-range_with_len}
use Rattle.std.proofs.lemmas.List.Sums.{fold-append}
use Rattle.std.proofs.Math.Nat.{pow-suc}
use lib.Pow.{pow-add}
use Rattle.plain_map.specs.declared.keys.Pair.{Pair}
use Rattle.plain_map.specs.declared.leaves.Leaf.{Leaf}
use Rattle.plain_map.specs.Keys.{held_in, key_cmp}
use Rattle.plain_map.specs.PlainObject.{Sessions, brought}
use Rattle.bucket_states.specs.Items.{items_with}
use Rattle.bucket_states.specs.Parts.{HoldsPart}
use Rattle.table_model.specs.Leaves.{split}
use Rattle.table_model.specs.Opening.{empty_leaf, empty_leaves, insert_of, with_pair, opening_leaves, opening_directory}
use Rattle.table_model.specs.OpeningLaws.{CanOpen, place_of, OpeningOfNone}
use Rattle.table_model.specs.Closed.{FilledByFirst, FilledByCalls, keys_with_prefix, sessions_with}
use Rattle.table_model.specs.OpeningLaws.{IsOpening, OpeningIsRight, OpeningDepthIsOfOne}
use Rattle.list_laws.proofs.Totals.{many-count}
use Rattle.bucket_states.proofs.GoodLemmas.{can_answer}
use Rattle.bucket_states.proofs.ValueLemmas.{with_small}
use Rattle.bucket_states.proofs.LocalLemmas.{brings_alike, brought_elsewhere}
use Rattle.change_laws.proofs.Counts.{keys-of-part}
use Rattle.change_laws.proofs.Parts.{parts_hold_all}
use Rattle.change_laws.proofs.Steps.{splits-one, splits-keep, others-each}
use Rattle.change_laws.proofs.Splits.{split-apart}
use Rattle.change_laws.proofs.Directories.{leaf-stands, got, now-each, now-of-one}
use Rattle.plain_map.specs.Updates.{IsSmallPair}
use Rattle.list_laws.proofs.Truths.{not_both}

-- ---- lists made of a range

module _ {A : Type 0} (g : ℕ → A) where
  -- what holds at each number of a range holds of each that is made of it
  made-each : (P : A → Type 0) (a n : ℕ) → ((i : ℕ) → a ≤ i → i < a + n → P (g i)) → Each P (map g (range_with_len a n))
  made-each P a zero h = tt
  made-each P a (suc n) h = (
    h a (omega arith) (omega arith),
    made-each P (a + 1) n (λ i le lt. h i (omega (arith, le)) (omega (arith, lt))),
  )

  -- a sum of equal numbers over a range
  made-total : (f : A → ℕ) (c a n : ℕ) → ((i : ℕ) → f (g i) ≡ c) → total f (map g (range_with_len a n)) ≡ n * c
  made-total f c a zero h = omega arith
  made-total f c a (suc n) h = (let more : suc n * c ≡ c + n * c = grind arith in
      omega (arith, h a, made-total f c (a + 1) n h, more))

  -- one of the range passes, where each is tested for one number
  made-none : (test : A → Bool) (x a n : ℕ) → ((i : ℕ) → test (g i) ≡ (x == i)) → x < a →
      many test (map g (range_with_len a n)) ≡ 0
  made-none test x a zero h lt = refl
  made-none test x a (suc n) h lt = go (test (g a)) refl (made-none test x (a + 1) n h (omega (arith, lt)))
    where
      go : (b : Bool) → test (g a) ≡ b → many test (map g (range_with_len (a + 1) n)) ≡ 0 →
          cond b 1 0 + many test (map g (range_with_len (a + 1) n)) ≡ 0
      go true e rest = absurd (omega (arith, lt, eqb-true x a (sym (h a) ∙ e)))
      go false e rest = omega (arith, rest)

  -- one of the range passes, where it has the number
  made-one : (test : A → Bool) (x a n : ℕ) → ((i : ℕ) → test (g i) ≡ (x == i)) → a ≤ x → x < a + n →
      many test (map g (range_with_len a n)) ≡ 1
  made-one test x a zero h le lt = absurd (omega (arith, le, lt))
  made-one test x a (suc n) h le lt = go (test (g a)) refl (λ e. made-one test x (a + 1) n h e (omega (arith, lt)))
    where
      go : (b : Bool) → test (g a) ≡ b → (a + 1 ≤ x → many test (map g (range_with_len (a + 1) n)) ≡ 1) →
          cond b 1 0 + many test (map g (range_with_len (a + 1) n)) ≡ 1
      go true e rest = omega (arith, made-none test x (a + 1) n h (omega (arith, eqb-true x a (sym (h a) ∙ e))))
      go false e rest = omega (arith, rest (omega (arith, le, eqb-false x a (sym (h a) ∙ e))))

-- all of a list of one value are that value
same_in : (n q x : ℕ) → get_or (replicate n x) q x ≡ x
same_in zero q x = refl
same_in (suc n) zero x = refl
same_in (suc n) (suc q) x = same_in n q x

-- and so are all of a list of nothing
none_in : (n q : ℕ) → get_or {A = Option Reply} (replicate n None) q None ≡ None
none_in zero q = refl
none_in (suc n) zero = refl
none_in (suc n) (suc q) = none_in n q

-- ---- what is known of the leaves after some of the pairs

abbrev AreSmallPairs : List Pair → Type 0
AreSmallPairs first = All IsSmallPair first

-- one leaf
record Opens (rules : Rules) (seats start : ℕ) (first : List Pair) (now : Sessions) (leaf : NewLeaf) : Type 0 where
  good : IsGood rules seats leaf.bucket
  open_ : leaf.bucket.frozen ≡ false
  from : leaf.from ≡ None
  unused : (seat : ℕ) → applied_of leaf.bucket seat ≡ 0
  small : AreSmallPairs first → IsSmall leaf.bucket
  part : HoldsPart rules leaf.bucket.prefix leaf.bucket.depth leaf.bucket.items now
  deep : start ≤ leaf.bucket.depth
  cause : start < leaf.bucket.depth → FilledByFirst rules first (leaf.bucket.depth - 1) (leaf.bucket.prefix / 2)

-- how many classes the leaf has
abbrev weight : Rules → NewLeaf → ℕ
weight rules leaf = 2 ^ (rules.depth - leaf.bucket.depth)

-- all leaves
record AllOpen (rules : Rules) (seats start : ℕ) (first : List Pair) (now : Sessions) (leaves : List NewLeaf) : Type 0
  where
    each : Each (Opens rules seats start first now) leaves
    cover : (h : ℕ) → h < 2 ^ 64 → many (takes_hash h) leaves ≡ 1
    weighs : total (weight rules) leaves ≡ 2 ^ rules.depth

module _ (rules : Rules) (seats start : ℕ) (first : List Pair) (can : CanOpen rules start first) where
  -- what is known of a leaf, where this is held
  abbrev Open : Sessions → NewLeaf → Type 0
  Open = Opens rules seats start first

  -- and of all leaves
  abbrev Leaves : Sessions → List NewLeaf → Type 0
  Leaves = AllOpen rules seats start first

  -- no two leaves take one hash
  open-apart : (now : Sessions) (leaves : List NewLeaf) → Leaves now leaves → Apart rules leaves
  open-apart now leaves all = record {
    one = λ h small. omega (arith, all.cover h small);
    shallow = each-alike (Open now) (Shallow rules) (λ leaf k. k.good.within) leaves all.each;
  }

  -- ---- the empty leaves

  empty-good : (prefix : ℕ) → prefix < 2 ^ start → IsGood rules seats (empty_leaf seats start prefix).bucket
  unfolding IsDistinct
  empty-good prefix lt = record {
    within = can.within;
    below = lt;
    few = omega arith;
    distinct = tt;
    inside = λ key held e. cc;
    numbers = length-replicate seats 0;
    answers = length-replicate seats None;
    answered = λ seat. (λ e. none_in seats seat, λ e. same_in seats seat 0);
    full = λ e. cc;
  }

  -- an empty leaf is so
  empty-open : (prefix : ℕ) → prefix < 2 ^ start → Open empty (empty_leaf seats start prefix)
  unfolding IsDistinct
  empty-open prefix lt = record {
    good = empty-good prefix lt;
    open_ = refl;
    from = refl;
    unused = λ seat. same_in seats seat 0;
    small = λ _. record {
      values = All-from_recursion IsSmallPair [] tt;
      numbers = λ seat. omega (arith, same_in seats seat 0);
      replies = λ seat. subst IsUpdateReply (sym (none_in seats seat)) tt;
    };
    part = record { distinct = tt; inside = λ key held e. cc; same = λ key e. sym (get-empty key_cmp key) };
    deep = omega arith;
    cause = λ lt. absurd (omega (arith, lt));
  }

  -- and so are all empty leaves
  empty-all : Leaves empty (empty_leaves seats start)
  empty-all = record {
    each = made-each (empty_leaf seats start) (Open empty) 0 (2 ^ start) (λ i le lt. empty-open i (omega (arith, lt)));
    cover = λ h small. made-one (empty_leaf seats start) (takes_hash h) (first_bits h start) 0 (2 ^ start) (λ i. refl)
        (omega arith) (omega (arith, first_bits-within h start small (omega (arith, can.within, can.range.depth))));
    weighs =
        let widths : start + (rules.depth - start) ≡ rules.depth = omega (arith, can.within) in
        made-total (empty_leaf seats start) (weight rules) (2 ^ (rules.depth - start)) 0 (2 ^ start) (λ i. refl)
        ∙ sym (pow-add 2 start (rules.depth - start)) ∙ ap (λ n. 2 ^ n) widths;
  }

  -- ---- the splits for a pair

  module _ (front back : List Pair) (stage : first ≡ front ++ back) (now : Sessions)
      (are : sessions_with rules front ≡ now) where
    -- a part of a full leaf is so
    half-open : (bit : ℕ) (leaf : NewLeaf) → bit < 2 → (rules.items ≤ length leaf.bucket.items)
        × (leaf.bucket.depth < rules.depth) → Open now leaf → Open now (part rules bit leaf)
    unfolding half
    half-open bit leaf small parts k = record {
      good = half-good rules seats bit leaf.bucket can.range small parts.1 k.good;
      open_ = refl;
      from = k.from;
      unused = k.unused;
      small = λ pairs. half-small rules bit leaf.bucket (k.small pairs);
      part = parts_hold_all rules bit leaf.bucket.prefix leaf.bucket.depth now leaf.bucket can.range small parts.1
          k.part;
      deep = omega (arith, k.deep);
      cause = λ lt. record {
        front = front;
        back = back;
        stage = stage;
        full =
            (let up : (2 * leaf.bucket.prefix + bit) / 2 ≡ leaf.bucket.prefix = omega (arith, small) in
            let less : suc leaf.bucket.depth - 1 ≡ leaf.bucket.depth = omega arith in
            ap (λ p. keys_with_prefix rules (suc leaf.bucket.depth - 1) p (sessions_with rules front)) up
            ∙ ap (λ d. keys_with_prefix rules d leaf.bucket.prefix (sessions_with rules front)) less
            ∙ ap (keys_with_prefix rules leaf.bucket.depth leaf.bucket.prefix) are
            ∙ keys-of-part rules leaf.bucket.prefix leaf.bucket.depth leaf.bucket.items now k.part
            ∙ omega (arith, parts.0, k.good.few));
      };
    }

    -- where a split must be, the leaf of the key is below the greatest depth
    below-each : (call : Call) (all leaves : List NewLeaf) → many (has_key rules (key_in call)) leaves ≤ 1 →
        leaf_of rules (key_in call) leaves ≡ leaf_of rules (key_in call) all
        → ((leaf : NewLeaf) → leaf_of rules (key_in call) all ≡ Some leaf → leaf.bucket.depth < rules.depth) →
        Each (λ leaf. is_in rules (key_in call) leaf.bucket ≡ true → leaf.bucket.depth < rules.depth) leaves
    below-each call all [] one same h = tt
    below-each call all (leaf ∷ leaves) one same h =
        go (is_in rules (key_in call) leaf.bucket) refl one same (λ n e. below-each call all leaves n e h)
      where
        go : (b : Bool) → is_in rules (key_in call) leaf.bucket ≡ b →
            cond b 1 0 + many (has_key rules (key_in call)) leaves ≤ 1 →
            cond b (Some leaf) (leaf_of rules (key_in call) leaves) ≡ leaf_of rules (key_in call) all
            → (many (has_key rules (key_in call)) leaves ≤ 1 →
            leaf_of rules (key_in call) leaves ≡ leaf_of rules (key_in call) all →
            Each (λ leaf. is_in rules (key_in call) leaf.bucket ≡ true → leaf.bucket.depth < rules.depth) leaves)
            → (is_in rules (key_in call) leaf.bucket ≡ true → leaf.bucket.depth < rules.depth)
            × Each (λ leaf. is_in rules (key_in call) leaf.bucket ≡ true → leaf.bucket.depth < rules.depth) leaves
        go true e n is rest = (
          λ _. h leaf (sym is),
          others-each rules (key_in call) (λ _. Unit {0}) (λ leaf. is_in rules (key_in call) leaf.bucket ≡ true →
              leaf.bucket.depth < rules.depth) (λ x out _ inside. absurd
              (not_both (is_in rules (key_in call) x.bucket) inside out)) leaves (omega (arith, n)) (all_unit leaves),
        )
          where
            all_unit : (xs : List NewLeaf) → Each (λ _. Unit {0}) xs
            all_unit [] = tt
            all_unit (x ∷ xs) = (tt, all_unit xs)
        go false e n is rest = (
          λ inside. absurd (not_both (is_in rules (key_in call) leaf.bucket) inside e),
          rest (omega (arith, n)) is,
        )

    -- both parts have the classes of the leaf
    half-weighs : (leaf : NewLeaf) → leaf.bucket.depth < rules.depth →
        weight rules (part rules 0 leaf) + (weight rules (part rules 1 leaf) + 0) ≡ weight rules leaf
    unfolding half
    half-weighs leaf below =
        let one_more : suc (rules.depth - suc leaf.bucket.depth) ≡ rules.depth - leaf.bucket.depth =
        omega (arith, below) in
        let doubled : 2 ^ (rules.depth - leaf.bucket.depth) ≡ 2 ^ (rules.depth - suc leaf.bucket.depth) * 2 =
        ap (λ n. 2 ^ n) (sym one_more) ∙ pow-suc 2 (rules.depth - suc leaf.bucket.depth) in
        omega (arith, doubled)

    -- a split keeps the number of classes
    split-weighs : (call : Call) (leaves : List NewLeaf) → must_split rules call leaves ≡ true → Apart rules leaves →
        total (weight rules) (split rules (key_in call) leaves) ≡ total (weight rules) leaves
    unfolding split
    split-weighs call leaves must apart =
        let one = one-key rules can.range (key_in call) leaves apart in
        at-total rules (key_in call) (halves rules) (λ leaf. is_in rules (key_in call) leaf.bucket ≡ true →
        leaf.bucket.depth < rules.depth) (weight rules) leaves
        (λ leaf inside low. half-weighs leaf (low inside))
        (below-each call leaves leaves one refl (λ leaf at. (overflow_parts rules leaf.bucket.depth leaf.bucket.items
        call (splits-one rules call leaves one must leaf at)).1))

    -- all splits for a pair keep what is known
    splits-open : (call : Call) (most : ℕ) (leaves : List NewLeaf) → Leaves now leaves →
        Leaves now (split_for rules call most leaves)
    splits-open call most leaves all =
        let parted = open-apart now leaves all in
        record {
          each = splits-each rules can.range call (Open now) (λ leaf inside o k.
              (let parts = overflow_parts rules leaf.bucket.depth leaf.bucket.items call o in (
                half-open 0 leaf (omega arith) parts k,
                half-open 1 leaf (omega arith) parts k,
              ))) most leaves parted all.each;
          cover = λ h small. splits-takes rules can.range call h most leaves parted ∙ all.cover h small;
          weighs = (splits-keep rules call (λ ls. Apart rules ls
              × (total (weight rules) ls ≡ total (weight rules) leaves)) (λ ls must inv. (
                split-apart rules can.range call ls must inv.0,
                split-weighs call ls must inv.0
                    ∙ inv.1,
              )) most leaves (parted, refl)).1 ∙ all.weighs;
        }

    -- ---- and its place

    module _ (pair : Pair) (small_pair : AreSmallPairs first → IsSmallPair pair) where
      abbrev call : Call
      call = insert_of pair

      abbrev with_it : NewLeaf → NewLeaf
      with_it leaf = record leaf { bucket = record leaf.bucket { items = items_with rules leaf.bucket.items pair } }

      -- what is held with the pair
      abbrev more : Sessions
      more = brought rules now pair.key (held_in pair)

      put-open : (leaf : NewLeaf) → is_in rules pair.key leaf.bucket ≡ true →
          overflows rules leaf.bucket.depth leaf.bucket.items call ≡ false → Open now leaf →
          Open more (with_it leaf)
      put-open leaf inside fits k =
          let alike = brings_alike rules leaf.bucket.prefix leaf.bucket.depth leaf.bucket.items now pair.key pair.value
          (held_in pair) (can_answer rules can.range seats leaf.bucket k.good) k.part
          (eqb-true (prefix_of rules leaf.bucket.depth pair.key) leaf.bucket.prefix inside) fits in
          record {
            good = record {
              within = k.good.within;
              below = k.good.below;
              few = alike.few;
              distinct = alike.part.distinct;
              inside = alike.part.inside;
              numbers = k.good.numbers;
              answers = k.good.answers;
              answered = k.good.answered;
              full = λ e. absurd (not_both leaf.bucket.frozen e k.open_);
            };
            open_ = k.open_;
            from = k.from;
            unused = k.unused;
            small = λ pairs. (let s = k.small pairs in
                record {
                  values = with_small rules leaf.bucket.items s.values pair (small_pair pairs);
                  numbers = s.numbers;
                  replies = s.replies;
                });
            part = alike.part;
            deep = k.deep;
            cause = k.cause;
          }

      pair-open : (leaves : List NewLeaf) → Leaves now leaves → Leaves more (with_pair rules leaves pair)
      pair-open leaves all =
          let ready = split_for rules call rules.depth leaves in
          let walked = splits-open call rules.depth leaves all in
          let parted = open-apart now ready walked in
          let end = splits-end rules can.range call rules.depth rules.depth leaves (omega arith)
          (open-apart now leaves all) (each-alike (Open now) (Lacks rules can.range call rules.depth)
          (λ leaf k is. omega arith) leaves all.each) in
          record {
            each = at-each rules pair.key (λ leaf. with_it leaf ∷ [])
                (λ leaf. Open now leaf × (is_in rules pair.key leaf.bucket ≡ true →
                overflows rules leaf.bucket.depth leaf.bucket.items call ≡ false))
                (Open more) ready ready
                (one-key rules can.range pair.key ready parted) refl
                (λ leaf inside found p. (put-open leaf inside (p.1 inside) p.0, tt))
                (λ leaf outside p. record {
                  good = p.0.good;
                  open_ = p.0.open_;
                  from = p.0.from;
                  unused = p.0.unused;
                  small = p.0.small;
                  part = brought_elsewhere rules leaf.bucket.prefix leaf.bucket.depth leaf.bucket.items now pair.key
                      (held_in pair) p.0.part
                      (eqb-false (prefix_of rules leaf.bucket.depth pair.key) leaf.bucket.prefix outside);
                  deep = p.0.deep;
                  cause = p.0.cause;
                })
                (each-both (Open now) (λ leaf. is_in rules pair.key leaf.bucket ≡ true →
                overflows rules leaf.bucket.depth leaf.bucket.items call ≡ false) ready walked.each (splits-none rules
                call ready end.0));
            cover = λ h small. at-total rules pair.key (λ leaf. with_it leaf ∷ []) (Open now) (one_if (takes_hash h))
                ready (λ leaf e k. omega arith) walked.each ∙ walked.cover h small;
            weighs = at-total rules pair.key (λ leaf. with_it leaf ∷ []) (Open now) (weight rules) ready
                (λ leaf e k. omega arith) walked.each ∙ walked.weighs;
          }

  -- ---- all pairs

  -- what is held after one more pair
  abbrev with_one : Sessions → Pair → Sessions
  with_one sessions pair = brought rules sessions pair.key (held_in pair)

  rest-open : (front rest : List Pair) (now : Sessions) (leaves : List NewLeaf) → first ≡ front ++ rest →
      sessions_with rules front ≡ now → (AreSmallPairs first → Each IsSmallPair rest) →
      Leaves now leaves
      → Leaves (fold (λ sessions pair. brought rules sessions pair.key (held_in pair)) now rest)
      (fold (with_pair rules) leaves rest)
  rest-open front [] now leaves stage are small all = all
  rest-open front (pair ∷ rest) now leaves stage are small all =
      rest-open (front ++ pair ∷ []) rest (with_one now pair) (with_pair rules leaves pair)
      (stage ∙ sym (append_assoc front (pair ∷ []) rest))
      (fold-append (λ sessions pair. brought rules sessions pair.key (held_in pair)) empty front (pair ∷ [])
      ∙ ap (λ m. with_one m pair) are)
      (λ pairs. (small pairs).1)
      (pair-open front (pair ∷ rest) stage now are pair (λ pairs. (small pairs).0) leaves all)

  -- all pairs do
  whole-open : Leaves (sessions_with rules first) (opening_leaves rules seats start first)
  unfolding opening_leaves
  whole-open = rest-open [] first empty (empty_leaves seats start) refl refl
      (λ small. recursion_from_All _ first small) empty-all

  -- ---- the law

  heavy : (leaves : List NewLeaf) → length leaves ≤ total (weight rules) leaves
  heavy [] = omega arith
  heavy (leaf ∷ leaves) = (let some : 0 < 2 ^ (rules.depth - leaf.bucket.depth) = pow_pos
      (rules.depth - leaf.bucket.depth) in omega (arith, heavy leaves, some))

  -- what holds of the place of each leaf holds of each place
  places-each : (P : Leaf → Type 0) (leaves : List NewLeaf) → Each (λ leaf. P (place_of leaf)) leaves →
      Each P (map place_of leaves)
  places-each P [] each = tt
  places-each P (leaf ∷ leaves) each = (each.0, places-each P leaves each.1)

  -- a sum over places is one over leaves
  places-total : (f : Leaf → ℕ) (leaves : List NewLeaf) →
      total f (map place_of leaves) ≡ total (λ leaf. f (place_of leaf)) leaves
  places-total f [] = refl
  places-total f (leaf ∷ leaves) = omega (arith, places-total f leaves)

  -- all that the law says of an opening
  pub is-opening : IsOpening rules seats start first (opening_leaves rules seats start first)
  is-opening =
      let all = whole-open in
      let leaves = opening_leaves rules seats start first in
      let now = sessions_with rules first in
      let parted = open-apart now leaves all in
      record {
        cover = λ h small. sym (many-count (λ (leaf : Leaf). first_bits h leaf.depth == leaf.prefix)
            (map place_of leaves)) ∙ places-total (one_if (λ (leaf : Leaf). first_bits h leaf.depth ==
            leaf.prefix)) leaves ∙ all.cover h small;
        good = All-from_recursion _ _ (each-alike (Open now) (λ leaf. IsGood rules seats leaf.bucket
            × (leaf.bucket.frozen ≡ false) × (leaf.from ≡ None)) (λ leaf k. (k.good, k.open_, k.from)) leaves all.each);
        unused = All-from_recursion _ _ (each-alike (Open now) (λ leaf. (seat : ℕ) → applied_of leaf.bucket seat ≡ 0)
            (λ leaf k. k.unused) leaves all.each);
        small = λ pairs. All-from_recursion _ _ (each-alike (Open now) (λ leaf. IsSmall leaf.bucket)
            (λ leaf k. k.small pairs) leaves all.each);
        holds = All-from_recursion _ _ (each-alike (Open now) (λ leaf. HoldsPart rules leaf.bucket.prefix
            leaf.bucket.depth leaf.bucket.items now) (λ leaf k. k.part) leaves all.each);
        few = omega (arith, heavy leaves, all.weighs);
        stand = λ i. got (λ leaf. StandsIn (opening_directory start leaves) i leaf.bucket) leaves i
            (λ d lt. subst (λ n. StandsIn (opening_directory start leaves) n (get_or leaves i d).bucket) (omega arith)
            (leaf-stands rules can.range (record { depth = start; entries = replicate (2 ^ start) 0 }) can.within 0
            leaves parted.shallow parted.one (λ h small none. absurd (omega (arith, none, all.cover h small))) i d lt));
        deep = All-from_recursion _ _ (each-alike (Open now) (λ leaf. start ≤ leaf.bucket.depth) (λ leaf k. k.deep)
            leaves all.each);
        warranted = All-from_recursion _ _ (places-each (λ leaf. start < leaf.depth →
            FilledByFirst rules first (leaf.depth - 1) (leaf.prefix / 2)
            ⊎ FilledByCalls rules first [] (leaf.depth - 1) (leaf.prefix / 2)) leaves
            (each-alike (Open now) (λ leaf. start < leaf.bucket.depth →
            FilledByFirst rules first (leaf.bucket.depth - 1) (leaf.bucket.prefix / 2)
            ⊎ FilledByCalls rules first [] (leaf.bucket.depth - 1) (leaf.bucket.prefix / 2)) (λ leaf k lt. inl
            (k.cause lt)) leaves all.each));
      }

-- the law of the opening
pub opening_is_right : OpeningIsRight
opening_is_right rules seats start first can = is-opening rules seats start first can

-- the law of the opening without pairs
pub opening_of_none : OpeningOfNone
unfolding opening_leaves
opening_of_none rules seats start = (
  length-map-range_with_len (empty_leaf seats start) 0 (2 ^ start),
  All-from_recursion _ _ (made-each (empty_leaf seats start) (λ leaf. leaf.bucket.depth ≡ start) 0 (2 ^ start)
      (λ i le lt. refl)),
)

-- each hash has one leaf of the opening, and none of these is too deep
pub opening-covers : (rules : Rules) (seats start : ℕ) (first : List Pair) → CanOpen rules start first → (h : ℕ) →
    h < 2 ^ 64 → many (takes_hash h) (opening_leaves rules seats start first) ≡ 1
opening-covers rules seats start first can h small = (whole-open rules seats start first can).cover h small

-- no two leaves of an opening take one hash
pub opening-apart : (rules : Rules) (seats start : ℕ) (first : List Pair) → CanOpen rules start first →
    Apart rules (opening_leaves rules seats start first)
opening-apart rules seats start first can =
    open-apart rules seats start first can (sessions_with rules first) (opening_leaves rules seats start first)
    (whole-open rules seats start first can)

-- the law of its depth
pub opening_depth_is_of_one : OpeningDepthIsOfOne
opening_depth_is_of_one rules seats start first can =
    let leaves = opening_leaves rules seats start first in
    let parted = opening-apart rules seats start first can in
    let before : DirectoryState = record { depth = start; entries = replicate (2 ^ start) 0 } in
    let each = now-each rules can.range before can.within 0 leaves parted.shallow in
    let deep = (is-opening rules seats start first can).deep in
    elim (now-of-one rules can.range before can.within 0 leaves parted.shallow) [
      | inl e ↦
          let some = some-leaf leaves (opening-covers rules seats start first can 0 (omega arith)) in (
            0,
            some,
            λ d. omega (
              arith,
              e,
              deep 0 d some,
              All-from_recursion (λ leaf. leaf.bucket.depth ≤ (opening_directory start leaves).depth) leaves each 0 d
                  some,
            ),
          )
      | inr r ↦ r
    ]
  where
    some-leaf : (xs : List NewLeaf) → many (takes_hash 0) xs ≡ 1 → 0 < length xs
    some-leaf [] e = absurd (omega (arith, e))
    some-leaf (x ∷ xs) e = omega arith
