-- The answer to an op, and all seats one after the other.
use Rattle.std.proofs.Common.{◌≡◌, ℕ, suc, ◌+◌, ◌-◌, ◌*◌, ◌<◌, ◌≤◌, ◌⊎◌, inl, inr, Bool, true, false, cond, List, [], ◌∷◌, length, get_or, Option, Some, None, refl, sym, ap, ◌∙◌, subst, arith}
use Rattle.std.specs.Prelude.{◌==◌, slice_index, IsSomeAnd}
use Rattle.std.specs.Option.{option_map}
use Rattle.std.specs.List.{list_any}
use Rattle.std.proofs.lemmas.Bool.{cases_lt, cases_eq, eqb-true, eq-eqb}
use Rattle.std.proofs.lemmas.List.{get_or-set_same, get_or-set_other}
use Rattle.hash_bits.specs.Prefix.{first_bits}
use Rattle.plain_map.specs.declared.rules.Rules.{Rules}
use Rattle.plain_map.specs.declared.calls.Reply.{Reply}
use Rattle.plain_map.specs.Calls.{key_in}
use Rattle.bucket_states.specs.declared.ops.Op.{Op}
use Rattle.bucket_states.specs.Items.{prefix_of, overflows, reply_in}
use Rattle.bucket_states.specs.Change.{answered}
use Rattle.bucket_states.specs.Laws.{IsUntouched, Announces, applied_of, reply_at}
use Rattle.table_model.specs.Directories.{DirectoryState, bucket_of}
use Rattle.table_model.specs.Leaves.{NewLeaf, is_in, leaf_of, at_leaf, apply, must_split}
use Rattle.table_model.specs.DirectoryChange.{LoadedBucket, loaded_of, is_frozen_without, comes_from, with_parts, after_op_in, leaves_after_seat, leaves_after}
use Rattle.table_model.specs.DirectoryLaws.{CanChange, takes_hash}
use Rattle.list_laws.proofs.Totals.{total, one_if, total-ones, each-alike, each-both}
use Rattle.bucket_states.proofs.GoodLemmas.{took-IsGood}
use Rattle.bucket_states.proofs.ValueLemmas.{took_small}
use Rattle.change_laws.proofs.Steps.{at-each, at-total, at-any, splits-none}
use Rattle.change_laws.proofs.Splits.{one-key, splits-any, splits-end, Lacks}
use Rattle.bucket_states.specs.Laws.{IsFor}
use Rattle.change_laws.proofs.Walk.{Took, IsLeaf, Walk, given, replies_with, leaves_for, replies_in, replies_after_seat, replies_after, loaded-is, loaded-good, leaf-key, leaf-loaded, announced-seat, frozen-parts, apart}
use Rattle.change_laws.proofs.Stages.{parts-walk, splits-walk}
use Rattle.list_laws.proofs.Options.{some_same, none_some}
use Rattle.list_laws.proofs.Truths.{not_both}
use Rattle.std.proofs.Math.Bool.{or-false}

-- a seat before another is not it
pub other-seat : (q seat : ℕ) → q < seat → (q == seat) ≡ false
other-seat q seat lt = go (q == seat) refl
  where
    go : (b : Bool) → (q == seat) ≡ b → b ≡ false
    go true e = absurd (omega (arith, lt, eqb-true q seat e))
    go false e = refl

module _ (rules : Rules) (seats : ℕ) (directory : DirectoryState) (loaded : List LoadedBucket)
    (ops : List (Option Op)) (can : CanChange rules seats directory loaded ops) where
  -- what is known of a leaf at a stage
  abbrev Leaf : (ℕ → Option Reply) → ℕ → NewLeaf → Type 0
  Leaf replies seat = IsLeaf rules seats directory loaded ops replies seat

  -- and of all leaves
  abbrev Leaves : (ℕ → Option Reply) → ℕ → List NewLeaf → Type 0
  Leaves replies seat = Walk rules seats directory loaded ops replies seat

  -- one seat more has been gone through
  later-leaf : (replies now : ℕ → Option Reply) (seat : ℕ) (leaf : NewLeaf) →
      ((q : ℕ) → q < seat → now q ≡ replies q) → (k : Leaf replies seat leaf)
      → ((op : Op) → Announces ops seat op → is_frozen_without seat op k.l ≡ true →
      is_in rules (key_in op.call) leaf.bucket ≡ true → ⊥) → Leaf now (suc seat) leaf
  later-leaf replies now seat leaf same k none = record {
    l = k.l;
    is = k.is;
    each = λ q. elim (k.each q) [
      | inl u ↦ inl u
      | inr t ↦ inr (record {
        before = omega (arith, t.before);
        op = t.op;
        announced = t.announced;
        for_it = t.for_it;
        above = t.above;
        number = t.number;
        reply = t.reply ∙ sym (same q t.before);
      })
    ];
    own = λ q op before says without inside. own q op (cases_lt q seat) before says without inside;
    small = k.small;
  }
    where
      own : (q : ℕ) (op : Op) → (q < seat) ⊎ (seat ≤ q) → q < suc seat → Announces ops q op →
          is_frozen_without q op k.l ≡ true → is_in rules (key_in op.call) leaf.bucket ≡ true
          → (applied_of leaf.bucket q ≡ op.number) × (reply_at leaf.bucket q ≡ now q)
      own q op (inl lt) before says without inside = (let o = k.own q op lt says without inside in
          (o.0, o.1 ∙ sym (same q lt)))
      own q op (inr ge) before says without inside =
          let here : q ≡ seat = omega (arith, ge, before) in
          absurd (none op (subst (λ x. Announces ops x op) here says)
          (subst (λ x. is_frozen_without x op k.l ≡ true) here without) inside)

  -- the seat's op is not taken
  pub skip-walk : (replies : ℕ → Option Reply) (seat : ℕ) (leaves : List NewLeaf) → Leaves replies seat leaves
      → ((op : Op) (l : LoadedBucket) → Announces ops seat op →
      loaded_of loaded (bucket_of rules directory (key_in op.call)) ≡ Some l → is_frozen_without seat op l ≡ true → ⊥)
      → Leaves replies (suc seat) leaves
  skip-walk replies seat leaves walk none = record {
    each = each-alike (Leaf replies seat) (Leaf replies (suc seat))
        (λ leaf k. later-leaf replies replies seat leaf (λ q lt. refl) k
        (λ op says without inside. none op k.l says (ap (loaded_of loaded)
        (leaf-key rules seats directory loaded ops can leaf k.l (key_in op.call) k.is inside)
        ∙ k.is.found) without)) leaves walk.each;
    cover = walk.cover;
    twos = walk.twos;
    done = λ q op l before says at without. done q op l (cases_lt q seat) before says at without;
  }
    where
      done : (q : ℕ) (op : Op) (l : LoadedBucket) → (q < seat) ⊎ (seat ≤ q) → q < suc seat → Announces ops q op →
          loaded_of loaded (bucket_of rules directory (key_in op.call)) ≡ Some l → is_frozen_without q op l ≡ true
          → list_any (comes_from l.bucket) leaves ≡ true
      done q op l (inl lt) before says at without = walk.done q op l lt says at without
      done q op l (inr ge) before says at without =
          let here : q ≡ seat = omega (arith, ge, before) in
          absurd (none op l (subst (λ x. Announces ops x op) here says) at
          (subst (λ x. is_frozen_without x op l ≡ true) here without))

  -- ---- the answer

  module _ (replies : ℕ → Option Reply) (seat : ℕ) (op : Op) (l : LoadedBucket) (says : Announces ops seat op)
      (at : loaded_of loaded (bucket_of rules directory (key_in op.call)) ≡ Some l)
      (without : is_frozen_without seat op l ≡ true) (leaves : List NewLeaf) where
    -- the replies with that of this seat
    abbrev now : ℕ → Option Reply
    now = replies_with rules seat op leaves replies

    -- those of the seats before stay
    now-before : (q : ℕ) → q < seat → now q ≡ replies q
    now-before q lt = ap (λ b. cond b (given rules op leaves) (replies q)) (other-seat q seat lt)

    -- this seat's is what its leaf answers
    now-here : now seat ≡ given rules op leaves
    now-here = ap (λ b. cond b (given rules op leaves) (replies seat)) (eq-eqb seat seat refl)

    -- before the answer the seat has in the leaf what it had in the bucket
    pub not-yet : (leaf : NewLeaf) (k : Leaf replies seat leaf) → IsUntouched k.l.state leaf.bucket seat
    not-yet leaf k = elim (k.each seat) [ inl u ↦ u | inr t ↦ absurd (omega (arith, t.before)) ]

    -- the leaf in which the op is answered
    answer-leaf : (leaf : NewLeaf) → is_in rules (key_in op.call) leaf.bucket ≡ true →
        leaf_of rules (key_in op.call) leaves ≡ Some leaf →
        overflows rules leaf.bucket.depth leaf.bucket.items op.call ≡ false
        → Leaf replies seat leaf → Leaf now (suc seat) (record {
          from = leaf.from;
          bucket = answered rules leaf.bucket seat op;
        })
    answer-leaf leaf inside found fits k = record {
      l = k.l;
      is = record {
        from = k.is.from;
        found = k.is.found;
        was_frozen = k.is.was_frozen;
        good =
            took-IsGood rules can.range seats seat op leaf.bucket k.is.good seat_in k.is.open_ for_it above_here fits;
        open_ = k.is.open_;
        deeper = k.is.deeper;
        prefix = k.is.prefix;
      };
      each = λ q. elim (cases_eq q seat) [
        | inl same ↦ inr (subst (λ x. Took rules directory ops now (suc seat) made k.l x) (sym same)
            (record {
              before = omega arith;
              op = op;
              announced = says;
              for_it = leaf-key rules seats directory loaded ops can leaf k.l (key_in op.call) k.is inside;
              above = above;
              number = number;
              reply = reply;
            }))
        | inr other ↦ elim (k.each q) [
          | inl u ↦ inl (record { applied = number_other q other ∙ u.applied; reply = reply_other q other ∙ u.reply })
          | inr t ↦ inr (record {
            before = omega (arith, t.before);
            op = t.op;
            announced = t.announced;
            for_it = t.for_it;
            above = t.above;
            number = number_other q other ∙ t.number;
            reply = reply_other q other ∙ t.reply ∙ sym (now-before q t.before);
          })
        ]
      ];
      own = λ q o before told wo within. own q o (cases_eq q seat) before told wo within;
      small = λ updates all. took_small rules seat op leaf.bucket long_applied long_replies (updates seat op says).0
          (updates seat op says).1 (k.small updates all);
    }
      where
        made : NewLeaf
        made = record { from = leaf.from; bucket = answered rules leaf.bucket seat op }

        seat_in : seat < seats
        seat_in = announced-seat rules seats directory loaded ops can seat op says

        for_it : IsFor rules leaf.bucket op
        for_it = eqb-true (prefix_of rules leaf.bucket.depth (key_in op.call)) leaf.bucket.prefix inside

        same_l : k.l ≡ l
        same_l = leaf-loaded rules seats directory loaded ops can leaf k.l l (key_in op.call) k.is inside at

        above : applied_of k.l.state seat < op.number
        above = subst (λ (x : LoadedBucket). applied_of x.state seat < op.number) (sym same_l)
            (frozen-parts rules seats directory loaded ops can seat op l without).1

        above_here : applied_of leaf.bucket seat < op.number
        above_here = (let u = not-yet leaf k in omega (arith, above, u.applied))

        long_applied : seat < length leaf.bucket.applied
        long_applied = omega (arith, k.is.good.numbers, seat_in)

        long_replies : seat < length leaf.bucket.replies
        long_replies = omega (arith, k.is.good.answers, seat_in)

        number : applied_of (answered rules leaf.bucket seat op) seat ≡ op.number
        number = get_or-set_same leaf.bucket.applied seat op.number 0 long_applied

        reply : reply_at (answered rules leaf.bucket seat op) seat ≡ now seat
        reply = get_or-set_same leaf.bucket.replies seat (Some (reply_in rules leaf.bucket.items op.call)) None
            long_replies ∙ sym (now-here ∙ ap (option_map (λ own. reply_in rules own.bucket.items op.call)) found)

        number_other : (q : ℕ) → (q ≡ seat → ⊥) →
            applied_of (answered rules leaf.bucket seat op) q ≡ applied_of leaf.bucket q
        number_other q other = get_or-set_other leaf.bucket.applied seat q op.number 0 other

        reply_other : (q : ℕ) → (q ≡ seat → ⊥) →
            reply_at (answered rules leaf.bucket seat op) q ≡ reply_at leaf.bucket q
        reply_other q other = get_or-set_other leaf.bucket.replies seat q _ None other

        own : (q : ℕ) (o : Op) → (q ≡ seat) ⊎ (q ≡ seat → ⊥) → q < suc seat → Announces ops q o →
            is_frozen_without q o k.l ≡ true → is_in rules (key_in o.call) leaf.bucket ≡ true
            → (applied_of (answered rules leaf.bucket seat op) q ≡ o.number)
            × (reply_at (answered rules leaf.bucket seat op) q ≡ now q)
        own q o (inl same) before told wo within =
            let one : op ≡ o = some_same (sym says ∙ subst (λ x. Announces ops x o) same told) in (
              ap (applied_of (answered rules leaf.bucket seat op)) same ∙ number ∙ ap (λ (x : Op). x.number) one,
              subst (λ x. reply_at (answered rules leaf.bucket seat op) x ≡ now x) (sym same) reply,
            )
        own q o (inr other) before told wo within =
            let r = k.own q o (omega (arith, before, other)) told wo within in
            (number_other q other ∙ r.0, reply_other q other ∙ r.1 ∙ sym (now-before q (omega (arith, before, other))))

    -- the answer keeps what is known of all leaves
    pub answer-walk : Leaves replies seat leaves → list_any (comes_from l.bucket) leaves ≡ true →
        must_split rules op.call leaves ≡ false → Leaves now (suc seat) (apply rules seat op leaves)
    unfolding apply
    answer-walk walk there fits = record {
      each = at-each rules (key_in op.call) f (λ leaf. Leaf replies seat leaf
          × (is_in rules (key_in op.call) leaf.bucket ≡ true →
          overflows rules leaf.bucket.depth leaf.bucket.items op.call ≡ false)) (Leaf now (suc seat))
          leaves leaves (one-key rules can.range (key_in op.call) leaves
          (apart rules seats directory loaded ops can replies seat leaves walk)) refl
          (λ leaf inside found p. (answer-leaf leaf inside found (p.1 inside) p.0, tt))
          (λ leaf outside p. later-leaf replies now seat leaf now-before p.0
          (λ o told wo inside. away leaf o outside told inside))
          (each-both (Leaf replies seat) (λ leaf. is_in rules (key_in op.call) leaf.bucket ≡ true →
          overflows rules leaf.bucket.depth leaf.bucket.items op.call ≡ false) leaves walk.each (splits-none rules
          op.call leaves fits));
      cover = λ h small. same_total (one_if (takes_hash h)) (λ leaf. refl) ∙ walk.cover h small
          ∙ ap flag (sym (any (slice_index directory.entries (first_bits h directory.depth))));
      twos = λ b some. (let same = same_total (one_if (comes_from b)) (λ leaf. refl) in
          omega (arith, same, some, walk.twos b));
      done = λ q o m before told found wo. done q o m (cases_lt q seat) before told found wo;
    }
      where
        f : NewLeaf → List NewLeaf
        f leaf = record { from = leaf.from; bucket = answered rules leaf.bucket seat op } ∷ []

        flag : Bool → ℕ
        flag b = cond b 1 0

        same_total : (g : NewLeaf → ℕ) → ((leaf : NewLeaf) →
            g (record { from = leaf.from; bucket = answered rules leaf.bucket seat op }) ≡ g
            leaf) → total g (at_leaf rules (key_in op.call) f leaves) ≡ total g leaves
        same_total g same = at-total rules (key_in op.call) f (Leaf replies seat) g leaves
            (λ leaf e k. omega (arith, same leaf)) walk.each

        any : (b : ℕ) → list_any (comes_from b) (at_leaf rules (key_in op.call) f leaves) ≡ list_any (comes_from b)
            leaves
        any b = at-any rules (key_in op.call) f (comes_from b) (λ leaf. or-false (comes_from b leaf)) leaves

        away : (leaf : NewLeaf) (o : Op) → is_in rules (key_in op.call) leaf.bucket ≡ false → Announces ops seat o →
            is_in rules (key_in o.call) leaf.bucket ≡ true → ⊥
        away leaf o outside told inside =
            let one : o ≡ op = some_same (sym told ∙ says) in
            not_both (is_in rules (key_in op.call) leaf.bucket) (subst (λ (x : Op). is_in rules (key_in x.call)
            leaf.bucket ≡ true) one inside) outside

        done : (q : ℕ) (o : Op) (m : LoadedBucket) → (q < seat) ⊎ (seat ≤ q) → q < suc seat → Announces ops q o →
            loaded_of loaded (bucket_of rules directory (key_in o.call)) ≡ Some m → is_frozen_without q o m ≡ true
            → list_any (comes_from m.bucket) (at_leaf rules (key_in op.call) f leaves) ≡ true
        done q o m (inl lt) before told found wo = any m.bucket ∙ walk.done q o m lt told found wo
        done q o m (inr ge) before told found wo =
            let here : q ≡ seat = omega (arith, ge, before) in
            let one : o ≡ op = some_same (sym (subst (λ x. Announces ops x o) here told) ∙ says) in
            let same : m ≡ l = some_same (sym found
            ∙ ap (λ (x : Op). loaded_of loaded (bucket_of rules directory (key_in x.call))) one ∙ at) in
            any m.bucket ∙ ap (λ (x : LoadedBucket). list_any (comes_from x.bucket) leaves) same ∙ there

  -- ---- one seat

  module _ (replies : ℕ → Option Reply) (seat : ℕ) (op : Op) (l : LoadedBucket) (says : Announces ops seat op)
      (at : loaded_of loaded (bucket_of rules directory (key_in op.call)) ≡ Some l) (leaves : List NewLeaf)
      (walk : Leaves replies seat leaves) where
    -- the leaves with the parts of the bucket
    abbrev whole : List NewLeaf
    whole = with_parts rules l leaves

    -- and split as long as they must be
    abbrev ready : List NewLeaf
    ready = leaves_for rules op l leaves

    -- the bucket of the op was loaded
    pub found-l : loaded_of loaded l.bucket ≡ Some l
    found-l = ap (loaded_of loaded) (loaded-is rules seats directory loaded ops can
        (bucket_of rules directory (key_in op.call)) l at) ∙ at

    module _ (without : is_frozen_without seat op l ≡ true) where
      frozen : l.state.frozen ≡ true
      frozen = (frozen-parts rules seats directory loaded ops can seat op l without).0

      below : l.state.depth < rules.depth
      below = ((loaded-good rules seats directory loaded ops can l.bucket l found-l).full frozen).1

      pub whole-walk : Leaves replies seat whole × (list_any (comes_from l.bucket) whole ≡ true)
          × (length whole ≤ length leaves + 2)
      whole-walk = parts-walk rules seats directory loaded ops can replies seat l found-l frozen leaves walk

      pub ready-walk : Leaves replies seat ready
      ready-walk = splits-walk rules seats directory loaded ops can replies seat op.call rules.depth whole whole-walk.0

      pub ready-from : list_any (comes_from l.bucket) ready ≡ true
      ready-from =
          splits-any rules can.range op.call (comes_from l.bucket) (λ bit leaf. refl) rules.depth whole ∙ whole-walk.1

      pub ready-end : (must_split rules op.call ready ≡ false) × (length ready ≤ length whole + (rules.depth - 1))
      ready-end =
          splits-end rules can.range op.call rules.depth (rules.depth - 1) whole (omega arith)
          (apart rules seats directory loaded ops can replies seat whole whole-walk.0)
          (each-alike (Leaf replies seat) (Lacks rules can.range op.call (rules.depth - 1))
          (λ leaf k is. omega (arith, k.is.deeper)) whole whole-walk.0.each)

      taken-walk : Leaves (replies_with rules seat op ready replies) (suc seat) (apply rules seat op ready)
      taken-walk = answer-walk replies seat op l says at without ready ready-walk ready-from ready-end.0

      taken-long : length (apply rules seat op ready) ≤ length leaves + (rules.depth + 1)
      unfolding apply
      taken-long =
          let same = at-total rules (key_in op.call) (λ leaf. record leaf
          { bucket = answered rules leaf.bucket seat op } ∷ []) (Leaf replies seat) (λ _. 1) ready (λ leaf e k.
          refl) ready-walk.each in
          omega (
            arith,
            same,
            total-ones ready,
            total-ones (at_leaf rules (key_in op.call) (λ leaf. record leaf
                { bucket = answered rules leaf.bucket seat op } ∷ []) ready),
            ready-end.1,
            whole-walk.2,
            below,
          )

    -- one op keeps what is known
    pub op-walk : Leaves (replies_in rules seat op leaves replies (Some l)) (suc seat)
        (after_op_in rules seat op leaves (Some l))
        × (length (after_op_in rules seat op leaves (Some l)) ≤ length leaves + (rules.depth + 1))
    op-walk = go (is_frozen_without seat op l) refl
      where
        go : (x : Bool) → is_frozen_without seat op l ≡ x →
            Leaves (cond x (replies_with rules seat op ready replies) replies) (suc seat)
            (cond x (apply rules seat op ready) leaves)
            × (length (cond x (apply rules seat op ready) leaves) ≤ length leaves + (rules.depth + 1))
        go true e = (taken-walk e, taken-long e)
        go false e = (
          skip-walk replies seat leaves walk (λ o m told found wo. not_both
              (is_frozen_without seat op l) (same o m told found wo) e),
          omega arith,
        )
          where
            same : (o : Op) (m : LoadedBucket) → Announces ops seat o →
                loaded_of loaded (bucket_of rules directory (key_in o.call)) ≡ Some m →
                is_frozen_without seat o m ≡ true → is_frozen_without seat op l ≡ true
            same o m told found wo =
                let one : o ≡ op = some_same (sym told ∙ says) in
                let two : m ≡ l = some_same (sym found
                ∙ ap (λ (x : Op). loaded_of loaded (bucket_of rules directory (key_in x.call))) one ∙ at) in
                subst (λ x. is_frozen_without seat x l ≡ true) one (subst (λ x. is_frozen_without seat o x ≡ true) two
                wo)

  -- one seat does
  pub seat-walk : (replies : ℕ → Option Reply) (seat : ℕ) (o : Option Op) (leaves : List NewLeaf) →
      get_or ops seat None ≡ o → Leaves replies seat leaves
      → Leaves (replies_after_seat rules directory loaded seat o leaves replies) (suc seat)
      (leaves_after_seat rules directory loaded seat o leaves)
      × (length (leaves_after_seat rules directory loaded seat o leaves) ≤ length leaves + (rules.depth + 1))
  seat-walk replies seat None leaves is walk =
      (skip-walk replies seat leaves walk (λ op l says found wo. none_some (sym is ∙ says)), omega arith)
  seat-walk replies seat (Some op) leaves is walk =
      go (loaded_of loaded (bucket_of rules directory (key_in op.call))) refl
    where
      go : (m : Option LoadedBucket) → loaded_of loaded (bucket_of rules directory (key_in op.call)) ≡ m
          → Leaves (replies_in rules seat op leaves replies m) (suc seat) (after_op_in rules seat op leaves m)
          × (length (after_op_in rules seat op leaves m) ≤ length leaves + (rules.depth + 1))
      go None e = absurd (subst (λ m. IsSomeAnd m (λ _. Unit {0})) e (can.each_op seat op is))
      go (Some l) e = op-walk replies seat op l is e leaves walk

  -- ---- all seats

  pub rest-walk : (replies : ℕ → Option Reply) (seat : ℕ) (rest : List (Option Op)) (leaves : List NewLeaf) →
      ((j : ℕ) → get_or ops (seat + j) None ≡ get_or rest j None) → Leaves replies seat leaves
      → length leaves ≤ seat * (rules.depth + 1)
      → Leaves (replies_after rules directory loaded seat rest leaves replies) (seat + length rest)
      (leaves_after rules directory loaded seat rest leaves)
      × (length (leaves_after rules directory loaded seat rest leaves) ≤ (seat + length rest) * (rules.depth + 1))
  rest-walk replies seat [] leaves are walk few =
      let none : seat + 0 ≡ seat = omega arith in (
        subst (λ n. Leaves replies n leaves) (sym none) walk,
        subst (λ n. length leaves ≤ n * (rules.depth + 1)) (sym none) few,
      )
  rest-walk replies seat (o ∷ rest) leaves are walk few =
      let here : get_or ops seat None ≡ o = ap (λ k. get_or ops k None) (omega arith) ∙ are 0 in
      let one = seat-walk replies seat o leaves here walk in
      let next : suc seat + length rest ≡ seat + suc (length rest) = omega arith in
      let now = leaves_after_seat rules directory loaded seat o leaves in
      let got = replies_after_seat rules directory loaded seat o leaves replies in
      let more : suc seat * (rules.depth + 1) ≡ seat * (rules.depth + 1) + (rules.depth + 1) = grind arith in
      let all = rest-walk got (suc seat) rest now (λ j. ap (λ k. get_or ops k None) (omega arith) ∙ are (suc j)) one.0
      (omega (arith, few, one.1, more)) in (
        subst (λ n. Leaves (replies_after rules directory loaded (suc seat) rest now got) n
            (leaves_after rules directory loaded (suc seat) rest now)) next all.0,
        subst (λ n. length (leaves_after rules directory loaded (suc seat) rest now) ≤ n * (rules.depth + 1)) next
            all.1,
      )

  -- no seat has a reply yet
  abbrev pub no_replies : ℕ → Option Reply
  no_replies q = None

  -- no leaves are a start
  pub start-walk : Leaves no_replies 0 []
  start-walk = record {
    each = tt;
    cover = λ h small. refl;
    twos = λ b some. absurd (omega (arith, some));
    done = λ q op l before says at without. absurd (omega (arith, before));
  }

  -- the replies in the end
  abbrev pub all_replies : ℕ → Option Reply
  all_replies = replies_after rules directory loaded 0 ops [] no_replies

  -- what is known of the leaves in the end, and how many there are
  pub whole-change : Leaves all_replies seats (leaves_after rules directory loaded 0 ops [])
      × (length (leaves_after rules directory loaded 0 ops []) ≤ seats * (rules.depth + 1))
  whole-change =
      let all =
      rest-walk no_replies 0 ops [] (λ j. ap (λ k. get_or ops k None) (omega arith)) start-walk (omega arith) in
      let count : 0 + length ops ≡ seats = omega (arith, can.each_seat) in (
        subst (λ n. Leaves all_replies n (leaves_after rules directory loaded 0 ops [])) count all.0,
        subst (λ n. length (leaves_after rules directory loaded 0 ops []) ≤ n * (rules.depth + 1)) count all.1,
      )
