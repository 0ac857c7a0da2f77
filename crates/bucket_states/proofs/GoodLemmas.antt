-- A good bucket stays good, and its items stay the part of what is held.
use Rattle.std.proofs.Common.{◌≡◌, ℕ, suc, ◌+◌, ◌<◌, ◌≤◌, ◌↔◌, ◌⊎◌, inl, inr, true, false, cond, List, [], ◌∷◌, map, length, Option, Some, None, refl, sym, ap, subst, ◌∙◌, arith}
use Rattle.std.specs.Prelude.{nat_lt, not, ◌&&◌, is_some}
use Rattle.std.proofs.lemmas.List.{get_or-set_same, get_or-set_other}
use Rattle.std.proofs.Math.ListN.{length-set}
use Rattle.std.proofs.lemmas.Bool.{and_parts, ltb-true, ltb-false, not-true, cases_eq}
use Rattle.std.specs.FinMap.{from_entries, get-from_entries}
use Rattle.std.specs.FinMap.Entries.{find}
use Rattle.plain_map.specs.declared.keys.Key.{Key}
use Rattle.plain_map.specs.declared.keys.Pair.{Pair}
use Rattle.plain_map.specs.declared.rules.Rules.{Rules}
use Rattle.plain_map.specs.declared.calls.Call.{Call}
use Rattle.plain_map.specs.declared.calls.Call.TheVariants.{Insert, Remove, Lookup, Tally, Count, Put}
use Rattle.plain_map.specs.Keys.{held_in, key_cmp, entry_of}
use Rattle.plain_map.specs.PlainObject.{InRange, Sessions, map_after}
use Rattle.plain_map.proofs.KeyLemmas.{keys_total}
use Rattle.bucket_states.specs.declared.ops.Op.{Op}
use Rattle.bucket_states.specs.Items.{value_at, has_place, is_too_many, reply_in, items_after, overflows}
use Rattle.bucket_states.specs.States.{BucketState}
use Rattle.bucket_states.specs.Change.{frozen, answered, after_op, after_seats, change}
use Rattle.bucket_states.specs.Parts.{HasDistinctKeys, HasPrefix, HoldsPart, CanAnswer}
use Rattle.bucket_states.specs.Laws.{applied_of, reply_at, IsFor, IsGood, StaysGood, FrozenIsFull, Taken, taken_from, sessions_after_taken, AreAnswered, FoldsAlike}
use Rattle.bucket_states.proofs.KeyTests.{eq_by_cmp-same_key, same_key-equiv}
use Rattle.bucket_states.proofs.LocalLemmas.{local_answers}
use Rattle.bucket_states.proofs.StepLemmas.{Outcome, stayed, skipped, froze, took, outcome}
use Rattle.bucket_states.proofs.WalkLemmas.{KeepsShape-after_seat, due_parts, reply_set, same_prefix_after}
use Rattle.bucket_states.proofs.FoldLemmas.{not_taken, is_taken}

-- ---- the items alone as sessions

value_at-find : (key : Key) (items : List Pair) → value_at key items ≡ find key_cmp key (map entry_of items)
value_at-find key [] = refl
value_at-find key (pair ∷ pairs) =
    ap (λ b. cond b (Some (held_in pair)) (value_at key pairs)) (same_key-equiv.symm pair.key key
    ∙ sym (eq_by_cmp-same_key key pair.key))
    ∙ ap (cond _ (Some (held_in pair))) (value_at-find key pairs)

abbrev pub own_sessions : List Pair → Sessions
own_sessions items = from_entries (map entry_of items)

pub own_part : (rules : Rules) (prefix depth : ℕ) (items : List Pair) → HasDistinctKeys items →
    HasPrefix rules prefix depth items → HoldsPart rules prefix depth items (own_sessions items)
own_part rules prefix depth items distinct inside = record {
  distinct = distinct;
  inside = inside;
  same = λ key there. value_at-find key items ∙ sym (get-from_entries keys_total (map entry_of items) key);
}

-- ---- one op

-- a bucket that overflows has no place, and can be split
too_many_parts : (rules : Rules) (depth : ℕ) (items : List Pair) (key : Key) →
    is_too_many rules depth items key ≡ true → (rules.items ≤ length items) × (depth < rules.depth)
too_many_parts rules depth items key full =
    let parts = and_parts (not (is_some (value_at key items))) (not (has_place rules items) && nat_lt depth rules.depth)
    full in
    let more = and_parts (not (has_place rules items)) (nat_lt depth rules.depth) parts.1 in
    (ltb-false _ _ (not-true _ more.0), ltb-true _ _ more.1)

pub overflow_parts : (rules : Rules) (depth : ℕ) (items : List Pair) (call : Call) →
    overflows rules depth items call ≡ true → (rules.items ≤ length items) × (depth < rules.depth)
unfolding overflows
overflow_parts rules depth items (Insert key value) full = too_many_parts rules depth items key full
overflow_parts rules depth items (Remove key) full = cc
overflow_parts rules depth items (Lookup key) full = cc
overflow_parts rules depth items (Tally key amount) full = cc
overflow_parts rules depth items (Count key value amount) full = too_many_parts rules depth items key full
overflow_parts rules depth items (Put key value) full = too_many_parts rules depth items key full

module _ (rules : Rules) (range : InRange rules) (seats : ℕ) where
  -- a good bucket can be asked
  pub can_answer : (bucket : BucketState) → IsGood rules seats bucket → CanAnswer rules bucket.depth bucket.items
  can_answer bucket good = record { range = range; within = good.within; few = good.few }

  module _ (seat : ℕ) (op : Op) (bucket : BucketState) (good : IsGood rules seats bucket) (inside : seat < seats) where
    froze-IsGood : overflows rules bucket.depth bucket.items op.call ≡ true → IsGood rules seats (frozen bucket)
    froze-IsGood full =
        let parts = overflow_parts rules bucket.depth bucket.items op.call full in
        let few = good.few in
        record {
          within = good.within;
          below = good.below;
          few = good.few;
          distinct = good.distinct;
          inside = good.inside;
          numbers = good.numbers;
          answers = good.answers;
          answered = good.answered;
          full = λ is. (omega arith, parts.1);
        }

    pub took-IsGood : bucket.frozen ≡ false → IsFor rules bucket op → applied_of bucket seat < op.number →
        overflows rules bucket.depth bucket.items op.call ≡ false
        → IsGood rules seats (answered rules bucket seat op)
    took-IsGood live for_it above fits =
        let alike = local_answers rules bucket.prefix bucket.depth bucket.items (own_sessions bucket.items) op.call
        (can_answer bucket good)
        (own_part rules bucket.prefix bucket.depth bucket.items good.distinct good.inside) for_it fits in
        let at : seat < length bucket.applied = omega (arith, good.numbers) in
        let at_too : seat < length bucket.replies = omega (arith, good.answers) in
        record {
          within = good.within;
          below = good.below;
          few = alike.few;
          distinct = alike.part.distinct;
          inside = alike.part.inside;
          numbers = length-set bucket.applied seat op.number ∙ good.numbers;
          answers = length-set bucket.replies seat (Some (reply_in rules bucket.items op.call)) ∙ good.answers;
          answered = λ q. by_seat at at_too q (cases_eq q seat);
          full = λ is. absurd (clash is);
        }
      where
        clash : bucket.frozen ≡ true → ⊥
        clash is = cc

        now : BucketState
        now = answered rules bucket seat op

        by_seat : seat < length bucket.applied → seat < length bucket.replies → (q : ℕ) → (q ≡ seat) ⊎ (q ≡ seat → ⊥) →
            (applied_of now q ≡ 0) ↔ (reply_at now q ≡ None)
        by_seat at at_too q (inl same) =
            subst (λ (k : ℕ). (applied_of now k ≡ 0) ↔ (reply_at now k ≡ None)) (sym same) (own at at_too)
          where
            own : seat < length bucket.applied → seat < length bucket.replies →
                (applied_of now seat ≡ 0) ↔ (reply_at now seat ≡ None)
            own at at_too =
                let number : applied_of now seat ≡ op.number = get_or-set_same bucket.applied seat op.number 0 at in
                let reply : reply_at now seat ≡ Some (reply_in rules bucket.items op.call) =
                get_or-set_same bucket.replies seat _ None at_too in
                (λ none. absurd (omega arith), λ none. cc)
        by_seat at at_too q (inr other) =
            let number : applied_of now q ≡ applied_of bucket q =
            get_or-set_other bucket.applied seat q op.number 0 other in
            let reply : reply_at now q ≡ reply_at bucket q = get_or-set_other bucket.replies seat q _ None other in
            rw (number, reply) (good.answered q)

    pub after_op-IsGood : IsGood rules seats (after_op rules seat op bucket)
    after_op-IsGood = by (outcome rules seat op bucket)
      where
        by : Outcome rules seat op bucket → IsGood rules seats (after_op rules seat op bucket)
        by (stayed is _) = subst (IsGood rules seats) (sym is) good
        by (skipped is _) = subst (IsGood rules seats) (sym is) good
        by (froze is _ _ full) = subst (IsGood rules seats) (sym is) (froze-IsGood full)
        by (took is live due fits) =
            let parts = due_parts rules bucket seat op due in
            subst (IsGood rules seats) (sym is) (took-IsGood live parts.0 parts.1 fits)

  -- ---- all seats

  walk-IsGood : (seat : ℕ) (ops : List (Option Op)) (bucket : BucketState) → IsGood rules seats bucket →
      seat + length ops ≤ seats → IsGood rules seats (after_seats rules seat ops bucket)
  walk-IsGood seat [] bucket good fit = good
  walk-IsGood seat (None ∷ ops) bucket good fit = walk-IsGood (suc seat) ops bucket good (omega arith)
  walk-IsGood seat (Some op ∷ ops) bucket good fit =
      walk-IsGood (suc seat) ops (after_op rules seat op bucket) (after_op-IsGood seat op bucket good (omega arith))
      (omega arith)

  -- items and replies after these ops are those of the plain object
  abbrev AlikeFrom : (prefix depth : ℕ) → Sessions → BucketState → List Taken → Type 0
  AlikeFrom prefix depth sessions now ts =
      HoldsPart rules prefix depth now.items (sessions_after_taken rules sessions ts)
      × AreAnswered rules sessions now ts

  walk-alike : (seat : ℕ) (ops : List (Option Op)) (bucket : BucketState) (sessions : Sessions) →
      IsGood rules seats bucket → seat + length ops ≤ seats
      → HoldsPart rules bucket.prefix bucket.depth bucket.items sessions
      → AlikeFrom bucket.prefix bucket.depth sessions (after_seats rules seat ops bucket)
      (taken_from seat ops bucket (after_seats rules seat ops bucket))
  walk-alike seat [] bucket sessions good fit part = (part, tt)
  walk-alike seat (None ∷ ops) bucket sessions good fit part =
      walk-alike (suc seat) ops bucket sessions good (omega arith) part
  walk-alike seat (Some op ∷ ops) bucket sessions good fit part =
      by (λ then holds. walk-alike (suc seat) ops (after_op rules seat op bucket) then
      (after_op-IsGood seat op bucket good (omega arith)) (omega arith) holds)
      (outcome rules seat op bucket)
    where
      mid : BucketState
      mid = after_op rules seat op bucket

      end : BucketState
      end = after_seats rules (suc seat) ops mid

      Rest : Sessions → Type 0
      Rest then = AlikeFrom mid.prefix mid.depth then end (taken_from (suc seat) ops mid end)

      Here : Sessions → Type 0
      Here then = AlikeFrom bucket.prefix bucket.depth then end (taken_from (suc seat) ops mid end)

      moved : (then : Sessions) → Rest then → Here then
      moved then rest =
          let shape = KeepsShape-after_seat rules seat (Some op) bucket in
          subst (λ (d : ℕ). AlikeFrom bucket.prefix d then end (taken_from (suc seat) ops mid end)) shape.depth
          (subst (λ (p : ℕ). AlikeFrom p mid.depth then end (taken_from (suc seat) ops mid end)) shape.prefix rest)

      back : (then : Sessions) (left : List Pair) → mid.items ≡ left →
          HoldsPart rules bucket.prefix bucket.depth left then → HoldsPart rules mid.prefix mid.depth mid.items then
      back then left is holds =
          let shape = KeepsShape-after_seat rules seat (Some op) bucket in
          rw (shape.prefix, shape.depth, is) holds

      untaken : ((then : Sessions) → HoldsPart rules mid.prefix mid.depth mid.items then → Rest then) →
          applied_of mid seat ≡ applied_of bucket seat → mid.items ≡ bucket.items
          → AlikeFrom bucket.prefix bucket.depth sessions end (taken_from seat (Some op ∷ ops) bucket end)
      untaken onward same items =
          subst (AlikeFrom bucket.prefix bucket.depth sessions end) (sym (not_taken rules seat op ops bucket same))
          (moved sessions (onward sessions (back sessions bucket.items items part)))

      by : ((then : Sessions) → HoldsPart rules mid.prefix mid.depth mid.items then → Rest then) →
          Outcome rules seat op bucket
          → AlikeFrom bucket.prefix bucket.depth sessions end (taken_from seat (Some op ∷ ops) bucket end)
      by onward (stayed is _) = untaken onward (ap (λ b. applied_of b seat) is) (ap (λ b. b.items) is)
      by onward (skipped is _) = untaken onward (ap (λ b. applied_of b seat) is) (ap (λ b. b.items) is)
      by onward (froze is _ _ _) = untaken onward (ap (λ b. applied_of b seat) is) (ap (λ b. b.items) is)
      by onward (took is _ due fits) =
          let parts = due_parts rules bucket seat op due in
          let at : seat < length bucket.applied = omega (arith, good.numbers) in
          let at_too : seat < length bucket.replies = omega (arith, good.answers) in
          let alike = local_answers rules bucket.prefix bucket.depth bucket.items sessions op.call
          (can_answer bucket good) part parts.0 fits in
          let reply = reply_set rules seat op bucket ops at_too is ∙ ap (λ r. Some r) alike.reply in
          let then : Sessions = map_after rules sessions op.call in
          let rest : Here then = moved then
          (onward then (back then (items_after rules bucket.items op.call) (ap (λ b. b.items) is) alike.part)) in
          subst (AlikeFrom bucket.prefix bucket.depth sessions end)
          (sym (is_taken rules seat op ops bucket at parts.1 is)) (rest.0, (reply, rest.1))

-- ---- the laws

pub stays_good : StaysGood
unfolding change
stays_good rules seats ops bucket range good fit = walk-IsGood rules range seats 0 ops bucket good (omega arith)

pub frozen_is_full : FrozenIsFull
frozen_is_full rules seats ops bucket range good fit is =
    let full = (stays_good rules seats ops bucket range good fit).full is in
    (full.0, subst (λ (d : ℕ). d < rules.depth) (same_prefix_after rules ops bucket).1 full.1)

pub folds_alike : FoldsAlike
unfolding change
folds_alike rules seats ops bucket sessions range good fit part =
    walk-alike rules range seats 0 ops bucket sessions good (omega arith) part
