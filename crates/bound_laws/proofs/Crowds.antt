-- Many keys with one prefix: more than a bucket has room for. A bucket that freezes, and one that is split, has them.
use Rattle.std.proofs.Common.{◌≡◌, ℕ, suc, ◌+◌, ◌-◌, ◌/◌, ◌^◌, ◌<◌, ◌≤◌, Bool, true, false, cond, ◌||◌, List, [], ◌∷◌, ◌++◌, length, Option, Some, None, refl, sym, ap, ◌∙◌, subst, arith}
use Rattle.std.specs.Prelude.{is_some, not}
use Rattle.std.specs.List.{IsDistinct, list_any, AllByRecursion as Each}
use Rattle.std.proofs.lemmas.Bool.{and_parts, or_right}
use Rattle.std.proofs.lemmas.List.{length-map, length_push}
use Rattle.plain_map.specs.declared.keys.Key.{Key}
use Rattle.plain_map.specs.declared.keys.Pair.{Pair}
use Rattle.plain_map.specs.declared.rules.Rules.{Rules}
use Rattle.plain_map.specs.declared.calls.Call.{Call}
use Rattle.plain_map.specs.declared.calls.Call.TheVariants.{Insert, Remove, Lookup, Tally, Count, Put}
use Rattle.plain_map.specs.Calls.{key_in}
use Rattle.plain_map.specs.Keys.{Session, pair_of}
use Rattle.plain_map.specs.PlainObject.{InRange, new_session, counted_session, grown, revalued}
use Rattle.bucket_states.specs.declared.ops.Op.{Op}
use Rattle.bucket_states.specs.Items.{prefix_of, same_key, value_at, has_place, overflows, items_after, is_too_many, appended, changed_in, revised_in, with_change, without}
use Rattle.bucket_states.specs.Parts.{keys_of, HasDistinctKeys, HasPrefix}
use Rattle.bucket_states.specs.States.{BucketState}
use Rattle.bucket_states.specs.Change.{change, after_seats, after_op, frozen, answered}
use Rattle.bucket_states.specs.Laws.{IsGood}
use Rattle.bucket_states.proofs.ItemLemmas.{is_some-value_at, HasDistinctKeys-push}
use Rattle.bucket_states.proofs.PartLemmas.{some_of}
use Rattle.bucket_states.proofs.GoodLemmas.{overflow_parts, took-IsGood}
use Rattle.bucket_states.proofs.StepLemmas.{Outcome, stayed, skipped, froze, took, outcome}
use Rattle.bucket_states.proofs.WalkLemmas.{due_parts, walk-frozen}
use Rattle.change_laws.proofs.Bits.{hash_in, prefix_of-hash}
use Rattle.hash_bits.proofs.FewerBits.{first_bits-fewer}
use Rattle.list_laws.proofs.Totals.{each-append, each-alike, each-both}
use Rattle.list_laws.proofs.Truths.{not_both}
use Rattle.closed_laws.proofs.HeldPairs.{same_itself}

-- so many distinct keys of a kind, with one prefix
pub record Crowd (C : Key → Type 0) (rules : Rules) (depth prefix : ℕ) : Type 0 where
  pub keys : List Key
  pub distinct : IsDistinct same_key keys
  pub many : rules.items < length keys
  pub each : Each (λ key. C key × (prefix_of rules depth key ≡ prefix)) keys

-- of another kind, where each key of the one is of the other
pub crowd_alike : (C D : Key → Type 0) (rules : Rules) (depth prefix : ℕ) → ((key : Key) → C key → D key) →
    Crowd C rules depth prefix → Crowd D rules depth prefix
crowd_alike C D rules depth prefix h x = record {
  keys = x.keys;
  distinct = x.distinct;
  many = x.many;
  each = each-alike (λ key. C key × (prefix_of rules depth key ≡ prefix)) (λ key. D key
      × (prefix_of rules depth key ≡ prefix)) (λ key p. (h key p.0, p.1)) x.keys x.each;
}

-- fewer bits of the prefix
pub crowd_fewer : (C : Key → Type 0) (rules : Rules) (depth few prefix : ℕ) → few ≤ depth → depth ≤ 64 →
    Crowd C rules depth prefix → Crowd C rules few (prefix / 2 ^ (depth - few))
crowd_fewer C rules depth few prefix less most x = record {
  keys = x.keys;
  distinct = x.distinct;
  many = x.many;
  each = each-alike (λ key. C key × (prefix_of rules depth key ≡ prefix)) (λ key. C key
      × (prefix_of rules few key ≡ prefix / 2 ^ (depth - few)))
      (λ key p. (
        p.0,
        prefix_of-hash rules few key ∙ sym (first_bits-fewer (hash_in rules key) depth few less most)
            ∙ ap (λ n. n / 2 ^ (depth - few)) (sym (prefix_of-hash rules depth key) ∙ p.1),
      )) x.keys x.each;
}

-- the keys of these items are of the kind, and so is that of the call if it can bring it
abbrev pub KeysIn : (Key → Type 0) → List Pair → Type 0
KeysIn C items = Each (λ (pair : Pair). C pair.key) items

abbrev pub CallIn : (Key → Type 0) → Call → Type 0
CallIn C (Insert key value) = C key
CallIn C (Remove key) = Unit {0}
CallIn C (Lookup key) = Unit {0}
CallIn C (Tally key amount) = Unit {0}
CallIn C (Count key value amount) = C key
CallIn C (Put key value) = C key

-- ---- items

keys_without : (C : Key → Type 0) (key : Key) (items : List Pair) → KeysIn C items → KeysIn C (without key items)
keys_without C key [] k = tt
keys_without C key (pair ∷ items) k = go (same_key pair.key key) (keys_without C key items k.1)
  where
    go : (b : Bool) → KeysIn C (without key items) → KeysIn C (cond b items (pair ∷ without key items))
    go true rest = k.1
    go false rest = (k.0, rest)

keys_changed : (C : Key → Type 0) (key : Key) (change : Session → Session) (items : List Pair) → KeysIn C items →
    KeysIn C (changed_in key change items)
keys_changed C key change [] k = tt
keys_changed C key change (pair ∷ items) k = go (same_key pair.key key) (keys_changed C key change items k.1)
  where
    go : (b : Bool) → KeysIn C (changed_in key change items) →
        KeysIn C (cond b (with_change change pair ∷ items) (pair ∷ changed_in key change items))
    go true rest = (k.0, k.1)
    go false rest = (k.0, rest)

-- a call that brings the key or changes what it has
keys_revised : (C : Key → Type 0) (key : Key) (new : Session) (change : Session → Session) (items : List Pair)
    (held : Option Session) (place : Bool) → C key → KeysIn C items →
    KeysIn C (revised_in items key new change held place)
keys_revised C key new change items (Some held) place c k = keys_changed C key change items k
keys_revised C key new change items None true c k = each-append (λ (pair : Pair). C pair.key) items _ k (c, tt)
keys_revised C key new change items None false c k = k

-- after a call
pub keys_after : (C : Key → Type 0) (rules : Rules) (items : List Pair) (call : Call) → CallIn C call → KeysIn C items →
    KeysIn C (items_after rules items call)
unfolding items_after
keys_after C rules items (Insert key value) c k = go (value_at key items) (has_place rules items)
  where
    go : (o : Option Session) (b : Bool) → KeysIn C (appended items (pair_of (key, new_session value)) o b)
    go (Some held) b = k
    go None true = each-append (λ (pair : Pair). C pair.key) items _ k (c, tt)
    go None false = k
keys_after C rules items (Remove key) c k = keys_without C key items k
keys_after C rules items (Lookup key) c k = k
keys_after C rules items (Tally key amount) c k = keys_changed C key (λ held. grown held amount) items k
keys_after C rules items (Count key value amount) c k =
    keys_revised C key (counted_session value amount) (λ held. grown held amount) items (value_at key items)
    (has_place rules items) c k
keys_after C rules items (Put key value) c k =
    keys_revised C key (new_session value) (λ held. revalued held value) items (value_at key items)
    (has_place rules items) c k

each_prefix : (rules : Rules) (prefix depth : ℕ) (all items : List Pair) → HasPrefix rules prefix depth all →
    ((key : Key) → list_any (same_key key) (keys_of items) ≡ true → list_any (same_key key) (keys_of all) ≡ true) →
    Each (λ (pair : Pair). prefix_of rules depth pair.key ≡ prefix) items
each_prefix rules prefix depth all [] inside part = tt
each_prefix rules prefix depth all (pair ∷ items) inside part =
    let here : list_any (same_key pair.key) (keys_of (pair ∷ items)) ≡ true =
    ap (λ b. b || list_any (same_key pair.key) (keys_of items)) (same_itself pair.key) in
    let held = some_of (value_at pair.key all) (is_some-value_at pair.key all ∙ part pair.key here) in (
      inside pair.key held.0 held.1,
      each_prefix rules prefix depth all items inside
          (λ key e. part key (or_right (same_key key pair.key) (list_any (same_key key) (keys_of items)) e)),
    )

-- the keys of items
each_key : (P : Key → Type 0) (items : List Pair) → Each (λ (pair : Pair). P pair.key) items → Each P (keys_of items)
each_key P [] e = tt
each_key P (pair ∷ items) e = (e.0, each_key P items e.1)

-- a key that is too many for a bucket is one more than there is room for
too_many_crowd : (C : Key → Type 0) (rules : Rules) (depth prefix : ℕ) (items : List Pair) (key : Key) →
    HasDistinctKeys items → HasPrefix rules prefix depth items → KeysIn C items →
    C key → prefix_of rules depth key ≡ prefix → is_too_many rules depth items key ≡ true →
    Crowd C rules depth prefix
unfolding overflows
too_many_crowd C rules depth prefix items key distinct inside keys c for_it over =
    let pair : Pair = pair_of (key, new_session 0) in
    let absent : value_at key items ≡ None = none (value_at key items) (and_parts _ _ over).0 in
    let many = (overflow_parts rules depth items (Insert key 0) over).0 in
    record {
      keys = keys_of (items ++ pair ∷ []);
      distinct = HasDistinctKeys-push items pair distinct absent;
      many = omega (arith, many, length-map (items ++ pair ∷ []) (λ (p : Pair). p.key), length_push items pair);
      each = each_key (λ k. C k × (prefix_of rules depth k ≡ prefix)) (items ++ pair ∷ [])
          (each-append (λ (p : Pair). C p.key × (prefix_of rules depth p.key ≡ prefix)) items (pair ∷ [])
          (each-both (λ (p : Pair). C p.key) (λ (p : Pair). prefix_of rules depth p.key ≡ prefix) items keys
          (each_prefix rules prefix depth items items inside (λ k e. e)))
          ((c, for_it), tt));
    }
  where
    none : (o : Option Session) → not (is_some o) ≡ true → o ≡ None
    none (Some x) e = cc
    none None e = refl

-- a call that overflows a bucket brings such a key
pub overflow_crowd : (C : Key → Type 0) (rules : Rules) (depth prefix : ℕ) (items : List Pair) (call : Call) →
    HasDistinctKeys items → HasPrefix rules prefix depth items → KeysIn C items →
    CallIn C call → prefix_of rules depth (key_in call) ≡ prefix → overflows rules depth items call ≡ true →
    Crowd C rules depth prefix
unfolding overflows
overflow_crowd C rules depth prefix items (Insert key value) distinct inside keys c for_it over =
    too_many_crowd C rules depth prefix items key distinct inside keys c for_it over
overflow_crowd C rules depth prefix items (Remove key) distinct inside keys c for_it over = cc
overflow_crowd C rules depth prefix items (Lookup key) distinct inside keys c for_it over = cc
overflow_crowd C rules depth prefix items (Tally key amount) distinct inside keys c for_it over = cc
overflow_crowd C rules depth prefix items (Count key value amount) distinct inside keys c for_it over =
    too_many_crowd C rules depth prefix items key distinct inside keys c for_it over
overflow_crowd C rules depth prefix items (Put key value) distinct inside keys c for_it over =
    too_many_crowd C rules depth prefix items key distinct inside keys c for_it over

-- ---- the bucket change

abbrev pub OpsIn : (Key → Type 0) → List (Option Op) → Type 0
OpsIn C ops = Each (λ o. (op : Op) → o ≡ Some op → CallIn C op.call) ops

module _ (C : Key → Type 0) (rules : Rules) (range : InRange rules) (seats : ℕ) where
  -- what is made has keys of the kind, and where it is frozen there is a crowd
  abbrev Crowded : BucketState → BucketState → Type 0
  Crowded was now = KeysIn C now.items × (now.frozen ≡ true → Crowd C rules was.depth was.prefix)

  -- all seats, one after the other
  walk : (seat : ℕ) (ops : List (Option Op)) (bucket : BucketState) → IsGood rules seats bucket →
      seat + length ops ≤ seats → OpsIn C ops → KeysIn C bucket.items → bucket.frozen ≡ false →
      Crowded bucket (after_seats rules seat ops bucket)
  walk seat [] bucket good few in_ keys open_ = (keys, λ e. absurd (not_both bucket.frozen e open_))
  walk seat (None ∷ ops) bucket good few in_ keys open_ =
      walk (suc seat) ops bucket good (omega (arith, few)) in_.1 keys open_
  walk seat (Some op ∷ ops) bucket good few in_ keys open_ =
      go (outcome rules seat op bucket) (λ next g k o. walk (suc seat) ops next g (omega (arith, few)) in_.1 k o)
    where
      go : Outcome rules seat op bucket →
          ((next : BucketState) → IsGood rules seats next → KeysIn C next.items → next.frozen ≡ false →
          Crowded next (after_seats rules (suc seat) ops next)) →
          Crowded bucket (after_seats rules (suc seat) ops (after_op rules seat op bucket))
      go (stayed is e) rest = absurd (not_both bucket.frozen e open_)
      go (skipped is e) rest =
          subst (λ x. Crowded bucket (after_seats rules (suc seat) ops x)) (sym is) (rest bucket good keys open_)
      go (froze is live due over) rest =
          let parts = due_parts rules bucket seat op due in
          let crowd = overflow_crowd C rules bucket.depth bucket.prefix bucket.items op.call good.distinct good.inside
          keys (in_.0 op refl) parts.0 over in
          subst (λ x. Crowded bucket (after_seats rules (suc seat) ops x)) (sym is)
          (subst (Crowded bucket) (sym (walk-frozen rules (suc seat) ops (frozen bucket) refl)) (keys, λ e. crowd))
      go (took is live due fits) rest =
          let parts = due_parts rules bucket seat op due in
          let good_next =
          took-IsGood rules range seats seat op bucket good (omega (arith, few)) live parts.0 parts.1 fits in
          subst (λ x. Crowded bucket (after_seats rules (suc seat) ops x)) (sym is)
          (rest (answered rules bucket seat op) good_next (keys_after C rules bucket.items op.call (in_.0 op refl)
          keys) live)

  -- the bucket that a bucket try makes
  pub change_crowded : (ops : List (Option Op)) (bucket : BucketState) → IsGood rules seats bucket →
      length ops ≤ seats → OpsIn C ops → KeysIn C bucket.items → bucket.frozen ≡ false →
      Crowded bucket (change rules ops bucket)
  unfolding change
  change_crowded ops bucket good few in_ keys open_ = walk 0 ops bucket good (omega (arith, few)) in_ keys open_
