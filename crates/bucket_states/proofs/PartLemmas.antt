-- A part of the sessions: the sizes of its classes, and what answers by the part leave of it.
use Rattle.std.proofs.Common.{◌≡◌, ◌≢◌, ℕ, ◌+◌, ◌-◌, ◌/◌, ◌^◌, ◌≤◌, Bool, true, false, cond, List, length, Option, Some, None, refl, sym, ap, subst, ◌∙◌, arith}
use Rattle.std.specs.Prelude.{◌==◌, nat_lt, not, ◌&&◌, is_some}
use Rattle.std.specs.List.{list_any}
use Rattle.std.specs.FinMap as finite
use Rattle.std.specs.FinMap.{get, get-insert, get-remove}
use Rattle.std.proofs.Math.Nat.{div-div-eq-div-mul}
use lib.Pow.{pow-add}
use Rattle.std.proofs.lemmas.Bool.{eqb-true, eq-eqb, ltb-true, ltb-false, true≢false}
use Rattle.std.proofs.lemmas.List.{length-map}
use Rattle.std.proofs.lemmas.Map.Made.{length-le_from_is_member}
use Rattle.hash_bits.specs.Prefix.{first_bits}
use Rattle.plain_map.specs.declared.keys.Key.{Key}
use Rattle.plain_map.specs.declared.keys.Pair.{Pair}
use Rattle.plain_map.specs.declared.rules.Rules.{Rules}
use Rattle.plain_map.specs.Keys.{Session, hash_of_key}
use Rattle.plain_map.specs.PlainObject.{Sessions, InRange, class_of, class_size, has_room}
use Rattle.plain_map.proofs.KeyLemmas.{keys_total}
use Rattle.bucket_states.specs.Items.{prefix_of, same_key, value_at, has_place}
use Rattle.bucket_states.specs.Parts.{keys_of, HasDistinctKeys, HoldsPart, CanAnswer}
use Rattle.bucket_states.proofs.KeyTests.{Decides-same_key, eq_by_cmp-same_key, same_key-equiv}
use Rattle.bucket_states.proofs.ItemLemmas.{is_some-value_at}
use Rattle.bucket_states.proofs.AnswerLemmas.{lt_true, lt_false}
use Rattle.bucket_states.proofs.SizeLemmas.{entry_keys, of_class, class_size-keys, distinct_of_class, member_of_class}

-- ---- prefixes

-- fewer first bits are first bits of more of them
first_bits-of_more : (h d n : ℕ) → d ≤ n → n ≤ 64 → first_bits h d ≡ first_bits h n / 2 ^ (n - d)
unfolding first_bits
first_bits-of_more h d n le small =
    let widths : (64 - n) + (n - d) ≡ 64 - d = omega arith in
    sym (div-div-eq-div-mul h (2 ^ (64 - n)) (2 ^ (n - d))
    ∙ ap (λ (k : ℕ). h / k) (sym (pow-add 2 (64 - n) (n - d)) ∙ ap (λ (k : ℕ). 2 ^ k) widths))

module _ (rules : Rules) (range : InRange rules) where
  -- keys of one class have one prefix
  pub same_prefix : (depth : ℕ) (a b : Key) → depth ≤ rules.depth → class_of rules a ≡ class_of rules b →
      prefix_of rules depth a ≡ prefix_of rules depth b
  unfolding class_of prefix_of
  same_prefix depth a b within same =
      let small : rules.depth ≤ 64 = omega (arith, range.depth) in
      first_bits-of_more (hash_of_key rules.hashing a) depth rules.depth within small
      ∙ ap (λ (k : ℕ). k / 2 ^ (rules.depth - depth)) same
      ∙ sym (first_bits-of_more (hash_of_key rules.hashing b) depth rules.depth within small)

-- at the greatest depth the prefix is the class
prefix_is_class : (rules : Rules) (key : Key) → prefix_of rules rules.depth key ≡ class_of rules key
unfolding class_of prefix_of
prefix_is_class rules key = refl

-- ---- sizes

pub both_hold : (b : Bool) (o : Option Session) → is_some (cond b o None) ≡ true → (b ≡ true) × (is_some o ≡ true)
both_hold true o is = (refl, is)
both_hold false o is = cc

pub some_of : (o : Option Session) → is_some o ≡ true → (held : Session) × (o ≡ Some held)
some_of (Some held) is = (held, refl)
some_of None is = cc

module _ (rules : Rules) (prefix depth : ℕ) (items : List Pair) (sessions : Sessions)
    (part : HoldsPart rules prefix depth items sessions) (key : Key) where
  -- a class of the part has no more keys than there are items
  pub class_size-few : InRange rules → depth ≤ rules.depth → prefix_of rules depth key ≡ prefix →
      class_size rules sessions (class_of rules key) ≤ length items
  class_size-few range within here =
      let class = class_of rules key in
      let among : (q : Key) → list_any (same_key q) (entry_keys (of_class rules sessions class)) ≡ true →
      list_any (same_key q) (keys_of items) ≡ true = λ q is.
      let facts = both_hold (class_of rules q == class) (get sessions q) (sym (member_of_class rules sessions class q)
      ∙ is) in
      let there : prefix_of rules depth q ≡ prefix = same_prefix rules range depth q key within (eqb-true _ _ facts.0)
      ∙ here in
      sym (is_some-value_at q items) ∙ ap is_some (part.same q there) ∙ facts.1
      in
      let few = length-le_from_is_member same_key-equiv (entry_keys (of_class rules sessions class)) (keys_of items)
      (distinct_of_class rules sessions class) among in
      rw (class_size-keys rules sessions class)
      (subst (λ (n : ℕ). length (entry_keys (of_class rules sessions class)) ≤ n)
      (length-map items (λ (p : Pair). p.key)) few)

  -- and at the greatest depth no fewer
  pub class_size-many : depth ≡ rules.depth → prefix_of rules depth key ≡ prefix →
      length items ≤ class_size rules sessions (class_of rules key)
  class_size-many deep here =
      let class = class_of rules key in
      let of_key : prefix ≡ class = sym here ∙ ap (λ (d : ℕ). prefix_of rules d key) deep ∙ prefix_is_class rules key in
      let among : (q : Key) → list_any (same_key q) (keys_of items) ≡ true →
      list_any (same_key q) (entry_keys (of_class rules sessions class)) ≡ true = λ q is.
      let held = some_of (value_at q items) (is_some-value_at q items ∙ is) in
      let there = part.inside q held.0 held.1 in
      let in_it : (class_of rules q == class) ≡ true =
      eq-eqb _ _ (sym (prefix_is_class rules q) ∙ ap (λ (d : ℕ). prefix_of rules d q) (sym deep) ∙ there ∙ of_key)
      in
      let kept : get sessions q ≡ Some held.0 = sym (part.same q there) ∙ held.1 in
      member_of_class rules sessions class q ∙ ap (λ b. is_some (cond b (get sessions q) None)) in_it ∙ ap is_some kept
      in
      let many = length-le_from_is_member same_key-equiv (keys_of items) (entry_keys (of_class rules sessions class))
      part.distinct among in
      rw (class_size-keys rules sessions class)
      (subst (λ (n : ℕ). n ≤ length (entry_keys (of_class rules sessions class)))
      (length-map items (λ (p : Pair). p.key)) many)

-- ---- a change at one key

-- the sessions after an insert and after a remove, key by key
pub get-inserted : (m : Sessions) (key : Key) (value : Session) (q : Key) →
    get (finite.insert m key value) q ≡ cond (same_key key q) (Some value) (get m q)
get-inserted m key value q =
    get-insert keys_total m key value q
    ∙ ap (λ b. cond b (Some value) (get m q)) (eq_by_cmp-same_key q key ∙ same_key-equiv.symm q key)

pub get-removed : (m : Sessions) (key : Key) (q : Key) →
    get (finite.remove m key) q ≡ cond (same_key key q) None (get m q)
get-removed m key q =
    get-remove keys_total m key q ∙ ap (λ b. cond b None (get m q)) (eq_by_cmp-same_key q key
    ∙ same_key-equiv.symm q key)

module _ (rules : Rules) (prefix depth : ℕ) (items : List Pair) (sessions : Sessions)
    (part : HoldsPart rules prefix depth items sessions) (key : Key) where
  -- items and sessions that change alike at a key of the part
  pub changed : prefix_of rules depth key ≡ prefix → (o : Option Session) (left : List Pair) (after : Sessions) →
      HasDistinctKeys left
      → ((q : Key) → value_at q left ≡ cond (same_key key q) o (value_at q items)) →
      ((q : Key) → get after q ≡ cond (same_key key q) o (get sessions q))
      → HoldsPart rules prefix depth left after
  changed here o left after distinct by_items by_sessions = record {
    distinct = distinct;
    inside = λ q held is. by_test q held (same_key key q) refl (sym (by_items q) ∙ is);
    same = λ q there. by_items q ∙ ap (cond (same_key key q) o) (part.same q there) ∙ sym (by_sessions q);
  }
    where
      by_test : (q : Key) (held : Session) (b : Bool) → same_key key q ≡ b → cond b o (value_at q items) ≡ Some held →
          prefix_of rules depth q ≡ prefix
      by_test q held true so is = subst (λ (k : Key). prefix_of rules depth k ≡ prefix) ((Decides-same_key key q).0 so)
          here
      by_test q held false so is = part.inside q held is

  -- sessions that change at another key
  pub elsewhere : prefix_of rules depth key ≢ prefix → (o : Option Session) (after : Sessions) →
      ((q : Key) → get after q ≡ cond (same_key key q) o (get sessions q))
      → HoldsPart rules prefix depth items after
  elsewhere away o after by_sessions = record {
    distinct = part.distinct;
    inside = part.inside;
    same = λ q there. part.same q there ∙ by_test q there (same_key key q) refl ∙ sym (by_sessions q);
  }
    where
      by_test : (q : Key) → prefix_of rules depth q ≡ prefix → (b : Bool) → same_key key q ≡ b →
          get sessions q ≡ cond b o (get sessions q)
      by_test q there true so = absurd
          (away (subst (λ (k : Key). prefix_of rules depth k ≡ prefix) (sym ((Decides-same_key key q).0 so)) there))
      by_test q there false so = refl

  module _ (can : CanAnswer rules depth items) (here : prefix_of rules depth key ≡ prefix) where
    held : value_at key items ≡ get sessions key
    held = part.same key here

    -- where the key is new, and the bucket does not overflow, there is a place exactly where the class has room
    pub room_alike : value_at key items ≡ None → (not (has_place rules items) && nat_lt depth rules.depth) ≡ false →
        has_place rules items ≡ has_room rules sessions key
    room_alike none fits = by_test (has_place rules items) refl (nat_lt depth rules.depth) refl
      where
        by_test : (b : Bool) → has_place rules items ≡ b → (t : Bool) → nat_lt depth rules.depth ≡ t →
            has_place rules items ≡ has_room rules sessions key
        by_test true place t deep =
            let few = class_size-few rules prefix depth items sessions part key can.range can.within here in
            place ∙ sym (lt_true _ _ (omega (arith, few, ltb-true _ _ place)))
        by_test false full true deep = absurd
            (true≢false (sym (ap (λ b. not b && nat_lt depth rules.depth) full ∙ deep) ∙ fits))
        by_test false full false deep =
            let within = can.within in
            let at : depth ≡ rules.depth = omega (arith, ltb-false _ _ deep) in
            let many = class_size-many rules prefix depth items sessions part key at here in
            full ∙ sym (lt_false _ _ (omega (arith, many, ltb-false _ _ full)))
