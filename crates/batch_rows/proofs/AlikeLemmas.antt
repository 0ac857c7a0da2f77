-- What the plain object answers by the rules and by those of the lesser depth, where only such keys are held and
-- inserted: the same, as a new key finds room by both.
use Rattle.std.proofs.Common.{◌≡◌, ℕ, ◌<◌, ◌≤◌, ◌==◌, ◌⊎◌, Bool, true, false, cond, List, [], ◌∷◌, ◌++◌, Option, Some, None, inl, inr, refl, sym, ap, subst, ◌∙◌, arith}
use Rattle.std.specs.Prelude.{◌&&◌, All, count_by, filter, fold, is_some}
use Rattle.std.specs.FinMap.{empty, get, get-empty, insert}
use Rattle.std.specs.List.{AllByRecursion as Each}
use Rattle.std.proofs.lemmas.Bool.{cases_lt, eqb-true, eq-eqb, lt-ltb, or_cases, or_parts}
use Rattle.std.proofs.lemmas.List.{map-append}
use Rattle.std.proofs.lemmas.List.Sums.{length-filter, sum_by-append, sum_by-cons}
use Rattle.std.proofs.lemmas.Map.Keys.{IsDistinct-cons}
use Rattle.plain_map.specs.declared.calls.Call.{Call}
use Rattle.plain_map.specs.declared.calls.Call.TheVariants.{Insert, Remove, Lookup, Tally, Count, Put}
use Rattle.plain_map.specs.declared.keys.Key.{Key}
use Rattle.plain_map.specs.declared.keys.Pair.{Pair}
use Rattle.plain_map.specs.declared.rules.Rules.{Rules}
use Rattle.plain_map.specs.History.{Placed, answered, pending, call_in, Legal, sessions_after}
use Rattle.plain_map.specs.Keys.{Session, hash_of_key, held_in, key_cmp}
use Rattle.plain_map.specs.PlainObject.{Sessions, brought, class_of, class_size, count_reply, counted_session, grown, has_room, insert_reply, inserted, map_after, new_session, pairs_of, reply_of, revalued, revised, tallied}
use Rattle.bucket_states.specs.Items.{prefix_of, same_key}
use Rattle.bucket_states.specs.Parts.{keys_of, HasDistinctKeys}
use Rattle.bucket_states.proofs.KeyTests.{Decides-same_key}
use Rattle.bucket_states.proofs.PartLemmas.{both_hold, get-inserted, get-removed}
use Rattle.bucket_states.proofs.SizeLemmas.{entry_keys, of_class, class_size-keys, distinct_of_class, member_of_class}
use Rattle.table_model.specs.Closed.{FilledByFirst, FilledByCalls, keys_with_prefix, sessions_with}
use Rattle.table_model.specs.Needs.{IsAmongKeys, distinct_keys, inserted_by}
use Rattle.table_model.specs.Setup.{HaveRoom, classmates}
use Rattle.bound_laws.proofs.KeyCounts.{has, has_passing, distinct_has, at_most, no_more, each_has}
use Rattle.list_laws.proofs.Pigeons.{flag}
use Rattle.batch_rows.specs.Depths.{InsertsAmong, depth_for, lesser_rules}
use Rattle.batch_rows.proofs.CalmLemmas.{alike_before, depth_calm, depth_is_within, passes_less}
use Rattle.batch_rows.proofs.KeyLemmas.{distinct_stay}

-- each key that is held is among these
abbrev pub AreAmong : List Key → Sessions → Type 0
AreAmong keys m = (key : Key) → is_some (get m key) ≡ true → has keys key ≡ true

-- a key that is not among others is apart from each
apart_each : (keys : List Key) (key : Key) → has keys key ≡ false → Each (λ other. same_key key other ≡ false) keys
apart_each [] key none = tt
apart_each (other ∷ keys) key none =
    (let parts = or_parts (same_key key other) (has keys key) none in (parts.0, apart_each keys key parts.1))

-- what holds of each member of two lists holds of those of the first
each_front : {X : Type 0} (P : X → Type 0) (xs ys : List X) → Each P (xs ++ ys) → Each P xs
each_front P [] ys each = tt
each_front P (x ∷ xs) ys each = (each.0, each_front P xs ys each.1)

-- as many keys pass as pairs with them
count_keys : (test : Key → Bool) (pairs : List Pair) →
    count_by test (keys_of pairs) ≡ count_by (λ (pair : Pair). test pair.key) pairs
count_keys test [] = refl
count_keys test (pair ∷ pairs) = omega (
  arith,
  sum_by-cons (λ k. flag (test k)) pair.key (keys_of pairs),
  sum_by-cons (λ (p : Pair). flag (test p.key)) pair pairs,
  count_keys test pairs,
)

-- a new key finds room where its class has no more of the keys than a bucket has room for
module _ (rules : Rules) (keys : List Key) (m : Sessions) (among : AreAmong keys m) (key : Key)
    (own : has keys key ≡ true) (new : get m key ≡ None) where
  -- its class
  abbrev class : ℕ
  class = class_of rules key

  -- the held keys of that class
  abbrev held : List Key
  held = entry_keys (of_class rules m class)

  -- it is not among the held ones of its class
  not_held : has held key ≡ false
  not_held = member_of_class rules m class key ∙ nothing (class_of rules key == class) (get m key) new
    where
      nothing : (b : Bool) (o : Option Session) → o ≡ None → is_some (cond b o None) ≡ false
      nothing true o none = ap is_some none
      nothing false o none = refl

  -- they and it are of the class, and among the keys
  each_of_class : (q : Key) → has (key ∷ held) q ≡ true → ((class_of rules q == class) ≡ true) × (has keys q ≡ true)
  each_of_class q there = elim (or_cases (same_key q key) (has held q) there) [
    | inl same ↦
        let equal : q ≡ key = (Decides-same_key q key).0 same in
        (eq-eqb (class_of rules q) class (ap (class_of rules) equal), ap (has keys) equal ∙ own)
    | inr old ↦
        let facts = both_hold (class_of rules q == class) (get m q) (sym (member_of_class rules m class q) ∙ old) in
        (facts.0, among q facts.1)
  ]

  -- so there are fewer held ones than there is room for
  few_of_class : count_by (λ other. class_of rules other == class) (distinct_keys keys) ≤ rules.items →
      class_size rules m class < rules.items
  few_of_class few =
      let many = at_most (λ other. class_of rules other == class) (key ∷ held) keys
      (IsDistinct-cons same_key key held (apart_each held key not_held) (distinct_of_class rules m class))
      each_of_class in
      omega (arith, many, few, class_size-keys rules m class)

module _ (rules : Rules) (start : ℕ) (keys : List Key) (within : start ≤ rules.depth) where
  -- the rules with the lesser depth
  abbrev less : Rules
  less = lesser_rules rules start keys

  -- keys of one class are of one class of the lesser depth too
  class_wider : (a b : Key) → class_of rules a ≡ class_of rules b → class_of less a ≡ class_of less b
  unfolding class_of
  class_wider a b = alike_before (hash_of_key rules.hashing a) (hash_of_key rules.hashing b)
      (depth_for rules start keys) rules.depth (depth_is_within rules start keys within).1

  -- so a key has no more classmates than by the lesser depth
  pub mates_below : (key : Key) (pairs : List Pair) → classmates rules key pairs ≤ classmates less key pairs
  mates_below key pairs = passes_less (λ (other : Pair). class_of rules other.key == class_of rules key)
      (λ (other : Pair). class_of less other.key == class_of less key) pairs
      (λ other same. eq-eqb (class_of less other.key) (class_of less key)
      (class_wider other.key key (eqb-true (class_of rules other.key) (class_of rules key) same)))

  -- those rules are the same, or no class of theirs has more of the keys than a bucket has room for
  same_or_few : (less ≡ rules) ⊎ ((key : Key) →
      count_by (λ other. class_of less other == class_of less key) (distinct_keys keys) ≤ rules.items)
  unfolding class_of prefix_of
  same_or_few = elim (cases_lt (depth_for rules start keys) rules.depth) [
    | inl lower ↦ inr (λ key. depth_calm rules keys start lower key)
    | inr most ↦ inl (ap with_depth (omega (arith, most, (depth_is_within rules start keys within).1)))
  ]
    where
      with_depth : ℕ → Rules
      with_depth depth = record { items = rules.items; depth = depth; hashing = rules.hashing }

  -- ---- one call

  module _ (m : Sessions) (among : AreAmong keys m) where
    -- a new key finds room by both
    room_alike : (key : Key) → has keys key ≡ true → get m key ≡ None → has_room less m key ≡ has_room rules m key
    unfolding class_size
    room_alike key own new = elim same_or_few [
      | inl same ↦ ap (λ r. has_room r m key) same
      | inr few ↦
          let low = few_of_class less keys m among key own new (few key) in
          lt-ltb (class_size less m (class_of less key)) rules.items low
          ∙ sym (lt-ltb (class_size rules m (class_of rules key)) rules.items
          (omega (arith, low, mates_below key (pairs_of m))))
    ]

    -- so what hangs on the room of a new key alone is the same
    by_room_alike : {A : Type 0} (f : Option Session → Bool → A) →
        ((held : Session) (a b : Bool) → f (Some held) a ≡ f (Some held) b) → (key : Key) → has keys key ≡ true →
        f (get m key) (has_room less m key) ≡ f (get m key) (has_room rules m key)
    by_room_alike f alike key own = go (get m key) refl
      where
        go : (o : Option Session) → get m key ≡ o → f o (has_room less m key) ≡ f o (has_room rules m key)
        go (Some held) is = alike held (has_room less m key) (has_room rules m key)
        go None is = ap (f None) (room_alike key own is)

    -- a session that comes to a key leaves the same
    brought_alike : (key : Key) (new : Session) → has keys key ≡ true → brought less m key new ≡ brought rules m key new
    brought_alike key new own = by_room_alike (inserted m key new) (λ held a b. refl) key own

    -- and so does a call
    map_alike : (call : Call) → All (IsAmongKeys keys) (inserted_by call) →
        map_after less m call ≡ map_after rules m call
    unfolding map_after
    map_alike (Insert key value) own = brought_alike key (new_session value) (own 0 key (omega arith))
    map_alike (Remove key) own = refl
    map_alike (Lookup key) own = refl
    map_alike (Tally key amount) own = refl
    map_alike (Count key value amount) own =
        by_room_alike (revised m key (counted_session value amount) (λ held. grown held amount)) (λ held a b. refl) key
        (own 0 key (omega arith))
    map_alike (Put key value) own =
        by_room_alike (revised m key (new_session value) (λ held. revalued held value)) (λ held a b. refl) key
        (own 0 key (omega arith))

    -- which has the same reply
    reply_alike : (call : Call) → All (IsAmongKeys keys) (inserted_by call) →
        reply_of less m call ≡ reply_of rules m call
    unfolding reply_of
    reply_alike (Insert key value) own = by_room_alike insert_reply (λ held a b. refl) key (own 0 key (omega arith))
    reply_alike (Remove key) own = refl
    reply_alike (Lookup key) own = refl
    reply_alike (Tally key amount) own = refl
    reply_alike (Count key value amount) own =
        by_room_alike (count_reply amount) (λ held a b. refl) key (own 0 key (omega arith))
    reply_alike (Put key value) own = by_room_alike insert_reply (λ held a b. refl) key (own 0 key (omega arith))

    -- where one of the keys gets a session, what is held then is among the keys
    set_among : (key : Key) (new : Session) → has keys key ≡ true → AreAmong keys (insert m key new)
    set_among key new own = λ q some.
        by q (same_key key q) refl (sym (ap is_some (get-inserted m key new q)) ∙ some)
      where
        by : (q : Key) (b : Bool) → same_key key q ≡ b → is_some (cond b (Some new) (get m q)) ≡ true →
            has keys q ≡ true
        by q true same some = subst (λ k. has keys k ≡ true) ((Decides-same_key key q).0 same) own
        by q false other some = among q some

    -- also where a session comes to it
    brought_among : (key : Key) (new : Session) → has keys key ≡ true → AreAmong keys (brought rules m key new)
    brought_among key new own = go (get m key) (has_room rules m key)
      where
        go : (o : Option Session) (room : Bool) → AreAmong keys (inserted m key new o room)
        go (Some held) room = among
        go None true = set_among key new own
        go None false = among

    -- and where a call changes the session of a key that is held, and brings one to another key
    revised_among : (key : Key) (new : Session) (change : Session → Session) → has keys key ≡ true →
        AreAmong keys (revised m key new change (get m key) (has_room rules m key))
    revised_among key new change own = go (get m key) (has_room rules m key)
      where
        go : (o : Option Session) (room : Bool) → AreAmong keys (revised m key new change o room)
        go (Some held) room = set_among key (change held) own
        go None true = set_among key new own
        go None false = among

    -- and after a call
    among_after : (call : Call) → All (IsAmongKeys keys) (inserted_by call) → AreAmong keys (map_after rules m call)
    unfolding map_after
    among_after (Insert key value) own = brought_among key (new_session value) (own 0 key (omega arith))
    among_after (Remove key) own = λ q some.
        by q (same_key key q) (sym (ap is_some (get-removed m key q)) ∙ some)
      where
        by : (q : Key) (b : Bool) → is_some (cond b None (get m q)) ≡ true → has keys q ≡ true
        by q true some = cc
        by q false some = among q some
    among_after (Lookup key) own = among
    among_after (Count key value amount) own =
        revised_among key (counted_session value amount) (λ held. grown held amount) (own 0 key (omega arith))
    among_after (Put key value) own =
        revised_among key (new_session value) (λ held. revalued held value) (own 0 key (omega arith))
    among_after (Tally key amount) own = go (get m key) refl
      where
        go : (o : Option Session) → get m key ≡ o → AreAmong keys (tallied m key amount o)
        go (Some held) is = set_among key (grown held amount) (among key (ap is_some is))
        go None is = among

  -- ---- pairs and calls

  -- pairs of the keys leave the same
  pairs_alike : (pairs : List Pair) (m : Sessions) → AreAmong keys m → Each (IsAmongKeys keys) (keys_of pairs) →
      fold (λ sessions pair. brought less sessions pair.key (held_in pair)) m pairs
      ≡ fold (λ sessions pair. brought rules sessions pair.key (held_in pair)) m pairs
  pairs_alike [] m among own = refl
  pairs_alike (pair ∷ pairs) m among own =
      ap (λ n. fold (λ sessions pair. brought less sessions pair.key (held_in pair)) n pairs)
      (brought_alike m among pair.key (held_in pair) own.0)
      ∙ pairs_alike pairs (brought rules m pair.key (held_in pair))
      (brought_among m among pair.key (held_in pair) own.0) own.1

  -- and what is held then is among the keys
  pairs_among : (pairs : List Pair) (m : Sessions) → AreAmong keys m → Each (IsAmongKeys keys) (keys_of pairs) →
      AreAmong keys (fold (λ sessions pair. brought rules sessions pair.key (held_in pair)) m pairs)
  pairs_among [] m among own = among
  pairs_among (pair ∷ pairs) m among own =
      pairs_among pairs (brought rules m pair.key (held_in pair)) (brought_among m among pair.key (held_in pair) own.0)
      own.1

  -- none is held at first
  empty_among : AreAmong keys empty
  empty_among key some = none (sym (ap is_some (get-empty key_cmp key)) ∙ some)
    where
      none : false ≡ true → has keys key ≡ true
      none never = cc

  -- so the first pairs leave the same
  first_alike : (first : List Pair) → Each (IsAmongKeys keys) (keys_of first) →
      sessions_with less first ≡ sessions_with rules first
  first_alike first own = pairs_alike first empty empty_among own

  -- and that is among the keys
  first_among : (first : List Pair) → Each (IsAmongKeys keys) (keys_of first) →
      AreAmong keys (sessions_with rules first)
  first_among first own = pairs_among first empty empty_among own

  -- calls leave the same
  order_alike : (order : List Placed) (m : Sessions) → AreAmong keys m → Each (InsertsAmong keys) order →
      sessions_after less m order ≡ sessions_after rules m order
  order_alike [] m among asked = refl
  order_alike (placed ∷ order) m among asked =
      ap (λ n. sessions_after less n order) (map_alike m among (call_in placed) asked.0)
      ∙ order_alike order (map_after rules m (call_in placed)) (among_after m among (call_in placed) asked.0) asked.1

  -- also after the first pairs
  pub after_alike : (first : List Pair) (order : List Placed) → Each (IsAmongKeys keys) (keys_of first) →
      Each (InsertsAmong keys) order →
      sessions_after less (sessions_with less first) order ≡ sessions_after rules (sessions_with rules first) order
  after_alike first order own asked =
      ap (λ m. sessions_after less m order) (first_alike first own)
      ∙ order_alike order (sessions_with rules first) (first_among first own) asked

  -- and they are legal alike
  legal_alike : (order : List Placed) (m : Sessions) → AreAmong keys m → Each (InsertsAmong keys) order →
      Legal less m order → Legal rules m order
  legal_alike [] m among asked legal = tt
  legal_alike (answered r ∷ order) m among asked legal = (
    legal.0 ∙ reply_alike m among r.call asked.0,
    legal_alike order (map_after rules m r.call) (among_after m among r.call asked.0) asked.1
        (subst (λ n. Legal less n order) (map_alike m among r.call asked.0) legal.1),
  )
  legal_alike (pending u ∷ order) m among asked legal = (
    tt,
    legal_alike order (map_after rules m u.call) (among_after m among u.call asked.0) asked.1
        (subst (λ n. Legal less n order) (map_alike m among u.call asked.0) legal.1),
  )

  -- also after the first pairs
  pub legal_after : (first : List Pair) (order : List Placed) → Each (IsAmongKeys keys) (keys_of first) →
      Each (InsertsAmong keys) order → Legal less (sessions_with less first) order →
      Legal rules (sessions_with rules first) order
  legal_after first order own asked legal = legal_alike order (sessions_with rules first) (first_among first own) asked
      (subst (λ m. Legal less m order) (first_alike first own) legal)

  -- ---- why a bucket was full

  -- after pairs of these keys as many keys have a prefix
  pub filled_by_first : (first : List Pair) (depth prefix : ℕ) → Each (IsAmongKeys keys) (keys_of first) →
      FilledByFirst less first depth prefix → FilledByFirst rules first depth prefix
  unfolding prefix_of
  filled_by_first first depth prefix own filled = record {
    front = filled.front;
    back = filled.back;
    stage = filled.stage;
    full = ap (keys_with_prefix rules depth prefix) (sym (first_alike filled.front among)) ∙ filled.full;
  }
    where
      among : Each (IsAmongKeys keys) (keys_of filled.front)
      among = each_front (IsAmongKeys keys) (keys_of filled.front) (keys_of filled.back)
          (subst (Each (IsAmongKeys keys)) (ap keys_of filled.stage
          ∙ map-append (λ (pair : Pair). pair.key) filled.front filled.back) own)

  -- and after calls that insert such keys
  pub filled_by_calls : (first : List Pair) (order : List Placed) (depth prefix : ℕ) →
      Each (IsAmongKeys keys) (keys_of first) → Each (InsertsAmong keys) order →
      FilledByCalls less first order depth prefix → FilledByCalls rules first order depth prefix
  unfolding prefix_of
  filled_by_calls first order depth prefix own asked filled = record {
    front = filled.front;
    back = filled.back;
    stage = filled.stage;
    full = ap (keys_with_prefix rules depth prefix) (sym (after_alike first filled.front own among)) ∙ filled.full;
  }
    where
      among : Each (InsertsAmong keys) filled.front
      among = each_front (InsertsAmong keys) filled.front filled.back
          (subst (Each (InsertsAmong keys)) filled.stage asked)

  -- ---- room

  -- pairs with distinct ones of the keys find room by the lesser depth
  pub room_kept : (first : List Pair) → Each (IsAmongKeys keys) (keys_of first) → HasDistinctKeys first →
      HaveRoom rules first → HaveRoom less first
  room_kept first own distinct room front back pair cut = elim same_or_few [
    | inl same ↦ subst (λ r. classmates r pair.key front < r.items) (sym same) (room front back pair cut)
    | inr few ↦
        let test : Key → Bool = λ key. class_of less key == class_of less pair.key in
        let many = no_more test (keys_of first) (filter test (distinct_keys keys))
        (λ q passes there. has_passing test (distinct_keys keys) q
        ∙ ap (λ b. b && has (distinct_keys keys) q) passes ∙ distinct_has keys q
        ∙ each_has (IsAmongKeys keys) (keys_of first) q own there) in
        let own_one : test pair.key ≡ true = eq-eqb (class_of less pair.key) (class_of less pair.key) refl in
        omega (
          arith,
          many,
          few pair.key,
          length-filter test (distinct_keys keys),
          ap (count_by test) (distinct_stay (keys_of first) distinct),
          count_keys test first,
          ap (count_by (λ (p : Pair). test p.key)) cut,
          sum_by-append (λ (p : Pair). flag (test p.key)) front (pair ∷ back),
          sum_by-cons (λ (p : Pair). flag (test p.key)) pair back,
          ap flag own_one,
        )
  ]
