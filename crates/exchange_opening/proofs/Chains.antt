-- Chains of places, walked and made longer.
use Rattle.std.proofs.Common.{◌≡◌, ℕ, ◌+◌, ◌-◌, ◌^◌, ◌<◌, ◌≤◌, Bool, true, false, cond, List, [], ◌∷◌, ◌++◌, length, get_or, set, Option, Some, None, inl, inr, refl, sym, ap, ◌∙◌, subst, arith, length-append, length-set, get_or-set_same, get_or-set_other, lt-ltb}
use Rattle.std.proofs.lemmas.Bool.{le-ltb}
use Rattle.std.specs.Prelude.{◌&&◌, is_some, nat_lt, not}
use Rattle.std.proofs.lemmas.Bool.{cases_eq}
use Rattle.plain_map.specs.declared.keys.Key.{Key}
use Rattle.plain_map.specs.declared.keys.Pair.{Pair}
use Rattle.plain_map.specs.declared.rules.Rules.{Rules}
use Rattle.plain_map.specs.Keys.{Session, held_in}
use Rattle.plain_map.specs.PlainObject.{InRange, Sessions, class_of, insert_reply, map_after}
use Rattle.bucket_states.specs.Items.{appended, has_place, items_after, overflows, prefix_of, reply_in, same_key, value_at}
use Rattle.bucket_states.specs.Parts.{AnswersAlike, HoldsPart}
use Rattle.bucket_states.proofs.LocalLemmas.{local_answers, other_parts_stay}
use Rattle.exchange_opening.specs.Chains.{AreLinked, HasCounted, InClass, IsChain, as_brought, pair_at, pairs_on}
use Rattle.exchange_opening.specs.FirstPairs.{bringing, lacks_room, tells_no_room}

-- ---- chains

-- a chain is one below a greater bound too
pub chain_wider : (links : List ℕ) (bound more link : ℕ) (places : List ℕ) → bound ≤ more →
    IsChain links bound link places → IsChain links more link places
chain_wider links bound more link [] far k = k
chain_wider links bound more link (place ∷ places) far k = (k.0, omega (arith, far, k.1), k.2)

-- its first link is not above its bound
pub chain_below : (links : List ℕ) (bound link : ℕ) (places : List ℕ) → IsChain links bound link places → link ≤ bound
chain_below links bound link [] k = omega (arith, k)
chain_below links bound link (place ∷ places) k = omega (arith, k.0, k.1)

-- a link that is set from the bound on is none of it
pub chain_set : (links : List ℕ) (bound link at value : ℕ) (places : List ℕ) → bound ≤ at →
    IsChain links bound link places → IsChain (set links at value) bound link places
chain_set links bound link at value [] far k = k
chain_set links bound link at value (place ∷ places) far k = (
  k.0,
  k.1,
  subst (λ (l : ℕ). IsChain (set links at value) place l places)
      (sym (get_or-set_other links at place value 0 (λ same. let less = k.1 in omega (arith, same, less, far))))
      (chain_set links place (get_or links place 0) at value places (let less = k.1 in omega (arith, less, far)) k.2),
)

-- it has as many pairs as places
pub pairs_on_long : (pairs : List Pair) (places : List ℕ) → length (pairs_on pairs places) ≡ length places
pairs_on_long pairs [] = refl
pairs_on_long pairs (place ∷ places) =
    length-append (pairs_on pairs places) (as_brought (pair_at pairs place) ∷ [])
    ∙ (let rest = pairs_on_long pairs places in omega (arith, rest))

-- ---- a key on a chain

-- the key is that of a last pair, or it stands where it stood
some_last : (key : Key) (items : List Pair) (pair : Pair) (same : Bool) → same_key pair.key key ≡ same →
    is_some (value_at key (items ++ pair ∷ [])) ≡ cond same true (is_some (value_at key items))
some_last key [] pair true is = ap (λ (b : Bool). is_some (cond b (Some (held_in pair)) None)) is
some_last key [] pair false is = ap (λ (b : Bool). is_some (cond b (Some (held_in pair)) None)) is
some_last key (first ∷ items) pair same is = go (same_key first.key key) same (some_last key items pair same is)
  where
    go : (here same : Bool) →
        is_some (value_at key (items ++ pair ∷ [])) ≡ cond same true (is_some (value_at key items)) →
        is_some (cond here (Some (held_in first)) (value_at key (items ++ pair ∷ [])))
        ≡ cond same true (is_some (cond here (Some (held_in first)) (value_at key items)))
    go true true rest = refl
    go true false rest = refl
    go false same rest = rest

-- a chain that is walked: what is left of it decides whether the key is on it
pub record IsLeft (pairs : List Pair) (links : List ℕ) (key : Key) (places : List ℕ) (link many : ℕ) : Type 0 where
  pub rest : List ℕ
  pub chain : IsChain links (length pairs) link rest
  pub same : is_some (value_at key (pairs_on pairs places)) ≡ is_some (value_at key (pairs_on pairs rest))
  pub count : many + length rest ≡ length places

module _ (pairs : List Pair) (links : List ℕ) (key : Key) (places : List ℕ) where
  -- at first all of it is
  pub walk_begins : (link : ℕ) → IsChain links (length pairs) link places → IsLeft pairs links key places link 0
  walk_begins link chain = record { rest = places; chain = chain; same = refl; count = omega arith }

  -- where it has not ended, the next place is that of the link
  walk_next : (link many : ℕ) (rest : List ℕ) → IsChain links (length pairs) link rest → (link ≡ 0 → ⊥) →
      (later : List ℕ) × (rest ≡ (link - 1) ∷ later) × (link - 1 < length pairs)
      × IsChain links (link - 1) (get_or links (link - 1) 0) later
  walk_next link many [] chain on = absurd (on chain)
  walk_next link many (place ∷ later) chain on =
      let is : place ≡ link - 1 = omega (arith, chain.0) in (
        later,
        ap (λ (p : ℕ). p ∷ later) is,
        subst (λ (p : ℕ). p < length pairs) is chain.1,
        subst (λ (p : ℕ). IsChain links p (get_or links p 0) later) is chain.2,
      )

  module _ (link many : ℕ) (k : IsLeft pairs links key places link many) (on : link ≡ 0 → ⊥) where
    abbrev next : (later : List ℕ) × (k.rest ≡ (link - 1) ∷ later) × (link - 1 < length pairs)
        × IsChain links (link - 1) (get_or links (link - 1) 0) later
    next = walk_next link many k.rest k.chain on

    -- whether the key stands there decides
    at_link : (same : Bool) → same_key (pair_at pairs (link - 1)).key key ≡ same →
        is_some (value_at key (pairs_on pairs places)) ≡ cond same true (is_some (value_at key (pairs_on pairs next.0)))
    at_link same is = k.same ∙ ap (λ (ps : List ℕ). is_some (value_at key (pairs_on pairs ps))) next.1
        ∙ some_last key (pairs_on pairs next.0) (as_brought (pair_at pairs (link - 1))) same is

    -- the links lead down
    pub walk_falls : get_or links (link - 1) 0 ≤ link - 1
    walk_falls = chain_below links (link - 1) (get_or links (link - 1) 0) next.0 next.3

    -- the key is found
    pub walk_finds : same_key (pair_at pairs (link - 1)).key key ≡ true →
        is_some (value_at key (pairs_on pairs places)) ≡ true
    walk_finds is = at_link true is

    -- or the walk goes on
    pub walk_on : same_key (pair_at pairs (link - 1)).key key ≡ false →
        IsLeft pairs links key places (get_or links (link - 1) 0) (many + 1)
    walk_on is = record {
      rest = next.0;
      chain = chain_wider links (link - 1) (length pairs) (get_or links (link - 1) 0) next.0
          (let less = next.2 in omega (arith, less)) next.3;
      same = at_link false is;
      count = (let long = ap (λ (ps : List ℕ). length ps) next.1 in let all = k.count in omega (arith, long, all));
    }

  -- nothing is left: the key is none of them
  pub walk_ends : (link many : ℕ) → link ≡ 0 → IsLeft pairs links key places link many →
      HasCounted key (pairs_on pairs places) (Some many)
  walk_ends link many none k = ended k.rest k.chain k.same k.count
    where
      nothing : (held : Option Session) → is_some held ≡ false → held ≡ None
      nothing None e = refl
      nothing (Some held) e = absurd (no e)
        where
          no : true ≡ false → ⊥
          no e = cc

      ended : (rest : List ℕ) → IsChain links (length pairs) link rest →
          is_some (value_at key (pairs_on pairs places)) ≡ is_some (value_at key (pairs_on pairs rest)) →
          many + length rest ≡ length places → HasCounted key (pairs_on pairs places) (Some many)
      ended [] chain same count = (
        nothing (value_at key (pairs_on pairs places)) same,
        (let long = pairs_on_long pairs places in omega (arith, count, long)),
      )
      ended (place ∷ rest) chain same count = absurd (omega (arith, chain.0, none))

-- ---- one pair more

-- a class has no room for a new key of its own where it is full, at its full depth
never_splits : (depth : ℕ) (a b : Bool) → (a && (b && nat_lt depth depth)) ≡ false
never_splits depth a b = go (nat_lt depth depth) (le-ltb depth depth (omega arith)) a b
  where
    go : (c : Bool) → c ≡ false → (a b : Bool) → (a && (b && c)) ≡ false
    go c is true true = is
    go c is true false = refl
    go c is false b = refl

module _ (rules : Rules) (range : InRange rules) (pairs : List Pair) (place : ℕ) (less : place < length pairs)
    (lasts links : List ℕ) (sessions : Sessions) (k : AreLinked rules pairs place lasts links sessions)
    (below : class_of rules (pair_at pairs place).key < 2 ^ rules.depth) where
  abbrev pair : Pair
  pair = pair_at pairs place

  abbrev class : ℕ
  class = class_of rules pair.key

  abbrev own : InClass rules pairs links place (get_or lasts class 0) class sessions
  own = k.each class below

  abbrev items : List Pair
  items = pairs_on pairs own.places

  abbrev after : Sessions
  after = map_after rules sessions (bringing pair)

  here : prefix_of rules rules.depth pair.key ≡ class
  unfolding prefix_of class_of
  here = refl

  fits : overflows rules rules.depth items (bringing pair) ≡ false
  unfolding overflows
  fits = never_splits rules.depth (not (is_some (value_at pair.key items))) (not (has_place rules items))

  -- the class answers as the plain map does
  alike : AnswersAlike rules class rules.depth items sessions (bringing pair)
  alike = local_answers rules class rules.depth items sessions (bringing pair)
      (record { range = range; within = omega arith; few = own.few }) own.part here fits

  -- what it answers and becomes
  lacks_is : (held : Option Session) (room : Bool) → value_at pair.key items ≡ held → has_place rules items ≡ room →
      lacks_room rules sessions pair ≡ tells_no_room (insert_reply held room)
  unfolding reply_in
  lacks_is held room is place_is = ap tells_no_room (sym alike.reply)
      ∙ ap (λ (h : Option Session). tells_no_room (insert_reply h (has_place rules items))) is
      ∙ ap (λ (r : Bool). tells_no_room (insert_reply held r)) place_is

  becomes : (held : Option Session) (room : Bool) → value_at pair.key items ≡ held → has_place rules items ≡ room →
      items_after rules items (bringing pair) ≡ appended items (as_brought pair) held room
  unfolding items_after
  becomes held room is place_is =
      ap (λ (h : Option Session). appended items (as_brought pair) h (has_place rules items)) is
      ∙ ap (λ (r : Bool). appended items (as_brought pair) held r) place_is

  -- another class stays as it is
  stays : (other : ℕ) → (other ≡ class → ⊥) →
      (found : InClass rules pairs links place (get_or lasts other 0) other sessions) →
      HoldsPart rules other rules.depth (pairs_on pairs found.places) after
  stays other differs found = other_parts_stay rules other rules.depth (pairs_on pairs found.places) sessions
      (bringing pair) found.part (λ same. differs (sym (sym here ∙ same)))

  -- where the class keeps its pairs, all links stay
  kept : items_after rules items (bringing pair) ≡ items → AreLinked rules pairs (place + 1) lasts links after
  kept same = record {
    classes = k.classes;
    room = k.room;
    each = λ c few. elim (cases_eq c class) [
      | inl is ↦ subst (λ (c : ℕ). InClass rules pairs links (place + 1) (get_or lasts c 0) c after) (sym is) (record {
        places = own.places;
        chain = chain_wider links place (place + 1) (get_or lasts class 0) own.places (omega arith) own.chain;
        part = subst (λ (ps : List Pair). HoldsPart rules class rules.depth ps after) same alike.part;
        few = own.few;
      })
      | inr differs ↦ let found = k.each c few in record {
        places = found.places;
        chain = chain_wider links place (place + 1) (get_or lasts c 0) found.places (omega arith) found.chain;
        part = stays c differs found;
        few = found.few;
      }
    ];
  }

  -- where the pair comes last in its class, it is linked to the one before it
  added : items_after rules items (bringing pair) ≡ items ++ as_brought pair ∷ [] →
      AreLinked rules pairs (place + 1) (set lasts class (place + 1)) (set links place (get_or lasts class 0)) after
  added more = record {
    classes = length-set lasts class (place + 1) ∙ k.classes;
    room = length-set links place (get_or lasts class 0) ∙ k.room;
    each = λ c few. elim (cases_eq c class) [
      | inl is ↦ subst (λ (c : ℕ). InClass rules pairs (set links place (get_or lasts class 0)) (place + 1)
          (get_or (set lasts class (place + 1)) c 0) c after) (sym is) (record {
            places = place ∷ own.places;
            chain = (
              get_or-set_same lasts class (place + 1) 0 (omega (arith, below, k.classes)),
              omega arith,
              subst (λ (l : ℕ). IsChain (set links place (get_or lasts class 0)) place l own.places)
                  (sym (get_or-set_same links place (get_or lasts class 0) 0 (omega (arith, less, k.room))))
                  (chain_set links place (get_or lasts class 0) place (get_or lasts class 0) own.places (omega arith)
                  own.chain),
            );
            part = subst (λ (ps : List Pair). HoldsPart rules class rules.depth ps after) more alike.part;
            few = subst (λ (ps : List Pair). length ps ≤ rules.items) more alike.few;
          })
      | inr differs ↦ let found = k.each c few in record {
        places = found.places;
        chain = subst (λ (l : ℕ). IsChain (set links place (get_or lasts class 0)) (place + 1) l found.places)
            (sym (get_or-set_other lasts class c (place + 1) 0 differs))
            (chain_wider (set links place (get_or lasts class 0)) place (place + 1) (get_or lasts c 0) found.places
            (omega arith) (chain_set links place (get_or lasts c 0) place (get_or lasts class 0) found.places
            (omega arith) found.chain));
        part = stays c differs found;
        few = found.few;
      }
    ];
  }

  -- ---- the three ends

  held_stays : is_some (value_at pair.key items) ≡ true →
      (lacks_room rules sessions pair ≡ false) × AreLinked rules pairs (place + 1) lasts links after
  held_stays is = go (value_at pair.key items) refl is
    where
      go : (held : Option Session) → value_at pair.key items ≡ held → is_some held ≡ true →
          (lacks_room rules sessions pair ≡ false) × AreLinked rules pairs (place + 1) lasts links after
      go (Some held) at some = (
        lacks_is (Some held) (has_place rules items) at refl,
        kept (becomes (Some held) (has_place rules items) at refl),
      )
      go None at some = absurd (no some)
        where
          no : false ≡ true → ⊥
          no e = cc

  new_is_linked : value_at pair.key items ≡ None → length items < rules.items →
      (lacks_room rules sessions pair ≡ false)
      × AreLinked rules pairs (place + 1) (set lasts class (place + 1)) (set links place (get_or lasts class 0)) after
  new_is_linked none few =
      let room : has_place rules items ≡ true = lt-ltb (length items) rules.items few in
      (lacks_is None true none room, added (becomes None true none room))

  full_stays : value_at pair.key items ≡ None → rules.items ≤ length items →
      (lacks_room rules sessions pair ≡ true) × AreLinked rules pairs (place + 1) lasts links after
  full_stays none full =
      let room : has_place rules items ≡ false = le-ltb (length items) rules.items full in
      (lacks_is None false none room, kept (becomes None false none room))

  -- ---- where its class is told by this number

  module _ (number : ℕ) (is : number ≡ class) where
    own_chain : IsChain links (length pairs) (get_or lasts number 0) own.places
    own_chain = subst (λ (n : ℕ). IsChain links (length pairs) (get_or lasts n 0) own.places) (sym is)
        (chain_wider links place (length pairs) (get_or lasts class 0) own.places (omega (arith, less)) own.chain)

    pub chain_of : (places : List ℕ) × IsChain links (length pairs) (get_or lasts number 0) places
    chain_of = (own.places, own_chain)

    module _ (result : Option ℕ) (told : (places : List ℕ) →
        IsChain links (length pairs) (get_or lasts number 0) places →
        HasCounted pair.key (pairs_on pairs places) result) where
      -- the key is held
      pub brings_held : result ≡ None →
          (lacks_room rules sessions pair ≡ false) × AreLinked rules pairs (place + 1) lasts links after
      brings_held none = held_stays (subst (HasCounted pair.key items) none (told own.places own_chain))

      -- it is new, and there is a place
      pub brings_new : (many : ℕ) → result ≡ Some many → many < rules.items →
          (lacks_room rules sessions pair ≡ false)
          × AreLinked rules pairs (place + 1) (set lasts number (place + 1))
          (set links place (get_or lasts number 0)) after
      brings_new many some few =
          let counted : HasCounted pair.key items (Some many) =
          subst (HasCounted pair.key items) some (told own.places own_chain) in
          subst (λ (n : ℕ). (lacks_room rules sessions pair ≡ false)
          × AreLinked rules pairs (place + 1) (set lasts n (place + 1)) (set links place (get_or lasts n 0)) after)
          (sym is) (new_is_linked counted.0 (omega (arith, few, counted.1)))

      -- or there is none
      pub brings_none : (many : ℕ) → result ≡ Some many → rules.items ≤ many →
          (lacks_room rules sessions pair ≡ true) × AreLinked rules pairs (place + 1) lasts links after
      brings_none many some full =
          let counted : HasCounted pair.key items (Some many) =
          subst (HasCounted pair.key items) some (told own.places own_chain) in
          full_stays counted.0 (omega (arith, full, counted.1))
