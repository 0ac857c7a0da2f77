-- What a class by itself answers.
use Rattle.std.proofs.Common.{◌≡◌, ◌≢◌, ◌⊎◌, inl, inr, ℕ, ◌^◌, ◌<◌, ◌==◌, Bool, true, false, cond, List, length, set, None, Result, Ok, Err, refl, sym, ap, ◌∙◌, subst, arith}
use Rattle.std.specs.Prelude.{IfOk, OnErr, OnOk, nat_lt}
use Rattle.std.specs.declared.alloc.AllocError.{AllocError}
use Rattle.std.specs.declared.cmp.Ordering.TheVariants.{Equal}
use Rattle.std.specs.FinMap.{empty, entries, entries_sorted, get, get-empty, get-entries}
use Rattle.std.specs.FinMap.Entries.{find, where_key, is_sorted-where_key, find-where_key, same_entries}
use Rattle.std.proofs.lemmas.List.{get_or-set_same, get_or-set_other, set-get_or}
use Rattle.std.proofs.Math.ListN.{length-set}
use Rattle.std.proofs.lemmas.List.Sums.{length-filter}
use Rattle.std.proofs.lemmas.Bool.{cases_eq, eq-eqb, false≢true}
use Rattle.hash_bits.specs.Prefix.{NoBits}
use Rattle.plain_map.specs.declared.keys.Key.{Key}
use Rattle.plain_map.specs.declared.rules.Rules.{Rules}
use Rattle.plain_map.specs.declared.calls.Call.{Call}
use Rattle.plain_map.specs.declared.calls.Call.TheVariants.{Insert, Remove, Lookup, Tally, Count, Put}
use Rattle.plain_map.specs.declared.calls.Reply.{Reply}
use Rattle.plain_map.specs.Calls.{key_in}
use Rattle.plain_map.specs.Keys.{Session, key_cmp, hash_of_key}
use Rattle.plain_map.specs.PlainObject.{IsInsertOfNew, Sessions, pairs_of, class_of, class_size, count_reply, counted_session, grown, insert_reply, inserted, new_session, reply_of, revalued, revised, map_after}
use Rattle.plain_map.specs.Locality.{AgreeIn, ChangesLocally, KeepsOtherKeys, RepliesLocally}
use Rattle.plain_map.proofs.KeyLemmas.{exact_keys, hash_of_key-within, keys_total}
use Rattle.plain_map.proofs.LocalityLemmas.{count_by-pairs}
use Rattle.class_map.specs.Rows.{HasEachClass, Holds, one_class, row_at}

-- where every key that is held passes the test, all entries pass it
all_pass : (test : Key → Bool) (m : Sessions) → ((q : Key) → test q ≡ false → get m q ≡ None) →
    where_key key_cmp test (entries m) ≡ entries m
all_pass test m none =
    let alike : (q x : Key) → key_cmp q x ≡ Equal → test x ≡ test q = λ q x tie. ap test (sym (exact_keys q x tie)) in
    same_entries key_cmp keys_total exact_keys _ _
    (is_sorted-where_key key_cmp test (entries m) (entries_sorted m))
    (entries_sorted m)
    (λ q. find-where_key key_cmp test q (alike q) (entries m) ∙ found q (test q) refl)
  where
    found : (q : Key) (b : Bool) → test q ≡ b →
        cond (test q) (find key_cmp q (entries m)) None ≡ find key_cmp q (entries m)
    found q true is = ap (λ b. cond b (find key_cmp q (entries m)) None) is
    found q false is = ap (λ b. cond b (find key_cmp q (entries m)) None) is
        ∙ sym (sym (get-entries m q) ∙ none q is)

-- so many keys are of the class as are held at all
all_counted : (rules : Rules) (class : ℕ) (m : Sessions) → ((q : Key) → class_of rules q ≢ class → get m q ≡ None) →
    class_size rules m class ≡ length (entries m)
unfolding class_size pairs_of
all_counted rules class m none =
    let test : Key → Bool = λ key. class_of rules key == class in
    count_by-pairs test (entries m)
    ∙ sym (length-filter (λ (e : Key × Session). test e.0) (entries m))
    ∙ ap length (all_pass test m (λ q fails. none q (differs (class_of rules q) class fails)))
  where
    differs : (a b : ℕ) → (a == b) ≡ false → a ≢ b
    differs a b fails same = false≢true (sym fails ∙ eq-eqb a b same)

-- One class.

-- every key is of the one class
zero_class : NoBits → (rules : Rules) (key : Key) → class_of (one_class rules) key ≡ 0
unfolding class_of
zero_class none rules key = none (hash_of_key rules.hashing key) (hash_of_key-within rules.hashing key)

-- no key of another class is held
abbrev pub OwnKeys : Rules → (class : ℕ) → Sessions → Type 0
OwnKeys rules class m = (q : Key) → class_of rules q ≢ class → get m q ≡ None

-- so it has as many keys by either rules
same_size : NoBits → (rules : Rules) (m : Sessions) (key : Key) → OwnKeys rules (class_of rules key) m →
    class_size (one_class rules) m (class_of (one_class rules) key) ≡ class_size rules m (class_of rules key)
same_size none rules m key own =
    all_counted (one_class rules) (class_of (one_class rules) key) m
    (λ q other. absurd (other (zero_class none rules q ∙ sym (zero_class none rules key))))
    ∙ sym (all_counted rules (class_of rules key) m own)

-- the same reply
same_reply : NoBits → (rules : Rules) (m : Sessions) (call : Call) → OwnKeys rules (class_of rules (key_in call)) m →
    reply_of (one_class rules) m call ≡ reply_of rules m call
unfolding reply_of
same_reply none rules m (Insert key value) own =
    ap (λ (k : ℕ). insert_reply (get m key) (nat_lt k rules.items)) (same_size none rules m key own)
same_reply none rules m (Remove key) own = refl
same_reply none rules m (Lookup key) own = refl
same_reply none rules m (Tally key amount) own = refl
same_reply none rules m (Count key value amount) own =
    ap (λ (k : ℕ). count_reply amount (get m key) (nat_lt k rules.items)) (same_size none rules m key own)
same_reply none rules m (Put key value) own =
    ap (λ (k : ℕ). insert_reply (get m key) (nat_lt k rules.items)) (same_size none rules m key own)

-- and the same change
same_change : NoBits → (rules : Rules) (m : Sessions) (call : Call) → OwnKeys rules (class_of rules (key_in call)) m →
    map_after (one_class rules) m call ≡ map_after rules m call
unfolding map_after
same_change none rules m (Insert key value) own =
    ap (λ (k : ℕ). inserted m key (new_session value) (get m key) (nat_lt k rules.items))
    (same_size none rules m key own)
same_change none rules m (Remove key) own = refl
same_change none rules m (Lookup key) own = refl
same_change none rules m (Tally key amount) own = refl
same_change none rules m (Count key value amount) own =
    ap (λ (k : ℕ). revised m key (counted_session value amount) (λ held. grown held amount) (get m key)
    (nat_lt k rules.items)) (same_size none rules m key own)
same_change none rules m (Put key value) own =
    ap (λ (k : ℕ). revised m key (new_session value) (λ held. revalued held value) (get m key)
    (nat_lt k rules.items)) (same_size none rules m key own)

-- All classes.

-- what a list of rows holds where one is changed
set_same : (rows : List Sessions) (class : ℕ) (m : Sessions) → class < length rows → row_at (set rows class m) class ≡ m
set_same rows class m inside = get_or-set_same rows class m empty inside

-- and at another place
set_other : (rows : List Sessions) (class other : ℕ) (m : Sessions) → (other ≡ class → ⊥) →
    row_at (set rows class m) other ≡ row_at rows other
set_other rows class other m differ = get_or-set_other rows class other m empty differ

-- no pairs, no keys
pub holds_none : (rows : List Sessions) (rules : Rules) → length rows ≡ 2 ^ rules.depth →
    ((class : ℕ) → class < length rows → row_at rows class ≡ empty) → Holds rows rules empty
holds_none rows rules many all = record {
  many = many;
  agree = λ class low key within. ap (λ (m : Sessions). get m key) (all class (omega (arith, many, low)));
  own = λ class key low other.
      ap (λ (m : Sessions). get m key) (all class (omega (arith, many, low))) ∙ get-empty key_cmp key;
}

-- a call changes its own class
pub holds_after : NoBits → ChangesLocally → KeepsOtherKeys → (rows : List Sessions) (rules : Rules)
    (sessions : Sessions)
    (call : Call) (class : ℕ) → Holds rows rules sessions → class_of rules (key_in call) ≡ class → class < length rows →
    Holds (set rows class (map_after (one_class rules) (row_at rows class) call)) rules (map_after rules sessions call)
holds_after none changes others rows rules sessions call class holds is inside = record {
  many = length-set rows class made ∙ holds.many;
  agree = λ other low. agree_at other low (cases_eq other class);
  own = λ other key low differs. own_at other key low differs (cases_eq other class);
}
  where
    row : Sessions
    row = row_at rows class

    made : Sessions
    made = map_after (one_class rules) row call

    low_class : class < 2 ^ rules.depth
    low_class = omega (arith, holds.many, inside)

    made_is : made ≡ map_after rules row call
    made_is = same_change none rules row call (λ q other. holds.own class q low_class (λ same. other (same ∙ sym is)))

    agree_at : (other : ℕ) → other < 2 ^ rules.depth → (other ≡ class) ⊎ (other ≡ class → ⊥) →
        AgreeIn rules other (row_at (set rows class made) other) (map_after rules sessions call)
    agree_at other low (inl same) key within =
        ap (λ (n : ℕ). get (row_at (set rows class made) n) key) same
        ∙ ap (λ (m : Sessions). get m key) (set_same rows class made inside ∙ made_is)
        ∙ changes rules row sessions call
        (subst (λ (n : ℕ). AgreeIn rules n row sessions) (sym is) (holds.agree class low_class)) key
        (within ∙ same ∙ sym is)
    agree_at other low (inr differ) key within =
        ap (λ (m : Sessions). get m key) (set_other rows class other made differ)
        ∙ holds.agree other low key within
        ∙ sym (others rules sessions call key (λ same. differ (sym within ∙ ap (class_of rules) same ∙ is)))

    own_at : (other : ℕ) (key : Key) → other < 2 ^ rules.depth → class_of rules key ≢ other →
        (other ≡ class) ⊎ (other ≡ class → ⊥) → get (row_at (set rows class made) other) key ≡ None
    own_at other key low differs (inl same) =
        ap (λ (n : ℕ). get (row_at (set rows class made) n) key) same
        ∙ ap (λ (m : Sessions). get m key) (set_same rows class made inside)
        ∙ others (one_class rules) row call key (λ alike. differs (ap (class_of rules) alike ∙ is ∙ sym same))
        ∙ holds.own class key low_class (λ alike. differs (alike ∙ sym same))
    own_at other key low differs (inr differ) =
        ap (λ (m : Sessions). get m key) (set_other rows class other made differ) ∙ holds.own other key low differs

-- and its reply is that of all sessions
pub reply_is : NoBits → RepliesLocally → (rows : List Sessions) (rules : Rules) (sessions : Sessions) (call : Call)
    (class : ℕ) → Holds rows rules sessions → class_of rules (key_in call) ≡ class → class < length rows →
    reply_of (one_class rules) (row_at rows class) call ≡ reply_of rules sessions call
reply_is none replies rows rules sessions call class holds is inside =
    same_reply none rules (row_at rows class) call
    (λ q other. holds.own class q (omega (arith, holds.many, inside)) (λ same. other (same ∙ sym is)))
    ∙ replies rules (row_at rows class) sessions call
    (subst (λ (n : ℕ). AgreeIn rules n (row_at rows class) sessions) (sym is)
    (holds.agree class (omega (arith, holds.many, inside))))

-- the answer of the class by itself is that of all sessions
pub answered : NoBits → RepliesLocally → ChangesLocally → KeepsOtherKeys → (rows : List Sessions) (rules : Rules)
    (sessions : Sessions) (call : Call) (class : ℕ) (row after : Sessions) (r : Result Reply AllocError) →
    Holds rows rules sessions → class_of rules (key_in call) ≡ class → class < length rows → row ≡ row_at rows class →
    IfOk r (λ reply. reply ≡ reply_of (one_class rules) row call) →
    OnOk r (after ≡ map_after (one_class rules) row call) →
    IfOk r (λ reply. (reply ≡ reply_of rules sessions call) × Holds (set rows class after) rules
    (map_after rules sessions call))
answered none replies changes others rows rules sessions call class row after
    (Err stop) holds is inside at reply change = tt
answered none replies changes others rows rules sessions call class row after
    (Ok value) holds is inside at reply change = (
      reply ∙ ap (λ (m : Sessions). reply_of (one_class rules) m call) at
          ∙ reply_is none replies rows rules sessions call class holds is inside,
      subst (λ (m : Sessions). Holds (set rows class m) rules (map_after rules sessions call))
          (sym (change ∙ ap (λ (m : Sessions). map_after (one_class rules) m call) at))
          (holds_after none changes others rows rules sessions call class holds is inside),
    )

-- with another row in its place there is one for each class still
pub still_each_class : (rows : List Sessions) (rules : Rules) (class : ℕ) (m : Sessions) → HasEachClass rows rules →
    HasEachClass (set rows class m) rules
still_each_class rows rules class m many = length-set rows class m ∙ many

-- a key that its class does not hold is held nowhere
new_to_all : (rows : List Sessions) (rules : Rules) (sessions : Sessions) (call : Call) (class : ℕ) →
    Holds rows rules sessions → class_of rules (key_in call) ≡ class → class < 2 ^ rules.depth →
    IsInsertOfNew (row_at rows class) call → IsInsertOfNew sessions call
new_to_all rows rules sessions (Insert key value) class holds is low new = sym (holds.agree class low key is) ∙ new
new_to_all rows rules sessions (Remove key) class holds is low new = new
new_to_all rows rules sessions (Lookup key) class holds is low new = new
new_to_all rows rules sessions (Tally key amount) class holds is low new = new
new_to_all rows rules sessions (Count key value amount) class holds is low new =
    sym (holds.agree class low key is) ∙ new
new_to_all rows rules sessions (Put key value) class holds is low new = sym (holds.agree class low key is) ∙ new

-- where the class has no memory for the call, it is a new key's insert, and all sessions are as before
pub refused : (rows : List Sessions) (rules : Rules) (sessions : Sessions) (call : Call) (class : ℕ)
    (row after : Sessions) (r : Result Reply AllocError) →
    Holds rows rules sessions → class_of rules (key_in call) ≡ class → class < length rows → row ≡ row_at rows class →
    OnErr r (after ≡ row) → OnErr r (IsInsertOfNew row call) →
    OnErr r (IsInsertOfNew sessions call × Holds (set rows class after) rules sessions)
refused rows rules sessions call class row after (Ok value) holds is inside at same new = tt
refused rows rules sessions call class row after (Err stop) holds is inside at same new = (
  new_to_all rows rules sessions call class holds is (omega (arith, holds.many, inside))
      (subst (λ (m : Sessions). IsInsertOfNew m call) at new),
  subst (λ (xs : List Sessions). Holds xs rules sessions)
      (sym (ap (set rows class) (same ∙ at) ∙ set-get_or rows class empty)) holds,
)
