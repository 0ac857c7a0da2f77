-- Calls that find room: what each answers depends on what is held at its key alone, so calls of different keys commute.
use Rattle.std.proofs.Common.{◌≡◌, ◌≢◌, ℕ, ◌⊎◌, Bool, true, false, cond, List, [], ◌∷◌, Option, Some, None, true≢false, refl, inl, inr, sym, ap, subst, ◌∙◌, arith}
use Rattle.std.specs.Prelude.{is_some, ◌==◌}
use Rattle.std.specs.List.{list_any}
use Rattle.std.specs.Option.{option_map_or}
use Rattle.std.specs.Ordering.{eq_by_cmp}
use Rattle.std.specs.FinMap.{get, get-insert, get-remove, insert, same_map}
use Rattle.std.proofs.lemmas.Bool.{cases_Bool, eqb-true, lt-ltb, or_cases, or_left, or_right}
use Rattle.std.proofs.lemmas.Map.Keys.{IsDistinct-cons}
use Rattle.std.proofs.lemmas.Map.Made.{length-le_from_is_member}
use Rattle.std.specs.List.{AllByRecursion}
use Rattle.plain_map.specs.declared.keys.Key.{Key}
use Rattle.plain_map.specs.declared.rules.Rules.{Rules}
use Rattle.plain_map.specs.declared.calls.Call.{Call}
use Rattle.plain_map.specs.declared.calls.Call.TheVariants.{Insert, Remove, Lookup, Tally, Count, Put}
use Rattle.plain_map.specs.declared.calls.Reply.TheVariants.{Absent}
use Rattle.plain_map.specs.declared.records.Record.{Record}
use Rattle.plain_map.specs.Calls.{key_in}
use Rattle.plain_map.specs.Keys.{Session, key_cmp}
use Rattle.plain_map.specs.PlainObject.{Sessions, class_of, class_size, count_reply, counted_session, found_in, gone_from, grown, has_room, insert_reply, inserted, map_after, new_session, reply_of, revalued, revised, sum_of, tallied}
use Rattle.plain_map.proofs.KeyLemmas.{keys_total, exact_keys}
use Rattle.plain_map.proofs.LocalityLemmas.{map_after-other}
use Rattle.bucket_states.specs.Items.{same_key}
use Rattle.bucket_states.proofs.KeyTests.{Decides-same_key, same_key-equiv}
use Rattle.bucket_states.proofs.SizeLemmas.{entry_keys, of_class, class_size-keys, distinct_of_class, member_of_class}
use Rattle.list_laws.proofs.Lists.{In}
use Rattle.placing_laws.specs.OneThread.{Inserts, SomeInserts, MayBeHeld, HasRoomForAll}

-- two keys are one or two
pub one_key : (a b : Key) → (a ≡ b) ⊎ (a ≢ b)
one_key a b = elim (cases_Bool (same_key a b)) [
  | inl same ↦ inl ((Decides-same_key a b).0 same)
  | inr other ↦ inr (λ is. true≢false (sym ((Decides-same_key a b).1 is) ∙ other))
]

-- a call that brings a new key finds room
abbrev pub FindsRoom : Rules → Sessions → Call → Type 0
FindsRoom rules m (Insert key value) = get m key ≡ None → has_room rules m key ≡ true
FindsRoom rules m (Remove key) = Unit {0}
FindsRoom rules m (Lookup key) = Unit {0}
FindsRoom rules m (Tally key amount) = Unit {0}
FindsRoom rules m (Count key value amount) = get m key ≡ None → has_room rules m key ≡ true
FindsRoom rules m (Put key value) = get m key ≡ None → has_room rules m key ≡ true

-- a reply that depends on what is held at the key, and for a new one on room, is the same where there is room
same_with_room : {A : Type 0} (rules : Rules) (m n : Sessions) (key : Key) (reply : Option Session → Bool → A) →
    ((held : Session) (a b : Bool) → reply (Some held) a ≡ reply (Some held) b) →
    (get m key ≡ None → has_room rules m key ≡ true) → (get n key ≡ None → has_room rules n key ≡ true) →
    get m key ≡ get n key → reply (get m key) (has_room rules m key) ≡ reply (get n key) (has_room rules n key)
same_with_room rules m n key reply alike room roomy same = go (get n key) refl
  where
    go : (o : Option Session) → get n key ≡ o →
        reply (get m key) (has_room rules m key) ≡ reply (get n key) (has_room rules n key)
    go (Some held) is =
        ap (λ o. reply o (has_room rules m key)) (same ∙ is) ∙ alike held (has_room rules m key) (has_room rules n key)
        ∙ sym (ap (λ o. reply o (has_room rules n key)) is)
    go None is =
        ap (λ o. reply o (has_room rules m key)) (same ∙ is) ∙ ap (reply None) (room (same ∙ is))
        ∙ sym (ap (λ o. reply o (has_room rules n key)) is ∙ ap (reply None) (roomy is))

-- a reply depends on what is held at the key alone
pub reply_same : (rules : Rules) (m n : Sessions) (call : Call) → FindsRoom rules m call → FindsRoom rules n call →
    get m (key_in call) ≡ get n (key_in call) → reply_of rules m call ≡ reply_of rules n call
unfolding reply_of
reply_same rules m n (Insert key value) room roomy same =
    same_with_room rules m n key insert_reply (λ held a b. refl) room roomy same
reply_same rules m n (Remove key) room roomy same = ap (λ o. option_map_or gone_from o Absent) same
reply_same rules m n (Lookup key) room roomy same = ap (λ o. option_map_or found_in o Absent) same
reply_same rules m n (Tally key amount) room roomy same = ap (λ o. option_map_or (sum_of amount) o Absent) same
reply_same rules m n (Count key value amount) room roomy same =
    same_with_room rules m n key (count_reply amount) (λ held a b. refl) room roomy same
reply_same rules m n (Put key value) room roomy same =
    same_with_room rules m n key insert_reply (λ held a b. refl) room roomy same

-- what is held at a key to which one session comes, in two maps that hold the same there
insert_alike : (m n : Sessions) (key : Key) (new : Session) → get m key ≡ get n key →
    get (insert m key new) key ≡ get (insert n key new) key
insert_alike m n key new same =
    get-insert keys_total m key new key ∙ ap (cond (eq_by_cmp key_cmp key key) (Some new)) same
    ∙ sym (get-insert keys_total n key new key)

-- what is held after a change or a new session
revised_same : (rules : Rules) (m n : Sessions) (key : Key) (new : Session) (change : Session → Session) →
    (get m key ≡ None → has_room rules m key ≡ true) → (get n key ≡ None → has_room rules n key ≡ true) →
    get m key ≡ get n key →
    get (revised m key new change (get m key) (has_room rules m key)) key
    ≡ get (revised n key new change (get n key) (has_room rules n key)) key
revised_same rules m n key new change room roomy same = go (get n key) refl
  where
    go : (o : Option Session) → get n key ≡ o →
        get (revised m key new change (get m key) (has_room rules m key)) key
        ≡ get (revised n key new change (get n key) (has_room rules n key)) key
    go (Some held) is =
        ap (λ o. get (revised m key new change o (has_room rules m key)) key) (same ∙ is)
        ∙ insert_alike m n key (change held) same
        ∙ sym (ap (λ o. get (revised n key new change o (has_room rules n key)) key) is)
    go None is =
        ap (λ o. get (revised m key new change o (has_room rules m key)) key) (same ∙ is)
        ∙ ap (λ b. get (revised m key new change None b) key) (room (same ∙ is))
        ∙ insert_alike m n key new same
        ∙ sym (ap (λ o. get (revised n key new change o (has_room rules n key)) key) is
        ∙ ap (λ b. get (revised n key new change None b) key) (roomy is))

-- and so does what is held there then
pub held_same : (rules : Rules) (m n : Sessions) (call : Call) → FindsRoom rules m call → FindsRoom rules n call →
    get m (key_in call) ≡ get n (key_in call) →
    get (map_after rules m call) (key_in call) ≡ get (map_after rules n call) (key_in call)
unfolding map_after
held_same rules m n (Insert key value) room roomy same = go (get n key) refl
  where
    new : Session
    new = new_session value

    go : (o : Option Session) → get n key ≡ o →
        get (inserted m key new (get m key) (has_room rules m key)) key
        ≡ get (inserted n key new (get n key) (has_room rules n key)) key
    go (Some held) is =
        ap (λ o. get (inserted m key new o (has_room rules m key)) key) (same ∙ is) ∙ same
        ∙ sym (ap (λ o. get (inserted n key new o (has_room rules n key)) key) is)
    go None is =
        ap (λ o. get (inserted m key new o (has_room rules m key)) key) (same ∙ is)
        ∙ ap (λ b. get (inserted m key new None b) key) (room (same ∙ is))
        ∙ get-insert keys_total m key new key
        ∙ ap (cond (eq_by_cmp key_cmp key key) (Some new)) same
        ∙ sym (get-insert keys_total n key new key)
        ∙ sym (ap (λ o. get (inserted n key new o (has_room rules n key)) key) is
        ∙ ap (λ b. get (inserted n key new None b) key) (roomy is))
held_same rules m n (Remove key) room roomy same =
    get-remove keys_total m key key ∙ ap (cond (eq_by_cmp key_cmp key key) None) same
    ∙ sym (get-remove keys_total n key key)
held_same rules m n (Lookup key) room roomy same = same
held_same rules m n (Tally key amount) room roomy same = go (get n key) refl
  where
    go : (o : Option Session) → get n key ≡ o →
        get (tallied m key amount (get m key)) key ≡ get (tallied n key amount (get n key)) key
    go None is =
        ap (λ o. get (tallied m key amount o) key) (same ∙ is) ∙ same
        ∙ sym (ap (λ o. get (tallied n key amount o) key) is)
    go (Some held) is =
        ap (λ o. get (tallied m key amount o) key) (same ∙ is)
        ∙ get-insert keys_total m key (grown held amount) key
        ∙ ap (cond (eq_by_cmp key_cmp key key) (Some (grown held amount))) same
        ∙ sym (get-insert keys_total n key (grown held amount) key)
        ∙ sym (ap (λ o. get (tallied n key amount o) key) is)
held_same rules m n (Count key value amount) room roomy same =
    revised_same rules m n key (counted_session value amount) (λ held. grown held amount) room roomy same
held_same rules m n (Put key value) room roomy same =
    revised_same rules m n key (new_session value) (λ held. revalued held value) room roomy same

-- after another call that finds room as before, a call is answered as before
pub reply_after : (rules : Rules) (m : Sessions) (first second : Call) → key_in second ≢ key_in first →
    FindsRoom rules m second → FindsRoom rules (map_after rules m first) second →
    reply_of rules (map_after rules m first) second ≡ reply_of rules m second
reply_after rules m first second other room roomy =
    reply_same rules (map_after rules m first) m second roomy room (map_after-other rules m first (key_in second) other)

-- calls of two keys commute
pub calls_commute : (rules : Rules) (m : Sessions) (a b : Call) → key_in a ≢ key_in b →
    FindsRoom rules m a → FindsRoom rules m b → FindsRoom rules (map_after rules m a) b →
    FindsRoom rules (map_after rules m b) a →
    map_after rules (map_after rules m a) b ≡ map_after rules (map_after rules m b) a
calls_commute rules m a b other room_a room_b roomy_b roomy_a = same_map keys_total exact_keys _ _ at
  where
    at : (q : Key) → get (map_after rules (map_after rules m a) b) q ≡ get (map_after rules (map_after rules m b) a) q
    at q = elim (one_key q (key_in a)) [
      | inl is ↦ subst (λ (k : Key). get (map_after rules (map_after rules m a) b) k ≡ get
          (map_after rules (map_after rules m b) a) k) (sym is)
          (map_after-other rules (map_after rules m a) b (key_in a) other
          ∙ held_same rules m (map_after rules m b) a room_a roomy_a (sym (map_after-other rules m b (key_in a) other)))
      | inr not_a ↦ elim (one_key q (key_in b)) [
        | inl is ↦ subst (λ (k : Key). get (map_after rules (map_after rules m a) b) k ≡ get
            (map_after rules (map_after rules m b) a) k) (sym is)
            (held_same rules (map_after rules m a) m b roomy_b room_b
            (map_after-other rules m a (key_in b) (λ e. other (sym e)))
            ∙ sym (map_after-other rules (map_after rules m b) a (key_in b) (λ e. other (sym e))))
        | inr not_b ↦
            map_after-other rules (map_after rules m a) b q not_b ∙ map_after-other rules m a q not_a
            ∙ sym (map_after-other rules (map_after rules m b) a q not_a ∙ map_after-other rules m b q not_b)
      ]
    ]

-- ---- room

-- there is room in every class for all that these records may hold
abbrev pub Roomy : Rules → Sessions → List Record → Type 0
Roomy rules m records = (class : ℕ) → HasRoomForAll rules m records class

-- a record that stands among some and brings a key is one that does
pub inserts_in : (key : Key) (r : Record) (records : List Record) → In r records → Inserts key r.call →
    SomeInserts key records
inserts_in key r [] i ins = elim i [ ]
inserts_in key r (x ∷ records) (inl e) ins = inl (subst (λ (y : Record). Inserts key y.call) e ins)
inserts_in key r (x ∷ records) (inr i) ins = inr (inserts_in key r records i ins)

-- and there is such a record
pub inserts_by : (key : Key) (records : List Record) → SomeInserts key records →
    (r : Record) × In r records × Inserts key r.call
inserts_by key [] i = elim i [ ]
inserts_by key (x ∷ records) (inl ins) = (x, inl refl, ins)
inserts_by key (x ∷ records) (inr s) = let there = inserts_by key records s in (there.0, inr there.1, there.2)

-- what is held after a call was held before it, or the call brings it
held_after : (rules : Rules) (m : Sessions) (call : Call) (key : Key) → get (map_after rules m call) key ≢ None →
    (get m key ≢ None) ⊎ Inserts key call
unfolding map_after
held_after rules m (Insert other value) key held = elim (one_key key other) [
  | inl is ↦ inr (sym is)
  | inr not ↦ inl (λ none. held (map_after-other rules m (Insert other value) key not ∙ none))
]
held_after rules m (Remove other) key held = elim (one_key key other) [
  | inl is ↦ inl (λ none. held (get-remove keys_total m other key ∙ none_both (eq_by_cmp key_cmp key other) none))
  | inr not ↦ inl (λ none. held (map_after-other rules m (Remove other) key not ∙ none))
]
  where
    none_both : (b : Bool) → get m key ≡ None → cond b None (get m key) ≡ None
    none_both true none = refl
    none_both false none = none
held_after rules m (Lookup other) key held = inl held
held_after rules m (Tally other amount) key held = elim (one_key key other) [
  | inl is ↦ inl (λ none. held (ap (λ o. get (tallied m other amount o) key) (ap (get m) (sym is) ∙ none) ∙ none))
  | inr not ↦ inl (λ none. held (map_after-other rules m (Tally other amount) key not ∙ none))
]
held_after rules m (Count other value amount) key held = elim (one_key key other) [
  | inl is ↦ inr (sym is)
  | inr not ↦ inl (λ none. held (map_after-other rules m (Count other value amount) key not ∙ none))
]
held_after rules m (Put other value) key held = elim (one_key key other) [
  | inl is ↦ inr (sym is)
  | inr not ↦ inl (λ none. held (map_after-other rules m (Put other value) key not ∙ none))
]

-- some of the records have room after one of them
pub roomy_after : (rules : Rules) (m : Sessions) (records some : List Record) (r : Record) → Roomy rules m records →
    In r records → ((x : Record) → In x some → In x records) → Roomy rules (map_after rules m r.call) some
roomy_after rules m records some r roomy there within class =
    let room = roomy class in
    record {
      keys = room.keys;
      few = room.few;
      among = λ key of may. room.among key of (before key may);
    }
  where
    before : (key : Key) → MayBeHeld (map_after rules m r.call) some key → MayBeHeld m records key
    before key (inl held) = elim (held_after rules m r.call key held) [
      | inl earlier ↦ inl earlier
      | inr ins ↦ inr (inserts_in key r records there ins)
    ]
    before key (inr ins) =
        let by = inserts_by key some ins in
        inr (inserts_in key by.0 records (within by.0 by.1) by.2)

-- no key among those of a list is one that is not held
all_apart : (m : Sessions) (k : Key) (ks : List Key) → get m k ≡ None →
    ((q : Key) → list_any (same_key q) ks ≡ true → get m q ≡ None → ⊥) →
    AllByRecursion (λ (x : Key). same_key k x ≡ false) ks
all_apart m k [] e never = tt
all_apart m k (x ∷ ks) e never = (
  elim (cases_Bool (same_key k x)) [
    | inl same ↦ absurd (never k (or_left (same_key k x) (list_any (same_key k) ks) same) e)
    | inr other ↦ other
  ],
  all_apart m k ks e (λ q i. never q (or_right (same_key q x) (list_any (same_key q) ks) i)),
)

-- a test of a value that is not there fails
nothing_held : (b : Bool) (o : Option Session) → o ≡ None → is_some (cond b o None) ≡ false
nothing_held true o e = ap is_some e
nothing_held false o e = refl

-- and one that passes tells both
both_held : (b : Bool) (o : Option Session) → is_some (cond b o None) ≡ true → (b ≡ true) × (o ≢ None)
both_held true (Some v) h = (refl, λ e. cc)
both_held true None h = absurd (true≢false (sym h))
both_held false o h = absurd (true≢false (sym h))

-- a new key of one of the records finds room
new_finds_room : (rules : Rules) (m : Sessions) (records : List Record) → Roomy rules m records →
    (key : Key) → SomeInserts key records → get m key ≡ None → has_room rules m key ≡ true
new_finds_room rules m records roomy key inserts none =
    let class : ℕ = class_of rules key in
    let room = roomy class in
    let held : List Key = entry_keys (of_class rules m class) in
    let absent : (q : Key) → list_any (same_key q) held ≡ true → get m q ≡ None → ⊥ =
    λ q i e. true≢false (sym i ∙ member_of_class rules m class q
    ∙ nothing_held (class_of rules q == class) (get m q) e) in
    let of_held : (q : Key) → list_any (same_key q) held ≡ true → list_any (same_key q) room.keys ≡ true = λ q i.
    let facts = both_held (class_of rules q == class) (get m q) (sym (member_of_class rules m class q) ∙ i) in
    room.among q (eqb-true _ _ facts.0) (inl facts.1) in
    let among : (q : Key) → list_any (same_key q) (key ∷ held) ≡ true → list_any (same_key q) room.keys ≡ true =
    λ q i. elim (or_cases (same_key q key) (list_any (same_key q) held) i) [
      | inl e ↦ subst (λ (k : Key). list_any (same_key k) room.keys ≡ true) (sym ((Decides-same_key q key).0 e))
          (room.among key refl (inr inserts))
      | inr j ↦ of_held q j
    ] in
    let few = length-le_from_is_member same_key-equiv (key ∷ held) room.keys
    (IsDistinct-cons same_key key held (all_apart m key held none absent) (distinct_of_class rules m class))
    among in
    lt-ltb (class_size rules m class) rules.items (omega (arith, few, room.few, class_size-keys rules m class))

-- a record among them finds room
pub finds_room : (rules : Rules) (m : Sessions) (records : List Record) (r : Record) → Roomy rules m records →
    In r records → FindsRoom rules m r.call
finds_room rules m records r roomy there = go r.call refl
  where
    brings : (key : Key) → Inserts key r.call → get m key ≡ None → has_room rules m key ≡ true
    brings key it = new_finds_room rules m records roomy key (inserts_in key r records there it)

    go : (call : Call) → r.call ≡ call → FindsRoom rules m call
    go (Insert key value) is = brings key (subst (λ (c : Call). Inserts key c) (sym is) refl)
    go (Remove key) is = tt
    go (Lookup key) is = tt
    go (Tally key amount) is = tt
    go (Count key value amount) is = brings key (subst (λ (c : Call). Inserts key c) (sym is) refl)
    go (Put key value) is = brings key (subst (λ (c : Call). Inserts key c) (sym is) refl)
