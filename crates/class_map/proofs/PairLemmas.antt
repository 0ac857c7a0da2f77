-- Pairs that are held, and pairs among others.
use Rattle.std.proofs.Common.{◌≡◌, ◌⊎◌, inl, inr, ℕ, suc, ◌+◌, ◌^◌, ◌<◌, ◌≤◌, Bool, true, false, cond, List, [], ◌∷◌, map, length, get_or, Some, None, Option, refl, sym, ap, ◌∙◌, subst, arith}
use Rattle.std.specs.Prelude.{All, MatchBool}
use Rattle.std.specs.Ordering.{is_eq}
use Rattle.std.specs.FinMap.{empty, entries, entries_sorted, get, get-entries}
use Rattle.std.specs.FinMap.Entries.{find, same_entries}
use Rattle.std.proofs.lemmas.List.{get_or_default}
use Rattle.std.proofs.lemmas.Bool.{cases_eq, cases_lt}
use Rattle.hash_bits.specs.Prefix.{WithinPlaces}
use Rattle.plain_map.specs.declared.keys.Key.{Key}
use Rattle.plain_map.specs.declared.keys.Pair.{Pair}
use Rattle.plain_map.specs.declared.rules.Rules.{Rules}
use Rattle.plain_map.specs.Keys.{Session, entry_of, hash_of_key, held_in, key_cmp, pair_of}
use Rattle.plain_map.specs.Places.{IsAt, IsGapFor, IsInKeyOrder}
use Rattle.plain_map.specs.PlainObject.{InRange, Sessions, class_of, pairs_of}
use Rattle.plain_map.proofs.KeyLemmas.{exact_keys, hash_of_key-within, keys_total, tied}
use Rattle.plain_map.proofs.PlaceLemmas.{find_at, find_in_gap}
use Rattle.plain_map.proofs.SessionLemmas.{pairs_are_ordered, entries_back, pairs_back}
use Rattle.class_map.specs.Pairs.{AreAmong, IsHeld, IsIn}
use Rattle.class_map.specs.Rows.{Holds, row_at}

-- Loops over lists.

-- it holds of the elements before this place
abbrev pub UpTo : {A : Type 0} → (A → Type 0) → List A → (i : ℕ) → Type 0
UpTo {A} P xs i = (k : ℕ) (d : A) → k < i → k < length xs → P (get_or xs k d)

-- of one element more
pub upto_more : {A : Type 0} (P : A → Type 0) (xs : List A) (i : ℕ) (d : A) → i < length xs → UpTo P xs i →
    P (get_or xs i d) → UpTo P xs (i + 1)
upto_more P xs i d inside all here k e within low = elim (cases_lt k i) [
  | inr last ↦
      (let same : i ≡ k = omega arith in
      subst (λ (n : ℕ). P (get_or xs n e)) same (subst P (get_or_default xs i d e inside) here))
  | inl before ↦ all k e before low
]

-- and in the end of all
pub upto_all : {A : Type 0} (P : A → Type 0) (xs : List A) (i : ℕ) → length xs ≤ i → UpTo P xs i → All P xs
upto_all P xs i end all k d inside = all k d (omega (arith, inside, end)) inside

-- Pairs and entries.

-- a pair is its key and what it holds
pair_eta : (p q : Pair) → p.key ≡ q.key → held_in p ≡ held_in q → p ≡ q
pair_eta p q keys helds =
    ap (λ (k : Key). pair_of (k, held_in p)) keys ∙ ap (λ (h : Session). pair_of (q.key, h)) helds

-- what is found among the pairs of a map is what it holds
found_there : (m : Sessions) (q : Key) → find key_cmp q (map entry_of (pairs_of m)) ≡ get m q
unfolding pairs_of
found_there m q = ap (find key_cmp q) (entries_back (entries m)) ∙ sym (get-entries m q)

-- what is found is a pair of the list
find_some : (q : Key) (ps : List Pair) (s : Session) → find key_cmp q (map entry_of ps) ≡ Some s →
    (k : ℕ) × (k < length ps) × (get_or ps k (pair_of (q, s)) ≡ pair_of (q, s))
find_some q [] s is = cc
find_some q (p ∷ ps) s is = go (is_eq (key_cmp q p.key)) refl is (find_some q ps s)
  where
    go : (b : Bool) → is_eq (key_cmp q p.key) ≡ b →
        cond b (Some (held_in p)) (find key_cmp q (map entry_of ps)) ≡ Some s →
        (find key_cmp q (map entry_of ps) ≡ Some s →
        (k : ℕ) × (k < length ps) × (get_or ps k (pair_of (q, s)) ≡ pair_of (q, s))) →
        (k : ℕ) × (k < length (p ∷ ps)) × (get_or (p ∷ ps) k (pair_of (q, s)) ≡ pair_of (q, s))
    go true same here later =
        (let helds : held_in p ≡ s = cc in
        (0, omega arith, pair_eta p (pair_of (q, s)) (sym (exact_keys q p.key (tied (key_cmp q p.key) same))) helds))
    go false other there later =
        (let (k, inside, at) = later there in
        (suc k, omega (arith, inside), at))

-- a pair of a list in order is found there
found_at : (ps : List Pair) (k : ℕ) (d : Pair) → IsInKeyOrder ps → k < length ps → IsIn ps (get_or ps k d)
found_at ps k d ordered inside =
    find_at (get_or ps k d).key ps k d ordered
    (record { in_range = inside; has_key = λ e. ap (λ (p : Pair). p.key) (get_or_default ps k e d inside) })

-- A search.

-- the pair at the place of the key is the one, or is not
pub same_at : (ps : List Pair) (pair : Pair) (at : ℕ) (d : Pair) (b : Bool) → IsInKeyOrder ps → IsAt ps pair.key at →
    MatchBool b (get_or ps at d ≡ pair) (get_or ps at d ≡ pair → ⊥) → MatchBool b (IsIn ps pair) (IsIn ps pair → ⊥)
same_at ps pair at d true ordered here is =
    find_at pair.key ps at d ordered here ∙ ap (λ (p : Pair). Some (held_in p)) is
same_at ps pair at d false ordered here differ = λ there.
    (let both : Some (held_in (get_or ps at d)) ≡ Some (held_in pair) = sym (find_at pair.key ps at d ordered here)
    ∙ there in
    let helds : held_in (get_or ps at d) ≡ held_in pair = cc in
    differ (pair_eta (get_or ps at d) pair (here.has_key d) helds))

-- where the key has no place, the pair is none of these
pub none_at : (ps : List Pair) (pair : Pair) (at : ℕ) → IsGapFor ps pair.key at → IsIn ps pair → ⊥
none_at ps pair at gap there =
    (let both : None ≡ Some (held_in pair) = sym (find_in_gap pair.key ps at gap) ∙ there in
    cc)

-- All that is held.

-- the class of a key is one of all
low_class : WithinPlaces → (rules : Rules) → InRange rules → (key : Key) → class_of rules key < 2 ^ rules.depth
unfolding class_of
low_class within rules range key =
    within (hash_of_key rules.hashing key) rules.depth (hash_of_key-within rules.hashing key)
    (omega (arith, range.depth))

-- a pair in its row is held
pub row_has : (rows : List Sessions) (rules : Rules) (sessions : Sessions) (pair : Pair) (b : Bool) →
    Holds rows rules sessions →
    class_of rules pair.key < 2 ^ rules.depth →
    MatchBool b (IsIn (pairs_of (row_at rows (class_of rules pair.key))) pair)
    (IsIn (pairs_of (row_at rows (class_of rules pair.key))) pair → ⊥) →
    MatchBool b (IsHeld sessions pair) (IsHeld sessions pair → ⊥)
row_has rows rules sessions pair b holds low has =
    subst (λ (o : Option Session). MatchBool b (o ≡ Some (held_in pair)) (o ≡ Some (held_in pair) → ⊥))
    (found_there (row_at rows (class_of rules pair.key)) pair.key
    ∙ holds.agree (class_of rules pair.key) low pair.key refl) has

-- what is found among the pairs is what is held, where each pair is held and all that is held is among them
same_found : WithinPlaces → (rows : List Sessions) (rules : Rules) (sessions : Sessions) (pairs : List Pair) →
    InRange rules →
    Holds rows rules sessions → All (IsHeld sessions) pairs → All (AreAmong pairs) rows → (q : Key)
    (o h : Option Session) →
    find key_cmp q (map entry_of pairs) ≡ o → get sessions q ≡ h → o ≡ h
same_found within rows rules sessions pairs range holds held among q (Some s) h found is =
    (let (k, inside, at) = find_some q pairs s found in
    sym (subst (IsHeld sessions) at (held k (pair_of (q, s)) inside)) ∙ is)
same_found within rows rules sessions pairs range holds held among q None None found is = refl
same_found within rows rules sessions pairs range holds held among q None (Some s) found is =
    (let class : ℕ = class_of rules q in
    let low : class < 2 ^ rules.depth = low_class within rules range q in
    let row : Sessions = row_at rows class in
    let there : find key_cmp q (map entry_of (pairs_of row)) ≡ Some s =
    found_there row q ∙ holds.agree class low q refl ∙ is in
    let (k, inside, at) = find_some q (pairs_of row) s there in
    let in_pairs : IsIn pairs (pair_of (q, s)) =
    subst (IsIn pairs) at (among class empty (omega (arith, low, holds.many)) k (pair_of (q, s)) inside) in
    sym found ∙ in_pairs)

-- then they are the pairs of the sessions
pub just_these : WithinPlaces → (rows : List Sessions) (rules : Rules) (sessions : Sessions) (pairs : List Pair) →
    InRange rules → Holds rows rules sessions → IsInKeyOrder pairs → All (IsHeld sessions) pairs →
    All (AreAmong pairs) rows → pairs ≡ pairs_of sessions
unfolding pairs_of
just_these within rows rules sessions pairs range holds ordered held among =
    sym (pairs_back pairs)
    ∙ ap (map pair_of) (same_entries key_cmp keys_total exact_keys (map entry_of pairs) (entries sessions) ordered
    (entries_sorted sessions) (λ q.
    same_found within rows rules sessions pairs range holds held among q (find key_cmp q (map entry_of pairs))
    (get sessions q)
    refl refl ∙ get-entries sessions q))

-- and of the pairs of the sessions each is held
pub all_held : (sessions : Sessions) (pairs : List Pair) → IsInKeyOrder pairs → pairs ≡ pairs_of sessions →
    All (IsHeld sessions) pairs
all_held sessions pairs ordered is k d inside =
    sym (ap (λ (ps : List Pair). find key_cmp (get_or pairs k d).key (map entry_of ps)) is
    ∙ found_there sessions (get_or pairs k d).key)
    ∙ found_at pairs k d ordered inside

-- a pair of a row is one of the sessions
row_pair : (rows : List Sessions) (rules : Rules) (sessions : Sessions) → Holds rows rules sessions → (class : ℕ) →
    class < 2 ^ rules.depth → (pair : Pair) → IsHeld (row_at rows class) pair →
    (class_of rules pair.key ≡ class) ⊎ (class_of rules pair.key ≡ class → ⊥) → IsHeld sessions pair
row_pair rows rules sessions holds class low pair has (inl same) = sym (holds.agree class low pair.key same) ∙ has
row_pair rows rules sessions holds class low pair has (inr other) =
    (let both : None ≡ Some (held_in pair) = sym (holds.own class pair.key low other) ∙ has in
    cc)

-- and all that a class holds is among them
pub all_among : (rows : List Sessions) (rules : Rules) (sessions : Sessions) (pairs : List Pair) →
    Holds rows rules sessions → pairs ≡ pairs_of sessions → All (AreAmong pairs) rows
all_among rows rules sessions pairs holds is class m inside k d low =
    (let row : Sessions = row_at rows class in
    let alike : get_or rows class m ≡ row = get_or_default rows class m empty inside in
    let pair : Pair = get_or (pairs_of (get_or rows class m)) k d in
    let here : IsHeld (get_or rows class m) pair =
    sym (found_there (get_or rows class m) pair.key)
    ∙ found_at (pairs_of (get_or rows class m)) k d (pairs_are_ordered (get_or rows class m)) low in
    let in_row : IsHeld row pair = subst (λ (x : Sessions). IsHeld x pair) alike here in
    let held : IsHeld sessions pair =
    row_pair rows rules sessions holds class (omega (arith, inside, holds.many)) pair in_row
    (cases_eq (class_of rules pair.key) class) in
    ap (λ (ps : List Pair). find key_cmp pair.key (map entry_of ps)) is ∙ found_there sessions pair.key ∙ held)

-- whether they are just these
pub just_so : WithinPlaces → (rows : List Sessions) (rules : Rules) (sessions : Sessions) (pairs : List Pair)
    (b : Bool) →
    InRange rules → Holds rows rules sessions → IsInKeyOrder pairs → All (IsHeld sessions) pairs →
    MatchBool b (All (AreAmong pairs) rows) (All (AreAmong pairs) rows → ⊥) →
    MatchBool b (pairs ≡ pairs_of sessions) (pairs ≡ pairs_of sessions → ⊥)
just_so within rows rules sessions pairs true range holds ordered held among =
    just_these within rows rules sessions pairs range holds ordered held among
just_so within rows rules sessions pairs false range holds ordered held differ =
    λ is. differ (all_among rows rules sessions pairs holds is)
