-- The rows of the seats, by what a batch asks of its table.
use Rattle.std.proofs.Common.{◌≡◌, ℕ, ◌+◌, ◌<◌, ◌≤◌, List, [], ◌∷◌, ◌++◌, Option, None, length, map, take, get_or, refl, sym, ap, subst, ◌∙◌, arith}
use Rattle.std.proofs.lemmas.List.{map_more, take_all}
use Rattle.hash_bits.specs.declared.hashing.Hashing.{Hashing}
use Rattle.step_counts.specs.declared.rows.SeatRows.{SeatRows}
use Rattle.step_counts.specs.declared.settings.Settings.{Settings}
use Rattle.step_counts.specs.Made.{IsMadeOf}
use Rattle.plain_map.specs.declared.calls.Call.{Call}
use Rattle.plain_map.specs.declared.keys.Key.{Key}
use Rattle.plain_map.specs.declared.keys.Pair.{Pair}
use Rattle.plain_map.specs.declared.rules.Rules.{Rules}
use Rattle.bucket_states.specs.Parts.{keys_of}
use Rattle.table_model.specs.Needs.{batch_rows_of, splits_for}
use Rattle.batch_rows.specs.BatchRows.{inserted_in_calls, rows_of, rules_in, splits_in_calls, updates_in_calls}
use Rattle.batch_rows.specs.Counts.{HaveSameKeys}
use Rattle.batch_rows.specs.Depths.{IsTableFor, depth_for, keys_in_batch, lesser_rules}
use Rattle.batch_rows.proofs.DepthLemmas.{depth_alike}
use Rattle.batch_rows.proofs.KeyLemmas.{same_behind, splits_alike}

-- the rows of a seat that makes so many updates
abbrev pub update_rows : Settings → (splits : ℕ) → (updates : ℕ) → SeatRows
update_rows s splits updates = batch_rows_of s updates splits

-- one seat more
pub one_more : (s : Settings) (splits : ℕ) (updates seen : List ℕ) (place : ℕ) (row : SeatRows)
    (was now : List SeatRows) → seen ≡ updates → place < length seen →
    row ≡ update_rows s splits (get_or seen place 0) → now ≡ was ++ row ∷ [] →
    was ≡ map (update_rows s splits) (take place updates) → now ≡ map (update_rows s splits) (take (place + 1) updates)
one_more s splits updates seen place row was now same inside made pushed were =
    let own : row ≡ update_rows s splits (get_or updates place 0) =
    made ∙ ap (λ numbers. update_rows s splits (get_or numbers place 0)) same in
    let before : place < length updates = omega (arith, inside, ap length same) in
    pushed ∙ (λ i. were i ++ own i ∷ []) ∙ sym (map_more (update_rows s splits) updates place 0 before)

-- the rows by the updates are those by the calls of each share
in_shares : (s : Settings) (splits : ℕ) (shares : List (List (ℕ × Call))) →
    map (update_rows s splits) (map updates_in_calls shares)
    ≡ map (λ share. batch_rows_of s (updates_in_calls share) splits) shares
in_shares s splits [] = refl
in_shares s splits (share ∷ shares) =
    ap (λ rows. batch_rows_of s (updates_in_calls share) splits ∷ rows) (in_shares s splits shares)

-- at last each seat has its rows
pub all_seats : (s : Settings) (hashing : Hashing) (given : Option SeatRows) (first : List Pair)
    (calls : List (ℕ × Call)) (shares : List (List (ℕ × Call))) (updates : List ℕ) (place splits : ℕ)
    (rows : List SeatRows) → given ≡ None → updates ≡ map updates_in_calls shares →
    splits ≡ splits_in_calls (rules_in s hashing) s.start first calls → length updates ≤ place →
    rows ≡ map (update_rows s splits) (take place updates) → rows ≡ rows_of s hashing given first calls shares
all_seats s hashing given first calls shares updates place splits rows none asked are past is =
    is ∙ ap (map (update_rows s splits)) (take_all place updates past ∙ asked) ∙ in_shares s splits shares
    ∙ ap (λ n. map (λ share. batch_rows_of s (updates_in_calls share) n) shares) are
    ∙ ap (λ some. rows_of s hashing some first calls shares) (sym none)

-- the table of a batch is as deep by the keys that are asked for as by those of its inserts
batch_depth : (rules : Rules) (start : ℕ) (first : List Pair) (calls : List (ℕ × Call)) (inserted : List Key) →
    HaveSameKeys inserted (inserted_in_calls calls) →
    depth_for rules start (keys_of first ++ inserted) ≡ depth_for rules start (keys_in_batch first calls)
batch_depth rules start first calls inserted same =
    depth_alike rules start (keys_of first ++ inserted) (keys_in_batch first calls)
    (same_behind (keys_of first) inserted (inserted_in_calls calls) same)

-- so what is made with the depth that was found is the table of the batch
pub made_table : (s table : Settings) (hashing : Hashing) (given : Option SeatRows) (first : List Pair)
    (calls : List (ℕ × Call)) (inserted : List Key) (depth : ℕ) → given ≡ None →
    HaveSameKeys inserted (inserted_in_calls calls) → IsMadeOf table s.seats s.items depth s.start →
    depth ≡ depth_for (rules_in s hashing) s.start (keys_of first ++ inserted) →
    IsTableFor s hashing given first calls table
made_table s table hashing given first calls inserted depth none same made deep =
    subst (λ some. IsTableFor s hashing some first calls table) (sym none)
    (subst (λ d. IsMadeOf table s.seats s.items d s.start)
    (deep ∙ batch_depth (rules_in s hashing) s.start first calls inserted same) made)

-- the splits by the lesser rules are those by the rules of the table that is made with the lesser depth
pub made_splits : (s table : Settings) (hashing : Hashing) (first : List Pair) (calls : List (ℕ × Call))
    (inserted : List Key) (depth splits : ℕ) → HaveSameKeys inserted (inserted_in_calls calls) →
    IsMadeOf table s.seats s.items depth s.start →
    depth ≡ depth_for (rules_in s hashing) s.start (keys_of first ++ inserted) →
    splits ≡ splits_for (lesser_rules (rules_in s hashing) s.start (keys_of first ++ inserted)) s.start (keys_of first)
    inserted → splits ≡ splits_in_calls (rules_in table hashing) table.start first calls
made_splits s table hashing first calls inserted depth splits same made deep are =
    let items : s.items ≡ table.items = sym made.items_are in
    let less : depth_for (rules_in s hashing) s.start (keys_of first ++ inserted) ≡ table.depth =
    sym (made.depth_is ∙ deep) in
    let start : s.start ≡ table.start = sym made.start_is in
    let keys : List Key = keys_of first in
    are ∙ (λ i. splits_for (record { items = items i; depth = less i; hashing = hashing }) (start i) keys inserted)
    ∙ splits_alike (rules_in table hashing) table.start keys inserted (inserted_in_calls calls) same
