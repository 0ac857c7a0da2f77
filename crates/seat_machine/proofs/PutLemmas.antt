-- Leaves one after the other as stores, and all that a directory try stores.
use Rattle.std.proofs.Common.{◌≡◌, ℕ, zero, suc, ◌+◌, ◌*◌, ◌^◌, ◌<◌, ◌≤◌, Bool, false, List, [], ◌∷◌, ◌++◌, length, map, drop, drop-cons, get_or, Option, Some, refl, sym, ap, subst, ◌∙◌, arith, add-one, append_assoc}
use Rattle.std.specs.Prelude.{All, if◌then◌else◌}
use Rattle.std.proofs.lemmas.List.{get_or-map, length-map}
use Rattle.step_counts.specs.declared.rows.SeatRows.{SeatRows}
use Rattle.plain_map.specs.Calls.{key_in}
use Rattle.plain_map.specs.declared.rules.Rules.{Rules}
use Rattle.plain_map.specs.declared.full.FullKind.TheVariants.{BucketRows, BucketWords, DirRows}
use Rattle.word_rows.specs.declared.addresses.Address.TheVariants.{BucketRowWord, BucketWord, DirectoryWord}
use Rattle.bucket_states.specs.declared.ops.Op.{Op}
use Rattle.bucket_states.specs.States.{state_of}
use Rattle.table_model.specs.declared.events.Put.{Put}
use Rattle.table_model.specs.DirectoryChange.{LoadedBucket, with_leaves}
use Rattle.table_model.specs.Directories.{DirectoryState}
use Rattle.table_model.specs.Goes.{answered_by, answered_by_leaf}
use Rattle.table_model.specs.Leaves.{NewLeaf, is_in}
use Rattle.table_model.specs.Phases.{DirectoryTry}
use Rattle.table_model.specs.SeatStates.{Flight}
use Rattle.table_model.specs.Setup.{Setup, next_number}
use Rattle.table_model.specs.Stores.{base_of_leaf, bucket_words, directory_puts, directory_words, leaf_puts, made_directory, made_leaves, row_puts}
use Rattle.dir_states.proofs.NumberLemmas.{depth_after-least, fewer_places, length-first_values}
use Rattle.dir_states.specs.declared.values.NewLeaf.{NewLeaf as Made}
use Rattle.dir_states.specs.Views.{as_leaf}

-- what holds of all leaves holds of one
pub All-leaf : (P : NewLeaf → Type 0) (leaves : List Made) (i : ℕ) (leaf : Made) → i < length leaves →
    leaf ≡ get_or leaves i leaf → All P (map as_leaf leaves) → P (as_leaf leaf)
All-leaf P leaves i leaf inside is all =
    let within : i < length (map as_leaf leaves) = rw length-map inside in
    subst P (get_or-map as_leaf leaves i leaf _ inside ∙ ap as_leaf (sym is)) (all i (as_leaf leaf) within)

leaf_puts-cons : (setup : Setup) (base : NewLeaf → Option ℕ) (bucket row : ℕ) (leaf : NewLeaf)
    (leaves : List NewLeaf) → leaf_puts setup base bucket row (leaf ∷ leaves)
    ≡ record { address = BucketWord bucket; word = row }
    ∷ row_puts (BucketRowWord row) 0 (bucket_words setup (base leaf) leaf.bucket)
    ++ leaf_puts setup base (suc bucket) (suc row) leaves
leaf_puts-cons setup base bucket row leaf leaves = refl

-- the stores of one leaf more
pub leaf_puts-more : (setup : Setup) (base : NewLeaf → Option ℕ) (bucket row : ℕ) (leaves : List Made) (i : ℕ)
    (leaf : Made) (front after : List Put) (words : List ℕ) → i < length leaves → leaf ≡ get_or leaves i leaf →
    words ≡ bucket_words setup (base (as_leaf leaf)) (state_of leaf.bucket) →
    after ≡ (front ++ record { address = BucketWord (bucket + i); word = row + i } ∷ [])
    ++ row_puts (BucketRowWord (row + i)) 0 words →
    after ++ leaf_puts setup base (bucket + (i + 1)) (row + (i + 1)) (map as_leaf (drop (i + 1) leaves))
    ≡ front ++ leaf_puts setup base (bucket + i) (row + i) (map as_leaf (drop i leaves))
leaf_puts-more setup base bucket row leaves i leaf front after words inside is spelled made =
    let next : map as_leaf (drop i leaves) ≡ as_leaf leaf ∷ map as_leaf (drop (suc i) leaves) =
    ap (map as_leaf) (drop-cons leaves i leaf inside ∙ ap (λ l. l ∷ drop (suc i) leaves) (sym is)) in
    let put : Put = record { address = BucketWord (bucket + i); word = row + i } in
    let rest : List Put = leaf_puts setup base (suc (bucket + i)) (suc (row + i)) (map as_leaf (drop (suc i) leaves)) in
    let same : leaf_puts setup base (bucket + (i + 1)) (row + (i + 1)) (map as_leaf (drop (i + 1) leaves)) ≡ rest =
    ap (λ k. leaf_puts setup base k (row + (i + 1)) (map as_leaf (drop (i + 1) leaves)))
    (let e : bucket + (i + 1) ≡ suc (bucket + i) = omega arith in e)
    ∙ ap (λ k. leaf_puts setup base (suc (bucket + i)) k (map as_leaf (drop (i + 1) leaves)))
    (let e : row + (i + 1) ≡ suc (row + i) = omega arith in e)
    ∙ ap (λ k. leaf_puts setup base (suc (bucket + i)) (suc (row + i)) (map as_leaf (drop k leaves))) (add-one i) in
    let joined : ((front ++ put ∷ []) ++ row_puts (BucketRowWord (row + i)) 0 words) ++ rest ≡ front
    ++ (put ∷ row_puts (BucketRowWord (row + i)) 0 words ++ rest) =
    simp append_assoc in
    ap (λ a. a ++ leaf_puts setup base (bucket + (i + 1)) (row + (i + 1)) (map as_leaf (drop (i + 1) leaves))) made
    ∙ ap (λ x. ((front ++ put ∷ []) ++ row_puts (BucketRowWord (row + i)) 0 words) ++ x) same
    ∙ joined
    ∙ ap (λ w. front ++ (put ∷ row_puts (BucketRowWord (row + i)) 0 w ++ rest)) spelled
    ∙ ap (λ l. front ++ l) (sym (leaf_puts-cons setup base (bucket + i) (row + i) (as_leaf leaf)
    (map as_leaf (drop (suc i) leaves))))
    ∙ sym (ap (λ l. front ++ leaf_puts setup base (bucket + i) (row + i) l) next)

-- so many times as much, and once more
pub times_more : (i n k : ℕ) → i < n → i * k + k ≤ n * k
times_more i zero k less = absurd (omega (arith, less))
times_more zero (suc n) k less = omega arith
times_more (suc i) (suc n) k less = omega (arith, times_more i n k (omega (arith, less)))

pub times_less : (i n k : ℕ) → i ≤ n → i * k ≤ n * k
times_less zero n k le = omega arith
times_less (suc i) zero k le = absurd (omega (arith, le))
times_less (suc i) (suc n) k le = omega (arith, times_less i n k (omega (arith, le)))

pub times_next : (i k : ℕ) → (i + 1) * k ≡ i * k + k
times_next i k = omega arith

-- all that a directory try stores: its leaves, and then its directory row
pub puts_are : (setup : Setup) (seat : ℕ) (used : SeatRows) (attempt : DirectoryTry) (found : List (Option Op))
    (loaded : List LoadedBucket) → directory_puts setup seat used attempt found loaded
    ≡ leaf_puts setup (base_of_leaf loaded) (next_number setup seat BucketWords used)
    (next_number setup seat BucketRows used) (made_leaves setup attempt found loaded)
    ++ row_puts (DirectoryWord (next_number setup seat DirRows used)) 0
    (directory_words (Some attempt.root) (made_directory setup seat used attempt found loaded))
unfolding directory_puts
puts_are setup seat used attempt found loaded = refl

-- the new directory has no more entries than one of the greatest depth
pub entries_few : (fresh most : ℕ) (leaves : List NewLeaf) (directory : DirectoryState) → directory.depth ≤ most →
    All (λ leaf. leaf.bucket.depth ≤ most) leaves → length (with_leaves fresh leaves directory).entries ≤ 2 ^ most
unfolding with_leaves
entries_few fresh most leaves directory le each =
    let few = fewer_places _ most (depth_after-least directory leaves most le each) in
    subst (λ (n : ℕ). n ≤ 2 ^ most) (sym (length-first_values _ _)) few

-- the answer is not in the leaf at this place
pub leaf_passed : (rules : Rules) (seat : ℕ) (flight : Flight) (row : ℕ) (leaves : List Made) (i : ℕ) (leaf : Made) →
    i < length leaves → leaf ≡ get_or leaves i leaf → is_in rules (key_in flight.call) (state_of leaf.bucket) ≡ false →
    answered_by_leaf rules seat flight (row + i) (map as_leaf (drop i leaves))
    ≡ answered_by_leaf rules seat flight (row + (i + 1)) (map as_leaf (drop (i + 1) leaves))
leaf_passed rules seat flight row leaves i leaf inside is other =
    let next : map as_leaf (drop i leaves) ≡ as_leaf leaf ∷ map as_leaf (drop (suc i) leaves) =
    ap (map as_leaf) (drop-cons leaves i leaf inside ∙ ap (λ l. l ∷ drop (suc i) leaves) (sym is)) in
    ap (answered_by_leaf rules seat flight (row + i)) next
    ∙ ap (λ (b : Bool). if b then answered_by seat (state_of leaf.bucket) (row + i) else
    answered_by_leaf rules seat flight (row + i + 1) (map as_leaf (drop (suc i) leaves))) other
    ∙ ap (λ k. answered_by_leaf rules seat flight k (map as_leaf (drop (suc i) leaves)))
    (let e : row + i + 1 ≡ row + (i + 1) = omega arith in e)
    ∙ ap (λ k. answered_by_leaf rules seat flight (row + (i + 1)) (map as_leaf (drop k leaves)))
    (let e : suc i ≡ i + 1 = omega arith in e)
