-- The stores of a directory try: each is to a row or a word of the seat's own.
use Rattle.std.proofs.Common.{◌≡◌, ◌≢◌, ℕ, zero, suc, ◌+◌, ◌<◌, ◌≤◌, List, [], ◌∷◌, ◌++◌, length, ap, ◌∙◌, subst, arith, length-append}
use Rattle.std.specs.Prelude.{Option, Some}
use Rattle.step_counts.specs.declared.rows.SeatRows.{SeatRows}
use Rattle.plain_map.specs.declared.full.FullKind.TheVariants.{BucketRows, BucketWords, DirRows}
use Rattle.word_rows.specs.declared.addresses.Address.{Address}
use Rattle.word_rows.specs.declared.addresses.Address.TheVariants.{BucketWord, BucketRowWord, DirectoryWord}
use Rattle.bucket_states.specs.declared.ops.Op.{Op}
use Rattle.table_model.specs.declared.events.Put.{Put}
use Rattle.std.proofs.Common.{◌^◌}
use Rattle.std.proofs.Math.Pow.{pow_mono}
use Rattle.step_counts.specs.StepCounts.{bucket_row_words, directory_row_words}
use Rattle.word_rows.specs.Places.{IsAddress}
use Rattle.word_rows.proofs.BucketLemmas.{length-bucket}
use Rattle.bucket_states.specs.States.{row_of_state}
use Rattle.table_model.specs.Setup.{Setup, IsSetup, seats_of, next_number}
use Rattle.table_model.specs.Leaves.{NewLeaf}
use Rattle.table_model.specs.DirectoryChange.{LoadedBucket}
use Rattle.table_model.specs.Phases.{DirectoryTry}
use Rattle.table_model.specs.Stores.{row_puts, leaf_puts, bucket_words, directory_words, base_of_leaf, made_leaves, made_directory, directory_puts}
use Rattle.run_invariant.proofs.Numbers.{next_row, next_word, next_dir, row_no_more, word_no_more, row_no_within, word_no_within, dir_no_within}
use Rattle.run_invariant.proofs.Invariant.{put_in, IsOwn, row_no, word_no, row_room, word_room, dir_room}

-- what holds of each store
abbrev pub EachPut : (Put → Type 0) → List Put → Type 0
EachPut P [] = Unit {0}
EachPut P (put ∷ puts) = P put × EachPut P puts

-- of two lists, of the front, of the back, at a place, and from all places
pub each_append : (P : Put → Type 0) (xs ys : List Put) → EachPut P xs → EachPut P ys → EachPut P (xs ++ ys)
each_append P [] ys a b = b
each_append P (x ∷ xs) ys a b = (a.0, each_append P xs ys a.1 b)

pub each_front : (P : Put → Type 0) (xs ys : List Put) → EachPut P (xs ++ ys) → EachPut P xs
each_front P [] ys a = tt
each_front P (x ∷ xs) ys a = (a.0, each_front P xs ys a.1)

pub each_back : (P : Put → Type 0) (xs ys : List Put) → EachPut P (xs ++ ys) → EachPut P ys
each_back P [] ys a = a
each_back P (x ∷ xs) ys a = each_back P xs ys a.1

pub each_at : (P : Put → Type 0) (puts : List Put) → EachPut P puts → (j : ℕ) → j < length puts → P (put_in puts j)
each_at P [] a j h = absurd (omega (arith, h))
each_at P (x ∷ xs) a zero h = a.0
each_at P (x ∷ xs) a (suc j) h = each_at P xs a.1 j (omega (arith, h))

pub each_from : (P : Put → Type 0) (puts : List Put) → ((j : ℕ) → j < length puts → P (put_in puts j)) → EachPut P puts
each_from P [] f = tt
each_from P (x ∷ xs) f = (f 0 (omega arith), each_from P xs (λ j h. f (suc j) (omega (arith, h))))

-- of the words of a row
pub row_each : (P : Put → Type 0) (at : ℕ → Address) (i : ℕ) (words : List ℕ) →
    ((j w : ℕ) → P (record { address = at j; word = w })) → EachPut P (row_puts at i words)
row_each P at i [] f = tt
row_each P at i (w ∷ ws) f = (f i w, row_each P at (suc i) ws f)

-- the leaves use the seat's next numbers, one after the other
leaves_each : (setup : Setup) (me : ℕ) (used : SeatRows) (base : NewLeaf → Option ℕ) (k : ℕ) (leaves : List NewLeaf) →
    used.bucket_words + (k + length leaves) ≤ word_room setup me →
    used.bucket_rows + (k + length leaves) ≤ row_room setup me →
    (b r : ℕ) → b ≡ word_no setup me (used.bucket_words + k) → r ≡ row_no setup me (used.bucket_rows + k) →
    EachPut (λ put. IsOwn setup me used put.address) (leaf_puts setup base b r leaves)
leaves_each setup me used base k [] hw hr b r e f = tt
leaves_each setup me used base k (leaf ∷ leaves) hw hr b r e f = (
  (used.bucket_words + k, omega arith, omega (arith, hw), e),
  each_append (λ put. IsOwn setup me used put.address) (row_puts (BucketRowWord r) 0
      (bucket_words setup (base leaf) leaf.bucket)) (leaf_puts setup base (suc b) (suc r) leaves)
      (row_each (λ put. IsOwn setup me used put.address) (BucketRowWord r) 0
      (bucket_words setup (base leaf) leaf.bucket) (λ j w. (used.bucket_rows + k, omega arith, omega (arith, hr), f)))
      (leaves_each setup me used base (k + 1) leaves (omega (arith, hw)) (omega (arith, hr)) (suc b) (suc r)
      (omega (
        arith,
        e,
        word_no_more setup me (used.bucket_words + k) 1,
        ap (word_no setup me) (plus used.bucket_words k),
      )) (omega (
        arith,
        f,
        row_no_more setup me (used.bucket_rows + k) 1,
        ap (row_no setup me) (plus used.bucket_rows k),
      ))),
)
  where
    plus : (x y : ℕ) → x + y + 1 ≡ x + (y + 1)
    plus x y = omega arith

-- each store is to a word of the seat's own that is not published
pub puts_own : (setup : Setup) (me : ℕ) (used : SeatRows) (attempt : DirectoryTry) (found : List (Option Op))
    (loaded : List LoadedBucket) →
    used.bucket_words + length (made_leaves setup attempt found loaded) ≤ word_room setup me →
    used.bucket_rows + length (made_leaves setup attempt found loaded) ≤ row_room setup me →
    used.directory_rows < dir_room setup me →
    (j : ℕ) → j < length (directory_puts setup me used attempt found loaded) →
    IsOwn setup me used (put_in (directory_puts setup me used attempt found loaded) j).address
unfolding directory_puts
puts_own setup me used attempt found loaded hw hr hd =
    each_at (λ put. IsOwn setup me used put.address) (directory_puts setup me used attempt found loaded)
    (each_append (λ put. IsOwn setup me used put.address)
    (leaf_puts setup (base_of_leaf loaded) (next_number setup me BucketWords used)
    (next_number setup me BucketRows used) (made_leaves setup attempt found loaded))
    (row_puts (DirectoryWord (next_number setup me DirRows used)) 0
    (directory_words (Some attempt.root) (made_directory setup me used attempt found loaded)))
    (leaves_each setup me used (base_of_leaf loaded) 0 (made_leaves setup attempt found loaded) (omega (arith, hw))
    (omega (arith, hr)) (next_number setup me BucketWords used) (next_number setup me BucketRows used)
    (next_word setup me used ∙ ap (word_no setup me) (omega arith))
    (next_row setup me used ∙ ap (row_no setup me) (omega arith)))
    (row_each (λ put. IsOwn setup me used put.address) (DirectoryWord (next_number setup me DirRows used)) 0
    (directory_words (Some attempt.root) (made_directory setup me used attempt found loaded))
    (λ j w. (used.directory_rows, omega arith, hd, next_dir setup me used))))

-- there is a store
pub some_puts : (setup : Setup) (me : ℕ) (used : SeatRows) (attempt : DirectoryTry) (found : List (Option Op))
    (loaded : List LoadedBucket) → 0 < length (directory_puts setup me used attempt found loaded)
unfolding directory_puts
some_puts setup me used attempt found loaded =
    omega (
      arith,
      length-append (leaf_puts setup (base_of_leaf loaded) (next_number setup me BucketWords used)
          (next_number setup me BucketRows used) (made_leaves setup attempt found loaded))
          (row_puts (DirectoryWord (next_number setup me DirRows used)) 0
          (directory_words (Some attempt.root) (made_directory setup me used attempt found loaded))),
    )

-- ---- no word is stored twice

-- each later store is to another word
abbrev pub Apart : List Put → Type 0
Apart [] = Unit {0}
Apart (put ∷ puts) = EachPut (λ other. put.address ≢ other.address) puts × Apart puts

-- so two of them are to two words
apart_at : (puts : List Put) → Apart puts → (j i : ℕ) → j < i → i < length puts →
    (put_in puts j).address ≢ (put_in puts i).address
apart_at [] a j i o h = absurd (omega (arith, h))
apart_at (x ∷ xs) a j zero o h = absurd (omega (arith, o))
apart_at (x ∷ xs) a zero (suc i) o h = each_at (λ other. x.address ≢ other.address) xs a.0 i (omega (arith, h))
apart_at (x ∷ xs) a (suc j) (suc i) o h = apart_at xs a.1 j i (omega (arith, o)) (omega (arith, h))

-- of two lists, where none of the one is to a word of the other
pub apart_append : (xs ys : List Put) → Apart xs → Apart ys →
    EachPut (λ put. EachPut (λ other. put.address ≢ other.address) ys) xs → Apart (xs ++ ys)
apart_append [] ys a b c = b
apart_append (x ∷ xs) ys a b c =
    (each_append (λ other. x.address ≢ other.address) xs ys a.0 c.0, apart_append xs ys a.1 b c.1)

-- the words of one row, from a place on
pub row_from : (P : Put → Type 0) (at : ℕ → Address) (i : ℕ) (words : List ℕ) →
    ((j w : ℕ) → i ≤ j → P (record { address = at j; word = w })) → EachPut P (row_puts at i words)
row_from P at i [] f = tt
row_from P at i (w ∷ ws) f = (f i w (omega arith), row_from P at (suc i) ws (λ j w' h. f j w' (omega (arith, h))))

-- the words of a row are apart
pub row_apart : (at : ℕ → Address) → ((j k : ℕ) → at j ≡ at k → j ≡ k) → (i : ℕ) (words : List ℕ) →
    Apart (row_puts at i words)
row_apart at inj i [] = tt
row_apart at inj i (w ∷ ws) = (
  row_from (λ other. at i ≢ other.address) at (suc i) ws
      (λ j w' h e. omega (arith, h, inj i j e)),
  row_apart at inj (suc i) ws,
)

-- what holds of every store of leaves from these numbers on
pub leaf_from : (P : Put → Type 0) (setup : Setup) (base : NewLeaf → Option ℕ) (b r : ℕ) (leaves : List NewLeaf) →
    ((k w : ℕ) → b ≤ k → P (record { address = BucketWord k; word = w })) →
    ((k j w : ℕ) → r ≤ k → P (record { address = BucketRowWord k j; word = w })) →
    EachPut P (leaf_puts setup base b r leaves)
leaf_from P setup base b r [] f g = tt
leaf_from P setup base b r (leaf ∷ leaves) f g = (
  f b r (omega arith),
  each_append P (row_puts (BucketRowWord r) 0 (bucket_words setup (base leaf) leaf.bucket))
      (leaf_puts setup base (suc b) (suc r) leaves) (row_each P (BucketRowWord r) 0
      (bucket_words setup (base leaf) leaf.bucket) (λ j w. g r j w (omega arith)))
      (leaf_from P setup base (suc b) (suc r) leaves (λ k w h. f k w (omega (arith, h)))
      (λ k j w h. g k j w (omega (arith, h)))),
)

-- and those of leaves
pub leaves_apart : (setup : Setup) (base : NewLeaf → Option ℕ) (b r : ℕ) (leaves : List NewLeaf) →
    Apart (leaf_puts setup base b r leaves)
leaves_apart setup base b r [] = tt
leaves_apart setup base b r (leaf ∷ leaves) =
    let ws = bucket_words setup (base leaf) leaf.bucket in
    let rest = leaf_puts setup base (suc b) (suc r) leaves in (
      each_append (λ other. BucketWord b ≢ other.address) (row_puts (BucketRowWord r) 0 ws) rest
          (row_each (λ other. BucketWord b ≢ other.address) (BucketRowWord r) 0 ws (λ j w e. cc))
          (leaf_from (λ other. BucketWord b ≢ other.address) setup base (suc b) (suc r) leaves
          (λ k w h e. omega (arith, h, same_word b k e)) (λ k j w h e. cc)),
      apart_append (row_puts (BucketRowWord r) 0 ws) rest (row_apart (BucketRowWord r) (λ j k e. same_place r r j k e)
          0 ws) (leaves_apart setup base (suc b) (suc r) leaves)
          (row_each (λ put. EachPut (λ other. put.address ≢ other.address) rest) (BucketRowWord r) 0 ws
          (λ j w. leaf_from (λ other. BucketRowWord r j ≢ other.address) setup base (suc b) (suc r) leaves
          (λ k w' h e. cc) (λ k i w' h e. omega (arith, h, same_row r k j i e)))),
    )
  where
    same_word : (x y : ℕ) → BucketWord x ≡ BucketWord y → x ≡ y
    same_word x y e = cc

    same_row : (x y i j : ℕ) → BucketRowWord x i ≡ BucketRowWord y j → x ≡ y
    same_row x y i j e = cc

    same_place : (x y i j : ℕ) → BucketRowWord x i ≡ BucketRowWord y j → i ≡ j
    same_place x y i j e = cc

-- no two stores of a directory try are to one word
pub puts_apart : (setup : Setup) (me : ℕ) (used : SeatRows) (attempt : DirectoryTry) (found : List (Option Op))
    (loaded : List LoadedBucket) (j i : ℕ) → j < i → i < length (directory_puts setup me used attempt found loaded) →
    (put_in (directory_puts setup me used attempt found loaded)
    j).address ≢ (put_in (directory_puts setup me used attempt found loaded) i).address
unfolding directory_puts
puts_apart setup me used attempt found loaded =
    let dir = next_number setup me DirRows used in
    let ws = directory_words (Some attempt.root) (made_directory setup me used attempt found loaded) in
    let leaves = made_leaves setup attempt found loaded in
    apart_at (directory_puts setup me used attempt found loaded)
    (apart_append (leaf_puts setup (base_of_leaf loaded) (next_number setup me BucketWords used)
    (next_number setup me BucketRows used) leaves) (row_puts (DirectoryWord dir) 0 ws)
    (leaves_apart setup (base_of_leaf loaded) (next_number setup me BucketWords used)
    (next_number setup me BucketRows used) leaves)
    (row_apart (DirectoryWord dir) (λ j k e. same_place dir dir j k e) 0 ws)
    (leaf_from (λ put. EachPut (λ other. put.address ≢ other.address) (row_puts (DirectoryWord dir) 0 ws)) setup
    (base_of_leaf loaded) (next_number setup me BucketWords used) (next_number setup me BucketRows used) leaves
    (λ k w h. row_each (λ other. BucketWord k ≢ other.address) (DirectoryWord dir) 0 ws (λ j w' e. cc))
    (λ k i w h. row_each (λ other. BucketRowWord k i ≢ other.address) (DirectoryWord dir) 0 ws (λ j w' e. cc))))
  where
    same_place : (x y i j : ℕ) → DirectoryWord x i ≡ DirectoryWord y j → i ≡ j
    same_place x y i j e = cc

-- ---- each is to a word that there is

-- of the words of a row that has so many
pub row_bounded : (P : Put → Type 0) (at : ℕ → Address) (i n : ℕ) (words : List ℕ) → i + length words ≤ n →
    ((j w : ℕ) → j < n → P (record { address = at j; word = w })) → EachPut P (row_puts at i words)
row_bounded P at i n [] h f = tt
row_bounded P at i n (w ∷ ws) h f = (f i w (omega (arith, h)), row_bounded P at (suc i) n ws (omega (arith, h)) f)

-- of the words of leaves that are so many
pub leaves_bounded : (P : Put → Type 0) (setup : Setup) (base : NewLeaf → Option ℕ) (b r : ℕ) (leaves : List NewLeaf)
    → ((i w : ℕ) → i < length leaves → P (record { address = BucketWord (b + i); word = w })) →
    ((i j w : ℕ) → i < length leaves → j < bucket_row_words setup.shape.settings →
    P (record { address = BucketRowWord (r + i) j; word = w })) → EachPut P (leaf_puts setup base b r leaves)
leaves_bounded P setup base b r [] f g = tt
leaves_bounded P setup base b r (leaf ∷ leaves) f g =
    let bb : b + 0 ≡ b = omega arith in let rr : r + 0 ≡ r = omega arith in
    let ws = bucket_words setup (base leaf) leaf.bucket in (
      subst (λ x. P (record { address = BucketWord x; word = r })) bb (f 0 r (omega arith)),
      each_append P (row_puts (BucketRowWord r) 0 ws) (leaf_puts setup base (suc b) (suc r) leaves)
          (row_bounded P (BucketRowWord r) 0 (bucket_row_words setup.shape.settings) ws
          (omega (arith, length-bucket setup.shape.settings (row_of_state (base leaf) leaf.bucket)))
          (λ j w h. subst (λ x. P (record { address = BucketRowWord x j; word = w })) rr (g 0 j w (omega arith) h)))
          (leaves_bounded P setup base (suc b) (suc r) leaves
          (λ i w h. (let e : b + suc i ≡ suc b + i = omega arith in
          subst (λ x. P (record { address = BucketWord x; word = w })) e (f (suc i) w (omega (arith, h)))))
          (λ i j w h hj. (let e : r + suc i ≡ suc r + i = omega arith in
          subst (λ x. P (record { address = BucketRowWord x j; word = w })) e (g (suc i) j w (omega (arith, h)) hj)))),
    )

-- each store of a directory try is to a word of the table
pub puts_within : (setup : Setup) (me : ℕ) (used : SeatRows) (attempt : DirectoryTry) (found : List (Option Op))
    (loaded : List LoadedBucket) → IsSetup setup → me < seats_of setup →
    used.bucket_words + length (made_leaves setup attempt found loaded) ≤ word_room setup me →
    used.bucket_rows + length (made_leaves setup attempt found loaded) ≤ row_room setup me →
    used.directory_rows < dir_room setup me →
    (made_directory setup me used attempt found loaded).depth ≤ setup.shape.settings.depth →
    length (made_directory setup me used attempt found loaded).entries
    ≡ 2 ^ (made_directory setup me used attempt found loaded).depth →
    (j : ℕ) → j < length (directory_puts setup me used attempt found loaded) →
    IsAddress setup.shape (put_in (directory_puts setup me used attempt found loaded) j).address
unfolding directory_puts
puts_within setup me used attempt found loaded s h hw hr hd shallow long =
    let made = made_directory setup me used attempt found loaded in
    let up : 2 ^ made.depth ≤ 2 ^ setup.shape.settings.depth = pow_mono shallow in
    each_at (λ put. IsAddress setup.shape put.address) (directory_puts setup me used attempt found loaded)
    (each_append (λ put. IsAddress setup.shape put.address)
    (leaf_puts setup (base_of_leaf loaded) (next_number setup me BucketWords used)
    (next_number setup me BucketRows used) (made_leaves setup attempt found loaded))
    (row_puts (DirectoryWord (next_number setup me DirRows used)) 0 (directory_words (Some attempt.root) made))
    (leaves_bounded (λ put. IsAddress setup.shape put.address) setup (base_of_leaf loaded)
    (next_number setup me BucketWords used) (next_number setup me BucketRows used)
    (made_leaves setup attempt found loaded)
    (λ i w n. omega (
      arith,
      ap (λ x. x + i) (next_word setup me used),
      word_no_more setup me used.bucket_words i,
      word_no_within setup me (used.bucket_words + i) s h (omega (arith, n, hw)),
    ))
    (λ i j w n m. (
      omega (
        arith,
        ap (λ x. x + i) (next_row setup me used),
        row_no_more setup me used.bucket_rows i,
        row_no_within setup me (used.bucket_rows + i) s h (omega (arith, n, hr)),
      ),
      m,
    )))
    (row_bounded (λ put. IsAddress setup.shape put.address) (DirectoryWord (next_number setup me DirRows used)) 0
    (directory_row_words setup.shape.settings) (directory_words (Some attempt.root) made) (omega (arith, long, up))
    (λ j w n. (omega (arith, next_dir setup me used, dir_no_within setup me used.directory_rows s h hd), n))))
