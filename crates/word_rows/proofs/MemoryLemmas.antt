-- Stores and loads of a memory, and of the list of words that shows it. `shows_store` and `shows_blank` are what the
-- proofs about a running table cite.
use Rattle.std.proofs.Common.{◌≡◌, ◌≢◌, ℕ, ◌+◌, ◌<◌, [], ◌∷◌, ◌++◌, take, cond, eqb, ◌&&◌, List, length, get_or, set, replicate, refl, sym, ap, ◌∙◌, subst, arith, inl, inr, get_or-set_same, get_or-set_other, length-set}
use Rattle.std.proofs.lemmas.Bool.{eq-eqb, ne_eqb, cases_eq, and_left, and_right, and_from, cond-true, cond-false}
use Rattle.std.proofs.lemmas.List.{get_or-replicate, length-replicate, take_more, get_or-take, length-take-le}
use Rattle.word_rows.specs.Shape.{Shape}
use Rattle.word_rows.specs.Places.{Address, Root, Announcement, Done, BucketWord, OpWord, BucketRowWord, DirectoryWord, place, word_count, IsAddress}
use Rattle.word_rows.specs.Memory.{Memory, put, put_at, read, write, blank, Shows, Holds}
use Rattle.word_rows.proofs.Apart.{place_apart, place_within}

-- the value that was put is there
pub put_same : {A : Type 0} → (f : ℕ → A) (k : ℕ) (v : A) → put f k v k ≡ v
unfolding put
put_same f k v = cond-true (eqb k k) v (f k) (eq-eqb k k refl)

-- each other place has its old value
pub put_other : {A : Type 0} → (f : ℕ → A) (k : ℕ) (v : A) (j : ℕ) → j ≢ k → put f k v j ≡ f j
unfolding put
put_other f k v j h = cond-false (eqb j k) v (f j) (ne_eqb j k h)

-- which it is, by a test
pub put_is : {A : Type 0} → (f : ℕ → A) (k : ℕ) (v : A) (j : ℕ) → put f k v j ≡ cond (eqb j k) v (f j)
unfolding put
put_is f k v j = refl

-- the word that was put is there
pub put_at_same : {A : Type 0} → (f : ℕ → ℕ → A) (r i : ℕ) (v : A) → put_at f r i v r i ≡ v
unfolding put_at
put_at_same f r i v = ap (λ g. g i) (put_same f r (put (f r) i v)) ∙ put_same (f r) i v

-- another row keeps its words
pub put_at_row : {A : Type 0} → (f : ℕ → ℕ → A) (r i : ℕ) (v : A) (q j : ℕ) → q ≢ r → put_at f r i v q j ≡ f q j
unfolding put_at
put_at_row f r i v q j h = ap (λ g. g j) (put_other f r (put (f r) i v) q h)

-- another place keeps its word in every row
pub put_at_place : {A : Type 0} → (f : ℕ → ℕ → A) (r i : ℕ) (v : A) (q j : ℕ) → j ≢ i → put_at f r i v q j ≡ f q j
unfolding put_at
put_at_place f r i v q j h =
    elim (cases_eq q r) [
      | inl e ↦ subst (λ k. put f r (put (f r) i v) k j ≡ f k j) (sym e)
          (ap (λ g. g j) (put_same f r (put (f r) i v)) ∙ put_other (f r) i v j h)
      | inr n ↦ put_at_row f r i v q j n
    ]

-- the one equation that a proof by cases takes
pub put_at_is : {A : Type 0} → (f : ℕ → ℕ → A) (r i : ℕ) (v : A) (q j : ℕ) →
    put_at f r i v q j ≡ cond (eqb q r && eqb j i) v (f q j)
put_at_is f r i v q j = elim (cases_eq q r) [
  | inl e ↦ subst (λ k. put_at f r i v k j ≡ cond (eqb k r && eqb j i) v (f k j)) (sym e) (elim (cases_eq j i) [
    | inl d ↦ subst (λ k. put_at f r i v r k ≡ cond (eqb r r && eqb k i) v (f r k)) (sym d)
        (put_at_same f r i v ∙ sym (cond-true (eqb r r && eqb i i) v (f r i)
        (and_from (eqb r r) (eqb i i) (eq-eqb r r refl) (eq-eqb i i refl))))
    | inr d ↦ put_at_place f r i v r j d ∙ sym (cond-false (eqb r r && eqb j i) v (f r j)
        (and_right (eqb r r) (eqb j i) (ne_eqb j i d)))
  ])
  | inr n ↦ put_at_row f r i v q j n ∙ sym (cond-false (eqb q r && eqb j i) v (f q j)
      (and_left (eqb q r) (eqb j i) (ne_eqb q r n)))
]

-- what is stored is read
pub read-write_same : (m : Memory) (a : Address) (w : ℕ) → read (write m a w) a ≡ w
read-write_same m Root w = refl
read-write_same m (Announcement s) w = put_same m.announced s w
read-write_same m (Done s) w = put_same m.done s w
read-write_same m (BucketWord s) w = put_same m.bucket s w
read-write_same m (OpWord r i) w = put_at_same m.op r i w
read-write_same m (BucketRowWord r i) w = put_at_same m.bucket_row r i w
read-write_same m (DirectoryWord r i) w = put_at_same m.directory r i w

-- and every other word stays
pub read-write_other : (m : Memory) (a b : Address) (w : ℕ) → b ≢ a → read (write m a w) b ≡ read m b
read-write_other m Root Root w h = absurd (h refl)
read-write_other m (Announcement s) (Announcement t) w h = put_other m.announced s w t (λ e. h (ap Announcement e))
read-write_other m (Done s) (Done t) w h = put_other m.done s w t (λ e. h (ap Done e))
read-write_other m (BucketWord s) (BucketWord t) w h = put_other m.bucket s w t (λ e. h (ap BucketWord e))
read-write_other m (OpWord r i) (OpWord q j) w h =
    elim (cases_eq q r) [
      | inl e ↦ put_at_place m.op r i w q j (λ f. h (ap (λ n. OpWord n j) e ∙ ap (λ n. OpWord r n) f))
      | inr n ↦ put_at_row m.op r i w q j n
    ]
read-write_other m (BucketRowWord r i) (BucketRowWord q j) w h =
    elim (cases_eq q r) [
      | inl e ↦ put_at_place m.bucket_row r i w q j
          (λ f. h (ap (λ n. BucketRowWord n j) e ∙ ap (λ n. BucketRowWord r n) f))
      | inr n ↦ put_at_row m.bucket_row r i w q j n
    ]
read-write_other m (DirectoryWord r i) (DirectoryWord q j) w h =
    elim (cases_eq q r) [
      | inl e ↦ put_at_place m.directory r i w q j
          (λ f. h (ap (λ n. DirectoryWord n j) e ∙ ap (λ n. DirectoryWord r n) f))
      | inr n ↦ put_at_row m.directory r i w q j n
    ]
read-write_other m Root _ w h = refl
read-write_other m (Announcement s) _ w h = refl
read-write_other m (Done s) _ w h = refl
read-write_other m (BucketWord s) _ w h = refl
read-write_other m (OpWord r i) _ w h = refl
read-write_other m (BucketRowWord r i) _ w h = refl
read-write_other m (DirectoryWord r i) _ w h = refl

-- one store
pub shows_store : (shape : Shape) (words : List ℕ) (m : Memory) (a : Address) (w : ℕ) → IsAddress shape a →
    Shows shape words m → Shows shape (set words (place shape a) w) (write m a w)
shows_store shape words m a w h s = record {
  long = length-set words (place shape a) w ∙ s.long;
  same = λ b k. elim (cases_eq (place shape b) (place shape a)) [
    | inl e ↦ let p : b ≡ a = place_apart shape b a k h e in
        let within : place shape a < length words = omega (arith, place_within shape a h, s.long) in
        subst (λ x. get_or (set words (place shape a) w) (place shape x) 0 ≡ read (write m a w) x) (sym p)
        (get_or-set_same words (place shape a) w 0 within ∙ sym (read-write_same m a w))
    | inr n ↦ get_or-set_other words (place shape a) (place shape b) w 0 n ∙ s.same b k
        ∙ sym (read-write_other m a b w (λ p. n (ap (place shape) p)))
  ];
}

-- the blank memory has 0 at every address
read_blank : (a : Address) → read blank a ≡ 0
read_blank Root = refl
read_blank (Announcement s) = refl
read_blank (Done s) = refl
read_blank (BucketWord s) = refl
read_blank (OpWord r i) = refl
read_blank (BucketRowWord r i) = refl
read_blank (DirectoryWord r i) = refl

-- a table of zeros
pub shows_blank : (shape : Shape) → Shows shape (replicate (word_count shape) 0) blank
shows_blank shape = record {
  long = length-replicate (word_count shape) 0;
  same = λ a h. get_or-replicate (word_count shape) (place shape a) 0 0 (place_within shape a h) ∙ sym (read_blank a);
}

-- one more word of a row is loaded
pub seen_more : (f : ℕ → ℕ) (words seen : List ℕ) → Holds f words → length seen < length words →
    seen ≡ take (length seen) words → seen ++ f (length seen) ∷ [] ≡ take (length seen + 1) words
seen_more f words seen holds inside so_far =
    let k : ℕ = length seen in
    ap (λ (xs : List ℕ). xs ++ f k ∷ []) so_far ∙ ap (λ (w : ℕ). take k words ++ w ∷ []) (holds k inside)
    ∙ sym (take_more words k 0 inside)

-- one more word of a row is stored
pub stored_more : (f : ℕ → ℕ) (words : List ℕ) (k : ℕ) → k < length words → Holds f (take k words) →
    Holds (put f k (get_or words k 0)) (take (k + 1) words)
stored_more f words k inside so_far = λ i h.
    let within : i < k + 1 = omega (arith, length-take-le (k + 1) words (omega arith)) in
    let word : get_or (take (k + 1) words) i 0 ≡ get_or words i 0 = get_or-take (k + 1) words i 0 within in
    elim (cases_eq i k) [
      | inl e ↦ subst (λ j. put f k (get_or words k 0) j ≡ get_or words j 0) (sym e)
          (put_same f k (get_or words k 0)) ∙ sym word
      | inr n ↦
          let before : i < k = omega arith in
          let held : f i ≡ get_or (take k words) i 0 = so_far i (omega (arith, length-take-le k words (omega arith))) in
          put_other f k (get_or words k 0) i n ∙ held ∙ get_or-take k words i 0 before ∙ sym word
    ]
