-- The memory by its parts, each a function, and that the list of words is it, laid flat.
use Rattle.std.proofs.Common.{◌≡◌, ◌≢◌, ℕ, zero, suc, ◌+◌, ◌-◌, ◌*◌, ◌<◌, ◌≤◌, cond, eqb, List, ◌++◌, length, get_or, set, sum, replicate, inl, inr, refl, sym, ap, ◌∙◌, subst, arith, get_or-set_same, get_or-set_other, length-set, length-append}
use Rattle.std.proofs.lemmas.Bool.{ne_eqb, cases_eq, cond-false}
use Rattle.std.proofs.lemmas.List.{get_or-replicate, length-replicate, get_or_append_left, get_or-append_right}
pub use Rattle.word_rows.specs.Memory.{put, put_at}
pub use Rattle.word_rows.proofs.MemoryLemmas.{put_same, put_other, put_is, put_at_same, put_at_row, put_at_place, put_at_is}
use Rattle.sim_steps.specs.declared.words.Address.{Address}
use Rattle.sim_steps.specs.declared.words.Address.TheVariants.{Root, Announcement, Done, OpWord, StateWord}
use Rattle.sim_steps.specs.Layout.{Settings, seats_of, row_words, words_of, IsAddress}
use Rattle.sim_steps.specs.World.{place_of, opening_row, opening_words}
use Rattle.sim_steps.proofs.Apart.{place_apart, place_within}
use Rattle.word_rows.proofs.Apart.{row_within}

-- the words by seat, and by row and place in the row
pub record Memory : Type 0 where
  pub root : ℕ
  pub announced : ℕ → ℕ
  pub done : ℕ → ℕ
  pub op : ℕ → ℕ → ℕ
  pub state : ℕ → ℕ → ℕ

-- the word at an address
abbrev pub read : Memory → Address → ℕ
read m Root = m.root
read m (Announcement seat) = m.announced seat
read m (Done seat) = m.done seat
read m (OpWord row i) = m.op row i
read m (StateWord row i) = m.state row i

-- with another word at an address
abbrev pub write : Memory → Address → ℕ → Memory
write m Root w = record m { root = w }
write m (Announcement seat) w = record m { announced = put m.announced seat w }
write m (Done seat) w = record m { done = put m.done seat w }
write m (OpWord row i) w = record m { op = put_at m.op row i w }
write m (StateWord row i) w = record m { state = put_at m.state row i w }

-- what is written is read
pub read-write_same : (m : Memory) (a : Address) (w : ℕ) → read (write m a w) a ≡ w
read-write_same m Root w = refl
read-write_same m (Announcement s) w = put_same m.announced s w
read-write_same m (Done s) w = put_same m.done s w
read-write_same m (OpWord r i) w = put_at_same m.op r i w
read-write_same m (StateWord r i) w = put_at_same m.state r i w

-- and every other word stays
pub read-write_other : (m : Memory) (a b : Address) (w : ℕ) → b ≢ a → read (write m a w) b ≡ read m b
read-write_other m Root Root w h = absurd (h refl)
read-write_other m (Announcement s) (Announcement t) w h = put_other m.announced s w t (λ e. h (ap Announcement e))
read-write_other m (Done s) (Done t) w h = put_other m.done s w t (λ e. h (ap Done e))
read-write_other m (OpWord r i) (OpWord q j) w h =
    elim (cases_eq q r) [
      | inl e ↦ put_at_place m.op r i w q j (λ f. h (ap (λ n. OpWord n j) e ∙ ap (λ n. OpWord r n) f))
      | inr n ↦ put_at_row m.op r i w q j n
    ]
read-write_other m (StateWord r i) (StateWord q j) w h =
    elim (cases_eq q r) [
      | inl e ↦ put_at_place m.state r i w q j (λ f. h (ap (λ n. StateWord n j) e ∙ ap (λ n. StateWord r n) f))
      | inr n ↦ put_at_row m.state r i w q j n
    ]
read-write_other m Root _ w h = refl
read-write_other m (Announcement s) _ w h = refl
read-write_other m (Done s) _ w h = refl
read-write_other m (OpWord r i) _ w h = refl
read-write_other m (StateWord r i) _ w h = refl

-- an address of a table of these settings
abbrev pub Within : Settings → Address → Type 0
Within l a = IsAddress (seats_of l) (sum l.adds) a

-- the words are this memory, laid flat
pub record IsLaidFlat (l : Settings) (words : List ℕ) (m : Memory) : Type 0 where
  pub long : length words ≡ words_of (seats_of l) (sum l.adds)
  pub same : (a : Address) → Within l a → get_or words (place_of l a) 0 ≡ read m a

-- a store, in the list and in the memory
pub laid_flat_write : (l : Settings) (words : List ℕ) (m : Memory) (a : Address) (w : ℕ) → Within l a →
    IsLaidFlat l words m →
    IsLaidFlat l (set words (place_of l a) w) (write m a w)
laid_flat_write l words m a w h s = record {
  long = length-set words (place_of l a) w ∙ s.long;
  same = λ b k. elim (cases_eq (place_of l b) (place_of l a)) [
    | inl e ↦ let p : b ≡ a = place_apart (seats_of l) (sum l.adds) b a k h e in
        let within : place_of l a < length words = omega (arith, place_within (seats_of l) (sum l.adds) a h, s.long) in
        subst (λ x. get_or (set words (place_of l a) w) (place_of l x) 0 ≡ read (write m a w) x) (sym p)
        (get_or-set_same words (place_of l a) w 0 within ∙ sym (read-write_same m a w))
    | inr n ↦ get_or-set_other words (place_of l a) (place_of l b) w 0 n ∙ s.same b k
        ∙ sym (read-write_other m a b w (λ p. n (ap (place_of l) p)))
  ];
}

-- the memory at the opening: zeros, but for state row 0
abbrev pub first_memory : Settings → Memory
first_memory l = record {
  root = 0;
  announced = λ s. 0;
  done = λ s. 0;
  op = λ r i. 0;
  state = λ r i. cond (eqb r 0) (get_or (opening_row l) i 0) 0;
}

-- so many zeros are that long
zeros_long : (n : ℕ) → length {A = ℕ} (replicate n 0) ≡ n
zeros_long n = length-replicate {A = ℕ} n 0

-- the opening's words before the rows are 0
front_zero : (l : Settings) (k : ℕ) → k < place_of l (StateWord 0 0) → get_or (opening_words l) k 0 ≡ 0
front_zero l k h =
    let n = place_of l (StateWord 0 0) in
    let long : k < length {A = ℕ} (replicate n 0) = omega (arith, zeros_long n) in
    let long2 : k < length (replicate n 0 ++ opening_row l) =
    omega (arith, long, length-append (replicate n 0) (opening_row l)) in
    get_or_append_left (replicate n 0 ++ opening_row l) (replicate (sum l.adds * row_words (seats_of l)) 0) 0 k long2
    ∙ get_or_append_left (replicate n 0) (opening_row l) 0 k long ∙ get_or-replicate n k 0 0 h

-- the opening row has the length of a row
pub row_long : (l : Settings) → length (opening_row l) ≡ row_words (seats_of l)
unfolding opening_row
row_long l = omega (arith, zeros_long (2 * seats_of l))

-- how many words stand before the state rows
abbrev before_rows : Settings → ℕ
before_rows l = place_of l (StateWord 0 0)

-- and how many behind the opening's
abbrev rows_after : Settings → ℕ
rows_after l = sum l.adds * row_words (seats_of l)

-- all words up to the opening row's end
abbrev front : Settings → List ℕ
front l = replicate (before_rows l) 0 ++ opening_row l

-- they are that many
front_long : (l : Settings) → length (front l) ≡ before_rows l + row_words (seats_of l)
front_long l = omega (
  arith,
  length-append (replicate (before_rows l) 0) (opening_row l),
  zeros_long (before_rows l),
  row_long l,
)

-- each word of the opening is that of the first memory
read_first : (l : Settings) (a : Address) → Within l a →
    get_or (opening_words l) (place_of l a) 0 ≡ read (first_memory l) a
read_first l Root h = front_zero l 0 (omega arith)
read_first l (Announcement s) h = front_zero l (place_of l (Announcement s)) (omega arith)
read_first l (Done s) h = front_zero l (place_of l (Done s)) (omega arith)
read_first l (OpWord r i) h = front_zero l (place_of l (OpWord r i))
    (omega (arith, row_within r 3 i (sum l.adds) h.0 h.1))
read_first l (StateWord zero i) h =
    let n = before_rows l in
    let at : place_of l (StateWord 0 i) ≡ n + i = omega arith in
    let inside : n + i < length (front l) = omega (arith, front_long l, h.1) in
    let rest : n + i - n ≡ i = omega arith in
    ap (λ k. get_or (opening_words l) k 0) at
    ∙ get_or_append_left (front l) (replicate (rows_after l) 0) 0 (n + i) inside
    ∙ get_or-append_right (replicate n 0) (opening_row l) n (n + i) 0 (zeros_long n) (omega arith)
    ∙ ap (λ k. get_or (opening_row l) k 0) rest
read_first l (StateWord (suc r) i) h =
    let n = length (front l) in
    let k : ℕ = r * row_words (seats_of l) + i in
    let at : place_of l (StateWord (suc r) i) ≡ n + k = omega (arith, front_long l) in
    let inside : k < rows_after l = row_within r (row_words (seats_of l)) i (sum l.adds) (omega (arith, h.0)) h.1 in
    let rest : n + k - n ≡ k = omega arith in
    ap (λ j. get_or (opening_words l) j 0) at
    ∙ get_or-append_right (front l) (replicate (rows_after l) 0) n (n + k) 0 refl (omega arith)
    ∙ ap (λ j. get_or (replicate (rows_after l) 0) j 0) rest ∙ get_or-replicate (rows_after l) k 0 0 inside
    ∙ sym (cond-false (eqb (suc r) 0) (get_or (opening_row l) i 0) 0 (ne_eqb (suc r) 0 (omega arith)))

-- so the opening's words are it, laid flat
pub laid_flat_first : (l : Settings) → IsLaidFlat l (opening_words l) (first_memory l)
laid_flat_first l = record {
  long = omega (arith, length-append (front l) (replicate (rows_after l) 0), front_long l, zeros_long (rows_after l));
  same = read_first l;
}

-- ---- a history with one more version

-- what holds of each version holds with one more
pub each_version : {A : Type 0} → (f : ℕ → A) (top : ℕ) (x : A) (P : ℕ → A → Type 0) →
    ((v : ℕ) → v ≤ top → P v (f v)) → P (top + 1) x → (v : ℕ) → v ≤ top + 1 → P v (put f (top + 1) x v)
each_version f top x P old new v h = elim (cases_eq v (top + 1)) [
  | inl e ↦ subst (λ k. P k (put f (top + 1) x k)) (sym e) (subst (P (top + 1)) (sym (put_same f (top + 1) x)) new)
  | inr n ↦ subst (P v) (sym (put_other f (top + 1) x v n)) (old v (omega arith))
]

-- what holds of each two
pub two_versions : {A : Type 0} → (f : ℕ → A) (top : ℕ) (x : A) (P : A → A → Type 0) →
    ((u v : ℕ) → u ≤ v → v ≤ top → P (f u) (f v)) → ((u : ℕ) → u ≤ top → P (f u) x) → P x x →
    (u v : ℕ) → u ≤ v → v ≤ top + 1 → P (put f (top + 1) x u) (put f (top + 1) x v)
two_versions f top x P old new both u v h k = elim (cases_eq v (top + 1)) [
  | inl e ↦ subst (λ j. P (put f (top + 1) x u) (put f (top + 1) x j)) (sym e)
      (subst (P (put f (top + 1) x u)) (sym (put_same f (top + 1) x))
      (each_version f top x (λ w y. P y x) new both u (omega arith)))
  | inr n ↦ subst (P (put f (top + 1) x u)) (sym (put_other f (top + 1) x v n))
      (let m : u ≢ top + 1 = omega arith in subst (λ y. P y (f v)) (sym (put_other f (top + 1) x u m))
      (old u v h (omega arith)))
]

-- and that two are two
pub apart_versions : (f : ℕ → ℕ) (top x : ℕ) → ((u v : ℕ) → u < v → v ≤ top → f u ≢ f v) →
    ((u : ℕ) → u ≤ top → f u ≢ x) →
    (u v : ℕ) → u < v → v ≤ top + 1 → put f (top + 1) x u ≢ put f (top + 1) x v
apart_versions f top x old new u v h k = elim (cases_eq v (top + 1)) [
  | inl e ↦ subst (λ j. put f (top + 1) x u ≢ put f (top + 1) x j) (sym e)
      (subst (λ y. put f (top + 1) x u ≢ y) (sym (put_same f (top + 1) x))
      (let m : u ≢ top + 1 = omega arith in subst (λ y. y ≢ x) (sym (put_other f (top + 1) x u m))
      (new u (omega arith))))
  | inr n ↦ subst (λ y. put f (top + 1) x u ≢ y) (sym (put_other f (top + 1) x v n))
      (let m : u ≢ top + 1 = omega arith in subst (λ y. y ≢ f v) (sym (put_other f (top + 1) x u m))
      (old u v h (omega arith)))
]
