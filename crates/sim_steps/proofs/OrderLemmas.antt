-- The order, read from the words, is what took effect after each version.
use Rattle.std.proofs.Common.{◌≡◌, ◌≢◌, ℕ, zero, suc, ◌+◌, ◌-◌, ◌*◌, ◌<◌, ◌≤◌, Bool, true, false, cond, eqb, ltb, List, [], ◌∷◌, ◌++◌, length, get_or, map, sum, inl, inr, refl, sym, ap, ◌∙◌, arith, length-append, append_assoc}
use Rattle.std.proofs.lemmas.Bool.{cases_lt, lt-ltb, le-ltb, eq-eqb, ne_eqb, cond-true, cond-false}
use Rattle.std.proofs.lemmas.List.{append-nil, map-append}
use Rattle.std.proofs.lemmas.List.Sums.{sum_by-cons}
use Rattle.sim_steps.specs.declared.words.Address.TheVariants.{Root, StateWord}
use Rattle.sim_steps.specs.Layout.{Settings, seats_of, row_words}
use Rattle.sim_steps.specs.Program.{applied}
use Rattle.sim_steps.specs.World.{World, opening_row}
use Rattle.sim_steps.specs.Order.{Entry, word_at, applied_at, news, order_to, order_of, numbers_of, how_many, up_to}
use Rattle.sim_steps.proofs.Ghost.{Item, entry_of, Common, Local}
use Rattle.sim_steps.proofs.Tally.{total, total_room, top_few}
use Rattle.sim_steps.proofs.Runs.{Follows, first_applied}

-- ---- all that took effect up to a version

-- the items of all versions up to one
abbrev pub items_to : (ℕ → List Item) → ℕ → List Item
items_to items_at zero = []
items_to items_at (suc v) = items_to items_at v ++ items_at v

-- those of a later one begin with them
pub items_split : (items_at : ℕ → List Item) (v k : ℕ) →
    (rest : List Item) × (items_to items_at (k + v) ≡ items_to items_at v ++ rest)
items_split items_at v zero = (
  [],
  let e : 0 + v ≡ v = omega arith in
      ap (items_to items_at) e ∙ sym (append-nil (items_to items_at v)),
)
items_split items_at v (suc k) =
    let r = items_split items_at v k in
    let e : suc k + v ≡ suc (k + v) = omega arith in (
      r.0 ++ items_at (k + v),
      ap (items_to items_at) e ∙ ap (λ xs. xs ++ items_at (k + v)) r.1
          ∙ append_assoc (items_to items_at v) r.0 (items_at (k + v)),
    )

-- ---- the words

-- the root holds the row of the last version
pub root_word : (l : Settings) (w : World) (c : Common) (locals : ℕ → Local) → Follows l w c locals →
    word_at l w.words Root ≡ c.row_at c.top
root_word l w c locals a = a.laid_flat.same Root tt ∙ a.kept.shared.chain.root_is

-- a version's row holds its words
pub row_word : (l : Settings) (w : World) (c : Common) (locals : ℕ → Local) → Follows l w c locals → (v i : ℕ) →
    v ≤ c.top → i < row_words (seats_of l) → word_at l w.words (StateWord (c.row_at v) i) ≡ get_or (c.words_at v) i 0
row_word l w c locals a v i h k = a.laid_flat.same (StateWord (c.row_at v) i) (a.kept.shared.chain.within v h, k)
    ∙ a.kept.shared.chain.rows_are v i h k

-- and so the number that it has of a seat
pub applied_word : (l : Settings) (w : World) (c : Common) (locals : ℕ → Local) → Follows l w c locals → (v p : ℕ) →
    v ≤ c.top → p < seats_of l → applied_at l w.words (c.row_at v) p ≡ applied (c.words_at v) p
applied_word l w c locals a v p h k = row_word l w c locals a v (7 + 2 * p) h (omega arith)

-- what is new depends on the numbers alone
news_same : (old new old' new' : ℕ → ℕ) (k more : ℕ) → ((p : ℕ) → p < k + more → old p ≡ old' p) →
    ((p : ℕ) → p < k + more → new p ≡ new' p) → news old new k more ≡ news old' new' k more
news_same old new old' new' k zero h g = refl
news_same old new old' new' k (suc more) h g =
    ap (λ x. cond (ltb x (new k)) ((k, new k) ∷ []) [] ++ news old new (k + 1) more) (h k (omega arith))
    ∙ ap (λ x. cond (ltb (old' k) x) ((k, x) ∷ []) [] ++ news old new (k + 1) more) (g k (omega arith))
    ∙ ap (λ xs. cond (ltb (old' k) (new' k)) ((k, new' k) ∷ []) [] ++ xs)
    (news_same old new old' new' (k + 1) more (λ p n. h p (omega arith)) (λ p n. g p (omega arith)))

-- the opening row has no base
first_word : (l : Settings) → get_or (opening_row l) 0 0 ≡ 0
unfolding opening_row
first_word l = refl

module _ (l : Settings) (w : World) (c : Common) (locals : ℕ → Local) (a : Follows l w c locals) where
  -- so the words say
  first_base : word_at l w.words (StateWord (c.row_at 0) 0) ≡ 0
  first_base = row_word l w c locals a 0 0 (omega arith) (omega arith)
      ∙ ap (λ ws. get_or ws 0 0) a.kept.shared.chain.first_words ∙ first_word l

  -- the order read from a version's row is that of its items
  order_reads : (v fuel : ℕ) → v ≤ c.top → v ≤ fuel →
      order_to l w.words fuel (c.row_at v) ≡ map entry_of (items_to c.items_at v)
  order_reads zero zero h k = refl
  order_reads (suc v) zero h k = absurd (omega arith)
  order_reads zero (suc fuel) h k = cond-true (eqb (word_at l w.words (StateWord (c.row_at 0) 0)) 0) [] _
      (eq-eqb (word_at l w.words (StateWord (c.row_at 0) 0)) 0 first_base)
  order_reads (suc v) (suc fuel) h k =
      let base = word_at l w.words (StateWord (c.row_at (suc v)) 0) in
      let next : v + 1 ≡ suc v = omega arith in
      let base_is : base ≡ c.row_at v + 1 =
      row_word l w c locals a (suc v) 0 h (omega arith) ∙ ap (λ n. get_or (c.words_at n) 0 0) (sym next)
      ∙ a.kept.shared.chain.bases v (omega arith) in
      let other : base ≢ 0 = omega (arith, base_is) in
      let before_is : base - 1 ≡ c.row_at v = omega (arith, base_is) in
      cond-false (eqb base 0) [] (order_to l w.words fuel (base - 1)
      ++ news (applied_at l w.words (base - 1)) (applied_at l w.words (c.row_at (suc v))) 0 (seats_of l))
      (ne_eqb base 0 other)
      ∙ ap (λ r. order_to l w.words fuel r ++ news (applied_at l w.words r)
      (applied_at l w.words (c.row_at (suc v))) 0 (seats_of l)) before_is
      ∙ ap (λ xs. xs ++ news (applied_at l w.words (c.row_at v)) (applied_at l w.words (c.row_at (suc v))) 0
      (seats_of l)) (order_reads v fuel (omega arith) (omega arith))
      ∙ ap (λ xs. map entry_of (items_to c.items_at v) ++ xs) (news_are v next (omega arith))
      ∙ sym (map-append entry_of (items_to c.items_at v) (c.items_at v))
    where
      news_are : (v : ℕ) → v + 1 ≡ suc v → v < c.top →
          news (applied_at l w.words (c.row_at v)) (applied_at l w.words (c.row_at (suc v))) 0
          (seats_of l) ≡ map entry_of (c.items_at v)
      news_are v next h =
          news_same (applied_at l w.words (c.row_at v)) (applied_at l w.words (c.row_at (suc v)))
          (applied (c.words_at v)) (applied (c.words_at (v + 1))) 0 (seats_of l)
          (λ p n. applied_word l w c locals a v p (omega arith) (omega arith))
          (λ p n. applied_word l w c locals a (suc v) p (omega arith) (omega arith)
          ∙ ap (λ m. applied (c.words_at m) p) (sym next))
          ∙ (a.kept.story v h).news_are

  -- and the order read from the root that of all
  pub order_is : order_of l w.words ≡ map entry_of (items_to c.items_at c.top)
  order_is =
      let few = top_few l c (λ p. (locals p).seat.caller) (λ p. (locals p).base)
      (λ p. (locals p).seat.phase) a.kept.seats a.kept.tallied in
      ap (order_to l w.words (sum l.adds)) (root_word l w c locals a) ∙ order_reads c.top (sum l.adds) (omega arith) few

-- ---- a seat's numbers there

-- a seat's numbers in two lists
pub numbers_of-append : (p : ℕ) (xs ys : List Entry) → numbers_of p (xs ++ ys) ≡ numbers_of p xs ++ numbers_of p ys
numbers_of-append p [] ys = refl
numbers_of-append p (a ∷ xs) ys =
    ap (λ zs. cond (eqb a.0 p) (a.1 ∷ []) [] ++ zs) (numbers_of-append p xs ys)
    ∙ sym (append_assoc (cond (eqb a.0 p) (a.1 ∷ []) []) (numbers_of p xs) (numbers_of p ys))

-- what the first seat has new
abbrev first : (ℕ → ℕ) → (ℕ → ℕ) → ℕ → List Entry
first old new k = cond (ltb (old k) (new k)) ((k, new k) ∷ []) []

-- its numbers there
numbers_first : (old new : ℕ → ℕ) (p k : ℕ) →
    numbers_of p (first old new k) ≡ cond (ltb (old k) (new k)) (cond (eqb k p) (new k ∷ []) []) []
numbers_first old new p k = go (ltb (old k) (new k))
  where
    go : (b : Bool) → numbers_of p (cond b ((k, new k) ∷ []) []) ≡ cond b (cond (eqb k p) (new k ∷ []) []) []
    go true = append-nil (cond (eqb k p) (new k ∷ []) [])
    go false = refl

-- nothing, by either way
cond_nil : (b : Bool) → cond {A = List ℕ} b [] [] ≡ []
cond_nil true = refl
cond_nil false = refl

-- another seat has none there
numbers_skip : (old new : ℕ → ℕ) (p k : ℕ) → k ≢ p → numbers_of p (first old new k) ≡ []
numbers_skip old new p k n =
    numbers_first old new p k ∙ ap (λ xs. cond (ltb (old k) (new k)) xs [])
    (cond-false (eqb k p) (new k ∷ []) [] (ne_eqb k p n)) ∙ cond_nil (ltb (old k) (new k))

-- nor has one that comes before
numbers_before : (old new : ℕ → ℕ) (p k more : ℕ) → p < k → numbers_of p (news old new k more) ≡ []
numbers_before old new p k zero h = refl
numbers_before old new p k (suc more) h =
    let other : k ≢ p = omega arith in
    numbers_of-append p (first old new k) (news old new (k + 1) more)
    ∙ ap (λ xs. xs ++ numbers_of p (news old new (k + 1) more)) (numbers_skip old new p k other)
    ∙ numbers_before old new p (k + 1) more (omega arith)

-- a seat's number is there where it has something new
numbers_at : (old new : ℕ → ℕ) (p k more i : ℕ) → p ≡ k + i → i < more →
    numbers_of p (news old new k more) ≡ cond (ltb (old p) (new p)) (new p ∷ []) []
numbers_at old new p k zero i e h = absurd (omega arith)
numbers_at old new p k (suc more) zero e h =
    let s : k ≡ p = omega arith in
    numbers_of-append p (first old new k) (news old new (k + 1) more)
    ∙ ap (λ xs. numbers_of p (first old new k) ++ xs) (numbers_before old new p (k + 1) more (omega arith))
    ∙ append-nil (numbers_of p (first old new k)) ∙ numbers_first old new p k
    ∙ ap (λ xs. cond (ltb (old k) (new k)) xs []) (cond-true (eqb k p) (new k ∷ []) [] (eq-eqb k p s))
    ∙ ap (λ q. cond (ltb (old q) (new q)) (new q ∷ []) []) s
numbers_at old new p k (suc more) (suc i) e h =
    let other : k ≢ p = omega arith in
    numbers_of-append p (first old new k) (news old new (k + 1) more)
    ∙ ap (λ xs. xs ++ numbers_of p (news old new (k + 1) more)) (numbers_skip old new p k other)
    ∙ numbers_at old new p (k + 1) more i (omega arith) (omega arith)

-- a step of one more at most
one_step : (n m : ℕ) → n ≤ m → m ≤ n + 1 → up_to n ++ cond (ltb n m) (m ∷ []) [] ≡ up_to m
one_step n m h k = elim (cases_lt n m) [
  | inl g ↦
      let e : suc n ≡ m = omega arith in let f : m ≡ n + 1 = omega arith in
      ap (λ xs. up_to n ++ xs) (cond-true (ltb n m) (m ∷ []) [] (lt-ltb n m g)) ∙ ap (λ x. up_to n ++ x ∷ []) f
      ∙ ap up_to e
  | inr g ↦
      let e : n ≡ m = omega arith in
      ap (λ xs. up_to n ++ xs) (cond-false (ltb n m) (m ∷ []) [] (le-ltb n m g)) ∙ append-nil (up_to n) ∙ ap up_to e
]

-- in the order a seat's numbers are 1, 2 and so on
pub numbers_are : (l : Settings) (w : World) (c : Common) (locals : ℕ → Local) → Follows l w c locals → (p v : ℕ) →
    p < seats_of l → v ≤ c.top → numbers_of p (map entry_of (items_to c.items_at v)) ≡ up_to (applied (c.words_at v) p)
numbers_are l w c locals a p zero hp h = ap up_to (sym (first_applied l p hp)
    ∙ ap (λ ws. applied ws p) (sym a.kept.shared.chain.first_words))
numbers_are l w c locals a p (suc v) hp h =
    let next : v + 1 ≡ suc v = omega arith in
    let z : p ≡ 0 + p = omega arith in
    let s = a.kept.story v (omega arith) in
    ap (numbers_of p) (map-append entry_of (items_to c.items_at v) (c.items_at v))
    ∙ numbers_of-append p (map entry_of (items_to c.items_at v)) (map entry_of (c.items_at v))
    ∙ ap (λ xs. xs ++ numbers_of p (map entry_of (c.items_at v))) (numbers_are l w c locals a p v hp (omega arith))
    ∙ ap (λ xs. up_to (applied (c.words_at v) p) ++ numbers_of p xs) (sym s.news_are)
    ∙ ap (λ xs. up_to (applied (c.words_at v) p) ++ xs)
    (numbers_at (applied (c.words_at v)) (applied (c.words_at (v + 1))) p 0 (seats_of l) p z hp)
    ∙ one_step (applied (c.words_at v) p) (applied (c.words_at (v + 1)) p)
    (a.kept.shared.chain.rises v (v + 1) p (omega arith) (omega arith) hp) (s.one_more p hp)
    ∙ ap (λ n. up_to (applied (c.words_at n) p)) next

-- ---- how many they are

-- a seat's adds are as many as its numbers
pub how_many-numbers : (p : ℕ) (xs : List Entry) → how_many p xs ≡ length (numbers_of p xs)
how_many-numbers p [] = refl
how_many-numbers p (x ∷ xs) =
    omega (
      arith,
      sum_by-cons (λ (e : Entry). cond (eqb e.0 p) 1 0) x xs,
      how_many-numbers p xs,
      length-append (cond (eqb x.0 p) (x.1 ∷ []) []) (numbers_of p xs),
      one (eqb x.0 p),
    )
  where
    one : (b : Bool) → length (cond b (x.1 ∷ []) []) ≡ cond b 1 0
    one true = refl
    one false = refl

-- so many numbers are that many
length-up_to : (n : ℕ) → length (up_to n) ≡ n
length-up_to zero = refl
length-up_to (suc n) = omega (arith, length-append (up_to n) ((n + 1) ∷ []), length-up_to n)

-- in the order of a version a seat has as many adds as it says
pub how_many_are : (l : Settings) (w : World) (c : Common) (locals : ℕ → Local) → Follows l w c locals → (p v : ℕ) →
    p < seats_of l → v ≤ c.top → how_many p (map entry_of (items_to c.items_at v)) ≡ applied (c.words_at v) p
how_many_are l w c locals a p v hp h =
    how_many-numbers p (map entry_of (items_to c.items_at v)) ∙ ap length (numbers_are l w c locals a p v hp h)
    ∙ length-up_to (applied (c.words_at v) p)

-- ---- no more adds than room

-- what is new is as much as the numbers grew
length_news : (old new : ℕ → ℕ) (k more : ℕ) → ((p : ℕ) → p < k + more → old p ≤ new p) →
    ((p : ℕ) → p < k + more → new p ≤ old p + 1) → length (news old new k more) + total old k more ≡ total new k more
length_news old new k zero h g = refl
length_news old new k (suc more) h g =
    omega (
      arith,
      length-append (first old new k) (news old new (k + 1) more),
      length_news old new (k + 1) more (λ p n. h p (omega arith)) (λ p n. g p (omega arith)),
      one (old k) (new k) (h k (omega arith)) (g k (omega arith)),
    )
  where
    one : (n m : ℕ) → n ≤ m → m ≤ n + 1 → length {A = Entry} (cond (ltb n m) ((k, m) ∷ []) []) + n ≡ m
    one n m h g = elim (cases_lt n m) [
      | inl f ↦ omega (arith, ap (length {A = Entry}) (cond-true (ltb n m) ((k, m) ∷ []) [] (lt-ltb n m f)))
      | inr f ↦ omega (arith, ap (length {A = Entry}) (cond-false (ltb n m) ((k, m) ∷ []) [] (le-ltb n m f)))
    ]

-- each item is one entry
pub length_map : (xs : List Item) → length (map entry_of xs) ≡ length xs
length_map [] = refl
length_map (x ∷ xs) = ap suc (length_map xs)

-- the items up to a version are as many as its numbers
items_long : (l : Settings) (w : World) (c : Common) (locals : ℕ → Local) → Follows l w c locals → (v : ℕ) →
    v ≤ c.top → length (items_to c.items_at v) ≡ total (applied (c.words_at v)) 0 (seats_of l)
items_long l w c locals a zero h = sym (zeros 0 (seats_of l) (omega arith))
  where
    zeros : (k more : ℕ) → k + more ≤ seats_of l → total (applied (c.words_at 0)) k more ≡ 0
    zeros k zero n = refl
    zeros k (suc more) n = omega (
      arith,
      zeros (k + 1) more (omega arith),
      ap (λ ws. applied ws k) a.kept.shared.chain.first_words,
      first_applied l k (omega arith),
    )
items_long l w c locals a (suc v) h =
    let next : v + 1 ≡ suc v = omega arith in
    let s = a.kept.story v (omega arith) in
    let n = length_news (applied (c.words_at v)) (applied (c.words_at (v + 1))) 0 (seats_of l)
    (λ p k. a.kept.shared.chain.rises v (v + 1) p (omega arith) (omega arith) (omega arith))
    (λ p k. s.one_more p (omega arith)) in
    omega (
      arith,
      length-append (items_to c.items_at v) (c.items_at v),
      items_long l w c locals a v (omega arith),
      ap length s.news_are,
      length_map (c.items_at v),
      n,
      ap (λ m. total (applied (c.words_at m)) 0 (seats_of l)) next,
    )

-- and no more than there is room
pub items_few : (l : Settings) (w : World) (c : Common) (locals : ℕ → Local) → Follows l w c locals → (v : ℕ) →
    v ≤ c.top → length (items_to c.items_at v) ≤ sum l.adds
items_few l w c locals a v h =
    omega (
      arith,
      items_long l w c locals a v h,
      total_room l (applied (c.words_at v))
          (λ p n. omega (
            arith,
            a.kept.shared.chain.rises v c.top p h (omega arith) n,
            a.kept.shared.helped.real p n,
            a.kept.shared.calls.few p n,
          )),
    )

-- ---- when an add took effect

-- the version after which a seat's add of this number took effect
pub record Rise (c : Common) (p number : ℕ) : Type 0 where
  pub version : ℕ
  pub within : version < c.top
  pub before_is : applied (c.words_at version) p < number
  pub after_is : applied (c.words_at (version + 1)) p ≡ number

-- a number that was reached was reached by one version
pub rise : (l : Settings) (w : World) (c : Common) (locals : ℕ → Local) → Follows l w c locals → (p u number : ℕ) →
    p < seats_of l → u ≤ c.top → 0 < number → applied (c.words_at u) p ≡ number → Rise c p number
rise l w c locals a p zero number hp h some e =
    absurd (omega (arith, e, ap (λ ws. applied ws p) a.kept.shared.chain.first_words, first_applied l p hp))
rise l w c locals a p (suc u) number hp h some e = elim (cases_lt (applied (c.words_at u) p) number) [
  | inl g ↦ let next : suc u ≡ u + 1 = omega arith in
      record {
        version = u;
        within = omega arith;
        before_is = g;
        after_is = ap (λ m. applied (c.words_at m) p) (sym next) ∙ e;
      }
  | inr g ↦ rise l w c locals a p u number hp (omega arith) some
      (omega (arith, g, e, a.kept.shared.chain.rises u (suc u) p (omega arith) h hp))
]
