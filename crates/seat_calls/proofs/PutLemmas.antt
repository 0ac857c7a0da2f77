-- The stores of a directory try, run by run.
use Rattle.std.proofs.Common.{◌≡◌, ℕ, zero, suc, ◌+◌, ◌<◌, ◌≤◌, List, [], ◌∷◌, ◌++◌, length, drop, get_or, map, replicate, Option, Some, refl, sym, ap, ◌∙◌, subst, arith, append_assoc}
use Rattle.std.specs.Prelude.{All, slice_get, slice_index, nat_lt}
use Rattle.std.proofs.lemmas.Bool.{cond-false, cond-true, lt-ltb}
use Rattle.std.proofs.lemmas.List.Elements.{All-head, All-tail}
use Rattle.std.proofs.lemmas.List.{append-nil, drop_at, drop-drop, length-drop}
use Rattle.step_counts.specs.StepCounts.{bucket_row_words}
use Rattle.word_rows.specs.declared.addresses.Address.{Address}
use Rattle.word_rows.specs.declared.addresses.Address.TheVariants.{BucketRowWord, BucketWord, DirectoryWord}
use Rattle.plain_map.specs.declared.full.FullKind.TheVariants.{BucketRows, BucketWords}
use Rattle.word_rows.specs.Places.{place}
use Rattle.word_rows.proofs.BucketLemmas.{length-bucket}
use Rattle.bucket_states.specs.States.{row_of_state}
use Rattle.table_model.specs.declared.events.Put.{Put}
use Rattle.table_model.specs.declared.events.Ask.{Ask}
use Rattle.table_model.specs.declared.events.Action.TheVariants.{Store}
use Rattle.table_model.specs.Asks.{action_of, store_of}
use Rattle.table_model.specs.Phases.{Phase, DirExchange, DirStore}
use Rattle.table_model.specs.Leaves.{NewLeaf}
use Rattle.table_model.specs.Setup.{Setup, next_number, settings_of}
use Rattle.table_model.specs.Stores.{base_of_leaf, bucket_words, directory_puts, leaf_puts, made_leaves, row_puts}
use Rattle.dir_states.specs.declared.values.NewLeaf.{NewLeaf as PlainLeaf}
use Rattle.dir_states.specs.Views.{as_leaf}
use Rattle.seat_calls.specs.Going.{Going, IsGoing, Writes, action, asks, goes, goes_by, later, on}
use Rattle.seat_calls.specs.Puts.{Changing, ComesNext, directory_row_puts, puts_of, puts_of_leaf, storing}
use Rattle.seat_calls.proofs.RunLemmas.{later_later}
use Rattle.bucket_states.proofs.AnswerLemmas.{lt_false}

-- the store that comes next is in the list
pub get_next : (puts rest : List Put) (p : ℕ) (put : Put) → drop p puts ≡ put ∷ rest →
    (slice_get puts p ≡ Some put) × (drop (suc p) puts ≡ rest) × (p < length puts)
get_next [] rest zero put is = absurd (nothing is)
  where
    nothing : [] ≡ put ∷ rest → ⊥
    nothing e = subst (λ (ps : List Put). some ps) (sym e) tt
      where
        some : List Put → Type 0
        some [] = ⊥
        some (x ∷ xs) = Unit {0}
get_next [] rest (suc p) put is = absurd (nothing is)
  where
    nothing : [] ≡ put ∷ rest → ⊥
    nothing e = subst (λ (ps : List Put). some ps) (sym e) tt
      where
        some : List Put → Type 0
        some [] = ⊥
        some (x ∷ xs) = Unit {0}
get_next (x ∷ xs) rest zero put is = (ap first is, ap (drop 1) is, omega arith)
  where
    first : List Put → Option Put
    first ps = slice_get ps 0
get_next (x ∷ xs) rest (suc p) put is = let r = get_next xs rest p put is in (r.0, r.1, omega (arith, r.2))

module _ (c : Changing) where
  -- a word is stored
  module _ (g : Going) (p : ℕ) (at : g.phase ≡ storing g c p) (put : Put) (rest : List Put)
      (left : drop p (puts_of g c) ≡ put ∷ rest) where
    one : (slice_get (puts_of g c) p ≡ Some put) × (drop (suc p) (puts_of g c) ≡ rest) × (p < length (puts_of g c))
    one = get_next (puts_of g c) rest p put left

    pub here : g.phase ≡ DirStore c.round c.attempt c.found c.loaded p
    here = at ∙ cond-true (nat_lt p (length (puts_of g c))) _ _ (lt-ltb p (length (puts_of g c)) one.2)

    pub put_asks : asks g ≡ Ask.Store put.address put.word
    put_asks = ap (λ (f : Phase). asks (on g f)) here ∙ ap store_of one.0

    pub put_goes_on : IsGoing g.phase
    put_goes_on = subst IsGoing (sym here) tt

    pub put_goes : goes g 0 ≡ later g 1 (storing g c (p + 1))
    put_goes = ap (λ (f : Phase). goes (on g f) 0) here

    pub put_left : drop (p + 1) (puts_of g c) ≡ rest
    put_left = (let next : p + 1 ≡ suc p = omega arith in ap (λ (k : ℕ). drop k (puts_of g c)) next) ∙ one.1

  -- the words of a row are stored
  pub run_writes : (row : List ℕ) (g : Going) (p : ℕ) → g.phase ≡ storing g c p →
      (at : ℕ → Address) (i start : ℕ) (rest : List Put) →
      drop p (puts_of g c) ≡ row_puts at i row ++ rest → ((k : ℕ) → place g.setup.shape (at (i + k)) ≡ start + k) →
      Writes g start row
  run_writes [] g p phase at i start rest left places k h = absurd (omega (arith, h))
  run_writes (w ∷ ws) g p phase at i start rest left places zero h =
      let put : Put = record { address = at i; word = w } in
      let asked = put_asks g p phase put (row_puts at (suc i) ws ++ rest) left in
      let there : place g.setup.shape (at i) ≡ start + 0 =
      (let same : i ≡ i + 0 = omega arith in ap (λ (k : ℕ). place g.setup.shape (at k)) same) ∙ places 0 in (
        ap (λ (a : Ask). action_of g.setup.shape a) asked ∙ ap (λ (k : ℕ). Store k w) there,
        put_goes_on g p phase put (row_puts at (suc i) ws ++ rest) left,
      )
  run_writes (w ∷ ws) g p phase at i start rest left places (suc k) h =
      let put : Put = record { address = at i; word = w } in
      let more = row_puts at (suc i) ws ++ rest in
      let next : Going = later g 1 (storing g c (p + 1)) in
      let one = run_writes ws next (p + 1) refl at (suc i) (start + 1) rest (put_left g p phase put more left)
      (λ j. (let same : suc i + j ≡ i + (j + 1) = omega arith in ap (λ (n : ℕ). place g.setup.shape (at n)) same)
      ∙ places (j + 1) ∙ (let e : start + (j + 1) ≡ start + 1 + j = omega arith in e))
      k (omega (arith, h)) in
      let there : goes_by g (replicate (suc k) 0) ≡ goes_by next (replicate k 0) =
      ap (λ (f : Going). goes_by f (replicate k 0)) (put_goes g p phase put more left) in (
        ap action there ∙ one.0 ∙ (let e : start + 1 + k ≡ start + suc k = omega arith in
            ap (λ (n : ℕ). Store n (slice_index ws k)) e),
        subst (λ (f : Going). IsGoing f.phase) (sym there) one.1,
      )

  pub run_goes : (row : List ℕ) (g : Going) (p : ℕ) → g.phase ≡ storing g c p →
      (at : ℕ → Address) (i : ℕ) (rest : List Put) →
      drop p (puts_of g c) ≡ row_puts at i row ++ rest →
      (goes_by g (replicate (length row) 0) ≡ later g (length row) (storing g c (p + length row)))
      × (drop (p + length row) (puts_of g c) ≡ rest)
  run_goes [] g p phase at i rest left =
      let none : p ≡ p + 0 = omega arith in
      let spent : g.flight.steps ≡ g.flight.steps + 0 = omega arith in (
        (λ j. record {
          setup = g.setup;
          seat = g.seat;
          account = g.account;
          flight = record g.flight { steps = spent j };
          phase = (phase ∙ ap (storing g c) none) j;
        }),
        sym (ap (λ (k : ℕ). drop k (puts_of g c)) none) ∙ left,
      )
  run_goes (w ∷ ws) g p phase at i rest left =
      let put : Put = record { address = at i; word = w } in
      let more = row_puts at (suc i) ws ++ rest in
      let next : Going = later g 1 (storing g c (p + 1)) in
      let all = run_goes ws next (p + 1) refl at (suc i) rest (put_left g p phase put more left) in
      let n : ℕ = length ws in
      let sum : p + 1 + n ≡ p + suc n = omega arith in
      let steps : 1 + n ≡ suc n = omega arith in (
        ap (λ (f : Going). goes_by f (replicate n 0)) (put_goes g p phase put more left) ∙ all.0
            ∙ later_later g 1 n (storing g c (p + 1)) (storing g c (p + 1 + n))
            ∙ (λ j. later g (steps j) (storing g c (sum j))),
        sym (ap (λ (k : ℕ). drop k (puts_of g c)) sum) ∙ all.1,
      )

-- what is left after these stores
pub drop_past : (puts front rest : List Put) (p n : ℕ) → drop p puts ≡ front ++ rest → length front ≡ n →
    drop (p + n) puts ≡ rest
drop_past puts front rest p n left long =
    sym (drop-drop n p puts) ∙ ap (drop n) left ∙ drop_at front rest n long

-- a row has a store for each word
pub length-row_puts : (at : ℕ → Address) (i : ℕ) (row : List ℕ) → length (row_puts at i row) ≡ length row
length-row_puts at i [] = refl
length-row_puts at i (w ∷ ws) = ap suc (length-row_puts at (suc i) ws)

-- one leaf, and those after it
module _ (setup : Setup) (base : NewLeaf → Option ℕ) (bucket row : ℕ) (leaf : NewLeaf) where
  -- a leaf has a store for its word and one for each word of its row
  pub length-leaf : length (leaf_puts setup base bucket row (leaf ∷ [])) ≡ 1 + bucket_row_words (settings_of setup)
  length-leaf =
      let words = bucket_words setup (base leaf) leaf.bucket in
      let puts = row_puts (BucketRowWord row) 0 words in
      ap (λ (ps : List Put). suc (length ps)) (append-nil puts)
      ∙ ap suc (length-row_puts (BucketRowWord row) 0 words
      ∙ length-bucket (settings_of setup) (row_of_state (base leaf) leaf.bucket))
      ∙ (let n : ℕ = bucket_row_words (settings_of setup) in let e : suc n ≡ 1 + n = omega arith in e)

  pub leaf_first : (leaves : List NewLeaf) (rest : List Put) →
      leaf_puts setup base bucket row (leaf ∷ leaves) ++ rest ≡ leaf_puts setup base bucket row (leaf ∷ [])
      ++ (leaf_puts setup base (suc bucket) (suc row) leaves ++ rest)
  leaf_first leaves rest =
      let puts = row_puts (BucketRowWord row) 0 (bucket_words setup (base leaf) leaf.bucket) in
      let more = leaf_puts setup base (suc bucket) (suc row) leaves in
      ap (λ (ps : List Put). record { address = BucketWord bucket; word = row } ∷ ps)
      (append_assoc puts more rest ∙ ap (λ (ps : List Put). ps ++ (more ++ rest)) (sym (append-nil puts)))

-- all is stored
pub all_stored : (g : Going) (c : Changing) (p : ℕ) → drop p (puts_of g c) ≡ [] →
    storing g c p ≡ DirExchange c.round c.attempt c.found c.loaded
all_stored g c p none =
    let few : length (puts_of g c) ≤ p = omega (
      arith,
      ap (λ (ps : List Put). length ps) none,
      length-drop p (puts_of g c),
    ) in
    cond-false (nat_lt p (length (puts_of g c))) (DirStore c.round c.attempt c.found c.loaded p)
    (DirExchange c.round c.attempt c.found c.loaded) (lt_false p (length (puts_of g c)) few)

-- the leaves come first, and then the directory row
pub puts_are : (g : Going) (c : Changing) → puts_of g c
    ≡ leaf_puts g.setup (base_of_leaf c.loaded) (next_number g.setup g.seat BucketWords g.account.used)
    (next_number g.setup g.seat BucketRows g.account.used) (made_leaves g.setup c.attempt c.found c.loaded)
    ++ directory_row_puts g c
unfolding directory_puts
puts_are g c = refl

-- the leaf at a place, and those after it
pub leaf_at : (leaves : List PlainLeaf) (i : ℕ) (leaf : PlainLeaf) → i < length leaves →
    leaf ≡ get_or leaves i leaf → drop i (map as_leaf leaves) ≡ as_leaf leaf ∷ drop (suc i) (map as_leaf leaves)
leaf_at [] i leaf h is = absurd (omega (arith, h))
leaf_at (l ∷ ls) zero leaf h is = ap (λ (x : PlainLeaf). as_leaf x ∷ map as_leaf ls) (sym is)
leaf_at (l ∷ ls) (suc i) leaf h is = leaf_at ls i leaf (omega (arith, h)) is

-- what holds of all leaves holds of the leaf at a place
pub leaf_all : (P : NewLeaf → Type 0) (leaves : List PlainLeaf) (i : ℕ) (leaf : PlainLeaf) →
    All P (map as_leaf leaves) → i < length leaves → leaf ≡ get_or leaves i leaf → P (as_leaf leaf)
leaf_all P [] i leaf all h is = absurd (omega (arith, h))
leaf_all P (l ∷ ls) zero leaf all h is = subst (λ (x : PlainLeaf). P (as_leaf x)) (sym is)
    (All-head P (as_leaf l) (map as_leaf ls) all)
leaf_all P (l ∷ ls) (suc i) leaf all h is = leaf_all P ls i leaf (All-tail P (as_leaf l) (map as_leaf ls) all)
    (omega (arith, h)) is

-- one leaf more is stored
module _ (first : Going) (c : Changing) (stored bucket number : ℕ) (leaf : NewLeaf) (leaves : List NewLeaf)
    (rest : List Put)
    (left : drop stored (puts_of first c) ≡ leaf_puts first.setup (base_of_leaf c.loaded) bucket number
    (leaf ∷ leaves) ++ rest) where
  -- what comes after the leaf
  abbrev pub after_leaf : List Put
  after_leaf = leaf_puts first.setup (base_of_leaf c.loaded) (suc bucket) (suc number) leaves ++ rest

  pub leaf_next : (now : Going) → now ≡ later first stored (storing first c stored) →
      ComesNext now c stored (puts_of_leaf now c bucket number leaf)
  leaf_next now goes =
      subst (λ (h : Going). ComesNext h c stored (puts_of_leaf h c bucket number leaf)) (sym goes) (record {
        phase = refl;
        rest = after_leaf;
        left = left ∙ leaf_first first.setup (base_of_leaf c.loaded) bucket number leaf leaves rest;
      })

  pub leaf_left : (n : ℕ) → n ≡ 1 + bucket_row_words (settings_of first.setup) →
      drop (stored + n) (puts_of first c) ≡ after_leaf
  leaf_left n is =
      drop_past (puts_of first c) (puts_of_leaf first c bucket number leaf) after_leaf stored n
      (left ∙ leaf_first first.setup (base_of_leaf c.loaded) bucket number leaf leaves rest)
      (length-leaf first.setup (base_of_leaf c.loaded) bucket number leaf ∙ sym is)

  pub leaf_goes : (now last : Going) (n : ℕ) → n ≡ 1 + bucket_row_words (settings_of first.setup) →
      now ≡ later first stored (storing first c stored) →
      last ≡ later now (1 + bucket_row_words (settings_of now.setup))
      (storing now c (stored + (1 + bucket_row_words (settings_of now.setup)))) →
      last ≡ later first (stored + n) (storing first c (stored + n))
  leaf_goes now last n is goes next =
      let size : ℕ = 1 + bucket_row_words (settings_of first.setup) in
      next ∙ ap (λ (h : Going). later h (1 + bucket_row_words (settings_of h.setup))
      (storing h c (stored + (1 + bucket_row_words (settings_of h.setup))))) goes
      ∙ later_later first stored size (storing first c stored) (storing first c (stored + size))
      ∙ ap (λ (k : ℕ). later first (stored + k) (storing first c (stored + k))) (sym is)

-- a directory row comes next: its depth, its base and its entries
module _ (f : Going) (c : Changing) (p number depth base : ℕ) (entries : List ℕ) (phase : f.phase ≡ storing f c p)
    (left : drop p (puts_of f c) ≡ row_puts (DirectoryWord number) 0 (depth ∷ base ∷ entries)) where
  -- the depth
  abbrev first_put : Put
  first_put = record { address = DirectoryWord number 0; word = depth }

  abbrev second_put : Put
  second_put = record { address = DirectoryWord number 1; word = base }

  abbrev rest_puts : List Put
  rest_puts = row_puts (DirectoryWord number) 2 entries

  pub depth_asks : asks f ≡ Ask.Store (DirectoryWord number 0) depth
  depth_asks = put_asks c f p phase first_put (second_put ∷ rest_puts) left

  pub depth_goes : (mid : Going) → mid ≡ goes f 0 → mid ≡ later f 1 (storing f c (p + 1))
  depth_goes mid goes = goes ∙ put_goes c f p phase first_put (second_put ∷ rest_puts) left

  after_depth : drop (p + 1) (puts_of f c) ≡ second_put ∷ rest_puts
  after_depth = put_left c f p phase first_put (second_put ∷ rest_puts) left

  pub base_asks : (mid : Going) → mid ≡ goes f 0 →
      action mid ≡ Store (place f.setup.shape (DirectoryWord number 1)) base
  base_asks mid goes =
      ap action (depth_goes mid goes)
      ∙ ap (λ (a : Ask). action_of f.setup.shape a)
      (put_asks c (later f 1 (storing f c (p + 1))) (p + 1) refl second_put rest_puts after_depth)

  pub base_goes : (mid two : Going) → mid ≡ goes f 0 → two ≡ goes mid 0 → two ≡ later f 2 (storing f c (p + 1 + 1))
  base_goes mid two goes_mid goes_two =
      goes_two ∙ ap (λ (h : Going). goes h 0) (depth_goes mid goes_mid)
      ∙ put_goes c (later f 1 (storing f c (p + 1))) (p + 1) refl second_put rest_puts after_depth
      ∙ later_later f 1 1 (storing f c (p + 1)) (storing f c (p + 1 + 1))

  after_base : drop (p + 1 + 1) (puts_of f c) ≡ rest_puts ++ []
  after_base = put_left c (later f 1 (storing f c (p + 1))) (p + 1) refl second_put rest_puts after_depth
      ∙ sym (append-nil rest_puts)

  pub entries_write : (two : Going) (start : ℕ) → two ≡ later f 2 (storing f c (p + 1 + 1)) →
      start ≡ place f.setup.shape (DirectoryWord number 2) → Writes two start entries
  entries_write two start goes at =
      subst (λ (h : Going). Writes h start entries) (sym goes)
      (run_writes c entries (later f 2 (storing f c (p + 1 + 1))) (p + 1 + 1) refl
      (DirectoryWord number) 2 start [] after_base (λ k. omega (arith, at)))

  pub entries_goes : (two last : Going) → two ≡ later f 2 (storing f c (p + 1 + 1)) →
      last ≡ goes_by two (replicate (length entries) 0) →
      last ≡ later f (2 + length entries) (DirExchange c.round c.attempt c.found c.loaded)
  entries_goes two last goes then_last =
      let n : ℕ = length entries in
      let h = later f 2 (storing f c (p + 1 + 1)) in
      let all = run_goes c entries h (p + 1 + 1) refl (DirectoryWord number) 2 [] after_base in
      then_last ∙ ap (λ (k : Going). goes_by k (replicate n 0)) goes ∙ all.0
      ∙ later_later f 2 n (storing f c (p + 1 + 1)) (storing f c (p + 1 + 1 + n))
      ∙ ap (later f (2 + n)) (all_stored f c (p + 1 + 1 + n) all.1)
