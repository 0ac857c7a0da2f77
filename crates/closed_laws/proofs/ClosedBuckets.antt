-- The buckets of a closed table are those that the last directory row names, each once; and their leaves are their
-- prefixes.
use Rattle.std.proofs.Common.{◌≡◌, ℕ, ◌+◌, true, false, Bool, cond, List, [], ◌∷◌, map, reverse, inl, inr, refl, sym, ap, ◌∙◌, subst, arith}
use Rattle.std.specs.Prelude.{count_by}
use Rattle.std.proofs.lemmas.Bool.{cases_Bool, cond-true, cond-false}
use Rattle.std.proofs.lemmas.List.Recursion.{is_count_by}
use Rattle.plain_map.specs.declared.leaves.Leaf.{Leaf}
use Rattle.bucket_states.specs.States.{BucketState}
use Rattle.table_model.specs.Setup.{Setup}
use Rattle.table_model.specs.Directories.{DirectoryState}
use Rattle.table_model.specs.Reading.{bucket_at, directory_at, root_of, row_of, each_once}
use Rattle.table_model.specs.Closed.{closed_buckets, leaf_at}
use Rattle.list_laws.proofs.Lists.{In, Once}
use Rattle.closed_laws.proofs.Book.{Book, Written}
use Rattle.closed_laws.proofs.ClosedPairs.{in_reverse, reverse_in, once_reverse}
use Rattle.closed_laws.proofs.Lines.{each_in, in_each, each_is_once}
use Rattle.closed_laws.proofs.Read.{state_is, directory_is}

-- a leaf by its prefix and depth
abbrev leaf : ℕ → ℕ → Leaf
leaf prefix depth = record { prefix = prefix; depth = depth }

module _ (setup : Setup) (words : List ℕ) (k : Book) (w : Written setup words k) where
  -- what the closed directory names
  abbrev entries : List ℕ
  entries = (directory_at setup.shape words (root_of setup.shape words)).entries

  -- it names the buckets of the last version
  pub entries_are : entries ≡ (k.dir_at k.dir_top).entries
  entries_are = ap (λ r. (directory_at setup.shape words r).entries) w.root_is
      ∙ ap (λ (d : DirectoryState). d.entries) (directory_is setup words k w k.dir_top (omega arith))

  -- a closed bucket is one of them
  pub bucket_in : (b : ℕ) → In b (closed_buckets setup.shape words) → In b (k.dir_at k.dir_top).entries
  bucket_in b i = subst (In b) entries_are (reverse_in b entries
      (each_in (reverse entries) b (reverse_in b (each_once (reverse entries)) i)))

  -- and each of them is a closed bucket
  pub in_buckets : (b : ℕ) → In b (k.dir_at k.dir_top).entries → In b (closed_buckets setup.shape words)
  in_buckets b i = in_reverse b (each_once (reverse entries))
      (in_each (reverse entries) b (in_reverse b entries (subst (In b) (sym entries_are) i)))

  -- each stands once
  pub buckets_once : Once (closed_buckets setup.shape words)
  buckets_once = once_reverse (each_once (reverse entries)) (each_is_once (reverse entries))

  -- and is named
  pub bucket_named : (b : ℕ) → In b (closed_buckets setup.shape words) → k.named b ≡ true
  bucket_named b i = (w.entries k.dir_top b (omega arith) (bucket_in b i)).0

  -- the leaf of a bucket
  pub leaf_is : (b : ℕ) → k.named b ≡ true → (prefix : ℕ) → (k.state_at b (k.top b)).prefix ≡ prefix →
      leaf_at setup.shape words b ≡ leaf prefix (k.deep b)
  leaf_is b n prefix e =
      let row : bucket_at setup.shape words (row_of setup.shape words b) ≡ k.state_at b (k.top b) =
      ap (bucket_at setup.shape words) (w.word_is b n) ∙ state_is setup words k w b (k.top b) n (omega arith) in
      ap (λ (s : BucketState). leaf s.prefix s.depth) row ∙ ap (λ p. leaf p (k.state_at b (k.top b)).depth) e
      ∙ ap (leaf prefix) (w.deep_is b (k.top b) n (omega arith))

-- ---- one of a list that has it once

-- how many pass the test
abbrev many : {A : Type 0} → (A → Bool) → List A → ℕ
many test [] = 0
many test (x ∷ xs) = cond (test x) (1 + many test xs) (many test xs)

-- none, where no member passes it
none_of : {A : Type 0} (test : A → Bool) (xs : List A) → ((x : A) → In x xs → test x ≡ false) → many test xs ≡ 0
none_of test [] h = refl
none_of test (x ∷ xs) h = cond-false (test x) (1 + many test xs) (many test xs) (h x (inl refl))
    ∙ none_of test xs (λ y i. h y (inr i))

-- one, where one member alone passes it
one_of : {A : Type 0} (test : A → Bool) (xs : List A) (x : A) → Once xs → In x xs → test x ≡ true →
    ((y : A) → In y xs → test y ≡ true → y ≡ x) → many test xs ≡ 1
one_of test [] x o i e h = elim i [ ]
one_of test (y ∷ xs) x o i e h = elim (cases_Bool (test y)) [
  | inl t ↦
      let same : y ≡ x = h y (inl refl) t in
      cond-true (test y) (1 + many test xs) (many test xs) t
      ∙ ap (λ n. 1 + n) (none_of test xs (λ z j. elim (cases_Bool (test z))
      [ inr f ↦ f | inl u ↦ absurd (o.0 (subst (λ v. In v xs) (h z (inr j) u ∙ sym same) j)) ]))
  | inr f ↦ elim i [
    | inl s ↦ absurd (clash (test y) f (ap test (sym s) ∙ e))
    | inr j ↦ cond-false (test y) (1 + many test xs) (many test xs) f ∙ one_of test xs x o.1 j e (λ z n. h z (inr n))
  ]
]
  where
    clash : (b : Bool) → b ≡ false → b ≡ true → ⊥
    clash b f t = cc

-- so that is what is counted
pub count_one : {A : Type 0} (test : A → Bool) (xs : List A) (x : A) → Once xs → In x xs → test x ≡ true →
    ((y : A) → In y xs → test y ≡ true → y ≡ x) → count_by test xs ≡ 1
count_one test xs x o i e h = sym (is_count_by (many test) test refl (λ y ys. refl) xs) ∙ one_of test xs x o i e h

-- counting images by a test is counting by the test of the images
pub count_map : {A B : Type 0} (test : B → Bool) (f : A → B) (xs : List A) →
    count_by test (map f xs) ≡ count_by (λ x. test (f x)) xs
count_map {A = A} test f xs = sym (is_count_by (many test) test refl (λ y ys. refl) (map f xs)) ∙ counted xs
    ∙ is_count_by (many (λ x. test (f x))) (λ x. test (f x)) refl (λ y ys. refl) xs
  where
    counted : (xs : List A) → many test (map f xs) ≡ many (λ x. test (f x)) xs
    counted [] = refl
    counted (x ∷ xs) = ap (λ n. cond (test (f x)) (1 + n) n) (counted xs)
