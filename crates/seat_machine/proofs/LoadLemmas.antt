-- There is room for each bucket that a directory try loads: each is that of another op.
use Rattle.std.proofs.Common.{◌≡◌, ℕ, suc, ◌+◌, ◌<◌, ◌≤◌, Bool, true, false, List, [], ◌∷◌, length, map, take, Option, Some, None, refl, ap, ◌∙◌, subst, arith}
use Rattle.std.specs.Prelude.{◌||◌, find, min, not, if◌then◌else◌}
use Rattle.std.specs.List.{list_any}
use Rattle.std.proofs.lemmas.Bool.{eq-eqb}
use Rattle.std.proofs.lemmas.List.{length-map, length-take, length_push}
use Rattle.std.proofs.lemmas.List.Folds.{list_any-append}
use Rattle.bucket_states.specs.declared.ops.Op.{Op}
use Rattle.table_model.specs.Directories.{DirectoryState}
use Rattle.table_model.specs.DirectoryChange.{LoadedBucket, buckets_of, is_bucket, next_bucket}
use Rattle.table_model.specs.Goes.{more}
use Rattle.table_model.specs.Setup.{Setup, rules_of}
use Rattle.dir_states.specs.Views.{as_loaded}
use Rattle.dir_states.specs.declared.values.Loaded.{Loaded}
use Rattle.change_laws.proofs.Counts.{buckets-few}
use Rattle.seat_machine.specs.Stands.{AreFew, flag, many_loaded}
use Rattle.std.proofs.Math.Bool.{or-true}

-- the bucket is among those that were loaded
abbrev is_seen : List LoadedBucket → ℕ → Bool
is_seen loaded bucket = list_any (is_bucket bucket) loaded

-- the first of these buckets that was not loaded
abbrev unseen : List LoadedBucket → List ℕ → Option ℕ
unseen loaded buckets = find (λ bucket. not (is_seen loaded bucket)) buckets

-- a flag is 1 at most
flag-few : (t : Bool) → flag t ≤ 1
flag-few true = omega arith
flag-few false = omega arith

-- no more are loaded than there are
many-few : (loaded : List LoadedBucket) (buckets : List ℕ) → many_loaded loaded buckets ≤ length buckets
many-few loaded [] = omega arith
many-few loaded (b ∷ bs) = omega (arith, flag-few (is_seen loaded b), many-few loaded bs)

module _ (loaded now : List LoadedBucket)
    (kept : (bucket : ℕ) → is_seen loaded bucket ≡ true → is_seen now bucket ≡ true) where
  -- a bucket that was loaded still is
  flag-grows : (bucket : ℕ) (t : Bool) → is_seen loaded bucket ≡ t → flag t ≤ flag (is_seen now bucket)
  flag-grows bucket true seen = (let one : flag (is_seen now bucket) ≡ 1 = ap flag (kept bucket seen) in
      omega (arith, one))
  flag-grows bucket false seen = omega arith

  -- so no fewer are
  many-grows : (buckets : List ℕ) → many_loaded loaded buckets ≤ many_loaded now buckets
  many-grows [] = omega arith
  many-grows (b ∷ bs) = omega (arith, flag-grows b (is_seen loaded b) refl, many-grows bs)

  module _ (bucket : ℕ) (new : is_seen now bucket ≡ true) where
    -- and one more is, where that is new
    many-here : (b : ℕ) (bs : List ℕ) (t : Bool) → is_seen loaded b ≡ t →
        (unseen loaded bs ≡ Some bucket → many_loaded loaded bs + 1 ≤ many_loaded now bs) →
        (if not t then Some b else unseen loaded bs) ≡ Some bucket →
        flag t + many_loaded loaded bs + 1 ≤ flag (is_seen now b) + many_loaded now bs
    many-here b bs true seen rest e =
        let one : flag (is_seen now b) ≡ 1 = ap flag (kept b seen) in
        omega (arith, one, rest e)
    many-here b bs false seen rest e =
        let same : b ≡ bucket = ap (value b) e in
        let one : flag (is_seen now b) ≡ 1 = ap (λ (k : ℕ). flag (is_seen now k)) same ∙ ap flag new in
        omega (arith, one, many-grows bs)
      where
        value : ℕ → Option ℕ → ℕ
        value none None = none
        value none (Some x) = x

    many-more : (buckets : List ℕ) → unseen loaded buckets ≡ Some bucket →
        many_loaded loaded buckets + 1 ≤ many_loaded now buckets
    many-more [] e = absurd (subst some e tt)
      where
        some : Option ℕ → Type 0
        some None = Unit {0}
        some (Some x) = ⊥
    many-more (b ∷ bs) e = many-here b bs (is_seen loaded b) refl (many-more bs) e

-- one bucket more
module _ (loaded : List LoadedBucket) (one : LoadedBucket) where
  seen-more : (bucket : ℕ) →
      is_seen (more loaded one) bucket ≡ (is_seen loaded bucket || (is_bucket bucket one || false))
  seen-more bucket = list_any-append (is_bucket bucket) loaded (one ∷ [])

  seen-kept : (bucket : ℕ) → is_seen loaded bucket ≡ true → is_seen (more loaded one) bucket ≡ true
  seen-kept bucket seen = seen-more bucket ∙ ap (λ (s : Bool). s || (is_bucket bucket one || false)) seen

  seen-new : is_seen (more loaded one) one.bucket ≡ true
  seen-new =
      seen-more one.bucket
      ∙ ap (λ (s : Bool). is_seen loaded one.bucket || (s || false)) (eq-eqb one.bucket one.bucket refl)
      ∙ or-true (is_seen loaded one.bucket)

  module _ (setup : Setup) (directory : DirectoryState) (found : List (Option Op)) (bucket : ℕ)
      (few : AreFew setup directory found loaded)
      (next : next_bucket (rules_of setup) directory loaded found ≡ Some bucket) (is : one.bucket ≡ bucket) where
    -- no more are loaded than ops have theirs among them
    pub few_more : AreFew setup directory found (more loaded one)
    few_more =
        let grown = many-more loaded (more loaded one) seen-kept bucket
        (subst (λ (b : ℕ). is_seen (more loaded one) b ≡ true) is seen-new)
        (buckets_of (rules_of setup) directory found) next in
        omega (arith, few, grown, length_push loaded one)

-- one of these buckets is not loaded
room-here : (loaded : List LoadedBucket) (bucket b : ℕ) (bs : List ℕ) (t : Bool) →
    (unseen loaded bs ≡ Some bucket → many_loaded loaded bs + 1 ≤ length bs) →
    (if not t then Some b else unseen loaded bs) ≡ Some bucket → flag t + many_loaded loaded bs + 1 ≤ suc (length bs)
room-here loaded bucket b bs true rest e = omega (arith, rest e)
room-here loaded bucket b bs false rest e = omega (arith, many-few loaded bs)

many-room : (loaded : List LoadedBucket) (bucket : ℕ) (buckets : List ℕ) → unseen loaded buckets ≡ Some bucket →
    many_loaded loaded buckets + 1 ≤ length buckets
many-room loaded bucket [] e = absurd (subst some e tt)
  where
    some : Option ℕ → Type 0
    some None = Unit {0}
    some (Some x) = ⊥
many-room loaded bucket (b ∷ bs) e =
    room-here loaded bucket b bs (is_seen loaded b) (many-room loaded bucket bs) e

-- there is an op whose bucket is not loaded
pub room_for : (setup : Setup) (directory : DirectoryState) (found : List (Option Op)) (loaded : List LoadedBucket)
    (bucket : ℕ) → AreFew setup directory found loaded →
    next_bucket (rules_of setup) directory loaded found ≡ Some bucket → length loaded < length found
room_for setup directory found loaded bucket few next =
    omega (
      arith,
      few,
      many-room loaded bucket (buckets_of (rules_of setup) directory found) next,
      buckets-few (rules_of setup) directory found,
    )

-- fewer are loaded than there is room for, where fewer are seen
pub few_within : (loaded : List Loaded) (many seats : ℕ) → length (map as_loaded (take many loaded)) < seats →
    length loaded ≡ seats → many < length loaded
few_within loaded many seats few all =
    let count : length (map as_loaded (take many loaded)) ≡ min many (length loaded) =
    length-map (take many loaded) as_loaded ∙ length-take many loaded in
    omega (arith, count, few, all)
