-- Which bucket of the announced ops is loaded next.
use Rattle.std.proofs.Common.{◌≡◌, ℕ, zero, suc, ◌+◌, ◌<◌, Bool, true, false, eqb, List, [], ◌∷◌, ◌++◌, length, take, get_or, Option, Some, None, refl, sym, ap, ◌∙◌, subst, arith}
use Rattle.std.specs.Prelude.{◌||◌, All, find, not, if◌then◌else◌}
use Rattle.std.specs.Option.{option_map, option_or}
use Rattle.std.proofs.lemmas.Bool.Decides.{nat_tests}
use Rattle.std.specs.List.{list_any}
use Rattle.std.proofs.lemmas.List.{append-nil}
use Rattle.std.proofs.lemmas.List.Elements.{All-append, All-cons, All-nil, All-head, All-tail, filter_map-append}
use Rattle.std.proofs.lemmas.List.Folds.{find-append, list_any-append}
use Rattle.plain_map.specs.declared.rules.Rules.{Rules}
use Rattle.plain_map.specs.Calls.{key_in}
use Rattle.bucket_states.specs.declared.ops.Op.{Op}
use Rattle.table_model.specs.Directories.{DirectoryState, bucket_of}
use Rattle.table_model.specs.DirectoryChange.{LoadedBucket, buckets_of, is_bucket, next_bucket}
use Rattle.step_counts.specs.StepCounts.{bucket_row_words}
use Rattle.table_model.specs.declared.rounds.Round.{Round}
use Rattle.table_model.specs.Setup.{rules_of, settings_of}
use Rattle.table_model.specs.Phases.{Phase, DirRow, DirStore, DirWord, DirectoryTry}
use Rattle.table_model.specs.Fits.{Makes}
use Rattle.table_model.specs.Goes.{after_loaded, bucket_in_words, load_or_store, more}
use Rattle.seat_calls.specs.Going.{Going, goes, later, on}
use Rattle.seat_calls.specs.Rows.{row_then}
use Rattle.seat_calls.specs.Loads.{AddsBucket, HasLoaded, IsLoaded}
use Rattle.seat_calls.proofs.RunLemmas.{later_later}

-- the first elements, one by one
pub take_one : {A : Type 0} → (xs : List A) (i j : ℕ) (d : A) → j ≡ suc i → i < length xs →
    take j xs ≡ take i xs ++ get_or xs i d ∷ []
take_one [] i j d e h = absurd (omega arith)
take_one {A} (y ∷ ys) zero j d e h = ap (λ (k : ℕ). take k (y ∷ ys)) e
take_one {A} (y ∷ ys) (suc i) j d e h = ap (λ (k : ℕ). take k (y ∷ ys)) e
    ∙ ap (λ (zs : List A). y ∷ zs) (take_one ys i (suc i) d refl (omega arith))

module _ (rules : Rules) (directory : DirectoryState) where
  -- the bucket of an op's key
  abbrev bucket_for : Op → ℕ
  bucket_for op = bucket_of rules directory (key_in op.call)

  -- the buckets of more ops
  pub buckets_none : (front : List (Option Op)) →
      buckets_of rules directory (front ++ None ∷ []) ≡ buckets_of rules directory front ++ []
  buckets_none front = filter_map-append (option_map bucket_for) front (None ∷ [])

  pub buckets_some : (front : List (Option Op)) (op : Op) →
      buckets_of rules directory (front ++ Some op ∷ []) ≡ buckets_of rules directory front ++ bucket_for op ∷ []
  buckets_some front op = filter_map-append (option_map bucket_for) front (Some op ∷ [])

  -- none of these is still to be loaded
  pub all_found : (loaded : List LoadedBucket) (buckets : List ℕ) → All (IsLoaded loaded) buckets →
      find (λ b. not (list_any (is_bucket b) loaded)) buckets ≡ None
  all_found loaded [] all = refl
  all_found loaded (b ∷ bs) all =
      ap (λ (t : Bool). if not t then Some b else find (λ b. not (list_any (is_bucket b) loaded)) bs)
      (All-head (IsLoaded loaded) b bs all)
      ∙ all_found loaded bs (All-tail (IsLoaded loaded) b bs all)

  -- the bucket of the first op that has none
  pub next_is : (loaded : List LoadedBucket) (front back ops : List (Option Op)) (op : Op) →
      ops ≡ front ++ Some op ∷ back →
      All (IsLoaded loaded) (buckets_of rules directory front) → list_any (is_bucket (bucket_for op)) loaded ≡ false →
      next_bucket rules directory loaded ops ≡ Some (bucket_for op)
  next_is loaded front back ops op cut all new =
      let p = λ (b : ℕ). not (list_any (is_bucket b) loaded) in
      ap (λ (os : List (Option Op)). next_bucket rules directory loaded os) cut
      ∙ ap (find p) (filter_map-append (option_map bucket_for) front (Some op ∷ back))
      ∙ find-append p (buckets_of rules directory front) (buckets_of rules directory (Some op ∷ back))
      ∙ ap (λ (o : Option ℕ). option_or o (find p (buckets_of rules directory (Some op ∷ back))))
      (all_found loaded (buckets_of rules directory front) all)
      ∙ ap (λ (t : Bool). if not t then Some (bucket_for op) else find p (buckets_of rules directory back)) new

-- a bucket that was loaded stays so, and the new one is
pub still_loaded : (bucket b : ℕ) (was now : List LoadedBucket) → AddsBucket bucket was now → IsLoaded was b →
    IsLoaded now b
still_loaded bucket b was now adds is =
    ap (list_any (is_bucket b)) adds.now_are ∙ list_any-append (is_bucket b) was (adds.one ∷ [])
    ∙ ap (λ (t : Bool). t || list_any (is_bucket b) (adds.one ∷ [])) is

-- buckets that were loaded stay so
pub all_still : (bucket : ℕ) (was now : List LoadedBucket) (buckets : List ℕ) → AddsBucket bucket was now →
    All (IsLoaded was) buckets → All (IsLoaded now) buckets
all_still bucket was now [] adds all = All-nil (IsLoaded now)
all_still bucket was now (b ∷ bs) adds all =
    All-cons (IsLoaded now) b bs (still_loaded bucket b was now adds (All-head (IsLoaded was) b bs all))
    (all_still bucket was now bs adds (All-tail (IsLoaded was) b bs all))

-- one of three tests holds
or_true : (s t : Bool) → t ≡ true → (s || (t || false)) ≡ true
or_true true t is = refl
or_true false true is = refl
or_true false false is = is

-- two equal numbers
same_number : (a b : ℕ) → a ≡ b → eqb a b ≡ true
same_number a b is = grind (arith, nat_tests)

-- the new bucket is loaded
pub now_loaded : (bucket : ℕ) (was now : List LoadedBucket) → AddsBucket bucket was now → IsLoaded now bucket
now_loaded bucket was now adds =
    ap (list_any (is_bucket bucket)) adds.now_are ∙ list_any-append (is_bucket bucket) was (adds.one ∷ [])
    ∙ or_true (list_any (is_bucket bucket) was) (is_bucket bucket adds.one)
    (same_number adds.one.bucket bucket adds.number)

-- a bucket word and a row are loaded
module _ (f mid : Going) (round : Round) (attempt : DirectoryTry) (found : List (Option Op))
    (loaded : List LoadedBucket) (bucket row : ℕ)
    (phase : f.phase ≡ DirWord round attempt found loaded bucket) (then_mid : mid ≡ goes f row) where
  -- after the bucket word
  mid_is : mid ≡ later f 1 (DirRow round attempt found loaded bucket row [])
  mid_is = then_mid ∙ ap (λ (p : Phase). goes (on f p) row) phase

  abbrev pub with_row : List ℕ → List LoadedBucket
  with_row words = more loaded (record { bucket = bucket; row = row; state = bucket_in_words f.setup words })

  pub bucket_goes : (words : List ℕ) → later mid (bucket_row_words (settings_of mid.setup))
      (row_then mid.setup mid.seat mid.flight mid.phase words)
      ≡ later f (1 + bucket_row_words (settings_of f.setup)) (after_loaded f.setup round attempt found (with_row words))
  bucket_goes words =
      ap (λ (h : Going). later h (bucket_row_words (settings_of h.setup))
      (row_then h.setup h.seat h.flight h.phase words)) mid_is
      ∙ later_later f 1 (bucket_row_words (settings_of f.setup)) (DirRow round attempt found loaded bucket row [])
      (after_loaded f.setup round attempt found (with_row words))

  pub bucket_makes : (words : List ℕ) → Makes mid.setup (row_then mid.setup mid.seat mid.flight mid.phase words) →
      Makes f.setup (after_loaded f.setup round attempt found (with_row words))
  bucket_makes words makes = subst (λ (h : Going). Makes h.setup (row_then h.setup h.seat h.flight h.phase words))
      mid_is makes

-- one op more is gone through
module _ (first now : Going) (round : Round) (attempt : DirectoryTry) (ops front : List (Option Op))
    (loaded : List LoadedBucket) (spent : ℕ)
    (found : HasLoaded first now round attempt ops front loaded spent) where
  -- the bucket of an op's key
  abbrev number : Op → ℕ
  number op = bucket_of (rules_of first.setup) attempt.directory (key_in op.call)

  -- a seat that announced none
  pub found_none : HasLoaded first now round attempt ops (front ++ None ∷ []) loaded spent
  found_none = record {
    goes = found.goes;
    makes = found.makes;
    among = subst (All (IsLoaded loaded)) (sym (append-nil (buckets_of
        (rules_of first.setup) attempt.directory front))
        ∙ sym (buckets_none (rules_of first.setup) attempt.directory front)) found.among;
  }

  with_number : (now_loaded : List LoadedBucket) (op : Op) →
      All (IsLoaded now_loaded) (buckets_of (rules_of first.setup) attempt.directory front) →
      IsLoaded now_loaded (number op) →
      All (IsLoaded now_loaded) (buckets_of (rules_of first.setup) attempt.directory (front ++ Some op ∷ []))
  with_number now_loaded op all is =
      subst (All (IsLoaded now_loaded)) (sym (buckets_some (rules_of first.setup) attempt.directory front op))
      (All-append (IsLoaded now_loaded) (buckets_of (rules_of first.setup) attempt.directory front) (number op ∷ []) all
      (All-cons (IsLoaded now_loaded) (number op) [] is (All-nil (IsLoaded now_loaded))))

  -- an op whose bucket is loaded
  pub found_old : (op : Op) → IsLoaded loaded (number op) →
      HasLoaded first now round attempt ops (front ++ Some op ∷ []) loaded spent
  found_old op is = record { goes = found.goes; makes = found.makes; among = with_number loaded op found.among is }

  -- an op whose bucket is not: it comes next
  pub found_next : (op : Op) (back : List (Option Op)) → ops ≡ front ++ Some op ∷ back →
      list_any (is_bucket (number op)) loaded ≡ false →
      now.phase ≡ DirWord round attempt ops loaded (number op)
  found_next op back cut new =
      ap (λ (h : Going). h.phase) found.goes
      ∙ ap (load_or_store round attempt ops loaded)
      (next_is (rules_of first.setup) attempt.directory loaded front back ops op cut found.among new)

  -- and is then loaded
  pub found_new : (op : Op) (last : Going) (more_loaded : List LoadedBucket) (k : ℕ) →
      AddsBucket (number op) loaded more_loaded →
      last ≡ later now k (after_loaded now.setup round attempt ops more_loaded) →
      Makes now.setup (after_loaded now.setup round attempt ops more_loaded) →
      HasLoaded first last round attempt ops (front ++ Some op ∷ []) more_loaded (spent + k)
  found_new op last more_loaded k adds goes makes = record {
    goes =
        goes ∙ ap (λ (h : Going). later h k (after_loaded h.setup round attempt ops more_loaded)) found.goes
        ∙ later_later first spent k (after_loaded first.setup round attempt ops loaded)
        (after_loaded first.setup round attempt ops more_loaded);
    makes = subst (λ (h : Going). Makes h.setup (after_loaded h.setup round attempt ops more_loaded)) found.goes makes;
    among = with_number more_loaded op (all_still (number op) loaded more_loaded
        (buckets_of (rules_of first.setup) attempt.directory front) adds found.among)
        (now_loaded (number op) loaded more_loaded adds);
  }

-- the ops of all seats are gone through
module _ (first now : Going) (round : Round) (attempt : DirectoryTry) (ops : List (Option Op))
    (loaded : List LoadedBucket) (spent : ℕ)
    (found : HasLoaded first now round attempt ops ops loaded spent) where
  -- the words of the change come next
  pub all_loaded : after_loaded first.setup round attempt ops loaded ≡ DirStore round attempt ops loaded 0
  all_loaded = ap (load_or_store round attempt ops loaded)
      (all_found (rules_of first.setup) attempt.directory loaded
      (buckets_of (rules_of first.setup) attempt.directory ops) found.among)
