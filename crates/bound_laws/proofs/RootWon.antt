-- What an exchange of the root that happens brings: at least two leaves, with the numbers that follow on the seat's
-- own.
use Rattle.std.proofs.Common.{◌≡◌, ℕ, zero, suc, ◌+◌, ◌<◌, ◌≤◌, ◌==◌, ◌||◌, Bool, true, false, cond, leb, ltb, List, [], ◌∷◌, length, get_or, refl, sym, ap, ◌∙◌, arith, eq-eqb}
use Rattle.std.specs.Prelude.{Option}
use Rattle.std.specs.Option.{option_map_or}
use Rattle.std.specs.List.{list_any}
use Rattle.std.proofs.lemmas.List.Sums.{count_by-le-length}
use Rattle.step_counts.specs.declared.rows.SeatRows.{SeatRows}
use Rattle.plain_map.specs.declared.full.FullKind.TheVariants.{BucketWords}
use Rattle.bucket_states.specs.declared.ops.Op.{Op}
use Rattle.table_model.specs.declared.rounds.Round.{Round}
use Rattle.table_model.specs.Setup.{Setup, seats_of, rules_of, next_number}
use Rattle.table_model.specs.Leaves.{NewLeaf}
use Rattle.table_model.specs.DirectoryChange.{LoadedBucket, comes_from}
use Rattle.table_model.specs.Phases.{DirectoryTry, DirExchange}
use Rattle.table_model.specs.SeatStates.{Account, Flight}
use Rattle.table_model.specs.Stores.{made_leaves}
use Rattle.change_laws.proofs.Weak.{leaves_are_good, leaves_are_few}
use Rattle.run_invariant.proofs.Change.{no_leaf}
use Rattle.run_invariant.proofs.Numbers.{word_no_more}
use Rattle.run_invariant.proofs.Invariant.{Common, Local, Shared, Keeps, word_no}
use Rattle.run_laws.proofs.Changes.{changes_from_laws}
use Rattle.run_laws.proofs.FromLaws.{can_change}
use Rattle.run_laws.proofs.PublishRoot.{is_new}
use Rattle.run_laws.proofs.Won
use Rattle.run_laws.proofs.Won.{grown_by}
use Rattle.std.proofs.lemmas.Bool.{lt-ltb, le-leb, and_from}

-- where one of a list passes, one does
any_here : {A : Type 0} (test : A → Bool) (xs : List A) (i : ℕ) (d : A) → i < length xs → test (get_or xs i d) ≡ true →
    list_any test xs ≡ true
any_here test [] i d h e = absurd (omega (arith, h))
any_here test (x ∷ xs) zero d h e = ap (λ b. b || list_any test xs) e
any_here test (x ∷ xs) (suc i) d h e = go (test x) (any_here test xs i d (omega (arith, h)) e)
  where
    go : (b : Bool) → list_any test xs ≡ true → (b || list_any test xs) ≡ true
    go true r = refl
    go false r = r

module _ (setup : Setup) (me : ℕ) (c : Common) (account : Account) (flight : Flight) (local : Local)
    (h : me < seats_of setup) (s : Shared setup c) (round : Round) (attempt : DirectoryTry) (found : List (Option Op))
    (loaded : List LoadedBucket)
    (k : Keeps setup c me account.used flight local (DirExchange round attempt found loaded))
    (same : c.memory.root ≡ attempt.root) where
  abbrev pub leaves : List NewLeaf
  leaves = made_leaves setup attempt found loaded

  abbrev pub fresh : ℕ
  fresh = next_number setup me BucketWords account.used

  abbrev pub grows : Common
  grows = grown_by setup me account.used attempt found loaded c

  -- there are two at least
  pub has_two : 2 ≤ length leaves
  has_two =
      let at = Won.replaced changes_from_laws setup me c account flight local h s round attempt found loaded k same in
      let try = Won.try changes_from_laws setup me c account flight local h s round attempt found loaded k same in
      let can = can_change setup c me local.dir local.root round.bucket flight.call attempt found loaded s try in
      let l = leaves_are_good (rules_of setup) (seats_of setup) attempt.directory loaded found can at.0 no_leaf at.1 in
      let from : comes_from l.0.bucket (get_or leaves at.0 no_leaf) ≡ true =
      ap (λ o. option_map_or (λ f. f == l.0.bucket) o false) l.1.from ∙ eq-eqb l.0.bucket l.0.bucket refl in
      let twice = (leaves_are_few (rules_of setup) (seats_of setup) l.0.bucket attempt.directory loaded found can).0
      (any_here (comes_from l.0.bucket) leaves at.0 no_leaf at.1 from) in
      omega (arith, twice, count_by-le-length (comes_from l.0.bucket) leaves)

  -- the numbers of the new leaves
  pub is_among_new : (i : ℕ) → i < length leaves → is_new fresh (length leaves) (fresh + i) ≡ true
  is_among_new i n = and_from (leb fresh (fresh + i)) (ltb (fresh + i) (fresh + length leaves))
      (le-leb fresh (fresh + i) (omega arith)) (lt-ltb (fresh + i) (fresh + length leaves) (omega (arith, n)))

  -- they are buckets, and born by this exchange
  pub new_named : (i : ℕ) → i < length leaves → (grows.named (fresh + i) ≡ true)
      × (grows.born (fresh + i) ≡ c.dir_top + 1)
  new_named i n =
      let new = is_among_new i n in
      (ap (λ b. cond b true (c.named (fresh + i))) new, ap (λ b. cond b (c.dir_top + 1) (c.born (fresh + i))) new)

  -- they follow on the seat's own
  pub own_number : (i : ℕ) → word_no setup me (account.used.bucket_words + i) ≡ fresh + i
  own_number i =
      sym (word_no_more setup me account.used.bucket_words i)
      ∙ ap (λ n. n + i) (ap (λ (u : SeatRows). word_no setup me u.bucket_words) (sym k.works.flies.used_is)
      ∙ sym (Won.fresh_is changes_from_laws setup me c account flight local h s round attempt found loaded k same))
