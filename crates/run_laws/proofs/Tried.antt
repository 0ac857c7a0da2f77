-- What a directory try has found once all is loaded, so that its directory can be changed by it. And where the table
-- begins as deep as it may be, no bucket is frozen.
use Rattle.std.proofs.Common.{◌≡◌, ℕ, ◌<◌, ◌≤◌, Bool, true, false, cond, eqb, ◌||◌, List, [], ◌∷◌, length, get_or, map, inr, refl, sym, ap, ◌∙◌, subst, arith}
use Rattle.std.specs.Prelude.{Option, Some, None, IsSomeAnd, nat_lt, find}
use Rattle.std.specs.List.{list_any}
use Rattle.std.proofs.lemmas.Bool.{and_from, lt-ltb, eqb-true}
use Rattle.step_counts.specs.declared.rows.SeatRows.{SeatRows}
use Rattle.plain_map.specs.declared.full.FullKind.TheVariants.{BucketWords}
use Rattle.plain_map.specs.Calls.{key_in}
use Rattle.bucket_states.specs.declared.ops.Op.{Op}
use Rattle.bucket_states.specs.States.{BucketState}
use Rattle.bucket_states.specs.Laws.{applied_of}
use Rattle.table_model.specs.declared.rounds.Round.{Round}
use Rattle.table_model.specs.Setup.{Setup, seats_of, rules_of, next_number}
use Rattle.table_model.specs.Directories.{bucket_of}
use Rattle.table_model.specs.DirectoryChange.{LoadedBucket, is_bucket, loaded_of, is_frozen_without}
use Rattle.table_model.specs.DirectoryLaws.{CanChange}
use Rattle.table_model.specs.Phases.{DirectoryTry}
use Rattle.table_model.specs.SeatStates.{Flight}
use Rattle.table_model.specs.Stores.{made_leaves}
use Rattle.table_model.specs.Reading.{is_among, each_once}
use Rattle.table_model.specs.Helped.{op_of}
use Rattle.run_invariant.proofs.Change.{IsTry, AreFree, numbers_free}
use Rattle.run_invariant.proofs.Invariant.{Common, Shared, Descends, Works, Room, Froze, IsLoaded, LoadedOnce, last}
use Rattle.run_laws.proofs.Won.{all_found}
use Rattle.run_laws.proofs.FromLaws.{can_change}
use Rattle.run_laws.proofs.Changes.{changes_from_laws}

-- numbers of buckets that stand once are the same, each once
pub each_loaded_once : (loaded : List LoadedBucket) → LoadedOnce loaded →
    each_once (map (λ l. l.bucket) loaded) ≡ map (λ l. l.bucket) loaded
each_loaded_once [] once = refl
each_loaded_once (l ∷ ls) once =
    go (is_among (map (λ x. x.bucket) ls) l.bucket) (same ls ∙ once.0) (each_loaded_once ls once.1)
  where
    same : (xs : List LoadedBucket) → is_among (map (λ x. x.bucket) xs) l.bucket ≡ list_any (is_bucket l.bucket) xs
    same [] = refl
    same (x ∷ xs) = ap (λ b. eqb x.bucket l.bucket || b) (same xs)

    go : (t : Bool) → t ≡ false → each_once (map (λ x. x.bucket) ls) ≡ map (λ x. x.bucket) ls →
        cond t (each_once (map (λ x. x.bucket) ls)) (l.bucket ∷ each_once (map (λ x. x.bucket) ls)) ≡ l.bucket ∷ map
        (λ x. x.bucket) ls
    go false e rest = ap (λ xs. l.bucket ∷ xs) rest
    go true e rest = cc

-- all that a try knows from its first store on: its directory can be changed, each bucket was loaded once, that of its
-- round was frozen without its op, and the numbers of the new buckets are no bucket's yet
pub record Tried (setup : Setup) (c : Common) (seat : ℕ) (used : SeatRows) (flight : Flight) (bucket : ℕ)
    (attempt : DirectoryTry) (found : List (Option Op)) (loaded : List LoadedBucket) : Type 0 where
  -- the directory can be changed by it
  pub can : CanChange (rules_of setup) (seats_of setup) attempt.directory loaded found
  pub once : each_once (map (λ l. l.bucket) loaded) ≡ map (λ l. l.bucket) loaded
  pub own : IsSomeAnd (loaded_of loaded bucket) (λ l. is_frozen_without seat (op_of seat flight) l ≡ true)
  pub free : AreFree c (next_number setup seat BucketWords used) (length (made_leaves setup attempt found loaded))

module _ (setup : Setup) (c : Common) (me : ℕ) (used : SeatRows) (flight : Flight) (dir root : ℕ)
    (h : me < seats_of setup) (s : Shared setup c) (round : Round) (attempt : DirectoryTry) (found : List (Option Op))
    (loaded : List LoadedBucket)
    (works : Works setup c me used flight.number flight.call) (room : Room setup c me round.turn)
    (froze : Froze setup c me flight.number round.bucket) (t : IsTry setup c me dir root flight.call round.bucket
    attempt found loaded) (once : LoadedOnce loaded) where
  can : CanChange (rules_of setup) (seats_of setup) attempt.directory loaded found
  can = can_change setup c me dir root round.bucket flight.call attempt found loaded s t

  -- the seat has found its own op
  own_found : get_or found me None ≡ Some (op_of me flight)
  own_found = (t.entries me (omega (arith, t.all, h))).own refl ∙ ap (λ (o : Op). Some o) works.op_is

  -- the bucket of its round was loaded frozen without its op
  own_frozen : (l : LoadedBucket) → l.bucket ≡ round.bucket → IsLoaded setup c me root l →
      is_frozen_without me (op_of me flight) l ≡ true
  own_frozen l is k =
      let frozen : l.state.frozen ≡ true =
      ap (λ (b : BucketState). b.frozen) k.state_is
      ∙ k.sees.seen me h t.opens.looks.tries.tried (froze.tried_at ∙ sym is) (inr refl) in
      let up = s.rows.rises l.bucket k.base me k.sees.there k.sees.old in
      let lacks : applied_of l.state me < flight.number =
      omega (
        arith,
        froze.lacks,
        up,
        ap (λ (b : BucketState). applied_of b me) k.state_is,
        ap (λ b. applied_of (last c b) me) is,
      ) in
      and_from l.state.frozen (nat_lt (applied_of l.state me) flight.number) frozen
      (lt-ltb (applied_of l.state me) flight.number lacks)

  -- and it was loaded
  own_loaded : IsSomeAnd (loaded_of loaded round.bucket) (λ l. is_frozen_without me (op_of me flight) l ≡ true)
  own_loaded =
      let here : bucket_of (rules_of setup) attempt.directory (key_in flight.call) ≡ round.bucket =
      ap (λ d. bucket_of (rules_of setup) d (key_in flight.call)) t.opens.directory_is ∙ t.opens.leads in
      go (loaded_of loaded round.bucket) refl (subst (λ b. IsSomeAnd (loaded_of loaded b) (λ _. Unit {0})) here
      (can.each_op me (op_of me flight) own_found))
    where
      found_is : (b : ℕ) (xs : List LoadedBucket) (l : LoadedBucket) → find (is_bucket b) xs ≡ Some l → l.bucket ≡ b
      found_is b [] l e = cc
      found_is b (x ∷ xs) l e = by (eqb x.bucket b) refl e (found_is b xs l)
        where
          by : (z : Bool) → eqb x.bucket b ≡ z → cond z (Some x) (find (is_bucket b) xs) ≡ Some l →
              (find (is_bucket b) xs ≡ Some l → l.bucket ≡ b) → l.bucket ≡ b
          by true z e rest = (let same : x ≡ l = cc in ap (λ (x : LoadedBucket). x.bucket) (sym same)
              ∙ eqb-true x.bucket b z)
          by false z e rest = rest e

      go : (o : Option LoadedBucket) → loaded_of loaded round.bucket ≡ o → IsSomeAnd o (λ _. Unit {0}) →
          IsSomeAnd o (λ l. is_frozen_without me (op_of me flight) l ≡ true)
      go None e some = some
      go (Some l) e some = own_frozen l (found_is round.bucket loaded l e)
          (all_found (IsLoaded setup c me root) (is_bucket round.bucket) loaded l t.loads e)

  -- so it knows all that
  pub tried : Tried setup c me used flight round.bucket attempt found loaded
  tried =
      let few = (changes_from_laws setup).few c me dir root round.bucket flight.call attempt found loaded s t in
      record {
        can = can;
        once = each_loaded_once loaded once;
        own = own_loaded;
        free = numbers_free setup me c h s used (length (made_leaves setup attempt found loaded)) works.flies.used_is
            (omega (arith, few, room.words, ap (λ (u : SeatRows). u.bucket_words) works.flies.used_is));
      }

-- where the table begins as deep as it may be, no row is frozen: a frozen bucket can still be split
pub none_frozen : (setup : Setup) (c : Common) → Shared setup c → Descends setup c →
    setup.shape.settings.start ≡ setup.shape.settings.depth → (b i : ℕ) → c.named b ≡ true → i ≤ c.top b →
    (c.state_at b i).frozen ≡ false
none_frozen setup c s t deepest b i n o = go (c.state_at b i).frozen refl
  where
    go : (f : Bool) → (c.state_at b i).frozen ≡ f → f ≡ false
    go false e = refl
    go true e = (let row = s.rows.sound b i n o in
        absurd (omega (arith, (row.good.full e).1, row.depth_is, t.starts b n, deepest)))
