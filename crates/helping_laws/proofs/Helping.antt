-- What helping gives an update in flight: what later tries have found of it, and what later rows have.
use Rattle.std.proofs.Common.{◌≡◌, ◌≢◌, ℕ, suc, ◌+◌, ◌<◌, ◌≤◌, ◌⊎◌, Bool, true, false, cond, List, [], ◌∷◌, inl, inr, refl, sym, ap, ◌∙◌, subst, arith, eqb-true}
use Rattle.std.specs.Prelude.{Some, All, find}
use Rattle.step_counts.specs.declared.rows.SeatRows.{SeatRows}
use Rattle.plain_map.specs.declared.keys.Key.{Key}
use Rattle.plain_map.specs.Calls.{key_in}
use Rattle.word_rows.specs.Memory.{Shows}
use Rattle.bucket_states.specs.declared.ops.Op.{Op}
use Rattle.bucket_states.specs.Laws.{applied_of}
use Rattle.table_model.specs.Setup.{Setup, seats_of}
use Rattle.table_model.specs.DirectoryChange.{LoadedBucket, loaded_of, is_bucket}
use Rattle.table_model.specs.SeatStates.{Flight}
use Rattle.table_model.specs.Reading.{bucket_row, bucket_by, rows_of_bucket, directory_rows}
use Rattle.table_model.specs.Helping.{TriedRow, Attempt}
use Rattle.table_model.specs.Promises.{IsAppliedIn}
use Rattle.table_model.specs.Helped.{IsLater, IsTwoLater, IsPast, IsInFirstRow, found_of, op_of, LaterBucketTriesKnow, LaterRowsHave, LaterDirectoryTriesKnow, LaterReplacementsCarry, LaterDirectoryTriesSeeFrozen, LaterChangesReplace}
use Rattle.run_invariant.proofs.Invariant.{Common, Local, Shared, Descends, Works, HasOp, IsLoaded, lead, op_now}
use Rattle.helping_laws.proofs.ByPlace
use Rattle.helping_laws.proofs.Tries.{TriedFrom, FoundBy, DirTriedFrom, InTry, InDirTry, tried_is, first_found, dir_tried_is, attempt_is, dir_attempt_is}
use Rattle.helping_laws.proofs.Moment.{moment, keeps}

-- what is found among the loaded buckets is one of them, and has the number
pub loaded_is : (P : LoadedBucket → Type 0) (loaded : List LoadedBucket) (bucket : ℕ) (l : LoadedBucket) →
    All P loaded → loaded_of loaded bucket ≡ Some l → P l × (l.bucket ≡ bucket)
loaded_is P [] bucket l all e = cc
loaded_is P (x ∷ xs) bucket l all e = go (is_bucket bucket x) refl (λ f. loaded_is P xs bucket l rest f) e
  where
    rest : All P xs
    rest k d h = all (suc k) d (omega (arith, h))

    go : (t : Bool) → is_bucket bucket x ≡ t → (find (is_bucket bucket) xs ≡ Some l → P l × (l.bucket ≡ bucket)) →
        cond t (Some x) (find (is_bucket bucket) xs) ≡ Some l → P l × (l.bucket ≡ bucket)
    go true test later f = (let same : x ≡ l = cc in (
      subst P same (all 0 x (omega arith)),
      ap (λ (y : LoadedBucket). y.bucket) (sym same) ∙ eqb-true x.bucket bucket test,
    ))
    go false test later f = later f

module _ (setup : Setup) (words : List ℕ) (c : Common) (shows : Shows setup.shape words c.memory)
    (s : Shared setup c) (t : Descends setup c) (p : ℕ) (h : p < seats_of setup) (mine : Flight) (used : SeatRows)
    (local : Local) where
  -- the key of the update
  abbrev key : Key
  key = key_in mine.call

  -- the op that it announced last is its own
  number_is : Works setup c p used mine.number mine.call → (op_now c p).number ≡ mine.number
  number_is w = ap (λ (o : Op). o.number) w.op_is

  -- and has its key
  key_is : Works setup c p used mine.number mine.call → key_in (op_now c p).call ≡ key
  key_is w = ap (λ (o : Op). key_in o.call) w.op_is

  -- a row that has the op, in the words of the table
  has_op : (b i : ℕ) → c.named b ≡ true → i ≤ c.top b →
      (mine.number ≤ applied_of (c.state_at b i) p) ⊎ ((c.state_at b i).frozen ≡ true) →
      IsAppliedIn setup words p mine (c.row_at b i) ⊎ ((bucket_row setup.shape words (c.row_at b i)).frozen ≡ true)
  has_op b i n o x = elim x [
    | inl y ↦ inl (omega (arith, y, ByPlace.applied_is setup words c shows s t b i p n o))
    | inr y ↦ inr (ByPlace.frozen_is setup words c shows s t b i n o ∙ y)
  ]

  -- a row that was made from one later than the first of the round has the op, or is frozen
  pub rows_have : (tried : TriedRow) (row base : ℕ) → TriedFrom setup c p used mine local tried →
      IsTwoLater (rows_of_bucket setup.shape words tried.bucket) tried.row row base →
      IsAppliedIn setup words p mine row ⊎ ((bucket_row setup.shape words row).frozen ≡ true)
  rows_have tried row base f l =
      let b = tried.bucket in
      let n = f.there in
      let at : c.tried_at p ≡ b = f.tries.tried_at in
      let begun : c.since p ≤ c.top b = omega (arith, s.helped.begun p h f.tries.tried, ap c.top at) in
      let r = ByPlace.two_later setup words c shows s t b (c.since p) row base n begun
      (subst (λ x. IsTwoLater (rows_of_bucket setup.shape words b) x row base) f.tries.first_is l) in
      let helped = s.helped.helped p r.0 h f.tries.tried r.3 (omega (arith, r.1, ap c.top at)) in
      let has = subst (λ x. HasOp (c.state_at x r.0) p (op_now c p)) at helped in
      subst (λ x. IsAppliedIn setup words p mine x ⊎ ((bucket_row setup.shape words x).frozen ≡ true)) (sym r.2)
      (has_op b r.0 n r.1 (elim has [ inl x ↦ inl (omega (arith, x, number_is f.works)) | inr x ↦ inr x ]))

  -- a directory row that was made from one later than the first has it, where it replaces the bucket of the key
  pub carries : (first row base : ℕ) → FoundBy setup c p used mine local first →
      IsTwoLater (directory_rows setup.shape words) first row base →
      bucket_by setup words row key ≢ bucket_by setup words base key → IsInFirstRow setup words p mine row
  carries first row base f l other =
      let begun = s.carried.begun p h f.roots.rooted in
      let r = ByPlace.two_later_version setup words c shows s t (c.first_dir p) row base begun
      (subst (λ x. IsTwoLater (directory_rows setup.shape words) x row base) f.roots.first_is l) in
      let v = r.0 in
      let same = key_is f.works in
      let now = ap (λ x. bucket_by setup words x key) r.3
      ∙ ByPlace.by_is setup words c shows s t (v + 1) key (omega (arith, r.2)) in
      let was = ap (λ x. bucket_by setup words x key) r.4
      ∙ ByPlace.by_is setup words c shows s t v key (omega (arith, r.2)) in
      let changed : lead setup c (v + 1) key ≢ lead setup c v key = (λ e. other (now ∙ e ∙ sym was)) in
      let carried = s.carried.carried p v h f.roots.rooted r.1 r.2
      (λ e. changed (ap (lead setup c (v + 1)) (sym same) ∙ e ∙ ap (lead setup c v) same)) in
      let there = s.leads.there (v + 1) key (omega (arith, r.2)) in
      subst (IsInFirstRow setup words p mine) (sym r.3)
      (ByPlace.in_first_row setup words c shows s t (v + 1) key (IsAppliedIn setup words p mine) (omega (arith, r.2))
      (omega (
        arith,
        carried,
        number_is f.works,
        ap (λ x. applied_of (c.state_at (lead setup c (v + 1) x) 0) p) same,
        ByPlace.applied_is setup words c shows s t (lead setup c (v + 1) key) 0 p there (omega arith),
      )))

  -- and one later than the first of the directory tries replaces the bucket of the round
  pub replaces : (tried : TriedRow) (row base : ℕ) → DirTriedFrom setup c p used mine local tried →
      IsTwoLater (directory_rows setup.shape words) tried.row row base →
      bucket_by setup words row key ≢ tried.bucket
  replaces tried row base f l e =
      let begun = s.carried.dir_begun p h f.tries.tried in
      let r = ByPlace.two_later_version setup words c shows s t (c.dir_since p) row base begun.2
      (subst (λ x. IsTwoLater (directory_rows setup.shape words) x row base) f.tries.first_is l) in
      let v = r.0 in
      let same = key_is f.works in
      let now = ap (λ x. bucket_by setup words x key) r.3
      ∙ ByPlace.by_is setup words c shows s t (v + 1) key (omega (arith, r.2)) in
      s.carried.replaced p v h f.tries.tried r.1 r.2
      (ap (lead setup c (v + 1)) same ∙ sym now ∙ e ∙ sym f.froze.tried_at)

  -- ---- the tries of another seat

  module _ (q : ℕ) (theirs : Flight) (used_too : SeatRows) (other : Local) where
    -- a bucket try of a later row finds the op
    pub bucket_tries_know : (tried : TriedRow) (attempt : Attempt) → TriedFrom setup c p used mine local tried →
        InTry setup c q used_too theirs other attempt → attempt.bucket ≡ tried.bucket →
        IsLater (rows_of_bucket setup.shape words tried.bucket) attempt.row tried.row → IsPast attempt p →
        found_of attempt p ≡ Some (op_of p mine)
    bucket_tries_know tried attempt f i same l past =
        let b = tried.bucket in
        let at : c.tried_at p ≡ b = f.tries.tried_at in
        let begun : c.since p ≤ c.top b = omega (arith, s.helped.begun p h f.tries.tried, ap c.top at) in
        let r = ByPlace.later_row setup words c shows s t b (c.since p) attempt.row f.there begun
        (subst (λ x. IsLater (rows_of_bucket setup.shape words b) attempt.row x) f.tries.first_is l) in
        let place = (s.rows.once attempt.bucket b other.base r.0 i.there f.there i.old r.1 (sym i.row_is ∙ r.2)).1 in
        (i.found p past).late f.tries.tried (at ∙ sym same) (omega (arith, r.3, place)) ∙ ap Some f.works.op_is

    -- a directory try with a later root than the first finds it
    pub directory_tries_know : (first : ℕ) (attempt : Attempt) → FoundBy setup c p used mine local first →
        InDirTry setup c q used_too theirs other attempt →
        IsLater (directory_rows setup.shape words) attempt.row first → IsPast attempt p →
        found_of attempt p ≡ Some (op_of p mine)
    directory_tries_know first attempt f i l past =
        let begun = s.carried.begun p h f.roots.rooted in
        let r = ByPlace.later_version setup words c shows s t (c.first_dir p) attempt.row begun
        (subst (λ x. IsLater (directory_rows setup.shape words) attempt.row x) f.roots.first_is l) in
        let place = s.directories.once other.root r.0 i.old r.1 (sym i.row_is ∙ r.2) in
        (i.found p past).late f.roots.rooted (omega (arith, r.3, place)) ∙ ap Some f.works.op_is

    -- and one with a later root than the first of the directory tries loads the bucket of the round frozen
    pub directory_tries_see : (tried : TriedRow) (attempt : Attempt) (loaded : LoadedBucket) →
        DirTriedFrom setup c p used mine local tried → InDirTry setup c q used_too theirs other attempt →
        IsLater (directory_rows setup.shape words) attempt.row tried.row →
        loaded_of attempt.loaded tried.bucket ≡ Some loaded → loaded.state.frozen ≡ true
    directory_tries_see tried attempt loaded f i l e =
        let begun = s.carried.dir_begun p h f.tries.tried in
        let r = ByPlace.later_version setup words c shows s t (c.dir_since p) attempt.row begun.2
        (subst (λ x. IsLater (directory_rows setup.shape words) attempt.row x) f.tries.first_is l) in
        let place = s.directories.once other.root r.0 i.old r.1 (sym i.row_is ∙ r.2) in
        let x = loaded_is (IsLoaded setup c q other.root) attempt.loaded tried.bucket loaded i.loads e in
        ap (λ b. b.frozen) x.0.state_is ∙ x.0.sees.seen p h f.tries.tried (f.froze.tried_at ∙ sym x.1)
        (inl (omega (arith, r.3, place)))

-- ---- the promises

-- later bucket tries find the op
pub later_bucket_tries_know : LaterBucketTriesKnow
later_bucket_tries_know setup events p q mine theirs phase other tried attempt run apart u v e f same l past =
    let m = moment setup events run in
    let k = keeps setup events run p mine phase u.seat_is u.stand in
    let k2 = keeps setup events run q theirs other v.seat_is v.stand in
    bucket_tries_know setup _ m.common m.follows.shows m.follows.shared m.follows.descent p u.seat_is mine _
    (m.locals p) q theirs _ (m.locals q) tried attempt
    (tried_is setup m.common p _ mine (m.locals p) phase tried k e)
    (attempt_is setup m.common q _ theirs (m.locals q) other attempt k2 f) same l past

-- later rows have it, or are frozen
pub later_rows_have : LaterRowsHave
later_rows_have setup events p row base mine phase tried run u e l =
    let m = moment setup events run in
    let k = keeps setup events run p mine phase u.seat_is u.stand in
    rows_have setup _ m.common m.follows.shows m.follows.shared m.follows.descent p u.seat_is mine _
    (m.locals p) tried row base
    (tried_is setup m.common p _ mine (m.locals p) phase tried k e) l

-- later directory tries find it
pub later_directory_tries_know : LaterDirectoryTriesKnow
later_directory_tries_know setup events p q first mine theirs phase other attempt run apart u v e f l past =
    let m = moment setup events run in
    let k = keeps setup events run p mine phase u.seat_is u.stand in
    let k2 = keeps setup events run q theirs other v.seat_is v.stand in
    directory_tries_know setup _ m.common m.follows.shows m.follows.shared m.follows.descent p u.seat_is mine _
    (m.locals p) q theirs _ (m.locals q) first attempt
    (first_found setup m.common p _ mine (m.locals p) phase first k e)
    (dir_attempt_is setup m.common q _ theirs (m.locals q) other attempt k2 f) l past

-- later replacements have it
pub later_replacements_carry : LaterReplacementsCarry
later_replacements_carry setup events p first row base mine phase run u e l differ =
    let m = moment setup events run in
    let k = keeps setup events run p mine phase u.seat_is u.stand in
    carries setup _ m.common m.follows.shows m.follows.shared m.follows.descent p u.seat_is mine _
    (m.locals p) first row base
    (first_found setup m.common p _ mine (m.locals p) phase first k e) l differ

-- later directory tries load the bucket of the round frozen
pub later_directory_tries_see_frozen : LaterDirectoryTriesSeeFrozen
later_directory_tries_see_frozen setup events p q mine theirs phase other tried attempt loaded run u v e f l g =
    let m = moment setup events run in
    let k = keeps setup events run p mine phase u.seat_is u.stand in
    let k2 = keeps setup events run q theirs other v.seat_is v.stand in
    directory_tries_see setup _ m.common m.follows.shows m.follows.shared m.follows.descent p u.seat_is mine _
    (m.locals p) q theirs _ (m.locals q) tried attempt loaded
    (dir_tried_is setup m.common p _ mine (m.locals p) phase tried k e)
    (dir_attempt_is setup m.common q _ theirs (m.locals q) other attempt k2 f) l g

-- later changes replace it
pub later_changes_replace : LaterChangesReplace
later_changes_replace setup events p row base mine phase tried run u e l =
    let m = moment setup events run in
    let k = keeps setup events run p mine phase u.seat_is u.stand in
    replaces setup _ m.common m.follows.shows m.follows.shared m.follows.descent p u.seat_is mine _
    (m.locals p) tried row base
    (dir_tried_is setup m.common p _ mine (m.locals p) phase tried k e) l
