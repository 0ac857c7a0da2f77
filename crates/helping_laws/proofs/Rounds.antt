-- What an update knows between its rounds, and what lost exchanges show.
use Rattle.std.proofs.Common.{◌≡◌, ◌≢◌, ℕ, zero, suc, ◌+◌, ◌<◌, ◌≤◌, ◌⊎◌, true, List, [], ◌∷◌, length, get_or, refl, inl, inr, sym, ap, ◌∙◌, subst, arith}
use Rattle.std.specs.Prelude.{Option, Some, None, All}
use Rattle.std.specs.Option.{option_to_list}
use Rattle.plain_map.specs.declared.keys.Key.{Key}
use Rattle.plain_map.specs.Calls.{key_in}
use Rattle.word_rows.specs.Memory.{Shows}
use Rattle.step_counts.specs.declared.rows.SeatRows.{SeatRows}
use Rattle.bucket_states.specs.declared.ops.Op.{Op}
use Rattle.bucket_states.specs.Laws.{applied_of}
use Rattle.table_model.specs.Setup.{Setup, seats_of}
use Rattle.table_model.specs.declared.rounds.Aim.TheVariants.{ForSecondRound, ForLastLook}
use Rattle.table_model.specs.declared.rounds.Round.{Round}
use Rattle.table_model.specs.DirectoryChange.{LoadedBucket}
use Rattle.table_model.specs.Phases.{BucketTry, DirectoryTry, FindRoot, TryExchange, DirExchange, LastWord}
use Rattle.table_model.specs.SeatStates.{Flight}
use Rattle.table_model.specs.Reading.{bucket_row, bucket_by, current_row, root_of, row_of}
use Rattle.table_model.specs.Helping.{round_of}
use Rattle.table_model.specs.Promises.{IsAppliedIn, BeforeSecondFind, InSecondRound, BeforeLastFind, BeforeLastLook}
use Rattle.run_invariant.proofs.Invariant.{Common, Local, Shared, Descends, Keeps, Works, InRound, Roots, lead, last, op_now}
use Rattle.run_invariant.proofs.Histories.{first_forward}
use Rattle.table_model.specs.Tries.{LostBucketsShow, LostRootsShow}
use Rattle.helping_laws.proofs.ByPlace
use Rattle.helping_laws.proofs.Tries.{in_round}
use Rattle.helping_laws.proofs.Moment.{moment, keeps}

module _ (setup : Setup) (words : List ℕ) (c : Common) (shows : Shows setup.shape words c.memory)
    (s : Shared setup c) (t : Descends setup c) (me : ℕ) (flight : Flight) where
  -- the key of the update
  abbrev key : Key
  key = key_in flight.call

  -- the directory row of the first find is that of its place
  first_by : (first : ℕ) → me < seats_of setup → Roots setup c me first →
      bucket_by setup words first key ≡ lead setup c (c.first_dir me) key
  first_by first h r = ap (λ x. bucket_by setup words x key) r.first_is
      ∙ ByPlace.by_is setup words c shows s t (c.first_dir me) key (s.carried.begun me h r.rooted)

  -- applied in the current row of its key
  pub in_current : flight.number ≤ applied_of (last c (lead setup c c.dir_top key)) me →
      IsAppliedIn setup words me flight (current_row setup words key)
  in_current x = omega (arith, x, ByPlace.applied_now setup words c shows s t key me)

  -- applied in the row in use of a bucket
  in_use : (b : ℕ) → c.named b ≡ true → flight.number ≤ applied_of (last c b) me →
      IsAppliedIn setup words me flight (row_of setup.shape words b)
  in_use b n x = omega (arith, x, ByPlace.applied_in_use setup words c shows s t b me n)

  -- before the second find
  pub before_second : (first : ℕ) → me < seats_of setup → Roots setup c me first →
      (flight.number ≤ applied_of (last c (lead setup c c.dir_top key)) me)
      ⊎ (lead setup c c.dir_top key ≢ lead setup c (c.first_dir me) key) →
      IsAppliedIn setup words me flight (current_row setup words key)
      ⊎ (bucket_by setup words (root_of setup.shape words) key ≢ bucket_by setup words first key)
  before_second first h r k = elim k [
    | inl x ↦ inl (in_current x)
    | inr n ↦ inr (λ e. n (sym (ByPlace.by_root setup words c shows s t key) ∙ e ∙ first_by first h r))
  ]

  -- in the second round
  pub second_round : (dir : ℕ) (round : Round) → me < seats_of setup →
      InRound setup c me flight.number flight.call dir round → round.turn ≡ 2 →
      IsAppliedIn setup words me flight (row_of setup.shape words round.bucket)
      ⊎ (round.bucket ≢ bucket_by setup words round.first key)
  second_round dir round h r two = elim (r.second two) [
    | inl x ↦ inl (in_use round.bucket r.there x)
    | inr n ↦ inr (λ e. n (e ∙ first_by round.first h r.roots))
  ]

  -- before the last look
  pub before_look : (bucket : ℕ) → c.named bucket ≡ true → flight.number ≤ applied_of (last c bucket) me →
      IsAppliedIn setup words me flight (row_of setup.shape words bucket)
  before_look = in_use

  -- ---- lost exchanges

  -- the op that it announced
  number_is : (used : SeatRows) → Works setup c me used flight.number flight.call → (op_now c me).number ≡ flight.number
  number_is used k = ap (λ (o : Op). o.number) k.op_is

  -- and its key
  key_is : (used : SeatRows) → Works setup c me used flight.number flight.call → key_in (op_now c me).call ≡ key
  key_is used k = ap (λ (o : Op). key_in o.call) k.op_is

  module _ (h : me < seats_of setup) (used : SeatRows) (local : Local) (round : Round) where
    -- after a second lost exchange of the bucket word the row in use has the op, or is frozen
    pub lost_bucket : (attempt : BucketTry) (found : List (Option Op)) →
        Keeps setup c me used flight local (TryExchange round attempt found) → attempt.turn ≡ 2 →
        row_of setup.shape words round.bucket ≢ attempt.row →
        IsAppliedIn setup words me flight (row_of setup.shape words round.bucket)
        ⊎ ((bucket_row setup.shape words (row_of setup.shape words round.bucket)).frozen ≡ true)
    lost_bucket attempt found k two other =
        let b = round.bucket in
        let n = k.in_round.there in
        let looks = k.opens.looks in
        let moved : local.base ≢ c.top b = (λ e. other (ByPlace.word_is setup words c shows s t b n
        ∙ ap (c.row_at b) (sym e) ∙ sym looks.row_is)) in
        let late : c.since me + 2 ≤ c.top b = omega (arith, looks.after, looks.old, two, moved) in
        let at : c.tried_at me ≡ b = looks.tries.tried_at in
        let has = s.helped.helped me (c.top b) h looks.tries.tried late (omega (arith, ap c.top at)) in
        elim (subst (λ x. ((op_now c me).number ≤ applied_of (c.state_at x (c.top b)) me)
        ⊎ ((c.state_at x (c.top b)).frozen ≡ true)) at has) [
          | inl x ↦ inl (in_use b n (omega (arith, x, number_is used k.works)))
          | inr x ↦ inr (ap (λ r. (bucket_row setup.shape words r).frozen)
              (ByPlace.word_is setup words c shows s t b n)
              ∙ ByPlace.frozen_is setup words c shows s t b (c.top b) n (omega arith) ∙ x)
        ]

    -- after a second lost exchange of the root the current row has it
    pub lost_root : (attempt : DirectoryTry) (found : List (Option Op)) (loaded : List LoadedBucket) →
        Keeps setup c me used flight local (DirExchange round attempt found loaded) → attempt.turn ≡ 2 →
        root_of setup.shape words ≢ attempt.root → IsAppliedIn setup words me flight (current_row setup words key)
    lost_root attempt found loaded k two other =
        let looks = k.opens.looks in
        let v = local.root in
        let moved : v ≢ c.dir_top = (λ e. other (ByPlace.root_is setup words c shows s t ∙ ap c.dir_row (sym e)
        ∙ sym looks.row_is)) in
        let before : v < c.dir_top = omega (arith, looks.old, moved) in
        let tried = looks.tries.tried in
        let begun = s.carried.dir_begun me h tried in
        let late : c.dir_since me < v = omega (arith, looks.after, two) in
        let same = key_is used k.works in
        let replaced : lead setup c (v + 1) key ≢ round.bucket =
        (λ e. s.carried.replaced me v h tried late before
        (ap (lead setup c (v + 1)) same ∙ e ∙ sym k.froze.tried_at)) in
        let carried = s.carried.carried me v h begun.0 (omega (arith, begun.1, late)) before
        (λ e. replaced (ap (lead setup c (v + 1)) (sym same) ∙ e ∙ ap (lead setup c v) same ∙ k.opens.leads)) in
        let first : flight.number ≤ applied_of (c.state_at (lead setup c (v + 1) key) 0) me =
        omega (
          arith,
          carried,
          number_is used k.works,
          ap (λ x. applied_of (c.state_at (lead setup c (v + 1) x) 0) me) same,
        ) in
        in_current (omega (arith, first, first_forward setup c s key (v + 1) me (omega (arith, before))))

-- ---- the promises

-- what holds of what there may be
all_of : {A : Type 0} (P : A → Type 0) (o : Option A) → ((x : A) → o ≡ Some x → P x) → All P (option_to_list o)
all_of P None f = λ k d h. absurd (omega (arith, h))
all_of {A} P (Some x) f = at
  where
    at : (k : ℕ) (d : A) → k < length (x ∷ []) → P (get_or (x ∷ []) k d)
    at zero d h = f x refl
    at (suc k) d h = absurd (omega (arith, h))

-- before the second find
pub before_second_find : BeforeSecondFind
before_second_find setup events seat flight first run u =
    let m = moment setup events run in
    let k = keeps setup events run seat flight (FindRoot (ForSecondRound first)) u.seat_is u.stand in
    before_second setup _ m.common m.follows.shows m.follows.shared m.follows.descent seat flight first u.seat_is
    k.aims.roots k.knows

-- in the second round
pub in_second_round : InSecondRound
in_second_round setup events seat flight phase run u =
    let m = moment setup events run in
    let k = keeps setup events run seat flight phase u.seat_is u.stand in
    all_of _ (round_of phase) (λ round e. second_round setup _ m.common m.follows.shows m.follows.shared
    m.follows.descent seat flight (m.locals seat).dir round u.seat_is
    (in_round setup m.common seat _ flight (m.locals seat) phase round k e))

-- before the last find
pub before_last_find : BeforeLastFind
before_last_find setup events seat flight run u =
    let m = moment setup events run in
    let k = keeps setup events run seat flight (FindRoot ForLastLook) u.seat_is u.stand in
    in_current setup _ m.common m.follows.shows m.follows.shared m.follows.descent seat flight k.knows

-- before the last look
pub before_last_look : BeforeLastLook
before_last_look setup events seat root bucket flight run u =
    let m = moment setup events run in
    let k = keeps setup events run seat flight (LastWord root bucket) u.seat_is u.stand in
    before_look setup _ m.common m.follows.shows m.follows.shared m.follows.descent seat flight bucket k.there k.has

-- what a second lost exchange of a bucket word shows
pub lost_buckets_show : LostBucketsShow
lost_buckets_show setup events seat flight round attempt found run u two =
    let m = moment setup events run in
    let k = keeps setup events run seat flight (TryExchange round attempt found) u.seat_is u.stand in
    lost_bucket setup _ m.common m.follows.shows m.follows.shared m.follows.descent seat flight u.seat_is _
    (m.locals seat) round attempt found k two

-- and of the root
pub lost_roots_show : LostRootsShow
lost_roots_show setup events seat flight round attempt found loaded run u two =
    let m = moment setup events run in
    let k = keeps setup events run seat flight (DirExchange round attempt found loaded) u.seat_is u.stand in
    lost_root setup _ m.common m.follows.shows m.follows.shared m.follows.descent seat flight u.seat_is _
    (m.locals seat) round attempt found loaded k two
