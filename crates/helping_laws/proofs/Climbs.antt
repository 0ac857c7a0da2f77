-- Applied numbers never fall from a row of a bucket to the next: a layer of the induction.
use Rattle.std.proofs.Common.{◌≡◌, ℕ, zero, suc, ◌+◌, ◌<◌, ◌≤◌, Bool, true, false, cond, eqb, List, inl, inr, sym, ap, ◌∙◌, arith, add-one}
use Rattle.std.specs.Prelude.{Option, Some, None}
use Rattle.std.proofs.lemmas.Bool.{cases_eq, cases_lt}
use Rattle.step_counts.specs.declared.rows.SeatRows.{SeatRows}
use Rattle.word_rows.specs.Memory.{Shows, put}
use Rattle.word_rows.proofs.MemoryLemmas.{put_same, put_other}
use Rattle.bucket_states.specs.declared.ops.Op.{Op}
use Rattle.bucket_states.specs.States.{BucketState}
use Rattle.bucket_states.specs.Laws.{applied_of}
use Rattle.table_model.specs.declared.events.Event.{Event}
use Rattle.table_model.specs.Setup.{Setup, seats_of}
use Rattle.table_model.specs.declared.rounds.Aim.TheVariants.{ForLookup, ForFirstRound, ForSecondRound, ForLastLook}
use Rattle.table_model.specs.declared.rounds.Round.{Round}
use Rattle.table_model.specs.DirectoryChange.{LoadedBucket}
use Rattle.table_model.specs.Phases.{BucketTry, DirectoryTry, Phase, FindRoot, TryWord, TryExchange, DirRoot, DirExchange}
use Rattle.table_model.specs.SeatStates.{Flight}
use Rattle.table_model.specs.Reading.{bucket_row, applied_at}
use Rattle.table_model.specs.Promises.{NumbersNeverFall}
use Rattle.table_model.specs.Worlds.{World, IsRun, opening_world, world_after, seat_in}
use Rattle.run_invariant.proofs.Events.{published}
use Rattle.run_invariant.proofs.Invariant.{Common, Local, Shared, Descends, Keeps, Moves, last}
use Rattle.run_laws.proofs.Layers.{Steps, HoldsWith, run_with}
use Rattle.run_laws.proofs.PublishRoot.{is_new}
use Rattle.run_laws.proofs.Induction.{common_after}
use Rattle.run_laws.proofs.Won.{grown_by}
use Rattle.run_laws.proofs.Changes.{changes_from_laws}
use Rattle.run_laws.proofs.Opened.{bucket_laws, opening_fresh}
use Rattle.helping_laws.proofs.ByPlace
use Rattle.helping_laws.proofs.Layer.{moves_of}

-- from each row of a bucket to the next
abbrev pub Climbs : Common → Type 0
Climbs c = (b i p : ℕ) → c.named b ≡ true → i < c.top b →
    applied_of (c.state_at b i) p ≤ applied_of (c.state_at b (i + 1)) p

-- a bucket that got no more than one row more
one_more : (setup : Setup) (me : ℕ) (c d : Common) → Moves setup me c d → Climbs c → (b i p : ℕ) → c.named b ≡ true →
    d.top b ≤ c.top b + 1 → i < d.top b →
    applied_of (d.state_at b i) p ≤ applied_of (d.state_at b (i + 1)) p
one_more setup me c d m g b i p n few h = elim (cases_lt i (c.top b)) [
  | inl less ↦ omega (
    arith,
    g b i p n less,
    ap (λ (x : BucketState). applied_of x p) (m.rows b i n (omega (arith, less))).2,
    ap (λ (x : BucketState). applied_of x p) (m.rows b (i + 1) n (omega (arith, less))).2,
  )
  | inr more ↦
      let here : i ≡ c.top b = omega (arith, more, few, h) in
      let there : d.top b ≡ i + 1 = omega (arith, more, few, h) in
      let was : applied_of (d.state_at b i) p ≡ applied_of (last c b) p =
      ap (λ (x : BucketState). applied_of x p) ((m.rows b i n (omega (arith, here))).2 ∙ ap (c.state_at b) here) in
      let now : applied_of (last d b) p ≡ applied_of (d.state_at b (i + 1)) p =
      ap (λ j. applied_of (d.state_at b j) p) there in
      omega (arith, m.last_up b p n, was, now)
]

module _ (setup : Setup) (me : ℕ) (c : Common) (used : SeatRows) (flight : Flight) (local : Local)
    (h : me < seats_of setup) (s : Shared setup c) where
  -- at an exchange of a bucket word
  by_row : (round : Round) (attempt : BucketTry) (found : List (Option Op)) (e : Bool) →
      Moves setup me c (cond e (published setup me round.bucket attempt found c) c) → Climbs c →
      Climbs (cond e (published setup me round.bucket attempt found c) c)
  by_row round attempt found false m g = g
  by_row round attempt found true m g = λ b i p n less. one_more setup me c
      (published setup me round.bucket attempt found c) m g b i p n (elim (cases_eq b round.bucket) [
        | inl e ↦ omega (
          arith,
          ap (put c.top round.bucket (c.top round.bucket + 1)) e,
          put_same c.top round.bucket (c.top round.bucket + 1),
          ap c.top e,
        )
        | inr o ↦ omega (arith, put_other c.top round.bucket (c.top round.bucket + 1) b o)
      ]) less

  -- at an exchange of the root
  by_root : (attempt : DirectoryTry) (found : List (Option Op)) (loaded : List LoadedBucket) (e : Bool) → Climbs c →
      Climbs (cond e (grown_by setup me used attempt found loaded c) c)
  by_root attempt found loaded false g = g
  by_root attempt found loaded true g = λ b i p n less. go b i p _ (is_new _ _ b) n less
    where
      go : (b i p : ℕ) (f : ℕ → BucketState) (t : Bool) → cond t true (c.named b) ≡ true → i < cond t 0 (c.top b) →
          applied_of (cond t f (c.state_at b) i) p ≤ applied_of (cond t f (c.state_at b) (i + 1)) p
      go b i p f true n less = absurd (omega (arith, less))
      go b i p f false n less = g b i p n less

  -- what a step makes of it
  climbs : (phase : Phase) → Keeps setup c me used flight local phase →
      Moves setup me c (common_after setup me used flight phase c) → Climbs c →
      Climbs (common_after setup me used flight phase c)
  climbs (FindRoot ForLookup) k m g = g
  climbs (FindRoot ForFirstRound) k m g = g
  climbs (FindRoot (ForSecondRound first)) k m g = g
  climbs (FindRoot ForLastLook) k m g = g
  climbs (TryWord round turn None) k m g = g
  climbs (TryWord round turn (Some first)) k m g = g
  climbs (TryExchange round attempt found) k m g =
      by_row round attempt found (eqb (c.memory.bucket round.bucket) attempt.row) m g
  climbs (DirRoot round turn None) k m g = g
  climbs (DirRoot round turn (Some first)) k m g = g
  climbs (DirExchange round attempt found loaded) k m g =
      by_root attempt found loaded (eqb c.memory.root attempt.root) g
  climbs phase k m g = g

-- what the layer says
abbrev Climbing : World → Common → (ℕ → Local) → Unit {0} → Type 0
Climbing w c locals e = Climbs c

-- and its steps
climbing : (setup : Setup) → Steps (Unit {0}) setup Climbing
climbing setup w c locals e me flight phase a h from k g = (
  tt,
  climbs setup me c (seat_in w me).account.used flight (locals me) h a.shared phase k
      (moves_of setup c me (seat_in w me).account flight (locals me) phase h a.shared k) g,
)

-- it holds in every run
pub climbs_in : (setup : Setup) (events : List Event) → IsRun setup events →
    HoldsWith (Unit {0}) setup Climbing (world_after setup events)
climbs_in setup events run =
    let f = opening_fresh setup run.opened in
    run_with (Unit {0}) bucket_laws changes_from_laws setup Climbing (climbing setup) events (opening_world setup)
    (record {
      common = f.holds.common;
      locals = f.holds.locals;
      follows = f.holds.follows;
      extra = tt;
      holds = λ b i p n less. absurd (omega (arith, less, (f.first_leaf b n).1));
    }) run.follow

-- so a row has the numbers of the row that it was made from
numbers_rise : (setup : Setup) (words : List ℕ) (c : Common) (shows : Shows setup.shape words c.memory)
    (s : Shared setup c) (t : Descends setup c) → Climbs c → (b i base seat : ℕ) →
    c.named b ≡ true → i ≤ c.top b → (bucket_row setup.shape words (c.row_at b i)).base ≡ Some base →
    applied_at setup.shape words base seat ≤ applied_at setup.shape words (c.row_at b i) seat
numbers_rise setup words c shows s t g b zero base seat n o e =
    let x = ByPlace.first_made_from setup words c shows s t b base n e in
    omega (
      arith,
      x.2.carries seat,
      ap (λ r. applied_at setup.shape words r seat) x.1,
      ByPlace.applied_is setup words c shows s t (c.from b) (c.top (c.from b)) seat x.0 (omega arith),
      ByPlace.applied_is setup words c shows s t b 0 seat n o,
    )
numbers_rise setup words c shows s t g b (suc i) base seat n o e =
    let is = ByPlace.made_from setup words c shows s t b i base n (omega (arith, o))
    (ap (λ j. (bucket_row setup.shape words (c.row_at b j)).base) (add-one i) ∙ e) in
    let next : applied_of (c.state_at b (i + 1)) seat ≡ applied_of (c.state_at b (suc i)) seat =
    ap (λ j. applied_of (c.state_at b j) seat) (add-one i) in
    omega (
      arith,
      g b i seat n (omega (arith, o)),
      next,
      ap (λ r. applied_at setup.shape words r seat) is,
      ByPlace.applied_is setup words c shows s t b i seat n (omega (arith, o)),
      ByPlace.applied_is setup words c shows s t b (suc i) seat n o,
    )

-- applied numbers never fall from a row to one that was made from it
pub numbers_never_fall : NumbersNeverFall
numbers_never_fall setup events row base seat run h among made =
    let m = climbs_in setup events run in
    rise m.common m.follows.shows m.follows.shared m.follows.descent m.holds
  where
    rise : (c : Common) (shows : Shows setup.shape (world_after setup events).words c.memory) (s : Shared setup c) →
        Descends setup c → Climbs c →
        applied_at setup.shape (world_after setup events).words base seat ≤ applied_at setup.shape
        (world_after setup events).words row seat
    rise c shows s t g =
        let words = (world_after setup events).words in
        let r = ByPlace.stood setup words c shows s t row among in
        let up = numbers_rise setup words c shows s t g r.bucket r.at base seat r.named r.inside
        (ap (λ x. (bucket_row setup.shape words x).base) (sym r.is) ∙ made) in
        omega (arith, up, ap (λ x. applied_at setup.shape words x seat) r.is)
