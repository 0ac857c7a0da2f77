-- Every update that was ever announced: what the rows and the tries that come after one of its bucket tries have of it.
use Rattle.std.proofs.Common.{◌≡◌, ℕ, ◌-◌, ◌<◌, ◌≤◌, ◌⊎◌, true, List, length, get_or, inl, inr, sym, ap, ◌∙◌, subst, arith}
use Rattle.std.specs.Prelude.{Some, None, ◌++◌}
use Rattle.std.specs.Option.{option_map_or}
use Rattle.std.proofs.lemmas.Bool.{cases_eq, cases_lt}
use Rattle.bucket_states.specs.declared.ops.Op.{Op}
use Rattle.table_model.specs.declared.events.Event.{Event}
use Rattle.table_model.specs.Setup.{Setup}
use Rattle.table_model.specs.Phases.{Phase, TryAnnouncement, TryOp, TryStore, TryExchange}
use Rattle.table_model.specs.SeatStates.{Flight}
use Rattle.table_model.specs.Worlds.{World, IsRun, world_after, seat_in}
use Rattle.table_model.specs.Reading.{bucket_row, rows_of_bucket}
use Rattle.table_model.specs.Helping.{Attempt, bucket_attempt}
use Rattle.table_model.specs.Promises.{InUpdate, InPhase, IsAppliedIn, words_in}
use Rattle.table_model.specs.Helped.{IsLater, IsTwoLater, IsPast, number_found, AnnouncedInLaterRows, AnnouncedToLaterTries}
use Rattle.run_invariant.proofs.Invariant.{Common, Local}
use Rattle.run_laws.proofs.Layers.{HoldsWith}
use Rattle.run_laws.proofs.TwoParts.{run_first}
use Rattle.helping_laws.proofs.ByPlace
use Rattle.helping_laws.proofs.Extends.{Extends, later_with}
use Rattle.helping_laws.proofs.TriesTold.{Late, Since}
use Rattle.helping_laws.proofs.LaterTries.{Knows, KnowsStand, Tells, telling, since, in_try, begins}
use Rattle.helping_laws.proofs.Moment.{keeps_in}
use Rattle.helping_laws.proofs.OpsTold.{ops_of}
use Rattle.helping_laws.proofs.Settled.{Settling, settled_in}
use Rattle.helping_laws.proofs.Tries.{InTry, attempt_is, at, none}

-- the run from a bucket try of an update on
module _ (setup : Setup) (events later : List Event) (p : ℕ) (mine : Flight) (phase : Phase) (attempt : Attempt)
    (run : IsRun setup (events ++ later)) (u : InUpdate setup events p mine phase)
    (tries : bucket_attempt phase ≡ Some attempt) where
  -- the moment of the try, where all earlier ops are settled
  abbrev start : HoldsWith (Unit {0}) setup (Settling setup) (world_after setup events)
  start = settled_in setup events (run_first setup events later run)

  -- its history
  abbrev c : Common
  c = start.common

  -- what the seat remembers then
  abbrev local : Local
  local = start.locals p

  -- the place of the op among the seat's own
  abbrev own : ℕ
  own = ops_of c p - 1

  -- the try, by places
  mine_try : InTry setup c p (seat_in (world_after setup events) p).account.used mine local attempt
  mine_try = in_try setup (world_after setup events) c start.locals start.follows start.holds p u.seat_is mine phase
      attempt u.stand tries

  -- what holds at that moment
  abbrev from_then : Since setup c p own attempt.bucket local.base local.dir
  from_then = since setup (world_after setup events) c start.locals start.follows start.holds p u.seat_is mine phase
      attempt u.stand tries

  -- what is told from then on
  abbrev Told : World → Common → (ℕ → Local) → Unit {0} → Type 0
  Told = Tells setup c p own attempt.bucket local.base local.dir from_then

  -- the end of the run
  abbrev end : HoldsWith (Unit {0}) setup Told (world_after setup (events ++ later))
  end = later_with (Unit {0}) setup Told (telling setup c p own attempt.bucket local.base local.dir from_then) events
      later run (record {
        common = c;
        locals = start.locals;
        follows = start.follows;
        extra = tt;
        holds = begins setup (world_after setup events) c start.locals start.follows start.holds p u.seat_is mine phase
            attempt u.stand tries;
      })

  -- its history
  abbrev d : Common
  d = end.common

  -- its words
  abbrev words : List ℕ
  words = words_in setup (events ++ later)

  -- which extends that of the moment
  abbrev extends : Extends c d
  extends = end.holds.0.1

  -- the number of the op is the update's
  number_is : (c.op_at p own).number ≡ mine.number
  number_is = ap (λ (o : Op). o.number) mine_try.works.op_is

  -- the bucket is there still
  named : d.named attempt.bucket ≡ true
  named = (extends.named_up attempt.bucket mine_try.there).0

  -- with the row that the try loaded
  begun : local.base ≤ d.top attempt.bucket
  begun = omega (arith, mine_try.old, (extends.named_up attempt.bucket mine_try.there).3)

  -- at its place
  row_is : attempt.row ≡ d.row_at attempt.bucket local.base
  row_is = mine_try.row_is ∙ sym (extends.rows attempt.bucket local.base mine_try.there mine_try.old).0

  -- the rows that were made from later ones have the op, or are frozen
  pub in_later_rows : (row base : ℕ) → IsTwoLater (rows_of_bucket setup.shape words attempt.bucket) attempt.row row
      base →
      IsAppliedIn setup words p mine row ⊎ ((bucket_row setup.shape words row).frozen ≡ true)
  in_later_rows row base l =
      let b = attempt.bucket in
      let f = end.follows in
      let r = ByPlace.two_later setup words d f.shows f.shared f.descent b local.base row base named begun
      (subst (λ x. IsTwoLater (rows_of_bucket setup.shape words b) x row base) row_is l) in
      subst (λ x. IsAppliedIn setup words p mine x ⊎ ((bucket_row setup.shape words x).frozen ≡ true)) (sym r.2)
      (elim (end.holds.0.2 r.0 r.3 r.1) [
        | inl x ↦ inl (omega (
          arith,
          x,
          number_is,
          ByPlace.applied_is setup words d f.shows f.shared f.descent b r.0
              p named r.1,
        ))
        | inr x ↦ inr (ByPlace.frozen_is setup words d f.shows f.shared f.descent b r.0 named r.1 ∙ x)
      ])

  -- what a try knows, by what it is told of
  abbrev Finds : ℕ → Attempt → Type 0
  Finds base another = another.bucket ≡ attempt.bucket → local.base < base → p < length another.found →
      Late d p own (get_or another.found p None)

  -- a phase says it of its try
  finds : (q : ℕ) (theirs : Local) (other : Phase) (another : Attempt) → bucket_attempt other ≡ Some another →
      Knows setup c p own attempt.bucket local.base local.dir from_then d q theirs other → Finds theirs.base another
  finds q theirs (TryAnnouncement round try found) another e k = at (Finds theirs.base) k e
  finds q theirs (TryOp round try found row loaded) another e k = at (Finds theirs.base) k.0 e
  finds q theirs (TryStore round try found stored) another e k = at (Finds theirs.base) k e
  finds q theirs (TryExchange round try found) another e k = at (Finds theirs.base) k e
  finds q theirs other another e k = none e

  -- a try that has not found the op has loaded that row, or an earlier one
  pub to_later_tries : (q : ℕ) (theirs : Flight) (other : Phase) (another : Attempt) →
      InPhase setup (events ++ later) q theirs other → bucket_attempt other ≡ Some another →
      another.bucket ≡ attempt.bucket →
      IsPast another p → number_found another p < mine.number →
      (another.row ≡ attempt.row) ⊎ IsLater (rows_of_bucket setup.shape words attempt.bucket) attempt.row another.row
  to_later_tries q theirs other another v e same past fewer =
      let b = attempt.bucket in
      let f = end.follows in
      let there = end.locals q in
      let k = keeps_in setup (world_after setup (events ++ later)) d end.locals f q theirs other v.seat_is v.stand in
      let y = attempt_is setup d q _ theirs there other another k e in
      let knows = subst (KnowsStand setup c p own b local.base local.dir from_then d q there) v.stand
      (end.holds.1 q v.seat_is).1 in
      let row_too : another.row ≡ d.row_at b there.base = y.row_is ∙ ap (λ x. d.row_at x there.base) same in
      elim (cases_lt local.base there.base) [
        | inl later ↦
            let late = finds q there other another e knows same later past in
            let found : number_found another p ≡ (d.op_at p late.at).number =
            ap (λ o. option_map_or (λ op. op.number) o 0) late.is in
            let rises = (end.holds.0.0 p u.seat_is).rises own late.at late.since late.there in
            let kept : (d.op_at p own).number ≡ (c.op_at p own).number =
            ap (λ (o : Op). o.number) (extends.calls p own from_then.there).0 in
            absurd (omega (arith, found, rises, kept, number_is, fewer))
        | inr before ↦ elim (cases_eq there.base local.base) [
          | inl equal ↦ inl (row_too ∙ ap (d.row_at b) equal ∙ sym row_is)
          | inr other ↦ inr (subst (λ x. IsLater (rows_of_bucket setup.shape words b) x another.row) (sym row_is)
              (subst (λ x. IsLater (rows_of_bucket setup.shape words b) (d.row_at b local.base) x) (sym row_too)
              (ByPlace.is_later_row setup words d f.shows f.shared f.descent b there.base local.base named begun
              (omega (arith, before, other)))))
        ]
      ]

-- ---- the promises

-- later rows of the bucket have the op, or are frozen
pub announced_in_later_rows : AnnouncedInLaterRows
announced_in_later_rows setup events later p row base mine phase attempt run u tries l =
    in_later_rows setup events later p mine phase attempt run u tries row base l

-- tries of later rows have found it
pub announced_to_later_tries : AnnouncedToLaterTries
announced_to_later_tries setup events later p q mine theirs phase other attempt another run u tries v e same past
    fewer =
    to_later_tries setup events later p mine phase attempt run u tries q theirs other another v e same past fewer
