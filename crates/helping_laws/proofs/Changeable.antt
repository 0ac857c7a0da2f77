-- What a directory try has found can be changed; and where the table begins as deep as it may be, no row is frozen.
use Rattle.std.proofs.Common.{◌≡◌, ℕ, ◌+◌, false, List, inl, inr, refl, ap, ◌∙◌}
use Rattle.std.specs.Prelude.{Option}
use Rattle.std.proofs.lemmas.Bool.{cases_Bool}
use Rattle.step_counts.specs.declared.rows.SeatRows.{SeatRows}
use Rattle.plain_map.specs.declared.full.FullKind.TheVariants.{BucketWords}
use Rattle.word_rows.specs.Memory.{Shows}
use Rattle.bucket_states.specs.declared.ops.Op.{Op}
use Rattle.table_model.specs.declared.rounds.Round.{Round}
use Rattle.table_model.specs.Setup.{Setup, settings_of, next_number}
use Rattle.table_model.specs.DirectoryChange.{LoadedBucket}
use Rattle.table_model.specs.Phases.{DirectoryTry, DirStore, DirExchange}
use Rattle.table_model.specs.SeatStates.{Flight, InFlight}
use Rattle.table_model.specs.Reading.{is_among, named_buckets, bucket_rows, bucket_row}
use Rattle.table_model.specs.Promises.{Among}
use Rattle.table_model.specs.Rows.{FixedDepthNeverFreezes}
use Rattle.table_model.specs.Tries.{HasFound, TriesCanChange}
use Rattle.table_model.specs.Worlds.{world_after, seat_in}
use Rattle.run_invariant.proofs.Invariant.{Common, Shared, Descends}
use Rattle.run_laws.proofs.Tried.{Tried, tried, none_frozen}
use Rattle.helping_laws.proofs.ByPlace
use Rattle.helping_laws.proofs.Moment.{moment, keeps}

module _ (setup : Setup) (words : List ℕ) (c : Common) (shows : Shows setup.shape words c.memory)
    (s : Shared setup c) (t : Descends setup c) where
  -- what a try has found, in the words of the table
  pub has_found : (seat : ℕ) (used : SeatRows) (flight : Flight) (round : Round) (attempt : DirectoryTry)
      (found : List (Option Op)) (loaded : List LoadedBucket) →
      Tried setup c seat used flight round.bucket attempt found loaded →
      HasFound setup words seat (next_number setup seat BucketWords used) flight round attempt found loaded
  has_found seat used flight round attempt found loaded x = record {
    can = x.can;
    once = x.once;
    own = x.own;
    new = λ i n. (let b = next_number setup seat BucketWords used + i in
        elim (cases_Bool (is_among (named_buckets setup.shape words) b)) [
          | inr f ↦ f
          | inl there ↦ absurd (x.free b i (ByPlace.named_is setup words c shows s t b there) n refl)
        ]);
  }

  -- no published row is frozen, where no bucket can be split
  pub never_frozen : (row : ℕ) → (settings_of setup).start ≡ (settings_of setup).depth →
      Among (bucket_rows setup.shape words) row → (bucket_row setup.shape words row).frozen ≡ false
  never_frozen row deepest among =
      let r = ByPlace.stood setup words c shows s t row among in
      ap (λ x. (bucket_row setup.shape words x).frozen) r.is
      ∙ ByPlace.frozen_is setup words c shows s t r.bucket r.at r.named r.inside
      ∙ none_frozen setup c s t deepest r.bucket r.at r.named r.inside

-- every directory try can be carried out
pub tries_can_change : TriesCanChange
tries_can_change setup events seat stored flight phase round attempt found loaded run u from =
    let m = moment setup events run in
    let c = m.common in
    let local = m.locals seat in
    let used = (seat_in (world_after setup events) seat).account.used in
    has_found setup _ c m.follows.shows m.follows.shared m.follows.descent seat used flight round attempt found
    loaded (elim from [
      | inl e ↦ (let k = keeps setup events run seat flight (DirStore round attempt found loaded stored) u.seat_is
          (u.stand ∙ ap (InFlight flight) e) in
          tried setup c seat used flight local.dir local.root u.seat_is m.follows.shared round attempt found loaded
          k.works k.room k.froze
          (record { opens = k.opens; all = k.all; entries = k.entries; loads = k.loads; whole = k.whole }) k.once)
      | inr e ↦ (let k = keeps setup events run seat flight (DirExchange round attempt found loaded) u.seat_is
          (u.stand ∙ ap (InFlight flight) e) in
          tried setup c seat used flight local.dir local.root u.seat_is m.follows.shared round attempt found loaded
          k.works k.room k.froze
          (record { opens = k.opens; all = k.all; entries = k.entries; loads = k.loads; whole = k.whole }) k.once)
    ])

-- where the table begins as deep as it may be, no row is frozen
pub fixed_depth_never_freezes : FixedDepthNeverFreezes
fixed_depth_never_freezes setup events row run deepest among =
    let m = moment setup events run in
    never_frozen setup _ m.common m.follows.shows m.follows.shared m.follows.descent row deepest among
