-- What a phase stores can be spelled.
use Rattle.std.proofs.Common.{◌≡◌, ℕ, ◌^◌, ◌<◌, ◌≤◌, List, length, get_or, inl, inr, sym, ap, ◌∙◌, subst, arith}
use Rattle.std.specs.Prelude.{Option, Some, None}
use Rattle.std.proofs.lemmas.Bool.{cases_lt}
use Rattle.std.proofs.lemmas.List.{get_or_past}
use Rattle.std.proofs.lemmas.List.Elements.{All-from_get_or}
use Rattle.step_counts.specs.declared.rows.SeatRows.{SeatRows}
use Rattle.plain_map.specs.declared.full.FullKind.TheVariants.{BucketWords}
use Rattle.word_rows.specs.BucketWords.{IsBucket}
use Rattle.bucket_states.specs.declared.ops.Op.{Op}
use Rattle.bucket_states.specs.States.{row_of_state}
use Rattle.bucket_states.specs.Values.{AreUpdates, IsUpdate}
use Rattle.table_model.specs.Setup.{Setup, seats_of, rules_of, next_number}
use Rattle.table_model.specs.declared.rounds.Round.{Round}
use Rattle.table_model.specs.DirectoryChange.{LoadedBucket, with_leaves}
use Rattle.table_model.specs.Phases.{BucketTry, DirectoryTry, Phase, SeeDone, StoreOp, Announce, FindRoot, FindDepth, FindEntry, LookWord, LookCount, LookItems, TryWord, TryRow, TryAnnouncement, TryOp, TryStore, TryExchange, DirRoot, DirDepth, DirEntries, DirAnnouncement, DirOp, DirWord, DirRow, DirStore, DirExchange, LastWord, LastRow, StoreDone}
use Rattle.table_model.specs.Stores.{made_bucket, made_leaves, base_of_leaf}
use Rattle.table_model.specs.SeatStates.{Flight}
use Rattle.run_invariant.proofs.Invariant.{Common, Local, Shared, Keeps, IsRow, AllFound, most_leaves}
use Rattle.run_invariant.proofs.RowLemmas.{BucketLaws, is_bucket, in_range}
use Rattle.run_invariant.proofs.Change.{Changes, IsChange as Change, IsTry, no_leaf, leaf_at, numbers_free}
use Rattle.run_laws.proofs.Won.{based}
use Rattle.table_model.specs.Fits.{Makes, IsChange}
use Rattle.list_laws.proofs.Options.{some_same}
use Rattle.plain_map.specs.Updates.{number_limit}

module _ (laws : BucketLaws) (changes : (setup : Setup) → Changes setup) (setup : Setup) (me : ℕ) (c : Common)
    (used : SeatRows) (flight : Flight) (local : Local) (h : me < seats_of setup) (s : Shared setup c) where
  -- all that was found are updates
  updates : (b base : ℕ) (found : List (Option Op)) → length found ≡ seats_of setup →
      AllFound setup c me b base found → AreUpdates found
  updates b base found all entries seat op e = elim (cases_lt seat (length found)) [
    | inr n ↦ absurd (let past = get_or_past found seat None (omega arith) in grind (arith, past, e))
    | inl n ↦ elim (entries seat n).real [
      | inl z ↦ absurd (grind (arith, z, e))
      | inr r ↦ (let sound = s.calls.sound seat r.0 (omega (arith, all)) r.1 in
          let is : c.op_at seat r.0 ≡ op = some_same (sym r.2 ∙ e) in
          (subst (λ o. IsUpdate o.call) is sound.update, subst (λ (o : Op). o.number < number_limit) is sound.few))
    ]
  ]

  -- the row of a bucket try can be spelled
  made_fits : (round : Round) (attempt : BucketTry) (found : List (Option Op)) (i : ℕ) →
      Keeps setup c me used flight local (TryStore round attempt found i) →
      IsBucket setup.shape.settings (row_of_state (Some attempt.row) (made_bucket setup attempt found))
  made_fits round attempt found i k =
      let was : IsRow setup (c.base_at round.bucket local.base) (c.pre round.bucket) (c.deep round.bucket)
      (c.words_at round.bucket local.base) attempt.state =
      subst (IsRow setup (c.base_at round.bucket local.base) (c.pre round.bucket) (c.deep round.bucket)
      (c.words_at round.bucket local.base)) (sym k.opens.state_is) (s.rows.sound round.bucket local.base
      k.in_round.there k.opens.looks.old) in
      is_bucket setup (Some attempt.row) (made_bucket setup attempt found)
      (omega (
        arith,
        s.rows.within round.bucket local.base k.in_round.there k.opens.looks.old,
        k.opens.looks.row_is,
        s.opened.shape.few.bucket_rows,
      ))
      (laws.stays_good (rules_of setup) (seats_of setup) found attempt.state (in_range setup) was.good
      (omega (arith, k.all)))
      (laws.stays_small (rules_of setup) found attempt.state (
        omega (arith, was.good.numbers, k.all),
        omega (arith, was.good.answers, k.all),
      ) (updates round.bucket local.base found k.all k.entries) was.small)

  -- and so can those of a directory try
  change_fits : (round : Round) (attempt : DirectoryTry) (found : List (Option Op)) (loaded : List LoadedBucket)
      (i : ℕ) → Keeps setup c me used flight local (DirStore round attempt found loaded i) →
      IsChange setup attempt found loaded
  change_fits round attempt found loaded i k = record {
    seats = omega (arith, k.all);
    depth = omega (arith, ap (λ d. d.depth) k.opens.directory_is, s.directories.shallow local.root k.opens.looks.old);
    root = omega (
      arith,
      k.opens.looks.row_is,
      s.directories.within local.root k.opens.looks.old,
      s.opened.shape.few.directory_rows,
    );
    leaves = All-from_get_or (λ leaf. IsBucket setup.shape.settings
        (row_of_state (base_of_leaf loaded leaf) leaf.bucket)) (made_leaves setup attempt found loaded) no_leaf
        (λ j n. (let x = change.sound j n in
        is_bucket setup (base_of_leaf loaded (get_or (made_leaves setup attempt found loaded) j no_leaf))
        (leaf_at (made_leaves setup attempt found loaded) j) (based setup me c local.root loaded s k.loads
        (get_or (made_leaves setup attempt found loaded) j no_leaf)) x.good x.small));
  }
    where
      try : IsTry setup c me local.dir local.root flight.call round.bucket attempt found loaded
      try = record { opens = k.opens; all = k.all; entries = k.entries; loads = k.loads; whole = k.whole }

      few : length (made_leaves setup attempt found loaded) ≤ most_leaves setup
      few = (changes setup).few c me local.dir local.root round.bucket flight.call attempt found loaded s try

      change : Change setup c local.root found loaded (made_leaves setup attempt found loaded)
          (next_number setup me BucketWords used) (with_leaves (next_number setup me BucketWords used)
          (made_leaves setup attempt found loaded) attempt.directory)
      change = (changes setup).change c me local.dir local.root round.bucket (next_number setup me BucketWords used)
          flight.call attempt found loaded s try
          (numbers_free setup me c h s used (length (made_leaves setup attempt found loaded)) k.works.flies.used_is
          (omega (arith, few, k.room.words, ap (λ (u : SeatRows). u.bucket_words) k.works.flies.used_is)))

  -- in every phase
  pub makes : (phase : Phase) → Keeps setup c me used flight local phase → Makes setup phase
  makes SeeDone k = tt
  makes (StoreOp i) k = tt
  makes Announce k = tt
  makes (FindRoot aim) k = tt
  makes (FindDepth aim root) k = tt
  makes (FindEntry aim root depth) k = tt
  makes (LookWord root bucket) k = tt
  makes (LookCount row) k = tt
  makes (LookItems row count words) k = tt
  makes (TryWord round turn first) k = tt
  makes (TryRow round turn first row words) k = tt
  makes (TryAnnouncement round attempt found) k = tt
  makes (TryOp round attempt found op words) k = tt
  makes (TryStore round attempt found i) k = made_fits round attempt found i k
  makes (TryExchange round attempt found) k = tt
  makes (DirRoot round turn first) k = tt
  makes (DirDepth round turn first root) k = tt
  makes (DirEntries round turn first root depth words) k = tt
  makes (DirAnnouncement round attempt found) k = tt
  makes (DirOp round attempt found op words) k = tt
  makes (DirWord round attempt found loaded bucket) k = tt
  makes (DirRow round attempt found loaded bucket row words) k = tt
  makes (DirStore round attempt found loaded i) k = change_fits round attempt found loaded i k
  makes (DirExchange round attempt found loaded) k = tt
  makes (LastWord root bucket) k = tt
  makes (LastRow row words) k = tt
  makes (StoreDone reply at) k = tt
  makes phase k = absurd k
