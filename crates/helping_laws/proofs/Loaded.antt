-- The rows that a call in flight has loaded are published: those of a bucket stand among its rows, and directory rows
-- in the line of the root.
use Rattle.std.proofs.Common.{◌≡◌, ℕ, zero, suc, ◌<◌, ◌≤◌, true, List, [], ◌∷◌, get_or, map, inl, inr, sym, ap, subst, arith}
use Rattle.std.specs.Prelude.{Some, None, All, option_to_list}
use Rattle.step_counts.specs.declared.rows.SeatRows.{SeatRows}
use Rattle.word_rows.specs.Memory.{Shows}
use Rattle.table_model.specs.Setup.{Setup, seats_of}
use Rattle.table_model.specs.declared.rounds.Aim.{Aim}
use Rattle.table_model.specs.declared.rounds.Aim.TheVariants.{ForLookup, ForFirstRound, ForSecondRound, ForLastLook}
use Rattle.table_model.specs.declared.rounds.Round.{Round}
use Rattle.table_model.specs.DirectoryChange.{LoadedBucket}
use Rattle.table_model.specs.Phases.{Phase, FindRoot, FindDepth, FindEntry, LookWord, LookCount, LookItems, TryWord, TryRow, TryAnnouncement, TryOp, TryStore, TryExchange, DirRoot, DirDepth, DirEntries, DirAnnouncement, DirOp, DirWord, DirRow, DirStore, DirExchange, LastWord, LastRow, StoreDone}
use Rattle.table_model.specs.SeatStates.{Flight}
use Rattle.table_model.specs.Worlds.{world_after, seat_in}
use Rattle.table_model.specs.Reading.{bucket_rows, directory_rows, named_buckets, rows_of_bucket}
use Rattle.table_model.specs.Helping.{HeldRow, rows_held, rows_alone, rows_of_loaded, directories_held, directories_of_round, first_root_of_round}
use Rattle.table_model.specs.Promises.{Among, LoadedRowsAreOfLine}
use Rattle.run_invariant.proofs.Invariant.{Common, Local, Shared, Descends, Keeps, KeepsAim, InRound, Roots, Tries, Looks, DirTries, DirLooks, IsLoaded}
use Rattle.helping_laws.proofs.ByPlace
use Rattle.helping_laws.proofs.Known.{IsVersion, Knows, KnowsStand, knows_in}
use Rattle.helping_laws.proofs.Moment.{keeps_in}
use Rattle.list_laws.proofs.Options.{some_same}

-- lists of which all have something
nothing : {A : Type 0} (P : A → Type 0) → All P []
nothing P k d h = absurd (omega (arith, h))

-- one more in front
and_then : {A : Type 0} (P : A → Type 0) (x : A) (xs : List A) → P x → All P xs → All P (x ∷ xs)
and_then P x xs p rest zero d h = p
and_then P x xs p rest (suc k) d h = rest k d (omega (arith, h))

-- and each of a list that is made from another
each_mapped : {A : Type 0} {B : Type 0} (P : B → Type 0) (f : A → B) (xs : List A) → All (λ x. P (f x)) xs →
    All P (map f xs)
each_mapped P f [] all = nothing P
each_mapped P f (x ∷ xs) all = and_then P (f x) (map f xs) (all 0 x (omega arith))
    (each_mapped P f xs (λ k d h. all (suc k) d (omega (arith, h))))

module _ (setup : Setup) (words : List ℕ) (c : Common) (shows : Shows setup.shape words c.memory)
    (s : Shared setup c) (t : Descends setup c) (me : ℕ) (h : me < seats_of setup) (used : SeatRows)
    (flight : Flight) (local : Local) where
  -- a row of a bucket, in the words of the table
  abbrev IsHeld : HeldRow → Type 0
  IsHeld held = Among (named_buckets setup.shape words) held.bucket
      × Among (rows_of_bucket setup.shape words held.bucket) held.row

  -- a row at a place is one
  held : (b i row : ℕ) → c.named b ≡ true → i ≤ c.top b → row ≡ c.row_at b i → IsHeld (record { bucket = b; row = row })
  held b i row n o e = (
    ByPlace.among_named setup words c shows s t b n,
    subst (Among (rows_of_bucket setup.shape words b)) (sym e) (ByPlace.among_bucket setup words c shows s t b i n o),
  )

  -- so is that of the first try
  first_held : (b first : ℕ) → c.named b ≡ true → Tries setup c me b first → IsHeld (record { bucket = b; row = first })
  first_held b first n x = held b (c.since me) first n (omega
      (arith, s.helped.begun me h x.tried, ap c.top x.tried_at)) x.first_is

  -- the two rows of a bucket try
  both_held : (b base turn first row : ℕ) → c.named b ≡ true → Looks setup c me b base turn first row →
      All IsHeld (record { bucket = b; row = first } ∷ record { bucket = b; row = row } ∷ [])
  both_held b base turn first row n x =
      and_then IsHeld (record { bucket = b; row = first }) (record { bucket = b; row = row } ∷ [])
      (first_held b first n x.tries)
      (and_then IsHeld (record { bucket = b; row = row }) [] (held b base row n x.old x.row_is) (nothing IsHeld))

  -- those of the loaded buckets
  each_loaded : (root : ℕ) (loaded : List LoadedBucket) → All (IsLoaded setup c me root) loaded →
      All IsHeld (rows_of_loaded loaded)
  each_loaded root loaded all = each_mapped IsHeld (λ l. record { bucket = l.bucket; row = l.row }) loaded
      (λ k d lt. (let x = all k d lt in held (get_or loaded k d).bucket x.base
      (get_or loaded k d).row x.sees.there x.sees.old x.row_is))

  -- all that a phase holds
  all_held : (phase : Phase) → Keeps setup c me used flight local phase → All IsHeld (rows_held phase)
  all_held (TryWord round turn None) k = nothing IsHeld
  all_held (TryWord round turn (Some first)) k = elim k.begun [
    | inl x ↦ (let no : Some first ≡ None = x.1 in cc)
    | inr x ↦ (let same : x.0 ≡ first = some_same (sym x.1) in
        and_then IsHeld (record { bucket = round.bucket; row = first }) []
        (first_held round.bucket first k.in_round.there (subst (Tries setup c me round.bucket) same x.2))
        (nothing IsHeld))
  ]
  all_held (TryRow round turn first row words) k =
      both_held round.bucket local.base turn first row k.in_round.there k.looks
  all_held (TryAnnouncement round attempt found) k =
      both_held round.bucket local.base attempt.turn attempt.first attempt.row k.in_round.there k.opens.looks
  all_held (TryOp round attempt found op words) k =
      both_held round.bucket local.base attempt.turn attempt.first attempt.row k.in_round.there k.opens.looks
  all_held (TryStore round attempt found stored) k =
      both_held round.bucket local.base attempt.turn attempt.first attempt.row k.in_round.there k.opens.looks
  all_held (TryExchange round attempt found) k =
      both_held round.bucket local.base attempt.turn attempt.first attempt.row k.in_round.there k.opens.looks
  all_held (DirWord round attempt found loaded bucket) k = each_loaded local.root loaded k.loads
  all_held (DirRow round attempt found loaded bucket row words) k =
      and_then IsHeld (record { bucket = bucket; row = row }) (rows_of_loaded loaded)
      (held bucket local.base row k.sees.there k.sees.old k.row_is) (each_loaded local.root loaded k.loads)
  all_held (DirStore round attempt found loaded stored) k = each_loaded local.root loaded k.loads
  all_held (DirExchange round attempt found loaded) k = each_loaded local.root loaded k.loads
  all_held phase k = nothing IsHeld

  -- ---- rows alone

  -- a published row
  abbrev IsRow : ℕ → Type 0
  IsRow = Among (bucket_rows setup.shape words)

  -- the one row that a phase knows
  one_row : (b i row : ℕ) → c.named b ≡ true → i ≤ c.top b → row ≡ c.row_at b i → All IsRow (row ∷ [])
  one_row b i row n o e = and_then IsRow row [] (subst IsRow (sym e)
      (ByPlace.among_rows setup words c shows s t b i n o)) (nothing IsRow)

  -- all rows alone
  all_alone : (phase : Phase) → Keeps setup c me used flight local phase → Knows c phase → All IsRow (rows_alone phase)
  all_alone (LookCount row) k x = one_row local.at local.base row k.there k.old k.row_is
  all_alone (LookItems row count words) k x = one_row local.at local.base row k.there k.old k.row_is
  all_alone (LastRow row words) k x = one_row local.at local.base row k.there k.old k.row_is
  all_alone (StoreDone reply place) k x = one_row x.bucket x.at place x.named x.inside x.is
  all_alone phase k x = nothing IsRow

  -- ---- directory rows

  -- a published directory row
  abbrev IsDir : ℕ → Type 0
  IsDir = Among (directory_rows setup.shape words)

  -- what stands at a place is one
  version : (v row : ℕ) → v ≤ c.dir_top → row ≡ c.dir_row v → IsDir row
  version v row o e = subst IsDir (sym e) (ByPlace.among_versions setup words c shows s t v o)

  -- so is one that is known
  known : (row : ℕ) → IsVersion c row → IsDir row
  known row x = version x.version row x.inside x.is

  -- and that of the first find
  rooted : (first : ℕ) → Roots setup c me first → IsDir first
  rooted first x = version (c.first_dir me) first (s.carried.begun me h x.rooted) x.first_is

  -- those of an aim
  of_aim : (aim : Aim) → KeepsAim setup c me used flight.number flight.call aim →
      All IsDir (option_to_list (first_root_of_round aim))
  of_aim ForLookup k = nothing IsDir
  of_aim ForFirstRound k = nothing IsDir
  of_aim (ForSecondRound first) k = and_then IsDir first [] (rooted first k.roots) (nothing IsDir)
  of_aim ForLastLook k = nothing IsDir

  -- those of a round
  of_round : (round : Round) → InRound setup c me flight.number flight.call local.dir round →
      IsVersion c round.root → All IsDir (directories_of_round round)
  of_round round r x = and_then IsDir round.first (round.root ∷ []) (rooted round.first r.roots)
      (and_then IsDir round.root [] (known round.root x) (nothing IsDir))

  -- that of the first directory try
  began : (first : ℕ) → DirTries setup c me first → IsDir first
  began first x = version (c.dir_since me) first (s.carried.dir_begun me h x.tried).2 x.first_is

  -- those of a directory try
  of_look : (round : Round) (turn first root : ℕ) → InRound setup c me flight.number flight.call local.dir round →
      IsVersion c round.root → DirLooks setup c me local.dir local.root turn first root →
      All IsDir (first ∷ root ∷ directories_of_round round)
  of_look round turn first root r x l =
      and_then IsDir first (root ∷ directories_of_round round) (began first l.tries)
      (and_then IsDir root (directories_of_round round) (version local.root root l.old l.row_is)
      (of_round round r x))

  -- all that a phase holds
  all_dirs : (phase : Phase) → Keeps setup c me used flight local phase → Knows c phase →
      All IsDir (directories_held phase)
  all_dirs (FindRoot aim) k x = of_aim aim k.aims
  all_dirs (FindDepth aim root) k x = and_then IsDir root (option_to_list (first_root_of_round aim))
      (version local.dir root k.finds.old k.finds.root_is) (of_aim aim k.aims)
  all_dirs (FindEntry aim root depth) k x = and_then IsDir root (option_to_list (first_root_of_round aim))
      (version local.dir root k.finds.old k.finds.root_is) (of_aim aim k.aims)
  all_dirs (LookWord root bucket) k x = and_then IsDir root [] (known root x) (nothing IsDir)
  all_dirs (LastWord root bucket) k x = and_then IsDir root [] (known root x) (nothing IsDir)
  all_dirs (TryWord round turn first) k x = of_round round k.in_round x
  all_dirs (TryRow round turn first row words) k x = of_round round k.in_round x
  all_dirs (TryAnnouncement round attempt found) k x = of_round round k.in_round x
  all_dirs (TryOp round attempt found op words) k x = of_round round k.in_round x
  all_dirs (TryStore round attempt found stored) k x = of_round round k.in_round x
  all_dirs (TryExchange round attempt found) k x = of_round round k.in_round x
  all_dirs (DirRoot round turn None) k x = of_round round k.in_round x
  all_dirs (DirRoot round turn (Some first)) k x = elim k.begun [
    | inl y ↦ (let no : Some first ≡ None = y.1 in cc)
    | inr y ↦ (let same : y.0 ≡ first = some_same (sym y.1) in
        and_then IsDir first (directories_of_round round) (began first (subst (DirTries setup c me) same y.2))
        (of_round round k.in_round x))
  ]
  all_dirs (DirDepth round turn first root) k x = of_look round turn first root k.in_round x k.looks
  all_dirs (DirEntries round turn first root depth words) k x = of_look round turn first root k.in_round x k.looks
  all_dirs (DirAnnouncement round attempt found) k x =
      of_look round attempt.turn attempt.first attempt.root k.in_round x k.opens.looks
  all_dirs (DirOp round attempt found op words) k x =
      of_look round attempt.turn attempt.first attempt.root k.in_round x k.opens.looks
  all_dirs (DirWord round attempt found loaded bucket) k x =
      of_look round attempt.turn attempt.first attempt.root k.in_round x k.opens.looks
  all_dirs (DirRow round attempt found loaded bucket row words) k x =
      of_look round attempt.turn attempt.first attempt.root k.in_round x k.opens.looks
  all_dirs (DirStore round attempt found loaded stored) k x =
      of_look round attempt.turn attempt.first attempt.root k.in_round x k.opens.looks
  all_dirs (DirExchange round attempt found loaded) k x =
      of_look round attempt.turn attempt.first attempt.root k.in_round x k.opens.looks
  all_dirs phase k x = nothing IsDir

-- whatever rows a call has loaded are published
pub loaded_rows_are_of_line : LoadedRowsAreOfLine
loaded_rows_are_of_line setup events seat flight phase run u =
    let a = knows_in setup events run in
    let c = a.common in
    let k = keeps_in setup (world_after setup events) c a.locals a.follows seat flight phase u.seat_is u.stand in
    let x : Knows c phase = subst (KnowsStand c) u.stand (a.holds.1 seat u.seat_is) in
    let used = (seat_in (world_after setup events) seat).account.used in (
      all_held setup _ c a.follows.shows a.follows.shared a.follows.descent seat u.seat_is used flight
          (a.locals seat) phase k,
      all_alone setup _ c a.follows.shows a.follows.shared a.follows.descent seat u.seat_is used flight
          (a.locals seat) phase k x,
      all_dirs setup _ c a.follows.shows a.follows.shared a.follows.descent seat u.seat_is used flight
          (a.locals seat) phase k x,
    )
