-- What a seat's phase tells of the history: where its round began, what its try has loaded and found.
use Rattle.std.proofs.Common.{◌≡◌, ℕ, ◌≤◌, true, List, [], inl, inr, refl, sym, ap, ◌∙◌, subst, arith}
use Rattle.std.specs.Prelude.{Option, Some, None, All}
use Rattle.std.specs.Option.{option_map}
use Rattle.step_counts.specs.declared.rows.SeatRows.{SeatRows}
use Rattle.plain_map.specs.Calls.{key_in}
use Rattle.bucket_states.specs.declared.ops.Op.{Op}
use Rattle.table_model.specs.Setup.{Setup}
use Rattle.table_model.specs.declared.rounds.Aim.{Aim}
use Rattle.table_model.specs.declared.rounds.Aim.TheVariants.{ForLookup, ForFirstRound, ForSecondRound, ForLastLook}
use Rattle.table_model.specs.declared.rounds.Round.{Round}
use Rattle.table_model.specs.DirectoryChange.{LoadedBucket}
use Rattle.table_model.specs.Phases.{BucketTry, DirectoryTry, Phase, FindRoot, FindDepth, FindEntry, TryWord, TryRow, TryAnnouncement, TryOp, TryStore, TryExchange, DirRoot, DirDepth, DirEntries, DirAnnouncement, DirOp, DirWord, DirRow, DirStore, DirExchange}
use Rattle.table_model.specs.SeatStates.{Flight}
use Rattle.table_model.specs.Helping.{TriedRow, Attempt, round_of, first_root_in, first_root_of_round, tried_from, directory_tried_from, bucket_attempt, directory_attempt}
use Rattle.run_invariant.proofs.Invariant.{Common, Local, Keeps, KeepsAim, Works, InRound, Roots, Tries, Opens, AllFound, Froze, DirTries, DirOpens, AllDirFound, IsLoaded, bits, lead}
use Rattle.list_laws.proofs.Options.{some_same}

-- the one value that there is has what this one has
pub at : {A : Type 0} {x y : A} (P : A → Type 0) → P x → Some x ≡ Some y → P y
at P p e = subst P (some_same e) p

-- there is none
pub none : {A : Type 0} {B : Type 0} {x : A} → None ≡ Some x → B
none e = cc

-- what is there by a function has what the argument has
mapped : {A : Type 0} {B : Type 0} (f : A → B) (o : Option A) (y : B) (P : B → Type 0) →
    ((x : A) → o ≡ Some x → P (f x)) → option_map f o ≡ Some y → P y
mapped f None y P g e = none e
mapped f (Some x) y P g e = at P (g x refl) e

module _ (setup : Setup) (c : Common) (me : ℕ) (used : SeatRows) (flight : Flight) (local : Local) where
  -- it is in a round
  abbrev pub Rounds : Round → Type 0
  Rounds round = InRound setup c me flight.number flight.call local.dir round

  -- the round of a phase
  pub in_round : (phase : Phase) (round : Round) → Keeps setup c me used flight local phase →
      round_of phase ≡ Some round → Rounds round
  in_round (TryWord round turn first) r k e = at Rounds k.in_round e
  in_round (TryRow round turn first row words) r k e = at Rounds k.in_round e
  in_round (TryAnnouncement round attempt found) r k e = at Rounds k.in_round e
  in_round (TryOp round attempt found op words) r k e = at Rounds k.in_round e
  in_round (TryStore round attempt found stored) r k e = at Rounds k.in_round e
  in_round (TryExchange round attempt found) r k e = at Rounds k.in_round e
  in_round (DirRoot round turn first) r k e = at Rounds k.in_round e
  in_round (DirDepth round turn first root) r k e = at Rounds k.in_round e
  in_round (DirEntries round turn first root depth words) r k e = at Rounds k.in_round e
  in_round (DirAnnouncement round attempt found) r k e = at Rounds k.in_round e
  in_round (DirOp round attempt found op words) r k e = at Rounds k.in_round e
  in_round (DirWord round attempt found loaded bucket) r k e = at Rounds k.in_round e
  in_round (DirRow round attempt found loaded bucket row words) r k e = at Rounds k.in_round e
  in_round (DirStore round attempt found loaded stored) r k e = at Rounds k.in_round e
  in_round (DirExchange round attempt found loaded) r k e = at Rounds k.in_round e
  in_round phase r k e = none e

  -- and has announced its op
  pub works_in : (phase : Phase) (round : Round) → Keeps setup c me used flight local phase →
      round_of phase ≡ Some round → Works setup c me used flight.number flight.call
  works_in (TryWord round turn first) r k e = k.works
  works_in (TryRow round turn first row words) r k e = k.works
  works_in (TryAnnouncement round attempt found) r k e = k.works
  works_in (TryOp round attempt found op words) r k e = k.works
  works_in (TryStore round attempt found stored) r k e = k.works
  works_in (TryExchange round attempt found) r k e = k.works
  works_in (DirRoot round turn first) r k e = k.works
  works_in (DirDepth round turn first root) r k e = k.works
  works_in (DirEntries round turn first root depth words) r k e = k.works
  works_in (DirAnnouncement round attempt found) r k e = k.works
  works_in (DirOp round attempt found op words) r k e = k.works
  works_in (DirWord round attempt found loaded bucket) r k e = k.works
  works_in (DirRow round attempt found loaded bucket row words) r k e = k.works
  works_in (DirStore round attempt found loaded stored) r k e = k.works
  works_in (DirExchange round attempt found loaded) r k e = k.works
  works_in phase r k e = none e

  -- ---- the update's own

  -- its bucket tries began at this bucket, at this row
  pub record TriedFrom (tried : TriedRow) : Type 0 where
    pub works : Works setup c me used flight.number flight.call
    pub there : c.named tried.bucket ≡ true
    pub tries : Tries setup c me tried.bucket tried.row

  -- the row of the first try
  abbrev from : Works setup c me used flight.number flight.call → (round : Round) → Rounds round → (row : ℕ) →
      Tries setup c me round.bucket row → TriedFrom (record { bucket = round.bucket; row = row })
  from w round r row t = record { works = w; there = r.there; tries = t }

  -- by the phase
  pub tried_is : (phase : Phase) (tried : TriedRow) → Keeps setup c me used flight local phase →
      tried_from phase ≡ Some tried → TriedFrom tried
  tried_is (TryWord round turn None) t k e = none e
  tried_is (TryWord round turn (Some first)) t k e = elim k.begun [
    | inl x ↦ none (sym x.1)
    | inr x ↦ at TriedFrom (from k.works round k.in_round first
        (subst (Tries setup c me round.bucket) (sym (some_same x.1)) x.2)) e
  ]
  tried_is (TryRow round turn first row words) t k e =
      at TriedFrom (from k.works round k.in_round first k.looks.tries) e
  tried_is (TryAnnouncement round attempt found) t k e =
      at TriedFrom (from k.works round k.in_round attempt.first k.opens.looks.tries) e
  tried_is (TryOp round attempt found op words) t k e =
      at TriedFrom (from k.works round k.in_round attempt.first k.opens.looks.tries) e
  tried_is (TryStore round attempt found stored) t k e =
      at TriedFrom (from k.works round k.in_round attempt.first k.opens.looks.tries) e
  tried_is (TryExchange round attempt found) t k e =
      at TriedFrom (from k.works round k.in_round attempt.first k.opens.looks.tries) e
  tried_is phase t k e = none e

  -- its first find was by this directory row
  pub record FoundBy (first : ℕ) : Type 0 where
    pub works : Works setup c me used flight.number flight.call
    pub roots : Roots setup c me first

  -- by the aim
  of_aim : (aim : Aim) (first : ℕ) → KeepsAim setup c me used flight.number flight.call aim →
      first_root_of_round aim ≡ Some first → FoundBy first
  of_aim ForLookup first k e = none e
  of_aim ForFirstRound first k e = none e
  of_aim (ForSecondRound f) first k e = at FoundBy (record { works = k.works; roots = k.roots }) e
  of_aim ForLastLook first k e = none e

  -- by the phase
  pub first_found : (phase : Phase) (first : ℕ) → Keeps setup c me used flight local phase →
      first_root_in phase ≡ Some first → FoundBy first
  first_found (FindRoot aim) first k e = of_aim aim first k.aims e
  first_found (FindDepth ForFirstRound root) first k e =
      at FoundBy (record {
        works = k.aims.works;
        roots = record { rooted = k.knows.0; first_is = k.finds.root_is ∙ ap c.dir_row (sym k.knows.1) };
      }) e
  first_found (FindDepth ForLookup root) first k e = none e
  first_found (FindDepth (ForSecondRound f) root) first k e = of_aim (ForSecondRound f) first k.aims e
  first_found (FindDepth ForLastLook root) first k e = none e
  first_found (FindEntry ForFirstRound root depth) first k e =
      at FoundBy (record {
        works = k.aims.works;
        roots = record { rooted = k.knows.0; first_is = k.finds.root_is ∙ ap c.dir_row (sym k.knows.1) };
      }) e
  first_found (FindEntry ForLookup root depth) first k e = none e
  first_found (FindEntry (ForSecondRound f) root depth) first k e = of_aim (ForSecondRound f) first k.aims e
  first_found (FindEntry ForLastLook root depth) first k e = none e
  first_found phase first k e = mapped (λ (round : Round). round.first) (round_of phase) first FoundBy
      (λ round x. record { works = works_in phase round k x; roots = (in_round phase round k x).roots }) e

  -- its directory tries began at this directory row, for this bucket
  pub record DirTriedFrom (tried : TriedRow) : Type 0 where
    pub works : Works setup c me used flight.number flight.call
    pub froze : Froze setup c me flight.number tried.bucket
    pub tries : DirTries setup c me tried.row

  -- the row of the first directory try
  abbrev dir_from : Works setup c me used flight.number flight.call → (round : Round) →
      Froze setup c me flight.number round.bucket → (row : ℕ) → DirTries setup c me row →
      DirTriedFrom (record { bucket = round.bucket; row = row })
  dir_from w round f row t = record { works = w; froze = f; tries = t }

  -- by the phase
  pub dir_tried_is : (phase : Phase) (tried : TriedRow) → Keeps setup c me used flight local phase →
      directory_tried_from phase ≡ Some tried → DirTriedFrom tried
  dir_tried_is (DirRoot round turn None) t k e = none e
  dir_tried_is (DirRoot round turn (Some first)) t k e = elim k.begun [
    | inl x ↦ none (sym x.1)
    | inr x ↦ at DirTriedFrom (dir_from k.works round k.froze first
        (subst (DirTries setup c me) (sym (some_same x.1)) x.2)) e
  ]
  dir_tried_is (DirDepth round turn first root) t k e =
      at DirTriedFrom (dir_from k.works round k.froze first k.looks.tries) e
  dir_tried_is (DirEntries round turn first root depth words) t k e =
      at DirTriedFrom (dir_from k.works round k.froze first k.looks.tries) e
  dir_tried_is (DirAnnouncement round attempt found) t k e =
      at DirTriedFrom (dir_from k.works round k.froze attempt.first k.opens.looks.tries) e
  dir_tried_is (DirOp round attempt found op words) t k e =
      at DirTriedFrom (dir_from k.works round k.froze attempt.first k.opens.looks.tries) e
  dir_tried_is (DirWord round attempt found loaded bucket) t k e =
      at DirTriedFrom (dir_from k.works round k.froze attempt.first k.opens.looks.tries) e
  dir_tried_is (DirRow round attempt found loaded bucket row words) t k e =
      at DirTriedFrom (dir_from k.works round k.froze attempt.first k.opens.looks.tries) e
  dir_tried_is (DirStore round attempt found loaded stored) t k e =
      at DirTriedFrom (dir_from k.works round k.froze attempt.first k.opens.looks.tries) e
  dir_tried_is (DirExchange round attempt found loaded) t k e =
      at DirTriedFrom (dir_from k.works round k.froze attempt.first k.opens.looks.tries) e
  dir_tried_is phase t k e = none e

  -- ---- the try that it is in

  -- it has loaded this row of the bucket, and found these ops
  pub record InTry (attempt : Attempt) : Type 0 where
    pub works : Works setup c me used flight.number flight.call
    pub there : c.named attempt.bucket ≡ true
    pub old : local.base ≤ c.top attempt.bucket
    pub row_is : attempt.row ≡ c.row_at attempt.bucket local.base
    pub tries : c.tried me ≡ true
    pub tried_at : c.tried_at me ≡ attempt.bucket
    pub begun : c.since me ≤ local.base
    pub from : local.dir ≤ c.dir_top
    pub led : lead setup c local.dir (key_in flight.call) ≡ attempt.bucket
    pub for_it : bits setup (c.deep attempt.bucket) (key_in flight.call) ≡ c.pre attempt.bucket
    pub found : AllFound setup c me attempt.bucket local.base attempt.found

  -- a try that goes on
  abbrev in_try : Works setup c me used flight.number flight.call → (round : Round) → Rounds round →
      (attempt : BucketTry) → Opens setup c me flight.number round.bucket local.base attempt →
      (found : List (Option Op)) →
      AllFound setup c me round.bucket local.base found →
      InTry (record { bucket = round.bucket; row = attempt.row; found = found; loaded = [] })
  in_try w round r attempt o found all = record {
    works = w;
    there = r.there;
    old = o.looks.old;
    row_is = o.looks.row_is;
    tries = o.looks.tries.tried;
    tried_at =
        o.looks.tries.tried_at;
    begun = omega (arith, o.looks.after, o.looks.one);
    from = r.old;
    led = r.led;
    for_it = r.for_it;
    found = all;
  }

  -- by the phase
  pub attempt_is : (phase : Phase) (attempt : Attempt) → Keeps setup c me used flight local phase →
      bucket_attempt phase ≡ Some attempt → InTry attempt
  attempt_is (TryAnnouncement round attempt found) a k e =
      at InTry (in_try k.works round k.in_round attempt k.opens found k.entries) e
  attempt_is (TryOp round attempt found op words) a k e =
      at InTry (in_try k.works round k.in_round attempt k.opens found k.entries) e
  attempt_is (TryStore round attempt found stored) a k e =
      at InTry (in_try k.works round k.in_round attempt k.opens found k.entries) e
  attempt_is (TryExchange round attempt found) a k e =
      at InTry (in_try k.works round k.in_round attempt k.opens found k.entries) e
  attempt_is phase a k e = none e

  -- it has loaded this directory row, found these ops, and loaded these buckets
  pub record InDirTry (attempt : Attempt) : Type 0 where
    pub works : Works setup c me used flight.number flight.call
    pub froze : Froze setup c me flight.number attempt.bucket
    pub there : c.named attempt.bucket ≡ true
    pub old : local.root ≤ c.dir_top
    pub row_is : attempt.row ≡ c.dir_row local.root
    pub tries : c.dir_tried me ≡ true
    pub begun : c.dir_since me ≤ local.root
    pub leads : lead setup c local.root (key_in flight.call) ≡ attempt.bucket
    pub found : AllDirFound setup c me local.root attempt.found
    pub loads : All (IsLoaded setup c me local.root) attempt.loaded

  -- a directory try that goes on
  abbrev in_dir_try : Works setup c me used flight.number flight.call → (round : Round) → Rounds round →
      Froze setup c me flight.number round.bucket → (attempt : DirectoryTry) →
      DirOpens setup c me local.dir local.root flight.call round.bucket attempt → (found : List (Option Op)) →
      AllDirFound setup c me local.root found → (loaded : List LoadedBucket) →
      All (IsLoaded setup c me local.root) loaded →
      InDirTry (record { bucket = round.bucket; row = attempt.root; found = found; loaded = loaded })
  in_dir_try w round r f attempt o found all loaded loads = record {
    works = w;
    froze = f;
    there = r.there;
    old = o.looks.old;
    row_is = o.looks.row_is;
    tries = o.looks.tries.tried;
    begun = omega (arith, o.looks.after, o.looks.one);
    leads = o.leads;
    found = all;
    loads = loads;
  }

  -- no bucket is loaded yet
  nothing : All (IsLoaded setup c me local.root) []
  nothing k d h = absurd (omega (arith, h))

  -- by the phase
  pub dir_attempt_is : (phase : Phase) (attempt : Attempt) → Keeps setup c me used flight local phase →
      directory_attempt phase ≡ Some attempt → InDirTry attempt
  dir_attempt_is (DirAnnouncement round attempt found) a k e =
      at InDirTry (in_dir_try k.works round k.in_round k.froze attempt k.opens found k.entries [] nothing) e
  dir_attempt_is (DirOp round attempt found op words) a k e =
      at InDirTry (in_dir_try k.works round k.in_round k.froze attempt k.opens found k.entries [] nothing) e
  dir_attempt_is (DirWord round attempt found loaded bucket) a k e =
      at InDirTry (in_dir_try k.works round k.in_round k.froze attempt k.opens found k.entries loaded k.loads) e
  dir_attempt_is (DirRow round attempt found loaded bucket row words) a k e =
      at InDirTry (in_dir_try k.works round k.in_round k.froze attempt k.opens found k.entries loaded k.loads) e
  dir_attempt_is (DirStore round attempt found loaded stored) a k e =
      at InDirTry (in_dir_try k.works round k.in_round k.froze attempt k.opens found k.entries loaded k.loads) e
  dir_attempt_is (DirExchange round attempt found loaded) a k e =
      at InDirTry (in_dir_try k.works round k.in_round k.froze attempt k.opens found k.entries loaded k.loads) e
  dir_attempt_is phase a k e = none e
