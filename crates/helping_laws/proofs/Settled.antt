-- The numbers of a seat's announced ops rise, and each of them but the one that the seat is at is applied in the
-- current row of its key. A layer of the induction.
use Rattle.std.proofs.Common.{◌≡◌, ℕ, ◌+◌, ◌-◌, ◌^◌, ◌<◌, ◌≤◌, Bool, true, false, cond, eqb, ltb, leb, List, [], length, take, inl, inr, refl, sym, ap, ◌∙◌, subst, arith, lt-ltb, le-leb, eqb-true, true≢false}
use Rattle.std.specs.Prelude.{Option, Some, None}
use Rattle.std.proofs.lemmas.Bool.{cond_both, and_from, cases_eq, cases_lt, leb-true, ltb-false}
use Rattle.std.proofs.lemmas.List.{get_or-replicate, length_push}
use Rattle.step_counts.specs.declared.TheConstants.{OP_WORDS}
use Rattle.step_counts.specs.StepCounts.{bucket_row_words}
use Rattle.step_counts.specs.declared.rows.SeatRows.{SeatRows}
use Rattle.plain_map.specs.declared.full.FullKind.TheVariants.{BucketRows, BucketWords}
use Rattle.plain_map.specs.declared.calls.Call.{Call}
use Rattle.plain_map.specs.declared.keys.Key.{Key}
use Rattle.plain_map.specs.Calls.{key_in}
use Rattle.word_rows.proofs.MemoryLemmas.{put_same, put_at_same}
use Rattle.bucket_states.specs.declared.ops.Op.{Op}
use Rattle.bucket_states.specs.States.{BucketState}
use Rattle.bucket_states.specs.Laws.{applied_of}
use Rattle.table_model.specs.declared.events.Event.{Event}
use Rattle.table_model.specs.Setup.{Setup, seats_of, rules_of, settings_of, next_number}
use Rattle.table_model.specs.declared.rounds.Aim.TheVariants.{ForLookup, ForFirstRound, ForSecondRound, ForLastLook}
use Rattle.table_model.specs.declared.rounds.Round.{Round}
use Rattle.table_model.specs.Directories.{DirectoryState, bucket_of}
use Rattle.table_model.specs.DirectoryChange.{LoadedBucket, next_bucket}
use Rattle.table_model.specs.Phases.{BucketTry, DirectoryTry, Phase, SeeDone, StoreOp, Announce, FindRoot, FindDepth, FindEntry, LookWord, LookCount, LookItems, TryWord, TryRow, TryAnnouncement, TryOp, TryStore, TryExchange, DirRoot, DirDepth, DirEntries, DirAnnouncement, DirOp, DirWord, DirRow, DirStore, DirExchange, LastWord, LastRow, StoreDone, Stuck}
use Rattle.table_model.specs.SeatStates.{Account, Flight, Stand, Idle, InFlight, SeatState, fresh_seat, record_of}
use Rattle.table_model.specs.Asks.{ask_in}
use Rattle.table_model.specs.Goes.{state_after, phase_after, flight_after, used_after, answered_by, answered_by_leaf, after_row, after_round, after_lost_root, with_directory, after_found, after_dir_found, after_entries, after_directory, after_exchange, after_loaded, load_or_store, is_applied, bucket_in_words, op_in_words, more}
use Rattle.table_model.specs.Stores.{made_leaves, made_bucket, directory_puts}
use Rattle.table_model.specs.Worlds.{World, IsRun, opening_world, world_after}
use Rattle.run_invariant.proofs.Change.{leaf_at}
use Rattle.run_invariant.proofs.Events.{announced, published, local_after}
use Rattle.run_invariant.proofs.Histories.{carried_forward}
use Rattle.run_invariant.proofs.Loads.{width_is}
use Rattle.run_invariant.proofs.Invariant.{Common, Local, Shared, Keeps, KeepsStand, Moves, Works, InRound, lead, last}
use Rattle.run_laws.proofs.BucketStep
use Rattle.run_laws.proofs.Publish
use Rattle.run_laws.proofs.PublishRoot.{is_new}
use Rattle.run_laws.proofs.Won
use Rattle.run_laws.proofs.Won.{grown_by}
use Rattle.run_laws.proofs.Layers.{Steps, HoldsWith, run_with}
use Rattle.run_laws.proofs.Induction.{common_after, found_in, goes}
use Rattle.run_laws.proofs.Changes.{changes_from_laws}
use Rattle.run_laws.proofs.Opened.{bucket_laws, opening_fresh}
use Rattle.helping_laws.proofs.Layer.{Layer, Holding, layer_steps}
use Rattle.helping_laws.proofs.OpsTold.{ops_of, IsIn, Settled, AllSettled, is_trying, LastIn, Counted, Calls}

-- an op that is in stays in
is_in_up : (setup : Setup) (me : ℕ) (c d : Common) → Moves setup me c d → (p j : ℕ) → j < ops_of c p →
    IsIn setup c p j → IsIn setup d p j
is_in_up setup me c d m p j h x =
    subst (λ (o : Op). o.number ≤ applied_of (last d (lead setup d d.dir_top (key_in o.call))) p)
    (sym (m.calls p j h).0) (omega (arith, x, m.now_up (key_in (c.op_at p j).call) p))

module _ (setup : Setup) (me : ℕ) (c d : Common) (m : Moves setup me c d) (p : ℕ) (same : ops_of d p ≡ ops_of c p) where
  -- the number of an op that was announced
  number_same : (j : ℕ) → j < ops_of c p → (d.op_at p j).number ≡ (c.op_at p j).number
  number_same j h = ap (λ (o : Op). o.number) (m.calls p j h).0

  -- what was settled is
  settled_up : Settled setup c p → Settled setup d p
  settled_up x = record {
    rises = λ i j le h. omega (
      arith,
      x.rises i j le (omega (arith, h, same)),
      number_same i (omega (arith, le, h, same)),
      number_same j (omega (arith, h, same)),
    );
    past = λ j h. is_in_up setup me c d m p j (omega (arith, h, same)) (x.past j (omega (arith, h, same)));
  }

  -- what is in is in
  last_up : 0 < ops_of d p → IsIn setup c p (ops_of c p - 1) → IsIn setup d p (ops_of d p - 1)
  last_up some x = subst (λ n. IsIn setup d p (n - 1)) (sym same)
      (is_in_up setup me c d m p (ops_of c p - 1) (omega (arith, some, same)) x)

  -- and what was counted
  counted_up : (account : Account) (stand : Stand) → Counted c p account stand → Counted d p account stand
  counted_up account Idle x = λ j h. omega (arith, x j (omega (arith, h, same)), number_same j (omega (arith, h, same)))
  counted_up account (InFlight flight phase) x =
      (x.0, λ j h. omega (arith, x.1 j (omega (arith, h, same)), number_same j (omega (arith, h, same))))

  -- also of the last op
  last_in_up : (stand : Stand) → LastIn setup c p stand → LastIn setup d p stand
  last_in_up Idle x = λ some. last_up some (x (omega (arith, some, same)))
  last_in_up (InFlight flight phase) x = λ e some. last_up some (x e (omega (arith, some, same)))

-- by what a seat in an update has announced
own_in : (setup : Setup) (d : Common) (me : ℕ) (used : SeatRows) (number : ℕ) (call : Call) →
    Works setup d me used number call →
    number ≤ applied_of (last d (lead setup d d.dir_top (key_in call))) me → IsIn setup d me (ops_of d me - 1)
own_in setup d me used number call w x = subst (λ (o : Op). o.number ≤ applied_of
    (last d (lead setup d d.dir_top (key_in o.call))) me) (sym w.op_is) x

-- what is applied in a bucket of the key is applied in its current row
in_bucket : (setup : Setup) (d : Common) → Shared setup d → (key : Key) (dir b number p : ℕ) → dir ≤ d.dir_top →
    lead setup d dir key ≡ b → number ≤ applied_of (last d b) p →
    number ≤ applied_of (last d (lead setup d d.dir_top key)) p
in_bucket setup d s key dir b number p o e x =
    omega (arith, x, carried_forward setup d s key dir p o, ap (λ a. applied_of (last d a) p) e)

module _ (setup : Setup) (me : ℕ) (c : Common) (account : Account) (flight : Flight) (local : Local)
    (h : me < seats_of setup) (s : Shared setup c) where
  -- the key of the update
  abbrev key : Key
  key = key_in flight.call

  -- the last op is in after a step
  abbrev In : Common → Type 0
  In d = 0 < ops_of d me → IsIn setup d me (ops_of d me - 1)

  -- what is to be shown of the phase that a step leads to
  abbrev Shows_in : Common → SeatRows → Flight → Phase → Type 0
  Shows_in d used after phase = Keeps setup d me used after (local) phase → is_trying phase ≡ false → In d

  -- where no op is announced all that was settled is
  all_up : (d : Common) → Moves setup me c d → ops_of d me ≡ ops_of c me → AllSettled setup c → AllSettled setup d
  all_up d m same g p hp = elim (cases_eq p me) [
    | inl e ↦ settled_up setup me c d m p (ap (ops_of d) e ∙ same ∙ ap (ops_of c) (sym e)) (g p hp)
    | inr o ↦ settled_up setup me c d m p (ap (λ (u : SeatRows). u.op_rows) (m.used p o)) (g p hp)
  ]

  -- most steps announce nothing
  next : (d : Common) → Moves setup me c d → ops_of d me ≡ ops_of c me → AllSettled setup c → (phase : Phase) →
      Counted c me account (InFlight flight phase) →
      (used : SeatRows) (after : Flight) (then : Phase) → after.number ≡ flight.number →
      (is_trying then ≡ false → In d) →
      AllSettled setup d × Calls setup d me local (record account { used = used }) (InFlight after then)
  next d m same g phase x used after then number last = (
    all_up d m same g,
    (
      (
        number ∙ x.0,
        λ j n. omega (
          arith,
          number,
          (counted_up setup me c d m me same account
              (InFlight flight phase) x).1 j n,
        ),
      ),
      last,
    ),
  )

  -- a test between two phases
  either : (d : Common) (used : SeatRows) (after : Flight) (t : Bool) (x y : Phase) →
      (t ≡ true → Shows_in d used after x) → (t ≡ false → Shows_in d used after y) → Shows_in d used after (cond t x y)
  either d used after t x y first second = cond_both t x y (λ ph. Shows_in d used after ph) first second

  -- a phase of a try
  trying : (d : Common) (used : SeatRows) (after : Flight) (x : Phase) → is_trying x ≡ true → Shows_in d used after x
  trying d used after x tries = λ k e. absurd (true≢false (sym tries ∙ e))

  -- a test between phases of a try
  tries : (d : Common) (t : Bool) (x y : Phase) → is_trying x ≡ true → is_trying y ≡ true →
      is_trying (cond t x y) ≡ false → In d
  tries d true x y first second e = absurd (true≢false (sym first ∙ e))
  tries d false x y first second e = absurd (true≢false (sym second ∙ e))

  -- and one more
  tries_or : (d : Common) (t : Bool) (x : Phase) (round : Round) (attempt : DirectoryTry) (found : List (Option Op))
      (loaded : List LoadedBucket) (o : Option ℕ) → is_trying x ≡ true →
      is_trying (cond t x (load_or_store round attempt found loaded o)) ≡ false → In d
  tries_or d true x round attempt found loaded o first e = absurd (true≢false (sym first ∙ e))
  tries_or d false x round attempt found loaded None first e = absurd (true≢false e)
  tries_or d false x round attempt found loaded (Some bucket) first e = absurd (true≢false e)

  -- the round is left
  left : (d : Common) (used : SeatRows) (after : Flight) (round : Round) → Shows_in d used after (after_round round)
  left d used after round = go (eqb round.turn 1)
    where
      go : (t : Bool) → Keeps setup d me used after local
          (FindRoot (cond t (ForSecondRound round.first) ForLastLook)) →
          is_trying (FindRoot (cond t (ForSecondRound round.first) ForLastLook)) ≡ false → In d
      go true k e = absurd (true≢false e)
      go false k e = λ some. own_in setup d me used after.number after.call k.aims k.knows

  -- a bucket row is loaded whole
  row_loaded : (used : SeatRows) (after : Flight) (round : Round) (attempt : BucketTry) →
      after.number ≡ flight.number → Works setup c me account.used flight.number flight.call →
      InRound setup c me flight.number flight.call local.dir round → local.base ≤ c.top round.bucket →
      attempt.state ≡ c.state_at round.bucket local.base →
      Shows_in c used after (after_row me flight round attempt)
  row_loaded used after round attempt number w r old is =
      either c used after (is_applied me flight attempt.state) (answered_by me attempt.state attempt.row)
      (cond attempt.state.frozen (DirRoot round 1 None)
      (cond (leb attempt.turn 2) (TryAnnouncement round attempt []) Stuck))
      (λ applied k e some.
      let has : flight.number ≤ applied_of attempt.state me =
      leb-true flight.number (applied_of attempt.state me) applied in
      let up = s.rows.rises round.bucket local.base me r.there old in
      own_in setup c me account.used flight.number flight.call w
      (in_bucket setup c s key local.dir round.bucket flight.number me r.old r.led
      (omega (arith, has, up, ap (λ (b : BucketState). applied_of b me) is))))
      (λ _. either c used after attempt.state.frozen (DirRoot round 1 None)
      (cond (leb attempt.turn 2) (TryAnnouncement round attempt []) Stuck)
      (λ _. trying c used after (DirRoot round 1 None) refl)
      (λ _. either c used after (leb attempt.turn 2) (TryAnnouncement round attempt []) Stuck
      (λ _. trying c used after (TryAnnouncement round attempt []) refl) (λ _ k. absurd k)))

  -- the directory is loaded whole, or not yet
  entries_loaded : (used : SeatRows) (after : Flight) (round : Round) (turn first root depth : ℕ) (words : List ℕ) →
      Shows_in c used after (after_entries setup flight round turn first root depth words)
  entries_loaded used after round turn first root depth words =
      let attempt : DirectoryTry = record {
        turn = turn;
        first = first;
        root = root;
        directory = record { depth = depth; entries = words };
      } in
      either c used after (ltb (length words) (2 ^ depth)) (DirEntries round turn first root depth words)
      (after_directory setup flight round attempt)
      (λ _. trying c used after (DirEntries round turn first root depth words) refl)
      (λ _. either c used after (eqb (bucket_of (rules_of setup) attempt.directory (key_in flight.call))
      round.bucket) (DirAnnouncement round attempt []) (after_round round)
      (λ _. trying c used after (DirAnnouncement round attempt []) refl) (λ _. left c used after round))

  -- one more seat's op is found by a bucket try
  found_more : (used : SeatRows) (after : Flight) (round : Round) (attempt : BucketTry) (found : List (Option Op)) →
      Shows_in c used after (after_found setup round attempt found)
  found_more used after round attempt found =
      either c used after (ltb (length found) (seats_of setup)) (TryAnnouncement round attempt found)
      (TryStore round attempt found 0)
      (λ _. trying c used after (TryAnnouncement round attempt found) refl)
      (λ _. trying c used after (TryStore round attempt found 0) refl)

  -- a bucket is to be loaded, or all are
  loads : (used : SeatRows) (after : Flight) (round : Round) (attempt : DirectoryTry) (found : List (Option Op))
      (loaded : List LoadedBucket) (o : Option ℕ) → Shows_in c used after (load_or_store round attempt found loaded o)
  loads used after round attempt found loaded None = trying c used after (DirStore round attempt found loaded 0) refl
  loads used after round attempt found loaded (Some bucket) =
      trying c used after (DirWord round attempt found loaded bucket) refl

  -- one more seat's op is found by a directory try
  dir_found_more : (used : SeatRows) (after : Flight) (round : Round) (attempt : DirectoryTry)
      (found : List (Option Op)) → Shows_in c used after (after_dir_found setup round attempt found)
  dir_found_more used after round attempt found =
      either c used after (ltb (length found) (seats_of setup)) (DirAnnouncement round attempt found)
      (after_loaded setup round attempt found [])
      (λ _. trying c used after (DirAnnouncement round attempt found) refl)
      (λ _. loads used after round attempt found [] (next_bucket (rules_of setup) attempt.directory [] found))

  -- ---- exchanges that happen

  module _ (round : Round) (attempt : BucketTry) (found : List (Option Op))
      (k : Keeps setup c me account.used flight local (TryExchange round attempt found)) where
    -- the history then
    abbrev d : Common
    d = published setup me round.bucket attempt found c

    -- the new row has the op, or the directory tries begin
    exchanged : (used : SeatRows) (after : Flight) → c.memory.bucket round.bucket ≡ attempt.row → Shared setup d →
        Shows_in d used after (after_exchange me flight round (made_bucket setup attempt found)
        (next_number setup me BucketRows account.used))
    exchanged used after same z =
        let made = made_bucket setup attempt found in
        let row = next_number setup me BucketRows account.used in
        either d used after (is_applied me flight made) (answered_by me made row)
        (cond made.frozen (DirRoot round 1 None) Stuck)
        (λ applied kept e some.
        let has : flight.number ≤ applied_of made me = leb-true flight.number (applied_of made me) applied in
        let last_now = Publish.last_now bucket_laws setup me c account flight local h s round attempt found k same in
        subst (λ n. IsIn setup d me (n - 1))
        (sym (ap (λ (u : SeatRows). u.op_rows)
        (put_same c.used me (record (c.used me) { bucket_rows = (c.used me).bucket_rows + 1 }))))
        (subst (λ (o : Op). o.number ≤ applied_of (last d (lead setup d d.dir_top (key_in o.call))) me)
        (sym k.works.op_is)
        (in_bucket setup d z key local.dir round.bucket flight.number me k.in_round.old k.in_round.led
        (omega (arith, has, ap (λ (b : BucketState). applied_of b me) last_now)))))
        (λ _. either d used after made.frozen (DirRoot round 1 None) Stuck
        (λ _. trying d used after (DirRoot round 1 None) refl) (λ _ kept. absurd kept))

  module _ (round : Round) (attempt : DirectoryTry) (found : List (Option Op)) (loaded : List LoadedBucket)
      (k : Keeps setup c me account.used flight local (DirExchange round attempt found loaded))
      (same : c.memory.root ≡ attempt.root) where
    -- the history then
    abbrev grown : Common
    grown = grown_by setup me account.used attempt found loaded c

    -- the first of the new buckets
    abbrev fresh : ℕ
    fresh = next_number setup me BucketWords account.used

    -- the last row of a new leaf
    leaf_last : (i : ℕ) → i < length (made_leaves setup attempt found loaded) →
        last grown (fresh + i) ≡ leaf_at (made_leaves setup attempt found loaded) i
    leaf_last i n =
        let leaves = made_leaves setup attempt found loaded in
        let many = length leaves in
        let b = fresh + i in
        let new : is_new fresh many b ≡ true =
        and_from (leb fresh b) (ltb b (fresh + many)) (le-leb fresh b (omega arith))
        (lt-ltb b (fresh + many) (omega (arith, n))) in
        let at : b - fresh ≡ i = omega arith in
        ap (λ t. cond t (λ (j : ℕ). leaf_at leaves (b - fresh)) (c.state_at b) (cond t 0 (c.top b))) new
        ∙ ap (leaf_at leaves) at

    -- the op is in the leaf of its key
    root_exchanged : 0 < ops_of c me → IsIn setup grown me (ops_of c me - 1)
    root_exchanged some =
        let leaves = made_leaves setup attempt found loaded in
        let r = Won.replaced changes_from_laws setup me c account flight local h s round attempt found loaded k same in
        let change = Won.change changes_from_laws setup me c account flight local h s round attempt found loaded k
        same in
        let own = Won.own_found changes_from_laws setup me c account flight local h s round attempt found loaded k
        same in
        let takes = change.takes me r.0 (record { seat = me; number = flight.number; call = flight.call }) h own r.1
        r.2 in
        let now : lead setup grown (c.dir_top + 1) key ≡ fresh + r.0 =
        ap (λ (x : DirectoryState). bucket_of (rules_of setup) x key) (put_same c.dir_at (c.dir_top + 1) _) ∙ r.2 in
        subst (λ (o : Op). o.number ≤ applied_of (last grown (lead setup grown (c.dir_top + 1) (key_in o.call))) me)
        (sym k.works.op_is)
        (omega (
          arith,
          takes,
          ap (λ b. applied_of (last grown b) me) now,
          ap (λ (b : BucketState). applied_of b me) (leaf_last r.0 r.1),
        ))

  -- an exchange of the bucket word, and one of the root, whether it happens or not
  by_exchange : (round : Round) (attempt : BucketTry) (found : List (Option Op)) →
      Keeps setup c me account.used flight local (TryExchange round attempt found) → AllSettled setup c →
      Calls setup c me local account (InFlight flight (TryExchange round attempt found)) →
      (after : Flight) → after.number ≡ flight.number → (e : Bool) →
      eqb (c.memory.bucket round.bucket) attempt.row ≡ e →
      (let d = cond e (published setup me round.bucket attempt found c) c in
      let used = cond e (record account.used { bucket_rows = account.used.bucket_rows + 1 }) account.used in
      let then = cond e (after_exchange me flight round (made_bucket setup attempt found)
      (next_number setup me BucketRows account.used)) (TryWord round (attempt.turn + 1) (Some attempt.first)) in
      Moves setup me c d → Shared setup d → Keeps setup d me used after local then →
      AllSettled setup d × Calls setup d me local (record account { used = used }) (InFlight after then))
  by_exchange round attempt found k g x after number false e m z kept =
      next c m refl g (TryExchange round attempt found) x.0 account.used after
      (TryWord round (attempt.turn + 1) (Some attempt.first)) number (λ f. absurd (true≢false f))
  by_exchange round attempt found k g x after number true e m z kept =
      let used = record account.used { bucket_rows = account.used.bucket_rows + 1 } in
      next (published setup me round.bucket attempt found c) m
      (ap (λ (u : SeatRows). u.op_rows) (put_same c.used me
      (record (c.used me) { bucket_rows = (c.used me).bucket_rows + 1 }))) g
      (TryExchange round attempt found) x.0 used after _ number
      (exchanged round attempt found k used after (eqb-true (c.memory.bucket round.bucket) attempt.row e) z kept)

  -- so for the root
  by_root : (round : Round) (attempt : DirectoryTry) (found : List (Option Op)) (loaded : List LoadedBucket) →
      Keeps setup c me account.used flight local (DirExchange round attempt found loaded) → AllSettled setup c →
      Calls setup c me local account (InFlight flight (DirExchange round attempt found loaded)) → (after : Flight) →
      after.number ≡ flight.number → (e : Bool) → eqb c.memory.root attempt.root ≡ e →
      (let d = cond e (grown_by setup me account.used attempt found loaded c) c in
      let used = cond e (with_directory account.used (length (made_leaves setup attempt found loaded))) account.used in
      let then = cond e (answered_by_leaf (rules_of setup) me flight (next_number setup me BucketRows account.used)
      (made_leaves setup attempt found loaded)) (after_lost_root round attempt) in
      Moves setup me c d → Keeps setup d me used after local then →
      AllSettled setup d × Calls setup d me local (record account { used = used }) (InFlight after then))
  by_root round attempt found loaded k g x after number false e m kept =
      next c m refl g (DirExchange round attempt found loaded) x.0 account.used after _ number
      (either c account.used after (eqb attempt.turn 1) (DirRoot round 2 (Some attempt.first)) (after_round round)
      (λ _. trying c account.used after (DirRoot round 2 (Some attempt.first)) refl)
      (λ _. left c account.used after round) kept)
  by_root round attempt found loaded k g x after number true e m kept =
      let many = length (made_leaves setup attempt found loaded) in
      let same : ops_of (grown_by setup me account.used attempt found loaded c) me ≡ ops_of c me =
      ap (λ (u : SeatRows). u.op_rows) (put_same c.used me (with_directory (c.used me) many)) in
      next (grown_by setup me account.used attempt found loaded c) m same g
      (DirExchange round attempt found loaded) x.0 (with_directory account.used many) after _ number
      (λ _ some. subst (λ n. IsIn setup (grown_by setup me account.used attempt found loaded c) me (n - 1)) (sym same)
      (root_exchanged round attempt found loaded k (eqb-true c.memory.root attempt.root e)
      (omega (arith, some, same))))

  -- ---- the steps

  -- the word that is found
  abbrev word : Phase → ℕ
  word phase = found_in (ask_in setup me account.used flight phase) c.memory

  -- the seat's state after the step
  abbrev state : Phase → SeatState
  state phase = state_after setup me account flight phase (word phase)

  -- what holds then
  abbrev After : Phase → Type 0
  After phase = AllSettled setup (common_after setup me account.used flight phase c)
      × Calls setup (common_after setup me account.used flight phase c) me (local_after phase c local)
      (state phase).account (state phase).stand

  -- the op of an update is announced
  announces : AllSettled setup c → Calls setup c me local account (InFlight flight Announce) →
      Moves setup me c (announced setup me flight.number flight.call c) → After Announce
  announces g x m = (settled, ((x.0.0, counted), λ e. absurd (true≢false e)))
    where
      d : Common
      d = announced setup me flight.number flight.call c

      n : ℕ
      n = ops_of c me

      more_ops : ops_of d me ≡ ops_of c me + 1
      more_ops = ap (λ (u : SeatRows). u.op_rows)
          (put_same c.used me (record (c.used me) { op_rows = (c.used me).op_rows + 1 }))

      new : (d.op_at me (ops_of c me)).number ≡ flight.number
      new = ap (λ (o : Op). o.number) (put_at_same c.op_at me (ops_of c me)
          (record { seat = me; number = flight.number; call = flight.call }))

      old : (j : ℕ) → j < ops_of c me → (d.op_at me j).number ≡ (c.op_at me j).number
      old j h = ap (λ (o : Op). o.number) (m.calls me j h).0

      counted : (j : ℕ) → j < ops_of d me → (d.op_at me j).number ≤ flight.number
      counted j lt = elim (cases_lt j (ops_of c me)) [
        | inl less ↦ omega (arith, old j less, x.0.1 j less)
        | inr end ↦ (let at : j ≡ ops_of c me = omega (arith, lt, more_ops, end) in
            omega (arith, new, ap (λ i. (d.op_at me i).number) at))
      ]

      own : Settled setup d me
      own = record {
        rises = λ i j le lt. elim (cases_lt j (ops_of c me)) [
          | inl less ↦ omega (arith, (g me h).rises i j le less, old i (omega (arith, le, less)), old j less)
          | inr end ↦ (let at : j ≡ ops_of c me = omega (arith, lt, more_ops, end) in
              omega (arith, counted i (omega (arith, le, lt)), new, ap (λ i. (d.op_at me i).number) at))
        ];
        past = λ j lt. (let less : j < ops_of c me = omega (arith, lt, more_ops) in
            is_in_up setup me c d m me j less (elim (cases_lt (j + 1) (ops_of c me)) [
              | inl before ↦ (g me h).past j before
              | inr at ↦ (let last : ops_of c me - 1 ≡ j = omega (arith, less, at) in
                  subst (IsIn setup c me) last (x.1 refl (omega (arith, less))))
            ]));
      }

      settled : AllSettled setup d
      settled p hp = elim (cases_eq p me) [
        | inl e ↦ subst (Settled setup d) (sym e) own
        | inr o ↦ settled_up setup me c d m p (ap (λ (u : SeatRows). u.op_rows) (m.used p o)) (g p hp)
      ]

  -- a step that announces nothing
  quiet : (phase : Phase) (d : Common) → Moves setup me c d → ops_of d me ≡ ops_of c me → AllSettled setup c →
      Counted c me account (InFlight flight phase) →
      (is_trying (phase_after setup me account.used flight phase (word phase)) ≡ false → In d) →
      AllSettled setup d × Calls setup d me local
      (record account { used = used_after setup account.used phase (word phase) })
      (InFlight (flight_after flight phase (word phase))
      (phase_after setup me account.used flight phase (word phase)))
  quiet phase d m same g x last = next d m same g phase x (used_after setup account.used phase (word phase))
      (flight_after flight phase (word phase)) (phase_after setup me account.used flight phase (word phase)) refl last

  -- what each step makes of it
  steps : (phase : Phase) (k : Keeps setup c me account.used flight local phase) → AllSettled setup c →
      Calls setup c me local account (InFlight flight phase) →
      Moves setup me c (common_after setup me account.used flight phase c) →
      Shared setup (common_after setup me account.used flight phase c) →
      KeepsStand setup (common_after setup me account.used flight phase c) me (state phase).account.used
      (local_after phase c local) (state phase).stand → After phase
  steps SeeDone k g x m z kept = quiet SeeDone c m refl g x.0 (λ _. x.1 refl)
  steps (StoreOp i) k g x m z kept = quiet (StoreOp i) _ m refl g x.0
      (λ _ some. is_in_up setup me c _ m me (ops_of c me - 1) (omega (arith, some)) (x.1 refl some))
  steps Announce k g x m z kept = announces g x m
  steps (FindRoot ForLookup) k g x m z kept = quiet (FindRoot ForLookup) c m refl g x.0 (λ _. x.1 refl)
  steps (FindRoot ForFirstRound) k g x m z kept =
      quiet (FindRoot ForFirstRound) _ m refl g x.0 (λ e. absurd (true≢false e))
  steps (FindRoot (ForSecondRound first)) k g x m z kept =
      quiet (FindRoot (ForSecondRound first)) c m refl g x.0 (λ e. absurd (true≢false e))
  steps (FindRoot ForLastLook) k g x m z kept = quiet (FindRoot ForLastLook) c m refl g x.0 (λ _. x.1 refl)
  steps (FindDepth aim root) k g x m z kept = quiet (FindDepth aim root) c m refl g x.0 x.1
  steps (FindEntry ForLookup root depth) k g x m z kept =
      quiet (FindEntry ForLookup root depth) c m refl g x.0 (λ _. x.1 refl)
  steps (FindEntry ForFirstRound root depth) k g x m z kept =
      quiet (FindEntry ForFirstRound root depth) c m refl g x.0 (λ e. absurd (true≢false e))
  steps (FindEntry (ForSecondRound first) root depth) k g x m z kept =
      quiet (FindEntry (ForSecondRound first) root depth) c m refl g x.0 (λ e. absurd (true≢false e))
  steps (FindEntry ForLastLook root depth) k g x m z kept =
      quiet (FindEntry ForLastLook root depth) c m refl g x.0 (λ _. x.1 refl)
  steps (LookWord root bucket) k g x m z kept = quiet (LookWord root bucket) c m refl g x.0 (λ _. x.1 refl)
  steps (LookCount row) k g x m z kept = quiet (LookCount row) c m refl g x.0 (λ _. x.1 refl)
  steps (LookItems row count words) k g x m z kept = quiet (LookItems row count words) c m refl g x.0 (λ _. x.1 refl)
  steps (TryWord round turn None) k g x m z kept =
      quiet (TryWord round turn None) _ m refl g x.0 (λ e. absurd (true≢false e))
  steps (TryWord round turn (Some first)) k g x m z kept =
      quiet (TryWord round turn (Some first)) c m refl g x.0 (λ e. absurd (true≢false e))
  steps (TryRow round turn first row words) k g x m z kept =
      let w = word (TryRow round turn first row words) in
      let now = more words w in
      let read : now ≡ take (length now) (c.words_at round.bucket local.base) =
      BucketStep.row_more setup me c account flight local h s round.bucket local.base row words k.in_round.there
      k.looks.old k.looks.row_is k.short k.words_are in
      let attempt : BucketTry = record { turn = turn; first = first; row = row; state = bucket_in_words setup now } in
      let after = flight_after flight (TryRow round turn first row words) w in
      quiet (TryRow round turn first row words) c m refl g x.0
      (either c account.used after (ltb (length now) (bucket_row_words (settings_of setup)))
      (TryRow round turn first row now) (after_row me flight round attempt)
      (λ _. trying c account.used after (TryRow round turn first row now) refl)
      (λ e. row_loaded account.used after round attempt refl k.works k.in_round k.looks.old
      (BucketStep.row_all setup me c account flight local h s round.bucket local.base now k.in_round.there
      k.looks.old read (omega (
        arith,
        width_is setup,
        ltb-false (length now) (bucket_row_words (settings_of setup)) e,
      ))))
      kept)
  steps (TryAnnouncement round attempt found) k g x m z kept =
      let w = word (TryAnnouncement round attempt found) in
      let after = flight_after flight (TryAnnouncement round attempt found) w in
      quiet (TryAnnouncement round attempt found) c m refl g x.0
      (either c account.used after (eqb w 0) (after_found setup round attempt (more found None))
      (TryOp round attempt found (w - 1) [])
      (λ _. found_more account.used after round attempt (more found None))
      (λ _. trying c account.used after (TryOp round attempt found (w - 1) []) refl) kept)
  steps (TryOp round attempt found op words) k g x m z kept =
      let w = word (TryOp round attempt found op words) in
      let now = more words w in
      let all = more found (Some (op_in_words (length found) now)) in
      let after = flight_after flight (TryOp round attempt found op words) w in
      quiet (TryOp round attempt found op words) c m refl g x.0
      (either c account.used after (ltb (length words + 1) OP_WORDS) (TryOp round attempt found op now)
      (after_found setup round attempt all)
      (λ _. trying c account.used after (TryOp round attempt found op now) refl)
      (λ _. found_more account.used after round attempt all) kept)
  steps (TryStore round attempt found i) k g x m z kept =
      quiet (TryStore round attempt found i) _ m refl g x.0
      (tries (common_after setup me account.used flight (TryStore round attempt found i) c)
      (ltb (i + 1) (bucket_row_words (settings_of setup))) (TryStore round attempt found (i + 1))
      (TryExchange round attempt found) refl refl)
  steps (TryExchange round attempt found) k g x m z kept =
      by_exchange round attempt found k g x (flight_after flight (TryExchange round attempt found)
      (word (TryExchange round attempt found))) refl (eqb (c.memory.bucket round.bucket) attempt.row) refl m z kept
  steps (DirRoot round turn None) k g x m z kept =
      quiet (DirRoot round turn None) _ m refl g x.0 (λ e. absurd (true≢false e))
  steps (DirRoot round turn (Some first)) k g x m z kept =
      quiet (DirRoot round turn (Some first)) c m refl g x.0 (λ e. absurd (true≢false e))
  steps (DirDepth round turn first root) k g x m z kept =
      let w = word (DirDepth round turn first root) in
      let after = flight_after flight (DirDepth round turn first root) w in
      quiet (DirDepth round turn first root) c m refl g x.0
      (entries_loaded account.used after round turn first root w [] kept)
  steps (DirEntries round turn first root depth words) k g x m z kept =
      let w = word (DirEntries round turn first root depth words) in
      let after = flight_after flight (DirEntries round turn first root depth words) w in
      quiet (DirEntries round turn first root depth words) c m refl g x.0
      (entries_loaded account.used after round turn first root depth (more words w) kept)
  steps (DirAnnouncement round attempt found) k g x m z kept =
      let w = word (DirAnnouncement round attempt found) in
      let after = flight_after flight (DirAnnouncement round attempt found) w in
      quiet (DirAnnouncement round attempt found) c m refl g x.0
      (either c account.used after (eqb w 0) (after_dir_found setup round attempt (more found None))
      (DirOp round attempt found (w - 1) [])
      (λ _. dir_found_more account.used after round attempt (more found None))
      (λ _. trying c account.used after (DirOp round attempt found (w - 1) []) refl) kept)
  steps (DirOp round attempt found op words) k g x m z kept =
      let w = word (DirOp round attempt found op words) in
      let now = more words w in
      let all = more found (Some (op_in_words (length found) now)) in
      let after = flight_after flight (DirOp round attempt found op words) w in
      quiet (DirOp round attempt found op words) c m refl g x.0
      (either c account.used after (ltb (length words + 1) OP_WORDS) (DirOp round attempt found op now)
      (after_dir_found setup round attempt all)
      (λ _. trying c account.used after (DirOp round attempt found op now) refl)
      (λ _. dir_found_more account.used after round attempt all) kept)
  steps (DirWord round attempt found loaded bucket) k g x m z kept =
      quiet (DirWord round attempt found loaded bucket) c m refl g x.0 (λ e. absurd (true≢false e))
  steps (DirRow round attempt found loaded bucket row words) k g x m z kept =
      let w = word (DirRow round attempt found loaded bucket row words) in
      let now = more words w in
      let all = more loaded (record { bucket = bucket; row = row; state = bucket_in_words setup now }) in
      quiet (DirRow round attempt found loaded bucket row words) c m refl g x.0
      (tries_or c (ltb (length now) (bucket_row_words (settings_of setup)))
      (DirRow round attempt found loaded bucket row now) round attempt found all
      (next_bucket (rules_of setup) attempt.directory all found) refl)
  steps (DirStore round attempt found loaded i) k g x m z kept =
      quiet (DirStore round attempt found loaded i) _ m refl g x.0
      (tries (common_after setup me account.used flight (DirStore round attempt found loaded i) c)
      (ltb (i + 1) (length (directory_puts setup me account.used attempt found loaded)))
      (DirStore round attempt found loaded (i + 1)) (DirExchange round attempt found loaded) refl refl)
  steps (DirExchange round attempt found loaded) k g x m z kept =
      by_root round attempt found loaded k g x
      (flight_after flight (DirExchange round attempt found loaded)
      (word (DirExchange round attempt found loaded))) refl (eqb c.memory.root attempt.root) refl m kept
  steps (LastWord root bucket) k g x m z kept = quiet (LastWord root bucket) c m refl g x.0 (λ _. x.1 refl)
  steps (LastRow row words) k g x m z kept = quiet (LastRow row words) c m refl g x.0 (λ _. x.1 refl)
  steps (StoreDone reply at) k g x m z kept = (
    all_up _ m refl g,
    (
      λ j lt. omega (arith, x.0.0, x.0.1 j lt, length_push account.records (record_of me flight reply at)),
      λ some. is_in_up setup me c _ m me (ops_of c me - 1) (omega (arith, some)) (x.1 refl some),
    ),
  )
  steps phase k g x m z kept = absurd k

-- ---- the layer

-- the layer
pub calls_layer : (setup : Setup) → Layer setup (AllSettled setup) (Calls setup)
calls_layer setup = record {
  others = λ me c d m s g q n h local account stand k x. (let same : ops_of d q ≡ ops_of c q = ap
      (λ (u : SeatRows). u.op_rows) (m.used q n) in
      (counted_up setup me c d m q same account stand x.0, last_in_up setup me c d m q same stand x.1));
  begins = λ c me packet call local account x. ((refl, λ j lt. omega (arith, x.0 j lt)), λ _. x.1);
  steps = λ c me account flight local h s phase k g x. (let z = goes bucket_laws changes_from_laws setup me c account
      flight local h s phase k in
      steps setup me c account flight local h s phase k g x z.moves z.shared z.keeps);
}

-- what it says of a world
abbrev pub Settling : Setup → World → Common → (ℕ → Local) → Unit {0} → Type 0
Settling setup = Holding setup (AllSettled setup) (Calls setup)

-- and its steps
pub settling : (setup : Setup) → Steps (Unit {0}) setup (Settling setup)
settling setup = layer_steps setup (AllSettled setup) (Calls setup) (calls_layer setup)

-- it holds in every run
pub settled_in : (setup : Setup) (events : List Event) → IsRun setup events →
    HoldsWith (Unit {0}) setup (Settling setup) (world_after setup events)
settled_in setup events run =
    let f = opening_fresh setup run.opened in
    let none : (p : ℕ) → ops_of f.holds.common p ≡ 0 = λ p. ap (λ (u : SeatRows). u.op_rows) (f.none p) in
    run_with (Unit {0}) bucket_laws changes_from_laws setup (Settling setup) (settling setup) events
    (opening_world setup)
    (record {
      common = f.holds.common;
      locals = f.holds.locals;
      follows = f.holds.follows;
      extra = tt;
      holds = (
        λ p h. record {
          rises = λ i j le lt. absurd (omega (arith, lt, none p));
          past = λ j lt. absurd (omega (arith, lt, none p));
        },
        λ p h. subst (λ (x : SeatState). Calls setup f.holds.common p (f.holds.locals p) x.account x.stand)
            (sym (get_or-replicate (seats_of setup) p fresh_seat fresh_seat h))
            (λ j lt. absurd (omega (arith, lt, none p)), λ some. absurd (omega (arith, some, none p))),
      );
    }) run.follow
