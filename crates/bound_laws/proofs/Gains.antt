-- Which exchanges of bucket words a seat has won: those in which it applied its own op, and those in which it froze
-- the bucket without it. A bucket of the second kind is replaced by the seat's own change, or by another's before the
-- seat goes on.
use Rattle.std.proofs.Common.{◌≡◌, ◌≢◌, ℕ, suc, ◌+◌, ◌-◌, ◌<◌, ◌≤◌, ◌⊎◌, Bool, true, false, cond, eqb, List, [], ◌∷◌, length, get_or, Option, Some, None, inl, inr, refl, sym, ap, ◌∙◌, subst, arith}
use Rattle.std.proofs.lemmas.Bool.{cases_lt, eqb-true, cond_both, eqb-false}
use Rattle.step_counts.specs.declared.rows.SeatRows.{SeatRows}
use Rattle.plain_map.specs.declared.full.FullKind.TheVariants.{BucketRows, BucketWords}
use Rattle.plain_map.specs.declared.keys.Key.{Key}
use Rattle.plain_map.specs.Calls.{key_in, is_update}
use Rattle.table_model.specs.Directories.{bucket_of}
use Rattle.bucket_states.specs.declared.ops.Op.{Op}
use Rattle.bucket_states.specs.States.{BucketState}
use Rattle.bucket_states.specs.Laws.{applied_of}
use Rattle.table_model.specs.declared.rounds.Aim.TheVariants.{ForSecondRound, ForLastLook}
use Rattle.table_model.specs.declared.rounds.Round.{Round}
use Rattle.table_model.specs.Setup.{Setup, seats_of, rules_of, next_number}
use Rattle.table_model.specs.Leaves.{NewLeaf}
use Rattle.table_model.specs.DirectoryChange.{LoadedBucket}
use Rattle.table_model.specs.Phases.{BucketTry, DirectoryTry, Phase, Announce, FindRoot, TryWord, TryExchange, DirRoot, DirDepth, DirEntries, DirAnnouncement, DirOp, DirWord, DirRow, DirStore, DirExchange, StoreDone, Stuck}
use Rattle.table_model.specs.SeatStates.{Account, Flight, Stand, Idle, InFlight, SeatState, record_of}
use Rattle.table_model.specs.Stores.{made_bucket, made_leaves}
use Rattle.table_model.specs.Asks.{ask_in}
use Rattle.table_model.specs.Goes.{state_after, with_directory, after_exchange, answered_by, answered_by_leaf, phase_after, after_lost_root, flight_after, is_applied}
use Rattle.table_model.specs.Promises.{updates_in}
use Rattle.run_invariant.proofs.Change.{no_leaf, origin}
use Rattle.run_invariant.proofs.Events.{local_after, published}
use Rattle.run_invariant.proofs.Invariant.{Common, Local, Shared, Descends, Keeps, KeepsStand, InRound, Froze, Names, bits, last, lead, word_no}
use Rattle.run_laws.proofs.Changes.{changes_from_laws}
use Rattle.run_laws.proofs.Opened.{bucket_laws}
use Rattle.run_laws.proofs.Publish
use Rattle.run_laws.proofs.Induction.{common_after, found_in}
use Rattle.run_laws.proofs.Won
use Rattle.run_laws.proofs.Won.{grown_by}
use Rattle.list_laws.proofs.Lists.{In, Once}
use Rattle.bound_laws.proofs.SeatLayers.{Step, flying}
use Rattle.bound_laws.proofs.Stages.{Kind, Roots, Dirs, Stops, kind, roots_is, LeadsOn, LeadsEnd, leads, dirs_leads, leaf_next, lost_root_next, answer_next, aim_after}
use Rattle.bound_laws.proofs.RootWon.{own_number, is_among_new}
use Rattle.bound_laws.proofs.Family.{Out, stood_since, lead_out}
use Rattle.bound_laws.proofs.Spending.{OwnWords, updating, dirs_of, turned, allowed, end_dirs, updates_more}

-- how often its exchange of a bucket word applied its op, and the buckets that it froze without it and did not
-- replace itself
pub record Gain : Type 0 where
  pub applied : ℕ
  pub froze : List ℕ

-- a bucket that it froze: none of its own words is that of a bucket that comes from there
pub record WasFrozen (setup : Setup) (c : Common) (me many b : ℕ) : Type 0 where
  pub there : c.named b ≡ true
  pub frozen : (last c b).frozen ≡ true
  pub apart : (j : ℕ) → j < many → c.from (word_no setup me j) ≢ b

-- it is out of use, unless the seat is in the directory tries of its round
abbrev pub OpenIn : Kind → ℕ → Type 0
OpenIn (Dirs round) b = b ≡ round.bucket
OpenIn Stops b = Unit {0}
OpenIn part b = ⊥

-- in a part of a call: how often it won, and which of the buckets that it froze are out of use
abbrev pub GainsIn : Common → Account → Gain → (bool_update : Bool) → Kind → Type 0
GainsIn c account g update part =
    (g.applied + account.used.directory_rows ≤ updates_in account + dirs_of update part)
    × ((b : ℕ) → In b g.froze → Out c b ⊎ OpenIn part b)

-- and by its stand
abbrev pub GainsStand : Common → Account → Gain → Stand → Type 0
GainsStand c account g Idle =
    (g.applied + account.used.directory_rows ≤ updates_in account) × ((b : ℕ) → In b g.froze → Out c b)
GainsStand c account g (InFlight flight phase) = GainsIn c account g (is_update flight.call) (kind phase)

-- each bucket row is one in which it applied its op, one of a bucket that it froze, or one of a directory change of
-- its own
pub record Gains (setup : Setup) (c : Common) (me : ℕ) (local : Local) (g : Gain) (state : SeatState) : Type 0 where
  pub rows : state.account.used.bucket_rows ≤ g.applied + state.account.used.directory_rows + length g.froze
      + state.account.used.bucket_words
  pub each : (b : ℕ) → In b g.froze → WasFrozen setup c me state.account.used.bucket_words b
  pub once : Once g.froze
  pub stand : GainsStand c state.account g state.stand

-- ---- what stays

module _ (setup : Setup) (me : ℕ) (c d : Common) (z : Step setup me c d) where
  -- a bucket that is out of use stays so
  pub out_moves : (b : ℕ) → c.named b ≡ true → Out c b → Out d b
  out_moves b n out at =
      let old : d.born b ≤ c.dir_top = omega (arith, (z.recalls.origins b n).0, z.before.descent.born_within b n) in
      let stood = stood_since setup d z.after.shared z.after.descent d.dir_top c.dir_top b z.moves.dir_up (omega arith)
      old at in
      out (subst (λ x. Names x b) (z.moves.dirs c.dir_top (omega arith)).1 stood)

  -- a frozen bucket stays as it is
  last_moves : (b : ℕ) → c.named b ≡ true → (last c b).frozen ≡ true → last d b ≡ last c b
  last_moves b n f = ap (d.state_at b) (z.moves.frozen b n f) ∙ (z.moves.rows b (c.top b) n (omega arith)).2

  -- and so does what is known of it
  pub froze_moves : (seat many b : ℕ) → OwnWords setup c seat many → WasFrozen setup c seat many b →
      WasFrozen setup d seat many b
  froze_moves seat many b words k = record {
    there = (z.moves.named_up b k.there).0;
    frozen = ap (λ (x : BucketState). x.frozen) (last_moves b k.there k.frozen) ∙ k.frozen;
    apart = λ j lt e. k.apart j lt (sym (z.recalls.origins (word_no setup seat j) (words j lt).0).1 ∙ e);
  }

-- ---- a bucket less

abbrev without : ℕ → List ℕ → List ℕ
without b [] = []
without b (x ∷ xs) = cond (eqb x b) xs (x ∷ without b xs)

-- what is left was there, and is not that bucket; none comes twice; and at most one is gone
without_in : (b : ℕ) (xs : List ℕ) (y : ℕ) → In y (without b xs) → In y xs
without_in b [] y i = i
without_in b (x ∷ xs) y i = go (eqb x b) i (without_in b xs y)
  where
    go : (t : Bool) → In y (cond t xs (x ∷ without b xs)) → (In y (without b xs) → In y xs) → In y (x ∷ xs)
    go true i rest = inr i
    go false (inl e) rest = inl e
    go false (inr i) rest = inr (rest i)

without_not : (b : ℕ) (xs : List ℕ) (y : ℕ) → Once xs → In y (without b xs) → y ≢ b
without_not b [] y o i = elim i [ ]
without_not b (x ∷ xs) y o i = go (eqb x b) refl i (without_not b xs y o.1)
  where
    go : (t : Bool) → eqb x b ≡ t → In y (cond t xs (x ∷ without b xs)) → (In y (without b xs) → y ≢ b) → y ≢ b
    go true e i rest = λ same. o.0 (subst (λ z. In z xs) (same ∙ sym (eqb-true x b e)) i)
    go false e (inl same) rest = λ is. eqb-false x b e (sym same ∙ is)
    go false e (inr i) rest = rest i

without_once : (b : ℕ) (xs : List ℕ) → Once xs → Once (without b xs)
without_once b [] o = tt
without_once b (x ∷ xs) o = go (eqb x b) (without_once b xs o.1)
  where
    go : (t : Bool) → Once (without b xs) → Once (cond t xs (x ∷ without b xs))
    go true rest = o.1
    go false rest = (λ i. o.0 (without_in b xs x i), rest)

without_long : (b : ℕ) (xs : List ℕ) → length xs ≤ length (without b xs) + 1
without_long b [] = omega arith
without_long b (x ∷ xs) = go (eqb x b) (without_long b xs)
  where
    go : (t : Bool) → length xs ≤ length (without b xs) + 1 → suc (length xs) ≤ length (cond t xs (x ∷ without b xs))
        + 1
    go true rest = omega arith
    go false rest = omega (arith, rest)

-- ---- a step of the seat itself

-- the directories and the bucket rows are as they were
pub record Alike (c d : Common) : Type 0 where
  pub dir_top : d.dir_top ≡ c.dir_top
  pub dir_at : d.dir_at ≡ c.dir_at
  pub first_dir : d.first_dir ≡ c.first_dir
  pub top : d.top ≡ c.top
  pub state_at : d.state_at ≡ c.state_at

module _ (setup : Setup) (me : ℕ) (c : Common) (account : Account) (flight : Flight) (local : Local) where
  abbrev up : Bool
  up = is_update flight.call

  abbrev word : Phase → ℕ
  word phase = found_in (ask_in setup me account.used flight phase) c.memory

  abbrev then : Phase → Common
  then phase = common_after setup me account.used flight phase c

  abbrev next : Phase → Phase
  next phase = phase_after setup me account.used flight phase (word phase)

  abbrev Was : Gain → Phase → Type 0
  Was g phase = Gains setup c me local g (flying account flight phase)

  -- where it has published nothing
  stays : (g : Gain) (d : Common) (z : Step setup me c d) (new : Local) (f : Flight) (from to : Phase) →
      OwnWords setup c me account.used.bucket_words → Was g from →
      dirs_of up (kind from) ≤ dirs_of up (kind to) → ((b : ℕ) → In b g.froze → Out d b ⊎ OpenIn (kind to) b) →
      f.call ≡ flight.call → Gains setup d me new g (flying account f to)
  stays g d z new f from to words q spent out same = record {
    rows = q.rows;
    each = λ b i. froze_moves setup me c d z me account.used.bucket_words b words (q.each b i);
    once = q.once;
    stand = subst (λ x. GainsIn d account g (is_update x) (kind to)) (sym same) (omega (arith, q.stand.0, spent), out);
  }

  -- from a part in which all that it froze is out of use
  out_stays : (g : Gain) (d : Common) (z : Step setup me c d) (from to : Phase) → Was g from →
      ((b : ℕ) → OpenIn (kind from) b → ⊥) → (b : ℕ) → In b g.froze → Out d b ⊎ OpenIn (kind to) b
  out_stays g d z from to q none b i = elim (q.stand.1 b i) [
    | inl out ↦ inl (out_moves setup me c d z b (q.each b i).there out)
    | inr open_ ↦ absurd (none b open_)
  ]

  -- once the round is left its bucket is out of use
  module _ (d : Common) (z : Step setup me c d) (same : Alike c d) (round : Round)
      (k : InRound setup c me flight.number flight.call local.dir round)
      (f : Froze setup c me flight.number round.bucket) where
    -- a bucket that has the seat's op is another
    number_low : (b : ℕ) → flight.number ≤ applied_of (last d b) me → b ≢ round.bucket
    number_low b up e =
        let is : last d b ≡ last c round.bucket =
        ap (last d) e ∙ last_moves setup me c d z round.bucket k.there f.frozen in
        absurd (omega (arith, up, ap (λ (x : BucketState). applied_of x me) is, f.lacks))

    -- the directories lead as they did
    lead_same : (v : ℕ) → lead setup d v (key_in flight.call) ≡ lead setup c v (key_in flight.call)
    lead_same v = ap (λ g. bucket_of (rules_of setup) (g v) (key_in flight.call)) same.dir_at

    -- what the seat knows before the next find says that the directory leads its key elsewhere
    round_out : (fl : Flight) (new : Local) (used : SeatRows) → fl.number ≡ flight.number → fl.call ≡ flight.call →
        Keeps setup d me used fl new (FindRoot (aim_after round)) → Out d round.bucket
    round_out fl new used n e keeps =
        lead_out setup d z.after.shared z.after.descent round.bucket (key_in flight.call) for_it
        (other (eqb round.turn 1) refl keeps)
      where
        for_it : bits setup (d.deep round.bucket) (key_in flight.call) ≡ d.pre round.bucket
        for_it = (let u = z.moves.named_up round.bucket k.there in ap (λ n. bits setup n (key_in flight.call)) u.2
            ∙ k.for_it ∙ sym u.1)

        low : (aim_key : Key) → aim_key ≡ key_in flight.call →
            fl.number ≤ applied_of (last d (lead setup d d.dir_top aim_key)) me →
            lead setup d d.dir_top (key_in flight.call) ≢ round.bucket
        low key same_key up = number_low (lead setup d d.dir_top (key_in flight.call))
            (subst (λ x. flight.number ≤ applied_of (last d (lead setup d d.dir_top x)) me) same_key
            (omega (arith, up, n)))

        other : (b : Bool) → eqb round.turn 1 ≡ b →
            Keeps setup d me used fl new (FindRoot (cond b (ForSecondRound round.first) ForLastLook)) →
            lead setup d d.dir_top (key_in flight.call) ≢ round.bucket
        other true t keeps = elim keeps.knows [
          | inl has ↦ low (key_in fl.call) (ap key_in e) has
          | inr differ ↦ λ x. differ (ap (λ y. lead setup d d.dir_top (key_in y)) e ∙ x ∙ sym k.led
              ∙ ap (λ v. lead setup c v (key_in flight.call)) (k.same (eqb-true round.turn 1 t))
              ∙ sym (lead_same (c.first_dir me)) ∙ ap (λ g. lead setup d (g me) (key_in flight.call))
              (sym same.first_dir) ∙ ap (λ y. lead setup d (d.first_dir me) (key_in y)) (sym e))
        ]
        other false t keeps = low (key_in fl.call) (ap key_in e) keeps.knows

  module _ (h : me < seats_of setup) where
    -- a directory try that is not won
    dirs_own : (g : Gain) (d : Common) (z : Step setup me c d) (same : Alike c d) (new : Local) (f : Flight)
        (from to : Phase) (round : Round) → kind from ≡ Dirs round →
        InRound setup c me flight.number flight.call local.dir round → Froze setup c me flight.number round.bucket →
        OwnWords setup c me account.used.bucket_words → Was g from →
        LeadsOn round (kind to) → f.call ≡ flight.call → f.number ≡ flight.number →
        Keeps setup d me account.used f new to → Gains setup d me new g (flying account f to)
    dirs_own g d z same new f from to round is k froze words q l call number keeps =
        stays g d z new f from to words q (spent (kind to) l) out call
      where
        spent : (part : Kind) → LeadsOn round part → dirs_of up (kind from) ≤ dirs_of up part
        spent part l = subst (λ x. dirs_of up x ≤ dirs_of up part) (sym is) (omega arith)

        mine : (b : ℕ) → b ≡ round.bucket → (part : Kind) → kind to ≡ part → LeadsOn round part → Out d b
            ⊎ OpenIn part b
        mine b e (Dirs other) p l = inr (e ∙ sym (ap (λ (r : Round). r.bucket) l))
        mine b e (Roots aim) p l =
            let at : to ≡ FindRoot (aim_after round) = roots_is to aim p ∙ ap FindRoot l in
            inl (subst (Out d) (sym e) (round_out d z same round k froze f new account.used number call
            (subst (Keeps setup d me account.used f new) at keeps)))
        mine b e Stops p l = inr tt
        mine b e part p l = absurd l

        out : (b : ℕ) → In b g.froze → Out d b ⊎ OpenIn (kind to) b
        out b i = elim (q.stand.1 b i) [
          | inl away ↦ inl (out_moves setup me c d z b (q.each b i).there away)
          | inr open_ ↦ mine b (subst (λ x. OpenIn x b) is open_) (kind to) refl l
        ]

    -- the bucket word is exchanged: the op is applied, or the bucket is frozen
    module _ (s : Shared setup c) (t : Descends setup c) (round : Round) (attempt : BucketTry)
        (found : List (Option Op)) (k : Keeps setup c me account.used flight local (TryExchange round attempt found))
        (same : c.memory.bucket round.bucket ≡ attempt.row)
        (z : Step setup me c (published setup me round.bucket attempt found c))
        (words : OwnWords setup c me account.used.bucket_words) (u : up ≡ true) (g : Gain)
        (q : Was g (TryExchange round attempt found)) where
      abbrev d : Common
      d = published setup me round.bucket attempt found c

      abbrev made : BucketState
      made = made_bucket setup attempt found

      abbrev gone : Account
      gone = record account { used = record account.used { bucket_rows = account.used.bucket_rows + 1 } }

      abbrev f : Flight
      f = record flight { steps = flight.steps + 1 }

      abbrev Result : Phase → Type 0
      Result to = Keeps setup d me gone.used f local to → (more : Gain) × Gains setup d me local more (flying gone f to)

      away : (part : Kind) (b : ℕ) → In b g.froze → Out d b ⊎ OpenIn part b
      away part b i = elim (q.stand.1 b i) [
        | inl out ↦ inl (out_moves setup me c d z b (q.each b i).there out)
        | inr open_ ↦ absurd open_
      ]

      applied_own : (to : Phase) → LeadsEnd (kind to) → Result to
      applied_own to l keeps = (
        record { applied = g.applied + 1; froze = g.froze },
        record {
          rows = omega (arith, q.rows);
          each = λ b i. froze_moves setup me c d z me account.used.bucket_words b words (q.each b i);
          once = q.once;
          stand = ((let one = end_dirs up (kind to) u l in omega (arith, q.stand.0, one)), away (kind to));
        },
      )

      was_open : (last c round.bucket).frozen ≡ false
      was_open = Publish.was_open bucket_laws setup me c account flight local h s round attempt found k same

      clash : {b : Bool} → b ≡ true → b ≡ false → ⊥
      clash e f = absurd (cut (sym e ∙ f))
        where
          cut : true ≡ false → ⊥
          cut x = cc

      froze_own : made.frozen ≡ true → Result (DirRoot round 1 None)
      froze_own frozen keeps = (
        record { applied = g.applied; froze = round.bucket ∷ g.froze },
        record {
          rows = omega (arith, q.rows);
          each = each;
          once = (λ i. clash (q.each round.bucket i).frozen was_open, q.once);
          stand = (q.stand.0, out);
        },
      )
        where
          new : WasFrozen setup d me account.used.bucket_words round.bucket
          new = record {
            there = (z.moves.named_up round.bucket k.in_round.there).0;
            frozen = ap (λ (x : BucketState). x.frozen) (Publish.last_now bucket_laws setup me c account flight local h
                s round attempt found k same) ∙ frozen;
            apart = λ j lt e.
                let w = words j lt in
                let v = c.born (word_no setup me j) - 1 in
                let comes = t.comes (word_no setup me j) v w.0 (omega (arith, w.1)) in
                clash (ap (λ x. (last c x).frozen) (sym e) ∙ comes.frozen) was_open;
          }

          each : (b : ℕ) → In b (round.bucket ∷ g.froze) → WasFrozen setup d me account.used.bucket_words b
          each b (inl e) = subst (WasFrozen setup d me account.used.bucket_words) (sym e) new
          each b (inr i) = froze_moves setup me c d z me account.used.bucket_words b words (q.each b i)

          out : (b : ℕ) → In b (round.bucket ∷ g.froze) → Out d b ⊎ (b ≡ round.bucket)
          out b (inl e) = inr e
          out b (inr i) = away (Dirs round) b i

      pub exchange_own : Result (after_exchange me flight round made (next_number setup me BucketRows account.used))
      exchange_own =
          let row = next_number setup me BucketRows account.used in
          cond_both (is_applied me flight made) (answered_by me made row) _ Result
          (λ e. applied_own (answered_by me made row) (answer_next me made row))
          (λ e. cond_both made.frozen (DirRoot round 1 None) Stuck Result (λ x. froze_own x) (λ x k. absurd k))

    -- the root is exchanged
    module _ (s : Shared setup c) (round : Round) (attempt : DirectoryTry) (found : List (Option Op))
        (loaded : List LoadedBucket) (k : Keeps setup c me account.used flight local
        (DirExchange round attempt found loaded)) (same : c.memory.root ≡ attempt.root)
        (z : Step setup me c (grown_by setup me account.used attempt found loaded c))
        (words : OwnWords setup c me account.used.bucket_words) (u : up ≡ true) (g : Gain)
        (q : Was g (DirExchange round attempt found loaded)) where
      abbrev grown : Common
      grown = grown_by setup me account.used attempt found loaded c

      abbrev more_leaves : List NewLeaf
      more_leaves = made_leaves setup attempt found loaded

      abbrev first : ℕ
      first = next_number setup me BucketWords account.used

      abbrev spent_account : Account
      spent_account = record account { used = with_directory account.used (length more_leaves) }

      -- what it froze, but for the bucket of this round, is out of use
      left : (b : ℕ) → In b (without round.bucket g.froze) → Out c b
      left b i = elim (q.stand.1 b (without_in round.bucket g.froze b i)) [
        | inl out ↦ out
        | inr open_ ↦ absurd (without_not round.bucket g.froze b q.once i open_)
      ]

      new_from : (i : ℕ) → i < length more_leaves → grown.from (first + i) ≡ origin (get_or more_leaves i no_leaf)
      new_from i lt =
          let index : first + i - first ≡ i = omega arith in
          ap (λ b. cond b (origin (get_or more_leaves (first + i - first) no_leaf)) (c.from (first + i)))
          (is_among_new setup me c account flight local h s round attempt found loaded k same i lt)
          ∙ ap (λ n. origin (get_or more_leaves n no_leaf)) index

      apart_now : (b : ℕ) → In b (without round.bucket g.froze) → (j : ℕ) →
          j < account.used.bucket_words + length more_leaves → grown.from (word_no setup me j) ≢ b
      apart_now b i j lt e = elim (cases_lt j account.used.bucket_words) [
        | inl old ↦ (froze_moves setup me c grown z me account.used.bucket_words b words
            (q.each b (without_in round.bucket g.froze b i))).apart j old e
        | inr new ↦
            let n = j - account.used.bucket_words in
            let few : n < length more_leaves = omega (arith, lt, new) in
            let at : word_no setup me j ≡ first + n = ap (word_no setup me) (omega (arith, new))
            ∙ own_number setup me c account flight local h s round attempt found loaded k same n in
            let comes = (Won.change changes_from_laws setup me c account flight local h s round attempt found loaded k
            same).comes n few in
            left b i (subst (Names (c.dir_at c.dir_top)) (sym (new_from n few) ∙ ap grown.from (sym at) ∙ e)
            comes.stood)
      ]

      pub root_own : (to : Phase) → LeadsEnd (kind to) → (more : Gain)
          × Gains setup grown me local more (flying spent_account (record flight { steps = flight.steps + 1 }) to)
      root_own to l = (
        record { applied = g.applied; froze = without round.bucket g.froze },
        record {
          rows = omega (arith, q.rows, without_long round.bucket g.froze);
          each = λ b i. (let old = froze_moves setup me c grown z me account.used.bucket_words b words
              (q.each b (without_in round.bucket g.froze b i)) in
              record { there = old.there; frozen = old.frozen; apart = apart_now b i });
          once = without_once round.bucket g.froze q.once;
          stand = (
            (let one = end_dirs up (kind to) u l in omega (arith, q.stand.0, one)),
            λ b i. inl (out_moves setup me c grown z b (q.each b (without_in round.bucket g.froze b i)).there
                (left b i)),
          );
        },
      )

    -- ---- all steps

    abbrev Now : Gain → Phase → Type 0
    Now g phase = Gains setup (then phase) me (local_after phase c local) g
        (state_after setup me account flight phase (word phase))

    abbrev Next : Phase → Type 0
    Next phase = KeepsStand setup (then phase) me (state_after setup me account flight phase (word phase)).account.used
        (local_after phase c local) (state_after setup me account flight phase (word phase)).stand

    module _ (s : Shared setup c) (t : Descends setup c) (words : OwnWords setup c me account.used.bucket_words)
        (g : Gain) where
      own_exchange : (round : Round) (attempt : BucketTry) (found : List (Option Op)) (e : Bool) →
          eqb (c.memory.bucket round.bucket) attempt.row ≡ e → Keeps setup c me account.used flight local
          (TryExchange round attempt found) →
          (z : Step setup me c (cond e (published setup me round.bucket attempt found c) c)) → up ≡ true →
          Was g (TryExchange round attempt found) →
          Keeps setup (cond e (published setup me round.bucket attempt found c) c) me
          (cond e (record account.used { bucket_rows = account.used.bucket_rows + 1 }) account.used)
          (record flight { steps = flight.steps + 1 }) local
          (cond e (after_exchange me flight round (made_bucket setup attempt found)
          (next_number setup me BucketRows account.used)) (TryWord round (attempt.turn + 1) (Some attempt.first))) →
          (more : Gain) × Gains setup (cond e (published setup me round.bucket attempt found c) c) me local more
          (record {
            account = record account {
              used =
                  cond e (record account.used { bucket_rows = account.used.bucket_rows + 1 }) account.used;
            };
            stand = InFlight (record flight { steps = flight.steps + 1 })
                (cond e (after_exchange me flight round (made_bucket setup attempt found)
                (next_number setup me BucketRows account.used))
                (TryWord round (attempt.turn + 1) (Some attempt.first)));
          })
      own_exchange round attempt found true e k z u q keeps =
          exchange_own s t round attempt found k (eqb-true (c.memory.bucket round.bucket) attempt.row e) z words u g q
          keeps
      own_exchange round attempt found false e k z u q keeps =
          (g, record { rows = q.rows; each = q.each; once = q.once; stand = q.stand })

      own_root : (round : Round) (attempt : DirectoryTry) (found : List (Option Op)) (loaded : List LoadedBucket)
          (e : Bool) → eqb c.memory.root attempt.root ≡ e → Keeps setup c me account.used flight local
          (DirExchange round attempt found loaded) →
          (z : Step setup me c (cond e (grown_by setup me account.used attempt found loaded c) c)) → up ≡ true →
          Was g (DirExchange round attempt found loaded) →
          Keeps setup (cond e (grown_by setup me account.used attempt found loaded c) c) me
          (cond e (with_directory account.used (length (made_leaves setup attempt found loaded))) account.used)
          (record flight { steps = flight.steps + 1 }) local
          (cond e (answered_by_leaf (rules_of setup) me flight (next_number setup me BucketRows account.used)
          (made_leaves setup attempt found loaded)) (after_lost_root round attempt)) →
          (more : Gain) × Gains setup (cond e (grown_by setup me account.used attempt found loaded c) c) me local more
          (record {
            account = record account {
              used =
                  cond e (with_directory account.used (length (made_leaves setup attempt found loaded))) account.used;
            };
            stand = InFlight (record flight { steps = flight.steps + 1 })
                (cond e (answered_by_leaf (rules_of setup) me flight (next_number setup me BucketRows account.used)
                (made_leaves setup attempt found loaded)) (after_lost_root round attempt));
          })
      own_root round attempt found loaded true e k z u q keeps =
          let row = next_number setup me BucketRows account.used in
          root_own s round attempt found loaded k (eqb-true c.memory.root attempt.root e) z words u g q
          (answered_by_leaf (rules_of setup) me flight row (made_leaves setup attempt found loaded))
          (leaf_next setup me account.used flight row (made_leaves setup attempt found loaded))
      own_root round attempt found loaded false e k z u q keeps = (
        g,
        dirs_own g c z (record { dir_top = refl; dir_at = refl; first_dir = refl; top = refl; state_at = refl }) local
            (record flight { steps = flight.steps + 1 })
            (DirExchange round attempt found loaded) (after_lost_root round attempt) round refl k.in_round k.froze words
            q (lost_root_next setup me account.used flight round attempt) refl refl keeps,
      )

      -- the steps of a directory try
      from_dirs : (from : Phase) (round : Round) → kind from ≡ Dirs round → (z : Step setup me c (then from)) →
          Alike c (then from) → InRound setup c me flight.number flight.call local.dir round →
          Froze setup c me flight.number round.bucket → Was g from →
          LeadsOn round (kind (next from)) →
          Keeps setup (then from) me account.used (flight_after flight from (word from)) (local_after from c local)
          (next from) →
          (more : Gain) × Gains setup (then from) me (local_after from c local) more
          (flying account (flight_after flight from (word from)) (next from))
      from_dirs from round is z same k froze q l keeps = (
        g,
        dirs_own g (then from) z same (local_after from c local) (flight_after flight from (word from)) from
            (next from) round is k froze words q l refl refl keeps,
      )

      pub own : (phase : Phase) → Keeps setup c me account.used flight local phase → Step setup me c (then phase) →
          (updating (kind phase) ≡ true → up ≡ true) → Was g phase → Next phase → (more : Gain) × Now more phase
      own Announce k z u q keeps = (
        g,
        record {
          rows = q.rows;
          each = λ b i. froze_moves setup me c (then Announce) z me account.used.bucket_words b words (q.each b i);
          once = q.once;
          stand = (q.stand.0, out_stays g (then Announce) z Announce (next Announce) q (λ b x. x));
        },
      )
      own (TryExchange round attempt found) k z u q keeps =
          own_exchange round attempt found (eqb (c.memory.bucket round.bucket) attempt.row) refl k z (u refl) q keeps
      own (DirExchange round attempt found loaded) k z u q keeps =
          own_root round attempt found loaded (eqb c.memory.root attempt.root) refl k z (u refl) q keeps
      own (DirRoot round turn None) k z u q keeps =
          from_dirs (DirRoot round turn None) round refl z (record {
            dir_top = refl;
            dir_at = refl;
            first_dir = refl;
            top = refl;
            state_at = refl;
          }) k.in_round k.froze q
          (dirs_leads setup me account.used flight (DirRoot round turn None) (word (DirRoot round turn None))) keeps
      own (DirRoot round turn (Some first)) k z u q keeps = from_dirs (DirRoot round turn (Some first)) round refl z
          (record { dir_top = refl; dir_at = refl; first_dir = refl; top = refl; state_at = refl }) k.in_round k.froze q
          (dirs_leads setup me account.used flight (DirRoot round turn (Some first))
          (word (DirRoot round turn (Some first)))) keeps
      own (DirDepth round turn first root) k z u q keeps = from_dirs (DirDepth round turn first root) round refl z
          (record { dir_top = refl; dir_at = refl; first_dir = refl; top = refl; state_at = refl }) k.in_round k.froze q
          (dirs_leads setup me account.used flight (DirDepth round turn first root)
          (word (DirDepth round turn first root))) keeps
      own (DirEntries round turn first root depth ws) k z u q keeps =
          from_dirs (DirEntries round turn first root depth ws) round refl z
          (record { dir_top = refl; dir_at = refl; first_dir = refl; top = refl; state_at = refl }) k.in_round k.froze q
          (dirs_leads setup me account.used flight (DirEntries round turn first root depth ws)
          (word (DirEntries round turn first root depth ws))) keeps
      own (DirAnnouncement round attempt found) k z u q keeps = from_dirs (DirAnnouncement round attempt found) round
          refl z (record { dir_top = refl; dir_at = refl; first_dir = refl; top = refl; state_at = refl }) k.in_round
          k.froze q (dirs_leads setup me account.used flight (DirAnnouncement round attempt found)
          (word (DirAnnouncement round attempt found))) keeps
      own (DirOp round attempt found op ws) k z u q keeps = from_dirs (DirOp round attempt found op ws) round refl z
          (record { dir_top = refl; dir_at = refl; first_dir = refl; top = refl; state_at = refl }) k.in_round k.froze q
          (dirs_leads setup me account.used flight (DirOp round attempt found op ws)
          (word (DirOp round attempt found op ws))) keeps
      own (DirWord round attempt found loaded bucket) k z u q keeps =
          from_dirs (DirWord round attempt found loaded bucket) round refl z
          (record { dir_top = refl; dir_at = refl; first_dir = refl; top = refl; state_at = refl }) k.in_round k.froze q
          (dirs_leads setup me account.used flight (DirWord round attempt found loaded bucket)
          (word (DirWord round attempt found loaded bucket))) keeps
      own (DirRow round attempt found loaded bucket row ws) k z u q keeps =
          from_dirs (DirRow round attempt found loaded bucket row ws) round refl z
          (record { dir_top = refl; dir_at = refl; first_dir = refl; top = refl; state_at = refl }) k.in_round k.froze q
          (dirs_leads setup me account.used flight (DirRow round attempt found loaded bucket row ws)
          (word (DirRow round attempt found loaded bucket row ws))) keeps
      own (DirStore round attempt found loaded stored) k z u q keeps =
          from_dirs (DirStore round attempt found loaded stored) round refl z
          (record { dir_top = refl; dir_at = refl; first_dir = refl; top = refl; state_at = refl }) k.in_round k.froze q
          (dirs_leads setup me account.used flight (DirStore round attempt found loaded stored)
          (word (DirStore round attempt found loaded stored))) keeps
      own (StoreDone reply place) k z u q keeps =
          let more = updates_more account.records (record_of me flight reply place) in (
            g,
            record {
              rows = q.rows;
              each = λ b i. froze_moves setup me c (then (StoreDone reply place)) z me account.used.bucket_words b words
                  (q.each b i);
              once = q.once;
              stand = (
                omega (arith, q.stand.0, more),
                λ b i. elim (q.stand.1 b i) [
                  | inl out ↦ out_moves setup me c (then (StoreDone reply place)) z b
                      (q.each b i).there out
                  | inr open_ ↦ absurd open_
                ],
              );
            },
          )
      own Stuck k z u q keeps = absurd k
      own phase k z u q keeps =
          let spent = (allowed flight up (kind phase) (kind (next phase)) u
          (turned setup me c account.used flight local phase k)
          (leads setup me account.used flight phase (word phase) (λ e. cc)) refl).3 in (
            g,
            stays g (then phase) z (local_after phase c local) (flight_after flight phase (word phase)) phase
                (next phase) words q spent (out_stays g (then phase) z phase (next phase) q (λ b x. x)) refl,
          )
