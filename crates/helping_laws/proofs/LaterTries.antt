-- What every announced update has of the bucket tries that come after one of its own: a layer from the moment of that
-- try on.
use Rattle.std.proofs.Common.{◌≡◌, ◌≢◌, ℕ, ◌+◌, ◌-◌, ◌<◌, ◌≤◌, ◌⊎◌, Bool, true, false, cond, eqb, ltb, leb, List, [], ◌∷◌, length, get_or, take, inl, inr, refl, sym, ap, ◌∙◌, subst, arith, eqb-true, true≢false}
use Rattle.std.specs.Prelude.{Option, Some, None, ◌++◌}
use Rattle.std.proofs.lemmas.Bool.{cond_both, cases_eq, cases_lt, ltb-false, eqb-false}
use Rattle.std.proofs.lemmas.List.{length_push, get_or_push, get_or_append_left}
use Rattle.step_counts.specs.declared.TheConstants.{OP_WORDS}
use Rattle.step_counts.specs.StepCounts.{bucket_row_words}
use Rattle.step_counts.specs.declared.rows.SeatRows.{SeatRows}
use Rattle.plain_map.specs.declared.keys.Key.{Key}
use Rattle.plain_map.specs.Calls.{key_in}
use Rattle.word_rows.specs.Memory.{put}
use Rattle.word_rows.proofs.MemoryLemmas.{put_same, put_other, put_at_same}
use Rattle.bucket_states.specs.declared.ops.Op.{Op}
use Rattle.bucket_states.specs.States.{BucketState}
use Rattle.bucket_states.specs.Laws.{applied_of}
use Rattle.table_model.specs.Setup.{Setup, seats_of, settings_of}
use Rattle.table_model.specs.declared.rounds.Aim.TheVariants.{ForLookup, ForFirstRound, ForSecondRound, ForLastLook}
use Rattle.table_model.specs.declared.rounds.Round.{Round}
use Rattle.table_model.specs.DirectoryChange.{LoadedBucket}
use Rattle.table_model.specs.Phases.{BucketTry, DirectoryTry, Phase, FindRoot, TryWord, TryRow, TryAnnouncement, TryOp, TryStore, TryExchange, DirRoot, DirExchange, StoreDone, Stuck}
use Rattle.table_model.specs.SeatStates.{Account, Flight, Stand, Idle, InFlight}
use Rattle.table_model.specs.Asks.{ask_in}
use Rattle.table_model.specs.Goes.{state_after, phase_after, answered_by, after_row, after_found, is_applied, bucket_in_words, op_in_words, more}
use Rattle.table_model.specs.Stores.{made_bucket}
use Rattle.run_invariant.proofs.Events.{published, local_after}
use Rattle.run_invariant.proofs.Histories.{changed_between}
use Rattle.run_invariant.proofs.Numbers.{op_no_apart}
use Rattle.run_invariant.proofs.Invariant.{Common, Local, Shared, Keeps, KeepsStand, Moves, AllFound, Reads, HasOp, bits, lead, last, op_no}
use Rattle.run_laws.proofs.Publish
use Rattle.run_laws.proofs.Won.{grown_by}
use Rattle.run_laws.proofs.Induction.{common_after, found_in}
use Rattle.run_laws.proofs.Opened.{bucket_laws}
use Rattle.list_laws.proofs.Cuts.{seen_more, seen_all}
use Rattle.helping_laws.proofs.TriesTold
use Rattle.helping_laws.proofs.TriesTold.{Late, LateRow, Since}
use Rattle.helping_laws.proofs.Extends.{Extends, extends_self, extends_next, lead_same}
use Rattle.run_laws.proofs.Layers.{Steps}
use Rattle.run_laws.proofs.Induction.{Follows}
use Rattle.table_model.specs.Worlds.{World, seat_in}
use Rattle.table_model.specs.Helping.{Attempt, bucket_attempt}
use Rattle.helping_laws.proofs.Arrivals.{Stage, Elsewhere, stage, leads_to, May, NoBucket, no_bucket, answers, arrives}
use Rattle.helping_laws.proofs.Layer.{Layer, Holding, layer_steps, moves_of}
use Rattle.helping_laws.proofs.Moment.{keeps_in}
use Rattle.helping_laws.proofs.Tries.{InTry, attempt_is}
use Rattle.helping_laws.proofs.OpsTold.{ops_of}
use Rattle.helping_laws.proofs.Settled.{Settling, calls_layer}

-- what was found stays found
pub late_up : (setup : Setup) (me : ℕ) (c d : Common) → Moves setup me c d → (p from : ℕ) (found : Option Op) →
    Late c p from found → Late d p from found
late_up setup me c d m p from found x = record {
  at = x.at;
  since = x.since;
  there = omega (arith, x.there, m.ops_up p);
  is = x.is ∙ ap Some (sym (m.calls p x.at x.there).0);
}

-- and a row that was announced is announced
pub late_row_up : (setup : Setup) (me : ℕ) (c d : Common) → Moves setup me c d → (p from op : ℕ) →
    LateRow setup c p from op → LateRow setup d p from op
late_row_up setup me c d m p from op x = record {
  at = x.at;
  since = x.since;
  there = omega (arith, x.there, m.ops_up p);
  is = x.is;
}

-- a list of what was found that grew by one
pub one_more : (P : Option Op → Type 0) (found : List (Option Op)) (op : Option Op) (p : ℕ) →
    (p < length found → P (get_or found p None)) → (length found ≡ p → P op) → p < length (found ++ op ∷ []) →
    P (get_or (found ++ op ∷ []) p None)
one_more P found op p old new h = elim (cases_lt p (length found)) [
  | inl less ↦ subst P (sym (get_or_append_left found (op ∷ []) None p less)) (old less)
  | inr last ↦ (let at : length found ≡ p = omega (arith, last, h, length_push found op) in
      subst P (sym (get_or_push found op None p at)) (new at))
]

-- what a load of an announcement gives, where the seat has announced that op
pub not_unannounced : (setup : Setup) (c : Common) → Shared setup c → (p from : ℕ) → p < seats_of setup →
    from < ops_of c p → c.memory.announced p ≡ 0 → ⊥
not_unannounced setup c s p from hp h e = omega (arith, h, s.calls.none p hp e)

-- or it names such a row
pub announced_late : (setup : Setup) (c : Common) → Shared setup c → (p from : ℕ) → p < seats_of setup →
    from < ops_of c p → c.memory.announced p ≢ 0 → LateRow setup c p from (c.memory.announced p - 1)
announced_late setup c s p from hp h n = (let posted = s.calls.posted p hp n in
    record { at = ops_of c p - 1; since = omega (arith, h); there = omega (arith, h); is = omega (arith, posted.1) })

-- what is found by an op row that was loaded whole
pub found_late : (setup : Setup) (c : Common) → Shared setup c → (p from before op : ℕ) (found : Op) →
    p < seats_of setup → before < ops_of c p → op ≡ op_no setup p before → found ≡ c.op_at p before →
    LateRow setup c p from op → Late c p from (Some found)
found_late setup c s p from before op found hp hb e is x =
    let same = (op_no_apart setup p p before x.at s.opened hp hp (omega (arith, hb, s.calls.few p hp))
    (omega (arith, x.there, s.calls.few p hp)) (sym e ∙ x.is)).1 in
    record { at = before; since = omega (arith, same, x.since); there = hb; is = ap Some is }

-- an op row that is loaded whole, as far as seat p's own ops go
pub read_late : (setup : Setup) (c : Common) (s : Shared setup c) (seat p from before op : ℕ) (words : List ℕ) →
    seat ≡ p → seat < seats_of setup → before < ops_of c seat → op ≡ op_no setup seat before → length words < OP_WORDS →
    words ≡ take (length words) (c.op_words seat before) → OP_WORDS ≤ length words + 1 → LateRow setup c p from op →
    Late c p from (Some (op_in_words seat (more words (c.memory.op op (length words)))))
read_late setup c s seat p from before op words at hs hb e short read long x =
    let row = c.op_words seat before in
    let w = c.memory.op op (length words) in
    let now = more words w in
    let sound = s.calls.sound seat before hs hb in
    let loads : w ≡ get_or row (length words) 0 =
    ap (λ r. c.memory.op r (length words)) e ∙ s.calls.ops_are seat before (length words) hs hb short in
    let whole : now ≡ row = seen_all row now (omega (arith, length_push words w, long, sound.long))
    (seen_more row words w (omega (arith, short, sound.long)) read loads) in
    let is : op_in_words seat now ≡ c.op_at seat before = ap (op_in_words seat) whole ∙ sound.says in
    found_late setup c s p from before op (op_in_words seat now) (subst (λ q. q < seats_of setup) at hs)
    (subst (λ q. before < ops_of c q) at hb) (subst (λ q. op ≡ op_no setup q before) at e)
    (is ∙ ap (λ q. c.op_at q before) at) x

-- ---- the bucket tries after one of seat p, which loaded the row at place from of bucket b for its op at place own

module _ (setup : Setup) (first : Common) (p own b from dir : ℕ) (z : Since setup first p own b from dir) where
  -- the op
  abbrev op : Op
  op = first.op_at p own

  -- its key
  abbrev key : Key
  key = key_in op.call

  -- what is told, for this try
  abbrev pub Knows : Common → ℕ → Local → Phase → Type 0
  Knows = TriesTold.Knows setup first p own b from

  -- of a seat
  abbrev pub KnowsStand : Common → ℕ → Local → Stand → Type 0
  KnowsStand = TriesTold.KnowsStand setup first p own b from

  -- of the rows
  abbrev pub RowsHave : Common → Type 0
  RowsHave = TriesTold.RowsHave setup first p own b from

  -- of all that is shared
  abbrev pub Shares : Common → Type 0
  Shares = TriesTold.Shares setup first p own b from

  -- and of each seat
  abbrev pub Part : Common → ℕ → Local → Account → Stand → Type 0
  Part = TriesTold.Part setup first p own b from

  -- what was found stays
  knows_up : (me : ℕ) (c d : Common) → Moves setup me c d → (q : ℕ) (local : Local) (phase : Phase) →
      Knows c q local phase → Knows d q local phase
  knows_up me c d m q local (TryAnnouncement round attempt found) x =
      λ e l h. late_up setup me c d m p own (get_or found p None) (x e l h)
  knows_up me c d m q local (TryOp round attempt found row words) x = (
    (λ e l h. late_up setup me c d m p own (get_or found p None) (x.0 e l h)),
    (λ e l h. late_row_up setup me c d m p own row (x.1 e l h)),
  )
  knows_up me c d m q local (TryStore round attempt found stored) x =
      λ e l h. late_up setup me c d m p own (get_or found p None) (x e l h)
  knows_up me c d m q local (TryExchange round attempt found) x =
      λ e l h. late_up setup me c d m p own (get_or found p None) (x e l h)
  knows_up me c d m q local phase x = x

  -- so of a seat, whatever another one does
  stand_up : (me : ℕ) (c d : Common) → Moves setup me c d → (q : ℕ) (local : Local) (stand : Stand) →
      KnowsStand c q local stand → KnowsStand d q local stand
  stand_up me c d m q local Idle x = tt
  stand_up me c d m q local (InFlight flight phase) x = knows_up me c d m q local phase x

  -- ---- the rows

  -- where the bucket gets no row its rows stay as they were
  rows_kept : (me : ℕ) (c d : Common) → Moves setup me c d → c.named b ≡ true → d.top b ≤ c.top b → RowsHave c →
      RowsHave d
  rows_kept me c d m n few g i lo hi =
      subst (λ (x : BucketState). (op.number ≤ applied_of x p) ⊎ (x.frozen ≡ true))
      (sym (m.rows b i n (omega (arith, hi, few))).2) (g i lo (omega (arith, hi, few)))

  -- what the first moment has of the bucket and of the op is there still
  named_now : (c : Common) → Extends first c → c.named b ≡ true
  named_now c e = (e.named_up b z.named).0

  -- the op
  op_now : (c : Common) → Extends first c → c.op_at p own ≡ op
  op_now c e = (e.calls p own z.there).0

  -- its key has the bucket's prefix
  for_it_now : (c : Common) → Extends first c → bits setup (c.deep b) key ≡ c.pre b
  for_it_now c e = (let up = e.named_up b z.named in ap (λ n. bits setup n key) up.2 ∙ z.for_it ∙ sym up.1)

  -- and a directory led it there
  led_now : (c : Common) → Extends first c → (dir ≤ c.dir_top) × (lead setup c dir key ≡ b)
  led_now c e = (omega (arith, z.old, e.dir_up), lead_same setup first c e dir key z.old ∙ z.led)

  -- a bucket of the key that is open is the one in use
  in_use : (c : Common) → Shared setup c → Extends first c → (last c b).frozen ≡ false → lead setup c c.dir_top key ≡ b
  in_use c s e open_ = (let l = led_now c e in elim (cases_eq (lead setup c c.dir_top key) (lead setup c dir key)) [
    | inl same ↦ same ∙ l.1
    | inr other ↦
        let r = changed_between setup c s key dir c.dir_top l.0 other in
        let step = s.leads.step r.0 key r.2 (λ x. r.4 (x ∙ r.3)) in
        absurd (true≢false (sym (ap (λ x. (last c x).frozen) (sym (r.3 ∙ l.1)) ∙ step.frozen) ∙ open_))
  ])

  module _ (me : ℕ) (c : Common) (account : Account) (flight : Flight) (local : Local) (h : me < seats_of setup)
      (s : Shared setup c) (g : Shares c) where
    -- a row of the bucket is published
    module _ (round : Round) (attempt : BucketTry) (found : List (Option Op))
        (k : Keeps setup c me account.used flight local (TryExchange round attempt found))
        (x : Knows c me local (TryExchange round attempt found)) where
      abbrev d : Common
      d = published setup me round.bucket attempt found c

      -- what the new row has
      new_has : round.bucket ≡ b → c.memory.bucket round.bucket ≡ attempt.row → from + 2 ≤ c.top b + 1 →
          (op.number ≤ applied_of (made_bucket setup attempt found) p)
          ⊎ ((made_bucket setup attempt found).frozen ≡ true)
      new_has same won lo =
          let made = made_bucket setup attempt found in
          let current = Publish.current bucket_laws setup me c account flight local h s round attempt found k won in
          let late = x same (omega (arith, current, lo, ap c.top same)) (omega (arith, k.all, z.seat_is)) in
          elim (cases_eq late.at own) [
            | inl e ↦
                let is : get_or found p None ≡ Some op = late.is ∙ ap Some (ap (c.op_at p) e ∙ op_now c g.1) in
                Publish.has bucket_laws setup me c account flight local h s round attempt found k won p op is
                (ap (λ a. bits setup (c.deep a) key) same ∙ for_it_now c g.1 ∙ sym (ap c.pre same))
            | inr n ↦
                let past = (g.0 p z.seat_is).past own (omega (arith, late.since, late.there, n)) in
                let open_ : (last c b).frozen ≡ false =
                ap (λ a. (last c a).frozen) (sym same)
                ∙ Publish.was_open bucket_laws setup me c account flight local h s round attempt found k won in
                let now : op.number ≤ applied_of (last c (lead setup c c.dir_top key)) p =
                subst (λ (o : Op). o.number ≤ applied_of (last c (lead setup c c.dir_top (key_in o.call))) p)
                (op_now c g.1) past in
                let grows = Publish.grows bucket_laws setup me c account flight local h s round attempt found k won p in
                inl (omega (arith, now, grows, ap (λ a. applied_of (last c a) p) (in_use c s g.1 open_ ∙ sym same)))
          ]

      rows_by : (e : Bool) → eqb (c.memory.bucket round.bucket) attempt.row ≡ e → Moves setup me c (cond e d c) →
          RowsHave (cond e d c)
      rows_by false e m = g.2
      rows_by true e m = elim (cases_eq b round.bucket) [
        | inr other ↦ rows_kept me c d m (named_now c g.1)
            (omega (arith, put_other c.top round.bucket (c.top round.bucket + 1) b other)) g.2
        | inl same ↦ λ i lo hi.
            let top_now : d.top b ≡ c.top b + 1 =
            ap (put c.top round.bucket (c.top round.bucket + 1)) same
            ∙ put_same c.top round.bucket (c.top round.bucket + 1) ∙ ap (λ a. c.top a + 1) (sym same) in
            elim (cases_lt i (c.top b + 1)) [
              | inl less ↦ subst (λ (y : BucketState). (op.number ≤ applied_of y p) ⊎ (y.frozen ≡ true))
                  (sym (m.rows b i (named_now c g.1) (omega (arith, less))).2) (g.2 i lo (omega (arith, less)))
              | inr more ↦
                  let at : i ≡ c.top round.bucket + 1 = omega (arith, more, hi, top_now, ap c.top same) in
                  let made : d.state_at b i ≡ made_bucket setup attempt found =
                  ap (λ a. d.state_at a i) same ∙ ap (d.state_at round.bucket) at
                  ∙ put_at_same c.state_at round.bucket (c.top round.bucket + 1)
                  (made_bucket setup attempt found) in
                  subst (λ (y : BucketState). (op.number ≤ applied_of y p) ⊎ (y.frozen ≡ true)) (sym made)
                  (new_has (sym same) (eqb-true (c.memory.bucket round.bucket) attempt.row e)
                  (omega (arith, lo, at, ap c.top same)))
            ]
      ]

    -- an exchange of the root gives the bucket no row
    rows_by_root : (attempt : DirectoryTry) (found : List (Option Op)) (loaded : List LoadedBucket) (e : Bool) →
        Moves setup me c (cond e (grown_by setup me account.used attempt found loaded c) c) →
        RowsHave (cond e (grown_by setup me account.used attempt found loaded c) c)
    rows_by_root attempt found loaded false m = g.2
    rows_by_root attempt found loaded true m =
        rows_kept me c (grown_by setup me account.used attempt found loaded c) m (named_now c g.1) (no_more _) g.2
      where
        no_more : (t : Bool) → cond t 0 (c.top b) ≤ c.top b
        no_more true = omega arith
        no_more false = omega arith

    -- ---- the seat's own try

    -- outside of bucket tries that go on nothing is said
    quiet : (d : Common) (reached : Local) (to : Stage) (phase : Phase) → NoBucket to → May to (stage phase) →
        Knows d me reached phase
    quiet d reached to (TryAnnouncement round attempt found) other may = absurd (no_bucket to other may)
    quiet d reached to (TryOp round attempt found row words) other may = absurd (no_bucket to other may)
    quiet d reached to (TryStore round attempt found stored) other may = absurd (no_bucket to other may)
    quiet d reached to (TryExchange round attempt found) other may = absurd (no_bucket to other may)
    quiet d reached to phase other may = tt

    -- a test between two phases
    either : (t : Bool) (x y : Phase) → Knows c me local x → Knows c me local y → Knows c me local (cond t x y)
    either true x y k l = k
    either false x y k l = l

    -- one more seat's op is found
    found_more : (round : Round) (attempt : BucketTry) (found : List (Option Op)) (o : Option Op) →
        (round.bucket ≡ b → from < local.base → p < length found → Late c p own (get_or found p None)) →
        (round.bucket ≡ b → from < local.base → length found ≡ p → Late c p own o) →
        Knows c me local (after_found setup round attempt (more found o))
    found_more round attempt found o old new =
        either (ltb (length (more found o)) (seats_of setup)) (TryAnnouncement round attempt (more found o))
        (TryStore round attempt (more found o) 0) all all
      where
        all : round.bucket ≡ b → from < local.base → p < length (found ++ o ∷ []) →
            Late c p own (get_or (found ++ o ∷ []) p None)
        all e l = one_more (Late c p own) found o p (old e l) (new e l)

    -- a try begins past nobody
    row_loaded : (round : Round) (attempt : BucketTry) → Knows c me local (after_row me flight round attempt)
    row_loaded round attempt =
        either (is_applied me flight attempt.state) (answered_by me attempt.state attempt.row)
        (cond attempt.state.frozen (DirRoot round 1 None)
        (cond (leb attempt.turn 2) (TryAnnouncement round attempt []) Stuck))
        (quiet c local Elsewhere (answered_by me attempt.state attempt.row) tt
        (answers setup me account.used flight Elsewhere attempt.state attempt.row))
        (either attempt.state.frozen (DirRoot round 1 None)
        (cond (leb attempt.turn 2) (TryAnnouncement round attempt []) Stuck) tt
        (either (leb attempt.turn 2) (TryAnnouncement round attempt []) Stuck
        (λ e l past. absurd (omega (arith, past))) tt))

    -- the word that is found
    abbrev word : Phase → ℕ
    word phase = found_in (ask_in setup me account.used flight phase) c.memory

    -- the history after the step
    abbrev after : Phase → Common
    after phase = common_after setup me account.used flight phase c

    -- what is known then
    abbrev After : Phase → Type 0
    After phase = KnowsStand (after phase) me (local_after phase c local)
        (state_after setup me account flight phase (word phase)).stand

    -- what the seat itself knows after its step
    own_steps : (phase : Phase) → Keeps setup c me account.used flight local phase → Knows c me local phase →
        Moves setup me c (after phase) → After phase
    own_steps (TryRow round turn first row words) k x m =
        let now = more words (word (TryRow round turn first row words)) in
        let attempt : BucketTry = record { turn = turn; first = first; row = row; state = bucket_in_words setup now } in
        either (ltb (length now) (bucket_row_words (settings_of setup))) (TryRow round turn first row now)
        (after_row me flight round attempt) tt (row_loaded round attempt)
    own_steps (TryAnnouncement round attempt found) k x m =
        let w = word (TryAnnouncement round attempt found) in
        let there : own < ops_of c p = omega (arith, z.there, g.1.ops_up p) in
        cond_both (eqb w 0) (after_found setup round attempt (more found None))
        (TryOp round attempt found (w - 1) []) (Knows c me local)
        (λ e. found_more round attempt found None x
        (λ _ _ at. absurd (not_unannounced setup c s p own z.seat_is there
        (ap c.memory.announced (sym at) ∙ eqb-true w 0 e))))
        (λ e. (
          x,
          λ _ _ at. subst (λ n. LateRow setup c p own (n - 1)) (ap c.memory.announced (sym at))
              (announced_late setup c s p own z.seat_is there (λ f. eqb-false w 0 e (ap c.memory.announced at ∙ f))),
        ))
    own_steps (TryOp round attempt found row words) k x m =
        let w = word (TryOp round attempt found row words) in
        let now = more words w in
        cond_both (ltb (length words + 1) OP_WORDS) (TryOp round attempt found row now)
        (after_found setup round attempt (more found (Some (op_in_words (length found) now)))) (Knows c me local)
        (λ e. x)
        (λ e. found_more round attempt found (Some (op_in_words (length found) now)) x.0 (λ same late at.
        read_late setup c s (length found) p own k.reads.before row words at k.short k.reads.is_announced
        k.reads.op_is k.short_op k.reads.words_are (ltb-false (length words + 1) OP_WORDS e) (x.1 same late at)))
    own_steps (TryStore round attempt found i) k x m = go (ltb (i + 1) (bucket_row_words (settings_of setup)))
      where
        up : Knows (after (TryStore round attempt found i)) me local (TryStore round attempt found i)
        up = knows_up me c (after (TryStore round attempt found i)) m me local (TryStore round attempt found i) x

        go : (t : Bool) → Knows (after (TryStore round attempt found i)) me local
            (cond t (TryStore round attempt found (i + 1)) (TryExchange round attempt found))
        go true = up
        go false = up
    own_steps (StoreDone reply at) k x m = tt
    own_steps phase k x m = quiet (after phase) (local_after phase c local) (leads_to phase)
        (phase_after setup me account.used flight phase (word phase)) tt
        (arrives setup me account.used flight phase (word phase))

    -- what the rows have after a step
    rows_steps : (phase : Phase) → Keeps setup c me account.used flight local phase → Knows c me local phase →
        Moves setup me c (common_after setup me account.used flight phase c) →
        RowsHave (common_after setup me account.used flight phase c)
    rows_steps (FindRoot ForLookup) k x m = g.2
    rows_steps (FindRoot ForFirstRound) k x m = g.2
    rows_steps (FindRoot (ForSecondRound first)) k x m = g.2
    rows_steps (FindRoot ForLastLook) k x m = g.2
    rows_steps (TryWord round turn None) k x m = g.2
    rows_steps (TryWord round turn (Some first)) k x m = g.2
    rows_steps (TryExchange round attempt found) k x m =
        rows_by round attempt found k x (eqb (c.memory.bucket round.bucket) attempt.row) refl m
    rows_steps (DirRoot round turn None) k x m = g.2
    rows_steps (DirRoot round turn (Some first)) k x m = g.2
    rows_steps (DirExchange round attempt found loaded) k x m =
        rows_by_root attempt found loaded (eqb c.memory.root attempt.root) m
    rows_steps phase k x m = g.2

  -- ---- the layer

  -- the layer
  layer : Layer setup Shares Part
  layer = record {
    others = λ me c d m s g q n h local account stand k x. (
      (calls_layer setup).others me c d m s g.0 q n h local
          account stand k x.0,
      stand_up me c d m q local stand x.1,
    );
    begins = λ c me packet call local account x. ((calls_layer setup).begins c me packet call local account x.0, tt);
    steps = λ c me account flight local h s phase k g x.
        let m = moves_of setup c me account flight local phase h s k in
        let calls = (calls_layer setup).steps c me account flight local h s phase k g.0 x.0 in (
          (calls.0, extends_next setup me first c _ g.1 m, rows_steps me c account flight local h s g phase k x.1 m),
          (calls.1, own_steps me c account flight local h s g phase k x.1 m),
        );
  }

  -- what it says of a world
  abbrev pub Tells : World → Common → (ℕ → Local) → Unit {0} → Type 0
  Tells = Holding setup Shares Part

  -- and its steps
  pub telling : Steps (Unit {0}) setup Tells
  telling = layer_steps setup Shares Part layer

-- ---- the moment of the try

module _ (setup : Setup) (w : World) (c : Common) (locals : ℕ → Local) (a : Follows setup w c locals)
    (calls : Settling setup w c locals tt) (p : ℕ) (h : p < seats_of setup) (mine : Flight) (phase : Phase)
    (attempt : Attempt)
    (is : (seat_in w p).stand ≡ InFlight mine phase) (tries : bucket_attempt phase ≡ Some attempt) where
  -- what the seat keeps
  kept : Keeps setup c p (seat_in w p).account.used mine (locals p) phase
  kept = keeps_in setup w c locals a p mine phase h is

  -- the try, by places
  pub in_try : InTry setup c p (seat_in w p).account.used mine (locals p) attempt
  in_try = attempt_is setup c p (seat_in w p).account.used mine (locals p) phase attempt kept tries

  -- the op that it announced last
  abbrev pub own_op : ℕ
  own_op = ops_of c p - 1

  -- the op is announced
  announced : 0 < ops_of c p
  announced = in_try.works.announced

  -- what holds at that moment
  pub since : Since setup c p own_op attempt.bucket (locals p).base (locals p).dir
  since = record {
    seat_is = h;
    there = omega (arith, announced);
    named = in_try.there;
    begun = in_try.old;
    old = in_try.from;
    led = ap (λ (o : Op). lead setup c (locals p).dir (key_in o.call)) in_try.works.op_is ∙ in_try.led;
    for_it = ap (λ (o : Op). bits setup (c.deep attempt.bucket) (key_in o.call)) in_try.works.op_is ∙ in_try.for_it;
  }

  -- what later rows there are have it
  rows_have : RowsHave setup c p own_op attempt.bucket (locals p).base (locals p).dir since c
  rows_have i lo hi =
      let at : c.tried_at p ≡ attempt.bucket = in_try.tried_at in
      subst (λ x. HasOp (c.state_at x i) p (c.op_at p own_op)) at
      (a.shared.helped.helped p i h in_try.tries (omega (arith, in_try.begun, lo)) (omega (arith, hi, ap c.top at)))

  -- and later tries know it
  last_found : (bucket base : ℕ) (found : List (Option Op)) (q : ℕ) → AllFound setup c q bucket base found →
      bucket ≡ attempt.bucket → (locals p).base < base → p < length found → Late c p own_op (get_or found p None)
  last_found bucket base found q all e l past = record {
    at = own_op;
    since = omega arith;
    there = omega (arith, announced);
    is = (all p past).late in_try.tries (in_try.tried_at ∙ sym e) (omega (arith, in_try.begun, l));
  }

  -- or load such an op row
  row_found : (bucket base seat : ℕ) (row q : ℕ) (words : List ℕ) → Reads setup c q bucket base seat row words →
      bucket ≡ attempt.bucket → (locals p).base < base → seat ≡ p → LateRow setup c p own_op row
  row_found bucket base seat row q words r e l at =
      let late = r.late (ap c.tried at ∙ in_try.tries) (ap c.tried_at at ∙ in_try.tried_at ∙ sym e)
      (omega (arith, in_try.begun, l, ap c.since at)) in
      let last : r.before ≡ own_op = omega (arith, late, ap (ops_of c) at) in
      record {
        at = own_op;
        since = omega arith;
        there = omega (arith, announced);
        is = r.op_is
            ∙ ap (λ s. op_no setup s r.before) at ∙ ap (op_no setup p) last;
      }

  -- what each phase knows
  all_know : (q : ℕ) (used : SeatRows) (theirs : Flight) (local : Local) (other : Phase) →
      Keeps setup c q used theirs local other →
      Knows setup c p own_op attempt.bucket (locals p).base (locals p).dir since c q local other
  all_know q used theirs local (TryAnnouncement round try found) k =
      last_found round.bucket local.base found q k.entries
  all_know q used theirs local (TryOp round try found row words) k = (
    last_found round.bucket local.base found q k.entries,
    row_found round.bucket local.base (length found) row q words k.reads,
  )
  all_know q used theirs local (TryStore round try found stored) k =
      last_found round.bucket local.base found q k.entries
  all_know q used theirs local (TryExchange round try found) k = last_found round.bucket local.base found q k.entries
  all_know q used theirs local other k = tt

  -- what each seat knows
  stands_know : (q : ℕ) (used : SeatRows) (local : Local) (stand : Stand) → KeepsStand setup c q used local stand →
      KnowsStand setup c p own_op attempt.bucket (locals p).base (locals p).dir since c q local stand
  stands_know q used local Idle k = tt
  stands_know q used local (InFlight theirs other) k = all_know q used theirs local other k

  -- so all is told from then on
  pub begins : Tells setup c p own_op attempt.bucket (locals p).base (locals p).dir since w c locals tt
  begins = (
    (calls.0, extends_self c, rows_have),
    λ q hq. (calls.1 q hq, stands_know q (seat_in w q).account.used (locals q) (seat_in w q).stand (a.seats q hq)),
  )
