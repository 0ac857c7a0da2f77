-- An event of the table is one of the protocol, or none: what it leaves of the other seats, and how the whole is put
-- together after it.
use Rattle.std.proofs.Common.{[], ◌≡◌, ◌≢◌, ℕ, ◌+◌, ◌<◌, ◌≤◌, inl, inr, Bool, true, List, length, sym, ap, ◌∙◌, subst, arith, get_or-set_same, get_or-set_other}
use Rattle.std.proofs.lemmas.Bool.{cases_eq, cases_lt}
use Rattle.list_laws.proofs.Totals.{many}
use Rattle.word_rows.proofs.MemoryLemmas.{put_at_row}
use Rattle.plain_map.specs.declared.calls.Call.{Call}
use Rattle.plain_map.specs.Calls.{key_in}
use Rattle.exchange_model.specs.Plans.{holders_of, Plan, IsPlan, buckets_of}
use Rattle.exchange_model.specs.Codes.{last_generation, Row, row_in, generation_in, row_at, number_in, announcing}
use Rattle.exchange_model.specs.Words as W
use Rattle.exchange_model.specs.Steps as S
use Rattle.exchange_model.specs.Steps.{MadeBySeat, Step, Stand, SeatNow, Found, Try, bucket_of_call}
use Rattle.exchange_model.specs.Goes.{Fate, On, Ends, Spends, Refuses, entry_for}
use Rattle.exchange_model.specs.Worlds.{World, Answer, seat_in, with_seat, ticked, nobody}
use Rattle.exchange_laws.proofs.Announcing as A
use Rattle.exchange_laws.proofs.Announcing.{State, Holds}
use Rattle.exchange_laws.proofs.Announcements.{at_rest}
use Rattle.exchange_laws.proofs.Entries.{most}
use Rattle.exchange_laws.proofs.RowLists.{is_row}
use Rattle.exchange_laws.proofs.Owned.{Owned, not_both}
use Rattle.exchange_laws.proofs.OwnedMoves.{Moves, Stays, Stores, Exchanges}
use Rattle.exchange_laws.proofs.OwnedRuns.{row_stays}
use Rattle.exchange_laws.proofs.TrueReads.{IsFront, Reads, ReadsStep, ReadsAt, stood_still}
use Rattle.exchange_laws.proofs.Words.{bucket_small, seat_holds}
use Rattle.exchange_laws.proofs.Tied.{row_now, WasApplied, IsLate, SinceStep, SinceFate, Tied, NotFree, TryIs, OpIs, TryStep, TryAt, Pends, Same}

-- of this seat the two states say the same, and an op of it that was applied still is. Generations do not fall
pub record Later (s z : State) (q : ℕ) : Type 0 where
  pub posted : z.posted q ≡ s.posted q
  pub pending : z.pending q ≡ s.pending q
  pub home : z.home q ≡ s.home q
  pub since : z.since q ≡ s.since q
  pub grows : (b : ℕ) → s.generation b ≤ z.generation b
  pub stays : s.pending q ≡ true → s.entry (s.home q) q ≡ s.posted q + 1 → z.entry (s.home q) q ≡ s.posted q + 1

-- and so does its try; and where its bucket is spent, an op that was not applied is not
pub record Beside (last : ℕ) (s z : State) (q : ℕ) : Type 0 where
  pub tries : z.tries q ≡ s.tries q
  pub later : Later s z q
  pub waits : s.pending q ≡ true → s.entry (s.home q) q ≢ s.posted q + 1 → s.generation (s.home q) ≡ last →
      (z.entry (s.home q) q ≢ s.posted q + 1) × (z.generation (s.home q) ≡ last)

module _ (plan : Plan) (s z : State) (q : ℕ) (be : Later s z q) (b : ℕ) where
  pub applied_later : WasApplied plan s q b → WasApplied plan z q b
  applied_later a = (
    be.pending ∙ a.0,
    be.home ∙ a.1,
    ap (λ c. z.entry c q) (sym a.1) ∙ be.stays a.0 (ap (λ c. s.entry c q) a.1 ∙ a.2) ∙ ap (λ n. n + 1) (sym be.posted),
  )

  late_later : (turn generation : ℕ) → IsLate plan s q turn generation → IsLate plan z q turn generation
  late_later turn generation l e = (let old = l e in let same = be.since in omega (arith, old, same))

  pub since_later : (step : Step) → SinceStep plan s q b step → SinceStep plan z q b step
  since_later (S.LoadWord turn) l =
      λ e. (let old = l e in let same = be.since in let up = be.grows b in omega (arith, old, same, up))
  since_later (S.LoadRow turn word words) l = late_later turn (generation_in plan word) l
  since_later (S.CheckWord turn word words) l = late_later turn (generation_in plan word) l
  since_later (S.LoadPending t) l = late_later t.turn (generation_in plan t.word) l
  since_later (S.LoadAnnounced t found) l = late_later t.turn (generation_in plan t.word) l
  since_later (S.LoadOp t found announced words) l = late_later t.turn (generation_in plan t.word) l
  since_later (S.StoreRow t found i) l = late_later t.turn (generation_in plan t.word) l
  since_later (S.Exchange t found) l = late_later t.turn (generation_in plan t.word) l
  since_later S.StoreWant a = applied_later a
  since_later S.StoreAsking a = applied_later a
  since_later S.HeldWord a = applied_later a
  since_later (S.TakeHold word) a = applied_later a
  since_later (S.HeldHead row) a = applied_later a
  since_later (S.HeldEntry row at left) a = applied_later a
  since_later (S.HeldReply row at) a = applied_later a
  since_later (S.GiveBack reply) a = applied_later a
  since_later S.Scans l = tt
  since_later S.RaisePending l = tt
  since_later (S.StoreOp i) l = tt
  since_later S.Announce l = tt
  since_later (S.Over ending) l = tt
  since_later (S.LowerPending ending) l = tt
  since_later S.Stuck l = tt

  pub fate_later : (f : Fate) → SinceFate plan s q b f → SinceFate plan z q b f
  fate_later (On step) l = since_later step l
  fate_later (Ends reply) l = tt
  fate_later Spends l = tt
  fate_later Refuses l = tt

-- two states that are alike but for the tries of this seat
pub same_later : (plan : Plan) (s z : State) (p q : ℕ) → Same plan s z p → Later s z q
same_later plan s z p q same = record {
  posted = ap (λ (f : ℕ → ℕ). f q) same.posted;
  pending = ap (λ (f : ℕ → Bool). f q) same.pending;
  home = ap (λ (f : ℕ → ℕ). f q) same.home;
  since = ap (λ (f : ℕ → ℕ). f q) same.since;
  grows = λ c. (let e = ap (λ (f : ℕ → ℕ). f c) same.generation in omega (arith, e));
  stays = λ a e. ap (λ (f : ℕ → ℕ → ℕ). f (s.home q) q) same.entry ∙ e;
}

module _ (plan : Plan) (is_plan : IsPlan plan) (x : World) (h : Owned plan x) (s : State) (tied : Tied plan x s) where
  module _ (y : World) (moves : Moves plan h.at x y) (z : State)
      (ops : (k : ℕ) → s.pending k ≡ true →
      y.store.op k ≡ x.store.op k) (q : ℕ) (be : Beside (last_generation plan) s z q) (call : Call) where
    abbrev b : ℕ
    b = bucket_of_call plan call

    small : b < buckets_of plan.settings
    small = bucket_small plan is_plan (key_in call)

    try_beside : (t : Try) (found : List Found) (upto : ℕ) → TryIs plan s q b t found upto →
        TryIs plan z q b t found upto
    try_beside t found upto i = record {
      seen = i.seen;
      fs = i.fs;
      is = be.tries ∙ i.is;
      sees = i.sees;
      match = i.match;
      free = λ e. ap (λ n. entry_for q n t.row.entries) be.later.posted ∙ i.free e;
      own = λ e less. i.own e less ∙ ap A.Take (sym be.later.posted);
    }

    op_beside : (t : Try) (found : List Found) (announced : ℕ) (words : List ℕ) → x.store.bucket b ≡ t.word →
        OpIs plan x.store.op s q b t found announced words → OpIs plan y.store.op z q b t found announced words
    unfolding try_beside
    op_beside t found announced words same o =
        let was : A.Tries plan.settings.seats (last_generation plan) s (A.At b (generation_in plan t.word)
        (length found + 1) o.try.seen o.try.fs) =
        subst (A.Tries plan.settings.seats (last_generation plan) s) o.try.is (tied.holds.tries q) in
        let sound = was.2 (tied.gens b small ∙ ap (generation_in plan) same) in
        let pends = (sound.takes (length found) (number_in announced) (omega arith) o.takes).0 in
        record {
          try = try_beside t found (length found + 1) o.try;
          takes = o.takes;
          front = subst (IsFront words) (sym (ops (length found) pends)) o.front;
          few = o.few;
        }

    step_beside : (step : Step) → ReadsStep plan x b step → TryStep plan x.store.bucket x.store.op s q b step →
        TryStep plan y.store.bucket y.store.op z q b step
    step_beside (S.LoadAnnounced t found) r a =
        λ e. try_beside t found (length found) (a (stood_still plan is_plan x y h moves b small t.word r.stood e).0)
    step_beside (S.LoadOp t found announced words) r a =
        λ e. (let was = (stood_still plan is_plan x y h moves b small t.word r.stood e).0 in
        op_beside t found announced words was (a was))
    step_beside (S.StoreRow t found i) r a = (
      a.0,
      λ e. try_beside t found (length found) (a.1 (stood_still plan is_plan x y h moves b small t.word r.stood e).0),
    )
    step_beside (S.Exchange t found) r a = (
      a.0,
      λ e. try_beside t found (length found) (a.1 (stood_still plan is_plan x y h moves b small t.word r.stood e).0),
    )
    step_beside (S.LoadPending t) r a =
        λ e. try_beside t [] 0 (a (stood_still plan is_plan x y h moves b small t.word r.stood e).0)
    step_beside (S.Over (S.Applied reply)) r a = applied_later plan s z q be.later b a
    step_beside (S.Over S.GivenUp) r a =
        let at = ap s.generation a.1 ∙ a.3 in
        let w = be.waits a.0 (λ e. a.2 (ap (λ c. s.entry c q) (sym a.1) ∙ e)) at in (
          be.later.pending ∙ a.0,
          be.later.home ∙ a.1,
          λ e. w.0 (ap (λ c. z.entry c q) a.1 ∙ e ∙ ap (λ n. n + 1) be.later.posted),
          ap z.generation (sym a.1) ∙ w.1,
        )
    step_beside S.Scans r a = tt
    step_beside (S.LoadWord turn) r a = tt
    step_beside (S.LoadRow turn old words) r a = tt
    step_beside (S.CheckWord turn old words) r a = tt
    step_beside (S.StoreOp i) r a = tt
    step_beside S.RaisePending r a = tt
    step_beside S.Announce r a = tt
    step_beside S.StoreWant r a = tt
    step_beside S.StoreAsking r a = tt
    step_beside S.HeldWord r a = tt
    step_beside (S.TakeHold old) r a = tt
    step_beside (S.HeldHead row) r a = tt
    step_beside (S.HeldEntry row at left) r a = tt
    step_beside (S.HeldReply row at) r a = tt
    step_beside (S.GiveBack reply) r a = tt
    step_beside (S.LowerPending ending) r a = tt
    step_beside S.Stuck r a = tt

  at_beside : (y : World) (moves : Moves plan h.at x y) (z : State)
      (ops : (k : ℕ) → s.pending k ≡ true → y.store.op k ≡ x.store.op k) (q : ℕ) →
      Beside (last_generation plan) s z q → (stand : Stand) →
      ReadsAt plan x stand → TryAt plan x.store.bucket x.store.op s q stand →
      TryAt plan y.store.bucket y.store.op z q stand
  at_beside y moves z ops q be S.Idle r a = tt
  at_beside y moves z ops q be (S.Goes call step) r a = (
    a.0,
    step_beside y moves z ops q be call step r a.1,
    since_later plan s z q be.later
        (bucket_of_call plan call) step a.2,
  )
  at_beside y moves z ops q be (S.Glances aim glance) r a = tt

  -- a row that is not free is not written
  pub live_same : (y : World) → Moves plan h.at x y → (row i : ℕ) → NotFree plan x row →
      y.store.row row i ≡ x.store.row row i
  live_same y (Stays e r) row i none = λ k. r k row i
  live_same y (Stores p other j v inside mine there e r) row i none =
      (λ k. r k row i)
      ∙ put_at_row x.store.row other j v row i
      (λ same. (let no = none p inside in let at = ap (λ k. many (is_row k) (seat_in x p).free) same in
      omega (arith, no, at, there)))
  live_same y (Exchanges p a other inside mine low below e r) row i none = λ k. r k row i

  -- a row that stands in a word is not free
  pub word_live : (b : ℕ) → b < buckets_of plan.settings → NotFree plan x (row_in plan (x.store.bucket b))
  word_live b less p inside = elim (cases_lt 0 (many (is_row row) (seat_in x p).free)) [
    | inl some ↦ absurd (not_both plan h.at p row b ((h.seats p inside).rows.mine row (omega (arith, some))).0
        (h.words b less).0)
    | inr none ↦ omega (arith, none)
  ]
    where
      row : ℕ
      row = row_in plan (x.store.bucket b)

  pub same_row : (y : World) → Moves plan h.at x y → y.store.bucket ≡ x.store.bucket → (b : ℕ) →
      b < buckets_of plan.settings →
      row_now plan y b ≡ row_now plan x b
  same_row y moves words b less =
      ap (λ (f : ℕ → ℕ). row_at plan (y.store.row (row_in plan (f b)))) words
      ∙ ap (row_at plan) (λ k i. row_stays plan x y h b i less moves k)

  module _ (reads : Reads plan x) (p : ℕ) (inside : p < holders_of plan.settings) (store : W.Store) (then : SeatNow)
      (answers : List Answer) (updates : List MadeBySeat) where
    abbrev y : World
    y = ticked (with_seat x p store then answers updates)

    pub mine_is : seat_in y p ≡ then
    mine_is = get_or-set_same x.seats p then nobody (let long = h.long in omega (arith, inside, long))

    pub other_is : (q : ℕ) → q ≢ p → seat_in y q ≡ seat_in x q
    other_is q n = get_or-set_other x.seats p q then nobody n

    -- where the seat has no row less as a free one
    pub olds_kept : (z : State) → z.done ≡ s.done → Moves plan h.at x y →
        ((row : ℕ) → many (is_row row) then.free ≡ 0 → many (is_row row) (seat_in x p).free ≡ 0) →
        (row q : ℕ) → NotFree plan y row → q < plan.settings.seats →
        most q (row_at plan (store.row row)).entries ≤ z.done q
    olds_kept z done moves frees row q none less =
        let was : NotFree plan x row = λ k inside_k. elim (cases_eq k p) [
          | inl e ↦ ap (λ i. many (is_row row) (seat_in x i).free) e
              ∙ frees row (sym (ap (λ (n : SeatNow). many (is_row row) n.free) mine_is) ∙ none p inside)
          | inr n ↦ sym (ap (λ (n : SeatNow). many (is_row row) n.free) (other_is k n)) ∙ none k inside_k
        ] in
        let same = ap (λ (r : ℕ → ℕ). most q (row_at plan r).entries) (λ k i. live_same y moves row i was k) in
        let old = tied.olds row q was less in
        let d = ap (λ (f : ℕ → ℕ). f q) done in
        omega (arith, same, old, d)

    pub assemble : (z : State) → Moves plan h.at x y → Holds plan.settings.seats (last_generation plan) z →
        ((b : ℕ) → b < buckets_of plan.settings → z.generation b ≡ generation_in plan (store.bucket b)) →
        ((b q : ℕ) → b < buckets_of plan.settings → q < plan.settings.seats →
        z.entry b q ≡ most q (row_now plan y b).entries) →
        (p < plan.settings.seats → z.posted p ≡ then.posted) → ((q : ℕ) → q < plan.settings.seats →
        Pends plan z q (store.announced q)) →
        ((q : ℕ) → q < plan.settings.seats → q ≢ p → Beside (last_generation plan) s z q) →
        ((k : ℕ) → s.pending k ≡ true → store.op k ≡ x.store.op k) →
        (p < plan.settings.seats → TryAt plan store.bucket store.op z p then.stand) →
        ((row q : ℕ) → NotFree plan y row → q < plan.settings.seats →
        most q (row_at plan (store.row row)).entries ≤ z.done q) →
        Tied plan y z
    assemble z moves holds gens rows mine pends beside ops here olds = record {
      holds = holds;
      gens = gens;
      rows = rows;
      posted = λ q less. elim (cases_eq q p) [
        | inl e ↦ ap z.posted e ∙ mine (subst (λ k. k < plan.settings.seats) e less)
            ∙ sym (ap (λ (k : SeatNow). k.posted) (ap (seat_in y) e ∙ mine_is))
        | inr n ↦
            (beside q less n).later.posted ∙ tied.posted q less ∙ sym (ap (λ (k : SeatNow). k.posted) (other_is q n))
      ];
      pends = pends;
      olds = olds;
      each = λ q less. elim (cases_eq q p) [
        | inl e ↦ subst (λ i. TryAt plan store.bucket store.op z i (seat_in y i).stand) (sym e)
            (subst (λ (k : SeatNow). TryAt plan store.bucket store.op z p k.stand) (sym mine_is)
            (here (subst (λ k. k < plan.settings.seats) e less)))
        | inr n ↦ subst (λ (k : SeatNow). TryAt plan store.bucket store.op z q k.stand) (sym (other_is q n))
            (at_beside y moves z ops q (beside q less n) (seat_in x q).stand (reads.each q (seat_holds plan q less))
            (tied.each q less))
      ];
    }

    -- where no bucket word and no announcement is another one
    pub quietly : (z : State) → Same plan s z p → Moves plan h.at x y →
        Holds plan.settings.seats (last_generation plan) z →
        store.bucket ≡ x.store.bucket → store.announced ≡ x.store.announced →
        ((k : ℕ) → s.pending k ≡ true → store.op k ≡ x.store.op k) → then.posted ≡ (seat_in x p).posted →
        ((row : ℕ) → many (is_row row) then.free ≡ 0 → many (is_row row) (seat_in x p).free ≡ 0) →
        (p < plan.settings.seats → TryAt plan store.bucket store.op z p then.stand) → Tied plan y z
    quietly z same moves holds buckets announced ops own frees here =
        assemble z moves holds
        (λ b less. ap (λ (f : ℕ → ℕ). f b) same.generation ∙ tied.gens b less
        ∙ ap (λ (f : ℕ → ℕ). generation_in plan (f b)) (sym buckets))
        (λ b q less few. ap (λ (f : ℕ → ℕ → ℕ). f b q) same.entry ∙ tied.rows b q less few
        ∙ ap (λ (r : Row). most q r.entries) (sym (same_row y moves buckets b less)))
        (λ of_seat. ap (λ (f : ℕ → ℕ). f p) same.posted ∙ tied.posted p of_seat ∙ sym own)
        (λ q less. subst (λ (f : ℕ → ℕ). Pends plan z q (f q)) (sym announced) (pends_same q (x.store.announced q)
        (tied.pends q less)))
        (λ q less n. record {
          tries = same.tries q n;
          later = same_later plan s z p q same;
          waits = λ a n l. (
            λ e. n (sym (ap (λ (f : ℕ → ℕ → ℕ). f (s.home q) q) same.entry) ∙ e),
            ap (λ (f : ℕ → ℕ). f (s.home q)) same.generation ∙ l,
          );
        }) ops here (olds_kept z same.done moves frees)
      where
        pends_same : (q w : ℕ) → Pends plan s q w → Pends plan z q w
        pends_same q w (inl a) =
            inl (
              ap (λ (f : ℕ → Bool). f q) same.pending ∙ a.0,
              a.1
                  ∙ ap (λ (f : ℕ → ℕ). at_rest (f q)) (sym same.posted),
            )
        pends_same q w (inr a) = inr (
          ap (λ (f : ℕ → Bool). f q) same.pending ∙ a.0,
          a.1 ∙ ap (λ (f : ℕ → ℕ). announcing (f q) (s.home q)) (sym same.posted)
              ∙ ap (λ (f : ℕ → ℕ). announcing (z.posted q) (f q)) (sym same.home),
          subst (λ (f : ℕ → ℕ). f q < buckets_of plan.settings) (sym same.home) a.2,
        )
