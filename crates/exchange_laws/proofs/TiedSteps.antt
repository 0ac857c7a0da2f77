-- The steps of an update outside of its exchange: each is one event of the protocol of announced ops, or none.
use Rattle.std.proofs.Common.{◌≡◌, ◌≢◌, ℕ, suc, ◌+◌, ◌-◌, ◌<◌, ◌≤◌, inl, inr, Bool, true, false, cond, List, [], ◌∷◌, ◌++◌, length, Option, Some, None, refl, sym, ap, ◌∙◌, subst, arith, true≢false}
use Rattle.std.specs.Prelude.{◌==◌, nat_lt, slice_index}
use Rattle.std.proofs.lemmas.Bool.{cases_eq}
use Rattle.list_laws.proofs.Totals.{many}
use Rattle.plain_map.specs.declared.calls.Call.{Call}
use Rattle.plain_map.specs.declared.calls.Reply.{Reply}
use Rattle.plain_map.specs.Updates.{IsUpdate}
use Rattle.plain_map.specs.Calls.{key_in}
use Rattle.word_rows.specs.ReplyWords.{reply_of_word}
use Rattle.word_rows.specs.Memory.{put}
use Rattle.word_rows.specs.OpWords.{words_of_call}
use Rattle.word_rows.proofs.MemoryLemmas.{put_same, put_other, put_at_row}
use Rattle.exchange_model.specs.Plans.{holders_of, Plan, IsPlan, buckets_of, more}
use Rattle.exchange_model.specs.Codes.{last_generation, is_pending, SLOT_WORDS, ENTRY_WORDS, length_by, count_in, entries_in, entries_start, announcing, over}
use Rattle.exchange_model.specs.Words as W
use Rattle.exchange_model.specs.Words.{with_word}
use Rattle.exchange_model.specs.Steps as S
use Rattle.exchange_model.specs.Steps.{Step, SeatNow, Found, Try, deed_of, bucket_of_call, new_words, next_row}
use Rattle.exchange_model.specs.Goes.{ScanFate, ScansOn, Scanned, scan_fate_of, scanned, Fate, On, Ends, Spends, Refuses, with_free, after_scan, gives_back, ended, share_of, is_announced, entry_word, next_entry, fate, own_after}
use Rattle.exchange_model.specs.Worlds.{World, seat_in, ticked, found_by, store_after, seat_after, goes}
use Rattle.exchange_laws.proofs.RowLists.{is_row, both}
use Rattle.exchange_laws.proofs.Words.{bucket_small}
use Rattle.exchange_laws.proofs.Owned.{Owned}
use Rattle.exchange_laws.proofs.OwnedSteps.{IsStill, quiet_words, quiet_step}
use Rattle.exchange_laws.proofs.OwnedMoves.{Moves}
use Rattle.exchange_laws.proofs.TrueReads.{Reads, ReadsAt}
use Rattle.exchange_laws.proofs.Places.{either_put}
use Rattle.exchange_laws.proofs.StoredRows.{Stored}
use Rattle.exchange_laws.proofs.FoundOps.{FoundOk}
use Rattle.exchange_laws.proofs.Announcing as A
use Rattle.exchange_laws.proofs.Announcing.{State, Holds}
use Rattle.exchange_laws.proofs.Announcements.{at_rest, TellsStep, TellsAt, Announces, IsOther, silent_words, silent_step, own_posted}
use Rattle.exchange_laws.proofs.Tied.{IsLate, SinceStep, SinceFate, Same, Tied, TryStep, TryAt, TryFate, Pends, rests_at, same_self, Result, stay}
use Rattle.exchange_laws.proofs.TiedSince.{since_fated}
use Rattle.exchange_laws.proofs.TiedMoves.{same_later, fate_later, assemble, quietly, olds_kept}

module _ (plan : Plan) (is_plan : IsPlan plan) where
  -- the table follows the protocol
  pub record Follows (x : World) : Type 0 where
    pub s : State
    pub tied : Tied plan x s

  -- a seat that finds its own share alone in what is pending knows that no other op is announced
  abbrev pub AreCounted : World → Type 0
  AreCounted x =
      (p : ℕ) (call : Call) (t : Try) → p < plan.settings.seats → (seat_in x p).stand ≡ S.Goes call (S.LoadPending t) →
      x.store.pending ≡ share_of (is_announced t.turn) → (q : ℕ) → q < plan.settings.seats → q ≢ p →
      is_pending (x.store.announced q) ≡ false

  module _ (x : World) (h : Owned plan x) (reads : Reads plan x) (finds : FoundOk plan x) (stored : Stored plan x)
      (all : Announces plan x) (counted : AreCounted x) (s : State) (tied : Tied plan x s) (p : ℕ)
      (inside : p < holders_of plan.settings) where
    abbrev now : SeatNow
    now = seat_in x p

    module _ (call : Call) (of_seat : p < plan.settings.seats) where
      abbrev b : ℕ
      b = bucket_of_call plan call

      pub small : b < buckets_of plan.settings
      small = bucket_small plan is_plan (key_in call)

      abbrev R : Fate → Type 0
      R f = Result plan is_plan x s tied all p of_seat call f

      abbrev T : State → Fate → Type 0
      T z f = TryFate plan x.store.bucket x.store.op z p b f

      abbrev Y : Step → World
      Y step = ticked (goes plan x p now call step)

      abbrev M : Step → Type 0
      M step = Moves plan h.at x (Y step)

      pub tried : (step : Step) → now.stand ≡ S.Goes call step →
          IsUpdate call × TryStep plan x.store.bucket x.store.op s p b step × SinceStep plan s p b step
      tried step stood = subst (TryAt plan x.store.bucket x.store.op s p) stood (tied.each p of_seat)

      pub told : (step : Step) → now.stand ≡ S.Goes call step →
          TellsStep (x.store.announced p) (x.store.op p) now.posted b call step
      told step stood = subst (TellsAt plan (x.store.announced p) (x.store.op p) now.posted) stood (all.each p inside)

      pub after_fate : (bucket : ℕ → ℕ) (op : ℕ → ℕ → ℕ) (z : State) (own : SeatNow) (f : Fate) → IsUpdate call →
          TryFate plan bucket op z p b f → SinceFate plan z p b f →
          TryAt plan bucket op z p (seat_after own call f).stand
      after_fate bucket op z own (On step) is t l = (is, t, l)
      after_fate bucket op z own (Ends reply) is t l = tt
      after_fate bucket op z own Spends is t l = tt
      after_fate bucket op z own Refuses is t l = tt

      -- how late its tries are then
      pub since_led : (step : Step) → now.stand ≡ S.Goes call step → IsOther step →
          SinceFate plan s p b (fate plan p now call step (found_by (deed_of plan p now call step) x.store))
      since_led step stood other =
          let r : ReadsAt plan x (S.Goes call step) = subst (ReadsAt plan x) stood (reads.each p inside) in
          since_fated plan is_plan x s tied all p of_seat call step r (told step stood) (tried step stood).2 other

      pub since_then : (z : State) → Same plan s z p → (step : Step) → now.stand ≡ S.Goes call step → IsOther step →
          SinceFate plan z p b (fate plan p now call step (found_by (deed_of plan p now call step) x.store))
      since_then z same step stood other =
          fate_later plan s z p (same_later plan s z p p same) b
          (fate plan p now call step (found_by (deed_of plan p now call step) x.store)) (since_led step stood other)

      pub posted_after : (own : SeatNow) (f : Fate) → (seat_after own call f).posted ≡ own.posted
      posted_after own (On step) = refl
      posted_after own (Ends reply) = refl
      posted_after own Refuses = refl
      posted_after own Spends = refl

      pub free_after : (own : SeatNow) (f : Fate) → (seat_after own call f).free ≡ own.free
      free_after own (On step) = refl
      free_after own (Ends reply) = refl
      free_after own Refuses = refl
      free_after own Spends = refl

      -- no free row less
      abbrev Frees : SeatNow → Type 0
      Frees own = (row : ℕ) → many (is_row row) own.free ≡ 0 → many (is_row row) now.free ≡ 0

      pub own_frees : (step : Step) (word : ℕ) → IsStill step → Frees (own_after plan p now call step word)
      own_frees S.Scans word still = go (scan_fate_of plan p now.scan word)
        where
          go : (f : ScanFate) → Frees (scanned now f)
          go (ScansOn scan) = λ row e. e
          go (Scanned left held) = λ row e. (let sum = both row now.free left in omega (arith, sum, e))
      own_frees (S.StoreRow t found i) word still = absurd still
      own_frees (S.Exchange t found) word still = absurd still
      own_frees (S.LoadWord turn) word still = λ row e. e
      own_frees (S.LoadRow turn old words) word still = λ row e. e
      own_frees (S.CheckWord turn old words) word still = λ row e. e
      own_frees (S.LoadPending t) word still = λ row e. e
      own_frees (S.LoadAnnounced t found) word still = λ row e. e
      own_frees (S.LoadOp t found announced words) word still = λ row e. e
      own_frees (S.StoreOp i) word still = λ row e. e
      own_frees S.RaisePending word still = λ row e. e
      own_frees S.Announce word still = λ row e. e
      own_frees S.StoreWant word still = λ row e. e
      own_frees S.StoreAsking word still = λ row e. e
      own_frees S.HeldWord word still = λ row e. e
      own_frees (S.TakeHold old) word still = λ row e. e
      own_frees (S.HeldHead row) word still = λ row e. e
      own_frees (S.HeldEntry row at left) word still = λ row e. e
      own_frees (S.HeldReply row at) word still = λ row e. e
      own_frees (S.GiveBack reply) word still = λ row e. e
      own_frees (S.Over ending) word still = λ row e. e
      own_frees (S.LowerPending ending) word still = λ row e. e
      own_frees S.Stuck word still = λ row e. e

      pub then_frees : (own : SeatNow) (f : Fate) → Frees own → Frees (seat_after own call f)
      then_frees own f frees row e = frees row (sym (ap (many (is_row row)) (free_after own f)) ∙ e)

      -- a step that stores nothing of it
      pub plain_step : (step : Step) → now.stand ≡ S.Goes call step → IsStill step → IsOther step → M step →
          R (fate plan p now call step (found_by (deed_of plan p now call step) x.store)) → Follows (Y step)
      plain_step step stood still other moves r =
          let deed = deed_of plan p now call step in
          let w = found_by deed x.store in
          let own = own_after plan p now call step w in
          let f = fate plan p now call step w in
          let store = store_after deed x.store in
          let buckets = (quiet_words deed x.store (quiet_step plan p now call step still)).0 in
          let silent = silent_words deed x.store (silent_step plan p now call step other) in
          record {
            s = r.z;
            tied = quietly plan is_plan x h s tied reads p inside store
                (seat_after own call f) _ _ r.z r.same moves r.holds
                buckets silent.0 (λ k _. ap (λ (g : ℕ → ℕ → ℕ). g k) silent.1)
                (posted_after own f ∙ own_posted plan p now call step w other)
                (then_frees own f (own_frees step w still))
                (λ _. after_fate store.bucket store.op r.z own f (tried step stood).0
                (subst (λ (g : ℕ → ℕ → ℕ). TryFate plan store.bucket g r.z p b f) (sym silent.1)
                (subst (λ (g : ℕ → ℕ). TryFate plan g x.store.op r.z p b f) (sym buckets) r.here))
                (since_then r.z r.same step stood other));
          }

      pub stays : (f : Fate) → T s f → R f
      stays f t = stay plan is_plan x s tied all p of_seat call f t

      either_on : (z : State) (f g : Step) (c : Bool) → T z (On f) → T z (On g) → T z (On (cond c f g))
      either_on z f g true l r = l
      either_on z f g false l r = r

      either : (z : State) (f g : Fate) (c : Bool) → T z f → T z g → T z (cond c f g)
      either z f g true l r = l
      either z f g false l r = r

      free_on : (free : List ℕ) → T s (with_free free)
      free_on [] = tt
      free_on (row ∷ free) = tt

      entries_on : (row at left : ℕ) → T s (next_entry row at left)
      entries_on row at left = either_on s (S.HeldEntry row at left) S.Stuck (nat_lt 0 left) tt tt

      given_back : (reply : Option Reply) → T s (gives_back reply)
      given_back None = tt
      given_back (Some reply) = tt

      over_then : (ending : S.Ending) → T s (ended ending)
      over_then (S.Applied reply) = tt
      over_then S.GivenUp = tt

      -- steps outside of a try
      abbrev pub IsCalm : Step → Type 0
      IsCalm (S.CheckWord turn old words) = ⊥
      IsCalm (S.LoadPending t) = ⊥
      IsCalm (S.LoadAnnounced t found) = ⊥
      IsCalm (S.LoadOp t found announced words) = ⊥
      IsCalm (S.StoreRow t found i) = ⊥
      IsCalm (S.Exchange t found) = ⊥
      IsCalm (S.StoreOp i) = ⊥
      IsCalm S.Announce = ⊥
      IsCalm (S.GiveBack reply) = ⊥
      IsCalm (S.Over ending) = ⊥
      IsCalm step = Unit {0}

      calm : (step : Step) → IsCalm step → (w : ℕ) → T s (fate plan p now call step w)
      calm S.Scans c w = go (scan_fate_of plan p now.scan w)
        where
          go : (f : ScanFate) → T s (after_scan now.free f)
          go (ScansOn scan) = tt
          go (Scanned left held) = free_on (now.free ++ left)
      calm (S.LoadWord turn) c w = tt
      calm (S.LoadRow turn old words) c w =
          either_on s (S.LoadRow turn old (more words w)) (S.CheckWord turn old (more words w))
          (nat_lt (length words + 1) (length_by plan (more words w))) tt tt
      calm S.RaisePending c w = tt
      calm S.StoreWant c w = tt
      calm S.StoreAsking c w = tt
      calm S.HeldWord c w = tt
      calm (S.TakeHold old) c w = tt
      calm (S.HeldHead row) c w = entries_on row (entries_start (count_in plan w)) (entries_in plan w)
      calm (S.HeldEntry row at left) c w =
          either s (On (S.HeldReply row (at + 1))) (next_entry row (at + ENTRY_WORDS) (left - 1))
          (w == entry_word p now.posted) tt (entries_on row (at + ENTRY_WORDS) (left - 1))
      calm (S.HeldReply row at) c w = given_back (reply_of_word w)
      calm (S.LowerPending ending) c w = over_then ending
      calm S.Stuck c w = tt
      calm (S.CheckWord turn old words) c w = absurd c
      calm (S.LoadPending t) c w = absurd c
      calm (S.LoadAnnounced t found) c w = absurd c
      calm (S.LoadOp t found announced words) c w = absurd c
      calm (S.StoreRow t found i) c w = absurd c
      calm (S.Exchange t found) c w = absurd c
      calm (S.StoreOp i) c w = absurd c
      calm S.Announce c w = absurd c
      calm (S.GiveBack reply) c w = absurd c
      calm (S.Over ending) c w = absurd c

      pub calm_step : (step : Step) → now.stand ≡ S.Goes call step → IsStill step → IsOther step → IsCalm step →
          M step →
          Follows (Y step)
      calm_step step stood still other c moves =
          plain_step step stood still other moves
          (stays (fate plan p now call step (found_by (deed_of plan p now call step) x.store))
          (calm step c (found_by (deed_of plan p now call step) x.store)))

      -- the hold is given back
      pub back_step : (reply : Reply) → now.stand ≡ S.Goes call (S.GiveBack reply) → M (S.GiveBack reply) →
          Follows (Y (S.GiveBack reply))
      back_step reply stood moves =
          plain_step (S.GiveBack reply) stood tt tt moves
          (stays (On (S.Over (S.Applied reply))) (tried (S.GiveBack reply) stood).2)

      -- a word of the op is stored
      pub op_word_step : (i : ℕ) → now.stand ≡ S.Goes call (S.StoreOp i) → M (S.StoreOp i) → Follows (Y (S.StoreOp i))
      op_word_step i stood moves =
          let v = slice_index (words_of_call call) i in
          let rests = rests_at plan is_plan s p (x.store.announced p) (tied.pends p of_seat) now.posted
          (told (S.StoreOp i) stood).0 in
          record {
            s = s;
            tied = quietly plan is_plan x h s tied reads p inside (with_word x.store (W.OpWord p i) v)
                (seat_after now call (On (cond (nat_lt (i + 1) SLOT_WORDS) (S.StoreOp (i + 1)) S.Announce))) _ _ s
                (same_self plan s p) moves tied.holds refl refl
                (λ k a t j. put_at_row x.store.op p i v k j (λ e. true≢false (sym a ∙ ap s.pending e ∙ rests)) t) refl
                (λ row e. e)
                (λ _. (
                  (tried (S.StoreOp i) stood).0,
                  go (nat_lt (i + 1) SLOT_WORDS),
                  go_late
                      (nat_lt (i + 1) SLOT_WORDS),
                ));
          }
        where
          go_late : (c : Bool) → SinceStep plan s p b (cond c (S.StoreOp (i + 1)) S.Announce)
          go_late true = tt
          go_late false = tt

          go : (c : Bool) →
              TryStep plan x.store.bucket (with_word x.store (W.OpWord p i) (slice_index (words_of_call call) i)).op
              s p b (cond c (S.StoreOp (i + 1)) S.Announce)
          go true = tt
          go false = tt

      -- a word of the new row
      pub row_step : (t : Try) (found : List Found) (i : ℕ) → now.stand ≡ S.Goes call (S.StoreRow t found i) →
          M (S.StoreRow t found i) → Follows (Y (S.StoreRow t found i))
      row_step t found i stood moves =
          let was = tried (S.StoreRow t found i) stood in
          let c = nat_lt (i + 1) (length (new_words plan t found)) in
          record {
            s = s;
            tied = quietly plan is_plan x h s tied reads p inside
                (with_word x.store (W.RowWord (next_row now) i) (slice_index (new_words plan t found) i))
                (seat_after now call (On (cond c (S.StoreRow t found (i + 1)) (S.Exchange t found)))) _ _ s
                (same_self plan s p) moves tied.holds refl refl (λ k a. refl) refl (λ row e. e)
                (λ _. (
                  was.0,
                  either_on s (S.StoreRow t found (i + 1))
                      (S.Exchange t found) c was.1 was.1,
                  go_late was.2 c,
                ));
          }
        where
          go_late : SinceStep plan s p b (S.StoreRow t found i) → (c : Bool) →
              SinceStep plan s p b (cond c (S.StoreRow t found (i + 1)) (S.Exchange t found))
          go_late l true = l
          go_late l false = l

      -- ---- it is announced

      pub announce_step : now.stand ≡ S.Goes call S.Announce → M S.Announce → Follows (Y S.Announce)
      announce_step stood moves = record {
        s = z;
        tied = assemble plan is_plan x h s tied reads p inside
            (with_word x.store (W.Announced p) (announcing now.posted b))
            (seat_after now call (On (S.LoadWord 2))) _ _ z moves
            (A.announced_keeps plan.settings.seats (last_generation plan) s tied.holds p b of_seat rests) tied.gens
            tied.rows (λ _. tied.posted p of_seat) pends
            (λ q less n. record {
              tries = refl;
              later = record {
                posted = refl;
                pending = put_other s.pending p true q n;
                home = put_other s.home p b q n;
                since = put_other s.since p (s.generation b) q n;
                grows = λ c. omega arith;
                stays = λ a e. e;
              };
              waits = λ a m l. (m, l);
            }) (λ k a. refl) (λ _. ((tried S.Announce stood).0, tt, late_first))
            (olds_kept plan is_plan x h s tied reads p inside
            (with_word x.store (W.Announced p) (announcing now.posted b))
            (seat_after now call (On (S.LoadWord 2))) _ _ z refl moves (λ row e. e));
      }
        where
          z : State
          z = A.announced plan.settings.seats (last_generation plan) s p b

          late_first : IsLate plan z p 2 (z.generation b)
          late_first e = (let now_is = put_same s.since p (s.generation b) in omega (arith, now_is))

          rests : s.pending p ≡ false
          rests = rests_at plan is_plan s p (x.store.announced p) (tied.pends p of_seat) now.posted
              (told S.Announce stood).0

          w : ℕ
          w = announcing now.posted b

          other : (q : ℕ) → q ≢ p → Pends plan s q (x.store.announced q) → Pends plan z q (put x.store.announced p w q)
          other q n (inl a) = inl (put_other s.pending p true q n ∙ a.0, put_other x.store.announced p w q n ∙ a.1)
          other q n (inr a) = inr (
            put_other s.pending p true q n ∙ a.0,
            put_other x.store.announced p w q n ∙ a.1 ∙ ap (announcing (s.posted q)) (sym (put_other s.home p b q n)),
            subst (λ k. k < buckets_of plan.settings) (sym (put_other s.home p b q n)) a.2,
          )

          mine : Pends plan z p (put x.store.announced p w p)
          mine = inr (
            put_same s.pending p true,
            put_same x.store.announced p w ∙ ap (λ n. announcing n b) (sym (tied.posted p of_seat))
                ∙ ap (announcing (s.posted p)) (sym (put_same s.home p b)),
            subst (λ k. k < buckets_of plan.settings) (sym (put_same s.home p b)) small,
          )

          pends : (q : ℕ) → q < plan.settings.seats → Pends plan z q (put x.store.announced p w q)
          pends q less = elim (cases_eq q p) [
            | inl e ↦ subst (λ i. Pends plan z i (put x.store.announced p w i)) (sym e) mine
            | inr n ↦ other q n (tied.pends q less)
          ]

      -- ---- and over

      -- where its op was applied, or given up
      module _ (ending : S.Ending) (stood : now.stand ≡ S.Goes call (S.Over ending)) (moves : M (S.Over ending))
          (done : ℕ → ℕ)
          (grows : (q : ℕ) → s.done q ≤ done q) where
        abbrev w : ℕ
        w = over now.posted

        abbrev over_state : State
        over_state = record s { pending = put s.pending p false; posted = put s.posted p (s.posted p + 1); done = done }

        other : (q : ℕ) → q ≢ p → Pends plan s q (x.store.announced q) →
            Pends plan over_state q (put x.store.announced p w q)
        other q n (inl a) = inl (
          put_other s.pending p false q n ∙ a.0,
          put_other x.store.announced p w q n ∙ a.1 ∙ ap at_rest (sym (put_other s.posted p (s.posted p + 1) q n)),
        )
        other q n (inr a) = inr (
          put_other s.pending p false q n ∙ a.0,
          put_other x.store.announced p w q n ∙ a.1
              ∙ ap (λ m. announcing m (s.home q)) (sym (put_other s.posted p (s.posted p + 1) q n)),
          a.2,
        )

        counted_up : suc now.posted ≡ put s.posted p (s.posted p + 1) p
        counted_up =
            (let e = tied.posted p of_seat in let k = put_same s.posted p (s.posted p + 1) in omega (arith, e, k))

        mine : Pends plan over_state p (put x.store.announced p w p)
        mine = inl (put_same s.pending p false, put_same x.store.announced p w ∙ ap at_rest counted_up)

        pends : (q : ℕ) → q < plan.settings.seats → Pends plan over_state q (put x.store.announced p w q)
        pends q less = elim (cases_eq q p) [
          | inl e ↦ subst (λ i. Pends plan over_state i (put x.store.announced p w i)) (sym e) mine
          | inr n ↦ other q n (tied.pends q less)
        ]

        ends_it : Holds plan.settings.seats (last_generation plan) over_state → Follows (Y (S.Over ending))
        ends_it holds = record {
          s = over_state;
          tied = assemble plan is_plan x h s tied reads p inside (with_word x.store (W.Announced p) w)
              (seat_after (record now { posted = now.posted + 1 }) call
              (On (S.LowerPending ending))) _ _ over_state moves holds
              tied.gens tied.rows
              (λ _. put_same s.posted p (s.posted p + 1) ∙ ap (λ n. n + 1) (tied.posted p of_seat)) pends
              (λ q less n. record {
                tries = refl;
                later = record {
                  posted = put_other s.posted p (s.posted p + 1) q n;
                  pending = put_other s.pending p false q n;
                  home = refl;
                  since = refl;
                  grows = λ c. omega arith;
                  stays = λ a e. e;
                };
                waits = λ a m l. (m, l);
              }) (λ k a. refl) (λ _. ((tried (S.Over ending) stood).0, tt, tt)) (λ row q live less.
              (let old = olds_kept plan is_plan x h s tied reads p inside (with_word x.store (W.Announced p) w)
              (seat_after (record now { posted = now.posted + 1 }) call (On (S.LowerPending ending))) _ _ s refl moves
              (λ row e. e) row q live less in
              let up = grows q in omega (arith, old, up)));
        }

      pub over_step : (ending : S.Ending) → now.stand ≡ S.Goes call (S.Over ending) → M (S.Over ending) →
          Follows (Y (S.Over ending))
      over_step (S.Applied reply) stood moves =
          let was = (tried (S.Over (S.Applied reply)) stood).1 in
          ends_it (S.Applied reply) stood moves s.done (λ q. omega arith)
          (A.ended_keeps plan.settings.seats (last_generation plan) s tied.holds p was.0
          (ap (λ c. s.entry c p) was.1 ∙ was.2))
      over_step S.GivenUp stood moves =
          let was = (tried (S.Over S.GivenUp) stood).1 in
          ends_it S.GivenUp stood moves (put s.done p (s.done p + 1))
          (λ q. elim (either_put s.done p (s.done p + 1) q) [
            | inl e ↦ (let now_is = e.1 in let same = ap s.done e.0 in omega (arith, now_is, same))
            | inr n ↦ (let now_is = n.1 in omega (arith, now_is))
          ])
          (A.given_up_keeps plan.settings.seats (last_generation plan) s tied.holds p was.0
          (λ e. was.2 (ap (λ c. s.entry c p) (sym was.1) ∙ e)) (ap s.generation was.1 ∙ was.3))
