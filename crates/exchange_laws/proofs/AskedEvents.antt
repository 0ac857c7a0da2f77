-- Each event keeps what is asked: the updates of a seat that were made are those that it was answered, in order, and at
-- most the one that it has under way.
use Rattle.std.proofs.Common.{◌≡◌, ◌≢◌, ℕ, ◌+◌, ◌-◌, ◌<◌, Bool, true, false, cond, List, [], ◌∷◌, ◌++◌, length, Option, Some, None, refl, sym, ap, ◌∙◌, subst, arith, true≢false, append-nil, get_or-set_same, get_or-set_other, inl, inr}
use Rattle.std.specs.Prelude.{◌==◌, nat_lt, filter_map}
use Rattle.std.proofs.lemmas.Bool.{cases_eq, cond_both, eqb-true, eq-eqb, ne_eqb}
use Rattle.std.proofs.lemmas.List.Elements.{filter_map-append}
use Rattle.list_laws.proofs.Totals.{many}
use Rattle.plain_map.specs.declared.calls.Call.{Call}
use Rattle.plain_map.specs.declared.calls.Reply.{Reply}
use Rattle.plain_map.specs.declared.keys.Pair.{Pair}
use Rattle.plain_map.specs.Updates.{IsUpdate}
use Rattle.plain_map.specs.Calls.{key_in}
use Rattle.map_laws.specs.ByKey.{Made}
use Rattle.word_rows.specs.ReplyWords.{reply_of_word}
use Rattle.bucket_states.specs.Items.{reply_in}
use Rattle.exchange_model.specs.Plans.{rules_of, holders_of, Plan, IsPlan, more}
use Rattle.exchange_model.specs.Codes.{is_spent, SLOT_WORDS, ENTRY_WORDS, Entry, Row, row_in, row_at, row_of_words, length_by, count_in, entries_in, entries_start, number_in, is_pending, announcing, over}
use Rattle.exchange_model.specs.Words as W
use Rattle.exchange_model.specs.Steps as S
use Rattle.exchange_model.specs.Steps.{MadeBySeat, Step, Stand, SeatNow, Found, NoOp, Keeps, Takes, Try, deed_of, bucket_of_call, new_words, SOLO_TRIES, ALL_TRIES}
use Rattle.exchange_model.specs.Goes.{gives_up, gives_back, unless_spent, is_quiet, share_of, own_op, found_alone, ScanFate, ScansOn, Scanned, scan_fate_of, Fate, On, Ends, Spends, Refuses, with_free, after_scan, is_announced, lost, ends_with, with_own, found_so_far, by_entry, looked, is_here, entry_for, entry_word, after_entry, op_in, next_entry, fate, own_after}
use Rattle.exchange_model.specs.Worlds.{made_quietly, World, Answer, seat_in, with_seat, ticked, found_by, store_after, seat_after, answers_after, stepped, goes, nobody, made_by_step}
use Rattle.exchange_model.specs.Laws.{made_by, updates_by, ReadsHeld}
use Rattle.exchange_laws.proofs.RowLists.{is_row}
use Rattle.exchange_laws.proofs.Words.{bucket_small, seat_holds}
use Rattle.exchange_laws.proofs.Owned.{Owned}
use Rattle.exchange_laws.proofs.OwnedMoves.{Moves}
use Rattle.exchange_laws.proofs.TrueReads.{Reads, ReadsAt, whole_row}
use Rattle.exchange_laws.proofs.FoundOps.{FoundOk}
use Rattle.exchange_laws.proofs.StoredRows.{Stored}
use Rattle.exchange_laws.proofs.Announcing.{State}
use Rattle.exchange_laws.proofs.Announcements.{at_rest, Tells, TellsStep, TellsAt, Announces}
use Rattle.exchange_laws.proofs.OpTells.{announcing_pends, rest_pends_not}
use Rattle.exchange_laws.proofs.Tied.{row_now, NotFree, Tied, TryAt, small20}
use Rattle.exchange_laws.proofs.TiedMoves.{live_same, same_row}
use Rattle.exchange_laws.proofs.TiedSteps as TS
use Rattle.exchange_laws.proofs.TiedSteps.{AreCounted}
use Rattle.exchange_laws.proofs.HeldFinds.{Finds, FindsAt}
use Rattle.exchange_laws.proofs.FoundFrom.{Froms}
use Rattle.exchange_laws.proofs.TakenCalls.{call_under, calls_in, Taken}
use Rattle.exchange_laws.proofs.Asked.{reply_of_entry, updates_of, home_entries, reply_now, under, RepliesIn, Asks, Quiet, Turns, turn_asked, turn_replies, reply_same, OverStep, OverAt, answer_own, answer_other, answer_refused, answer_spent, owed, owed_step, settled}

module _ (plan : Plan) (is_plan : IsPlan plan) (x : World) (h : Owned plan x) (reads : Reads plan x)
    (finds : FoundOk plan x)
    (stored : Stored plan x) (all : Announces plan x) (counted : AreCounted plan is_plan x) (s : State)
    (tied : Tied plan x s)
    (froms : Froms plan x) (taken : Taken plan x) (sees : Finds plan x)
    (lives : (q row : ℕ) → ReadsHeld (seat_in x q).stand row → NotFree plan x row) (asks : Asks plan x) where
  -- a seat that has announced an op, and one that has not
  pub announced_pends : (q : ℕ) (call : Call) (posted : ℕ) →
      x.store.announced q ≡ announcing posted (bucket_of_call plan call) →
      is_pending (x.store.announced q) ≡ true
  announced_pends q call posted e =
      ap is_pending e ∙ announcing_pends posted (bucket_of_call plan call)
      (small20 plan is_plan (bucket_of_call plan call) (bucket_small plan is_plan (key_in call)))

  pub resting : (q posted : ℕ) → x.store.announced q ≡ at_rest posted → is_pending (x.store.announced q) ≡ false
  resting q posted e = ap is_pending e ∙ rest_pends_not posted

  -- what is told at the end of an announcement is told while it is announced
  over_pends : (q : ℕ) → q < plan.settings.seats → (stand : Stand) → (seat_in x q).stand ≡ stand →
      (told then : Option Reply) →
      (is_pending (x.store.announced q) ≡ true → then ≡ told) → OverAt told stand → OverAt then stand
  over_pends q less S.Idle e told then same o = tt
  over_pends q less (S.Glances aim glance) e told then same o = tt
  over_pends q less (S.Goes call step) e told then same o =
      go step (subst (TellsAt plan (x.store.announced q) (x.store.op q) (seat_in x q).posted) e
      (all.each q (seat_holds plan q less))) o
    where
      go : (step : Step) →
          TellsStep (x.store.announced q) (x.store.op q) (seat_in x q).posted (bucket_of_call plan call) call step →
          OverStep told step → OverStep then step
      go (S.GiveBack reply) t o = same (announced_pends q call (seat_in x q).posted t.0) ∙ o
      go (S.Over (S.Applied reply)) t o = same (announced_pends q call (seat_in x q).posted t.0) ∙ o
      go (S.Over S.GivenUp) t o = same (announced_pends q call (seat_in x q).posted t.0) ∙ o
      go (S.LowerPending ending) t o = tt
      go (S.LoadPending a) t o = tt
      go S.RaisePending t o = tt
      go S.Scans t o = tt
      go (S.LoadWord turn) t o = tt
      go (S.LoadRow turn old words) t o = tt
      go (S.CheckWord turn old words) t o = tt
      go (S.LoadAnnounced t found) k o = tt
      go (S.LoadOp t found announced words) k o = tt
      go (S.StoreRow t found i) k o = tt
      go (S.Exchange t found) k o = tt
      go (S.StoreOp i) t o = tt
      go S.Announce t o = tt
      go S.StoreWant t o = tt
      go S.StoreAsking t o = tt
      go S.HeldWord t o = tt
      go (S.TakeHold old) t o = tt
      go (S.HeldHead row) t o = tt
      go (S.HeldEntry row at left) t o = tt
      go (S.HeldReply row at) t o = tt
      go S.Stuck t o = tt

  module _ (p : ℕ) (inside : p < holders_of plan.settings) where
    abbrev now : SeatNow
    now = seat_in x p

    module _ (store : W.Store) (then : SeatNow) (answers : List Answer) (updates : List MadeBySeat) where
      abbrev Y : World
      Y = ticked (with_seat x p store then answers updates)

      pub at_p : seat_in Y p ≡ then
      at_p = get_or-set_same x.seats p then nobody (let long = h.long in omega (arith, inside, long))

      at_q : (q : ℕ) → q ≢ p → seat_in Y q ≡ seat_in x q
      at_q q n = get_or-set_other x.seats p q then nobody n

      live_before : ((row : ℕ) → many (is_row row) then.free ≡ 0 → many (is_row row) now.free ≡ 0) → (row : ℕ) →
          NotFree plan Y row → NotFree plan x row
      live_before frees row none k inside_k = elim (cases_eq k p) [
        | inl e ↦ ap (λ i. many (is_row row) (seat_in x i).free) e
            ∙ frees row (sym (ap (λ (n : SeatNow). many (is_row row) n.free) at_p) ∙ none p inside)
        | inr n ↦ sym (ap (λ (n : SeatNow). many (is_row row) n.free) (at_q k n)) ∙ none k inside_k
      ]

      -- where no bucket word is another one and nothing is made of the others
      module _ (moves : Moves plan h.at x Y) (buckets : store.bucket ≡ x.store.bucket)
          (words : (q : ℕ) → q ≢ p → store.announced q ≡ x.store.announced q) (made : (q : ℕ) → q ≢ p →
          made_by q updates ≡ made_by q x.made)
          (told : (q : ℕ) → q ≢ p → updates_by q answers ≡ updates_by q x.answers)
          (frees : (row : ℕ) → many (is_row row) then.free ≡ 0 → many (is_row row) now.free ≡ 0) where
        same_now : (q : ℕ) → (seat_in Y q).posted ≡ (seat_in x q).posted → calls_in Y q ≡ calls_in x q →
            reply_now plan Y q ≡ reply_now plan x q
        same_now q posted calls =
            reply_same plan is_plan x Y q (same_row plan is_plan x h s tied Y moves buckets) posted calls

        quiet_q : (q : ℕ) → q ≢ p → Quiet plan x Y q
        quiet_q q n = record {
          word = words q n;
          posted = ap (λ (k : SeatNow). k.posted) (at_q q n);
          calls = λ _. ap (λ (k : SeatNow). call_under k.stand) (at_q q n);
          answers = ap (λ (ms : List Made). ms ++ owed (seat_in Y q).stand) (told q n)
              ∙ ap (λ (k : SeatNow). updates_by q x.answers ++ owed k.stand) (at_q q n);
        }

        turn_q : (q : ℕ) → q ≢ p → Turns plan x Y q
        turn_q q n = inl (
          made q n,
          λ _. same_now q (ap (λ (k : SeatNow). k.posted) (at_q q n)) (ap (λ (k : SeatNow). call_under k.stand)
              (at_q q n)),
        )

        row_same : (row : ℕ) → NotFree plan x row → store.row row ≡ x.store.row row
        row_same row live = λ k i. live_same plan is_plan x h s tied Y moves row i live k

        pub by_own : (p < plan.settings.seats → made_by p updates ≡ settled Y p ++ under plan Y p) →
            (p < plan.settings.seats → (row : ℕ) → NotFree plan x row → RepliesIn plan Y row p) →
            (p < plan.settings.seats → OverAt (reply_now plan Y p) then.stand) → Asks plan Y
        by_own asked replies over = record {
          asked = λ q less. elim (cases_eq q p) [
            | inl e ↦ subst (λ i. made_by i updates ≡ settled Y i ++ under plan Y i) (sym e)
                (asked (subst (λ k. k < plan.settings.seats) e less))
            | inr n ↦ turn_asked plan x Y q (quiet_q q n) (turn_q q n) (asks.asked q less)
          ];
          replies = λ row q live less. elim (cases_eq q p) [
            | inl e ↦ subst (RepliesIn plan Y row) (sym e)
                (replies (subst (λ k. k < plan.settings.seats) e less) row (live_before frees row live))
            | inr n ↦
                let was = live_before frees row live in
                turn_replies plan x Y q (quiet_q q n) (turn_q q n) row (row_same row was) (asks.replies row q was less)
          ];
          overs = λ q less. elim (cases_eq q p) [
            | inl e ↦ subst (λ i. OverAt (reply_now plan Y i) (seat_in Y i).stand) (sym e)
                (subst (λ (k : SeatNow). OverAt (reply_now plan Y p) k.stand) (sym at_p)
                (over (subst (λ k. k < plan.settings.seats) e less)))
            | inr n ↦ subst (λ (k : SeatNow). OverAt (reply_now plan Y q) k.stand) (sym (at_q q n))
                (over_pends q less (seat_in x q).stand refl (reply_now plan x q) (reply_now plan Y q)
                (λ _. same_now q (ap (λ (k : SeatNow). k.posted) (at_q q n)) (ap (λ (k : SeatNow). call_under k.stand)
                (at_q q n)))
                (asks.overs q less))
          ];
        }

        -- and of the own seat neither
        pub calmly : store.announced p ≡ x.store.announced p → then.posted ≡ now.posted →
            (is_pending (x.store.announced p) ≡ true → call_under then.stand ≡ call_under now.stand) →
            made_by p updates ≡ made_by p x.made →
            updates_by p answers ++ owed then.stand ≡ updates_by p x.answers ++ owed now.stand →
            ((told : Option Reply) → (is_pending (x.store.announced p) ≡ true → told ≡ reply_now plan x p) →
            OverAt told then.stand) →
            Asks plan Y
        calmly word posted calls own_made own over =
            by_own (λ of_seat. turn_asked plan x Y p quiet turn (asks.asked p of_seat))
            (λ of_seat row live.
            turn_replies plan x Y p quiet turn row (row_same row live) (asks.replies row p live of_seat))
            (λ _. over (reply_now plan Y p) (λ e. same_now p posted_is (calls_are e)))
          where
            posted_is : (seat_in Y p).posted ≡ now.posted
            posted_is = ap (λ (k : SeatNow). k.posted) at_p ∙ posted

            calls_are : is_pending (x.store.announced p) ≡ true → calls_in Y p ≡ calls_in x p
            calls_are e = ap (λ (k : SeatNow). call_under k.stand) at_p ∙ calls e

            quiet : Quiet plan x Y p
            quiet = record {
              word = word;
              posted = posted_is;
              calls = calls_are;
              answers = ap (λ (k : SeatNow). updates_by p answers ++ owed k.stand) at_p ∙ own;
            }

            turn : Turns plan x Y p
            turn = inl (own_made, λ e. same_now p posted_is (calls_are e))

    -- ---- where a step leads

    module _ (call : Call) (of_seat : p < plan.settings.seats) where
      abbrev b : ℕ
      b = bucket_of_call plan call

      -- it goes on, and where that is the end of the announcement the row in use tells the reply; or it is answered,
      -- where no op is announced
      abbrev pub C : Fate → Type 0
      C (On step) =
          ((told : Option Reply) → (is_pending (x.store.announced p) ≡ true → told ≡ reply_now plan x p) →
          OverStep told step)
          × (owed_step call step ≡ [])
      C (Ends reply) = ⊥
      C Spends = is_pending (x.store.announced p) ≡ false
      C Refuses = is_pending (x.store.announced p) ≡ false

      either : (f g : Fate) (c : Bool) → C f → C g → C (cond c f g)
      either f g true l r = l
      either f g false l r = r

      either_on : (f g : Step) (c : Bool) → C (On f) → C (On g) → C (On (cond c f g))
      either_on f g true l r = l
      either_on f g false l r = r

      pub loses : (turn : ℕ) → C (lost turn)
      loses turn =
          either (On S.RaisePending) (cond (turn == ALL_TRIES) (On S.StoreWant) (On (S.LoadWord (turn + 1))))
          (turn == SOLO_TRIES) (λ told is. tt, refl) (either (On S.StoreWant) (On (S.LoadWord (turn + 1))) (turn ==
          ALL_TRIES)
          (λ told is. tt, refl) (λ told is. tt, refl))

      free_on : (free : List ℕ) → is_pending (x.store.announced p) ≡ false → C (with_free free)
      free_on [] rests = rests
      free_on (r ∷ free) rests = (λ told is. tt, refl)

      to_ops : (t : Try) (found : List Found) → C (found_so_far plan p now call t found)
      to_ops t found =
          let fs = with_own p now call t.turn found in
          either_on (S.LoadAnnounced t fs) (S.StoreRow t fs 0) (nat_lt (length fs) plan.settings.seats)
          (λ told is. tt, refl)
          (λ told is. tt, refl)

      to_entry : (t : Try) (found : List Found) (announced : ℕ) (entry : Option Entry) →
          C (after_entry plan p now call t found announced entry)
      to_entry t found announced None = (λ told is. tt, refl)
      to_entry t found announced (Some entry) = to_ops t (more found (Keeps entry))

      entries_on : (row at left : ℕ) → C (next_entry row at left)
      entries_on row at left =
          either_on (S.HeldEntry row at left) S.Stuck (nat_lt 0 left) (λ told is. tt, refl) (λ told is. tt, refl)

      ends : is_pending (x.store.announced p) ≡ true → (reply : Option Reply) →
          ((r : Reply) → reply ≡ Some r → reply_now plan x p ≡ Some r) → C (ends_with true reply)
      ends pends None same = (λ told is. tt, refl)
      ends pends (Some r) same = (λ told is. is pends ∙ same r refl, refl)

      backs : is_pending (x.store.announced p) ≡ true → (reply : Option Reply) →
          ((r : Reply) → reply ≡ Some r → reply_now plan x p ≡ Some r) → C (gives_back reply)
      backs pends None same = (λ told is. tt, refl)
      backs pends (Some r) same = (λ told is. is pends ∙ same r refl, refl)

      module _ (step : Step) (stood : now.stand ≡ S.Goes call step) where
        pub tells : TellsStep (x.store.announced p) (x.store.op p) now.posted b call step
        tells =
            let said : TellsAt plan (x.store.announced p) (x.store.op p) now.posted (S.Goes call step) =
            subst (TellsAt plan (x.store.announced p) (x.store.op p) now.posted) stood (all.each p inside) in
            said

        pub told_is : reply_now plan x p ≡ reply_of_entry (entry_for p now.posted (row_now plan x b).entries)
        told_is = ap (λ (k : Stand). reply_of_entry (entry_for p now.posted (home_entries plan x (call_under k)))) stood

      -- the row that was read has the entry, or it has none and the bucket is spent
      module _ (turn old : ℕ) (words : List ℕ) (stood : now.stand ≡ S.Goes call (S.CheckWord turn old words)) where
        abbrev t : Try
        t = record { turn = turn; word = old; row = row_of_words plan words }

        abbrev is_answered : Bool
        is_answered = is_quiet (rules_of plan) t.row.items call

        abbrev answer : Reply
        answer = reply_in (rules_of plan) t.row.items call

        row_is : x.store.bucket b ≡ old → t.row ≡ row_now plan x b
        row_is same =
            let r : ReadsAt plan x (S.Goes call (S.CheckWord turn old words)) =
            subst (ReadsAt plan x) stood (reads.each p inside) in
            whole_row plan words (x.store.row (row_in plan old)) (r.0.front same) r.1
            ∙ ap (λ w. row_at plan (x.store.row (row_in plan w))) (sym same)

        check_pends : is_announced turn ≡ true → is_pending (x.store.announced p) ≡ true
        check_pends a =
            let said : Tells true (x.store.announced p) (x.store.op p) now.posted b call =
            subst (λ (c : Bool). Tells c (x.store.announced p) (x.store.op p) now.posted b call) a
            (tells (S.CheckWord turn old words) stood) in
            announced_pends p call now.posted said.0

        check_rests : is_announced turn ≡ false → is_pending (x.store.announced p) ≡ false
        check_rests a =
            let said : Tells false (x.store.announced p) (x.store.op p) now.posted b call =
            subst (λ (c : Bool). Tells c (x.store.announced p) (x.store.op p) now.posted b call) a
            (tells (S.CheckWord turn old words) stood) in
            resting p now.posted said

        told_by_row : x.store.bucket b ≡ old → (o : Option Entry) → entry_for p now.posted t.row.entries ≡ o →
            reply_now plan x p ≡ reply_of_entry o
        told_by_row same o is =
            told_is (S.CheckWord turn old words) stood
            ∙ ap (λ (k : Row). reply_of_entry (entry_for p now.posted k.entries)) (sym (row_is same))
            ∙ ap reply_of_entry is

        unless : x.store.bucket b ≡ old → (is_announced turn ≡ true → reply_now plan x p ≡ None) →
            C (unless_spent plan t)
        unless same none =
            either (gives_up (is_announced turn)) (On (S.LoadPending t)) (is_spent plan old)
            (go (is_announced turn) refl)
            (λ told is. tt, refl)
          where
            go : (a : Bool) → is_announced turn ≡ a → C (gives_up a)
            go true a = (λ told is. is (check_pends a) ∙ none a, refl)
            go false a = check_rests a

        by_own_entry : x.store.bucket b ≡ old → is_announced turn ≡ true → (o : Option Entry) →
            entry_for p now.posted t.row.entries ≡ o → C (by_entry plan t o)
        by_own_entry same a None is = unless same (λ _. told_by_row same None is)
        by_own_entry same a (Some entry) is =
            ends (check_pends a) entry.reply (λ r e. told_by_row same (Some entry) is ∙ e)

        check : ((x.store.bucket b == old) ≡ true → is_announced turn ≡ false → is_answered ≡ false) →
            C (fate plan p now call (S.CheckWord turn old words) (x.store.bucket b))
        check loud = cond_both (x.store.bucket b == old) (looked plan p now call t) (lost turn) C
            (λ e. cond_both (is_announced turn) (by_entry plan t (entry_for p now.posted t.row.entries))
            (cond is_answered (Ends answer) (unless_spent plan t)) C
            (λ a. by_own_entry (eqb-true (x.store.bucket b) old e) a (entry_for p now.posted t.row.entries) refl)
            (λ a. subst (λ (c : Bool). C (cond c (Ends answer) (unless_spent plan t))) (sym (loud e a))
            (unless (eqb-true (x.store.bucket b) old e) (λ i. absurd (true≢false (sym i ∙ a))))))
            (λ e. loses turn)

      -- and so has the one that is held
      reply_read : (row at : ℕ) → now.stand ≡ S.Goes call (S.HeldReply row at) →
          C (fate plan p now call (S.HeldReply row at) (x.store.row row at))
      reply_read row at stood =
          let f : FindsAt plan x.store.row p now.posted (S.Goes call (S.HeldReply row at)) =
          subst (FindsAt plan x.store.row p now.posted) stood (sees.each p of_seat) in
          let pends = announced_pends p call now.posted (tells (S.HeldReply row at) stood).0 in
          let live = lives p row (subst (λ (k : Stand). ReadsHeld k row) (sym stood) refl) in
          let z = asks.replies row p live of_seat pends f.0 f.1 in
          backs pends (reply_of_word (x.store.row row at)) (λ r e. z.2 ∙ sym z.1 ∙ f.2 ∙ e)

      reply_known : (reply : Reply) → now.stand ≡ S.Goes call (S.GiveBack reply) → C (On (S.Over (S.Applied reply)))
      reply_known reply stood =
          let o : OverAt (reply_now plan x p) (S.Goes call (S.GiveBack reply)) =
          subst (OverAt (reply_now plan x p)) stood (asks.overs p of_seat) in
          (λ told is. is (announced_pends p call now.posted (tells (S.GiveBack reply) stood).0) ∙ o, refl)

      -- steps that make nothing and end nothing
      abbrev pub IsCalm : Step → Type 0
      IsCalm (S.CheckWord turn old words) = ⊥
      IsCalm (S.Exchange t found) = ⊥
      IsCalm S.Announce = ⊥
      IsCalm (S.Over ending) = ⊥
      IsCalm (S.LowerPending ending) = ⊥
      IsCalm step = Unit {0}

      fated : (step : Step) → now.stand ≡ S.Goes call step → IsCalm step →
          C (fate plan p now call step (found_by (deed_of plan p now call step) x.store))
      fated S.Scans stood c = go (scan_fate_of plan p now.scan (found_by (deed_of plan p now call S.Scans) x.store))
        where
          go : (f : ScanFate) → C (after_scan now.free f)
          go (ScansOn scan) = (λ told is. tt, refl)
          go (Scanned left held) = free_on (now.free ++ left) (resting p now.posted (tells S.Scans stood))
      fated (S.LoadWord turn) stood c = (λ told is. tt, refl)
      fated (S.LoadRow turn old words) stood c =
          let w = found_by (deed_of plan p now call (S.LoadRow turn old words)) x.store in
          either_on (S.LoadRow turn old (more words w)) (S.CheckWord turn old (more words w))
          (nat_lt (length words + 1) (length_by plan (more words w))) (λ told is. tt, refl) (λ told is. tt, refl)
      fated (S.LoadPending t) stood c =
          either (On (S.StoreRow t (found_alone p (own_op now.posted t.turn call) plan.settings.seats []) 0))
          (found_so_far plan p now call t []) (x.store.pending == share_of (is_announced t.turn))
          (λ told is. tt, refl) (to_ops t [])
      fated (S.LoadAnnounced t found) stood c =
          let w = x.store.announced (length found) in
          let entry = entry_for (length found) (number_in w) t.row.entries in
          either (after_entry plan p now call t found w entry) (found_so_far plan p now call t (more found NoOp))
          (is_here plan b w) (to_entry t found w entry) (to_ops t (more found NoOp))
      fated (S.LoadOp t found announced words) stood c =
          let w = x.store.op (length found) (length words) in
          let one = Takes (op_in announced (more words w)) in
          either (On (S.LoadOp t found announced (more words w))) (found_so_far plan p now call t (more found one))
          (nat_lt (length words + 1) SLOT_WORDS) (λ told is. tt, refl) (to_ops t (more found one))
      fated (S.StoreRow t found i) stood c =
          either_on (S.StoreRow t found (i + 1)) (S.Exchange t found) (nat_lt (i + 1) (length (new_words plan t found)))
          (λ told is. tt, refl) (λ told is. tt, refl)
      fated S.RaisePending stood c = (λ told is. tt, refl)
      fated (S.StoreOp i) stood c =
          either_on (S.StoreOp (i + 1)) S.Announce (nat_lt (i + 1) SLOT_WORDS) (λ told is. tt, refl)
          (λ told is. tt, refl)
      fated S.StoreWant stood c = (λ told is. tt, refl)
      fated S.StoreAsking stood c = (λ told is. tt, refl)
      fated S.HeldWord stood c = (λ told is. tt, refl)
      fated (S.TakeHold old) stood c = (λ told is. tt, refl)
      fated (S.HeldHead row) stood c =
          let w = x.store.row row 0 in entries_on row (entries_start (count_in plan w)) (entries_in plan w)
      fated (S.HeldEntry row at left) stood c =
          either (On (S.HeldReply row (at + 1))) (next_entry row (at + ENTRY_WORDS) (left - 1))
          (x.store.row row at == entry_word p now.posted) (λ told is. tt, refl)
          (entries_on row (at + ENTRY_WORDS) (left - 1))
      fated (S.HeldReply row at) stood c = reply_read row at stood
      fated (S.GiveBack reply) stood c = reply_known reply stood
      fated S.Stuck stood c = (λ told is. tt, refl)
      fated (S.CheckWord turn old words) stood c = absurd c
      fated (S.Exchange t found) stood c = absurd c
      fated S.Announce stood c = absurd c
      fated (S.Over ending) stood c = absurd c
      fated (S.LowerPending ending) stood c = absurd c

      -- ---- the steps

      abbrev After : Step → World
      After step = ticked (goes plan x p now call step)

      after_fate : (own : SeatNow) (f : Fate) → C f → (told : Option Reply) →
          (is_pending (x.store.announced p) ≡ true → told ≡ reply_now plan x p) →
          OverAt told (seat_after own call f).stand
      after_fate own (On step) c told is = c.0 told is
      after_fate own (Ends reply) c told is = tt
      after_fate own Spends c told is = tt
      after_fate own Refuses c told is = tt

      after_calls : (own : SeatNow) (f : Fate) → C f → is_pending (x.store.announced p) ≡ true →
          call_under (seat_after own call f).stand ≡ Some call
      after_calls own (On step) c e = refl
      after_calls own (Ends reply) c e = absurd c
      after_calls own Spends c e = absurd (true≢false (sym e ∙ c))
      after_calls own Refuses c e = absurd (true≢false (sym e ∙ c))

      after_answers : (q : ℕ) (f : Fate) → C f →
          updates_by q (answers_after x p call (stepped now.course) f) ≡ updates_by q x.answers
      after_answers q (On step) c = refl
      after_answers q (Ends reply) c = absurd c
      after_answers q Spends c = answer_spent x q p call (stepped now.course)
      after_answers q Refuses c = answer_refused x q p call (stepped now.course)

      after_owed : (own : SeatNow) (f : Fate) → C f → owed (seat_after own call f).stand ≡ []
      after_owed own (On step) c = c.1
      after_owed own (Ends reply) c = refl
      after_owed own Spends c = refl
      after_owed own Refuses c = refl

      -- a step that stores neither a bucket word nor an announcement
      pub calm_by : (step : Step) → now.stand ≡ S.Goes call step → owed_step call step ≡ [] →
          C (fate plan p now call step (found_by (deed_of plan p now call step) x.store)) →
          Moves plan h.at x (After step) →
          (store_after (deed_of plan p now call step) x.store).bucket ≡ x.store.bucket →
          (store_after (deed_of plan p now call step) x.store).announced ≡ x.store.announced →
          (own_after plan p now call step (found_by (deed_of plan p now call step) x.store)).posted ≡ now.posted →
          ((row : ℕ) →
          many (is_row row)
          (own_after plan p now call step (found_by (deed_of plan p now call step) x.store)).free ≡ 0 →
          many (is_row row) now.free ≡ 0) →
          made_by_step plan p call step (found_by (deed_of plan p now call step) x.store) ≡ [] → Asks plan (After step)
      calm_by step stood owes c moves buckets words posted frees none =
          let deed = deed_of plan p now call step in
          let w = found_by deed x.store in
          let own = own_after plan p now call step w in
          let f = fate plan p now call step w in
          calmly (store_after deed x.store) (seat_after own call f) (answers_after x p call (stepped now.course) f)
          (x.made ++ made_by_step plan p call step w) moves buckets (λ q n. ap (λ (g : ℕ → ℕ). g q) words)
          (λ q n. ap (λ (ms : List MadeBySeat). made_by q (x.made ++ ms)) none ∙ ap (made_by q) (append-nil x.made))
          (λ q n. after_answers q f c)
          (TS.then_frees plan is_plan x h reads finds stored all counted s tied p inside call of_seat own f frees)
          (ap (λ (g : ℕ → ℕ). g p) words)
          (TS.posted_after plan is_plan x h reads finds stored all counted s tied p inside call of_seat own f ∙ posted)
          (λ e. after_calls own f c e ∙ sym (ap call_under stood))
          (ap (λ (ms : List MadeBySeat). made_by p (x.made ++ ms)) none ∙ ap (made_by p) (append-nil x.made))
          (ap (λ (ms : List Made). ms ++ owed (seat_after own call f).stand) (after_answers p f c)
          ∙ ap (λ (ms : List Made). updates_by p x.answers ++ ms) (after_owed own f c ∙ sym (ap owed stood ∙ owes)))
          (after_fate own f c)

      pub calm_step : (step : Step) → now.stand ≡ S.Goes call step → IsCalm step → owed_step call step ≡ [] →
          Moves plan h.at x (After step) →
          (store_after (deed_of plan p now call step) x.store).bucket ≡ x.store.bucket →
          (store_after (deed_of plan p now call step) x.store).announced ≡ x.store.announced →
          (own_after plan p now call step (found_by (deed_of plan p now call step) x.store)).posted ≡ now.posted →
          ((row : ℕ) →
          many (is_row row)
          (own_after plan p now call step (found_by (deed_of plan p now call step) x.store)).free ≡ 0 →
          many (is_row row) now.free ≡ 0) →
          made_by_step plan p call step (found_by (deed_of plan p now call step) x.store) ≡ [] → Asks plan (After step)
      calm_step step stood calm owes = calm_by step stood owes (fated step stood calm)

      -- a call that changes nothing is answered at the check, and made there
      module _ (turn old : ℕ) (words : List ℕ) (stood : now.stand ≡ S.Goes call (S.CheckWord turn old words))
          (moves : Moves plan h.at x (After (S.CheckWord turn old words))) where
        abbrev items : List Pair
        items = (row_of_words plan words).items

        abbrev reply : Reply
        reply = reply_in (rules_of plan) items call

        abbrev same_word : Bool
        same_word = x.store.bucket b == old

        abbrev quiet : Bool
        quiet = is_quiet (rules_of plan) items call

        -- nothing is made where it is not quiet
        loudly : (same_word ≡ true → is_announced turn ≡ false → quiet ≡ false) →
            Asks plan (After (S.CheckWord turn old words))
        loudly loud =
            calm_by (S.CheckWord turn old words) stood refl (check turn old words stood loud) moves refl refl refl
            (λ row e. e)
            (none same_word refl (is_announced turn) refl)
          where
            none : (c : Bool) → same_word ≡ c → (a : Bool) → is_announced turn ≡ a →
                cond c (made_quietly plan p call a items) [] ≡ []
            none true e true i = refl
            none true e false i = ap (λ (k : Bool). cond k ((p, (call, reply)) ∷ []) []) (loud e i)
            none false e a i = refl

        module _ (e : same_word ≡ true) (a : is_announced turn ≡ false) (k : quiet ≡ true) where
          abbrev one : Made
          one = (call, reply)

          abbrev Z : Fate → List MadeBySeat → World
          Z f ms =
              ticked (with_seat x p x.store (seat_after now call f) (answers_after x p call (stepped now.course) f)
              (x.made ++ ms))

          fate_is : fate plan p now call (S.CheckWord turn old words) (x.store.bucket b) ≡ Ends reply
          fate_is =
              ap (λ (c : Bool). cond c (looked plan p now call (record {
                turn = turn;
                word = old;
                row =
                    row_of_words plan words;
              }))
              (lost turn)) e
              ∙ ap (λ (c : Bool). cond c (by_entry plan (record {
                turn = turn;
                word = old;
                row =
                    row_of_words plan words;
              })
              (entry_for p now.posted (row_of_words plan words).entries)) (cond quiet (Ends reply)
              (unless_spent plan (record { turn = turn; word = old; row = row_of_words plan words })))) a
              ∙ ap (λ (c : Bool). cond c (Ends reply)
              (unless_spent plan (record { turn = turn; word = old; row = row_of_words plan words }))) k

          made_is : made_by_step plan p call (S.CheckWord turn old words) (x.store.bucket b) ≡ (p, one) ∷ []
          made_is =
              ap (λ (c : Bool). cond c (made_quietly plan p call (is_announced turn) items) []) e
              ∙ ap (λ (c : Bool). made_quietly plan p call c items) a ∙ ap (λ (c : Bool). cond c ((p, one) ∷ []) []) k

          rests : is_pending (x.store.announced p) ≡ false
          rests = check_rests turn old words stood a

          is_update_call : IsUpdate call
          is_update_call =
              let d : TryAt plan x.store.bucket x.store.op s p (S.Goes call (S.CheckWord turn old words)) =
              subst (TryAt plan x.store.bucket x.store.op s p) stood (tied.each p of_seat) in
              d.0

          one_by : (q : ℕ) → made_by q (x.made ++ (p, one) ∷ [])
              ≡ made_by q x.made ++ filter_map (λ (c : Option Made). c) (cond (p == q) (Some one) None ∷ [])
          one_by q = filter_map-append (λ (o : MadeBySeat). cond (o.0 == q) (Some o.1) None) x.made ((p, one) ∷ [])

          made_other : (q : ℕ) → q ≢ p → made_by q (x.made ++ (p, one) ∷ []) ≡ made_by q x.made
          made_other q n =
              one_by q
              ∙ ap (λ (c : Bool). made_by q x.made ++ filter_map (λ (c : Option Made). c)
              (cond c (Some one) None ∷ []))
              (ne_eqb p q (λ m. n (sym m))) ∙ append-nil (made_by q x.made)

          made_own : made_by p (x.made ++ (p, one) ∷ []) ≡ made_by p x.made ++ one ∷ []
          made_own =
              one_by p
              ∙ ap (λ (c : Bool). made_by p x.made ++ filter_map (λ (c : Option Made). c)
              (cond c (Some one) None ∷ []))
              (eq-eqb p p refl)

          settled_was : settled x p ≡ updates_by p x.answers
          settled_was = ap (λ (k : Stand). updates_by p x.answers ++ owed k) stood ∙ append-nil (updates_by p x.answers)

          under_was : under plan x p ≡ []
          under_was = ap (λ (c : Bool). updates_of c (calls_in x p) (reply_now plan x p)) rests

          quietly_answered : Moves plan h.at x (Z (Ends reply) ((p, one) ∷ [])) →
              Asks plan (Z (Ends reply) ((p, one) ∷ []))
          quietly_answered moves_z =
              by_own x.store (seat_after now call (Ends reply)) (answers_after x p call (stepped now.course)
              (Ends reply))
              (x.made ++ (p, one) ∷ []) moves_z refl (λ q n. refl) made_other
              (λ q n. answer_other x q p call reply (stepped now.course) (λ m. n (sym m))) (λ row e. e) (λ _. asked)
              (λ _ row live pends. absurd (true≢false (sym pends ∙ rests))) (λ _. tt)
            where
              y : World
              y = Z (Ends reply) ((p, one) ∷ [])

              settled_now : settled y p ≡ updates_by p x.answers ++ one ∷ []
              settled_now =
                  ap (λ (k : SeatNow). updates_by p y.answers ++ owed k.stand)
                  (at_p x.store (seat_after now call (Ends reply)) y.answers y.made)
                  ∙ append-nil (updates_by p y.answers)
                  ∙ answer_own x p p call reply (stepped now.course) refl is_update_call

              under_now : under plan y p ≡ []
              under_now = ap (λ (c : Bool). updates_of c (calls_in y p) (reply_now plan y p)) rests

              asked : made_by p y.made ≡ settled y p ++ under plan y p
              asked =
                  made_own ∙ ap (λ (ms : List Made). ms ++ one ∷ []) (asks.asked p of_seat
                  ∙ ap (λ (ms : List Made). settled x p ++ ms) under_was ∙ append-nil (settled x p) ∙ settled_was)
                  ∙ sym settled_now ∙ sym (append-nil (settled y p))
                  ∙ ap (λ (ms : List Made). settled y p ++ ms) (sym under_now)

          quietly : Asks plan (After (S.CheckWord turn old words))
          quietly =
              subst (λ (ms : List MadeBySeat). Moves plan h.at x (Z (fate plan p now call (S.CheckWord turn old words)
              (x.store.bucket b)) ms) →
              Asks plan (Z (fate plan p now call (S.CheckWord turn old words) (x.store.bucket b)) ms))
              (sym made_is)
              (subst (λ (f : Fate). Moves plan h.at x (Z f ((p, one) ∷ [])) →
              Asks plan (Z f ((p, one) ∷ []))) (sym fate_is)
              quietly_answered) moves

        pub check_step : Asks plan (After (S.CheckWord turn old words))
        check_step = go same_word refl (is_announced turn) refl quiet refl
          where
            go : (c : Bool) → same_word ≡ c → (a : Bool) → is_announced turn ≡ a → (k : Bool) → quiet ≡ k →
                Asks plan (After (S.CheckWord turn old words))
            go true e false a true k = quietly e a k
            go true e false a false k = loudly (λ _ _. k)
            go true e true a k m = loudly (λ _ i. absurd (true≢false (sym a ∙ i)))
            go false e a i k m = loudly (λ c _. absurd (true≢false (sym c ∙ e)))
