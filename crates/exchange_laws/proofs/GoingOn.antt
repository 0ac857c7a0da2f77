-- No seat is ever stuck: who looks for its reply under a hold finds it, and who comes to its exchange has a reply.
use Rattle.std.proofs.Common.{◌≡◌, ◌≢◌, ℕ, zero, suc, ◌+◌, ◌-◌, ◌*◌, ◌<◌, ◌≤◌, inl, inr, Bool, true, false, cond, List, [], ◌∷◌, ◌++◌, length, get_or, Option, Some, None, refl, sym, ap, ◌∙◌, subst, arith, lt-ltb, get_or-set_same, get_or-set_other}
use Rattle.std.specs.Prelude.{◌==◌, nat_lt}
use Rattle.std.proofs.lemmas.Bool.{cases_eq, cases_lt, cond_both, eqb-true, eqb-false, ltb-false}
use Rattle.plain_map.specs.declared.calls.Call.{Call}
use Rattle.plain_map.specs.declared.calls.Call.TheVariants.{Insert, Remove, Lookup, Tally, Count, Put}
use Rattle.plain_map.specs.declared.calls.Reply.{Reply}
use Rattle.plain_map.specs.Calls.{key_in}
use Rattle.word_rows.specs.ReplyWords.{reply_of_word}
use Rattle.bucket_states.specs.Items.{reply_in}
use Rattle.exchange_model.specs.Plans.{Plan, IsPlan, rules_of, holders_of, buckets_of, more}
use Rattle.exchange_model.specs.Codes.{SLOT_WORDS, ENTRY_WORDS, Entry, Row, is_spent, is_pending, row_in, row_at, row_of_words, length_by, count_in, entries_in, entries_start, number_in}
use Rattle.exchange_model.specs.Words as W
use Rattle.exchange_model.specs.Steps as S
use Rattle.exchange_model.specs.Steps.{MadeBySeat, Step, Stand, Scan, SeatNow, Found, NoOp, Keeps, Takes, Makes, Change, Try, Aim, Glance, deed_of, glance_deed, bucket_of_call, change, new_words, SOLO_TRIES, ALL_TRIES}
use Rattle.exchange_model.specs.Goes.{ScanFate, ScansOn, Scanned, scan_fate_of, scan_begins, Fate, On, Ends, Spends, Refuses, with_free, first_fate, after_scan, is_announced, lost, ends_with, gives_up, gives_back, ended, unless_spent, is_quiet, share_of, own_op, found_alone, with_own, found_so_far, by_entry, looked, is_here, entry_for, entry_word, after_entry, op_in, reply_for, next_entry, fate, own_after, GlanceFate, Looks, Shows, Disturbed, glance_fate}
use Rattle.exchange_model.specs.Worlds.{World, Answer, Event, OfSeat, OfReader, IsEvent, What, Begin, Copy, Step_on, Fits, IsFlying, seat_in, with_seat, ticked, found_by, store_after, seat_after, glances, look_after, stand_at, update_begins, call_begins, goes_on, act, happens, nobody, opening_world, Peek, Open, Peek_on, peeks_on}
use Rattle.exchange_model.specs.Laws.{GoesOn, ReadsHeld}
use Rattle.exchange_laws.proofs.Words.{bucket_small}
use Rattle.exchange_laws.proofs.Owned.{Owned}
use Rattle.exchange_laws.proofs.OwnedRuns.{seat_is}
use Rattle.exchange_laws.proofs.Holding as H
use Rattle.exchange_laws.proofs.HeldStates.{look_of}
use Rattle.exchange_laws.proofs.Held as Held
use Rattle.exchange_laws.proofs.TrueReads.{Reads, ReadsAt, whole_row}
use Rattle.exchange_laws.proofs.Announcing.{State}
use Rattle.exchange_laws.proofs.Announcements.{Tells, TellsStep, TellsAt, Announces}
use Rattle.exchange_laws.proofs.OpTells.{announcing_pends}
use Rattle.exchange_laws.proofs.Tied.{row_now, Tied, TryAt, small20}
use Rattle.exchange_laws.proofs.TiedMoves.{word_live}
use Rattle.exchange_laws.proofs.HeldEntries.{none_in_row}
use Rattle.exchange_laws.proofs.HeldFinds.{Finds, FindsAt, held_live}
use Rattle.exchange_laws.proofs.HeldSeats.{HasEntry, Entered}
use Rattle.exchange_laws.proofs.MadeReplies.{Gives, given_seat, reply_is, head_reply}
use Rattle.exchange_laws.proofs.FoundFrom.{Froms, FromAt, AreFrom, from_at, from_seated, own_seated}
use Rattle.exchange_laws.proofs.Asked.{Asks}

abbrev some_entry : Option Entry → ℕ
some_entry None = 0
some_entry (Some e) = 1

module _ (plan : Plan) where
  -- no seat is stuck
  pub record GoOn (x : World) : Type 0 where
    pub each : (q : ℕ) → q < holders_of plan.settings → GoesOn (seat_in x q).stand

  -- a step that is one
  abbrev IsOn : Fate → Type 0
  IsOn (On S.Stuck) = ⊥
  IsOn fate = Unit {0}

  stands : (own : SeatNow) (call : Call) (f : Fate) → IsOn f → GoesOn (seat_after own call f).stand
  stands own call (On S.Stuck) g = absurd g
  stands own call (On step) g = tt
  stands own call (Ends reply) g = tt
  stands own call Spends g = tt
  stands own call Refuses g = tt

  either : (f g : Fate) (c : Bool) → IsOn f → IsOn g → IsOn (cond c f g)
  either f g true l r = l
  either f g false l r = r

  ends : (announced : Bool) (reply : Option Reply) (r : Reply) → reply ≡ Some r → IsOn (ends_with announced reply)
  ends announced reply r is = subst (λ (o : Option Reply). IsOn (ends_with announced o)) (sym is) (go announced)
    where
      go : (c : Bool) → IsOn (ends_with c (Some r))
      go true = tt
      go false = tt

  backs : (reply : Option Reply) (r : Reply) → reply ≡ Some r → IsOn (gives_back reply)
  backs reply r is = subst (λ (o : Option Reply). IsOn (gives_back o)) (sym is) tt

  over_then : (ending : S.Ending) → IsOn (ended ending)
  over_then (S.Applied reply) = tt
  over_then S.GivenUp = tt

  loses : (turn : ℕ) → IsOn (lost turn)
  loses turn =
      either (On S.RaisePending) (cond (turn == ALL_TRIES) (On S.StoreWant) (On (S.LoadWord (turn + 1))))
      (turn == SOLO_TRIES) tt (either (On S.StoreWant) (On (S.LoadWord (turn + 1))) (turn == ALL_TRIES) tt tt)

  free_on : (free : List ℕ) → IsOn (with_free free)
  free_on [] = tt
  free_on (r ∷ free) = tt

  unless : (t : Try) → IsOn (unless_spent plan t)
  unless t = either (gives_up (is_announced t.turn)) (On (S.LoadPending t)) (is_spent plan t.word)
      (go (is_announced t.turn)) tt
    where
      go : (c : Bool) → IsOn (gives_up c)
      go true = tt
      go false = tt

  module _ (is_plan : IsPlan plan) (x : World) (h : Owned plan x) (t : Held.Tied plan x) (en : Entered plan x t)
      (reads : Reads plan x)
      (all : Announces plan x) (s : State) (tied : Tied plan x s) (froms : Froms plan x) (sees : Finds plan x)
      (asks : Asks plan x)
      (on : GoOn x) (p : ℕ) (inside : p < holders_of plan.settings) where
    abbrev now : SeatNow
    now = seat_in x p

    module _ (call : Call) (of_seat : p < plan.settings.seats) where
      abbrev b : ℕ
      b = bucket_of_call plan call

      small : b < buckets_of plan.settings
      small = bucket_small plan is_plan (key_in call)

      pends : (posted : ℕ) → Tells true (x.store.announced p) (x.store.op p) posted b call →
          is_pending (x.store.announced p) ≡ true
      pends posted said = ap is_pending said.0 ∙ announcing_pends posted b (small20 plan is_plan b small)

      told : (step : Step) → now.stand ≡ S.Goes call step →
          TellsStep (x.store.announced p) (x.store.op p) now.posted b call step
      told step stood =
          let said : TellsAt plan (x.store.announced p) (x.store.op p) now.posted (S.Goes call step) =
          subst (TellsAt plan (x.store.announced p) (x.store.op p) now.posted) stood (all.each p inside) in
          said

      -- the row that is read under the hold has the entry
      has : (step : Step) (row : ℕ) → now.stand ≡ S.Goes call step → look_of plan (S.Goes call step) ≡ H.Reads row →
          HasEntry plan x p row
      has step row stood look =
          let good = (t.holds.reads p row (ap (look_of plan) stood ∙ look)).1 in
          en.rows p row call step of_seat (stood, subst H.IsActive (sym look) tt) good.1 good.0

      absent : (row : ℕ) → HasEntry plan x p row →
          ((i : ℕ) → i < entries_in plan (x.store.row row 0) →
          x.store.row row (entries_start (count_in plan (x.store.row row 0)) + 2 * i) ≢ entry_word p now.posted) → ⊥
      absent row e none =
          (let k = ap some_entry (sym (none_in_row plan (x.store.row row) p now.posted none) ∙ e.1) in omega (arith, k))

      head_on : (row : ℕ) → now.stand ≡ S.Goes call (S.HeldHead row) →
          IsOn (fate plan p now call (S.HeldHead row) (x.store.row row 0))
      head_on row stood = go (nat_lt 0 (entries_in plan (x.store.row row 0))) refl
        where
          many : ℕ
          many = entries_in plan (x.store.row row 0)

          go : (c : Bool) → nat_lt 0 many ≡ c →
              IsOn (On (cond c (S.HeldEntry row (entries_start (count_in plan (x.store.row row 0))) many) S.Stuck))
          go true e = tt
          go false e =
              let none = ltb-false 0 many e in
              absent row (has (S.HeldHead row) row stood refl) (λ i less. absurd (omega (arith, less, none)))

      entry_on : (row at left : ℕ) → now.stand ≡ S.Goes call (S.HeldEntry row at left) →
          IsOn (fate plan p now call (S.HeldEntry row at left) (x.store.row row at))
      entry_on row at left stood = by_word (x.store.row row at == entry_word p now.posted) refl
        where
          was : FindsAt plan x.store.row p now.posted (S.Goes call (S.HeldEntry row at left))
          was = subst (FindsAt plan x.store.row p now.posted) stood (sees.each p of_seat)

          by_left : x.store.row row at ≢ entry_word p now.posted → (c : Bool) → nat_lt 0 (left - 1) ≡ c →
              IsOn (On (cond c (S.HeldEntry row (at + ENTRY_WORDS) (left - 1)) S.Stuck))
          by_left n true e = tt
          by_left n false e =
              let last = ltb-false 0 (left - 1) e in
              let whole = was.2 in
              let some = was.3 in
              absent row (has (S.HeldEntry row at left) row stood refl) (λ i less. elim (cases_eq i was.0) [
                | inl k ↦ λ w. n (ap (x.store.row row) was.1
                    ∙ ap (λ j. x.store.row row (entries_start (count_in plan (x.store.row row 0)) + 2 * j)) (sym k) ∙ w)
                | inr m ↦ was.4 i (omega (arith, less, whole, last, some, m))
              ])

          by_word : (c : Bool) → (x.store.row row at == entry_word p now.posted) ≡ c →
              IsOn (cond c (On (S.HeldReply row (at + 1))) (next_entry row (at + ENTRY_WORDS) (left - 1)))
          by_word true e = tt
          by_word false e =
              by_left (eqb-false (x.store.row row at) (entry_word p now.posted) e) (nat_lt 0 (left - 1)) refl

      reply_on : (row at : ℕ) → now.stand ≡ S.Goes call (S.HeldReply row at) →
          IsOn (fate plan p now call (S.HeldReply row at) (x.store.row row at))
      reply_on row at stood =
          let f : FindsAt plan x.store.row p now.posted (S.Goes call (S.HeldReply row at)) =
          subst (FindsAt plan x.store.row p now.posted) stood (sees.each p of_seat) in
          let live = held_live plan x t p row (subst (λ (k : Stand). ReadsHeld k row) (sym stood) refl) in
          let z = asks.replies row p live of_seat (pends now.posted (told (S.HeldReply row at) stood)) f.0 f.1 in
          backs (reply_of_word (x.store.row row at)) z.0 (sym f.2 ∙ z.1)

      check_on : (turn old : ℕ) (words : List ℕ) → now.stand ≡ S.Goes call (S.CheckWord turn old words) →
          IsOn (fate plan p now call (S.CheckWord turn old words) (x.store.bucket b))
      check_on turn old words stood =
          cond_both (x.store.bucket b == old) (looked plan p now call a) (lost turn) IsOn
          (λ e. cond_both (is_announced turn) (by_entry plan a (entry_for p now.posted a.row.entries))
          (cond (is_quiet (rules_of plan) a.row.items call) (Ends (reply_in (rules_of plan) a.row.items call))
          (unless_spent plan a))
          IsOn (λ is. by_own (eqb-true (x.store.bucket b) old e) is (entry_for p now.posted a.row.entries) refl)
          (λ is. either (Ends (reply_in (rules_of plan) a.row.items call)) (unless_spent plan a)
          (is_quiet (rules_of plan) a.row.items call) tt (unless a)))
          (λ e. loses turn)
        where
          a : Try
          a = record { turn = turn; word = old; row = row_of_words plan words }

          by_own : x.store.bucket b ≡ old → is_announced turn ≡ true → (o : Option Entry) →
              entry_for p now.posted a.row.entries ≡ o → IsOn (by_entry plan a o)
          by_own same is None e = unless a
          by_own same is (Some entry) e =
              let r : ReadsAt plan x (S.Goes call (S.CheckWord turn old words)) =
              subst (ReadsAt plan x) stood (reads.each p inside) in
              let row_is : a.row ≡ row_now plan x b =
              whole_row plan words (x.store.row (row_in plan old)) (r.0.front same) r.1
              ∙ ap (λ w. row_at plan (x.store.row (row_in plan w))) (sym same) in
              let said : Tells true (x.store.announced p) (x.store.op p) now.posted b call =
              subst (λ (c : Bool). Tells c (x.store.announced p) (x.store.op p) now.posted b call) is
              (told (S.CheckWord turn old words) stood) in
              let z =
              asks.replies (row_in plan (x.store.bucket b)) p (word_live plan is_plan x h s tied b small) of_seat
              (pends now.posted said) entry (ap (λ (k : Row). entry_for p now.posted k.entries) (sym row_is) ∙ e) in
              ends true entry.reply z.0 z.1

      -- an exchange that happens has made the own update
      exchange_on : (a : Try) (found : List Found) → now.stand ≡ S.Goes call (S.Exchange a found) →
          IsOn (fate plan p now call (S.Exchange a found) (x.store.bucket b))
      exchange_on a found stood =
          let reply = own_reply (is_announced a.turn) refl in
          either (ends_with (is_announced a.turn) (reply_for p (change plan a.row found).made)) (lost a.turn)
          (x.store.bucket b == a.word)
          (ends (is_announced a.turn) (reply_for p (change plan a.row found).made) reply.0 reply.1) (loses a.turn)
        where
          own : Found
          own = own_op now.posted a.turn call

          first : Change
          first = record { row = record { items = a.row.items; entries = [] }; made = [] }

          from : AreFrom p own a.row.entries 0 found
          from =
              let f : FromAt plan p now.posted (S.Goes call (S.Exchange a found)) =
              subst (FromAt plan p now.posted) stood (froms.each p of_seat) in
              f

          long : p < length found
          long =
              let d : TryAt plan x.store.bucket x.store.op s p (S.Goes call (S.Exchange a found)) =
              subst (TryAt plan x.store.bucket x.store.op s p) stood (tied.each p of_seat) in
              let few = d.1.0 in omega (arith, few, of_seat)

          given : Gives p own first (change plan a.row found)
          given =
              subst (λ (f : Found). Gives p f first (change plan a.row found))
              ((from_at p own a.row.entries 0 p found from long).0 (omega arith))
              (given_seat p (rules_of plan) first 0 p found
              (from_seated p own a.row.entries (own_seated p now.posted a.turn call) 0 found from) (omega arith) long
              (λ n. refl))

          own_reply : (c : Bool) → is_announced a.turn ≡ c →
              (r : Reply) × (reply_for p (change plan a.row found).made ≡ Some r)
          own_reply true is =
              let g : Gives p (Takes (record { number = now.posted; call = call })) first (change plan a.row found) =
              subst (λ (f : Found). Gives p f first (change plan a.row found))
              (ap (λ (c : Bool). cond c (Takes (record { number = now.posted; call = call })) (Makes call)) is) given in
              (g.0, reply_is p (change plan a.row found).made ∙ ap head_reply g.1)
          own_reply false is =
              let g : Gives p (Makes call) first (change plan a.row found) =
              subst (λ (f : Found). Gives p f first (change plan a.row found))
              (ap (λ (c : Bool). cond c (Takes (record { number = now.posted; call = call })) (Makes call)) is) given in
              (g.0, reply_is p (change plan a.row found).made ∙ ap head_reply g.1)

      to_ops : (a : Try) (found : List Found) → IsOn (found_so_far plan p now call a found)
      to_ops a found = go (nat_lt (length (with_own p now call a.turn found)) plan.settings.seats)
        where
          go : (c : Bool) → IsOn (On (cond c (S.LoadAnnounced a (with_own p now call a.turn found))
              (S.StoreRow a (with_own p now call a.turn found) 0)))
          go true = tt
          go false = tt

      to_entry : (a : Try) (found : List Found) (announced : ℕ) (entry : Option Entry) →
          IsOn (after_entry plan p now call a found announced entry)
      to_entry a found announced None = tt
      to_entry a found announced (Some entry) = to_ops a (more found (Keeps entry))

      either_step : (f g : Step) (c : Bool) → IsOn (On f) → IsOn (On g) → IsOn (On (cond c f g))
      either_step f g true l r = l
      either_step f g false l r = r

      fated : (step : Step) → now.stand ≡ S.Goes call step →
          IsOn (fate plan p now call step (found_by (deed_of plan p now call step) x.store))
      fated S.Scans stood = go (scan_fate_of plan p now.scan (found_by (deed_of plan p now call S.Scans) x.store))
        where
          go : (f : ScanFate) → IsOn (after_scan now.free f)
          go (ScansOn scan) = tt
          go (Scanned left held) = free_on (now.free ++ left)
      fated (S.LoadWord turn) stood = tt
      fated (S.LoadRow turn old words) stood =
          let w = found_by (deed_of plan p now call (S.LoadRow turn old words)) x.store in
          either_step (S.LoadRow turn old (more words w)) (S.CheckWord turn old (more words w))
          (nat_lt (length words + 1) (length_by plan (more words w))) tt tt
      fated (S.CheckWord turn old words) stood = check_on turn old words stood
      fated (S.LoadPending a) stood =
          either (On (S.StoreRow a (found_alone p (own_op now.posted a.turn call) plan.settings.seats []) 0))
          (found_so_far plan p now call a []) (x.store.pending == share_of (is_announced a.turn)) tt (to_ops a [])
      fated (S.LoadAnnounced a found) stood =
          let w = x.store.announced (length found) in
          let entry = entry_for (length found) (number_in w) a.row.entries in
          either (after_entry plan p now call a found w entry) (found_so_far plan p now call a (more found NoOp))
          (is_here plan b w) (to_entry a found w entry) (to_ops a (more found NoOp))
      fated (S.LoadOp a found announced words) stood =
          let w = x.store.op (length found) (length words) in
          let one = Takes (op_in announced (more words w)) in
          either (On (S.LoadOp a found announced (more words w))) (found_so_far plan p now call a (more found one))
          (nat_lt (length words + 1) SLOT_WORDS) tt (to_ops a (more found one))
      fated (S.StoreRow a found i) stood =
          either_step (S.StoreRow a found (i + 1)) (S.Exchange a found)
          (nat_lt (i + 1) (length (new_words plan a found))) tt tt
      fated (S.Exchange a found) stood = exchange_on a found stood
      fated S.RaisePending stood = tt
      fated (S.StoreOp i) stood = either_step (S.StoreOp (i + 1)) S.Announce (nat_lt (i + 1) SLOT_WORDS) tt tt
      fated S.Announce stood = tt
      fated S.StoreWant stood = tt
      fated S.StoreAsking stood = tt
      fated S.HeldWord stood = tt
      fated (S.TakeHold old) stood = tt
      fated (S.HeldHead row) stood = head_on row stood
      fated (S.HeldEntry row at left) stood = entry_on row at left stood
      fated (S.HeldReply row at) stood = reply_on row at stood
      fated (S.GiveBack reply) stood = tt
      fated (S.Over ending) stood = tt
      fated (S.LowerPending ending) stood = over_then ending
      fated S.Stuck stood = absurd (subst GoesOn stood (on.each p inside))

    -- ---- events

    next : (store : W.Store) (then : SeatNow) (answers : List Answer) (updates : List MadeBySeat) → GoesOn then.stand →
        GoOn (ticked (with_seat x p store then answers updates))
    next store then answers updates here = record {
      each = λ q less. elim (cases_eq q p) [
        | inl e ↦ subst (λ (k : SeatNow). GoesOn k.stand)
            (sym (ap (seat_in (ticked (with_seat x p store then answers updates))) e
            ∙ get_or-set_same x.seats p then nobody (let long = h.long in omega (arith, inside, long)))) here
        | inr n ↦ subst (λ (k : SeatNow). GoesOn k.stand) (sym (get_or-set_other x.seats p q then nobody n))
            (on.each q less)
      ];
    }

    look_step : (aim : Aim) (glance : Glance) → GoOn (ticked (glances plan x p now aim glance))
    look_step aim glance =
        let f = glance_fate plan now.time aim glance (found_by (glance_deed plan p now.time aim glance) x.store) in
        next _ (look_after now aim glance f) _ x.made (go f)
      where
        go : (f : GlanceFate) → GoesOn (look_after now aim glance f).stand
        go (Looks g) = tt
        go (Shows items) = tt
        go Disturbed = tt

    update_first : (call : Call) → GoOn (ticked (update_begins plan x p now call))
    update_first call =
        let begun = scan_begins plan p now.free now in
        next x.store _ _ x.made (go begun.free begun.scan)
      where
        go : (free : List ℕ) (scan : Option Scan) → GoesOn (stand_at call (first_fate free scan))
        go [] None = tt
        go (row ∷ free) None = tt
        go free (Some scan) = tt

    call_first : (call : Call) → GoOn (ticked (call_begins plan x p now call))
    call_first (Lookup key) = next x.store _ x.answers x.made tt
    call_first (Insert key value) = update_first (Insert key value)
    call_first (Remove key) = update_first (Remove key)
    call_first (Tally key amount) = update_first (Tally key amount)
    call_first (Count key value amount) = update_first (Count key value amount)
    call_first (Put key value) = update_first (Put key value)

    seat_goes : (stand : Stand) → now.stand ≡ stand → IsFlying plan p stand → GoOn (ticked (goes_on plan x p now stand))
    seat_goes S.Idle e flies = absurd flies
    seat_goes (S.Goes call step) e flies =
        let deed = deed_of plan p now call step in
        let w = found_by deed x.store in
        next (store_after deed x.store) (seat_after (own_after plan p now call step w) call
        (fate plan p now call step w)) _ _
        (stands (own_after plan p now call step w) call (fate plan p now call step w) (fated call flies step e))
    seat_goes (S.Glances aim glance) e flies = look_step aim glance

    seat_on : (what : What) → Fits plan p now what → GoOn (ticked (act plan x p now what))
    seat_on (Begin call) fits = call_first call
    seat_on (Copy bucket) fits = next x.store _ x.answers x.made tt
    seat_on Step_on fits = seat_goes now.stand refl fits

  reader_on : (x : World) (r : ℕ) (peek : Peek) → GoOn x → GoOn (happens plan x (OfReader r peek))
  reader_on x r (Open aim tries) on = record { each = on.each }
  reader_on x r Peek_on on = go (x.readers r).stand
    where
      go : (stand : S.Peeking) → GoOn (ticked (peeks_on plan x r (x.readers r) stand))
      go S.Rests = record { each = on.each }
      go (S.Peeks aim glance) = record { each = on.each }

  pub go_on_keep : (is_plan : IsPlan plan) (x : World) → Owned plan x → (t : Held.Tied plan x) → Entered plan x t →
      Reads plan x →
      Announces plan x → (s : State) → Tied plan x s → Froms plan x → Finds plan x → Asks plan x → GoOn x →
      (event : Event) →
      IsEvent plan x event → GoOn (happens plan x event)
  go_on_keep is_plan x h t en reads all s tied froms sees asks on (OfSeat p what) fits =
      subst (λ (c : Bool). GoOn (cond c (ticked (act plan x p (seat_in x p) what)) x))
      (sym (lt-ltb p (holders_of plan.settings) fits.0))
      (seat_on is_plan x h t en reads all s tied froms sees asks on p fits.0 what fits.1)
  go_on_keep is_plan x h t en reads all s tied froms sees asks on (OfReader r peek) fits = reader_on x r peek on

  pub go_on_first : IsPlan plan → GoOn (opening_world plan)
  go_on_first is = record {
    each = λ q less. subst (λ (k : SeatNow). GoesOn k.stand) (sym (seat_is plan is q less)) tt;
  }

  -- behind those who can hold there is nobody
  pub all_go_on : (x : World) → Owned plan x → GoOn x → (seat : ℕ) → GoesOn (seat_in x seat).stand
  all_go_on x h on seat = elim (cases_lt seat (holders_of plan.settings)) [
    | inl less ↦ on.each seat less
    | inr late ↦ subst (λ (k : SeatNow). GoesOn k.stand)
        (sym (past x.seats seat (let long = h.long in omega (arith, late, long)))) tt
  ]
    where
      past : (ss : List SeatNow) (i : ℕ) → length ss ≤ i → get_or ss i nobody ≡ nobody
      past [] i late = refl
      past (n ∷ ss) zero late = absurd (omega (arith, late))
      past (n ∷ ss) (suc i) late = past ss i (omega (arith, late))
