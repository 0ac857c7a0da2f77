-- What a try has found of each seat comes from the row that it read: an entry that stays is the one that the row has
-- for that seat and number. Of the own seat it is the own op, and of no other is a call made that was not announced.
use Rattle.std.proofs.Common.{◌≡◌, ◌≢◌, ℕ, zero, suc, ◌+◌, ◌-◌, ◌<◌, Bool, true, false, cond, List, [], ◌∷◌, ◌++◌, length, Option, Some, None, refl, sym, ap, ◌∙◌, subst, arith, lt-ltb, get_or-set_same, get_or-set_other, inl, inr}
use Rattle.std.specs.Prelude.{◌==◌, nat_lt, slice_index_or}
use Rattle.std.proofs.lemmas.Bool.{cases_eq, eqb-true, eqb-false}
use Rattle.std.proofs.lemmas.List.{length-append}
use Rattle.plain_map.specs.declared.calls.Call.{Call}
use Rattle.plain_map.specs.declared.calls.Call.TheVariants.{Insert, Remove, Lookup, Tally, Count, Put}
use Rattle.plain_map.specs.declared.calls.Reply.{Reply}
use Rattle.word_rows.specs.ReplyWords.{reply_of_word}
use Rattle.bucket_states.specs.Items.{reply_in}
use Rattle.exchange_model.specs.Plans.{rules_of, holders_of, Plan, IsPlan, more}
use Rattle.exchange_model.specs.Codes.{is_spent, SLOT_WORDS, ENTRY_WORDS, Entry, row_of_words, length_by, count_in, entries_in, entries_start, number_in}
use Rattle.exchange_model.specs.Words as W
use Rattle.exchange_model.specs.Steps as S
use Rattle.exchange_model.specs.Steps.{MadeBySeat, Step, Stand, Scan, SeatNow, Found, NoOp, Keeps, Takes, Makes, Try, Aim, Glance, deed_of, glance_deed, bucket_of_call, new_words, SOLO_TRIES, ALL_TRIES}
use Rattle.exchange_model.specs.Goes.{ScanFate, ScansOn, Scanned, scan_fate_of, scan_begins, Fate, On, Ends, Spends, Refuses, with_free, first_fate, after_scan, gives_up, gives_back, ended, unless_spent, is_quiet, share_of, found_alone, is_announced, lost, ends_with, own_op, found_so_far, by_entry, looked, is_here, entry_for, entry_word, after_entry, op_in, reply_for, next_entry, fate, own_after, GlanceFate, Looks, Shows, Disturbed, glance_fate}
use Rattle.exchange_model.specs.Worlds.{World, Answer, Event, OfSeat, OfReader, IsEvent, What, Begin, Copy, Step_on, Fits, IsFlying, seat_in, with_seat, ticked, found_by, seat_after, goes, glances, look_after, course_from, stand_at, update_begins, call_begins, goes_on, act, happens, nobody, opening_world, Peek, Open, Peek_on, peeks_on}
use Rattle.exchange_laws.proofs.Owned.{Owned}
use Rattle.exchange_laws.proofs.OwnedRuns.{seat_is}
use Rattle.exchange_laws.proofs.FoundAlone.{next_alone}
use Rattle.exchange_laws.proofs.Words.{seat_holds}
use Rattle.exchange_laws.proofs.Announcements.{IsOther, own_posted}
use Rattle.exchange_laws.proofs.Entries.{entry_told}
use Rattle.exchange_laws.proofs.MadeReplies.{IsSeated, AreSeated}

-- of another seat
abbrev pub Others : (entries : List Entry) (k : ℕ) → Found → Type 0
Others entries k NoOp = Unit {0}
Others entries k (Keeps e) = entry_for k e.number entries ≡ Some e
Others entries k (Takes op) = Unit {0}
Others entries k (Makes call) = ⊥

abbrev pub From : (p : ℕ) (own : Found) (entries : List Entry) (k : ℕ) → Found → Type 0
From p own entries k f = (k ≡ p → f ≡ own) × (k ≢ p → Others entries k f)

abbrev pub AreFrom : (p : ℕ) (own : Found) (entries : List Entry) (k : ℕ) → List Found → Type 0
AreFrom p own entries k [] = Unit {0}
AreFrom p own entries k (f ∷ later) = From p own entries k f × AreFrom p own entries (suc k) later

module _ (p : ℕ) (own : Found) (entries : List Entry) where
  pub from_more : (k : ℕ) (found : List Found) (f : Found) → AreFrom p own entries k found →
      From p own entries (k + length found) f → AreFrom p own entries k (more found f)
  from_more k [] f all one = (subst (λ j. From p own entries j f) (omega arith) one, tt)
  from_more k (d ∷ found) f all one =
      (all.0, from_more (suc k) found f all.1 (subst (λ j. From p own entries j f) (omega arith) one))

  -- of one of them
  pub from_at : (k i : ℕ) (found : List Found) → AreFrom p own entries k found → i < length found →
      From p own entries (k + i) (slice_index_or found i NoOp)
  from_at k i [] all less = absurd (omega (arith, less))
  from_at k zero (f ∷ found) all less = subst (λ j. From p own entries j f) (omega arith) all.0
  from_at k (suc i) (f ∷ found) all less =
      subst (λ j. From p own entries j (slice_index_or found i NoOp)) (omega arith)
      (from_at (suc k) i found all.1 (omega (arith, less)))

  -- entries are of the seats that were gone through
  module _ (mine : IsSeated p own) where
    one_seated : (k : ℕ) (f : Found) → From p own entries k f → IsSeated k f
    one_seated k f from = elim (cases_eq k p) [
      | inl e ↦ subst (λ j. IsSeated j f) (sym e) (subst (IsSeated p) (sym (from.0 e)) mine)
      | inr n ↦ go f (from.1 n)
    ]
      where
        go : (f : Found) → Others entries k f → IsSeated k f
        go NoOp o = tt
        go (Keeps e) o = (entry_told k e.number entries e o).0
        go (Takes op) o = tt
        go (Makes call) o = tt

    pub from_seated : (k : ℕ) (found : List Found) → AreFrom p own entries k found → AreSeated k found
    from_seated k [] all = tt
    from_seated k (f ∷ found) all = (one_seated k f all.0, from_seated (suc k) found all.1)

pub own_seated : (p posted turn : ℕ) (call : Call) → IsSeated p (own_op posted turn call)
own_seated p posted turn call = go (is_announced turn)
  where
    go : (c : Bool) → IsSeated p (cond c (Takes (record { number = posted; call = call })) (Makes call))
    go true = tt
    go false = tt

module _ (plan : Plan) where
  module _ (p posted : ℕ) (call : Call) where
    abbrev pub Are : Try → List Found → Type 0
    Are t found = AreFrom p (own_op posted t.turn call) t.row.entries 0 found

    abbrev pub FromStep : Step → Type 0
    FromStep (S.LoadAnnounced t found) = Are t found × (length found ≢ p)
    FromStep (S.LoadOp t found announced words) = Are t found × (length found ≢ p)
    FromStep (S.StoreRow t found i) = Are t found
    FromStep (S.Exchange t found) = Are t found
    FromStep step = Unit {0}

    abbrev pub FromFate : Fate → Type 0
    FromFate (On step) = FromStep step
    FromFate (Ends reply) = Unit {0}
    FromFate Refuses = Unit {0}
    FromFate Spends = Unit {0}

  abbrev pub FromAt : (p posted : ℕ) → Stand → Type 0
  FromAt p posted S.Idle = Unit {0}
  FromAt p posted (S.Goes call step) = FromStep p posted call step
  FromAt p posted (S.Glances aim glance) = Unit {0}

  pub record Froms (x : World) : Type 0 where
    pub each : (q : ℕ) → q < plan.settings.seats → FromAt q (seat_in x q).posted (seat_in x q).stand

  -- ---- where a step leads

  module _ (p : ℕ) (now : SeatNow) (call : Call) where
    abbrev F : Fate → Type 0
    F f = FromFate p now.posted call f

    either : (f g : Fate) (c : Bool) → F f → F g → F (cond c f g)
    either f g true l r = l
    either f g false l r = r

    either_on : (f g : Step) (c : Bool) → FromStep p now.posted call f → FromStep p now.posted call g →
        F (On (cond c f g))
    either_on f g true l r = l
    either_on f g false l r = r

    given_up : (announced : Bool) → F (gives_up announced)
    given_up true = tt
    given_up false = tt

    given_back : (reply : Option Reply) → F (gives_back reply)
    given_back None = tt
    given_back (Some reply) = tt

    over_then : (ending : S.Ending) → F (ended ending)
    over_then (S.Applied reply) = tt
    over_then S.GivenUp = tt

    unless : (t : Try) → F (unless_spent plan t)
    unless t = either (gives_up (is_announced t.turn)) (On (S.LoadPending t)) (is_spent plan t.word)
        (given_up (is_announced t.turn)) tt

    ends : (announced : Bool) (reply : Option Reply) → F (ends_with announced reply)
    ends true None = tt
    ends false None = tt
    ends true (Some reply) = tt
    ends false (Some reply) = tt

    loses : (turn : ℕ) → F (lost turn)
    loses turn =
        either (On S.RaisePending) (cond (turn == ALL_TRIES) (On S.StoreWant) (On (S.LoadWord (turn + 1))))
        (turn == SOLO_TRIES) tt (either (On S.StoreWant) (On (S.LoadWord (turn + 1))) (turn == ALL_TRIES) tt tt)

    free_on : (free : List ℕ) → F (with_free free)
    free_on [] = tt
    free_on (r ∷ free) = tt

    entries_on : (row at left : ℕ) → F (next_entry row at left)
    entries_on row at left = either_on (S.HeldEntry row at left) S.Stuck (nat_lt 0 left) tt tt

    -- the own op where its turn is
    to_ops : (t : Try) (found : List Found) → Are p now.posted call t found → F (found_so_far plan p now call t found)
    to_ops t found all = go (length found == p) refl
      where
        own : Found
        own = own_op now.posted t.turn call

        on : (fs : List Found) → Are p now.posted call t fs → length fs ≢ p →
            F (On (cond (nat_lt (length fs) plan.settings.seats)
            (S.LoadAnnounced t fs) (S.StoreRow t fs 0)))
        on fs are n = either_on (S.LoadAnnounced t fs) (S.StoreRow t fs 0) (nat_lt (length fs) plan.settings.seats)
            (are, n) are

        go : (c : Bool) → (length found == p) ≡ c → (let fs = cond c (more found own) found in
            F (On (cond (nat_lt (length fs) plan.settings.seats) (S.LoadAnnounced t fs) (S.StoreRow t fs 0))))
        go true e =
            let at : length found ≡ p = eqb-true (length found) p e in
            let long = length-append found (own ∷ []) in
            on (more found own)
            (from_more p own t.row.entries 0 found own all (λ _. refl, λ n. absurd (n (omega (arith, at)))))
            (λ m. omega (arith, m, long, at))
        go false e = on found all (eqb-false (length found) p e)

    with_one : (t : Try) (found : List Found) (one : Found) → Are p now.posted call t found → length found ≢ p →
        Others t.row.entries (length found) one → F (found_so_far plan p now call t (more found one))
    with_one t found one all n o =
        to_ops t (more found one) (from_more p (own_op now.posted t.turn call) t.row.entries 0 found one all (
          λ e. absurd (n (omega (arith, e))),
          λ _. subst (λ j. Others t.row.entries j one) (omega arith) o,
        ))

    -- all seats at once
    all_alone : (t : Try) (many : ℕ) (found : List Found) → Are p now.posted call t found →
        Are p now.posted call t (found_alone p (own_op now.posted t.turn call) many found)
    all_alone t zero found all = all
    all_alone t (suc many) found all =
        all_alone t many (more found (next_alone p own found))
        (from_more p own t.row.entries 0 found (next_alone p own found) all
        (subst (λ j. From p own t.row.entries j (next_alone p own found)) (omega arith) (one (length found == p) refl)))
      where
        own : Found
        own = own_op now.posted t.turn call

        one : (c : Bool) → (length found == p) ≡ c → From p own t.row.entries (length found) (cond c own NoOp)
        one true e = (λ _. refl, λ n. absurd (n (eqb-true (length found) p e)))
        one false e = (λ m. absurd (eqb-false (length found) p e m), λ _. tt)

    by_entries : (t : Try) (entry : Option Entry) → F (by_entry plan t entry)
    by_entries t None = unless t
    by_entries t (Some entry) = ends true entry.reply

    to_entry : (t : Try) (found : List Found) (announced : ℕ) (entry : Option Entry) →
        entry_for (length found) (number_in announced) t.row.entries ≡ entry → Are p now.posted call t found →
        length found ≢ p → F (after_entry plan p now call t found announced entry)
    to_entry t found announced None e all n = (all, n)
    to_entry t found announced (Some entry) e all n =
        with_one t found (Keeps entry) all n
        (ap (λ k. entry_for (length found) k t.row.entries)
        (entry_told (length found) (number_in announced) t.row.entries entry e).1 ∙ e)

    fated : (step : Step) (w : ℕ) → FromStep p now.posted call step → F (fate plan p now call step w)
    fated S.Scans w s = go (scan_fate_of plan p now.scan w)
      where
        go : (f : ScanFate) → F (after_scan now.free f)
        go (ScansOn scan) = tt
        go (Scanned left held) = free_on (now.free ++ left)
    fated (S.LoadWord turn) w s = tt
    fated (S.LoadRow turn old words) w s =
        either_on (S.LoadRow turn old (more words w)) (S.CheckWord turn old (more words w))
        (nat_lt (length words + 1) (length_by plan (more words w))) tt tt
    fated (S.CheckWord turn old words) w s =
        let t : Try = record { turn = turn; word = old; row = row_of_words plan words } in
        either (looked plan p now call t) (lost turn) (w == old)
        (either (by_entry plan t (entry_for p now.posted t.row.entries))
        (cond (is_quiet (rules_of plan) t.row.items call) (Ends (reply_in (rules_of plan) t.row.items call))
        (unless_spent plan t))
        (is_announced turn) (by_entries t (entry_for p now.posted t.row.entries))
        (either (Ends (reply_in (rules_of plan) t.row.items call)) (unless_spent plan t)
        (is_quiet (rules_of plan) t.row.items call) tt (unless t)))
        (loses turn)
    fated (S.LoadPending t) w s =
        either (On (S.StoreRow t (found_alone p (own_op now.posted t.turn call) plan.settings.seats []) 0))
        (found_so_far plan p now call t []) (w == share_of (is_announced t.turn))
        (all_alone t plan.settings.seats [] tt) (to_ops t [] tt)
    fated (S.LoadAnnounced t found) w s =
        let entry = entry_for (length found) (number_in w) t.row.entries in
        either (after_entry plan p now call t found w entry) (found_so_far plan p now call t (more found NoOp))
        (is_here plan (bucket_of_call plan call) w) (to_entry t found w entry refl s.0 s.1)
        (with_one t found NoOp s.0 s.1 tt)
    fated (S.LoadOp t found announced words) w s =
        let one = Takes (op_in announced (more words w)) in
        either (On (S.LoadOp t found announced (more words w))) (found_so_far plan p now call t (more found one))
        (nat_lt (length words + 1) SLOT_WORDS) s (with_one t found one s.0 s.1 tt)
    fated (S.StoreRow t found i) w s =
        either_on (S.StoreRow t found (i + 1)) (S.Exchange t found)
        (nat_lt (i + 1) (length (new_words plan t found))) s s
    fated (S.Exchange t found) w s =
        either (ends_with (is_announced t.turn) (reply_for p (S.made plan t found).made)) (lost t.turn) (w == t.word)
        (ends (is_announced t.turn) (reply_for p (S.made plan t found).made)) (loses t.turn)
    fated (S.StoreOp i) w s = either_on (S.StoreOp (i + 1)) S.Announce (nat_lt (i + 1) SLOT_WORDS) tt tt
    fated S.RaisePending w s = tt
    fated S.Announce w s = tt
    fated S.StoreWant w s = tt
    fated S.StoreAsking w s = tt
    fated S.HeldWord w s = tt
    fated (S.TakeHold old) w s = tt
    fated (S.HeldHead row) w s = entries_on row (entries_start (count_in plan w)) (entries_in plan w)
    fated (S.HeldEntry row at left) w s =
        either (On (S.HeldReply row (at + 1))) (next_entry row (at + ENTRY_WORDS) (left - 1))
        (w == entry_word p now.posted) tt (entries_on row (at + ENTRY_WORDS) (left - 1))
    fated (S.HeldReply row at) w s = given_back (reply_of_word w)
    fated (S.GiveBack reply) w s = tt
    fated (S.Over ending) w s = tt
    fated (S.LowerPending ending) w s = over_then ending
    fated S.Stuck w s = tt

  -- ---- events

  module _ (x : World) (h : Owned plan x) (all : Froms x) (p : ℕ) (inside : p < holders_of plan.settings) where
    abbrev now : SeatNow
    now = seat_in x p

    next : (store : W.Store) (then : SeatNow) (answers : List Answer) (updates : List MadeBySeat) →
        (p < plan.settings.seats → FromAt p then.posted then.stand) →
        Froms (ticked (with_seat x p store then answers updates))
    next store then answers updates here = record {
      each = λ q less. elim (cases_eq q p) [
        | inl e ↦ subst (λ i. FromAt i (seat_in y i).posted (seat_in y i).stand) (sym e)
            (subst (λ (k : SeatNow). FromAt p k.posted k.stand)
            (sym (get_or-set_same x.seats p then nobody (let long = h.long in omega (arith, inside, long))))
            (here (subst (λ k. k < plan.settings.seats) e less)))
        | inr n ↦ subst (λ (k : SeatNow). FromAt q k.posted k.stand) (sym (get_or-set_other x.seats p q then nobody n))
            (all.each q less)
      ];
    }
      where
        y : World
        y = ticked (with_seat x p store then answers updates)

    by_fate : (own : SeatNow) (call : Call) (f : Fate) → FromFate p own.posted call f →
        FromAt p (seat_after own call f).posted (seat_after own call f).stand
    by_fate own call (On step) s = s
    by_fate own call (Ends reply) s = tt
    by_fate own call Refuses s = tt
    by_fate own call Spends s = tt

    module _ (call : Call) (of_seat : p < plan.settings.seats) where
      other_step : (step : Step) → now.stand ≡ S.Goes call step → IsOther step →
          Froms (ticked (goes plan x p now call step))
      other_step step stood other =
          let was : FromStep p now.posted call step = subst (FromAt p now.posted) stood (all.each p of_seat) in
          let w = found_by (deed_of plan p now call step) x.store in
          let own = own_after plan p now call step w in
          let f = fate plan p now call step w in
          next _ (seat_after own call f) _ _ (λ _. by_fate own call f
          (subst (λ k. FromFate p k call f) (sym (own_posted plan p now call step w other))
          (fated p now call step w was)))

      update_step : (step : Step) → now.stand ≡ S.Goes call step → Froms (ticked (goes plan x p now call step))
      update_step (S.StoreOp i) stood = next _ _ _ _ (λ _. go (nat_lt (i + 1) SLOT_WORDS))
        where
          go : (c : Bool) → FromStep p now.posted call (cond c (S.StoreOp (i + 1)) S.Announce)
          go true = tt
          go false = tt
      update_step S.Announce stood = next _ _ _ _ (λ _. tt)
      update_step (S.Over ending) stood = next _ _ _ _ (λ _. tt)
      update_step S.Scans stood = other_step S.Scans stood tt
      update_step (S.LoadWord turn) stood = other_step (S.LoadWord turn) stood tt
      update_step (S.LoadRow turn old words) stood = other_step (S.LoadRow turn old words) stood tt
      update_step (S.CheckWord turn old words) stood = other_step (S.CheckWord turn old words) stood tt
      update_step (S.LoadPending t) stood = other_step (S.LoadPending t) stood tt
      update_step S.RaisePending stood = other_step S.RaisePending stood tt
      update_step (S.GiveBack reply) stood = other_step (S.GiveBack reply) stood tt
      update_step (S.LowerPending ending) stood = other_step (S.LowerPending ending) stood tt
      update_step (S.LoadAnnounced t found) stood = other_step (S.LoadAnnounced t found) stood tt
      update_step (S.LoadOp t found announced words) stood = other_step (S.LoadOp t found announced words) stood tt
      update_step (S.StoreRow t found i) stood = other_step (S.StoreRow t found i) stood tt
      update_step (S.Exchange t found) stood = other_step (S.Exchange t found) stood tt
      update_step S.StoreWant stood = other_step S.StoreWant stood tt
      update_step S.StoreAsking stood = other_step S.StoreAsking stood tt
      update_step S.HeldWord stood = other_step S.HeldWord stood tt
      update_step (S.TakeHold old) stood = other_step (S.TakeHold old) stood tt
      update_step (S.HeldHead row) stood = other_step (S.HeldHead row) stood tt
      update_step (S.HeldEntry row at left) stood = other_step (S.HeldEntry row at left) stood tt
      update_step (S.HeldReply row at) stood = other_step (S.HeldReply row at) stood tt
      update_step S.Stuck stood = other_step S.Stuck stood tt

    look_step : (aim : Aim) (glance : Glance) → Froms (ticked (glances plan x p now aim glance))
    look_step aim glance =
        let f = glance_fate plan now.time aim glance (found_by (glance_deed plan p now.time aim glance) x.store) in
        next _ (look_after now aim glance f) _ x.made (λ _. go f)
      where
        go : (f : GlanceFate) → FromAt p (look_after now aim glance f).posted (look_after now aim glance f).stand
        go (Looks next) = tt
        go (Shows items) = tt
        go Disturbed = tt

    update_first : (call : Call) → Froms (ticked (update_begins plan x p now call))
    update_first call =
        let taken = scan_begins plan p now.free now in
        let f = first_fate taken.free taken.scan in
        next x.store (record taken { stand = stand_at call f; course = course_from x.clock }) _ x.made
        (λ _. stands taken.posted f (first taken.posted taken.free taken.scan))
      where
        first : (posted : ℕ) (free : List ℕ) (scan : Option Scan) → FromFate p posted call (first_fate free scan)
        first posted [] None = tt
        first posted (row ∷ free) None = tt
        first posted free (Some scan) = tt

        stands : (posted : ℕ) (f : Fate) → FromFate p posted call f → FromAt p posted (stand_at call f)
        stands posted (On step) s = s
        stands posted (Ends reply) s = tt
        stands posted Refuses s = tt
        stands posted Spends s = tt

    call_first : (call : Call) → Froms (ticked (call_begins plan x p now call))
    call_first (Lookup key) = next x.store _ x.answers x.made (λ _. tt)
    call_first (Insert key value) = update_first (Insert key value)
    call_first (Remove key) = update_first (Remove key)
    call_first (Tally key amount) = update_first (Tally key amount)
    call_first (Count key value amount) = update_first (Count key value amount)
    call_first (Put key value) = update_first (Put key value)

    seat_goes : (stand : Stand) → now.stand ≡ stand → IsFlying plan p stand →
        Froms (ticked (goes_on plan x p now stand))
    seat_goes S.Idle e flies = absurd flies
    seat_goes (S.Goes call step) e flies = update_step call flies step e
    seat_goes (S.Glances aim glance) e flies = look_step aim glance

    seat_froms : (what : What) → Fits plan p now what → Froms (ticked (act plan x p now what))
    seat_froms (Begin call) fits = call_first call
    seat_froms (Copy bucket) fits = next x.store _ x.answers x.made (λ _. tt)
    seat_froms Step_on fits = seat_goes now.stand refl fits

  reader_froms : (x : World) (r : ℕ) (peek : Peek) → Froms x → Froms (happens plan x (OfReader r peek))
  reader_froms x r (Open aim tries) all = record { each = all.each }
  reader_froms x r Peek_on all = go (x.readers r).stand
    where
      go : (stand : S.Peeking) → Froms (ticked (peeks_on plan x r (x.readers r) stand))
      go S.Rests = record { each = all.each }
      go (S.Peeks aim glance) = record { each = all.each }

  pub froms_keep : (x : World) → Owned plan x → Froms x → (event : Event) → IsEvent plan x event →
      Froms (happens plan x event)
  froms_keep x h all (OfSeat p what) fits =
      subst (λ (c : Bool). Froms (cond c (ticked (act plan x p (seat_in x p) what)) x))
      (sym (lt-ltb p (holders_of plan.settings) fits.0))
      (seat_froms x h all p fits.0 what fits.1)
  froms_keep x h all (OfReader r peek) fits = reader_froms x r peek all

  pub froms_first : IsPlan plan → Froms (opening_world plan)
  froms_first is = record {
    each = λ q less. subst (λ (k : SeatNow). FromAt q k.posted k.stand)
        (sym (seat_is plan is q (seat_holds plan q less))) tt;
  }
