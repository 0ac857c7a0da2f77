-- A seat that reads a row under its hold goes through the entries of that row, which nobody writes meanwhile: so where
-- it finds its entry, the row has it.
use Rattle.std.proofs.Common.{◌≡◌, ◌≢◌, ℕ, ◌+◌, ◌-◌, ◌*◌, ◌<◌, ◌≤◌, inl, inr, Bool, true, false, cond, List, [], ◌∷◌, ◌++◌, length, Option, Some, None, refl, sym, ap, ◌∙◌, subst, arith, true≢false, lt-ltb, get_or-set_same, get_or-set_other}
use Rattle.std.specs.Prelude.{◌==◌, nat_lt}
use Rattle.std.proofs.lemmas.Bool.{cases_eq, cases_lt, eqb-true, eqb-false, ltb-true}
use Rattle.list_laws.proofs.Totals.{many}
use Rattle.plain_map.specs.declared.calls.Call.{Call}
use Rattle.plain_map.specs.declared.calls.Call.TheVariants.{Insert, Remove, Lookup, Tally, Count, Put}
use Rattle.plain_map.specs.declared.calls.Reply.{Reply}
use Rattle.word_rows.specs.ReplyWords.{reply_of_word}
use Rattle.bucket_states.specs.Items.{reply_in}
use Rattle.exchange_model.specs.Plans.{rules_of, holders_of, Plan, IsPlan, more}
use Rattle.exchange_model.specs.Codes.{is_spent, SLOT_WORDS, ENTRY_WORDS, Entry, row_of_words, row_at, length_by, count_in, entries_in, entries_start, number_in}
use Rattle.exchange_model.specs.Words as W
use Rattle.exchange_model.specs.Steps as S
use Rattle.exchange_model.specs.Steps.{MadeBySeat, Step, Stand, SeatNow, Found, NoOp, Keeps, Takes, Try, Aim, Glance, deed_of, glance_deed, bucket_of_call, new_words, SOLO_TRIES, ALL_TRIES}
use Rattle.exchange_model.specs.Goes.{ScanFate, ScansOn, Scanned, scan_fate_of, scan_begins, Fate, On, Ends, Spends, Refuses, with_free, first_fate, after_scan, gives_up, gives_back, ended, unless_spent, is_quiet, share_of, own_op, found_alone, is_announced, lost, ends_with, with_own, found_so_far, by_entry, looked, is_here, entry_for, entry_word, after_entry, op_in, reply_for, next_entry, fate, own_after, GlanceFate, Looks, Shows, Disturbed, glance_fate}
use Rattle.exchange_model.specs.Worlds.{World, Answer, Event, OfSeat, OfReader, IsEvent, What, Begin, Copy, Step_on, Fits, IsFlying, seat_in, with_seat, ticked, found_by, store_after, seat_after, goes, glances, look_after, course_from, stand_at, update_begins, call_begins, goes_on, act, happens, nobody, opening_world, Peek, Open, Peek_on, peeks_on}
use Rattle.exchange_model.specs.Laws.{ReadsHeld}
use Rattle.exchange_laws.proofs.Words.{seat_holds}
use Rattle.exchange_laws.proofs.RowLists.{is_row}
use Rattle.exchange_laws.proofs.Owned.{Owned}
use Rattle.exchange_laws.proofs.OwnedMoves.{Moves}
use Rattle.exchange_laws.proofs.OwnedRuns.{seat_is}
use Rattle.exchange_laws.proofs.Held as Held
use Rattle.exchange_laws.proofs.HeldRuns.{live_stays, reads_look}
use Rattle.exchange_laws.proofs.HeldEntries.{first_in_row}
use Rattle.exchange_laws.proofs.Tied.{NotFree}

module _ (plan : Plan) where
  -- the own entry is none of the first ones
  abbrev pub NotBefore : (row : ℕ → ℕ) (q posted upto : ℕ) → Type 0
  NotBefore row q posted upto =
      (i : ℕ) → i < upto → row (entries_start (count_in plan (row 0)) + 2 * i) ≢ entry_word q posted

  -- the entry that is next, and so many from it on, are among those of the row; and the own one is there
  abbrev pub FindsStep : (rows : ℕ → ℕ → ℕ) (q posted : ℕ) → Step → Type 0
  FindsStep rows q posted (S.HeldEntry row at left) =
      (j : ℕ) × (at ≡ entries_start (count_in plan (rows row 0)) + 2 * j) × (j + left ≡ entries_in plan (rows row 0))
      × (1 ≤ left) × NotBefore (rows row) q posted j
  FindsStep rows q posted (S.HeldReply row at) =
      (e : Entry) × (entry_for q posted (row_at plan (rows row)).entries ≡ Some e)
      × (e.reply ≡ reply_of_word (rows row at))
  FindsStep rows q posted step = Unit {0}

  abbrev pub FindsAt : (rows : ℕ → ℕ → ℕ) (q posted : ℕ) → Stand → Type 0
  FindsAt rows q posted S.Idle = Unit {0}
  FindsAt rows q posted (S.Goes call step) = FindsStep rows q posted step
  FindsAt rows q posted (S.Glances aim glance) = Unit {0}

  abbrev pub FindsFate : (rows : ℕ → ℕ → ℕ) (q posted : ℕ) → Fate → Type 0
  FindsFate rows q posted (On step) = FindsStep rows q posted step
  FindsFate rows q posted (Ends reply) = Unit {0}
  FindsFate rows q posted Refuses = Unit {0}
  FindsFate rows q posted Spends = Unit {0}

  pub record Finds (x : World) : Type 0 where
    pub each : (q : ℕ) → q < plan.settings.seats → FindsAt x.store.row q (seat_in x q).posted (seat_in x q).stand

  -- ---- a row that is held stays

  step_still : (rows then : ℕ → ℕ → ℕ) (q posted : ℕ) (call : Call) (step : Step) →
      ((row : ℕ) → ReadsHeld (S.Goes call step) row → then row ≡ rows row) → FindsStep rows q posted step →
      FindsStep then q posted step
  step_still rows then q posted call (S.HeldEntry row at left) same f =
      subst (λ (r : ℕ → ℕ). (j : ℕ) × (at ≡ entries_start (count_in plan (r 0)) + 2 * j)
      × (j + left ≡ entries_in plan (r 0))
      × (1 ≤ left) × NotBefore r q posted j) (sym (same row refl)) f
  step_still rows then q posted call (S.HeldReply row at) same f =
      subst (λ (r : ℕ → ℕ). (e : Entry) × (entry_for q posted (row_at plan r).entries ≡ Some e)
      × (e.reply ≡ reply_of_word (r at)))
      (sym (same row refl)) f
  step_still rows then q posted call (S.HeldHead row) same f = tt
  step_still rows then q posted call S.Scans same f = tt
  step_still rows then q posted call (S.LoadWord turn) same f = tt
  step_still rows then q posted call (S.LoadRow turn old words) same f = tt
  step_still rows then q posted call (S.CheckWord turn old words) same f = tt
  step_still rows then q posted call (S.LoadPending t) same f = tt
  step_still rows then q posted call (S.LoadAnnounced t found) same f = tt
  step_still rows then q posted call (S.LoadOp t found announced words) same f = tt
  step_still rows then q posted call (S.StoreRow t found i) same f = tt
  step_still rows then q posted call (S.Exchange t found) same f = tt
  step_still rows then q posted call (S.StoreOp i) same f = tt
  step_still rows then q posted call S.RaisePending same f = tt
  step_still rows then q posted call S.Announce same f = tt
  step_still rows then q posted call S.StoreWant same f = tt
  step_still rows then q posted call S.StoreAsking same f = tt
  step_still rows then q posted call S.HeldWord same f = tt
  step_still rows then q posted call (S.TakeHold old) same f = tt
  step_still rows then q posted call (S.GiveBack reply) same f = tt
  step_still rows then q posted call (S.Over ending) same f = tt
  step_still rows then q posted call (S.LowerPending ending) same f = tt
  step_still rows then q posted call S.Stuck same f = tt

  at_still : (rows then : ℕ → ℕ → ℕ) (q posted : ℕ) (stand : Stand) →
      ((row : ℕ) → ReadsHeld stand row → then row ≡ rows row) → FindsAt rows q posted stand →
      FindsAt then q posted stand
  at_still rows then q posted S.Idle same f = tt
  at_still rows then q posted (S.Goes call step) same f = step_still rows then q posted call step same f
  at_still rows then q posted (S.Glances aim glance) same f = tt

  -- ---- where a step leads

  module _ (rows : ℕ → ℕ → ℕ) (q posted : ℕ) where
    abbrev T : Fate → Type 0
    T f = FindsFate rows q posted f

    either : (f g : Fate) (c : Bool) → T f → T g → T (cond c f g)
    either f g true l r = l
    either f g false l r = r

    either_on : (f g : Step) (c : Bool) → T (On f) → T (On g) → T (On (cond c f g))
    either_on f g true l r = l
    either_on f g false l r = r

    given_up : (announced : Bool) → T (gives_up announced)
    given_up true = tt
    given_up false = tt

    given_back : (reply : Option Reply) → T (gives_back reply)
    given_back None = tt
    given_back (Some reply) = tt

    over_then : (ending : S.Ending) → T (ended ending)
    over_then (S.Applied reply) = tt
    over_then S.GivenUp = tt

    unless : (t : Try) → T (unless_spent plan t)
    unless t = either (gives_up (is_announced t.turn)) (On (S.LoadPending t)) (is_spent plan t.word)
        (given_up (is_announced t.turn)) tt

    ends : (announced : Bool) (reply : Option Reply) → T (ends_with announced reply)
    ends true None = tt
    ends false None = tt
    ends true (Some reply) = tt
    ends false (Some reply) = tt

    loses : (turn : ℕ) → T (lost turn)
    loses turn =
        either (On S.RaisePending) (cond (turn == ALL_TRIES) (On S.StoreWant) (On (S.LoadWord (turn + 1))))
        (turn == SOLO_TRIES) tt (either (On S.StoreWant) (On (S.LoadWord (turn + 1))) (turn == ALL_TRIES) tt tt)

    free_on : (free : List ℕ) → T (with_free free)
    free_on [] = tt
    free_on (r ∷ free) = tt

    module _ (seat : ℕ) (now : SeatNow) (call : Call) where
      to_ops : (t : Try) (found : List Found) → T (found_so_far plan seat now call t found)
      to_ops t found =
          let all = with_own seat now call t.turn found in
          either_on (S.LoadAnnounced t all) (S.StoreRow t all 0) (nat_lt (length all) plan.settings.seats) tt tt

      by_entries : (t : Try) (entry : Option Entry) → T (by_entry plan t entry)
      by_entries t None = unless t
      by_entries t (Some entry) = ends true entry.reply

      looks : (t : Try) → T (looked plan seat now call t)
      looks t =
          let quiet = is_quiet (rules_of plan) t.row.items call in
          let answer = reply_in (rules_of plan) t.row.items call in
          either (by_entry plan t (entry_for seat now.posted t.row.entries))
          (cond quiet (Ends answer) (unless_spent plan t))
          (is_announced t.turn) (by_entries t (entry_for seat now.posted t.row.entries))
          (either (Ends answer) (unless_spent plan t) quiet tt (unless t))

      to_entry : (t : Try) (found : List Found) (announced : ℕ) (entry : Option Entry) →
          T (after_entry plan seat now call t found announced entry)
      to_entry t found announced None = tt
      to_entry t found announced (Some entry) = to_ops t (more found (Keeps entry))

      -- steps that look at no held row
      abbrev IsCalm : Step → Type 0
      IsCalm (S.HeldHead row) = ⊥
      IsCalm (S.HeldEntry row at left) = ⊥
      IsCalm step = Unit {0}

      calm : (step : Step) → IsCalm step → (w : ℕ) → T (fate plan seat now call step w)
      calm S.Scans c w = go (scan_fate_of plan seat now.scan w)
        where
          go : (f : ScanFate) → T (after_scan now.free f)
          go (ScansOn scan) = tt
          go (Scanned left held) = free_on (now.free ++ left)
      calm (S.LoadWord turn) c w = tt
      calm (S.LoadRow turn old words) c w =
          either_on (S.LoadRow turn old (more words w)) (S.CheckWord turn old (more words w))
          (nat_lt (length words + 1) (length_by plan (more words w))) tt tt
      calm (S.CheckWord turn old words) c w =
          let t : Try = record { turn = turn; word = old; row = row_of_words plan words } in
          either (looked plan seat now call t) (lost turn) (w == old) (looks t) (loses turn)
      calm (S.LoadPending t) c w =
          let found = found_alone seat (own_op now.posted t.turn call) plan.settings.seats [] in
          either (On (S.StoreRow t found 0)) (found_so_far plan seat now call t []) (w ==
          share_of (is_announced t.turn)) tt
          (to_ops t [])
      calm (S.LoadAnnounced t found) c w =
          let entry = entry_for (length found) (number_in w) t.row.entries in
          either (after_entry plan seat now call t found w entry) (found_so_far plan seat now call t (more found NoOp))
          (is_here plan (bucket_of_call plan call) w) (to_entry t found w entry) (to_ops t (more found NoOp))
      calm (S.LoadOp t found announced words) c w =
          let one = Takes (op_in announced (more words w)) in
          either (On (S.LoadOp t found announced (more words w))) (found_so_far plan seat now call t (more found one))
          (nat_lt (length words + 1) SLOT_WORDS) tt (to_ops t (more found one))
      calm (S.StoreRow t found i) c w =
          either_on (S.StoreRow t found (i + 1)) (S.Exchange t found)
          (nat_lt (i + 1) (length (new_words plan t found))) tt tt
      calm (S.Exchange t found) c w =
          either (ends_with (is_announced t.turn) (reply_for seat (S.made plan t found).made)) (lost t.turn) (w ==
          t.word)
          (ends (is_announced t.turn) (reply_for seat (S.made plan t found).made)) (loses t.turn)
      calm (S.StoreOp i) c w = either_on (S.StoreOp (i + 1)) S.Announce (nat_lt (i + 1) SLOT_WORDS) tt tt
      calm S.RaisePending c w = tt
      calm S.Announce c w = tt
      calm S.StoreWant c w = tt
      calm S.StoreAsking c w = tt
      calm S.HeldWord c w = tt
      calm (S.TakeHold old) c w = tt
      calm (S.HeldReply row at) c w = given_back _
      calm (S.GiveBack reply) c w = tt
      calm (S.Over ending) c w = tt
      calm (S.LowerPending ending) c w = over_then ending
      calm S.Stuck c w = tt
      calm (S.HeldHead row) c w = absurd c
      calm (S.HeldEntry row at left) c w = absurd c

    -- the next entry
    entries_on : (row at left j : ℕ) → at ≡ entries_start (count_in plan (rows row 0)) + 2 * j →
        j + left ≡ entries_in plan (rows row 0) → NotBefore (rows row) q posted j → T (next_entry row at left)
    entries_on row at left j is few none = go (nat_lt 0 left) refl
      where
        go : (c : Bool) → nat_lt 0 left ≡ c → T (On (cond c (S.HeldEntry row at left) S.Stuck))
        go true e = (j, is, few, ltb-true 0 left e, none)
        go false e = tt

  -- ---- events

  module _ (is_plan : IsPlan plan) (x : World) (h : Owned plan x) (held : Held.Tied plan x) (finds : Finds x) (p : ℕ)
      (inside : p < holders_of plan.settings) where
    abbrev now : SeatNow
    now = seat_in x p

    next : (store : W.Store) (then : SeatNow) (answers : List Answer) (updates : List MadeBySeat) →
        Moves plan h.at x (ticked (with_seat x p store then answers updates)) →
        (p < plan.settings.seats → FindsAt store.row p then.posted then.stand) →
        Finds (ticked (with_seat x p store then answers updates))
    next store then answers updates moves here = record {
      each = λ q less. elim (cases_eq q p) [
        | inl e ↦ subst (λ i. FindsAt store.row i (seat_in y i).posted (seat_in y i).stand) (sym e)
            (subst (λ (k : SeatNow). FindsAt store.row p k.posted k.stand) (sym mine)
            (here (subst (λ k. k < plan.settings.seats) e less)))
        | inr n ↦ subst (λ (k : SeatNow). FindsAt store.row q k.posted k.stand)
            (sym (get_or-set_other x.seats p q then nobody n))
            (at_still x.store.row store.row q (seat_in x q).posted (seat_in x q).stand (λ row reads k i.
            live_stays plan h.at x y held row i
            (held.holds.reads q row (reads_look plan (seat_in x q).stand row reads)).1.0 moves k) (finds.each q less))
      ];
    }
      where
        y : World
        y = ticked (with_seat x p store then answers updates)

        mine : seat_in y p ≡ then
        mine = get_or-set_same x.seats p then nobody (let long = h.long in omega (arith, inside, long))

    module _ (call : Call) (of_seat : p < plan.settings.seats) where
      after : (rows : ℕ → ℕ → ℕ) (own : SeatNow) (f : Fate) → FindsFate rows p own.posted f →
          FindsAt rows p (seat_after own call f).posted (seat_after own call f).stand
      after rows own (On step) t = t
      after rows own (Ends reply) t = tt
      after rows own Refuses t = tt
      after rows own Spends t = tt

      abbrev Y : Step → World
      Y step = ticked (goes plan x p now call step)

      calm_step : (step : Step) → IsCalm x.store.row p now.posted p now call step → Moves plan h.at x (Y step) →
          Finds (Y step)
      calm_step step c moves =
          let deed = deed_of plan p now call step in
          let w = found_by deed x.store in
          let own = own_after plan p now call step w in
          let rows = (store_after deed x.store).row in
          next (store_after deed x.store) (seat_after own call (fate plan p now call step w)) _ _ moves
          (λ _. after rows own (fate plan p now call step w) (calm rows p own.posted p now call step c w))

      head_step : (row : ℕ) → Moves plan h.at x (Y (S.HeldHead row)) → Finds (Y (S.HeldHead row))
      head_step row moves =
          let w = x.store.row row 0 in
          let start = entries_start (count_in plan w) in
          let f = next_entry row start (entries_in plan w) in
          next x.store (seat_after now call f) _ _ moves
          (λ _. after x.store.row now f (entries_on x.store.row p now.posted row start (entries_in plan w) 0
          (omega arith) (omega arith)
          (λ i less. absurd (omega (arith, less)))))

      entry_step : (row at left : ℕ) → now.stand ≡ S.Goes call (S.HeldEntry row at left) →
          Moves plan h.at x (Y (S.HeldEntry row at left)) → Finds (Y (S.HeldEntry row at left))
      entry_step row at left stood moves =
          let w = x.store.row row at in
          let f = fate plan p now call (S.HeldEntry row at left) w in
          next x.store (seat_after now call f) _ _ moves
          (λ _. after x.store.row now f (go (w == entry_word p now.posted) refl))
        where
          was : FindsStep x.store.row p now.posted (S.HeldEntry row at left)
          was = subst (FindsAt x.store.row p now.posted) stood (finds.each p of_seat)

          go : (c : Bool) → (x.store.row row at == entry_word p now.posted) ≡ c → FindsFate x.store.row p now.posted
              (cond c (On (S.HeldReply row (at + 1))) (next_entry row (at + ENTRY_WORDS) (left - 1)))
          go true e =
              let few = is_plan.seats in
              let some = was.3 in
              let within = was.2 in
              let is = was.1 in
              let here : entries_start (count_in plan (x.store.row row 0)) + 2 * was.0 + 1 ≡ at + 1 =
              omega (arith, is) in (
                _,
                first_in_row plan (x.store.row row) was.0 p now.posted (omega (arith, few, of_seat))
                    (omega (arith, some, within))
                    was.4 (ap (x.store.row row) (sym was.1)
                    ∙ eqb-true (x.store.row row at) (entry_word p now.posted) e),
                ap (λ k. reply_of_word (x.store.row row k)) here,
              )
          go false e =
              let some = was.3 in
              let within = was.2 in
              let is = was.1 in
              entries_on x.store.row p now.posted row (at + ENTRY_WORDS) (left - 1) (was.0 + 1) (omega (arith, is))
              (omega (arith, some, within)) (λ i less. elim (cases_eq i was.0) [
                | inl k ↦ λ w. eqb-false (x.store.row row at) (entry_word p now.posted) e
                    (ap (x.store.row row) is
                    ∙ ap (λ j. x.store.row row (entries_start (count_in plan (x.store.row row 0)) + 2 * j))
                    (sym k) ∙ w)
                | inr n ↦ was.4 i (omega (arith, less, n))
              ])

      update_step : (step : Step) → now.stand ≡ S.Goes call step → Moves plan h.at x (Y step) → Finds (Y step)
      update_step (S.HeldHead row) e moves = head_step row moves
      update_step (S.HeldEntry row at left) e moves = entry_step row at left e moves
      update_step S.Scans e moves = calm_step S.Scans tt moves
      update_step (S.LoadWord turn) e moves = calm_step (S.LoadWord turn) tt moves
      update_step (S.LoadRow turn old words) e moves = calm_step (S.LoadRow turn old words) tt moves
      update_step (S.CheckWord turn old words) e moves = calm_step (S.CheckWord turn old words) tt moves
      update_step (S.LoadPending t) e moves = calm_step (S.LoadPending t) tt moves
      update_step S.RaisePending e moves = calm_step S.RaisePending tt moves
      update_step (S.GiveBack reply) e moves = calm_step (S.GiveBack reply) tt moves
      update_step (S.LowerPending ending) e moves = calm_step (S.LowerPending ending) tt moves
      update_step (S.LoadAnnounced t found) e moves = calm_step (S.LoadAnnounced t found) tt moves
      update_step (S.LoadOp t found announced words) e moves = calm_step (S.LoadOp t found announced words) tt moves
      update_step (S.StoreRow t found i) e moves = calm_step (S.StoreRow t found i) tt moves
      update_step (S.Exchange t found) e moves = calm_step (S.Exchange t found) tt moves
      update_step (S.StoreOp i) e moves = calm_step (S.StoreOp i) tt moves
      update_step S.Announce e moves = calm_step S.Announce tt moves
      update_step S.StoreWant e moves = calm_step S.StoreWant tt moves
      update_step S.StoreAsking e moves = calm_step S.StoreAsking tt moves
      update_step S.HeldWord e moves = calm_step S.HeldWord tt moves
      update_step (S.TakeHold old) e moves = calm_step (S.TakeHold old) tt moves
      update_step (S.HeldReply row at) e moves = calm_step (S.HeldReply row at) tt moves
      update_step (S.Over ending) e moves = calm_step (S.Over ending) tt moves
      update_step S.Stuck e moves = calm_step S.Stuck tt moves

    look_step : (aim : Aim) (glance : Glance) → Moves plan h.at x (ticked (glances plan x p now aim glance)) →
        Finds (ticked (glances plan x p now aim glance))
    look_step aim glance moves =
        let deed = glance_deed plan p now.time aim glance in
        let f = glance_fate plan now.time aim glance (found_by deed x.store) in
        next (store_after deed x.store) (look_after now aim glance f) _ x.made moves
        (λ _. go (store_after deed x.store).row f)
      where
        go : (rows : ℕ → ℕ → ℕ) (f : GlanceFate) →
            FindsAt rows p (look_after now aim glance f).posted (look_after now aim glance f).stand
        go rows (Looks next) = tt
        go rows (Shows items) = tt
        go rows Disturbed = tt

    update_first : (call : Call) → Moves plan h.at x (ticked (update_begins plan x p now call)) →
        Finds (ticked (update_begins plan x p now call))
    update_first call moves =
        let taken = scan_begins plan p now.free now in
        let f = first_fate taken.free taken.scan in
        next x.store (record taken { stand = stand_at call f; course = course_from x.clock }) _ x.made moves
        (λ _. go taken.posted taken.free taken.scan)
      where
        go : (posted : ℕ) (free : List ℕ) (scan : Option S.Scan) →
            FindsAt x.store.row p posted (stand_at call (first_fate free scan))
        go posted [] None = tt
        go posted (row ∷ free) None = tt
        go posted free (Some scan) = tt

    call_first : (call : Call) → Moves plan h.at x (ticked (call_begins plan x p now call)) →
        Finds (ticked (call_begins plan x p now call))
    call_first (Lookup key) moves = next x.store _ x.answers x.made moves (λ _. tt)
    call_first (Insert key value) moves = update_first (Insert key value) moves
    call_first (Remove key) moves = update_first (Remove key) moves
    call_first (Tally key amount) moves = update_first (Tally key amount) moves
    call_first (Count key value amount) moves = update_first (Count key value amount) moves
    call_first (Put key value) moves = update_first (Put key value) moves

    seat_goes : (stand : Stand) → now.stand ≡ stand → IsFlying plan p stand →
        Moves plan h.at x (ticked (goes_on plan x p now stand)) → Finds (ticked (goes_on plan x p now stand))
    seat_goes S.Idle e flies moves = absurd flies
    seat_goes (S.Goes call step) e flies moves = update_step call flies step e moves
    seat_goes (S.Glances aim glance) e flies moves = look_step aim glance moves

    seat_finds : (what : What) → Fits plan p now what → Moves plan h.at x (ticked (act plan x p now what)) →
        Finds (ticked (act plan x p now what))
    seat_finds (Begin call) fits moves = call_first call moves
    seat_finds (Copy bucket) fits moves = next x.store _ x.answers x.made moves (λ _. tt)
    seat_finds Step_on fits moves = seat_goes now.stand refl fits moves

  reader_finds : (x : World) (r : ℕ) (peek : Peek) → Finds x → Finds (happens plan x (OfReader r peek))
  reader_finds x r (Open aim tries) finds = record { each = finds.each }
  reader_finds x r Peek_on finds = go (x.readers r).stand
    where
      go : (stand : S.Peeking) → Finds (ticked (peeks_on plan x r (x.readers r) stand))
      go S.Rests = record { each = finds.each }
      go (S.Peeks aim glance) = record { each = finds.each }

  pub finds_keep : IsPlan plan → (x : World) (h : Owned plan x) → Held.Tied plan x → Finds x → (event : Event) →
      IsEvent plan x event → Moves plan h.at x (happens plan x event) → Finds (happens plan x event)
  finds_keep is_plan x h held finds (OfSeat p what) fits moves =
      subst (λ (c : Bool). Moves plan h.at x (cond c y x) →
      Finds (cond c y x)) (sym (lt-ltb p (holders_of plan.settings) fits.0))
      (seat_finds is_plan x h held finds p fits.0 what fits.1) moves
    where
      y : World
      y = ticked (act plan x p (seat_in x p) what)
  finds_keep is_plan x h held finds (OfReader r peek) fits moves = reader_finds x r peek finds

  pub finds_first : IsPlan plan → Finds (opening_world plan)
  finds_first is = record {
    each = λ q less. subst (λ (k : SeatNow). FindsAt (opening_world plan).store.row q k.posted k.stand)
        (sym (seat_is plan is q (seat_holds plan q less))) tt;
  }

  -- a row that a seat reads under its hold is not free
  pub held_live : (x : World) → Held.Tied plan x → (q row : ℕ) → ReadsHeld (seat_in x q).stand row → NotFree plan x row
  held_live x held q row reads p inside = elim (cases_lt 0 (many (is_row row) (seat_in x p).free)) [
    | inl some ↦ absurd (true≢false (sym ((held.agrees p inside).frees row (omega (arith, some)))
        ∙ (held.holds.reads q row (reads_look plan (seat_in x q).stand row reads)).1.0))
    | inr none ↦ omega (arith, none)
  ]
