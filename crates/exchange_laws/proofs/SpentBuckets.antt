-- A bucket with its last generation keeps its word, and who is told that a bucket is spent has found it so.
use Rattle.std.proofs.Common.{◌≡◌, ℕ, ◌+◌, ◌-◌, ◌<◌, ◌≤◌, inl, inr, Bool, true, false, cond, List, [], ◌∷◌, ◌++◌, length, Option, Some, None, refl, sym, ap, ◌∙◌, subst, arith, append_assoc, append-nil, lt-ltb, get_or-set_same, get_or-set_other, true≢false}
use Rattle.std.specs.Prelude.{◌==◌, nat_lt, All, fold, slice_index_or}
use Rattle.std.proofs.lemmas.Bool.{cases_eq, cond_both, eqb-true}
use Rattle.std.proofs.lemmas.List.{length-append}
use Rattle.std.proofs.lemmas.List.Elements.{All-nil, All-cons, All-append, All-weaker}
use Rattle.plain_map.specs.declared.calls.Call.{Call}
use Rattle.plain_map.specs.declared.calls.Call.TheVariants.{Insert, Remove, Lookup, Tally, Count, Put}
use Rattle.plain_map.specs.declared.calls.Reply.{Reply}
use Rattle.plain_map.specs.declared.keys.Pair.{Pair}
use Rattle.bucket_states.specs.Items.{reply_in}
use Rattle.word_rows.proofs.MemoryLemmas.{put_other}
use Rattle.exchange_model.specs.Plans.{Plan, IsPlan, rules_of, holders_of, more}
use Rattle.exchange_model.specs.Codes.{SLOT_WORDS, ENTRY_WORDS, Entry, row_in, is_spent, row_of_words, length_by, count_in, entries_in, entries_start, number_in}
use Rattle.exchange_model.specs.Laws.{FoundSpent, SpentIsFound, SpentStays, word_for}
use Rattle.exchange_model.specs.Words as W
use Rattle.exchange_model.specs.Words.{with_word}
use Rattle.exchange_model.specs.Steps as S
use Rattle.exchange_model.specs.Steps.{MadeBySeat, SeatNow, Step, Stand, Scan, Found, NoOp, Keeps, Takes, Try, Ending, Aim, OfKey, OfBucket, Glance, Course, deed_of, glance_deed, bucket_of_call, new_words, next_tag, SOLO_TRIES, ALL_TRIES}
use Rattle.exchange_model.specs.Goes.{ScanFate, ScansOn, Scanned, scan_fate_of, scanned, exchanged, scan_begins, Fate, On, Ends, Spends, Refuses, with_free, first_fate, after_scan, is_announced, lost, ends_with, gives_up, gives_back, ended, unless_spent, is_quiet, share_of, own_op, found_alone, with_own, found_so_far, by_entry, looked, is_here, entry_for, entry_word, after_entry, op_in, reply_for, next_entry, fate, own_after, GlanceFate, Looks, Shows, Disturbed, glance_fate, Told, Replied, Pairs, Again, Spent, Refused, told_by_items}
use Rattle.exchange_model.specs.Worlds.{World, Answer, Event, OfSeat, OfReader, IsEvent, AreEvents, What, Begin, Copy, Step_on, Peek, Open, Peek_on, IsFlying, Fits, seat_in, with_seat, ticked, found_by, store_after, stepped, seat_after, answers_after, goes, glances, look_after, look_answers, look_begins, update_begins, call_begins, goes_on, act, peeks_on, peek_acts, peek_answers, stand_at, course_from, happens, nobody, opening_world, world_after}
use Rattle.exchange_laws.proofs.Owned.{Owned}
use Rattle.exchange_laws.proofs.OwnedSteps.{quiet_words, quiet_step, quiet_glance}
use Rattle.exchange_laws.proofs.OwnedEvents.{event_keeps}
use Rattle.exchange_laws.proofs.OwnedRuns.{after_both, front_follows, back_follows, opening_owned, seat_is}

-- a step leaves when its call began
pub own_course : (plan : Plan) (seat : ℕ) (now : SeatNow) (call : Call) (step : Step) (word : ℕ) →
    (own_after plan seat now call step word).course ≡ now.course
own_course plan seat now call S.Scans word = go (scan_fate_of plan seat now.scan word)
  where
    go : (f : ScanFate) → (scanned now f).course ≡ now.course
    go (ScansOn scan) = refl
    go (Scanned left held) = refl
own_course plan seat now call (S.Exchange t found) word =
    cond_both (word == t.word) (exchanged now (row_in plan t.word)) now (λ (n : SeatNow). n.course ≡ now.course)
    (λ _. refl) (λ _. refl)
own_course plan seat now call (S.LoadWord turn) word = refl
own_course plan seat now call (S.LoadRow turn old words) word = refl
own_course plan seat now call (S.CheckWord turn old words) word = refl
own_course plan seat now call (S.LoadPending t) word = refl
own_course plan seat now call (S.LoadAnnounced t found) word = refl
own_course plan seat now call (S.LoadOp t found announced words) word = refl
own_course plan seat now call (S.StoreRow t found i) word = refl
own_course plan seat now call S.RaisePending word = refl
own_course plan seat now call (S.StoreOp i) word = refl
own_course plan seat now call S.Announce word = refl
own_course plan seat now call S.StoreWant word = refl
own_course plan seat now call S.StoreAsking word = refl
own_course plan seat now call S.HeldWord word = refl
own_course plan seat now call (S.TakeHold old) word = refl
own_course plan seat now call (S.HeldHead row) word = refl
own_course plan seat now call (S.HeldEntry row at left) word = refl
own_course plan seat now call (S.HeldReply row at) word = refl
own_course plan seat now call (S.GiveBack reply) word = refl
own_course plan seat now call (S.Over ending) word = refl
own_course plan seat now call (S.LowerPending ending) word = refl
own_course plan seat now call S.Stuck word = refl

module _ (plan : Plan) where
  -- ---- what is said

  -- the bucket has its last generation
  abbrev pub IsLast : World → (b : ℕ) → Type 0
  IsLast x b = is_spent plan (x.store.bucket b) ≡ true

  -- a try that goes on has a word that is not the last; who gives its op up has found the last one there
  abbrev pub SpentStep : World → (b : ℕ) → Step → Type 0
  SpentStep x b (S.LoadPending t) = is_spent plan t.word ≡ false
  SpentStep x b (S.LoadAnnounced t found) = is_spent plan t.word ≡ false
  SpentStep x b (S.LoadOp t found announced words) = is_spent plan t.word ≡ false
  SpentStep x b (S.StoreRow t found i) = is_spent plan t.word ≡ false
  SpentStep x b (S.Exchange t found) = is_spent plan t.word ≡ false
  SpentStep x b (S.Over S.GivenUp) = IsLast x b
  SpentStep x b (S.LowerPending S.GivenUp) = IsLast x b
  SpentStep x b step = Unit {0}

  abbrev pub SpentAt : World → (began : ℕ) → Stand → Type 0
  SpentAt x began S.Idle = Unit {0}
  SpentAt x began (S.Goes call step) = (began ≤ x.clock) × SpentStep x (bucket_of_call plan call) step
  SpentAt x began (S.Glances aim glance) = Unit {0}

  -- where a step leads
  abbrev F : World → (b : ℕ) → Fate → Type 0
  F x b (On step) = SpentStep x b step
  F x b (Ends reply) = Unit {0}
  F x b Spends = IsLast x b
  F x b Refuses = Unit {0}

  module _ (x : World) (b : ℕ) where
    either : (f g : Fate) (c : Bool) → F x b f → F x b g → F x b (cond c f g)
    either f g true l r = l
    either f g false l r = r

    either_on : (f g : Step) (c : Bool) → SpentStep x b f → SpentStep x b g → F x b (On (cond c f g))
    either_on f g true l r = l
    either_on f g false l r = r

    ends : (announced : Bool) (reply : Option Reply) → F x b (ends_with announced reply)
    ends true None = tt
    ends false None = tt
    ends true (Some reply) = tt
    ends false (Some reply) = tt

    given_back : (reply : Option Reply) → F x b (gives_back reply)
    given_back None = tt
    given_back (Some reply) = tt

    given_up : (announced : Bool) → IsLast x b → F x b (gives_up announced)
    given_up true last = last
    given_up false last = last

    over_then : (ending : Ending) → SpentStep x b (S.LowerPending ending) → F x b (ended ending)
    over_then (S.Applied reply) k = tt
    over_then S.GivenUp k = k

    over_next : (ending : Ending) → SpentStep x b (S.Over ending) → SpentStep x b (S.LowerPending ending)
    over_next (S.Applied reply) k = tt
    over_next S.GivenUp k = k

    loses : (turn : ℕ) → F x b (lost turn)
    loses turn =
        either (On S.RaisePending) (cond (turn == ALL_TRIES) (On S.StoreWant) (On (S.LoadWord (turn + 1))))
        (turn == SOLO_TRIES) tt (either (On S.StoreWant) (On (S.LoadWord (turn + 1))) (turn == ALL_TRIES) tt tt)

    free_on : (free : List ℕ) → F x b (with_free free)
    free_on [] = tt
    free_on (r ∷ free) = tt

    entries_on : (row at left : ℕ) → F x b (next_entry row at left)
    entries_on row at left = either_on (S.HeldEntry row at left) S.Stuck (nat_lt 0 left) tt tt

    to_ops : (seat : ℕ) (now : SeatNow) (call : Call) (t : Try) (found : List Found) → is_spent plan t.word ≡ false →
        F x b (found_so_far plan seat now call t found)
    to_ops seat now call t found k =
        let all = with_own seat now call t.turn found in
        either_on (S.LoadAnnounced t all) (S.StoreRow t all 0) (nat_lt (length all) plan.settings.seats) k k

    to_entry : (seat : ℕ) (now : SeatNow) (call : Call) (t : Try) (found : List Found) (announced : ℕ)
        (entry : Option Entry) → is_spent plan t.word ≡ false →
        F x b (after_entry plan seat now call t found announced entry)
    to_entry seat now call t found announced None k = k
    to_entry seat now call t found announced (Some entry) k = to_ops seat now call t (more found (Keeps entry)) k

    unless : (t : Try) → x.store.bucket b ≡ t.word → F x b (unless_spent plan t)
    unless t same =
        cond_both (is_spent plan t.word) (gives_up (is_announced t.turn)) (On (S.LoadPending t)) (F x b)
        (λ last. given_up (is_announced t.turn) (ap (is_spent plan) same ∙ last)) (λ not_last. not_last)

    by_entries : (t : Try) (entry : Option Entry) → x.store.bucket b ≡ t.word → F x b (by_entry plan t entry)
    by_entries t None same = unless t same
    by_entries t (Some entry) same = ends true entry.reply

    looks : (seat : ℕ) (now : SeatNow) (call : Call) (t : Try) → x.store.bucket b ≡ t.word →
        F x b (looked plan seat now call t)
    looks seat now call t same =
        let quiet = is_quiet (rules_of plan) t.row.items call in
        let answer = reply_in (rules_of plan) t.row.items call in
        either (by_entry plan t (entry_for seat now.posted t.row.entries))
        (cond quiet (Ends answer) (unless_spent plan t))
        (is_announced t.turn) (by_entries t (entry_for seat now.posted t.row.entries) same)
        (either (Ends answer) (unless_spent plan t) quiet tt (unless t same))

  module _ (x : World) (seat : ℕ) (now : SeatNow) (call : Call) where
    abbrev b : ℕ
    b = bucket_of_call plan call

    abbrev word_of : Step → ℕ
    word_of step = found_by (deed_of plan seat now call step) x.store

    fated : (step : Step) → SpentStep x b step → F x b (fate plan seat now call step (word_of step))
    fated S.Scans k = go (scan_fate_of plan seat now.scan (word_of S.Scans))
      where
        go : (f : ScanFate) → F x b (after_scan now.free f)
        go (ScansOn scan) = tt
        go (Scanned left held) = free_on x b (now.free ++ left)
    fated (S.LoadWord turn) k = tt
    fated (S.LoadRow turn old words) k =
        let word = word_of (S.LoadRow turn old words) in
        either_on x b (S.LoadRow turn old (more words word)) (S.CheckWord turn old (more words word))
        (nat_lt (length words + 1) (length_by plan (more words word))) tt tt
    fated (S.CheckWord turn old words) k =
        let t : Try = record { turn = turn; word = old; row = row_of_words plan words } in
        cond_both (x.store.bucket b == old) (looked plan seat now call t) (lost turn) (F x b)
        (λ e. looks x b seat now call t (eqb-true (x.store.bucket b) old e)) (λ _. loses x b turn)
    fated (S.LoadPending t) k =
        let found = found_alone seat (own_op now.posted t.turn call) plan.settings.seats [] in
        either x b (On (S.StoreRow t found 0)) (found_so_far plan seat now call t [])
        (word_of (S.LoadPending t) == share_of (is_announced t.turn)) k (to_ops x b seat now call t [] k)
    fated (S.LoadAnnounced t found) k =
        let w = word_of (S.LoadAnnounced t found) in
        let entry = entry_for (length found) (number_in w) t.row.entries in
        either x b (after_entry plan seat now call t found w entry)
        (found_so_far plan seat now call t (more found NoOp))
        (is_here plan b w) (to_entry x b seat now call t found w entry k)
        (to_ops x b seat now call t (more found NoOp) k)
    fated (S.LoadOp t found announced words) k =
        let w = word_of (S.LoadOp t found announced words) in
        let one = Takes (op_in announced (more words w)) in
        either x b (On (S.LoadOp t found announced (more words w))) (found_so_far plan seat now call t (more found one))
        (nat_lt (length words + 1) SLOT_WORDS) k (to_ops x b seat now call t (more found one) k)
    fated (S.StoreRow t found i) k =
        either_on x b (S.StoreRow t found (i + 1)) (S.Exchange t found)
        (nat_lt (i + 1) (length (new_words plan t found))) k k
    fated (S.Exchange t found) k =
        either x b (ends_with (is_announced t.turn) (reply_for seat (S.made plan t found).made)) (lost t.turn)
        (x.store.bucket b == t.word) (ends x b (is_announced t.turn) (reply_for seat (S.made plan t found).made))
        (loses x b t.turn)
    fated S.RaisePending k = tt
    fated (S.StoreOp i) k = either_on x b (S.StoreOp (i + 1)) S.Announce (nat_lt (i + 1) SLOT_WORDS) tt tt
    fated S.Announce k = tt
    fated S.StoreWant k = tt
    fated S.StoreAsking k = tt
    fated S.HeldWord k = tt
    fated (S.TakeHold old) k = tt
    fated (S.HeldHead row) k =
        let w = word_of (S.HeldHead row) in entries_on x b row (entries_start (count_in plan w)) (entries_in plan w)
    fated (S.HeldEntry row at left) k =
        either x b (On (S.HeldReply row (at + 1))) (next_entry row (at + ENTRY_WORDS) (left - 1))
        (word_of (S.HeldEntry row at left) == entry_word seat now.posted) tt
        (entries_on x b row (at + ENTRY_WORDS) (left - 1))
    fated (S.HeldReply row at) k = given_back x b _
    fated (S.GiveBack reply) k = tt
    fated (S.Over ending) k = over_next x b ending k
    fated (S.LowerPending ending) k = over_then x b ending k
    fated S.Stuck k = tt

    -- a step exchanges no word that is the last
    kept_word : (step : Step) → SpentStep x b step → (a : ℕ) → IsLast x a →
        (store_after (deed_of plan seat now call step) x.store).bucket a ≡ x.store.bucket a
    kept_word (S.Exchange t found) k a last =
        cond_both (x.store.bucket b == t.word) (with_word x.store (W.Bucket b) (next_tag plan now t.word)) x.store
        (λ (s : W.Store). s.bucket a ≡ x.store.bucket a)
        (λ e. put_other x.store.bucket b (next_tag plan now t.word) a
        (λ is. true≢false (sym last ∙ ap (λ i. is_spent plan (x.store.bucket i)) is
        ∙ ap (is_spent plan) (eqb-true (x.store.bucket b) t.word e) ∙ k))) (λ _. refl)
    kept_word (S.StoreRow t found i) k a last = refl
    kept_word S.Scans k a last =
        λ i. (quiet_words (deed_of plan seat now call S.Scans) x.store (quiet_step plan seat now call S.Scans tt)).0 i a
    kept_word (S.LoadWord turn) k a last = refl
    kept_word (S.LoadRow turn word words) k a last = refl
    kept_word (S.CheckWord turn word words) k a last = refl
    kept_word (S.LoadPending t) k a last = refl
    kept_word (S.LoadAnnounced t found) k a last = refl
    kept_word (S.LoadOp t found announced words) k a last = refl
    kept_word S.RaisePending k a last = refl
    kept_word (S.StoreOp i) k a last = refl
    kept_word S.Announce k a last = refl
    kept_word S.StoreWant k a last = refl
    kept_word S.StoreAsking k a last = refl
    kept_word S.HeldWord k a last = refl
    kept_word (S.TakeHold word) k a last =
        λ i. (quiet_words (deed_of plan seat now call (S.TakeHold word)) x.store
        (quiet_step plan seat now call (S.TakeHold word) tt)).0 i a
    kept_word (S.HeldHead row) k a last = refl
    kept_word (S.HeldEntry row at left) k a last = refl
    kept_word (S.HeldReply row at) k a last = refl
    kept_word (S.GiveBack reply) k a last = refl
    kept_word (S.Over ending) k a last = refl
    kept_word (S.LowerPending ending) k a last = refl
    kept_word S.Stuck k a last = refl

  -- ---- histories

  -- an answer that says so was found so
  abbrev IsTrue : List Event → Answer → Type 0
  IsTrue es a = a.told ≡ Spent → FoundSpent plan es a

  pub record Seen (es : List Event) (x : World) : Type 0 where
    pub owned : Owned plan x
    pub world : x ≡ world_after plan es
    pub clock : x.clock ≡ length es
    pub seats : (q : ℕ) → q < holders_of plan.settings →
        SpentAt x (seat_in x q).course.began (seat_in x q).stand
    pub answers : All (IsTrue es) x.answers

  -- spent buckets keep their words
  abbrev pub KeepsLast : World → World → Type 0
  KeepsLast x y = (a : ℕ) → IsLast x a → y.store.bucket a ≡ x.store.bucket a

  true_still : (es : List Event) (event : Event) (a : Answer) → IsTrue es a → IsTrue (es ++ event ∷ []) a
  true_still es event a k told =
      let f = k told in
      record {
        call = f.call;
        asked_is = f.asked_is;
        front = f.front;
        back = f.back ++ event ∷ [];
        cut = ap (λ (xs : List Event). xs ++ event ∷ []) f.cut ∙ append_assoc f.front f.back (event ∷ []);
        after = f.after;
        before = f.before;
        spent = f.spent;
      }

  last_still : (x y : World) (b : ℕ) → KeepsLast x y → IsLast x b → IsLast y b
  last_still x y b keeps last = ap (is_spent plan) (keeps b last) ∙ last

  step_still : (x y : World) (b : ℕ) → KeepsLast x y → (step : Step) → SpentStep x b step → SpentStep y b step
  step_still x y b keeps (S.LoadPending t) k = k
  step_still x y b keeps (S.LoadAnnounced t found) k = k
  step_still x y b keeps (S.LoadOp t found announced words) k = k
  step_still x y b keeps (S.StoreRow t found i) k = k
  step_still x y b keeps (S.Exchange t found) k = k
  step_still x y b keeps (S.Over (S.Applied reply)) k = tt
  step_still x y b keeps (S.Over S.GivenUp) k = last_still x y b keeps k
  step_still x y b keeps (S.LowerPending (S.Applied reply)) k = tt
  step_still x y b keeps (S.LowerPending S.GivenUp) k = last_still x y b keeps k
  step_still x y b keeps S.Scans k = tt
  step_still x y b keeps (S.LoadWord turn) k = tt
  step_still x y b keeps (S.LoadRow turn word words) k = tt
  step_still x y b keeps (S.CheckWord turn word words) k = tt
  step_still x y b keeps S.RaisePending k = tt
  step_still x y b keeps (S.StoreOp i) k = tt
  step_still x y b keeps S.Announce k = tt
  step_still x y b keeps S.StoreWant k = tt
  step_still x y b keeps S.StoreAsking k = tt
  step_still x y b keeps S.HeldWord k = tt
  step_still x y b keeps (S.TakeHold word) k = tt
  step_still x y b keeps (S.HeldHead row) k = tt
  step_still x y b keeps (S.HeldEntry row at left) k = tt
  step_still x y b keeps (S.HeldReply row at) k = tt
  step_still x y b keeps (S.GiveBack reply) k = tt
  step_still x y b keeps S.Stuck k = tt

  at_still : (x y : World) (began : ℕ) → KeepsLast x y → y.clock ≡ x.clock + 1 → (stand : Stand) →
      SpentAt x began stand → SpentAt y began stand
  at_still x y began keeps later S.Idle k = tt
  at_still x y began keeps later (S.Goes call step) k =
      (omega (arith, k.0, later), step_still x y (bucket_of_call plan call) keeps step k.1)
  at_still x y began keeps later (S.Glances aim glance) k = tt

  -- no look is told so
  abbrev pub told_kind : Told → ℕ
  told_kind (Replied reply) = 0
  told_kind (Pairs pairs) = 1
  told_kind Again = 2
  told_kind Spent = 3
  told_kind Refused = 4

  items_told : (aim : Aim) (items : List Pair) → told_by_items plan aim items ≡ Spent → ⊥
  items_told (OfKey key) items e = omega (arith, ap told_kind e)
  items_told (OfBucket bucket) items e = omega (arith, ap told_kind e)

  -- what an event leaves
  pub record Next (es : List Event) (event : Event) (x y : World) : Type 0 where
    pub seen : Seen (es ++ event ∷ []) y
    pub keeps : KeepsLast x y

  module _ (is_plan : IsPlan plan) (es : List Event) (x : World) (s : Seen es x) (event : Event) where
    abbrev es' : List Event
    es' = es ++ event ∷ []

    lifted : (answers : List Answer) → All (IsTrue es) answers → All (IsTrue es') answers
    lifted answers all = All-weaker (IsTrue es) (IsTrue es') (λ a k. true_still es event a k) answers all

    one_told : (a : Answer) → IsTrue es' a → All (IsTrue es') (x.answers ++ a ∷ [])
    one_told a is =
        All-append (IsTrue es') x.answers (a ∷ []) (lifted x.answers s.answers)
        (All-cons (IsTrue es') a [] is (All-nil (IsTrue es')))

    by_fate : (p : ℕ) (call : Call) (course : Course) (f : Fate) → course.began ≤ x.clock →
        F x (bucket_of_call plan call) f → All (IsTrue es') (answers_after x p call course f)
    by_fate p call course (On step) since k = lifted x.answers s.answers
    by_fate p call course (Ends reply) since k = one_told _ (λ e. absurd (omega (arith, ap told_kind e)))
    by_fate p call course Refuses since k = one_told _ (λ e. absurd (omega (arith, ap told_kind e)))
    by_fate p call course Spends since k = one_told _ (λ _. record {
      call = call;
      asked_is = refl;
      front = es;
      back = event ∷ [];
      cut = refl;
      after = omega (arith, since, s.clock);
      before = omega (arith, s.clock);
      spent = ap (λ (w : World). is_spent plan (word_for plan w call)) (sym s.world) ∙ k;
    })

    by_look : (p : ℕ) (aim : Aim) (course : Course) (f : GlanceFate) →
        All (IsTrue es') (look_answers plan x p aim course f)
    by_look p aim course (Looks glance) = lifted x.answers s.answers
    by_look p aim course (Shows items) = one_told _ (λ e. absurd (items_told aim items e))
    by_look p aim course Disturbed = lifted x.answers s.answers

    by_peek : (r : ℕ) (aim : Aim) (course : Course) (f : GlanceFate) →
        All (IsTrue es') (peek_answers plan x r aim course f)
    by_peek r aim course (Looks glance) = lifted x.answers s.answers
    by_peek r aim course (Shows items) = one_told _ (λ e. absurd (items_told aim items e))
    by_peek r aim course Disturbed = one_told _ (λ e. absurd (omega (arith, ap told_kind e)))

    module _ (p : ℕ) (inside : p < holders_of plan.settings) where
      abbrev now : SeatNow
      now = seat_in x p

      next : (store : W.Store) (then : SeatNow) (answers : List Answer) (updates : List MadeBySeat) →
          (let y = ticked (with_seat x p store then answers updates) in
          KeepsLast x y → SpentAt x then.course.began then.stand → All (IsTrue es') answers → Owned plan y →
          y ≡ world_after plan es' → Next es event x y)
      next store then answers updates keeps here told owned world = record {
        seen = record {
          owned = owned;
          world = world;
          clock = (let long = length-append es (event ∷ []) in omega (arith, long, s.clock));
          seats = λ q less. elim (cases_eq q p) [
            | inl e ↦ subst (λ (k : SeatNow). SpentAt y k.course.began k.stand) (sym (ap (seat_in y) e ∙ mine))
                (at_still x y then.course.began keeps refl then.stand here)
            | inr n ↦ subst (λ (k : SeatNow). SpentAt y k.course.began k.stand)
                (sym (get_or-set_other x.seats p q then nobody n))
                (at_still x y (seat_in x q).course.began keeps refl (seat_in x q).stand (s.seats q less))
          ];
          answers = told;
        };
        keeps = keeps;
      }
        where
          y : World
          y = ticked (with_seat x p store then answers updates)

          mine : seat_in y p ≡ then
          mine = get_or-set_same x.seats p then nobody (let long = s.owned.long in omega (arith, inside, long))

      abbrev Comes : World → Type 0
      Comes y = Owned plan y → y ≡ world_after plan es' → Next es event x y

      update_comes : (call : Call) (step : Step) → now.stand ≡ S.Goes call step →
          Comes (ticked (goes plan x p now call step))
      update_comes call step stood owned world =
          let deed = deed_of plan p now call step in
          let w = found_by deed x.store in
          let own = own_after plan p now call step w in
          let f = fate plan p now call step w in
          let is : SpentAt x now.course.began (S.Goes call step) =
          subst (SpentAt x now.course.began) stood (s.seats p inside) in
          let leads = fated x p now call step is.1 in
          next (store_after deed x.store) (seat_after own call f) (answers_after x p call (stepped now.course) f) _
          (λ a last. kept_word x p now call step is.1 a last)
          (stands own f is.0 leads (own_course plan p now call step w))
          (by_fate p call (stepped now.course) f is.0 leads) owned world
        where
          stands : (own : SeatNow) (f : Fate) → now.course.began ≤ x.clock → F x (bucket_of_call plan call) f →
              own.course ≡ now.course → SpentAt x (seat_after own call f).course.began (seat_after own call f).stand
          stands own (On step) since k same =
              (subst (λ (c : Course). c.began ≤ x.clock) (sym same) since, k)
          stands own (Ends reply) since k same = tt
          stands own Spends since k same = tt
          stands own Refuses since k same = tt

      look_comes : (aim : Aim) (glance : Glance) → Comes (ticked (glances plan x p now aim glance))
      look_comes aim glance owned world =
          let deed = glance_deed plan p now.time aim glance in
          let f = glance_fate plan now.time aim glance (found_by deed x.store) in
          next (store_after deed x.store) (look_after now aim glance f)
          (look_answers plan x p aim (stepped now.course) f)
          x.made (λ a last i. (quiet_words deed x.store (quiet_glance plan p now.time aim glance)).0 i a) (stands f)
          (by_look p aim (stepped now.course) f) owned world
        where
          stands : (f : GlanceFate) → SpentAt x (look_after now aim glance f).course.began
              (look_after now aim glance f).stand
          stands (Looks next) = tt
          stands (Shows items) = tt
          stands Disturbed = tt

      look_first : (aim : Aim) → Comes (ticked (look_begins x p now aim))
      look_first aim owned world =
          next x.store _ x.answers x.made (λ a last. refl) tt (lifted x.answers s.answers) owned world

      update_first : (call : Call) → Comes (ticked (update_begins plan x p now call))
      update_first call owned world =
          let taken = scan_begins plan p now.free now in
          let f = first_fate taken.free taken.scan in
          let leads = first taken.free taken.scan in
          next x.store (record taken { stand = stand_at call f; course = course_from x.clock })
          (answers_after x p call (course_from x.clock) f) x.made (λ a last. refl) (stands f leads)
          (by_fate p call (course_from x.clock) f (omega arith) leads) owned world
        where
          first : (free : List ℕ) (scan : Option Scan) → F x (bucket_of_call plan call) (first_fate free scan)
          first free None = free_on x (bucket_of_call plan call) free
          first free (Some scan) = tt

          stands : (f : Fate) → F x (bucket_of_call plan call) f → SpentAt x x.clock (stand_at call f)
          stands (On step) k = (omega arith, k)
          stands (Ends reply) k = tt
          stands Spends k = tt
          stands Refuses k = tt

      call_first : (call : Call) → Comes (ticked (call_begins plan x p now call))
      call_first (Lookup key) = look_first (OfKey key)
      call_first (Insert key value) = update_first (Insert key value)
      call_first (Remove key) = update_first (Remove key)
      call_first (Tally key amount) = update_first (Tally key amount)
      call_first (Count key value amount) = update_first (Count key value amount)
      call_first (Put key value) = update_first (Put key value)

      seat_goes : (stand : Stand) → now.stand ≡ stand → IsFlying plan p stand →
          Comes (ticked (goes_on plan x p now stand))
      seat_goes S.Idle e flies = absurd flies
      seat_goes (S.Goes call step) e flies = update_comes call step e
      seat_goes (S.Glances aim glance) e flies = look_comes aim glance

      seat_comes : (what : What) → Fits plan p now what → Comes (ticked (act plan x p now what))
      seat_comes (Begin call) fits = call_first call
      seat_comes (Copy bucket) fits = look_first (OfBucket bucket)
      seat_comes Step_on fits = seat_goes now.stand refl fits

  -- a reader that cannot hold changes no bucket word
  reader_same : (x : World) (r : ℕ) (peek : Peek) →
      (let y = ticked (peek_acts plan x r (x.readers r) peek) in
      (y.seats ≡ x.seats) × (y.store ≡ x.store) × (y.clock ≡ x.clock + 1))
  reader_same x r (Open aim tries) = (refl, refl, refl)
  reader_same x r Peek_on = go (x.readers r).stand
    where
      go : (stand : S.Peeking) →
          (let y = ticked (peeks_on plan x r (x.readers r) stand) in
          (y.seats ≡ x.seats) × (y.store ≡ x.store) × (y.clock ≡ x.clock + 1))
      go S.Rests = (refl, refl, refl)
      go (S.Peeks aim glance) = (refl, refl, refl)

  reader_told : (is_plan : IsPlan plan) (es : List Event) (x : World) (s : Seen es x) (r : ℕ) (peek : Peek) →
      All (IsTrue (es ++ OfReader r peek ∷ [])) (peek_acts plan x r (x.readers r) peek).answers
  reader_told is_plan es x s r (Open aim tries) = lifted is_plan es x s
      (OfReader r (Open aim tries)) x.answers s.answers
  reader_told is_plan es x s r Peek_on = go (x.readers r).stand
    where
      go : (stand : S.Peeking) → All (IsTrue (es ++ OfReader r Peek_on ∷ []))
          (peeks_on plan x r (x.readers r) stand).answers
      go S.Rests = lifted is_plan es x s (OfReader r Peek_on) x.answers s.answers
      go (S.Peeks aim glance) = by_peek is_plan es x s (OfReader r Peek_on) r aim _ _

  -- ---- runs

  pub spent_next : (is_plan : IsPlan plan) (es : List Event) (x : World) → Seen es x → (event : Event) →
      IsEvent plan x event → Next es event x (happens plan x event)
  spent_next is_plan es x s event fits = by_event event fits
    where
      is_next : (event : Event) → happens plan x event ≡ world_after plan (es ++ event ∷ [])
      is_next event =
          ap (λ (w : World). happens plan w event) s.world ∙ sym (after_both plan es (event ∷ []) (opening_world plan))

      by_event : (event : Event) → IsEvent plan x event → Next es event x (happens plan x event)
      by_event (OfSeat p what) fits =
          let event = OfSeat p what in
          let k = event_keeps plan is_plan x s.owned event fits in
          let y = ticked (act plan x p (seat_in x p) what) in
          subst (λ (c : Bool). Comes is_plan es x s event p fits.0 (cond c y x))
          (sym (lt-ltb p (holders_of plan.settings) fits.0)) (seat_comes is_plan es x s event p fits.0 what fits.1)
          k.owned (is_next event)
      by_event (OfReader r peek) fits =
          let event = OfReader r peek in
          let y = happens plan x event in
          let k = event_keeps plan is_plan x s.owned event fits in
          let same = reader_same x r peek in
          let keeps : KeepsLast x y = (λ a last. ap (λ (st : W.Store). st.bucket a) same.1) in
          record {
            seen = record {
              owned = k.owned;
              world = is_next event;
              clock = (let later = same.2 in let long = length-append es (event ∷ []) in
                  omega (arith, later, long, s.clock));
              seats = λ q less.
                  let seat : seat_in y q ≡ seat_in x q = ap
                  (λ (ss : List SeatNow). slice_index_or ss q nobody) same.0 in
                  subst (λ (n : SeatNow). SpentAt y n.course.began n.stand) (sym seat)
                  (at_still x y (seat_in x q).course.began keeps same.2 (seat_in x q).stand (s.seats q less));
              answers = reader_told is_plan es x s r peek;
            };
            keeps = keeps;
          }

  pub spent_first : IsPlan plan → Seen [] (opening_world plan)
  spent_first is = record {
    owned = opening_owned plan is;
    world = refl;
    clock = refl;
    seats = λ q less. subst (λ (k : SeatNow). SpentAt (opening_world plan) k.course.began k.stand)
        (sym (seat_is plan is q less)) tt;
    answers = All-nil (IsTrue []);
  }

  -- after more events a spent bucket has the word that it had
  pub record After (es events : List Event) (x y : World) : Type 0 where
    pub seen : Seen (es ++ events) y
    pub keeps : KeepsLast x y

  pub spent_follow : IsPlan plan → (es events : List Event) (x : World) → Seen es x → AreEvents plan x events →
      After es events x (fold (happens plan) x events)
  spent_follow is es [] x h follow = record {
    seen = subst (λ (l : List Event). Seen l x) (sym (append-nil es)) h;
    keeps = λ a last. refl;
  }
  spent_follow is es (event ∷ events) x h follow =
      let y = happens plan x event in
      let one = spent_next is es x h event follow.0 in
      let rest = spent_follow is (es ++ event ∷ []) events y one.seen follow.1 in
      record {
        seen = subst (λ (l : List Event). Seen l (fold (happens plan) y events)) (append_assoc es (event ∷ []) events)
            rest.seen;
        keeps = λ a last. rest.keeps a (last_still x y a one.keeps last) ∙ one.keeps a last;
      }

-- THE RESULT: who is told that its bucket is spent has found it so
pub spent_is_found : SpentIsFound
spent_is_found plan events run =
    (spent_follow plan run.opened [] events (opening_world plan) (spent_first plan run.opened) run.follow).seen.answers

-- and a spent bucket stays as it is
pub spent_stays : SpentStays
spent_stays plan front back b run small last =
    let x = opening_world plan in
    let y = world_after plan front in
    let first = spent_follow plan run.opened [] front x (spent_first plan run.opened)
    (front_follows plan front back x run.follow) in
    let rest = spent_follow plan run.opened front back y first.seen (back_follows plan front back x run.follow) in
    ap (λ (w : World). w.store.bucket b) (after_both plan front back x) ∙ rest.keeps b last
