-- What was loaded is true as long as the bucket word is the same: of the row that stood in it, and of what a try takes
-- it for. Nothing is said of it where the word is another one.
use Rattle.std.proofs.Common.{◌≡◌, ℕ, ◌+◌, ◌-◌, ◌<◌, ◌≤◌, ◌⊎◌, inl, inr, Bool, true, false, cond, List, [], ◌∷◌, ◌++◌, length, get_or, Option, Some, None, refl, sym, ap, ◌∙◌, subst, arith, lt-ltb, get_or-set_same, get_or-set_other}
use Rattle.std.specs.Prelude.{◌==◌, nat_lt, fold, slice_index, slice_index_or}
use Rattle.std.specs.List.{range_with_len}
use Rattle.std.proofs.lemmas.Bool.{cases_eq, cases_lt, eqb-true, ltb-true, ltb-false}
use Rattle.std.proofs.lemmas.List.{length-append, get_or_append_left, get_or-append-add, ext_get_or}
use Rattle.plain_map.specs.declared.calls.Call.{Call}
use Rattle.plain_map.specs.declared.calls.Call.TheVariants.{Insert, Remove, Lookup, Tally, Count, Put}
use Rattle.plain_map.specs.declared.calls.Reply.{Reply}
use Rattle.plain_map.specs.Calls.{key_in}
use Rattle.bucket_states.specs.Items.{reply_in}
use Rattle.exchange_model.specs.Plans.{Plan, IsPlan, rules_of, holders_of, buckets_of, more}
use Rattle.exchange_model.specs.Codes.{SLOT_WORDS, ENTRY_WORDS, Entry, is_spent, row_in, generation_in, row_of_words, words_at, row_at, length_by, row_length, count_in, entries_in, entries_start, number_in}
use Rattle.exchange_model.specs.Words as W
use Rattle.exchange_model.specs.Laws.{LoadsAreTrue, TriesAreTrue}
use Rattle.exchange_model.specs.Steps as S
use Rattle.exchange_model.specs.Steps.{MadeBySeat, Step, Stand, Scan, SeatNow, Found, NoOp, Keeps, Takes, Try, Ending, Aim, OfKey, OfBucket, Glance, deed_of, bucket_of_call, new_words, SOLO_TRIES, ALL_TRIES}
use Rattle.exchange_model.specs.Goes.{ScanFate, ScansOn, Scanned, scan_fate_of, scan_begins, Fate, On, Ends, Spends, Refuses, with_free, first_fate, after_scan, is_announced, lost, ends_with, gives_up, gives_back, ended, unless_spent, is_quiet, share_of, own_op, found_alone, with_own, found_so_far, by_entry, looked, is_here, entry_for, entry_word, after_entry, op_in, reply_for, next_entry, fate, own_after, GlanceFate, Looks, Shows, Disturbed, glance_fate}
use Rattle.exchange_model.specs.Worlds.{World, Answer, Event, OfSeat, OfReader, IsEvent, AreEvents, What, Begin, Copy, Step_on, Fits, IsFlying, seat_in, with_seat, ticked, found_by, store_after, seat_after, answers_after, stepped, goes, glances, look_after, course_from, stand_at, update_begins, look_begins, call_begins, goes_on, act, happens, nobody, opening_world, world_after, Peek, Open, Peek_on, peeks_on}
use Rattle.exchange_laws.proofs.RowLists.{at_range, length_range, length_mapped}
use Rattle.exchange_laws.proofs.Words.{bucket_small, seat_holds}
use Rattle.exchange_laws.proofs.Owned.{Owned}
use Rattle.exchange_laws.proofs.OwnedMoves.{Moves}
use Rattle.exchange_laws.proofs.OwnedEvents.{event_keeps}
use Rattle.exchange_laws.proofs.OwnedRuns.{rises, rises_low, row_stays, opening_owned, seat_is}

-- ---- words of a row

-- these words are the first of a row
abbrev pub IsFront : List ℕ → (row : ℕ → ℕ) → Type 0
IsFront words row = (i : ℕ) → i < length words → slice_index words i ≡ row i

-- with one more
pub front_more : (words : List ℕ) (row : ℕ → ℕ) (word : ℕ) → IsFront words row → word ≡ row (length words) →
    IsFront (more words word) row
front_more words row word front is i less = elim (cases_lt i (length words)) [
  | inl l ↦ get_or_append_left words (word ∷ []) 0 i l ∙ front i l
  | inr g ↦
      let long = length-append words (word ∷ []) in
      let at : length words + 0 ≡ i = omega (arith, g, less, long) in
      ap (λ k. get_or (more words word) k 0) (sym at) ∙ get_or-append-add words (word ∷ []) 0 0 ∙ is
      ∙ ap row (omega (arith, at))
]

-- so many words of a row, one by one
pub at_words : (many : ℕ) (row : ℕ → ℕ) (i : ℕ) → i < many → get_or (words_at many row) i 0 ≡ row i
at_words many row i less = (let e : 0 + i ≡ i = omega arith in at_range row 0 many i 0 less ∙ ap row e)

words_long : (many : ℕ) (row : ℕ → ℕ) → length (words_at many row) ≡ many
words_long many row = length_mapped row (range_with_len 0 many) ∙ length_range 0 many

-- a front is as many words of the row
pub front_is : (words : List ℕ) (row : ℕ → ℕ) → IsFront words row → words ≡ words_at (length words) row
front_is words row front =
    ext_get_or 0 words (words_at (length words) row) (sym (words_long (length words) row))
    (λ i less. front i less ∙ sym (at_words (length words) row i less))

-- at least the head
row_some : (items entries : ℕ) → 1 ≤ row_length items entries
row_some items entries = omega arith

-- what a whole front says is what the row says
pub whole_row : (plan : Plan) (words : List ℕ) (row : ℕ → ℕ) → IsFront words row → length words ≡ length_by plan words →
    row_of_words plan words ≡ row_at plan row
whole_row plan words row front whole =
    let some = row_some (count_in plan (slice_index words 0)) (entries_in plan (slice_index words 0)) in
    let head : slice_index words 0 ≡ row 0 = front 0 (omega (arith, some, whole)) in
    let long : length words ≡ row_length (count_in plan (row 0)) (entries_in plan (row 0)) =
    whole ∙ ap (λ h. row_length (count_in plan h) (entries_in plan h)) head in
    ap (row_of_words plan) (front_is words row front ∙ ap (λ m. words_at m row) long)

-- ---- what is said of a seat

module _ (plan : Plan) where
  -- a bucket word that was loaded: it stands there still, or its generation is past
  abbrev pub Stood : World → (b word : ℕ) → Type 0
  Stood x b word = (x.store.bucket b ≡ word) ⊎ (generation_in plan word < generation_in plan (x.store.bucket b))

  -- so many words are loaded, and there are more
  abbrev pub IsPart : List ℕ → Type 0
  IsPart words = (length words ≡ 0) ⊎ (length words < length_by plan words)

  pub record Loaded (x : World) (b word : ℕ) (words : List ℕ) : Type 0 where
    pub stood : Stood x b word
    pub front : x.store.bucket b ≡ word → IsFront words (x.store.row (row_in plan word))

  pub record Tried (x : World) (b : ℕ) (t : Try) : Type 0 where
    pub stood : Stood x b t.word
    pub is : x.store.bucket b ≡ t.word → t.row ≡ row_at plan (x.store.row (row_in plan t.word))

  abbrev pub ReadsStep : World → (b : ℕ) → Step → Type 0
  ReadsStep x b (S.LoadRow turn word words) = Loaded x b word words × IsPart words
  ReadsStep x b (S.CheckWord turn word words) = Loaded x b word words × (length words ≡ length_by plan words)
  ReadsStep x b (S.LoadPending t) = Tried x b t
  ReadsStep x b (S.LoadAnnounced t found) = Tried x b t
  ReadsStep x b (S.LoadOp t found announced words) = Tried x b t
  ReadsStep x b (S.StoreRow t found i) = Tried x b t
  ReadsStep x b (S.Exchange t found) = Tried x b t
  ReadsStep x b step = Unit {0}

  abbrev pub ReadsAt : World → Stand → Type 0
  ReadsAt x S.Idle = Unit {0}
  ReadsAt x (S.Goes call step) = ReadsStep x (bucket_of_call plan call) step
  ReadsAt x (S.Glances aim glance) = Unit {0}

  abbrev pub ReadsFate : World → (b : ℕ) → Fate → Type 0
  ReadsFate x b (On step) = ReadsStep x b step
  ReadsFate x b (Ends reply) = Unit {0}
  ReadsFate x b Spends = Unit {0}
  ReadsFate x b Refuses = Unit {0}

  pub record Reads (x : World) : Type 0 where
    pub each : (q : ℕ) → q < holders_of plan.settings → ReadsAt x (seat_in x q).stand

  -- ---- a later moment

  module _ (is_plan : IsPlan plan) (x y : World) (h : Owned plan x) (moves : Moves plan h.at x y) (b : ℕ)
      (small : b < buckets_of plan.settings) where
    -- if the word stands there now it stood there before, and its row is as it was
    pub stood_still : (word : ℕ) → Stood x b word → y.store.bucket b ≡ word →
        (x.store.bucket b ≡ word) × ((i : ℕ) → y.store.row (row_in plan word) i ≡ x.store.row (row_in plan word) i)
    stood_still word (inl e) is = (
      e,
      λ i. subst (λ w. y.store.row (row_in plan w) i ≡ x.store.row (row_in plan w) i) e
          (row_stays plan x y h b i small moves),
    )
    stood_still word (inr past) is =
        absurd (let low = rises_low plan x y b (rises plan is_plan h.at x y b moves) in
        let same = ap (generation_in plan) is in
        omega (arith, past, low, same))

    pub still_stood : (word : ℕ) → Stood x b word → Stood y b word
    still_stood word (inr past) =
        inr (let low = rises_low plan x y b (rises plan is_plan h.at x y b moves) in omega (arith, past, low))
    still_stood word (inl e) = elim (rises plan is_plan h.at x y b moves) [
      | inl same ↦ inl (same ∙ e)
      | inr less ↦ inr (let was = ap (generation_in plan) e in omega (arith, less, was))
    ]

    loaded_still : (word : ℕ) (words : List ℕ) → Loaded x b word words → Loaded y b word words
    loaded_still word words l = record {
      stood = still_stood word l.stood;
      front = λ is i less. (let z = stood_still word l.stood is in l.front z.0 i less ∙ sym (z.1 i));
    }

    tried_still : (t : Try) → Tried x b t → Tried y b t
    tried_still t l = record {
      stood = still_stood t.word l.stood;
      is = λ is. (let z = stood_still t.word l.stood is in
          l.is z.0 ∙ ap (row_at plan) (λ k i. sym (z.1 i) k));
    }

    pub step_still : (step : Step) → ReadsStep x b step → ReadsStep y b step
    step_still (S.LoadRow turn word words) r = (loaded_still word words r.0, r.1)
    step_still (S.CheckWord turn word words) r = (loaded_still word words r.0, r.1)
    step_still (S.LoadPending t) r = tried_still t r
    step_still (S.LoadAnnounced t found) r = tried_still t r
    step_still (S.LoadOp t found announced words) r = tried_still t r
    step_still (S.StoreRow t found i) r = tried_still t r
    step_still (S.Exchange t found) r = tried_still t r
    step_still S.Scans r = tt
    step_still (S.LoadWord turn) r = tt
    step_still S.RaisePending r = tt
    step_still (S.StoreOp i) r = tt
    step_still S.Announce r = tt
    step_still S.StoreWant r = tt
    step_still S.StoreAsking r = tt
    step_still S.HeldWord r = tt
    step_still (S.TakeHold word) r = tt
    step_still (S.HeldHead row) r = tt
    step_still (S.HeldEntry row at left) r = tt
    step_still (S.HeldReply row at) r = tt
    step_still (S.GiveBack reply) r = tt
    step_still (S.Over ending) r = tt
    step_still (S.LowerPending ending) r = tt
    step_still S.Stuck r = tt

  pub at_still : (is_plan : IsPlan plan) (x y : World) (h : Owned plan x) → Moves plan h.at x y → (stand : Stand) →
      ReadsAt x stand → ReadsAt y stand
  at_still is_plan x y h moves S.Idle r = tt
  at_still is_plan x y h moves (S.Goes call step) r =
      step_still is_plan x y h moves (bucket_of_call plan call) (bucket_small plan is_plan (key_in call)) step r
  at_still is_plan x y h moves (S.Glances aim glance) r = tt

  -- ---- where a step leads

  module _ (x : World) (b : ℕ) where
    either : (f g : Fate) (c : Bool) → ReadsFate x b f → ReadsFate x b g → ReadsFate x b (cond c f g)
    either f g true l r = l
    either f g false l r = r

    either_on : (f g : Step) (c : Bool) → ReadsStep x b f → ReadsStep x b g → ReadsFate x b (On (cond c f g))
    either_on f g true l r = l
    either_on f g false l r = r

    ends : (announced : Bool) (reply : Option Reply) → ReadsFate x b (ends_with announced reply)
    ends true None = tt
    ends false None = tt
    ends true (Some reply) = tt
    ends false (Some reply) = tt

    loses : (turn : ℕ) → ReadsFate x b (lost turn)
    loses turn =
        either (On S.RaisePending) (cond (turn == ALL_TRIES) (On S.StoreWant) (On (S.LoadWord (turn + 1))))
        (turn == SOLO_TRIES) tt (either (On S.StoreWant) (On (S.LoadWord (turn + 1))) (turn == ALL_TRIES) tt tt)

    free_on : (free : List ℕ) → ReadsFate x b (with_free free)
    free_on [] = tt
    free_on (r ∷ free) = tt

    to_ops : (seat : ℕ) (now : SeatNow) (call : Call) (t : Try) (found : List Found) → Tried x b t →
        ReadsFate x b (found_so_far plan seat now call t found)
    to_ops seat now call t found r =
        let all = with_own seat now call t.turn found in
        either_on (S.LoadAnnounced t all) (S.StoreRow t all 0) (nat_lt (length all) plan.settings.seats) r r

    given_up : (announced : Bool) → ReadsFate x b (gives_up announced)
    given_up true = tt
    given_up false = tt

    given_back : (reply : Option Reply) → ReadsFate x b (gives_back reply)
    given_back None = tt
    given_back (Some reply) = tt

    over_then : (ending : Ending) → ReadsFate x b (ended ending)
    over_then (S.Applied reply) = tt
    over_then S.GivenUp = tt

    unless : (t : Try) → Tried x b t → ReadsFate x b (unless_spent plan t)
    unless t r =
        either (gives_up (is_announced t.turn)) (On (S.LoadPending t)) (is_spent plan t.word)
        (given_up (is_announced t.turn)) r

    by_entries : (t : Try) (entry : Option Entry) → Tried x b t → ReadsFate x b (by_entry plan t entry)
    by_entries t None r = unless t r
    by_entries t (Some entry) r = ends true entry.reply

    to_entry : (seat : ℕ) (now : SeatNow) (call : Call) (t : Try) (found : List Found) (announced : ℕ)
        (entry : Option Entry) → Tried x b t → ReadsFate x b (after_entry plan seat now call t found announced entry)
    to_entry seat now call t found announced None r = r
    to_entry seat now call t found announced (Some entry) r = to_ops seat now call t (more found (Keeps entry)) r

    entries_on : (row at left : ℕ) → ReadsFate x b (next_entry row at left)
    entries_on row at left = either_on (S.HeldEntry row at left) S.Stuck (nat_lt 0 left) tt tt

  -- one word more of a row
  longer_part : (words : List ℕ) (word : ℕ) → IsPart words → length words + 1 < length_by plan (more words word) →
      IsPart (more words word)
  longer_part words word part less =
      inr (let long = length-append words (word ∷ []) in omega (arith, less, long))

  -- and the last one
  last_part : (words : List ℕ) (word : ℕ) → IsPart words → length_by plan (more words word) ≤ length words + 1 →
      length (more words word) ≡ length_by plan (more words word)
  last_part [] word part most =
      (let some = row_some (count_in plan word) (entries_in plan word) in omega (arith, most, some))
  last_part (w ∷ words) word (inl none) most = absurd (omega (arith, none))
  last_part (w ∷ words) word (inr less) most =
      (let long = length-append (w ∷ words) (word ∷ []) in omega (arith, less, most, long))

  module _ (x : World) (seat : ℕ) (now : SeatNow) (call : Call) where
    abbrev b : ℕ
    b = bucket_of_call plan call

    abbrev word_of : Step → ℕ
    word_of step = found_by (deed_of plan seat now call step) x.store

    pub fated : (step : Step) → ReadsStep x b step → ReadsFate x b (fate plan seat now call step (word_of step))
    fated S.Scans r = go (scan_fate_of plan seat now.scan (word_of S.Scans))
      where
        go : (f : ScanFate) → ReadsFate x b (after_scan now.free f)
        go (ScansOn scan) = tt
        go (Scanned left held) = free_on x b (now.free ++ left)
    fated (S.LoadWord turn) r =
        (record { stood = inl refl; front = λ _ i less. absurd (omega (arith, less)) }, inl refl)
    fated (S.LoadRow turn old words) r = go (nat_lt (length words + 1) (length_by plan (more words word))) refl
      where
        word : ℕ
        word = x.store.row (row_in plan old) (length words)

        l : Loaded x b old (more words word)
        l = record {
          stood = r.0.stood;
          front = λ is. front_more words (x.store.row (row_in plan old)) word (r.0.front is) refl;
        }

        go : (c : Bool) → nat_lt (length words + 1) (length_by plan (more words word)) ≡ c →
            ReadsFate x b (On (cond c (S.LoadRow turn old (more words word)) (S.CheckWord turn old (more words word))))
        go true e = (l, longer_part words word r.1 (ltb-true (length words + 1) (length_by plan (more words word)) e))
        go false e = (l, last_part words word r.1 (ltb-false (length words + 1) (length_by plan (more words word)) e))
    fated (S.CheckWord turn old words) r = go (x.store.bucket b == old) refl
      where
        t : Try
        t = record { turn = turn; word = old; row = row_of_words plan words }

        true_now : x.store.bucket b ≡ old → Tried x b t
        true_now is = record {
          stood = inl is;
          is = λ _. whole_row plan words (x.store.row (row_in plan old)) (r.0.front is) r.1;
        }

        go : (c : Bool) → (x.store.bucket b == old) ≡ c →
            ReadsFate x b (cond c (looked plan seat now call t) (lost turn))
        go true e =
            let is = true_now (eqb-true (x.store.bucket b) old e) in
            let quiet = is_quiet (rules_of plan) t.row.items call in
            let answer = reply_in (rules_of plan) t.row.items call in
            either x b (by_entry plan t (entry_for seat now.posted t.row.entries))
            (cond quiet (Ends answer) (unless_spent plan t)) (is_announced turn)
            (by_entries x b t (entry_for seat now.posted t.row.entries) is)
            (either x b (Ends answer) (unless_spent plan t) quiet tt (unless x b t is))
        go false e = loses x b turn
    fated (S.LoadPending t) r =
        let found = found_alone seat (own_op now.posted t.turn call) plan.settings.seats [] in
        either x b (On (S.StoreRow t found 0)) (found_so_far plan seat now call t [])
        (word_of (S.LoadPending t) == share_of (is_announced t.turn)) r (to_ops x b seat now call t [] r)
    fated (S.LoadAnnounced t found) r =
        let word = word_of (S.LoadAnnounced t found) in
        let entry = entry_for (length found) (number_in word) t.row.entries in
        either x b (after_entry plan seat now call t found word entry)
        (found_so_far plan seat now call t (more found NoOp)) (is_here plan b word)
        (to_entry x b seat now call t found word entry r) (to_ops x b seat now call t (more found NoOp) r)
    fated (S.LoadOp t found announced words) r =
        let word = word_of (S.LoadOp t found announced words) in
        let op = Takes (op_in announced (more words word)) in
        either x b (On (S.LoadOp t found announced (more words word)))
        (found_so_far plan seat now call t (more found op))
        (nat_lt (length words + 1) SLOT_WORDS) r (to_ops x b seat now call t (more found op) r)
    fated (S.StoreRow t found i) r =
        either_on x b (S.StoreRow t found (i + 1)) (S.Exchange t found)
        (nat_lt (i + 1) (length (new_words plan t found))) r r
    fated (S.Exchange t found) r =
        either x b (ends_with (is_announced t.turn) (reply_for seat (S.made plan t found).made)) (lost t.turn)
        (x.store.bucket b == t.word) (ends x b (is_announced t.turn) (reply_for seat (S.made plan t found).made))
        (loses x b t.turn)
    fated (S.StoreOp i) r = either_on x b (S.StoreOp (i + 1)) S.Announce (nat_lt (i + 1) SLOT_WORDS) tt tt
    fated S.RaisePending r = tt
    fated S.Announce r = tt
    fated S.StoreWant r = tt
    fated S.StoreAsking r = tt
    fated S.HeldWord r = tt
    fated (S.TakeHold old) r = tt
    fated (S.HeldHead row) r =
        let word = word_of (S.HeldHead row) in
        entries_on x b row (entries_start (count_in plan word)) (entries_in plan word)
    fated (S.HeldEntry row at left) r =
        either x b (On (S.HeldReply row (at + 1))) (next_entry row (at + ENTRY_WORDS) (left - 1))
        (word_of (S.HeldEntry row at left) == entry_word seat now.posted) tt
        (entries_on x b row (at + ENTRY_WORDS) (left - 1))
    fated (S.HeldReply row at) r = given_back x b _
    fated (S.GiveBack reply) r = tt
    fated (S.Over ending) r = tt
    fated (S.LowerPending ending) r = over_then x b ending
    fated S.Stuck r = tt

  -- ---- events

  module _ (is_plan : IsPlan plan) (x : World) (h : Owned plan x) (reads : Reads x) (p : ℕ)
      (inside : p < holders_of plan.settings) where
    abbrev now : SeatNow
    now = seat_in x p

    next : (store : W.Store) (then : SeatNow) (answers : List Answer) (updates : List MadeBySeat) →
        Moves plan h.at x (ticked (with_seat x p store then answers updates)) → ReadsAt x then.stand →
        Reads (ticked (with_seat x p store then answers updates))
    next store then answers updates moves here = record {
      each = λ q less. elim (cases_eq q p) [
        | inl e ↦ subst (λ (k : SeatNow). ReadsAt y k.stand) (sym (ap (seat_in y) e ∙ mine))
            (at_still is_plan x y h moves then.stand here)
        | inr n ↦ subst (λ (k : SeatNow). ReadsAt y k.stand) (sym (get_or-set_other x.seats p q then nobody n))
            (at_still is_plan x y h moves (seat_in x q).stand (reads.each q less))
      ];
    }
      where
        y : World
        y = ticked (with_seat x p store then answers updates)

        mine : seat_in y p ≡ then
        mine = get_or-set_same x.seats p then nobody (let long = h.long in omega (arith, inside, long))

    stands : (own : SeatNow) (call : Call) (f : Fate) → ReadsFate x (bucket_of_call plan call) f →
        ReadsAt x (seat_after own call f).stand
    stands own call (On step) r = r
    stands own call (Ends reply) r = tt
    stands own call Spends r = tt
    stands own call Refuses r = tt

    first_stands : (call : Call) (f : Fate) → ReadsFate x (bucket_of_call plan call) f → ReadsAt x (stand_at call f)
    first_stands call (On step) r = r
    first_stands call (Ends reply) r = tt
    first_stands call Spends r = tt
    first_stands call Refuses r = tt

    first_fates : (b : ℕ) (free : List ℕ) (scan : Option Scan) → ReadsFate x b (first_fate free scan)
    first_fates b free None = free_on x b free
    first_fates b free (Some scan) = tt

    update_reads : (call : Call) (step : Step) → now.stand ≡ S.Goes call step →
        Moves plan h.at x (ticked (goes plan x p now call step)) → Reads (ticked (goes plan x p now call step))
    update_reads call step stood moves =
        let word = found_by (deed_of plan p now call step) x.store in
        let f = fate plan p now call step word in
        next (store_after (deed_of plan p now call step) x.store)
        (seat_after (own_after plan p now call step word) call f)
        (answers_after x p call (stepped now.course) f) _ moves
        (stands (own_after plan p now call step word) call f
        (fated x p now call step (subst (ReadsAt x) stood (reads.each p inside))))

    look_reads : (aim : Aim) (glance : Glance) → Moves plan h.at x (ticked (glances plan x p now aim glance)) →
        Reads (ticked (glances plan x p now aim glance))
    look_reads aim glance moves =
        let f = glance_fate plan now.time aim glance _ in next _ (look_after now aim glance f) _ x.made moves (go f)
      where
        go : (f : GlanceFate) → ReadsAt x (look_after now aim glance f).stand
        go (Looks next) = tt
        go (Shows items) = tt
        go Disturbed = tt

    first_reads : (call : Call) → Moves plan h.at x (ticked (update_begins plan x p now call)) →
        Reads (ticked (update_begins plan x p now call))
    first_reads call moves =
        let taken = scan_begins plan p now.free now in
        let f = first_fate taken.free taken.scan in
        next x.store (record taken { stand = stand_at call f; course = course_from x.clock })
        (answers_after x p call (course_from x.clock) f) x.made moves
        (first_stands call f (first_fates (bucket_of_call plan call) taken.free taken.scan))

    look_first : (aim : Aim) → Moves plan h.at x (ticked (look_begins x p now aim)) →
        Reads (ticked (look_begins x p now aim))
    look_first aim moves = next x.store _ x.answers x.made moves tt

    call_reads : (call : Call) → Moves plan h.at x (ticked (call_begins plan x p now call)) →
        Reads (ticked (call_begins plan x p now call))
    call_reads (Lookup key) moves = look_first (OfKey key) moves
    call_reads (Insert key value) moves = first_reads (Insert key value) moves
    call_reads (Remove key) moves = first_reads (Remove key) moves
    call_reads (Tally key amount) moves = first_reads (Tally key amount) moves
    call_reads (Count key value amount) moves = first_reads (Count key value amount) moves
    call_reads (Put key value) moves = first_reads (Put key value) moves

    goes_reads : (stand : Stand) → now.stand ≡ stand → IsFlying plan p stand →
        Moves plan h.at x (ticked (goes_on plan x p now stand)) → Reads (ticked (goes_on plan x p now stand))
    goes_reads S.Idle e flies moves = absurd flies
    goes_reads (S.Goes call step) e flies moves = update_reads call step e moves
    goes_reads (S.Glances aim glance) e flies moves = look_reads aim glance moves

    pub seat_reads : (what : What) → Fits plan p now what → Moves plan h.at x (ticked (act plan x p now what)) →
        Reads (ticked (act plan x p now what))
    seat_reads (Begin call) fits moves = call_reads call moves
    seat_reads (Copy bucket) fits moves = look_first (OfBucket bucket) moves
    seat_reads Step_on fits moves = goes_reads now.stand refl fits moves

  -- a reader changes nothing of it
  same_seats : (is_plan : IsPlan plan) (x y : World) (h : Owned plan x) → Reads x → Moves plan h.at x y →
      y.seats ≡ x.seats → Reads y
  same_seats is_plan x y h reads moves same = record {
    each = λ q less. subst (λ (ss : List SeatNow). ReadsAt y (slice_index_or ss q nobody).stand) (sym same)
        (at_still is_plan x y h moves (seat_in x q).stand (reads.each q less));
  }

  reader_reads : (is_plan : IsPlan plan) (x : World) (h : Owned plan x) (r : ℕ) (peek : Peek) → Reads x →
      Moves plan h.at x (happens plan x (OfReader r peek)) → Reads (happens plan x (OfReader r peek))
  reader_reads is_plan x h r (Open aim tries) reads moves = same_seats is_plan x _ h reads moves refl
  reader_reads is_plan x h r Peek_on reads moves = same_seats is_plan x _ h reads moves (go (x.readers r).stand)
    where
      go : (stand : S.Peeking) → (ticked (peeks_on plan x r (x.readers r) stand)).seats ≡ x.seats
      go S.Rests = refl
      go (S.Peeks aim glance) = refl

  pub reads_keep : (is_plan : IsPlan plan) (x : World) (h : Owned plan x) → Reads x → (event : Event) →
      IsEvent plan x event → Moves plan h.at x (happens plan x event) → Reads (happens plan x event)
  reads_keep is_plan x h reads (OfSeat p what) fits moves =
      subst (λ (c : Bool). Moves plan h.at x (cond c y x) → Reads (cond c y x))
      (sym (lt-ltb p (holders_of plan.settings) fits.0))
      (seat_reads is_plan x h reads p fits.0 what fits.1) moves
    where
      y : World
      y = ticked (act plan x p (seat_in x p) what)
  reads_keep is_plan x h reads (OfReader r peek) fits moves = reader_reads is_plan x h r peek reads moves

  pub reads_follow : (is_plan : IsPlan plan) (events : List Event) (x : World) → Owned plan x → Reads x →
      AreEvents plan x events → Reads (fold (happens plan) x events)
  reads_follow is_plan [] x h reads follow = reads
  reads_follow is_plan (event ∷ events) x h reads follow =
      let k = event_keeps plan is_plan x h event follow.0 in
      reads_follow is_plan events (happens plan x event) k.owned
      (reads_keep is_plan x h reads event follow.0 k.moves) follow.1

  pub reads_first : IsPlan plan → Reads (opening_world plan)
  reads_first is = record {
    each = λ q less. subst (λ (k : SeatNow). ReadsAt (opening_world plan) k.stand) (sym (seat_is plan is q less)) tt;
  }

-- THE RESULT
pub loads_are_true : LoadsAreTrue
loads_are_true plan events seat turn old call words run inside stood same =
    let x = world_after plan events in
    let reads = reads_follow plan run.opened events (opening_world plan) (opening_owned plan run.opened)
    (reads_first plan run.opened) run.follow in
    let r : ReadsAt plan x (S.Goes call (S.CheckWord turn old words)) =
    subst (ReadsAt plan x) stood (reads.each seat (seat_holds plan seat inside)) in
    whole_row plan words (x.store.row (row_in plan old)) (r.0.front same) r.1

-- THE RESULT
pub tries_are_true : TriesAreTrue
tries_are_true plan events seat call t found run inside stood same =
    let x = world_after plan events in
    let reads = reads_follow plan run.opened events (opening_world plan) (opening_owned plan run.opened)
    (reads_first plan run.opened) run.follow in
    let r : ReadsAt plan x (S.Goes call (S.Exchange t found)) = subst (ReadsAt plan x) stood
    (reads.each seat (seat_holds plan seat inside)) in
    r.is same
