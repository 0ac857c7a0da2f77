-- How many steps a call has taken at most where it stands, and that each step of an update keeps within it.
use Rattle.std.proofs.Common.{◌≡◌, ◌≢◌, ℕ, ◌+◌, ◌-◌, ◌*◌, ◌<◌, ◌≤◌, inl, inr, Bool, true, false, cond, List, [], ◌∷◌, ◌++◌, length, Option, Some, None, refl, sym, ap, subst, arith, lt-ltb}
use Rattle.std.specs.Prelude.{◌==◌, nat_lt}
use Rattle.std.proofs.lemmas.Bool.{cases_eq, cases_lt, cond_both, le-ltb, ltb-true, ltb-false, eqb-true, eqb-false}
use Rattle.std.proofs.lemmas.List.{length-append}
use Rattle.plain_map.specs.declared.calls.Call.{Call}
use Rattle.plain_map.specs.declared.calls.Reply.{Reply}
use Rattle.bucket_states.specs.Items.{reply_in}
use Rattle.exchange_model.specs.Plans.{Plan, Sizes, IsPlan, rules_of, holders_of, more}
use Rattle.exchange_model.specs.Codes.{SLOT_WORDS, ENTRY_WORDS, Entry, is_asking, time_in, is_spent, held_row, row_of_words, length_by, count_in, entries_in, entries_start, number_in}
use Rattle.exchange_model.specs.Bounds.{row_steps, scan_steps, try_steps, announcing_steps, update_bound}
use Rattle.exchange_model.specs.Steps as S
use Rattle.exchange_model.specs.Steps.{SeatNow, Step, Scan, Found, NoOp, Keeps, Takes, Try, Ending, bucket_of_call, new_words, made, SOLO_TRIES, ALL_TRIES}
use Rattle.exchange_model.specs.Goes.{ScanFate, ScansOn, Scanned, without, alone, seat_or_end, seats_from, past_hold, scan_fate, Fate, On, Ends, Spends, Refuses, with_free, first_fate, after_scan, is_announced, lost, ends_with, gives_up, gives_back, ended, unless_spent, is_quiet, share_of, own_op, found_alone, found_so_far, by_entry, looked, is_here, entry_for, entry_word, after_entry, op_in, reply_for, next_entry, fate}
use Rattle.exchange_laws.proofs.RowWords.{IsRow, row_long}
use Rattle.exchange_laws.proofs.MadeRows.{made_is_row}
use Rattle.exchange_laws.proofs.FoundOps.{FoundStep}
use Rattle.exchange_laws.proofs.TrueReads.{IsPart}

-- ---- seats that are gone through, but the own one

-- so many others are gone through before this one
abbrev pub others : (own seat : ℕ) → ℕ
others own seat = cond (nat_lt own seat) (seat - 1) seat

others_early : (own seat : ℕ) → seat ≤ own → others own seat ≡ seat
others_early own seat low = ap (λ (b : Bool). cond b (seat - 1) seat) (le-ltb own seat low)

others_late : (own seat : ℕ) → own < seat → others own seat ≡ seat - 1
others_late own seat high = ap (λ (b : Bool). cond b (seat - 1) seat) (lt-ltb own seat high)

-- one more, if it is another
pub others_next : (own seat : ℕ) → seat ≢ own → others own (seat + 1) ≡ others own seat + 1
others_next own seat other = elim (cases_lt own seat) [
  | inl high ↦
      let now = others_late own seat high in
      let then = others_late own (seat + 1) (omega (arith, high)) in omega (arith, now, then, high)
  | inr low ↦
      let now = others_early own seat low in
      let then = others_early own (seat + 1) (omega (arith, low, other)) in omega (arith, now, then)
]

-- the own seat counts for nothing
pub others_own : (own seat : ℕ) → seat ≡ own → others own (seat + 1) ≡ others own seat
others_own own seat same =
    let now = others_early own seat (omega (arith, same)) in
    let then = others_late own (seat + 1) (omega (arith, same)) in omega (arith, now, then)

pub others_more : (own seat : ℕ) → others own (seat + 1) ≤ others own seat + 1
others_more own seat = elim (cases_eq seat own) [
  | inl e ↦ (let same = others_own own seat e in omega (arith, same))
  | inr n ↦ (let next = others_next own seat n in omega (arith, next))
]

pub others_less : (own seat : ℕ) → others own seat ≤ others own (seat + 1)
others_less own seat = elim (cases_eq seat own) [
  | inl e ↦ (let same = others_own own seat e in omega (arith, same))
  | inr n ↦ (let next = others_next own seat n in omega (arith, next))
]

pub others_all : (own seats : ℕ) → own < seats → others own seats ≡ seats - 1
others_all own seats inside = others_late own seats inside

pub others_first : (own : ℕ) → others own 0 ≡ 0
others_first own = others_early own 0 (omega arith)

module _ (plan : Plan) (is_plan : IsPlan plan) (p : ℕ) (inside : p < plan.settings.seats) where
  abbrev s : Sizes
  s = plan.settings

  -- the most words of a row
  abbrev pub W : ℕ
  W = row_steps s

  -- the most steps until a try begins
  abbrev pub start : (turn : ℕ) → ℕ
  start turn =
      cond (turn == 1) (scan_steps s) (cond (turn == 2) (scan_steps s + try_steps s + announcing_steps)
      (scan_steps s + try_steps s + announcing_steps + try_steps s))

  -- until all tries are lost
  abbrev pub all_lost : ℕ
  all_lost = scan_steps s + try_steps s + announcing_steps + try_steps s + try_steps s

  -- there are three tries
  abbrev pub IsTurn : (turn : ℕ) → Type 0
  IsTurn turn = (1 ≤ turn) × (turn ≤ 3)

  -- a scan has come so far, in so many steps
  abbrev pub ScanTaken : Scan → (n : ℕ) → Type 0
  ScanTaken (S.Seats k left held) n = n ≤ 4 * others p k
  ScanTaken (S.Sees k t left held) n = (n ≤ 4 * others p k + 1) × (k ≢ p)
  ScanTaken (S.Loads k t class left held) n = (n ≤ 4 * others p k + 2) × (k ≢ p)
  ScanTaken (S.Gives k t row left held) n = (n ≤ 4 * others p k + 3) × (k ≢ p)

  abbrev pub ScanTakenOf : Option Scan → (n : ℕ) → Type 0
  ScanTakenOf None n = n ≤ 0
  ScanTakenOf (Some scan) n = ScanTaken scan n

  -- how many steps an update has taken where it stands, at most
  abbrev pub Taken : Option Scan → Step → (n : ℕ) → Type 0
  Taken scan S.Scans n = ScanTakenOf scan n
  Taken scan (S.LoadWord turn) n = IsTurn turn × (n ≤ start turn)
  Taken scan (S.LoadRow turn word words) n = IsTurn turn × (n ≤ start turn + 1 + length words)
  Taken scan (S.CheckWord turn word words) n = IsTurn turn × (n ≤ start turn + 1 + W)
  Taken scan (S.LoadPending t) n = IsTurn t.turn × (n ≤ start t.turn + 2 + W)
  Taken scan (S.LoadAnnounced t found) n =
      IsTurn t.turn × (n ≤ start t.turn + 3 + W + 8 * others p (length found)) × (length found ≢ p)
  Taken scan (S.LoadOp t found announced words) n =
      IsTurn t.turn × (n ≤ start t.turn + 4 + W + 8 * others p (length found) + length words) × (length words < 7)
      × (length found ≢ p)
  Taken scan (S.StoreRow t found i) n =
      IsTurn t.turn × (n ≤ start t.turn + 3 + W + 8 * (s.seats - 1) + i) × (i < length (new_words plan t found))
  Taken scan (S.Exchange t found) n = IsTurn t.turn × (n ≤ start t.turn + 3 + W + 8 * (s.seats - 1) + W)
  Taken scan S.RaisePending n = n ≤ scan_steps s + try_steps s
  Taken scan (S.StoreOp i) n = (n ≤ scan_steps s + try_steps s + 1 + i) × (i < 7)
  Taken scan S.Announce n = n ≤ scan_steps s + try_steps s + 8
  Taken scan S.StoreWant n = n ≤ all_lost
  Taken scan S.StoreAsking n = n ≤ all_lost + 1
  Taken scan S.HeldWord n = n ≤ all_lost + 2
  Taken scan (S.TakeHold word) n = n ≤ all_lost + 3
  Taken scan (S.HeldHead row) n = n ≤ all_lost + 4
  Taken scan (S.HeldEntry row at left) n = (n + left ≤ all_lost + 5 + s.seats) × (1 ≤ left)
  Taken scan (S.HeldReply row at) n = n ≤ all_lost + 5 + s.seats
  Taken scan (S.GiveBack reply) n = n ≤ all_lost + 6 + s.seats
  Taken scan (S.Over ending) n = n ≤ all_lost + 7 + s.seats
  Taken scan (S.LowerPending ending) n = n ≤ all_lost + 8 + s.seats
  Taken scan S.Stuck n = Unit {0}

  -- and where a step leads
  abbrev pub FateTaken : Option Scan → (n : ℕ) → Fate → Type 0
  FateTaken scan n (On step) = Taken scan step n
  FateTaken scan n (Ends reply) = n ≤ update_bound s
  FateTaken scan n Spends = n ≤ update_bound s
  FateTaken scan n Refuses = n ≤ update_bound s

  some : 1 ≤ s.seats
  some = omega (arith, inside)

  -- ---- numbers

  start_one : (turn : ℕ) → turn ≡ 1 → start turn ≡ scan_steps s
  start_one turn e = subst (λ k. start k ≡ scan_steps s) (sym e) refl

  start_two : (turn : ℕ) → turn ≡ 2 → start turn ≡ scan_steps s + try_steps s + announcing_steps
  start_two turn e = subst (λ k. start k ≡ scan_steps s + try_steps s + announcing_steps) (sym e) refl

  start_three : (turn : ℕ) → turn ≡ 3 → start turn ≡ scan_steps s + try_steps s + announcing_steps + try_steps s
  start_three turn e =
      subst (λ k. start k ≡ scan_steps s + try_steps s + announcing_steps + try_steps s) (sym e) refl

  -- a try ends before all are lost
  pub start_most : (turn : ℕ) → IsTurn turn → start turn + try_steps s ≤ all_lost
  start_most turn t = elim (cases_eq turn 1) [
    | inl e ↦ (let one = start_one turn e in omega (arith, one))
    | inr n ↦ elim (cases_eq turn 2) [
      | inl e ↦ (let two = start_two turn e in omega (arith, two))
      | inr m ↦ (let three = start_three turn (omega (arith, t.0, t.1, n, m)) in omega (arith, three))
    ]
  ]

  module _ (scan : Option Scan) where
    either : (n : ℕ) (f g : Fate) (c : Bool) → FateTaken scan n f → FateTaken scan n g → FateTaken scan n (cond c f g)
    either n f g true l r = l
    either n f g false l r = r

    -- a try that has taken all its steps is lost
    loses : (turn n : ℕ) → IsTurn turn → n ≤ start turn + try_steps s → FateTaken scan n (lost turn)
    loses turn n t most =
        cond_both (turn == SOLO_TRIES) (On S.RaisePending)
        (cond (turn == ALL_TRIES) (On S.StoreWant) (On (S.LoadWord (turn + 1)))) (FateTaken scan n)
        (λ e. (let one = start_one turn (eqb-true turn 1 e) in omega (arith, one, most)))
        (λ not_one. cond_both (turn == ALL_TRIES) (On S.StoreWant) (On (S.LoadWord (turn + 1))) (FateTaken scan n)
        (λ e. (let three = start_three turn (eqb-true turn 3 e) in omega (arith, three, most)))
        (λ not_three.
        let n1 = eqb-false turn 1 not_one in
        let n3 = eqb-false turn 3 not_three in
        let at : turn ≡ 2 = omega (arith, t.0, t.1, n1, n3) in
        let two = start_two turn at in
        let then = start_three (turn + 1) (omega (arith, at)) in
        ((omega arith, omega (arith, at)), omega (arith, two, then, most))))

    -- one that ends is followed by three steps at most, and so are all
    ends : (turn n : ℕ) (announced : Bool) (reply : Option Reply) → IsTurn turn → n ≤ start turn + try_steps s →
        FateTaken scan n (ends_with announced reply)
    ends turn n true None t most = tt
    ends turn n false None t most = tt
    ends turn n true (Some reply) t most = (let all = start_most turn t in omega (arith, all, most))
    ends turn n false (Some reply) t most = (let all = start_most turn t in omega (arith, all, most))

    given_up : (turn n : ℕ) (announced : Bool) → IsTurn turn → n ≤ start turn + try_steps s →
        FateTaken scan n (gives_up announced)
    given_up turn n true t most = (let all = start_most turn t in omega (arith, all, most))
    given_up turn n false t most = (let all = start_most turn t in omega (arith, all, most))

    given_back : (n : ℕ) (reply : Option Reply) → n ≤ all_lost + 6 + s.seats → FateTaken scan n (gives_back reply)
    given_back n None most = tt
    given_back n (Some reply) most = most

    over_then : (n : ℕ) (ending : Ending) → n ≤ all_lost + 9 + s.seats → FateTaken scan n (ended ending)
    over_then n (S.Applied reply) most = omega (arith, most)
    over_then n S.GivenUp most = omega (arith, most)

    free_on : (n : ℕ) (free : List ℕ) → n ≤ scan_steps s → FateTaken scan n (with_free free)
    free_on n [] most = omega (arith, most)
    free_on n (row ∷ free) most = ((omega arith, omega arith), most)

    entries_on : (row at left n : ℕ) → n + left ≤ all_lost + 5 + s.seats → FateTaken scan n (next_entry row at left)
    entries_on row at left n most = go (nat_lt 0 left) refl
      where
        go : (c : Bool) → nat_lt 0 left ≡ c → FateTaken scan n (On (cond c (S.HeldEntry row at left) S.Stuck))
        go true e = (most, ltb-true 0 left e)
        go false e = tt

    -- the new row is stored from its first word on, which is its head
    row_first : (t : Try) (found : List Found) → 0 < length (new_words plan t found)
    row_first t found = omega arith

    -- so many seats are gone through
    to_ops : (now : SeatNow) (call : Call) (t : Try) (found : List Found) (n : ℕ) → IsTurn t.turn →
        length found ≤ s.seats → n ≤ start t.turn + 3 + W + 8 * others p (length found) →
        FateTaken scan n (found_so_far plan p now call t found)
    to_ops now call t found n turn few most = by_turn (length found == p) refl
      where
        on : (gs : List Found) → length gs ≢ p → length gs ≤ s.seats →
            n ≤ start t.turn + 3 + W + 8 * others p (length gs) →
            FateTaken scan n (On (cond (nat_lt (length gs) s.seats) (S.LoadAnnounced t gs) (S.StoreRow t gs 0)))
        on gs other some_few least = go (nat_lt (length gs) s.seats) refl
          where
            go : (c : Bool) → nat_lt (length gs) s.seats ≡ c →
                FateTaken scan n (On (cond c (S.LoadAnnounced t gs) (S.StoreRow t gs 0)))
            go true e = (turn, least, other)
            go false e =
                let past = ltb-false (length gs) s.seats e in
                let at : length gs ≡ s.seats = omega (arith, past, some_few) in
                let count = ap (others p) at in
                let all = others_all p s.seats inside in
                (turn, omega (arith, least, count, all), row_first t gs)

        by_turn : (c : Bool) → (length found == p) ≡ c →
            (let gs = cond c (more found (own_op now.posted t.turn call)) found in
            FateTaken scan n (On (cond (nat_lt (length gs) s.seats) (S.LoadAnnounced t gs) (S.StoreRow t gs 0))))
        by_turn true e =
            let one = own_op now.posted t.turn call in
            let at : length found ≡ p = eqb-true (length found) p e in
            let long = length-append found (one ∷ []) in
            let same = others_own p (length found) at in
            let count = ap (others p) long in
            on (more found one) (λ k. omega (arith, long, at, k)) (omega (arith, long, at, inside))
            (omega (arith, most, same, count))
        by_turn false e = on found (eqb-false (length found) p e) few most

    with_one : (now : SeatNow) (call : Call) (t : Try) (found : List Found) (one : Found) (n : ℕ) → IsTurn t.turn →
        length found < s.seats → n ≤ start t.turn + 3 + W + 8 * others p (length found + 1) →
        FateTaken scan n (found_so_far plan p now call t (more found one))
    with_one now call t found one n turn few most =
        let long = length-append found (one ∷ []) in
        let count = ap (others p) long in
        to_ops now call t (more found one) n turn (omega (arith, long, few)) (omega (arith, most, count))

  -- a row is no longer than a full one
  part_few : (words : List ℕ) → length_by plan words ≤ W
  part_few words = omega arith

  pub word_few : (words : List ℕ) → IsPart plan words → length words + 1 ≤ W
  word_few words (inl none) = omega (arith, none)
  word_few words (inr less) = (let most = part_few words in omega (arith, less, most))

  pub new_few : (t : Try) (found : List Found) → FoundStep plan (S.Exchange t found) →
      length (new_words plan t found) ≤ W
  new_few t found f =
      let row = (made plan t found).row in
      let is : IsRow plan row = made_is_row plan is_plan t.row found f.0.items f.2 f.1 in
      let long = row_long plan is_plan row is in omega (arith, long, is.items, is.few)

  -- what is known of a step beside
  abbrev pub Facts : Step → Type 0
  Facts (S.LoadRow turn word words) = IsPart plan words
  Facts step = FoundStep plan step

  -- every step but one of a scan
  abbrev pub IsNoScan : Step → Type 0
  IsNoScan S.Scans = ⊥
  IsNoScan step = Unit {0}

  module _ (scan : Option Scan) (now : SeatNow) (call : Call) where
    pub counted : (step : Step) (w n : ℕ) → IsNoScan step → Facts step → Taken scan step n →
        FateTaken scan (n + 1) (fate plan p now call step w)
    counted S.Scans w n o f k = absurd o
    counted (S.LoadWord turn) w n o f k = (k.0, omega (arith, k.1))
    counted (S.LoadRow turn old words) w n o f k = go (nat_lt (length words + 1) (length_by plan (more words w)))
      where
        go : (c : Bool) → FateTaken scan (n + 1)
            (On (cond c (S.LoadRow turn old (more words w)) (S.CheckWord turn old (more words w))))
        go true = (let long = length-append words (w ∷ []) in (k.0, omega (arith, k.1, long)))
        go false = (let few = word_few words f in (k.0, omega (arith, k.1, few)))
    counted (S.CheckWord turn old words) w n o f k =
        let t : Try = record { turn = turn; word = old; row = row_of_words plan words } in
        either scan (n + 1) (looked plan p now call t) (lost turn) (w == old) (looks t k.0 k.1)
        (loses scan turn (n + 1) k.0 (omega (arith, k.1)))
      where
        unless : (t : Try) → IsTurn t.turn → n ≤ start t.turn + 1 + W → FateTaken scan (n + 1) (unless_spent plan t)
        unless t turn most =
            either scan (n + 1) (gives_up (is_announced t.turn)) (On (S.LoadPending t)) (is_spent plan t.word)
            (given_up scan t.turn (n + 1) (is_announced t.turn) turn (omega (arith, most))) (turn, omega (arith, most))

        by_entries : (t : Try) (entry : Option Entry) → IsTurn t.turn → n ≤ start t.turn + 1 + W →
            FateTaken scan (n + 1) (by_entry plan t entry)
        by_entries t None turn most = unless t turn most
        by_entries t (Some entry) turn most = ends scan t.turn (n + 1) true entry.reply turn (omega (arith, most))

        looks : (t : Try) → IsTurn t.turn → n ≤ start t.turn + 1 + W → FateTaken scan (n + 1) (looked plan p now call t)
        looks t turn most =
            let quiet = is_quiet (rules_of plan) t.row.items call in
            let answer = reply_in (rules_of plan) t.row.items call in
            let all = start_most t.turn turn in
            either scan (n + 1) (by_entry plan t (entry_for p now.posted t.row.entries))
            (cond quiet (Ends answer) (unless_spent plan t)) (is_announced t.turn)
            (by_entries t (entry_for p now.posted t.row.entries) turn most)
            (either scan (n + 1) (Ends answer) (unless_spent plan t) quiet (omega (arith, all, most))
            (unless t turn most))
    counted (S.LoadPending t) w n o f k =
        let found = found_alone p (own_op now.posted t.turn call) s.seats [] in
        let none = others_first p in
        either scan (n + 1) (On (S.StoreRow t found 0)) (found_so_far plan p now call t [])
        (w == share_of (is_announced t.turn)) (k.0, omega (arith, k.1), row_first scan t found)
        (to_ops scan now call t [] (n + 1) k.0 (omega arith) (omega (arith, k.1, none)))
    counted (S.LoadAnnounced t found) w n o f k =
        let entry = entry_for (length found) (number_in w) t.row.entries in
        let next = others_next p (length found) k.2 in
        either scan (n + 1) (after_entry plan p now call t found w entry)
        (found_so_far plan p now call t (more found NoOp)) (is_here plan (bucket_of_call plan call) w)
        (by_entry_found entry)
        (with_one scan now call t found NoOp (n + 1) k.0 f.2 (omega (arith, k.1, next)))
      where
        by_entry_found : (e : Option Entry) → FateTaken scan (n + 1) (after_entry plan p now call t found w e)
        by_entry_found None = (k.0, omega (arith, k.1), omega arith, k.2)
        by_entry_found (Some e) =
            let next = others_next p (length found) k.2 in
            with_one scan now call t found (Keeps e) (n + 1) k.0 f.2 (omega (arith, k.1, next))
    counted (S.LoadOp t found announced words) w n o f k = go (nat_lt (length words + 1) SLOT_WORDS) refl
      where
        one : Found
        one = Takes (op_in announced (more words w))

        go : (c : Bool) → nat_lt (length words + 1) SLOT_WORDS ≡ c → FateTaken scan (n + 1)
            (cond c (On (S.LoadOp t found announced (more words w))) (found_so_far plan p now call t (more found one)))
        go true e =
            let long = length-append words (w ∷ []) in
            let less = ltb-true (length words + 1) SLOT_WORDS e in
            (k.0, omega (arith, k.1, long), omega (arith, long, less), k.3)
        go false e =
            let next = others_next p (length found) k.3 in
            with_one scan now call t found one (n + 1) k.0 f.2 (omega (arith, k.1, k.2, next))
    counted (S.StoreRow t found i) w n o f k = go (nat_lt (i + 1) (length (new_words plan t found))) refl
      where
        go : (c : Bool) → nat_lt (i + 1) (length (new_words plan t found)) ≡ c →
            FateTaken scan (n + 1) (On (cond c (S.StoreRow t found (i + 1)) (S.Exchange t found)))
        go true e = (k.0, omega (arith, k.1), ltb-true (i + 1) (length (new_words plan t found)) e)
        go false e = (let few = new_few t found f in (k.0, omega (arith, k.1, k.2, few)))
    counted (S.Exchange t found) w n o f k =
        either scan (n + 1) (ends_with (is_announced t.turn) (reply_for p (made plan t found).made)) (lost t.turn)
        (w == t.word)
        (ends scan t.turn (n + 1) (is_announced t.turn) (reply_for p (made plan t found).made) k.0 (omega (arith, k.1)))
        (loses scan t.turn (n + 1) k.0 (omega (arith, k.1)))
    counted S.RaisePending w n o f k = (omega (arith, k), omega arith)
    counted (S.StoreOp i) w n o f k = go (nat_lt (i + 1) SLOT_WORDS) refl
      where
        go : (c : Bool) → nat_lt (i + 1) SLOT_WORDS ≡ c →
            FateTaken scan (n + 1) (On (cond c (S.StoreOp (i + 1)) S.Announce))
        go true e = (omega (arith, k.0), ltb-true (i + 1) SLOT_WORDS e)
        go false e = omega (arith, k.0, k.1)
    counted S.Announce w n o f k = (let two = start_two 2 refl in ((omega arith, omega arith), omega (arith, k, two)))
    counted S.StoreWant w n o f k = omega (arith, k)
    counted S.StoreAsking w n o f k = omega (arith, k)
    counted S.HeldWord w n o f k = omega (arith, k)
    counted (S.TakeHold old) w n o f k = omega (arith, k)
    counted (S.HeldHead row) w n o f k =
        entries_on scan row (entries_start (count_in plan w)) (entries_in plan w) (n + 1) (omega (arith, k))
    counted (S.HeldEntry row at left) w n o f k =
        either scan (n + 1) (On (S.HeldReply row (at + 1))) (next_entry row (at + ENTRY_WORDS) (left - 1))
        (w == entry_word p now.posted) (omega (arith, k.0, k.1))
        (entries_on scan row (at + ENTRY_WORDS) (left - 1) (n + 1) (omega (arith, k.0, k.1)))
    counted (S.HeldReply row at) w n o f k = given_back scan (n + 1) _ (omega (arith, k))
    counted (S.GiveBack reply) w n o f k = omega (arith, k)
    counted (S.Over ending) w n o f k = omega (arith, k)
    counted (S.LowerPending ending) w n o f k = over_then scan (n + 1) ending (omega (arith, k))
    counted S.Stuck w n o f k = tt

  -- ---- a scan

  abbrev pub ScanLed : (n : ℕ) → ScanFate → Type 0
  ScanLed n (ScansOn scan) = ScanTaken scan n
  ScanLed n (Scanned left held) = n ≤ scan_steps s

  abbrev pub scan_then : ScanFate → Option Scan
  scan_then (ScansOn scan) = Some scan
  scan_then (Scanned left held) = None

  holds : p < holders_of s
  holds = omega (arith, inside)

  ends_or : (k : ℕ) (left held : List ℕ) (n : ℕ) → k ≤ holders_of s → n ≤ 4 * others p k →
      ScanLed n (seat_or_end plan k left held)
  ends_or k left held n within most = go (nat_lt k (holders_of s)) refl
    where
      go : (c : Bool) → nat_lt k (holders_of s) ≡ c →
          ScanLed n (cond c (ScansOn (S.Seats k left held)) (Scanned left held))
      go true e = most
      go false e =
          let past = ltb-false k (holders_of s) e in
          let count : others p k ≡ others p (holders_of s) = ap (others p) (omega (arith, past, within)) in
          let all = others_all p (holders_of s) holds in omega (arith, most, count, all)

  pub from_seat : (k : ℕ) (left held : List ℕ) (n : ℕ) → k ≤ holders_of s → n ≤ 4 * others p k →
      ScanLed n (seats_from plan p k left held)
  from_seat k left held n within most = go (k == p) refl
    where
      go : (c : Bool) → (k == p) ≡ c → ScanLed n (seat_or_end plan (cond c (k + 1) k) left held)
      go true e =
          let at = eqb-true k p e in
          let same = others_own p k at in
          ends_or (k + 1) left held n (omega (arith, at, holds)) (omega (arith, most, same))
      go false e = ends_or k left held n within most

  module _ (n k : ℕ) (within : k < holders_of s) (other : k ≢ p) (most : n ≤ 4 * others p k + 3) where
    next_one : (left held : List ℕ) → ScanLed (n + 1) (seats_from plan p (k + 1) left held)
    next_one left held =
        let next = others_next p k other in
        from_seat (k + 1) left held (n + 1) (omega (arith, within)) (omega (arith, most, next))

    past : (left held : List ℕ) (word : ℕ) → ScanLed (n + 1) (past_hold plan p k left held word)
    past left held word = go (word == 0)
      where
        go : (c : Bool) → ScanLed (n + 1) (cond c (seats_from plan p (k + 1) left held)
            (seats_from plan p (k + 1) (without (held_row word) left) (held ++ alone (held_row word) left)))
        go true = next_one left held
        go false = next_one (without (held_row word) left) (held ++ alone (held_row word) left)

  -- where a scan stands
  abbrev pub seat_of : Scan → ℕ
  seat_of (S.Seats k left held) = k
  seat_of (S.Sees k t left held) = k
  seat_of (S.Loads k t class left held) = k
  seat_of (S.Gives k t row left held) = k

  pub scan_counted : (scan : Scan) (w n : ℕ) → seat_of scan < holders_of s → seat_of scan ≢ p → ScanTaken scan n →
      ScanLed (n + 1) (scan_fate plan p scan w)
  scan_counted (S.Seats k left held) w n within other most = go (is_asking w)
    where
      go : (c : Bool) → ScanLed (n + 1)
          (cond c (ScansOn (S.Sees k (time_in w) left held)) (past_hold plan p k left held w))
      go true = (omega (arith, most), other)
      go false = past n k within other (omega (arith, most)) left held w
  scan_counted (S.Sees k t left held) w n within other most = (omega (arith, most.0), other)
  scan_counted (S.Loads k t class left held) w n within other most = (omega (arith, most.0), other)
  scan_counted (S.Gives k t row left held) w n within other most = go (is_asking w)
    where
      go : (c : Bool) → ScanLed (n + 1) (cond c (seats_from plan p (k + 1) left held) (past_hold plan p k left held w))
      go true = next_one n k within other most.0 left held
      go false = past n k within other most.0 left held w

  -- an update after a step of its scan
  pub scanned_on : (free : List ℕ) (f : ScanFate) (n : ℕ) → ScanLed n f → FateTaken (scan_then f) n (after_scan free f)
  scanned_on free (ScansOn scan) n led = led
  scanned_on free (Scanned left held) n led = free_on None n (free ++ left) led

  pub first_on : (free : List ℕ) (scan : Option Scan) (n : ℕ) → n ≤ scan_steps s → ScanTakenOf scan n →
      FateTaken scan n (first_fate free scan)
  first_on free None n most k = free_on None n free most
  first_on free (Some scan) n most k = k
