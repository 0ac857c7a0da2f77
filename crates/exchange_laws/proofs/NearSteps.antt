-- What every step of a seat needs to be on a word of the table, and to store no more than 64 bits there: the rows that
-- it comes to are rows of the table, and what it has loaded is small.
use Rattle.std.proofs.Common.{◌≡◌, ◌≢◌, ◌⊎◌, ℕ, ◌+◌, ◌-◌, ◌*◌, ◌<◌, ◌≤◌, Bool, true, false, cond, List, [], ◌∷◌, ◌++◌, length, Option, Some, None, refl, ap, subst, arith}
use Rattle.std.specs.Prelude.{◌==◌, nat_lt}
use Rattle.std.specs.List.{AllByRecursion as Each}
use Rattle.std.proofs.lemmas.Bool.{cond_both, eqb-true, eqb-false, ltb-true}
use Rattle.std.proofs.lemmas.List.{length-append}
use Rattle.list_laws.proofs.Totals.{each-append}
use Rattle.plain_map.specs.declared.calls.Call.{Call}
use Rattle.plain_map.specs.declared.calls.Reply.{Reply}
use Rattle.word_rows.specs.ReplyWords.{reply_of_word}
use Rattle.bucket_states.specs.Items.{reply_in}
use Rattle.exchange_model.specs.Plans.{Plan, MOST_ASKINGS, MOST_ANNOUNCEMENTS, rules_of, holders_of, buckets_of, rows_of, more}
use Rattle.exchange_model.specs.Codes.{SLOT_WORDS, ENTRY_WORDS, Entry, is_spent, is_asking, held_row, time_in, row_in, asking, holding, row_of_words, length_by, count_in, entries_in, entries_start, number_in}
use Rattle.exchange_model.specs.Steps as S
use Rattle.exchange_model.specs.Steps.{Step, Stand, Scan, SeatNow, Peeking, Found, NoOp, Keeps, Takes, Makes, Try, Ending, Source, Glance, bucket_of_call, new_words, SOLO_TRIES, ALL_TRIES}
use Rattle.exchange_model.specs.Goes.{ScanFate, ScansOn, Scanned, scan_fate, scan_fate_of, seats_from, past_hold, without, alone, scanned, Fate, On, Ends, Spends, Refuses, with_free, after_scan, is_announced, lost, ends_with, gives_up, gives_back, ended, unless_spent, is_quiet, share_of, own_op, found_alone, with_own, found_so_far, by_entry, looked, is_here, is_entry, entry_for, entry_word, after_entry, op_in, reply_for, next_entry, fate}
use Rattle.exchange_model.specs.Worlds.{IsAim}
use Rattle.exchange_laws.proofs.FoundAlone.{alone_each}
use Rattle.exchange_laws.proofs.LookBounds.{count_few, entries_few, FineLook}
use Rattle.exchange_laws.proofs.SmallRows.{IsWord, SmallEntry, SmallRow, SmallCall, SmallFound, call_small, number_small}

-- an entry of a row is small
entry_small : (seat number : ℕ) (entries : List Entry) → Each SmallEntry entries → (e : Entry) →
    entry_for seat number entries ≡ Some e → SmallEntry e
entry_small seat number [] all e f = absurd (none_some e f)
  where
    none_some : (e : Entry) → None ≡ Some e → ⊥
    none_some e f = cc
entry_small seat number (one ∷ entries) all e f =
    go (entry_small seat number entries all.1 e) (is_entry seat number one) f
  where
    given : Option Entry → Entry
    given None = one
    given (Some k) = k

    go : (entry_for seat number entries ≡ Some e → SmallEntry e) → (c : Bool) →
        cond c (Some one) (entry_for seat number entries) ≡ Some e → SmallEntry e
    go later true f = subst SmallEntry (ap given f) all.0
    go later false f = later f

-- a call may ask once, and announce once
pub record Early (time posted : ℕ) : Type 0 where
  pub asks : time < MOST_ASKINGS
  pub announces : posted + 1 < MOST_ANNOUNCEMENTS

-- it has asked
abbrev pub Late : (posted : ℕ) → Type 0
Late posted = posted + 1 < MOST_ANNOUNCEMENTS

module _ (plan : Plan) where
  -- it is one of the rows
  abbrev pub Inside : (row : ℕ) → Type 0
  Inside row = row < rows_of plan

  -- the words of a full row
  abbrev pub full : ℕ
  full = 1 + 7 * plan.settings.items + 2 * plan.settings.seats

  pub record GoodWord (word : ℕ) : Type 0 where
    pub row : Inside (row_in plan word)
    pub small : IsWord word

  pub record NearTry (t : Try) : Type 0 where
    pub word : IsWord t.word
    pub unspent : is_spent plan t.word ≡ false
    pub row : SmallRow t.row

  -- a hold word of a row
  pub record HoldsRow (word : ℕ) : Type 0 where
    pub row : ℕ
    pub is : word ≡ holding row
    pub inside : Inside row

  -- the own hold word between the asking and the row that is taken
  abbrev pub Given : (time word : ℕ) → Type 0
  Given time word = (word ≡ asking time) ⊎ HoldsRow word

  -- ---- what is said of a seat

  abbrev pub NearStep : (time posted hold : ℕ) → Step → Type 0
  NearStep time posted hold S.Scans = Early time posted
  NearStep time posted hold (S.LoadWord turn) = Early time posted
  NearStep time posted hold (S.LoadRow turn word words) = Early time posted × GoodWord word
  NearStep time posted hold (S.CheckWord turn word words) = Early time posted × GoodWord word
  NearStep time posted hold (S.LoadPending t) = Early time posted × NearTry t
  NearStep time posted hold (S.LoadAnnounced t found) = Early time posted × NearTry t × Each SmallFound found
  NearStep time posted hold (S.LoadOp t found announced words) =
      Early time posted × NearTry t × Each SmallFound found × IsWord announced × Each IsWord words × (length words < 7)
  NearStep time posted hold (S.StoreRow t found i) =
      Early time posted × NearTry t × Each SmallFound found × (i < length (new_words plan t found))
  NearStep time posted hold (S.Exchange t found) = Early time posted × NearTry t × Each SmallFound found
  NearStep time posted hold S.RaisePending = Early time posted
  NearStep time posted hold (S.StoreOp i) = Early time posted × (i < 7)
  NearStep time posted hold S.Announce = Early time posted
  NearStep time posted hold S.StoreWant = Early time posted
  NearStep time posted hold S.StoreAsking = Early time posted
  NearStep time posted hold S.HeldWord = Late posted × Given time hold
  NearStep time posted hold (S.TakeHold word) = Late posted × Inside (row_in plan word) × Given time hold
  NearStep time posted hold (S.HeldHead row) = Late posted × Inside row
  NearStep time posted hold (S.HeldEntry row at left) =
      Late posted × Inside row × (1 ≤ left) × (at + 2 * left ≤ full)
  NearStep time posted hold (S.HeldReply row at) = Late posted × Inside row × (at < full)
  NearStep time posted hold (S.GiveBack reply) = Late posted
  NearStep time posted hold (S.Over ending) = Late posted
  NearStep time posted hold (S.LowerPending ending) = Unit {0}
  NearStep time posted hold S.Stuck = Unit {0}

  abbrev pub NearSource : (time : ℕ) → Source → Type 0
  NearSource time (S.Tried left word) = (time < MOST_ASKINGS) × Inside (row_in plan word)
  NearSource time (S.HeldIn row) = Inside row

  abbrev pub NearGlance : (time hold : ℕ) → Glance → Type 0
  NearGlance time hold (S.GlanceWord left) = time < MOST_ASKINGS
  NearGlance time hold (S.GlanceCount source) = NearSource time source
  NearGlance time hold (S.GlanceItem source pass) = NearSource time source
  NearGlance time hold (S.GlanceCheck left word kept) = time < MOST_ASKINGS
  NearGlance time hold S.GlanceWant = time < MOST_ASKINGS
  NearGlance time hold S.GlanceAsking = time < MOST_ASKINGS
  NearGlance time hold S.GlanceHeld = Given time hold
  NearGlance time hold (S.GlanceTake word) = Inside (row_in plan word) × Given time hold
  NearGlance time hold (S.GlanceBack kept) = Unit {0}

  abbrev pub NearStand : (p time posted hold : ℕ) → Stand → Type 0
  NearStand p time posted hold S.Idle = Unit {0}
  NearStand p time posted hold (S.Goes call step) =
      SmallCall call × NearStep time posted hold step × (p < plan.settings.seats)
  NearStand p time posted hold (S.Glances aim glance) =
      IsAim plan aim × NearGlance time hold glance × FineLook plan 0 glance

  -- the class that a scan has seen wanted, and the row that it is to give
  abbrev pub NearScan : Option Scan → Type 0
  NearScan None = Unit {0}
  NearScan (Some (S.Seats k left held)) = Unit {0}
  NearScan (Some (S.Sees k t left held)) = Unit {0}
  NearScan (Some (S.Loads k t class left held)) = class < buckets_of plan.settings
  NearScan (Some (S.Gives k t row left held)) = Inside row

  -- a reader that cannot hold comes to no step of a held look
  abbrev pub NearPeek : Glance → Type 0
  NearPeek (S.GlanceWord left) = Unit {0}
  NearPeek (S.GlanceCount (S.Tried left word)) = Inside (row_in plan word)
  NearPeek (S.GlanceCount (S.HeldIn row)) = ⊥
  NearPeek (S.GlanceItem (S.Tried left word) pass) = Inside (row_in plan word)
  NearPeek (S.GlanceItem (S.HeldIn row) pass) = ⊥
  NearPeek (S.GlanceCheck left word kept) = Unit {0}
  NearPeek S.GlanceWant = ⊥
  NearPeek S.GlanceAsking = ⊥
  NearPeek S.GlanceHeld = ⊥
  NearPeek (S.GlanceTake word) = ⊥
  NearPeek (S.GlanceBack kept) = ⊥

  abbrev pub NearPeeking : Peeking → Type 0
  NearPeeking S.Rests = Unit {0}
  NearPeeking (S.Peeks aim glance) = IsAim plan aim × NearPeek glance × FineLook plan 0 glance

  -- a row has a head at least
  some_words : (t : Try) (found : List Found) → 0 < length (new_words plan t found)
  some_words t found = omega arith

  -- ---- where a step of an update leads

  module _ (time posted hold : ℕ) where
    abbrev pub NearFate : Fate → Type 0
    NearFate (On step) = NearStep time posted hold step
    NearFate (Ends reply) = Unit {0}
    NearFate Spends = Unit {0}
    NearFate Refuses = Unit {0}

    either : (f g : Fate) (c : Bool) → NearFate f → NearFate g → NearFate (cond c f g)
    either f g true l r = l
    either f g false l r = r

    either_on : (f g : Step) (c : Bool) → NearStep time posted hold f → NearStep time posted hold g →
        NearFate (On (cond c f g))
    either_on f g true l r = l
    either_on f g false l r = r

    ends : (announced : Bool) (reply : Option Reply) → Early time posted → NearFate (ends_with announced reply)
    ends true None e = tt
    ends false None e = tt
    ends true (Some reply) e = e.announces
    ends false (Some reply) e = tt

    given_up : (announced : Bool) → Early time posted → NearFate (gives_up announced)
    given_up true e = e.announces
    given_up false e = tt

    given_back : (reply : Option Reply) → Late posted → NearFate (gives_back reply)
    given_back None e = tt
    given_back (Some reply) e = e

    ended_then : (ending : Ending) → NearFate (ended ending)
    ended_then (S.Applied reply) = tt
    ended_then S.GivenUp = tt

    loses : (turn : ℕ) → Early time posted → NearFate (lost turn)
    loses turn e =
        either (On S.RaisePending) (cond (turn == ALL_TRIES) (On S.StoreWant) (On (S.LoadWord (turn + 1))))
        (turn == SOLO_TRIES) e (either (On S.StoreWant) (On (S.LoadWord (turn + 1))) (turn == ALL_TRIES) e e)

    pub free_on : (free : List ℕ) → Early time posted → NearFate (with_free free)
    free_on [] e = tt
    free_on (row ∷ free) e = e

    pub scan_on : (free : List ℕ) (f : ScanFate) → Early time posted → NearFate (after_scan free f)
    scan_on free (ScansOn scan) e = e
    scan_on free (Scanned left held) e = free_on (free ++ left) e

    unless : (t : Try) → Early time posted → IsWord t.word → SmallRow t.row → NearFate (unless_spent plan t)
    unless t e word row =
        cond_both (is_spent plan t.word) (gives_up (is_announced t.turn)) (On (S.LoadPending t)) NearFate
        (λ _. given_up (is_announced t.turn) e) (λ unspent. (e, record { word = word; unspent = unspent; row = row }))

    by_entries : (t : Try) (entry : Option Entry) → Early time posted → IsWord t.word → SmallRow t.row →
        NearFate (by_entry plan t entry)
    by_entries t None e word row = unless t e word row
    by_entries t (Some entry) e word row = ends true entry.reply e

    entries_on : (row at left : ℕ) → Late posted → Inside row → at + 2 * left ≤ full → NearFate (next_entry row at left)
    entries_on row at left late inside few = go (nat_lt 0 left) refl
      where
        go : (b : Bool) → nat_lt 0 left ≡ b → NearFate (On (cond b (S.HeldEntry row at left) S.Stuck))
        go true e = (late, inside, (let some = ltb-true 0 left e in omega (arith, some)), few)
        go false e = tt

    module _ (p : ℕ) (now : SeatNow) (call : Call) (small : SmallCall call) where
      own_small : (turn : ℕ) → now.posted + 1 < MOST_ANNOUNCEMENTS → SmallFound (own_op now.posted turn call)
      own_small turn few = go (is_announced turn)
        where
          go : (b : Bool) → SmallFound (cond b (Takes (record { number = now.posted; call = call })) (Makes call))
          go true = (small, omega (arith, few))
          go false = small

      to_ops : (t : Try) (found : List Found) → now.posted + 1 < MOST_ANNOUNCEMENTS → Early time posted → NearTry t →
          Each SmallFound found → NearFate (found_so_far plan p now call t found)
      to_ops t found few e n each =
          either_on (S.LoadAnnounced t all) (S.StoreRow t all 0) (nat_lt (length all) plan.settings.seats)
          (e, n, all_each (length found == p)) (e, n, all_each (length found == p), some_words t all)
        where
          own : Found
          own = own_op now.posted t.turn call

          all : List Found
          all = with_own p now call t.turn found

          all_each : (b : Bool) → Each SmallFound (cond b (more found own) found)
          all_each true = each-append SmallFound found (own ∷ []) each (own_small t.turn few, tt)
          all_each false = each

      one_more : (t : Try) (found : List Found) (one : Found) → now.posted + 1 < MOST_ANNOUNCEMENTS →
          Early time posted → NearTry t → Each SmallFound found → SmallFound one →
          NearFate (found_so_far plan p now call t (more found one))
      one_more t found one few e n each is =
          to_ops t (more found one) few e n (each-append SmallFound found (one ∷ []) each (is, tt))

      to_entry : (t : Try) (found : List Found) (announced : ℕ) (entry : Option Entry) →
          now.posted + 1 < MOST_ANNOUNCEMENTS → Early time posted → NearTry t → Each SmallFound found →
          IsWord announced → ((e : Entry) → entry ≡ Some e → SmallEntry e) →
          NearFate (after_entry plan p now call t found announced entry)
      to_entry t found announced None few e n each word is = (e, n, each, word, tt, omega arith)
      to_entry t found announced (Some entry) few e n each word is =
          one_more t found (Keeps entry) few e n each (is entry refl)

      -- what is known of the word that it finds
      abbrev pub Facts : Step → (word : ℕ) → Type 0
      Facts (S.LoadWord turn) word = GoodWord word
      Facts (S.CheckWord turn old words) word = word ≡ old → SmallRow (row_of_words plan words)
      Facts (S.LoadAnnounced t found) word = IsWord word
      Facts (S.LoadOp t found announced words) word = IsWord word
      Facts S.HeldWord word = Inside (row_in plan word) × Given time hold
      Facts (S.TakeHold old) word = word ≢ asking now.time → Inside (held_row word)
      Facts step word = Unit {0}

      -- a step that changes neither how often the seat has asked nor how many of its announcements are over
      abbrev pub IsMild : Step → Type 0
      IsMild S.StoreAsking = ⊥
      IsMild (S.Over ending) = ⊥
      IsMild step = Unit {0}

      pub near_fate : (step : Step) (word was : ℕ) → IsMild step → now.time ≡ time → now.posted ≡ posted →
          NearStep time posted was step → Facts step word → NearFate (fate plan p now call step word)
      near_fate S.Scans word was o t q k f = scan_on now.free (scan_fate_of plan p now.scan word) k
      near_fate (S.LoadWord turn) word was o t q k f = (k, f)
      near_fate (S.LoadRow turn old words) word was o t q k f =
          either_on (S.LoadRow turn old (more words word)) (S.CheckWord turn old (more words word))
          (nat_lt (length words + 1) (length_by plan (more words word))) k k
      near_fate (S.CheckWord turn old words) word was o t q k f =
          let a : Try = record { turn = turn; word = old; row = row_of_words plan words } in
          let quiet = is_quiet (rules_of plan) a.row.items call in
          let answer = reply_in (rules_of plan) a.row.items call in
          let look : SmallRow a.row → NearFate (looked plan p now call a) = λ row.
          either (by_entry plan a (entry_for p now.posted a.row.entries))
          (cond quiet (Ends answer) (unless_spent plan a)) (is_announced turn)
          (by_entries a (entry_for p now.posted a.row.entries) k.0 k.1.small row)
          (either (Ends answer) (unless_spent plan a) quiet tt (unless a k.0 k.1.small row)) in
          cond_both (word == old) (looked plan p now call a) (lost turn) NearFate
          (λ e. look (f (eqb-true word old e))) (λ _. loses turn k.0)
      near_fate (S.LoadPending a) word was o t q k f =
          let few : now.posted + 1 < MOST_ANNOUNCEMENTS = (let e = k.0.announces in omega (arith, e, q)) in
          let own = own_op now.posted a.turn call in
          let found = found_alone p own plan.settings.seats [] in
          either (On (S.StoreRow a found 0)) (found_so_far plan p now call a [])
          (word == share_of (is_announced a.turn)) (
            k.0,
            k.1,
            alone_each SmallFound p own plan.settings.seats [] (own_small a.turn few) tt tt,
            some_words a
                found,
          )
          (to_ops a [] few k.0 k.1 tt)
      near_fate (S.LoadAnnounced a found) word was o t q k f =
          let few : now.posted + 1 < MOST_ANNOUNCEMENTS = (let e = k.0.announces in omega (arith, e, q)) in
          let entry = entry_for (length found) (number_in word) a.row.entries in
          either (after_entry plan p now call a found word entry) (found_so_far plan p now call a (more found NoOp))
          (is_here plan (bucket_of_call plan call) word)
          (to_entry a found word entry few k.0 k.1 k.2 f
          (entry_small (length found) (number_in word) a.row.entries k.1.row.entries))
          (one_more a found NoOp few k.0 k.1 k.2 tt)
      near_fate (S.LoadOp a found announced words) word was o t q k f = go (nat_lt (length words + 1) SLOT_WORDS) refl
        where
          few : now.posted + 1 < MOST_ANNOUNCEMENTS
          few = (let e = k.0.announces in omega (arith, e, q))

          all : Each IsWord (more words word)
          all = each-append IsWord words (word ∷ []) k.4 (f, tt)

          one : Found
          one = Takes (op_in announced (more words word))

          go : (b : Bool) → nat_lt (length words + 1) SLOT_WORDS ≡ b →
              NearFate (cond b (On (S.LoadOp a found announced (more words word)))
              (found_so_far plan p now call a (more found one)))
          go true e =
              let less : length words + 1 < 7 = ltb-true (length words + 1) SLOT_WORDS e in
              let long = length-append words (word ∷ []) in
              (k.0, k.1, k.2, k.3, all, omega (arith, less, long))
          go false e =
              one_more a found one few k.0 k.1 k.2 (call_small (more words word) all, number_small announced k.3)
      near_fate (S.StoreRow a found i) word was o t q k f = go (nat_lt (i + 1) (length (new_words plan a found))) refl
        where
          go : (b : Bool) → nat_lt (i + 1) (length (new_words plan a found)) ≡ b →
              NearFate (On (cond b (S.StoreRow a found (i + 1)) (S.Exchange a found)))
          go true e = (k.0, k.1, k.2, ltb-true (i + 1) (length (new_words plan a found)) e)
          go false e = (k.0, k.1, k.2)
      near_fate (S.Exchange a found) word was o t q k f =
          let reply = reply_for p (S.made plan a found).made in
          either (ends_with (is_announced a.turn) reply) (lost a.turn) (word == a.word)
          (ends (is_announced a.turn) reply k.0) (loses a.turn k.0)
      near_fate S.RaisePending word was o t q k f = (k, omega arith)
      near_fate (S.StoreOp i) word was o t q k f = go (nat_lt (i + 1) SLOT_WORDS) refl
        where
          go : (b : Bool) → nat_lt (i + 1) SLOT_WORDS ≡ b → NearFate (On (cond b (S.StoreOp (i + 1)) S.Announce))
          go true e = (k.0, ltb-true (i + 1) SLOT_WORDS e)
          go false e = k.0
      near_fate S.Announce word was o t q k f = k
      near_fate S.StoreWant word was o t q k f = k
      near_fate S.StoreAsking word was o t q k f = absurd o
      near_fate S.HeldWord word was o t q k f = (k.0, f.0, f.1)
      near_fate (S.TakeHold old) word was o t q k f = (k.0, taken (word == asking now.time) refl)
        where
          taken : (b : Bool) → (word == asking now.time) ≡ b → Inside (cond b (row_in plan old) (held_row word))
          taken true e = k.1
          taken false e = f (eqb-false word (asking now.time) e)
      near_fate (S.HeldHead row) word was o t q k f =
          let items = count_few plan word in
          let entries = entries_few plan word in
          entries_on row (entries_start (count_in plan word)) (entries_in plan word) k.0 k.1
          (omega (arith, items, entries))
      near_fate (S.HeldEntry row at left) word was o t q k f =
          either (On (S.HeldReply row (at + 1))) (next_entry row (at + ENTRY_WORDS) (left - 1))
          (word == entry_word p now.posted) (k.0, k.1, omega (arith, k.2, k.3))
          (entries_on row (at + ENTRY_WORDS) (left - 1) k.0 k.1 (omega (arith, k.2, k.3)))
      near_fate (S.HeldReply row at) word was o t q k f = given_back (reply_of_word word) k.0
      near_fate (S.GiveBack reply) word was o t q k f = k
      near_fate (S.Over ending) word was o t q k f = absurd o
      near_fate (S.LowerPending ending) word was o t q k f = ended_then ending
      near_fate S.Stuck word was o t q k f = tt

  -- ---- where a scan leads

  abbrev pub NearScanned : ScanFate → Type 0
  NearScanned (ScansOn scan) = NearScan (Some scan)
  NearScanned (Scanned left held) = Unit {0}

  either_scan : (a b : ScanFate) (c : Bool) → NearScanned a → NearScanned b → NearScanned (cond c a b)
  either_scan a b true na nb = na
  either_scan a b false na nb = nb

  pub near_seats : (own k : ℕ) (left held : List ℕ) → NearScanned (seats_from plan own k left held)
  near_seats own k left held =
      let seat = cond (k == own) (k + 1) k in
      either_scan (ScansOn (S.Seats seat left held)) (Scanned left held) (nat_lt seat (holders_of plan.settings)) tt tt

  near_past : (own k : ℕ) (left held : List ℕ) (word : ℕ) → NearScanned (past_hold plan own k left held word)
  near_past own k left held word =
      either_scan (seats_from plan own (k + 1) left held)
      (seats_from plan own (k + 1) (without (held_row word) left) (held ++ alone (held_row word) left)) (word == 0)
      (near_seats own (k + 1) left held)
      (near_seats own (k + 1) (without (held_row word) left) (held ++ alone (held_row word) left))

  abbrev pub ScanFacts : Option Scan → (word : ℕ) → Type 0
  ScanFacts (Some (S.Sees k t left held)) word = word < buckets_of plan.settings
  ScanFacts (Some (S.Loads k t class left held)) word = Inside (row_in plan word)
  ScanFacts scan word = Unit {0}

  near_scan : (own : ℕ) (scan : Scan) (word : ℕ) → ScanFacts (Some scan) word →
      NearScanned (scan_fate plan own scan word)
  near_scan own (S.Seats k left held) word f =
      either_scan (ScansOn (S.Sees k (time_in word) left held)) (past_hold plan own k left held word)
      (is_asking word) tt (near_past own k left held word)
  near_scan own (S.Sees k t left held) word f = f
  near_scan own (S.Loads k t class left held) word f = f
  near_scan own (S.Gives k t row left held) word f =
      either_scan (seats_from plan own (k + 1) left held) (past_hold plan own k left held word)
      (is_asking word) (near_seats own (k + 1) left held) (near_past own k left held word)

  pub near_scans : (own : ℕ) (scan : Option Scan) (word : ℕ) → ScanFacts scan word →
      NearScanned (scan_fate_of plan own scan word)
  near_scans own None word f = tt
  near_scans own (Some scan) word f = near_scan own scan word f

  pub scanned_near : (now : SeatNow) (f : ScanFate) → NearScanned f → NearScan (scanned now f).scan
  scanned_near now (ScansOn scan) k = k
  scanned_near now (Scanned left held) k = tt
