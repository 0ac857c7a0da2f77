-- How many steps a call has left at most, by where it stands: each step leaves fewer. So each call of a seat is
-- answered within its bound. Numbers of words are written out here, so that they can be reckoned with.
use Rattle.std.proofs.Common.{◌≡◌, ◌≢◌, ℕ, zero, suc, ◌+◌, ◌-◌, ◌*◌, ◌<◌, ◌≤◌, inl, inr, Bool, true, false, cond, not, List, [], ◌∷◌, ◌++◌, length, Option, Some, None, refl, sym, ap, ◌∙◌, subst, arith}
use Rattle.std.specs.Prelude.{◌==◌, ◌&&◌, nat_lt, slice_index, slice_index_or, min}
use Rattle.std.proofs.lemmas.Bool.{cases_eq, cases_lt, lt-ltb, ltb-true, eqb-true, eqb-false}
use Rattle.std.proofs.lemmas.List.{length-append}
use Rattle.step_counts.specs.declared.TheConstants.{SEAT_WORDS, ITEM_WORDS}
use Rattle.plain_map.specs.declared.calls.Call.{Call}
use Rattle.plain_map.specs.declared.calls.Call.TheVariants.{Insert, Remove, Lookup, Tally, Count, Put}
use Rattle.plain_map.specs.declared.calls.Reply.{Reply}
use Rattle.plain_map.specs.declared.keys.Pair.{Pair}
use Rattle.plain_map.specs.declared.rules.Rules.{Rules}
use Rattle.plain_map.specs.Keys.{Session, pair_of}
use Rattle.plain_map.specs.PlainObject.{new_session, counted_session, grown, revalued}
use Rattle.word_rows.specs.ReplyWords.{reply_of_word}
use Rattle.word_rows.specs.KeyWords.{pair_of_words}
use Rattle.word_rows.specs.Blocks.{block}
use Rattle.word_rows.specs.BucketWords.{seat_words, item_words}
use Rattle.word_rows.proofs.BucketLemmas.{length-item_words, length-seat_words}
use Rattle.word_rows.proofs.PartLemmas.{length-first_values}
use Rattle.bucket_states.specs.declared.ops.Op.{Op}
use Rattle.bucket_states.specs.Items.{value_at, has_place, appended, revised_in, items_after}
use Rattle.bucket_states.specs.States.{BucketState}
use Rattle.bucket_states.specs.Change.{after_op, after_seats, change}
use Rattle.bucket_states.proofs.ItemLemmas.{length-changed, length-without}
use Rattle.bucket_states.proofs.StepLemmas.{Outcome, stayed, skipped, froze, took, outcome}
use Rattle.table_model.specs.Setup.{seats_of, rules_of}
use Rattle.table_model.specs.Goes.{more}
use Rattle.lasting_model.specs.Plans.{Plan, ample}
use Rattle.lasting_model.specs.Codes.{SLOT_WORDS, row_in, generation_in, is_asking, held_row, time_in, length_by, count_in, items_part, state_in, pair_in}
use Rattle.lasting_model.specs.Steps as S
use Rattle.lasting_model.specs.Steps.{Step, Sweep, SeatNow, Update, Try, Aim, OfKey, OfBucket, Source, Scan, Glance, bucket_of_update, is_due, made, new_words}
use Rattle.lasting_model.specs.Goes.{SweepFate, SweepsOn, Swept, sweep_fate, sweep_fate_of, seats_from, hold_or_end, homes_on, past_hold, without, alone, rows_of, swept, Fate, On, Ends, Refuses, with_free, piece_fate, ends_with, lost, reply_by, is_applied, looked, found_so_far, ops_or_row, own_op, op_in, fate, GlanceFate, Looks, Shows, Disturbed, glance_fate, glance_lost, gone_through, scan_on, scan_of, passed, with_pair, may_be, is_aimed, scan_pair, scan_fate}
use Rattle.lasting_laws.proofs.Sweeping.{seats_are}
use Rattle.lasting_laws.proofs.PoolSteps.{IsOther}
use Rattle.lasting_laws.proofs.PoolEvents.{settings_are}
use Rattle.plain_map.specs.declared.keys.Key.{Key}

-- ---- how many items there are

appended_few : (items : List Pair) (pair : Pair) (held : Option Session) (place : Bool) (n : ℕ) → length items ≤ n →
    (place ≡ true → length items < n) → length (appended items pair held place) ≤ n
appended_few items pair (Some held) place n few room = few
appended_few items pair None true n few room =
    (let long = length-append items (pair ∷ []) in omega (arith, long, room refl))
appended_few items pair None false n few room = few

revised_few : (items : List Pair) (key : Key) (new : Session) (change : Session → Session) (held : Option Session)
    (place : Bool) (n : ℕ) → length items ≤ n → (place ≡ true → length items < n) →
    length (revised_in items key new change held place) ≤ n
revised_few items key new change (Some held) place n few room = omega (arith, length-changed key change items, few)
revised_few items key new change None true n few room =
    (let long = length-append items (pair_of (key, new) ∷ []) in omega (arith, long, room refl))
revised_few items key new change None false n few room = few

-- no more than there is room for, after a call
after_few : (rules : Rules) (items : List Pair) (call : Call) → length items ≤ rules.items →
    length (items_after rules items call) ≤ rules.items
unfolding items_after
after_few rules items (Insert key value) few =
    appended_few items (pair_of (key, new_session value)) (value_at key items) (has_place rules items) rules.items few
    (λ e. ltb-true (length items) rules.items e)
after_few rules items (Remove key) few = omega (arith, length-without key items, few)
after_few rules items (Lookup key) few = few
after_few rules items (Tally key amount) few =
    omega (arith, length-changed key (λ held. grown held amount) items, few)
after_few rules items (Count key value amount) few =
    revised_few items key (counted_session value amount) (λ held. grown held amount) (value_at key items)
    (has_place rules items) rules.items few (λ e. ltb-true (length items) rules.items e)
after_few rules items (Put key value) few =
    revised_few items key (new_session value) (λ held. revalued held value) (value_at key items)
    (has_place rules items) rules.items few (λ e. ltb-true (length items) rules.items e)

-- after an op, and after those of some seats
op_few : (rules : Rules) (seat : ℕ) (op : Op) (bucket : BucketState) → length bucket.items ≤ rules.items →
    length (after_op rules seat op bucket).items ≤ rules.items
op_few rules seat op bucket few = by (outcome rules seat op bucket)
  where
    Few : BucketState → Type 0
    Few b = length b.items ≤ rules.items

    by : Outcome rules seat op bucket → length (after_op rules seat op bucket).items ≤ rules.items
    by (stayed is cold) = subst Few (sym is) few
    by (skipped is due) = subst Few (sym is) few
    by (froze is live due full) = subst Few (sym is) few
    by (took is live due fits) = subst Few (sym is) (after_few rules bucket.items op.call few)

seats_few : (rules : Rules) (seat : ℕ) (ops : List (Option Op)) (bucket : BucketState) →
    length bucket.items ≤ rules.items → length (after_seats rules seat ops bucket).items ≤ rules.items
seats_few rules seat [] bucket few = few
seats_few rules seat (None ∷ ops) bucket few = seats_few rules (suc seat) ops bucket few
seats_few rules seat (Some op ∷ ops) bucket few =
    seats_few rules (suc seat) ops (after_op rules seat op bucket) (op_few rules seat op bucket few)

pub change_few : (rules : Rules) (ops : List (Option Op)) (bucket : BucketState) → length bucket.items ≤ rules.items →
    length (change rules ops bucket).items ≤ rules.items
unfolding change
change_few rules ops bucket few = seats_few rules 0 ops bucket few

module _ (plan : Plan) (p : ℕ) (inside : p < plan.settings.seats) where
  abbrev n : ℕ
  n = plan.settings.seats

  abbrev room : ℕ
  room = plan.settings.items

  -- the words of a full row
  abbrev row : ℕ
  row = 2 + 2 * n + 7 * room

  -- so many other seats are there from this one on
  abbrev pub others : (k : ℕ) → ℕ
  others k = cond (nat_lt p k) (n - k) (n - k - 1)

  others_past : (k : ℕ) → p < k → others k ≡ n - k
  others_past k less = ap (λ (b : Bool). cond {A = ℕ} b (n - k) (n - k - 1)) (lt-ltb p k less)

  others_before : (k : ℕ) → k ≤ p → others k ≡ n - k - 1
  others_before k low = go (nat_lt p k) refl
    where
      go : (b : Bool) → nat_lt p k ≡ b → cond {A = ℕ} b (n - k) (n - k - 1) ≡ n - k - 1
      go true e = absurd (omega (arith, low, ltb-true p k e))
      go false e = refl

  others_step : (k : ℕ) → k < n → k ≢ p → others k ≡ others (k + 1) + 1
  others_step k less other = elim (cases_lt p k) [
    | inl l ↦ omega (arith, less, others_past k l, others_past (k + 1) (omega (arith, l)))
    | inr g ↦
        let low : k < p = strict k p g other in
        omega (arith, less, low, inside, others_before k g, others_before (k + 1) (omega (arith, low)))
  ]
    where
      strict : (i j : ℕ) → i ≤ j → i ≢ j → i < j
      strict i j low d = elim (cases_eq i j) [ inl e ↦ absurd (d e) | inr m ↦ omega (arith, low, m) ]

  others_own : others (p + 1) ≡ others p
  others_own =
      omega (arith, inside, others_past (p + 1) (omega arith), others_before p (omega arith))

  others_all : others 0 ≡ n - 1
  others_all = omega (arith, others_before 0 (omega arith))

  -- ---- an update

  -- a try, and what is left after the try of this turn
  abbrev try : ℕ
  try = 1 + row + 8 * (n - 1) + row + 1

  abbrev rest : (turn : ℕ) → ℕ
  rest turn = cond (turn == 1) (try + 6) 6

  rest_least : (turn : ℕ) → 6 ≤ rest turn
  rest_least turn = go (turn == 1)
    where
      go : (b : Bool) → 6 ≤ cond {A = ℕ} b (try + 6) 6
      go true = omega arith
      go false = omega arith

  abbrev sweep_left : Option Sweep → (rows : ℕ) → ℕ
  sweep_left None rows = 1
  sweep_left (Some (S.Homes todo gone)) rows = rows + 4 * (n - 1)
  sweep_left (Some (S.Seats k gone)) rows = 4 * others k
  sweep_left (Some (S.Sees k t gone)) rows = 3 + 4 * others (k + 1)
  sweep_left (Some (S.Loads k t bucket gone)) rows = 2 + 4 * others (k + 1)
  sweep_left (Some (S.Gives k t own_row gone)) rows = 1 + 4 * others (k + 1)

  abbrev pub left : Option Sweep → Step → ℕ
  left sweep (S.Sweeps rows) = sweep_left sweep rows + 8 + try + (try + 6)
  left sweep (S.StoreOp i) = (7 - i) + 1 + try + (try + 6)
  left sweep S.Announce = 1 + try + (try + 6)
  left sweep (S.LoadWord turn) = try + rest turn
  left sweep (S.LoadRow turn word words) = (row - 1 - length words) + 1 + 8 * (n - 1) + row + 1 + rest turn
  left sweep (S.CheckRow turn word words) = 1 + 8 * (n - 1) + row + 1 + rest turn
  left sweep (S.LoadAnnounced t found) = 8 * others (length found) + row + 1 + rest t.turn
  left sweep (S.LoadOp t found announced words) =
      (7 - length words) + 8 * others (length found + 1) + row + 1 + rest t.turn
  left sweep (S.StoreRow t found i) = (row - i) + 1 + rest t.turn
  left sweep (S.Exchange t found) = 1 + rest t.turn
  left sweep S.StoreWant = 6
  left sweep S.StoreAsking = 5
  left sweep S.HeldWord = 4
  left sweep (S.TakeHold word) = 3
  left sweep (S.HeldNumber held) = 2
  left sweep (S.HeldReply held) = 1
  left sweep S.Stuck = 0

  -- no more items than there is room for
  abbrev HasFew : Try → Type 0
  HasFew t = length t.state.items ≤ room

  -- how far a step has come
  abbrev pub Fine : Step → Type 0
  Fine (S.Sweeps rows) = 1 ≤ rows
  Fine (S.StoreOp i) = i < 7
  Fine S.Announce = Unit {0}
  Fine (S.LoadWord turn) = Unit {0}
  Fine (S.LoadRow turn word words) = length words < row - 1
  Fine (S.CheckRow turn word words) = Unit {0}
  Fine (S.LoadAnnounced t found) = HasFew t × (length found < n) × (length found ≢ p)
  Fine (S.LoadOp t found announced words) = HasFew t × (length found < n) × (length found ≢ p) × (length words < 7)
  Fine (S.StoreRow t found i) = HasFew t × (i < row)
  Fine (S.Exchange t found) = Unit {0}
  Fine S.StoreWant = Unit {0}
  Fine S.StoreAsking = Unit {0}
  Fine S.HeldWord = Unit {0}
  Fine (S.TakeHold word) = Unit {0}
  Fine (S.HeldNumber held) = Unit {0}
  Fine (S.HeldReply held) = Unit {0}
  Fine S.Stuck = Unit {0}

  -- where a step leads that has so many left
  abbrev pub Next : Option Sweep → (now : ℕ) → Fate → Type 0
  Next sweep now (On step) = Fine step × (left sweep step + 1 ≤ now)
  Next sweep now (Ends reply) = 1 ≤ now
  Next sweep now Refuses = 1 ≤ now

  either : (sweep : Option Sweep) (now : ℕ) (a b : Fate) (c : Bool) → Next sweep now a → Next sweep now b →
      Next sweep now (cond c a b)
  either sweep now a b true na nb = na
  either sweep now a b false na nb = nb

  replied : (sweep : Option Sweep) (now : ℕ) (reply : Option Reply) → 1 ≤ now → Next sweep now (ends_with reply)
  replied sweep now None some = (tt, omega (arith, some))
  replied sweep now (Some reply) some = some

  -- a lost try
  loses : (sweep : Option Sweep) (now turn : ℕ) → 1 + rest turn ≤ now → Next sweep now (lost turn)
  loses sweep now turn enough = go (turn == 1) enough
    where
      go : (b : Bool) → 1 + cond {A = ℕ} b (try + 6) 6 ≤ now →
          Next sweep now (On (cond b (S.LoadWord 2) S.StoreWant))
      go true e = (tt, omega (arith, e))
      go false e = (tt, omega (arith, e))

  -- the next seat, or the new row
  to_ops : (sweep : Option Sweep) (now : ℕ) (t : Try) (found : List (Option Op)) → HasFew t → length found ≢ p →
      8 * others (length found) + row + 1 + rest t.turn + 1 ≤ now → Next sweep now (ops_or_row (ample plan) t found)
  to_ops sweep now t found few other enough = go (nat_lt (length found) (seats_of (ample plan))) refl
    where
      go : (b : Bool) → nat_lt (length found) (seats_of (ample plan)) ≡ b →
          Next sweep now (On (cond b (S.LoadAnnounced t found) (S.StoreRow t found 0)))
      go true e =
          let less : length found < n =
          subst (λ m. length found < m) (seats_are plan) (ltb-true (length found) (seats_of (ample plan)) e) in
          ((few, less, other), omega (arith, enough))
      go false e = ((few, omega arith), omega (arith, enough))

  -- with the own op where its turn is
  to_found : (sweep : Option Sweep) (now : ℕ) (u : Update) (t : Try) (found : List (Option Op)) → HasFew t →
      8 * others (length found) + row + 1 + rest t.turn + 1 ≤ now →
      Next sweep now (found_so_far (ample plan) p u t found)
  to_found sweep now u t found few enough = go (length found == p) refl
    where
      go : (b : Bool) → (length found == p) ≡ b →
          Next sweep now (ops_or_row (ample plan) t (cond b (more found (Some (own_op p u))) found))
      go true e =
          let at : length found ≡ p = eqb-true (length found) p e in
          let long : length (more found (Some (own_op p u))) ≡ length found + 1 =
          length-append found (Some (own_op p u) ∷ []) in
          let same : others (length (more found (Some (own_op p u)))) ≡ others (length found) =
          ap others (long ∙ ap (λ k. k + 1) at) ∙ others_own ∙ ap others (sym at) in
          to_ops sweep now t (more found (Some (own_op p u))) few (λ f. omega (arith, f, long, at))
          (omega (arith, enough, same))
      go false e = to_ops sweep now t found few (eqb-false (length found) p e) enough

  -- one seat more is gone through
  one_more : (sweep : Option Sweep) (now : ℕ) (u : Update) (t : Try) (found : List (Option Op)) (op : Option Op) →
      HasFew t → 8 * others (length found + 1) + row + 1 + rest t.turn + 1 ≤ now →
      Next sweep now (found_so_far (ample plan) p u t (more found op))
  one_more sweep now u t found op few enough =
      let long : length (more found op) ≡ length found + 1 = length-append found (op ∷ []) in
      to_found sweep now u t (more found op) few (omega (arith, enough, ap others long))

  -- ---- how long rows are

  seat_width : 2 * seats_of (ample plan) ≡ 2 * n
  seat_width = ap (λ k. 2 * k) (seats_are plan)

  room_is : (rules_of (ample plan)).items ≡ room
  room_is = ap (λ s. s.items) (settings_are plan)

  count_few : (word : ℕ) → count_in (ample plan) word ≤ room
  count_few word =
      subst (λ m. min word m ≤ room) (sym (ap (λ s. s.items) (settings_are plan)))
      (let low : min word room ≤ room = omega arith in low)

  length_few : (words : List ℕ) → length_by (ample plan) words + 1 ≤ row
  length_few words = go (nat_lt (SEAT_WORDS * seats_of (ample plan)) (length words))
    where
      count : ℕ
      count = count_in (ample plan) (slice_index words (SEAT_WORDS * seats_of (ample plan)))

      go : (b : Bool) → 2 * seats_of (ample plan) + 1 + cond {A = ℕ} b (7 * count) 0 + 1 ≤ row
      go true = omega (arith, seat_width, count_few (slice_index words (SEAT_WORDS * seats_of (ample plan))))
      go false = omega (arith, seat_width)

  state_few : (bucket : ℕ) (words : List ℕ) → length (state_in (ample plan) bucket words).items ≤ room
  state_few bucket words =
      let count = count_in (ample plan) (slice_index words (SEAT_WORDS * seats_of (ample plan))) in
      let long = length-first_values
      (λ i. pair_of_words (block ITEM_WORDS i (items_part (ample plan) words))) count in
      omega (arith, long, count_few (slice_index words (SEAT_WORDS * seats_of (ample plan))))

  row_few : (now : SeatNow) (t : Try) (found : List (Option Op)) → HasFew t →
      length (new_words (ample plan) now t found) ≤ row
  row_few now t found few =
      let state = made (ample plan) t found in
      let seats = seat_words (seats_of (ample plan)) state.applied state.replies in
      let items = item_words (length state.items) state.items in
      let few_items : length state.items ≤ room =
      subst (λ m. length state.items ≤ m) room_is
      (change_few (rules_of (ample plan)) found t.state (subst (λ m. length t.state.items ≤ m) (sym room_is) few)) in
      let wide : length seats ≡ seats_of (ample plan) * 2 =
      length-seat_words (seats_of (ample plan)) state.applied state.replies in
      let long : length items ≡ length state.items * 7 = length-item_words (length state.items) state.items in
      let both = length-append seats (length state.items ∷ items) in
      let whole : length (new_words (ample plan) now t found) ≡ suc
      (length (seats ++ length state.items ∷ items)) = refl in
      omega (arith, whole, both, wide, long, few_items, seat_width)

  -- ---- each step

  -- a step that is no step of a sweep leaves fewer
  pub fates : (now : SeatNow) (u : Update) (step : Step) (word : ℕ) → IsOther step → Fine step →
      (step ≡ S.Stuck → ⊥) → Next now.sweep (left now.sweep step) (fate (ample plan) p now u step word)
  fates now u (S.Sweeps rows) word o fine live = absurd o
  fates now u (S.StoreOp i) word o fine live = go (nat_lt (i + 1) SLOT_WORDS) refl
    where
      go : (b : Bool) → nat_lt (i + 1) SLOT_WORDS ≡ b →
          Next now.sweep (left now.sweep (S.StoreOp i)) (On (cond b (S.StoreOp (i + 1)) S.Announce))
      go true e = (let less : i + 1 < 7 = ltb-true (i + 1) SLOT_WORDS e in (less, omega (arith, fine, less)))
      go false e = (tt, omega (arith, fine))
  fates now u S.Announce word o fine live = (tt, omega arith)
  fates now u (S.LoadWord turn) word o fine live = (omega (arith, inside), omega arith)
  fates now u (S.LoadRow turn old words) word o fine live =
      go (nat_lt (length words + 1) (length_by (ample plan) (more words word))) refl
    where
      long : length (more words word) ≡ length words + 1
      long = length-append words (word ∷ [])

      go : (b : Bool) → nat_lt (length words + 1) (length_by (ample plan) (more words word)) ≡ b →
          Next now.sweep (left now.sweep (S.LoadRow turn old words))
          (On (cond b (S.LoadRow turn old (more words word)) (S.CheckRow turn old (more words word))))
      go true e =
          let less : length words + 1 < length_by (ample plan) (more words word) = ltb-true (length words + 1) _ e in
          (omega (arith, long, less, length_few (more words word)), omega (arith, long, fine))
      go false e = (tt, omega (arith, fine))
  fates now u (S.CheckRow turn old words) word o fine live =
      let t : Try = record {
        turn = turn;
        word = old;
        state = state_in (ample plan) (bucket_of_update (ample plan) u) words;
      } in
      let l = left now.sweep (S.CheckRow turn old words) in
      either now.sweep l (looked (ample plan) p u t) (lost turn) (word == generation_in old)
      (either now.sweep l (reply_by p t.state) (found_so_far (ample plan) p u t []) (is_applied p u t.state)
      (replied now.sweep l (slice_index_or t.state.replies p None) (omega arith))
      (to_found now.sweep l u t [] (state_few (bucket_of_update (ample plan) u) words) (omega (arith, others_all))))
      (loses now.sweep l turn (omega arith))
  fates now u (S.LoadAnnounced t found) word o fine live =
      let l = left now.sweep (S.LoadAnnounced t found) in
      let fewer = others_step (length found) fine.1 fine.2 in
      either now.sweep l (On (S.LoadOp t found word [])) (found_so_far (ample plan) p u t (more found None))
      (is_due (bucket_of_update (ample plan) u) t.state (length found) word)
      ((fine.0, fine.1, fine.2, omega arith), omega (arith, fewer))
      (one_more now.sweep l u t found None fine.0 (omega (arith, fewer)))
  fates now u (S.LoadOp t found announced words) word o fine live = go (nat_lt (length words + 1) SLOT_WORDS) refl
    where
      l : ℕ
      l = left now.sweep (S.LoadOp t found announced words)

      long : length (more words word) ≡ length words + 1
      long = length-append words (word ∷ [])

      go : (b : Bool) → nat_lt (length words + 1) SLOT_WORDS ≡ b →
          Next now.sweep (left now.sweep (S.LoadOp t found announced words))
          (cond b (On (S.LoadOp t found announced (more words word)))
          (found_so_far (ample plan) p u t (more found (Some (op_in (length found) announced (more words word))))))
      go true e =
          let less : length words + 1 < 7 = ltb-true (length words + 1) SLOT_WORDS e in
          ((fine.0, fine.1, fine.2, omega (arith, long, less)), omega (arith, long, less))
      go false e =
          one_more now.sweep (left now.sweep (S.LoadOp t found announced words)) u t found
          (Some (op_in (length found) announced (more words word))) fine.0 (omega (arith, fine.3))
  fates now u (S.StoreRow t found i) word o fine live =
      go (nat_lt (i + 1) (length (new_words (ample plan) now t found))) refl
    where
      go : (b : Bool) → nat_lt (i + 1) (length (new_words (ample plan) now t found)) ≡ b →
          Next now.sweep (left now.sweep (S.StoreRow t found i))
          (On (cond b (S.StoreRow t found (i + 1)) (S.Exchange t found)))
      go true e =
          let less : i + 1 < length (new_words (ample plan) now t found) = ltb-true (i + 1) _ e in
          ((fine.0, omega (arith, less, row_few now t found fine.0)), omega (arith, fine.1))
      go false e = (tt, omega (arith, fine.1))
  fates now u (S.Exchange t found) word o fine live =
      let l = left now.sweep (S.Exchange t found) in
      either now.sweep l (reply_by p (made (ample plan) t found)) (lost t.turn) (word == t.word)
      (replied now.sweep l (slice_index_or (made (ample plan) t found).replies p None) (omega arith))
      (loses now.sweep l t.turn (omega arith))
  fates now u S.StoreWant word o fine live = (tt, omega arith)
  fates now u S.StoreAsking word o fine live = (tt, omega arith)
  fates now u S.HeldWord word o fine live = (tt, omega arith)
  fates now u (S.TakeHold old) word o fine live = (tt, omega arith)
  fates now u (S.HeldNumber held) word o fine live = go (word == u.number)
    where
      go : (b : Bool) → Next now.sweep 2 (On (cond b (S.HeldReply held) S.Stuck))
      go true = (tt, omega arith)
      go false = (tt, omega arith)
  fates now u (S.HeldReply held) word o fine live = replied now.sweep 1 (reply_of_word word) (omega arith)
  fates now u S.Stuck word o fine live = absurd (live refl)

  -- ---- a piece of a sweep

  -- so few steps of the sweep are left then
  abbrev Lower : (rows now : ℕ) → SweepFate → Type 0
  Lower rows now (SweepsOn kept (S.Homes todo gone)) = rows + 4 * (n - 1) ≤ now
  Lower rows now (SweepsOn kept (S.Seats k gone)) = 4 * others k + 1 ≤ now
  Lower rows now (SweepsOn kept (S.Sees k t gone)) = 3 + 4 * others (k + 1) + 1 ≤ now
  Lower rows now (SweepsOn kept (S.Loads k t bucket gone)) = 2 + 4 * others (k + 1) + 1 ≤ now
  Lower rows now (SweepsOn kept (S.Gives k t own_row gone)) = 1 + 4 * others (k + 1) + 1 ≤ now
  Lower rows now (Swept kept gone) = 1 ≤ now

  from_seat : (rows now k : ℕ) (kept gone : List (ℕ × ℕ)) → 4 * others k + 1 ≤ now →
      Lower rows now (seats_from (ample plan) p k kept gone)
  from_seat rows now k kept gone enough = go (k == p) refl
    where
      ending : (j : ℕ) → 4 * others j + 1 ≤ now → Lower rows now (hold_or_end (ample plan) j kept gone)
      ending j e = by (nat_lt j (seats_of (ample plan)))
        where
          by : (b : Bool) → Lower rows now (cond b (SweepsOn kept (S.Seats j gone)) (Swept kept gone))
          by true = e
          by false = omega (arith, e)

      go : (b : Bool) → (k == p) ≡ b → Lower rows now (hold_or_end (ample plan) (cond b (k + 1) k) kept gone)
      go true e =
          let at : k ≡ p = eqb-true k p e in
          let same : others (k + 1) ≡ others k = ap (λ j. others (j + 1)) at ∙ others_own ∙ ap others (sym at) in
          ending (k + 1) (omega (arith, enough, same))
      go false e = ending k enough

  from_home : (rows now : ℕ) (kept todo gone : List (ℕ × ℕ)) → rows + 4 * (n - 1) ≤ now → 1 ≤ rows →
      Lower rows now (homes_on (ample plan) p kept todo gone)
  from_home rows now kept [] gone enough some = from_seat rows now 0 kept gone (omega (arith, enough, some, others_all))
  from_home rows now kept (r ∷ todo) gone enough some = enough

  from_hold : (rows now k : ℕ) (gone : List (ℕ × ℕ)) (found : ℕ) → 4 * others (k + 1) + 1 ≤ now →
      Lower rows now (past_hold (ample plan) p k gone found)
  from_hold rows now k gone found enough = go (found == 0)
    where
      go : (b : Bool) → Lower rows now (cond b (seats_from (ample plan) p (k + 1) [] gone)
          (seats_from (ample plan) p (k + 1) (alone (held_row found) gone) (without (held_row found) gone)))
      go true = from_seat rows now (k + 1) [] gone enough
      go false =
          from_seat rows now (k + 1) (alone (held_row found) gone) (without (held_row found) gone) enough

  -- where the sweep stands, as far as it matters here
  abbrev pub AtSeat : Sweep → Type 0
  AtSeat (S.Homes todo gone) = Unit {0}
  AtSeat (S.Seats k gone) = (k < n) × (k ≢ p)
  AtSeat (S.Sees k t gone) = Unit {0}
  AtSeat (S.Loads k t bucket gone) = Unit {0}
  AtSeat (S.Gives k t own_row gone) = Unit {0}

  lowers : (rows : ℕ) (sweep : Sweep) (found : ℕ) → 1 ≤ rows → AtSeat sweep →
      Lower rows (sweep_left (Some sweep) rows) (sweep_fate (ample plan) p sweep found)
  lowers rows (S.Homes [] gone) found some at =
      from_seat rows (rows + 4 * (n - 1)) 0 [] gone (omega (arith, some, others_all))
  lowers rows (S.Homes (r ∷ todo) gone) found some at = go (row_in found == r.0)
    where
      go : (b : Bool) → Lower rows (rows + 4 * (n - 1)) (cond b (homes_on (ample plan) p (r ∷ []) todo gone)
          (homes_on (ample plan) p [] todo (r ∷ gone)))
      go true = from_home rows (rows + 4 * (n - 1)) (r ∷ []) todo gone (omega arith) some
      go false = from_home rows (rows + 4 * (n - 1)) [] todo (r ∷ gone) (omega arith) some
  lowers rows (S.Seats k gone) found some at = go (is_asking found)
    where
      fewer : others k ≡ others (k + 1) + 1
      fewer = others_step k at.0 at.1

      go : (b : Bool) → Lower rows (4 * others k)
          (cond b (SweepsOn [] (S.Sees k (time_in found) gone)) (past_hold (ample plan) p k gone found))
      go true = omega (arith, fewer)
      go false = from_hold rows (4 * others k) k gone found (omega (arith, fewer))
  lowers rows (S.Sees k t gone) found some at = omega arith
  lowers rows (S.Loads k t bucket gone) found some at = omega arith
  lowers rows (S.Gives k t own_row gone) found some at = go (is_asking found)
    where
      go : (b : Bool) → Lower rows (1 + 4 * others (k + 1))
          (cond b (seats_from (ample plan) p (k + 1) [] gone) (past_hold (ample plan) p k gone found))
      go true = from_seat rows (1 + 4 * others (k + 1)) (k + 1) [] gone (omega arith)
      go false = from_hold rows (1 + 4 * others (k + 1)) k gone found (omega arith)

  -- it takes a free row, or there is none
  with_one : (sweep : Option Sweep) (now : ℕ) (free : List ℕ) → 8 + try + (try + 6) + 1 ≤ now →
      Next sweep now (with_free free)
  with_one sweep now [] enough = omega (arith, enough)
  with_one sweep now (r ∷ free) enough = (omega arith, omega (arith, enough))

  -- after a step of the piece
  pub piece_low : (now : SeatNow) (rows l : ℕ) (f : SweepFate) → 1 ≤ rows → Lower rows l f →
      Next (swept now f).sweep (l + 8 + try + (try + 6)) (piece_fate now.free rows f)
  piece_low now rows l (SweepsOn kept (S.Homes todo gone)) some low = go (nat_lt 1 rows) refl
    where
      go : (b : Bool) → nat_lt 1 rows ≡ b → Next (Some (S.Homes todo gone)) (l + 8 + try + (try + 6))
          (cond b (On (S.Sweeps (rows - 1))) (with_free now.free))
      go true e = (let less : 1 < rows = ltb-true 1 rows e in (omega (arith, less), omega (arith, less, low)))
      go false e = with_one (Some (S.Homes todo gone)) (l + 8 + try + (try + 6)) now.free (omega (arith, some, low))
  piece_low now rows l (SweepsOn kept (S.Seats k gone)) some low = (some, omega (arith, low))
  piece_low now rows l (SweepsOn kept (S.Sees k t gone)) some low = (some, omega (arith, low))
  piece_low now rows l (SweepsOn kept (S.Loads k t bucket gone)) some low = (some, omega (arith, low))
  piece_low now rows l (SweepsOn kept (S.Gives k t own_row gone)) some low = (some, omega (arith, low))
  piece_low now rows l (Swept kept gone) some low =
      with_one None (l + 8 + try + (try + 6)) (now.free ++ rows_of gone) (omega (arith, low))

  -- a whole step of a sweep
  pub sweeps_low : (now : SeatNow) (rows : ℕ) (found : ℕ) → 1 ≤ rows → (sweep : Option Sweep) → now.sweep ≡ sweep →
      ((s : Sweep) → sweep ≡ Some s → AtSeat s) →
      Next (swept now (sweep_fate_of (ample plan) p sweep found)).sweep (left sweep (S.Sweeps rows))
      (piece_fate now.free rows (sweep_fate_of (ample plan) p sweep found))
  sweeps_low now rows found some None e at = piece_low now rows 1 (Swept [] []) some (omega arith)
  sweeps_low now rows found some (Some sweep) e at =
      piece_low now rows (sweep_left (Some sweep) rows) (sweep_fate (ample plan) p sweep found) some
      (lowers rows sweep found some (at sweep refl))

  -- ---- a lookup, or a copy

  abbrev g : ℕ
  g = 1 + 7 * room

  -- with so many tries left after this one
  abbrev again : (tries : ℕ) → ℕ
  again zero = 4 + g
  again (suc tries) = 2 + g + again tries

  again_step : (tries : ℕ) → 0 < tries → again tries ≡ 2 + g + again (tries - 1)
  again_step zero some = absurd (omega (arith, some))
  again_step (suc tries) some =
      (let e : suc tries - 1 ≡ tries = omega arith in ap (λ k. 2 + g + again k) (sym e))

  again_least : (tries : ℕ) → 4 + g ≤ again tries
  again_least zero = omega arith
  again_least (suc tries) = omega (arith, again_least tries)

  abbrev base : Source → ℕ
  base (S.Tried tries word) = 1 + again tries
  base (S.HeldIn held) = 0

  abbrev pub look_left : Glance → ℕ
  look_left (S.GlanceWord tries) = 1 + g + 1 + again tries
  look_left (S.GlanceCount source) = g + base source
  look_left (S.GlanceItem source scan) = 7 * (scan.count - scan.item) - length scan.part + base source
  look_left (S.GlanceCheck tries word kept) = 1 + again tries
  look_left S.GlanceWant = 4 + g
  look_left S.GlanceAsking = 3 + g
  look_left S.GlanceHeld = 2 + g
  look_left (S.GlanceTake word) = 1 + g

  abbrev pub FineLook : Glance → Type 0
  FineLook (S.GlanceItem source scan) =
      (scan.item < scan.count) × (scan.count ≤ room) × (length scan.part < 7)
  FineLook (S.GlanceWord tries) = Unit {0}
  FineLook (S.GlanceCount source) = Unit {0}
  FineLook (S.GlanceCheck tries word kept) = Unit {0}
  FineLook S.GlanceWant = Unit {0}
  FineLook S.GlanceAsking = Unit {0}
  FineLook S.GlanceHeld = Unit {0}
  FineLook (S.GlanceTake word) = Unit {0}

  abbrev pub NextLook : (now : ℕ) → GlanceFate → Type 0
  NextLook now (Looks glance) = FineLook glance × (look_left glance + 1 ≤ now)
  NextLook now (Shows items) = 1 ≤ now
  NextLook now Disturbed = look_left S.GlanceWant + 1 ≤ now

  through : (source : Source) (kept : List Pair) (now : ℕ) → base source + 1 ≤ now → NextLook now
      (gone_through source kept)
  through (S.Tried tries word) kept now enough = (tt, enough)
  through (S.HeldIn held) kept now enough = enough

  scans_on : (source : Source) (scan : Scan) (now : ℕ) → scan.count ≤ room → length scan.part ≡ 0 →
      7 * (scan.count - scan.item) + base source + 1 ≤ now → NextLook now (scan_on source scan)
  scans_on source scan now few none enough = go (nat_lt scan.item scan.count) refl
    where
      go : (b : Bool) → nat_lt scan.item scan.count ≡ b →
          NextLook now (cond b (Looks (S.GlanceItem source scan)) (gone_through source scan.kept))
      go true e = ((ltb-true scan.item scan.count e, few, omega (arith, none)), omega (arith, enough, none))
      go false e = through source scan.kept now (omega (arith, enough))

  scanned : (source : Source) (aim : Aim) (scan : Scan) (word : ℕ) → FineLook (S.GlanceItem source scan) →
      NextLook (look_left (S.GlanceItem source scan)) (scan_fate source aim scan word)
  scanned source aim scan word fine = first ((length scan.part == 0) && not (may_be aim word))
    where
      l : ℕ
      l = look_left (S.GlanceItem source scan)

      long : length (more scan.part word) ≡ length scan.part + 1
      long = length-append scan.part (word ∷ [])

      pair : Pair
      pair = pair_in (more scan.part word)

      whole : (b : Bool) → NextLook l (cond b (gone_through source (more scan.kept pair))
          (scan_on source (with_pair scan pair)))
      whole true = through source (more scan.kept pair) l (omega (arith, fine.0, fine.2))
      whole false = scans_on source (with_pair scan pair) l fine.1 refl (omega (arith, fine.0, fine.2))

      second : (b : Bool) → nat_lt (length scan.part + 1) ITEM_WORDS ≡ b →
          NextLook l (cond b (Looks (S.GlanceItem source (record scan { part = more scan.part word })))
          (scan_pair source aim scan pair))
      second true e =
          let less : length scan.part + 1 < 7 = ltb-true (length scan.part + 1) ITEM_WORDS e in
          ((fine.0, fine.1, omega (arith, long, less)), omega (arith, long, less, fine.0))
      second false e = whole (is_aimed aim pair)

      first : (b : Bool) → NextLook l (cond b (scan_on source (passed scan))
          (cond (nat_lt (length scan.part + 1) ITEM_WORDS)
          (Looks (S.GlanceItem source (record scan { part = more scan.part word }))) (scan_pair source aim scan pair)))
      first true = scans_on source (passed scan) l fine.1 refl (omega (arith, fine.0, fine.2))
      first false = second (nat_lt (length scan.part + 1) ITEM_WORDS) refl

  -- each step of a look leaves fewer
  pub looks : (time : ℕ) (aim : Aim) (glance : Glance) (word : ℕ) → FineLook glance →
      NextLook (look_left glance) (glance_fate (ample plan) time aim glance word)
  looks time aim (S.GlanceWord tries) word fine = (tt, omega arith)
  looks time aim (S.GlanceCount source) word fine =
      scans_on source (scan_of (count_in (ample plan) word)) (g + base source) (count_few word) refl
      (omega (arith, count_few word))
  looks time aim (S.GlanceItem source scan) word fine = scanned source aim scan word fine
  looks time aim (S.GlanceCheck tries old kept) word fine = go (word == generation_in old)
    where
      lost_one : (b : Bool) → nat_lt 0 tries ≡ b →
          NextLook (1 + again tries) (cond b (Looks (S.GlanceWord (tries - 1))) Disturbed)
      lost_one true e = (let some : 0 < tries = ltb-true 0 tries e in (tt, omega (arith, again_step tries some)))
      lost_one false e = omega (arith, again_least tries)

      go : (b : Bool) → NextLook (1 + again tries) (cond b (Shows kept) (glance_lost tries))
      go true = omega arith
      go false = lost_one (nat_lt 0 tries) refl
  looks time aim S.GlanceWant word fine = (tt, omega arith)
  looks time aim S.GlanceAsking word fine = (tt, omega arith)
  looks time aim S.GlanceHeld word fine = (tt, omega arith)
  looks time aim (S.GlanceTake old) word fine = (tt, omega arith)
