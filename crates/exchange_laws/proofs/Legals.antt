-- Runs and the order: where every update that an exchange applies is of the class of its bucket, the updates that were
-- made are legal at each moment, and each bucket has the pairs of its class that the plain map has after them.
use Rattle.std.proofs.Common.{◌≡◌, ℕ, zero, suc, ◌+◌, ◌≤◌, ◌<◌, Bool, true, false, cond, List, [], ◌∷◌, ◌++◌, length, None, refl, sym, ap, ◌∙◌, subst, arith, append-nil, lt-ltb}
use Rattle.std.specs.Prelude.{◌==◌, ◌^◌, fold, drop, slice_index}
use Rattle.std.specs.FinMap.{empty, get-empty}
use Rattle.std.specs.List.{IsDistinct}
use Rattle.std.proofs.lemmas.Bool.{eq-eqb, eqb-true}
use Rattle.plain_map.specs.declared.calls.Call.{Call}
use Rattle.plain_map.specs.declared.calls.Call.TheVariants.{Insert, Remove, Lookup, Tally, Count, Put}
use Rattle.plain_map.specs.Calls.{key_in}
use Rattle.plain_map.specs.PlainObject.{InRange, Sessions, class_of}
use Rattle.plain_map.specs.declared.keys.Pair.{Pair}
use Rattle.plain_map.specs.Keys.{key_cmp}
use Rattle.map_laws.specs.ByKey.{after_made}
use Rattle.bucket_states.specs.Items.{prefix_of, reply_in, items_after}
use Rattle.bucket_states.specs.Parts.{HoldsPart}
use Rattle.exchange_model.specs.Plans.{Plan, IsPlan, rules_of, holders_of}
use Rattle.exchange_model.specs.Codes.{Row, count_in, row_of_words, row_words, row_in, row_at, generation_in}
use Rattle.exchange_model.specs.Words as W
use Rattle.exchange_model.specs.Words.{with_word}
use Rattle.exchange_model.specs.Steps as S
use Rattle.exchange_model.specs.Steps.{MadeBySeat, Step, Stand, SeatNow, Found, Try, deed_of, glance_deed, bucket_of_call, change, made, next_row, next_tag}
use Rattle.exchange_model.specs.Worlds.{World, Event, OfSeat, OfReader, IsEvent, AreEvents, What, Begin, Copy, Step_on, Fits, IsFlying, seat_in, ticked, goes, glances, goes_on, call_begins, act, happens, made_by_step, made_quietly, Peek, Open, Peek_on, peeks_on, opening_world, opening_store}
use Rattle.exchange_model.specs.Goes.{is_announced, is_quiet}
use Rattle.exchange_model.specs.Laws.{all_made}
use Rattle.exchange_laws.proofs.RowLists.{first_there}
use Rattle.exchange_laws.proofs.Words.{bucket_small, row_of_tag, rows_few}
use Rattle.exchange_laws.proofs.Owned.{Owned}
use Rattle.exchange_laws.proofs.OwnedSteps.{IsStill, quiet_words, quiet_step, quiet_glance}
use Rattle.exchange_laws.proofs.OwnedMoves.{Moves}
use Rattle.exchange_laws.proofs.OwnedEvents.{Quiet, quiet, event_keeps}
use Rattle.exchange_laws.proofs.TrueReads.{Reads, ReadsAt, IsFront, whole_row, reads_keep}
use Rattle.exchange_laws.proofs.RowWords.{row_stands}
use Rattle.exchange_laws.proofs.StoredRows.{Stored, StoresBy, stored_keep}
use Rattle.exchange_laws.proofs.MadeRows.{made_is_row}
use Rattle.exchange_laws.proofs.FoundOps.{pairs_many, FoundOk, FoundAt, found_keep}
use Rattle.exchange_laws.proofs.Changes.{AreHere}
use Rattle.exchange_laws.proofs.LegalMoves.{Legal, row_of, stays_legal, exchange_legal, quiet_legal}
use Rattle.exchange_laws.proofs.QuietCalls.{quiet_same}

-- a row that was read has no more items than there is room for
few_read : (plan : Plan) (words : List ℕ) → length (row_of_words plan words).items ≤ plan.settings.items
few_read plan words =
    let head = slice_index words 0 in
    let long = pairs_many (count_in plan head) (drop 1 words) in omega (arith, long)

-- the bucket of a call is the class of its key
class_is : (plan : Plan) (call : Call) →
    prefix_of (rules_of plan) (rules_of plan).depth (key_in call) ≡ bucket_of_call plan call
unfolding prefix_of class_of
class_is plan call = refl

module _ (plan : Plan) (range : InRange (rules_of plan)) (is_plan : IsPlan plan) where
  -- all that an exchange would apply now is of the class of its bucket
  abbrev pub AreApt : World → Type 0
  AreApt x =
      (p : ℕ) (call : Call) (t : Try) (found : List Found) → p < holders_of plan.settings →
      (seat_in x p).stand ≡ S.Goes call (S.Exchange t found) → x.store.bucket (bucket_of_call plan call) ≡ t.word →
      (first : Sessions) → AreHere (rules_of plan) range first (bucket_of_call plan call) found

  -- every step but the check of a try
  abbrev IsUnchecked : Step → Type 0
  IsUnchecked (S.CheckWord turn old words) = ⊥
  IsUnchecked step = Unit {0}

  none_made : (seat : ℕ) (call : Call) (step : Step) (word : ℕ) → IsStill step → IsUnchecked step →
      made_by_step plan seat call step word ≡ []
  none_made seat call (S.StoreRow t found i) word n u = refl
  none_made seat call (S.Exchange t found) word n u = absurd n
  none_made seat call S.Scans word n u = refl
  none_made seat call (S.LoadWord turn) word n u = refl
  none_made seat call (S.LoadRow turn old words) word n u = refl
  none_made seat call (S.CheckWord turn old words) word n u = absurd u
  none_made seat call (S.LoadPending t) word n u = refl
  none_made seat call (S.LoadAnnounced t found) word n u = refl
  none_made seat call (S.LoadOp t found announced words) word n u = refl
  none_made seat call S.RaisePending word n u = refl
  none_made seat call (S.StoreOp i) word n u = refl
  none_made seat call S.Announce word n u = refl
  none_made seat call S.StoreWant word n u = refl
  none_made seat call S.StoreAsking word n u = refl
  none_made seat call S.HeldWord word n u = refl
  none_made seat call (S.TakeHold old) word n u = refl
  none_made seat call (S.HeldHead row) word n u = refl
  none_made seat call (S.HeldEntry row at left) word n u = refl
  none_made seat call (S.HeldReply row at) word n u = refl
  none_made seat call (S.GiveBack reply) word n u = refl
  none_made seat call (S.Over ending) word n u = refl
  none_made seat call (S.LowerPending ending) word n u = refl
  none_made seat call S.Stuck word n u = refl

  module _ (x : World) (h : Owned plan x) (reads : Reads plan x) (finds : FoundOk plan x) (stored : Stored plan x)
      (apt : AreApt x) (l : Legal plan range x) (p : ℕ) (inside : p < holders_of plan.settings) where
    abbrev now : SeatNow
    now = seat_in x p

    still_step : (call : Call) (step : Step) → IsStill step → IsUnchecked step →
        Moves plan h.at x (ticked (goes plan x p now call step)) →
        Legal plan range (ticked (goes plan x p now call step))
    still_step call step still unchecked moves =
        stays_legal plan range x (ticked (goes plan x p now call step)) h moves
        (quiet_words (deed_of plan p now call step) x.store (quiet_step plan p now call step still)).0
        (ap (λ (ms : List MadeBySeat). x.made ++ ms) (none_made p call step _ still unchecked) ∙ append-nil x.made) l

    row_step : (call : Call) (t : Try) (found : List Found) (i : ℕ) →
        Moves plan h.at x (ticked (goes plan x p now call (S.StoreRow t found i))) →
        Legal plan range (ticked (goes plan x p now call (S.StoreRow t found i)))
    row_step call t found i moves =
        stays_legal plan range x (ticked (goes plan x p now call (S.StoreRow t found i))) h moves refl
        (append-nil x.made) l

    -- a try is checked: a call that changes nothing, and that nobody else knows of, is answered then
    check_step : (call : Call) (turn old : ℕ) (words : List ℕ) → now.stand ≡ S.Goes call (S.CheckWord turn old words) →
        Moves plan h.at x (ticked (goes plan x p now call (S.CheckWord turn old words))) →
        Legal plan range (ticked (goes plan x p now call (S.CheckWord turn old words)))
    check_step call turn old words stood moves = by_word (x.store.bucket b == old) refl
      where
        b : ℕ
        b = bucket_of_call plan call

        y : World
        y = ticked (goes plan x p now call (S.CheckWord turn old words))

        items : List Pair
        items = (row_of_words plan words).items

        r : ReadsAt plan x (S.Goes call (S.CheckWord turn old words))
        r = subst (ReadsAt plan x) stood (reads.each p inside)

        nothing : made_by_step plan p call (S.CheckWord turn old words) (x.store.bucket b) ≡ [] → Legal plan range y
        nothing none =
            stays_legal plan range x y h moves refl
            (ap (λ (ms : List MadeBySeat). x.made ++ ms) none ∙ append-nil x.made) l

        -- where the word is the same, the row that was read is the one that stands
        row_is : x.store.bucket b ≡ old → row_of_words plan words ≡ row_of plan range x b
        row_is same =
            whole_row plan words (x.store.row (row_in plan old)) (r.0.front same) r.1
            ∙ ap (λ w. row_at plan (x.store.row (row_in plan w))) (sym same)

        one : List Pair → MadeBySeat
        one ps = (p, (call, reply_in (rules_of plan) ps call))

        made_is : x.store.bucket b ≡ old → is_announced turn ≡ false → is_quiet (rules_of plan) items call ≡ true →
            y.made ≡ x.made ++ one (row_of plan range x b).items ∷ []
        made_is same fast quiet =
            ap (λ (ms : List MadeBySeat). x.made ++ ms)
            ((λ i. cond (eq-eqb (x.store.bucket b) old same i) (made_quietly plan p call (is_announced turn) items) [])
            ∙ (λ i. made_quietly plan p call (fast i) items) ∙ (λ i. cond (quiet i) (one items ∷ []) []))
            ∙ ap (λ (k : Row). x.made ++ one k.items ∷ []) (row_is same)

        legal_then : x.store.bucket b ≡ old → is_announced turn ≡ false → is_quiet (rules_of plan) items call ≡ true →
            Legal plan range y
        legal_then same fast quiet =
            quiet_legal plan range x y h moves b p call (bucket_small plan is_plan (key_in call)) l
            (subst (λ (k : Row). length k.items ≤ plan.settings.items) (row_is same) (few_read plan words))
            (class_is plan call) refl
            (subst (λ (k : Row). items_after (rules_of plan) k.items call ≡ k.items) (row_is same)
            (quiet_same (rules_of plan) items call quiet)) (made_is same fast quiet)

        by_quiet : x.store.bucket b ≡ old → is_announced turn ≡ false → (c : Bool) →
            is_quiet (rules_of plan) items call ≡ c → Legal plan range y
        by_quiet same fast true quiet = legal_then same fast quiet
        by_quiet same fast false quiet =
            nothing ((λ i. cond (eq-eqb (x.store.bucket b) old same i)
            (made_quietly plan p call (is_announced turn) items) [])
            ∙ (λ i. made_quietly plan p call (fast i) items)
            ∙ (λ i. cond (quiet i) ((p, (call, reply_in (rules_of plan) items call)) ∷ []) []))

        by_turn : x.store.bucket b ≡ old → (c : Bool) → is_announced turn ≡ c → Legal plan range y
        by_turn same false fast = by_quiet same fast (is_quiet (rules_of plan) items call) refl
        by_turn same true slow =
            nothing ((λ i. cond (eq-eqb (x.store.bucket b) old same i)
            (made_quietly plan p call (is_announced turn) items) []) ∙ (λ i. made_quietly plan p call (slow i) items))

        by_word : (c : Bool) → (x.store.bucket b == old) ≡ c → Legal plan range y
        by_word true e = by_turn (eqb-true (x.store.bucket b) old e) (is_announced turn) refl
        by_word false e =
            nothing (λ i. cond (e i) (made_quietly plan p call (is_announced turn) items) [])

    exchange_step : (call : Call) (t : Try) (found : List Found) → now.stand ≡ S.Goes call (S.Exchange t found) →
        Moves plan h.at x (ticked (goes plan x p now call (S.Exchange t found))) →
        Legal plan range (ticked (goes plan x p now call (S.Exchange t found)))
    exchange_step call t found stood moves = go (x.store.bucket b == t.word) refl
      where
        b : ℕ
        b = bucket_of_call plan call

        y : World
        y = ticked (goes plan x p now call (S.Exchange t found))

        f : FoundAt plan (S.Goes call (S.Exchange t found))
        f = subst (FoundAt plan) stood (finds.each p inside)

        r : ReadsAt plan x (S.Goes call (S.Exchange t found))
        r = subst (ReadsAt plan x) stood (reads.each p inside)

        s : StoresBy plan (x.store.row (next_row now)) (S.Goes call (S.Exchange t found))
        s = subst (StoresBy plan (x.store.row (next_row now))) stood (stored.each p inside)

        q : Quiet plan is_plan x h p inside (S.Goes call (S.Exchange t found)) × (now.scan ≡ None)
        q = quiet plan is_plan x h p inside (S.Goes call (S.Exchange t found)) stood (λ k. k)

        few : next_row now < 2 ^ plan.row_bits
        few =
            let there = first_there now.free q.0.enough in
            let is = q.0.rows.mine (next_row now) (omega (arith, there)) in
            let most = rows_few plan is_plan in
            omega (arith, is.1, most)

        row_is : x.store.bucket b ≡ t.word → t.row ≡ row_of plan range x b
        row_is same = r.is same ∙ ap (λ w. row_at plan (x.store.row (row_in plan w))) (sym same)

        put_is : x.store.bucket b ≡ t.word → row_at plan (x.store.row (row_in plan (next_tag plan now t.word)))
            ≡ (change plan (row_of plan range x b) found).row
        put_is same =
            ap (λ k. row_at plan (x.store.row k)) (row_of_tag plan (generation_in plan t.word + 1) (next_row now) few)
            ∙ row_stands plan is_plan (change plan t.row found).row
            (made_is_row plan is_plan t.row found f.1.0.items f.1.2 f.1.1) (x.store.row (next_row now)) s
            ∙ ap (λ (k : Row). (change plan k found).row) (row_is same)

        go : (c : Bool) → (x.store.bucket b == t.word) ≡ c → Legal plan range y
        go true e =
            let same = eqb-true (x.store.bucket b) t.word e in
            exchange_legal plan range x y b (next_tag plan now t.word) found (bucket_small plan is_plan (key_in call)) l
            (subst (λ (k : Row). length k.items ≤ plan.settings.items) (row_is same) f.1.0.items)
            (apt p call t found inside stood same (after_made (rules_of plan) empty (all_made x.made)))
            (ap (λ (c : Bool). (cond c (with_word x.store (W.Bucket b) (next_tag plan now t.word)) x.store).bucket) e)
            (ap (λ (c : Bool). (cond c (with_word x.store (W.Bucket b) (next_tag plan now t.word)) x.store).row) e)
            (put_is same)
            (ap (λ (c : Bool). x.made ++ cond c (made plan t found).made []) e
            ∙ ap (λ (k : Row). x.made ++ (change plan k found).made) (row_is same))
        go false e =
            stays_legal plan range x y h moves
            (ap (λ (c : Bool). (cond c (with_word x.store (W.Bucket b) (next_tag plan now t.word)) x.store).bucket) e)
            (ap (λ (c : Bool). x.made ++ cond c (made plan t found).made []) e ∙ append-nil x.made) l

    update_step : (call : Call) (step : Step) → now.stand ≡ S.Goes call step →
        Moves plan h.at x (ticked (goes plan x p now call step)) →
        Legal plan range (ticked (goes plan x p now call step))
    update_step call (S.StoreRow t found i) stood moves = row_step call t found i moves
    update_step call (S.Exchange t found) stood moves = exchange_step call t found stood moves
    update_step call S.Scans stood moves = still_step call S.Scans tt tt moves
    update_step call (S.LoadWord turn) stood moves = still_step call (S.LoadWord turn) tt tt moves
    update_step call (S.LoadRow turn old words) stood moves = still_step call (S.LoadRow turn old words) tt tt moves
    update_step call (S.CheckWord turn old words) stood moves = check_step call turn old words stood moves
    update_step call (S.LoadPending t) stood moves = still_step call (S.LoadPending t) tt tt moves
    update_step call (S.LoadAnnounced t found) stood moves = still_step call (S.LoadAnnounced t found) tt tt moves
    update_step call (S.LoadOp t found announced words) stood moves =
        still_step call (S.LoadOp t found announced words) tt tt moves
    update_step call S.RaisePending stood moves = still_step call S.RaisePending tt tt moves
    update_step call (S.StoreOp i) stood moves = still_step call (S.StoreOp i) tt tt moves
    update_step call S.Announce stood moves = still_step call S.Announce tt tt moves
    update_step call S.StoreWant stood moves = still_step call S.StoreWant tt tt moves
    update_step call S.StoreAsking stood moves = still_step call S.StoreAsking tt tt moves
    update_step call S.HeldWord stood moves = still_step call S.HeldWord tt tt moves
    update_step call (S.TakeHold old) stood moves = still_step call (S.TakeHold old) tt tt moves
    update_step call (S.HeldHead row) stood moves = still_step call (S.HeldHead row) tt tt moves
    update_step call (S.HeldEntry row at left) stood moves = still_step call (S.HeldEntry row at left) tt tt moves
    update_step call (S.HeldReply row at) stood moves = still_step call (S.HeldReply row at) tt tt moves
    update_step call (S.GiveBack reply) stood moves = still_step call (S.GiveBack reply) tt tt moves
    update_step call (S.Over ending) stood moves = still_step call (S.Over ending) tt tt moves
    update_step call (S.LowerPending ending) stood moves = still_step call (S.LowerPending ending) tt tt moves
    update_step call S.Stuck stood moves = still_step call S.Stuck tt tt moves

    seat_goes : (stand : Stand) → now.stand ≡ stand → IsFlying plan p stand →
        Moves plan h.at x (ticked (goes_on plan x p now stand)) → Legal plan range (ticked (goes_on plan x p now stand))
    seat_goes S.Idle e flies moves = absurd flies
    seat_goes (S.Goes call step) e flies moves = update_step call step e moves
    seat_goes (S.Glances aim glance) e flies moves =
        stays_legal plan range x (ticked (glances plan x p now aim glance)) h moves
        (quiet_words (glance_deed plan p now.time aim glance) x.store (quiet_glance plan p now.time aim glance)).0
        refl l

    call_first : (call : Call) → Moves plan h.at x (ticked (call_begins plan x p now call)) →
        Legal plan range (ticked (call_begins plan x p now call))
    call_first (Lookup key) moves = stays_legal plan range x _ h moves refl refl l
    call_first (Insert key value) moves = stays_legal plan range x _ h moves refl refl l
    call_first (Remove key) moves = stays_legal plan range x _ h moves refl refl l
    call_first (Tally key amount) moves = stays_legal plan range x _ h moves refl refl l
    call_first (Count key value amount) moves = stays_legal plan range x _ h moves refl refl l
    call_first (Put key value) moves = stays_legal plan range x _ h moves refl refl l

    pub seat_legal : (what : What) → Fits plan p now what → Moves plan h.at x (ticked (act plan x p now what)) →
        Legal plan range (ticked (act plan x p now what))
    seat_legal (Begin call) fits moves = call_first call moves
    seat_legal (Copy bucket) fits moves = stays_legal plan range x _ h moves refl refl l
    seat_legal Step_on fits moves = seat_goes now.stand refl fits moves

  reader_legal : (x : World) (h : Owned plan x) (r : ℕ) (peek : Peek) → Legal plan range x →
      Moves plan h.at x (happens plan x (OfReader r peek)) → Legal plan range (happens plan x (OfReader r peek))
  reader_legal x h r (Open aim tries) l moves = stays_legal plan range x _ h moves refl refl l
  reader_legal x h r Peek_on l moves = go (x.readers r).stand moves
    where
      go : (stand : S.Peeking) → Moves plan h.at x (ticked (peeks_on plan x r (x.readers r) stand)) →
          Legal plan range (ticked (peeks_on plan x r (x.readers r) stand))
      go S.Rests moves = stays_legal plan range x _ h moves refl refl l
      go (S.Peeks aim glance) moves = stays_legal plan range x _ h moves refl refl l

  -- an event keeps it
  pub legal_keep : (x : World) (h : Owned plan x) → Reads plan x → FoundOk plan x → Stored plan x → AreApt x →
      Legal plan range x → (event : Event) → IsEvent plan x event → Moves plan h.at x (happens plan x event) →
      Legal plan range (happens plan x event)
  legal_keep x h reads finds stored apt l (OfSeat p what) fits moves =
      subst (λ (c : Bool). Moves plan h.at x (cond c y x) → Legal plan range (cond c y x))
      (sym (lt-ltb p (holders_of plan.settings) fits.0))
      (seat_legal x h reads finds stored apt l p fits.0 what fits.1) moves
    where
      y : World
      y = ticked (act plan x p (seat_in x p) what)
  legal_keep x h reads finds stored apt l (OfReader r peek) fits moves = reader_legal x h r peek l moves

  -- a row of zeros is empty
  zeros : row_at plan (λ i. 0) ≡ record { items = []; entries = [] }
  zeros =
      row_stands plan is_plan (record { items = []; entries = [] })
      (record { items = omega arith; few = omega arith; entries = tt }) (λ i. 0) front
    where
      front : IsFront (row_words (record { items = []; entries = [] })) (λ i. 0)
      front zero less = refl
      front (suc i) less = absurd (omega (arith, less))

  pub legal_first : Legal plan range (opening_world plan)
  unfolding opening_store IsDistinct
  legal_first = record {
    legal = tt;
    held = λ b less. subst (λ (k : Row). HoldsPart (rules_of plan) b plan.settings.depth k.items empty) (sym zeros)
        (record { distinct = tt; inside = λ key held e. cc; same = λ key e. sym (get-empty key_cmp key) });
  }

  -- so in a run in which it is so at each moment
  abbrev pub AreAlwaysApt : World → List Event → Type 0
  AreAlwaysApt x [] = AreApt x
  AreAlwaysApt x (event ∷ events) = AreApt x × AreAlwaysApt (happens plan x event) events

  -- THE RESULT
  pub legal_follow : (events : List Event) (x : World) → Owned plan x → Reads plan x → FoundOk plan x → Stored plan x →
      Legal plan range x → AreEvents plan x events → AreAlwaysApt x events →
      Legal plan range (fold (happens plan) x events)
  legal_follow [] x h reads finds stored l follow apt = l
  legal_follow (event ∷ events) x h reads finds stored l follow apt =
      let k = event_keeps plan is_plan x h event follow.0 in
      legal_follow events (happens plan x event) k.owned (reads_keep plan is_plan x h reads event follow.0 k.moves)
      (found_keep plan x h finds event follow.0) (stored_keep plan is_plan x h stored event follow.0)
      (legal_keep x h reads finds stored apt.0 l event follow.0 k.moves) follow.1 apt.1
