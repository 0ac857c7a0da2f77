-- A bucket has no more generations behind it than there were updates: so with 10^12 updates none is spent.
use Rattle.std.proofs.Common.{◌≡◌, ◌≢◌, ℕ, ◌+◌, ◌-◌, ◌^◌, ◌<◌, ◌≤◌, inl, inr, Bool, true, false, cond, List, [], ◌∷◌, ◌++◌, Option, Some, None, refl, sym, ap, ◌∙◌, subst, arith, lt-ltb, get_or-set_same, get_or-set_other, true≢false}
use Rattle.std.specs.Prelude.{◌==◌, nat_lt, fold}
use Rattle.std.proofs.lemmas.Bool.{cases_lt, ne_eqb}
use Rattle.std.proofs.lemmas.List.Elements.{All-weaker}
use Rattle.std.proofs.Math.Nat.{pow-le-pow_right}
use Rattle.plain_map.specs.declared.calls.Call.{Call}
use Rattle.plain_map.specs.declared.calls.Call.TheVariants.{Insert, Remove, Lookup, Tally, Count, Put}
use Rattle.plain_map.specs.declared.calls.Reply.{Reply}
use Rattle.plain_map.specs.Calls.{key_in}
use Rattle.exchange_model.specs.Plans.{Plan, IsPlan, holders_of, buckets_of, born_row}
use Rattle.exchange_model.specs.Codes.{tag, generation_in, row_in, born_word, last_generation, is_spent}
use Rattle.exchange_model.specs.Laws.{FoundSpent, NoneIsSpent, all_answered}
use Rattle.exchange_model.specs.Words as W
use Rattle.exchange_model.specs.Words.{with_word}
use Rattle.exchange_model.specs.Steps as S
use Rattle.exchange_model.specs.Steps.{MadeBySeat, SeatNow, Step, Stand, Found, Try, Ending, Aim, OfKey, OfBucket, Glance, Course, deed_of, glance_deed, bucket_of_call, next_tag}
use Rattle.exchange_model.specs.Goes.{ScanFate, ScansOn, Scanned, scanned, scan_fate_of, seats_from, scan_begins, Fate, On, Ends, Spends, Refuses, first_fate, is_announced, exchanged, lost, ends_with, ended, reply_for, fate, own_after, GlanceFate, Looks, Shows, Disturbed, glance_fate, Spent}
use Rattle.exchange_model.specs.Worlds.{World, Answer, Event, OfSeat, OfReader, IsEvent, AreEvents, What, Begin, Copy, Step_on, IsFlying, Fits, IsRun, seat_in, with_seat, ticked, found_by, store_after, stepped, seat_after, answers_after, goes, glances, look_after, look_answers, look_begins, update_begins, call_begins, goes_on, act, peeks_on, stand_at, course_from, happens, nobody, opening_world, opening_store, world_after, Peek, Open, Peek_on}
use Rattle.exchange_laws.proofs.Places.{either_put}
use Rattle.exchange_laws.proofs.Words.{bucket_small, generation_of_tag, rows_few}
use Rattle.exchange_laws.proofs.Owned.{Owned, Place}
use Rattle.exchange_laws.proofs.OwnedSteps.{IsStill, quiet_words, quiet_step, quiet_glance}
use Rattle.exchange_laws.proofs.OwnedMoves.{Moves, Stays, Stores, Exchanges}
use Rattle.exchange_laws.proofs.OwnedEvents.{event_keeps}
use Rattle.exchange_laws.proofs.OwnedRuns.{opening_owned}
use Rattle.exchange_laws.proofs.SeatSums.{sum_from, sum_changed, sum_same, sum_more}
use Rattle.exchange_laws.proofs.SpentBuckets.{spent_is_found, spent_stays}

-- ---- what is said

-- whether an announced op was applied
abbrev pub was_applied : Ending → ℕ
was_applied (S.Applied reply) = 1
was_applied S.GivenUp = 0

-- whether a seat that stands here may have exchanged a word for its call under way
abbrev pub exchanged_at : Step → ℕ
exchanged_at (S.Over ending) = was_applied ending
exchanged_at (S.LowerPending ending) = was_applied ending
exchanged_at S.Stuck = 1
exchanged_at step = 0

abbrev pub has_exchanged : Stand → ℕ
has_exchanged S.Idle = 0
has_exchanged (S.Goes call step) = exchanged_at step
has_exchanged (S.Glances aim glance) = 0

-- the updates that a seat was answered, and the one under way if it may have exchanged a word
abbrev pub so_many : SeatNow → ℕ
so_many now = now.answered + has_exchanged now.stand

module _ (plan : Plan) where
  abbrev of_seat : World → ℕ → ℕ
  of_seat x q = so_many (seat_in x q)

  -- so many exchanges have happened: no more than updates were answered, and calls under way have exchanged
  pub record Few (x : World) : Type 0 where
    pub many : ℕ
    pub low : (b : ℕ) → b < buckets_of plan.settings → generation_in plan (x.store.bucket b) ≤ 1 + many
    pub sum : many ≤ sum_from (of_seat x) 0 plan.settings.seats

  -- ---- where a step leads, and how many exchanges it has made

  abbrev Leads : (was inc : ℕ) → Fate → Type 0
  Leads was inc (On step) = was + inc ≤ exchanged_at step
  Leads was inc (Ends reply) = was + inc ≤ 1
  Leads was inc Spends = was + inc ≤ 0
  Leads was inc Refuses = was + inc ≤ 0

  none_leads : (f : Fate) → Leads 0 0 f
  none_leads (On step) = omega arith
  none_leads (Ends reply) = omega arith
  none_leads Spends = omega arith
  none_leads Refuses = omega arith

  ends_leads : (announced : Bool) (reply : Option Reply) → Leads 0 1 (ends_with announced reply)
  ends_leads true None = omega arith
  ends_leads false None = omega arith
  ends_leads true (Some reply) = omega arith
  ends_leads false (Some reply) = omega arith

  over_leads : (ending : Ending) → Leads (was_applied ending) 0 (ended ending)
  over_leads (S.Applied reply) = omega arith
  over_leads S.GivenUp = omega arith

  -- one update more is answered where a call ends that exchanged
  counted : (call : Call) (f : Fate) (was inc : ℕ) → Leads was inc f → (own : SeatNow) →
      own.answered + was + inc ≤ so_many (seat_after own call f)
  counted call (On step) was inc k own = omega (arith, k)
  counted call (Ends reply) was inc k own = omega (arith, k)
  counted call Spends was inc k own = omega (arith, k)
  counted call Refuses was inc k own = omega (arith, k)

  -- ---- an exchange is to the next generation

  pub one_higher : IsPlan plan → (at : ℕ → Place) (x y : World) (b : ℕ) → Moves plan at x y →
      generation_in plan (y.store.bucket b) ≤ generation_in plan (x.store.bucket b) + 1
  one_higher is at x y b (Stays e r) =
      (let same = ap (λ (f : ℕ → ℕ). generation_in plan (f b)) e in omega (arith, same))
  one_higher is at x y b (Stores p row i v inside mine there e r) =
      (let same = ap (λ (f : ℕ → ℕ). generation_in plan (f b)) e in omega (arith, same))
  one_higher is at x y b (Exchanges p c row inside mine low small e r) =
      let few = rows_few plan is in
      let same = ap (λ (f : ℕ → ℕ). generation_in plan (f b)) e in
      elim (either_put x.store.bucket c (tag plan (generation_in plan (x.store.bucket c) + 1) row) b) [
        | inl z ↦
            let is_now = ap (generation_in plan) z.1 in
            let told =
            generation_of_tag plan (generation_in plan (x.store.bucket c) + 1) row (omega (arith, low, few)) in
            let was = ap (λ k. generation_in plan (x.store.bucket k)) z.0 in omega (arith, same, is_now, told, was)
        | inr z ↦ (let is_now = ap (generation_in plan) z.1 in omega (arith, same, is_now))
      ]

  -- ---- a seat counts an update where it ends, and nowhere else

  scanned_counts : (now : SeatNow) (f : ScanFate) → (scanned now f).answered ≡ now.answered
  scanned_counts now (ScansOn scan) = refl
  scanned_counts now (Scanned left held) = refl

  first_counts : (p : ℕ) (free : List ℕ) (now : SeatNow) → (scan_begins plan p free now).answered ≡ now.answered
  first_counts p [] now = scanned_counts (record now { kept = [] }) (seats_from plan p 0 now.kept [])
  first_counts p (row ∷ free) now = refl

  own_counts : (p : ℕ) (now : SeatNow) (call : Call) (step : Step) (w : ℕ) →
      (own_after plan p now call step w).answered ≡ now.answered
  own_counts p now call S.Scans w = scanned_counts now (scan_fate_of plan p now.scan w)
  own_counts p now call (S.Exchange t found) w = go (w == t.word)
    where
      go : (c : Bool) → (cond c (exchanged now (row_in plan t.word)) now).answered ≡ now.answered
      go true = refl
      go false = refl
  own_counts p now call (S.LoadWord turn) w = refl
  own_counts p now call (S.LoadRow turn old words) w = refl
  own_counts p now call (S.CheckWord turn old words) w = refl
  own_counts p now call (S.LoadPending t) w = refl
  own_counts p now call (S.LoadAnnounced t found) w = refl
  own_counts p now call (S.LoadOp t found announced words) w = refl
  own_counts p now call (S.StoreRow t found i) w = refl
  own_counts p now call S.RaisePending w = refl
  own_counts p now call (S.StoreOp i) w = refl
  own_counts p now call S.Announce w = refl
  own_counts p now call S.StoreWant w = refl
  own_counts p now call S.StoreAsking w = refl
  own_counts p now call S.HeldWord w = refl
  own_counts p now call (S.TakeHold old) w = refl
  own_counts p now call (S.HeldHead row) w = refl
  own_counts p now call (S.HeldEntry row at left) w = refl
  own_counts p now call (S.HeldReply row at) w = refl
  own_counts p now call (S.GiveBack reply) w = refl
  own_counts p now call (S.Over ending) w = refl
  own_counts p now call (S.LowerPending ending) w = refl
  own_counts p now call S.Stuck w = refl

  module _ (is_plan : IsPlan plan) (x : World) (h : Owned plan x) (c : Few x) (p : ℕ)
      (inside : p < holders_of plan.settings) where
    abbrev now : SeatNow
    now = seat_in x p

    next : (store : W.Store) (then : SeatNow) (answers : List Answer) (updates : List MadeBySeat) (inc : ℕ) →
        ((b : ℕ) → generation_in plan (store.bucket b) ≤ generation_in plan (x.store.bucket b) + inc) →
        so_many now + inc ≤ so_many then → (plan.settings.seats ≤ p → inc ≡ 0) →
        Few (ticked (with_seat x p store then answers updates))
    next store then answers updates inc higher more past = record {
      many = c.many + inc;
      low = λ b less. (let was = c.low b less in let up = higher b in omega (arith, was, up));
      sum = elim (cases_lt p plan.settings.seats) [
        | inl less ↦
            let sums = sum_changed (of_seat y) (of_seat x) p 0 plan.settings.seats (omega arith)
            (omega (arith, less)) (λ q n. ap so_many (other q n)) in
            let own = ap so_many mine in
            omega (arith, sums, own, more, c.sum)
        | inr late ↦
            let same = sum_same (of_seat y) (of_seat x) 0 plan.settings.seats
            (λ q low high. ap so_many (other q (λ e. omega (arith, e, high, late)))) in
            let none = past late in omega (arith, same, none, c.sum)
      ];
    }
      where
        y : World
        y = ticked (with_seat x p store then answers updates)

        mine : seat_in y p ≡ then
        mine = get_or-set_same x.seats p then nobody (let long = h.long in omega (arith, inside, long))

        other : (q : ℕ) → q ≢ p → seat_in y q ≡ seat_in x q
        other q n = get_or-set_other x.seats p q then nobody n

    -- a step that exchanges nothing
    still_step : (call : Call) (step : Step) → now.stand ≡ S.Goes call step →
        ((b : ℕ) → (store_after (deed_of plan p now call step) x.store).bucket b ≡ x.store.bucket b) →
        ((w : ℕ) → Leads (exchanged_at step) 0 (fate plan p now call step w)) →
        Few (ticked (goes plan x p now call step))
    still_step call step stood same leads =
        let deed = deed_of plan p now call step in
        let w = found_by deed x.store in
        let own = own_after plan p now call step w in
        let f = fate plan p now call step w in
        let at = ap has_exchanged stood in
        let counts = own_counts p now call step w in
        let more = counted call f (exchanged_at step) 0 (leads w) own in
        next (store_after deed x.store) (seat_after own call f) (answers_after x p call (stepped now.course) f) _ 0
        (λ b. (let e = ap (generation_in plan) (same b) in omega (arith, e))) (omega (arith, at, counts, more))
        (λ _. refl)

    quiet_bucket : (call : Call) (step : Step) → IsStill step → (b : ℕ) →
        (store_after (deed_of plan p now call step) x.store).bucket b ≡ x.store.bucket b
    quiet_bucket call step still b i =
        (quiet_words (deed_of plan p now call step) x.store (quiet_step plan p now call step still)).0 i b

    plain_step : (call : Call) (step : Step) → now.stand ≡ S.Goes call step → IsStill step →
        ((w : ℕ) → Leads (exchanged_at step) 0 (fate plan p now call step w)) →
        Few (ticked (goes plan x p now call step))
    plain_step call step e still leads = still_step call step e (quiet_bucket call step still) leads

    exchange_step : (call : Call) (t : Try) (found : List Found) → p < plan.settings.seats →
        now.stand ≡ S.Goes call (S.Exchange t found) →
        Moves plan h.at x (ticked (goes plan x p now call (S.Exchange t found))) →
        Few (ticked (goes plan x p now call (S.Exchange t found)))
    exchange_step call t found seat stood moves = go (x.store.bucket b == t.word) moves
      where
        b : ℕ
        b = bucket_of_call plan call

        won : Fate
        won = ends_with (is_announced t.turn) (reply_for p (S.made plan t found).made)

        after : Bool → World
        after c =
            let f = cond c won (lost t.turn) in
            ticked (with_seat x p (cond c (with_word x.store (W.Bucket b) (next_tag plan now t.word)) x.store)
            (seat_after (cond c (exchanged now (row_in plan t.word)) now) call f)
            (answers_after x p call (stepped now.course) f) (x.made ++ cond c (S.made plan t found).made []))

        at : has_exchanged now.stand ≡ 0
        at = ap has_exchanged stood

        go : (c : Bool) → Moves plan h.at x (after c) → Few (after c)
        go true moves =
            let own = exchanged now (row_in plan t.word) in
            let leads = ends_leads (is_announced t.turn) (reply_for p (S.made plan t found).made) in
            let more = counted call won 0 1 leads own in
            next (with_word x.store (W.Bucket b) (next_tag plan now t.word)) (seat_after own call won)
            (answers_after x p call (stepped now.course) won) (x.made ++ (S.made plan t found).made) 1
            (λ a. one_higher is_plan h.at x (after true) a moves) (omega (arith, at, more))
            (λ late. absurd (omega (arith, late, seat)))
        go false moves =
            let f = lost t.turn in
            let more = counted call f 0 0 (none_leads f) now in
            next x.store (seat_after now call f) (answers_after x p call (stepped now.course) f) (x.made ++ []) 0
            (λ a. omega arith) (omega (arith, at, more)) (λ _. refl)

    update_step : (call : Call) (step : Step) → p < plan.settings.seats → now.stand ≡ S.Goes call step →
        Moves plan h.at x (ticked (goes plan x p now call step)) → Few (ticked (goes plan x p now call step))
    update_step call (S.Exchange t found) seat e moves = exchange_step call t found seat e moves
    update_step call (S.StoreRow t found i) seat e moves =
        still_step call (S.StoreRow t found i) e (λ b. refl)
        (λ w. none_leads (fate plan p now call (S.StoreRow t found i) w))
    update_step call (S.Over ending) seat e moves =
        still_step call (S.Over ending) e (λ b. refl) (λ w. omega arith)
    update_step call (S.LowerPending ending) seat e moves =
        still_step call (S.LowerPending ending) e (λ b. refl) (λ w. over_leads ending)
    update_step call S.Stuck seat e moves = still_step call S.Stuck e (λ b. refl) (λ w. omega arith)
    update_step call S.Scans seat e moves = plain_step call S.Scans e tt
        (λ w. none_leads (fate plan p now call S.Scans w))
    update_step call (S.LoadWord turn) seat e moves = plain_step call (S.LoadWord turn) e tt
        (λ w. none_leads (fate plan p now call (S.LoadWord turn) w))
    update_step call (S.LoadRow turn word words) seat e moves = plain_step call (S.LoadRow turn word words) e tt
        (λ w. none_leads (fate plan p now call (S.LoadRow turn word words) w))
    update_step call (S.CheckWord turn word words) seat e moves = plain_step call (S.CheckWord turn word words) e tt
        (λ w. none_leads (fate plan p now call (S.CheckWord turn word words) w))
    update_step call (S.LoadPending t) seat e moves = plain_step call (S.LoadPending t) e tt
        (λ w. none_leads (fate plan p now call (S.LoadPending t) w))
    update_step call (S.LoadAnnounced t found) seat e moves = plain_step call (S.LoadAnnounced t found) e tt
        (λ w. none_leads (fate plan p now call (S.LoadAnnounced t found) w))
    update_step call (S.LoadOp t found announced words) seat e moves = plain_step call
        (S.LoadOp t found announced words) e tt
        (λ w. none_leads (fate plan p now call (S.LoadOp t found announced words) w))
    update_step call S.RaisePending seat e moves = plain_step call S.RaisePending e tt
        (λ w. none_leads (fate plan p now call S.RaisePending w))
    update_step call (S.StoreOp i) seat e moves = plain_step call (S.StoreOp i) e tt
        (λ w. none_leads (fate plan p now call (S.StoreOp i) w))
    update_step call S.Announce seat e moves = plain_step call S.Announce e tt
        (λ w. none_leads (fate plan p now call S.Announce w))
    update_step call S.StoreWant seat e moves = plain_step call S.StoreWant e tt
        (λ w. none_leads (fate plan p now call S.StoreWant w))
    update_step call S.StoreAsking seat e moves = plain_step call S.StoreAsking e tt
        (λ w. none_leads (fate plan p now call S.StoreAsking w))
    update_step call S.HeldWord seat e moves = plain_step call S.HeldWord e tt
        (λ w. none_leads (fate plan p now call S.HeldWord w))
    update_step call (S.TakeHold word) seat e moves = plain_step call (S.TakeHold word) e tt
        (λ w. none_leads (fate plan p now call (S.TakeHold word) w))
    update_step call (S.HeldHead row) seat e moves = plain_step call (S.HeldHead row) e tt
        (λ w. none_leads (fate plan p now call (S.HeldHead row) w))
    update_step call (S.HeldEntry row at left) seat e moves = plain_step call (S.HeldEntry row at left) e tt
        (λ w. none_leads (fate plan p now call (S.HeldEntry row at left) w))
    update_step call (S.HeldReply row at) seat e moves = plain_step call (S.HeldReply row at) e tt
        (λ w. none_leads (fate plan p now call (S.HeldReply row at) w))
    update_step call (S.GiveBack reply) seat e moves = plain_step call (S.GiveBack reply) e tt
        (λ w. none_leads (fate plan p now call (S.GiveBack reply) w))

    -- ---- looks, and begins

    look_step : (aim : Aim) (glance : Glance) → now.stand ≡ S.Glances aim glance →
        Few (ticked (glances plan x p now aim glance))
    look_step aim glance stood =
        let deed = glance_deed plan p now.time aim glance in
        let f = glance_fate plan now.time aim glance (found_by deed x.store) in
        let at = ap has_exchanged stood in
        let counts = look_counts glance f in
        next (store_after deed x.store) (look_after now aim glance f) (look_answers plan x p aim (stepped now.course) f)
        x.made 0
        (λ b. (let same = ap (λ (g : ℕ → ℕ). generation_in plan (g b))
        (quiet_words deed x.store (quiet_glance plan p now.time aim glance)).0 in omega (arith, same)))
        (omega (arith, at, counts)) (λ _. refl)
      where
        look_counts : (was : Glance) (f : GlanceFate) → so_many (look_after now aim was f) ≡ now.answered
        look_counts was (Looks next) = omega arith
        look_counts was (Shows items) = omega arith
        look_counts was Disturbed = omega arith

    look_first : (aim : Aim) → now.stand ≡ S.Idle → Few (ticked (look_begins x p now aim))
    look_first aim stood =
        (let at = ap has_exchanged stood in
        next x.store _ x.answers x.made 0 (λ b. omega arith) (omega (arith, at)) (λ _. refl))

    update_first : (call : Call) → now.stand ≡ S.Idle → Few (ticked (update_begins plan x p now call))
    update_first call stood =
        let taken = scan_begins plan p now.free now in
        let f = first_fate taken.free taken.scan in
        let at = ap has_exchanged stood in
        let counts = first_counts p now.free now in
        next x.store (record taken { stand = stand_at call f; course = course_from x.clock })
        (answers_after x p call (course_from x.clock) f) x.made 0 (λ b. omega arith)
        (omega (arith, at, counts)) (λ _. refl)

    call_first : (call : Call) → now.stand ≡ S.Idle → Few (ticked (call_begins plan x p now call))
    call_first (Lookup key) e = look_first (OfKey key) e
    call_first (Insert key value) e = update_first (Insert key value) e
    call_first (Remove key) e = update_first (Remove key) e
    call_first (Tally key amount) e = update_first (Tally key amount) e
    call_first (Count key value amount) e = update_first (Count key value amount) e
    call_first (Put key value) e = update_first (Put key value) e

    seat_goes : (stand : Stand) → now.stand ≡ stand → IsFlying plan p stand →
        Moves plan h.at x (ticked (goes_on plan x p now stand)) → Few (ticked (goes_on plan x p now stand))
    seat_goes S.Idle e flies moves = absurd flies
    seat_goes (S.Goes call step) e flies moves = update_step call step flies e moves
    seat_goes (S.Glances aim glance) e flies moves = look_step aim glance e

    seat_few : (what : What) → Fits plan p now what → Moves plan h.at x (ticked (act plan x p now what)) →
        Few (ticked (act plan x p now what))
    seat_few (Begin call) fits moves = call_first call fits.0
    seat_few (Copy bucket) fits moves = look_first (OfBucket bucket) fits.0
    seat_few Step_on fits moves = seat_goes now.stand refl fits moves

  -- ---- runs

  -- a reader that cannot hold exchanges nothing
  reader_few : (x : World) (r : ℕ) (peek : Peek) → Few x → Few (happens plan x (OfReader r peek))
  reader_few x r peek c = go peek
    where
      go : (peek : Peek) → Few (happens plan x (OfReader r peek))
      go (Open aim tries) = record { many = c.many; low = c.low; sum = c.sum }
      go Peek_on = by_stand (x.readers r).stand
        where
          by_stand : (stand : S.Peeking) → Few (ticked (peeks_on plan x r (x.readers r) stand))
          by_stand S.Rests = record { many = c.many; low = c.low; sum = c.sum }
          by_stand (S.Peeks aim glance) = record { many = c.many; low = c.low; sum = c.sum }

  pub few_keep : (is_plan : IsPlan plan) (x : World) (h : Owned plan x) → Few x → (event : Event) →
      IsEvent plan x event → Moves plan h.at x (happens plan x event) → Few (happens plan x event)
  few_keep is_plan x h c (OfSeat p what) fits moves =
      subst (λ (b : Bool). Moves plan h.at x (cond b y x) → Few (cond b y x))
      (sym (lt-ltb p (holders_of plan.settings) fits.0)) (seat_few is_plan x h c p fits.0 what fits.1) moves
    where
      y : World
      y = ticked (act plan x p (seat_in x p) what)
  few_keep is_plan x h c (OfReader r peek) fits moves = reader_few x r peek c

  first_low : (is : IsPlan plan) (b : ℕ) → b < buckets_of plan.settings →
      generation_in plan ((opening_world plan).store.bucket b) ≤ 1
  unfolding opening_store
  first_low is b less =
      let word : cond (nat_lt b (buckets_of plan.settings)) (born_word plan b) 0 ≡ born_word plan b =
      ap (λ (c : Bool). cond c (born_word plan b) 0) (lt-ltb b (buckets_of plan.settings) less) in
      let told = generation_of_tag plan 1 (born_row plan b) (let few = rows_few plan is in omega (arith, less, few)) in
      let is_one = ap (generation_in plan) word in omega (arith, is_one, told)

  pub few_first : IsPlan plan → Few (opening_world plan)
  few_first is = record {
    many = 0;
    low = λ b less. first_low is b less;
    sum = omega arith;
  }

  pub few_follow : (is : IsPlan plan) (events : List Event) (x : World) → Owned plan x → Few x →
      AreEvents plan x events → Few (fold (happens plan) x events)
  few_follow is [] x h c follow = c
  few_follow is (event ∷ events) x h c follow =
      let k = event_keeps plan is x h event follow.0 in
      few_follow is events (happens plan x event) k.owned (few_keep is x h c event follow.0 k.moves) follow.1

  -- a seat has one call under way at most
  one_at_most : (stand : Stand) → has_exchanged stand ≤ 1
  one_at_most stand = go stand
    where
      by_ending : (ending : Ending) → was_applied ending ≤ 1
      by_ending (S.Applied reply) = omega arith
      by_ending S.GivenUp = omega arith

      by_step : (step : Step) → exchanged_at step ≤ 1
      by_step (S.Over ending) = by_ending ending
      by_step (S.LowerPending ending) = by_ending ending
      by_step S.Stuck = omega arith
      by_step S.Scans = omega arith
      by_step (S.LoadWord turn) = omega arith
      by_step (S.LoadRow turn word words) = omega arith
      by_step (S.CheckWord turn word words) = omega arith
      by_step (S.LoadPending t) = omega arith
      by_step (S.LoadAnnounced t found) = omega arith
      by_step (S.LoadOp t found announced words) = omega arith
      by_step (S.StoreRow t found i) = omega arith
      by_step (S.Exchange t found) = omega arith
      by_step S.RaisePending = omega arith
      by_step (S.StoreOp i) = omega arith
      by_step S.Announce = omega arith
      by_step S.StoreWant = omega arith
      by_step S.StoreAsking = omega arith
      by_step S.HeldWord = omega arith
      by_step (S.TakeHold word) = omega arith
      by_step (S.HeldHead row) = omega arith
      by_step (S.HeldEntry row at left) = omega arith
      by_step (S.HeldReply row at) = omega arith
      by_step (S.GiveBack reply) = omega arith

      go : (stand : Stand) → has_exchanged stand ≤ 1
      go S.Idle = omega arith
      go (S.Goes call step) = by_step step
      go (S.Glances aim glance) = omega arith

-- a bucket's generation is no more than the updates that were answered, one for each seat, and one
pub generations_few : (plan : Plan) (events : List Event) (b : ℕ) → IsRun plan events → b < buckets_of plan.settings →
    generation_in plan ((world_after plan events).store.bucket b)
    ≤ 1 + all_answered plan (world_after plan events) + plan.settings.seats
generations_few plan events b run less =
    let x = world_after plan events in
    let c = few_follow plan run.opened events (opening_world plan) (opening_owned plan run.opened)
    (few_first plan run.opened) run.follow in
    let low = c.low b less in
    let most = sum_more (of_seat plan x) (λ q. (seat_in x q).answered) 0 plan.settings.seats
    (λ q. (let one = one_at_most plan (seat_in x q).stand in omega (arith, one))) in
    omega (arith, low, c.sum, most)

-- there are so many generations at least
last_high : (plan : Plan) → IsPlan plan → 2 ^ 43 ≤ last_generation plan + 1
last_high plan is =
    let bits : 43 ≤ 64 - plan.row_bits = omega (arith, is.bits) in
    let high : 2 ^ 43 ≤ 2 ^ (64 - plan.row_bits) = pow-le-pow_right {n = 2} (omega arith) bits in
    omega (arith, high)

-- with 10^12 updates no bucket is spent
pub none_spent : (plan : Plan) (events : List Event) (b : ℕ) → IsRun plan events →
    all_answered plan (world_after plan events) ≤ 10 ^ 12 → b < buckets_of plan.settings →
    is_spent plan ((world_after plan events).store.bucket b) ≡ false
none_spent plan events b run few less =
    let low = generations_few plan events b run less in
    let high = last_high plan run.opened in
    let seats = run.opened.seats in
    ne_eqb (generation_in plan ((world_after plan events).store.bucket b)) (last_generation plan)
    (λ e. omega (arith, e, low, few, high, seats))

-- THE RESULT: so none is told that its bucket is. A bucket that was spent once would be so still
pub none_is_spent : NoneIsSpent
none_is_spent plan events run few =
    All-weaker (λ (a : Answer). a.told ≡ Spent → FoundSpent plan events a) (λ (a : Answer). a.told ≢ Spent)
    (λ a found told. not_spent a (found told)) (world_after plan events).answers (spent_is_found plan events run)
  where
    not_spent : (a : Answer) → FoundSpent plan events a → ⊥
    not_spent a f =
        let b = bucket_of_call plan f.call in
        let less = bucket_small plan run.opened (key_in f.call) in
        let stays : (world_after plan events).store.bucket b ≡ (world_after plan f.front).store.bucket b =
        subst (λ (es : List Event). (world_after plan es).store.bucket b ≡ (world_after plan f.front).store.bucket b)
        (sym f.cut)
        (spent_stays plan f.front f.back b (subst (IsRun plan) f.cut run) less f.spent) in
        true≢false (sym f.spent ∙ ap (is_spent plan) (sym stays) ∙ none_spent plan events b run few less)
