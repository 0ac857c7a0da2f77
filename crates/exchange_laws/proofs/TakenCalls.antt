-- An op that a try has found due is the call that its seat has under way, as long as the bucket has the word of the
-- try.
use Rattle.std.proofs.Common.{◌≡◌, ℕ, zero, suc, ◌+◌, ◌-◌, ◌<◌, ◌≤◌, Bool, true, false, cond, List, [], ◌∷◌, ◌++◌, length, Option, Some, None, refl, sym, ap, ◌∙◌, subst, arith}
use Rattle.std.specs.Prelude.{◌==◌, nat_lt}
use Rattle.std.proofs.lemmas.Bool.{cond_both, eqb-true, ltb-false}
use Rattle.plain_map.specs.declared.calls.Call.{Call}
use Rattle.plain_map.specs.declared.calls.Reply.{Reply}
use Rattle.plain_map.specs.Calls.{key_in}
use Rattle.word_rows.specs.ReplyWords.{reply_of_word}
use Rattle.bucket_states.specs.Items.{reply_in}
use Rattle.exchange_model.specs.Plans.{rules_of, Plan, IsPlan, buckets_of, more}
use Rattle.exchange_model.specs.Codes.{is_spent, last_generation, SLOT_WORDS, ENTRY_WORDS, Entry, generation_in, row_of_words, length_by, count_in, entries_in, entries_start, number_in}
use Rattle.exchange_model.specs.Steps as S
use Rattle.exchange_model.specs.Steps.{Step, Stand, SeatNow, Found, NoOp, Keeps, Takes, Makes, Try, deed_of, bucket_of_call, new_words, SOLO_TRIES, ALL_TRIES}
use Rattle.exchange_model.specs.Goes.{ScanFate, ScansOn, Scanned, scan_fate_of, Fate, On, Ends, Spends, Refuses, with_free, after_scan, gives_up, gives_back, ended, unless_spent, is_quiet, share_of, found_alone, is_announced, lost, ends_with, own_op, found_so_far, by_entry, looked, is_here, entry_for, entry_word, after_entry, op_in, reply_for, next_entry, fate}
use Rattle.exchange_model.specs.Worlds.{World, seat_in, found_by}
use Rattle.exchange_laws.proofs.Words.{bucket_small}
use Rattle.exchange_laws.proofs.Owned.{Owned}
use Rattle.exchange_laws.proofs.OwnedMoves.{Moves}
use Rattle.exchange_laws.proofs.TrueReads.{ReadsStep, ReadsAt, stood_still}
use Rattle.exchange_laws.proofs.FoundOps.{FoundAt}
use Rattle.exchange_laws.proofs.Announcing as A
use Rattle.exchange_laws.proofs.Announcing.{State}
use Rattle.exchange_laws.proofs.FoundAlone.{next_alone}
use Rattle.exchange_laws.proofs.Announcements.{Tells, TellsStep, Announces}
use Rattle.exchange_laws.proofs.Entries.{One, Match}
use Rattle.exchange_laws.proofs.OpTells.{IsOf}
use Rattle.exchange_laws.proofs.Tied.{Tied, TryIs, TryStep, TryAt}
use Rattle.exchange_laws.proofs.TiedTries.{its, call_is}

-- the update that a seat has under way
abbrev pub call_under : Stand → Option Call
call_under S.Idle = None
call_under (S.Goes call step) = Some call
call_under (S.Glances aim glance) = None

-- of all seats
abbrev pub calls_in : World → (k : ℕ) → Option Call
calls_in x k = call_under (seat_in x k).stand

pub of_call : (stand : Stand) (call : Call) → IsOf stand call → call_under stand ≡ Some call
of_call S.Idle call is = absurd is
of_call (S.Goes own step) call is = ap Some is
of_call (S.Glances aim glance) call is = absurd is

abbrev pub Calls : (calls : ℕ → Option Call) (k : ℕ) → Found → Type 0
Calls calls k NoOp = Unit {0}
Calls calls k (Keeps entry) = Unit {0}
Calls calls k (Takes op) = calls k ≡ Some op.call
Calls calls k (Makes call) = Unit {0}

abbrev pub AreCalls : (calls : ℕ → Option Call) (k : ℕ) → List Found → Type 0
AreCalls calls k [] = Unit {0}
AreCalls calls k (f ∷ later) = Calls calls k f × AreCalls calls (suc k) later

calls_more : (calls : ℕ → Option Call) (k : ℕ) (found : List Found) (f : Found) → AreCalls calls k found →
    Calls calls (k + length found) f → AreCalls calls k (more found f)
calls_more calls k [] f all one = (subst (λ j. Calls calls j f) (omega arith) one, tt)
calls_more calls k (d ∷ found) f all one =
    (all.0, calls_more calls (suc k) found f all.1 (subst (λ j. Calls calls j f) (omega arith) one))

-- as long as the bucket has the word of the try
abbrev pub CallsStep : (calls : ℕ → Option Call) (bucket : ℕ → ℕ) (b : ℕ) → Step → Type 0
CallsStep calls bucket b (S.LoadAnnounced t found) = bucket b ≡ t.word → AreCalls calls 0 found
CallsStep calls bucket b (S.LoadOp t found announced words) = bucket b ≡ t.word → AreCalls calls 0 found
CallsStep calls bucket b (S.StoreRow t found i) = bucket b ≡ t.word → AreCalls calls 0 found
CallsStep calls bucket b (S.Exchange t found) = bucket b ≡ t.word → AreCalls calls 0 found
CallsStep calls bucket b step = Unit {0}

abbrev pub CallsFate : (calls : ℕ → Option Call) (bucket : ℕ → ℕ) (b : ℕ) → Fate → Type 0
CallsFate calls bucket b (On step) = CallsStep calls bucket b step
CallsFate calls bucket b (Ends reply) = Unit {0}
CallsFate calls bucket b Spends = Unit {0}
CallsFate calls bucket b Refuses = Unit {0}

-- a try that is lost, or that ends, has found nothing any more
pub calls_ended : (calls : ℕ → Option Call) (bucket : ℕ → ℕ) (b : ℕ) (announced : Bool) (reply : Option Reply) →
    CallsFate calls bucket b (ends_with announced reply)
calls_ended calls bucket b true None = tt
calls_ended calls bucket b false None = tt
calls_ended calls bucket b true (Some reply) = tt
calls_ended calls bucket b false (Some reply) = tt

pub calls_lost : (calls : ℕ → Option Call) (bucket : ℕ → ℕ) (b turn : ℕ) → CallsFate calls bucket b (lost turn)
calls_lost calls bucket b turn =
    cond_both (turn == SOLO_TRIES) (On S.RaisePending)
    (cond (turn == ALL_TRIES) (On S.StoreWant) (On (S.LoadWord (turn + 1)))) (CallsFate calls bucket b) (λ _. tt)
    (λ _. cond_both (turn == ALL_TRIES) (On S.StoreWant) (On (S.LoadWord (turn + 1))) (CallsFate calls bucket b)
    (λ _. tt) (λ _. tt))

module _ (plan : Plan) where
  abbrev pub CallsAt : (calls : ℕ → Option Call) (bucket : ℕ → ℕ) → Stand → Type 0
  CallsAt calls bucket S.Idle = Unit {0}
  CallsAt calls bucket (S.Goes call step) = CallsStep calls bucket (bucket_of_call plan call) step
  CallsAt calls bucket (S.Glances aim glance) = Unit {0}

  pub record Taken (x : World) : Type 0 where
    pub each : (q : ℕ) → q < plan.settings.seats → CallsAt (calls_in x) x.store.bucket (seat_in x q).stand

  -- what a try has found is so as long as the word is the same
  pub sound_of : (x : World) (s : State) → Tied plan x s → (q b : ℕ) (t : Try) (found : List Found) (upto : ℕ) →
      b < buckets_of plan.settings → x.store.bucket b ≡ t.word → (i : TryIs plan s q b t found upto) →
      A.Sound plan.settings.seats (last_generation plan) s b (generation_in plan t.word) upto i.seen i.fs
  sound_of x s tied q b t found upto small same i =
      let was : A.Tries plan.settings.seats (last_generation plan) s
      (A.At b (generation_in plan t.word) upto i.seen i.fs) =
      subst (A.Tries plan.settings.seats (last_generation plan) s) i.is (tied.holds.tries q) in
      was.2 (tied.gens b small ∙ ap (generation_in plan) same)

  -- ---- the other seats

  module _ (is_plan : IsPlan plan) (x y : World) (h : Owned plan x) (moves : Moves plan h.at x y) (s z : State)
      (tied : Tied plan x s) (then : Tied plan y z)
      (still : (k : ℕ) → k < plan.settings.seats → s.pending k ≡ true → z.pending k ≡ true →
      calls_in y k ≡ calls_in x k)
      (q : ℕ) (call : Call) where
    abbrev b : ℕ
    b = bucket_of_call plan call

    small : b < buckets_of plan.settings
    small = bucket_small plan is_plan (key_in call)

    both : (k upto : ℕ) (found : List Found) (sx sy : ℕ → ℕ) (fx fy : ℕ → A.Found) → Match plan b sx fx k found →
        Match plan b sy fy k found → k + length found ≤ upto → upto ≤ plan.settings.seats →
        ((j n : ℕ) → j < upto → fx j ≡ A.Take n → s.pending j ≡ true) →
        ((j n : ℕ) → j < upto → fy j ≡ A.Take n → z.pending j ≡ true) → AreCalls (calls_in x) k found →
        AreCalls (calls_in y) k found
    both k upto [] sx sy fx fy mx my few low px py all = tt
    both k upto (f ∷ found) sx sy fx fy mx my few low px py all = (
      one f mx.0 my.0 all.0,
      both (suc k) upto found sx sy fx fy mx.1 my.1 (omega (arith, few)) low px py all.1,
    )
      where
        one : (f : Found) → One plan b sx fx k f → One plan b sy fy k f → Calls (calls_in x) k f →
            Calls (calls_in y) k f
        one NoOp a c m = tt
        one (Keeps entry) a c m = tt
        one (Makes call) a c m = tt
        one (Takes op) a c m =
            still k (omega (arith, few, low)) (px k op.number (omega (arith, few)) a.0)
            (py k op.number (omega (arith, few)) c.0) ∙ m

    try_still : (t : Try) (found : List Found) (upto : ℕ) → length found ≤ upto → upto ≤ plan.settings.seats →
        x.store.bucket b ≡ t.word → y.store.bucket b ≡ t.word → TryIs plan s q b t found upto →
        TryIs plan z q b t found upto → AreCalls (calls_in x) 0 found → AreCalls (calls_in y) 0 found
    try_still t found upto few low was is i j all =
        let sound = sound_of x s tied q b t found upto small was i in
        let sound_then = sound_of y z then q b t found upto small is j in
        both 0 upto found i.seen j.seen i.fs j.fs i.match j.match (omega (arith, few)) low
        (λ k n less e. (sound.takes k n less e).0) (λ k n less e. (sound_then.takes k n less e).0) all

    step_still : (step : Step) → ReadsStep plan x b step → FoundAt plan (S.Goes call step) →
        TryStep plan x.store.bucket x.store.op s q b step → TryStep plan y.store.bucket y.store.op z q b step →
        CallsStep (calls_in x) x.store.bucket b step → CallsStep (calls_in y) y.store.bucket b step
    step_still (S.LoadAnnounced t found) r f a c all = λ is.
        (let was = (stood_still plan is_plan x y h moves b small t.word r.stood is).0 in
        let few = f.1.2 in
        try_still t found (length found) (omega arith) (omega (arith, few)) was is (a was) (c is) (all was))
    step_still (S.LoadOp t found announced words) r f a c all = λ is.
        (let was = (stood_still plan is_plan x y h moves b small t.word r.stood is).0 in
        let few = f.1.2 in
        try_still t found (length found + 1) (omega arith) (omega (arith, few)) was is (a was).try (c is).try (all was))
    step_still (S.StoreRow t found i) r f a c all = λ is.
        (let was = (stood_still plan is_plan x y h moves b small t.word r.stood is).0 in
        try_still t found (length found) (omega arith) f.1.2 was is (a.1 was) (c.1 is) (all was))
    step_still (S.Exchange t found) r f a c all = λ is.
        (let was = (stood_still plan is_plan x y h moves b small t.word r.stood is).0 in
        try_still t found (length found) (omega arith) f.1.2 was is (a.1 was) (c.1 is) (all was))
    step_still S.Scans r f a c all = tt
    step_still (S.LoadWord turn) r f a c all = tt
    step_still (S.LoadPending t) r f a c all = tt
    step_still (S.LoadRow turn old words) r f a c all = tt
    step_still (S.CheckWord turn old words) r f a c all = tt
    step_still (S.StoreOp i) r f a c all = tt
    step_still S.RaisePending r f a c all = tt
    step_still S.Announce r f a c all = tt
    step_still S.StoreWant r f a c all = tt
    step_still S.StoreAsking r f a c all = tt
    step_still S.HeldWord r f a c all = tt
    step_still (S.TakeHold old) r f a c all = tt
    step_still (S.HeldHead row) r f a c all = tt
    step_still (S.HeldEntry row at left) r f a c all = tt
    step_still (S.HeldReply row at) r f a c all = tt
    step_still (S.GiveBack reply) r f a c all = tt
    step_still (S.Over ending) r f a c all = tt
    step_still (S.LowerPending ending) r f a c all = tt
    step_still S.Stuck r f a c all = tt

  pub at_still : (is_plan : IsPlan plan) (x y : World) (h : Owned plan x) (moves : Moves plan h.at x y) (s z : State)
      (tied : Tied plan x s) (then : Tied plan y z)
      (still : (k : ℕ) → k < plan.settings.seats → s.pending k ≡ true → z.pending k ≡ true →
      calls_in y k ≡ calls_in x k)
      (q : ℕ) (stand : Stand) → ReadsAt plan x stand → FoundAt plan stand →
      TryAt plan x.store.bucket x.store.op s q stand →
      TryAt plan y.store.bucket y.store.op z q stand → CallsAt (calls_in x) x.store.bucket stand →
      CallsAt (calls_in y) y.store.bucket stand
  at_still is_plan x y h moves s z tied then still q S.Idle r f a c all = tt
  at_still is_plan x y h moves s z tied then still q (S.Goes call step) r f a c all =
      step_still is_plan x y h moves s z tied then still q call step r f a.1 c.1 all
  at_still is_plan x y h moves s z tied then still q (S.Glances aim glance) r f a c all = tt

  -- ---- where a step leads

  module _ (is_plan : IsPlan plan) (x : World) (s : State) (tied : Tied plan x s) (all : Announces plan x) (p : ℕ)
      (inside : p < plan.settings.seats) (call : Call) (mine : calls_in x p ≡ Some call) where
    abbrev now : SeatNow
    now = seat_in x p

    abbrev F : Fate → Type 0
    F f = CallsFate (calls_in x) x.store.bucket (bucket_of_call plan call) f

    either : (f g : Fate) (c : Bool) → F f → F g → F (cond c f g)
    either f g true l r = l
    either f g false l r = r

    either_on : (f g : Step) (c : Bool) → F (On f) → F (On g) → F (On (cond c f g))
    either_on f g true l r = l
    either_on f g false l r = r

    ends : (announced : Bool) (reply : Option Reply) → F (ends_with announced reply)
    ends announced reply = calls_ended (calls_in x) x.store.bucket (bucket_of_call plan call) announced reply

    loses : (turn : ℕ) → F (lost turn)
    loses turn = calls_lost (calls_in x) x.store.bucket (bucket_of_call plan call) turn

    given_up : (announced : Bool) → F (gives_up announced)
    given_up true = tt
    given_up false = tt

    given_back : (reply : Option Reply) → F (gives_back reply)
    given_back None = tt
    given_back (Some reply) = tt

    over_then : (ending : S.Ending) → F (ended ending)
    over_then (S.Applied reply) = tt
    over_then S.GivenUp = tt

    unless : (t : Try) → F (unless_spent plan t)
    unless t = either (gives_up (is_announced t.turn)) (On (S.LoadPending t)) (is_spent plan t.word)
        (given_up (is_announced t.turn)) tt

    free_on : (free : List ℕ) → F (with_free free)
    free_on [] = tt
    free_on (r ∷ free) = tt

    entries_on : (row at left : ℕ) → F (next_entry row at left)
    entries_on row at left = either_on (S.HeldEntry row at left) S.Stuck (nat_lt 0 left) tt tt

    abbrev Are : Try → List Found → Type 0
    Are t found = x.store.bucket (bucket_of_call plan call) ≡ t.word → AreCalls (calls_in x) 0 found

    own_is : (turn : ℕ) → Calls (calls_in x) p (own_op now.posted turn call)
    own_is turn = go (is_announced turn)
      where
        go : (c : Bool) →
            Calls (calls_in x) p (cond c (Takes (record { number = now.posted; call = call })) (Makes call))
        go true = mine
        go false = tt

    -- all seats at once
    all_alone : (own : Found) → Calls (calls_in x) p own → (many : ℕ) (found : List Found) →
        AreCalls (calls_in x) 0 found →
        AreCalls (calls_in x) 0 (found_alone p own many found)
    all_alone own is zero found are = are
    all_alone own is (suc many) found are =
        all_alone own is many (more found (next_alone p own found))
        (calls_more (calls_in x) 0 found (next_alone p own found) are
        (subst (λ j. Calls (calls_in x) j (next_alone p own found)) (omega arith) (one (length found == p) refl)))
      where
        one : (c : Bool) → (length found == p) ≡ c → Calls (calls_in x) (length found) (cond c own NoOp)
        one true e = subst (λ j. Calls (calls_in x) j own) (sym (eqb-true (length found) p e)) is
        one false e = tt

    to_ops : (t : Try) (found : List Found) → Are t found → F (found_so_far plan p now call t found)
    to_ops t found are = go (length found == p) refl
      where
        own : Found
        own = own_op now.posted t.turn call

        on : (fs : List Found) → Are t fs →
            F (On (cond (nat_lt (length fs) plan.settings.seats) (S.LoadAnnounced t fs) (S.StoreRow t fs 0)))
        on fs are =
            either_on (S.LoadAnnounced t fs) (S.StoreRow t fs 0) (nat_lt (length fs) plan.settings.seats) are are

        go : (c : Bool) → (length found == p) ≡ c → (let fs = cond c (more found own) found in
            F (On (cond (nat_lt (length fs) plan.settings.seats) (S.LoadAnnounced t fs) (S.StoreRow t fs 0))))
        go true e =
            let at : length found ≡ p = eqb-true (length found) p e in
            on (more found own) (λ same. calls_more (calls_in x) 0 found own (are same)
            (subst (λ j. Calls (calls_in x) j own) (omega (arith, at)) (own_is t.turn)))
        go false e = on found are

    with_one : (t : Try) (found : List Found) (one : Found) → Are t found →
        (x.store.bucket (bucket_of_call plan call) ≡ t.word → Calls (calls_in x) (length found) one) →
        F (found_so_far plan p now call t (more found one))
    with_one t found one are o =
        to_ops t (more found one) (λ same. calls_more (calls_in x) 0 found one (are same)
        (subst (λ j. Calls (calls_in x) j one) (omega arith) (o same)))

    by_entries : (t : Try) (entry : Option Entry) → F (by_entry plan t entry)
    by_entries t None = unless t
    by_entries t (Some entry) = ends true entry.reply

    to_entry : (t : Try) (found : List Found) (announced : ℕ) (entry : Option Entry) → Are t found →
        F (after_entry plan p now call t found announced entry)
    to_entry t found announced None are = are
    to_entry t found announced (Some entry) are = with_one t found (Keeps entry) are (λ same. tt)

    -- the last word of an op
    op_step : (t : Try) (found : List Found) (announced : ℕ) (words : List ℕ) → length found < plan.settings.seats →
        Tells (is_announced t.turn) (x.store.announced p) (x.store.op p) now.posted (bucket_of_call plan call) call →
        TryStep plan x.store.bucket x.store.op s p (bucket_of_call plan call) (S.LoadOp t found announced words) →
        Are t found →
        F (fate plan p now call (S.LoadOp t found announced words) (x.store.op (length found) (length words)))
    op_step t found announced words few tells a are = go (nat_lt (length words + 1) SLOT_WORDS) refl
      where
        v : ℕ
        v = x.store.op (length found) (length words)

        one : Found
        one = Takes (op_in announced (more words v))

        go : (c : Bool) → nat_lt (length words + 1) SLOT_WORDS ≡ c →
            F (cond c (On (S.LoadOp t found announced (more words v)))
            (found_so_far plan p now call t (more found one)))
        go true e = are
        go false e = with_one t found one are (λ same. (
            let last = ltb-false (length words + 1) SLOT_WORDS e in
            let o = a same in
            let its_is = its plan is_plan x s tied all p inside call t tells found few announced words o same in
            of_call (seat_in x (length found)).stand its_is.call its_is.of
            ∙ ap Some
            (sym (call_is plan is_plan x s tied all p inside call t tells found few announced words o same last))))

    pub fated : (step : Step) → FoundAt plan (S.Goes call step) →
        TellsStep (x.store.announced p) (x.store.op p) now.posted (bucket_of_call plan call) call step →
        TryStep plan x.store.bucket x.store.op s p (bucket_of_call plan call) step →
        CallsStep (calls_in x) x.store.bucket (bucket_of_call plan call) step →
        F (fate plan p now call step (found_by (deed_of plan p now call step) x.store))
    fated S.Scans f k a c = go (scan_fate_of plan p now.scan (found_by (deed_of plan p now call S.Scans) x.store))
      where
        go : (f : ScanFate) → F (after_scan now.free f)
        go (ScansOn scan) = tt
        go (Scanned left held) = free_on (now.free ++ left)
    fated (S.LoadWord turn) f k a c = tt
    fated (S.LoadRow turn old words) f k a c =
        let w = found_by (deed_of plan p now call (S.LoadRow turn old words)) x.store in
        either_on (S.LoadRow turn old (more words w)) (S.CheckWord turn old (more words w))
        (nat_lt (length words + 1) (length_by plan (more words w))) tt tt
    fated (S.CheckWord turn old words) f k a c =
        let w = found_by (deed_of plan p now call (S.CheckWord turn old words)) x.store in
        let t : Try = record { turn = turn; word = old; row = row_of_words plan words } in
        either (looked plan p now call t) (lost turn) (w == old)
        (either (by_entry plan t (entry_for p now.posted t.row.entries))
        (cond (is_quiet (rules_of plan) t.row.items call) (Ends (reply_in (rules_of plan) t.row.items call))
        (unless_spent plan t))
        (is_announced turn) (by_entries t (entry_for p now.posted t.row.entries))
        (either (Ends (reply_in (rules_of plan) t.row.items call)) (unless_spent plan t)
        (is_quiet (rules_of plan) t.row.items call) tt (unless t)))
        (loses turn)
    fated (S.LoadPending t) f k a c =
        either (On (S.StoreRow t (found_alone p (own_op now.posted t.turn call) plan.settings.seats []) 0))
        (found_so_far plan p now call t []) (x.store.pending == share_of (is_announced t.turn))
        (λ same. all_alone (own_op now.posted t.turn call) (own_is t.turn) plan.settings.seats [] tt)
        (to_ops t [] (λ same. tt))
    fated (S.LoadAnnounced t found) f k a c =
        let w = found_by (deed_of plan p now call (S.LoadAnnounced t found)) x.store in
        let entry = entry_for (length found) (number_in w) t.row.entries in
        either (after_entry plan p now call t found w entry) (found_so_far plan p now call t (more found NoOp))
        (is_here plan (bucket_of_call plan call) w) (to_entry t found w entry c) (with_one t found NoOp c (λ same. tt))
    fated (S.LoadOp t found announced words) f k a c = op_step t found announced words f.1.2 k a c
    fated (S.StoreRow t found i) f k a c =
        either_on (S.StoreRow t found (i + 1)) (S.Exchange t found)
        (nat_lt (i + 1) (length (new_words plan t found))) c c
    fated (S.Exchange t found) f k a c =
        let w = found_by (deed_of plan p now call (S.Exchange t found)) x.store in
        either (ends_with (is_announced t.turn) (reply_for p (S.made plan t found).made)) (lost t.turn) (w == t.word)
        (ends (is_announced t.turn) (reply_for p (S.made plan t found).made)) (loses t.turn)
    fated (S.StoreOp i) f k a c = either_on (S.StoreOp (i + 1)) S.Announce (nat_lt (i + 1) SLOT_WORDS) tt tt
    fated S.RaisePending f k a c = tt
    fated S.Announce f k a c = tt
    fated S.StoreWant f k a c = tt
    fated S.StoreAsking f k a c = tt
    fated S.HeldWord f k a c = tt
    fated (S.TakeHold old) f k a c = tt
    fated (S.HeldHead row) f k a c =
        let w = x.store.row row 0 in entries_on row (entries_start (count_in plan w)) (entries_in plan w)
    fated (S.HeldEntry row at left) f k a c =
        either (On (S.HeldReply row (at + 1))) (next_entry row (at + ENTRY_WORDS) (left - 1))
        (x.store.row row at == entry_word p now.posted) tt (entries_on row (at + ENTRY_WORDS) (left - 1))
    fated (S.HeldReply row at) f k a c = given_back (reply_of_word (x.store.row row at))
    fated (S.GiveBack reply) f k a c = tt
    fated (S.Over ending) f k a c = tt
    fated (S.LowerPending ending) f k a c = over_then ending
    fated S.Stuck f k a c = tt
