-- What is pending is the sum of the shares of all seats, and who has an op announced has a share. So a seat that finds
-- its own share alone knows that no other op is announced at that moment.
use Rattle.std.proofs.Common.{◌≡◌, ◌≢◌, ◌⊎◌, ℕ, zero, suc, ◌+◌, ◌-◌, ◌<◌, ◌≤◌, inl, inr, Bool, true, false, cond, List, [], ◌∷◌, ◌++◌, length, Option, Some, None, refl, sym, ap, ◌∙◌, subst, arith, lt-ltb, get_or-set_same, get_or-set_other, true≢false}
use Rattle.std.specs.Prelude.{◌==◌, ◌*◌, ◌/◌, ◌%◌, ◌^◌, nat_lt, fold}
use Rattle.std.proofs.lemmas.Bool.{cases_eq, cases_lt, cond_both, ne_eqb, le-ltb}
use Rattle.plain_map.specs.declared.calls.Call.{Call}
use Rattle.plain_map.specs.declared.calls.Call.TheVariants.{Insert, Remove, Lookup, Tally, Count, Put}
use Rattle.plain_map.specs.declared.calls.Reply.{Reply}
use Rattle.bucket_states.specs.Items.{reply_in}
use Rattle.word_rows.specs.Memory.{put}
use Rattle.word_rows.proofs.MemoryLemmas.{put_same, put_other}
use Rattle.exchange_model.specs.Plans.{Plan, IsPlan, rules_of, holders_of, more}
use Rattle.exchange_model.specs.Codes.{SLOT_WORDS, ENTRY_WORDS, Entry, is_spent, is_pending, over, row_of_words, length_by, count_in, entries_in, entries_start, number_in}
use Rattle.exchange_model.specs.Words as W
use Rattle.exchange_model.specs.Words.{held_at, with_word}
use Rattle.exchange_model.specs.Laws.{share_at}
use Rattle.exchange_model.specs.Steps as S
use Rattle.exchange_model.specs.Steps.{MadeBySeat, Step, Stand, Scan, SeatNow, Found, NoOp, Keeps, Takes, Try, Ending, Deed, Aim, OfKey, OfBucket, Glance, deed_of, glance_deed, scan_deed, bucket_of_call, new_words, SOLO_TRIES, ALL_TRIES}
use Rattle.exchange_model.specs.Goes.{ScanFate, ScansOn, Scanned, scan_fate_of, scan_begins, Fate, On, Ends, Spends, Refuses, with_free, first_fate, after_scan, is_announced, lost, ends_with, gives_up, gives_back, ended, unless_spent, is_quiet, share_of, own_op, found_alone, with_own, found_so_far, by_entry, looked, is_here, entry_for, entry_word, after_entry, op_in, reply_for, next_entry, fate, own_after, GlanceFate, Looks, Shows, Disturbed, glance_fate}
use Rattle.exchange_model.specs.Worlds.{World, Answer, Event, OfSeat, OfReader, IsEvent, AreEvents, What, Begin, Copy, Step_on, Fits, IsFlying, seat_in, with_seat, ticked, found_by, store_after, seat_after, goes, glances, look_after, course_from, stand_at, update_begins, look_begins, call_begins, goes_on, act, happens, nobody, opening_world, opening_store, Peek, Open, Peek_on, peeks_on}
use Rattle.exchange_laws.proofs.Owned.{Owned}
use Rattle.exchange_laws.proofs.OwnedEvents.{event_keeps}
use Rattle.exchange_laws.proofs.OwnedRuns.{seat_is}
use Rattle.exchange_laws.proofs.Words.{seat_holds}
use Rattle.exchange_laws.proofs.SeatSums.{sum_from, sum_changed, one_term, two_terms}
use Rattle.exchange_laws.proofs.Announcements.{at_rest, Tells, TellsStep, TellsAt, Announces, IsOther, silent_words, silent_step, own_posted, announces_keep}

-- ---- what is said

-- the share of a seat that stands here. Where there is no further step, it says whether the op may be announced
abbrev pub HasStep : (n word posted : ℕ) → Step → Type 0
HasStep n word posted S.Stuck = ((n ≡ 0) × (word ≡ at_rest posted)) ⊎ (n ≡ 1)
HasStep n word posted step = n ≡ share_at step

abbrev pub HasShare : (n word posted : ℕ) → Stand → Type 0
HasShare n word posted S.Idle = n ≡ 0
HasShare n word posted (S.Goes call step) = HasStep n word posted step
HasShare n word posted (S.Glances aim glance) = n ≡ 0

-- each seat has its share, and what is pending is their sum
pub record Counted (plan : Plan) (x : World) : Type 0 where
  pub shares : ℕ → ℕ
  pub sum : x.store.pending ≡ sum_from shares 0 plan.settings.seats
  pub each : (q : ℕ) → q < plan.settings.seats →
      HasShare (shares q) (x.store.announced q) (seat_in x q).posted (seat_in x q).stand

-- ---- who has an op announced has a share

rests_over : (posted : ℕ) → is_pending (at_rest posted) ≡ false
rests_over zero = refl
rests_over (suc posted) =
    let half : over posted / 2 ^ 20 ≡ 2 * posted + 2 = omega arith in
    let even : (2 * posted + 2) % 2 ≡ 0 = omega arith in
    ap (λ k. k % 2 == 1) half ∙ ap (λ k. k == 1) even

-- an announced op at a step: it has a share there
module _ (n word posted class : ℕ) (op : ℕ → ℕ) (call : Call) (pends : is_pending word ≡ true) where
  not_rest : word ≡ at_rest posted → ⊥
  not_rest e = true≢false (sym pends ∙ ap is_pending e ∙ rests_over posted)

  by_flag : (c : Bool) → Tells c word op posted class call → n ≡ share_of c → n ≡ 1
  by_flag true t e = e
  by_flag false t e = absurd (not_rest t)

  at_step : (step : Step) → TellsStep word op posted class call step → HasStep n word posted step → n ≡ 1
  at_step S.Scans t e = absurd (not_rest t)
  at_step (S.LoadWord turn) t e = by_flag (is_announced turn) t e
  at_step (S.LoadRow turn old words) t e = by_flag (is_announced turn) t e
  at_step (S.CheckWord turn old words) t e = by_flag (is_announced turn) t e
  at_step (S.LoadPending a) t e = by_flag (is_announced a.turn) t e
  at_step (S.LoadAnnounced a found) t e = by_flag (is_announced a.turn) t e
  at_step (S.LoadOp a found w words) t e = by_flag (is_announced a.turn) t e
  at_step (S.StoreRow a found i) t e = by_flag (is_announced a.turn) t e
  at_step (S.Exchange a found) t e = by_flag (is_announced a.turn) t e
  at_step S.RaisePending t e = absurd (not_rest t)
  at_step (S.StoreOp i) t e = e
  at_step S.Announce t e = e
  at_step S.StoreWant t e = e
  at_step S.StoreAsking t e = e
  at_step S.HeldWord t e = e
  at_step (S.TakeHold old) t e = e
  at_step (S.HeldHead row) t e = e
  at_step (S.HeldEntry row at left) t e = e
  at_step (S.HeldReply row at) t e = e
  at_step (S.GiveBack reply) t e = e
  at_step (S.Over ending) t e = e
  at_step (S.LowerPending ending) t e = e
  at_step S.Stuck t (inl e) = absurd (not_rest e.1)
  at_step S.Stuck t (inr e) = e

pub announced_shares : (plan : Plan) (n word posted : ℕ) (op : ℕ → ℕ) (stand : Stand) → is_pending word ≡ true →
    TellsAt plan word op posted stand → HasShare n word posted stand → n ≡ 1
announced_shares plan n word posted op S.Idle pends t e =
    absurd (true≢false (sym pends ∙ ap is_pending t ∙ rests_over posted))
announced_shares plan n word posted op (S.Goes call step) pends t e =
    at_step n word posted (bucket_of_call plan call) op call pends step t e
announced_shares plan n word posted op (S.Glances aim glance) pends t e =
    absurd (true≢false (sym pends ∙ ap is_pending t ∙ rests_over posted))

-- ---- where a step leads, with the same share

module _ (plan : Plan) (n word posted class : ℕ) (op : ℕ → ℕ) (call : Call) where
  abbrev F : Fate → Type 0
  F (On step) = HasStep n word posted step
  F (Ends reply) = n ≡ 0
  F Spends = n ≡ 0
  F Refuses = n ≡ 0

  abbrev Said : Bool → Type 0
  Said c = Tells c word op posted class call

  either : (f g : Fate) (c : Bool) → F f → F g → F (cond c f g)
  either f g true l r = l
  either f g false l r = r

  either_on : (f g : Step) (c : Bool) → F (On f) → F (On g) → F (On (cond c f g))
  either_on f g true l r = l
  either_on f g false l r = r

  ends : (announced : Bool) (reply : Option Reply) → Said announced → n ≡ share_of announced →
      F (ends_with announced reply)
  ends true None s e = inr e
  ends false None s e = inl (e, s)
  ends true (Some reply) s e = e
  ends false (Some reply) s e = e

  given_up : (announced : Bool) → n ≡ share_of announced → F (gives_up announced)
  given_up true e = e
  given_up false e = e

  given_back : (reply : Option Reply) → n ≡ 1 → F (gives_back reply)
  given_back None e = inr e
  given_back (Some reply) e = e

  free_on : (free : List ℕ) → n ≡ 0 → F (with_free free)
  free_on [] e = e
  free_on (row ∷ free) e = e

  -- the turn after a lost one is announced as it was, but for the last one that is not
  next_turn : (turn : ℕ) → turn ≢ SOLO_TRIES → is_announced (turn + 1) ≡ is_announced turn
  next_turn turn other = elim (cases_lt SOLO_TRIES turn) [
    | inl late ↦ lt-ltb SOLO_TRIES (turn + 1) (omega (arith, late)) ∙ sym (lt-ltb SOLO_TRIES turn late)
    | inr early ↦
        le-ltb SOLO_TRIES (turn + 1) (omega (arith, other, early)) ∙ sym (le-ltb SOLO_TRIES turn early)
  ]

  loses : (turn : ℕ) → n ≡ share_of (is_announced turn) → F (lost turn)
  loses turn e = elim (cases_eq turn SOLO_TRIES) [
    | inl s ↦ subst (λ k. n ≡ share_of (is_announced k) → F (lost k)) (sym s) (λ z. z) e
    | inr o ↦ subst (λ (c : Bool). F (cond c (On S.RaisePending)
        (cond (turn == ALL_TRIES) (On S.StoreWant) (On (S.LoadWord (turn + 1)))))) (sym (ne_eqb turn SOLO_TRIES o))
        (elim (cases_eq turn ALL_TRIES) [
          | inl s ↦ subst (λ k. n ≡ share_of (is_announced k) →
              F (cond (k == ALL_TRIES) (On S.StoreWant) (On (S.LoadWord (k + 1))))) (sym s) (λ z. z) e
          | inr m ↦ subst (λ (c : Bool). F (cond c (On S.StoreWant) (On (S.LoadWord (turn + 1)))))
              (sym (ne_eqb turn ALL_TRIES m)) (e ∙ ap share_of (sym (next_turn turn o)))
        ])
  ]

  to_ops : (seat : ℕ) (now : SeatNow) (t : Try) (found : List Found) → n ≡ share_of (is_announced t.turn) →
      F (found_so_far plan seat now call t found)
  to_ops seat now t found e =
      let all = with_own seat now call t.turn found in
      either_on (S.LoadAnnounced t all) (S.StoreRow t all 0) (nat_lt (length all) plan.settings.seats) e e

  unless : (t : Try) → n ≡ share_of (is_announced t.turn) → F (unless_spent plan t)
  unless t e =
      either (gives_up (is_announced t.turn)) (On (S.LoadPending t)) (is_spent plan t.word)
      (given_up (is_announced t.turn) e) e

  by_entries : (t : Try) (entry : Option Entry) → is_announced t.turn ≡ true → Said (is_announced t.turn) →
      n ≡ share_of (is_announced t.turn) → F (by_entry plan t entry)
  by_entries t None a s e = unless t e
  by_entries t (Some entry) a s e = ends true entry.reply (subst Said a s) (e ∙ ap share_of a)

  looks : (seat : ℕ) (now : SeatNow) (t : Try) → Said (is_announced t.turn) → n ≡ share_of (is_announced t.turn) →
      F (looked plan seat now call t)
  looks seat now t s e =
      let quiet = is_quiet (rules_of plan) t.row.items call in
      let answer = reply_in (rules_of plan) t.row.items call in
      cond_both (is_announced t.turn) (by_entry plan t (entry_for seat now.posted t.row.entries))
      (cond quiet (Ends answer) (unless_spent plan t)) F
      (λ a. by_entries t (entry_for seat now.posted t.row.entries) a s e)
      (λ a. either (Ends answer) (unless_spent plan t) quiet (e ∙ ap share_of a) (unless t e))

  to_entry : (seat : ℕ) (now : SeatNow) (t : Try) (found : List Found) (announced : ℕ) (entry : Option Entry) →
      n ≡ share_of (is_announced t.turn) → F (after_entry plan seat now call t found announced entry)
  to_entry seat now t found announced None e = e
  to_entry seat now t found announced (Some entry) e = to_ops seat now t (more found (Keeps entry)) e

  entries_on : (row at left : ℕ) → n ≡ 1 → F (next_entry row at left)
  entries_on row at left e = either_on (S.HeldEntry row at left) S.Stuck (nat_lt 0 left) e (inr e)

  -- every step but those that change the share
  abbrev IsEven : Step → Type 0
  IsEven S.RaisePending = ⊥
  IsEven (S.LowerPending ending) = ⊥
  IsEven step = Unit {0}

  fated : (seat : ℕ) (now : SeatNow) (step : Step) (w : ℕ) → IsEven step → TellsStep word op posted class call step →
      HasStep n word posted step → F (fate plan seat now call step w)
  fated seat now S.Scans w p s e = go (scan_fate_of plan seat now.scan w)
    where
      go : (f : ScanFate) → F (after_scan now.free f)
      go (ScansOn scan) = e
      go (Scanned left held) = free_on (now.free ++ left) e
  fated seat now (S.LoadWord turn) w p s e = e
  fated seat now (S.LoadRow turn old words) w p s e =
      either_on (S.LoadRow turn old (more words w)) (S.CheckWord turn old (more words w))
      (nat_lt (length words + 1) (length_by plan (more words w))) e e
  fated seat now (S.CheckWord turn old words) w p s e =
      let t : Try = record { turn = turn; word = old; row = row_of_words plan words } in
      either (looked plan seat now call t) (lost turn) (w == old) (looks seat now t s e) (loses turn e)
  fated seat now (S.LoadPending t) w p s e =
      let found = found_alone seat (own_op now.posted t.turn call) plan.settings.seats [] in
      either (On (S.StoreRow t found 0)) (found_so_far plan seat now call t []) (w == share_of (is_announced t.turn)) e
      (to_ops seat now t [] e)
  fated seat now (S.LoadAnnounced t found) w p s e =
      let entry = entry_for (length found) (number_in w) t.row.entries in
      either (after_entry plan seat now call t found w entry) (found_so_far plan seat now call t (more found NoOp))
      (is_here plan (bucket_of_call plan call) w) (to_entry seat now t found w entry e)
      (to_ops seat now t (more found NoOp) e)
  fated seat now (S.LoadOp t found announced words) w p s e =
      let one = Takes (op_in announced (more words w)) in
      either (On (S.LoadOp t found announced (more words w))) (found_so_far plan seat now call t (more found one))
      (nat_lt (length words + 1) SLOT_WORDS) e (to_ops seat now t (more found one) e)
  fated seat now (S.StoreRow t found i) w p s e =
      either_on (S.StoreRow t found (i + 1)) (S.Exchange t found) (nat_lt (i + 1) (length (new_words plan t found))) e e
  fated seat now (S.Exchange t found) w p s e =
      either (ends_with (is_announced t.turn) (reply_for seat (S.made plan t found).made)) (lost t.turn) (w == t.word)
      (ends (is_announced t.turn) (reply_for seat (S.made plan t found).made) s e) (loses t.turn e)
  fated seat now S.RaisePending w p s e = absurd p
  fated seat now (S.StoreOp i) w p s e = either_on (S.StoreOp (i + 1)) S.Announce (nat_lt (i + 1) SLOT_WORDS) e e
  fated seat now S.Announce w p s e = e
  fated seat now S.StoreWant w p s e = e
  fated seat now S.StoreAsking w p s e = e
  fated seat now S.HeldWord w p s e = e
  fated seat now (S.TakeHold old) w p s e = e
  fated seat now (S.HeldHead row) w p s e = entries_on row (entries_start (count_in plan w)) (entries_in plan w) e
  fated seat now (S.HeldEntry row at left) w p s e =
      either (On (S.HeldReply row (at + 1))) (next_entry row (at + ENTRY_WORDS) (left - 1))
      (w == entry_word seat now.posted) e (entries_on row (at + ENTRY_WORDS) (left - 1) e)
  fated seat now (S.HeldReply row at) w p s e = given_back _ e
  fated seat now (S.GiveBack reply) w p s e = e
  fated seat now (S.Over ending) w p s e = e
  fated seat now (S.LowerPending ending) w p s e = absurd p
  fated seat now S.Stuck w p s e = e

-- ---- the words that a step changes

-- what is pending is as it was
abbrev IsSteady : W.At → Type 0
IsSteady W.Pending = ⊥
IsSteady at = Unit {0}

abbrev IsCalm : Deed → Type 0
IsCalm S.Nothing = Unit {0}
IsCalm (S.Load from) = Unit {0}
IsCalm (S.Store to word) = IsSteady to
IsCalm (S.Swap at old new) = IsSteady at
IsCalm (S.Raise at) = IsSteady at
IsCalm (S.Lower at) = IsSteady at

steady_store : (at : W.At) (store : W.Store) (word : ℕ) → IsSteady at →
    (with_word store at word).pending ≡ store.pending
steady_store W.Pending store word q = absurd q
steady_store (W.Announced seat) store word q = refl
steady_store (W.Want seat) store word q = refl
steady_store (W.Hold seat) store word q = refl
steady_store (W.OpWord seat i) store word q = refl
steady_store (W.Bucket b) store word q = refl
steady_store (W.RowWord row i) store word q = refl

calm_words : (deed : Deed) (store : W.Store) → IsCalm deed → (store_after deed store).pending ≡ store.pending
calm_words S.Nothing store q = refl
calm_words (S.Load from) store q = refl
calm_words (S.Store to word) store q = steady_store to store word q
calm_words (S.Swap at old new) store q =
    cond_both (held_at store at == old) (with_word store at new) store (λ (s : W.Store). s.pending ≡ store.pending)
    (λ e. steady_store at store new q) (λ e. refl)
calm_words (S.Raise at) store q = steady_store at store (held_at store at + 1) q
calm_words (S.Lower at) store q = steady_store at store (held_at store at - 1) q

calm_scan : (plan : Plan) (scan : Option Scan) → IsCalm (scan_deed plan scan)
calm_scan plan None = tt
calm_scan plan (Some (S.Seats k left held)) = tt
calm_scan plan (Some (S.Sees k t left held)) = tt
calm_scan plan (Some (S.Loads k t class left held)) = tt
calm_scan plan (Some (S.Gives k t row left held)) = tt

abbrev Evens : Step → Type 0
Evens S.RaisePending = ⊥
Evens (S.LowerPending ending) = ⊥
Evens step = Unit {0}

calm_step : (plan : Plan) (seat : ℕ) (now : SeatNow) (call : Call) (step : Step) → Evens step →
    IsCalm (deed_of plan seat now call step)
calm_step plan seat now call S.Scans n = calm_scan plan now.scan
calm_step plan seat now call (S.LoadWord turn) n = tt
calm_step plan seat now call (S.LoadRow turn word words) n = tt
calm_step plan seat now call (S.CheckWord turn word words) n = tt
calm_step plan seat now call (S.LoadPending t) n = tt
calm_step plan seat now call (S.LoadAnnounced t found) n = tt
calm_step plan seat now call (S.LoadOp t found announced words) n = tt
calm_step plan seat now call (S.StoreRow t found i) n = tt
calm_step plan seat now call (S.Exchange t found) n = tt
calm_step plan seat now call S.RaisePending n = absurd n
calm_step plan seat now call (S.StoreOp i) n = tt
calm_step plan seat now call S.Announce n = tt
calm_step plan seat now call S.StoreWant n = tt
calm_step plan seat now call S.StoreAsking n = tt
calm_step plan seat now call S.HeldWord n = tt
calm_step plan seat now call (S.TakeHold word) n = tt
calm_step plan seat now call (S.HeldHead row) n = tt
calm_step plan seat now call (S.HeldEntry row at left) n = tt
calm_step plan seat now call (S.HeldReply row at) n = tt
calm_step plan seat now call (S.GiveBack reply) n = tt
calm_step plan seat now call (S.Over ending) n = tt
calm_step plan seat now call (S.LowerPending ending) n = absurd n
calm_step plan seat now call S.Stuck n = tt

calm_glance : (plan : Plan) (seat time : ℕ) (aim : Aim) (glance : Glance) →
    IsCalm (glance_deed plan seat time aim glance)
calm_glance plan seat time aim (S.GlanceWord left) = tt
calm_glance plan seat time aim (S.GlanceCount source) = tt
calm_glance plan seat time aim (S.GlanceItem source pass) = tt
calm_glance plan seat time aim (S.GlanceCheck left word kept) = tt
calm_glance plan seat time aim S.GlanceWant = tt
calm_glance plan seat time aim S.GlanceAsking = tt
calm_glance plan seat time aim S.GlanceHeld = tt
calm_glance plan seat time aim (S.GlanceTake word) = tt
calm_glance plan seat time aim (S.GlanceBack kept) = tt

-- a step changes the announcement of its own seat alone
abbrev IsAlone : (seat : ℕ) → W.At → Type 0
IsAlone seat (W.Announced other) = other ≡ seat
IsAlone seat at = Unit {0}

alone_store : (seat q : ℕ) → q ≢ seat → (at : W.At) (store : W.Store) (word : ℕ) → IsAlone seat at →
    (with_word store at word).announced q ≡ store.announced q
alone_store seat q n W.Pending store word a = refl
alone_store seat q n (W.Announced other) store word a = put_other store.announced other word q (λ e. n (e ∙ a))
alone_store seat q n (W.Want holder) store word a = refl
alone_store seat q n (W.Hold holder) store word a = refl
alone_store seat q n (W.OpWord other i) store word a = refl
alone_store seat q n (W.Bucket b) store word a = refl
alone_store seat q n (W.RowWord row i) store word a = refl

abbrev TouchesOwn : (seat : ℕ) → Deed → Type 0
TouchesOwn seat S.Nothing = Unit {0}
TouchesOwn seat (S.Load from) = Unit {0}
TouchesOwn seat (S.Store to word) = IsAlone seat to
TouchesOwn seat (S.Swap at old new) = IsAlone seat at
TouchesOwn seat (S.Raise at) = IsAlone seat at
TouchesOwn seat (S.Lower at) = IsAlone seat at

alone_words : (seat q : ℕ) → q ≢ seat → (deed : Deed) (store : W.Store) → TouchesOwn seat deed →
    (store_after deed store).announced q ≡ store.announced q
alone_words seat q n S.Nothing store a = refl
alone_words seat q n (S.Load from) store a = refl
alone_words seat q n (S.Store to word) store a = alone_store seat q n to store word a
alone_words seat q n (S.Swap at old new) store a =
    cond_both (held_at store at == old) (with_word store at new) store
    (λ (s : W.Store). s.announced q ≡ store.announced q) (λ e. alone_store seat q n at store new a) (λ e. refl)
alone_words seat q n (S.Raise at) store a = alone_store seat q n at store (held_at store at + 1) a
alone_words seat q n (S.Lower at) store a = alone_store seat q n at store (held_at store at - 1) a

alone_scan : (plan : Plan) (seat : ℕ) (scan : Option Scan) → TouchesOwn seat (scan_deed plan scan)
alone_scan plan seat None = tt
alone_scan plan seat (Some (S.Seats k left held)) = tt
alone_scan plan seat (Some (S.Sees k t left held)) = tt
alone_scan plan seat (Some (S.Loads k t class left held)) = tt
alone_scan plan seat (Some (S.Gives k t row left held)) = tt

alone_step : (plan : Plan) (seat : ℕ) (now : SeatNow) (call : Call) (step : Step) →
    TouchesOwn seat (deed_of plan seat now call step)
alone_step plan seat now call S.Scans = alone_scan plan seat now.scan
alone_step plan seat now call (S.LoadWord turn) = tt
alone_step plan seat now call (S.LoadRow turn word words) = tt
alone_step plan seat now call (S.CheckWord turn word words) = tt
alone_step plan seat now call (S.LoadPending t) = tt
alone_step plan seat now call (S.LoadAnnounced t found) = tt
alone_step plan seat now call (S.LoadOp t found announced words) = tt
alone_step plan seat now call (S.StoreRow t found i) = tt
alone_step plan seat now call (S.Exchange t found) = tt
alone_step plan seat now call S.RaisePending = tt
alone_step plan seat now call (S.StoreOp i) = tt
alone_step plan seat now call S.Announce = refl
alone_step plan seat now call S.StoreWant = tt
alone_step plan seat now call S.StoreAsking = tt
alone_step plan seat now call S.HeldWord = tt
alone_step plan seat now call (S.TakeHold word) = tt
alone_step plan seat now call (S.HeldHead row) = tt
alone_step plan seat now call (S.HeldEntry row at left) = tt
alone_step plan seat now call (S.HeldReply row at) = tt
alone_step plan seat now call (S.GiveBack reply) = tt
alone_step plan seat now call (S.Over ending) = refl
alone_step plan seat now call (S.LowerPending ending) = tt
alone_step plan seat now call S.Stuck = tt

silent_look : (plan : Plan) (seat q time : ℕ) (aim : Aim) (glance : Glance) (store : W.Store) →
    (store_after (glance_deed plan seat time aim glance) store).announced q ≡ store.announced q
silent_look plan seat q time aim (S.GlanceWord left) store = refl
silent_look plan seat q time aim (S.GlanceCount source) store = refl
silent_look plan seat q time aim (S.GlanceItem source pass) store = refl
silent_look plan seat q time aim (S.GlanceCheck left word kept) store = refl
silent_look plan seat q time aim S.GlanceWant store = refl
silent_look plan seat q time aim S.GlanceAsking store = refl
silent_look plan seat q time aim S.GlanceHeld store = refl
silent_look plan seat q time aim (S.GlanceTake word) store =
    cond_both (store.hold seat == _) _ store (λ (s : W.Store). s.announced q ≡ store.announced q) (λ e. refl)
    (λ e. refl)
silent_look plan seat q time aim (S.GlanceBack kept) store = refl

-- a seat that was answered stands between two calls
after_share : (n word : ℕ) (plan : Plan) (own : SeatNow) (call : Call) (f : Fate) →
    F plan n word own.posted 0 (λ i. 0) call f →
    HasShare n word (seat_after own call f).posted (seat_after own call f).stand
after_share n word plan own call (On step) s = s
after_share n word plan own call (Ends reply) s = s
after_share n word plan own call Spends s = s
after_share n word plan own call Refuses s = s

-- ---- events

module _ (plan : Plan) (x : World) (h : Owned plan x) (all : Announces plan x) (c : Counted plan x) (p : ℕ)
    (inside : p < holders_of plan.settings) where
  abbrev now : SeatNow
  now = seat_in x p

  abbrev y_of : W.Store → SeatNow → List Answer → List MadeBySeat → World
  y_of store then answers updates = ticked (with_seat x p store then answers updates)

  mine : (store : W.Store) (then : SeatNow) (answers : List Answer) (updates : List MadeBySeat) →
      seat_in (y_of store then answers updates) p ≡ then
  mine store then answers updates =
      get_or-set_same x.seats p then nobody (let long = h.long in omega (arith, inside, long))

  -- no share is another then
  evenly : (store : W.Store) (then : SeatNow) (answers : List Answer) (updates : List MadeBySeat) →
      store.pending ≡ x.store.pending → ((q : ℕ) → q ≢ p → store.announced q ≡ x.store.announced q) →
      (p < plan.settings.seats → HasShare (c.shares p) (store.announced p) then.posted then.stand) →
      Counted plan (y_of store then answers updates)
  evenly store then answers updates same words here = record {
    shares = c.shares;
    sum = same ∙ c.sum;
    each = λ q less. elim (cases_eq q p) [
      | inl e ↦
          subst (λ i. HasShare (c.shares i) (store.announced i) (seat_in y i).posted (seat_in y i).stand) (sym e)
          (subst (λ (k : SeatNow). HasShare (c.shares p) (store.announced p) k.posted k.stand)
          (sym (mine store then answers updates)) (here (subst (λ i. i < plan.settings.seats) e less)))
      | inr n ↦
          subst (λ (k : SeatNow). HasShare (c.shares q) (store.announced q) k.posted k.stand)
          (sym (get_or-set_other x.seats p q then nobody n))
          (subst (λ w. HasShare (c.shares q) w (seat_in x q).posted (seat_in x q).stand) (sym (words q n))
          (c.each q less))
    ];
  }
    where
      y : World
      y = y_of store then answers updates

  -- the share of this seat is
  changed : (store : W.Store) (then : SeatNow) (answers : List Answer) (updates : List MadeBySeat) (n : ℕ) →
      p < plan.settings.seats → store.pending + c.shares p ≡ x.store.pending + n →
      ((q : ℕ) → q ≢ p → store.announced q ≡ x.store.announced q) →
      HasShare n (store.announced p) then.posted then.stand → Counted plan (y_of store then answers updates)
  changed store then answers updates n seat total words here = record {
    shares = shares;
    sum =
        let sums = sum_changed shares c.shares p 0 plan.settings.seats (omega arith) (omega (arith, seat))
        (λ q m. put_other c.shares p n q m) in
        let one : shares p ≡ n = put_same c.shares p n in omega (arith, sums, one, total, c.sum);
    each = λ q less. elim (cases_eq q p) [
      | inl e ↦
          subst (λ i. HasShare (shares i) (store.announced i) (seat_in y i).posted (seat_in y i).stand) (sym e)
          (subst (λ k. HasShare k (store.announced p) (seat_in y p).posted (seat_in y p).stand)
          (sym (put_same c.shares p n))
          (subst (λ (k : SeatNow). HasShare n (store.announced p) k.posted k.stand)
          (sym (mine store then answers updates)) here))
      | inr m ↦
          subst (λ k. HasShare k (store.announced q) (seat_in y q).posted (seat_in y q).stand)
          (sym (put_other c.shares p n q m))
          (subst (λ (k : SeatNow). HasShare (c.shares q) (store.announced q) k.posted k.stand)
          (sym (get_or-set_other x.seats p q then nobody m))
          (subst (λ w. HasShare (c.shares q) w (seat_in x q).posted (seat_in x q).stand) (sym (words q m))
          (c.each q less)))
    ];
  }
    where
      y : World
      y = y_of store then answers updates

      shares : ℕ → ℕ
      shares = put c.shares p n

  module _ (call : Call) (seat : p < plan.settings.seats) where
    share_is : (step : Step) → now.stand ≡ S.Goes call step →
        HasStep (c.shares p) (x.store.announced p) now.posted step
    share_is step stood =
        subst (λ (k : Stand). HasShare (c.shares p) (x.store.announced p) now.posted k) stood (c.each p seat)

    told_is : (step : Step) → now.stand ≡ S.Goes call step →
        TellsStep (x.store.announced p) (x.store.op p) now.posted (bucket_of_call plan call) call step
    told_is step stood =
        subst (λ (k : Stand). TellsAt plan (x.store.announced p) (x.store.op p) now.posted k) stood (all.each p inside)

    others : (step : Step) (q : ℕ) → q ≢ p →
        (store_after (deed_of plan p now call step) x.store).announced q ≡ x.store.announced q
    others step q n = alone_words p q n (deed_of plan p now call step) x.store (alone_step plan p now call step)

    -- where neither the share nor the announcement is another then
    plain_step : (step : Step) → now.stand ≡ S.Goes call step → Evens step → IsOther step →
        ((w : ℕ) → F plan (c.shares p) (x.store.announced p) now.posted 0 (λ i. 0) call (fate plan p now call step w)) →
        Counted plan (ticked (goes plan x p now call step))
    plain_step step stood even other leads =
        let deed = deed_of plan p now call step in
        let w = found_by deed x.store in
        let own = own_after plan p now call step w in
        let f = fate plan p now call step w in
        let words = silent_words deed x.store (silent_step plan p now call step other) in
        evenly (store_after deed x.store) (seat_after own call f) _ _
        (calm_words deed x.store (calm_step plan p now call step even)) (others step)
        (λ _. after_share (c.shares p) ((store_after deed x.store).announced p) plan own call f
        (subst (λ k. F plan (c.shares p) k own.posted 0 (λ i. 0) call f) (λ i. sym words.0 i p)
        (subst (λ k. F plan (c.shares p) (x.store.announced p) k 0 (λ i. 0) call f)
        (sym (own_posted plan p now call step w other)) (leads w))))

    led : (step : Step) → Evens step → now.stand ≡ S.Goes call step → (w : ℕ) →
        F plan (c.shares p) (x.store.announced p) now.posted 0 (λ i. 0) call (fate plan p now call step w)
    led step even stood w =
        same_fate (fate plan p now call step w)
        (fated plan (c.shares p) (x.store.announced p) now.posted (bucket_of_call plan call)
        (x.store.op p) call p now step w
        (evens step even) (told_is step stood) (share_is step stood))
      where
        evens : (s : Step) → Evens s → IsEven plan (c.shares p) (x.store.announced p) now.posted
            (bucket_of_call plan call)
            (x.store.op p) call s
        evens S.RaisePending e = e
        evens (S.LowerPending ending) e = e
        evens S.Scans e = tt
        evens (S.LoadWord turn) e = tt
        evens (S.LoadRow turn word words) e = tt
        evens (S.CheckWord turn word words) e = tt
        evens (S.LoadPending t) e = tt
        evens (S.LoadAnnounced t found) e = tt
        evens (S.LoadOp t found announced words) e = tt
        evens (S.StoreRow t found i) e = tt
        evens (S.Exchange t found) e = tt
        evens (S.StoreOp i) e = tt
        evens S.Announce e = tt
        evens S.StoreWant e = tt
        evens S.StoreAsking e = tt
        evens S.HeldWord e = tt
        evens (S.TakeHold word) e = tt
        evens (S.HeldHead row) e = tt
        evens (S.HeldEntry row at left) e = tt
        evens (S.HeldReply row at) e = tt
        evens (S.GiveBack reply) e = tt
        evens (S.Over ending) e = tt
        evens S.Stuck e = tt

        same_fate : (f : Fate) → F plan (c.shares p) (x.store.announced p) now.posted (bucket_of_call plan call)
            (x.store.op p) call f →
            F plan (c.shares p) (x.store.announced p) now.posted 0 (λ i. 0) call f
        same_fate (On step) s = s
        same_fate (Ends reply) s = s
        same_fate Spends s = s
        same_fate Refuses s = s

    -- the announcement is stored, or is over: the share stays
    told_step : (step : Step) (word : ℕ) (then : SeatNow) (answers : List Answer) (updates : List MadeBySeat) →
        HasShare (c.shares p) (put x.store.announced p word p) then.posted then.stand →
        Counted plan (y_of (with_word x.store (W.Announced p) word) then answers updates)
    told_step step word then answers updates here =
        evenly (with_word x.store (W.Announced p) word) then answers updates refl
        (λ q n. put_other x.store.announced p word q n) (λ _. here)

    some_pending : c.shares p ≤ x.store.pending
    some_pending =
        let one = one_term c.shares p 0 plan.settings.seats (omega arith) (omega (arith, seat)) in
        omega (arith, one, c.sum)

    update_step : (step : Step) → now.stand ≡ S.Goes call step → Counted plan (ticked (goes plan x p now call step))
    update_step S.RaisePending e =
        let none = share_is S.RaisePending e in
        changed (with_word x.store W.Pending (x.store.pending + 1)) (seat_after now call (On (S.StoreOp 0))) _ _ 1 seat
        (omega (arith, none)) (λ q n. refl) refl
    update_step (S.LowerPending ending) e =
        let one = share_is (S.LowerPending ending) e in
        let some = some_pending in
        changed (with_word x.store W.Pending (x.store.pending - 1)) (seat_after now call (ended ending)) _ _ 0 seat
        (omega (arith, one, some)) (λ q n. refl) (idle ending)
      where
        idle : (k : Ending) → HasShare 0 (x.store.announced p) (seat_after now call (ended k)).posted
            (seat_after now call (ended k)).stand
        idle (S.Applied reply) = refl
        idle S.GivenUp = refl
    update_step S.Announce e = told_step S.Announce _ _ _ _ (share_is S.Announce e)
    update_step (S.Over ending) e = told_step (S.Over ending) _ _ _ _ (share_is (S.Over ending) e)
    update_step (S.StoreOp i) e =
        let step = S.StoreOp i in
        let f = fate plan p now call step 0 in
        evenly (with_word x.store (W.OpWord p i) _) (seat_after now call f) _ _ refl (λ q n. refl)
        (λ _. after_share (c.shares p) (x.store.announced p) plan now call f (led step tt e 0))
    update_step S.Stuck e = plain_step S.Stuck e tt tt (led S.Stuck tt e)
    update_step S.Scans e = plain_step S.Scans e tt tt (led S.Scans tt e)
    update_step (S.LoadWord turn) e = plain_step (S.LoadWord turn) e tt tt (led (S.LoadWord turn) tt e)
    update_step (S.LoadRow turn word words) e =
        plain_step (S.LoadRow turn word words) e tt tt (led (S.LoadRow turn word words) tt e)
    update_step (S.CheckWord turn word words) e =
        plain_step (S.CheckWord turn word words) e tt tt (led (S.CheckWord turn word words) tt e)
    update_step (S.LoadPending t) e = plain_step (S.LoadPending t) e tt tt (led (S.LoadPending t) tt e)
    update_step (S.LoadAnnounced t found) e =
        plain_step (S.LoadAnnounced t found) e tt tt (led (S.LoadAnnounced t found) tt e)
    update_step (S.LoadOp t found announced words) e =
        plain_step (S.LoadOp t found announced words) e tt tt (led (S.LoadOp t found announced words) tt e)
    update_step (S.StoreRow t found i) e = plain_step (S.StoreRow t found i) e tt tt (led (S.StoreRow t found i) tt e)
    update_step (S.Exchange t found) e = plain_step (S.Exchange t found) e tt tt (led (S.Exchange t found) tt e)
    update_step S.StoreWant e = plain_step S.StoreWant e tt tt (led S.StoreWant tt e)
    update_step S.StoreAsking e = plain_step S.StoreAsking e tt tt (led S.StoreAsking tt e)
    update_step S.HeldWord e = plain_step S.HeldWord e tt tt (led S.HeldWord tt e)
    update_step (S.TakeHold old) e = plain_step (S.TakeHold old) e tt tt (led (S.TakeHold old) tt e)
    update_step (S.HeldHead row) e = plain_step (S.HeldHead row) e tt tt (led (S.HeldHead row) tt e)
    update_step (S.HeldEntry row at left) e =
        plain_step (S.HeldEntry row at left) e tt tt (led (S.HeldEntry row at left) tt e)
    update_step (S.HeldReply row at) e = plain_step (S.HeldReply row at) e tt tt (led (S.HeldReply row at) tt e)
    update_step (S.GiveBack reply) e = plain_step (S.GiveBack reply) e tt tt (led (S.GiveBack reply) tt e)

  -- ---- looks, and begins

  -- a seat that makes no update has no share
  look_step : (aim : Aim) (glance : Glance) → now.stand ≡ S.Glances aim glance →
      Counted plan (ticked (glances plan x p now aim glance))
  look_step aim glance stood =
      let deed = glance_deed plan p now.time aim glance in
      let f = glance_fate plan now.time aim glance (found_by deed x.store) in
      evenly (store_after deed x.store) (look_after now aim glance f) _ x.made
      (calm_words deed x.store (calm_glance plan p now.time aim glance))
      (λ q n. silent_look plan p q now.time aim glance x.store) (λ seat. go seat f)
    where
      none : p < plan.settings.seats → c.shares p ≡ 0
      none seat =
          subst (λ (k : Stand). HasShare (c.shares p) (x.store.announced p) now.posted k) stood (c.each p seat)

      go : p < plan.settings.seats → (f : GlanceFate) →
          (let then = look_after now aim glance f in
          HasShare (c.shares p) ((store_after (glance_deed plan p now.time aim glance) x.store).announced p) then.posted
          then.stand)
      go seat (Looks next) = none seat
      go seat (Shows items) = none seat
      go seat Disturbed = none seat

  idle_share : now.stand ≡ S.Idle → p < plan.settings.seats → c.shares p ≡ 0
  idle_share stood seat =
      subst (λ (k : Stand). HasShare (c.shares p) (x.store.announced p) now.posted k) stood (c.each p seat)

  look_first : (aim : Aim) → now.stand ≡ S.Idle → Counted plan (ticked (look_begins x p now aim))
  look_first aim stood = evenly x.store _ x.answers x.made refl (λ q n. refl) (idle_share stood)

  update_first : (call : Call) → now.stand ≡ S.Idle → Counted plan (ticked (update_begins plan x p now call))
  update_first call stood =
      let taken = scan_begins plan p now.free now in
      let f = first_fate taken.free taken.scan in
      evenly x.store (record taken { stand = stand_at call f; course = course_from x.clock }) _ x.made refl
      (λ q n. refl)
      (λ seat. by_fate taken.posted f (first seat taken.posted taken.free taken.scan))
    where
      first : p < plan.settings.seats → (posted : ℕ) (free : List ℕ) (scan : Option Scan) →
          F plan (c.shares p) (x.store.announced p) posted 0 (λ i. 0) call (first_fate free scan)
      first seat posted free None =
          free_on plan (c.shares p) (x.store.announced p) posted 0 (λ i. 0) call free (idle_share stood seat)
      first seat posted free (Some scan) = idle_share stood seat

      by_fate : (posted : ℕ) (f : Fate) → F plan (c.shares p) (x.store.announced p) posted 0 (λ i. 0) call f →
          HasShare (c.shares p) (x.store.announced p) posted (stand_at call f)
      by_fate posted (On step) s = s
      by_fate posted (Ends reply) s = s
      by_fate posted Spends s = s
      by_fate posted Refuses s = s

  call_first : (call : Call) → now.stand ≡ S.Idle → Counted plan (ticked (call_begins plan x p now call))
  call_first (Lookup key) e = look_first (OfKey key) e
  call_first (Insert key value) e = update_first (Insert key value) e
  call_first (Remove key) e = update_first (Remove key) e
  call_first (Tally key amount) e = update_first (Tally key amount) e
  call_first (Count key value amount) e = update_first (Count key value amount) e
  call_first (Put key value) e = update_first (Put key value) e

  seat_goes : (stand : Stand) → now.stand ≡ stand → IsFlying plan p stand →
      Counted plan (ticked (goes_on plan x p now stand))
  seat_goes S.Idle e flies = absurd flies
  seat_goes (S.Goes call step) e flies = update_step call flies step e
  seat_goes (S.Glances aim glance) e flies = look_step aim glance e

  seat_counts : (what : What) → Fits plan p now what → Counted plan (ticked (act plan x p now what))
  seat_counts (Begin call) fits = call_first call fits.0
  seat_counts (Copy bucket) fits = look_first (OfBucket bucket) fits.0
  seat_counts Step_on fits = seat_goes now.stand refl fits

-- ---- runs

reader_counts : (plan : Plan) (x : World) (r : ℕ) (peek : Peek) → Counted plan x →
    Counted plan (happens plan x (OfReader r peek))
reader_counts plan x r (Open aim tries) c = record { shares = c.shares; sum = c.sum; each = c.each }
reader_counts plan x r Peek_on c = go (x.readers r).stand
  where
    go : (stand : S.Peeking) → Counted plan (ticked (peeks_on plan x r (x.readers r) stand))
    go S.Rests = record { shares = c.shares; sum = c.sum; each = c.each }
    go (S.Peeks aim glance) = record { shares = c.shares; sum = c.sum; each = c.each }

pub counted_keep : (plan : Plan) (x : World) → Owned plan x → Announces plan x → Counted plan x → (event : Event) →
    IsEvent plan x event → Counted plan (happens plan x event)
counted_keep plan x h all c (OfSeat p what) fits =
    subst (λ (b : Bool). Counted plan (cond b (ticked (act plan x p (seat_in x p) what)) x))
    (sym (lt-ltb p (holders_of plan.settings) fits.0)) (seat_counts plan x h all c p fits.0 what fits.1)
counted_keep plan x h all c (OfReader r peek) fits = reader_counts plan x r peek c

none_pending : (plan : Plan) → (opening_world plan).store.pending ≡ 0
unfolding opening_store
none_pending plan = refl

no_shares : (seat many : ℕ) → sum_from (λ q. 0) seat many ≡ 0
no_shares seat zero = refl
no_shares seat (suc many) = no_shares (seat + 1) many

pub counted_first : (plan : Plan) → IsPlan plan → Counted plan (opening_world plan)
counted_first plan is = record {
  shares = λ q. 0;
  sum = none_pending plan ∙ sym (no_shares 0 plan.settings.seats);
  each = λ q less. subst (λ (k : SeatNow). HasShare 0 ((opening_world plan).store.announced q) k.posted k.stand)
      (sym (seat_is plan is q (seat_holds plan q less))) refl;
}

pub counted_follow : (plan : Plan) → IsPlan plan → (events : List Event) (x : World) → Owned plan x →
    Announces plan x → Counted plan x → AreEvents plan x events → Counted plan (fold (happens plan) x events)
counted_follow plan is [] x h all c follow = c
counted_follow plan is (event ∷ events) x h all c follow =
    counted_follow plan is events (happens plan x event) (event_keeps plan is x h event follow.0).owned
    (announces_keep plan x h all event follow.0) (counted_keep plan x h all c event follow.0) follow.1

-- THE RESULT: who finds its own share alone knows that no other op is announced
module _ (plan : Plan) (x : World) (all : Announces plan x) (c : Counted plan x) where
  pub share_one : (q : ℕ) → q < plan.settings.seats → is_pending (x.store.announced q) ≡ true → c.shares q ≡ 1
  share_one q less pends =
      announced_shares plan (c.shares q) (x.store.announced q) (seat_in x q).posted (x.store.op q)
      (seat_in x q).stand pends
      (all.each q (seat_holds plan q less)) (c.each q less)

  pub others_over : (p q : ℕ) → p < plan.settings.seats → q < plan.settings.seats → q ≢ p →
      x.store.pending ≡ c.shares p → is_pending (x.store.announced q) ≡ false
  others_over p q inside less other alone = go (is_pending (x.store.announced q)) refl
    where
      go : (b : Bool) → is_pending (x.store.announced q) ≡ b → is_pending (x.store.announced q) ≡ false
      go false e = e
      go true e =
          let one = share_one q less e in
          let two = two_terms c.shares p q 0 plan.settings.seats (λ k. other (sym k)) (omega arith)
          (omega (arith, inside)) (omega arith) (omega (arith, less)) in
          absurd (omega (arith, one, two, alone, c.sum))
