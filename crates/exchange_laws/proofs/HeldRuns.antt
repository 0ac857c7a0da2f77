-- In every run of the table its events are those of the held look: so a row that is read under a hold is with no seat
-- as a free one, and nobody writes it meanwhile.
use Rattle.std.proofs.Common.{◌≡◌, ℕ, zero, suc, ◌+◌, ◌<◌, ◌≤◌, ◌⊎◌, inl, inr, Bool, true, false, cond, List, [], ◌∷◌, map, get_or, Option, None, refl, sym, ap, ◌∙◌, subst, arith, lt-ltb, true≢false}
use Rattle.std.specs.Prelude.{fold}
use Rattle.std.specs.List.{range_with_len}
use Rattle.std.proofs.lemmas.Bool.{cases_lt}
use Rattle.plain_map.specs.declared.keys.Key.{Key}
use Rattle.exchange_model.specs.Plans.{Plan, IsPlan, holders_of, buckets_of}
use Rattle.exchange_model.specs.Laws.{ReadsHeld, HeldRowsAreKept}
use Rattle.exchange_model.specs.Steps as S
use Rattle.exchange_model.specs.Steps.{SeatNow, Stand, Peeking, Rests, Peeks, Tried, HeldIn}
use Rattle.exchange_model.specs.Worlds.{World, Event, OfSeat, OfReader, Peek, Open, Peek_on, IsEvent, AreEvents, opening_world, opening_seat, opening_store, world_after, happens, act, ticked, peeks_on, seat_in, nobody}
use Rattle.exchange_laws.proofs.Words.{bucket_small}
use Rattle.exchange_laws.proofs.Owned.{Place, InWord, WithSeat, Owned, number_of}
use Rattle.word_rows.proofs.MemoryLemmas.{put_at_row}
use Rattle.exchange_laws.proofs.OwnedMoves.{Moves, Stays, Stores, Exchanges}
use Rattle.exchange_laws.proofs.OwnedEvents.{event_keeps}
use Rattle.exchange_laws.proofs.OwnedRuns.{opening_owned, seat_is}
use Rattle.exchange_laws.proofs.Holding as H
use Rattle.exchange_laws.proofs.HeldStates.{look_of, sweep_of, held_state}
use Rattle.exchange_laws.proofs.Held.{Tied, Ties, HoldsOf, Wants, kept_times}
use Rattle.exchange_laws.proofs.HeldEvents.{seat_ties}

-- past the end of a list of seats there is nobody
past_range : {A : Type 0} (f : ℕ → A) (s n i : ℕ) (d : A) → n ≤ i → get_or (map f (range_with_len s n)) i d ≡ d
past_range f s zero i d h = refl
past_range f s (suc n) zero d h = absurd (omega (arith, h))
past_range f s (suc n) (suc i) d h = past_range f (s + 1) n i d (omega (arith, h))

-- ---- the opening

module _ (plan : Plan) (is_plan : IsPlan plan) where
  abbrev n : ℕ
  n = (holders_of plan.settings)

  abbrev x : World
  x = opening_world plan

  abbrev h : Owned plan x
  h = opening_owned plan is_plan

  -- a seat, or nobody
  seat_or : (q : ℕ) → (seat_in x q ≡ opening_seat plan q) ⊎ (seat_in x q ≡ nobody)
  seat_or q = elim (cases_lt q n) [
    | inl less ↦ inl (seat_is plan is_plan q less)
    | inr past ↦ inr (past_range (opening_seat plan) 0 n q nobody past)
  ]

  idle : (q : ℕ) → (seat_in x q).stand ≡ S.Idle
  idle q = elim (seat_or q) [ inl e ↦ ap (λ (s : SeatNow). s.stand) e | inr e ↦ ap (λ (s : SeatNow). s.stand) e ]

  scan_none : (q : ℕ) → (seat_in x q).scan ≡ None
  scan_none q = elim (seat_or q) [ inl e ↦ ap (λ (s : SeatNow). s.scan) e | inr e ↦ ap (λ (s : SeatNow). s.scan) e ]

  no_look : (q : ℕ) → look_of plan (seat_in x q).stand ≡ H.NoLook
  no_look q = ap (look_of plan) (idle q)

  abbrev with_one : Place → Bool
  with_one (InWord b) = false
  with_one (WithSeat p) = true

  -- whose a row is, and whether it is free: all are that are with a seat
  abbrev owner : ℕ → ℕ
  owner r = number_of (h.at r)

  abbrev free : ℕ → Bool
  free r = with_one (h.at r)

  some_bucket : 0 < buckets_of plan.settings
  some_bucket = (let small = bucket_small plan is_plan no_key in omega (arith, small))
    where
      no_key : Key
      no_key = record { k0 = 0; k1 = 0; k2 = 0; k3 = 0; k4 = 0 }

  abbrev s : H.State
  s = held_state plan x owner free (λ q r. false)

  not_waiting : (q : ℕ) → H.IsWaiting (s.look q) → ⊥
  not_waiting q w = subst H.IsWaiting (no_look q) w

  hold_is : (q : ℕ) → s.hold q ≡ H.Nothing
  unfolding opening_store
  hold_is q = refl

  want_is : (q : ℕ) → s.want q ≡ 0
  unfolding opening_store
  want_is q = refl

  holds_first : HoldsOf plan s
  holds_first = record {
    named = λ b less. ap with_one (h.words b less).0;
    apart = λ a b less low e. ap number_of (sym (h.words a less).0 ∙ ap h.at e ∙ (h.words b low).0);
    inside = λ q. subst (λ k. k < buckets_of plan.settings) (sym (want_is q)) some_bucket;
    old = λ q t e. absurd (omega (arith, ap H.kind (sym (hold_is q) ∙ e)));
    asks = λ q w. absurd (not_waiting q w);
    loaded = λ q r e. absurd (omega (arith, ap H.look_kind (sym (no_look q) ∙ e)));
    reads = λ q r e. absurd (omega (arith, ap H.look_kind (sym (no_look q) ∙ e)));
    use_ = λ q w. absurd (not_waiting q w);
    few = λ q a. absurd (subst H.IsActive (no_look q) a);
    sweeps = λ p. subst (H.Sweeps (buckets_of plan.settings) n s p) (sym (ap sweep_of (scan_none p))) tt;
  }

  kept_none : (p : ℕ) → p < n → (seat_in x p).kept ≡ []
  kept_none p less = ap (λ (s : SeatNow). s.kept) (seat_is plan is_plan p less)

  pub tied_open : Tied plan x
  tied_open = record {
    owner = owner;
    free = free;
    since = λ q r. false;
    holds = holds_first;
    agrees = λ p less. record {
      owners = λ r some. ap number_of ((h.seats p less).rows.mine r some).0;
      frees = λ r some. ap with_one ((h.seats p less).rows.mine r (omega (arith, some))).0;
      lives = λ r some. absurd (let none : kept_times r (seat_in x p).kept (seat_in x p).scan ≡ 0 =
          ap (λ (ks : List ℕ). kept_times r ks (seat_in x p).scan) (kept_none p less)
          ∙ ap (λ (sc : Option S.Scan). kept_times r [] sc) (scan_none p) in omega (arith, none, some));
    };
    wants = λ p less. subst (λ (k : Stand). Wants plan (x.store.want p) k) (sym (idle p)) tt;
  }

-- ---- runs

-- a reader that cannot hold changes nothing of it
reader_ties : (plan : Plan) (x : World) (r : ℕ) (peek : Peek) (t : Tied plan x) →
    Ties plan x t (happens plan x (OfReader r peek))
reader_ties plan x r (Open aim tries) t = record {
  then = record {
    owner = t.owner;
    free = t.free;
    since = t.since;
    holds = t.holds;
    agrees = t.agrees;
    wants = t.wants;
  };
  fresh = λ q row active since live. inl (active, since, live);
}
reader_ties plan x r Peek_on t = go (x.readers r).stand
  where
    go : (stand : Peeking) → Ties plan x t (ticked (peeks_on plan x r (x.readers r) stand))
    go Rests = record {
      then = record {
        owner = t.owner;
        free = t.free;
        since = t.since;
        holds = t.holds;
        agrees = t.agrees;
        wants = t.wants;
      };
      fresh = λ q row active since live. inl (active, since, live);
    }
    go (Peeks aim glance) = record {
      then = record {
        owner = t.owner;
        free = t.free;
        since = t.since;
        holds = t.holds;
        agrees = t.agrees;
        wants = t.wants;
      };
      fresh = λ q row active since live. inl (active, since, live);
    }

-- what each event leaves beside it
pub ties_next : (plan : Plan) → IsPlan plan → (x : World) → Owned plan x → (t : Tied plan x) → (event : Event) →
    IsEvent plan x event → Ties plan x t (happens plan x event)
ties_next plan is x h t (OfSeat p what) fits =
    subst (λ (b : Bool). Ties plan x t (cond b (ticked (act plan x p (seat_in x p) what)) x))
    (sym (lt-ltb p (holders_of plan.settings) fits.0)) (seat_ties plan is x h t p fits.0 what fits.1)
ties_next plan is x h t (OfReader r peek) fits = reader_ties plan x r peek t

pub ties_keep : (plan : Plan) → IsPlan plan → (x : World) → Owned plan x → Tied plan x → (event : Event) →
    IsEvent plan x event → Tied plan (happens plan x event)
ties_keep plan is x h t event fits = (ties_next plan is x h t event fits).then

pub ties_follow : (plan : Plan) → IsPlan plan → (events : List Event) (x : World) → Owned plan x → Tied plan x →
    AreEvents plan x events → Owned plan (fold (happens plan) x events) × Tied plan (fold (happens plan) x events)
ties_follow plan is [] x h t follow = (h, t)
ties_follow plan is (event ∷ events) x h t follow =
    ties_follow plan is events (happens plan x event) (event_keeps plan is x h event follow.0).owned
    (ties_keep plan is x h t event follow.0) follow.1

-- where a seat reads what it holds
pub reads_look : (plan : Plan) (stand : Stand) (row : ℕ) → ReadsHeld stand row → look_of plan stand ≡ H.Reads row
reads_look plan S.Idle row r = absurd r
reads_look plan (S.Goes call (S.HeldHead held)) row r = ap H.Reads r
reads_look plan (S.Goes call (S.HeldEntry held at left)) row r = ap H.Reads r
reads_look plan (S.Goes call (S.HeldReply held at)) row r = ap H.Reads r
reads_look plan (S.Goes call S.Scans) row r = absurd r
reads_look plan (S.Goes call (S.LoadWord turn)) row r = absurd r
reads_look plan (S.Goes call (S.LoadRow turn word words)) row r = absurd r
reads_look plan (S.Goes call (S.CheckWord turn word words)) row r = absurd r
reads_look plan (S.Goes call (S.LoadPending t)) row r = absurd r
reads_look plan (S.Goes call (S.LoadAnnounced t found)) row r = absurd r
reads_look plan (S.Goes call (S.LoadOp t found announced words)) row r = absurd r
reads_look plan (S.Goes call (S.StoreRow t found i)) row r = absurd r
reads_look plan (S.Goes call (S.Exchange t found)) row r = absurd r
reads_look plan (S.Goes call S.RaisePending) row r = absurd r
reads_look plan (S.Goes call (S.StoreOp i)) row r = absurd r
reads_look plan (S.Goes call S.Announce) row r = absurd r
reads_look plan (S.Goes call S.StoreWant) row r = absurd r
reads_look plan (S.Goes call S.StoreAsking) row r = absurd r
reads_look plan (S.Goes call S.HeldWord) row r = absurd r
reads_look plan (S.Goes call (S.TakeHold old)) row r = absurd r
reads_look plan (S.Goes call (S.GiveBack reply)) row r = absurd r
reads_look plan (S.Goes call (S.Over ending)) row r = absurd r
reads_look plan (S.Goes call (S.LowerPending ending)) row r = absurd r
reads_look plan (S.Goes call S.Stuck) row r = absurd r
reads_look plan (S.Glances aim (S.GlanceCount (HeldIn held))) row r = ap H.Reads r
reads_look plan (S.Glances aim (S.GlanceItem (HeldIn held) pass)) row r = ap H.Reads r
reads_look plan (S.Glances aim (S.GlanceCount (Tried left word))) row r = absurd r
reads_look plan (S.Glances aim (S.GlanceItem (Tried left word) pass)) row r = absurd r
reads_look plan (S.Glances aim (S.GlanceWord left)) row r = absurd r
reads_look plan (S.Glances aim (S.GlanceCheck left word kept)) row r = absurd r
reads_look plan (S.Glances aim S.GlanceWant) row r = absurd r
reads_look plan (S.Glances aim S.GlanceAsking) row r = absurd r
reads_look plan (S.Glances aim S.GlanceHeld) row r = absurd r
reads_look plan (S.Glances aim (S.GlanceTake old)) row r = absurd r
reads_look plan (S.Glances aim (S.GlanceBack kept)) row r = absurd r

-- a row that is not free is not written
pub live_stays : (plan : Plan) (at : ℕ → Place) (x y : World) (t : Tied plan x) (row i : ℕ) → t.free row ≡ false →
    Moves plan at x y → y.store.row row i ≡ x.store.row row i
live_stays plan at x y t row i live (Stays e r) = λ k. r k row i
live_stays plan at x y t row i live (Stores p other j v inside mine there e r) =
    (λ k. r k row i)
    ∙ put_at_row x.store.row other j v row i
    (λ same. true≢false (sym ((t.agrees p inside).frees other there) ∙ ap t.free (sym same) ∙ live))
live_stays plan at x y t row i live (Exchanges p b other inside mine low small e r) = λ k. r k row i

-- THE RESULT
pub held_rows_are_kept : HeldRowsAreKept
held_rows_are_kept plan events event seat row i run may inside reads =
    let x = world_after plan events in
    let both = ties_follow plan run.opened events (opening_world plan) (opening_owned plan run.opened)
    (tied_open plan run.opened) run.follow in
    let live : both.1.free row ≡ false =
    (both.1.holds.reads seat row (reads_look plan (seat_in x seat).stand row reads)).1.0 in
    let k = event_keeps plan run.opened x both.0 event may in
    live_stays plan both.0.at x (happens plan x event) both.1 row i live k.moves
