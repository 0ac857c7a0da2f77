-- In every run of a lasting table a row that is read under a hold is free for no seat.
use Rattle.std.proofs.Common.{◌≡◌, ℕ, zero, suc, ◌+◌, ◌*◌, ◌/◌, ◌%◌, ◌<◌, ◌≤◌, ◌⊎◌, inl, inr, Bool, true, false, cond, List, [], ◌∷◌, map, get_or, None, refl, sym, ap, ◌∙◌, subst, arith, lt-ltb}
use Rattle.std.specs.Prelude.{fold}
use Rattle.std.specs.List.{range_with_len}
use Rattle.std.proofs.lemmas.Bool.{cases_lt, cases_Bool}
use Rattle.std.proofs.lemmas.Nat.{div-add-mod', div-mul-add, mod-mul-add}
use Rattle.list_laws.proofs.Lists.{In}
use Rattle.plain_map.specs.Keys.{no_key}
use Rattle.lasting_model.specs.Plans.{Plan, IsPlan, buckets_of}
use Rattle.lasting_model.specs.Laws.{ReadsHeld, HeldRowsAreKept}
use Rattle.lasting_model.specs.Steps as S
use Rattle.lasting_model.specs.Steps.{Stand, Step, Glance, Source, Sweep, SeatNow, Tried, HeldIn, Peeking, Peeks, Rests}
use Rattle.lasting_model.specs.Words.{first_row}
use Rattle.lasting_model.specs.Worlds.{Lasting, Event, OfSeat, OfReader, IsEvent, AreEvents, happens, act, ticked, seat_in, nobody, opening_world, opening_store, opening_seat, opening_named, world_after, peeks_on, Peek, Open, Peek_on}
use Rattle.lasting_laws.proofs.Pools.{owner_in, Pools, word_in}
use Rattle.lasting_laws.proofs.PoolEvents.{pools_keep, bucket_small}
use Rattle.lasting_laws.proofs.PoolsOpen.{pools_open, seat_is, of_range, fits, word_is, j_counted, p_inside}
use Rattle.lasting_laws.proofs.Marks.{not_in_word, free_owned}
use Rattle.lasting_laws.proofs.Holding as H
use Rattle.lasting_laws.proofs.HeldStates.{among, look_of, sweep_of, held_state}
use Rattle.lasting_laws.proofs.HeldSteps.{among_in}
use Rattle.lasting_laws.proofs.Tied.{Tied, Ties, HoldsOf, Listed, Wants}
use Rattle.lasting_laws.proofs.TiedRuns.{seat_ties}

-- past the end of a list there is what stands for nothing
past_range : {A : Type 0} (f : ℕ → A) (s n i : ℕ) (d : A) → n ≤ i → get_or (map f (range_with_len s n)) i d ≡ d
past_range f s zero i d h = refl
past_range f s (suc n) zero d h = absurd (omega (arith, h))
past_range f s (suc n) (suc i) d h = past_range f (s + 1) n i d (omega (arith, h))

-- ---- the opening

module _ (plan : Plan) (is_plan : IsPlan plan) where
  abbrev n : ℕ
  n = plan.settings.seats

  abbrev x : Lasting
  x = opening_world plan

  -- a seat, or nobody
  pub seat_or : (q : ℕ) → (seat_in x q ≡ opening_seat plan q) ⊎ (seat_in x q ≡ nobody)
  seat_or q = elim (cases_lt q n) [
    | inl less ↦ inl (seat_is plan is_plan q less)
    | inr past ↦ inr (past_range (opening_seat plan) 0 n q nobody past)
  ]

  pub idle : (q : ℕ) → (seat_in x q).stand ≡ S.Idle
  idle q = elim (seat_or q) [ inl e ↦ ap (λ (s : SeatNow). s.stand) e | inr e ↦ ap (λ (s : SeatNow). s.stand) e ]

  swept_none : (q : ℕ) → (seat_in x q).sweep ≡ None
  swept_none q = elim (seat_or q) [ inl e ↦ ap (λ (s : SeatNow). s.sweep) e | inr e ↦ ap (λ (s : SeatNow). s.sweep) e ]

  no_look : (q : ℕ) → look_of (seat_in x q).stand ≡ H.NoLook
  no_look q = ap look_of (idle q)

  -- the bucket of a first row
  abbrev home_of : (row : ℕ) → ℕ
  home_of row = row % plan.rows * n + row / plan.rows

  home_at : (p i : ℕ) → i < plan.rows → home_of (first_row plan p + i) ≡ i * n + p
  home_at p i less =
      ap (λ k. k * n + (p * plan.rows + i) / plan.rows) (mod-mul-add p plan.rows i less)
      ∙ ap (λ k. i * n + k) (div-mul-add p plan.rows i less)

  home_named : (p : ℕ) → p < n → (r : ℕ × ℕ) → In r (opening_named plan p) → home_of r.0 ≡ r.1
  home_named p less r i =
      let z = of_range (λ k. (first_row plan p + k, k * n + p)) 0 _ r i in
      let few = fits plan is_plan p less in
      ap (λ (y : ℕ × ℕ). home_of (y.0)) z.2 ∙ home_at p z.0 (omega (arith, z.1, few))
      ∙ ap (λ (y : ℕ × ℕ). y.1) (sym z.2)

  pub home_word : (b : ℕ) → b < buckets_of plan.settings → home_of (word_in x b) ≡ b
  home_word b less =
      let few = fits plan is_plan (b % n) (p_inside plan is_plan b less) in
      ap home_of (word_is plan is_plan b less)
      ∙ home_at (b % n) (b / n) (omega (arith, j_counted plan is_plan b less, few)) ∙ div-add-mod' b n

  not_among : (b : ℕ) → b < buckets_of plan.settings →
      among (seat_in x (owner_in plan (word_in x b))).free (word_in x b) ≡ false
  not_among b less = go (cases_Bool (among (seat_in x (owner_in plan (word_in x b))).free (word_in x b)))
    where
      pools : Pools plan x
      pools = pools_open plan is_plan

      go : (among (seat_in x (owner_in plan (word_in x b))).free (word_in x b) ≡ true)
          ⊎ (among (seat_in x (owner_in plan (word_in x b))).free (word_in x b) ≡ false) →
          among (seat_in x (owner_in plan (word_in x b))).free (word_in x b) ≡ false
      go (inr e) = e
      go (inl e) = absurd (not_in_word plan is_plan x pools (owner_in plan (word_in x b)) b
          (pools.placed b less).owned less
          refl (among_in (seat_in x (owner_in plan (word_in x b))).free (word_in x b) e))

  some_bucket : 0 < buckets_of plan.settings
  some_bucket = (let small = bucket_small plan no_key in omega (arith, small))

  abbrev s : H.State
  s = held_state plan x home_of (λ q r. false)

  not_waiting : (q : ℕ) → H.IsWaiting (s.look q) → ⊥
  not_waiting q w = subst H.IsWaiting (no_look q) w

  hold_is : (q : ℕ) → s.hold q ≡ H.Nothing
  unfolding opening_store
  hold_is q = refl

  want_is : (q : ℕ) → s.want q ≡ 0
  unfolding opening_store
  want_is q = refl

  holds_first : HoldsOf plan s
  holds_first = record {
    named = not_among;
    homes = home_word;
    inside = λ q. subst (λ k. k < buckets_of plan.settings) (sym (want_is q)) some_bucket;
    old = λ q t e. absurd (omega (arith, ap H.kind (sym (hold_is q) ∙ e)));
    asks = λ q w. absurd (not_waiting q w);
    loaded = λ q r e. absurd (omega (arith, ap H.look_kind (sym (no_look q) ∙ e)));
    reads = λ q r e. absurd (omega (arith, ap H.look_kind (sym (no_look q) ∙ e)));
    use_ = λ q w. absurd (not_waiting q w);
    few = λ q a. absurd (subst H.IsActive (no_look q) a);
    sweeps = λ p. subst (H.Sweeps (buckets_of plan.settings) n (owner_in plan) s p)
        (sym (ap sweep_of (swept_none p))) tt;
  }

  pub tied_open : Tied plan x
  tied_open = record {
    home = home_of;
    since = λ q r. false;
    holds = holds_first;
    homes = λ p r less i. home_listed p less r
        (subst (λ (k : SeatNow). Listed plan r k) (seat_is plan is_plan p less) i);
    wants = λ p less. subst (λ (k : Stand). Wants plan (x.store.want p) k) (sym (idle p)) tt;
  }
    where
      home_listed : (p : ℕ) → p < n → (r : ℕ × ℕ) → Listed plan r (opening_seat plan p) → home_of r.0 ≡ r.1
      home_listed p less r i = elim i [
        | inl a ↦ home_named p less r a
        | inr a ↦ elim a [ inl b ↦ absurd b | inr b ↦ absurd b ]
      ]

-- ---- runs

-- a reader changes nothing of it
pub reader_ties : (plan : Plan) (x : Lasting) (r : ℕ) (peek : Peek) → (t : Tied plan x) → Ties plan x t
    (happens plan x (OfReader r peek))
reader_ties plan x r (Open aim tries) t =
    record {
      next = record { home = t.home; since = t.since; holds = t.holds; homes = t.homes; wants = t.wants };
      step = λ q k e f a. inl (e, f, a);
    }
reader_ties plan x r Peek_on t = go (x.readers r).stand
  where
    go : (stand : Peeking) → Ties plan x t (ticked (peeks_on plan x r (x.readers r) stand))
    go Rests = record {
      next = record { home = t.home; since = t.since; holds = t.holds; homes = t.homes; wants = t.wants };
      step = λ q k e f a. inl (e, f, a);
    }
    go (Peeks aim glance) = record {
      next = record { home = t.home; since = t.since; holds = t.holds; homes = t.homes; wants = t.wants };
      step = λ q k e f a. inl (e, f, a);
    }

pub ties_keep : (plan : Plan) → IsPlan plan → (x : Lasting) → Pools plan x → (t : Tied plan x) → (event : Event) →
    IsEvent plan x event → Ties plan x t (happens plan x event)
ties_keep plan is x pools t (OfSeat p what) fits =
    subst (λ (b : Bool). Ties plan x t (cond b (ticked (act plan x p (seat_in x p) what)) x))
    (sym (lt-ltb p plan.settings.seats fits.0)) (seat_ties plan is x pools t p fits.0 what fits.1)
ties_keep plan is x pools t (OfReader r peek) fits = reader_ties plan x r peek t

ties_follow : (plan : Plan) → IsPlan plan → (events : List Event) (x : Lasting) → Pools plan x → Tied plan x →
    AreEvents plan x events → Pools plan (fold (happens plan) x events) × Tied plan (fold (happens plan) x events)
ties_follow plan is [] x pools t follow = (pools, t)
ties_follow plan is (event ∷ events) x pools t follow =
    ties_follow plan is events (happens plan x event) (pools_keep plan is x pools event follow.0)
    (ties_keep plan is x pools t event follow.0).next follow.1

-- where a seat reads what it holds
reads_look : (stand : Stand) (row : ℕ) → ReadsHeld stand row → look_of stand ≡ H.Reads row
reads_look S.Idle row r = absurd r
reads_look (S.Goes u (S.HeldNumber held)) row r = ap H.Reads r
reads_look (S.Goes u (S.HeldReply held)) row r = ap H.Reads r
reads_look (S.Goes u (S.Sweeps rows)) row r = absurd r
reads_look (S.Goes u (S.StoreOp i)) row r = absurd r
reads_look (S.Goes u S.Announce) row r = absurd r
reads_look (S.Goes u (S.LoadWord turn)) row r = absurd r
reads_look (S.Goes u (S.LoadRow turn word words)) row r = absurd r
reads_look (S.Goes u (S.CheckRow turn word words)) row r = absurd r
reads_look (S.Goes u (S.LoadAnnounced t found)) row r = absurd r
reads_look (S.Goes u (S.LoadOp t found announced words)) row r = absurd r
reads_look (S.Goes u (S.StoreRow t found i)) row r = absurd r
reads_look (S.Goes u (S.Exchange t found)) row r = absurd r
reads_look (S.Goes u S.StoreWant) row r = absurd r
reads_look (S.Goes u S.StoreAsking) row r = absurd r
reads_look (S.Goes u S.HeldWord) row r = absurd r
reads_look (S.Goes u (S.TakeHold old)) row r = absurd r
reads_look (S.Goes u S.Stuck) row r = absurd r
reads_look (S.Glances aim (S.GlanceCount (HeldIn held))) row r = ap H.Reads r
reads_look (S.Glances aim (S.GlanceItem (HeldIn held) scan)) row r = ap H.Reads r
reads_look (S.Glances aim (S.GlanceCount (Tried left word))) row r = absurd r
reads_look (S.Glances aim (S.GlanceItem (Tried left word) scan)) row r = absurd r
reads_look (S.Glances aim (S.GlanceWord left)) row r = absurd r
reads_look (S.Glances aim (S.GlanceCheck left word kept)) row r = absurd r
reads_look (S.Glances aim S.GlanceWant) row r = absurd r
reads_look (S.Glances aim S.GlanceAsking) row r = absurd r
reads_look (S.Glances aim S.GlanceHeld) row r = absurd r
reads_look (S.Glances aim (S.GlanceTake old)) row r = absurd r

-- THE RESULT
pub held_rows_are_kept : HeldRowsAreKept
held_rows_are_kept plan events seat other row run inside there reads = go
    (cases_Bool (among (seat_in x other).free row))
  where
    x : Lasting
    x = world_after plan events

    both : Pools plan x × Tied plan x
    both = ties_follow plan run.opened events (opening_world plan) (pools_open plan run.opened)
        (tied_open plan run.opened) run.follow

    live : among (seat_in x (owner_in plan row)).free row ≡ false
    live = (both.1.holds.reads seat row (reads_look (seat_in x seat).stand row reads)).1.0

    go : (among (seat_in x other).free row ≡ true) ⊎ (among (seat_in x other).free row ≡ false) →
        among (seat_in x other).free row ≡ false
    go (inr e) = e
    go (inl e) =
        let own = free_owned plan run.opened x both.0 other row there (among_in (seat_in x other).free row e) in
        ap (λ q. among (seat_in x q).free row) (sym own) ∙ live
