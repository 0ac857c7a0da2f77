-- Each event of a lasting table is one of the held look. So a row that is read under a hold is not free in any run.
use Rattle.std.proofs.Common.{◌≡◌, ◌≢◌, ℕ, ◌+◌, ◌<◌, ◌⊎◌, inl, inr, Bool, true, false, List, length, refl, sym, ap, ◌∙◌, subst, arith, get_or-set_same, get_or-set_other}
use Rattle.std.specs.Prelude.{◌==◌}
use Rattle.std.proofs.lemmas.Bool.{cases_eq, cases_Bool, eqb-true}
use Rattle.list_laws.proofs.Lists.{In}
use Rattle.word_rows.specs.Memory.{put}
use Rattle.word_rows.proofs.MemoryLemmas.{put_same, put_other}
use Rattle.lasting_model.specs.Plans.{Plan, ample, buckets_of}
use Rattle.lasting_model.specs.Codes.{row_in, asking, holding, is_asking, held_row}
use Rattle.lasting_model.specs.Words as W
use Rattle.lasting_model.specs.Words.{with_word}
use Rattle.lasting_model.specs.Steps as S
use Rattle.lasting_model.specs.Steps.{Step, Stand, Sweep, SeatNow, Update, Try, Aim, OfKey, OfBucket, Glance, Source, Scan, bucket_of_update, bucket_of_aim, next_row, next_generation, made}
use Rattle.lasting_model.specs.Worlds.{Lasting, Answer, IsAim, seat_in, with_seat, ticked, nobody}
use Rattle.lasting_laws.proofs.Lists.{either_put}
use Rattle.lasting_laws.proofs.Words.{asking_asks, time_of_asking, holding_asks_not, row_of_holding, holding_some}
use Rattle.lasting_laws.proofs.Pools.{owner_in, todo_of, gone_of, Pools, word_in}
use Rattle.lasting_laws.proofs.Holding as H
use Rattle.lasting_laws.proofs.HeldStates.{hold_of, among, look_of, sweep_of, held_state}
use Rattle.lasting_laws.proofs.HeldSteps.{hold_asks, hold_has, hold_none, asking_of}

-- equal at each place, states are equal
pub state_path : (s t : H.State) → ((b : ℕ) → s.word b ≡ t.word b) → ((r : ℕ) → s.home r ≡ t.home r) →
    ((r : ℕ) → s.free r ≡ t.free r) → ((q : ℕ) → s.hold q ≡ t.hold q) → ((q : ℕ) → s.want q ≡ t.want q) →
    ((q : ℕ) → s.time q ≡ t.time q) → ((q : ℕ) → s.look q ≡ t.look q) → ((q : ℕ) → s.sweep q ≡ t.sweep q) →
    ((q r : ℕ) → s.since q r ≡ t.since q r) → s ≡ t
state_path s t word home free hold want time look sweep since i = record {
  word = λ b. word b i;
  home = λ r. home r i;
  free = λ r. free r i;
  hold = λ q. hold q i;
  want = λ q. want q i;
  time = λ q. time q i;
  look = λ q. look q i;
  sweep = λ q. sweep q i;
  since = λ q r. since q r i;
}

-- what stood there already
pub put_still : {A : Type 0} (f : ℕ → A) (p : ℕ) (v : A) → v ≡ f p → (q : ℕ) → put f p v q ≡ f q
put_still f p v e q = elim (either_put f p v q) [
  | inl z ↦ z.1 ∙ e ∙ ap f (sym z.0)
  | inr n ↦ n.1
]

-- the bucket that a seat wants while it asks
abbrev pub WantStep : (want bucket : ℕ) → Step → Type 0
WantStep want bucket S.StoreAsking = want ≡ bucket
WantStep want bucket S.HeldWord = want ≡ bucket
WantStep want bucket step = Unit {0}

abbrev pub WantGlance : (want bucket : ℕ) → Glance → Type 0
WantGlance want bucket S.GlanceAsking = want ≡ bucket
WantGlance want bucket S.GlanceHeld = want ≡ bucket
WantGlance want bucket glance = Unit {0}

abbrev pub Wants : (plan : Plan) (want : ℕ) → Stand → Type 0
Wants plan want S.Idle = Unit {0}
Wants plan want (S.Goes u step) = WantStep want (bucket_of_update (ample plan) u) step
Wants plan want (S.Glances aim glance) = IsAim plan aim × WantGlance want (bucket_of_aim (ample plan) aim) glance

module _ (plan : Plan) where
  abbrev pub HoldsOf : H.State → Type 0
  HoldsOf = H.Holds (buckets_of plan.settings) plan.settings.seats (owner_in plan)

  -- the rows that a seat has named
  abbrev pub Listed : (r : ℕ × ℕ) → SeatNow → Type 0
  Listed r now = In r now.named ⊎ (In r (todo_of now.sweep) ⊎ In r (gone_of now.sweep))

  pub record Tied (x : Lasting) : Type 0 where
    pub home : ℕ → ℕ
    pub since : ℕ → ℕ → Bool
    pub holds : HoldsOf (held_state plan x home since)
    pub homes : (p : ℕ) (r : ℕ × ℕ) → p < plan.settings.seats → Listed r (seat_in x p) → home r.0 ≡ r.1
    pub wants : (p : ℕ) → p < plan.settings.seats → Wants plan (x.store.want p) (seat_in x p).stand

  -- a world after another one. What a seat that has asked may come to read it could read before, or it is the row in
  -- use
  -- of the bucket that it wants
  pub record Ties (x : Lasting) (tied : Tied x) (y : Lasting) : Type 0 where
    pub next : Tied y
    pub step : (q r : ℕ) → next.since q r ≡ true → among (seat_in y (owner_in plan r)).free r ≡ false →
        H.IsActive (look_of (seat_in y q).stand) →
        ((tied.since q r ≡ true) × (among (seat_in x (owner_in plan r)).free r ≡ false)
        × H.IsActive (look_of (seat_in x q).stand))
        ⊎ (r ≡ word_in y (y.store.want q))

  module _ (x : Lasting) (pools : Pools plan x) (tied : Tied x) (p : ℕ) (inside : p < plan.settings.seats) where
    abbrev now : SeatNow
    now = seat_in x p

    abbrev s : H.State
    s = held_state plan x tied.home tied.since

    long : p < length x.seats
    long = omega (arith, inside, pools.long)

    module _ (store : W.Store) (then : SeatNow) (answers : List Answer) where
      abbrev y : Lasting
      y = ticked (with_seat x p store then answers)

      mine : seat_in y p ≡ then
      mine = get_or-set_same x.seats p then nobody long

      others : (q : ℕ) → q ≢ p → seat_in y q ≡ seat_in x q
      others q n = get_or-set_other x.seats p q then nobody n

      -- what a seat has then
      seat_put : {A : Type 0} (F : SeatNow → A) (q : ℕ) → F (seat_in y q) ≡ put (λ k. F (seat_in x k)) p (F then) q
      seat_put F q = elim (either_put (λ k. F (seat_in x k)) p (F then) q) [
        | inl z ↦ ap F (ap (seat_in y) z.0 ∙ mine) ∙ sym z.1
        | inr z ↦ ap F (others q z.0) ∙ sym z.1
      ]

      -- it is this state then
      pub ties : (home : ℕ → ℕ) (since : ℕ → ℕ → Bool) (t : H.State) → HoldsOf t →
          ((b : ℕ) → row_in (store.bucket b) ≡ t.word b) → ((r : ℕ) → home r ≡ t.home r) →
          ((r : ℕ) → put (λ k. among (seat_in x k).free r) p (among then.free r) (owner_in plan r) ≡ t.free r) →
          ((q : ℕ) → hold_of (store.hold q) ≡ t.hold q) → ((q : ℕ) → store.want q ≡ t.want q) →
          ((q : ℕ) → put (λ k. (seat_in x k).time) p then.time q ≡ t.time q) →
          ((q : ℕ) → put (λ k. look_of (seat_in x k).stand) p (look_of then.stand) q ≡ t.look q) →
          ((q : ℕ) → put (λ k. sweep_of (seat_in x k).sweep) p (sweep_of then.sweep) q ≡ t.sweep q) →
          ((q r : ℕ) → since q r ≡ t.since q r) → ((r : ℕ × ℕ) → Listed r then → home r.0 ≡ r.1) →
          ((q : ℕ) (r : ℕ × ℕ) → q ≢ p → q < plan.settings.seats → Listed r (seat_in x q) → home r.0 ≡ r.1) →
          Wants plan (store.want p) then.stand → ((q : ℕ) → q ≢ p → store.want q ≡ x.store.want q) →
          ((q r : ℕ) → since q r ≡ true → t.free r ≡ false → H.IsActive (t.look q) →
          ((tied.since q r ≡ true) × (s.free r ≡ false) × H.IsActive (s.look q)) ⊎ (r ≡ t.word (t.want q))) →
          Ties x tied y
      ties home since t holds word homes free hold want time look sweep sinces own_homes other_homes own_want
          other_want step =
          record {
            step = λ q r e f a. elim (step q r e
                (sym (seat_put (λ k. among k.free r) (owner_in plan r) ∙ free r) ∙ f)
                (subst H.IsActive (seat_put (λ k. look_of k.stand) q ∙ look q) a)) [
                  | inl z ↦ inl z
                  | inr z ↦ inr (z ∙ sym (word (t.want q)) ∙ ap (λ k. row_in (store.bucket k)) (sym (want q)))
                ];
            next = record {
              home = home;
              since = since;
              holds = subst HoldsOf (sym (state_path (held_state plan y home since) t word homes
                  (λ r. seat_put (λ k. among k.free r) (owner_in plan r) ∙ free r) hold want
                  (λ q. seat_put (λ k. k.time) q ∙ time q) (λ q. seat_put (λ k. look_of k.stand) q ∙ look q)
                  (λ q. seat_put (λ k. sweep_of k.sweep) q ∙ sweep q) sinces)) holds;
              homes = λ q r less i. elim (cases_eq q p) [
                | inl e ↦ own_homes r (subst (Listed r) (ap (seat_in y) e ∙ mine) i)
                | inr n ↦ other_homes q r n less (subst (Listed r) (others q n) i)
              ];
              wants = λ q less. elim (cases_eq q p) [
                | inl e ↦
                    subst (λ (k : SeatNow). Wants plan (store.want q) k.stand) (sym (ap (seat_in y) e ∙ mine))
                    (subst (λ k. Wants plan (store.want k) then.stand) (sym e) own_want)
                | inr n ↦
                    subst (λ (k : SeatNow). Wants plan (store.want q) k.stand) (sym (others q n))
                    (subst (λ w. Wants plan w (seat_in x q).stand) (sym (other_want q n)) (tied.wants q less))
              ];
            };
          }

      -- what is not another
      pub record Still : Type 0 where
        pub bucket : (b : ℕ) → row_in (store.bucket b) ≡ word_in x b
        pub free : then.free ≡ now.free
        pub listed : (r : ℕ × ℕ) → Listed r then → Listed r now

      still_free : Still → (r : ℕ) →
          put (λ k. among (seat_in x k).free r) p (among then.free r) (owner_in plan r) ≡ s.free r
      still_free z r =
          put_still (λ k. among (seat_in x k).free r) p (among then.free r) (ap (λ fs. among fs r) z.free)
          (owner_in plan r)

      still_homes : Still → (r : ℕ × ℕ) → Listed r then → tied.home r.0 ≡ r.1
      still_homes z r i = tied.homes p r inside (z.listed r i)

      other_homes : (q : ℕ) (r : ℕ × ℕ) → q ≢ p → q < plan.settings.seats → Listed r (seat_in x q) →
          tied.home r.0 ≡ r.1
      other_homes q r n less i = tied.homes q r less i

      -- a step that only the seat itself knows of
      pub quietly : Still → ((q : ℕ) → store.hold q ≡ x.store.hold q) → ((q : ℕ) → store.want q ≡ x.store.want q) →
          then.time ≡ now.time → look_of then.stand ≡ look_of now.stand → sweep_of then.sweep ≡ sweep_of now.sweep →
          Wants plan (store.want p) then.stand → Ties x tied y
      quietly z hold want time look sweep wants =
          ties tied.home tied.since s tied.holds z.bucket (λ r. refl) (still_free z) (λ q. ap hold_of (hold q)) want
          (put_still (λ k. (seat_in x k).time) p then.time time)
          (put_still (λ k. look_of (seat_in x k).stand) p (look_of then.stand) look)
          (put_still (λ k. sweep_of (seat_in x k).sweep) p (sweep_of then.sweep) sweep) (λ q r. refl) (still_homes z)
          other_homes wants (λ q n. want q) (λ q r e f a. inl (e, f, a))

      -- who has asked had asked before, where that is known of the seat itself
      active : (look : H.Look) → (H.IsActive look → H.IsActive (s.look p)) → (q : ℕ) →
          H.IsActive (put s.look p look q) → H.IsActive (s.look q)
      active look acts q a = elim (either_put s.look p look q) [
        | inl z ↦ subst (λ j. H.IsActive (s.look j)) (sym z.0) (acts (subst H.IsActive z.1 a))
        | inr z ↦ subst H.IsActive z.1 a
      ]

      -- its look goes on, by loads alone
      pub look_moves : Still → ((q : ℕ) → store.hold q ≡ x.store.hold q) → ((q : ℕ) → store.want q ≡ x.store.want q) →
          then.time ≡ now.time → sweep_of then.sweep ≡ sweep_of now.sweep → (look : H.Look) →
          look_of then.stand ≡ look → HoldsOf (H.moved (buckets_of plan.settings) plan.settings.seats
          (owner_in plan) s p look) →
          Wants plan (store.want p) then.stand → (H.IsActive look → H.IsActive (look_of now.stand)) → Ties x tied y
      look_moves z hold want time sweep look is holds wants acts =
          ties tied.home tied.since (H.moved (buckets_of plan.settings) plan.settings.seats
          (owner_in plan) s p look) holds
          z.bucket (λ r. refl) (still_free z) (λ q. ap hold_of (hold q)) want
          (put_still (λ k. (seat_in x k).time) p then.time time)
          (λ q. ap (λ l. put (λ k. look_of (seat_in x k).stand) p l q) is)
          (put_still (λ k. sweep_of (seat_in x k).sweep) p (sweep_of then.sweep) sweep) (λ q r. refl) (still_homes z)
          other_homes wants (λ q n. want q) (λ q r e f a. inl (e, f, active look acts q a))

      -- it stores what it wants
      pub want_stored : (b : ℕ) → b < buckets_of plan.settings → Still → ((q : ℕ) → store.hold q ≡ x.store.hold q) →
          ((q : ℕ) → store.want q ≡ put x.store.want p b q) → then.time ≡ now.time →
          sweep_of then.sweep ≡ sweep_of now.sweep → look_of now.stand ≡ H.NoLook → look_of then.stand ≡ H.Chosen →
          Wants plan (store.want p) then.stand → Ties x tied y
      want_stored b small z hold want time sweep was is wants =
          let bs = buckets_of plan.settings in
          let n = plan.settings.seats in
          let o = owner_in plan in
          let s1 = H.moved bs n o s p H.Chosen in
          let h1 = H.choose_keeps bs n o s tied.holds p was in
          let h2 = H.wanted_keeps bs n o s1 h1 p b (put_same s.look p H.Chosen) small in
          ties tied.home tied.since (H.wanted bs n o s1 p b) h2 z.bucket (λ r. refl) (still_free z)
          (λ q. ap hold_of (hold q)) want (put_still (λ k. (seat_in x k).time) p then.time time)
          (λ q. ap (λ l. put (λ k. look_of (seat_in x k).stand) p l q) is)
          (put_still (λ k. sweep_of (seat_in x k).sweep) p (sweep_of then.sweep) sweep) (λ q r. refl) (still_homes z)
          other_homes wants (λ q m. want q ∙ put_other x.store.want p b q m)
          (λ q r e f a. inl (e, f, active H.Chosen (λ b. absurd b) q a))

      hold_put : (word : ℕ) (h : H.Hold) → hold_of word ≡ h → ((q : ℕ) → store.hold q ≡ put x.store.hold p word q) →
          (q : ℕ) → hold_of (store.hold q) ≡ put s.hold p h q
      hold_put word h is hold q = elim (cases_eq q p) [
        | inl e ↦
            ap hold_of (hold q ∙ ap (put x.store.hold p word) e ∙ put_same x.store.hold p word) ∙ is
            ∙ sym (ap (put s.hold p h) e ∙ put_same s.hold p h)
        | inr n ↦ ap hold_of (hold q ∙ put_other x.store.hold p word q n) ∙ sym (put_other s.hold p h q n)
      ]

      -- it asks
      pub asked : Still → ((q : ℕ) → store.hold q ≡ put x.store.hold p (asking (now.time + 1)) q) →
          ((q : ℕ) → store.want q ≡ x.store.want q) → then.time ≡ now.time + 1 →
          sweep_of then.sweep ≡ sweep_of now.sweep → look_of now.stand ≡ H.Chosen → look_of then.stand ≡ H.Asked →
          Wants plan (store.want p) then.stand → Ties x tied y
      asked z hold want time sweep was is wants =
          let bs = buckets_of plan.settings in
          let n = plan.settings.seats in
          let o = owner_in plan in
          let word = asking (now.time + 1) in
          let code : hold_of word ≡ H.Asking (now.time + 1) =
          hold_asks word (asking_asks (now.time + 1)) ∙ ap H.Asking (time_of_asking (now.time + 1)) in
          ties tied.home (put tied.since p (λ r. r == s.word (s.want p))) (H.asked_by bs n o s p)
          (H.asked_keeps bs n o s tied.holds p was inside) z.bucket (λ r. refl) (still_free z)
          (hold_put word (H.Asking (now.time + 1)) code hold) want
          (λ q. ap (λ k. put (λ j. (seat_in x j).time) p k q) time)
          (λ q. ap (λ l. put (λ k. look_of (seat_in x k).stand) p l q) is)
          (put_still (λ k. sweep_of (seat_in x k).sweep) p (sweep_of then.sweep) sweep) (λ q r. refl) (still_homes z)
          other_homes wants (λ q m. want q)
          (λ q r e f a. elim (cases_eq q p) [
            | inl z ↦ inr (eqb-true r (s.word (s.want p))
                (sym (ap (λ (g : ℕ → Bool). g r) (ap (put tied.since p (λ k. k == s.word (s.want p))) z
                ∙ put_same tied.since p (λ k. k == s.word (s.want p)))) ∙ e)
                ∙ ap (λ k. s.word (s.want k)) (sym z))
            | inr m ↦ inl (
              sym (ap (λ (g : ℕ → Bool). g r) (put_other tied.since p (λ k. k == s.word (s.want p)) q m)) ∙ e,
              f,
              subst H.IsActive (put_other s.look p H.Asked q m) a,
            )
          ])

      -- it takes hold of the row that it has loaded
      pub takes : (row : ℕ) → Still → ((q : ℕ) → store.hold q ≡ put x.store.hold p (holding row) q) →
          ((q : ℕ) → store.want q ≡ x.store.want q) → then.time ≡ now.time →
          sweep_of then.sweep ≡ sweep_of now.sweep → look_of now.stand ≡ H.Loaded row →
          x.store.hold p ≡ asking now.time → look_of then.stand ≡ H.Reads row → Wants plan (store.want p) then.stand →
          Ties x tied y
      takes row z hold want time sweep was asks is wants =
          let bs = buckets_of plan.settings in
          let n = plan.settings.seats in
          let o = owner_in plan in
          let code : hold_of (holding row) ≡ H.Holding row =
          hold_has (holding row) (holding_some row) (holding_asks_not row) ∙ ap H.Holding (row_of_holding row) in
          let asked_for : s.hold p ≡ H.Asking now.time =
          ap hold_of asks ∙ hold_asks (asking now.time) (asking_asks now.time)
          ∙ ap H.Asking (time_of_asking now.time) in
          ties tied.home tied.since (H.taken bs n o s p row)
          (H.taken_keeps bs n o s tied.holds p row was asked_for) z.bucket (λ r. refl) (still_free z)
          (hold_put (holding row) (H.Holding row) code hold) want
          (put_still (λ k. (seat_in x k).time) p then.time time)
          (λ q. ap (λ l. put (λ k. look_of (seat_in x k).stand) p l q) is)
          (put_still (λ k. sweep_of (seat_in x k).sweep) p (sweep_of then.sweep) sweep) (λ q r. refl) (still_homes z)
          other_homes wants (λ q m. want q)
          (λ q r e f a. inl (e, f, active (H.Reads row) (λ b. subst H.IsActive (sym was) tt) q a))

    -- ---- holds of looks

    abbrev Moved : H.Look → Type 0
    Moved look = HoldsOf (H.moved (buckets_of plan.settings) plan.settings.seats (owner_in plan) s p look)

    pub loaded : (b : ℕ) → look_of now.stand ≡ H.Asked → x.store.want p ≡ b → Moved (H.Loaded (word_in x b))
    loaded b was want =
        subst (λ k. Moved (H.Loaded (word_in x k))) want
        (H.load_keeps (buckets_of plan.settings) plan.settings.seats (owner_in plan) s tied.holds p was)

    pub given : (row : ℕ) → look_of now.stand ≡ H.Loaded row → (word : ℕ) → x.store.hold p ≡ word →
        word ≢ asking now.time →
        Moved (H.Reads (held_row word))
    given row was word is other =
        H.given_keeps (buckets_of plan.settings) plan.settings.seats (owner_in plan) s tied.holds p row
        (held_row word) was
        holds_it
      where
        waits : H.IsWaiting (s.look p)
        waits = subst H.IsWaiting (sym was) tt

        not_asking : (t : ℕ) → hold_of word ≡ H.Asking t → word ≡ asking t
        not_asking t e = go (cases_Bool (is_asking word))
          where
            go : (is_asking word ≡ true) ⊎ (is_asking word ≡ false) → word ≡ asking t
            go (inl a) = asking_of word a ∙ ap asking (ap H.of_hold (sym (hold_asks word a) ∙ e))
            go (inr a) = elim (cases_eq word 0) [
              | inl z ↦ absurd (omega (arith, ap H.kind (sym (hold_none word z) ∙ e)))
              | inr n ↦ absurd (omega (arith, ap H.kind (sym (hold_has word n a) ∙ e)))
            ]

        it_holds : (r : ℕ) → hold_of word ≡ H.Holding r → hold_of word ≡ H.Holding (held_row word)
        it_holds r e = elim (cases_eq word 0) [
          | inl z ↦ absurd (omega (arith, ap H.kind (sym (hold_none word z) ∙ e)))
          | inr n ↦ go n (cases_Bool (is_asking word))
        ]
          where
            go : word ≢ 0 → (is_asking word ≡ true) ⊎ (is_asking word ≡ false) → hold_of word ≡ H.Holding
                (held_row word)
            go n (inl a) = absurd (omega (arith, ap H.kind (sym (hold_asks word a) ∙ e)))
            go n (inr a) = hold_has word n a

        holds_it : s.hold p ≡ H.Holding (held_row word)
        holds_it = elim (tied.holds.asks p waits) [
          | inl e ↦ absurd (other (not_asking now.time (ap hold_of (sym is) ∙ e)))
          | inr z ↦ ap hold_of is ∙ it_holds z.0 (ap hold_of (sym is) ∙ z.1)
        ]

    pub has_read : (row : ℕ) → look_of now.stand ≡ H.Reads row → Moved H.NoLook
    has_read row was = H.end_keeps (buckets_of plan.settings) plan.settings.seats (owner_in plan) s tied.holds p row was
