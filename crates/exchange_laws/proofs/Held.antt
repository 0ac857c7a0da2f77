-- A world whose rows agree with what is said of them: who owns them, and which are free. What an event leaves of that.
use Rattle.std.proofs.Common.{◌≡◌, ◌≢◌, ℕ, ◌+◌, ◌<◌, ◌≤◌, ◌⊎◌, inl, inr, Bool, true, false, cond, List, [], ◌∷◌, ◌++◌, length, drop, Option, Some, None, refl, sym, ap, ◌∙◌, subst, arith, true≢false, get_or-set_same, get_or-set_other}
use Rattle.std.specs.Prelude.{◌==◌, ◌||◌}
use Rattle.std.proofs.lemmas.Bool.{cases_eq, cases_lt, cases_Bool, eq-eqb, ne_eqb, eqb-true, eqb-false}
use Rattle.list_laws.proofs.Totals.{many, one_if}
use Rattle.word_rows.specs.Memory.{put}
use Rattle.word_rows.proofs.MemoryLemmas.{put_same, put_other}
use Rattle.exchange_model.specs.Plans.{Plan, holders_of, buckets_of}
use Rattle.exchange_model.specs.Codes.{row_in, asking, holding, is_asking, held_row}
use Rattle.exchange_model.specs.Words as W
use Rattle.exchange_model.specs.Steps as S
use Rattle.exchange_model.specs.Steps.{MadeBySeat, Step, Stand, Scan, SeatNow, Glance, bucket_of_call, bucket_of_aim, next_row}
use Rattle.exchange_model.specs.Goes.{ScanFate, ScansOn, Scanned}
use Rattle.exchange_model.specs.Worlds.{World, Answer, IsAim, seat_in, with_seat, ticked, nobody}
use Rattle.exchange_laws.proofs.Places.{either_put}
use Rattle.exchange_laws.proofs.RowLists.{is_row, flag, both, without_first, first_there}
use Rattle.exchange_laws.proofs.Owned.{Place, InWord, WithSeat, Owned, word_in, left_of, held_of, not_both}
use Rattle.exchange_laws.proofs.Holding as H
use Rattle.exchange_laws.proofs.HoldingScans as HS
use Rattle.exchange_laws.proofs.HeldStates.{hold_of, among, look_of, sweep_of, held_state, among_some, some_among, asking_asks, time_of_asking, holding_asks_not, row_of_holding, holding_some, hold_none, hold_asks, hold_has, asking_of}
use Rattle.exchange_laws.proofs.HeldScans.{Arrives}

-- equal at each place, states are equal
pub state_path : (s t : H.State) → ((b : ℕ) → s.word b ≡ t.word b) → ((q : ℕ) → s.hold q ≡ t.hold q) →
    ((q : ℕ) → s.want q ≡ t.want q) → ((q : ℕ) → s.time q ≡ t.time q) → ((q : ℕ) → s.look q ≡ t.look q) →
    ((q : ℕ) → s.sweep q ≡ t.sweep q) → s.owner ≡ t.owner → s.free ≡ t.free → s.since ≡ t.since → s ≡ t
state_path s t word hold want time look sweep owner free since i = record {
  word = λ b. word b i;
  owner = owner i;
  free = free i;
  hold = λ q. hold q i;
  want = λ q. want q i;
  time = λ q. time q i;
  look = λ q. look q i;
  sweep = λ q. sweep q i;
  since = since i;
}

-- what stood there already
pub put_still : {A : Type 0} (f : ℕ → A) (p : ℕ) (v : A) → v ≡ f p → (q : ℕ) → put f p v q ≡ f q
put_still f p v e q = elim (either_put f p v q) [
  | inl z ↦ z.1 ∙ e ∙ ap f (sym z.0)
  | inr n ↦ n.1
]

-- the bucket that a seat wants while it asks
abbrev pub WantStep : (want bucket : ℕ) → Step → Type 0
WantStep want bucket S.StoreAsking = want ≡ bucket
WantStep want bucket S.HeldWord = want ≡ bucket
WantStep want bucket step = Unit {0}

abbrev pub WantGlance : (want bucket : ℕ) → Glance → Type 0
WantGlance want bucket S.GlanceAsking = want ≡ bucket
WantGlance want bucket S.GlanceHeld = want ≡ bucket
WantGlance want bucket glance = Unit {0}

abbrev pub Wants : (plan : Plan) (want : ℕ) → Stand → Type 0
Wants plan want S.Idle = Unit {0}
Wants plan want (S.Goes call step) = WantStep want (bucket_of_call plan call) step
Wants plan want (S.Glances aim glance) = IsAim plan aim × WantGlance want (bucket_of_aim plan aim) glance

-- how often a row is with a seat and not among its free ones
abbrev pub kept_times : (row : ℕ) → (kept : List ℕ) → Option Scan → ℕ
kept_times row kept scan =
    many (is_row row) kept + (many (is_row row) (left_of scan) + many (is_row row) (held_of scan))

-- the rows of a seat are its own; the free ones are free, and no others
pub record Agrees (owner : ℕ → ℕ) (free_rows : ℕ → Bool) (p : ℕ) (free kept : List ℕ)
    (scan : Option Scan) : Type 0 where
  pub owners : (r : ℕ) → 1 ≤ many (is_row r) free + kept_times r kept scan → owner r ≡ p
  pub frees : (r : ℕ) → 1 ≤ many (is_row r) free → free_rows r ≡ true
  pub lives : (r : ℕ) → 1 ≤ kept_times r kept scan → free_rows r ≡ false

abbrev pub AgreesAt : (ℕ → ℕ) → (ℕ → Bool) → (p : ℕ) → SeatNow → Type 0
AgreesAt owner free_rows p s = Agrees owner free_rows p s.free s.kept s.scan

-- how often a row is in what a scan leads to
abbrev pub fate_times : (row : ℕ) → ScanFate → ℕ
fate_times row (ScansOn scan) = many (is_row row) (left_of (Some scan)) + many (is_row row) (held_of (Some scan))
fate_times row (Scanned left held) = many (is_row row) left + many (is_row row) held

-- the lists of a seat then
abbrev pub LeadsTo : (free kept : List ℕ) → ScanFate → (free_then kept_then : List ℕ) → Option Scan → Type 0
LeadsTo free kept (ScansOn scan) free_then kept_then scan_then =
    (free_then ≡ free) × (kept_then ≡ kept) × (scan_then ≡ Some scan)
LeadsTo free kept (Scanned left held) free_then kept_then scan_then =
    (free_then ≡ free ++ left) × (kept_then ≡ kept ++ held) × (scan_then ≡ None)

module _ (plan : Plan) where
  abbrev pub HoldsOf : H.State → Type 0
  HoldsOf = H.Holds (buckets_of plan.settings) (holders_of plan.settings)

  -- what is said beside a world
  pub record Tied (x : World) : Type 0 where
    pub owner : ℕ → ℕ
    pub free : ℕ → Bool
    pub since : ℕ → ℕ → Bool
    pub holds : HoldsOf (held_state plan x owner free since)
    pub agrees : (p : ℕ) → p < holders_of plan.settings → AgreesAt owner free p (seat_in x p)
    pub wants : (p : ℕ) → p < holders_of plan.settings → Wants plan (x.store.want p) (seat_in x p).stand

  -- what is said beside a later moment. A row that somebody who looks may have read since it asked, and which is not
  -- free, was so before; or it has come into the word of the bucket that is wanted
  pub record Ties (x : World) (tied : Tied x) (y : World) : Type 0 where
    pub then : Tied y
    pub fresh : (q r : ℕ) → H.IsActive (look_of plan (seat_in y q).stand) → then.since q r ≡ true →
        then.free r ≡ false →
        (H.IsActive (look_of plan (seat_in x q).stand) × (tied.since q r ≡ true) × (tied.free r ≡ false))
        ⊎ (word_in plan y (y.store.want q) ≡ r)

  module _ (x : World) (owned : Owned plan x) (tied : Tied x) (p : ℕ) (inside : p < holders_of plan.settings) where
    abbrev now : SeatNow
    now = seat_in x p

    abbrev s : H.State
    s = held_state plan x tied.owner tied.free tied.since

    abbrev bs : ℕ
    bs = buckets_of plan.settings

    abbrev n : ℕ
    n = (holders_of plan.settings)

    long : p < length x.seats
    long = omega (arith, inside, owned.long)

    -- a row of a seat stands once
    pub once : (q : ℕ) → q < n → (r : ℕ) →
        many (is_row r) (seat_in x q).free + kept_times r (seat_in x q).kept (seat_in x q).scan ≤ 1
    once q less r = (owned.seats q less).rows.once r

    -- and is with that seat
    pub mine_at : (q : ℕ) → q < n → (r : ℕ) →
        1 ≤ many (is_row r) (seat_in x q).free + kept_times r (seat_in x q).kept (seat_in x q).scan →
        owned.at r ≡ WithSeat q
    mine_at q less r h = ((owned.seats q less).rows.mine r h).0

    module _ (store : W.Store) (then : SeatNow) (answers : List Answer) (updates : List MadeBySeat) where
      abbrev y : World
      y = ticked (with_seat x p store then answers updates)

      mine : seat_in y p ≡ then
      mine = get_or-set_same x.seats p then nobody long

      others : (q : ℕ) → q ≢ p → seat_in y q ≡ seat_in x q
      others q m = get_or-set_other x.seats p q then nobody m

      -- what a seat has then
      seat_put : {A : Type 0} (F : SeatNow → A) (q : ℕ) → F (seat_in y q) ≡ put (λ k. F (seat_in x k)) p (F then) q
      seat_put F q = elim (either_put (λ k. F (seat_in x k)) p (F then) q) [
        | inl z ↦ ap F (ap (seat_in y) z.0 ∙ mine) ∙ sym z.1
        | inr z ↦ ap F (others q z.0) ∙ sym z.1
      ]

      -- a row that may be read in this state was one before, or is in the word that is wanted
      abbrev pub Fresh : H.State → Type 0
      Fresh t =
          (q r : ℕ) → H.IsActive (t.look q) → t.since q r ≡ true → t.free r ≡ false →
          (H.IsActive (s.look q) × (s.since q r ≡ true) × (s.free r ≡ false))
          ⊎ (row_in plan (store.bucket (store.want q)) ≡ r)

      -- where nothing of it is another then
      as_before : Fresh s
      as_before q r active since live = inl (active, since, live)

      -- where one seat looks on
      look_before : (now_look : H.Look) → (H.IsActive now_look → H.IsActive (s.look p)) → (q : ℕ) →
          H.IsActive (put s.look p now_look q) → H.IsActive (s.look q)
      look_before now_look was q active = elim (either_put s.look p now_look q) [
        | inl e ↦ subst (λ k. H.IsActive (s.look k)) (sym e.0) (was (subst H.IsActive e.1 active))
        | inr e ↦ subst H.IsActive e.1 active
      ]

      -- it is this state then
      pub ties : (t : H.State) → HoldsOf t → ((b : ℕ) → row_in plan (store.bucket b) ≡ t.word b) →
          ((q : ℕ) → hold_of (store.hold q) ≡ t.hold q) → ((q : ℕ) → store.want q ≡ t.want q) →
          ((q : ℕ) → put (λ k. (seat_in x k).time) p then.time q ≡ t.time q) →
          ((q : ℕ) → put (λ k. look_of plan (seat_in x k).stand) p (look_of plan then.stand) q ≡ t.look q) →
          ((q : ℕ) → put (λ k. sweep_of (seat_in x k).scan) p (sweep_of then.scan) q ≡ t.sweep q) →
          AgreesAt t.owner t.free p then →
          ((q : ℕ) → q ≢ p → q < n → AgreesAt t.owner t.free q (seat_in x q)) →
          Wants plan (store.want p) then.stand → ((q : ℕ) → q ≢ p → store.want q ≡ x.store.want q) → Fresh t →
          Ties x tied y
      ties t holds word hold want time look sweep own other own_want other_want fresh = record {
        then = tied_then;
        fresh = λ q r active since live.
            fresh q r (subst H.IsActive (seat_put (λ k. look_of plan k.stand) q ∙ look q) active) since live;
      }
        where
          tied_then : Tied y
          tied_then = record {
            owner = t.owner;
            free = t.free;
            since = t.since;
            holds = subst HoldsOf (sym (state_path (held_state plan y t.owner t.free t.since) t word hold want
                (λ q. seat_put (λ k. k.time) q ∙ time q) (λ q. seat_put (λ k. look_of plan k.stand) q ∙ look q)
                (λ q. seat_put (λ k. sweep_of k.scan) q ∙ sweep q) refl refl refl)) holds;
            agrees = λ q less. elim (cases_eq q p) [
              | inl e ↦ subst (λ i. AgreesAt t.owner t.free i (seat_in y i)) (sym e)
                  (subst (AgreesAt t.owner t.free p) (sym mine) own)
              | inr m ↦ subst (AgreesAt t.owner t.free q) (sym (others q m)) (other q m less)
            ];
            wants = λ q less. elim (cases_eq q p) [
              | inl e ↦
                  subst (λ (k : SeatNow). Wants plan (store.want q) k.stand) (sym (ap (seat_in y) e ∙ mine))
                  (subst (λ k. Wants plan (store.want k) then.stand) (sym e) own_want)
              | inr m ↦
                  subst (λ (k : SeatNow). Wants plan (store.want q) k.stand) (sym (others q m))
                  (subst (λ w. Wants plan w (seat_in x q).stand) (sym (other_want q m)) (tied.wants q less))
            ];
          }

      -- rows and scan are as they were
      pub record Still : Type 0 where
        pub bucket : (b : ℕ) → row_in plan (store.bucket b) ≡ word_in plan x b
        pub free : then.free ≡ now.free
        pub kept : then.kept ≡ now.kept
        pub scan : then.scan ≡ now.scan

      own_still : Still → AgreesAt tied.owner tied.free p then
      own_still z =
          subst (λ (fs : List ℕ). Agrees tied.owner tied.free p fs then.kept then.scan) (sym z.free)
          (subst (λ (ks : List ℕ). Agrees tied.owner tied.free p now.free ks then.scan) (sym z.kept)
          (subst (λ (sc : Option Scan). Agrees tied.owner tied.free p now.free now.kept sc) (sym z.scan)
          (tied.agrees p inside)))

      other_still : (q : ℕ) → q ≢ p → q < n → AgreesAt tied.owner tied.free q (seat_in x q)
      other_still q m less = tied.agrees q less

      sweep_still : Still → (q : ℕ) → put (λ k. sweep_of (seat_in x k).scan) p (sweep_of then.scan) q ≡ s.sweep q
      sweep_still z = put_still (λ k. sweep_of (seat_in x k).scan) p (sweep_of then.scan) (ap sweep_of z.scan)

      -- a step that only the seat itself knows of
      pub quietly : Still → ((q : ℕ) → store.hold q ≡ x.store.hold q) → ((q : ℕ) → store.want q ≡ x.store.want q) →
          then.time ≡ now.time → look_of plan then.stand ≡ look_of plan now.stand →
          Wants plan (store.want p) then.stand → Ties x tied y
      quietly z hold want time look wants =
          ties s tied.holds z.bucket (λ q. ap hold_of (hold q)) want
          (put_still (λ k. (seat_in x k).time) p then.time time)
          (put_still (λ k. look_of plan (seat_in x k).stand) p (look_of plan then.stand) look) (sweep_still z)
          (own_still z)
          other_still wants (λ q m. want q) as_before

      -- its look goes on, by loads alone
      pub look_moves : Still → ((q : ℕ) → store.hold q ≡ x.store.hold q) → ((q : ℕ) → store.want q ≡ x.store.want q) →
          then.time ≡ now.time → (look : H.Look) → look_of plan then.stand ≡ look → HoldsOf (H.moved bs n s p look) →
          (H.IsActive look → H.IsActive (s.look p)) → Wants plan (store.want p) then.stand → Ties x tied y
      look_moves z hold want time look is holds was_active wants =
          ties (H.moved bs n s p look) holds z.bucket (λ q. ap hold_of (hold q)) want
          (put_still (λ k. (seat_in x k).time) p then.time time)
          (λ q. ap (λ l. put (λ k. look_of plan (seat_in x k).stand) p l q) is) (sweep_still z)
          (own_still z) other_still wants
          (λ q m. want q)
          (λ q r active since live. inl (look_before look was_active q active, since, live))

      -- it stores what it wants
      pub want_stored : (b : ℕ) → b < bs → Still → ((q : ℕ) → store.hold q ≡ x.store.hold q) →
          ((q : ℕ) → store.want q ≡ put x.store.want p b q) → then.time ≡ now.time → look_of plan now.stand ≡ H.NoLook →
          look_of plan then.stand ≡ H.Chosen → Wants plan (store.want p) then.stand → Ties x tied y
      want_stored b small z hold want time was is wants =
          let s1 = H.moved bs n s p H.Chosen in
          let h1 = H.choose_keeps bs n s tied.holds p was in
          let h2 = H.wanted_keeps bs n s1 h1 p b (put_same s.look p H.Chosen) small in
          ties (H.wanted bs n s1 p b) h2 z.bucket (λ q. ap hold_of (hold q)) want
          (put_still (λ k. (seat_in x k).time) p then.time time)
          (λ q. ap (λ l. put (λ k. look_of plan (seat_in x k).stand) p l q) is) (sweep_still z)
          (own_still z) other_still wants
          (λ q m. want q ∙ put_other x.store.want p b q m)
          (λ q r active since live. inl (look_before H.Chosen (λ a. absurd a) q active, since, live))

      hold_put : (word : ℕ) (h : H.Hold) → hold_of word ≡ h → ((q : ℕ) → store.hold q ≡ put x.store.hold p word q) →
          (q : ℕ) → hold_of (store.hold q) ≡ put s.hold p h q
      hold_put word h is hold q = elim (cases_eq q p) [
        | inl e ↦
            ap hold_of (hold q ∙ ap (put x.store.hold p word) e ∙ put_same x.store.hold p word) ∙ is
            ∙ sym (ap (put s.hold p h) e ∙ put_same s.hold p h)
        | inr m ↦ ap hold_of (hold q ∙ put_other x.store.hold p word q m) ∙ sym (put_other s.hold p h q m)
      ]

      -- it asks
      pub asked : Still → ((q : ℕ) → store.hold q ≡ put x.store.hold p (asking (now.time + 1)) q) →
          ((q : ℕ) → store.want q ≡ x.store.want q) → then.time ≡ now.time + 1 → look_of plan now.stand ≡ H.Chosen →
          look_of plan then.stand ≡ H.Asked → Wants plan (store.want p) then.stand → Ties x tied y
      asked z hold want time was is wants =
          let word = asking (now.time + 1) in
          let code : hold_of word ≡ H.Asking (now.time + 1) =
          hold_asks word (asking_asks (now.time + 1)) ∙ ap H.Asking (time_of_asking (now.time + 1)) in
          ties (H.asked_by bs n s p) (H.asked_keeps bs n s tied.holds p was inside) z.bucket
          (hold_put word (H.Asking (now.time + 1)) code hold) want
          (λ q. ap (λ k. put (λ j. (seat_in x j).time) p k q) time)
          (λ q. ap (λ l. put (λ k. look_of plan (seat_in x k).stand) p l q) is) (sweep_still z)
          (own_still z) other_still wants
          (λ q m. want q)
          (λ q r active since live. elim (either_put s.since p (λ k. k == s.word (s.want p)) q) [
            | inl e ↦
                let is_row : r ≡ word_in plan x (x.store.want p) =
                eqb-true r (word_in plan x (x.store.want p)) (sym (ap (λ (f : ℕ → Bool). f r) e.1) ∙ since) in
                inr (z.bucket (store.want q) ∙ ap (word_in plan x) (want q ∙ ap x.store.want e.0) ∙ sym is_row)
            | inr e ↦ inl (
              subst H.IsActive (put_other s.look p H.Asked q e.0) active,
              sym (ap (λ (f : ℕ → Bool). f r) e.1) ∙ since,
              live,
            )
          ])

      -- it gives its hold back
      pub gives_back : Still → ((q : ℕ) → store.hold q ≡ put x.store.hold p 0 q) →
          ((q : ℕ) → store.want q ≡ x.store.want q) → then.time ≡ now.time → look_of plan now.stand ≡ H.NoLook →
          look_of plan then.stand ≡ H.NoLook → Wants plan (store.want p) then.stand → Ties x tied y
      gives_back z hold want time was is wants =
          ties (H.returned bs n s p) (H.returned_keeps bs n s tied.holds p was) z.bucket
          (hold_put 0 H.Nothing (hold_none 0 refl) hold) want
          (put_still (λ k. (seat_in x k).time) p then.time time)
          (put_still (λ k. look_of plan (seat_in x k).stand) p (look_of plan then.stand) (is ∙ sym was)) (sweep_still z)
          (own_still z) other_still wants (λ q m. want q) as_before

      -- it takes hold of the row that it has loaded
      pub takes : (row : ℕ) → Still → ((q : ℕ) → store.hold q ≡ put x.store.hold p (holding row) q) →
          ((q : ℕ) → store.want q ≡ x.store.want q) → then.time ≡ now.time → look_of plan now.stand ≡ H.Loaded row →
          x.store.hold p ≡ asking now.time → look_of plan then.stand ≡ H.Reads row →
          Wants plan (store.want p) then.stand →
          Ties x tied y
      takes row z hold want time was asks is wants =
          let code : hold_of (holding row) ≡ H.Holding row =
          hold_has (holding row) (holding_some row) (holding_asks_not row) ∙ ap H.Holding (row_of_holding row) in
          let asked_for : s.hold p ≡ H.Asking now.time =
          ap hold_of asks ∙ hold_asks (asking now.time) (asking_asks now.time)
          ∙ ap H.Asking (time_of_asking now.time) in
          ties (H.taken bs n s p row) (H.taken_keeps bs n s tied.holds p row was asked_for) z.bucket
          (hold_put (holding row) (H.Holding row) code hold) want
          (put_still (λ k. (seat_in x k).time) p then.time time)
          (λ q. ap (λ l. put (λ k. look_of plan (seat_in x k).stand) p l q) is) (sweep_still z)
          (own_still z) other_still wants
          (λ q m. want q)
          (λ q r active since live. inl (
            look_before (H.Reads row)
                (λ _. subst H.IsActive (sym was) tt) q active,
            since,
            live,
          ))

      -- ---- an exchange: it gives its first free row

      module _ (b : ℕ) (small : b < bs) (some : 1 ≤ length now.free) (none : now.scan ≡ None)
          (free_then : then.free ≡ drop 1 now.free) (kept_then : then.kept ≡ now.kept ++ word_in plan x b ∷ [])
          (scan_then : then.scan ≡ None) where
        abbrev given : ℕ
        given = next_row now

        abbrev got : ℕ
        got = word_in plan x b

        abbrev t : H.State
        t = H.exchanged_in bs n s p b given

        there : 1 ≤ many (is_row given) now.free
        there = first_there now.free some

        given_at : owned.at given ≡ WithSeat p
        given_at = mine_at p inside given (omega (arith, there))

        given_free : tied.free given ≡ true
        given_free = (tied.agrees p inside).frees given there

        got_at : owned.at got ≡ InWord b
        got_at = (owned.words b small).0

        -- how often a row is kept
        kept_is : (r : ℕ) → kept_times r now.kept now.scan ≡ many (is_row r) now.kept
        kept_is r =
            let e = ap (λ (sc : Option Scan). kept_times r now.kept sc) none in
            omega (arith, e)

        own_then : Agrees t.owner t.free p (drop 1 now.free) (now.kept ++ got ∷ []) None
        own_then = record {
          owners = λ r h. elim (either_put s.owner got p r) [
            | inl z ↦ z.1
            | inr z ↦
                let no_got : one_if (is_row r) got ≡ 0 = ap flag (ne_eqb got r (λ e. z.0 (sym e))) in
                let two = both r now.kept (got ∷ []) in
                let first = without_first r now.free some in
                z.1 ∙ (tied.agrees p inside).owners r (omega (arith, h, no_got, two, first, kept_is r))
          ];
          frees = λ r h.
              let first = without_first r now.free some in
              let single = once p inside r in
              elim (either_put s.free given false r) [
                | inl z ↦
                    let one : one_if (is_row r) given ≡ 1 = ap flag (eq-eqb given r (sym z.0)) in
                    absurd (omega (arith, h, first, single, one))
                | inr z ↦ z.1 ∙ (tied.agrees p inside).frees r (omega (arith, h, first))
              ];
          lives = λ r h. elim (either_put s.free given false r) [
            | inl z ↦ z.1
            | inr z ↦ z.1 ∙ elim (cases_eq r got) [
              | inl e ↦ ap tied.free e ∙ tied.holds.named b small
              | inr m ↦
                  let no_got : one_if (is_row r) got ≡ 0 = ap flag (ne_eqb got r (λ e. m (sym e))) in
                  let two = both r now.kept (got ∷ []) in
                  (tied.agrees p inside).lives r (omega (arith, h, no_got, two, kept_is r))
            ]
          ];
        }

        other_then : (q : ℕ) → q ≢ p → q < n → AgreesAt t.owner t.free q (seat_in x q)
        other_then q m less =
            let a = tied.agrees q less in
            record {
              owners = λ r h. elim (either_put s.owner got p r) [
                | inl z ↦ absurd (not_both plan owned.at q got b (ap owned.at (sym z.0) ∙ mine_at q less r h) got_at)
                | inr z ↦ z.1 ∙ a.owners r h
              ];
              frees = λ r h. elim (either_put s.free given false r) [
                | inl z ↦ absurd (m (seat_is (sym (mine_at q less r (omega (arith, h))) ∙ ap owned.at z.0 ∙ given_at)))
                | inr z ↦ z.1 ∙ a.frees r h
              ];
              lives = λ r h. elim (either_put s.free given false r) [ inl z ↦ z.1 | inr z ↦ z.1 ∙ a.lives r h ];
            }
          where
            seat_number : Place → ℕ
            seat_number (InWord k) = 0
            seat_number (WithSeat k) = k

            seat_is : WithSeat q ≡ WithSeat p → q ≡ p
            seat_is e = ap seat_number e

        fresh_then : ((a : ℕ) → row_in plan (store.bucket a) ≡ put s.word b given a) →
            ((q : ℕ) → store.want q ≡ x.store.want q) → Fresh t
        fresh_then word want q r active since live = go (r == given) refl since
          where
            go : (c : Bool) → (r == given) ≡ c → cond c (s.want q == b) (s.since q r) ≡ true →
                (H.IsActive (s.look q) × (s.since q r ≡ true) × (s.free r ≡ false))
                ⊎ (row_in plan (store.bucket (store.want q)) ≡ r)
            go true e wanted =
                let at : store.want q ≡ b = want q ∙ eqb-true (s.want q) b wanted in
                inr (word (store.want q) ∙ ap (put s.word b given) at ∙ put_same s.word b given
                ∙ sym (eqb-true r given e))
            go false e was = inl (
              active,
              was,
              sym (put_other s.free given false r (eqb-false r given e)) ∙ live,
            )

        pub exchanges : ((a : ℕ) → row_in plan (store.bucket a) ≡ put s.word b given a) →
            ((q : ℕ) → store.hold q ≡ x.store.hold q) → ((q : ℕ) → store.want q ≡ x.store.want q) →
            then.time ≡ now.time → look_of plan then.stand ≡ look_of plan now.stand →
            Wants plan (store.want p) then.stand → Ties x tied y
        exchanges word hold want time look wants =
            ties t (H.exchanged_keeps bs n s tied.holds p b given small given_free) word (λ q. ap hold_of (hold q)) want
            (put_still (λ k. (seat_in x k).time) p then.time time)
            (put_still (λ k. look_of plan (seat_in x k).stand) p (look_of plan then.stand) look)
            (put_still (λ k. sweep_of (seat_in x k).scan) p (sweep_of then.scan)
            (ap sweep_of (scan_then ∙ sym none)))
            (subst (λ (fs : List ℕ). Agrees t.owner t.free p fs then.kept then.scan) (sym free_then)
            (subst (λ (ks : List ℕ). Agrees t.owner t.free p (drop 1 now.free) ks then.scan) (sym kept_then)
            (subst (λ (sc : Option Scan). Agrees t.owner t.free p (drop 1 now.free) (now.kept ++ got ∷ []) sc)
            (sym scan_then) own_then))) other_then wants (λ q m. want q) (fresh_then word want)

      -- ---- a scan goes on, or is over

      -- what it leads to, from a state that has other hold words and another scan of this seat
      module _ (hf : ℕ → H.Hold) (sf : ℕ → H.Sweep) (quiet : s.look p ≡ H.NoLook)
          (holds : HoldsOf (record s { hold = hf; sweep = sf }))
          (bucket : (b : ℕ) → row_in plan (store.bucket b) ≡ word_in plan x b)
          (hold : (q : ℕ) → hold_of (store.hold q) ≡ hf q) (want : (q : ℕ) → store.want q ≡ x.store.want q)
          (else_ : (q : ℕ) → q ≢ p → sf q ≡ s.sweep q) (time : then.time ≡ now.time)
          (look : look_of plan then.stand ≡ H.NoLook) (wants : Wants plan (store.want p) then.stand)
          (own_kept : List ℕ) where
        abbrev base : H.State
        base = record s { hold = hf; sweep = sf }

        look_then : (q : ℕ) → put (λ k. look_of plan (seat_in x k).stand) p (look_of plan then.stand) q ≡ s.look q
        look_then = put_still (λ k. look_of plan (seat_in x k).stand) p (look_of plan then.stand) (look ∙ sym quiet)

        time_then : (q : ℕ) → put (λ k. (seat_in x k).time) p then.time q ≡ s.time q
        time_then = put_still (λ k. (seat_in x k).time) p then.time time

        goes_on : (scan : Scan) → Arrives plan base p inside holds quiet (ScansOn scan) → then.free ≡ now.free →
            then.kept ≡ own_kept → then.scan ≡ Some scan →
            ((r : ℕ) → kept_times r now.kept now.scan ≡ many (is_row r) own_kept + fate_times r (ScansOn scan)) →
            Ties x tied y
        goes_on scan arr fr kp sc counts =
            let sw = sweep_of (Some scan) in
            ties (HS.swept bs n base p sw) (HS.swept_keeps bs n base holds p sw arr.0 arr.1) bucket hold want time_then
            look_then (λ q. elim (cases_eq q p) [
              | inl e ↦
                  ap (put (λ k. sweep_of (seat_in x k).scan) p (sweep_of then.scan)) e
                  ∙ put_same (λ k. sweep_of (seat_in x k).scan) p (sweep_of then.scan) ∙ ap sweep_of sc
                  ∙ sym (ap (put sf p sw) e ∙ put_same sf p sw)
              | inr m ↦
                  put_other (λ k. sweep_of (seat_in x k).scan) p (sweep_of then.scan) q m ∙ sym (else_ q m)
                  ∙ sym (put_other sf p sw q m)
            ])
            (subst (λ (fs : List ℕ). Agrees tied.owner tied.free p fs then.kept then.scan) (sym fr)
            (subst (λ (ks : List ℕ). Agrees tied.owner tied.free p now.free ks then.scan) (sym kp)
            (subst (λ (sc : Option Scan). Agrees tied.owner tied.free p now.free own_kept sc) (sym sc) (record {
              owners = λ r h. (tied.agrees p inside).owners r (omega (arith, h, counts r));
              frees = λ r h. (tied.agrees p inside).frees r h;
              lives = λ r h. (tied.agrees p inside).lives r (omega (arith, h, counts r));
            })))) other_still wants (λ q m. want q) as_before

        is_over : (left held : List ℕ) → Arrives plan base p inside holds quiet (Scanned left held) →
            then.free ≡ now.free ++ left → then.kept ≡ own_kept ++ held → then.scan ≡ None →
            ((r : ℕ) → kept_times r now.kept now.scan ≡ many (is_row r) own_kept + fate_times r (Scanned left held)) →
            Ties x tied y
        is_over left held arr fr kp sc counts =
            ties last (HS.freed_keeps bs n near near_holds p arr.0 (among left) (put_same sf p at) arr.1) bucket hold
            want
            time_then look_then (λ q. elim (cases_eq q p) [
              | inl e ↦
                  ap (put (λ k. sweep_of (seat_in x k).scan) p (sweep_of then.scan)) e
                  ∙ put_same (λ k. sweep_of (seat_in x k).scan) p (sweep_of then.scan) ∙ ap sweep_of sc
                  ∙ sym (ap (put (put sf p at) p H.NoSweep) e ∙ put_same (put sf p at) p H.NoSweep)
              | inr m ↦
                  put_other (λ k. sweep_of (seat_in x k).scan) p (sweep_of then.scan) q m ∙ sym (else_ q m)
                  ∙ sym (put_other (put sf p at) p H.NoSweep q m ∙ put_other sf p at q m)
            ])
            (subst (λ (fs : List ℕ). Agrees tied.owner freed_rows p fs then.kept then.scan) (sym fr)
            (subst (λ (ks : List ℕ). Agrees tied.owner freed_rows p (now.free ++ left) ks then.scan) (sym kp)
            (subst (λ (sc : Option Scan). Agrees tied.owner freed_rows p (now.free ++ left) (own_kept ++ held) sc)
            (sym sc) own))) other wants (λ q m. want q)
            (λ q r active since live. inl (active, since, or_false (among left r) (tied.free r) live))
          where
            at : H.Sweep
            at = H.Seats arr.0 (among left)

            near : H.State
            near = HS.swept bs n base p at

            near_holds : HoldsOf near
            near_holds = HS.swept_keeps bs n base holds p at arr.2
                (λ q t r l e. absurd (omega (arith, ap H.sweep_kind e)))

            last : H.State
            last = HS.freed bs n near p (among left)

            freed_rows : ℕ → Bool
            freed_rows r = among left r || tied.free r

            or_false : (b c : Bool) → (b || c) ≡ false → c ≡ false
            or_false true c e = absurd (true≢false e)
            or_false false c e = e

            or_true : (b c : Bool) → c ≡ true → (b || c) ≡ true
            or_true true c e = refl
            or_true false c e = e

            none_left : (r : ℕ) → many (is_row r) left ≡ 0 → among left r ≡ false
            none_left r e = elim (cases_Bool (among left r)) [
              | inl a ↦ absurd (let some = among_some left r a in omega (arith, some, e))
              | inr a ↦ a
            ]

            own : Agrees tied.owner freed_rows p (now.free ++ left) (own_kept ++ held) None
            own = record {
              owners = λ r h.
                  let f = both r now.free left in
                  let k = both r own_kept held in
                  (tied.agrees p inside).owners r (omega (arith, h, f, k, counts r));
              frees = λ r h. elim (cases_Bool (among left r)) [
                | inl a ↦ ap (λ (b : Bool). b || tied.free r) a
                | inr a ↦
                    let f = both r now.free left in
                    let none_there : many (is_row r) left ≡ 0 = not_there r a in
                    or_true (among left r) (tied.free r)
                    ((tied.agrees p inside).frees r (omega (arith, h, f, none_there)))
              ];
              lives = λ r h.
                  let k = both r own_kept held in
                  let single = once p inside r in
                  ap (λ (b : Bool). b || tied.free r)
                  (none_left r (omega (arith, h, k, single, counts r)))
                  ∙ (tied.agrees p inside).lives r (omega (arith, h, k, counts r));
            }
              where
                not_there : (r : ℕ) → among left r ≡ false → many (is_row r) left ≡ 0
                not_there r a = elim (cases_lt 0 (many (is_row r) left)) [
                  | inl l ↦ absurd (true≢false (sym (some_among left r l) ∙ a))
                  | inr g ↦ omega (arith, g)
                ]

            other : (q : ℕ) → q ≢ p → q < n → AgreesAt tied.owner freed_rows q (seat_in x q)
            other q m less =
                let a = tied.agrees q less in
                record {
                  owners = a.owners;
                  frees = λ r h. or_true (among left r) (tied.free r) (a.frees r h);
                  lives = λ r h. ap (λ (b : Bool). b || tied.free r) (none_left r (away r (omega (arith, h))))
                      ∙ a.lives r h;
                }
              where
                seat_number : Place → ℕ
                seat_number (InWord k) = 0
                seat_number (WithSeat k) = k

                away : (r : ℕ) →
                    1 ≤ many (is_row r) (seat_in x q).free + kept_times r (seat_in x q).kept (seat_in x q).scan →
                    many (is_row r) left ≡ 0
                away r h = elim (cases_lt 0 (many (is_row r) left)) [
                  | inl l ↦ absurd (m (ap seat_number
                      (sym (mine_at q less r h) ∙ mine_at p inside r (omega (arith, l, counts r)))))
                  | inr g ↦ omega (arith, g)
                ]

        -- THE RESULT: by where it leads
        pub scans_to : (f : ScanFate) → Arrives plan base p inside holds quiet f →
            ((r : ℕ) → kept_times r now.kept now.scan ≡ many (is_row r) own_kept + fate_times r f) →
            LeadsTo now.free own_kept f then.free then.kept then.scan → Ties x tied y
        scans_to (ScansOn scan) arr counts to = goes_on scan arr to.0 to.1 to.2 counts
        scans_to (Scanned left held) arr counts to = is_over left held arr to.0 to.1 to.2 counts

    -- ---- holds of looks

    abbrev Moved : H.Look → Type 0
    Moved look = HoldsOf (H.moved bs n s p look)

    pub loaded : (b : ℕ) → look_of plan now.stand ≡ H.Asked → x.store.want p ≡ b → Moved (H.Loaded (word_in plan x b))
    loaded b was want =
        subst (λ k. Moved (H.Loaded (word_in plan x k))) want (H.load_keeps bs n s tied.holds p was)

    pub given_one : (row : ℕ) → look_of plan now.stand ≡ H.Loaded row → (word : ℕ) → x.store.hold p ≡ word →
        word ≢ asking now.time → Moved (H.Reads (held_row word))
    given_one row was word is other = H.given_keeps bs n s tied.holds p row (held_row word) was holds_it
      where
        waits : H.IsWaiting (s.look p)
        waits = subst H.IsWaiting (sym was) tt

        not_asking : (t : ℕ) → hold_of word ≡ H.Asking t → word ≡ asking t
        not_asking t e = go (cases_Bool (is_asking word))
          where
            go : (is_asking word ≡ true) ⊎ (is_asking word ≡ false) → word ≡ asking t
            go (inl a) = asking_of word a ∙ ap asking (ap H.of_hold (sym (hold_asks word a) ∙ e))
            go (inr a) = elim (cases_eq word 0) [
              | inl z ↦ absurd (omega (arith, ap H.kind (sym (hold_none word z) ∙ e)))
              | inr m ↦ absurd (omega (arith, ap H.kind (sym (hold_has word m a) ∙ e)))
            ]

        it_holds : (r : ℕ) → hold_of word ≡ H.Holding r → hold_of word ≡ H.Holding (held_row word)
        it_holds r e = elim (cases_eq word 0) [
          | inl z ↦ absurd (omega (arith, ap H.kind (sym (hold_none word z) ∙ e)))
          | inr m ↦ go m (cases_Bool (is_asking word))
        ]
          where
            go : word ≢ 0 → (is_asking word ≡ true) ⊎ (is_asking word ≡ false) →
                hold_of word ≡ H.Holding (held_row word)
            go m (inl a) = absurd (omega (arith, ap H.kind (sym (hold_asks word a) ∙ e)))
            go m (inr a) = hold_has word m a

        holds_it : s.hold p ≡ H.Holding (held_row word)
        holds_it = elim (tied.holds.asks p waits) [
          | inl e ↦ absurd (other (not_asking now.time (ap hold_of (sym is) ∙ e)))
          | inr z ↦ ap hold_of is ∙ it_holds z.0 (ap hold_of (sym is) ∙ z.1)
        ]

    pub has_read : (row : ℕ) → look_of plan now.stand ≡ H.Reads row → Moved H.NoLook
    has_read row was = H.end_keeps bs n s tied.holds p row was
