-- Each step of a run is on a word of the table, and a row that was checked is one of its bucket.
use Rattle.std.proofs.Common.{◌≡◌, ℕ, ◌+◌, ◌*◌, ◌-◌, ◌<◌, ◌≤◌, inl, inr, Bool, true, false, cond, List, [], ◌∷◌, length, Option, Some, None, refl, sym, ap, ◌∙◌, subst, arith}
use Rattle.std.specs.Prelude.{nat_lt, ◌==◌}
use Rattle.std.proofs.Math.Nat.{div-lt_iff_lt-mul}
use Rattle.plain_map.specs.Calls.{key_in}
use Rattle.plain_map.specs.declared.keys.TheConstants.{KEY_WORDS}
use Rattle.bucket_states.specs.Laws.{IsGood}
use Rattle.bucket_states.specs.Values.{IsSmall}
use Rattle.word_rows.specs.BucketWords.{AreAnswered, AreItems}
use Rattle.table_model.specs.Setup.{rules_of, seats_of, settings_of}
use Rattle.run_invariant.proofs.Invariant.{Common}
use Rattle.lasting_model.specs.Plans.{Plan, ample, buckets_of}
use Rattle.lasting_model.specs.Codes.{row_in, generation_in, loaded_place, state_words, state_in}
use Rattle.lasting_model.specs.Words.{most_words}
use Rattle.lasting_model.specs.Steps as S
use Rattle.lasting_model.specs.Steps.{Step, Stand, Sweep, SeatNow, Update, Aim, OfKey, OfBucket, Glance, Peeking, deed_of, glance_deed, sweep_deed, bucket_of_update, bucket_of_aim}
use Rattle.lasting_model.specs.Worlds.{Lasting, Event, IsRun, IsAim, world_after, seat_in}
use Rattle.lasting_laws.specs.Fits.{IsLoadThere, IsOnTable, IsRowOf, PeeksAreOnTable, RowsAreOfBuckets, StepsAreOnTable, next_deed}
use Rattle.lasting_laws.proofs.Pools.{Lists, Room, owner_in, todo_of, gone_of, word_in}
use Rattle.lasting_laws.proofs.PoolEvents.{bucket_small, enough, settings_are}
use Rattle.lasting_laws.proofs.Sweeping.{seats_are}
use Rattle.lasting_laws.proofs.Marks.{writer_owns}
use Rattle.lasting_laws.proofs.StepBounds.{Fine, FineLook}
use Rattle.lasting_laws.proofs.Bounded.{HasCome, bounds_hold, has_come}
use Rattle.lasting_laws.proofs.Holding as H
use Rattle.lasting_laws.proofs.HeldStates.{held_state, sweep_of}
use Rattle.lasting_laws.proofs.Tied.{Wants}
use Rattle.lasting_laws.proofs.Near.{Inside, IsTrying, NearGlance, NearPeeking, NearStand, NearStep, Nearly, nearly_hold, some_seat}
use Rattle.lasting_laws.proofs.RowWords.{whole_is, whole_said}
use Rattle.lasting_laws.proofs.Ghost.{depth_is, open_at, prefix_is, spelled, there}
use Rattle.lasting_laws.proofs.Shown.{IsMade, IsShown, Keeps, Moment, Seated, View, view}
use Rattle.lasting_laws.proofs.Ordered.{shown_at}

-- a word of an item is one of its seven
loaded_small : (i : ℕ) → i < 7 → loaded_place i < 7
loaded_small i few = first (i == 0)
  where
    second : (b : Bool) → cond {A = ℕ} b (i - 1) i < 7
    second true = omega (arith, few)
    second false = few

    first : (b : Bool) → cond {A = ℕ} b (KEY_WORDS - 1) (cond (nat_lt i KEY_WORDS) (i - 1) i) < 7
    first true = omega arith
    first false = second (nat_lt i KEY_WORDS)

module _ (plan : Plan) (events : List Event) (run : IsRun plan events) where
  abbrev x : Lasting
  x = world_after plan events

  nearly : Nearly plan x
  nearly = nearly_hold plan events run

  abbrev n : ℕ
  n = plan.settings.seats

  abbrev room : ℕ
  room = plan.settings.items

  -- the words of a full row
  most_is : most_words plan ≡ 2 + 2 * n + 7 * room
  most_is =
      let items = ap (λ s. s.items) (settings_are plan) in
      omega (arith, seats_are plan, items)

  count_in_row : 1 + 2 * seats_of (ample plan) < most_words plan
  count_in_row = omega (arith, seats_are plan, most_is)

  row_there : (row : ℕ) → Inside plan row → row < n * plan.rows
  row_there row inside =
      let some : 0 < plan.rows = omega (arith, enough plan run.opened, inside) in
      (div-lt_iff_lt-mul {k = plan.rows} {x = row} {y = n} some).0 inside

  aim_small : (aim : Aim) → IsAim plan aim → bucket_of_aim (ample plan) aim < buckets_of plan.settings
  aim_small (OfKey key) k = bucket_small plan key
  aim_small (OfBucket bucket) k = k

  -- ---- a look

  source_there : (source : S.Source) → Rattle.lasting_laws.proofs.Near.NearSource plan source →
      S.row_of_source source < n * plan.rows
  source_there (S.Tried left word) k = row_there (row_in word) k
  source_there (S.HeldIn row) k = row_there row k

  look_on : (q time : ℕ) (inside : q < n) (aim : Aim) → IsAim plan aim → (glance : Glance) →
      NearGlance plan glance → FineLook plan q inside glance → IsOnTable plan (glance_deed (ample plan) q time aim
      glance)
  look_on q time inside aim a (S.GlanceWord left) k f = aim_small aim a
  look_on q time inside aim a (S.GlanceCount source) k f = (source_there source k, count_in_row)
  look_on q time inside aim a (S.GlanceItem source scan) k f =
      let less = loaded_small (length scan.part) f.2 in
      let item : 7 * scan.item + 7 ≤ 7 * room = omega (arith, f.0, f.1) in
      (source_there source k, omega (arith, less, item, most_is, seats_are plan))
  look_on q time inside aim a (S.GlanceCheck left word kept) k f =
      (row_there (row_in word) k, omega (arith, most_is))
  look_on q time inside aim a S.GlanceWant k f = inside
  look_on q time inside aim a S.GlanceAsking k f = inside
  look_on q time inside aim a S.GlanceHeld k f = aim_small aim a
  look_on q time inside aim a (S.GlanceTake word) k f = inside

  -- a reader's is a load
  load_on : (aim : Aim) (glance : Glance) → IsTrying plan glance →
      IsOnTable plan (glance_deed (ample plan) 0 0 aim glance) → IsLoadThere plan (glance_deed (ample plan) 0 0 aim
      glance)
  load_on aim (S.GlanceWord left) t k = k
  load_on aim (S.GlanceCount source) t k = k
  load_on aim (S.GlanceItem source scan) t k = k
  load_on aim (S.GlanceCheck left word kept) t k = k
  load_on aim S.GlanceWant t k = absurd t
  load_on aim S.GlanceAsking t k = absurd t
  load_on aim S.GlanceHeld t k = absurd t
  load_on aim (S.GlanceTake word) t k = absurd t

  pub peek_there : (r : ℕ) (aim : Aim) (glance : Glance) → (x.readers r).stand ≡ S.Peeks aim glance →
      IsLoadThere plan (glance_deed (ample plan) 0 0 aim glance)
  peek_there r aim glance stood =
      let k = subst (NearPeeking plan) stood (nearly.near.readers r) in
      load_on aim glance k.2 (look_on 0 0 (some_seat plan) aim k.0 glance k.1 k.3)

  -- ---- an update

  module _ (p : ℕ) (inside : p < n) where
    abbrev now : SeatNow
    now = seat_in x p

    sweep_on : (sweep : Option Sweep) → now.sweep ≡ sweep → IsOnTable plan (sweep_deed sweep)
    sweep_on None e = tt
    sweep_on (Some (S.Homes [] gone)) e = tt
    sweep_on (Some (S.Homes (row ∷ todo) gone)) e =
        (subst (λ (s : Option Sweep). Lists plan (word_in x) p now.free now.named (todo_of s) (gone_of s)) e
        (nearly.pools.seats p inside).lists).homes row (inr (inl (inl refl)))
    sweep_on (Some (S.Seats k gone)) e =
        (subst (λ (s : Option Sweep). Room plan (word_in x) p now.named s now.stand) e
        (nearly.pools.seats p inside).room).0.1
    sweep_on (Some (S.Sees k t gone)) e =
        (subst (λ (s : Option Sweep). Room plan (word_in x) p now.named s now.stand) e
        (nearly.pools.seats p inside).room).0.1
    sweep_on (Some (S.Loads k t bucket gone)) e =
        (subst (λ (s : Option Sweep). H.Sweeps (buckets_of plan.settings) n (owner_in plan)
        (held_state plan x nearly.tied.home nearly.tied.since) p (sweep_of s)) e (nearly.tied.holds.sweeps p)).2
    sweep_on (Some (S.Gives k t row gone)) e =
        (subst (λ (s : Option Sweep). Room plan (word_in x) p now.named s now.stand) e
        (nearly.pools.seats p inside).room).0.1

    step_on : (u : Update) (step : Step) → now.stand ≡ S.Goes u step → NearStep plan step → Fine plan p inside step →
        IsOnTable plan (deed_of (ample plan) p now u step)
    step_on u (S.Sweeps rows) e k f = sweep_on now.sweep refl
    step_on u (S.StoreOp i) e k f = (inside, f)
    step_on u S.Announce e k f = inside
    step_on u (S.LoadWord turn) e k f = bucket_small plan (key_in u.call)
    step_on u (S.LoadRow turn word words) e k f = (row_there (row_in word) k, omega (arith, f, most_is))
    step_on u (S.CheckRow turn word words) e k f = (row_there (row_in word) k, omega (arith, most_is))
    step_on u (S.LoadAnnounced t found) e k f = f.1
    step_on u (S.LoadOp t found announced words) e k f = (f.1, f.3)
    step_on u (S.StoreRow t found i) e k f =
        let own = writer_owns plan run.opened x nearly.pools p inside u (S.StoreRow t found i) e (omega arith) in
        (row_there (S.next_row now) (subst (λ q. q < n) (sym own) inside), omega (arith, f.1, most_is))
    step_on u (S.Exchange t found) e k f = bucket_small plan (key_in u.call)
    step_on u S.StoreWant e k f = inside
    step_on u S.StoreAsking e k f = inside
    step_on u S.HeldWord e k f = bucket_small plan (key_in u.call)
    step_on u (S.TakeHold word) e k f = inside
    step_on u (S.HeldNumber row) e k f = (row_there row k, omega (arith, inside, most_is))
    step_on u (S.HeldReply row) e k f = (row_there row k, omega (arith, inside, most_is))
    step_on u S.Stuck e k f = tt

    seat_on : (stand : Stand) → now.stand ≡ stand → IsOnTable plan (next_deed plan p now stand)
    seat_on S.Idle e = tt
    seat_on (S.Goes u step) e =
        step_on u step e (subst (NearStand plan) e (nearly.near.seats p inside).0)
        (subst (HasCome plan p inside) e (has_come plan x (bounds_hold plan events run) p inside))
    seat_on (S.Glances aim glance) e =
        look_on p now.time inside aim (subst (λ (s : Stand). Wants plan (x.store.want p) s) e (nearly.tied.wants p
        inside)).0
        glance (subst (NearStand plan) e (nearly.near.seats p inside).0)
        (subst (HasCome plan p inside) e (has_come plan x (bounds_hold plan events run) p inside))

    pub there_on : IsOnTable plan (next_deed plan p now now.stand)
    there_on = seat_on now.stand refl

    -- ---- a row that was checked

    shown : IsShown plan x
    shown = shown_at plan events run

    abbrev m : Moment (ample plan)
    m = shown.moment

    abbrev v : View
    v = view plan x shown.moment shown.word_at shown.cut shown.tied

    abbrev c : Common
    c = m.common

    pub checked : (u : Update) (turn old : ℕ) (words : List ℕ) → now.stand ≡ S.Goes u (S.CheckRow turn old words) →
        x.store.row (row_in old) 0 ≡ generation_in old → IsRowOf (ample plan) (bucket_of_update (ample plan) u) words
    checked u turn old words stood stands = record {
      spelled = said ∙ ap (state_words (ample plan)) (sym is);
      good = subst (IsGood (rules_of (ample plan)) (seats_of (ample plan))) (sym is) (m.follows.shared.rows.sound b
          at named k.1.row.old).good;
      small = subst IsSmall (sym is) (m.follows.shared.rows.sound b at named k.1.row.old).small;
    }
      where
        b : ℕ
        b = bucket_of_update (ample plan) u

        k : IsMade plan v p u × Keeps plan v p u (S.CheckRow turn old words)
        k = subst (Seated plan v p) stood (shown.shows.seats p inside)

        named : c.named b ≡ true
        named = there plan run.opened m shown.shows.rows.numbered (key_in u.call)

        at : ℕ
        at = k.1.row.at

        spelled_here : AreItems (settings_of (ample plan)).items (c.state_at b at).items
            × AreAnswered (seats_of (ample plan)) (c.state_at b at).applied (c.state_at b at).replies
        spelled_here = spelled plan run.opened m shown.shows.rows.numbered b at named k.1.row.old

        said : words ≡ state_words (ample plan) (c.state_at b at)
        said = whole_said (ample plan) b (c.state_at b at)
            (prefix_is plan run.opened m shown.shows.rows.numbered b at named k.1.row.old)
            (depth_is plan run.opened m shown.shows.rows.numbered b at named k.1.row.old)
            (open_at plan run.opened m shown.shows.rows.numbered b at named k.1.row.old) spelled_here.0
            spelled_here.1 words
            (k.1.reads stands) k.1.whole

        is : state_in (ample plan) b words ≡ c.state_at b at
        is = whole_is (ample plan) b (c.state_at b at)
            (prefix_is plan run.opened m shown.shows.rows.numbered b at named k.1.row.old)
            (depth_is plan run.opened m shown.shows.rows.numbered b at named k.1.row.old)
            (open_at plan run.opened m shown.shows.rows.numbered b at named k.1.row.old) spelled_here.0
            spelled_here.1 words
            (k.1.reads stands) k.1.whole

-- THE RESULTS
pub steps_are_on_table : StepsAreOnTable
steps_are_on_table plan events seat run inside = there_on plan events run seat inside

pub peeks_are_on_table : PeeksAreOnTable
peeks_are_on_table plan events reader aim glance run stood = peek_there plan events run reader aim glance stood

pub rows_are_of_buckets : RowsAreOfBuckets
rows_are_of_buckets plan events seat u turn old words run inside stood stands =
    checked plan events run seat inside u turn old words stood stands
