-- Each step is on a word of the table, and what it stores there has 64 bits.
use Rattle.std.proofs.Common.{◌≡◌, ◌≢◌, ℕ, ◌+◌, ◌-◌, ◌*◌, ◌^◌, ◌<◌, ◌≤◌, inl, inr, Bool, true, false, cond, List, length, Option, Some, None, refl, sym, ap, ◌∙◌, subst, arith, pow_mono, pow-add, shr_lt}
use Rattle.std.specs.Prelude.{◌==◌, nat_lt, slice_index}
use Rattle.std.specs.List.{AllByRecursion as Each}
use Rattle.std.proofs.Math.Nat.{mul-le-mul}
use Rattle.std.proofs.lemmas.Bool.{eqb-false}
use Rattle.plain_map.specs.declared.calls.Call.{Call}
use Rattle.plain_map.specs.declared.keys.TheConstants.{KEY_WORDS}
use Rattle.plain_map.specs.Calls.{key_in}
use Rattle.exchange_model.specs.Plans.{Plan, IsPlan, holders_of, buckets_of, rows_of}
use Rattle.exchange_model.specs.Codes.{tag, generation_in, last_generation, is_spent, row_at, length_by, count_in, entries_in, loaded_place}
use Rattle.exchange_model.specs.Words as W
use Rattle.exchange_model.specs.Laws.{IsOnTable, IsLoadThere, next_deed}
use Rattle.exchange_model.specs.Steps as S
use Rattle.exchange_model.specs.Steps.{Step, Stand, Scan, SeatNow, Found, Try, Aim, OfKey, OfBucket, Source, Glance, change, deed_of, glance_deed, scan_deed, next_row, new_words, bucket_of_call, bucket_of_aim, row_of_source}
use Rattle.exchange_model.specs.Worlds.{World, IsAim, seat_in}
use Rattle.exchange_laws.proofs.RowLists.{first_there}
use Rattle.exchange_laws.proofs.Words.{bucket_small, rows_few}
use Rattle.exchange_laws.proofs.Owned.{Owned, Room, IsScanning, needs, word_in}
use Rattle.exchange_laws.proofs.OwnedEvents.{quiet}
use Rattle.exchange_laws.proofs.MadeRows.{made_is_row, IsFound, IsChange}
use Rattle.exchange_laws.proofs.FoundOps.{Read, FoundStep, FoundAt, FoundOk}
use Rattle.exchange_laws.proofs.LookBounds.{count_few, entries_few, FineLook}
use Rattle.exchange_laws.proofs.RowWords.{row_long}
use Rattle.exchange_laws.proofs.TrueReads.{IsPart, ReadsStep, ReadsAt, Reads}
use Rattle.exchange_laws.proofs.SmallRows.{IsWord, SmallRow, SmallCall, SmallFound, change_small, row_each, word_each, call_word}
use Rattle.exchange_laws.proofs.NearSteps.{full, NearStep, NearSource, NearGlance, NearStand, NearScan, NearPeek, NearPeeking}

-- a word of an item is one of its seven
loaded_small : (i : ℕ) → i < 7 → loaded_place i < 7
loaded_small i few = first (i == 0)
  where
    second : (b : Bool) → cond {A = ℕ} b (i - 1) i < 7
    second true = omega (arith, few)
    second false = few

    first : (b : Bool) → cond {A = ℕ} b (KEY_WORDS - 1) (cond (nat_lt i KEY_WORDS) (i - 1) i) < 7
    first true = omega arith
    first false = second (nat_lt i KEY_WORDS)

-- all words have 64 bits; of what is pending it is said elsewhere
pub record AllWords (store : W.Store) : Type 0 where
  pub announced : (q : ℕ) → IsWord (store.announced q)
  pub want : (q : ℕ) → IsWord (store.want q)
  pub hold : (q : ℕ) → IsWord (store.hold q)
  pub op : (q i : ℕ) → IsWord (store.op q i)
  pub bucket : (b : ℕ) → IsWord (store.bucket b)
  pub row : (row i : ℕ) → IsWord (store.row row i)

module _ (plan : Plan) where
  -- all rows that a seat or a reader comes to are rows of the table, and all words are small
  pub record Near (x : World) : Type 0 where
    pub seats : (p : ℕ) → p < holders_of plan.settings →
        NearStand plan p (seat_in x p).time (seat_in x p).posted (x.store.hold p) (seat_in x p).stand
        × NearScan plan (seat_in x p).scan
    pub wants : (q : ℕ) → q < holders_of plan.settings → x.store.want q < buckets_of plan.settings
    pub words : AllWords x.store
    pub rows : (b : ℕ) → b < buckets_of plan.settings → SmallRow (row_at plan (x.store.row (word_in plan x b)))
    pub readers : (r : ℕ) → NearPeeking plan (x.readers r).stand

  module _ (is_plan : IsPlan plan) where
    -- ---- numbers

    pub rows_most : rows_of plan ≤ 2 ^ 21
    rows_most = (let most = pow_mono is_plan.bits in let few = is_plan.rows in omega (arith, most, few))

    pub buckets_most : buckets_of plan.settings ≤ 2 ^ 20
    buckets_most = pow_mono is_plan.depth

    -- the next generation of a word that is not spent
    tag_small : (word row : ℕ) → IsWord word → is_spent plan word ≡ false → row < 2 ^ plan.row_bits →
        tag plan (generation_in plan word + 1) row < 2 ^ 64
    tag_small word row small unspent few =
        let bits : (64 - plan.row_bits) + plan.row_bits ≡ 64 = omega (arith, is_plan.bits) in
        let wide : 2 ^ (64 - plan.row_bits) * 2 ^ plan.row_bits ≡ 2 ^ 64 =
        sym (pow-add 2 (64 - plan.row_bits) plan.row_bits) ∙ ap (λ n. 2 ^ n) bits in
        let less : generation_in plan word < 2 ^ (64 - plan.row_bits) =
        shr_lt (64 - plan.row_bits) plan.row_bits (subst (λ n. word < 2 ^ n) (sym bits) small) in
        let other : generation_in plan word ≢ 2 ^ (64 - plan.row_bits) - 1 =
        eqb-false (generation_in plan word) (last_generation plan) unspent in
        fits (generation_in plan word) (2 ^ (64 - plan.row_bits)) (2 ^ plan.row_bits) less other wide few
      where
        step : (g k : ℕ) → (g + 2) * k ≡ (g + 1) * k + k
        step g k = omega arith

        fits : (g most k : ℕ) → g < most → g ≢ most - 1 → most * k ≡ 2 ^ 64 → row < k → (g + 1) * k + row < 2 ^ 64
        fits g most k less other wide under =
            let up : g + 2 ≤ most = omega (arith, less, other) in
            let same : k ≤ k = omega arith in
            let high : (g + 2) * k ≤ most * k = mul-le-mul up same in
            let s = step g k in omega (arith, high, s, wide, under)

    aim_small : (aim : Aim) → IsAim plan aim → bucket_of_aim plan aim < buckets_of plan.settings
    aim_small (OfKey key) is = bucket_small plan is_plan key
    aim_small (OfBucket bucket) is = is

    -- ---- a look

    item_there : (pass : S.Pass) → pass.item < pass.count → pass.count ≤ plan.settings.items →
        length pass.part < 7 → 1 + (7 * pass.item + loaded_place (length pass.part)) < full plan
    item_there pass less few short =
        let place = loaded_small (length pass.part) short in
        let last : 7 * pass.item + 7 ≤ 7 * plan.settings.items = omega (arith, less, few) in
        omega (arith, place, last)

    source_there : (time : ℕ) (source : Source) → NearSource plan time source → row_of_source plan source < rows_of plan
    source_there time (S.Tried left word) k = k.1
    source_there time (S.HeldIn row) k = k

    look_on : (p time hold : ℕ) → p < holders_of plan.settings → (aim : Aim) → IsAim plan aim → (glance : Glance) →
        NearGlance plan time hold glance → FineLook plan 0 glance →
        IsOnTable plan (glance_deed plan p time aim glance)
    look_on p time hold inside aim is (S.GlanceWord left) k f = aim_small aim is
    look_on p time hold inside aim is (S.GlanceCount source) k f = (source_there time source k, omega arith)
    look_on p time hold inside aim is (S.GlanceItem source pass) k f =
        (source_there time source k, item_there pass f.0 f.1 f.2)
    look_on p time hold inside aim is (S.GlanceCheck left word kept) k f = aim_small aim is
    look_on p time hold inside aim is S.GlanceWant k f =
        (inside, (let most = buckets_most in let small = class_small aim is in omega (arith, most, small)))
      where
        class_small : (a : Aim) → IsAim plan a → S.class_of_aim plan a < buckets_of plan.settings
        class_small (OfKey key) is = bucket_small plan is_plan key
        class_small (OfBucket bucket) is = is
    look_on p time hold inside aim is S.GlanceAsking k f = (inside, omega (arith, k))
    look_on p time hold inside aim is S.GlanceHeld k f = aim_small aim is
    look_on p time hold inside aim is (S.GlanceTake word) k f =
        (inside, (let most = rows_most in let row = k.0 in omega (arith, most, row)))
    look_on p time hold inside aim is (S.GlanceBack kept) k f = (inside, omega arith)

    -- a reader's is a load
    pub peek_on : (aim : Aim) (glance : Glance) → IsAim plan aim → NearPeek plan glance → FineLook plan 0 glance →
        IsLoadThere plan (glance_deed plan 0 0 aim glance)
    peek_on aim (S.GlanceWord left) is k f = aim_small aim is
    peek_on aim (S.GlanceCount (S.Tried left word)) is k f = (k, omega arith)
    peek_on aim (S.GlanceCount (S.HeldIn row)) is k f = absurd k
    peek_on aim (S.GlanceItem (S.Tried left word) pass) is k f = (k, item_there pass f.0 f.1 f.2)
    peek_on aim (S.GlanceItem (S.HeldIn row) pass) is k f = absurd k
    peek_on aim (S.GlanceCheck left word kept) is k f = aim_small aim is
    peek_on aim S.GlanceWant is k f = absurd k
    peek_on aim S.GlanceAsking is k f = absurd k
    peek_on aim S.GlanceHeld is k f = absurd k
    peek_on aim (S.GlanceTake word) is k f = absurd k
    peek_on aim (S.GlanceBack kept) is k f = absurd k

    -- ---- an update

    module _ (x : World) (h : Owned plan x) (finds : FoundOk plan x) (reads : Reads plan x) (near : Near x)
        (p : ℕ) (inside : p < holders_of plan.settings) where
      abbrev me : SeatNow
      me = seat_in x p

      pub scan_there : (scan : Option Scan) → me.scan ≡ scan → IsOnTable plan (scan_deed plan scan)
      scan_there scan e =
          by scan (subst (λ (s : Option Scan). Room plan p me.stand me.free me.kept s) e (h.seats p inside).room)
          (subst (NearScan plan) e (near.seats p inside).1)
        where
          by : (s : Option Scan) → Room plan p me.stand me.free me.kept s → NearScan plan s →
              IsOnTable plan (scan_deed plan s)
          by None r k = tt
          by (Some (S.Seats k left held)) r n = r.at_seat.within
          by (Some (S.Sees k t left held)) r n = r.at_seat.within
          by (Some (S.Loads k t class left held)) r n = n
          by (Some (S.Gives k t row left held)) r n = (
            r.at_seat.within,
            (let most = rows_most in omega (arith, most, n)),
          )

      -- the row that is stored next is one of the table
      row_there : (stand : Stand) → me.stand ≡ stand → (IsScanning stand → ⊥) →
          needs stand ≡ 1 → next_row me < rows_of plan
      row_there stand stood still one =
          let z = quiet plan is_plan x h p inside stand stood still in
          let there = first_there me.free (let enough = z.0.enough in omega (arith, enough, one)) in
          (z.0.rows.mine (next_row me) (omega (arith, there))).1

      -- and its words have 64 bits
      new_small : (t : Try) (found : List Found) → Read plan t → Each IsFound found →
          length found ≤ plan.settings.seats → SmallRow t.row → Each SmallFound found → (i : ℕ) →
          slice_index (new_words plan t found) i < 2 ^ 64
      new_small t found r each few row small i =
          word_each (new_words plan t found)
          (row_each plan is_plan (change plan t.row found).row
          (made_is_row plan is_plan t.row found r.items few each)
          (change_small plan t.row found row (let most = is_plan.seats in omega (arith, most, few)) small)) i

      -- how long rows are
      row_few : (t : Try) (found : List Found) → Read plan t → Each IsFound found → length found ≤ plan.settings.seats →
          length (new_words plan t found) ≤ full plan
      row_few t found r each few =
          let is = made_is_row plan is_plan t.row found r.items few each in
          let long : length (new_words plan t found)
          ≡ 1 + 7 * length (change plan t.row found).row.items + 2 * length (change plan t.row found).row.entries =
          row_long plan is_plan (change plan t.row found).row is in
          let items = is.items in
          let entries = is.few in omega (arith, long, items, entries)

      part_few : (words : List ℕ) → IsPart plan words → length words < full plan
      part_few words (inl none) = omega (arith, none)
      part_few words (inr less) =
          let head : ℕ = slice_index words 0 in
          let items = count_few plan head in
          let entries = entries_few plan head in
          let is : length_by plan words ≡ 1 + 7 * count_in plan head + 2 * entries_in plan head = refl in
          omega (arith, less, is, items, entries)

      step_on : (call : Call) (step : Step) → me.stand ≡ S.Goes call step → p < plan.settings.seats → SmallCall call →
          ReadsStep plan x (bucket_of_call plan call) step → FoundStep plan step →
          NearStep plan me.time me.posted (x.store.hold p) step →
          IsOnTable plan (deed_of plan p me call step)
      step_on call S.Scans stood of_seat small r f k = scan_there me.scan refl
      step_on call (S.LoadWord turn) stood of_seat small r f k = bucket_small plan is_plan (key_in call)
      step_on call (S.LoadRow turn word words) stood of_seat small r f k = (k.1.row, part_few words r.1)
      step_on call (S.CheckWord turn word words) stood of_seat small r f k = bucket_small plan is_plan (key_in call)
      step_on call (S.LoadPending t) stood of_seat small r f k = tt
      step_on call (S.LoadAnnounced t found) stood of_seat small r f k = f.2
      step_on call (S.LoadOp t found announced words) stood of_seat small r f k = (f.2, k.5)
      step_on call (S.StoreRow t found i) stood of_seat small r f k = (
        (
          row_there (S.Goes call (S.StoreRow t found i)) stood (λ s. s) refl,
          (let less = k.3 in let few = row_few t found f.0 f.1 f.2 in omega (arith, less, few)),
        ),
        new_small t found f.0 f.1 f.2 k.1.row k.2 i,
      )
      step_on call (S.Exchange t found) stood of_seat small r f k = (
        bucket_small plan is_plan (key_in call),
        tag_small t.word (next_row me) k.1.word k.1.unspent
            (let row = row_there (S.Goes call (S.Exchange t found)) stood (λ s. s) refl in
            let most = rows_few plan is_plan in omega (arith, row, most)),
      )
      step_on call S.RaisePending stood of_seat small r f k = tt
      step_on call (S.StoreOp i) stood of_seat small r f k = ((of_seat, k.1), call_word call small i)
      step_on call S.Announce stood of_seat small r f k =
          let class = bucket_small plan is_plan (key_in call) in
          let most = buckets_most in
          let few = k.announces in
          (of_seat, omega (arith, class, most, few))
      step_on call S.StoreWant stood of_seat small r f k =
          let class = bucket_small plan is_plan (key_in call) in
          let most = buckets_most in
          (inside, omega (arith, class, most))
      step_on call S.StoreAsking stood of_seat small r f k = (inside, (let few = k.asks in omega (arith, few)))
      step_on call S.HeldWord stood of_seat small r f k = bucket_small plan is_plan (key_in call)
      step_on call (S.TakeHold word) stood of_seat small r f k =
          (inside, (let most = rows_most in let row = k.1 in omega (arith, most, row)))
      step_on call (S.HeldHead row) stood of_seat small r f k = (k.1, omega arith)
      step_on call (S.HeldEntry row at left) stood of_seat small r f k = (k.1, omega (arith, k.2, k.3))
      step_on call (S.HeldReply row at) stood of_seat small r f k = (k.1, k.2)
      step_on call (S.GiveBack reply) stood of_seat small r f k = (inside, omega arith)
      step_on call (S.Over ending) stood of_seat small r f k = (of_seat, omega (arith, k))
      step_on call (S.LowerPending ending) stood of_seat small r f k = tt
      step_on call S.Stuck stood of_seat small r f k = tt

      -- THE RESULT
      pub there_on : (stand : Stand) → me.stand ≡ stand → IsOnTable plan (next_deed plan p me stand)
      there_on S.Idle e = tt
      there_on (S.Goes call step) e =
          let r = subst (ReadsAt plan x) e (reads.each p inside) in
          let f : IsChange call × FoundStep plan step = subst (FoundAt plan) e (finds.each p inside) in
          let k : SmallCall call × NearStep plan me.time me.posted (x.store.hold p) step × (p < plan.settings.seats) =
          subst (NearStand plan p me.time me.posted (x.store.hold p)) e (near.seats p inside).0 in
          step_on call step e k.2 k.0 r f.1 k.1
      there_on (S.Glances aim glance) e =
          let k : IsAim plan aim × NearGlance plan me.time (x.store.hold p) glance × FineLook plan 0 glance =
          subst (NearStand plan p me.time me.posted (x.store.hold p)) e (near.seats p inside).0 in
          look_on p me.time (x.store.hold p) inside aim k.0 glance k.1 k.2
