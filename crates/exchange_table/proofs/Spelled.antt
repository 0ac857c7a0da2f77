-- In every run the row of each bucket is spelled as rows are. So the words that were loaded of it are the words of what
-- they say.
use Rattle.std.proofs.Common.{◌≡◌, ℕ, zero, suc, ◌+◌, ◌<◌, ◌≤◌, inl, inr, Bool, true, false, cond, List, [], ◌∷◌, length, refl, sym, ap, ◌∙◌, subst, arith, lt-ltb}
use Rattle.std.specs.Prelude.{◌==◌, ◌^◌, fold, slice_index}
use Rattle.plain_map.specs.declared.calls.Call.{Call}
use Rattle.plain_map.specs.declared.calls.Call.TheVariants.{Insert, Remove, Lookup, Tally, Count, Put}
use Rattle.plain_map.specs.Calls.{key_in}
use Rattle.word_rows.specs.Memory.{put}
use Rattle.exchange_model.specs.Plans.{Plan, IsPlan, holders_of, buckets_of}
use Rattle.exchange_model.specs.Codes.{Row, row_words, row_of_words, row_in, row_at, row_length, count_in, entries_in, generation_in, words_at, length_by}
use Rattle.exchange_model.specs.Words as W
use Rattle.exchange_model.specs.Words.{with_word}
use Rattle.exchange_model.specs.Steps as S
use Rattle.exchange_model.specs.Steps.{Step, Stand, SeatNow, Found, Try, deed_of, glance_deed, bucket_of_call, change, next_row, next_tag}
use Rattle.exchange_model.specs.Worlds.{World, Event, OfSeat, OfReader, IsEvent, AreEvents, IsRun, What, Begin, Copy, Step_on, Fits, IsFlying, seat_in, ticked, goes, glances, goes_on, call_begins, act, happens, Peek, Open, Peek_on, peeks_on, opening_world, opening_store, world_after}
use Rattle.exchange_laws.proofs.Places.{either_put}
use Rattle.exchange_laws.proofs.RowLists.{first_there}
use Rattle.exchange_laws.proofs.Words.{bucket_small, row_of_tag, rows_few, seat_holds}
use Rattle.exchange_laws.proofs.Owned.{Owned}
use Rattle.exchange_laws.proofs.OwnedSteps.{IsStill, quiet_words, quiet_step, quiet_glance}
use Rattle.exchange_laws.proofs.OwnedMoves.{Moves}
use Rattle.exchange_laws.proofs.OwnedEvents.{quiet, event_keeps}
use Rattle.exchange_laws.proofs.OwnedRuns.{opening_owned, row_stays}
use Rattle.exchange_laws.proofs.TrueReads.{ReadsAt, IsFront, front_is, whole_row}
use Rattle.exchange_laws.proofs.RowWords.{IsRow, row_long, row_stands}
use Rattle.exchange_laws.proofs.StoredRows.{Stored, StoresBy, stored_first, stored_keep}
use Rattle.exchange_laws.proofs.MadeRows.{made_is_row}
use Rattle.exchange_laws.proofs.FoundOps.{FoundOk, FoundAt, found_first, found_keep}
use Rattle.exchange_laws.proofs.NearRuns.{all_known}
use Rattle.exchange_laws.proofs.KeptRows.{rows_are_kept}
use Rattle.exchange_calls.specs.Going.{IsRow as IsLoadedRow}

module _ (plan : Plan) where
  -- these are the words of a row that can be
  pub record IsSpelled (words : ℕ → ℕ) : Type 0 where
    pub row : Row
    pub is : IsRow plan row
    pub front : IsFront (row_words row) words

  -- the row of each bucket is spelled
  abbrev pub AllSpelled : World → Type 0
  AllSpelled x =
      (b : ℕ) → b < buckets_of plan.settings → IsSpelled (x.store.row (row_in plan (x.store.bucket b)))

  module _ (is_plan : IsPlan plan) (x : World) (h : Owned plan x) (finds : FoundOk plan x) (stored : Stored plan x)
      (all : AllSpelled x) where
    -- where no bucket word is another one then
    still : (y : World) → Moves plan h.at x y → y.store.bucket ≡ x.store.bucket → AllSpelled y
    still y moves words b less =
        let same : y.store.row (row_in plan (y.store.bucket b)) ≡ x.store.row (row_in plan (x.store.bucket b)) =
        ap (λ (f : ℕ → ℕ). y.store.row (row_in plan (f b))) words ∙ (λ k i. row_stays plan x y h b i less moves k) in
        subst IsSpelled (sym same) (all b less)

    module _ (p : ℕ) (inside : p < holders_of plan.settings) where
      abbrev now : SeatNow
      now = seat_in x p

      still_step : (call : Call) (step : Step) → IsStill step →
          Moves plan h.at x (ticked (goes plan x p now call step)) → AllSpelled (ticked (goes plan x p now call step))
      still_step call step quiet moves =
          still (ticked (goes plan x p now call step)) moves
          (quiet_words (deed_of plan p now call step) x.store (quiet_step plan p now call step quiet)).0

      -- the row that an exchange puts is spelled
      exchange_step : (call : Call) (t : Try) (found : List Found) → now.stand ≡ S.Goes call (S.Exchange t found) →
          Moves plan h.at x (ticked (goes plan x p now call (S.Exchange t found))) →
          AllSpelled (ticked (goes plan x p now call (S.Exchange t found)))
      exchange_step call t found stood moves = go (x.store.bucket b == t.word) refl
        where
          b : ℕ
          b = bucket_of_call plan call

          y : World
          y = ticked (goes plan x p now call (S.Exchange t found))

          f : FoundAt plan (S.Goes call (S.Exchange t found))
          f = subst (FoundAt plan) stood (finds.each p inside)

          s : StoresBy plan (x.store.row (next_row now)) (S.Goes call (S.Exchange t found))
          s = subst (StoresBy plan (x.store.row (next_row now))) stood (stored.each p inside)

          few : next_row now < 2 ^ plan.row_bits
          few =
              let q = quiet plan is_plan x h p inside (S.Goes call (S.Exchange t found)) stood (λ k. k) in
              let there = first_there now.free q.0.enough in
              let is = q.0.rows.mine (next_row now) (omega (arith, there)) in
              let most = rows_few plan is_plan in
              omega (arith, is.1, most)

          new : IsSpelled (x.store.row (row_in plan (next_tag plan now t.word)))
          new =
              subst (λ k. IsSpelled (x.store.row k))
              (sym (row_of_tag plan (generation_in plan t.word + 1) (next_row now) few))
              (record {
                row = (change plan t.row found).row;
                is = made_is_row plan is_plan t.row found f.1.0.items f.1.2 f.1.1;
                front = s;
              })

          go : (c : Bool) → (x.store.bucket b == t.word) ≡ c → AllSpelled y
          go false e a less =
              still y moves
              (ap (λ (c : Bool). (cond c (with_word x.store (W.Bucket b) (next_tag plan now t.word)) x.store).bucket) e)
              a less
          go true e a less =
              let words : y.store.bucket ≡ put x.store.bucket b (next_tag plan now t.word) =
              ap (λ (c : Bool). (cond c (with_word x.store (W.Bucket b) (next_tag plan now t.word)) x.store).bucket)
              e in
              let rows : y.store.row ≡ x.store.row =
              ap (λ (c : Bool). (cond c (with_word x.store (W.Bucket b) (next_tag plan now t.word)) x.store).row) e in
              subst (λ (f : ℕ → ℕ → ℕ). IsSpelled (f (row_in plan (y.store.bucket a)))) (sym rows)
              (subst (λ (f : ℕ → ℕ). IsSpelled (x.store.row (row_in plan (f a)))) (sym words)
              (elim (either_put x.store.bucket b (next_tag plan now t.word) a) [
                | inl z ↦ subst (λ w. IsSpelled (x.store.row (row_in plan w))) (sym z.1) new
                | inr z ↦ subst (λ w. IsSpelled (x.store.row (row_in plan w))) (sym z.1) (all a less)
              ]))

      update_step : (call : Call) (step : Step) → now.stand ≡ S.Goes call step →
          Moves plan h.at x (ticked (goes plan x p now call step)) → AllSpelled (ticked (goes plan x p now call step))
      update_step call (S.StoreRow t found i) stood moves =
          still (ticked (goes plan x p now call (S.StoreRow t found i))) moves refl
      update_step call (S.Exchange t found) stood moves = exchange_step call t found stood moves
      update_step call S.Scans stood moves = still_step call S.Scans tt moves
      update_step call (S.LoadWord turn) stood moves = still_step call (S.LoadWord turn) tt moves
      update_step call (S.LoadRow turn old words) stood moves = still_step call (S.LoadRow turn old words) tt moves
      update_step call (S.CheckWord turn old words) stood moves = still_step call (S.CheckWord turn old words) tt moves
      update_step call (S.LoadPending t) stood moves = still_step call (S.LoadPending t) tt moves
      update_step call (S.LoadAnnounced t found) stood moves = still_step call (S.LoadAnnounced t found) tt moves
      update_step call (S.LoadOp t found announced words) stood moves =
          still_step call (S.LoadOp t found announced words) tt moves
      update_step call S.RaisePending stood moves = still_step call S.RaisePending tt moves
      update_step call (S.StoreOp i) stood moves = still_step call (S.StoreOp i) tt moves
      update_step call S.Announce stood moves = still_step call S.Announce tt moves
      update_step call S.StoreWant stood moves = still_step call S.StoreWant tt moves
      update_step call S.StoreAsking stood moves = still_step call S.StoreAsking tt moves
      update_step call S.HeldWord stood moves = still_step call S.HeldWord tt moves
      update_step call (S.TakeHold old) stood moves = still_step call (S.TakeHold old) tt moves
      update_step call (S.HeldHead row) stood moves = still_step call (S.HeldHead row) tt moves
      update_step call (S.HeldEntry row at left) stood moves = still_step call (S.HeldEntry row at left) tt moves
      update_step call (S.HeldReply row at) stood moves = still_step call (S.HeldReply row at) tt moves
      update_step call (S.GiveBack reply) stood moves = still_step call (S.GiveBack reply) tt moves
      update_step call (S.Over ending) stood moves = still_step call (S.Over ending) tt moves
      update_step call (S.LowerPending ending) stood moves = still_step call (S.LowerPending ending) tt moves
      update_step call S.Stuck stood moves = still_step call S.Stuck tt moves

      seat_goes : (stand : Stand) → now.stand ≡ stand → IsFlying plan p stand →
          Moves plan h.at x (ticked (goes_on plan x p now stand)) → AllSpelled (ticked (goes_on plan x p now stand))
      seat_goes S.Idle e flies moves = absurd flies
      seat_goes (S.Goes call step) e flies moves = update_step call step e moves
      seat_goes (S.Glances aim glance) e flies moves =
          still (ticked (glances plan x p now aim glance)) moves
          (quiet_words (glance_deed plan p now.time aim glance) x.store (quiet_glance plan p now.time aim glance)).0

      call_first : (call : Call) → Moves plan h.at x (ticked (call_begins plan x p now call)) →
          AllSpelled (ticked (call_begins plan x p now call))
      call_first (Lookup key) moves = still _ moves refl
      call_first (Insert key value) moves = still _ moves refl
      call_first (Remove key) moves = still _ moves refl
      call_first (Tally key amount) moves = still _ moves refl
      call_first (Count key value amount) moves = still _ moves refl
      call_first (Put key value) moves = still _ moves refl

      seat_spelled : (what : What) → Fits plan p now what → Moves plan h.at x (ticked (act plan x p now what)) →
          AllSpelled (ticked (act plan x p now what))
      seat_spelled (Begin call) fits moves = call_first call moves
      seat_spelled (Copy bucket) fits moves = still _ moves refl
      seat_spelled Step_on fits moves = seat_goes now.stand refl fits moves

    reader_spelled : (r : ℕ) (peek : Peek) → Moves plan h.at x (happens plan x (OfReader r peek)) →
        AllSpelled (happens plan x (OfReader r peek))
    reader_spelled r (Open aim tries) moves = still _ moves refl
    reader_spelled r Peek_on moves = go (x.readers r).stand moves
      where
        go : (stand : S.Peeking) → Moves plan h.at x (ticked (peeks_on plan x r (x.readers r) stand)) →
            AllSpelled (ticked (peeks_on plan x r (x.readers r) stand))
        go S.Rests moves = still _ moves refl
        go (S.Peeks aim glance) moves = still _ moves refl

    -- an event keeps it
    spelled_keep : (event : Event) → IsEvent plan x event → Moves plan h.at x (happens plan x event) →
        AllSpelled (happens plan x event)
    spelled_keep (OfSeat p what) fits moves =
        subst (λ (c : Bool). Moves plan h.at x (cond c (ticked (act plan x p (seat_in x p) what)) x) →
        AllSpelled (cond c (ticked (act plan x p (seat_in x p) what)) x))
        (sym (lt-ltb p (holders_of plan.settings) fits.0)) (seat_spelled p fits.0 what fits.1) moves
    spelled_keep (OfReader r peek) fits moves = reader_spelled r peek moves

  -- a row of zeros is an empty one
  spelled_first : AllSpelled (opening_world plan)
  unfolding opening_store
  spelled_first b less = record {
    row = record { items = []; entries = [] };
    is = record { items = omega arith; few = omega arith; entries = tt };
    front = zeros;
  }
    where
      zeros : IsFront (row_words (record { items = []; entries = [] })) (λ i. 0)
      zeros zero few = refl
      zeros (suc i) few = absurd (omega (arith, few))

  spelled_follow : (is_plan : IsPlan plan) (events : List Event) (x : World) → Owned plan x → FoundOk plan x →
      Stored plan x → AllSpelled x → AreEvents plan x events → AllSpelled (fold (happens plan) x events)
  spelled_follow is_plan [] x h finds stored all follow = all
  spelled_follow is_plan (event ∷ events) x h finds stored all follow =
      let k = event_keeps plan is_plan x h event follow.0 in
      spelled_follow is_plan events (happens plan x event) k.owned (found_keep plan x h finds event follow.0)
      (stored_keep plan is_plan x h stored event follow.0)
      (spelled_keep is_plan x h finds stored all event follow.0 k.moves) follow.1

  all_spelled : (events : List Event) → IsRun plan events → AllSpelled (world_after plan events)
  all_spelled events run =
      spelled_follow run.opened events (opening_world plan) (opening_owned plan run.opened)
      (found_first plan run.opened)
      (stored_first plan run.opened) spelled_first run.follow

-- a whole front of a row that is spelled is spelled as what it says
whole_spelled : (plan : Plan) → IsPlan plan → (words : List ℕ) (row : ℕ → ℕ) → IsSpelled plan row → IsFront words row →
    length words ≡ length_by plan words → words ≡ row_words (row_of_words plan words)
whole_spelled plan is_plan words row s front whole =
    let said : row_of_words plan words ≡ row_at plan row = whole_row plan words row front whole in
    let is : row_at plan row ≡ s.row = row_stands plan is_plan s.row s.is row s.front in
    let known = front_is words row front in
    let spelled = front_is (row_words s.row) row s.front in
    known ∙ ap (λ m. words_at m row) long ∙ sym spelled ∙ ap row_words (sym (said ∙ is))
  where
    some : 1 ≤ length (row_words s.row)
    some = omega arith

    head : slice_index words 0 ≡ slice_index (row_words s.row) 0
    head = front 0 (let w = whole in omega (arith, w)) ∙ sym (s.front 0 some)

    long : length words ≡ length (row_words s.row)
    long = whole ∙ ap (λ h. row_length (count_in plan h) (entries_in plan h)) head ∙ same
      where
        same : row_length (count_in plan (slice_index (row_words s.row) 0))
            (entries_in plan (slice_index (row_words s.row) 0)) ≡ length (row_words s.row)
        same = (λ i. row_length (Rattle.exchange_laws.proofs.RowWords.count_is plan is_plan s.row s.is i)
            (Rattle.exchange_laws.proofs.RowWords.entries_is plan is_plan s.row s.is i))
            ∙ sym (row_long plan is_plan s.row s.is)

-- THE RESULT: a row that was loaded between two loads of one bucket word
pub rows_are_spelled : (plan : Plan) (events : List Event) (seat turn old : ℕ) (call : Call) (words : List ℕ) →
    IsRun plan events → seat < plan.settings.seats →
    (seat_in (world_after plan events) seat).stand ≡ S.Goes call (S.CheckWord turn old words) →
    (world_after plan events).store.bucket (bucket_of_call plan call) ≡ old → IsLoadedRow plan words
rows_are_spelled plan events seat turn old call words run inside stood same =
    let x = world_after plan events in
    let b = bucket_of_call plan call in
    let r = subst (ReadsAt plan x) stood ((all_known plan events run).reads.each seat (seat_holds plan seat inside)) in
    let s = all_spelled plan events run b (bucket_small plan run.opened (key_in call)) in
    record {
      spelled = whole_spelled plan run.opened words (x.store.row (row_in plan old))
          (subst (λ w. IsSpelled plan (x.store.row (row_in plan w))) same s) (r.0.front same) r.1;
      small = (rows_are_kept plan events seat turn old call words run inside stood same).values;
    }
