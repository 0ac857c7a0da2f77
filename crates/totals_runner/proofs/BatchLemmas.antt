-- What a table was when it was closed makes a batch that was counted.
use Rattle.std.proofs.Common.{◌≡◌, ◌==◌, ℕ, zero, suc, ◌+◌, ◌<◌, ◌≤◌, Bool, List, [], ◌∷◌, Vec, Global, length, vec_len, map, get_or, refl, sym, ap, subst, ◌∙◌, arith, zero-add}
use Rattle.std.specs.Prelude.{All, Some, filter, slice_get}
use Rattle.std.specs.List.{AllZip, range_with_len}
use Rattle.std.proofs.lemmas.List.{get_or-map, length-map}
use Rattle.std.proofs.lemmas.List.Elements.{All-cons, All-filter, All-map, All-nil}
use Rattle.std.proofs.lemmas.List.FromFn.{get_or-map-range_with_len, length-map-range_with_len}
use Rattle.std.proofs.lemmas.List.Sums.{count_by-le-length, length-filter, sum_by-le}
use Rattle.std.proofs.lemmas.Option.{slice_get-get_or}
use Rattle.std.proofs.lemmas.Simd.{map-map}
use Rattle.sim_steps.specs.declared.adds.Added.{Added}
use Rattle.sim_steps.specs.declared.adds.Totals.{Totals}
use Rattle.sim_steps.specs.Layout.{AreSettings, Settings, seats_of}
use Rattle.sim_steps.specs.Program.{Idle, Seat}
use Rattle.sim_steps.specs.Totals.{AreSmall}
use Rattle.sim_steps.specs.World.{AreSteps, Event, World, seat_in, world_after}
use Rattle.sim_steps.specs.Order.{order_of}
use Rattle.sim_steps.proofs.LawProofs.{are_answered}
use Rattle.sim_totals.specs.declared.table.ClosedTotals.{ClosedTotals}
use Rattle.sim_totals.specs.Values.{AdderValue, IsOf, Ran, TableValue, fresh}
use Rattle.packet_adders.specs.declared.frames.Frame.{Frame}
use Rattle.packet_adders.specs.Work.{IsAnswerTo}
use Rattle.totals_runner.specs.PacketAdds.{adds_by, seat_for}
use Rattle.totals_runner.specs.Counted.{AreRootTotals, Counted, IsCounted, settings_of}
use Rattle.totals_runner.specs.Frames.{frames_by, shares_in}
use Rattle.totals_runner.specs.Seats.{HasAdded, HaveAdded}
use Rattle.totals_runner.specs.Batch.{IsOfRun}
use Rattle.totals_runner.proofs.MergeLemmas.{Merged, answers_to, many_adds, merged, seats_of_answers}

-- ---- shares of frames

-- each seat's share
pub share_at : (seats : ℕ) (frames : List Frame) (shares : List (Vec Frame Global)) →
    map (λ (share : Vec Frame Global). share.items) shares ≡ shares_in seats frames → (k : ℕ) (d : Vec Frame Global) →
    k < length shares → (get_or shares k d).items ≡ frames_by seats k frames
share_at seats frames shares are k d less =
    let long : length shares ≡ seats =
    sym (length-map shares (λ (share : Vec Frame Global). share.items)) ∙ ap (λ (xs : List (List Frame)). length xs) are
    ∙ length-map-range_with_len (λ (seat : ℕ). frames_by seats seat frames) 0 seats in
    let inside : k < seats = omega (arith, less, long) in
    sym (get_or-map (λ (share : Vec Frame Global). share.items) shares k d [] less)
    ∙ ap (λ (xs : List (List Frame)). get_or xs k []) are
    ∙ get_or-map-range_with_len (λ (seat : ℕ). frames_by seats seat frames) 0 seats k k [] inside (zero-add k)

-- none has more frames than there are
pub few_by : (seats seat : ℕ) (frames : List Frame) → length (frames_by seats seat frames) ≤ length frames
few_by seats seat frames =
    let test : Frame → Bool = λ frame. seat_for seats frame.packet == seat in
    omega (arith, length-filter test frames, count_by-le-length test frames)

-- so they can be counted
pub shares_few : (seats : ℕ) (frames : List Frame) (shares : List (Vec Frame Global)) →
    map (λ (share : Vec Frame Global). share.items) shares ≡ shares_in seats frames → length frames ≤ 4000000 →
    All (λ (share : Vec Frame Global). vec_len share ≤ 4000000) shares
shares_few seats frames shares are few k d less =
    let own = share_at seats frames shares are k d less in
    omega (arith, (get_or shares k d).ok.0, ap (λ (fs : List Frame). length fs) own, few_by seats k frames, few)

-- and none is longer than a capture allows
pub shares_short : (seats : ℕ) (frames : List Frame) (shares : List (Vec Frame Global)) →
    map (λ (share : Vec Frame Global). share.items) shares ≡ shares_in seats frames →
    All (λ (frame : Frame). frame.length ≤ 262144) frames →
    All (λ (share : Vec Frame Global). All (λ (frame : Frame). frame.length ≤ 262144) share.items) shares
shares_short seats frames shares are short k d less =
    subst (All (λ (frame : Frame). frame.length ≤ 262144)) (sym (share_at seats frames shares are k d less))
    (All-filter (λ (frame : Frame). seat_for seats frame.packet == k) (λ (frame : Frame). frame.length ≤ 262144) frames
    short)

-- how many each seat is to add
pub counts_are : (seats : ℕ) (frames : List Frame) (shares : List (Vec Frame Global)) →
    map (λ (share : Vec Frame Global). share.items) shares ≡ shares_in seats frames →
    map (λ (share : Vec Frame Global). vec_len share) shares
    ≡ map (λ (seat : ℕ). length (frames_by seats seat frames)) (range_with_len 0 seats)
counts_are seats frames shares are =
    lengths shares ∙ ap (map (λ (fs : List Frame). length fs)) are
    ∙ map-map (λ (fs : List Frame). length fs) (λ (seat : ℕ). frames_by seats seat frames) (range_with_len 0 seats)
  where
    lengths : (vs : List (Vec Frame Global)) →
        map (λ (share : Vec Frame Global). vec_len share) vs
        ≡ map (λ (fs : List Frame). length fs) (map (λ (share : Vec Frame Global). share.items) vs)
    lengths [] = refl
    lengths (v ∷ vs) = ap (λ (n : ℕ). n ∷ map (λ (share : Vec Frame Global). vec_len share) vs) v.ok.0
        ∙ ap (λ (ns : List ℕ). length v.items ∷ ns) (lengths vs)

-- a table can be opened for them
pub frame_settings : (seats : ℕ) (frames : List Frame) (counts : List ℕ) (first : Totals) → 1 ≤ seats → seats ≤ 8 →
    counts ≡ map (λ (seat : ℕ). length (frames_by seats seat frames)) (range_with_len 0 seats) →
    length frames ≤ 4000000 → AreSmall first → AreSettings (record { adds = counts; first = first })
frame_settings seats frames counts first some few are short small =
    let long : length counts ≡ seats =
    ap (λ (xs : List ℕ). length xs) are
    ∙ length-map-range_with_len (λ (seat : ℕ). length (frames_by seats seat frames)) 0 seats in
    let each : All (λ (n : ℕ). n ≤ 4000000) counts =
    subst (All (λ (n : ℕ). n ≤ 4000000)) (sym are)
    (All-map (λ (n : ℕ). n ≤ 4000000) (λ (seat : ℕ). length (frames_by seats seat frames)) (range_with_len 0 seats)
    (λ k d less. below (get_or (range_with_len 0 seats) k d))) in
    let most = sum_by-le (λ (n : ℕ). n) 4000000 counts each in
    record {
      some = omega (arith, some, long);
      few = omega (arith, few, long);
      rows = omega (arith, most, long, few);
      small = small;
    }
  where
    below : (seat : ℕ) → length (frames_by seats seat frames) ≤ 4000000
    below seat = omega (arith, few_by seats seat frames, short)

-- ---- adders that are through

-- one of them
pub have_at : (t : TableValue) (n : ℕ) (shares : List (List Frame)) (adders : List AdderValue)
    (logs : List (List Added)) → HaveAdded t n shares adders logs → (i : ℕ) (d : AdderValue) → i < length shares →
    HasAdded t (n + i) (get_or shares i []) (get_or adders i d) (get_or logs i [])
have_at t n [] [] [] have i d less = absurd (omega (arith, less))
have_at t n [] [] (log ∷ logs) have i d less = absurd have
have_at t n [] (a ∷ adders) logs have i d less = absurd have
have_at t n (share ∷ shares) [] logs have i d less = absurd have
have_at t n (share ∷ shares) (a ∷ adders) [] have i d less = absurd have
have_at t n (share ∷ shares) (a ∷ adders) (log ∷ logs) have zero d less =
    let z : n ≡ n + 0 = omega arith in
    subst (λ (k : ℕ). HasAdded t k share a log) z have.0
have_at t n (share ∷ shares) (a ∷ adders) (log ∷ logs) have (suc i) d less =
    let z : suc n + i ≡ n + suc i = omega arith in
    subst (λ (k : ℕ). HasAdded t k (get_or shares i []) (get_or adders i d) (get_or logs i [])) z
    (have_at t (suc n) shares adders logs have.1 i d (omega (arith, less)))

-- as many adders as shares
pub have_many : (t : TableValue) (n : ℕ) (shares : List (List Frame)) (adders : List AdderValue)
    (logs : List (List Added)) → HaveAdded t n shares adders logs →
    (length adders ≡ length shares) × (length logs ≡ length shares)
have_many t n [] [] [] have = (refl, refl)
have_many t n [] [] (log ∷ logs) have = absurd have
have_many t n [] (a ∷ adders) logs have = absurd have
have_many t n (share ∷ shares) [] logs have = absurd have
have_many t n (share ∷ shares) (a ∷ adders) [] have = absurd have
have_many t n (share ∷ shares) (a ∷ adders) (log ∷ logs) have =
    let rest = have_many t (suc n) shares adders logs have.1 in
    (ap suc rest.0, ap suc rest.1)

-- all of the table
pub have_all : (t : TableValue) (n : ℕ) (shares : List (List Frame)) (adders : List AdderValue)
    (logs : List (List Added)) → HaveAdded t n shares adders logs → All (IsOf t) adders
have_all t n [] [] [] have = All-nil (IsOf t)
have_all t n [] [] (log ∷ logs) have = absurd have
have_all t n [] (a ∷ adders) logs have = absurd have
have_all t n (share ∷ shares) [] logs have = absurd have
have_all t n (share ∷ shares) (a ∷ adders) [] have = absurd have
have_all t n (share ∷ shares) (a ∷ adders) (log ∷ logs) have =
    All-cons (IsOf t) a adders have.0.of (have_all t (suc n) shares adders logs have.1)

-- ---- the batch

-- what is said of a batch that was counted, on a table of these settings
record IsOn (settings : Settings) (seats : ℕ) (batch : Counted) : Type 0 where
  run : List Event
  steps : AreSteps settings run
  idle : (seat : ℕ) → seat < seats → (seat_in (world_after settings run) seat).phase ≡ Idle
  logs : (seat : ℕ) → seat < seats →
      (seat_in (world_after settings run) seat).log ≡ filter (λ (a : Added). a.seat == seat) batch.answers
  order_is : batch.order ≡ order_of settings (world_after settings run).words
  left_is : AreRootTotals settings (world_after settings run).words batch.left

-- such settings are those of the batch
counted_on : (settings : Settings) (seats : ℕ) (batch : Counted) → settings ≡ settings_of seats batch →
    IsOn settings seats batch → map (λ (a : Added). a.add) batch.answers ≡ batch.adds →
    All (λ (a : Added). a.seat ≡ seat_for seats a.add.packet) batch.answers → IsCounted seats batch
counted_on settings seats batch same is asked seats_are =
    let on = subst (λ (s : Settings). IsOn s seats batch) same is in
    record {
      run = on.run;
      steps = on.steps;
      idle = on.idle;
      asked = asked;
      seats_are = seats_are;
      logs = on.logs;
      order_is = on.order_is;
      left_is = on.left_is;
    }

module _ (seats : ℕ) (some : 0 < seats) (t : TableValue) (first : Totals) (frames : List Frame)
    (adders : List AdderValue) (logs : List (List Added)) (closed : ClosedTotals)
    (opened : t.settings ≡ record {
      adds = map (λ (seat : ℕ). length (frames_by seats seat frames)) (range_with_len 0 seats);
      first = first;
    })
    (ok : AreSettings t.settings) (have : HaveAdded t 0 (shares_in seats frames) adders logs)
    (ran : Ran t.settings closed.totals closed.order.items adders) where
  world : World
  world = world_after t.settings ran.run

  long : length (shares_in seats frames) ≡ seats
  long = length-map-range_with_len (λ (seat : ℕ). frames_by seats seat frames) 0 seats

  many_seats : seats_of t.settings ≡ seats
  many_seats = ap (λ (s : Settings). seats_of s) opened
      ∙ length-map-range_with_len (λ (seat : ℕ). length (frames_by seats seat frames)) 0 seats

  -- the adder of a seat, and how the run leaves it
  has : (seat : ℕ) → seat < seats →
      HasAdded t seat (frames_by seats seat frames) (get_or adders seat (fresh t 0)) (get_or logs seat [])
  has seat less =
      subst (λ (fs : List Frame). HasAdded t seat fs (get_or adders seat (fresh t 0)) (get_or logs seat []))
      (get_or-map-range_with_len (λ (s : ℕ). frames_by seats s frames) 0 seats seat seat [] less (zero-add seat))
      (subst (λ (k : ℕ). HasAdded t k (get_or (shares_in seats frames) seat []) (get_or adders seat (fresh t 0))
      (get_or logs seat [])) (zero-add seat)
      (have_at t 0 (shares_in seats frames) adders logs have seat (fresh t 0) (omega (arith, less, long))))

  left : (seat : ℕ) → seat < seats →
      seat_in (world_after t.settings ran.run) seat ≡ (get_or adders seat (fresh t 0)).seat
  left seat less =
      let inside : seat < length adders =
      omega (arith, less, long, (have_many t 0 (shares_in seats frames) adders logs have).0) in
      ap (λ (k : ℕ). seat_in (world_after t.settings ran.run) k) (sym (has seat less).number_is)
      ∙ (ran.seats seat (fresh t 0) inside).state

  log_is : (seat : ℕ) → seat < seats → (seat_in (world_after t.settings ran.run) seat).log ≡ get_or logs seat []
  log_is seat less = ap (λ (s : Seat). s.log) (left seat less) ∙ (has seat less).log_is

  -- its answers are its own
  own : (seat : ℕ) → seat < seats → All (λ (a : Added). a.seat ≡ seat) (get_or logs seat [])
  own seat less i d inside =
      let log : List Added = get_or logs seat [] in
      let got : slice_get (seat_in (world_after t.settings ran.run) seat).log i ≡ Some (get_or log i d) =
      ap (λ (xs : List Added). slice_get xs i) (log_is seat less) ∙ slice_get-get_or log i d inside in
      (are_answered t.settings ran.run seat ok (omega (arith, less, many_seats)) i (get_or log i d) got).seat_is

  all : Merged seats frames (λ (seat : ℕ). get_or logs seat [])
  all = merged seats some frames (λ (seat : ℕ). get_or logs seat []) (λ seat less. (has seat less).answers) own

  batch : List Added → Counted
  batch answers = record {
    first = first;
    adds = map (λ (a : Added). a.add) answers;
    answers = answers;
    order = closed.order.items;
    left = closed.totals;
  }

  -- the table has just the room that the batch asks for
  settings_are : (answers : List Added) → AllZip IsAnswerTo frames answers →
      t.settings ≡ settings_of seats (record {
        first = first;
        adds = map (λ (a : Added). a.add) answers;
        answers = answers;
        order = closed.order.items;
        left = closed.totals;
      })
  settings_are answers zip =
      opened ∙ ap (λ (adds : List ℕ). to_settings adds) (same (range_with_len 0 seats))
    where
      to_settings : List ℕ → Settings
      to_settings adds = record { adds = adds; first = first }

      same : (xs : List ℕ) →
          map (λ (seat : ℕ). length (frames_by seats seat frames)) xs
          ≡ map (λ (seat : ℕ). length (adds_by seats seat (map (λ (a : Added). a.add) answers))) xs
      same [] = refl
      same (x ∷ xs) =
          ap (λ (n : ℕ). n ∷ map (λ (seat : ℕ). length (frames_by seats seat frames)) xs)
          (sym (many_adds seats x frames answers zip))
          ∙ ap (λ (ns : List ℕ). length (adds_by seats x (map (λ (a : Added). a.add) answers)) ∷ ns) (same xs)

  pub of_run : (b : Counted) × IsOfRun seats first frames logs closed b
  of_run =
      let answers : List Added = all.answers in
      let b : Counted = record {
        first = first;
        adds = map (λ (a : Added). a.add) answers;
        answers = answers;
        order = closed.order.items;
        left = closed.totals;
      } in
      let zip : AllZip IsAnswerTo frames answers = answers_to seats frames answers all.each in
      let on : IsOn t.settings seats b = record {
        run = ran.run;
        steps = ran.steps;
        idle = λ seat less. ap (λ (s : Seat). s.phase) (left seat less) ∙ (has seat less).idle;
        logs = λ seat less. log_is seat less ∙ all.logs_are seat less;
        order_is = ran.order_is;
        left_is = record { counts = ran.counts; bytes = ran.bytes };
      } in (
        b,
        record {
          counted = counted_on t.settings seats b (settings_are answers zip) on refl
              (seats_of_answers seats frames answers all.each);
          begins = refl;
          answers = zip;
          as_many = (have_many t 0 (shares_in seats frames) adders logs have).1 ∙ long;
          logs_are = all.logs_are;
          order_is = refl;
          left_is = refl;
        },
      )
