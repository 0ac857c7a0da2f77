-- A call that is under way has never taken more steps than its bound.
use Rattle.std.proofs.Common.{◌≡◌, ℕ, refl, ◌-◌, ◌<◌, ◌≤◌, inl, inr, cond, List, length, Option, Some, None, subst, arith, ap, Bool, true, false, lt-ltb}
use Rattle.std.specs.Prelude.{nat_lt}
use Rattle.std.proofs.lemmas.Bool.{cases_lt, le-ltb}
use Rattle.exchange_model.specs.Plans.{Plan, IsPlan, holders_of}
use Rattle.exchange_model.specs.Bounds.{update_bound, look_bound}
use Rattle.exchange_model.specs.Laws.{GoesOn, StandsWithin, CallsStayWithin}
use Rattle.exchange_model.specs.Steps as S
use Rattle.exchange_model.specs.Steps.{SeatNow, Step, Stand, Scan, Tried, HeldIn, Glance, bucket_of_call}
use Rattle.exchange_model.specs.Worlds.{World, opening_world, world_after, seat_in}
use Rattle.exchange_laws.proofs.Owned.{Owned, Room}
use Rattle.exchange_laws.proofs.OwnedRuns.{opening_owned, owned_holds}
use Rattle.exchange_laws.proofs.FoundOps.{FoundOk, FoundAt, found_first, found_follow}
use Rattle.exchange_laws.proofs.TrueReads.{Reads, ReadsAt, ReadsStep, reads_first, reads_follow}
use Rattle.exchange_laws.proofs.StepCounts.{Taken, Facts, IsNoScan, ScanTakenOf, others, start_most, word_few, new_few}
use Rattle.exchange_laws.proofs.Bounded.{LookTaken, Bounded, TakenAt, facts, tried_most, bounded_first, bounded_follow}
use Rattle.exchange_laws.proofs.TiedRuns.{seats_go_on}

-- fewer others than seats are gone through
others_most : (own seat : ℕ) → others own seat ≤ seat
others_most own seat = go (nat_lt own seat)
  where
    go : (b : Bool) → cond b (seat - 1) seat ≤ seat
    go true = omega arith
    go false = omega arith

others_few : (own seat seats : ℕ) → own < seats → seat < seats → others own seat ≤ seats - 1
others_few own seat seats inside less = elim (cases_lt own seat) [
  | inl high ↦
      (let is = ap (λ (b : Bool). cond b (seat - 1) seat) (lt-ltb own seat high) in omega (arith, is, less, inside))
  | inr low ↦
      (let is = ap (λ (b : Bool). cond b (seat - 1) seat) (le-ltb own seat low) in omega (arith, is, low, inside))
]

module _ (plan : Plan) (is_plan : IsPlan plan) where
  -- neither a step of a scan nor one after which there is none
  abbrev IsOn : Step → Type 0
  IsOn S.Scans = ⊥
  IsOn S.Stuck = ⊥
  IsOn step = Unit {0}

  -- where an update stands
  taken_within : (q : ℕ) (less : q < plan.settings.seats) (scan : Option Scan) (step : Step) (n : ℕ) →
      Facts plan is_plan q less step → Taken plan is_plan q less scan step n → IsOn step →
      n ≤ update_bound plan.settings
  taken_within q less scan (S.LoadWord turn) n f k o =
      (let most = start_most plan is_plan q less turn k.0 in omega (arith, most, k.1))
  taken_within q less scan (S.LoadRow turn old words) n f k o =
      (let most = start_most plan is_plan q less turn k.0 in
      let few = word_few plan is_plan q less words f in omega (arith, most, k.1, few))
  taken_within q less scan (S.CheckWord turn old words) n f k o =
      (let most = start_most plan is_plan q less turn k.0 in omega (arith, most, k.1))
  taken_within q less scan (S.LoadPending t) n f k o =
      (let most = start_most plan is_plan q less t.turn k.0 in omega (arith, most, k.1))
  taken_within q less scan (S.LoadAnnounced t found) n f k o =
      (let most = start_most plan is_plan q less t.turn k.0 in
      let few = others_few q (length found) plan.settings.seats less f.2 in omega (arith, most, k.1, few))
  taken_within q less scan (S.LoadOp t found announced words) n f k o =
      (let most = start_most plan is_plan q less t.turn k.0 in
      let few = others_few q (length found) plan.settings.seats less f.2 in omega (arith, most, k.1, k.2, few))
  taken_within q less scan (S.StoreRow t found i) n f k o =
      (let most = start_most plan is_plan q less t.turn k.0 in
      let few = new_few plan is_plan q less t found f in omega (arith, most, k.1, k.2, few))
  taken_within q less scan (S.Exchange t found) n f k o =
      (let most = start_most plan is_plan q less t.turn k.0 in omega (arith, most, k.1))
  taken_within q less scan S.RaisePending n f k o = omega (arith, k)
  taken_within q less scan S.Announce n f k o = omega (arith, k)
  taken_within q less scan S.StoreWant n f k o = omega (arith, k)
  taken_within q less scan S.StoreAsking n f k o = omega (arith, k)
  taken_within q less scan S.HeldWord n f k o = omega (arith, k)
  taken_within q less scan (S.TakeHold old) n f k o = omega (arith, k)
  taken_within q less scan (S.HeldHead row) n f k o = omega (arith, k)
  taken_within q less scan (S.HeldReply row at) n f k o = omega (arith, k)
  taken_within q less scan (S.GiveBack reply) n f k o = omega (arith, k)
  taken_within q less scan (S.Over ending) n f k o = omega (arith, k)
  taken_within q less scan (S.LowerPending ending) n f k o = omega (arith, k)
  taken_within q less scan (S.StoreOp i) n f k o = omega (arith, k.0, k.1)
  taken_within q less scan (S.HeldEntry row at left) n f k o = omega (arith, k.0, k.1)
  taken_within q less scan S.Scans n f k o = absurd o
  taken_within q less scan S.Stuck n f k o = absurd o

  -- where its scan stands
  scan_within : (q : ℕ) (less : q < plan.settings.seats) (stand : Stand) (free kept : List ℕ) (scan : Option Scan)
      (n : ℕ) →
      Room plan q stand free kept scan → ScanTakenOf plan is_plan q less scan n → n ≤ update_bound plan.settings
  scan_within q less stand free kept None n room k = omega (arith, k)
  scan_within q less stand free kept (Some (S.Seats j left held)) n room k =
      (let most = others_most q j in omega (arith, k, most, room.at_seat.within))
  scan_within q less stand free kept (Some (S.Sees j t left held)) n room k =
      (let most = others_most q j in omega (arith, k.0, most, room.at_seat.within))
  scan_within q less stand free kept (Some (S.Loads j t class left held)) n room k =
      (let most = others_most q j in omega (arith, k.0, most, room.at_seat.within))
  scan_within q less stand free kept (Some (S.Gives j t row left held)) n room k =
      (let most = others_most q j in omega (arith, k.0, most, room.at_seat.within))

  -- where a look stands
  look_within : (glance : Glance) (n : ℕ) → LookTaken plan.settings glance n → n ≤ look_bound plan.settings
  look_within (S.GlanceWord left) n k =
      (let most = tried_most plan.settings left k.0 in omega (arith, k.1, most))
  look_within (S.GlanceCount (Tried left word)) n k =
      (let most = tried_most plan.settings left k.0 in omega (arith, k.1, most))
  look_within (S.GlanceCount (HeldIn row)) n k = omega (arith, k)
  look_within (S.GlanceItem (Tried left word) pass) n k =
      (let most = tried_most plan.settings left k.0 in omega (arith, k.1, k.2, k.3, k.4, most))
  look_within (S.GlanceItem (HeldIn row) pass) n k = omega (arith, k.1, k.2, k.3, k.4)
  look_within (S.GlanceCheck left word kept) n k =
      (let most = tried_most plan.settings left k.0 in omega (arith, k.1, most))
  look_within S.GlanceWant n k = omega (arith, k)
  look_within S.GlanceAsking n k = omega (arith, k)
  look_within S.GlanceHeld n k = omega (arith, k)
  look_within (S.GlanceTake word) n k = omega (arith, k)
  look_within (S.GlanceBack kept) n k = omega (arith, k)

  module _ (x : World) (h : Owned plan x) (reads : Reads plan x) (finds : FoundOk plan x) (c : Bounded plan is_plan x)
      (q : ℕ) (inside : q < holders_of plan.settings) where
    abbrev now : SeatNow
    now = seat_in x q

    within : (stand : Stand) → now.stand ≡ stand → GoesOn stand → StandsWithin plan.settings now stand
    within S.Idle e on = tt
    within (S.Glances aim glance) e on =
        look_within glance now.course.steps
        (subst (λ (st : Stand). TakenAt plan is_plan q now.scan st now.course.steps) e (c.each q inside))
    within (S.Goes call step) e on = go step e on
      where
        taken : (step : Step) → now.stand ≡ S.Goes call step →
            (less : q < plan.settings.seats) × Taken plan is_plan q less now.scan step now.course.steps
        taken step e = subst (λ (st : Stand). TakenAt plan is_plan q now.scan st now.course.steps) e (c.each q inside)

        one : (step : Step) → now.stand ≡ S.Goes call step → IsOn step →
            ((less : q < plan.settings.seats) → IsNoScan plan is_plan q less step) →
            now.course.steps ≤ update_bound plan.settings
        one step e o none =
            let k = taken step e in
            let r : ReadsStep plan x (bucket_of_call plan call) step =
            subst (ReadsAt plan x) e (reads.each q inside) in
            let g : FoundAt plan (S.Goes call step) = subst (FoundAt plan) e (finds.each q inside) in
            taken_within q k.0 now.scan step now.course.steps
            (facts plan is_plan q k.0 x (bucket_of_call plan call) step (none k.0) r g.1) k.1 o

        go : (step : Step) → now.stand ≡ S.Goes call step → GoesOn (S.Goes call step) →
            now.course.steps ≤ update_bound plan.settings
        go S.Stuck e on = absurd on
        go S.Scans e on =
            (let k = taken S.Scans e in
            scan_within q k.0 now.stand now.free now.kept now.scan now.course.steps (h.seats q inside).room k.1)
        go (S.LoadWord turn) e on = one (S.LoadWord turn) e tt (λ _. tt)
        go (S.LoadRow turn old words) e on = one (S.LoadRow turn old words) e tt (λ _. tt)
        go (S.CheckWord turn old words) e on = one (S.CheckWord turn old words) e tt (λ _. tt)
        go (S.LoadPending t) e on = one (S.LoadPending t) e tt (λ _. tt)
        go (S.LoadAnnounced t found) e on = one (S.LoadAnnounced t found) e tt (λ _. tt)
        go (S.LoadOp t found announced words) e on = one (S.LoadOp t found announced words) e tt (λ _. tt)
        go (S.StoreRow t found i) e on = one (S.StoreRow t found i) e tt (λ _. tt)
        go (S.Exchange t found) e on = one (S.Exchange t found) e tt (λ _. tt)
        go S.RaisePending e on = one S.RaisePending e tt (λ _. tt)
        go (S.StoreOp i) e on = one (S.StoreOp i) e tt (λ _. tt)
        go S.Announce e on = one S.Announce e tt (λ _. tt)
        go S.StoreWant e on = one S.StoreWant e tt (λ _. tt)
        go S.StoreAsking e on = one S.StoreAsking e tt (λ _. tt)
        go S.HeldWord e on = one S.HeldWord e tt (λ _. tt)
        go (S.TakeHold old) e on = one (S.TakeHold old) e tt (λ _. tt)
        go (S.HeldHead row) e on = one (S.HeldHead row) e tt (λ _. tt)
        go (S.HeldEntry row at left) e on = one (S.HeldEntry row at left) e tt (λ _. tt)
        go (S.HeldReply row at) e on = one (S.HeldReply row at) e tt (λ _. tt)
        go (S.GiveBack reply) e on = one (S.GiveBack reply) e tt (λ _. tt)
        go (S.Over ending) e on = one (S.Over ending) e tt (λ _. tt)
        go (S.LowerPending ending) e on = one (S.LowerPending ending) e tt (λ _. tt)

-- THE RESULT
pub calls_stay_within : CallsStayWithin
calls_stay_within plan events seat run inside =
    let x = world_after plan events in
    let open_ = opening_world plan in
    let owned = opening_owned plan run.opened in
    let reads = reads_follow plan run.opened events open_ owned (reads_first plan run.opened) run.follow in
    let finds = found_follow plan run.opened events open_ owned (found_first plan run.opened) run.follow in
    let c = bounded_follow plan run.opened events open_ owned (reads_first plan run.opened)
    (found_first plan run.opened)
    (bounded_first plan run.opened) run.follow in
    within plan run.opened x (owned_holds plan events run) reads finds c seat inside (seat_in x seat).stand refl
    (seats_go_on plan events seat run)
