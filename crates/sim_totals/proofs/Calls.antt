-- An add, step by step.
use Rattle.std.proofs.Common.{◌≡◌, ℕ, ◌+◌, ◌<◌, Bool, true, false, cond, ltb, leb, ◌&&◌, List, [], ◌∷◌, ◌++◌, length, refl, sym, ap, ◌∙◌, subst, arith}
use Rattle.std.proofs.Common.{Some, None}
use Rattle.std.proofs.lemmas.Bool.{cond-true, cond-false, lt-ltb, le-leb, and_from}
use Rattle.std.proofs.lemmas.List.{length_push}
use Rattle.sim_steps.specs.declared.adds.Add.{Add}
use Rattle.sim_steps.specs.declared.adds.Added.{Added}
use Rattle.sim_steps.specs.declared.words.Desk.{Desk}
use Rattle.sim_steps.specs.Totals.{IsAdd, is_add}
use Rattle.sim_steps.specs.Layout.{Settings, room_of, desk_of}
use Rattle.sim_steps.specs.Program.{Seat, Caller, Phase, Idle, LoadDone, StoreOp, Announce, LoadRoot, LoadRow, LoadAnnouncement, LoadOp, StoreRow, Publish, StoreDone, is_idle, begun, ready, answer_of, log_after}
use Rattle.sim_steps.specs.Machine.{Machine, begins, asks, takes, answers, answer_in}
use Rattle.sim_steps.specs.World.{Event, can_act}
use Rattle.sim_steps.specs.Laws.{OfEach, IsWhole, events_of}
use Rattle.sim_totals.specs.Rule.{one, M, AsksFor, advanced, state_of, seen_of, seat_of, IsSeat, At, Moved, Under, Adds, told_all, running, after, StartsWith}
use Rattle.sim_totals.specs.Insides.{Rests}
use Rattle.sim_totals.proofs.Lists.{starts-self, starts-through}

-- what a seat is after one word more
pub told-snoc : (c : Settings) (i : ℕ) (x : Add) (s : Seat) (ns : List ℕ) (n : ℕ) →
    told_all c i x s (ns ++ n ∷ []) ≡ advanced c i x (told_all c i x s ns) n
told-snoc c i x s [] n = refl
told-snoc c i x s (k ∷ ks) n = told-snoc c i x (advanced c i x s k) ks n

-- an idle phase passes the test
is_idle_of : (p : Phase) → p ≡ Idle → is_idle p ≡ true
is_idle_of p e = ap is_idle e

-- and what passes it is idle
idle_from : (p : Phase) → is_idle p ≡ true → p ≡ Idle
idle_from Idle e = refl
idle_from LoadDone e = cc
idle_from (StoreOp i) e = cc
idle_from Announce e = cc
idle_from (LoadRoot turn) e = cc
idle_from (LoadRow turn root row) e = cc
idle_from (LoadAnnouncement turn root row found) e = cc
idle_from (LoadOp turn root row found op words) e = cc
idle_from (StoreRow turn root row i) e = cc
idle_from (Publish turn root row) e = cc
idle_from (StoreDone count) e = cc

-- a seat that begins
ready_idle : (x : Add) (s : Seat) → is_idle s.phase ≡ true → ready x s ≡ begun x s
ready_idle x s e = cond-true (is_idle s.phase) (begun x s) s e

-- a seat in an add begins none
ready_busy : (x : Add) (s : Seat) → is_idle s.phase ≡ false → ready x s ≡ s
ready_busy x s e = cond-false (is_idle s.phase) (begun x s) s e

-- an idle seat with room can begin an add
can_begin : (c : Settings) (i : ℕ) (x : Add) (s : Seat) → s.caller.number < room_of c i → IsAdd x →
    can_act c i x s ≡ true
can_begin c i x s h a = go (is_idle s.phase)
  where
    test : (ltb s.caller.number (room_of c i) && is_add x) ≡ true
    test = and_from (ltb s.caller.number (room_of c i)) (is_add x) (lt-ltb s.caller.number (room_of c i) h)
        (and_from (ltb x.class 3) (leb x.length 262144) (lt-ltb x.class 3 a.0) (le-leb x.length 262144 a.1))

    go : (b : Bool) → cond b (ltb s.caller.number (room_of c i) && is_add x) true ≡ true
    go true = test
    go false = refl

-- a seat in an add can go on
can_go_on : (c : Settings) (i : ℕ) (x : Add) (s : Seat) → is_idle s.phase ≡ false → can_act c i x s ≡ true
can_go_on c i x s e = cond-false (is_idle s.phase) (ltb s.caller.number (room_of c i) && is_add x) true e

-- between two adds a seat has begun as many as it has answered
pub counted_rests : OfEach IsWhole → (i : ℕ) (m : M) (k : Machine) → Rests i m k →
    (state_of m).caller.number ≡ length (state_of m).log
counted_rests law i m k r =
    let w = (law m.0.settings (seen_of m) i r.at.settings r.at.inside).counted in
    let e = r.at.reached in
    let none : cond {A = ℕ} (is_idle (state_of m).phase) 0 1 ≡ 0 =
    cond-true {A = ℕ} (is_idle (state_of m).phase) 0 1 (is_idle_of (state_of m).phase r.idle) in
    omega (arith, subst (λ (s : Seat). s.caller.number ≡ length s.log + cond (is_idle s.phase) 0 1) e w, none)

-- a machine at rest begins an add under its view
pub begins_under : OfEach IsWhole → (i : ℕ) (x : Add) (m : M) (k : Machine) → Rests i m k →
    length (state_of m).log < room_of m.0.settings i → IsAdd x → Under i x m m (begins x k)
begins_under law i x m k r h a =
    let c = m.0.settings in
    let idle = is_idle_of (state_of m).phase r.idle in
    record {
      settings = refl;
      seat = r.seat;
      grows = starts-self (seen_of m);
      counts = omega arith;
      at = r.at;
      can = can_begin c i x (state_of m) (omega (arith, counted_rests law i m k r, h)) a;
      told = [];
      reached = refl;
      count = refl;
      machine = ap (λ (s : Seat). let z : Machine = record {
        desk = desk_of c i;
        caller = s.caller;
        phase = s.phase;
        steps = s.steps;
      } in z) (ready_idle x (state_of m) idle)
          ∙ ap (begins x) (sym r.machine);
      log = refl;
      busy = refl;
    }

-- what it asks is what its seat asks
pub asks_now : (i : ℕ) (x : Add) (first now : M) (k : Machine) → Under i x first now k → AsksFor x (asks k) now
asks_now i x first now k u =
    let me : seat_of now ≡ i = ap seat_of u.seat in
    let P : ℕ → Type 0 = λ j. AsksFor x (asks k) now in
    record {
      seat = subst (λ j. IsSeat j now) (sym me) u.seat;
      at = subst (λ j. At j now) (sym me) u.at;
      can = subst (λ j. can_act now.0.settings j x (state_of now) ≡ true) (sym me) u.can;
      asks = ap (λ j. asks (running now.0.settings j x (state_of now))) me ∙ ap asks u.machine;
    }

-- ---- after a step

-- an event that is no add's last tells nothing
log_same : (me : ℕ) (caller : Caller) (desk : Desk) (steps n : ℕ) (phase : Phase) (log : List Added) →
    answer_in desk caller n phase ≡ None → log_after me caller steps phase log ≡ log
log_same me caller desk steps n (StoreDone count) log e = cc
log_same me caller desk steps n Idle log e = refl
log_same me caller desk steps n LoadDone log e = refl
log_same me caller desk steps n (StoreOp i) log e = refl
log_same me caller desk steps n Announce log e = refl
log_same me caller desk steps n (LoadRoot turn) log e = refl
log_same me caller desk steps n (LoadRow turn root row) log e = refl
log_same me caller desk steps n (LoadAnnouncement turn root row found) log e = refl
log_same me caller desk steps n (LoadOp turn root row found op words) log e = refl
log_same me caller desk steps n (StoreRow turn root row i) log e = refl
log_same me caller desk steps n (Publish turn root row) log e = refl

-- the last one tells the add
log_more : (caller : Caller) (desk : Desk) (steps : ℕ) (phase : Phase) (log : List Added) (added : Added) →
    Some added ≡ answer_in desk caller steps phase →
    (log_after desk.seat caller steps phase log ≡ log ++ added ∷ []) × (added.steps ≡ steps)
log_more caller desk steps (StoreDone count) log added e =
    let same : added ≡ answer_of desk.seat caller steps count = cc in
    (ap (λ (a : Added). log ++ a ∷ []) (sym same), ap (λ (a : Added). a.steps) same)
log_more caller desk steps Idle log added e = cc
log_more caller desk steps LoadDone log added e = cc
log_more caller desk steps (StoreOp i) log added e = cc
log_more caller desk steps Announce log added e = cc
log_more caller desk steps (LoadRoot turn) log added e = cc
log_more caller desk steps (LoadRow turn root row) log added e = cc
log_more caller desk steps (LoadAnnouncement turn root row found) log added e = cc
log_more caller desk steps (LoadOp turn root row found op words) log added e = cc
log_more caller desk steps (StoreRow turn root row i) log added e = cc
log_more caller desk steps (Publish turn root row) log added e = cc

-- the token after a step
pub record Stepped (i : ℕ) (x : Add) (first now then : M) (k : Machine) (n : ℕ) : Type 0 where
  pub settings : then.0.settings ≡ first.0.settings
  pub seat : IsSeat i then
  pub grows : StartsWith (seen_of then) (seen_of first)
  pub counts : events_of i (seen_of then) ≡ events_of i (seen_of first) + (k.steps + 1)
  pub at : At i then
  pub told : List ℕ
  pub reached : state_of then ≡ told_all then.0.settings i x (state_of first) told
  pub count : length told ≡ k.steps + 1
  pub caller : (state_of then).caller ≡ (takes k n).caller
  pub phase : (state_of then).phase ≡ (takes k n).phase
  pub steps : (state_of then).steps ≡ (takes k n).steps
  pub desk : k.desk ≡ desk_of then.0.settings i
  pub log : (state_of then).log ≡ log_after k.desk.seat k.caller (k.steps + 1) k.phase (state_of first).log

-- a machine goes on with its seat
pub steps_on : (i : ℕ) (x : Add) (first now then : M) (k : Machine) (n : ℕ) → Under i x first now k →
    Moved x now n then → Stepped i x first now then k n
steps_on i x first now then k n u moved =
    let c = now.0.settings in
    let me : seat_of now ≡ i = ap seat_of u.seat in
    let q : List Event = moved.seen in
    let s = state_of now in
    let t : M = (one c i (advanced c i x s n) q, []) in
    let to : then ≡ t = moved.is ∙ ap (λ (m : M). (after x m.0 n q, m.1)) u.seat in
    let at : At i t = subst (λ (m : M). At i m) to (subst (λ (j : ℕ). At j then) me moved.at) in
    let more : events_of i q ≡ events_of i (seen_of now) + 1 =
    subst (λ (j : ℕ). events_of j q ≡ events_of j (seen_of now) + 1) me moved.counts in
    let r = ready x s in
    let there : Stepped i x first now t k n = record {
      settings = u.settings;
      seat = refl;
      grows = starts-through q (seen_of now) (seen_of first) moved.grows u.grows;
      counts = omega (arith, more, u.counts);
      at = at;
      told = u.told ++ n ∷ [];
      reached = ap (λ (y : Seat). advanced c i x y n) u.reached ∙ sym (told-snoc c i x (state_of first) u.told n);
      count = omega (arith, length_push u.told n, u.count);
      caller = ap (λ (z : Machine). (takes z n).caller) u.machine;
      phase = ap (λ (z : Machine). (takes z n).phase) u.machine;
      steps = ap (λ (z : Machine). (takes z n).steps) u.machine;
      desk = ap (λ (z : Machine). z.desk) (sym u.machine);
      log = ready_log c i x s n ∙ ap (λ (z : Machine). log_after z.desk.seat z.caller (z.steps + 1) z.phase s.log)
          u.machine
          ∙ ap (log_after k.desk.seat k.caller (k.steps + 1) k.phase) u.log;
    } in
    subst (λ (m : M). Stepped i x first now m k n) (sym to) there
  where
    ready_log : (c : Settings) (i : ℕ) (x : Add) (s : Seat) (n : ℕ) →
        (advanced c i x s n).log ≡ (let z = running c i x s in
        log_after z.desk.seat z.caller (z.steps + 1) z.phase s.log)
    ready_log c i x s n = go (is_idle s.phase)
      where
        go : (b : Bool) → (let r = cond b (begun x s) s in
            log_after i r.caller (r.steps + 1) r.phase r.log ≡ log_after i r.caller (r.steps + 1) r.phase s.log)
        go true = refl
        go false = refl

-- it goes on
pub goes_under : (i : ℕ) (x : Add) (first now then : M) (k : Machine) (n : ℕ) → Under i x first now k →
    Moved x now n then → None ≡ answers k → is_idle (takes k n).phase ≡ false → Under i x first then (takes k n)
goes_under i x first now then k n u moved none busy =
    let d = steps_on i x first now then k n u moved in
    let c = then.0.settings in
    let still : is_idle (state_of then).phase ≡ false = ap is_idle d.phase ∙ busy in
    record {
      settings = d.settings;
      seat = d.seat;
      grows = d.grows;
      counts = d.counts;
      at = d.at;
      can = can_go_on c i x (state_of then) still;
      told = d.told;
      reached = d.reached;
      count = d.count;
      machine = ap (λ (s : Seat). let z : Machine = record {
        desk = desk_of c i;
        caller = s.caller;
        phase = s.phase;
        steps = s.steps;
      } in z) (ready_busy x (state_of then) still)
          ∙ (λ j. record { desk = sym d.desk j; caller = d.caller j; phase = d.phase j; steps = d.steps j });
      log = d.log ∙ log_same k.desk.seat k.caller k.desk (k.steps + 1) (k.steps + 1) k.phase (state_of first).log
          (sym none);
      busy = busy;
    }

-- it ends
pub record Ended (i : ℕ) (x : Add) (first then : M) (k : Machine) (added : Added) : Type 0 where
  pub settings : then.0.settings ≡ first.0.settings
  pub rests : Rests i then k
  pub added_is : Adds first.0.settings i x (state_of first) (state_of then) added
  pub grows : StartsWith (seen_of then) (seen_of first)
  pub own : events_of i (seen_of then) ≡ events_of i (seen_of first) + added.steps

-- and ends with it
pub ends_under : (i : ℕ) (x : Add) (first now then : M) (k : Machine) (n : ℕ) (added : Added) →
    Under i x first now k → Moved x now n then → Some added ≡ answers k → is_idle (takes k n).phase ≡ true →
    Ended i x first then (takes k n) added
ends_under i x first now then k n added u moved some idle =
    let d = steps_on i x first now then k n u moved in
    let m = log_more k.caller k.desk (k.steps + 1) k.phase (state_of first).log added some in
    let resting_now : (state_of then).phase ≡ Idle = d.phase ∙ idle_from (takes k n).phase idle in
    record {
      settings = d.settings;
      rests = record {
        seat = d.seat;
        at = d.at;
        idle = resting_now;
        machine = λ j. record {
          desk = d.desk j;
          caller = sym d.caller j;
          phase = sym d.phase j;
          steps = sym d.steps j;
        };
      };
      added_is = subst (λ (c : Settings). Adds c i x (state_of first) (state_of then) added) d.settings
          (record {
            told = d.told;
            ends = d.reached;
            steps = omega (arith, d.count, m.1);
            idle = resting_now;
            log = d.log ∙ m.0;
          });
      grows = d.grows;
      own = omega (arith, d.counts, m.1);
    }
