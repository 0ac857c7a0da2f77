-- How many steps are left of an add, at most.
use Rattle.std.proofs.Common.{◌≡◌, ◌≢◌, ℕ, zero, suc, ◌+◌, ◌-◌, ◌*◌, ◌%◌, ◌^◌, ◌<◌, ◌≤◌, ltb, List, [], ◌∷◌, length, refl, ap, ◌∙◌, arith}
use Rattle.std.proofs.lemmas.Bool.{cond_both, ltb-true, ltb-false, eqb-true, eqb-false}
use Rattle.std.proofs.lemmas.List.{length_push}
use Rattle.std.proofs.lemmas.List.Elements.{All-append, All-cons, All-nil}
use Rattle.std.specs.Prelude.{All}
use Rattle.sim_steps.specs.declared.adds.Op.{Op}
use Rattle.sim_steps.specs.declared.adds.Added.{Added}
use Rattle.sim_steps.specs.Layout.{Settings, seats_of, row_words, desk_of}
use Rattle.sim_steps.specs.Program.{Phase, Idle, LoadDone, StoreOp, Announce, LoadRoot, LoadRow, LoadAnnouncement, LoadOp, StoreRow, Publish, StoreDone, Seat, Caller, next_row, phase_after, caller_after, after_found, seat_after, log_after, answer_of, step_bound}
use Rattle.sim_steps.specs.declared.words.Desk.{Desk}
use Rattle.sim_steps.specs.Machine.{turns_left, try_left, left_in, IsShort}
use Rattle.sim_steps.proofs.RowLemmas.{length-next_row}
use Rattle.sim_steps.proofs.Ghost.{Common, Shared, Keeps, Makes}

-- one turn takes so many steps at most
turn_one : (n turn : ℕ) → turn < 2 → try_left n turn ≡ 4 * n + row_words n + 1 + turns_left n (turn + 1)
turn_one n zero h = refl
turn_one n (suc zero) h = refl
turn_one n (suc (suc turn)) h = absurd (omega arith)

-- from its row on so many fewer
turn_row : (n turn : ℕ) → row_words n + try_left n turn + 1 ≤ turns_left n turn
turn_row n zero = omega arith
turn_row n (suc zero) = omega arith
turn_row n (suc (suc turn)) = omega arith

-- a turn takes some
try_some : (n turn : ℕ) → 1 ≤ try_left n turn
try_some n zero = omega arith
try_some n (suc zero) = omega arith
try_some n (suc (suc turn)) = omega arith

-- one more op found leaves one less to find
less_found : (desk : Desk) (seat : Caller) (turn root : ℕ) (row : List ℕ) (found : List Op) →
    left_in desk.seats seat (after_found desk turn root row found) ≤ 4 * (desk.seats - length found) + row_words
    desk.seats + 1 + turns_left desk.seats (turn + 1)
less_found desk seat turn root row found =
    cond_both (ltb (length found) desk.seats) (LoadAnnouncement turn root row found)
    (StoreRow turn root (next_row root found row) 0)
    (λ ph. left_in desk.seats seat ph ≤ 4 * (desk.seats - length found) + row_words desk.seats + 1 + turns_left
    desk.seats (turn + 1))
    (λ e. omega arith) (λ e. omega arith)

-- each step is one less
ruleset tests = (ltb-true, ltb-false, eqb-true, eqb-false)

module _ (desk : Desk) (seat : Caller) (w : ℕ) where
  -- a step from this phase leaves less to do
  abbrev Less : Phase → Type 0
  Less phase = left_in desk.seats (caller_after seat phase w)
      (phase_after desk seat phase w) + 1 ≤ left_in desk.seats seat phase

  -- the load of a done word
  load_done : IsShort desk.seats seat LoadDone → Less LoadDone
  load_done k = (let r = length_push seat.seen (w % 2 ^ 32) in grind (arith, r, tests))

  -- the store of an op's word
  store_op : (i : ℕ) → IsShort desk.seats seat (StoreOp i) → Less (StoreOp i)
  store_op i k = grind (arith, tests)

  -- the load of a row's word
  load_row : (turn root : ℕ) (row : List ℕ) → IsShort desk.seats seat (LoadRow turn root row) →
      Less (LoadRow turn root row)
  load_row turn root row k = (let some = try_some desk.seats turn in
      grind (arith, length_push, tests, some, turn_one desk.seats turn))

  -- the load of an announcement
  load_announcement : (turn root : ℕ) (row : List ℕ) (found : List Op) →
      IsShort desk.seats seat (LoadAnnouncement turn root row found) → Less (LoadAnnouncement turn root row found)
  load_announcement turn root row found k = grind (arith, length_push, tests, less_found desk seat turn root row)

  -- the load of an op's word
  load_op : (turn root : ℕ) (row : List ℕ) (found : List Op) (op : ℕ) (words : List ℕ) →
      IsShort desk.seats seat (LoadOp turn root row found op words) → Less (LoadOp turn root row found op words)
  load_op turn root row found op words k = grind (arith, length_push, tests, less_found desk seat turn root row)

  -- the store of a row's word
  store_row : (turn root : ℕ) (row : List ℕ) (i : ℕ) → IsShort desk.seats seat (StoreRow turn root row i) →
      Less (StoreRow turn root row i)
  store_row turn root row i k = grind (arith, tests)

  -- the exchange of the root
  publish : (turn root : ℕ) (row : List ℕ) → Less (Publish turn root row)
  publish turn root row = (let r = turn_row desk.seats (turn + 1) in grind (arith, tests, r))

  -- each of them
  pub left_less : (phase : Phase) → IsShort desk.seats seat phase → phase ≢ Idle → Less phase
  left_less Idle k n = absurd (n refl)
  left_less LoadDone k n = load_done k
  left_less (StoreOp i) k n = store_op i k
  left_less Announce k n = omega arith
  left_less (LoadRoot turn) k n = omega (arith, turn_row desk.seats turn)
  left_less (LoadRow turn root row) k n = load_row turn root row k
  left_less (LoadAnnouncement turn root row found) k n = load_announcement turn root row found k
  left_less (LoadOp turn root row found op words) k n = load_op turn root row found op words k
  left_less (StoreRow turn root row i) k n = store_row turn root row i k
  left_less (Publish turn root row) k n = publish turn root row
  left_less (StoreDone count) k n = omega arith

-- what holds of a seat in a run has short lists
made_long : (l : Settings) (c : Common) (me base root : ℕ) (row : List ℕ) → Shared l c → base ≤ c.top →
    Makes l c me base root row → length row ≡ row_words (seats_of l)
made_long l c me base root row s h m = ap length m.row_is ∙ length-next_row root m.found (c.words_at base)
    ∙ s.chain.long base h

-- what is short stays short
short_kept : (l : Settings) (c : Common) (me : ℕ) (seat : Caller) (base : ℕ) (phase : Phase) → Shared l c →
    Keeps l c me seat base phase → IsShort (seats_of l) seat phase
short_kept l c me seat base Idle s k = tt
short_kept l c me seat base LoadDone s k = k.short
short_kept l c me seat base (StoreOp i) s k = k.short
short_kept l c me seat base Announce s k = tt
short_kept l c me seat base (LoadRoot turn) s k = k.turn_is
short_kept l c me seat base (LoadRow turn root row) s k = (k.looks.turn_is, k.short)
short_kept l c me seat base (LoadAnnouncement turn root row found) s k =
    (k.tries, ap length k.row_is ∙ s.chain.long base k.looks.old, k.short)
short_kept l c me seat base (LoadOp turn root row found op words) s k =
    (k.tries, ap length k.row_is ∙ s.chain.long base k.looks.old, k.short, k.short_op)
short_kept l c me seat base (StoreRow turn root row i) s k =
    (k.tries, made_long l c me base root row s k.looks.old k.makes, k.short)
short_kept l c me seat base (Publish turn root row) s k =
    (k.tries, made_long l c me base root row s k.looks.old k.makes)
short_kept l c me seat base (StoreDone count) s k = tt

-- the steps of a seat
pub record Paced (l : Settings) (seat : Seat) : Type 0 where
  pub now : seat.steps + left_in (seats_of l) seat.caller seat.phase ≤ step_bound (seats_of l)
  pub before : All (λ added. added.steps ≤ step_bound (seats_of l)) seat.log

-- each recorded add took no more steps than the bound
log_paced : (l : Settings) (me : ℕ) (caller : Caller) (steps : ℕ) (phase : Phase) (log : List Added) →
    (phase ≢ Idle → steps + left_in (seats_of l) caller phase ≤ step_bound (seats_of l) + 1) →
    All (λ added. added.steps ≤ step_bound (seats_of l)) log →
    All (λ added. added.steps ≤ step_bound (seats_of l)) (log_after me caller steps phase log)
log_paced l me caller steps (StoreDone count) log h a =
    let small : steps ≤ step_bound (seats_of l) = omega (arith, h (λ e. cc)) in
    All-append (λ added. added.steps ≤ step_bound (seats_of l)) log (answer_of me caller steps count ∷ []) a
    (All-cons (λ added. added.steps ≤ step_bound (seats_of l)) (answer_of me caller steps count) [] small
    (All-nil (λ added. added.steps ≤ step_bound (seats_of l))))
log_paced l me caller steps Idle log h a = a
log_paced l me caller steps LoadDone log h a = a
log_paced l me caller steps (StoreOp i) log h a = a
log_paced l me caller steps Announce log h a = a
log_paced l me caller steps (LoadRoot turn) log h a = a
log_paced l me caller steps (LoadRow turn root row) log h a = a
log_paced l me caller steps (LoadAnnouncement turn root row found) log h a = a
log_paced l me caller steps (LoadOp turn root row found op words) log h a = a
log_paced l me caller steps (StoreRow turn root row i) log h a = a
log_paced l me caller steps (Publish turn root row) log h a = a

-- a step of a seat that is in an add
pub paced_step : (l : Settings) (me : ℕ) (c : Common) (seat : Seat) (base w : ℕ) → Shared l c →
    Keeps l c me seat.caller base seat.phase → seat.phase ≢ Idle → Paced l seat →
    Paced l (seat_after (desk_of l me) seat w)
paced_step l me c seat base w s k n p = record {
  now = omega (
    arith,
    left_less (desk_of l me) seat.caller w seat.phase
        (short_kept l c me seat.caller base seat.phase s k) n,
    p.now,
  );
  before = log_paced l me seat.caller (seat.steps + 1) seat.phase seat.log (λ e. omega (arith, p.now)) p.before;
}

-- a seat that begins an add
pub paced_begun : (l : Settings) (caller : Caller) (log : List Added) → caller.seen ≡ [] →
    All (λ added. added.steps ≤ step_bound (seats_of l)) log →
    Paced l (record { caller = caller; phase = LoadDone; steps = 0; log = log })
paced_begun l caller log e a = record { now = omega (arith, ap length e); before = a }
