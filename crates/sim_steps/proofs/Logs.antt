-- What a seat has answered is what the history says of its adds.
use Rattle.std.proofs.Common.{◌≡◌, ◌≢◌, ℕ, ◌+◌, ◌-◌, ◌<◌, ◌≤◌, Bool, true, false, cond, eqb, ltb, leb, List, [], ◌∷◌, ◌++◌, length, get_or, replicate, inl, inr, refl, sym, ap, ◌∙◌, subst, arith}
use Rattle.std.proofs.lemmas.Bool.{cases_lt, cond_both}
use Rattle.std.proofs.lemmas.List.{length_push, get_or_push, get_or_append_left}
use Rattle.std.specs.Prelude.{sum_by, is_some}
use Rattle.sim_steps.specs.Machine.{answer_in}
use Rattle.std.proofs.lemmas.List.Sums.{sum_by-append, sum_by-cons}
use Rattle.sim_steps.specs.declared.words.Desk.{Desk}
use Rattle.sim_steps.specs.declared.adds.Op.{Op}
use Rattle.sim_steps.specs.declared.adds.Added.{Added}
use Rattle.sim_steps.specs.Layout.{Settings, seats_of, row_words, desk_of}
use Rattle.sim_steps.specs.Program.{Phase, Idle, LoadDone, StoreOp, Announce, LoadRoot, LoadRow, LoadAnnouncement, LoadOp, StoreRow, Publish, StoreDone, Caller, applied, reply_of, op_of, is_idle, is_last, phase_after, caller_after, after_row, after_found, next_row, no_op, op_from, log_after, answer_of}
use Rattle.sim_steps.proofs.Ghost.{Common, Shared, Ends, Keeps, Moves}

-- a record of no add
abbrev pub blank : Added
blank = record {
  seat = 0;
  number = 0;
  add = record { packet = 0; class = 0; length = 0 };
  count = 0;
  steps = 0;
  seen = [];
}

-- the op of an answered add
abbrev pub op_of_added : Added → Op
op_of_added added = record { number = added.number; class = added.add.class; length = added.add.length }

-- an add that has ended, after so many of its seat
pub record Answer (l : Settings) (c : Common) (me i : ℕ) (added : Added) : Type 0 where
  pub version : ℕ
  pub within : version ≤ c.top
  pub applied_is : applied (c.words_at version) me ≡ i + 1
  pub count_is : added.count ≡ reply_of (c.words_at version) me
  pub announced : i < c.number me
  pub call_is : op_of_added added ≡ c.call_at me i
  pub seen_is : added.seen ≡ c.seen_at me i ++ replicate (8 - length (c.seen_at me i)) 0
  pub seat_is : added.seat ≡ me
  pub number_is : added.number ≡ i + 1

-- each answered add is as the history has it
abbrev pub Answered : Settings → Common → ℕ → List Added → Type 0
Answered l c me log = (i : ℕ) → i < length log → Answer l c me i (get_or log i blank)

-- what a seat has recorded is what the history has of it
pub record Logged (l : Settings) (c : Common) (me : ℕ) (number : ℕ) (phase : Phase) (log : List Added) : Type 0 where
  pub counted : number ≡ length log + cond (is_idle phase) 0 1
  pub answered : Answered l c me log

-- an answered add stays so
answer_stays : (l : Settings) (me : ℕ) (c d : Common) → Moves l me c d → (p i : ℕ) (added : Added) →
    Answer l c p i added → Answer l d p i added
answer_stays l me c d m p i added a = record {
  version = a.version;
  within = omega (arith, a.within, m.top_up);
  applied_is = ap (λ ws. applied ws p) (m.words a.version a.within) ∙ a.applied_is;
  count_is = a.count_is ∙ ap (λ ws. reply_of ws p) (sym (m.words a.version a.within));
  announced = omega (arith, a.announced, m.number_up p);
  call_is = a.call_is ∙ sym (m.calls p i a.announced);
  seen_is = a.seen_is ∙ ap (λ (xs : List ℕ). xs ++ replicate (8 - length xs) 0) (sym (m.seen p i a.announced));
  seat_is = a.seat_is;
  number_is = a.number_is;
}

-- and so does a record
pub logged_stays : (l : Settings) (me : ℕ) (c d : Common) → Moves l me c d →
    (p number : ℕ) (phase : Phase) (log : List Added) → Logged l c p number phase log → Logged l d p number phase log
logged_stays l me c d m p number phase log g =
    record { counted = g.counted; answered = λ i h. answer_stays l me c d m p i (get_or log i blank) (g.answered i h) }

-- an add that ends
answer_new : (l : Settings) (c : Common) (me : ℕ) (seat : Caller) (count steps i : ℕ) → me < seats_of l →
    Shared l c → Ends l c me seat count → seat.number ≡ i + 1 → Answer l c me i (answer_of me seat steps count)
answer_new l c me seat count steps i h s e n =
    let i_is : seat.number - 1 ≡ i = omega arith in
    let call : op_of seat ≡ c.call_at me i = sym e.call_is ∙ ap (c.call_at me) i_is in
    let seen : seat.seen ≡ c.seen_at me i = sym e.seen_is ∙ ap (c.seen_at me) i_is in
    record {
      version = c.top;
      within = omega arith;
      applied_is = omega (arith, n, e.rests.applied_is, e.rests.number_is, s.helped.real me h);
      count_is = e.reply_is;
      announced = omega (arith, n, e.rests.number_is);
      call_is = call;
      seen_is = ap (λ (xs : List ℕ). xs ++ replicate (8 - length xs) 0) seen;
      seat_is = refl;
      number_is = n;
    }

-- with one more
answered_more : (l : Settings) (c : Common) (me : ℕ) (log : List Added) (added : Added) → Answered l c me log →
    Answer l c me (length log) added → Answered l c me (log ++ added ∷ [])
answered_more l c me log added a new i h = elim (cases_lt i (length log)) [
  | inl g ↦ subst (Answer l c me i) (sym (get_or_append_left log (added ∷ []) blank i g)) (a i g)
  | inr g ↦
      let e : length log ≡ i = omega (arith, length_push log added) in
      subst (Answer l c me i) (sym (get_or_push log added blank i e)) (subst (λ j. Answer l c me j added) e new)
]

-- a step within an add leaves the number
same_number : (l : Settings) (me : ℕ) (seat : Caller) (phase : Phase) (w : ℕ) →
    (caller_after seat phase w).number ≡ seat.number
same_number l me seat (Publish turn root row) w = go (eqb w root)
  where
    go : (b : Bool) → (cond b (record seat { made = seat.made + 1 }) seat).number ≡ seat.number
    go true = refl
    go false = refl
same_number l me seat Idle w = refl
same_number l me seat LoadDone w = refl
same_number l me seat (StoreOp i) w = refl
same_number l me seat Announce w = refl
same_number l me seat (LoadRoot turn) w = refl
same_number l me seat (LoadRow turn root row) w = refl
same_number l me seat (LoadAnnouncement turn root row found) w = refl
same_number l me seat (LoadOp turn root row found op words) w = refl
same_number l me seat (StoreRow turn root row i) w = refl
same_number l me seat (StoreDone count) w = refl

-- ---- a step of a seat that is in an add

-- the phase is within an add
abbrev Busy : Phase → Type 0
Busy phase = is_idle phase ≡ false

-- after a row it is
busy_row : (desk : Desk) (seat : Caller) (turn root : ℕ) (row : List ℕ) → Busy (after_row desk seat turn root row)
busy_row desk seat turn root row =
    cond_both (leb seat.number (applied row desk.seat)) (StoreDone (reply_of row desk.seat))
    (cond (ltb turn 2) (LoadAnnouncement turn root row []) (StoreDone (reply_of row desk.seat))) Busy (λ e. refl)
    (λ e. cond_both (ltb turn 2) (LoadAnnouncement turn root row []) (StoreDone (reply_of row desk.seat)) Busy
    (λ f. refl) (λ f. refl))

-- after an op it is
busy_found : (desk : Desk) (turn root : ℕ) (row : List ℕ) (found : List Op) →
    Busy (after_found desk turn root row found)
busy_found desk turn root row found = cond_both (ltb (length found) desk.seats)
    (LoadAnnouncement turn root row found) (StoreRow turn root (next_row root found row) 0) Busy (λ e. refl) (λ e. refl)

-- an add goes on
pub goes_on : (desk : Desk) (seat : Caller) (phase : Phase) (w : ℕ) → is_last phase ≡ false →
    Busy (phase_after desk seat phase w)
goes_on desk seat Idle w h = cc
goes_on desk seat LoadDone w h = cond_both (ltb (length seat.seen + 1) desk.seats) LoadDone (StoreOp 0) Busy
    (λ e. refl) (λ e. refl)
goes_on desk seat (StoreOp i) w h = cond_both (ltb i 2) (StoreOp (i + 1)) Announce Busy (λ e. refl) (λ e. refl)
goes_on desk seat Announce w h = refl
goes_on desk seat (LoadRoot turn) w h = refl
goes_on desk seat (LoadRow turn root row) w h =
    cond_both (ltb (length row + 1) (row_words desk.seats)) (LoadRow turn root (row ++ w ∷ []))
    (after_row desk seat turn root (row ++ w ∷ [])) Busy
    (λ e. refl) (λ e. busy_row desk seat turn root (row ++ w ∷ []))
goes_on desk seat (LoadAnnouncement turn root row found) w h =
    cond_both (eqb w 0) (after_found desk turn root row (found ++ no_op ∷ []))
    (LoadOp turn root row found (w - 1) []) Busy
    (λ e. busy_found desk turn root row (found ++ no_op ∷ [])) (λ e. refl)
goes_on desk seat (LoadOp turn root row found op words) w h =
    cond_both (ltb (length words) 2) (LoadOp turn root row found op (words ++ w ∷ []))
    (after_found desk turn root row (found ++ op_from (words ++ w ∷ []) ∷ [])) Busy
    (λ e. refl) (λ e. busy_found desk turn root row (found ++ op_from (words ++ w ∷ []) ∷ []))
goes_on desk seat (StoreRow turn root row i) w h =
    cond_both (ltb (i + 1) (row_words desk.seats)) (StoreRow turn root row (i + 1)) (Publish turn root row) Busy
    (λ e. refl) (λ e. refl)
goes_on desk seat (Publish turn root row) w h =
    cond_both (eqb w root) (StoreDone (reply_of row desk.seat)) (LoadRoot (turn + 1)) Busy (λ e. refl) (λ e. refl)
goes_on desk seat (StoreDone count) w h = cc

-- a step that is not the last leaves the record
logged_same : (l : Settings) (c : Common) (me : ℕ) (seat : Caller) (phase : Phase) (w : ℕ) (log : List Added) →
    is_last phase ≡ false → Busy phase → Logged l c me seat.number phase log →
    Logged l c me (caller_after seat phase w).number (phase_after (desk_of l me) seat phase w) log
logged_same l c me seat phase w log h b g = record {
  counted = same_number l me seat phase w ∙ g.counted
      ∙ ap (λ x. length log + cond x 0 1) (b ∙ sym (goes_on (desk_of l me) seat phase w h));
  answered = g.answered;
}

-- each step leaves it right
pub logged_step : (l : Settings) (c : Common) (me : ℕ) (seat : Caller) (base steps : ℕ) (phase : Phase) (w : ℕ)
    (log : List Added) → me < seats_of l → Shared l c → Keeps l c me seat base phase → phase ≢ Idle →
    Logged l c me seat.number phase log → Logged l c me (caller_after seat phase w).number
    (phase_after (desk_of l me) seat phase w) (log_after me seat steps phase log)
logged_step l c me seat base steps Idle w log h s k n g = absurd (n refl)
logged_step l c me seat base steps LoadDone w log h s k n g = logged_same l c me seat LoadDone w log refl refl g
logged_step l c me seat base steps (StoreOp i) w log h s k n g = logged_same l c me seat (StoreOp i) w log refl refl g
logged_step l c me seat base steps Announce w log h s k n g = logged_same l c me seat Announce w log refl refl g
logged_step l c me seat base steps (LoadRoot turn) w log h s k n g =
    logged_same l c me seat (LoadRoot turn) w log refl refl g
logged_step l c me seat base steps (LoadRow turn root row) w log h s k n g =
    logged_same l c me seat (LoadRow turn root row) w log refl refl g
logged_step l c me seat base steps (LoadAnnouncement turn root row found) w log h s k n g =
    logged_same l c me seat (LoadAnnouncement turn root row found) w log refl refl g
logged_step l c me seat base steps (LoadOp turn root row found op words) w log h s k n g =
    logged_same l c me seat (LoadOp turn root row found op words) w log refl refl g
logged_step l c me seat base steps (StoreRow turn root row i) w log h s k n g =
    logged_same l c me seat (StoreRow turn root row i) w log refl refl g
logged_step l c me seat base steps (Publish turn root row) w log h s k n g =
    logged_same l c me seat (Publish turn root row) w log refl refl g
logged_step l c me seat base steps (StoreDone count) w log h s k n g = record {
  counted = omega (arith, g.counted, length_push log (answer_of me seat steps count));
  answered = answered_more l c me log (answer_of me seat steps count) g.answered
      (answer_new l c me seat count steps (length log) h s k g.counted);
}

-- ---- the steps that a seat tells

-- and its steps are counted
steps_same : (l : Settings) (me : ℕ) (seat : Caller) (steps : ℕ) (phase : Phase) (w sum_is : ℕ) →
    is_last phase ≡ false → Busy phase →
    sum_is + cond (is_idle (phase_after (desk_of l me) seat phase w)) 0 (steps + 1) ≡ sum_is + cond
    (is_idle phase) 0 steps + 1
steps_same l me seat steps phase w sum_is h b =
    let one : sum_is + (steps + 1) ≡ sum_is + steps + 1 = omega arith in
    ap (λ x. sum_is + cond x 0 (steps + 1)) (goes_on (desk_of l me) seat phase w h) ∙ one
    ∙ ap (λ x. sum_is + cond x 0 steps + 1) (sym b)

-- each step is one more
pub steps_step : (l : Settings) (me : ℕ) (seat : Caller) (steps : ℕ) (phase : Phase) (w : ℕ) (log : List Added) →
    Busy phase →
    sum_by (λ added. added.steps) (log_after me seat (steps + 1) phase log) + cond
    (is_idle (phase_after (desk_of l me) seat phase w)) 0 (steps + 1)
    ≡ sum_by (λ added. added.steps) log + cond (is_idle phase) 0 steps + 1
steps_step l me seat steps Idle w log b = cc
steps_step l me seat steps LoadDone w log b =
    steps_same l me seat steps LoadDone w (sum_by (λ added. added.steps) log) refl refl
steps_step l me seat steps (StoreOp i) w log b =
    steps_same l me seat steps (StoreOp i) w (sum_by (λ added. added.steps) log) refl refl
steps_step l me seat steps Announce w log b =
    steps_same l me seat steps Announce w (sum_by (λ added. added.steps) log) refl refl
steps_step l me seat steps (LoadRoot turn) w log b =
    steps_same l me seat steps (LoadRoot turn) w (sum_by (λ added. added.steps) log) refl refl
steps_step l me seat steps (LoadRow turn root row) w log b =
    steps_same l me seat steps (LoadRow turn root row) w (sum_by (λ added. added.steps) log) refl refl
steps_step l me seat steps (LoadAnnouncement turn root row found) w log b =
    steps_same l me seat steps (LoadAnnouncement turn root row found) w (sum_by (λ added. added.steps) log) refl refl
steps_step l me seat steps (LoadOp turn root row found op words) w log b =
    steps_same l me seat steps (LoadOp turn root row found op words) w (sum_by (λ added. added.steps) log) refl refl
steps_step l me seat steps (StoreRow turn root row i) w log b =
    steps_same l me seat steps (StoreRow turn root row i) w (sum_by (λ added. added.steps) log) refl refl
steps_step l me seat steps (Publish turn root row) w log b =
    steps_same l me seat steps (Publish turn root row) w (sum_by (λ added. added.steps) log) refl refl
steps_step l me seat steps (StoreDone count) w log b =
    let new : List Added = answer_of me seat (steps + 1) count ∷ [] in
    omega (
      arith,
      sum_by-append (λ (added : Added). added.steps) log new,
      sum_by-cons (λ (added : Added). added.steps) (answer_of me seat (steps + 1) count) [],
      nothing,
    )
  where
    nothing : sum_by (λ (added : Added). added.steps) [] ≡ 0
    nothing = refl

-- it is idle then exactly where it answers
pub ends_idle : (desk : Desk) (seat : Caller) (steps : ℕ) (phase : Phase) (w : ℕ) → phase ≢ Idle →
    is_some (answer_in desk seat steps phase) ≡ is_idle (phase_after desk seat phase w)
ends_idle desk seat steps Idle w n = absurd (n refl)
ends_idle desk seat steps LoadDone w n = sym (goes_on desk seat LoadDone w refl)
ends_idle desk seat steps (StoreOp i) w n = sym (goes_on desk seat (StoreOp i) w refl)
ends_idle desk seat steps Announce w n = sym (goes_on desk seat Announce w refl)
ends_idle desk seat steps (LoadRoot turn) w n = sym (goes_on desk seat (LoadRoot turn) w refl)
ends_idle desk seat steps (LoadRow turn root row) w n = sym (goes_on desk seat (LoadRow turn root row) w refl)
ends_idle desk seat steps (LoadAnnouncement turn root row found) w n =
    sym (goes_on desk seat (LoadAnnouncement turn root row found) w refl)
ends_idle desk seat steps (LoadOp turn root row found op words) w n =
    sym (goes_on desk seat (LoadOp turn root row found op words) w refl)
ends_idle desk seat steps (StoreRow turn root row i) w n = sym (goes_on desk seat (StoreRow turn root row i) w refl)
ends_idle desk seat steps (Publish turn root row) w n = sym (goes_on desk seat (Publish turn root row) w refl)
ends_idle desk seat steps (StoreDone count) w n = refl
