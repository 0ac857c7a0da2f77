-- A piece of a sweep, step by step.
use Rattle.std.proofs.Common.{◌≡◌, ◌≢◌, ℕ, ◌+◌, ◌-◌, ◌%◌, ◌<◌, ◌≤◌, ◌∙◌, Bool, true, false, List, [], ◌∷◌, ◌++◌, Option, Some, None, refl, sym, ap, append-nil, arith}
use Rattle.std.proofs.lemmas.Bool.{cond-true, cond-false, lt-ltb}
use Rattle.std.proofs.lemmas.Bool.Decides.{nat_tests}
use Rattle.std.specs.Prelude.{◌==◌, if◌then◌else◌, nat_lt}
use Rattle.table_model.specs.Setup.{Setup, seats_of}
use Rattle.lasting_model.specs.Plans.{ample}
use Rattle.lasting_model.specs.Codes.{asking, held_row, is_asking, time_in}
use Rattle.lasting_model.specs.Steps.{Gives, Goes, Homes, Loads, SeatNow, Seats, Sees, Stand, Sweep, Sweeps, Update}
use Rattle.lasting_model.specs.Goes.{Ends, Fate, On, Refuses, SweepFate, Swept, SweepsOn, alone, by_giving, by_hold, hold_or_end, homes_on, past_hold, piece_fate, rows_of, seats_from, sweep_fate, swept, with_free, without}
use Rattle.lasting_model.specs.Worlds.{seat_after}
use Rattle.lasting_calls.specs.Going.{Going, goes, told_by, with_own}
use Rattle.lasting_calls.specs.Sweeps.{swept_to, with_rows}
use Rattle.lasting_calls.proofs.FindLemmas.{words_same, words_differ}

-- where a sweep is under way, and the piece may look at so many rows
abbrev pub at_sweep : Going → Update → (rows : ℕ) → Sweep → Going
at_sweep b u rows sweep =
    record b { now = record b.now { sweep = Some sweep; stand = Goes u (Sweeps rows) } }

-- where it stood before says nothing of where it stands after
swept_same : (n : SeatNow) (sweep : Option Sweep) (stand : Stand) (f : SweepFate) →
    swept (record n { sweep = sweep; stand = stand }) f ≡ record (swept n f) { stand = stand }
swept_same n sweep stand (SweepsOn kept next) = refl
swept_same n sweep stand (Swept kept gone) = refl

pub after_same : (n : SeatNow) (stand : Stand) (u : Update) (next : Fate) →
    seat_after (record n { stand = stand }) u next ≡ seat_after n u next
after_same n stand u (On step) = refl
after_same n stand u (Ends reply) = refl
after_same n stand u Refuses = refl

-- a step of the sweep
pub sweep_step : (b : Going) (u : Update) (rows : ℕ) (sweep : Sweep) (word : ℕ) →
    goes (at_sweep b u rows sweep) word ≡ swept_to b u rows (sweep_fate (ample b.plan) b.seat sweep word)
sweep_step b u rows sweep word =
    let f = sweep_fate (ample b.plan) b.seat sweep word in
    let next = piece_fate b.now.free rows f in
    ap (λ (n : SeatNow). with_own b n (told_by next b.told))
    (ap (λ (n : SeatNow). seat_after n u next) (swept_same b.now (Some sweep) (Goes u (Sweeps rows)) f)
    ∙ after_same (swept b.now f) (Goes u (Sweeps rows)) u next)

-- none more is named
nothing_named : (b : Going) (u : Update) (rows : ℕ) (sweep : Sweep) →
    record b { now = record b.now { named = b.now.named ++ []; sweep = Some sweep; stand = Goes u (Sweeps rows) } }
    ≡ at_sweep b u rows sweep
nothing_named b u rows sweep =
    ap (λ (n : List (ℕ × ℕ)). record b {
      now = record b.now { named = n; sweep = Some sweep; stand = Goes u (Sweeps rows) };
    })
    (append-nil b.now.named)

-- where it stands after a step
module _ (b : Going) (u : Update) (left : ℕ) where
  pub at_seats : (seat : ℕ) (gone : List (ℕ × ℕ)) → swept_to b u left (SweepsOn [] (Seats seat gone))
      ≡ at_sweep b u left (Seats seat gone)
  at_seats seat gone = nothing_named b u left (Seats seat gone)

  pub at_sees : (seat time : ℕ) (gone : List (ℕ × ℕ)) → swept_to b u left (SweepsOn [] (Sees seat time gone))
      ≡ at_sweep b u left (Sees seat time gone)
  at_sees seat time gone = nothing_named b u left (Sees seat time gone)

  pub at_loads : (seat time bucket : ℕ) (gone : List (ℕ × ℕ)) →
      swept_to b u left (SweepsOn [] (Loads seat time bucket gone)) ≡ at_sweep b u left (Loads seat time bucket gone)
  at_loads seat time bucket gone = nothing_named b u left (Loads seat time bucket gone)

  pub at_gives : (seat time row : ℕ) (gone : List (ℕ × ℕ)) →
      swept_to b u left (SweepsOn [] (Gives seat time row gone)) ≡ at_sweep b u left (Gives seat time row gone)
  at_gives seat time row gone = nothing_named b u left (Gives seat time row gone)

  -- a piece that may look at one row more
  pub at_homes : (todo gone : List (ℕ × ℕ)) → 1 < left → swept_to b u left (SweepsOn [] (Homes todo gone))
      ≡ at_sweep b u (left - 1) (Homes todo gone)
  at_homes todo gone more =
      ap (λ (next : Fate). with_own b (seat_after (swept b.now (SweepsOn [] (Homes todo gone))) u next)
      (told_by next b.told))
      (cond-true (nat_lt 1 left) (On (Sweeps (left - 1))) (with_free b.now.free) (lt-ltb 1 left more))
      ∙ nothing_named b u (left - 1) (Homes todo gone)

  -- or that is over
  pub at_end : (todo gone : List (ℕ × ℕ)) → left ≡ 1 → swept_to b u left (SweepsOn [] (Homes todo gone))
      ≡ with_own b (seat_after (record b.now { sweep = Some (Homes todo gone) }) u (with_free b.now.free))
      (told_by (with_free b.now.free) b.told)
  at_end todo gone last =
      ap (λ (k : ℕ). swept_to b u k (SweepsOn [] (Homes todo gone))) last
      ∙ ap (λ (n : List (ℕ × ℕ)). with_own b
      (seat_after (record b.now { named = n; sweep = Some (Homes todo gone) }) u (with_free b.now.free))
      (told_by (with_free b.now.free) b.told))
      (append-nil b.now.named)

  pub at_last : (gone : List (ℕ × ℕ)) → swept_to b u left (Swept [] gone)
      ≡ with_own b (seat_after (record b.now { free = b.now.free ++ rows_of gone; sweep = None }) u
      (with_free (b.now.free ++ rows_of gone))) (told_by (with_free (b.now.free ++ rows_of gone)) b.told)
  at_last gone =
      ap (λ (n : List (ℕ × ℕ)). with_own b
      (seat_after (record b.now { free = b.now.free ++ rows_of gone; named = n; sweep = None }) u
      (with_free (b.now.free ++ rows_of gone))) (told_by (with_free (b.now.free ++ rows_of gone)) b.told))
      (append-nil b.now.named)

-- rows that stay named are named
module _ (first : Going) (free : List ℕ) (named : List (ℕ × ℕ)) (u : Update) (left : ℕ) where
  kept_on : (kept : List (ℕ × ℕ)) (sweep : Sweep) → swept_to (with_rows first free named) u left (SweepsOn kept sweep)
      ≡ swept_to (with_rows first free (named ++ kept)) u left (SweepsOn [] sweep)
  kept_on kept (Homes todo gone) =
      ap (λ (n : List (ℕ × ℕ)). with_own (with_rows first free named)
      (seat_after (record first.now { free = free; named = n; sweep = Some (Homes todo gone) }) u
      (piece_fate free left (SweepsOn kept (Homes todo gone))))
      (told_by (piece_fate free left (SweepsOn kept (Homes todo gone))) first.told))
      (sym (append-nil (named ++ kept)))
  kept_on kept (Seats seat gone) =
      ap (λ (n : List (ℕ × ℕ)). with_own (with_rows first free named)
      (record first.now { free = free; named = n; sweep = Some (Seats seat gone); stand = Goes u (Sweeps left) })
      first.told)
      (sym (append-nil (named ++ kept)))
  kept_on kept (Sees seat time gone) =
      ap (λ (n : List (ℕ × ℕ)). with_own (with_rows first free named)
      (record first.now { free = free; named = n; sweep = Some (Sees seat time gone); stand = Goes u (Sweeps left) })
      first.told)
      (sym (append-nil (named ++ kept)))
  kept_on kept (Loads seat time bucket gone) =
      ap (λ (n : List (ℕ × ℕ)). with_own (with_rows first free named)
      (record first.now {
        free = free;
        named = n;
        sweep = Some (Loads seat time bucket gone);
        stand = Goes u (Sweeps left);
      })
      first.told)
      (sym (append-nil (named ++ kept)))
  kept_on kept (Gives seat time row gone) =
      ap (λ (n : List (ℕ × ℕ)). with_own (with_rows first free named)
      (record first.now {
        free = free;
        named = n;
        sweep = Some (Gives seat time row gone);
        stand = Goes u (Sweeps left);
      })
      first.told)
      (sym (append-nil (named ++ kept)))

  kept_end : (kept gone : List (ℕ × ℕ)) → swept_to (with_rows first free named) u left (Swept kept gone)
      ≡ swept_to (with_rows first free (named ++ kept)) u left (Swept [] gone)
  kept_end kept gone =
      ap (λ (n : List (ℕ × ℕ)). with_own (with_rows first free named)
      (seat_after (record first.now { free = free ++ rows_of gone; named = n; sweep = None }) u
      (with_free (free ++ rows_of gone))) (told_by (with_free (free ++ rows_of gone)) first.told))
      (sym (append-nil (named ++ kept)))

  kept_either : (b : Bool) (kept gone : List (ℕ × ℕ)) (sweep : Sweep) →
      swept_to (with_rows first free named) u left (if b then SweepsOn kept sweep else Swept kept gone)
      ≡ swept_to (with_rows first free (named ++ kept)) u left (if b then SweepsOn [] sweep else Swept [] gone)
  kept_either true kept gone sweep = kept_on kept sweep
  kept_either false kept gone sweep = kept_end kept gone

  pub kept_seats : (setup : Setup) (own seat : ℕ) (kept gone : List (ℕ × ℕ)) →
      swept_to (with_rows first free named) u left (seats_from setup own seat kept gone)
      ≡ swept_to (with_rows first free (named ++ kept)) u left (seats_from setup own seat [] gone)
  kept_seats setup own seat kept gone =
      let next : ℕ = if seat == own then seat + 1 else seat in
      kept_either (nat_lt next (seats_of setup)) kept gone (Seats next gone)

  pub kept_homes : (setup : Setup) (own : ℕ) (kept todo gone : List (ℕ × ℕ)) →
      swept_to (with_rows first free named) u left (homes_on setup own kept todo gone)
      ≡ swept_to (with_rows first free (named ++ kept)) u left (homes_on setup own [] todo gone)
  kept_homes setup own kept [] gone = kept_seats setup own 0 kept gone
  kept_homes setup own kept (row ∷ todo) gone = kept_on kept (Homes (row ∷ todo) gone)

-- which seat is next
pub seat_next : (setup : Setup) (own seat : ℕ) (gone : List (ℕ × ℕ)) → seat ≢ own → seat < seats_of setup →
    seats_from setup own seat [] gone ≡ SweepsOn [] (Seats seat gone)
seat_next setup own seat gone other inside =
    ap (λ (k : ℕ). hold_or_end setup k [] gone)
    (cond-false (seat == own) (seat + 1) seat (words_differ seat own other))
    ∙ cond-true (nat_lt seat (seats_of setup)) (SweepsOn [] (Seats seat gone)) (Swept [] gone)
    (lt-ltb seat (seats_of setup) inside)

-- it passes over itself
pub own_passed : (setup : Setup) (own seat : ℕ) (gone : List (ℕ × ℕ)) → seat ≡ own →
    seats_from setup own seat [] gone ≡ seats_from setup own (seat + 1) [] gone
own_passed setup own seat gone is =
    ap (λ (k : ℕ). hold_or_end setup k [] gone)
    (cond-true (seat == own) (seat + 1) seat (words_same seat own is)
    ∙ sym (cond-false (seat + 1 == own) (seat + 1 + 1) (seat + 1)
    (words_differ (seat + 1) own (λ e. omega (arith, e, is)))))

-- and all are looked at
pub seats_over : (setup : Setup) (own seat : ℕ) (gone : List (ℕ × ℕ)) → seats_of setup ≤ seat → own < seats_of setup →
    seats_from setup own seat [] gone ≡ Swept [] gone
seats_over setup own seat gone over inside =
    ap (λ (k : ℕ). hold_or_end setup k [] gone)
    (cond-false (seat == own) (seat + 1) seat (words_differ seat own (λ e. omega (arith, e, over, inside))))
    ∙ cond-false (nat_lt seat (seats_of setup)) (SweepsOn [] (Seats seat gone)) (Swept [] gone)
    (not_below seat (seats_of setup) over)
  where
    not_below : (a b : ℕ) → b ≤ a → nat_lt a b ≡ false
    not_below a b h = grind (arith, nat_tests)

-- ---- what a hold word tells

module _ (setup : Setup) (own seat : ℕ) (gone : List (ℕ × ℕ)) (word : ℕ) where
  pub asks_by : word % 2 ≡ 1 → by_hold setup own seat gone word ≡ SweepsOn [] (Sees seat (time_in word) gone)
  asks_by odd =
      cond-true (is_asking word) (SweepsOn [] (Sees seat (time_in word) gone)) (past_hold setup own seat gone word)
      (words_same (word % 2) 1 odd)

  pub holds_by : word % 2 ≢ 1 → by_hold setup own seat gone word ≡ by_giving setup own seat gone word
  holds_by even =
      cond-false (is_asking word) (SweepsOn [] (Sees seat (time_in word) gone)) (past_hold setup own seat gone word)
      (words_differ (word % 2) 1 even)
      ∙ sym (given_past even)
    where
      given_past : word % 2 ≢ 1 → by_giving setup own seat gone word ≡ past_hold setup own seat gone word
      given_past even =
          cond-false (is_asking word) (seats_from setup own (seat + 1) [] gone) (past_hold setup own seat gone word)
          (words_differ (word % 2) 1 even)

  -- it asks again
  pub given_asking : word % 2 ≡ 1 → by_giving setup own seat gone word ≡ seats_from setup own (seat + 1) [] gone
  given_asking odd =
      cond-true (is_asking word) (seats_from setup own (seat + 1) [] gone) (past_hold setup own seat gone word)
      (words_same (word % 2) 1 odd)

  -- it holds nothing
  pub given_none : word % 2 ≢ 1 → word ≡ 0 →
      by_giving setup own seat gone word ≡ seats_from setup own (seat + 1) [] gone
  given_none even none =
      cond-false (is_asking word) (seats_from setup own (seat + 1) [] gone) (past_hold setup own seat gone word)
      (words_differ (word % 2) 1 even)
      ∙ cond-true (word == 0) (seats_from setup own (seat + 1) [] gone)
      (seats_from setup own (seat + 1) (alone (held_row word) gone) (without (held_row word) gone))
      (words_same word 0 none)

  -- it holds a row
  pub given_row : word % 2 ≢ 1 → word ≢ 0 → by_giving setup own seat gone word
      ≡ seats_from setup own (seat + 1) (alone (held_row word) gone) (without (held_row word) gone)
  given_row even some =
      cond-false (is_asking word) (seats_from setup own (seat + 1) [] gone) (past_hold setup own seat gone word)
      (words_differ (word % 2) 1 even)
      ∙ cond-false (word == 0) (seats_from setup own (seat + 1) [] gone)
      (seats_from setup own (seat + 1) (alone (held_row word) gone) (without (held_row word) gone))
      (words_differ word 0 some)

-- an asking is the word that was found
pub asked_word : (word : ℕ) → word % 2 ≡ 1 → asking (time_in word) ≡ word
asked_word word odd = omega (arith, odd)
