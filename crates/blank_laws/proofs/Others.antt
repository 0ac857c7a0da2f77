-- No step of another seat is a store to a word of a seat's own bucket rows.
use Rattle.std.proofs.Common.{◌≡◌, ◌≢◌, ℕ, ◌+◌, ◌*◌, ◌<◌, ◌≤◌, Bool, true, false, cond, eqb, List, [], ◌∷◌, ◌++◌, get_or, set, inl, inr, refl, sym, ap, ◌∙◌, subst, arith, append_assoc, get_or-set_other, lt-ltb}
use Rattle.std.specs.Prelude.{Option, Some, None}
use Rattle.std.proofs.lemmas.Bool.{cases_lt, eq-eqb}
use Rattle.std.proofs.lemmas.List.{append-nil}
use Rattle.std.proofs.lemmas.List.Sums.{sum_by-cons}
use Rattle.std.proofs.Math.Nat.{mul-le-mul_right}
use Rattle.step_counts.specs.declared.rows.SeatRows.{SeatRows}
use Rattle.step_counts.specs.declared.TheConstants.{OP_WORDS}
use Rattle.step_counts.specs.StepCounts.{bucket_row_words}
use Rattle.plain_map.specs.declared.calls.Call.{Call}
use Rattle.plain_map.specs.declared.full.Full.{Full}
use Rattle.plain_map.specs.declared.full.FullKind.TheVariants.{BucketRows, OpRows}
use Rattle.word_rows.specs.declared.addresses.Address.{Address}
use Rattle.word_rows.specs.declared.addresses.Address.TheVariants.{Root, Announcement, Done, BucketWord, OpWord, BucketRowWord, DirectoryWord}
use Rattle.word_rows.specs.Shape.{Shape, IsShape, Owns, count_of, first_number, of_kind, sizes_of}
use Rattle.word_rows.specs.Places.{IsAddress, bucket_rows_start, place}
use Rattle.word_rows.proofs.Apart.{row_within}
use Rattle.word_rows.proofs.Ranges.{range_within, ranges_follow}
use Rattle.table_model.specs.declared.events.Event.{Event}
use Rattle.table_model.specs.Setup.{Setup, seats_of}
use Rattle.table_model.specs.declared.events.Ask.{Ask}
use Rattle.table_model.specs.declared.events.Ask.TheVariants.{Exchange, Load, Nothing, Store}
use Rattle.table_model.specs.Asks.{ask_in}
use Rattle.table_model.specs.Phases.{Phase}
use Rattle.table_model.specs.SeatStates.{Flight, Stand, Idle, InFlight}
use Rattle.table_model.specs.Steps.{IsOnWord}
use Rattle.table_model.specs.Worlds.{IsEvent, IsRun, World, act, begin_or_refuse, events_of, opening_world, refusal_of, seat_in, word_at, words_after, world_after}
use Rattle.table_model.specs.Promises.{InPhase}
use Rattle.table_model.specs.Rows.{MayStore}
use Rattle.run_laws.proofs.TwoParts.{events_then, happen_both, run_first}
use Rattle.run_laws.proofs.Within.{steps_are_within, stores_are_own}
use Rattle.blank_laws.specs.OwnRows.{IsOwnPlace, OthersLeaveOwnRows}
use Rattle.blank_laws.proofs.Exchanges.{exchanges_are_elsewhere}

module _ (setup : Setup) (seat at : ℕ) (s : IsShape setup.shape) (h : seat < seats_of setup)
    (own : IsOwnPlace setup.shape seat at) where
  -- the shape of the table
  abbrev shape : Shape
  shape = setup.shape

  -- how many words a row has
  abbrev width : ℕ
  width = bucket_row_words shape.settings

  -- the seat's first row
  abbrev first : ℕ
  first = first_number shape seat BucketRows

  -- the row behind its last
  abbrev last : ℕ
  last = first + of_kind BucketRows (sizes_of shape seat)

  -- a word before all bucket rows is none of them
  pub before_rows : (word : ℕ) → word < bucket_rows_start shape → at ≢ word
  before_rows word e same = absurd (omega (arith, e, own.from, same))

  -- so is a word of a row with a smaller number
  pub row_before : (row i : ℕ) → row < first → i < width → at ≢ place shape (BucketRowWord row i)
  row_before row i ahead inside same = absurd (omega (arith, row_within row width i first ahead inside, own.from, same))

  -- one of a row with a greater number
  row_behind : (row i : ℕ) → last ≤ row → at ≢ place shape (BucketRowWord row i)
  row_behind row i behind same = absurd (omega (arith, mul-le-mul_right width behind, own.below, same))

  -- and one of a directory row
  pub directory_behind : (row i : ℕ) → at ≢ place shape (DirectoryWord row i)
  directory_behind row i same =
      let all : last ≤ count_of shape BucketRows =
      range_within shape BucketRows seat (omega (arith, h, s.each_seat)) in
      absurd (omega (arith, mul-le-mul_right width all, own.below, same))

  module _ (other : ℕ) (k : other < seats_of setup) (apart : other ≢ seat) where
    -- a word of another seat's row
    row_elsewhere : (row i : ℕ) → i < width → Owns shape other BucketRows row → at ≢ place shape (BucketRowWord row i)
    row_elsewhere row i inside o = elim (cases_lt seat other) [
      | inl before ↦
          let follow = ranges_follow shape BucketRows seat other before (omega (arith, s.each_seat, k)) in
          row_behind row i (omega (arith, follow, o.from))
      | inr not_before ↦ elim (cases_lt other seat) [
        | inl after ↦
            let follow = ranges_follow shape BucketRows other seat after (omega (arith, s.each_seat, h)) in
            row_before row i (omega (arith, follow, o.below)) inside
        | inr not_after ↦ absurd (apart (omega (arith, not_before, not_after)))
      ]
    ]

    -- a word where another seat may store
    pub store_elsewhere : (used : SeatRows) (a : Address) → IsAddress shape a → MayStore setup other used a →
        at ≢ place shape a
    store_elsewhere used Root inside may = absurd may
    store_elsewhere used (Announcement p) inside may =
        before_rows (place shape (Announcement p)) (omega (arith, inside))
    store_elsewhere used (Done p) inside may = before_rows (place shape (Done p)) (omega (arith, inside))
    store_elsewhere used (BucketWord b) inside may = before_rows (place shape (BucketWord b)) (omega (arith, inside))
    store_elsewhere used (OpWord row i) inside may =
        let in_row : row * OP_WORDS + i < count_of shape OpRows * OP_WORDS =
        row_within row OP_WORDS i (count_of shape OpRows) inside.0 inside.1 in
        before_rows (place shape (OpWord row i)) (omega (arith, in_row))
    store_elsewhere used (BucketRowWord row i) inside may = row_elsewhere row i inside.1 may.own
    store_elsewhere used (DirectoryWord row i) inside may = directory_behind row i

-- a test as a number
abbrev bit : Bool → ℕ
bit b = cond b 1 0

-- ---- one event of another seat

module _ (setup : Setup) (events : List Event) (run : IsRun setup events) (seat at : ℕ) (h : seat < seats_of setup)
    (own : IsOwnPlace setup.shape seat at) (other : ℕ) (k : other < seats_of setup) (apart : other ≢ seat) where
  -- the world before it
  abbrev w : World
  w = world_after setup events

  -- what the other seat has published
  abbrev used : SeatRows
  used = (seat_in w other).account.used

  -- the word at the place
  abbrev held : World → ℕ
  held world = get_or world.words at 0

  -- the words after a step of a seat in flight, by what it asks for
  asks_elsewhere : (flight : Flight) (phase : Phase) → InPhase setup events other flight phase → (a : Ask) →
      ask_in setup other used flight phase ≡ a → get_or (words_after setup a w.words) at 0 ≡ held w
  asks_elsewhere flight phase p Nothing is = refl
  asks_elsewhere flight phase p (Load from) is = refl
  asks_elsewhere flight phase p (Store to word) is =
      let inside : IsAddress setup.shape to =
      subst (IsOnWord setup.shape) is (steps_are_within setup events other flight phase run p) in
      let may = stores_are_own setup events other word to flight phase run p is in
      get_or-set_other w.words (place setup.shape to) at word 0
      (store_elsewhere setup seat at run.opened.shape h own other k apart used to inside may)
  asks_elsewhere flight phase p (Exchange to old new) is = go (eqb (word_at setup.shape w.words to) old)
    where
      inside : IsAddress setup.shape to
      inside = subst (IsOnWord setup.shape) is (steps_are_within setup events other flight phase run p)

      low : place setup.shape to < bucket_rows_start setup.shape
      low = exchanges_are_elsewhere setup other old new used flight phase to is inside

      go : (b : Bool) → get_or (cond b (set w.words (place setup.shape to) new) w.words) at 0 ≡ held w
      go true = get_or-set_other w.words (place setup.shape to) at new 0
          (before_rows setup seat at run.opened.shape h own (place setup.shape to) low)
      go false = refl

  -- so the other seat's event leaves the word
  act_elsewhere : (stand : Stand) (begin : Option (ℕ × Call)) → (seat_in w other).stand ≡ stand →
      held (act setup w other (seat_in w other).account stand begin) ≡ held w
  act_elsewhere Idle None is = refl
  act_elsewhere Idle (Some begin) is = go (refusal_of setup other (seat_in w other).account begin.1)
    where
      go : (r : Option Full) →
          held (begin_or_refuse setup w other (seat_in w other).account begin.0 begin.1 r) ≡ held w
      go (Some full) = refl
      go None = refl
  act_elsewhere (InFlight flight phase) begin is =
      asks_elsewhere flight phase (record { seat_is = k; stand = is }) (ask_in setup other used flight phase) refl

module _ (setup : Setup) (seat at : ℕ) (h : seat < seats_of setup) (own : IsOwnPlace setup.shape seat at) where
  -- as an event of the run
  event_leaves : (events : List Event) (e : Event) → IsRun setup (events ++ e ∷ []) → e.seat ≢ seat →
      get_or (world_after setup (events ++ e ∷ [])).words at 0 ≡ get_or (world_after setup events).words at 0
  event_leaves events e run apart =
      let w = world_after setup events in
      let is : IsEvent setup w e = (events_then setup (opening_world setup) events (e ∷ []) run.follow).0 in
      ap (λ (x : World). get_or x.words at 0) (happen_both setup (opening_world setup) events (e ∷ []))
      ∙ ap (λ (b : Bool). get_or (cond b (act setup w e.seat (seat_in w e.seat).account (seat_in w e.seat).stand
      e.begin) w).words at 0) (lt-ltb e.seat (seats_of setup) is.seat)
      ∙ act_elsewhere setup events (run_first setup events (e ∷ []) run) seat at h own e.seat is.seat apart
      (seat_in w e.seat).stand e.begin refl

  -- as all of them
  events_leave : (later events : List Event) → IsRun setup (events ++ later) → events_of seat later ≡ 0 →
      get_or (world_after setup (events ++ later)).words at 0 ≡ get_or (world_after setup events).words at 0
  events_leave [] events run none =
      ap (λ (es : List Event). get_or (world_after setup es).words at 0) (append-nil events)
  events_leave (e ∷ later) events run none =
      let cut : events ++ e ∷ later ≡ (events ++ e ∷ []) ++ later = sym (append_assoc events (e ∷ []) later) in
      let run' : IsRun setup ((events ++ e ∷ []) ++ later) = subst (IsRun setup) cut run in
      let sum = sum_by-cons (λ (x : Event). bit (eqb x.seat seat)) e later in
      let one : e.seat ≡ seat → bit (eqb e.seat seat) ≡ 1 = λ same. ap bit (eq-eqb e.seat seat same) in
      ap (λ (es : List Event). get_or (world_after setup es).words at 0) cut
      ∙ events_leave later (events ++ e ∷ []) run' (omega (arith, sum, none))
      ∙ event_leaves events e (run_first setup (events ++ e ∷ []) later run')
      (λ same. absurd (omega (arith, sum, none, one same)))

-- so while a seat takes no step, the words of its own bucket rows stay
pub others_leave_own_rows : OthersLeaveOwnRows
others_leave_own_rows setup events later seat at run h none own = events_leave setup seat at h own later events run none
