-- Each event of a lasting table keeps the pools of all seats, and refuses no update.
use Rattle.std.proofs.Common.{◌≡◌, ℕ, suc, ◌+◌, ◌-◌, ◌*◌, ◌<◌, ◌≤◌, inl, inr, Bool, true, false, cond, List, [], ◌∷◌, ◌++◌, length, Option, Some, None, refl, sym, ap, subst, arith}
use Rattle.std.specs.Prelude.{◌==◌, nat_lt, slice_index_or}
use Rattle.std.proofs.lemmas.Bool.{ltb-false, cond_both}
use Rattle.list_laws.proofs.Lists.{In}
use Rattle.plain_map.specs.declared.calls.Reply.{Reply}
use Rattle.word_rows.specs.ReplyWords.{reply_of_word}
use Rattle.table_model.specs.Setup.{Setup}
use Rattle.table_model.specs.Goes.{more}
use Rattle.lasting_model.specs.Plans.{Plan, PIECE}
use Rattle.lasting_model.specs.Codes.{SLOT_WORDS, generation_in, state_in}
use Rattle.lasting_model.specs.Words as W
use Rattle.lasting_model.specs.Words.{held_at, with_word}
use Rattle.lasting_model.specs.Steps as S
use Rattle.lasting_model.specs.Steps.{Step, Stand, Sweep, SeatNow, Update, Try, Course, Deed, deed_of, glance_deed, sweep_deed, bucket_of_update, is_due, made, next_row, next_generation, Aim, Glance}
use Rattle.lasting_model.specs.Goes.{SweepFate, SweepsOn, Swept, swept, rows_of, sweep_begins, Fate, On, Ends, Refuses, with_free, first_fate, piece_fate, ends_with, lost, reply_by, is_applied, looked, found_so_far, op_in, fate}
use Rattle.lasting_model.specs.Worlds.{store_after, seat_after, stand_at}
use Rattle.lasting_laws.proofs.Pools.{todo_of, gone_of, Lists, HomesRoom, places, needs_at, spent_at, rows_at, needs, spent, IsSweeping, Room, HasRow, Pool, PoolOf, takes_up}
use Rattle.lasting_laws.proofs.Sweeping.{Stay, Good}

-- ---- steps and what they need

-- no step needs more than this
pub at_most : (step : Step) → (needs_at step ≤ 1) × (spent_at step ≤ 3) × (rows_at step ≤ 1)
at_most (S.Sweeps rows) = (omega arith, omega arith, omega arith)
at_most (S.StoreOp i) = (omega arith, omega arith, omega arith)
at_most S.Announce = (omega arith, omega arith, omega arith)
at_most (S.LoadWord turn) = (omega arith, omega arith, omega arith)
at_most (S.LoadRow turn word words) = (omega arith, omega arith, omega arith)
at_most (S.CheckRow turn word words) = (omega arith, omega arith, omega arith)
at_most (S.LoadAnnounced attempt found) = (omega arith, omega arith, omega arith)
at_most (S.LoadOp attempt found announced words) = (omega arith, omega arith, omega arith)
at_most (S.StoreRow attempt found i) = (omega arith, omega arith, omega arith)
at_most (S.Exchange attempt found) = (omega arith, omega arith, omega arith)
at_most S.StoreWant = (omega arith, omega arith, omega arith)
at_most S.StoreAsking = (omega arith, omega arith, omega arith)
at_most S.HeldWord = (omega arith, omega arith, omega arith)
at_most (S.TakeHold word) = (omega arith, omega arith, omega arith)
at_most (S.HeldNumber row) = (omega arith, omega arith, omega arith)
at_most (S.HeldReply row) = (omega arith, omega arith, omega arith)
at_most S.Stuck = (omega arith, omega arith, omega arith)

-- a step leads to one that needs no more, or to an answer
abbrev pub Leads : Step → Fate → Type 0
Leads step (On next) =
    (needs_at next ≤ needs_at step) × (spent_at next ≤ spent_at step) × (rows_at next ≤ rows_at step)
Leads step (Ends reply) = Unit {0}
Leads step Refuses = ⊥

-- a reply, or none
replied : (step : Step) (reply : Option Reply) → Leads step (ends_with reply)
replied step None = (omega arith, omega arith, omega arith)
replied step (Some reply) = tt

-- by the choice of the next step
either_on : (step a b : Step) (c : Bool) → Leads step (On a) → Leads step (On b) → Leads step (On (cond c a b))
either_on step a b true la lb = la
either_on step a b false la lb = lb

-- by the choice of a fate
either : (step : Step) (a b : Fate) (c : Bool) → Leads step a → Leads step b → Leads step (cond c a b)
either step a b true la lb = la
either step a b false la lb = lb

-- every step but those of a sweep
abbrev pub IsOther : Step → Type 0
IsOther (S.Sweeps rows) = ⊥
IsOther step = Unit {0}

pub leads : (setup : Setup) (seat : ℕ) (now : SeatNow) (u : Update) (step : Step) (word : ℕ) → IsOther step →
    Leads step (fate setup seat now u step word)
leads setup seat now u (S.Sweeps rows) word o = absurd o
leads setup seat now u (S.StoreOp i) word o = at_most _
leads setup seat now u S.Announce word o = at_most (S.LoadWord 1)
leads setup seat now u (S.LoadWord turn) word o = at_most (S.LoadRow turn word [])
leads setup seat now u (S.LoadRow turn old words) word o = at_most _
leads setup seat now u (S.CheckRow turn old words) word o =
    let attempt : Try = record { turn = turn; word = old; state = state_in setup (bucket_of_update setup u) words } in
    either (S.CheckRow turn old words) (looked setup seat u attempt) (lost turn) (word == generation_in old)
    (either (S.CheckRow turn old words) (reply_by seat attempt.state) (found_so_far setup seat u attempt [])
    (is_applied seat u attempt.state)
    (replied (S.CheckRow turn old words) (slice_index_or attempt.state.replies seat None)) (at_most _))
    (at_most _)
leads setup seat now u (S.LoadAnnounced attempt found) word o =
    either (S.LoadAnnounced attempt found) (On (S.LoadOp attempt found word []))
    (found_so_far setup seat u attempt (more found None))
    (is_due (bucket_of_update setup u) attempt.state (length found) word) (at_most (S.LoadOp attempt found word []))
    (at_most _)
leads setup seat now u (S.LoadOp attempt found announced words) word o =
    either (S.LoadOp attempt found announced words) (On (S.LoadOp attempt found announced (more words word)))
    (found_so_far setup seat u attempt (more found (Some (op_in (length found) announced (more words word)))))
    (nat_lt (length words + 1) SLOT_WORDS) (at_most (S.LoadOp attempt found announced (more words word))) (at_most _)
leads setup seat now u (S.StoreRow attempt found i) word o = at_most _
leads setup seat now u (S.Exchange attempt found) word o =
    either (S.Exchange attempt found) (reply_by seat (made setup attempt found)) (lost attempt.turn)
    (word == attempt.word)
    (replied (S.Exchange attempt found) (slice_index_or (made setup attempt found).replies seat None)) (at_most _)
leads setup seat now u S.StoreWant word o = (omega arith, omega arith, omega arith)
leads setup seat now u S.StoreAsking word o = (omega arith, omega arith, omega arith)
leads setup seat now u S.HeldWord word o = (omega arith, omega arith, omega arith)
leads setup seat now u (S.TakeHold old) word o = (omega arith, omega arith, omega arith)
leads setup seat now u (S.HeldNumber row) word o =
    either_on (S.HeldNumber row) (S.HeldReply row) S.Stuck (word == u.number) (omega arith, omega arith, omega arith)
    (omega arith, omega arith, omega arith)
leads setup seat now u (S.HeldReply row) word o = replied (S.HeldReply row) (reply_of_word word)
leads setup seat now u S.Stuck word o = (omega arith, omega arith, omega arith)

-- ---- bucket words

-- no bucket word is another then
abbrev pub IsQuiet : Deed → Type 0
IsQuiet (S.Swap (W.Bucket b) old new) = ⊥
IsQuiet (S.Store (W.Bucket b) word) = ⊥
IsQuiet deed = Unit {0}

quiet_store : (at : W.At) (store : W.Store) (word : ℕ) → IsQuiet (S.Store at word) →
    (with_word store at word).bucket ≡ store.bucket
quiet_store (W.Announced seat) store word q = refl
quiet_store (W.Want seat) store word q = refl
quiet_store (W.Hold seat) store word q = refl
quiet_store (W.OpWord seat i) store word q = refl
quiet_store (W.Bucket b) store word q = absurd q
quiet_store (W.RowWord row i) store word q = refl

pub quiet_words : (deed : Deed) (store : W.Store) → IsQuiet deed → (store_after deed store).bucket ≡ store.bucket
quiet_words S.Nothing store q = refl
quiet_words (S.Load from) store q = refl
quiet_words (S.Store to word) store q = quiet_store to store word q
quiet_words (S.Swap (W.Announced seat) old new) store q =
    cond_both (store.announced seat == old) (with_word store (W.Announced seat) new) store
    (λ (s : W.Store). s.bucket ≡ store.bucket) (λ e. refl) (λ e. refl)
quiet_words (S.Swap (W.Want seat) old new) store q =
    cond_both (store.want seat == old) (with_word store (W.Want seat) new) store
    (λ (s : W.Store). s.bucket ≡ store.bucket) (λ e. refl) (λ e. refl)
quiet_words (S.Swap (W.Hold seat) old new) store q =
    cond_both (store.hold seat == old) (with_word store (W.Hold seat) new) store
    (λ (s : W.Store). s.bucket ≡ store.bucket) (λ e. refl) (λ e. refl)
quiet_words (S.Swap (W.OpWord seat i) old new) store q =
    cond_both (store.op seat i == old) (with_word store (W.OpWord seat i) new) store
    (λ (s : W.Store). s.bucket ≡ store.bucket) (λ e. refl) (λ e. refl)
quiet_words (S.Swap (W.Bucket b) old new) store q = absurd q
quiet_words (S.Swap (W.RowWord row i) old new) store q =
    cond_both (store.row row i == old) (with_word store (W.RowWord row i) new) store
    (λ (s : W.Store). s.bucket ≡ store.bucket) (λ e. refl) (λ e. refl)

pub quiet_sweep : (sweep : Option Sweep) → IsQuiet (sweep_deed sweep)
quiet_sweep None = tt
quiet_sweep (Some (S.Homes [] gone)) = tt
quiet_sweep (Some (S.Homes (r ∷ todo) gone)) = tt
quiet_sweep (Some (S.Seats k gone)) = tt
quiet_sweep (Some (S.Sees k t gone)) = tt
quiet_sweep (Some (S.Loads k t bucket gone)) = tt
quiet_sweep (Some (S.Gives k t row gone)) = tt

-- every step but the exchange
abbrev pub IsNoExchange : Step → Type 0
IsNoExchange (S.Exchange attempt found) = ⊥
IsNoExchange step = Unit {0}

pub quiet_step : (setup : Setup) (seat : ℕ) (now : SeatNow) (u : Update) (step : Step) → IsNoExchange step →
    IsQuiet (deed_of setup seat now u step)
quiet_step setup seat now u (S.Sweeps rows) n = quiet_sweep now.sweep
quiet_step setup seat now u (S.StoreOp i) n = tt
quiet_step setup seat now u S.Announce n = tt
quiet_step setup seat now u (S.LoadWord turn) n = tt
quiet_step setup seat now u (S.LoadRow turn word words) n = tt
quiet_step setup seat now u (S.CheckRow turn word words) n = tt
quiet_step setup seat now u (S.LoadAnnounced attempt found) n = tt
quiet_step setup seat now u (S.LoadOp attempt found announced words) n = tt
quiet_step setup seat now u (S.StoreRow attempt found i) n = tt
quiet_step setup seat now u (S.Exchange attempt found) n = absurd n
quiet_step setup seat now u S.StoreWant n = tt
quiet_step setup seat now u S.StoreAsking n = tt
quiet_step setup seat now u S.HeldWord n = tt
quiet_step setup seat now u (S.TakeHold word) n = tt
quiet_step setup seat now u (S.HeldNumber row) n = tt
quiet_step setup seat now u (S.HeldReply row) n = tt
quiet_step setup seat now u S.Stuck n = tt

pub quiet_glance : (setup : Setup) (seat time : ℕ) (aim : Aim) (glance : Glance) →
    IsQuiet (glance_deed setup seat time aim glance)
quiet_glance setup seat time aim (S.GlanceWord left) = tt
quiet_glance setup seat time aim (S.GlanceCount source) = tt
quiet_glance setup seat time aim (S.GlanceItem source scan) = tt
quiet_glance setup seat time aim (S.GlanceCheck left word kept) = tt
quiet_glance setup seat time aim S.GlanceWant = tt
quiet_glance setup seat time aim S.GlanceAsking = tt
quiet_glance setup seat time aim S.GlanceHeld = tt
quiet_glance setup seat time aim (S.GlanceTake word) = tt

-- an update goes on
abbrev pub GoesOn : Fate → Type 0
GoesOn Refuses = ⊥
GoesOn next = Unit {0}

-- ---- the pool of the seat

module _ (plan : Plan) (word : ℕ → ℕ) (p : ℕ) (inside : p < plan.settings.seats) where
  -- room for a stand is room for one that needs no more
  weaken : (named : List (ℕ × ℕ)) (sweep : Option Sweep) (was now : Stand) → Room plan word p named sweep was →
      (IsSweeping was → ⊥) → needs now ≤ needs was → spent now ≤ spent was → Room plan word p named sweep now
  weaken named None was now room other less few = omega (arith, room, less)
  weaken named (Some (S.Homes todo gone)) was now room other less few = (
    record {
      kept = room.0.kept;
      since = room.0.since;
      named_are = room.0.named_are;
      inside = room.0.inside;
      once = room.0.once;
      replaced = room.0.replaced;
      start = room.0.start;
      slow = omega (arith, room.0.slow, few);
    },
    room.1,
  )
  weaken named (Some (S.Seats k gone)) was now room other less few = absurd (other room.1)
  weaken named (Some (S.Sees k t gone)) was now room other less few = absurd (other room.1)
  weaken named (Some (S.Loads k t bucket gone)) was now room other less few = absurd (other room.1)
  weaken named (Some (S.Gives k t row gone)) was now room other less few = absurd (other room.1)

  -- so is the pool
  pub eased : (free : List ℕ) (named : List (ℕ × ℕ)) (sweep : Option Sweep) (was now : Stand) →
      Pool plan word p free named sweep was → (IsSweeping was → ⊥) → needs now ≤ needs was → spent now ≤ spent was →
      HasRow free now → Pool plan word p free named sweep now
  eased free named sweep was now pool other less few row = record {
    lists = pool.lists;
    room = weaken named sweep was now pool.room other less few;
    row = row;
  }

  not_sweeping : (u : Update) (step : Step) → IsOther step → IsSweeping (S.Goes u step) → ⊥
  not_sweeping u (S.Sweeps rows) o s = o
  not_sweeping u (S.StoreOp i) o s = s
  not_sweeping u S.Announce o s = s
  not_sweeping u (S.LoadWord turn) o s = s
  not_sweeping u (S.LoadRow turn word words) o s = s
  not_sweeping u (S.CheckRow turn word words) o s = s
  not_sweeping u (S.LoadAnnounced attempt found) o s = s
  not_sweeping u (S.LoadOp attempt found announced words) o s = s
  not_sweeping u (S.StoreRow attempt found i) o s = s
  not_sweeping u (S.Exchange attempt found) o s = s
  not_sweeping u S.StoreWant o s = s
  not_sweeping u S.StoreAsking o s = s
  not_sweeping u S.HeldWord o s = s
  not_sweeping u (S.TakeHold word) o s = s
  not_sweeping u (S.HeldNumber row) o s = s
  not_sweeping u (S.HeldReply row) o s = s
  not_sweeping u S.Stuck o s = s

  -- after a step that touches none of its rows
  pub plain : (now : SeatNow) (u : Update) (step : Step) (next : Fate) → IsOther step →
      Pool plan word p now.free now.named now.sweep (S.Goes u step) → Leads step next →
      PoolOf plan word p (seat_after now u next)
  plain now u step (On after) o pool l =
      eased now.free now.named now.sweep (S.Goes u step) (S.Goes u after) pool (not_sweeping u step o) l.0 l.1
      (omega (arith, pool.row, l.2))
  plain now u step (Ends reply) o pool l =
      eased now.free now.named now.sweep (S.Goes u step) S.Idle pool (not_sweeping u step o) (omega arith)
      (omega arith) tt
  plain now u step Refuses o pool l = absurd l

  -- ---- a piece of a sweep

  abbrev pub After : (now : SeatNow) (u : Update) → Fate → Type 0
  After now u next = PoolOf plan word p (seat_after now u next) × GoesOn next

  module _ (rows_enough : 2 * places plan ≤ plan.rows) where
    -- where all is swept there is a free row
    all_swept : (now : SeatNow) (u : Update) (free : List ℕ) (gone : List (ℕ × ℕ)) (fs : List ℕ) →
        free ++ rows_of gone ≡ fs →
        (named : List (ℕ × ℕ)) → Lists plan word p (free ++ rows_of gone) named [] [] →
        2 * (length named + 1) + 1 ≤ 3 * places plan →
        now.free ≡ free ++ rows_of gone → now.named ≡ named → now.sweep ≡ None → After now u (with_free fs)
    all_swept now u free gone [] e named lists few ef en es =
        let none : length (free ++ rows_of gone) ≡ 0 = ap (λ (xs : List ℕ). length xs) e in
        absurd (omega (arith, none, lists.all, few, rows_enough))
    all_swept now u free gone (row ∷ fs) e named lists few ef en es =
        let some : length (free ++ rows_of gone) ≡ suc (length fs) = ap (λ (xs : List ℕ). length xs) e in
        let pool : Pool plan word p (free ++ rows_of gone) named None (S.Goes u (S.StoreOp 0)) =
        record { lists = lists; room = omega (arith, few); row = omega (arith, some) } in (
          subst (λ (s : Option Sweep). Pool plan word p now.free now.named s (S.Goes u (S.StoreOp 0))) (sym es)
              (subst (λ (ns : List (ℕ × ℕ)). Pool plan word p now.free ns None (S.Goes u (S.StoreOp 0))) (sym en)
              (subst (λ (gs : List ℕ). Pool plan word p gs named None (S.Goes u (S.StoreOp 0))) (sym ef) pool)),
          tt,
        )

    -- where a sweep goes on there is one too
    still_some : (now : SeatNow) (u : Update) (fs : List ℕ) → now.free ≡ fs → (named todo gone : List (ℕ × ℕ)) →
        Lists plan word p now.free named todo gone → HomesRoom plan word named todo gone 3 → 1 ≤ length todo →
        now.named ≡ named → now.sweep ≡ Some (S.Homes todo gone) → After now u (with_free fs)
    still_some now u [] e named todo gone lists room some en es =
        let none : length now.free ≡ 0 = ap (λ (xs : List ℕ). length xs) e in
        absurd (omega (arith, none, lists.all, room.named_are, room.start, room.slow, some, rows_enough))
    still_some now u (row ∷ fs) e named todo gone lists room some en es =
        let more_than : length now.free ≡ suc (length fs) = ap (λ (xs : List ℕ). length xs) e in
        let pool : Pool plan word p now.free named (Some (S.Homes todo gone)) (S.Goes u (S.StoreOp 0)) =
        record { lists = lists; room = (room, some); row = omega (arith, more_than) } in (
          subst (λ (s : Option Sweep). Pool plan word p now.free now.named s (S.Goes u (S.StoreOp 0))) (sym es)
              (subst (λ (ns : List (ℕ × ℕ)). Pool plan word p now.free ns (Some (S.Homes todo gone))
              (S.Goes u (S.StoreOp 0)))
              (sym en) pool),
          tt,
        )

    -- with other numbers
    slower : (named todo gone : List (ℕ × ℕ)) (more less : ℕ) → HomesRoom plan word named todo gone more → less ≤ more →
        HomesRoom plan word named todo gone less
    slower named todo gone more less room fewer = record {
      kept = room.kept;
      since = room.since;
      named_are = room.named_are;
      inside = room.inside;
      once = room.once;
      replaced = room.replaced;
      start = room.start;
      slow = omega (arith, room.slow, fewer);
    }

    -- after a step of the piece
    pub pieced : (now : SeatNow) (u : Update) (rows : ℕ) (todo : List (ℕ × ℕ)) (f : SweepFate) →
        Good plan word p inside now.free (PIECE - rows + 1) now.named todo f →
        After (swept now f) u (piece_fate now.free rows f)
    pieced now u rows todo (SweepsOn kept (S.Homes next gone)) g = go (nat_lt 1 rows) refl
      where
        go : (b : Bool) → nat_lt 1 rows ≡ b →
            After (swept now (SweepsOn kept (S.Homes next gone))) u
            (cond b (On (S.Sweeps (rows - 1))) (with_free now.free))
        go true e = (
          record {
            lists = g.0;
            room = (
              slower (now.named ++ kept) next gone (PIECE - rows + 1) (PIECE - (rows - 1)) g.1 (omega arith),
              g.2,
            );
            row = omega arith;
          },
          tt,
        )
        go false e =
            let few : rows ≤ 1 = ltb-false 1 rows e in
            still_some (swept now (SweepsOn kept (S.Homes next gone))) u now.free refl (now.named ++ kept) next gone g.0
            (slower (now.named ++ kept) next gone (PIECE - rows + 1) 3 g.1 (omega (arith, few))) g.2 refl refl
    pieced now u rows todo (SweepsOn kept (S.Seats k gone)) g =
        (record { lists = g.0; room = (g.1, tt); row = omega arith }, tt)
    pieced now u rows todo (SweepsOn kept (S.Sees k t gone)) g =
        (record { lists = g.0; room = (g.1, tt); row = omega arith }, tt)
    pieced now u rows todo (SweepsOn kept (S.Loads k t bucket gone)) g =
        (record { lists = g.0; room = (g.1, tt); row = omega arith }, tt)
    pieced now u rows todo (SweepsOn kept (S.Gives k t row gone)) g =
        (record { lists = g.0; room = (g.1, tt); row = omega arith }, tt)
    pieced now u rows todo (Swept kept gone) g =
        all_swept (swept now (Swept kept gone)) u now.free gone (now.free ++ rows_of gone) refl (now.named ++ kept) g.0
        g.1 refl refl refl

    -- ---- an update begins

    -- the seat after it, with this first step
    abbrev pub begun : (taken : SeatNow) (u : Update) → Fate → (course : Course) → SeatNow
    begun taken u next course = record taken { stand = stand_at u next; course = course }

    -- there is a free row for the first step
    first_row : (taken : SeatNow) (u : Update) (course : Course) (fs : List ℕ) → taken.free ≡ fs →
        Lists plan word p taken.free [] [] [] → taken.named ≡ [] → taken.sweep ≡ None →
        PoolOf plan word p (begun taken u (with_free fs) course) × GoesOn (with_free fs)
    first_row taken u course [] e lists en es =
        let none : length taken.free ≡ 0 = ap (λ (xs : List ℕ). length xs) e in
        absurd (omega (arith, none, lists.all, rows_enough, inside))
    first_row taken u course (row ∷ fs) e lists en es =
        let some : length taken.free ≡ suc (length fs) = ap (λ (xs : List ℕ). length xs) e in
        let pool : Pool plan word p taken.free [] None (S.Goes u (S.StoreOp 0)) =
        record { lists = lists; room = omega (arith, inside); row = omega (arith, some) } in (
          subst (λ (s : Option Sweep). Pool plan word p taken.free taken.named s (S.Goes u (S.StoreOp 0))) (sym es)
              (subst (λ (ns : List (ℕ × ℕ)). Pool plan word p taken.free ns None (S.Goes u (S.StoreOp 0)))
              (sym en) pool),
          tt,
        )

    -- one that was under way goes on
    goes_on_with : (named : List (ℕ × ℕ)) (sweep : Sweep) (free : List ℕ) (u : Update) →
        Pool plan word p free named (Some sweep) S.Idle →
        Pool plan word p free named (Some sweep) (S.Goes u (S.Sweeps PIECE))
    goes_on_with named (S.Homes todo gone) free u pool = record {
      lists = pool.lists;
      room = (slower named todo gone 0 0 pool.room.0 (omega arith), pool.room.1);
      row = omega arith;
    }
    goes_on_with named (S.Seats k gone) free u pool = absurd pool.room.1
    goes_on_with named (S.Sees k t gone) free u pool = absurd pool.room.1
    goes_on_with named (S.Loads k t bucket gone) free u pool = absurd pool.room.1
    goes_on_with named (S.Gives k t row gone) free u pool = absurd pool.room.1

    pub begins : (now : SeatNow) (named : List (ℕ × ℕ)) (sweep : Option Sweep) (u : Update) (course : Course) →
        now.named ≡ named → now.sweep ≡ sweep → Pool plan word p now.free now.named now.sweep S.Idle →
        (let taken = sweep_begins named sweep now in
        let next = first_fate now.free taken.sweep in
        PoolOf plan word p (begun taken u next course) × GoesOn next
        × Stay plan word p inside now.free now.named (todo_of now.sweep) taken.named (todo_of taken.sweep))
    begins now named (Some sweep) u course en es pool =
        let p0 : Pool plan word p now.free now.named (Some sweep) S.Idle =
        subst (λ (s : Option Sweep). Pool plan word p now.free now.named s S.Idle) es pool in
        let p1 : Pool plan word p now.free now.named now.sweep (S.Goes u (S.Sweeps PIECE)) =
        subst (λ (s : Option Sweep). Pool plan word p now.free now.named s (S.Goes u (S.Sweeps PIECE))) (sym es)
        (goes_on_with now.named sweep now.free u p0) in
        let both = subst
        (λ (next : Fate). PoolOf plan word p (begun now u next course) × GoesOn next)
        (sym (ap (first_fate now.free) es)) (p1, tt) in
        (both.0, both.1, λ r i same. i)
    begins now [] None u course en es pool =
        let l0 : Lists plan word p now.free now.named [] [] =
        subst (λ (s : Option Sweep). Lists plan word p now.free now.named (todo_of s) (gone_of s)) es pool.lists in
        let l1 : Lists plan word p now.free [] [] [] =
        subst (λ (ns : List (ℕ × ℕ)). Lists plan word p now.free ns [] []) en l0 in
        let both = subst
        (λ (next : Fate). PoolOf plan word p (begun now u next course) × GoesOn next)
        (sym (ap (first_fate now.free) es)) (first_row now u course now.free refl l1 en es) in
        (both.0, both.1, λ r i same. i)
    begins now (r ∷ named) None u course en es pool =
        let l0 : Lists plan word p now.free now.named [] [] =
        subst (λ (s : Option Sweep). Lists plan word p now.free now.named (todo_of s) (gone_of s)) es pool.lists in
        let l1 : Lists plan word p now.free (r ∷ named) [] [] =
        subst (λ (ns : List (ℕ × ℕ)). Lists plan word p now.free ns [] []) en l0 in
        let few : 2 * (length now.named + 0) + 1 ≤ 3 * places plan =
        subst (λ (s : Option Sweep). Room plan word p now.named s S.Idle) es pool.room in
        let long : length now.named ≡ suc (length named) = ap (λ (xs : List (ℕ × ℕ)). length xs) en in (
          record {
            lists = takes_up plan word p now.free (r ∷ named) l1;
            room = (
              record {
                kept = [];
                since = 0;
                named_are = refl;
                inside = λ b i. absurd i;
                once = tt;
                replaced = λ x i among. absurd among;
                start = omega (arith, few, long);
                slow = omega arith;
              },
              omega arith,
            );
            row = omega arith;
          },
          tt,
          λ x i same. elim i [
            | inl a ↦ inr (subst (λ (ns : List (ℕ × ℕ)). In x ns) en a)
            | inr a ↦ absurd (subst (λ (s : Option Sweep). In x (todo_of s)) es a)
          ],
        )
