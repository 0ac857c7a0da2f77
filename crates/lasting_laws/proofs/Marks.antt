-- The generations of rows: the row that stands in a bucket word has the generation in that word; and a row that is
-- written anew gets one that no bucket word has had.
use Rattle.std.proofs.Common.{◌≡◌, ◌≢◌, ℕ, ◌+◌, ◌-◌, ◌*◌, ◌^◌, ◌<◌, ◌≤◌, ◌⊎◌, inl, inr, Bool, true, false, cond, List, [], ◌∷◌, ◌++◌, length, Option, Some, None, refl, sym, ap, ◌∙◌, subst, arith, get_or-set_same, get_or-set_other, lt-ltb}
use Rattle.std.specs.Prelude.{◌==◌, nat_lt, slice_index, slice_index_or}
use Rattle.std.proofs.lemmas.Bool.{cases_eq, cond_both, eq-eqb}
use Rattle.std.proofs.Math.Nat.{div-lt_iff_lt-mul, mul-le-mul}
use Rattle.list_laws.proofs.Lists.{In}
use Rattle.list_laws.proofs.Totals.{many, one_if}
use Rattle.plain_map.specs.declared.calls.Reply.{Reply}
use Rattle.word_rows.specs.ReplyWords.{reply_of_word}
use Rattle.bucket_states.specs.declared.ops.Op.{Op}
use Rattle.table_model.specs.Setup.{Setup, seats_of}
use Rattle.table_model.specs.Goes.{more}
use Rattle.lasting_model.specs.Plans.{Plan, IsPlan, buckets_of}
use Rattle.lasting_model.specs.Codes.{SLOT_WORDS, tag, row_in, generation_in, state_in}
use Rattle.lasting_model.specs.Words as W
use Rattle.lasting_model.specs.Words.{with_word}
use Rattle.lasting_model.specs.Steps as S
use Rattle.lasting_model.specs.Steps.{Step, Stand, Sweep, SeatNow, Update, Try, Course, Deed, Aim, Glance, deed_of, glance_deed, sweep_deed, bucket_of_update, is_due, made, new_words, next_row, next_generation}
use Rattle.lasting_model.specs.Goes.{SweepFate, SweepsOn, Swept, rows_of, Fate, On, Ends, Refuses, with_free, first_fate, piece_fate, ends_with, lost, reply_by, is_applied, looked, found_so_far, ops_or_row, with_own, op_in, fate}
use Rattle.lasting_model.specs.Worlds.{Lasting, Answer, opening_world, opening_store, opening_row, bucket_of_row, seat_in, with_seat, ticked, store_after, seat_after, nobody}
use Rattle.lasting_laws.proofs.Words.{generation_of_tag}
use Rattle.lasting_laws.proofs.Pools.{owner_in, todo_of, gone_of, is_row, word_in, Pools, rows_at, in_many, owned, single}
use Rattle.lasting_laws.proofs.PoolEvents.{enough}
use Rattle.lasting_laws.proofs.PoolsOpen.{seat_is, row_small}

-- ---- what is said

-- what the owner of a row knows of its generation
abbrev pub known_of : Plan → Lasting → (row : ℕ) → ℕ
known_of plan x row = (seat_in x (owner_in plan row)).generation row

-- while it writes its row, that has its new generation
abbrev pub Writes : W.Store → SeatNow → Stand → Type 0
Writes store now (S.Goes u (S.StoreRow t found i)) = 0 < i → store.row (next_row now) 0 ≡ next_generation now
Writes store now (S.Goes u (S.Exchange t found)) = store.row (next_row now) 0 ≡ next_generation now
Writes store now stand = Unit {0}

pub record Marks (plan : Plan) (x : Lasting) : Type 0 where
  pub fresh : (b : ℕ) → b < buckets_of plan.settings →
      x.store.row (word_in x b) 0 ≡ generation_in (x.store.bucket b)
  pub old : (b : ℕ) → b < buckets_of plan.settings →
      generation_in (x.store.bucket b) ≤ known_of plan x (word_in x b)
  pub writing : (p : ℕ) → p < plan.settings.seats → Writes x.store (seat_in x p) (seat_in x p).stand

-- what an event leaves of a row: all of it, or it has a generation that no bucket word has had
pub record Turn (plan : Plan) (x y : Lasting) : Type 0 where
  pub rows : (row : ℕ) →
      ((i : ℕ) → y.store.row row i ≡ x.store.row row i) ⊎ (y.store.row row 0 ≡ known_of plan x row + 1)
  pub known : (row : ℕ) → known_of plan x row ≤ known_of plan y row

-- what a step of one seat changes: of the rows one of its own that is free; of the bucket words one, in which a row of
-- its own stands then with its generation
pub record Change (plan : Plan) (x : Lasting) (p : ℕ) (store : W.Store) (then : SeatNow) : Type 0 where
  pub rows : (row : ℕ) → ((i : ℕ) → store.row row i ≡ x.store.row row i)
      ⊎ ((owner_in plan row ≡ p) × In row (seat_in x p).free
      × (store.row row 0 ≡ (seat_in x p).generation row + 1))
  pub known : (row : ℕ) → (seat_in x p).generation row ≤ then.generation row
  pub words : (b : ℕ) → b < buckets_of plan.settings → (store.bucket b ≡ x.store.bucket b)
      ⊎ ((owner_in plan (row_in (store.bucket b)) ≡ p)
      × (store.row (row_in (store.bucket b)) 0 ≡ generation_in (store.bucket b))
      × (generation_in (store.bucket b) ≤ then.generation (row_in (store.bucket b))))
  pub writes : Writes store then then.stand

-- ---- rows that are free

abbrev flag : Bool → ℕ
flag b = cond b 1 0

pub in_free : (row : ℕ) (free : List ℕ) → In row free → 1 ≤ many (is_row row) free
in_free row [] i = absurd i
in_free row (y ∷ free) (inl e) =
    (let one : one_if (is_row row) y ≡ 1 = ap flag (eq-eqb y row (sym e)) in omega (arith, one))
in_free row (y ∷ free) (inr i) = omega (arith, in_free row free i)

-- the next row is one of them, where there is one
pub next_in : (free : List ℕ) → 1 ≤ length free → In (slice_index free 0) free
next_in [] some = absurd (omega (arith, some))
next_in (r ∷ free) some = inl refl

module _ (plan : Plan) (is_plan : IsPlan plan) (x : Lasting) (h : Pools plan x) where
  pub free_owned : (p row : ℕ) → p < plan.settings.seats → In row (seat_in x p).free → owner_in plan row ≡ p
  free_owned p row inside i =
      let now = seat_in x p in
      owned plan (word_in x) p now.free now.named (todo_of now.sweep) (gone_of now.sweep) (h.seats p inside).lists row
      (omega (arith, in_free row now.free i))

  -- none of them stands in a bucket word
  pub not_in_word : (p b : ℕ) → p < plan.settings.seats → b < buckets_of plan.settings → owner_in plan (word_in x b)
      ≡ p →
      In (word_in x b) (seat_in x p).free → ⊥
  not_in_word p b inside less own i =
      let r : ℕ = word_in x b in
      let now = seat_in x p in
      let most = single plan (word_in x) p now.free now.named (todo_of now.sweep) (gone_of now.sweep)
      (h.seats p inside).lists r in
      let free = in_free r now.free i in
      elim (subst (λ q. In (r, b) (seat_in x q).named ⊎ In (r, b) (todo_of (seat_in x q).sweep)) own
      (h.placed b less).is) [
        | inl a ↦ omega (arith, most, free, in_many (r, b) now.named a)
        | inr a ↦ omega (arith, most, free, in_many (r, b) (todo_of now.sweep) a)
      ]

  -- a bucket word can tell it
  pub own_small : (row : ℕ) → owner_in plan row < plan.settings.seats → row < 2 ^ 17
  own_small row less =
      let some : 0 < plan.rows = omega (arith, enough plan is_plan, less) in
      let below : row < plan.settings.seats * plan.rows =
      (div-lt_iff_lt-mul {k = plan.rows} {x = row} {y = plan.settings.seats} some).0 less in
      let most : plan.settings.seats * plan.rows ≤ 8 * 2 ^ 14 = mul-le-mul plan.settings.seats_in_range.1 is_plan.few in
      omega (arith, below, most)

  -- a seat that writes has a free row, which is its own
  pub writer_owns : (q : ℕ) → q < plan.settings.seats → (u : Update) (step : Step) → (seat_in x q).stand
      ≡ S.Goes u step →
      1 ≤ rows_at step → owner_in plan (next_row (seat_in x q)) ≡ q
  writer_owns q less u step stood some =
      let row = (subst (λ (s : Stand). HasFree s) stood (h.seats q less).row) in
      free_owned q (next_row (seat_in x q)) less (next_in (seat_in x q).free (omega (arith, row, some)))
    where
      HasFree : Stand → Type 0
      HasFree S.Idle = Unit {0}
      HasFree (S.Goes v s) = rows_at s ≤ length (seat_in x q).free
      HasFree (S.Glances aim glance) = Unit {0}

  module _ (m : Marks plan x) (p : ℕ) (inside : p < plan.settings.seats) (store : W.Store) (then : SeatNow)
      (answers : List Answer) (c : Change plan x p store then) where
    abbrev y : Lasting
    y = ticked (with_seat x p store then answers)

    long : p < length x.seats
    long = omega (arith, inside, h.long)

    mine : seat_in y p ≡ then
    mine = get_or-set_same x.seats p then nobody long

    others : (q : ℕ) → q ≢ p → seat_in y q ≡ seat_in x q
    others q other = get_or-set_other x.seats p q then nobody other

    known_mine : (row : ℕ) → owner_in plan row ≡ p → known_of plan y row ≡ then.generation row
    known_mine row e = ap (λ (s : SeatNow). s.generation row) (ap (seat_in y) e ∙ mine)

    known_up : (row : ℕ) → known_of plan x row ≤ known_of plan y row
    known_up row = elim (cases_eq (owner_in plan row) p) [
      | inl e ↦
          let was : known_of plan x row ≡ (seat_in x p).generation row = ap (λ q. (seat_in x q).generation row) e in
          omega (arith, was, known_mine row e, c.known row)
      | inr n ↦
          let same : known_of plan y row ≡ known_of plan x row =
          ap (λ (s : SeatNow). s.generation row) (others (owner_in plan row) n) in
          omega (arith, same)
    ]

    pub turns : Turn plan x y
    turns = record {
      rows = λ row. elim (c.rows row) [
        | inl same ↦ inl same
        | inr z ↦ inr (z.2 ∙ ap (λ q. (seat_in x q).generation row + 1) (sym z.0))
      ];
      known = known_up;
    }

    -- the row of another one that writes stays as it is
    untouched : (q : ℕ) → q ≢ p → (row : ℕ) → owner_in plan row ≡ q → store.row row 0 ≡ x.store.row row 0
    untouched q n row own = elim (c.rows row) [
      | inl same ↦ same 0
      | inr z ↦ absurd (n (sym own ∙ z.0))
    ]

    other_writes : (q : ℕ) → q ≢ p → q < plan.settings.seats → (stand : Stand) → (seat_in x q).stand ≡ stand →
        Writes x.store (seat_in x q) stand → Writes store (seat_in x q) stand
    other_writes q n less (S.Goes u (S.StoreRow t found i)) stood w = λ some.
        untouched q n (next_row (seat_in x q))
        (writer_owns q less u (S.StoreRow t found i) stood (omega arith)) ∙ w some
    other_writes q n less (S.Goes u (S.Exchange t found)) stood w =
        untouched q n (next_row (seat_in x q)) (writer_owns q less u (S.Exchange t found) stood (omega arith)) ∙ w
    other_writes q n less S.Idle stood w = tt
    other_writes q n less (S.Glances aim glance) stood w = tt
    other_writes q n less (S.Goes u (S.Sweeps rows)) stood w = tt
    other_writes q n less (S.Goes u (S.StoreOp i)) stood w = tt
    other_writes q n less (S.Goes u S.Announce) stood w = tt
    other_writes q n less (S.Goes u (S.LoadWord turn)) stood w = tt
    other_writes q n less (S.Goes u (S.LoadRow turn word words)) stood w = tt
    other_writes q n less (S.Goes u (S.CheckRow turn word words)) stood w = tt
    other_writes q n less (S.Goes u (S.LoadAnnounced t found)) stood w = tt
    other_writes q n less (S.Goes u (S.LoadOp t found announced words)) stood w = tt
    other_writes q n less (S.Goes u S.StoreWant) stood w = tt
    other_writes q n less (S.Goes u S.StoreAsking) stood w = tt
    other_writes q n less (S.Goes u S.HeldWord) stood w = tt
    other_writes q n less (S.Goes u (S.TakeHold word)) stood w = tt
    other_writes q n less (S.Goes u (S.HeldNumber row)) stood w = tt
    other_writes q n less (S.Goes u (S.HeldReply row)) stood w = tt
    other_writes q n less (S.Goes u S.Stuck) stood w = tt

    pub marked : Marks plan y
    marked = record {
      fresh = λ b less. elim (c.words b less) [
        | inl same ↦
            let word : word_in y b ≡ word_in x b = ap row_in same in
            elim (c.rows (word_in x b)) [
              | inl rows ↦ ap (λ r. store.row r 0) word ∙ rows 0 ∙ m.fresh b less ∙ ap generation_in (sym same)
              | inr z ↦ absurd (not_in_word p b inside less z.0 z.1)
            ]
        | inr z ↦ z.1
      ];
      old = λ b less. elim (c.words b less) [
        | inl same ↦
            let word : word_in y b ≡ word_in x b = ap row_in same in
            let now : known_of plan y (word_in y b) ≡ known_of plan y (word_in x b) = ap (known_of plan y) word in
            let mark : generation_in (store.bucket b) ≡ generation_in (x.store.bucket b) = ap generation_in same in
            omega (arith, now, mark, m.old b less, known_up (word_in x b))
        | inr z ↦ omega (arith, known_mine (row_in (store.bucket b)) z.0, z.2)
      ];
      writing = λ q less. elim (cases_eq q p) [
        | inl e ↦ subst (λ (s : SeatNow). Writes store s s.stand) (sym (ap (seat_in y) e ∙ mine)) c.writes
        | inr n ↦ subst (λ (s : SeatNow). Writes store s s.stand) (sym (others q n))
            (other_writes q n less (seat_in x q).stand refl (m.writing q less))
      ];
    }

-- ---- steps that write no row

-- a step to come writes no row of which not all is to be stored
abbrev pub NoWrite : Fate → Type 0
NoWrite (On (S.StoreRow t found i)) = i ≡ 0
NoWrite (On (S.Exchange t found)) = ⊥
NoWrite next = Unit {0}

pub no_write : (store : W.Store) (own : SeatNow) (u : Update) (next : Fate) → NoWrite next →
    Writes store (seat_after own u next) (seat_after own u next).stand
no_write store own u (Ends reply) n = tt
no_write store own u Refuses n = tt
no_write store own u (On (S.StoreRow t found i)) n = λ some. absurd (omega (arith, n, some))
no_write store own u (On (S.Exchange t found)) n = absurd n
no_write store own u (On (S.Sweeps rows)) n = tt
no_write store own u (On (S.StoreOp i)) n = tt
no_write store own u (On S.Announce) n = tt
no_write store own u (On (S.LoadWord turn)) n = tt
no_write store own u (On (S.LoadRow turn word words)) n = tt
no_write store own u (On (S.CheckRow turn word words)) n = tt
no_write store own u (On (S.LoadAnnounced t found)) n = tt
no_write store own u (On (S.LoadOp t found announced words)) n = tt
no_write store own u (On S.StoreWant) n = tt
no_write store own u (On S.StoreAsking) n = tt
no_write store own u (On S.HeldWord) n = tt
no_write store own u (On (S.TakeHold word)) n = tt
no_write store own u (On (S.HeldNumber row)) n = tt
no_write store own u (On (S.HeldReply row)) n = tt
no_write store own u (On S.Stuck) n = tt

either : (a b : Fate) (c : Bool) → NoWrite a → NoWrite b → NoWrite (cond c a b)
either a b true na nb = na
either a b false na nb = nb

either_on : (a b : Step) (c : Bool) → NoWrite (On a) → NoWrite (On b) → NoWrite (On (cond c a b))
either_on a b true na nb = na
either_on a b false na nb = nb

pub replied : (reply : Option Reply) → NoWrite (ends_with reply)
replied None = tt
replied (Some reply) = tt

pub loses : (turn : ℕ) → NoWrite (lost turn)
loses turn = either_on (S.LoadWord 2) S.StoreWant (turn == 1) tt tt

to_ops : (setup : Setup) (t : Try) (found : List (Option Op)) → NoWrite (ops_or_row setup t found)
to_ops setup t found =
    either_on (S.LoadAnnounced t found) (S.StoreRow t found 0) (nat_lt (length found) (seats_of setup)) tt refl

-- every step but those of a sweep, and those that write
abbrev pub IsReading : Step → Type 0
IsReading (S.Sweeps rows) = ⊥
IsReading (S.StoreRow t found i) = ⊥
IsReading (S.Exchange t found) = ⊥
IsReading step = Unit {0}

pub reads_on : (setup : Setup) (seat : ℕ) (now : SeatNow) (u : Update) (step : Step) (word : ℕ) → IsReading step →
    NoWrite (fate setup seat now u step word)
reads_on setup seat now u (S.Sweeps rows) word r = absurd r
reads_on setup seat now u (S.StoreRow t found i) word r = absurd r
reads_on setup seat now u (S.Exchange t found) word r = absurd r
reads_on setup seat now u (S.StoreOp i) word r =
    either_on (S.StoreOp (i + 1)) S.Announce (nat_lt (i + 1) SLOT_WORDS) tt tt
reads_on setup seat now u S.Announce word r = tt
reads_on setup seat now u (S.LoadWord turn) word r = tt
reads_on setup seat now u (S.LoadRow turn old words) word r =
    either_on (S.LoadRow turn old (more words word)) (S.CheckRow turn old (more words word)) _ tt tt
reads_on setup seat now u (S.CheckRow turn old words) word r =
    let t : Try = record { turn = turn; word = old; state = state_in setup (bucket_of_update setup u) words } in
    either (looked setup seat u t) (lost turn) (word == generation_in old)
    (either (reply_by seat t.state) (found_so_far setup seat u t []) (is_applied seat u t.state)
    (replied (slice_index_or t.state.replies seat None)) (to_ops setup t (with_own seat u []))) (loses turn)
reads_on setup seat now u (S.LoadAnnounced t found) word r =
    either (On (S.LoadOp t found word [])) (found_so_far setup seat u t (more found None))
    (is_due (bucket_of_update setup u) t.state (length found) word) tt
    (to_ops setup t (with_own seat u (more found None)))
reads_on setup seat now u (S.LoadOp t found announced words) word r =
    let op : Option Op = Some (op_in (length found) announced (more words word)) in
    either (On (S.LoadOp t found announced (more words word))) (found_so_far setup seat u t (more found op))
    (nat_lt (length words + 1) SLOT_WORDS) tt (to_ops setup t (with_own seat u (more found op)))
reads_on setup seat now u S.StoreWant word r = tt
reads_on setup seat now u S.StoreAsking word r = tt
reads_on setup seat now u S.HeldWord word r = tt
reads_on setup seat now u (S.TakeHold old) word r = tt
reads_on setup seat now u (S.HeldNumber row) word r =
    either_on (S.HeldReply row) S.Stuck (word == u.number) tt tt
reads_on setup seat now u (S.HeldReply row) word r = replied (reply_of_word word)
reads_on setup seat now u S.Stuck word r = tt

pub free_on : (free : List ℕ) → NoWrite (with_free free)
free_on [] = tt
free_on (r ∷ free) = tt

pub piece_on : (free : List ℕ) (rows : ℕ) (f : SweepFate) → NoWrite (piece_fate free rows f)
piece_on free rows (SweepsOn kept (S.Homes todo gone)) =
    either (On (S.Sweeps (rows - 1))) (with_free free) (nat_lt 1 rows) tt (free_on free)
piece_on free rows (SweepsOn kept (S.Seats k gone)) = tt
piece_on free rows (SweepsOn kept (S.Sees k t gone)) = tt
piece_on free rows (SweepsOn kept (S.Loads k t bucket gone)) = tt
piece_on free rows (SweepsOn kept (S.Gives k t row gone)) = tt
piece_on free rows (Swept kept gone) = free_on (free ++ rows_of gone)

pub first_on : (free : List ℕ) (sweep : Option Sweep) → NoWrite (first_fate free sweep)
first_on free None = free_on free
first_on free (Some sweep) = tt

-- the words of rows are as they were
abbrev pub NoRow : Deed → Type 0
NoRow (S.Swap (W.RowWord row i) old new) = ⊥
NoRow (S.Store (W.RowWord row i) word) = ⊥
NoRow deed = Unit {0}

stored_rows : (at : W.At) (store : W.Store) (word : ℕ) → NoRow (S.Store at word) →
    (with_word store at word).row ≡ store.row
stored_rows (W.Announced seat) store word n = refl
stored_rows (W.Want seat) store word n = refl
stored_rows (W.Hold seat) store word n = refl
stored_rows (W.OpWord seat i) store word n = refl
stored_rows (W.Bucket b) store word n = refl
stored_rows (W.RowWord row i) store word n = absurd n

pub same_rows : (deed : Deed) (store : W.Store) → NoRow deed → (store_after deed store).row ≡ store.row
same_rows S.Nothing store n = refl
same_rows (S.Load from) store n = refl
same_rows (S.Store to word) store n = stored_rows to store word n
same_rows (S.Swap (W.Announced seat) old new) store n =
    cond_both (store.announced seat == old) (with_word store (W.Announced seat) new) store
    (λ (s : W.Store). s.row ≡ store.row) (λ e. refl) (λ e. refl)
same_rows (S.Swap (W.Want seat) old new) store n =
    cond_both (store.want seat == old) (with_word store (W.Want seat) new) store
    (λ (s : W.Store). s.row ≡ store.row) (λ e. refl) (λ e. refl)
same_rows (S.Swap (W.Hold seat) old new) store n =
    cond_both (store.hold seat == old) (with_word store (W.Hold seat) new) store
    (λ (s : W.Store). s.row ≡ store.row) (λ e. refl) (λ e. refl)
same_rows (S.Swap (W.OpWord seat i) old new) store n =
    cond_both (store.op seat i == old) (with_word store (W.OpWord seat i) new) store
    (λ (s : W.Store). s.row ≡ store.row) (λ e. refl) (λ e. refl)
same_rows (S.Swap (W.Bucket b) old new) store n =
    cond_both (store.bucket b == old) (with_word store (W.Bucket b) new) store
    (λ (s : W.Store). s.row ≡ store.row) (λ e. refl) (λ e. refl)
same_rows (S.Swap (W.RowWord row i) old new) store n = absurd n

sweep_rows : (sweep : Option Sweep) → NoRow (sweep_deed sweep)
sweep_rows None = tt
sweep_rows (Some (S.Homes [] gone)) = tt
sweep_rows (Some (S.Homes (r ∷ todo) gone)) = tt
sweep_rows (Some (S.Seats k gone)) = tt
sweep_rows (Some (S.Sees k t gone)) = tt
sweep_rows (Some (S.Loads k t bucket gone)) = tt
sweep_rows (Some (S.Gives k t row gone)) = tt

-- every step but the store of a row
abbrev pub IsNoStore : Step → Type 0
IsNoStore (S.StoreRow t found i) = ⊥
IsNoStore step = Unit {0}

pub step_rows : (setup : Setup) (seat : ℕ) (now : SeatNow) (u : Update) (step : Step) → IsNoStore step →
    NoRow (deed_of setup seat now u step)
step_rows setup seat now u (S.Sweeps rows) n = sweep_rows now.sweep
step_rows setup seat now u (S.StoreOp i) n = tt
step_rows setup seat now u S.Announce n = tt
step_rows setup seat now u (S.LoadWord turn) n = tt
step_rows setup seat now u (S.LoadRow turn word words) n = tt
step_rows setup seat now u (S.CheckRow turn word words) n = tt
step_rows setup seat now u (S.LoadAnnounced t found) n = tt
step_rows setup seat now u (S.LoadOp t found announced words) n = tt
step_rows setup seat now u (S.StoreRow t found i) n = absurd n
step_rows setup seat now u (S.Exchange t found) n = tt
step_rows setup seat now u S.StoreWant n = tt
step_rows setup seat now u S.StoreAsking n = tt
step_rows setup seat now u S.HeldWord n = tt
step_rows setup seat now u (S.TakeHold word) n = tt
step_rows setup seat now u (S.HeldNumber row) n = tt
step_rows setup seat now u (S.HeldReply row) n = tt
step_rows setup seat now u S.Stuck n = tt

pub glance_rows : (setup : Setup) (seat time : ℕ) (aim : Aim) (glance : Glance) →
    NoRow (glance_deed setup seat time aim glance)
glance_rows setup seat time aim (S.GlanceWord left) = tt
glance_rows setup seat time aim (S.GlanceCount source) = tt
glance_rows setup seat time aim (S.GlanceItem source scan) = tt
glance_rows setup seat time aim (S.GlanceCheck left word kept) = tt
glance_rows setup seat time aim S.GlanceWant = tt
glance_rows setup seat time aim S.GlanceAsking = tt
glance_rows setup seat time aim S.GlanceHeld = tt
glance_rows setup seat time aim (S.GlanceTake word) = tt

-- ---- the opening

-- each row has generation 0
row_first : (plan : Plan) (row : ℕ) → (opening_store plan).row row 0 ≡ 0
unfolding opening_store
row_first plan row = cond_both (nat_lt (bucket_of_row plan row) (buckets_of plan.settings)) _ _ (λ (n : ℕ). n ≡ 0)
    (λ e. refl) (λ e. refl)

-- and so has each bucket word
mark_first : (plan : Plan) → IsPlan plan → (b : ℕ) → b < buckets_of plan.settings →
    generation_in ((opening_store plan).bucket b) ≡ 0
unfolding opening_store
mark_first plan is b less =
    ap (λ (c : Bool). generation_in (cond c (tag 0 (opening_row plan b)) 0)) (lt-ltb b (buckets_of plan.settings) less)
    ∙ generation_of_tag 0 (opening_row plan b) (row_small plan is b less)

pub opening_marks : (plan : Plan) → IsPlan plan → Marks plan (opening_world plan)
opening_marks plan is = record {
  fresh = λ b less. row_first plan (word_in (opening_world plan) b) ∙ sym (mark_first plan is b less);
  old = λ b less. (let e = mark_first plan is b less in omega (arith, e));
  writing = λ p less. subst (λ (s : SeatNow). Writes (opening_store plan) s s.stand) (sym (seat_is plan is p less)) tt;
}
