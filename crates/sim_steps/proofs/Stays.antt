-- What holds of a seat still holds after an event of another seat.
use Rattle.std.proofs.Common.{◌≢◌, ℕ, ◌-◌, ◌<◌, ◌≤◌, List, arith}
use Rattle.sim_steps.specs.Layout.{Settings, seats_of}
use Rattle.sim_steps.specs.Program.{Phase, Idle, LoadDone, StoreOp, Announce, LoadRoot, LoadRow, LoadAnnouncement, LoadOp, StoreRow, Publish, StoreDone, Caller, applied}
use Rattle.sim_steps.specs.declared.adds.Op.{Op}
use Rattle.sim_steps.proofs.Ghost.{Common, Shared, Keeps, Moves}

module _ (l : Settings) (me : ℕ) (c d : Common) (m : Moves l me c d) (sc : Shared l c) (s : Shared l d) (q : ℕ)
    (seat : Caller) (base : ℕ) (n : q ≢ me) (h : q < seats_of l) where
  -- what the last version has of this seat is no less
  applied_q : applied (c.words_at c.top) q ≤ applied (d.words_at d.top) q
  applied_q = grind (arith, m.words c.top, s.chain.rises c.top d.top q)

  -- nor of any
  applied_all : (p : ℕ) → p < seats_of l → applied (c.words_at c.top) p ≤ applied (d.words_at d.top) p
  applied_all p k = grind (arith, m.words c.top, s.chain.rises c.top d.top p)

  -- of an idle seat
  idle : Keeps l c q seat base Idle → Keeps l d q seat base Idle
  idle k = grind (arith, m.made q n, m.number q n, applied_q)

  -- of one that loads done words
  load_done : Keeps l c q seat base LoadDone → Keeps l d q seat base LoadDone
  load_done k = grind (arith, m.made q n, m.number q n, applied_q, applied_all)

  -- that stores its op
  store_op : (i : ℕ) → Keeps l c q seat base (StoreOp i) → Keeps l d q seat base (StoreOp i)
  store_op i k = grind (arith, m.made q n, m.number q n, m.own_op q (seat.number - 1), applied_q, applied_all)

  -- that announces it
  announce : Keeps l c q seat base Announce → Keeps l d q seat base Announce
  announce k = grind (arith, m.made q n, m.number q n, m.own_op q (seat.number - 1), applied_q, applied_all)

  -- that loads the root
  load_root : (turn : ℕ) → Keeps l c q seat base (LoadRoot turn) → Keeps l d q seat base (LoadRoot turn)
  load_root turn k = grind (
    arith,
    m.made q n,
    m.number q n,
    m.since q n,
    m.calls q (seat.number - 1),
    m.seen q (seat.number - 1),
  )

  -- that loads a row
  load_row : (turn root : ℕ) (row : List ℕ) → Keeps l c q seat base (LoadRow turn root row) →
      Keeps l d q seat base (LoadRow turn root row)
  load_row turn root row k = grind (
    arith,
    m.made q n,
    m.number q n,
    m.since q n,
    m.calls q (seat.number - 1),
    m.seen q (seat.number - 1),
    m.rows base,
    m.words base,
  )

  -- that loads announcements
  load_announcement : (turn root : ℕ) (row : List ℕ) (found : List Op) →
      Keeps l c q seat base (LoadAnnouncement turn root row found) →
      Keeps l d q seat base (LoadAnnouncement turn root row found)
  load_announcement turn root row found k = grind (
    arith,
    m.made q n,
    m.number,
    m.since q n,
    m.calls,
    m.seen q (seat.number - 1),
    m.rows base,
    m.words base,
    m.late,
    m.number_up,
  )

  -- that loads an op
  load_op : (turn root : ℕ) (row : List ℕ) (found : List Op) (op : ℕ) (words : List ℕ) →
      Keeps l c q seat base (LoadOp turn root row found op words) →
      Keeps l d q seat base (LoadOp turn root row found op words)
  load_op turn root row found op words k = grind (
    arith,
    m.made q n,
    m.number,
    m.since q n,
    m.calls,
    m.seen q (seat.number - 1),
    m.rows base,
    m.words base,
    m.late,
    m.number_up,
  )

  -- that stores a row
  store_row : (turn root : ℕ) (row : List ℕ) (i : ℕ) → Keeps l c q seat base (StoreRow turn root row i) →
      Keeps l d q seat base (StoreRow turn root row i)
  store_row turn root row i k = grind (
    arith,
    m.made q n,
    m.number,
    m.since q n,
    m.calls,
    m.seen q (seat.number - 1),
    m.rows base,
    m.words base,
    m.late,
    m.number_up,
    m.own_row q seat.made,
  )

  -- that exchanges the root
  exchange : (turn root : ℕ) (row : List ℕ) → Keeps l c q seat base (Publish turn root row) →
      Keeps l d q seat base (Publish turn root row)
  exchange turn root row k = grind (
    arith,
    m.made q n,
    m.number,
    m.since q n,
    m.calls,
    m.seen q (seat.number - 1),
    m.rows base,
    m.words base,
    m.late,
    m.number_up,
    m.own_row q seat.made,
  )

  -- that stores its done word
  store_done : (count : ℕ) → Keeps l c q seat base (StoreDone count) → Keeps l d q seat base (StoreDone count)
  store_done count k = grind (
    arith,
    m.made q n,
    m.number q n,
    m.words c.top,
    m.calls q (seat.number - 1),
    m.seen q (seat.number - 1),
    applied_q,
    s.helped.real q h,
    s.chain.rises c.top d.top q,
    s.chain.replies c.top d.top q,
  )

  -- of each
  pub stays : (phase : Phase) → Keeps l c q seat base phase → Keeps l d q seat base phase
  stays Idle k = idle k
  stays LoadDone k = load_done k
  stays (StoreOp i) k = store_op i k
  stays Announce k = announce k
  stays (LoadRoot turn) k = load_root turn k
  stays (LoadRow turn root row) k = load_row turn root row k
  stays (LoadAnnouncement turn root row found) k = load_announcement turn root row found k
  stays (LoadOp turn root row found op words) k = load_op turn root row found op words k
  stays (StoreRow turn root row i) k = store_row turn root row i k
  stays (Publish turn root row) k = exchange turn root row k
  stays (StoreDone count) k = store_done count k
