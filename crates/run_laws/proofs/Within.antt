-- Where a step is: on a word of the table, and where it stores, on one of the seat's own that is not published.
use Rattle.std.proofs.Common.{◌≡◌, ℕ, ◌<◌, ◌≤◌, List, refl, sym, ap, ◌∙◌, subst, arith}
use Rattle.step_counts.specs.declared.rows.SeatRows.{SeatRows}
use Rattle.plain_map.specs.declared.full.FullKind.TheVariants.{OpRows, BucketRows, BucketWords, DirRows}
use Rattle.word_rows.specs.declared.addresses.Address.{Address}
use Rattle.word_rows.specs.declared.addresses.Address.TheVariants.{Announcement, Done, BucketWord, OpWord, BucketRowWord, DirectoryWord}
use Rattle.table_model.specs.declared.events.Event.{Event}
use Rattle.table_model.specs.declared.events.Ask.TheVariants.{Store}
use Rattle.table_model.specs.Setup.{Setup, next_number}
use Rattle.table_model.specs.Phases.{Phase, SeeDone, StoreOp, Announce, FindRoot, FindDepth, FindEntry, LookWord, LookCount, LookItems, TryWord, TryRow, TryAnnouncement, TryOp, TryStore, TryExchange, DirRoot, DirDepth, DirEntries, DirAnnouncement, DirOp, DirWord, DirRow, DirStore, DirExchange, LastWord, LastRow, StoreDone}
use Rattle.table_model.specs.SeatStates.{Flight}
use Rattle.table_model.specs.Asks.{ask_in}
use Rattle.table_model.specs.Stores.{directory_puts}
use Rattle.table_model.specs.Worlds.{IsRun, world_after, seat_in}
use Rattle.table_model.specs.Promises.{InPhase}
use Rattle.table_model.specs.Rows.{IsFree, MayStore, StepsAreWithin, StoresAreOwn}
use Rattle.run_invariant.proofs.Numbers.{owns, next_op, next_row, next_word, next_dir}
use Rattle.run_invariant.proofs.Invariant.{Common, Local, Keeps, KeepsStand, IsOwn, put_in, op_no, row_no, word_no, dir_no, op_room, row_room, word_room, dir_room}
use Rattle.run_laws.proofs.Induction.{within, store_is}
use Rattle.run_laws.proofs.Opened.{all_holds}

-- what the induction says of a seat that is in a call
pub keeps_in : (setup : Setup) (events : List Event) (seat : ℕ) (flight : Flight) (phase : Phase)
    (run : IsRun setup events) → InPhase setup events seat flight phase →
    (let holds = all_holds setup events run in
    Keeps setup holds.common seat (seat_in (world_after setup events) seat).account.used flight (holds.locals seat)
    phase)
keeps_in setup events seat flight phase run p =
    let holds = all_holds setup events run in
    subst (KeepsStand setup holds.common seat (seat_in (world_after setup events) seat).account.used
    (holds.locals seat)) p.stand (holds.follows.seats seat p.seat_is)

-- each step is on a word of the table
pub steps_are_within : StepsAreWithin
steps_are_within setup events seat flight phase run p =
    let holds = all_holds setup events run in
    within setup seat holds.common (seat_in (world_after setup events) seat).account.used flight (holds.locals seat)
    p.seat_is holds.follows.shared phase (keeps_in setup events seat flight phase run p)

-- ---- where a seat stores

-- a number of its own that is not published is free
module _ (setup : Setup) (seat : ℕ) (used : SeatRows) where
  -- of each kind
  free_op : (j : ℕ) → used.op_rows ≤ j → j < op_room setup seat → IsFree setup seat OpRows used (op_no setup seat j)
  unfolding op_no
  free_op j from room = record {
    own = owns setup OpRows seat j room;
    free = omega (arith, from, next_op setup seat used);
  }

  free_row : (j : ℕ) → used.bucket_rows ≤ j → j < row_room setup seat →
      IsFree setup seat BucketRows used (row_no setup seat j)
  unfolding row_no
  free_row j from room = record {
    own = owns setup BucketRows seat j room;
    free = omega (arith, from, next_row setup seat used);
  }

  free_word : (j : ℕ) → used.bucket_words ≤ j → j < word_room setup seat →
      IsFree setup seat BucketWords used (word_no setup seat j)
  unfolding word_no
  free_word j from room = record {
    own = owns setup BucketWords seat j room;
    free = omega (arith, from, next_word setup seat used);
  }

  free_dir : (j : ℕ) → used.directory_rows ≤ j → j < dir_room setup seat →
      IsFree setup seat DirRows used (dir_no setup seat j)
  unfolding dir_no
  free_dir j from room = record {
    own = owns setup DirRows seat j room;
    free = omega (arith, from, next_dir setup seat used);
  }

  -- so it may store in a row or a word of its own that is not published
  own_free : (a : Address) → IsOwn setup seat used a → MayStore setup seat used a
  own_free (OpWord row i) o = subst (IsFree setup seat OpRows used) (sym o.3) (free_op o.0 o.1 o.2)
  own_free (BucketRowWord row i) o = subst (IsFree setup seat BucketRows used) (sym o.3) (free_row o.0 o.1 o.2)
  own_free (BucketWord word) o = subst (IsFree setup seat BucketWords used) (sym o.3) (free_word o.0 o.1 o.2)
  own_free (DirectoryWord row i) o = subst (IsFree setup seat DirRows used) (sym o.3) (free_dir o.0 o.1 o.2)
  own_free a o = absurd (grind (arith, o))

-- a store is to the address that is asked for
same_store : (P : Address → Type 0) (a b : Address) (v w : ℕ) → Store a v ≡ Store b w → P a → P b
same_store P a b v w e p = (let same : a ≡ b = cc in subst P same p)

module _ (setup : Setup) (seat : ℕ) (c : Common) (used : SeatRows) (flight : Flight) (local : Local) (at : Address)
    (word : ℕ) where
  -- where a store is to such an address
  own_at : (a : Address) (w : ℕ) → Store a w ≡ Store at word → IsOwn setup seat used a → MayStore setup seat used at
  own_at a w e o = same_store (MayStore setup seat used) a at w word e (own_free setup seat used a o)

  -- phase by phase
  pub store_is_own : (phase : Phase) → Keeps setup c seat used flight local phase →
      ask_in setup seat used flight phase ≡ Store at word → MayStore setup seat used at
  store_is_own (StoreOp i) k e =
      let room : used.op_rows < op_room setup seat =
      subst (λ (u : SeatRows). u.op_rows < op_room setup seat) k.begins.flies.used_is k.begins.op_room_is in
      own_at (OpWord (next_number setup seat OpRows used) i) _ e
      (used.op_rows, omega arith, room, next_op setup seat used)
  store_is_own Announce k e = same_store (MayStore setup seat used) (Announcement seat) at _ word e refl
  store_is_own (TryStore round attempt found i) k e =
      let room : used.bucket_rows < row_room setup seat =
      omega (arith, k.room.rows, k.in_round.two, ap (λ (u : SeatRows). u.bucket_rows) k.works.flies.used_is) in
      own_at (BucketRowWord (next_number setup seat BucketRows used) i) _ e
      (used.bucket_rows, omega arith, room, next_row setup seat used)
  store_is_own (DirStore round attempt found loaded i) k e =
      own_at (put_in (directory_puts setup seat used attempt found loaded) i).address _
      (sym (store_is (directory_puts setup seat used attempt found loaded) i k.short) ∙ e) (k.owns i k.short)
  store_is_own (StoreDone reply place) k e = same_store (MayStore setup seat used) (Done seat) at _ word e refl
  store_is_own SeeDone k e = cc
  store_is_own (FindRoot aim) k e = cc
  store_is_own (FindDepth aim root) k e = cc
  store_is_own (FindEntry aim root depth) k e = cc
  store_is_own (LookWord root bucket) k e = cc
  store_is_own (LookCount row) k e = cc
  store_is_own (LookItems row count words) k e = cc
  store_is_own (TryWord round turn first) k e = cc
  store_is_own (TryRow round turn first row words) k e = cc
  store_is_own (TryAnnouncement round attempt found) k e = cc
  store_is_own (TryOp round attempt found op words) k e = cc
  store_is_own (TryExchange round attempt found) k e = cc
  store_is_own (DirRoot round turn first) k e = cc
  store_is_own (DirDepth round turn first root) k e = cc
  store_is_own (DirEntries round turn first root depth words) k e = cc
  store_is_own (DirAnnouncement round attempt found) k e = cc
  store_is_own (DirOp round attempt found op words) k e = cc
  store_is_own (DirWord round attempt found loaded bucket) k e = cc
  store_is_own (DirRow round attempt found loaded bucket row words) k e = cc
  store_is_own (DirExchange round attempt found loaded) k e = cc
  store_is_own (LastWord root bucket) k e = cc
  store_is_own (LastRow row words) k e = cc
  store_is_own phase k e = absurd k

-- each store is in such a word
pub stores_are_own : StoresAreOwn
stores_are_own setup events seat word at flight phase run p e =
    let holds = all_holds setup events run in
    store_is_own setup seat holds.common (seat_in (world_after setup events) seat).account.used flight
    (holds.locals seat) at word phase (keeps_in setup events seat flight phase run p) e
