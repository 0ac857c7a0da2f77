-- What is found is what a table holds there.
use Rattle.std.proofs.Common.{◌≡◌, ℕ, ◌^◌, ◌<◌, ◌≤◌, true, List, length, get_or, take, ap, ◌∙◌, arith}
use Rattle.step_counts.specs.declared.TheConstants.{OP_WORDS}
use Rattle.step_counts.specs.declared.rows.SeatRows.{SeatRows}
use Rattle.table_model.specs.Setup.{Setup, seats_of}
use Rattle.table_model.specs.Phases.{Phase, SeeDone, StoreOp, Announce, FindRoot, FindDepth, FindEntry, LookWord, LookCount, LookItems, TryWord, TryRow, TryAnnouncement, TryOp, TryStore, TryExchange, DirRoot, DirDepth, DirEntries, DirAnnouncement, DirOp, DirWord, DirRow, DirStore, DirExchange, LastWord, LastRow, StoreDone}
use Rattle.table_model.specs.SeatStates.{Flight}
use Rattle.table_model.specs.Asks.{ask_in}
use Rattle.table_model.specs.Goes.{more}
use Rattle.run_invariant.proofs.Loads.{width_is, four_within}
use Rattle.run_invariant.proofs.Invariant.{Common, Local, Shared, Keeps, width, op_no}
use Rattle.run_laws.proofs.Induction.{found_in}
use Rattle.table_model.specs.Fits.{Finds, IsRowSoFar, IsOpSoFar}
use Rattle.list_laws.proofs.Cuts.{seen_more, seen_all}

-- the done words are below the limit
abbrev pub Dones : Setup → Common → Type 0
Dones setup c = (p : ℕ) → p < seats_of setup → c.memory.done p < setup.shape.limit

module _ (setup : Setup) (me : ℕ) (c : Common) (used : SeatRows) (flight : Flight) (local : Local)
    (h : me < seats_of setup) (s : Shared setup c) where
  -- a depth, a count, a bucket row and an op row that are loaded are what a table holds
  pub depth_few : (v root : ℕ) → v ≤ c.dir_top → root ≡ c.dir_row v →
      c.memory.directory root 0 ≤ setup.shape.settings.depth
  depth_few v root o e =
      omega (arith, ap (λ r. c.memory.directory r 0) e, s.directories.depth_is v o, s.directories.shallow v o)

  pub count_few : (b i row : ℕ) → c.named b ≡ true → i ≤ c.top b → row ≡ c.row_at b i →
      c.memory.bucket_row row 4 ≤ setup.shape.settings.items
  count_few b i row n m e = omega (
    arith,
    ap (λ r. c.memory.bucket_row r 4) e,
    s.rows.rows_are b i 4 n m (four_within setup),
    (s.rows.sound b i n m).count,
  )

  row_so_far : (b i row : ℕ) (words : List ℕ) → c.named b ≡ true → i ≤ c.top b → row ≡ c.row_at b i →
      length words < width setup → words ≡ take (length words) (c.words_at b i) →
      IsRowSoFar setup (more words (c.memory.bucket_row row (length words)))
  row_so_far b i row words n m e w r full =
      let sound = s.rows.sound b i n m in
      let loads : c.memory.bucket_row row (length words) ≡ get_or (c.words_at b i) (length words) 0 =
      ap (λ r. c.memory.bucket_row r (length words)) e ∙ s.rows.rows_are b i (length words) n m w in
      let read = seen_more (c.words_at b i) words (c.memory.bucket_row row (length words))
      (omega (arith, w, sound.long)) r loads in (
        _,
        (
          sound.spells.0,
          seen_all (c.words_at b i) (more words (c.memory.bucket_row row (length words)))
              (omega (arith, full, sound.long, width_is setup)) read ∙ sound.spells.1,
        ),
      )

  op_so_far : (p j op : ℕ) (words : List ℕ) → p < seats_of setup → j < (c.used p).op_rows → op ≡ op_no setup p j →
      length words < OP_WORDS → words ≡ take (length words) (c.op_words p j) →
      IsOpSoFar (more words (c.memory.op op (length words)))
  op_so_far p j op words hp hj e w r full =
      let sound = s.calls.sound p j hp hj in
      let loads : c.memory.op op (length words) ≡ get_or (c.op_words p j) (length words) 0 =
      ap (λ r. c.memory.op r (length words)) e ∙ s.calls.ops_are p j (length words) hp hj w in
      let read =
      seen_more (c.op_words p j) words (c.memory.op op (length words)) (omega (arith, w, sound.long)) r loads in (
        _,
        (
          sound.spells.0,
          seen_all (c.op_words p j) (more words (c.memory.op op (length words)))
              (omega (arith, full, sound.long)) read ∙ sound.spells.1,
        ),
      )

  -- in every phase
  pub finds : Dones setup c → (phase : Phase) → Keeps setup c me used flight local phase →
      Finds setup phase (found_in (ask_in setup me used flight phase) c.memory)
  finds d SeeDone k = d (length flight.seen) k.short
  finds d (StoreOp i) k = tt
  finds d Announce k = tt
  finds d (FindRoot aim) k = tt
  finds d (FindDepth aim root) k = depth_few local.dir root k.finds.old k.finds.root_is
  finds d (FindEntry aim root depth) k = tt
  finds d (LookWord root bucket) k = tt
  finds d (LookCount row) k = count_few local.at local.base row k.there k.old k.row_is
  finds d (LookItems row count words) k = tt
  finds d (TryWord round turn first) k = tt
  finds d (TryRow round turn first row words) k =
      row_so_far round.bucket local.base row words k.in_round.there k.looks.old k.looks.row_is k.short k.words_are
  finds d (TryAnnouncement round attempt found) k = tt
  finds d (TryOp round attempt found op words) k =
      op_so_far (length found) k.reads.before op words k.short k.reads.is_announced k.reads.op_is k.short_op
      k.reads.words_are
  finds d (TryStore round attempt found i) k = tt
  finds d (TryExchange round attempt found) k = tt
  finds d (DirRoot round turn first) k = tt
  finds d (DirDepth round turn first root) k = depth_few local.root root k.looks.old k.looks.row_is
  finds d (DirEntries round turn first root depth words) k = tt
  finds d (DirAnnouncement round attempt found) k = tt
  finds d (DirOp round attempt found op words) k =
      op_so_far (length found) k.reads.before op words k.short k.reads.is_announced k.reads.op_is k.short_op
      k.reads.words_are
  finds d (DirWord round attempt found loaded bucket) k = tt
  finds d (DirRow round attempt found loaded bucket row words) k =
      row_so_far bucket local.base row words k.sees.there k.sees.old k.row_is k.short k.words_are
  finds d (DirStore round attempt found loaded i) k = tt
  finds d (DirExchange round attempt found loaded) k = tt
  finds d (LastWord root bucket) k = tt
  finds d (LastRow row words) k = row_so_far local.at local.base row words k.there k.old k.row_is k.short k.words_are
  finds d (StoreDone reply at) k = tt
  finds d phase k = absurd k
