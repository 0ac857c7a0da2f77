-- Done words have 32 bits, and a seat publishes no more than its ranges have: kept by every step.
use Rattle.std.proofs.Common.{◌≡◌, ℕ, ◌+◌, ◌^◌, ◌<◌, ◌≤◌, Bool, true, false, cond, eqb, List, length, inl, inr, refl, sym, subst, arith}
use Rattle.std.specs.Prelude.{Option, Some, None}
use Rattle.std.proofs.lemmas.Bool.{cases_eq}
use Rattle.step_counts.specs.declared.rows.SeatRows.{SeatRows}
use Rattle.word_rows.specs.declared.addresses.Address.{Address}
use Rattle.word_rows.specs.declared.addresses.Address.TheVariants.{Root, Announcement, Done, BucketWord, OpWord, BucketRowWord, DirectoryWord}
use Rattle.word_rows.specs.Memory.{Memory, write, put}
use Rattle.word_rows.proofs.MemoryLemmas.{put_same, put_other}
use Rattle.bucket_states.specs.declared.ops.Op.{Op}
use Rattle.table_model.specs.Setup.{Setup, seats_of}
use Rattle.table_model.specs.declared.rounds.Aim.TheVariants.{ForLookup, ForFirstRound, ForSecondRound, ForLastLook}
use Rattle.table_model.specs.declared.rounds.Round.{Round}
use Rattle.table_model.specs.DirectoryChange.{LoadedBucket}
use Rattle.table_model.specs.Phases.{BucketTry, DirectoryTry, Phase, SeeDone, StoreOp, Announce, FindRoot, FindDepth, FindEntry, LookWord, LookCount, LookItems, TryWord, TryRow, TryAnnouncement, TryOp, TryStore, TryExchange, DirRoot, DirDepth, DirEntries, DirAnnouncement, DirOp, DirWord, DirRow, DirStore, DirExchange, LastWord, LastRow, StoreDone}
use Rattle.table_model.specs.Stores.{made_leaves, directory_puts}
use Rattle.table_model.specs.SeatStates.{Flight}
use Rattle.table_model.specs.Goes.{with_directory}
use Rattle.run_invariant.proofs.Change.{Changes}
use Rattle.run_invariant.proofs.Events.{published}
use Rattle.run_laws.proofs.Won.{grown_by}
use Rattle.run_invariant.proofs.Invariant.{put_in, Common, Local, Shared, Keeps, IsOwn, most_leaves, row_room, word_room, dir_room}
use Rattle.run_laws.proofs.Induction.{common_after}
use Rattle.bound_laws.proofs.Found.{Dones}

-- a seat's ranges suffice for what it has published (of op rows this is in Calls)
pub record FewRows (setup : Setup) (p : ℕ) (used : SeatRows) : Type 0 where
  pub rows : used.bucket_rows ≤ row_room setup p
  pub words : used.bucket_words ≤ word_room setup p
  pub dirs : used.directory_rows ≤ dir_room setup p

-- each seat has published no more than its ranges hold
abbrev pub Fews : Setup → Common → Type 0
Fews setup c = (p : ℕ) → p < seats_of setup → FewRows setup p (c.used p)

-- a store of its own is to no done word
own_done : (setup : Setup) (me : ℕ) (used : SeatRows) (a : Address) (m : Memory) (w : ℕ) → IsOwn setup me used a →
    (write m a w).done ≡ m.done
own_done setup me used (OpWord row i) m w o = refl
own_done setup me used (BucketRowWord row i) m w o = refl
own_done setup me used (BucketWord bucket) m w o = refl
own_done setup me used (DirectoryWord row i) m w o = refl
own_done setup me used Root m w o = refl
own_done setup me used (Announcement p) m w o = refl
own_done setup me used (Done p) m w o = absurd o

module _ (changes : (setup : Setup) → Changes setup) (setup : Setup) (me : ℕ) (c : Common) (used : SeatRows)
    (flight : Flight) (local : Local) (h : me < seats_of setup) (s : Shared setup c) where
  -- stores and exchanges leave the done words
  done_put : (n : ℕ) → n < setup.shape.limit → Dones setup c → (p : ℕ) → p < seats_of setup →
      put c.memory.done me n p < setup.shape.limit
  done_put n few d p hp = elim (cases_eq p me) [
    | inl e ↦ subst (λ q. put c.memory.done me n q < setup.shape.limit) (sym e)
        (subst (λ x. x < setup.shape.limit) (sym (put_same c.memory.done me n)) few)
    | inr o ↦ subst (λ x. x < setup.shape.limit) (sym (put_other c.memory.done me n p o)) (d p hp)
  ]

  done_exchange : (b : ℕ) (attempt : BucketTry) (found : List (Option Op)) (e : Bool) → Dones setup c →
      Dones setup (cond e (published setup me b attempt found c) c)
  done_exchange b attempt found true d = d
  done_exchange b attempt found false d = d

  done_root : (attempt : DirectoryTry) (found : List (Option Op)) (loaded : List LoadedBucket) (e : Bool) →
      Dones setup c → Dones setup (cond e (grown_by setup me used attempt found loaded c) c)
  done_root attempt found loaded true d = d
  done_root attempt found loaded false d = d

  -- every done word is small
  pub dones : (phase : Phase) → Keeps setup c me used flight local phase → Dones setup c →
      Dones setup (common_after setup me used flight phase c)
  dones SeeDone k d = d
  dones (StoreOp i) k d = d
  dones Announce k d = d
  dones (FindRoot ForLookup) k d = d
  dones (FindRoot ForFirstRound) k d = d
  dones (FindRoot (ForSecondRound first)) k d = d
  dones (FindRoot ForLastLook) k d = d
  dones (FindDepth aim root) k d = d
  dones (FindEntry aim root depth) k d = d
  dones (LookWord root bucket) k d = d
  dones (LookCount row) k d = d
  dones (LookItems row count words) k d = d
  dones (TryWord round turn None) k d = d
  dones (TryWord round turn (Some first)) k d = d
  dones (TryRow round turn first row words) k d = d
  dones (TryAnnouncement round attempt found) k d = d
  dones (TryOp round attempt found op words) k d = d
  dones (TryStore round attempt found i) k d = d
  dones (TryExchange round attempt found) k d =
      done_exchange round.bucket attempt found (eqb (c.memory.bucket round.bucket) attempt.row) d
  dones (DirRoot round turn None) k d = d
  dones (DirRoot round turn (Some first)) k d = d
  dones (DirDepth round turn first root) k d = d
  dones (DirEntries round turn first root depth words) k d = d
  dones (DirAnnouncement round attempt found) k d = d
  dones (DirOp round attempt found op words) k d = d
  dones (DirWord round attempt found loaded bucket) k d = d
  dones (DirRow round attempt found loaded bucket row words) k d = d
  dones (DirStore round attempt found loaded i) k d =
      subst (λ (f : ℕ → ℕ). (p : ℕ) → p < seats_of setup → f p < setup.shape.limit)
      (sym (own_done setup me used (put_in (directory_puts setup me used attempt found loaded) i).address c.memory
      (put_in (directory_puts setup me used attempt found loaded) i).word (k.owns i k.short))) d
  dones (DirExchange round attempt found loaded) k d = done_root attempt found loaded (eqb c.memory.root attempt.root) d
  dones (LastWord root bucket) k d = d
  dones (LastRow row words) k d = d
  dones (StoreDone reply at) k d = done_put flight.number k.few d
  dones phase k d = absurd k

  -- what a seat has published stays within its ranges
  few_put : (x : SeatRows) → FewRows setup me x → Fews setup c → (p : ℕ) → p < seats_of setup →
      FewRows setup p (put c.used me x p)
  few_put x few d p hp = elim (cases_eq p me) [
    | inl e ↦ subst (λ q. FewRows setup q (put c.used me x q)) (sym e)
        (subst (FewRows setup me) (sym (put_same c.used me x)) few)
    | inr o ↦ subst (FewRows setup p) (sym (put_other c.used me x p o)) (d p hp)
  ]

  few_exchange : (round : Round) (attempt : BucketTry) (found : List (Option Op)) (e : Bool) →
      Keeps setup c me used flight local (TryExchange round attempt found) → Fews setup c →
      Fews setup (cond e (published setup me round.bucket attempt found c) c)
  few_exchange round attempt found true k d = few_put (record (c.used me) { bucket_rows = (c.used me).bucket_rows + 1 })
      (record { rows = omega (arith, k.room.rows, k.in_round.two); words = (d me h).words; dirs = (d me h).dirs }) d
  few_exchange round attempt found false k d = d

  few_root : (round : Round) (attempt : DirectoryTry) (found : List (Option Op)) (loaded : List LoadedBucket)
      (e : Bool) → Keeps setup c me used flight local (DirExchange round attempt found loaded) → Fews setup c →
      Fews setup (cond e (grown_by setup me used attempt found loaded c) c)
  few_root round attempt found loaded true k d =
      let few : length (made_leaves setup attempt found loaded) ≤ most_leaves setup =
      (changes setup).few c me local.dir local.root round.bucket flight.call attempt found loaded s
      (record { opens = k.opens; all = k.all; entries = k.entries; loads = k.loads; whole = k.whole }) in
      few_put (with_directory (c.used me) (length (made_leaves setup attempt found loaded)))
      (record {
        rows = omega (arith, few, k.room.rows, k.in_round.two);
        words = omega (arith, few, k.room.words);
        dirs = omega (arith, k.room.dirs);
      }) d
  few_root round attempt found loaded false k d = d

  -- in every phase
  pub fews : (phase : Phase) → Keeps setup c me used flight local phase → Fews setup c →
      Fews setup (common_after setup me used flight phase c)
  fews SeeDone k d = d
  fews (StoreOp i) k d = d
  fews Announce k d = few_put (record (c.used me) { op_rows = (c.used me).op_rows + 1 })
      (record { rows = (d me h).rows; words = (d me h).words; dirs = (d me h).dirs }) d
  fews (FindRoot ForLookup) k d = d
  fews (FindRoot ForFirstRound) k d = d
  fews (FindRoot (ForSecondRound first)) k d = d
  fews (FindRoot ForLastLook) k d = d
  fews (FindDepth aim root) k d = d
  fews (FindEntry aim root depth) k d = d
  fews (LookWord root bucket) k d = d
  fews (LookCount row) k d = d
  fews (LookItems row count words) k d = d
  fews (TryWord round turn None) k d = d
  fews (TryWord round turn (Some first)) k d = d
  fews (TryRow round turn first row words) k d = d
  fews (TryAnnouncement round attempt found) k d = d
  fews (TryOp round attempt found op words) k d = d
  fews (TryStore round attempt found i) k d = d
  fews (TryExchange round attempt found) k d =
      few_exchange round attempt found (eqb (c.memory.bucket round.bucket) attempt.row) k d
  fews (DirRoot round turn None) k d = d
  fews (DirRoot round turn (Some first)) k d = d
  fews (DirDepth round turn first root) k d = d
  fews (DirEntries round turn first root depth words) k d = d
  fews (DirAnnouncement round attempt found) k d = d
  fews (DirOp round attempt found op words) k d = d
  fews (DirWord round attempt found loaded bucket) k d = d
  fews (DirRow round attempt found loaded bucket row words) k d = d
  fews (DirStore round attempt found loaded i) k d = d
  fews (DirExchange round attempt found loaded) k d =
      few_root round attempt found loaded (eqb c.memory.root attempt.root) k d
  fews (LastWord root bucket) k d = d
  fews (LastRow row words) k d = d
  fews (StoreDone reply at) k d = d
  fews phase k d = absurd k
