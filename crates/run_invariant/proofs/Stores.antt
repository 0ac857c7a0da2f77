-- A store to a row or a word that is not published.
use Rattle.std.proofs.Common.{◌≡◌, ◌≢◌, ℕ, ◌+◌, ◌<◌, ap, ◌∙◌, arith}
use Rattle.step_counts.specs.declared.rows.SeatRows.{SeatRows}
use Rattle.word_rows.specs.declared.addresses.Address.{Address}
use Rattle.word_rows.specs.declared.addresses.Address.TheVariants.{OpWord, BucketRowWord, BucketWord, DirectoryWord}
use Rattle.word_rows.specs.BaseWords.{base_of_word}
use Rattle.word_rows.specs.Memory.{Memory, write}
use Rattle.word_rows.proofs.MemoryLemmas.{put_other, put_at_row, read-write_other}
use Rattle.table_model.specs.Setup.{Setup, IsSetup, seats_of}
use Rattle.run_invariant.proofs.Numbers.{op_no_apart, row_no_apart, word_no_apart, dir_no_apart}
use Rattle.run_invariant.proofs.Invariant.{Common, Shared, Moves, IsOwn, Rows, Directories, Descends, Calls, op_no}

-- what two seats have not published is apart
pub own_apart : (setup : Setup) (p q : ℕ) (was now : SeatRows) (a b : Address) → IsSetup setup → p < seats_of setup →
    q < seats_of setup → p ≢ q → IsOwn setup p was a → IsOwn setup q now b → a ≢ b
own_apart setup p q was now (OpWord r i) (OpWord t j) s hp hq n x y e =
    n (op_no_apart setup p q x.0 y.0 s hp hq x.2 y.2 (grind (arith, x, y, e))).0
own_apart setup p q was now (BucketRowWord r i) (BucketRowWord t j) s hp hq n x y e =
    n (row_no_apart setup p q x.0 y.0 s hp hq x.2 y.2 (grind (arith, x, y, e))).0
own_apart setup p q was now (BucketWord r) (BucketWord t) s hp hq n x y e =
    n (word_no_apart setup p q x.0 y.0 s hp hq x.2 y.2 (grind (arith, x, y, e))).0
own_apart setup p q was now (DirectoryWord r i) (DirectoryWord t j) s hp hq n x y e =
    n (dir_no_apart setup p q x.0 y.0 s hp hq x.2 y.2 (grind (arith, x, y, e))).0
own_apart setup p q was now a b s hp hq n x y e = grind (arith, x, y, e)

module _ (setup : Setup) (me : ℕ) (c : Common) (h : me < seats_of setup) (s : Shared setup c) where
  -- all that is shared, with this memory
  abbrev with : Memory → Common
  with m = record c { memory = m }

  -- the published rows and words keep what they hold
  rows_kept : (a : Address) (w : ℕ) → IsOwn setup me (c.used me) a →
      (let m = write c.memory a w in Rows setup m.bucket m.bucket_row c.named c.pre c.deep c.top c.row_at c.base_at
      c.words_at c.state_at c.used)
  rows_kept (OpWord r i) w o = s.rows
  rows_kept (DirectoryWord r i) w o = s.rows
  rows_kept (BucketRowWord r i) w o = record {
    word_is = s.rows.word_is;
    inside = s.rows.inside;
    fresh_word = s.rows.fresh_word;
    within = s.rows.within;
    fresh = s.rows.fresh;
    once = s.rows.once;
    rows_are = λ b v k n m hk. put_at_row c.memory.bucket_row r i w (c.row_at b v) k
        (λ e. s.rows.fresh b v me o.0 n m h o.1 o.2 (e ∙ o.3)) ∙ s.rows.rows_are b v k n m hk;
    sound = s.rows.sound;
    open_ = s.rows.open_;
    rises = s.rows.rises;
  }
  rows_kept (BucketWord r) w o = record {
    word_is = λ b n. put_other c.memory.bucket r w b (λ e. s.rows.fresh_word b me o.0 n h o.1 o.2 (e ∙ o.3))
        ∙ s.rows.word_is b n;
    inside = s.rows.inside;
    fresh_word = s.rows.fresh_word;
    within = s.rows.within;
    fresh = s.rows.fresh;
    once = s.rows.once;
    rows_are = s.rows.rows_are;
    sound = s.rows.sound;
    open_ = s.rows.open_;
    rises = s.rows.rises;
  }
  rows_kept a w o = absurd (grind (arith, o))

  -- the published directory rows keep what they hold
  directories_kept : (a : Address) (w : ℕ) → IsOwn setup me (c.used me) a →
      (let m = write c.memory a w in Directories setup m.root m.directory c.dir_top c.dir_row c.dir_at c.used)
  directories_kept (OpWord r i) w o = s.directories
  directories_kept (BucketRowWord r i) w o = s.directories
  directories_kept (BucketWord r) w o = s.directories
  directories_kept (DirectoryWord r i) w o = record {
    root_is = s.directories.root_is;
    within = s.directories.within;
    fresh = s.directories.fresh;
    once = s.directories.once;
    shallow = s.directories.shallow;
    depth_is = λ v n. put_at_row c.memory.directory r i w (c.dir_row v) 0
        (λ e. s.directories.fresh v me o.0 n h o.1 o.2 (e ∙ o.3)) ∙ s.directories.depth_is v n;
    long = s.directories.long;
    entries_are = λ v k n hk. put_at_row c.memory.directory r i w (c.dir_row v) (2 + k)
        (λ e. s.directories.fresh v me o.0 n h o.1 o.2 (e ∙ o.3)) ∙ s.directories.entries_are v k n hk;
  }
  directories_kept a w o = absurd (grind (arith, o))

  -- and from which row each was made
  pub store_descends : (a : Address) (w : ℕ) → IsOwn setup me (c.used me) a → Descends setup c →
      Descends setup (with (write c.memory a w))
  store_descends (OpWord r i) w o t = t
  store_descends (BucketRowWord r i) w o t = t
  store_descends (BucketWord r) w o t = t
  store_descends (DirectoryWord r i) w o t = record {
    dir_says = λ v n. ap base_of_word (put_at_row c.memory.directory r i w (c.dir_row v) 1
        (λ e. s.directories.fresh v me o.0 n h o.1 o.2 (e ∙ o.3))) ∙ t.dir_says v n;
    dir_first = t.dir_first;
    dir_bases = t.dir_bases;
    bases = t.bases;
    opening = t.opening;
    starts = t.starts;
    born_within = t.born_within;
    entries = t.entries;
    present = t.present;
    newcomers = t.newcomers;
    there = t.there;
    comes = t.comes;
    stood = t.stood;
    gone = t.gone;
    parent_leads = t.parent_leads;
  }
  store_descends a w o t = absurd (grind (arith, o))

  -- the announced op rows keep what they hold
  calls_kept : (a : Address) (w : ℕ) → IsOwn setup me (c.used me) a →
      (let m = write c.memory a w in Calls setup m.announced m.op c.used c.op_at c.op_words)
  calls_kept (DirectoryWord r i) w o = s.calls
  calls_kept (BucketRowWord r i) w o = s.calls
  calls_kept (BucketWord r) w o = s.calls
  calls_kept (OpWord r i) w o = record {
    none = s.calls.none;
    posted = s.calls.posted;
    ops_are = λ p j k hp hj hk. put_at_row c.memory.op r i w (op_no setup p j) k
        (λ e. other p j hp hj (op_no_apart setup p me j o.0 s.opened hp h (omega (arith, hj, s.calls.few p hp)) o.2
        (e ∙ o.3))) ∙ s.calls.ops_are p j k hp hj hk;
    sound = s.calls.sound;
    few = s.calls.few;
  }
    where
      other : (p j : ℕ) → p < seats_of setup → j < (c.used p).op_rows → (p ≡ me) × (j ≡ o.0) → ⊥
      other p j hp hj e = omega (arith, hj, o.1, e.1, ap (λ q. (c.used q).op_rows) e.0)
  calls_kept a w o = absurd (grind (arith, o))

  -- so all that is shared holds as before
  pub store_shared : (a : Address) (w : ℕ) → IsOwn setup me (c.used me) a → Shared setup (with (write c.memory a w))
  store_shared a w o = record {
    opened = s.opened;
    rows = rows_kept a w o;
    directories = directories_kept a w o;
    leads = s.leads;
    calls = calls_kept a w o;
    helped = s.helped;
    carried = s.carried;
  }

  -- and for another seat nothing has changed
  pub store_moves : (a : Address) (w : ℕ) → IsOwn setup me (c.used me) a → Moves setup me c (with (write c.memory a w))
  store_moves a w o = record {
    dir_up = moves_same.dir_up;
    dirs = moves_same.dirs;
    named_up = moves_same.named_up;
    rows = moves_same.rows;
    last_up = moves_same.last_up;
    now_up = moves_same.now_up;
    frozen = moves_same.frozen;
    left = moves_same.left;
    used = moves_same.used;
    ops_up = moves_same.ops_up;
    calls = moves_same.calls;
    roots = moves_same.roots;
    tries = moves_same.tries;
    dir_tries = moves_same.dir_tries;
    late = moves_same.late;
    late_root = moves_same.late_root;
    late_dir = moves_same.late_dir;
    own = λ q b n hq x. read-write_other c.memory a b w (own_apart setup q me (c.used q) (c.used me) b a s.opened hq h
        n x o);
  }
    where
      moves_same : Moves setup me c c
      moves_same = grind arith
