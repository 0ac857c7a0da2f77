-- What is kept beside the history of a run so that its order can be told: which call each number is, what it had
-- seen, which row a lookup looked at, what each row and each directory was made of, and the places of all these in
-- time.
use Rattle.std.proofs.Common.{◌≡◌, ℕ, ◌+◌, ◌<◌, ◌≤◌, ◌⊎◌, Bool, true, false, List, length, get_or, take, drop, Option, Some, None}
use Rattle.std.specs.Prelude.{All}
use Rattle.plain_map.specs.declared.keys.Key.{Key}
use Rattle.plain_map.specs.declared.calls.Call.{Call}
use Rattle.plain_map.specs.declared.calls.Reply.{Reply}
use Rattle.plain_map.specs.declared.records.Record.{Record}
use Rattle.plain_map.specs.Calls.{key_in, is_update}
use Rattle.plain_map.specs.History.{answered, seen_of}
use Rattle.bucket_states.specs.declared.ops.Op.{Op}
use Rattle.bucket_states.specs.States.{BucketState}
use Rattle.bucket_states.specs.Change.{change}
use Rattle.bucket_states.specs.Items.{reply_in}
use Rattle.bucket_states.specs.Laws.{Announces, applied_of, reply_at}
use Rattle.table_model.specs.Setup.{Setup, seats_of, rules_of}
use Rattle.table_model.specs.Directories.{DirectoryState, bucket_of}
use Rattle.table_model.specs.DirectoryChange.{LoadedBucket, loaded_of, change_leaves, with_leaves}
use Rattle.table_model.specs.DirectoryLaws.{CanChange}
use Rattle.table_model.specs.Leaves.{NewLeaf}
use Rattle.table_model.specs.SeatStates.{Account, Flight, Stand, Idle, InFlight}
use Rattle.table_model.specs.declared.rounds.Aim.{Aim}
use Rattle.table_model.specs.declared.rounds.Aim.TheVariants.{ForLookup}
use Rattle.table_model.specs.Phases.{Phase, SeeDone, FindRoot, FindDepth, FindEntry, LookWord, LookCount, LookItems, LastWord, LastRow, StoreDone}
use Rattle.table_model.specs.Opening.{opening_directory}
use Rattle.table_model.specs.Worlds.{first_leaves}
use Rattle.run_invariant.proofs.Invariant.{Common, Local, bits}
use Rattle.run_invariant.proofs.Change.{leaf_at}
use Rattle.closed_laws.proofs.Clock.{Frame, Clock, Lists, Ticks}
use Rattle.closed_laws.proofs.Units.{Tally, NewAt, Counts}

-- the part of a history that no store of a private word and no flag changes
pub record Past : Type 0 where
  pub dir_top : ℕ
  pub dir_at : ℕ → DirectoryState
  pub named : ℕ → Bool
  pub pre : ℕ → ℕ
  pub deep : ℕ → ℕ
  pub born : ℕ → ℕ
  pub from : ℕ → ℕ
  pub top : ℕ → ℕ
  pub row_at : ℕ → ℕ → ℕ
  pub words_at : ℕ → ℕ → List ℕ
  pub state_at : ℕ → ℕ → BucketState
  -- how many ops a seat has announced, and which
  pub ops : ℕ → ℕ
  pub op_at : ℕ → ℕ → Op

-- the past of a history
abbrev pub past_of : Common → Past
past_of c = record {
  dir_top = c.dir_top;
  dir_at = c.dir_at;
  named = c.named;
  pre = c.pre;
  deep = c.deep;
  born = c.born;
  from =
      c.from;
  top = c.top;
  row_at = c.row_at;
  words_at = c.words_at;
  state_at = c.state_at;
  ops = λ q. (c.used q).op_rows;
  op_at = c.op_at;
}

-- where a lookup looked: a bucket, and the place of the row that it loaded
pub record Look : Type 0 where
  pub bucket : ℕ
  pub at : ℕ

-- what a version was made into the next one with: the announced ops, the buckets that were loaded, and the number of
-- the first leaf
pub record Made : Type 0 where
  pub ops : List (Option Op)
  pub loaded : List LoadedBucket
  pub fresh : ℕ

-- what is kept beside it
pub record Tale : Type 0 where
  -- how many calls of a seat are answered
  pub answers : ℕ → ℕ
  -- of each seat the call with a number, and how many calls of each other seat it had seen
  pub call_at : ℕ → ℕ → Call
  pub seen : ℕ → ℕ → ℕ → ℕ
  -- where a lookup looked, and by which version it found its bucket
  pub looked : ℕ → ℕ → Option Look
  pub waits : ℕ → ℕ → Option ℕ
  -- what each row and each version was made into the next one with
  pub row_ops : ℕ → ℕ → List (Option Op)
  pub dir_made : ℕ → Made
  pub clock : Clock

-- a row of a bucket that was looked at
abbrev pub look_at : ℕ → ℕ → Look
look_at b i = record { bucket = b; at = i }

module _ (setup : Setup) (p : Past) (t : Tale) where
  -- the rows, as the clock reads them
  abbrev pub frame : Frame
  frame = record { dir_top = p.dir_top; named = p.named; born = p.born; from = p.from; top = p.top }

  -- the numbers of the rows, with their replies
  abbrev pub tally : Tally (Option Reply)
  tally = record {
    frame = frame;
    lead = λ v key. bucket_of (rules_of setup) (p.dir_at v) key;
    suits = λ b key. bits setup (p.deep b) key ≡ p.pre b;
    applied = λ b i q. applied_of (p.state_at b i) q;
    reply = λ b i q. reply_at (p.state_at b i) q;
    key = λ q m. key_in (t.call_at q m);
  }

-- a call stands after its seat's earlier ones, and after those that it had seen
abbrev pub StandsAfter : Tale → (q m s n : ℕ) → Type 0
StandsAfter t q m s n = (1 ≤ n) × (((s ≡ q) × (n < m)) ⊎ (n ≤ t.seen q m s))

module _ (setup : Setup) (p : Past) (t : Tale) where
  -- what each call had seen and looked at, as the clock reads it
  abbrev pub lists : Lists
  lists = record {
    After = StandsAfter t;
    Looked = λ q m b i. t.looked q m ≡ Some (look_at b i);
    Waits = λ q m d. t.waits q m ≡ Some d;
    InRow = NewAt (tally setup p t);
  }

  -- the op is one that the seat announced
  abbrev pub IsAnnounced : ℕ → Op → Type 0
  IsAnnounced q op = (j : ℕ) × (j < p.ops q) × (op ≡ p.op_at q j)

  -- a row is what the bucket change made of the row before it, of announced ops
  pub record RowMade (was now : BucketState) (ops : List (Option Op)) : Type 0 where
    pub long : length ops ≡ seats_of setup
    pub is : now ≡ change (rules_of setup) ops was
    pub real : (q : ℕ) (op : Op) → Announces ops q op → IsAnnounced q op

  -- a loaded bucket: some key's by that version; a frozen one is in its last row
  pub record IsLoadedAt (was : DirectoryState) (l : LoadedBucket) : Type 0 where
    pub key : Key
    pub leads : bucket_of (rules_of setup) was key ≡ l.bucket
    pub named : p.named l.bucket ≡ true
    pub deep : l.state.depth ≡ p.deep l.bucket
    pub last : l.state.frozen ≡ true → (l.state ≡ p.state_at l.bucket (p.top l.bucket))
        × (l.row ≡ p.row_at l.bucket (p.top l.bucket))

  -- the bucket of a new leaf
  pub record IsBorn (v bucket : ℕ) (leaf : NewLeaf) : Type 0 where
    pub named : p.named bucket ≡ true
    pub born : p.born bucket ≡ v + 1
    pub state : p.state_at bucket 0 ≡ leaf.bucket
    pub from : leaf.from ≡ Some (p.from bucket)

  -- the leaves of the change that made the next version
  abbrev pub leaves_of : DirectoryState → Made → List NewLeaf
  leaves_of was m = change_leaves (rules_of setup) was m.loaded m.ops

  -- a version is what the directory change made of the version before it
  pub record VersionMade (v : ℕ) (was now : DirectoryState) (m : Made) : Type 0 where
    pub can : CanChange (rules_of setup) (seats_of setup) was m.loaded m.ops
    pub real : (q : ℕ) (op : Op) → Announces m.ops q op → IsAnnounced q op
    pub is : now ≡ with_leaves m.fresh (leaves_of was m) was
    pub loads : All (IsLoadedAt was) m.loaded
    pub once : All (λ l. loaded_of m.loaded l.bucket ≡ Some l) m.loaded
    pub free : All (λ b. (b < m.fresh) ⊎ (m.fresh + length (leaves_of was m) ≤ b)) was.entries
    pub leaves : (i : ℕ) (d : NewLeaf) → i < length (leaves_of was m) →
        IsBorn v (m.fresh + i) (get_or (leaves_of was m) i d)
    pub only : (b : ℕ) → p.named b ≡ true → p.born b ≡ v + 1 →
        (i : ℕ) × (i < length (leaves_of was m)) × (b ≡ m.fresh + i)

  -- ---- what is known of all seats
  pub record Told : Type 0 where
    pub counts : Counts (tally setup p t)
    pub ticks : Ticks (frame setup p t) lists t.clock
    -- nobody has seen more than is answered
    pub seen_few : (q m s : ℕ) → t.seen q m s ≤ t.answers s
    pub seen_none : (q m s : ℕ) → seats_of setup ≤ s → t.seen q m s ≡ 0
    -- an answered call has a place
    pub placed : (s n : ℕ) → s < seats_of setup → 1 ≤ n → n ≤ t.answers s → (y : ℕ) × (t.clock.call s n ≡ Some y)
    -- an announced op is its seat's call with its number, and an applied number is that of an announced op
    pub ops : (q j : ℕ) → q < seats_of setup → j < p.ops q →
        (1 ≤ (p.op_at q j).number) × ((p.op_at q j).number ≤ t.answers q + 1)
        × (t.call_at q (p.op_at q j).number ≡ (p.op_at q j).call) × (is_update (p.op_at q j).call ≡ true)
    pub applied : (b i q : ℕ) → p.named b ≡ true → i ≤ p.top b → q < seats_of setup →
        0 < applied_of (p.state_at b i) q →
        (j : ℕ) × (j < p.ops q) × (applied_of (p.state_at b i) q ≡ (p.op_at q j).number)
    -- those that looked are lookups
    pub looks : (q m : ℕ) (l : Look) → t.looked q m ≡ Some l →
        (q < seats_of setup) × (is_update (t.call_at q m) ≡ false)
    pub rows : (b i : ℕ) → p.named b ≡ true → i < p.top b →
        RowMade (p.state_at b i) (p.state_at b (i + 1)) (t.row_ops b i)
    -- the buckets of the opening have its leaves as first rows
    pub first_leaf : (b : ℕ) → p.named b ≡ true → p.born b ≡ 0 →
        (b < length (first_leaves setup)) × (p.state_at b 0 ≡ leaf_at (first_leaves setup) b)
    pub first_dir : p.dir_at 0 ≡ opening_directory setup.shape.settings.start (first_leaves setup)
    pub versions : (v : ℕ) → v < p.dir_top → VersionMade v (p.dir_at v) (p.dir_at (v + 1)) (t.dir_made v)

  -- ---- what is known of a seat

  -- all that it announced, and all that looked or found a bucket of it, has a number up to this one
  pub record Upto (q last : ℕ) : Type 0 where
    pub ops : (j : ℕ) → j < p.ops q → (p.op_at q j).number ≤ last
    pub looks : (m : ℕ) (l : Look) → t.looked q m ≡ Some l → m ≤ last
    pub waits : (m d : ℕ) → t.waits q m ≡ Some d → m ≤ last

  -- a row has the number and the reply of an update
  pub record HasRow (q number : ℕ) (call : Call) (place : ℕ) (reply : Reply) : Type 0 where
    pub bucket : ℕ
    pub at : ℕ
    pub named : p.named bucket ≡ true
    pub inside : at ≤ p.top bucket
    pub place_is : place ≡ p.row_at bucket at
    pub suits : bits setup (p.deep bucket) (key_in call) ≡ p.pre bucket
    pub number_is : applied_of (p.state_at bucket at) q ≡ number
    pub reply_is : reply_at (p.state_at bucket at) q ≡ Some reply

  -- a row at which a lookup looked gives its reply
  pub record HasLook (q number : ℕ) (call : Call) (place : ℕ) (reply : Reply) : Type 0 where
    pub bucket : ℕ
    pub at : ℕ
    pub named : p.named bucket ≡ true
    pub inside : at ≤ p.top bucket
    pub place_is : place ≡ p.row_at bucket at
    pub suits : bits setup (p.deep bucket) (key_in call) ≡ p.pre bucket
    pub looked_is : t.looked q number ≡ Some (look_at bucket at)
    pub reply_is : reply ≡ reply_in (rules_of setup) (p.state_at bucket at).items call

  -- the reply of a call is that of its row
  pub record HasReply (q number : ℕ) (call : Call) (place : ℕ) (reply : Reply) : Type 0 where
    pub update : is_update call ≡ true → HasRow q number call place reply
    pub lookup : is_update call ≡ false → HasLook q number call place reply

  -- a record
  pub record IsRecord (q number : ℕ) (r : Record) : Type 0 where
    pub seat_is : r.seat ≡ q
    pub number_is : r.number ≡ number
    pub call_is : r.call ≡ t.call_at q number
    pub seen_is : (s : ℕ) → seen_of (answered r) s ≡ t.seen q number s
    pub reply : HasReply q number r.call r.place r.reply

  -- its records, and that nothing was seen for a later call than this one
  pub record Answers (q last : ℕ) (records : List Record) : Type 0 where
    pub many : t.answers q ≡ length records
    pub each : (i : ℕ) (d : Record) → i < length records → IsRecord q (i + 1) (get_or records i d)
    pub unseen : (m s : ℕ) → last < m → t.seen q m s ≡ 0

  -- a lookup that has not looked yet
  pub record LooksLater (q number : ℕ) (call : Call) : Type 0 where
    pub lookup : is_update call ≡ false
    pub none : t.looked q number ≡ None

  -- where it waits for its bucket word
  pub record LooksBy (q number : ℕ) (call : Call) (dir : ℕ) : Type 0 where
    pub later : LooksLater q number call
    pub waits : t.waits q number ≡ Some dir

  -- where it has loaded it
  pub record LooksAt (q number : ℕ) (call : Call) (local : Local) : Type 0 where
    pub lookup : is_update call ≡ false
    pub looked_is : t.looked q number ≡ Some (look_at local.at local.base)
    pub suits : bits setup (p.deep local.at) (key_in call) ≡ p.pre local.at

  -- what is known of a seat by what its find is for
  abbrev pub KnowsAim : (q number : ℕ) → Call → Local → Aim → Type 0
  KnowsAim q number call local ForLookup = LooksBy q number call local.dir
  KnowsAim q number call local aim = Unit {0}

  -- phase by phase
  abbrev pub Knows : (q number : ℕ) → Call → Local → Phase → Type 0
  Knows q number call local SeeDone = record { begun : (k : ℕ) × (number ≡ k + 1) × Upto q k }
  Knows q number call local (FindRoot ForLookup) = LooksLater q number call
  Knows q number call local (FindDepth aim root) = KnowsAim q number call local aim
  Knows q number call local (FindEntry aim root depth) = KnowsAim q number call local aim
  Knows q number call local (LookWord root bucket) = record {
    by : LooksBy q number call local.dir;
    old : local.dir ≤ p.dir_top;
    led : bucket_of (rules_of setup) (p.dir_at local.dir) (key_in call) ≡ bucket;
  }
  Knows q number call local (LookCount row) = LooksAt q number call local
  Knows q number call local (LookItems row count words) = record {
    looks : LooksAt q number call local;
    count_is : count ≡ get_or (p.words_at local.at local.base) 4 0;
    words_are : words ≡ take (length words) (drop 5 (p.words_at local.at local.base));
  }
  Knows q number call local (LastWord root bucket) =
      record { suits : bits setup (p.deep bucket) (key_in call) ≡ p.pre bucket }
  Knows q number call local (LastRow row words) =
      record { suits : bits setup (p.deep local.at) (key_in call) ≡ p.pre local.at }
  Knows q number call local (StoreDone reply place) = HasReply q number call place reply
  Knows q number call local phase = Unit {0}

  -- a seat in a call
  pub record Flying (q : ℕ) (account : Account) (flight : Flight) (local : Local) (phase : Phase) : Type 0 where
    pub answers : Answers q flight.number account.records
    pub upto : Upto q flight.number
    pub number_is : flight.number ≡ length account.records + 1
    pub call_is : t.call_at q flight.number ≡ flight.call
    pub seen_is : (s : ℕ) → get_or flight.seen s 0 ≡ t.seen q flight.number s
    pub knows : Knows q flight.number flight.call local phase

  -- a seat
  abbrev pub Seated : ℕ → Local → Account → Stand → Type 0
  Seated q local account Idle = record {
    answers : Answers q (length account.records) account.records;
    upto : Upto q (length account.records);
  }
  Seated q local account (InFlight flight phase) = Flying q account flight local phase
