-- What holds of a seat at every moment, phase by phase; and what one event of a seat may change for the others.
use Rattle.std.proofs.Common.{◌≡◌, ◌≢◌, ℕ, ◌+◌, ◌-◌, ◌*◌, ◌^◌, ◌<◌, ◌≤◌, ◌⊎◌, true, false, List, [], ◌∷◌, length, get_or, take}
use Rattle.std.specs.Prelude.{Option, Some, None, All}
use Rattle.std.specs.List.{list_any}
use Rattle.step_counts.specs.declared.TheConstants.{OP_WORDS, ITEM_WORDS}
use Rattle.step_counts.specs.declared.rows.SeatRows.{SeatRows}
use Rattle.plain_map.specs.declared.keys.Key.{Key}
use Rattle.plain_map.specs.Calls.{key_in, is_update}
use Rattle.word_rows.specs.declared.addresses.Address.TheVariants.{Root, BucketWord, OpWord, BucketRowWord, DirectoryWord}
use Rattle.word_rows.specs.declared.addresses.Address.{Address}
use Rattle.word_rows.specs.Places.{IsAddress}
use Rattle.word_rows.specs.OpWords.{words_of_op}
use Rattle.bucket_states.specs.declared.ops.Op.{Op}
use Rattle.bucket_states.specs.Laws.{applied_of}
use Rattle.bucket_states.specs.Values.{IsUpdate}
use Rattle.table_model.specs.Setup.{Setup, seats_of, rules_of}
use Rattle.table_model.specs.declared.rounds.Aim.{Aim}
use Rattle.table_model.specs.declared.rounds.Aim.TheVariants.{ForLookup, ForFirstRound, ForSecondRound, ForLastLook}
use Rattle.table_model.specs.declared.rounds.Round.{Round}
use Rattle.table_model.specs.Phases.{DirectoryTry, DirRoot, DirDepth, DirEntries, DirAnnouncement, DirOp, DirWord, DirRow, DirStore, DirExchange, LastWord, LastRow, BucketTry, Phase, SeeDone, StoreOp, Announce, FindRoot, FindDepth, FindEntry, LookWord, LookCount, LookItems, TryWord, TryRow, TryAnnouncement, TryOp, TryStore, TryExchange, StoreDone}
use Rattle.table_model.specs.SeatStates.{Flight, Stand, Idle, InFlight, SeatState}
use Rattle.table_model.specs.DirectoryChange.{LoadedBucket, is_bucket, next_bucket}
use Rattle.table_model.specs.declared.events.Put.{Put}
use Rattle.table_model.specs.Stores.{bucket_words, made_bucket, directory_puts}
use Rattle.word_rows.specs.Memory.{read}
use Rattle.plain_map.specs.declared.calls.Call.{Call}
unfoldable pub use Rattle.run_invariant.proofs.History.{op_no, row_no, word_no, dir_no, width, most_leaves}
pub use Rattle.run_invariant.proofs.History.{op_room, row_room, word_room, dir_room, bits, Common, op_now, lead, last, Line, line, Local}
pub use Rattle.run_invariant.proofs.Shared.{IsRow, Rows, Replaces, Stands, Directories, Leads, Names, Comes, Descent, IsOpRow, Calls, HasOp, Helped, Carried, Shared, Descends}

-- ---- what holds of a seat

-- it has what it published
pub record Rests (setup : Setup) (c : Common) (me : ℕ) (used : SeatRows) : Type 0 where
  pub used_is : c.used me ≡ used

-- it is in a call
pub record Flies (setup : Setup) (c : Common) (me : ℕ) (used : SeatRows) (number : ℕ) : Type 0 where
  pub used_is : c.used me ≡ used
  pub some : 1 ≤ number
  pub few : number < setup.shape.limit

-- of its ranges there is left what an update needs that has published so many bucket rows
pub record Room (setup : Setup) (c : Common) (me spent : ℕ) : Type 0 where
  pub rows : (c.used me).bucket_rows + 2 + most_leaves setup ≤ row_room setup me + spent
  pub words : (c.used me).bucket_words + most_leaves setup ≤ word_room setup me
  pub dirs : (c.used me).directory_rows < dir_room setup me

-- it is in an update, which it has not yet announced
pub record Begins (setup : Setup) (c : Common) (me : ℕ) (used : SeatRows) (number : ℕ) (call : Call) : Type 0 where
  pub flies : Flies setup c me used number
  pub update : IsUpdate call
  pub op_room_is : (c.used me).op_rows < op_room setup me
  pub room : Room setup c me 0

-- it has announced its update
pub record Works (setup : Setup) (c : Common) (me : ℕ) (used : SeatRows) (number : ℕ) (call : Call) : Type 0 where
  pub flies : Flies setup c me used number
  pub announced : 0 < (c.used me).op_rows
  pub op_is : c.op_at me ((c.used me).op_rows - 1) ≡ record { seat = me; number = number; call = call }

-- it has found a bucket once
pub record Roots (setup : Setup) (c : Common) (me first : ℕ) : Type 0 where
  pub rooted : c.rooted me ≡ true
  pub first_is : first ≡ c.dir_row (c.first_dir me)

-- the bucket of its round: a directory from the first on leads to it
pub record InRound (setup : Setup) (c : Common) (me number : ℕ) (call : Call) (dir : ℕ) (round : Round) : Type 0 where
  pub roots : Roots setup c me round.first
  pub one : 1 ≤ round.turn
  pub two : round.turn ≤ 2
  pub old : dir ≤ c.dir_top
  pub from : c.first_dir me ≤ dir
  pub led : lead setup c dir (key_in call) ≡ round.bucket
  pub there : c.named round.bucket ≡ true
  pub for_it : bits setup (c.deep round.bucket) (key_in call) ≡ c.pre round.bucket
  pub same : round.turn ≡ 1 → dir ≡ c.first_dir me
  pub second : round.turn ≡ 2 → (number ≤ applied_of (last c round.bucket) me)
      ⊎ (round.bucket ≢ lead setup c (c.first_dir me) (key_in call))

-- its bucket tries have begun
pub record Tries (setup : Setup) (c : Common) (me bucket first : ℕ) : Type 0 where
  pub tried : c.tried me ≡ true
  pub tried_at : c.tried_at me ≡ bucket
  pub first_is : first ≡ c.row_at bucket (c.since me)

-- it has loaded the bucket word
pub record Looks (setup : Setup) (c : Common) (me bucket base turn first row : ℕ) : Type 0 where
  pub tries : Tries setup c me bucket first
  pub one : 1 ≤ turn
  pub most : turn ≤ 3
  pub after : c.since me + turn ≤ base + 1
  pub old : base ≤ c.top bucket
  pub row_is : row ≡ c.row_at bucket base

-- it has loaded the row, which is open, and does not have the op
pub record Opens (setup : Setup) (c : Common) (me number bucket base : ℕ) (attempt : BucketTry) : Type 0 where
  pub looks : Looks setup c me bucket base attempt.turn attempt.first attempt.row
  pub two : attempt.turn ≤ 2
  pub state_is : attempt.state ≡ c.state_at bucket base
  pub open_ : attempt.state.frozen ≡ false

-- what it has found of seat p: an announced op, and its own or the one that p tries, where p's tries began before that
-- row
pub record Found (setup : Setup) (c : Common) (me bucket base p : ℕ) (op : Option Op) : Type 0 where
  pub real : (op ≡ None) ⊎ ((j : ℕ) × (j < (c.used p).op_rows) × (op ≡ Some (c.op_at p j)))
  pub own : p ≡ me → op ≡ Some (c.op_at p ((c.used p).op_rows - 1))
  pub late : c.tried p ≡ true → c.tried_at p ≡ bucket → c.since p < base →
      op ≡ Some (c.op_at p ((c.used p).op_rows - 1))

abbrev pub AllFound : Setup → Common → ℕ → ℕ → ℕ → List (Option Op) → Type 0
AllFound setup c me bucket base found =
    (p : ℕ) → p < length found → Found setup c me bucket base p (get_or found p None)

-- the op row of seat p that it loads
pub record Reads (setup : Setup) (c : Common) (me bucket base p op : ℕ) (words : List ℕ) : Type 0 where
  pub before : ℕ
  pub is_announced : before < (c.used p).op_rows
  pub op_is : op ≡ op_no setup p before
  pub words_are : words ≡ take (length words) (c.op_words p before)
  pub own : p ≡ me → (c.used p).op_rows ≡ before + 1
  pub late : c.tried p ≡ true → c.tried_at p ≡ bucket → c.since p < base → (c.used p).op_rows ≡ before + 1

-- the words of the row that it makes
unfoldable pub made_words : Setup → BucketTry → List (Option Op) → List ℕ
made_words setup attempt found = bucket_words setup (Some attempt.row) (made_bucket setup attempt found)

-- the words of an update's op
unfoldable pub op_words_of : (number : ℕ) → Call → List ℕ
op_words_of number call = words_of_op (record { number = number; call = call })

-- one of the stores of a directory try, by its place in the list
abbrev pub put_in : List Put → ℕ → Put
put_in puts i = get_or puts i (record { address = Root; word = 0 })

abbrev pub OpStored : Setup → Common → ℕ → (number : ℕ) → Call → ℕ → Type 0
OpStored setup c me number call i =
    (j : ℕ) → j < i → c.memory.op (op_no setup me (c.used me).op_rows) j ≡ get_or (op_words_of number call) j 0

abbrev pub RowStored : Setup → Common → ℕ → BucketTry → List (Option Op) → ℕ → Type 0
RowStored setup c me attempt found i =
    (j : ℕ) → j < i → c.memory.bucket_row (row_no setup me (c.used me).bucket_rows) j ≡ get_or
    (made_words setup attempt found) j 0

-- the directory row that it loaded
pub record Finds (setup : Setup) (c : Common) (dir root : ℕ) : Type 0 where
  pub old : dir ≤ c.dir_top
  pub root_is : root ≡ c.dir_row dir

-- ---- directory tries

-- the bucket of its round is frozen without its op
pub record Froze (setup : Setup) (c : Common) (me number bucket : ℕ) : Type 0 where
  pub frozen : (last c bucket).frozen ≡ true
  pub lacks : applied_of (last c bucket) me < number
  pub tried_at : c.tried_at me ≡ bucket

-- its directory tries have begun
pub record DirTries (setup : Setup) (c : Common) (me first : ℕ) : Type 0 where
  pub tried : c.dir_tried me ≡ true
  pub first_is : first ≡ c.dir_row (c.dir_since me)

-- it has loaded the root
pub record DirLooks (setup : Setup) (c : Common) (me dir root turn first row : ℕ) : Type 0 where
  pub from : dir ≤ root
  pub tries : DirTries setup c me first
  pub one : 1 ≤ turn
  pub two : turn ≤ 2
  pub after : c.dir_since me + turn ≤ root + 1
  pub old : root ≤ c.dir_top
  pub row_is : row ≡ c.dir_row root

-- it has loaded the directory row, which leads to the bucket of its round
pub record DirOpens (setup : Setup) (c : Common) (me dir root : ℕ) (call : Call) (bucket : ℕ)
    (attempt : DirectoryTry) : Type 0 where
  pub looks : DirLooks setup c me dir root attempt.turn attempt.first attempt.root
  pub directory_is : attempt.directory ≡ c.dir_at root
  pub leads : lead setup c root (key_in call) ≡ bucket

-- what it has found of seat p: an announced op, and its own or the one that p is at, where p found a bucket first
-- before that directory
pub record DirFound (setup : Setup) (c : Common) (me root p : ℕ) (op : Option Op) : Type 0 where
  pub real : (op ≡ None) ⊎ ((j : ℕ) × (j < (c.used p).op_rows) × (op ≡ Some (c.op_at p j)))
  pub own : p ≡ me → op ≡ Some (c.op_at p ((c.used p).op_rows - 1))
  pub late : c.rooted p ≡ true → c.first_dir p < root → op ≡ Some (c.op_at p ((c.used p).op_rows - 1))

abbrev pub AllDirFound : Setup → Common → ℕ → ℕ → List (Option Op) → Type 0
AllDirFound setup c me root found = (p : ℕ) → p < length found → DirFound setup c me root p (get_or found p None)

pub record DirReads (setup : Setup) (c : Common) (me root p op : ℕ) (words : List ℕ) : Type 0 where
  pub before : ℕ
  pub is_announced : before < (c.used p).op_rows
  pub op_is : op ≡ op_no setup p before
  pub words_are : words ≡ take (length words) (c.op_words p before)
  pub own : p ≡ me → (c.used p).op_rows ≡ before + 1
  pub late : c.rooted p ≡ true → c.first_dir p < root → (c.used p).op_rows ≡ before + 1

-- a row of a bucket that was seen by a try with this directory: frozen, where a seat's directory tries at it began
-- before
pub record Sees (setup : Setup) (c : Common) (me root bucket base : ℕ) : Type 0 where
  pub there : c.named bucket ≡ true
  pub old : base ≤ c.top bucket
  pub seen : (p : ℕ) → p < seats_of setup → c.dir_tried p ≡ true → c.tried_at p ≡ bucket → (c.dir_since p < root)
      ⊎ (p ≡ me) → (c.state_at bucket base).frozen ≡ true

-- a bucket that it has loaded: some key's by that directory
pub record IsLoaded (setup : Setup) (c : Common) (me root : ℕ) (l : LoadedBucket) : Type 0 where
  pub base : ℕ
  pub key : Key
  pub sees : Sees setup c me root l.bucket base
  pub row_is : l.row ≡ c.row_at l.bucket base
  pub state_is : l.state ≡ c.state_at l.bucket base
  pub leads : lead setup c root key ≡ l.bucket

-- no bucket stands twice among those that were loaded
abbrev pub LoadedOnce : List LoadedBucket → Type 0
LoadedOnce [] = Unit {0}
LoadedOnce (l ∷ loaded) = (list_any (is_bucket l.bucket) loaded ≡ false) × LoadedOnce loaded

-- an address in rows and words that a seat has not published
abbrev pub IsOwn : Setup → (seat : ℕ) → SeatRows → Address → Type 0
IsOwn setup q used (OpWord row i) = (j : ℕ) × (used.op_rows ≤ j) × (j < op_room setup q) × (row ≡ op_no setup q j)
IsOwn setup q used (BucketRowWord row i) =
    (j : ℕ) × (used.bucket_rows ≤ j) × (j < row_room setup q) × (row ≡ row_no setup q j)
IsOwn setup q used (BucketWord bucket) =
    (j : ℕ) × (used.bucket_words ≤ j) × (j < word_room setup q) × (bucket ≡ word_no setup q j)
IsOwn setup q used (DirectoryWord row i) =
    (j : ℕ) × (used.directory_rows ≤ j) × (j < dir_room setup q) × (row ≡ dir_no setup q j)
IsOwn setup q used address = ⊥

-- by what it looks for
abbrev pub KeepsAim : Setup → Common → ℕ → SeatRows → (number : ℕ) → Call → Aim → Type 0
KeepsAim setup c me used number call ForLookup = Flies setup c me used number
KeepsAim setup c me used number call ForFirstRound = record
    { works : Works setup c me used number call; room : Room setup c me 0; quiet : c.dir_tried me ≡ false }
KeepsAim setup c me used number call (ForSecondRound first) = record
    { works : Works setup c me used number call; room : Room setup c me 1; roots : Roots setup c me first }
KeepsAim setup c me used number call ForLastLook = Works setup c me used number call

-- before its directory row is loaded; and once its place is known
abbrev pub KnowsBefore : Setup → Common → ℕ → (number : ℕ) → Call → Aim → Type 0
KnowsBefore setup c me number call (ForSecondRound first) =
    (number ≤ applied_of (last c (lead setup c c.dir_top (key_in call))) me)
    ⊎ (lead setup c c.dir_top (key_in call) ≢ lead setup c (c.first_dir me) (key_in call))
KnowsBefore setup c me number call ForLastLook = number ≤ applied_of (last c (lead setup c c.dir_top (key_in call))) me
KnowsBefore setup c me number call aim = Unit {0}

abbrev pub KnowsAt : Setup → Common → ℕ → (number : ℕ) → Call → (dir : ℕ) → Aim → Type 0
KnowsAt setup c me number call dir ForLookup = Unit {0}
KnowsAt setup c me number call dir ForFirstRound = (c.rooted me ≡ true) × (c.first_dir me ≡ dir)
KnowsAt setup c me number call dir (ForSecondRound first) =
    (c.first_dir me ≤ dir) × ((number ≤ applied_of (last c (lead setup c dir (key_in call))) me)
    ⊎ (lead setup c dir (key_in call) ≢ lead setup c (c.first_dir me) (key_in call)))
KnowsAt setup c me number call dir ForLastLook = number ≤ applied_of (last c (lead setup c dir (key_in call))) me

abbrev pub Keeps : Setup → Common → ℕ → SeatRows → Flight → Local → Phase → Type 0
Keeps setup c me used flight local SeeDone = record {
  flies : Flies setup c me used flight.number;
  short : length flight.seen < seats_of setup;
  begins : is_update flight.call ≡ true → Begins setup c me used flight.number flight.call;
}
Keeps setup c me used flight local (StoreOp i) = record {
  begins : Begins setup c me used flight.number flight.call;
  short : i < OP_WORDS;
  stored : OpStored setup c me flight.number flight.call i;
}
Keeps setup c me used flight local Announce = record {
  begins : Begins setup c me used flight.number flight.call;
  stored : OpStored setup c me flight.number flight.call OP_WORDS;
}
Keeps setup c me used flight local (FindRoot aim) = record {
  aims : KeepsAim setup c me used flight.number flight.call aim;
  knows : KnowsBefore setup c me flight.number flight.call aim;
}
Keeps setup c me used flight local (FindDepth aim root) = record {
  aims : KeepsAim setup c me used flight.number flight.call aim;
  knows : KnowsAt setup c me flight.number flight.call local.dir aim;
  finds : Finds setup c local.dir root;
}
Keeps setup c me used flight local (FindEntry aim root depth) = record {
  aims : KeepsAim setup c me used flight.number flight.call aim;
  knows : KnowsAt setup c me flight.number flight.call local.dir aim;
  finds : Finds setup c local.dir root;
  depth_is : depth ≡ (c.dir_at local.dir).depth;
}
Keeps setup c me used flight local (LookWord root bucket) = record
    { flies : Flies setup c me used flight.number; there : c.named bucket ≡ true }
Keeps setup c me used flight local (LookCount row) = record {
  flies : Flies setup c me used flight.number;
  there : c.named local.at ≡ true;
  old : local.base ≤ c.top local.at;
  row_is : row ≡ c.row_at local.at local.base;
}
Keeps setup c me used flight local (LookItems row count words) = record {
  flies : Flies setup c me used flight.number;
  there : c.named local.at ≡ true;
  old : local.base ≤ c.top local.at;
  row_is : row ≡ c.row_at local.at local.base;
  few : count ≤ setup.shape.settings.items;
  short : length words < count * ITEM_WORDS;
}
Keeps setup c me used flight local (TryWord round turn first) = record {
  works : Works setup c me used flight.number flight.call;
  room : Room setup c me (round.turn - 1);
  in_round : InRound setup c me flight.number flight.call local.dir round;
  begun : ((turn ≡ 1) × (first ≡ None))
      ⊎ ((row : ℕ) × (first ≡ Some row) × Tries setup c me round.bucket row × (2 ≤ turn) × (turn ≤ 3)
      × (c.since me + turn ≤ c.top round.bucket + 1));
}
Keeps setup c me used flight local (TryRow round turn first row words) = record {
  works : Works setup c me used flight.number flight.call;
  room : Room setup c me (round.turn - 1);
  in_round : InRound setup c me flight.number flight.call local.dir round;
  looks : Looks setup c me round.bucket local.base turn first row;
  short : length words < width setup;
  words_are : words ≡ take (length words) (c.words_at round.bucket local.base);
}
Keeps setup c me used flight local (TryAnnouncement round attempt found) = record {
  works : Works setup c me used flight.number flight.call;
  room : Room setup c me (round.turn - 1);
  in_round : InRound setup c me flight.number flight.call local.dir round;
  opens : Opens setup c me flight.number round.bucket local.base attempt;
  short : length found < seats_of setup;
  entries : AllFound setup c me round.bucket local.base found;
}
Keeps setup c me used flight local (TryOp round attempt found op words) = record {
  works : Works setup c me used flight.number flight.call;
  room : Room setup c me (round.turn - 1);
  in_round : InRound setup c me flight.number flight.call local.dir round;
  opens : Opens setup c me flight.number round.bucket local.base attempt;
  short : length found < seats_of setup;
  entries : AllFound setup c me round.bucket local.base found;
  short_op : length words < OP_WORDS;
  reads : Reads setup c me round.bucket local.base (length found) op words;
}
Keeps setup c me used flight local (TryStore round attempt found stored) = record {
  works : Works setup c me used flight.number flight.call;
  room : Room setup c me (round.turn - 1);
  in_round : InRound setup c me flight.number flight.call local.dir round;
  opens : Opens setup c me flight.number round.bucket local.base attempt;
  all : length found ≡ seats_of setup;
  entries : AllFound setup c me round.bucket local.base found;
  short : stored < width setup;
  so_far : RowStored setup c me attempt found stored;
}
Keeps setup c me used flight local (TryExchange round attempt found) = record {
  works : Works setup c me used flight.number flight.call;
  room : Room setup c me (round.turn - 1);
  in_round : InRound setup c me flight.number flight.call local.dir round;
  opens : Opens setup c me flight.number round.bucket local.base attempt;
  all : length found ≡ seats_of setup;
  entries : AllFound setup c me round.bucket local.base found;
  so_far : RowStored setup c me attempt found (width setup);
}
Keeps setup c me used flight local (DirRoot round turn first) = record {
  works : Works setup c me used flight.number flight.call;
  room : Room setup c me round.turn;
  in_round : InRound setup c me flight.number flight.call local.dir round;
  froze : Froze setup c me flight.number round.bucket;
  begun : ((turn ≡ 1) × (first ≡ None))
      ⊎ ((row : ℕ) × (first ≡ Some row) × DirTries setup c me row × (turn ≡ 2) × (c.dir_since me < c.dir_top));
}
Keeps setup c me used flight local (DirDepth round turn first root) = record {
  works : Works setup c me used flight.number flight.call;
  room : Room setup c me round.turn;
  in_round : InRound setup c me flight.number flight.call local.dir round;
  froze : Froze setup c me flight.number round.bucket;
  looks : DirLooks setup c me local.dir local.root turn first root;
}
Keeps setup c me used flight local (DirEntries round turn first root depth words) = record {
  works : Works setup c me used flight.number flight.call;
  room : Room setup c me round.turn;
  in_round : InRound setup c me flight.number flight.call local.dir round;
  froze : Froze setup c me flight.number round.bucket;
  looks : DirLooks setup c me local.dir local.root turn first root;
  depth_is : depth ≡ (c.dir_at local.root).depth;
  short : length words < 2 ^ depth;
  words_are : words ≡ take (length words) (c.dir_at local.root).entries;
}
Keeps setup c me used flight local (DirAnnouncement round attempt found) = record {
  works : Works setup c me used flight.number flight.call;
  room : Room setup c me round.turn;
  in_round : InRound setup c me flight.number flight.call local.dir round;
  froze : Froze setup c me flight.number round.bucket;
  opens : DirOpens setup c me local.dir local.root flight.call round.bucket attempt;
  short : length found < seats_of setup;
  entries : AllDirFound setup c me local.root found;
}
Keeps setup c me used flight local (DirOp round attempt found op words) = record {
  works : Works setup c me used flight.number flight.call;
  room : Room setup c me round.turn;
  in_round : InRound setup c me flight.number flight.call local.dir round;
  froze : Froze setup c me flight.number round.bucket;
  opens : DirOpens setup c me local.dir local.root flight.call round.bucket attempt;
  short : length found < seats_of setup;
  entries : AllDirFound setup c me local.root found;
  short_op : length words < OP_WORDS;
  reads : DirReads setup c me local.root (length found) op words;
}
Keeps setup c me used flight local (DirWord round attempt found loaded bucket) = record {
  works : Works setup c me used flight.number flight.call;
  room : Room setup c me round.turn;
  in_round : InRound setup c me flight.number flight.call local.dir round;
  froze : Froze setup c me flight.number round.bucket;
  opens : DirOpens setup c me local.dir local.root flight.call round.bucket attempt;
  all : length found ≡ seats_of setup;
  entries : AllDirFound setup c me local.root found;
  loads : All (IsLoaded setup c me local.root) loaded;
  once : LoadedOnce loaded;
  next : next_bucket (rules_of setup) attempt.directory loaded found ≡ Some bucket;
}
Keeps setup c me used flight local (DirRow round attempt found loaded bucket row words) = record {
  works : Works setup c me used flight.number flight.call;
  room : Room setup c me round.turn;
  in_round : InRound setup c me flight.number flight.call local.dir round;
  froze : Froze setup c me flight.number round.bucket;
  opens : DirOpens setup c me local.dir local.root flight.call round.bucket attempt;
  all : length found ≡ seats_of setup;
  entries : AllDirFound setup c me local.root found;
  loads : All (IsLoaded setup c me local.root) loaded;
  once : LoadedOnce loaded;
  next : next_bucket (rules_of setup) attempt.directory loaded found ≡ Some bucket;
  sees : Sees setup c me local.root bucket local.base;
  row_is : row ≡ c.row_at bucket local.base;
  short : length words < width setup;
  words_are : words ≡ take (length words) (c.words_at bucket local.base);
}
Keeps setup c me used flight local (DirStore round attempt found loaded stored) = record {
  works : Works setup c me used flight.number flight.call;
  room : Room setup c me round.turn;
  in_round : InRound setup c me flight.number flight.call local.dir round;
  froze : Froze setup c me flight.number round.bucket;
  opens : DirOpens setup c me local.dir local.root flight.call round.bucket attempt;
  all : length found ≡ seats_of setup;
  entries : AllDirFound setup c me local.root found;
  loads : All (IsLoaded setup c me local.root) loaded;
  once : LoadedOnce loaded;
  whole : next_bucket (rules_of setup) attempt.directory loaded found ≡ None;
  owns : (j : ℕ) → j < length (directory_puts setup me used attempt found loaded) →
      IsOwn setup me used (put_in (directory_puts setup me used attempt found loaded) j).address;
  inside : (j : ℕ) → j < length (directory_puts setup me used attempt found loaded) →
      IsAddress setup.shape (put_in (directory_puts setup me used attempt found loaded) j).address;
  short : stored < length (directory_puts setup me used attempt found loaded);
  so_far : (j : ℕ) → j < stored → read c.memory (put_in (directory_puts setup me used attempt found loaded)
      j).address ≡ (put_in (directory_puts setup me used attempt found loaded) j).word;
}
Keeps setup c me used flight local (DirExchange round attempt found loaded) = record {
  works : Works setup c me used flight.number flight.call;
  room : Room setup c me round.turn;
  in_round : InRound setup c me flight.number flight.call local.dir round;
  froze : Froze setup c me flight.number round.bucket;
  opens : DirOpens setup c me local.dir local.root flight.call round.bucket attempt;
  all : length found ≡ seats_of setup;
  entries : AllDirFound setup c me local.root found;
  loads : All (IsLoaded setup c me local.root) loaded;
  once : LoadedOnce loaded;
  whole : next_bucket (rules_of setup) attempt.directory loaded found ≡ None;
  owns : (j : ℕ) → j < length (directory_puts setup me used attempt found loaded) →
      IsOwn setup me used (put_in (directory_puts setup me used attempt found loaded) j).address;
  inside : (j : ℕ) → j < length (directory_puts setup me used attempt found loaded) →
      IsAddress setup.shape (put_in (directory_puts setup me used attempt found loaded) j).address;
  so_far : (j : ℕ) → j < length (directory_puts setup me used attempt found loaded) →
      read c.memory (put_in (directory_puts setup me used attempt found loaded)
      j).address ≡ (put_in (directory_puts setup me used attempt found loaded) j).word;
}
Keeps setup c me used flight local (LastWord root bucket) = record {
  works : Works setup c me used flight.number flight.call;
  there : c.named bucket ≡ true;
  has : flight.number ≤ applied_of (last c bucket) me;
}
Keeps setup c me used flight local (LastRow row words) = record {
  works : Works setup c me used flight.number flight.call;
  there : c.named local.at ≡ true;
  old : local.base ≤ c.top local.at;
  row_is : row ≡ c.row_at local.at local.base;
  has : flight.number ≤ applied_of (c.state_at local.at local.base) me;
  short : length words < width setup;
  words_are : words ≡ take (length words) (c.words_at local.at local.base);
}
Keeps setup c me used flight local (StoreDone reply place) = Flies setup c me used flight.number
Keeps setup c me used flight local phase = ⊥

abbrev pub KeepsStand : Setup → Common → ℕ → SeatRows → Local → Stand → Type 0
KeepsStand setup c me used local Idle = Rests setup c me used
KeepsStand setup c me used local (InFlight flight phase) = Keeps setup c me used flight local phase

-- ---- what an event of seat me may change, as the other seats see it

pub record Moves (setup : Setup) (me : ℕ) (c d : Common) : Type 0 where
  pub dir_up : c.dir_top ≤ d.dir_top
  pub dirs : (v : ℕ) → v ≤ c.dir_top → (d.dir_row v ≡ c.dir_row v) × (d.dir_at v ≡ c.dir_at v)
  pub named_up : (b : ℕ) → c.named b ≡ true → (d.named b ≡ true) × (d.pre b ≡ c.pre b) × (d.deep b ≡ c.deep b)
      × (c.top b ≤ d.top b)
  pub rows : (b i : ℕ) → c.named b ≡ true → i ≤ c.top b → (d.row_at b i ≡ c.row_at b i)
      × (d.words_at b i ≡ c.words_at b i) × (d.state_at b i ≡ c.state_at b i)
  -- numbers never fall, neither in a bucket nor for a key, and a frozen bucket stays
  pub last_up : (b p : ℕ) → c.named b ≡ true → applied_of (last c b) p ≤ applied_of (last d b) p
  pub now_up : (key : Key) (p : ℕ) → applied_of (last c (lead setup c c.dir_top key)) p ≤ applied_of
      (last d (lead setup d d.dir_top key)) p
  pub frozen : (b : ℕ) → c.named b ≡ true → (last c b).frozen ≡ true → d.top b ≡ c.top b
  -- a bucket that was left does not come back
  pub left : (key : Key) (v : ℕ) → v ≤ c.dir_top → lead setup c c.dir_top key ≢ lead setup c v key →
      lead setup d d.dir_top key ≢ lead setup c v key
  pub used : (q : ℕ) → q ≢ me → d.used q ≡ c.used q
  pub ops_up : (p : ℕ) → (c.used p).op_rows ≤ (d.used p).op_rows
  pub calls : (p j : ℕ) → j < (c.used p).op_rows → (d.op_at p j ≡ c.op_at p j) × (d.op_words p j ≡ c.op_words p j)
  pub roots : (q : ℕ) → q ≢ me → (d.rooted q ≡ c.rooted q) × (d.first_dir q ≡ c.first_dir q)
  pub tries : (q : ℕ) → q ≢ me → (d.tried q ≡ c.tried q) × (d.tried_at q ≡ c.tried_at q) × (d.since q ≡ c.since q)
  pub dir_tries : (q : ℕ) → q ≢ me → (d.dir_tried q ≡ c.dir_tried q) × (d.dir_since q ≡ c.dir_since q)
  -- tries that began before a row that is there began before this event
  pub late : (p : ℕ) → d.tried p ≡ true → d.since p < c.top (d.tried_at p) → (c.tried p ≡ true)
      × (c.tried_at p ≡ d.tried_at p) × (c.since p ≡ d.since p) × ((d.used p).op_rows ≡ (c.used p).op_rows)
  pub late_root : (p : ℕ) → d.rooted p ≡ true → d.first_dir p < c.dir_top → (c.rooted p ≡ true)
      × (c.first_dir p ≡ d.first_dir p) × ((d.used p).op_rows ≡ (c.used p).op_rows)
  pub late_dir : (p : ℕ) → d.dir_tried p ≡ true → d.dir_since p < c.dir_top → (c.dir_tried p ≡ true)
      × (c.tried_at p ≡ d.tried_at p) × (c.dir_since p ≡ d.dir_since p)
  pub own : (q : ℕ) (a : Address) → q ≢ me → q < seats_of setup → IsOwn setup q (c.used q) a →
      read d.memory a ≡ read c.memory a

-- and of what is published it also changes neither where it comes from
pub record Recalls (c d : Common) : Type 0 where
  pub origins : (b : ℕ) → c.named b ≡ true → (d.born b ≡ c.born b) × (d.from b ≡ c.from b)
  pub bases : (b i : ℕ) → c.named b ≡ true → i ≤ c.top b → d.base_at b i ≡ c.base_at b i
  pub dir_bases : (v : ℕ) → v ≤ c.dir_top → d.dir_base v ≡ c.dir_base v

-- one event keeps all that: what is shared, what holds of the seat itself, and what it may change for the others
pub record Goes (setup : Setup) (me : ℕ) (c d : Common) (local : Local) (state : SeatState) : Type 0 where
  pub shared : Shared setup d
  pub keeps : KeepsStand setup d me state.account.used local state.stand
  pub moves : Moves setup me c d
