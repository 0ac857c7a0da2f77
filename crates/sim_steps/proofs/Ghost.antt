-- The history beside the memory, what holds of both at every moment, and what one seat's event may change for the
-- others.
use Rattle.std.proofs.Common.{◌≡◌, ◌≢◌, ℕ, zero, suc, ◌+◌, ◌-◌, ◌<◌, ◌≤◌, Bool, cond, eqb, ltb, List, [], ◌∷◌, ◌++◌, length, get_or, set, take, map, sum, ◌⊎◌}
use Rattle.sim_steps.specs.declared.adds.Op.{Op}
use Rattle.sim_steps.specs.declared.words.Address.TheVariants.{Announcement, Done, OpWord, StateWord}
use Rattle.sim_steps.specs.Layout.{Settings, AreSettings, seats_of, room_of, desk_of, row_words, op_row, state_row}
use Rattle.sim_steps.specs.World.{opening_row}
use Rattle.sim_steps.specs.Order.{Entry, news}
use Rattle.sim_steps.specs.Program.{Phase, Idle, LoadDone, StoreOp, Announce, LoadRoot, LoadRow, LoadAnnouncement, LoadOp, StoreRow, Publish, StoreDone, Seat, Caller, applied, reply_of, next_row, with_op, op_of, op_words, no_op}
use Rattle.sim_steps.proofs.Memory.{Memory, write, put, put_at}

-- ---- adds that take effect

-- an add that a version took in
pub record Item : Type 0 where
  pub seat : ℕ
  pub op : Op

-- how the order names it
abbrev pub entry_of : Item → Entry
entry_of item = (item.seat, item.op.number)

-- of so many seats from one on, the ops of those that pass
abbrev pub batch : (ℕ → Bool) → (ℕ → Op) → ℕ → ℕ → List Item
batch passes now seat zero = []
batch passes now seat (suc more) = cond (passes seat) (record { seat = seat; op = now seat } ∷ []) []
    ++ batch passes now (seat + 1) more

-- the row after one item after another
abbrev pub after_items : List ℕ → List Item → List ℕ
after_items row [] = row
after_items row (item ∷ items) = after_items (with_op row item.seat item.op) items

-- an item, and its reply
pub record Answers (row new : List ℕ) (items : List Item) (p : ℕ) (item : Item) : Type 0 where
  pub front : List Item
  pub rest : List Item
  pub stands : items ≡ front ++ item ∷ rest
  pub reply_is : reply_of new p ≡ get_or (after_items row (front ++ item ∷ [])) (1 + item.op.class) 0

-- ---- the history

-- what all seats share: the memory, and the history that no program sees
pub record Common : Type 0 where
  pub memory : Memory
  -- the number of rows published, and of each its row number and its words. Version 0 is the opening row
  pub top : ℕ
  pub row_at : ℕ → ℕ
  pub words_at : ℕ → List ℕ
  -- what took effect after each version
  pub items_at : ℕ → List Item
  -- of each seat: the number of its announced add, the version when it announced that, how many rows it has published
  pub number : ℕ → ℕ
  pub since : ℕ → ℕ
  pub made : ℕ → ℕ
  -- each seat's announced ops, and what it had seen when it announced each
  pub call_at : ℕ → ℕ → Op
  pub seen_at : ℕ → ℕ → List ℕ

-- a seat, and the version of the root that it loaded last
pub record Local : Type 0 where
  pub seat : Seat
  pub base : ℕ

-- what takes effect where a row is published
abbrev pub items_by : Settings → List ℕ → List ℕ → (ℕ → ℕ → Op) → List Item
items_by l old new call_at = batch (λ p. ltb (applied old p) (applied new p)) (λ p. call_at p (applied new p - 1)) 0
    (seats_of l)

-- what an event makes of them
abbrev pub published : Settings → ℕ → Caller → ℕ → List ℕ → Common → Common
published l me seat root row c = record {
  memory = record c.memory { root = state_row (desk_of l me) seat.made };
  top = c.top + 1;
  row_at = put c.row_at (c.top + 1) (state_row (desk_of l me) seat.made);
  words_at = put c.words_at (c.top + 1) row;
  items_at = put c.items_at c.top (items_by l (c.words_at c.top) row c.call_at);
  number = c.number;
  since = c.since;
  made = put c.made me (seat.made + 1);
  call_at = c.call_at;
  seen_at = c.seen_at;
}

-- the history after an announcement
abbrev pub announced : Settings → ℕ → Caller → Common → Common
announced l me seat c = record {
  memory = write c.memory (Announcement me) (op_row (desk_of l me) (seat.number - 1) + 1);
  top = c.top;
  row_at = c.row_at;
  words_at = c.words_at;
  items_at = c.items_at;
  number = put c.number me seat.number;
  since = put c.since me c.top;
  made = c.made;
  call_at = put_at c.call_at me (seat.number - 1) (op_of seat);
  seen_at = put_at c.seen_at me (seat.number - 1) seat.seen;
}

-- the history after an event of a seat
abbrev pub common_after : Settings → ℕ → Caller → Phase → Common → Common
common_after l me seat (StoreOp i) c =
    record c {
      memory = write c.memory (OpWord (op_row (desk_of l me) (seat.number - 1)) i)
          (get_or (op_words (op_of seat)) i 0);
    }
common_after l me seat Announce c = announced l me seat c
common_after l me seat (StoreRow turn root row i) c =
    record c { memory = write c.memory (StateWord (state_row (desk_of l me) seat.made) i) (get_or row i 0) }
common_after l me seat (Publish turn root row) c = cond (eqb c.memory.root root) (published l me seat root row c) c
common_after l me seat (StoreDone count) c = record c { memory = write c.memory (Done me) seat.number }
common_after l me seat _ c = c

-- the version that a seat works on after it
abbrev pub base_after : Phase → Common → ℕ → ℕ
base_after (LoadRoot turn) c base = c.top
base_after _ c base = base

-- ---- what holds of what is shared

-- the published rows: each names its base, none comes twice, none is written again, and applied numbers never fall
pub record Chain (l : Settings) (root : ℕ) (state : ℕ → ℕ → ℕ) (top : ℕ) (row_at : ℕ → ℕ) (words_at : ℕ → List ℕ)
    (made : ℕ → ℕ) : Type 0 where
  pub root_is : root ≡ row_at top
  pub first_row : row_at 0 ≡ 0
  pub first_words : words_at 0 ≡ opening_row l
  pub bases : (v : ℕ) → v < top → get_or (words_at (v + 1)) 0 0 ≡ row_at v + 1
  pub rows_are : (v i : ℕ) → v ≤ top → i < row_words (seats_of l) → state (row_at v) i ≡ get_or (words_at v) i 0
  pub long : (v : ℕ) → v ≤ top → length (words_at v) ≡ row_words (seats_of l)
  pub within : (v : ℕ) → v ≤ top → row_at v < 1 + sum l.adds
  pub fresh : (v s j : ℕ) → v ≤ top → s < seats_of l → made s ≤ j → j < room_of l s →
      row_at v ≢ state_row (desk_of l s) j
  pub once : (u v : ℕ) → u < v → v ≤ top → row_at u ≢ row_at v
  pub rises : (u v p : ℕ) → u ≤ v → v ≤ top → p < seats_of l → applied (words_at u) p ≤ applied (words_at v) p
  pub replies : (u v p : ℕ) → u ≤ v → v ≤ top → p < seats_of l → applied (words_at u) p ≡ applied (words_at v) p →
      reply_of (words_at u) p ≡ reply_of (words_at v) p

-- the announced ops
pub record Calls (l : Settings) (posts : ℕ → ℕ) (op : ℕ → ℕ → ℕ) (number : ℕ → ℕ) (call_at : ℕ → ℕ → Op) : Type 0 where
  pub none : (p : ℕ) → p < seats_of l → posts p ≡ 0 → number p ≡ 0
  pub posted : (p : ℕ) → p < seats_of l → posts p ≢ 0 →
      (0 < number p) × (posts p ≡ op_row (desk_of l p) (number p - 1) + 1)
  pub ops_are : (p j i : ℕ) → p < seats_of l → j < number p → i < 3 →
      op (op_row (desk_of l p) j) i ≡ get_or (op_words (call_at p j)) i 0
  pub numbered : (p j : ℕ) → p < seats_of l → j < number p → (call_at p j).number ≡ j + 1
  pub classed : (p j : ℕ) → p < seats_of l → j < number p → (call_at p j).class < 3
  pub short : (p j : ℕ) → p < seats_of l → j < number p → (call_at p j).length ≤ 262144
  pub few : (p : ℕ) → p < seats_of l → number p ≤ room_of l p

-- what the rows have of each seat's announced add, and what its done word and its seen words say
pub record Helped (l : Settings) (done : ℕ → ℕ) (top : ℕ) (words_at : ℕ → List ℕ) (number since : ℕ → ℕ)
    (seen_at : ℕ → ℕ → List ℕ) : Type 0 where
  pub helped : (p v : ℕ) → p < seats_of l → since p + 2 ≤ v → v ≤ top → number p ≤ applied (words_at v) p
  pub near : (p : ℕ) → p < seats_of l → number p ≤ applied (words_at top) p + 1
  pub begun : (p : ℕ) → p < seats_of l → since p ≤ top
  pub real : (p : ℕ) → p < seats_of l → applied (words_at top) p ≤ number p
  pub ended : (p : ℕ) → p < seats_of l → done p ≤ applied (words_at top) p
  pub seen_old : (p q : ℕ) → p < seats_of l → q < seats_of l → 0 < number p →
      get_or (seen_at p (number p - 1)) q 0 ≤ applied (words_at (since p)) q

-- the items are announced
abbrev pub Named : Settings → (ℕ → ℕ) → (ℕ → ℕ → Op) → List Item → Type 0
Named l number call_at [] = Unit {0}
Named l number call_at (item ∷ items) =
    (item.seat < seats_of l) × (0 < item.op.number) × (item.op.number ≤ number item.seat)
    × (item.op ≡ call_at item.seat (item.op.number - 1)) × Named l number call_at items

-- one version and the next: what took effect between
pub record Version (l : Settings) (old new : List ℕ) (items : List Item) (number : ℕ → ℕ) (call_at : ℕ → ℕ → Op)
    (seen_at : ℕ → ℕ → List ℕ) : Type 0 where
  pub one_more : (p : ℕ) → p < seats_of l → applied new p ≤ applied old p + 1
  pub row_made : set new 0 0 ≡ set (after_items old items) 0 0
  pub news_are : news (applied old) (applied new) 0 (seats_of l) ≡ map entry_of items
  pub named : Named l number call_at items
  pub answered : (p : ℕ) → p < seats_of l → applied old p < applied new p →
      Answers old new items p (record { seat = p; op = call_at p (applied new p - 1) })
  pub after : (p q : ℕ) → p < seats_of l → q < seats_of l → applied old p < applied new p →
      get_or (seen_at p (applied new p - 1)) q 0 ≤ applied old q

-- each version took in what its row says, and no more
abbrev pub Story : Settings → Common → Type 0
Story l c = (v : ℕ) → v < c.top → Version l (c.words_at v) (c.words_at (v + 1))
    (c.items_at v) c.number c.call_at c.seen_at

-- what holds of the memory and its history
pub record Shared (l : Settings) (c : Common) : Type 0 where
  pub settings : AreSettings l
  pub chain : Chain l c.memory.root c.memory.state c.top c.row_at c.words_at c.made
  pub calls : Calls l c.memory.announced c.memory.op c.number c.call_at
  pub helped : Helped l c.memory.done c.top c.words_at c.number c.since c.seen_at

-- ---- what holds of a seat

-- it is in no add
pub record Rests (l : Settings) (c : Common) (me : ℕ) (seat : Caller) : Type 0 where
  pub made_is : c.made me ≡ seat.made
  pub number_is : c.number me ≡ seat.number
  pub spare : seat.made ≤ seat.number
  pub few : seat.number ≤ room_of l me
  pub applied_is : c.number me ≤ applied (c.words_at c.top) me

-- it has not yet announced its add
pub record Begins (l : Settings) (c : Common) (me : ℕ) (seat : Caller) : Type 0 where
  pub made_is : c.made me ≡ seat.made
  pub number_is : c.number me + 1 ≡ seat.number
  pub spare : seat.made < seat.number
  pub few : seat.number ≤ room_of l me
  pub classed : seat.add.class < 3
  pub short : seat.add.length ≤ 262144
  pub applied_is : c.number me ≤ applied (c.words_at c.top) me
  pub seen_old : (q : ℕ) → q < seats_of l → get_or seat.seen q 0 ≤ applied (c.words_at c.top) q

-- it has announced its add
pub record Works (l : Settings) (c : Common) (me : ℕ) (seat : Caller) : Type 0 where
  pub made_is : c.made me ≡ seat.made
  pub number_is : c.number me ≡ seat.number
  pub spare : seat.made < seat.number
  pub few : seat.number ≤ room_of l me
  pub call_is : c.call_at me (seat.number - 1) ≡ op_of seat
  pub seen_is : c.seen_at me (seat.number - 1) ≡ seat.seen

-- it has its count
pub record Ends (l : Settings) (c : Common) (me : ℕ) (seat : Caller) (count : ℕ) : Type 0 where
  pub rests : Rests l c me seat
  pub some : 0 < seat.number
  pub call_is : c.call_at me (seat.number - 1) ≡ op_of seat
  pub seen_is : c.seen_at me (seat.number - 1) ≡ seat.seen
  pub reply_is : count ≡ reply_of (c.words_at c.top) me

-- it has loaded the root
pub record Looks (l : Settings) (c : Common) (me base turn root : ℕ) : Type 0 where
  pub turn_is : turn ≤ 2
  pub after : c.since me + turn ≤ base
  pub old : base ≤ c.top
  pub root_is : root ≡ c.row_at base

-- what it has found of seat p: an announced op, and its own or one announced before that root at the latest
pub record Found (l : Settings) (c : Common) (me base p : ℕ) (op : Op) : Type 0 where
  pub real : (op ≡ no_op) ⊎ ((j : ℕ) × (j < c.number p) × (op ≡ c.call_at p j))
  pub own : p ≡ me → c.number p ≤ op.number
  pub late : c.since p < base → c.number p ≤ op.number

-- the ops that were found so far are those announced since
abbrev pub AllFound : Settings → Common → ℕ → ℕ → List Op → Type 0
AllFound l c me base found = (p : ℕ) → p < length found → Found l c me base p (get_or found p no_op)

-- the op row of seat p that it loads
pub record Reads (l : Settings) (c : Common) (me base p op : ℕ) (words : List ℕ) : Type 0 where
  pub before : ℕ
  pub is_announced : before < c.number p
  pub op_is : op ≡ op_row (desk_of l p) before
  pub words_are : words ≡ take (length words) (op_words (c.call_at p before))
  pub own : p ≡ me → c.number p ≤ before + 1
  pub late : c.since p < base → c.number p ≤ before + 1

-- the row that it makes
pub record Makes (l : Settings) (c : Common) (me base root : ℕ) (row : List ℕ) : Type 0 where
  pub found : List Op
  pub all : length found ≡ seats_of l
  pub entries : AllFound l c me base found
  pub row_is : row ≡ next_row root found (c.words_at base)

-- so many words of the op are stored
abbrev pub OpStored : Settings → Common → ℕ → Caller → ℕ → Type 0
OpStored l c me seat i = (j : ℕ) → j < i → c.memory.op (op_row (desk_of l me) (seat.number - 1)) j ≡ get_or
    (op_words (op_of seat)) j 0

-- so many words of the row are stored
abbrev pub RowStored : Settings → Common → ℕ → Caller → List ℕ → ℕ → Type 0
RowStored l c me seat row i = (j : ℕ) → j < i → c.memory.state (state_row (desk_of l me) seat.made) j ≡ get_or row j 0

-- what is known of a seat in each phase
abbrev pub Keeps : Settings → Common → ℕ → Caller → ℕ → Phase → Type 0
Keeps l c me seat base Idle = Rests l c me seat
Keeps l c me seat base LoadDone = record { begins : Begins l c me seat; short : length seat.seen < seats_of l }
Keeps l c me seat base (StoreOp i) = record {
  begins : Begins l c me seat;
  short : i < 3;
  stored : OpStored l c me seat i;
}
Keeps l c me seat base Announce = record { begins : Begins l c me seat; stored : OpStored l c me seat 3 }
Keeps l c me seat base (LoadRoot turn) = record {
  works : Works l c me seat;
  turn_is : turn ≤ 2;
  after : c.since me + turn ≤ c.top;
}
Keeps l c me seat base (LoadRow turn root row) = record {
  works : Works l c me seat;
  looks : Looks l c me base turn root;
  short : length row < row_words (seats_of l);
  row_is : row ≡ take (length row) (c.words_at base);
}
Keeps l c me seat base (LoadAnnouncement turn root row found) = record {
  works : Works l c me seat;
  looks : Looks l c me base turn root;
  tries : turn < 2;
  row_is : row ≡ c.words_at base;
  short : length found < seats_of l;
  entries : AllFound l c me base found;
}
Keeps l c me seat base (LoadOp turn root row found op words) = record {
  works : Works l c me seat;
  looks : Looks l c me base turn root;
  tries : turn < 2;
  row_is : row ≡ c.words_at base;
  short : length found < seats_of l;
  entries : AllFound l c me base found;
  short_op : length words < 3;
  reads : Reads l c me base (length found) op words;
}
Keeps l c me seat base (StoreRow turn root row i) = record {
  works : Works l c me seat;
  looks : Looks l c me base turn root;
  tries : turn < 2;
  makes : Makes l c me base root row;
  short : i < row_words (seats_of l);
  stored : RowStored l c me seat row i;
}
Keeps l c me seat base (Publish turn root row) = record {
  works : Works l c me seat;
  looks : Looks l c me base turn root;
  tries : turn < 2;
  makes : Makes l c me base root row;
  stored : RowStored l c me seat row (row_words (seats_of l));
}
Keeps l c me seat base (StoreDone count) = Ends l c me seat count

-- ---- what an event of seat me may change, as the other seats see it
pub record Moves (l : Settings) (me : ℕ) (c d : Common) : Type 0 where
  pub top_up : c.top ≤ d.top
  pub rows : (v : ℕ) → v ≤ c.top → d.row_at v ≡ c.row_at v
  pub words : (v : ℕ) → v ≤ c.top → d.words_at v ≡ c.words_at v
  pub items : (v : ℕ) → v < c.top → d.items_at v ≡ c.items_at v
  pub made : (q : ℕ) → q ≢ me → d.made q ≡ c.made q
  pub number : (q : ℕ) → q ≢ me → d.number q ≡ c.number q
  pub since : (q : ℕ) → q ≢ me → d.since q ≡ c.since q
  pub number_up : (p : ℕ) → c.number p ≤ d.number p
  pub late : (p : ℕ) → d.since p < c.top → (d.since p ≡ c.since p) × (d.number p ≡ c.number p)
  pub calls : (p j : ℕ) → j < c.number p → d.call_at p j ≡ c.call_at p j
  pub seen : (p j : ℕ) → j < c.number p → d.seen_at p j ≡ c.seen_at p j
  pub own_op : (q j i : ℕ) → q ≢ me → j < room_of l q →
      d.memory.op (op_row (desk_of l q) j) i ≡ c.memory.op (op_row (desk_of l q) j) i
  pub own_row : (q j i : ℕ) → q ≢ me → j < room_of l q →
      d.memory.state (state_row (desk_of l q) j) i ≡ c.memory.state (state_row (desk_of l q) j) i

-- one event keeps all that: what is shared, what holds of the seat itself, and what it may change for the others
pub record Goes (l : Settings) (me : ℕ) (c d : Common) (seat : Caller) (base : ℕ) (phase : Phase) : Type 0 where
  pub shared : Shared l d
  pub keeps : Keeps l d me seat base phase
  pub moves : Moves l me c d
