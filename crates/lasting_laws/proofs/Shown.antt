-- How a lasting table shows a run of today's table, its ghost: by the words, and for each seat by where its update
-- stands. What a seat has read is true as long as its row still has the generation by which it was read. If that is
-- another by now, nothing can come of it. What is said of the ghost is said by places in its history, which stay.
-- Lookups and copies have no ghost: what they tell is told of a moment.
use Rattle.std.proofs.Common.{◌≡◌, ◌≢◌, ℕ, ◌+◌, ◌<◌, ◌≤◌, ◌⊎◌, Bool, true, false, List, [], ◌∷◌, ◌++◌, length, get_or, take, Option, Some}
use Rattle.std.specs.Prelude.{All, slice_index}
use Rattle.plain_map.specs.declared.calls.Call.{Call}
use Rattle.plain_map.specs.declared.records.Record.{Record}
use Rattle.plain_map.specs.Calls.{key_in}
use Rattle.plain_map.specs.Keys.{IsKey}
use Rattle.plain_map.specs.Updates.{IsUpdate}
use Rattle.word_rows.specs.ReplyWords.{word_of_reply, reply_of_word}
use Rattle.word_rows.specs.OpWords.{words_of_call}
use Rattle.bucket_states.specs.declared.ops.Op.{Op}
use Rattle.bucket_states.specs.Laws.{applied_of}
use Rattle.table_model.specs.declared.events.Event.{Event}
use Rattle.table_model.specs.declared.rounds.Round.{Round}
use Rattle.table_model.specs.Setup.{Setup, seats_of, rules_of}
use Rattle.table_model.specs.Phases as P
use Rattle.table_model.specs.Phases.{Phase, BucketTry}
use Rattle.table_model.specs.SeatStates.{Account, Flight, SeatState}
use Rattle.table_model.specs.SeatStates as States
use Rattle.table_model.specs.Goes.{more, after_found}
use Rattle.table_model.specs.Worlds.{IsRun, world_after, seat_in}
use Rattle.run_invariant.proofs.Invariant.{Common, Local, last, op_now}
use Rattle.run_laws.proofs.Induction.{Follows}
use Rattle.lasting_model.specs.Plans.{Plan, IsPlan, ample, bucket_for, MOST_UPDATES}
use Rattle.lasting_model.specs.Codes.{SLOT_WORDS, generation_in, row_in, announcing, update_in, state_words, length_by, number_place, reply_place}
use Rattle.lasting_model.specs.Steps as S
use Rattle.lasting_model.specs.Steps.{Step, Update, SeatNow, Try, bucket_of_update, next_row}
use Rattle.lasting_model.specs.Goes.{own_op}
use Rattle.lasting_model.specs.Worlds.{Lasting, Answer, Asker, BySeat, ByReader}
use Rattle.lasting_model.specs.Worlds as L
use Rattle.lasting_laws.specs.Promises.{records_in, IsRight}
use Rattle.lasting_laws.proofs.Alike.{AllAlike}
use Rattle.lasting_laws.proofs.Pools.{owner_in, Pools}
use Rattle.lasting_laws.proofs.Marks.{Marks, known_of}
use Rattle.lasting_laws.proofs.HeldStates.{among}
use Rattle.lasting_laws.proofs.Tied.{Tied}

-- one moment of both: the lasting world; the ghost's history and its seats; the bucket word by which each of its rows
-- was published; what each had answered when the call of a seat began; and which rows a seat may have met since it
-- asked
pub record View : Type 0 where
  pub x : Lasting
  pub c : Common
  pub g : (seat : ℕ) → SeatState
  pub word_at : (bucket at : ℕ) → ℕ
  pub past : (seat other : ℕ) → List Record
  pub since : (seat row : ℕ) → Bool

module _ (plan : Plan) (v : View) where
  abbrev setup : Setup
  setup = ample plan

  abbrev now : (q : ℕ) → SeatNow
  now q = L.seat_in v.x q

  -- ---- the words

  -- a row still has the generation by which it was published
  abbrev pub Stands : (word : ℕ) → Type 0
  Stands word = v.x.store.row (row_in word) 0 ≡ generation_in word

  -- what a row of the ghost says, in words
  abbrev pub said : (b i : ℕ) → List ℕ
  said b i = state_words setup (v.c.state_at b i)

  -- the rows: there is a bucket for each class; the row in use stands in its bucket word; each that still has the
  -- generation by which it was published says its bucket; its owner has published it no more often than it knows; and
  -- none has the word of another
  pub record Rows : Type 0 where
    pub numbered : (b : ℕ) → v.c.named b ≡ true → v.c.pre b ≡ b
    pub word_is : (b : ℕ) → v.c.named b ≡ true → v.x.store.bucket b ≡ v.word_at b (v.c.top b)
    pub says : (b i j : ℕ) → v.c.named b ≡ true → i ≤ v.c.top b → Stands (v.word_at b i) → j < length (said b i) →
        v.x.store.row (row_in (v.word_at b i)) (j + 1) ≡ get_or (said b i) j 0
    pub old : (b i : ℕ) → v.c.named b ≡ true → i ≤ v.c.top b →
        generation_in (v.word_at b i) ≤ known_of plan v.x (row_in (v.word_at b i))
    pub once : (b i j : ℕ) → v.c.named b ≡ true → i ≤ v.c.top b → j ≤ v.c.top b → v.word_at b i ≡ v.word_at b j → i ≡ j

  -- an op is in the row in use of the bucket of its key
  abbrev pub IsIn : (q : ℕ) → Op → Type 0
  IsIn q op = op.number ≤ applied_of (last v.c (bucket_for setup (key_in op.call))) q

  -- each seat announces its last op by its number and class; and those before it are in their buckets
  pub record Ops : Type 0 where
    pub none : (q : ℕ) → q < plan.settings.seats → (v.c.used q).op_rows ≡ 0 → v.x.store.announced q ≡ 0
    pub some : (q : ℕ) → q < plan.settings.seats → 0 < (v.c.used q).op_rows →
        v.x.store.announced q ≡ announcing (op_now v.c q).number (bucket_for setup (key_in (op_now v.c q).call))
    pub past : (q j : ℕ) → q < plan.settings.seats → j + 1 < (v.c.used q).op_rows → IsIn q (v.c.op_at q j)

  -- the words of a call stand in the slot of a seat, up to this one
  abbrev pub Slot : (q : ℕ) → Call → (upto : ℕ) → Type 0
  Slot q call upto = (j : ℕ) → j < upto → v.x.store.op q j ≡ get_or (words_of_call call) j 0

  -- those of its last op stand there until the seat stores the next one
  abbrev pub OpStands : (q : ℕ) → Type 0
  OpStands q = 0 < (v.c.used q).op_rows → Slot q (op_now v.c q).call SLOT_WORDS

  abbrev pub SlotOf : (q : ℕ) → S.Stand → Type 0
  SlotOf q (S.Goes u (S.StoreOp i)) = Slot q u.call i
  SlotOf q (S.Goes u S.Announce) = Slot q u.call SLOT_WORDS
  SlotOf q stand = OpStands q

  -- ---- a seat

  abbrev pub bucket : Update → ℕ
  bucket u = bucket_of_update setup u

  -- the bucket word is another by now. It never comes back
  abbrev pub Moved : Update → (word : ℕ) → Type 0
  Moved u word = v.x.store.bucket (bucket u) ≢ word

  -- its ghost is idle, has answered so many updates, and the last is in its bucket
  pub record Waits (q n : ℕ) : Type 0 where
    pub idle : (v.g q).stand ≡ States.Idle
    pub count : length (v.g q).account.records ≡ n
    pub applied : 0 < (v.c.used q).op_rows → IsIn q (op_now v.c q)

  -- the update has begun, and its ghost has not
  pub record Begins (q : ℕ) : Type 0 where
    pub waits : Waits q (now q).answered
    pub past_is : (v.g q).account.records ≡ v.past q q
    pub grown : (k : ℕ) → length (v.past q k) ≤ length (v.g k).account.records

  -- its ghost stands in this phase of the same update
  pub record InStep (q : ℕ) (u : Update) (phase : Phase) : Type 0 where
    pub account : Account
    pub flight : Flight
    pub state : v.g q ≡ record { account = account; stand = States.InFlight flight phase }
    pub number_is : flight.number ≡ u.number
    pub call_is : flight.call ≡ u.call
    pub past_is : account.records ≡ v.past q q
    -- it has seen all that had ended when the call began
    pub saw : (k : ℕ) → k < seats_of setup → length (v.past q k) ≤ get_or flight.seen k 0

  -- its ghost has answered it, and the row in use has it
  pub record Late (q : ℕ) (u : Update) : Type 0 where
    pub idle : (v.g q).stand ≡ States.Idle
    pub made : Record
    pub records_are : (v.g q).account.records ≡ v.past q q ++ made ∷ []
    pub saw : (k : ℕ) → k < seats_of setup → length (v.past q k) ≤ slice_index made.seen.counts k
    pub number_is : made.number ≡ u.number
    pub call_is : made.call ≡ u.call
    pub spelled : reply_of_word (word_of_reply (Some made.reply)) ≡ Some made.reply
    pub some : 0 < (v.c.used q).op_rows
    pub op_is : op_now v.c q ≡ own_op q u
    pub has : u.number ≤ applied_of (last v.c (bucket u)) q

  -- a row that was loaded, by its place
  pub record IsRow (u : Update) (word : ℕ) : Type 0 where
    pub at : ℕ
    pub old : at ≤ v.c.top (bucket u)
    pub word_is : word ≡ v.word_at (bucket u) at

  -- the words of it that were read
  abbrev pub Reads : (u : Update) (word at : ℕ) (words : List ℕ) → Type 0
  Reads u word at words = Stands word → words ≡ take (length words) (said (bucket u) at)

  -- the ghost's try at it
  pub record IsTry (u : Update) (turn at : ℕ) (round : Round) (attempt : BucketTry) : Type 0 where
    pub of_key : round.bucket ≡ bucket u
    pub number_is : attempt.row ≡ v.c.row_at (bucket u) at
    pub state_is : attempt.state ≡ v.c.state_at (bucket u) at
    pub turn_is : attempt.turn ≡ turn
    pub one : 1 ≤ turn

  -- the ghost stands at the announcements, since that row lacks the update
  pub record Lacks (q : ℕ) (u : Update) (turn at : ℕ) : Type 0 where
    pub round : Round
    pub attempt : BucketTry
    pub is_try : IsTry u turn at round attempt
    pub in_step : InStep q u (P.TryAnnouncement round attempt [])
    pub lacks : applied_of attempt.state q < u.number

  -- or it has ended, since that row has it
  abbrev pub Looked : (q : ℕ) → Update → (turn at : ℕ) → Type 0
  Looked q u turn at = Lacks q u turn at ⊎ (Late q u × (u.number ≤ applied_of (v.c.state_at (bucket u) at) q))

  -- what was found of the seats so far makes the bucket that all ops make which the ghost found, or the try is lost
  pub record Found (q : ℕ) (u : Update) (t : Try) (found : List (Option Op)) : Type 0 where
    pub row : IsRow u t.word
    pub round : Round
    pub attempt : BucketTry
    pub theirs : List (Option Op)
    pub is_try : IsTry u t.turn row.at round attempt
    pub same : t.state ≡ attempt.state
    pub lacks : applied_of attempt.state q < u.number
    pub as_many : length theirs ≡ length found
    pub alike : Moved u t.word ⊎ AllAlike (rules_of setup) attempt.state 0 theirs found

  -- an op of the next seat that is read is the one that was announced, or the try is lost. It is due in the row of the
  -- try
  pub record Reading (q : ℕ) (u : Update) (t : Try) (found : List (Option Op)) (announced : ℕ) (words : List ℕ) : Type 0
    where
      pub finds : Found q u t found
      pub j : ℕ
      pub less : j < (v.c.used (length found)).op_rows
      pub in_step : InStep q u (after_found setup finds.round finds.attempt
          (more finds.theirs (Some (v.c.op_at (length found) j))))
      pub tells : update_in announced ≡ (v.c.op_at (length found) j).number
      pub of_bucket : bucket_for setup (key_in (v.c.op_at (length found) j).call) ≡ bucket u
      pub due : applied_of finds.attempt.state (length found) < (v.c.op_at (length found) j).number
      pub reads : Moved u t.word ⊎ (words ≡ take (length words) (words_of_call (v.c.op_at (length found) j).call))

  -- a row says the number of the update and its reply
  abbrev pub Says : (q : ℕ) → Update → Record → (row : ℕ) → Type 0
  Says q u made row =
      (v.x.store.row row (number_place q) ≡ u.number)
      × (v.x.store.row row (reply_place q) ≡ word_of_reply (Some made.reply))

  -- a held look: each row that it may have met since it asked says the update
  pub record Held (q : ℕ) (u : Update) : Type 0 where
    pub late : Late q u
    pub want : v.x.store.want q ≡ bucket u
    pub says : (row : ℕ) → v.since q row ≡ true → among (now (owner_in plan row)).free row ≡ false →
        Says q u late.made row

  -- ---- an update, step by step

  abbrev pub Keeps : (q : ℕ) → Update → Step → Type 0
  Keeps q u (S.Sweeps rows) = Begins q
  Keeps q u (S.StoreOp i) = Begins q × (i < SLOT_WORDS)
  Keeps q u S.Announce = Begins q
  Keeps q u (S.LoadWord turn) = (1 ≤ turn) × (((round : Round) × (first : Option ℕ) × (round.bucket ≡ bucket u)
      × InStep q u (P.TryWord round turn first)) ⊎ Late q u)
  Keeps q u (S.LoadRow turn word words) = record {
    row : IsRow u word;
    looked : Looked q u turn row.at;
    reads : Reads u word row.at words;
    short : length words < length_by setup words;
  }
  Keeps q u (S.CheckRow turn word words) = record {
    row : IsRow u word;
    looked : Looked q u turn row.at;
    reads : Reads u word row.at words;
    whole : length_by setup words ≤ length words;
  }
  Keeps q u (S.LoadAnnounced t found) = record {
    finds : Found q u t found;
    in_step : InStep q u (P.TryAnnouncement finds.round finds.attempt finds.theirs);
    few : length found < plan.settings.seats;
    other : length found ≢ q;
  }
  Keeps q u (S.LoadOp t found announced words) = record {
    reading : Reading q u t found announced words;
    short : length words < SLOT_WORDS;
    few : length found < plan.settings.seats;
    other : length found ≢ q;
  }
  -- the ghost stores nothing before the exchange
  Keeps q u (S.StoreRow t found i) = record {
    finds : Found q u t found;
    in_step : InStep q u (P.TryStore finds.round finds.attempt finds.theirs 0);
    so_far : (j : ℕ) → j < i →
        v.x.store.row (next_row (now q)) j ≡ get_or (S.new_words setup (now q) t found) j 0;
  }
  Keeps q u (S.Exchange t found) = record {
    finds : Found q u t found;
    in_step : InStep q u (P.TryStore finds.round finds.attempt finds.theirs 0);
    whole : (j : ℕ) → j < length (S.new_words setup (now q) t found) →
        v.x.store.row (next_row (now q)) j ≡ get_or (S.new_words setup (now q) t found) j 0;
  }
  -- the ghost has taken its third look, and ended
  Keeps q u S.StoreWant = Late q u
  Keeps q u S.StoreAsking = Late q u × (v.x.store.want q ≡ bucket u)
  Keeps q u S.HeldWord = Held q u
  Keeps q u (S.TakeHold word) = Held q u
  Keeps q u (S.HeldNumber row) = Held q u
  Keeps q u (S.HeldReply row) = Held q u
  Keeps q u S.Stuck = ⊥

  -- the update that a seat makes is its next, and can be made
  pub record IsMade (q : ℕ) (u : Update) : Type 0 where
    pub number_is : u.number ≡ (now q).answered + 1
    pub long : length (v.past q q) ≡ (now q).answered
    pub update : IsUpdate u.call
    pub key : IsKey (key_in u.call)
    pub few : (now q).answered < MOST_UPDATES

  -- a seat, wherever it stands
  abbrev pub Seated : (q : ℕ) → S.Stand → Type 0
  Seated q S.Idle = Waits q (now q).answered
  Seated q (S.Goes u step) = IsMade q u × Keeps q u step
  Seated q (S.Glances aim glance) = Waits q (now q).answered

  -- ---- all of it

  pub record Shows : Type 0 where
    pub rows : Rows
    pub ops : Ops
    pub slots : (q : ℕ) → q < plan.settings.seats → SlotOf q (now q).stand
    pub seats : (q : ℕ) → q < plan.settings.seats → Seated q (now q).stand

-- a moment of the ghost
pub record Moment (setup : Setup) : Type 0 where
  pub events : List Event
  pub run : IsRun setup events
  pub common : Common
  pub locals : ℕ → Local
  pub follows : Follows setup (world_after setup events) common locals

-- how both are seen together
abbrev pub view : (plan : Plan) (x : Lasting) (m : Moment (ample plan)) (word_at : ℕ → ℕ → ℕ)
    (cut : ℕ → List Event) → Tied plan x → View
view plan x m word_at cut tied = record {
  x = x;
  c = m.common;
  g = seat_in (world_after (ample plan) m.events);
  word_at = word_at;
  past = λ q k. records_in (ample plan) (cut (L.seat_in x q).course.began) k;
  since = tied.since;
}

-- a lasting world shows a run of its ghost; after so many events of the lasting table the run was this one
pub record IsShown (plan : Plan) (x : Lasting) : Type 0 where
  pub moment : Moment (ample plan)
  pub pools : Pools plan x
  pub marks : Marks plan x
  pub tied : Tied plan x
  pub word_at : (bucket at : ℕ) → ℕ
  pub cut : (clock : ℕ) → List Event
  pub shows : Shows plan (view plan x moment word_at cut tied)
  pub now_is : cut x.clock ≡ moment.events
  pub grows : (i n : ℕ) → i ≤ n → n ≤ x.clock → (later : List Event) × (cut n ≡ cut i ++ later)
  pub began : (q : ℕ) → (L.seat_in x q).course.began ≤ x.clock
  pub readers : (r : ℕ) → (x.readers r).course.began ≤ x.clock
  pub ended : All (λ (a : Answer). a.ended ≤ x.clock) x.answers
  pub right : All (IsRight (ample plan) cut) x.answers

pub record IsNext (plan : Plan) (x y : Lasting) (shown : IsShown plan x) : Type 0 where
  pub more : List Event
  pub next : IsShown plan y
  pub is : next.moment.events ≡ shown.moment.events ++ more
  pub keeps : (n : ℕ) → n ≤ x.clock → next.cut n ≡ shown.cut n

-- THE STATEMENT: each step of a lasting table is some steps of its ghost, none or many
abbrev pub StepsAreShown : Type 0
StepsAreShown =
    (plan : Plan) (x : Lasting) (event : L.Event) → IsPlan plan → L.IsEvent plan x event → (shown : IsShown plan x) →
    IsNext plan x (L.happens plan x event) shown

-- a table that is opened shows its ghost as it is opened
abbrev pub OpeningIsShown : Type 0
OpeningIsShown = (plan : Plan) → IsPlan plan → IsShown plan (L.opening_world plan)
