-- How far a run through flows has come: the table and its seats, what was served on it, and what is counted.
-- Source: this project's own.
use Rattle.std.specs.Prelude.{◌≡◌, ◌≤◌, ◌<◌, true, false, ℕ, ◌+◌, ◌*◌, List, [], ◌++◌, length, map, All, Option, Some, None, vec_len, vec_capacity}
use Rattle.std.specs.List.{range_with_len}
use Rattle.std.specs.Option.{ForSome}
use Rattle.plain_map.specs.declared.calls.Call.{Call}
use Rattle.plain_map.specs.declared.keys.Pair.{Pair}
use Rattle.plain_map.specs.Serving.{IsAskable}
use Rattle.key_texts.specs.FlowText.{HasText}
use Rattle.mode_parts.specs.PacketCalls.{MakeCalls}
use Rattle.report_text.specs.Flows.{FlowsBlock, flows_block, flows_head}
use Rattle.lasting_model.specs.Worlds.{Event, BySeat, world_after}
use Rattle.lasting_laws.specs.Orders.{answers_by}
use Rattle.lasting_table.specs.Parties.{PartyValue}
use Rattle.lasting_table.specs.Values.{TableValue}
use Rattle.flow_workers.specs.Counts.{counts_of, no_counts}
use Rattle.flow_workers.specs.declared.workers.FlowWorker.{FlowWorker}
use Rattle.flows_runner.specs.declared.pile.TheConstants.{FLOW_LIMIT}
use Rattle.flows_runner.specs.declared.asked.Asked.{Asked}
use Rattle.flows_runner.specs.declared.blocks.Block.{Block}
use Rattle.flows_runner.specs.declared.flowing.Flowing.{Flowing}
use Rattle.flows_runner.specs.Asked.{dealing_way, head_of, rules_of}
use Rattle.flows_runner.specs.Blocks.{IsBlock, is_place, places_within}
use Rattle.flows_runner.specs.Piles.{shares_of}
use Rattle.flows_runner.specs.Served.{AreServed, Served}
use Rattle.flows_runner.specs.Told.{AreBlocks, blocks_text, packets_in}

-- a seat of a table that knows all that has happened on it
abbrev pub met_seat : TableValue → List Event → (seat : ℕ) → PartyValue
met_seat t events seat = record {
  table_id = t.table_id;
  holding = record { plan = t.plan; who = BySeat seat; known = events };
}

-- all of them, in order
abbrev pub met_seats : TableValue → List Event → List PartyValue
met_seats t events = map (met_seat t events) (range_with_len 0 t.plan.settings.seats)

-- a block copies so many buckets at most
abbrev pub MOST_BUCKETS : ℕ
MOST_BUCKETS = 4096

-- These packets were served so, on this table, whose seats know all that has happened on it. So many blocks were made.
-- A seat has an answer for each of its calls, and one for each bucket that it has copied.
pub record IsFlowing (job : Flowing) (table : Option TableValue) (seats : List PartyValue) (packets : List (List ℕ))
    (blocks : ℕ) (served : Served) : Type 0 where
  pub t : TableValue
  pub table_is : table ≡ Some t
  pub plan : t.plan ≡ served.plan
  pub served_so : AreServed job.asked packets served
  pub seats_are : seats ≡ met_seats t served.events
  pub few : length packets ≤ FLOW_LIMIT
  pub few_blocks : blocks ≤ length packets
  pub replies : job.replies ≡ counts_of served.made
  pub packets_are : job.packets ≡ length packets
  pub calls_are : job.calls ≡ length served.made
  pub askings : (seat : ℕ) → seat < t.plan.settings.seats →
      length (answers_by seat (world_after served.plan served.events).answers)
      ≤ length packets + MOST_BUCKETS * blocks

-- there is a list for a batch's calls for each seat
pub record HasSpare (job : Flowing) : Type 0 where
  pub some : 1 ≤ job.asked.seats
  pub few : job.asked.seats ≤ 8
  pub every : ForSome job.asked.every (λ every. 0 < every)
  pub spare : vec_len job.spare ≡ job.asked.seats

-- for how many seats, by which rules, and how packets become calls
abbrev pub job_way : Flowing → List ℕ
job_way job = dealing_way job.asked.seats (rules_of job.asked) job.asked.calling

-- so many packets were served
pub record IsGoing (job : Flowing) (many : ℕ) : Type 0 where
  pub packets : List (List ℕ)
  pub blocks : ℕ
  pub served : Served
  pub so : IsFlowing job job.table job.seats.items packets blocks served
  pub spare : HasSpare job
  pub many_are : length packets ≡ many

-- the text is the head line and the blocks within these batches
pub record HasBlocks (asked : Asked) (batches : List (List (List ℕ))) (served : Served) (text : List ℕ) : Type 0 where
  pub blocks : List FlowsBlock
  pub are : AreBlocks asked (packets_in batches) served (places_within asked.every batches) blocks
  pub text_is : text ≡ flows_head (head_of asked) ++ blocks_text blocks

-- as is asked these batches were served on this table, and this is the text of them
pub record IsDoneOn (job : Flowing) (table : Option TableValue) (seats : List PartyValue) (asked : Asked)
    (batches : List (List (List ℕ))) (text : List ℕ) : Type 0 where
  pub as_asked : job.asked ≡ asked
  pub blocks : ℕ
  pub served : Served
  pub so : IsFlowing job table seats (packets_in batches) blocks served
  pub told : HasBlocks asked batches served text

abbrev pub IsDone : Flowing → Asked → List (List (List ℕ)) → List ℕ → Type 0
IsDone job asked batches text = IsDoneOn job job.table job.seats.items asked batches text

-- ---- while a batch is served

-- these workers have these seats
abbrev pub HaveSeats : List FlowWorker → List PartyValue → Type 0
HaveSeats workers seats = map (λ (w : FlowWorker). w.seat) workers ≡ map (λ (seat : PartyValue). Some seat) seats

-- the table and its seats are with the workers
pub record IsDoneWith (job : Flowing) (t : TableValue) (workers : List FlowWorker) (asked : Asked)
    (batches : List (List (List ℕ))) (text : List ℕ) : Type 0 where
  pub seats : List PartyValue
  pub have : HaveSeats workers seats
  pub so : IsDoneOn job (Some t) seats asked batches text

-- the job has neither seats nor lists meanwhile, and has room for them
pub record IsAway (job : Flowing) (before : ℕ) : Type 0 where
  pub some : 1 ≤ job.asked.seats
  pub few : job.asked.seats ≤ 8
  pub every : ForSome job.asked.every (λ every. 0 < every)
  pub no_table : job.table ≡ None
  pub no_seats : job.seats.items ≡ []
  pub no_spare : job.spare.items ≡ []
  pub seats_room : job.asked.seats ≤ vec_capacity job.seats
  pub spare_room : job.asked.seats ≤ vec_capacity job.spare

-- A batch is open: each worker has its seat, which knows all that has happened on the table, its share of the calls of
-- the batch's packets, and has counted no reply.
pub record IsOpened (job : Flowing) (t : TableValue) (workers : List FlowWorker) (kept before : ℕ)
    (packets : List (List ℕ)) : Type 0 where
  pub first : List (List ℕ)
  pub blocks : ℕ
  pub served : Served
  pub seats : List PartyValue
  pub have : HaveSeats workers seats
  pub so : IsFlowing job (Some t) seats first blocks served
  pub before_is : length first ≡ before
  pub kept_is : kept ≡ length packets
  pub calls : List (ℕ × Call)
  pub make : MakeCalls job.asked.calling (before + 1) packets calls
  pub askable : All (λ (call : ℕ × Call). IsAskable call.1) calls
  pub shares : map (λ (w : FlowWorker). w.calls.items) workers
      ≡ shares_of (rules_of job.asked) job.asked.seats (map (λ (call : ℕ × Call). call.1) calls)
  pub no_replies : All (λ (w : FlowWorker). w.replies ≡ no_counts) workers

-- ---- what is told of a batch

abbrev pub block_text : Block → List ℕ
block_text block = flows_block block.at block.pairs.items block.counts

-- the text of a block, where there is one
abbrev pub block_told : Option Block → List ℕ
block_told None = []
block_told (Some block) = block_text block

-- and the keys of its pairs have texts
abbrev pub HasKeyTexts : Option Block → Type 0
HasKeyTexts None = Unit {0}
HasKeyTexts (Some block) = All (λ (pair : Pair). HasText pair.key) block.pairs.items

-- these are its lines
abbrev pub TellsBlock : Option Block → List ℕ → Type 0
TellsBlock closed lines = (lines ≡ block_told closed) × HasKeyTexts closed

-- ---- a block

-- what a block tells
abbrev pub block_in : Block → FlowsBlock
block_in block = record { at = block.at; pairs = block.pairs.items; counts = block.counts }

-- the job is the same but for its seats
pub record IsSameJob (was now : Flowing) : Type 0 where
  pub asked : now.asked ≡ was.asked
  pub table : now.table ≡ was.table
  pub spare : now.spare ≡ was.spare
  pub replies : now.replies ≡ was.replies
  pub packets : now.packets ≡ was.packets
  pub calls : now.calls ≡ was.calls
  pub seats : vec_len now.seats ≡ vec_len was.seats
  pub room : vec_capacity now.seats ≡ vec_capacity was.seats

-- the block tells of all these packets, and its keys have texts
pub record TellsServed (asked : Asked) (packets : List (List ℕ)) (served : Served) (block : FlowsBlock) : Type 0 where
  pub is : IsBlock asked (length packets) served.made block
  pub texts : All (λ (pair : Pair). HasText pair.key) block.pairs

-- after a block the same calls are answered, and each seat has at most one answer more for each bucket
pub record HasRested (job : Flowing) (t : TableValue) (seats : List PartyValue) (packets : List (List ℕ)) (blocks : ℕ)
    (was : Served) : Type 0 where
  pub served : Served
  pub made : served.made ≡ was.made
  pub so : blocks + 1 ≤ length packets → IsFlowing job (Some t) seats packets (blocks + 1) served

-- what stands behind a batch of so many packets, the last of all these: a block, or none, where none is to stand
abbrev pub StandsBehind : (was now : Flowing) → TableValue → (packets : List (List ℕ)) → (blocks : ℕ) → Served →
    (kept : ℕ) → Option Block → Type 0
StandsBehind was now t packets blocks served kept None =
    IsFlowing now (Some t) now.seats.items packets blocks served
    × (0 < kept → is_place was.asked.every was.packets ≡ false)
StandsBehind was now t packets blocks served kept (Some block) =
    (0 < kept) × (is_place was.asked.every was.packets ≡ true)
    × TellsServed was.asked packets served (block_in block) × HasRested now t now.seats.items packets blocks served

-- and at the end of these packets: a block, or none, where one stands there already
abbrev pub StandsAtEnd : Flowing → (packets : List (List ℕ)) → Served → Option Block → Type 0
StandsAtEnd job packets served None = is_place job.asked.every job.packets ≡ true
StandsAtEnd job packets served (Some block) =
    (is_place job.asked.every job.packets ≡ false) × TellsServed job.asked packets served (block_in block)
