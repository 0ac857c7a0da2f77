-- The seats of a job, which are handed to the workers of a batch and taken back.
-- Source: this project's own.
use Rattle.std.specs.Prelude.{◌≡◌, ℕ, ◌+◌, ◌≤◌, ◌<◌, ◌^◌, List, [], ◌∷◌, length, map, All, Vec, vec_len, vec_capacity}
use Rattle.std.specs.Global.{Global}
use Rattle.plain_map.specs.declared.calls.Call.{Call}
use Rattle.lasting_table.specs.Parties.{PartyValue}
use Rattle.flow_workers.specs.Counts.{AreBelow, added, no_counts}
use Rattle.flow_workers.specs.declared.replies.ReplyCounts.{ReplyCounts}
use Rattle.flow_workers.specs.declared.workers.FlowWorker.{FlowWorker}
use Rattle.flows_runner.specs.declared.flowing.Flowing.{Flowing}
use Rattle.flows_runner.specs.Going.{HaveSeats}

-- the job has counted the same
pub record IsAsFar (was now : Flowing) : Type 0 where
  pub asked : now.asked ≡ was.asked
  pub replies : now.replies ≡ was.replies
  pub packets : now.packets ≡ was.packets
  pub calls : now.calls ≡ was.calls

-- these are workers for these seats, each with the list at its place, and have counted no reply
pub record AreWorkersOf (seats : List PartyValue) (lists : List (Vec Call Global)) (workers : List FlowWorker) :
    Type 0 where
  pub have : HaveSeats workers seats
  pub calls : map (λ (w : FlowWorker). w.calls) workers ≡ lists
  pub no_replies : All (λ (w : FlowWorker). w.replies ≡ no_counts) workers

-- the job has given its seats and lists away, and has room for as many
pub record HasHandedOut (was now : Flowing) : Type 0 where
  pub as_far : IsAsFar was now
  pub table : now.table ≡ was.table
  pub no_seats : now.seats.items ≡ []
  pub no_spare : now.spare.items ≡ []
  pub seats_room : vec_capacity now.seats ≡ vec_capacity was.seats
  pub spare_room : vec_capacity now.spare ≡ vec_capacity was.spare

-- ---- back again

-- what these workers have counted together
abbrev pub replies_of : List FlowWorker → ReplyCounts
replies_of [] = no_counts
replies_of (w ∷ workers) = added w.replies (replies_of workers)

-- how many calls they were given
abbrev pub many_calls : List FlowWorker → ℕ
many_calls [] = 0
many_calls (w ∷ workers) = vec_len w.calls + many_calls workers

-- they were given and have counted few calls
pub record HaveFew (workers : List FlowWorker) : Type 0 where
  pub workers_few : length workers ≤ 8
  pub calls : All (λ (w : FlowWorker). vec_len w.calls < 2 ^ 32) workers
  pub replies : All (λ (w : FlowWorker). AreBelow (2 ^ 33) w.replies) workers

-- the job can take so many seats and lists, and can count what it is told
pub record CanTake (job : Flowing) (many : ℕ) : Type 0 where
  pub no_seats : job.seats.items ≡ []
  pub no_spare : job.spare.items ≡ []
  pub seats_room : many ≤ vec_capacity job.seats
  pub spare_room : many ≤ vec_capacity job.spare
  pub calls : job.calls < 2 ^ 62
  pub replies : AreBelow (2 ^ 62) job.replies

-- the job has counted what the workers did, and has their lists
pub record HasTaken (was now : Flowing) (workers : List FlowWorker) : Type 0 where
  pub asked : now.asked ≡ was.asked
  pub table : now.table ≡ was.table
  pub packets : now.packets ≡ was.packets
  pub calls : now.calls ≡ was.calls + many_calls workers
  pub replies : now.replies ≡ added was.replies (replies_of workers)
  pub seats : vec_len now.seats ≡ length workers
  pub spare : vec_len now.spare ≡ length workers
