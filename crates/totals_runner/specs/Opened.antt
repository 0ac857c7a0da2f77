-- A batch that is opened: its table, its workers, and what is kept of it while they add.
-- Source: this project's own.
use Rattle.std.specs.Prelude.{◌≡◌, ℕ, ◌+◌, ◌≤◌, List, All, length, map}
use Rattle.std.specs.List.{range_with_len}
use Rattle.sim_steps.specs.Layout.{AreSettings}
use Rattle.sim_totals.specs.Values.{TableValue}
use Rattle.packet_adders.specs.declared.frames.Frame.{Frame}
use Rattle.packet_adders.specs.declared.workers.AddWorker.{AddWorker}
use Rattle.totals_runner.specs.declared.counting.Counting.{Counting}
use Rattle.totals_runner.specs.declared.batch.Dealt.{Dealt}
use Rattle.totals_runner.specs.Frames.{AreFrames, frames_by, shares_in}
use Rattle.totals_runner.specs.Seats.{AreFresh, HaveRoom}

-- these workers have added nothing of these packets, which are dealt to them, to the totals so far
pub record IsOpened (counting : Counting) (t : TableValue) (ws : List AddWorker) (dealt : Dealt)
    (before : ℕ) (packets : List (List ℕ)) : Type 0 where
  pub at : counting.packets ≡ before
  pub frames : List Frame
  pub are : AreFrames counting.framing (counting.packets + 1) packets frames
  pub short : All (λ packet. length packet ≤ 262144) packets
  pub settings : t.settings ≡ record {
    adds = map (λ seat. length (frames_by counting.seats seat frames)) (range_with_len 0 counting.seats);
    first = counting.totals;
  }
  pub ok : AreSettings t.settings
  pub room : HaveRoom t 0 (shares_in counting.seats frames)
  pub fresh : AreFresh t 0 (shares_in counting.seats frames) ws
  pub counts : dealt.counts.items
      ≡ map (λ seat. length (frames_by counting.seats seat frames)) (range_with_len 0 counting.seats)
  pub behind : dealt.before ≡ counting.packets
  pub many : dealt.many ≡ length packets
