-- What is kept of batches that were counted, and what the report tells of them.
-- Source: this project's own.
use Rattle.std.specs.Prelude.{◌≡◌, ℕ, ◌+◌, ◌≤◌, List, [], ◌∷◌, ◌++◌, length, flat_map, All}
use Rattle.sim_steps.specs.Program.{step_bound}
use Rattle.capture_faults.specs.declared.ending.Ending.{Ending}
use Rattle.totals_runner.specs.Adds.{add_batch_lines, totals_head, totals_report}
use Rattle.packet_heads.specs.declared.framing.Framing.{Framing}
use Rattle.totals_runner.specs.declared.counting.Asked.{Asked}
use Rattle.totals_runner.specs.declared.counting.Counting.{Counting}
use Rattle.totals_runner.specs.PacketAdds.{MakeAdds}
use Rattle.totals_runner.specs.Counted.{AreCounted, Counted, totals_left}
use Rattle.totals_runner.specs.Printed.{added_in_all, adds_on, all_lines, answers_on, most_steps, order_on}
use Rattle.batch_history.specs.Batches.{no_counts}
use Rattle.totals_runner.specs.Right.{AreRight, nothing}

-- these batches of packets, counted on from this number, were counted so
abbrev pub AreOf : Framing → ℕ → List (List (List ℕ)) → List Counted → Type 0
AreOf framing number [] counted = counted ≡ []
AreOf framing number (packets ∷ batches) counted =
    (batch : Counted) × (others : List Counted) × MakeAdds framing number packets batch.adds
    × AreOf framing (number + length packets) batches others × (counted ≡ batch ∷ others)

-- These batches were counted, and so much is kept of them.
pub record HasCounted (counting : Counting) (batches : List Counted) : Type 0 where
  pub counted : AreCounted counting.seats nothing batches
  pub before : counting.before ≡ added_in_all counting.seats no_counts batches
  pub totals : counting.totals ≡ totals_left nothing batches
  pub most : counting.most ≡ most_steps (answers_on counting.seats no_counts batches)
  -- the adds are those of all packets so far, of which none is longer than a capture allows
  pub packets : List (List ℕ)
  pub many : counting.packets ≡ length packets
  pub make : MakeAdds counting.framing 1 packets (adds_on batches)
  pub short : All (λ packet. length packet ≤ 262144) packets
  pub few_packets : length packets ≤ 4000000

-- So these batches of packets were counted, as was asked, and the text of them is the head line and their lines.
pub record IsCountedSo (counting : Counting) (asked : Asked) (batches : List (List (List ℕ))) (text : List ℕ) : Type 0
  where
    pub as_many : counting.seats ≡ asked.seats
    pub as_framed : counting.framing ≡ asked.framing
    pub counted : List Counted
    pub of : AreOf asked.framing 1 batches counted
    pub kept : HasCounted counting counted
    -- and rightly
    pub right :
        AreRight asked.seats (adds_on counted) (answers_on asked.seats no_counts counted) (order_on asked.seats counted)
        (totals_left nothing counted)
    pub text_is : text
        ≡ totals_head asked.seats asked.batch
        ++ flat_map (add_batch_lines asked.seats) (all_lines asked.seats no_counts counted)

-- so many packets were counted
pub record HasGone (counting : Counting) (many : ℕ) : Type 0 where
  pub batches : List Counted
  pub kept : HasCounted counting batches
  pub packets : counting.packets ≡ many

-- ---- the text

-- These batches of packets were counted as was asked, one after the other. All answers, their one order and the totals
-- are right.
pub record AreCountedOf (asked : Asked) (packets : List (List (List ℕ))) (batches : List Counted) : Type 0 where
  pub of : AreOf asked.framing 1 packets batches
  pub counted : AreCounted asked.seats nothing batches
  pub right :
      AreRight asked.seats (adds_on batches) (answers_on asked.seats no_counts batches) (order_on asked.seats batches)
      (totals_left nothing batches)

-- the head line and the lines of batches of packets, where these are counted so
abbrev pub IsTotalsLines : Asked → List (List (List ℕ)) → List ℕ → Type 0
IsTotalsLines asked packets text =
    (batches : List Counted) × AreCountedOf asked packets batches
    × (text ≡ totals_head asked.seats asked.batch ++ flat_map (add_batch_lines asked.seats)
    (all_lines asked.seats no_counts
    batches))

-- the whole report of them, with this ending
abbrev pub IsTotalsReport : Asked → List (List (List ℕ)) → Ending → List ℕ → Type 0
IsTotalsReport asked packets ending text =
    (batches : List Counted) × AreCountedOf asked packets batches
    × (text ≡ totals_report (record {
      seats = asked.seats;
      batch = asked.batch;
      batches = all_lines asked.seats no_counts batches;
      tail = record {
        totals = totals_left nothing batches;
        ending = ending;
        most = most_steps (answers_on asked.seats no_counts batches);
        bound = step_bound asked.seats;
      };
    }))

-- the adds of batches of packets are those of all their packets
abbrev pub BatchesMakeAdds : Type 0
BatchesMakeAdds =
    (framing : Framing) (batches : List (List (List ℕ))) (counted : List Counted) → AreOf framing 1 batches counted →
    MakeAdds framing 1 (flat_map (λ packets. packets) batches) (adds_on counted)
