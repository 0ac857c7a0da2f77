-- The report of totals: the head line; for each batch the lines of its adds in packet order and of its order; the
-- totals of each class, the ending of the input, and the steps.
-- Source: docs/FORMATS.md, the report of totals.
use Rattle.std.specs.Prelude.{ℕ, zero, suc, ◌+◌, List, [], ◌∷◌, ◌++◌, codes, decimal, flat_map, slice_index}
use Rattle.sim_steps.specs.declared.adds.Added.{Added}
use Rattle.sim_steps.specs.declared.adds.Totals.{Totals}
use Rattle.plain_map.specs.declared.records.CallId.{CallId}
use Rattle.batch_history.specs.Batches.{with_counts}
use Rattle.totals_runner.specs.declared.adds.TotalsTail.{TotalsTail}
use Rattle.report_text.specs.Lines.{line}
use Rattle.report_text.specs.Report.{after_words, batch_words, input_line, order_lines, steps_words}

-- the word for a class
abbrev pub class_word : ℕ → List ℕ
class_word zero = codes "tcp"
class_word (suc zero) = codes "udp"
class_word (suc (suc other)) = codes "passed"

-- `flowdir totals seats N`, and then ` batch M` or nothing
unfoldable pub totals_head : (seats batch : ℕ) → List ℕ
totals_head seats batch =
    line (codes "flowdir" ∷ codes "totals" ∷ codes "seats" ∷ decimal seats ∷ batch_words batch)

-- what was answered when the seats had made so many adds before
abbrev pub added_on : (before : List ℕ) → Added → Added
added_on before a = record a { number = slice_index before a.seat + a.number; seen = with_counts before a.seen }

-- `add P seat I CLASS LENGTH count C steps K after V`
unfoldable pub add_line : ℕ → Added → List ℕ
add_line seats a =
    line (codes "add" ∷ decimal a.add.packet ∷ codes "seat" ∷ decimal a.seat ∷ class_word a.add.class
    ∷ decimal a.add.length ∷ codes "count" ∷ decimal a.count ∷ (steps_words a.steps
    ++ after_words seats (record { counts = a.seen })))

-- `total CLASS COUNT BYTES`
unfoldable pub total_line : ℕ → Totals → List ℕ
total_line class totals =
    line (codes "total" ∷ class_word class ∷ decimal (slice_index totals.counts class)
    ∷ decimal (slice_index totals.bytes class) ∷ [])

-- `steps add A bound V`
unfoldable pub add_steps_line : ℕ → ℕ → List ℕ
add_steps_line most bound =
    line (codes "steps" ∷ codes "add" ∷ decimal most ∷ codes "bound" ∷ decimal bound ∷ [])

-- the totals of the three classes, the input, and the steps
unfoldable pub totals_tail : TotalsTail → List ℕ
totals_tail tail =
    total_line 0 tail.totals ++ (total_line 1 tail.totals ++ (total_line 2 tail.totals
    ++ (input_line tail.ending ++ add_steps_line tail.most tail.bound)))

-- a batch: each answer in packet order, and one order
pub record AddBatch : Type 0 where
  pub answers : List Added
  pub order : List CallId

-- its lines
unfoldable pub add_batch_lines : ℕ → AddBatch → List ℕ
add_batch_lines seats batch = flat_map (add_line seats) batch.answers ++ order_lines batch.order

pub record TotalsReport : Type 0 where
  pub seats : ℕ
  pub batch : ℕ
  pub batches : List AddBatch
  pub tail : TotalsTail

-- the whole text
unfoldable pub totals_report : TotalsReport → List ℕ
totals_report report =
    totals_head report.seats report.batch
    ++ (flat_map (add_batch_lines report.seats) report.batches ++ totals_tail report.tail)
