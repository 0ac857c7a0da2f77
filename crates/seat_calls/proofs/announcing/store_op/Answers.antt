use Rattle.std.proofs.Common.{◌≡◌, ◌+◌, ◌∙◌, ℕ, refl, sym, arith}
use Rattle.std.specs.Prelude.{slice_index}
use Rattle.step_counts.specs.declared.TheConstants.{OP_WORDS}
use Rattle.plain_map.specs.declared.full.FullKind.TheVariants.{OpRows}
use Rattle.word_rows.specs.Places.{place}
use Rattle.word_rows.specs.declared.addresses.Address.TheVariants.{OpWord}
use Rattle.table_model.specs.declared.events.Action.TheVariants.{Store}
use Rattle.table_model.specs.Setup.{next_number}
use Rattle.table_model.specs.Phases.{Announce, StoreOp}
use Rattle.seat_calls.specs.Going.{Going}
use Rattle.seat_calls.proofs.RunLemmas.{row_stored, row_writes}
use Rattle.seat_calls.proofs.announcing.store_op.Goals as goal

pub store_run-requires-clause-writes : goal.store_run-requires-clause-writes
store_run-requires-clause-writes g c =
    let f : Going = g.S.Steps.now c.args.steps.now in
    let row : ℕ = next_number f.setup f.seat OpRows f.account.used in
    let start = c.args.start in
    let at = c.requires.start in
    row_writes f OP_WORDS StoreOp Announce _ (λ k word. refl) c.requires.phase refl start c.args.op.now (omega arith)
    (λ i k h. let there : place f.setup.shape (OpWord row i) ≡ start + i = omega (arith, at) in
    ((λ j. Store (there j) (slice_index (sym c.requires.op j) i)), tt))

pub returns : goal.returns
returns g c =
    let f : Going = g.S.Steps.now c.args.steps.now in
    c.store_run.ensures.goes ∙ row_stored f OP_WORDS StoreOp Announce _
    (λ k word. refl) c.requires.phase refl c.args.op.now (omega arith)
