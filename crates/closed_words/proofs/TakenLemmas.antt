-- The updates that took effect, by the published rows.
use Rattle.std.proofs.Common.{◌≡◌, ℕ, List, Vec, Global, Result, Ok, Err, ap, ◌∙◌}
use Rattle.std.specs.Prelude.{◌&&◌, ◌==◌, IfOk}
use Rattle.std.specs.List.{filter, list_any}
use Rattle.std.specs.declared.alloc.AllocError.{AllocError}
use Rattle.plain_map.specs.declared.records.Pending.{Pending}
use Rattle.word_rows.specs.Shape.{Shape}
use Rattle.plain_map.specs.Calls.{is_update}
use Rattle.table_model.specs.Reading.{applied_at, bucket_rows}
use Rattle.table_model.specs.Order.{took_effect}

-- those of the calls whose number stands in one of these rows, where these are the published ones
pub effects-same : (shape : Shape) (words rows : List ℕ) (begun : List Pending)
    (result : Result (Vec Pending Global) AllocError) → rows ≡ bucket_rows shape words →
    IfOk result (λ effects. effects.items ≡ filter (λ p. is_update p.call
    && list_any (λ row. applied_at shape words row p.seat == p.number) rows) begun) →
    IfOk result (λ effects. effects.items ≡ filter (took_effect shape words) begun)
effects-same shape words rows begun (Err e) of_rows were = tt
effects-same shape words rows begun (Ok effects) of_rows were = were
    ∙ ap (λ (rs : List ℕ). filter (λ p. is_update p.call
    && list_any (λ row. applied_at shape words row p.seat == p.number) rs) begun) of_rows
