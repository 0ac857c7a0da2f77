-- One batch more is served, and told.
use Rattle.std.proofs.Common.{◌++◌, ◌∷◌, []}
use Rattle.capture_loop.proofs.LoopLemmas.{all_zip_slice}
use Rattle.capture_loop.proofs.StandingLemmas.{OnOk-map}
use Rattle.capture_loop.proofs.looping.serve.Goals as goal

pub returns-clause-served : goal.returns-clause-served
returns-clause-served g c =
    OnOk-map _ _ _ c.tell.result c.tell.ensures.told c.tell.ensures.done
    (λ told kept plan batches put before packets done going holds.
    let opens = c.in_ok-shared.ensures in
    let workers = c.in_ok-shared.field-0.workers in
    let worked = all_zip_slice (g.J.Worker.WorksOn.done c.in_ok-shared.field-0.shared) c.as_mut_slice.result.now
    workers.items c.work.new.workers _ c.as_mut_slice.ensures.value workers.ok.0 c.work.ensures.done in
    let closed = c.in_ok-closed.ensures.served plan batches put workers.items before packets
    (opens.under plan batches put done) (opens.away before going) (opens.opened before packets going holds) worked in (
      told.0,
      told.2,
      kept plan (batches ++ packets ∷ []) (put ++ told.0) (closed told.0 told.1),
    ))
