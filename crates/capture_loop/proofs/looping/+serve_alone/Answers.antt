use Rattle.std.proofs.Common.{rules, ◌≡◌, List, ◌++◌, subst, sym}
use Rattle.std.specs.List.{AllZip}
use Rattle.trace_share.proofs.WorkLemmas.{all_zip-append}
use Rattle.capture_loop.proofs.looping.+serve_alone.Goals as goal

pub returns : goal.returns
returns g t c =
    let W : Type 0 = g.row.W.Denot in
    let R : W → W → Type 0 = g.W.WorksOn.done c.args.on.now in
    let front = c.split_at_mut-front.result.0.now in
    let back = c.split_at_mut-front.result.1.now in
    let whole : c.args.workers.now ≡ front ++ back = search rules in
    subst (λ (ws : List W). AllZip R ws (c.serve_alone.new.workers ++ c.serve_alone-2.new.workers)) (sym whole)
    (all_zip-append R front back c.serve_alone.new.workers c.serve_alone-2.new.workers c.serve_alone.ensures
    c.serve_alone-2.ensures)
