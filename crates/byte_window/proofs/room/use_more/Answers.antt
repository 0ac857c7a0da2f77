use Rattle.std.proofs.Common.{ℕ, ◌-◌, List, ◌++◌, ap, ◌∙◌, arith, take, replicate, vec_len, is_ok, if◌then◌else◌}
use Rattle.byte_window.proofs.WindowFacts.{take_filled}
use Rattle.byte_window.proofs.room.use_more.Goals as goal

pub returns-clause-bytes : goal.returns-clause-bytes
returns-clause-bytes c =
    let old = c.args.buf.now in
    let length : ℕ = c.max-length.result in
    let more : List ℕ = replicate (length - vec_len old) 0 in
    ap (take (vec_len old)) (c.resize.ensures.items
    ∙ ap (λ r. if is_ok r then take length old.items ++ more else old.items) c.in-Ok.is)
    ∙ take_filled old.items more length (vec_len old) (omega (arith, old.ok.0)) (omega arith)
