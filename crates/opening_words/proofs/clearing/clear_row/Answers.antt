use Rattle.std.proofs.Common.{◌≡◌, suc, ◌+◌, ◌-◌, set, replicate, length-set, sym, ap, ◌∙◌, arith}
use Rattle.opening_words.specs.Written.{written}
use Rattle.opening_words.proofs.clearing.clear_row.Goals as goal

pub loop-i-preserved : goal.loop-i-preserved
loop-i-preserved c =
    let at = c.args.start + c.loop-i.i in
    let rest : c.args.count - c.loop-i.i ≡ suc (c.args.count - (c.loop-i.i + 1)) = omega arith in
    let next : c.args.start + (c.loop-i.i + 1) ≡ suc at = omega arith in
    record {
      left = (λ k. written (set c.loop-i.words at 0) (next k) (replicate (c.args.count - (c.loop-i.i + 1)) 0))
          ∙ sym (ap (λ n. written c.loop-i.words at (replicate n 0)) rest) ∙ c.loop-i.invariant.left;
      len = length-set c.loop-i.words at 0 ∙ c.loop-i.invariant.len;
    }
