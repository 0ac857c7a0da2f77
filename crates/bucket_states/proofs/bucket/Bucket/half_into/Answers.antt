use Rattle.std.proofs.Common.{◌≡◌, ◌*◌, ◌+◌, ◌^◌, add-one, arith}
use Rattle.std.proofs.Math.Nat.{pow-suc}
use Rattle.bucket_states.specs.Halves.{half}
use Rattle.bucket_states.proofs.bucket.Bucket.half_into.Goals as goal

pub returns-clause-state : goal.returns-clause-state
unfolding half
returns-clause-state c =
    simp (
      c.select.ensures.items,
      c.refill.ensures.items,
      c.refill-2.ensures.items,
      c.deref.ensures.value,
      c.deref-2.ensures.value,
      c.deref-3.ensures.value,
      add-one,
    )

pub returns-clause-fits : goal.returns-clause-fits
returns-clause-fits c below =
    let doubled : 2 ^ (c.args.self.now.depth + 1) ≡ 2 ^ c.args.self.now.depth * 2 =
    rw add-one (pow-suc 2 c.args.self.now.depth) in
    omega (arith, doubled, below)
