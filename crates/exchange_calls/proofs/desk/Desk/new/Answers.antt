-- Where the words begin.
use Rattle.std.proofs.Common.{ℕ, ◌-◌, refl, ap, arith}
use Rattle.exchange_calls.proofs.desk.Desk.new.Goals as goal

pub invariant_of-result : goal.invariant_of-result
invariant_of-result c = record {
  within = c.requires.holder;
  starts = record {
    wants_are = refl;
    holds_are = refl;
    ops_are = refl;
    buckets_are = refl;
    rows_are = omega (arith, c.power.ensures.value);
    words_are = refl;
    few = omega (arith, c.power.ensures.few, c.args.sizes.few_seats, c.args.sizes.few_readers);
  };
  mask = ap (λ (n : ℕ). n - 1) c.power-2.ensures.value;
  lasts = c.ones.ensures;
  some_room = c.requires.some_room;
  items = refl;
  depth = refl;
}
