-- A generation more, and another row.
use Rattle.std.proofs.Common.{arith}
use Rattle.std.proofs.lemmas.Nat.{pow_pos, shr_split}
use Rattle.exchange_calls.proofs.PlaceLemmas.{next_fits}
use Rattle.exchange_calls.proofs.desk.Desk.next_word.Goals as goal

pub overflow_sub-base : goal.overflow_sub-base
overflow_sub-base c =
    let split = shr_split c.args.word c.args.self.now.sizes.row_bits in
    omega (arith, split, c.row_in-old.ensures.value)

pub overflow_add-result-3 : goal.overflow_add-result-3
overflow_add-result-3 c =
    let fits = next_fits c.args.word c.args.self.now.sizes.row_bits c.args.row c.args.self.now.sizes.few_bits
    c.requires.row c.requires.last in
    let split = shr_split c.args.word c.args.self.now.sizes.row_bits in
    let some = pow_pos c.args.self.now.sizes.row_bits in
    omega (arith, fits, split, some, c.row_in-old.ensures.value, c.args.self.now.mask)

pub returns : goal.returns
returns c =
    let fits = next_fits c.args.word c.args.self.now.sizes.row_bits c.args.row c.args.self.now.sizes.few_bits
    c.requires.row c.requires.last in
    let split = shr_split c.args.word c.args.self.now.sizes.row_bits in
    let some = pow_pos c.args.self.now.sizes.row_bits in
    omega (arith, fits, split, some, c.row_in-old.ensures.value, c.args.self.now.mask)
