-- A bucket more is named in each turn.
use Rattle.std.proofs.Common.{◌≡◌, ℕ, ◌+◌, ◌*◌, ◌^◌, ◌%◌, ◌≤◌, ◌<◌, set, subst, sym, arith}
use Rattle.std.proofs.Math.Pow.{pow_mono}
use Rattle.exchange_model.specs.Plans.{buckets_of}
use Rattle.exchange_model.specs.Codes.{born_word}
use Rattle.exchange_opening.specs.Openings.{plan_of}
use Rattle.exchange_opening.proofs.OpeningWords.{Named, all_named, inside, none_named, one_named}
use Rattle.exchange_opening.proofs.words.name_rows.Goals as goal
use Rattle.hash_bits.specs.declared.hashing.Hashing.TheVariants.{Mix}

pub loop-bucket-init : goal.loop-bucket-init
loop-bucket-init c h = none_named (plan_of c.args.sizes h) c.args.words.now (c.requires.blank h)

pub bounds-words-first : goal.bounds-words-first
bounds-words-first c =
    let plan = plan_of c.args.sizes (Mix 0) in
    let k = c.loop-bucket.invariant (Mix 0) in
    let at = inside plan c.loop-bucket.words c.loop-bucket.bucket k.long
    (omega (arith, c.loop-bucket-test.true, c.buckets_in-bucket-end.ensures.value)) in
    omega (arith, at, c.first_bucket-first.ensures.value (Mix 0))

pub loop-bucket-preserved : goal.loop-bucket-preserved
loop-bucket-preserved c h =
    let plan = plan_of c.args.sizes h in
    let b = c.loop-bucket.bucket in
    let few : 2 ^ c.args.sizes.row_bits ≤ 2 ^ 21 = pow_mono c.args.sizes.few_bits in
    let word : 1 * 2 ^ c.args.sizes.row_bits % 18446744073709551616 + c.seat_rows.result + b ≡ born_word plan b =
    omega (arith, few, c.seat_rows.ensures.value) in
    let less : b < buckets_of plan.settings =
    omega (arith, c.loop-bucket-test.true, c.buckets_in-bucket-end.ensures.value) in
    subst (λ (f : ℕ). Named plan
    (set c.loop-bucket.words (f + b) (1 * 2 ^ c.args.sizes.row_bits % 18446744073709551616 + c.seat_rows.result + b))
    (b + 1))
    (sym (c.first_bucket-first.ensures.value h))
    (one_named plan c.loop-bucket.words b
    (1 * 2 ^ c.args.sizes.row_bits % 18446744073709551616 + c.seat_rows.result + b) word less
    (c.loop-bucket.invariant h))

pub returns : goal.returns
returns c h = all_named (plan_of c.args.sizes h) c.loop-bucket.words c.loop-bucket.bucket
    (omega (arith, c.loop-bucket-test.false, c.buckets_in-bucket-end.ensures.value)) (c.loop-bucket.invariant h)
