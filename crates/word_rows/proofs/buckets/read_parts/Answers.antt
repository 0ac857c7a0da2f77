-- The three parts are read exactly where they stand, and together they are the row.
use Rattle.std.proofs.Common.{Bool, true, false, ap, refl, arith}
use Rattle.std.specs.Bool.{IsTrue, OnTrue}
use Rattle.plain_map.specs.declared.rows.BucketRow.{BucketRow}
use Rattle.word_rows.specs.BucketWords.{bucket_of_words}
use Rattle.word_rows.proofs.BucketLemmas.{bucket_spelled, bucket_stands, parts_stand, item_part_stands, seat_part_stands, parts_read}
use Rattle.word_rows.proofs.buckets.read_parts.Goals as goal

-- what holds where the answer is true
on_true : (answer : Bool) (P : Type 0) → (IsTrue answer → P) → OnTrue answer P
on_true true P h = h refl
on_true false P h = tt

-- what was said where the answer is true
from_true : (answer : Bool) (P : Type 0) → OnTrue answer P → IsTrue answer → P
from_true true P said = λ yes. said
from_true false P said = λ yes. absurd (cc)

pub returns-then-not-read_items-clause-spelled : goal.returns-then-not-read_items-clause-spelled
returns-then-not-read_items-clause-spelled c =
    let settings = c.args.settings.now in
    let words = c.args.words.now in (
      λ h. cc,
      λ some. c.if-not-read_items.ensures.stands.1
          (item_part_stands settings words (bucket_stands settings some.0 words some.1)),
    )

pub returns-clause-spelled : goal.returns-clause-spelled
returns-clause-spelled c =
    let settings = c.args.settings.now in
    let words = c.args.words.now in (
      λ yes. (
        bucket_of_words settings words,
        bucket_spelled settings words c.requires.whole (λ i. omega (arith, c.type_inv.words i))
            (parts_stand settings words (c.if-not-read_head.ensures.stands.0 refl)
            (c.if-not-read_items.ensures.stands.0 refl) (c.read_seats.ensures.stands.0 yes)),
      ),
      λ some. c.read_seats.ensures.stands.1 (seat_part_stands settings words
          (bucket_stands settings some.0 words some.1)),
    )

pub returns-clause-read : goal.returns-clause-read
returns-clause-read c = on_true c.read_seats.result _ (λ yes.
    let settings = c.args.settings.now in
    let words = c.args.words.now in
    let head = c.if-not-read_head.ensures.read in
    parts_read settings words _ c.requires.whole (λ i. omega (arith, c.type_inv.words i))
    (parts_stand settings words (c.if-not-read_head.ensures.stands.0 refl)
    (c.if-not-read_items.ensures.stands.0 refl) (c.read_seats.ensures.stands.0 yes))
    (ap (λ (r : BucketRow). r.prefix) head) (ap (λ (r : BucketRow). r.depth) head)
    (ap (λ (r : BucketRow). r.base) head) (ap (λ (r : BucketRow). r.frozen) head)
    c.if-not-read_items.ensures.read
    (from_true c.read_seats.result _ c.read_seats.ensures.numbers yes)
    (from_true c.read_seats.result _ c.read_seats.ensures.replies yes))
