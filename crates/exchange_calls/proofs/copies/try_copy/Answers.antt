-- The bucket's word, its row, and that word again.
use Rattle.std.proofs.Common.{◌∙◌, List, take, refl, sym, ap}
use Rattle.plain_map.specs.declared.keys.Pair.{Pair}
use Rattle.exchange_model.specs.Steps.{OfBucket, Tried, GlanceCount, row_of_source}
use Rattle.exchange_model.specs.Goes.{Looks}
use Rattle.exchange_calls.specs.Going.{Going}
use Rattle.exchange_calls.proofs.FindLemmas.{check_asked, check_fails, check_shows, still_of, word_asked, word_loaded}
use Rattle.exchange_calls.proofs.PlaceLemmas.{row_in_is}
use Rattle.exchange_calls.proofs.copies.try_copy.Goals as goal

pub load-word-requires : goal.load-word-requires
load-word-requires g c =
    record {
      asked = word_asked (g.S.Steps.now c.args.steps.now) c.args.desk.now c.requires.desk (OfBucket c.args.bucket)
          c.args.left
          c.args.bucket _ c.requires.phase refl c.bucket-place.ensures;
    }

pub copy_items-count-requires-clause-phase : goal.copy_items-count-requires-clause-phase
copy_items-count-requires-clause-phase g c =
    let f : Going = g.S.Steps.now c.args.steps.now in
    ap (λ (h : Going). h.now.stand)
    (word_loaded f c.args.desk.now c.requires.desk (OfBucket c.args.bucket) c.args.left c.requires.phase
    (g.S.Steps.now c.load-word.new.self) c.load-word.result c.load-word.ensures.goes)

pub copy_items-count-requires-clause-desk : goal.copy_items-count-requires-clause-desk
copy_items-count-requires-clause-desk g c =
    let f : Going = g.S.Steps.now c.args.steps.now in
    still_of f (g.S.Steps.now c.load-word.new.self) (OfBucket c.args.bucket)
    (Looks (GlanceCount (Tried c.args.left c.load-word.result))) c.args.desk.now
    (word_loaded f c.args.desk.now c.requires.desk (OfBucket c.args.bucket) c.args.left c.requires.phase
    (g.S.Steps.now c.load-word.new.self) c.load-word.result c.load-word.ensures.goes) c.requires.desk

pub load-again-requires : goal.load-again-requires
load-again-requires g c =
    let f : Going = g.S.Steps.now c.args.steps.now in
    let kept : List Pair = take c.copy_items-count.result c.copy_items-count.new.out in
    record {
      asked = check_asked f c.args.desk.now c.requires.desk (OfBucket c.args.bucket) c.args.left c.requires.phase
          (g.S.Steps.now c.load-word.new.self) c.load-word.result c.load-word.ensures.goes
          (g.S.Steps.now c.copy_items-count.new.steps) kept c.copy_items-count.ensures.goes
          c.args.bucket _ refl c.bucket-place.ensures;
    }

pub returns-then-again-word-clause-shown : goal.returns-then-again-word-clause-shown
returns-then-again-word-clause-shown g c =
    let f : Going = g.S.Steps.now c.args.steps.now in
    let kept : List Pair = take c.copy_items-count.result c.copy_items-count.new.out in
    check_shows f c.args.desk.now c.requires.desk (OfBucket c.args.bucket) c.args.left c.requires.phase
    (g.S.Steps.now c.load-word.new.self) c.load-word.result c.load-word.ensures.goes
    (g.S.Steps.now c.copy_items-count.new.steps) kept c.copy_items-count.ensures.goes
    (g.S.Steps.now c.load-again.new.self) c.load-again.result c.load-again.ensures.goes
    c.if-again-word.true

pub returns-else-again-word-clause-lost : goal.returns-else-again-word-clause-lost
returns-else-again-word-clause-lost g c none =
    let f : Going = g.S.Steps.now c.args.steps.now in
    let kept : List Pair = take c.copy_items-count.result c.copy_items-count.new.out in
    check_fails f c.args.desk.now c.requires.desk (OfBucket c.args.bucket) c.args.left c.requires.phase
    (g.S.Steps.now c.load-word.new.self) c.load-word.result c.load-word.ensures.goes
    (g.S.Steps.now c.copy_items-count.new.steps) kept c.copy_items-count.ensures.goes
    (g.S.Steps.now c.load-again.new.self) c.load-again.result c.load-again.ensures.goes
    c.if-again-word.false

pub copy_items-count-requires-clause-row : goal.copy_items-count-requires-clause-row
copy_items-count-requires-clause-row g c =
    let f : Going = g.S.Steps.now c.args.steps.now in
    row_in_is f c.args.desk.now c.requires.desk c.load-word.result _ c.row_in-row.ensures.value
    ∙ ap (λ (h : Going). row_of_source h.plan (Tried c.args.left c.load-word.result))
    (sym (word_loaded f c.args.desk.now c.requires.desk (OfBucket c.args.bucket) c.args.left c.requires.phase
    (g.S.Steps.now c.load-word.new.self) c.load-word.result c.load-word.ensures.goes))
