-- The bucket's word, its row, and that word again.
use Rattle.std.proofs.Common.{◌∙◌, sym, ap}
use Rattle.exchange_model.specs.Steps.{OfKey, Tried, GlanceCount, row_of_source}
use Rattle.exchange_model.specs.Goes.{Looks}
use Rattle.exchange_calls.specs.Going.{Going}
use Rattle.exchange_calls.proofs.FindLemmas.{check_asked, check_fails, check_shows, still_of, word_asked, word_loaded}
use Rattle.exchange_calls.proofs.PlaceLemmas.{bucket_same, row_in_is}
use Rattle.exchange_calls.proofs.lookups.try_find.Goals as goal

pub load-word-requires : goal.load-word-requires
load-word-requires g c =
    let f : Going = g.S.Steps.now c.args.steps.now in
    record {
      asked = word_asked f c.args.desk.now c.requires.desk (OfKey c.args.key.now) c.args.left c.args.bucket _
          c.requires.phase
          (c.requires.bucket ∙ bucket_same f c.args.desk.now c.args.key.now c.requires.desk) c.bucket-place.ensures;
    }

pub find_item-found-requires-clause-phase : goal.find_item-found-requires-clause-phase
find_item-found-requires-clause-phase g c =
    let f : Going = g.S.Steps.now c.args.steps.now in
    ap (λ (h : Going). h.now.stand)
    (word_loaded f c.args.desk.now c.requires.desk (OfKey c.args.key.now) c.args.left c.requires.phase
    (g.S.Steps.now c.load-word.new.self) c.load-word.result c.load-word.ensures.goes)

pub find_item-found-requires-clause-desk : goal.find_item-found-requires-clause-desk
find_item-found-requires-clause-desk g c =
    let f : Going = g.S.Steps.now c.args.steps.now in
    still_of f (g.S.Steps.now c.load-word.new.self) (OfKey c.args.key.now)
    (Looks (GlanceCount (Tried c.args.left c.load-word.result))) c.args.desk.now
    (word_loaded f c.args.desk.now c.requires.desk (OfKey c.args.key.now) c.args.left c.requires.phase
    (g.S.Steps.now c.load-word.new.self) c.load-word.result c.load-word.ensures.goes) c.requires.desk

pub load-again-requires : goal.load-again-requires
load-again-requires g c =
    let f : Going = g.S.Steps.now c.args.steps.now in
    let e = c.find_item-found.ensures in
    record {
      asked = check_asked f c.args.desk.now c.requires.desk (OfKey c.args.key.now) c.args.left c.requires.phase
          (g.S.Steps.now c.load-word.new.self) c.load-word.result c.load-word.ensures.goes
          (g.S.Steps.now c.find_item-found.new.steps) e.kept e.goes c.args.bucket _
          (c.requires.bucket ∙ bucket_same f c.args.desk.now c.args.key.now c.requires.desk)
          c.bucket-place.ensures;
    }

pub returns-then-again-word : goal.returns-then-again-word
returns-then-again-word g c =
    let f : Going = g.S.Steps.now c.args.steps.now in
    let e = c.find_item-found.ensures in
    record {
      kept = e.kept;
      goes = check_shows f c.args.desk.now c.requires.desk (OfKey c.args.key.now) c.args.left c.requires.phase
          (g.S.Steps.now c.load-word.new.self) c.load-word.result c.load-word.ensures.goes
          (g.S.Steps.now c.find_item-found.new.steps) e.kept e.goes (g.S.Steps.now c.load-again.new.self)
          c.load-again.result c.load-again.ensures.goes c.if-again-word.true;
      value = e.value;
    }

pub returns-else-again-word : goal.returns-else-again-word
returns-else-again-word g c =
    let f : Going = g.S.Steps.now c.args.steps.now in
    let e = c.find_item-found.ensures in
    check_fails f c.args.desk.now c.requires.desk (OfKey c.args.key.now) c.args.left c.requires.phase
    (g.S.Steps.now c.load-word.new.self) c.load-word.result c.load-word.ensures.goes
    (g.S.Steps.now c.find_item-found.new.steps) e.kept e.goes (g.S.Steps.now c.load-again.new.self)
    c.load-again.result c.load-again.ensures.goes c.if-again-word.false

pub find_item-found-requires-clause-row : goal.find_item-found-requires-clause-row
find_item-found-requires-clause-row g c =
    let f : Going = g.S.Steps.now c.args.steps.now in
    row_in_is f c.args.desk.now c.requires.desk c.load-word.result _ c.row_in-row.ensures.value
    ∙ ap (λ (h : Going). row_of_source h.plan (Tried c.args.left c.load-word.result))
    (sym (word_loaded f c.args.desk.now c.requires.desk (OfKey c.args.key.now) c.args.left c.requires.phase
    (g.S.Steps.now c.load-word.new.self) c.load-word.result c.load-word.ensures.goes))
