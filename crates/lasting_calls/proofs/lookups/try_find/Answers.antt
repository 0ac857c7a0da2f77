-- The bucket's word, its row, and the row's generation.
use Rattle.std.proofs.Common.{◌∙◌, refl, ap}
use Rattle.lasting_model.specs.Codes.{row_in}
use Rattle.lasting_model.specs.Steps.{OfKey, Tried, GlanceCount}
use Rattle.lasting_model.specs.Goes.{Looks}
use Rattle.lasting_calls.specs.Going.{Going}
use Rattle.lasting_calls.proofs.FindLemmas.{check_asked, check_fails, check_shows, still_of, word_asked, word_loaded}
use Rattle.lasting_calls.proofs.PlaceLemmas.{bucket_same}
use Rattle.lasting_calls.proofs.lookups.try_find.Goals as goal

pub load-word-requires : goal.load-word-requires
load-word-requires g c =
    let f : Going = g.S.Steps.now c.args.steps.now in
    record {
      asked = word_asked f c.args.desk.now c.requires.desk (OfKey c.args.key.now) c.args.left c.args.bucket _
          c.requires.phase
          (c.requires.bucket ∙ bucket_same f c.args.desk.now c.args.key.now c.requires.desk) c.bucket-place.ensures;
    }

pub find_item-found-requires-clause-phase : goal.find_item-found-requires-clause-phase
find_item-found-requires-clause-phase g c =
    let f : Going = g.S.Steps.now c.args.steps.now in
    ap (λ (h : Going). h.now.stand)
    (word_loaded f c.args.desk.now c.requires.desk (OfKey c.args.key.now) c.args.left c.requires.phase
    (g.S.Steps.now c.load-word.new.self) c.load-word.result c.load-word.ensures.goes)

pub find_item-found-requires-clause-desk : goal.find_item-found-requires-clause-desk
find_item-found-requires-clause-desk g c =
    let f : Going = g.S.Steps.now c.args.steps.now in
    still_of f (g.S.Steps.now c.load-word.new.self) (OfKey c.args.key.now)
    (Looks (GlanceCount (Tried c.args.left c.load-word.result))) c.args.desk.now
    (word_loaded f c.args.desk.now c.requires.desk (OfKey c.args.key.now) c.args.left c.requires.phase
    (g.S.Steps.now c.load-word.new.self) c.load-word.result c.load-word.ensures.goes) c.requires.desk

pub load-generation-requires : goal.load-generation-requires
load-generation-requires g c =
    let f : Going = g.S.Steps.now c.args.steps.now in
    let e = c.find_item-found.ensures in
    record {
      asked = check_asked f c.args.desk.now c.requires.desk (OfKey c.args.key.now) c.args.left c.requires.phase
          (g.S.Steps.now c.load-word.new.self) c.load-word.result c.load-word.ensures.goes
          (g.S.Steps.now c.find_item-found.new.steps) e.kept e.goes (row_in c.load-word.result) _ refl
          c.row-first.ensures;
    }

pub returns-then-generation-word : goal.returns-then-generation-word
returns-then-generation-word g c =
    let f : Going = g.S.Steps.now c.args.steps.now in
    let e = c.find_item-found.ensures in
    record {
      kept = e.kept;
      goes = check_shows f c.args.desk.now c.requires.desk (OfKey c.args.key.now) c.args.left c.requires.phase
          (g.S.Steps.now c.load-word.new.self) c.load-word.result c.load-word.ensures.goes
          (g.S.Steps.now c.find_item-found.new.steps) e.kept e.goes (g.S.Steps.now c.load-generation.new.self)
          c.load-generation.result c.load-generation.ensures.goes c.if-generation-word.true;
      value = e.value;
    }

pub returns-else-generation-word : goal.returns-else-generation-word
returns-else-generation-word g c =
    let f : Going = g.S.Steps.now c.args.steps.now in
    let e = c.find_item-found.ensures in
    check_fails f c.args.desk.now c.requires.desk (OfKey c.args.key.now) c.args.left c.requires.phase
    (g.S.Steps.now c.load-word.new.self) c.load-word.result c.load-word.ensures.goes
    (g.S.Steps.now c.find_item-found.new.steps) e.kept e.goes (g.S.Steps.now c.load-generation.new.self)
    c.load-generation.result c.load-generation.ensures.goes c.if-generation-word.false
