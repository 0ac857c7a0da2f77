-- A hold, and then the row that is held.
use Rattle.std.proofs.Common.{◌∙◌, ap}
use Rattle.exchange_model.specs.Steps.{Aim, OfKey, GlanceCount, HeldIn}
use Rattle.exchange_model.specs.Goes.{Looks}
use Rattle.exchange_calls.specs.Going.{Going}
use Rattle.exchange_calls.specs.Items.{LookGives, OfLook, asked_again}
use Rattle.exchange_calls.proofs.EndLemmas.{back_of, back_shown, back_stands}
use Rattle.exchange_calls.proofs.FindLemmas.{asks_of, still_of}
use Rattle.exchange_calls.proofs.PlaceLemmas.{bucket_same}
use Rattle.exchange_calls.proofs.lookups.find_held.Goals as goal

pub hold-row-requires-clause-wanting : goal.hold-row-requires-clause-wanting
hold-row-requires-clause-wanting g c = record {
  holder = OfLook (OfKey c.args.key.now);
  stand = c.requires.phase;
  bucket_is = c.requires.bucket
      ∙ bucket_same (g.S.Steps.now c.args.steps.now) c.args.desk.now c.args.key.now c.requires.desk;
}

pub find_item-found-requires-clause-phase : goal.find_item-found-requires-clause-phase
find_item-found-requires-clause-phase g c =
    ap (λ (h : Going). h.now.stand) (c.hold-row.ensures.goes (OfLook (OfKey c.args.key.now)) c.requires.phase)

pub find_item-found-requires-clause-desk : goal.find_item-found-requires-clause-desk
find_item-found-requires-clause-desk g c =
    still_of (asked_again (g.S.Steps.now c.args.steps.now)) (g.S.Steps.now c.hold-row.new.steps)
    (OfKey c.args.key.now) (Looks (GlanceCount (HeldIn c.hold-row.result))) c.args.desk.now
    (c.hold-row.ensures.goes (OfLook (OfKey c.args.key.now)) c.requires.phase)
    (asks_of (g.S.Steps.now c.args.steps.now) c.args.desk.now c.requires.desk)

pub give_back-requires-clause-giving : goal.give_back-requires-clause-giving
give_back-requires-clause-giving g c = record {
  giver = LookGives (OfKey c.args.key.now) c.find_item-found.ensures.kept;
  stand = back_stands (g.S.Steps.now c.args.steps.now) (g.S.Steps.now c.hold-row.new.steps) (OfKey c.args.key.now)
      c.hold-row.result (c.hold-row.ensures.goes (OfLook (OfKey c.args.key.now)) c.requires.phase)
      (g.S.Steps.now c.find_item-found.new.steps) c.find_item-found.ensures.kept c.find_item-found.ensures.goes;
}

pub give_back-requires-clause-desk : goal.give_back-requires-clause-desk
give_back-requires-clause-desk g c =
    back_of (g.S.Steps.now c.args.steps.now) (g.S.Steps.now c.hold-row.new.steps) (OfKey c.args.key.now)
    c.hold-row.result (c.hold-row.ensures.goes (OfLook (OfKey c.args.key.now)) c.requires.phase)
    (g.S.Steps.now c.find_item-found.new.steps) c.find_item-found.ensures.kept c.find_item-found.ensures.goes
    c.args.desk.now c.requires.desk

pub returns-clause-shown : goal.returns-clause-shown
returns-clause-shown g c =
    let aim : Aim = OfKey c.args.key.now in
    let f : Going = g.S.Steps.now c.args.steps.now in
    let held = c.hold-row.ensures.goes (OfLook aim) c.requires.phase in
    let e = c.find_item-found.ensures in
    record {
      kept = e.kept;
      goes = back_shown f (g.S.Steps.now c.hold-row.new.steps) aim c.hold-row.result held
          (g.S.Steps.now c.find_item-found.new.steps) e.kept e.goes (g.S.Steps.now c.give_back.new.steps)
          (c.give_back.ensures (LookGives aim e.kept)
          (back_stands f (g.S.Steps.now c.hold-row.new.steps) aim c.hold-row.result held
          (g.S.Steps.now c.find_item-found.new.steps) e.kept e.goes));
      value = e.value;
    }
