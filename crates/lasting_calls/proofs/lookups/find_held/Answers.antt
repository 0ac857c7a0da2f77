-- A hold, and then the row that is held.
use Rattle.std.proofs.Common.{◌∙◌, ap}
use Rattle.lasting_model.specs.Steps.{Aim, OfKey, GlanceCount, HeldIn}
use Rattle.lasting_model.specs.Goes.{Looks, Shows}
use Rattle.lasting_calls.specs.Going.{Going}
use Rattle.lasting_calls.specs.Items.{OfLook, asked_again, looking}
use Rattle.lasting_calls.proofs.LookLemmas.{looking_on}
use Rattle.lasting_calls.proofs.FindLemmas.{asks_of, still_of}
use Rattle.lasting_calls.proofs.PlaceLemmas.{bucket_same}
use Rattle.lasting_calls.proofs.lookups.find_held.Goals as goal

pub hold-row-requires-clause-wanting : goal.hold-row-requires-clause-wanting
hold-row-requires-clause-wanting g c = record {
  holder = OfLook (OfKey c.args.key.now);
  stand = c.requires.phase;
  bucket_is = c.requires.bucket
      ∙ bucket_same (g.S.Steps.now c.args.steps.now) c.args.desk.now c.args.key.now c.requires.desk;
}

pub find_item-requires-clause-phase : goal.find_item-requires-clause-phase
find_item-requires-clause-phase g c =
    ap (λ (h : Going). h.now.stand) (c.hold-row.ensures.goes (OfLook (OfKey c.args.key.now)) c.requires.phase)

pub find_item-requires-clause-desk : goal.find_item-requires-clause-desk
find_item-requires-clause-desk g c =
    still_of (asked_again (g.S.Steps.now c.args.steps.now)) (g.S.Steps.now c.hold-row.new.steps)
    (OfKey c.args.key.now) (Looks (GlanceCount (HeldIn c.hold-row.result))) c.args.desk.now
    (c.hold-row.ensures.goes (OfLook (OfKey c.args.key.now)) c.requires.phase)
    (asks_of (g.S.Steps.now c.args.steps.now) c.args.desk.now c.requires.desk)

pub returns-clause-shown : goal.returns-clause-shown
returns-clause-shown g c =
    let first : Going = asked_again (g.S.Steps.now c.args.steps.now) in
    let aim : Aim = OfKey c.args.key.now in
    let e = c.find_item.ensures in
    record {
      kept = e.kept;
      goes = e.goes
          ∙ ap (λ (h : Going). looking h aim (Shows e.kept)) (c.hold-row.ensures.goes (OfLook aim) c.requires.phase)
          ∙ looking_on first aim (GlanceCount (HeldIn c.hold-row.result)) (Shows e.kept);
      value = e.value;
    }
