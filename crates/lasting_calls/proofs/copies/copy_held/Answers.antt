-- A hold, and then the row that is held.
use Rattle.std.proofs.Common.{◌∙◌, List, take, refl, ap}
use Rattle.plain_map.specs.declared.keys.Pair.{Pair}
use Rattle.lasting_model.specs.Steps.{Aim, OfBucket, GlanceCount, HeldIn}
use Rattle.lasting_model.specs.Goes.{Looks, Shows}
use Rattle.lasting_calls.specs.Going.{Going}
use Rattle.lasting_calls.specs.Items.{OfLook, asked_again, looking}
use Rattle.lasting_calls.proofs.LookLemmas.{looking_on}
use Rattle.lasting_calls.proofs.FindLemmas.{asks_of, still_of}
use Rattle.lasting_calls.proofs.copies.copy_held.Goals as goal

pub hold-row-requires-clause-wanting : goal.hold-row-requires-clause-wanting
hold-row-requires-clause-wanting g c = record {
  holder = OfLook (OfBucket c.args.bucket);
  stand = c.requires.phase;
  bucket_is = refl;
}

pub copy_items-requires-clause-phase : goal.copy_items-requires-clause-phase
copy_items-requires-clause-phase g c =
    ap (λ (h : Going). h.now.stand) (c.hold-row.ensures.goes (OfLook (OfBucket c.args.bucket)) c.requires.phase)

pub copy_items-requires-clause-desk : goal.copy_items-requires-clause-desk
copy_items-requires-clause-desk g c =
    still_of (asked_again (g.S.Steps.now c.args.steps.now)) (g.S.Steps.now c.hold-row.new.steps)
    (OfBucket c.args.bucket) (Looks (GlanceCount (HeldIn c.hold-row.result))) c.args.desk.now
    (c.hold-row.ensures.goes (OfLook (OfBucket c.args.bucket)) c.requires.phase)
    (asks_of (g.S.Steps.now c.args.steps.now) c.args.desk.now c.requires.desk)

pub returns-clause-shown : goal.returns-clause-shown
returns-clause-shown g c =
    let first : Going = asked_again (g.S.Steps.now c.args.steps.now) in
    let aim : Aim = OfBucket c.args.bucket in
    let kept : List Pair = take c.copy_items.result c.copy_items.new.out in
    c.copy_items.ensures.goes
    ∙ ap (λ (h : Going). looking h aim (Shows kept)) (c.hold-row.ensures.goes (OfLook aim) c.requires.phase)
    ∙ looking_on first aim (GlanceCount (HeldIn c.hold-row.result)) (Shows kept)
