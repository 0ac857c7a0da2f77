-- A hold, and then the row that is held.
use Rattle.std.proofs.Common.{List, take, refl, ap}
use Rattle.plain_map.specs.declared.keys.Pair.{Pair}
use Rattle.exchange_model.specs.Steps.{Aim, OfBucket, GlanceCount, HeldIn}
use Rattle.exchange_model.specs.Goes.{Looks}
use Rattle.exchange_calls.specs.Going.{Going}
use Rattle.exchange_calls.specs.Items.{LookGives, OfLook, asked_again}
use Rattle.exchange_calls.proofs.EndLemmas.{back_of, back_shown, back_stands}
use Rattle.exchange_calls.proofs.FindLemmas.{asks_of, still_of}
use Rattle.exchange_calls.proofs.copies.copy_held.Goals as goal

pub hold-row-requires-clause-wanting : goal.hold-row-requires-clause-wanting
hold-row-requires-clause-wanting g c = record {
  holder = OfLook (OfBucket c.args.bucket);
  stand = c.requires.phase;
  bucket_is = refl;
}

pub copy_items-count-requires-clause-phase : goal.copy_items-count-requires-clause-phase
copy_items-count-requires-clause-phase g c =
    ap (λ (h : Going). h.now.stand) (c.hold-row.ensures.goes (OfLook (OfBucket c.args.bucket)) c.requires.phase)

pub copy_items-count-requires-clause-desk : goal.copy_items-count-requires-clause-desk
copy_items-count-requires-clause-desk g c =
    still_of (asked_again (g.S.Steps.now c.args.steps.now)) (g.S.Steps.now c.hold-row.new.steps)
    (OfBucket c.args.bucket) (Looks (GlanceCount (HeldIn c.hold-row.result))) c.args.desk.now
    (c.hold-row.ensures.goes (OfLook (OfBucket c.args.bucket)) c.requires.phase)
    (asks_of (g.S.Steps.now c.args.steps.now) c.args.desk.now c.requires.desk)

pub give_back-requires-clause-giving : goal.give_back-requires-clause-giving
give_back-requires-clause-giving g c =
    let kept : List Pair = take c.copy_items-count.result c.copy_items-count.new.out in
    record {
      giver = LookGives (OfBucket c.args.bucket) kept;
      stand = back_stands (g.S.Steps.now c.args.steps.now) (g.S.Steps.now c.hold-row.new.steps)
          (OfBucket c.args.bucket) c.hold-row.result
          (c.hold-row.ensures.goes (OfLook (OfBucket c.args.bucket)) c.requires.phase)
          (g.S.Steps.now c.copy_items-count.new.steps) kept c.copy_items-count.ensures.goes;
    }

pub give_back-requires-clause-desk : goal.give_back-requires-clause-desk
give_back-requires-clause-desk g c =
    back_of (g.S.Steps.now c.args.steps.now) (g.S.Steps.now c.hold-row.new.steps) (OfBucket c.args.bucket)
    c.hold-row.result (c.hold-row.ensures.goes (OfLook (OfBucket c.args.bucket)) c.requires.phase)
    (g.S.Steps.now c.copy_items-count.new.steps) (take c.copy_items-count.result c.copy_items-count.new.out)
    c.copy_items-count.ensures.goes c.args.desk.now c.requires.desk

pub returns-clause-shown : goal.returns-clause-shown
returns-clause-shown g c =
    let aim : Aim = OfBucket c.args.bucket in
    let f : Going = g.S.Steps.now c.args.steps.now in
    let held = c.hold-row.ensures.goes (OfLook aim) c.requires.phase in
    let kept : List Pair = take c.copy_items-count.result c.copy_items-count.new.out in
    back_shown f (g.S.Steps.now c.hold-row.new.steps) aim c.hold-row.result held
    (g.S.Steps.now c.copy_items-count.new.steps) kept c.copy_items-count.ensures.goes
    (g.S.Steps.now c.give_back.new.steps)
    (c.give_back.ensures (LookGives aim kept)
    (back_stands f (g.S.Steps.now c.hold-row.new.steps) aim c.hold-row.result held
    (g.S.Steps.now c.copy_items-count.new.steps) kept c.copy_items-count.ensures.goes))
