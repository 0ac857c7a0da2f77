-- The row is held, and its two words of the seat are loaded.
use Rattle.std.proofs.Common.{◌∙◌, refl, ap}
use Rattle.lasting_model.specs.Steps.{Goes, HeldNumber}
use Rattle.lasting_model.specs.Goes.{Ends}
use Rattle.lasting_calls.specs.Going.{Going}
use Rattle.lasting_calls.specs.Items.{OfUpdate, asked_again}
use Rattle.lasting_calls.specs.Updates.{making, update_of}
use Rattle.lasting_calls.proofs.FindLemmas.{asks_of}
use Rattle.lasting_calls.proofs.GoesLemmas.{on_of}
use Rattle.lasting_calls.proofs.TryLemmas.{held_reply, held_stuck, number_asked, number_seen, reply_asked}
use Rattle.lasting_calls.proofs.updates.see_held.Goals as goal

pub hold-row-requires-clause-wanting : goal.hold-row-requires-clause-wanting
hold-row-requires-clause-wanting g c = record {
  holder = OfUpdate (update_of c.args.own.now);
  stand = c.requires.phase;
  bucket_is = c.requires.own.bucket;
}

pub load-number-requires : goal.load-number-requires
load-number-requires g c =
    let f : Going = g.S.Steps.now c.args.steps.now in
    let u = update_of c.args.own.now in
    let here = c.hold-row.ensures.goes (OfUpdate u) c.requires.phase in
    record {
      asked = number_asked (g.S.Steps.now c.hold-row.new.steps) c.args.desk.now
          (on_of (asked_again f) (g.S.Steps.now c.hold-row.new.steps) (Goes u (HeldNumber c.hold-row.result))
          c.args.desk.now here (asks_of f c.args.desk.now c.requires.desk)) u c.hold-row.result c.row-first.result
          c.row-first.ensures (ap (λ (h : Going). h.now.stand) here) _ refl;
    }

pub load-word-requires : goal.load-word-requires
load-word-requires g c =
    let f : Going = g.S.Steps.now c.args.steps.now in
    let u = update_of c.args.own.now in
    let held : Going = g.S.Steps.now c.hold-row.new.steps in
    let here = c.hold-row.ensures.goes (OfUpdate u) c.requires.phase in
    let is = on_of (asked_again f) held (Goes u (HeldNumber c.hold-row.result)) c.args.desk.now here
    (asks_of f c.args.desk.now c.requires.desk) in
    record {
      asked = reply_asked held c.args.desk.now is u c.hold-row.result c.row-first.result c.row-first.ensures
          (g.S.Steps.now c.load-number.new.self)
          (number_seen held c.args.desk.now is u c.hold-row.result c.row-first.result c.row-first.ensures
          (ap (λ (h : Going). h.now.stand) here) (g.S.Steps.now c.load-number.new.self) c.load-number.result
          c.load-number.ensures.goes c.load-number.ensures.fits) _ refl;
    }

pub unreachable-requires : goal.unreachable-requires
unreachable-requires g c =
    let f : Going = g.S.Steps.now c.args.steps.now in
    let u = update_of c.args.own.now in
    let held : Going = g.S.Steps.now c.hold-row.new.steps in
    let here = c.hold-row.ensures.goes (OfUpdate u) c.requires.phase in
    let is = on_of (asked_again f) held (Goes u (HeldNumber c.hold-row.result)) c.args.desk.now here
    (asks_of f c.args.desk.now c.requires.desk) in
    held_stuck held c.args.desk.now is u c.hold-row.result c.row-first.result c.row-first.ensures
    (ap (λ (h : Going). h.now.stand) here) (g.S.Steps.now c.load-number.new.self) c.load-number.result
    c.load-number.ensures.goes c.load-number.ensures.fits (g.S.Steps.now c.load-word.new.self) c.load-word.result
    c.load-word.ensures.goes c.reply_of.result c.reply_of.ensures.value c.load-word.ensures.fits c.in_default.is

pub returns-clause-told : goal.returns-clause-told
returns-clause-told g c =
    let f : Going = g.S.Steps.now c.args.steps.now in
    let u = update_of c.args.own.now in
    let held : Going = g.S.Steps.now c.hold-row.new.steps in
    let here = c.hold-row.ensures.goes (OfUpdate u) c.requires.phase in
    let is = on_of (asked_again f) held (Goes u (HeldNumber c.hold-row.result)) c.args.desk.now here
    (asks_of f c.args.desk.now c.requires.desk) in
    held_reply held c.args.desk.now is u c.hold-row.result c.row-first.result c.row-first.ensures
    (ap (λ (h : Going). h.now.stand) here) (g.S.Steps.now c.load-number.new.self) c.load-number.result
    c.load-number.ensures.goes c.load-number.ensures.fits (g.S.Steps.now c.load-word.new.self) c.load-word.result
    c.load-word.ensures.goes c.reply_of.result c.reply_of.ensures.value c.in-Some.reply c.in-Some.is
    ∙ ap (λ (h : Going). making h u (Ends c.in-Some.reply)) here
