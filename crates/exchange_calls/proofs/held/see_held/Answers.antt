-- A hold, the row that is held, and the hold is given back.
use Rattle.std.proofs.Common.{◌∙◌, sym, ap}
use Rattle.exchange_model.specs.Steps.{Applied, GiveBack, Goes, HeldHead, Over}
use Rattle.exchange_calls.specs.Going.{Going, on}
use Rattle.exchange_calls.specs.Items.{OfUpdate, UpdateGives, asked_again}
use Rattle.exchange_calls.proofs.FindLemmas.{asks_of}
use Rattle.exchange_calls.proofs.GoesLemmas.{on_of}
use Rattle.exchange_calls.proofs.held.see_held.Goals as goal

pub hold-row-requires-clause-wanting : goal.hold-row-requires-clause-wanting
hold-row-requires-clause-wanting g c = record {
  holder = OfUpdate c.args.own.now.call;
  stand = c.requires.phase;
  bucket_is = c.requires.bucket;
}

pub find_entry-reply-requires-clause-phase : goal.find_entry-reply-requires-clause-phase
find_entry-reply-requires-clause-phase g c =
    ap (λ (h : Going). h.now.stand) (c.hold-row.ensures.goes (OfUpdate c.args.own.now.call) c.requires.phase)

pub find_entry-reply-requires-clause-desk : goal.find_entry-reply-requires-clause-desk
find_entry-reply-requires-clause-desk g c =
    let f : Going = g.S.Steps.now c.args.steps.now in
    on_of (asked_again f) (g.S.Steps.now c.hold-row.new.steps) (Goes c.args.own.now.call (HeldHead c.hold-row.result))
    c.args.desk.now (c.hold-row.ensures.goes (OfUpdate c.args.own.now.call) c.requires.phase)
    (asks_of f c.args.desk.now c.requires.desk)

pub find_entry-reply-requires-clause-number : goal.find_entry-reply-requires-clause-number
find_entry-reply-requires-clause-number g c =
    c.requires.number
    ∙ sym (ap (λ (h : Going). h.now.posted)
    (c.hold-row.ensures.goes (OfUpdate c.args.own.now.call) c.requires.phase))

pub give_back-requires-clause-giving : goal.give_back-requires-clause-giving
give_back-requires-clause-giving g c = record {
  giver = UpdateGives c.args.own.now.call c.find_entry-reply.result;
  stand = ap (λ (h : Going). h.now.stand) c.find_entry-reply.ensures;
}

pub give_back-requires-clause-desk : goal.give_back-requires-clause-desk
give_back-requires-clause-desk g c =
    let f : Going = g.S.Steps.now c.args.steps.now in
    on_of (asked_again f) (g.S.Steps.now c.find_entry-reply.new.steps)
    (Goes c.args.own.now.call (GiveBack c.find_entry-reply.result)) c.args.desk.now
    (c.find_entry-reply.ensures
    ∙ ap (λ (h : Going). on h (Goes c.args.own.now.call (GiveBack c.find_entry-reply.result)))
    (c.hold-row.ensures.goes (OfUpdate c.args.own.now.call) c.requires.phase))
    (asks_of f c.args.desk.now c.requires.desk)

pub returns-clause-goes : goal.returns-clause-goes
returns-clause-goes g c =
    let f : Going = g.S.Steps.now c.args.steps.now in
    let over = Goes c.args.own.now.call (Over (Applied c.find_entry-reply.result)) in
    c.give_back.ensures (UpdateGives c.args.own.now.call c.find_entry-reply.result)
    (ap (λ (h : Going). h.now.stand) c.find_entry-reply.ensures)
    ∙ ap (λ (h : Going). on h over) c.find_entry-reply.ensures
    ∙ ap (λ (h : Going). on h over) (c.hold-row.ensures.goes (OfUpdate c.args.own.now.call) c.requires.phase)
