-- Four steps, whoever asks.
use Rattle.std.proofs.Common.{◌∙◌, ℕ, ◌+◌, ◌*◌, ap, arith}
use Rattle.exchange_calls.specs.Going.{Going, on}
use Rattle.exchange_calls.specs.Items.{asked_again, holds_row}
use Rattle.exchange_calls.proofs.HoldLemmas.{asked, asking_asked, found_word, has_taken, held_few, loading_asked, taken_given, taken_own, taking_asked, want_asked, wanted}
use Rattle.exchange_calls.proofs.PlaceLemmas.{row_in_is}
use Rattle.exchange_calls.proofs.holding.hold.Goals as goal

pub store-requires : goal.store-requires
store-requires g c =
    let f : Going = g.S.Steps.now c.args.steps.now in
    let w = c.requires.wanting in
    record {
      asked = want_asked f w.holder w.stand c.args.desk.now c.requires.desk _ _ c.want-wanted.ensures w.bucket_is;
    }

pub store-requires-2 : goal.store-requires-2
store-requires-2 g c =
    let f : Going = g.S.Steps.now c.args.steps.now in
    let w = c.requires.wanting in
    record {
      asked = asking_asked f w.holder w.stand c.args.desk.now c.requires.desk (g.S.Steps.now c.store.new.self)
          (wanted f w.holder w.stand (g.S.Steps.now c.store.new.self) c.store.ensures.goes) _ _ c.hold-own.ensures
          (omega (arith, c.requires.time));
    }

pub load-word-requires : goal.load-word-requires
load-word-requires g c =
    let f : Going = g.S.Steps.now c.args.steps.now in
    let w = c.requires.wanting in
    record {
      asked = loading_asked f w.holder w.stand c.args.desk.now c.requires.desk (g.S.Steps.now c.store-2.new.self)
          (asked f w.holder w.stand (g.S.Steps.now c.store.new.self) c.store.ensures.goes
          (g.S.Steps.now c.store-2.new.self) c.store-2.ensures.goes) _ _ c.bucket-place.ensures w.bucket_is;
    }

pub exchange-found-requires : goal.exchange-found-requires
exchange-found-requires g c =
    let f : Going = g.S.Steps.now c.args.steps.now in
    let w = c.requires.wanting in
    let word : ℕ = c.load-word.result in
    record {
      asked = taking_asked f w.holder w.stand c.args.desk.now c.requires.desk (g.S.Steps.now c.load-word.new.self) word
          (found_word f w.holder w.stand (g.S.Steps.now c.store.new.self) c.store.ensures.goes
          (g.S.Steps.now c.store-2.new.self) c.store-2.ensures.goes (g.S.Steps.now c.load-word.new.self) word
          c.load-word.ensures.goes) _ _ _ c.hold-own.ensures (omega (arith, c.requires.time))
          (ap (λ (r : ℕ). 2 * (r + 1)) (row_in_is f c.args.desk.now c.requires.desk word _ c.row_in-row.ensures.value));
    }

pub returns-then-found-asking-clause-goes : goal.returns-then-found-asking-clause-goes
returns-then-found-asking-clause-goes g c holder stand =
    let f : Going = g.S.Steps.now c.args.steps.now in
    has_taken f holder stand (g.S.Steps.now c.store.new.self) c.store.ensures.goes
    (g.S.Steps.now c.store-2.new.self) c.store-2.ensures.goes (g.S.Steps.now c.load-word.new.self)
    c.load-word.result c.load-word.ensures.goes (g.S.Steps.now c.exchange-found.new.self) c.exchange-found.result
    c.exchange-found.ensures.goes
    ∙ ap (λ (r : ℕ). on (asked_again f) (holds_row holder r))
    (taken_own f.plan (f.now.time + 1) c.load-word.result c.exchange-found.result _
    (omega (arith, c.if-found-asking.true, c.requires.time))
    (row_in_is f c.args.desk.now c.requires.desk c.load-word.result _ c.row_in-row.ensures.value))

pub returns-else-found-asking-clause-goes : goal.returns-else-found-asking-clause-goes
returns-else-found-asking-clause-goes g c holder stand =
    let f : Going = g.S.Steps.now c.args.steps.now in
    has_taken f holder stand (g.S.Steps.now c.store.new.self) c.store.ensures.goes
    (g.S.Steps.now c.store-2.new.self) c.store-2.ensures.goes (g.S.Steps.now c.load-word.new.self)
    c.load-word.result c.load-word.ensures.goes (g.S.Steps.now c.exchange-found.new.self) c.exchange-found.result
    c.exchange-found.ensures.goes
    ∙ ap (λ (r : ℕ). on (asked_again f) (holds_row holder r))
    (taken_given f.plan (f.now.time + 1) c.load-word.result c.exchange-found.result _
    (λ e. c.if-found-asking.false (omega (arith, e, c.requires.time))) c.saturating_sub.ensures)

pub returns-else-found-asking-clause-row : goal.returns-else-found-asking-clause-row
returns-else-found-asking-clause-row g c =
    let f : Going = g.S.Steps.now c.args.steps.now in
    let w = c.requires.wanting in
    held_few f (g.S.Steps.now c.exchange-found.new.self) w.holder c.args.desk.now _ c.requires.desk
    (returns-else-found-asking-clause-goes g c w.holder w.stand) c.stands.ensures
