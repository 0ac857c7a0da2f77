-- The generation, the words of the seats, the count, and the items.
use Rattle.std.proofs.Common.{ℕ, ◌+◌, ap, refl}
use Rattle.lasting_calls.proofs.StoreRowLemmas.{count_asked, generation_asked, items_stored, items_write, seats_write}
use Rattle.lasting_calls.proofs.rows.store_row.Goals as goal

pub store-requires : goal.store-requires
store-requires g c = record {
  asked = generation_asked (g.S.Steps.now c.args.steps.now) c.args.desk.now c.args.own.now c.requires.desk
      c.requires.own c.args.words.now c.requires.storing c.requires.count c.row-first.result c.row-first.ensures;
}

pub store_run-requires-clause-writes : goal.store_run-requires-clause-writes
store_run-requires-clause-writes g c =
    seats_write (g.S.Steps.now c.args.steps.now) c.args.desk.now c.args.own.now c.requires.desk c.requires.own
    c.args.words.now c.requires.storing c.requires.count c.row-first.result c.row-first.ensures
    (g.S.Steps.now c.store.new.self) c.store.ensures.goes _ refl _ refl

pub store-requires-2 : goal.store-requires-2
store-requires-2 g c = record {
  asked = count_asked (g.S.Steps.now c.args.steps.now) c.args.desk.now c.args.own.now c.requires.desk c.requires.own
      c.args.words.now c.requires.storing c.requires.count c.row-first.result c.row-first.ensures
      (g.S.Steps.now c.store.new.self) c.store.ensures.goes _ refl (g.S.Steps.now c.store_run.new.steps)
      c.store_run.ensures.goes _ (ap (λ (n : ℕ). c.row-first.result + n) c.count-offset.ensures);
}

pub store_run-requires-2-clause-writes : goal.store_run-requires-2-clause-writes
store_run-requires-2-clause-writes g c =
    items_write (g.S.Steps.now c.args.steps.now) c.args.desk.now c.args.own.now c.requires.desk c.requires.own
    c.args.words.now c.requires.storing c.requires.count c.row-first.result c.row-first.ensures
    (g.S.Steps.now c.store.new.self) c.store.ensures.goes _ refl (g.S.Steps.now c.store_run.new.steps)
    c.store_run.ensures.goes (g.S.Steps.now c.store-2.new.self) c.store-2.ensures.goes _ refl _
    (ap (λ (n : ℕ). c.row-first.result + n + 1) c.count-offset.ensures)

pub returns : goal.returns
returns g c s =
    items_stored (g.S.Steps.now c.args.steps.now) c.args.desk.now c.args.own.now c.requires.desk c.requires.own
    c.args.words.now s c.requires.count c.row-first.result c.row-first.ensures
    (g.S.Steps.now c.store.new.self) c.store.ensures.goes _ refl (g.S.Steps.now c.store_run.new.steps)
    c.store_run.ensures.goes (g.S.Steps.now c.store-2.new.self) c.store-2.ensures.goes _ refl
    (g.S.Steps.now c.store_run-2.new.steps) c.store_run-2.ensures.goes
