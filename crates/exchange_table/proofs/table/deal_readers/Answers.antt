use Rattle.std.proofs.Common.{◌≡◌, ◌∙◌, ◌-◌, ◌+◌, suc, List, ap, refl, sym, subst, arith}
use Rattle.atomic_table.specs.Table.{Splits}
use Rattle.exchange_table.specs.declared.rule.Opening.{Opening}
use Rattle.exchange_table.specs.declared.view.View.{View}
use Rattle.exchange_table.specs.Parties.{Holding}
use Rattle.exchange_table.specs.Rule.{Holds, M, alone, foremost, fresh, fresh_from, others, plain}
use Rattle.exchange_table.specs.Values.{TableValue}
use Rattle.exchange_model.specs.Plans.{IsPlan, holders_of}
use Rattle.exchange_table.proofs.Opens.{splits}
use Rattle.exchange_table.proofs.Seated.{dealt_readers, fresh_same, inside_readers, one_more, plan_same, splits_from}
use Rattle.exchange_table.proofs.table.deal_readers.Goals as goal

pub split_seat-token-requires : goal.split_seat-token-requires
split_seat-token-requires c =
    let o = c.args.opening.now in
    let k = o.sizes.seats + c.loop-number.number in
    let n = holders_of (plain o).settings in
    let is : c.loop-number.rest.me.0 ≡ record { bundle = fresh_from (plain o) k (n - k) } =
    ap (λ (m : M). m.0) c.loop-number.invariant.rest in (
      c.loop-number.invariant.table,
      c.requires.some,
      subst (λ (z : Opening × View). Splits (Holds (plain z.0)) c.loop-number.rest.id z.1 (others z.1) (foremost z.1))
          (λ i. (
            sym c.requires.key i,
            sym (is ∙ ap (λ (b : List Holding). record { bundle = b }) (splits_from (plain o) k n
                (inside_readers c.loop-number.number o.sizes.seats o.sizes.readers
                c.loop-number-test.true))) i,
          ))
          (splits (plain o) c.loop-number.rest.id (fresh (plain o) k) k (fresh_from (plain o) (suc k) (n - (k + 1)))
          refl),
    )

pub holding-requires-clause-plan : goal.holding-requires-clause-plan
holding-requires-clause-plan c = subst IsPlan (sym (plan_same c.new-desk.result c.args.opening.now
    c.new-desk.ensures.sizes c.new-desk.ensures.hashing)) c.requires.plan

pub holding-requires-clause-token : goal.holding-requires-clause-token
holding-requires-clause-token c =
    let o = c.args.opening.now in
    (dealt_readers (plain o) c.loop-number.rest.me c.split_seat-token.new.seat.me c.split_seat-token.result.me
    o.sizes.seats c.loop-number.number (holders_of (plain o).settings) (inside_readers c.loop-number.number
    o.sizes.seats o.sizes.readers
    c.loop-number-test.true) c.loop-number.invariant.rest
    c.split_seat-token.ensures.2 c.split_seat-token.ensures.4).1
    ∙ ap alone (sym (fresh_same c.new-desk.result o (o.sizes.seats + c.loop-number.number) c.new-desk.ensures.sizes
    c.new-desk.ensures.hashing c.new-desk.ensures.holder))

pub loop-number-preserved : goal.loop-number-preserved
loop-number-preserved c =
    let o = c.args.opening.now in
    let t : TableValue = record { table_id = c.args.words.now.table_id; plan = plain o } in
    let d = dealt_readers (plain o) c.loop-number.rest.me c.split_seat-token.new.seat.me c.split_seat-token.result.me
    o.sizes.seats c.loop-number.number (holders_of (plain o).settings) (inside_readers c.loop-number.number
    o.sizes.seats o.sizes.readers
    c.loop-number-test.true) c.loop-number.invariant.rest
    c.split_seat-token.ensures.2 c.split_seat-token.ensures.4 in
    record {
      table = c.split_seat-token.ensures.0 ∙ c.loop-number.invariant.table;
      rest = d.0;
      out = one_more t o.sizes.seats c.loop-number.out.items c.push_reserved.new.self.items c.holding.result
          c.loop-number.number (o.sizes.seats + c.loop-number.number) refl
          (c.holding.ensures.table ∙ c.split_seat-token.ensures.3 ∙ c.loop-number.invariant.table)
          (c.holding.ensures.holding ∙ fresh_same c.new-desk.result o (o.sizes.seats + c.loop-number.number)
          c.new-desk.ensures.sizes
          c.new-desk.ensures.hashing c.new-desk.ensures.holder) c.loop-number.invariant.out
          c.push_reserved.ensures.items;
      count = omega (arith, c.push_reserved.ensures.len, c.loop-number.invariant.count);
      room = c.push_reserved.ensures.capacity ∙ c.loop-number.invariant.room;
    }
