use Rattle.std.proofs.Common.{◌≡◌, ◌∙◌, ◌-◌, ◌+◌, suc, List, ap, refl, sym, subst, arith}
use Rattle.atomic_table.specs.Table.{Splits}
use Rattle.exchange_table.specs.declared.rule.Opening.{Opening}
use Rattle.exchange_table.specs.declared.view.View.{View}
use Rattle.exchange_table.specs.Parties.{Holding}
use Rattle.exchange_table.specs.Rule.{Holds, M, alone, foremost, fresh, fresh_from, others, plain}
use Rattle.exchange_table.specs.Values.{TableValue}
use Rattle.exchange_model.specs.Plans.{IsPlan, holders_of}
use Rattle.exchange_table.proofs.Opens.{splits}
use Rattle.exchange_table.proofs.Seated.{dealt, fresh_same, inside, one_more, plan_same, splits_from}
use Rattle.exchange_table.proofs.table.deal_seats.Goals as goal

pub split_seat-token-requires : goal.split_seat-token-requires
split_seat-token-requires c =
    let o = c.args.opening.now in
    let k = c.loop-number.number in
    let n = holders_of (plain o).settings in
    let is : c.loop-number.rest.me.0 ≡ record { bundle = fresh_from (plain o) k (n - k) } =
    ap (λ (m : M). m.0) c.loop-number.invariant.rest in (
      c.loop-number.invariant.table,
      c.requires.some,
      subst (λ (z : Opening × View). Splits (Holds (plain z.0)) c.loop-number.rest.id z.1 (others z.1) (foremost z.1))
          (λ i. (
            sym c.requires.key i,
            sym (is ∙ ap (λ (b : List Holding). record { bundle = b }) (splits_from (plain o) k n
                (inside c.loop-number.number o.sizes.seats o.sizes.readers
                c.loop-number-test.true))) i,
          ))
          (splits (plain o) c.loop-number.rest.id (fresh (plain o) k) k (fresh_from (plain o) (suc k) (n - (k + 1)))
          refl),
    )

pub seated-requires-clause-plan : goal.seated-requires-clause-plan
seated-requires-clause-plan c = subst IsPlan (sym (plan_same c.new-desk.result c.args.opening.now
    c.new-desk.ensures.sizes c.new-desk.ensures.hashing)) c.requires.plan

pub seated-requires-clause-token : goal.seated-requires-clause-token
seated-requires-clause-token c =
    let o = c.args.opening.now in
    (dealt (plain o) c.loop-number.rest.me c.split_seat-token.new.seat.me c.split_seat-token.result.me
    c.loop-number.number (holders_of (plain o).settings) (inside c.loop-number.number o.sizes.seats o.sizes.readers
    c.loop-number-test.true) c.loop-number.invariant.rest
    c.split_seat-token.ensures.2 c.split_seat-token.ensures.4).1
    ∙ ap alone (sym (fresh_same c.new-desk.result o c.loop-number.number c.new-desk.ensures.sizes
    c.new-desk.ensures.hashing c.new-desk.ensures.holder))

pub loop-number-preserved : goal.loop-number-preserved
loop-number-preserved c =
    let o = c.args.opening.now in
    let t : TableValue = record { table_id = c.args.words.now.table_id; plan = plain o } in
    let d = dealt (plain o) c.loop-number.rest.me c.split_seat-token.new.seat.me c.split_seat-token.result.me
    c.loop-number.number (holders_of (plain o).settings) (inside c.loop-number.number o.sizes.seats o.sizes.readers
    c.loop-number-test.true) c.loop-number.invariant.rest
    c.split_seat-token.ensures.2 c.split_seat-token.ensures.4 in
    record {
      table = c.split_seat-token.ensures.0 ∙ c.loop-number.invariant.table;
      rest = d.0;
      out = one_more t 0 c.loop-number.out.items c.push_reserved.new.self.items c.seated.result c.loop-number.number
          c.loop-number.number
          (let zero : c.loop-number.number ≡ 0 + c.loop-number.number = omega arith in zero)
          (c.seated.ensures.table ∙ c.split_seat-token.ensures.3 ∙ c.loop-number.invariant.table)
          (c.seated.ensures.holding ∙ fresh_same c.new-desk.result o c.loop-number.number c.new-desk.ensures.sizes
          c.new-desk.ensures.hashing c.new-desk.ensures.holder) c.loop-number.invariant.out
          c.push_reserved.ensures.items;
      count = omega (arith, c.push_reserved.ensures.len, c.loop-number.invariant.count);
      room = c.push_reserved.ensures.capacity ∙ c.loop-number.invariant.room;
    }
