use Rattle.std.proofs.Common.{rules, ◌≡◌, ℕ, List, [], ◌+◌, ◌-◌, ◌<◌, ◌∙◌, length, get_or, ap, sym, arith}
use Rattle.sim_steps.specs.declared.words.Desk.{Desk}
use Rattle.sim_steps.specs.Layout.{Settings, seats_of}
use Rattle.sim_steps.specs.Program.{resting}
use Rattle.sim_totals.specs.Rule.{plain, view, idles, one}
use Rattle.sim_totals.specs.Values.{TableValue, fresh}
use Rattle.sim_totals.proofs.Parts.{splits, is_seat, reached_first, deals_one, one_more, desk_next}
use Rattle.sim_totals.proofs.table.deal.Goals as goal
use Rattle.sim_totals.proofs.table.deal.Goals.{After-split_seat-token}

pub split_seat-token-requires : goal.split_seat-token-requires
split_seat-token-requires c = (search rules, search rules, splits (plain c.args.words.now.key) _ _)

dealt : (c : After-split_seat-token) → (c.split_seat-token.new.seat.me ≡ (
  view (plain c.args.words.now.key)
      (idles (c.loop-number.number + 1) (length c.args.adds.now - (c.loop-number.number + 1))),
  [],
))
    × (c.split_seat-token.result.me ≡ (one (plain c.args.words.now.key) c.loop-number.number resting [], []))
dealt c =
    deals_one (plain c.args.words.now.key) c.loop-number.rest.me c.split_seat-token.new.seat.me
    c.split_seat-token.result.me c.loop-number.number (length c.args.adds.now) (omega arith)
    c.loop-number.invariant.rest c.split_seat-token.ensures.2 c.split_seat-token.ensures.4

inside : (c : After-split_seat-token) → c.loop-number.number < seats_of (plain c.args.words.now.key)
inside c = omega (arith, ap (length {A = ℕ}) c.requires.adds)

pub seated-requires-clause-token : goal.seated-requires-clause-token
seated-requires-clause-token c =
    let d : After-split_seat-token = (goal.at.seated-requires-clause-token c).After-split_seat-token in
    let is = is_seat (plain c.args.words.now.key) c.loop-number.number resting c.split_seat-token.result.me
    (dealt d).1 in is.0

pub seated-requires-clause-at : goal.seated-requires-clause-at
seated-requires-clause-at c =
    let d : After-split_seat-token = (goal.at.seated-requires-clause-at c).After-split_seat-token in
    reached_first (plain c.args.words.now.key) c.loop-number.number c.split_seat-token.result.me c.requires.settings
    (inside d) (dealt d).1

pub loop-number-preserved : goal.loop-number-preserved
loop-number-preserved c =
    let d : After-split_seat-token = (goal.at.loop-number-preserved c).After-split_seat-token in
    let k : Settings = plain c.args.words.now.key in
    let is = is_seat k c.loop-number.number resting c.split_seat-token.result.me (dealt d).1 in
    let t : TableValue = record { table_id = c.args.words.now.table_id; settings = k } in
    let new : c.seated.result ≡ fresh t c.loop-number.number = cc in
    let one_on : Desk → ℕ → Desk = λ x n. record {
      seats = x.seats;
      rows = x.rows;
      seat = x.seat + 1;
      before = x.before + n;
    } in
    let same : get_or c.args.adds.now c.loop-number.number 0 ≡ get_or k.adds c.loop-number.number 0 =
    ap (λ (xs : List ℕ). get_or xs c.loop-number.number 0) (sym c.requires.adds) in
    record {
      table = search rules;
      rest = (dealt d).0;
      desk = (λ j. one_on (c.loop-number.invariant.desk j) (same j)) ∙ desk_next k c.loop-number.number (inside d);
      out = one_more t c.loop-number.out.items c.push_reserved.new.self.items c.seated.result c.loop-number.number
          c.loop-number.invariant.out c.push_reserved.ensures.items new;
      count = omega arith;
      room = search rules;
    }
