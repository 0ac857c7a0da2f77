use Rattle.std.proofs.Common.{List, ◌∙◌, ap, length, refl, sym, subst}
use Rattle.exchange_opening.specs.Openings.{IsOpened}
use Rattle.exchange_table.specs.declared.rule.Opening.{Opening}
use Rattle.exchange_table.specs.Rule.{plain}
use Rattle.exchange_table.specs.Values.{TableValue}
use Rattle.exchange_table.specs.Meetings.{AreSeatsOf}
use Rattle.exchange_table.proofs.Opens.{opens, some_words}
use Rattle.exchange_table.proofs.SeatsOf.{seats_opened}
use Rattle.exchange_table.proofs.table.LastingTable.open.Goals as goal

pub of_words-requires : goal.of_words-requires
of_words-requires c =
    let o : Opening = record { sizes = c.args.sizes; hashing = c.args.hashing } in
    opens (plain o) c.deref.result.now c.requires
    (subst (IsOpened (plain o)) (sym c.deref.ensures.value) (c.in_ok-words.ensures c.args.hashing))

pub deal_seats-requires-clause-some : goal.deal_seats-requires-clause-some
deal_seats-requires-clause-some c =
    let o : Opening = record { sizes = c.args.sizes; hashing = c.args.hashing } in
    some_words (plain o) c.in_ok-board.board.shared.table_id.words
    (c.in_ok-board.ensures.0 ∙ ap (λ (ws : List _). length ws) c.deref.ensures.value
    ∙ (c.in_ok-words.ensures c.args.hashing).count)

pub deal_readers-requires-clause-some : goal.deal_readers-requires-clause-some
deal_readers-requires-clause-some c =
    let o : Opening = record { sizes = c.args.sizes; hashing = c.args.hashing } in
    some_words (plain o) c.in_ok-board.board.shared.table_id.words
    (c.in_ok-board.ensures.0 ∙ ap (λ (ws : List _). length ws) c.deref.ensures.value
    ∙ (c.in_ok-words.ensures c.args.hashing).count)

pub invariant_of-result : goal.invariant_of-result
invariant_of-result c = record {
  plan = c.requires;
  key = c.in_ok-board.ensures.5;
  words = c.in_ok-board.ensures.0 ∙ ap (λ (ws : List _). length ws) c.deref.ensures.value
      ∙ (c.in_ok-words.ensures c.args.hashing).count;
}

pub returns-clause-all : goal.returns-clause-all
returns-clause-all c =
    let id = c.in_ok-board.board.shared.table_id in
    let o : Opening = record { sizes = c.args.sizes; hashing = c.args.hashing } in
    let t : TableValue = record { table_id = id; plan = plain o } in
    subst (λ (k : Opening). AreSeatsOf (record { table_id = id; plan = plain k }) c.deal_seats.new.out.items)
    (sym c.in_ok-board.ensures.5)
    (subst (AreSeatsOf t) (sym c.in_ok-deal_seats.ensures.out) (seats_opened t c.args.sizes.seats refl))
