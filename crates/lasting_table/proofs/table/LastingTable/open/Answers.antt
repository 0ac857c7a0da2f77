use Rattle.std.proofs.Common.{List, ◌≡◌, ◌∙◌, ap, refl, sym, subst}
use Rattle.lasting_table.specs.declared.rule.Opening.{Opening}
use Rattle.lasting_table.specs.Rule.{plain}
use Rattle.lasting_table.specs.Tables.{IsOpened}
use Rattle.lasting_table.specs.Values.{TableValue}
use Rattle.lasting_table.specs.Meetings.{AreSeatsOf}
use Rattle.lasting_table.proofs.Opens.{opens}
use Rattle.lasting_table.proofs.Planned.{is_plan}
use Rattle.lasting_table.proofs.SeatsOf.{seats_opened}
use Rattle.lasting_table.proofs.table.LastingTable.open.Goals as goal

pub of_words-requires : goal.of_words-requires
of_words-requires c =
    let o : Opening = record { settings = c.args.settings.now; hashing = c.args.hashing; rows = c.args.rows } in
    opens (plain o) c.deref.result.now (is_plan o c.requires.deep c.requires.rows c.requires.few)
    (subst (IsOpened (plain o)) (sym c.deref.ensures.value) c.in_ok-words.ensures)

pub deal-requires-clause-plan : goal.deal-requires-clause-plan
deal-requires-clause-plan c =
    is_plan (record { settings = c.args.settings.now; hashing = c.args.hashing; rows = c.args.rows }) c.requires.deep
    c.requires.rows c.requires.few

pub invariant_of-result : goal.invariant_of-result
invariant_of-result c =
    let o : Opening = record { settings = c.args.settings.now; hashing = c.args.hashing; rows = c.args.rows } in
    record {
      plan = is_plan o c.requires.deep c.requires.rows c.requires.few;
      key = c.in_ok-board.ensures.5;
      words = c.in_ok-board.ensures.0 ∙ ap (λ (ws : List _). Rattle.std.proofs.Common.length ws) c.deref.ensures.value
          ∙ c.in_ok-words.ensures.count;
    }

pub returns-clause-all : goal.returns-clause-all
returns-clause-all c =
    let id = c.in_ok-board.board.shared.table_id in
    let o : Opening = record { settings = c.args.settings.now; hashing = c.args.hashing; rows = c.args.rows } in
    let t : TableValue = record { table_id = id; plan = plain o } in
    subst (λ (k : Opening). AreSeatsOf (record { table_id = id; plan = plain k }) c.deal.new.out.items)
    (sym c.in_ok-board.ensures.5)
    (subst (AreSeatsOf t) (sym c.in_ok-deal.ensures) (seats_opened t c.args.settings.now.seats refl))
