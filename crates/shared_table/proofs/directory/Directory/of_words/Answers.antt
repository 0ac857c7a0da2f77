use Rattle.std.proofs.Common.{length, ap, ◌∙◌}
use Rattle.std.proofs.lemmas.List.Elements.{All-same}
use Rattle.shared_table.specs.SeatValues.{SeatValue}
use Rattle.shared_table.specs.Rule.{plain}
use Rattle.shared_table.specs.Values.{IsNew, TableValue, new_seats}
use Rattle.shared_table.proofs.NewSeats.{all_new, length-new_seats}
use Rattle.shared_table.proofs.Parts.{opens}
use Rattle.shared_table.proofs.directory.Directory.of_words.Goals as goal

pub of_words-requires : goal.of_words-requires
of_words-requires c = opens (plain c.args.plan.now) c.args.words.now c.requires.setup c.requires.words

-- each seat is new
pub returns-clause-new : goal.returns-clause-new
returns-clause-new c =
    let words = c.in_ok-table.table.shared in
    let t : TableValue = record { table_id = words.table_id; setup = plain words.key } in
    All-same (IsNew t) c.deal.new.out.items (new_seats t 0 c.args.plan.now.settings.seats) c.in_ok-deal.ensures
    (all_new t 0 c.args.plan.now.settings.seats)

-- and there are as many as were asked for
pub returns-clause-count : goal.returns-clause-count
returns-clause-count c =
    let words = c.in_ok-table.table.shared in
    let t : TableValue = record { table_id = words.table_id; setup = plain words.key } in
    ap (length {A = SeatValue}) c.in_ok-deal.ensures ∙ length-new_seats t 0 c.args.plan.now.settings.seats
