use Rattle.std.proofs.Common.{◌≡◌, ◌∷◌, ap, sym, subst}
use Rattle.std.specs.Prelude.{All}
use Rattle.std.proofs.lemmas.List.Elements.{All-tail}
use Rattle.atomic_table.specs.Seated.{TableId}
use Rattle.exchange_table.specs.Parties.{PartyValue}
use Rattle.exchange_table.specs.Values.{TableValue}
use Rattle.exchange_table.proofs.Gathering.{at_table, have_met}
use Rattle.exchange_table.proofs.table.LastingTable.meet.Goals as goal

pub meet_at-requires-clause-rest : goal.meet_at-requires-clause-rest
meet_at-requires-clause-rest c =
    let same : c.args.self.now.table_id ≡ c.self.inside.board.shared.table_id =
    sym (ap (λ (t : TableValue). t.table_id) c.self.view_is) in
    subst (λ (id : TableId). All (λ (p : PartyValue). p.table_id ≡ id) c.in-Some.rest.now) same
    (All-tail (λ (p : PartyValue). p.table_id ≡ c.args.self.now.table_id) c.in-Some.seat.now c.in-Some.rest.now
    (subst (All (λ (p : PartyValue). p.table_id ≡ c.args.self.now.table_id)) c.in-Some.ensures.cases.0
    (at_table c.args.self.now 0 c.args.seats.now c.requires.seats.each)))

pub returns-in-Some : goal.returns-in-Some
returns-in-Some c = record {
  met = have_met c.args.self.now c.in-Some.seat.now c.in-Some.rest.now (c.meet_at.new.seat ∷ c.meet_at.new.rest)
      c.args.seats.now c.in-Some.ensures.cases.0 c.requires.seats c.meet_at.ensures.met;
}
