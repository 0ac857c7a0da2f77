-- All pairs of the table at rest are told in a block.
use Rattle.std.proofs.Common.{rules, ◌∙◌, Err, List, ap, refl, subst, sym}
use Rattle.std.proofs.lemmas.List.Sorted.{answers_always}
use Rattle.plain_map.specs.declared.keys.Pair.{Pair}
use Rattle.lasting_table.specs.Meetings.{AreSeatsOf}
use Rattle.lasting_table.specs.Parties.{PartyValue}
use Rattle.lasting_table.specs.Rests.{HaveRested}
use Rattle.flows_runner.proofs.JobAtRest.{block_told, calls_few, can_copy, rested_back, seats_at_rest}
use Rattle.flows_runner.proofs.flowing.Flowing.block.Goals as goal

pub pairs_at_rest-requires : goal.pairs_at_rest-requires
pairs_at_rest-requires c =
    let going = c.requires.going in
    record {
      seats = subst (AreSeatsOf c.args.table.now) (sym c.as_mut_slice.ensures.value)
          (seats_at_rest c.args.self.now c.args.table.now c.args.self.now.seats.items going.0 going.1 going.2 going.3);
    }

pub unreachable-requires : goal.unreachable-requires
unreachable-requires c =
    let going = c.requires.going in
    can_copy c.args.self.now c.args.table.now c.args.self.now.seats.items going.0 going.1 going.2 going.3
    (λ first rest is. c.pairs_at_rest.ensures.asked first rest (c.in-Err-Asked.is ∙ ap Err c.in-Err-Asked.field-0-is)
    (c.as_mut_slice.ensures.value ∙ is))

pub counts-requires : goal.counts-requires
counts-requires c =
    let going = c.requires.going in
    record {
      few = calls_few c.args.self.now c.args.table.now c.args.self.now.seats.items going.0 going.1 going.2 going.3;
    }

pub returns-clause-block : goal.returns-clause-block
returns-clause-block c = λ packets blocks served so.
    let rested : HaveRested c.args.table.now c.args.self.now.seats.items c.pairs_at_rest.new.seats c.in-Ok.pairs.items =
    subst (λ (l : List PartyValue). HaveRested c.args.table.now l c.pairs_at_rest.new.seats c.in-Ok.pairs.items)
    c.as_mut_slice.ensures.value c.in-Ok.ensures.rested in (
      block_told c.args.self.now c.args.table.now c.args.self.now.seats.items packets blocks served so
          c.pairs_at_rest.new.seats c.in-Ok.pairs.items rested c.sort_unstable_by_key.new.self.items c.counts.result
          c.sort_unstable_by_key.ensures.permutation
          (c.sort_unstable_by_key.ensures.sorted (λ (p : Pair). p.key)
          (answers_always _ _ _ (λ f a r h k. search rules)))
          (c.counts.ensures served.made so.calls_are so.replies),
      rested_back c.args.self.now c.args.table.now c.args.self.now.seats.items packets blocks served so
          c.pairs_at_rest.new.seats c.in-Ok.pairs.items rested _ _ c.args.self.now.seats.len
          (sym c.args.self.now.seats.ok.0)
          (record {
            asked = refl;
            table = refl;
            spare = refl;
            replies = refl;
            packets = refl;
            calls = refl;
            seats = refl;
            room = refl;
          }),
    )
