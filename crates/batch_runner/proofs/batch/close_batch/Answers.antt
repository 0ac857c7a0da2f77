-- The seats that come back have made their calls, and all seats do.
use Rattle.std.proofs.Common.{ℕ, List, sym, refl, ◌∙◌, subst, arith}
use Rattle.plain_map.specs.declared.calls.Call.{Call}
use Rattle.plain_map.specs.declared.keys.Pair.{Pair}
use Rattle.word_rows.specs.Shape.{Shape}
use Rattle.shared_table.specs.Values.{TableValue}
use Rattle.batch_deals.specs.declared.service.Service.{Service}
use Rattle.batch_deals.specs.Dealt.{shares_of}
use Rattle.batch_runner.specs.Told.{IsClosedBatch}
use Rattle.batch_runner.proofs.Ended.{all_of_table, all_seats, closed_batch}
use Rattle.batch_runner.proofs.Working.{all_through}
use Rattle.batch_runner.proofs.batch.close_batch.Goals as goal

pub take_apart-requires-clause-seats : goal.take_apart-requires-clause-seats
take_apart-requires-clause-seats g c = (
  c.in_ok-seats.ensures.items,
  omega (arith, c.in_ok-seats.ensures.capacity, c.in_ok-seats.ensures.exact, c.len-2.ensures),
)

pub take_apart-requires-clause-kept : goal.take_apart-requires-clause-kept
take_apart-requires-clause-kept g c = (
  c.in_ok-kept.ensures.items,
  omega (arith, c.in_ok-kept.ensures.capacity, c.in_ok-kept.ensures.exact, c.len.ensures),
)

pub take_apart-requires-clause-through : goal.take_apart-requires-clause-through
take_apart-requires-clause-through g c =
    let service : Service = c.args.asked.now.service.now in
    let shares : List (List (ℕ × Call)) = shares_of service c.args.asked.now.calls.now in
    let worked = c.requires.worked in (
      shares,
      all_through g.K.Collector.holds g.K.Collector.room c.args.begun.directory 0 shares worked.0
          c.args.begun.workers.items worked.1.fresh worked.2,
    )

pub close_in_place-closed-requires-clause-seats : goal.close_in_place-closed-requires-clause-seats
close_in_place-closed-requires-clause-seats g c =
    let service : Service = c.args.asked.now.service.now in
    let shares : List (List (ℕ × Call)) = shares_of service c.args.asked.now.calls.now in
    let worked = c.requires.worked in
    let made = c.take_apart.ensures shares (all_through g.K.Collector.holds g.K.Collector.room c.args.begun.directory 0
    shares worked.0 c.args.begun.workers.items worked.1.fresh worked.2) in
    all_of_table c.args.begun.directory shares c.take_apart.new.seats.items made.0 made.1

pub close_in_place-closed-requires-clause-all : goal.close_in_place-closed-requires-clause-all
close_in_place-closed-requires-clause-all g c =
    let service : Service = c.args.asked.now.service.now in
    let calls : List (ℕ × Call) = c.args.asked.now.calls.now in
    let shares : List (List (ℕ × Call)) = shares_of service calls in
    let worked = c.requires.worked in
    let made = c.take_apart.ensures shares (all_through g.K.Collector.holds g.K.Collector.room c.args.begun.directory 0
    shares worked.0 c.args.begun.workers.items worked.1.fresh worked.2) in
    c.take_apart.new.seats.ok.0 ∙ all_seats service c.args.asked.now.first.now calls c.args.begun.directory
    worked.1.table worked.1.setup shares refl c.take_apart.new.seats.items made.0 made.1

pub returns : goal.returns
returns g c =
    let service : Service = c.args.asked.now.service.now in
    let first : List Pair = c.args.asked.now.first.now in
    let calls : List (ℕ × Call) = c.args.asked.now.calls.now in
    let d : TableValue = c.args.begun.directory in
    let shares : List (List (ℕ × Call)) = shares_of service calls in
    let worked = c.requires.worked in
    let made = c.take_apart.ensures shares (all_through g.K.Collector.holds g.K.Collector.room d 0 shares worked.0
    c.args.begun.workers.items worked.1.fresh worked.2) in
    let words : List ℕ = c.close_in_place-closed.result.words in (
      made.0,
      made.2,
      subst (λ (s : Shape). IsClosedBatch service first calls (record { shape = s; words = words }) made.0)
          (sym c.close_in_place-closed.ensures.shape)
          (closed_batch service first calls d worked.1.table worked.1.setup shares refl c.take_apart.new.seats.items
          made.0 made.1 words c.close_in_place-closed.ensures.ran c.order_laws.ensures),
    )
