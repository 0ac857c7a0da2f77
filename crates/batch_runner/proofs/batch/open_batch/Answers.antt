-- The workers have the seats of the table, and the shares of the calls.
use Rattle.std.proofs.Common.{◌≡◌, ℕ, ◌<◌, ◌^◌, List, Vec, Global, length, map, vec_len, sym, ap, ◌∙◌, subst, arith}
use Rattle.std.specs.Prelude.{All}
use Rattle.std.proofs.lemmas.List.{length-map}
use Rattle.plain_map.specs.declared.calls.Call.{Call}
use Rattle.plain_map.specs.Serving.{IsAskable}
use Rattle.shared_table.specs.Values.{TableValue, new_seats}
use Rattle.shared_table.proofs.NewSeats.{length-new_seats}
use Rattle.batch_deals.specs.declared.service.Service.{Service}
use Rattle.batch_runner.specs.declared.workers.SeatWorker.{SeatWorker}
use Rattle.batch_runner.specs.Seats.{AreFresh}
use Rattle.batch_deals.proofs.Deals.{dealt_hold, few_items, long_dealt, of_items}
use Rattle.batch_runner.proofs.Working.{all_ready, all_short, many_fresh}
use Rattle.batch_runner.proofs.batch.open_batch.Goals as goal

pub workers_of-requires-clause-new : goal.workers_of-requires-clause-new
workers_of-requires-clause-new g c =
    let n : ℕ = c.args.asked.now.service.now.settings.seats in
    let d : TableValue = c.in_ok-directory.directory in
    let long : vec_len c.in_ok-directory.seats ≡ n =
    c.in_ok-directory.seats.ok.0 ∙ ap length c.in_ok-directory.ensures.seats ∙ length-new_seats d 0 n in
    c.in_ok-directory.ensures.seats ∙ ap (new_seats d 0) (sym long)

pub workers_of-requires-clause-as_many : goal.workers_of-requires-clause-as_many
workers_of-requires-clause-as_many g c =
    let service : Service = c.args.asked.now.service.now in
    let n : ℕ = service.settings.seats in
    let item : Vec (ℕ × Call) Global → List (ℕ × Call) = λ (share : Vec (ℕ × Call) Global). share.items in
    omega (
      arith,
      c.in_ok-directory.seats.ok.0,
      ap length c.in_ok-directory.ensures.seats,
      length-new_seats c.in_ok-directory.directory 0 n,
      c.args.shares.ok.0,
      length-map c.args.shares.items item,
      ap length c.requires.shares,
      long_dealt service.share n c.args.asked.now.calls.now,
    )

pub returns-clause-few : goal.returns-clause-few
returns-clause-few g c =
    let service : Service = c.args.asked.now.service.now in
    let n : ℕ = service.settings.seats in
    let item : Vec (ℕ × Call) Global → List (ℕ × Call) = λ (share : Vec (ℕ × Call) Global). share.items in
    omega (
      arith,
      c.in_ok-workers.workers.ok.0,
      many_fresh g.K.Collector.holds g.K.Collector.room c.in_ok-directory.directory 0 (map item c.args.shares.items)
          c.in_ok-workers.workers.items c.in_ok-workers.ensures,
      ap length c.requires.shares,
      long_dealt service.share n c.args.asked.now.calls.now,
      service.settings.seats_in_range.1,
    )

pub returns-clause-ready : goal.returns-clause-ready
returns-clause-ready g c =
    let service : Service = c.args.asked.now.service.now in
    let calls : List (ℕ × Call) = c.args.asked.now.calls.now in
    let n : ℕ = service.settings.seats in
    let item : Vec (ℕ × Call) Global → List (ℕ × Call) = λ (share : Vec (ℕ × Call) Global). share.items in
    let P : ℕ × Call → Type 0 = λ (call : ℕ × Call). IsAskable call.1 in
    let few : length calls < 2 ^ 32 = omega (arith, c.requires.few) in
    let askable = of_items (λ (s : List (ℕ × Call)). All P s) c.args.shares.items
    (subst (All (λ (s : List (ℕ × Call)). All P s)) (sym c.requires.shares)
    (dealt_hold P service.share n calls c.requires.askable)) in
    all_ready g.K.Collector.holds g.K.Collector.room c.in_ok-directory.directory 0 (map item c.args.shares.items)
    c.in_ok-workers.workers.items
    (all_short c.args.shares.items askable
    (few_items (2 ^ 32) calls service.share n c.args.shares.items few c.requires.shares))
    c.in_ok-workers.ensures

pub returns-clause-opened : goal.returns-clause-opened
returns-clause-opened g c =
    let ws : List (SeatWorker g.row.K.Denot) = c.in_ok-workers.workers.items in
    record {
      table = c.in_ok-directory.ensures.table;
      setup = c.in_ok-directory.ensures.setup;
      fresh = subst (λ (s : List (List (ℕ × Call))).
          AreFresh g.K.Collector.holds g.K.Collector.room c.in_ok-directory.directory 0 s ws) c.requires.shares
          c.in_ok-workers.ensures;
    }
