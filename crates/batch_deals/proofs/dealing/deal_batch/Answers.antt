use Rattle.std.proofs.Common.{ℕ, List, Vec, Global, map, ap, ◌∙◌}
use Rattle.plain_map.specs.declared.calls.Call.{Call}
use Rattle.batch_rows.specs.declared.rows.TheConstants.{CALL_LIMIT}
use Rattle.batch_deals.proofs.Deals.{demand_dealt, few_items}
use Rattle.batch_deals.proofs.dealing.deal_batch.Goals as goal

pub demand_of-requires : goal.demand_of-requires
demand_of-requires c =
    let item : Vec (ℕ × Call) Global → List (ℕ × Call) = λ (share : Vec (ℕ × Call) Global). share.items in
    record {
      few = few_items CALL_LIMIT c.args.calls.now c.args.service.now.share c.args.service.now.settings.seats
          c.deref.result.now c.requires.few (ap (map item) c.deref.ensures.value ∙ c.in_ok-shares.ensures);
    }

pub returns : goal.returns
returns c = record {
  shares = c.in_ok-shares.ensures;
  demand = demand_dealt c.args.calls.now c.args.service.now.share c.args.service.now.settings.seats
      c.in_ok-shares.shares.items c.deref.result.now c.in_ok-demand.demand c.deref.ensures.value
      c.in_ok-shares.ensures c.in_ok-demand.ensures.demand;
}
