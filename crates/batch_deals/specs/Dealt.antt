-- How the calls of a batch are dealt before they are served.
use Rattle.std.specs.Prelude.{◌≡◌, ℕ, List, map}
use Rattle.plain_map.specs.declared.calls.Call.{Call}
use Rattle.batch_rows.specs.Demands.{IsDemandOf}
use Rattle.batch_deals.specs.declared.dealing.Dealt.{Dealt}
use Rattle.batch_deals.specs.declared.service.Service.{Service}
use Rattle.trace_share.specs.Deal.{dealt}

-- for each seat the calls that it makes
abbrev pub shares_of : Service → List (ℕ × Call) → List (List (ℕ × Call))
shares_of service calls = dealt service.share service.settings.seats calls

-- each seat has its calls in their order, and this is what they ask of a table
pub record IsDealt (service : Service) (calls : List (ℕ × Call)) (dealt : Dealt) : Type 0 where
  pub shares : map (λ share. share.items) dealt.shares.items ≡ shares_of service calls
  pub demand : IsDemandOf calls (shares_of service calls) dealt.demand
