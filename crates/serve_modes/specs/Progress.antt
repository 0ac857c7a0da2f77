-- How far the serving of a run has come.
use Rattle.std.specs.Prelude.{◌≡◌, ◌≤◌, ℕ, List, [], All}
use Rattle.plain_map.specs.declared.calls.Call.{Call}
use Rattle.plain_map.specs.Calls.{key_in}
use Rattle.key_texts.specs.FlowText.{HasText}
use Rattle.batch_deals.specs.declared.service.Service.{Service}
use Rattle.batch_deals.specs.Opens.{CanOpen, rules_of}
use Rattle.batch_runner.specs.Served.{Served, AreServed, pairs_left}
use Rattle.batch_runner.specs.Printed.{answered_in_all, outcomes_in}
use Rattle.batch_runner.specs.Totals.{totals_of}
use Rattle.serve_modes.specs.declared.progress.Progress.{Progress}
use Rattle.serve_modes.specs.Served.{depth_left, leaves_left}
use Rattle.batch_history.specs.Batches.{no_counts}

-- each call's key has a text
abbrev pub HasTexts : List (ℕ × Call) → Type 0
HasTexts calls = All (λ call. HasText (key_in call.1)) calls

-- these batches were served, and so much is kept of them
pub record HasServed (service : Service) (progress : Progress) (batches : List Served) : Type 0 where
  pub served : AreServed service [] batches
  pub texts : All (λ (batch : Served). HasTexts batch.calls) batches
  pub counts : progress.before ≡ answered_in_all service no_counts batches
  pub few : All (λ count. count ≤ progress.totals.calls) progress.before
  pub pairs : progress.pairs.items ≡ pairs_left [] batches
  pub opens : CanOpen (rules_of service) progress.pairs.items
  pub totals : progress.totals ≡ totals_of (outcomes_in batches)
  pub leaves : progress.leaves ≡ leaves_left service 0 batches
  pub depth : progress.depth ≡ depth_left service 0 batches

-- some batches were
abbrev pub IsGoing : Service → Progress → Type 0
IsGoing service progress = (batches : List Served) × HasServed service progress batches
