-- What a reader that cannot hold is promised of its steps: no more than so many for each try that its call began with.
use Rattle.std.specs.Prelude.{◌≡◌, ℕ, ◌≤◌, List, ◌∷◌, ◌++◌, length, All}
use Rattle.exchange_model.specs.Plans.{Plan, Sizes}
use Rattle.exchange_model.specs.Bounds.{peek_bound}
use Rattle.exchange_model.specs.Steps.{Aim}
use Rattle.exchange_model.specs.Goes.{asked_by_aim}
use Rattle.exchange_model.specs.Worlds.{Answer, ByReader, Event, OfReader, Open, IsRun, world_after}

-- the call began with so many tries, and has taken no more steps than they may
pub record IsPeekWithin (s : Sizes) (events : List Event) (a : Answer) (reader : ℕ) : Type 0 where
  pub front : List Event
  pub back : List Event
  pub aim : Aim
  pub tries : ℕ
  pub cut : events ≡ front ++ OfReader reader (Open aim tries) ∷ back
  pub began : a.began ≡ length front
  pub asked : a.asked ≡ asked_by_aim aim
  pub steps : a.steps ≤ peek_bound s tries

-- each call of a reader that cannot hold is answered within the bound of its tries
abbrev pub PeeksAreBounded : Type 0
PeeksAreBounded =
    (plan : Plan) (events : List Event) → IsRun plan events →
    All (λ (a : Answer). (reader : ℕ) → a.by ≡ ByReader reader → IsPeekWithin plan.settings events a reader)
    (world_after plan events).answers
