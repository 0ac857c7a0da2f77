-- A desk, as that of a call's seat.
use Rattle.std.specs.Prelude.{◌≡◌, ℕ, List}
use Rattle.step_counts.specs.declared.settings.Settings.{Settings}
use Rattle.plain_map.specs.declared.rules.Rules.{Rules}
use Rattle.word_rows.specs.LayoutView.{shape_of}
use Rattle.word_rows.specs.BucketWords.{bucket_of_words}
use Rattle.bucket_states.specs.States.{BucketState, state_in_row}
use Rattle.seat_calls.specs.Going.{Going}
use Rattle.seat_calls.specs.declared.desk.Desk.{Desk}

-- the table's settings
abbrev pub settings_at : Desk → Settings
settings_at desk = (shape_of desk.layout).settings

-- the rules of a bucket by the table's settings
abbrev pub rules_at : Desk → Rules
rules_at desk = record {
  items = (settings_at desk).items;
  depth = (settings_at desk).depth;
  hashing = desk.rules.hashing;
}

-- what a row's words say
abbrev pub state_at : Desk → List ℕ → BucketState
state_at desk words = state_in_row (bucket_of_words (settings_at desk) words)

-- the desk is that of the call's seat at its table
pub record IsOf (g : Going) (desk : Desk) : Type 0 where
  pub shape : g.setup.shape ≡ shape_of desk.layout
  pub hashing : g.setup.hashing ≡ desk.rules.hashing
  pub seat : g.seat ≡ desk.seat
