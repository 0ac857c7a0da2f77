-- Tokens whose views are joined, and the load by which all their parties come to know one run.
use Rattle.std.specs.Prelude.{◌≡◌, ℕ, List, [], ◌++◌, map}
use Rattle.atomic_table.specs.Table.{Step}
use Rattle.exchange_model.specs.Worlds.{Event, IsRun, world_after}
use Rattle.exchange_table.specs.declared.view.View.{View}
use Rattle.exchange_table.specs.Parties.{HasNone, Holding, party}
use Rattle.exchange_table.specs.Rule.{Each, M}

-- the holdings of another view stand before those of this one, so what came last is cut off first
abbrev pub joined : View → View → View
joined v w = record { bundle = w.bundle ++ v.bundle }

-- the other view has none any more
abbrev pub spent : View
spent = record { bundle = [] }

-- a party comes to know these events of a run. Those that it did not know are of others, and leave it as it was
pub record ComesTo (known : List Event) (h : Holding) : Type 0 where
  pub run : IsRun h.plan known
  pub later : List Event
  pub grown : known ≡ h.known ++ later
  pub none : HasNone h.who later
  pub state : party (world_after h.plan known) h.who ≡ party (world_after h.plan h.known) h.who

-- and knows them then
abbrev pub knowing : List Event → Holding → Holding
knowing known h = record h { known = known }

-- all parties of a token come to know the same
pub record Meets (m then : M) : Type 0 where
  pub known : List Event
  pub each : Each (ComesTo known) m.0.bundle
  pub is : then ≡ (record { bundle = map (knowing known) m.0.bundle }, m.1)

-- whatever it found
abbrev pub meets : Step (Unit {0}) → M → ℕ → M → Type 0
meets st m n then = Meets m then
