-- What a peek is told of time: its reply is that of one moment from its own first load on.
use Rattle.std.specs.Prelude.{◌≡◌, ℕ, ◌+◌, ◌*◌, ◌≤◌, List, ◌∷◌, ◌++◌, length}
use Rattle.step_counts.specs.declared.TheConstants.{ITEM_WORDS}
use Rattle.plain_map.specs.declared.keys.Key.{Key}
use Rattle.plain_map.specs.declared.calls.Reply.{Reply}
use Rattle.table_model.specs.declared.events.Event.{Event}
use Rattle.table_model.specs.Setup.{Setup, settings_of}
use Rattle.peek_laws.specs.Peeks.{WasHeld}
use Rattle.shared_table.specs.Fronts.{Front}

-- so many loads are those of a peek: root, depth, entry, bucket word and count, and the words of some items, no more
-- than a bucket has room for
pub record ArePeekLoads (setup : Setup) (loads : ℕ) : Type 0 where
  pub count : ℕ
  pub few : count ≤ (settings_of setup).items
  pub are : loads ≡ 5 + count * ITEM_WORDS

-- the reader made a first load after all that it knew before, and at some moment from that load to its last one the
-- plain map had this reply. Each load has its moment in `times`
pub record WasSeen (setup : Setup) (was now : Front) (key : Key) (reply : Reply) : Type 0 where
  pub first : List Event
  pub rest : List (List Event)
  pub times : now.times ≡ was.times ++ first ∷ rest
  pub later : List Event
  pub after : first ≡ was.known ++ later
  pub held : WasHeld setup first now.known key reply
  pub loads : ArePeekLoads setup (length (first ∷ rest))
