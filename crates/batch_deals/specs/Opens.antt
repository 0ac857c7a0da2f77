-- What the table of a batch keeps, and with which pairs it can be opened.
use Rattle.std.specs.Prelude.{List, All}
use Rattle.plain_map.specs.declared.keys.Pair.{Pair}
use Rattle.plain_map.specs.declared.rules.Rules.{Rules}
use Rattle.table_model.specs.Setup.{HaveRoom, IsPair}
use Rattle.bucket_states.specs.Parts.{HasDistinctKeys}
use Rattle.batch_rows.specs.BatchRows.{rules_in}
use Rattle.batch_deals.specs.declared.service.Service.{Service}

-- the rules of the plain map that the service keeps
abbrev pub rules_of : Service → Rules
rules_of service = rules_in service.settings service.hashing

-- a table can be opened with these pairs: each can be kept, their keys are distinct, and they find room
pub record CanOpen (rules : Rules) (first : List Pair) : Type 0 where
  pub pairs : All IsPair first
  pub distinct : HasDistinctKeys first
  pub room : HaveRoom rules first
