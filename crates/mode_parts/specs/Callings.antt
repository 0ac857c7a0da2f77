-- How the packets of a plan become calls.
use Rattle.std.specs.Prelude.{ℕ, List, ◌∷◌}
use Rattle.packet_heads.specs.Heads.{plain_framing}
use Rattle.packet_heads.specs.Links.{way_of}
use Rattle.key_texts.specs.declared.rules.CallRule.{CallRule}
use Rattle.key_texts.specs.declared.rules.CallRule.TheVariants.{Sessions, Flows}
use Rattle.command_line.specs.declared.plan.Plan.{Plan}
use Rattle.mode_parts.specs.declared.calling.Calling.{Calling}

-- a rule as a number
abbrev pub rule_number : CallRule → ℕ
rule_number Sessions = 0
rule_number Flows = 1

-- a framing and a rule as a list of numbers, of which no two such pairs have one
abbrev pub calling_way : Calling → List ℕ
calling_way calling = rule_number calling.calls ∷ way_of calling.framing

-- those of a plan
abbrev pub calling_of : Plan → Calling
calling_of plan = record { framing = plan.framing; calls = plan.calls }

-- those where no word says anything
abbrev pub plain_calling : Calling
plain_calling = record { framing = plain_framing; calls = Sessions }
