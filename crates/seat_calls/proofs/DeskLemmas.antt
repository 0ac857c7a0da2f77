-- A desk has the rules of its call's table.
use Rattle.std.proofs.Common.{◌≡◌, ◌∙◌, sym}
use Rattle.table_model.specs.Setup.{rules_of}
use Rattle.seat_calls.specs.Going.{Going}
use Rattle.seat_calls.specs.Desks.{IsOf, rules_at}
use Rattle.seat_calls.specs.declared.desk.Desk.{Desk}

-- the rules at hand are those of the table's settings
pub rules_here : (desk : Desk) → desk.rules ≡ rules_at desk
rules_here desk = λ i. record { items = desk.items i; depth = desk.depth i; hashing = desk.rules.hashing }

-- and those of the call's table
pub rules_same : (g : Going) (desk : Desk) → IsOf g desk → desk.rules ≡ rules_of g.setup
rules_same g desk is =
    rules_here desk
    ∙ (λ i. record {
      items = (sym is.shape i).settings.items;
      depth = (sym is.shape i).settings.depth;
      hashing = sym is.hashing i;
    })
