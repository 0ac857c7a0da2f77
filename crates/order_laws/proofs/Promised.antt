-- The promises about the order, in every run.
use Rattle.std.proofs.Common.{List}
use Rattle.table_model.specs.declared.events.Event.{Event}
use Rattle.table_model.specs.Setup.{Setup, rules_of}
use Rattle.table_model.specs.Worlds.{IsRun, world_after}
use Rattle.table_model.specs.Closed.{sessions_with}
use Rattle.table_model.specs.Histories.{closed, OrderIsNeverStuck, OrderIsLegal, OrderIsAfter, OrderIsWhole, PairsAreOfOrder}
use Rattle.closed_laws.proofs.Joined.{Known, Promised, promised}
use Rattle.order_laws.proofs.AllRuns.{all_tell}
use Rattle.order_laws.proofs.AtEnd.{all_laws, known, pairs_are_of_order}

-- all that the order needs is known of what a run leaves
pub run_known : (setup : Setup) (events : List Event) → IsRun setup events →
    Known setup (closed setup events) (sessions_with (rules_of setup) setup.first)
run_known setup events run = let a = all_tell setup events run in
    known setup (world_after setup events) a.common a.locals a.follows a.extra a.holds

-- so the promises hold of it
pub run_promised : (setup : Setup) (events : List Event) → IsRun setup events →
    Promised setup (closed setup events) (sessions_with (rules_of setup) setup.first)
run_promised setup events run = promised all_laws setup (closed setup events)
    (sessions_with (rules_of setup) setup.first) (run_known setup events run)

-- the order never is stuck
pub order_is_never_stuck : OrderIsNeverStuck
order_is_never_stuck setup events run = (run_promised setup events run).never_stuck

-- it is legal for the plain object
pub order_is_legal : OrderIsLegal
order_is_legal setup events run = (run_promised setup events run).legal

-- each call stands after what its caller had seen
pub order_is_after : OrderIsAfter
order_is_after setup events run = (run_promised setup events run).after

-- and each call that took effect stands once
pub order_is_whole : OrderIsWhole
order_is_whole setup events run = (run_promised setup events run).whole

-- and the closed table has the pairs that it leaves
pub pairs_are_of_the_order : PairsAreOfOrder
pairs_are_of_the_order setup events run = let a = all_tell setup events run in
    pairs_are_of_order setup (world_after setup events) a.common a.locals a.follows a.extra a.holds
