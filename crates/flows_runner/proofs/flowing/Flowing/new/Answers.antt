-- The job that has just opened its table.
use Rattle.std.proofs.Common.{refl}
use Rattle.flows_runner.proofs.NewLemmas.{new_done, new_going, rows_few}
use Rattle.flows_runner.proofs.flowing.Flowing.new.Goals as goal

pub open-requires-clause-few : goal.open-requires-clause-few
open-requires-clause-few c =
    rows_few c.args.asked.now c.settings_of-settings.result c.rows_for-rows.result c.requires
    c.settings_of-settings.ensures.made c.rows_for-rows.ensures

pub returns-clause-going : goal.returns-clause-going
returns-clause-going c =
    new_going c.args.asked.now c.requires c.in_ok-table.table c.settings_of-settings.result
    c.settings_of-settings.ensures.made c.rows_for-rows.result c.rows_for-rows.ensures c.in_ok-table.ensures.plan _ refl
    c.in_ok-table.ensures.seats refl c.none.ensures refl refl c.in_ok-empty_shares.ensures

pub returns-clause-done : goal.returns-clause-done
returns-clause-done c =
    new_done c.args.asked.now c.requires c.in_ok-table.table c.settings_of-settings.result
    c.settings_of-settings.ensures.made c.rows_for-rows.result c.rows_for-rows.ensures c.in_ok-table.ensures.plan _ refl
    c.in_ok-table.ensures.seats refl c.none.ensures refl refl
