use Rattle.std.proofs.Common.{ℕ, List, length, sym, ap, ◌∙◌, Err}
use Rattle.step_counts.specs.declared.settings.Settings.{Settings}
use Rattle.plain_map.specs.declared.calls.Call.{Call}
use Rattle.plain_map.specs.declared.keys.Pair.{Pair}
use Rattle.order_laws.proofs.Reopens.{no_pair_lacks_room}
use Rattle.shared_table.specs.Values.{new_seats}
use Rattle.batch_rows.specs.BatchRows.{rules_in}
use Rattle.batch_rows.specs.declared.rows.TheConstants.{CALL_LIMIT}
use Rattle.batch_deals.specs.declared.service.Service.{Service}
use Rattle.batch_deals.specs.Dealt.{shares_of}
use Rattle.batch_runner.proofs.Alike.{alike}
use Rattle.batch_deals.proofs.Deals.{few_updates, long_dealt, long_rows}
use Rattle.batch_runner.proofs.batch.opened.Goals as goal

pub sizes_for-requires-clause-few : goal.sizes_for-requires-clause-few
sizes_for-requires-clause-few c =
    few_updates CALL_LIMIT c.args.calls.now c.args.service.now.share c.args.service.now.settings.seats
    c.args.demand.now.updates.items c.requires.few c.requires.demand.updates

pub open_in-requires-clause-each_seat : goal.open_in-requires-clause-each_seat
open_in-requires-clause-each_seat c =
    let service : Service = c.args.service.now in
    let table : Settings = c.in_ok-sizes.sizes.settings in
    let first : List Pair = c.args.first.now in
    let calls : List (ℕ × Call) = c.args.calls.now in
    let shares : List (List (ℕ × Call)) = shares_of service calls in
    ap length (c.deref.ensures.value ∙ c.in_ok-sizes.ensures.rows calls shares c.requires.demand)
    ∙ long_rows table service.hashing service.rows first calls shares
    ∙ long_dealt service.share service.settings.seats calls
    ∙ sym (alike service.settings service.hashing service.rows first calls table
    (c.in_ok-sizes.ensures.table calls shares c.requires.demand)).seats_are

pub unreachable-requires : goal.unreachable-requires
unreachable-requires c =
    let service : Service = c.args.service.now in
    let table : Settings = c.in_ok-sizes.sizes.settings in
    let first : List Pair = c.args.first.now in
    let calls : List (ℕ × Call) = c.args.calls.now in
    let same = alike service.settings service.hashing service.rows first calls table
    (c.in_ok-sizes.ensures.table calls (shares_of service calls) c.requires.demand) in
    no_pair_lacks_room (rules_in table service.hashing) first _
    (same.below c.requires.opens.distinct c.requires.opens.room)
    (c.open_in.ensures.no_room _ (c.in-Err-NoRoom.is ∙ ap Err c.in-Err-NoRoom.field-0-is))

pub returns-in-Ok-clause-seats : goal.returns-in-Ok-clause-seats
returns-in-Ok-clause-seats c =
    let service : Service = c.args.service.now in
    let calls : List (ℕ × Call) = c.args.calls.now in
    c.in-Ok.ensures.seats ∙ ap (new_seats c.in-Ok.made.0 0)
    (alike service.settings service.hashing service.rows c.args.first.now calls c.in_ok-sizes.sizes.settings
    (c.in_ok-sizes.ensures.table calls (shares_of service calls) c.requires.demand)).seats_are
