-- A table of the dealt calls can be opened, and they can be played on it.
use Rattle.std.proofs.Common.{◌≡◌, ◌<◌, ◌≤◌, ◌∙◌, ℕ, List, [], Vec, Global, Err, All, ap, subst, sym, length, map, vec_len, arith}
use Rattle.plain_map.specs.declared.calls.Call.{Call}
use Rattle.step_counts.specs.declared.rows.SeatRows.{SeatRows}
use Rattle.word_rows.specs.Shape.{record_limit}
use Rattle.table_model.specs.Setup.{IsSetup}
use Rattle.core_steps.specs.Values.{CoreValue, setup_of}
use Rattle.order_laws.proofs.Reopens.{no_pair_lacks_room}
use Rattle.batch_rows.specs.declared.rows.TheConstants.{CALL_LIMIT}
use Rattle.batch_deals.specs.declared.service.Service.{Service}
use Rattle.batch_deals.specs.Opens.{rules_of}
use Rattle.batch_deals.proofs.Deals.{few_items, long_dealt}
use Rattle.batch_deals.proofs.Opens.{opens_nothing}
use Rattle.play_mode.specs.Playing.{play_setup, ranges_for}
use Rattle.play_mode.proofs.PlayLemmas.{can_play, can_play-at, if_ok_any, long_ranges}
use Rattle.play_mode.proofs.playing.play_calls.Goals as goal

pub ranges_for-requires-clause-few : goal.ranges_for-requires-clause-few
ranges_for-requires-clause-few c =
    subst (All (λ (share : Vec (ℕ × Call) Global). vec_len share < CALL_LIMIT)) (sym c.deref.ensures.value)
    (few_items CALL_LIMIT c.args.calls.now c.args.service.now.share c.args.service.now.settings.seats
    c.in_ok-shares.shares.items (omega (arith, c.requires.few)) c.in_ok-shares.ensures)

pub new-requires-clause-each_seat : goal.new-requires-clause-each_seat
new-requires-clause-each_seat c =
    let item : Vec (ℕ × Call) Global → List (ℕ × Call) = λ (share : Vec (ℕ × Call) Global). share.items in
    ap length (c.deref-2.ensures.value ∙ c.in_ok-rows.ensures.rows)
    ∙ long_ranges c.args.service.now.settings c.args.service.now.rows (map item c.deref.result.now)
    ∙ ap length (ap (map item) c.deref.ensures.value ∙ c.in_ok-shares.ensures)
    ∙ long_dealt c.args.service.now.share c.args.service.now.settings.seats c.args.calls.now

pub new-requires-clause-distinct : goal.new-requires-clause-distinct
new-requires-clause-distinct c = (opens_nothing (rules_of c.args.service.now)).distinct

pub unreachable-requires : goal.unreachable-requires
unreachable-requires c =
    no_pair_lacks_room (rules_of c.args.service.now) [] _ (opens_nothing (rules_of c.args.service.now)).room
    (c.new.ensures.no_room _ (c.in-Err-NoRoom.is ∙ ap Err c.in-Err-NoRoom.field-0-is))

pub play-requires-clause-limit : goal.play-requires-clause-limit
play-requires-clause-limit c =
    subst (λ (core : CoreValue). core.setup.shape.limit ≤ record_limit) (sym c.in-Ok.ensures.opened) (omega arith)

pub play-requires-clause-playable : goal.play-requires-clause-playable
play-requires-clause-playable c =
    let service : Service = c.args.service.now in
    let item : Vec (ℕ × Call) Global → List (ℕ × Call) = λ (share : Vec (ℕ × Call) Global). share.items in
    can_play-at service c.args.calls.now c.in-Ok.core.setup (map item c.deref-3.result.now)
    (ap (λ (core : CoreValue). core.setup) c.in-Ok.ensures.opened
    ∙ ap (λ (rows : List SeatRows). setup_of service.settings service.hashing rows [])
    (c.deref-2.ensures.value ∙ c.in_ok-rows.ensures.rows
    ∙ ap (ranges_for service.settings service.rows)
    (ap (map item) c.deref.ensures.value ∙ c.in_ok-shares.ensures)))
    (ap (map item) c.deref-3.ensures.value ∙ c.in_ok-shares.ensures) c.requires.playable c.requires.few
    c.in-Ok.ensures.room

pub returns-clause-can : goal.returns-clause-can
returns-clause-can c =
    let service : Service = c.args.service.now in
    let item : Vec (ℕ × Call) Global → List (ℕ × Call) = λ (share : Vec (ℕ × Call) Global). share.items in
    let is : c.in-Ok.core.setup ≡ play_setup service c.args.calls.now =
    ap (λ (core : CoreValue). core.setup) c.in-Ok.ensures.opened
    ∙ ap (λ (rows : List SeatRows). setup_of service.settings service.hashing rows [])
    (c.deref-2.ensures.value ∙ c.in_ok-rows.ensures.rows
    ∙ ap (ranges_for service.settings service.rows)
    (ap (map item) c.deref.ensures.value ∙ c.in_ok-shares.ensures)) in
    if_ok_any c.play.result
    (can_play service c.args.calls.now c.requires.playable c.requires.few (subst IsSetup is c.in-Ok.ensures.room))
