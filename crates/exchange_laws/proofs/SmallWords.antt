-- In every run all words have 64 bits.
use Rattle.std.proofs.Common.{◌^◌, ◌<◌, ◌≤◌, Bool, true, false, arith}
use Rattle.exchange_model.specs.Words as W
use Rattle.exchange_model.specs.Words.{held_at}
use Rattle.exchange_model.specs.Laws.{WordsAreSmall, share, share_at}
use Rattle.exchange_model.specs.Goes.{is_announced, share_of}
use Rattle.exchange_model.specs.Steps as S
use Rattle.exchange_model.specs.Steps.{Step, Stand}
use Rattle.exchange_model.specs.Worlds.{World, world_after, seat_in}
use Rattle.exchange_laws.proofs.SeatSums.{sum_most}
use Rattle.exchange_laws.proofs.PendingRuns.{pending_is_always_counted}
use Rattle.exchange_laws.proofs.NearRuns.{all_known}

-- the share of a seat is 1 at most
flag_few : (announced : Bool) → share_of announced ≤ 1
flag_few true = omega arith
flag_few false = omega arith

step_few : (step : Step) → share_at step ≤ 1
step_few S.Scans = omega arith
step_few (S.LoadWord turn) = flag_few (is_announced turn)
step_few (S.LoadRow turn old words) = flag_few (is_announced turn)
step_few (S.CheckWord turn old words) = flag_few (is_announced turn)
step_few (S.LoadPending t) = flag_few (is_announced t.turn)
step_few (S.LoadAnnounced t found) = flag_few (is_announced t.turn)
step_few (S.LoadOp t found a words) = flag_few (is_announced t.turn)
step_few (S.StoreRow t found i) = flag_few (is_announced t.turn)
step_few (S.Exchange t found) = flag_few (is_announced t.turn)
step_few S.RaisePending = omega arith
step_few (S.StoreOp i) = omega arith
step_few S.Announce = omega arith
step_few S.StoreWant = omega arith
step_few S.StoreAsking = omega arith
step_few S.HeldWord = omega arith
step_few (S.TakeHold old) = omega arith
step_few (S.HeldHead row) = omega arith
step_few (S.HeldEntry row at left) = omega arith
step_few (S.HeldReply row at) = omega arith
step_few (S.GiveBack reply) = omega arith
step_few (S.Over ending) = omega arith
step_few (S.LowerPending ending) = omega arith
step_few S.Stuck = omega arith

share_few : (stand : Stand) → share stand ≤ 1
share_few S.Idle = omega arith
share_few (S.Goes call step) = step_few step
share_few (S.Glances aim glance) = omega arith

-- THE RESULT
pub words_are_small : WordsAreSmall
words_are_small plan events at run there = go at
  where
    x : World
    x = world_after plan events

    go : (a : W.At) → held_at x.store a < 2 ^ 64
    go W.Pending =
        let sum = (pending_is_always_counted plan events run).sum in
        let few = sum_most (λ q. share (seat_in x q).stand) 0 plan.settings.seats
        (λ q. share_few (seat_in x q).stand) in
        omega (arith, sum, few, run.opened.seats)
    go (W.Announced q) = (all_known plan events run).near.words.announced q
    go (W.Want q) = (all_known plan events run).near.words.want q
    go (W.Hold q) = (all_known plan events run).near.words.hold q
    go (W.OpWord q i) = (all_known plan events run).near.words.op q i
    go (W.Bucket b) = (all_known plan events run).near.words.bucket b
    go (W.RowWord r i) = (all_known plan events run).near.words.row r i
