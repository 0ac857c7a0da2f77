-- In every run what is pending is the sum of the shares that seats have where they stand.
use Rattle.std.proofs.Common.{◌≡◌, ℕ, ◌<◌, sym, ◌∙◌, arith}
use Rattle.exchange_model.specs.Laws.{GoesOn, share, PendingIsAlwaysCounted}
use Rattle.exchange_model.specs.Steps as S
use Rattle.exchange_model.specs.Steps.{Stand}
use Rattle.exchange_model.specs.Worlds.{opening_world, world_after, seat_in}
use Rattle.exchange_laws.proofs.OwnedRuns.{opening_owned}
use Rattle.exchange_laws.proofs.Announcements.{announces_first, announces_follow}
use Rattle.exchange_laws.proofs.SeatSums.{sum_same}
use Rattle.exchange_laws.proofs.Pending.{HasShare, counted_first, counted_follow, share_one}
use Rattle.exchange_laws.proofs.TiedRuns.{seats_go_on}

-- where there is a further step, the share is that of the step
stand_share : (n word posted : ℕ) (stand : Stand) → GoesOn stand → HasShare n word posted stand → n ≡ share stand
stand_share n word posted S.Idle on k = k
stand_share n word posted (S.Glances aim glance) on k = k
stand_share n word posted (S.Goes call S.Stuck) on k = absurd on
stand_share n word posted (S.Goes call S.Scans) on k = k
stand_share n word posted (S.Goes call (S.LoadWord turn)) on k = k
stand_share n word posted (S.Goes call (S.LoadRow turn old words)) on k = k
stand_share n word posted (S.Goes call (S.CheckWord turn old words)) on k = k
stand_share n word posted (S.Goes call (S.LoadPending t)) on k = k
stand_share n word posted (S.Goes call (S.LoadAnnounced t found)) on k = k
stand_share n word posted (S.Goes call (S.LoadOp t found announced words)) on k = k
stand_share n word posted (S.Goes call (S.StoreRow t found i)) on k = k
stand_share n word posted (S.Goes call (S.Exchange t found)) on k = k
stand_share n word posted (S.Goes call S.RaisePending) on k = k
stand_share n word posted (S.Goes call (S.StoreOp i)) on k = k
stand_share n word posted (S.Goes call S.Announce) on k = k
stand_share n word posted (S.Goes call S.StoreWant) on k = k
stand_share n word posted (S.Goes call S.StoreAsking) on k = k
stand_share n word posted (S.Goes call S.HeldWord) on k = k
stand_share n word posted (S.Goes call (S.TakeHold old)) on k = k
stand_share n word posted (S.Goes call (S.HeldHead row)) on k = k
stand_share n word posted (S.Goes call (S.HeldEntry row at left)) on k = k
stand_share n word posted (S.Goes call (S.HeldReply row at)) on k = k
stand_share n word posted (S.Goes call (S.GiveBack reply)) on k = k
stand_share n word posted (S.Goes call (S.Over ending)) on k = k
stand_share n word posted (S.Goes call (S.LowerPending ending)) on k = k

-- THE RESULT
pub pending_is_always_counted : PendingIsAlwaysCounted
pending_is_always_counted plan events run =
    let open_ = opening_world plan in
    let owned = opening_owned plan run.opened in
    let first = announces_first plan run.opened in
    let x = world_after plan events in
    let c = counted_follow plan run.opened events open_ owned first (counted_first plan run.opened) run.follow in
    let all = announces_follow plan run.opened events open_ owned first run.follow in
    let told : (q : ℕ) → q < plan.settings.seats → c.shares q ≡ share (seat_in x q).stand =
    (λ q less. stand_share (c.shares q) (x.store.announced q) (seat_in x q).posted (seat_in x q).stand
    (seats_go_on plan events q run) (c.each q less)) in
    record {
      sum = c.sum ∙ sum_same c.shares (λ q. share (seat_in x q).stand) 0 plan.settings.seats
          (λ q low high. told q (omega (arith, high)));
      announced = λ seat less pends. sym (told seat less) ∙ share_one plan x all c seat less pends;
    }
