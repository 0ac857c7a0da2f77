-- One step of an update.
use Rattle.std.proofs.Common.{◌≡◌, ℕ, ◌∙◌, refl, ap}
use Rattle.plain_map.specs.declared.calls.Call.{Call}
use Rattle.exchange_model.specs.Steps.{Goes, SeatNow, Stand, Step, deed_of}
use Rattle.exchange_model.specs.Goes.{Ends, Fate, On, Refuses, Spends, fate, own_after}
use Rattle.exchange_model.specs.Worlds.{seat_after}
use Rattle.exchange_calls.specs.Going.{Going, goes, numbered, on, task, told_by, with_now}
use Rattle.exchange_calls.specs.Desks.{IsOf}
use Rattle.exchange_calls.specs.Hands.{making}
use Rattle.exchange_calls.specs.declared.desk.Desk.{Desk}
use Rattle.exchange_calls.proofs.PlaceLemmas.{of_same}

-- it only leads on from where it has come to
pub making_on : (f : Going) (call : Call) (step : Step) (next : Fate) →
    making (on f (Goes call step)) call next ≡ making f call next
making_on f call step (On other) = refl
making_on f call step (Ends reply) = refl
making_on f call step Spends = refl
making_on f call step Refuses = refl

-- a step that changes nothing of what the seat has for itself
pub plain_goes : (f now next : Going) (call : Call) (step : Step) (word : ℕ) → now ≡ on f (Goes call step) →
    own_after f.plan f.seat (on f (Goes call step)).now call step word ≡ (on f (Goes call step)).now →
    next ≡ goes now word →
    next ≡ making f call (fate f.plan f.seat (on f (Goes call step)).now call step word)
plain_goes f now next call step word at still steps =
    steps ∙ ap (λ (g : Going). goes g word) at
    ∙ ap (λ (own : SeatNow). with_now (on f (Goes call step))
    (seat_after own call (fate f.plan f.seat (on f (Goes call step)).now call step word))
    (told_by (fate f.plan f.seat (on f (Goes call step)).now call step word) f.told)) still
    ∙ making_on f call step (fate f.plan f.seat (on f (Goes call step)).now call step word)

-- the seat has announced as often as before
pub making_posted : (f : Going) (call : Call) (next : Fate) → (making f call next).now.posted ≡ f.now.posted
making_posted f call (On other) = refl
making_posted f call (Ends reply) = refl
making_posted f call Spends = refl
making_posted f call Refuses = refl

-- and has the same rows
pub making_free : (f : Going) (call : Call) (next : Fate) → (making f call next).now.free ≡ f.now.free
making_free f call (On other) = refl
making_free f call (Ends reply) = refl
making_free f call Spends = refl
making_free f call Refuses = refl

pub making_kept : (f : Going) (call : Call) (next : Fate) → (making f call next).now.kept ≡ f.now.kept
making_kept f call (On other) = refl
making_kept f call (Ends reply) = refl
making_kept f call Spends = refl
making_kept f call Refuses = refl

-- what it asks for
pub step_asks : (f now : Going) (call : Call) (step : Step) → now ≡ on f (Goes call step) →
    task now ≡ numbered f.plan (deed_of f.plan f.seat (on f (Goes call step)).now call step)
step_asks f now call step at = ap task at

-- a state that stands here
pub stands_here : (g : Going) (stand : Stand) → g.now.stand ≡ stand → g ≡ on g stand
stands_here g stand at = ap (on g) at

-- the same caller, that stands elsewhere, is at the same desk
pub on_of : (f now : Going) (stand : Stand) (desk : Desk) → now ≡ on f stand → IsOf f desk → IsOf now desk
on_of f now stand desk at is =
    of_same f now desk (ap (λ (g : Going). g.plan) at) (ap (λ (g : Going). g.seat) at) is
