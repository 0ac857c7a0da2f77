-- One step of an update.
use Rattle.std.proofs.Common.{◌≡◌, ℕ, ◌∙◌, refl, sym, ap, subst}
use Rattle.lasting_model.specs.Plans.{ample}
use Rattle.lasting_model.specs.Steps.{Goes, SeatNow, Stand, Step, Update, deed_of}
use Rattle.lasting_model.specs.Goes.{Ends, Fate, On, Refuses, fate, own_after}
use Rattle.lasting_model.specs.Worlds.{seat_after}
use Rattle.lasting_calls.specs.Going.{Going, goes, numbered, on, task, told_by, with_own}
use Rattle.lasting_calls.specs.Desks.{IsOf}
use Rattle.lasting_calls.specs.Updates.{IsOwn, making}
use Rattle.lasting_calls.specs.declared.desk.Desk.{Desk}
use Rattle.lasting_calls.specs.declared.own.Own.{Own}

-- it only leads on from where it has come to
pub making_on : (f : Going) (u : Update) (step : Step) (next : Fate) →
    making (on f (Goes u step)) u next ≡ making f u next
making_on f u step (On other) = refl
making_on f u step (Ends reply) = refl
making_on f u step Refuses = refl

-- a step that changes nothing of what the seat has for itself
pub plain_goes : (f now next : Going) (u : Update) (step : Step) (word : ℕ) → now ≡ on f (Goes u step) →
    own_after (ample f.plan) f.seat (on f (Goes u step)).now u step word ≡ (on f (Goes u step)).now →
    next ≡ goes now word →
    next ≡ making f u (fate (ample f.plan) f.seat (on f (Goes u step)).now u step word)
plain_goes f now next u step word at still steps =
    steps ∙ ap (λ (g : Going). goes g word) at
    ∙ ap (λ (own : SeatNow). with_own (on f (Goes u step))
    (seat_after own u (fate (ample f.plan) f.seat (on f (Goes u step)).now u step word))
    (told_by (fate (ample f.plan) f.seat (on f (Goes u step)).now u step word) f.told)) still
    ∙ making_on f u step (fate (ample f.plan) f.seat (on f (Goes u step)).now u step word)

-- what it asks for
pub step_asks : (f now : Going) (u : Update) (step : Step) → now ≡ on f (Goes u step) →
    task now ≡ numbered f.plan (deed_of (ample f.plan) f.seat (on f (Goes u step)).now u step)
step_asks f now u step at = ap task at

-- the same seat, that stands elsewhere, is at the same desk, and has the same at hand
pub on_of : (f now : Going) (stand : Stand) (desk : Desk) → now ≡ on f stand → IsOf f desk → IsOf now desk
on_of f now stand desk at is = record {
  settings = ap (λ (g : Going). g.plan.settings) at ∙ is.settings;
  hashing = ap (λ (g : Going). g.plan.hashing) at ∙ is.hashing;
  rows = ap (λ (g : Going). g.plan.rows) at ∙ is.rows;
  seat = ap (λ (g : Going). g.seat) at ∙ is.seat;
}

pub own_stays : (f now : Going) (stand : Stand) (own : Own) → now ≡ on f stand → IsOwn f own → IsOwn now own
own_stays f now stand own at is = subst (λ (g : Going). IsOwn g own) (sym at) (record {
  update = is.update;
  numbered = is.numbered;
  small_number = is.small_number;
  hashed = is.hashed;
  bucket = is.bucket;
  row = is.row;
  generation = is.generation;
  small = is.small;
  short = is.short;
  few = is.few;
})
