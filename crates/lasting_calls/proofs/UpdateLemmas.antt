-- An update from try to try.
use Rattle.std.proofs.Common.{◌≡◌, ℕ, ◌+◌, true, false, refl, sym, ap, ◌∙◌}
use Rattle.plain_map.specs.declared.calls.Reply.{Reply}
use Rattle.lasting_model.specs.Steps.{Goes, LoadWord, Stand, StoreWant}
use Rattle.lasting_model.specs.Goes.{Ends}
use Rattle.lasting_calls.specs.Going.{Going, on}
use Rattle.lasting_calls.specs.Items.{asked_again}
use Rattle.lasting_calls.specs.Updates.{answered_by, making, tried_to, update_of}
use Rattle.lasting_calls.specs.declared.own.Own.{Own}
use Rattle.lasting_calls.specs.declared.tries.Tried.{Tried}
use Rattle.lasting_calls.specs.declared.tries.Tried.TheVariants.{Made, Seen, Lost}

-- a try ends as it does from wherever in it
pub tried_on : (f now end : Going) (stand : Stand) (own : Own) (turn : ℕ) (tried : Tried) → now ≡ on f stand →
    end ≡ tried_to now own turn tried → end ≡ tried_to f own turn tried
tried_on f now end stand own turn tried at is = is ∙ ap (λ (g : Going). tried_to g own turn tried) at ∙ by tried
  where
    by : (t : Tried) → tried_to (on f stand) own turn t ≡ tried_to f own turn t
    by (Made reply) = refl
    by (Seen reply) = refl
    by Lost = refl

-- an answer ends the call
pub made_answers : (f now : Going) (own : Own) (turn time : ℕ) (reply : Reply) → time ≡ f.now.time →
    now ≡ tried_to f own turn (Made reply) → now ≡ answered_by f own time reply true
made_answers f now own turn time reply same is = is ∙ ap (λ (t : ℕ). answered_by f own t reply true) (sym same)

pub seen_answers : (f now : Going) (own : Own) (turn time : ℕ) (reply : Reply) → time ≡ f.now.time →
    now ≡ tried_to f own turn (Seen reply) → now ≡ answered_by f own time reply false
seen_answers f now own turn time reply same is = is ∙ ap (λ (t : ℕ). answered_by f own t reply false) (sym same)

-- a lost try leads to the next, and then to the held look
pub first_lost : (f now : Going) (own : Own) → now ≡ tried_to f own 1 Lost →
    now ≡ on f (Goes (update_of own) (LoadWord 2))
first_lost f now own is = is

pub second_lost : (f now : Going) (own : Own) → now ≡ tried_to f own 2 Lost →
    now ≡ on f (Goes (update_of own) StoreWant)
second_lost f now own is = is

pub held_answers : (f now end : Going) (own : Own) (time : ℕ) (reply : Reply) →
    now ≡ on f (Goes (update_of own) StoreWant) → time ≡ f.now.time + 1 →
    end ≡ making (asked_again now) (update_of own) (Ends reply) → end ≡ answered_by f own time reply false
held_answers f now end own time reply at same is =
    is ∙ ap (λ (g : Going). making (asked_again g) (update_of own) (Ends reply)) at
    ∙ ap (λ (t : ℕ). answered_by f own t reply false) (sym same)
