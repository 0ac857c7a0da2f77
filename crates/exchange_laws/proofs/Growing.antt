-- The updates that were made stay in their order, and later ones come behind them.
use Rattle.std.proofs.Common.{◌≡◌, ℕ, Bool, true, false, cond, List, [], ◌∷◌, ◌++◌, refl, sym, ap, ◌∙◌, subst, append-nil, append_assoc}
use Rattle.std.specs.Prelude.{fold, nat_lt}
use Rattle.plain_map.specs.declared.calls.Call.{Call}
use Rattle.plain_map.specs.declared.calls.Call.TheVariants.{Insert, Remove, Lookup, Tally, Count, Put}
use Rattle.exchange_model.specs.Plans.{Plan, holders_of}
use Rattle.exchange_model.specs.Laws.{OrdersGrow}
use Rattle.exchange_model.specs.Steps as S
use Rattle.exchange_model.specs.Steps.{MadeBySeat, SeatNow, Stand}
use Rattle.exchange_model.specs.Worlds.{World, Event, OfSeat, OfReader, What, Begin, Copy, Step_on, Open, Peek_on, Peek, seat_in, ticked, act, call_begins, goes_on, peeks_on, peek_acts, happens, world_after, opening_world}
use Rattle.exchange_laws.proofs.OwnedRuns.{after_both}

-- there are more behind
abbrev Grows : List MadeBySeat → List MadeBySeat → Type 0
Grows was now = (later : List MadeBySeat) × (now ≡ was ++ later)

same : (made : List MadeBySeat) → Grows made made
same made = ([], sym (append-nil made))

both : (a b c : List MadeBySeat) → Grows a b → Grows b c → Grows a c
both a b c g h = (g.0 ++ h.0, h.1 ∙ ap (λ (ms : List MadeBySeat). ms ++ h.0) g.1 ∙ append_assoc a g.0 h.0)

call_grows : (plan : Plan) (x : World) (p : ℕ) (now : SeatNow) (call : Call) →
    Grows x.made (call_begins plan x p now call).made
call_grows plan x p now (Lookup key) = same x.made
call_grows plan x p now (Insert key value) = same x.made
call_grows plan x p now (Remove key) = same x.made
call_grows plan x p now (Tally key amount) = same x.made
call_grows plan x p now (Count key value amount) = same x.made
call_grows plan x p now (Put key value) = same x.made

stand_grows : (plan : Plan) (x : World) (p : ℕ) (now : SeatNow) (stand : Stand) →
    Grows x.made (goes_on plan x p now stand).made
stand_grows plan x p now S.Idle = same x.made
stand_grows plan x p now (S.Goes call step) = (_, refl)
stand_grows plan x p now (S.Glances aim glance) = same x.made

seat_grows : (plan : Plan) (x : World) (p : ℕ) (now : SeatNow) (what : What) → Grows x.made (act plan x p now what).made
seat_grows plan x p now (Begin call) = call_grows plan x p now call
seat_grows plan x p now (Copy bucket) = same x.made
seat_grows plan x p now Step_on = stand_grows plan x p now now.stand

peek_grows : (plan : Plan) (x : World) (r : ℕ) (peek : Peek) → Grows x.made (peek_acts plan x r (x.readers r) peek).made
peek_grows plan x r (Open aim tries) = same x.made
peek_grows plan x r Peek_on = go (x.readers r).stand
  where
    go : (stand : S.Peeking) → Grows x.made (peeks_on plan x r (x.readers r) stand).made
    go S.Rests = same x.made
    go (S.Peeks aim glance) = same x.made

event_grows : (plan : Plan) (x : World) (event : Event) → Grows x.made (happens plan x event).made
event_grows plan x (OfSeat p what) = go (nat_lt p (holders_of plan.settings))
  where
    go : (c : Bool) → Grows x.made (cond c (ticked (act plan x p (seat_in x p) what)) x).made
    go true = seat_grows plan x p (seat_in x p) what
    go false = same x.made
event_grows plan x (OfReader r peek) = peek_grows plan x r peek

grows : (plan : Plan) (events : List Event) (x : World) → Grows x.made (fold (happens plan) x events).made
grows plan [] x = same x.made
grows plan (event ∷ events) x =
    both x.made (happens plan x event).made (fold (happens plan) (happens plan x event) events).made
    (event_grows plan x event) (grows plan events (happens plan x event))

-- THE RESULT
pub orders_grow : OrdersGrow
orders_grow plan front back run =
    subst (λ (z : World). Grows (world_after plan front).made z.made)
    (sym (after_both plan front back (opening_world plan))) (grows plan back (world_after plan front))
