-- Answers are never taken back: later ones come behind them.
use Rattle.std.proofs.Common.{◌≡◌, ℕ, ◌≤◌, Bool, true, false, cond, List, [], ◌∷◌, ◌++◌, length, refl, sym, ap, ◌∙◌, subst, arith, append-nil, append_assoc}
use Rattle.std.specs.Prelude.{fold, nat_lt}
use Rattle.std.proofs.lemmas.List.{length-append}
use Rattle.plain_map.specs.declared.calls.Call.{Call}
use Rattle.plain_map.specs.declared.calls.Call.TheVariants.{Insert, Remove, Lookup, Tally, Count, Put}
use Rattle.exchange_model.specs.Plans.{Plan, holders_of}
use Rattle.exchange_model.specs.Steps as S
use Rattle.exchange_model.specs.Steps.{SeatNow, Stand, Aim, Course}
use Rattle.exchange_model.specs.Goes.{Fate, On, Ends, Spends, Refuses, GlanceFate, Looks, Shows, Disturbed}
use Rattle.exchange_model.specs.Worlds.{World, Answer, Event, OfSeat, OfReader, What, Begin, Copy, Step_on, Open, Peek_on, Peek, seat_in, ticked, act, answers_after, look_answers, peek_answers, call_begins, goes_on, peeks_on, peek_acts, happens, world_after, opening_world}
use Rattle.exchange_laws.proofs.OwnedRuns.{after_both}

-- there are more behind
abbrev pub Grows : List Answer → List Answer → Type 0
Grows was now = (later : List Answer) × (now ≡ was ++ later)

same : (answers : List Answer) → Grows answers answers
same answers = ([], sym (append-nil answers))

both : (a b c : List Answer) → Grows a b → Grows b c → Grows a c
both a b c g h = (g.0 ++ h.0, h.1 ∙ ap (λ (ms : List Answer). ms ++ h.0) g.1 ∙ append_assoc a g.0 h.0)

pub fate_grows : (x : World) (p : ℕ) (call : Call) (course : Course) (f : Fate) →
    Grows x.answers (answers_after x p call course f)
fate_grows x p call course (On step) = same x.answers
fate_grows x p call course (Ends reply) = (_, refl)
fate_grows x p call course Spends = (_, refl)
fate_grows x p call course Refuses = (_, refl)

pub look_grows : (plan : Plan) (x : World) (p : ℕ) (aim : Aim) (course : Course) (f : GlanceFate) →
    Grows x.answers (look_answers plan x p aim course f)
look_grows plan x p aim course (Looks glance) = same x.answers
look_grows plan x p aim course (Shows items) = (_, refl)
look_grows plan x p aim course Disturbed = same x.answers

peek_grows : (plan : Plan) (x : World) (r : ℕ) (aim : Aim) (course : Course) (f : GlanceFate) →
    Grows x.answers (peek_answers plan x r aim course f)
peek_grows plan x r aim course (Looks glance) = same x.answers
peek_grows plan x r aim course (Shows items) = (_, refl)
peek_grows plan x r aim course Disturbed = (_, refl)

call_grows : (plan : Plan) (x : World) (p : ℕ) (now : SeatNow) (call : Call) →
    Grows x.answers (call_begins plan x p now call).answers
call_grows plan x p now (Lookup key) = same x.answers
call_grows plan x p now (Insert key value) = fate_grows x p (Insert key value) _ _
call_grows plan x p now (Remove key) = fate_grows x p (Remove key) _ _
call_grows plan x p now (Tally key amount) = fate_grows x p (Tally key amount) _ _
call_grows plan x p now (Count key value amount) = fate_grows x p (Count key value amount) _ _
call_grows plan x p now (Put key value) = fate_grows x p (Put key value) _ _

stand_grows : (plan : Plan) (x : World) (p : ℕ) (now : SeatNow) (stand : Stand) →
    Grows x.answers (goes_on plan x p now stand).answers
stand_grows plan x p now S.Idle = same x.answers
stand_grows plan x p now (S.Goes call step) = fate_grows x p call _ _
stand_grows plan x p now (S.Glances aim glance) = look_grows plan x p aim _ _

seat_grows : (plan : Plan) (x : World) (p : ℕ) (now : SeatNow) (what : What) →
    Grows x.answers (act plan x p now what).answers
seat_grows plan x p now (Begin call) = call_grows plan x p now call
seat_grows plan x p now (Copy bucket) = same x.answers
seat_grows plan x p now Step_on = stand_grows plan x p now now.stand

reader_grows : (plan : Plan) (x : World) (r : ℕ) (peek : Peek) →
    Grows x.answers (peek_acts plan x r (x.readers r) peek).answers
reader_grows plan x r (Open aim tries) = same x.answers
reader_grows plan x r Peek_on = go (x.readers r).stand
  where
    go : (stand : S.Peeking) → Grows x.answers (peeks_on plan x r (x.readers r) stand).answers
    go S.Rests = same x.answers
    go (S.Peeks aim glance) = peek_grows plan x r aim _ _

pub event_grows : (plan : Plan) (x : World) (event : Event) → Grows x.answers (happens plan x event).answers
event_grows plan x (OfSeat p what) = go (nat_lt p (holders_of plan.settings))
  where
    go : (c : Bool) → Grows x.answers (cond c (ticked (act plan x p (seat_in x p) what)) x).answers
    go true = seat_grows plan x p (seat_in x p) what
    go false = same x.answers
event_grows plan x (OfReader r peek) = reader_grows plan x r peek

grows : (plan : Plan) (events : List Event) (x : World) → Grows x.answers (fold (happens plan) x events).answers
grows plan [] x = same x.answers
grows plan (event ∷ events) x =
    both x.answers (happens plan x event).answers (fold (happens plan) (happens plan x event) events).answers
    (event_grows plan x event) (grows plan events (happens plan x event))

-- THE RESULT
pub answers_grow : (plan : Plan) (front back : List Event) →
    Grows (world_after plan front).answers (world_after plan (front ++ back)).answers
answers_grow plan front back =
    subst (λ (z : World). Grows (world_after plan front).answers z.answers)
    (sym (after_both plan front back (opening_world plan))) (grows plan back (world_after plan front))

-- so there are no fewer
pub long_grows : (was now : List Answer) → Grows was now → length was ≤ length now
long_grows was now g =
    let long = ap (λ (told : List Answer). length told) g.1 in
    let parts = length-append was g.0 in omega (arith, long, parts)
