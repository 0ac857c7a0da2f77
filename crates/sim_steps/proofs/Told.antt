-- The steps that a seat tells are its events.
use Rattle.std.proofs.Common.{◌≡◌, ◌≢◌, ℕ, ◌+◌, ◌<◌, Bool, true, false, cond, eqb, ltb, ◌&&◌, List, [], ◌∷◌, length, get_or, inl, inr, refl, sym, ap, ◌∙◌, arith, get_or-set_same, get_or-set_other}
use Rattle.std.specs.Prelude.{sum_by}
use Rattle.std.proofs.lemmas.Bool.{cond-true, cond-false, eq-eqb, ne_eqb, cases_eq, and_parts, ltb-true}
use Rattle.std.proofs.lemmas.List.{get_or-replicate}
use Rattle.sim_steps.specs.declared.adds.Add.{Add}
use Rattle.sim_steps.specs.Layout.{Settings, seats_of, desk_of}
use Rattle.sim_steps.specs.Program.{Seat, ready, begun, is_idle, resting, next_in, seat_after}
use Rattle.sim_steps.specs.World.{World, Event, AreStepsFrom, place_of, address_of, told, can_act, seat_in, acts, happens, opening, world_from}
use Rattle.sim_steps.specs.Laws.{OfEach, AreCounted, steps_of, events_of}
use Rattle.sim_steps.proofs.Logs.{steps_step}
use Rattle.sim_steps.proofs.Runs.{Holds, happens_holds, start_holds}

-- a seat that begins has told the same
ready_same : (l : Settings) (a : Add) (seat : Seat) →
    (steps_of (ready a seat) ≡ steps_of seat) × (is_idle (ready a seat).phase ≡ false)
ready_same l a seat = go (is_idle seat.phase) refl
  where
    go : (b : Bool) → is_idle seat.phase ≡ b →
        (steps_of (cond b (begun a seat) seat) ≡ steps_of seat) × (is_idle (cond b (begun a seat) seat).phase ≡ false)
    go true e = (ap (λ x. sum_by (λ added. added.steps) seat.log + cond x 0 seat.steps) (sym e), refl)
    go false e = (refl, e)

module _ (l : Settings) (w : World) (long : length w.seats ≡ seats_of l) (e : Event) (p : ℕ) where
  -- the world after the event
  abbrev after : World
  after = acts l e.seat (ready e.add (seat_in w e.seat)) w

  -- the word that it told
  abbrev word : ℕ
  word = let ask = next_in (desk_of l e.seat) (ready e.add (seat_in w e.seat)).caller
      (ready e.add (seat_in w e.seat)).phase in told ask (get_or w.words (place_of l (address_of ask)) 0)

  -- the seat after it
  abbrev new : Seat
  new = seat_after (desk_of l e.seat) (ready e.add (seat_in w e.seat)) word

  -- the seat of the event has one step more
  mine : e.seat < seats_of l → e.seat ≡ p → steps_of (seat_in after p) ≡ steps_of (seat_in w p) + 1
  mine h f =
      let r = ready e.add (seat_in w e.seat) in
      let b = ready_same l e.add (seat_in w e.seat) in
      let at : seat_in after e.seat ≡ new = get_or-set_same w.seats e.seat new resting (omega (arith, long, h)) in
      ap (λ q. steps_of (seat_in after q)) (sym f) ∙ ap steps_of at
      ∙ steps_step l e.seat r.caller r.steps r.phase word r.log b.1
      ∙ ap (λ n. n + 1) b.0 ∙ ap (λ q. steps_of (seat_in w q) + 1) f

  -- each other seat has as many as before
  others : e.seat ≢ p → steps_of (seat_in after p) ≡ steps_of (seat_in w p)
  others n = ap steps_of (get_or-set_other w.seats e.seat p new resting (λ f. n (sym f)))

  -- so an event is counted by its seat
  step_told : e.seat < seats_of l → steps_of (seat_in after p) ≡ steps_of (seat_in w p) + cond (eqb e.seat p) 1 0
  step_told h = elim (cases_eq e.seat p) [
    | inl f ↦ mine h f ∙ ap (λ n. steps_of (seat_in w p) + n) (sym (cond-true (eqb e.seat p) 1 0 (eq-eqb e.seat p f)))
    | inr n ↦ omega (arith, others n, cond-false {A = ℕ} (eqb e.seat p) 1 0 (ne_eqb e.seat p n))
  ]

-- and so are all events of a run
run_told : (l : Settings) (es : List Event) (w : World) (p : ℕ) → Holds l w → AreStepsFrom l w es →
    steps_of (seat_in (world_from l w es) p) ≡ steps_of (seat_in w p) + events_of p es
run_told l [] w p o h = omega arith
run_told l (e ∷ es) w p o h =
    let t : (ltb e.seat (seats_of l) && can_act l e.seat e.add (seat_in w e.seat)) ≡ true = h.0 in
    let inside = ltb-true e.seat (seats_of l)
    (and_parts (ltb e.seat (seats_of l)) (can_act l e.seat e.add (seat_in w e.seat)) t).0 in
    let same : happens l w e ≡ acts l e.seat (ready e.add (seat_in w e.seat)) w =
    cond-true {A = World} (ltb e.seat (seats_of l) && can_act l e.seat e.add (seat_in w e.seat))
    (acts l e.seat (ready e.add (seat_in w e.seat)) w) w t in
    omega (
      arith,
      run_told l es (happens l w e) p (happens_holds l w e o) h.1,
      ap (λ v. steps_of (seat_in v p)) same,
      step_told l w o.follows.long e p inside,
    )

-- the steps that are told are the events
pub are_counted : OfEach AreCounted
are_counted l es p ok h steps =
    let none : seat_in (opening l) p ≡ resting = get_or-replicate (seats_of l) p resting resting h in
    omega (arith, run_told l es (opening l) p (start_holds l ok) steps, ap steps_of none)
