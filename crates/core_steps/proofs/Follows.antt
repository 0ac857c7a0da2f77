-- One step of a seat of a world.
use Rattle.std.proofs.Common.{◌≡◌, ℕ, List, ◌++◌, ◌∷◌, [], length, get_or, set, slice_get, Option, Some, None, refl, sym, ap, ◌∙◌, subst, arith, get_or-set_same, inl, inr}
use Rattle.plain_map.specs.declared.calls.Call.{Call}
use Rattle.plain_map.specs.declared.full.Full.{Full}
use Rattle.plain_map.specs.declared.records.Record.{Record}
use Rattle.word_rows.specs.Shape.{Shape}
use Rattle.word_rows.specs.Places.{place}
use Rattle.table_model.specs.declared.events.Event.{Event}
use Rattle.table_model.specs.declared.events.Ask.{Ask}
use Rattle.table_model.specs.Setup.{Setup}
use Rattle.table_model.specs.SeatStates.{Account, Flight, Stand, Idle, InFlight, SeatState, fresh_seat}
use Rattle.table_model.specs.Worlds.{World, happens, seat_in, world_after, found_by, step_of}
use Rattle.table_model.specs.Steps.{IsOnWord, MayStep, address_of, becomes, told, ask_of, advanced, begin_of, event_of, flight_in, phase_in}
use Rattle.table_model.specs.Program.{Program, CanTake, after_in, answers, asks, program_at, takes, without_first}
use Rattle.table_model.specs.Fits.{EveryStepFits}
use Rattle.play_laws.specs.Laws.{FirstPairsDoNotAsk, ProgramsFollow, RunsCanBeTaken, StepsEndOrGoOn}
use Rattle.play_laws.proofs.Worlds.{steps_world, words_are, found_is, length-world}
use Rattle.core_steps.specs.declared.values.Stepped.{Stepped}
use Rattle.core_steps.specs.declared.values.Stepped.TheVariants.{Going, Ended}
use Rattle.core_steps.specs.Values.{refused_at, new_record, told_of}
use Rattle.core_steps.specs.Steps.{AtStep, Advanced, ended_in}

-- the one record of a list of one or none
abbrev at_most_one : List Record → Type 0
at_most_one [] = Unit {0}
at_most_one (r ∷ []) = Unit {0}
at_most_one (r ∷ (q ∷ rs)) = ⊥

-- what is told of a step, by the record that it made
abbrev pub stepped_for : Option Record → Stepped
stepped_for None = Going
stepped_for (Some r) = Ended r

-- it has that record
ended_all : (made : List Record) → at_most_one made → ended_in (stepped_for (slice_get made 0)) ≡ made
ended_all [] one = refl
ended_all (r ∷ []) one = refl
ended_all (r ∷ (q ∷ rs)) one = absurd one

-- and is what is told where nothing is refused
told_none : (made : Option Record) → told_of None made ≡ stepped_for made
told_none None = refl
told_none (Some r) = refl

-- the first record that was added
first_added : (xs ys : List Record) → slice_get (xs ++ ys) (length xs) ≡ slice_get ys 0
first_added [] ys = refl
first_added (x ∷ xs) ys = first_added xs ys

-- the call of a seat that may step is not refused
not_refused : (setup : Setup) (seat : ℕ) (asked : ℕ × Call) (account : Account) (stand : Stand) →
    MayStep setup seat asked account stand → refused_at setup seat account stand (begin_of stand asked) ≡ None
not_refused setup seat asked account Idle may = may.0
not_refused setup seat asked account (InFlight flight phase) may = refl

module _ (shape : Shape) (words : List ℕ) (p : Program) (s : AtStep shape words p) (a : Ask) (a_is : a ≡ asks p)
    (same : FirstPairsDoNotAsk) where
  -- the call and the phase of the step
  abbrev flight : Flight
  flight = flight_in s.state.account s.state.stand s.asked

  -- what is asked for
  ask_is : a ≡ ask_of s.setup s.seat s.asked s.state
  ask_is = a_is ∙ ap asks s.program
      ∙ same s.setup s.seat s.state.account.used (flight_in s.state.account s.state.stand s.asked)
      (phase_in s.state.stand)

  -- is on a word of the table
  pub on : EveryStepFits → IsOnWord shape a
  on law =
      subst (λ (u : Shape × Ask). IsOnWord u.0 u.1) (λ i. (s.shape_is i, sym ask_is i))
      (law s.setup s.events s.seat s.asked s.state s.run s.inside s.at s.may).on_word

  module _ (word : ℕ) (word_is : word ≡ told a (get_or words (place shape (address_of a)) 0)) where
    -- and finds what the definition finds
    found : word ≡ found_by s.setup (ask_of s.setup s.seat s.asked s.state) (world_after s.setup s.events).words
    found =
        word_is
        ∙ (λ i. told (ask_is i) (get_or (s.words_are i) (place (sym s.shape_is i) (address_of (ask_is i))) 0))
        ∙ found_is s.setup (ask_of s.setup s.seat s.asked s.state) (world_after s.setup s.events).words

    -- so the program can take it
    pub taken : EveryStepFits → RunsCanBeTaken → CanTake p word
    taken law can =
        subst (λ (q : Program). CanTake q word) (sym s.program)
        (can law s.setup s.events s.seat s.asked s.state word s.run s.inside s.at s.may found)

    -- the records that the step makes by themselves
    abbrev small : List Record
    small = (after_in (without_first s.setup) s.seat s.state.account.used
        (InFlight (flight_in s.state.account s.state.stand s.asked) (phase_in s.state.stand)) word).account.records

    -- are one or none
    one : EveryStepFits → StepsEndOrGoOn → at_most_one small
    one law ends = elim (ends (without_first s.setup) s.seat s.state.account.used flight word (phase_in s.state.stand)
        (subst (IsOnWord s.setup.shape)
        (sym (same s.setup s.seat s.state.account.used flight (phase_in s.state.stand)))
        (law s.setup s.events s.seat s.asked s.state s.run s.inside s.at s.may).on_word)) [
          | inl goes ↦ subst at_most_one (sym goes.records) tt
          | inr end ↦ subst at_most_one (sym end.records) tt
        ]

    -- the world after the step, and what is told of it
    pub followed : EveryStepFits → ProgramsFollow → StepsEndOrGoOn → (now : List ℕ) (q : Program)
        (made : Option Record) (stepped : Stepped) →
        now ≡ set words (place shape (address_of a)) (becomes a (get_or words (place shape (address_of a)) 0)) →
        q ≡ takes p word → made ≡ answers p word → stepped ≡ stepped_for made → Advanced s now q stepped
    followed law go ends now q made stepped now_is q_is made_is stepped_is =
        let b : Ask = ask_of s.setup s.seat s.asked s.state in
        let w : World = world_after s.setup s.events in
        let e : Event = event_of s.seat s.asked s.state in
        let next : SeatState = advanced s.setup s.seat s.asked s.state word in
        let world : happens s.setup w e ≡ step_of s.setup w s.seat s.state.account flight (phase_in s.state.stand) =
        steps_world s.setup s.seat s.asked w s.state s.inside s.at s.may in
        let seats = ap (λ (x : World). x.seats) world
        ∙ ap (λ (k : ℕ). set w.seats s.seat (advanced s.setup s.seat s.asked s.state k)) (sym found) in
        let here : seat_in (happens s.setup w e) s.seat ≡ next =
        ap (λ (ss : List SeatState). get_or ss s.seat fresh_seat) seats
        ∙ get_or-set_same w.seats s.seat next fresh_seat
        (omega (arith, length-world s.setup s.events, s.inside)) in
        let follow = go s.setup s.seat s.state.account flight (phase_in s.state.stand) word in
        let made_small : made ≡ slice_get small 0 = made_is ∙ ap (λ (x : Program). answers x word) s.program in
        let added : new_record s.state.account next.account ≡ made =
        ap (λ (rs : List Record). slice_get rs (length s.state.account.records)) follow.1
        ∙ first_added s.state.account.records small ∙ sym made_small in
        record {
          words_are =
              now_is
              ∙ (λ i. set (s.words_are i) (place (sym s.shape_is i) (address_of (ask_is i)))
              (becomes (ask_is i) (get_or (s.words_are i) (place (sym s.shape_is i) (address_of (ask_is i))) 0)))
              ∙ sym (words_are s.setup b w.words) ∙ sym (ap (λ (x : World). x.words) world);
          program =
              q_is ∙ ap (λ (x : Program). takes x word) s.program ∙ follow.0
              ∙ ap (λ (x : SeatState). program_at s.setup s.seat x.account x.stand) (sym here);
          told =
              stepped_is ∙ sym (told_none made)
              ∙ ap (told_of None) (sym added)
              ∙ ap (λ (o : Option Full). told_of o (new_record s.state.account next.account))
              (sym (not_refused s.setup s.seat s.asked s.state.account s.state.stand s.may))
              ∙ (λ i. told_of
              (refused_at s.setup s.seat (sym s.at i).account (sym s.at i).stand (begin_of s.state.stand s.asked))
              (new_record (sym s.at i).account (sym here i).account));
          grown =
              ap (λ (x : SeatState). x.account.records) here ∙ follow.1
              ∙ ap (λ (rs : List Record). s.state.account.records ++ rs)
              (sym (ended_all small (one law ends))
              ∙ ap (λ (o : Option Record). ended_in (stepped_for o)) (sym made_small)
              ∙ ap ended_in (sym stepped_is));
        }
