-- One access of a seat, with the steps that it takes late: where they lead, and which words stay 0.
use Rattle.std.proofs.Common.{◌≡◌, ◌≢◌, ℕ, ◌+◌, ◌⊎◌, List, [], ◌∷◌, ◌++◌, get_or, set, inl, inr, sym, ap, ◌∙◌, subst, arith, get_or-set_same, get_or-set_other}
use Rattle.std.proofs.lemmas.List.{set-get_or}
use Rattle.plain_map.specs.declared.calls.Call.{Call}
use Rattle.plain_map.specs.declared.records.Record.{Record}
use Rattle.word_rows.specs.Places.{place}
use Rattle.table_model.specs.declared.events.Event.{Event}
use Rattle.table_model.specs.declared.events.Ask.{Ask}
use Rattle.table_model.specs.Setup.{Setup}
use Rattle.table_model.specs.Phases.{Phase}
use Rattle.table_model.specs.SeatStates.{Idle, InFlight, SeatState, fresh_seat, record_of}
use Rattle.table_model.specs.Goes.{state_after, phase_after, used_after, flight_after, with_answer}
use Rattle.table_model.specs.Shown.{Holding}
use Rattle.table_model.specs.Worlds.{World, found_by, seat_in, world_after}
use Rattle.table_model.specs.Steps.{flight_in, MayStep, address_of, advanced, ask_of, becomes, event_of, told}
use Rattle.bound_laws.proofs.FitsWhole.{every_step_fits}
use Rattle.seat_calls.specs.Going.{Going, Fits, IsGoing, IsMade, IsOpen, goes}
use Rattle.play_laws.proofs.Worlds.{is_event, length-world, run-snoc, steps_world, words_are, world-snoc}
use Rattle.shared_table.specs.declared.zeros.Zeros.{Zeros}
use Rattle.shared_table.specs.Rule.{Learned, M, alone, IsReached, asked_by, after_step, with_late, Steps}
use Rattle.shared_table.specs.Zeros.{HasZeros, IsZero}
use Rattle.shared_table.specs.Calls.{Ended, Under, going_of}
use Rattle.shared_table.proofs.Learning.{learned_as, learned_one, learned_then}
use Rattle.shared_table.proofs.Actions.{goes_state}

-- the words after a seat's step: one becomes what the step makes of it
step_words : (c : Setup) (seat : ℕ) (asked : ℕ × Call) (state : SeatState) (before : List Event) →
    IsReached (record { setup = c; seat = seat; state = state; known = before }) →
    MayStep c seat asked state.account state.stand →
    (world_after c (before ++ event_of seat asked state ∷ [])).words
    ≡ set (world_after c before).words (place c.shape (address_of (ask_of c seat asked state)))
    (becomes (ask_of c seat asked state)
    (get_or (world_after c before).words (place c.shape (address_of (ask_of c seat asked state))) 0))
step_words c seat asked state before r may =
    let w : World = world_after c before in
    ap (λ (x : World). x.words) (world-snoc c before (event_of seat asked state)
    ∙ steps_world c seat asked w state r.seat r.state may) ∙ words_are c (ask_of c seat asked state) w.words

-- where a seat may step, it has its next state then
pub reached_then : (c : Setup) (seat : ℕ) (asked : ℕ × Call) (state : SeatState) (before : List Event) →
    IsReached (record { setup = c; seat = seat; state = state; known = before }) →
    MayStep c seat asked state.account state.stand → (word : ℕ) →
    word ≡ found_by c (ask_of c seat asked state) (world_after c before).words →
    IsReached (after_step (record { setup = c; seat = seat; state = state; known = before }) asked word before)
reached_then c seat asked state before r may word is =
    let w : World = world_after c before in
    let e : Event = event_of seat asked state in
    let found : ℕ = found_by c (ask_of c seat asked state) w.words in
    record {
      run = run-snoc c before e r.run (is_event c seat asked w state r.seat r.state may);
      seat = r.seat;
      state =
          ap (λ (x : World). seat_in x seat)
          (world-snoc c before e ∙ steps_world c seat asked w state r.seat r.state may)
          ∙ get_or-set_same w.seats seat (advanced c seat asked state found) fresh_seat
          (omega (arith, length-world c before, r.seat))
          ∙ ap (advanced c seat asked state) (sym is);
    }

-- a step leaves a word that it is not on, and all words where it changes none
abbrev pub Leaves : Ask → (at word : ℕ) → Type 0
Leaves a at word = (word ≢ at) ⊎ ((was : ℕ) → becomes a was ≡ was)

-- so the word is what it was
leaves_word : (a : Ask) (words : List ℕ) (at word : ℕ) → Leaves a at word →
    get_or (set words at (becomes a (get_or words at 0))) word 0 ≡ get_or words word 0
leaves_word a words at word (inl apart) = get_or-set_other words at word (becomes a (get_or words at 0)) 0 apart
leaves_word a words at word (inr same) =
    ap (λ (k : ℕ). get_or (set words at k) word 0) (same (get_or words at 0))
    ∙ ap (λ (ws : List ℕ). get_or ws word 0) (set-get_or words at 0)

module _ (asked : ℕ × Call) (late : ℕ) (h : Holding) where
  -- the seat as it stands behind its late steps
  abbrev pub hh : Holding
  hh = with_late asked late h

  -- where its call stands then
  abbrev pub gg : Going
  gg = going_of asked hh

  module _ (may : MayStep h.setup h.seat asked hh.state.account hh.state.stand) (n : ℕ) (w : M)
      (s : Steps asked late h n w) (heard : told (asked_by hh asked) n ≡ n) where
    -- the seat after the step
    abbrev pub last : Holding
    last = after_step hh asked n s.before

    -- the token has that holding alone
    pub one : w ≡ alone last
    one = s.is ∙ ap (λ (k : ℕ). alone (after_step hh asked k s.before)) heard

    -- it is reached by a run
    pub reached : IsReached last
    reached = subst (λ (k : ℕ). IsReached (after_step hh asked k s.before)) heard s.reached

    -- the word that was found fits the step
    pub fits : Fits gg n
    fits = subst (λ (k : ℕ). Fits gg k) (sym s.found ∙ heard)
        (every_step_fits h.setup s.before h.seat asked hh.state s.was.run s.was.seat s.was.state may)

    -- the words that it leaves are what they were
    pub keeps_zeros : (was now : Zeros) → HasZeros h was →
        ((word : ℕ) → IsZero now word →
        IsZero was word × Leaves (asked_by hh asked) (place h.setup.shape (address_of (asked_by hh asked))) word) →
        HasZeros last now
    keeps_zeros was now has fewer = record {
      own = λ word z. has.own word (fewer word z).0;
      zero = λ word z.
          let f = fewer word z in
          ap (λ (ws : List ℕ). get_or ws word 0) (step_words h.setup h.seat asked hh.state s.before s.was may)
          ∙ leaves_word (asked_by hh asked) (world_after h.setup s.before).words
          (place h.setup.shape (address_of (asked_by hh asked))) word f.1
          ∙ s.stays word (has.own word f.0) ∙ has.zero word f.0;
    }

  module _ (first : Holding) (own : ℕ) (u : Under asked first hh) (since : Learned first.seat own first.known h.known)
      (all : (flight_in hh.state.account hh.state.stand asked).steps ≡ own + late) (n : ℕ) (w : M)
      (s : Steps asked late h n w) (heard : told (asked_by hh asked) n ≡ n) where
    -- the seat after the step
    abbrev then : Holding
    then = last u.may n w s heard

    -- what it knows then has one event of its own more
    learned : (more : ℕ) → more ≡ gg.flight.steps + 1 → Learned first.seat more first.known then.known
    learned more is =
        let e : Event = event_of h.seat asked hh.state in
        let so_far = learned_then first.seat own late first.known h.known s.before since
        (subst (λ (seat : ℕ). Learned seat late h.known s.before) u.seat s.learned) in
        learned_as first.seat (own + late + 1) more first.known then.known
        (learned_then first.seat (own + late) 1 first.known s.before then.known so_far
        (learned_one first.seat s.before e u.seat)) (omega (arith, is, all))

    module _ (going : IsGoing gg.phase) (opened : IsOpen gg.phase) where
      -- the seat's state after it
      pub state : then.state ≡ record {
        account = record gg.account { used = used_after gg.setup gg.account.used gg.phase n };
        stand = InFlight (flight_after gg.flight gg.phase n)
            (phase_after gg.setup gg.seat gg.account.used gg.flight gg.phase n);
      }
      state = goes_state gg.setup gg.seat gg.account gg.flight n gg.phase going opened

      -- the call stands where the definition goes with that word
      pub goes_now : going_of asked then ≡ goes gg n
      goes_now = ap (λ (x : SeatState). going_of asked (record then { state = x })) state

      -- it has taken one step more
      pub one_more : (flight_in then.state.account then.state.stand asked).steps ≡ gg.flight.steps + 1
      one_more = ap (λ (x : SeatState). (flight_in x.account x.stand asked).steps) state

      -- and has not answered yet
      pub under : Under asked first then
      under = record {
        reached = reached u.may n w s heard;
        setup = u.setup;
        seat = u.seat;
        may = subst (λ (x : SeatState). MayStep h.setup h.seat asked x.account x.stand) (sym state) tt;
        records = ap (λ (x : SeatState). x.account.records) state ∙ u.records;
        spent = ap (λ (x : SeatState). x.account.spent) state ∙ u.spent;
        packet = ap (λ (x : SeatState). (flight_in x.account x.stand asked).packet) state ∙ u.packet;
        call = ap (λ (x : SeatState). (flight_in x.account x.stand asked).call) state ∙ u.call;
        number = ap (λ (x : SeatState). (flight_in x.account x.stand asked).number) state ∙ u.number;
        learned = learned (flight_in then.state.account then.state.stand asked).steps one_more;
      }

    module _ (made : Record) (is_made : IsMade gg made) where
      -- after the last step the seat is idle, and has the answer
      ended_state : then.state ≡ record {
        account = with_answer gg.seat gg.account gg.flight made.reply made.place;
        stand = Idle;
      }
      ended_state = ap (λ (p : Phase). state_after gg.setup gg.seat gg.account gg.flight p n) is_made.0

      -- so the call has ended with that record
      pub ended : Ended asked first then made gg.account.used
      ended =
          let same : record_of gg.seat gg.flight made.reply made.place ≡ made = sym is_made.1 in
          record {
            reached = reached u.may n w s heard;
            setup = u.setup;
            seat = u.seat;
            idle = ap (λ (x : SeatState). x.stand) ended_state;
            published = ap (λ (x : SeatState). x.account.used) ended_state;
            records = ap (λ (x : SeatState). x.account.records) ended_state ∙ (λ i. u.records i ++ same i ∷ []);
            spent = ap (λ (x : SeatState). x.account.spent) ended_state
                ∙ (λ i. u.spent i ++ sym (ap (λ (x : SeatState). x.account.used) ended_state) i ∷ []);
            packet = ap (λ (r : Record). r.packet) (sym same) ∙ u.packet;
            call = ap (λ (r : Record). r.call) (sym same) ∙ u.call;
            number = ap (λ (r : Record). r.number) (sym same) ∙ u.number;
            learned = learned made.steps (ap (λ (r : Record). r.steps) (sym same));
          }
