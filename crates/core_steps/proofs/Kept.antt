-- What one event leaves of words, programs and records.
use Rattle.std.proofs.Common.{◌≡◌, ◌≢◌, ℕ, zero, suc, ◌<◌, Bool, cond, List, [], ◌∷◌, ◌++◌, map, length, get_or, set, refl, sym, ap, ◌∙◌, subst, arith, length-set, get_or-set_same, get_or-set_other, lt-ltb, inl, inr}
use Rattle.std.proofs.lemmas.Bool.{cases_eq}
use Rattle.std.proofs.lemmas.List.{ext_get_or, length-map}
use Rattle.plain_map.specs.declared.records.Record.{Record}
use Rattle.word_rows.specs.Shape.{Shape}
use Rattle.table_model.specs.declared.events.Event.{Event}
use Rattle.table_model.specs.Setup.{Setup, seats_of}
use Rattle.table_model.specs.SeatStates.{SeatState, fresh_seat}
use Rattle.table_model.specs.Program.{Program}
use Rattle.table_model.specs.Worlds.{World, act, happens, seat_in, world_after}
use Rattle.bound_laws.proofs.WorldSteps.{act_other}
use Rattle.play_laws.proofs.Worlds.{length-happens}
use Rattle.core_steps.specs.declared.values.Stepped.{Stepped}
use Rattle.core_steps.specs.Steps.{AtEvent, Happened, ended_in}
use Rattle.core_steps.specs.Moments.{AtCore, CoreHappened, program_of}

-- an event of one seat leaves the others
pub others : (setup : Setup) (w : World) (event : Event) (q : ℕ) → event.seat < seats_of setup → q ≢ event.seat →
    seat_in (happens setup w event) q ≡ seat_in w q
others setup w event q h n =
    ap (λ (b : Bool). seat_in (cond b (act setup w event.seat (seat_in w event.seat).account
    (seat_in w event.seat).stand event.begin) w) q) (lt-ltb event.seat (seats_of setup) h)
    ∙ act_other setup w event.seat q (seat_in w event.seat).account (seat_in w event.seat).stand event.begin n

module _ (shape : Shape) (words : List ℕ) (programs : List Program) (event : Event)
    (s : AtCore shape words programs event) where
  abbrev w : World
  w = world_after s.setup s.events

  -- the seat of the event
  abbrev pub at_event : (p : Program) → p ≡ get_or programs event.seat p → AtEvent shape words p event.begin
  at_event p p_is = record {
    setup = s.setup;
    events = s.events;
    seat = event.seat;
    account = (seat_in (world_after s.setup s.events) event.seat).account;
    stand = (seat_in (world_after s.setup s.events) event.seat).stand;
    run = s.run;
    inside = s.may.seat;
    at = refl;
    words_are = s.stands.words_are;
    shape_is = s.shape_is;
    program = p_is ∙ s.stands.programs_are event.seat p s.may.seat;
    given = s.may.begin;
  }

  -- after the event
  pub core_happened : (now : List ℕ) (after : Program) (stepped : Stepped) → length now ≡ length words →
      Happened s.setup w event.seat (seat_in w event.seat).account event now after stepped →
      CoreHappened s now (set programs event.seat after) stepped
  core_happened now after stepped len hap = record {
    stands = record {
      words_are = hap.words_are;
      long = len ∙ s.stands.long;
      seats = length-happens s.setup w event ∙ s.stands.seats;
      each = length-set programs event.seat after ∙ s.stands.each;
      programs_are = λ q d h. elim (cases_eq q event.seat) [
        | inl e ↦ subst (λ (r : ℕ). get_or (set programs event.seat after) r d
            ≡ program_of s.setup r (seat_in (happens s.setup w event) r)) (sym e)
            (get_or-set_same programs event.seat after d (omega (arith, s.stands.each, s.may.seat)) ∙ hap.program)
        | inr n ↦ get_or-set_other programs event.seat q after d n ∙ s.stands.programs_are q d h
            ∙ ap (program_of s.setup q) (sym (others s.setup w event q s.may.seat n))
      ];
    };
    told = hap.told;
    grown = hap.grown;
  }

-- the records of all seats
abbrev all_records : List SeatState → List (List Record)
all_records seats = map (λ (state : SeatState). state.account.records) seats

-- follow
pub logs_follow : (setup : Setup) (w : World) (event : Event) (stepped : Stepped) (logs : List (List Record)) →
    event.seat < seats_of setup → length w.seats ≡ seats_of setup → logs ≡ all_records w.seats →
    (seat_in (happens setup w event) event.seat).account.records
    ≡ (seat_in w event.seat).account.records ++ ended_in stepped →
    set logs event.seat (get_or logs event.seat [] ++ ended_in stepped) ≡ all_records (happens setup w event).seats
logs_follow setup w event stepped logs h long are grown =
    ext_get_or [] (set logs event.seat (get_or logs event.seat [] ++ ended_in stepped))
    (all_records (happens setup w event).seats)
    (length-set logs event.seat _ ∙ ap (λ (ls : List (List Record)). length ls) are
    ∙ length-map w.seats (λ (state : SeatState). state.account.records)
    ∙ sym (length-happens setup w event)
    ∙ sym (length-map (happens setup w event).seats (λ (state : SeatState). state.account.records)))
    (λ q k. elim (cases_eq q event.seat) [
      | inl e ↦ subst (λ (r : ℕ). get_or (set logs event.seat (get_or logs event.seat [] ++ ended_in stepped)) r []
          ≡ get_or (all_records (happens setup w event).seats) r []) (sym e) here
      | inr n ↦ get_or-set_other logs event.seat q _ [] n ∙ before q
          ∙ ap (λ (state : SeatState). state.account.records) (sym (others setup w event q h n))
          ∙ sym (after q)
    ])
  where
    read : (seats : List SeatState) (q : ℕ) → get_or (all_records seats) q []
        ≡ (get_or seats q fresh_seat).account.records
    read [] q = refl
    read (state ∷ seats) zero = refl
    read (state ∷ seats) (suc q) = read seats q

    before : (q : ℕ) → get_or logs q [] ≡ (seat_in w q).account.records
    before q = ap (λ (ls : List (List Record)). get_or ls q []) are ∙ read w.seats q

    after : (q : ℕ) → get_or (all_records (happens setup w event).seats) q []
        ≡ (seat_in (happens setup w event) q).account.records
    after q = read (happens setup w event).seats q

    here : get_or (set logs event.seat (get_or logs event.seat [] ++ ended_in stepped)) event.seat []
        ≡ get_or (all_records (happens setup w event).seats) event.seat []
    here = get_or-set_same logs event.seat _ []
        (omega (
          arith,
          ap (λ (ls : List (List Record)). length ls) are
              ∙ length-map w.seats (λ (state : SeatState). state.account.records) ∙ long,
          h,
        ))
        ∙ ap (λ (rs : List Record). rs ++ ended_in stepped) (before event.seat) ∙ sym grown ∙ sym (after event.seat)
