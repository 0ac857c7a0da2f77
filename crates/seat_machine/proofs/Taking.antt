-- From the parts of a step to the program after it.
use Rattle.std.proofs.Common.{◌≡◌, ◌≢◌, ℕ, ◌+◌, length, None, refl, sym, ap, ◌∙◌, subst, arith}
use Rattle.std.specs.Prelude.{slice_get}
use Rattle.step_counts.specs.declared.rows.SeatRows.{SeatRows}
use Rattle.plain_map.specs.declared.calls.Reply.{Reply}
use Rattle.table_model.specs.Asks.{ask_in}
use Rattle.table_model.specs.Fits.{Makes, StepFits}
use Rattle.table_model.specs.Goes.{flight_after, phase_after, state_after, used_after}
use Rattle.table_model.specs.Phases.{Phase}
use Rattle.table_model.specs.Program.{CanTake, FitsIn, Program, answers, blank, takes}
use Rattle.table_model.specs.SeatStates.{Flight, InFlight, SeatState, Stand}
use Rattle.table_model.specs.Setup.{Setup}
use Rattle.table_model.specs.Steps.{IsOnWord}
use Rattle.seat_machine.specs.declared.machine.Machine.{Machine}
use Rattle.seat_machine.specs.declared.stage.Stage.{Stage}
use Rattle.seat_machine.specs.declared.stage.Stage.TheVariants as S
use Rattle.seat_machine.specs.Stages.{Held, IsCovered, phase_at}
use Rattle.seat_machine.specs.Steps.{Went}
use Rattle.seat_machine.specs.View.{flight_of, held_of, phase_of, program_of, setup_of, stand_at}

-- a stage whose phase is not Stuck is in a call
stands_in : (m : Machine) (stage : Stage) (held : Held) (setup : Setup) → Makes setup (phase_at stage held) →
    stand_at m stage ≡ InFlight (flight_of m) (phase_of m)
stands_in m S.Idle held setup makes = absurd makes
stands_in m S.SeeDone held setup makes = refl
stands_in m (S.StoreOp a) held setup makes = refl
stands_in m S.Announce held setup makes = refl
stands_in m (S.FindRoot a) held setup makes = refl
stands_in m (S.FindDepth a b) held setup makes = refl
stands_in m (S.FindEntry a b c) held setup makes = refl
stands_in m (S.LookWord a b) held setup makes = refl
stands_in m (S.LookCount a) held setup makes = refl
stands_in m (S.LookItems a b) held setup makes = refl
stands_in m (S.TryWord a b c) held setup makes = refl
stands_in m (S.TryRow a b c d) held setup makes = refl
stands_in m (S.TryAnnouncement a b c d) held setup makes = refl
stands_in m (S.TryOp a b c d e) held setup makes = refl
stands_in m (S.TryStore a b c d e) held setup makes = refl
stands_in m (S.TryExchange a b c d) held setup makes = refl
stands_in m (S.DirRoot a b c) held setup makes = refl
stands_in m (S.DirDepth a b c d) held setup makes = refl
stands_in m (S.DirEntries a b c d e) held setup makes = refl
stands_in m (S.DirAnnouncement a b c d) held setup makes = refl
stands_in m (S.DirOp a b c d e) held setup makes = refl
stands_in m (S.DirWord a b c d e) held setup makes = refl
stands_in m (S.DirRow a b c d e f) held setup makes = refl
stands_in m (S.DirStore a b c d e) held setup makes = refl
stands_in m (S.DirExchange a b c d) held setup makes = refl
stands_in m (S.LastWord a b) held setup makes = refl
stands_in m (S.LastRow a) held setup makes = refl
stands_in m (S.StoreDone a b) held setup makes = refl
stands_in m S.Stuck held setup makes = absurd makes

-- a step of a covered stage goes on
goes : (m : Machine) (stage : Stage) (held : Held) (setup : Setup) (seat : ℕ) (used : SeatRows) (flight : Flight)
    (word : ℕ) → IsCovered stage →
    (let phase = phase_at stage held in
    state_after setup seat (blank used) flight phase word ≡ record {
      account = record (blank used) { used = used_after setup used phase word };
      stand = InFlight (flight_after flight phase word) (phase_after setup seat used flight phase word);
    })
    × (stand_at m stage ≡ InFlight (flight_of m) (phase_of m))
goes m S.Idle held setup seat used flight word covered = absurd covered
goes m S.SeeDone held setup seat used flight word covered = (refl, refl)
goes m (S.StoreOp a) held setup seat used flight word covered = (refl, refl)
goes m S.Announce held setup seat used flight word covered = (refl, refl)
goes m (S.FindRoot a) held setup seat used flight word covered = (refl, refl)
goes m (S.FindDepth a b) held setup seat used flight word covered = (refl, refl)
goes m (S.FindEntry a b c) held setup seat used flight word covered = (refl, refl)
goes m (S.LookWord a b) held setup seat used flight word covered = (refl, refl)
goes m (S.LookCount a) held setup seat used flight word covered = (refl, refl)
goes m (S.LookItems a b) held setup seat used flight word covered = (refl, refl)
goes m (S.TryWord a b c) held setup seat used flight word covered = (refl, refl)
goes m (S.TryRow a b c d) held setup seat used flight word covered = (refl, refl)
goes m (S.TryAnnouncement a b c d) held setup seat used flight word covered = (refl, refl)
goes m (S.TryOp a b c d e) held setup seat used flight word covered = (refl, refl)
goes m (S.TryStore a b c d e) held setup seat used flight word covered = (refl, refl)
goes m (S.TryExchange a b c d) held setup seat used flight word covered = (refl, refl)
goes m (S.DirRoot a b c) held setup seat used flight word covered = (refl, refl)
goes m (S.DirDepth a b c d) held setup seat used flight word covered = (refl, refl)
goes m (S.DirEntries a b c d e) held setup seat used flight word covered = (refl, refl)
goes m (S.DirAnnouncement a b c d) held setup seat used flight word covered = (refl, refl)
goes m (S.DirOp a b c d e) held setup seat used flight word covered = (refl, refl)
goes m (S.DirWord a b c d e) held setup seat used flight word covered = (refl, refl)
goes m (S.DirRow a b c d e f) held setup seat used flight word covered = (refl, refl)
goes m (S.DirStore a b c d e) held setup seat used flight word covered = (refl, refl)
goes m (S.DirExchange a b c d) held setup seat used flight word covered = (refl, refl)
goes m (S.LastWord a b) held setup seat used flight word covered = (refl, refl)
goes m (S.LastRow a) held setup seat used flight word covered = (refl, refl)
goes m (S.StoreDone a b) held setup seat used flight word covered = absurd covered
goes m S.Stuck held setup seat used flight word covered = absurd covered

module _ (was now : Machine) (word : ℕ) (covered : IsCovered was.stage) (w : Went was now word)
    (can : CanTake (program_of was) word) where
  going : state_after (setup_of was) was.seat (blank was.used) (flight_of was) (phase_of was) word ≡ record {
    account = record (blank was.used) { used = used_after (setup_of was) was.used (phase_of was) word };
    stand = InFlight (flight_after (flight_of was) (phase_of was) word)
        (phase_after (setup_of was) was.seat was.used (flight_of was) (phase_of was) word);
  }
  going = (goes was was.stage (held_of was) (setup_of was) was.seat was.used (flight_of was) word covered).0

  was_stands : stand_at was was.stage ≡ InFlight (flight_of was) (phase_of was)
  was_stands = (goes was was.stage (held_of was) (setup_of was) was.seat was.used (flight_of was) word covered).1

  makes : Makes (setup_of was) (phase_after (setup_of was) was.seat was.used (flight_of was) (phase_of was) word)
  makes =
      let fits : StepFits (setup_of was) was.seat was.used (flight_of was) (phase_of was) word =
      subst (λ (stand : Stand). FitsIn (setup_of was) was.seat was.used stand word) was_stands can in
      fits.makes

  steps_to : state_after (setup_of was) was.seat (blank was.used) (flight_of was) (phase_of was) word ≡ record {
    account = record (blank was.used) { used = now.used };
    stand = InFlight (flight_of now) (phase_of now);
  }
  steps_to =
      going
      ∙ (λ i. record {
        account = record (blank was.used) { used = sym w.used i };
        stand = InFlight (sym w.flight i) (sym w.phase i);
      })

  now_stands : stand_at now now.stage ≡ InFlight (flight_of now) (phase_of now)
  now_stands =
      stands_in now now.stage (held_of now) (setup_of was) (subst (Makes (setup_of was)) (sym w.phase) makes)

  -- the program, where it stands so
  abbrev program_with : Stand → Program
  program_with stand =
      record { setup = setup_of was; seat = was.seat; used = was.used; count = was.count; stand = stand }

  takes_is : takes (program_of was) word ≡ record {
    setup = setup_of was;
    seat = was.seat;
    used = now.used;
    count = was.count + 0;
    stand = InFlight (flight_of now) (phase_of now);
  }
  takes_is =
      ap (λ (stand : Stand). takes (program_with stand) word) was_stands
      ∙ ap (λ (s : SeatState). let p : Program = record {
        setup = setup_of was;
        seat = was.seat;
        used = s.account.used;
        count = was.count + length s.account.records;
        stand = s.stand;
      } in p) steps_to

  pub went_takes : program_of now ≡ takes (program_of was) word
  went_takes =
      let count : now.count ≡ was.count + 0 = omega (arith, w.count) in
      (λ i. record {
        setup = w.setup i;
        seat = w.seat i;
        used = now.used;
        count = count i;
        stand = now_stands i;
      }) ∙ sym takes_is

  pub went_answers : None ≡ answers (program_of was) word
  went_answers =
      sym (ap (λ (stand : Stand). answers (program_with stand) word) was_stands
      ∙ ap (λ (s : SeatState). slice_get s.account.records 0) steps_to)

-- what can be taken and does not end the call is covered
pub covers : (m : Machine) (stage : Stage) (word : ℕ) → ((a : Reply) (b : ℕ) → stage ≢ S.StoreDone a b) →
    CanTake (record {
      setup = setup_of m;
      seat = m.seat;
      used = m.used;
      count = m.count;
      stand = stand_at m stage;
    }) word → phase_of m ≡ phase_at stage (held_of m) → IsCovered stage
covers m S.Idle word other can is = absurd can
covers m S.SeeDone word other can is = tt
covers m (S.StoreOp a) word other can is = tt
covers m S.Announce word other can is = tt
covers m (S.FindRoot a) word other can is = tt
covers m (S.FindDepth a b) word other can is = tt
covers m (S.FindEntry a b c) word other can is = tt
covers m (S.LookWord a b) word other can is = tt
covers m (S.LookCount a) word other can is = tt
covers m (S.LookItems a b) word other can is = tt
covers m (S.TryWord a b c) word other can is = tt
covers m (S.TryRow a b c d) word other can is = tt
covers m (S.TryAnnouncement a b c d) word other can is = tt
covers m (S.TryOp a b c d e) word other can is = tt
covers m (S.TryStore a b c d e) word other can is = tt
covers m (S.TryExchange a b c d) word other can is = tt
covers m (S.DirRoot a b c) word other can is = tt
covers m (S.DirDepth a b c d) word other can is = tt
covers m (S.DirEntries a b c d e) word other can is = tt
covers m (S.DirAnnouncement a b c d) word other can is = tt
covers m (S.DirOp a b c d e) word other can is = tt
covers m (S.DirWord a b c d e) word other can is = tt
covers m (S.DirRow a b c d e f) word other can is = tt
covers m (S.DirStore a b c d e) word other can is = tt
covers m (S.DirExchange a b c d) word other can is = tt
covers m (S.LastWord a b) word other can is = tt
covers m (S.LastRow a) word other can is = tt
covers m (S.StoreDone a b) word other can is = absurd (other a b refl)
covers m S.Stuck word other can is = absurd (subst (λ (p : Phase). IsOnWord (setup_of m).shape
    (ask_in (setup_of m) m.seat m.used (flight_of m) p)) is can.on_word)
