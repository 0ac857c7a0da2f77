-- The calls under way, by the programs of the seats.
use Rattle.std.proofs.Common.{◌≡◌, ℕ, zero, suc, ◌+◌, ◌<◌, List, [], ◌∷◌, ◌++◌, length, get_or, flat_map, option_to_list, refl, sym, ap, ◌∙◌, arith}
use Rattle.std.specs.List.{enumerate_from}
use Rattle.plain_map.specs.declared.records.Pending.{Pending}
use Rattle.table_model.specs.Setup.{Setup}
use Rattle.table_model.specs.SeatStates.{Account, Stand, Idle, InFlight, SeatState, fresh_seat}
use Rattle.table_model.specs.Worlds.{World, seat_in}
use Rattle.table_model.specs.Closed.{begun_by, begun_of}
use Rattle.table_model.specs.Program.{Program, program_at}
use Rattle.seat_machine.specs.Programs.{pending_in}
use Rattle.core_steps.specs.Moments.{StandsIn, pending_of_all, program_of}

-- the call of one seat
one : (setup : Setup) (seat : ℕ) (account : Account) (stand : Stand) →
    option_to_list (pending_in (program_at setup seat account stand)) ≡ begun_by seat stand
one setup seat account Idle = refl
one setup seat account (InFlight flight phase) = refl

-- those of all seats from one on
all_from : (setup : Setup) (from : ℕ) (programs : List Program) (states : List SeatState) →
    length programs ≡ length states →
    ((k : ℕ) (d : Program) → k < length states →
    get_or programs k d ≡ program_of setup (from + k) (get_or states k fresh_seat)) →
    pending_of_all programs
    ≡ flat_map (λ numbered. begun_by numbered.0 numbered.1.stand) (enumerate_from from states)
all_from setup from [] [] long are = refl
all_from setup from [] (state ∷ states) long are = absurd (omega (arith, long))
all_from setup from (p ∷ programs) [] long are = absurd (omega (arith, long))
all_from setup from (p ∷ programs) (state ∷ states) long are =
    let here : p ≡ program_of setup from state =
    are zero p (omega arith) ∙ ap (λ (seat : ℕ). program_of setup seat state) (omega arith) in
    ap (λ (ps : List Pending). ps ++ pending_of_all programs)
    (ap (λ (q : Program). option_to_list (pending_in q)) here ∙ one setup from state.account state.stand)
    ∙ ap (λ (ps : List Pending). begun_by from state.stand ++ ps)
    (all_from setup (from + 1) programs states (omega (arith, long))
    (λ k d h. are (suc k) d (omega (arith, h))
    ∙ ap (λ (seat : ℕ). program_of setup seat (get_or states k fresh_seat)) (omega arith)))

-- those of a world
pub begun_are : (setup : Setup) (w : World) (words : List ℕ) (programs : List Program) →
    StandsIn setup w words programs → pending_of_all programs ≡ begun_of w
begun_are setup w words programs s =
    all_from setup 0 programs w.seats (s.each ∙ sym s.seats)
    (λ k d h. s.programs_are k d (omega (arith, h, s.seats))
    ∙ ap (λ (seat : ℕ). program_of setup seat (seat_in w k)) (omega arith))
