-- Which answer a run gives where nothing fails.
use Rattle.std.proofs.Common.{◌≡◌, ◌≤◌, ◌<◌, ◌+◌, ℕ, Bool, cond, List, length, Option, Result, Ok, Err, sym, subst, ◌∙◌, ap, arith}
use Rattle.edge_traits.specs.Edge.{count_after}
use Rattle.std.proofs.lemmas.Bool.{lt-ltb, le-ltb}
use Rattle.std.proofs.Math.Nat.{min-eq_left}
use Rattle.capture_faults.specs.declared.any_fault.AnyFault.{AnyFault}
use Rattle.pcapng_reader.specs.Input.{Input}
use Rattle.pcapng_reader.specs.Laws.{HasOneInput}
use Rattle.mode_parts.specs.declared.status.Status.{Status}
use Rattle.mode_parts.specs.declared.status.Status.TheVariants as status
use Rattle.capture_faults.specs.declared.ending.Ending.{Ending}
use Rattle.capture_faults.specs.declared.ending.Ending.TheVariants.{Done, ReadFault, Limit, Fault}
use Rattle.capture_loop.specs.declared.stop.Stop.{Stop}
use Rattle.capture_loop.specs.declared.stop.Stop.TheVariants.{Memory, NotPut}
use Rattle.capture_loop.specs.Leaves.{Marks}
use Rattle.mode_parts.specs.Statuses.{MarksFor, NoneFailed, ReadsFailed, WritesFailed, status_by, status_up_to, status_when}

-- the status of an input with few packets, and of one with many
pub few_packets : (most : ℕ) (packets : List (List ℕ)) (ending : Result ℕ AnyFault) → length packets ≤ most →
    status_when ending ≡ status_up_to most packets ending
few_packets most packets ending few =
    sym (ap (λ (b : Bool). cond b status.Limit (status_when ending))
    (le-ltb most (length packets) few))

pub many_packets : (most : ℕ) (packets : List (List ℕ)) (ending : Result ℕ AnyFault) → most < length packets →
    status.Limit ≡ status_up_to most packets ending
many_packets most packets ending many =
    sym (ap (λ (b : Bool). cond b status.Limit (status_when ending))
    (lt-ltb most (length packets) many))

-- the input of the bytes is one, and so is its status
pub same_status : (link : ℕ) (most : ℕ) (bytes : List ℕ) (packets others : List (List ℕ))
    (ending other : Result ℕ AnyFault) →
    HasOneInput link bytes → Input link bytes packets ending → Input link bytes others other →
    status_up_to most packets ending ≡ status_up_to most others other
same_status link most bytes packets others ending other one here there =
    let same : (packets ≡ others) × (ending ≡ other) = one packets others ending other here there in
    ap (λ (ps : List (List ℕ)). status_up_to most ps ending) same.0
    ∙ ap (λ (e : Result ℕ AnyFault). status_up_to most others e) same.1

-- one more is not as many
pub one_more : (before after : ℕ) → NoneFailed before after → after ≡ count_after before 1 → ⊥
one_more before after none more =
    let up : after ≡ before + 1 = more ∙ min-eq_left (omega (arith, none.1)) in
    absurd (omega (arith, none.0, up))

-- where no read failed, the answer is no failed read
pub not_read : (answer : Status) (before after : ℕ) → NoneFailed before after → ReadsFailed answer before after →
    answer ≡ status.ReadFault → ⊥
not_read answer before after none reads is =
    one_more before after none (subst (λ (s : Status). ReadsFailed s before after) is reads)

-- where no write failed, it is no failed write
pub not_written : (answer : Status) (before after : ℕ) → NoneFailed before after → WritesFailed answer before after →
    answer ≡ status.WriteFault → ⊥
not_written answer before after none writes is =
    one_more before after none (subst (λ (s : Status). WritesFailed s before after) is writes)

-- where the packet starts that is too many, by the status of an ending
pub MarksFor-end : (end : Result Ending Stop) (old new : Option ℕ) (P : ℕ → Type 0) → Marks end old new P →
    MarksFor (status_by end) old new P
MarksFor-end (Ok (Done rest)) old new P marks = marks
MarksFor-end (Ok ReadFault) old new P marks = marks
MarksFor-end (Ok (Limit limit)) old new P marks = marks
MarksFor-end (Ok (Fault fault)) old new P marks = marks
MarksFor-end (Err Memory) old new P marks = marks
MarksFor-end (Err NotPut) old new P marks = marks
