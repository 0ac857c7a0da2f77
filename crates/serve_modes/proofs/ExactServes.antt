-- Which answer `serve` gives where nothing fails.
use Rattle.packet_heads.specs.Links.{number_in}
use Rattle.mode_parts.proofs.ExactLemmas.{few_packets, many_packets, same_status}
use Rattle.std.proofs.Common.{◌≡◌, ℕ, List, Option, Result, Ok, Err, ◌∙◌, refl, inl, inr, ◌⊎◌}
use Rattle.capture_faults.specs.declared.any_fault.AnyFault.{AnyFault}
use Rattle.capture_faults.specs.declared.ending.Ending.{Ending}
use Rattle.pcapng_reader.specs.Input.{Input}
use Rattle.pcapng_reader.specs.Laws.{HasOneInput}
use Rattle.command_line.specs.declared.plan.Plan.{Plan}
use Rattle.mode_parts.specs.declared.status.Status.{Status}
use Rattle.mode_parts.specs.declared.status.Status.TheVariants as status
use Rattle.capture_loop.specs.Input.{packet_limit}
use Rattle.serve_modes.specs.Headline.{Leaves}
use Rattle.mode_parts.specs.Statuses.{status_for}

-- the input of the bytes decides it, want of memory apart
pub Leaves-exact :
    (plan : Plan) (can_end : Ending → Type 0) (bytes : List ℕ) (left before after : Option (List ℕ)) (answer : Status)
    (packets : List (List ℕ))
    (ending : Result ℕ AnyFault) →
    HasOneInput (number_in plan.framing.link) bytes → Input (number_in plan.framing.link) bytes packets ending →
    (answer ≡ status.ReadFault → ⊥) →
    (answer ≡ status.WriteFault → ⊥) →
    Leaves plan can_end bytes left before after answer →
    (answer ≡ status_for packets ending) ⊎ (answer ≡ status.Memory)
Leaves-exact plan can_end bytes left before after status.Done packets ending one input no_read no_write leaves =
    let held = leaves.1.1.0.1.holds.0 in
    inl (few_packets packet_limit leaves.1.1.0.0 (Ok leaves.0) held.1
    ∙ same_status (number_in plan.framing.link) packet_limit bytes leaves.1.1.0.0 packets (Ok leaves.0) ending one
    held.0 input)
Leaves-exact plan can_end bytes left before after (status.BadCapture fault) packets ending one input no_read
    no_write leaves =
    let held = leaves.1.0.1.holds in
    inl (few_packets packet_limit leaves.1.0.0 (Err fault) held.1
    ∙ same_status (number_in plan.framing.link) packet_limit bytes leaves.1.0.0 packets (Err fault) ending one held.0
    input)
Leaves-exact plan can_end bytes left before after status.Limit packets ending one input no_read no_write leaves =
    let held = leaves.1.1.0.1.holds.0 in
    inl (many_packets packet_limit held.0 held.1 held.3
    ∙ same_status (number_in plan.framing.link) packet_limit bytes held.0 packets held.1 ending one held.2 input)
Leaves-exact plan can_end bytes left before after status.ReadFault packets ending one input no_read
    no_write leaves =
    absurd (no_read refl)
Leaves-exact plan can_end bytes left before after status.WriteFault packets ending one input no_read
    no_write leaves =
    absurd (no_write refl)
Leaves-exact plan can_end bytes left before after status.Memory packets ending one input no_read no_write leaves =
    inr refl
Leaves-exact plan can_end bytes left before after status.Usage packets ending one input no_read no_write leaves =
    absurd leaves
