-- The text of a trial is that of the made capture.
use Rattle.std.proofs.Common.{◌≡◌, ◌≤◌, ℕ, List, [], length, map, Option, Some, None, Result, Ok, Err, sym, ◌∙◌, ap, subst, refl, arith, inl, inr}
use Rattle.std.specs.List.{All, range_with_len}
use Rattle.std.proofs.lemmas.List.{length-map}
use Rattle.std.proofs.lemmas.List.FromFn.{length-range_with_len}
use Rattle.pcap_reader.specs.Capture.{Capture, Saved}
use Rattle.pcap_reader.specs.Made.{HoldsMade, made_capture, made_saved}
use Rattle.capture_faults.specs.declared.any_fault.AnyFault.{AnyFault}
use Rattle.mode_parts.specs.Callings.{calling_of, plain_calling}
use Rattle.mode_parts.specs.declared.calling.Calling.{Calling}
use Rattle.packet_heads.specs.Links.{number_in}
use Rattle.pcapng_reader.specs.Input.{Input, IsPcapng, packets_in}
use Rattle.pcapng_reader.specs.Laws.{HasOneInput}
use Rattle.pcapng_reader.proofs.InputFacts.{no_pcapng}
use Rattle.capture_faults.specs.declared.ending.Ending.{Ending}
use Rattle.capture_faults.specs.declared.ending.Ending.TheVariants.{Done, ReadFault, Limit, Fault}
use Rattle.step_counts.specs.Ranges.{IsWithin}
use Rattle.command_line.specs.declared.plan.Plan.{Plan}
use Rattle.capture_loop.specs.Leaves.{EndsBy, IsLoopReport, Leaves, PutsInput, ReportsInput}
use Rattle.capture_loop.specs.Input.{HoldsPackets, Serves, in_batches, packet_limit}
use Rattle.mode_parts.specs.PacketCalls.{MakeCalls}
use Rattle.mode_parts.proofs.ExactLemmas.{one_more}
use Rattle.serve_modes.specs.Served.{ServedArePromised}
use Rattle.serve_modes.specs.Headline.{IsTrial}
use Rattle.serve_modes.specs.Trying.{IsNoText, IsTrialOf}
use Rattle.serve_modes.proofs.HeadlineLemmas.{served_at}
use Rattle.serve_modes.proofs.MadeCalls.{IsMadeFrame, made_calls, made_frames}
use Rattle.serve_modes.proofs.TrialCounts.{trial-adds_up}

-- no read failed where none is counted
pub none_failed : EndsBy 0 0 ReadFault → ⊥
none_failed is = one_more 0 0 (refl, omega arith) is

-- a fault is no ending without one
is_ending : (ending : Result ℕ AnyFault) (fault : AnyFault) → ending ≡ Err fault → ending ≡ Ok 0 → ⊥
is_ending (Ok rest) fault is ends = absurd (cc)
is_ending (Err found) fault is ends = absurd (cc)

-- the packets of the made capture
made_in : (number made : ℕ) → List (List ℕ)
made_in number made = packets_in (map (made_saved number) (range_with_len 1 made))

-- it is an input
made_input : (number made : ℕ) → HoldsMade number made → Input 1 (made_capture number made) (made_in number made) (Ok 0)
unfolding made_in
made_input number made law =
    inr (
      not_pcapng (made_capture number made) law,
      record {
        records = map (made_saved number) (range_with_len 1 made);
        kept = Ok 0;
        capture = law;
        packets_are = refl;
        ends = refl;
      },
    )
  where
    not_pcapng : {records : List Saved} (bytes : List ℕ) → Capture 1 bytes records (Ok 0) → IsPcapng bytes → ⊥
    not_pcapng bytes (inl refused) pcapng = let not : Ok 0 ≡ Err refused.fault = refused.ends in absurd (cc)
    not_pcapng bytes (inr (order, holds)) pcapng = no_pcapng 1 order bytes holds.head pcapng

-- where no read fails, the capture that was made is read to its end
made_packets :
    (number made : ℕ) (left : Option (List ℕ)) (packets : List (List ℕ)) (ending : Ending) →
    HasOneInput 1 (made_capture number made) → HoldsMade number made → made ≤ packet_limit →
    (ending ≡ ReadFault → ⊥) → Serves 1 (made_capture number made) left packets ending →
    HoldsPackets 1 (made_capture number made) packets (Ok 0)
unfolding made_in
made_packets number made left packets (Done rest) one law few no_fault serves =
    let held = serves.holds.0 in
    let same : Ok rest ≡ Ok 0 =
    (one packets (made_in number made) (Ok rest) (Ok 0) held.0 (made_input number made law)).1 in
    subst (HoldsPackets 1 (made_capture number made) packets) same held
made_packets number made left packets (Fault fault) one law few no_fault serves =
    let held = serves.holds in
    absurd (is_ending (Err fault) fault refl
    (one packets (made_in number made) (Err fault) (Ok 0) held.0 (made_input number made law)).1)
made_packets number made left packets (Limit limit) one law few no_fault serves =
    let held = serves.holds.0 in
    let records : List Saved = map (made_saved number) (range_with_len 1 made) in
    let same : held.0 ≡ made_in number made =
    (one held.0 (made_in number made) held.1 (Ok 0) held.2 (made_input number made law)).0 in
    absurd (omega (
      arith,
      held.3,
      ap length same,
      length-map records (λ (saved : Saved). saved.packet),
      length-map (range_with_len 1 made) (made_saved number),
      length-range_with_len 1 made,
      few,
    ))
made_packets number made left packets ReadFault one law few no_fault serves = absurd (no_fault refl)

-- its packets are made
frames_made : (number made : ℕ) (packets : List (List ℕ)) → HasOneInput 1 (made_capture number made) →
    HoldsMade number made → HoldsPackets 1 (made_capture number made) packets (Ok 0) → All (IsMadeFrame number) packets
unfolding made_in
frames_made number made packets one law held =
    let records : List Saved = map (made_saved number) (range_with_len 1 made) in
    let same : packets ≡ made_in number made =
    (one packets (made_in number made) (Ok 0) (Ok 0) held.0 (made_input number made law)).0 in
    subst (All (IsMadeFrame number)) (sym same) (made_frames number made records refl)

-- what the loop over its batches puts is its trial
pub IsTrial-put :
    (plan : Plan) (can_end : Ending → Type 0) (left : Option (List ℕ)) (ending : Ending) (put : List ℕ) →
    HasOneInput 1 (made_capture plan.number plan.packets) → HoldsMade plan.number plan.packets →
    plan.packets ≤ packet_limit → (can_end ReadFault → ⊥) → ServedArePromised → plan.rows ≡ None →
    calling_of plan ≡ plain_calling → IsWithin 2048 65536 plan.batch →
    Leaves (in_batches plan.batch) (number_in plan.framing.link) (IsNoText plan) (IsTrialOf plan) can_end
    (made_capture plan.number plan.packets) left (Some [])
    (Some put) (Ok ending) →
    IsTrial plan put
IsTrial-put plan can_end left ending put one law few no_fault promised none plain range leaves =
    let link : number_in plan.framing.link ≡ 1 = ap (λ (c : Calling). number_in c.framing.link) plain in
    let bytes : List ℕ = made_capture plan.number plan.packets in
    let puts :
    PutsInput (in_batches plan.batch) (number_in plan.framing.link) (IsTrialOf plan) bytes left (Some []) (Some put)
    ending =
    leaves.1 in
    let input : ReportsInput (in_batches plan.batch) (number_in plan.framing.link) (IsTrialOf plan) bytes left ending
    puts.0 =
    puts.1 in
    let packets : List (List ℕ) = input.0 in
    let report : IsLoopReport (in_batches plan.batch) (IsTrialOf plan) packets ending puts.0 = input.2 in
    let trial : IsTrialOf plan report.0 ending puts.0 = report.2 in
    let holds =
    made_packets plan.number plan.packets left packets ending one law few (λ is. no_fault (subst can_end is leaves.0))
    (subst (λ (n : ℕ). Serves n bytes left packets ending) link input.1) in
    let at = served_at promised plan range packets report.0 trial.0 trial.1 report.1 trial.2 in
    let frames = frames_made plan.number plan.packets packets one law holds in (
      packets,
      at.0,
      trial.0,
      trial.1,
      subst (λ (n : ℕ). HoldsPackets n bytes packets (Ok 0)) (sym link) holds,
      at.1,
      at.2,
      at.3,
      trial-adds_up trial.0 trial.1 trial.2.each (promised trial.0 trial.1 trial.2.each) plan at.0 at.2.cut
          (made_calls plan.number 1 packets at.0 frames
          (subst (λ (f : Calling). MakeCalls f 1 packets at.0) plain at.1)) (trial.2.asks.rows ∙ none),
      puts.2 ∙ trial.3,
    )
