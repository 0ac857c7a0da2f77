-- What the calls of a meter do, by the steps that they are made of.
use Rattle.std.proofs.Common.{◌≡◌, ℕ, suc, ◌+◌, ◌-◌, ◌<◌, ◌≤◌, Bool, true, false, List, [], ◌∷◌, ◌++◌, length, filter, get_or, take, inl, refl, sym, ap, ◌∙◌, subst, arith, Option, Some, None, if◌then◌else◌}
use Rattle.std.proofs.Math.Seq.{take-suc}
use Rattle.list_laws.proofs.Lists.{In, in_right}
use Rattle.flow_times.specs.Flows.{Flow, begun, nothing, sent}
use Rattle.flow_times.specs.Metered.{Metered, is_other}
use Rattle.flow_times.proofs.Meters.{metered_begins}
use Rattle.flow_meter.specs.declared.flow.FlowRecord.{FlowRecord}
use Rattle.flow_meter.specs.declared.meter.Meter.{Meter}
use Rattle.flow_meter.specs.declared.packet.Packet.{Packet}
use Rattle.flow_meter.specs.Models.{flow_of, use_of}
use Rattle.flow_meter.specs.Records.{HasSizes}
use Rattle.flow_meter.specs.Held.{HasKey, HasRoom, HasSent, Holds, IsMetered, IsTaken, IsLetGo, WasFree, IsUpTo, IsWhole, KeyIsAt, Puts, as_flow, flow_at, free_in, places_of, slots_of}
use Rattle.flow_meter.specs.Parts.{GivesBack, IsFree, IsGivenBack, IsPut, IsWithFlows}
use Rattle.flow_meter.proofs.PlacedLemmas.{one_less, puts_set, put_there, taken_out}

-- a place that is put stands for what was put
pub puts_at : (old mid new : Meter) (place : ℕ) (slot : Option FlowRecord) → place < places_of old →
    IsPut old mid place slot → new.flows.items ≡ mid.flows.items →
    Puts (slots_of old) (slots_of new) place (as_flow slot)
puts_at old mid new place slot inside put same =
    puts_set (slots_of old) (slots_of new) place slot inside (same ∙ put.flows)

-- a flow that is taken out, and its place given back
pub lets_go : (old mid new : Meter) (place : ℕ) (flow : FlowRecord) → place < places_of old →
    flow_at (slots_of old) place ≡ Some (flow_of flow) → IsPut old mid place None → IsWithFlows mid new →
    GivesBack mid new place → IsLetGo old new place flow
lets_go old mid new place flow inside at put stays gives = record {
  was = at;
  gone = puts.there;
  others = puts.others;
  rest = rest;
}
  where
    puts : Puts (slots_of old) (slots_of new) place None
    puts = puts_at old mid new place None inside put stays.flows

    free : mid.free.items ≡ old.free.items → mid.left ≡ old.left →
        free_in (slots_of mid) ++ place ∷ [] ≡ free_in (slots_of old) ++ place ∷ []
    free items left = ap (λ (l : List ℕ). take mid.left l ++ place ∷ []) items
        ∙ ap (λ (n : ℕ). take n old.free.items ++ place ∷ []) left

    rest : (last : ℕ) (held : List Flow) → Holds (slots_of old) last held →
        Holds (slots_of new) last (filter (is_other flow.key) held)
    rest last held h =
        let less = one_less (slots_of old) last held h place (flow_of flow) at in
        let many = h.as_many in
        let few = h.few in
        let same_many = ap length put.free in
        let back : IsGivenBack mid new place = gives (omega (arith, less, many, few, same_many, put.left)) in
        taken_out (slots_of old) (slots_of new) last held h place (flow_of flow) puts at inside
        (back.free ∙ free put.free put.left) (stays.many ∙ same_many) (omega (arith, back.left, put.left))

-- ---- a packet that begins a flow

-- a packet's flow is one of packets up to it
pub begun_up_to : (packet : Packet) → HasSizes packet → 0 < packet.number →
    IsUpTo packet.number (begun (use_of packet))
begun_up_to packet sizes some = record {
  number = omega arith;
  low = side (packet.is_high);
  high = other_side (packet.is_high);
}
  where
    one : HasSent packet.number (sent nothing (use_of packet))
    one = record {
      packets = omega (arith, some);
      payload = omega (arith, some, sizes.payload);
      octets = omega (arith, some, sizes.octets);
    }

    none : HasSent packet.number nothing
    none = record { packets = omega arith; payload = omega arith; octets = omega arith }

    side : (high : Bool) → HasSent packet.number (if high then nothing else sent nothing (use_of packet))
    side true = none
    side false = one

    other_side : (high : Bool) → HasSent packet.number (if high then sent nothing (use_of packet) else nothing)
    other_side true = one
    other_side false = none

-- its number is none of those before
pub fresh_number : (last : ℕ) (held : List Flow) (packet : Packet) →
    ((flow : Flow) → In flow held → IsUpTo last flow) → last < packet.number →
    (other : Flow) → In other held → packet.number ≡ other.number → ⊥
fresh_number last held packet up_to later other within same =
    let few = (up_to other within).number in
    omega (arith, few, later, same)

-- a flow that begins at a free place
pub begins : (old mid new : Meter) (packet : Packet) (record_of : FlowRecord) (place : ℕ) → IsFree old place →
    IsPut old mid place (Some record_of) → flow_of record_of ≡ begun (use_of packet) → HasSizes packet →
    new.flows.items ≡ mid.flows.items → new.free.items ≡ mid.free.items → new.left + 1 ≡ mid.left →
    WasFree old place × IsTaken (HasRoom packet) old new place packet []
begins old mid new packet record_of place free put is sizes flows same_free left = (
  (λ last held h. (h.free place (subst (In place) (sym frees)
      (in_right place (free_in (slots_of new)) (place ∷ []) (inl refl)))).1),
  record { key = key; others = puts.others; metered = metered_is },
)
  where
    puts : Puts (slots_of old) (slots_of new) place (Some (begun (use_of packet)))
    puts = subst (λ (x : Flow). Puts (slots_of old) (slots_of new) place (Some x)) is
        (puts_at old mid new place (Some record_of) free.within put flows)

    key : KeyIsAt new place packet.key
    key = subst (HasKey packet.key) (sym puts.there) refl

    frees : free_in (slots_of old) ≡ free_in (slots_of new) ++ place ∷ []
    frees =
        let less : old.left - 1 ≡ new.left = omega (arith, left, put.left) in
        free.last ∙ ap (λ (n : ℕ). take n old.free.items ++ place ∷ []) less
        ∙ ap (λ (l : List ℕ). take new.left l ++ place ∷ []) (sym (same_free ∙ put.free))

    metered_is : IsMetered (HasRoom packet) old new packet []
    metered_is rules last held times h later told =
        let made = metered_begins rules held (use_of packet) told.absent told.room in
        let within : In place (free_in (slots_of old)) =
        subst (In place) (sym frees) (in_right place (free_in (slots_of new)) (place ∷ []) (inl refl)) in
        let some : 0 < packet.number = omega (arith, later) in
        let few : last ≤ packet.number = omega (arith, later) in
        let holds : Holds (slots_of new) packet.number (begun (use_of packet) ∷ held) =
        put_there (slots_of old) (slots_of new) last held h place (begun (use_of packet)) packet.number puts
        (h.free place within).1 frees (ap length (same_free ∙ put.free)) (left ∙ put.left) few
        (begun_up_to packet sizes some) told.absent (fresh_number last held packet h.up_to later) in (
          subst (λ (m : Metered). Holds (slots_of new) packet.number m.held) (sym made) holds,
          ap (λ (m : Metered). m.ended) made,
        )

-- the last one of the first places is one of them
pub last_of : (places : List ℕ) (many place : ℕ) → 0 < many → many ≤ length places →
    place ≡ get_or places (many - 1) place → In place (take many places)
last_of places many place some few is =
    let last : many - 1 < length places = omega (arith, some, few) in
    let more : suc (many - 1) ≡ many = omega (arith, some) in
    subst (In place)
    (ap (λ (p : ℕ). take (many - 1) places ++ p ∷ []) is ∙ sym (take-suc places (many - 1) place last)
    ∙ ap (λ (n : ℕ). take n places) more)
    (in_right place (take (many - 1) places) (place ∷ []) (inl refl))

-- so it is one of the meter's places
pub stays_inside : (meter : Meter) (place : ℕ) → 0 < meter.left → meter.left ≤ length meter.free.items →
    place ≡ get_or meter.free.items (meter.left - 1) place → places_of meter ≤ place → IsWhole meter
stays_inside meter place some few is past last held h =
    let inside = (h.free place (last_of meter.free.items meter.left place some few is)).0 in
    absurd (omega (arith, inside, past))
