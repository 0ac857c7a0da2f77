-- What a packet makes of the flow at the place where its key was found.
use Rattle.std.proofs.Common.{◌≡◌, ℕ, ◌<◌, ◌≤◌, Bool, true, false, List, [], ◌∷◌, filter, set, get_or, refl, sym, ap, ◌∙◌, subst, arith, Option, Some, None, if◌then◌else◌}
use Rattle.std.proofs.lemmas.Option.{slice_get-get_or}
use Rattle.plain_map.specs.declared.keys.Key.{Key}
use Rattle.list_laws.proofs.Lists.{In, in_filter}
use Rattle.list_laws.proofs.Truths.{not_both}
use Rattle.flow_times.specs.Flows.{Flow, Side, begun, grown, sent}
use Rattle.flow_times.specs.Metered.{Ended, Metered, is_at, is_other, made_way, metered, takes}
use Rattle.flow_times.proofs.Meters.{metered_ends, metered_takes, none_left, not_other, with_new}
use Rattle.flow_meter.specs.declared.packet.Packet.{Packet}
use Rattle.flow_meter.specs.declared.flow.EndedFlow.{EndedFlow}
use Rattle.flow_meter.specs.declared.flow.FlowRecord.{FlowRecord}
use Rattle.flow_meter.specs.declared.flow.SideRecord.{SideRecord}
use Rattle.flow_meter.specs.declared.flow.Met.{Met}
use Rattle.flow_meter.specs.declared.flow.Met.TheVariants.{Grown, Renewed, Lost}
use Rattle.flow_meter.specs.declared.meter.Meter.{Meter}
use Rattle.flow_meter.specs.Models.{ended_of, flow_of, side_of, use_of}
use Rattle.flow_meter.specs.Records.{CanGrow, CanSend, Grows, HasSizes, MeetsFlow, Renews}
use Rattle.flow_meter.specs.Held.{Always, HasKey, HasSent, Holds, IsMetered, IsUpTo, KeyIsAt, Meets, Puts, as_flow, flow_at, flow_in, places_of, slots_of}
use Rattle.flow_meter.proofs.PlacedLemmas.{at_held, later_up, puts_set, put_in}
use Rattle.flow_meter.proofs.CallLemmas.{begun_up_to, fresh_number}

-- ---- sums

-- what was sent by packets up to one number has room for a later one
can_send : (last : ℕ) (side : SideRecord) (packet : Packet) → HasSizes packet → last < packet.number →
    HasSent last (side_of side) → CanSend side packet
can_send last side packet sizes later has = record {
  packets = omega (arith, sizes.number, later, has.packets);
  payload = omega (arith, sizes.number, sizes.payload, later, has.payload);
  octets = omega (arith, sizes.number, sizes.octets, later, has.octets);
}

-- and with it it is what was sent by packets up to its number
sent_up_to : (last : ℕ) (side : Side) (packet : Packet) → HasSizes packet → last < packet.number →
    HasSent last side → HasSent packet.number (sent side (use_of packet))
sent_up_to last side packet sizes later has = record {
  packets = omega (arith, later, has.packets);
  payload = omega (arith, sizes.payload, later, has.payload);
  octets = omega (arith, sizes.octets, later, has.octets);
}

grown_up_to : (last : ℕ) (flow : Flow) (packet : Packet) → HasSizes packet → last < packet.number →
    IsUpTo last flow → IsUpTo packet.number (grown flow (use_of packet))
grown_up_to last flow packet sizes later is = record {
  number = omega (arith, later, is.number);
  low = side packet.is_high;
  high = other_side packet.is_high;
}
  where
    few : last ≤ packet.number
    few = omega (arith, later)

    side : (high : Bool) → HasSent packet.number (if high then flow.low else sent flow.low (use_of packet))
    side true = (later_up last packet.number flow few is).low
    side false = sent_up_to last flow.low packet sizes later is.low

    other_side : (high : Bool) → HasSent packet.number (if high then sent flow.high (use_of packet) else flow.high)
    other_side true = sent_up_to last flow.high packet sizes later is.high
    other_side false = (later_up last packet.number flow few is).high

-- ---- the flow at a place

module _ (old new : Meter) (place : ℕ) (packet : Packet) (was now : FlowRecord)
    (at : flow_at (slots_of old) place ≡ Some (flow_of was)) (key : was.key ≡ packet.key)
    (puts : Puts (slots_of old) (slots_of new) place (Some (flow_of now)))
    (free : new.free.items ≡ old.free.items) (left : new.left ≡ old.left) (sizes : HasSizes packet) where
  -- another flow in its place, by the definition
  replaced : (flow : Flow) (ended : List Ended) → flow ≡ flow_of now → flow.key ≡ packet.key →
      IsUpTo packet.number flow → (last : ℕ) (held : List Flow) → Holds (slots_of old) last held →
      last < packet.number →
      ((other : Flow) → In other (filter (is_other was.key) held) → flow.number ≡ other.number → ⊥) →
      (m : Metered) → m ≡ with_new flow (filter (is_other packet.key) held) ended →
      Holds (slots_of new) packet.number m.held × (m.ended ≡ ended)
  replaced flow ended is own up_to last held h later fresh m made =
      let few : last ≤ packet.number = omega (arith, later) in
      let absent : filter (is_at flow.key) (filter (is_other was.key) held) ≡ [] =
      subst (λ (k : Key). filter (is_at k) (filter (is_other was.key) held) ≡ []) (key ∙ sym own)
      (none_left was.key held) in
      let holds : Holds (slots_of new) packet.number (flow ∷ filter (is_other was.key) held) =
      put_in (slots_of old) (slots_of new) last held h place (flow_of was) flow packet.number
      (subst (λ (x : Flow). Puts (slots_of old) (slots_of new) place (Some x)) (sym is) puts) at free left few
      up_to absent fresh in (
        subst (λ (x : Metered). Holds (slots_of new) packet.number x.held) (sym made)
            (subst (λ (k : Key). Holds (slots_of new) packet.number (flow ∷ filter (is_other k) held)) key holds),
        ap (λ (x : Metered). x.ended) made,
      )

  -- the flow of the packet's key
  found : (last : ℕ) (held : List Flow) → Holds (slots_of old) last held →
      filter (is_at packet.key) held ≡ flow_of was ∷ []
  found last held h =
      subst (λ (k : Key). filter (is_at k) held ≡ flow_of was ∷ []) key
      (h.apart (flow_of was) (at_held (slots_of old) last held h place (flow_of was) at))

  -- where the packet belongs to it
  pub grows : Grows old.times was now packet → IsMetered Always old new packet []
  grows grow rules last held times h later told =
      let is_old : IsUpTo last (flow_of was) =
      h.up_to (flow_of was) (at_held (slots_of old) last held h place (flow_of was) at) in
      let can : CanGrow was packet = record {
        low = can_send last was.low packet sizes later is_old.low;
        high = can_send last was.high packet sizes later is_old.high;
      } in
      replaced (grown (flow_of was) (use_of packet)) [] (sym (grow.grown can)) key
      (grown_up_to last (flow_of was) packet sizes later is_old) last held h later (fresh last held h)
      (metered rules held (use_of packet))
      (metered_takes rules held (use_of packet) (flow_of was) [] (found last held h)
      (ap (λ t. takes t (flow_of was) (use_of packet)) times ∙ grow.takes))
    where
      fresh : (last : ℕ) (held : List Flow) → Holds (slots_of old) last held →
          (other : Flow) → In other (filter (is_other was.key) held) → was.number ≡ other.number → ⊥
      fresh last held h other within same =
          let parts = in_filter (is_other was.key) held other within in
          let one : flow_of was ≡ other = h.numbered (flow_of was) other
          (at_held (slots_of old) last held h place (flow_of was) at) parts.0 same in
          not_both (is_other was.key other) parts.1
          (ap (is_other was.key) (sym one) ∙ not_other (flow_of was))

  -- where it does not
  pub renews : (ended : EndedFlow) → Renews old.times was now packet ended →
      IsMetered Always old new packet (ended_of ended ∷ [])
  renews ended renew rules last held times h later told =
      let some : 0 < packet.number = omega (arith, later) in
      replaced (begun (use_of packet)) (ended_of ended ∷ []) (sym renew.begun) refl
      (begun_up_to packet sizes some) last held h later
      (λ other within. fresh_number last held packet h.up_to later other
      (in_filter (is_other was.key) held other within).0)
      (metered rules held (use_of packet))
      (metered_ends rules held (use_of packet) (flow_of was) [] (found last held h)
      (ap (λ t. takes t (flow_of was) (use_of packet)) times ∙ renew.takes)
      ∙ ap (λ (e : Ended). with_new (begun (use_of packet)) (filter (is_other packet.key) held) (e ∷ []))
      (ap (λ t. made_way t false (flow_of was) (use_of packet)) times ∙ sym renew.way))

-- so it is by what the packet has met
pub meets : (old new : Meter) (place : ℕ) (packet : Packet) (was now : FlowRecord) (met : Met) →
    place < places_of old → flow_at (slots_of old) place ≡ Some (flow_of was) → KeyIsAt old place packet.key →
    new.flows.items ≡ set old.flows.items place (Some now) → new.free.items ≡ old.free.items →
    new.left ≡ old.left → HasSizes packet → MeetsFlow old.times was now packet met → Meets old new place packet met
meets old new place packet was now Grown inside at there flows free left sizes grow =
    let key : was.key ≡ packet.key = subst (HasKey packet.key) at there in
    let puts : Puts (slots_of old) (slots_of new) place (Some (flow_of now)) =
    puts_set (slots_of old) (slots_of new) place (Some now) inside flows in (
      there,
      record {
        key = subst (HasKey packet.key) (sym puts.there) (grow.key ∙ key);
        others = puts.others;
        metered = grows old new place packet was now at key puts free left sizes grow;
      },
    )
meets old new place packet was now (Renewed ended) inside at there flows free left sizes renew =
    let key : was.key ≡ packet.key = subst (HasKey packet.key) at there in
    let puts : Puts (slots_of old) (slots_of new) place (Some (flow_of now)) =
    puts_set (slots_of old) (slots_of new) place (Some now) inside flows in (
      there,
      record {
        key = subst (HasKey packet.key) (sym puts.there) (ap (λ (f : Flow). f.key) renew.begun);
        others = puts.others;
        metered = renews old new place packet was now at key puts free left sizes ended renew;
      },
    )
meets old new place packet was now Lost inside at there flows free left sizes none = absurd none

-- what stands at a place that is read
pub flow_read : (old : Meter) (place : ℕ) (slot : Option FlowRecord) → place < places_of old →
    slot ≡ get_or old.flows.items place slot → flow_at (slots_of old) place ≡ as_flow slot
flow_read old place slot inside is =
    ap flow_in (slice_get-get_or old.flows.items place slot inside ∙ ap Some (sym is))

-- where no flow stands, no key is
pub no_key : (old : Meter) (place : ℕ) (slot : Option FlowRecord) (key : Key) → place < places_of old →
    slot ≡ get_or old.flows.items place slot → slot ≡ None → KeyIsAt old place key → ⊥
no_key old place slot key inside is none there =
    subst (HasKey key) (flow_read old place slot inside is ∙ ap as_flow none) there
