-- In all records there is what is in all packets.
use Rattle.std.proofs.Common.{◌≡◌, ◌<◌, ℕ, ◌+◌, Bool, true, false, cond, not, inl, inr, List, [], ◌∷◌, map, filter, refl, ap, arith}
use Rattle.std.specs.Prelude.{sum_by}
use Rattle.std.proofs.lemmas.Bool.{cases_Bool, not_from_true, not_from_false}
use Rattle.std.proofs.lemmas.List.Sums.{sum_by-append, sum_by-cons}
use Rattle.map_laws.proofs.ByKeyLists.{filter_dropped, filter_kept}
use Rattle.plain_map.specs.declared.keys.Key.{Key}
use Rattle.flow_times.specs.Flows.{Use, Flow, begun, grown, nothing, sent}
use Rattle.flow_times.specs.Passes.{Event}
use Rattle.flow_times.specs.Passes.Event.{Takes, Passes}
use Rattle.flow_times.specs.Metered.{Ended, Rules, SumsAreKept, ended_in, is_at, is_live, is_other, is_past, made_way, metered, soonest, sum_of, with_time}
use Rattle.flow_times.proofs.Meters.{Fits, chosen, fits_metered, metered_by, only}
use Rattle.flow_times.proofs.Sweeps.{fits_left, fits_none}

-- what passes a test and what does not
split : (amount : Flow → ℕ) (test : Flow → Bool) (held : List Flow) →
    sum_by amount (filter test held) + sum_by amount (filter (λ flow. not (test flow)) held) ≡ sum_by amount held
split amount test [] = refl
split amount test (flow ∷ flows) = elim (cases_Bool (test flow)) [
  | inl is ↦
      omega (
        arith,
        ap (sum_by amount) (filter_kept test flow flows is),
        ap (sum_by amount) (filter_dropped (λ x. not (test x)) flow flows (not_from_true (test flow) is)),
        sum_by-cons amount flow (filter test flows),
        sum_by-cons amount flow flows,
        split amount test flows,
      )
  | inr is ↦
      omega (
        arith,
        ap (sum_by amount) (filter_dropped test flow flows is),
        ap (sum_by amount) (filter_kept (λ x. not (test x)) flow flows (not_from_false (test flow) is)),
        sum_by-cons amount flow (filter (λ x. not (test x)) flows),
        sum_by-cons amount flow flows,
        split amount test flows,
      )
]

-- an amount of flows that grows by that of each packet
module _ (amount : Flow → ℕ) (brought : Use → ℕ) (new : (packet : Use) → amount (begun packet) ≡ brought packet)
    (more : (flow : Flow) (packet : Use) → amount (grown flow packet) ≡ amount flow + brought packet)
    (rules : Rules) (some : 0 < rules.items) where
  in_records : List Ended → ℕ
  in_records = sum_by (λ ended. amount ended.flow)

  of_held : (flows : List Flow) → in_records (map with_time flows) ≡ sum_by amount flows
  unfolding in_records
  of_held [] = refl
  of_held (flow ∷ flows) =
      omega (
        arith,
        sum_by-cons (λ (e : Ended). amount e.flow) (with_time flow) (map with_time flows),
        sum_by-cons amount flow flows,
        of_held flows,
      )

  -- without the flow of a key there is that much less
  less : (held : List Flow) (flow : Flow) → filter (is_at flow.key) held ≡ flow ∷ [] →
      amount flow + sum_by amount (filter (is_other flow.key) held) ≡ sum_by amount held
  less held flow at =
      omega (
        arith,
        split amount (is_at flow.key) held,
        ap (sum_by amount) at,
        sum_by-cons amount flow [],
      )

  one_record : (is_room : Bool) (flow : Flow) (packet : Use) →
      in_records (made_way rules.times is_room flow packet ∷ []) ≡ amount flow
  unfolding in_records
  one_record is_room flow packet =
      (let e = sum_by-cons (λ (e : Ended). amount e.flow) (made_way rules.times is_room flow packet) [] in
      omega (arith, e))

  -- a packet brings what it brings
  step : (held : List Flow) (packet : Use) → Fits rules held →
      sum_by amount (metered rules held packet).held + in_records (metered rules held packet).ended
      ≡ sum_by amount held + brought packet
  unfolding in_records
  step held packet fits =
      metered_by rules held packet
      (λ m. sum_by amount m.held + in_records m.ended ≡ sum_by amount held + brought packet) some
      (λ flow flows at is.
      let one = only held packet.key flow flows fits.apart at in
      let rest : sum_by amount (filter (is_other packet.key) held)
      ≡ sum_by amount (filter (is_other flow.key) held) =
      ap (λ (k : Key). sum_by amount (filter (is_other k) held)) one.1 in
      omega (
        arith,
        less held flow (fits.apart flow one.0),
        rest,
        more flow packet,
        sum_by-cons amount (grown flow packet) (filter (is_other packet.key) held),
      ))
      (λ flow flows at is.
      let one = only held packet.key flow flows fits.apart at in
      let rest : sum_by amount (filter (is_other packet.key) held)
      ≡ sum_by amount (filter (is_other flow.key) held) =
      ap (λ (k : Key). sum_by amount (filter (is_other k) held)) one.1 in
      omega (
        arith,
        less held flow (fits.apart flow one.0),
        rest,
        new packet,
        one_record false flow packet,
        sum_by-cons amount (begun packet) (filter (is_other packet.key) held),
      ))
      (λ none room. omega (arith, new packet, sum_by-cons amount (begun packet) held))
      (λ flow flows none class full.
      let out : Flow = soonest rules.times flow flows in
      let choice = chosen rules held (rules.class_of packet.key) flow flows class in
      omega (
        arith,
        less held out (fits.apart out choice.0),
        new packet,
        one_record true out packet,
        sum_by-cons amount (begun packet) (filter (is_other out.key) held),
      ))

  pub all_kept : (held : List Flow) (events : List Event) → Fits rules held →
      sum_by (λ ended. amount ended.flow) (ended_in rules held events) ≡ sum_by amount held + sum_of brought events
  unfolding in_records
  all_kept held [] fits = (let e = of_held held in omega (arith, e))
  all_kept held (Takes packet ∷ events) fits =
      let m = metered rules held packet in
      omega (
        arith,
        sum_by-append (λ (e : Ended). amount e.flow) m.ended (ended_in rules m.held events),
        all_kept m.held events (fits_metered rules held packet some fits),
        step held packet fits,
      )
  all_kept held (Passes now ∷ events) fits =
      let past : List Flow = filter (is_past rules.times now) held in
      let left : List Flow = filter (is_live rules.times now) held in
      omega (
        arith,
        sum_by-append (λ (e : Ended). amount e.flow) (map with_time past) (ended_in rules left events),
        all_kept left events (fits_left rules (is_live rules.times now) held fits),
        of_held past,
        split amount (is_past rules.times now) held,
      )

  -- where nothing was held, it is what the packets brought
  from_none : (events : List Event) →
      sum_by (λ ended. amount ended.flow) (ended_in rules [] events) ≡ sum_of brought events
  from_none events = (let e = all_kept [] events (fits_none rules) in omega (arith, e))

-- ---- packets, payload and octets

pub sums_are_kept : SumsAreKept
sums_are_kept rules events some = record {
  packets = from_none (λ flow. flow.low.packets + flow.high.packets) (λ packet. 1) new_packets more_packets rules some
      events;
  payload = from_none (λ flow. flow.low.payload + flow.high.payload) (λ packet. packet.payload) new_payload more_payload
      rules some events;
  octets = from_none (λ flow. flow.low.octets + flow.high.octets) (λ packet. packet.octets) new_octets more_octets rules
      some events;
}
  where
    new_packets : (packet : Use) → (begun packet).low.packets + (begun packet).high.packets ≡ 1
    new_packets packet = go packet.is_high
      where
        go : (b : Bool) → (cond b nothing (sent nothing packet)).packets
            + (cond b (sent nothing packet) nothing).packets ≡ 1
        go true = refl
        go false = refl

    new_payload : (packet : Use) → (begun packet).low.payload + (begun packet).high.payload ≡ packet.payload
    new_payload packet = go packet.is_high
      where
        go : (b : Bool) → (cond b nothing (sent nothing packet)).payload
            + (cond b (sent nothing packet) nothing).payload
            ≡ packet.payload
        go true = omega arith
        go false = omega arith

    new_octets : (packet : Use) → (begun packet).low.octets + (begun packet).high.octets ≡ packet.octets
    new_octets packet = go packet.is_high
      where
        go : (b : Bool) → (cond b nothing (sent nothing packet)).octets + (cond b (sent nothing packet) nothing).octets
            ≡ packet.octets
        go true = omega arith
        go false = omega arith

    more_packets : (flow : Flow) (packet : Use) →
        (grown flow packet).low.packets + (grown flow packet).high.packets ≡ flow.low.packets + flow.high.packets + 1
    more_packets flow packet = go packet.is_high
      where
        go : (b : Bool) → (cond b flow.low (sent flow.low packet)).packets
            + (cond b (sent flow.high packet) flow.high).packets ≡ flow.low.packets + flow.high.packets + 1
        go true = omega arith
        go false = omega arith

    more_payload : (flow : Flow) (packet : Use) →
        (grown flow packet).low.payload + (grown flow packet).high.payload
        ≡ flow.low.payload + flow.high.payload + packet.payload
    more_payload flow packet = go packet.is_high
      where
        go : (b : Bool) → (cond b flow.low (sent flow.low packet)).payload
            + (cond b (sent flow.high packet) flow.high).payload ≡ flow.low.payload + flow.high.payload + packet.payload
        go true = omega arith
        go false = omega arith

    more_octets : (flow : Flow) (packet : Use) →
        (grown flow packet).low.octets + (grown flow packet).high.octets
        ≡ flow.low.octets + flow.high.octets + packet.octets
    more_octets flow packet = go packet.is_high
      where
        go : (b : Bool) → (cond b flow.low (sent flow.low packet)).octets
            + (cond b (sent flow.high packet) flow.high).octets ≡ flow.low.octets + flow.high.octets + packet.octets
        go true = omega arith
        go false = omega arith
