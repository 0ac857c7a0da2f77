-- What has ended behind a pass stands before all that will end.
use Rattle.std.proofs.Common.{◌≡◌, ◌≤◌, ◌<◌, ◌⊎◌, ℕ, Bool, true, false, List, [], ◌∷◌, ◌++◌, map, filter, Option, Some, None, inl, inr, refl, sym, ap, subst, arith}
use Rattle.std.proofs.lemmas.Bool.{cases_lt, cond_both, not-true}
use Rattle.list_laws.proofs.Lists.{In, in_both, in_filter, in_map}
use Rattle.list_laws.proofs.Truths.{not_both}
use Rattle.flow_times.specs.Moments.{Moment, IsFrom}
use Rattle.flow_times.specs.Flows.{Times, Use, Flow, IsPast, begun, grown, deadline}
use Rattle.flow_times.specs.Passes.{Event, AreFrom, moment_of}
use Rattle.flow_times.specs.Passes.Event.{Takes, Passes}
use Rattle.flow_times.specs.Ends.{EndsLater, HasEndedBy, IsBefore, IsOver}
use Rattle.flow_times.specs.Metered.{AreBehind, AreUpTo, Cause, Ended, FrontsAreFinal, Metered, Rules, end_of, ended_at, ended_in, is_at, is_live, is_other, is_past, made_way, metered, packet_in, run_on, soonest, takes, with_time}
use Rattle.flow_times.proofs.Ends.{ended_stands_first}
use Rattle.flow_times.proofs.KeyParts.{from_before}
use Rattle.flow_times.proofs.Meters.{chosen, metered_by}
use Rattle.flow_times.proofs.Tests.{grown_live, is_past_by, new_live, past_is, takes_is}

-- ---- one packet

-- a flow that is new at a packet, or grew by it
Came : Rules → List Flow → Use → Flow → Type 0
Came rules held packet new =
    In new held
    ⊎ ((new ≡ begun packet) ⊎ ((flow : Flow) × (new ≡ grown flow packet) × (takes rules.times flow packet ≡ true)))

-- what is held behind a packet, and what ended by it: a flow that was held
record Steps (rules : Rules) (held : List Flow) (packet : Use) (m : Metered) : Type 0 where
  came : (new : Flow) → In new m.held → Came rules held packet new
  went : (ended : Ended) → In ended m.ended →
      (is_room : Bool) × (flow : Flow) × (ended ≡ made_way rules.times is_room flow packet) × In flow held

steps : (rules : Rules) (held : List Flow) (packet : Use) → 0 < rules.items →
    Steps rules held packet (metered rules held packet)
unfolding Came
steps rules held packet some =
    metered_by rules held packet (Steps rules held packet) some
    (λ flow flows at is. record {
      came = λ new within. elim within [
        | inl same ↦ inr (inr (flow, same, is))
        | inr rest ↦ inl (in_filter (is_other packet.key) held new rest).0
      ];
      went = λ ended none. elim none [ ];
    })
    (λ flow flows at is. record {
      came = λ new within. elim within [
        | inl same ↦ inr (inl same)
        | inr rest ↦ inl (in_filter (is_other packet.key) held new rest).0
      ];
      went = λ ended within. elim within [
        | inl same ↦ (
          false,
          flow,
          same,
          (in_filter (is_at packet.key) held flow
              (subst (λ (l : List Flow). In flow l) (sym at) (inl refl))).0,
        )
        | inr none ↦ elim none [ ]
      ];
    })
    (λ none room. record {
      came = λ new within. elim within [ inl same ↦ inr (inl same) | inr rest ↦ inl rest ];
      went = λ ended no_one. elim no_one [ ];
    })
    (λ flow flows none class full. record {
      came = λ new within. elim within [
        | inl same ↦ inr (inl same)
        | inr rest ↦ inl (in_filter (is_other (soonest rules.times flow flows).key) held new rest).0
      ];
      went = λ ended within. elim within [
        | inl same ↦ (
          true,
          soonest rules.times flow flows,
          same,
          (chosen rules held (rules.class_of packet.key) flow flows class).0,
        )
        | inr no_one ↦ elim no_one [ ]
      ];
    })

-- what makes way: it was past, or it ends by the packet
way_by : (times : Times) (is_room : Bool) (flow : Flow) (packet : Use) (P : Option Cause → Type 0) →
    (is_past times packet.moment flow ≡ true → P None) →
    (is_past times packet.moment flow ≡ false →
    P (Some (record { number = packet.number; clock = packet.moment.clock; is_room = is_room }))) →
    P (made_way times is_room flow packet).by
way_by times is_room flow packet P past live =
    cond_both (is_past times packet.moment flow) None
    (Some (record { number = packet.number; clock = packet.moment.clock; is_room = is_room })) P past live

-- ---- moments

over_later : (at now later : Moment) → IsOver at now → IsFrom now later → IsOver at later
over_later at now later (inl p) (inl q) = inl (omega (arith, p, q))
over_later at now later (inl p) (inr q) = (let e = q.0 in inl (omega (arith, p, e)))
over_later at now later (inr p) (inl q) = (let e = p.0 in inl (omega (arith, e, q)))
over_later at now later (inr p) (inr q) =
    (let a = p.0 in let b = q.0 in let c = p.1 in let d = q.1 in inr (omega (arith, a, b), omega (arith, c, d)))

-- a flow that is past has ended before
past_over : (times : Times) (lasts : ℕ → ℕ) (now : Moment) (flow : Flow) → IsPast times flow now →
    IsOver (ended_at times lasts flow None) now
past_over times lasts now flow (inl p) = inl p
past_over times lasts now flow (inr (s, d)) = inr (s, omega (arith, d))

-- a flow that is not past, and no later one, is of the stretch
same_stretch : (times : Times) (now : Moment) (flow : Flow) → is_past times now flow ≡ false →
    flow.stretch ≤ now.stretch → flow.stretch ≡ now.stretch
same_stretch times now flow live few = elim (cases_lt flow.stretch now.stretch) [
  | inl before ↦ absurd (not_both (is_past times now flow) (is_past_by times now flow (inl before)) live)
  | inr from ↦ omega (arith, few, from)
]

-- and its deadline is not before that
live_until : (times : Times) (now : Moment) (flow : Flow) → is_past times now flow ≡ false →
    flow.stretch ≡ now.stretch → now.clock ≤ deadline times flow
live_until times now flow live same = elim (cases_lt (deadline times flow) now.clock) [
  | inl over ↦ absurd (not_both (is_past times now flow) (is_past_by times now flow (inr (same, over))) live)
  | inr within ↦ within
]

-- the last moment of some events that end with a pass
from_end : (start now : Moment) (front : List Event) → AreFrom start (front ++ Passes now ∷ []) → IsFrom start now
from_end start now [] from = from.0
from_end start now (event ∷ front) from =
    from_before start (moment_of event) now from.0 (from_end (moment_of event) now front from.1)

-- ---- the front

module _ (rules : Rules) (some : 0 < rules.items) (lasts : ℕ → ℕ) (now : Moment) (last : ℕ) where
  -- no flow is of a later stretch
  abbrev AreOf : Moment → List Flow → Type 0
  AreOf moment held = (flow : Flow) → In flow held → flow.stretch ≤ moment.stretch

  HasEnded : Ended → Type 0
  HasEnded ended = HasEndedBy now last (ended_at rules.times lasts ended.flow ended.by) (packet_in ended.by)

  of_later : (one other : Moment) (held : List Flow) → IsFrom one other → AreOf one held → AreOf other held
  of_later one other held (inl p) of flow within = (let f = of flow within in omega (arith, p, f))
  of_later one other held (inr p) of flow within = (let f = of flow within in let e = p.0 in omega (arith, e, f))

  of_some : (test : Flow → Bool) (moment : Moment) (held : List Flow) → AreOf moment held →
      AreOf moment (filter test held)
  of_some test moment held of flow within = of flow (in_filter test held flow within).0

  of_metered : (moment : Moment) (held : List Flow) (packet : Use) → IsFrom moment packet.moment → AreOf moment held →
      AreOf packet.moment (metered rules held packet).held
  unfolding Came
  of_metered moment held packet from of flow within =
      elim ((steps rules held packet some).came flow within) [
        | inl old ↦ of_later moment packet.moment held from of flow old
        | inr (inl same) ↦ (let e = ap (λ (x : Flow). x.stretch) same in omega (arith, e))
        | inr (inr (one, same, is)) ↦
            (let e = ap (λ (x : Flow). x.stretch) same in
            let b = (takes_is rules.times one packet is).stretch in omega (arith, e, b))
      ]

  -- what is past ends before
  past_ended : (moment : Moment) (held : List Flow) → IsFrom moment now → (ended : Ended) →
      In ended (map with_time (filter (is_past rules.times moment) held)) → HasEnded ended
  unfolding HasEnded
  past_ended moment held from ended within =
      let flow = in_map with_time (filter (is_past rules.times moment) held) ended within in
      let past = (in_filter (is_past rules.times moment) held flow.0 flow.1).1 in
      subst (λ (e : Ended). HasEndedBy now last (ended_at rules.times lasts e.flow e.by) (packet_in e.by)) (sym flow.2)
      (over_later (ended_at rules.times lasts flow.0 None) moment now
      (past_over rules.times lasts moment flow.0 (past_is rules.times moment flow.0 past)) from)

  -- and so does what makes way for a packet
  way_ended : (packet : Use) (is_room : Bool) (flow : Flow) → flow.stretch ≤ packet.moment.stretch →
      IsFrom packet.moment now → packet.number ≤ last → HasEnded (made_way rules.times is_room flow packet)
  unfolding HasEnded
  way_ended packet is_room flow few from up_to =
      way_by rules.times is_room flow packet
      (λ by. HasEndedBy now last (ended_at rules.times lasts flow by) (packet_in by))
      (λ past. over_later (ended_at rules.times lasts flow None) packet.moment now
      (past_over rules.times lasts packet.moment flow (past_is rules.times packet.moment flow past)) from)
      (λ live. (at_packet (same_stretch rules.times packet.moment flow live few) from, up_to))
    where
      at_packet : flow.stretch ≡ packet.moment.stretch → IsFrom packet.moment now →
          IsFrom (record { stretch = flow.stretch; clock = packet.moment.clock }) now
      at_packet same (inl p) = inl (omega (arith, same, p))
      at_packet same (inr (s, c)) = inr (omega (arith, same, s), c)

  front_ended : (start : Moment) (front : List Event) (held : List Flow) →
      AreFrom start (front ++ Passes now ∷ []) → AreUpTo last front → AreOf start held → (ended : Ended) →
      In ended (run_on rules held (front ++ Passes now ∷ [])).ended → HasEnded ended
  front_ended start [] held from up_to of ended within =
      elim (in_both ended (map with_time (filter (is_past rules.times now) held)) [] within) [
        | inl here ↦ past_ended now held (inr (refl, omega arith)) ended here
        | inr none ↦ elim none [ ]
      ]
  front_ended start (Takes packet ∷ front) held from up_to of ended within =
      let m = metered rules held packet in
      elim (in_both ended m.ended (run_on rules m.held (front ++ Passes now ∷ [])).ended within) [
        | inl here ↦
            let went = (steps rules held packet some).went ended here in
            subst HasEnded (sym went.2)
            (way_ended packet went.0 went.1 (of_later start packet.moment held from.0 of went.1 went.3)
            (from_end packet.moment now front from.1) up_to.0)
        | inr later ↦
            front_ended packet.moment front m.held from.1 up_to.1 (of_metered start held packet from.0 of) ended later
      ]
  front_ended start (Passes moment ∷ front) held from up_to of ended within =
      let left : List Flow = filter (is_live rules.times moment) held in
      elim (in_both ended (map with_time (filter (is_past rules.times moment) held))
      (run_on rules left (front ++ Passes now ∷ [])).ended within) [
        | inl here ↦ past_ended moment held (from_end moment now front from.1) ended here
        | inr later ↦
            front_ended moment front left from.1 up_to
            (of_some (is_live rules.times moment) moment held (of_later start moment held from.0 of)) ended later
      ]

  -- what is held behind it is not past then
  abbrev AreLive : List Flow → Type 0
  AreLive held = (flow : Flow) → In flow held → (flow.stretch ≡ now.stretch) × (now.clock ≤ deadline rules.times flow)

  front_held : (start : Moment) (front : List Event) (held : List Flow) →
      AreFrom start (front ++ Passes now ∷ []) → AreOf start held →
      AreLive (run_on rules held (front ++ Passes now ∷ [])).held
  front_held start [] held from of = λ flow within.
      let parts = in_filter (is_live rules.times now) held flow within in
      let live : is_past rules.times now flow ≡ false = not-true (is_past rules.times now flow) parts.1 in
      let same = same_stretch rules.times now flow live (of_later start now held from.0 of flow parts.0) in
      (same, live_until rules.times now flow live same)
  front_held start (Takes packet ∷ front) held from of =
      front_held packet.moment front (metered rules held packet).held from.1 (of_metered start held packet from.0 of)
  front_held start (Passes moment ∷ front) held from of =
      front_held moment front (filter (is_live rules.times moment) held) from.1
      (of_some (is_live rules.times moment) moment held (of_later start moment held from.0 of))

  -- ---- what ends later

  EndsBehind : Ended → Type 0
  EndsBehind ended = EndsLater now last (ended_at rules.times lasts ended.flow ended.by) (packet_in ended.by)

  -- a flow does not end before that, nor is it of a later stretch than this moment
  record Lasts (moment : Moment) (flow : Flow) : Type 0 where
    until : IsFrom now (record { stretch = flow.stretch; clock = deadline rules.times flow })
    few : flow.stretch ≤ moment.stretch

  AllLast : Moment → List Flow → Type 0
  AllLast moment held = (flow : Flow) → In flow held → Lasts moment flow

  lasts_later : (one other : Moment) (flow : Flow) → IsFrom one other → Lasts one flow → Lasts other flow
  lasts_later one other flow (inl p) l = record { until = l.until; few = (let f = l.few in omega (arith, p, f)) }
  lasts_later one other flow (inr p) l =
      record { until = l.until; few = (let f = l.few in let e = p.0 in omega (arith, e, f)) }

  -- with its deadline or its stretch it ends no sooner
  time_behind : now.clock ≤ lasts now.stretch → (flow : Flow) →
      IsFrom now (record { stretch = flow.stretch; clock = deadline rules.times flow }) → EndsBehind (with_time flow)
  unfolding EndsBehind
  time_behind enough flow (inl p) = inl p
  time_behind enough flow (inr (s, c)) =
      inr (s, (let e = subst (λ (n : ℕ). now.clock ≤ lasts n) s enough in omega (arith, c, e)))

  -- and where it makes way for a later packet
  way_behind : now.clock ≤ lasts now.stretch → (packet : Use) (is_room : Bool) (flow : Flow) →
      IsFrom now packet.moment → last < packet.number → Lasts packet.moment flow →
      EndsBehind (made_way rules.times is_room flow packet)
  unfolding EndsBehind
  way_behind enough packet is_room flow from behind l =
      way_by rules.times is_room flow packet
      (λ by. EndsLater now last (ended_at rules.times lasts flow by) (packet_in by))
      (λ past. time_behind enough flow l.until)
      (λ live. (at_packet (same_stretch rules.times packet.moment flow live l.few) from, behind))
    where
      at_packet : flow.stretch ≡ packet.moment.stretch → IsFrom now packet.moment →
          IsFrom now (record { stretch = flow.stretch; clock = packet.moment.clock })
      at_packet same (inl p) = inl (omega (arith, same, p))
      at_packet same (inr (s, c)) = inr (omega (arith, same, s), c)

  -- a flow that has a packet at a later moment lasts
  packet_lasts : (moment : Moment) (flow : Flow) → IsFrom now moment → flow.stretch ≡ moment.stretch →
      is_past rules.times moment flow ≡ false → Lasts moment flow
  packet_lasts moment flow from same live = record {
    until = go from (live_until rules.times moment flow live same);
    few = omega (arith, same);
  }
    where
      go : IsFrom now moment → moment.clock ≤ deadline rules.times flow →
          IsFrom now (record { stretch = flow.stretch; clock = deadline rules.times flow })
      go (inl p) long = inl (omega (arith, same, p))
      go (inr (s, c)) long = inr (omega (arith, same, s), omega (arith, c, long))

  last_metered : (moment : Moment) (held : List Flow) (packet : Use) → IsFrom now packet.moment →
      IsFrom moment packet.moment → AllLast moment held → AllLast packet.moment (metered rules held packet).held
  unfolding Came AllLast
  last_metered moment held packet from goes all flow within =
      elim ((steps rules held packet some).came flow within) [
        | inl old ↦ lasts_later moment packet.moment flow goes (all flow old)
        | inr (inl same) ↦
            subst (Lasts packet.moment) (sym same)
            (packet_lasts packet.moment (begun packet) from refl (new_live rules.times packet))
        | inr (inr (one, same, is)) ↦
            subst (Lasts packet.moment) (sym same)
            (packet_lasts packet.moment (grown one packet) from (sym (takes_is rules.times one packet is).stretch)
            (grown_live rules.times one packet is))
      ]

  back_ended : now.clock ≤ lasts now.stretch → (moment : Moment) (back : List Event) (held : List Flow) →
      IsFrom now moment → AreFrom moment back → AreBehind last back → AllLast moment held → (ended : Ended) →
      In ended (ended_in rules held back) → EndsBehind ended
  unfolding AllLast
  back_ended enough moment [] held goes from behind all ended within =
      let flow = in_map with_time held ended within in
      subst EndsBehind (sym flow.2) (time_behind enough flow.0 (all flow.0 flow.1).until)
  back_ended enough moment (Takes packet ∷ back) held goes from behind all ended within =
      let m = metered rules held packet in
      let later : IsFrom now packet.moment = from_before now moment packet.moment goes from.0 in
      elim (in_both ended m.ended (ended_in rules m.held back) within) [
        | inl here ↦
            let went = (steps rules held packet some).went ended here in
            subst EndsBehind (sym went.2)
            (way_behind enough packet went.0 went.1 later behind.0
            (lasts_later moment packet.moment went.1 from.0 (all went.1 went.3)))
        | inr rest ↦
            back_ended enough packet.moment back m.held later from.1 behind.1
            (last_metered moment held packet later from.0 all) ended rest
      ]
  back_ended enough moment (Passes next ∷ back) held goes from behind all ended within =
      let past : List Flow = filter (is_past rules.times next) held in
      let left : List Flow = filter (is_live rules.times next) held in
      elim (in_both ended (map with_time past) (ended_in rules left back) within) [
        | inl here ↦
            let flow = in_map with_time past ended here in
            subst EndsBehind (sym flow.2)
            (time_behind enough flow.0 (all flow.0 (in_filter (is_past rules.times next) held flow.0 flow.1).0).until)
        | inr rest ↦
            back_ended enough next back left (from_before now moment next goes from.0) from.1 behind
            (λ flow within. lasts_later moment next flow from.0
            (all flow (in_filter (is_live rules.times next) held flow within).0)) ended rest
      ]

  -- ---- both

  pub final : (start : Moment) (front back : List Event) → AreFrom start (front ++ Passes now ∷ []) →
      AreFrom now back → AreUpTo last front → AreBehind last back → now.clock ≤ lasts now.stretch →
      (one other : Ended) → In one (run_on rules [] (front ++ Passes now ∷ [])).ended →
      In other (ended_in rules (run_on rules [] (front ++ Passes now ∷ [])).held back) →
      IsBefore (end_of rules.times lasts one) (end_of rules.times lasts other)
  unfolding HasEnded EndsBehind AllLast
  final start front back from goes up_to behind enough one other here later =
      let held : List Flow = (run_on rules [] (front ++ Passes now ∷ [])).held in
      let live = front_held start front [] from (λ flow none. elim none [ ]) in
      ended_stands_first now last (end_of rules.times lasts one) (end_of rules.times lasts other)
      (front_ended start front [] from up_to (λ flow none. elim none [ ]) one here)
      (back_ended enough now back held (inr (refl, omega arith)) goes behind
      (λ flow within. let l = live flow within in
      record { until = inr (sym l.0, l.1); few = (let e = l.0 in omega (arith, e)) }) other later)

pub fronts_are_final : FrontsAreFinal
fronts_are_final rules lasts start now last front back some from goes up_to behind enough one other here later =
    final rules some lasts now last start front back from goes up_to behind enough one other here later
