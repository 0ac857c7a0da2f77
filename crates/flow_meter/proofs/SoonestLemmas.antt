-- Of flows the one that ends first, as the definition finds it in a list and the code by places.
use Rattle.std.proofs.Common.{◌≡◌, ◌⊎◌, ℕ, suc, ◌+◌, ◌<◌, ◌≤◌, true, false, List, [], ◌∷◌, ◌++◌, length, filter, get_or, take, inl, inr, refl, sym, ap, ◌∙◌, subst, arith, Option, Some, None}
use Rattle.std.specs.Prelude.{nat_eq, nat_lt, ◌&&◌, ◌||◌}
use Rattle.std.proofs.lemmas.Bool.{and_parts, and_cases, or_cases, or_parts, ltb-true, ltb-false, eq-eqb, eqb-true, eqb-false, cond_both, cases_lt}
use Rattle.std.proofs.Math.Seq.{take-suc}
use Rattle.list_laws.proofs.Lists.{In, filter_in, in_both, in_filter, in_left, in_right}
use Rattle.list_laws.proofs.Options.{none_some, some_same}
use Rattle.flow_times.specs.Flows.{Times, Flow, begun, deadline}
use Rattle.flow_times.specs.Metered.{Ended, Metered, Rules, is_in, is_other, is_sooner, made_way, metered, soonest}
use Rattle.flow_times.proofs.Meters.{chosen, metered_full, none_of}
use Rattle.flow_meter.specs.declared.packet.Packet.{Packet}
use Rattle.flow_meter.specs.declared.flow.EndedFlow.{EndedFlow}
use Rattle.flow_meter.specs.declared.flow.FlowRecord.{FlowRecord}
use Rattle.flow_meter.specs.declared.meter.Meter.{Meter}
use Rattle.flow_meter.specs.Models.{ended_of, flow_of, times_of, use_of}
use Rattle.flow_meter.specs.Records.{HasSizes}
use Rattle.flow_meter.specs.Held.{HasKey, Holds, IsFull, IsMetered, Makes, Puts, flow_at, places_of, slots_of}
use Rattle.flow_meter.specs.Parts.{EndsBy, IsPut, IsSoonest}
use Rattle.flow_meter.proofs.PlacedLemmas.{at_held, has_place, puts_set, put_in}
use Rattle.flow_meter.proofs.CallLemmas.{begun_up_to, fresh_number}

module _ (times : Times) where
  -- ---- the order

  pub ends_own : (one : Flow) → EndsBy times one one
  ends_own one = inr (inr (refl, refl, omega arith))

  pub ends_then : (one other third : Flow) → EndsBy times one other → EndsBy times other third →
      EndsBy times one third
  ends_then one other third (inl a) (inl b) = inl (omega (arith, a, b))
  ends_then one other third (inl a) (inr (inl (b, c))) = inl (omega (arith, a, b))
  ends_then one other third (inl a) (inr (inr (b, c, d))) = inl (omega (arith, a, b))
  ends_then one other third (inr (inl (a, b))) (inl c) = inl (omega (arith, a, c))
  ends_then one other third (inr (inl (a, b))) (inr (inl (c, d))) = inr (inl (a ∙ c, omega (arith, b, d)))
  ends_then one other third (inr (inl (a, b))) (inr (inr (c, d, e))) = inr (inl (a ∙ c, omega (arith, b, d)))
  ends_then one other third (inr (inr (a, b, c))) (inl d) = inl (omega (arith, a, d))
  ends_then one other third (inr (inr (a, b, c))) (inr (inl (d, e))) = inr (inl (a ∙ d, omega (arith, b, e)))
  ends_then one other third (inr (inr (a, b, c))) (inr (inr (d, e, f))) =
      inr (inr (a ∙ d, b ∙ e, omega (arith, c, f)))

  -- flows that end no later than each other have one number
  pub ends_same : (one other : Flow) → EndsBy times one other → EndsBy times other one → one.number ≡ other.number
  ends_same one other (inl a) (inl b) = absurd (omega (arith, a, b))
  ends_same one other (inl a) (inr (inl (b, c))) = absurd (omega (arith, a, b))
  ends_same one other (inl a) (inr (inr (b, c, d))) = absurd (omega (arith, a, b))
  ends_same one other (inr (inl (a, b))) (inl c) = absurd (omega (arith, a, c))
  ends_same one other (inr (inl (a, b))) (inr (inl (c, d))) = absurd (omega (arith, b, d))
  ends_same one other (inr (inl (a, b))) (inr (inr (c, d, e))) = absurd (omega (arith, b, d))
  ends_same one other (inr (inr (a, b, c))) (inl d) = absurd (omega (arith, a, d))
  ends_same one other (inr (inr (a, b, c))) (inr (inl (d, e))) = absurd (omega (arith, b, e))
  ends_same one other (inr (inr (a, b, c))) (inr (inr (d, e, f))) = omega (arith, c, f)

  -- a sooner one ends no later
  pub sooner_ends : (one other : Flow) → is_sooner times one other ≡ true → EndsBy times one other
  sooner_ends one other is = elim (or_cases _ _ is) [
    | inl stretch ↦ inl (ltb-true one.stretch other.stretch stretch)
    | inr rest ↦ inr (later (eqb-true one.stretch other.stretch (and_parts _ _ rest).0) (and_parts _ _ rest).1)
  ]
    where
      later : one.stretch ≡ other.stretch → (nat_lt (deadline times one) (deadline times other)
          || (nat_eq (deadline times one) (deadline times other) && nat_lt one.number other.number)) ≡ true →
          ((one.stretch ≡ other.stretch) × (deadline times one < deadline times other))
          ⊎ ((one.stretch ≡ other.stretch) × (deadline times one ≡ deadline times other)
          × (one.number ≤ other.number))
      later same either = elim (or_cases _ _ either) [
        | inl before ↦ inl (same, ltb-true (deadline times one) (deadline times other) before)
        | inr equal ↦
            let parts = and_parts (nat_eq (deadline times one) (deadline times other))
            (nat_lt one.number other.number) equal in
            let number : one.number < other.number = ltb-true one.number other.number parts.1 in
            inr (
              same,
              eqb-true (deadline times one) (deadline times other) parts.0,
              omega (arith, number),
            )
      ]

  -- and so does one that the other is not sooner than
  pub not_sooner_ends : (one other : Flow) → is_sooner times one other ≡ false → EndsBy times other one
  not_sooner_ends one other is =
      let parts = or_parts _ _ is in
      let from : other.stretch ≤ one.stretch = ltb-false one.stretch other.stretch parts.0 in
      elim (cases_lt other.stretch one.stretch) [
        | inl before ↦ inl before
        | inr least ↦
            let same : one.stretch ≡ other.stretch = omega (arith, from, least) in
            elim (and_cases _ _ parts.1) [
              | inl differ ↦ absurd (eqb-false one.stretch other.stretch differ same)
              | inr rest ↦ inr (by_deadline (sym same) rest)
            ]
      ]
    where
      by_deadline : other.stretch ≡ one.stretch → (nat_lt (deadline times one) (deadline times other)
          || (nat_eq (deadline times one) (deadline times other) && nat_lt one.number other.number)) ≡ false →
          ((other.stretch ≡ one.stretch) × (deadline times other < deadline times one))
          ⊎ ((other.stretch ≡ one.stretch) × (deadline times other ≡ deadline times one)
          × (other.number ≤ one.number))
      by_deadline same neither =
          let parts = or_parts _ _ neither in
          let from : deadline times other ≤ deadline times one =
          ltb-false (deadline times one) (deadline times other) parts.0 in
          elim (cases_lt (deadline times other) (deadline times one)) [
            | inl before ↦ inl (same, before)
            | inr least ↦
                let equal : deadline times one ≡ deadline times other = omega (arith, from, least) in
                elim (and_cases _ _ parts.1) [
                  | inl differ ↦ absurd (eqb-false (deadline times one) (deadline times other) differ equal)
                  | inr number ↦ inr (same, sym equal, ltb-false one.number other.number number)
                ]
          ]

  -- ---- in a list

  -- the soonest of some flows ends no later than the others
  pub soonest_ends : (flow : Flow) (flows : List Flow) (one : Flow) → In one (flow ∷ flows) →
      EndsBy times (soonest times flow flows) one
  soonest_ends flow [] one (inl same) = subst (EndsBy times flow) (sym same) (ends_own flow)
  soonest_ends flow [] one (inr none) = elim none [ ]
  soonest_ends flow (other ∷ others) one within =
      cond_both (is_sooner times other flow) other flow (λ (y : Flow). EndsBy times (soonest times y others) one)
      (λ is. by_other (soonest_ends other others) (sooner_ends other flow is) within)
      (λ is. by_flow (soonest_ends flow others) (not_sooner_ends other flow is) within)
    where
      by_other : ((x : Flow) → In x (other ∷ others) → EndsBy times (soonest times other others) x) →
          EndsBy times other flow → In one (flow ∷ other ∷ others) → EndsBy times (soonest times other others) one
      by_other rest first (inl same) = subst (EndsBy times (soonest times other others)) (sym same)
          (ends_then (soonest times other others) other flow (rest other (inl refl)) first)
      by_other rest first (inr then) = rest one then

      by_flow : ((x : Flow) → In x (flow ∷ others) → EndsBy times (soonest times flow others) x) →
          EndsBy times flow other → In one (flow ∷ other ∷ others) → EndsBy times (soonest times flow others) one
      by_flow rest second (inl same) = rest one (inl same)
      by_flow rest second (inr (inl same)) = subst (EndsBy times (soonest times flow others)) (sym same)
          (ends_then (soonest times flow others) flow other (rest flow (inl refl)) second)
      by_flow rest second (inr (inr then)) = rest one (inr then)

-- ---- by places

-- a place more
pub more_none : (meter : Meter) (places : List ℕ) (place : ℕ) (found : Option (ℕ × FlowRecord)) →
    flow_at (slots_of meter) place ≡ None → IsSoonest meter places found →
    IsSoonest meter (places ++ place ∷ []) found
more_none meter places place None none all = λ at within. elim (in_both at places (place ∷ []) within) [
  | inl before ↦ all at before
  | inr here ↦ last at here
]
  where
    last : (at : ℕ) → In at (place ∷ []) → flow_at (slots_of meter) at ≡ None
    last at (inl same) = ap (flow_at (slots_of meter)) same ∙ none
    last at (inr absent) = absurd absent
more_none meter places place (Some (found, flow)) none soon = (
  in_left found places (place ∷ []) soon.0,
  soon.1,
  soon.2,
  λ at other within is.
      elim (in_both at places (place ∷ []) within) [
        | inl before ↦ soon.3 at other before is
        | inr here ↦ last at other is here
      ],
)
  where
    last : (at : ℕ) (other : Flow) → flow_at (slots_of meter) at ≡ Some other → In at (place ∷ []) →
        EndsBy (times_of meter.times) (flow_of flow) other
    last at other is (inl same) = absurd (none_some (sym none ∙ ap (flow_at (slots_of meter)) (sym same) ∙ is))
    last at other is (inr absent) = absurd absent

-- with its flow, which ends no later than what was found
pub more_sooner : (meter : Meter) (places : List ℕ) (place : ℕ) (found : Option (ℕ × FlowRecord))
    (flow : FlowRecord) → place < places_of meter → flow_at (slots_of meter) place ≡ Some (flow_of flow) →
    ((other_place : ℕ) (other : FlowRecord) → found ≡ Some (other_place, other) →
    EndsBy (times_of meter.times) (flow_of flow) (flow_of other)) →
    IsSoonest meter places found → IsSoonest meter (places ++ place ∷ []) (Some (place, flow))
more_sooner meter places place found flow inside at sooner soon = (
  in_right place places (place ∷ []) (inl refl),
  inside,
  at,
  λ q other within is.
      elim (in_both q places (place ∷ []) within) [
        | inl before ↦ old found sooner soon q other before is
        | inr here ↦ last q other is here
      ],
)
  where
    last : (q : ℕ) (other : Flow) → flow_at (slots_of meter) q ≡ Some other → In q (place ∷ []) →
        EndsBy (times_of meter.times) (flow_of flow) other
    last q other is (inl same) =
        subst (EndsBy (times_of meter.times) (flow_of flow))
        (some_same (sym at ∙ ap (flow_at (slots_of meter)) (sym same) ∙ is))
        (ends_own (times_of meter.times) (flow_of flow))
    last q other is (inr absent) = absurd absent

    old : (was : Option (ℕ × FlowRecord)) → ((other_place : ℕ) (other : FlowRecord) →
        was ≡ Some (other_place, other) → EndsBy (times_of meter.times) (flow_of flow) (flow_of other)) →
        IsSoonest meter places was → (q : ℕ) (other : Flow) → In q places →
        flow_at (slots_of meter) q ≡ Some other → EndsBy (times_of meter.times) (flow_of flow) other
    old None ends all q other before is = absurd (none_some (sym (all q before) ∙ is))
    old (Some (p, was)) ends all q other before is =
        ends_then (times_of meter.times) (flow_of flow) (flow_of was) other (ends p was refl) (all.3 q other before is)

-- or with what was found, which ends no later than its flow
pub more_later : (meter : Meter) (places : List ℕ) (place found : ℕ) (flow was : FlowRecord) →
    flow_at (slots_of meter) place ≡ Some (flow_of flow) →
    EndsBy (times_of meter.times) (flow_of was) (flow_of flow) → IsSoonest meter places (Some (found, was)) →
    IsSoonest meter (places ++ place ∷ []) (Some (found, was))
more_later meter places place found flow was at ends soon = (
  in_left found places (place ∷ []) soon.0,
  soon.1,
  soon.2,
  λ q other within is.
      elim (in_both q places (place ∷ []) within) [
        | inl before ↦ soon.3 q other before is
        | inr here ↦ last q other is here
      ],
)
  where
    last : (q : ℕ) (other : Flow) → flow_at (slots_of meter) q ≡ Some other → In q (place ∷ []) →
        EndsBy (times_of meter.times) (flow_of was) other
    last q other is (inl same) =
        subst (EndsBy (times_of meter.times) (flow_of was))
        (some_same (sym at ∙ ap (flow_at (slots_of meter)) (sym same) ∙ is)) ends
    last q other is (inr absent) = absurd absent

-- by what the code has found so far
pub sooner_found : (meter : Meter) (flow : FlowRecord) (found : Option (ℕ × FlowRecord)) (at : ℕ)
    (was : FlowRecord) → found ≡ Some (at, was) →
    is_sooner (times_of meter.times) (flow_of flow) (flow_of was) ≡ true → (place : ℕ) (other : FlowRecord) →
    found ≡ Some (place, other) → EndsBy (times_of meter.times) (flow_of flow) (flow_of other)
sooner_found meter flow found at was is sooner place other same =
    subst (λ (one : ℕ × FlowRecord). EndsBy (times_of meter.times) (flow_of flow) (flow_of one.1))
    (some_same (sym is ∙ same)) (sooner_ends (times_of meter.times) (flow_of flow) (flow_of was) sooner)

pub none_found : (meter : Meter) (flow : FlowRecord) (found : Option (ℕ × FlowRecord)) → found ≡ None →
    (place : ℕ) (other : FlowRecord) → found ≡ Some (place, other) →
    EndsBy (times_of meter.times) (flow_of flow) (flow_of other)
none_found meter flow found none place other same = absurd (none_some (sym none ∙ same))

-- one of the first places more
pub take_more : (P : List ℕ → Type 0) (places : List ℕ) (index : ℕ) → index < length places →
    P (take index places ++ get_or places index 0 ∷ []) → P (take (index + 1) places)
take_more P places index inside holds =
    let one : suc index ≡ index + 1 = omega arith in
    subst P (sym (take-suc places index 0 inside) ∙ ap (λ (n : ℕ). take n places) one) holds

-- ---- the flow that makes way

-- the flow that was found by places is the one that the definition finds
pub soonest_is : (meter : Meter) (rules : Rules) (packet : Packet) (places : List ℕ) (last : ℕ) (held : List Flow)
    (found : ℕ) (was : FlowRecord) → rules.times ≡ times_of meter.times → Holds (slots_of meter) last held →
    IsFull meter packet places rules held → IsSoonest meter places (Some (found, was)) → (flow : Flow)
    (flows : List Flow) → filter (is_in rules (rules.class_of packet.key)) held ≡ flow ∷ flows →
    flow_of was ≡ soonest rules.times flow flows
soonest_is meter rules packet places last held found was times h full soon flow flows class =
    let best : Flow = soonest rules.times flow flows in
    let choice = chosen rules held (rules.class_of packet.key) flow flows class in
    let its = has_place (slots_of meter) last held h best choice.0 in
    let theirs : EndsBy (times_of meter.times) (flow_of was) best =
    soon.3 its.0 best (full.whole its.0 best its.1 choice.1) its.1 in
    let own : In (flow_of was) held = at_held (slots_of meter) last held h found (flow_of was) soon.2 in
    let is_theirs : is_in rules (rules.class_of packet.key) (flow_of was) ≡ true =
    eq-eqb (rules.class_of was.key) (rules.class_of packet.key) (full.theirs found (flow_of was) soon.0 soon.2) in
    let first : EndsBy rules.times best (flow_of was) = soonest_ends rules.times flow flows (flow_of was)
    (subst (In (flow_of was)) class
    (filter_in (is_in rules (rules.class_of packet.key)) held (flow_of was) own is_theirs)) in
    h.numbered (flow_of was) best own choice.0
    (ends_same rules.times (flow_of was) best
    (subst (λ (t : Times). EndsBy t (flow_of was) best) (sym times) theirs) first)

-- in a full class the flow that ends first makes way for a packet
pub makes : (old new : Meter) (packet : Packet) (places : List ℕ) (place : ℕ) (was now : FlowRecord)
    (ended : EndedFlow) → IsSoonest old places (Some (place, was)) → IsPut old new place (Some now) →
    flow_of now ≡ begun (use_of packet) → HasSizes packet →
    ended_of ended ≡ made_way (times_of old.times) true (flow_of was) (use_of packet) →
    Makes old new places packet (Some (place, ended))
makes old new packet places place was now ended soon put is sizes way = (
  soon.0,
  soon.2 ∙ ap Some (sym (ap (λ (e : Ended). e.flow) way)),
  record {
    key = subst (HasKey packet.key) (sym puts.there) refl;
    others = puts.others;
    metered = metered_is;
  },
)
  where
    puts : Puts (slots_of old) (slots_of new) place (Some (begun (use_of packet)))
    puts = subst (λ (x : Flow). Puts (slots_of old) (slots_of new) place (Some x)) is
        (puts_set (slots_of old) (slots_of new) place (Some now) soon.1 put.flows)

    metered_is : IsMetered (IsFull old packet places) old new packet (ended_of ended ∷ [])
    metered_is rules last held times h later told =
        go (filter (is_in rules (rules.class_of packet.key)) held) refl
      where
        go : (flows : List Flow) → filter (is_in rules (rules.class_of packet.key)) held ≡ flows →
            Holds (slots_of new) packet.number (metered rules held (use_of packet)).held
            × ((metered rules held (use_of packet)).ended ≡ ended_of ended ∷ [])
        go [] class = absurd (omega (arith, told.full, told.some, ap length class))
        go (flow ∷ flows) class =
            let best : Flow = soonest rules.times flow flows in
            let same : flow_of was ≡ best =
            soonest_is old rules packet places last held place was times h told soon flow flows class in
            let few : rules.items ≤ length (flow ∷ flows) = omega (arith, told.full, ap length class) in
            let made = metered_full rules held (use_of packet) flow flows told.absent class few in
            let some : 0 < packet.number = omega (arith, later) in
            let least : last ≤ packet.number = omega (arith, later) in
            let holds : Holds (slots_of new) packet.number (begun (use_of packet) ∷ filter (is_other was.key) held) =
            put_in (slots_of old) (slots_of new) last held h place (flow_of was) (begun (use_of packet)) packet.number
            puts soon.2 put.free put.left least (begun_up_to packet sizes some)
            (none_of packet.key (is_other was.key) held told.absent)
            (λ other within. fresh_number last held packet h.up_to later other
            (in_filter (is_other was.key) held other within).0) in
            let here : Holds (slots_of new) packet.number (begun (use_of packet) ∷ filter (is_other best.key) held) =
            subst (λ (f : Flow).
            Holds (slots_of new) packet.number (begun (use_of packet) ∷ filter (is_other f.key) held))
            same holds in
            let gone : made_way rules.times true best (use_of packet) ≡ ended_of ended =
            ap (λ (t : Times). made_way t true best (use_of packet)) times
            ∙ ap (λ (f : Flow). made_way (times_of old.times) true f (use_of packet)) (sym same) ∙ sym way in (
              subst (λ (m : Metered). Holds (slots_of new) packet.number m.held) (sym made) here,
              ap (λ (m : Metered). m.ended) made ∙ ap (λ (e : Ended). e ∷ []) gone,
            )
