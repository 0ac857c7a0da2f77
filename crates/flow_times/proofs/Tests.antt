-- What the tests of the definition tell: of keys, of flows that are past, and of the one that would end first.
use Rattle.std.proofs.Common.{◌≡◌, ◌≤◌, ◌<◌, ◌⊎◌, true, false, List, [], ◌∷◌, inl, inr, refl, sym, ap, ◌∙◌, arith}
use Rattle.std.specs.Prelude.{nat_eq, nat_lt, ◌&&◌, ◌||◌}
use Rattle.std.specs.Cmp.{eq_by_cmp_equiv}
use Rattle.std.proofs.lemmas.Bool.{and_parts, and_from, or_cases, or_parts, or_left, or_right, and_cases, not-true, ltb-true, ltb-false, eqb-true, eqb-false, lt-ltb, le-ltb, eq-eqb, cond_both, cases_lt, false_from_ne_true, not_from_false}
use Rattle.plain_map.specs.declared.keys.Key.{Key}
use Rattle.plain_map.specs.Keys.{key_cmp}
use Rattle.plain_map.proofs.KeyLemmas.{keys_total, exact_keys, tied}
use Rattle.list_laws.proofs.Lists.{In}
use Rattle.list_laws.proofs.Truths.{not_both}
use Rattle.flow_times.specs.Moments.{Moment, IsFrom}
use Rattle.flow_times.specs.Flows.{Times, Use, Flow, Belongs, IsPast, begun, grown, deadline}
use Rattle.flow_times.specs.Metered.{is_past, is_live, is_sooner, same_key, soonest, takes}
use Rattle.flow_times.proofs.Passes.{stays, takes_none}

-- ---- keys

-- a key is itself
pub key_own : (key : Key) → same_key key key ≡ true
key_own key = (eq_by_cmp_equiv keys_total).refl key

-- and no other one
pub key_is : (one other : Key) → same_key one other ≡ true → one ≡ other
key_is one other is = exact_keys one other (tied (key_cmp one other) is)

-- ---- flows that are past

-- what the test finds past is past
pub past_is : (times : Times) (now : Moment) (flow : Flow) → is_past times now flow ≡ true → IsPast times flow now
past_is times now flow is = elim (or_cases _ _ is) [
  | inl stretch ↦ inl (ltb-true _ _ stretch)
  | inr over ↦ inr (eqb-true _ _ (and_parts _ _ over).0, ltb-true _ _ (and_parts _ _ over).1)
]

-- and what is past it finds past
pub is_past_by : (times : Times) (now : Moment) (flow : Flow) → IsPast times flow now → is_past times now flow ≡ true
is_past_by times now flow (inl stretch) = or_left _ _ (lt-ltb flow.stretch now.stretch stretch)
is_past_by times now flow (inr (same, over)) =
    or_right _ _ (and_from _ _ (eq-eqb flow.stretch now.stretch same) (lt-ltb (deadline times flow) now.clock over))

-- what is past stays so
pub past_later : (times : Times) (now later : Moment) (flow : Flow) → IsFrom now later →
    is_past times now flow ≡ true → is_past times later flow ≡ true
past_later times now later flow from is =
    is_past_by times later flow (stays times flow now later (past_is times now flow is) from)

-- and what is live was so
pub live_before : (times : Times) (now later : Moment) (flow : Flow) → IsFrom now later →
    is_live times later flow ≡ true → is_live times now flow ≡ true
live_before times now later flow from is =
    not_from_false (is_past times now flow) (false_from_ne_true (is_past times now flow)
    (λ past. not_both (is_past times later flow) (past_later times now later flow from past)
    (not-true (is_past times later flow) is)))

-- a packet that the test finds to belong does
pub takes_is : (times : Times) (flow : Flow) (packet : Use) → takes times flow packet ≡ true →
    Belongs times flow packet
takes_is times flow packet is =
    let parts = and_parts _ _ is in
    let rest = and_parts _ _ parts.1 in
    record {
      stretch = eqb-true _ _ parts.0;
      within = ltb-false _ _ (not-true _ rest.0);
      goes_on = not-true _ rest.1;
    }

-- and one that does it finds
pub is_takes : (times : Times) (flow : Flow) (packet : Use) → Belongs times flow packet →
    takes times flow packet ≡ true
is_takes times flow packet b =
    and_from _ _ (eq-eqb packet.moment.stretch flow.stretch b.stretch)
    (and_from _ _ (not_from_false _ (le-ltb (deadline times flow) packet.moment.clock b.within))
    (not_from_false _ b.goes_on))

-- a packet belongs to no flow that is past
pub taken_live : (times : Times) (flow : Flow) (packet : Use) → takes times flow packet ≡ true →
    is_past times packet.moment flow ≡ false
taken_live times flow packet is =
    false_from_ne_true (is_past times packet.moment flow)
    (λ past. takes_none times flow packet (past_is times packet.moment flow past) (takes_is times flow packet is))

-- at its own packet no flow is past
pub new_live : (times : Times) (packet : Use) → is_past times packet.moment (begun packet) ≡ false
new_live times packet =
    false_from_ne_true (is_past times packet.moment (begun packet))
    (λ past. go (past_is times packet.moment (begun packet) past))
  where
    go : IsPast times (begun packet) packet.moment → ⊥
    go (inl stretch) = omega (arith, stretch)
    go (inr (same, over)) = omega (arith, over)

pub grown_live : (times : Times) (flow : Flow) (packet : Use) → takes times flow packet ≡ true →
    is_past times packet.moment (grown flow packet) ≡ false
grown_live times flow packet is =
    let belongs = takes_is times flow packet is in
    false_from_ne_true (is_past times packet.moment (grown flow packet))
    (λ past. go belongs.stretch belongs.within (past_is times packet.moment (grown flow packet) past))
  where
    go : packet.moment.stretch ≡ flow.stretch → packet.moment.clock ≤ deadline times flow →
        IsPast times (grown flow packet) packet.moment → ⊥
    go at within (inl stretch) = omega (arith, at, stretch)
    go at within (inr (same, over)) = omega (arith, within, over)

-- ---- the one that would end first

-- the one does not end behind the other
abbrev NotLater : Times → Flow → Flow → Type 0
NotLater times one other =
    (one.stretch < other.stretch) ⊎ ((one.stretch ≡ other.stretch) × (deadline times one ≤ deadline times other))

-- a sooner one does not
sooner_is : (times : Times) (one other : Flow) → is_sooner times one other ≡ true → NotLater times one other
sooner_is times one other is = elim (or_cases _ _ is) [
  | inl stretch ↦ inl (ltb-true _ _ stretch)
  | inr rest ↦ inr (eqb-true _ _ (and_parts _ _ rest).0, no_later (and_parts _ _ rest).1)
]
  where
    no_later : (nat_lt (deadline times one) (deadline times other)
        || (nat_eq (deadline times one) (deadline times other) && nat_lt one.number other.number)) ≡ true →
        deadline times one ≤ deadline times other
    no_later either = elim (or_cases _ _ either) [
      | inl before ↦ (let b = ltb-true (deadline times one) (deadline times other) before in omega (arith, b))
      | inr equal ↦ (let b = eqb-true (deadline times one) (deadline times other) (and_parts _ _ equal).0 in
          omega (arith, b))
    ]

-- and behind one that is not sooner it does not end
not_sooner : (times : Times) (one other : Flow) → is_sooner times one other ≡ false → NotLater times other one
not_sooner times one other is =
    let parts = or_parts _ _ is in
    let from : other.stretch ≤ one.stretch = ltb-false _ _ parts.0 in
    elim (cases_lt other.stretch one.stretch) [
      | inl before ↦ inl before
      | inr least ↦
          let same : one.stretch ≡ other.stretch = omega (arith, from, least) in
          elim (and_cases _ _ parts.1) [
            | inl differ ↦ absurd (eqb-false _ _ differ same)
            | inr rest ↦ inr (sym same, ltb-false _ _ (or_parts _ _ rest).0)
          ]
    ]

-- where the other one is past, so is one that does not end behind it
past_down : (times : Times) (now : Moment) (one other : Flow) → NotLater times one other → IsPast times other now →
    IsPast times one now
past_down times now one other (inl before) (inl past) = inl (omega (arith, before, past))
past_down times now one other (inl before) (inr (same, past)) = inl (omega (arith, before, same))
past_down times now one other (inr (at, few)) (inl past) = inl (omega (arith, at, past))
past_down times now one other (inr (at, few)) (inr (same, past)) =
    inr (omega (arith, at, same), omega (arith, few, past))

-- so where it is live, the other one is
live_up : (times : Times) (now : Moment) (one other : Flow) → NotLater times one other →
    is_past times now one ≡ false → is_past times now other ≡ false
live_up times now one other order live =
    false_from_ne_true (is_past times now other)
    (λ past. not_both (is_past times now one)
    (is_past_by times now one (past_down times now one other order (past_is times now other past))) live)

-- the soonest of some flows is one of them
pub soonest_in : (times : Times) (flow : Flow) (flows : List Flow) → In (soonest times flow flows) (flow ∷ flows)
soonest_in times flow [] = inl refl
soonest_in times flow (other ∷ others) =
    cond_both (is_sooner times other flow) other flow
    (λ (y : Flow). In (soonest times y others) (flow ∷ other ∷ others))
    (λ is. inr (soonest_in times other others))
    (λ is. elim (soonest_in times flow others) [ inl same ↦ inl same | inr rest ↦ inr (inr rest) ])

-- and where it is live, all of them are
pub soonest_live : (times : Times) (now : Moment) (flow : Flow) (flows : List Flow) →
    is_past times now (soonest times flow flows) ≡ false → (one : Flow) → In one (flow ∷ flows) →
    is_past times now one ≡ false
soonest_live times now flow [] live one (inl same) = ap (is_past times now) same ∙ live
soonest_live times now flow [] live one (inr none) = elim none [ ]
soonest_live times now flow (other ∷ others) live one within =
    cond_both (is_sooner times other flow) other flow
    (λ (y : Flow). is_past times now (soonest times y others) ≡ false → is_past times now one ≡ false)
    (λ is here.
    let all = soonest_live times now other others here in
    let first = live_up times now other flow (sooner_is times other flow is) (all other (inl refl)) in
    by_place first all within)
    (λ is here.
    let all = soonest_live times now flow others here in
    let second = live_up times now flow other (not_sooner times other flow is) (all flow (inl refl)) in
    by_other second all within) live
  where
    by_place : is_past times now flow ≡ false →
        ((x : Flow) → In x (other ∷ others) → is_past times now x ≡ false) → In one (flow ∷ other ∷ others) →
        is_past times now one ≡ false
    by_place first all (inl same) = ap (is_past times now) same ∙ first
    by_place first all (inr rest) = all one rest

    by_other : is_past times now other ≡ false →
        ((x : Flow) → In x (flow ∷ others) → is_past times now x ≡ false) → In one (flow ∷ other ∷ others) →
        is_past times now one ≡ false
    by_other second all (inl same) = all one (inl same)
    by_other second all (inr (inl same)) = ap (is_past times now) same ∙ second
    by_other second all (inr (inr rest)) = all one (inr rest)
