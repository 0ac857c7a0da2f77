-- What a packet makes of what is held, by its cases; and what is kept of it: each key has one flow, and each class
-- has room.
use Rattle.std.proofs.Common.{◌≡◌, ◌≤◌, ◌<◌, ◌⊎◌, ℕ, Bool, true, false, not, List, [], ◌∷◌, length, filter, inl, inr, refl, sym, ap, ◌∙◌, subst, arith}
use Rattle.std.specs.Prelude.{nat_eq}
use Rattle.std.proofs.lemmas.Bool.{cases_Bool, cases_lt, eq-eqb, cond-true, cond-false, eqb-true, lt-ltb, le-ltb, not-true, false_from_ne_true}
use Rattle.plain_map.specs.declared.keys.Key.{Key}
use Rattle.list_laws.proofs.Lists.{In, in_filter, filter_in}
use Rattle.list_laws.proofs.Truths.{not_both}
use Rattle.map_laws.proofs.ByKeyLists.{filter_dropped, filter_kept, filter_swap}
use Rattle.flow_times.specs.Flows.{Use, Flow, begun, grown}
use Rattle.flow_times.specs.Metered.{Ended, Metered, Rules, begun_in, is_at, is_in, is_other, made_way, metered, same_key, soonest, taken_by, takes}
use Rattle.flow_times.proofs.Filters.{filter_few, filter_fewer, filter_none, none_in}
use Rattle.flow_times.proofs.Tests.{key_is, key_own, soonest_in}

-- ---- the cases

-- what a packet makes, by its new flow, what else is held, and what ended
abbrev pub with_new : Flow → List Flow → List Ended → Metered
with_new flow rest ended = record { held = flow ∷ rest; ended = ended }

module _ (rules : Rules) (held : List Flow) (packet : Use) where
  -- the flows of its class
  abbrev pub of_class : List Flow
  of_class = filter (is_in rules (rules.class_of packet.key)) held

  -- it belongs to the flow of its key
  pub metered_takes : (flow : Flow) (flows : List Flow) → filter (is_at packet.key) held ≡ flow ∷ flows →
      takes rules.times flow packet ≡ true →
      metered rules held packet ≡ with_new (grown flow packet) (filter (is_other packet.key) held) []
  metered_takes flow flows at is = ap (taken_by rules held packet) at ∙ cond-true _ _ _ is

  -- it does not
  pub metered_ends : (flow : Flow) (flows : List Flow) → filter (is_at packet.key) held ≡ flow ∷ flows →
      takes rules.times flow packet ≡ false →
      metered rules held packet
      ≡ with_new (begun packet) (filter (is_other packet.key) held) (made_way rules.times false flow packet ∷ [])
  metered_ends flow flows at is = ap (taken_by rules held packet) at ∙ cond-false _ _ _ is

  -- its key has no flow, and its class has room
  pub metered_begins : filter (is_at packet.key) held ≡ [] → length of_class < rules.items →
      metered rules held packet ≡ with_new (begun packet) held []
  metered_begins at room = ap (taken_by rules held packet) at ∙ go of_class room
    where
      go : (flows : List Flow) → length flows < rules.items →
          begun_in rules held packet flows ≡ with_new (begun packet) held []
      go [] few = refl
      go (flow ∷ flows) few = cond-true _ _ _ (lt-ltb (length (flow ∷ flows)) rules.items few)

  -- or its class is full
  pub metered_full : (flow : Flow) (flows : List Flow) → filter (is_at packet.key) held ≡ [] →
      of_class ≡ flow ∷ flows → rules.items ≤ length (flow ∷ flows) →
      metered rules held packet
      ≡ with_new (begun packet) (filter (is_other (soonest rules.times flow flows).key) held)
      (made_way rules.times true (soonest rules.times flow flows) packet ∷ [])
  metered_full flow flows at class full =
      ap (taken_by rules held packet) at ∙ ap (begun_in rules held packet) class
      ∙ cond-false _ _ _ (le-ltb (length (flow ∷ flows)) rules.items full)

  -- so what holds in each case holds
  pub metered_by : (P : Metered → Type 0) → 0 < rules.items →
      ((flow : Flow) (flows : List Flow) → filter (is_at packet.key) held ≡ flow ∷ flows →
      takes rules.times flow packet ≡ true →
      P (with_new (grown flow packet) (filter (is_other packet.key) held) [])) →
      ((flow : Flow) (flows : List Flow) → filter (is_at packet.key) held ≡ flow ∷ flows →
      takes rules.times flow packet ≡ false →
      P (with_new (begun packet) (filter (is_other packet.key) held) (made_way rules.times false flow packet ∷ []))) →
      (filter (is_at packet.key) held ≡ [] → length of_class < rules.items → P (with_new (begun packet) held [])) →
      ((flow : Flow) (flows : List Flow) → filter (is_at packet.key) held ≡ [] → of_class ≡ flow ∷ flows →
      rules.items ≤ length (flow ∷ flows) →
      P (with_new (begun packet) (filter (is_other (soonest rules.times flow flows).key) held)
      (made_way rules.times true (soonest rules.times flow flows) packet ∷ []))) →
      P (metered rules held packet)
  metered_by P some known closed begins full = by_key (filter (is_at packet.key) held) refl
    where
      by_class : (flows : List Flow) → of_class ≡ flows → filter (is_at packet.key) held ≡ [] →
          P (metered rules held packet)
      by_class [] class at =
          let room : length of_class < rules.items = omega (arith, ap length class, some) in
          subst P (sym (metered_begins at room)) (begins at room)
      by_class (flow ∷ flows) class at = elim (cases_lt (length (flow ∷ flows)) rules.items) [
        | inl few ↦
            let room : length of_class < rules.items = omega (arith, ap length class, few) in
            subst P (sym (metered_begins at room)) (begins at room)
        | inr all ↦ subst P (sym (metered_full flow flows at class all)) (full flow flows at class all)
      ]

      by_key : (flows : List Flow) → filter (is_at packet.key) held ≡ flows → P (metered rules held packet)
      by_key [] at = by_class of_class refl at
      by_key (flow ∷ flows) at = elim (cases_Bool (takes rules.times flow packet)) [
        | inl is ↦ subst P (sym (metered_takes flow flows at is)) (known flow flows at is)
        | inr is ↦ subst P (sym (metered_ends flow flows at is)) (closed flow flows at is)
      ]

-- ---- one flow a key

-- each flow is the only one of its key
abbrev pub AreApart : List Flow → Type 0
AreApart held = (flow : Flow) → In flow held → filter (is_at flow.key) held ≡ flow ∷ []

-- so it is of some of them
pub apart_filter : (test : Flow → Bool) (held : List Flow) → AreApart held → AreApart (filter test held)
apart_filter test held apart flow within =
    let parts = in_filter test held flow within in
    filter_swap (is_at flow.key) test held ∙ ap (filter test) (apart flow parts.0)
    ∙ filter_kept test flow [] parts.1

-- and with another flow, of whose key there is none
pub apart_cons : (new : Flow) (rest : List Flow) → AreApart rest → filter (is_at new.key) rest ≡ [] →
    AreApart (new ∷ rest)
apart_cons new rest apart none flow (inl same) =
    subst (λ (x : Flow). filter (is_at x.key) (new ∷ rest) ≡ x ∷ []) (sym same)
    (filter_kept (is_at new.key) new rest (key_own new.key) ∙ ap (λ (l : List Flow). new ∷ l) none)
apart_cons new rest apart none flow (inr within) =
    filter_dropped (is_at flow.key) new rest (false_from_ne_true (same_key flow.key new.key) (λ is. differ is))
    ∙ apart flow within
  where
    differ : same_key flow.key new.key ≡ true → ⊥
    differ is =
        let same : new.key ≡ flow.key = sym (key_is flow.key new.key is) in
        not_both (same_key new.key flow.key) (ap (λ (k : Key). same_key k flow.key) same ∙ key_own flow.key)
        (none_in (is_at new.key) rest flow none within)

-- the flows of a key are one or none
pub only : (held : List Flow) (key : Key) (flow : Flow) (flows : List Flow) → AreApart held →
    filter (is_at key) held ≡ flow ∷ flows →
    In flow held × (key ≡ flow.key) × (filter (is_at key) held ≡ flow ∷ [])
only held key flow flows apart at =
    let first : In flow (filter (is_at key) held) = subst (λ (l : List Flow). In flow l) (sym at) (inl refl) in
    let parts = in_filter (is_at key) held flow first in
    let same : key ≡ flow.key = key_is key flow.key parts.1 in
    (parts.0, same, ap (λ (k : Key). filter (is_at k) held) same ∙ apart flow parts.0)

-- of a key there is none or one
pub one_or_none : (held : List Flow) (key : Key) → AreApart held →
    (filter (is_at key) held ≡ []) ⊎ ((flow : Flow) × (filter (is_at key) held ≡ flow ∷ []))
one_or_none held key apart = go (filter (is_at key) held) refl
  where
    go : (flows : List Flow) → filter (is_at key) held ≡ flows →
        (filter (is_at key) held ≡ []) ⊎ ((flow : Flow) × (filter (is_at key) held ≡ flow ∷ []))
    go [] at = inl at
    go (flow ∷ flows) at = inr (flow, (only held key flow flows apart at).2)

-- of one key none is left, where the others are
pub none_left : (key : Key) (held : List Flow) → filter (is_at key) (filter (is_other key) held) ≡ []
none_left key held =
    filter_none (is_at key) (filter (is_other key) held)
    (λ x within. not-true (same_key key x.key) (in_filter (is_other key) held x within).1)

-- and where there is none, none is left of some
pub none_of : (key : Key) (test : Flow → Bool) (held : List Flow) → filter (is_at key) held ≡ [] →
    filter (is_at key) (filter test held) ≡ []
none_of key test held none = filter_swap (is_at key) test held ∙ ap (filter test) none

-- ---- room

-- no class has more flows than have room
abbrev pub AreFew : Rules → List Flow → Type 0
AreFew rules held = (class : ℕ) → length (filter (is_in rules class) held) ≤ rules.items

-- what is kept of what is held
pub record Fits (rules : Rules) (held : List Flow) : Type 0 where
  pub apart : AreApart held
  pub few : AreFew rules held

pub few_filter : (rules : Rules) (test : Flow → Bool) (held : List Flow) → AreFew rules held →
    AreFew rules (filter test held)
few_filter rules test held few class =
    omega (
      arith,
      ap length (filter_swap (is_in rules class) test held),
      filter_few test (filter (is_in rules class) held),
      few class,
    )

few_cons : (rules : Rules) (new : Flow) (rest : List Flow) → AreFew rules rest →
    length (filter (is_in rules (rules.class_of new.key)) rest) < rules.items → AreFew rules (new ∷ rest)
few_cons rules new rest few room class = elim (cases_Bool (is_in rules class new)) [
  | inl is ↦
      let same : rules.class_of new.key ≡ class = eqb-true _ _ is in
      let less : length (filter (is_in rules class) rest) < rules.items =
      subst (λ (c : ℕ). length (filter (is_in rules c) rest) < rules.items) same room in
      omega (arith, ap length (filter_kept (is_in rules class) new rest is), less)
  | inr not_in ↦ omega (arith, ap length (filter_dropped (is_in rules class) new rest not_in), few class)
]

-- where one of a class is not left, there is room in it
pub room_left : (rules : Rules) (test : Flow → Bool) (held : List Flow) (flow : Flow) → AreFew rules held →
    In flow held → test flow ≡ false →
    length (filter (is_in rules (rules.class_of flow.key)) (filter test held)) < rules.items
room_left rules test held flow few within out =
    let class : ℕ = rules.class_of flow.key in
    omega (
      arith,
      ap length (filter_swap (is_in rules class) test held),
      filter_fewer test (filter (is_in rules class) held) flow
          (filter_in (is_in rules class) held flow within (own_class class)) out,
      few class,
    )
  where
    own_class : (n : ℕ) → nat_eq n n ≡ true
    own_class n = eq-eqb n n refl

-- a flow is none but its key's
pub not_other : (flow : Flow) → is_other flow.key flow ≡ false
not_other flow = ap not (key_own flow.key)

-- the one that makes way is held, and of the packet's class
pub chosen : (rules : Rules) (held : List Flow) (class : ℕ) (flow : Flow) (flows : List Flow) →
    filter (is_in rules class) held ≡ flow ∷ flows →
    In (soonest rules.times flow flows) held × (rules.class_of (soonest rules.times flow flows).key ≡ class)
chosen rules held class flow flows is =
    let parts = in_filter (is_in rules class) held (soonest rules.times flow flows)
    (subst (λ (l : List Flow). In (soonest rules.times flow flows) l) (sym is) (soonest_in rules.times flow flows)) in
    (parts.0, eqb-true _ _ parts.1)

-- all of it is kept by a packet
pub fits_metered : (rules : Rules) (held : List Flow) (packet : Use) → 0 < rules.items → Fits rules held →
    Fits rules (metered rules held packet).held
fits_metered rules held packet some fits =
    metered_by rules held packet (λ m. Fits rules m.held) some
    (λ flow flows at is. without flow flows (grown flow packet) at (only held packet.key flow flows fits.apart at).1)
    (λ flow flows at is. without flow flows (begun packet) at refl)
    (λ at room. record {
      apart = apart_cons (begun packet) held fits.apart at;
      few = few_cons rules (begun packet) held fits.few room;
    })
    (λ flow flows at class full.
    let out = soonest rules.times flow flows in
    let choice = chosen rules held (rules.class_of packet.key) flow flows class in
    record {
      apart = apart_cons (begun packet) (filter (is_other out.key) held)
          (apart_filter (is_other out.key) held fits.apart)
          (none_of packet.key (is_other out.key) held at);
      few = few_cons rules (begun packet) (filter (is_other out.key) held)
          (few_filter rules (is_other out.key) held fits.few)
          (subst (λ (c : ℕ). length (filter (is_in rules c) (filter (is_other out.key) held)) < rules.items) choice.1
          (room_left rules (is_other out.key) held out fits.few choice.0 (not_other out)));
    })
  where
    without : (flow : Flow) (flows : List Flow) (new : Flow) → filter (is_at packet.key) held ≡ flow ∷ flows →
        packet.key ≡ new.key → Fits rules (new ∷ filter (is_other packet.key) held)
    without flow flows new at same =
        let one = only held packet.key flow flows fits.apart at in
        let rest : List Flow = filter (is_other packet.key) held in
        let room : length (filter (is_in rules (rules.class_of packet.key)) rest) < rules.items =
        subst (λ (k : Key). length (filter (is_in rules (rules.class_of k)) rest) < rules.items) (sym one.1)
        (room_left rules (is_other packet.key) held flow fits.few one.0
        (ap (λ (k : Key). is_other k flow) one.1 ∙ not_other flow)) in
        record {
          apart = apart_cons new rest (apart_filter (is_other packet.key) held fits.apart)
              (ap (λ (k : Key). filter (is_at k) rest) (sym same) ∙ none_left packet.key held);
          few = few_cons rules new rest (few_filter rules (is_other packet.key) held fits.few)
              (subst (λ (k : Key). length (filter (is_in rules (rules.class_of k)) rest) < rules.items) same room);
        }
