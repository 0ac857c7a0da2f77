-- Classes are metered apart; and so are keys, where no flow makes way for want of room.
use Rattle.std.proofs.Common.{◌≡◌, ◌<◌, ℕ, Bool, true, false, List, [], ◌∷◌, ◌++◌, length, map, filter, inl, inr, refl, sym, ap, ◌∙◌, subst}
use Rattle.std.specs.Prelude.{nat_eq}
use Rattle.std.proofs.lemmas.Bool.{cases_Bool, cases_lt, cond-true, cond-false, eq-eqb, eqb-true, lt-ltb, le-ltb, not_from_false, false_from_ne_true}
use Rattle.std.proofs.lemmas.List.Elements.{filter-append}
use Rattle.plain_map.specs.declared.keys.Key.{Key}
use Rattle.list_laws.proofs.Lists.{In, in_filter}
use Rattle.list_laws.proofs.Truths.{not_both}
use Rattle.map_laws.proofs.ByKeyLists.{filter_dropped, filter_kept, filter_swap}
use Rattle.flow_times.specs.Flows.{Use, Flow, begun, grown}
use Rattle.flow_times.specs.Passes.{Event}
use Rattle.flow_times.specs.Passes.Event.{Takes, Passes}
use Rattle.flow_times.specs.Metered.{Ended, Metered, Rules, ClassesAreApart, begun_in, ended_in, in_class, is_at, is_in, is_live, is_other, is_past, made_way, metered, same_key, soonest, taken_by, takes, with_time}
use Rattle.flow_times.proofs.Filters.{filter_both}
use Rattle.flow_times.proofs.Meters.{chosen, metered_by, with_new}
use Rattle.flow_times.proofs.Tests.{key_is}

module _ (rules : Rules) (class : ℕ) where
  -- flows of the class, and records of it
  abbrev own : Flow → Bool
  own = is_in rules class

  abbrev of : List Ended → List Ended
  of = filter (λ ended. is_in rules class ended.flow)

  -- what both states come to at a packet: what is of the class is held and has ended there, and nothing else
  record Apart (whole part : Metered) : Type 0 where
    state : filter own whole.held ≡ part.held
    ended : of whole.ended ≡ part.ended

  of_map : (flows : List Flow) → of (map with_time flows) ≡ map with_time (filter own flows)
  of_map [] = refl
  of_map (flow ∷ flows) = elim (cases_Bool (own flow)) [
    | inl is ↦
        filter_kept (λ (e : Ended). is_in rules class e.flow) (with_time flow) (map with_time flows) is
        ∙ ap (λ (l : List Ended). with_time flow ∷ l) (of_map flows)
        ∙ ap (map with_time) (sym (filter_kept own flow flows is))
    | inr is ↦
        filter_dropped (λ (e : Ended). is_in rules class e.flow) (with_time flow) (map with_time flows) is
        ∙ of_map flows ∙ ap (map with_time) (sym (filter_dropped own flow flows is))
  ]

  module _ (held : List Flow) (packet : Use) where
    -- a key of the class
    own_key : (flow : Flow) → rules.class_of packet.key ≡ class → same_key packet.key flow.key ≡ true → own flow ≡ true
    own_key flow at is =
        eq-eqb (rules.class_of flow.key) class
        (ap rules.class_of (sym (key_is packet.key flow.key is)) ∙ at)

    -- of a packet of the class its key's flows and its class's are those of the class
    key_part : rules.class_of packet.key ≡ class →
        filter (is_at packet.key) (filter own held) ≡ filter (is_at packet.key) held
    key_part at = filter_both (is_at packet.key) own held (λ x is. own_key x at is)

    class_part : rules.class_of packet.key ≡ class →
        filter (is_in rules (rules.class_of packet.key)) (filter own held)
        ≡ filter (is_in rules (rules.class_of packet.key)) held
    class_part at =
        filter_both (is_in rules (rules.class_of packet.key)) own held
        (λ x is. eq-eqb (rules.class_of x.key) class (eqb-true _ _ is ∙ at))

    -- a flow of the class that takes the place of one of the class, or of none
    moved : (new : Flow) (key : Key) (flow : Flow) (ended : List Ended) → own new ≡ true →
        of ended ≡ ended →
        Apart (with_new new (filter (is_other key) held) ended)
        (with_new new (filter (is_other key) (filter own held)) ended)
    moved new key flow ended is told = record {
      state = filter_kept own new (filter (is_other key) held) is
          ∙ ap (λ (l : List Flow). new ∷ l) (filter_swap own (is_other key) held);
      ended = told;
    }

    -- one record of the class
    one_of : (one : Ended) → own one.flow ≡ true → of (one ∷ []) ≡ one ∷ []
    one_of one is = filter_kept (λ (e : Ended). is_in rules class e.flow) one [] is

    -- where no flow of its key is held
    none_held : (flows : List Flow) → rules.class_of packet.key ≡ class →
        filter (is_in rules (rules.class_of packet.key)) held ≡ flows →
        Apart (begun_in rules held packet flows) (begun_in rules (filter own held) packet flows)
    none_held [] at class_is = record {
      state = filter_kept own (begun packet) held (eq-eqb _ _ at);
      ended = refl;
    }
    none_held (flow ∷ flows) at class_is = elim (cases_lt (length (flow ∷ flows)) rules.items) [
      | inl few ↦
          let is = lt-ltb (length (flow ∷ flows)) rules.items few in
          subst (λ (m : Metered). Apart m (begun_in rules (filter own held) packet (flow ∷ flows)))
          (sym (cond-true _ (with_new (begun packet) held []) _ is))
          (subst (Apart (with_new (begun packet) held []))
          (sym (cond-true _ (with_new (begun packet) (filter own held) []) _ is))
          (record { state = filter_kept own (begun packet) held (eq-eqb _ _ at); ended = refl }))
      | inr all ↦
          let is = le-ltb (length (flow ∷ flows)) rules.items all in
          let out : Flow = soonest rules.times flow flows in
          let one : Ended = made_way rules.times true out packet in
          let choice = chosen rules held (rules.class_of packet.key) flow flows class_is in
          subst (λ (m : Metered). Apart m (begun_in rules (filter own held) packet (flow ∷ flows)))
          (sym (cond-false _ _ (with_new (begun packet) (filter (is_other out.key) held) (one ∷ [])) is))
          (subst (Apart (with_new (begun packet) (filter (is_other out.key) held) (one ∷ [])))
          (sym (cond-false _ _ (with_new (begun packet) (filter (is_other out.key) (filter own held)) (one ∷ [])) is))
          (moved (begun packet) out.key out (one ∷ []) (eq-eqb _ _ at) (one_of one (eq-eqb _ _ (choice.1 ∙ at)))))
    ]

    -- where these of its key are
    some_held : (flows : List Flow) → rules.class_of packet.key ≡ class → filter (is_at packet.key) held ≡ flows →
        Apart (taken_by rules held packet flows) (taken_by rules (filter own held) packet flows)
    some_held [] at is =
        subst (λ (l : List Flow). Apart (taken_by rules held packet []) (begun_in rules (filter own held) packet l))
        (sym (class_part at)) (none_held (filter (is_in rules (rules.class_of packet.key)) held) at refl)
    some_held (flow ∷ flows) at is =
        let within : In flow (filter (is_at packet.key) held) =
        subst (λ (l : List Flow). In flow l) (sym is) (inl refl) in
        let mine : own flow ≡ true = own_key flow at (in_filter (is_at packet.key) held flow within).1 in
        let rest : List Flow = filter (is_other packet.key) held in
        let left : List Flow = filter (is_other packet.key) (filter own held) in
        let one : Ended = made_way rules.times false flow packet in
        elim (cases_Bool (takes rules.times flow packet)) [
          | inl does ↦
              subst (λ (m : Metered). Apart m (taken_by rules (filter own held) packet (flow ∷ flows)))
              (sym (cond-true _ (with_new (grown flow packet) rest []) _ does))
              (subst (Apart (with_new (grown flow packet) rest []))
              (sym (cond-true _ (with_new (grown flow packet) left []) _ does))
              (moved (grown flow packet) packet.key flow [] mine refl))
          | inr fails ↦
              subst (λ (m : Metered). Apart m (taken_by rules (filter own held) packet (flow ∷ flows)))
              (sym (cond-false _ _ (with_new (begun packet) rest (one ∷ [])) fails))
              (subst (Apart (with_new (begun packet) rest (one ∷ [])))
              (sym (cond-false _ _ (with_new (begun packet) left (one ∷ [])) fails))
              (moved (begun packet) packet.key flow (one ∷ []) (eq-eqb _ _ at) (one_of one mine)))
        ]

    -- a packet of the class
    of_it : rules.class_of packet.key ≡ class →
        Apart (metered rules held packet) (metered rules (filter own held) packet)
    of_it at =
        subst (λ (l : List Flow). Apart (metered rules held packet) (taken_by rules (filter own held) packet l))
        (sym (key_part at)) (some_held (filter (is_at packet.key) held) at refl)

    -- what is of the class is of no other key
    other_key : (key : Key) → nat_eq (rules.class_of key) class ≡ false → (x : Flow) → own x ≡ true →
        is_other key x ≡ true
    other_key key differ x is =
        not_from_false (same_key key x.key)
        (false_from_ne_true (same_key key x.key)
        (λ same. not_both (nat_eq (rules.class_of x.key) class) is
        (ap (λ (k : Key). nat_eq (rules.class_of k) class) (sym (key_is key x.key same)) ∙ differ)))

    -- what of it is held where a flow of another class took a place
    others_left : (new : Flow) (key : Key) → own new ≡ false → nat_eq (rules.class_of key) class ≡ false →
        filter own (new ∷ filter (is_other key) held) ≡ filter own held
    others_left new key differ key_differs =
        filter_dropped own new (filter (is_other key) held) differ
        ∙ filter_both own (is_other key) held (other_key key key_differs)

    -- a packet of another class leaves it as it is
    not_of_it : 0 < rules.items → nat_eq (rules.class_of packet.key) class ≡ false →
        (filter own (metered rules held packet).held ≡ filter own held) × (of (metered rules held packet).ended ≡ [])
    not_of_it some differ =
        metered_by rules held packet (λ m. (filter own m.held ≡ filter own held) × (of m.ended ≡ [])) some
        (λ flow flows at is. (others_left (grown flow packet) packet.key (flow_differs flow flows at) differ, refl))
        (λ flow flows at is. (
          others_left (begun packet) packet.key differ differ,
          filter_dropped (λ (e : Ended). is_in rules class e.flow) (made_way rules.times false flow packet) []
              (flow_differs flow flows at),
        ))
        (λ at room. (filter_dropped own (begun packet) held differ, refl))
        (λ flow flows at class_is full.
        let choice = chosen rules held (rules.class_of packet.key) flow flows class_is in
        let out : nat_eq (rules.class_of (soonest rules.times flow flows).key) class ≡ false =
        ap (λ (c : ℕ). nat_eq c class) choice.1 ∙ differ in (
          others_left (begun packet) (soonest rules.times flow flows).key differ out,
          filter_dropped (λ (e : Ended). is_in rules class e.flow)
              (made_way rules.times true (soonest rules.times flow flows) packet) [] out,
        ))
      where
        flow_differs : (flow : Flow) (flows : List Flow) → filter (is_at packet.key) held ≡ flow ∷ flows →
            own flow ≡ false
        flow_differs flow flows at =
            let within : In flow (filter (is_at packet.key) held) =
            subst (λ (l : List Flow). In flow l) (sym at) (inl refl) in
            ap (λ (k : Key). nat_eq (rules.class_of k) class)
            (sym (key_is packet.key flow.key (in_filter (is_at packet.key) held flow within).1)) ∙ differ

  -- what ends of the class is what ends of its own packets
  apart : 0 < rules.items → (held : List Flow) (events : List Event) →
      of (ended_in rules held events) ≡ ended_in rules (filter own held) (in_class rules class events)
  apart some held [] = of_map held
  apart some held (Takes packet ∷ events) =
      let a = metered rules held packet in
      let rest : List Event = in_class rules class events in
      filter-append (λ (e : Ended). is_in rules class e.flow) a.ended (ended_in rules a.held events)
      ∙ ap (λ (l : List Ended). of a.ended ++ l) (apart some a.held events)
      ∙ elim (cases_Bool (nat_eq (rules.class_of packet.key) class)) [
        | inl is ↦
            let b = metered rules (filter own held) packet in
            let same = of_it held packet (eqb-true _ _ is) in
            ap (λ (l : List Ended). l ++ ended_in rules (filter own a.held) rest) same.ended
            ∙ ap (λ (l : List Flow). b.ended ++ ended_in rules l rest) same.state
            ∙ ap (ended_in rules (filter own held)) (sym (cond-true _ (Takes packet ∷ rest) rest is))
        | inr differ ↦
            let none = not_of_it held packet some differ in
            ap (λ (l : List Ended). l ++ ended_in rules (filter own a.held) rest) none.1
            ∙ ap (λ (l : List Flow). ended_in rules l rest) none.0
            ∙ ap (ended_in rules (filter own held)) (sym (cond-false _ (Takes packet ∷ rest) rest differ))
      ]
  apart some held (Passes now ∷ events) =
      let past : Flow → Bool = is_past rules.times now in
      let live : Flow → Bool = is_live rules.times now in
      let rest : List Event = in_class rules class events in
      filter-append (λ (e : Ended). is_in rules class e.flow) (map with_time (filter past held))
      (ended_in rules (filter live held) events)
      ∙ ap (λ (l : List Ended). l ++ of (ended_in rules (filter live held) events))
      (of_map (filter past held) ∙ ap (map with_time) (filter_swap own past held))
      ∙ ap (λ (l : List Ended). map with_time (filter past (filter own held)) ++ l)
      (apart some (filter live held) events
      ∙ ap (λ (l : List Flow). ended_in rules l rest) (filter_swap own live held))

pub classes_are_apart : ClassesAreApart
classes_are_apart rules class events some = apart rules class some [] events
