-- One packet, and what is past at its moment: whether that was taken out before it does not matter.
use Rattle.std.proofs.Common.{◌≡◌, ◌≤◌, ◌<◌, ℕ, Bool, true, false, List, [], ◌∷◌, ◌++◌, length, map, filter, Option, None, Some, inl, inr, refl, sym, ap, ◌∙◌, subst, arith, append-nil}
use Rattle.std.proofs.lemmas.Bool.{cases_Bool, cond-true, not_from_true, not_from_false}
use Rattle.plain_map.specs.declared.keys.Key.{Key}
use Rattle.list_laws.proofs.Lists.{In, in_filter, filter_in}
use Rattle.list_laws.proofs.Truths.{not_both}
use Rattle.map_laws.proofs.ByKeyLists.{filter_dropped, filter_kept, filter_swap}
use Rattle.flow_times.specs.Moments.{Moment}
use Rattle.flow_times.specs.Flows.{Times, Use, Flow, begun, grown}
use Rattle.flow_times.specs.Metered.{Cause, Ended, Metered, Rules, is_at, is_in, is_live, is_other, is_past, made_way, metered, of_key, same_key, soonest, takes, with_time}
use Rattle.flow_times.proofs.Filters.{filter_all, filter_few}
use Rattle.flow_times.proofs.Meters.{Fits, chosen, metered_begins, metered_by, metered_ends, metered_full, metered_takes, none_left, none_of, only, room_left, with_new}
use Rattle.flow_times.proofs.Tests.{grown_live, key_is, new_live, soonest_live, taken_live}

-- ---- records of a key

-- what ends with its time, of a key
pub key_map : (key : Key) (flows : List Flow) →
    of_key key (map with_time flows) ≡ map with_time (filter (is_at key) flows)
key_map key [] = refl
key_map key (flow ∷ flows) = elim (cases_Bool (same_key key flow.key)) [
  | inl is ↦
      filter_kept (λ (e : Ended). same_key key e.flow.key) (with_time flow) (map with_time flows) is
      ∙ ap (λ (l : List Ended). with_time flow ∷ l) (key_map key flows)
      ∙ ap (map with_time) (sym (filter_kept (is_at key) flow flows is))
  | inr is ↦
      filter_dropped (λ (e : Ended). same_key key e.flow.key) (with_time flow) (map with_time flows) is
      ∙ key_map key flows ∙ ap (map with_time) (sym (filter_dropped (is_at key) flow flows is))
]

-- one record, of its key or not
pub key_one : (key : Key) (one : Ended) → same_key key one.flow.key ≡ true → of_key key (one ∷ []) ≡ one ∷ []
key_one key one is = filter_kept (λ (e : Ended). same_key key e.flow.key) one [] is

pub key_no : (key : Key) (one : Ended) → same_key key one.flow.key ≡ false → of_key key (one ∷ []) ≡ []
key_no key one is = filter_dropped (λ (e : Ended). same_key key e.flow.key) one [] is

-- ---- one flow that goes out of what is held

module _ (held : List Flow) (key : Key) (flow : Flow) (at : filter (is_at key) held ≡ flow ∷ []) (own : key ≡ flow.key)
  where
    -- where it does not pass a test, nothing that does goes with it
    pub without_one : (test : Flow → Bool) → test flow ≡ false →
        filter test (filter (is_other key) held) ≡ filter test held
    without_one test fails =
        filter_swap test (is_other key) held
        ∙ filter_all (is_other key) (filter test held)
        (λ x within. not_from_false (same_key key x.key) (differs x (in_filter test held x within)))
      where
        differs : (x : Flow) → In x held × (test x ≡ true) → same_key key x.key ≡ false
        differs x parts = elim (cases_Bool (same_key key x.key)) [
          | inl is ↦
              let within : In x (flow ∷ []) = subst (λ (l : List Flow). In x l) at
              (filter_in (is_at key) held x parts.0 is) in
              absurd (elim within [
                | inl same ↦ not_both (test x) parts.1 (ap test same ∙ fails)
                | inr none ↦ elim none [ ]
              ])
          | inr other ↦ other
        ]

    -- of another key nothing goes
    pub other_key : (asked : Key) → same_key asked flow.key ≡ false →
        filter (is_at asked) (filter (is_other key) held) ≡ filter (is_at asked) held
    other_key asked differ = without_one (is_at asked) differ

    -- of its key nothing is left
    pub own_key : (asked : Key) → same_key asked flow.key ≡ true →
        filter (is_at asked) (filter (is_other key) held) ≡ []
    own_key asked is =
        ap (λ (k : Key). filter (is_at k) (filter (is_other key) held)) (key_is asked flow.key is ∙ sym own)
        ∙ none_left key held

    -- and it was all there was
    pub own_held : (asked : Key) → same_key asked flow.key ≡ true → filter (is_at asked) held ≡ flow ∷ []
    own_held asked is =
        ap (λ (k : Key). filter (is_at k) held) (key_is asked flow.key is ∙ sym own) ∙ at

    -- with its record all are there, of each key
    pub one_out : (asked : Key) →
        of_key asked (with_time flow ∷ []) ++ map with_time (filter (is_at asked) (filter (is_other key) held))
        ≡ map with_time (filter (is_at asked) held)
    one_out asked = elim (cases_Bool (same_key asked flow.key)) [
      | inl is ↦
          ap (λ (l : List Ended). l ++ map with_time (filter (is_at asked) (filter (is_other key) held)))
          (key_one asked (with_time flow) is)
          ∙ ap (λ (l : List Flow). with_time flow ∷ map with_time l) (own_key asked is)
          ∙ ap (map with_time) (sym (own_held asked is))
      | inr differ ↦
          ap (λ (l : List Ended). l ++ map with_time (filter (is_at asked) (filter (is_other key) held)))
          (key_no asked (with_time flow) differ)
          ∙ ap (map with_time) (other_key asked differ)
    ]

    -- where it does not pass a test, its record may stand before those that do
    pub one_before : (test : Flow → Bool) (by : Option Cause) → test flow ≡ false → (asked : Key) →
        of_key asked (record { flow = flow; by = by } ∷ [])
        ++ map with_time (filter (is_at asked) (filter test (filter (is_other key) held)))
        ≡ map with_time (filter (is_at asked) (filter test held)) ++ of_key asked (record { flow = flow; by = by } ∷ [])
    one_before test by fails asked =
        let one : Ended = record { flow = flow; by = by } in
        let rest : List Flow = filter test held in
        ap (λ (l : List Flow). of_key asked (one ∷ []) ++ map with_time (filter (is_at asked) l))
        (without_one test fails)
        ∙ elim (cases_Bool (same_key asked flow.key)) [
          | inl is ↦
              let none : filter (is_at asked) rest ≡ [] =
              filter_swap (is_at asked) test held ∙ ap (filter test) (own_held asked is)
              ∙ filter_dropped test flow [] fails in
              ap (λ (l : List Flow). of_key asked (one ∷ []) ++ map with_time l) none
              ∙ append-nil (of_key asked (one ∷ []))
              ∙ ap (λ (l : List Flow). map with_time l ++ of_key asked (one ∷ [])) (sym none)
          | inr differ ↦
              ap (λ (l : List Ended). l ++ map with_time (filter (is_at asked) rest)) (key_no asked one differ)
              ∙ sym (append-nil (map with_time (filter (is_at asked) rest)))
              ∙ ap (λ (l : List Ended). map with_time (filter (is_at asked) rest) ++ l) (sym (key_no asked one differ))
        ]

-- ---- a packet

-- what two states come to, of which one held more that was past: the same is held of what is live, and each key has the
-- same records, where what is past has ended
pub record Agrees (rules : Rules) (now : Moment) (held : List Flow) (whole apart : Metered) : Type 0 where
  pub state : filter (is_live rules.times now) whole.held ≡ apart.held
  pub ended : (key : Key) →
      of_key key whole.ended ++ map with_time (filter (is_at key) (filter (is_past rules.times now) whole.held))
      ≡ map with_time (filter (is_at key) (filter (is_past rules.times now) held)) ++ of_key key apart.ended

-- a flow that is past makes way with its time
pub way_past : (times : Times) (is_room : Bool) (flow : Flow) (packet : Use) →
    is_past times packet.moment flow ≡ true → made_way times is_room flow packet ≡ with_time flow
way_past times is_room flow packet past =
    ap (λ (b : Option Cause). by_cause b) (cond-true (is_past times packet.moment flow) None
    (Some (record { number = packet.number; clock = packet.moment.clock; is_room = is_room })) past)
  where
    by_cause : Option Cause → Ended
    by_cause b = record { flow = flow; by = b }

module _ (rules : Rules) (held : List Flow) (packet : Use) (fits : Fits rules held) where
  -- what is past at the packet, and what is not
  abbrev gone : Flow → Bool
  gone = is_past rules.times packet.moment

  abbrev live : Flow → Bool
  live = is_live rules.times packet.moment

  abbrev left : List Flow
  left = filter live held

  -- a new flow is live
  new_kept : (new : Flow) (rest : List Flow) → gone new ≡ false → filter live (new ∷ rest) ≡ new ∷ filter live rest
  new_kept new rest is = filter_kept live new rest (not_from_false (gone new) is)

  -- and not past
  new_dropped : (new : Flow) (rest : List Flow) → gone new ≡ false → filter gone (new ∷ rest) ≡ filter gone rest
  new_dropped new rest is = filter_dropped gone new rest is

  -- a flow goes out that is past: without what is past the packet's flow begins
  past_goes : (is_room : Bool) (key : Key) (flow : Flow) → filter (is_at key) held ≡ flow ∷ [] → key ≡ flow.key →
      gone flow ≡ true → rules.class_of flow.key ≡ rules.class_of packet.key → In flow held →
      filter (is_at packet.key) left ≡ [] →
      Agrees rules packet.moment held
      (with_new (begun packet) (filter (is_other key) held) (made_way rules.times is_room flow packet ∷ []))
      (metered rules left packet)
  past_goes is_room key flow at own past class within none =
      let new : gone (begun packet) ≡ false = new_live rules.times packet in
      let dead : live flow ≡ false = not_from_true (gone flow) past in
      let room : length (filter (is_in rules (rules.class_of packet.key)) left) < rules.items =
      subst (λ (c : ℕ). length (filter (is_in rules c) left) < rules.items) class
      (room_left rules live held flow fits.few within dead) in
      subst (Agrees rules packet.moment held
      (with_new (begun packet) (filter (is_other key) held) (made_way rules.times is_room flow packet ∷ [])))
      (sym (metered_begins rules left packet none room))
      (record {
        state = new_kept (begun packet) (filter (is_other key) held) new
            ∙ ap (λ (l : List Flow). begun packet ∷ l) (without_one held key flow at own live dead);
        ended = λ asked.
            let rest : List Flow = filter gone (filter (is_other key) held) in
            let here : filter (is_at key) (filter gone held) ≡ flow ∷ [] =
            filter_swap (is_at key) gone held ∙ ap (filter gone) at ∙ filter_kept gone flow [] past in
            ap (λ (e : Ended). of_key asked (e ∷ [])
            ++ map with_time (filter (is_at asked) (filter gone (begun packet ∷ filter (is_other key) held))))
            (way_past rules.times is_room flow packet past)
            ∙ ap (λ (l : List Flow). of_key asked (with_time flow ∷ []) ++ map with_time (filter (is_at asked) l))
            (new_dropped (begun packet) (filter (is_other key) held) new ∙ filter_swap gone (is_other key) held)
            ∙ one_out (filter gone held) key flow here own asked
            ∙ sym (append-nil (map with_time (filter (is_at asked) (filter gone held))));
      })

  -- a flow goes out that is live: it goes out without what is past too
  live_goes : (by : Option Cause) (key : Key) (flow : Flow) → filter (is_at key) held ≡ flow ∷ [] → key ≡ flow.key →
      gone flow ≡ false →
      metered rules left packet
      ≡ with_new (begun packet) (filter (is_other key) left) (record { flow = flow; by = by } ∷ []) →
      Agrees rules packet.moment held
      (with_new (begun packet) (filter (is_other key) held) (record { flow = flow; by = by } ∷ []))
      (metered rules left packet)
  live_goes by key flow at own fails is =
      let new : gone (begun packet) ≡ false = new_live rules.times packet in
      subst (Agrees rules packet.moment held
      (with_new (begun packet) (filter (is_other key) held) (record { flow = flow; by = by } ∷ []))) (sym is)
      (record {
        state = new_kept (begun packet) (filter (is_other key) held) new
            ∙ ap (λ (l : List Flow). begun packet ∷ l) (filter_swap live (is_other key) held);
        ended = λ asked.
            ap (λ (l : List Flow). of_key asked (record { flow = flow; by = by } ∷ [])
            ++ map with_time (filter (is_at asked) l)) (new_dropped (begun packet) (filter (is_other key) held) new)
            ∙ one_before held key flow at own gone by fails asked;
      })

  -- the packet belongs to its key's flow
  grows : (flow : Flow) (flows : List Flow) → filter (is_at packet.key) held ≡ flow ∷ flows →
      takes rules.times flow packet ≡ true →
      Agrees rules packet.moment held (with_new (grown flow packet) (filter (is_other packet.key) held) [])
      (metered rules left packet)
  grows flow flows all is =
      let one = only held packet.key flow flows fits.apart all in
      let here : gone flow ≡ false = taken_live rules.times flow packet is in
      let new : gone (grown flow packet) ≡ false = grown_live rules.times flow packet is in
      let at : filter (is_at packet.key) left ≡ flow ∷ [] =
      filter_swap (is_at packet.key) live held ∙ ap (filter live) one.2
      ∙ filter_kept live flow [] (not_from_false (gone flow) here) in
      subst (Agrees rules packet.moment held (with_new (grown flow packet) (filter (is_other packet.key) held) []))
      (sym (metered_takes rules left packet flow [] at is))
      (record {
        state = new_kept (grown flow packet) (filter (is_other packet.key) held) new
            ∙ ap (λ (l : List Flow). grown flow packet ∷ l) (filter_swap live (is_other packet.key) held);
        ended = λ asked.
            ap (λ (l : List Flow). map with_time (filter (is_at asked) l))
            (new_dropped (grown flow packet) (filter (is_other packet.key) held) new
            ∙ without_one held packet.key flow one.2 one.1 gone here)
            ∙ sym (append-nil (map with_time (filter (is_at asked) (filter gone held))));
      })

  -- it does not
  closes : (flow : Flow) (flows : List Flow) → filter (is_at packet.key) held ≡ flow ∷ flows →
      takes rules.times flow packet ≡ false →
      Agrees rules packet.moment held
      (with_new (begun packet) (filter (is_other packet.key) held) (made_way rules.times false flow packet ∷ []))
      (metered rules left packet)
  closes flow flows all is =
      let one = only held packet.key flow flows fits.apart all in
      elim (cases_Bool (gone flow)) [
        | inl past ↦
            past_goes false packet.key flow one.2 one.1 past (ap rules.class_of (sym one.1)) one.0
            (filter_swap (is_at packet.key) live held ∙ ap (filter live) one.2
            ∙ filter_dropped live flow [] (not_from_true (gone flow) past))
        | inr here ↦
            live_goes (made_way rules.times false flow packet).by packet.key flow one.2 one.1 here
            (metered_ends rules left packet flow []
            (filter_swap (is_at packet.key) live held ∙ ap (filter live) one.2
            ∙ filter_kept live flow [] (not_from_false (gone flow) here)) is)
      ]

  -- its key has no flow, and there is room
  begins : filter (is_at packet.key) held ≡ [] →
      length (filter (is_in rules (rules.class_of packet.key)) held) < rules.items →
      Agrees rules packet.moment held (with_new (begun packet) held []) (metered rules left packet)
  begins none room =
      let new : gone (begun packet) ≡ false = new_live rules.times packet in
      let class : ℕ = rules.class_of packet.key in
      let few : length (filter (is_in rules class) left) < rules.items =
      omega (
        arith,
        ap length (filter_swap (is_in rules class) live held),
        filter_few live (filter (is_in rules class) held),
        room,
      ) in
      subst (Agrees rules packet.moment held (with_new (begun packet) held []))
      (sym (metered_begins rules left packet (none_of packet.key live held none) few))
      (record {
        state = new_kept (begun packet) held new;
        ended = λ asked.
            ap (λ (l : List Flow). map with_time (filter (is_at asked) l)) (new_dropped (begun packet) held new)
            ∙ sym (append-nil (map with_time (filter (is_at asked) (filter gone held))));
      })

  -- or its class is full
  crowds : (flow : Flow) (flows : List Flow) → filter (is_at packet.key) held ≡ [] →
      filter (is_in rules (rules.class_of packet.key)) held ≡ flow ∷ flows → rules.items ≤ length (flow ∷ flows) →
      Agrees rules packet.moment held
      (with_new (begun packet) (filter (is_other (soonest rules.times flow flows).key) held)
      (made_way rules.times true (soonest rules.times flow flows) packet ∷ [])) (metered rules left packet)
  crowds flow flows none class full =
      let out : Flow = soonest rules.times flow flows in
      let choice = chosen rules held (rules.class_of packet.key) flow flows class in
      let at : filter (is_at out.key) held ≡ out ∷ [] = fits.apart out choice.0 in
      elim (cases_Bool (gone out)) [
        | inl past ↦
            past_goes true out.key out at refl past choice.1 choice.0 (none_of packet.key live held none)
        | inr here ↦
            live_goes (made_way rules.times true out packet).by out.key out at refl here
            (metered_full rules left packet flow flows (none_of packet.key live held none)
            (filter_swap (is_in rules (rules.class_of packet.key)) live held ∙ ap (filter live) class
            ∙ filter_all live (flow ∷ flows)
            (λ x within. not_from_false (gone x) (soonest_live rules.times packet.moment flow flows here x within)))
            full)
      ]

  -- in each case
  pub agrees : 0 < rules.items → Agrees rules packet.moment held (metered rules held packet) (metered rules left packet)
  agrees some =
      metered_by rules held packet (λ m. Agrees rules packet.moment held m (metered rules left packet)) some grows
      closes
      begins crowds
