-- Keys are metered apart, where no flow makes way for want of room.
use Rattle.std.proofs.Common.{◌≡◌, ◌⊎◌, ◌<◌, Bool, true, false, List, [], ◌∷◌, ◌++◌, map, filter, Some, None, inl, inr, refl, sym, ap, ◌∙◌, subst, arith}
use Rattle.std.proofs.lemmas.Bool.{cases_Bool, cond-true, cond-false, not_from_true, not_from_false, false_from_ne_true}
use Rattle.std.proofs.lemmas.List.Elements.{filter-append}
use Rattle.plain_map.specs.declared.keys.Key.{Key}
use Rattle.list_laws.proofs.Lists.{In, in_filter, in_left, in_right}
use Rattle.list_laws.proofs.Truths.{not_both}
use Rattle.map_laws.proofs.ByKeyLists.{filter_dropped, filter_kept, filter_swap}
use Rattle.flow_times.specs.Moments.{Moment, IsFrom}
use Rattle.flow_times.specs.Flows.{Use, Flow, begun, grown}
use Rattle.flow_times.specs.Passes.{Event, AreFrom, moment_of}
use Rattle.flow_times.specs.Passes.Event.{Takes, Passes}
use Rattle.flow_times.specs.Metered.{Ended, Metered, Rules, KeysAreApart, at_key, ended_in, is_at, is_by_room, is_live, is_other, is_past, made_way, metered, of_key, same_key, soonest, with_time}
use Rattle.flow_times.proofs.Filters.{filter_both, none_in}
use Rattle.flow_times.proofs.Meters.{Fits, chosen, fits_metered, metered_begins, metered_by, metered_ends, metered_takes, none_left, none_of, only, with_new}
use Rattle.flow_times.proofs.Steps.{key_map, key_no, key_one, way_past}
use Rattle.flow_times.proofs.Sweeps.{fits_left, fits_none, swept, told_pass}
use Rattle.flow_times.proofs.Tests.{key_is, key_own}

-- moments of fewer events do not go back
pub from_before : (one other : Moment) (event : Moment) → IsFrom one other → IsFrom other event → IsFrom one event
from_before one other event (inl p) (inl q) = inl (omega (arith, p, q))
from_before one other event (inl p) (inr q) = (let e = q.0 in inl (omega (arith, p, e)))
from_before one other event (inr p) (inl q) = (let e = p.0 in inl (omega (arith, e, q)))
from_before one other event (inr p) (inr q) =
    (let a = p.0 in let b = q.0 in let c = p.1 in let d = q.1 in inr (omega (arith, a, b), omega (arith, c, d)))

from_sooner : (one other : Moment) (events : List Event) → IsFrom one other → AreFrom other events → AreFrom one events
from_sooner one other [] from rest = tt
from_sooner one other (event ∷ events) from rest = (from_before one other (moment_of event) from rest.0, rest.1)

-- so it is of those of a key
from_key : (key : Key) (now : Moment) (events : List Event) → AreFrom now events → AreFrom now (at_key key events)
from_key key now [] from = tt
from_key key now (Takes packet ∷ events) from = elim (cases_Bool (same_key key packet.key)) [
  | inl is ↦
      subst (AreFrom now) (sym (cond-true _ (Takes packet ∷ at_key key events) (at_key key events) is))
      (from.0, from_key key packet.moment events from.1)
  | inr differ ↦
      subst (AreFrom now) (sym (cond-false _ (Takes packet ∷ at_key key events) (at_key key events) differ))
      (from_sooner now packet.moment (at_key key events) from.0 (from_key key packet.moment events from.1))
]
from_key key now (Passes later ∷ events) from = (from.0, from_key key later events from.1)

-- ---- a packet of the key

-- what is held of a key, and of nothing else
abbrev of_it : Key → List Flow → List Flow
of_it key held = filter (is_at key) held

module _ (rules : Rules) (held : List Flow) (packet : Use) (fits : Fits rules held) (some : 0 < rules.items) where
  -- what a packet makes of its own key's flow alone
  abbrev alone : Metered
  alone = metered rules (of_it packet.key held) packet

  -- is what it makes of that flow among all
  abbrev Same : Metered → Type 0
  Same m = (of_it packet.key m.held ≡ alone.held) × (of_key packet.key m.ended ≡ of_key packet.key alone.ended)

  key_alone : of_it packet.key (of_it packet.key held) ≡ of_it packet.key held
  key_alone = filter_both (is_at packet.key) (is_at packet.key) held (λ x is. is)

  -- a flow of it that takes the place of another one
  placed : (new : Flow) (ended : List Ended) → packet.key ≡ new.key →
      alone ≡ with_new new (filter (is_other packet.key) (of_it packet.key held)) ended →
      Same (with_new new (filter (is_other packet.key) held) ended)
  placed new ended own is = (
    filter_kept (is_at packet.key) new (filter (is_other packet.key) held)
        (ap (same_key packet.key) (sym own) ∙ key_own packet.key)
        ∙ ap (λ (l : List Flow). new ∷ l) (filter_swap (is_at packet.key) (is_other packet.key) held)
        ∙ ap (λ (m : Metered). m.held) (sym is),
    ap (λ (m : Metered). of_key packet.key m.ended) (sym is),
  )

  -- where it has none, it begins one
  begun_alone : of_it packet.key held ≡ [] → alone ≡ with_new (begun packet) [] []
  begun_alone none =
      ap (λ (l : List Flow). metered rules l packet) none ∙ metered_begins rules [] packet refl some

  own_step : Same (metered rules held packet)
  own_step =
      metered_by rules held packet Same some
      (λ flow flows at is. placed (grown flow packet) [] (only held packet.key flow flows fits.apart at).1
      (metered_takes rules (of_it packet.key held) packet flow flows (key_alone ∙ at) is))
      (λ flow flows at is. placed (begun packet) (made_way rules.times false flow packet ∷ []) refl
      (metered_ends rules (of_it packet.key held) packet flow flows (key_alone ∙ at) is))
      (λ none room. (
        filter_kept (is_at packet.key) (begun packet) held (key_own packet.key)
            ∙ ap (λ (l : List Flow). begun packet ∷ l) none
            ∙ ap (λ (m : Metered). m.held) (sym (begun_alone none)),
        ap (λ (m : Metered). of_key packet.key m.ended) (sym (begun_alone none)),
      ))
      (λ flow flows none class full.
      let out : Flow = soonest rules.times flow flows in
      let choice = chosen rules held (rules.class_of packet.key) flow flows class in (
        filter_kept (is_at packet.key) (begun packet) (filter (is_other out.key) held) (key_own packet.key)
            ∙ ap (λ (l : List Flow). begun packet ∷ l) (none_of packet.key (is_other out.key) held none)
            ∙ ap (λ (m : Metered). m.held) (sym (begun_alone none)),
        key_no packet.key (made_way rules.times true out packet) (none_in (is_at packet.key) held out none choice.0)
            ∙ ap (λ (m : Metered). of_key packet.key m.ended) (sym (begun_alone none)),
      ))

  -- ---- a packet of another key

  -- the key has what it had; or its flow was past, and made way
  record Leaves (key : Key) (m : Metered) : Type 0 where
    held_is : (of_it key m.held ≡ of_it key held) × (of_key key m.ended ≡ [])

  record Makes (key : Key) (m : Metered) : Type 0 where
    out : Flow
    was : of_it key held ≡ out ∷ []
    past : is_past rules.times packet.moment out ≡ true
    none : of_it key m.held ≡ []
    ended : of_key key m.ended ≡ with_time out ∷ []

  abbrev Either : Key → Metered → Type 0
  Either key m = ((ended : Ended) → In ended m.ended → is_by_room ended.by ≡ false) → Leaves key m ⊎ Makes key m

  -- a flow of another key that takes a place
  leaves : (key : Key) (new : Flow) (gone : Key) (ended : List Ended) → same_key key new.key ≡ false →
      same_key key gone ≡ false → of_key key ended ≡ [] →
      Leaves key (with_new new (filter (is_other gone) held) ended)
  leaves key new gone ended differ gone_differs none = record {
    held_is = (
      filter_dropped (is_at key) new (filter (is_other gone) held) differ
          ∙ filter_both (is_at key) (is_other gone) held
          (λ x is. not_from_false (same_key gone x.key)
          (false_from_ne_true (same_key gone x.key)
          (λ same. not_both (same_key key gone)
          (ap (λ (k : Key). same_key k gone) (key_is key x.key is ∙ sym (key_is gone x.key same)) ∙ key_own gone)
          gone_differs))),
      none,
    );
  }

  -- what makes way, and not for want of room, is past
  made_past : (out : Flow) → is_by_room (made_way rules.times true out packet).by ≡ false →
      is_past rules.times packet.moment out ≡ true
  made_past out fails = go (is_past rules.times packet.moment out) refl
    where
      go : (b : Bool) → is_past rules.times packet.moment out ≡ b → is_past rules.times packet.moment out ≡ true
      go true is = is
      go false is =
          absurd (not_both (is_by_room (made_way rules.times true out packet).by)
          (ap is_by_room (cond-false (is_past rules.times packet.moment out) None
          (Some (record { number = packet.number; clock = packet.moment.clock; is_room = true })) is)) fails)

  other_step : (key : Key) → same_key key packet.key ≡ false → Either key (metered rules held packet)
  other_step key differ =
      metered_by rules held packet (Either key) some
      (λ flow flows at is no_room.
      inl (leaves key (grown flow packet) packet.key []
      (ap (same_key key) (sym (only held packet.key flow flows fits.apart at).1) ∙ differ) differ refl))
      (λ flow flows at is no_room.
      inl (leaves key (begun packet) packet.key (made_way rules.times false flow packet ∷ []) differ differ
      (key_no key (made_way rules.times false flow packet)
      (ap (same_key key) (sym (only held packet.key flow flows fits.apart at).1) ∙ differ))))
      (λ none room no_room. inl (record { held_is = (filter_dropped (is_at key) (begun packet) held differ, refl) }))
      (λ flow flows none class full no_room.
      let out : Flow = soonest rules.times flow flows in
      let one : Ended = made_way rules.times true out packet in
      let choice = chosen rules held (rules.class_of packet.key) flow flows class in
      elim (cases_Bool (same_key key out.key)) [
        | inl is ↦
            let same : key ≡ out.key = key_is key out.key is in
            let past = made_past out (no_room one (inl refl)) in
            inr (record {
              out = out;
              was = ap (λ (k : Key). of_it k held) same ∙ fits.apart out choice.0;
              past = past;
              none = filter_dropped (is_at key) (begun packet) (filter (is_other out.key) held) differ
                  ∙ ap (λ (k : Key). of_it k (filter (is_other out.key) held)) same ∙ none_left out.key held;
              ended = key_one key one is
                  ∙ ap (λ (e : Ended). e ∷ []) (way_past rules.times true out packet past);
            })
        | inr not_out ↦
            inl (leaves key (begun packet) out.key (one ∷ []) differ not_out (key_no key one not_out))
      ])

-- ---- all events

module _ (rules : Rules) (key : Key) (some : 0 < rules.items) where
  abbrev told : List Flow → List Event → List Ended
  told held events = of_key key (ended_in rules held events)

  told_packet : (held : List Flow) (packet : Use) (events : List Event) →
      told held (Takes packet ∷ events)
      ≡ of_key key (metered rules held packet).ended ++ told (metered rules held packet).held events
  told_packet held packet events =
      filter-append (λ (e : Ended). same_key key e.flow.key) (metered rules held packet).ended
      (ended_in rules (metered rules held packet).held events)

  abbrev NoRoom : List Flow → List Event → Type 0
  NoRoom held events = (ended : Ended) → In ended (ended_in rules held events) → is_by_room ended.by ≡ false

  -- at a packet of the key
  at_own : (held : List Flow) (packet : Use) (events : List Event) → Fits rules held → key ≡ packet.key →
      told (metered rules held packet).held events
      ≡ told (of_it key (metered rules held packet).held) (at_key key events) →
      told held (Takes packet ∷ events) ≡ told (of_it key held) (Takes packet ∷ at_key key events)
  at_own held packet events fits is behind =
      let whole = metered rules held packet in
      let part = metered rules (of_it key held) packet in
      let rest : List Event = at_key key events in
      let mine : (of_it key whole.held ≡ part.held) × (of_key key whole.ended ≡ of_key key part.ended) =
      subst (λ (k : Key). (of_it k whole.held ≡ (metered rules (of_it k held) packet).held)
      × (of_key k whole.ended ≡ of_key k (metered rules (of_it k held) packet).ended)) (sym is)
      (own_step rules held packet fits some) in
      told_packet held packet events
      ∙ ap (λ (l : List Ended). of_key key whole.ended ++ l) behind
      ∙ ap (λ (l : List Ended). l ++ told (of_it key whole.held) rest) mine.1
      ∙ ap (λ (h : List Flow). of_key key part.ended ++ told h rest) mine.0
      ∙ sym (told_packet (of_it key held) packet rest)

  -- a flow that is past alone, with what follows
  alone_past : (now : Moment) (events : List Event) → AreFrom now events → (held : List Flow) → Fits rules held →
      (out : Flow) → of_it key held ≡ out ∷ [] → is_past rules.times now out ≡ true →
      with_time out ∷ told [] events ≡ told (of_it key held) events
  alone_past now events from held fits out was past =
      let within : In out (of_it key held) = subst (λ (l : List Flow). In out l) (sym was) (inl refl) in
      let own : same_key key out.key ≡ true = (in_filter (is_at key) held out within).1 in
      let gone : filter (is_past rules.times now) (of_it key held) ≡ out ∷ [] =
      ap (filter (is_past rules.times now)) was ∙ filter_kept (is_past rules.times now) out [] past in
      let left : filter (is_live rules.times now) (of_it key held) ≡ [] =
      ap (filter (is_live rules.times now)) was
      ∙ filter_dropped (is_live rules.times now) out [] (not_from_true (is_past rules.times now out) past) in
      sym (swept rules some now events from (of_it key held) (fits_left rules (is_at key) held fits) key
      ∙ ap (λ (l : List Flow). map with_time (filter (is_at key) l)
      ++ told (filter (is_live rules.times now) (of_it key held)) events) gone
      ∙ ap (λ (l : List Flow). map with_time l ++ told (filter (is_live rules.times now) (of_it key held)) events)
      (filter_kept (is_at key) out [] own)
      ∙ ap (λ (l : List Flow). with_time out ∷ told l events) left)

  -- at a packet of another key
  at_other : (held : List Flow) (packet : Use) (events : List Event) → Fits rules held →
      same_key key packet.key ≡ false → AreFrom packet.moment events → NoRoom held (Takes packet ∷ events) →
      told (metered rules held packet).held events
      ≡ told (of_it key (metered rules held packet).held) (at_key key events) →
      told held (Takes packet ∷ events) ≡ told (of_it key held) (at_key key events)
  at_other held packet events fits differ from no_room behind =
      let whole = metered rules held packet in
      let rest : List Event = at_key key events in
      told_packet held packet events
      ∙ ap (λ (l : List Ended). of_key key whole.ended ++ l) behind
      ∙ elim (other_step rules held packet fits some key differ
      (λ e within. no_room e (in_left e whole.ended (ended_in rules whole.held events) within))) [
        | inl same ↦
            ap (λ (l : List Ended). l ++ told (of_it key whole.held) rest) same.held_is.1
            ∙ ap (λ (h : List Flow). told h rest) same.held_is.0
        | inr makes ↦
            ap (λ (l : List Ended). l ++ told (of_it key whole.held) rest) makes.ended
            ∙ ap (λ (h : List Flow). with_time makes.out ∷ told h rest) makes.none
            ∙ alone_past packet.moment rest (from_key key packet.moment events from) held fits makes.out makes.was
            makes.past
      ]

  -- at a pass
  at_pass : (later : Moment) (held : List Flow) (events : List Event) →
      told (filter (is_live rules.times later) held) events
      ≡ told (of_it key (filter (is_live rules.times later) held)) (at_key key events) →
      told held (Passes later ∷ events) ≡ told (of_it key held) (Passes later ∷ at_key key events)
  at_pass later held events behind =
      let past : Flow → Bool = is_past rules.times later in
      let live : Flow → Bool = is_live rules.times later in
      let rest : List Event = at_key key events in
      told_pass rules later events held key
      ∙ ap (λ (l : List Ended). map with_time (filter (is_at key) (filter past held)) ++ l) behind
      ∙ ap (λ (l : List Flow). map with_time l ++ told (of_it key (filter live held)) rest)
      (sym (ap (filter (is_at key)) (filter_swap past (is_at key) held)
      ∙ filter_both (is_at key) (is_at key) (filter past held) (λ x is. is)))
      ∙ ap (λ (l : List Flow). map with_time (filter (is_at key) (filter past (of_it key held))) ++ told l rest)
      (filter_swap (is_at key) live held)
      ∙ sym (told_pass rules later rest (of_it key held) key)

  pub parted_by_key : (now : Moment) (events : List Event) → AreFrom now events → (held : List Flow) →
      Fits rules held → NoRoom held events → told held events ≡ told (of_it key held) (at_key key events)
  parted_by_key now [] from held fits no_room =
      key_map key held ∙ ap (map with_time) (sym (filter_both (is_at key) (is_at key) held (λ x is. is)))
      ∙ sym (key_map key (of_it key held))
  parted_by_key now (Takes packet ∷ events) from held fits no_room =
      let whole = metered rules held packet in
      let rest : List Event = at_key key events in
      let behind = parted_by_key packet.moment events from.1 whole.held (fits_metered rules held packet some fits)
      (λ e within. no_room e (in_right e whole.ended (ended_in rules whole.held events) within)) in
      elim (cases_Bool (same_key key packet.key)) [
        | inl is ↦
            at_own held packet events fits (key_is key packet.key is) behind
            ∙ ap (told (of_it key held)) (sym (cond-true _ (Takes packet ∷ rest) rest is))
        | inr differ ↦
            at_other held packet events fits differ from.1 no_room behind
            ∙ ap (told (of_it key held)) (sym (cond-false _ (Takes packet ∷ rest) rest differ))
      ]
  parted_by_key now (Passes later ∷ events) from held fits no_room =
      let past : List Ended = map with_time (filter (is_past rules.times later) held) in
      let left : List Flow = filter (is_live rules.times later) held in
      at_pass later held events
      (parted_by_key later events from.1 left (fits_left rules (is_live rules.times later) held fits)
      (λ e within. no_room e (in_right e past (ended_in rules left events) within)))

pub keys_are_apart : KeysAreApart
keys_are_apart rules now key events some from no_room =
    parted_by_key rules key some now events from [] (fits_none rules) no_room
