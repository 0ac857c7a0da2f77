-- Passes do not matter to any key, with full classes or without.
use Rattle.std.proofs.Common.{◌≡◌, ◌<◌, Bool, not, List, [], ◌∷◌, ◌++◌, map, filter, inl, inr, refl, sym, ap, ◌∙◌, arith, append_assoc}
use Rattle.std.proofs.lemmas.Bool.{cases_Bool, not-true, not_from_true, not_from_false}
use Rattle.std.proofs.lemmas.List.Elements.{filter-append}
use Rattle.plain_map.specs.declared.keys.Key.{Key}
use Rattle.list_laws.proofs.Lists.{in_filter}
use Rattle.map_laws.proofs.ByKeyLists.{filter_dropped, filter_kept, filter_swap}
use Rattle.flow_times.specs.Moments.{Moment, IsFrom}
use Rattle.flow_times.specs.Flows.{Use, Flow}
use Rattle.flow_times.specs.Passes.{Event, AreFrom, moment_of, takes_in}
use Rattle.flow_times.specs.Passes.Event.{Takes, Passes}
use Rattle.flow_times.specs.Metered.{Ended, Rules, PassesDoNotMatter, ended_in, is_at, is_live, is_past, metered, of_key, same_key, with_time}
use Rattle.flow_times.proofs.Filters.{filter_both, filter_none}
use Rattle.flow_times.proofs.Meters.{AreApart, Fits, apart_filter, few_filter, fits_metered, one_or_none}
use Rattle.flow_times.proofs.Steps.{agrees, key_map}
use Rattle.flow_times.proofs.Tests.{live_before, past_later}

-- ---- what is held, in two parts

-- what passes a test and what does not are all, of each key
pub parted : (test : Flow → Bool) (held : List Flow) (key : Key) → AreApart held →
    map with_time (filter (is_at key) (filter test held))
    ++ map with_time (filter (is_at key) (filter (λ flow. not (test flow)) held))
    ≡ map with_time (filter (is_at key) held)
parted test held key apart = elim (one_or_none held key apart) [
  | inl none ↦
      both [] (filter_swap (is_at key) test held ∙ ap (filter test) none)
      [] (filter_swap (is_at key) fails held ∙ ap (filter fails) none)
      ∙ ap (map with_time) (sym none)
  | inr (flow, at) ↦ elim (cases_Bool (test flow)) [
    | inl is ↦
        both (flow ∷ []) (filter_swap (is_at key) test held ∙ ap (filter test) at ∙ filter_kept test flow [] is)
        [] (filter_swap (is_at key) fails held ∙ ap (filter fails) at
        ∙ filter_dropped fails flow [] (not_from_true (test flow) is))
        ∙ ap (map with_time) (sym at)
    | inr is ↦
        both [] (filter_swap (is_at key) test held ∙ ap (filter test) at ∙ filter_dropped test flow [] is)
        (flow ∷ []) (filter_swap (is_at key) fails held ∙ ap (filter fails) at
        ∙ filter_kept fails flow [] (not_from_false (test flow) is))
        ∙ ap (map with_time) (sym at)
  ]
]
  where
    fails : Flow → Bool
    fails = λ flow. not (test flow)

    both : (xs : List Flow) → filter (is_at key) (filter test held) ≡ xs → (ys : List Flow) →
        filter (is_at key) (filter fails held) ≡ ys →
        map with_time (filter (is_at key) (filter test held)) ++ map with_time (filter (is_at key) (filter fails held))
        ≡ map with_time xs ++ map with_time ys
    both xs p ys q =
        ap (λ (l : List Flow). map with_time l ++ map with_time (filter (is_at key) (filter fails held))) p
        ∙ ap (λ (l : List Flow). map with_time xs ++ map with_time l) q

module _ (rules : Rules) where
  -- what is past at a moment, and what is left then
  abbrev past : Moment → List Flow → List Flow
  past now held = filter (is_past rules.times now) held

  abbrev left : Moment → List Flow → List Flow
  left now held = filter (is_live rules.times now) held

  -- the records of what is past at a moment, of a key
  abbrev gone : Key → Moment → List Flow → List Ended
  gone key now held = map with_time (filter (is_at key) (past now held))

  -- and of all that ends
  abbrev told : Key → List Flow → List Event → List Ended
  told key held events = of_key key (ended_in rules held events)

  -- what is left is kept as all is
  pub fits_left : (test : Flow → Bool) (held : List Flow) → Fits rules held → Fits rules (filter test held)
  fits_left test held fits = record {
    apart = apart_filter test held fits.apart;
    few = few_filter rules test held fits.few;
  }

  -- what is past later was past before or is past then of what was left
  gone_later : (key : Key) (now later : Moment) (held : List Flow) → AreApart held → IsFrom now later →
      gone key later held ≡ gone key now held ++ gone key later (left now held)
  gone_later key now later held apart from =
      sym (parted (is_past rules.times now) (past later held) key
      (apart_filter (is_past rules.times later) held apart))
      ∙ ap (λ (l : List Flow). map with_time (filter (is_at key) l)
      ++ map with_time (filter (is_at key) (left now (past later held))))
      (filter_both (is_past rules.times now) (is_past rules.times later) held
      (λ x is. past_later rules.times now later x from is))
      ∙ ap (λ (l : List Flow). gone key now held ++ map with_time (filter (is_at key) l))
      (filter_swap (is_live rules.times now) (is_past rules.times later) held)

  -- and what is left later is left of what was left
  left_later : (now later : Moment) (held : List Flow) → IsFrom now later → left later (left now held) ≡ left later held
  left_later now later held from =
      filter_both (is_live rules.times later) (is_live rules.times now) held
      (λ x is. live_before rules.times now later x from is)

  -- ---- all events

  -- of each key the same ends, whether what is past at a moment was taken out then or not
  abbrev pub Swept : Moment → List Event → Type 0
  Swept now events = (held : List Flow) → Fits rules held → (key : Key) →
      told key held events ≡ gone key now held ++ told key (left now held) events

  -- where it is so at the moment of the first event, it is so before
  from_later : (now : Moment) (event : Event) (events : List Event) → IsFrom now (moment_of event) →
      ((held : List Flow) → Fits rules held → (key : Key) →
      told key held (event ∷ events)
      ≡ gone key (moment_of event) held ++ told key (left (moment_of event) held) (event ∷ events)) →
      (held : List Flow) → Fits rules held → (key : Key) →
      told key held (event ∷ events) ≡ gone key now held ++ told key (left now held) (event ∷ events)
  from_later now event events from here held fits key =
      let later = moment_of event in
      let rest : List Ended = told key (left later held) (event ∷ events) in
      here held fits key
      ∙ ap (λ (l : List Ended). l ++ rest) (gone_later key now later held fits.apart from)
      ∙ append_assoc (gone key now held) (gone key later (left now held)) rest
      ∙ ap (λ (l : List Flow). gone key now held ++ (gone key later (left now held) ++ told key l (event ∷ events)))
      (sym (left_later now later held from))
      ∙ ap (λ (l : List Ended). gone key now held ++ l)
      (sym (here (left now held) (fits_left (is_live rules.times now) held fits) key))

  -- at a packet, where it is so behind it
  at_packet : 0 < rules.items → (packet : Use) (events : List Event) → Swept packet.moment events →
      (held : List Flow) → Fits rules held → (key : Key) →
      told key held (Takes packet ∷ events)
      ≡ gone key packet.moment held ++ told key (left packet.moment held) (Takes packet ∷ events)
  at_packet some packet events behind held fits key =
      let a = metered rules held packet in
      let b = metered rules (left packet.moment held) packet in
      let same = agrees rules held packet fits some in
      let rest : List Ended = told key (left packet.moment a.held) events in
      filter-append (λ (e : Ended). same_key key e.flow.key) a.ended (ended_in rules a.held events)
      ∙ ap (λ (l : List Ended). of_key key a.ended ++ l)
      (behind a.held (fits_metered rules held packet some fits) key)
      ∙ sym (append_assoc (of_key key a.ended) (gone key packet.moment a.held) rest)
      ∙ ap (λ (l : List Ended). l ++ rest) (same.ended key)
      ∙ append_assoc (gone key packet.moment held) (of_key key b.ended) rest
      ∙ ap (λ (l : List Flow). gone key packet.moment held ++ (of_key key b.ended ++ told key l events)) same.state
      ∙ ap (λ (l : List Ended). gone key packet.moment held ++ l)
      (sym (filter-append (λ (e : Ended). same_key key e.flow.key) b.ended (ended_in rules b.held events)))

  -- at a pass all that is past is told, and what is left has nothing more
  pub told_pass : (later : Moment) (events : List Event) (held : List Flow) (key : Key) →
      told key held (Passes later ∷ events) ≡ gone key later held ++ told key (left later held) events
  told_pass later events held key =
      filter-append (λ (e : Ended). same_key key e.flow.key) (map with_time (past later held))
      (ended_in rules (left later held) events)
      ∙ ap (λ (l : List Ended). l ++ told key (left later held) events) (key_map key (past later held))

  at_pass : (later : Moment) (events : List Event) (held : List Flow) → Fits rules held → (key : Key) →
      told key held (Passes later ∷ events)
      ≡ gone key later held ++ told key (left later held) (Passes later ∷ events)
  at_pass later events held fits key =
      let none : past later (left later held) ≡ [] =
      filter_none (is_past rules.times later) (left later held)
      (λ x within. not-true (is_past rules.times later x)
      (in_filter (is_live rules.times later) held x within).1) in
      told_pass later events held key
      ∙ ap (λ (l : List Ended). gone key later held ++ l)
      (sym (told_pass later events (left later held) key
      ∙ ap (λ (l : List Flow). map with_time (filter (is_at key) l) ++ told key (left later (left later held)) events)
      none
      ∙ ap (λ (l : List Flow). told key l events)
      (filter_both (is_live rules.times later) (is_live rules.times later) held (λ x is. is))))

  pub swept : 0 < rules.items → (now : Moment) (events : List Event) → AreFrom now events → Swept now events
  swept some now [] from held fits key =
      key_map key held ∙ sym (parted (is_past rules.times now) held key fits.apart)
      ∙ ap (λ (l : List Ended). gone key now held ++ l) (sym (key_map key (left now held)))
  swept some now (Takes packet ∷ events) from held fits key =
      from_later now (Takes packet) events from.0
      (at_packet some packet events (swept some packet.moment events from.1)) held fits key
  swept some now (Passes later ∷ events) from held fits key =
      from_later now (Passes later) events from.0 (at_pass later events) held fits key

  -- so passes may be left out
  pub kept : 0 < rules.items → (now : Moment) (events : List Event) → AreFrom now events → (held : List Flow) →
      Fits rules held → (key : Key) → told key held events ≡ told key held (takes_in events)
  kept some now [] from held fits key = refl
  kept some now (Takes packet ∷ events) from held fits key =
      let a = metered rules held packet in
      filter-append (λ (e : Ended). same_key key e.flow.key) a.ended (ended_in rules a.held events)
      ∙ ap (λ (l : List Ended). of_key key a.ended ++ l)
      (kept some packet.moment events from.1 a.held (fits_metered rules held packet some fits) key)
      ∙ sym (filter-append (λ (e : Ended). same_key key e.flow.key) a.ended (ended_in rules a.held (takes_in events)))
  kept some now (Passes later ∷ events) from held fits key =
      told_pass later events held key
      ∙ sym (swept some later events from.1 held fits key)
      ∙ kept some later events from.1 held fits key

-- where nothing is held all is kept
pub fits_none : (rules : Rules) → Fits rules []
fits_none rules = record { apart = λ flow within. elim within [ ]; few = λ class. omega arith }

pub passes_do_not_matter : PassesDoNotMatter
passes_do_not_matter rules now events some from key = kept rules some now events from [] (fits_none rules) key
