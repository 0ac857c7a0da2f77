-- What is held where a flow is put to a place, where one is put in the place of another, and where one is taken out.
use Rattle.std.proofs.Common.{◌≡◌, ◌≢◌, ℕ, ◌+◌, ◌<◌, ◌≤◌, Bool, true, false, List, [], ◌∷◌, ◌++◌, length, filter, map, take, inl, inr, refl, sym, ap, ◌∙◌, subst, arith, Option, Some, None, not, set, slice_get}
use Rattle.std.proofs.lemmas.Bool.{cases_Bool, cases_eq, cases_lt}
use Rattle.std.proofs.lemmas.List.{length-set, get_or-set_same, get_or-set_other}
use Rattle.std.proofs.lemmas.Option.{slice_get-get_or, slice_get_past}
use Rattle.plain_map.specs.declared.keys.Key.{Key}
use Rattle.list_laws.proofs.Lists.{In, Once, in_filter, filter_in, in_left, in_both, in_map, map_in, once_middle, once_both}
use Rattle.list_laws.proofs.Options.{some_same, none_some}
use Rattle.list_laws.proofs.Truths.{not_both}
use Rattle.map_laws.proofs.ByKeyLists.{cons_same, filter_dropped, filter_kept, nil_cons}
use Rattle.flow_times.specs.Flows.{Flow, Side}
use Rattle.flow_times.specs.Metered.{is_at, is_other, same_key}
use Rattle.flow_times.proofs.Meters.{apart_cons, apart_filter, not_other}
use Rattle.flow_times.proofs.Tests.{key_own}
use Rattle.flow_meter.specs.declared.flow.FlowRecord.{FlowRecord}
use Rattle.flow_meter.specs.Held.{HasSent, Holds, IsUpTo, Puts, Slots, as_flow, flow_at, flow_in, free_in, places_in}

-- ---- lists

module _ {A B : Type 0} where
  -- the images that pass are the images of what passes
  pub filter_map : (f : B → Bool) (g : A → B) (xs : List A) →
      map g (filter (λ x. f (g x)) xs) ≡ filter f (map g xs)
  filter_map f g [] = refl
  filter_map f g (x ∷ xs) = elim (cases_Bool (f (g x))) [
    | inl passes ↦
        ap (map g) (filter_kept (λ (y : A). f (g y)) x xs passes) ∙ ap (λ (l : List B). g x ∷ l) (filter_map f g xs)
        ∙ sym (filter_kept f (g x) (map g xs) passes)
    | inr fails ↦
        ap (map g) (filter_dropped (λ (y : A). f (g y)) x xs fails) ∙ filter_map f g xs
        ∙ sym (filter_dropped f (g x) (map g xs) fails)
  ]

  -- where one image is all, there is one
  pub one_image : (g : A → B) (xs : List A) (y : B) (a b : A) → map g xs ≡ y ∷ [] → In a xs → In b xs → a ≡ b
  one_image g [] y a b is first second = elim first [ ]
  one_image g (x ∷ []) y a b is (inl one) (inl other) = one ∙ sym other
  one_image g (x ∷ []) y a b is (inl one) (inr none) = elim none [ ]
  one_image g (x ∷ []) y a b is (inr none) second = elim none [ ]
  one_image g (x ∷ z ∷ xs) y a b is first second =
      absurd (nil_cons (g z) (map g xs) (sym (cons_same (g x) y (g z ∷ map g xs) [] is).1))

-- what passes and what fails is all
pub filter_lengths : {A : Type 0} (f : A → Bool) (xs : List A) →
    length (filter f xs) + length (filter (λ x. not (f x)) xs) ≡ length xs
filter_lengths f [] = omega arith
filter_lengths {A = A} f (x ∷ xs) = elim (cases_Bool (f x)) [
  | inl passes ↦
      let one = ap length (filter_kept f x xs passes) in
      let other = ap length (filter_dropped (λ (y : A). not (f y)) x xs (ap not passes)) in
      omega (arith, one, other, filter_lengths f xs)
  | inr fails ↦
      let one = ap length (filter_dropped f x xs fails) in
      let other = ap length (filter_kept (λ (y : A). not (f y)) x xs (ap not fails)) in
      omega (arith, one, other, filter_lengths f xs)
]

-- ---- flows and their places

abbrev pub second : ℕ × Flow → Flow
second one = one.1

-- a flow at its place
abbrev pub placing : ℕ → Flow → ℕ × Flow
placing place flow = (place, flow)

pair_is : {place other : ℕ} {flow one : Flow} → place ≡ other → flow ≡ one → placing place flow ≡ placing other one
pair_is {other = other} {flow = flow} first rest =
    ap (λ (p : ℕ). placing p flow) first ∙ ap (placing other) rest

-- the flow is of another key than this one
abbrev pub is_another : Key → ℕ × Flow → Bool
is_another key one = is_other key one.1

-- one that is of no other key is of that key
pub same_from : (key : Key) (flow : Flow) → is_other key flow ≡ false → same_key key flow.key ≡ true
same_from key flow is = elim (cases_Bool (same_key key flow.key)) [
  | inl same ↦ same
  | inr differ ↦ absurd (not_both (is_other key flow) (ap not differ) is)
]

module _ (slots : Slots) (last : ℕ) (held : List Flow) (h : Holds slots last held) where
  -- what is placed is held
  pub is_held : (one : ℕ × Flow) → In one h.placed → In one.1 held
  is_held one within = subst (In one.1) h.are_held (map_in second h.placed one within)

  -- a flow at a place is held
  pub at_held : (place : ℕ) (flow : Flow) → flow_at slots place ≡ Some flow → In flow held
  at_held place flow at = is_held (place, flow) (h.whole place flow at)

  -- each flow that is held has a place
  pub has_place : (flow : Flow) → In flow held → (place : ℕ) × (flow_at slots place ≡ Some flow)
  has_place flow within =
      let there = in_map second h.placed flow (subst (In flow) (sym h.are_held) within) in
      (there.0.0, h.there there.0 there.1 ∙ ap Some (sym there.2))

  -- flows of one key are at one place
  pub one_place : (one other : ℕ × Flow) → In one h.placed → In other h.placed →
      same_key one.1.key other.1.key ≡ true → one ≡ other
  one_place one other first rest same =
      let test : ℕ × Flow → Bool = λ x. is_at one.1.key x.1 in
      let images = filter_map (is_at one.1.key) second h.placed ∙ ap (filter (is_at one.1.key)) h.are_held
      ∙ h.apart one.1 (is_held one first) in
      one_image second (filter test h.placed) one.1 one other images
      (filter_in test h.placed one first (key_own one.1.key)) (filter_in test h.placed other rest same)

  -- so a flow of another key is at another place
  pub apart_places : (place other : ℕ) (flow : Flow) (one : Flow) → flow_at slots place ≡ Some flow →
      flow_at slots other ≡ Some one → other ≢ place → is_other flow.key one ≡ true
  apart_places place other flow one at there differ = elim (cases_Bool (is_other flow.key one)) [
    | inl is ↦ is
    | inr same ↦ absurd (differ (sym (ap (λ (x : ℕ × Flow). x.0)
        (one_place (place, flow) (other, one) (h.whole place flow at) (h.whole other one there)
        (same_from flow.key one same)))))
  ]

  -- without the one of a place there is one less
  pub one_less : (place : ℕ) (flow : Flow) → flow_at slots place ≡ Some flow →
      length (filter (is_other flow.key) held) + 1 ≡ length held
  one_less place flow at =
      omega (arith, ap length (h.apart flow (at_held place flow at)), filter_lengths (is_at flow.key) held)

-- ---- what is put

-- a greater number serves too
pub sent_later : (one other : ℕ) (side : Side) → one ≤ other → HasSent one side → HasSent other side
sent_later one other side few has = record {
  packets = omega (arith, few, has.packets);
  payload = omega (arith, few, has.payload);
  octets = omega (arith, few, has.octets);
}

pub later_up : (one other : ℕ) (flow : Flow) → one ≤ other → IsUpTo one flow → IsUpTo other flow
later_up one other flow few is = record {
  number = omega (arith, few, is.number);
  low = sent_later one other flow.low few is.low;
  high = sent_later one other flow.high few is.high;
}

-- a new flow beside others: its number is none of theirs
pub numbered_with : (new : Flow) (rest : List Flow) →
    ((flow other : Flow) → In flow rest → In other rest → flow.number ≡ other.number → flow ≡ other) →
    ((other : Flow) → In other rest → new.number ≡ other.number → ⊥) →
    (flow other : Flow) → In flow (new ∷ rest) → In other (new ∷ rest) → flow.number ≡ other.number → flow ≡ other
numbered_with new rest own fresh flow other (inl one) (inl two) same = one ∙ sym two
numbered_with new rest own fresh flow other (inl one) (inr two) same =
    absurd (fresh other two (sym (ap (λ (x : Flow). x.number) one) ∙ same))
numbered_with new rest own fresh flow other (inr one) (inl two) same =
    absurd (fresh flow one (sym (ap (λ (x : Flow). x.number) two) ∙ sym same))
numbered_with new rest own fresh flow other (inr one) (inr two) same = own flow other one two same

module _ (old new : Slots) (last : ℕ) (held : List Flow) (h : Holds old last held) (place : ℕ) where
  -- a flow at a free place
  pub put_there : (flow : Flow) (later : ℕ) → Puts old new place (Some flow) → flow_at old place ≡ None →
      free_in old ≡ free_in new ++ place ∷ [] → length new.free ≡ length old.free → new.left + 1 ≡ old.left →
      last ≤ later → IsUpTo later flow → filter (is_at flow.key) held ≡ [] →
      ((other : Flow) → In other held → flow.number ≡ other.number → ⊥) → Holds new later (flow ∷ held)
  put_there flow later puts none free as_many left few up absent fresh = record {
    placed = (place, flow) ∷ h.placed;
    are_held = ap (λ (l : List Flow). flow ∷ l) h.are_held;
    there = there;
    whole = whole;
    apart = apart_cons flow held h.apart absent;
    numbered = numbered_with flow held h.numbered fresh;
    up_to = up_to;
    free = free_now;
    once = subst Once (append_none (free_in new)) parts.1;
    few = omega (arith, h.few, left, puts.places);
    as_many = as_many ∙ h.as_many ∙ sym puts.places;
  }
    where
      append_none : (xs : List ℕ) → xs ++ [] ≡ xs
      append_none [] = refl
      append_none (x ∷ xs) = ap (λ (l : List ℕ). x ∷ l) (append_none xs)

      parts : (In place (free_in new ++ []) → ⊥) × Once (free_in new ++ [])
      parts = once_middle place (free_in new) [] (subst Once free h.once)

      there : (one : ℕ × Flow) → In one ((place, flow) ∷ h.placed) → flow_at new one.0 ≡ Some one.1
      there one (inl same) =
          subst (λ (x : ℕ × Flow). flow_at new x.0 ≡ Some x.1) (sym same) puts.there
      there one (inr within) =
          let differ : one.0 ≢ place = λ same. none_some (sym none ∙ ap (flow_at old) (sym same)
          ∙ h.there one within) in
          puts.others one.0 differ ∙ h.there one within

      whole : (at : ℕ) (one : Flow) → flow_at new at ≡ Some one → In (at, one) ((place, flow) ∷ h.placed)
      whole at one is = elim (cases_eq at place) [
        | inl same ↦ inl (pair_is same (some_same (sym is ∙ ap (flow_at new) same ∙ puts.there)))
        | inr differ ↦ inr (h.whole at one (sym (puts.others at differ) ∙ is))
      ]

      up_to : (one : Flow) → In one (flow ∷ held) → IsUpTo later one
      up_to one (inl same) = subst (IsUpTo later) (sym same) up
      up_to one (inr within) = later_up last later one few (h.up_to one within)

      free_now : (at : ℕ) → In at (free_in new) → (at < places_in new) × (flow_at new at ≡ None)
      free_now at within =
          let was = h.free at (subst (In at) (sym free) (in_left at (free_in new) (place ∷ []) within)) in
          let differ : at ≢ place = λ same. parts.0 (subst (λ (x : ℕ). In x (free_in new ++ [])) same
          (in_left at (free_in new) [] within)) in
          (omega (arith, was.0, puts.places), puts.others at differ ∙ was.1)

  -- a flow in the place of another one
  pub put_in : (was flow : Flow) (later : ℕ) → Puts old new place (Some flow) → flow_at old place ≡ Some was →
      new.free ≡ old.free → new.left ≡ old.left → last ≤ later → IsUpTo later flow →
      filter (is_at flow.key) (filter (is_other was.key) held) ≡ [] →
      ((other : Flow) → In other (filter (is_other was.key) held) → flow.number ≡ other.number → ⊥) →
      Holds new later (flow ∷ filter (is_other was.key) held)
  put_in was flow later puts at free left few up absent fresh = record {
    placed = (place, flow) ∷ filter (is_another was.key) h.placed;
    are_held = ap (λ (l : List Flow). flow ∷ l)
        (filter_map (is_other was.key) second h.placed ∙ ap (filter (is_other was.key)) h.are_held);
    there = there;
    whole = whole;
    apart = apart_cons flow rest (apart_filter (is_other was.key) held h.apart) absent;
    numbered = numbered_with flow rest (λ one other first then. h.numbered one other
        (in_filter (is_other was.key) held one first).0 (in_filter (is_other was.key) held other then).0) fresh;
    up_to = up_to;
    free = free_now;
    once = subst Once same_free h.once;
    few = omega (arith, h.few, left, puts.places, one_less old last held h place was at);
    as_many = ap length free ∙ h.as_many ∙ sym puts.places;
  }
    where
      rest : List Flow
      rest = filter (is_other was.key) held

      same_free : free_in old ≡ free_in new
      same_free = ap (λ (l : List ℕ). take old.left l) (sym free) ∙ ap (λ (n : ℕ). take n new.free) (sym left)

      there : (one : ℕ × Flow) → In one ((place, flow) ∷ filter (is_another was.key) h.placed) →
          flow_at new one.0 ≡ Some one.1
      there one (inl same) =
          subst (λ (x : ℕ × Flow). flow_at new x.0 ≡ Some x.1) (sym same) puts.there
      there one (inr within) =
          let parts = in_filter (is_another was.key) h.placed one within in
          let is = h.there one parts.0 in
          let differ : one.0 ≢ place = λ same. not_both (is_other was.key one.1) parts.1
          (ap (is_other was.key) (some_same (sym is ∙ ap (flow_at old) same ∙ at)) ∙ not_other was) in
          puts.others one.0 differ ∙ is

      whole : (at_place : ℕ) (one : Flow) → flow_at new at_place ≡ Some one →
          In (at_place, one) ((place, flow) ∷ filter (is_another was.key) h.placed)
      whole at_place one is = elim (cases_eq at_place place) [
        | inl same ↦ inl (pair_is same (some_same (sym is ∙ ap (flow_at new) same ∙ puts.there)))
        | inr differ ↦
            let before : flow_at old at_place ≡ Some one = sym (puts.others at_place differ) ∙ is in
            inr (filter_in (is_another was.key) h.placed (at_place, one) (h.whole at_place one before)
            (apart_places old last held h place at_place was one at before differ))
      ]

      up_to : (one : Flow) → In one (flow ∷ rest) → IsUpTo later one
      up_to one (inl same) = subst (IsUpTo later) (sym same) up
      up_to one (inr within) =
          later_up last later one few (h.up_to one (in_filter (is_other was.key) held one within).0)

      free_now : (at_place : ℕ) → In at_place (free_in new) →
          (at_place < places_in new) × (flow_at new at_place ≡ None)
      free_now at_place within =
          let before = h.free at_place (subst (In at_place) (sym same_free) within) in
          let differ : at_place ≢ place = λ same. none_some (sym before.1 ∙ ap (flow_at old) same ∙ at) in
          (omega (arith, before.0, puts.places), puts.others at_place differ ∙ before.1)

  -- a flow that is taken out
  pub taken_out : (was : Flow) → Puts old new place None → flow_at old place ≡ Some was → place < places_in old →
      free_in new ≡ free_in old ++ place ∷ [] → length new.free ≡ length old.free → new.left ≡ old.left + 1 →
      Holds new last (filter (is_other was.key) held)
  taken_out was puts at inside free as_many left = record {
    placed = filter (is_another was.key) h.placed;
    are_held = filter_map (is_other was.key) second h.placed ∙ ap (filter (is_other was.key)) h.are_held;
    there = there;
    whole = whole;
    apart = apart_filter (is_other was.key) held h.apart;
    numbered = λ one other first then. h.numbered one other
        (in_filter (is_other was.key) held one first).0 (in_filter (is_other was.key) held other then).0;
    up_to = λ one within. h.up_to one (in_filter (is_other was.key) held one within).0;
    free = free_now;
    once = subst Once (sym free) (once_both (free_in old) (place ∷ []) h.once ((λ none. none), tt) apart);
    few = omega (arith, h.few, left, puts.places, one_less old last held h place was at);
    as_many = as_many ∙ h.as_many ∙ sym puts.places;
  }
    where
      there : (one : ℕ × Flow) → In one (filter (is_another was.key) h.placed) → flow_at new one.0 ≡ Some one.1
      there one within =
          let parts = in_filter (is_another was.key) h.placed one within in
          let is = h.there one parts.0 in
          let differ : one.0 ≢ place = λ same. not_both (is_other was.key one.1) parts.1
          (ap (is_other was.key) (some_same (sym is ∙ ap (flow_at old) same ∙ at)) ∙ not_other was) in
          puts.others one.0 differ ∙ is

      whole : (at_place : ℕ) (one : Flow) → flow_at new at_place ≡ Some one →
          In (at_place, one) (filter (is_another was.key) h.placed)
      whole at_place one is = elim (cases_eq at_place place) [
        | inl same ↦ absurd (none_some (sym puts.there ∙ ap (flow_at new) (sym same) ∙ is))
        | inr differ ↦
            let before : flow_at old at_place ≡ Some one = sym (puts.others at_place differ) ∙ is in
            filter_in (is_another was.key) h.placed (at_place, one) (h.whole at_place one before)
            (apart_places old last held h place at_place was one at before differ)
      ]

      apart : (x : ℕ) → In x (free_in old) → In x (place ∷ []) → ⊥
      apart x within (inl same) =
          none_some (sym (h.free x within).1 ∙ ap (flow_at old) same ∙ at)
      apart x within (inr none) = none

      free_now : (at_place : ℕ) → In at_place (free_in new) →
          (at_place < places_in new) × (flow_at new at_place ≡ None)
      free_now at_place within = elim (in_both at_place (free_in old) (place ∷ [])
          (subst (In at_place) free within)) [
            | inl before ↦
                let was_free = h.free at_place before in
                let differ : at_place ≢ place = λ same. none_some (sym was_free.1 ∙ ap (flow_at old) same ∙ at) in
                (omega (arith, was_free.0, puts.places), puts.others at_place differ ∙ was_free.1)
            | inr here ↦ at_last here
          ]
        where
          at_last : In at_place (place ∷ []) → (at_place < places_in new) × (flow_at new at_place ≡ None)
          at_last (inl same) = (omega (arith, inside, puts.places, same), ap (flow_at new) same ∙ puts.there)
          at_last (inr none) = absurd none

-- ---- a place that is written

-- what stands where it was written, and elsewhere
pub get_set : {A : Type 0} (xs : List A) (i : ℕ) (x : A) → i < length xs → slice_get (set xs i x) i ≡ Some x
get_set xs i x inside =
    let long = length-set xs i x in
    slice_get-get_or (set xs i x) i x (omega arith) ∙ ap Some (get_or-set_same xs i x x inside)

pub get_set_other : {A : Type 0} (xs : List A) (i j : ℕ) (x : A) → j ≢ i → slice_get (set xs i x) j ≡ slice_get xs j
get_set_other xs i j x differ =
    let long = length-set xs i x in
    elim (cases_lt j (length xs)) [
      | inl inside ↦
          slice_get-get_or (set xs i x) j x (omega arith)
          ∙ ap Some (get_or-set_other xs i j x x differ) ∙ sym (slice_get-get_or xs j x inside)
      | inr past ↦
          slice_get_past (set xs i x) j (omega arith) ∙ sym (slice_get_past xs j past)
    ]

-- a place that is written has what was written
pub puts_set : (old new : Slots) (place : ℕ) (slot : Option FlowRecord) → place < places_in old →
    new.flows ≡ set old.flows place slot → Puts old new place (as_flow slot)
puts_set old new place slot inside is = record {
  there = ap (λ (l : List (Option FlowRecord)). flow_in (slice_get l place)) is
      ∙ ap flow_in (get_set old.flows place slot inside);
  others = λ other differ. ap (λ (l : List (Option FlowRecord)). flow_in (slice_get l other)) is
      ∙ ap flow_in (get_set_other old.flows place other slot differ);
  places = ap length is ∙ length-set old.flows place slot;
}
