-- Of the records of a run no two are of one flow, and no two ended by one packet: so no two have one place.
use Rattle.std.proofs.Common.{◌≡◌, ℕ, ◌<◌, ◌≤◌, ◌⊎◌, Bool, true, false, List, [], ◌∷◌, ◌++◌, filter, map, inl, inr, refl, sym, ap, ◌∙◌, subst, arith, Option, Some, None, not}
use Rattle.std.proofs.lemmas.Bool.{cases_Bool, cases_lt, cond_both, not-true}
use Rattle.std.proofs.lemmas.List.{map-append}
use Rattle.plain_map.specs.declared.keys.Key.{Key}
use Rattle.list_laws.proofs.Lists.{In, Once, filter_in, in_both, in_filter, in_map, map_in, once_both}
use Rattle.list_laws.proofs.Options.{none_some, some_same}
use Rattle.list_laws.proofs.Truths.{not_both}
use Rattle.map_laws.proofs.ByKeyLists.{filter_dropped, filter_kept}
use Rattle.flow_times.specs.Ends.{End, IsBefore, IsFirstBy}
use Rattle.flow_times.specs.Flows.{Flow, Times, Use, begun, grown}
use Rattle.flow_times.specs.Passes.{Event}
use Rattle.flow_times.specs.Passes.Event.{Takes, Passes}
use Rattle.flow_times.specs.Metered.{AreInOrder, Cause, Ended, Metered, Rules, end_of, ended_in, is_at, is_live, is_other, is_past, made_way, metered, of_key, packet_in, same_key, soonest, with_time}
use Rattle.flow_times.proofs.Meters.{chosen, metered_by, not_other, with_new}
use Rattle.flow_times.proofs.Orders.{in_same}
use Rattle.flow_times.proofs.Tests.{key_own}
use Rattle.flow_meter.specs.Orders.{AreNumbered, AreSorted, SortedAreInOrder}

-- ---- lists

module _ {A B : Type 0} (g : A → B) where
  -- where images stand once, one image is of one
  pub once_same : (xs : List A) (a b : A) → Once (map g xs) → In a xs → In b xs → g a ≡ g b → a ≡ b
  once_same [] a b once first rest same = absurd first
  once_same (x ∷ xs) a b once (inl one) (inl other) same = one ∙ sym other
  once_same (x ∷ xs) a b once (inl one) (inr other) same =
      absurd (once.0 (subst (λ (y : B). In y (map g xs)) (sym same ∙ ap g one) (map_in g xs b other)))
  once_same (x ∷ xs) a b once (inr one) (inl other) same =
      absurd (once.0 (subst (λ (y : B). In y (map g xs)) (same ∙ ap g other) (map_in g xs a one)))
  once_same (x ∷ xs) a b once (inr one) (inr other) same = once_same xs a b once.1 one other same

  -- the images of what passes are images
  image_in : (t : A → Bool) (xs : List A) (y : B) → In y (map g (filter t xs)) → In y (map g xs)
  image_in t xs y within =
      let there = in_map g (filter t xs) y within in
      subst (λ (z : B). In z (map g xs)) (sym there.2) (map_in g xs there.0 (in_filter t xs there.0 there.1).0)

  -- they stand once, too
  pub once_filter : (t : A → Bool) (xs : List A) → Once (map g xs) → Once (map g (filter t xs))
  once_filter t [] once = tt
  once_filter t (x ∷ xs) once = elim (cases_Bool (t x)) [
    | inl passes ↦ subst (λ (l : List A). Once (map g l)) (sym (filter_kept t x xs passes))
        ((λ within. once.0 (image_in t xs (g x) within)), once_filter t xs once.1)
    | inr fails ↦ subst (λ (l : List A). Once (map g l)) (sym (filter_dropped t x xs fails)) (once_filter t xs once.1)
  ]

-- ---- numbers of flows

abbrev own_number : Flow → ℕ
own_number flow = flow.number

abbrev number_of : Ended → ℕ
number_of ended = ended.flow.number

with_numbers : (flows : List Flow) → map number_of (map with_time flows) ≡ map own_number flows
with_numbers [] = refl
with_numbers (flow ∷ flows) = ap (λ (l : List ℕ). flow.number ∷ l) (with_numbers flows)

-- these flows have numbers of their own, up to that one
record AreOwn (last : ℕ) (held : List Flow) : Type 0 where
  once : Once (map own_number held)
  few : (flow : Flow) → In flow held → flow.number ≤ last

-- a packet leaves flows with numbers of their own, and what ended by it is held no more
record Moves (last : ℕ) (held : List Flow) (packet : Use) (m : Metered) : Type 0 where
  own : AreOwn packet.number m.held
  held_was : (n : ℕ) → In n (map own_number m.held) → In n (map own_number held) ⊎ (n ≡ packet.number)
  once : Once (map number_of m.ended)
  ended_was : (ended : Ended) → In ended m.ended → In ended.flow held
  gone : (ended : Ended) (flow : Flow) → In ended m.ended → In flow m.held → flow.number ≡ ended.flow.number → ⊥

module _ (last : ℕ) (held : List Flow) (own : AreOwn last held) (packet : Use) (later : last < packet.number) where
  -- without the flows of a key there is no number of such a flow
  left_out : (key : Key) (flow one : Flow) → In flow held → is_other key flow ≡ false →
      In one (filter (is_other key) held) → one.number ≡ flow.number → ⊥
  left_out key flow one within out rest same =
      let parts = in_filter (is_other key) held one rest in
      not_both (is_other key one) parts.1
      (ap (is_other key) (once_same own_number held one flow own.once parts.0 within same) ∙ out)

  few_left : (test : Flow → Bool) (flow : Flow) → In flow (filter test held) → flow.number ≤ packet.number
  few_left test flow within =
      let few = own.few flow (in_filter test held flow within).0 in
      omega (arith, few, later)

  new_number : (flows : List Flow) → ((flow : Flow) → In flow flows → In flow held) →
      In packet.number (map own_number flows) → ⊥
  new_number flows are within =
      let there = in_map own_number flows packet.number within in
      let few = own.few there.0 (are there.0 there.1) in
      let same = there.2 in
      omega (arith, few, later, same)

  -- a new flow in the place of those of a key
  moves_new : (key : Key) (flow : Flow) (ended : Ended) → In flow held → is_other key flow ≡ false →
      ended.flow ≡ flow → Moves last held packet (with_new (begun packet) (filter (is_other key) held) (ended ∷ []))
  moves_new key flow ended within out is = record {
    own = record {
      once = (
        new_number (filter (is_other key) held) (λ one rest. (in_filter (is_other key) held one rest).0),
        once_filter own_number (is_other key) held own.once,
      );
      few = few;
    };
    held_was = was;
    once = ((λ none. none), tt);
    ended_was = λ one only. ended_was one only;
    gone = gone;
  }
    where
      few : (one : Flow) → In one (begun packet ∷ filter (is_other key) held) → one.number ≤ packet.number
      few one (inl same) = let e = ap own_number same in omega (arith, e)
      few one (inr rest) = few_left (is_other key) one rest

      was : (n : ℕ) → In n (map own_number (begun packet ∷ filter (is_other key) held)) →
          In n (map own_number held) ⊎ (n ≡ packet.number)
      was n (inl same) = inr same
      was n (inr rest) = inl (image_in own_number (is_other key) held n rest)

      ended_was : (one : Ended) → In one (ended ∷ []) → In one.flow held
      ended_was one (inl same) =
          subst (λ (f : Flow). In f held) (sym (ap (λ (e : Ended). e.flow) same ∙ is)) within
      ended_was one (inr none) = absurd none

      number_is : (one : Ended) → In one (ended ∷ []) → one.flow.number ≡ flow.number
      number_is one (inl same) = ap number_of same ∙ ap own_number is
      number_is one (inr none) = absurd none

      gone : (one : Ended) (other : Flow) → In one (ended ∷ []) →
          In other (begun packet ∷ filter (is_other key) held) → other.number ≡ one.flow.number → ⊥
      gone one other only (inl same) equal =
          let e = ap own_number same in
          let n = number_is one only in
          let few_own = own.few flow within in
          omega (arith, e, n, equal, few_own, later)
      gone one other only (inr rest) equal = left_out key flow other within out rest (equal ∙ number_is one only)

  -- a flow with a packet more
  moves_grown : (key : Key) (flow : Flow) → In flow held → is_other key flow ≡ false →
      Moves last held packet (with_new (grown flow packet) (filter (is_other key) held) [])
  moves_grown key flow within out = record {
    own = record {
      once = (no_other, once_filter own_number (is_other key) held own.once);
      few = few;
    };
    held_was = was;
    once = tt;
    ended_was = λ one none. absurd none;
    gone = λ one other none rest equal. none;
  }
    where
      no_other : In flow.number (map own_number (filter (is_other key) held)) → ⊥
      no_other rest =
          let there = in_map own_number (filter (is_other key) held) flow.number rest in
          left_out key flow there.0 within out there.1 (sym there.2)

      few : (one : Flow) → In one (grown flow packet ∷ filter (is_other key) held) → one.number ≤ packet.number
      few one (inl same) =
          let e = ap own_number same in
          let few_own = own.few flow within in
          omega (arith, e, few_own, later)
      few one (inr rest) = few_left (is_other key) one rest

      was : (n : ℕ) → In n (map own_number (grown flow packet ∷ filter (is_other key) held)) →
          In n (map own_number held) ⊎ (n ≡ packet.number)
      was n (inl same) = inl (subst (λ (m : ℕ). In m (map own_number held)) (sym same)
          (map_in own_number held flow within))
      was n (inr rest) = inl (image_in own_number (is_other key) held n rest)

  -- a flow more
  moves_begun : Moves last held packet (with_new (begun packet) held [])
  moves_begun = record {
    own = record { once = (new_number held (λ one within. within), own.once); few = few };
    held_was = was;
    once = tt;
    ended_was = λ one none. absurd none;
    gone = λ one other none rest equal. none;
  }
    where
      few : (one : Flow) → In one (begun packet ∷ held) → one.number ≤ packet.number
      few one (inl same) = let e = ap own_number same in omega (arith, e)
      few one (inr rest) = let few_own = own.few one rest in omega (arith, few_own, later)

      was : (n : ℕ) → In n (map own_number (begun packet ∷ held)) → In n (map own_number held) ⊎ (n ≡ packet.number)
      was n (inl same) = inr same
      was n (inr rest) = inl rest

  moves : (rules : Rules) → 0 < rules.items → Moves last held packet (metered rules held packet)
  moves rules some = metered_by rules held packet (Moves last held packet) some
      (λ flow flows at is. moves_grown packet.key flow (first flow flows at).0 (first flow flows at).1)
      (λ flow flows at is. moves_new packet.key flow (made_way rules.times false flow packet) (first flow flows at).0
      (first flow flows at).1 refl)
      (λ at room. moves_begun)
      (λ flow flows at class full.
      let out = soonest rules.times flow flows in
      moves_new out.key out (made_way rules.times true out packet)
      (chosen rules held (rules.class_of packet.key) flow flows class).0 (not_other out) refl)
    where
      first : (flow : Flow) (flows : List Flow) → filter (is_at packet.key) held ≡ flow ∷ flows →
          In flow held × (is_other packet.key flow ≡ false)
      first flow flows at =
          let parts = in_filter (is_at packet.key) held flow
          (subst (λ (l : List Flow). In flow l) (sym at) (inl refl)) in
          (parts.0, ap not parts.1)

-- the records of a run have numbers of their own: those of what was held, and later ones
record NumbersApart (last : ℕ) (held : List Flow) (ended : List Ended) : Type 0 where
  once : Once (map number_of ended)
  from : (n : ℕ) → In n (map number_of ended) → In n (map own_number held) ⊎ (last < n)

numbers_apart : (rules : Rules) (last : ℕ) (held : List Flow) (events : List Event) → 0 < rules.items →
    AreNumbered last events → AreOwn last held → NumbersApart last held (ended_in rules held events)
numbers_apart rules last held [] some numbered own = record {
  once = subst Once (sym (with_numbers held)) own.once;
  from = λ n within. inl (subst (In n) (with_numbers held) within);
}
numbers_apart rules last held (Takes packet ∷ events) some numbered own =
    go (numbers_apart rules packet.number (metered rules held packet).held events some numbered.1 step.own)
  where
    step : Moves last held packet (metered rules held packet)
    step = moves last held own packet numbered.0 rules some

    go : NumbersApart packet.number (metered rules held packet).held
        (ended_in rules (metered rules held packet).held events) →
        NumbersApart last held (ended_in rules held (Takes packet ∷ events))
    go rest = record {
      once = subst Once (sym (map-append number_of m.ended later))
          (once_both (map number_of m.ended) (map number_of later) step.once rest.once apart);
      from = λ n within. elim (in_both n (map number_of m.ended) (map number_of later)
          (subst (In n) (map-append number_of m.ended later) within)) [
            | inl now ↦ inl (from_now n now)
            | inr afterwards ↦ elim (rest.from n afterwards) [
              | inl of_held ↦ elim (step.held_was n of_held) [
                | inl before ↦ inl before
                | inr new ↦ inr (let p = numbered.0 in omega (arith, p, new))
              ]
              | inr beyond ↦ inr (let p = numbered.0 in omega (arith, p, beyond))
            ]
          ];
    }
      where
        m : Metered
        m = metered rules held packet

        later : List Ended
        later = ended_in rules m.held events

        from_now : (n : ℕ) → In n (map number_of m.ended) → In n (map own_number held)
        from_now n now =
            let there = in_map number_of m.ended n now in
            subst (λ (k : ℕ). In k (map own_number held)) (sym there.2)
            (map_in own_number held there.0.flow (step.ended_was there.0 there.1))

        apart : (n : ℕ) → In n (map number_of m.ended) → In n (map number_of later) → ⊥
        apart n now afterwards =
            let there = in_map number_of m.ended n now in
            let few = own.few there.0.flow (step.ended_was there.0 there.1) in
            elim (rest.from n afterwards) [
              | inl of_held ↦ by_held there.0 there.1 there.2 (in_map own_number m.held n of_held)
              | inr beyond ↦ (let p = numbered.0 in let e = there.2 in omega (arith, p, beyond, few, e))
            ]
          where
            by_held : (ended : Ended) → In ended m.ended → n ≡ ended.flow.number →
                (flow : Flow) × In flow m.held × (n ≡ flow.number) → ⊥
            by_held ended within is held_one =
                step.gone ended held_one.0 within held_one.1 (sym held_one.2 ∙ is)
numbers_apart rules last held (Passes now ∷ events) some numbered own =
    go (numbers_apart rules last left events some numbered left_own)
  where
    past : Flow → Bool
    past = is_past rules.times now

    left : List Flow
    left = filter (is_live rules.times now) held

    left_own : AreOwn last left
    left_own = record {
      once = once_filter own_number (is_live rules.times now) held own.once;
      few = λ flow within. own.few flow (in_filter (is_live rules.times now) held flow within).0;
    }

    go : NumbersApart last left (ended_in rules left events) →
        NumbersApart last held (ended_in rules held (Passes now ∷ events))
    go rest = record {
      once = subst Once (sym (map-append number_of out later))
          (once_both (map number_of out) (map number_of later)
          (subst Once (sym (with_numbers (filter past held))) (once_filter own_number past held own.once)) rest.once
          apart);
      from = λ n within. elim (in_both n (map number_of out) (map number_of later)
          (subst (In n) (map-append number_of out later) within)) [
            | inl now_out ↦ inl (image_in own_number past held n
                (subst (In n) (with_numbers (filter past held)) now_out))
            | inr afterwards ↦ elim (rest.from n afterwards) [
              | inl of_left ↦ inl (image_in own_number (is_live rules.times now) held n of_left)
              | inr beyond ↦ inr beyond
            ]
          ];
    }
      where
        out : List Ended
        out = map with_time (filter past held)

        later : List Ended
        later = ended_in rules left events

        apart : (n : ℕ) → In n (map number_of out) → In n (map number_of later) → ⊥
        apart n now_out afterwards =
            let there = in_map own_number (filter past held) n
            (subst (In n) (with_numbers (filter past held)) now_out) in
            let parts = in_filter past held there.0 there.1 in
            let few = own.few there.0 parts.0 in
            elim (rest.from n afterwards) [
              | inl of_left ↦ by_left there.0 parts.0 parts.1 there.2 (in_map own_number left n of_left)
              | inr beyond ↦ (let e = there.2 in omega (arith, beyond, few, e))
            ]
          where
            by_left : (flow : Flow) → In flow held → past flow ≡ true → n ≡ flow.number →
                (one : Flow) × In one left × (n ≡ one.number) → ⊥
            by_left flow within is number one =
                let parts = in_filter (is_live rules.times now) held one.0 one.1 in
                let same = once_same own_number held flow one.0 own.once within parts.0 (sym number ∙ one.2) in
                not_both (past one.0) (ap past (sym same) ∙ is) (not-true (past one.0) parts.1)

-- ---- packets that flows ended by

abbrev cause_in : Option Cause → List ℕ → List ℕ
cause_in None rest = rest
cause_in (Some cause) rest = cause.number ∷ rest

-- the packets that these ended by
abbrev causes : List Ended → List ℕ
causes [] = []
causes (ended ∷ more) = cause_in ended.by (causes more)

causes_joined : (xs ys : List Ended) → causes (xs ++ ys) ≡ causes xs ++ causes ys
causes_joined [] ys = refl
causes_joined (x ∷ xs) ys = with_cause x.by (causes_joined xs ys)
  where
    with_cause : (by : Option Cause) → causes (xs ++ ys) ≡ causes xs ++ causes ys →
        cause_in by (causes (xs ++ ys)) ≡ cause_in by (causes xs) ++ causes ys
    with_cause None rest = rest
    with_cause (Some cause) rest = ap (λ (l : List ℕ). cause.number ∷ l) rest

causes_none : (flows : List Flow) → causes (map with_time flows) ≡ []
causes_none [] = refl
causes_none (flow ∷ flows) = causes_none flows

-- the packet that one ended by is among them
cause_there : (xs : List Ended) (x : Ended) (cause : Cause) → In x xs → x.by ≡ Some cause → In cause.number (causes xs)
cause_there [] x cause within by = absurd within
cause_there (y ∷ xs) x cause (inl same) by =
    subst (λ (b : Option Cause). In cause.number (cause_in b (causes xs)))
    (sym (ap (λ (e : Ended). e.by) (sym same) ∙ by)) (inl refl)
cause_there (y ∷ xs) x cause (inr within) by = later y.by (cause_there xs x cause within by)
  where
    later : (b : Option Cause) → In cause.number (causes xs) → In cause.number (cause_in b (causes xs))
    later None there = there
    later (Some other) there = inr there

-- where each stands once, one packet ended one flow
one_cause : (xs : List Ended) (x y : Ended) (cause other : Cause) → Once (causes xs) → In x xs → In y xs →
    x.by ≡ Some cause → y.by ≡ Some other → cause.number ≡ other.number → x ≡ y
one_cause [] x y cause other once first rest by by_other same = absurd first
one_cause (z ∷ xs) x y cause other once (inl one) (inl two) by by_other same = one ∙ sym two
one_cause (z ∷ xs) x y cause other once (inl one) (inr two) by by_other same =
    let own : Once (cause.number ∷ causes xs) =
    subst (λ (b : Option Cause). Once (cause_in b (causes xs))) (ap (λ (e : Ended). e.by) (sym one) ∙ by) once in
    absurd (own.0 (subst (λ (n : ℕ). In n (causes xs)) (sym same) (cause_there xs y other two by_other)))
one_cause (z ∷ xs) x y cause other once (inr one) (inl two) by by_other same =
    let own : Once (other.number ∷ causes xs) =
    subst (λ (b : Option Cause). Once (cause_in b (causes xs))) (ap (λ (e : Ended). e.by) (sym two) ∙ by_other) once in
    absurd (own.0 (subst (λ (n : ℕ). In n (causes xs)) same (cause_there xs x cause one by)))
one_cause (z ∷ xs) x y cause other once (inr one) (inr two) by by_other same =
    one_cause xs x y cause other (rest_once z.by once) one two by by_other same
  where
    rest_once : (b : Option Cause) → Once (cause_in b (causes xs)) → Once (causes xs)
    rest_once None own = own
    rest_once (Some own_cause) own = own.1

-- what a packet ends, it ends at most once
record CausesOne (number : ℕ) (ended : List Ended) : Type 0 where
  once : Once (causes ended)
  only : (n : ℕ) → In n (causes ended) → n ≡ number

no_cause : (number : ℕ) → CausesOne number []
no_cause number = record { once = tt; only = λ n none. absurd none }

way_cause : (times : Times) (is_room : Bool) (flow : Flow) (packet : Use) →
    CausesOne packet.number (made_way times is_room flow packet ∷ [])
way_cause times is_room flow packet =
    cond_both (is_past times packet.moment flow) None
    (Some (record { number = packet.number; clock = packet.moment.clock; is_room = is_room }))
    (λ (b : Option Cause). CausesOne packet.number (record { flow = flow; by = b } ∷ []))
    (λ is. record { once = tt; only = λ n none. absurd none })
    (λ is. record { once = ((λ none. none), tt); only = only })
  where
    only : (n : ℕ) → In n (packet.number ∷ []) → n ≡ packet.number
    only n (inl same) = same
    only n (inr none) = absurd none

packet_causes : (rules : Rules) (held : List Flow) (packet : Use) → 0 < rules.items →
    CausesOne packet.number (metered rules held packet).ended
packet_causes rules held packet some =
    metered_by rules held packet (λ m. CausesOne packet.number m.ended) some
    (λ flow flows at is. no_cause packet.number)
    (λ flow flows at is. way_cause rules.times false flow packet)
    (λ at room. no_cause packet.number)
    (λ flow flows at class full. way_cause rules.times true (soonest rules.times flow flows) packet)

-- so it is in a run
record CausesApart (last : ℕ) (ended : List Ended) : Type 0 where
  once : Once (causes ended)
  from : (n : ℕ) → In n (causes ended) → last < n

causes_apart : (rules : Rules) (last : ℕ) (held : List Flow) (events : List Event) → 0 < rules.items →
    AreNumbered last events → CausesApart last (ended_in rules held events)
causes_apart rules last held [] some numbered = record {
  once = subst Once (sym (causes_none held)) tt;
  from = λ n within. absurd (subst (In n) (causes_none held) within);
}
causes_apart rules last held (Takes packet ∷ events) some numbered =
    let m = metered rules held packet in
    let rest = causes_apart rules packet.number m.held events some numbered.1 in
    let one = packet_causes rules held packet some in
    let later = ended_in rules m.held events in
    let p = numbered.0 in record {
      once = subst Once (sym (causes_joined m.ended later))
          (once_both (causes m.ended) (causes later) one.once rest.once
          (λ n now afterwards. let e = one.only n now in let f = rest.from n afterwards in omega (arith, e, f)));
      from = λ n within. elim (in_both n (causes m.ended) (causes later)
          (subst (In n) (causes_joined m.ended later) within)) [
            | inl now ↦ (let e = one.only n now in omega (arith, e, p))
            | inr afterwards ↦ (let f = rest.from n afterwards in omega (arith, f, p))
          ];
    }
causes_apart rules last held (Passes now ∷ events) some numbered =
    let left = filter (is_live rules.times now) held in
    let out = map with_time (filter (is_past rules.times now) held) in
    let later = ended_in rules left events in
    let rest = causes_apart rules last left events some numbered in
    let same : causes (out ++ later) ≡ causes later =
    causes_joined out later
    ∙ ap (λ (l : List ℕ). l ++ causes later) (causes_none (filter (is_past rules.times now) held)) in
    record {
      once = subst Once (sym same) rest.once;
      from = λ n within. rest.from n (subst (In n) same within);
    }

-- ---- sorted records

cases_three : (a b : ℕ) → (a < b) ⊎ ((b < a) ⊎ (a ≡ b))
cases_three a b = elim (cases_lt a b) [
  | inl less ↦ inl less
  | inr from ↦ elim (cases_lt b a) [ inl more ↦ inr (inl more) | inr least ↦ inr (inr (omega (arith, from, least))) ]
]

-- two ends are in one place: neither flow ended by a packet, and they have one number; or both ended by one packet
data OnePlace (one other : End) : Type 0 where
  Timed : one.by ≡ None → other.by ≡ None → one.number ≡ other.number → OnePlace one other
  Caused : (n : ℕ) → one.by ≡ Some n → other.by ≡ Some n → OnePlace one other

-- of two at one moment
first_by : (one other : End) → one.at.stretch ≡ other.at.stretch → one.at.clock ≡ other.at.clock →
    (b c : Option ℕ) → one.by ≡ b → other.by ≡ c →
    IsBefore one other ⊎ (IsBefore other one ⊎ OnePlace one other)
first_by one other same equal b c by by_other = go b c by by_other
  where
    before : (d e : Option ℕ) → one.by ≡ d → other.by ≡ e → IsFirstBy d e one.number other.number → IsBefore one other
    before d e is is_other first = inr (inr (
      same,
      equal,
      subst (λ (x : Option ℕ). IsFirstBy x other.by one.number other.number) (sym is)
          (subst (λ (x : Option ℕ). IsFirstBy d x one.number other.number) (sym is_other) first),
    ))

    behind : (d e : Option ℕ) → one.by ≡ d → other.by ≡ e → IsFirstBy e d other.number one.number → IsBefore other one
    behind d e is is_other first = inr (inr (
      sym same,
      sym equal,
      subst (λ (x : Option ℕ). IsFirstBy x one.by other.number one.number) (sym is_other)
          (subst (λ (x : Option ℕ). IsFirstBy e x other.number one.number) (sym is) first),
    ))

    go : (d e : Option ℕ) → one.by ≡ d → other.by ≡ e →
        IsBefore one other ⊎ (IsBefore other one ⊎ OnePlace one other)
    go (Some n) None is is_other = inl (before (Some n) None is is_other tt)
    go None (Some n) is is_other = inr (inl (behind None (Some n) is is_other tt))
    go (Some n) (Some m) is is_other = elim (cases_three n m) [
      | inl less ↦ inl (before (Some n) (Some m) is is_other less)
      | inr (inl more) ↦ inr (inl (behind (Some n) (Some m) is is_other more))
      | inr (inr one_packet) ↦ inr (inr (Caused n is (is_other ∙ ap Some (sym one_packet))))
    ]
    go None None is is_other = elim (cases_three one.number other.number) [
      | inl less ↦ inl (before None None is is_other less)
      | inr (inl more) ↦ inr (inl (behind None None is is_other more))
      | inr (inr number) ↦ inr (inr (Timed is is_other number))
    ]

-- one end stands before the other, or they are in one place
either_first : (one other : End) → IsBefore one other ⊎ (IsBefore other one ⊎ OnePlace one other)
either_first one other = elim (cases_three one.at.stretch other.at.stretch) [
  | inl less ↦ inl (inl less)
  | inr (inl more) ↦ inr (inl (inl more))
  | inr (inr same) ↦ elim (cases_three one.at.clock other.at.clock) [
    | inl less ↦ inl (inr (inl (same, less)))
    | inr (inl more) ↦ inr (inl (inr (inl (sym same, more))))
    | inr (inr equal) ↦ first_by one other same equal one.by other.by refl refl
  ]
]

-- what ended by a packet has its number
has_cause : (by : Option Cause) (n : ℕ) → packet_in by ≡ Some n →
    (cause : Cause) × (by ≡ Some cause) × (cause.number ≡ n)
has_cause None n is = absurd (none_some is)
has_cause (Some cause) n is = (cause, refl, some_same is)

-- records of a run that are in one place are one
one_record : (times : Times) (lasts : ℕ → ℕ) (records : List Ended) (one other : Ended) →
    Once (map number_of records) → Once (causes records) → In one records → In other records →
    OnePlace (end_of times lasts one) (end_of times lasts other) → one ≡ other
one_record times lasts records one other numbers own first rest (Timed by by_other same) =
    once_same number_of records one other numbers first rest same
one_record times lasts records one other numbers own first rest (Caused n by by_other) =
    let cause = has_cause one.by n by in
    let others = has_cause other.by n by_other in
    one_cause records one other cause.0 others.0 own first rest cause.1 others.1 (cause.2 ∙ sym others.2)

-- each record stands before all that follow it
module _ (times : Times) (lasts : ℕ → ℕ) (all : List Ended) (numbers : Once (map number_of all))
    (own : Once (causes all)) where
  in_order : (records : List Ended) → ((x : Ended) → In x records → In x all) → Once (map number_of records) →
      AreSorted times lasts records → AreInOrder times lasts records
  in_order [] within once sorted = tt
  in_order (one ∷ records) within once sorted = (
    (λ other there. before other there (either_first (end_of times lasts one) (end_of times lasts other))),
    in_order records (λ x there. within x (inr there)) once.1 sorted.1,
  )
    where
      before : (other : Ended) → In other records →
          IsBefore (end_of times lasts one) (end_of times lasts other)
          ⊎ (IsBefore (end_of times lasts other) (end_of times lasts one)
          ⊎ OnePlace (end_of times lasts one) (end_of times lasts other)) →
          IsBefore (end_of times lasts one) (end_of times lasts other)
      before other there (inl first) = first
      before other there (inr (inl behind)) = absurd (sorted.0 other there behind)
      before other there (inr (inr place)) =
          let same = one_record times lasts all one other numbers own (within one (inl refl)) (within other (inr there))
          place in
          absurd (once.0 (subst (λ (n : ℕ). In n (map number_of records)) (sym (ap number_of same))
          (map_in number_of records other there)))

-- the same records have numbers of their own, too
same_once : (others : List Ended) → Once (map number_of others) → (records : List Ended) →
    ((x : Ended) → In x records → In x others) → ((key : Key) → Once (map number_of (of_key key records))) →
    Once (map number_of records)
same_once others numbers [] within keyed = tt
same_once others numbers (one ∷ records) within keyed = (
  fresh,
  same_once others numbers records (λ x there. within x (inr there)) rest_keyed,
)
  where
    fresh : In one.flow.number (map number_of records) → ⊥
    fresh again =
        let there = in_map number_of records one.flow.number again in
        let same : one ≡ there.0 =
        once_same number_of others one there.0 numbers (within one (inl refl)) (within there.0 (inr there.1)) there.2 in
        let own : Ended → Bool = λ e. same_key one.flow.key e.flow.key in
        let once : Once (map number_of (one ∷ of_key one.flow.key records)) =
        subst (λ (l : List Ended). Once (map number_of l)) (filter_kept own one records (key_own one.flow.key))
        (keyed one.flow.key) in
        once.0 (map_in number_of (of_key one.flow.key records) one
        (filter_in own records one (subst (λ (x : Ended). In x records) (sym same) there.1) (key_own one.flow.key)))

    rest_keyed : (key : Key) → Once (map number_of (of_key key records))
    rest_keyed key =
        let own : Ended → Bool = λ e. same_key key e.flow.key in
        elim (cases_Bool (own one)) [
          | inl is ↦ (subst (λ (l : List Ended). Once (map number_of l)) (filter_kept own one records is)
              (keyed key)).1
          | inr differ ↦ subst (λ (l : List Ended). Once (map number_of l)) (filter_dropped own one records differ)
              (keyed key)
        ]

pub sorted_are_in_order : SortedAreInOrder
sorted_are_in_order rules times lasts events records some numbered same sorted =
    let all : List Ended = ended_in rules [] events in
    let numbers : Once (map number_of all) =
    (numbers_apart rules 0 [] events some numbered (record { once = tt; few = λ flow none. absurd none })).once in
    let own : Once (causes all) = (causes_apart rules 0 [] events some numbered).once in
    let within : (x : Ended) → In x records → In x all = λ x there. in_same records all x same there in
    let once : Once (map number_of records) = same_once all numbers records within
    (λ key. subst (λ (l : List Ended). Once (map number_of l)) (sym (same key))
    (once_filter number_of (λ e. same_key key e.flow.key) all numbers)) in
    in_order times lasts all numbers own records within once sorted
