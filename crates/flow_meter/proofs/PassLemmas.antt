-- A pass over the places, one after the other.
use Rattle.std.proofs.Common.{◌≡◌, ℕ, ◌+◌, ◌<◌, Bool, true, false, not, List, [], ◌∷◌, ◌++◌, filter, map, inl, inr, refl, sym, ap, ◌∙◌, subst, arith, Option, Some, None, append_assoc}
use Rattle.std.proofs.lemmas.Bool.{cases_Bool, cases_eq, cases_lt, false_from_ne_true, not_from_false}
use Rattle.std.proofs.lemmas.List.{append-nil}
use Rattle.std.proofs.lemmas.List.Elements.{filter-append}
use Rattle.std.proofs.lemmas.Option.{slice_get_past}
use Rattle.plain_map.specs.declared.keys.Key.{Key}
use Rattle.list_laws.proofs.Lists.{In, filter_in}
use Rattle.list_laws.proofs.Options.{none_some}
use Rattle.list_laws.proofs.Truths.{not_both}
use Rattle.map_laws.proofs.ByKeyLists.{filter_dropped, filter_kept, filter_swap}
use Rattle.flow_times.specs.Flows.{Flow}
use Rattle.flow_times.specs.Metered.{Ended, is_at, is_other, of_key, same_key, with_time}
use Rattle.flow_times.proofs.Filters.{filter_all, filter_both, filter_none}
use Rattle.flow_times.proofs.Meters.{none_left}
use Rattle.flow_times.proofs.Steps.{key_map}
use Rattle.flow_times.proofs.Tests.{key_is}
use Rattle.flow_meter.specs.declared.clock.Moment.{Moment as Stand}
use Rattle.flow_meter.specs.declared.packet.Timeouts.{Timeouts}
use Rattle.flow_meter.specs.declared.flow.EndedFlow.{EndedFlow}
use Rattle.flow_meter.specs.declared.meter.Meter.{Meter}
use Rattle.flow_meter.specs.Models.{causes_of, ended_of, flow_of}
use Rattle.flow_meter.specs.Held.{Holds, IsLetGo, IsSame, Slots, Stays, flow_at, flow_in, places_in, places_of, slots_of}
use Rattle.flow_meter.specs.Passes.{HasPassed, HasTold, IsPassing, PassesAt, Tells, is_due}
use Rattle.flow_meter.proofs.PlacedLemmas.{at_held, has_place, same_from}

-- ---- lists

module _ {A : Type 0} where
  -- members that pass the one test pass the other: both leave what the one does
  pub filter_members : (f g : A → Bool) (xs : List A) → ((x : A) → In x xs → f x ≡ true → g x ≡ true) →
      filter f (filter g xs) ≡ filter f xs
  filter_members f g [] goes = refl
  filter_members f g (x ∷ xs) goes =
      let rest = filter_members f g xs (λ y within. goes y (inr within)) in
      elim (cases_Bool (g x)) [
        | inl passes ↦
            ap (filter f) (filter_kept g x xs passes) ∙ elim (cases_Bool (f x)) [
              | inl both ↦ filter_kept f x (filter g xs) both ∙ ap (λ (l : List A). x ∷ l) rest
                  ∙ sym (filter_kept f x xs both)
              | inr fails ↦ filter_dropped f x (filter g xs) fails ∙ rest ∙ sym (filter_dropped f x xs fails)
            ]
        | inr drops ↦
            ap (filter f) (filter_dropped g x xs drops) ∙ rest ∙ elim (cases_Bool (f x)) [
              | inl both ↦ absurd (not_both (g x) (goes x (inl refl) both) drops)
              | inr fails ↦ sym (filter_dropped f x xs fails)
            ]
      ]

-- the records of both
map_joined : (xs ys : List EndedFlow) → map ended_of (xs ++ ys) ≡ map ended_of xs ++ map ended_of ys
map_joined [] ys = refl
map_joined (x ∷ xs) ys = ap (λ (l : List Ended). ended_of x ∷ l) (map_joined xs ys)

-- ---- a step

-- what passed up to a place: no flow that is due is left at the places before it
pub record PassedTo (due : Flow → Bool) (old new : Meter) (place : ℕ) (told : List EndedFlow) : Type 0 where
  pub passing : IsPassing due old new told
  pub before : (other : ℕ) (flow : Flow) → other < place → flow_at (slots_of new) other ≡ Some flow →
      due flow ≡ false

module _ (due : Flow → Bool) where
  -- where a flow is taken out of these, the same ones are kept, and its record stands for it
  module _ (rest : List Flow) (flow : Flow) (apart : filter (is_at flow.key) rest ≡ flow ∷ [])
      (is_due : due flow ≡ true) where
    kept_same : filter (λ one. not (due one)) (filter (is_other flow.key) rest) ≡ filter (λ one. not (due one)) rest
    kept_same = filter_members (λ one. not (due one)) (is_other flow.key) rest
        (λ one within kept. elim (cases_Bool (is_other flow.key one)) [
          | inl other ↦ other
          | inr same ↦ absurd (not_both (not (due one)) kept
              (ap not (ap due (is_flow one within (same_from flow.key one same)) ∙ is_due)))
        ])
      where
        is_flow : (one : Flow) → In one rest → same_key flow.key one.key ≡ true → one ≡ flow
        is_flow one within same = only_one (subst (In one) apart
            (filter_in (is_at flow.key) rest one within same))
          where
            only_one : In one (flow ∷ []) → one ≡ flow
            only_one (inl is) = is
            only_one (inr none) = absurd none

    one_record : (key : Key) → of_key key (with_time flow ∷ [])
        ++ of_key key (map with_time (filter due (filter (is_other flow.key) rest)))
        ≡ of_key key (map with_time (filter due rest))
    one_record key = elim (cases_Bool (same_key key flow.key)) [
      | inl same ↦
          let is : key ≡ flow.key = key_is key flow.key same in
          let none : filter (is_at key) (filter due (filter (is_other flow.key) rest)) ≡ [] =
          filter_swap (is_at key) due (filter (is_other flow.key) rest)
          ∙ ap (filter due) (ap (λ (k : Key). filter (is_at k) (filter (is_other flow.key) rest)) is
          ∙ none_left flow.key rest) in
          let one : filter (is_at key) (filter due rest) ≡ flow ∷ [] =
          filter_swap (is_at key) due rest
          ∙ ap (filter due) (ap (λ (k : Key). filter (is_at k) rest) is ∙ apart) ∙ filter_kept due flow [] is_due in
          ap (λ (l : List Ended). l ++ of_key key (map with_time (filter due (filter (is_other flow.key) rest))))
          (key_map key (flow ∷ []) ∙ ap (map with_time) (filter_kept (is_at key) flow [] same))
          ∙ ap (λ (l : List Ended). with_time flow ∷ l)
          (key_map key (filter due (filter (is_other flow.key) rest)) ∙ ap (map with_time) none)
          ∙ sym (key_map key (filter due rest) ∙ ap (map with_time) one)
      | inr differ ↦
          let all : filter (is_at key) (filter due (filter (is_other flow.key) rest))
          ≡ filter (is_at key) (filter due rest) =
          filter_swap (is_at key) due (filter (is_other flow.key) rest)
          ∙ ap (filter due) (filter_both (is_at key) (is_other flow.key) rest
          (λ one at. other_key one at differ))
          ∙ sym (filter_swap (is_at key) due rest) in
          ap (λ (l : List Ended). l ++ of_key key (map with_time (filter due (filter (is_other flow.key) rest))))
          (key_map key (flow ∷ []) ∙ ap (map with_time) (filter_dropped (is_at key) flow [] differ))
          ∙ key_map key (filter due (filter (is_other flow.key) rest)) ∙ ap (map with_time) all
          ∙ sym (key_map key (filter due rest))
    ]
      where
        other_key : (one : Flow) → same_key key one.key ≡ true → same_key key flow.key ≡ false →
            is_other flow.key one ≡ true
        other_key one at differ =
            not_from_false (same_key flow.key one.key) (false_from_ne_true (same_key flow.key one.key)
            (λ same. not_both (same_key key flow.key)
            (ap (same_key key) (key_is flow.key one.key same) ∙ at) differ))

  -- a place more
  pub passed_more : (old mid new : Meter) (place : ℕ) (told more : List EndedFlow) →
      PassedTo due old mid place told → PassesAt due mid new place more →
      PassedTo due old new (place + 1) (told ++ more)
  passed_more old mid new place told [] passed leaves = record {
    passing = λ last held h.
        let was = passed.passing last held h in (
          was.0,
          subst (λ (s : Slots). Holds s last was.0) (sym leaves.same.slots) was.1,
          subst (HasTold due held was.0) (sym (append-nil told)) was.2,
        );
    before = λ other flow few at.
        let before : flow_at (slots_of mid) other ≡ Some flow =
        ap (λ (s : Slots). flow_at s other) (sym leaves.same.slots) ∙ at in
        elim (cases_eq other place) [
          | inl same ↦ leaves.kept flow (ap (flow_at (slots_of mid)) (sym same) ∙ before)
          | inr differ ↦ passed.before other flow (omega (arith, few, differ)) before
        ];
  }
  passed_more old mid new place told (ended ∷ []) passed takes = record {
    passing = λ last held h.
        let was = passed.passing last held h in
        let gone : IsLetGo mid new place ended.flow = takes.taken in
        let flow : Flow = flow_of ended.flow in
        let apart = was.1.apart flow (at_held (slots_of mid) last was.0 was.1 place flow gone.was) in (
          filter (is_other flow.key) was.0,
          gone.rest last was.0 was.1,
          record {
            kept = kept_same was.0 flow apart takes.due ∙ was.2.kept;
            records = λ key. records key was.0 flow apart takes.due (ended_is takes.by) ∙ was.2.records key;
          },
        );
    before = λ other flow few at.
        let gone : IsLetGo mid new place ended.flow = takes.taken in
        elim (cases_eq other place) [
          | inl same ↦ absurd (none_some (sym gone.gone ∙ ap (flow_at (slots_of new)) (sym same) ∙ at))
          | inr differ ↦
              passed.before other flow (omega (arith, few, differ)) (sym (gone.others other differ) ∙ at)
        ];
  }
    where
      ended_is : ended.by ≡ None → ended_of ended ≡ with_time (flow_of ended.flow)
      ended_is by = ap (λ b. record { flow = flow_of ended.flow; by = causes_of b }) by

      records : (key : Key) (rest : List Flow) (flow : Flow) → filter (is_at flow.key) rest ≡ flow ∷ [] →
          due flow ≡ true → ended_of ended ≡ with_time flow →
          of_key key (map ended_of (told ++ ended ∷ []) ++ map with_time (filter due (filter (is_other flow.key) rest)))
          ≡ of_key key (map ended_of told ++ map with_time (filter due rest))
      records key rest flow apart is_so is =
          let before : List Ended = map ended_of told in
          let later : List Ended = map with_time (filter due (filter (is_other flow.key) rest)) in
          let own : Ended → Bool = λ e. same_key key e.flow.key in
          ap (λ (l : List Ended). of_key key (l ++ later))
          (map_joined told (ended ∷ []) ∙ ap (λ (e : Ended). before ++ e ∷ []) is)
          ∙ ap (of_key key) (append_assoc before (with_time flow ∷ []) later)
          ∙ filter-append own before (with_time flow ∷ later)
          ∙ ap (λ (l : List Ended). of_key key before ++ l)
          (filter-append own (with_time flow ∷ []) later ∙ one_record rest flow apart is_so key)
          ∙ sym (filter-append own before (map with_time (filter due rest)))
  passed_more old mid new place told (ended ∷ other ∷ others) passed none = absurd none

  -- behind the last place all that is due has been told
  pub passed_all : (old new : Meter) (told : List EndedFlow) → PassedTo due old new (places_of new) told →
      HasPassed due old new told
  passed_all old new told passed last held h =
      let was = passed.passing last held h in
      let all : (flow : Flow) → In flow was.0 → due flow ≡ false = λ flow within.
      (let at = has_place (slots_of new) last was.0 was.1 flow within in
      passed.before at.0 flow (inside at.0 flow at.1) at.1) in
      let none : filter due was.0 ≡ [] = filter_none due was.0 all in
      let rest : filter (λ one. not (due one)) was.0 ≡ was.0 =
      filter_all (λ one. not (due one)) was.0 (λ flow within. not_from_false (due flow) (all flow within)) in (
        subst (Holds (slots_of new) last) (sym rest ∙ was.2.kept) was.1,
        λ key. ap (of_key key) (sym (append-nil (map ended_of told))
            ∙ ap (λ (l : List Flow). map ended_of told ++ map with_time l) (sym none))
            ∙ was.2.records key,
      )
    where
      inside : (place : ℕ) (flow : Flow) → flow_at (slots_of new) place ≡ Some flow → place < places_of new
      inside place flow at = elim (cases_lt place (places_of new)) [
        | inl few ↦ few
        | inr past ↦ absurd (none_some (sym (ap flow_in (slice_get_past new.flows.items place past)) ∙ at))
      ]

-- ---- the loop

-- behind so many places, with what was told before
abbrev pub PassedSo : Option Stand → (old new : Meter) → ℕ → (before after : List EndedFlow) → Type 0
PassedSo now old new place before after =
    Stays old new × Tells (PassedTo (is_due old.times now) old new place) before after

module _ (now : Option Stand) where
  pub passed_start : (old new : Meter) (before : List EndedFlow) → IsSame old new → PassedSo now old new 0 before before
  passed_start old new before same = (
    record { times = same.times; places = ap places_in same.slots },
    (
      [],
      sym (append-nil before),
      record {
        passing = λ last held h. (
          held,
          subst (λ (s : Slots). Holds s last held) (sym same.slots) h,
          record { kept = refl; records = λ key. refl },
        );
        before = λ other flow few at. absurd (omega (arith, few));
      },
    ),
  )

  pub passed_step : (old mid new : Meter) (place : ℕ) (before between after : List EndedFlow) →
      PassedSo now old mid place before between → Stays mid new →
      Tells (PassesAt (is_due mid.times now) mid new place) between after →
      PassedSo now old new (place + 1) before after
  passed_step old mid new place before between after passed stays tells = (
    record { times = stays.times ∙ passed.0.times; places = stays.places ∙ passed.0.places },
    (
      passed.1.0 ++ tells.0,
      tells.1 ∙ ap (λ (l : List EndedFlow). l ++ tells.0) passed.1.1 ∙ append_assoc before passed.1.0 tells.0,
      passed_more (is_due old.times now) old mid new place passed.1.0 tells.0 passed.1.2
          (subst (λ (t : Timeouts). PassesAt (is_due t now) mid new place tells.0) passed.0.times tells.2),
    ),
  )

  pub passed_end : (old new : Meter) (place : ℕ) (before after : List EndedFlow) →
      PassedSo now old new place before after → place ≡ places_of old →
      Tells (HasPassed (is_due old.times now) old new) before after
  passed_end old new place before after passed all = (
    passed.1.0,
    passed.1.1,
    passed_all (is_due old.times now) old new passed.1.0
        (subst (λ (n : ℕ). PassedTo (is_due old.times now) old new n passed.1.0) (all ∙ sym passed.0.places)
        passed.1.2),
  )

  pub passed_so_far : (old mid new : Meter) (place : ℕ) (before between after : List EndedFlow) →
      PassedSo now old mid place before between → IsSame mid new → after ≡ between →
      Tells (IsPassing (is_due old.times now) old new) before after
  passed_so_far old mid new place before between after passed same is = (
    passed.1.0,
    is ∙ passed.1.1,
    λ last held h.
        let was = passed.1.2.passing last held h in
        (was.0, subst (λ (s : Slots). Holds s last was.0) (sym same.slots) was.1, was.2),
  )
