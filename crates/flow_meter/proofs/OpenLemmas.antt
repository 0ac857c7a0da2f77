-- A meter that is opened: no place has a flow, and all are free.
use Rattle.std.proofs.Common.{◌≡◌, ℕ, ◌+◌, ◌<◌, List, [], ◌∷◌, ◌++◌, length, take, inl, inr, refl, sym, ap, ◌∙◌, subst, arith, Option, Some, None, slice_get}
use Rattle.std.proofs.lemmas.List.{length-append}
use Rattle.std.proofs.Math.Seq.{take-length}
use Rattle.list_laws.proofs.Lists.{In, Once, in_at, in_both, once_both}
use Rattle.list_laws.proofs.Options.{none_some}
use Rattle.flow_meter.specs.declared.flow.FlowRecord.{FlowRecord}
use Rattle.flow_meter.specs.Held.{Holds, Slots, as_flow, flow_at, flow_in, free_in}

-- so many places stand there without a flow, and are told as free ones
pub record IsOpening (flows : List (Option FlowRecord)) (free : List ℕ) (many : ℕ) : Type 0 where
  pub none : (slot : Option FlowRecord) → In slot flows → slot ≡ None
  pub flows_many : length flows ≡ many
  pub free_many : length free ≡ many
  pub below : (place : ℕ) → In place free → place < many
  pub once : Once free

-- before the first one
pub opening_none : (flows : List (Option FlowRecord)) (free : List ℕ) → flows ≡ [] → free ≡ [] →
    IsOpening flows free 0
opening_none flows free no_flows no_free =
    subst (λ (l : List (Option FlowRecord)). IsOpening l free 0) (sym no_flows)
    (subst (λ (l : List ℕ). IsOpening [] l 0) (sym no_free) (record {
      none = λ slot within. absurd within;
      flows_many = refl;
      free_many = refl;
      below = λ place within. absurd within;
      once = tt;
    }))

-- and with one more
pub opening_more : (flows : List (Option FlowRecord)) (free : List ℕ) (many : ℕ) → IsOpening flows free many →
    IsOpening (flows ++ None ∷ []) (free ++ many ∷ []) (many + 1)
opening_more flows free many is = record {
  none = λ slot within. elim (in_both slot flows (None ∷ []) within) [
    | inl before ↦ is.none slot before
    | inr here ↦ last slot here
  ];
  flows_many = length-append flows (None ∷ []) ∙ ap (λ (n : ℕ). n + 1) is.flows_many;
  free_many = length-append free (many ∷ []) ∙ ap (λ (n : ℕ). n + 1) is.free_many;
  below = λ place within. elim (in_both place free (many ∷ []) within) [
    | inl before ↦ (let few = is.below place before in omega (arith, few))
    | inr here ↦ last_place place here
  ];
  once = once_both free (many ∷ []) is.once ((λ none. none), tt) (λ place before here. apart place before here);
}
  where
    last : (slot : Option FlowRecord) → In slot (None ∷ []) → slot ≡ None
    last slot (inl same) = same
    last slot (inr none) = absurd none

    last_place : (place : ℕ) → In place (many ∷ []) → place < many + 1
    last_place place (inl same) = omega (arith, same)
    last_place place (inr none) = absurd none

    apart : (place : ℕ) → In place free → In place (many ∷ []) → ⊥
    apart place before (inl same) = let few = is.below place before in omega (arith, few, same)
    apart place before (inr none) = none

-- as it is pushed
pub opening_pushed : (flows new : List (Option FlowRecord)) (free new_free : List ℕ) (many : ℕ) →
    IsOpening flows free many → new ≡ flows ++ None ∷ [] → new_free ≡ free ++ many ∷ [] →
    IsOpening new new_free (many + 1)
opening_pushed flows new free new_free many is pushed told =
    subst (λ (l : List (Option FlowRecord)). IsOpening l new_free (many + 1)) (sym pushed)
    (subst (λ (l : List ℕ). IsOpening (flows ++ None ∷ []) l (many + 1)) (sym told)
    (opening_more flows free many is))

-- so no flow is held
pub opened : (slots : Slots) (many : ℕ) → IsOpening slots.flows slots.free many → slots.left ≡ many →
    Holds slots 0 []
opened slots many is left = record {
  placed = [];
  are_held = refl;
  there = λ one within. absurd within;
  whole = λ place flow at. absurd (none_some (sym (none place) ∙ at));
  apart = λ flow within. absurd within;
  numbered = λ flow other within. absurd within;
  up_to = λ flow within. absurd within;
  free = λ place within.
      let few = is.below place (subst (In place) all_free within) in
      (omega (arith, few, is.flows_many), none place);
  once = subst Once (sym all_free) is.once;
  few = omega (arith, left, is.flows_many);
  as_many = is.free_many ∙ sym is.flows_many;
}
  where
    all_free : free_in slots ≡ slots.free
    all_free = ap (λ (n : ℕ). take n slots.free) (left ∙ sym is.free_many) ∙ take-length slots.free

    none : (place : ℕ) → flow_at slots place ≡ None
    none place = go (slice_get slots.flows place) refl
      where
        go : (slot : Option (Option FlowRecord)) → slice_get slots.flows place ≡ slot → flow_at slots place ≡ None
        go None there = ap flow_in there
        go (Some slot) there =
            ap flow_in there ∙ ap as_flow (is.none slot (in_at slots.flows place slot there))
