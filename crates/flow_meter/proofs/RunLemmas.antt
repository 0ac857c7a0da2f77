-- Events one behind the other, and a meter behind them.
use Rattle.std.proofs.Common.{◌≡◌, Bool, true, List, [], ◌∷◌, ◌++◌, filter, map, refl, sym, ap, ◌∙◌, subst, append_assoc}
use Rattle.std.proofs.lemmas.List.{append-nil}
use Rattle.std.proofs.lemmas.List.Elements.{filter-append}
use Rattle.flow_times.specs.Flows.{Flow, Times}
use Rattle.flow_times.specs.Passes.{Event}
use Rattle.flow_times.specs.Passes.Event.{Takes, Passes}
use Rattle.flow_times.specs.Metered.{Ended, HaveSameRecords, Rules, ended_in, is_live, is_past, metered, of_key, run_on, same_key, with_time}
use Rattle.flow_times.proofs.Filters.{filter_all}
use Rattle.flow_times.proofs.Sweeps.{passes_do_not_matter}
use Rattle.flow_meter.specs.Models.{ended_of, moment_of, times_of, use_of}
use Rattle.flow_meter.specs.Held.{Holds, slots_of}
use Rattle.flow_meter.specs.Runs.{BeginsSo, FinishesSo, PassesSo, TakesSo}

module _ (rules : Rules) where
  -- what is held behind both
  pub held_joined : (held : List Flow) (front back : List Event) →
      (run_on rules held (front ++ back)).held ≡ (run_on rules (run_on rules held front).held back).held
  held_joined held [] back = refl
  held_joined held (Takes packet ∷ front) back = held_joined (metered rules held packet).held front back
  held_joined held (Passes now ∷ front) back = held_joined (filter (is_live rules.times now) held) front back

  -- and what has ended
  pub ended_joined : (held : List Flow) (front back : List Event) →
      (run_on rules held (front ++ back)).ended
      ≡ (run_on rules held front).ended ++ (run_on rules (run_on rules held front).held back).ended
  ended_joined held [] back = refl
  ended_joined held (Takes packet ∷ front) back =
      let m = metered rules held packet in
      ap (λ (l : List Ended). m.ended ++ l) (ended_joined m.held front back)
      ∙ sym (append_assoc m.ended (run_on rules m.held front).ended
      (run_on rules (run_on rules m.held front).held back).ended)
  ended_joined held (Passes now ∷ front) back =
      let left = filter (is_live rules.times now) held in
      let out = map with_time (filter (is_past rules.times now) held) in
      ap (λ (l : List Ended). out ++ l) (ended_joined left front back)
      ∙ sym (append_assoc out (run_on rules left front).ended
      (run_on rules (run_on rules left front).held back).ended)

  -- what ends at all is what has ended, and what is held then
  pub ended_all : (held : List Flow) (events : List Event) →
      ended_in rules held events
      ≡ (run_on rules held events).ended ++ map with_time (run_on rules held events).held
  ended_all held [] = refl
  ended_all held (Takes packet ∷ events) =
      let m = metered rules held packet in
      ap (λ (l : List Ended). m.ended ++ l) (ended_all m.held events)
      ∙ sym (append_assoc m.ended (run_on rules m.held events).ended (map with_time (run_on rules m.held events).held))
  ended_all held (Passes now ∷ events) =
      let left = filter (is_live rules.times now) held in
      let out = map with_time (filter (is_past rules.times now) held) in
      ap (λ (l : List Ended). out ++ l) (ended_all left events)
      ∙ sym (append_assoc out (run_on rules left events).ended (map with_time (run_on rules left events).held))

-- records of lists that are the same in both parts
pub same_joined : (one other more others : List Ended) → HaveSameRecords one other → HaveSameRecords more others →
    HaveSameRecords (one ++ more) (other ++ others)
same_joined one other more others first rest key =
    let own : Ended → Bool = λ e. same_key key e.flow.key in
    filter-append own one more ∙ ap (λ (l : List Ended). l ++ of_key key more) (first key)
    ∙ ap (λ (l : List Ended). of_key key other ++ l) (rest key) ∙ sym (filter-append own other others)

pub begins_so : BeginsSo
begins_so rules meter fresh = record { held = fresh; same = λ key. refl }

pub takes_so : TakesSo
takes_so rules events last old new packet told ended is holds made =
    let h : List Flow = (run_on rules [] events).held in
    let m = metered rules h (use_of packet) in record {
      held = subst (Holds (slots_of new) packet.number)
          (sym (held_joined rules [] events (Takes (use_of packet) ∷ []))) holds;
      same = subst (HaveSameRecords (told ++ ended))
          (sym (ended_joined rules [] events (Takes (use_of packet) ∷ [])
          ∙ ap (λ (l : List Ended). (run_on rules [] events).ended ++ l) (append-nil m.ended ∙ made)))
          (same_joined told (run_on rules [] events).ended ended ended is.same (λ key. refl));
    }

pub passes_so : PassesSo
passes_so rules events last old new now told more times is passed =
    let h : List Flow = (run_on rules [] events).held in
    let by = passed last h is.held in record {
      held = subst (Holds (slots_of new) last)
          (ap (λ (t : Times). filter (is_live t (moment_of now)) h) (sym times)
          ∙ sym (held_joined rules [] events (Passes (moment_of now) ∷ []))) by.0;
      same = subst (HaveSameRecords (told ++ map ended_of more))
          (ap (λ (t : Times). (run_on rules [] events).ended ++ map with_time (filter (is_past t (moment_of now)) h))
          (sym times)
          ∙ ap (λ (l : List Ended). (run_on rules [] events).ended ++ l)
          (sym (append-nil (map with_time (filter (is_past rules.times (moment_of now)) h))))
          ∙ sym (ended_joined rules [] events (Passes (moment_of now) ∷ [])))
          (same_joined told (run_on rules [] events).ended (map ended_of more)
          (map with_time (filter (is_past (times_of old.times) (moment_of now)) h)) is.same by.1);
    }

pub finishes_so : FinishesSo
finishes_so rules start events last old new told more some from is passed key =
    let h : List Flow = (run_on rules [] events).held in
    let by = passed last h is.held in
    let all : filter (λ flow. true) h ≡ h = filter_all (λ flow. true) h (λ flow within. refl) in
    same_joined told (run_on rules [] events).ended (map ended_of more) (map with_time h) is.same
    (λ k. by.1 k ∙ ap (λ (l : List Flow). of_key k (map with_time l)) all) key
    ∙ ap (of_key key) (sym (ended_all rules [] events))
    ∙ passes_do_not_matter rules start events some from key
