-- All calls of seats that are dealt their classes are legal as they were asked.
use Rattle.std.proofs.Common.{◌≡◌, ℕ, ◌<◌, inl, inr, Bool, true, false, cond, true≢false, List, [], ◌∷◌, Some, None, refl, sym, ap, ◌∙◌, subst}
use Rattle.std.specs.Prelude.{◌==◌, filter}
use Rattle.std.specs.FinMap.{empty}
use Rattle.std.specs.List.{cons_option}
use Rattle.std.proofs.lemmas.Bool.{cases_Bool, eq-eqb, eqb-true}
use Rattle.list_laws.proofs.Lists.{In}
use Rattle.plain_map.specs.declared.keys.Key.{Key}
use Rattle.plain_map.specs.declared.rules.Rules.{Rules}
use Rattle.plain_map.specs.Calls.{key_in, is_update}
use Rattle.plain_map.specs.PlainObject.{Sessions, class_of}
use Rattle.bucket_states.specs.Parts.{HoldsPart}
use Rattle.map_laws.specs.ByKey.{Made, updates_in}
use Rattle.map_laws.proofs.ByKeyLists.{filter_kept, filter_dropped, filter_swap}
use Rattle.exchange_model.specs.Plans.{Plan, rules_of}
use Rattle.exchange_model.specs.Steps.{MadeBySeat}
use Rattle.exchange_model.specs.Laws.{all_made, made_by, pairs_in}
use Rattle.exchange_model.specs.Worlds.{Event, IsRun, World, world_after}
use Rattle.exchange_laws.specs.Orders.{AllAreIdle}
use Rattle.class_laws.specs.ByClass.{is_in, of_class, AgreeByClass}
use Rattle.class_laws.proofs.ByClass.{classes_are_served_in_turn}
use Rattle.class_laws.proofs.Looks.{looks_stand_in_place}
use Rattle.exchange_turns.specs.Turns.{AreAnswered, ClassesHaveTurns, HasTurns, dealt_to, seat_of_key}
use Rattle.exchange_turns.proofs.CallLists.{updates_of_seat}
use Rattle.exchange_turns.proofs.SeatUpdates.{in_end, made_in_end, right_in_end, tells}

-- where all that pass are dealt to one seat, they are all among those that it is dealt
passing_dealt : (deals : Key → ℕ) (seat : ℕ) (f : Made → Bool) →
    ((made : Made) → f made ≡ true → deals (key_in made.0) ≡ seat) → (calls : List Made) →
    filter f (dealt_to deals seat calls) ≡ filter f calls
passing_dealt deals seat f its [] = refl
passing_dealt deals seat f its (made ∷ calls) = elim (cases_Bool (f made)) [
  | inl passes ↦
      ap (filter f) (filter_kept (λ (m : Made). deals (key_in m.0) == seat) made calls
      (eq-eqb (deals (key_in made.0)) seat (its made passes)))
      ∙ filter_kept f made (dealt_to deals seat calls) passes
      ∙ ap (λ (l : List Made). made ∷ l) (passing_dealt deals seat f its calls)
      ∙ sym (filter_kept f made calls passes)
  | inr fails ↦
      (elim (cases_Bool (deals (key_in made.0) == seat)) [
        | inl same ↦ ap (filter f) (filter_kept (λ (m : Made). deals (key_in m.0) == seat) made calls same)
            ∙ filter_dropped f made (dealt_to deals seat calls) fails
        | inr other ↦ ap (filter f) (filter_dropped (λ (m : Made). deals (key_in m.0) == seat) made calls other)
      ])
      ∙ passing_dealt deals seat f its calls ∙ sym (filter_dropped f made calls fails)
]

-- and all among those that it made, where each update is of its key's seat
passing_made : (deals : Key → ℕ) (seat : ℕ) (f : Made → Bool) →
    ((made : Made) → f made ≡ true → deals (key_in made.0) ≡ seat) → (made : List MadeBySeat) →
    ((one : MadeBySeat) → In one made → deals (key_in one.1.0) ≡ one.0) →
    filter f (all_made made) ≡ filter f (made_by seat made)
passing_made deals seat f its [] right_ones = refl
passing_made deals seat f its (one ∷ made) right_ones =
    go (passing_made deals seat f its made (λ other i. right_ones other (inr i))) (f one.1) refl (one.0 == seat) refl
  where
    those : List Made
    those = made_by seat made

    go : filter f (all_made made) ≡ filter f those → (b : Bool) → f one.1 ≡ b → (c : Bool) → (one.0 == seat) ≡ c →
        cond b (one.1 ∷ filter f (all_made made)) (filter f (all_made made))
        ≡ filter f (cons_option (cond c (Some one.1) None) those)
    go rest b is true same = (λ i. cond b (one.1 ∷ rest i) (rest i))
        ∙ ap (λ (t : Bool). cond t (one.1 ∷ filter f those) (filter f those)) (sym is)
    go rest false is false other = rest
    go rest true is false other = absurd (true≢false (sym (eq-eqb one.0 seat
        (sym (right_ones one (inl refl)) ∙ its one.1 is)) ∙ other))

module _ (plan : Plan) (events : List Event) (deals : ℕ → ℕ) (asked : List Made) (run : IsRun plan events)
    (rest : AllAreIdle plan (world_after plan events)) (inside : (class : ℕ) → deals class < plan.settings.seats)
    (answered : AreAnswered plan (seat_of_key plan deals) (world_after plan events) asked) where
  abbrev rules : Rules
  rules = rules_of plan

  abbrev after : World
  after = world_after plan events

  abbrev by_key : Key → ℕ
  by_key = seat_of_key plan deals

  -- a call of a class is dealt to the seat of that class
  its_seat : (class : ℕ) (made : Made) → is_in rules class made ≡ true → by_key (key_in made.0) ≡ deals class
  its_seat class made is = ap deals (eqb-true (class_of rules (key_in made.0)) class is)

  -- so the updates of all seats are those that were asked, class by class
  updates_alike : AgreeByClass rules (all_made after.made) (updates_in asked)
  updates_alike class =
      passing_made by_key (deals class) (is_in rules class) (its_seat class) after.made
      (right_in_end plan events by_key asked run rest answered)
      ∙ ap (of_class rules class) (made_in_end plan events by_key asked run rest answered (deals class) (inside class)
      ∙ updates_of_seat (deals class) after.answers
      ∙ ap updates_in (answered.answered (deals class) (inside class)))
      ∙ filter_swap (is_in rules class) (λ (m : Made). is_update m.0) (dealt_to by_key (deals class) asked)
      ∙ ap updates_in (passing_dealt by_key (deals class) (is_in rules class) (its_seat class) asked)
      ∙ filter_swap (λ (m : Made). is_update m.0) (is_in rules class) asked

  turns : HasTurns plan after asked
  turns =
      let order = in_end plan events by_key asked run rest answered in
      let updates = classes_are_served_in_turn rules empty (all_made after.made) (updates_in asked) order.legal
      updates_alike in
      let all = looks_stand_in_place rules empty asked updates.0
      (λ front back key reply cut. tells plan events by_key asked run rest answered front back key reply cut) in
      record {
        legal = all.0;
        held = λ bucket below. subst (λ (s : Sessions). HoldsPart rules bucket plan.settings.depth
            (pairs_in plan after bucket) s) (updates.1 ∙ sym all.1) (order.held bucket below);
      }

-- THE RESULT
pub classes_have_turns : ClassesHaveTurns
classes_have_turns plan events deals asked run rest inside answered =
    turns plan events deals asked run rest inside answered
