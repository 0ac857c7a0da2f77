-- A call that is quiet leaves the pairs of its bucket as they are.
use Rattle.std.proofs.Common.{◌≡◌, ℕ, Bool, true, false, cond, not, List, [], ◌∷◌, Option, Some, None, refl, sym, ap, ◌∙◌, true≢false}
use Rattle.std.specs.Prelude.{◌==◌}
use Rattle.std.proofs.lemmas.Bool.{eqb-true}
use Rattle.plain_map.specs.declared.calls.Call.{Call}
use Rattle.plain_map.specs.declared.calls.Call.TheVariants.{Insert, Remove, Lookup, Tally, Count, Put}
use Rattle.plain_map.specs.declared.keys.Key.{Key}
use Rattle.plain_map.specs.declared.keys.Pair.{Pair}
use Rattle.plain_map.specs.declared.rules.Rules.{Rules}
use Rattle.plain_map.specs.Keys.{Session, held_in, pair_of}
use Rattle.plain_map.specs.PlainObject.{new_session, counted_session, grown, revalued}
use Rattle.plain_map.specs.Updates.{summed}
use Rattle.bucket_states.specs.Items.{same_key, value_at, has_place, changed_in, with_change, without, appended, revised_in, items_after}
use Rattle.exchange_model.specs.Goes.{changes_nothing, is_quiet}

abbrev given : Session → Option Session → Session
given other None = other
given other (Some held) = held

none_some : (held : Session) → None ≡ Some held → ⊥
none_some held e = cc

some_none : (held : Session) → Some held ≡ None → ⊥
some_none held e = cc

-- where the key is not there, there is nothing to change or to take out
changed_none : (key : Key) (change : Session → Session) (items : List Pair) → value_at key items ≡ None →
    changed_in key change items ≡ items
changed_none key change [] none = refl
changed_none key change (pair ∷ pairs) none = go (same_key pair.key key) none (changed_none key change pairs)
  where
    go : (b : Bool) → cond b (Some (held_in pair)) (value_at key pairs) ≡ None →
        (value_at key pairs ≡ None → changed_in key change pairs ≡ pairs) →
        cond b (with_change change pair ∷ pairs) (pair ∷ changed_in key change pairs) ≡ pair ∷ pairs
    go true e rest = absurd (some_none (held_in pair) e)
    go false e rest = ap (λ (ps : List Pair). pair ∷ ps) (rest e)

without_none : (key : Key) (items : List Pair) → value_at key items ≡ None → without key items ≡ items
without_none key [] none = refl
without_none key (pair ∷ pairs) none = go (same_key pair.key key) none (without_none key pairs)
  where
    go : (b : Bool) → cond b (Some (held_in pair)) (value_at key pairs) ≡ None →
        (value_at key pairs ≡ None → without key pairs ≡ pairs) →
        cond b pairs (pair ∷ without key pairs) ≡ pair ∷ pairs
    go true e rest = absurd (some_none (held_in pair) e)
    go false e rest = ap (λ (ps : List Pair). pair ∷ ps) (rest e)

-- a change that leaves what is held leaves the pairs
changed_same : (key : Key) (change : Session → Session) (items : List Pair) (held : Session) →
    value_at key items ≡ Some held → change held ≡ held → changed_in key change items ≡ items
changed_same key change [] held some same = absurd (none_some held some)
changed_same key change (pair ∷ pairs) held some same =
    go (same_key pair.key key) some (λ e. changed_same key change pairs held e same)
  where
    go : (b : Bool) → cond b (Some (held_in pair)) (value_at key pairs) ≡ Some held →
        (value_at key pairs ≡ Some held → changed_in key change pairs ≡ pairs) →
        cond b (with_change change pair ∷ pairs) (pair ∷ changed_in key change pairs) ≡ pair ∷ pairs
    go true e rest =
        let is : held_in pair ≡ held = ap (given held) e in
        ap (λ (h : Session). pair_of (pair.key, h) ∷ pairs) (ap change is ∙ same ∙ sym is)
    go false e rest = ap (λ (ps : List Pair). pair ∷ ps) (rest e)

-- so many bytes more that are none, and a value that is the same
grown_same : (held : Session) (amount : ℕ) → (summed held.bytes amount == held.bytes) ≡ true → grown held amount ≡ held
grown_same held amount e =
    (let same = eqb-true (summed held.bytes amount) held.bytes e in λ i. record held { bytes = same i })

revalued_same : (held : Session) (value : ℕ) → (held.value == value) ≡ true → revalued held value ≡ held
revalued_same held value e = (let same = sym (eqb-true held.value value e) in λ i. record held { value = same i })

none_placed : (place : Bool) → not place ≡ true → place ≡ false
none_placed true e = sym e
none_placed false e = refl

appended_same : (items : List Pair) (pair : Pair) (place : Bool) → not place ≡ true →
    appended items pair None place ≡ items
appended_same items pair true e = absurd (true≢false (sym e))
appended_same items pair false e = refl

revised_same : (items : List Pair) (key : Key) (new : Session) (change : Session → Session) (place : Bool) →
    not place ≡ true → revised_in items key new change None place ≡ items
revised_same items key new change true e = absurd (true≢false (sym e))
revised_same items key new change false e = refl

-- THE RESULT
pub quiet_same : (rules : Rules) (items : List Pair) (call : Call) → is_quiet rules items call ≡ true →
    items_after rules items call ≡ items
unfolding items_after
quiet_same rules items (Insert key value) quiet = go (value_at key items) quiet
  where
    go : (held : Option Session) → changes_nothing (Insert key value) held (has_place rules items) ≡ true →
        appended items (pair_of (key, new_session value)) held (has_place rules items) ≡ items
    go (Some held) e = refl
    go None e = appended_same items (pair_of (key, new_session value)) (has_place rules items) e
quiet_same rules items (Remove key) quiet = go (value_at key items) refl quiet
  where
    go : (held : Option Session) → value_at key items ≡ held →
        changes_nothing (Remove key) held (has_place rules items) ≡ true → without key items ≡ items
    go (Some held) is e = absurd (true≢false (sym e))
    go None is e = without_none key items is
quiet_same rules items (Lookup key) quiet = refl
quiet_same rules items (Tally key amount) quiet = go (value_at key items) refl quiet
  where
    go : (held : Option Session) → value_at key items ≡ held →
        changes_nothing (Tally key amount) held (has_place rules items) ≡ true →
        changed_in key (λ held. grown held amount) items ≡ items
    go (Some held) is e = changed_same key (λ held. grown held amount) items held is (grown_same held amount e)
    go None is e = changed_none key (λ held. grown held amount) items is
quiet_same rules items (Count key value amount) quiet = go (value_at key items) refl quiet
  where
    go : (held : Option Session) → value_at key items ≡ held →
        changes_nothing (Count key value amount) held (has_place rules items) ≡ true →
        revised_in items key (counted_session value amount) (λ held. grown held amount) held (has_place rules items)
        ≡ items
    go (Some held) is e = changed_same key (λ held. grown held amount) items held is (grown_same held amount e)
    go None is e =
        revised_same items key (counted_session value amount) (λ held. grown held amount) (has_place rules items) e
quiet_same rules items (Put key value) quiet = go (value_at key items) refl quiet
  where
    go : (held : Option Session) → value_at key items ≡ held →
        changes_nothing (Put key value) held (has_place rules items) ≡ true →
        revised_in items key (new_session value) (λ held. revalued held value) held (has_place rules items) ≡ items
    go (Some held) is e = changed_same key (λ held. revalued held value) items held is (revalued_same held value e)
    go None is e = revised_same items key (new_session value) (λ held. revalued held value) (has_place rules items) e
