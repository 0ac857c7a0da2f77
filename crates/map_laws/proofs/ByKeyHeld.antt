-- What a call leaves at each key, with a limit and without, and what a legal order leaves there.
use Rattle.std.proofs.Common.{◌≡◌, ℕ, Bool, true, false, cond, List, [], ◌∷◌, Option, Some, None, refl, inl, inr, sym, ap, ◌∙◌}
use Rattle.std.specs.Ordering.{eq_by_cmp}
use Rattle.std.specs.Option.{option_map}
use Rattle.std.specs.FinMap.{get, get-insert, get-remove, same_map}
use Rattle.std.proofs.lemmas.Bool.{cases_Bool}
use Rattle.plain_map.specs.declared.keys.Key.{Key}
use Rattle.plain_map.specs.declared.rules.Rules.{Rules}
use Rattle.plain_map.specs.declared.calls.Call.{Call}
use Rattle.plain_map.specs.declared.calls.Call.TheVariants.{Insert, Remove, Lookup, Tally, Count, Put}
use Rattle.plain_map.specs.declared.calls.Reply.{Reply}
use Rattle.plain_map.specs.Calls.{key_in}
use Rattle.plain_map.specs.Keys.{Session, key_cmp}
use Rattle.plain_map.specs.PlainObject.{Sessions, counted_session, new_session, count_reply, grown, has_room, insert_reply, inserted, reply_of, revalued, revised, map_after, tallied}
use Rattle.plain_map.proofs.KeyLemmas.{keys_total, exact_keys, tied}
use Rattle.map_laws.specs.ByKey.{Made, is_about, about, brought_by, held_after, held_by, free_reply, free_map_after, LegalFree, after_free, RecordsAreMade, KeysAreHeldByTheirCalls, AgreeingCallsHoldTheSame}
use Rattle.map_laws.proofs.ByKeyLists.{filter_kept, filter_dropped, about_is}

-- at the key of the call the reply tells what is held, and at each other key it stays
abbrev pub Leaves : Sessions → Made → Sessions → Type 0
Leaves m made n =
    (q : Key) → get n q ≡ cond (is_about q made) (held_after (get m (key_in made.0)) made) (get m q)

module _ (m : Sessions) (key q : Key) where
  -- what stays at the key stays at each
  same : (held : Option Session) → get m key ≡ held → get m q ≡ cond (eq_by_cmp key_cmp q key) held (get m q)
  same held is = elim (cases_Bool (eq_by_cmp key_cmp q key)) [
    | inl hits ↦ ap (get m) (exact_keys q key (tied (key_cmp q key) hits)) ∙ is
        ∙ sym (ap (λ b. cond b held (get m q)) hits)
    | inr misses ↦ sym (ap (λ b. cond b held (get m q)) misses)
  ]

  inserted_leaves : (new : Session) (held : Option Session) (room : Bool) → get m key ≡ held →
      get (inserted m key new held room) q
      ≡ cond (eq_by_cmp key_cmp q key) (brought_by (insert_reply held room) new (λ session. session) held) (get m q)
  inserted_leaves new (Some old) room is = same (Some old) is
  inserted_leaves new None true is = get-insert keys_total m key new q
  inserted_leaves new None false is = same None is

  put_leaves : (new : Session) (change : Session → Session) (held : Option Session) (room : Bool) →
      get m key ≡ held →
      get (revised m key new change held room) q
      ≡ cond (eq_by_cmp key_cmp q key) (brought_by (insert_reply held room) new change held) (get m q)
  put_leaves new change (Some old) room is = get-insert keys_total m key (change old) q
  put_leaves new change None true is = get-insert keys_total m key new q
  put_leaves new change None false is = same None is

  count_leaves : (amount : ℕ) (new : Session) (change : Session → Session) (held : Option Session) (room : Bool) →
      get m key ≡ held →
      get (revised m key new change held room) q
      ≡ cond (eq_by_cmp key_cmp q key) (brought_by (count_reply amount held room) new change held) (get m q)
  count_leaves amount new change (Some old) room is = get-insert keys_total m key (change old) q
  count_leaves amount new change None true is = get-insert keys_total m key new q
  count_leaves amount new change None false is = same None is

  tally_leaves : (amount : ℕ) (held : Option Session) → get m key ≡ held →
      get (tallied m key amount held) q
      ≡ cond (eq_by_cmp key_cmp q key) (option_map (λ session. grown session amount) held) (get m q)
  tally_leaves amount (Some old) is = get-insert keys_total m key (grown old amount) q
  tally_leaves amount None is = same None is

  -- a reply in place of another that is the same
  replied : (new : Session) (change : Session → Session) (told reply : Reply) → reply ≡ told →
      cond (eq_by_cmp key_cmp q key) (brought_by told new change (get m key)) (get m q)
      ≡ cond (eq_by_cmp key_cmp q key) (brought_by reply new change (get m key)) (get m q)
  replied new change told reply is =
      ap (λ r. cond (eq_by_cmp key_cmp q key) (brought_by r new change (get m key)) (get m q)) (sym is)

-- a call of the plain object
pub call_leaves : (rules : Rules) (m : Sessions) (call : Call) (reply : Reply) → reply ≡ reply_of rules m call →
    Leaves m (call, reply) (map_after rules m call)
unfolding reply_of map_after
call_leaves rules m (Insert key value) reply told q =
    inserted_leaves m key q (new_session value) (get m key) (has_room rules m key) refl
    ∙ replied m key q (new_session value) (λ session. session) _ reply told
call_leaves rules m (Remove key) reply told q = get-remove keys_total m key q
call_leaves rules m (Lookup key) reply told q = same m key q (get m key) refl
call_leaves rules m (Tally key amount) reply told q = tally_leaves m key q amount (get m key) refl
call_leaves rules m (Count key value amount) reply told q =
    count_leaves m key q amount (counted_session value amount) (λ held. grown held amount) (get m key)
    (has_room rules m key) refl
    ∙ replied m key q (counted_session value amount) (λ held. grown held amount) _ reply told
call_leaves rules m (Put key value) reply told q =
    put_leaves m key q (new_session value) (λ held. revalued held value) (get m key) (has_room rules m key) refl
    ∙ replied m key q (new_session value) (λ held. revalued held value) _ reply told

-- a call of the map without a limit
pub free_call_leaves : (m : Sessions) (call : Call) (reply : Reply) → reply ≡ free_reply m call →
    Leaves m (call, reply) (free_map_after m call)
unfolding free_reply free_map_after
free_call_leaves m (Insert key value) reply told q =
    inserted_leaves m key q (new_session value) (get m key) true refl
    ∙ replied m key q (new_session value) (λ session. session) _ reply told
free_call_leaves m (Remove key) reply told q = get-remove keys_total m key q
free_call_leaves m (Lookup key) reply told q = same m key q (get m key) refl
free_call_leaves m (Tally key amount) reply told q = tally_leaves m key q amount (get m key) refl
free_call_leaves m (Count key value amount) reply told q =
    count_leaves m key q amount (counted_session value amount) (λ held. grown held amount) (get m key) true refl
    ∙ replied m key q (counted_session value amount) (λ held. grown held amount) _ reply told
free_call_leaves m (Put key value) reply told q =
    put_leaves m key q (new_session value) (λ held. revalued held value) (get m key) true refl
    ∙ replied m key q (new_session value) (λ held. revalued held value) _ reply told

-- what is held at a key that the call is about, and at another
module _ (m n : Sessions) (made : Made) (key : Key) (leaves : Leaves m made n) where
  pub held_about : is_about key made ≡ true → get n key ≡ held_after (get m key) made
  held_about hits = leaves key ∙ ap (λ b. cond b (held_after (get m (key_in made.0)) made) (get m key)) hits
      ∙ ap (λ k. held_after (get m k) made) (sym (about_is key made hits))

  pub held_other : is_about key made ≡ false → get n key ≡ get m key
  held_other misses = leaves key ∙ ap (λ b. cond b (held_after (get m (key_in made.0)) made) (get m key)) misses

  -- one call more, at the front
  held_more : (later : List Made) →
      held_by (get n key) (about key later) ≡ held_by (get m key) (about key (made ∷ later))
  held_more later = elim (cases_Bool (is_about key made)) [
    | inl hits ↦ ap (λ held. held_by held (about key later)) (held_about hits)
        ∙ ap (held_by (get m key)) (sym (filter_kept (is_about key) made later hits))
    | inr misses ↦ ap (λ held. held_by held (about key later)) (held_other misses)
        ∙ ap (held_by (get m key)) (sym (filter_dropped (is_about key) made later misses))
  ]

-- records and their calls with replies
pub records_are_made : RecordsAreMade
records_are_made rules m [] = (λ legal. tt, refl)
records_are_made rules m (r ∷ records) =
    let rest = records_are_made rules (map_after rules m r.call) records in
    (λ legal. (legal.0, rest.0 legal.1), rest.1)

-- what a legal order leaves at each key
pub keys_held : KeysAreHeldByTheirCalls
keys_held rules m [] key legal = refl
keys_held rules m (made ∷ later) key legal =
    keys_held rules (map_after rules m made.0) later key legal.1
    ∙ held_more m (map_after rules m made.0) made key (call_leaves rules m made.0 made.1 legal.0) later

-- and what the map without a limit holds there
pub free_held : (m : Sessions) (order : List Made) (key : Key) → LegalFree m order →
    get (after_free m order) key ≡ held_by (get m key) (about key order)
free_held m [] key legal = refl
free_held m (made ∷ later) key legal =
    free_held (free_map_after m made.0) later key legal.1
    ∙ held_more m (free_map_after m made.0) made key (free_call_leaves m made.0 made.1 legal.0) later

-- legal orders that agree key by key hold the same
pub agreeing_hold : AgreeingCallsHoldTheSame
agreeing_hold rules m order other agree legal legal_other =
    same_map keys_total exact_keys _ _
    (λ key. keys_held rules m order key legal ∙ ap (held_by (get m key)) (agree key)
    ∙ sym (keys_held rules m other key legal_other))
