-- What a call leaves of the items stays small, and so is its reply.
use Rattle.std.proofs.Common.{◌≡◌, ℕ, ◌^◌, ◌<◌, ◌≤◌, Bool, true, false, cond, List, [], ◌∷◌, length, Option, Some, None, refl, subst, arith}
use Rattle.std.specs.List.{All}
use Rattle.std.specs.Option.{option_map_or}
use Rattle.std.proofs.lemmas.Bool.{ltb-true}
use Rattle.std.proofs.lemmas.List.{length-append}
use Rattle.std.proofs.lemmas.List.Elements.{All-head, All-tail}
use Rattle.plain_map.specs.declared.calls.Call.{Call}
use Rattle.plain_map.specs.declared.calls.Call.TheVariants.{Insert, Remove, Lookup, Tally, Count, Put}
use Rattle.plain_map.specs.declared.calls.Reply.TheVariants.{Absent}
use Rattle.plain_map.specs.declared.keys.Key.{Key}
use Rattle.plain_map.specs.declared.keys.Pair.{Pair}
use Rattle.plain_map.specs.declared.rules.Rules.{Rules}
use Rattle.plain_map.specs.Keys.{Session, held_in, pair_of}
use Rattle.plain_map.specs.PlainObject.{count_reply, gone_from, insert_reply, new_session, counted_session, grown, revalued, sum_of}
use Rattle.plain_map.specs.Updates.{IsSmallPair, IsUpdate, IsUpdateReply}
use Rattle.bucket_states.specs.Items.{appended, has_place, items_after, reply_in, revised_in, same_key, value_at}
use Rattle.bucket_states.proofs.ItemLemmas.{length-changed, length-without}
use Rattle.bucket_states.proofs.ValueLemmas.{summed-small}

-- what is held is small
held_small : (key : Key) (items : List Pair) (held : Session) → All IsSmallPair items → value_at key items ≡ Some held →
    held.value < 2 ^ 61
held_small key [] held small is = cc
held_small key (pair ∷ pairs) held small is =
    by (same_key pair.key key) is (All-head IsSmallPair pair pairs small).0
    (λ rest. held_small key pairs held (All-tail IsSmallPair pair pairs small) rest)
  where
    by : (b : Bool) → cond b (Some (held_in pair)) (value_at key pairs) ≡ Some held → pair.value < 2 ^ 61 →
        (value_at key pairs ≡ Some held → held.value < 2 ^ 61) → held.value < 2 ^ 61
    by true is first rest = (let same : pair.value ≡ held.value = cc in subst (λ (n : ℕ). n < 2 ^ 61) same first)
    by false is first rest = rest is

module _ (rules : Rules) (items : List Pair) (small : All IsSmallPair items) where
  inserts_small : (key : Key) (o : Option Session) (b : Bool) → value_at key items ≡ o →
      IsUpdateReply (Some (insert_reply o b))
  inserts_small key (Some held) b is = held_small key items held small is
  inserts_small key None true is = tt
  inserts_small key None false is = tt

  removes_small : (key : Key) (o : Option Session) → value_at key items ≡ o →
      IsUpdateReply (Some (option_map_or gone_from o Absent))
  removes_small key (Some held) is = held_small key items held small is
  removes_small key None is = tt

  tallies_small : (key : Key) (amount : ℕ) (o : Option Session) →
      IsUpdateReply (Some (option_map_or (sum_of amount) o Absent))
  tallies_small key amount (Some held) = summed-small held.bytes amount
  tallies_small key amount None = tt

  counts_small : (amount : ℕ) (o : Option Session) (b : Bool) → IsUpdateReply (Some (count_reply amount o b))
  counts_small amount (Some held) b = summed-small held.bytes amount
  counts_small amount None true = tt
  counts_small amount None false = tt

  pub reply_small : (call : Call) → IsUpdate call → IsUpdateReply (Some (reply_in rules items call))
  unfolding reply_in
  reply_small (Insert key value) update = inserts_small key (value_at key items) (has_place rules items) refl
  reply_small (Remove key) update = removes_small key (value_at key items) refl
  reply_small (Lookup key) update = absurd update
  reply_small (Tally key amount) update = tallies_small key amount (value_at key items)
  reply_small (Count key value amount) update = counts_small amount (value_at key items) (has_place rules items)
  reply_small (Put key value) update = inserts_small key (value_at key items) (has_place rules items) refl

-- ---- how many items there are

appended_few : (items : List Pair) (pair : Pair) (held : Option Session) (place : Bool) (n : ℕ) → length items ≤ n →
    (place ≡ true → length items < n) → length (appended items pair held place) ≤ n
appended_few items pair (Some held) place n few room = few
appended_few items pair None true n few room =
    (let long = length-append items (pair ∷ []) in omega (arith, long, room refl))
appended_few items pair None false n few room = few

revised_few : (items : List Pair) (key : Key) (new : Session) (change : Session → Session) (held : Option Session)
    (place : Bool) (n : ℕ) → length items ≤ n → (place ≡ true → length items < n) →
    length (revised_in items key new change held place) ≤ n
revised_few items key new change (Some held) place n few room = omega (arith, length-changed key change items, few)
revised_few items key new change None true n few room =
    (let long = length-append items (pair_of (key, new) ∷ []) in omega (arith, long, room refl))
revised_few items key new change None false n few room = few

-- no more than there is room for, after a call
pub after_few : (rules : Rules) (items : List Pair) (call : Call) → length items ≤ rules.items →
    length (items_after rules items call) ≤ rules.items
unfolding items_after
after_few rules items (Insert key value) few =
    appended_few items (pair_of (key, new_session value)) (value_at key items) (has_place rules items) rules.items few
    (λ e. ltb-true (length items) rules.items e)
after_few rules items (Remove key) few = omega (arith, length-without key items, few)
after_few rules items (Lookup key) few = few
after_few rules items (Tally key amount) few =
    omega (arith, length-changed key (λ held. grown held amount) items, few)
after_few rules items (Count key value amount) few =
    revised_few items key (counted_session value amount) (λ held. grown held amount) (value_at key items)
    (has_place rules items) rules.items few (λ e. ltb-true (length items) rules.items e)
after_few rules items (Put key value) few =
    revised_few items key (new_session value) (λ held. revalued held value) (value_at key items)
    (has_place rules items) rules.items few (λ e. ltb-true (length items) rules.items e)
