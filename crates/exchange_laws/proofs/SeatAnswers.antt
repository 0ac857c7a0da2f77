-- The answers of one seat, with one more.
use Rattle.std.proofs.Common.{◌≡◌, ℕ, ◌+◌, Bool, true, false, cond, List, [], ◌∷◌, ◌++◌, Option, Some, None, length, refl, ap, ◌∙◌, append-nil, eq-eqb}
use Rattle.std.specs.Prelude.{◌==◌, ◌&&◌}
use Rattle.std.specs.List.{cons_option}
use Rattle.std.proofs.lemmas.List.{length-append}
use Rattle.std.proofs.lemmas.List.Elements.{filter-append, filter_map-append}
use Rattle.plain_map.specs.declared.calls.Call.{Call}
use Rattle.plain_map.specs.declared.calls.Call.TheVariants.{Insert, Remove, Lookup, Tally, Count, Put}
use Rattle.plain_map.specs.declared.calls.Reply.{Reply}
use Rattle.plain_map.specs.Calls.{is_update}
use Rattle.plain_map.specs.Updates.{IsUpdate}
use Rattle.exchange_model.specs.Steps.{Aim, OfKey, OfBucket}
use Rattle.exchange_model.specs.Goes.{Called, Told, Replied, Pairs, Again, Spent, Refused, asked_by_aim}
use Rattle.exchange_model.specs.Worlds.{Answer, BySeat}
use Rattle.map_laws.specs.ByKey.{Made}
use Rattle.exchange_model.specs.Laws.{update_by, updates_by}
use Rattle.exchange_laws.specs.Orders.{is_by, answers_by}

-- an update is told to be one
update_tested : (call : Call) → IsUpdate call → is_update call ≡ true
update_tested (Insert key value) is = refl
update_tested (Remove key) is = refl
update_tested (Lookup key) is = absurd is
update_tested (Tally key amount) is = refl
update_tested (Count key value amount) is = refl
update_tested (Put key value) is = refl

module _ (p : ℕ) where
  -- the answers of a seat in two parts
  pub answers_more : (xs more : List Answer) → answers_by p (xs ++ more) ≡ answers_by p xs ++ answers_by p more
  answers_more xs more = filter-append (λ (a : Answer). is_by p a.by) xs more

  -- and its updates
  pub updates_more : (xs more : List Answer) → updates_by p (xs ++ more) ≡ updates_by p xs ++ updates_by p more
  updates_more xs more = filter_map-append (λ (a : Answer). update_by p a.by a.asked a.told) xs more

  -- a seat is itself
  its_own : (p == p) ≡ true
  its_own = eq-eqb p p refl

  -- an own answer stands by itself
  pub own_answer : (a : Answer) → a.by ≡ BySeat p → answers_by p (a ∷ []) ≡ a ∷ []
  own_answer a e = ap (λ (b : Bool). cond b (a ∷ []) []) (ap (is_by p) e ∙ its_own)

  -- so there is one more
  pub one_more : (xs : List Answer) (a : Answer) → a.by ≡ BySeat p →
      length (answers_by p (xs ++ a ∷ [])) ≡ length (answers_by p xs) + 1
  one_more xs a e = ap (λ (all : List Answer). length all) (answers_more xs (a ∷ []))
      ∙ ap (λ (more : List Answer). length (answers_by p xs ++ more)) (own_answer a e)
      ∙ length-append (answers_by p xs) (a ∷ [])

  -- what tells no update, and what tells one
  pub look_tells : (aim : Aim) (told : Told) → update_by p (BySeat p) (asked_by_aim aim) told ≡ None
  look_tells (OfKey key) (Replied reply) =
      ap (λ (b : Bool). cond (b && false) (Some (Lookup key, reply)) None) its_own
  look_tells (OfKey key) (Pairs pairs) = refl
  look_tells (OfKey key) Again = refl
  look_tells (OfKey key) Spent = refl
  look_tells (OfKey key) Refused = refl
  look_tells (OfBucket bucket) told = refl

  -- an answered update is one
  pub update_tells : (call : Call) (reply : Reply) → IsUpdate call →
      update_by p (BySeat p) (Called call) (Replied reply) ≡ Some (call, reply)
  update_tells call reply update =
      ap (λ (b : Bool). cond (b && is_update call) (Some (call, reply)) None) its_own
      ∙ ap (λ (b : Bool). cond b (Some (call, reply)) None) (update_tested call update)

  -- with an answer that tells no update there are no more
  pub no_update_more : (xs : List Answer) (a : Answer) → update_by p a.by a.asked a.told ≡ None →
      updates_by p (xs ++ a ∷ []) ≡ updates_by p xs
  no_update_more xs a e = updates_more xs (a ∷ [])
      ∙ ap (λ (o : Option Made). updates_by p xs ++ cons_option o []) e ∙ append-nil (updates_by p xs)

  -- with an answered update there is one more
  pub one_update_more : (xs : List Answer) (a : Answer) (made : Made) → update_by p a.by a.asked a.told ≡ Some made →
      updates_by p (xs ++ a ∷ []) ≡ updates_by p xs ++ made ∷ []
  one_update_more xs a made e = updates_more xs (a ∷ [])
      ∙ ap (λ (o : Option Made). updates_by p xs ++ cons_option o []) e
