-- The keys of the pairs that calls leave are keys that were asked for.
use Rattle.std.proofs.Common.{◌≡◌, List, [], ◌∷◌, map, refl, ap, subst}
use Rattle.std.specs.Prelude.{All, Contains}
use Rattle.std.specs.FinMap.{empty}
use Rattle.plain_map.specs.declared.keys.Key.{Key}
use Rattle.plain_map.specs.declared.keys.Pair.{Pair}
use Rattle.plain_map.specs.declared.rules.Rules.{Rules}
use Rattle.plain_map.specs.Calls.{key_in}
use Rattle.plain_map.specs.PlainObject.{Sessions, map_after, pairs_of}
use Rattle.plain_map.specs.History.{Placed, pending, sessions_after}
use Rattle.plain_map.specs.Asked.{keys_asked}
use Rattle.plain_map.proofs.AskedLemmas.{sessions_asked}
use Rattle.map_laws.specs.ByKey.{Made, after_made}
use Rattle.flow_laws.specs.Asked.{PairsAreAsked}

-- the call as one of an order of the plain object, of which nothing else is known
placed_of : Made → Placed
placed_of made = pending (record {
  seat = 0;
  number = 0;
  packet = 0;
  call = made.0;
  seen = record { counts = [] };
})

-- the calls as such an order
abbrev order_of : List Made → List Placed
order_of made = map placed_of made

-- the order leaves what the calls leave
same_after : (rules : Rules) (sessions : Sessions) (made : List Made) →
    sessions_after rules sessions (order_of made) ≡ after_made rules sessions made
unfolding placed_of
same_after rules sessions [] = refl
same_after rules sessions (one ∷ made) = same_after rules (map_after rules sessions one.0) made

-- and it asks for the same keys
same_keys : (made : List Made) → keys_asked (order_of made) ≡ map (λ (one : Made). key_in one.0) made
unfolding placed_of
same_keys [] = refl
same_keys (one ∷ made) = ap (λ (keys : List Key). key_in one.0 ∷ keys) (same_keys made)

-- each session has one of these keys
abbrev AreOf : List Key → Sessions → Type 0
AreOf keys sessions = All (λ (pair : Pair). Contains keys pair.key) (pairs_of sessions)

-- so what holds of the order holds of the calls
pub pairs_are_asked : PairsAreAsked
pairs_are_asked rules made =
    subst (λ (keys : List Key). AreOf keys (after_made rules empty made)) (same_keys made)
    (subst (AreOf (keys_asked (order_of made))) (same_after rules empty made)
    (sessions_asked rules (order_of made)))
