-- Pairs that were brought, those of a class as a chain of their places.
use Rattle.std.specs.Prelude.{◌≡◌, ℕ, ◌+◌, ◌^◌, ◌<◌, ◌≤◌, List, [], ◌∷◌, ◌++◌, length, slice_index, slice_index_or, Option, MatchOption, None, is_some, true}
use Rattle.plain_map.specs.declared.keys.Key.{Key}
use Rattle.plain_map.specs.declared.keys.Pair.{Pair}
use Rattle.plain_map.specs.declared.rules.Rules.{Rules}
use Rattle.plain_map.specs.Keys.{pair_of}
use Rattle.plain_map.specs.PlainObject.{Sessions, new_session}
use Rattle.bucket_states.specs.Items.{value_at}
use Rattle.bucket_states.specs.Parts.{HoldsPart}

-- what stands past the end
abbrev pub no_pair : Pair
no_pair = record { key = record { k0 = 0; k1 = 0; k2 = 0; k3 = 0; k4 = 0 }; value = 0; bytes = 0 }

-- the pair at a place
abbrev pub pair_at : List Pair → (place : ℕ) → Pair
pair_at pairs place = slice_index_or pairs place no_pair

-- a pair as an insert brings it, with no bytes
abbrev pub as_brought : Pair → Pair
as_brought pair = pair_of (pair.key, new_session pair.value)

-- a link is one more than a place, at which the link to an earlier place stands, or 0 at the end
abbrev pub IsChain : (links : List ℕ) → (bound link : ℕ) → List ℕ → Type 0
IsChain links bound link [] = link ≡ 0
IsChain links bound link (place ∷ places) =
    (link ≡ place + 1) × (place < bound) × IsChain links place (slice_index links place) places

-- the pairs at these places, the first one last
abbrev pub pairs_on : List Pair → List ℕ → List Pair
pairs_on pairs [] = []
pairs_on pairs (place ∷ places) = pairs_on pairs places ++ as_brought (pair_at pairs place) ∷ []

-- how many pairs there are, if none of them has the key
abbrev pub HasCounted : Key → List Pair → Option ℕ → Type 0
HasCounted key items result = MatchOption result (is_some (value_at key items) ≡ true)
    (λ many. (value_at key items ≡ None) × (many ≡ length items))

-- the chain from this link on has the pairs of the class that the sessions have
pub record InClass (rules : Rules) (pairs : List Pair) (links : List ℕ) (bound link class : ℕ)
    (sessions : Sessions) : Type 0 where
  pub places : List ℕ
  pub chain : IsChain links bound link places
  pub part : HoldsPart rules class rules.depth (pairs_on pairs places) sessions
  pub few : length (pairs_on pairs places) ≤ rules.items

-- so many of the pairs were brought. From the last link of each class on its chain has those of them that are held
pub record AreLinked (rules : Rules) (pairs : List Pair) (many : ℕ) (lasts links : List ℕ)
    (sessions : Sessions) : Type 0 where
  pub classes : length lasts ≡ 2 ^ rules.depth
  pub room : length links ≡ length pairs
  pub each : (class : ℕ) → class < 2 ^ rules.depth →
      InClass rules pairs links many (slice_index lasts class) class sessions
