-- The pairs of a closed table, in any turn and in the order of their keys.
use Rattle.std.specs.Prelude.{◌≡◌, ℕ, List, All, IsPermutation}
use Rattle.std.specs.List.Sorted.{IsSortedByKey}
use Rattle.plain_map.specs.declared.keys.Pair.{Pair}
use Rattle.plain_map.specs.declared.rules.Rules.{Rules}
use Rattle.plain_map.specs.Keys.{key_cmp}
use Rattle.plain_map.specs.PlainObject.{pairs_of}
use Rattle.bucket_states.specs.Parts.{HasDistinctKeys}
use Rattle.table_model.specs.declared.events.Event.{Event}
use Rattle.table_model.specs.Setup.{Setup, IsPair, HaveRoom, IsFirstWithoutRoom, rules_of}
use Rattle.table_model.specs.Worlds.{IsRun}
use Rattle.table_model.specs.Closed.{closed_pairs, sessions_with}
use Rattle.table_model.specs.Histories.{closed, sessions_of_order}

-- in the order of their keys they are the pairs of what is held after the order
abbrev pub SortedPairsAreHeld : Type 0
SortedPairsAreHeld =
    (setup : Setup) (events : List Event) (pairs : List Pair) → IsRun setup events →
    IsPermutation (closed_pairs setup.shape (closed setup events).words) pairs →
    IsSortedByKey (λ pair. pair.key) key_cmp pairs → pairs ≡ pairs_of (sessions_of_order setup events)

-- in whatever turn, they can open the next table, which then begins with what is held after the order
abbrev pub PairsReopenInAnyTurn : Type 0
PairsReopenInAnyTurn =
    (setup : Setup) (events : List Event) (pairs : List Pair) → IsRun setup events →
    IsPermutation (closed_pairs setup.shape (closed setup events).words) pairs →
    All IsPair pairs × HasDistinctKeys pairs × HaveRoom (rules_of setup) pairs
    × (sessions_with (rules_of setup) pairs ≡ sessions_of_order setup events)

-- of pairs that all find room, none is the first that finds none
abbrev pub NoPairLacksRoom : Type 0
NoPairLacksRoom =
    (rules : Rules) (first : List Pair) (place : ℕ) → HaveRoom rules first → IsFirstWithoutRoom rules first place → ⊥

-- so the next opening with the closed pairs, in whatever turn, lacks room for none
abbrev pub NextOpeningHasRoom : Type 0
NextOpeningHasRoom =
    (setup : Setup) (events : List Event) (pairs : List Pair) (place : ℕ) → IsRun setup events →
    IsPermutation (closed_pairs setup.shape (closed setup events).words) pairs →
    IsFirstWithoutRoom (rules_of setup) pairs place → ⊥
