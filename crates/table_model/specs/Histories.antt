-- The promises about every run that speak of the one order of the calls, and of what the table holds in the end,
-- wherever its seats have stopped.
use Rattle.std.specs.Prelude.{◌≡◌, ℕ, ◌==◌, nat_le, Bool, ◌&&◌, true, false, List, [], ◌∷◌, ◌++◌, All, IsPermutation}
use Rattle.plain_map.specs.declared.records.Record.{Record}
use Rattle.plain_map.specs.Calls.{key_in, is_update}
use Rattle.plain_map.specs.PlainObject.{Sessions, pairs_of}
use Rattle.plain_map.specs.History.{Placed, answered, seat_of, number_of, call_in, Legal, After, Whole, sessions_after}
use Rattle.bucket_states.specs.Items.{prefix_of}
use Rattle.bucket_states.specs.Parts.{HasDistinctKeys}
use Rattle.table_model.specs.declared.events.Event.{Event}
use Rattle.table_model.specs.Setup.{Setup, IsPair, HaveRoom, rules_of}
use Rattle.table_model.specs.Worlds.{IsRun, world_after}
use Rattle.table_model.specs.Reading.{bucket_row, applied_at}
use Rattle.table_model.specs.Order.{Closing, order_of, placing_of, effects_of}
use Rattle.table_model.specs.Closed.{closing_of, closed_leaves, closed_depth, closed_pairs, Cover, greatest_depth, sessions_with, Warranted}

-- what these events leave
abbrev pub closed : Setup → List Event → Closing
closed setup events = closing_of (world_after setup events)

-- the order never is stuck: each piece is placed
abbrev pub OrderIsNeverStuck : Type 0
OrderIsNeverStuck = (setup : Setup) (events : List Event) → IsRun setup events →
    (placing_of setup.shape (closed setup events)).left ≡ []

-- each answered call has the reply that the plain object gives it in that order, from the first pairs on
abbrev pub OrderIsLegal : Type 0
OrderIsLegal =
    (setup : Setup) (events : List Event) → IsRun setup events →
    Legal (rules_of setup) (sessions_with (rules_of setup) setup.first) (order_of setup.shape (closed setup events))

-- each call stands after its seat's earlier calls and after all that its caller had seen
abbrev pub OrderIsAfter : Type 0
OrderIsAfter = (setup : Setup) (events : List Event) → IsRun setup events →
    After (order_of setup.shape (closed setup events))

-- each answered call, and each pending update that took effect, stands once, and nothing else does
abbrev pub OrderIsWhole : Type 0
OrderIsWhole =
    (setup : Setup) (events : List Event) → IsRun setup events →
    Whole (closed setup events).records (effects_of setup.shape (closed setup events))
    (order_of setup.shape (closed setup events))

-- what is held after that order
abbrev pub sessions_of_order : Setup → List Event → Sessions
sessions_of_order setup events =
    sessions_after (rules_of setup) (sessions_with (rules_of setup) setup.first)
    (order_of setup.shape (closed setup events))

-- the pairs of the closed table are those
abbrev pub PairsAreOfOrder : Type 0
PairsAreOfOrder =
    (setup : Setup) (events : List Event) → IsRun setup events →
    IsPermutation (pairs_of (sessions_of_order setup events)) (closed_pairs setup.shape (closed setup events).words)

-- each hash has exactly one leaf
abbrev pub LeavesCover : Type 0
LeavesCover = (setup : Setup) (events : List Event) → IsRun setup events →
    Cover (closed_leaves setup.shape (closed setup events).words)

-- a leaf is deep only where its parent was full at some stage of the order
abbrev pub LeavesAreWarranted : Type 0
LeavesAreWarranted =
    (setup : Setup) (events : List Event) → IsRun setup events →
    Warranted (rules_of setup) setup.shape.settings.start setup.first (order_of setup.shape (closed setup events))
    (closed_leaves setup.shape (closed setup events).words)

-- the directory is as deep as its deepest leaf
abbrev pub DepthIsOfLeaves : Type 0
DepthIsOfLeaves =
    (setup : Setup) (events : List Event) → IsRun setup events →
    closed_depth setup.shape (closed setup events).words
    ≡ greatest_depth (closed_leaves setup.shape (closed setup events).words)

-- an update whose key has the prefix of a row
abbrev pub is_for_row : Setup → List ℕ → (row : ℕ) → Placed → Bool
is_for_row setup words row placed =
    is_update (call_in placed)
    && (prefix_of (rules_of setup) (bucket_row setup.shape words row).depth (key_in (call_in placed))
    == (bucket_row setup.shape words row).prefix)

-- the update is applied in the row
abbrev pub is_in_row : Setup → List ℕ → (row : ℕ) → Placed → Bool
is_in_row setup words row placed = nat_le (number_of placed) (applied_at setup.shape words row (seat_of placed))

-- a lookup stands after exactly those updates of its row's keys that are applied in its row: so one whose bucket was
-- retired stands after the updates of the frozen row, and before those of the change that retired it
abbrev pub LookupsStandByTheirRows : Type 0
LookupsStandByTheirRows =
    (setup : Setup) (events : List Event) (before later : List Placed) (r : Record) → IsRun setup events →
    order_of setup.shape (closed setup events) ≡ before ++ answered r ∷ later → is_update r.call ≡ false →
    (let words = (closed setup events).words in
    All (λ placed. is_for_row setup words r.place placed ≡ true → is_in_row setup words r.place placed ≡ true) before
    × All (λ placed. is_for_row setup words r.place placed ≡ true → is_in_row setup words r.place placed ≡ false) later)

-- the closed pairs can open the next table, which then begins with what is held after the order
abbrev pub PairsReopen : Type 0
PairsReopen =
    (setup : Setup) (events : List Event) → IsRun setup events →
    (let pairs = closed_pairs setup.shape (closed setup events).words in
    All IsPair pairs × HasDistinctKeys pairs × HaveRoom (rules_of setup) pairs
    × (sessions_with (rules_of setup) pairs ≡ sessions_of_order setup events))
