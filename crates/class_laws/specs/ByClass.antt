-- Calls class by class: an answer depends on its class alone, full or not, so classes may be set beside one another in
-- any way. Source: this project's own, after locality in Herlihy and Wing, "Linearizability", 1990, where a class is
-- an object.
use Rattle.std.specs.Prelude.{◌≡◌, ℕ, ◌==◌, Bool, List, filter}
use Rattle.plain_map.specs.declared.rules.Rules.{Rules}
use Rattle.plain_map.specs.Calls.{key_in}
use Rattle.plain_map.specs.PlainObject.{Sessions, class_of}
use Rattle.map_laws.specs.ByKey.{Made, LegalMade, after_made, updates_in, LooksTell}

-- whether the call is about a key of the class
abbrev pub is_in : Rules → (class : ℕ) → Made → Bool
is_in rules class made = class_of rules (key_in made.0) == class

-- the calls about keys of the class, in their order
abbrev pub of_class : Rules → (class : ℕ) → List Made → List Made
of_class rules class calls = filter (is_in rules class) calls

-- both have the same calls of each class, with the same replies and in the same order
abbrev pub AgreeByClass : Rules → List Made → List Made → Type 0
AgreeByClass rules calls others = (class : ℕ) → of_class rules class calls ≡ of_class rules class others

-- ---- what is promised

-- where one order is legal, another one that agrees with it class by class is legal too, and leaves the same sessions
abbrev pub ClassesAreServedInTurn : Type 0
ClassesAreServedInTurn =
    (rules : Rules) (sessions : Sessions) (order asked : List Made) → LegalMade rules sessions order →
    AgreeByClass rules order asked →
    LegalMade rules sessions asked × (after_made rules sessions order ≡ after_made rules sessions asked)

-- where the updates of some calls are legal as they stand, and each lookup tells what the calls of its key before it
-- have left, all calls are legal as they stand
abbrev pub LooksStandInPlace : Type 0
LooksStandInPlace =
    (rules : Rules) (sessions : Sessions) (asked : List Made) → LegalMade rules sessions (updates_in asked) →
    LooksTell sessions asked →
    LegalMade rules sessions asked
    × (after_made rules sessions asked ≡ after_made rules sessions (updates_in asked))
