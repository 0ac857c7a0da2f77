-- How far a text was read, and what may stand next.
use Rattle.std.specs.Prelude.{◌≡◌, ℕ, ◌-◌, ◌^◌, ◌<◌, Bool, true, List, [], ◌∷◌, ◌++◌, length, Option, Some, None}
use Rattle.std.specs.Ordering.{is_lt}
use Rattle.plain_map.specs.declared.keys.Key.{Key}
use Rattle.plain_map.specs.declared.keys.Pair.{Pair}
use Rattle.plain_map.specs.Keys.{key_cmp}
use Rattle.report_text.specs.declared.parts.Head.{Head}
use Rattle.report_text.specs.declared.parts.Tail.{Tail}
use Rattle.report_told.specs.Told.{Entry, entry_line}
use Rattle.report_told.specs.Verdicts.{Tells, IsBadLine}
use Rattle.report_lines.specs.Lines.{session_at}
use Rattle.report_lines.proofs.Machine.{Line, entry, Body, State, start, body, Next, text_of, told_of}
use Rattle.report_lines.proofs.Grammar.{Spelled}
use Rattle.report_reading.specs.declared.entries.Entries.{Entries}
use Rattle.report_reading.specs.declared.steps.Step.{Step}
use Rattle.report_reading.specs.declared.steps.Step.TheVariants.{Good, Other, Bad}
use Rattle.report_reading.specs.declared.steps.Part.{Part}
use Rattle.report_reading.specs.declared.steps.Part.TheVariants as part
use Rattle.report_reading.specs.Entries.{Holds}

-- so many lines of the text were read, and told this state; the rest is left
pub record At (text : List ℕ) (s : State) (rest : List ℕ) (lines : ℕ) : Type 0 where
  pub front : List ℕ
  pub ls : List Line
  pub cut : text ≡ front ++ rest
  pub spelled : Spelled start ls s front
  pub many : length ls ≡ lines

-- no line may stand here
abbrev pub NoneFollows : State → List ℕ → Type 0
NoneFollows s bytes = (l : Line) (m : State) (rest : List ℕ) → Next s l m → bytes ≡ text_of s l ++ rest → ⊥

-- no line of an entry may stand here
abbrev pub NoEntry : Body → List ℕ → Type 0
NoEntry b bytes = (e : Entry) (m : State) (rest : List ℕ) → Next (body b) (entry e) m →
    bytes ≡ entry_line b.head.seats e ++ rest → ⊥

abbrev pub with_entries : Head → List Entry → Body
with_entries head entries = record { head = head; entries = entries; pairs = [] }

abbrev pub with_pairs : Body → List Pair → Body
with_pairs b pairs = record { head = b.head; entries = b.entries; pairs = pairs }

-- what a step did with the line of an entry
abbrev pub Stepped : List ℕ → Entries → Head → List Entry → Step → Type 0
Stepped bytes kept head entries (Good rest) =
    (e : Entry) × (bytes ≡ entry_line head.seats e ++ rest.now) × Holds kept head (entries ++ e ∷ [])
Stepped bytes kept head entries Other =
    Holds kept head entries × NoEntry (with_entries head entries) bytes
Stepped bytes kept head entries Bad = NoneFollows (body (with_entries head entries)) bytes

-- the entries were read, or a line of theirs is bad
abbrev pub EntriesRead : List ℕ → Entries → Head → Part → Type 0
EntriesRead text kept head (part.Whole rest lines) =
    (entries : List Entry) × At text (body (with_entries head entries)) rest.now lines × Holds kept head entries
    × NoEntry (with_entries head entries) rest.now × (length entries < 2 ^ 32 - 1)
EntriesRead text kept head (part.Bad line) = IsBadLine text line

-- the key is above that of the last pair, where there is one
abbrev pub key_follows : Option Pair → Key → Bool
key_follows (Some last) key = is_lt (key_cmp last.key key)
key_follows None key = true

-- the sessions were read, or a line of theirs is bad
abbrev pub SessionsRead : List ℕ → Body → List Pair → Part → Type 0
SessionsRead text b pairs (part.Whole rest lines) =
    At text (body (with_pairs b pairs)) rest.now lines × (session_at rest.now ≡ None)
    × (pairs ≡ [] → NoEntry b rest.now)
SessionsRead text b pairs (part.Bad line) = IsBadLine text line

-- the text is a report of this body, with this bound
abbrev pub TailRead : List ℕ → Body → (bound : ℕ) → Type 0
TailRead text b bound = (t : Tail) × Tells text (told_of b t) × (t.bound ≡ bound)
