-- Which verdict a text deserves: it is certified, or the first fault of the first kind is named.
use Rattle.std.specs.Prelude.{◌≡◌, ℕ, ◌<◌, ◌≤◌, List, ◌∷◌, ◌++◌, Some, All}
use Rattle.std.specs.FinMap.{empty}
use Rattle.line_fields.specs.First.{first_lines}
use Rattle.plain_map.specs.declared.records.Record.{Record}
use Rattle.plain_map.specs.PlainObject.{pairs_of}
use Rattle.plain_map.specs.History.{Placed, packet_of, After, IsAfter, Legal, HasReply, sessions_after}
use Rattle.report_told.specs.Told.{Told, told_text}
use Rattle.report_told.specs.Rules.{IsInGrammar}
use Rattle.report_told.specs.declared.verdict.Verdict.{Verdict}
use Rattle.report_told.specs.declared.verdict.Verdict.TheVariants as v
use Rattle.report_told.specs.Points.{IsRight, IsShortEnough, IsWhole, StandsRight, placed_told, records_told, rules_told}

-- the text is this report, and is in the grammar
pub record Tells (text : List ℕ) (told : Told) : Type 0 where
  pub text_is : text ≡ told_text told
  pub in_grammar : IsInGrammar told

-- a text is certified: it is a report, and the report is right
abbrev pub Certified : List ℕ → Type 0
Certified text = (told : Told) × Tells text told × IsRight told

-- they are there, and some text of the grammar begins with them
pub record AreBegun (text : List ℕ) (many : ℕ) : Type 0 where
  pub front : List ℕ
  pub there : first_lines many text ≡ Some front
  pub told : Told
  pub in_grammar : IsInGrammar told
  pub rest : List ℕ
  pub begins : told_text told ≡ front ++ rest

-- the text is no report, and this is the first line with which none begins; a line that is
-- missing, or has no line feed, counts as one
pub record IsBadLine (text : List ℕ) (line : ℕ) : Type 0 where
  pub no_report : (told : Told) → Tells text told → ⊥
  pub from_one : 1 ≤ line
  pub bad : AreBegun text line → ⊥
  pub first : (many : ℕ) → many < line → AreBegun text many

-- the least packet that does not stand as it must
pub record IsLeastFault (told : Told) (packet : ℕ) : Type 0 where
  pub fault : StandsRight told packet → ⊥
  pub least : (other : ℕ) → other < packet → StandsRight told other

-- the first call of the order that does not stand after all that it must
pub record IsFirstEarly (told : Told) (packet : ℕ) : Type 0 where
  pub front : List Placed
  pub placed : Placed
  pub later : List Placed
  pub cut : placed_told told ≡ front ++ placed ∷ later
  pub packet_is : packet_of placed ≡ packet
  pub right : After front
  pub fault : IsAfter front placed → ⊥

-- the first call of the order whose reply is not the plain map's
pub record IsFirstIllegal (told : Told) (packet : ℕ) : Type 0 where
  pub front : List Placed
  pub placed : Placed
  pub later : List Placed
  pub cut : placed_told told ≡ front ++ placed ∷ later
  pub packet_is : packet_of placed ≡ packet
  pub right : Legal (rules_told told.head) empty front
  pub fault : HasReply (rules_told told.head) (sessions_after (rules_told told.head) empty front) placed → ⊥

-- the first line of an update with too many steps
pub record IsFirstLong (told : Told) (packet : ℕ) : Type 0 where
  pub front : List Record
  pub long : Record
  pub later : List Record
  pub cut : records_told told ≡ front ++ long ∷ later
  pub packet_is : long.packet ≡ packet
  pub right : All (IsShortEnough told.tail.bound) front
  pub fault : IsShortEnough told.tail.bound long → ⊥

-- The verdict that a text deserves. The kinds are looked at in this order, and a later one is named only where the
-- earlier points hold.
abbrev pub Deserves : List ℕ → Verdict → Type 0
Deserves text v.Yes = Certified text
Deserves text (v.BadLine line) = IsBadLine text line
Deserves text (v.Whole packet) = (told : Told) × Tells text told × IsLeastFault told packet
Deserves text (v.After packet) = (told : Told) × Tells text told × IsWhole told × IsFirstEarly told packet
Deserves text (v.Legal packet) =
    (told : Told) × Tells text told × IsWhole told × After (placed_told told) × IsFirstIllegal told packet
Deserves text v.Sessions =
    (told : Told) × Tells text told × IsWhole told × After (placed_told told)
    × Legal (rules_told told.head) empty (placed_told told)
    × ¬ (told.pairs ≡ pairs_of (sessions_after (rules_told told.head) empty (placed_told told)))
Deserves text (v.Steps packet) =
    (told : Told) × Tells text told × IsWhole told × After (placed_told told)
    × Legal (rules_told told.head) empty (placed_told told)
    × (told.pairs ≡ pairs_of (sessions_after (rules_told told.head) empty (placed_told told)))
    × IsFirstLong told packet

-- a text is one report at most
abbrev pub TellsOnce : Type 0
TellsOnce = (text : List ℕ) (one other : Told) → Tells text one → Tells text other → one ≡ other

-- and deserves one verdict at most
abbrev pub DeservesOne : Type 0
DeservesOne = (text : List ℕ) (one other : Verdict) → Deserves text one → Deserves text other → one ≡ other
