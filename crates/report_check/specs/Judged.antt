-- What is judged of a report.
use Rattle.std.specs.Prelude.{◌≡◌, ◌⊎◌, ℕ, ◌+◌, ◌<◌, ◌≤◌, max, Bool, List, [], ◌∷◌, ◌++◌, length, slice_index, slice_set, All, MatchBool}
use Rattle.std.specs.FinMap.{empty}
use Rattle.plain_map.specs.declared.records.Record.{Record}
use Rattle.plain_map.specs.declared.rules.Rules.{Rules}
use Rattle.plain_map.specs.PlainObject.{Sessions, map_after, pairs_of}
use Rattle.plain_map.specs.History.{Placed, After, HasReply, IsAfter, Legal, call_in, packet_of, sessions_after}
use Rattle.class_map.specs.Rows.{Holds}
use Rattle.report_told.specs.Told.{Told}
use Rattle.report_told.specs.declared.verdict.Verdict.{Verdict}
use Rattle.report_told.specs.declared.verdict.Verdict.TheVariants as v
use Rattle.report_told.specs.Points.{IsRight, IsShortEnough, IsWhole, placed_told, rules_told}
use Rattle.report_check.specs.Ready.{AreStanding}
use Rattle.report_check.specs.Facts.{placed_at}
use Rattle.report_told.specs.Verdicts.{IsLeastFault, IsFirstEarly, IsFirstIllegal, IsFirstLong}

-- the first call with too many steps
pub record IsLongAt (bound : ℕ) (calls : List Record) (packet : ℕ) : Type 0 where
  pub front : List Record
  pub long : Record
  pub later : List Record
  pub cut : calls ≡ front ++ long ∷ later
  pub packet_is : long.packet ≡ packet
  pub right : All (IsShortEnough bound) front
  pub fault : IsShortEnough bound long → ⊥

-- a call may stand next, where so many calls of each seat stand
pub record MayStand (standing : List ℕ) (seat number : ℕ) (seen : List ℕ) : Type 0 where
  pub own : number ≤ slice_index standing seat + 1
  pub others : (other : ℕ) → other < 8 → slice_index seen other ≤ slice_index standing other

-- the verdict that a report deserves
abbrev pub Judges : Told → Verdict → Type 0
Judges told v.Yes = IsRight told
Judges told (v.BadLine line) = ⊥
Judges told (v.Whole packet) = IsLeastFault told packet
Judges told (v.After packet) = IsWhole told × IsFirstEarly told packet
Judges told (v.Legal packet) = IsWhole told × After (placed_told told) × IsFirstIllegal told packet
Judges told v.Sessions =
    IsWhole told × After (placed_told told) × Legal (rules_told told.head) empty (placed_told told)
    × ¬ (told.pairs ≡ pairs_of (sessions_after (rules_told told.head) empty (placed_told told)))
Judges told (v.Steps packet) =
    IsWhole told × After (placed_told told) × Legal (rules_told told.head) empty (placed_told told)
    × (told.pairs ≡ pairs_of (sessions_after (rules_told told.head) empty (placed_told told)))
    × IsFirstLong told packet

-- the call stands now, where it might
abbrev pub Stood : (before after : List ℕ) (seat number : ℕ) (seen : List ℕ) → Bool → Type 0
Stood before after seat number seen good =
    MatchBool good
    (MayStand before seat number seen × (after ≡ slice_set before seat (max (slice_index before seat) number)))
    (MayStand before seat number seen → ⊥)

-- so many calls of each seat stand, in an order that is right so far
pub record StandSo (front : List Placed) (standing : List ℕ) : Type 0 where
  pub long : length standing ≡ 8
  pub counted : AreStanding front (λ seat. slice_index standing seat)
  pub after : After front

-- the call of the packet was put behind these, or may not stand there; or there is none
abbrev pub TriedAt : Told → (packet : ℕ) → List Placed → (before after : List ℕ) → Bool → Type 0
TriedAt told packet front before after good =
    StandSo front before →
    ((placed : Placed) × (placed_at told packet ≡ placed ∷ []) × (packet_of placed ≡ packet)
    × MatchBool good (StandSo (front ++ placed ∷ []) after) (IsAfter front placed → ⊥))
    ⊎ (placed_at told packet ≡ [])

-- the call of the packet was asked of a map that held this, and has its reply or not; or there is none
abbrev pub AnsweredAt : Told → Rules → (packet : ℕ) → (before : Sessions) → (after : List Sessions) → Bool → Type 0
AnsweredAt told rules packet before after good =
    ((placed : Placed) × (placed_at told packet ≡ placed ∷ []) × (packet_of placed ≡ packet)
    × MatchBool good (HasReply rules before placed × Holds after rules (map_after rules before (call_in placed)))
    (HasReply rules before placed → ⊥))
    ⊎ (placed_at told packet ≡ [])

-- these calls, asked one after the other, have the map's replies, and its classes hold now what they leave
pub record AreLegal (rules : Rules) (front : List Placed) (rows : List Sessions) : Type 0 where
  pub legal : Legal rules empty front
  pub holds : Holds rows rules (sessions_after rules empty front)

-- all calls of the order have the map's replies, and its classes hold in the end what they leave
abbrev pub LegalSo : Told → List Sessions → Type 0
LegalSo told rows = AreLegal (rules_told told.head) (placed_told told) rows
