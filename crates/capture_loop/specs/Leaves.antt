-- What a run leaves in its sink, by what it read of its source. A mode says what is printed of packets, or of batches
-- of them: which texts are the head line and their lines, and which are a whole report of them with an ending.
use Rattle.std.specs.Prelude.{◌≡◌, ◌⊎◌, ℕ, List, [], Option, Some, Result, Ok, Err}
use Rattle.std.specs.Io.KnownBytes.{Appends, Keeps}
use Rattle.edge_traits.specs.Edge.{AppendsFront, count_after}
use Rattle.pcap_reader.specs.Reading.{Took}
use Rattle.capture_faults.specs.declared.ending.Ending.{Ending}
use Rattle.capture_faults.specs.declared.ending.Ending.TheVariants.{Done, Fault, Limit, ReadFault}
use Rattle.capture_loop.specs.Endings.{HasFailed}
use Rattle.capture_loop.specs.declared.stop.Stop.{Stop}
use Rattle.capture_loop.specs.declared.stop.Stop.TheVariants.{Memory, NotPut}
use Rattle.capture_loop.specs.declared.portions.Portions.{Portions}
use Rattle.capture_loop.specs.Input.{BeginsUpTo, IsFirstUpTo, ServesUpTo, in_batches}
use Rattle.capture_loop.specs.Batches.{AreBatchesBy, AreWholeBy}

-- which texts are lines of some packets
abbrev pub Tellings : Type 1
Tellings = List (List ℕ) → List ℕ → Type 0

-- which texts are reports of some packets, with an ending
abbrev pub Accounts : Type 1
Accounts = List (List ℕ) → Ending → List ℕ → Type 0

-- ---- by batches

-- which texts are the lines of some batches, and which are a report of them
abbrev pub Lines : Type 1
Lines = List (List (List ℕ)) → List ℕ → Type 0

abbrev pub Reports : Type 1
Reports = List (List (List ℕ)) → Ending → List ℕ → Type 0

-- the text is a report of these packets, cut so
abbrev pub IsLoopReport : (portions : Portions) → Reports → Accounts
IsLoopReport portions report packets ending text =
    (batches : List (List (List ℕ))) × AreBatchesBy portions packets batches × report batches ending text

-- the text is the lines of whole batches of them
abbrev pub IsLoopFront : (portions : Portions) → Lines → Tellings
IsLoopFront portions lines packets text =
    (batches : List (List (List ℕ))) × AreWholeBy portions packets batches × lines batches text

-- or of all batches of them
abbrev pub IsLoopTold : (portions : Portions) → Lines → Tellings
IsLoopTold portions lines packets text =
    (batches : List (List (List ℕ))) × AreBatchesBy portions packets batches × lines batches text

-- ---- what was put

-- of an input with these bytes, of which these are left, the text is the report, with this ending
abbrev pub AccountsFor : (most link : ℕ) → Accounts → List ℕ → Option (List ℕ) → Ending → List ℕ → Type 0
AccountsFor most link report bytes left ending text =
    (packets : List (List ℕ)) × ServesUpTo link most bytes left packets ending × report packets ending text

-- and the text is the lines of all its packets
abbrev pub TellsAll : (most link : ℕ) → Tellings → List ℕ → Option (List ℕ) → Ending → List ℕ → Type 0
TellsAll most link told bytes left ending text =
    (packets : List (List ℕ)) × ServesUpTo link most bytes left packets ending × told packets text

-- a front of a text was put
abbrev pub PutsFront : (before after : Option (List ℕ)) → (List ℕ → Type 0) → Type 0
PutsFront before after IsText = (text : List ℕ) × IsText text × AppendsFront before after text

-- a whole text was put
abbrev pub PutsWhole : (before after : Option (List ℕ)) → (List ℕ → Type 0) → Type 0
PutsWhole before after IsText = (text : List ℕ) × IsText text × Appends before after text

-- the ending of a run before which so many reads had failed, and so many now: a failed read exactly where one failed
abbrev pub EndsBy : (before now : ℕ) → Ending → Type 0
EndsBy before now ending = HasFailed (Some ending) before now

-- an ending that can be told of a run
abbrev pub IsMet : (can_end : Ending → Type 0) → Ending → Type 0
IsMet can_end ending = can_end ending

-- The whole report was put, with this ending.
abbrev pub PutsAccount : (most link : ℕ) → Accounts → List ℕ → (left before after : Option (List ℕ)) → Ending →
    Type 0
PutsAccount most link report bytes left before after ending =
    PutsWhole before after (AccountsFor most link report bytes left ending)

-- A front of the report was put, where the ending is known, and otherwise of the lines so far.
abbrev pub PutsSome : (most link : ℕ) → (front : Tellings) → Accounts → (can_end : Ending → Type 0) → List ℕ →
    (left before after : Option (List ℕ)) → Type 0
PutsSome most link front report can_end bytes left before after =
    ((ending : Ending) × IsMet can_end ending × PutsFront before after
    (AccountsFor most link report bytes left ending))
    ⊎ ((packets : List (List ℕ)) × BeginsUpTo link most bytes left packets × PutsFront before after (front packets))

-- Where memory ran out, nothing was put, or all lines of an input whose ending is known, or the lines so far. More of
-- the input may have been read.
abbrev pub PutsLess : (most link : ℕ) → (front told : Tellings) → (can_end : Ending → Type 0) → List ℕ →
    (left before after : Option (List ℕ)) → Type 0
PutsLess most link front told can_end bytes left before after =
    Keeps before after
    ⊎ (((ending : Ending) × IsMet can_end ending × PutsWhole before after
    (TellsAll most link told bytes left ending))
    ⊎ ((packets : List (List ℕ)) × IsFirstUpTo link most bytes packets × PutsWhole before after (front packets)))

-- What a run leaves that ended so, of which no more than so many packets are taken: of the input's bytes these are
-- left, and the sink had taken `before` and has taken `after`. Lines so far, all lines and reports are of packets.
abbrev pub LeavesText : (most link : ℕ) → (front told : Tellings) → Accounts → (can_end : Ending → Type 0) → List ℕ →
    (left before after : Option (List ℕ)) → Result Ending Stop → Type 0
LeavesText most link front told report can_end bytes left before after (Ok ending) =
    IsMet can_end ending × PutsAccount most link report bytes left before after ending
LeavesText most link front told report can_end bytes left before after (Err NotPut) =
    PutsSome most link front report can_end bytes left before after
LeavesText most link front told report can_end bytes left before after (Err Memory) =
    PutsLess most link front told can_end bytes left before after

-- a fact of what was taken of a source; where memory ran out, of what had been taken at some moment of the run
abbrev pub TookFor : Result Ending Stop → (first left : Option (List ℕ)) → (List ℕ → Type 0) → Type 0
TookFor (Ok ending) first left P = Took first left P
TookFor (Err NotPut) first left P = Took first left P
TookFor (Err Memory) first left P = (between : Option (List ℕ)) × Took first between P

-- So it is for the bytes of a source, where they are told, and for those that were taken of it, as of a source that
-- told just these: so these decide which answer it is. Of a source that tells nothing the second fact says only that
-- there are some such bytes.
pub record LeavesBy (most link : ℕ) (front_of told_of : Tellings) (report : Accounts) (can_end : Ending → Type 0)
    (first left before after : Option (List ℕ)) (answer : Result Ending Stop) : Type 0 where
  pub told : (bytes : List ℕ) → first ≡ Some bytes →
      LeavesText most link front_of told_of report can_end bytes left before after answer
  pub took : TookFor answer first left
      (λ taken. LeavesText most link front_of told_of report can_end taken (Some []) before after answer)

-- ---- what a job leaves

-- the text is the report of the batches of an input
abbrev pub ReportsInput : (portions : Portions) → ℕ → Reports → List ℕ → Option (List ℕ) → Ending → List ℕ → Type 0
ReportsInput portions link report bytes left ending text =
    AccountsFor portions.limit link (IsLoopReport portions report) bytes left ending text

-- the whole report of them was put
abbrev pub PutsInput : (portions : Portions) → ℕ → Reports → List ℕ → Option (List ℕ) → Option (List ℕ) →
    Option (List ℕ) → Ending → Type 0
PutsInput portions link report bytes left before after ending =
    PutsAccount portions.limit link (IsLoopReport portions report) bytes left before after ending

-- what a run leaves by the lines of its batches
abbrev pub Leaves : (portions : Portions) → ℕ → Lines → Reports → (can_end : Ending → Type 0) → List ℕ →
    (left before after : Option (List ℕ)) → Result Ending Stop → Type 0
Leaves portions link lines report can_end bytes left before after answer =
    LeavesText portions.limit link (IsLoopFront portions lines) (IsLoopTold portions lines)
    (IsLoopReport portions report) can_end bytes left before after answer

-- and so by what its source tells, and by what was taken of it
abbrev pub LoopLeavesBy : (portions : Portions) → (lines : Lines) → (report : Reports) → (can_end : Ending → Type 0) →
    (link : ℕ) → (first left before after : Option (List ℕ)) → (answer : Result Ending Stop) → Type 0
LoopLeavesBy portions lines report can_end link first left before after answer =
    LeavesBy portions.limit link (IsLoopFront portions lines) (IsLoopTold portions lines)
    (IsLoopReport portions report) can_end first left before after answer

-- so it is of an input that is cut into batches of so many packets, of which no more are taken than `serve` takes
abbrev pub LoopLeavesAll : (size : ℕ) → Lines → Reports → (can_end : Ending → Type 0) → ℕ →
    (first left before after : Option (List ℕ)) → Result Ending Stop → Type 0
LoopLeavesAll size lines report can_end link first left before after answer =
    LoopLeavesBy (in_batches size) lines report can_end link first left before after answer

-- where the first packet starts that is too many: noted exactly if a run ended for that
abbrev pub Marks : Result Ending Stop → (old new : Option ℕ) → (ℕ → Type 0) → Type 0
Marks (Ok (Limit limit)) old new P = (place : ℕ) × (new ≡ Some place) × P place
Marks (Ok (Done rest)) old new P = new ≡ old
Marks (Ok ReadFault) old new P = new ≡ old
Marks (Ok (Fault found)) old new P = new ≡ old
Marks (Err stop) old new P = new ≡ old

-- ---- devices that failed

-- how many reads have failed in a run that ended so: the last one, where it is the ending
abbrev pub RunReads : Result Ending Stop → (before after : ℕ) → Type 0
RunReads (Ok ending) before after = HasFailed (Some ending) before after
RunReads (Err stop) before after = (after ≡ before) ⊎ (after ≡ count_after before 1)

-- how many writes have failed: the one that ended it
abbrev pub RunWrites : {T : Type 0} → Result T Stop → (before after : ℕ) → Type 0
RunWrites (Ok done) before after = after ≡ before
RunWrites (Err Memory) before after = after ≡ before
RunWrites (Err NotPut) before after = after ≡ count_after before 1
