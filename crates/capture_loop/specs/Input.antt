-- What a run serves of its input.
-- Source: pcap-savefile(5) and draft-ietf-opsawg-pcapng, by the definition of an input.
use Rattle.std.specs.Prelude.{◌≡◌, false, ℕ, ◌<◌, ◌≤◌, ◌+◌, ◌⊎◌, List, [], ◌++◌, length, take, Option, Some, None, Result, Ok, Err}
use Rattle.capture_faults.specs.declared.fault.CaptureFault.TheVariants.{ShortHeader}
use Rattle.pcap_reader.specs.Reading.{Took, buffer_length}
use Rattle.capture_faults.specs.declared.any_fault.AnyFault.{AnyFault}
use Rattle.capture_faults.specs.declared.any_fault.AnyFault.TheVariants.{Capture}
use Rattle.pcapng_reader.specs.Input.{Input}
use Rattle.pcapng_reader.specs.Laws.{Reaches, StartsAt}
use Rattle.pcapng_reader.specs.Reading.{Form, OfBlocks, OfRecords, beyond}
use Rattle.capture_faults.specs.declared.ending.Ending.{Ending}
use Rattle.capture_faults.specs.declared.ending.Ending.TheVariants.{Done, ReadFault, Limit, Fault}
use Rattle.capture_loop.specs.declared.portions.Portions.{Portions}

-- how many packets a run serves at most
abbrev pub packet_limit : ℕ
packet_limit = 4000000

-- batches of so many packets, of no more than a run serves
abbrev pub in_batches : (size : ℕ) → Portions
in_batches size = record { batch = size; every = None; eager = false; limit = packet_limit }

-- the bytes are an input of these packets with this ending, and they are no more than so many
abbrev pub HoldsUpTo : (link : ℕ) (most : ℕ) → List ℕ → List (List ℕ) → Result ℕ AnyFault → Type 0
HoldsUpTo link most bytes packets ending = Input link bytes packets ending × (length packets ≤ most)

-- with no more than `serve` takes
abbrev pub HoldsPackets : ℕ → List ℕ → List (List ℕ) → Result ℕ AnyFault → Type 0
HoldsPackets link bytes packets ending = HoldsUpTo link packet_limit bytes packets ending

-- the bytes are an input of more packets than so many, and these are the first so many
abbrev pub HoldsMore : (link : ℕ) (most : ℕ) → List ℕ → List (List ℕ) → Type 0
HoldsMore link most bytes packets =
    (all : List (List ℕ)) × (ending : Result ℕ AnyFault) × Input link bytes all ending × (most < length all)
    × (packets ≡ take most all)

-- an input with these bytes gives so many packets, and the next one starts at that place
pub record GoesOnAt (link most place : ℕ) (bytes : List ℕ) : Type 0 where
  pub packets : List (List ℕ)
  pub count : length packets ≡ most
  pub next : StartsAt link bytes packets place

-- so it is of what was taken of a source, whose bytes were `first` and are `left`, where told
abbrev pub StopsAt : (link most : ℕ) → (first left : Option (List ℕ)) → (place : ℕ) → Type 0
StopsAt link most first left place = Took first left (GoesOnAt link most place)

-- What may have been passed beyond the packets that are served: of a savefile nothing, and of pcapng one packet,
-- by which it is known that there are more.
abbrev pub MayFollow : Form → List (List ℕ) → Type 0
MayFollow (OfRecords order) next = next ≡ []
MayFollow (OfBlocks state) next = length next ≤ 1

-- The bytes that were taken are no more than what a reader keeps beyond a place up to which the input
-- gives these packets, and what may follow them. Of an input whose head shows a fault, or that was not
-- read up to its head's end, it is a buffer.
abbrev pub AreFew : (link : ℕ) (bytes taken : List ℕ) → List (List ℕ) → Type 0
AreFew link bytes taken packets =
    ((packets ≡ []) × (length taken ≤ buffer_length))
    ⊎ ((next : List (List ℕ)) × (form : Form) × (place : ℕ) × MayFollow form next
    × Reaches link bytes (packets ++ next) form place × (length taken ≤ place + beyond form))

-- of the bytes some were taken, little more than the parts that give these packets, and the others are left
pub record TakesFew (link : ℕ) (bytes : List ℕ) (left : Option (List ℕ)) (packets : List (List ℕ)) : Type 0 where
  pub taken : List ℕ
  pub others : List ℕ
  pub parts : bytes ≡ taken ++ others
  pub rest : left ≡ Some others
  pub few : AreFew link bytes taken packets

-- An input that ends so has no fault, where more bytes may come: it ends behind its head, a
-- record or a block, or within one of these.
abbrev pub MayGoOn : Result ℕ AnyFault → Type 0
MayGoOn ending =
    ((rest : ℕ) × (ending ≡ Ok rest)) ⊎ ((have : ℕ) × (ending ≡ Err (Capture (ShortHeader have))))

-- of the bytes some were taken, in which no fault was met, and these packets are those that are whole in them
abbrev pub HoldsTaken : (link : ℕ) (most : ℕ) → List ℕ → Option (List ℕ) → List (List ℕ) → Type 0
HoldsTaken link most bytes left packets =
    (taken : List ℕ) × (others : List ℕ) × (ending : Result ℕ AnyFault) × (bytes ≡ taken ++ others)
    × (left ≡ Some others) × MayGoOn ending × HoldsUpTo link most taken packets ending

-- the bytes, of which these are left, hold these packets, where no more than so many are taken, and have this ending
abbrev pub HoldsUntil : (link : ℕ) (most : ℕ) → List ℕ → Option (List ℕ) → List (List ℕ) → Ending → Type 0
HoldsUntil link most bytes left packets (Done rest) = HoldsUpTo link most bytes packets (Ok rest) × (left ≡ Some [])
HoldsUntil link most bytes left packets (Fault fault) = HoldsUpTo link most bytes packets (Err fault)
HoldsUntil link most bytes left packets (Limit limit) = HoldsMore link most bytes packets × (limit ≡ most)
HoldsUntil link most bytes left packets ReadFault = HoldsTaken link most bytes left packets

-- Of an input with these bytes, of which these are left, these packets are served, so many at most, and so it ended.
pub record ServesUpTo (link : ℕ) (most : ℕ) (bytes : List ℕ) (left : Option (List ℕ)) (packets : List (List ℕ))
    (ending : Ending) :
    Type 0 where
  pub holds : HoldsUntil link most bytes left packets ending
  pub takes : TakesFew link bytes left packets

-- as many as `serve` takes
abbrev pub Serves : ℕ → List ℕ → Option (List ℕ) → List (List ℕ) → Ending → Type 0
Serves link bytes left packets ending = ServesUpTo link packet_limit bytes left packets ending

-- these are the first packets of an input with these bytes, no more than so many
abbrev pub IsFirstUpTo : (link : ℕ) (most : ℕ) → List ℕ → List (List ℕ) → Type 0
IsFirstUpTo link most bytes packets =
    (length packets ≤ most)
    × ((packets ≡ []) ⊎ ((form : Form) × (place : ℕ) × Reaches link bytes packets form place))

-- no more than `serve` takes
abbrev pub IsFirst : ℕ → List ℕ → List (List ℕ) → Type 0
IsFirst link bytes packets = IsFirstUpTo link packet_limit bytes packets

-- Of an input with these bytes, of which these are left, these packets have been read, no more than so many; how it
-- ends is not known yet.
pub record BeginsUpTo (link : ℕ) (most : ℕ) (bytes : List ℕ) (left : Option (List ℕ)) (packets : List (List ℕ)) :
    Type 0 where
  pub first : IsFirstUpTo link most bytes packets
  pub takes : TakesFew link bytes left packets

-- no more than `serve` takes
abbrev pub Begins : ℕ → List ℕ → Option (List ℕ) → List (List ℕ) → Type 0
Begins link bytes left packets = BeginsUpTo link packet_limit bytes left packets
